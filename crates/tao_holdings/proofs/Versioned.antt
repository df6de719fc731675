-- Versions of nodes, changed one after another.
use Rattle.std.proofs.Common.{◌≡◌, ℕ, ◌<◌, true, false, cond, nat_eq, List, length, get_or, set, take, is_some, sym, ap, ◌∙◌, subst, arith, inl, inr, ◌⊎◌, All}
use Rattle.std.specs.List.Sorted.{IsStrictlyIncreasing}
use Rattle.std.proofs.lemmas.Bool.{eq-eqb, ne_eqb, cases_eq}
use Rattle.std.proofs.lemmas.List.{get_or-set_same, get_or-set_other}
use Rattle.tao_model.proofs.FallingPaths.{has}
use Rattle.tao_subtree.specs.Residents.{SubtreeState, resident_at, version_at, HasPlaces}
use Rattle.tao_holdings.specs.Holding.{written_at}
use Rattle.tao_holdings.specs.Lists.{held_in}
use Rattle.tao_holdings.proofs.Swapped.{held_below, next_off}
use Rattle.tao_holdings.proofs.Exchanged.{distinct_rising}

pub set_at : (old new : SubtreeState) (v version : ℕ) → HasPlaces old → is_some (resident_at old v) ≡ true → new.versions ≡ set old.versions v version
    → (w : ℕ) → version_at new w ≡ cond (nat_eq v w) version (version_at old w)
set_at old new v version places held is w =
    let below = held_below old.residents v held in
    let len = places.residents in
    let len' = places.versions in
    ap (λ (vs : List ℕ). get_or vs w 0) is ∙ either (omega arith) (cases_eq w v)
  where
    either : v < length old.versions → (w ≡ v) ⊎ (w ≡ v → ⊥) → get_or (set old.versions v version) w 0 ≡ cond (nat_eq v w) version (get_or old.versions w 0)
    either below (inl same) =
        ap (λ k. get_or (set old.versions v version) k 0) same ∙ get_or-set_same old.versions v version 0 below
        ∙ sym (ap (λ t. cond t version (get_or old.versions w 0)) (eq-eqb v w (sym same)))
    either below (inr other) =
        get_or-set_other old.versions v w version 0 other ∙ sym (ap (λ t. cond t version (get_or old.versions w 0)) (ne_eqb v w (λ same. other (sym same))))

-- the first d nodes have the version
pub record Versioning (nodes : List ℕ) (version : ℕ) (old now : SubtreeState) (d : ℕ) : Type 0 where
  pub versions : (w : ℕ) → version_at now w ≡ written_at (take d nodes) version (version_at old) w
  pub others : now ≡ record old { versions = now.versions }

-- the next node is held, and hasn't the version yet
pub next_newer : (nodes : List ℕ) (version : ℕ) (old now : SubtreeState) (d v : ℕ) → IsStrictlyIncreasing nodes → d < length nodes → v ≡ get_or nodes d 0
    → All (λ node. held_in old.residents node ≡ true) nodes → All (λ node. version_at old node < version) nodes → Versioning nodes version old now d
    → (is_some (resident_at now v) ≡ true) × (version_at now v < version)
next_newer nodes version old now d v rising within is held newer s = (
  ap (λ (st : SubtreeState). is_some (resident_at st v)) s.others ∙ subst (λ n. held_in old.residents n ≡ true) (sym is) (held d 0 within),
  subst (λ n. n < version) (sym (s.versions v ∙ ap (λ t. cond t version (version_at old v)) off)) (subst (λ n. version_at old n < version) (sym is) (newer d 0 within)),
)
  where
    off : has v (take d nodes) ≡ false
    off = ap (λ n. has n (take d nodes)) is ∙ next_off nodes d (distinct_rising nodes rising) within
