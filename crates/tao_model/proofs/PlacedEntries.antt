-- A placement has only gathered blocks at its nodes.
use Rattle.std.proofs.Common.{◌≡◌, ℕ, ◌+◌, Bool, true, false, cond, List, [], ◌∷◌, All, Option, Some, None, refl, sym, ◌∙◌, arith, inl, inr, ◌⊎◌, nat_eq}
use Rattle.std.proofs.lemmas.Bool.{ne_eqb, cases_eq}
use Rattle.std.proofs.lemmas.Option.{none-some}
use Rattle.std.proofs.lemmas.List.Elements.{All-nil, All-cons, All-weaker}
use Rattle.tao_base.specs.declared.storage.Entry.{Entry}
use Rattle.tao_base.specs.Buckets.{Rises}
use Rattle.tao_model.specs.Placement.{look, IsPlaced}
use Rattle.tao_model.specs.Evictions.{EntriesAreGathered}
use Rattle.tao_model.proofs.RisingEntries.{look_here, look_on, look_low, same_entries}

pub all_found : (k : ℕ) (es : List Entry) → Rises k es → All (λ entry. look entry.id es ≡ Some entry.value) es
all_found k [] r = All-nil (λ entry. look entry.id [] ≡ Some entry.value)
all_found k (e ∷ es) r = All-cons (λ entry. look entry.id (e ∷ es) ≡ Some entry.value) e es (look_here e es e.id refl)
    (All-weaker (λ entry. look entry.id es ≡ Some entry.value) (λ entry. look entry.id (e ∷ es) ≡ Some entry.value)
    (λ entry found. further entry found (cases_eq e.id entry.id)) es (all_found (e.id + 1) es r.1))
  where
    further : (entry : Entry) → look entry.id es ≡ Some entry.value → (e.id ≡ entry.id) ⊎ (e.id ≡ entry.id → ⊥) → look entry.id (e ∷ es) ≡ Some entry.value
    further entry found (inr other) = look_on e es entry.id other ∙ found
    further entry found (inl same) = absurd (none-some entry.value (sym (look_low (e.id + 1) entry.id es r.1 (omega arith)) ∙ found))

pub cond_some_is : {X : Type 0} (t : Bool) (g : Option X) (x : X) → cond t g None ≡ Some x → g ≡ Some x
cond_some_is true g x h = h
cond_some_is false g x h = absurd (none-some x h)

pub entries_are_gathered : EntriesAreGathered
entries_are_gathered may m z gathered contents p w =
    All-weaker (λ entry. look entry.id (contents w) ≡ Some entry.value) (λ entry. gathered entry.id ≡ Some entry.value)
    (λ entry found. cond_some_is (nat_eq (p.place entry.id) w) (gathered entry.id) entry.value (sym (p.lies entry.id w) ∙ found))
    (contents w) (all_found 0 (contents w) (p.rises w))

-- a node that no block lies in has no entry
pub none_lie : (may : ℕ → ℕ → Bool) (m z : ℕ) (gathered : ℕ → Option (List ℕ)) (contents : ℕ → List Entry) (p : IsPlaced may m z gathered contents) (w : ℕ)
    → ((b : ℕ) → p.place b ≡ w → ⊥) → contents w ≡ []
none_lie may m z gathered contents p w off = same_entries 0 (contents w) [] (p.rises w) tt (λ b. p.lies b w ∙ rw (ne_eqb (p.place b) w (off b)) refl)
