-- The loaded tree is fresh.
use Rattle.std.proofs.Common.{◌≡◌, ℕ, ◌<◌, ◌≤◌, Bool, true, false, ◌||◌, cond, List, length, All, Some, None, refl, sym, ap, ◌∙◌, subst, arith, inl, inr, ◌⊎◌, nat_eq, nat_lt}
use Rattle.std.proofs.lemmas.Bool.{ne_eqb, eq-eqb, eqb-true, lt-ltb, and_parts, and_from}
use Rattle.tao_base.specs.declared.storage.Entry.{Entry}
use Rattle.tao_base.specs.Limits.{Shape}
use Rattle.tao_base.specs.Array.{block_at}
use Rattle.tao_base.specs.Tree.{node_count, is_on_path}
use Rattle.tao_model.specs.Placement.{look, IsPlaced, may_load, block_below, with_stash, entries_at}
use Rattle.tao_model.specs.FreshCopy.{OneCopy, current_contents}
use Rattle.tao_contents.specs.WriteBackLaws.{IsWrittenOnce, IsUnwritten}
use Rattle.tao_contents.specs.OpeningLaws.{OpeningIsFresh, LoadWritesFresh}
use Rattle.tao_contents.proofs.Looks.{on_path_is_node}
use Rattle.tao_contents.proofs.MovedCopies.{fresh_alike}
use Rattle.tao_contents.proofs.WrittenBack.{on_path_within}

-- ---- a loaded block has one copy

module _ (s : Shape) (leaf : ℕ → ℕ) (blocks : List (List ℕ)) (contents : ℕ → List Entry) (p : IsPlaced (may_load s leaf) (node_count s.l) s.z (block_below s.n blocks) contents) (b : ℕ) where
  load_lies : (p.place b ≡ 0) ⊎ (is_on_path s.l (leaf b) (p.place b) ≡ true)
  load_lies = lies (p.allowed b)
    where
      lies : (p.place b ≡ 0) ⊎ ((p.place b ≤ node_count s.l) × (may_load s leaf b (p.place b) ≡ true)) → (p.place b ≡ 0) ⊎ (is_on_path s.l (leaf b) (p.place b) ≡ true)
      lies (inl stash) = inl stash
      lies (inr node) = inr (and_parts (nat_lt b s.n) (is_on_path s.l (leaf b) (p.place b)) node.1).1

  load_there : b < s.n → look b (contents (p.place b)) ≡ Some (block_at blocks b)
  load_there below = p.lies b (p.place b) ∙ ap (λ t. cond t (block_below s.n blocks b) None) (eq-eqb (p.place b) (p.place b) refl)
      ∙ ap (λ t. cond t (Some (block_at blocks b)) None) (lt-ltb b s.n below)

  load_alone : (w : ℕ) → (w ≡ p.place b → ⊥) → look b (contents w) ≡ None
  load_alone w other = p.lies b w ∙ ap (λ t. cond t (block_below s.n blocks b) None) (ne_eqb (p.place b) w (λ same. other (sym same)))

  load_one : b < s.n → OneCopy (is_on_path s.l (leaf b)) (block_at blocks b) (λ w. look b (contents w))
  load_one below = record { node = p.place b; lies = load_lies; there = load_there below; alone = load_alone }

opened : (own newest : ℕ → List Entry) (w : ℕ) → with_stash (own 0) newest w ≡ current_contents (λ v. false) own newest w
opened own newest w = either (nat_eq w 0) refl
  where
    either : (z : Bool) → nat_eq w 0 ≡ z → cond z (own 0) (newest w) ≡ cond (z || false) (own w) (newest w)
    either true stash = ap own (sym (eqb-true w 0 stash))
    either false node = refl

pub opening_is_fresh : OpeningIsFresh
opening_is_fresh s leaf blocks loaded own p =
    fresh_alike s leaf leaf (λ b. block_at blocks b) (λ b. block_at blocks b) (with_stash (own 0) (entries_at loaded)) (current_contents (λ w. false) own (entries_at loaded))
    (λ b below. refl) (λ b below. refl) (λ w b below. ap (look b) (opened own (entries_at loaded) w)) (λ b below. load_one s leaf blocks (with_stash (own 0) (entries_at loaded)) p b below)

pub load_writes_fresh : LoadWritesFresh
load_writes_fresh s leaf blocks loaded small load b below = either (load_lies s leaf blocks contents p b)
  where
    contents : ℕ → List Entry
    contents = with_stash load.0 (entries_at loaded)

    p : IsPlaced (may_load s leaf) (node_count s.l) s.z (block_below s.n blocks) contents
    p = load.1

    written : (w : ℕ) → 0 < w → contents w ≡ entries_at loaded w
    written w low = ap (λ t. cond t load.0 (entries_at loaded w)) (ne_eqb w 0 (λ same. omega arith))

    full : p.place b ≡ 0 → (w : ℕ) → is_on_path s.l (leaf b) w ≡ true → (length (entries_at loaded w) ≡ s.z) × All (λ entry. entry.id < b) (entries_at loaded w)
    full stash w on =
        let low = on_path_is_node s.l (leaf b) w on in
        let deeper : p.place b < w = omega arith in
        let P : List Entry → Type 0 = λ entries. (length entries ≡ s.z) × All (λ entry. entry.id < b) entries in
        subst P (written w low) (p.full b w (on_path_within s.l (leaf b) w (small b below) on)
        (and_from (nat_lt b s.n) (is_on_path s.l (leaf b) w) (lt-ltb b s.n below) on) deeper)

    either : (p.place b ≡ 0) ⊎ (is_on_path s.l (leaf b) (p.place b) ≡ true)
        → IsWrittenOnce (is_on_path s.l (leaf b)) b (block_at blocks b) (entries_at loaded) ⊎ IsUnwritten (is_on_path s.l (leaf b)) (λ w. true) s.z b (entries_at loaded)
    either (inl stash) = inr (record {
      nowhere = λ w low. ap (look b) (sym (written w low)) ∙ load_alone s leaf blocks contents p b w (λ same. omega arith);
      full = λ w on filled. full stash w on;
    })
    either (inr on) =
        let low = on_path_is_node s.l (leaf b) (p.place b) on in
        inl (record {
          node = p.place b;
          low = low;
          lies = on;
          there = ap (look b) (sym (written (p.place b) low)) ∙ load_there s leaf blocks contents p b below;
          alone = λ w node other. ap (look b) (sym (written w node)) ∙ load_alone s leaf blocks contents p b w other;
        })
