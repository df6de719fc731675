-- There is exactly one load.
use Rattle.std.proofs.Common.{◌≡◌, ℕ, zero, suc, ◌+◌, ◌<◌, ◌≤◌, true, ◌&&◌, not, cond, List, [], map, Some, None, refl, sym, ap, ◌∙◌, arith, inl, inr, ◌⊎◌, nat_lt}
use Rattle.std.specs.List.{range_with_len}
use Rattle.std.proofs.lemmas.Bool.{ne_eqb, eq-eqb, cases_lt, cases_eq, cases_order, and_parts, lt-ltb, le-ltb}
use Rattle.tao_base.specs.declared.storage.Entry.{Entry}
use Rattle.tao_base.specs.Limits.{Shape}
use Rattle.tao_base.specs.Array.{block_at}
use Rattle.tao_base.specs.Tree.{node_count, is_on_path}
use Rattle.tao_base.specs.Buckets.{Rises}
use Rattle.tao_model.specs.Placement.{look, IsPlaced, may_load, block_below, with_stash, entries_at}
use Rattle.tao_model.specs.Evictions.{LoadGathers, LoadIsPlaced, OneLoad, block_entry, block_entries, load_contents, first_bucket, load_buckets}
use Rattle.tao_model.proofs.OnePlacement.{one_placement, placed_alike}
use Rattle.tao_model.proofs.OnePass.{pass_places}
use Rattle.tao_model.proofs.PlacedEntries.{none_lie}

listed_look : (blocks : List (List ℕ)) (n a b : ℕ) → a ≤ b → look b (map (block_entry blocks) (range_with_len a n)) ≡ cond (nat_lt b (a + n)) (Some (block_at blocks b)) None
listed_look blocks zero a b h = rw (le-ltb b (a + 0) (omega arith)) refl
listed_look blocks (suc n) a b h = either (cases_eq a b) (λ k. listed_look blocks n (a + 1) b k)
  where
    either : (a ≡ b) ⊎ (a ≡ b → ⊥) → (a + 1 ≤ b → look b (map (block_entry blocks) (range_with_len (a + 1) n)) ≡ cond (nat_lt b (a + 1 + n)) (Some (block_at blocks b)) None)
        → look b (map (block_entry blocks) (range_with_len a (suc n))) ≡ cond (nat_lt b (a + suc n)) (Some (block_at blocks b)) None
    either (inl same) ih = rw (eq-eqb a b same, lt-ltb b (a + suc n) (omega arith)) (ap (λ c. Some (block_at blocks c)) same)
    either (inr other) ih = rw (ne_eqb a b other) (ih (omega (arith, other)) ∙ ap (λ k. cond (nat_lt b k) (Some (block_at blocks b)) None) (omega arith))

listed_rises : (blocks : List (List ℕ)) (n a : ℕ) → Rises a (map (block_entry blocks) (range_with_len a n))
listed_rises blocks zero a = tt
listed_rises blocks (suc n) a = (omega arith, listed_rises blocks n (a + 1))

pub load_gathers : LoadGathers
load_gathers s leaf blocks = record {
  rises = listed_rises blocks s.n 0;
  looks = λ b. listed_look blocks s.n 0 b (omega arith) ∙ ap (λ k. cond (nat_lt b k) (Some (block_at blocks b)) None) (omega arith);
  among = λ b w may_lie. rw ((and_parts (nat_lt b s.n) (is_on_path s.l (leaf b) w) may_lie).0) refl;
}

pub load_pass : (s : Shape) (leaf : ℕ → ℕ) (blocks : List (List ℕ)) → IsPlaced (may_load s leaf) (node_count s.l) s.z (block_below s.n blocks) (load_contents s leaf blocks)
load_pass s leaf blocks = pass_places (may_load s leaf) (node_count s.l) s.z (block_below s.n blocks) (block_entries s.n blocks) (load_gathers s leaf blocks)

-- the entries of node w in the buckets listed for a range of nodes
listed_entries : (contents : ℕ → List Entry) (n a w : ℕ) → entries_at (map (first_bucket contents) (range_with_len a n)) w ≡ cond (not (nat_lt w a) && nat_lt w (a + n)) (contents w) []
listed_entries contents zero a w = either (cases_lt w a)
  where
    either : (w < a) ⊎ (a ≤ w) → [] ≡ cond (not (nat_lt w a) && nat_lt w (a + 0)) (contents w) []
    either (inl low) = rw (lt-ltb w a low) refl
    either (inr high) = rw (le-ltb w a high, le-ltb w (a + 0) (omega arith)) refl
listed_entries contents (suc n) a w = either (cases_order a w) (listed_entries contents n (a + 1) w)
  where
    either : (a ≡ w) ⊎ ((a < w) ⊎ (w < a))
        → entries_at (map (first_bucket contents) (range_with_len (a + 1) n)) w ≡ cond (not (nat_lt w (a + 1)) && nat_lt w (a + 1 + n)) (contents w) []
        → entries_at (map (first_bucket contents) (range_with_len a (suc n))) w ≡ cond (not (nat_lt w a) && nat_lt w (a + suc n)) (contents w) []
    either (inl same) ih = rw (eq-eqb a w same, le-ltb w a (omega arith), lt-ltb w (a + suc n) (omega arith)) (ap contents same)
    either (inr (inr low)) ih = rw (ne_eqb a w (λ same. omega arith), lt-ltb w a low) (ih ∙ rw (lt-ltb w (a + 1) (omega arith)) refl)
    either (inr (inl high)) ih = rw (ne_eqb a w (λ same. omega arith), le-ltb w a (omega arith))
        (ih ∙ rw (le-ltb w (a + 1) (omega arith)) (ap (λ k. cond (nat_lt w k) (contents w) []) (omega arith)))

pub load_is_placed : LoadIsPlaced
load_is_placed s leaf blocks = (
  load_contents s leaf blocks 0,
  placed_alike (may_load s leaf) (may_load s leaf) (node_count s.l) s.z (block_below s.n blocks) (block_below s.n blocks) (load_contents s leaf blocks)
      (with_stash (load_contents s leaf blocks 0) (entries_at (load_buckets s (load_contents s leaf blocks)))) (λ b w. refl) (λ b. refl)
      (λ w. either w (cases_eq w 0)) p,
)
  where
    p : IsPlaced (may_load s leaf) (node_count s.l) s.z (block_below s.n blocks) (load_contents s leaf blocks)
    p = load_pass s leaf blocks

    not_past : (w b : ℕ) → node_count s.l < w → p.place b ≡ w → ⊥
    not_past w b high at = place (p.allowed b)
      where
        place : (p.place b ≡ 0) ⊎ ((p.place b ≤ node_count s.l) × (may_load s leaf b (p.place b) ≡ true)) → ⊥
        place (inl stash) = omega arith
        place (inr node) = let low = node.0 in omega arith

    within : (w : ℕ) → (w ≡ 0 → ⊥) → (node_count s.l < w) ⊎ (w ≤ node_count s.l)
        → load_contents s leaf blocks w ≡ entries_at (load_buckets s (load_contents s leaf blocks)) w
    within w node (inl high) = none_lie (may_load s leaf) (node_count s.l) s.z (block_below s.n blocks) (load_contents s leaf blocks) p w (λ b at. not_past w b high at)
        ∙ sym (listed_entries (load_contents s leaf blocks) (node_count s.l) 1 w ∙ rw (le-ltb w 1 (omega (arith, node)), le-ltb w (1 + node_count s.l) (omega arith)) refl)
    within w node (inr low) =
        sym (listed_entries (load_contents s leaf blocks) (node_count s.l) 1 w ∙ rw (le-ltb w 1 (omega (arith, node)), lt-ltb w (1 + node_count s.l) (omega arith)) refl)

    either : (w : ℕ) → (w ≡ 0) ⊎ (w ≡ 0 → ⊥)
        → load_contents s leaf blocks w ≡ with_stash (load_contents s leaf blocks 0) (entries_at (load_buckets s (load_contents s leaf blocks))) w
    either w (inl stash) = rw (eq-eqb w 0 stash) (ap (load_contents s leaf blocks) stash)
    either w (inr node) = rw (ne_eqb w 0 node) (within w node (cases_lt (node_count s.l) w))

pub one_load : OneLoad
one_load s leaf blocks loaded (stash, q) w node =
    sym (rw (ne_eqb w 0 (λ same. omega arith)) refl)
    ∙ one_placement (may_load s leaf) (node_count s.l) s.z (block_below s.n blocks) (with_stash stash (entries_at loaded)) (load_contents s leaf blocks) q (load_pass s leaf blocks) w
