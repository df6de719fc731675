-- What the places tell of the next arrival, and the places behind it. The events `es` are newest first.
use Rattle.std.proofs.Common.{◌≡◌, ℕ, ◌+◌, ◌-◌, ◌<◌, ◌≤◌, nat_lt, nat_eq, Bool, true, false, ◌&&◌, ◌||◌, cond, List, [], ◌∷◌, ◌++◌, length, replicate, get_or, slice_index, set, refl, sym, ap, ◌∙◌, subst, arith, inl, inr, ◌⊎◌}
use Rattle.std.proofs.lemmas.Bool.{eq-eqb, ne_eqb, cases_lt, cases_eq, lt-ltb, le-ltb}
use Rattle.std.proofs.lemmas.List.{map-id, length-set, length-replicate, get_or-replicate, get_or_past, get_or-set_same, get_or-set_other}
use Rattle.std.proofs.lemmas.List.FromFn.{length-range_with_len, get_or-range_with_len, map-range_with_len_more}
use Rattle.std.specs.List.{range_with_len}
use Rattle.tao_base.specs.declared.calls.Op.{Op}
use Rattle.tao_base.specs.declared.calls.Op.TheVariants.{Read, Write, Pad}
use Rattle.tao_base.specs.declared.session.Event.{Event}
use Rattle.tao_base.specs.declared.session.Event.TheVariants.{Arrive, Done, Issue, Acked, Fault}
use Rattle.tao_base.specs.declared.storage.Bucket.{Bucket}
use Rattle.tao_base.specs.Limits.{session_limit}
use Rattle.tao_base.specs.Session.{Opening}
use Rattle.tao_model.specs.Events.{arrived, is_done, names, word_of, word_at, NamesBelow}
use Rattle.tao_model.specs.Requests.{real_now, next_word, word_for}
use Rattle.tao_sequence.specs.Release.{is_done_in}
use Rattle.tao_sequence.proofs.Flags.{raised}
use Rattle.tao_trace.specs.Places.{PlacesState, first_places, ArePlaces, AreFlags, is_free_in, is_real_in, place_in, with_arrival, with_done}
use Rattle.tao_trace.proofs.NextReal.{IsOwn, IsOfLast, next_tells}

-- ---- the next arrival

free_at : (p : PlacesState) (block place : ℕ) → slice_index p.next block ≡ place → is_free_in p block ≡ (nat_lt place (length p.next) || is_done_in p.done (place - length p.next))
free_at p block place is = ap (λ (x : ℕ). nat_lt x (length p.next) || is_done_in p.done (x - length p.next)) is

pub free_is : (o : Opening) (es : List Event) (p : PlacesState) (block : ℕ) → ArePlaces o es p → block < o.shape.n → is_free_in p block ≡ real_now es (Read block)
free_is o es p block a small = either (next_tells o es block small)
  where
    either : IsOwn o es block ⊎ ((last : ℕ) × IsOfLast o es block last) → is_free_in p block ≡ real_now es (Read block)
    either (inl own) = free_at p block block (a.each block small ∙ own.place)
        ∙ ap (λ b. b || is_done_in p.done (block - length p.next)) (lt-ltb block (length p.next) (let len = a.blocks in omega (arith, len, small))) ∙ sym own.first.real
    either (inr (last, of)) = free_at p block (o.shape.n + last) (a.each block small ∙ of.place)
        ∙ ap (λ (n : ℕ). nat_lt (o.shape.n + last) n || is_done_in p.done (o.shape.n + last - n)) a.blocks
        ∙ ap (λ b. b || is_done_in p.done (o.shape.n + last - o.shape.n)) (le-ltb (o.shape.n + last) o.shape.n (omega arith))
        ∙ ap (is_done_in p.done) (let rest : o.shape.n + last - o.shape.n ≡ last = omega arith in rest)
        ∙ a.dones.each last ∙ sym of.follows.real

pub real_is : (o : Opening) (es : List Event) (p : PlacesState) (op : Op) → ArePlaces o es p → NamesBelow o.shape.n op → is_real_in p op ≡ real_now es op
real_is o es p (Read id) a small = free_is o es p id a small
real_is o es p (Write id value) a small = free_is o es p id a small
real_is o es p Pad a small = refl

pub place_is : (o : Opening) (es : List Event) (p : PlacesState) (op : Op) (own : ℕ) → ArePlaces o es p → NamesBelow o.shape.n op → place_in p op own ≡ word_for (next_word o es) own (real_now es op) op
place_is o es p (Read id) own a small = ap (λ b. cond b (slice_index p.next id) own) (free_is o es p id a small) ∙ ap (λ (x : ℕ). cond (real_now es (Read id)) x own) (a.each id small)
place_is o es p (Write id value) own a small = ap (λ b. cond b (slice_index p.next id) own) (free_is o es p id a small) ∙ ap (λ (x : ℕ). cond (real_now es (Read id)) x own) (a.each id small)
place_is o es p Pad own a small = refl

-- ---- one event more

moved : (o : Opening) (es : List Event) (p : PlacesState) (client word : ℕ) (op : Op) (id own : ℕ) (real : Bool) → ArePlaces o es p → id < o.shape.n → own ≡ o.shape.n + arrived es
    → ((block : ℕ) → names block op ≡ nat_eq id block) → real_now es op ≡ real → ArePlaces o (Arrive client op word ∷ es) (cond real (record p { next = set p.next id own }) p)
moved o es p client word op id own true a small is named now = record {
  blocks = length-set p.next id own ∙ a.blocks;
  each = λ block low. each block low (cases_eq id block);
  dones = record { len = a.dones.len; each = a.dones.each };
}
  where
    each : (block : ℕ) → block < o.shape.n → (id ≡ block) ⊎ (id ≡ block → ⊥) → get_or (set p.next id own) block 0 ≡ next_word o (Arrive client op word ∷ es) block
    each block low (inl same) = subst (λ i. get_or (set p.next i own) block 0 ≡ own) (sym same) (get_or-set_same p.next block own 0 (let len = a.blocks in omega (arith, len, low)))
        ∙ is ∙ sym (rw (now, named block, eq-eqb id block same) refl)
    each block low (inr other) = get_or-set_other p.next id block own 0 (λ same. other (sym same))
        ∙ a.each block low ∙ sym (rw (now, named block, ne_eqb id block other) refl)
moved o es p client word op id own false a small is named now = record {
  blocks = a.blocks;
  each = λ block low. a.each block low ∙ sym (rw now refl);
  dones = record { len = a.dones.len; each = a.dones.each };
}

-- an arrival
pub arrive_places : (o : Opening) (es : List Event) (p : PlacesState) (client word : ℕ) (op : Op) (own : ℕ) → ArePlaces o es p → NamesBelow o.shape.n op → own ≡ o.shape.n + arrived es
    → ArePlaces o (Arrive client op word ∷ es) (with_arrival p op own)
arrive_places o es p client word (Read id) own a small is =
    subst (λ b. ArePlaces o (Arrive client (Read id) word ∷ es) (cond b (record p { next = set p.next id own }) p)) (sym (free_is o es p id a small))
    (moved o es p client word (Read id) id own (real_now es (Read id)) a small is (λ block. refl) refl)
arrive_places o es p client word (Write id value) own a small is =
    subst (λ b. ArePlaces o (Arrive client (Write id value) word ∷ es) (cond b (record p { next = set p.next id own }) p)) (sym (free_is o es p id a small))
    (moved o es p client word (Write id value) id own (real_now es (Read id)) a small is (λ block. refl) refl)
arrive_places o es p client word Pad own a small is = record { blocks = a.blocks; each = a.each; dones = record { len = a.dones.len; each = a.dones.each } }

-- the flags behind a Done
pub flags_raised : (o : Opening) (es : List Event) (arrival : ℕ) (taken : List Bucket) (flags : List Bool) → AreFlags o es flags → arrival < length flags → AreFlags o (Done arrival taken ∷ es) (set flags arrival true)
flags_raised o es arrival taken flags are low = record {
  len = length-set flags arrival true ∙ are.len;
  each = λ i. raised flags arrival i low ∙ ap (λ t. nat_eq arrival i || t) (are.each i);
}

-- a Done
pub done_places : (o : Opening) (es : List Event) (p : PlacesState) (arrival : ℕ) (taken : List Bucket) → ArePlaces o es p → arrival < length p.done → ArePlaces o (Done arrival taken ∷ es) (with_done p arrival)
done_places o es p arrival taken a low = record { blocks = a.blocks; each = a.each; dones = flags_raised o es arrival taken p.done a.dones low }

-- ---- before the first event

pub range_more : (n next : ℕ) → next ≡ n + 1 → range_with_len 0 next ≡ range_with_len 0 n ++ n ∷ []
range_more n next is =
    ap (range_with_len 0) is ∙ sym (map-id (range_with_len 0 (n + 1))) ∙ map-range_with_len_more (λ i. i) 0 n n (omega arith)
    ∙ ap (λ l. l ++ n ∷ []) (map-id (range_with_len 0 n))

pub places_first : (o : Opening) → ArePlaces o [] (first_places o.shape)
places_first o = record {
  blocks = length-range_with_len 0 o.shape.n;
  each = λ block low. get_or-range_with_len 0 o.shape.n block 0 low ∙ omega arith;
  dones = record { len = length-replicate (session_limit o.shape) false; each = λ i. either i (cases_lt i (session_limit o.shape)) };
}
  where
    either : (i : ℕ) → (i < session_limit o.shape) ⊎ (session_limit o.shape ≤ i) → get_or (replicate (session_limit o.shape) false) i false ≡ false
    either i (inl low) = get_or-replicate (session_limit o.shape) i false false low
    either i (inr high) = get_or_past (replicate (session_limit o.shape) false) i false (let len = length-replicate (session_limit o.shape) false in omega (arith, len, high))
