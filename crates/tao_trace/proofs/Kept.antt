-- What the tables tell of the next arrival. The tables fit the events before the place.
use Rattle.std.proofs.Math.Nat.{mul-le-mul}
use Rattle.std.proofs.Math.Pow.{pow_mono}
use Rattle.std.proofs.Common.{◌≡◌, ℕ, ◌*◌, ◌-◌, ◌^◌, ◌<◌, ◌≤◌, Bool, true, false, cond, List, [], length, get_or, slice_index, sym, ap, ◌∙◌, subst, arith, inl, inr, ◌⊎◌}
use Rattle.tao_base.specs.declared.calls.Op.{Op}
use Rattle.tao_base.specs.declared.calls.Op.TheVariants.{Read, Write, Pad}
use Rattle.tao_base.specs.declared.session.Event.{Event}
use Rattle.tao_base.specs.Array.{block_at}
use Rattle.tao_base.specs.Limits.{IsShape}
use Rattle.tao_base.specs.Session.{Opening, History}
use Rattle.tao_model.specs.Events.{arrived, word_at, NamesBelow}
use Rattle.tao_model.specs.Replies.{array_now}
use Rattle.tao_model.specs.Requests.{real_now, next_word}
use Rattle.tao_model.specs.Lawful.{IsOpening, IsInRange}
use Rattle.tao_model.proofs.LawfulToWhole.{follows_opening, arrived_within}
use Rattle.tao_trace.specs.Printing.{PrinterState, events_before}
use Rattle.tao_trace.specs.Places.{PlacesState, is_free_in, is_real_in}
use Rattle.tao_trace.specs.Tables.{word_fetched, IsTold, AreTables, Fit}
use Rattle.tao_trace.specs.declared.tables.Told.{Told}
use Rattle.tao_trace.proofs.NextReal.{IsOwn, IsOfLast, next_tells}
use Rattle.tao_trace.proofs.NextPlaces.{free_is, real_is}
use Rattle.tao_trace.proofs.Steps.{names_below}
use Rattle.tao_trace.proofs.Following.{front_follows, array_len}

-- the invariant, in words of the model's value
pub fit_of : (s t : PrinterState) (told : List Told) (values : List (List ℕ)) (places : PlacesState) → s ≡ t → Fit s.history s.place told values places → Fit t.history t.place told values places
fit_of s t told values places is f = subst (λ x. Fit x.history x.place told values places) is f

pub row_at : (o : Opening) (es : List Event) (told : List Told) (values : List (List ℕ)) (places : PlacesState) → AreTables o es told values places
    → (i : ℕ) (row : Told) → i < length told → row ≡ get_or told i row → IsTold o es i row
row_at o es told values places t i row h at = subst (IsTold o es i) (sym at) (t.each i row h)

-- the row of an arrival
pub told_at : (h : History) (place i : ℕ) (told : List Told) (values : List (List ℕ)) (places : PlacesState) (row : Told) → Fit h place told values places
    → i < arrived (events_before h place) → row ≡ get_or told i row → IsTold h.opening (events_before h place) i row
told_at h place i told values places row f low at = row_at h.opening (events_before h place) told values places f.tables i row (let len = f.tables.arrivals in omega (arith, len, low)) at

pub opens : (h : History) (place : ℕ) (told : List Told) (values : List (List ℕ)) (places : PlacesState) → Fit h place told values places → IsOpening h.opening
opens h place told values places f = follows_opening h.opening (events_before h place) (front_follows h place f.follows)

-- whether the next arrival on a block is real
pub free_kept : (h : History) (place : ℕ) (told : List Told) (values : List (List ℕ)) (places : PlacesState) → Fit h place told values places
    → (block : ℕ) → block < h.opening.shape.n → is_free_in places block ≡ real_now (events_before h place) (Read block)
free_kept h place told values places f block small = free_is h.opening (events_before h place) places block f.tables.tape small

pub real_kept : (h : History) (place : ℕ) (told : List Told) (values : List (List ℕ)) (places : PlacesState) → Fit h place told values places
    → (op : Op) → IsInRange h.opening.shape op → is_real_in places op ≡ real_now (events_before h place) op
real_kept h place told values places f op r = real_is h.opening (events_before h place) places op f.tables.tape (names_below h.opening op r)

-- the numbers of blocks and of arrivals
pub record AreFew (h : History) (place : ℕ) (told : List Told) : Type 0 where
  pub blocks : h.opening.shape.n ≤ 524288
  pub arrivals : length told ≤ 65536
  pub told_all : length told ≡ arrived (events_before h place)

pub are_few : (h : History) (place : ℕ) (told : List Told) (values : List (List ℕ)) (places : PlacesState) → Fit h place told values places → AreFew h place told
are_few h place told values places f = record {
  blocks = let n = shape.count_high in let z = shape.bucket_high in
      let leaves : 2 ^ h.opening.shape.l ≤ 2 ^ 16 = pow_mono {i = h.opening.shape.l} {j = 16} shape.height_high in
      let all = mul-le-mul z leaves in
      omega (arith, n, leaves, all);
  arrivals = let len = f.tables.arrivals in let within = arrived_within h.opening (events_before h place) (front_follows h place f.follows) in omega (arith, len, within);
  told_all = f.tables.arrivals;
}
  where
    shape : IsShape h.opening.shape
    shape = (opens h place told values places f).shape

-- ---- the word that the next real arrival on a block uses

-- how its place was read: `words` are the first words of all blocks
pub record ReadsNext (h : History) (places : PlacesState) (block next : ℕ) (words : List ℕ) : Type 0 where
  pub small : block < h.opening.shape.n
  pub at : next ≡ slice_index places.next block
  pub first : words ≡ h.opening.words

count_is : (h : History) (place : ℕ) (told : List Told) (values : List (List ℕ)) (places : PlacesState) → Fit h place told values places
    → (words : List ℕ) → words ≡ h.opening.words → length words ≡ h.opening.shape.n
count_is h place told values places f words first = ap length first ∙ (opens h place told values places f).words

pub row_within : (h : History) (place : ℕ) (told : List Told) (values : List (List ℕ)) (places : PlacesState) → Fit h place told values places
    → (block next : ℕ) (words : List ℕ) → ReadsNext h places block next words → length words ≤ next → next - length words < length told
row_within h place told values places f block next words r past = either (next_tells h.opening (events_before h place) block r.small)
  where
    either : IsOwn h.opening (events_before h place) block ⊎ ((last : ℕ) × IsOfLast h.opening (events_before h place) block last) → next - length words < length told
    either (inl own) =
        let is = r.at ∙ f.tables.tape.each block r.small ∙ own.place in
        let count = count_is h place told values places f words r.first in
        let small = r.small in
        absurd (omega (arith, is, small, past, count))
    either (inr (last, of)) =
        let is = r.at ∙ f.tables.tape.each block r.small ∙ of.place in
        let count = count_is h place told values places f words r.first in
        let within = of.follows.within in
        let len = f.tables.arrivals in
        omega (arith, is, within, len, count)

pub word_behind : (h : History) (place : ℕ) (told : List Told) (values : List (List ℕ)) (places : PlacesState) → Fit h place told values places
    → (block next : ℕ) (words : List ℕ) (row : Told) → ReadsNext h places block next words → length words ≤ next → row ≡ get_or told (next - length words) row
    → row.word ≡ word_at h.opening (events_before h place) (next_word h.opening (events_before h place) block)
word_behind h place told values places f block next words row r past there = either (next_tells h.opening (events_before h place) block r.small)
  where
    either : IsOwn h.opening (events_before h place) block ⊎ ((last : ℕ) × IsOfLast h.opening (events_before h place) block last)
        → row.word ≡ word_at h.opening (events_before h place) (next_word h.opening (events_before h place) block)
    either (inl own) =
        let is = r.at ∙ f.tables.tape.each block r.small ∙ own.place in
        let count = count_is h place told values places f words r.first in
        let small = r.small in
        absurd (omega (arith, is, small, past, count))
    either (inr (last, of)) =
        let is = r.at ∙ f.tables.tape.each block r.small ∙ of.place in
        let count = count_is h place told values places f words r.first in
        let this : next - length words ≡ last = omega (arith, is, count) in
        let within = of.follows.within in
        let len = f.tables.arrivals in
        (row_at h.opening (events_before h place) told values places f.tables last row (omega (arith, within, len)) (subst (λ i. row ≡ get_or told i row) this there)).word ∙ sym of.follows.word

pub word_before : (h : History) (place : ℕ) (told : List Told) (values : List (List ℕ)) (places : PlacesState) → Fit h place told values places
    → (block next : ℕ) (words : List ℕ) → ReadsNext h places block next words → next < length words
    → slice_index words next ≡ word_at h.opening (events_before h place) (next_word h.opening (events_before h place) block)
word_before h place told values places f block next words r low = either (next_tells h.opening (events_before h place) block r.small)
  where
    either : IsOwn h.opening (events_before h place) block ⊎ ((last : ℕ) × IsOfLast h.opening (events_before h place) block last)
        → slice_index words next ≡ word_at h.opening (events_before h place) (next_word h.opening (events_before h place) block)
    either (inl own) = ap (λ (l : List ℕ). slice_index l next) r.first ∙ ap (slice_index h.opening.words) (r.at ∙ f.tables.tape.each block r.small ∙ own.place) ∙ sym own.first.word
    either (inr (last, of)) =
        let is = r.at ∙ f.tables.tape.each block r.small ∙ of.place in
        let count = count_is h place told values places f words r.first in
        absurd (omega (arith, is, low, count))

-- the word of an arrival
pub word_real : (h : History) (place : ℕ) (told : List Told) (values : List (List ℕ)) (places : PlacesState) → Fit h place told values places
    → (block word next : ℕ) (free : Bool) → block < h.opening.shape.n → free ≡ is_free_in places block → free ≡ true
    → next ≡ word_at h.opening (events_before h place) (next_word h.opening (events_before h place) block) → next ≡ word_fetched h.opening (events_before h place) (Read block) word
word_real h place told values places f block word next free small is real at =
    at ∙ ap (λ b. cond b (word_at h.opening (events_before h place) (next_word h.opening (events_before h place) block)) word)
    (sym real ∙ is ∙ free_kept h place told values places f block small)

pub word_own : (h : History) (place : ℕ) (told : List Told) (values : List (List ℕ)) (places : PlacesState) → Fit h place told values places
    → (block word : ℕ) (free : Bool) → block < h.opening.shape.n → free ≡ is_free_in places block → free ≡ false → word ≡ word_fetched h.opening (events_before h place) (Read block) word
word_own h place told values places f block word free small is fake =
    ap (λ b. cond b (word_at h.opening (events_before h place) (next_word h.opening (events_before h place) block)) word)
    (sym fake ∙ is ∙ free_kept h place told values places f block small)

-- ---- the value of a block

pub value_within : (h : History) (place : ℕ) (told : List Told) (values : List (List ℕ)) (places : PlacesState) → Fit h place told values places
    → (block : ℕ) → block < h.opening.shape.n → block < length values
value_within h place told values places f block small =
    let len = ap length f.tables.array ∙ array_len h.opening (events_before h place) in
    let blocks = (opens h place told values places f).blocks in
    omega (arith, len, blocks, small)

pub value_kept : (h : History) (place : ℕ) (told : List Told) (values : List (List ℕ)) (places : PlacesState) → Fit h place told values places
    → (block : ℕ) → get_or values block [] ≡ block_at (array_now h.opening (events_before h place)) block
value_kept h place told values places f block = ap (λ (l : List (List ℕ)). get_or l block []) f.tables.array

pub names_kept : (h : History) (place : ℕ) (told : List Told) (values : List (List ℕ)) (places : PlacesState) → Fit h place told values places
    → (op : Op) → IsInRange h.opening.shape op → NamesBelow (length values) op
names_kept h place told values places f (Read id) r = value_within h place told values places f id r
names_kept h place told values places f (Write id value) r = value_within h place told values places f id r.0
names_kept h place told values places f Pad r = r
