-- Rows and positions under one more event. The events `es` are newest first.
use Rattle.std.proofs.Common.{◌≡◌, ℕ, ◌+◌, ◌<◌, ◌≤◌, Bool, true, false, ◌&&◌, cond, List, [], ◌∷◌, ◌++◌, reverse, length, set, get_or, refl, sym, ap, ◌∙◌, subst, arith, inl, inr, ◌⊎◌}
use Rattle.std.specs.Prelude.{slice_index}
use Rattle.std.proofs.lemmas.Bool.{cases_lt, cases_eq, eq-eqb, lt-ltb, true≢false, false_from_ne_true}
use Rattle.std.proofs.lemmas.List.{length-set, get_or-set_same, get_or-set_other}
use Rattle.tao_base.specs.declared.calls.Op.{Op}
use Rattle.tao_base.specs.declared.calls.Op.TheVariants.{Read, Write, Pad}
use Rattle.tao_base.specs.declared.session.Event.{Event}
use Rattle.tao_base.specs.declared.session.Event.TheVariants.{Arrive, Done, Issue, Acked, Fault}
use Rattle.tao_base.specs.declared.storage.Bucket.{Bucket}
use Rattle.tao_base.specs.Session.{Opening}
use Rattle.tao_base.specs.Tree.{leaf_of}
use Rattle.tao_model.specs.Events.{arrived, is_on, word_of, word_at}
use Rattle.tao_model.specs.Requests.{is_real, real_now, word_for, fetched_leaf, position, position_word}
use Rattle.tao_model.specs.Lawful.{FollowsLawfully, IsInRange}
use Rattle.tao_model.proofs.Stays.{newest_first, word_stays, place_stays}
use Rattle.tao_model.proofs.Places.{leaf_stays_later, position_below}
use Rattle.tao_model.specs.OneMore.{with_one_more, AfterArrive}
use Rattle.tao_model.proofs.OneMoreEvent.{done_word, one_more_arrive}
use Rattle.tao_laws.proofs.HandedWords.{was_quiet, leaf_is_position}
use Rattle.tao_held.specs.Held.{block_on}
use Rattle.tao_held.proofs.Blocks.{real_on, on_is}
use Rattle.tao_tables.specs.Rows.{TellsRows, AddsRow, RowsAreTold, RowsAtStart, ArrivalLeaf, ArrivalFetches, NewArrivalsLeaf}
use Rattle.tao_tables.specs.Positions.{TellsPositions, PositionsAreTold, PositionsAtStart}

-- ---- rows

row_added : (o : Opening) (es : List Event) (client : ℕ) (op : Op) (own count : ℕ) (leaf word leaf' word' : ℕ → ℕ) → FollowsLawfully o es → TellsRows o es count leaf word
    → AddsRow count leaf word leaf' word' (fetched_leaf o (Arrive client op own ∷ es) count) own → TellsRows o (Arrive client op own ∷ es) (count + 1) leaf' word'
row_added o es client op own count leaf word leaf' word' f tells adds = record {
  counts = ap (λ n. n + 1) tells.counts;
  leaves = λ i low. leaves i low (cases_lt i count);
  words = λ i low. words i low (cases_lt i count);
}
  where
    counts : count ≡ arrived es
    counts = tells.counts

    leaves : (i : ℕ) → i < count + 1 → (i < count) ⊎ (count ≤ i) → leaf' i ≡ fetched_leaf o (Arrive client op own ∷ es) i
    leaves i low (inl old) = adds.leaves i old ∙ tells.leaves i old ∙ sym (leaf_stays_later o (Arrive client op own ∷ []) es i f (omega (arith, counts)))
    leaves i low (inr new) = let same : i ≡ count = omega arith in ap leaf' same ∙ adds.leaf_new ∙ ap (fetched_leaf o (Arrive client op own ∷ es)) (sym same)

    words : (i : ℕ) → i < count + 1 → (i < count) ⊎ (count ≤ i) → word' i ≡ word_of (Arrive client op own ∷ es) i
    words i low (inl old) = adds.words i old ∙ tells.words i old ∙ sym (word_stays es (Arrive client op own) i (omega (arith, counts)))
    words i low (inr new) =
        let same : i ≡ count = omega arith in
        ap word' same ∙ adds.word_new ∙ sym (ap (λ t. cond t own (word_of es i)) (eq-eqb i (arrived es) (same ∙ counts)))

pub rows_are_told : RowsAreTold
rows_are_told o events count leaf word tells = record {
  arrive = λ client op own leaf' word'. rw (newest_first events (Arrive client op own)) (λ f adds. row_added o (reverse events) client op own count leaf word leaf' word' f.0 tells adds);
  done = λ i taken. rw (newest_first events (Done i taken)) (record { counts = tells.counts; leaves = tells.leaves; words = tells.words });
  issue = λ version nonce buckets. rw (newest_first events (Issue version nonce buckets)) (record { counts = tells.counts; leaves = tells.leaves; words = tells.words });
  acked = λ version. rw (newest_first events (Acked version)) (record { counts = tells.counts; leaves = tells.leaves; words = tells.words });
  fault = λ cause. rw (newest_first events (Fault cause)) (record { counts = tells.counts; leaves = tells.leaves; words = tells.words });
}

pub rows_at_start : RowsAtStart
rows_at_start o leaf word = record { counts = refl; leaves = λ i low. absurd (omega arith); words = λ i low. absurd (omega arith) }

-- ---- positions

word_moved : (o : Opening) (es : List Event) (i : ℕ) (taken : List Bucket) (words : List ℕ) → FollowsLawfully o (Done i taken ∷ es) → TellsPositions o es words
    → (real : Bool) → is_real es i ≡ real → TellsPositions o (Done i taken ∷ es) (cond real (set words (block_on es i) (word_of es i)) words)
word_moved o es i taken words f tells false fake = record {
  len = tells.len;
  each = λ b low. tells.each b low ∙ sym (ap (λ t. word_at o es (cond (t && is_on es i b) (o.shape.n + i) (position_word o es b))) fake);
}
word_moved o es i taken words f tells true real = record {
  len = length-set words (block_on es i) (word_of es i) ∙ tells.len;
  each = λ b low. either b low (cases_eq b (block_on es i));
}
  where
    there : i < arrived es
    there = f.2.1.arrived

    len : length words ≡ o.shape.n
    len = tells.len

    now_at : (b : ℕ) (on : Bool) → is_on es i b ≡ on → word_at o es (position_word o (Done i taken ∷ es) b) ≡ word_at o es (cond on (o.shape.n + i) (position_word o es b))
    now_at b on is = ap (λ t. word_at o es (cond (t && is_on es i b) (o.shape.n + i) (position_word o es b))) real
        ∙ ap (λ t. word_at o es (cond t (o.shape.n + i) (position_word o es b))) is

    either : (b : ℕ) → b < o.shape.n → (b ≡ block_on es i) ⊎ (b ≡ block_on es i → ⊥)
        → get_or (set words (block_on es i) (word_of es i)) b 0 ≡ word_at o es (position_word o (Done i taken ∷ es) b)
    either b low (inl same) =
        ap (λ c. get_or (set words (block_on es i) (word_of es i)) c 0) same
        ∙ get_or-set_same words (block_on es i) (word_of es i) 0 (omega (arith, len, same))
        ∙ sym (done_word o es i) ∙ sym (now_at b true (ap (is_on es i) same ∙ real_on es i there real))
    either b low (inr other) =
        get_or-set_other words (block_on es i) b (word_of es i) 0 other ∙ tells.each b low
        ∙ sym (now_at b false (false_from_ne_true (is_on es i b) (λ on. other (sym (on_is es i b there on)))))

pub positions_are_told : PositionsAreTold
positions_are_told o events words tells = record {
  leaves = λ b low. ap (leaf_of o.shape.l) (tells.each b low);
  arrive = λ client op word. rw (newest_first events (Arrive client op word)) (λ f. record {
    len = tells.len;
    each = λ b low. tells.each b low
        ∙ sym (place_stays o (reverse events) (Arrive client op word) (position_word o (reverse events) b) (position_below o (reverse events) b f.0 low));
  });
  done = λ i taken. rw (newest_first events (Done i taken)) (λ f. word_moved o (reverse events) i taken words f tells (is_real (reverse events) i) refl);
  issue = λ version nonce buckets. rw (newest_first events (Issue version nonce buckets)) (record { len = tells.len; each = tells.each });
  acked = λ version. rw (newest_first events (Acked version)) (record { len = tells.len; each = tells.each });
  fault = λ cause. rw (newest_first events (Fault cause)) (record { len = tells.len; each = tells.each });
}

pub positions_at_start : PositionsAtStart
positions_at_start o opening = record { len = opening.words; each = λ b low. sym (first b low) }
  where
    first : (b : ℕ) → b < o.shape.n → word_at o [] b ≡ get_or o.words b 0
    first b low = rw (lt-ltb b o.shape.n low) refl

-- ---- the leaf of an arrival

pub arrival_fetches : ArrivalFetches
arrival_fetches o events client op word f = record {
  real = λ b named real. more.leaf_of_block b named real ∙ (leaf_is_position o events b before).next_one (was_quiet (reverse events) op b real named);
  fake = more.leaf_of_word;
}
  where
    more : AfterArrive o (reverse events) (reverse (events ++ Arrive client op word ∷ [])) op word
    more = one_more_arrive o events client op word f

    before : FollowsLawfully o (reverse events)
    before = let f' : FollowsLawfully o (Arrive client op word ∷ reverse events) = subst (FollowsLawfully o) (newest_first events (Arrive client op word)) f in f'.0

pub new_arrivals_leaf : NewArrivalsLeaf
new_arrivals_leaf o events client op word words tells f =
    by op (with_one_more events (Arrive client op word)) range (arrival_fetches o events client op word f) (real_now (reverse events) op) refl
  where
    range : IsInRange o.shape op
    range = let f' : FollowsLawfully o (Arrive client op word ∷ reverse events) = subst (FollowsLawfully o) (newest_first events (Arrive client op word)) f in f'.2.3

    place : (b : ℕ) → b < o.shape.n → leaf_of o.shape.l (slice_index words b) ≡ position o (reverse events) b
    place b low = (positions_are_told o events words tells).leaves b low

    by : (op : Op) (now : List Event) → IsInRange o.shape op → ArrivalLeaf o (reverse events) now op word → (real : Bool) → real_now (reverse events) op ≡ real
        → fetched_leaf o now (arrived (reverse events)) ≡ leaf_of o.shape.l (word_for (λ b. slice_index words b) word real op)
    by (Read id) now low leaf true is = leaf.real id (eq-eqb id id refl) is ∙ sym (place id low)
    by (Read id) now low leaf false is = leaf.fake is
    by (Write id value) now range leaf true is = leaf.real id (eq-eqb id id refl) is ∙ sym (place id range.0)
    by (Write id value) now range leaf false is = leaf.fake is
    by Pad now range leaf true is = absurd (true≢false (sym is))
    by Pad now range leaf false is = leaf.fake is
