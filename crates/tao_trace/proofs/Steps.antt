-- The tables after one more event. The events `es` are newest first.
use Rattle.std.proofs.Common.{◌≡◌, ℕ, ◌+◌, ◌<◌, ◌≤◌, ◌==◌, Bool, true, ◌&&◌, cond, List, [], ◌∷◌, ◌++◌, length, Some, None, get_or, set, refl, sym, ap, ◌∙◌, subst, arith, inl, inr, ◌⊎◌}
use Rattle.std.specs.Option.{option_map}
use Rattle.std.proofs.lemmas.Bool.{eq-eqb, ne_eqb, cases_lt, cases_eq}
use Rattle.std.proofs.lemmas.List.{get_or_append_left, get_or_push, length_push, get_or-set_same, get_or-set_other}
use Rattle.tao_base.specs.declared.calls.Op.{Op}
use Rattle.tao_base.specs.declared.calls.Op.TheVariants.{Read, Write, Pad}
use Rattle.tao_base.specs.declared.session.Event.{Event}
use Rattle.tao_base.specs.declared.session.Event.TheVariants.{Arrive, Done}
use Rattle.tao_base.specs.declared.storage.Bucket.{Bucket}
use Rattle.tao_base.specs.Session.{Opening}
use Rattle.tao_base.specs.Array.{array_step, array_reply}
use Rattle.tao_model.specs.Events.{arrived, is_pad, is_pad_op, NamesBelow}
use Rattle.tao_model.specs.Replies.{array_now, plain_reply}
use Rattle.tao_model.specs.Lawful.{FollowsLawfully, IsInRange}
use Rattle.tao_model.proofs.Stays.{pad_stays, client_stays, word_stays, reply_stays}
use Rattle.tao_trace.specs.Places.{PlacesState, with_arrival, with_done}
use Rattle.tao_trace.specs.Tables.{reply_of, reply_for, IsTold, AreTables}
use Rattle.tao_trace.specs.declared.tables.Told.{Told}
use Rattle.tao_trace.proofs.NextPlaces.{arrive_places, done_places}
use Rattle.tao_trace.proofs.Released.{has_flag}

-- ---- an arrival

-- what is kept of a new arrival
pub record IsNewRow (o : Opening) (es : List Event) (client : ℕ) (op : Op) (word : ℕ) (row : Told) : Type 0 where
  pub by : row.client ≡ client
  pub own : row.word ≡ word
  pub answer : option_map (λ value. value.now) row.reply ≡ reply_for (array_now o es) op

reply_is : (blocks : List (List ℕ)) (op : Op) → reply_for blocks op ≡ cond (is_pad_op op) None (Some (array_reply blocks op))
reply_is blocks (Read id) = refl
reply_is blocks (Write id value) = refl
reply_is blocks Pad = refl

pad_is : (op : Op) (es : List Event) (client word : ℕ) → is_pad (Arrive client op word ∷ es) (arrived es) ≡ is_pad_op op
pad_is (Read id) es client word = rw (eq-eqb (arrived es) (arrived es) refl) refl
pad_is (Write id value) es client word = rw (eq-eqb (arrived es) (arrived es) refl) refl
pad_is Pad es client word = rw (eq-eqb (arrived es) (arrived es) refl) refl

reply_new : (o : Opening) (es : List Event) (client : ℕ) (op : Op) (word : ℕ) → reply_of o (Arrive client op word ∷ es) (arrived es) ≡ reply_for (array_now o es) op
reply_new o es client op word =
    ap (λ b. cond b None (Some (plain_reply o (Arrive client op word ∷ es) (arrived es)))) (pad_is op es client word)
    ∙ ap (λ r. cond (is_pad_op op) None (Some r)) (newest o es client op word)
    ∙ sym (reply_is (array_now o es) op)
  where
    newest : (o : Opening) (es : List Event) (client : ℕ) (op : Op) (word : ℕ) → plain_reply o (Arrive client op word ∷ es) (arrived es) ≡ array_reply (array_now o es) op
    newest o es client op word = rw (eq-eqb (arrived es) (arrived es) refl) refl

row_new : (o : Opening) (es : List Event) (client : ℕ) (op : Op) (word : ℕ) (row : Told) → IsNewRow o es client op word row → IsTold o (Arrive client op word ∷ es) (arrived es) row
row_new o es client op word row new = record {
  client = new.by ∙ sym (rw (eq-eqb (arrived es) (arrived es) refl) refl);
  word = new.own ∙ sym (rw (eq-eqb (arrived es) (arrived es) refl) refl);
  reply = new.answer ∙ sym (reply_new o es client op word);
}

row_stays : (o : Opening) (es : List Event) (client : ℕ) (op : Op) (word i : ℕ) (row : Told) → i < arrived es → IsTold o es i row → IsTold o (Arrive client op word ∷ es) i row
row_stays o es client op word i row h told = record {
  client = told.client ∙ sym (client_stays es (Arrive client op word) i h);
  word = told.word ∙ sym (word_stays es (Arrive client op word) i h);
  reply = told.reply ∙ ap (λ b. cond b None (Some (plain_reply o es i))) (sym (pad_stays es (Arrive client op word) i h))
      ∙ ap (λ r. cond (is_pad (Arrive client op word ∷ es) i) None (Some r)) (sym (reply_stays o es (Arrive client op word) i h));
}

pub names_below : (o : Opening) (op : Op) → IsInRange o.shape op → NamesBelow o.shape.n op
names_below o (Read id) r = r
names_below o (Write id value) r = r.0
names_below o Pad r = r

pub tables_arrive : (o : Opening) (es : List Event) (client : ℕ) (op : Op) (word own : ℕ) (told : List Told) (values : List (List ℕ)) (places : PlacesState) (row : Told)
    → FollowsLawfully o (Arrive client op word ∷ es) → AreTables o es told values places → IsNewRow o es client op word row → own ≡ o.shape.n + arrived es
    → AreTables o (Arrive client op word ∷ es) (told ++ row ∷ []) (array_step values op) (with_arrival places op own)
tables_arrive o es client op word own told values places row f t is_row is = record {
  arrivals = length_push told row ∙ ap (λ n. n + 1) t.arrivals;
  each = λ i d h. either i d (cases_lt i (length told)) h;
  array = ap (λ l. array_step l op) t.array;
  tape = arrive_places o es places client word op own t.tape (names_below o op f.2.3) is;
}
  where
    either : (i : ℕ) (d : Told) → (i < length told) ⊎ (length told ≤ i) → i < length (told ++ row ∷ []) → IsTold o (Arrive client op word ∷ es) i (get_or (told ++ row ∷ []) i d)
    either i d (inl older) h = subst (IsTold o (Arrive client op word ∷ es) i) (sym (get_or_append_left told (row ∷ []) d i older))
        (row_stays o es client op word i (get_or told i d) (let a = t.arrivals in omega arith) (t.each i d older))
    either i d (inr newest) h =
        let len = length_push told row in
        let at : length told ≡ i = omega arith in
        subst (IsTold o (Arrive client op word ∷ es) i) (sym (get_or_push told row d i at))
        (subst (λ j. IsTold o (Arrive client op word ∷ es) j row) (sym t.arrivals ∙ at) (row_new o es client op word row is_row))

-- ---- a Done

pub tables_done : (o : Opening) (es : List Event) (arrival : ℕ) (taken : List Bucket) (told : List Told) (values : List (List ℕ)) (places : PlacesState)
    → FollowsLawfully o (Done arrival taken ∷ es) → AreTables o es told values places → AreTables o (Done arrival taken ∷ es) told values (with_done places arrival)
tables_done o es arrival taken told values places f t = record {
  arrivals = t.arrivals;
  each = λ i d h. let r = t.each i d h in record { client = r.client; word = r.word; reply = r.reply };
  array = t.array;
  tape = done_places o es places arrival taken t.tape (has_flag o es arrival taken places.done t.tape.dones f);
}
