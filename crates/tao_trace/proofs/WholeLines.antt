-- What is printed are whole lines.
use Rattle.std.proofs.Common.{inl, inr, ℕ, Bool, true, false, nat_le, ◌==◌, ◌-◌, List, [], ◌∷◌, ◌++◌, codes, length, drop, flat_map, cond, refl, sym, ap, ◌∙◌, subst, append_assoc, append-nil}
use Rattle.std.specs.List.{range_with_len}
use Rattle.tao_base.specs.declared.parameters.Form.{Form}
use Rattle.tao_base.specs.declared.parameters.Form.TheVariants.{One, Two, Turn}
use Rattle.tao_base.specs.declared.session.Cause.{Cause}
use Rattle.tao_base.specs.declared.session.Cause.TheVariants.{Damaged, Stale, Link}
use Rattle.tao_base.specs.declared.session.Event.{Event}
use Rattle.tao_base.specs.declared.session.Event.TheVariants.{Arrive, Done, Issue, Acked, Fault}
use Rattle.tao_base.specs.Lines.{spaced, spaced_hex, ended, words_line, hex_line}
use Rattle.tao_base.specs.Session.{Opening}
use Rattle.tao_base.specs.Array.{block_at}
use Rattle.tao_base.specs.Tree.{node_count}
use Rattle.tao_model.specs.Events.{arrived, acks, client_of, is_pad}
use Rattle.tao_model.specs.Requests.{fetched_leaf}
use Rattle.tao_model.specs.Replies.{plain_reply, released}
use Rattle.tao_model.specs.Trace.{nodes_in}
use Rattle.tao_model.specs.Transcript.{opening_lines, form_line, first_line, is_zero, event_lines, again_line, again_before, arrive_line, reply_line, reply_lines, cause_line, fault_name, op_words, tree_line}
use Rattle.tao_trace.specs.Printing.{lines_at, first_lines, events_before, sent_once}
use Rattle.tao_trace.specs.WholeLines.{AreLines, LinesAreWhole}

-- lines, and then some more lines
pub more_lines : (a b : List ℕ) → AreLines a → AreLines b → AreLines (a ++ b)
more_lines a b lines (inl none) = subst AreLines (sym (ap (λ (l : List ℕ). a ++ l) none ∙ append-nil a)) lines
more_lines a b lines (inr last) = inr (a ++ last.0, ap (λ (l : List ℕ). a ++ l) last.1 ∙ sym (append_assoc a last.0 (10 ∷ [])))

one_line : (line : List ℕ) → AreLines (ended line)
one_line line = inr (line, refl)

pub each_lines : (f : ℕ → List ℕ) → ((i : ℕ) → AreLines (f i)) → (numbers : List ℕ) → AreLines (flat_map f numbers)
each_lines f all [] = inl refl
each_lines f all (i ∷ numbers) = more_lines (f i) (flat_map f numbers) (all i) (each_lines f all numbers)

words_whole : (word : List ℕ) (numbers : List ℕ) → AreLines (words_line word numbers)
unfolding words_line
words_whole word numbers = one_line (word ++ flat_map spaced numbers)

hex_whole : (word : List ℕ) (numbers : List ℕ) (bytes : List ℕ) → AreLines (hex_line word numbers bytes)
unfolding hex_line
hex_whole word numbers bytes = one_line ((word ++ flat_map spaced numbers) ++ spaced_hex bytes)

-- a line that may be left out
maybe_line : (left_out : Bool) (line : List ℕ) → AreLines line → AreLines (cond left_out [] line)
maybe_line true line whole = inl refl
maybe_line false line whole = whole

form_whole : (form : Form) → AreLines (form_line form)
form_whole One = inl refl
form_whole Two = inr (codes "form 2", refl)
form_whole Turn = inr (codes "form turn", refl)

opening_whole : (o : Opening) → AreLines (opening_lines o)
opening_whole o =
    let tree : AreLines (tree_line o.shape) = words_whole (codes "tree") (o.shape.l ∷ o.shape.z ∷ o.shape.b ∷ o.shape.n ∷ o.shape.k ∷ []) in
    let first : AreLines (flat_map (first_line o.first) (range_with_len 0 (length o.first))) = each_lines (first_line o.first) (λ id. maybe_line (is_zero (block_at o.first id)) (hex_line (codes "first") (id ∷ []) (block_at o.first id)) (hex_whole (codes "first") (id ∷ []) (block_at o.first id))) (range_with_len 0 (length o.first)) in
    more_lines _ _ (more_lines _ _ (more_lines _ _ tree (form_whole o.shape.form)) first) (words_whole (codes "load") (node_count o.shape.l ∷ []))

cause_whole : (cause : Cause) → AreLines (cause_line cause)
cause_whole (Damaged fetch node fault) = one_line (((codes "refused" ++ spaced fetch) ++ spaced node) ++ (codes " damaged " ++ fault_name fault))
cause_whole (Stale fetch node wanted found) = one_line ((((codes "refused" ++ spaced fetch) ++ spaced node) ++ codes " stale") ++ (spaced wanted ++ spaced found))
cause_whole (Link link) = inl refl

replies_whole : (o : Opening) (es : List Event) (from : ℕ) → AreLines (reply_lines o es from)
replies_whole o es from =
    each_lines (reply_line o es) (λ i. maybe_line (is_pad es i) (hex_line (codes "reply") (i ∷ client_of es i ∷ []) (plain_reply o es i)) (hex_whole (codes "reply") (i ∷ client_of es i ∷ []) (plain_reply o es i))) (range_with_len from (released es - from))

event_whole : (o : Opening) (es : List Event) (e : Event) → AreLines (event_lines o es e)
event_whole o es (Arrive client op word) =
    more_lines (arrive_line (arrived es) client op) _ (one_line (((codes "arrive" ++ spaced (arrived es)) ++ spaced client) ++ op_words op))
    (words_whole (codes "fetch") (arrived es ∷ fetched_leaf o (Arrive client op word ∷ es) (arrived es) ∷ []))
event_whole o es (Done arrival taken) =
    more_lines (words_line (codes "done") (arrival ∷ [])) _ (words_whole (codes "done") (arrival ∷ [])) (replies_whole o (Done arrival taken ∷ es) (released es))
event_whole o es (Issue version nonce buckets) = words_whole (codes "store") (version ∷ nonce ∷ nodes_in buckets)
event_whole o es (Acked version) = words_whole (codes "ack") (version ∷ [])
event_whole o es (Fault cause) = cause_whole cause

again_line_whole : (es : List Event) (v : ℕ) → AreLines (again_line es v)
again_line_whole [] v = inl refl
again_line_whole (Arrive client op word ∷ es) v = again_line_whole es v
again_line_whole (Done arrival taken ∷ es) v = again_line_whole es v
again_line_whole (Issue version nonce buckets ∷ es) v = either (version == v) (again_line_whole es v)
  where
    either : (b : Bool) → AreLines (again_line es v) → AreLines (cond b (words_line (codes "again") (version ∷ nonce ∷ nodes_in buckets)) (again_line es v))
    either true older = words_whole (codes "again") (version ∷ nonce ∷ nodes_in buckets)
    either false older = older
again_line_whole (Acked version ∷ es) v = again_line_whole es v
again_line_whole (Fault cause ∷ es) v = again_line_whole es v

again_whole : (once : ℕ) (es : List Event) (e : Event) → AreLines (again_before once es e)
again_whole once es (Arrive client op word) = inl refl
again_whole once es (Done arrival taken) = inl refl
again_whole once es (Issue version nonce buckets) = inl refl
again_whole once es (Acked version) = either (nat_le once (acks es))
  where
    either : (b : Bool) → AreLines (cond b (again_line es version) [])
    either true = again_line_whole es version
    either false = inl refl
again_whole once es (Fault cause) = inl refl

first_whole : (o : Opening) (once : ℕ) (before rest : List Event) → AreLines (first_lines o once before rest)
first_whole o once before [] = inl refl
first_whole o once before (e ∷ rest) = more_lines (again_before once before e) (event_lines o before e) (again_whole once before e) (event_whole o before e)

pub lines_are_whole : LinesAreWhole
unfolding lines_at
lines_are_whole = record {
  opening = opening_whole;
  event = λ h again place. first_whole h.opening (sent_once h again) (events_before h place) (drop place h.events);
  scan = inr (codes "scan", refl);
  block = λ blocks id. hex_whole (codes "block") (id ∷ []) (block_at blocks id);
}
