-- The transcript: the text of a whole session, line by line.
use Rattle.std.specs.Prelude.{◌≡◌, ℕ, ◌+◌, ◌-◌, ◌<◌, ◌==◌, nat_le, Bool, if◌then◌else◌, List, [], ◌∷◌, ◌++◌, length, reverse, Option, Some, None, codes}
use Rattle.std.specs.List.{flat_map, range_with_len, list_all}
use Rattle.tao_base.specs.declared.calls.Op.{Op}
use Rattle.tao_base.specs.declared.calls.Op.TheVariants.{Read, Write, Pad}
use Rattle.tao_base.specs.declared.parameters.Form.{Form}
use Rattle.tao_base.specs.declared.parameters.Form.TheVariants.{One, Two, Turn}
use Rattle.tao_base.specs.declared.session.Cause.{Cause}
use Rattle.tao_base.specs.declared.session.Cause.TheVariants.{Damaged, Stale, Link}
use Rattle.tao_base.specs.declared.session.Event.{Event}
use Rattle.tao_base.specs.declared.session.Event.TheVariants.{Arrive, Done, Issue, Acked, Fault}
use Rattle.tao_base.specs.declared.storage.BucketFault.{BucketFault}
use Rattle.tao_base.specs.declared.storage.BucketFault.TheVariants as bucket_faults
use Rattle.tao_base.specs.Limits.{Shape}
use Rattle.tao_base.specs.Lines.{spaced, spaced_hex, ended, words_line, hex_line}
use Rattle.tao_base.specs.Session.{Opening, History}
use Rattle.tao_base.specs.Tree.{node_count}
use Rattle.tao_base.specs.Array.{block_at}
use Rattle.tao_model.specs.declared.trace.Request.{Request}
use Rattle.tao_model.specs.declared.trace.Request.TheVariants.{Load, Fetch, Store, Again, Scan}
use Rattle.tao_model.specs.Events.{arrived, acks, client_of, is_pad}
use Rattle.tao_model.specs.Requests.{fetched_leaf}
use Rattle.tao_model.specs.Replies.{plain_reply, released}
use Rattle.tao_model.specs.Trace.{nodes_in}

-- ---- the opening

-- the line of the store's form: tagged or mixed; an untagged store has no line
abbrev pub form_line : Form → List ℕ
form_line One = []
form_line Two = codes "form 2\n"
form_line Turn = codes "form turn\n"

-- all bytes are 0
abbrev pub is_zero : List ℕ → Bool
is_zero bytes = list_all (λ byte. byte == 0) bytes

-- a block whose first value isn't all zero
abbrev pub first_line : List (List ℕ) → ℕ → List ℕ
first_line blocks id = if is_zero (block_at blocks id) then [] else hex_line (codes "first") (id ∷ []) (block_at blocks id)

-- the parameters: height, blocks in a bucket, bytes in a block, number of blocks, period
abbrev pub tree_line : Shape → List ℕ
tree_line s = words_line (codes "tree") (s.l ∷ s.z ∷ s.b ∷ s.n ∷ s.k ∷ [])

-- parameters and form, the first values that aren't all zero in rising id, and how many nodes were loaded
abbrev pub opening_lines : Opening → List ℕ
opening_lines o = ((tree_line o.shape ++ form_line o.shape.form) ++ flat_map (first_line o.first) (range_with_len 0 (length o.first)))
    ++ words_line (codes "load") (node_count o.shape.l ∷ [])

-- ---- events; those before are newest first

-- the operation, each word after a space: read, write or pad, the block, and in hex the value to be written
abbrev pub op_words : Op → List ℕ
op_words (Read id) = codes " read" ++ spaced id
op_words (Write id value) = (codes " write" ++ spaced id) ++ spaced_hex value
op_words Pad = codes " pad"

-- the arrival of this number: who asked, and what
abbrev pub arrive_line : ℕ → ℕ → Op → List ℕ
arrive_line i client op = ended (((codes "arrive" ++ spaced i) ++ spaced client) ++ op_words op)

-- the reply of an arrival that isn't a pad; `answer` is what each arrival is answered, after some events
abbrev pub reply_line_with : (List Event → ℕ → List ℕ) → List Event → ℕ → List ℕ
reply_line_with answer es i = if is_pad es i then [] else hex_line (codes "reply") (i ∷ client_of es i ∷ []) (answer es i)

-- the same with what the plain array answers
abbrev pub reply_line : Opening → List Event → ℕ → List ℕ
reply_line o es i = reply_line_with (plain_reply o) es i

-- the replies of the arrivals released since `from`
abbrev pub reply_lines_with : (List Event → ℕ → List ℕ) → List Event → ℕ → List ℕ
reply_lines_with answer es from = flat_map (reply_line_with answer es) (range_with_len from (released es - from))

-- the same with what the plain array answers
abbrev pub reply_lines : Opening → List Event → ℕ → List ℕ
reply_lines o es from = reply_lines_with (plain_reply o) es from

-- the word for what is wrong with a bucket's bytes
abbrev pub fault_name : BucketFault → List ℕ
fault_name bucket_faults.Length = codes "Length"
fault_name bucket_faults.Format = codes "Format"
fault_name bucket_faults.Padding = codes "Padding"
fault_name bucket_faults.Node = codes "Node"
fault_name bucket_faults.Id = codes "Id"
fault_name bucket_faults.Order = codes "Order"
fault_name bucket_faults.Dummy = codes "Dummy"
fault_name bucket_faults.Tag = codes "Tag"

-- the fetch and node of a refused bucket, and why; a link that failed has no line
abbrev pub cause_line : Cause → List ℕ
cause_line (Damaged fetch node fault) = ended (((codes "refused" ++ spaced fetch) ++ spaced node) ++ (codes " damaged " ++ fault_name fault))
cause_line (Stale fetch node wanted found) = ended ((((codes "refused" ++ spaced fetch) ++ spaced node) ++ codes " stale") ++ (spaced wanted ++ spaced found))
cause_line (Link link) = []

-- the lines of an event after those before it
abbrev pub event_lines_with : (List Event → ℕ → List ℕ) → Opening → List Event → Event → List ℕ
event_lines_with answer o es (Arrive client op word) = arrive_line (arrived es) client op
    ++ words_line (codes "fetch") (arrived es ∷ fetched_leaf o (Arrive client op word ∷ es) (arrived es) ∷ [])
event_lines_with answer o es (Done arrival taken) =
    words_line (codes "done") (arrival ∷ []) ++ reply_lines_with answer (Done arrival taken ∷ es) (released es)
event_lines_with answer o es (Issue version nonce buckets) = words_line (codes "store") (version ∷ nonce ∷ nodes_in buckets)
event_lines_with answer o es (Acked version) = words_line (codes "ack") (version ∷ [])
event_lines_with answer o es (Fault cause) = cause_line cause

-- the same with what the plain array answers
abbrev pub event_lines : Opening → List Event → Event → List ℕ
event_lines o es e = event_lines_with (plain_reply o) o es e

-- the line of a version's store that is sent again
abbrev pub again_line : List Event → ℕ → List ℕ
again_line [] v = []
again_line (Arrive client op word ∷ es) v = again_line es v
again_line (Done arrival taken ∷ es) v = again_line es v
again_line (Issue version nonce buckets ∷ es) v = if version == v then words_line (codes "again") (version ∷ nonce ∷ nodes_in buckets) else again_line es v
again_line (Acked version ∷ es) v = again_line es v
again_line (Fault cause ∷ es) v = again_line es v

-- after the first `once` acknowledgements each is of a store that was sent again
abbrev pub again_before : ℕ → List Event → Event → List ℕ
again_before once es (Arrive client op word) = []
again_before once es (Done arrival taken) = []
again_before once es (Issue version nonce buckets) = []
again_before once es (Acked version) = if nat_le once (acks es) then again_line es version else []
again_before once es (Fault cause) = []

-- the lines of the rest of a record
abbrev pub lines_from_with : (List Event → ℕ → List ℕ) → Opening → ℕ → List Event → List Event → List ℕ
lines_from_with answer o once es [] = []
lines_from_with answer o once es (e ∷ rest) =
    (again_before once es e ++ event_lines_with answer o es e) ++ lines_from_with answer o once (e ∷ es) rest

-- the same with what the plain array answers
abbrev pub lines_from : Opening → ℕ → List Event → List Event → List ℕ
lines_from o once es rest = lines_from_with (plain_reply o) o once es rest

-- the number of acknowledgements, oldest first
abbrev pub acks_in : List Event → ℕ
acks_in [] = 0
acks_in (Arrive client op word ∷ rest) = acks_in rest
acks_in (Done arrival taken ∷ rest) = acks_in rest
acks_in (Issue version nonce buckets ∷ rest) = acks_in rest
acks_in (Acked version ∷ rest) = acks_in rest + 1
acks_in (Fault cause ∷ rest) = acks_in rest

-- ---- the close

-- a block of the final array: its id, and its value in hex
abbrev pub block_line : List (List ℕ) → ℕ → List ℕ
block_line blocks id = hex_line (codes "block") (id ∷ []) (block_at blocks id)

-- the final array, if the whole tree was read at the close
abbrev pub closing_lines : Option (List (List ℕ)) → List ℕ
closing_lines None = []
closing_lines (Some blocks) = codes "scan\n" ++ flat_map (block_line blocks) (range_with_len 0 (length blocks))

-- the whole text of a record; the last `again` acknowledgements are of stores that were sent again
abbrev pub transcript_with : (List Event → ℕ → List ℕ) → History → ℕ → Option (List (List ℕ)) → List ℕ → List ℕ
transcript_with answer h again final end =
    ((opening_lines h.opening ++ lines_from_with answer h.opening (acks_in h.events - again) [] h.events) ++ closing_lines final) ++ end

-- the same with what the plain array answers
abbrev pub transcript : History → ℕ → Option (List (List ℕ)) → List ℕ → List ℕ
transcript h again final end = transcript_with (plain_reply h.opening) h again final end

-- The text with the answers that were given is the plain array's, if the released ones are. The record may be any.
abbrev pub GivenIsPlain : Type 0
GivenIsPlain = (h : History) (given : ℕ → List ℕ) (again : ℕ) (final : Option (List (List ℕ))) (end : List ℕ)
    → ((i : ℕ) → i < released (reverse h.events) → given i ≡ plain_reply h.opening (reverse h.events) i)
    → transcript_with (λ es. given) h again final end ≡ transcript h again final end

-- ---- the request trace

-- the line of a request, in the words of a transcript
abbrev pub request_line : Request → List ℕ
request_line (Load count) = words_line (codes "load") (count ∷ [])
request_line (Fetch number leaf) = words_line (codes "fetch") (number ∷ leaf ∷ [])
request_line (Store version nonce nodes) = words_line (codes "store") (version ∷ nonce ∷ nodes)
request_line (Again version nonce nodes) = words_line (codes "again") (version ∷ nonce ∷ nodes)
request_line Scan = codes "scan\n"
