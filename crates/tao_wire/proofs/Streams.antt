-- Whole streams: one reading, whatever the turns in which it comes.
use Rattle.std.proofs.Common.{◌≡◌, inl, inr, ℕ, ◌^◌, ◌<◌, ◌≤◌, List, [], ◌∷◌, ◌++◌, length, take, drop, slice_index, Option, Some, None, Ok, Err, refl, sym, ap, subst, ◌∙◌, arith, append_assoc, length-append}
use Rattle.std.specs.Int.{w32, from_be_bytes}
use Rattle.std.specs.List.{flat_map}
use Rattle.std.proofs.lemmas.List.{append-nil, take-append-le, drop-append-le, length-drop}
use Rattle.std.proofs.lemmas.List.Elements.{All-nil, All-cons, All-head, All-tail, All-push}
use Rattle.std.proofs.lemmas.Grind.{flat_map-append}
use Rattle.tao_wire.specs.declared.message.Message.{Message}
use Rattle.tao_wire.specs.declared.message.WireFault.{WireFault}
use Rattle.tao_wire.specs.declared.message.WireFault.TheVariants.{Long, Kind, Body, Memory}
use Rattle.tao_wire.specs.Frames.{frame, length_field, first_content, Fits, BeginsWith, HasLength, HasWholeFrame, IsKind, IsNoContent, BeginsFaulty, Ends, Splits, FrameStream}
use Rattle.tao_wire.specs.Runs.{Turn, Fed, Asked, fed, handed, Run, AllFail}
use Rattle.tao_wire.proofs.AnswerLemmas.{fault_and_left}
use Rattle.tao_wire.proofs.Frontier.{one_message, no_message_partial, no_message_faulty, no_fault_partial, one_fault}

no_message_ends : (limit : ℕ) (bytes rest : List ℕ) (m : Message) (fault : Option WireFault) → limit < 2 ^ 32 → BeginsWith limit bytes m rest → Ends limit bytes fault → ⊥
no_message_ends limit bytes rest m None small b e = no_message_partial limit bytes rest m small b e
no_message_ends limit bytes rest m (Some fault) small b e = no_message_faulty limit bytes rest m fault small b e

one_end : (limit : ℕ) (bytes : List ℕ) (f g : Option WireFault) → Ends limit bytes f → Ends limit bytes g → f ≡ g
one_end limit bytes None None e h = refl
one_end limit bytes None (Some g) e h = absurd (no_fault_partial limit bytes g e h)
one_end limit bytes (Some f) None e h = absurd (no_fault_partial limit bytes f h e)
one_end limit bytes (Some f) (Some g) e h = ap Some (one_fault limit bytes f g e h)

-- the first message of a stream, and what is split behind it
first_split : (limit : ℕ) (stream rest : List ℕ) (m : Message) (ms : List Message) → Splits limit stream (m ∷ ms) rest
    → BeginsWith limit stream m (flat_map frame ms ++ rest) × Splits limit (flat_map frame ms ++ rest) ms rest
first_split limit stream rest m ms s = (
  record { first = s.whole ∙ append_assoc (frame m) (flat_map frame ms) rest; fits = All-head (Fits limit) m ms s.each },
  record { whole = refl; each = All-tail (Fits limit) m ms s.each },
)

-- What was split off a stream is a prefix of its messages, and the stream goes on behind it.
pub front_of : (limit : ℕ) (stream left rest : List ℕ) (front ms : List Message) (fault : Option WireFault) → limit < 2 ^ 32
    → Splits limit stream front left → FrameStream limit stream ms rest fault → (more : List Message) × (ms ≡ front ++ more) × FrameStream limit left more rest fault
front_of limit stream left rest [] ms fault small s f = (ms, refl, subst (λ (all : List ℕ). FrameStream limit all ms rest fault) s.whole f)
front_of limit stream left rest (m ∷ front) [] fault small s f =
    let b = (first_split limit stream left m front s).0 in
    absurd (no_message_ends limit stream (flat_map frame front ++ left) m fault small b (subst (λ (all : List ℕ). Ends limit all fault) (sym f.splits.whole) f.end))
front_of limit stream left rest (m ∷ front) (n ∷ ms) fault small s f =
    let a = first_split limit stream left m front s in
    let b = first_split limit stream rest n ms f.splits in
    let e = one_message limit stream (flat_map frame front ++ left) (flat_map frame ms ++ rest) m n small a.0 b.0 in
    let behind : FrameStream limit (flat_map frame front ++ left) ms rest fault =
    record { splits = subst (λ (all : List ℕ). Splits limit all ms rest) (sym e.1) b.1; end = f.end }
    in
    let r = front_of limit (flat_map frame front ++ left) left rest front ms fault small a.1 behind in
    (r.0, ap (λ k. k ∷ ms) (sym e.0) ∙ ap (λ ks. m ∷ ks) r.1, r.2)

-- what begins as no message has none
none_left : (limit : ℕ) (bytes rest : List ℕ) (ms : List Message) (fault end : Option WireFault) → limit < 2 ^ 32
    → Ends limit bytes end → FrameStream limit bytes ms rest fault → (ms ≡ []) × (bytes ≡ rest) × (end ≡ fault)
none_left limit bytes rest [] fault end small e f = (refl, f.splits.whole, one_end limit bytes end fault e (subst (λ (all : List ℕ). Ends limit all fault) (sym f.splits.whole) f.end))
none_left limit bytes rest (m ∷ ms) fault end small e f =
    absurd (no_message_ends limit bytes (flat_map frame ms ++ rest) m end small (first_split limit bytes rest m ms f.splits).0 e)

-- a stream has one reading
pub one_stream : (limit : ℕ) (stream rest left : List ℕ) (ms ns : List Message) (f g : Option WireFault) → limit < 2 ^ 32
    → FrameStream limit stream ms rest f → FrameStream limit stream ns left g → (ms ≡ ns) × (rest ≡ left) × (f ≡ g)
one_stream limit stream rest left ms ns f g small s t =
    let r = front_of limit stream rest left ms ns g small s.splits t in
    let e = none_left limit rest left r.0 g f small s.end r.2 in
    (sym (r.1 ∙ (ap (λ more. ms ++ more) e.0 ∙ append-nil ms)), e.1, e.2)

-- a faulty frame stays faulty, whatever follows
field_later : (bytes more : List ℕ) → 4 ≤ length bytes → length_field (bytes ++ more) ≡ length_field bytes
field_later bytes more h = ap (from_be_bytes w32) (take-append-le 4 bytes more h)

length_later : (limit : ℕ) (bytes more : List ℕ) → HasLength limit bytes → HasLength limit (bytes ++ more)
length_later limit bytes more h =
    let same = field_later bytes more h.come in
    let longer = length-append bytes more in
    record { come = omega (arith, h.come); some = omega (arith, h.some); allowed = omega (arith, h.allowed) }

whole_later : (limit : ℕ) (bytes more : List ℕ) → HasWholeFrame limit bytes → HasWholeFrame limit (bytes ++ more)
whole_later limit bytes more h =
    let same = field_later bytes more h.length_good.come in
    let longer = length-append bytes more in
    record { length_good = length_later limit bytes more h.length_good; whole = omega (arith, h.whole) }

content_later : (limit : ℕ) (bytes more : List ℕ) → HasWholeFrame limit bytes → first_content (bytes ++ more) ≡ first_content bytes
content_later limit bytes more h =
    let come = h.length_good.come in
    let whole = h.whole in
    let behind = length-drop 4 bytes in
    let here : length_field bytes ≤ length (drop 4 bytes) = omega arith in
    ap (λ n. take n (drop 4 (bytes ++ more))) (field_later bytes more come)
    ∙ (ap (take (length_field bytes)) (drop-append-le 4 bytes more come) ∙ take-append-le (length_field bytes) (drop 4 bytes) more here)

pub faulty_later : (limit : ℕ) (bytes more : List ℕ) (fault : WireFault) → BeginsFaulty limit bytes fault → BeginsFaulty limit (bytes ++ more) fault
faulty_later limit bytes more Long h =
    let same = field_later bytes more h.0 in
    let longer = length-append bytes more in
    (omega (arith, h.0), omega (arith, h.1))
faulty_later limit bytes more Kind h =
    (whole_later limit bytes more h.0, subst (λ (all : List ℕ). IsKind (slice_index all 0) → ⊥) (sym (content_later limit bytes more h.0)) h.1)
faulty_later limit bytes more Body (inl h) =
    let same = field_later bytes more h.0 in
    let longer = length-append bytes more in
    inl (omega (arith, h.0), omega (arith, h.1))
faulty_later limit bytes more Body (inr h) =
    let same = sym (content_later limit bytes more h.0) in
    inr (whole_later limit bytes more h.0, subst (λ (all : List ℕ). IsKind (slice_index all 0)) same h.1, subst IsNoContent same h.2)
faulty_later limit bytes more Memory h = h

pub fault_stays : (limit : ℕ) (left new : List ℕ) (turns : List Turn) (fault : WireFault) → limit < 2 ^ 32
    → Run limit left turns new → BeginsFaulty limit left fault → AllFail fault turns
fault_stays limit left new [] fault small r h = tt
fault_stays limit left new (Fed piece ∷ turns) fault small r h = fault_stays limit (left ++ piece) new turns fault small r (faulty_later limit left piece fault h)
fault_stays limit left new (Asked answer ∷ turns) fault small r h =
    let e = fault_and_left limit left r.0 fault answer small r.1 h in
    (e.0, fault_stays limit r.0 new turns fault small r.2 (subst (λ (all : List ℕ). BeginsFaulty limit all fault) (sym e.1) h))

-- what is left and what comes then is split into what is handed out and what is left then
push_message : (limit : ℕ) (left middle stream new : List ℕ) (m : Message) (ms : List Message) → BeginsWith limit left m middle → Splits limit (middle ++ stream) ms new
    → Splits limit (left ++ stream) (m ∷ ms) new
push_message limit left middle stream new m ms b s = record {
  whole =
      ap (λ all. all ++ stream) b.first
      ∙ (append_assoc (frame m) middle stream ∙ (ap (λ all. frame m ++ all) s.whole ∙ sym (append_assoc (frame m) (flat_map frame ms) new)));
  each = All-cons (Fits limit) m ms b.fits s.each;
}

splits_at : (limit : ℕ) (left middle stream new : List ℕ) (ms : List Message) → middle ≡ left → Splits limit (middle ++ stream) ms new → Splits limit (left ++ stream) ms new
splits_at limit left middle stream new ms e s = subst (λ (all : List ℕ). Splits limit (all ++ stream) ms new) e s

pub splits_run : (limit : ℕ) (left new : List ℕ) (turns : List Turn) → Run limit left turns new → Splits limit (left ++ fed turns) (handed turns) new
splits_run limit left new [] r = record { whole = append-nil left ∙ sym r; each = All-nil (Fits limit) }
splits_run limit left new (Fed piece ∷ turns) r =
    subst (λ (all : List ℕ). Splits limit all (handed turns) new) (append_assoc left piece (fed turns)) (splits_run limit (left ++ piece) new turns r)
splits_run limit left new (Asked (Ok (Some m)) ∷ turns) r = push_message limit left r.0 (fed turns) new m (handed turns) r.1 (splits_run limit r.0 new turns r.2)
splits_run limit left new (Asked (Ok None) ∷ turns) r = splits_at limit left r.0 (fed turns) new (handed turns) r.1.1 (splits_run limit r.0 new turns r.2)
splits_run limit left new (Asked (Err Long) ∷ turns) r = splits_at limit left r.0 (fed turns) new (handed turns) r.1.1 (splits_run limit r.0 new turns r.2)
splits_run limit left new (Asked (Err Kind) ∷ turns) r = splits_at limit left r.0 (fed turns) new (handed turns) r.1.1 (splits_run limit r.0 new turns r.2)
splits_run limit left new (Asked (Err Body) ∷ turns) r = splits_at limit left r.0 (fed turns) new (handed turns) r.1.1 (splits_run limit r.0 new turns r.2)
splits_run limit left new (Asked (Err Memory) ∷ turns) r = splits_at limit left r.0 (fed turns) new (handed turns) r.1.1 (splits_run limit r.0 new turns r.2)

frames_push : (front : List Message) (m : Message) → flat_map frame (front ++ m ∷ []) ≡ flat_map frame front ++ frame m
frames_push front m = flat_map-append frame front (m ∷ []) ∙ ap (λ all. flat_map frame front ++ all) (append-nil (frame m))

-- more bytes are left where more come
pub splits_fed : (limit : ℕ) (stream left piece : List ℕ) (front : List Message) → Splits limit stream front left → Splits limit (stream ++ piece) front (left ++ piece)
splits_fed limit stream left piece front s = record { whole = ap (λ all. all ++ piece) s.whole ∙ append_assoc (flat_map frame front) left piece; each = s.each }

-- one more message is split off where it is next
pub splits_handed : (limit : ℕ) (stream left rest : List ℕ) (front : List Message) (m : Message) → Splits limit stream front left → BeginsWith limit left m rest
    → Splits limit stream (front ++ m ∷ []) rest
splits_handed limit stream left rest front m s b = record {
  whole =
      s.whole
      ∙ (ap (λ all. flat_map frame front ++ all) b.first
      ∙ (sym (append_assoc (flat_map frame front) (frame m) rest) ∙ ap (λ all. all ++ rest) (sym (frames_push front m))));
  each = All-push (Fits limit) front m s.each b.fits;
}
