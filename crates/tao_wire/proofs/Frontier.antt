-- Where a stream goes on: with a message, with less than a frame, or with a faulty one, and with one of these alone.
use Rattle.std.proofs.Common.{◌≡◌, inl, inr, ℕ, ◌+◌, ◌^◌, ◌<◌, ◌≤◌, List, ◌++◌, length, take, drop, slice_index, refl, sym, ap, ap₂, subst, ◌∙◌, arith, append_assoc, length-append}
use Rattle.std.specs.Int.{w32, to_be_bytes}
use Rattle.std.proofs.lemmas.List.{take_at, drop_at, length-drop, length-take-le, take-append-drop, drop-drop}
use Rattle.std.proofs.lemmas.Nat.{from_be_bytes-to_be_bytes_4}
use Rattle.tao_wire.specs.declared.message.Message.{Message}
use Rattle.tao_wire.specs.declared.message.WireFault.{WireFault}
use Rattle.tao_wire.specs.declared.message.WireFault.TheVariants.{Long, Kind, Body, Memory}
use Rattle.tao_wire.specs.Frames.{content, length_field, first_content, BeginsWith, IsPartial, HasWholeFrame, IsKind, BeginsFaulty}
use Rattle.tao_wire.specs.Reading.{IsContent}
use Rattle.tao_wire.proofs.BodyLemmas.{AreBytes, joined_4}
use Rattle.tao_wire.proofs.ContentLemmas.{content_some, content_kind, same_content}

-- the length field of what begins with a message is the length of its content
pub field_of : (limit : ℕ) (bytes rest : List ℕ) (m : Message) → limit < 2 ^ 32 → BeginsWith limit bytes m rest → length_field bytes ≡ length (content m)
field_of limit bytes rest m small b =
    let n : length (content m) < 2 ^ 32 = omega (arith, b.fits.allowed) in
    ap length_field b.first ∙ from_be_bytes-to_be_bytes_4 (length (content m)) n

pub length_of : (limit : ℕ) (bytes rest : List ℕ) (m : Message) → BeginsWith limit bytes m rest → length bytes ≡ 4 + length (content m) + length rest
length_of limit bytes rest m b = ap length b.first ∙ omega (arith, length-append (content m) rest)

pub whole_of : (limit : ℕ) (bytes rest : List ℕ) (m : Message) → limit < 2 ^ 32 → BeginsWith limit bytes m rest → HasWholeFrame limit bytes
whole_of limit bytes rest m small b =
    let field = field_of limit bytes rest m small b in
    let len = length_of limit bytes rest m b in
    let some = content_some m in
    record {
      length_good = record { come = omega arith; some = omega arith; allowed = omega (arith, b.fits.allowed) };
      whole = omega arith;
    }

-- so is the content behind the length field
pub content_of : (limit : ℕ) (bytes rest : List ℕ) (m : Message) → limit < 2 ^ 32 → BeginsWith limit bytes m rest → first_content bytes ≡ content m
content_of limit bytes rest m small b =
    ap (λ n. take n (drop 4 bytes)) (field_of limit bytes rest m small b)
    ∙ (ap (λ all. take (length (content m)) (drop 4 all)) b.first ∙ take_at (content m) rest (length (content m)) refl)

pub rest_of : (limit : ℕ) (bytes rest : List ℕ) (m : Message) → BeginsWith limit bytes m rest → drop (length (content m)) (drop 4 bytes) ≡ rest
rest_of limit bytes rest m b = ap (λ all. drop (length (content m)) (drop 4 all)) b.first ∙ drop_at (content m) rest (length (content m)) refl

-- the bytes begin with one message at most
pub one_message : (limit : ℕ) (bytes rest more : List ℕ) (m n : Message) → limit < 2 ^ 32 → BeginsWith limit bytes m rest → BeginsWith limit bytes n more
    → (m ≡ n) × (rest ≡ more)
one_message limit bytes rest more m n small b d =
    let e : m ≡ n =
    same_content m n b.fits.in_range d.fits.in_range (sym (content_of limit bytes rest m small b) ∙ content_of limit bytes more n small d)
    in
    (e, sym (rest_of limit bytes rest m b) ∙ (ap (λ k. drop (length (content k)) (drop 4 bytes)) e ∙ rest_of limit bytes more n d))

pub no_message_partial : (limit : ℕ) (bytes rest : List ℕ) (m : Message) → limit < 2 ^ 32 → BeginsWith limit bytes m rest → IsPartial limit bytes → ⊥
no_message_partial limit bytes rest m small b (inl few) = let len = length_of limit bytes rest m b in omega arith
no_message_partial limit bytes rest m small b (inr h) = let whole = whole_of limit bytes rest m small b in omega (arith, whole.whole, h.1)

pub no_message_faulty : (limit : ℕ) (bytes rest : List ℕ) (m : Message) (fault : WireFault) → limit < 2 ^ 32 → BeginsWith limit bytes m rest → BeginsFaulty limit bytes fault → ⊥
no_message_faulty limit bytes rest m Long small b h = let whole = whole_of limit bytes rest m small b in omega (arith, whole.length_good.allowed, h.1)
no_message_faulty limit bytes rest m Kind small b h =
    h.1 (subst (λ (all : List ℕ). IsKind (slice_index all 0)) (sym (content_of limit bytes rest m small b)) (content_kind m))
no_message_faulty limit bytes rest m Body small b (inl h) = let whole = whole_of limit bytes rest m small b in omega (arith, whole.length_good.some, h.1)
no_message_faulty limit bytes rest m Body small b (inr h) = h.2 m (sym (content_of limit bytes rest m small b))
no_message_faulty limit bytes rest m Memory small b h = h

pub no_fault_partial : (limit : ℕ) (bytes : List ℕ) (fault : WireFault) → IsPartial limit bytes → BeginsFaulty limit bytes fault → ⊥
no_fault_partial limit bytes Long (inl few) h = omega (arith, h.0)
no_fault_partial limit bytes Long (inr part) h = omega (arith, part.0.allowed, h.1)
no_fault_partial limit bytes Kind (inl few) h = omega (arith, h.0.length_good.come)
no_fault_partial limit bytes Kind (inr part) h = omega (arith, part.1, h.0.whole)
no_fault_partial limit bytes Body (inl few) (inl h) = omega (arith, h.0)
no_fault_partial limit bytes Body (inl few) (inr h) = omega (arith, h.0.length_good.come)
no_fault_partial limit bytes Body (inr part) (inl h) = omega (arith, part.0.some, h.1)
no_fault_partial limit bytes Body (inr part) (inr h) = omega (arith, part.1, h.0.whole)
no_fault_partial limit bytes Memory part h = h

-- a faulty frame has one fault
pub one_fault : (limit : ℕ) (bytes : List ℕ) (f g : WireFault) → BeginsFaulty limit bytes f → BeginsFaulty limit bytes g → f ≡ g
one_fault limit bytes Long Long h k = refl
one_fault limit bytes Long Kind h k = absurd (omega (arith, h.1, k.0.length_good.allowed))
one_fault limit bytes Long Body h (inl k) = absurd (omega (arith, h.1, k.1))
one_fault limit bytes Long Body h (inr k) = absurd (omega (arith, h.1, k.0.length_good.allowed))
one_fault limit bytes Long Memory h k = absurd k
one_fault limit bytes Kind Long h k = absurd (omega (arith, k.1, h.0.length_good.allowed))
one_fault limit bytes Kind Kind h k = refl
one_fault limit bytes Kind Body h (inl k) = absurd (omega (arith, h.0.length_good.some, k.1))
one_fault limit bytes Kind Body h (inr k) = absurd (h.1 k.1)
one_fault limit bytes Kind Memory h k = absurd k
one_fault limit bytes Body Long (inl h) k = absurd (omega (arith, k.1, h.1))
one_fault limit bytes Body Long (inr h) k = absurd (omega (arith, k.1, h.0.length_good.allowed))
one_fault limit bytes Body Kind (inl h) k = absurd (omega (arith, k.0.length_good.some, h.1))
one_fault limit bytes Body Kind (inr h) k = absurd (k.1 h.1)
one_fault limit bytes Body Body h k = refl
one_fault limit bytes Body Memory h k = absurd k
one_fault limit bytes Memory g h k = absurd h

-- a whole frame that says a message is that message's
pub frame_back : (limit : ℕ) (bytes : List ℕ) (m : Message) → AreBytes bytes → HasWholeFrame limit bytes → IsContent (first_content bytes) m
    → BeginsWith limit bytes m (drop (4 + length_field bytes) bytes)
frame_back limit bytes m small w is =
    let behind = length-drop 4 bytes in
    let here : length_field bytes ≤ length (drop 4 bytes) = omega (arith, w.whole) in
    let len : length (content m) ≡ length_field bytes = ap length is.0 ∙ length-take-le (length_field bytes) (drop 4 bytes) here in
    let parts : drop 4 bytes ≡ content m ++ drop (4 + length_field bytes) bytes =
    sym (take-append-drop (length_field bytes) (drop 4 bytes)) ∙ ap₂ (λ front rest. front ++ rest) (sym is.0) (drop-drop (length_field bytes) 4 bytes)
    in
    record {
      first =
          joined_4 bytes (length_field bytes) w.length_good.come small refl
          ∙ (ap₂ (λ n all. to_be_bytes w32 n ++ all) (sym len) parts
          ∙ sym (append_assoc (to_be_bytes w32 (length (content m))) (content m) (drop (4 + length_field bytes) bytes)));
      fits = record { allowed = omega (arith, w.length_good.allowed); in_range = is.1 };
    }
