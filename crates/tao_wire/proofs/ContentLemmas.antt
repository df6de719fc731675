-- A message's kind byte and body tell the message.
use Rattle.std.proofs.Common.{◌≡◌, ◌==◌, ℕ, ◌+◌, ◌<◌, List, [], ◌∷◌, ◌++◌, length, take, drop, slice_index, if◌then◌else◌, refl, sym, ap, ap₂, ◌∙◌, arith}
use Rattle.std.specs.Int.{w32, w64, to_be_bytes, from_be_bytes}
use Rattle.std.proofs.lemmas.Nat.{from_be_bytes-to_be_bytes_4, from_be_bytes-to_be_bytes_8}
use Rattle.tao_wire.specs.declared.message.Message.{Message}
use Rattle.tao_wire.specs.declared.message.Message.TheVariants.{Fetch, Path, Store, Stored, Get, Put, Value, Refused}
use Rattle.tao_wire.specs.Frames.{content, frame, IsInRange, IsKind}

pub content_some : (m : Message) → 0 < length (content m)
content_some (Fetch id leaf) = omega arith
content_some (Path id image) = omega arith
content_some (Store version image) = omega arith
content_some (Stored version) = omega arith
content_some (Get block) = omega arith
content_some (Put block value) = omega arith
content_some (Value value) = omega arith
content_some (Refused code) = omega arith

pub content_kind : (m : Message) → IsKind (slice_index (content m) 0)
content_kind (Fetch id leaf) = grind arith
content_kind (Path id image) = grind arith
content_kind (Store version image) = grind arith
content_kind (Stored version) = grind arith
content_kind (Get block) = grind arith
content_kind (Put block value) = grind arith
content_kind (Value value) = grind arith
content_kind (Refused code) = grind arith

-- the message of a kind byte and a body, where there is one
abbrev told : ℕ → List ℕ → Message
told kind body =
    if kind == 1 then Fetch (from_be_bytes w64 (take 8 body)) (from_be_bytes w32 (drop 8 body))
    else (if kind == 2 then Path (from_be_bytes w64 (take 8 body)) (drop 8 body)
    else (if kind == 3 then Store (from_be_bytes w32 (take 4 body)) (drop 4 body)
    else (if kind == 4 then Stored (from_be_bytes w32 body)
    else (if kind == 5 then Get (from_be_bytes w32 body)
    else (if kind == 6 then Put (from_be_bytes w32 (take 4 body)) (drop 4 body)
    else (if kind == 7 then Value body
    else Refused (slice_index body 0)))))))

abbrev told_by : List ℕ → Message
told_by [] = Refused 0
told_by (kind ∷ body) = told kind body

told_content : (m : Message) → IsInRange m → told_by (content m) ≡ m
told_content (Fetch id leaf) r = ap₂ Fetch (from_be_bytes-to_be_bytes_8 id r.0) (from_be_bytes-to_be_bytes_4 leaf r.1)
told_content (Path id image) r = ap (λ i. Path i image) (from_be_bytes-to_be_bytes_8 id r)
told_content (Store version image) r = ap (λ v. Store v image) (from_be_bytes-to_be_bytes_4 version r)
told_content (Stored version) r = ap Stored (from_be_bytes-to_be_bytes_4 version r)
told_content (Get block) r = ap Get (from_be_bytes-to_be_bytes_4 block r)
told_content (Put block value) r = ap (λ b. Put b value) (from_be_bytes-to_be_bytes_4 block r)
told_content (Value value) r = refl
told_content (Refused code) r = refl

pub same_content : (m n : Message) → IsInRange m → IsInRange n → content m ≡ content n → m ≡ n
same_content m n r s e = sym (told_content m r) ∙ (ap told_by e ∙ told_content n s)

-- the frame of a Fetch, put together of its parts
pub fetch_frame : (m : Message) (id leaf : ℕ) (first rest : List ℕ) → m ≡ Fetch id leaf → first ≡ to_be_bytes w64 id → rest ≡ to_be_bytes w32 leaf
    → to_be_bytes w32 (1 + length first + length rest) ++ (1 ∷ (first ++ rest)) ≡ frame m
fetch_frame m id leaf first rest e f r = rw (e, f, r) refl
