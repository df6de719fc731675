-- Bytes without a fault encode the bucket that is read, and what is encoded has no fault and is read again.
use Rattle.std.proofs.Common.{◌≡◌, ℕ, ◌+◌, ◌-◌, ◌*◌, ◌^◌, ◌<◌, ◌≤◌, ◌⊎◌, inl, inr, Bool, true, false, not, ◌&&◌, eqb, if◌then◌else◌, List, ◌++◌, length, get_or, take, drop, replicate, Option, Some, None, Result, Ok, Err, ◌↔◌, refl, sym, ap, ap₂, subst, ◌∙◌, append_assoc, arith}
use Rattle.std.specs.List.{All, flat_map}
use Rattle.std.specs.Prelude.{IsSomeAnd, OnOk}
use Rattle.std.specs.Option.{option_or}
use Rattle.std.specs.Result.{result_err}
use Rattle.std.proofs.Math.Pow.{pow_mono}
use Rattle.std.proofs.lemmas.Nat.{mul-le}
use Rattle.std.proofs.lemmas.Bool.{eqb-true, eq-eqb, and_parts, and_from, cond-true}
use Rattle.std.proofs.lemmas.List.{take_at, drop_at, take-append-drop, length-append, length-take-le, length-drop, length-replicate}
use Rattle.std.proofs.lemmas.List.Elements.{recursion_from_All}
use Rattle.tao_base.specs.Limits.{Shape, IsShape, slots_len, bucket_len, tag_len}
use Rattle.tao_base.specs.Links.{header_node}
use Rattle.tao_base.specs.declared.parameters.Form.{Form}
use Rattle.tao_base.specs.declared.parameters.Form.TheVariants.{One, Two, Turn}
use Rattle.tao_base.specs.declared.storage.Bucket.{Bucket}
use Rattle.tao_base.specs.declared.storage.BucketFault.{BucketFault}
use Rattle.tao_base.specs.declared.storage.Entry.{Entry}
use Rattle.tao_base.specs.declared.storage.BucketFault.TheVariants.{Length, Format, Padding, Node, Tag}
use Rattle.tao_tag.specs.Tags.{hmac, tag_key}
use Rattle.tao_tag.proofs.Tagging.{length_hmac}
use Rattle.tao_tape.specs.Keystream.{xored}
use Rattle.tao_tape.proofs.Streams.{length_xored, xored_again, xored_fits}
use Rattle.tao_base.specs.Buckets.{AreInForm, IsInForm}
use Rattle.tao_bucket.specs.Encoding.{HasBlock, IsWritten, Encodes, header, slot_of, slots_of, body, tail, encoded, tag_of, format_of}
use Rattle.tao_base.specs.Transfers.{same}
use Rattle.tao_base.proofs.TransferLemmas.{same_true, same_self}
use Rattle.tao_bucket.specs.Reading.{header_version, header_nonce, header_fault, tail_fault, slots_fault, clear_slots, bucket_fault, read_bucket, entries_of}
use Rattle.tao_bucket.specs.Rooms.{RoomState, holding}
use Rattle.tao_bucket.proofs.Again.{slots_again}
use Rattle.tao_bucket.proofs.Clear.{header_taken, node_below, version_below, nonce_below, node_again, version_again, nonce_again}
use Rattle.tao_bucket.proofs.Pieces.{zeros, length_slots, take_parts}
use Rattle.tao_bucket.proofs.Taken.{IsBytes, bytes_take, bytes_drop, slots_taken}

-- ---- none of several faults

none_or : (a b : Option BucketFault) → option_or a b ≡ None → (a ≡ None) × (b ≡ None)
none_or None b e = (refl, e)
none_or (Some x) b e = absurd cc

unless : (b : Bool) (x : BucketFault) (o : Option BucketFault) → (if not b then Some x else o) ≡ None → (b ≡ true) × (o ≡ None)
unless true x o e = (refl, e)
unless false x o e = absurd cc

-- what a header without a fault is
record IsHeader (s : Shape) (want format : ℕ) (bytes : List ℕ) : Type 0 where
  len : length bytes ≡ bucket_len s
  format_is : get_or bytes 0 0 ≡ format
  first : get_or bytes 1 0 ≡ 0
  second : get_or bytes 2 0 ≡ 0
  third : get_or bytes 3 0 ≡ 0
  node : header_node bytes ≡ want

header_fine : (s : Shape) (want format : ℕ) (bytes : List ℕ) → header_fault s want format bytes ≡ None → IsHeader s want format bytes
header_fine s want format bytes none =
    let a = unless (eqb (length bytes) (bucket_len s)) Length _ none in
    let b = unless (eqb (get_or bytes 0 0) format) Format _ a.1 in
    let c = unless (eqb (get_or bytes 1 0) 0 && eqb (get_or bytes 2 0) 0 && eqb (get_or bytes 3 0) 0) Padding _ b.1 in
    let d = unless (eqb (header_node bytes) want) Node None c.1 in
    let three = and_parts (eqb (get_or bytes 1 0) 0 && eqb (get_or bytes 2 0) 0) (eqb (get_or bytes 3 0) 0) c.0 in
    let two = and_parts (eqb (get_or bytes 1 0) 0) (eqb (get_or bytes 2 0) 0) three.0 in
    record {
      len = eqb-true (length bytes) (bucket_len s) a.0;
      format_is = eqb-true (get_or bytes 0 0) format b.0;
      first = eqb-true (get_or bytes 1 0) 0 two.0;
      second = eqb-true (get_or bytes 2 0) 0 two.1;
      third = eqb-true (get_or bytes 3 0) 0 three.1;
      node = eqb-true (header_node bytes) want d.0;
    }

tail_fine : (key : List ℕ) (s : Shape) (format : ℕ) (bytes : List ℕ) → tail_fault key s format bytes ≡ None → drop (slots_len s.z s.b) bytes ≡ tail key s.form format (take (slots_len s.z s.b) bytes)
tail_fine key s format bytes none = same_true _ _ (right (same (drop (slots_len s.z s.b) bytes) (tail key s.form format (take (slots_len s.z s.b) bytes))) none)
  where
    right : (b : Bool) → (if b then None else Some Tag) ≡ None → b ≡ true
    right true e = refl
    right false e = absurd cc

-- ---- bytes without a fault

pub encoding_taken : (key : List ℕ) (s : Shape) (want format : ℕ) (bytes : List ℕ) → IsBytes bytes → bucket_fault key s want format bytes ≡ None
    → (header_node bytes ≡ want) × Encodes key s format (read_bucket key s bytes) bytes
unfolding bucket_fault clear_slots encoded
encoding_taken key s want format bytes fit none =
    let all = none_or (option_or (header_fault s want format bytes) (tail_fault key s format bytes)) _ none in
    let first = none_or (header_fault s want format bytes) (tail_fault key s format bytes) all.0 in
    let head = header_fine s want format bytes first.0 in
    let end = tail_fine key s format bytes first.1 in
    let nonce = header_nonce bytes in
    let middle = take (s.z * (4 + s.b)) (drop 20 bytes) in
    let long : slots_len s.z s.b ≤ length bytes = omega (arith, head.len) in
    let twenty : 20 ≤ length bytes = omega arith in
    let middle_len : length middle ≡ s.z * (4 + s.b) = length-take-le (s.z * (4 + s.b)) (drop 20 bytes) (omega (arith, length-drop 20 bytes)) in
    let clear_len : length (xored key nonce middle) ≡ s.z * (4 + s.b) = length_xored key nonce middle ∙ middle_len in
    let clear_fit : IsBytes (xored key nonce middle) = xored_fits key nonce middle (bytes_take (s.z * (4 + s.b)) (drop 20 bytes) (bytes_drop 20 bytes fit)) in
    let taken = slots_taken s (xored key nonce middle) clear_fit clear_len all.1 in
    let whole : take (slots_len s.z s.b) bytes ≡ body key s format (read_bucket key s bytes) =
    take_parts 20 (s.z * (4 + s.b)) bytes
    ∙ ap₂ (λ (xs ys : List ℕ). xs ++ ys) (header_taken format bytes fit twenty head.format_is head.first head.second head.third)
    (sym (xored_again key nonce middle) ∙ ap (xored key nonce) taken.1)
    in (
      head.node,
      record {
        entries = taken.0;
        node = node_below bytes fit;
        version = version_below bytes fit;
        nonce = nonce_below bytes fit;
        written = sym (take-append-drop (slots_len s.z s.b) bytes) ∙ ap₂ (λ (xs ys : List ℕ). xs ++ ys) whole (end ∙ ap (tail key s.form format) whole);
      },
    )

-- ---- what is encoded

length_tail : (key : List ℕ) (form : Form) (format : ℕ) (front : List ℕ) → length (tail key form format front) ≡ tag_len form
length_tail key One format front = refl
length_tail key Two format front = length_hmac (tag_key key) front
length_tail key Turn format front = either (eqb format 2)
  where
    either : (b : Bool) → length (if b then hmac (tag_key key) front else replicate 32 0) ≡ 32
    either true = length_hmac (tag_key key) front
    either false = refl

length_of_slots : (z b : ℕ) (es : List Entry) → All (HasBlock b) es → length es ≤ z → length (slots_of z b es) ≡ z * (4 + b)
unfolding slots_of
length_of_slots z b es values few =
    let rest : length (zeros ((z - length es) * (4 + b))) ≡ (z - length es) * (4 + b) = length-replicate {A = ℕ} ((z - length es) * (4 + b)) 0 in
    let front = length_slots b es (recursion_from_All (HasBlock b) es values) in
    let sum : length es * (4 + b) + (z - length es) * (4 + b) ≡ z * (4 + b) = sum_of z (length es) (4 + b) few in
    length-append (flat_map slot_of es) (zeros ((z - length es) * (4 + b))) ∙ ap₂ ◌+◌ front rest ∙ sum
  where
    sum_of : (z k w : ℕ) → k ≤ z → k * w + (z - k) * w ≡ z * w
    sum_of z k w h = let whole : k + (z - k) ≡ z = omega arith in let split : k * w + (z - k) * w ≡ (k + (z - k)) * w = omega arith in split ∙ ap (λ n. n * w) whole

length_middle : (key : List ℕ) (s : Shape) (bucket : Bucket) → AreInForm s bucket.entries → length (xored key bucket.nonce (slots_of s.z s.b bucket.entries)) ≡ s.z * (4 + s.b)
length_middle key s bucket form = length_xored key bucket.nonce (slots_of s.z s.b bucket.entries) ∙ length_of_slots s.z s.b bucket.entries form.values form.few

length_body : (key : List ℕ) (s : Shape) (format : ℕ) (bucket : Bucket) → AreInForm s bucket.entries → length (body key s format bucket) ≡ slots_len s.z s.b
length_body key s format bucket form =
    length-append (header format bucket.node bucket.version bucket.nonce) (xored key bucket.nonce (slots_of s.z s.b bucket.entries)) ∙ ap (λ n. 20 + n) (length_middle key s bucket form)

without : (b : Bool) (x : BucketFault) (o : Option BucketFault) → b ≡ true → o ≡ None → (if not b then Some x else o) ≡ None
without true x o e none = none
without false x o e none = absurd cc

abbrev bucket_of : ℕ → ℕ → ℕ → List Entry → Bucket
bucket_of node version nonce entries = record { node = node; version = version; nonce = nonce; entries = entries }

pub encoding_again : (key : List ℕ) (s : Shape) (format : ℕ) (bucket : Bucket) (bytes : List ℕ) → s.n < 2 ^ 32 → Encodes key s format bucket bytes
    → (bucket_fault key s bucket.node format bytes ≡ None) × (read_bucket key s bytes ≡ bucket)
unfolding bucket_fault clear_slots encoded
encoding_again key s format bucket bytes small is =
    let slots = slots_of s.z s.b bucket.entries in
    let head = header format bucket.node bucket.version bucket.nonce in
    let front = body key s format bucket in
    let end = tail key s.form format front in
    let middle_len = length_middle key s bucket is.entries in
    let front_len = length_body key s format bucket is.entries in
    let end_len = length_tail key s.form format front in
    let apart : bytes ≡ head ++ (xored key bucket.nonce slots ++ end) = is.written ∙ append_assoc head (xored key bucket.nonce slots) end in
    let len : length bytes ≡ bucket_len s = ap length is.written ∙ length-append front end ∙ ap₂ ◌+◌ front_len end_len in
    let node : header_node bytes ≡ bucket.node = ap header_node apart ∙ node_again format bucket.node bucket.version bucket.nonce (xored key bucket.nonce slots ++ end) is.node in
    let version : header_version bytes ≡ bucket.version = ap header_version apart ∙ version_again format bucket.node bucket.version bucket.nonce (xored key bucket.nonce slots ++ end) is.version in
    let nonce : header_nonce bytes ≡ bucket.nonce = ap header_nonce apart ∙ nonce_again format bucket.node bucket.version bucket.nonce (xored key bucket.nonce slots ++ end) is.nonce in
    let middle : take (s.z * (4 + s.b)) (drop 20 bytes) ≡ xored key bucket.nonce slots =
    ap (λ xs. take (s.z * (4 + s.b)) (drop 20 xs)) apart ∙ take_at (xored key bucket.nonce slots) end (s.z * (4 + s.b)) middle_len
    in
    let clear : xored key (header_nonce bytes) (take (s.z * (4 + s.b)) (drop 20 bytes)) ≡ slots = ap₂ (xored key) nonce middle ∙ xored_again key bucket.nonce slots in
    let again = slots_again s bucket.entries is.entries small in
    let header_none : header_fault s bucket.node format bytes ≡ None =
    without _ Length _ (eq-eqb (length bytes) (bucket_len s) len)
    (without _ Format _ (eq-eqb (get_or bytes 0 0) format (ap (λ xs. get_or xs 0 0) apart))
    (without _ Padding _
    (and_from _ _
    (and_from _ _ (eq-eqb (get_or bytes 1 0) 0 (ap (λ xs. get_or xs 1 0) apart)) (eq-eqb (get_or bytes 2 0) 0 (ap (λ xs. get_or xs 2 0) apart)))
    (eq-eqb (get_or bytes 3 0) 0 (ap (λ xs. get_or xs 3 0) apart)))
    (without _ Node None (eq-eqb (header_node bytes) bucket.node node) refl)))
    in
    let tail_none : tail_fault key s format bytes ≡ None =
    cond-true _ None (Some Tag)
    (ap₂ same (ap (drop (slots_len s.z s.b)) is.written ∙ drop_at front end (slots_len s.z s.b) front_len)
    (ap (tail key s.form format) (ap (take (slots_len s.z s.b)) is.written ∙ take_at front end (slots_len s.z s.b) front_len))
    ∙ same_self end)
    in
    let slots_none : slots_fault s.n s.z s.b (xored key (header_nonce bytes) (take (s.z * (4 + s.b)) (drop 20 bytes))) ≡ None = ap (slots_fault s.n s.z s.b) clear ∙ again.0 in
    let entries : entries_of s.z s.b (xored key (header_nonce bytes) (take (s.z * (4 + s.b)) (drop 20 bytes))) ≡ bucket.entries = ap (entries_of s.z s.b) clear ∙ again.1 in
    (ap₂ option_or (ap₂ option_or header_none tail_none) slots_none, ap₂ (λ f es. f es) (ap₂ (λ f n. f n) (ap₂ bucket_of node version) nonce) entries)

-- ---- of all encodings

pub few_blocks : (s : Shape) → IsShape s → s.n < 2 ^ 32
few_blocks s is =
    let leaves : 2 ^ s.l ≤ 2 ^ 16 = pow_mono is.height_high in
    let most : s.z * 2 ^ s.l ≤ 8 * 2 ^ 16 = mul-le s.z (2 ^ s.l) 8 (2 ^ 16) is.bucket_high leaves in
    let n = is.count_high in
    omega arith

pub same_bucket : (key : List ℕ) (s : Shape) (format : ℕ) (left right : Bucket) (bytes : List ℕ) → IsShape s → Encodes key s format left bytes → Encodes key s format right bytes → left ≡ right
same_bucket key s format left right bytes shape is also =
    sym (encoding_again key s format left bytes (few_blocks s shape) is).1 ∙ (encoding_again key s format right bytes (few_blocks s shape) also).1

pub faultless_encoding : (key : List ℕ) (s : Shape) (want format : ℕ) (bytes : List ℕ) → IsShape s → IsBytes bytes
    → (bucket_fault key s want format bytes ≡ None) ↔ ((bucket : Bucket) × (bucket.node ≡ want) × Encodes key s format bucket bytes)
faultless_encoding key s want format bytes shape fit = (
  λ none. let taken = encoding_taken key s want format bytes fit none in (read_bucket key s bytes, taken.0, taken.1),
  λ is. subst (λ node. bucket_fault key s node format bytes ≡ None) is.1 (encoding_again key s format is.0 bytes (few_blocks s shape) is.2).0,
)

-- ---- the encoding of a bucket

small_node : (s : Shape) (bucket : Bucket) → IsShape s → IsInForm s bucket → bucket.node < 2 ^ 32
small_node s bucket shape form =
    let height : s.l + 1 ≤ 17 = let l = shape.height_high in omega arith in
    let nodes : 2 ^ (s.l + 1) ≤ 2 ^ 17 = pow_mono height in
    let high = form.high in
    omega arith

pub encoding_of : (key : List ℕ) (s : Shape) (format : ℕ) (bucket : Bucket) (bytes : List ℕ) → IsShape s → IsInForm s bucket → bucket.version < 2 ^ 32 → bucket.nonce < 2 ^ 64
    → Encodes key s format bucket bytes ↔ (bytes ≡ encoded key s format bucket)
encoding_of key s format bucket bytes shape form version nonce = (
  λ is. is.written,
  λ e. record { entries = form.entries; node = small_node s bucket shape form; version = version; nonce = nonce; written = e },
)

pub encoded_parts : (key : List ℕ) (s : Shape) (format : ℕ) (bucket : Bucket) → IsShape s → IsInForm s bucket
    → (length (encoded key s format bucket) ≡ bucket_len s) × ((rest : List ℕ) → header_node (encoded key s format bucket ++ rest) ≡ bucket.node)
unfolding encoded
encoded_parts key s format bucket shape form =
    let head = header format bucket.node bucket.version bucket.nonce in
    let middle = xored key bucket.nonce (slots_of s.z s.b bucket.entries) in
    let front = body key s format bucket in
    let end = tail key s.form format front in (
      length-append front end ∙ ap₂ ◌+◌ (length_body key s format bucket form.entries) (length_tail key s.form format front),
      λ rest.
          ap header_node (append_assoc front end rest ∙ append_assoc head middle (end ++ rest))
          ∙ node_again format bucket.node bucket.version bucket.nonce (middle ++ (end ++ rest)) (small_node s bucket shape form),
    )

-- what stands behind a body in format 2 is the tag
tag_behind : (form : Form) (key front : List ℕ) → IsWritten form 2 → tail key form 2 front ≡ hmac (tag_key key) front
tag_behind One key front written = absurd cc
tag_behind Two key front written = refl
tag_behind Turn key front written = refl

pub tag_of_encoded : (key : List ℕ) (s : Shape) (bucket : Bucket) → IsWritten s.form 2 → AreInForm s bucket.entries → drop (slots_len s.z s.b) (encoded key s 2 bucket) ≡ tag_of key s bucket
unfolding encoded tag_of
tag_of_encoded key s bucket written form =
    let front = body key s 2 bucket in
    drop_at front (tail key s.form 2 front) (slots_len s.z s.b) (length_body key s 2 bucket form) ∙ tag_behind s.form key front written

-- the format of a version is one or the other
pub one_or_two : (form : Form) (version : ℕ) → (format_of form version ≡ 1) ⊎ (format_of form version ≡ 2)
one_or_two One version = inl refl
one_or_two Two version = inr refl
one_or_two Turn version = elim (eqb version 0) as (λ (loaded : Bool). IsWritten Turn (if loaded then 1 else 2)) [ true ↦ inl refl | false ↦ inr refl ]

pub format_is_written : (form : Form) (version : ℕ) → IsWritten form (format_of form version)
format_is_written One version = refl
format_is_written Two version = refl
format_is_written Turn version = one_or_two Turn version

-- ---- what a call answers and leaves in the room

pub found_by : (key : List ℕ) (s : Shape) (want format : ℕ) (bytes : List ℕ) (result : Result (Unit {0}) BucketFault) (old new : RoomState) → IsBytes bytes
    → result_err result ≡ bucket_fault key s want format bytes → OnOk result (new ≡ holding old (read_bucket key s bytes))
    → OnOk result (IsSomeAnd new.held (λ bucket. (bucket.node ≡ want) × Encodes key s format bucket bytes))
found_by key s want format bytes (Ok x) old new fit fault ok = subst (λ room. IsSomeAnd room.held (λ bucket. (bucket.node ≡ want) × Encodes key s format bucket bytes)) (sym ok) (encoding_taken key s want format bytes fit (sym fault))
found_by key s want format bytes (Err f) old new fit fault ok = tt

pub only_by : (key : List ℕ) (s : Shape) (want format : ℕ) (bytes : List ℕ) (result : Result (Unit {0}) BucketFault) (old new : RoomState) → IsShape s
    → result_err result ≡ bucket_fault key s want format bytes → OnOk result (new ≡ holding old (read_bucket key s bytes))
    → (bucket : Bucket) → bucket.node ≡ want → Encodes key s format bucket bytes → (result ≡ Ok tt) × (new.held ≡ Some bucket)
only_by key s want format bytes (Ok x) old new shape fault ok bucket node is = (refl, ap (λ room. room.held) ok ∙ ap Some (encoding_again key s format bucket bytes (few_blocks s shape) is).1)
only_by key s want format bytes (Err f) old new shape fault ok bucket node is =
    let none = subst (λ w. bucket_fault key s w format bytes ≡ None) node (encoding_again key s format bucket bytes (few_blocks s shape) is).0 in
    let no : Some f ≡ None = fault ∙ none in
    absurd cc
