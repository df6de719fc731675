-- Each stream of bytes has a reading.
use Rattle.std.proofs.Common.{◌≡◌, ◌⊎◌, inl, inr, ℕ, ◌+◌, ◌^◌, ◌<◌, ◌≤◌, List, [], ◌∷◌, ◌++◌, length, take, drop, slice_index, Option, Some, None, zero, suc, refl, sym, ap, subst, ◌∙◌, arith, append_assoc}
use Rattle.std.specs.Int.{w32, w64, to_be_bytes, from_be_bytes}
use Rattle.std.specs.List.{flat_map}
use Rattle.std.proofs.lemmas.Bool.{cases_lt, cases_eq}
use Rattle.std.proofs.lemmas.List.{append-nil, drop_all, length-drop, get_or-drop, length-take-le}
use Rattle.std.proofs.lemmas.List.Elements.{All-nil, All-cons}
use Rattle.tao_wire.specs.declared.message.Message.{Message}
use Rattle.tao_wire.specs.declared.message.Message.TheVariants.{Fetch, Stored, Get, Refused}
use Rattle.tao_wire.specs.declared.message.WireFault.{WireFault}
use Rattle.tao_wire.specs.declared.message.WireFault.TheVariants.{Long, Kind, Body}
use Rattle.tao_wire.specs.Frames.{content, frame, length_field, first_content, Fits, BeginsWith, BeginsWithSome, HasLength, HasWholeFrame, IsKind, IsNoContent, Ends, FrameStream}
use Rattle.tao_wire.specs.Reading.{IsSomeContent}
use Rattle.tao_wire.proofs.BodyLemmas.{AreBytes, small_take, joined_4, joined_8, no_fetch, no_path, no_store, no_stored, no_get, no_put, no_refused, some_path, some_store, some_put, some_value}
use Rattle.tao_wire.proofs.Frontier.{length_of, rest_of, frame_back}

bytes_drop : (n : ℕ) (bytes : List ℕ) → AreBytes bytes → AreBytes (drop n bytes)
bytes_drop n bytes small i = rw (get_or-drop n bytes i 0) (small (n + i))

-- the number that bytes begin with
number_4 : (bytes : List ℕ) → 4 ≤ length bytes → AreBytes bytes → (n : ℕ) × (n < 2 ^ 32) × (bytes ≡ to_be_bytes w32 n ++ drop 4 bytes)
number_4 bytes long small =
    let s = small_take 4 bytes small in
    (from_be_bytes w32 (take 4 bytes), omega (arith, s 0, s 1, s 2, s 3), joined_4 bytes (from_be_bytes w32 (take 4 bytes)) long small refl)

number_8 : (bytes : List ℕ) → 8 ≤ length bytes → AreBytes bytes → (n : ℕ) × (n < 2 ^ 64) × (bytes ≡ to_be_bytes w64 n ++ drop 8 bytes)
number_8 bytes long small =
    let s = small_take 8 bytes small in (
      from_be_bytes w64 (take 8 bytes),
      omega (arith, s 0, s 1, s 2, s 3, s 4, s 5, s 6, s 7),
      joined_8 bytes (from_be_bytes w64 (take 8 bytes)) long small refl,
    )

-- the number that four bytes are
whole_number : (bytes : List ℕ) → length bytes ≡ 4 → AreBytes bytes → (n : ℕ) × (n < 2 ^ 32) × (to_be_bytes w32 n ≡ bytes)
whole_number bytes len small =
    let n = number_4 bytes (omega arith) small in
    let none : drop 4 bytes ≡ [] = drop_all 4 bytes (omega arith) in
    (n.0, n.1, sym (n.2 ∙ (ap (λ rest. to_be_bytes w32 n.0 ++ rest) none ∙ append-nil (to_be_bytes w32 n.0))))

abbrev Decided : List ℕ → Type 0
Decided bytes = IsSomeContent bytes ⊎ IsNoContent bytes

fetch_decided : (body : List ℕ) → AreBytes body → Decided (1 ∷ body)
fetch_decided body small =
    elim (cases_eq (length body) 12) [
      | inl len ↦
          let behind = length-drop 8 body in
          let id = number_8 body (omega arith) small in
          let leaf = whole_number (drop 8 body) (omega arith) (bytes_drop 8 body small) in
          inl (Fetch id.0 leaf.0, (ap (λ all. 1 ∷ all) (ap (λ rest. to_be_bytes w64 id.0 ++ rest) leaf.2 ∙ sym id.2), (id.1, leaf.1)))
      | inr other ↦ inr (no_fetch body other)
    ]

path_decided : (body : List ℕ) → AreBytes body → Decided (2 ∷ body)
path_decided body small =
    elim (cases_lt (length body) 8) [
      | inl short ↦ inr (no_path body short)
      | inr long ↦ let id = number_8 body long small in inl (some_path body (drop 8 body) id.0 id.2 id.1)
    ]

store_decided : (body : List ℕ) → AreBytes body → Decided (3 ∷ body)
store_decided body small =
    elim (cases_lt (length body) 4) [
      | inl short ↦ inr (no_store body short)
      | inr long ↦ let version = number_4 body long small in inl (some_store body (drop 4 body) version.0 version.2 version.1)
    ]

stored_decided : (body : List ℕ) → AreBytes body → Decided (4 ∷ body)
stored_decided body small =
    elim (cases_eq (length body) 4) [
      | inl len ↦ let version = whole_number body len small in inl (Stored version.0, (ap (λ all. 4 ∷ all) version.2, version.1))
      | inr other ↦ inr (no_stored body other)
    ]

get_decided : (body : List ℕ) → AreBytes body → Decided (5 ∷ body)
get_decided body small =
    elim (cases_eq (length body) 4) [
      | inl len ↦ let block = whole_number body len small in inl (Get block.0, (ap (λ all. 5 ∷ all) block.2, block.1))
      | inr other ↦ inr (no_get body other)
    ]

put_decided : (body : List ℕ) → AreBytes body → Decided (6 ∷ body)
put_decided body small =
    elim (cases_lt (length body) 4) [
      | inl short ↦ inr (no_put body short)
      | inr long ↦ let block = number_4 body long small in inl (some_put body (drop 4 body) block.0 block.2 block.1)
    ]

refused_decided : (body : List ℕ) → AreBytes body → Decided (8 ∷ body)
refused_decided [] small = inr (no_refused [] (λ e. omega arith))
refused_decided (code ∷ []) small = inl (Refused code, (refl, small 0))
refused_decided (code ∷ more ∷ body) small = inr (no_refused (code ∷ more ∷ body) (λ e. omega arith))

at_kind : (kind known : ℕ) (body : List ℕ) → kind ≡ known → Decided (known ∷ body) → Decided (kind ∷ body)
at_kind kind known body e h = subst (λ k. Decided (k ∷ body)) (sym e) h

kind_decided : (kind : ℕ) (body : List ℕ) → AreBytes body → IsKind kind → Decided (kind ∷ body)
kind_decided kind body small is =
    elim (cases_eq kind 1) [
      | inl e ↦ at_kind kind 1 body e (fetch_decided body small)
      | inr n1 ↦ elim (cases_eq kind 2) [
        | inl e ↦ at_kind kind 2 body e (path_decided body small)
        | inr n2 ↦ elim (cases_eq kind 3) [
          | inl e ↦ at_kind kind 3 body e (store_decided body small)
          | inr n3 ↦ elim (cases_eq kind 4) [
            | inl e ↦ at_kind kind 4 body e (stored_decided body small)
            | inr n4 ↦ elim (cases_eq kind 5) [
              | inl e ↦ at_kind kind 5 body e (get_decided body small)
              | inr n5 ↦ elim (cases_eq kind 6) [
                | inl e ↦ at_kind kind 6 body e (put_decided body small)
                | inr n6 ↦ elim (cases_eq kind 7) [
                  | inl e ↦ at_kind kind 7 body e (inl (some_value body))
                  | inr n7 ↦ at_kind kind 8 body (omega arith) (refused_decided body small)
                ]
              ]
            ]
          ]
        ]
      ]
    ]

content_decided : (bytes : List ℕ) → 0 < length bytes → AreBytes bytes → IsKind (slice_index bytes 0) → Decided bytes
content_decided [] some small is = absurd (omega arith)
content_decided (kind ∷ body) some small is = kind_decided kind body (λ i. small (suc i)) is

-- what a stream goes on with
abbrev Next : ℕ → List ℕ → Type 0
Next limit bytes = BeginsWithSome limit bytes ⊎ ((fault : Option WireFault) × Ends limit bytes fault)

next_whole : (limit : ℕ) (bytes : List ℕ) → AreBytes bytes → HasWholeFrame limit bytes → Next limit bytes
next_whole limit bytes small w =
    let f = length_field bytes in
    let behind = length-drop 4 bytes in
    let here : f ≤ length (drop 4 bytes) = omega (arith, w.whole) in
    let len : length (first_content bytes) ≡ f = length-take-le f (drop 4 bytes) here in
    let some : 0 < length (first_content bytes) = omega (arith, w.length_good.some) in
    let kind = slice_index (first_content bytes) 0 in
    elim (cases_lt kind 1) [
      | inl none ↦ inr (Some Kind, (w, λ is. omega (arith, is.0)))
      | inr low ↦ elim (cases_lt 8 kind) [
        | inl none ↦ inr (Some Kind, (w, λ is. omega (arith, is.1)))
        | inr high ↦ elim (content_decided (first_content bytes) some (small_take f (drop 4 bytes) (bytes_drop 4 bytes small)) (low, high)) [
          | inl m ↦ inl (m.0, drop (4 + f) bytes, frame_back limit bytes m.0 small w m.1)
          | inr never ↦ inr (Some Body, inr (w, (low, high), never))
        ]
      ]
    ]

next : (limit : ℕ) (bytes : List ℕ) → AreBytes bytes → Next limit bytes
next limit bytes small =
    let f = length_field bytes in
    elim (cases_lt (length bytes) 4) [
      | inl few ↦ inr (None, inl few)
      | inr come ↦ elim (cases_lt limit f) [
        | inl long ↦ inr (Some Long, (come, long))
        | inr allowed ↦ elim (cases_eq f 0) [
          | inl none ↦ inr (Some Body, inl (come, none))
          | inr other ↦
              let good : HasLength limit bytes = record { come = come; some = omega arith; allowed = allowed } in
              elim (cases_lt (length bytes) (4 + f)) [
                | inl part ↦ inr (None, inr (good, part))
                | inr whole ↦ next_whole limit bytes small (record { length_good = good; whole = whole })
              ]
        ]
      ]
    ]

abbrev HasReading : ℕ → List ℕ → Type 0
HasReading limit stream = (messages : List Message) × (rest : List ℕ) × (fault : Option WireFault) × FrameStream limit stream messages rest fault

with_first : (limit : ℕ) (stream rest : List ℕ) (m : Message) → BeginsWith limit stream m rest → HasReading limit rest → HasReading limit stream
with_first limit stream rest m b r = (
  m ∷ r.0,
  r.1,
  r.2,
  record {
    splits = record {
      whole = b.first ∙ (ap (λ all. frame m ++ all) r.3.splits.whole ∙ sym (append_assoc (frame m) (flat_map frame r.0) r.1));
      each = All-cons (Fits limit) m r.0 b.fits r.3.splits.each;
    };
    end = r.3.end;
  },
)

with_none : (limit : ℕ) (stream : List ℕ) (fault : Option WireFault) → Ends limit stream fault → HasReading limit stream
with_none limit stream fault end = ([], stream, fault, record { splits = record { whole = refl; each = All-nil (Fits limit) }; end = end })

reading : (fuel limit : ℕ) (stream : List ℕ) → AreBytes stream → length stream < fuel → HasReading limit stream
reading zero limit stream small short = absurd (omega arith)
reading (suc fuel) limit stream small short =
    elim (next limit stream small) [
      | inl m ↦
          let len = length_of limit stream m.1 m.0 m.2 in
          let tail = rest_of limit stream m.1 m.0 m.2 in
          let bytes = bytes_drop (length (content m.0)) (drop 4 stream) (bytes_drop 4 stream small) in
          with_first limit stream m.1 m.0 m.2 (reading fuel limit m.1 (subst AreBytes tail bytes) (omega arith))
      | inr end ↦ with_none limit stream end.0 end.1
    ]

pub every_stream : (limit : ℕ) (stream : List ℕ) → AreBytes stream → HasReading limit stream
every_stream limit stream small = reading (length stream + 1) limit stream small (omega arith)
