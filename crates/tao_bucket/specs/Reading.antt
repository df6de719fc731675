-- What bytes say of a bucket, and the first fault of those that are no bucket's encoding.
use Rattle.std.specs.Prelude.{◌==◌, ℕ, zero, suc, ◌+◌, ◌-◌, ◌*◌, Bool, true, not, ◌&&◌, nat_lt, List, [], ◌∷◌, length, take, drop, slice_index, Option, Some, None, if◌then◌else◌}
use Rattle.std.specs.List.{filter_map, list_all, range_with_len}
use Rattle.std.specs.Option.{option_or}
use Rattle.std.specs.Int.{w32, w64, from_be_bytes}
use Rattle.tao_base.specs.Limits.{Shape, slots_len, bucket_len}
use Rattle.tao_base.specs.Links.{header_node}
use Rattle.tao_base.specs.Transfers.{same}
use Rattle.tao_base.specs.declared.storage.BucketFault.{BucketFault}
use Rattle.tao_base.specs.declared.storage.Bucket.{Bucket}
use Rattle.tao_base.specs.declared.storage.Entry.{Entry}
use Rattle.tao_base.specs.declared.storage.BucketFault.TheVariants.{Length, Format, Padding, Node, Id, Order, Dummy, Tag}
use Rattle.tao_bucket.specs.Encoding.{tail}
use Rattle.tao_tape.specs.Keystream.{xored}

-- the version in a bucket's header
abbrev pub header_version : List ℕ → ℕ
header_version bytes = from_be_bytes w32 (take 4 (drop 8 bytes))

-- the nonce in a bucket's header
abbrev pub header_nonce : List ℕ → ℕ
header_nonce bytes = from_be_bytes w64 (take 8 (drop 12 bytes))

-- the first fault before the slots: of the length, and of the header
abbrev pub header_fault : Shape → ℕ → ℕ → List ℕ → Option BucketFault
header_fault s want format bytes =
    if not (length bytes == bucket_len s) then Some Length
    else (if not (slice_index bytes 0 == format) then Some Format
    else (if not (slice_index bytes 1 == 0 && slice_index bytes 2 == 0 && slice_index bytes 3 == 0) then Some Padding
    else (if not (header_node bytes == want) then Some Node
    else None)))

-- what stands behind the body isn't what belongs there
abbrev pub tail_fault : List ℕ → Shape → ℕ → List ℕ → Option BucketFault
tail_fault key s format bytes =
    if same (drop (slots_len s.z s.b) bytes) (tail key s.form format (take (slots_len s.z s.b) bytes)) then None else Some Tag

-- slot i of slots in clear, which have blocks of b bytes
abbrev pub slot_at : ℕ → List ℕ → ℕ → List ℕ
slot_at b slots i = take (4 + b) (drop (i * (4 + b)) slots)

-- a slot's id field, which is one more than the id of its entry, or 0 in a dummy
abbrev pub id_field : List ℕ → ℕ
id_field slot = from_be_bytes w32 (take 4 slot)

-- an id field may follow that of the slot before: there is none, or it is of an entry of a smaller id
abbrev pub may_follow : Option ℕ → ℕ → Bool
may_follow None field = true
may_follow (Some before) field = nat_lt 0 before && nat_lt before field

-- the fault of a slot, in a store of n blocks
abbrev pub slot_fault : ℕ → Option ℕ → List ℕ → Option BucketFault
slot_fault n before slot =
    if nat_lt n (id_field slot) then Some Id
    else (if id_field slot == 0 then (if list_all (λ byte. byte == 0) (drop 4 slot) then None else Some Dummy)
    else (if may_follow before (id_field slot) then None else Some Order))

-- the id field of the slot before
abbrev pub field_before : ℕ → List ℕ → ℕ → Option ℕ
field_before b slots zero = None
field_before b slots (suc i) = Some (id_field (slot_at b slots i))

-- the fault of slot i of slots in clear, by itself or behind the slot before it, in a store of n blocks of b bytes
unfoldable pub fault_at : ℕ → ℕ → List ℕ → ℕ → Option BucketFault
fault_at n b slots i = slot_fault n (field_before b slots i) (slot_at b slots i)

-- the first item of a list, where there is one
abbrev pub first_of : {X : Type 0} → List X → Option X
first_of [] = None
first_of (x ∷ xs) = Some x

-- the first fault of z slots
abbrev pub slots_fault : ℕ → ℕ → ℕ → List ℕ → Option BucketFault
slots_fault n z b slots = first_of (filter_map (fault_at n b slots) (range_with_len 0 z))

-- the slots in clear
unfoldable pub clear_slots : List ℕ → Shape → List ℕ → List ℕ
clear_slots key s bytes = xored key (header_nonce bytes) (take (s.z * (4 + s.b)) (drop 20 bytes))

-- the first fault of bytes that are no encoding of a bucket of the wanted node in this format
unfoldable pub bucket_fault : List ℕ → Shape → ℕ → ℕ → List ℕ → Option BucketFault
bucket_fault key s want format bytes =
    option_or (option_or (header_fault s want format bytes) (tail_fault key s format bytes)) (slots_fault s.n s.z s.b (clear_slots key s bytes))

-- the entry of a slot, where it has one
unfoldable pub entry_of : List ℕ → Option Entry
entry_of slot = if id_field slot == 0 then None else Some (record { id = id_field slot - 1; value = drop 4 slot })

-- the entry of slot i of slots in clear, where it has one
unfoldable pub entry_at : ℕ → List ℕ → ℕ → Option Entry
entry_at b slots i = entry_of (slot_at b slots i)

-- the entries of z slots in clear
abbrev pub entries_of : ℕ → ℕ → List ℕ → List Entry
entries_of z b slots = filter_map (entry_at b slots) (range_with_len 0 z)

-- the bucket of bytes without a fault
abbrev pub read_bucket : List ℕ → Shape → List ℕ → Bucket
read_bucket key s bytes = record {
  node = header_node bytes;
  version = header_version bytes;
  nonce = header_nonce bytes;
  entries = entries_of s.z s.b (clear_slots key s bytes);
}
