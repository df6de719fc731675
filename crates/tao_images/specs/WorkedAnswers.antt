-- Answers worked out by hand. Python's cryptography made the bytes of their slots, under the key of 32 zero bytes.
use Rattle.std.specs.Prelude.{◌≡◌, ℕ, List, [], ◌∷◌, ◌++◌, replicate, reverse, take, Option, Some, None}
use Rattle.tao_base.specs.declared.parameters.Form.TheVariants.{One, Turn}
use Rattle.tao_base.specs.declared.storage.BucketFault.TheVariants as faults
use Rattle.tao_base.specs.declared.storage.Order.{Order}
use Rattle.tao_base.specs.Limits.{shape}
use Rattle.tao_base.specs.Session.{History}
use Rattle.tao_model.specs.Worked.{bucket, entry, all_b, write_backs_out_of_order, kept_under_a_fetch}
use Rattle.tao_images.specs.declared.nodes.Refused.{Refused}
use Rattle.tao_images.specs.declared.nodes.Refused.TheVariants.{Damaged, Stale}
use Rattle.tao_images.specs.Answers.{first_met, visited, fetch_refusal, leaf_refusal}
use Rattle.tao_images.specs.Orders.{order_for, IsIssued}

-- 32 zero bytes
abbrev pub zero_key : List ℕ
zero_key = replicate 32 0

-- a session after so many events
abbrev pub first_events : History → ℕ → History
first_events h count = record h { events = take count h.events }

-- the bytes of an untagged bucket by its node, version, nonce and slots, with small numbers
abbrev pub image : ℕ → ℕ → ℕ → List ℕ → List ℕ
image node version nonce slots = 1 ∷ 0 ∷ 0 ∷ 0 ∷ 0 ∷ 0 ∷ 0 ∷ node ∷ 0 ∷ 0 ∷ 0 ∷ version ∷ 0 ∷ 0 ∷ 0 ∷ 0 ∷ 0 ∷ 0 ∷ 0 ∷ nonce ∷ slots

-- ---- the third fetch of the write-backs out of order, which asks for nodes 1 and 3, both of version 2

-- the root without entries, of version 2
abbrev pub root : List ℕ
root = image 1 2 6 (91 ∷ 19 ∷ 178 ∷ 35 ∷ 180 ∷ 48 ∷ 35 ∷ 113 ∷ [])

-- the root of version 1
abbrev pub older_root : List ℕ
older_root = image 1 1 4 (85 ∷ 19 ∷ 137 ∷ 217 ∷ 190 ∷ 219 ∷ 139 ∷ 86 ∷ [])

-- the same with a bit set in its slot, which has no entry
abbrev pub damaged_root : List ℕ
damaged_root = image 1 1 4 (85 ∷ 19 ∷ 137 ∷ 217 ∷ 190 ∷ 219 ∷ 139 ∷ 87 ∷ [])

-- node 3 of version 2, with block 1 and its value bbbb
abbrev pub leaf : List ℕ
leaf = image 3 2 7 (216 ∷ 177 ∷ 202 ∷ 189 ∷ 80 ∷ 43 ∷ 214 ∷ 219 ∷ [])

-- node 3 as it was loaded
abbrev pub loaded_leaf : List ℕ
loaded_leaf = image 3 0 3 (2 ∷ 47 ∷ 43 ∷ 242 ∷ 118 ∷ 88 ∷ 23 ∷ 67 ∷ [])

-- the first refusal of an answer to the third fetch
abbrev pub third_fetch : List ℕ → Option Refused
third_fetch path = fetch_refusal zero_key (first_events write_backs_out_of_order 9) 2 path

-- The first refusal is that of the first node from the root on. Of one node, damage comes before another version.
pub record FirstRefusals : Type 0 where
  pub latest : third_fetch (root ++ leaf) ≡ None
  pub older : third_fetch (older_root ++ leaf) ≡ Some (Stale 1 2 1)
  pub loaded : third_fetch (root ++ loaded_leaf) ≡ Some (Stale 3 2 0)
  pub both_older : third_fetch (older_root ++ loaded_leaf) ≡ Some (Stale 1 2 1)
  pub older_and_damaged : third_fetch (damaged_root ++ loaded_leaf) ≡ Some (Damaged 1 faults.Dummy)
  pub swapped : third_fetch (leaf ++ root) ≡ Some (Damaged 1 faults.Node)
  pub too_short : third_fetch root ≡ Some (Damaged 3 faults.Length)

-- ---- nodes that aren't looked at

-- an image of this many bytes that is no bucket's
abbrev pub no_bucket : ℕ → List ℕ
no_bucket len = replicate len 0

-- node 3 of the session in which a fetch keeps the root, as it was loaded, without entries
abbrev pub inner : List ℕ
inner = image 3 0 3 (2 ∷ 47 ∷ 43 ∷ 240 ∷ 118 ∷ 88 ∷ 23 ∷ 67 ∷ 255 ∷ 20 ∷ 12 ∷ 19 ∷ 227 ∷ 244 ∷ 4 ∷ 28 ∷ [])

-- its node 7, with block 1
abbrev pub last_leaf : List ℕ
last_leaf = image 7 0 7 (216 ∷ 177 ∷ 202 ∷ 189 ∷ 50 ∷ 73 ∷ 180 ∷ 185 ∷ 19 ∷ 34 ∷ 6 ∷ 63 ∷ 181 ∷ 66 ∷ 154 ∷ 48 ∷ [])

-- the first refusal of an answer to the second fetch, while the proxy holds the root
abbrev pub second_fetch : List ℕ → Option Refused
second_fetch path = fetch_refusal zero_key (first_events kept_under_a_fetch 5) 1 path

-- the last version of the root in the write-backs out of order, with block 1
abbrev pub final_root : List ℕ
final_root = image 1 3 8 (165 ∷ 65 ∷ 218 ∷ 94 ∷ 69 ∷ 60 ∷ 58 ∷ 224 ∷ [])

-- that of node 2, with block 0
abbrev pub final_left : List ℕ
final_left = image 2 1 5 (45 ∷ 139 ∷ 38 ∷ 53 ∷ 109 ∷ 116 ∷ 150 ∷ 206 ∷ [])

-- that of node 3, without a block
abbrev pub final_right : List ℕ
final_right = image 3 3 9 (173 ∷ 136 ∷ 47 ∷ 0 ∷ 221 ∷ 195 ∷ 85 ∷ 213 ∷ [])

-- the first refusal of an answer to their scan at a leaf
abbrev pub scan : ℕ → List ℕ → Option Refused
scan at path = leaf_refusal zero_key write_backs_out_of_order at path

-- A fetch doesn't look at nodes that the proxy holds, and the scan not at those that it met before.
pub record SkippedNodes : Type 0 where
  pub held_root : second_fetch (no_bucket 36 ++ inner ++ last_leaf) ≡ None
  pub damaged_inner : second_fetch (no_bucket 36 ++ no_bucket 36 ++ last_leaf) ≡ Some (Damaged 3 faults.Format)
  pub first_leaf : scan 0 (final_root ++ final_left) ≡ None
  pub damaged_root : scan 0 (no_bucket 28 ++ final_left) ≡ Some (Damaged 1 faults.Format)
  pub met_root : scan 1 (no_bucket 28 ++ final_right) ≡ None
  pub older_right : scan 1 (final_root ++ leaf) ≡ Some (Stale 3 3 2)

-- A scan meets each of seven nodes once.
pub record MetNodes : Type 0 where
  pub first : first_met 2 0 ≡ 1 ∷ 2 ∷ 4 ∷ []
  pub second : first_met 2 1 ≡ 5 ∷ []
  pub third : first_met 2 2 ≡ 3 ∷ 6 ∷ []
  pub all : visited 2 4 ≡ 1 ∷ 2 ∷ 4 ∷ 5 ∷ 3 ∷ 6 ∷ 7 ∷ []

-- ---- orders

-- the second write-back as an order
abbrev pub second_order : Order
second_order = order_for zero_key (shape 1 1 4 2 1 One) 2 6 (bucket 1 2 6 [] ∷ bucket 3 2 7 (entry 1 all_b ∷ []) ∷ [])

-- the load of the root in a mixed store, whose tags come later
abbrev pub mixed_load : Order
mixed_load = order_for zero_key (shape 1 1 4 2 1 Turn) 0 1 (bucket 1 0 1 [] ∷ [])

-- An order has its buckets' nodes, and their images one behind another. In a mixed store the load has zero bytes in the place of the tags.
pub record WorkedOrders : Type 0 where
  pub order : second_order ≡ record { version = 2; nonce = 6; nodes = 1 ∷ 3 ∷ []; image = root ++ leaf }
  pub issued : IsIssued zero_key (first_events write_backs_out_of_order 6) second_order
  pub not_yet : IsIssued zero_key (first_events write_backs_out_of_order 5) second_order → ⊥
  pub mixed : mixed_load.image ≡ image 1 0 1 (239 ∷ 63 ∷ 223 ∷ 214 ∷ 198 ∷ 21 ∷ 120 ∷ 251 ∷ []) ++ replicate 32 0
