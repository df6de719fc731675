-- What a link to the server may tell, which orders it takes, and which links are for a store.
use Rattle.std.specs.Prelude.{◌≡◌, ◌⊎◌, ℕ, ◌+◌, ◌*◌, ◌≤◌, ◌<◌, min, max, List, [], ◌∷◌, ◌++◌, length, take, drop, slice_index, Option, Some, None, Result, MatchResult, All, ⊤}
use Rattle.std.specs.Int.{w32, from_be_bytes}
use Rattle.tao_base.specs.declared.links.Asked.{Asked}
use Rattle.tao_base.specs.declared.links.Asked.TheVariants.{Store}
use Rattle.tao_base.specs.declared.storage.Order.{Order}
use Rattle.tao_base.specs.Limits.{Shape, bucket_len}
use Rattle.tao_base.specs.Tree.{node_count}

-- the height of the tree, the bytes of a bucket, and the greatest number of buckets that one store may have
pub record Reach : Type 0 where
  pub height : ℕ
  pub bucket_len : ℕ
  pub most : ℕ

-- what was asked, in order; the paths that its fetches filled with Ok; the versions of its stores that answered Ok
pub record Told : Type 0 where
  pub asked : List Asked
  pub answers : List (List ℕ)
  pub stored : List ℕ

-- a log of these calls, these answers and these stored versions
abbrev pub told : List Asked → List (List ℕ) → List ℕ → Told
told asked answers stored = record { asked = asked; answers = answers; stored = stored }

-- what a link is asked with an order: to store its image at its nodes, with its version and first nonce
abbrev pub asked_of : Order → Asked
asked_of order = Store order.version order.nonce order.nodes order.image

-- A link has a log before and after the call, or neither. A call that is Ok is logged with what came of it; one that failed is logged
-- without an answer, or not at all.
abbrev pub TellsMore : {T E : Type 0} → Option Told → Option Told → Asked → Result T E → List (List ℕ) → List ℕ → Type 0
TellsMore None None asked result answers stored = ⊤
TellsMore None (Some new) asked result answers stored = ⊥
TellsMore (Some old) None asked result answers stored = ⊥
TellsMore (Some old) (Some new) asked result answers stored = MatchResult result
    (λ _. new ≡ told (old.asked ++ asked ∷ []) (old.answers ++ answers) (old.stored ++ stored))
    (λ _. (new ≡ told (old.asked ++ asked ∷ []) old.answers old.stored) ⊎ (new ≡ old))

-- the node in a bucket's header
abbrev pub header_node : List ℕ → ℕ
header_node bucket = from_be_bytes w32 (take 4 (drop 4 bucket))

-- an order that a link of this reach takes: its image is a bucket for each of its nodes, in this order
pub record IsSendable (reach : Reach) (order : Order) : Type 0 where
  pub few : length order.nodes ≤ reach.most
  pub nodes : All (λ w. (1 ≤ w) × (w ≤ node_count reach.height)) order.nodes
  pub image : length order.image ≡ length order.nodes * reach.bucket_len
  pub headers : (i : ℕ) → i < length order.nodes → header_node (drop (i * reach.bucket_len) order.image) ≡ slice_index order.nodes i

-- the most buckets of one order: a period's paths, or a part of the load, and no more than the tree has nodes
abbrev pub order_limit : Shape → ℕ
order_limit s = min (node_count s.l) (max 256 (s.k * (s.l + 1)))

-- a link that leads to a tree of these parameters and takes orders of so many buckets
pub record IsReachFor (s : Shape) (reach : Reach) : Type 0 where
  pub height : reach.height ≡ s.l
  pub bucket_len : reach.bucket_len ≡ bucket_len s
  pub most : order_limit s ≤ reach.most

-- each such link takes the order
abbrev pub FitsLinks : Shape → Order → Type 0
FitsLinks s order = (reach : Reach) → IsReachFor s reach → IsSendable reach order
