-- Orders of a write-back, and the rooms that they are written in.
use Rattle.std.proofs.Common.{◌≡◌, ℕ, ◌*◌, ◌≤◌, List, length, All, sym, ap, ◌∙◌, arith}
use Rattle.std.proofs.lemmas.List.{length-map}
use Rattle.std.proofs.lemmas.Nat.{mul-le}
use Rattle.tao_base.specs.Buckets.{IsInForm}
use Rattle.tao_base.specs.Limits.{Shape, IsShape, bucket_len}
use Rattle.tao_base.specs.declared.storage.Bucket.{Bucket}
use Rattle.tao_base.specs.declared.storage.Entry.{Entry}
use Rattle.tao_base.specs.declared.storage.Order.{Order}
use Rattle.tao_base.proofs.ImageLemmas.{length_joined}
use Rattle.tao_bucket.specs.Encoding.{encoded, format_of}
use Rattle.tao_images.specs.Orders.{IsOrderOf, IsOrderRoom}
use Rattle.tao_images.proofs.OrderLemmas.{lengths}
use Rattle.tao_processor.specs.Steps.{stamps, written_of}
use Rattle.tao_processor.proofs.WrittenBack.{stamps_nodes, nodes_stay}

-- a room for more buckets is one for fewer
pub room_for_fewer : (s : Shape) (count few : ℕ) (order : Order) → few ≤ count → IsOrderRoom s count order → IsOrderRoom s few order
room_for_fewer s count few order low room = record {
  nodes = let there = room.nodes in omega (arith, there);
  image = let less : few * bucket_len s ≤ count * bucket_len s = mul-le few (bucket_len s) count (bucket_len s) low (omega arith) in let there = room.image in omega (arith, less, there);
}

-- an image has a bucket's bytes for each node
pub image_long : (key : List ℕ) (s : Shape) (version nonce : ℕ) (buckets : List Bucket) (order : Order) → IsShape s → IsOrderOf key s version nonce buckets order → All (IsInForm s) buckets
    → length order.image ≡ length order.nodes * bucket_len s
image_long key s version nonce buckets order shape is forms =
    ap (λ (x : Order). length x.image) is ∙ length_joined (encoded key s (format_of s.form version)) (bucket_len s) buckets (lengths key s (format_of s.form version) shape buckets forms)
    ∙ ap (λ n. n * bucket_len s) (sym (ap (λ (x : Order). length x.nodes) is ∙ length-map buckets (λ bucket. bucket.node)))

-- the nodes of an order of a write-back
pub sent_nodes : (key : List ℕ) (s : Shape) (contents : ℕ → List Entry) (nodes : List ℕ) (version nonce : ℕ) (order : Order)
    → IsOrderOf key s version nonce (written_of contents nodes version nonce) order → order.nodes ≡ nodes
sent_nodes key s contents nodes version nonce order is = ap (λ (x : Order). x.nodes) is ∙ nodes_stay contents (stamps nodes version nonce) ∙ stamps_nodes nodes version nonce
