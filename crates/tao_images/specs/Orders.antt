-- Orders: what they send, which are a session's, and the room that they are written in.
use Rattle.std.specs.Prelude.{◌≡◌, ℕ, ◌*◌, ◌≤◌, List, ◌++◌, length, Contains}
use Rattle.std.specs.List.{flat_map}
use Rattle.tao_base.specs.Limits.{Shape, bucket_len}
use Rattle.tao_base.specs.declared.session.Event.{Event}
use Rattle.tao_base.specs.declared.session.Event.TheVariants.{Issue}
use Rattle.tao_base.specs.declared.storage.Bucket.{Bucket}
use Rattle.tao_base.specs.declared.storage.Order.{Order}
use Rattle.tao_base.specs.Session.{History}
use Rattle.tao_bucket.specs.Encoding.{encoded, format_of}
use Rattle.tao_model.specs.Trace.{nodes_in}

-- the order that sends these buckets with this version and this first nonce, in the format of the version
abbrev pub order_for : List ℕ → Shape → ℕ → ℕ → List Bucket → Order
order_for key s version nonce buckets = record {
  version = version;
  nonce = nonce;
  nodes = nodes_in buckets;
  image = flat_map (encoded key s (format_of s.form version)) buckets;
}

-- the order is this one
abbrev pub IsOrderOf : List ℕ → Shape → ℕ → ℕ → List Bucket → Order → Type 0
IsOrderOf key s version nonce buckets order = order ≡ order_for key s version nonce buckets

-- the order sends a write-back of the session
abbrev pub IsIssued : List ℕ → History → Order → Type 0
IsIssued key h order =
    (buckets : List Bucket) × Contains h.events (Issue order.version order.nonce buckets) × IsOrderOf key h.opening.shape order.version order.nonce buckets order

-- An order of a session stays one with more events.
abbrev pub IssuedStays : Type 0
IssuedStays = (key : List ℕ) (h : History) (more : List Event) (order : Order) → IsIssued key h order → IsIssued key (record h { events = h.events ++ more }) order

-- an order of so many buckets can be written in place of this one
pub record IsOrderRoom (s : Shape) (count : ℕ) (order : Order) : Type 0 where
  pub nodes : count ≤ length order.nodes
  pub image : count * bucket_len s ≤ length order.image
