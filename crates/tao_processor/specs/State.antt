-- What contracts see of the processor, and what is known of it after each event.
use Rattle.std.specs.Prelude.{◌≡◌, ℕ, ◌+◌, ◌<◌, Bool, false, List, [], reverse, Option}
use Rattle.tao_base.specs.declared.session.Event.TheVariants.{Issue}
use Rattle.tao_model.specs.Events.{issues}
use Rattle.tao_base.specs.declared.storage.Bucket.{Bucket}
use Rattle.tao_base.specs.Limits.{Shape}
use Rattle.tao_base.specs.Session.{History}
use Rattle.tao_base.specs.Links.{FitsLinks}
use Rattle.tao_base.specs.declared.storage.Order.{Order}
use Rattle.tao_images.specs.Answers.{AreFetched, kept_tag, with_event}
use Rattle.tao_images.specs.Paths.{path_refusal, buckets_read}
use Rattle.tao_images.specs.declared.nodes.Refused.{Refused}
use Rattle.tao_images.specs.Honesty.{HasTagOf}
use Rattle.tao_images.specs.Orders.{IsOrderOf}
use Rattle.tao_model.specs.Requests.{position}
use Rattle.tao_model.specs.Residence.{last_touch, is_resident, newest_version, Unaltered}
use Rattle.tao_held.specs.Held.{held, IsOfProxy}
use Rattle.tao_tables.specs.Tables.{cover_count}
use Rattle.tao_holdings.specs.Holding.{HoldingsState, is_held, contents_in, count_in, touch_in, version_in, leaf_by, AreForms}

-- the key, the record, what is held, whether one more arrival is preallocated, and the buckets that were looked at last
pub record ProcessorState : Type 0 where
  pub key : List ℕ
  pub history : History
  pub holdings : HoldingsState
  pub ready : Bool
  pub looked : List Bucket

-- What is known of a processor after each event, also between a Done and its write-back.
pub record IsProcessorSound (c : ProcessorState) : Type 0 where
  pub proxy : IsOfProxy c.history.opening (reverse c.history.events)
  pub residents : (w : ℕ) → is_held c.holdings w ≡ is_resident c.history.opening (reverse c.history.events) w
  pub contents : (w : ℕ) → contents_in c.holdings w ≡ held c.history.opening (reverse c.history.events) w
  pub positions : (b : ℕ) → b < c.history.opening.shape.n → leaf_by c.holdings b ≡ position c.history.opening (reverse c.history.events) b
  pub counts : (w : ℕ) → count_in c.holdings w ≡ cover_count c.history.opening (reverse c.history.events) w
  pub touches : (w : ℕ) → touch_in c.holdings w ≡ last_touch c.history.opening (reverse c.history.events) w
  pub versions : (w : ℕ) → version_in c.holdings w ≡ newest_version (reverse c.history.events) w
  pub tags : Unaltered (HasTagOf c.key c.history.opening.shape) c.history.opening (reverse c.history.events)
  pub shape : c.holdings.shape ≡ c.history.opening.shape
  pub forms : AreForms c.holdings

-- what an answer to a fetch of the path to a leaf is refused for, first
abbrev pub look_refusal : ProcessorState → ℕ → List ℕ → Option Refused
look_refusal c leaf image =
    path_refusal c.key c.history.opening.shape (is_resident c.history.opening (reverse c.history.events)) (newest_version (reverse c.history.events))
    (kept_tag c.key c.history.opening (reverse c.history.events)) leaf image

-- the buckets that are read from one that isn't refused: those of the nodes that the proxy doesn't hold
abbrev pub buckets_looked : ProcessorState → ℕ → List ℕ → List Bucket
buckets_looked c leaf image = buckets_read c.key c.history.opening.shape (is_resident c.history.opening (reverse c.history.events)) leaf image

-- the buckets that were looked at last were read from an answer to this arrival's fetch
abbrev pub IsLookedAt : ProcessorState → ℕ → Type 0
IsLookedAt c i = (path : List ℕ) × AreFetched c.key c.history i path c.looked

-- A write-back was recorded, and the order sends its buckets. Of all else that contracts see, only what is held may differ.
pub record Issues (old new : ProcessorState) (order : Order) : Type 0 where
  pub buckets : List Bucket
  pub state : new ≡ record old { history = with_event old.history (Issue (issues (reverse old.history.events) + 1) order.nonce buckets); holdings = new.holdings }
  pub sends : IsOrderOf old.key old.history.opening.shape (issues (reverse old.history.events) + 1) order.nonce buckets order
  pub fits : FitsLinks old.history.opening.shape order

-- a session begins with this opening
pub record IsOpened (k : List ℕ) (s : Shape) (tape : List ℕ) (blocks : List (List ℕ)) (c : ProcessorState) : Type 0 where
  pub key_is : c.key ≡ k
  pub shape_is : c.history.opening.shape ≡ s
  pub words_are : c.history.opening.words ≡ tape
  pub first_is : c.history.opening.first ≡ blocks
  pub events_are : c.history.events ≡ []
  pub ready_is : c.ready ≡ false
  pub looked_is : c.looked ≡ []
