-- What contracts see of a world, and what holds of each.
use Rattle.std.specs.Prelude.{◌≡◌, ◌⊎◌, ℕ, ◌+◌, ◌*◌, List, [], ◌∷◌, Bool, length, reverse, Option, Some, None}
use Rattle.tao_base.specs.Limits.{Shape, bucket_len}
use Rattle.tao_desk.specs.Calls.{IsStarted}
use Rattle.tao_desk.specs.State.{DeskState}
use Rattle.tao_model.specs.Events.{arrived, issues}
use Rattle.tao_schedule.specs.Moves.{Move}
use Rattle.tao_tape.specs.Tapes.{either_word}
use Rattle.tao_text.specs.declared.script.Script.{Script}
use Rattle.tao_tree.specs.Nodes.{TreeState, all_applied, empty_tree}
use Rattle.tao_world.specs.Changes.{image_of}
use Rattle.tao_world.specs.Opening.{first_blocks, source_of}
use Rattle.tao_world.specs.Shows.{Shows, InStep}
use Rattle.tao_world.specs.State.{Reading, Sending, row_at}

-- the desk, the server's tree, and the requests under way: fetches by arrival, stores by version
pub record WorldState : Type 0 where
  pub desk : DeskState
  pub tree : TreeState
  pub fetches : List (Option Reading)
  pub stores : List (Option Sending)

-- the world is as these moves leave it
unfoldable pub IsLeftBy : List Move → WorldState → Type 0
IsLeftBy ms w = Shows ms w.desk.key w.desk.history w.tree w.fetches w.stores

-- the world is in step with its desk
unfoldable pub IsInStep : WorldState → Type 0
IsInStep w = InStep w.desk.key w.desk.history w.tree w.fetches w.stores

-- the world of a script before the first step
pub record IsOpened (script : Script) (w : WorldState) : Type 0 where
  pub desk : IsStarted either_word (source_of script) script.params script.key (first_blocks script.params.n script.params.b script.loads) w.desk
  pub tree : w.tree ≡ all_applied (empty_tree script.params) 0 (image_of script.key script.params 0 w.desk.history.opening.loaded)
  pub fetches : w.fetches ≡ []
  pub stores : w.stores ≡ None ∷ []

-- ---- inside

-- the buckets of a path, and which of them were read
pub record RoomState : Type 0 where
  pub read : List Bool
  pub bytes : List ℕ

-- room for no path, or for one of a store
abbrev pub IsRoom : Shape → List Bool → List ℕ → Type 0
IsRoom s read bytes = ((length read ≡ 0) × (length bytes ≡ 0)) ⊎ ((length read ≡ s.l + 1) × (length bytes ≡ (s.l + 1) * bucket_len s))

-- A world: some moves left it so, its tables have a place for each arrival and each version, and its rooms are of paths.
pub record IsWorld (w : WorldState) (spare : RoomState) : Type 0 where
  pub moves : List Move
  pub shows : IsLeftBy moves w
  pub fetch_count : length w.fetches ≡ arrived (reverse w.desk.history.events)
  pub store_count : length w.stores ≡ issues (reverse w.desk.history.events) + 1
  pub rooms : (i : ℕ) (reading : Reading) → row_at w.fetches i ≡ Some reading → IsRoom w.desk.history.opening.shape reading.read reading.bytes
  pub spare_is : IsRoom w.desk.history.opening.shape spare.read spare.bytes
