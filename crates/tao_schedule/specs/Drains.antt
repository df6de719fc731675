-- The drain of a session: fetches under way are finished, then outstanding stores are sent again and acknowledged.
-- Moves and events are newest first; parts and versions are in their order.
use Rattle.std.specs.Prelude.{◌≡◌, ◌⊎◌, ℕ, ◌+◌, List, [], ◌∷◌, ◌++◌, map, filter, length, false, None}
use Rattle.std.specs.List.{flat_map, range_with_len}
use Rattle.tao_base.specs.declared.session.Event.{Event}
use Rattle.tao_base.specs.Session.{Opening}
use Rattle.tao_model.specs.Events.{arrived, dones, issues, acks, is_under_way, is_outstanding}
use Rattle.tao_model.specs.Lawful.{FollowsLawfully}
use Rattle.tao_laws.specs.Counted.{IsAllAcked}
use Rattle.tao_text.specs.declared.script.What.{What}
use Rattle.tao_schedule.specs.Moves.{Move, Applies, Acknowledges, nodes_issued}
use Rattle.tao_schedule.specs.Schedules.{IsSchedule, GoOn}
use Rattle.tao_schedule.specs.Steps.{AreParts}
use Rattle.tao_schedule.specs.Alike.{AreAlike}

-- for each arrival under way, rising: all its reads and its Done
unfoldable pub drain_parts : List Event → List What
drain_parts es = flat_map (λ i. What.Read i None ∷ What.Done i ∷ []) (filter (is_under_way es) (range_with_len 0 (arrived es)))

-- the outstanding versions, rising
abbrev pub outstanding : List Event → List ℕ
outstanding es = filter (is_outstanding es) (range_with_len 1 (issues es))

-- a whole store is sent again and acknowledged
abbrev pub again_moves : List Event → ℕ → List Move
again_moves es v = map (Applies v) (nodes_issued es v) ++ Acknowledges v ∷ []

-- these stores are sent again, one after another
unfoldable pub AreSentAgain : Opening → List Move → List Event → List ℕ → List Move → List Event → Type 0
AreSentAgain o ms es [] later now = (later ≡ ms) × (now ≡ es)
AreSentAgain o ms es (v ∷ rest) later now = (ns : List Move) × (next : List Event) × GoOn o ms es (again_moves es v) ns next × AreSentAgain o ns next rest later now

-- A session is drained: first the fetches under way, then the versions `again`.
pub record AreDrained (o : Opening) (ms : List Move) (es : List Event) (again : List ℕ) (later : List Move) (now : List Event) : Type 0 where
  pub middle : List Move
  pub between : List Event
  pub fetched : AreParts o (λ i. 0) ms es (drain_parts es) middle between
  pub versions : again ≡ outstanding between
  pub sent : AreSentAgain o middle between again later now

-- A drain was broken off: some of its parts were played and, once all were, some of its stores were sent again.
pub record IsPartlyDrained (o : Opening) (ms : List Move) (es : List Event) (again : List ℕ) (later : List Move) (now : List Event) : Type 0 where
  pub played : List What
  pub unplayed : List What
  pub parts : played ++ unplayed ≡ drain_parts es
  pub middle : List Move
  pub between : List Event
  pub fetched : AreParts o (λ i. 0) ms es played middle between
  pub unsent : List ℕ
  pub versions : (again ≡ []) ⊎ ((unplayed ≡ []) × (again ++ unsent ≡ outstanding between))
  pub sent : AreSentAgain o middle between again later now

-- A drain that was broken off is part of a schedule, too.
abbrev pub PartDrainGoesOn : Type 0
PartDrainGoesOn = (o : Opening) (ms : List Move) (es : List Event) (again : List ℕ) (later : List Move) (now : List Event)
    → IsSchedule o ms es → IsPartlyDrained o ms es again later now → IsSchedule o later now

-- A whole drain is one of which nothing is left.
abbrev pub DrainIsPlayed : Type 0
DrainIsPlayed = (o : Opening) (ms : List Move) (es : List Event) (again : List ℕ) (later : List Move) (now : List Event)
    → AreDrained o ms es again later now → IsPartlyDrained o ms es again later now

-- A drain is part of a schedule.
abbrev pub DrainGoesOn : Type 0
DrainGoesOn = (o : Opening) (ms : List Move) (es : List Event) (again : List ℕ) (later : List Move) (now : List Event)
    → IsSchedule o ms es → AreDrained o ms es again later now → IsSchedule o later now

-- sessions that are alike after their drains and sent the same stores again
pub record IsDrainAlike (o : Opening) (later : List Move) (now : List Event) (again : List ℕ) (other : Opening) (newer : List Move) (thus : List Event) (too : List ℕ) : Type 0 where
  pub versions : again ≡ too
  pub alike : AreAlike o later now other newer thus

-- Sessions that are alike still are after their drains.
abbrev pub DrainsAlike : Type 0
DrainsAlike = (o : Opening) (ms : List Move) (es : List Event) (again : List ℕ) (later : List Move) (now : List Event)
    (other : Opening) (ns : List Move) (others : List Event) (too : List ℕ) (newer : List Move) (thus : List Event)
    → IsSchedule o ms es → IsSchedule other ns others → FollowsLawfully o now → FollowsLawfully other thus → AreAlike o ms es other ns others
    → AreDrained o ms es again later now → AreDrained other ns others too newer thus → IsDrainAlike o later now again other newer thus too

-- after a drain nothing is under way and nothing is outstanding
pub record IsQuietSession (es now : List Event) (again : List ℕ) : Type 0 where
  pub arrivals : arrived now ≡ arrived es
  pub finished : (i : ℕ) → is_under_way now i ≡ false
  pub all_done : dones now ≡ arrived now
  pub acked : IsAllAcked now
  pub acks : acks now ≡ acks es + length again

-- A drain leaves a quiet session; `again` are the versions that it acknowledged.
abbrev pub DrainEnds : Type 0
DrainEnds = (o : Opening) (ms : List Move) (es : List Event) (again : List ℕ) (later : List Move) (now : List Event)
    → FollowsLawfully o now → AreDrained o ms es again later now → IsQuietSession es now again
