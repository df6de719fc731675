-- Schedules: which move may come next, and how it changes the record. Moves and events are newest first.
use Rattle.std.specs.Prelude.{◌≡◌, ◌⊎◌, ℕ, ◌<◌, true, false, List, [], ◌∷◌}
use Rattle.tao_base.specs.declared.session.Event.{Event}
use Rattle.tao_base.specs.declared.session.Event.TheVariants.{Arrive, Done, Issue, Acked}
use Rattle.tao_base.specs.declared.storage.Bucket.{Bucket}
use Rattle.tao_base.specs.Limits.{session_limit}
use Rattle.tao_base.specs.Session.{Opening}
use Rattle.tao_model.specs.Events.{arrived, is_under_way, is_outstanding}
use Rattle.tao_model.specs.Requests.{fetches}
use Rattle.tao_model.specs.Residence.{is_issued}
use Rattle.tao_model.specs.Lawful.{OwesNone}
use Rattle.tao_schedule.specs.Moves.{Move, Arrives, Serves, Completes, Applies, Acknowledges, is_served, is_applied}

-- A fetched path is admitted: one more Done, and its write-back if one is due. Afterwards none is due.
abbrev pub TakesIn : Opening → List Event → ℕ → List Event → Type 0
TakesIn o es fetch now = OwesNone o now × (taken : List Bucket) × ((now ≡ Done fetch taken ∷ es)
    ⊎ ((version : ℕ) × (nonce : ℕ) × (buckets : List Bucket) × (now ≡ Issue version nonce buckets ∷ Done fetch taken ∷ es)))

-- A move may come after these moves and events and leads to the events `now`. A node may be applied again. No move fails.
unfoldable pub Goes : Opening → List Move → List Event → Move → List Event → Type 0
Goes o ms es (Arrives client op word) now = (arrived es < session_limit o.shape) × (now ≡ Arrive client op word ∷ es)
Goes o ms es (Serves fetch node) now = (is_under_way es fetch ≡ true) × (fetches o es fetch node ≡ true) × (is_served ms fetch node ≡ false) × (now ≡ es)
Goes o ms es (Completes fetch) now =
    (is_under_way es fetch ≡ true) × ((node : ℕ) → fetches o es fetch node ≡ true → is_served ms fetch node ≡ true) × TakesIn o es fetch now
Goes o ms es (Applies version node) now = (is_outstanding es version ≡ true) × (is_issued es version node ≡ true) × (now ≡ es)
Goes o ms es (Acknowledges version) now =
    (is_outstanding es version ≡ true) × ((node : ℕ) → is_issued es version node ≡ true → is_applied ms version node ≡ true) × (now ≡ Acked version ∷ es)

-- these moves lead from the opening to these events
unfoldable pub IsSchedule : Opening → List Move → List Event → Type 0
IsSchedule o [] es = es ≡ []
IsSchedule o (m ∷ ms) es = (before : List Event) × IsSchedule o ms before × Goes o ms before m es

-- these moves, the oldest first, lead from some moves and events to others
unfoldable pub GoOn : Opening → List Move → List Event → List Move → List Move → List Event → Type 0
GoOn o ms es [] later now = (later ≡ ms) × (now ≡ es)
GoOn o ms es (m ∷ rest) later now = (next : List Event) × Goes o ms es m next × GoOn o (m ∷ ms) next rest later now
