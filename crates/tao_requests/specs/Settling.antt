-- How the requests on one block are answered, one after another.
use Rattle.std.specs.Prelude.{◌≡◌, ℕ, if◌then◌else◌, List, [], ◌∷◌, ◌++◌, take, drop, Some, IsSome}
use Rattle.tao_base.specs.declared.calls.Op.{Op}
use Rattle.tao_base.specs.declared.calls.Op.TheVariants.{Read, Write, Pad}
use Rattle.tao_model.specs.Events.{names}
use Rattle.tao_requests.specs.declared.request.Request.{Request}
use Rattle.tao_requests.specs.State.{RequestsState, request_at, block_of}

-- the value of the block after an operation on it
abbrev pub value_after : List ℕ → Op → List ℕ
value_after value (Read block) = value
value_after value (Write block written) = written
value_after value Pad = value

-- the request with this value as its answer
abbrev pub answered : Request → List ℕ → Request
answered request value = record request { answer = Some value }

-- each request on the block is answered the value before it; the others are unchanged
abbrev pub answered_all : ℕ → List ℕ → List Request → List Request
answered_all block value [] = []
answered_all block value (request ∷ rest) =
    if names block request.op then answered request value ∷ answered_all block (value_after value request.op) rest
    else request ∷ answered_all block value rest

-- the value after all of them
abbrev pub value_after_all : ℕ → List ℕ → List Request → List ℕ
value_after_all block value [] = value
value_after_all block value (request ∷ rest) =
    if names block request.op then value_after_all block (value_after value request.op) rest else value_after_all block value rest

-- the requests from this number on are answered in turn; those before it are unchanged
abbrev pub settled_from : ℕ → ℕ → List ℕ → List Request → List Request
settled_from first block value requests = take first requests ++ answered_all block value (drop first requests)

-- the block's value after the requests from this number on
abbrev pub value_from : ℕ → ℕ → List ℕ → List Request → List ℕ
value_from first block value requests = value_after_all block value (drop first requests)

-- the requests on the block of this one, from it on, are settled
abbrev pub settled : RequestsState → ℕ → List ℕ → RequestsState
settled state first value = record state { requests = settled_from first (block_of state.requests first) value state.requests }

-- an answer never changes
abbrev pub KeepsAnswers : List Request → List Request → Type 0
KeepsAnswers old new = (i : ℕ) → IsSome (request_at old i).answer → (request_at new i).answer ≡ (request_at old i).answer
