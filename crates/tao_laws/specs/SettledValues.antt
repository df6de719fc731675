-- The settled value of a block: its first value after the operations of its settled arrivals. The events are newest first.
use Rattle.std.specs.Prelude.{ℕ, Bool, if◌then◌else◌, List, [], ◌∷◌}
use Rattle.tao_base.specs.declared.session.Event.{Event}
use Rattle.tao_base.specs.declared.session.Event.TheVariants.{Arrive, Done, Issue, Acked, Fault}
use Rattle.tao_base.specs.Session.{Opening}
use Rattle.tao_base.specs.Array.{array_step, block_at}
use Rattle.tao_model.specs.Events.{arrived}
use Rattle.tao_model.specs.Requests.{is_settled}

-- the plain array after the arrivals that pass a test, in the order of arrival
abbrev pub array_where : (ℕ → Bool) → Opening → List Event → List (List ℕ)
array_where passes o [] = o.first
array_where passes o (Arrive client op word ∷ es) = if passes (arrived es) then array_step (array_where passes o es) op else array_where passes o es
array_where passes o (Done arrival taken ∷ es) = array_where passes o es
array_where passes o (Issue version nonce buckets ∷ es) = array_where passes o es
array_where passes o (Acked version ∷ es) = array_where passes o es
array_where passes o (Fault cause ∷ es) = array_where passes o es

-- the value of a block after the settled arrivals, in the order of arrival
abbrev pub settled_value : Opening → List Event → ℕ → List ℕ
settled_value o es block = block_at (array_where (is_settled es) o es) block
