-- What clauses say of the queue and its passes.
use Rattle.std.specs.Prelude.{◌≡◌, ℕ, ◌++◌, List, length, map}
use Rattle.atomic_table.specs.Seated.{TableId}
use Rattle.crossbeam_queue.specs.Passes.{view, ruled_capacity}
use Rattle.tao_orders.specs.Works.{number_of}
use Rattle.tao_orders.specs.declared.orders.Orders.{Orders}
use Rattle.tao_orders.specs.declared.passes.PutPass.{PutPass}
use Rattle.tao_orders.specs.declared.passes.TakePass.{TakePass}
use Rattle.tao_orders.specs.declared.work.Work.{Work}

-- which queue it is
abbrev pub QueueId : Type 0
QueueId = TableId

-- the queue's id
abbrev pub line_of : Orders → QueueId
line_of orders = orders.line.table.shared.table_id

-- the queue that the pass puts into
abbrev pub put_line : PutPass → QueueId
put_line pass = pass.pass.table_id

-- the queue that the pass takes from
abbrev pub take_line : TakePass → QueueId
take_line pass = pass.pass.table_id

-- how many pieces the queue may hold
abbrev pub capacity_of : Orders → ℕ
capacity_of orders = ruled_capacity orders.line

-- the pass puts into this queue
abbrev pub IsPutPassOf : Orders → PutPass → Type 0
IsPutPassOf orders pass = put_line pass ≡ line_of orders

-- the pass takes from this queue
abbrev pub IsTakePassOf : Orders → TakePass → Type 0
IsTakePassOf orders pass = take_line pass ≡ line_of orders

-- what the pass put, in order
abbrev pub put_of : PutPass → List Work
put_of pass = (view pass.pass).put

-- what the pass took, in order
abbrev pub works_of : TakePass → List Work
works_of pass = (view pass.pass).took

-- the versions that the pass took, in order, with 0 for a Stop
abbrev pub took_of : TakePass → List ℕ
took_of pass = map number_of (works_of pass)

-- its share of all taking
abbrev pub share_of : TakePass → List ℕ
share_of pass = (view pass.pass).share

-- at least as many pieces were put as the queue may hold, which is all that a clause can say of a full queue
abbrev pub WasFull : Orders → List Work → Type 0
WasFull orders put = (gone held : List Work) × (put ≡ gone ++ held) × (length held ≡ capacity_of orders)
