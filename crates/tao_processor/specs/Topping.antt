-- Memory for one more arrival.
use Rattle.std.specs.Prelude.{ℕ}
use Rattle.tao_record.specs.State.{RecordState}
use Rattle.tao_tables.specs.Pools.{Pools}
use Rattle.tao_processor.specs.declared.topping.Wanted.{Wanted}

-- the pools of these parts
abbrev pub pools_from : RecordState → ℕ → ℕ → ℕ → ℕ → ℕ → ℕ → Pools
pools_from session spare rows places values orders stock = record {
  dones = session.dones;
  issues = session.issues;
  others = session.others;
  orders = orders;
  stock = stock;
  values = values;
  requests = spare;
  rows = rows;
  places = places;
}

-- the pools that are wanted, with capacity for one request
abbrev pub pools_in : Wanted → Pools
pools_in w = record {
  dones = w.dones;
  issues = w.issues;
  others = w.others;
  orders = w.orders;
  stock = w.stock;
  values = w.values;
  requests = 1;
  rows = w.rows;
  places = w.places;
}
