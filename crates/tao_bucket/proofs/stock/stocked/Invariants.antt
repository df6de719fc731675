-- The entries of stock made so far.
use Rattle.std.proofs.Common.{◌≡◌, length}
use Rattle.std.specs.List.{All}
use Rattle.tao_bucket.specs.Encoding.{HasBlock}
use Rattle.tao_bucket.proofs.stock.stocked.Given as goal

abbrev pub invariant-loop : goal.invariant-loop
invariant-loop l = record {
  count : length l.entries ≡ l.counter;
  values : All (HasBlock l.b) l.entries;
}
