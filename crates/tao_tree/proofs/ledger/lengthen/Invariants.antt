-- The rooms made so far.
use Rattle.std.proofs.Common.{◌≡◌, ◌≤◌, vec_len}
use Rattle.std.specs.List.{All}
use Rattle.tao_tree.specs.Ledgers.{HasLen}
use Rattle.tao_tree.proofs.ledger.lengthen.Given as goal

abbrev pub invariant-loop : goal.invariant-loop
invariant-loop l = record {
  len : vec_len l.spare ≡ l.counter;
  low : vec_len l.fn.spare ≤ vec_len l.spare;
  rooms : All (HasLen l.len) l.spare.items;
}
