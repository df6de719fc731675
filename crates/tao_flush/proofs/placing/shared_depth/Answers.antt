use Rattle.std.proofs.Common.{◌-◌, ◌≤◌, sym, subst}
use Rattle.std.specs.Int.Bits.{bit_xor}
use Rattle.std.specs.Int.Count.{count_leading_zeros}
use Rattle.tao_flush.specs.Placing.{AreShared}
use Rattle.tao_flush.proofs.SharedPaths.{few_last_bits, shared_depth}
use Rattle.tao_flush.proofs.placing.shared_depth.Goals as goal

pub overflow_sub-result-2 : goal.overflow_sub-result-2
overflow_sub-result-2 c =
    subst (λ l. 32 - count_leading_zeros 32 (bit_xor c.args.other c.args.leaf) ≤ l) (sym c.l.ensures.value)
    (few_last_bits c.args.p.now.l c.args.leaf c.args.other c.l.ensures.shape.height_high c.requires.leaf c.requires.other)

pub returns-clause-shared : goal.returns-clause-shared
returns-clause-shared c =
    subst (λ l. AreShared c.args.p.now.l c.args.leaf c.args.other (l - (32 - count_leading_zeros 32 (bit_xor c.args.other c.args.leaf)))) (sym c.l.ensures.value)
    (shared_depth c.args.p.now.l c.args.leaf c.args.other c.l.ensures.shape.height_high c.requires.leaf c.requires.other)
