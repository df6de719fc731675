use Rattle.std.proofs.Common.{refl}
use Rattle.rand_chacha.specs.Block.{block_word, double_rounds, diagonal_round, quarter_round, column_round}
use Rattle.rand_core.specs.Steps.{u32_at}
use Rattle.tao_bucket.specs.Reading.{bucket_fault, clear_slots, fault_at}
use Rattle.tao_tape.specs.Keystream.{xored, stream_byte}
use Rattle.tao_images.specs.Nodes.{node_refusal}
use Rattle.tao_images.specs.Paths.{refusal_at}
use Rattle.tao_images.proofs.worked.first_refusals.Goals as goal

pub returns : goal.returns
unfolding block_word double_rounds diagonal_round quarter_round column_round u32_at xored stream_byte refusal_at node_refusal bucket_fault clear_slots fault_at
returns c = record {
  latest = refl;
  older = refl;
  loaded = refl;
  both_older = refl;
  older_and_damaged = refl;
  swapped = refl;
  too_short = refl;
}
