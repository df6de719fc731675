-- Bytes that are xored twice with the same stream.
use Rattle.tao_tape.proofs.Streams.{xored_again}
use Rattle.tao_tape.proofs.keystream.xor_stream_undoes_itself.Goals as goal

pub returns : goal.returns
returns c = xored_again
