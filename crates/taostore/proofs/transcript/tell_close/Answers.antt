use Rattle.std.proofs.Common.{codes, flat_map, length}
use Rattle.std.specs.List.{range_with_len}
use Rattle.tao_model.specs.Transcript.{block_line}
use Rattle.tao_trace.proofs.WholeLines.{lines_are_whole}
use Rattle.taostore.proofs.Telling.{told_then, waits_more}
use Rattle.taostore.proofs.transcript.tell_close.Goals as goal

pub returns : goal.returns
returns g c =
    let put = g.K.Sink.put in let faults = g.K.Sink.faults in
    told_then put faults c.args.sink.now c.args.sink.now c.tell_blocks.new.sink c.args.waiting.now c.print_scan.new.out c.tell_blocks.new.waiting
    (codes "scan\n") (flat_map (block_line c.args.blocks.now) (range_with_len 0 (length c.args.blocks.now))) c.tell_blocks.result
    lines_are_whole.scan (waits_more put faults c.args.sink.now c.args.waiting.now c.print_scan.new.out (codes "scan\n") c.in_ok-print_scan.ensures.ok) c.tell_blocks.ensures
