use Rattle.std.proofs.Common.{reverse, is_some, ap, ◌∙◌}
use Rattle.tao_model.proofs.EndingFaults.{cause_is_fault}
use Rattle.tao_processor.proofs.processor.Processor.is_down.Goals as goal

pub returns : goal.returns
returns c = c.is_some.ensures ∙ ap is_some c.down.ensures ∙ cause_is_fault (reverse c.args.self.now.history.events)
