use Rattle.std.proofs.Common.{◌∙◌, ap, length, arith}
use Rattle.std.proofs.lemmas.List.{length-take, length-drop}
use Rattle.std.proofs.lemmas.List.Elements.{All-same, All-push}
use Rattle.tao_bucket.specs.Encoding.{HasBlock}
use Rattle.tao_bucket.proofs.stock.put_slot.Goals as goal

pub returns-clause-entry_values : goal.returns-clause-entry_values
returns-clause-entry_values c = All-same (HasBlock c.args.p.now.b) _ _ c.push_reserved.ensures (All-push (HasBlock c.args.p.now.b) c.args.entries.now _ c.requires.entry_values (ap length c.block_of-value.ensures.value ∙ simp (length-take, length-drop) (omega arith)))
