use Rattle.tao_text.proofs.TextLaws.{ops_keep, store_keeps}
use Rattle.tao_text.proofs.TwinLaws.{twins_keep}
use Rattle.tao_text.proofs.laws.others_keep_limits.Goals as goal

pub returns-clause-ops : goal.returns-clause-ops
returns-clause-ops c = ops_keep

pub returns-clause-store : goal.returns-clause-store
returns-clause-store c = store_keeps

pub returns-clause-twins : goal.returns-clause-twins
returns-clause-twins c = twins_keep
