use Rattle.tao_laws.proofs.RecentNodes.{recent_is_resident}
use Rattle.tao_laws.proofs.residents.recent_is_resident.Goals as goal

pub returns : goal.returns
returns c = recent_is_resident
