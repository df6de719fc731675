use Rattle.tao_laws.proofs.WrittenNodes.{issued_is_resident}
use Rattle.tao_laws.proofs.residents.issued_is_resident.Goals as goal

pub returns : goal.returns
returns c = issued_is_resident
