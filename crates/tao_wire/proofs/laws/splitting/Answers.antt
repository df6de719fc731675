use Rattle.tao_wire.proofs.Streams.{front_of, splits_fed, splits_handed, faulty_later}
use Rattle.tao_wire.proofs.laws.splitting.Goals as goal

pub returns-clause-front : goal.returns-clause-front
returns-clause-front c = front_of

pub returns-clause-fed : goal.returns-clause-fed
returns-clause-fed c = splits_fed

pub returns-clause-handed : goal.returns-clause-handed
returns-clause-handed c = splits_handed

pub returns-clause-faulty : goal.returns-clause-faulty
returns-clause-faulty c = faulty_later
