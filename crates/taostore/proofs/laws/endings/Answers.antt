use Rattle.taostore.proofs.Causes.{have_causes, have_answers, touch_little, play_is_program}
use Rattle.taostore.proofs.laws.endings.Goals as goal

pub returns-clause-causes : goal.returns-clause-causes
returns-clause-causes g c = have_causes g.S.Source.left g.S.Source.faults g.K.Sink.put g.K.Sink.faults

pub returns-clause-answers : goal.returns-clause-answers
returns-clause-answers g c = have_answers g.S.Source.left g.S.Source.faults g.K.Sink.put g.K.Sink.faults

pub returns-clause-rest : goal.returns-clause-rest
returns-clause-rest g c = touch_little g.S.Source.left g.S.Source.faults g.K.Sink.put g.K.Sink.faults

pub returns-clause-play : goal.returns-clause-play
returns-clause-play g c = play_is_program g.S.Source.left g.S.Source.faults g.K.Sink.put g.K.Sink.faults
