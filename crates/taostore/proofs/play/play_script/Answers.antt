use Rattle.taostore.specs.Endings.{kept_history}
use Rattle.taostore.proofs.Kept.{ends_played_so}
use Rattle.taostore.proofs.play.play_script.Goals as goal

pub returns : goal.returns
returns g c =
    ends_played_so c.args.script (kept_history c.finish_played.new.kept.history) g.K.Sink.put g.K.Sink.faults c.args.sink.now c.finish_played.new.sink c.session_of.result c.finish_played.result
    c.session_of.ensures c.finish_played.ensures
