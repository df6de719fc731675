use Rattle.std.proofs.Common.{◌∙◌}
use Rattle.taostore.proofs.Kept.{stops_so}
use Rattle.taostore.proofs.session.session_of.Goals as goal

pub returns : goal.returns
returns c =
    let played = c.play_all-played in
    stops_so c.args.script c.in-Ok.desk c.as_slice.result.now played.new.desk.history c.in-Ok.ensures.state (c.as_slice.ensures ∙ c.in-Ok.ensures.steps) played.ensures.sound
    played.result c.stop.result played.ensures.ok played.ensures.err c.stop.ensures.ok c.stop.ensures.err
