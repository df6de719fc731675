use Rattle.std.proofs.Common.{◌≡◌, [], ◌∷◌, rules}
use Rattle.std.specs.Prelude.{Some}
use Rattle.tao_turn.proofs.Ending.{begins}
use Rattle.tao_turn.proofs.lock.TurnLock.new.Goals as goal

pub new-requires : goal.new-requires
new-requires g c =
    let items_are : c.push_reserved.new.self.items ≡ Some c.args.value ∷ [] = search rules in
    rw (items_are, c.of.ensures) (begins g.T.Journal.entries g.T.Journal.mark_of g.T.Journal.maker c.args.seats c.args.value c.mark-mark.result (search rules) (search rules))
