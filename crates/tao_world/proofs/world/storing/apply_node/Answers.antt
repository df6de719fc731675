use Rattle.std.proofs.Common.{◌≡◌, None, Some, sym, ap, ◌∙◌, subst}
use Rattle.std.proofs.lemmas.List.{get_or_default}
use Rattle.tao_base.specs.Links.{FitsLinks}
use Rattle.tao_world.specs.Moving.{sending_of}
use Rattle.tao_world.specs.State.{Sending, row_at}
use Rattle.tao_world.proofs.StoreMoves.{found_store, has_row}
use Rattle.tao_world.proofs.Tables.{some_within}
use Rattle.tao_world.proofs.world.storing.apply_node.Goals as goal

pub apply_bucket-requires-clause-fits : goal.apply_bucket-requires-clause-fits
apply_bucket-requires-clause-fits c =
    let row = row_at c.args.stores.now c.args.version in
    let low = some_within c.args.stores.now c.args.version (sending_of row) (found_store row (has_row row c.args.j c.requires.within)) in
    let is : row ≡ Some c.in-Some.store = get_or_default c.args.stores.now c.args.version None c.index-stores-version.result low ∙ c.in-Some.is in
    subst (λ (sending : Sending). FitsLinks c.args.tree.now.shape sending.order) (ap sending_of is ∙ sym c.store.view_is) c.requires.fits
