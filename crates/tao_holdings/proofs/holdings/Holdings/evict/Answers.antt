use Rattle.std.proofs.Common.{◌≡◌, ◌∙◌, ap, subst}
use Rattle.std.specs.Prelude.{slice_index}
use Rattle.tao_base.specs.Limits.{Shape}
use Rattle.tao_base.specs.Tree.{leaf_of}
use Rattle.tao_held.specs.Steps.{evict}
use Rattle.tao_holdings.specs.Holding.{HoldingsState, is_held, contents_in, leaf_by}
use Rattle.tao_holdings.specs.Parts.{state_of}
use Rattle.tao_holdings.proofs.holdings.Holdings.evict.Goals as goal

pub returns-clause-held : goal.returns-clause-held
returns-clause-held c = c.evict_path.ensures.held ∙ ap (λ (st : HoldingsState). is_held st) c.self.view_is

pub returns-clause-contents : goal.returns-clause-contents
returns-clause-contents c =
    subst (λ (st : HoldingsState). contents_in (state_of c.self.inside.p c.evict_path.new.subtree c.evict_path.new.stash c.self.inside.positions) ≡ evict st.shape c.args.leaf (leaf_by st) (contents_in st)) c.self.view_is
    (c.evict_path.ensures.contents
    ∙ ap (λ (p : Shape). evict c.self.inside.p c.args.leaf (λ b. leaf_of p.l (slice_index c.self.inside.positions.words b)) (contents_in (state_of c.self.inside.p c.self.inside.subtree c.self.inside.stash c.self.inside.positions)))
    c.self.invariant.positions_shape)
