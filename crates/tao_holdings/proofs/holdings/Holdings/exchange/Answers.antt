use Rattle.tao_holdings.proofs.Exchanged.{exchanged_sound, exchanged_held, exchanged_contents, exchanged_out}
use Rattle.tao_holdings.proofs.holdings.Holdings.exchange.Goals as goal

pub invariant_of-self : goal.invariant_of-self
invariant_of-self c =
    exchanged_sound c.self.inside.p c.self.inside.subtree c.swap_buckets.new.subtree c.self.inside.stash c.self.inside.positions c.self.inside.lists.items c.self.invariant c.args.buckets.now
    c.swap_buckets.ensures.residents c.args.self.now c.self.view_is c.requires.in_form c.swap_buckets.ensures.others c.swap_buckets.ensures.kept

pub returns-clause-held : goal.returns-clause-held
returns-clause-held c =
    exchanged_held c.self.inside.p c.self.inside.subtree c.swap_buckets.new.subtree c.self.inside.stash c.self.inside.positions c.self.inside.lists.items c.self.invariant c.args.buckets.now
    c.swap_buckets.ensures.residents c.args.self.now c.self.view_is

pub returns-clause-contents : goal.returns-clause-contents
returns-clause-contents c =
    exchanged_contents c.self.inside.p c.self.inside.subtree c.swap_buckets.new.subtree c.self.inside.stash c.self.inside.positions c.self.inside.lists.items c.self.invariant c.args.buckets.now
    c.swap_buckets.ensures.residents c.args.self.now c.self.view_is c.requires.held c.requires.in_form

pub returns-clause-buckets : goal.returns-clause-buckets
returns-clause-buckets c =
    (exchanged_out c.self.inside.p c.self.inside.subtree c.swap_buckets.new.subtree c.self.inside.stash c.self.inside.positions c.self.inside.lists.items c.self.invariant c.args.buckets.now
    c.swap_buckets.ensures.residents c.args.self.now c.self.view_is c.swap_buckets.new.buckets c.swap_buckets.ensures.buckets c.requires.in_form).0

pub returns-clause-in_form : goal.returns-clause-in_form
returns-clause-in_form c =
    (exchanged_out c.self.inside.p c.self.inside.subtree c.swap_buckets.new.subtree c.self.inside.stash c.self.inside.positions c.self.inside.lists.items c.self.invariant c.args.buckets.now
    c.swap_buckets.ensures.residents c.args.self.now c.self.view_is c.swap_buckets.new.buckets c.swap_buckets.ensures.buckets c.requires.in_form).1
