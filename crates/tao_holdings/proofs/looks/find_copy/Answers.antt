use Rattle.std.proofs.Common.{◌≡◌, ◌∙◌, sym, subst, IfSome, length, Option, List, ℕ}
use Rattle.tao_flush.specs.Blocks.{IsStash}
use Rattle.tao_model.specs.Placement.{first_copy}
use Rattle.tao_base.specs.Tree.{path}
use Rattle.tao_base.specs.Limits.{Shape}
use Rattle.tao_holdings.specs.Lists.{entries_in}
use Rattle.tao_holdings.proofs.FoundCopy.{lent_fits, stash_fits, path_fits, behind_stash}
use Rattle.tao_holdings.proofs.looks.find_copy.Goals as goal

pub returns-in-Some-clause-len : goal.returns-in-Some-clause-len
returns-in-Some-clause-len c =
    subst (λ (o : Option (List ℕ)). IfSome o (λ value. length value ≡ c.args.p.now.b)) (sym c.in-Some.ensures.value)
    (stash_fits c.args.p.now c.args.block c.args.stash.now.entries (subst (λ (s : Shape). IsStash s c.args.stash.now.entries) c.requires.shape c.get.ensures.in_order))

pub returns-in-None-clause-copy : goal.returns-in-None-clause-copy
returns-in-None-clause-copy c =
    c.copy_on_path.ensures ∙ sym (behind_stash c.args.p.now.l c.args.leaf c.args.block c.args.stash.now.entries (entries_in c.args.subtree.now.residents) (sym c.in-None.ensures.value))

pub returns-in-None-clause-len : goal.returns-in-None-clause-len
returns-in-None-clause-len c =
    lent_fits c.args.p.now.b c.copy_on_path.result (first_copy (path c.args.p.now.l c.args.leaf) (entries_in c.args.subtree.now.residents) c.args.block) c.copy_on_path.ensures
    (path_fits c.args.p.now c.args.leaf c.args.block c.args.subtree.now.residents c.requires.in_form)
