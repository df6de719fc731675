-- What is laid out from lists that were read.
use Rattle.std.specs.Prelude.{◌≡◌, ℕ, ◌^◌, ◌<◌, List}
use Rattle.tao_base.specs.declared.storage.Entry.{Entry}
use Rattle.tao_base.specs.Limits.{Shape}
use Rattle.tao_model.specs.Placement.{with_stash}
use Rattle.tao_flush.specs.Paths.{laid_out}
use Rattle.tao_flush.specs.Placing.{lists_on}

-- lists that were read from the nodes of a path, laid out again among the rest, are what was there
abbrev pub LaidOutIs : Type 0
LaidOutIs = (s : Shape) (at : ℕ) (stash : List Entry) (contents : ℕ → List Entry) → at < 2 ^ s.l
    → laid_out s at stash (lists_on s.l at contents) contents ≡ with_stash stash contents
