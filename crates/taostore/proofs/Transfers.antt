-- What several reads did, one after another.
use Rattle.std.proofs.Common.{ℕ, List, ◌++◌, Option}
use Rattle.std.specs.Io.KnownBytes.{Consumes}
use Rattle.std.proofs.KnownBytes.{Consumes-trans}
use Rattle.taostore.specs.Input.{TakesPrefix}

-- some bytes and then some more
pub prefix_more : {S : Type 0} (left : S → Option (List ℕ)) (a b c : S) (bytes : List ℕ) → Consumes (left a) (left b) bytes → TakesPrefix left b c
    → TakesPrefix left a c
prefix_more left a b c bytes before more = (bytes ++ more.0, Consumes-trans _ _ _ bytes more.0 before more.1)
