-- Laws of honest answers. A record's events are oldest first.
use Rattle.std.specs.Prelude.{◌≡◌, Bool, true, List, ◌++◌, reverse}
use Rattle.tao_base.specs.declared.session.Event.{Event}
use Rattle.tao_base.specs.declared.storage.Bucket.{Bucket}
use Rattle.tao_base.specs.Session.{Opening}
use Rattle.tao_model.specs.Residence.{Unaltered, HasEntriesOf}

-- Answers that are honest in two senses are honest in each sense that follows from both. The senses are decided by tests.
abbrev pub UnalteredBoth : Type 0
UnalteredBoth = (one other both : Bucket → Bucket → Bool) (o : Opening) (events : List Event)
    → ((x y : Bucket) → one x y ≡ true → other x y ≡ true → both x y ≡ true)
    → Unaltered (λ x y. one x y ≡ true) o (reverse events) → Unaltered (λ x y. other x y ≡ true) o (reverse events) → Unaltered (λ x y. both x y ≡ true) o (reverse events)

-- if all answers up to now were honest, the earlier ones were: in entries, and in each sense that a test decides
pub record HonestEarlier (o : Opening) (earlier now : List Event) : Type 0 where
  pub in_entries : Unaltered HasEntriesOf o now → Unaltered HasEntriesOf o earlier
  pub by_test : (test : Bucket → Bucket → Bool) → Unaltered (λ x y. test x y ≡ true) o now → Unaltered (λ x y. test x y ≡ true) o earlier

-- this holds for every record
abbrev pub UnalteredEarlier : Type 0
UnalteredEarlier = (o : Opening) (events later : List Event) → HonestEarlier o (reverse events) (reverse (events ++ later))
