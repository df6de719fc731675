-- Causes of the end that can be and causes that can't, in worked records.
use Rattle.std.specs.Prelude.{ℕ, ◌+◌, ◌^◌, reverse, take}
use Rattle.tao_base.specs.declared.session.Cause.{Cause}
use Rattle.tao_base.specs.declared.session.Cause.TheVariants.{Damaged, Stale, Link}
use Rattle.tao_base.specs.declared.storage.BucketFault.TheVariants as bucket_faults
use Rattle.tao_base.specs.Session.{History}
use Rattle.tao_model.specs.Lawful.{MayFail}
use Rattle.tao_model.specs.Worked.{write_backs_out_of_order, kept_under_a_fetch}

-- a session may end with this cause after so many events
abbrev pub MayFailAfter : History → ℕ → Cause → Type 0
MayFailAfter h count cause = MayFail h.opening (reverse (take count h.events)) cause

-- the number of the fetch of a leaf in the closing scan
abbrev pub scan_of : ℕ → ℕ
scan_of leaf = 2 ^ 32 + leaf

-- After nine events of the write-backs out of order the third fetch asks for nodes 1 and 3, both of version 2. After all twelve nothing is
-- under way, and the versions of nodes 1 to 3 are 3, 1 and 3.
pub record CausesThatCanBe : Type 0 where
  pub damaged : MayFailAfter write_backs_out_of_order 9 (Damaged 2 3 bucket_faults.Tag)
  pub older : MayFailAfter write_backs_out_of_order 9 (Stale 2 3 2 0)
  pub newer : MayFailAfter write_backs_out_of_order 9 (Stale 2 1 2 3)
  pub damaged_scan : MayFailAfter write_backs_out_of_order 12 (Damaged (scan_of 1) 3 bucket_faults.Format)
  pub older_scan : MayFailAfter write_backs_out_of_order 12 (Stale (scan_of 0) 2 1 0)
  pub first_link : MayFailAfter write_backs_out_of_order 0 (Link 0)
  pub last_link : MayFailAfter write_backs_out_of_order 12 (Link 7)

-- A stale bucket has another version than the latest of its node.
pub record StaleThatCannotBe : Type 0 where
  pub found_wanted : MayFailAfter write_backs_out_of_order 9 (Stale 2 3 2 2) → ⊥
  pub wants_older : MayFailAfter write_backs_out_of_order 9 (Stale 2 3 0 2) → ⊥
  pub wants_last_write_back : MayFailAfter write_backs_out_of_order 12 (Stale (scan_of 0) 2 3 1) → ⊥

-- A fetch looks at nodes of its path that the proxy doesn't hold, from its arrival until it is done.
pub record FetchesThatCannotFail : Type 0 where
  pub not_arrived : MayFailAfter write_backs_out_of_order 8 (Damaged 2 1 bucket_faults.Tag) → ⊥
  pub is_done : MayFailAfter write_backs_out_of_order 12 (Damaged 2 3 bucket_faults.Tag) → ⊥
  pub off_path : MayFailAfter write_backs_out_of_order 9 (Damaged 2 2 bucket_faults.Tag) → ⊥
  pub held : MayFailAfter kept_under_a_fetch 5 (Damaged 1 1 bucket_faults.Tag) → ⊥

-- The closing scan reads the paths of the tree's leaves when all is done and acknowledged.
pub record ScansThatCannotFail : Type 0 where
  pub under_way : MayFailAfter write_backs_out_of_order 9 (Damaged (scan_of 0) 2 bucket_faults.Tag) → ⊥
  pub not_acknowledged : MayFailAfter write_backs_out_of_order 11 (Damaged (scan_of 0) 2 bucket_faults.Tag) → ⊥
  pub no_leaf : MayFailAfter write_backs_out_of_order 12 (Damaged (scan_of 2) 2 bucket_faults.Tag) → ⊥
  pub off_path : MayFailAfter write_backs_out_of_order 12 (Damaged (scan_of 0) 3 bucket_faults.Tag) → ⊥
