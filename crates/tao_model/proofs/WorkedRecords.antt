-- The worked records are lawful: the tests compute it.
use Rattle.std.proofs.Common.{refl}
use Rattle.tao_model.specs.Worked.{one_read, read_write_read, full_path, overlapping_requests, write_backs_out_of_order, kept_under_a_fetch, no_write_back_before_the_period}
use Rattle.tao_model.specs.WorkedLawful.{WorkedAreLawful}
use Rattle.tao_model.proofs.LawfulTests.{lawful_by}

pub worked_are_lawful : WorkedAreLawful
worked_are_lawful = record {
  one = lawful_by one_read refl refl refl refl;
  write = lawful_by read_write_read refl refl refl refl;
  path = lawful_by full_path refl refl refl refl;
  overlapping = lawful_by overlapping_requests refl refl refl refl;
  out_of_order = lawful_by write_backs_out_of_order refl refl refl refl;
  kept = lawful_by kept_under_a_fetch refl refl refl refl;
  before_the_period = lawful_by no_write_back_before_the_period refl refl refl refl;
}
