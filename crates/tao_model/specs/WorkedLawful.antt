-- The worked records are lawful, so no definition demands the impossible.
use Rattle.tao_model.specs.Lawful.{IsLawful}
use Rattle.tao_model.specs.Worked.{one_read, read_write_read, full_path, overlapping_requests, write_backs_out_of_order, kept_under_a_fetch, no_write_back_before_the_period}

-- each of the seven opens with its load, follows lawfully and ends with no write-back due
pub record WorkedAreLawful : Type 0 where
  pub one : IsLawful one_read
  pub write : IsLawful read_write_read
  pub path : IsLawful full_path
  pub overlapping : IsLawful overlapping_requests
  pub out_of_order : IsLawful write_backs_out_of_order
  pub kept : IsLawful kept_under_a_fetch
  pub before_the_period : IsLawful no_write_back_before_the_period
