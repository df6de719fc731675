use Rattle.tao_tables.proofs.RisingLists.{one_rising_list}
use Rattle.tao_tables.proofs.write_backs.one_rising_list.Goals as goal

pub returns : goal.returns
returns c = one_rising_list
