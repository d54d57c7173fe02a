use Rattle.record.proofs.CountLaws.{the_lowest_free_number_is_lowest}
use Rattle.record.proofs.laws.the_lowest_free_number_is_lowest.Goals as goal

pub returns : goal.returns
returns c = the_lowest_free_number_is_lowest
