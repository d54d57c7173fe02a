use Rattle.record.proofs.CountLaws.{a_changed_bit_moves_the_count_by_one}
use Rattle.record.proofs.laws.a_changed_bit_moves_the_count_by_one.Goals as goal

pub returns : goal.returns
returns c = a_changed_bit_moves_the_count_by_one
