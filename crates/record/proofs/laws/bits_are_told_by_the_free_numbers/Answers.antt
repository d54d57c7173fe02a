use Rattle.record.proofs.BitLaws.{bits_are_told_by_the_free_numbers}
use Rattle.record.proofs.laws.bits_are_told_by_the_free_numbers.Goals as goal

pub returns : goal.returns
returns c = bits_are_told_by_the_free_numbers
