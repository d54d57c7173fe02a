use Rattle.record.proofs.CountLaws.{every_free_bit_lies_in_the_region}
use Rattle.record.proofs.laws.every_free_bit_lies_in_the_region.Goals as goal

pub returns : goal.returns
returns c = every_free_bit_lies_in_the_region
