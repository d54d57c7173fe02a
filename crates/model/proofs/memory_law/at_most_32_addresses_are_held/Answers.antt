use Rattle.model.proofs.MemoryLaws.{at_most_32_addresses_are_held}
use Rattle.model.proofs.memory_law.at_most_32_addresses_are_held.Goals as goal

pub returns : goal.returns
returns c = at_most_32_addresses_are_held
