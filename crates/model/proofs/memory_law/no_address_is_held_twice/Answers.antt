use Rattle.model.proofs.MemoryLaws.{no_address_is_held_twice}
use Rattle.model.proofs.memory_law.no_address_is_held_twice.Goals as goal

pub returns : goal.returns
returns c = no_address_is_held_twice
