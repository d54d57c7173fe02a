use Rattle.model.proofs.MemoryLaws.{memory_counts_what_the_map_shows}
use Rattle.model.proofs.memory_law.memory_counts_what_the_map_shows.Goals as goal

pub returns : goal.returns
returns c = memory_counts_what_the_map_shows
