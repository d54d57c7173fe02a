-- What bounds the memory of a volume.
use Rattle.std.specs.Prelude.{◌≡◌, ℕ, ◌<◌, ◌≤◌, length, Some, None, Option, slice_index_or}
use Rattle.model.specs.Memory.{Memory, held}
use Rattle.model.specs.declared.memory.File.{File}
use Rattle.model.specs.declared.memory.MapState.{MapState}
use Rattle.model.specs.declared.memory.MapState.TheVariants.{Idle, Writing}

-- how many addresses can be unsettled
abbrev pub awaited : MapState → ℕ
awaited Idle = 0
awaited (Writing k) = 32

-- the number of the entry that a place of the table holds
abbrev pub number_in : Option File → ℕ
number_in None = 0
number_in (Some f) = f.entry

-- what is always true of a volume's memory: its tables are of their sizes, stock and tickets hold at most 32 addresses,
-- nothing is unsettled while the map is idle, and each entry is in its limits
pub record Sound (v : Memory) : Type 0 where
  pub few : held v ≤ 32
  pub three : length v.counts ≡ 3
  pub four : length v.tickets ≡ 4
  pub eight : length v.files ≡ 8
  pub settled : length v.unsettled ≤ awaited v.chart
  pub limited : v.entries ≤ 3968
  pub numbered : (k : ℕ) → number_in (slice_index_or v.files k None) < 3968
