-- Polling ends, and salvage mends every image that a power cut leaves.
use Rattle.std.specs.Prelude.{◌≡◌, ℕ, ◌+◌, ◌^◌, ◌<◌, ◌≤◌, true}
use Rattle.drive.specs.Cuts.{Image}
use Rattle.drive.specs.Meaning.{Meaning, WellFormed, size, owed}
use Rattle.record.specs.Regions.{in_limits}
use Rattle.model.specs.New.{new_volume}
use Rattle.model.specs.Outcomes.{Rules}
use Rattle.model.specs.Calls.{Volume, Polls}
use Rattle.model.specs.Histories.{History, Reached, Moment}
use Rattle.model.specs.Promises.{Settles, OpensUnlessASalvageHasBegun, SalvageMends}

-- each poll lowers the number of writes outstanding, if there are any; so polling ends
abbrev pub PollingEndsForEveryVolume : Type 0
PollingEndsForEveryVolume =
    ((v u : Volume) → Polls v u → 0 < owed v.drive → owed u.drive < owed v.drive) × ((v : Volume) → (u : Volume) × Settles v u)

-- over every history from a volume made new, at every moment, for every image that a cut may leave with life for E + 5 writes
abbrev pub SalvageMendsEveryImage : Type 0
SalvageMendsEveryImage =
    (g : Rules) (m : Meaning) (id entries : ℕ) → 1 ≤ g.depth → WellFormed m → id < 2 ^ 32 → in_limits id entries (size m) ≡ true
    → (h h' : History) (v : Volume) (d n : Meaning) → Reached g (new_volume m id entries) h v → Moment g h v h' d → Image d n
    → n.wear + (entries + 5) ≤ g.life → OpensUnlessASalvageHasBegun g n × SalvageMends g entries n
