-- All that no power cut breaks, as one statement.
use Rattle.std.specs.Prelude.{◌≡◌, ℕ, ◌^◌, ◌<◌, ◌≤◌, true, Ok, Err, Result}
use Rattle.drive.specs.Meaning.{Meaning, WellFormed, size}
use Rattle.record.specs.Regions.{in_limits}
use Rattle.model.specs.New.{new_volume}
use Rattle.model.specs.Outcomes.{Rules}
use Rattle.model.specs.Promises.{NoPowerCutHarms}

-- for every depth and life of at least 1, every volume made new on a drive with any earlier bytes and wear: over every
-- history, at every moment, for every image that a cut may leave
abbrev pub NoPowerCutHarmsAVolume : Type 0
NoPowerCutHarmsAVolume =
    (g : Rules) (m : Meaning) (id entries : ℕ) → 1 ≤ g.depth → 1 ≤ g.life → WellFormed m → id < 2 ^ 32 → in_limits id entries (size m) ≡ true
    → NoPowerCutHarms g id entries (new_volume m id entries)

-- what an accepted make leaves on a drive with these rules
abbrev pub LeavesAVolumeNoPowerCutHarms : {E : Type 0} → Result (Unit {0}) E → Rules → ℕ → ℕ → Meaning → Type 0
LeavesAVolumeNoPowerCutHarms (Ok x) g id entries n = NoPowerCutHarms g id entries n
LeavesAVolumeNoPowerCutHarms (Err f) g id entries n = Unit {0}
