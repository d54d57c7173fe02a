-- Whatever the power cuts, no page that an entry names is lost, and no entry's last write.
use Rattle.std.specs.Prelude.{◌≡◌, ℕ, ◌^◌, ◌<◌, true}
use Rattle.drive.specs.Cuts.{Image}
use Rattle.drive.specs.Meaning.{Meaning, WellFormed, size}
use Rattle.record.specs.Regions.{in_limits}
use Rattle.model.specs.New.{new_volume}
use Rattle.model.specs.Outcomes.{Rules}
use Rattle.model.specs.Calls.{Volume}
use Rattle.model.specs.Histories.{History, Reached, Moment}
use Rattle.model.specs.Promises.{EveryNamedPageHoldsWhatWasPlaced, EveryEntryHoldsItsLastWrite}

-- over every history from a volume made new, at every moment, for every image that a cut may leave
abbrev pub PowerCutsLoseNoNamedPage : Type 0
PowerCutsLoseNoNamedPage =
    (g : Rules) (m : Meaning) (id entries : ℕ) → WellFormed m → id < 2 ^ 32 → in_limits id entries (size m) ≡ true
    → (h h' : History) (v : Volume) (d n : Meaning) → Reached g (new_volume m id entries) h v → Moment g h v h' d → Image d n
    → EveryNamedPageHoldsWhatWasPlaced h' n × EveryEntryHoldsItsLastWrite id entries h' d n
