-- Polling ends.
use Rattle.std.proofs.Common.{◌+◌, ◌<◌, drop, refl, ap, arith}
use Rattle.std.proofs.lemmas.List.{length-drop, nil_from_length}
use Rattle.drive.specs.Meaning.{owed, complete}
use Rattle.model.specs.Plans.{joined}
use Rattle.model.specs.Calls.{Volume, Polls}
use Rattle.model.specs.Promises.{Settles, still, again}
use Rattle.model.specs.SalvageLaw.{PollingEndsForEveryVolume}

poll_lowers : (v u : Volume) → Polls v u → 0 < owed v.drive → owed u.drive < owed v.drive
poll_lowers v u P some =
    let k = P.steps.0 in
    let one = P.steps.1.0 in
    omega (arith, ap owed P.steps.1.1, length-drop k v.drive.outstanding)

-- one poll may complete all
polled : Volume → Volume
polled v =
    let d = complete (owed v.drive + 1) v.drive in
    record { drive = d; memory = joined d v.memory v.memory.chart }

polled_settles : (v : Volume) → Settles v (polled v)
unfolding polled
polled_settles v =
    let n = owed v.drive + 1 in
    let ws = v.drive.outstanding in
    again v (polled v) (polled v) (record { steps = (n, (omega arith, refl)); joins = refl })
    (still (polled v) (nil_from_length (drop n ws) (omega (arith, length-drop n ws))))

pub polling_ends_for_every_volume : PollingEndsForEveryVolume
polling_ends_for_every_volume = (poll_lowers, λ v. (polled v, polled_settles v))
