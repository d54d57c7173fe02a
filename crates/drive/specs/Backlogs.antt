-- What a surface and the writes that wait for it mean.
use Rattle.std.specs.Prelude.{ℕ}
use Rattle.drive.specs.declared.backlog.Backlog.{Backlog}
use Rattle.drive.specs.Meaning.{Meaning}
use Rattle.drive.specs.Queues.{line}
use Rattle.drive.specs.Disks.{disk}

-- the meaning of a drive that holds the backlog and has the wear w
abbrev pub held : Backlog → ℕ → Meaning
held b w = record { settled = disk b.surface; outstanding = line b.queue.items; wear = w }
