use Rattle.std.proofs.Common.{◌≡◌, take}
use Rattle.drive.specs.Disks.{disk, SameMemory}
use Rattle.drive.specs.Meaning.{settle}
use Rattle.drive.specs.Queues.{line}
use Rattle.drive.proofs.backlog.Backlog.complete.Given as goal

-- the writes so far are settled
abbrev pub invariant-loop-write : goal.invariant-loop-write
invariant-loop-write l = record {
  settled : disk l.self.1.0 ≡ settle (line (take l.write-index l.fn.self.queue.items)) (disk l.fn.self.surface);
  lent : SameMemory l.fn.self.surface l.self.1.0;
}
