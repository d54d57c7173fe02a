use Rattle.std.proofs.Common.{◌≡◌}
use Rattle.model.specs.New.{entry_write, writes_of, written}
use Rattle.store.proofs.making.write_entries.Given as goal

-- the first i entries are written
abbrev pub invariant-loop-i : goal.invariant-loop-i
invariant-loop-i g l =
    let m = g.D.Drive.meaning in m l.drive ≡ written (writes_of (entry_write l.label.id) l.i) (m l.initial.drive)
