use Rattle.std.proofs.Common.{◌≡◌}
use Rattle.model.specs.New.{section_write, writes_of, written}
use Rattle.store.proofs.making.write_map.Given as goal

-- the first k sections are written
abbrev pub invariant-loop-k : goal.invariant-loop-k
invariant-loop-k g l =
    let m = g.D.Drive.meaning in
    m l.drive ≡ written (writes_of (section_write l.label.id l.label.entries l.label.records) l.k) (m l.initial.drive)
