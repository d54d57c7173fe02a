use Rattle.std.proofs.Common.{◌≡◌, [], ◌∷◌, ap, ◌∙◌, arith}
use Rattle.drive.specs.Meaning.{size}
use Rattle.model.specs.New.{entry_write, section_write, label_write, writes_of, new_writes, written}
use Rattle.model.proofs.NewLaws.{written_keeps, written_three, limits}
use Rattle.store.proofs.making.write_volume.Goals as goal

pub write_map-requires : goal.write_map-requires
write_map-requires g c =
    let m = g.D.Drive.meaning in
    let l = limits c.args.id c.args.entries (size (m c.args.drive.now)) c.requires.sized in
    let k = written_keeps (entry_write c.args.id) c.args.entries (m c.args.drive.now) (m c.write_entries.new.drive) c.requires.quiet c.write_entries.ensures.after in
    record { inside = omega (arith, k.1, l.0); quiet = k.0; alive = omega (arith, k.2, c.requires.alive) }

pub write_labels-requires : goal.write_labels-requires
write_labels-requires g c =
    let m = g.D.Drive.meaning in
    let id = c.args.id in
    let e = c.args.entries in
    let l = limits id e (size (m c.args.drive.now)) c.requires.sized in
    let k = written_keeps (entry_write id) e (m c.args.drive.now) (m c.write_entries.new.drive) c.requires.quiet c.write_entries.ensures.after in
    let j = written_keeps (section_write id e c.size.result) 3 (m c.write_entries.new.drive) (m c.write_map.new.drive) k.0 c.write_map.ensures.after in
    record { inside = omega (arith, k.1, j.1, l.0); quiet = j.0; alive = omega (arith, k.2, j.2, c.requires.alive) }

pub returns : goal.returns
returns g c =
    let m = g.D.Drive.meaning in
    let id = c.args.id in
    let e = c.args.entries in
    let t = c.size.result in
    let before = m c.args.drive.now in
    let all : m c.write_labels.new.drive ≡ written (new_writes id e t) before =
    written_three (writes_of (entry_write id) e) (writes_of (section_write id e t) 3) (label_write id e t 7 ∷ label_write id e t 0 ∷ []) before
    (m c.write_entries.new.drive) (m c.write_map.new.drive) (m c.write_labels.new.drive)
    c.write_entries.ensures.after c.write_map.ensures.after c.write_labels.ensures.after in
    record { accepted = c.write_labels.ensures.accepted; after = all ∙ ap (λ n. written (new_writes id e n) before) c.size.ensures }
