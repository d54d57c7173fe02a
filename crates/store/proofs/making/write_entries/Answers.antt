use Rattle.std.proofs.Common.{refl, ap, ◌∙◌, arith}
use Rattle.model.specs.Volume.{entry_bytes}
use Rattle.model.specs.New.{entry_write}
use Rattle.model.proofs.NewLaws.{written_keeps, written_next}
use Rattle.store.proofs.making.write_entries.Goals as goal

pub write_next-requires : goal.write_next-requires
write_next-requires g c =
    let m = g.D.Drive.meaning in
    let k = written_keeps (entry_write c.args.label.now.id) c.loop-i.i (m c.args.drive.now) (m c.loop-i.drive) c.requires.quiet c.loop-i.invariant in
    record { inside = omega (arith, k.1, c.requires.inside); quiet = k.0; alive = omega (arith, k.2, c.requires.alive) }

pub loop-i-preserved : goal.loop-i-preserved
loop-i-preserved g c =
    let m = g.D.Drive.meaning in
    written_next (entry_write c.args.label.now.id) c.loop-i.i (m c.args.drive.now) (m c.loop-i.drive) (m c.write_next.new.drive) _ c.encode.new.page
    c.loop-i.invariant c.in_ok-write_next.ensures.after refl (c.encode.ensures ∙ ap (entry_bytes c.args.label.now.id) c.free.ensures)
