use Rattle.std.proofs.Common.{◌+◌, ap, ◌∙◌, arith}
use Rattle.record.specs.Sections.{section_record, all_free}
use Rattle.model.specs.New.{section_write}
use Rattle.model.proofs.NewLaws.{written_keeps, written_next}
use Rattle.store.proofs.making.write_map.Goals as goal

pub write_next-requires : goal.write_next-requires
write_next-requires g c =
    let m = g.D.Drive.meaning in
    let k = written_keeps (section_write c.args.label.now.id c.args.label.now.entries c.args.label.now.records) c.loop-k.k (m c.args.drive.now) (m c.loop-k.drive) c.requires.quiet c.loop-k.invariant in
    record { inside = omega (arith, k.1, c.requires.inside); quiet = k.0; alive = omega (arith, k.2, c.requires.alive) }

pub loop-k-preserved : goal.loop-k-preserved
loop-k-preserved g c =
    let m = g.D.Drive.meaning in
    let id = c.args.label.now.id in
    let bytes = c.encode.ensures ∙ (ap (section_record 0 id c.of_map-span.result) c.all_free.ensures ∙ ap (λ s. section_record 0 id s (all_free s)) c.of_map-span.ensures) in
    written_next (section_write id c.args.label.now.entries c.args.label.now.records) c.loop-k.k (m c.args.drive.now) (m c.loop-k.drive) (m c.write_next.new.drive) _ c.encode.new.page
    c.loop-k.invariant c.in_ok-write_next.ensures.after (ap (λ x. 1 + x) c.from.ensures) bytes
