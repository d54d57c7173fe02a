use Rattle.std.proofs.Common.{arith}
use Rattle.mending.proofs.TallyLaws.{mending_none, mending_kept, mending_passed}
use Rattle.mending.proofs.entries.mend_slots.Goals as goal
use Rattle.mending.proofs.entries.mend_slots.Goals.{then-note, else-note}

pub loop-p-init : goal.loop-p-init
loop-p-init c = mending_none c.args.region.now c.args.slots.now c.args.tally.now

pub loop-p-preserved : goal.loop-p-preserved
loop-p-preserved c =
    let g = c.args.region.now in
    let slots = c.args.slots.now in
    let M = c.loop-p.invariant in
    elim c.if-note.branch [
      | then-note w ↦
          let e = w.if-note.ensures in
          mending_kept g slots c.args.tally.now c.loop-p.tally c.loop-p.mended c.loop-p.p c.note.new.tally c.if-note.mended (omega arith) (omega arith) (omega arith)
          (e.new, e.after) w.mended-is M
      | else-note w ↦
          let e = w.if-note.ensures in
          mending_passed g slots c.args.tally.now c.loop-p.tally c.loop-p.mended c.loop-p.p c.note.new.tally c.if-note.mended (omega arith) (omega arith) c.requires.past
          (e.new, e.after) w.mended-is M
    ]
