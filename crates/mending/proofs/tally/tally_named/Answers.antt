use Rattle.std.proofs.Common.{[], sym, refl, ap, subst, arith}
use Rattle.drive.specs.Meaning.{shown}
use Rattle.record.specs.declared.region.Region.{Region}
use Rattle.model.specs.Mending.{slots_or_none}
use Rattle.mending.specs.Sought.{pages_of}
use Rattle.mending.specs.Tallies.{Adds}
use Rattle.mending.proofs.UnmendedLaws.{naming_more}
use Rattle.mending.proofs.tally.tally_named.Goals as goal
use Rattle.mending.proofs.tally.tally_named.Goals.{in-Some, in_default}

pub loop-i-preserved : goal.loop-i-preserved
loop-i-preserved g c =
    let l = c.args.records.now.label in
    let before = c.loop-i.tally in
    let after = c.match-entry.tally in
    let next = naming_more l (shown (g.D.Drive.meaning c.args.records.now.drive.now)) before after in
    elim c.match-entry.branch [
      | in-Some w ↦
          let slots = w.in-Some.entry.slots in
          let adds : Adds (pages_of l) slots before w.note_slots.new.tally = subst (λ (r : Region). Adds r slots before w.note_slots.new.tally) c.region-region.ensures w.note_slots.ensures in
          next slots c.loop-i.i (omega arith) (ap slots_or_none w.in-Some.ensures) (subst (Adds (pages_of l) slots before) (sym w.tally-is) adds) c.loop-i.invariant
      | in_default w ↦
          next [] c.loop-i.i (omega arith) (ap slots_or_none w.in_default.ensures) (subst (Adds (pages_of l) [] before) (sym w.tally-is) (λ a h. refl)) c.loop-i.invariant
    ]
