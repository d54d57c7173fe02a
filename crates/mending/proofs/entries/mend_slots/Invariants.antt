use Rattle.mending.proofs.TallyLaws.{Mending}
use Rattle.mending.proofs.entries.mend_slots.Given as goal

abbrev pub invariant-loop-p : goal.invariant-loop-p
invariant-loop-p l = Mending l.region l.slots l.initial.tally l.tally l.mended l.p
