use Rattle.std.proofs.Common.{◌≡◌, drop}
use Rattle.record.specs.Words.{words}
use Rattle.record.specs.Control.{sum_from}
use Rattle.record.proofs.control.check_word.Given as goal

abbrev pub invariant-loop-i : goal.invariant-loop-i
invariant-loop-i l = sum_from l.i l.sum (drop l.i (words l.page)) ≡ sum_from 0 l.start (words l.page)
