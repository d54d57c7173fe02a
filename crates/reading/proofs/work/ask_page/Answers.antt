use Rattle.std.proofs.Common.{length, refl, sym, ap, eq-eqb}
use Rattle.model.specs.Carried.{asked}
use Rattle.reading.proofs.work.ask_page.Goals as goal

pub returns-in-Some-clause-answer : goal.returns-in-Some-clause-answer
returns-in-Some-clause-answer c = ap (asked 1) (sym (eq-eqb (length c.args.page.now) 512 (c.in-Some.ensures.variant.0 refl)))
