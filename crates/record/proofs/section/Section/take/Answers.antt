use Rattle.std.proofs.Common.{◌-◌, ◌/◌, ◌^◌, ◌<◌, bit_and, get_or, set, ap, ◌∙◌, arith, rules}
use Rattle.record.specs.Sections.{weight}
use Rattle.record.proofs.DigitLaws.{and_clears}
use Rattle.record.proofs.section.Section.take.Goals as goal

pub returns-then-r-lt-WORDS : goal.returns-then-r-lt-WORDS
returns-then-r-lt-WORDS c =
    let w = get_or c.args.self.now.bits (c.args.r / 32) 0 in
    let h : weight c.args.r < 32 = omega arith in
    let fit : w < 2 ^ 32 = search rules in
    ap (set c.args.self.now.bits (c.args.r / 32)) (ap (λ m. bit_and w (4294967295 - m)) c.mask.ensures ∙ and_clears w (weight c.args.r) fit h)
