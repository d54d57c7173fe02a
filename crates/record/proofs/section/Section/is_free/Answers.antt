use Rattle.std.proofs.Common.{◌/◌, bit_and, not, eqb, get_or, ap, ◌∙◌}
use Rattle.record.specs.Sections.{weight}
use Rattle.record.proofs.DigitLaws.{and_tells}
use Rattle.record.proofs.section.Section.is_free.Goals as goal

pub returns-then-r-lt-WORDS : goal.returns-then-r-lt-WORDS
returns-then-r-lt-WORDS c =
    let w = get_or c.args.self.now.bits (c.args.r / 32) 0 in
    ap (λ m. not (eqb (bit_and w m) 0)) c.mask.ensures ∙ and_tells w (weight c.args.r)
