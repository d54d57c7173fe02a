use Rattle.std.proofs.Common.{◌/◌, bit_or, get_or, set, ap, ◌∙◌}
use Rattle.record.specs.Sections.{weight}
use Rattle.record.proofs.DigitLaws.{or_sets}
use Rattle.record.proofs.section.Section.give.Goals as goal

pub returns-then-r-lt-WORDS : goal.returns-then-r-lt-WORDS
returns-then-r-lt-WORDS c =
    let w = get_or c.args.self.now.bits (c.args.r / 32) 0 in
    ap (set c.args.self.now.bits (c.args.r / 32)) (ap (bit_or w) c.mask.ensures ∙ or_sets w (weight c.args.r))
