use Rattle.std.proofs.Common.{◌≡◌, ℕ, ◌+◌, ◌<◌, Bool, List, sym, ap, ◌∙◌, subst, arith}
use Rattle.record.specs.declared.section.Section.{Section}
use Rattle.record.proofs.BitLaws.{OnBelow, on_none, on_more, on_passed, on_all}
use Rattle.mending.specs.Leftovers.{left_over}
use Rattle.mending.proofs.sections.exact_section.Goals as goal
use Rattle.mending.proofs.sections.exact_section.Goals.{then-is_left, else-is_left}

pub loop-r-init : goal.loop-r-init
loop-r-init c =
    let f : ℕ → Bool = λ r. left_over c.args.span.now.free c.args.tally.now (c.args.span.now.first + r) in
    let P : List ℕ → Type 0 = λ bits. OnBelow f 0 bits in subst P (sym c.none-section.ensures) (on_none f)

pub loop-r-preserved : goal.loop-r-preserved
loop-r-preserved c =
    let f : ℕ → Bool = λ r. left_over c.args.span.now.free c.args.tally.now (c.args.span.now.first + r) in
    let r = c.loop-r.r in
    let bits_in : Section → List ℕ = λ s. s.bits in
    let below : r < 3968 = omega arith in
    let P : List ℕ → Type 0 = λ bits. OnBelow f (r + 1) bits in
    elim c.if-is_left.branch [
      | then-is_left w ↦ subst P (sym (ap bits_in w.section-is ∙ w.give.ensures)) (on_more f r c.loop-r.section.bits below (sym w.if-is_left.ensures) c.loop-r.invariant)
      | else-is_left w ↦ subst P (sym (ap bits_in w.section-is)) (on_passed f r c.loop-r.section.bits below (sym w.if-is_left.ensures) c.loop-r.invariant)
    ]

pub returns : goal.returns
returns c =
    let f : ℕ → Bool = λ r. left_over c.args.span.now.free c.args.tally.now (c.args.span.now.first + r) in
    let e : c.loop-r.r ≡ 3968 = omega arith in
    let P : ℕ → Type 0 = λ r. OnBelow f r c.loop-r.section.bits in on_all f c.loop-r.section.bits (subst P e c.loop-r.invariant)
