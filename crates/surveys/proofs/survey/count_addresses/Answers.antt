use Rattle.std.proofs.Common.{◌≡◌, ℕ, ◌+◌, cond, not, sym, ap, ◌∙◌, arith, rules, eq-eqb, ne_eqb}
use Rattle.std.proofs.lemmas.List.{take_all}
use Rattle.surveys.specs.Surveys.{addresses_in}
use Rattle.surveys.proofs.SurveyLaws.{address_more}
use Rattle.surveys.proofs.survey.count_addresses.Goals as goal
use Rattle.surveys.proofs.survey.count_addresses.Goals.{then-a-ne0, else-a-ne0}

pub loop-a-preserved : goal.loop-a-preserved
loop-a-preserved c =
    let n = c.loop-a.count in
    let inv = c.loop-a.invariant in
    elim c.if-a-ne0.branch [
      | then-a-ne0 w ↦ (
        address_more c.args.slots.now c.loop-a.a-index n _ (omega arith) inv.0 (w.count-is ∙ ap (λ b. n + cond (not b) 1 0) (sym (ne_eqb _ 0 w.if-a-ne0.true))),
        omega (arith, w.count-is, inv.1),
      )
      | else-a-ne0 w ↦ (
        address_more c.args.slots.now c.loop-a.a-index n _ (omega arith) inv.0 (w.count-is ∙ (none n ∙ ap (λ b. n + cond (not b) 1 0) (sym (eq-eqb _ 0 w.if-a-ne0.false)))),
        omega (arith, w.count-is, inv.1),
      )
    ]
  where
    none : (x : ℕ) → x ≡ x + 0
    none x = omega arith

pub returns : goal.returns
returns c =
    record { value = c.loop-a.invariant.0 ∙ ap addresses_in (take_all c.loop-a.a-index c.args.slots.now (omega arith)); bound = search rules }
