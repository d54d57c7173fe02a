use Rattle.std.proofs.Common.{set, refl, ◌∙◌, ap₂}
use Rattle.model.specs.declared.memory.MapState.TheVariants.{Writing}
use Rattle.model.specs.Memory.{Memory, with_stock}
use Rattle.model.proofs.CarriedLaws.{posting}
use Rattle.volumes.proofs.Mapping.{section_given}
use Rattle.volumes.proofs.Carrying.{exit_post_refused}
use Rattle.volumes.proofs.volume.Volume.give.Goals as goal

pub returns-in_err-post_section : goal.returns-in_err-post_section
returns-in_err-post_section g c reply =
    let kept = c.in_err-post_section.ensures in
    exit_post_refused _ _ _ _ _ _ _ c.from_residual.ensures.1
    (section_given _ g.D.Drive.meaning _ _ _ _ _ _ _ _ _ _ _ _ _ _ _ (c.in-Some.ensures ∙ c.first.ensures.value) c.service.ensures.value c.covering-k.ensures.value
    c.service-service.ensures.value c.saturating_sub-most.ensures c.records.ensures.same c.records.ensures.label c.shown_section-section.ensures
    (c.deref.ensures.0 ∙ c.part-given.ensures.given) c.give_back.ensures c.part-given.ensures.staying)
    refl kept.answer kept.after kept.same

pub returns : goal.returns
returns g c reply =
    let posted = c.in_ok-post_section.ensures in
    let k = c.covering-k.result in
    let left = c.part-given.result.staying.items in
    let held = c.give.ensures ∙ ap₂ {C = Memory} (λ x n. with_stock x (Writing k) (set x.counts k n) left x.unsettled) posted.same c.count.ensures in
    posting _ _ _ _ _ _ _ _ posted.after.0
    (section_given _ g.D.Drive.meaning _ _ _ _ _ _ _ _ _ _ _ _ _ _ _ (c.in-Some.ensures ∙ c.first.ensures.value) c.service.ensures.value c.covering-k.ensures.value
    c.service-service.ensures.value c.saturating_sub-most.ensures c.records.ensures.same c.records.ensures.label c.shown_section-section.ensures
    (c.deref.ensures.0 ∙ c.part-given.ensures.given) c.give_back.ensures c.part-given.ensures.staying)
    posted.answer refl held posted.after.1
