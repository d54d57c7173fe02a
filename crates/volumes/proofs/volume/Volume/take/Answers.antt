use Rattle.std.proofs.Common.{◌≡◌, ◌+◌, ◌≤◌, ◌++◌, length, set, sym, refl, ap, ◌∙◌, subst, ap₂, arith}
use Rattle.model.specs.declared.memory.MapState.TheVariants.{Writing}
use Rattle.model.specs.Memory.{Memory, held, with_stock}
use Rattle.model.proofs.CarriedLaws.{posting}
use Rattle.volumes.proofs.Mapping.{used_within, section_taken}
use Rattle.volumes.proofs.Carrying.{exit_post_refused}
use Rattle.volumes.proofs.volume.Volume.take.Goals as goal

pub returns-in_err-post_section : goal.returns-in_err-post_section
returns-in_err-post_section g c =
    let takes = c.take_lowest-taken.ensures in
    let kept = c.in_err-post_section.ensures in
    exit_post_refused _ _ _ _ _ _ _ c.from_residual.ensures.1
    (section_taken _ g.D.Drive.meaning _ _ _ c.args.self.now.memory _ _ _ _ _ _ c.in-Some.ensures.lowest c.service.ensures.value c.wanted-most.ensures
    c.records.ensures.same c.records.ensures.label c.shown_section-section.ensures takes.left takes.taken)
    refl kept.answer kept.after kept.same

pub take-requires : goal.take-requires
take-requires g c =
    let v = c.args.self.now.memory in
    let none : length v.unsettled ≡ 0 = ap length c.requires.settled in
    let tickets = used_within v.tickets in
    let four = c.service.ensures.sound.four in
    let service = ap length c.service.ensures.value in
    let taken = ap length c.deref.ensures.0 in
    let bound : held v + length c.deref.result.now ≤ 32 = omega arith in
    subst (λ m. held m + length c.deref.result.now ≤ 32) (sym c.post_section.ensures.same) bound

pub returns : goal.returns
returns g c =
    let takes = c.take_lowest-taken.ensures in
    let posted = c.in_ok-post_section.ensures in
    let k = c.in-Some.k in
    let taken = c.deref.result.now in
    let held = c.take.ensures ∙ ap₂ {C = Memory} (λ x n. with_stock x (Writing k) (set x.counts k n) x.service (x.unsettled ++ taken)) posted.same c.count.ensures in
    posting _ _ _ _ _ _ _ _ posted.after.0
    (section_taken _ g.D.Drive.meaning _ _ _ c.args.self.now.memory _ _ _ _ _ _ c.in-Some.ensures.lowest c.service.ensures.value c.wanted-most.ensures
    c.records.ensures.same c.records.ensures.label c.shown_section-section.ensures takes.left (c.deref.ensures.0 ∙ takes.taken))
    posted.answer refl held posted.after.1
