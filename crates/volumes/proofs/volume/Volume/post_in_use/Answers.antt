use Rattle.std.proofs.Common.{[], ◌∷◌, map, refl, ap, ◌∙◌}
use Rattle.memory.specs.View.{opened_as}
use Rattle.model.specs.Calls.{plan}
use Rattle.model.specs.Plans.{open_plan, next_trouble}
use Rattle.model.specs.Shown.{with_state, bits_shown}
use Rattle.record.specs.Sections.{free_count}
use Rattle.record.specs.declared.label.Label.{Label}
use Rattle.record.specs.declared.label.LabelState.TheVariants.{InUse}
use Rattle.model.specs.Volume.{label_bytes}
use Rattle.model.proofs.CarriedLaws.{asked_yes, asked_no, needed_some, needed_none}
use Rattle.volumes.proofs.Carrying.{page_and_phase, call_refused, call_post_refused, call_posted}
use Rattle.volumes.proofs.volume.Volume.post_in_use.Goals as goal

pub returns-in_err-page : goal.returns-in_err-page
unfolding plan open_plan
returns-in_err-page g c = call_refused _ _ _ tt c.from_residual.ensures.1 (asked_no _ _ _ _ c.in_err-page.ensures.answer)

pub returns-in_err-ask_phase : goal.returns-in_err-ask_phase
unfolding plan open_plan
returns-in_err-ask_phase g c =
    call_refused _ _ _ tt c.from_residual-in_err-ask_phase.ensures.1 (asked_yes _ _ _ c.in_ok-page.ensures.answer ∙ asked_no _ _ _ _ c.in_err-ask_phase.ensures)

pub returns-in_err-records : goal.returns-in_err-records
unfolding plan open_plan
returns-in_err-records g c =
    call_refused _ _ _ tt c.from_residual-in_err-records.ensures.1
    (page_and_phase _ _ _ c.in_ok-page.ensures.answer c.in_ok-ask_phase.ensures ∙ needed_none _ _ _ _ c.in_err-records.ensures.label)

pub returns-in_err-ask_may_open : goal.returns-in_err-ask_may_open
unfolding plan open_plan
returns-in_err-ask_may_open g c =
    call_refused _ _ _ tt c.from_residual-in_err-ask_may_open.ensures.1
    (page_and_phase _ _ _ c.in_ok-page.ensures.answer c.in_ok-ask_phase.ensures ∙ (needed_some _ _ _ _ c.in_ok-records.ensures.label
    ∙ asked_no _ _ _ _ c.in_err-ask_may_open.ensures))

pub returns-in_err-post : goal.returns-in_err-post
unfolding plan open_plan
returns-in_err-post g c =
    call_post_refused _ _ _ _ _ _ tt c.from_residual-in_err-post.ensures.1
    (page_and_phase _ _ _ c.in_ok-page.ensures.answer c.in_ok-ask_phase.ensures ∙ (needed_some _ _ _ _ c.in_ok-records.ensures.label
    ∙ asked_yes _ _ _ c.in_ok-ask_may_open.ensures))
    (c.encode.ensures ∙ ap label_bytes c.in_use-opened.ensures) c.in_err-post.ensures.answer c.in_err-post.ensures.after refl

pub returns : goal.returns
unfolding plan open_plan
returns g c =
    let posted = c.in_ok-post.ensures in
    let v = c.args.self.now.memory in
    let l = c.in_ok-records.records.label in
    let next : Label = with_state l InUse (next_trouble l.state l.trouble) in
    let held = c.open.ensures ∙ (ap (λ x. opened_as v x c.count_map-counts.result) c.in_use-opened.ensures ∙ (ap (opened_as v next) c.count_map-counts.ensures ∙ ap (λ d. opened_as v next (map (λ k. free_count (bits_shown (g.D.Drive.meaning d) l.id l.entries k)) (0 ∷ 1 ∷ 2 ∷ []))) c.in_ok-records.ensures.same)) in
    call_posted _ tt (page_and_phase _ _ _ c.in_ok-page.ensures.answer c.in_ok-ask_phase.ensures ∙ (needed_some _ _ _ _ c.in_ok-records.ensures.label
    ∙ asked_yes _ _ _ c.in_ok-ask_may_open.ensures))
    (c.encode.ensures ∙ ap label_bytes c.in_use-opened.ensures) posted.answer held posted.after
