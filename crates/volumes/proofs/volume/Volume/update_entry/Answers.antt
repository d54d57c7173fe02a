use Rattle.std.proofs.Common.{ap₂, ◌≡◌, List, map, Some, refl, ap, ◌∙◌}
use mathlib.Core.List.{map-map}
use Rattle.drive.specs.Meaning.{Meaning}
use Rattle.record.specs.declared.entry.Entry.{Entry}
use Rattle.model.specs.declared.memory.File.{File}
use Rattle.model.specs.declared.memory.Slot.{Slot}
use Rattle.model.specs.Calls.{plan}
use Rattle.model.specs.Memory.{Memory, with_file}
use Rattle.model.specs.Slots.{with_slots, updated, live_address}
use Rattle.model.specs.Plans.{update_plan}
use Rattle.model.specs.Volume.{entry_bytes}
use Rattle.model.proofs.CarriedLaws.{asked_yes, asked_no, needed_some, needed_none, some_of}
use Rattle.volumes.proofs.Carrying.{page_and_phase, call_refused, call_post_refused, call_posted}
use Rattle.volumes.proofs.volume.Volume.update_entry.Goals as goal

pub returns-in_err-page : goal.returns-in_err-page
unfolding plan update_plan
returns-in_err-page g c = call_refused _ _ _ tt c.from_residual.ensures.1 (asked_no _ _ _ _ c.in_err-page.ensures.answer)

pub returns-in_err-ask_phase : goal.returns-in_err-ask_phase
unfolding plan update_plan
returns-in_err-ask_phase g c =
    call_refused _ _ _ tt c.from_residual-in_err-ask_phase.ensures.1 (asked_yes _ _ _ c.in_ok-page.ensures.answer ∙ asked_no _ _ _ _ c.in_err-ask_phase.ensures)

pub returns-in_err-used : goal.returns-in_err-used
unfolding plan update_plan
returns-in_err-used g c =
    call_refused _ _ _ tt c.from_residual-in_err-used.ensures.1
    (page_and_phase _ _ _ c.in_ok-page.ensures.answer c.in_ok-ask_phase.ensures ∙ needed_none _ _ _ _ c.in_err-used.ensures.found)

pub returns-in_err-ask_settled : goal.returns-in_err-ask_settled
unfolding plan update_plan
returns-in_err-ask_settled g c =
    call_refused _ _ _ tt c.from_residual-in_err-ask_settled.ensures.1 (page_and_phase _ _ _ c.in_ok-page.ensures.answer c.in_ok-ask_phase.ensures
    ∙ (needed_some _ _ _ _ c.in_ok-used.ensures.found ∙ asked_no _ _ _ _ c.in_err-ask_settled.ensures))

-- the entry that is posted names the pages that are Live once the slots have moved
named : (m : Meaning) (x : File) (moved : List Slot) (entry : Entry) → moved ≡ map (updated m) x.slots → entry ≡ record { meter = x.meter; slots = map live_address moved }
    → entry ≡ record { meter = x.meter; slots = map (λ s. live_address (updated m s)) x.slots }
named m x moved entry is e = e ∙ ap {B = Entry} (λ l. record { meter = x.meter; slots = l }) (ap (map live_address) is ∙ map-map live_address (updated m) x.slots)

pub returns-in_err-post_entry : goal.returns-in_err-post_entry
unfolding plan update_plan
returns-in_err-post_entry g c =
    let names = named (g.D.Drive.meaning c.args.self.now.drive) c.in_ok-used.used _ _ c.moved_slots-moved.ensures c.naming_live-entry.ensures in
    call_post_refused _ _ _ _ _ _ tt c.from_residual-in_err-post_entry.ensures.1 (page_and_phase _ _ _ c.in_ok-page.ensures.answer c.in_ok-ask_phase.ensures
    ∙ (needed_some _ _ _ _ c.in_ok-used.ensures.found ∙ asked_yes _ _ _ c.in_ok-ask_settled.ensures))
    (ap₂ entry_bytes c.id.ensures names) c.in_err-post_entry.ensures.answer c.in_err-post_entry.ensures.after refl

pub returns : goal.returns
unfolding plan update_plan
returns g c =
    let v = c.args.self.now.memory in
    let x = c.in_ok-used.used in
    let posted = c.in_ok-post_entry.ensures in
    let names = named (g.D.Drive.meaning c.args.self.now.drive) c.in_ok-used.used _ _ c.moved_slots-moved.ensures c.naming_live-entry.ensures in
    let held = c.move_slots.ensures x (some_of 6 _ _ c.in_ok-used.ensures.found)
    ∙ ap {B = Memory} (λ ss. with_file v c.args.file (Some (with_slots x ss))) c.moved_slots-moved.ensures in
    call_posted _ tt (page_and_phase _ _ _ c.in_ok-page.ensures.answer c.in_ok-ask_phase.ensures
    ∙ (needed_some _ _ _ _ c.in_ok-used.ensures.found ∙ asked_yes _ _ _ c.in_ok-ask_settled.ensures))
    (ap₂ entry_bytes c.id.ensures names) posted.answer held posted.after
