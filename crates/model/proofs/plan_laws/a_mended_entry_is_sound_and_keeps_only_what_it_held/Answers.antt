use Rattle.model.proofs.PlanLaws.{a_mended_entry_is_sound_and_keeps_only_what_it_held}
use Rattle.model.proofs.plan_laws.a_mended_entry_is_sound_and_keeps_only_what_it_held.Goals as goal

pub returns : goal.returns
returns c = a_mended_entry_is_sound_and_keeps_only_what_it_held
