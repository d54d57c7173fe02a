use Rattle.model.proofs.PlanLaws.{after_an_update_the_entry_shows_exactly_the_live_slots}
use Rattle.model.proofs.plan_laws.after_an_update_the_entry_shows_exactly_the_live_slots.Goals as goal

pub returns : goal.returns
returns c = after_an_update_the_entry_shows_exactly_the_live_slots
