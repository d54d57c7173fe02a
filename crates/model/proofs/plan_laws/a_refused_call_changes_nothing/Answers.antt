use Rattle.model.proofs.PlanLaws.{a_refused_call_changes_nothing}
use Rattle.model.proofs.plan_laws.a_refused_call_changes_nothing.Goals as goal

pub returns : goal.returns
returns c = a_refused_call_changes_nothing
