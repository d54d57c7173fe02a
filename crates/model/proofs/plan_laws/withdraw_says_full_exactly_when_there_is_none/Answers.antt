use Rattle.model.proofs.PlanLaws.{withdraw_says_full_exactly_when_there_is_none}
use Rattle.model.proofs.plan_laws.withdraw_says_full_exactly_when_there_is_none.Goals as goal

pub returns : goal.returns
returns c = withdraw_says_full_exactly_when_there_is_none
