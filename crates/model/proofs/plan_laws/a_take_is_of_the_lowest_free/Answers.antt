use Rattle.model.proofs.PlanLaws.{a_take_is_of_the_lowest_free}
use Rattle.model.proofs.plan_laws.a_take_is_of_the_lowest_free.Goals as goal

pub returns : goal.returns
returns c = a_take_is_of_the_lowest_free
