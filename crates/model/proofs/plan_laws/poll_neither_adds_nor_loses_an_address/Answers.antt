use Rattle.model.proofs.PlanLaws.{poll_neither_adds_nor_loses_an_address}
use Rattle.model.proofs.plan_laws.poll_neither_adds_nor_loses_an_address.Goals as goal

pub returns : goal.returns
returns c = poll_neither_adds_nor_loses_an_address
