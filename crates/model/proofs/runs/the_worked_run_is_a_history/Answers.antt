use Rattle.model.proofs.RunsWorked.{the_worked_run_is_a_history}
use Rattle.model.proofs.runs.the_worked_run_is_a_history.Goals as goal

pub returns : goal.returns
returns c = the_worked_run_is_a_history
