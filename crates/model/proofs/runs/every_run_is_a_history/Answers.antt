use Rattle.model.proofs.RunsLaws.{every_run_is_a_history}
use Rattle.model.proofs.runs.every_run_is_a_history.Goals as goal

pub returns : goal.returns
returns c = every_run_is_a_history
