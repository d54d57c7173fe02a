use Rattle.model.proofs.RunsWorked.{all_worked_examples_come_out}
use Rattle.model.proofs.runs.all_worked_examples_come_out.Goals as goal

pub returns : goal.returns
returns c = all_worked_examples_come_out
