use Rattle.record.proofs.LabelLaws.{a_written_label_is_believed}
use Rattle.record.proofs.laws.a_written_label_is_believed.Goals as goal

pub returns : goal.returns
returns c = a_written_label_is_believed
