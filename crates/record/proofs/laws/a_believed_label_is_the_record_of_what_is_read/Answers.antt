use Rattle.record.proofs.LabelLaws.{a_believed_label_is_the_record_of_what_is_read}
use Rattle.record.proofs.laws.a_believed_label_is_the_record_of_what_is_read.Goals as goal

pub returns : goal.returns
returns c = a_believed_label_is_the_record_of_what_is_read
