use Rattle.record.proofs.BitLaws.{a_changed_bit_changes_no_other}
use Rattle.record.proofs.laws.a_changed_bit_changes_no_other.Goals as goal

pub returns : goal.returns
returns c = a_changed_bit_changes_no_other
