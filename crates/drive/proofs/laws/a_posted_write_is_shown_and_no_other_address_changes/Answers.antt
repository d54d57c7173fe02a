use Rattle.drive.proofs.MeaningLaws.{a_posted_write_is_shown_and_no_other_address_changes}
use Rattle.drive.proofs.laws.a_posted_write_is_shown_and_no_other_address_changes.Goals as goal

pub returns : goal.returns
returns c = a_posted_write_is_shown_and_no_other_address_changes
