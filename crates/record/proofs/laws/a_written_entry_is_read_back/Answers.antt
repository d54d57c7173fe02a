use Rattle.record.proofs.EntryLaws.{a_written_entry_is_read_back}
use Rattle.record.proofs.laws.a_written_entry_is_read_back.Goals as goal

pub returns : goal.returns
returns c = a_written_entry_is_read_back
