use Rattle.record.proofs.SectionLaws.{a_written_section_is_read_back}
use Rattle.record.proofs.laws.a_written_section_is_read_back.Goals as goal

pub returns : goal.returns
returns c = a_written_section_is_read_back
