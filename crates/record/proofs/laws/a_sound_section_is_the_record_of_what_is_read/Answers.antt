use Rattle.record.proofs.SectionLaws.{a_sound_section_is_the_record_of_what_is_read}
use Rattle.record.proofs.laws.a_sound_section_is_the_record_of_what_is_read.Goals as goal

pub returns : goal.returns
returns c = a_sound_section_is_the_record_of_what_is_read
