use Rattle.record.proofs.AddressLaws.{sound_addresses_name_each_page_once}
use Rattle.record.proofs.laws.sound_addresses_name_each_page_once.Goals as goal

pub returns : goal.returns
returns c = sound_addresses_name_each_page_once
