use Rattle.model.proofs.UnharmedLaws.{no_power_cut_harms_a_volume}
use Rattle.model.proofs.power_cuts.no_power_cut_harms_a_volume.Goals as goal

pub returns : goal.returns
returns c = no_power_cut_harms_a_volume
