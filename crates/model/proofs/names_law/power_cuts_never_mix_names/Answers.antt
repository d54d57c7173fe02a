use Rattle.model.proofs.ReachedLaws.{power_cuts_never_mix_names}
use Rattle.model.proofs.names_law.power_cuts_never_mix_names.Goals as goal

pub returns : goal.returns
returns c = power_cuts_never_mix_names
