-- The parts of what no power cut breaks, put together.
use Rattle.model.specs.PowerCuts.{NoPowerCutHarmsAVolume}
use Rattle.model.proofs.ReachedLaws.{power_cuts_never_mix_names}
use Rattle.model.proofs.ReachedPages.{power_cuts_lose_no_named_page}
use Rattle.model.proofs.MendedImages.{salvage_mends_every_image}

pub no_power_cut_harms_a_volume : NoPowerCutHarmsAVolume
no_power_cut_harms_a_volume g m id e deep lasting formed fits limited h h' v d n reached moment image =
    let names = power_cuts_never_mix_names g m id e formed fits limited h h' v d n reached moment image in
    let pages = power_cuts_lose_no_named_page g m id e formed fits limited h h' v d n reached moment image in
    let salvage = salvage_mends_every_image g m id e deep formed fits limited h h' v d n reached moment image in
    record {
      named_once = names.0;
      never_free = names.1;
      in_region = names.2;
      pages = pages.0;
      last_writes = pages.1;
      opens = λ alive. (salvage alive).0;
      mends = λ alive. (salvage alive).1;
    }
