use Rattle.model.proofs.ReachedPages.{power_cuts_lose_no_named_page}
use Rattle.model.proofs.pages_law.power_cuts_lose_no_named_page.Goals as goal

pub returns : goal.returns
returns c = power_cuts_lose_no_named_page
