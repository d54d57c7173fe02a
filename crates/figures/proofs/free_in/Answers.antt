use Rattle.std.proofs.Common.{rules, tests, arith}
use Rattle.std.proofs.lemmas.Iterator.{YieldsList-from_slice}
use Rattle.std.proofs.lemmas.Iterator.Consumers.{YieldsList-at}
use Rattle.std.proofs.lemmas.Iterator.Adapters.{fits_from_length, at_most_from_yields_List}
use Rattle.figures.proofs.free_in.Goals as goal

pub sum-requires-clause-fits : goal.sum-requires-clause-fits
sum-requires-clause-fits c = fits_from_length _ _ 3 _ (at_most_from_yields_List (YieldsList-at c.map.ensures.source (YieldsList-from_slice c.args.sections.now cc)) (grind arith)) c.map.ensures.closure (omega arith) (λ x r q k. search (rules, tests))
