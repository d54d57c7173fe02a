use Rattle.std.proofs.Common.{ap, ◌∙◌}
use Rattle.std.proofs.lemmas.List.{map_push}
use Rattle.drive.specs.Queues.{write_of, line}
use Rattle.drive.proofs.EachLaws.{all_bytes_from}
use Rattle.drive.proofs.BacklogLaws.{below_push}
use Rattle.drive.proofs.backlog.Backlog.push.Goals as goal

pub invariant_of-push : goal.invariant_of-push
invariant_of-push c = record { full = c.told-bytes; sized = all_bytes_from c.args.bytes.now c.fits-bytes }

pub invariant_of-self : goal.invariant_of-self
invariant_of-self c =
    let b = c.args.self.now in
    let longer = ap line c.push.ensures.items ∙ map_push write_of b.queue.items _ in
    record { inside = below_push _ (line b.queue.items) _ _ longer c.requires.within b.inside }
