use Rattle.std.proofs.Common.{◌≡◌, min, length, take, ap, ◌∙◌, lit<, arith}
use Rattle.drive.specs.Disks.{disk}
use Rattle.drive.specs.Queues.{line}
use Rattle.drive.proofs.BacklogLaws.{below_item, below_rest, completed}
use Rattle.drive.proofs.MeaningLaws.{length_settle}
use Rattle.drive.proofs.backlog.Backlog.complete.Goals as goal

pub settle-requires : goal.settle-requires
settle-requires c =
    let b = c.args.self.now in
    let size = ap length c.loop-write.invariant.settled ∙ length_settle (line (take c.loop-write.write-index b.queue.items)) (disk b.surface) in
    let within = below_item (length (disk b.surface)) c.min-count.result c.loop-write.write-index b.queue.items _ c.write-item.result (ap (take c.min-count.result) c.deref.ensures.0) c.loop-write-test.true c.write-item.is b.inside in
    omega (arith, size, within)

pub invariant_of-self-2 : goal.invariant_of-self-2
invariant_of-self-2 c =
    let b = c.args.self.now in
    let size = ap length c.loop-write.invariant.settled ∙ length_settle (line (take c.loop-write.write-index b.queue.items)) (disk b.surface) in
    record { inside = below_rest (length (disk b.surface)) _ c.min-count.result b.queue.items _ (c.drop-drain.ensures (lit< tt) ∙ c.drain.ensures.kept) size b.inside }

pub returns-clause-settled : goal.returns-clause-settled
returns-clause-settled c =
    let b = c.args.self.now in
    let few : c.min-count.result ≡ min c.args.count (length b.queue.items) = c.min-count.ensures ∙ ap (min c.args.count) c.len.ensures.value in
    let all : c.loop-write.write-index ≡ length (take c.min-count.result c.deref.result.now) = omega arith in
    let rest = c.drop-drain.ensures (lit< tt) ∙ c.drain.ensures.kept in
    completed (disk b.surface) _ b.queue.items _ _ c.args.count c.min-count.result c.loop-write.write-index few (ap (take c.min-count.result) c.deref.ensures.0) all c.loop-write.invariant.settled rest
