use Rattle.std.proofs.Common.{◌+◌, ◌∙◌, arith, rules}
use Rattle.drive.specs.Backlogs.{held}
use Rattle.drive.proofs.AnswerLaws.{room_passed}
use Rattle.drive.proofs.MeaningLaws.{completed_posted, owed_complete, owed_posted}
use Rattle.drive.proofs.buffered.BufferedDrive.post.Goals as goal

pub invariant_of-self : goal.invariant_of-self
invariant_of-self g c =
    let d = c.args.self.now in
    let room = room_passed g.P.Of.Kind.DEPTH g.P.Of.Kind.LIFE c.len.result d.wear c.args.at c.in_ok-ask_room.ensures.answer in
    let one = owed_posted (held d.backlog 0) (held c.push.new.self 1) c.args.at _ (c.push.ensures.waits 0) in
    let fewer = owed_complete (held c.push.new.self 1) (held c.complete.new.self 1) c.post-count.result (c.complete.ensures.settled 1) in
    record { worn = omega (arith, room.1); few = omega (arith, room.0, one, fewer, c.len.ensures.value) }

pub returns : goal.returns
returns g c =
    let d = c.args.self.now in
    let done =
    completed_posted (held d.backlog d.wear) (held c.push.new.self (d.wear + 1)) (held c.complete.new.self (d.wear + 1))
    c.post-count.result (g.P.Pace.in_post d.pace) c.args.at c.in_ok-bytes.bytes.now c.args.page.now
    (c.complete.ensures.settled (d.wear + 1)) (c.push.ensures.waits d.wear) c.in_ok-bytes.ensures.bytes c.post-count.ensures.count in
    record {
      answer = search rules;
      after = (g.P.Pace.in_post d.pace, done);
      pace = c.post-count.ensures.moved;
      completes = done;
      lent = (c.complete.ensures.lent.0 ∙ c.push.ensures.lent.0, c.complete.ensures.lent.1 ∙ c.push.ensures.lent.1);
    }
