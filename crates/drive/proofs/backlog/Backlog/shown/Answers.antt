use Rattle.std.proofs.Common.{get_or, sym, ap, ◌∙◌}
use Rattle.drive.specs.Disks.{disk}
use Rattle.drive.specs.Meaning.{spoiled}
use Rattle.drive.proofs.QueueLaws.{found_state, youngest-line}
use Rattle.drive.proofs.backlog.Backlog.shown.Goals as goal

pub returns-in-Some : goal.returns-in-Some
returns-in-Some c =
    let b = c.args.self.now in
    let s = get_or (disk b.surface) c.args.at spoiled in
    ap (λ o. found_state o s) c.in-Some.ensures ∙ sym (youngest-line b.queue.items c.args.at s)

pub returns-in-None : goal.returns-in-None
returns-in-None c =
    let b = c.args.self.now in
    let s = get_or (disk b.surface) c.args.at spoiled in
    c.shown.ensures
    ∙ ap (λ o. found_state o s) c.in-None.ensures ∙ sym (youngest-line b.queue.items c.args.at s)
