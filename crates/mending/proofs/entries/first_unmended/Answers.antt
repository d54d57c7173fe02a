use Rattle.std.proofs.Common.{arith}
use Rattle.drive.specs.Meaning.{shown}
use Rattle.mending.proofs.UnmendedLaws.{looking_more, looking_found}
use Rattle.mending.proofs.entries.first_unmended.Goals as goal

pub returns-in-Some : goal.returns-in-Some
returns-in-Some g c =
    looking_found c.args.records.now.label (shown (g.D.Drive.meaning c.args.records.now.drive.now)) c.loop-i.tally c.loop-i.i c.in-Some.form (omega arith)
    c.in-Some.ensures.form c.loop-i.invariant

pub loop-i-preserved : goal.loop-i-preserved
loop-i-preserved g c =
    looking_more c.args.records.now.label (shown (g.D.Drive.meaning c.args.records.now.drive.now)) c.loop-i.tally c.unmended_form.new.tally c.loop-i.i (omega arith)
    c.in_default.ensures.form c.unmended_form.ensures.tally c.loop-i.invariant

pub returns : goal.returns
returns g c = c.loop-i.invariant.1 0 (omega arith)
