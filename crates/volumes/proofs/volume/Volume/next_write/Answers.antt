use Rattle.std.proofs.Common.{◌≡◌, length, eqb, ap, ◌∙◌, subst, arith}
use Rattle.drive.specs.Meaning.{size}
use Rattle.model.specs.Carried.{asked}
use Rattle.model.specs.Mending.{salvaging}
use Rattle.model.specs.Outcomes.{post}
use Rattle.model.specs.Replies.{salvaged_reply}
use Rattle.model.specs.Shown.{label_shown}
use Rattle.model.proofs.CarriedLaws.{asked_yes, asked_no, needed_some, needed_none, some_of}
use Rattle.volumes.proofs.Carrying.{exit_is, tally_long}
use Rattle.volumes.proofs.volume.Volume.next_write.Goals as goal

pub returns-in_err-records : goal.returns-in_err-records
returns-in_err-records g c = λ r v. rw (exit_is _ _ c.from_residual.ensures.1) (needed_none _ _ _ _ c.in_err-records.ensures.label)

pub returns-in_err-ask_tally : goal.returns-in_err-ask_tally
returns-in_err-ask_tally g c =
    let at_size = ap (λ n. asked 5 (eqb (length c.args.tally.now) n)) c.size.ensures in
    λ r v. rw (exit_is _ _ c.from_residual-in_err-ask_tally.ensures.1) (needed_some _ _ _ _ c.in_ok-records.ensures.label ∙ asked_no _ _ _ _ (c.in_err-ask_tally.ensures ∙ at_size))

pub returns-in_err-ask_quiet : goal.returns-in_err-ask_quiet
returns-in_err-ask_quiet g c =
    let at_size = ap (λ n. asked 5 (eqb (length c.args.tally.now) n)) c.size.ensures in
    let at_owed = ap (λ n. asked 15 (eqb n 0)) c.owed.ensures.value in
    λ r v. rw (exit_is _ _ c.from_residual-in_err-ask_quiet.ensures.1) (needed_some _ _ _ _ c.in_ok-records.ensures.label
    ∙ (asked_yes _ _ _ (c.in_ok-ask_tally.ensures ∙ at_size) ∙ asked_no _ _ _ _ (c.in_err-ask_quiet.ensures ∙ at_owed)))

pub next_mend-requires : goal.next_mend-requires
next_mend-requires g c =
    let M = g.D.Drive.meaning in
    let same = c.in_ok-records.ensures.same in
    let whole = tally_long (length c.args.tally.now) c.size.result c.in_ok-ask_tally.ensures in
    record {
      tallied = omega (arith, whole, c.size.ensures, ap (λ d. size (M d)) same);
      believed = ap (λ d. label_shown (M d)) same ∙ some_of 3 _ _ c.in_ok-records.ensures.label;
    }

pub returns : goal.returns
returns g c =
    let M = g.D.Drive.meaning in
    let l = c.in_ok-records.records.label in
    let w = c.next_mend.result in
    let at_size = ap (λ n. asked 5 (eqb (length c.args.tally.now) n)) c.size.ensures in
    let at_owed = ap (λ n. asked 15 (eqb n 0)) c.owed.ensures.value in
    λ r v.
    let mends = subst (λ d. salvaging r (M d) v l ≡ post r (M d) (salvaged_reply w.0) v (record { at = w.1; bytes = c.next_mend.new.page })) c.in_ok-records.ensures.same (c.next_mend.ensures r v) in
    needed_some _ _ _ _ c.in_ok-records.ensures.label
    ∙ (asked_yes _ _ _ (c.in_ok-ask_tally.ensures ∙ at_size) ∙ (asked_yes _ _ _ (c.in_ok-ask_quiet.ensures ∙ at_owed) ∙ mends))
