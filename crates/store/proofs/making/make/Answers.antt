use Rattle.std.proofs.Common.{length, sym, ap, ◌∙◌, subst, arith, rules}
use Rattle.drive.specs.Meaning.{size}
use Rattle.drive.proofs.MeaningLaws.{length_settle}
use Rattle.model.specs.Outcomes.{Rules}
use Rattle.model.specs.Promises.{NoPowerCutHarms}
use Rattle.model.proofs.NewLaws.{make_accepted, made_new}
use Rattle.model.proofs.UnharmedLaws.{no_power_cut_harms_a_volume}
use Rattle.record.specs.Regions.{in_limits}
use Rattle.store.proofs.making.make.Goals as goal

pub write_volume-requires : goal.write_volume-requires
write_volume-requires g c =
    let before = g.D.Drive.meaning c.args.drive.now in
    let yes = make_accepted g.D.Of.Kind.LIFE before c.args.id c.args.entries (length c.args.page.now) c.in_ok-record.ensures.answer in
    let is = c.complete_all.ensures in
    let same = ap size is ∙ length_settle before.outstanding before.settled in
    record {
      sized = ap (in_limits c.args.id c.args.entries) same ∙ yes.1;
      quiet = ap (λ m. m.outstanding) is;
      alive = omega (arith, ap (λ m. m.wear) is, yes.2);
    }

pub returns : goal.returns
returns g c =
    let m = g.D.Drive.meaning in
    let before = m c.args.drive.now in
    let yes = make_accepted g.D.Of.Kind.LIFE before c.args.id c.args.entries (length c.args.page.now) c.in_ok-record.ensures.answer in
    let id = c.args.id in
    let e = c.args.entries in
    let formed = g.D.Drive.formed c.args.drive.now in
    let kind : Rules = record { depth = g.D.Of.Kind.DEPTH; life = g.D.Of.Kind.LIFE } in
    let new = made_new before (m c.complete_all.new.drive) (m c.write_volume.new.drive) id e formed yes.1 c.complete_all.ensures c.write_volume.ensures.after in
    record {
      answer = c.in_ok-record.ensures.answer;
      after = new;
      zero = search rules;
      unharmed = subst (NoPowerCutHarms kind id e) (sym new) (no_power_cut_harms_a_volume kind before id e g.met.D.Of.Kind.deep g.met.D.Of.Kind.lasting formed (omega arith) yes.1);
    }
