use Rattle.std.proofs.Common.{rules}
use Rattle.record.specs.Labels.{label_body, label_record}
use Rattle.record.proofs.ControlLaws.{sealed_control}
use Rattle.record.proofs.LabelLaws.{label_steps, label_body_fits}
use Rattle.record.proofs.label.Label.encode.Goals as goal

pub returns : goal.returns
unfolding label_record
returns c =
    let l = c.args.self.now in
    let f = c.put_numbers.ensures.fit in
    sealed_control _ _ c.args.start l.id (label_body l) (search rules) (search rules)
    (label_body_fits l f.0 f.1.0 f.1.1)
    (label_steps l _ _ _ _ c.clear.ensures c.put_word.ensures c.put_text.ensures c.put_numbers.ensures.bytes) c.seal.ensures
