use Rattle.std.proofs.Common.{◌++◌, take, ap}
use Rattle.std.proofs.lemmas.List.{drop-drop}
use Rattle.record.specs.Labels.{label_text}
use Rattle.record.proofs.label.put_text.Goals as goal

pub returns : goal.returns
returns c =
    let p = c.args.page.now in
    let h = c.copy_from_slice.ensures.after in rw h (ap (λ rest. take 8 p ++ (label_text ++ rest)) (drop-drop 16 8 p))
