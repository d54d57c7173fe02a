use Rattle.std.proofs.Common.{◌<◌, length, get_or, ◌∙◌, ◌≡◌, ◌+◌, ◌-◌, ◌*◌, ap, take, drop, arith, rules}
use Rattle.drive.specs.Disks.{disk}
use Rattle.drive.specs.Meaning.{spoiled}
use Rattle.drive.proofs.SurfaceLaws.{room, spoiled_shown, record_shown}
use Rattle.drive.proofs.surface.Surface.shown.Goals as goal

pub bounds-self-at : goal.bounds-self-at
bounds-self-at c = let s = c.args.self.now in omega (arith, room s.bytes.now s.marks.now c.args.at c.requires)

pub returns-then-self-at-ne0 : goal.returns-then-self-at-ne0
returns-then-self-at-ne0 c = search (rules, spoiled_shown)

pub slice_bounds-as_array-end : goal.slice_bounds-as_array-end
slice_bounds-as_array-end c = search (rules, room)

pub returns : goal.returns
returns c =
    let s = c.args.self.now in
    let at = c.from-at.result in
    let within : at < length (disk s) = omega (arith, c.from-at.ensures) in
    let long : at * 512 + 512 - at * 512 ≡ 512 = omega arith in
    let part = ap (λ n. take n (drop (at * 512) s.bytes.now)) long in
    record_shown s.bytes.now s.marks.now _ at c.as_array.result part within c.if-self-at-ne0.false c.as_array.ensures.cases
    ∙ ap (λ a. get_or (disk s) a spoiled) c.from-at.ensures
