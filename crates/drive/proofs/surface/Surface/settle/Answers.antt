use Rattle.std.proofs.Common.{◌<◌, length, set, ap, ◌∙◌, arith, rules}
use Rattle.drive.specs.Disks.{disk}
use Rattle.drive.specs.Meaning.{readable}
use Rattle.drive.proofs.SurfaceLaws.{room, states_put, put_sized, settled_sized}
use Rattle.drive.proofs.surface.Surface.settle.Goals as goal

pub slice_bounds-copy_from_slice-end : goal.slice_bounds-copy_from_slice-end
slice_bounds-copy_from_slice-end c = search (rules, room)

pub bounds-self-at : goal.bounds-self-at
bounds-self-at c = let s = c.args.self.now in omega (arith, room s.bytes.now s.marks.now c.args.at c.requires)

pub invariant_of-self : goal.invariant_of-self
invariant_of-self c =
    let s = c.args.self.now in
    let within : c.from-at.result < length (disk s) = omega (arith, c.from-at.ensures) in
    record { sized = put_sized s.bytes.now s.marks.now c.args.bytes.now _ c.from-at.result _ (omega arith) c.copy_from_slice.ensures.after c.told-bytes within c.fits-bytes s.sized }

pub invariant_of-self-2 : goal.invariant_of-self-2
invariant_of-self-2 c =
    let s = c.args.self.now in
    let within : c.from-at.result < length (disk s) = omega (arith, c.from-at.ensures) in
    let put = states_put s.bytes.now s.marks.now c.args.bytes.now _ c.from-at.result _ (omega arith) c.copy_from_slice.ensures.after c.told-bytes within in
    record { sized = settled_sized (disk s) _ c.from-at.result c.args.bytes.now put c.fits-bytes s.sized }

pub returns-clause-records : goal.returns-clause-records
returns-clause-records c =
    let s = c.args.self.now in
    let within : c.from-at.result < length (disk s) = omega (arith, c.from-at.ensures) in
    let put = states_put s.bytes.now s.marks.now c.args.bytes.now _ c.from-at.result _ (omega arith) c.copy_from_slice.ensures.after c.told-bytes within in
    put ∙ ap (λ a. set (disk s) a (readable c.args.bytes.now)) c.from-at.ensures
