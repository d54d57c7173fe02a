-- What a believed label says of the sizes of a volume.
use Rattle.std.proofs.Common.{◌≡◌, ℕ, ◌≤◌, Bool, true, ◌&&◌, eqb, leb, List, Some, None, Option, refl, subst, arith}
use Rattle.std.specs.List.{between}
use Rattle.std.proofs.lemmas.Bool.{and_parts, eqb-true}
use Rattle.drive.specs.Meaning.{Meaning, size, shown}
use Rattle.record.specs.declared.label.Label.{Label}
use Rattle.record.specs.declared.label.LabelState.TheVariants.{InUse}
use Rattle.record.specs.Control.{whole}
use Rattle.record.specs.Labels.{label_text, label_in, label_laid_out, believed_label}
use Rattle.record.specs.Regions.{in_limits}
use Rattle.record.specs.Words.{words, word, zeros, same}
use Rattle.record.proofs.LayoutLaws.{some_parts}
use Rattle.model.specs.Shown.{bytes_in, with_state, counted_in_use, or_else, label_in_state, label_shown}
use Rattle.model.proofs.NewLaws.{limits}

-- the label's numbers suit a drive of t records
abbrev pub Sized : ℕ → Label → Type 0
Sized t l = (l.records ≡ t) × (in_limits l.id l.entries t ≡ true)

laid_sized : (t : ℕ) (p : List ℕ) → label_laid_out t p ≡ true → Sized t (label_in p)
laid_sized t p h =
    let limits = in_limits (word p 0) (word p 8) t in
    let last : Bool = leb (word p 9) 2 && zeros (between 11 128 (words p)) in
    let a = and_parts (same (between 8 24 p) label_text) (eqb (word p 6) 1 && (eqb (word p 7) t && (limits && last))) h in
    let b = and_parts (eqb (word p 6) 1) (eqb (word p 7) t && (limits && last)) a.1 in
    let c = and_parts (eqb (word p 7) t) (limits && last) b.1 in
    (eqb-true (word p 7) t c.0, (and_parts limits last c.1).0)

believed_sized : (t : ℕ) (p : List ℕ) (l : Label) → believed_label 0 t p ≡ Some l → Sized t l
believed_sized t p l h =
    let b = some_parts (whole 0 (word p 0) p && label_laid_out t p) (label_in p) l h in
    subst (Sized t) b.1 (laid_sized t p (and_parts (whole 0 (word p 0) p) (label_laid_out t p) b.0).1)

either_sized : (t : ℕ) (first copy : Option Label) (l : Label) → ((x : Label) → first ≡ Some x → Sized t x) → ((x : Label) → copy ≡ Some x → Sized t x)
    → or_else first (counted_in_use copy) ≡ Some l → Sized t l
either_sized t (Some x) copy l H K e = H l e
either_sized t None (Some x) l H K e = let is : with_state x InUse x.trouble ≡ l = cc in subst (Sized t) is (K x refl)
either_sized t None None l H K e = absurd (let z : ◌≡◌ {A = ℕ} 0 1 = cc in omega arith)

pub label_sized : (m : Meaning) (l : Label) → label_shown m ≡ Some l → Sized (size m) l
label_sized m l e =
    either_sized (size m) (label_in_state (size m) (shown m 0)) (label_in_state (size m) (shown m 7)) l
    (believed_sized (size m) (bytes_in (shown m 0))) (believed_sized (size m) (bytes_in (shown m 7))) e

-- a believed label has at most 3,968 entries
pub few_entries : (m : Meaning) (l : Label) → label_shown m ≡ Some l → l.entries ≤ 3968
few_entries m l e = (limits l.id l.entries (size m) (label_sized m l e).1).2
