use Rattle.std.proofs.Common.{◌≡◌, ℕ, false, ◌&&◌, eqb, List, [], ◌∷◌, length, sym, refl, ap, ◌∙◌, arith}
use lib.Pointwise.{pointwise}
use Rattle.std.specs.Option.{option_copied, unwrap_or}
use Rattle.record.specs.Words.{same}
use Rattle.mending.proofs.shows.shows.Goals as goal

as_same : (xs ys : List ℕ) → pointwise eqb xs ys ≡ same xs ys
as_same [] [] = refl
as_same [] (y ∷ ys) = refl
as_same (x ∷ xs) [] = refl
as_same (x ∷ xs) (y ∷ ys) = ap (λ b. eqb x y && b) (as_same xs ys)

none_same : (ys : List ℕ) → length ys ≡ 512 → false ≡ same [] ys
none_same [] e = absurd (omega arith)
none_same (y ∷ ys) e = refl

pub returns : goal.returns
returns c =
    let first = c.as_slice.ensures in
    let second = c.as_slice-2.ensures in
    c.eq.ensures
    ∙ ((λ i. pointwise eqb (first i) (second i))
    ∙ (as_same c.in-Some.page.now c.args.bytes.now ∙ ap (λ o. same (unwrap_or (option_copied o) []) c.args.bytes.now) (sym c.in-Some.is)))
