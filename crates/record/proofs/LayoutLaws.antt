-- What the layouts share: words that are zero, and what is believed of a page.
use Rattle.std.proofs.Common.{◌≡◌, ℕ, zero, suc, ◌-◌, Bool, true, false, cond, List, [], ◌∷◌, length, drop, replicate, Some, None, sym, refl, ap, ◌∙◌, ap₂, arith}
use Rattle.std.specs.List.{between}
use Rattle.std.proofs.lemmas.List.Edits.{length-between}
use Rattle.std.proofs.lemmas.Slice.{between_to_end}
use Rattle.std.proofs.lemmas.Bool.{and_parts, eqb-true}
use Rattle.record.specs.Words.{zeros}
use Rattle.record.proofs.ControlLaws.{Fit}

pub all_zeros : (n : ℕ) → Fit (replicate n 0)
all_zeros zero = tt
all_zeros (suc n) = (omega arith, all_zeros n)

pub zeros_are : (ws : List ℕ) → zeros ws ≡ true → ws ≡ replicate (length ws) 0
zeros_are [] h = refl
zeros_are (w ∷ ws) h = let a = and_parts _ _ h in ap₂ (λ x y. x ∷ y) (eqb-true w 0 a.0) (zeros_are ws a.1)

-- the words from i on, where those are zero
pub zeros_to_end : (ws : List ℕ) (i : ℕ) → length ws ≡ 128 → zeros (between i 128 ws) ≡ true → drop i ws ≡ replicate (128 - i) 0
zeros_to_end ws i l h =
    let n : length (between i 128 ws) ≡ 128 - i = length-between ws i 128 (omega arith) in
    sym (between_to_end ws i 128 (omega arith)) ∙ (zeros_are (between i 128 ws) h ∙ ap (λ k. replicate k 0) n)

pub some_parts : {A : Type 0} (b : Bool) (x y : A) → cond b (Some x) None ≡ Some y → (b ≡ true) × (x ≡ y)
some_parts true x y h = (refl, cc)
some_parts false x y h = let z : ◌≡◌ {A = ℕ} 0 1 = cc in absurd (omega arith)
