-- The free numbers of a section, from the lowest on.
use Rattle.std.proofs.Common.{◌≡◌, ℕ, zero, suc, ◌+◌, ◌-◌, ◌/◌, ◌<◌, ◌≤◌, Bool, true, cond, List, [], ◌∷◌, length, take, Some, None, sym, refl, ap, ◌∙◌, ap₂, inl, inr, sub-one, arith}
use Rattle.std.proofs.lemmas.Bool.{both_ways, cases_Bool, cases_lt, cond-false, ne_eqb}
use Rattle.record.specs.Sections.{bit, marked, first_from, lowest_free}
use Rattle.record.proofs.BitLaws.{bit_past, bit_marked}
use Rattle.model.specs.Stock.{free_from}

inside : (bits : List ℕ) (r : ℕ) → bit bits r ≡ true → r / 32 < length bits
inside bits r on =
    elim (cases_lt (r / 32) (length bits)) [ inl h ↦ h | inr h ↦ absurd (both_ways (bit bits r) (bit_past bits r h) on) ]

module _ (bits : List ℕ) (first : ℕ) where
  -- a number that is taken is not seen from above it
  free_above : (r : ℕ) → bit bits r ≡ true → (s n : ℕ) → r < s → free_from (marked bits r 0) first s n ≡ free_from bits first s n
  unfolding free_from
  free_above r on s zero h = refl
  free_above r on s (suc n) h =
      let same : bit (marked bits r 0) s ≡ bit bits s = bit_marked bits r 0 s (inside bits r on) (omega arith) ∙ cond-false _ _ _ (ne_eqb s r (omega arith)) in
      ap₂ (λ (b : Bool) (l : List ℕ). cond b ((first + s) ∷ l) l) same (free_above r on (s + 1) n (omega arith))

  -- the lowest of the numbers from s on is the first that is free, and the others come after it
  lowest_first : (s n r : ℕ) → first_from (bit bits) s n ≡ Some r
      → (r < s + n) × (bit bits r ≡ true) × (free_from bits first s n ≡ (first + r) ∷ free_from bits first (r + 1) (s + n - (r + 1)))
  unfolding first_from free_from
  lowest_first s zero r e = let z : ◌≡◌ {A = ℕ} 0 1 = cc in absurd (omega arith)
  lowest_first s (suc n) r e =
      elim (cases_Bool (bit bits s)) [
        | inl on ↦
            let e' : Some s ≡ Some r = rw on at e in
            let same : s ≡ r = cc in
            let m : n ≡ s + suc n - (s + 1) = omega arith in
            (omega arith, ap (bit bits) (sym same) ∙ on, rw (on, ← same) (ap (λ x. (first + s) ∷ free_from bits first (s + 1) x) m))
        | inr off ↦
            let rest = lowest_first (s + 1) n r (rw off at e) in
            let m : s + 1 + n - (r + 1) ≡ s + suc n - (r + 1) = omega arith in
            (omega arith, rest.1, rw off (rest.2 ∙ ap (λ x. (first + r) ∷ free_from bits first (r + 1) x) m))
      ]

  none_first : (s n : ℕ) → first_from (bit bits) s n ≡ None → free_from bits first s n ≡ []
  unfolding first_from free_from
  none_first s zero e = refl
  none_first s (suc n) e =
      elim (cases_Bool (bit bits s)) [
        | inl on ↦ let e' : Some s ≡ None = rw on at e in let z : ◌≡◌ {A = ℕ} 0 1 = cc in absurd (omega arith)
        | inr off ↦ rw off (none_first (s + 1) n (rw off at e))
      ]

pub lowest_inside : (bits : List ℕ) (s r : ℕ) → s ≤ 3968 → Some r ≡ lowest_free bits s → r < 3968
lowest_inside bits s r h e = omega (arith, (lowest_first bits 0 s (3968 - s) r (sym e)).0)

-- the lowest number that is free is taken, and the next are those above it
pub next_taken : (bits : List ℕ) (first s m r : ℕ) → s ≤ 3968 → 0 < m → Some r ≡ lowest_free bits s
    → take m (free_from bits first s (3968 - s)) ≡ (first + r) ∷ take (m - 1) (free_from (marked bits r 0) first (r + 1) (3968 - (r + 1)))
next_taken bits first s zero r h p e = absurd (omega arith)
next_taken bits first s (suc m) r h p e =
    let q = lowest_first bits first s (3968 - s) r (sym e) in
    let n : s + (3968 - s) - (r + 1) ≡ 3968 - (r + 1) = omega arith in
    let above = free_above bits first r q.1 (r + 1) (3968 - (r + 1)) (omega arith) in
    ap (take (suc m)) (q.2 ∙ ap (λ x. (first + r) ∷ free_from bits first (r + 1) x) n) ∙ rw (sub-one, above)

pub none_left : (bits : List ℕ) (first s m : ℕ) → None ≡ lowest_free bits s → take m (free_from bits first s (3968 - s)) ≡ []
none_left bits first s zero e = refl
none_left bits first s (suc m) e = ap (take (suc m)) (none_first bits first s (3968 - s) (sym e))
