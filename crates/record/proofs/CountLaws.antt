-- The count of the free numbers, the lowest of them, and whether each may be free.
use Rattle.std.proofs.Common.{◌≡◌, ℕ, zero, suc, ◌+◌, ◌-◌, ◌*◌, ◌/◌, ◌%◌, ◌^◌, ◌<◌, ◌≤◌, Bool, true, false, cond, not, ◌&&◌, ◌||◌, eqb, List, ◌∷◌, ◌++◌, length, get_or, Some, None, Decides, sum_by, count_by, Option, sym, refl, ap, ◌∙◌, ap₂, inl, inr, add-zero, suc-add, zero-add, one-add, arith, MatchOption}
use lib.Count.{ones, ones_in, ones_cat}
use Rattle.std.specs.List.{range_with_len, list_all, find}
use Rattle.std.proofs.lemmas.Nat.{mod_below, pow_pos, shr_below, shr_split}
use Rattle.std.proofs.lemmas.List.FromFn.{length-range_with_len}
use Rattle.std.proofs.lemmas.List.Sums.{sum_by-cons, sum_by-append, count_by-le-length}
use Rattle.std.proofs.lemmas.Bool.{eq-eqb, ne_eqb, cases_eq, and_from, and_parts, both_ways, cond-true, cond-false}
use Rattle.record.specs.Regions.{within}
use Rattle.record.specs.Sections.{digit, bit, marked, free_count, first_from, all_pass}
use Rattle.record.specs.Laws.{AChangedBitMovesTheCountByOne, TheLowestFreeNumberIsLowest, EveryFreeBitLiesInTheRegion}
use Rattle.record.proofs.DigitLaws.{top_digit, low_digit}
use Rattle.record.proofs.BitLaws.{bit_marked, bit_of_word}

pub free_is : (bits : List ℕ) (n : ℕ) → n ≡ 3968 → count_by (bit bits) (range_with_len 0 n) ≡ free_count bits
unfolding free_count
free_is bits n e = ap (λ k. count_by (bit bits) (range_with_len 0 k)) e

pub count_le : (f : ℕ → Bool) (a n : ℕ) → count_by f (range_with_len a n) ≤ n
count_le f a n = let l = length-range_with_len a n in omega (arith, count_by-le-length f (range_with_len a n))

pub free_le : (bits : List ℕ) → free_count bits ≤ 3968
unfolding free_count
free_le bits = count_le (bit bits) 0 3968

-- ---- the count, word by word

counting_append : (m a n : ℕ) → range_with_len a (m + n) ≡ range_with_len a m ++ range_with_len (a + m) n
counting_append zero a n = rw (zero-add n, add-zero a) refl
counting_append (suc m) a n =
    let e : a + suc m ≡ a + 1 + m = omega arith in rw (suc-add m n, e) (ap (λ x. a ∷ x) (counting_append m (a + 1) n))

ones_small : (d : ℕ) → d < 2 → ones d ≡ d
unfolding ones ones_in
ones_small zero h = refl
ones_small (suc zero) h = refl
ones_small (suc (suc d)) h = absurd (omega arith)

-- the set digits of a number of n digits are counted one by one, the highest first
sum_ones : (n a w : ℕ) (g : ℕ → ℕ) → w < 2 ^ n → ((m : ℕ) → m < n → g (a + m) ≡ digit w (n - 1 - m)) → sum_by g (range_with_len a n) ≡ ones w
sum_ones zero a w g fit h = let e : w ≡ 0 = omega arith in rw e (sym (ones_small 0 (omega arith)))
sum_ones (suc n) a w g fit h =
    let lo = w % 2 ^ n in
    let lt : lo < 2 ^ n = mod_below w (2 ^ n) (pow_pos n) in
    let f : w < 2 ^ (1 + n) = rw (one-add n) fit in
    let tl : w / 2 ^ n < 2 = shr_below w 1 n f in
    let z : suc n - 1 - 0 ≡ n = omega arith in
    let a0 : g a ≡ w / 2 ^ n = sym (ap g (add-zero a)) ∙ (h 0 (omega arith) ∙ (ap (digit w) z ∙ top_digit w n fit)) in
    let r : (m : ℕ) → m < n → g (a + 1 + m) ≡ digit lo (n - 1 - m) = λ m k.
    (let e : a + 1 + m ≡ a + suc m = omega arith in
    let d : suc n - 1 - suc m ≡ n - 1 - m = omega arith in
    ap g e ∙ (h (suc m) (omega arith) ∙ (ap (digit w) d ∙ sym (low_digit w n (n - 1 - m) (omega arith))))) in
    let o : ones w ≡ ones (w / 2 ^ n) + ones lo = ap ones (sym (shr_split w n)) ∙ ones_cat n (w / 2 ^ n) lo lt in
    sum_by-cons g a (range_with_len (a + 1) n)
    ∙ (ap₂ ◌+◌ (a0 ∙ sym (ones_small (w / 2 ^ n) tl)) (sum_ones n (a + 1) lo g lt r) ∙ sym o)

cond_digit : (d : ℕ) → d < 2 → cond (eqb d 1) 1 0 ≡ d
cond_digit zero h = refl
cond_digit (suc zero) h = refl
cond_digit (suc (suc d)) h = absurd (omega arith)

-- the 32 bits of word i are counted by its ones
pub count_word : (bits : List ℕ) (i : ℕ) → get_or bits i 0 < 2 ^ 32
    → count_by (bit bits) (range_with_len 0 (32 * (i + 1))) ≡ count_by (bit bits) (range_with_len 0 (32 * i)) + ones (get_or bits i 0)
count_word bits i fit =
    let w = get_or bits i 0 in
    let g : ℕ → ℕ = λ x. cond (bit bits x) 1 0 in
    let b : 32 * (i + 1) ≡ 32 * i + 32 = omega arith in
    let c : range_with_len 0 (32 * i + 32) ≡ range_with_len 0 (32 * i) ++ range_with_len (32 * i) 32 = counting_append (32 * i) 0 32 ∙ ap (λ x. range_with_len 0 (32 * i) ++ range_with_len x 32) (zero-add (32 * i)) in
    let o : sum_by g (range_with_len (32 * i) 32) ≡ ones w = sum_ones 32 (32 * i) w g fit (λ m k. ap (λ t. cond t 1 0) (bit_of_word bits i m k) ∙ cond_digit (digit w (31 - m)) (omega arith)) in
    ap (λ k. sum_by g (range_with_len 0 k)) b
    ∙ (ap (sum_by g) c ∙ (sum_by-append g (range_with_len 0 (32 * i)) (range_with_len (32 * i) 32) ∙ ap (λ x. sum_by g (range_with_len 0 (32 * i)) + x) o))

-- ---- the count after a change at one number

abbrev one : Bool → ℕ
one b = cond b 1 0

count_same : (f g : ℕ → Bool) (a n : ℕ) → ((j : ℕ) → a ≤ j → f j ≡ g j) → count_by f (range_with_len a n) ≡ count_by g (range_with_len a n)
count_same f g a zero h = refl
count_same f g a (suc n) h =
    sum_by-cons (λ x. one (f x)) a (range_with_len (a + 1) n)
    ∙ (ap₂ ◌+◌ (ap one (h a (omega arith))) (count_same f g (a + 1) n (λ j l. h j (omega arith))) ∙ sym (sum_by-cons (λ x. one (g x)) a (range_with_len (a + 1) n)))

count_moves : (f g : ℕ → Bool) (r a n : ℕ) → a ≤ r → r < a + n → ((j : ℕ) → (j ≡ r → ⊥) → f j ≡ g j)
    → count_by f (range_with_len a n) + one (g r) ≡ count_by g (range_with_len a n) + one (f r)
count_moves f g r a zero l u h = absurd (omega arith)
count_moves f g r a (suc n) l u h =
    let cf = sum_by-cons (λ x. one (f x)) a (range_with_len (a + 1) n) in
    let cg = sum_by-cons (λ x. one (g x)) a (range_with_len (a + 1) n) in
    elim (cases_eq a r) [
      | inl e ↦
          let s = count_same f g (a + 1) n (λ j k. h j (λ q. omega arith)) in
          let ef : one (f a) ≡ one (f r) = ap (λ x. one (f x)) e in
          let eg : one (g a) ≡ one (g r) = ap (λ x. one (g x)) e in
          omega arith
      | inr ne ↦
          let i = count_moves f g r (a + 1) n (omega arith) (omega arith) h in
          let s : one (f a) ≡ one (g a) = ap one (h a ne) in
          omega arith
    ]

count_marked : (bits : List ℕ) (r b : ℕ) → length bits ≡ 124 → r < 3968 → b < 2
    → free_count (marked bits r b) + one (bit bits r) ≡ free_count bits + one (eqb b 1)
unfolding free_count
count_marked bits r b l lt hb =
    let m = bit_marked bits r b r (omega arith) hb ∙ cond-true _ _ _ (eq-eqb r r refl) in
    count_moves (bit (marked bits r b)) (bit bits) r 0 3968 (omega arith) (omega arith) (λ j ne. bit_marked bits r b j (omega arith) hb ∙ cond-false _ _ _ (ne_eqb j r ne))
    ∙ ap (λ x. count_by (bit bits) (range_with_len 0 3968) + one x) m

pub a_changed_bit_moves_the_count_by_one : AChangedBitMovesTheCountByOne
a_changed_bit_moves_the_count_by_one bits r h lt = (
  λ on. let c = count_marked bits r 0 h.0 lt (omega arith) in let o = ap one on in omega arith,
  λ off. let c = count_marked bits r 1 h.0 lt (omega arith) in let o = ap one off in omega arith,
)

-- ---- the lowest

pub first_found : (f : ℕ → Bool) (r n : ℕ) → find f (range_with_len r n) ≡ first_from f r n
unfolding first_from
first_found f r zero = refl
first_found f r (suc n) = ap (cond (f r) (Some r)) (first_found f (r + 1) n)

cases_like : (o : Option ℕ) (P P' : Type 0) (Q Q' : ℕ → Type 0) → (P → P') → ((k : ℕ) → Q k → Q' k) → MatchOption o P Q → MatchOption o P' Q'
cases_like None P P' Q Q' f g h = f h
cases_like (Some k) P P' Q Q' f g h = g k h

-- what holds of r, and of each number after it
from_next : (f : ℕ → Bool) (r : ℕ) → f r ≡ false → (n : ℕ) → ((j : ℕ) → r + 1 ≤ j → j < n → f j ≡ false) → (j : ℕ) → r ≤ j → j < n → f j ≡ false
from_next f r e n h j a b = elim (cases_eq j r) [ inl s ↦ ap f s ∙ e | inr ne ↦ h j (omega arith) b ]

abbrev Lowest : (ℕ → Bool) → ℕ → ℕ → Option ℕ → Type 0
Lowest f r n o =
    MatchOption o ((j : ℕ) → r ≤ j → j < n → f j ≡ false)
    (λ k. (r ≤ k) × (k < n) × (f k ≡ true) × ((j : ℕ) → r ≤ j → j < k → f j ≡ false))

lowest_next : (f : ℕ → Bool) (r n : ℕ) (b : Bool) (o : Option ℕ) → r < n → f r ≡ b → Lowest f (r + 1) n o → Lowest f r n (cond b (Some r) o)
lowest_next f r n true o l e h = (omega arith, l, e, λ j a b. absurd (omega arith))
lowest_next f r n false o l e h =
    cases_like o _ _ _ _ (λ g. from_next f r e n g)
    (λ k g. let ge = g.0 in (omega arith, g.1, g.2, from_next f r e k g.3)) h

lowest_from : (f : ℕ → Bool) (r n m : ℕ) → n - r ≡ m → Lowest f r n (first_from f r m)
unfolding first_from
lowest_from f r n zero e = λ j a b. absurd (omega arith)
lowest_from f r n (suc m) e =
    lowest_next f r n (f r) (first_from f (r + 1) m) (omega arith) refl (lowest_from f (r + 1) n m (omega arith))

pub the_lowest_free_number_is_lowest : TheLowestFreeNumberIsLowest
the_lowest_free_number_is_lowest bits r = lowest_from (bit bits) r 3968 (3968 - r) refl

-- ---- each number that is free may be free

pub pass_at_each : (f g : ℕ → Bool) (r n : ℕ) → list_all (λ k. not (f k) || g k) (range_with_len r n) ≡ all_pass f g r n
unfolding all_pass
pass_at_each f g r zero = refl
pass_at_each f g r (suc n) = ap (λ b. (not (f r) || g r) && b) (pass_at_each f g (r + 1) n)

implies : (x y : Bool) → (not x || y) ≡ true → x ≡ true → y ≡ true
implies true y h e = h
implies false y h e = absurd (both_ways false refl e)

implied : (x y : Bool) → (x ≡ true → y ≡ true) → (not x || y) ≡ true
implied true y h = h refl
implied false y h = refl

passes : (f g : ℕ → Bool) (a n : ℕ) → Decides (all_pass f g a n) ((r : ℕ) → a ≤ r → r < a + n → f r ≡ true → g r ≡ true)
unfolding all_pass
passes f g a zero = (λ h r l u e. absurd (omega arith), λ h. refl)
passes f g a (suc n) =
    let d = passes f g (a + 1) n in (
      λ h r l u e.
          (let p = and_parts (not (f a) || g a) (all_pass f g (a + 1) n) h in
          elim (cases_eq r a) [
            | inl s ↦ implies (f r) (g r) (rw s p.0) e
            | inr ne ↦ d.0 p.1 r (omega arith) (omega arith) e
          ]),
      λ h. and_from _ _ (implied (f a) (g a) (h a (omega arith) (omega arith))) (d.1 (λ r l u e. h r (omega arith) (omega arith) e)),
    )

pub every_free_bit_lies_in_the_region : EveryFreeBitLiesInTheRegion
every_free_bit_lies_in_the_region s bits =
    let d = passes (bit bits) (λ r. within s.free (s.first + r)) 0 3968 in
    (λ h r u e. d.0 h r (omega arith) (omega arith) e, λ h. d.1 (λ r l u e. h r (omega arith) e))
