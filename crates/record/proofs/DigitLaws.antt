-- Digits of a word, and shifts and masks.
use Rattle.std.proofs.Common.{◌≡◌, ℕ, zero, suc, ◌+◌, ◌-◌, ◌*◌, ◌/◌, ◌%◌, ◌^◌, ◌<◌, not, eqb, sym, refl, ap, ◌∙◌, ap₂, inl, inr, mod-eq_of_lt, add-mul, one-add, arith}
use native.Mathlib.Nat.{mod-mod}
use lib.Arith.{digits_lt}
use lib.Bits.{bit_and, bit_or, and_block, or_block, and_mask, and_zero_r, or_zero_r}
use lib.Pow.{mod-mod-pow}
use Rattle.std.proofs.lemmas.Nat.{shr_high, mod_low, shr-shr, shr_split, shr_below, field_of, pow_pos, pow-add, mod_below}
use Rattle.std.proofs.lemmas.Bool.{cases_lt, eq-eqb, ne_eqb}
use Rattle.record.specs.Sections.{digit, with_digit}

low_lt : (w k : ℕ) → w % 2 ^ k < 2 ^ k
low_lt w k = mod_below w (2 ^ k) (pow_pos k)

-- the parts of w with another digit: what stands from k on, and below k
high_with : (w k b : ℕ) → with_digit w k b / 2 ^ k ≡ w / 2 ^ k / 2 * 2 + b
high_with w k b = shr_high (w / 2 ^ k / 2 * 2 + b) k (w % 2 ^ k) (low_lt w k)

low_with : (w k b : ℕ) → with_digit w k b % 2 ^ k ≡ w % 2 ^ k
low_with w k b = mod_low (w / 2 ^ k / 2 * 2 + b) k (w % 2 ^ k) (low_lt w k)

pub digit_same : (w k b : ℕ) → b < 2 → digit (with_digit w k b) k ≡ b
digit_same w k b h = rw (high_with w k b) (omega arith)

-- w with the digit that it has
with_own : (w k : ℕ) → with_digit w k (digit w k) ≡ w
with_own w k =
    let e : w / 2 ^ k / 2 * 2 + w / 2 ^ k % 2 ≡ w / 2 ^ k = omega arith in rw e (shr_split w k)

-- digits below k hang on what is below k, and digits above k on what is above
digit_below : (m n j k : ℕ) → j < k → m % 2 ^ k ≡ n % 2 ^ k → digit m j ≡ digit n j
digit_below m n j k lt e =
    let i = k - (1 + j) in
    let s : i + (1 + j) ≡ k = omega arith in
    let f : m % 2 ^ (1 + j) ≡ n % 2 ^ (1 + j) = sym (mod-mod-pow m i (1 + j)) ∙ (ap (λ x. x % 2 ^ (1 + j)) (rw s e) ∙ mod-mod-pow n i (1 + j)) in
    sym (field_of m 1 j) ∙ (ap (λ x. x / 2 ^ j) f ∙ field_of n 1 j)

above : (x i j k : ℕ) → (k + 1) + i ≡ j → x / 2 ^ j ≡ x / 2 ^ k / 2 / 2 ^ i
above x i j k s =
    ap (λ y. x / 2 ^ y) (sym s) ∙ (sym (shr-shr x (k + 1) i) ∙ ap (λ y. y / 2 ^ i) (sym (shr-shr x k 1)))

digit_above : (m n j k : ℕ) → k < j → m / 2 ^ k / 2 ≡ n / 2 ^ k / 2 → digit m j ≡ digit n j
digit_above m n j k lt e =
    let i = j - (k + 1) in
    let s : (k + 1) + i ≡ j = omega arith in
    ap (λ y. y % 2) (above m i j k s ∙ (ap (λ y. y / 2 ^ i) e ∙ sym (above n i j k s)))

pub digit_other : (w k b j : ℕ) → b < 2 → (j ≡ k → ⊥) → digit (with_digit w k b) j ≡ digit w j
digit_other w k b j h ne =
    elim (cases_lt j k) [
      | inl lt ↦ digit_below (with_digit w k b) w j k lt (low_with w k b)
      | inr le ↦ digit_above (with_digit w k b) w j k (omega arith) (rw (high_with w k b) (omega arith))
    ]

-- the highest of n digits, and the digits below it
pub top_digit : (w n : ℕ) → w < 2 ^ suc n → digit w n ≡ w / 2 ^ n
top_digit w n fit = let f : w < 2 ^ (1 + n) = rw (one-add n) fit in mod-eq_of_lt (shr_below w 1 n f)

pub low_digit : (w n k : ℕ) → k < n → digit (w % 2 ^ n) k ≡ digit w k
low_digit w n k lt = digit_below (w % 2 ^ n) w k n lt (mod-mod w (2 ^ n))

-- numbers with the same digits are the same
pub same_digits : (n w v : ℕ) → w < 2 ^ n → v < 2 ^ n → ((k : ℕ) → k < n → digit w k ≡ digit v k) → w ≡ v
same_digits zero w v fw fv h = omega arith
same_digits (suc n) w v fw fv h =
    let top : w / 2 ^ n ≡ v / 2 ^ n = sym (top_digit w n fw) ∙ (h n (omega arith) ∙ top_digit v n fv) in
    let low : w % 2 ^ n ≡ v % 2 ^ n = same_digits n (w % 2 ^ n) (v % 2 ^ n) (low_lt w n) (low_lt v n) (λ k l. low_digit w n k l ∙ (h k (omega arith) ∙ sym (low_digit v n k l))) in
    sym (shr_split w n) ∙ (ap₂ (λ x y. x * 2 ^ n + y) top low ∙ shr_split v n)

-- ---- masks

-- the lowest bit
pub and_one : (n : ℕ) → bit_and n 1 ≡ n % 2
and_one n = and_mask n 1

-- 2 ^ 32, at a place k
whole_at : (k : ℕ) → k < 32 → 2 ^ 32 ≡ 2 ^ (31 - k) * 2 * 2 ^ k
whole_at k h =
    let s : 31 - k + 1 + k ≡ 32 = omega arith in
    ap (λ y. 2 ^ y) (sym s) ∙ (pow-add 2 (31 - k + 1) k ∙ ap (λ y. y * 2 ^ k) (pow-add 2 (31 - k) 1))

-- the mask that has each bit but one
mask_parts : (k : ℕ) → k < 32 → 2 ^ 32 - 1 - 2 ^ k ≡ ((2 ^ (31 - k) - 1) * 2 + 0) * 2 ^ k + (2 ^ k - 1)
mask_parts k h =
    let b = 2 ^ (31 - k) - 1 in
    let pa = pow_pos k in
    let pb = pow_pos (31 - k) in
    let e : 2 ^ (31 - k) * 2 ≡ b * 2 + 2 = omega arith in
    let f : 2 ^ 32 ≡ b * 2 * 2 ^ k + 2 * 2 ^ k = whole_at k h ∙ (ap (λ y. y * 2 ^ k) e ∙ add-mul (b * 2) 2 (2 ^ k)) in
    let g : b * 2 + 0 ≡ b * 2 = omega arith in
    rw g (omega arith)

high_lt : (w k : ℕ) → w < 2 ^ 32 → k < 32 → w / 2 ^ k / 2 < 2 ^ (31 - k)
high_lt w k fit h =
    let s : 31 - k + (k + 1) ≡ 32 = omega arith in
    rw (shr-shr w k 1) (shr_below w (31 - k) (k + 1) (rw s fit))

-- `w & !(1 << k)`
pub and_clears : (w k : ℕ) → w < 2 ^ 32 → k < 32 → bit_and w (2 ^ 32 - 1 - 2 ^ k) ≡ with_digit w k 0
and_clears w k fit h =
    let q = w / 2 ^ k / 2 in
    let d = digit w k in
    let t = w % 2 ^ k in
    let y = 2 ^ (31 - k) - 1 in
    let hd : d < 2 = omega arith in
    let pa = pow_pos k in
    let a : bit_and (q * 2 + d) (y * 2 + 0) ≡ bit_and q y * 2 + bit_and d 0 = and_block 1 q y d 0 hd (omega arith) in
    let b : bit_and q y ≡ q = and_mask q (31 - k) ∙ mod-eq_of_lt (high_lt w k fit h) in
    let c : bit_and t (2 ^ k - 1) ≡ t = and_mask t k ∙ mod-eq_of_lt (low_lt w k) in
    let z : bit_and (q * 2 + d) (y * 2 + 0) ≡ q * 2 + 0 = a ∙ ap₂ (λ m n. m * 2 + n) b (and_zero_r d) in
    ap₂ bit_and (sym (with_own w k)) (mask_parts k h)
    ∙ (and_block k (q * 2 + d) (y * 2 + 0) t (2 ^ k - 1) (low_lt w k) (omega arith) ∙ ap₂ (λ m n. m * 2 ^ k + n) z c)

or_one : (d : ℕ) → d < 2 → bit_or d 1 ≡ 1
or_one zero h = refl
or_one (suc zero) h = refl
or_one (suc (suc d)) h = absurd (omega arith)

-- `w | 1 << k`
pub or_sets : (w k : ℕ) → bit_or w (2 ^ k) ≡ with_digit w k 1
or_sets w k =
    let q = w / 2 ^ k / 2 in
    let d = digit w k in
    let t = w % 2 ^ k in
    let hd : d < 2 = omega arith in
    let a : bit_or (q * 2 + d) (0 * 2 + 1) ≡ bit_or q 0 * 2 + bit_or d 1 = or_block 1 q 0 d 1 hd (omega arith) in
    let b : bit_or (q * 2 + d) (0 * 2 + 1) ≡ q * 2 + 1 = a ∙ ap₂ (λ m n. m * 2 + n) (or_zero_r q) (or_one d hd) in
    let p : 2 ^ k ≡ (0 * 2 + 1) * 2 ^ k + 0 = omega arith in
    ap₂ bit_or (sym (with_own w k)) p
    ∙ (or_block k (q * 2 + d) (0 * 2 + 1) t 0 (low_lt w k) (pow_pos k) ∙ ap₂ (λ m n. m * 2 ^ k + n) b (or_zero_r t))

-- `w & 1 << k`
and_keeps : (w k : ℕ) → bit_and w (2 ^ k) ≡ digit w k * 2 ^ k
and_keeps w k =
    let a = w / 2 ^ k in
    let t = w % 2 ^ k in
    let p : 2 ^ k ≡ 1 * 2 ^ k + 0 = omega arith in
    let z : (a % 2) * 2 ^ k + 0 ≡ (a % 2) * 2 ^ k = omega arith in
    ap₂ bit_and (sym (shr_split w k)) p
    ∙ (and_block k a 1 t 0 (low_lt w k) (pow_pos k) ∙ (ap₂ (λ m n. m * 2 ^ k + n) (and_one a) (and_zero_r t) ∙ z))

pub and_tells : (w k : ℕ) → not (eqb (bit_and w (2 ^ k)) 0) ≡ eqb (digit w k) 1
and_tells w k = rw (and_keeps w k) (told (digit w k) (2 ^ k) (omega arith) (pow_pos k))
  where
    told : (d p : ℕ) → d < 2 → 0 < p → not (eqb (d * p) 0) ≡ eqb d 1
    told zero p hd hp = ap not (eq-eqb (0 * p) 0 (omega arith))
    told (suc zero) p hd hp = ap not (ne_eqb (1 * p) 0 (λ e. omega arith))
    told (suc (suc d)) p hd hp = absurd (omega arith)

pub with_fits : (w k b : ℕ) → w < 2 ^ 32 → k < 32 → b < 2 → with_digit w k b < 2 ^ 32
with_fits w k b fit h hb =
    let q = w / 2 ^ k / 2 in
    let e : q * 2 + b < 2 ^ (31 - k) * 2 = omega (arith, high_lt w k fit h) in
    rw (whole_at k h) (digits_lt e (low_lt w k))
