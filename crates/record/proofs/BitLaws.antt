-- The bits of a section: what a change of one leaves, and which bits make which words.
use Rattle.std.proofs.Common.{◌≡◌, ℕ, zero, suc, ◌+◌, ◌-◌, ◌*◌, ◌/◌, ◌%◌, ◌^◌, ◌<◌, ◌≤◌, Bool, true, false, cond, ◌&&◌, eqb, ltb, List, map, length, get_or, replicate, sym, refl, ap, ◌∙◌, ap₂, inl, inr, zero-mul, add-one, arith}
use Rattle.std.specs.List.{range_with_len}
use Rattle.std.proofs.lemmas.Nat.{shr-shr, shr_split, mod_below, pow_pos}
use Rattle.std.proofs.lemmas.List.FromFn.{length-map-range_with_len, get_or-map-range_with_len}
use Rattle.std.proofs.ByRecursion.{All-get_or, All-from_get_or, All-set}
use Rattle.std.proofs.lemmas.List.{ext_get_or, get_or_past, get_or-set_same, get_or-set_other, length-set, length-replicate, get_or-replicate, set_past}
use Rattle.std.proofs.lemmas.Bool.{eq-eqb, ne_eqb, eqb-true, eqb-false, cases_eq, cases_lt, lt-ltb, le-ltb}
use Rattle.record.specs.Sections.{digit, with_digit, weight, bit, marked, packed, bits_of, none_free}
use Rattle.record.specs.Laws.{FittingBits, AChangedBitChangesNoOther, BitsAreToldByTheFreeNumbers}
use Rattle.record.proofs.DigitLaws.{digit_same, digit_other, same_digits, with_fits}

-- past the last word no bit is on
pub bit_past : (bits : List ℕ) (r : ℕ) → length bits ≤ r / 32 → bit bits r ≡ false
bit_past bits r h = rw (get_or_past bits (r / 32) 0 h) (ne_eqb (digit 0 (weight r)) 1 (λ e. omega arith))

-- a change at another word, at the same word, and at the bit itself
pub bit_marked : (bits : List ℕ) (r b j : ℕ) → r / 32 < length bits → b < 2 → bit (marked bits r b) j ≡ cond (eqb j r) (eqb b 1) (bit bits j)
bit_marked bits r b j l hb =
    let w = get_or bits (r / 32) 0 in
    let v = with_digit w (weight r) b in
    elim (cases_eq j r) [
      | inl e ↦ rw (eq-eqb j r e, e, get_or-set_same bits (r / 32) v 0 l) (ap (λ x. eqb x 1) (digit_same w (weight r) b hb))
      | inr ne ↦
          rw (ne_eqb j r ne) (elim (cases_eq (j / 32) (r / 32)) [
            | inl s ↦
                rw (s, get_or-set_same bits (r / 32) v 0 l) (ap (λ x. eqb x 1) (digit_other w (weight r) b (weight j) hb (λ e. ne (omega arith))))
            | inr o ↦ rw (get_or-set_other bits (r / 32) (j / 32) v 0 o) refl
          ])
    ]

marked_fits : (bits : List ℕ) (r b : ℕ) → FittingBits bits → r < 3968 → b < 2 → FittingBits (marked bits r b)
marked_fits bits r b h lt hb =
    let l = h.0 in
    let w = get_or bits (r / 32) 0 in
    let fit : w < 2 ^ 32 = All-get_or (λ x. x < 2 ^ 32) bits (r / 32) 0 (omega arith) h.1 in
    (length-set bits (r / 32) _ ∙ l, All-set (λ x. x < 2 ^ 32) bits (r / 32) _ (with_fits w (weight r) b fit (omega arith) hb) h.1)

pub a_changed_bit_changes_no_other : AChangedBitChangesNoOther
a_changed_bit_changes_no_other bits r b j h lt hb =
    let l = h.0 in (bit_marked bits r b j (omega arith) hb, marked_fits bits r b h lt hb)

-- ---- the bits tell the words

eqb_digits : (c d : ℕ) → c < 2 → d < 2 → eqb c 1 ≡ eqb d 1 → c ≡ d
eqb_digits c d hc hd e =
    elim (cases_eq d 1) [
      | inl one ↦ eqb-true c 1 (e ∙ eq-eqb d 1 one) ∙ sym one
      | inr ne ↦ let nc = eqb-false c 1 (e ∙ ne_eqb d 1 ne) in elim (cases_eq c 1) [ inl s ↦ absurd (nc s) | inr nd ↦ omega arith ]
    ]

-- bit 32 i + m is the digit with the weight 2 ^ (31 - m) of word i
pub bit_of_word : (bits : List ℕ) (i m : ℕ) → m < 32 → bit bits (32 * i + m) ≡ eqb (digit (get_or bits i 0) (31 - m)) 1
bit_of_word bits i m h =
    let p : (32 * i + m) / 32 ≡ i = omega arith in
    let q : weight (32 * i + m) ≡ 31 - m = omega arith in ap₂ (λ x y. eqb (digit (get_or bits x 0) y) 1) p q

word_told : (bits other : List ℕ) (i : ℕ) → ((r : ℕ) → r < 3968 → bit bits r ≡ bit other r) → i < 124 → (k : ℕ) → k < 32
    → digit (get_or bits i 0) k ≡ digit (get_or other i 0) k
word_told bits other i h l k lt =
    let m = 31 - k in
    let e : 31 - m ≡ k = omega arith in
    let b = sym (bit_of_word bits i m (omega arith)) ∙ (h (32 * i + m) (omega arith) ∙ bit_of_word other i m (omega arith)) in
    eqb_digits _ _ (omega arith) (omega arith) (rw e at b)

pub bits_are_told_by_the_free_numbers : BitsAreToldByTheFreeNumbers
bits_are_told_by_the_free_numbers bits other f g h =
    let l = f.0 in
    let m = g.0 in
    ext_get_or 0 bits other (l ∙ sym m)
    (λ i k.
    same_digits 32 (get_or bits i 0) (get_or other i 0) (All-get_or (λ x. x < 2 ^ 32) bits i 0 k f.1) (All-get_or (λ x. x < 2 ^ 32) other i 0 (omega arith) g.1)
    (word_told bits other i h (omega arith)))

-- ---- the words of given bits

-- what stands before the n bits
packed_high : (f : ℕ → Bool) (w a n : ℕ) → packed f w a n / 2 ^ n ≡ w
packed_high f w a zero = omega arith
packed_high f w a (suc n) =
    let v = w * 2 + cond (f a) 1 0 in
    let x = packed f v (a + 1) n in
    let e : x / 2 ^ suc n ≡ x / 2 ^ n / 2 = ap (λ k. x / 2 ^ k) (sym (add-one n)) ∙ sym (shr-shr x n 1) in
    e ∙ (ap (λ y. y / 2) (packed_high f v (a + 1) n) ∙ half w (f a))
  where
    half : (w : ℕ) (b : Bool) → (w * 2 + cond b 1 0) / 2 ≡ w
    half w true = omega arith
    half w false = omega arith

digit_packed : (f : ℕ → Bool) (w a n m : ℕ) → m < n → eqb (digit (packed f w a n) (n - 1 - m)) 1 ≡ f (a + m)
digit_packed f w a zero m h = absurd (omega arith)
digit_packed f w a (suc n) zero h =
    let v = w * 2 + cond (f a) 1 0 in
    let e : suc n - 1 - 0 ≡ n = omega arith in
    let z : a + 0 ≡ a = omega arith in
    rw (e, z) (ap (λ x. eqb (x % 2) 1) (packed_high f v (a + 1) n) ∙ last w (f a))
  where
    last : (w : ℕ) (b : Bool) → eqb ((w * 2 + cond b 1 0) % 2) 1 ≡ b
    last w true = eq-eqb _ 1 (omega arith)
    last w false = ne_eqb _ 1 (λ e. omega arith)
digit_packed f w a (suc n) (suc m) h =
    let e : suc n - 1 - suc m ≡ n - 1 - m = omega arith in
    let z : a + suc m ≡ a + 1 + m = omega arith in
    rw (e, z) (digit_packed f (w * 2 + cond (f a) 1 0) (a + 1) n m (omega arith))

packed_fits : (f : ℕ → Bool) (a n : ℕ) → packed f 0 a n < 2 ^ n
packed_fits f a n =
    let x = packed f 0 a n in
    let high = packed_high f 0 a n in
    let s = shr_split x n in
    let low = mod_below x (2 ^ n) (pow_pos n) in
    let z : x / 2 ^ n * 2 ^ n ≡ 0 = ap (λ y. y * 2 ^ n) high ∙ zero-mul (2 ^ n) in
    omega arith

word_of : (f : ℕ → Bool) (i n : ℕ) → i < n → get_or (map (λ q. packed f 0 (32 * q) 32) (range_with_len 0 n)) i 0 ≡ packed f 0 (32 * i) 32
word_of f i n h = get_or-map-range_with_len (λ q. packed f 0 (32 * q) 32) 0 n i i 0 h (omega arith)

pub bit_bits_of : (f : ℕ → Bool) (r : ℕ) → r < 3968 → bit (bits_of f) r ≡ f r
unfolding bits_of
bit_bits_of f r h =
    let i = r / 32 in
    let m = r % 32 in
    let e : 32 * i + m ≡ r = omega arith in
    ap (λ w. eqb (digit w (31 - m)) 1) (word_of f i 124 (omega arith)) ∙ (digit_packed f 0 (32 * i) 32 m (omega arith) ∙ ap f e)

pub bits_of_fit : (f : ℕ → Bool) → FittingBits (bits_of f)
unfolding bits_of
bits_of_fit f =
    let l = length-map-range_with_len (λ q. packed f 0 (32 * q) 32) 0 124 in
    (l, All-from_get_or (λ w. w < 2 ^ 32) (map (λ q. packed f 0 (32 * q) 32) (range_with_len 0 124)) 0 (λ i k. rw (word_of f i 124 (omega arith)) (packed_fits f (32 * i) 32)))

-- ---- the walk that turns the bits on one by one

-- the bits are on for just the numbers below r that pass the test
pub record OnBelow (f : ℕ → Bool) (r : ℕ) (bits : List ℕ) : Type 0 where
  pub fit : FittingBits bits
  pub each : (j : ℕ) → j < 3968 → bit bits j ≡ (ltb j r && f j)

pub on_none : (f : ℕ → Bool) → OnBelow f 0 none_free
on_none f =
    record {
      fit = (length-replicate {A = ℕ} 124 0, All-from_get_or (λ w. w < 2 ^ 32) (replicate 124 0) 0 (λ i k. rw (get_or-replicate {A = ℕ} 124 i 0 0 k) (omega arith)));
      each = λ j h. rw (get_or-replicate {A = ℕ} 124 (j / 32) 0 0 (omega arith), le-ltb j 0 (omega arith)) (ne_eqb (digit 0 (weight j)) 1 (λ e. omega arith));
    }

next : (f : ℕ → Bool) (r j : ℕ) (b : Bool) → b ≡ (ltb j r && f j) → cond (eqb j r) (f r) b ≡ (ltb j (r + 1) && f j)
next f r j b e =
    elim (cases_eq j r) [
      | inl s ↦ rw (eq-eqb j r s, s, lt-ltb r (r + 1) (omega arith)) refl
      | inr ne ↦
          elim (cases_lt j r) [
            | inl lt ↦ rw (ne_eqb j r ne, lt-ltb j (r + 1) (omega arith)) (rw (lt-ltb j r lt) at e)
            | inr le ↦ rw (ne_eqb j r ne, le-ltb j (r + 1) (omega arith)) (rw (le-ltb j r le) at e)
          ]
    ]

pub on_more : (f : ℕ → Bool) (r : ℕ) (bits : List ℕ) → r < 3968 → f r ≡ true → OnBelow f r bits → OnBelow f (r + 1) (marked bits r 1)
on_more f r bits h e on =
    let l = on.fit.0 in
    record {
      fit = marked_fits bits r 1 on.fit h (omega arith);
      each = λ j k. bit_marked bits r 1 j (omega arith) (omega arith) ∙ (ap (λ b. cond (eqb j r) b (bit bits j)) (sym e) ∙ next f r j (bit bits j) (on.each j k));
    }

pub on_passed : (f : ℕ → Bool) (r : ℕ) (bits : List ℕ) → r < 3968 → f r ≡ false → OnBelow f r bits → OnBelow f (r + 1) bits
on_passed f r bits h e on =
    record { fit = on.fit; each = λ j k. same j k ∙ next f r j (bit bits j) (on.each j k) }
  where
    same : (j : ℕ) → j < 3968 → bit bits j ≡ cond (eqb j r) (f r) (bit bits j)
    same j k =
        elim (cases_eq j r) [
          | inl s ↦ rw (eq-eqb j r s) (on.each j k ∙ (ap (λ x. ltb x r && f x) s ∙ (rw (le-ltb r r (omega arith)) (sym e))))
          | inr ne ↦ rw (ne_eqb j r ne) refl
        ]

pub on_all : (f : ℕ → Bool) (bits : List ℕ) → OnBelow f 3968 bits → bits ≡ bits_of f
on_all f bits on =
    bits_are_told_by_the_free_numbers bits (bits_of f) on.fit (bits_of_fit f)
    (λ r h. on.each r h ∙ (rw (lt-ltb r 3968 h) (sym (bit_bits_of f r h))))

pub marked_past : (bits : List ℕ) (r b : ℕ) → length bits ≤ r / 32 → bits ≡ marked bits r b
marked_past bits r b h = sym (set_past bits (r / 32) _ h)
