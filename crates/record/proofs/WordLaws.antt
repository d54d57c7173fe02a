-- Laws of words and of a record's bytes.
use Rattle.std.proofs.Common.{◌≡◌, ℕ, zero, suc, ◌+◌, ◌*◌, ◌/◌, ◌%◌, ◌^◌, ◌<◌, ◌≤◌, ◌&&◌, eqb, List, [], ◌∷◌, ◌++◌, length, get_or, take, drop, set, refl, subst, ap, ◌∙◌, ap₂, suc-add, div-add-mod', arith, ◌-◌, ◌≢◌}
use native.Mathlib.Nat.{div-div-eq-div-mul}
use Rattle.std.specs.List.{range_with_len, list_all, AllByRecursion}
use Rattle.std.specs.Array.{IsFromFnResult, IsFromFnResultFrom}
use Rattle.std.specs.Fn.{Called}
use denote.Param.Members.{Mut}
use Rattle.std.proofs.ByRecursion.{All-get_or}
use Rattle.std.proofs.lemmas.List.{drop_more, get_or-set_same, get_or-set_other, length-append, length-take, length-drop}
use Rattle.record.specs.Words.{be, be_bytes, word, put, words, unwords, zeros}

quad : (j : ℕ) → 4 * suc j ≡ suc (suc (suc (suc (4 * j))))
quad j = omega arith

-- four digits to the base 256
digits4 : (w x y z r s t : ℕ) → x * 256 + r ≡ w → y * 256 + s ≡ x → z * 256 + t ≡ y → be z t s r ≡ w
digits4 w x y z r s t e f g = omega arith

-- a word that fits is what its four bytes write
pub be_of_bytes : (w : ℕ) → w < 2 ^ 32 → be (w / 16777216 % 256) (w / 65536 % 256) (w / 256 % 256) (w % 256) ≡ w
be_of_bytes w h =
    let top : w / 16777216 % 256 ≡ w / 16777216 = omega arith in
    let f : w / 65536 * 256 + w / 256 % 256 ≡ w / 256 = rw div-div-eq-div-mul at (div-add-mod' (w / 256) 256) in
    let g : w / 16777216 * 256 + w / 65536 % 256 ≡ w / 65536 = rw div-div-eq-div-mul at (div-add-mod' (w / 65536) 256) in
    rw top (digits4 w (w / 256) (w / 65536) (w / 16777216) (w % 256) (w / 256 % 256) (w / 65536 % 256) (div-add-mod' w 256) f g)

pub put_more : (a b c d : ℕ) (p : List ℕ) (i w : ℕ) → put (a ∷ b ∷ c ∷ d ∷ p) (suc i) w ≡ a ∷ b ∷ c ∷ d ∷ put p i w
put_more a b c d p i w =
    let e : 4 * suc i + 4 ≡ suc (suc (suc (suc (4 * i + 4)))) = omega arith in
    ap₂ (λ n m. take n (a ∷ b ∷ c ∷ d ∷ p) ++ (be_bytes w ++ drop m (a ∷ b ∷ c ∷ d ∷ p))) (quad i) e

-- word i, by its bytes
pub get_d_words : (p : List ℕ) (i : ℕ) → 4 * i + 4 ≤ length p → word p i ≡ be (get_or p (4 * i) 0) (get_or p (4 * i + 1) 0) (get_or p (4 * i + 2) 0) (get_or p (4 * i + 3) 0)
get_d_words [] i h = absurd (omega arith)
get_d_words (a ∷ []) i h = absurd (omega arith)
get_d_words (a ∷ b ∷ []) i h = absurd (omega arith)
get_d_words (a ∷ b ∷ c ∷ []) i h = absurd (omega arith)
get_d_words (a ∷ b ∷ c ∷ d ∷ p) zero h = refl
get_d_words (a ∷ b ∷ c ∷ d ∷ p) (suc i) h = simp (quad, suc-add) (get_d_words p i (omega arith))

pub length_words : (p : List ℕ) → length (words p) ≡ length p / 4
length_words [] = refl
length_words (a ∷ []) = refl
length_words (a ∷ b ∷ []) = refl
length_words (a ∷ b ∷ c ∷ []) = refl
length_words (a ∷ b ∷ c ∷ d ∷ p) = omega (arith, length_words p)

-- words and bytes are each other's inverse
pub words_unwords : (ws : List ℕ) → AllByRecursion (λ w. w < 2 ^ 32) ws → words (unwords ws) ≡ ws
words_unwords [] h = refl
words_unwords (w ∷ ws) h = cc (be_of_bytes w h.0, words_unwords ws h.1)

pub unwords_words : (p : List ℕ) → AllByRecursion (λ b. b < 256) p → length p % 4 ≡ 0 → unwords (words p) ≡ p
unwords_words [] h e = refl
unwords_words (a ∷ []) h e = absurd (omega arith)
unwords_words (a ∷ b ∷ []) h e = absurd (omega arith)
unwords_words (a ∷ b ∷ c ∷ []) h e = absurd (omega arith)
unwords_words (a ∷ b ∷ c ∷ d ∷ p) h e =
    let ha = h.0 in
    let hb = h.1.0 in
    let hc = h.1.1.0 in
    let hd = h.1.1.1.0 in
    let e0 : be a b c d / 16777216 % 256 ≡ a = omega arith in
    let e1 : be a b c d / 65536 % 256 ≡ b = omega arith in
    let e2 : be a b c d / 256 % 256 ≡ c = omega arith in
    let e3 : be a b c d % 256 ≡ d = omega arith in
    cc (unwords_words p h.1.1.1.1 (omega arith))

-- the n words from i on, one by one
pub zeros_at_each : (ws : List ℕ) (i n : ℕ) → ((k : ℕ) → k < n → i + k < length ws) → list_all (λ k. eqb (get_or ws k 0) 0) (range_with_len i n) ≡ zeros (take n (drop i ws))
zeros_at_each ws i zero h = refl
zeros_at_each ws i (suc n) h =
    let b = h 0 (omega arith) in
    let r : (k : ℕ) → k < n → i + 1 + k < length ws = λ k l. (let d = h (suc k) (omega arith) in omega arith) in
    rw (drop_more ws i 0 (omega arith)) (ap (λ b. eqb (get_or ws i 0) 0 && b) (zeros_at_each ws (i + 1) n r))

pub words_drop : (m : ℕ) (p : List ℕ) → words (drop (4 * m) p) ≡ drop m (words p)
words_drop zero p = refl
words_drop (suc m) [] = rw quad refl
words_drop (suc m) (a ∷ []) = rw quad refl
words_drop (suc m) (a ∷ b ∷ []) = rw quad refl
words_drop (suc m) (a ∷ b ∷ c ∷ []) = rw quad refl
words_drop (suc m) (a ∷ b ∷ c ∷ d ∷ p) = rw quad (words_drop m p)

pub words_take : (n : ℕ) (p : List ℕ) → words (take (4 * n) p) ≡ take n (words p)
words_take zero p = refl
words_take (suc n) [] = rw quad refl
words_take (suc n) (a ∷ []) = rw quad refl
words_take (suc n) (a ∷ b ∷ []) = rw quad refl
words_take (suc n) (a ∷ b ∷ c ∷ []) = rw quad refl
words_take (suc n) (a ∷ b ∷ c ∷ d ∷ p) = rw quad (ap (λ x. be a b c d ∷ x) (words_take n p))

-- a word is put into bytes that were made of words
pub put_unwords : (ws : List ℕ) (i w : ℕ) → i < length ws → put (unwords ws) i w ≡ unwords (set ws i w)
put_unwords [] i w h = absurd (omega arith)
put_unwords (a ∷ ws) zero w h = refl
put_unwords (a ∷ ws) (suc i) w h =
    put_more _ _ _ _ (unwords ws) i w ∙ ap (λ x. be_bytes a ++ x) (put_unwords ws i w (omega arith))

pub length_unwords : (ws : List ℕ) → length (unwords ws) ≡ 4 * length ws
length_unwords [] = refl
length_unwords (w ∷ ws) = omega (arith, length_unwords ws)

-- what the calls of a closure that stays as it is made, place by place
made_at : {F : Type 0} (g : Mut F (ℕ × Unit {0}) ℕ) (f : F) (h : ℕ → ℕ) (ys : List ℕ) → ((i y : ℕ) (q : F) → Called g f (i, tt) y q → (q ≡ f) × (y ≡ h i))
    → (i n : ℕ) → IsFromFnResultFrom g f ys i n → (k : ℕ) → k < n → get_or ys (i + k) 0 ≡ h (i + k)
made_at g f h ys t i zero r k l = absurd (omega arith)
made_at {F} g f h ys t i (suc n) r zero l =
    let a = t i r.1 r.0 r.3 in
    let e : i + 0 ≡ i = omega arith in
    rw e (r.2.1 0 ∙ a.1)
made_at {F} g f h ys t i (suc n) r (suc k) l =
    let a = t i r.1 r.0 r.3 in
    let P : F → Type 0 = λ q. IsFromFnResultFrom g q ys (i + 1) n in
    let e : i + suc k ≡ i + 1 + k = omega arith in
    rw e (made_at g f h ys t (i + 1) n (subst P a.0 r.4) k (omega arith))

pub made_each : {F : Type 0} (g : Mut F (ℕ × Unit {0}) ℕ) (f : F) (h : ℕ → ℕ) (ys : List ℕ) (n : ℕ) → IsFromFnResult g f ys n
    → ((i y : ℕ) (q : F) → Called g f (i, tt) y q → (q ≡ f) × (y ≡ h i)) → (k : ℕ) → k < n → get_or ys k 0 ≡ h k
made_each g f h ys n r t k l = let e : 0 + k ≡ k = omega arith in rw e at (made_at g f h ys t 0 n r.each k l)

-- a word of bytes fits
pub word_fits : (p : List ℕ) (i : ℕ) → AllByRecursion (λ b. b < 256) p → 4 * i + 4 ≤ length p → word p i < 2 ^ 32
word_fits p i h l =
    let a = All-get_or (λ b. b < 256) p (4 * i) 0 (omega arith) h in
    let b = All-get_or (λ b. b < 256) p (4 * i + 1) 0 (omega arith) h in
    let c = All-get_or (λ b. b < 256) p (4 * i + 2) 0 (omega arith) h in
    let d = All-get_or (λ b. b < 256) p (4 * i + 3) 0 (omega arith) h in
    let e = get_d_words p i l in omega arith

pub words_put : (p : List ℕ) (i w : ℕ) → 4 * i + 4 ≤ length p → w < 2 ^ 32 → words (put p i w) ≡ set (words p) i w
words_put [] i w h fit = absurd (omega arith)
words_put (a ∷ []) i w h fit = absurd (omega arith)
words_put (a ∷ b ∷ []) i w h fit = absurd (omega arith)
words_put (a ∷ b ∷ c ∷ []) i w h fit = absurd (omega arith)
words_put (a ∷ b ∷ c ∷ d ∷ p) zero w h fit = ap (λ x. x ∷ words p) (be_of_bytes w fit)
words_put (a ∷ b ∷ c ∷ d ∷ p) (suc i) w h fit =
    rw put_more (ap (λ x. be a b c d ∷ x) (words_put p i w (omega arith) fit))

pub length_put : (p : List ℕ) (i w : ℕ) → 4 * i + 4 ≤ length p → length (put p i w) ≡ length p
length_put p i w h = simp (length-append, length-take, length-drop) (omega arith)

-- the word that was put is read again, and any other word is as it was
pub word_put_same : (p : List ℕ) (i w : ℕ) → 4 * i + 4 ≤ length p → w < 2 ^ 32 → word (put p i w) i ≡ w
word_put_same p i w h fit =
    let n = length_words p in
    let long : i < length (words p) = omega arith in rw (words_put p i w h fit) (get_or-set_same (words p) i w 0 long)

pub word_put_other : (p : List ℕ) (i j w : ℕ) → 4 * i + 4 ≤ length p → w < 2 ^ 32 → j ≢ i → word (put p i w) j ≡ word p j
word_put_other p i j w h fit ne = rw (words_put p i w h fit) (get_or-set_other (words p) i j w 0 ne)
