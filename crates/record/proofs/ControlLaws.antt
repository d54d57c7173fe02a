-- The walk over a record's words, and what a control record is.
use Rattle.std.proofs.Common.{◌≡◌, ℕ, suc, ◌+◌, ◌/◌, ◌^◌, ◌<◌, ◌≤◌, true, cond, eqb, List, [], ◌∷◌, map, length, get_or, drop, sym, refl, ap, ◌∙◌, ap₂, add-one, arith}
use Rattle.std.specs.Simd.{first_chunks}
use Rattle.std.specs.List.{AllByRecursion}
use Rattle.std.proofs.ByRecursion.{All-from_get_or}
use Rattle.std.proofs.lemmas.List.{at_drop_more, get_or-map, length-map}
use Rattle.std.proofs.lemmas.Bool.{eq-eqb, ne_eqb, cond_both, and_from, and_parts, eqb-true}
use Rattle.drive.specs.Meaning.{RecordBytes}
use Rattle.record.specs.Words.{be, word, put, words, unwords}
use Rattle.record.specs.Control.{added, sum_from, check, control, whole}
use Rattle.record.proofs.WordLaws.{put_unwords, length_words, words_unwords, unwords_words, length_unwords, word_fits}

-- the number that an array of four bytes writes, as `from_be_bytes` has it
abbrev pub number : List ℕ → ℕ
number q = be (get_or q 0 0) (get_or q 1 0) (get_or q 2 0) (get_or q 3 0)

-- the words are the numbers of what `as_chunks` gives
pub words_chunked : (p : List ℕ) → words p ≡ map number (first_chunks 4 (length p / 4) p)
words_chunked [] = refl
words_chunked (a ∷ []) = refl
words_chunked (a ∷ b ∷ []) = refl
words_chunked (a ∷ b ∷ c ∷ []) = refl
words_chunked (a ∷ b ∷ c ∷ d ∷ p) =
    let e : length (a ∷ b ∷ c ∷ d ∷ p) / 4 ≡ suc (length p / 4) = omega arith in
    rw e (ap (λ x. be a b c d ∷ x) (words_chunked p))

pub get_or_quads : (p : List ℕ) (qs : List (List ℕ)) (i : ℕ) → qs ≡ first_chunks 4 (length p / 4) p → i < length qs
    → (i < length (words p)) × (get_or (words p) i 0 ≡ number (get_or qs i []))
get_or_quads p qs i e h =
    let m : words p ≡ map number qs = words_chunked p ∙ ap (map number) (sym e) in
    rw m (rw length-map h, get_or-map number qs i [] 0 h)

-- one turn of the walk
pub walk_more : (ws : List ℕ) (i s : ℕ) → i < length ws
    → sum_from i s (drop i ws) ≡ sum_from (i + 1) (cond (eqb i 1) s (added s (get_or ws i 0))) (drop (i + 1) ws)
walk_more ws i s h =
    let e : sum_from i s (drop i ws) ≡ sum_from (suc i) (cond (eqb i 1) s (added s (get_or ws i 0))) (drop (i + 1) ws) = at_drop_more (sum_from i s) ws i 0 h in
    e ∙ ap (λ n. sum_from n (cond (eqb i 1) s (added s (get_or ws i 0))) (drop (i + 1) ws)) (sym (add-one i))

pub walk_adds : (ws : List ℕ) (i s t : ℕ) → i < length ws → (i ≡ 1 → ⊥) → t ≡ added s (get_or ws i 0)
    → sum_from (i + 1) t (drop (i + 1) ws) ≡ sum_from i s (drop i ws)
walk_adds ws i s t h ne e = rw e (sym (rw (ne_eqb i 1 ne) at (walk_more ws i s h)))

pub walk_skips : (ws : List ℕ) (i s t : ℕ) → i < length ws → i ≡ 1 → t ≡ s
    → sum_from (i + 1) t (drop (i + 1) ws) ≡ sum_from i s (drop i ws)
walk_skips ws i s t h one e = rw e (sym (rw (eq-eqb i 1 one) at (walk_more ws i s h)))

-- a sum of words fits 32 bits
pub sum_fits : (ws : List ℕ) (i s : ℕ) → s < 2 ^ 32 → sum_from i s ws < 2 ^ 32
sum_fits [] i s h = h
sum_fits (w ∷ ws) i s h =
    sum_fits ws (suc i) (cond (eqb i 1) s (added s w)) (cond_both (eqb i 1) s (added s w) (λ x. x < 2 ^ 32) (λ _. h) (λ _. omega arith))

abbrev pub Fit : List ℕ → Type 0
Fit ws = AllByRecursion (λ w. w < 2 ^ 32) ws

pub words_control : (start id : ℕ) (body : List ℕ) → start < 2 ^ 32 → id < 2 ^ 32 → Fit body
    → words (control start id body) ≡ id ∷ check start (id ∷ 0 ∷ body) ∷ body
unfolding control
words_control start id body hs hi hb =
    words_unwords (id ∷ check start (id ∷ 0 ∷ body) ∷ body) (hi, (sum_fits (id ∷ 0 ∷ body) 0 start hs, hb))

pub length_control : (start id : ℕ) (body : List ℕ) → length body ≡ 126 → length (control start id body) ≡ 512
unfolding control
length_control start id body l = length_unwords (id ∷ check start (id ∷ 0 ∷ body) ∷ body) ∙ omega arith

-- a record that was cleared, filled word by word and sealed
pub sealed_control : (p q : List ℕ) (start id : ℕ) (body : List ℕ) → start < 2 ^ 32 → id < 2 ^ 32 → Fit body
    → p ≡ unwords (id ∷ 0 ∷ body) → q ≡ put p 1 (check start (words p)) → q ≡ control start id body
unfolding control
sealed_control p q start id body hs hi hb e f =
    let z : 0 < 2 ^ 32 = omega arith in
    let w : words p ≡ id ∷ 0 ∷ body = ap words e ∙ words_unwords (id ∷ 0 ∷ body) (hi, (z, hb)) in
    f ∙ (ap₂ (λ x y. put x 1 (check start y)) e w ∙ put_unwords (id ∷ 0 ∷ body) 1 (check start (id ∷ 0 ∷ body)) (omega arith))

-- a control record that was written is whole
pub whole_control : (start id : ℕ) (body : List ℕ) → start < 2 ^ 32 → id < 2 ^ 32 → Fit body → length body ≡ 126
    → whole start id (control start id body) ≡ true
whole_control start id body hs hi hb l =
    let w = words_control start id body hs hi hb in
    and_from _ _ (eq-eqb _ _ (length_control start id body l))
    (rw w (and_from _ _ (eq-eqb id id refl) (eq-eqb _ _ refl)))

-- the words of a record's bytes fit
pub words_fit : (p : List ℕ) → RecordBytes p → Fit (words p)
words_fit p h =
    let n = length_words p in
    let l = h.0 in
    All-from_get_or (λ w. w < 2 ^ 32) (words p) 0 (λ i k. word_fits p i h.1 (omega arith))

two_more : (ws : List ℕ) → 2 ≤ length ws → ws ≡ get_or ws 0 0 ∷ get_or ws 1 0 ∷ drop 2 ws
two_more [] l = absurd (omega arith)
two_more (a ∷ []) l = absurd (omega arith)
two_more (a ∷ b ∷ ws) l = refl

check_any : (start a b c : ℕ) (ws : List ℕ) → check start (a ∷ b ∷ ws) ≡ check start (a ∷ c ∷ ws)
check_any start a b c ws = refl

-- a whole record is the control record of its words 2 to 127
pub whole_is_control : (start id : ℕ) (p : List ℕ) → RecordBytes p → whole start id p ≡ true → p ≡ control start id (drop 2 (words p))
unfolding control
whole_is_control start id p h t =
    let n = length_words p in
    let l = h.0 in
    let a = and_parts _ _ t in
    let b = and_parts _ _ a.1 in
    let x : word p 0 ≡ id = eqb-true _ _ b.0 in
    let y : word p 1 ≡ check start (words p) = eqb-true _ _ b.1 in
    let body = drop 2 (words p) in
    let s : words p ≡ word p 0 ∷ word p 1 ∷ body = two_more (words p) (omega arith) in
    let c : check start (words p) ≡ check start (id ∷ 0 ∷ body) = ap (check start) s ∙ (check_any start (word p 0) (word p 1) 0 body ∙ ap (λ z. check start (z ∷ 0 ∷ body)) x) in
    sym (unwords_words p h.1 (omega arith)) ∙ ap unwords (s ∙ ap₂ (λ u v. u ∷ v ∷ body) x (y ∙ c))

-- the words of a control record
pub control_words : ℕ → ℕ → List ℕ → List ℕ
control_words start id body = id ∷ check start (id ∷ 0 ∷ body) ∷ body
