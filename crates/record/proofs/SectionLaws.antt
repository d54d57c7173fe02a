-- The record of a section: how it is laid out word by word, and what is read from it.
use Rattle.std.proofs.Common.{◌≡◌, ℕ, suc, ◌+◌, ◌-◌, ◌*◌, ◌/◌, ◌%◌, ◌^◌, ◌<◌, ◌≤◌, Bool, true, false, cond, ◌&&◌, eqb, List, [], ◌∷◌, ◌++◌, length, get_or, take, drop, set, replicate, Some, None, sym, refl, ap, ◌∙◌, subst, ap₂, arith}
use Rattle.std.proofs.ByRecursion.{All-drop}
use Rattle.std.proofs.lemmas.List.{append_assoc, append-nil, ext_get_or, get_or-drop, length-append, length-drop, length-replicate, length-take, length-take-le, set_at, take_all, take_more}
use Rattle.std.proofs.lemmas.Bool.{and_from, and_parts, eq-eqb, eqb-true, cond-true}
use Rattle.std.proofs.lemmas.Bool.Decides.{same_from_decides, Decides-eqb}
use Rattle.record.specs.declared.region.Span.{Span}
use Rattle.record.specs.declared.section.Section.{Section}
use Rattle.record.specs.Words.{word, put, words, unwords}
use Rattle.record.specs.Control.{check, control, whole}
use Rattle.record.specs.Sections.{free_count, section_body, section_record, figures_right, free_within, sound_section}
use Rattle.record.specs.Laws.{FittingBits, AWrittenSectionIsReadBack, ASoundSectionIsTheRecordOfWhatIsRead}
use Rattle.record.proofs.WordLaws.{length_words, put_unwords}
use Rattle.record.proofs.ControlLaws.{Fit, words_control, whole_control, whole_is_control, words_fit, sealed_control}
use Rattle.record.proofs.CountLaws.{free_le}

-- ---- writing

-- the words of a section of which the first k words of bits are written
unfoldable pub laid : ℕ → ℕ → ℕ → ℕ → List ℕ → List ℕ
laid id first free k bits = id ∷ 0 ∷ first ∷ free ∷ (take k bits ++ replicate (124 - k) 0)

pub laid_none : (id a b first free : ℕ) (p0 p1 p2 p3 bits : List ℕ) → p0 ≡ replicate 512 0 → p1 ≡ put p0 0 id → p2 ≡ put p1 2 a → p3 ≡ put p2 3 b
    → a ≡ first → b ≡ free → p3 ≡ unwords (laid id first free 0 bits)
unfolding laid
laid_none id a b first free p0 p1 p2 p3 bits e0 e1 e2 e3 ea eb =
    let f1 : p1 ≡ put (replicate 512 0) 0 id = e1 ∙ ap (λ p. put p 0 id) e0 in
    let f2 : p2 ≡ put (put (replicate 512 0) 0 id) 2 first = e2 ∙ ap₂ (λ p w. put p 2 w) f1 ea in
    e3 ∙ ap₂ (λ p w. put p 3 w) f2 eb

filled_more : (bits : List ℕ) (k : ℕ) → length bits ≡ 124 → k < 124
    → set (take k bits ++ replicate (124 - k) 0) k (get_or bits k 0) ≡ take (k + 1) bits ++ replicate (124 - (k + 1)) 0
filled_more bits k l h =
    let z : List ℕ = replicate (124 - (k + 1)) 0 in
    let w = get_or bits k 0 in
    let e : 124 - k ≡ suc (124 - (k + 1)) = omega arith in
    let s : set (take k bits ++ 0 ∷ z) k w ≡ take k bits ++ w ∷ z = set_at (take k bits) 0 z w k (length-take-le k bits (omega arith)) in
    let t : take (k + 1) bits ≡ take k bits ++ w ∷ [] = take_more bits k 0 (omega arith) in
    rw e (s ∙ (sym (append_assoc (take k bits) (w ∷ []) z) ∙ ap (λ x. x ++ z) (sym t)))

pub laid_more : (p : List ℕ) (id first free k : ℕ) (bits : List ℕ) → length bits ≡ 124 → k < 124 → p ≡ unwords (laid id first free k bits)
    → put p (4 + k) (get_or bits k 0) ≡ unwords (laid id first free (k + 1) bits)
unfolding laid
laid_more p id first free k bits l h e =
    let w = get_or bits k 0 in
    let four : 4 + k ≡ suc (suc (suc (suc k))) = omega arith in
    let n : length (take k bits ++ replicate {A = ℕ} (124 - k) 0) ≡ 124 = simp (length-append, length-take, length-replicate) (omega arith) in
    let s : set (laid id first free k bits) (4 + k) w ≡ laid id first free (k + 1) bits = rw four (ap (λ x. id ∷ 0 ∷ first ∷ free ∷ x) (filled_more bits k l h)) in
    ap (λ x. put x (4 + k) w) e ∙ (put_unwords (laid id first free k bits) (4 + k) w (omega arith) ∙ ap unwords s)

-- the section's figures fit
body_fits : (s : Span) (bits : List ℕ) → s.first < 65536 → s.covered < 65536 → Fit bits → Fit (section_body s bits)
unfolding section_body
body_fits s bits hf hc fit = let c = free_le bits in (omega arith, (omega arith, fit))

pub laid_all : (p q : List ℕ) (start id first free k : ℕ) (s : Span) (bits : List ℕ) → start < 2 ^ 32 → id < 2 ^ 32 → s.first < 65536 → s.covered < 65536
    → first ≡ s.first * 65536 + 124 → free ≡ s.covered * 65536 + free_count bits → k ≡ 124 → length bits ≡ 124 → Fit (take k bits)
    → p ≡ unwords (laid id first free k bits) → q ≡ put p 1 (check start (words p)) → q ≡ section_record start id s bits
unfolding laid section_record section_body
laid_all p q start id first free k s bits hs hi hf hc ef ec ek l fit e f =
    let t : take k bits ≡ bits = take_all k bits (omega arith) in
    let z : 124 - k ≡ 0 = omega arith in
    let r : take k bits ++ replicate (124 - k) 0 ≡ bits = ap₂ (λ x n. x ++ replicate n 0) t z ∙ append-nil bits in
    let b : first ∷ free ∷ (take k bits ++ replicate (124 - k) 0) ≡ section_body s bits = cc in
    let P : List ℕ → Type 0 = λ x. Fit x in
    sealed_control p q start id (section_body s bits) hs hi (body_fits s bits hf hc (subst P t fit)) (e ∙ ap (λ x. unwords (id ∷ 0 ∷ x)) b) f

-- ---- reading

pub words_read : (p bits : List ℕ) → length p ≡ 512 → length bits ≡ 124 → ((j : ℕ) → j < 124 → get_or bits j 0 ≡ word p (4 + j)) → bits ≡ drop 4 (words p)
words_read p bits lp lb h =
    let n = length_words p in
    ext_get_or 0 bits (drop 4 (words p)) (lb ∙ sym (length-drop 4 (words p) ∙ omega arith))
    (λ i k. h i (omega arith) ∙ sym (get_or-drop 4 (words p) i 0))

-- the halves of a word tell the word
pub halves_tell : (w v h l m : ℕ) (q : ℕ × ℕ) (r : Bool) → w ≡ v → l ≡ m → m < 65536 → q ≡ (w / 65536, w % 65536)
    → r ≡ (eqb q.0 h && eqb q.1 l) → r ≡ eqb v (h * 65536 + m)
halves_tell w v h l m q r ew el fit e a =
    let e0 : q.0 ≡ w / 65536 = ap (λ (x : ℕ × ℕ). x.0) e in
    let e1 : q.1 ≡ w % 65536 = ap (λ (x : ℕ × ℕ). x.1) e in
    let parts : r ≡ true → v ≡ h * 65536 + m =
    λ t.
    let both = and_parts (eqb q.0 h) (eqb q.1 l) (sym a ∙ t) in
    let hi = eqb-true q.0 h (both.0) in
    let lo = eqb-true q.1 l (both.1) in
    omega arith in
    let whole : v ≡ h * 65536 + m → r ≡ true =
    λ s. a ∙ and_from (eqb q.0 h) (eqb q.1 l) (eq-eqb q.0 h (omega arith)) (eq-eqb q.1 l (omega arith)) in
    same_from_decides r (eqb v (h * 65536 + m)) (parts, whole) (Decides-eqb v (h * 65536 + m))

pub both_right : (x y a b : Bool) → a ≡ x → b ≡ y → a ≡ true → b ≡ (x && y)
both_right x y a b e f t = f ∙ ap (λ z. z && y) (sym t ∙ e)

-- ---- what is written is read back

pub a_written_section_is_read_back : AWrittenSectionIsReadBack
unfolding section_record section_body
a_written_section_is_read_back start id s bits hs hi hf hb t =
    let fit = body_fits s bits hf.first hf.covered hb.1 in
    let body = section_body s bits in
    let l = hb.0 in
    let w = words_control start id body hs hi fit in
    let whole_is : whole start id (control start id body) ≡ true = whole_control start id body hs hi fit (omega arith) in
    let figures : figures_right s (control start id body) ≡ true = rw w (and_from _ _ (eq-eqb (s.first * 65536 + 124) _ refl) (eq-eqb (s.covered * 65536 + free_count bits) _ refl)) in
    let inside : free_within s (drop 4 (words (control start id body))) ≡ true = rw w t in
    cond-true _ _ _ (and_from _ _ whole_is (and_from _ _ figures inside))
    ∙ ap (λ x. Some (record { bits = drop 4 x })) w

-- ---- what is believed is the record of what is read

sound_parts : (start id : ℕ) (s : Span) (p : List ℕ) (x : Section) → sound_section start id s p ≡ Some x
    → (whole start id p ≡ true) × (figures_right s p ≡ true) × (free_within s (drop 4 (words p)) ≡ true) × (drop 4 (words p) ≡ x.bits)
sound_parts start id s p x h = go (whole start id p && (figures_right s p && free_within s (drop 4 (words p)))) refl h
  where
    go : (b : Bool) → (whole start id p && (figures_right s p && free_within s (drop 4 (words p)))) ≡ b
        → cond b (Some (record { bits = drop 4 (words p) })) None ≡ Some x
        → (whole start id p ≡ true) × (figures_right s p ≡ true) × (free_within s (drop 4 (words p)) ≡ true) × (drop 4 (words p) ≡ x.bits)
    go true t h =
        let e : record { bits = drop 4 (words p) } ≡ x = cc in
        let a = and_parts _ _ t in
        let b = and_parts _ _ a.1 in
        (a.0, b.0, b.1, ap (λ (y : Section). y.bits) e)
    go false t h = let z : ◌≡◌ {A = ℕ} 0 1 = cc in absurd (omega arith)

two_more : (ws : List ℕ) → 4 ≤ length ws → drop 2 ws ≡ get_or ws 2 0 ∷ get_or ws 3 0 ∷ drop 4 ws
two_more [] l = absurd (omega arith)
two_more (a ∷ []) l = absurd (omega arith)
two_more (a ∷ b ∷ []) l = absurd (omega arith)
two_more (a ∷ b ∷ c ∷ []) l = absurd (omega arith)
two_more (a ∷ b ∷ c ∷ d ∷ ws) l = refl

pub a_sound_section_is_the_record_of_what_is_read : ASoundSectionIsTheRecordOfWhatIsRead
unfolding section_record section_body
a_sound_section_is_the_record_of_what_is_read start id s p x hs hp h =
    let n = length_words p in
    let l = hp.0 in
    let bits = drop 4 (words p) in
    let a = sound_parts start id s p x h in
    let g = and_parts _ _ a.1 in
    let body : drop 2 (words p) ≡ section_body s bits = two_more (words p) (omega arith) ∙ ap₂ (λ u v. u ∷ v ∷ bits) (eqb-true _ _ g.0) (eqb-true _ _ g.1) in
    let k : length bits ≡ 124 = length-drop 4 (words p) ∙ omega arith in
    let fit : Fit bits = All-drop (λ w. w < 2 ^ 32) 4 (words p) (words_fit p hp) in
    let P : List ℕ → Type 0 = λ y. (p ≡ section_record start id s y) × FittingBits y × (free_within s y ≡ true) in
    subst P a.3 (whole_is_control start id p hp a.0 ∙ ap (control start id) body, (k, fit), a.2)
