-- The addresses of an entry: the walk over the slots, and what their test says in plain words.
use Rattle.std.proofs.Common.{◌≡◌, ℕ, zero, suc, ◌+◌, ◌-◌, ◌<◌, Bool, true, false, not, ◌&&◌, ◌||◌, eqb, List, [], ◌∷◌, length, get_or, take, drop, sym, refl, ap, ap₂, ◌∙◌, inl, inr, arith}
use Rattle.std.specs.List.{list_all, enumerate_from}
use Rattle.std.proofs.lemmas.Slice.{between_to_end}
use Rattle.std.proofs.lemmas.List.{drop-drop}
use Rattle.std.proofs.lemmas.Bool.{eq-eqb, ne_eqb, or_right, or_left, or_from, or_parts, or_cases, and_parts, and_from, eqb-true, eqb-false, not-true, cases_eq}
use Rattle.record.specs.declared.entry.Entry.{Entry}
use Rattle.record.specs.declared.region.Region.{Region}
use Rattle.record.specs.Regions.{within}
use Rattle.record.specs.Entries.{among, may_stand, slots_sound}
use Rattle.record.specs.Laws.{NamesEachPageOnce, SoundAddressesNameEachPageOnce}

pub stands_when : (m : ℕ) (g : Region) (a : ℕ) (rest : List ℕ) (r : Bool) → (m ≡ 0 → ⊥) → within g a ≡ true → r ≡ among a rest → not r ≡ may_stand m g a rest
stands_when m g a rest r h w e = rw (ne_eqb m 0 h, w) (ap not e)

-- ---- the slots, one by one

pub rest_of : (s : List ℕ) (p : ℕ) → length s ≡ 64 → take (64 - (p + 1)) (drop (p + 1) s) ≡ drop (p + 1) s
rest_of s p l = between_to_end s (p + 1) 64 (omega arith)

-- the slot p of s is empty or holds an address that may stand before the slots after it
abbrev pub stands_in : ℕ → Region → List ℕ → ℕ × ℕ → Bool
stands_in m g s q = eqb q.1 0 || may_stand m g q.1 (take (64 - (q.0 + 1)) (drop (q.0 + 1) s))

pub sound_at_each : (m : ℕ) (g : Region) (s : List ℕ) → length s ≡ 64 → (ys : List ℕ) (p : ℕ) → ys ≡ drop p s → list_all (stands_in m g s) (enumerate_from p ys) ≡ slots_sound m g ys
sound_at_each m g s l [] p e = refl
sound_at_each m g s l (a ∷ rest) p e =
    let r : rest ≡ drop (p + 1) s = ap (drop 1) e ∙ drop-drop 1 p s in
    ap₂ (λ x b. (eqb a 0 || may_stand m g a x) && b) (rest_of s p l ∙ sym r) (sound_at_each m g s l rest (p + 1) r)

-- ---- the test and the plain words

stands_parts : (m : ℕ) (g : Region) (a : ℕ) (rest : List ℕ) → may_stand m g a rest ≡ true → (m ≡ 0 → ⊥) × (within g a ≡ true) × (among a rest ≡ false)
stands_parts m g a rest h =
    let x = and_parts (not (eqb m 0)) (within g a && not (among a rest)) h in
    let y = and_parts (within g a) (not (among a rest)) x.1 in
    (eqb-false m 0 (not-true _ x.0), y.0, not-true _ y.1)

among_false : (a : ℕ) (bs : List ℕ) → among a bs ≡ false → (q : ℕ) → q < length bs → a ≡ get_or bs q 0 → ⊥
among_false a [] h q l e = absurd (omega arith)
among_false a (b ∷ bs) h zero l e = eqb-false b a (or_parts _ _ h).0 (sym e)
among_false a (b ∷ bs) h (suc q) l e = among_false a bs (or_parts _ _ h).1 q (omega arith) e

among_none : (a : ℕ) (bs : List ℕ) → ((q : ℕ) → q < length bs → a ≡ get_or bs q 0 → ⊥) → among a bs ≡ false
among_none a [] h = refl
among_none a (b ∷ bs) h =
    or_from _ _ (ne_eqb b a (λ e. h 0 (omega arith) (sym e))) (among_none a bs (λ q l e. h (suc q) (omega arith) e))

abbrev with_slots : ℕ → List ℕ → Entry
with_slots m s = record { meter = m; slots = s }

-- a slot that is not empty holds an address that may stand there
slot_stands : (m : ℕ) (g : Region) (a : ℕ) (rest : List ℕ) → (eqb a 0 || may_stand m g a rest) ≡ true → (a ≡ 0 → ⊥) → may_stand m g a rest ≡ true
slot_stands m g a rest h nz = elim (or_cases _ _ h) [ inl e ↦ absurd (nz (eqb-true a 0 e)) | inr e ↦ e ]

region_more : (m : ℕ) (g : Region) (a : ℕ) (rest : List ℕ) → (eqb a 0 || may_stand m g a rest) ≡ true → NamesEachPageOnce g (with_slots m rest)
    → (p : ℕ) → p < length (a ∷ rest) → (get_or (a ∷ rest) p 0 ≡ 0 → ⊥) → within g (get_or (a ∷ rest) p 0) ≡ true
region_more m g a rest h n zero l nz = (stands_parts m g a rest (slot_stands m g a rest h nz)).1
region_more m g a rest h n (suc p) l nz = n.region p (omega arith) nz

once_more : (m : ℕ) (g : Region) (a : ℕ) (rest : List ℕ) → (eqb a 0 || may_stand m g a rest) ≡ true → NamesEachPageOnce g (with_slots m rest)
    → (p q : ℕ) → p < q → q < length (a ∷ rest) → (get_or (a ∷ rest) p 0 ≡ 0 → ⊥) → get_or (a ∷ rest) p 0 ≡ get_or (a ∷ rest) q 0 → ⊥
once_more m g a rest h n p zero lt l nz e = absurd (omega arith)
once_more m g a rest h n zero (suc q) lt l nz e =
    among_false a rest (stands_parts m g a rest (slot_stands m g a rest h nz)).2 q (omega arith) e
once_more m g a rest h n (suc p) (suc q) lt l nz e = n.once p q (omega arith) (omega arith) nz e

free_more : (m : ℕ) (g : Region) (a : ℕ) (rest : List ℕ) → (eqb a 0 || may_stand m g a rest) ≡ true → NamesEachPageOnce g (with_slots m rest)
    → m ≡ 0 → (p : ℕ) → p < length (a ∷ rest) → get_or (a ∷ rest) p 0 ≡ 0
free_more m g a rest h n z zero l =
    elim (or_cases _ _ h) [ inl e ↦ eqb-true a 0 e | inr e ↦ absurd ((stands_parts m g a rest e).0 z) ]
free_more m g a rest h n z (suc p) l = n.free z p (omega arith)

names_from : (m : ℕ) (g : Region) (s : List ℕ) → slots_sound m g s ≡ true → NamesEachPageOnce g (with_slots m s)
names_from m g [] h =
    record { region = λ p l nz. absurd (omega arith); once = λ p q lt l nz e. omega arith; free = λ z p l. absurd (omega arith) }
names_from m g (a ∷ rest) h =
    let x = and_parts _ _ h in
    let n = names_from m g rest x.1 in
    record { region = region_more m g a rest x.0 n; once = once_more m g a rest x.0 n; free = free_more m g a rest x.0 n }

names_rest : (m : ℕ) (g : Region) (a : ℕ) (rest : List ℕ) → NamesEachPageOnce g (with_slots m (a ∷ rest)) → NamesEachPageOnce g (with_slots m rest)
names_rest m g a rest n =
    record {
      region = λ p l nz. n.region (suc p) (omega arith) nz;
      once = λ p q lt l nz e. n.once (suc p) (suc q) (omega arith) (omega arith) nz e;
      free = λ z p l. n.free z (suc p) (omega arith);
    }

first_stands : (m : ℕ) (g : Region) (a : ℕ) (rest : List ℕ) → NamesEachPageOnce g (with_slots m (a ∷ rest)) → (a ≡ 0 → ⊥) → may_stand m g a rest ≡ true
first_stands m g a rest n nz =
    let r = n.region 0 (omega arith) nz in
    let f = among_none a rest (λ q l e. n.once 0 (suc q) (omega arith) (omega arith) nz e) in
    sym (stands_when m g a rest false (λ z. nz (n.free z 0 (omega arith))) r (sym f))

names_to : (m : ℕ) (g : Region) (s : List ℕ) → NamesEachPageOnce g (with_slots m s) → slots_sound m g s ≡ true
names_to m g [] n = refl
names_to m g (a ∷ rest) n =
    let t = may_stand m g a rest in
    and_from (eqb a 0 || t) (slots_sound m g rest)
    (elim (cases_eq a 0) [ inl e ↦ or_left (eqb a 0) t (eq-eqb a 0 e) | inr nz ↦ or_right (eqb a 0) t (first_stands m g a rest n nz) ])
    (names_to m g rest (names_rest m g a rest n))

pub sound_addresses_name_each_page_once : SoundAddressesNameEachPageOnce
sound_addresses_name_each_page_once g e = (names_from e.meter g e.slots, names_to e.meter g e.slots)
