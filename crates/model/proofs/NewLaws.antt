-- The writes of make leave the new volume.
use Rattle.std.proofs.Common.{◌≡◌, ℕ, zero, suc, ◌+◌, ◌-◌, ◌<◌, ◌≤◌, Bool, true, cond, ◌&&◌, ◌||◌, eqb, ltb, leb, List, [], ◌∷◌, ◌++◌, map, length, get_or, set, Ok, sym, refl, ap, ◌∙◌, inl, inr, arith}
use Rattle.std.specs.List.{range_with_len}
use Rattle.std.proofs.lemmas.List.FromFn.{length-map-range_with_len, get_or-map-range_with_len}
use Rattle.std.proofs.lemmas.List.{length-append, map_push, same_lists, get_or_default, take_all, drop_all}
use Rattle.std.proofs.lemmas.Bool.Decides.{nat_tests}
use Rattle.std.proofs.lemmas.Bool.{cases_eq, and_parts, leb-true, eqb-true}
use Rattle.drive.specs.Meaning.{State, readable, spoiled, Write, Meaning, size, youngest, shown, posted, settle, calm, EveryWrite, WellFormed}
use Rattle.drive.proofs.MeaningLaws.{length_settle, completing_changes_nothing_shown}
use Rattle.drive.proofs.FormedLaws.{writes_inside}
use Rattle.drive.proofs.AnswerLaws.{passed}
use Rattle.record.specs.Regions.{in_limits}
use Rattle.record.specs.Entries.{free_entry}
use Rattle.model.specs.Volume.{entry_bytes, label_bytes}
use Rattle.model.specs.New.{new_label, new_section, new_state, new_volume, entry_write, section_write, label_write, writes_of, new_writes, written, make_answer, MakeWritesLeaveTheNewVolume}

-- writes that are settled leave the youngest at each address
pub settled_after : (ws : List Write) (ss : List State) (a : ℕ) → EveryWrite (λ w. w.at < length ss) ws
    → get_or (settle ws ss) a spoiled ≡ youngest ws a (get_or ss a spoiled)
settled_after ws ss a h =
    let all : length ws ≤ length ws = omega arith in
    (λ i. youngest (sym (drop_all (length ws) ws all) i) a (get_or (settle (sym (take_all (length ws) ws all) i) ss) a spoiled))
    ∙ completing_changes_nothing_shown (record { settled = ss; outstanding = ws; wear = 0 }) (length ws) a h

-- ---- the writes one after the other

abbrev pub resting : List State → ℕ → Meaning
resting ss n = record { settled = ss; outstanding = []; wear = n }

pub written_resting : (ws : List Write) (ss : List State) (n : ℕ) → written ws (resting ss n) ≡ resting (settle ws ss) (n + length ws)
written_resting [] ss n = let e : n ≡ n + 0 = omega arith in ap (resting ss) e
written_resting (w ∷ ws) ss n =
    let e : n + 1 + length ws ≡ n + suc (length ws) = omega arith in
    written_resting ws (set ss w.at (readable w.bytes)) (n + 1) ∙ ap (resting (settle (w ∷ ws) ss)) e

pub written_quiet : (ws : List Write) (m : Meaning) → m.outstanding ≡ [] → written ws m ≡ resting (settle ws m.settled) (m.wear + length ws)
written_quiet ws m e = ap (written ws) (λ i. record { settled = m.settled; outstanding = e i; wear = m.wear }) ∙ written_resting ws m.settled m.wear

pub written_append : (xs ys : List Write) (m : Meaning) → written (xs ++ ys) m ≡ written ys (written xs m)
written_append [] ys m = refl
written_append (w ∷ xs) ys m = written_append xs ys (calm (posted m w.at w.bytes))

pub counting_push : (a n : ℕ) → range_with_len a (n + 1) ≡ range_with_len a n ++ ((a + n) ∷ [])
counting_push a zero = let e : a ≡ a + 0 = omega arith in ap (λ x. x ∷ []) e
counting_push a (suc n) =
    let e : suc n + 1 ≡ suc (n + 1) = omega arith in
    let f : a + 1 + n ≡ a + suc n = omega arith in
    ap (range_with_len a) e ∙ ap (λ xs. a ∷ xs) (counting_push (a + 1) n ∙ ap (λ x. range_with_len (a + 1) n ++ (x ∷ [])) f)

-- one more of a run of writes
pub written_more : (f : ℕ → Write) (n : ℕ) (m : Meaning)
    → written (writes_of f (n + 1)) m ≡ calm (posted (written (writes_of f n) m) (f n).at (f n).bytes)
written_more f n m =
    let e : 0 + n ≡ n = omega arith in
    ap (λ xs. written xs m) (ap (map f) (counting_push 0 n ∙ ap (λ x. range_with_len 0 n ++ (x ∷ [])) e) ∙ map_push f (range_with_len 0 n) n)
    ∙ written_append (writes_of f n) (f n ∷ []) m

-- what a run of writes leaves of a drive with nothing outstanding
pub written_keeps : (f : ℕ → Write) (n : ℕ) (m d : Meaning) → m.outstanding ≡ [] → d ≡ written (writes_of f n) m
    → (d.outstanding ≡ []) × (size d ≡ size m) × (d.wear ≡ m.wear + n)
written_keeps f n m d quiet is =
    let e = is ∙ written_quiet (writes_of f n) m quiet in
    let many : m.wear + length (writes_of f n) ≡ m.wear + n = ap (λ k. m.wear + k) (length-map-range_with_len f 0 n) in
    (ap (λ x. x.outstanding) e, ap size e ∙ length_settle (writes_of f n) m.settled, ap (λ x. x.wear) e ∙ many)

-- one more write of a run, as it was posted and completed
pub written_next : (f : ℕ → Write) (n : ℕ) (m d after : Meaning) (a : ℕ) (bs : List ℕ) → d ≡ written (writes_of f n) m
    → after ≡ calm (posted d a bs) → a ≡ (f n).at → bs ≡ (f n).bytes → after ≡ written (writes_of f (n + 1)) m
written_next f n m d after a bs is e at bytes =
    e ∙ (λ i. calm (posted (is i) (at i) (bytes i))) ∙ sym (written_more f n m)

-- three runs, one after the other
pub written_three : (xs ys zs : List Write) (m a b c : Meaning) → a ≡ written xs m → b ≡ written ys a → c ≡ written zs b → c ≡ written (xs ++ (ys ++ zs)) m
written_three xs ys zs m a b c e f h =
    h ∙ (ap (written zs) (f ∙ ap (written ys) e) ∙ (sym (written_append ys zs (written xs m)) ∙ sym (written_append xs (ys ++ zs) m)))

-- ---- what make's writes leave at an address

youngest_append : (xs ys : List Write) (a : ℕ) (s : State) → youngest (xs ++ ys) a s ≡ youngest ys a (youngest xs a s)
youngest_append [] ys a s = refl
youngest_append (w ∷ xs) ys a s = youngest_append xs ys a (cond (eqb w.at a) (readable w.bytes) s)

abbrev among_entries : ℕ → ℕ → ℕ → Bool
among_entries i n a = leb (8 + i) a && ltb a (8 + i + n)

youngest_entry : (id i n a : ℕ) (s : State) → youngest (map (entry_write id) (range_with_len i n)) a s ≡ cond (among_entries i n a) (readable (entry_bytes id free_entry)) s
youngest_entry id i zero a s = grind (arith, nat_tests)
youngest_entry id i (suc n) a s =
    youngest_entry id (i + 1) n a (cond (eqb (8 + i) a) (readable (entry_bytes id free_entry)) s) ∙ grind (arith, nat_tests)

-- five writes after those of the entries: three sections, and the label twice
module _ (e : ℕ) (l x s : State) (k : ℕ → State) where
  abbrev in_order : ℕ → State
  in_order a =
      cond (eqb 0 a) l (cond (eqb 7 a) l (cond (eqb 3 a) (k 2) (cond (eqb 2 a) (k 1) (cond (eqb 1 a) (k 0) (cond (among_entries 0 e a) x s)))))

  abbrev by_address : ℕ → State
  by_address a = cond (eqb a 0 || eqb a 7) l (cond (leb 1 a && leb a 3) (k (a - 1)) (cond (leb 8 a && ltb a (8 + e)) x s))

  at_other : (a : ℕ) → (a ≡ 1 → ⊥) → (a ≡ 2 → ⊥) → (a ≡ 3 → ⊥) → in_order a ≡ by_address a
  at_other a n1 n2 n3 = grind (arith, nat_tests)

  last_five : (a : ℕ) → in_order a ≡ by_address a
  last_five a =
      elim (cases_eq a 1) [
        | inl e1 ↦ rw e1 refl
        | inr n1 ↦
            elim (cases_eq a 2) [
              | inl e2 ↦ rw e2 refl
              | inr n2 ↦ elim (cases_eq a 3) [ inl e3 ↦ rw e3 refl | inr n3 ↦ at_other a n1 n2 n3 ]
            ]
      ]

abbrev five_writes : ℕ → ℕ → ℕ → List Write
five_writes id e t = writes_of (section_write id e t) 3 ++ (label_write id e t 7 ∷ label_write id e t 0 ∷ [])

youngest_new : (id e t a : ℕ) (s : State) → youngest (new_writes id e t) a s ≡ new_state id e t a s
youngest_new id e t a s =
    youngest_append (writes_of (entry_write id) e) (five_writes id e t) a s
    ∙ (ap (youngest (five_writes id e t) a) (youngest_entry id 0 e a s)
    ∙ last_five e (readable (label_bytes (new_label id e t))) (readable (entry_bytes id free_entry)) s (λ k. readable (new_section id e t k)) a)

-- ---- all of it

every_append : (P : Write → Type 0) (xs ys : List Write) → EveryWrite P xs → EveryWrite P ys → EveryWrite P (xs ++ ys)
every_append P [] ys hx hy = hy
every_append P (x ∷ xs) ys hx hy = (hx.0, every_append P xs ys hx.1 hy)

entries_inside : (id i n t : ℕ) → 8 + i + n ≤ t → EveryWrite (λ w. w.at < t) (map (entry_write id) (range_with_len i n))
entries_inside id i zero t h = tt
entries_inside id i (suc n) t h = (omega arith, entries_inside id (i + 1) n t (omega arith))

pub new_writes_inside : (id e t n : ℕ) → e + 9 ≤ t → t ≡ n → EveryWrite (λ w. w.at < n) (new_writes id e t)
new_writes_inside id e t n h same =
    every_append (λ w. w.at < n) (writes_of (entry_write id) e) (five_writes id e t) (entries_inside id 0 e n (omega arith))
    (omega arith, (omega arith, (omega arith, (omega arith, (omega arith, tt)))))

pub length_writes : (f : ℕ → Write) (n : ℕ) → length (writes_of f n) ≡ n
length_writes f n = length-map-range_with_len f 0 n

pub length_new : (id e t : ℕ) → length (new_writes id e t) ≡ e + 5
length_new id e t = length-append (writes_of (entry_write id) e) (five_writes id e t) ∙ omega (arith, length_writes (entry_write id) e)

-- what the limits say of the sizes
pub limits : (id e t : ℕ) → in_limits id e t ≡ true → (e + 9 ≤ t) × (t ≤ 11904) × (e ≤ 3968) × (1 ≤ e)
limits id e t h =
    let a = and_parts _ _ h in
    let b = and_parts _ _ a.1 in
    let c = and_parts _ _ b.1 in
    let d = and_parts _ _ c.1 in
    (leb-true _ _ d.0, leb-true _ _ d.1, leb-true _ _ c.0, leb-true _ _ b.0)

pub writes_leave : MakeWritesLeaveTheNewVolume
unfolding new_volume
writes_leave m id e wf lim =
    let t = size m in
    let ws = new_writes id e t in
    let before = settle m.outstanding m.settled in
    let long : length before ≡ t = length_settle m.outstanding m.settled in
    let after = settle ws before in
    let f : ℕ → State = λ a. new_state id e t a (shown m a) in
    let inside = new_writes_inside id e t (length before) (limits id e t lim).0 (sym long) in
    let n = length-map-range_with_len f 0 t in
    let same : after ≡ map f (range_with_len 0 t) =
    same_lists after (map f (range_with_len 0 t)) (length_settle ws before ∙ (long ∙ sym n))
    (λ a d lt.
    let small : a < t = omega (arith, length_settle ws before) in
    get_or_default after a d spoiled lt
    ∙ (settled_after ws before a inside
    ∙ (youngest_new id e t a (get_or before a spoiled)
    ∙ (ap (new_state id e t a) (settled_after m.outstanding m.settled a (writes_inside m wf))
    ∙ sym (get_or-map-range_with_len f 0 t a a d small (omega arith)))))) in
    written_resting ws before m.wear
    ∙ ((λ i. record { settled = same i; outstanding = []; wear = m.wear + length_new id e t i }))

-- what an accepted make tells
pub make_accepted : (life : ℕ) (m : Meaning) (id e n : ℕ) → Ok tt ≡ make_answer life m id e n
    → (n ≡ 512) × (in_limits id e (size m) ≡ true) × (m.wear + (e + 5) ≤ life)
make_accepted life m id e n h =
    let a = passed (eqb n 512) _ _ h in
    let b = passed (in_limits id e (size m)) _ _ a.1 in
    let c = passed (leb (e + 5) (life - m.wear)) _ _ b.1 in
    let l = leb-true _ _ c.0 in
    (eqb-true n 512 a.0, b.0, omega arith)

-- the drive after an accepted make, whose writes were posted once all before them was completed
pub made_new : (m calmed d : Meaning) (id e : ℕ) → WellFormed m → in_limits id e (size m) ≡ true → calmed ≡ calm m
    → d ≡ written (new_writes id e (size calmed)) calmed → d ≡ new_volume m id e
made_new m calmed d id e wf lim is f =
    let same : size calmed ≡ size m = ap size is ∙ length_settle m.outstanding m.settled in
    f ∙ ((λ i. written (new_writes id e (same i)) (is i)) ∙ writes_leave m id e wf lim)
