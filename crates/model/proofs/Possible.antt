-- What an address may hold once the power goes: its settled bytes, or those of a write outstanding to it.
use Rattle.std.proofs.Common.{◌≡◌, ℕ, zero, suc, Bool, true, false, cond, ◌||◌, eqb, ◌⊎◌, List, [], ◌∷◌, ◌++◌, length, get_or, take, drop, set, sym, refl, ◌∙◌, subst, inl, inr, arith}
use Rattle.std.proofs.lemmas.List.{get_or-set_same, get_or-set_other, get_or_past, set_past}
use Rattle.std.proofs.lemmas.Bool.{cases_eq, cases_lt, eq-eqb, ne_eqb, or_left, or_right, or_parts, or_from}
use Rattle.drive.specs.Cuts.{SomeWrite, Torn, Image}
use Rattle.drive.specs.Meaning.{State, readable, spoiled, Write, Meaning, size, settled_at, youngest, shown, any_to, pending, posted, settle, complete, WellFormed}
use Rattle.drive.proofs.FormedLaws.{writes_inside}
use Rattle.drive.proofs.MeaningLaws.{completing_changes_nothing_shown, a_posted_write_is_shown_and_no_other_address_changes}

pub clash : (b : Bool) → b ≡ true → b ≡ false → ⊥
clash b t f = let z : ◌≡◌ {A = ℕ} 0 1 = cc in omega arith

pub same_bytes : (bs cs : List ℕ) → readable bs ≡ readable cs → bs ≡ cs
same_bytes bs cs e = cc

abbrev pub Wrote : ℕ → List ℕ → Write → Type 0
Wrote a bs w = (w.at ≡ a) × (w.bytes ≡ bs)

abbrev PossibleIn : List State → List Write → ℕ → List ℕ → Type 0
PossibleIn ss ws a bs = (get_or ss a spoiled ≡ readable bs) ⊎ SomeWrite (Wrote a bs) ws

-- a may hold bs, should the power go
abbrev pub Possible : Meaning → ℕ → List ℕ → Type 0
Possible m a bs = PossibleIn m.settled m.outstanding a bs

-- ---- posting

wrote_at_end : (ws : List Write) (w : Write) (a : ℕ) (bs : List ℕ) → SomeWrite (Wrote a bs) (ws ++ (w ∷ [])) → SomeWrite (Wrote a bs) ws ⊎ Wrote a bs w
wrote_at_end [] w a bs (inl h) = inr h
wrote_at_end [] w a bs (inr h) = absurd h
wrote_at_end (v ∷ ws) w a bs (inl h) = inl (inl h)
wrote_at_end (v ∷ ws) w a bs (inr h) = elim (wrote_at_end ws w a bs h) [ inl q ↦ inl (inr q) | inr q ↦ inr q ]

pub possible_posted : (m : Meaning) (b : ℕ) (cs : List ℕ) (a : ℕ) (bs : List ℕ) → Possible (posted m b cs) a bs → Possible m a bs ⊎ ((b ≡ a) × (cs ≡ bs))
possible_posted m b cs a bs (inl h) = inl (inl h)
possible_posted m b cs a bs (inr h) =
    elim (wrote_at_end m.outstanding (record { at = b; bytes = cs }) a bs h) [ inl q ↦ inl (inr q) | inr q ↦ inr q ]

pub shown_posted : (m : Meaning) (a : ℕ) (bs : List ℕ) → shown (posted m a bs) a ≡ readable bs
shown_posted m a bs = (a_posted_write_is_shown_and_no_other_address_changes m a a bs).0

pub shown_elsewhere : (m : Meaning) (a : ℕ) (bs : List ℕ) (b : ℕ) → (b ≡ a → ⊥) → shown (posted m a bs) b ≡ shown m b
shown_elsewhere m a bs b n = (a_posted_write_is_shown_and_no_other_address_changes m a b bs).1 (λ e. n (sym e))

pending_at_end : (ws : List Write) (w : Write) (a : ℕ) → any_to (ws ++ (w ∷ [])) a ≡ (any_to ws a || eqb w.at a)
pending_at_end [] w a = elim (cases_eq w.at a) [ inl e ↦ rw (eq-eqb w.at a e) refl | inr n ↦ rw (ne_eqb w.at a n) refl ]
pending_at_end (v ∷ ws) w a = elim (cases_eq v.at a) [ inl e ↦ rw (eq-eqb v.at a e) refl | inr n ↦ rw (ne_eqb v.at a n) (pending_at_end ws w a) ]

pub quiet_posted : (m : Meaning) (a : ℕ) (bs : List ℕ) (b : ℕ) → (b ≡ a → ⊥) → pending m b ≡ false → pending (posted m a bs) b ≡ false
quiet_posted m a bs b n h = pending_at_end m.outstanding (record { at = a; bytes = bs }) b ∙ or_from (pending m b) (eqb a b) h (ne_eqb a b (λ e. n (sym e)))

pub posted_pending : (m : Meaning) (a : ℕ) (bs : List ℕ) → pending (posted m a bs) a ≡ true
posted_pending m a bs = pending_at_end m.outstanding (record { at = a; bytes = bs }) a ∙ or_right (pending m a) (eqb a a) (eq-eqb a a refl)

-- ---- completing

possible_settled : (ss : List State) (w : Write) (ws : List Write) (a : ℕ) (bs : List ℕ) → PossibleIn (set ss w.at (readable w.bytes)) ws a bs → PossibleIn ss (w ∷ ws) a bs
possible_settled ss w ws a bs (inr h) = inr (inr h)
possible_settled ss w ws a bs (inl h) =
    elim (cases_eq a w.at) [
      | inl e ↦
          elim (cases_lt w.at (length ss)) [
            | inl lt ↦ inr (inl (sym e, same_bytes w.bytes bs (sym (get_or-set_same ss w.at (readable w.bytes) spoiled lt) ∙ rw e at h)))
            | inr past ↦ inl (rw (set_past ss w.at (readable w.bytes) past) at h)
          ]
      | inr n ↦ inl (sym (get_or-set_other ss w.at a (readable w.bytes) spoiled n) ∙ h)
    ]

possible_in : (k : ℕ) (ss : List State) (ws : List Write) (a : ℕ) (bs : List ℕ) → PossibleIn (settle (take k ws) ss) (drop k ws) a bs → PossibleIn ss ws a bs
possible_in zero ss ws a bs h = h
possible_in (suc k) ss [] a bs h = h
possible_in (suc k) ss (w ∷ ws) a bs h = possible_settled ss w ws a bs (possible_in k (set ss w.at (readable w.bytes)) ws a bs h)

pub possible_completed : (m : Meaning) (k a : ℕ) (bs : List ℕ) → Possible (complete k m) a bs → Possible m a bs
possible_completed m k a bs h = possible_in k m.settled m.outstanding a bs h

quiet_dropped : (k : ℕ) (ws : List Write) (a : ℕ) → any_to ws a ≡ false → any_to (drop k ws) a ≡ false
quiet_dropped zero ws a h = h
quiet_dropped (suc k) [] a h = h
quiet_dropped (suc k) (w ∷ ws) a h = quiet_dropped k ws a (or_parts (eqb w.at a) (any_to ws a) h).1

pub quiet_completed : (m : Meaning) (k a : ℕ) → pending m a ≡ false → pending (complete k m) a ≡ false
quiet_completed m k a h = quiet_dropped k m.outstanding a h

pub shown_completed : (m : Meaning) (k a : ℕ) → WellFormed m → shown (complete k m) a ≡ shown m a
shown_completed m k a wf = completing_changes_nothing_shown m k a (writes_inside m wf)

-- ---- what an address shows it may hold, and one with nothing outstanding holds nothing else

possible_youngest : (ws : List Write) (a : ℕ) (s : State) (bs : List ℕ) → youngest ws a s ≡ readable bs → (s ≡ readable bs) ⊎ SomeWrite (Wrote a bs) ws
possible_youngest [] a s bs h = inl h
possible_youngest (w ∷ ws) a s bs h =
    elim (possible_youngest ws a (cond (eqb w.at a) (readable w.bytes) s) bs h) [
      | inl q ↦
          elim (cases_eq w.at a) [
            | inl e ↦ inr (inl (e, same_bytes w.bytes bs (rw (eq-eqb w.at a e) at q)))
            | inr n ↦ inl (rw (ne_eqb w.at a n) at q)
          ]
      | inr q ↦ inr (inr q)
    ]

pub shown_possible : (m : Meaning) (a : ℕ) (bs : List ℕ) → shown m a ≡ readable bs → Possible m a bs
shown_possible m a bs h = possible_youngest m.outstanding a (settled_at m a) bs h

quiet_youngest : (ws : List Write) (a : ℕ) (s : State) → any_to ws a ≡ false → youngest ws a s ≡ s
quiet_youngest [] a s h = refl
quiet_youngest (w ∷ ws) a s h =
    let hs = or_parts (eqb w.at a) (any_to ws a) h in
    rw hs.0 (quiet_youngest ws a s hs.1)

pub quiet_shown : (m : Meaning) (a : ℕ) → pending m a ≡ false → shown m a ≡ settled_at m a
quiet_shown m a h = quiet_youngest m.outstanding a (settled_at m a) h

wrote_pending : (ws : List Write) (a : ℕ) (bs : List ℕ) → SomeWrite (Wrote a bs) ws → any_to ws a ≡ true
wrote_pending [] a bs h = absurd h
wrote_pending (w ∷ ws) a bs (inl h) = or_left (eqb w.at a) (any_to ws a) (eq-eqb w.at a h.0)
wrote_pending (w ∷ ws) a bs (inr h) = or_right (eqb w.at a) (any_to ws a) (wrote_pending ws a bs h)

pub quiet_possible : (m : Meaning) (a : ℕ) (bs : List ℕ) → pending m a ≡ false → Possible m a bs → shown m a ≡ readable bs
quiet_possible m a bs q (inl h) = quiet_shown m a q ∙ h
quiet_possible m a bs q (inr h) = absurd (clash (any_to m.outstanding a) (wrote_pending m.outstanding a bs h) q)

-- ---- a cut

torn_wrote : (ws : List Write) (a : ℕ) (bs : List ℕ) → SomeWrite (Torn a (readable bs)) ws → SomeWrite (Wrote a bs) ws
torn_wrote [] a bs h = h
torn_wrote (w ∷ ws) a bs (inl (at, inl e)) = inl (at, sym (same_bytes bs w.bytes e))
torn_wrote (w ∷ ws) a bs (inl (at, inr e)) = absurd (let z : ◌≡◌ {A = ℕ} 0 1 = cc in omega arith)
torn_wrote (w ∷ ws) a bs (inr h) = inr (torn_wrote ws a bs h)

pub image_possible : (m n : Meaning) → Image m n → (a : ℕ) (bs : List ℕ) → settled_at n a ≡ readable bs → Possible m a bs
image_possible m n im a bs h =
    elim (cases_lt a (size m)) [
      | inl lt ↦ elim (im.each a lt) [ inl e ↦ inl (sym e ∙ h) | inr t ↦ inr (torn_wrote m.outstanding a bs (subst (λ s. SomeWrite (Torn a s) m.outstanding) h t)) ]
      | inr past ↦ absurd (let e = get_or_past n.settled a spoiled (omega (arith, im.same_size)) in let z : ◌≡◌ {A = ℕ} 0 1 = cc in omega arith)
    ]

pub image_of_possible : (m n : Meaning) → Image m n → (a : ℕ) (bs : List ℕ) → Possible n a bs → Possible m a bs
image_of_possible m n im a bs (inl h) = image_possible m n im a bs h
image_of_possible m n im a bs (inr h) = absurd (subst (SomeWrite (Wrote a bs)) im.nothing_owed h)
