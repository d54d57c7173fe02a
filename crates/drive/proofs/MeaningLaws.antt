-- The laws of a drive's meaning.
use Rattle.std.proofs.Common.{◌≡◌, ℕ, zero, suc, ◌+◌, ◌<◌, ◌≤◌, false, cond, eqb, List, [], ◌∷◌, ◌++◌, length, get_or, take, drop, set, sym, refl, ap, ◌∙◌, subst, inl, inr, ⊎_elim, arith, zero-le}
use lib.Seq.{take-nil}
use Rattle.std.proofs.lemmas.List.{length-set, get_or-set_same, get_or-set_other, length_push, length-drop, set_past, drop-drop, take-append-drop, nil_from_length, drop_all}
use Rattle.std.proofs.lemmas.Bool.{cases_eq, cases_lt, eq-eqb, ne_eqb, cond-true, cond-false, or_parts, eqb-false}
use Rattle.drive.specs.Cuts.{SomeWrite, Torn, LeftAt}
use Rattle.drive.specs.Laws.{CompletingChangesNothingShown, CompletingAddsNoImage, ACutKeepsWhatHasNothingOutstanding, APostedWriteIsShownAndNoOtherAddressChanges, WritesCompleteOldestFirst}
use Rattle.drive.specs.Meaning.{State, readable, spoiled, Write, Meaning, owed, youngest, shown, any_to, posted, settle, complete, EveryWrite}

pub length_settle : (ws : List Write) (ss : List State) → length (settle ws ss) ≡ length ss
length_settle [] ss = refl
length_settle (w ∷ ws) ss = length_settle ws (set ss w.at (readable w.bytes)) ∙ length-set ss w.at (readable w.bytes)

-- the state at a once a write is settled
pub settled_one : (w : Write) (ss : List State) (a : ℕ) → w.at < length ss → get_or (set ss w.at (readable w.bytes)) a spoiled ≡ cond (eqb w.at a) (readable w.bytes) (get_or ss a spoiled)
settled_one w ss a h =
    ⊎_elim
    (λ e. subst (λ x. get_or (set ss w.at (readable w.bytes)) x spoiled ≡ cond (eqb w.at x) (readable w.bytes) (get_or ss x spoiled)) e
    (get_or-set_same ss w.at (readable w.bytes) spoiled h ∙ sym (cond-true (eqb w.at w.at) _ _ (eq-eqb w.at w.at refl))))
    (λ n. get_or-set_other ss w.at a (readable w.bytes) spoiled (λ e. n (sym e)) ∙ sym (cond-false (eqb w.at a) _ _ (ne_eqb w.at a n)))
    (cases_eq w.at a)

keeps : (k a : ℕ) (ws : List Write) (ss : List State) → EveryWrite (λ w. w.at < length ss) ws → youngest (drop k ws) a (get_or (settle (take k ws) ss) a spoiled) ≡ youngest ws a (get_or ss a spoiled)
keeps zero a ws ss h = refl
keeps (suc k) a [] ss h = refl
keeps (suc k) a (w ∷ ws) ss h =
    let one = set ss w.at (readable w.bytes) in
    keeps k a ws one (subst (λ n. EveryWrite (λ v. v.at < n) ws) (sym (length-set ss w.at (readable w.bytes))) h.1)
    ∙ ap (youngest ws a) (settled_one w ss a h.0)

pub completing_changes_nothing_shown : CompletingChangesNothingShown
completing_changes_nothing_shown m k a h = keeps k a m.outstanding m.settled h

back_one : (w : Write) (ws : List Write) (ss : List State) (a : ℕ) (r : State) → LeftAt ws a (get_or (set ss w.at (readable w.bytes)) a spoiled) r → LeftAt (w ∷ ws) a (get_or ss a spoiled) r
back_one w ws ss a r (inr some) = inr (inr some)
back_one w ws ss a r (inl e) =
    ⊎_elim
    (λ here.
    ⊎_elim
    (λ h. inr (inl (here, inl (e ∙ subst (λ x. get_or (set ss w.at (readable w.bytes)) x spoiled ≡ readable w.bytes) here (get_or-set_same ss w.at (readable w.bytes) spoiled h)))))
    (λ past. inl (e ∙ ap (λ l. get_or l a spoiled) (set_past ss w.at (readable w.bytes) past)))
    (cases_lt w.at (length ss)))
    (λ n. inl (e ∙ get_or-set_other ss w.at a (readable w.bytes) spoiled (λ q. n (sym q))))
    (cases_eq w.at a)

back : (k : ℕ) (ws : List Write) (ss : List State) (a : ℕ) (r : State) → LeftAt (drop k ws) a (get_or (settle (take k ws) ss) a spoiled) r → LeftAt ws a (get_or ss a spoiled) r
back zero ws ss a r h = h
back (suc k) [] ss a r h = h
back (suc k) (w ∷ ws) ss a r h = back_one w ws ss a r (back k ws (set ss w.at (readable w.bytes)) a r h)

pub completing_adds_no_image : CompletingAddsNoImage
completing_adds_no_image m n k i =
    let long = length_settle (take k m.outstanding) m.settled in
    record {
      same_size = i.same_size ∙ long;
      each = λ a h. back k m.outstanding m.settled a (get_or n.settled a spoiled) (i.each a (subst (λ x. a < x) (sym long) h));
      nothing_owed = i.nothing_owed;
      same_wear = i.same_wear;
    }

not_torn : (ws : List Write) (a : ℕ) (r : State) → any_to ws a ≡ false → SomeWrite (Torn a r) ws → ⊥
not_torn [] a r p s = s
not_torn (w ∷ ws) a r p (inl t) = eqb-false w.at a (or_parts (eqb w.at a) (any_to ws a) p).0 t.0
not_torn (w ∷ ws) a r p (inr s) = not_torn ws a r (or_parts (eqb w.at a) (any_to ws a) p).1 s

pub a_cut_keeps_what_has_nothing_outstanding : ACutKeepsWhatHasNothingOutstanding
a_cut_keeps_what_has_nothing_outstanding m n a i h p = ⊎_elim (λ e. e) (λ s. absurd (not_torn m.outstanding a (get_or n.settled a spoiled) p s)) (i.each a h)

shown_push : (ws : List Write) (w : Write) (a : ℕ) (s : State) → youngest (ws ++ (w ∷ [])) a s ≡ cond (eqb w.at a) (readable w.bytes) (youngest ws a s)
shown_push [] w a s = refl
shown_push (v ∷ ws) w a s = shown_push ws w a (cond (eqb v.at a) (readable v.bytes) s)

pub a_posted_write_is_shown_and_no_other_address_changes : APostedWriteIsShownAndNoOtherAddressChanges
a_posted_write_is_shown_and_no_other_address_changes m a b bs =
    let w : Write = record { at = a; bytes = bs } in (
      shown_push m.outstanding w a (get_or m.settled a spoiled) ∙ cond-true (eqb a a) (readable bs) (shown m a) (eq-eqb a a refl),
      λ n. shown_push m.outstanding w b (get_or m.settled b spoiled) ∙ cond-false (eqb a b) (readable bs) (shown m b) (ne_eqb a b n),
    )

settle_turns : (j k : ℕ) (ws : List Write) (ss : List State) → settle (take j (drop k ws)) (settle (take k ws) ss) ≡ settle (take (k + j) ws) ss
settle_turns j zero ws ss = let e : j ≡ 0 + j = omega arith in ap (λ n. settle (take n ws) ss) e
settle_turns j (suc k) [] ss = ap (λ l. settle l ss) (take-nil j ∙ sym (take-nil (suc k + j)))
settle_turns j (suc k) (w ∷ ws) ss =
    let e : suc (k + j) ≡ suc k + j = omega arith in
    settle_turns j k ws (set ss w.at (readable w.bytes)) ∙ ap (λ n. settle (take n (w ∷ ws)) ss) e

pub completing_in_turns : (m : Meaning) (j k : ℕ) → complete j (complete k m) ≡ complete (k + j) m
completing_in_turns m j k =
    λ i. record { settled = settle_turns j k m.outstanding m.settled i; outstanding = drop-drop j k m.outstanding i; wear = m.wear }

pub writes_complete_oldest_first : WritesCompleteOldestFirst
writes_complete_oldest_first m j k = (sym (take-append-drop k m.outstanding), completing_in_turns m j k)

-- the oldest k completed after a post
pub completed_posted : (m p n : Meaning) (k j a : ℕ) (bs page : List ℕ) → n ≡ complete k p → p ≡ posted m a bs → bs ≡ page → k ≡ j → n ≡ complete j (posted m a page)
completed_posted m p n k j a bs page e f same_page same = e ∙ (λ i. complete (same i) (f i)) ∙ ap (λ b. complete j (posted m a b)) same_page

pub owed_complete : (m n : Meaning) (k : ℕ) → n ≡ complete k m → owed n ≤ owed m
owed_complete m n k e = omega (arith, ap owed e, length-drop k m.outstanding)

pub owed_posted : (m n : Meaning) (a : ℕ) (bs : List ℕ) → n ≡ posted m a bs → owed n ≡ owed m + 1
owed_posted m n a bs e = ap owed e ∙ length_push m.outstanding (record { at = a; bytes = bs })

-- where nothing is outstanding, nothing is completed
pub complete_none : (m : Meaning) (k : ℕ) → owed m ≡ 0 → m ≡ complete k m
complete_none m k e =
    let with_line : List Write → Meaning = λ ws. record { settled = m.settled; outstanding = ws; wear = m.wear } in
    let none : with_line [] ≡ complete k (with_line []) =
    λ i. record { settled = settle (sym (take-nil k) i) m.settled; outstanding = sym (drop_all k [] (zero-le {n = k})) i; wear = m.wear } in
    subst (λ ws. with_line ws ≡ complete k (with_line ws)) (sym (nil_from_length m.outstanding e)) none
