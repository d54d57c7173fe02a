-- Salvage keeps what holds of a volume, and so does every call.
use Rattle.std.proofs.Common.{◌≡◌, ℕ, zero, suc, ◌+◌, ◌-◌, ◌^◌, ◌<◌, ◌≤◌, Bool, true, false, cond, not, ◌&&◌, ◌||◌, eqb, List, [], ◌∷◌, ◌++◌, length, get_or, Some, None, Option, sym, refl, ap, ◌∙◌, subst, inl, inr, arith}
use Rattle.std.specs.List.{AllByRecursion}
use Rattle.std.proofs.lemmas.List.{nil_from_length}
use Rattle.std.proofs.lemmas.Bool.{cases_eq, cases_Bool, eqb-true, eqb-false, eq-eqb, ne_eqb, and_parts, and_from, and_right, or_left, or_right, or_from, not-true, not_from_true, true≢false}
use Rattle.drive.specs.Meaning.{State, readable, Write, Meaning, size, owed, shown, any_to, pending, RecordBytes}
use Rattle.record.specs.declared.label.Label.{Label}
use Rattle.record.specs.declared.label.LabelState.TheVariants.{Closed, Salvage}
use Rattle.record.specs.declared.region.Region.{Region}
use Rattle.record.specs.declared.entry.Entry.{Entry}
use Rattle.record.specs.Words.{same}
use Rattle.record.specs.Regions.{within, page_region, first_of}
use Rattle.record.specs.Entries.{free_entry, among, may_stand, slots_sound, addresses_sound, whole_entry, sound_entry}
use Rattle.record.specs.Laws.{FittingEntry}
use Rattle.record.proofs.AddressLaws.{stands_when}
use Rattle.record.proofs.BitLaws.{bit_bits_of, bits_of_fit}
use Rattle.record.proofs.EntryLaws.{a_written_entry_is_read_back}
use Rattle.record.proofs.LabelLaws.{same_decides}
use Rattle.model.specs.declared.memory.Phase.{Phase}
use Rattle.model.specs.declared.memory.Phase.TheVariants.{Shut}
use Rattle.model.specs.declared.memory.MapState.{MapState}
use Rattle.model.specs.declared.memory.MapState.TheVariants.{Idle, Writing}
use Rattle.model.specs.Volume.{entry_at, section_at, entry_bytes}
use Rattle.model.specs.Memory.{Memory}
use Rattle.model.specs.Outcomes.{Rules}
use Rattle.model.specs.Shown.{bytes_in, with_state, label_in_state, entry_in_state, whole_entry_in_state}
use Rattle.model.specs.Mending.{Unmended, mended_slots, mended, shows, States, first_unmended, slots_or_none, named_from, mended_bits, mended_section, first_inexact, is_salvage, end_or_section, map_or_entry, salvage_plan}
use Rattle.model.specs.Calls.{Call, open', create, activate, withdraw, place, deposit, read, update, clear, reclaim, deactivate, balance, close, drain, finish, salvage, plan}
use Rattle.model.specs.Histories.{Fitting}
use Rattle.model.proofs.Possible.{clash, Possible, shown_possible, quiet_possible}
use Rattle.model.proofs.ReadBack.{entry_read_back, entry_readable, possible_bytes, whole_fits, none_not, free_fits}
use Rattle.model.proofs.Lists.{count, get_or_replicated}
use Rattle.model.proofs.Ledger.{free, in_service, Ledger, Holds, holds_none}
use Rattle.model.proofs.Parts.{Shape, InRegion, in_region, OnDrive, Off, Bare, Inv, Good, drive_entry, drive_section, files_none}
use Rattle.model.proofs.Meets.{Meets, ask_meets, need_meets, cond_meets, post_meets}
use Rattle.model.proofs.FileCalls.{Keeps, withdraw_keeps, deposit_keeps, place_keeps, read_keeps, update_keeps, clear_keeps, reclaim_keeps, create_keeps, activate_keeps, deactivate_keeps}
use Rattle.model.proofs.MapCalls.{shut_is, balance_keeps, drain_keeps, open_keeps, close_keeps, finish_keeps, label_posted, label_own}

-- ---- mended slots

module _ (r : Region) where
  -- one slot: the address is kept, or it is left out
  slot_mended : (P : List ℕ → Type 0) (kept : List ℕ) (a : ℕ) (as' : List ℕ)
      → (within r a ≡ true → among a kept ≡ false → P (a ∷ mended_slots r (a ∷ kept) as')) → P (0 ∷ mended_slots r kept as') → P (mended_slots r kept (a ∷ as'))
  slot_mended P kept a as' yes' no' =
      let Q : Bool → Type 0 = λ b. P (cond b (a ∷ mended_slots r (a ∷ kept) as') (0 ∷ mended_slots r kept as')) in
      elim (cases_Bool (within r a && not (among a kept))) [
        | inl e ↦
            let hs = and_parts (within r a) (not (among a kept)) e in
            subst Q (sym e) (yes' hs.0 (not-true (among a kept) hs.1))
        | inr e ↦ subst Q (sym e) no'
      ]

  -- they name no more than before
  mended_less : (kept xs : List ℕ) (p x : ℕ) → get_or (mended_slots r kept xs) p 0 ≡ x → 0 < x → get_or xs p 0 ≡ x
  mended_less kept [] p x = λ h l. h
  mended_less kept (a ∷ as') zero x =
      slot_mended (λ ys. get_or ys 0 0 ≡ x → 0 < x → a ≡ x) kept a as' (λ _ _ h l. h) (λ h l. absurd (omega arith))
  mended_less kept (a ∷ as') (suc p) x =
      slot_mended (λ ys. get_or ys (suc p) 0 ≡ x → 0 < x → get_or as' p 0 ≡ x) kept a as' (λ _ _. mended_less (a ∷ kept) as' p x) (mended_less kept as' p x)

  mended_length : (kept xs : List ℕ) → length (mended_slots r kept xs) ≡ length xs
  mended_length kept [] = refl
  mended_length kept (a ∷ as') =
      slot_mended (λ ys. length ys ≡ suc (length as')) kept a as' (λ _ _. ap suc (mended_length (a ∷ kept) as')) (ap suc (mended_length kept as'))

  mended_fit : ((a : ℕ) → within r a ≡ true → a < 2 ^ 16) → (kept xs : List ℕ) → AllByRecursion (λ a. a < 2 ^ 16) (mended_slots r kept xs)
  mended_fit small kept [] = tt
  mended_fit small kept (a ∷ as') =
      slot_mended (λ ys. AllByRecursion (λ b. b < 2 ^ 16) ys) kept a as' (λ w _. (small a w, mended_fit small (a ∷ kept) as')) (omega arith, mended_fit small kept as')

  -- what is kept already stands there no more
  mended_apart : (kept xs : List ℕ) (x : ℕ) → among x kept ≡ true → 0 < x → among x (mended_slots r kept xs) ≡ false
  mended_apart kept [] x h l = refl
  mended_apart kept (a ∷ as') x h l =
      slot_mended (λ ys. among x ys ≡ false) kept a as'
      (λ _ n.
      or_from (eqb a x) (among x (mended_slots r (a ∷ kept) as')) (ne_eqb a x (λ e. clash (among a kept) (subst (λ (y : ℕ). among y kept ≡ true) (sym e) h) n))
      (mended_apart (a ∷ kept) as' x (or_right (eqb a x) (among x kept) h) l))
      (or_from (eqb 0 x) (among x (mended_slots r kept as')) (ne_eqb 0 x (λ e. omega arith)) (mended_apart kept as' x h l))

  mended_sound : ((a : ℕ) → within r a ≡ true → 0 < a) → (m : ℕ) → (m ≡ 0 → ⊥) → (kept xs : List ℕ) → slots_sound m r (mended_slots r kept xs) ≡ true
  mended_sound above m nz kept [] = refl
  mended_sound above m nz kept (a ∷ as') =
      slot_mended (λ ys. slots_sound m r ys ≡ true) kept a as'
      (λ w _.
      let rest = mended_slots r (a ∷ kept) as' in
      let apart : among a rest ≡ false = mended_apart (a ∷ kept) as' a (or_left (eqb a a) (among a kept) (eq-eqb a a refl)) (above a w) in
      and_from (eqb a 0 || may_stand m r a rest) (slots_sound m r rest)
      (or_right (eqb a 0) (may_stand m r a rest) (sym (stands_when m r a rest false nz w (sym apart)))) (mended_sound above m nz (a ∷ kept) as'))
      (mended_sound above m nz kept as')

-- ---- mended entries

abbrev pub region_of : Shape → Region
region_of g = page_region g.entries g.records

-- x is the mended form of what a record shows: it fits, it is sound, and it names no more
pub record MendedForm (g : Shape) (s : State) (x : Entry) : Type 0 where
  pub fits : FittingEntry x
  pub sound : addresses_sound (region_of g) x ≡ true
  pub names : (p y : ℕ) → get_or x.slots p 0 ≡ y → 0 < y → (z : Entry) × (whole_entry 0 g.id (bytes_in s) ≡ Some z) × (get_or z.slots p 0 ≡ y)

free_form : (g : Shape) (s : State) → MendedForm g s free_entry
free_form g s =
    record {
      fits = free_fits;
      sound = refl;
      names = λ p y h l. absurd (let z = get_or_replicated {A = ℕ} 64 0 p in omega arith);
    }

mended_form : (g : Shape) (s : State) (kept : List ℕ) → ((bs : List ℕ) → s ≡ readable bs → RecordBytes bs) → MendedForm g s (mended (region_of g) kept (whole_entry_in_state g.id s))
mended_form g s kept bytes = go (whole_entry_in_state g.id s) refl
  where
    inside : (a : ℕ) → within (region_of g) a ≡ true → InRegion g a
    inside a h = in_region g a h

    go : (q : Option Entry) → whole_entry_in_state g.id s ≡ q → MendedForm g s (mended (region_of g) kept q)
    go None is = free_form g s
    go (Some z) is =
        let r = entry_readable g.id s z is in
        let f = whole_fits g.id r.0 z (bytes r.0 r.1) r.2 in
        let P : Bool → Type 0 = λ b. MendedForm g s (cond b free_entry (record { meter = z.meter; slots = mended_slots (region_of g) kept z.slots })) in
        elim (cases_Bool (eqb z.meter 0)) [
          | inl e ↦ subst P (sym e) (free_form g s)
          | inr e ↦
              subst P (sym e) (record {
                fits =
                    record {
                      meter = f.0;
                      all = mended_length (region_of g) kept z.slots ∙ f.1;
                      each = mended_fit (region_of g) (λ a w. let i = inside a w in omega arith) kept z.slots;
                    };
                sound = mended_sound (region_of g) (λ a w. let i = inside a w in omega arith) z.meter (eqb-false z.meter 0 e) kept z.slots;
                names = λ p y h l. (z, is, mended_less (region_of g) kept z.slots p y h l);
              })
        ]

-- the first entry that does not show its mended form, or none
module _ (id : ℕ) (r : Region) (s : States) where
  abbrev pub form_at : List ℕ → ℕ → Entry
  form_at kept i = mended r kept (whole_entry_in_state id (s (entry_at i)))

  abbrev shows_form : List ℕ → ℕ → Bool
  shows_form kept i = shows (s (entry_at i)) (entry_bytes id (form_at kept i))

  pub unmended_is : (kept : List ℕ) (i n : ℕ) (u : Unmended) → first_unmended id r s kept i n ≡ Some u
      → (u.number < i + n) × ((kept' : List ℕ) × (u.form ≡ form_at kept' u.number))
  unmended_is kept i zero u h = absurd (none_not u h)
  unmended_is kept i (suc n) u h =
      let rest = first_unmended id r s ((form_at kept i).slots ++ kept) (i + 1) n in
      let P : Bool → Type 0 = λ b. cond b rest (Some (record { number = i; form = form_at kept i })) ≡ Some u in
      elim (cases_Bool (shows_form kept i)) [
        | inl e ↦
            let ih = unmended_is ((form_at kept i).slots ++ kept) (i + 1) n u (subst P e h) in
            (omega arith, ih.1)
        | inr e ↦
            let at : ◌≡◌ {A = Option Unmended} (Some (record { number = i; form = form_at kept i })) (Some u) = subst P e h in
            let same : record { number = i; form = form_at kept i } ≡ u = cc in
            let Q : Unmended → Type 0 = λ w. (w.number < i + suc n) × ((kept' : List ℕ) × (w.form ≡ form_at kept' w.number)) in
            subst Q same (omega arith, (kept, refl))
      ]

  all_mended : (kept : List ℕ) (i n : ℕ) → first_unmended id r s kept i n ≡ None → (j : ℕ) → i ≤ j → j < i + n → (kept' : List ℕ) × (shows_form kept' j ≡ true)
  all_mended kept i zero h j l m = absurd (omega arith)
  all_mended kept i (suc n) h j l m =
      let rest = first_unmended id r s ((form_at kept i).slots ++ kept) (i + 1) n in
      let x : Unmended = record { number = i; form = form_at kept i } in
      let P : Bool → Type 0 = λ b. cond b rest (Some x) ≡ None in
      elim (cases_Bool (shows_form kept i)) [
        | inl e ↦
            elim (cases_eq i j) [
              | inl at ↦ subst (λ (y : ℕ). (kept' : List ℕ) × (shows_form kept' y ≡ true)) at (kept, e)
              | inr ne ↦ all_mended ((form_at kept i).slots ++ kept) (i + 1) n (subst P e h) j (omega arith) (omega arith)
            ]
        | inr e ↦ absurd (none_not x (sym (subst P e h)))
      ]

-- ---- the map

pub inexact_is : (id e t : ℕ) (s : States) (k n k' : ℕ) → first_inexact id e t s k n ≡ Some k' → k' < k + n
inexact_is id e t s k zero k' h = absurd (none_not k' h)
inexact_is id e t s k (suc n) k' h =
    let P : Bool → Type 0 = λ b. cond b (first_inexact id e t s (k + 1) n) (Some k) ≡ Some k' in
    elim (cases_Bool (shows (s (section_at k)) (mended_section id e t s k))) [
      | inl b ↦ let ih = inexact_is id e t s (k + 1) n k' (subst P b h) in omega arith
      | inr b ↦
          let at : Some k ≡ Some k' = subst P b h in
          let i : k ≡ k' = cc in
          omega arith
    ]

among_get_or : (xs : List ℕ) (p x : ℕ) → get_or xs p 0 ≡ x → 0 < x → among x xs ≡ true
among_get_or [] p x h l = absurd (omega arith)
among_get_or (y ∷ xs) zero x h l = or_left (eqb y x) (among x xs) (eq-eqb y x h)
among_get_or (y ∷ xs) (suc p) x h l = or_right (eqb y x) (among x xs) (among_get_or xs p x h l)

among_left : (x : ℕ) (xs ys : List ℕ) → among x xs ≡ true → among x (xs ++ ys) ≡ true
among_left x [] ys h = absurd (true≢false (sym h))
among_left x (y ∷ xs) ys h =
    elim (cases_Bool (eqb y x)) [
      | inl e ↦ or_left (eqb y x) (among x (xs ++ ys)) e
      | inr e ↦ or_right (eqb y x) (among x (xs ++ ys)) (among_left x xs ys (subst (λ (b : Bool). (b || among x xs) ≡ true) e h))
    ]

among_right : (x : ℕ) (xs ys : List ℕ) → among x ys ≡ true → among x (xs ++ ys) ≡ true
among_right x [] ys h = h
among_right x (y ∷ xs) ys h = or_right (eqb y x) (among x (xs ++ ys)) (among_right x xs ys h)

-- what a sound entry names is among what the entries name
named_is : (id e t : ℕ) (s : States) (i n j p x : ℕ) (y : Entry) → i ≤ j → j < i + n → entry_in_state id e t (s (entry_at j)) ≡ Some y
    → get_or y.slots p 0 ≡ x → 0 < x → among x (named_from id e t s i n) ≡ true
named_is id e t s i zero j p x y l m is at h = absurd (omega arith)
named_is id e t s i (suc n) j p x y l m is at h =
    let here = slots_or_none (entry_in_state id e t (s (entry_at i))) in
    let rest = named_from id e t s (i + 1) n in
    elim (cases_eq i j) [
      | inl same ↦
          among_left x here rest
          (subst (λ (k : ℕ). among x (slots_or_none (entry_in_state id e t (s (entry_at k)))) ≡ true) (sym same)
          (subst (λ (q : Option Entry). among x (slots_or_none q) ≡ true) (sym is) (among_get_or y.slots p x at h)))
      | inr ne ↦ among_right x here rest (named_is id e t s (i + 1) n j p x y (omega arith) (omega arith) is at h)
    ]

module _ (r : Rules) (g : Shape) (d : Meaning) where
  off_none : (d' : Meaning) (c : MapState) (us : List ℕ) → us ≡ [] → Off g d c us → Off g d' c us
  off_none d' Idle us nil h = nil
  off_none d' (Writing k) us nil h = (h.0, λ x c. absurd (let z : count x us ≡ 0 = ap (count x) nil in omega arith))

  -- a volume that is shut holds nothing, so it is good for whatever agrees on the drive
  shut_good : (v : Memory) (o o' : Ledger) (d' : Meaning) → Inv g o d v → v.phase ≡ Shut → OnDrive g o' d' → Good g d' v
  shut_good v o o' d' I is D =
      let B : Bare Shut v.tickets v.files v.service v.unsettled = subst (λ (p : Phase). Bare p v.tickets v.files v.service v.unsettled) is I.bare in (
        o',
        record {
          drive = D;
          stock =
              record {
                served = subst (λ (xs : List ℕ). Holds o' xs in_service) (sym B.1) (holds_none o' in_service);
                coming = subst (λ (xs : List ℕ). Holds o' xs free) (sym B.2) (holds_none o' free);
              };
          off = off_none d' v.chart v.unsettled B.2 I.off;
          tickets = λ t x h. absurd (none_not x (sym (B.0.tickets t) ∙ h));
          files = files_none g o' d' v.files B.0.files;
          bare = I.bare;
          own = I.own;
          counted = I.counted;
        },
      )

  pub all_quiet : owed d ≡ 0 → (a : ℕ) → pending d a ≡ false
  all_quiet h a = ap (λ (ws : List Write). any_to ws a) (nil_from_length d.outstanding h)

  pub form_shown : (o : Ledger) (e : ℕ) (kept : List ℕ) → OnDrive g o d → MendedForm g (shown d (entry_at e)) (form_at g.id (region_of g) (shown d) kept e)
  form_shown o e kept D =
      mended_form g (shown d (entry_at e)) kept (λ bs h. possible_bytes d (entry_at e) bs D.formed (shown_possible d (entry_at e) bs h))

  names_now : List ℕ
  names_now = named_from g.id g.entries g.records (shown d) 0 g.entries

  -- what no entry names becomes free
  freed : Ledger → Ledger
  freed o x = cond (within (region_of g) x && not (among x names_now)) free (o x)

  -- once every entry shows its mended form, each address that an entry may name is seen
  seen : (o : Ledger) (e p x : ℕ) (bs : List ℕ) (y : Entry) → OnDrive g o d → owed d ≡ 0 → first_unmended g.id (region_of g) (shown d) [] 0 g.entries ≡ None
      → e < g.entries → Possible d (entry_at e) bs → whole_entry 0 g.id bs ≡ Some y → get_or y.slots p 0 ≡ x → 0 < x → among x names_now ≡ true
  unfolding names_now
  seen o e p x bs y D q all l ps is at h =
      let shows_bs = quiet_possible d (entry_at e) bs (all_quiet q (entry_at e)) ps in
      let m = all_mended g.id (region_of g) (shown d) [] 0 g.entries all e (omega arith) (omega arith) in
      let z = form_at g.id (region_of g) (shown d) m.0 e in
      let F = form_shown o e m.0 D in
      let bytes : bs ≡ entry_bytes g.id z =
      ap bytes_in (sym shows_bs) ∙ (same_decides (bytes_in (shown d (entry_at e))) (entry_bytes g.id z)).0 m.1 in
      let read : y ≡ z = entry_read_back g.id z y g.fits F.fits (subst (λ (cs : List ℕ). whole_entry 0 g.id cs ≡ Some y) bytes is) in
      let sound : sound_entry 0 g.id (region_of g) (entry_bytes g.id z) ≡ Some z =
      (a_written_entry_is_read_back 0 g.id (region_of g) z (omega arith) g.fits F.fits).1 F.sound in
      let shown_sound : entry_in_state g.id g.entries g.records (shown d (entry_at e)) ≡ Some y =
      ap (entry_in_state g.id g.entries g.records) shows_bs ∙ (ap (sound_entry 0 g.id (region_of g)) bytes ∙ (sound ∙ ap Some (sym read))) in
      named_is g.id g.entries g.records (shown d) 0 g.entries e p x y (omega arith) (omega arith) shown_sound at h

  freed_drive : (o : Ledger) → owed d ≡ 0 → first_unmended g.id (region_of g) (shown d) [] 0 g.entries ≡ None → OnDrive g o d → OnDrive g (freed o) d
  unfolding freed
  freed_drive o q all D =
      record {
        formed = D.formed;
        sized = D.sized;
        within = λ x.
            elim (cases_Bool (within (region_of g) x && not (among x names_now))) [
              | inl h ↦ inr (in_region g x (and_parts (within (region_of g) x) (not (among x names_now)) h).0)
              | inr h ↦ elim (D.within x) [ inl l ↦ inl (ap (λ (b : Bool). cond b free (o x)) h ∙ l) | inr i ↦ inr i ]
            ];
        named = λ e p x bs y l ps is at h.
            ap (λ (b : Bool). cond b free (o x)) (and_right (within (region_of g) x) (not (among x names_now)) (not_from_true (among x names_now) (seen o e p x bs y D q all l ps is at h)))
            ∙ D.named e p x bs y l ps is at h;
        mapped = λ x bs s l ps is h.
            elim (cases_Bool (within (region_of g) x && not (among x names_now))) [
              | inl i ↦ ap (λ (b : Bool). cond b free (o x)) i
              | inr i ↦ ap (λ (b : Bool). cond b free (o x)) i ∙ D.mapped x bs s l ps is h
            ];
        labelled = D.labelled;
      }

  -- ---- the plan

  module _ (v : Memory) (o : Ledger) (l : Label) (I : Inv g o d v) (shut : v.phase ≡ Shut) (quiet : owed d ≡ 0) (i : l.id ≡ g.id) (e : l.entries ≡ g.entries) where
    section_keeps : (q : Option ℕ) → first_inexact l.id l.entries (size d) (shown d) 0 3 ≡ q
        → first_unmended g.id (region_of g) (shown d) [] 0 g.entries ≡ None → Meets (end_or_section r d v l q) (Keeps g d)
    unfolding freed names_now
    section_keeps None is all = post_meets (Keeps g d) _ _ _ _ (label_posted g d o v (with_state l Closed 0) I i e)
    section_keeps (Some k) is all =
        let bits = mended_bits g.id g.entries g.records (shown d) k in
        let f : ℕ → Bool = λ n. within (region_of g) (first_of k + n) && not (among (first_of k + n) names_now) in
        let low = inexact_is l.id l.entries (size d) (shown d) 0 3 k is in
        post_meets (Keeps g d) _ _ _ _
        (shut_good v o (freed o) _ I shut
        (drive_section g (freed o) d k bits _ (freed_drive o quiet all I.drive) (omega arith) (bits_of_fit f)
        (λ j. mended_section (i j) (e j) (I.drive.sized j) (shown d) k)
        (λ x at on.
        let n = x - first_of k in
        let back : first_of k + n ≡ x = omega arith in
        let passed : f n ≡ true = sym (bit_bits_of f n (omega arith)) ∙ on in
        ap (λ (b : Bool). cond b free (o x)) (subst (λ (y : ℕ). (within (region_of g) y && not (among y names_now)) ≡ true) back passed))))

    mending_keeps : (q : Option Unmended) → first_unmended g.id (region_of g) (shown d) [] 0 g.entries ≡ q → Meets (map_or_entry r d v l q) (Keeps g d)
    mending_keeps None is = section_keeps (first_inexact l.id l.entries (size d) (shown d) 0 3) refl is
    mending_keeps (Some u) is =
        let m = unmended_is g.id (region_of g) (shown d) [] 0 g.entries u is in
        let n = u.number in
        let low : n < g.entries = omega (arith, m.0) in
        let F : MendedForm g (shown d (entry_at n)) u.form = subst (MendedForm g (shown d (entry_at n))) (sym m.1.1) (form_shown o n m.1.0 I.drive) in
        post_meets (Keeps g d) _ _ _ _
        (shut_good v o o _ I shut
        (drive_entry g o d n l.id u.form I.drive low i F.fits
        (λ p y at h.
        let w = F.names p y at h in
        let z = entry_readable g.id (shown d (entry_at n)) w.0 w.1 in
        I.drive.named n p y z.0 w.0 low (shown_possible d (entry_at n) z.0 z.1) z.2 w.2 h)))

  pub salvage_keeps : (v : Memory) (n c : ℕ) → Good g d v → Meets (salvage_plan r n c d v) (Keeps g d)
  unfolding salvage_plan
  salvage_keeps v n c (o, I) =
      ask_meets (Keeps g d) _ _ _ λ _. ask_meets (Keeps g d) _ _ _ λ p. need_meets (Keeps g d) _ _ _ λ l is.
      ask_meets (Keeps g d) _ _ _ λ _. ask_meets (Keeps g d) _ _ _ λ q.
      let own = label_own g d o l I.drive is in
      cond_meets (Keeps g d) (is_salvage (label_in_state (size d) (shown d 0))) _ _
      (λ _.
      mending_keeps v o l I (shut_is v.phase p) (eqb-true (owed d) 0 q) own.0 own.1 _
      (λ j. first_unmended (sym own.0 j) (page_region (sym own.1 j) (sym I.drive.sized j)) (shown d) [] 0 (sym own.1 j)))
      (λ _. post_meets (Keeps g d) _ _ _ _ (label_posted g d o v (with_state l Salvage l.trouble) I own.0 own.1))

  -- ---- every call

  pub plan_keeps : (c : Call) (v : Memory) → Fitting c → Good g d v → Meets (plan r c d v) (Keeps g d)
  unfolding plan
  plan_keeps (open' n) v fit G = open_keeps g d r v n G
  plan_keeps (create n f e meter) v fit G = create_keeps g d r v n f e meter fit G
  plan_keeps (activate n f e) v fit G = activate_keeps g d v n f e G
  plan_keeps withdraw v fit G = withdraw_keeps g d v G
  plan_keeps (place bs f p t a) v fit G = place_keeps g d r v bs f p t a fit.1 G
  plan_keeps (deposit t a) v fit G = deposit_keeps g d v t a G
  plan_keeps (read n f p) v fit G = read_keeps g d v n f p G
  plan_keeps (update n f) v fit G = update_keeps g d r v n f G
  plan_keeps (clear f p) v fit G = clear_keeps g d v f p G
  plan_keeps (reclaim f p) v fit G = reclaim_keeps g d v f p G
  plan_keeps (deactivate f) v fit G = deactivate_keeps g d v f G
  plan_keeps (balance n) v fit G = balance_keeps g d r v n G
  plan_keeps close v fit G = close_keeps g d v G
  plan_keeps (drain n) v fit G = drain_keeps g d r v n G
  plan_keeps (finish n) v fit G = finish_keeps g d r v n G
  plan_keeps (salvage n c) v fit G = salvage_keeps v n c G
