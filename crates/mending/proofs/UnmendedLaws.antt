-- The walk over the entries: what it finds, and what it notes.
use Rattle.std.proofs.Common.{◌≡◌, ℕ, zero, suc, ◌+◌, ◌-◌, ◌<◌, ◌≤◌, Bool, true, false, cond, ◌||◌, List, [], ◌++◌, Some, None, Option, sym, refl, ap, ◌∙◌, subst, arith}
use Rattle.std.proofs.lemmas.Bool.{cond-true, cond-false}
use Rattle.drive.specs.Meaning.{State}
use Rattle.record.specs.declared.region.Region.{Region}
use Rattle.record.specs.declared.entry.Entry.{Entry}
use Rattle.record.specs.declared.label.Label.{Label}
use Rattle.record.specs.Words.{same}
use Rattle.record.specs.Regions.{within}
use Rattle.record.specs.Entries.{among, whole_entry}
use Rattle.model.specs.Volume.{entry_at, entry_bytes}
use Rattle.model.specs.Shown.{bytes_in, entry_in_state}
use Rattle.model.specs.Mending.{Unmended, mended, shows, States, first_unmended, slots_or_none, named_from}
use Rattle.mending.specs.Sought.{pages_of, form_of, unless_shown, unmended_in, named_in}
use Rattle.mending.specs.Tallies.{noted, Tallies, Adds}
use Rattle.mending.proofs.TallyLaws.{or_assoc, or_comm, among_joined, tallies_more}

-- ---- one entry

-- a form that keeps what is not noted, with what it then notes
abbrev pub FormMade : Region → List ℕ → Option Entry → Entry → List ℕ → Type 0
FormMade g t whole form t' = ((kept : List ℕ) → Tallies g t kept → form ≡ mended g kept whole) × Adds g form.slots t t'

-- the answer for one entry, by whether the page that it was read into holds its form
pub form_told : (l : Label) (g : Region) (s : State) (t t' : List ℕ) (r : Bool) (page bytes : List ℕ) (whole : Option Entry) (form : Entry)
    → g ≡ pages_of l → bytes_in s ≡ page → whole ≡ whole_entry 0 l.id page → FormMade g t whole form t' → bytes ≡ entry_bytes l.id form → r ≡ same page bytes
    → (kept : List ℕ) → Tallies (pages_of l) t kept → (cond r None (Some form) ≡ unless_shown l s (form_of l kept s)) × Tallies (pages_of l) t' ((form_of l kept s).slots ++ kept)
form_told l g s t t' r page bytes whole form is seen whole_is made b e kept T =
    let M : FormMade (pages_of l) t whole form t' = subst (λ (x : Region). FormMade x t whole form t') is made in
    let form_is : form ≡ form_of l kept s = M.0 kept T ∙ ap (mended (pages_of l) kept) (whole_is ∙ ap (whole_entry 0 l.id) (sym seen)) in
    let r_is : r ≡ shows s (entry_bytes l.id form) = e ∙ (λ j. same (sym seen j) (b j)) in (
      (λ j. cond (r_is j) None (Some form)) ∙ ap (unless_shown l s) form_is,
      subst (λ (x : Entry). Tallies (pages_of l) t' (x.slots ++ kept)) form_is (tallies_more (pages_of l) form.slots t t' kept M.1 T),
    )

shown_when : (b : Bool) (x : Entry) → None ≡ cond b None (Some x) → b ≡ true
shown_when true x e = refl
shown_when false x e = let z : ◌≡◌ {A = ℕ} 0 1 = cc in absurd (omega arith)

unshown_when : (b : Bool) (x form : Entry) → Some form ≡ cond b None (Some x) → (b ≡ false) × (form ≡ x)
unshown_when true x form e = let z : ◌≡◌ {A = ℕ} 0 1 = cc in absurd (omega arith)
unshown_when false x form e = (refl, cc)

-- ---- the walk

pub one_more : (n i : ℕ) → i < n → n - i ≡ suc (n - (i + 1))
one_more n i h = omega arith

module _ (l : Label) (s : States) where
  abbrev from : List ℕ → ℕ → ℕ → Option Unmended
  from kept i n = first_unmended l.id (pages_of l) s kept i n

  -- the addresses that the entries below i keep
  abbrev pub kept_below : ℕ → List ℕ
  kept_below zero = []
  kept_below (suc i) = (form_of l (kept_below i) (s (entry_at i))).slots ++ kept_below i

  -- these are noted, and the entries from i on give the answer
  abbrev pub Looking : List ℕ → ℕ → Type 0
  Looking tally i = Tallies (pages_of l) tally (kept_below i) × ((n : ℕ) → i + n ≡ l.entries → from (kept_below i) i n ≡ unmended_in l s) × (i ≤ l.entries)

  -- what is told of entry i
  abbrev pub Told : List ℕ → ℕ → Option Entry → Type 0
  Told t i r = (kept : List ℕ) → Tallies (pages_of l) t kept → r ≡ unless_shown l (s (entry_at i)) (form_of l kept (s (entry_at i)))

  -- it shows its form
  pub looking_more : (t t' : List ℕ) (i : ℕ) → i < l.entries → Told t i None
      → ((kept : List ℕ) → Tallies (pages_of l) t kept → Tallies (pages_of l) t' ((form_of l kept (s (entry_at i))).slots ++ kept)) → Looking t i → Looking t' (i + 1)
  looking_more t t' i low told noted (T, is, _) =
      let kept = kept_below i in
      let c = s (entry_at i) in
      let x = form_of l kept c in
      let here = shown_when (shows c (entry_bytes l.id x)) x (told kept T) in
      let next : i + 1 ≡ suc i = omega arith in
      let P : ℕ → Type 0 = λ j. Tallies (pages_of l) t' (kept_below j) × ((n : ℕ) → i + 1 + n ≡ l.entries → from (kept_below j) (i + 1) n ≡ unmended_in l s) × (i + 1 ≤ l.entries) in
      subst P (sym next) (noted kept T, λ n e. sym (cond-true (shows c (entry_bytes l.id x)) _ _ here) ∙ is (suc n) (omega arith), omega arith)

  -- it does not show its form
  pub looking_found : (t : List ℕ) (i : ℕ) (form : Entry) → i < l.entries → Told t i (Some form) → Looking t i → Some (record { number = i; form = form }) ≡ unmended_in l s
  looking_found t i form low told (T, is, _) =
      let c = s (entry_at i) in
      let x = form_of l (kept_below i) c in
      let k = unshown_when (shows c (entry_bytes l.id x)) x form (told (kept_below i) T) in
      let found : Entry → Option Unmended = λ y. Some (record { number = i; form = y }) in
      ap found k.1 ∙ (sym (cond-false (shows c (entry_bytes l.id x)) _ (found x) k.0) ∙ is (suc (l.entries - (i + 1))) (omega arith))

  -- ---- the addresses that the entries name

  abbrev names : ℕ → ℕ → List ℕ
  names i n = named_from l.id l.entries l.records s i n

  -- what is noted, and what the entries from i on name, is what all entries name
  abbrev pub Naming : List ℕ → ℕ → Type 0
  Naming tally i = (a : ℕ) → within (pages_of l) a ≡ true → (among a (names i (l.entries - i)) || noted tally a) ≡ among a (named_in l s)

  -- entry i names the addresses xs
  pub naming_more : (tally tally' xs : List ℕ) (i : ℕ) → i < l.entries → xs ≡ slots_or_none (entry_in_state l.id l.entries l.records (s (entry_at i)))
      → Adds (pages_of l) xs tally tally' → Naming tally i → Naming tally' (i + 1)
  naming_more tally tally' xs i low is A N a h =
      let rest = names (i + 1) (l.entries - (i + 1)) in
      let here : among a (names i (l.entries - i)) ≡ (among a xs || among a rest) =
      ap (λ k. among a (names i k)) (one_more l.entries i low) ∙ (ap (λ u. among a (u ++ rest)) (sym is) ∙ among_joined a xs rest) in
      ap (λ b. among a rest || b) (A a h)
      ∙ (sym (or_assoc (among a rest) (among a xs) (noted tally a))
      ∙ (ap (λ b. b || noted tally a) (or_comm (among a rest) (among a xs) ∙ sym here) ∙ N a h))
