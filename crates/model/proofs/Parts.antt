-- What holds of a volume at every moment, in parts: the drive, the stock, the tickets and the files, each against the
-- ledger of who has which address.
use Rattle.std.proofs.Common.{◌≡◌, ℕ, ◌+◌, ◌-◌, ◌^◌, ◌<◌, ◌≤◌, true, false, eqb, ltb, leb, ◌⊎◌, List, [], ◌∷◌, map, length, get_or, set, Some, None, Option, sym, refl, ap, ◌∙◌, subst, inl, inr, arith}
use Rattle.std.proofs.ByRecursion.{All-from_get_or}
use Rattle.std.proofs.lemmas.List.{length-map}
use Rattle.std.proofs.lemmas.Bool.{cases_lt, and_parts, and_from, leb-true, ltb-true, le-leb, lt-ltb}
use Rattle.drive.specs.Meaning.{State, readable, Meaning, size, shown, posted, RecordBytes, WellFormed}
use Rattle.drive.proofs.FormedLaws.{well_formed_posted}
use Rattle.record.specs.declared.label.Label.{Label}
use Rattle.record.specs.declared.section.Section.{Section}
use Rattle.record.specs.declared.entry.Entry.{Entry}
use Rattle.record.specs.Regions.{within, page_region, map_span, first_of}
use Rattle.record.specs.Labels.{believed_label}
use Rattle.record.specs.Sections.{bit, sound_section}
use Rattle.record.specs.Entries.{whole_entry}
use Rattle.record.specs.Laws.{FittingBits, FittingEntry}
use Rattle.model.specs.declared.memory.Phase.{Phase}
use Rattle.model.specs.declared.memory.Phase.TheVariants.{Shut, Open, Closing}
use Rattle.model.specs.declared.memory.MapState.{MapState}
use Rattle.model.specs.declared.memory.MapState.TheVariants.{Idle, Writing}
use Rattle.model.specs.declared.memory.Slot.{Slot}
use Rattle.model.specs.declared.memory.Slot.TheVariants.{Empty, Nulled, Live, Leaving, Left}
use Rattle.model.specs.declared.memory.File.{File}
use Rattle.model.specs.Volume.{entry_at, section_at, label_bytes, section_bytes, entry_bytes}
use Rattle.model.specs.Memory.{Memory}
use Rattle.model.specs.Shown.{bits_or_none, section_in_state}
use Rattle.model.specs.Plans.{is_shut}
use Rattle.model.specs.Stock.{cover}
use Rattle.model.proofs.Possible.{Possible, possible_posted}
use Rattle.model.proofs.ReadBack.{entry_is_record, section_is_record, label_is_record, entry_read_back, section_read_back, label_read_back, none_not}
use Rattle.model.proofs.Lists.{count, set_read, get_or_mapped, get_or_inside}
use Rattle.model.proofs.Ledger.{Owner, lost, free, in_service, on_ticket, at_slot, kind, Ledger, differ, hand, From, hand_one, hand_out, hand_kept, from_one, Holds}

-- ---- the volume

-- a volume's id, its number of entries and its number of records
pub record Shape : Type 0 where
  pub id : ℕ
  pub entries : ℕ
  pub records : ℕ
  pub fits : id < 2 ^ 32
  pub low : entries + 9 ≤ records
  pub high : records ≤ 11904

abbrev pub InRegion : Shape → ℕ → Type 0
InRegion g x = (8 + g.entries ≤ x) × (x < g.records)

pub in_region : (g : Shape) (x : ℕ) → within (page_region g.entries g.records) x ≡ true → InRegion g x
in_region g x h =
    let hs = and_parts (leb (8 + g.entries) x) (ltb x g.records) h in
    (leb-true (8 + g.entries) x hs.0, ltb-true x g.records hs.1)

pub region_within : (g : Shape) (x : ℕ) → InRegion g x → within (page_region g.entries g.records) x ≡ true
region_within g x h = and_from _ _ (le-leb (8 + g.entries) x h.0) (lt-ltb x g.records h.1)

-- section k as the bytes hold it
abbrev pub section_in : Shape → ℕ → List ℕ → Option Section
section_in g k bs = sound_section 0 g.id (map_span k g.entries g.records) bs

-- what the drive may hold agrees with the ledger
pub record OnDrive (g : Shape) (o : Ledger) (d : Meaning) : Type 0 where
  pub formed : WellFormed d
  pub sized : size d ≡ g.records
  pub within : (x : ℕ) → (o x ≡ lost) ⊎ InRegion g x
  pub named : (e p x : ℕ) (bs : List ℕ) (y : Entry) → e < g.entries → Possible d (entry_at e) bs → whole_entry 0 g.id bs ≡ Some y
      → get_or y.slots p 0 ≡ x → 0 < x → o x ≡ at_slot e p
  pub mapped : (x : ℕ) (bs : List ℕ) (s : Section) → cover x < 3 → Possible d (section_at (cover x)) bs → section_in g (cover x) bs ≡ Some s
      → bit s.bits (x - first_of (cover x)) ≡ true → o x ≡ free
  pub labelled : (a : ℕ) (bs : List ℕ) (l : Label) → (a ≡ 0) ⊎ (a ≡ 7) → Possible d a bs → believed_label 0 g.records bs ≡ Some l
      → (l.id ≡ g.id) × (l.entries ≡ g.entries)

-- ---- memory

-- a slot has an address
abbrev pub Has : Slot → ℕ → Type 0
Has Empty x = ⊥
Has (Nulled y) x = y ≡ x
Has (Live y) x = y ≡ x
Has (Leaving y) x = y ≡ x
Has (Left y) x = y ≡ x

-- what the entry on the drive has for a slot
abbrev pub on_entry : Slot → ℕ
on_entry Empty = 0
on_entry (Nulled x) = 0
on_entry (Live x) = x
on_entry (Leaving x) = x
on_entry (Left x) = 0

-- the slots of entry e agree with the ledger
abbrev pub Slots : Ledger → ℕ → List Slot → Type 0
Slots o e ss = (p x : ℕ) → Has (get_or ss p Empty) x → o x ≡ at_slot e p

abbrev pub entry_of : File → Entry
entry_of f = record { meter = f.meter; slots = map on_entry f.slots }

-- a used file: its addresses are its own, and its entry shows those that it names
pub record InFile (g : Shape) (o : Ledger) (d : Meaning) (f : File) : Type 0 where
  pub slots : Slots o f.entry f.slots
  pub shows : shown d (entry_at f.entry) ≡ readable (entry_bytes g.id (entry_of f))
  pub low : f.entry < g.entries
  pub metered : f.meter < 2 ^ 32
  pub long : length f.slots ≡ 64

pub record Files (g : Shape) (o : Ledger) (d : Meaning) (fs : List (Option File)) : Type 0 where
  pub each : (i : ℕ) (f : File) → get_or fs i None ≡ Some f → InFile g o d f
  pub alone : (i j : ℕ) (f f' : File) → get_or fs i None ≡ Some f → get_or fs j None ≡ Some f' → f.entry ≡ f'.entry → i ≡ j

-- the bits of section k as it shows
abbrev pub bits_here : Shape → Meaning → ℕ → List ℕ
bits_here g d k = bits_or_none (section_in_state g.id g.entries g.records k (shown d (section_at k)))

-- the unsettled addresses are off in the section that is being written
abbrev pub Off : Shape → Meaning → MapState → List ℕ → Type 0
Off g d Idle us = us ≡ []
Off g d (Writing k) us = (k < 3) × ((x : ℕ) → 0 < count x us → (cover x ≡ k) × (bit (bits_here g d k) (x - first_of k) ≡ false))

-- unsettled addresses still count as free
pub record Stock (o : Ledger) (s u : List ℕ) : Type 0 where
  pub served : Holds o s in_service
  pub coming : Holds o u free

abbrev pub Tickets : Ledger → List (Option ℕ) → Type 0
Tickets o ts = (t x : ℕ) → get_or ts t None ≡ Some x → o x ≡ on_ticket t

pub record Unheld (ts : List (Option ℕ)) (fs : List (Option File)) : Type 0 where
  pub tickets : (t : ℕ) → get_or ts t None ≡ None
  pub files : (i : ℕ) → get_or fs i None ≡ None

-- nothing is held before the volume is opened and after it is shut
abbrev pub Bare : Phase → List (Option ℕ) → List (Option File) → List ℕ → List ℕ → Type 0
Bare Open ts fs s u = Unit {0}
Bare Closing ts fs s u = Unheld ts fs
Bare Shut ts fs s u = Unheld ts fs × (s ≡ []) × (u ≡ [])

pub record Inv (g : Shape) (o : Ledger) (d : Meaning) (v : Memory) : Type 0 where
  pub drive : OnDrive g o d
  pub stock : Stock o v.service v.unsettled
  pub off : Off g d v.chart v.unsettled
  pub tickets : Tickets o v.tickets
  pub files : Files g o d v.files
  pub bare : Bare v.phase v.tickets v.files v.service v.unsettled
  pub own : is_shut v.phase ≡ false → (v.id ≡ g.id) × (v.entries ≡ g.entries)
  pub counted : length v.counts ≡ 3

-- some ledger agrees with all of it
abbrev pub Good : Shape → Meaning → Memory → Type 0
Good g d v = (o : Ledger) × Inv g o d v

-- ---- the drive, as addresses change hands

pub not_lost : (g : Shape) (o : Ledger) (d : Meaning) (x : ℕ) (u : Owner) → OnDrive g o d → o x ≡ u → eqb (kind u) 0 ≡ false → InRegion g x
not_lost g o d x u D h n = elim (D.within x) [ inl l ↦ absurd (differ u lost n (sym h ∙ l)) | inr r ↦ r ]

pub within_handed : (g : Shape) (o : Ledger) (d : Meaning) (xs : List ℕ) (u v : Owner) → OnDrive g o d → From o xs u → eqb (kind u) 0 ≡ false
    → (x : ℕ) → (hand xs v o x ≡ lost) ⊎ InRegion g x
within_handed g o d xs u v D fr n0 x =
    elim (cases_lt 0 (count x xs)) [
      | inl c ↦ inr (not_lost g o d x u D (fr x c) n0)
      | inr c ↦ elim (D.within x) [ inl l ↦ inl (hand_out o xs v x (omega arith) ∙ l) | inr r ↦ inr r ]
    ]

pub drive_handed : (g : Shape) (o : Ledger) (d : Meaning) (xs : List ℕ) (u v : Owner) → OnDrive g o d → From o xs u
    → eqb (kind u) 0 ≡ false → eqb (kind u) 1 ≡ false → eqb (kind u) 4 ≡ false → OnDrive g (hand xs v o) d
drive_handed g o d xs u v D fr n0 n1 n4 =
    record {
      formed = D.formed;
      sized = D.sized;
      within = within_handed g o d xs u v D fr n0;
      named = λ e p x bs y l ps is at h. hand_kept o xs u v (at_slot e p) x fr (differ u (at_slot e p) n4) (D.named e p x bs y l ps is at h);
      mapped = λ x bs s l ps is h. hand_kept o xs u v free x fr (differ u free n1) (D.mapped x bs s l ps is h);
      labelled = D.labelled;
    }

-- ---- the drive, as writes are posted

-- what a write of bs to a says agrees with the ledger
record Says (g : Shape) (o : Ledger) (a : ℕ) (bs : List ℕ) : Type 0 where
  names : (e p x : ℕ) (y : Entry) → e < g.entries → a ≡ entry_at e → whole_entry 0 g.id bs ≡ Some y → get_or y.slots p 0 ≡ x → 0 < x → o x ≡ at_slot e p
  maps : (x : ℕ) (s : Section) → cover x < 3 → a ≡ section_at (cover x) → section_in g (cover x) bs ≡ Some s → bit s.bits (x - first_of (cover x)) ≡ true → o x ≡ free
  labels : (l : Label) → (a ≡ 0) ⊎ (a ≡ 7) → believed_label 0 g.records bs ≡ Some l → (l.id ≡ g.id) × (l.entries ≡ g.entries)

drive_posted : (g : Shape) (o : Ledger) (d : Meaning) (a : ℕ) (bs : List ℕ) → OnDrive g o d → a < g.records → RecordBytes bs → Says g o a bs → OnDrive g o (posted d a bs)
drive_posted g o d a bs D l full S =
    record {
      formed = well_formed_posted d a bs D.formed (rw D.sized l) full;
      sized = D.sized;
      within = D.within;
      named = λ e p x cs y low ps is at h.
          elim (possible_posted d a bs (entry_at e) cs ps) [
            | inl q ↦ D.named e p x cs y low q is at h
            | inr q ↦ S.names e p x y low q.0 (rw (← q.1) at is) at h
          ];
      mapped = λ x cs s low ps is h.
          elim (possible_posted d a bs (section_at (cover x)) cs ps) [
            | inl q ↦ D.mapped x cs s low q is h
            | inr q ↦ S.maps x s low q.0 (rw (← q.1) at is) h
          ];
      labelled = λ b cs m at ps is.
          elim (possible_posted d a bs b cs ps) [
            | inl q ↦ D.labelled b cs m at q is
            | inr q ↦ S.labels m (elim at [ inl z ↦ inl (q.0 ∙ z) | inr z ↦ inr (q.0 ∙ z) ]) (rw (← q.1) at is)
          ];
    }

pub drive_page : (g : Shape) (o : Ledger) (d : Meaning) (x : ℕ) (bs : List ℕ) → OnDrive g o d → InRegion g x → RecordBytes bs → OnDrive g o (posted d x bs)
drive_page g o d x bs D r full =
    drive_posted g o d x bs D r.1 full
    (record {
      names = λ e p y z l at. absurd (omega arith);
      maps = λ y s l at. absurd (omega arith);
      labels = λ l at. absurd (elim at [ inl z ↦ omega arith | inr z ↦ omega arith ]);
    })

pub drive_entry : (g : Shape) (o : Ledger) (d : Meaning) (e i : ℕ) (x : Entry) → OnDrive g o d → e < g.entries → i ≡ g.id → FittingEntry x
    → ((p y : ℕ) → get_or x.slots p 0 ≡ y → 0 < y → o y ≡ at_slot e p) → OnDrive g o (posted d (entry_at e) (entry_bytes i x))
drive_entry g o d e i x D low own fit claim =
    subst (λ (j : ℕ). OnDrive g o (posted d (entry_at e) (entry_bytes j x))) (sym own)
    (drive_posted g o d (entry_at e) (entry_bytes g.id x) D (omega arith) (entry_is_record g.id x fit.all)
    (record {
      names = λ e' p y z l at is there h.
          let same : e ≡ e' = omega arith in
          let read : z ≡ x = entry_read_back g.id x z g.fits fit is in
          rw (← same) (claim p y (subst (λ (w : Entry). get_or w.slots p 0 ≡ y) read there) h);
      maps = λ y s l at. absurd (omega arith);
      labels = λ l at. absurd (elim at [ inl z ↦ omega arith | inr z ↦ omega arith ]);
    }))

pub drive_section : (g : Shape) (o : Ledger) (d : Meaning) (k : ℕ) (bits bs : List ℕ) → OnDrive g o d → k < 3 → FittingBits bits
    → bs ≡ section_bytes g.id g.entries g.records k bits
    → ((x : ℕ) → cover x ≡ k → bit bits (x - first_of k) ≡ true → o x ≡ free) → OnDrive g o (posted d (section_at k) bs)
drive_section g o d k bits bs D low fit is claim =
    subst (λ (cs : List ℕ). OnDrive g o (posted d (section_at k) cs)) (sym is)
    (drive_posted g o d (section_at k) (section_bytes g.id g.entries g.records k bits) D (omega arith)
    (section_is_record g.id g.entries g.records k bits fit.0)
    (record {
      names = λ e p y z l at. absurd (omega arith);
      maps = λ x s l at read on.
          let same : cover x ≡ k = omega arith in
          let read' = rw same at read in
          let bits_are : s.bits ≡ bits = section_read_back g.id g.entries g.records k bits s fit read' in
          claim x same (ap (λ (bs : List ℕ). bit bs (x - first_of k)) (sym bits_are) ∙ rw same at on);
      labels = λ l at. absurd (elim at [ inl z ↦ omega arith | inr z ↦ omega arith ]);
    }))

pub drive_label : (g : Shape) (o : Ledger) (d : Meaning) (l : Label) → OnDrive g o d → l.id ≡ g.id → l.entries ≡ g.entries → OnDrive g o (posted d 0 (label_bytes l))
drive_label g o d l D i e =
    drive_posted g o d 0 (label_bytes l) D (omega arith) (label_is_record l)
    (record {
      names = λ e p y z l at. absurd (omega arith);
      maps = λ x s l at. absurd (omega arith);
      labels = λ m at is.
          let back = label_read_back g.records l m (rw i g.fits) (omega arith) is in
          (back.0 ∙ i, back.1 ∙ e);
    })

pub drive_less : (g : Shape) (o : Ledger) (d d' : Meaning) → OnDrive g o d → WellFormed d' → size d' ≡ size d
    → ((a : ℕ) (bs : List ℕ) → Possible d' a bs → Possible d a bs) → OnDrive g o d'
drive_less g o d d' D formed sized less =
    record {
      formed = formed;
      sized = sized ∙ D.sized;
      within = D.within;
      named = λ e p x bs y l ps. D.named e p x bs y l (less (entry_at e) bs ps);
      mapped = λ x bs s l ps. D.mapped x bs s l (less (section_at (cover x)) bs ps);
      labelled = λ a bs l at ps. D.labelled a bs l at (less a bs ps);
    }

-- ---- the map's part, where the drive shows the same

pub off_same : (g : Shape) (d d' : Meaning) (c : MapState) (us : List ℕ) → Off g d c us → ((k : ℕ) → k < 3 → shown d' (section_at k) ≡ shown d (section_at k)) → Off g d' c us
off_same g d d' Idle us h same = h
off_same g d d' (Writing k) us h same = (
  h.0,
  λ x c. (
    (h.1 x c).0,
    ap (λ (s : State). bit (bits_or_none (section_in_state g.id g.entries g.records k s)) (x - first_of k)) (same k h.0) ∙ (h.1 x c).1,
  ),
)

-- ---- files

pub file_moved : (g : Shape) (o o' : Ledger) (d d' : Meaning) (f : File) → InFile g o d f
    → ((p x : ℕ) → o x ≡ at_slot f.entry p → o' x ≡ at_slot f.entry p)
    → shown d' (entry_at f.entry) ≡ shown d (entry_at f.entry) → InFile g o' d' f
file_moved g o o' d d' f F own same =
    record { slots = λ p x h. own p x (F.slots p x h); shows = same ∙ F.shows; low = F.low; metered = F.metered; long = F.long }

pub files_moved : (g : Shape) (o o' : Ledger) (d d' : Meaning) (fs : List (Option File)) → Files g o d fs
    → ((e p x : ℕ) → o x ≡ at_slot e p → o' x ≡ at_slot e p)
    → ((e : ℕ) → e < g.entries → shown d' (entry_at e) ≡ shown d (entry_at e)) → Files g o' d' fs
files_moved g o o' d d' fs F own same =
    record {
      each = λ i f h. let I = F.each i f h in file_moved g o o' d d' f I (own f.entry) (same f.entry I.low);
      alone = F.alone;
    }

-- one slot is put in place
pub slots_put : (o o' : Ledger) (e : ℕ) (ss : List Slot) (p : ℕ) (s : Slot) → Slots o e ss
    → ((x : ℕ) → Has s x → o' x ≡ at_slot e p)
    → ((p' x : ℕ) → (p' ≡ p → ⊥) → o x ≡ at_slot e p' → o' x ≡ at_slot e p')
    → Slots o' e (set ss p s)
slots_put o o' e ss p s old new others p' x at =
    elim (set_read ss p s p' Empty (get_or (set ss p s) p' Empty) refl) [
      | inl q ↦ rw q.0 (new x (rw (← q.1) at at))
      | inr q ↦
          let at' : Has (get_or ss p' Empty) x = rw (← q.0) at at in
          let inside = get_or_inside ss p' Empty (λ z. subst (λ (y : Slot). Has y x) z at') in
          others p' x (λ i. omega (arith, q.1 i)) (old p' x at')
    ]

-- one file is put in place, and no other holds its entry
module _ (g : Shape) (o o' : Ledger) (d d' : Meaning) (fs : List (Option File)) (i : ℕ) (f : File) where
  pub files_put : Files g o d fs → InFile g o' d' f
      → ((j : ℕ) (f' : File) → get_or fs j None ≡ Some f' → f'.entry ≡ f.entry → j ≡ i)
      → ((f' : File) → (f'.entry ≡ f.entry → ⊥) → InFile g o d f' → InFile g o' d' f')
      → Files g o' d' (set fs i (Some f))
  files_put F now only others = record { each = each'; alone = alone' }
    where
      -- another file, as it was, has another entry
      other : (j : ℕ) (f' : File) → get_or fs j None ≡ Some f' → (j ≡ i → length fs ≤ i) → f'.entry ≡ f.entry → ⊥
      other j f' h out same =
          let inside = get_or_inside fs j None (λ z. none_not f' (sym z ∙ h)) in
          let here = only j f' h same in
          omega (arith, out here)

      each' : (j : ℕ) (f' : File) → get_or (set fs i (Some f)) j None ≡ Some f' → InFile g o' d' f'
      each' j f' h =
          elim (set_read fs i (Some f) j None (Some f') h) [
            | inl q ↦ let same : f ≡ f' = cc in subst (InFile g o' d') same now
            | inr q ↦ others f' (other j f' q.0 q.1) (F.each j f' q.0)
          ]

      alone' : (j k : ℕ) (f' f'' : File) → get_or (set fs i (Some f)) j None ≡ Some f' → get_or (set fs i (Some f)) k None ≡ Some f'' → f'.entry ≡ f''.entry → j ≡ k
      alone' j k f' f'' h h' e =
          elim (set_read fs i (Some f) j None (Some f') h) [
            | inl q ↦
                elim (set_read fs i (Some f) k None (Some f'') h') [
                  | inl r ↦ omega arith
                  | inr r ↦ let same : f ≡ f' = cc in absurd (other k f'' r.0 r.1 (sym (ap (λ (y : File). y.entry) same ∙ e)))
                ]
            | inr q ↦
                elim (set_read fs i (Some f) k None (Some f'') h') [
                  | inl r ↦ let same : f ≡ f'' = cc in absurd (other j f' q.0 q.1 (e ∙ sym (ap (λ (y : File). y.entry) same)))
                  | inr r ↦ F.alone j k f' f'' q.0 r.0 e
                ]
          ]

pub files_drop : (g : Shape) (o : Ledger) (d : Meaning) (fs : List (Option File)) (i : ℕ) → Files g o d fs → Files g o d (set fs i None)
files_drop g o d fs i F =
    record { each = λ j f h. F.each j f (was j f h); alone = λ j k f f' h h'. F.alone j k f f' (was j f h) (was k f' h') }
  where
    was : (j : ℕ) (f : File) → get_or (set fs i None) j None ≡ Some f → get_or fs j None ≡ Some f
    was j f h = elim (set_read fs i None j None (Some f) h) [ inl q ↦ absurd (none_not f q.1) | inr q ↦ q.0 ]

pub files_none : (g : Shape) (o : Ledger) (d : Meaning) (fs : List (Option File)) → ((i : ℕ) → get_or fs i None ≡ None) → Files g o d fs
files_none g o d fs nil =
    record { each = λ i f h. absurd (none_not f (sym (nil i) ∙ h)); alone = λ i j f f' h h' e. absurd (none_not f (sym (nil i) ∙ h)) }

-- the numbers of a file's entry fit: each address that it names lies in the region
pub entry_fits : (g : Shape) (o : Ledger) (d : Meaning) (e m : ℕ) (ss : List Slot) → OnDrive g o d → Slots o e ss → m < 2 ^ 32 → length ss ≡ 64
    → FittingEntry (record { meter = m; slots = map on_entry ss })
entry_fits g o d e m ss D S hm long =
    record {
      meter = hm;
      all = length-map ss on_entry ∙ long;
      each = All-from_get_or (λ a. a < 2 ^ 16) (map on_entry ss) 0 (λ p _. rw (get_or_mapped on_entry ss p Empty) (small p (get_or ss p Empty) (S p)));
    }
  where
    small : (p : ℕ) (s : Slot) → ((x : ℕ) → Has s x → o x ≡ at_slot e p) → on_entry s < 2 ^ 16
    small p Empty h = omega arith
    small p (Nulled x) h = omega arith
    small p (Live x) h = let r = not_lost g o d x (at_slot e p) D (h x refl) refl in omega arith
    small p (Leaving x) h = let r = not_lost g o d x (at_slot e p) D (h x refl) refl in omega arith
    small p (Left x) h = omega arith

-- ---- tickets

pub tickets_handed : (o : Ledger) (ts : List (Option ℕ)) (xs : List ℕ) (u v : Owner) → Tickets o ts → From o xs u → eqb (kind u) 3 ≡ false → Tickets (hand xs v o) ts
tickets_handed o ts xs u v K fr n3 t x at = hand_kept o xs u v (on_ticket t) x fr (differ u (on_ticket t) n3) (K t x at)

pub tickets_taken : (o : Ledger) (ts : List (Option ℕ)) (t x : ℕ) (u : Owner) → Tickets o ts → o x ≡ u → eqb (kind u) 3 ≡ false → Tickets (hand (x ∷ []) (on_ticket t) o) (set ts t (Some x))
tickets_taken o ts t x u K h n3 t' y at =
    elim (set_read ts t (Some x) t' None (Some y) at) [
      | inl q ↦ let same : x ≡ y = cc in rw (q.0, ← same) (hand_one o (on_ticket t) x)
      | inr q ↦ tickets_handed o ts (x ∷ []) u (on_ticket t) K (from_one o x u h) n3 t' y q.0
    ]

pub tickets_spent : (o : Ledger) (ts : List (Option ℕ)) (t x : ℕ) (v : Owner) → Tickets o ts → get_or ts t None ≡ Some x → Tickets (hand (x ∷ []) v o) (set ts t None)
tickets_spent o ts t x v K at t' y at' =
    elim (set_read ts t None t' None (Some y) at') [
      | inl q ↦ absurd (none_not y q.1)
      | inr q ↦
          hand_kept o (x ∷ []) (on_ticket t) v (on_ticket t') y (from_one o x (on_ticket t) (K t x at))
          (λ e.
          let same : t ≡ t' = cc in
          let inside = get_or_inside ts t None (λ z. none_not x (sym z ∙ at)) in
          omega (arith, q.1 (sym same)))
          (K t' y q.0)
    ]
