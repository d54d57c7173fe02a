-- What is read from the control records that a volume writes, and which records of a drive can be read as one.
use Rattle.std.proofs.Common.{◌≡◌, ℕ, ◌^◌, ◌<◌, ◌&&◌, List, [], ◌∷◌, length, drop, replicate, Some, None, sym, refl, ap, ◌∙◌, subst, inl, inr, arith}
use Rattle.std.specs.List.{AllByRecursion}
use Rattle.std.proofs.ByRecursion.{All-from_get_or}
use Rattle.std.proofs.lemmas.List.{length-append, get_or_past, get_or-replicate}
use Rattle.std.proofs.lemmas.Bool.{and_parts, cases_lt, cond-true}
use Rattle.drive.specs.Cuts.{SomeWrite}
use Rattle.drive.specs.Meaning.{State, readable, spoiled, Write, Meaning, size, EveryWrite, RecordBytes, WellFormedState, WellFormed}
use Rattle.record.specs.declared.label.Label.{Label}
use Rattle.record.specs.declared.region.Region.{Region}
use Rattle.record.specs.declared.section.Section.{Section}
use Rattle.record.specs.declared.entry.Entry.{Entry}
use Rattle.record.specs.Words.{words, unwords}
use Rattle.record.specs.Control.{check, control, whole}
use Rattle.record.specs.Regions.{page_region, map_span}
use Rattle.record.specs.Labels.{label_body, label_record, label_in, believed_label}
use Rattle.record.specs.Sections.{section_body, section_record, sound_section}
use Rattle.record.specs.Entries.{free_entry, entry_body, entry_record, entry_in, entry_laid_out, addresses_sound, whole_entry, sound_entry}
use Rattle.record.specs.Laws.{FittingBits, FittingEntry}
use Rattle.record.proofs.WordLaws.{be_of_bytes, words_unwords, word_fits}
use Rattle.record.proofs.ControlLaws.{length_control}
use Rattle.record.proofs.LayoutLaws.{some_parts}
use Rattle.record.proofs.EntryLaws.{length_pack, length_slots, a_written_entry_is_read_back}
use Rattle.model.specs.Volume.{label_bytes, section_bytes, entry_bytes}
use Rattle.model.specs.Shown.{bytes_in}
use Rattle.model.proofs.Possible.{Wrote, Possible}

-- ---- what is written are the bytes of a record

bytes_fit : (ws : List ℕ) → AllByRecursion (λ b. b < 256) (unwords ws)
bytes_fit [] = tt
bytes_fit (w ∷ ws) = (omega arith, (omega arith, (omega arith, (omega arith, bytes_fit ws))))

control_is_record : (id : ℕ) (body : List ℕ) → length body ≡ 126 → RecordBytes (control 0 id body)
unfolding control
control_is_record id body l = (length_control 0 id body l, bytes_fit (id ∷ check 0 (id ∷ 0 ∷ body) ∷ body))

pub entry_is_record : (id : ℕ) (x : Entry) → length x.slots ≡ 64 → RecordBytes (entry_bytes id x)
unfolding entry_record entry_body
entry_is_record id x l =
    let n = length_pack x.slots in
    control_is_record id (entry_body x) (simp length-append (omega arith))

pub section_is_record : (id e t k : ℕ) (bits : List ℕ) → length bits ≡ 124 → RecordBytes (section_bytes id e t k bits)
unfolding section_record section_body
section_is_record id e t k bits l = control_is_record id (section_body (map_span k e t) bits) (omega arith)

pub label_is_record : (l : Label) → RecordBytes (label_bytes l)
unfolding label_record label_body
label_is_record l = control_is_record l.id (label_body l) refl

-- ---- what is written is read again, if anything is

pub entry_read_back : (id : ℕ) (x y : Entry) → id < 2 ^ 32 → FittingEntry x → whole_entry 0 id (entry_bytes id x) ≡ Some y → y ≡ x
entry_read_back id x y hi f h =
    let r = (a_written_entry_is_read_back 0 id (page_region 0 0) x (omega arith) hi f).0 in cc

pub section_read_back : (id e t k : ℕ) (bits : List ℕ) (s : Section) → FittingBits bits
    → sound_section 0 id (map_span k e t) (section_bytes id e t k bits) ≡ Some s → s.bits ≡ bits
unfolding section_record section_body control
section_read_back id e t k bits s f h =
    let p = some_parts _ (record { bits = drop 4 (words (section_bytes id e t k bits)) }) s h in
    ap (λ (y : Section). y.bits) (sym p.1) ∙ words_unwords bits f.1

pub label_read_back : (t : ℕ) (l m : Label) → l.id < 2 ^ 32 → l.entries < 2 ^ 32 → believed_label 0 t (label_bytes l) ≡ Some m
    → (m.id ≡ l.id) × (m.entries ≡ l.entries)
unfolding label_record label_body control
label_read_back t l m hi he h =
    let p = some_parts _ (label_in (label_bytes l)) m h in
    (ap (λ (y : Label). y.id) (sym p.1) ∙ be_of_bytes l.id hi, ap (λ (y : Label). y.entries) (sym p.1) ∙ be_of_bytes l.entries he)

-- ---- what can be read

spoiled_not : (bs : List ℕ) → spoiled ≡ readable bs → ⊥
spoiled_not bs e = let z : ◌≡◌ {A = ℕ} 0 1 = cc in omega arith

pub none_not : {X : Type 0} (x : X) → None ≡ Some x → ⊥
none_not x e = let z : ◌≡◌ {A = ℕ} 0 1 = cc in omega arith

pub sound_whole : (id : ℕ) (g : Region) (bs : List ℕ) (y : Entry) → sound_entry 0 id g bs ≡ Some y → whole_entry 0 id bs ≡ Some y
sound_whole id g bs y h =
    let p = some_parts _ (entry_in bs) y h in
    let q = and_parts (whole 0 id bs) (entry_laid_out bs && addresses_sound g (entry_in bs)) p.0 in
    cond-true (whole 0 id bs) (Some (entry_in bs)) None q.0 ∙ ap Some p.1

pub entry_readable : (id : ℕ) (s : State) (y : Entry) → whole_entry 0 id (bytes_in s) ≡ Some y → (bs : List ℕ) × (s ≡ readable bs) × (whole_entry 0 id bs ≡ Some y)
entry_readable id (readable bs) y h = (bs, refl, h)
entry_readable id spoiled y h = absurd (none_not y h)

pub section_readable : (id e t k : ℕ) (s : State) (y : Section) → sound_section 0 id (map_span k e t) (bytes_in s) ≡ Some y
    → (bs : List ℕ) × (s ≡ readable bs) × (sound_section 0 id (map_span k e t) bs ≡ Some y)
section_readable id e t k (readable bs) y h = (bs, refl, h)
section_readable id e t k spoiled y h = absurd (none_not y h)

pub label_readable : (t : ℕ) (s : State) (l : Label) → believed_label 0 t (bytes_in s) ≡ Some l
    → (bs : List ℕ) × (s ≡ readable bs) × (believed_label 0 t bs ≡ Some l)
label_readable t (readable bs) l h = (bs, refl, h)
label_readable t spoiled l h = absurd (none_not l h)

-- ---- what a drive may hold are the bytes of a record

wrote_bytes : (n a : ℕ) (bs : List ℕ) (ws : List Write) → EveryWrite (λ w. (w.at < n) × RecordBytes w.bytes) ws → SomeWrite (Wrote a bs) ws → RecordBytes bs
wrote_bytes n a bs [] h s = absurd s
wrote_bytes n a bs (w ∷ ws) h (inl s) = subst RecordBytes s.1 h.0.1
wrote_bytes n a bs (w ∷ ws) h (inr s) = wrote_bytes n a bs ws h.1 s

pub possible_bytes : (d : Meaning) (a : ℕ) (bs : List ℕ) → WellFormed d → Possible d a bs → RecordBytes bs
possible_bytes d a bs wf (inl h) =
    elim (cases_lt a (size d)) [
      | inl l ↦ subst WellFormedState h (wf.full a l)
      | inr past ↦ absurd (spoiled_not bs (sym (get_or_past d.settled a spoiled past) ∙ h))
    ]
possible_bytes d a bs wf (inr h) = wrote_bytes (size d) a bs d.outstanding wf.inside h

-- the numbers of a whole entry
pub whole_fits : (id : ℕ) (bs : List ℕ) (y : Entry) → RecordBytes bs → whole_entry 0 id bs ≡ Some y → (y.meter < 2 ^ 32) × (length y.slots ≡ 64)
whole_fits id bs y h e =
    let p = some_parts (whole 0 id bs) (entry_in bs) y e in
    let l = h.0 in
    (subst (λ (x : Entry). x.meter < 2 ^ 32) p.1 (word_fits bs 2 h.1 (omega arith)), subst (λ (x : Entry). length x.slots ≡ 64) p.1 (length_slots bs l))

pub free_fits : FittingEntry free_entry
free_fits =
    record { meter = omega arith; all = refl; each = All-from_get_or (λ a. a < 2 ^ 16) (replicate 64 0) 0 (λ i h. rw (get_or-replicate {A = ℕ} 64 i 0 0 h) (omega arith)) }
