-- The layout of an entry, step by step, and its laws.
use Rattle.std.proofs.Common.{◌≡◌, ℕ, suc, ◌+◌, ◌*◌, ◌/◌, ◌%◌, ◌^◌, ◌<◌, ◌≤◌, true, ◌&&◌, List, [], ◌∷◌, ◌++◌, map, length, get_or, take, drop, replicate, Some, sym, refl, ap, ◌∙◌, subst, ap₂, arith}
use Rattle.std.specs.Simd.{first_chunks}
use Rattle.std.specs.List.{between, AllByRecursion}
use lib.Seq.{paste}
use Rattle.std.proofs.lemmas.List.{take_all, take_at, take-append-drop, drop_at, drop_more, drop-drop, length-take, length-drop, length-append, get_or-map}
use Rattle.std.proofs.ByRecursion.{All-append, All-from_get_or, All-get_or, All-take, All-drop}
use Rattle.std.proofs.lemmas.List.Edits.{paste_more, length-paste, length-between}
use Rattle.std.proofs.lemmas.Bool.{and_from, and_parts, cond-true}
use Rattle.drive.specs.Meaning.{RecordBytes}
use Rattle.record.specs.declared.entry.Entry.{Entry}
use Rattle.record.specs.Words.{be, put, words, unwords, zeros}
use Rattle.record.specs.Control.{check, control, whole}
use Rattle.record.specs.Entries.{pack, unpack, entry_body, entry_record, entry_laid_out, entry_in, addresses_sound, sound_entry}
use Rattle.record.specs.Laws.{FittingEntry, AWrittenEntryIsReadBack, ASoundEntryIsTheRecordOfWhatIsRead}
use Rattle.record.proofs.WordLaws.{put_unwords, length_words, words_take, words_drop}
use Rattle.record.proofs.LayoutLaws.{all_zeros, zeros_are, zeros_to_end, some_parts}
use Rattle.record.proofs.ControlLaws.{Fit, words_control, whole_control, whole_is_control, words_fit}

-- ---- writing

-- the words before the slots are written
unfoldable pub head_words : ℕ → ℕ → List ℕ
head_words id m = id ∷ 0 ∷ m ∷ replicate 125 0

pub length_head : (id m : ℕ) → length (head_words id m) ≡ 128
unfolding head_words
length_head id m = refl

head_put : (id m : ℕ) → put (put (replicate 512 0) 0 id) 2 m ≡ unwords (head_words id m)
unfolding head_words
head_put id m = refl

pub head_start : (p q r : List ℕ) (id m : ℕ) → p ≡ replicate 512 0 → q ≡ put p 0 id → r ≡ put q 2 m → r ≡ unwords (head_words id m)
head_start p q r id m e f g = g ∙ (ap (λ x. put x 2 m) (f ∙ ap (λ x. put x 0 id) e) ∙ head_put id m)

pub length_pack : (hs : List ℕ) → length (pack hs) ≡ length hs / 2
length_pack [] = refl
length_pack (h ∷ []) = refl
length_pack (h ∷ l ∷ hs) = omega (arith, length_pack hs)

abbrev pub joined : List ℕ → ℕ
joined q = get_or q 0 0 * 65536 + get_or q 1 0

pack_chunked : (hs : List ℕ) → pack hs ≡ map joined (first_chunks 2 (length hs / 2) hs)
pack_chunked [] = refl
pack_chunked (h ∷ []) = refl
pack_chunked (h ∷ l ∷ hs) =
    let e : length (h ∷ l ∷ hs) / 2 ≡ suc (length hs / 2) = omega arith in
    rw e (ap (λ x. (h * 65536 + l) ∷ x) (pack_chunked hs))

pub get_or_pack : (hs : List ℕ) (qs : List (List ℕ)) (k : ℕ) → qs ≡ first_chunks 2 (length hs / 2) hs → k < length qs → get_or (pack hs) k 0 ≡ joined (get_or qs k [])
get_or_pack hs qs k e h = rw (pack_chunked hs ∙ ap (map joined) (sym e)) (get_or-map joined qs k [] 0 h)

-- one turn of the loop that writes the slots
pub slots_more : (base s p q : List ℕ) (k v : ℕ) → p ≡ unwords (paste base 8 s k) → q ≡ put p (8 + k) v → v ≡ get_or s k 0 → k < length s
    → 8 + length s ≤ length base → q ≡ unwords (paste base 8 s (k + 1))
slots_more base s p q k v i e f lt le =
    let n = length-paste base 8 s k (omega arith) (omega arith) in
    e ∙ (ap₂ (λ x y. put x (8 + k) y) i f ∙ (put_unwords (paste base 8 s k) (8 + k) (get_or s k 0) (omega arith)
    ∙ ap unwords (paste_more base 8 s k 0 (omega arith) lt)))

pub slots_all : (id : ℕ) (e : Entry) → length e.slots ≡ 64 → paste (head_words id e.meter) 8 (pack e.slots) 32 ≡ id ∷ 0 ∷ entry_body e
unfolding head_words entry_body
slots_all id e l =
    let n = length_pack e.slots in
    let a : take 32 (pack e.slots) ≡ pack e.slots = take_all 32 (pack e.slots) (omega arith) in
    ap (λ x. id ∷ 0 ∷ e.meter ∷ 0 ∷ 0 ∷ 0 ∷ 0 ∷ 0 ∷ (x ++ replicate 88 0)) a

pub pack_fits : (hs : List ℕ) → AllByRecursion (λ a. a < 2 ^ 16) hs → Fit (pack hs)
pack_fits [] h = tt
pack_fits (a ∷ []) h = tt
pack_fits (a ∷ b ∷ hs) h = let ha = h.0 in let hb = h.1.0 in (omega arith, pack_fits hs h.1.1)

pub entry_body_fits : (e : Entry) → e.meter < 2 ^ 32 → Fit (pack e.slots) → Fit (entry_body e)
unfolding entry_body
entry_body_fits e hm hs =
    let z : 0 < 2 ^ 32 = omega arith in
    (hm, (z, (z, (z, (z, (z, All-append (λ w. w < 2 ^ 32) (pack e.slots) (replicate 88 0) hs (all_zeros 88)))))))

-- ---- reading

-- the number that two bytes write, as `from_be_bytes` has it
abbrev pub two : List ℕ → ℕ
two q = get_or q 0 0 * 256 + get_or q 1 0

unpack_chunked : (q : List ℕ) → AllByRecursion (λ b. b < 256) q → length q % 4 ≡ 0 → unpack (words q) ≡ map two (first_chunks 2 (length q / 2) q)
unpack_chunked [] h e = refl
unpack_chunked (a ∷ []) h e = absurd (omega arith)
unpack_chunked (a ∷ b ∷ []) h e = absurd (omega arith)
unpack_chunked (a ∷ b ∷ c ∷ []) h e = absurd (omega arith)
unpack_chunked (a ∷ b ∷ c ∷ d ∷ q) h e =
    let ha = h.0 in
    let hb = h.1.0 in
    let hc = h.1.1.0 in
    let hd = h.1.1.1.0 in
    let n : length (a ∷ b ∷ c ∷ d ∷ q) / 2 ≡ suc (suc (length q / 2)) = omega arith in
    let x : be a b c d / 65536 ≡ a * 256 + b = omega arith in
    let y : be a b c d % 65536 ≡ c * 256 + d = omega arith in
    rw n (cc (unpack_chunked q h.1.1.1.1 (omega arith)))

-- the bytes of the slots
pub length_part : (p : List ℕ) → length p ≡ 512 → length (take 128 (drop 32 p)) ≡ 128
length_part p l = simp (length-take, length-drop) (omega arith)

-- the slots, read two bytes at a time
pub get_or_slots : (p : List ℕ) (qs : List (List ℕ)) (k : ℕ) → length p ≡ 512 → ((i : ℕ) → get_or p i 0 < 256)
    → qs ≡ first_chunks 2 (length (take 128 (drop 32 p)) / 2) (take 128 (drop 32 p)) → k < length qs
    → get_or (unpack (between 8 40 (words p))) k 0 ≡ two (get_or qs k [])
get_or_slots p qs k l bytes e h =
    let q = take 128 (drop 32 p) in
    let n = length_part p l in
    let all : AllByRecursion (λ b. b < 256) p = All-from_get_or (λ b. b < 256) p 0 (λ i _. bytes i) in
    let some : AllByRecursion (λ b. b < 256) q = All-take (λ b. b < 256) 128 (drop 32 p) (All-drop (λ b. b < 256) 32 p all) in
    let w : words q ≡ between 8 40 (words p) = words_take 32 (drop 32 p) ∙ ap (take 32) (words_drop 8 p) in
    let u : unpack (between 8 40 (words p)) ≡ map two qs = ap unpack (sym w) ∙ (unpack_chunked q some (omega arith) ∙ ap (map two) (sym e)) in
    rw u (get_or-map two qs k [] 0 h)

length_unpack : (ws : List ℕ) → length (unpack ws) ≡ 2 * length ws
length_unpack [] = refl
length_unpack (w ∷ ws) = omega (arith, length_unpack ws)

pub length_slots : (p : List ℕ) → length p ≡ 512 → length (unpack (between 8 40 (words p))) ≡ 64
length_slots p l =
    let n = length_words p in
    let m : length (between 8 40 (words p)) ≡ 32 = length-between (words p) 8 40 (omega arith) in omega (arith, length_unpack (between 8 40 (words p)))

-- ---- what is written is read back

unpack_pack : (hs : List ℕ) → length hs % 2 ≡ 0 → AllByRecursion (λ a. a < 2 ^ 16) hs → unpack (pack hs) ≡ hs
unpack_pack [] e h = refl
unpack_pack (a ∷ []) e h = absurd (omega arith)
unpack_pack (a ∷ b ∷ hs) e h =
    let ha = h.0 in
    let hb = h.1.0 in
    let x : (a * 65536 + b) / 65536 ≡ a = omega arith in
    let y : (a * 65536 + b) % 65536 ≡ b = omega arith in
    cc (unpack_pack hs (omega arith) h.1.1)

length_entry_body : (e : Entry) → length e.slots ≡ 64 → length (entry_body e) ≡ 126
unfolding entry_body
length_entry_body e l =
    let n = length_pack e.slots in
    simp length-append (omega arith)

-- what an entry's record holds in the places of the slots and of the unused words
body_slots : (id c : ℕ) (e : Entry) → length e.slots ≡ 64 → between 8 40 (id ∷ c ∷ entry_body e) ≡ pack e.slots
unfolding entry_body
body_slots id c e l = let n = length_pack e.slots in take_at (pack e.slots) (replicate 88 0) 32 (omega arith)

body_meter : (id c : ℕ) (e : Entry) → get_or (id ∷ c ∷ entry_body e) 2 0 ≡ e.meter
unfolding entry_body
body_meter id c e = refl

body_unused : (id c : ℕ) (e : Entry) → length e.slots ≡ 64
    → (zeros (between 3 8 (id ∷ c ∷ entry_body e)) && zeros (between 40 128 (id ∷ c ∷ entry_body e))) ≡ true
unfolding entry_body
body_unused id c e l =
    let n = length_pack e.slots in
    let d : drop 32 (pack e.slots ++ replicate 88 0) ≡ replicate 88 0 = drop_at (pack e.slots) (replicate 88 0) 32 (omega arith) in
    ap (λ x. zeros (take 88 x)) d

-- an entry's record is whole, is laid out as one, and holds the entry
record_of_entry : (start id : ℕ) (e : Entry) → start < 2 ^ 32 → id < 2 ^ 32 → FittingEntry e
    → (whole start id (entry_record start id e) ≡ true) × (entry_laid_out (entry_record start id e) ≡ true) × (entry_in (entry_record start id e) ≡ e)
unfolding entry_record
record_of_entry start id e hs hi f =
    let l = f.all in
    let fit = entry_body_fits e f.meter (pack_fits e.slots f.each) in
    let w = words_control start id (entry_body e) hs hi fit in
    let c = check start (id ∷ 0 ∷ entry_body e) in
    let s : unpack (between 8 40 (id ∷ c ∷ entry_body e)) ≡ e.slots = ap unpack (body_slots id c e l) ∙ unpack_pack e.slots (omega arith) f.each in
    let i : entry_in (control start id (entry_body e)) ≡ e = ap (λ ws. record { meter = get_or ws 2 0; slots = unpack (between 8 40 ws) }) w
    ∙ ap₂ (λ m s. record { meter = m; slots = s }) (body_meter id c e) s in
    (whole_control start id (entry_body e) hs hi fit (length_entry_body e l), ap (λ ws. zeros (between 3 8 ws) && zeros (between 40 128 ws)) w ∙ body_unused id c e l, i)

pub a_written_entry_is_read_back : AWrittenEntryIsReadBack
a_written_entry_is_read_back start id g e hs hi f =
    let r = record_of_entry start id e hs hi f in
    let i : Some (entry_in (entry_record start id e)) ≡ Some e = ap Some r.2 in
    let sound : addresses_sound g e ≡ true → sound_entry start id g (entry_record start id e) ≡ Some e = λ a. cond-true _ _ _ (and_from _ _ r.0 (and_from _ _ r.1 (ap (addresses_sound g) r.2 ∙ a))) ∙ i in
    (cond-true _ _ _ r.0 ∙ i, sound)

-- ---- what is sound is the record of what is read

-- words 2 to 7, and the rest
up_to_slots : (ws : List ℕ) → 8 ≤ length ws → zeros (between 3 8 ws) ≡ true → drop 2 ws ≡ get_or ws 2 0 ∷ 0 ∷ 0 ∷ 0 ∷ 0 ∷ 0 ∷ drop 8 ws
up_to_slots ws l h =
    let n : length (between 3 8 ws) ≡ 5 = length-between ws 3 8 l in
    let z : between 3 8 ws ≡ replicate 5 0 = zeros_are (between 3 8 ws) h ∙ ap (λ k. replicate k 0) n in
    drop_more ws 2 0 (omega arith) ∙ ap (λ x. get_or ws 2 0 ∷ x)
    (sym (take-append-drop 5 (drop 3 ws)) ∙ ap₂ (λ x y. x ++ y) z (drop-drop 5 3 ws))

-- words 8 to 39, and the rest
from_slots : (ws : List ℕ) → length ws ≡ 128 → zeros (between 40 128 ws) ≡ true → drop 8 ws ≡ between 8 40 ws ++ replicate 88 0
from_slots ws l h =
    sym (take-append-drop 32 (drop 8 ws)) ∙ ap (λ x. take 32 (drop 8 ws) ++ x) (drop-drop 32 8 ws ∙ zeros_to_end ws 40 l h)

pack_unpack : (ws : List ℕ) → pack (unpack ws) ≡ ws
pack_unpack [] = refl
pack_unpack (w ∷ ws) = let e : w / 65536 * 65536 + w % 65536 ≡ w = omega arith in cc (pack_unpack ws)

unpack_fits : (ws : List ℕ) → Fit ws → AllByRecursion (λ a. a < 2 ^ 16) (unpack ws)
unpack_fits [] h = tt
unpack_fits (w ∷ ws) h = let hw = h.0 in (omega arith, (omega arith, unpack_fits ws h.1))

-- words 2 to 127 of a record that is laid out as an entry
body_is : (p : List ℕ) → length p ≡ 512 → entry_laid_out p ≡ true → drop 2 (words p) ≡ entry_body (entry_in p)
unfolding entry_body
body_is p l o =
    let ws = words p in
    let n = length_words p in
    let b = and_parts (zeros (between 3 8 ws)) (zeros (between 40 128 ws)) o in
    let s : pack (unpack (between 8 40 ws)) ≡ between 8 40 ws = pack_unpack (between 8 40 ws) in
    up_to_slots ws (omega arith) b.0
    ∙ ap (λ r. get_or ws 2 0 ∷ 0 ∷ 0 ∷ 0 ∷ 0 ∷ 0 ∷ r) (from_slots ws (omega arith) b.1 ∙ ap (λ x. x ++ replicate 88 0) (sym s))

-- what a page holds in an entry's places fits them
read_fits : (p : List ℕ) → RecordBytes p → FittingEntry (entry_in p)
read_fits p h =
    let ws = words p in
    let l = h.0 in
    let n = length_words p in
    let fit = words_fit p h in
    let hb : Fit (between 8 40 ws) = All-take (λ w. w < 2 ^ 32) 32 (drop 8 ws) (All-drop (λ w. w < 2 ^ 32) 8 ws fit) in
    record { meter = All-get_or (λ w. w < 2 ^ 32) ws 2 0 (omega arith) fit; all = length_slots p l; each = unpack_fits (between 8 40 ws) hb }

pub a_sound_entry_is_the_record_of_what_is_read : ASoundEntryIsTheRecordOfWhatIsRead
unfolding entry_record
a_sound_entry_is_the_record_of_what_is_read start id g p e hs h s =
    let t = some_parts _ (entry_in p) e s in
    let a = and_parts (whole start id p) (entry_laid_out p && addresses_sound g (entry_in p)) t.0 in
    let b = and_parts (entry_laid_out p) (addresses_sound g (entry_in p)) a.1 in
    let q : p ≡ entry_record start id (entry_in p) = whole_is_control start id p h a.0 ∙ ap (control start id) (body_is p h.0 b.0) in
    (q ∙ ap (entry_record start id) t.1, subst FittingEntry t.1 (read_fits p h), subst (λ (x : Entry). addresses_sound g x ≡ true) t.1 b.1)
