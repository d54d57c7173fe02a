-- An image that a cut leaves opens unless a salvage has begun on it, and salvage run through mends it.
use Rattle.std.proofs.Common.{◌≡◌, ℕ, zero, suc, ◌+◌, ◌-◌, ◌<◌, ◌≤◌, Bool, true, false, not, ◌&&◌, eqb, List, [], get_or, Some, None, Option, sym, refl, ap, ◌∙◌, subst, inl, inr, arith}
use Rattle.std.proofs.lemmas.Bool.{cases_Bool, and_parts, and_from, not_from_false, true≢false}
use Rattle.drive.specs.Meaning.{readable, Write, Meaning, size, settled_at, shown, any_to}
use Rattle.record.specs.declared.label.Label.{Label}
use Rattle.record.specs.declared.label.LabelState.{LabelState}
use Rattle.record.specs.declared.label.LabelState.TheVariants.{Closed, InUse, Salvage}
use Rattle.record.specs.declared.entry.Entry.{Entry}
use Rattle.record.specs.Labels.{state_number}
use Rattle.record.specs.Regions.{in_limits, within, page_region, map_span, first_of}
use Rattle.record.specs.Sections.{bit, bits_of, sound_section}
use Rattle.record.specs.Entries.{among}
use Rattle.record.proofs.BitLaws.{bit_bits_of, bits_of_fit}
use Rattle.record.proofs.CountLaws.{every_free_bit_lies_in_the_region}
use Rattle.record.proofs.LabelLaws.{same_decides}
use Rattle.record.proofs.SectionLaws.{a_written_section_is_read_back}
use Rattle.model.specs.declared.memory.Phase.TheVariants.{Shut}
use Rattle.model.specs.Volume.{entry_at, section_at, label_at, copy_at}
use Rattle.model.specs.New.{new_volume}
use Rattle.model.specs.Memory.{attached}
use Rattle.model.specs.Outcomes.{done, ended, Rules, ask, post}
use Rattle.model.specs.Shown.{bytes_in, with_state, label_of, label_shown, section_in_state, entry_in_state}
use Rattle.model.specs.Stock.{cover}
use Rattle.model.specs.Plans.{is_shut, may_open, next_trouble, opened, label_write, open_plan}
use Rattle.model.specs.Mending.{States, slots_or_none, named_from, mended_section}
use Rattle.model.specs.Calls.{open', plan, Volume}
use Rattle.model.specs.Histories.{is_accepted}
use Rattle.model.specs.Promises.{label_left, Salvages, Mended, SalvageMends, OpensUnlessASalvageHasBegun}
use Rattle.model.specs.SalvageLaw.{SalvageMendsEveryImage}
use Rattle.model.proofs.Possible.{quiet_shown}
use Rattle.model.proofs.PollingLaws.{polling_ends_for_every_volume}
use Rattle.model.proofs.ReadBack.{label_is_record}
use Rattle.model.proofs.Ledger.{Ledger}
use Rattle.model.proofs.Parts.{Shape, InRegion, in_region, OnDrive}
use Rattle.model.proofs.SalvageCalls.{region_of}
use Rattle.model.proofs.ReachedLaws.{attached_good, cut_good, reached_good, shape, first_ledger, new_good, names_apart}
use Rattle.model.proofs.ControlForms.{OwnLabel, Formed, own_label}
use Rattle.model.proofs.ReachedForms.{cut_formed, reached_formed, new_forms}
use Rattle.model.proofs.MendingLaws.{misses_none, exact, among_at, among_append}
use Rattle.model.proofs.SalvageSteps.{ask_yes, ask_no, need_some, post_yes, label_known, Step, finishes}
use Rattle.model.proofs.SalvageRuns.{landed, landed_elsewhere, due_bound, Done, Running, next, done as salvage_done, alive, runs}

-- ---- what the entries name

slots_sound : (q : Option Entry) (x : ℕ) → among x (slots_or_none q) ≡ true → (y : Entry) × (q ≡ Some y) × (among x y.slots ≡ true)
slots_sound None x h = absurd (true≢false (sym h))
slots_sound (Some y) x h = (y, refl, h)

-- an address among those that the entries name stands in a slot of a sound entry
named_at : (id e t : ℕ) (s : States) (i n x : ℕ) → among x (named_from id e t s i n) ≡ true
    → (j : ℕ) × (j < i + n) × (y : Entry) × (entry_in_state id e t (s (entry_at j)) ≡ Some y) × (p : ℕ) × (get_or y.slots p 0 ≡ x)
named_at id e t s i zero x h = absurd (true≢false (sym h))
named_at id e t s i (suc n) x h =
    let ih = named_at id e t s (i + 1) n x in
    elim (among_append (slots_or_none (entry_in_state id e t (s (entry_at i)))) (named_from id e t s (i + 1) n) x h) [
      | inl k ↦
          let y = slots_sound (entry_in_state id e t (s (entry_at i))) x k in
          let p = among_at y.0.slots x y.2 in
          (i, omega arith, y.0, y.1, p.0, p.1)
      | inr k ↦
          let q = ih k in
          (q.0, (let z = q.1 in omega arith), q.2, q.3, q.4, q.5)
    ]

-- ---- what the sections show

opens_when : (s : LabelState) → may_open s ≡ not (eqb (state_number s) 2)
opens_when Closed = refl
opens_when InUse = refl
opens_when Salvage = refl

module _ (g : Shape) (s : States) (k : ℕ) where
  -- what section k has free once it is exact
  left_free : ℕ → Bool
  left_free r = within (region_of g) (first_of k + r) && not (among (first_of k + r) (named_from g.id g.entries g.records s 0 g.entries))

  mended_is_sound : k < 3 → section_in_state g.id g.entries g.records k (readable (mended_section g.id g.entries g.records s k)) ≡ Some (record { bits = bits_of left_free })
  unfolding left_free
  mended_is_sound low =
      a_written_section_is_read_back 0 g.id (map_span k g.entries g.records) (bits_of left_free) (omega arith) g.fits
      (record { first = omega arith; covered = omega arith }) (bits_of_fit left_free)
      ((every_free_bit_lies_in_the_region (map_span k g.entries g.records) (bits_of left_free)).1
      (λ r l on. (and_parts (within (region_of g) (first_of k + r)) _ (sym (bit_bits_of left_free r l) ∙ on)).0))

  exact_is_sound : k < 3 → exact g s k ≡ true → section_in_state g.id g.entries g.records k (s (section_at k)) ≡ Some (record { bits = bits_of left_free })
  exact_is_sound low h =
      ap (sound_section 0 g.id (map_span k g.entries g.records)) ((same_decides (bytes_in (s (section_at k))) (mended_section g.id g.entries g.records s k)).0 h)
      ∙ mended_is_sound low

  left_on : (x : ℕ) → cover x ≡ k → InRegion g x → within (region_of g) x ≡ true
      → among x (named_from g.id g.entries g.records s 0 g.entries) ≡ false → bit (bits_of left_free) (x - first_of k) ≡ true
  unfolding left_free
  left_on x at inside w un =
      let r = x - first_of k in
      let back : first_of k + r ≡ x = omega arith in
      let names = named_from g.id g.entries g.records s 0 g.entries in
      bit_bits_of left_free r (omega arith)
      ∙ subst (λ (y : ℕ). (within (region_of g) y && not (among y names)) ≡ true) (sym back) (and_from (within (region_of g) x) (not (among x names)) w (not_from_false (among x names) un))

-- ---- a label of an image

module _ (g : Shape) (lim : in_limits g.id g.entries g.records ≡ true) (o : Ledger) (n : Meaning) (D : OnDrive g o n) (F : Formed g n) (quiet : n.outstanding ≡ []) where
  settled_shown : (a : ℕ) → shown n a ≡ settled_at n a
  settled_shown a = quiet_shown n a (ap (λ (ws : List Write). any_to ws a) quiet)

  image_label : (l : Label) × (label_shown n ≡ Some l) × (label_left n ≡ Some l) × OwnLabel g l
  image_label =
      let L = label_known g lim n D.sized F in
      (L.0, L.1, (λ i. label_of (size n) (sym (settled_shown label_at) i) (sym (settled_shown copy_at) i)) ∙ L.1, own_label g o n D L.0 L.1)

  -- it opens exactly when the label's state is not 2
  opens_unless : (r : Rules) → 1 ≤ r.depth → n.wear < r.life → OpensUnlessASalvageHasBegun r n
  unfolding plan open_plan
  opens_unless r deep alive =
      let L = image_label in
      let l = L.0 in
      let w = label_write (with_state l InUse (next_trouble l.state l.trouble)) in
      let rest = post r n done (opened attached n l) w in
      let eq : plan r (open' 512) n attached ≡ ask 4 (may_open l.state) rest =
      ask_yes 1 (eqb 512 512) _ refl ∙ (ask_yes 2 (is_shut Shut) _ refl ∙ need_some 3 (label_shown n) l _ L.1) in
      let accepted = post_yes r n done (opened attached n l) w (label_is_record (with_state l InUse (next_trouble l.state l.trouble))).0 (omega (arith, D.sized)) deep quiet alive in (
        l,
        L.2,
        elim (cases_Bool (may_open l.state)) [
          | inl e ↦ ap is_accepted (eq ∙ (ask_yes 4 (may_open l.state) rest e ∙ accepted)) ∙ (sym e ∙ opens_when l.state)
          | inr e ↦ ap is_accepted (eq ∙ ask_no 4 (may_open l.state) rest e) ∙ (sym e ∙ opens_when l.state)
        ],
      )

-- ---- a finished run

module _ (r : Rules) (g : Shape) (lim : in_limits g.id g.entries g.records ≡ true) (deep : 1 ≤ r.depth) (n : Meaning) (life : n.wear + (g.entries + 5) ≤ r.life) where
  finished : (k : ℕ) (v u : Volume) → Running r g lim deep n k v → Salvages r ended v u → Mended g.entries n u.drive
  finished k v u R S =
      let E = salvage_done r g lim deep ended v u R.rest (alive r g lim deep n life k v R) S in
      mended_by E E.write refl E.step
    where
      mended_by : (E : Done r g ended v u) (w : Write) → E.write ≡ w → Step g E.label (shown v.drive) ended w → Mended g.entries n u.drive
      mended_by E w is (finishes b all sections) =
          let s = shown v.drive in
          let m = u.drive in
          let o = E.rest.good.0 in
          let D = E.rest.good.1.drive in
          let quiet = E.rest.quiet in
          let apart : (a : ℕ) → (label_at ≡ a → ⊥) → settled_at m a ≡ s a = λ a ne.
          sym (quiet_shown m a (ap (λ (ws : List Write). any_to ws a) quiet))
          ∙ (ap (λ (c : States). c a) E.states ∙ (ap (λ (x : Write). landed s x a) is ∙ landed_elsewhere s w a ne)) in
          let names = names_apart g o m D quiet in
          let L = image_label g lim o m D E.rest.formed.0 quiet in
          let l = L.0 in
          let own = L.3 in
          record {
            named_once = names.0;
            never_both = names.1;
            readable_entries_stay = λ e bs low i. apart (entry_at e) (λ z. omega arith) ∙ R.kept e bs low i;
            named_or_free = λ a w.
                let w' : within (region_of g) a ≡ true = subst (λ (t : ℕ). within (page_region g.entries t) a ≡ true) D.sized w in
                let inside = in_region g a w' in
                elim (cases_Bool (among a (named_from g.id g.entries g.records s 0 g.entries))) [
                  | inl h ↦
                      let q = named_at g.id g.entries g.records s 0 g.entries a h in
                      let e = q.0 in
                      let y = q.2 in
                      inl (
                        e,
                        y.meter,
                        q.4,
                        record {
                          entry = y;
                          held =
                              record {
                                label = l;
                                believed = L.2;
                                numbered = (let z = q.1 in omega (arith, own.entries));
                                sound =
                                    (λ i. entry_in_state (own.id i) (own.entries i) (D.sized i) (apart (entry_at e) (λ z. omega arith) i)) ∙ q.3;
                              };
                          metered = refl;
                          there = q.5;
                          some = λ z. omega arith;
                        },
                      )
                  | inr h ↦
                      let k = cover a in
                      let low : k < 3 = omega arith in
                      let ex : exact g s k ≡ true = misses_none (exact g s) 0 3 k sections (omega arith) (omega arith) in
                      inr (record {
                        label = l;
                        believed = L.2;
                        section = record { bits = bits_of (left_free g s k) };
                        sound =
                            (λ i. section_in_state (own.id i) (own.entries i) (D.sized i) k (apart (section_at k) (λ z. omega arith) i)) ∙ exact_is_sound g s k low ex;
                        covered = low;
                        on = left_on g s k a refl inside w' h;
                      })
                ];
          }

  pub image_mends : (o : Ledger) → OnDrive g o n → Formed g n → n.outstanding ≡ [] → SalvageMends r g.entries n
  image_mends o D F quiet =
      record {
        polling_ends = polling_ends_for_every_volume.1;
        goes_on = λ k v done_so_far.
            let R = runs r g lim deep n life o D F quiet k v done_so_far in
            let N = next r g lim deep v R.rest (alive r g lim deep n life k v R) in
            let b = (due_bound g (shown v.drive)).0 in
            (N.reply, v.memory, N.write, N.says, omega (arith, R.budget));
        mends = λ k v u done_so_far S. finished k v u (runs r g lim deep n life o D F quiet k v done_so_far) S;
      }

pub salvage_mends_every_image : SalvageMendsEveryImage
unfolding shape
salvage_mends_every_image r m id e deep wf fits lim h h' v d n reached mo im life =
    let g = shape m id e wf fits lim in
    let start = attached_good g (first_ledger m id e wf fits lim) (new_volume m id e) (new_good m id e wf fits lim) in
    let G = reached_good r g (new_volume m id e) start h v reached in
    let F = reached_formed r g (new_volume m id e) start (new_forms m id e wf fits lim) h v reached in
    let C = cut_good r g h h' v d n G mo im in
    let form = cut_formed r g h h' v d n G F mo im in
    (opens_unless g lim C.0 n C.1 form im.nothing_owed r deep (omega arith), image_mends r g lim deep n life C.0 C.1 form im.nothing_owed)
