-- The walk over the sections of the map.
use Rattle.std.proofs.Common.{◌≡◌, ℕ, ◌+◌, ◌-◌, ◌<◌, Bool, true, false, List, Some, Option, sym, ap, ◌∙◌}
use Rattle.std.proofs.lemmas.Bool.{cond-true, cond-false}
use Rattle.record.specs.declared.label.Label.{Label}
use Rattle.record.specs.Words.{same}
use Rattle.record.specs.Regions.{map_span, first_of}
use Rattle.record.specs.Sections.{bits_of}
use Rattle.model.specs.Volume.{section_at, section_bytes}
use Rattle.model.specs.Shown.{bytes_in}
use Rattle.model.specs.Mending.{shows, States, mended_section, first_inexact}
use Rattle.mending.specs.Leftovers.{left_over_bits}
use Rattle.mending.specs.Sought.{pages_of, named_in, inexact_in}
use Rattle.mending.specs.Tallies.{Tallies}
use Rattle.mending.proofs.TallyLaws.{kept_when}
use Rattle.mending.proofs.UnmendedLaws.{one_more}

module _ (l : Label) (s : States) where
  -- section k as it has to be
  abbrev pub exact : ℕ → List ℕ
  exact k = mended_section l.id l.entries l.records s k

  -- a section with exactly those free that are left over, where the tally has what the entries name
  pub section_exact : (tally : List ℕ) (k : ℕ) (bytes : List ℕ) → Tallies (pages_of l) tally (named_in l s)
      → bytes ≡ section_bytes l.id l.entries l.records k (left_over_bits (map_span k l.entries l.records) tally) → bytes ≡ exact k
  section_exact tally k bytes T is =
      is ∙ (λ j. section_bytes l.id l.entries l.records k (bits_of (λ r. kept_when (pages_of l) tally (named_in l s) (first_of k + r) T j)))

  -- what is told of section k by the bytes that its record, at 1 + j, shows
  pub section_told : (k j : ℕ) (r : Bool) (page bytes : List ℕ) → j ≡ k → bytes_in (s (1 + j)) ≡ page → bytes ≡ exact k → r ≡ same page bytes
      → r ≡ shows (s (section_at k)) (exact k)
  section_told k j r page bytes is seen form r_is =
      let here : bytes_in (s (section_at k)) ≡ page = ap (λ n. bytes_in (s (1 + n))) (sym is) ∙ seen in
      r_is ∙ (λ i. same (sym here i) (form i))

  abbrev pub inexact_from : ℕ → ℕ → Option ℕ
  inexact_from k n = first_inexact l.id l.entries l.records s k n

  -- section k is exact
  pub inexact_more : (k : ℕ) → k < 3 → true ≡ shows (s (section_at k)) (exact k) → inexact_from k (3 - k) ≡ inexact_in l s → inexact_from (k + 1) (3 - (k + 1)) ≡ inexact_in l s
  inexact_more k low here is =
      sym (cond-true (shows (s (section_at k)) (exact k)) (inexact_from (k + 1) (3 - (k + 1))) (Some k) (sym here)) ∙ (sym (ap (inexact_from k) (one_more 3 k low)) ∙ is)

  -- section k is not
  pub inexact_found : (k : ℕ) → k < 3 → false ≡ shows (s (section_at k)) (exact k) → inexact_from k (3 - k) ≡ inexact_in l s → Some k ≡ inexact_in l s
  inexact_found k low here is =
      sym (cond-false (shows (s (section_at k)) (exact k)) (inexact_from (k + 1) (3 - (k + 1))) (Some k) (sym here)) ∙ (sym (ap (inexact_from k) (one_more 3 k low)) ∙ is)
