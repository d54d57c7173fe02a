-- The plan of a salvage, by what it finds.
use Rattle.std.proofs.Common.{◌≡◌, ℕ, ◌+◌, true, List, [], Some, None, Option, sym, ap, ◌∙◌}
use Rattle.std.proofs.lemmas.Bool.{cond-true}
use Rattle.drive.specs.Meaning.{Meaning, size, shown}
use Rattle.record.specs.declared.label.Label.{Label}
use Rattle.record.specs.Regions.{page_region}
use Rattle.model.specs.Memory.{Memory}
use Rattle.model.specs.Outcomes.{Rules, post, section}
use Rattle.model.specs.Shown.{label_in_state}
use Rattle.model.specs.Mending.{Unmended, first_unmended, mended_section, first_inexact, is_salvage, end_or_section, map_or_entry, salvaging}
use Rattle.mending.specs.Sought.{unmended_in, inexact_in}
use Rattle.mending.proofs.InexactLaws.{exact}

module _ (m : Meaning) (l : Label) (sized : l.records ≡ size m) (begun' : true ≡ is_salvage (label_in_state (size m) (shown m 0))) where
  -- what the entries are found to be
  entries_first : (q : Option Unmended) → q ≡ unmended_in l (shown m) → (g : Rules) (v : Memory) → salvaging g m v l ≡ map_or_entry g m v l q
  entries_first q is g v =
      cond-true (is_salvage (label_in_state (size m) (shown m 0))) _ _ (sym begun')
      ∙ ap (map_or_entry g m v l) ((λ j. first_unmended l.id (page_region l.entries (sym sized j)) (shown m) [] 0 l.entries) ∙ sym is)

  -- what the sections are found to be
  sections_next : (q : Option ℕ) → None ≡ unmended_in l (shown m) → q ≡ inexact_in l (shown m)
      → (g : Rules) (v : Memory) → salvaging g m v l ≡ end_or_section g m v l q
  sections_next q none is g v =
      entries_first None none g v
      ∙ ap (end_or_section g m v l) ((λ j. first_inexact l.id l.entries (sym sized j) (shown m) 0 3) ∙ sym is)

  pub next_section : (k j : ℕ) (bytes : List ℕ) → j ≡ k → None ≡ unmended_in l (shown m) → Some k ≡ inexact_in l (shown m)
      → bytes ≡ exact l (shown m) k
      → (g : Rules) (v : Memory) → salvaging g m v l ≡ post g m (section k) v (record { at = 1 + j; bytes = bytes })
  next_section k j bytes at' none found is g v =
      let bytes_are : mended_section l.id l.entries (size m) (shown m) k ≡ bytes = (λ i. mended_section l.id l.entries (sym sized i) (shown m) k) ∙ sym is in
      sections_next (Some k) none found g v ∙ (λ i. post g m (section k) v (record { at = 1 + sym at' i; bytes = bytes_are i }))
