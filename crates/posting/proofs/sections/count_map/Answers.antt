use Rattle.std.proofs.Common.{◌≡◌, ℕ, [], ◌∷◌, refl, rules}
use borrow.Author.Tests.{tests}
use Rattle.model.specs.Shown.{bits_shown}
use Rattle.record.specs.Sections.{free_count}
use Rattle.model.proofs.Mapped.{mapped_by}
use Rattle.posting.proofs.sections.count_map.Goals as goal

pub returns : goal.returns
returns g c =
    let r = c.args.records.now in
    let h : ℕ → ℕ = λ k. free_count (bits_shown (g.D.Drive.meaning r.drive.now) r.label.id r.label.entries k) in
    mapped_by _ (λ f. f.0 ≡ c.args.records) h (0 ∷ 1 ∷ 2 ∷ []) _ (λ p q x y s e. search (rules, tests, s, e)) _ 0 3 refl refl c.map.ensures.items
