use Rattle.std.proofs.Common.{◌≡◌, ℕ, [], ◌∷◌, refl, rules}
use borrow.Author.Tests.{tests}
use Rattle.model.proofs.Mapped.{mapped_by}
use Rattle.surveys.specs.declared.survey.SectionFigures.{SectionFigures}
use Rattle.surveys.specs.Surveys.{figures_of}
use Rattle.surveys.proofs.survey.survey_of.Goals as goal

pub returns : goal.returns
returns g c =
    let r = c.args.records.now in
    let h : ℕ → SectionFigures = figures_of (g.D.Drive.meaning r.drive.now) r.label in
    let sections = mapped_by _ (λ f. f.0 ≡ c.args.records) h (0 ∷ 1 ∷ 2 ∷ []) _ (λ p q x y s e. search (rules, tests, s, e)) _ 0 3 refl refl c.map-sections.ensures.items in
    let n = c.count_entries-counts.ensures in
    (λ i. record { label = r.label; sections = sections i; free_entries = n.free i; sound_entries = n.sound i; named_pages = n.named i })
