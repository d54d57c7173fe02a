-- What each kind of drive means.
use Rattle.std.specs.Prelude.{[]}
use Rattle.drive.specs.declared.card.Card.{Card}
use Rattle.drive.specs.declared.buffered.Buffered.{Buffered}
use Rattle.drive.specs.declared.cabinet.Steady.{Steady}
use Rattle.drive.specs.declared.lab.LabPace.{LabPace}
use Rattle.drive.specs.Backlogs.{held}
use Rattle.drive.specs.Meaning.{Meaning}
use Rattle.drive.specs.Disks.{disk}

-- nothing is ever outstanding on a card
abbrev pub of_card : Card → Meaning
of_card c = record { settled = disk c.surface; outstanding = []; wear = c.wear }

-- a drive whose writes wait, at any pace
abbrev pub of_buffered : {P O : Type 0} {pace : _} {kind : _} → Buffered P O pace kind → Meaning
of_buffered d = held d.backlog d.wear

abbrev pub of_cabinet : {O : Type 0} {pace : _} {kind : _} → Buffered Steady O pace kind → Meaning
of_cabinet c = of_buffered c

abbrev pub of_lab : {O : Type 0} {pace : _} {kind : _} → Buffered LabPace O pace kind → Meaning
of_lab l = of_buffered l
