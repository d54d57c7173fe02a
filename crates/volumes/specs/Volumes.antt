-- A volume as the plans speak of it.
use Rattle.std.specs.Prelude.{ℕ, Some, None, Option}
use Rattle.drive.specs.Meaning.{Meaning}
use Rattle.model.specs.Calls as model
use Rattle.model.specs.Outcomes.{Reply, section, Rules}
use Rattle.volumes.specs.declared.volume.Volume.{Volume}

-- what the drive means, and what is kept in memory
abbrev pub volume_of : {D : Type 0} → (D → Meaning) → Volume D → model.Volume
volume_of meaning v = record { drive = meaning v.drive; memory = v.memory }

-- a kind of drive, by its depth and its life
abbrev pub rules : ℕ → ℕ → Rules
rules d l = record { depth = d; life = l }

-- the section that was posted, or else a reply
abbrev pub section_or : Reply → Option ℕ → Reply
section_or r None = r
section_or r (Some k) = section k
