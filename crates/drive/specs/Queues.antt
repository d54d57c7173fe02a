-- The outstanding writes that a queue in memory holds.
use Rattle.std.specs.Prelude.{List, map}
use Rattle.drive.specs.declared.queued.Queued.{Queued}
use Rattle.drive.specs.Meaning.{Write}

abbrev pub write_of : Queued → Write
write_of q = record { at = q.at; bytes = q.bytes }

-- the writes that wait, oldest first
abbrev pub line : List Queued → List Write
line qs = map write_of qs
