-- A salvage once its first two questions are answered.
use Rattle.std.specs.Prelude.{ℕ, List, Ok, Err, Result, ◌==◌}
use Rattle.drive.specs.declared.fault.Fault.{Fault}
use Rattle.drive.specs.Faults.{told}
use Rattle.drive.specs.Meaning.{Meaning, size, owed}
use Rattle.model.specs.declared.answers.Salvaged.{Salvaged}
use Rattle.model.specs.Memory.{Memory}
use Rattle.model.specs.Mending.{salvaging}
use Rattle.model.specs.Outcomes.{Outcome, Rules, refuse, ask, need, post}
use Rattle.model.specs.Replies.{salvaged_reply}
use Rattle.model.specs.Shown.{label_shown}

-- the rest of its plan, with a tally of c bytes
abbrev pub salvage_from : Rules → ℕ → Meaning → Memory → Outcome
salvage_from g c m v = need 3 (label_shown m) (λ l. ask 5 (c == size m) (ask 15 (owed m == 0) (salvaging g m v l)))

-- a write was found, with its answer and its address, or a question was answered no
abbrev pub next_or_refused : Rules → Meaning → Memory → Result (Salvaged × ℕ) Fault → List ℕ → Outcome
next_or_refused g m v (Ok w) bytes = post g m (salvaged_reply w.0) v (record { at = w.1; bytes = bytes })
next_or_refused g m v (Err f) bytes = refuse (told f)
