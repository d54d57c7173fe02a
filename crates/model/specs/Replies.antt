-- Each case of each answer, as the reply that a plan gives. Refusals are told by the drives' definition of faults.
use Rattle.std.specs.Prelude.{ℕ}
use Rattle.model.specs.declared.answers.Withdrawn.{Withdrawn}
use Rattle.model.specs.declared.answers.Withdrawn.TheVariants as withdrawn
use Rattle.model.specs.declared.answers.Balanced.{Balanced}
use Rattle.model.specs.declared.answers.Balanced.TheVariants as balanced
use Rattle.model.specs.declared.answers.Drained.{Drained}
use Rattle.model.specs.declared.answers.Drained.TheVariants as drained
use Rattle.model.specs.declared.answers.Salvaged.{Salvaged}
use Rattle.model.specs.declared.answers.Salvaged.TheVariants as salvaged
use Rattle.model.specs.Outcomes.{Reply, done, granted, wait, full, busy, quiet, dry, section, entry, begun, ended}

-- a call that answers nothing but that it is done
abbrev pub done_reply : Unit {0} → Reply
done_reply x = done

-- where a grant tells its ticket and its address
abbrev pub withdrawn_reply : {G : Type 0} → (G → ℕ) → (G → ℕ) → Withdrawn G → Reply
withdrawn_reply ticket address (withdrawn.Granted g) = granted (ticket g) (address g)
withdrawn_reply ticket address withdrawn.Wait = wait
withdrawn_reply ticket address withdrawn.Full = full

abbrev pub balanced_reply : Balanced → Reply
balanced_reply (balanced.Section k) = section k
balanced_reply balanced.Busy = busy
balanced_reply balanced.Quiet = quiet

abbrev pub drained_reply : Drained → Reply
drained_reply (drained.Section k) = section k
drained_reply drained.Dry = dry

abbrev pub salvaged_reply : Salvaged → Reply
salvaged_reply salvaged.Begun = begun
salvaged_reply (salvaged.Entry i) = entry i
salvaged_reply (salvaged.Section k) = section k
salvaged_reply salvaged.Ended = ended
