-- The memory as the plans speak of it.
use Rattle.memory.specs.declared.state.Memory.TheInside.{Inside}
use Rattle.model.specs.Memory as model
use Rattle.std.specs.Prelude.{◌≡◌, ℕ, Bool, List, Ok, Err, Result}
use Rattle.drive.specs.Faults.{Refusal}
use Rattle.record.specs.declared.label.Label.{Label}
use Rattle.record.specs.declared.label.LabelState.{LabelState}
use Rattle.model.specs.declared.memory.Phase.{Phase}
use Rattle.model.specs.declared.memory.Phase.TheVariants.{Shut, Open, Closing}
use Rattle.model.specs.Plans.{is_shut, is_open, is_closing}
use Rattle.model.specs.Outcomes.{Reply, Outcome, refuse, keep}

-- what the fields stand for
abbrev pub kept : Inside → model.Memory
kept v =
    record {
      phase = v.phase;
      chart = v.chart;
      counts = v.counts;
      service = v.service.items;
      unsettled = v.unsettled.items;
      tickets = v.tickets;
      files = v.files;
      id = v.id;
      entries = v.entries;
      trouble = v.trouble;
    }

-- what a call that posts nothing came to, by its answer and the memory it left
abbrev pub came_to : Result Reply Refusal → model.Memory → Outcome
came_to (Ok r) u = keep r u
came_to (Err f) u = refuse f

-- a refusal leaves the memory as it was
abbrev pub UnlessAcceptedSame : {X E : Type 0} → Result X E → model.Memory → model.Memory → Type 0
UnlessAcceptedSame (Ok x) v u = Unit {0}
UnlessAcceptedSame (Err e) v u = u ≡ v

-- the label of the opened volume of t records, in some state
abbrev pub label_kept : model.Memory → ℕ → LabelState → Label
label_kept v t s = record { id = v.id; records = t; entries = v.entries; state = s; trouble = v.trouble }

-- the memory of a volume that is open under this label, with these counts of free addresses
abbrev pub opened_as : model.Memory → Label → List ℕ → model.Memory
opened_as v l counts =
    record {
      phase = Open;
      chart = v.chart;
      counts = counts;
      service = v.service;
      unsettled = v.unsettled;
      tickets = v.tickets;
      files = v.files;
      id = l.id;
      entries = l.entries;
      trouble = l.trouble;
    }

-- the phase is the one that is wanted
abbrev pub is_phase : Phase → Phase → Bool
is_phase Shut p = is_shut p
is_phase Open p = is_open p
is_phase Closing p = is_closing p
