-- The worked runs, computed on the plans.
use Rattle.std.proofs.Common.{◌≡◌, ℕ, zero, suc, ◌<◌, List, [], ◌∷◌, ◌++◌, drop, replicate, sym, refl, ◌∙◌, inl, arith}
use Rattle.std.specs.List.{AllByRecursion}
use Rattle.drive.specs.Meaning.{spoiled, settled_at}
use Rattle.record.specs.declared.label.LabelState.TheVariants.{Closed, InUse}
use Rattle.record.specs.Control.{control}
use Rattle.record.specs.Regions.{map_span}
use Rattle.record.specs.Sections.{all_free, free_count, bits_of, section_body, section_record, all_pass}
use Rattle.record.specs.Labels.{label_body, label_record}
use Rattle.record.specs.Entries.{entry_body, entry_record}
use Rattle.model.specs.New.{new_volume}
use Rattle.model.specs.Stock.{free_from}
use Rattle.model.specs.Outcomes.{ask, need, need_of, if_accepted}
use Rattle.model.specs.Plans.{open_plan, create_plan, update_plan, place_plan, withdraw_plan, balance_plan}
use Rattle.model.specs.Mending.{salvage_plan}
use Rattle.model.specs.Calls.{plan}
use Rattle.model.specs.Histories.{cut, attach, Reached, Placed}
use Rattle.model.specs.Promises.{Names, Free}
use Rattle.model.specs.Runs.{cabinet, Act, power_cut, as_settled, fresh, only_slot_0, run, told, after_act, told_of_act, history, first_page, up_to_place, up_to_cut, up_to_salvaged, up_to_named, FittingRun, TheFirstBalanceTakes16, TheOnlyPageIsGrantedOnce, ADoublyHeldPageIsKeptByTheLowerEntry, TheWorkedRunComesOut, TheWorkedRunIsAHistory, AllWorkedExamplesComeOut}
use Rattle.model.specs.Worked.{bare, TheWorkedValuesComeOut}
use Rattle.model.proofs.RunsLaws.{image, every_run_is_a_history}

pub the_worked_values_come_out : TheWorkedValuesComeOut
unfolding free_count bits_of section_body
the_worked_values_come_out =
    record {
      check_of_word_0 = refl;
      check_of_word_127 = refl;
      section_0_covers = refl;
      section_0_counts = refl;
      section_0_frees = refl;
      section_1_covers = refl;
      section_1_counts = refl;
      taking_16_counts = refl;
      taking_16_leaves = refl;
      taking_16_leaves_next = refl;
      records_10 = refl;
      records_11 = refl;
      records_11904 = refl;
      records_11905 = refl;
    }

pub the_first_balance_takes_16 : TheFirstBalanceTakes16
unfolding run told after_act told_of_act plan open_plan balance_plan ask need if_accepted new_volume control free_count bits_of section_body section_record all_pass label_body label_record entry_body entry_record free_from
the_first_balance_takes_16 = record { says = refl; takes = refl; posts_at = refl; word_3 = refl; word_4 = refl; word_5 = refl }

pub the_only_page_is_granted_once : TheOnlyPageIsGrantedOnce
unfolding told after_act told_of_act plan open_plan balance_plan withdraw_plan ask need if_accepted new_volume control free_count bits_of section_body section_record all_pass label_body label_record entry_body entry_record free_from
the_only_page_is_granted_once = refl

pub a_doubly_held_page_is_kept_by_the_lower_entry : ADoublyHeldPageIsKeptByTheLowerEntry
unfolding run told after_act told_of_act plan salvage_plan ask need if_accepted control free_count bits_of section_body section_record all_pass label_body label_record entry_body entry_record
a_doubly_held_page_is_kept_by_the_lower_entry = record { says = refl; posts_at = refl; lower = refl; upper = refl }

pub the_worked_run_comes_out : TheWorkedRunComesOut
unfolding run told after_act told_of_act plan open_plan create_plan balance_plan withdraw_plan place_plan salvage_plan ask need need_of if_accepted new_volume control free_count bits_of section_body section_record all_pass label_body label_record entry_body entry_record free_from
the_worked_run_comes_out = record { says = refl; balance_takes = refl; place_posts = refl; place_shows = refl; cut_leaves = refl }

-- ---- the worked run as a history

bytes_fit : (n : ℕ) → AllByRecursion (λ b. b < 256) (replicate n 1)
bytes_fit zero = tt
bytes_fit (suc n) = (omega arith, bytes_fit n)

fits : (acts : List Act) → FittingRun acts → FittingRun (up_to_place ++ acts)
fits acts f = (tt, (omega arith, (tt, (tt, (tt, ((omega arith, bytes_fit 512), f))))))

cut_history : Reached cabinet (new_volume (bare 20) 1 2) (cut (as_settled (run up_to_place (fresh 20)).drive) ∷ history up_to_place (fresh 20) []) (attach (as_settled (run up_to_place (fresh 20)).drive))
unfolding run history after_act
cut_history = every_run_is_a_history (new_volume (bare 20) 1 2) up_to_cut (fits (power_cut ∷ []) tt)

placed : Placed (history up_to_place (fresh 20) []) 0 77 0 first_page
unfolding run history after_act plan open_plan create_plan balance_plan withdraw_plan place_plan ask need need_of if_accepted new_volume control free_count bits_of section_body section_record all_pass label_body label_record entry_body entry_record free_from
placed = inl (refl, (refl, refl, refl, refl))

spoiled_at_first : settled_at (fresh 20).drive 10 ≡ spoiled
unfolding new_volume
spoiled_at_first = refl

spoiled_still : settled_at (as_settled (run up_to_place (fresh 20)).drive) 10 ≡ spoiled
unfolding run after_act plan open_plan create_plan balance_plan withdraw_plan place_plan ask need need_of if_accepted new_volume control free_count bits_of section_body section_record all_pass label_body label_record entry_body entry_record free_from
spoiled_still = refl

named : Names (run up_to_named (fresh 20)).drive 0 77 0 10
unfolding run after_act plan open_plan create_plan balance_plan withdraw_plan place_plan update_plan ask need need_of if_accepted new_volume control free_count bits_of section_body section_record all_pass label_body label_record entry_body entry_record free_from
named =
    record {
      entry = only_slot_0 77 10;
      held =
          record {
            label = record { id = 1; records = 20; entries = 2; state = InUse; trouble = 0 };
            believed = refl;
            numbered = omega arith;
            sound = refl;
          };
      metered = refl;
      there = refl;
      some = λ e. omega arith;
    }

freed : Free (run up_to_salvaged (fresh 20)).drive 10
unfolding run after_act plan open_plan create_plan balance_plan withdraw_plan place_plan salvage_plan ask need need_of if_accepted new_volume control free_count bits_of section_body section_record all_pass label_body label_record entry_body entry_record free_from
freed =
    record {
      label = record { id = 1; records = 20; entries = 2; state = Closed; trouble = 0 };
      believed = refl;
      section = record { bits = all_free (map_span 0 2 20) };
      sound = refl;
      covered = omega arith;
      on = refl;
    }

pub the_worked_run_is_a_history : TheWorkedRunIsAHistory
the_worked_run_is_a_history =
    let new = new_volume (bare 20) 1 2 in
    record {
      to_place = every_run_is_a_history new up_to_place (fits [] tt);
      to_cut = cut_history;
      to_salvaged = every_run_is_a_history new up_to_salvaged (fits (drop 9 up_to_salvaged) (tt, (tt, (tt, tt))));
      to_named = every_run_is_a_history new up_to_named (fits (drop 9 up_to_named) (tt, tt));
      placed = placed;
      image = image (run up_to_place (fresh 20)).drive;
      old = spoiled_still ∙ sym spoiled_at_first;
      named = named;
      freed = freed;
    }

pub all_worked_examples_come_out : AllWorkedExamplesComeOut
all_worked_examples_come_out =
    record {
      values = the_worked_values_come_out;
      first_balance = the_first_balance_takes_16;
      only_page = the_only_page_is_granted_once;
      doubly_held_page = a_doubly_held_page_is_kept_by_the_lower_entry;
      whole_run = the_worked_run_comes_out;
    }
