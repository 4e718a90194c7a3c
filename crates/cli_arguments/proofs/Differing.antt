-- Why the words of `diff` ask for nothing.
use Rattle.std.proofs.Common.{Bool, false, List, [], None, Option, codes, map, string_bytes, ℕ}
use Rattle.clap.specs.Words.{Row, Text}
use Rattle.cli_arguments.proofs.Faults.{given_at_all, lasts}
use Rattle.cli_arguments.specs.Asking.{HasDiffForm, HasEvery, HasFlag, HasForm, HasInputs, HasLasting, HasOption, HasOrder, IsTable, NamesNoRunSearch, NamesNoScan, NamesNoSearch}
use Rattle.cli_arguments.specs.Parts.{HasPrograms, IsOfOneScan, MayLast, NamesNoDiff, NamesNoDiffRuns, NamesNoVerdicts}
use Rattle.cli_arguments.specs.declared.comparing.Programs.{Programs}
use Rattle.cli_arguments.specs.declared.lasting.Lasting.{Lasting}
use Rattle.cli_arguments.specs.declared.request.DiffForm.{DiffForm}
use Rattle.cli_arguments.specs.declared.request.DiffForm.TheVariants as diff
use Rattle.cli_arguments.specs.declared.request.GroupFormat.TheVariants.{Table}
use Rattle.cli_arguments.specs.declared.request.InputOrder.TheVariants.{Given}

-- no differences are asked for in any form
abbrev pub HasNoDiffForm : List Row → Type 0
HasNoDiffForm rows = (f : DiffForm) → HasDiffForm rows f → ⊥

-- Groups are those of one scan, and a list of them has no part.
pub no_diff_groups : (rows : List Row) → HasFlag (codes "grouped") rows → (IsOfOneScan rows → ⊥) → HasNoDiffForm rows
no_diff_groups rows grouped none (diff.Rows after upto) h = h.0.0.0 grouped
no_diff_groups rows grouped none (diff.Progress after upto) h = h.0.0.0 grouped
no_diff_groups rows grouped none (diff.Held scans every) h = h.0.0 grouped
no_diff_groups rows grouped none (diff.Groups g) h = none (h.1.0, h.1.1, h.1.2, (h.3.0, (h.3.1, h.3.2)))

-- the form and the order of groups, without groups
pub no_diff_of_forms : (rows : List Row) → (HasFlag (codes "grouped") rows → ⊥) → (HasForm Table rows → HasOrder Given rows → ⊥) → HasNoDiffForm rows
no_diff_of_forms rows single forms (diff.Rows after upto) h = forms h.0.0.1 h.0.0.2
no_diff_of_forms rows single forms (diff.Progress after upto) h = forms h.0.0.1 h.0.0.2
no_diff_of_forms rows single forms (diff.Held scans every) h = forms h.0.1 h.0.2
no_diff_of_forms rows single forms (diff.Groups g) h = single h.0

-- one scan, or several
pub no_diff_of_lasting : (rows : List Row) → (HasFlag (codes "grouped") rows → ⊥) → ((o : Option Lasting) → MayLast o rows → ⊥) → HasNoDiffForm rows
no_diff_of_lasting rows single none (diff.Rows after upto) h = none None (h.0.1.0, h.0.1.1)
no_diff_of_lasting rows single none (diff.Progress after upto) h = none None (h.0.1.0, h.0.1.1)
no_diff_of_lasting rows single none (diff.Held scans every) h = let l = lasts rows scans every h.1 in none l.0 l.1
no_diff_of_lasting rows single none (diff.Groups g) h = single h.0

-- The period is asked for beside several scans alone.
pub no_held_diff_of_every : (rows : List Row) → IsTable rows → (l : Lasting) → HasLasting l rows → ((every : ℕ) → HasEvery every rows → ⊥) → HasNoDiffForm rows
no_held_diff_of_every rows table l some none (diff.Rows after upto) h = given_at_all rows l some h.0.1.0 h.0.1.1
no_held_diff_of_every rows table l some none (diff.Progress after upto) h = given_at_all rows l some h.0.1.0 h.0.1.1
no_held_diff_of_every rows table l some none (diff.Held scans every) h = none every h.2
no_held_diff_of_every rows table l some none (diff.Groups g) h = table.0 h.0

pub no_diff_of_inputs : (rows : List Row) → ((all : Bool) (names : List Text) → HasInputs rows all names → ⊥) → NamesNoDiff rows
no_diff_of_inputs rows none r h = none r.all_inputs (map string_bytes r.inputs.items) h.9

pub no_diff_of_programs : (rows : List Row) → ((p : Programs) → HasPrograms rows p → ⊥) → NamesNoDiff rows
no_diff_of_programs rows none r h = none (record { old = r.old; new = r.new; state = r.state; new_state = r.new_state }) (h.6, h.7, h.0, h.1)

pub no_diff_without_coil : (rows : List Row) → HasOption (codes "coil") rows None → NamesNoDiff rows
no_diff_without_coil rows coil r h = let given = h.8 in cc

pub no_diff_with_search : (rows : List Row) → (NamesNoSearch rows → ⊥) → NamesNoDiff rows
no_diff_with_search rows search r h = search h.12

pub no_verdicts_with_coil : (rows : List Row) → (HasOption (codes "coil") rows None → ⊥) → NamesNoVerdicts rows
no_verdicts_with_coil rows coil r h = coil h.0

-- ---- all names

pub not_all_of_forms : (rows : List Row) → (HasForm Table rows → HasOrder Given rows → ⊥) → HasInputs rows false [] → NamesNoScan rows → ⊥
not_all_of_forms rows forms inputs scan = forms scan.6.1 scan.6.2

pub no_verdicts_of_names : (rows : List Row) → (HasInputs rows false [] → NamesNoScan rows → ⊥) → NamesNoVerdicts rows
no_verdicts_of_names rows none r h = none h.1 h.2

pub no_verdicts_of_runs : (rows : List Row) → (NamesNoRunSearch rows → ⊥) → NamesNoVerdicts rows
no_verdicts_of_runs rows search r h = search h.3

pub no_verdicts_with_runs : (rows : List Row) → HasFlag (codes "runs") rows → NamesNoVerdicts rows
no_verdicts_with_runs rows runs r h = h.3.0 runs

pub no_diff_runs_with_coil : (rows : List Row) → (HasOption (codes "coil") rows None → ⊥) → NamesNoDiffRuns rows
no_diff_runs_with_coil rows coil r h = coil h.0

pub no_diff_runs_of_names : (rows : List Row) → (HasInputs rows false [] → NamesNoScan rows → ⊥) → NamesNoDiffRuns rows
no_diff_runs_of_names rows none r h = none h.1 h.2

pub no_diff_runs_without : (rows : List Row) → (HasFlag (codes "runs") rows → ⊥) → NamesNoDiffRuns rows
no_diff_runs_without rows runs r h = runs h.3
