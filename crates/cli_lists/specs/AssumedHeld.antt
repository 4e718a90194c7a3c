-- How a request for a list over several scans ends where something is assumed of the inputs: the list is that of the combinations with which it is true.
use Rattle.std.specs.Prelude.{ℕ, Bool, true, false, List, Option, length}
use Rattle.st_expression.specs.declared.expression.Expression.{Expression}
use Rattle.search_groups.specs.Classes.{numbers_in}
use Rattle.search_groups.specs.declared.class_walk.ClassGroup.{ClassGroup}
use Rattle.causes_query.specs.Causes.{Question}
use Rattle.scan_held.specs.HeldRefusal.{held_refusal}
use Rattle.scan_held.specs.declared.scans.HeldCause.{HeldCause}
use Rattle.scan_held.specs.declared.scans.Scans.{Scans}
use Rattle.causes_held.specs.Assuming.{assumed_held_causes, assumed_held_groups}
use Rattle.causes_held.specs.GroupRefusal.{held_group_refusal}
use Rattle.text_causes.specs.CauseText.{limited}
use Rattle.text_causes.specs.declared.group_text.GroupSummary.{GroupSummary}
use Rattle.text_lists.specs.ClassText.{held_group_text}
use Rattle.text_lists.specs.HeldText.{held_text}
use Rattle.io_text.specs.Log.{WriteLog}
use Rattle.cli_arguments.specs.declared.request.ListRequest.{ListRequest}
use Rattle.cli_inputs.specs.declared.fault.ToolFault.{ToolFault}
use Rattle.cli_inputs.specs.Setting.{Given}
use Rattle.cli_inputs.specs.Reports.{Logs}
use Rattle.cli_questions.specs.declared.counting.ListCounts.TheVariants as counts
use Rattle.cli_questions.specs.Ending.{BreaksAsked, CountsAsked, Form, HasRequestFault, Lists}
use Rattle.cli_assumed.specs.Assumed.{Assuming, AssumingFault}
use Rattle.cli_lists.specs.Assumed.{assumes_nothing, texts_of}
use Rattle.cli_lists.specs.Lists.{HeldBy, IsFirstFault, held_refusal_by}

-- ---- a row for each cause

-- the causes that are listed
abbrev pub assumed_held_for : Option Expression → Option ℕ → Scans → Question → List HeldCause
assumed_held_for assumed limit s q = limited limit (assumed_held_causes assumed q s)

abbrev pub assumed_held_text : Option Expression → Option ℕ → Scans → Question → List ℕ
assumed_held_text assumed limit s q = held_text q.program q.listed (assumed_held_for assumed limit s q)

-- ---- in groups

abbrev pub assumed_held_groups_for : Option Expression → Option ℕ → Scans → Question → List ClassGroup
assumed_held_groups_for assumed limit s q = limited limit (assumed_held_groups assumed q s)

abbrev pub assumed_held_groups_text : Option Expression → Option ℕ → Scans → Question → List ℕ
assumed_held_groups_text assumed limit s q = held_group_text q.program q.listed (assumed_held_groups_for assumed limit s q)

-- how many rows there are, and how many causes they stand for
abbrev pub assumed_held_summary : Option Expression → Option ℕ → Scans → Question → GroupSummary
assumed_held_summary assumed limit s q =
    record { rows = length (assumed_held_groups_for assumed limit s q); causes = numbers_in (length q.listed) (assumed_held_groups_for assumed limit s q) }

-- ---- both

-- in groups, or not; the line of the counts tells how many expressions there are
abbrev pub AssumedHeldBy : (grouped : Bool) → Option Expression → (expressions : ℕ) → Option ℕ → Scans → Form
AssumedHeldBy true assumed n limit s =
    Lists (λ q. held_group_refusal q s) (assumed_held_groups_text assumed limit s) (λ q. counts.AssumedGroups (assumed_held_summary assumed limit s q) n)
AssumedHeldBy false assumed n limit s =
    Lists (λ q. held_refusal q s) (assumed_held_text assumed limit s) (λ q. counts.AssumedRows (length (assumed_held_for assumed limit s q)) n)

abbrev pub HeldAssuming : (grouped : Bool) → List (List ℕ) → Option ℕ → Scans → Form
HeldAssuming grouped texts limit s = Assuming texts (λ assumed. AssumedHeldBy grouped assumed (length texts) limit s)

-- ---- how the requests end

abbrev pub AllHeldBy : (nothing grouped : Bool) → ListRequest → Scans → Form
AllHeldBy true grouped r s = HeldBy grouped r.limit s
AllHeldBy false grouped r s = HeldAssuming grouped (texts_of r) r.limit s

abbrev pub AllHeldRefusal : (nothing grouped : Bool) → ListRequest → Scans → Question → ToolFault → Type 0
AllHeldRefusal true grouped r s q = IsFirstFault (held_refusal_by grouped s q)
AllHeldRefusal false grouped r s q = AssumingFault (texts_of r) (λ q. IsFirstFault (held_refusal_by grouped s q)) q

abbrev pub CountsAllHeld : (grouped : Bool) → Given → ListRequest → Scans → WriteLog → WriteLog → (List ℕ → Type 0) → Type 0
CountsAllHeld grouped g r s = CountsAsked (AllHeldBy (assumes_nothing r) grouped r s) g r

abbrev pub BreaksAllHeld : (grouped : Bool) → Given → ListRequest → Scans → Logs → Logs → Type 0
BreaksAllHeld grouped g r s = BreaksAsked (AllHeldBy (assumes_nothing r) grouped r s) g r

abbrev pub HasAllHeldFault : (grouped : Bool) → Given → ListRequest → Scans → ToolFault → Type 0
HasAllHeldFault grouped g r s = HasRequestFault (AllHeldRefusal (assumes_nothing r) grouped r s) g r
