-- How a request for a list ends where something is assumed of the inputs: the list is that of the combinations with which it is true.
use Rattle.std.specs.Prelude.{ℕ, ◌==◌, Bool, true, false, List, Option, None, length, map, string_bytes}
use Rattle.st_expression.specs.declared.expression.Expression.{Expression}
use Rattle.search_groups.specs.Groups.{Row}
use Rattle.search_groups.specs.Groups as groups
use Rattle.causes_query.specs.Causes.{Question}
use Rattle.causes_query.specs.Refusal.{refusal}
use Rattle.causes_one_scan.specs.Assuming.{assumed_causes_after, assumed_search_of, is_assumed_cause}
use Rattle.causes_one_scan.specs.Cursor.{first_number}
use Rattle.causes_one_scan.specs.GroupCursor.{causes_in}
use Rattle.text_causes.specs.CauseText.{cause_text, limited}
use Rattle.text_causes.specs.Parts.{part, part_looks}
use Rattle.text_causes.specs.TermText.{form_text}
use Rattle.text_causes.specs.declared.group_text.GroupSummary.{GroupSummary}
use Rattle.text_causes.specs.declared.summary.Summary.{Summary}
use Rattle.io_text.specs.Log.{WriteLog}
use Rattle.cli_arguments.specs.declared.request.GroupFormat.{GroupFormat}
use Rattle.cli_arguments.specs.declared.request.Grouping.{Grouping}
use Rattle.cli_arguments.specs.declared.request.ListRequest.{ListRequest}
use Rattle.cli_inputs.specs.declared.fault.ToolFault.{ToolFault}
use Rattle.cli_inputs.specs.Setting.{Given}
use Rattle.cli_inputs.specs.Reports.{HasCauseFault, Logs}
use Rattle.cli_questions.specs.declared.counting.ListCounts.TheVariants as counts
use Rattle.cli_questions.specs.Ending.{BreaksAsked, CountsAsked, Form, HasRequestFault, Lists}
use Rattle.cli_questions.specs.Forms.{form_on}
use Rattle.cli_assumed.specs.Assumed.{Assuming, AssumingFault}
use Rattle.cli_lists.specs.Lists.{CauseList, GroupList, list_refusal, ordered}

abbrev pub texts_of : ListRequest → List (List ℕ)
texts_of r = map string_bytes r.assumed.items

-- ---- a list of causes

-- the causes that are listed: those after a number, or from the first on, up to another where there is one
abbrev pub assumed_for : Option Expression → Option ℕ → Option ℕ → Option ℕ → Question → List ℕ
assumed_for assumed limit after upto q = limited limit (part upto (assumed_causes_after assumed after q))

abbrev pub assumed_text : Option Expression → Option ℕ → Option ℕ → Option ℕ → Question → List ℕ
assumed_text assumed limit after upto q = cause_text q.program q.listed (assumed_for assumed limit after upto q)

-- how many rows there are, and how many looks the search for them makes
abbrev pub assumed_summary : Option Expression → Option ℕ → Option ℕ → Option ℕ → Question → Summary
assumed_summary assumed limit after upto q = record {
  rows = length (assumed_for assumed limit after upto q);
  looks = part_looks upto (assumed_search_of assumed q (first_number after)) 0 limit (part upto (assumed_causes_after assumed after q));
}

-- The line of the counts tells how many expressions there are.
abbrev pub AssumedList : List (List ℕ) → Option ℕ → Option ℕ → Option ℕ → Form
AssumedList texts limit after upto = Assuming texts (λ assumed.
    Lists (list_refusal after upto) (assumed_text assumed limit after upto) (λ q. counts.AssumedCauses (assumed_summary assumed limit after upto q) (length texts)))

-- ---- in groups

-- the rows of all causes, or the first of them where there is a limit
abbrev pub assumed_rows_for : Option Expression → Option ℕ → Question → List Row
assumed_rows_for assumed limit q = limited limit (groups.rows (is_assumed_cause assumed q) (length q.listed) 0)

abbrev pub assumed_groups_text : Option Expression → GroupFormat → Option ℕ → Question → List ℕ
assumed_groups_text assumed form limit q = form_text (form_on form q.coil) q.program q.listed (assumed_rows_for assumed limit q)

-- how many rows there are, and how many causes they stand for
abbrev pub assumed_group_summary : Option Expression → Option ℕ → Question → GroupSummary
assumed_group_summary assumed limit q =
    record { rows = length (assumed_rows_for assumed limit q); causes = causes_in (assumed_rows_for assumed limit q) }

-- The order of the inputs is that of the list without what is assumed.
abbrev pub AssumedGroupList : List (List ℕ) → Option ℕ → Grouping → Form
AssumedGroupList texts limit how = Assuming texts (λ assumed.
    Lists (λ q. refusal q None) (λ q. assumed_groups_text assumed how.form limit (ordered how.order q))
    (λ q. counts.AssumedGroups (assumed_group_summary assumed limit (ordered how.order q)) (length texts)))

-- ---- how the requests end

-- The request assumes nothing.
abbrev pub assumes_nothing : ListRequest → Bool
assumes_nothing r = length r.assumed.items == 0

abbrev pub CausesBy : (nothing : Bool) → ListRequest → Option ℕ → Option ℕ → Form
CausesBy true r after upto = CauseList r.limit after upto
CausesBy false r after upto = AssumedList (texts_of r) r.limit after upto

abbrev pub CausesRefusal : (nothing : Bool) → ListRequest → Option ℕ → Option ℕ → Question → ToolFault → Type 0
CausesRefusal true r after upto q = HasCauseFault (list_refusal after upto q)
CausesRefusal false r after upto q = AssumingFault (texts_of r) (λ q. HasCauseFault (list_refusal after upto q)) q

abbrev pub CountsCauses : Given → ListRequest → Option ℕ → Option ℕ → WriteLog → WriteLog → (List ℕ → Type 0) → Type 0
CountsCauses g r after upto = CountsAsked (CausesBy (assumes_nothing r) r after upto) g r

abbrev pub BreaksCauses : Given → ListRequest → Option ℕ → Option ℕ → Logs → Logs → Type 0
BreaksCauses g r after upto = BreaksAsked (CausesBy (assumes_nothing r) r after upto) g r

abbrev pub HasCausesFault : Given → ListRequest → Option ℕ → Option ℕ → ToolFault → Type 0
HasCausesFault g r after upto = HasRequestFault (CausesRefusal (assumes_nothing r) r after upto) g r

abbrev pub GroupsBy : (nothing : Bool) → ListRequest → Grouping → Form
GroupsBy true r how = GroupList r.limit how
GroupsBy false r how = AssumedGroupList (texts_of r) r.limit how

abbrev pub CountsAllGroups : Given → ListRequest → Grouping → WriteLog → WriteLog → (List ℕ → Type 0) → Type 0
CountsAllGroups g r how = CountsAsked (GroupsBy (assumes_nothing r) r how) g r

abbrev pub BreaksAllGroups : Given → ListRequest → Grouping → Logs → Logs → Type 0
BreaksAllGroups g r how = BreaksAsked (GroupsBy (assumes_nothing r) r how) g r

-- Groups begin with the first cause, and end with the last.
abbrev pub HasGroupsFault : Given → ListRequest → ToolFault → Type 0
HasGroupsFault g r = HasCausesFault g r None None
