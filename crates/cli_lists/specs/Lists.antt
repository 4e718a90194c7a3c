-- How a request for a list ends, in each form.
use Rattle.std.specs.Prelude.{◌≡◌, ◌⊎◌, ◌∷◌, ℕ, List, Bool, true, false, Option, None, Some, [], length, option_map, string_bytes}
use Rattle.std.specs.Option.{option_or}
use Rattle.causes_query.specs.declared.fault.CauseFault.{CauseFault}
use Rattle.causes_query.specs.declared.fault.CauseFault.TheVariants as cause
use Rattle.causes_query.specs.Causes.{Question, causes_after, is_cause}
use Rattle.causes_one_scan.specs.Cursor.{first_number}
use Rattle.causes_one_scan.specs.GroupCursor.{causes_in}
use Rattle.causes_one_scan.specs.Order.{in_order, sifted}
use Rattle.causes_one_scan.specs.Parts.{numbers_to}
use Rattle.causes_one_scan.specs.Prefixes.{search_of}
use Rattle.causes_query.specs.Refusal.{refusal}
use Rattle.causes_one_scan.specs.Relevant.{AreInputs, Decide}
use Rattle.search_groups.specs.Groups.{Row}
use Rattle.search_groups.specs.Groups as groups
use Rattle.scan_held.specs.HeldRefusal.{held_refusal}
use Rattle.scan_held.specs.Holding.{held_causes}
use Rattle.causes_held.specs.Cursor.{held_groups}
use Rattle.causes_held.specs.GroupRefusal.{held_group_refusal}
use Rattle.causes_held.specs.declared.fault.HeldGroupFault.{HeldGroupFault}
use Rattle.causes_held.specs.declared.fault.HeldGroupFault.TheVariants as held_group
use Rattle.search_groups.specs.Classes.{numbers_in}
use Rattle.search_groups.specs.declared.class_walk.ClassGroup.{ClassGroup}
use Rattle.text_lists.specs.ClassText.{held_group_text}
use Rattle.scan_held.specs.declared.fault.HeldFault.{HeldFault}
use Rattle.scan_held.specs.declared.fault.HeldFault.TheVariants as held
use Rattle.scan_held.specs.declared.scans.HeldCause.{HeldCause}
use Rattle.scan_held.specs.declared.scans.Scans.{Scans}
use Rattle.text_causes.specs.CauseText.{cause_text, limited}
use Rattle.text_lists.specs.HeldText.{held_text}
use Rattle.text_causes.specs.Parts.{part, part_looks}
use Rattle.text_causes.specs.Progress.{TellsAll, TellsUntil}
use Rattle.text_causes.specs.TermText.{form_text}
use Rattle.text_causes.specs.declared.progress.ProgressFault.TheVariants as progress
use Rattle.io_text.specs.Log.{PutsAll, PutsPrefix, WriteLog}
use Rattle.cli_inputs.specs.declared.fault.ToolFault.{ToolFault}
use Rattle.cli_inputs.specs.declared.fault.ToolFault.TheVariants as fault
use Rattle.cli_arguments.specs.declared.request.GroupFormat.{GroupFormat}
use Rattle.cli_arguments.specs.declared.request.Grouping.{Grouping}
use Rattle.cli_arguments.specs.declared.request.InputOrder.{InputOrder}
use Rattle.cli_arguments.specs.declared.request.InputOrder.TheVariants as order
use Rattle.cli_arguments.specs.declared.request.ListRequest.{ListRequest}
use Rattle.cli_questions.specs.declared.counting.ListCounts.{ListCounts}
use Rattle.cli_questions.specs.declared.counting.ListCounts.TheVariants as counts
use Rattle.cli_inputs.specs.Setting.{Given}
use Rattle.cli_inputs.specs.Reports.{HasCauseFault, IsReported, Logs}
use Rattle.cli_questions.specs.Forms.{form_on}
use Rattle.cli_questions.specs.Ending.{BreaksAsked, BreaksOff, CountsAsked, Ends, Form, HasAskedFault, HasRequestFault, IsAsked, IsOnCoil, Lists, ListsAsked, counts_line, unless_quiet}

-- ---- a list of causes

-- the causes that are listed: those after a number, or from the first on, up to another where there is one
abbrev pub causes_for : Option ℕ → Option ℕ → Option ℕ → Question → List ℕ
causes_for limit after upto q = limited limit (part upto (causes_after after q))

abbrev pub causes_text : Option ℕ → Option ℕ → Option ℕ → Question → List ℕ
causes_text limit after upto q = cause_text q.program q.listed (causes_for limit after upto q)

-- how many rows there are, and how many looks the search for them makes
abbrev pub cause_counts : Option ℕ → Option ℕ → Option ℕ → Question → ListCounts
cause_counts limit after upto q = counts.Causes (record {
  rows = length (causes_for limit after upto q);
  looks = part_looks upto (search_of q (first_number after)) 0 limit (part upto (causes_after after q));
})

-- The number to end at is one of an assignment, as the number to begin after is.
abbrev pub end_refusal : Option ℕ → Question → Option CauseFault
end_refusal None q = None
end_refusal (Some last) q = refusal q (Some last)

-- the first rule that is broken
abbrev pub list_refusal : Option ℕ → Option ℕ → Question → Option CauseFault
list_refusal after upto q = option_or (end_refusal upto q) (refusal q after)

abbrev pub CauseList : Option ℕ → Option ℕ → Option ℕ → Form
CauseList limit after upto = Lists (list_refusal after upto) (causes_text limit after upto) (cause_counts limit after upto)

abbrev pub CountsList : Given → ListRequest → Option ℕ → Option ℕ → WriteLog → WriteLog → (List ℕ → Type 0) → Type 0
CountsList g r after upto = CountsAsked (CauseList r.limit after upto) g r

abbrev pub BreaksList : Given → ListRequest → Option ℕ → Option ℕ → Logs → Logs → Type 0
BreaksList g r after upto = BreaksAsked (CauseList r.limit after upto) g r

abbrev pub HasListFault : Given → ListRequest → Option ℕ → Option ℕ → ToolFault → Type 0
HasListFault g r after upto = HasRequestFault (λ q. HasCauseFault (list_refusal after upto q)) g r

-- ---- a list that tells how far it is

abbrev pub progress_text : ListRequest → Option ℕ → Option ℕ → Question → List ℕ
progress_text r after upto q = causes_text r.limit after upto q

-- the text of those up to n
abbrev pub progress_text_to : ListRequest → Option ℕ → Option ℕ → Question → ℕ → List ℕ
progress_text_to r after upto q n = cause_text q.program q.listed (numbers_to n (causes_for r.limit after upto q))

-- The counts and the first rule that is broken are those of the same list that tells nothing.
abbrev pub progress_counts_text : ListRequest → Option ℕ → Option ℕ → Question → List ℕ
progress_counts_text r after upto q = unless_quiet r.quiet (counts_line (cause_counts r.limit after upto q))

-- So much was written of what is asked.
pub record ListsProgress (g : Given) (r : ListRequest) (after upto : Option ℕ) (Written : Question → Type 0) : Type 0 where
  pub question : Question
  pub asked : IsAsked g r question
  pub accepted : list_refusal after upto question ≡ None
  pub written : Written question

-- The rows are written, and on `err` the lines of some numbers, and then the counts.
abbrev pub CountsProgress : Given → ListRequest → Option ℕ → Option ℕ → Logs → Logs → Type 0
CountsProgress g r after upto old new = ListsProgress g r after upto (λ q. (told : WriteLog)
    × TellsAll (progress_text r after upto q) old.out new.out old.err told × PutsAll told new.err (progress_counts_text r after upto q))

-- Status 1: `out` failed at the rows, with all of them up to the last number that was told; or `err` at a line, when the rows up to its number
-- were written whole; or at the counts.
abbrev pub BreaksProgress : Given → ListRequest → Option ℕ → Option ℕ → Logs → Logs → Type 0
BreaksProgress g r after upto old new = ListsProgress g r after upto (λ q.
    ((told : WriteLog) × TellsUntil progress.Rows (progress_text_to r after upto q) (progress_text r after upto q) old.out new.out old.err told
    × IsReported g told new.err fault.Write)
    ⊎ (TellsUntil progress.Lines (progress_text_to r after upto q) (progress_text r after upto q) old.out new.out old.err new.err
    ⊎ ((told : WriteLog) × TellsAll (progress_text r after upto q) old.out new.out old.err told × PutsPrefix told new.err (progress_counts_text r after upto q))))

-- ---- a list over several scans

-- so many scans, each this time after the one before it
abbrev pub scans_of : ℕ → ℕ → Scans
scans_of count every = record { count = count; every = every }

abbrev pub held_for : Option ℕ → Scans → Question → List HeldCause
held_for limit s q = limited limit (held_causes q s)

abbrev pub HeldList : Option ℕ → Scans → Form
HeldList limit s = Lists (λ q. held_refusal q s) (λ q. held_text q.program q.listed (held_for limit s q)) (λ q. counts.Rows (length (held_for limit s q)))

-- the fault of a request that has no list over several scans
abbrev pub held_fault : HeldFault → ToolFault
held_fault (held.Question f) = fault.Cause f
held_fault held.NoScans = fault.NoScans

-- This is the rule that is broken first; being out of memory has no reason in what is asked.
abbrev pub IsFirstFault : Option ToolFault → ToolFault → Type 0
IsFirstFault first f = (f ≡ fault.Cause cause.Memory) ⊎ (first ≡ Some f)

-- ---- a list over several scans in groups

-- the groups of each first scan, or the first of them where there is a limit
abbrev pub held_groups_for : Option ℕ → Scans → Question → List ClassGroup
held_groups_for limit s q = limited limit (held_groups q s)

-- how many rows there are, and how many causes they stand for
abbrev pub held_group_counts : Option ℕ → Scans → Question → ListCounts
held_group_counts limit s q =
    counts.Groups (record { rows = length (held_groups_for limit s q); causes = numbers_in (length q.listed) (held_groups_for limit s q) })

abbrev pub HeldGroupList : Option ℕ → Scans → Form
HeldGroupList limit s =
    Lists (λ q. held_group_refusal q s) (λ q. held_group_text q.program q.listed (held_groups_for limit s q)) (held_group_counts limit s)

-- Groups have a rule of their own: they are of fewer inputs than other lists, and too many are told in the same way.
abbrev pub held_group_fault : HeldGroupFault → ToolFault
held_group_fault held_group.TooManyInputs = fault.Cause cause.TooManyFree
held_group_fault (held_group.Held f) = held_fault f

-- ---- a list over several scans, in groups or not

abbrev pub HeldBy : Bool → Option ℕ → Scans → Form
HeldBy true = HeldGroupList
HeldBy false = HeldList

abbrev pub held_refusal_by : Bool → Scans → Question → Option ToolFault
held_refusal_by true s q = option_map held_group_fault (held_group_refusal q s)
held_refusal_by false s q = option_map held_fault (held_refusal q s)

-- ---- a list of causes in groups

-- the rows of all causes, or the first of them where there is a limit
abbrev pub rows_for : Option ℕ → Question → List Row
rows_for limit q = limited limit (groups.rows (is_cause q) (length q.listed) 0)

-- what is asked, with the inputs in this order
abbrev pub ordered : InputOrder → Question → Question
ordered order.Given q = q
ordered order.Sifted q = in_order q (sifted q)

-- the text of these groups in this form
abbrev pub groups_text : GroupFormat → Option ℕ → Question → List ℕ
groups_text form limit q = form_text (form_on form q.coil) q.program q.listed (rows_for limit q)

-- how many rows there are, and how many causes they stand for
abbrev pub group_counts : Option ℕ → Question → ListCounts
group_counts limit q = counts.Groups (record { rows = length (rows_for limit q); causes = causes_in (rows_for limit q) })

abbrev pub GroupList : Option ℕ → Grouping → Form
GroupList limit how =
    Lists (λ q. refusal q None) (λ q. groups_text how.form limit (ordered how.order q)) (λ q. group_counts limit (ordered how.order q))

abbrev pub CountsGroups : Given → ListRequest → Grouping → WriteLog → WriteLog → (List ℕ → Type 0) → Type 0
CountsGroups g r how = CountsAsked (GroupList r.limit how) g r

abbrev pub BreaksGroups : Given → ListRequest → Grouping → Logs → Logs → Type 0
BreaksGroups g r how = BreaksAsked (GroupList r.limit how) g r

-- ---- a list over the inputs that matter

-- The listed inputs decide what the scan leaves of the coil: no other input makes a difference.
pub record IsDecided (g : Given) (r : ListRequest) (q : Question) : Type 0 where
  pub coil : IsOnCoil g (string_bytes r.coil) r.moment q
  pub inputs : AreInputs q.program q.listed
  pub decide : Decide q

-- in groups where these are asked for
abbrev pub GroupedBy : Option Grouping → Option ℕ → Option ℕ → Form
GroupedBy None limit after = CauseList limit after None
GroupedBy (Some how) limit after = GroupList limit how

abbrev pub CountsRelevant : Given → ListRequest → Option ℕ → Option Grouping → WriteLog → WriteLog → (List ℕ → Type 0) → Type 0
CountsRelevant g r after grouping = Ends (ListsAsked (IsDecided g r) (GroupedBy grouping r.limit after)) r.quiet

abbrev pub BreaksRelevant : Given → ListRequest → Option ℕ → Option Grouping → Logs → Logs → Type 0
BreaksRelevant g r after grouping = BreaksOff g (ListsAsked (IsDecided g r) (GroupedBy grouping r.limit after)) r.quiet

-- Groups begin with the first.
abbrev pub after_for : Option ℕ → Option Grouping → Option ℕ
after_for after None = after
after_for after (Some how) = None

-- Faults are looked for in this order: in the program text, in the state text, in the name, in what is asked of the coil, in the list.
abbrev pub HasCoilFault : Given → ListRequest → ToolFault → Type 0
HasCoilFault g r = HasAskedFault g (string_bytes r.coil ∷ []) (λ q. IsOnCoil g (string_bytes r.coil) r.moment q × (q.listed ≡ [])) (λ q. HasCauseFault (refusal q None))

abbrev pub HasRelevantFault : Given → ListRequest → Option ℕ → ToolFault → Type 0
HasRelevantFault g r after f = HasCoilFault g r f ⊎ ((q : Question) × IsDecided g r q × HasCauseFault (refusal q after) f)
