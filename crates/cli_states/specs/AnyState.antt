-- What some state, or every one, switches on, as a list; where something is assumed of the inputs, of those states alone with which, and with the
-- listed inputs, it is true.
use Rattle.std.specs.Prelude.{◌≡◌, ◌⊎◌, ◌^◌, ◌∷◌, ◌==◌, if◌then◌else◌, ℕ, zero, suc, List, Bool, true, false, Option, None, Some, IfSome, count_by, length, map, nat_lt, not, string_bytes}
use Rattle.st_expression.specs.declared.expression.Expression.{Expression}
use Rattle.diagram_program.specs.Program.{Drawing}
use Rattle.scan_cycle.specs.Standing.{Standing}
use Rattle.causes_query.specs.declared.fault.CauseFault.{CauseFault}
use Rattle.causes_query.specs.declared.fault.CauseFault.TheVariants as cause
use Rattle.causes_query.specs.Causes.{Question}
use Rattle.causes_query.specs.Refusal.{refusal}
use Rattle.search_groups.specs.Classes.{numbers_in}
use Rattle.search_groups.specs.declared.class_table.TheConstants.{BITS_LIMIT}
use Rattle.search_groups.specs.declared.class_walk.ClassGroup.{ClassGroup}
use Rattle.text_lists.specs.ClassText.{possible_group_text, unsettled_in}
use Rattle.invariant_sets.specs.Invariants.{IsStaying, IsStayingAssuming}
use Rattle.invariant_sets.specs.Pairs.{HasToldApart}
use Rattle.text_causes.specs.CauseText.{limited}
use Rattle.causes_any_state.specs.Possible.{AreRowsBy}
use Rattle.invariant_runs.specs.Reached.{AreReached, AreReachedAssuming}
use Rattle.causes_any_state.specs.declared.states.States.{States}
use Rattle.invariant_sets.specs.declared.staying.Staying.{Staying}
use Rattle.causes_any_state.specs.declared.before.Before.TheVariants as before
use Rattle.causes_any_state.specs.declared.claim.Claim.{Claim}
use Rattle.causes_any_state.specs.declared.claim.Claim.TheVariants as claim
use Rattle.causes_any_state.specs.declared.possible.PossibleCause.{PossibleCause}
use Rattle.causes_any_state.specs.Cursor.{ArePossibleGroupsBy}
use Rattle.causes_in_runs.specs.Rows.{AreRunRows}
use Rattle.causes_in_runs.specs.declared.row.RunCause.{RunCause}
use Rattle.text_runs.specs.CauseText.{AreFew as AreFewRuns, is_open, run_causes_text}
use Rattle.text_lists.specs.PossibleText.{AreFew, possible_text}
use Rattle.io_text.specs.Log.{WriteLog}
use Rattle.cli_inputs.specs.declared.fault.ToolFault.{ToolFault}
use Rattle.cli_arguments.specs.declared.request.PossibleRequest.{PossibleRequest}
use Rattle.cli_arguments.specs.declared.request.RunsWanted.{RunsWanted}
use Rattle.cli_questions.specs.declared.counting.ListCounts.{ListCounts}
use Rattle.cli_questions.specs.declared.counting.ListCounts.TheVariants as counts
use Rattle.cli_inputs.specs.Setting.{Given}
use Rattle.cli_inputs.specs.Reports.{HasCauseFault, Logs}
use Rattle.cli_assumed.specs.Assumed.{AssumingAnywhere, AssumingAnywhereFault}
use Rattle.cli_states.specs.Never.{of_inputs}
use Rattle.cli_questions.specs.Ending.{BreaksOff, Ends, Form, HasAskedFault, IsNamed, ListsAsked}

-- The names are those of the variables. There is a state as well, and its moment, which make no difference.
abbrev pub IsAskedOfAll : Given → PossibleRequest → Question → Type 0
IsAskedOfAll g r = IsNamed g (string_bytes r.coil) None r.all_inputs (map string_bytes r.inputs.items)

-- which states count: all, or those in which the coil is OFF, and in which it is so what stays so
abbrev pub counted : Bool → Option Staying → States
counted true staying = record { before = before.Off; staying = staying }
counted false staying = record { before = before.Any; staying = staying }

-- What stays so from the state on is settled, with all that one scan settles, and it is so in each state that a run reaches in whose scans what is
-- assumed is true.
abbrev pub IsSettledBy : Option Expression → Drawing → Standing → Staying → Type 0
IsSettledBy None p s known = IsStaying p s known × AreReached p s known × HasToldApart p s known.steady known.apart
IsSettledBy (Some e) p s known = IsStayingAssuming p (of_inputs p (Some e)) s known × AreReachedAssuming p (of_inputs p (Some e)) s known
    × HasToldApart p s known.steady known.apart

-- it, or nothing where it isn't asked for
abbrev pub IsStayingBy : (reachable : Bool) → Option Expression → Drawing → Standing → Option Staying → Type 0
IsStayingBy false assumed p s staying = staying ≡ None
IsStayingBy true assumed p s staying = (known : Staying) × (staying ≡ Some known) × IsSettledBy assumed p s known

-- what a row claims of its number: that every state that counts leaves the coil ON, or that some one does
abbrev pub claimed : Bool → Claim
claimed true = claim.Forced
claimed false = claim.Possible

-- so many rows, of which so many aren't settled; where so many expressions are assumed, that too
abbrev pub row_counts : (expressions rows unsettled : ℕ) → ListCounts
row_counts zero rows unsettled = counts.Possible rows unsettled
row_counts (suc n) rows unsettled = counts.AssumedPossible rows unsettled (suc n)

abbrev pub possible_counts : (expressions : ℕ) → List PossibleCause → ListCounts
possible_counts expressions rows = row_counts expressions (length rows) (count_by (λ row. not row.is_settled) rows)

-- No more rows than the limit allows, and, where they are counted, all or as many as it allows: below a number each one of which the claim holds
-- has a row, and the claim holds of each row that is settled. It is of each state, or of those in which it is so what stays so; and of those alone
-- with which, and with the number's assignment, what is assumed is true.
pub record PossibleListBy (assumed : Option Expression) (expressions : ℕ) (r : PossibleRequest) (q : Question) (text : List ℕ) (c : Option ListCounts) : Type 0 where
  pub accepted : refusal q None ≡ None
  pub staying : Option Staying
  pub stays : IsStayingBy r.reachable assumed q.program q.state staying
  pub rows : List PossibleCause
  pub few : AreFew r.limit rows
  pub to : ℕ
  pub are : AreRowsBy assumed q.program q.coil q.listed (counted r.off staying) (claimed r.must) 0 to rows
  pub written : text ≡ possible_text q.program q.listed rows
  pub all : IfSome c (λ _. (to ≡ 2 ^ length q.listed) ⊎ (r.limit ≡ Some (length rows)))
  pub count : IfSome c (λ n. n ≡ possible_counts expressions rows)

-- where nothing is assumed
abbrev pub PossibleList : PossibleRequest → Form
PossibleList r = PossibleListBy None 0 r

-- ---- what some state switches on, in groups

-- the first rule that is broken: groups are of fewer inputs than other lists, and too many are told in the same way
abbrev pub possible_group_refusal : Question → Option CauseFault
possible_group_refusal q = if nat_lt BITS_LIMIT (length q.listed) then Some cause.TooManyFree else refusal q None

-- how many rows there are, how many numbers of k bits they stand for, and how many of these aren't settled; where so many expressions are assumed,
-- that too
abbrev pub possible_group_counts : (expressions k : ℕ) → List ClassGroup → ListCounts
possible_group_counts zero k groups = counts.PossibleGroups (length groups) (numbers_in k groups) (unsettled_in k groups)
possible_group_counts (suc n) k groups = counts.AssumedPossibleGroups (length groups) (numbers_in k groups) (unsettled_in k groups) (suc n)

-- The groups, or the first of them where there is a limit. They are of numbers that are judged: the claim holds of each number of a settled
-- group, and each number that is in no group is denied.
pub record PossibleGroupListBy (assumed : Option Expression) (expressions : ℕ) (r : PossibleRequest) (q : Question) (text : List ℕ) (c : Option ListCounts) : Type 0 where
  pub accepted : possible_group_refusal q ≡ None
  pub staying : Option Staying
  pub stays : IsStayingBy r.reachable assumed q.program q.state staying
  pub groups : List ClassGroup
  pub are : ArePossibleGroupsBy assumed q.program q.coil q.listed (counted r.off staying) (claimed r.must) groups
  pub written : text ≡ possible_group_text q.program q.listed (limited r.limit groups)
  pub count : IfSome c (λ n. n ≡ possible_group_counts expressions (length q.listed) (limited r.limit groups))

-- where nothing is assumed
abbrev pub PossibleGroupList : PossibleRequest → Form
PossibleGroupList r = PossibleGroupListBy None 0 r

-- ---- what some state switches on, asked of the runs

-- those to which no run was found are unsettled
abbrev pub reached_counts : (expressions : ℕ) → List RunCause → ListCounts
reached_counts expressions rows = row_counts expressions (length rows) (count_by (λ row. is_open row.reached) rows)

-- No more rows than the limit allows, and, where they are counted, all or as many as it allows: no run from the state that is asked from comes to
-- a number below the last one that has no row, and what each row says of its number holds. It is of runs in whose scans what is assumed is true.
pub record ReachedListBy (assumed : Option Expression) (expressions : ℕ) (r : PossibleRequest) (q : Question) (text : List ℕ) (c : Option ListCounts) : Type 0 where
  pub accepted : refusal q None ≡ None
  pub staying : Option Staying
  pub stays : IsStayingBy r.reachable assumed q.program q.state staying
  pub rows : List RunCause
  pub few : AreFewRuns r.limit rows
  pub to : ℕ
  pub are : AreRunRows assumed q.program q.state q.coil q.listed (counted false staying) 0 to rows
  pub written : text ≡ run_causes_text q.program q.listed rows
  pub all : IfSome c (λ _. (to ≡ 2 ^ length q.listed) ⊎ (r.limit ≡ Some (length rows)))
  pub count : IfSome c (λ n. n ≡ reached_counts expressions rows)

-- where nothing is assumed
abbrev pub ReachedList : PossibleRequest → Form
ReachedList r = ReachedListBy None 0 r

-- ---- what some state switches on: asked of the runs, in groups, or neither

-- The line of the counts tells how many expressions are assumed.
abbrev pub PossibleRowsBy : Option RunsWanted → (grouped : Bool) → Option Expression → (expressions : ℕ) → PossibleRequest → Form
PossibleRowsBy (Some runs) grouped assumed n r = ReachedListBy assumed n r
PossibleRowsBy None true assumed n r = PossibleGroupListBy assumed n r
PossibleRowsBy None false assumed n r = PossibleListBy assumed n r

-- where nothing is assumed
abbrev pub PossibleBy : Option RunsWanted → Bool → PossibleRequest → Form
PossibleBy runs grouped r = PossibleRowsBy runs grouped None 0 r

abbrev pub possible_refusal_by : Option RunsWanted → Bool → Question → Option CauseFault
possible_refusal_by (Some runs) grouped q = refusal q None
possible_refusal_by None true q = possible_group_refusal q
possible_refusal_by None false q = refusal q None

-- ---- by what is assumed

-- the expressions
abbrev pub expressions_of : PossibleRequest → List (List ℕ)
expressions_of r = map string_bytes r.assumed.items

abbrev pub assumes_nothing : PossibleRequest → Bool
assumes_nothing r = length r.assumed.items == 0

abbrev pub AssumedPossibleBy : PossibleRequest → Form
AssumedPossibleBy r = AssumingAnywhere (expressions_of r) (λ assumed. PossibleRowsBy r.runs r.grouped assumed (length r.assumed.items) r)

abbrev pub AssumedPossibleRefusal : PossibleRequest → Question → ToolFault → Type 0
AssumedPossibleRefusal r = AssumingAnywhereFault (expressions_of r) (λ q. HasCauseFault (possible_refusal_by r.runs r.grouped q))

abbrev pub AnyStateBy : (nothing : Bool) → PossibleRequest → Form
AnyStateBy true r = PossibleBy r.runs r.grouped r
AnyStateBy false r = AssumedPossibleBy r

abbrev pub AnyStateRefusal : (nothing : Bool) → PossibleRequest → Question → ToolFault → Type 0
AnyStateRefusal true r q = HasCauseFault (possible_refusal_by r.runs r.grouped q)
AnyStateRefusal false r q = AssumedPossibleRefusal r q

-- ---- how the requests end

abbrev pub CountsPossible : Given → PossibleRequest → WriteLog → WriteLog → (List ℕ → Type 0) → Type 0
CountsPossible g r = Ends (ListsAsked (IsAskedOfAll g r) (AnyStateBy (assumes_nothing r) r)) r.quiet

abbrev pub BreaksPossible : Given → PossibleRequest → Logs → Logs → Type 0
BreaksPossible g r = BreaksOff g (ListsAsked (IsAskedOfAll g r) (AnyStateBy (assumes_nothing r) r)) r.quiet

abbrev pub HasPossibleFault : Given → PossibleRequest → ToolFault → Type 0
HasPossibleFault g r = HasAskedFault g (string_bytes r.coil ∷ map string_bytes r.inputs.items) (IsAskedOfAll g r) (AnyStateRefusal (assumes_nothing r) r)
