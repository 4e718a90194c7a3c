-- Private to the lists: what is asked of all states.
use Rattle.std.specs.Prelude.{◌≡◌, ℕ, Bool, false, List, Option, length}
use Rattle.st_expression.specs.declared.expression.Expression.{Expression}
use Rattle.search_groups.specs.Classes.{numbers_in}
use Rattle.search_groups.specs.declared.class_walk.ClassGroup.{ClassGroup}
use Rattle.causes_any_state.specs.Possible.{PossibleCursor}
use Rattle.invariant_sets.specs.declared.staying.Staying.{Staying}
use Rattle.causes_any_state.specs.Cursor.{ArePossibleGroupsBy}
use Rattle.causes_in_runs.specs.Rows.{RunCursor}
use Rattle.causes_query.specs.Causes.{Question}
use Rattle.text_lists.specs.ClassText.{unsettled_in}
use Rattle.text_lists.specs.declared.possible_group_text.PossibleGroupSummary.{PossibleGroupSummary}
use Rattle.cli_arguments.specs.declared.request.PossibleRequest.{PossibleRequest}
use Rattle.cli_states.specs.AnyState.{IsStayingBy, claimed, counted}

-- what is asked of all states, with the one that the texts give
abbrev pub at_stored : Question → Question
at_stored q = record q { now = q.state.moment }

-- The cursor is for all rows of what is asked, of the states that count: those in which the coil is OFF, or all, with which what is assumed is
-- true; each, or some.
pub record AsksFor (assumed : Option Expression) (off must : Bool) (r : PossibleRequest) (q : Question) (c : PossibleCursor) : Type 0 where
  pub staying : Option Staying
  pub stays : IsStayingBy r.reachable assumed q.program q.state staying
  pub same : c ≡ record { program = q.program; coil = q.coil; listed = q.listed; states = counted off staying; claim = claimed must; assumed = assumed; from = 0 }

-- The same of the runs from the state.
pub record AsksRuns (assumed : Option Expression) (r : PossibleRequest) (q : Question) (c : RunCursor) : Type 0 where
  pub staying : Option Staying
  pub stays : IsStayingBy r.reachable assumed q.program q.state staying
  pub same : c ≡ record { program = q.program; state = q.state; coil = q.coil; listed = q.listed; states = counted false staying; assumed = assumed; from = 0 }

-- The groups are those of what is asked, of the states that count.
pub record AreAskedGroups (assumed : Option Expression) (r : PossibleRequest) (q : Question) (groups : List ClassGroup) : Type 0 where
  pub staying : Option Staying
  pub stays : IsStayingBy r.reachable assumed q.program q.state staying
  pub are : ArePossibleGroupsBy assumed q.program q.coil q.listed (counted r.off staying) (claimed r.must) groups

-- The summary counts the groups, and the numbers of k bits that they stand for.
abbrev pub AreCounted : PossibleGroupSummary → ℕ → List ClassGroup → Type 0
AreCounted s k groups = (s.rows ≡ length groups) × (s.causes ≡ numbers_in k groups) × (s.unsettled ≡ unsettled_in k groups)
