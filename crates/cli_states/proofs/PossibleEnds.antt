-- How a list of what some state, or every one, switches on ends.
use Rattle.std.proofs.Common.{◌≡◌, ◌≢◌, ◌∙◌, ◌⊎◌, ◌^◌, ℕ, zero, suc, Bool, true, false, List, None, Option, Some, Result, Ok, Err, ap, inl, inr, length, refl, subst, sym}
use Rattle.std.specs.Prelude.{IfOk, IfSome}
use Rattle.diagram_program.specs.Program.{Drawing}
use Rattle.causes_query.specs.Causes.{Question}
use Rattle.causes_query.specs.Refusal.{refusal}
use Rattle.causes_any_state.specs.Possible.{AreRowsBy, AreStatesOf, MayBeOf, PossibleCursor}
use Rattle.invariant_runs.specs.Staying.{IsStayingOf}
use Rattle.invariant_sets.specs.declared.staying.Staying.{Staying}
use Rattle.scan_cycle.specs.Standing.{Standing}
use Rattle.causes_any_state.specs.declared.possible.PossibleCause.{PossibleCause}
use Rattle.causes_any_state.specs.Cursor.{PossibleGroupCursor}
use Rattle.search_groups.specs.Classes.{numbers_in}
use Rattle.text_causes.specs.CauseText.{limited}
use Rattle.text_lists.specs.ClassText.{possible_group_text, unsettled_in}
use Rattle.text_lists.specs.PossibleText.{AreAll, AreFew, Gave, possible_text}
use Rattle.search_groups.specs.declared.class_walk.ClassGroup.{ClassGroup}
use Rattle.st_expression.specs.declared.expression.Expression.{Expression}
use Rattle.io_text.specs.Log.{WriteLog}
use Rattle.cli_inputs.specs.Reports.{HasCauseFault}
use Rattle.cli_inputs.specs.declared.fault.ToolFault.{ToolFault}
use Rattle.cli_inputs.specs.Setting.{Given}
use Rattle.cli_arguments.specs.declared.request.PossibleRequest.{PossibleRequest}
use Rattle.cli_arguments.specs.declared.request.RunsWanted.{RunsWanted}
use Rattle.cli_questions.specs.declared.counting.ListCounts.{ListCounts}
use Rattle.cli_questions.specs.declared.counting.ListCounts.TheVariants as counts
use Rattle.cli_states.specs.Query.{AsksFor, at_stored}
use Rattle.cli_questions.specs.Ending.{IsNamed, Listing}
use Rattle.cli_questions.specs.Query.{Writes}
use Rattle.cli_states.specs.AnyState.{AnyStateBy, AnyStateRefusal, IsSettledBy, IsStayingBy, PossibleListBy, PossibleRowsBy, ReachedListBy, counted, possible_counts, possible_group_counts, possible_refusal_by, row_counts}

-- What is so of a value in a result, by each of three.
pub ok_each : {A F : Type 0} (w : Result A F) (P Q R : A → Type 0) → IfOk w P → IfOk w Q → IfOk w R → IfOk w (λ x. P x × Q x × R x)
ok_each (Ok x) P Q R p q r = (p, q, r)
ok_each (Err e) P Q R p q r = tt

-- What stays so is said of the program's own names.
of_program : (p : Drawing) (off : Bool) (staying : Option Staying) → MayBeOf p staying → AreStatesOf p (counted off staying)
of_program p true staying of = of
of_program p false staying of = of

known_of : (assumed : Option Expression) (p : Drawing) (s : Standing) (known : Staying) → IsSettledBy assumed p s known → IsStayingOf p known
known_of None p s known settled = record { set = settled.0.steady.set; apart = settled.0.apart.outside }
known_of (Some e) p s known settled = record { set = settled.0.steady.set; apart = settled.0.apart.outside }

pub states_of : (b off : Bool) (assumed : Option Expression) (p : Drawing) (s : Standing) (staying : Option Staying) → IsStayingBy b assumed p s staying
    → AreStatesOf p (counted off staying)
states_of false off assumed p s staying none = of_program p off staying (subst (λ (x : Option Staying). MayBeOf p x) (sym none) tt)
states_of true off assumed p s staying (known, same, settled) =
    of_program p off staying (subst (λ (x : Option Staying). MayBeOf p x) (sym same) (known_of assumed p s known settled))

pub asked_of_all : (g : Given) (coil : List ℕ) (all : Bool) (inputs : List (List ℕ)) (q : Question) → IsNamed g coil None all inputs q → IsNamed g coil None all inputs (at_stored q)
asked_of_all g coil all inputs q h = (record { set = h.0.set; at = refl; on = h.0.on }, h.1)

-- ---- what is counted

pub counts_some : (n rows unsettled : ℕ) → n ≢ 0 → row_counts n rows unsettled ≡ counts.AssumedPossible rows unsettled n
counts_some zero rows unsettled some = absurd (some refl)
counts_some (suc n) rows unsettled some = refl

-- what is counted of as many rows, as many of which aren't settled
pub same_counts : (expressions rows rows' unsettled unsettled' : ℕ) (n : ListCounts) → n ≡ row_counts expressions rows unsettled → rows ≡ rows' → unsettled ≡ unsettled'
    → n ≡ row_counts expressions rows' unsettled'
same_counts expressions rows rows' unsettled unsettled' n is many few =
    is ∙ ap (λ (k : ℕ). row_counts expressions k unsettled) many ∙ ap (λ (k : ℕ). row_counts expressions rows' k) few

pub group_counts_some : (n k : ℕ) (groups : List ClassGroup) → n ≢ 0
    → possible_group_counts n k groups ≡ counts.AssumedPossibleGroups (length groups) (numbers_in k groups) (unsettled_in k groups) n
group_counts_some zero k groups some = absurd (some refl)
group_counts_some (suc n) k groups some = refl

-- ---- a row for each number

module _ (assumed : Option Expression) (expressions : ℕ) (r : PossibleRequest) (q : Question) (c d : PossibleCursor) (rows : List PossibleCause) (accepted : refusal q None ≡ None)
    (made : AsksFor assumed r.off r.must r q c) (gave : Gave c rows d) (few : AreFew r.limit rows) where
  counted_by : (n : Option ListCounts) → IfSome n (λ _. (d.from ≡ 2 ^ length q.listed) ⊎ (r.limit ≡ Some (length rows)))
      → IfSome n (λ m. m ≡ possible_counts expressions rows)
      → PossibleListBy assumed expressions r q (possible_text c.program c.listed rows) n
  counted_by n all count = record {
    accepted = accepted;
    staying = made.staying;
    stays = made.stays;
    rows = rows;
    few = few;
    to = d.from;
    are = subst (λ (x : PossibleCursor). AreRowsBy x.assumed x.program x.coil x.listed x.states x.claim x.from d.from rows) made.same gave.rows_are;
    written = ap (λ (x : PossibleCursor). possible_text x.program x.listed rows) made.same;
    all = all;
    count = count;
  }

  pub are_some : PossibleListBy assumed expressions r q (possible_text c.program c.listed rows) None
  are_some = counted_by None tt tt

  all_of : AreAll d rows r.limit → (d.from ≡ 2 ^ length q.listed) ⊎ (r.limit ≡ Some (length rows))
  all_of (inl e) =
      inl (e ∙ ap (λ (xs : List ℕ). 2 ^ length xs) (ap (λ (x : PossibleCursor). x.listed) gave.same ∙ ap (λ (x : PossibleCursor). x.listed) made.same))
  all_of (inr e) = inr e

  pub are_all : (n : ListCounts) → n ≡ possible_counts expressions rows → AreAll d rows r.limit → PossibleListBy assumed expressions r q (possible_text c.program c.listed rows) (Some n)
  are_all n count all = counted_by (Some n) (all_of all) count

-- ---- in groups

module _ (r : PossibleRequest) (q : Question) (c : PossibleGroupCursor) (of_program : c.program ≡ q.program) (of_listed : c.listed ≡ q.listed) where
  pub groups_text_is : possible_group_text c.program c.listed (limited r.limit c.rest) ≡ possible_group_text q.program q.listed (limited r.limit c.rest)
  groups_text_is =
      ap (λ (d : Drawing). possible_group_text d c.listed (limited r.limit c.rest)) of_program
      ∙ ap (λ (xs : List ℕ). possible_group_text q.program xs (limited r.limit c.rest)) of_listed

  pub group_counts_are : (expressions : ℕ) (n : ListCounts) → n ≡ possible_group_counts expressions (length c.listed) (limited r.limit c.rest)
      → n ≡ possible_group_counts expressions (length q.listed) (limited r.limit c.rest)
  group_counts_are expressions n h = h ∙ ap (λ (xs : List ℕ). possible_group_counts expressions (length xs) (limited r.limit c.rest)) of_listed

-- ---- what is written

-- the same said in another way
pub writes_as : (Is Js : Listing) (Refused Refuses : ToolFault → Type 0) (o o' : WriteLog) (w : Result ListCounts ToolFault)
    → ((text : List ℕ) (c : Option ListCounts) → Is text c → Js text c) → ((f : ToolFault) → Refused f → Refuses f)
    → Writes Is Refused o o' w → Writes Js Refuses o o' w
writes_as Is Js Refused Refuses o o' (Ok c) is refuses h = (h.0, is h.0 (Some c) h.1, h.2)
writes_as Is Js Refused Refuses o o' (Err f) is refuses (inl h) = inl (refuses f h.0, h.1)
writes_as Is Js Refused Refuses o o' (Err f) is refuses (inr h) = inr (h.0, (h.1.0, is h.1.0 None h.1.1, h.1.2))

module _ (r : PossibleRequest) (q : Question) (o o' : WriteLog) (w : Result ListCounts ToolFault) where
  -- of the runs, or not
  pub written_runs : (assumed : Option Expression) (n : ℕ) (asked : Option RunsWanted) (runs : RunsWanted) (grouped : Bool) → asked ≡ Some runs
      → Writes (ReachedListBy assumed n r q) (HasCauseFault (refusal q None)) o o' w
      → Writes (PossibleRowsBy asked grouped assumed n r q) (HasCauseFault (possible_refusal_by asked grouped q)) o o' w
  written_runs assumed n asked runs grouped which h =
      subst (λ (x : Option RunsWanted). Writes (PossibleRowsBy x grouped assumed n r q) (HasCauseFault (possible_refusal_by x grouped q)) o o' w) (sym which) h

  -- in groups, or not
  pub written_either : (assumed : Option Expression) (n : ℕ) (asked : Option RunsWanted) (grouped b : Bool) → asked ≡ None → grouped ≡ b
      → Writes (PossibleRowsBy None b assumed n r q) (HasCauseFault (possible_refusal_by None b q)) o o' w
      → Writes (PossibleRowsBy asked grouped assumed n r q) (HasCauseFault (possible_refusal_by asked grouped q)) o o' w
  written_either assumed n asked grouped b which is h =
      subst (λ (x : Option RunsWanted). Writes (PossibleRowsBy x grouped assumed n r q) (HasCauseFault (possible_refusal_by x grouped q)) o o' w) (sym which)
      (subst (λ (x : Bool). Writes (PossibleRowsBy None x assumed n r q) (HasCauseFault (possible_refusal_by None x q)) o o' w) (sym is) h)

  -- by what is assumed, or nothing is
  pub written_by : (nothing b : Bool) → nothing ≡ b → Writes (AnyStateBy b r q) (AnyStateRefusal b r q) o o' w → Writes (AnyStateBy nothing r q) (AnyStateRefusal nothing r q) o o' w
  written_by nothing b is h = subst (λ (x : Bool). Writes (AnyStateBy x r q) (AnyStateRefusal x r q) o o' w) (sym is) h
