-- What a row of what is possible tells of the runs.
use Rattle.std.proofs.Common.{ap, subst, ℕ, true, List, None, Option, Some}
use Rattle.std.specs.Prelude.{IfSome}
use Rattle.st_expression.specs.declared.expression.Expression.{Expression}
use Rattle.diagram_program.specs.Program.{Drawing}
use Rattle.scan_cycle.specs.Standing.{IsStanding, Standing}
use Rattle.causes_query.specs.Listable.{IsListable}
use Rattle.causes_any_state.specs.Possible.{AreDeniedBy, AreStatesOf, DeniesBy, Gives, PossibleCursor, SaysBy, SomeLeavesBy}
use Rattle.causes_any_state.specs.declared.claim.Claim.{Claim}
use Rattle.causes_any_state.specs.declared.claim.Claim.TheVariants.{Possible}
use Rattle.causes_any_state.specs.declared.possible.PossibleCause.{PossibleCause}
use Rattle.causes_any_state.specs.declared.states.States.{States}
use Rattle.causes_in_runs.specs.Buffers.{AreRunBuffers}
use Rattle.causes_in_runs.specs.Cursors.{GivesPossible}
use Rattle.causes_in_runs.specs.Leading.{RunsLead}
use Rattle.causes_in_runs.specs.Rows.{AreUnreached, RunCursor}
use Rattle.causes_in_runs.specs.declared.cursor.RunCauses.TheInside.{Inside}

-- what a caller sees of a cursor over what is possible, with the state that the runs are from
abbrev pub view_of : PossibleCursor → Standing → RunCursor
view_of c s = record { program = c.program; state = s; coil = c.coil; listed = c.listed; states = c.states; assumed = c.assumed; from = c.from }

-- what holds of a value in an option, by what did
pub some_then : {A : Type 0} (P Q : A → Type 0) (o : Option A) → ((x : A) → P x → Q x) → IfSome o P → IfSome o Q
some_then P Q None h p = tt
some_then P Q (Some x) h p = h x p

-- what is said of a number that is possible, and of one that isn't
none_leaves : (assumed : Option Expression) (p : Drawing) (coil : ℕ) (listed : List ℕ) (states : States) (n : ℕ) → DeniesBy assumed Possible p coil listed states n
    → SomeLeavesBy assumed p coil listed states true n → ⊥
none_leaves None p coil listed states n denied = denied
none_leaves (Some e) p coil listed states n denied = denied

some_leads : (assumed : Option Expression) (p : Drawing) (coil : ℕ) (listed : List ℕ) (states : States) (n : ℕ) → SaysBy assumed Possible p coil listed states n
    → SomeLeavesBy assumed p coil listed states true n
some_leads None p coil listed states n said = said
some_leads (Some e) p coil listed states n said = said

module _ (a : Inside) (keeps : AreRunBuffers a) (standing : IsStanding a.state.now) (law : RunsLead a.causes.program)
    (listable : IsListable a.causes.program a.causes.coil a.causes.listed) (of : AreStatesOf a.causes.program a.causes.states) where
  -- what is impossible is not reached
  pub none_reached : (from to : ℕ) → AreDeniedBy a.causes.assumed a.causes.program a.causes.coil a.causes.listed a.causes.states a.causes.claim from to
      → AreUnreached a.causes.assumed a.causes.program a.state.now a.causes.coil a.causes.listed from to
  none_reached from to denied n later below =
      law a.causes.assumed a.state.now keeps.fits standing a.causes.states of keeps.counts a.causes.coil a.causes.listed listable.inputs n
      (none_leaves a.causes.assumed a.causes.program a.causes.coil a.causes.listed a.causes.states n
      (subst (λ (claim : Claim). DeniesBy a.causes.assumed claim a.causes.program a.causes.coil a.causes.listed a.causes.states n) keeps.claim (denied n later below)))

  pub gives_possible : (row : PossibleCause) (d : PossibleCursor) → Gives a.causes row d → GivesPossible (view_of a.causes a.state.now) row (view_of d a.state.now)
  gives_possible row d gives = record {
    from = gives.from;
    within = gives.within;
    unreached_before = none_reached a.causes.from row.number gives.denied_before;
    said = λ settled. some_leads a.causes.assumed a.causes.program a.causes.coil a.causes.listed a.causes.states row.number
        (subst (λ (claim : Claim). SaysBy a.causes.assumed claim a.causes.program a.causes.coil a.causes.listed a.causes.states row.number) keeps.claim (gives.said settled));
    then = ap (λ (x : PossibleCursor). view_of x a.state.now) gives.then;
  }
