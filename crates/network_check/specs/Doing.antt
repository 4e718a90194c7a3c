-- Private: statements that do what elements do.
use Rattle.std.specs.Prelude.{◌≡◌, ◌≤◌, ℕ, Bool, true, false, if◌then◌else◌, List, [], ◌∷◌, ◌++◌, length}
use Rattle.diagram_declarations.specs.declared.decls.Instance.{Instance}
use Rattle.scan_cycle.specs.Rung.{Held}
use Rattle.st_expression.specs.declared.expression.Expression.{Expression}
use Rattle.st_statements.specs.declared.statement.StatementList.{StatementList}
use Rattle.st_statements.specs.Run.{Ran, ran, assigned, run, value_in}
use Rattle.network_power.specs.declared.network.Links.{Links}
use Rattle.network_power.specs.declared.network.Network.{Network}
use Rattle.network_check.specs.declared.effect.Effect.{Effect}
use Rattle.network_check.specs.declared.effect.CoilKind.{CoilKind}
use Rattle.network_check.specs.declared.effect.CoilKind.TheVariants.{Plain, Negated, Set, Reset}
use Rattle.network_check.specs.Runs.{Has, Runs, inverse_if}

-- The expression, or its inverse, has the value of the power on the left of something.
pub record Shows (net : Network) (left : Links) (inverse : Bool) (e : Expression) : Type 0 where
  pub shown : (h : Held) → Has net h left (inverse_if inverse (value_in h e))

-- the coil to which the power, or its inverse, is assigned
abbrev pub assigning : (inverse : Bool) → CoilKind
assigning inverse = if inverse then Negated else Plain

-- the coil that switches its variable on, or off
abbrev pub latching : (on : Bool) → CoilKind
latching on = if on then Set else Reset

-- what is left where another run follows, unless a RETURN has ended the one before
abbrev pub and_then : (Held → Ran) → Ran → Ran
and_then more r = if r.has_returned then r else more r.held

-- what one of two lists leaves
abbrev pub ran_by : List Instance → ℕ → (accepted otherwise : StatementList) → Held → Bool → Ran
ran_by instances now accepted otherwise h on = if on then run instances now accepted h else run instances now otherwise h

-- The list is an IF and those behind it.
pub record IsChoice (e : Expression) (accepted otherwise next list : StatementList) : Type 0 where
  pub chosen : (instances : List Instance) (now : ℕ) (h : Held)
      → run instances now list h ≡ and_then (run instances now next) (ran_by instances now accepted otherwise h (value_in h e))

-- The list is an IF without ELSE and those behind it.
pub record IsSelection (e : Expression) (accepted next list : StatementList) : Type 0 where
  pub chosen : (instances : List Instance) (now : ℕ) (h : Held)
      → run instances now list h ≡ and_then (run instances now next) (if value_in h e then run instances now accepted h else ran false h)

-- The statements assign the constant.
pub record Latches (variable : ℕ) (on : Bool) (list : StatementList) : Type 0 where
  pub latched : (instances : List Instance) (now : ℕ) (h : Held) → run instances now list h ≡ ran false (assigned variable on h)

-- The statements end the run.
pub record IsReturn (list : StatementList) : Type 0 where
  pub returned : (instances : List Instance) (now : ℕ) (h : Held) → run instances now list h ≡ ran true h

-- Where the statements `next`, and then a run, do what other elements do, the list and that run do what the one does and then the others.
pub record Does (net : Network) (effect : Effect) (list next : StatementList) : Type 0 where
  pub follows : (instances : List Instance) (now : ℕ) (effects : List Effect) (more : Held → Ran)
      → ((h : Held) → Runs net instances now effects h (and_then more (run instances now next h)))
      → (h : Held) → Runs net instances now (effect ∷ effects) h (and_then more (run instances now list h))

-- Where a run does what other elements do, the list and then that run do what these do and then the others.
pub record DoAll (net : Network) (effects : List Effect) (list : StatementList) : Type 0 where
  pub follow : (instances : List Instance) (now : ℕ) (others : List Effect) (more : Held → Ran)
      → ((h : Held) → Runs net instances now others h (more h))
      → (h : Held) → Runs net instances now (effects ++ others) h (and_then more (run instances now list h))

-- There is power on the left of something in each state.
pub record IsAlways (net : Network) (left : Links) : Type 0 where
  pub always : (h : Held) → Has net h left true

-- From the end of the elements of one arm, those behind the other arm are reached: `end` are those that the former ends in.
pub record LeadsPast (net : Network) (end behind rest : List Effect) : Type 0 where
  pub leads : (instances : List Instance) (now : ℕ) (others : List Effect) (more : Held → Ran)
      → ((h : Held) → Runs net instances now (rest ++ others) h (more h))
      → (h : Held) → Runs net instances now (end ++ (behind ++ others)) h (more h)

-- The elements over which a jump leads begin with one arm, and those behind them are the other arm and the rest, to which the former leads.
pub record AreArms (net : Network) (passed behind first second rest : List Effect) : Type 0 where
  pub end : List Effect
  pub parted : passed ≡ first ++ end
  pub goes_on : behind ≡ second ++ rest
  pub past : LeadsPast net end behind rest

-- The arms aren't longer than what they are in.
pub record AreShorter (passed behind first second rest : List Effect) : Type 0 where
  pub first_is : length first ≤ length passed
  pub second_is : length second ≤ length behind
  pub rest_is : length rest ≤ length behind

-- Nor are they longer than all elements.
pub record AreWithin (all first second rest : List Effect) : Type 0 where
  pub first_is : length first ≤ length all
  pub second_is : length second ≤ length all
  pub rest_is : length rest ≤ length all

-- A jump and the elements behind it are what an IF and those behind it do, where its two arms and the rest do what lists do.
pub record Chooses (net : Network) (jump : Effect) (effects first second rest : List Effect) (accepted otherwise next list : StatementList) : Type 0 where
  pub chooses : DoAll net first accepted → DoAll net second otherwise → DoAll net rest next → DoAll net (jump ∷ effects) list
