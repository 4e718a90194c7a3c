-- Private: a program as one list of steps, which a look over any signal takes one after the other, and what a program keeps beside its drawing.
use Rattle.std.specs.Prelude.{◌≡◌, ℕ, zero, suc, ◌+◌, nat_lt, ◌&&◌, ◌||◌, ◌==◌, Bool, false, List, [], ◌∷◌, ◌++◌, map, filter_map, Option, Some, None, if◌then◌else◌}
use Rattle.diagram_program.specs.declared.gates.TheConstants.{VARIABLES}
use Rattle.diagram_program.specs.declared.mode.Mode.{Mode}
use Rattle.diagram_program.specs.declared.mode.Mode.TheVariants as mode
use Rattle.diagram_program.specs.declared.mode.CoilMode.{CoilMode}
use Rattle.diagram_program.specs.declared.mode.CoilMode.TheVariants as coil
use Rattle.diagram_program.specs.declared.cell.Operand.{Operand}
use Rattle.diagram_program.specs.declared.cell.Operand.TheVariants as operand
use Rattle.diagram_program.specs.declared.cell.Cell.{Cell}
use Rattle.diagram_program.specs.declared.cell.Cell.TheVariants as cell
use Rattle.diagram_program.specs.declared.gates.Gate.{Gate}
use Rattle.diagram_program.specs.declared.gates.Action.{Action}
use Rattle.diagram_program.specs.declared.gates.Exit.{Exit}
use Rattle.diagram_program.specs.declared.gates.Leap.{Leap}
use Rattle.diagram_program.specs.declared.gates.Literal.{Literal}
use Rattle.diagram_program.specs.declared.gates.Literal.TheVariants as literal
use Rattle.diagram_program.specs.declared.steps.Spot.{Spot}
use Rattle.diagram_program.specs.declared.steps.Step.{Step}
use Rattle.diagram_program.specs.declared.steps.Step.TheVariants as step
use Rattle.diagram_program.specs.declared.steps.Rare.{Rare}
use Rattle.diagram_program.specs.declared.steps.Rare.TheVariants as rare
use Rattle.diagram_program.specs.Program.{Drawing, IsWhole, cell_of, jump_of, memories_of}
use Rattle.diagram_program.specs.Gates.{gates_of, actions_of, exit_of, leaps_below}
use Rattle.diagram_program.specs.Sheet.{IsOfEach}

-- ---- gates

abbrev pub spot_of : Gate → Spot
spot_of g = record { place = g.place; left = g.left; other = g.other }

abbrev pub own_step : ℕ → Gate → Rare
own_step rung g = rare.Own (spot_of g) g.below rung

-- an edge contact
abbrev pub edge_step : ℕ → Gate → Mode → ℕ → ℕ → Rare
edge_step rung g mode.Rising var memory = rare.Rising (spot_of g) var memory
edge_step rung g mode.Falling var memory = rare.Falling (spot_of g) var memory
edge_step rung g other var memory = own_step rung g

abbrev pub contact_step : ℕ → Gate → Mode → Operand → Option ℕ → Rare
contact_step rung g m (operand.Var var) (Some memory) = if nat_lt var VARIABLES && nat_lt memory VARIABLES then edge_step rung g m var memory else own_step rung g
contact_step rung g m other memory = own_step rung g

abbrev pub cell_step : ℕ → Gate → Cell → Rare
cell_step rung g cell.Wire = rare.Wire (spot_of g)
cell_step rung g (cell.Contact m x memory) = contact_step rung g m x memory
cell_step rung g (cell.Block inst) = if nat_lt inst VARIABLES then rare.Block (spot_of g) g.below inst else own_step rung g
cell_step rung g other = own_step rung g

abbrev pub literal_step : ℕ → Gate → Cell → Literal → Step
literal_step rung g c (literal.Is var) = step.Is (spot_of g) var
literal_step rung g c (literal.Not var) = step.Not (spot_of g) var
literal_step rung g c literal.Other = step.Rare (cell_step rung g c)

abbrev pub gate_step : Drawing → ℕ → Gate → Step
gate_step d rung g = literal_step rung g (cell_of d rung g.place) g.literal

-- ---- actions

abbrev pub act_step : ℕ → Action → Rare
act_step rung a = rare.Act rung a.place a.left

abbrev pub coil_step : ℕ → Action → CoilMode → ℕ → Rare
coil_step rung a coil.Store var = rare.Store a.left var
coil_step rung a coil.Inverse var = act_step rung a
coil_step rung a coil.Set var = rare.Set a.left var
coil_step rung a coil.Reset var = rare.Reset a.left var
coil_step rung a coil.Rising var = act_step rung a
coil_step rung a coil.Falling var = act_step rung a

-- An edge contact writes its memory alone, which a look leaves as it is.
abbrev pub action_step : ℕ → Action → Cell → Option Step
action_step rung a (cell.Coil m var memory) = Some (step.Rare (if nat_lt var VARIABLES then coil_step rung a m var else act_step rung a))
action_step rung a (cell.Block inst) = Some (step.Rare (if nat_lt inst VARIABLES then rare.End a.place inst else act_step rung a))
action_step rung a other = None

-- ---- rungs

-- The jump of rung i begins or ends there: it passes over rung n and not over the rung before, or the other way round.
abbrev pub turned_by : ℕ → ℕ → Option (ℕ × ℕ × ℕ) → Bool
turned_by n i None = false
turned_by n i (Some jump) = i + 1 == n || jump.2 == n

-- One of the jumps of the rungs below i does.
unfoldable pub turns_before : Drawing → ℕ → ℕ → Bool
turns_before d n zero = false
turns_before d n (suc i) = turns_before d n i || turned_by n i (jump_of d i)

abbrev pub turn_steps : ℕ → Bool → List Step
turn_steps rung turns = if turns then step.Rare (rare.Turn rung) ∷ [] else []

abbrev pub exit_steps : ℕ → Option Exit → List Step
exit_steps rung None = []
exit_steps rung (Some exit) = step.Rare (rare.Leave rung exit.left) ∷ []

-- Its guard, its gates, its jump and what it writes.
abbrev pub rung_steps : Drawing → ℕ → List Step
rung_steps d rung =
    turn_steps rung (turns_before d rung rung)
    ++ (map (gate_step d rung) (gates_of d rung)
    ++ (exit_steps rung (exit_of d rung)
    ++ filter_map (λ a. action_step rung a a.cell) (actions_of d rung)))

-- The steps of the rungs below n.
unfoldable pub steps_below : Drawing → ℕ → List Step
steps_below d zero = []
steps_below d (suc n) = steps_below d n ++ rung_steps d n

-- What a program keeps beside its drawing is the drawing's.
pub record IsCompiled (d : Drawing) (gates : List (List Gate)) (actions : List (List Action)) (jumps : List (Option (ℕ × ℕ × ℕ)))
    (exits : List (Option Exit)) (leaps : List Leap) (steps : List Step) (memories : ℕ) : Type 0 where
  pub whole : IsWhole d
  pub each_gates : IsOfEach d.rungs [] (gates_of d) gates
  pub each_actions : IsOfEach d.rungs [] (actions_of d) actions
  pub each_jump : IsOfEach d.rungs None (jump_of d) jumps
  pub each_exit : IsOfEach d.rungs None (exit_of d) exits
  pub all_leaps : leaps ≡ leaps_below d d.rungs
  pub all_steps : steps ≡ steps_below d d.rungs
  pub memory_count : memories ≡ memories_of d
