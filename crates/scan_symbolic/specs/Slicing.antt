-- Private: which steps of a program matter to a variable. They are found from the last step to the first, by what the steps after each read.
use Rattle.std.specs.Prelude.{ℕ, ◌+◌, Bool, true, false, ◌||◌, if◌then◌else◌, List, [], ◌∷◌, length, replicate, slice_index_or, slice_set}
use Rattle.diagram_program.specs.declared.gates.TheConstants.{LINKS, OWN}
use Rattle.diagram_program.specs.declared.cell.Operand.{Operand}
use Rattle.diagram_program.specs.declared.cell.Operand.TheVariants.{Var, Output}
use Rattle.diagram_program.specs.declared.cell.Cell.{Cell}
use Rattle.diagram_program.specs.declared.cell.Cell.TheVariants as cell
use Rattle.diagram_program.specs.declared.steps.Spot.{Spot}
use Rattle.diagram_program.specs.declared.steps.Step.{Step}
use Rattle.diagram_program.specs.declared.steps.Step.TheVariants.{Is, Not, Rare}
use Rattle.diagram_program.specs.declared.steps.Rare.TheVariants.{Wire, Rising, Falling, Block, Own, Store, Set, Reset, End, Act, Leave, Turn}
use Rattle.diagram_program.specs.Program.{Drawing}
use Rattle.diagram_program.specs.Steps.{steps_below}
use Rattle.scan_cycle.specs.Programs.{diagram_of}

-- What the steps from a point on read of what is there: marks for the values, the Qs and the links, and whether they read guards.
pub record Needs : Type 0 where
  pub values : List Bool
  pub ends : List Bool
  pub links : List Bool
  pub guards : Bool

-- A number past the last one counts as marked.
abbrev pub marked : List Bool → ℕ → Bool
marked marks i = slice_index_or marks i true

abbrev pub mark : List Bool → ℕ → List Bool
mark marks i = slice_set marks i true

abbrev pub unmark : List Bool → ℕ → List Bool
unmark marks i = slice_set marks i false

-- ---- which steps are kept

-- a gate that keeps besides what its cell alone lets through
abbrev pub keeps_own : Needs → Spot → Bool
keeps_own n spot = marked n.links spot.place || marked n.links (OWN + spot.place)

abbrev pub keeps_act : Needs → Cell → Bool
keeps_act n (cell.Coil mode var memory) = marked n.values var
keeps_act n (cell.Block inst) = marked n.ends inst
keeps_act n other = false

-- The step writes something that a step after it reads.
abbrev pub keeps : Drawing → Needs → Step → Bool
keeps p n (Is spot var) = marked n.links spot.place
keeps p n (Not spot var) = marked n.links spot.place
keeps p n (Rare (Wire spot)) = keeps_own n spot
keeps p n (Rare (Rising spot var memory)) = keeps_own n spot
keeps p n (Rare (Falling spot var memory)) = keeps_own n spot
keeps p n (Rare (Block spot below inst)) = keeps_own n spot
keeps p n (Rare (Own spot below rung)) = keeps_own n spot
keeps p n (Rare (Store left var)) = marked n.values var
keeps p n (Rare (Set left var)) = marked n.values var
keeps p n (Rare (Reset left var)) = marked n.values var
keeps p n (Rare (End place inst)) = marked n.ends inst
keeps p n (Rare (Act rung place left)) = keeps_act n ((diagram_of p).cell rung place)
keeps p n (Rare (Leave rung left)) = n.guards
keeps p n (Rare (Turn rung)) = n.guards

-- ---- what a kept step reads

-- Before a gate its place counts no more, and what it looks at does.
abbrev pub by_gate : Spot → List Bool → List Bool
by_gate spot links = mark (mark (unmark links spot.place) spot.left) spot.other

abbrev pub by_own : Spot → List Bool → List Bool
by_own spot links = mark (mark (unmark (unmark links spot.place) (OWN + spot.place)) spot.left) spot.other

-- a contact reads its operand
abbrev pub operand_values : Operand → List Bool → List Bool
operand_values (Var var) values = mark values var
operand_values (Output inst) values = values

abbrev pub operand_ends : Operand → List Bool → List Bool
operand_ends (Var var) ends = ends
operand_ends (Output inst) ends = mark ends inst

abbrev pub cell_values : Cell → List Bool → List Bool
cell_values (cell.Contact mode operand memory) values = operand_values operand values
cell_values other values = values

abbrev pub cell_ends : Cell → List Bool → List Bool
cell_ends (cell.Contact mode operand memory) ends = operand_ends operand ends
cell_ends other ends = ends

-- What is read from a step on, by what is read after it. A step that writes reads its guard.
abbrev pub reads : Drawing → Step → Needs → Needs
reads p (Is spot var) n = record n { values = mark n.values var; links = by_gate spot n.links }
reads p (Not spot var) n = record n { values = mark n.values var; links = by_gate spot n.links }
reads p (Rare (Wire spot)) n = record n { links = by_own spot n.links }
reads p (Rare (Rising spot var memory)) n = record n { values = mark n.values var; links = by_own spot n.links }
reads p (Rare (Falling spot var memory)) n = record n { values = mark n.values var; links = by_own spot n.links }
reads p (Rare (Block spot below inst)) n = record n { links = mark (by_own spot n.links) below }
reads p (Rare (Own spot below rung)) n =
    let c = (diagram_of p).cell rung spot.place in
    record n { values = cell_values c n.values; ends = cell_ends c n.ends; links = mark (by_own spot n.links) below }
reads p (Rare (Store left var)) n = record n { links = mark n.links left; guards = true }
reads p (Rare (Set left var)) n = record n { links = mark n.links left; guards = true }
reads p (Rare (Reset left var)) n = record n { links = mark n.links left; guards = true }
reads p (Rare (End place inst)) n = record n { links = mark n.links (OWN + place); guards = true }
reads p (Rare (Act rung place left)) n = record n { links = mark (mark n.links left) (OWN + place); guards = true }
reads p (Rare (Leave rung left)) n = record n { links = mark n.links left }
reads p (Rare (Turn rung)) n = n

-- ---- the slice

-- what is read from the first of some steps on, where `n` is read after the last of them
unfoldable pub needs_before : Drawing → List Step → Needs → Needs
needs_before p [] n = n
needs_before p (s ∷ ss) n = let m = needs_before p ss n in if keeps p m s then reads p s m else m

-- the steps that are kept
unfoldable pub kept_of : Drawing → List Step → Needs → List Step
kept_of p [] n = []
kept_of p (s ∷ ss) n = if keeps p (needs_before p ss n) s then s ∷ kept_of p ss n else kept_of p ss n

-- after the last step a variable is read, and nothing else
abbrev pub needs_of : Drawing → ℕ → Needs
needs_of p var = record {
  values = mark (replicate (length p.decls.vars) false) var;
  ends = replicate (length p.decls.instances) false;
  links = replicate LINKS false;
  guards = false;
}

-- the steps that matter to a variable
abbrev pub slice_of : Drawing → ℕ → List Step
slice_of p var = kept_of p (steps_below p p.rungs) (needs_of p var)
