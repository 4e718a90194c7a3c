-- Private to the simulation: what its inner functions allocate before a first write, how they read a field, and choose variables.
use Rattle.std.specs.Prelude.{◌≡◌, ◌∷◌, ◌*◌, ℕ, List, [], Bool, true, false, Some, drop, length, map, slice_index_or}
use Rattle.std.specs.List.{count_by}
use Rattle.diagram_declarations.specs.declared.decls.Var.{Var}
use Rattle.diagram_declarations.specs.Decls.{is_input}
use Rattle.diagram_program.specs.Program.{Drawing}
use Rattle.io_text.specs.Left.{Fields}
use Rattle.io_text.specs.Text.{is_on}
use Rattle.scan_cycle.specs.Standing.{Fits}
use Rattle.text_trace.specs.declared.simulation.Room.{Room}
use Rattle.text_trace.specs.Trace.{is_output, values_of}

-- These are the numbers of the variables that are asked for: whatever values the variables have, those at these places are theirs.
abbrev pub ArePicked : (Var → Bool) → List Var → List ℕ → Type 0
ArePicked is_asked vars numbers =
    (values : List Bool) → length values ≡ length vars → map (λ n. slice_index_or values n false) numbers ≡ values_of is_asked vars values

-- There is a place for each input, with the numbers of the inputs; there are two bytes for each output, a comma and a bit, with the numbers
-- of the outputs; the block is empty, and there is a place for the state before a scan.
pub record IsReady (p : Drawing) (room : Room) : Type 0 where
  pub wide : length room.image.items ≡ count_by is_input p.decls.vars
  pub places : length room.image.items ≡ length room.inputs.items
  pub inputs : ArePicked is_input p.decls.vars room.inputs.items
  pub outputs : ArePicked is_output p.decls.vars room.outputs.items
  pub line : length room.line.items ≡ 2 * length room.outputs.items
  pub empty : room.buffer ≡ []
  pub fits : Fits p room.before

-- These are the bits of a record, after its moment.
abbrev pub bits_of : Fields → List Bool
bits_of fields = map (λ f. is_on (Some f)) (drop 1 fields)

-- These are the elements of a list that are marked.
abbrev pub chosen : {A : Type 0} → List Bool → List A → List A
chosen [] xs = []
chosen (b ∷ marks) [] = []
chosen (true ∷ marks) (x ∷ xs) = x ∷ chosen marks xs
chosen (false ∷ marks) (x ∷ xs) = chosen marks xs
