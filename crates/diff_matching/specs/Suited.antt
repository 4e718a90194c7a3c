-- A matching suits two programs: its pairs are of what can belong together.
use Rattle.std.specs.Prelude.{◌≡◌, ◌≢◌, ◌<◌, Bool, true, false, List, Some, map, slice_get}
use Rattle.std.specs.List.{All, AllPairs}
use Rattle.diagram_declarations.specs.declared.kind.BlockKind.{BlockKind}
use Rattle.diagram_declarations.specs.Decls.{is_input}
use Rattle.diagram_program.specs.Program.{Drawing, memories_of}
use Rattle.diff_matching.specs.declared.matching.Pair.{Pair}
use Rattle.diff_matching.specs.Matching.{Matching}

-- both are inputs, or both are other variables
abbrev pub AreBoth : Bool → Drawing → Drawing → Pair → Type 0
AreBoth inputs p q x = (slice_get (map is_input p.decls.vars) x.old ≡ Some inputs) × (slice_get (map is_input q.decls.vars) x.new ≡ Some inputs)

-- both are instances of the kind
abbrev pub AreOfKind : BlockKind → Drawing → Drawing → Pair → Type 0
AreOfKind kind p q x = (slice_get (map (λ i. i.kind) p.decls.instances) x.old ≡ Some kind) × (slice_get (map (λ i. i.kind) q.decls.instances) x.new ≡ Some kind)

-- No number of NEW is in two pairs.
abbrev pub AreOnce : List Pair → Type 0
AreOnce pairs = AllPairs (λ x y. x.new ≢ y.new) pairs

-- Inputs are with inputs, other variables with other variables, instances with instances of the same kind, memories with memories. What NEW has
-- is in one pair at most.
pub record IsSuited (m : Matching) (p q : Drawing) : Type 0 where
  pub inputs : All (AreBoth true p q) m.inputs
  pub variables : All (AreBoth false p q) m.variables
  pub instances : All (λ x. (kind : BlockKind) × AreOfKind kind p q x) m.instances
  pub memories : All (λ x. (x.old < memories_of p) × (x.new < memories_of q)) m.memories
  pub inputs_once : AreOnce m.inputs
  pub variables_once : AreOnce m.variables
  pub instances_once : AreOnce m.instances
  pub memories_once : AreOnce m.memories
