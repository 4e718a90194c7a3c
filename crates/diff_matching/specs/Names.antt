-- What belongs together by names: the rule of the command line. No law depends on it.
use Rattle.std.specs.Prelude.{◌≡◌, ◌==◌, ◌<◌, ℕ, Bool, true, false, List, Option, Some, None, count_by, if◌then◌else◌, map, slice_get, take}
use Rattle.std.specs.List.{All, AllPairs, Contains, filter_map, range_with_len}
use Rattle.diagram_declarations.specs.declared.decls.Instance.{Instance}
use Rattle.diagram_declarations.specs.declared.decls.Symbol.TheVariants as symbol
use Rattle.diagram_declarations.specs.declared.decls.Var.{Var}
use Rattle.diagram_declarations.specs.Decls.{Declared, find, is_input, is_input_at}
use Rattle.diagram_program.specs.declared.cell.Cell.{Cell}
use Rattle.diagram_program.specs.declared.cell.Cell.TheVariants as cell
use Rattle.diagram_program.specs.declared.cell.Operand.TheVariants as operand
use Rattle.diagram_program.specs.Program.{Drawing, memories_of}
use Rattle.diff_matching.specs.declared.matching.Pair.{Pair}
use Rattle.diff_matching.specs.declared.owner.Owner.{Owner}
use Rattle.diff_matching.specs.declared.owner.Owner.TheVariants as owner
use Rattle.diff_matching.specs.Matching.{Matching}

-- The pairs are all those that belong together, ascending in OLD's numbers.
pub record AreAll (belongs : Pair → Type 0) (pairs : List Pair) : Type 0 where
  pub each : All belongs pairs
  pub all : (x : Pair) → belongs x → Contains pairs x
  pub ascending : AllPairs (λ x y. x.old < y.old) pairs

-- A variable of OLD, and the one that NEW declares under its name, in any letter case. Both are inputs, or neither is.
pub record AreOneVariable (p q : Declared) (x : Pair) : Type 0 where
  pub of_old : Var
  pub of_new : Var
  pub old : slice_get p.vars x.old ≡ Some of_old
  pub new : slice_get q.vars x.new ≡ Some of_new
  pub name : find q of_old.name ≡ Some (symbol.Var x.new)
  pub inputs : is_input of_old ≡ is_input of_new

-- An instance of OLD, and the one that NEW declares under its name, in any letter case. They are of one kind; their presets may differ.
pub record AreOneInstance (p q : Declared) (x : Pair) : Type 0 where
  pub of_old : Instance
  pub of_new : Instance
  pub old : slice_get p.instances x.old ≡ Some of_old
  pub new : slice_get q.instances x.new ≡ Some of_new
  pub name : find q of_old.name ≡ Some (symbol.Instance x.new)
  pub kinds : of_old.kind ≡ of_new.kind

-- the same of inputs alone, or of other variables alone
abbrev pub AreOneOfSort : Bool → Declared → Declared → Pair → Type 0
AreOneOfSort inputs p q x = AreOneVariable p q x × (is_input_at (slice_get p.vars x.old) ≡ inputs)

-- ---- memories of edges: of contacts by what they read, of coils by the variable that they write; the mode makes no difference

-- the number of a cell's memory, and its owner
abbrev pub edge_in : Cell → Option (ℕ × Owner)
edge_in (cell.Contact mode (operand.Var var) (Some n)) = Some (n, owner.Variable var)
edge_in (cell.Contact mode (operand.Output inst) (Some n)) = Some (n, owner.Output inst)
edge_in (cell.Coil mode var (Some n)) = Some (n, owner.Coil var)
edge_in other = None

-- the owner, where the memory has the number
abbrev pub owner_with : ℕ → Option (ℕ × Owner) → Option Owner
owner_with n (Some (number, of)) = if number == n then Some of else None
owner_with n None = None

-- the owner of the memory with a number, and the owners of all memories
abbrev pub owner_of : Drawing → ℕ → Option Owner
owner_of d n = slice_get (filter_map (λ s. owner_with n (edge_in s.cell)) d.sites) 0

unfoldable pub owners_of : Drawing → List (Option Owner)
owners_of d = map (owner_of d) (range_with_len 0 (memories_of d))

-- whether it is the owner
abbrev pub is_owner : Owner → Option Owner → Bool
is_owner (owner.Variable a) (Some (owner.Variable b)) = a == b
is_owner (owner.Output a) (Some (owner.Output b)) = a == b
is_owner (owner.Coil a) (Some (owner.Coil b)) = a == b
is_owner of other = false

-- How many memories of the owner come before one. Programs that were read have them numbered by rung, column and row.
abbrev pub rank : List (Option Owner) → Owner → ℕ → ℕ
rank owners of n = count_by (is_owner of) (take n owners)

-- a memory of the owner, before which so many others of it come
abbrev pub IsRanked : List (Option Owner) → Owner → ℕ → ℕ → Type 0
IsRanked owners of before n = (slice_get owners n ≡ Some (Some of)) × (rank owners of n ≡ before)

-- Contacts that read, or coils that write, what belongs together.
abbrev pub AreOneOwner : Declared → Declared → Owner → Owner → Type 0
AreOneOwner p q (owner.Variable a) (owner.Variable b) = AreOneVariable p q (record { old = a; new = b })
AreOneOwner p q (owner.Output a) (owner.Output b) = AreOneInstance p q (record { old = a; new = b })
AreOneOwner p q (owner.Coil a) (owner.Coil b) = AreOneVariable p q (record { old = a; new = b })
AreOneOwner p q of other = ⊥

-- The first memory of an owner belongs to the first of the owner that belongs to it, the second to the second, and so on.
pub record AreOneMemory (p q : Drawing) (x : Pair) : Type 0 where
  pub of_old : Owner
  pub of_new : Owner
  pub before : ℕ
  pub owners : AreOneOwner p.decls q.decls of_old of_new
  pub old : IsRanked (owners_of p) of_old before x.old
  pub new : IsRanked (owners_of q) of_new before x.new

-- ---- all of it

-- What belongs together by names.
pub record IsByNames (m : Matching) (p q : Drawing) : Type 0 where
  pub inputs : AreAll (AreOneOfSort true p.decls q.decls) m.inputs
  pub variables : AreAll (AreOneOfSort false p.decls q.decls) m.variables
  pub instances : AreAll (AreOneInstance p.decls q.decls) m.instances
  pub memories : AreAll (AreOneMemory p q) m.memories
