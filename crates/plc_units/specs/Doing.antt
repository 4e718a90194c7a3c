-- A program in Structured Text that does what a program of a project does.
use Rattle.std.specs.Prelude.{◌≡◌, ℕ, Bool, true, false, List, [], ◌∷◌, Option, Some, None, drop, slice_get, take}
use Rattle.diagram_declarations.specs.declared.decls.Instance.{Instance}
use Rattle.scan_cycle.specs.Rung.{Held}
use Rattle.st_statements.specs.Run.{run}
use Rattle.st_program.specs.declared.program.StProgram.{StProgram}
use Rattle.st_program.specs.declared.symbols.Section.TheVariants.{Input}
use Rattle.st_program.specs.declared.symbols.Sort.TheVariants as sort
use Rattle.st_program.specs.declared.symbols.StVariable.{StVariable}
use Rattle.xml_document.specs.Items.{Item}
use Rattle.xml_parts.specs.Parts.{parts_in}
use Rattle.network_check.specs.declared.effect.Effect.{Effect}
use Rattle.network_check.specs.Runs.{Runs}
use Rattle.plc_declarations.specs.Declarations.{IsInterface}
use Rattle.plc_declarations.specs.Types.{trigger_sort}
use Rattle.plc_elements.specs.declared.names.Body.{Body}
use Rattle.plc_elements.specs.Body.{IsBody}
use Rattle.plc_elements.specs.Elements.{parts_of}
use Rattle.plc_elements.specs.Words.{falling_in}

-- The body is one of names that a program in Structured Text declares.
pub record IsNamedBy (b : Body) (text : List ℕ) (program : StProgram) : Type 0 where
  pub of_text : b.names.text.now ≡ text
  pub variables : b.names.variables.now ≡ program.variables.items
  pub instances : b.names.instances.now ≡ program.instances.items

-- ---- variables behind the declared ones

-- The variable is the output of a trigger for the edge of the part with a number.
pub record IsTriggerFor (b : Body) (number : ℕ) (x : StVariable) : Type 0 where
  pub part : List ℕ × List Item
  pub falling : Bool
  pub at : slice_get (parts_of b) number ≡ Some part
  pub is_edge : falling_in part.1 ≡ Some falling
  pub sort : x.sort ≡ trigger_sort falling
  pub no_address : x.address ≡ None
  pub initial : x.initial ≡ false

-- The variable is an input, which may have any value.
pub record IsOpenInput (x : StVariable) : Type 0 where
  pub sort : x.sort ≡ sort.Bool
  pub listed : x.section ≡ Input
  pub no_address : x.address ≡ None

-- an input for each output that is open
abbrev pub AreOpenInputs : (opened : List ℕ) → List StVariable → Type 0
AreOpenInputs [] [] = Unit {0}
AreOpenInputs (place ∷ places) (x ∷ xs) = IsOpenInput x × AreOpenInputs places xs
AreOpenInputs opened xs = ⊥

-- a trigger for each edge, and then those
abbrev pub AreAdded : Body → (edges opened : List ℕ) → List StVariable → Type 0
AreAdded b [] opened xs = AreOpenInputs opened xs
AreAdded b (number ∷ numbers) opened (x ∷ xs) = IsTriggerFor b number x × AreAdded b numbers opened xs
AreAdded b (number ∷ numbers) opened [] = ⊥

-- Some outputs are open, where they may be.
abbrev pub MayBeOpen : (is_open : Bool) → (opened : List ℕ) → Type 0
MayBeOpen true opened = Unit {0}
MayBeOpen false opened = opened ≡ []

-- The program declares what the interface declares, and behind it a trigger for each edge of the body, and an input for each output that is open.
pub record Declares (is_open : Bool) (interface : Option (List Item)) (b : Body) (text : List ℕ) (program : StProgram) : Type 0 where
  pub as_asked : b.is_open ≡ is_open
  pub may : MayBeOpen is_open b.opened.now
  pub declared : IsInterface text interface (take b.names.declared program.variables.items) program.instances.items
  pub added : AreAdded b b.edges.now b.opened.now (drop b.names.declared program.variables.items)

-- ---- units

-- The statements do what the parts of the body do, one after the other by the power that they have in the network, from each state and at each moment.
pub record DoesBody (b : Body) (body : List Item) (program : StProgram) : Type 0 where
  pub order : List ℕ
  pub effects : List Effect
  pub parts : parts_of b ≡ parts_in body
  pub is_body : IsBody b order effects
  pub runs : (instances : List Instance) (now : ℕ) (h : Held) → Runs b.network instances now effects h (run instances now program.statements h)

-- The program declares what the interface declares, and its statements do what the body does; outputs of blocks that aren't known may be open.
pub record DoesUnit (is_open : Bool) (interface : Option (List Item)) (body : List Item) (text : List ℕ) (program : StProgram) : Type 0 where
  pub view : Body
  pub named : IsNamedBy view text program
  pub declares : Declares is_open interface view text program
  pub does : DoesBody view body program
