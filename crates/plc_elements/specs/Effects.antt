-- What the parts of a body of ladder diagram do by their power.
use Rattle.std.specs.Prelude.{◌≡◌, ℕ, ◌+◌, Bool, true, false, ◌&&◌, ◌||◌, List, [], ◌∷◌, codes, Option, Some, None, if◌then◌else◌, slice_get}
use Rattle.std.specs.Option.{option_map_or}
use Rattle.std.specs.List.{list_all, list_any}
use Rattle.std.specs.Str.{bytes_eq}
use Rattle.diagram_declarations.specs.declared.kind.BlockKind.{BlockKind}
use Rattle.diagram_declarations.specs.declared.kind.BlockKind.TheVariants as kind
use Rattle.diagram_declarations.specs.declared.kind.Parameter.{Parameter}
use Rattle.diagram_declarations.specs.Kind.{traits_of}
use Rattle.diagram_declarations.specs.Name.{same_letters}
use Rattle.st_program.specs.declared.program.StInstance.{StInstance}
use Rattle.st_program.specs.Declarations.{IsPreset}
use Rattle.xml_document.specs.Items.{Item}
use Rattle.xml_parts.specs.Parts.{attribute_in, part_in, all_in}
use Rattle.network_power.specs.declared.network.Links.{Links}
use Rattle.network_check.specs.declared.effect.Effect.{Effect}
use Rattle.network_check.specs.declared.effect.Effect.TheVariants.{Coil, Call, Return, Jump, Label}
use Rattle.network_check.specs.declared.effect.Effect.TheVariants as effect
use Rattle.network_check.specs.declared.effect.CoilKind.{CoilKind}
use Rattle.network_check.specs.declared.effect.CoilKind.TheVariants.{Plain}
use Rattle.plc_elements.specs.declared.inputs.Callee.{Callee}
use Rattle.plc_elements.specs.declared.inputs.Callee.TheVariants.{Trigger, Block}
use Rattle.plc_elements.specs.declared.inputs.Role.{Role}
use Rattle.plc_elements.specs.declared.inputs.Role.TheVariants.{First, Second, Preset}
use Rattle.plc_elements.specs.declared.names.Body.{Body}
use Rattle.plc_elements.specs.Elements.{AreConnected, Refers, parts_of}
use Rattle.plc_elements.specs.Names.{IsBlock, IsTriggerBlock, IsVariable}
use Rattle.plc_elements.specs.Words.{attribute_or, coil_kind, connections_in, is_empty, is_plain, negation, says_none, word_in}

-- ---- inputs of blocks

-- The names of the first input of a block, of the second one, which timers don't have, and of the preset, which bistables don't have. The inputs of
-- bistables have two names each, since tools differ. A trigger has one input.
abbrev pub words_of : Callee → Role → List (List ℕ)
words_of (Block kind.Ctu) First = codes "CU" ∷ []
words_of (Block kind.Ctd) First = codes "CD" ∷ []
words_of (Block kind.Sr) First = codes "S1" ∷ codes "SET1" ∷ []
words_of (Block kind.Rs) First = codes "S" ∷ codes "SET" ∷ []
words_of (Block _) First = codes "IN" ∷ []
words_of (Block kind.Ctu) Second = codes "R" ∷ []
words_of (Block kind.Ctd) Second = codes "LD" ∷ []
words_of (Block kind.Sr) Second = codes "R" ∷ codes "RESET" ∷ []
words_of (Block kind.Rs) Second = codes "R1" ∷ codes "RESET1" ∷ []
words_of (Block _) Second = []
words_of (Block kind.Ctu) Preset = codes "PV" ∷ []
words_of (Block kind.Ctd) Preset = codes "PV" ∷ []
words_of (Block kind.Sr) Preset = []
words_of (Block kind.Rs) Preset = []
words_of (Block _) Preset = codes "PT" ∷ []
words_of Trigger First = codes "CLK" ∷ []
words_of Trigger _ = []

-- The input has a name of this role, whatever the case of letters.
abbrev pub is_named : Callee → Role → (input : List Item) → Bool
is_named k role input = list_any (same_letters (attribute_or (codes "formalParameter") [] input)) (words_of k role)

-- the inputs of a block
abbrev pub inputs_in : List Item → List (List Item)
inputs_in items = option_map_or (all_in (codes "variable")) (part_in (codes "inputVariables") items) []

-- those with a name of this role
abbrev pub inputs_named : Callee → Role → List (List Item) → List (List Item)
inputs_named k role [] = []
inputs_named k role (x ∷ xs) = if is_named k role x then x ∷ inputs_named k role xs else inputs_named k role xs

-- what one input at most is connected with; None where there are several
abbrev pub only_connections : List (List Item) → Option (List (List Item))
only_connections [] = Some []
only_connections (x ∷ []) = Some (connections_in x)
only_connections xs = None

-- what the input of this role is connected with
abbrev pub given : Callee → Role → (block : List Item) → Option (List (List Item))
given k role items = only_connections (inputs_named k role (inputs_in items))

-- On the left of an input stand these connections.
pub record IsInput (b : Body) (items : List Item) (k : Callee) (role : Role) (left : Links) : Type 0 where
  pub connections : List (List Item)
  pub are : given k role items ≡ Some connections
  pub connected : AreConnected b left connections

-- The input is one of the block, or nothing is connected with it.
abbrev pub is_known : Callee → (input : List Item) → Bool
is_known k input = is_plain input && (is_named k First input || (is_named k Second input || (is_named k Preset input || is_empty (connections_in input))))

-- the outputs of a block
abbrev pub outputs_in : List Item → List (List Item)
outputs_in items = option_map_or (all_in (codes "variable")) (part_in (codes "outputVariables") items) []

-- ---- presets

-- The connection is with an inVariable that is a literal of this value.
pub record IsLiteral (b : Body) (p : Parameter) (connection : List Item) (n : ℕ) : Type 0 where
  pub number : ℕ
  pub part : List ℕ × List Item
  pub refers : Refers b number connection
  pub at : slice_get (parts_of b) number ≡ Some part
  pub is_variable : part.0 ≡ codes "inVariable"
  pub plain : negation part.1 ≡ Some false
  pub literal : IsPreset p (word_in (codes "expression") part.1) n

-- The input of the preset is connected with a literal of this value; a block without one has any.
abbrev pub IsPresetOf : Body → List Item → BlockKind → Option Parameter → ℕ → Type 0
IsPresetOf b items k None n = Unit {0}
IsPresetOf b items k (Some p) n = (connection : List Item) × (given (Block k) Preset items ≡ Some (connection ∷ [])) × IsLiteral b p connection n

-- ---- effects

pub record IsCoil (b : Body) (items : List Item) (variable : ℕ) (kind : CoilKind) (left : Links) : Type 0 where
  pub negated : Bool
  pub no_edge : says_none (codes "edge") items ≡ true
  pub is_negated : negation items ≡ Some negated
  pub is_kind : coil_kind negated items ≡ Some kind
  pub called : IsVariable b.names variable (word_in (codes "variable") items)
  pub connected : AreConnected b left (connections_in items)

-- an outVariable that is a variable
pub record IsWritten (b : Body) (items : List Item) (variable : ℕ) (left : Links) : Type 0 where
  pub plain : is_plain items ≡ true
  pub called : IsVariable b.names variable (word_in (codes "expression") items)
  pub connected : AreConnected b left (connections_in items)

pub record IsCall (b : Body) (items : List Item) (number : ℕ) (first second : Links) : Type 0 where
  pub block : StInstance
  pub is_block : IsBlock b.names items number block
  pub known : list_all (is_known (Block block.kind)) (inputs_in items) ≡ true
  pub plain : list_all is_plain (outputs_in items) ≡ true
  pub is_first : IsInput b items (Block block.kind) First first
  pub is_second : IsInput b items (Block block.kind) Second second
  pub preset : IsPresetOf b items block.kind (traits_of block.kind).parameter block.preset

-- a call of a declared trigger
pub record IsTriggerCall (b : Body) (items : List Item) (falling : Bool) (variable : ℕ) (left : Links) : Type 0 where
  pub is_block : IsTriggerBlock b.names items falling variable
  pub known : list_all (is_known Trigger) (inputs_in items) ≡ true
  pub plain : list_all is_plain (outputs_in items) ≡ true
  pub is_clock : IsInput b items Trigger First left

-- What a part does.
pub data IsDone (b : Body) (name : List ℕ) (items : List Item) : Effect → Type 0 where
  coil : (variable : ℕ) (kind : CoilKind) (left : Links) → name ≡ codes "coil" → IsCoil b items variable kind left
      → IsDone b name items (Coil variable kind left)
  written : (variable : ℕ) (left : Links) → name ≡ codes "outVariable" → IsWritten b items variable left
      → IsDone b name items (Coil variable Plain left)
  call : (number : ℕ) (first second : Links) → name ≡ codes "block" → IsCall b items number first second
      → IsDone b name items (Call number first second)
  trigger : (variable memory : ℕ) (falling : Bool) (left : Links) → name ≡ codes "block" → IsTriggerCall b items falling variable left
      → IsDone b name items (effect.Trigger variable memory falling left)
  returned : (left : Links) → name ≡ codes "return" → AreConnected b left (connections_in items) → IsDone b name items (Return left)
  jump : (over : ℕ) (left : Links) → name ≡ codes "jump" → AreConnected b left (connections_in items) → IsDone b name items (Jump over left)
  label : name ≡ codes "label" → IsDone b name items Label

-- ---- where jumps lead

-- a label with this word
abbrev pub is_label : (word : List ℕ) → List ℕ × List Item → Bool
is_label word part = bytes_eq part.0 (codes "label") && option_map_or (bytes_eq word) (attribute_in (codes "label") part.1) false

-- the places of the labels with this word among the parts, counted from a number on
abbrev pub labels_from : ℕ → (word : List ℕ) → List (List ℕ × List Item) → List ℕ
labels_from n word [] = []
labels_from n word (part ∷ parts) = if is_label word part then n ∷ labels_from (n + 1) word parts else labels_from (n + 1) word parts

-- The part that acts behind those over which the jump leads is the only label with the word that the jump has.
pub record LeadsTo (b : Body) (jump : List Item) (over : ℕ) (behind : List ℕ) : Type 0 where
  pub word : List ℕ
  pub target : ℕ
  pub has : attribute_in (codes "label") jump ≡ Some word
  pub only : labels_from 0 word (parts_of b) ≡ target ∷ []
  pub at : slice_get behind over ≡ Some target

-- A jump leads over some of those that act behind it to its label; whatever else a part does, the next acts after it.
abbrev pub Lands : Body → List Item → Effect → (behind : List ℕ) → Type 0
Lands b items (Jump over left) behind = LeadsTo b items over behind
Lands b items effect behind = Unit {0}
