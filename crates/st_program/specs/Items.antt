-- What the words of statements are, with what their names stand for.
use Rattle.std.specs.Prelude.{◌≡◌, ℕ, ◌+◌, Bool, true, false, ◌&&◌, ◌||◌, ◌==◌, List, [], ◌∷◌, ◌++◌, Option, Some, None, codes, drop, take, position, slice_get, if◌then◌else◌}
use Rattle.diagram_declarations.specs.declared.kind.BlockKind.{BlockKind}
use Rattle.diagram_declarations.specs.declared.kind.Output.TheVariants as output
use Rattle.diagram_declarations.specs.declared.kind.Parameter.TheVariants as parameter
use Rattle.diagram_declarations.specs.Kind.{traits_of}
use Rattle.diagram_declarations.specs.Name.{same_letters}
use Rattle.diagram_declarations.specs.Text.{begins}
use Rattle.st_expression.specs.declared.expression.Operand.{Operand}
use Rattle.st_expression.specs.declared.expression.Operand.TheVariants as operand
use Rattle.st_expression.specs.declared.token.Token.{Token}
use Rattle.st_expression.specs.declared.token.Token.TheVariants as token
use Rattle.st_words.specs.declared.word.Word.{Word}
use Rattle.st_words.specs.Places.{spelled}
use Rattle.st_integers.specs.declared.value.IntegerValue.{IntegerValue}
use Rattle.st_integers.specs.Values.{variable_with}
use Rattle.st_program.specs.declared.formal.Formal.TheVariants as formal
use Rattle.st_program.specs.declared.item.Item.{Item}
use Rattle.st_program.specs.declared.item.Literal.{Literal}
use Rattle.st_program.specs.declared.item.Literal.TheVariants as literal
use Rattle.st_program.specs.declared.item.Named.{Named}
use Rattle.st_program.specs.declared.item.Named.TheVariants as named
use Rattle.st_program.specs.declared.mark.Mark.{Mark}
use Rattle.st_program.specs.declared.mark.Mark.TheVariants as mark
use Rattle.st_program.specs.declared.symbols.Section.TheVariants as section
use Rattle.st_program.specs.declared.symbols.Sort.TheVariants as sort
use Rattle.st_program.specs.declared.symbols.StVariable.{StVariable}
use Rattle.st_program.specs.declared.symbols.Block.{Block}
use Rattle.st_program.specs.Declarations.{IsInteger, IsPreset}
use Rattle.st_program.specs.Formals.{formal_of}
use Rattle.st_program.specs.Marks.{mark_of}
use Rattle.st_program.specs.Symbols.{Table, variable_of, block_of, integer_values, value_of}

-- `%I`: 73 and 105 are I and i
abbrev pub is_input_address : List ℕ → Bool
is_input_address [] = false
is_input_address (a ∷ bs) = a == 37 && begins (λ b. b == 73 || b == 105) bs

abbrev pub is_input_at : (text : List ℕ) → Option Word → Bool
is_input_at text (Some address) = is_input_address (spelled text address)
is_input_at text None = false

-- A variable of VAR_INPUT or at an address of an input is one.
abbrev pub is_input : (text : List ℕ) → StVariable → Bool
is_input text v = elim v.section [ section.Input ↦ true | _ ↦ is_input_at text v.address ]

-- what a name stands for
abbrev pub of_variable : (text : List ℕ) → StVariable → ℕ → Named
of_variable text v number =
    elim v.sort [
      | sort.Bool ↦ named.Variable number (is_input text v)
      | sort.Rising ↦ named.Trigger number false
      | sort.Falling ↦ named.Trigger number true
      | sort.Value of ↦ named.Integer of.integer
    ]

abbrev pub of_variable_at : (text : List ℕ) → Option StVariable → ℕ → Named
of_variable_at text (Some v) number = of_variable text v number
of_variable_at text None number = named.Nothing

abbrev pub of_block_at : Option Block → ℕ → Named
of_block_at (Some b) number = named.Block number b.kind b.preset
of_block_at None number = named.Nothing

abbrev pub block_named : List Block → Option ℕ → Named
block_named blocks (Some number) = of_block_at (slice_get blocks number) number
block_named blocks None = named.Nothing

unfoldable pub named_of : (text : List ℕ) → Table → List ℕ → Named
named_of text t word =
    elim (variable_of text t.variables word) [
      | Some number ↦ of_variable_at text (slice_get t.variables number) number
      | None ↦ block_named t.blocks (block_of text t.blocks word)
    ]

-- ---- operands: `Lamp`, `E1.Q`, `T1.Q`, `B1.Q1`

abbrev pub output_word : BlockKind → List ℕ
output_word k = elim (traits_of k).output [ output.Q ↦ codes "Q" | output.Q1 ↦ codes "Q1" ]

abbrev pub alone : Named → Option Operand
alone (named.Variable number input) = Some (operand.Variable number)
alone _ = None

abbrev pub member : Named → List ℕ → Option Operand
member (named.Trigger number falling) word = if same_letters word (codes "Q") then Some (operand.Variable number) else None
member (named.Block number k preset) word = if same_letters word (output_word k) then Some (operand.Output number) else None
member _ word = None

-- 46 is the point
unfoldable pub operand_of : (text : List ℕ) → Table → List ℕ → Option Operand
operand_of text t word =
    elim (position (λ b. b == 46) word) [ Some at ↦ member (named_of text t (take at word)) (drop (at + 1) word) | None ↦ alone (named_of text t word) ]

abbrev pub operand_token : Option Operand → Token
operand_token (Some o) = token.Operand o
operand_token None = token.Other

abbrev pub token_by : Mark → Option Operand → Token
token_by mark.On o = token.Constant true
token_by mark.Off o = token.Constant false
token_by mark.Not o = token.Not
token_by mark.And o = token.And
token_by mark.Or o = token.Or
token_by mark.Exclusive o = token.Exclusive
token_by mark.Equal o = token.Equal
token_by mark.Unequal o = token.Unequal
token_by mark.Open o = token.Open
token_by mark.Close o = token.Close
token_by mark.Other o = operand_token o
token_by _ o = token.Other

abbrev pub IsLiteral : List ℕ → Literal → Type 0
IsLiteral word literal.Nothing = Unit {0}
IsLiteral word (literal.Time n) = IsPreset parameter.Time word n
IsLiteral word (literal.Count n) = IsPreset parameter.Count word n

-- all that a word is
pub record IsItem (text : List ℕ) (t : Table) (w : Word) (item : Item) : Type 0 where
  pub word : item.word ≡ w
  pub mark : item.mark ≡ mark_of (spelled text w)
  pub token : item.token ≡ token_by (mark_of (spelled text w)) (operand_of text t (spelled text w))
  pub named : item.named ≡ named_of text t (spelled text w)
  pub formal : item.formal ≡ formal_of (spelled text w)
  pub literal : IsLiteral (spelled text w) item.literal

-- ---- `step = 10` and `step <> 10`, with an INT on the left

-- the variable that is ON while the INT has the number; FALSE where it never has it
abbrev pub comparison_token : Option ℕ → Token
comparison_token (Some number) = token.Operand (operand.Variable number)
comparison_token None = token.Constant false

abbrev pub compared : Word → Mark → Token → Item
compared word sign is =
    record {
      word = word;
      mark = sign;
      token = is;
      named = named.Compared;
      formal = formal.Other;
      literal = literal.Nothing;
      is_member = false;
      is_name = false;
    }

-- A comparison is an operand, behind NOT where it is one for being unequal.
abbrev pub comparison : Word → (equal : Bool) → Option ℕ → List Item
comparison word true number = compared word mark.Other (comparison_token number) ∷ []
comparison word false number = compared word mark.Not token.Not ∷ compared word mark.Other (comparison_token number) ∷ []

abbrev pub equality_of : Mark → Option Bool
equality_of mark.Equal = Some true
equality_of mark.Unequal = Some false
equality_of _ = None

-- NOT, `=` and `<>` bind as tight as a comparison or tighter: behind them one is in parentheses.
abbrev pub is_loose : Mark → Bool
is_loose mark.Not = false
is_loose mark.Equal = false
is_loose mark.Unequal = false
is_loose _ = true

-- the variables that stand for the values of INTs
abbrev pub values_in : Table → List (Option IntegerValue)
values_in t = integer_values t.variables

-- The words begin with a comparison, and the rest is behind it: of a name, by a sign, with what this variable stands for.
pub record IsCompared (text : List ℕ) (t : Table) (words rest : List Word) (name : Word) (equal : Bool) (number : Option ℕ) : Type 0 where
  pub sign : Word
  pub digits : Word
  pub integer : ℕ
  pub n : ℕ
  pub whole : words ≡ name ∷ sign ∷ digits ∷ rest
  pub is_integer : named_of text t (spelled text name) ≡ named.Integer integer
  pub equality : equality_of (mark_of (spelled text sign)) ≡ Some equal
  pub value : IsInteger (spelled text digits) n
  pub stands : number ≡ variable_with (values_in t) integer n

-- what the words are, one by one or as comparisons, where a comparison may stand at the start or may not
pub data AreItems (text : List ℕ) (t : Table) : (may_compare : Bool) → List Word → List Item → Type 0 where
  no_words : (may : Bool) → AreItems text t may [] []
  word_then : (may : Bool) (word : Word) (words : List Word) (item : Item) (items : List Item) → IsItem text t word item
      → AreItems text t (is_loose item.mark) words items → AreItems text t may (word ∷ words) (item ∷ items)
  comparison_then : (words rest : List Word) (name : Word) (equal : Bool) (number : Option ℕ) (items : List Item)
      → IsCompared text t words rest name equal number → AreItems text t true rest items
      → AreItems text t true words (comparison name equal number ++ items)

-- ---- the values of INTs

-- the table with a variable more, for a value of the INT that this variable is declared as
abbrev pub with_value : Table → StVariable → (integer n : ℕ) → Table
with_value t v integer n = record t { variables = t.variables ++ record v { initial = false; sort = value_of integer n } ∷ [] }

-- The words begin with an assignment of a number that the INT hasn't had yet; the INT is declared as this variable.
pub record IsNewValue (text : List ℕ) (t : Table) (words : List Word) (v : StVariable) (integer n : ℕ) : Type 0 where
  pub name : Word
  pub sign : Word
  pub digits : Word
  pub rest : List Word
  pub whole : words ≡ name ∷ sign ∷ digits ∷ rest
  pub is_integer : named_of text t (spelled text name) ≡ named.Integer integer
  pub becomes : mark_of (spelled text sign) ≡ mark.Becomes
  pub value : IsInteger (spelled text digits) n
  pub variable : slice_get t.variables integer ≡ Some v
  pub is_new : variable_with (values_in t) integer n ≡ None

-- What the table is with the values that the words assign to its INTs, as `step := 10`, each once.
pub data AreValues (text : List ℕ) : List Word → (before after : Table) → Type 0 where
  no_words_left : (t : Table) → AreValues text [] t t
  value_then : (word : Word) (words : List Word) (t u : Table) (v : StVariable) (integer n : ℕ) → IsNewValue text t (word ∷ words) v integer n
      → AreValues text words (with_value t v integer n) u → AreValues text (word ∷ words) t u
  other_word : (word : Word) (words : List Word) (t u : Table) → AreValues text words t u → AreValues text (word ∷ words) t u
