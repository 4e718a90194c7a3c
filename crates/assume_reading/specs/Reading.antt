-- An expression in Structured Text over the inputs of a program, as what is assumed of them.
use Rattle.std.specs.Prelude.{◌≡◌, ℕ, ◌<◌, Bool, true, false, ◌==◌, List, [], ◌∷◌, ◌++◌, Option, Some, None, length, map, option_map, position, if◌then◌else◌}
use Rattle.std.specs.List.{list_any}
use Rattle.causes_query.specs.Assignment.{input_variables}
use Rattle.diagram_declarations.specs.declared.decls.Symbol.TheVariants as symbol
use Rattle.diagram_declarations.specs.Decls.{Declared, find, is_input}
use Rattle.diagram_declarations.specs.Name.{is_name}
use Rattle.st_expression.specs.declared.expression.Expression.{Expression}
use Rattle.st_expression.specs.declared.expression.Operand.TheVariants as operand
use Rattle.st_expression.specs.declared.reading.TheConstants.{DEPTH}
use Rattle.st_expression.specs.declared.token.Token.{Token}
use Rattle.st_expression.specs.declared.token.Token.TheVariants as token
use Rattle.st_expression.specs.Grammar.{IsExpression, nesting}
use Rattle.st_program.specs.Items.{token_by}
use Rattle.st_program.specs.Marks.{mark_of}
use Rattle.st_words.specs.declared.word.Word.{Word}
use Rattle.st_words.specs.Places.{AreBetween, spelled, spellings}
use Rattle.st_words.specs.Refusals.{RefusedAt}
use Rattle.st_words.specs.Words.{AreWords}
use Rattle.assume_reading.specs.declared.fault.AssumptionFault.{AssumptionFault}
use Rattle.assume_reading.specs.declared.fault.AssumptionFault.TheVariants as fault

-- the numbers of the inputs, in order of declaration
abbrev pub inputs_of : Declared → List ℕ
inputs_of decls = input_variables (map is_input decls.vars)

-- the place, among some variables, of the one that a word names
abbrev pub named_among : List ℕ → Declared → List ℕ → Option ℕ
named_among vars decls word =
    elim (if is_name word then find decls word else None) [ Some (symbol.Var number) ↦ position (λ v. v == number) vars | _ ↦ None ]

-- the place of the input that a word names among the inputs
abbrev pub input_named : Declared → List ℕ → Option ℕ
input_named decls word = named_among (inputs_of decls) decls word

-- What a word is in an expression: a keyword, a symbol or an input, by its place among the inputs.
abbrev pub token_of : Declared → List ℕ → Token
token_of decls word = token_by (mark_of word) (option_map (λ place. operand.Variable place) (input_named decls word))

abbrev pub tokens_of : Declared → List (List ℕ) → List Token
tokens_of decls words = map (token_of decls) words

-- All words of the text are one expression.
abbrev pub IsAssumption : Declared → (text : List ℕ) → Expression → Type 0
IsAssumption decls text e = (words : List (List ℕ)) × AreWords text words × IsExpression (tokens_of decls words) [] e

-- ---- when a text is refused

abbrev pub is_other : Token → Bool
is_other token.Other = true
is_other _ = false

-- Each token is one that an expression has.
abbrev pub AreKnown : List Token → Type 0
AreKnown tokens = list_any is_other tokens ≡ false

-- The words of the text are these, and each is one of an expression.
pub record HasWords (decls : Declared) (text : List ℕ) (words : List (List ℕ)) : Type 0 where
  pub are : AreWords text words
  pub known : AreKnown (tokens_of decls words)

-- This word of the text is the first that is neither one of an expression nor the name of an input.
pub record IsNoInput (decls : Declared) (text : List ℕ) (word : Word) : Type 0 where
  pub before : List Word
  pub behind : List Word
  pub words : AreWords text (spellings text (before ++ word ∷ behind))
  pub places : AreBetween 0 (length text) (before ++ word ∷ behind)
  pub known : AreKnown (tokens_of decls (spellings text before))
  pub other : token_of decls (spelled text word) ≡ token.Other

abbrev pub Refuses : Declared → (text : List ℕ) → AssumptionFault → Type 0
Refuses decls text fault.Memory = Unit {0}
Refuses decls text (fault.Character at) = RefusedAt text at
Refuses decls text (fault.NotAnInput start end) = IsNoInput decls text (record { start = start; end = end })
Refuses decls text fault.NoExpression = (words : List (List ℕ)) × HasWords decls text words × ((e : Expression) → IsAssumption decls text e → ⊥)
Refuses decls text fault.TooDeep = (words : List (List ℕ)) × HasWords decls text words × (DEPTH < nesting (tokens_of decls words))
