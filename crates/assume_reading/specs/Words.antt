-- Private: what the reader of words tells.
use Rattle.std.specs.Prelude.{◌≡◌, ℕ, List, ◌∷◌, ◌++◌, option_map}
use Rattle.diagram_declarations.specs.Decls.{Declared}
use Rattle.st_expression.specs.declared.expression.Operand.TheVariants as operand
use Rattle.st_expression.specs.declared.token.Token.{Token}
use Rattle.st_expression.specs.declared.token.Token.TheVariants as token
use Rattle.st_program.specs.Items.{token_by}
use Rattle.st_program.specs.Marks.{mark_of}
use Rattle.st_words.specs.declared.word.Word.{Word}
use Rattle.st_words.specs.Places.{spelled, spellings}
use Rattle.assume_reading.specs.declared.fault.AssumptionFault.{AssumptionFault}
use Rattle.assume_reading.specs.declared.fault.AssumptionFault.TheVariants as fault
use Rattle.assume_reading.specs.Reading.{AreKnown, named_among, token_of, tokens_of}

-- what a word is in an expression over some variables
abbrev pub token_among : List ℕ → Declared → List ℕ → Token
token_among vars decls word = token_by (mark_of word) (option_map (λ place. operand.Variable place) (named_among vars decls word))

-- The words before the rest have these tokens, which expressions have.
pub record BeginAs (decls : Declared) (text : List ℕ) (words rest : List Word) (tokens : List Token) : Type 0 where
  pub front : List Word
  pub whole : words ≡ front ++ rest
  pub are : tokens ≡ tokens_of decls (spellings text front)
  pub known : AreKnown tokens

-- This word is the first that is nothing in an expression.
pub record IsFirstOther (decls : Declared) (text : List ℕ) (words : List Word) (word : Word) : Type 0 where
  pub before : List Word
  pub behind : List Word
  pub whole : words ≡ before ++ word ∷ behind
  pub known : AreKnown (tokens_of decls (spellings text before))
  pub other : token_of decls (spelled text word) ≡ token.Other

-- Why words have no tokens.
abbrev pub RefusesWords : Declared → (text : List ℕ) → List Word → AssumptionFault → Type 0
RefusesWords decls text words fault.Memory = Unit {0}
RefusesWords decls text words (fault.NotAnInput start end) = IsFirstOther decls text words (record { start = start; end = end })
RefusesWords decls text words _ = ⊥
