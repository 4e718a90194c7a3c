-- The words of a request that are looked up in its program, and which of them name nothing there.
use Rattle.std.specs.Prelude.{◌++◌, ◌∷◌, ◌==◌, ℕ, Bool, true, false, List, [], Option, None, Some, String, if◌then◌else◌, map, string_bytes}
use Rattle.std.specs.Global.{Global}
use Rattle.std.specs.List.{before_first}
use Rattle.diagram_declarations.specs.declared.decls.Symbol.{Symbol}
use Rattle.diagram_declarations.specs.declared.decls.Symbol.TheVariants as symbol
use Rattle.diagram_declarations.specs.Decls.{Declared, find}
use Rattle.diagram_declarations.specs.Name.{is_name}
use Rattle.text_names.specs.declared.meant.Wanted.{Wanted}
use Rattle.text_names.specs.declared.meant.Wanted.TheVariants as wanted
use Rattle.cli_arguments.specs.declared.request.Request.{Request}
use Rattle.cli_arguments.specs.declared.request.Request.TheVariants as request

-- a name, and what it is to name
pub record Word : Type 0 where
  pub wanted : Wanted
  pub text : List ℕ

-- Where an instance will do, the name is what stands before a point (46), as in T1.Q.
abbrev pub word : Wanted → List ℕ → Word
word wanted.Any text = record { wanted = wanted.Any; text = before_first (λ b. b == 46) text }
word wanted text = record { wanted = wanted; text = text }

abbrev pub words_in : Wanted → List (String Global) → List Word
words_in wanted names = map (λ n. word wanted (string_bytes n)) names

abbrev pub word_if : Wanted → Option (String Global) → List Word
word_if wanted None = []
word_if wanted (Some name) = word wanted (string_bytes name) ∷ []

abbrev pub list_words : String Global → List (String Global) → List Word
list_words coil inputs = word wanted.Written (string_bytes coil) ∷ words_in wanted.Input inputs

-- the words that are looked up in the program, in their order
abbrev pub words_of : Request → List Word
words_of (request.Causes list after upto) = list_words list.coil list.inputs.items
words_of (request.Progress list after upto) = list_words list.coil list.inputs.items
words_of (request.Held list scans every grouped) = list_words list.coil list.inputs.items
words_of (request.Groups list grouping) = list_words list.coil list.inputs.items
words_of (request.Relevant list after grouping) = list_words list.coil list.inputs.items
words_of (request.Possible r) = list_words r.coil r.inputs.items
words_of (request.Reach r) = word wanted.Any (string_bytes r.name) ∷ (word_if wanted.Any r.both ++ words_in wanted.Input r.inputs.items)
words_of (request.Show r) = word_if wanted.Written r.coil ++ words_in wanted.Input r.inputs.items
words_of (request.Film r) = word_if wanted.Written r.coil
words_of (request.Watch r) = words_in wanted.Any r.names.items
words_of (request.Expect r) = words_in wanted.Any r.watch.names.items
words_of other = []

-- what is declared with this name
abbrev pub declared_as : Declared → List ℕ → Option Symbol
declared_as d name = if is_name name then find d name else None

-- An instance is none of the names where a variable is wanted.
abbrev pub is_unknown : Declared → Word → Bool
is_unknown d w = elim (declared_as d w.text) [
  | Some (symbol.Var n) ↦ false
  | Some (symbol.Instance n) ↦ elim w.wanted [ wanted.Any ↦ false | _ ↦ true ]
  | None ↦ true
]
