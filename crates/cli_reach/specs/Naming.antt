-- What the names of a request for a run are of.
use Rattle.std.specs.Prelude.{◌≡◌, ◌⊎◌, ◌+◌, ◌-◌, ℕ, Bool, true, false, List, [], ◌∷◌, Option, Some, None, codes, if◌then◌else◌, length, map, option_and_then, option_map, slice_get, string_bytes, take}
use Rattle.std.specs.Option.{option_map_or}
use Rattle.diagram_declarations.specs.declared.kind.Output.{Output}
use Rattle.diagram_declarations.specs.declared.kind.Output.TheVariants as output
use Rattle.diagram_declarations.specs.Kind.{traits_of}
use Rattle.diagram_page.specs.Operand.{ends_in}
use Rattle.diagram_declarations.specs.declared.decls.Symbol.{Symbol}
use Rattle.diagram_declarations.specs.declared.decls.Symbol.TheVariants as symbol
use Rattle.diagram_declarations.specs.Decls.{Declared, find}
use Rattle.diagram_declarations.specs.Name.{is_name}
use Rattle.reach_runs.specs.declared.target.Literal.{Literal}
use Rattle.cli_arguments.specs.declared.request.ReachRequest.{ReachRequest}
use Rattle.cli_inputs.specs.Variables.{IsUnknownWord}
use Rattle.cli_inputs.specs.declared.fault.ToolFault.{ToolFault}
use Rattle.cli_inputs.specs.declared.fault.ToolFault.TheVariants as fault

-- the variable or the instance with this name, whatever its letter case
abbrev pub declared_as : Declared → List ℕ → Option Symbol
declared_as decls name = if is_name name then find decls name else None

-- the instance with this name
abbrev pub instance_of : Declared → List ℕ → Option ℕ
instance_of decls name = elim (declared_as decls name) [ Some (symbol.Instance number) ↦ Some number | _ ↦ None ]

abbrev pub is_output : Output → Output → Bool
is_output output.Q output.Q = true
is_output output.Q1 output.Q1 = true
is_output one other = false

-- The kind of the instance has this output.
abbrev pub has_output : Declared → Output → ℕ → Bool
has_output decls output number = option_map_or (λ i. is_output output (traits_of i.kind).output) (slice_get decls.instances number) false

-- the word before this end, which is there in any letter case
abbrev pub before_end : List ℕ → List ℕ → Option (List ℕ)
before_end end word = if ends_in end word then Some (take (length word - length end) word) else None

-- the instance with this name, in any letter case, where its kind has this output
abbrev pub instance_with : Declared → Output → List ℕ → Option ℕ
instance_with decls output name = option_and_then (λ number. if has_output decls output number then Some number else None) (instance_of decls name)

-- What a word names: a variable; or an instance, by its name alone or, as a contact reads it, with its output `.Q` or `.Q1` after it.
abbrev pub symbol_of : Declared → List ℕ → Option Symbol
symbol_of decls word = elim (before_end (codes ".Q") word) [
  | Some name ↦ option_map symbol.Instance (instance_with decls output.Q name)
  | None ↦ elim (before_end (codes ".Q1") word) [
    | Some name ↦ option_map symbol.Instance (instance_with decls output.Q1 name)
    | None ↦ declared_as decls word
  ]
]

-- that it is ON
abbrev pub on : Symbol → Literal
on symbol = record { symbol = symbol; value = true }

-- What the name of `--both` is of, where there is one.
abbrev pub AreOthers : Declared → Option (List ℕ) → List Symbol → Type 0
AreOthers decls None others = others ≡ []
AreOthers decls (Some word) others = (second : Symbol) × (symbol_of decls word ≡ Some second) × (others ≡ second ∷ [])

-- what is to be ON: what NAME is of, and what the name of `--both` is of
pub record IsTarget (decls : Declared) (r : ReachRequest) (target : List Literal) : Type 0 where
  pub first : Symbol
  pub others : List Symbol
  pub named : symbol_of decls (string_bytes r.name) ≡ Some first
  pub both : AreOthers decls (option_map string_bytes r.both) others
  pub are : target ≡ map on (first ∷ others)

-- The first name that is of nothing: NAME, which is word 1, that of `--both`, and then an INPUT, of which the first is word 2; or being out of
-- memory.
abbrev pub HasNameFault : Declared → ReachRequest → ToolFault → Type 0
HasNameFault decls r (fault.Word number) =
    ((symbol_of decls (string_bytes r.name) ≡ None) × (number ≡ 1))
    ⊎ ((target : List Literal) × IsTarget decls r target × (at : ℕ) × IsUnknownWord decls (map string_bytes r.inputs.items) at × (number ≡ at + 1))
HasNameFault decls r fault.Both =
    ((first : Symbol) × (symbol_of decls (string_bytes r.name) ≡ Some first))
    × ((word : List ℕ) × (option_map string_bytes r.both ≡ Some word) × (symbol_of decls word ≡ None))
HasNameFault decls r fault.Memory = Unit {0}
HasNameFault decls r other = ⊥
