-- Private to the proofs: declarations read from left to right, as the code reads them, with the first fault that is met.
use Rattle.std.specs.Prelude.{ℕ, zero, suc, Bool, false, ◌≤◌, List, [], ◌∷◌, ◌++◌, length, Option, Some, None, if◌then◌else◌, Result, Ok, Err}
use Rattle.std.specs.List.{list_any}
use Rattle.diagram_declarations.specs.declared.fault.VarRule.{VarRule}
use Rattle.diagram_declarations.specs.declared.fault.VarRule.TheVariants as rule
use Rattle.diagram_declarations.specs.declared.fault.Fault.{Fault}
use Rattle.diagram_declarations.specs.declared.fault.Stopped.{Stopped}
use Rattle.diagram_declarations.specs.declared.fault.Stopped.TheVariants as fault
use Rattle.diagram_declarations.specs.declared.declaration.Due.{Due}
use Rattle.diagram_declarations.specs.declared.declaration.Due.TheVariants as due
use Rattle.diagram_declarations.specs.declared.declaration.Next.{Next}
use Rattle.diagram_declarations.specs.declared.declaration.Next.TheVariants as then
use Rattle.diagram_declarations.specs.declared.decls.Address.{Address}
use Rattle.diagram_declarations.specs.declared.decls.Var.{Var}
use Rattle.diagram_declarations.specs.declared.decls.Instance.{Instance}
use Rattle.diagram_declarations.specs.declared.decls.Body.{Body}
use Rattle.diagram_declarations.specs.declared.decls.Body.TheVariants as body
use Rattle.diagram_declarations.specs.Name.{same_letters}
use Rattle.diagram_declarations.specs.Kind.{largest_preset}
use Rattle.diagram_declarations.specs.Decls.{Declared, addresses_of, same_address}
use Rattle.diagram_declarations.specs.ReadText.{◌>>=◌, token_at, unfinished}
use Rattle.diagram_declarations.specs.ReadSteps.{step, misfit}

-- a fault that is not of memory is such a one
abbrev pub IfBroken : Stopped → (Fault → Type 0) → Type 0
IfBroken fault.NoMemory P = Unit {0}
IfBroken (fault.Broken f) P = P f

abbrev pub at : VarRule → List ℕ → Fault
at r rest = record { rule = r; left = length rest }

unfoldable pub expect : List ℕ → List ℕ → Result (List ℕ) Fault
expect word text = do
  x ← token_at text
  if same_letters x.0 word then Ok x.1 else Err (at rule.BadToken x.1)

-- ---- what follows a name

-- what a step leads to
abbrev pub turn : (Due → Result (Body × List ℕ) Fault) → Fault → List ℕ → Option Next → Result (Body × List ℕ) Fault
turn more f rest None = Err f
turn more f rest (Some (then.Ends b)) = Ok (b, rest)
turn more f rest (Some (then.Goes next)) = more next

-- so many tokens at most, from what is due
unfoldable pub body_from : ℕ → Due → List ℕ → Result (Body × List ℕ) Fault
body_from zero d text = Err unfinished
body_from (suc n) d text = do
  x ← token_at text
  turn (λ next. body_from n next x.1) (at (misfit d x.0) x.1) x.1 (step d x.0)

unfoldable pub body_at : List ℕ → Result (Body × List ℕ) Fault
body_at text = body_from (suc (length text)) due.Place text

-- ---- declarations

abbrev pub PresetFits : Body → Type 0
PresetFits (body.Var kind address initial) = Unit {0}
PresetFits (body.Instance kind preset) = preset ≤ largest_preset kind

abbrev pub is_taken : List Var → Option Address → Bool
is_taken vars None = false
is_taken vars (Some address) = list_any (same_address address) (addresses_of vars)

abbrev pub with_var : Declared → Var → Declared
with_var declared v = record { vars = declared.vars ++ v ∷ []; instances = declared.instances }

abbrev pub with_instance : Declared → Instance → Declared
with_instance declared i = record { vars = declared.vars; instances = declared.instances ++ i ∷ [] }

abbrev pub with_title : Declared → List ℕ → List ℕ → Body → Declared
with_title declared name title (body.Var kind address initial) =
    with_var declared (record { name = name; title = title; kind = kind; address = address; initial = initial })
with_title declared name title (body.Instance kind preset) = with_instance declared (record { name = name; title = title; kind = kind; preset = preset })

abbrev pub with_decl : Declared → List ℕ → Body → Declared
with_decl declared name b = with_title declared name name b

abbrev pub nothing : Declared
nothing = record { vars = []; instances = [] }
