-- Private to the proofs: the declarations of a text passed once more, as the code passes them.
use Rattle.std.specs.Prelude.{◌≡◌, ℕ, ◌+◌, ◌<◌, false, Bool, ◌||◌, List, length, codes, slice_get, slice_set, Some, Ok}
use Rattle.std.specs.List.{list_any}
use Rattle.diagram_declarations.specs.declared.decls.Var.{Var}
use Rattle.diagram_declarations.specs.declared.decls.Instance.{Instance}
use Rattle.diagram_declarations.specs.declared.decls.Body.{Body}
use Rattle.diagram_declarations.specs.declared.decls.Body.TheVariants as body
use Rattle.diagram_declarations.specs.declared.titles.Passed.{Passed}
use Rattle.diagram_declarations.specs.Name.{same_letters}
use Rattle.diagram_declarations.specs.Decls.{Declared}
use Rattle.diagram_declarations.specs.ReadText.{token_at}
use Rattle.diagram_declarations.specs.ReadDecls.{body_at}

-- a declaration with this name is read at the start of the text
abbrev pub IsNext : List ℕ → List ℕ → List ℕ → Body → List ℕ → Type 0
IsNext text name behind b rest =
    (token_at text ≡ Ok (name, behind)) × (same_letters name (codes "END_VAR") ≡ false) × (body_at behind ≡ Ok (b, rest))

-- there is none
abbrev pub IsLast : List ℕ → Type 0
IsLast text = (name behind : List ℕ) (b : Body) (after : List ℕ) → IsNext text name behind b after → ⊥

-- the same declarations, but for the title of this variable
abbrev pub SetsVar : ℕ → List ℕ → Declared → Declared → Type 0
SetsVar number title d d' = (v : Var) → slice_get d.vars number ≡ Some v → d' ≡ record d { vars = slice_set d.vars number (record v { title = title }) }

-- the same, of an instance
abbrev pub SetsInstance : ℕ → List ℕ → Declared → Declared → Type 0
SetsInstance number title d d' =
    (i : Instance) → slice_get d.instances number ≡ Some i → d' ≡ record d { instances = slice_set d.instances number (record i { title = title }) }

-- ---- by the form of a declaration that comes after so many variables and instances

abbrev pub IsWithin : ℕ → ℕ → Body → Declared → Type 0
IsWithin vars instances (body.Var kind address initial) d = vars < length d.vars
IsWithin vars instances (body.Instance kind preset) d = instances < length d.instances

abbrev pub Retitles : ℕ → ℕ → Body → List ℕ → Declared → Declared → Type 0
Retitles vars instances (body.Var kind address initial) title d d' = SetsVar vars title d d'
Retitles vars instances (body.Instance kind preset) title d d' = SetsInstance instances title d d'

abbrev pub IsPast : Passed → Body → Passed → Type 0
IsPast before (body.Var kind address initial) after = (after.vars ≡ before.vars + 1) × (after.instances ≡ before.instances)
IsPast before (body.Instance kind preset) after = (after.vars ≡ before.vars) × (after.instances ≡ before.instances + 1)

-- a declaration has the name or the title
abbrev pub is_called : List ℕ → Declared → Bool
is_called word d =
    list_any (λ v. same_letters word v.name || same_letters word v.title) d.vars || list_any (λ i. same_letters word i.name || same_letters word i.title) d.instances
