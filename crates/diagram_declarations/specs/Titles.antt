-- Declarations whose aliases are taken: each has the title that the text gives it, and nothing else is changed.
use Rattle.std.specs.Prelude.{◌≡◌, ℕ, ◌⊎◌, true, false, List, ◌++◌, length, map, Some, unwrap_or}
use Rattle.std.specs.List.{All, IsDistinct, list_any}
use Rattle.diagram_declarations.specs.declared.decls.Var.{Var}
use Rattle.diagram_declarations.specs.declared.decls.Instance.{Instance}
use Rattle.diagram_declarations.specs.declared.decls.Body.{Body}
use Rattle.diagram_declarations.specs.Name.{same_letters}
use Rattle.diagram_declarations.specs.Title.{alias_of}
use Rattle.diagram_declarations.specs.Decls.{Declared, names_of}
use Rattle.diagram_declarations.specs.Grammar.{Decl, HasDecls}
use Rattle.diagram_declarations.specs.Rules.{DeclDue, line_of}

-- ---- declarations without their aliases

abbrev pub plain_var : Var → Var
plain_var v = record v { title = v.name }

abbrev pub plain_instance : Instance → Instance
plain_instance i = record i { title = i.name }

abbrev pub plain : Declared → Declared
plain d = record { vars = map plain_var d.vars; instances = map plain_instance d.instances }

-- ---- titles

-- The text declares the name, and its title is the alias behind it, or the name without one.
abbrev pub HasTitle : List ℕ → List ℕ → List ℕ → Type 0
HasTitle text name title =
    (ds : List Decl) × (b : Body) × (after : List ℕ) × DeclDue text ds name b after × (title ≡ unwrap_or (alias_of name after) name)

abbrev pub titles_of : Declared → List (List ℕ)
titles_of d = map (λ v. v.title) d.vars ++ map (λ i. i.title) d.instances

-- Each declaration has its title, and no two have the same.
pub record AreTitled (text : List ℕ) (d : Declared) : Type 0 where
  pub vars : All (λ v. HasTitle text v.name v.title) d.vars
  pub instances : All (λ i. HasTitle text i.name i.title) d.instances
  pub apart : IsDistinct same_letters (titles_of d)

-- ---- refusal

-- The text declares these, and something behind them.
abbrev pub Declares : List ℕ → Declared → Type 0
Declares text d = (rest : List ℕ) × HasDecls text d rest

-- What is also the name of a declaration, or the title of another one than this.
abbrev pub IsTaken : List ℕ → Declared → List ℕ → List ℕ → Type 0
IsTaken text d name alias =
    (list_any (same_letters alias) (names_of d) ≡ true)
    ⊎ ((other title : List ℕ) × HasTitle text other title × (same_letters name other ≡ false) × (same_letters alias title ≡ true))

-- On the line a name has an alias that is taken.
abbrev pub HasTakenAlias : List ℕ → Declared → ℕ → Type 0
HasTakenAlias text d line =
    (ds : List Decl) × (b : Body) × (name after alias : List ℕ) × DeclDue text ds name b after × (alias_of name after ≡ Some alias)
    × IsTaken text d name alias × (line ≡ line_of text (length after))
