-- Where the rungs of a program text are.
use Rattle.std.specs.Prelude.{◌≡◌, ℕ, ◌≤◌, List, drop, length}
use Rattle.diagram_declarations.specs.Grammar.{HasDecls}
use Rattle.diagram_page.specs.declared.lines.Part.{Part}
use Rattle.diagram_page.specs.Page.{Page, ReadsAs}

-- END_VAR ends at `place`, and these are the rungs of the page that follows it, each with its gap.
pub record HasOutline (text : List ℕ) (place : ℕ) (parts : List Part) : Type 0 where
  pub page : Page
  pub within : place ≤ length text
  pub read : HasDecls text page.decls (drop place text)
  pub reads : ReadsAs (drop place text) page
  pub same : page.parts ≡ parts

-- However the text reads as declarations and a page, END_VAR ends there, and the page has these rungs.
abbrev pub IsOnlyOutline : List ℕ → ℕ → List Part → Type 0
IsOnlyOutline text place parts =
    (page : Page) (rest : List ℕ) → HasDecls text page.decls rest → ReadsAs rest page → (rest ≡ drop place text) × (page.parts ≡ parts)
