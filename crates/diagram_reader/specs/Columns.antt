-- In which column of its line a rule of places is broken.
use Rattle.std.specs.Prelude.{◌≡◌, ℕ, ◌+◌, ◌<◌, ◌≤◌, List, drop, length, take}
use Rattle.diagram_declarations.specs.Grammar.{HasDecls}
use Rattle.diagram_reader.specs.declared.grid_rule.GridRule.{GridRule}
use Rattle.diagram_program.specs.declared.geometry.TheConstants.{COLUMNS, ROWS}
use Rattle.diagram_page.specs.declared.picture.Half.{Half}
use Rattle.diagram_page.specs.Lines.{line_feeds, part_in}
use Rattle.diagram_page.specs.Page.{Page, ReadsAs}
use Rattle.diagram_page.specs.Picture.{half_line}
use Rattle.diagram_reader.specs.Rules.{BreaksAt}

-- The rung breaks the rule in the column, on this line of the page; column 10 stands for the right rail.
pub record IsColumnIn (page : Page) (broken : GridRule) (rung line column : ℕ) : Type 0 where
  pub row : ℕ
  pub half : Half
  pub at : line ≡ (part_in page.parts rung).start + half_line row half
  pub rows : row < ROWS
  pub columns : column ≤ COLUMNS
  pub breaks : BreaksAt broken page rung row half column

-- The text declares and draws, and the rung breaks the rule in the column, on this line of the text; rungs and lines are counted from 1.
pub record IsColumnOf (text : List ℕ) (broken : GridRule) (rung line column : ℕ) : Type 0 where
  pub page : Page
  pub place : ℕ
  pub before : ℕ
  pub below : ℕ
  pub within : place ≤ length text
  pub read : HasDecls text page.decls (drop place text)
  pub reads : ReadsAs (drop place text) page
  pub rungs : rung ≡ before + 1
  pub lines : line ≡ line_feeds (take place text) + below + 1
  pub breaks : IsColumnIn page broken before below column
