-- The program of a text: its declarations, and for each place of the picture what is there.
use Rattle.std.specs.Prelude.{◌≡◌, ◌-◌, ℕ, ◌+◌, ◌*◌, ◌<◌, ◌≤◌, ◌⊎◌, ◌==◌, Bool, true, false, List, length, take, drop, count_by, Option, Some, None, option_map, if◌then◌else◌}
use Rattle.diagram_declarations.specs.Grammar.{HasDecls, HasNoDecls}
use Rattle.diagram_declarations.specs.Rules.{BreaksOn}
use Rattle.diagram_declarations.specs.declared.decls.Symbol.{Symbol}
use Rattle.diagram_declarations.specs.declared.decls.Symbol.TheVariants as symbol
use Rattle.diagram_program.specs.declared.geometry.TheConstants.{ROWS, COLUMNS, PLACES}
use Rattle.diagram_program.specs.Bytes.{dash, plus, bar}
use Rattle.diagram_program.specs.declared.mode.Mode.TheVariants as mode
use Rattle.diagram_program.specs.declared.mode.CoilMode.TheVariants as coil
use Rattle.diagram_program.specs.declared.cell.Operand.TheVariants as operand
use Rattle.diagram_program.specs.declared.cell.Cell.{Cell}
use Rattle.diagram_program.specs.declared.cell.Cell.TheVariants as cell
use Rattle.diagram_program.specs.declared.cell.Joint.{Joint}
use Rattle.diagram_program.specs.declared.cell.Joint.TheVariants as joint
use Rattle.diagram_declarations.specs.declared.fault.VarRule.TheVariants as var_rule
use Rattle.diagram_reader.specs.declared.grid_rule.Rule.{Rule}
use Rattle.diagram_reader.specs.declared.grid_rule.Rule.TheVariants.{BadByte, Unfinished}
use Rattle.diagram_reader.specs.declared.grid_rule.Rule.TheVariants as rule
use Rattle.diagram_reader.specs.declared.fault.GridFault.{GridFault}
use Rattle.diagram_reader.specs.declared.fault.GridFault.TheVariants.{Vars, Grid}
use Rattle.diagram_page.specs.declared.form.Form.{Form}
use Rattle.diagram_page.specs.declared.form.Form.TheVariants.{Wire, Contact, Coil, Block, Lower, Jump, Return}
use Rattle.diagram_program.specs.declared.site.Site.{Site}
use Rattle.diagram_page.specs.Picture.{vertical}
use Rattle.diagram_reader.specs.Feeding.{right_link}
use Rattle.diagram_page.specs.Picture as picture
use Rattle.diagram_page.specs.Lines.{line_feeds}
use Rattle.diagram_page.specs.Page.{Page, rung_at, labels_of, form_at, name_over, instance_at, ReadsAs}
use Rattle.diagram_reader.specs.PageRules.{target_of, PageBreaks}
use Rattle.diagram_program.specs.Program.{Drawing, site_at}
use Rattle.diagram_program.specs.Geometry.{place}

-- A contact or a coil that acts on an edge: where its signal becomes ON, or OFF (IEC 61131-3, contacts and coils).
abbrev pub is_edge : Option Form → Bool
is_edge form =
    elim form [ Some (Contact mode.Rising) ↦ true | Some (Contact mode.Falling) ↦ true | Some (Coil coil.Rising) ↦ true | Some (Coil coil.Falling) ↦ true | _ ↦ false ]

-- An edge has a memory, here with this number.
abbrev pub memory_for : ℕ → Option Form → Option ℕ
memory_for number form = if is_edge form then Some number else None

-- A form with what the text over it names. A form whose name or target the rules refuse is nothing.
-- number: of the memory, where the cell is an edge; name: the variable or instance that is named over it; above: the instance of the block
-- in the row above; target: the rung that a jump leads to.
abbrev pub cell_with : ℕ → Option Form → Option Symbol → Option ℕ → Option ℕ → Cell
cell_with number (Some Wire) name above target = cell.Wire
cell_with number (Some (Contact m)) (Some (symbol.Var var)) above target = cell.Contact m (operand.Var var) (memory_for number (Some (Contact m)))
cell_with number (Some (Contact m)) (Some (symbol.Instance inst)) above target = cell.Contact m (operand.Output inst) (memory_for number (Some (Contact m)))
cell_with number (Some (Coil m)) (Some (symbol.Var var)) above target = cell.Coil m var (memory_for number (Some (Coil m)))
cell_with number (Some (Block kind)) (Some (symbol.Instance inst)) above target = cell.Block inst
cell_with number (Some (Lower pin linked)) name (Some inst) target = cell.Lower inst linked
cell_with number (Some (Jump label)) name above (Some target) = cell.Jump target
cell_with number (Some Return) name above target = cell.Return
cell_with number form name above target = cell.Empty

abbrev pub cell_drawn : Page → ℕ → ℕ → ℕ → ℕ → Cell
cell_drawn page number k r c =
    cell_with number (form_at page k r c) (option_map (λ x. x.symbol) (name_over page k r c)) (if r == 0 then None else instance_at page k (r - 1) c)
    (target_of (labels_of page.lines page.parts) k (form_at page k r c))

abbrev pub joint_of : ℕ → Joint
joint_of b = if b == dash then joint.Dash else (if b == plus then joint.Plus else (if b == bar then joint.Bar else joint.Blank))

-- Memories are numbered by rung, column and row, the order of the forms: so many edges are at the first n places.
abbrev pub memories_before : Page → ℕ → ℕ
memories_before page n = count_by is_edge (take n page.forms)

abbrev pub site_drawn : Page → ℕ → ℕ → ℕ → Site
site_drawn page k r c = record {
  cell = cell_drawn page (memories_before page (place k r c)) k r c;
  right_link = right_link page k r c;
  joint = joint_of (picture.joint (rung_at page k) r c);
  vertical = vertical (rung_at page k) r c;
}

-- The drawing of a page: no rule is broken, and each place has what the picture has.
pub record IsDrawn (page : Page) (d : Drawing) : Type 0 where
  pub sound : (r : Rule) (rung line : ℕ) → PageBreaks r page rung line → ⊥
  pub declared : d.decls ≡ page.decls
  pub rungs : d.rungs ≡ length page.parts
  pub size : length d.sites ≡ PLACES * d.rungs
  pub sites : (k r c : ℕ) → k < d.rungs → r < ROWS → c < COLUMNS → site_at d k r c ≡ site_drawn page k r c

-- ---- faults

-- Lines are counted from 1: that of line n of what follows `place`.
abbrev pub line_number : List ℕ → ℕ → ℕ → ℕ
line_number text place n = line_feeds (take place text) + n + 1

-- How a broken rule is reported, with the rung and the line from 0; place: where END_VAR ends. What is unfinished is reported on the last line.
abbrev pub fault_with : List ℕ → ℕ → Rule → ℕ → ℕ → GridFault
fault_with text place BadByte rung line = Vars (record { rule = var_rule.BadByte; line = line_number text place line })
fault_with text place Unfinished rung line = Vars (record { rule = var_rule.Unfinished; line = line_feeds text + 1 })
fault_with text place (rule.Grid r) rung line = Grid r (rung + 1) (line_number text place line)

-- ---- texts

-- A text is a program where VAR .. END_VAR declares, the rest of the text draws, and no rule is broken.
pub record IsProgram (text : List ℕ) (d : Drawing) : Type 0 where
  pub rest : List ℕ
  pub page : Page
  pub read : HasDecls text page.decls rest
  pub reads : ReadsAs rest page
  pub drawn : IsDrawn page d

-- The text declares, and its drawing breaks a rule that the fault reports.
pub record IsFaultOfDrawing (text : List ℕ) (fault : GridFault) : Type 0 where
  pub page : Page
  pub place : ℕ
  pub broken : Rule
  pub rung : ℕ
  pub line : ℕ
  pub within : place ≤ length text
  pub read : HasDecls text page.decls (drop place text)
  pub reads : ReadsAs (drop place text) page
  pub breaks : PageBreaks broken page rung line
  pub reported : fault ≡ fault_with text place broken rung line

abbrev pub IsMemory : GridFault → Type 0
IsMemory (Vars fault) = fault.rule ≡ var_rule.Memory
IsMemory (Grid r rung line) = ⊥

-- A fault is right where it says out of memory, where the text has no declarations and breaks the rule on the line, or where
-- its drawing has this fault. Rules of the drawing are reported only in the last case.
abbrev pub IsRight : List ℕ → GridFault → Type 0
IsRight text (Vars fault) =
    ((fault.rule ≡ var_rule.Memory) × (fault.line ≡ 0))
    ⊎ ((HasNoDecls text × BreaksOn fault.rule text fault.line) ⊎ IsFaultOfDrawing text (Vars fault))
IsRight text (Grid r rung line) = IsFaultOfDrawing text (Grid r rung line)
