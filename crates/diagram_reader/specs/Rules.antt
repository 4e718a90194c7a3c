-- The rules of the cells, joints and names of a page (the profile): what each asks of a place. A place is a rung k, a row r, its
-- name line or its wire line, and a column c; column 10 stands for the right rail.
use Rattle.std.specs.Prelude.{◌≡◌, ◌⊎◌, ℕ, ◌+◌, ◌-◌, ◌*◌, ◌<◌, ◌≤◌, Bool, true, false, not, ◌&&◌, ◌||◌, ◌==◌, Option, Some, None, if◌then◌else◌}
use Rattle.diagram_declarations.specs.Kind.{traits_of}
use Rattle.diagram_program.specs.declared.geometry.TheConstants.{ROWS, COLUMNS, PITCH}
use Rattle.diagram_program.specs.Bytes.{space, dash, plus, bar, is_upright}
use Rattle.diagram_declarations.specs.declared.kind.Pin.{Pin}
use Rattle.diagram_declarations.specs.declared.kind.BlockKind.{BlockKind}
use Rattle.diagram_page.specs.declared.form.Form.{Form}
use Rattle.diagram_page.specs.declared.form.Form.TheVariants.{Contact, Coil, Block, Lower}
use Rattle.diagram_reader.specs.declared.grid_rule.GridRule.{GridRule}
use Rattle.diagram_reader.specs.declared.grid_rule.GridRule.TheVariants as rule
use Rattle.diagram_page.specs.Operand.{MayHave}
use Rattle.diagram_page.specs.Picture.{half_line, char_at, text_at, has_text, joint}
use Rattle.diagram_page.specs.declared.picture.Half.{Half}
use Rattle.diagram_page.specs.declared.picture.Half.TheVariants as half
use Rattle.diagram_page.specs.Form.{leaps}
use Rattle.diagram_reader.specs.Feeding.{right_link, IsUnfed}
use Rattle.diagram_page.specs.Page.{Page, rung_at, form_at, name_over, instance_at}
use Rattle.diagram_page.specs.declared.operand.Reference.{Reference}

-- What may stand between two cells, beside a space: on a name line a bar; on a wire line a `+`, a dash with a right link on its
-- left, or a bar with no link on either side.
abbrev pub is_joint : Half → Bool → ℕ → ℕ → Bool
is_joint half.Name linked b right = b == bar
is_joint half.Wire linked b right = b == plus || (if linked then b == dash else b == bar && not (right == dash))

-- The character at a joint's place, or at the right rail, where a `+` or a bar may stand, is one that may.
abbrev pub fits_joint : Page → ℕ → ℕ → Half → ℕ → ℕ → Bool
fits_joint page k r h c b =
    b == space || (if c == COLUMNS then is_upright b else is_joint h (right_link page k r (c - 1)) b (char_at (rung_at page k) (half_line r h) (PITCH * c + 1)))

-- the forms that have a name over them
abbrev pub wants_name : Option Form → Bool
wants_name form = elim form [ Some (Contact mode) ↦ true | Some (Coil mode) ↦ true | Some (Block k) ↦ true | _ ↦ false ]

-- the form of a block whose second input this is, and that of its lower cell
abbrev pub IsBlockWith : Pin → Option Form → Type 0
IsBlockWith p form = (k : BlockKind) × (form ≡ Some (Block k)) × ((traits_of k).second_input ≡ Some p)

abbrev pub IsLowerWith : Pin → Option Form → Type 0
IsLowerWith p form = (linked : Bool) × (form ≡ Some (Lower p linked))

-- G11: a block with a second input lacks its lower cell in the next row, or a lower cell its block above.
abbrev pub IsTorn : Page → ℕ → ℕ → ℕ → Type 0
IsTorn page k r c =
    (p : Pin) × ((IsBlockWith p (form_at page k r c) × (r + 1 < ROWS → ¬ (IsLowerWith p (form_at page k (r + 1) c))))
    ⊎ (IsLowerWith p (form_at page k r c) × (1 ≤ r → ¬ (IsBlockWith p (form_at page k (r - 1) c)))))

-- It holds at a place before this one, in the order of reading: by rung, row and column.
abbrev pub HoldsBefore : (ℕ → ℕ → ℕ → Type 0) → ℕ → ℕ → ℕ → Type 0
HoldsBefore P k r c = (j q d : ℕ) × (q < ROWS) × (d < COLUMNS) × ((j < k) ⊎ ((j ≡ k) × ((q < r) ⊎ ((q ≡ r) × (d < c))))) × P j q d

-- The block at the place is the instance, by a name that the block may have.
abbrev pub IsDrawnAt : Page → ℕ → ℕ → ℕ → ℕ → Type 0
IsDrawnAt page inst k r c =
    (instance_at page k r c ≡ Some inst) × (x : Reference) × (name_over page k r c ≡ Some x) × MayHave page.decls (form_at page k r c) x.symbol x.output

-- The rule is broken by a cell: on its wire line; or on its name line, by what stands over the cell or by the bar on its left.
abbrev pub CellBreaks : GridRule → Half → Page → ℕ → ℕ → ℕ → Type 0
-- G3: the cell has none of the forms.
CellBreaks rule.BadCell half.Wire page k r c = form_at page k r c ≡ None
-- G5: a bar where the joint above it or the one below it is neither a `+` nor a bar; row 0 has none above.
CellBreaks rule.BrokenVertical half.Name page k r c =
    (1 ≤ c) × ((char_at (rung_at page k) (2 * r) (PITCH * c) == bar
    && (r == 0 || (not (is_upright (joint (rung_at page k) (r - 1) c)) || not (is_upright (joint (rung_at page k) r c))))) ≡ true)
CellBreaks rule.Unfed half.Wire page k r c = IsUnfed page k r c
-- G7: no text over a contact, a coil or a block.
CellBreaks rule.NameMissing half.Name page k r c = (wants_name (form_at page k r c) ≡ true) × (has_text (text_at (rung_at page k) (2 * r) c) ≡ false)
-- G8: a text over another cell.
CellBreaks rule.NameWithoutSymbol half.Name page k r c = (wants_name (form_at page k r c) ≡ false) × (has_text (text_at (rung_at page k) (2 * r) c) ≡ true)
-- G9: the text over a contact, a coil or a block is no declared name.
CellBreaks rule.Undeclared half.Name page k r c =
    (wants_name (form_at page k r c) ≡ true) × (has_text (text_at (rung_at page k) (2 * r) c) ≡ true) × (name_over page k r c ≡ None)
-- G10: the name is none that the symbol may have.
CellBreaks rule.WrongKind half.Name page k r c =
    (wants_name (form_at page k r c) ≡ true) × (x : Reference) × (name_over page k r c ≡ Some x)
    × ¬ (MayHave page.decls (form_at page k r c) x.symbol x.output)
CellBreaks rule.BlockShape half.Wire page k r c = IsTorn page k r c
-- G12: the block's instance was drawn at an earlier place, of this rung or of one before.
CellBreaks rule.DrawnTwice half.Name page k r c = (inst : ℕ) × IsDrawnAt page inst k r c × HoldsBefore (IsDrawnAt page inst) k r c
-- G14: a jump or a return comes before it in the rung.
CellBreaks rule.TwoJumps half.Wire page k r c = (leaps (form_at page k r c) ≡ true) × HoldsBefore (λ j q d. (j ≡ k) × (leaps (form_at page k q d) ≡ true)) k r c
CellBreaks other h page k r c = ⊥

-- The rule is broken at the place. Only these rules speak of places.
abbrev pub BreaksAt : GridRule → Page → ℕ → ℕ → Half → ℕ → Type 0
-- G4: the character at a joint's place or at the right rail isn't allowed there, or doesn't fit the cells beside it.
BreaksAt rule.BadJoint page k r h c = (1 ≤ c) × (fits_joint page k r h c (char_at (rung_at page k) (half_line r h) (PITCH * c)) ≡ false)
BreaksAt other page k r h c = (c < COLUMNS) × CellBreaks other h page k r c
