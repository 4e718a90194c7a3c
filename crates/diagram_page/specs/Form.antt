-- The forms of a cell: what its eleven characters are, before the name over it is looked up.
-- The symbols are those of IEC 61131-3:2013, 8.2 (contacts, coils) and 6.6.3 (blocks); their places in the cell are the profile's.
use Rattle.std.specs.Prelude.{Contains, ◌≡◌, ◌↔◌, ℕ, ◌≤◌, ◌⊎◌, ◌&&◌, nat_le, Bool, List, [], ◌∷◌, ◌++◌, length, replicate, codes, true, false, Option, Some, None}
use Rattle.diagram_declarations.specs.Name.{is_name}
use Rattle.diagram_declarations.specs.declared.kind.BlockKind.{BlockKind}
use Rattle.diagram_declarations.specs.declared.kind.BlockKind.TheVariants as kind
use Rattle.diagram_program.specs.Bytes.{dash, space}
use Rattle.diagram_program.specs.declared.mode.Mode.TheVariants as mode
use Rattle.diagram_program.specs.declared.mode.CoilMode.TheVariants as coil
use Rattle.diagram_declarations.specs.declared.kind.Pin.{Pin}
use Rattle.diagram_declarations.specs.declared.kind.Pin.TheVariants as pin
use Rattle.diagram_page.specs.declared.form.Form.{Form}
use Rattle.diagram_page.specs.declared.form.Form.TheVariants.{Empty, Wire, Contact, Coil, Block, Lower, Jump, Return}

-- Spellings, each with its form. The cells that are spelled in one way: empty, a wire, the upper cells of the blocks, and the lower cells, each first with
-- its left link and then without.
abbrev pub whole_cells : List (List ℕ × Form)
whole_cells =
    (codes "           ", Empty) ∷ (codes "-----------", Wire)
    ∷ (codes "-|IN TON Q|", Block kind.Ton) ∷ (codes "-|IN TOF Q|", Block kind.Tof) ∷ (codes "-|IN TP  Q|", Block kind.Tp)
    ∷ (codes "-|CU CTU Q|", Block kind.Ctu) ∷ (codes "-|CD CTD Q|", Block kind.Ctd)
    ∷ (codes "-|S1 SR Q1|", Block kind.Sr) ∷ (codes "-|S  RS Q1|", Block kind.Rs)
    ∷ (codes "-|R       |", Lower pin.Reset true) ∷ (codes " |R       |", Lower pin.Reset false)
    ∷ (codes "-|LD      |", Lower pin.Load true) ∷ (codes " |LD      |", Lower pin.Load false)
    ∷ (codes "-|R1      |", Lower pin.Reset1 true) ∷ (codes " |R1      |", Lower pin.Reset1 false) ∷ []

-- The symbols of contacts and coils.
abbrev pub symbols : List (List ℕ × Form)
symbols =
    (codes "| |", Contact mode.Plain) ∷ (codes "|/|", Contact mode.Negated)
    ∷ (codes "|P|", Contact mode.Rising) ∷ (codes "|N|", Contact mode.Falling)
    ∷ (codes "( )", Coil coil.Store) ∷ (codes "(/)", Coil coil.Inverse) ∷ (codes "(S)", Coil coil.Set) ∷ (codes "(R)", Coil coil.Reset)
    ∷ (codes "(P)", Coil coil.Rising) ∷ (codes "(N)", Coil coil.Falling) ∷ []

-- A label is a name of at most eight characters.
abbrev pub is_label_name : List ℕ → Bool
is_label_name word = nat_le (length word) 8 && is_name word

-- One or more dashes, a mark and a filler, or nothing: a symbol, and then only dashes or only spaces; or what leaves the rung,
-- `<RETURN>` or `>>` and a label, and then only spaces.
abbrev pub HasMark : List ℕ → Form → Type 0
HasMark chars form =
    (before after filler : ℕ) × (mark : List ℕ) × (1 ≤ before) × (chars ≡ replicate before dash ++ (mark ++ replicate after filler))
    × ((Contains symbols (mark, form) × ((filler ≡ dash) ⊎ (filler ≡ space)))
    ⊎ ((filler ≡ space) × (((mark ≡ codes "<RETURN>") × (form ≡ Return))
    ⊎ ((label : List ℕ) × (mark ≡ codes ">>" ++ label) × (is_label_name label ≡ true) × (form ≡ Jump label)))))

-- The characters of a cell have this form.
abbrev pub HasForm : List ℕ → Form → Type 0
HasForm chars form = Contains whole_cells (chars, form) ⊎ HasMark chars form

-- What the characters of a cell are: this form, or none.
abbrev pub IsFormOf : List ℕ → Option Form → Type 0
IsFormOf chars o = (form : Form) → (o ≡ Some form) ↔ HasForm chars form

-- the kind of a block
abbrev pub block_in : Form → Option BlockKind
block_in form = elim form [ Block kind ↦ Some kind | _ ↦ None ]

-- the input of a lower cell
abbrev pub lower_in : Form → Option Pin
lower_in form = elim form [ Lower pin linked ↦ Some pin | _ ↦ None ]

-- the label of a jump
abbrev pub jump_in : Form → Option (List ℕ)
jump_in form = elim form [ Jump label ↦ Some label | _ ↦ None ]

-- The cell leads out of its rung.
abbrev pub leaps : Option Form → Bool
leaps form = elim form [ Some (Jump label) ↦ true | Some Return ↦ true | _ ↦ false ]
