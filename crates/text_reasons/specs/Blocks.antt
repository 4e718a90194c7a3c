-- G11: which cell is missing below the upper cell of a block, or above its lower cell.
use Rattle.std.specs.Prelude.{◌++◌, ◌-◌, ◌+◌, ◌*◌, ◌||◌, ℕ, List, [], codes, decimal, if◌then◌else◌, take, drop}
use Rattle.std.specs.Str.{bytes_eq}
use Rattle.diagram_program.specs.declared.geometry.TheConstants.{CELL, PITCH}

-- the characters of a line in a column
abbrev pub cell_in : List ℕ → ℕ → List ℕ
cell_in line column = take CELL (drop (PITCH * column + 1) line)

-- What must be below the upper cell of a block that has a second input: its lower cell, with or without a left link. [] for any other cell.
abbrev pub below_cell : List ℕ → List ℕ
below_cell cell =
    if bytes_eq cell (codes "-|CU CTU Q|") || bytes_eq cell (codes "-|S1 SR Q1|") then codes "\"-|R       |\" or \" |R       |\""
    else (if bytes_eq cell (codes "-|CD CTD Q|") then codes "\"-|LD      |\" or \" |LD      |\""
    else (if bytes_eq cell (codes "-|S  RS Q1|") then codes "\"-|R1      |\" or \" |R1      |\""
    else []))

-- What must be above a lower cell, whether or not it has a left link: the upper cell of a block with this input.
abbrev pub above_cell : List ℕ → List ℕ
above_cell cell =
    if bytes_eq (drop 1 cell) (codes "|R       |") then codes "\"-|CU CTU Q|\" or \"-|S1 SR Q1|\""
    else (if bytes_eq (drop 1 cell) (codes "|LD      |") then codes "\"-|CD CTD Q|\""
    else (if bytes_eq (drop 1 cell) (codes "|R1      |") then codes "\"-|S  RS Q1|\""
    else []))

-- a cell that must be on the line, in the column
abbrev pub must_be : List ℕ → ℕ → ℕ → List ℕ
must_be [] line column = []
must_be cell line column =
    codes "line " ++ (decimal line ++ (codes ", places " ++ (decimal (PITCH * column + 1) ++ (codes " to " ++ (decimal (PITCH * column + CELL)
    ++ (codes " must be " ++ (cell ++ codes "\n")))))))

-- The wire line of the next row is two lines further down.
abbrev pub block_text : List ℕ → ℕ → ℕ → List ℕ
block_text cell line column = must_be (below_cell cell) (line + 2) column ++ must_be (above_cell cell) (line - 2) column
