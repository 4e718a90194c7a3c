-- The keywords and symbols of Structured Text (IEC 61131-3:2013, 6.1.2), as far as a ladder diagram can have what they say.
use Rattle.std.specs.Prelude.{ℕ, List, [], ◌∷◌, codes, if◌then◌else◌, Option, Some, None}
use Rattle.diagram_declarations.specs.declared.kind.BlockKind.{BlockKind}
use Rattle.diagram_declarations.specs.declared.kind.BlockKind.TheVariants as kind
use Rattle.diagram_declarations.specs.Name.{same_letters}
use Rattle.st_program.specs.declared.mark.Mark.{Mark}
use Rattle.st_program.specs.declared.mark.Mark.TheVariants as mark
use Rattle.st_program.specs.declared.symbols.Section.{Section}
use Rattle.st_program.specs.declared.symbols.Section.TheVariants as section

abbrev pub marks : List (List ℕ × Mark)
marks =
    (codes "PROGRAM", mark.Program) ∷ (codes "END_PROGRAM", mark.EndProgram) ∷ (codes "VAR", mark.Var) ∷ (codes "VAR_INPUT", mark.VarInput) ∷
    (codes "VAR_OUTPUT", mark.VarOutput) ∷ (codes "END_VAR", mark.EndVar) ∷ (codes "AT", mark.At) ∷ (codes "BOOL", mark.Bool) ∷ (codes "INT", mark.Int) ∷
    (codes "TON", mark.Ton) ∷ (codes "TOF", mark.Tof) ∷ (codes "TP", mark.Tp) ∷ (codes "CTU", mark.Ctu) ∷ (codes "CTD", mark.Ctd) ∷
    (codes "SR", mark.Sr) ∷ (codes "RS", mark.Rs) ∷ (codes "R_TRIG", mark.RisingTrigger) ∷ (codes "F_TRIG", mark.FallingTrigger) ∷
    (codes "TRUE", mark.On) ∷ (codes "FALSE", mark.Off) ∷ (codes "IF", mark.If) ∷ (codes "THEN", mark.Then) ∷ (codes "ELSIF", mark.Elsif) ∷
    (codes "ELSE", mark.Else) ∷ (codes "END_IF", mark.EndIf) ∷ (codes "CASE", mark.Case) ∷ (codes "OF", mark.Of) ∷
    (codes "END_CASE", mark.EndCase) ∷ (codes "RETURN", mark.Return) ∷ (codes "NOT", mark.Not) ∷
    (codes "AND", mark.And) ∷ (codes "&", mark.And) ∷ (codes "OR", mark.Or) ∷ (codes "XOR", mark.Exclusive) ∷ (codes ":=", mark.Becomes) ∷
    (codes "=>", mark.Yields) ∷ (codes ":", mark.Colon) ∷ (codes ";", mark.Semicolon) ∷ (codes ",", mark.Comma) ∷ (codes "(", mark.Open) ∷
    (codes ")", mark.Close) ∷ (codes "=", mark.Equal) ∷ (codes "<>", mark.Unequal) ∷ (codes "FOR", mark.Undrawable) ∷
    (codes "WHILE", mark.Undrawable) ∷ (codes "REPEAT", mark.Undrawable) ∷
    (codes "EXIT", mark.Undrawable) ∷ (codes "MOD", mark.Undrawable) ∷ (codes "+", mark.Undrawable) ∷ (codes "-", mark.Undrawable) ∷
    (codes "*", mark.Undrawable) ∷ (codes "/", mark.Undrawable) ∷ (codes "<", mark.Undrawable) ∷ (codes ">", mark.Undrawable) ∷
    (codes "<=", mark.Undrawable) ∷ (codes ">=", mark.Undrawable) ∷ (codes "[", mark.Undrawable) ∷ (codes "]", mark.Undrawable) ∷ []

-- the mark beside a word in a table
abbrev pub mark_in : List ℕ → List (List ℕ × Mark) → Mark
mark_in word [] = mark.Other
mark_in word (row ∷ rows) = if same_letters word row.0 then row.1 else mark_in word rows

-- What a word is, whatever the case of its letters.
unfoldable pub mark_of : List ℕ → Mark
mark_of word = mark_in word marks

-- the block that a word of a type is
abbrev pub kind_of : Mark → Option BlockKind
kind_of mark.Ton = Some kind.Ton
kind_of mark.Tof = Some kind.Tof
kind_of mark.Tp = Some kind.Tp
kind_of mark.Ctu = Some kind.Ctu
kind_of mark.Ctd = Some kind.Ctd
kind_of mark.Sr = Some kind.Sr
kind_of mark.Rs = Some kind.Rs
kind_of _ = None

-- the section that a word opens
abbrev pub section_of : Mark → Option Section
section_of mark.Var = Some section.Local
section_of mark.VarInput = Some section.Input
section_of mark.VarOutput = Some section.Output
section_of _ = None
