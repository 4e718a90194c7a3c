-- Which element of ClassicLadder means what (its calc.c, and the kinds of elements in its classicladder.h).
use Rattle.std.specs.Prelude.{◌≡◌, ℕ, ◌*◌, ◌==◌, ◌||◌, nat_le, not, Bool, List, Option, Some, None, option_map, if◌then◌else◌}
use Rattle.diagram_declarations.specs.declared.kind.BlockKind.{BlockKind}
use Rattle.diagram_declarations.specs.declared.kind.BlockKind.TheVariants as kind
use Rattle.diagram_program.specs.declared.mode.Mode.{Mode}
use Rattle.diagram_program.specs.declared.mode.Mode.TheVariants as mode
use Rattle.diagram_program.specs.declared.mode.CoilMode.{CoilMode}
use Rattle.diagram_program.specs.declared.mode.CoilMode.TheVariants as coil
use Rattle.clp_project.specs.declared.element.Element.{Element}
use Rattle.clp_project.specs.declared.project.Project.{Project}
use Rattle.clp_project.specs.declared.reading.ReadingOptions.{ReadingOptions}
use Rattle.clp_project.specs.declared.table.Preset.{Preset}
use Rattle.clp_meaning.specs.declared.meaning.BlockSort.{BlockSort}
use Rattle.clp_meaning.specs.declared.meaning.BlockSort.TheVariants as sort
use Rattle.clp_meaning.specs.declared.meaning.Meaning.{Meaning}
use Rattle.clp_meaning.specs.declared.meaning.Meaning.TheVariants as meaning
use Rattle.clp_meaning.specs.declared.meaning.Timed.{Timed}
use Rattle.clp_meaning.specs.declared.meaning.ClpOperand.{ClpOperand}
use Rattle.clp_meaning.specs.declared.meaning.ClpOperand.TheVariants as source

-- ---- kinds of elements

-- Nothing, a part of a larger element (99), or a tool of the editor (from 100 on), which does nothing.
abbrev pub is_blank_kind : ℕ → Bool
is_blank_kind k = k == 0 || nat_le 99 k

unfoldable pub meaning_of : ℕ → Meaning
meaning_of k =
    if is_blank_kind k then meaning.Blank
    else (if k == 1 then meaning.Contact mode.Plain
    else (if k == 2 then meaning.Contact mode.Negated
    else (if k == 3 then meaning.Contact mode.Rising
    else (if k == 4 then meaning.Contact mode.Falling
    else (if k == 9 then meaning.Wire
    else (if k == 10 then meaning.Block sort.Timer
    else (if k == 11 then meaning.Block sort.Monostable
    else (if k == 13 then meaning.Block sort.IecTimer
    else (if k == 50 then meaning.Coil coil.Store
    else (if k == 51 then meaning.Coil coil.Inverse
    else (if k == 52 then meaning.Coil coil.Set
    else (if k == 53 then meaning.Coil coil.Reset
    else (if k == 54 then meaning.Jump else meaning.Other)))))))))))))

-- ---- what a meaning has

abbrev pub contact_in : Meaning → Option Mode
contact_in m = elim m [ meaning.Contact mode ↦ Some mode | _ ↦ None ]

abbrev pub coil_in : Meaning → Option CoilMode
coil_in m = elim m [ meaning.Coil mode ↦ Some mode | _ ↦ None ]

abbrev pub block_in : Meaning → Option BlockSort
block_in m = elim m [ meaning.Block sort ↦ Some sort | _ ↦ None ]

-- ---- what is opened

-- a contact on a step of a sequential chart
abbrev pub step_as : Meaning → Meaning
step_as (meaning.Contact m) = meaning.Opened m
step_as m = m

-- What an element means by itself. Where it is opened, a compare (20) is a contact on a value that may be any, and so is a contact
-- on a step (class 30); an operate (60) computes a number.
abbrev pub element_meaning : ReadingOptions → Element → Meaning
element_meaning reading e =
    if not reading.opened then meaning_of e.kind
    else (if e.kind == 20 then meaning.Opened mode.Plain
    else (if e.kind == 60 then meaning.Operate
    else (if e.class == 30 then step_as (meaning_of e.kind) else meaning_of e.kind)))

-- ---- sorts of variables

-- %I, %Q and %B, and what a timer, a monostable or an IEC timer has at its first output
abbrev pub source_of : ℕ → ClpOperand
source_of class =
    if class == 50 then source.Input
    else (if class == 60 then source.Output
    else (if class == 0 then source.Memory
    else (if class == 10 then source.Done sort.Timer
    else (if class == 20 then source.Done sort.Monostable
    else (if class == 15 then source.Done sort.IecTimer else source.Other)))))

-- ---- presets

-- the milliseconds of a base
abbrev pub millis_of : ℕ → Option ℕ
millis_of base =
    if base == 0 then Some 60000
    else (if base == 1 then Some 1000
    else (if base == 2 then Some 100 else None))

-- An old timer is an on-delay timer, a monostable a pulse timer; what an IEC timer is, its mode says.
abbrev pub kind_of : BlockSort → ℕ → Option BlockKind
kind_of sort.Timer mode = Some kind.Ton
kind_of sort.Monostable mode = Some kind.Tp
kind_of sort.IecTimer mode =
    if mode == 0 then Some kind.Ton
    else (if mode == 1 then Some kind.Tof
    else (if mode == 2 then Some kind.Tp else None))

-- A block of this sort with this entry in its table is of this kind, and has this preset: its count times its base.
abbrev pub IsTimed : BlockSort → Option Preset → Timed → Type 0
IsTimed s (Some p) t = (kind_of s p.mode ≡ Some t.kind) × (option_map (λ ms. ms * p.count) (millis_of p.base) ≡ Some t.preset)
IsTimed s None t = ⊥

-- the table of such blocks
abbrev pub table_of : Project → BlockSort → List Preset
table_of p sort.Timer = p.timers.items
table_of p sort.Monostable = p.monostables.items
table_of p sort.IecTimer = p.iec_timers.items
