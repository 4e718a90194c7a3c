-- The waveform of a simulation as a value change dump (IEEE Std 1364-2005, clause 18): each variable, and the output of each instance, is a
-- wire of one bit. Both are numbered from 0 in order of declaration, and a moment is in milliseconds. Its syntax is that of 18.2.1, its
-- keywords are those of 18.2.3.
use Rattle.std.specs.Prelude.{◌++◌, ◌==◌, ℕ, Bool, true, false, not, if◌then◌else◌, List, [], codes, decimal, length, slice_get, slice_index_or, Some, None}
use Rattle.diagram_declarations.specs.declared.decls.Symbol.{Symbol}
use Rattle.diagram_declarations.specs.declared.decls.Symbol.TheVariants as symbol
use Rattle.diagram_declarations.specs.declared.kind.BlockKind.TheVariants.{Ton}
use Rattle.diagram_declarations.specs.declared.kind.Output.{Output}
use Rattle.diagram_declarations.specs.declared.kind.Output.TheVariants as output
use Rattle.diagram_declarations.specs.Decls.{Declared, instance_name, var_name}
use Rattle.diagram_declarations.specs.Kind.{traits_of}
use Rattle.scan_signals.specs.Blocks.{q_of, new_block}
use Rattle.diagram_program.specs.Program.{Drawing}
use Rattle.scan_cycle.specs.Standing.{Standing}
use Rattle.text_power.specs.Show.{each}

-- ---- what is shown

-- The value of a variable in a state, or the output of an instance: Q, of a bistable Q1.
abbrev pub value_of : Standing → Symbol → Bool
value_of s (symbol.Var n) = slice_index_or s.held.values n false
value_of s (symbol.Instance n) = q_of (slice_index_or s.held.kept.blocks n (new_block Ton))

-- The identifier code (18.2.1, `identifier_code`: printable characters): `v` or `i`, and the number.
abbrev pub code_of : Symbol → List ℕ
code_of (symbol.Var n) = codes "v" ++ decimal n
code_of (symbol.Instance n) = codes "i" ++ decimal n

-- the standard's word for the output of an instance
abbrev pub output_word : Output → List ℕ
output_word output.Q = codes "Q"
output_word output.Q1 = codes "Q1"

abbrev pub output_name : Declared → ℕ → List ℕ
output_name d inst = elim (slice_get d.instances inst) [ None ↦ [] | Some i ↦ output_word (traits_of i.kind).output ]

-- Lines for each variable and then for each instance, one after the other.
abbrev pub for_each : Declared → (Symbol → List ℕ) → List ℕ
for_each d line = each (λ n. line (symbol.Var n)) (length d.vars) ++ each (λ n. line (symbol.Instance n)) (length d.instances)

-- ---- the declarations

-- A wire of one bit, its code and its name (18.2.3, `$var`).
abbrev pub wire_line : Symbol → List ℕ → List ℕ
wire_line x name = codes "$var wire 1 " ++ (code_of x ++ (codes " " ++ (name ++ codes " $end\n")))

-- the beginning of a scope (18.2.3, `$scope`)
abbrev pub scope_line : List ℕ → List ℕ
scope_line name = codes "$scope module " ++ (name ++ codes " $end\n")

-- A name is an identifier, which has no period (18.2.3, `$var`), so an instance is a scope with its output in it, up to `$upscope` (18.2.3):
-- a viewer shows that as `NAME.Q`.
abbrev pub declaration : Declared → Symbol → List ℕ
declaration d (symbol.Var n) = wire_line (symbol.Var n) (var_name d n)
declaration d (symbol.Instance n) =
    scope_line (instance_name d n) ++ (wire_line (symbol.Instance n) (output_name d n) ++ codes "$upscope $end\n")

-- The unit of time (18.2.3, `$timescale`), a scope around all, and the end of the declarations (18.2.3, `$enddefinitions`).
abbrev pub declarations : Declared → List ℕ
declarations d =
    codes "$timescale 1 ms $end\n$scope module ladder $end\n" ++ (for_each d (declaration d) ++ codes "$upscope $end\n$enddefinitions $end\n")

-- ---- the values

-- A value, with the code right behind it (18.2.1, `scalar_value_change`).
abbrev pub value_line : Symbol → Bool → List ℕ
value_line x true = codes "1" ++ (code_of x ++ codes "\n")
value_line x false = codes "0" ++ (code_of x ++ codes "\n")

-- A moment (18.2.1, `simulation_time`), behind which the values are those from then on.
abbrev pub time_line : ℕ → List ℕ
time_line moment = codes "#" ++ (decimal moment ++ codes "\n")

-- All values of a state at its moment (18.2.3, `$dumpvars`).
abbrev pub dumped : Declared → Standing → List ℕ
dumped d s = codes "$dumpvars\n" ++ (for_each d (λ x. value_line x (value_of s x)) ++ codes "$end\n")

-- What stands before the first scan: the declarations, and all values of the state at its moment.
abbrev pub start_text : Drawing → Standing → List ℕ
start_text p s = declarations p.decls ++ (time_line s.moment ++ dumped p.decls s)

-- ---- the changes

-- The moment of a scan, where it has moved on: so no moment stands twice. It stands there without a change too, so that the waveform ends
-- where the simulation does.
abbrev pub moved_line : Standing → Standing → List ℕ
moved_line s t = if s.moment == t.moment then [] else time_line t.moment

abbrev pub differ : Bool → Bool → Bool
differ true b = not b
differ false b = b

-- The new value of what has changed from a state to the next.
abbrev pub change_line : Standing → Standing → Symbol → List ℕ
change_line s t x = if differ (value_of s x) (value_of t x) then value_line x (value_of t x) else []

-- What is written of a scan from a state to the next.
abbrev pub change_text : Drawing → Standing → Standing → List ℕ
change_text p s t = moved_line s t ++ for_each p.decls (change_line s t)
