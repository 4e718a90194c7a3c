-- Laws of the waveform.
use Rattle.std.specs.Prelude.{◌≡◌, ◌<◌, ◌^◌, ℕ, []}
use Rattle.diagram_declarations.specs.declared.decls.Symbol.{Symbol}
use Rattle.diagram_declarations.specs.declared.decls.Symbol.TheVariants as symbol
use Rattle.scan_cycle.specs.Standing.{Standing}
use Rattle.text_vcd.specs.Waves.{change_line, code_of, value_of}

abbrev pub number_of : Symbol → ℕ
number_of (symbol.Var n) = n
number_of (symbol.Instance n) = n

-- No two things that are shown have the same identifier code.
abbrev pub DistinctCodes : Type 0
DistinctCodes = (x y : Symbol) → number_of x < 2 ^ 64 → number_of y < 2 ^ 64 → code_of x ≡ code_of y → x ≡ y

-- What is shown, and is not written of a scan, has the value that it had before.
abbrev pub UnwrittenIsKept : Type 0
UnwrittenIsKept = (s t : Standing) (x : Symbol) → change_line s t x ≡ [] → value_of t x ≡ value_of s x
