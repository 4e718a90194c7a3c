-- Private: the lines that are written for each variable and each instance.
use Rattle.std.specs.Prelude.{ℕ, List}
use Rattle.diagram_declarations.specs.declared.decls.Symbol.{Symbol}
use Rattle.diagram_declarations.specs.Decls.{Declared}
use Rattle.text_vcd.specs.declared.lines.Lines.{Lines}
use Rattle.text_vcd.specs.declared.lines.Lines.TheVariants.{Declarations, Values, Changes}
use Rattle.text_vcd.specs.Waves.{change_line, declaration, value_line, value_of}

abbrev pub line_of : Declared → Lines → Symbol → List ℕ
line_of d Declarations x = declaration d x
line_of d (Values s) x = value_line x (value_of s.now x)
line_of d (Changes s t) x = change_line s.now t.now x
