-- What is not written has kept its value.
use Rattle.std.proofs.Common.{◌≡◌, [], Bool, true, false, cond, refl}
use Rattle.diagram_declarations.specs.declared.decls.Symbol.{Symbol}
use Rattle.text_vcd.specs.Laws.{UnwrittenIsKept}
use Rattle.text_vcd.specs.Waves.{differ, value_line, value_of}

by : (x : Symbol) (a b : Bool) → cond (differ a b) (value_line x b) [] ≡ [] → b ≡ a
by x true true e = refl
by x false false e = refl
by x true false e = cc
by x false true e = cc

pub unwritten_kept : UnwrittenIsKept
unwritten_kept s t x e = by x (value_of s x) (value_of t x) e
