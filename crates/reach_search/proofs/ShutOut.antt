-- What never changes shuts a literal out.
use Rattle.std.proofs.Common.{◌≡◌, Bool, true, false, ap, if◌then◌else◌, not, refl}
use Rattle.diagram_declarations.specs.declared.decls.Symbol.{Symbol}
use Rattle.diagram_declarations.specs.declared.decls.Symbol.TheVariants as symbol
use Rattle.scan_cycle.specs.Rung.{Held}
use Rattle.scan_signals.specs.Three.{three_known}
use Rattle.invariant_cases.specs.Allowing.{is_on_in}
use Rattle.invariant_cases.specs.Cases.{point_of}
use Rattle.invariant_sets.specs.Never.{Bits, IsSo}
use Rattle.reach_runs.specs.Asking.{is_so}
use Rattle.reach_runs.specs.declared.target.Literal.{Literal}
use Rattle.reach_search.specs.Shutting.{claim_of}

-- what is claimed is so
claimed : (z : Bits) (s : Symbol) (value : Bool) (h : Held) → IsSo z h → claim_of z s ≡ three_known value → is_on_in (point_of s) h ≡ value
claimed z (symbol.Var var) value h so is = so.variables var value is
claimed z (symbol.Instance inst) value h so is = so.instances inst value is

other_value : (on value asked : Bool) → on ≡ value → asked ≡ not value → (if asked then on else not on) ≡ false
other_value on true true e f = absurd cc
other_value on true false e f = ap not e
other_value on false true e f = e
other_value on false false e f = absurd cc

pub denied : (z : Bits) (l : Literal) (value : Bool) (h : Held) → IsSo z h → claim_of z l.symbol ≡ three_known value → l.value ≡ not value → is_so h l ≡ false
denied z l value h so claim other = other_value (is_on_in (point_of l.symbol) h) value l.value (claimed z l.symbol value h so claim) other

pub not_on : (b : Bool) → not b ≡ true → b ≡ false
not_on true e = absurd cc
not_on false e = refl
