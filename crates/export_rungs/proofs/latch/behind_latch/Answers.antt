use Rattle.std.proofs.Common.{◌≡◌, ◌∙◌, Bool, true, false, not, refl, sym}
use Rattle.std.specs.Bool.{beq}
use Rattle.export_rungs.proofs.latch.behind_latch.Goals as goal

same_bool : (x y : Bool) → not (beq x y) ≡ false → x ≡ y
same_bool true true t = refl
same_bool false false t = refl
same_bool true false t = t
same_bool false true t = sym t

pub returns : goal.returns
returns c = record {
  on = c.in_ok-on.on;
  variable = c.in_ok-variable.variable;
  expression = c.in_ok-variable.value.now;
  cell = c.in_ok-on.ensures;
  small = c.if-not-is_own.ensures refl;
  begins = c.in_ok-variable.ensures;
  constant = λ env. c.in_ok-constant_of.ensures env ∙ same_bool _ _ c.if-branch-on.false;
  shows = c.if-not-shows.ensures refl;
}
