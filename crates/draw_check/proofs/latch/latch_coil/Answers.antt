use Rattle.std.proofs.Common.{◌≡◌, ◌∙◌, Bool, true, false, not, refl, sym}
use Rattle.std.specs.Bool.{beq}
use Rattle.draw_check.proofs.Within.{assigns_within}
use Rattle.draw_check.proofs.latch.latch_coil.Goals as goal

same_bool : (x y : Bool) → not (beq x y) ≡ false → x ≡ y
same_bool true true t = refl
same_bool false false t = refl
same_bool true false t = t
same_bool false true t = sym t

pub returns-clause-latch : goal.returns-clause-latch
returns-clause-latch c = record {
  on = c.in_ok-on.on;
  variable = c.in_ok-variable.variable;
  expression = c.in_ok-variable.value.now;
  begins = c.in_ok-variable.ensures;
  constant = λ env. c.in_ok-constant_of.ensures env ∙ same_bool _ _ c.if-branch-on.false;
  cell = c.in_ok-on.ensures;
  small = (assigns_within c.args.variables _ _ _ _ c.in_ok-variable.ensures c.requires.within).0;
  link = c.if-not-is_link.ensures refl;
}

pub returns-clause-within : goal.returns-clause-within
returns-clause-within c = (assigns_within c.args.variables _ _ _ _ c.in_ok-variable.ensures c.requires.within).2
