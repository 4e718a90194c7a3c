use Rattle.std.proofs.Common.{refl, sym}
use Rattle.draw_check.proofs.Within.{assigns_within}
use Rattle.draw_check.proofs.coils.take_coil.Goals as goal

pub returns-clause-coil : goal.returns-clause-coil
returns-clause-coil c = record {
  on = c.in_ok-on.on;
  variable = c.in_ok-variable.variable;
  expression = c.in_ok-variable.value.now;
  begins = c.in_ok-variable.ensures;
  cell = c.in_ok-on.ensures;
  small = (assigns_within c.args.variables _ _ _ _ c.in_ok-variable.ensures c.requires.within).0;
  link = c.if-not-is_link.ensures refl;
  unread = sym c.if-are_reading.ensures;
}

pub returns-clause-within : goal.returns-clause-within
returns-clause-within c = (assigns_within c.args.variables _ _ _ _ c.in_ok-variable.ensures c.requires.within).2
