use Rattle.std.proofs.Common.{refl, rules}
use Rattle.plc_units.proofs.doing.does_unit.Goals as goal

pub returns : goal.returns
returns c = λ does. record {
  view = _;
  named = record { of_text = refl; variables = c.deref-4.ensures.value; instances = c.deref-5.ensures.value };
  declares = c.in_ok-declares.ensures (search rules);
  does = c.in_ok-does_body.ensures does _ (rw c.deref.ensures.value c.in_ok-parts.ensures);
}
