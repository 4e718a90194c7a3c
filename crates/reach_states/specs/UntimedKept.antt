-- What is known of instances is in the type: three values have no others.
use Rattle.scan_signals.specs.Three.{AnyTri}
use Rattle.scan_partial.specs.KeepsValues.{KeepsValues}
use Rattle.reach_states.specs.Untimed.{untimed}
use Rattle.reach_states.specs.declared.untimed.Untimed.{Untimed}

abbrev pub AnyUntimed : Untimed → Type 0
AnyUntimed b = Unit {0}

pub untimed_keeps_values : KeepsValues AnyTri AnyUntimed untimed
untimed_keeps_values = record { stored = λ s. tt; q = λ b k. tt; step = λ kind preset b x y now k v w. tt; choice = λ guard b c v k l. tt }
