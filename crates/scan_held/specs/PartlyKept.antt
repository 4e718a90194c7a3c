-- What is known of instances is in the type: three values have no others.
use Rattle.scan_signals.specs.Three.{AnyTri}
use Rattle.scan_partial.specs.KeepsValues.{KeepsValues}
use Rattle.scan_held.specs.Partly.{partly}
use Rattle.scan_held.specs.declared.partly.Partly.{Partly}

abbrev pub AnyPartly : Partly → Type 0
AnyPartly b = Unit {0}

pub partly_keeps_values : KeepsValues AnyTri AnyPartly partly
partly_keeps_values = record { stored = λ s. tt; q = λ b k. tt; step = λ kind preset b x y now k v w. tt; choice = λ guard b c v k l. tt }
