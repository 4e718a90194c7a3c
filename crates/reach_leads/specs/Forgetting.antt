-- What is left of an instance that isn't kept: its kind alone.
use Rattle.scan_signals.specs.declared.tri.Tri.TheVariants.{Unsure}
use Rattle.reach_states.specs.declared.untimed.Untimed.{Untimed}
use Rattle.reach_states.specs.declared.untimed.Untimed.TheVariants.{Timer, Counter, Output, Anything}

abbrev pub forgotten : Untimed → Untimed
forgotten (Timer last running elapsed q) = Output Unsure
forgotten (Counter last cv q) = Output Unsure
forgotten (Output q) = Output Unsure
forgotten Anything = Anything
