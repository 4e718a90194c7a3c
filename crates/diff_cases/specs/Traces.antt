-- What is known over three values of an instance and of its step in one scan.
use Rattle.std.specs.Prelude.{ℕ, [], map}
use Rattle.diagram_program.specs.Program.{Drawing}
use Rattle.scan_signals.specs.Three.{AnyTri, three}
use Rattle.scan_signals.specs.declared.tri.Tri.{Tri}
use Rattle.scan_signals.specs.declared.tri.Tri.TheVariants.{Off, On, Unsure}
use Rattle.scan_cycle.specs.Programs.{diagram_of}
use Rattle.scan_symbolic.specs.KnownScan.{Keeping, Known, after_known, kept_at}
use Rattle.scan_partial.specs.KeepsValues.{KeepsValues}
use Rattle.invariant_cases.specs.Outcomes.{outcome_after, outcome_choice, q_known}
use Rattle.invariant_cases.specs.declared.outcome.Outcome.{Outcome}
use Rattle.invariant_cases.specs.declared.outcome.Outcome.TheVariants.{Anything}
use Rattle.diff_cases.specs.declared.trace.Trace.{Trace}
use Rattle.diff_cases.specs.declared.trace.Trace.TheVariants.{Unstepped, Stepped, Open}
use Rattle.diff_cases.specs.declared.trace.Traced.{Traced}

-- After a step by two inputs. A second step in a scan isn't told.
abbrev pub trace_after : Trace → Tri → Tri → Trace
trace_after Unstepped x y = Stepped x y
trace_after t x y = Open

-- By a condition: the side that it takes, where it is known.
abbrev pub trace_choice : Tri → Trace → Trace → Trace
trace_choice On t u = t
trace_choice Off t u = u
trace_choice Unsure t u = Open

-- Each instance is kept by what is known of it, and of its step.
abbrev pub traces : Keeping Tri Traced
traces = record {
  stored = λ s. record { outcome = Anything; trace = Open };
  q = λ b. q_known b.outcome;
  step = λ kind preset b x y now. record { outcome = outcome_after kind preset b.outcome x y; trace = trace_after b.trace x y };
  choice = λ c b e. record { outcome = outcome_choice c b.outcome e.outcome; trace = trace_choice c b.trace e.trace };
}

-- each is one
abbrev pub AnyTraced : Traced → Type 0
AnyTraced b = Unit {0}

-- Three values have no others.
pub traces_keep_values : KeepsValues AnyTri AnyTraced traces
traces_keep_values = record { stored = λ s. tt; q = λ b k. tt; step = λ kind preset b x y now k v w. tt; choice = λ guard b c v k l. tt }

-- Before a scan no instance has made its step.
abbrev pub unstepped : Outcome → Traced
unstepped b = record { outcome = b; trace = Unstepped }

abbrev pub all_unstepped : Known Tri Outcome → Known Tri Traced
all_unstepped k = record { values = k.values; memories = k.memories; blocks = map unstepped k.blocks }

-- What is known after a scan that gives no input a value.
abbrev pub traced_after : Drawing → Known Tri Outcome → Known Tri Traced
traced_after p k = after_known three traces (diagram_of p) 0 [] (all_unstepped k)

-- What is known of the step of an instance.
abbrev pub trace_of : ℕ → Known Tri Traced → Trace
trace_of inst k = (kept_at traces k inst).trace
