-- What is settled by cases of a pair: a scan over three values, or two of them, one where something is OFF before it and one where it is ON, or
-- three, one for each answer of an instance, and so on.
use Rattle.std.specs.Prelude.{◌≡◌, ℕ, Bool, true, false, List, [], Contains, slice_index_or, slice_set}
use Rattle.diagram_declarations.specs.declared.decls.Symbol.{Symbol}
use Rattle.diagram_declarations.specs.declared.decls.Symbol.TheVariants as symbol
use Rattle.diagram_program.specs.Program.{Drawing}
use Rattle.scan_cycle.specs.Programs.{diagram_of}
use Rattle.scan_symbolic.specs.KnownScan.{Known, after_known, kept_at}
use Rattle.scan_signals.specs.Three.{three, three_known, three_meet}
use Rattle.scan_signals.specs.declared.tri.Tri.{Tri}
use Rattle.scan_signals.specs.declared.tri.Tri.TheVariants.{Off, On, Unsure}
use Rattle.invariant_cases.specs.Assuming.{Assumed, nothing, truth_told}
use Rattle.invariant_cases.specs.Outcomes.{answer_known, outcomes, q_known}
use Rattle.invariant_cases.specs.declared.answer.Answer.{Answer}
use Rattle.invariant_cases.specs.declared.answer.Answer.TheVariants.{Off as AnswersOff, On as AnswersOn, Input, Open}
use Rattle.invariant_cases.specs.declared.outcome.Outcome.{Outcome}
use Rattle.invariant_cases.specs.declared.outcome.Outcome.TheVariants.{OfKind, Anything}
use Rattle.invariant_cases.specs.declared.pair.Pair.{Pair}
use Rattle.invariant_cases.specs.declared.point.Point.{Point}
use Rattle.invariant_cases.specs.declared.point.Point.TheVariants.{Variable, Output, Memory, Answer as AnswerOf}

abbrev pub is_answered : Answer → Tri
is_answered Open = Unsure
is_answered a = On

-- What is known of a point. What an instance answers is no truth value: ON says that it is known.
unfoldable pub told : Point → Known Tri Outcome → Tri
told (Variable var) k = slice_index_or k.values var Off
told (Output inst) k = q_known (kept_at outcomes k inst)
told (Memory number) k = slice_index_or k.memories number Off
told (AnswerOf inst) k = is_answered (answer_known (kept_at outcomes k inst))

abbrev pub with_q : Outcome → Tri → Outcome
with_q (OfKind q a) r = OfKind r a
with_q Anything r = Anything

-- The same with a value for the point. What an instance answers is given by `answering` alone.
unfoldable pub pinned : Known Tri Outcome → Point → Tri → Known Tri Outcome
pinned k (Variable var) x = record k { values = slice_set k.values var x }
pinned k (Output inst) x = record k { blocks = slice_set k.blocks inst (with_q (kept_at outcomes k inst) x) }
pinned k (Memory number) x = record k { memories = slice_set k.memories number x }
pinned k (AnswerOf inst) x = k

abbrev pub with_answer : Outcome → Answer → Outcome
with_answer (OfKind q a) b = OfKind q b
with_answer Anything b = Anything

-- The same where the instance answers so in its next step.
unfoldable pub answering : Known Tri Outcome → ℕ → Answer → Known Tri Outcome
answering k inst a = record k { blocks = slice_set k.blocks inst (with_answer (kept_at outcomes k inst) a) }

-- ---- pairs

-- The value of a variable, or the output of an instance.
abbrev pub point_of : Symbol → Point
point_of (symbol.Var var) = Variable var
point_of (symbol.Instance inst) = Output inst

-- What is known tells that a point is OFF: it is in a pair with what is known to be ON.
pub data IsForcedOff (pairs : List Pair) (k : Known Tri Outcome) (point : Point) : Type 0 where
  by_first : (pair : Pair) → Contains pairs pair → told (point_of pair.first) k ≡ On → point ≡ point_of pair.second → IsForcedOff pairs k point
  by_second : (pair : Pair) → Contains pairs pair → told (point_of pair.second) k ≡ On → point ≡ point_of pair.first → IsForcedOff pairs k point

-- The pair of one with itself: both are ON where it is.
abbrev pub of_itself : Symbol → Pair
of_itself symbol = record { first = symbol; second = symbol }

-- What is known of whether both of a pair are ON.
abbrev pub both_told : Pair → Known Tri Outcome → Tri
both_told pair k = three_meet (told (point_of pair.first) k) (told (point_of pair.second) k)

-- Whether both of the target are ON after a scan from what is known, where of no pair both were ON and what is assumed of the inputs is true, is
-- this value: over three values the scan tells it, or it is told that what is assumed is false; or it is so from there with a point OFF that a
-- pair forces to be, or both from there with some point OFF and from there with that point ON, or from there with each of the three answers of
-- some instance.
pub data IsSettledAssuming (p : Drawing) (a : Assumed) (pairs : List Pair) (target : Pair) (value : Bool) : Known Tri Outcome → Type 0 where
  by_scan : (k : Known Tri Outcome) → both_told target (after_known three outcomes (diagram_of p) 0 [] k) ≡ three_known value → IsSettledAssuming p a pairs target value k
  by_assumption : (k : Known Tri Outcome) → truth_told a k ≡ three_known false → IsSettledAssuming p a pairs target value k
  by_partner : (k : Known Tri Outcome) (point : Point) → IsForcedOff pairs k point → IsSettledAssuming p a pairs target value (pinned k point (three_known false))
      → IsSettledAssuming p a pairs target value k
  by_cases : (k : Known Tri Outcome) (point : Point) → IsSettledAssuming p a pairs target value (pinned k point (three_known false))
      → IsSettledAssuming p a pairs target value (pinned k point (three_known true)) → IsSettledAssuming p a pairs target value k
  by_answers : (k : Known Tri Outcome) (inst : ℕ) → IsSettledAssuming p a pairs target value (answering k inst AnswersOff)
      → IsSettledAssuming p a pairs target value (answering k inst AnswersOn) → IsSettledAssuming p a pairs target value (answering k inst Input)
      → IsSettledAssuming p a pairs target value k

-- where nothing is assumed
abbrev pub IsSettledBoth : Drawing → List Pair → Pair → Bool → Known Tri Outcome → Type 0
IsSettledBoth p pairs target value k = IsSettledAssuming p nothing pairs target value k
