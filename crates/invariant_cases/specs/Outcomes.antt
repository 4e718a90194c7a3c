-- What is known of an instance over three values, whatever it stores and at whatever moment it steps.
use Rattle.std.specs.Prelude.{◌≡◌, ℕ, Bool, if◌then◌else◌, ◌==◌}
use Rattle.diagram_declarations.specs.declared.kind.BlockKind.{BlockKind}
use Rattle.diagram_declarations.specs.declared.kind.BlockKind.TheVariants.{Ton, Tof, Tp, Ctu, Ctd, Sr, Rs}
use Rattle.scan_signals.specs.declared.block.Stored.{Stored}
use Rattle.scan_signals.specs.Blocks.{step, q_of, new_block}
use Rattle.scan_cycle.specs.RungByRung.{shape}
use Rattle.scan_symbolic.specs.KnownScan.{Keeping}
use Rattle.scan_signals.specs.Three.{three_allows, three_known, three_join, three_meet, three_inverse, three_choice}
use Rattle.scan_signals.specs.declared.tri.Tri.{Tri}
use Rattle.scan_signals.specs.declared.tri.Tri.TheVariants.{Off, On, Unsure}
use Rattle.invariant_cases.specs.declared.answer.Answer.{Answer}
use Rattle.invariant_cases.specs.declared.answer.Answer.TheVariants.{Off as AnswersOff, On as AnswersOn, Input, Open}
use Rattle.invariant_cases.specs.declared.outcome.Outcome.{Outcome}
use Rattle.invariant_cases.specs.declared.outcome.Outcome.TheVariants.{OfKind, Anything}

-- What an instance answers to a first input x.
abbrev pub answered : Answer → Tri → Tri
answered AnswersOff x = Off
answered AnswersOn x = On
answered Input x = x
answered Open x = Unsure

-- What is known of Q after a step, by the kind of the instance and its preset, Q before, what it answers, and the two inputs x and y. Where
-- the preset is 0 a TON and a TOF pass IN on; otherwise a TON is OFF where IN is, and a TOF is ON where IN is. A TP with preset 0 never
-- begins. R of a CTU and LD of a CTD leave a Q that the preset tells. In all else a timer or a counter answers, by what it stores and the
-- moment.
unfoldable pub q_after : BlockKind → ℕ → Tri → Answer → Tri → Tri → Tri
q_after Ton preset q a x y = if preset == 0 then x else three_meet x (answered a x)
q_after Tof preset q a x y = if preset == 0 then x else three_join x (answered a x)
q_after Tp preset q a x y = if preset == 0 then Off else answered a x
q_after Ctu preset q a x y = three_choice y (three_known (preset == 0)) (answered a x)
q_after Ctd preset q a x y = three_choice y (three_known (preset == 0)) (answered a x)
q_after Sr preset q a x y = three_join x (three_meet (three_inverse y) q)
q_after Rs preset q a x y = three_meet (three_inverse y) (three_join x q)

-- After the step it is open what the next one answers.
abbrev pub outcome_after : BlockKind → ℕ → Outcome → Tri → Tri → Outcome
outcome_after kind preset (OfKind q a) x y = OfKind (q_after kind preset q a x y) Open
outcome_after kind preset Anything x y = Anything

-- what is known of Q
abbrev pub q_known : Outcome → Tri
q_known (OfKind q a) = q
q_known Anything = Unsure

-- what is known of what it answers
abbrev pub answer_known : Outcome → Answer
answer_known (OfKind q a) = a
answer_known Anything = Open

-- what both answer
abbrev pub agreed : Answer → Answer → Answer
agreed AnswersOff AnswersOff = AnswersOff
agreed AnswersOn AnswersOn = AnswersOn
agreed Input Input = Input
agreed a b = Open

-- By a condition: what both sides agree on, where it is open. An answer is kept only where both sides have it.
abbrev pub outcome_choice : Tri → Outcome → Outcome → Outcome
outcome_choice c (OfKind q a) (OfKind r b) = OfKind (three_choice c q r) (agreed a b)
outcome_choice c x y = Anything

-- Of what is stored nothing is kept that a step changes but Q.
abbrev pub outcomes : Keeping Tri Outcome
outcomes = record { stored = λ s. Anything; q = q_known; step = λ kind preset b x y now. outcome_after kind preset b x y; choice = outcome_choice }

-- each is one
abbrev pub AnyOutcome : Outcome → Type 0
AnyOutcome b = Unit {0}

-- In a step from what is stored, at the moment, an instance of a kind and a preset answers so: Q after it is what is known by this answer,
-- whatever the inputs are.
abbrev pub DoesAnswer : BlockKind → ℕ → ℕ → Answer → Stored → Type 0
DoesAnswer kind preset moment a s = (x y : Bool)
    → three_allows (q_after kind preset (three_known (q_of s)) a (three_known x) (three_known y)) 0 (q_of (step kind preset s x y moment))

-- What an instance of a kind and a preset may store where this is known, and the scan is made at this moment.
abbrev pub MayStore : BlockKind → ℕ → ℕ → Outcome → Stored → Type 0
MayStore kind preset moment (OfKind q a) s = (shape s ≡ new_block kind) × three_allows q 0 (q_of s) × DoesAnswer kind preset moment a s
MayStore kind preset moment Anything s = Unit {0}

-- ---- where more is known

-- Where x is known, y is the same.
abbrev pub KnowsMore : Tri → Tri → Type 0
KnowsMore On y = y ≡ On
KnowsMore Off y = y ≡ Off
KnowsMore Unsure y = Unit {0}

abbrev pub AnswersMore : Answer → Answer → Type 0
AnswersMore AnswersOff b = b ≡ AnswersOff
AnswersMore AnswersOn b = b ≡ AnswersOn
AnswersMore Input b = b ≡ Input
AnswersMore Open b = Unit {0}

abbrev pub TellsMore : Outcome → Outcome → Type 0
TellsMore (OfKind q a) (OfKind r b) = KnowsMore q r × AnswersMore a b
TellsMore (OfKind q a) Anything = ⊥
TellsMore Anything y = Unit {0}
