-- What is settled by cases to be left alike by one scan of each of two programs: scans over three values tell it, or it is told that what is
-- assumed is false; or it is so in each of two cases, one where something is OFF in both programs and one where it is ON in both, or in each of
-- three, one for each answer of an instance of both, and so on.
use Rattle.std.specs.Prelude.{◌≡◌, ◌⊎◌, ℕ, true, false, [], Option, Some, None, Contains}
use Rattle.diagram_declarations.specs.declared.kind.BlockKind.{BlockKind}
use Rattle.diagram_declarations.specs.declared.kind.BlockKind.TheVariants.{Sr, Rs}
use Rattle.diagram_program.specs.Program.{Drawing}
use Rattle.scan_signals.specs.Three.{three, three_known}
use Rattle.scan_signals.specs.declared.tri.Tri.{Tri}
use Rattle.scan_signals.specs.declared.tri.Tri.TheVariants.{Off, On, Unsure}
use Rattle.scan_cycle.specs.Programs.{diagram_of}
use Rattle.scan_symbolic.specs.KnownScan.{Known, after_known, kept_at}
use Rattle.invariant_cases.specs.Cases.{answering, pinned, told}
use Rattle.invariant_cases.specs.Outcomes.{answer_known, outcomes}
use Rattle.invariant_cases.specs.declared.answer.Answer.{Answer}
use Rattle.invariant_cases.specs.declared.answer.Answer.TheVariants.{Off as AnswersOff, On as AnswersOn, Input, Open}
use Rattle.invariant_cases.specs.declared.outcome.Outcome.{Outcome}
use Rattle.invariant_cases.specs.declared.point.Point.{Point}
use Rattle.invariant_cases.specs.declared.point.Point.TheVariants as point
use Rattle.diff_matching.specs.Matching.{Matching}
use Rattle.diff_cases.specs.Assuming.{BothAssumed, IsToldFalse}
use Rattle.diff_cases.specs.declared.joint.Joint.{Joint}
use Rattle.diff_cases.specs.declared.joint.Joint.TheVariants.{Points, Instances}
use Rattle.diff_cases.specs.declared.joint.JointInstances.{JointInstances}
use Rattle.diff_cases.specs.declared.joint.JointPoint.{JointPoint}
use Rattle.diff_cases.specs.declared.target.Target.{Target}
use Rattle.diff_cases.specs.declared.target.Target.TheVariants.{Variable, Memory, Contents}
use Rattle.diff_cases.specs.declared.trace.Trace.{Trace}
use Rattle.diff_cases.specs.declared.trace.Trace.TheVariants.{Unstepped, Stepped}
use Rattle.diff_cases.specs.Traces.{trace_of, traced_after}

-- ---- what is the same in both programs

-- The matching says of two points that they belong together: of variables, which may be inputs, of outputs of instances, or of memories.
abbrev pub AreTogether : Matching → Point → Point → Type 0
AreTogether m (point.Variable a) (point.Variable b) = Contains m.variables (record { old = a; new = b }) ⊎ Contains m.inputs (record { old = a; new = b })
AreTogether m (point.Output a) (point.Output b) = Contains m.instances (record { old = a; new = b })
AreTogether m (point.Memory a) (point.Memory b) = Contains m.memories (record { old = a; new = b })
AreTogether m x y = ⊥

-- Two points may be pinned at once where they belong together. One alone always may.
abbrev pub MayBeJoint : Matching → Option Point → Option Point → Type 0
MayBeJoint m (Some x) (Some y) = AreTogether m x y
MayBeJoint m x y = Unit {0}

abbrev pub BelongTogether : Matching → JointPoint → Type 0
BelongTogether m joint = MayBeJoint m joint.old joint.new

-- Two instances have one kind and one preset.
abbrev pub AreOfOneKind : Drawing → Drawing → ℕ → ℕ → Type 0
AreOfOneKind p q a b = ((diagram_of p).kind a ≡ (diagram_of q).kind b) × ((diagram_of p).preset a ≡ (diagram_of q).preset b)

-- Two instances answer alike where they belong together and have one kind and one preset. One alone always may be given an answer.
abbrev pub MayAnswerJointly : Matching → Drawing → Drawing → Option ℕ → Option ℕ → Type 0
MayAnswerJointly m p q (Some a) (Some b) = Contains m.instances (record { old = a; new = b }) × AreOfOneKind p q a b
MayAnswerJointly m p q x y = Unit {0}

abbrev pub CanAnswerAlike : Matching → Drawing → Drawing → JointInstances → Type 0
CanAnswerAlike m p q joint = MayAnswerJointly m p q joint.old joint.new

-- Cases may be made of points that belong together, or of instances that answer alike.
abbrev pub MayBeCases : Matching → Drawing → Drawing → Joint → Type 0
MayBeCases m p q (Points joint) = BelongTogether m joint
MayBeCases m p q (Instances joint) = CanAnswerAlike m p q joint

-- ---- what is known in one of the programs

-- what is known of a point, where there is one
abbrev pub told_in : Option Point → Known Tri Outcome → Tri
told_in None k = Off
told_in (Some x) k = told x k

-- what is known with a value for a point, where there is one
abbrev pub pinned_in : Known Tri Outcome → Option Point → Tri → Known Tri Outcome
pinned_in k None x = k
pinned_in k (Some y) x = pinned k y x

-- what is known of the answer of an instance, where there is one
abbrev pub answer_in : Option ℕ → Known Tri Outcome → Answer
answer_in None k = Open
answer_in (Some inst) k = answer_known (kept_at outcomes k inst)

-- what is known with an answer for the next step of an instance, where there is one
abbrev pub answering_in : Known Tri Outcome → Option ℕ → Answer → Known Tri Outcome
answering_in k None a = k
answering_in k (Some inst) a = answering k inst a

-- what is known after a scan that gives no input a value
abbrev pub after : Drawing → Known Tri Outcome → Known Tri Outcome
after p k = after_known three outcomes (diagram_of p) 0 [] k

-- ---- what is settled

-- Both are known, and are the same.
abbrev pub AreKnownAlike : Tri → Tri → Type 0
AreKnownAlike On y = y ≡ On
AreKnownAlike Off y = y ≡ Off
AreKnownAlike Unsure y = ⊥

-- Both made no step, or both made one by the same two inputs, which are known.
abbrev pub AreTracedAlike : Trace → Trace → Type 0
AreTracedAlike Unstepped Unstepped = Unit {0}
AreTracedAlike (Stepped x y) (Stepped u v) = AreKnownAlike x u × AreKnownAlike y v
AreTracedAlike t u = ⊥

-- Scans over three values tell that a point is left alike.
abbrev pub IsPointAlike : Drawing → Drawing → Point → Point → Known Tri Outcome → Known Tri Outcome → Type 0
IsPointAlike p q x y k l = AreKnownAlike (told x (after p k)) (told y (after q l))

-- They tell that instances of a kind are left alike, which stored the same: a bistable stores its Q alone, and what a timer or a counter stores
-- is told by its step.
abbrev pub AreContentsAlike : BlockKind → Drawing → Drawing → ℕ → ℕ → Known Tri Outcome → Known Tri Outcome → Type 0
AreContentsAlike Sr p q a b k l = IsPointAlike p q (point.Output a) (point.Output b) k l
AreContentsAlike Rs p q a b k l = IsPointAlike p q (point.Output a) (point.Output b) k l
AreContentsAlike kind p q a b k l = AreTracedAlike (trace_of a (traced_after p k)) (trace_of b (traced_after q l))

-- They tell that the target is left alike.
abbrev pub IsToldAlike : Drawing → Drawing → Target → Known Tri Outcome → Known Tri Outcome → Type 0
IsToldAlike p q (Variable x) k l = IsPointAlike p q (point.Variable x.old) (point.Variable x.new) k l
IsToldAlike p q (Memory x) k l = IsPointAlike p q (point.Memory x.old) (point.Memory x.new) k l
IsToldAlike p q (Contents x) k l = AreContentsAlike ((diagram_of p).kind x.old) p q x.old x.new k l

-- One scan of each leaves the target alike, from what is known of a state of each of which both agree on what belongs together, where what is
-- assumed of the inputs is true.
pub data IsSettledAlikeAssuming (p q : Drawing) (a : BothAssumed) (m : Matching) (target : Target) : Known Tri Outcome → Known Tri Outcome → Type 0 where
  by_scan : (k l : Known Tri Outcome) → IsToldAlike p q target k l → IsSettledAlikeAssuming p q a m target k l
  by_assumption : (k l : Known Tri Outcome) → IsToldFalse a k l → IsSettledAlikeAssuming p q a m target k l
  by_cases : (k l : Known Tri Outcome) (joint : JointPoint) → BelongTogether m joint
      → IsSettledAlikeAssuming p q a m target (pinned_in k joint.old (three_known false)) (pinned_in l joint.new (three_known false))
      → IsSettledAlikeAssuming p q a m target (pinned_in k joint.old (three_known true)) (pinned_in l joint.new (three_known true))
      → IsSettledAlikeAssuming p q a m target k l
  by_answers : (k l : Known Tri Outcome) (joint : JointInstances) → CanAnswerAlike m p q joint
      → IsSettledAlikeAssuming p q a m target (answering_in k joint.old AnswersOff) (answering_in l joint.new AnswersOff)
      → IsSettledAlikeAssuming p q a m target (answering_in k joint.old AnswersOn) (answering_in l joint.new AnswersOn)
      → IsSettledAlikeAssuming p q a m target (answering_in k joint.old Input) (answering_in l joint.new Input)
      → IsSettledAlikeAssuming p q a m target k l
