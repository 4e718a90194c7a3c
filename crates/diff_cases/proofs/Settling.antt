-- What is settled by cases to be left alike is so after one scan of each program.
use Rattle.std.proofs.Common.{◌≡◌, ◌∙◌, arith, inl, inr, ℕ, Bool, true, false, [], sym}
use Rattle.diagram_declarations.specs.declared.decls.Symbol.TheVariants as symbol
use Rattle.diagram_program.specs.Program.{Drawing}
use Rattle.scan_signals.specs.Three.{three_known}
use Rattle.scan_signals.specs.declared.tri.Tri.{Tri}
use Rattle.scan_cycle.specs.Programs.{diagram_of}
use Rattle.scan_cycle.specs.Rung.{Held}
use Rattle.scan_cycle.specs.Scan.{after_scan}
use Rattle.scan_symbolic.specs.KnownLaws.{KnownIsScan}
use Rattle.scan_symbolic.specs.KnownScan.{Known}
use Rattle.invariant_cases.proofs.Settling.{settled_assuming}
use Rattle.invariant_cases.specs.Allowing.{AllowsState, AreApart, are_both_on}
use Rattle.invariant_cases.specs.Assuming.{Assumed, IsTrueIn, truth_told}
use Rattle.invariant_cases.specs.Cases.{of_itself, by_assumption as assumed_false}
use Rattle.invariant_cases.specs.declared.answer.Answer.TheVariants.{Off as AnswersOff, On as AnswersOn, Input}
use Rattle.invariant_cases.specs.declared.outcome.Outcome.{Outcome}
use Rattle.diff_matching.specs.Matching.{Agree, AgreeOnInputs, Matching}
use Rattle.diff_cases.specs.Alike.{AreAlike, IsComparable}
use Rattle.diff_cases.specs.Assuming.{AreTrueIn, BothAssumed}
use Rattle.diff_cases.specs.Cases.{IsSettledAlikeAssuming, IsToldAlike, after, answering_in, by_answers, by_assumption, by_cases, by_scan, pinned_in}
use Rattle.diff_cases.proofs.Contents.{left_alike}
use Rattle.diff_cases.proofs.Scanned.{Keeps, allowed_memory, allowed_value, known_alike, scan_allows}
use Rattle.diff_cases.proofs.Together.{one_answer_in, one_case}
use Rattle.diff_cases.specs.declared.target.Target.{Target}
use Rattle.diff_cases.specs.declared.target.Target.TheVariants.{Variable, Memory, Contents}

on_off : true ≡ false → ⊥
on_off e = cc

none_apart : (h : Held) → AreApart [] h
none_apart h n d lt = absurd (omega (arith, lt))

-- What is told to be false is false in each state that what is known allows: of any pair both would be ON, and would not.
false_told : (p : Drawing) → Keeps p → KnownIsScan (diagram_of p) → (a : Assumed) (now : ℕ) (k : Known Tri Outcome) (h : Held) → AllowsState p now k h
    → truth_told a k ≡ three_known false → IsTrueIn a h → ⊥
false_told p keeps known a now k h r e true_in =
    let pair = of_itself (symbol.Var 0) in
    let both : (value : Bool) → are_both_on (after_scan (diagram_of p) now [] h) pair ≡ value =
    λ value. settled_assuming p keeps known a [] pair value k (assumed_false k e) now h r (none_apart h) true_in in
    on_off (sym (both true) ∙ both false)

module _ (p q : Drawing) (old_keeps : Keeps p) (new_keeps : Keeps q) (old_known : KnownIsScan (diagram_of p)) (new_known : KnownIsScan (diagram_of q)) where
  told_alike : (m : Matching) (target : Target) → IsComparable m p q target → (k l : Known Tri Outcome) → IsToldAlike p q target k l → (now : ℕ) (h g : Held)
      → AllowsState p now k h → AllowsState q now l g → Agree m h g → AreAlike target (after_scan (diagram_of p) now [] h) (after_scan (diagram_of q) now [] g)
  told_alike m (Variable x) can k l e now h g r s agree =
      known_alike _ _ _ _ e (allowed_value p now (after p k) (after_scan (diagram_of p) now [] h) (scan_allows p old_keeps old_known now k h r) x.old)
      (allowed_value q now (after q l) (after_scan (diagram_of q) now [] g) (scan_allows q new_keeps new_known now l g s) x.new)
  told_alike m (Memory x) can k l e now h g r s agree =
      known_alike _ _ _ _ e (allowed_memory p now (after p k) (after_scan (diagram_of p) now [] h) (scan_allows p old_keeps old_known now k h r) x.old)
      (allowed_memory q now (after q l) (after_scan (diagram_of q) now [] g) (scan_allows q new_keeps new_known now l g s) x.new)
  told_alike m (Contents x) can k l e now h g r s agree =
      left_alike p q old_keeps new_keeps old_known new_known m x can.0 can.1 k l now h g r s agree e

  pub settled_alike : (a : BothAssumed) (m : Matching) (target : Target) → IsComparable m p q target → (k l : Known Tri Outcome) → IsSettledAlikeAssuming p q a m target k l → (now : ℕ) (h g : Held)
      → AllowsState p now k h → AllowsState q now l g → Agree m h g → AgreeOnInputs m h g → AreTrueIn a h g
      → AreAlike target (after_scan (diagram_of p) now [] h) (after_scan (diagram_of q) now [] g)
  settled_alike a m target can _ _ (by_scan k l e) now h g r s agree inputs true_in = told_alike m target can k l e now h g r s agree
  settled_alike a m target can _ _ (by_assumption k l told) now h g r s agree inputs true_in = elim told [
    | inl e ↦ absurd (false_told p old_keeps old_known a.of_old now k h r e true_in.0)
    | inr e ↦ absurd (false_told q new_keeps new_known a.of_new now l g s e true_in.1)
  ]
  settled_alike a m target can _ _ (by_cases k l joint at off on) now h g r s agree inputs true_in = elim (one_case p q m now k l h g r s agree inputs joint.old joint.new at) [
    | inl t ↦ settled_alike a m target can (pinned_in k joint.old (three_known false)) (pinned_in l joint.new (three_known false)) off now h g t.0 t.1 agree inputs true_in
    | inr t ↦ settled_alike a m target can (pinned_in k joint.old (three_known true)) (pinned_in l joint.new (three_known true)) on now h g t.0 t.1 agree inputs true_in
  ]
  settled_alike a m target can _ _ (by_answers k l joint at off on input) now h g r s agree inputs true_in = elim (one_answer_in p q m now k l h g r s agree joint.old joint.new at) [
    | inl t ↦ settled_alike a m target can (answering_in k joint.old AnswersOff) (answering_in l joint.new AnswersOff) off now h g t.0 t.1 agree inputs true_in
    | inr (inl t) ↦ settled_alike a m target can (answering_in k joint.old AnswersOn) (answering_in l joint.new AnswersOn) on now h g t.0 t.1 agree inputs true_in
    | inr (inr t) ↦ settled_alike a m target can (answering_in k joint.old Input) (answering_in l joint.new Input) input now h g t.0 t.1 agree inputs true_in
  ]
