-- What is told of a set, and settled.
use Rattle.std.proofs.Common.{◌≡◌, ◌∙◌, ℕ, List, [], get_or, length, true, false, Bool, sym, ap, subst, refl, arith}
use Rattle.std.specs.Prelude.{Contains}
use Rattle.std.proofs.lemmas.List.Elements.{All-nil}
use Rattle.scan_cycle.specs.Standing.{Standing}
use Rattle.invariant_cases.specs.Allowing.{are_both_on}
use Rattle.diagram_declarations.specs.declared.decls.Symbol.{Symbol}
use Rattle.diagram_program.specs.Program.{Drawing}
use Rattle.scan_cycle.specs.Programs.{diagram_of}
use Rattle.scan_symbolic.specs.KnownScan.{Known, after_known, kept_at}
use Rattle.scan_signals.specs.Three.{three, three_known, three_meet}
use Rattle.scan_signals.specs.declared.tri.Tri.{Tri}
use Rattle.scan_signals.specs.declared.tri.Tri.TheVariants.{Off, On, Unsure}
use Rattle.invariant_cases.specs.Cases.{IsForcedOff, IsSettledAssuming, answering, by_answers, by_assumption, by_cases, by_partner, by_scan, of_itself, pinned, point_of, told}
use Rattle.invariant_cases.specs.Assuming.{Assumed}
use Rattle.invariant_cases.specs.Cases as cases
use Rattle.invariant_cases.specs.Buffers.{KeepBuffers}
use Rattle.invariant_cases.specs.declared.buffers.CaseBuffers.{CaseBuffers}
use Rattle.invariant_cases.specs.Outcomes.{outcomes, q_known}
use Rattle.invariant_cases.specs.declared.answer.Answer.TheVariants.{Off as AnswersOff, On as AnswersOn, Input}
use Rattle.invariant_cases.specs.declared.outcome.Outcome.{Outcome}
use Rattle.invariant_cases.specs.declared.pair.Pair.{Pair}
use Rattle.invariant_cases.specs.declared.point.Point.{Point}
use Rattle.invariant_cases.specs.declared.point.Point.TheVariants.{Variable, Output}
use Rattle.invariant_cases.proofs.Values.{known_beside, known_within}
use Rattle.invariant_sets.proofs.Claims.{within_all}
use Rattle.invariant_sets.specs.Invariants.{IsSettledSoAssuming}
use Rattle.invariant_sets.specs.Never.{Bits, IsSetOf, knowing}
use Rattle.invariant_sets.specs.Pairs.{ArePairsAssuming, IsExcludedAssuming, IsPairOutside}
use Rattle.invariant_sets.specs.Removing.{IsLeftOf, IsLeftSo, left_so}

-- what is known of a variable and of a Q is told
pub told_of_variable : (k l : Known Tri Outcome) (var : ℕ) (value : Bool) → k ≡ l → get_or l.values var Unsure ≡ three_known value → told (Variable var) k ≡ three_known value
unfolding told
told_of_variable k l var value e f = ap (λ (m : Known Tri Outcome). get_or m.values var Off) e ∙ known_within l.values var value Off f

pub told_of_output : (k l : Known Tri Outcome) (inst : ℕ) (value : Bool) → k ≡ l → q_known (kept_at outcomes l inst) ≡ three_known value → told (Output inst) k ≡ three_known value
unfolding told
told_of_output k l inst value e f = ap (λ (m : Known Tri Outcome). q_known (kept_at outcomes m inst)) e ∙ f

false_true : false ≡ true → ⊥
false_true e = cc

pub neither_on : {A : Type 0} {b : Bool} → b ≡ false → b ≡ true → A
neither_on e f = absurd (false_true (sym e ∙ f))

-- what is told of a variable of which something is claimed, and of a Q, is known
pub known_of_variable : (bits : List Tri) (k l : Known Tri Outcome) (var : ℕ) (value : Bool) → k ≡ l → length k.values ≡ length bits → get_or bits var Unsure ≡ three_known value
    → told (Variable var) k ≡ three_known value → get_or l.values var Unsure ≡ three_known value
unfolding told
known_of_variable bits k l var value e many m f =
    subst (λ (n : Known Tri Outcome). get_or n.values var Unsure ≡ three_known value) e (known_beside bits k.values var value Off many m f)

pub known_of_output : (k l : Known Tri Outcome) (inst : ℕ) (value : Bool) → k ≡ l → told (Output inst) k ≡ three_known value → q_known (kept_at outcomes l inst) ≡ three_known value
unfolding told
known_of_output k l inst value e f = sym (ap (λ (m : Known Tri Outcome). q_known (kept_at outcomes m inst)) e) ∙ f

abbrev pub set_of : List Tri → List Tri → Bits
set_of variables instances = record { variables = variables; instances = instances }

pub same_bits : (xs ys zs ws : List Tri) → xs ≡ zs → ys ≡ ws → set_of xs ys ≡ set_of zs ws
same_bits xs ys zs ws e f = ap (λ (vs : List Tri). set_of vs ys) e ∙ ap (set_of zs) f

pub left_settled : {p : Drawing} {a : Assumed} {pairs : List Pair} {symbol : Symbol} {after case : Known Tri Outcome} {scans : ℕ} {value : Bool} → IsLeftSo p a pairs symbol after case scans value
    → IsSettledAssuming p a pairs (of_itself symbol) value case
left_settled (left_so settled plain) = settled

pub left_plain : {p : Drawing} {a : Assumed} {pairs : List Pair} {symbol : Symbol} {after case : Known Tri Outcome} {scans : ℕ} {value : Bool} → IsLeftSo p a pairs symbol after case scans value
    → scans ≡ 0 → told (point_of symbol) after ≡ three_known value
left_plain (left_so settled plain) = plain

-- ---- buffers

pub kept_on : (p : Drawing) (a b c : CaseBuffers) → KeepBuffers p a b → KeepBuffers p b c → KeepBuffers p a c
kept_on p a b c h k = record { case = k.case ∙ h.case; trial = k.trial; room = k.room ∙ h.room }

-- ---- both of the pair of one with itself

both_same : (x : Tri) → three_meet x x ≡ x
both_same Off = refl
both_same On = refl
both_same Unsure = refl

-- What one scan tells of one is settled.
pub told_settled : (p : Drawing) (a : Assumed) (pairs : List Pair) (symbol : Symbol) (value : Bool) (k : Known Tri Outcome)
    → told (point_of symbol) (after_known three outcomes (diagram_of p) 0 [] k) ≡ three_known value → IsSettledAssuming p a pairs (of_itself symbol) value k
told_settled p a pairs symbol value k e = by_scan k (both_same (told (point_of symbol) (after_known three outcomes (diagram_of p) 0 [] k)) ∙ e)

-- ---- what is settled without pairs is with any

none_among : (pair : Pair) → Contains [] pair → ⊥
none_among pair (i, l, e) = absurd (omega (arith, l))

not_forced : (k : Known Tri Outcome) (point : Point) → IsForcedOff [] k point → ⊥
not_forced k point (cases.by_first pair among on e) = none_among pair among
not_forced k point (cases.by_second pair among on e) = none_among pair among

without_pairs : (p : Drawing) (a : Assumed) (pairs : List Pair) (target : Pair) (value : Bool) (k : Known Tri Outcome) → IsSettledAssuming p a [] target value k
    → IsSettledAssuming p a pairs target value k
without_pairs p a pairs target value _ (by_scan k e) = by_scan k e
without_pairs p a pairs target value _ (by_assumption k told) = by_assumption k told
without_pairs p a pairs target value _ (by_partner k point forced more) = absurd (not_forced k point forced)
without_pairs p a pairs target value _ (by_cases k point off on) =
    by_cases k point (without_pairs p a pairs target value (pinned k point (three_known false)) off) (without_pairs p a pairs target value (pinned k point (three_known true)) on)
without_pairs p a pairs target value _ (by_answers k inst off on input) =
    by_answers k inst (without_pairs p a pairs target value (answering k inst AnswersOff) off) (without_pairs p a pairs target value (answering k inst AnswersOn) on)
    (without_pairs p a pairs target value (answering k inst Input) input)

pub alone_settled : (p : Drawing) (a : Assumed) (z : Bits) (pairs : List Pair) → IsSettledSoAssuming p a z [] → IsSettledSoAssuming p a z pairs
alone_settled p a z pairs settled = record {
  variables = λ var value m. without_pairs p a pairs _ value _ (settled.variables var value m);
  instances = λ inst value m. without_pairs p a pairs _ value _ (settled.instances inst value m);
}

pub no_pairs : (p : Drawing) (a : Assumed) (s : Standing) (z : Bits) → ArePairsAssuming p a s z []
no_pairs p a s z = record {
  outside = All-nil (IsPairOutside p z);
  apart = All-nil (λ pair. are_both_on s.held pair ≡ false);
  excluded = All-nil (λ pair. IsExcludedAssuming p a [] pair (knowing p z));
}

-- ---- sets and pairs together

pub all_left : (p : Drawing) (z : Bits) → IsSetOf p z → IsLeftOf p z z
all_left p z set = record {
  set = set;
  within = record { variables = λ var value m. m; instances = λ inst value m. m };
  most = λ other is stays within. within;
}

pub left_on : (p : Drawing) (a b c : Bits) → IsLeftOf p a b → IsLeftOf p b c → IsLeftOf p a c
left_on p a b c h k = record {
  set = k.set;
  within = within_all _ _ _ k.within h.within;
  most = λ other is stays within. k.most other is stays (h.most other is stays within);
}
