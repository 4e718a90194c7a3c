-- What belongs together is the same in states that agree, so that a case of both holds of both, and so does an answer.
use Rattle.std.proofs.Common.{◌≡◌, ◌∙◌, ◌⊎◌, inl, inr, ℕ, Bool, true, false, List, [], ◌∷◌, get_or, set, zero, suc, Option, Some, None, map, sym, ap, subst}
use Rattle.std.proofs.lemmas.Option.{slice_get-get_or}
use Rattle.std.specs.Prelude.{Contains}
use Rattle.diagram_declarations.specs.declared.kind.BlockKind.{BlockKind}
use Rattle.diagram_declarations.specs.declared.kind.BlockKind.TheVariants.{Ton}
use Rattle.diagram_program.specs.Program.{Drawing}
use Rattle.scan_signals.specs.Blocks.{q_of, new_block}
use Rattle.scan_signals.specs.Three.{three_known}
use Rattle.scan_signals.specs.declared.block.Stored.{Stored}
use Rattle.scan_signals.specs.declared.tri.Tri.{Tri}
use Rattle.scan_cycle.specs.Programs.{diagram_of}
use Rattle.scan_cycle.specs.Rung.{Held}
use Rattle.scan_symbolic.specs.KnownLaws.{BothAt}
use Rattle.scan_symbolic.specs.KnownScan.{Known, kept_at}
use Rattle.scan_symbolic.proofs.Lists.{map_same}
use Rattle.invariant_cases.specs.Allowing.{AllowsState, is_on_in}
use Rattle.invariant_cases.specs.AnswerLaws.{OneAnswer, one_answer}
use Rattle.invariant_cases.specs.Cases.{answering, with_answer}
use Rattle.invariant_cases.specs.Outcomes.{MayStore, outcomes}
use Rattle.invariant_cases.specs.declared.answer.Answer.{Answer}
use Rattle.invariant_cases.specs.declared.answer.Answer.TheVariants.{Off as AnswersOff, On as AnswersOn, Input}
use Rattle.invariant_cases.specs.declared.outcome.Outcome.{Outcome}
use Rattle.invariant_cases.specs.declared.outcome.Outcome.TheVariants.{Anything, OfKind}
use Rattle.invariant_cases.specs.declared.point.Point.{Point}
use Rattle.invariant_cases.specs.declared.point.Point.TheVariants as point
use Rattle.invariant_cases.proofs.Settling.{answer_allows, pin_allows}
use Rattle.diff_matching.specs.Matching.{Agree, AgreeOnInputs, AreSame, Matching}
use Rattle.diff_matching.specs.declared.matching.Pair.{Pair}
use Rattle.diff_cases.specs.Cases.{AreOfOneKind, AreTogether, MayAnswerJointly, MayBeJoint, answering_in, pinned_in}
use Rattle.diff_cases.proofs.Scanned.{MayStoreAt, may_store, stored_in}

pub same_of : {A : Type 0} (none : A) (pairs : List Pair) (xs ys : List A) → AreSame none pairs xs ys → (x : Pair) → Contains pairs x → get_or xs x.old none ≡ get_or ys x.new none
same_of none pairs xs ys same x at = same at.0 x (slice_get-get_or pairs at.0 x at.1 ∙ ap Some at.2)

same_point : (m : Matching) (h g : Held) → Agree m h g → AgreeOnInputs m h g → (x y : Point) → AreTogether m x y → is_on_in y g ≡ is_on_in x h
same_point m h g agree inputs (point.Variable a) (point.Variable b) (inl at) = sym (same_of false m.variables h.values g.values agree.variables (record { old = a; new = b }) at)
same_point m h g agree inputs (point.Variable a) (point.Variable b) (inr at) = sym (same_of false m.inputs h.values g.values inputs (record { old = a; new = b }) at)
same_point m h g agree inputs (point.Output a) (point.Output b) at =
    ap q_of (sym (same_of (new_block Ton) m.instances h.kept.blocks g.kept.blocks agree.instances (record { old = a; new = b }) at))
same_point m h g agree inputs (point.Memory a) (point.Memory b) at =
    sym (same_of false m.memories h.kept.memories g.kept.memories agree.memories (record { old = a; new = b }) at)
same_point m h g agree inputs (point.Variable a) (point.Output b) at = absurd at
same_point m h g agree inputs (point.Variable a) (point.Memory b) at = absurd at
same_point m h g agree inputs (point.Variable a) (point.Answer b) at = absurd at
same_point m h g agree inputs (point.Output a) (point.Variable b) at = absurd at
same_point m h g agree inputs (point.Output a) (point.Memory b) at = absurd at
same_point m h g agree inputs (point.Output a) (point.Answer b) at = absurd at
same_point m h g agree inputs (point.Memory a) (point.Variable b) at = absurd at
same_point m h g agree inputs (point.Memory a) (point.Output b) at = absurd at
same_point m h g agree inputs (point.Memory a) (point.Answer b) at = absurd at
same_point m h g agree inputs (point.Answer a) y at = absurd at

-- ---- a case that both states are in

-- Pinned to this value in both, what is known allows both states.
abbrev pub InCase : Drawing → Drawing → ℕ → Known Tri Outcome → Known Tri Outcome → Held → Held → Option Point → Option Point → Bool → Type 0
InCase p q now k l h g x y b = AllowsState p now (pinned_in k x (three_known b)) h × AllowsState q now (pinned_in l y (three_known b)) g

either : (P : Bool → Type 0) (b : Bool) → P b → P false ⊎ P true
either P true x = inr x
either P false x = inl x

pub one_case : (p q : Drawing) (m : Matching) (now : ℕ) (k l : Known Tri Outcome) (h g : Held) → AllowsState p now k h → AllowsState q now l g → Agree m h g → AgreeOnInputs m h g
    → (x y : Option Point) → MayBeJoint m x y → InCase p q now k l h g x y false ⊎ InCase p q now k l h g x y true
one_case p q m now k l h g r s agree inputs None None at = inl (r, s)
one_case p q m now k l h g r s agree inputs (Some x) None at = either (InCase p q now k l h g (Some x) None) (is_on_in x h) (pin_allows p now k h r x, s)
one_case p q m now k l h g r s agree inputs None (Some y) at = either (InCase p q now k l h g None (Some y)) (is_on_in y g) (r, pin_allows q now l g s y)
one_case p q m now k l h g r s agree inputs (Some x) (Some y) at =
    either (InCase p q now k l h g (Some x) (Some y)) (is_on_in x h)
    (pin_allows p now k h r x, subst (λ (b : Bool). AllowsState q now (pinned_in l (Some y) (three_known b)) g) (same_point m h g agree inputs x y at) (pin_allows q now l g s y))

-- ---- an answer that both instances give

one_of_each : (kind : BlockKind) (preset now : ℕ) (b c : Outcome) (s : Stored) → MayStore kind preset now b s → MayStore kind preset now c s
    → OneAnswer (λ a. MayStore kind preset now (with_answer b a) s × MayStore kind preset now (with_answer c a) s)
one_of_each kind preset now Anything Anything s r t = inl (tt, tt)
one_of_each kind preset now (OfKind q a) Anything s r t = elim (one_answer kind preset now s r.0) [
  | inl d ↦ inl ((r.0, r.1, d), tt)
  | inr (inl d) ↦ inr (inl ((r.0, r.1, d), tt))
  | inr (inr d) ↦ inr (inr ((r.0, r.1, d), tt))
]
one_of_each kind preset now Anything (OfKind q a) s r t = elim (one_answer kind preset now s t.0) [
  | inl d ↦ inl (tt, (t.0, t.1, d))
  | inr (inl d) ↦ inr (inl (tt, (t.0, t.1, d)))
  | inr (inr d) ↦ inr (inr (tt, (t.0, t.1, d)))
]
one_of_each kind preset now (OfKind q a) (OfKind u b) s r t = elim (one_answer kind preset now s r.0) [
  | inl d ↦ inl ((r.0, r.1, d), (t.0, t.1, d))
  | inr (inl d) ↦ inr (inl ((r.0, r.1, d), (t.0, t.1, d)))
  | inr (inr d) ↦ inr (inr ((r.0, r.1, d), (t.0, t.1, d)))
]

set_both : {A B : Type 0} (Q : ℕ → A → B → Type 0) (xs : List A) (ys : List B) → BothAt Q xs ys → (i : ℕ) (x : A) (e : B) → Q i x (get_or ys i e) → BothAt Q (set xs i x) ys
set_both Q [] [] h i x e q = tt
set_both Q [] (y ∷ ys) h i x e q = absurd h
set_both Q (z ∷ xs) [] h i x e q = absurd h
set_both Q (z ∷ xs) (y ∷ ys) h zero x e q = (q, h.1)
set_both Q (z ∷ xs) (y ∷ ys) h (suc i) x e q = (h.0, set_both (λ j. Q (suc j)) xs ys h.1 i x e q)

with_allows : (p : Drawing) (now : ℕ) (k : Known Tri Outcome) (h : Held) → AllowsState p now k h → (inst : ℕ) (a : Answer)
    → MayStoreAt p now inst (with_answer (kept_at outcomes k inst) a) (stored_in h inst) → AllowsState p now (answering k inst a) h
unfolding answering
with_allows p now k h both inst a r = record {
  values = both.values;
  memories = both.memories;
  blocks = set_both (λ i. MayStore ((diagram_of p).kind i) ((diagram_of p).preset i) now) k.blocks (map (λ s. s) h.kept.blocks) both.blocks inst
      (with_answer (kept_at outcomes k inst) a) (new_block Ton) r;
}

each_answer : (P Q : Answer → Type 0) → ((a : Answer) → P a → Q a) → OneAnswer P → OneAnswer Q
each_answer P Q f (inl r) = inl (f AnswersOff r)
each_answer P Q f (inr (inl r)) = inr (inl (f AnswersOn r))
each_answer P Q f (inr (inr r)) = inr (inr (f Input r))

-- the same of an instance of that kind and that preset that stores the same
pub of_the_same : (kind other : BlockKind) (preset another now : ℕ) (b : Outcome) (s t : Stored) → kind ≡ other → preset ≡ another → s ≡ t → MayStore kind preset now b s → MayStore other another now b t
of_the_same kind other preset another now b s t e f g r =
    subst (λ (k : BlockKind). MayStore k another now b t) e (subst (λ (n : ℕ). MayStore kind n now b t) f (subst (MayStore kind preset now b) g r))

-- Where it answers so in both, what is known allows both states.
abbrev pub InAnswer : Drawing → Drawing → ℕ → Known Tri Outcome → Known Tri Outcome → Held → Held → Option ℕ → Option ℕ → Answer → Type 0
InAnswer p q now k l h g x y a = AllowsState p now (answering_in k x a) h × AllowsState q now (answering_in l y a) g

both_answer : (p q : Drawing) (m : Matching) (now : ℕ) (k l : Known Tri Outcome) (h g : Held) → AllowsState p now k h → AllowsState q now l g → Agree m h g
    → (a b : ℕ) → Contains m.instances (record { old = a; new = b }) → AreOfOneKind p q a b → OneAnswer (InAnswer p q now k l h g (Some a) (Some b))
both_answer p q m now k l h g r s agree a b at one =
    let d = diagram_of p in
    let e = diagram_of q in
    let same : stored_in h a ≡ stored_in g b =
    ap (λ (ss : List Stored). get_or ss a (new_block Ton)) (map_same h.kept.blocks)
    ∙ same_of (new_block Ton) m.instances h.kept.blocks g.kept.blocks agree.instances (record { old = a; new = b }) at
    ∙ ap (λ (ss : List Stored). get_or ss b (new_block Ton)) (sym (map_same g.kept.blocks)) in
    each_answer
    (λ c. MayStoreAt p now a (with_answer (kept_at outcomes k a) c) (stored_in h a) × MayStoreAt p now a (with_answer (kept_at outcomes l b) c) (stored_in h a))
    (InAnswer p q now k l h g (Some a) (Some b))
    (λ c t. (
      with_allows p now k h r a c t.0,
      with_allows q now l g s b c
          (of_the_same (d.kind a) (e.kind b) (d.preset a) (e.preset b) now (with_answer (kept_at outcomes l b) c) (stored_in h a) (stored_in g b) one.0 one.1 same t.1),
    ))
    (one_of_each (d.kind a) (d.preset a) now (kept_at outcomes k a) (kept_at outcomes l b) (stored_in h a) (may_store p now k h r a)
    (of_the_same (e.kind b) (d.kind a) (e.preset b) (d.preset a) now (kept_at outcomes l b) (stored_in g b) (stored_in h a) (sym one.0) (sym one.1) (sym same) (may_store q now l g s b)))

pub one_answer_in : (p q : Drawing) (m : Matching) (now : ℕ) (k l : Known Tri Outcome) (h g : Held) → AllowsState p now k h → AllowsState q now l g → Agree m h g
    → (x y : Option ℕ) → MayAnswerJointly m p q x y → OneAnswer (InAnswer p q now k l h g x y)
one_answer_in p q m now k l h g r s agree None None at = inl (r, s)
one_answer_in p q m now k l h g r s agree (Some a) None at =
    each_answer (λ c. AllowsState p now (answering k a c) h) (InAnswer p q now k l h g (Some a) None) (λ c t. (t, s)) (answer_allows p now k h r a)
one_answer_in p q m now k l h g r s agree None (Some b) at =
    each_answer (λ c. AllowsState q now (answering l b c) g) (InAnswer p q now k l h g None (Some b)) (λ c t. (r, t)) (answer_allows q now l g s b)
one_answer_in p q m now k l h g r s agree (Some a) (Some b) at = both_answer p q m now k l h g r s agree a b at.0 at.1
