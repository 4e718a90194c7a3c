-- What is settled by cases is so after a scan.
use Rattle.std.proofs.Common.{◌≡◌, ◌∙◌, ◌&&◌, ◌⊎◌, inl, inr, ℕ, Bool, true, false, List, [], ◌∷◌, map, get_or, set, zero, suc, refl, ap, subst, sym}
use Rattle.std.proofs.lemmas.List.Elements.{All-contains}
use Rattle.assume_truth.specs.Truth.{assumed_truth, is_allowed}
use Rattle.assume_truth.proofs.Kept.{allowed_is, assumed_kept}
use Rattle.st_expression.specs.Value.{held}
use Rattle.diagram_declarations.specs.declared.decls.Symbol.{Symbol}
use Rattle.diagram_declarations.specs.declared.decls.Symbol.TheVariants as symbol
use Rattle.diagram_declarations.specs.declared.kind.BlockKind.{BlockKind}
use Rattle.diagram_declarations.specs.declared.kind.BlockKind.TheVariants.{Ton}
use Rattle.diagram_program.specs.Program.{Drawing}
use Rattle.scan_signals.specs.declared.block.Stored.{Stored}
use Rattle.scan_signals.specs.Blocks.{q_of, new_block}
use Rattle.scan_signals.specs.Truth.{OnePlace, plain}
use Rattle.scan_cycle.specs.Programs.{diagram_of}
use Rattle.scan_cycle.specs.Rung.{Held}
use Rattle.scan_signals.specs.Relations.{Both, allows_kept}
use Rattle.scan_cycle.specs.Scan.{after_scan}
use Rattle.scan_symbolic.specs.KnownScan.{Known, after_known, all_known, kept_at, plainly}
use Rattle.scan_symbolic.specs.KnownLaws.{BothAt, BothKnown, KnownIsScan, ScanKeeps}
use Rattle.scan_symbolic.proofs.Lists.{get_both, map_same}
use Rattle.scan_signals.specs.Three.{AnyTri, three, three_known, three_allows, three_meet}
use Rattle.scan_signals.specs.ThreeLaws.{three_allowed, three_lattice}
use Rattle.scan_signals.specs.declared.tri.Tri.{Tri}
use Rattle.scan_signals.specs.declared.tri.Tri.TheVariants.{Off, On, Unsure}
use Rattle.invariant_cases.specs.Allowing.{Allows, AllowsState, AreApart, are_both_on, is_on_in}
use Rattle.invariant_cases.specs.AnswerLaws.{OneAnswer, one_answer}
use Rattle.invariant_cases.specs.Assuming.{Assumed, IsTrueIn, known_input, nothing, stored_inputs, truth_told}
use Rattle.invariant_cases.specs.Cases.{IsForcedOff, IsSettledAssuming, IsSettledBoth, answering, pinned, point_of, told, with_answer, with_q}
use Rattle.invariant_cases.specs.Cases as pairs_of
use Rattle.invariant_cases.specs.declared.answer.Answer.{Answer}
use Rattle.invariant_cases.specs.declared.answer.Answer.TheVariants.{Off as AnswersOff, On as AnswersOn, Input}
use Rattle.invariant_cases.specs.declared.pair.Pair.{Pair}
use Rattle.invariant_cases.specs.declared.point.Point.{Point}
use Rattle.invariant_cases.specs.declared.point.Point.TheVariants.{Variable, Output, Memory, Answer as AnswerOf}
use Rattle.invariant_cases.specs.OutcomeLaws.{q_sound}
use Rattle.invariant_cases.specs.Outcomes.{MayStore, outcomes, q_known}
use Rattle.invariant_cases.specs.declared.outcome.Outcome.{Outcome}
use Rattle.invariant_cases.specs.declared.outcome.Outcome.TheVariants.{Anything, OfKind}

pub both_at : {A B : Type 0} (R : A → B → Type 0) (xs : List A) (ys : List B) → Both R xs ys → (d : A) (e : B) → R d e → (i : ℕ) → R (get_or xs i d) (get_or ys i e)
both_at R [] [] h d e r i = r
both_at R [] (y ∷ ys) h d e r i = absurd h
both_at R (x ∷ xs) [] h d e r i = absurd h
both_at R (x ∷ xs) (y ∷ ys) h d e r zero = h.0
both_at R (x ∷ xs) (y ∷ ys) h d e r (suc i) = both_at R xs ys h.1 d e r i

known_allows : (b : Bool) → three_allows (three_known b) 0 b
known_allows true = refl
known_allows false = refl

pin_both : (xs : List Tri) (vs : List Bool) → Both Allows xs (map (λ v. v) vs) → (i : ℕ) → Both Allows (set xs i (three_known (get_or vs i false))) (map (λ v. v) vs)
pin_both [] [] h i = tt
pin_both [] (v ∷ vs) h i = absurd h
pin_both (x ∷ xs) [] h i = absurd h
pin_both (x ∷ xs) (v ∷ vs) h zero = ((tt, λ _. known_allows v), h.1)
pin_both (x ∷ xs) (v ∷ vs) h (suc i) = (h.0, pin_both xs vs h.1 i)

q_pinned : (kind : BlockKind) (preset now : ℕ) (b : Outcome) (s : Stored) → MayStore kind preset now b s → MayStore kind preset now (with_q b (three_known (q_of s))) s
q_pinned kind preset now (OfKind q a) s h = (h.0, known_allows (q_of s), h.2)
q_pinned kind preset now Anything s h = tt

pin_blocks : (kind : ℕ → BlockKind) (preset : ℕ → ℕ) (now : ℕ) (bs : List Outcome) (ss : List Stored) → BothAt (λ i. MayStore (kind i) (preset i) now) bs (map (λ s. s) ss) → (i : ℕ)
    → BothAt (λ i. MayStore (kind i) (preset i) now) (set bs i (with_q (get_or bs i Anything) (three_known (q_of (get_or ss i (new_block Ton)))))) (map (λ s. s) ss)
pin_blocks kind preset now [] [] h i = tt
pin_blocks kind preset now [] (s ∷ ss) h i = absurd h
pin_blocks kind preset now (b ∷ bs) [] h i = absurd h
pin_blocks kind preset now (b ∷ bs) (s ∷ ss) h zero = (q_pinned (kind 0) (preset 0) now b s h.0, h.1)
pin_blocks kind preset now (b ∷ bs) (s ∷ ss) h (suc i) = (h.0, pin_blocks (λ j. kind (suc j)) (λ j. preset (suc j)) now bs ss h.1 i)

pub pin_allows : (p : Drawing) (now : ℕ) (k : Known Tri Outcome) (h : Held) → AllowsState p now k h → (point : Point) → AllowsState p now (pinned k point (three_known (is_on_in point h))) h
unfolding pinned
pin_allows p now k h both (Variable var) = record { values = pin_both k.values h.values both.values var; memories = both.memories; blocks = both.blocks }
pin_allows p now k h both (Output inst) = record { values = both.values; memories = both.memories; blocks = pin_blocks (diagram_of p).kind (diagram_of p).preset now k.blocks h.kept.blocks both.blocks inst }
pin_allows p now k h both (Memory number) = record { values = both.values; memories = pin_both k.memories h.kept.memories both.memories number; blocks = both.blocks }
pin_allows p now k h both (AnswerOf inst) = both

-- ---- what an instance answers
one_with : (kind : BlockKind) (preset now : ℕ) (b : Outcome) (s : Stored) → MayStore kind preset now b s → OneAnswer (λ a. MayStore kind preset now (with_answer b a) s)
one_with kind preset now (OfKind q a) s h = elim (one_answer kind preset now s h.0) [
  | inl d ↦ inl (h.0, h.1, d)
  | inr (inl d) ↦ inr (inl (h.0, h.1, d))
  | inr (inr d) ↦ inr (inr (h.0, h.1, d))
]
one_with kind preset now Anything s h = inl tt

set_both : {A B : Type 0} (Q : ℕ → A → B → Type 0) (xs : List A) (ys : List B) → BothAt Q xs ys → (i : ℕ) (x : A) (e : B) → Q i x (get_or ys i e) → BothAt Q (set xs i x) ys
set_both Q [] [] h i x e q = tt
set_both Q [] (y ∷ ys) h i x e q = absurd h
set_both Q (z ∷ xs) [] h i x e q = absurd h
set_both Q (z ∷ xs) (y ∷ ys) h zero x e q = (q, h.1)
set_both Q (z ∷ xs) (y ∷ ys) h (suc i) x e q = (h.0, set_both (λ j. Q (suc j)) xs ys h.1 i x e q)

pub answer_allows : (p : Drawing) (now : ℕ) (k : Known Tri Outcome) (h : Held) → AllowsState p now k h → (inst : ℕ) → OneAnswer (λ a. AllowsState p now (answering k inst a) h)
unfolding answering
answer_allows p now k h both inst =
    let d = diagram_of p in
    let Q = λ (i : ℕ). MayStore (d.kind i) (d.preset i) now in
    let ss = map (λ s. s) h.kept.blocks in
    let with : (a : Answer) → Q inst (with_answer (kept_at outcomes k inst) a) (get_or ss inst (new_block Ton)) → AllowsState p now (answering k inst a) h = λ a m.
    record { values = both.values; memories = both.memories; blocks = set_both Q k.blocks ss both.blocks inst (with_answer (kept_at outcomes k inst) a) (new_block Ton) m } in
    elim (one_with (d.kind inst) (d.preset inst) now (kept_at outcomes k inst) (get_or ss inst (new_block Ton)) (get_both Q k.blocks ss both.blocks Anything (new_block Ton) (λ i. tt) inst)) [
      | inl m ↦ inl (with AnswersOff m)
      | inr (inl m) ↦ inr (inl (with AnswersOn m))
      | inr (inr m) ↦ inr (inr (with Input m))
    ]

is_known : (x : Tri) (b value : Bool) → three_allows x 0 b → x ≡ three_known value → b ≡ value
is_known x b true h e = subst (λ (y : Tri). three_allows y 0 b) e h
is_known x b false h e = subst (λ (y : Tri). three_allows y 0 b) e h

pub told_value : (p : Drawing) (now : ℕ) (k : Known Tri Outcome) (h : Held) → AllowsState p now k h → (var : ℕ) (value : Bool) → told (Variable var) k ≡ three_known value
    → get_or h.values var false ≡ value
unfolding told
told_value p now k h both var value e =
    subst (λ (vs : List Bool). get_or vs var false ≡ value) (map_same h.values)
    (is_known _ _ value ((both_at Allows k.values (map (λ v. v) h.values) both.values Off false (tt, λ _. refl) var).1 refl) e)

pub told_output : (p : Drawing) (now : ℕ) (k : Known Tri Outcome) (h : Held) → AllowsState p now k h → (inst : ℕ) (value : Bool) → told (Output inst) k ≡ three_known value
    → q_of (get_or h.kept.blocks inst (new_block Ton)) ≡ value
unfolding told
told_output p now k h both inst value e =
    let d = diagram_of p in
    subst (λ (ss : List Stored). q_of (get_or ss inst (new_block Ton)) ≡ value) (map_same h.kept.blocks)
    (is_known (q_known (kept_at outcomes k inst)) _ value
    (q_sound (d.kind inst) (d.preset inst) now (kept_at outcomes k inst) (get_or (map (λ s. s) h.kept.blocks) inst (new_block Ton))
    (get_both (λ i. MayStore (d.kind i) (d.preset i) now) k.blocks (map (λ s. s) h.kept.blocks) both.blocks Anything (new_block Ton) (λ i. tt) inst)) e)

either_case : {A : Type 0} (b : Bool) → (b ≡ true → A) → (b ≡ false → A) → A
either_case true f g = f refl
either_case false f g = g refl

-- ---- what is known of one of a pair

told_is : (p : Drawing) (now : ℕ) (k : Known Tri Outcome) (h : Held) → AllowsState p now k h → (s : Symbol) (value : Bool) → told (point_of s) k ≡ three_known value
    → is_on_in (point_of s) h ≡ value
told_is p now k h both (symbol.Var var) value e = told_value p now k h both var value e
told_is p now k h both (symbol.Instance inst) value e = told_output p now k h both inst value e

either_off : (x y : Tri) → three_meet x y ≡ Off → (x ≡ Off) ⊎ (y ≡ Off)
either_off Off y e = inl refl
either_off On y e = inr e
either_off Unsure Off e = inr refl
either_off Unsure On e = cc
either_off Unsure Unsure e = cc

first_not : (a b : Bool) → a ≡ false → (a && b) ≡ false
first_not a b e = ap (λ x. x && b) e

second_not : (a b : Bool) → b ≡ false → (a && b) ≡ false
second_not true b e = e
second_not false b e = refl

-- Both are ON, or not, as three values tell it of each.
both_by : (x y : Tri) (value a b : Bool) → three_meet x y ≡ three_known value → ((v : Bool) → x ≡ three_known v → a ≡ v) → ((v : Bool) → y ≡ three_known v → b ≡ v)
    → (a && b) ≡ value
both_by x y false a b e first second = elim (either_off x y e) [
  | inl f ↦ first_not a b (first false f)
  | inr f ↦ second_not a b (second false f)
]
both_by On y true a b e first second = ap (λ c. c && b) (first true refl) ∙ second true e
both_by Off y true a b e first second = cc
both_by Unsure Off true a b e first second = cc
both_by Unsure On true a b e first second = cc
both_by Unsure Unsure true a b e first second = cc

then_second : (a b : Bool) → (a && b) ≡ false → a ≡ true → b ≡ false
then_second true b e f = e
then_second false b e f = cc

then_first : (a b : Bool) → (a && b) ≡ false → b ≡ true → a ≡ false
then_first true b e f = cc
then_first false b e f = refl

forced_off : (p : Drawing) (now : ℕ) (k : Known Tri Outcome) (h : Held) → AllowsState p now k h → (pairs : List Pair) → AreApart pairs h → (point : Point)
    → IsForcedOff pairs k point → is_on_in point h ≡ false
forced_off p now k h both pairs apart point (pairs_of.by_first pair among on e) =
    ap (λ x. is_on_in x h) e
    ∙ then_second _ _ (All-contains (λ x. are_both_on h x ≡ false) pairs pair apart among) (told_is p now k h both pair.first true on)
forced_off p now k h both pairs apart point (pairs_of.by_second pair among on e) =
    ap (λ x. is_on_in x h) e
    ∙ then_first _ _ (All-contains (λ x. are_both_on h x ≡ false) pairs pair apart among) (told_is p now k h both pair.second true on)

-- ---- what is assumed

input_allowed : (vars : List ℕ) (xs : List Tri) (vs : List Bool) → ((i : ℕ) → Allows (get_or xs i Off) (get_or vs i false)) → (place : ℕ)
    → Allows (known_input vars xs place) (get_or (stored_inputs vars vs) place false)
input_allowed [] xs vs h place = (tt, λ _. refl)
input_allowed (v ∷ vars) xs vs h zero = h v
input_allowed (v ∷ vars) xs vs h (suc place) = input_allowed vars xs vs h place

held_is : (values : List Bool) (i : ℕ) → get_or values i false ≡ held values i
held_is [] i = refl
held_is (v ∷ vs) zero = refl
held_is (v ∷ vs) (suc i) = held_is vs i

not_true : (b : Bool) → b ≡ false → b ≡ true → ⊥
not_true b e f = cc

-- What is told to be false is false in each state that what is known allows.
false_told : (a : Assumed) (p : Drawing) (now : ℕ) (k : Known Tri Outcome) (h : Held) → AllowsState p now k h → truth_told a k ≡ three_known false → IsTrueIn a h → ⊥
false_told a p now k h both told true_in =
    let values = stored_inputs a.inputs h.values in
    let at : (i : ℕ) → Allows (get_or k.values i Off) (get_or h.values i false) = λ i.
    subst (λ (vs : List Bool). Allows (get_or k.values i Off) (get_or vs i false)) (map_same h.values)
    (both_at Allows k.values (map (λ v. v) h.values) both.values Off false (tt, λ _. refl) i) in
    let allows : Allows (truth_told a k) (assumed_truth plain (held values) a.expression) =
    assumed_kept three plain Allows (allows_kept AnyTri three OnePlace three_allows three_lattice three_allowed 0) (known_input a.inputs k.values) (held values)
    (λ place. subst (λ (b : Bool). Allows (known_input a.inputs k.values place) b) (held_is values place) (input_allowed a.inputs k.values h.values at place)) a.expression in
    not_true (is_allowed a.expression values) (sym (allowed_is values a.expression) ∙ is_known _ _ false (allows.1 refl) told) true_in

module _ (p : Drawing)
    (keeps : (now : ℕ) → ScanKeeps (diagram_of p) three plain outcomes plainly Allows (λ inst. MayStore ((diagram_of p).kind inst) ((diagram_of p).preset inst) now) 0 now)
    (known : KnownIsScan (diagram_of p)) where
  -- ---- one scan

  scan_allows : (now : ℕ) (k : Known Tri Outcome) (h : Held) → AllowsState p now k h → AllowsState p now (after_known three outcomes (diagram_of p) 0 [] k) (after_scan (diagram_of p) now [] h)
  scan_allows now k h both =
      let d = diagram_of p in
      subst (λ (l : Known Bool Stored). BothKnown Allows (λ inst. MayStore (d.kind inst) (d.preset inst) now) (after_known three outcomes d 0 [] k) l)
      (known h now []) (keeps now [] [] tt k (all_known plain plainly h) both)

  -- After it both of the target are ON, or not, as it is settled.
  pub settled_assuming : (a : Assumed) (pairs : List Pair) (target : Pair) (value : Bool) (k : Known Tri Outcome) → IsSettledAssuming p a pairs target value k
      → (now : ℕ) (h : Held) → AllowsState p now k h → AreApart pairs h → IsTrueIn a h → are_both_on (after_scan (diagram_of p) now [] h) target ≡ value
  settled_assuming a pairs target value _ (pairs_of.by_scan k e) now h both apart true_in =
      let then = told_is p now _ _ (scan_allows now k h both) in
      both_by (told (point_of target.first) (after_known three outcomes (diagram_of p) 0 [] k)) (told (point_of target.second) (after_known three outcomes (diagram_of p) 0 [] k))
      value _ _ e (λ v. then target.first v) (λ v. then target.second v)
  settled_assuming a pairs target value _ (pairs_of.by_assumption k told) now h both apart true_in = absurd (false_told a p now k h both told true_in)
  settled_assuming a pairs target value _ (pairs_of.by_partner k point forced more) now h both apart true_in =
      settled_assuming a pairs target value (pinned k point (three_known false)) more now h
      (subst (λ (b : Bool). AllowsState p now (pinned k point (three_known b)) h) (forced_off p now k h both pairs apart point forced) (pin_allows p now k h both point)) apart true_in
  settled_assuming a pairs target value _ (pairs_of.by_cases k point off on) now h both apart true_in =
      let here = pin_allows p now k h both point in
      let Allowed = λ (b : Bool). AllowsState p now (pinned k point (three_known b)) h in
      either_case (is_on_in point h)
      (λ e. settled_assuming a pairs target value (pinned k point (three_known true)) on now h (subst Allowed e here) apart true_in)
      (λ e. settled_assuming a pairs target value (pinned k point (three_known false)) off now h (subst Allowed e here) apart true_in)
  settled_assuming a pairs target value _ (pairs_of.by_answers k inst off on input) now h both apart true_in = elim (answer_allows p now k h both inst) [
    | inl m ↦ settled_assuming a pairs target value (answering k inst AnswersOff) off now h m apart true_in
    | inr (inl m) ↦ settled_assuming a pairs target value (answering k inst AnswersOn) on now h m apart true_in
    | inr (inr m) ↦ settled_assuming a pairs target value (answering k inst Input) input now h m apart true_in
  ]

  -- the same where nothing is assumed
  pub settled_both : (pairs : List Pair) (target : Pair) (value : Bool) (k : Known Tri Outcome) → IsSettledBoth p pairs target value k → (now : ℕ) (h : Held) → AllowsState p now k h
      → AreApart pairs h → are_both_on (after_scan (diagram_of p) now [] h) target ≡ value
  settled_both pairs target value k is now h both apart = settled_assuming nothing pairs target value k is now h both apart refl
