-- After a case, what was known before it.
use Rattle.std.proofs.Common.{◌≡◌, ◌∙◌, ℕ, Bool, true, false, not, List, [], ◌∷◌, get_or, set, zero, suc, Option, Some, None, refl, sym, ap, subst}
use Rattle.diagram_program.specs.Program.{Drawing}
use Rattle.scan_symbolic.specs.KnownScan.{Known, kept_at}
use Rattle.scan_signals.specs.declared.tri.Tri.{Tri}
use Rattle.scan_signals.specs.declared.tri.Tri.TheVariants.{Off}
use Rattle.invariant_cases.specs.Cases.{answering, pinned, told, with_answer, with_q}
use Rattle.invariant_cases.specs.Outcomes.{answer_known, outcomes, q_known}
use Rattle.invariant_cases.specs.declared.answer.Answer.{Answer}
use Rattle.invariant_cases.specs.declared.outcome.Outcome.{Outcome}
use Rattle.invariant_cases.specs.declared.outcome.Outcome.TheVariants.{Anything, OfKind}
use Rattle.invariant_cases.specs.declared.point.Point.{Point}
use Rattle.invariant_cases.specs.declared.point.Point.TheVariants.{Variable, Output, Memory, Answer as AnswerOf}
use Rattle.diff_matching.specs.Matching.{Matching}
use Rattle.diff_cases.specs.Assuming.{BothAssumed}
use Rattle.diff_cases.specs.Cases.{IsSettledAlikeAssuming, answer_in, answering_in, pinned_in, told_in}
use Rattle.diff_cases.specs.declared.target.Target.{Target}

set_back : {A : Type 0} (xs : List A) (i : ℕ) (x d : A) → set (set xs i x) i (get_or xs i d) ≡ xs
set_back [] i x d = refl
set_back (z ∷ xs) zero x d = refl
set_back (z ∷ xs) (suc i) x d = ap (λ l. z ∷ l) (set_back xs i x d)

q_back : (b : Outcome) (x : Tri) → with_q (with_q b x) (q_known b) ≡ b
q_back (OfKind q a) x = refl
q_back Anything x = refl

answer_back : (b : Outcome) (x : Answer) → with_answer (with_answer b x) (answer_known b) ≡ b
answer_back (OfKind q a) x = refl
answer_back Anything x = refl

-- of an instance, where `put` writes a part of what is known of it
abbrev put_at : {A : Type 0} → (Outcome → A → Outcome) → List Outcome → ℕ → A → List Outcome
put_at put bs i x = set bs i (put (get_or bs i Anything) x)

block_back : {A : Type 0} (put : Outcome → A → Outcome) (part : Outcome → A) → ((b : Outcome) (x : A) → put (put b x) (part b) ≡ b) → (bs : List Outcome) (i : ℕ) (x : A)
    → put_at put (put_at put bs i x) i (part (get_or bs i Anything)) ≡ bs
block_back put part back [] i x = refl
block_back put part back (b ∷ bs) zero x = ap (λ c. c ∷ bs) (back b x)
block_back put part back (b ∷ bs) (suc i) x = ap (λ l. b ∷ l) (block_back put part back bs i x)

pinned_back : (k : Known Tri Outcome) (point : Point) (x : Tri) → pinned (pinned k point x) point (told point k) ≡ k
unfolding pinned told
pinned_back k (Variable var) x = ap (λ (values : List Tri). record k { values = values }) (set_back k.values var x Off)
pinned_back k (Output inst) x = ap (λ (blocks : List Outcome). record k { blocks = blocks }) (block_back with_q q_known q_back k.blocks inst x)
pinned_back k (Memory number) x = ap (λ (memories : List Tri). record k { memories = memories }) (set_back k.memories number x Off)
pinned_back k (AnswerOf inst) x = refl

pinned_in_back : (k : Known Tri Outcome) (point : Option Point) (x : Tri) → pinned_in (pinned_in k point x) point (told_in point k) ≡ k
pinned_in_back k None x = refl
pinned_in_back k (Some point) x = pinned_back k point x

answering_back : (k : Known Tri Outcome) (inst : ℕ) (x : Answer) → answering (answering k inst x) inst (answer_known (kept_at outcomes k inst)) ≡ k
unfolding answering
answering_back k inst x = ap (λ (blocks : List Outcome). record k { blocks = blocks }) (block_back with_answer answer_known answer_back k.blocks inst x)

answering_in_back : (k : Known Tri Outcome) (inst : Option ℕ) (x : Answer) → answering_in (answering_in k inst x) inst (answer_in inst k) ≡ k
answering_in_back k None x = refl
answering_in_back k (Some inst) x = answering_back k inst x

pub case_over : (k pin next back : Known Tri Outcome) (point : Option Point) (x b : Tri) → pin ≡ pinned_in k point x → next ≡ pin → b ≡ told_in point k
    → back ≡ pinned_in next point b → back ≡ k
case_over k pin next back point x b e f g h =
    h ∙ ap (λ (l : Known Tri Outcome). pinned_in l point b) (f ∙ e) ∙ ap (pinned_in (pinned_in k point x) point) g ∙ pinned_in_back k point x

pub answer_over : (k pin next back : Known Tri Outcome) (inst : Option ℕ) (x b : Answer) → pin ≡ answering_in k inst x → next ≡ pin → b ≡ answer_in inst k
    → back ≡ answering_in next inst b → back ≡ k
answer_over k pin next back inst x b e f g h =
    h ∙ ap (λ (l : Known Tri Outcome). answering_in l inst b) (f ∙ e) ∙ ap (answering_in (answering_in k inst x) inst) g ∙ answering_in_back k inst x

pub not_not : (b : Bool) → not b ≡ false → b ≡ true
not_not true e = refl
not_not false e = sym e

-- from what is known in both, as it is the same afterwards
pub settled_from : (p q : Drawing) (a : BothAssumed) (m : Matching) (target : Target) (f g : Known Tri Outcome → Known Tri Outcome) (k l u v : Known Tri Outcome) → u ≡ k → v ≡ l
    → IsSettledAlikeAssuming p q a m target (f u) (g v) → IsSettledAlikeAssuming p q a m target (f k) (g l)
settled_from p q a m target f g k l u v d e settled =
    subst (λ (x : Known Tri Outcome). IsSettledAlikeAssuming p q a m target (f x) (g l)) d (subst (λ (y : Known Tri Outcome). IsSettledAlikeAssuming p q a m target (f u) (g y)) e settled)
