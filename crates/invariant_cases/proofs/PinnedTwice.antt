-- Pinning a point again, and back.
use Rattle.std.proofs.Common.{◌≡◌, ◌∙◌, ℕ, List, [], ◌∷◌, get_or, set, zero, suc, not, true, false, Bool, refl, sym, ap}
use Rattle.scan_symbolic.specs.KnownScan.{Known, kept_at}
use Rattle.scan_signals.specs.declared.tri.Tri.{Tri}
use Rattle.scan_signals.specs.declared.tri.Tri.TheVariants.{Off}
use Rattle.invariant_cases.specs.Cases.{answering, pinned, told, with_answer, with_q}
use Rattle.invariant_cases.specs.Outcomes.{answer_known, outcomes, q_known}
use Rattle.invariant_cases.specs.declared.answer.Answer.{Answer}
use Rattle.invariant_cases.specs.declared.outcome.Outcome.{Outcome}
use Rattle.invariant_cases.specs.declared.outcome.Outcome.TheVariants.{Anything, OfKind}
use Rattle.invariant_cases.specs.declared.point.Point.{Point}
use Rattle.invariant_cases.specs.declared.point.Point.TheVariants.{Variable, Output, Memory, Answer as AnswerOf}

set_again : {A : Type 0} (xs : List A) (i : ℕ) (x y : A) → set (set xs i x) i y ≡ set xs i y
set_again [] i x y = refl
set_again (z ∷ xs) zero x y = refl
set_again (z ∷ xs) (suc i) x y = ap (λ l. z ∷ l) (set_again xs i x y)

set_back : {A : Type 0} (xs : List A) (i : ℕ) (x d : A) → set (set xs i x) i (get_or xs i d) ≡ xs
set_back [] i x d = refl
set_back (z ∷ xs) zero x d = refl
set_back (z ∷ xs) (suc i) x d = ap (λ l. z ∷ l) (set_back xs i x d)

q_again : (b : Outcome) (x y : Tri) → with_q (with_q b x) y ≡ with_q b y
q_again (OfKind q a) x y = refl
q_again Anything x y = refl

q_back : (b : Outcome) (x : Tri) → with_q (with_q b x) (q_known b) ≡ b
q_back (OfKind q a) x = refl
q_back Anything x = refl

answer_again : (b : Outcome) (x y : Answer) → with_answer (with_answer b x) y ≡ with_answer b y
answer_again (OfKind q a) x y = refl
answer_again Anything x y = refl

answer_back : (b : Outcome) (x : Answer) → with_answer (with_answer b x) (answer_known b) ≡ b
answer_back (OfKind q a) x = refl
answer_back Anything x = refl

-- of an instance, where `put` writes a part of what is known of it
abbrev put_at : {A : Type 0} → (Outcome → A → Outcome) → List Outcome → ℕ → A → List Outcome
put_at put bs i x = set bs i (put (get_or bs i Anything) x)

block_again : {A : Type 0} (put : Outcome → A → Outcome) → ((b : Outcome) (x y : A) → put (put b x) y ≡ put b y) → (bs : List Outcome) (i : ℕ) (x y : A)
    → put_at put (put_at put bs i x) i y ≡ put_at put bs i y
block_again put again [] i x y = refl
block_again put again (b ∷ bs) zero x y = ap (λ c. c ∷ bs) (again b x y)
block_again put again (b ∷ bs) (suc i) x y = ap (λ l. b ∷ l) (block_again put again bs i x y)

block_back : {A : Type 0} (put : Outcome → A → Outcome) (part : Outcome → A) → ((b : Outcome) (x : A) → put (put b x) (part b) ≡ b) → (bs : List Outcome) (i : ℕ) (x : A)
    → put_at put (put_at put bs i x) i (part (get_or bs i Anything)) ≡ bs
block_back put part back [] i x = refl
block_back put part back (b ∷ bs) zero x = ap (λ c. c ∷ bs) (back b x)
block_back put part back (b ∷ bs) (suc i) x = ap (λ l. b ∷ l) (block_back put part back bs i x)

pub pinned_again : (k : Known Tri Outcome) (point : Point) (x y : Tri) → pinned (pinned k point x) point y ≡ pinned k point y
unfolding pinned
pinned_again k (Variable var) x y = ap (λ (values : List Tri). record k { values = values }) (set_again k.values var x y)
pinned_again k (Output inst) x y = ap (λ (blocks : List Outcome). record k { blocks = blocks }) (block_again with_q q_again k.blocks inst x y)
pinned_again k (Memory number) x y = ap (λ (memories : List Tri). record k { memories = memories }) (set_again k.memories number x y)
pinned_again k (AnswerOf inst) x y = refl

pub pinned_back : (k : Known Tri Outcome) (point : Point) (x : Tri) → pinned (pinned k point x) point (told point k) ≡ k
unfolding pinned told
pinned_back k (Variable var) x = ap (λ (values : List Tri). record k { values = values }) (set_back k.values var x Off)
pinned_back k (Output inst) x = ap (λ (blocks : List Outcome). record k { blocks = blocks }) (block_back with_q q_known q_back k.blocks inst x)
pinned_back k (Memory number) x = ap (λ (memories : List Tri). record k { memories = memories }) (set_back k.memories number x Off)
pinned_back k (AnswerOf inst) x = refl

answering_again : (k : Known Tri Outcome) (inst : ℕ) (x y : Answer) → answering (answering k inst x) inst y ≡ answering k inst y
unfolding answering
answering_again k inst x y = ap (λ (blocks : List Outcome). record k { blocks = blocks }) (block_again with_answer answer_again k.blocks inst x y)

answering_back : (k : Known Tri Outcome) (inst : ℕ) (x : Answer) → answering (answering k inst x) inst (answer_known (kept_at outcomes k inst)) ≡ k
unfolding answering
answering_back k inst x = ap (λ (blocks : List Outcome). record k { blocks = blocks }) (block_back with_answer answer_known answer_back k.blocks inst x)

-- after a case, back
pub case_over : (k pin next back : Known Tri Outcome) (point : Point) (x b : Tri) → pin ≡ pinned k point x → next ≡ pin → b ≡ told point k → back ≡ pinned next point b → back ≡ k
case_over k pin next back point x b e f g h =
    h ∙ ap (λ (l : Known Tri Outcome). pinned l point b) (f ∙ e) ∙ ap (pinned (pinned k point x) point) g ∙ pinned_back k point x

-- from the one case to the other
pub other_case : (k pin next other : Known Tri Outcome) (point : Point) (x y : Tri) → pin ≡ pinned k point x → next ≡ pin → other ≡ pinned next point y → other ≡ pinned k point y
other_case k pin next other point x y e f g = g ∙ ap (λ (l : Known Tri Outcome). pinned l point y) (f ∙ e) ∙ pinned_again k point x y

-- the same of what an instance answers
pub answer_over : (k pin next back : Known Tri Outcome) (inst : ℕ) (x b : Answer) → pin ≡ answering k inst x → next ≡ pin → b ≡ answer_known (kept_at outcomes k inst)
    → back ≡ answering next inst b → back ≡ k
answer_over k pin next back inst x b e f g h =
    h ∙ ap (λ (l : Known Tri Outcome). answering l inst b) (f ∙ e) ∙ ap (answering (answering k inst x) inst) g ∙ answering_back k inst x

pub other_answer : (k pin next other : Known Tri Outcome) (inst : ℕ) (x y : Answer) → pin ≡ answering k inst x → next ≡ pin → other ≡ answering next inst y → other ≡ answering k inst y
other_answer k pin next other inst x y e f g = g ∙ ap (λ (l : Known Tri Outcome). answering l inst y) (f ∙ e) ∙ answering_again k inst x y

pub not_not : (b : Bool) → not b ≡ false → b ≡ true
not_not true e = refl
not_not false e = sym e
