-- Private: what is known of an instance after a step allows what the step leaves, and where more is known before, more is known after.
use Rattle.std.proofs.Common.{◌≡◌, ◌∙◌, inl, inr, ℕ, Bool, true, false, cond, refl, sym, ap, ap₂, subst, nat_eq}
use Rattle.diagram_declarations.specs.declared.kind.BlockKind.{BlockKind}
use Rattle.diagram_declarations.specs.declared.kind.BlockKind.TheVariants.{Ton, Tof, Tp, Ctu, Ctd, Sr, Rs}
use Rattle.scan_signals.specs.declared.block.Stored.{Stored}
use Rattle.scan_signals.specs.declared.block.Stored.TheVariants.{Timer, Counter, Bistable}
use Rattle.scan_signals.specs.Blocks.{step, q_of, new_block}
use Rattle.scan_signals.specs.Relations.{AllowsAt, IsKept}
use Rattle.scan_signals.specs.Truth.{OnePlace}
use Rattle.scan_signals.specs.Three.{AnyTri, three, three_known, three_join, three_meet, three_inverse, three_choice, three_allows}
use Rattle.scan_signals.specs.ThreeLaws.{three_allowed}
use Rattle.scan_signals.specs.declared.tri.Tri.{Tri}
use Rattle.scan_signals.specs.declared.tri.Tri.TheVariants.{Off, On, Unsure}
use Rattle.scan_cycle.specs.Cells.{Diagram}
use Rattle.scan_cycle.specs.RungByRung.{shape}
use Rattle.scan_symbolic.specs.KnownScan.{plainly}
use Rattle.scan_symbolic.specs.KnownLaws.{StepsKeep}
use Rattle.scan_partial.specs.KeepsValues.{KeepsValues}
use Rattle.invariant_cases.specs.AnswerLaws.{one_answer}
use Rattle.invariant_cases.specs.Outcomes.{AnswersMore, AnyOutcome, DoesAnswer, KnowsMore, MayStore, TellsMore, agreed, answered, outcome_after, outcome_choice, outcomes, q_after, q_known}
use Rattle.invariant_cases.specs.declared.answer.Answer.{Answer}
use Rattle.invariant_cases.specs.declared.answer.Answer.TheVariants.{Off as AnswersOff, On as AnswersOn, Input, Open}
use Rattle.invariant_cases.specs.declared.outcome.Outcome.{Outcome}
use Rattle.invariant_cases.specs.declared.outcome.Outcome.TheVariants.{OfKind, Anything}

abbrev Allows : Tri → Bool → Type 0
Allows x b = three_allows x 0 b

join_on : (x : Tri) → three_join x On ≡ On
join_on On = refl
join_on Off = refl
join_on Unsure = refl

meet_off : (x : Tri) → three_meet x Off ≡ Off
meet_off On = refl
meet_off Off = refl
meet_off Unsure = refl

same_choice : (c : Tri) (b : Bool) → three_choice c (three_known b) (three_known b) ≡ three_known b
same_choice On b = refl
same_choice Off b = refl
same_choice Unsure true = refl
same_choice Unsure false = refl

-- ---- where more is known before, more is known after
knows_same : (x : Tri) → KnowsMore x x
knows_same On = refl
knows_same Off = refl
knows_same Unsure = tt

knows_join : (x y u v : Tri) → KnowsMore x u → KnowsMore y v → KnowsMore (three_join x y) (three_join u v)
knows_join On y u v h k = ap (λ (z : Tri). three_join z v) h
knows_join Off On u v h k = ap₂ three_join h k
knows_join Off Off u v h k = ap₂ three_join h k
knows_join Off Unsure u v h k = tt
knows_join Unsure On u v h k = ap (three_join u) k ∙ join_on u
knows_join Unsure Off u v h k = tt
knows_join Unsure Unsure u v h k = tt

knows_meet : (x y u v : Tri) → KnowsMore x u → KnowsMore y v → KnowsMore (three_meet x y) (three_meet u v)
knows_meet Off y u v h k = ap (λ (z : Tri). three_meet z v) h
knows_meet On On u v h k = ap₂ three_meet h k
knows_meet On Off u v h k = ap₂ three_meet h k
knows_meet On Unsure u v h k = tt
knows_meet Unsure Off u v h k = ap (three_meet u) k ∙ meet_off u
knows_meet Unsure On u v h k = tt
knows_meet Unsure Unsure u v h k = tt

knows_inverse : (x u : Tri) → KnowsMore x u → KnowsMore (three_inverse x) (three_inverse u)
knows_inverse On u h = ap three_inverse h
knows_inverse Off u h = ap three_inverse h
knows_inverse Unsure u h = tt

knows_agree : (c x y u v : Tri) → KnowsMore x u → KnowsMore y v → KnowsMore (three_choice Unsure x y) (three_choice c u v)
knows_agree c On On u v h k = ap₂ (three_choice c) h k ∙ same_choice c true
knows_agree c On Off u v h k = tt
knows_agree c On Unsure u v h k = tt
knows_agree c Off On u v h k = tt
knows_agree c Off Off u v h k = ap₂ (three_choice c) h k ∙ same_choice c false
knows_agree c Off Unsure u v h k = tt
knows_agree c Unsure y u v h k = tt

pub knows_choice : (c x y d u v : Tri) → KnowsMore c d → KnowsMore x u → KnowsMore y v → KnowsMore (three_choice c x y) (three_choice d u v)
knows_choice On x y d u v g h k = subst (λ (z : Tri). KnowsMore x (three_choice z u v)) (sym g) h
knows_choice Off x y d u v g h k = subst (λ (z : Tri). KnowsMore y (three_choice z u v)) (sym g) k
knows_choice Unsure x y d u v g h k = knows_agree d x y u v h k

pub knows_kept : IsKept three three KnowsMore
knows_kept = record {
  known = λ c. knows_same (three_known c);
  join = knows_join;
  meet = knows_meet;
  inverse = knows_inverse;
  choice = knows_choice;
}

knows_either : (z : Bool) (x y u v : Tri) → KnowsMore x u → KnowsMore y v → KnowsMore (cond z x y) (cond z u v)
knows_either true x y u v h k = h
knows_either false x y u v h k = k

knows_answer : (a b : Answer) (x u : Tri) → AnswersMore a b → KnowsMore x u → KnowsMore (answered a x) (answered b u)
knows_answer AnswersOff b x u k h = ap (λ (c : Answer). answered c u) k
knows_answer AnswersOn b x u k h = ap (λ (c : Answer). answered c u) k
knows_answer Input b x u k h = subst (λ (c : Answer). KnowsMore x (answered c u)) (sym k) h
knows_answer Open b x u k h = tt

answers_same : (a : Answer) → AnswersMore a a
answers_same AnswersOff = refl
answers_same AnswersOn = refl
answers_same Input = refl
answers_same Open = tt

knows_after : (kind : BlockKind) (preset : ℕ) (q r : Tri) (a b : Answer) (x y u v : Tri) → KnowsMore q r → AnswersMore a b → KnowsMore x u → KnowsMore y v
    → KnowsMore (q_after kind preset q a x y) (q_after kind preset r b u v)
unfolding q_after
knows_after Ton preset q r a b x y u v k m h g =
    knows_either (nat_eq preset 0) x (three_meet x (answered a x)) u (three_meet u (answered b u)) h (knows_meet x (answered a x) u (answered b u) h (knows_answer a b x u m h))
knows_after Tof preset q r a b x y u v k m h g =
    knows_either (nat_eq preset 0) x (three_join x (answered a x)) u (three_join u (answered b u)) h (knows_join x (answered a x) u (answered b u) h (knows_answer a b x u m h))
knows_after Tp preset q r a b x y u v k m h g = knows_either (nat_eq preset 0) Off (answered a x) Off (answered b u) refl (knows_answer a b x u m h)
knows_after Ctu preset q r a b x y u v k m h g =
    knows_choice y (three_known (nat_eq preset 0)) (answered a x) v (three_known (nat_eq preset 0)) (answered b u) g (knows_same (three_known (nat_eq preset 0))) (knows_answer a b x u m h)
knows_after Ctd preset q r a b x y u v k m h g =
    knows_choice y (three_known (nat_eq preset 0)) (answered a x) v (three_known (nat_eq preset 0)) (answered b u) g (knows_same (three_known (nat_eq preset 0))) (knows_answer a b x u m h)
knows_after Sr preset q r a b x y u v k m h g = knows_join x (three_meet (three_inverse y) q) u (three_meet (three_inverse v) r) h (knows_meet (three_inverse y) q (three_inverse v) r (knows_inverse y v g) k)
knows_after Rs preset q r a b x y u v k m h g = knows_meet (three_inverse y) (three_join x q) (three_inverse v) (three_join u r) (knows_inverse y v g) (knows_join x q u r h k)

-- what is known allows a truth value just where that one knows more
more_known : (x : Tri) (b : Bool) → Allows x b → KnowsMore x (three_known b)
more_known On b h = ap three_known h
more_known Off b h = ap three_known h
more_known Unsure b h = tt

allows_less : (x y : Tri) (b : Bool) → KnowsMore x y → Allows y b → Allows x b
allows_less On y b h k = subst (λ (z : Tri). Allows z b) h k
allows_less Off y b h k = subst (λ (z : Tri). Allows z b) h k
allows_less Unsure y b h k = tt

-- ---- what is stored
-- Where less is said of the answer it does so too.
answers_less : (kind : BlockKind) (preset now : ℕ) (a b : Answer) (s : Stored) → AnswersMore a b → DoesAnswer kind preset now b s → DoesAnswer kind preset now a s
answers_less kind preset now a b s m d x y =
    let same = λ (c : Bool). knows_same (three_known c) in
    allows_less (q_after kind preset (three_known (q_of s)) a (three_known x) (three_known y)) (q_after kind preset (three_known (q_of s)) b (three_known x) (three_known y)) _
    (knows_after kind preset (three_known (q_of s)) (three_known (q_of s)) a b (three_known x) (three_known y) (three_known x) (three_known y) (same (q_of s)) m (same x) (same y)) (d x y)

pub open_answers : (kind : BlockKind) (preset now : ℕ) (s : Stored) → shape s ≡ new_block kind → DoesAnswer kind preset now Open s
open_answers kind preset now s e = elim (one_answer kind preset now s e) [
  | inl d ↦ answers_less kind preset now Open AnswersOff s tt d
  | inr (inl d) ↦ answers_less kind preset now Open AnswersOn s tt d
  | inr (inr d) ↦ answers_less kind preset now Open Input s tt d
]

either_shape : (b : Bool) (x y z : Stored) → shape x ≡ z → shape y ≡ z → shape (cond b x y) ≡ z
either_shape true x y z h k = h
either_shape false x y z h k = k

tp_shape : (stays begins on : Bool) (start now : ℕ)
    → shape (cond stays (Timer on true start true) (cond begins (Timer on true now true) (Timer on false 0 false))) ≡ Timer false false 0 false
tp_shape true begins on start now = refl
tp_shape false true on start now = refl
tp_shape false false on start now = refl

step_shape : (kind : BlockKind) (preset : ℕ) (s : Stored) (x y : Bool) (now : ℕ) → shape (step kind preset s x y now) ≡ shape s
unfolding step
step_shape Ton preset (Timer last running start q) x y now = either_shape x _ _ _ refl refl
step_shape Tof preset (Timer last running start q) x y now = either_shape x _ _ _ refl refl
step_shape Tp preset (Timer last running start q) x y now = tp_shape _ _ x start now
step_shape Ctu preset (Timer last running start q) x y now = refl
step_shape Ctd preset (Timer last running start q) x y now = refl
step_shape Sr preset (Timer last running start q) x y now = refl
step_shape Rs preset (Timer last running start q) x y now = refl
step_shape Ton preset (Counter last cv q) x y now = refl
step_shape Tof preset (Counter last cv q) x y now = refl
step_shape Tp preset (Counter last cv q) x y now = refl
step_shape Ctu preset (Counter last cv q) x y now = refl
step_shape Ctd preset (Counter last cv q) x y now = refl
step_shape Sr preset (Counter last cv q) x y now = refl
step_shape Rs preset (Counter last cv q) x y now = refl
step_shape Ton preset (Bistable q) x y now = refl
step_shape Tof preset (Bistable q) x y now = refl
step_shape Tp preset (Bistable q) x y now = refl
step_shape Ctu preset (Bistable q) x y now = refl
step_shape Ctd preset (Bistable q) x y now = refl
step_shape Sr preset (Bistable q) x y now = refl
step_shape Rs preset (Bistable q) x y now = refl

step_sound : (kind : BlockKind) (preset now : ℕ) (b : Outcome) (s : Stored) (x y : Tri) (u v : Bool) → MayStore kind preset now b s → Allows x u → Allows y v
    → MayStore kind preset now (outcome_after kind preset b x y) (step kind preset s u v now)
step_sound kind preset now Anything s x y u v k h g = tt
step_sound kind preset now (OfKind q a) s x y u v k h g =
    let fits = step_shape kind preset s u v now ∙ k.0 in (
      fits,
      allows_less (q_after kind preset q a x y) (q_after kind preset (three_known (q_of s)) a (three_known u) (three_known v)) _
          (knows_after kind preset q (three_known (q_of s)) a a x y (three_known u) (three_known v) (more_known q (q_of s) k.1) (answers_same a) (more_known x u h) (more_known y v g))
          (k.2 u v),
      open_answers kind preset now (step kind preset s u v now) fits,
    )

pub q_sound : (kind : BlockKind) (preset now : ℕ) (b : Outcome) (s : Stored) → MayStore kind preset now b s → Allows (q_known b) (q_of s)
q_sound kind preset now (OfKind q a) s h = h.1
q_sound kind preset now Anything s h = tt

agreed_first : (a b : Answer) → AnswersMore (agreed a b) a
agreed_first AnswersOff AnswersOff = refl
agreed_first AnswersOff AnswersOn = tt
agreed_first AnswersOff Input = tt
agreed_first AnswersOff Open = tt
agreed_first AnswersOn AnswersOff = tt
agreed_first AnswersOn AnswersOn = refl
agreed_first AnswersOn Input = tt
agreed_first AnswersOn Open = tt
agreed_first Input AnswersOff = tt
agreed_first Input AnswersOn = tt
agreed_first Input Input = refl
agreed_first Input Open = tt
agreed_first Open b = tt

agreed_swaps : (a b : Answer) → agreed a b ≡ agreed b a
agreed_swaps AnswersOff AnswersOff = refl
agreed_swaps AnswersOff AnswersOn = refl
agreed_swaps AnswersOff Input = refl
agreed_swaps AnswersOff Open = refl
agreed_swaps AnswersOn AnswersOff = refl
agreed_swaps AnswersOn AnswersOn = refl
agreed_swaps AnswersOn Input = refl
agreed_swaps AnswersOn Open = refl
agreed_swaps Input AnswersOff = refl
agreed_swaps Input AnswersOn = refl
agreed_swaps Input Input = refl
agreed_swaps Input Open = refl
agreed_swaps Open AnswersOff = refl
agreed_swaps Open AnswersOn = refl
agreed_swaps Open Input = refl
agreed_swaps Open Open = refl

agreed_second : (a b : Answer) → AnswersMore (agreed a b) b
agreed_second a b = subst (λ (c : Answer). AnswersMore c b) (agreed_swaps b a) (agreed_first b a)

one_of : (kind : BlockKind) (preset now : ℕ) (q : Tri) (a b : Answer) (h : Bool) (s t : Stored) → shape s ≡ new_block kind → shape t ≡ new_block kind
    → DoesAnswer kind preset now a s → DoesAnswer kind preset now b t → Allows q (cond h (q_of s) (q_of t)) → MayStore kind preset now (OfKind q (agreed a b)) (cond h s t)
one_of kind preset now q a b true s t e f m n k = (e, k, answers_less kind preset now (agreed a b) a s (agreed_first a b) m)
one_of kind preset now q a b false s t e f m n k = (f, k, answers_less kind preset now (agreed a b) b t (agreed_second a b) n)

choice_sound : (kind : BlockKind) (preset now : ℕ) (g : Tri) (h : Bool) (b e : Outcome) (c f : Stored) → Allows g h → MayStore kind preset now b c → MayStore kind preset now e f
    → MayStore kind preset now (outcome_choice g b e) (cond h c f)
choice_sound kind preset now g h (OfKind q a) (OfKind r b) c f k m n =
    one_of kind preset now (three_choice g q r) a b h c f m.0 n.0 m.2 n.2 (three_allowed.choice_allows g q r 0 h (q_of c) (q_of f) tt tt tt refl k m.1 n.1)
choice_sound kind preset now g h (OfKind q a) Anything c f k m n = tt
choice_sound kind preset now g h Anything e c f k m n = tt

-- What is known of instances allows what steps and choices leave, at any moment.
pub outcomes_keep : (now : ℕ) (d : Diagram) → StepsKeep d outcomes plainly (AllowsAt AnyTri OnePlace three_allows 0) (λ inst. MayStore (d.kind inst) (d.preset inst) now) 0 now
outcomes_keep now d = record {
  past = λ inst. tt;
  q = λ inst b c h. (tt, λ _. q_sound (d.kind inst) (d.preset inst) now b c h);
  step = λ inst b c x y s t h first second. step_sound (d.kind inst) (d.preset inst) now b c x y s t h (first.1 refl) (second.1 refl);
  choice = λ inst g h b e c f r p q. choice_sound (d.kind inst) (d.preset inst) now g h b e c f (r.1 refl) p q;
}

-- ---- where more is known
pub tells_q : (b c : Outcome) → TellsMore b c → KnowsMore (q_known b) (q_known c)
tells_q (OfKind q a) (OfKind r b) h = h.0
tells_q (OfKind q a) Anything h = absurd h
tells_q Anything c h = tt

tells_step : (kind : BlockKind) (preset : ℕ) (b c : Outcome) (x y u v : Tri) → TellsMore b c → KnowsMore x u → KnowsMore y v → TellsMore (outcome_after kind preset b x y) (outcome_after kind preset c u v)
tells_step kind preset (OfKind q a) (OfKind r b) x y u v k h g = (knows_after kind preset q r a b x y u v k.0 k.1 h g, tt)
tells_step kind preset (OfKind q a) Anything x y u v k h g = absurd k
tells_step kind preset Anything c x y u v k h g = tt

-- what two answers agree on
agreed_more : (a b c d : Answer) → AnswersMore a c → AnswersMore b d → AnswersMore (agreed a b) (agreed c d)
agreed_more AnswersOff AnswersOff c d h k = ap₂ agreed h k
agreed_more AnswersOff AnswersOn c d h k = tt
agreed_more AnswersOff Input c d h k = tt
agreed_more AnswersOff Open c d h k = tt
agreed_more AnswersOn AnswersOff c d h k = tt
agreed_more AnswersOn AnswersOn c d h k = ap₂ agreed h k
agreed_more AnswersOn Input c d h k = tt
agreed_more AnswersOn Open c d h k = tt
agreed_more Input AnswersOff c d h k = tt
agreed_more Input AnswersOn c d h k = tt
agreed_more Input Input c d h k = ap₂ agreed h k
agreed_more Input Open c d h k = tt
agreed_more Open b c d h k = tt

tells_choice : (g h : Tri) (b e c f : Outcome) → KnowsMore g h → TellsMore b c → TellsMore e f → TellsMore (outcome_choice g b e) (outcome_choice h c f)
tells_choice g h (OfKind q a) (OfKind r b) (OfKind u c) (OfKind v d) k m n = (knows_choice g q r h u v k m.0 n.0, agreed_more a b c d m.1 n.1)
tells_choice g h (OfKind q a) (OfKind r b) Anything f k m n = absurd m
tells_choice g h (OfKind q a) (OfKind r b) (OfKind u c) Anything k m n = absurd n
tells_choice g h (OfKind q a) Anything c f k m n = tt
tells_choice g h Anything e c f k m n = tt

pub outcomes_grow : (d : Diagram) → StepsKeep d outcomes outcomes KnowsMore (λ inst. TellsMore) 0 0
outcomes_grow d = record {
  past = λ inst. tt;
  q = λ inst b c h. tells_q b c h;
  step = λ inst b c x y s t h first second. tells_step (d.kind inst) (d.preset inst) b c x y s t h first second;
  choice = λ inst g h b e c f r p q. tells_choice g h b e c f r p q;
}

-- Three values have no others.
pub outcomes_keep_values : KeepsValues AnyTri AnyOutcome outcomes
outcomes_keep_values = record { stored = λ s. tt; q = λ b k. tt; step = λ kind preset b x y now k v w. tt; choice = λ guard b c v k l. tt }
