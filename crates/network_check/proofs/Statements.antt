-- Statements beside what elements do.
use Rattle.std.proofs.Common.{◌≡◌, ◌∙◌, ◌↔◌, ℕ, ◌-◌, ◌<◌, ◌≤◌, Bool, true, false, not, if◌then◌else◌, List, [], ◌∷◌, ◌++◌, length, take, drop, get_or, Box, Global, ap, ap₂, arith, refl, subst, sym}
use Rattle.std.proofs.Math.Seq.{take-length}
use Rattle.diagram_declarations.specs.declared.decls.Instance.{Instance}
use Rattle.scan_cycle.specs.Rung.{Held, frame_of}
use Rattle.st_expression.specs.declared.expression.Operand.{Operand}
use Rattle.st_expression.specs.declared.expression.Expression.{Expression}
use Rattle.st_expression.specs.declared.expression.Expression.TheVariants as tree
use Rattle.st_expression.specs.Value.{value}
use Rattle.st_statements.specs.declared.statement.StatementList.{StatementList}
use Rattle.st_statements.specs.declared.statement.StatementList.TheVariants.{End, Assign', Trigger', Call', Select', Return'}
use Rattle.st_statements.specs.Run.{Ran, ran, assigned, called, run, seen, triggered, value_in}
use Rattle.network_power.specs.declared.network.Links.{Links}
use Rattle.network_power.specs.declared.network.Network.{Network}
use Rattle.network_power.specs.Network.{IsFedBy, left_of}
use Rattle.network_check.specs.declared.effect.Effect.{Effect}
use Rattle.network_check.specs.declared.effect.Effect.TheVariants.{Coil, Trigger, Call, Return, Jump, Label}
use Rattle.network_check.specs.Runs.{Has, inverse_if, stored, Runs, end, coil, trigger, call, returned, passed, jumped, not_jumped, label}
use Rattle.network_check.specs.Doing.{AreArms, Chooses, DoAll, Does, IsAlways, IsChoice, IsReturn, IsSelection, Latches, LeadsPast, Shows, assigning, latching, and_then, ran_by}

-- the memory that a part is in
abbrev pub Memory : Type 0
Memory = Box (Unit {0}) Global

-- ---- powers

has_as : (net : Network) (h : Held) (left : Links) (a b : Bool) → a ≡ b → Has net h left a → Has net h left b
has_as net h left a b e has = subst (λ (x : Bool). Has net h left x) e has

not_not : (b : Bool) → not (not b) ≡ b
not_not true = refl
not_not false = refl

pub shows_plain : (net : Network) (left : Links) (inverse : Bool) (e : Expression) → inverse ≡ false
    → ((env : Operand → Bool) → (value env e ≡ true) ↔ IsFedBy net env (left_of net left)) → Shows net left inverse e
shows_plain net left true e is fed = cc
shows_plain net left false e is fed = record { shown = λ h. fed (seen (frame_of h)) }

pub shows_inverse : (net : Network) (left : Links) (e a x : Expression) (p : Memory) → e ≡ tree.Not' p a → x ≡ a
    → ((env : Operand → Bool) → (value env x ≡ true) ↔ IsFedBy net env (left_of net left)) → Shows net left true e
unfolding value
shows_inverse net left e a x p at is fed = record {
  shown = λ h.
      let env = seen (frame_of h) in
      let same : value env x ≡ not (value env e) =
      sym (not_not (value env x)) ∙ ap (λ t. not (not (value env t))) is ∙ sym (ap (λ t. not (value env t)) at) in
      has_as net h left (value env x) (not (value env e)) same (fed env);
}

pub shows_constant : (net : Network) (left : Links) (e x : Expression) (on : Bool) → e ≡ tree.Constant on → x ≡ tree.Constant (not on)
    → ((env : Operand → Bool) → (value env x ≡ true) ↔ IsFedBy net env (left_of net left)) → Shows net left true e
unfolding value
shows_constant net left e x on at is fed = record {
  shown = λ h.
      let env = seen (frame_of h) in
      has_as net h left (value env x) (not (value env e)) (ap (value env) is ∙ sym (ap (λ t. not (value env t)) at)) (fed env);
}

pub always_by : (net : Network) (left : Links) (e : Expression) → e ≡ tree.Constant true → Shows net left false e → IsAlways net left
unfolding value
always_by net left e is shows = record {
  always = λ h. has_as net h left (value (seen (frame_of h)) e) true (ap (value (seen (frame_of h))) is) (shows.shown h);
}

-- ---- selections

pub choice_by : (list accepted next otherwise a n o : StatementList) (e x : Expression) (p q r : Memory) → list ≡ Select' x p a q o r n
    → e ≡ x → accepted ≡ a → otherwise ≡ o → next ≡ n → IsChoice e accepted otherwise next list
unfolding run
choice_by list accepted next otherwise a n o e x p q r at is_e is_a is_o is_n = record {
  chosen = λ instances now h.
      ap (λ l. run instances now l h) at
      ∙ ap (λ l. and_then (run instances now l) (ran_by instances now a o h (value_in h x))) (sym is_n)
      ∙ ap₂ (λ s t. and_then (run instances now next) (ran_by instances now s t h (value_in h x))) (sym is_a) (sym is_o)
      ∙ ap (λ t. and_then (run instances now next) (ran_by instances now accepted otherwise h (value_in h t))) (sym is_e);
}

pub selection_by : (list accepted next other a n o : StatementList) (e : Expression) (p q r : Memory) → list ≡ Select' e p a q o r n
    → accepted ≡ a → next ≡ n → other ≡ o → other ≡ End → IsSelection e accepted next list
unfolding run
selection_by list accepted next other a n o e p q r at is_a is_n is_o ends = record {
  chosen = λ instances now h.
      ap (λ x. run instances now x h) at
      ∙ ap (λ x. and_then (run instances now x) (if value_in h e then run instances now a h else run instances now o h)) (sym is_n)
      ∙ ap (λ x. and_then (run instances now next) (if value_in h e then run instances now x h else run instances now o h)) (sym is_a)
      ∙ ap (λ x. and_then (run instances now next) (if value_in h e then run instances now accepted h else run instances now x h)) (sym is_o ∙ ends);
}

pub latches_by : (list next n : StatementList) (variable written : ℕ) (on : Bool) (e : Expression) (p : Memory) → list ≡ Assign' written e p n
    → written ≡ variable → ((env : Operand → Bool) → value env e ≡ on) → next ≡ n → next ≡ End → Latches variable on list
unfolding run
latches_by list next n variable written on e p at same constant is_n ends = record {
  latched = λ instances now h.
      ap (λ x. run instances now x h) at
      ∙ ap (λ x. run instances now x (assigned written (value_in h e) h)) (sym is_n ∙ ends)
      ∙ ap₂ (λ v b. ran false (assigned v b h)) same (constant (seen (frame_of h)));
}

pub return_by : (list next : StatementList) (p : Memory) → list ≡ Return' p next → IsReturn list
unfolding run
return_by list next p at = record { returned = λ instances now h. ap (λ x. run instances now x h) at }

-- ---- one element

stored_as : (inverse b : Bool) (variable : ℕ) (h : Held) → stored (assigning inverse) variable (inverse_if inverse b) h ≡ assigned variable b h
stored_as true b variable h = ap (λ x. assigned variable x h) (not_not b)
stored_as false b variable h = refl

twice : (inverse b : Bool) → inverse_if inverse (inverse_if inverse b) ≡ b
twice true b = not_not b
twice false b = refl

pub assignment_does : (net : Network) (variable written : ℕ) (inverse : Bool) (left : Links) (list next n : StatementList) (e : Expression) (p : Memory)
    → list ≡ Assign' written e p n → written ≡ variable → Shows net left inverse e → next ≡ n → Does net (Coil variable (assigning inverse) left) list next
unfolding run
assignment_does net variable written inverse left list next n e p at same shows is_n = record {
  follows = λ instances now effects more others h.
      let on = value_in h e in
      let after = assigned variable on h in
      let ends : run instances now list h ≡ run instances now next after =
      ap (λ x. run instances now x h) at ∙ ap₂ (λ x v. run instances now x (assigned v on h)) (sym is_n) same in
      let left_then = and_then more (run instances now next after) in
      subst (λ (r : Ran). Runs net instances now (Coil variable (assigning inverse) left ∷ effects) h (and_then more r)) (sym ends)
      (coil variable (assigning inverse) left effects h (inverse_if inverse on) left_then (shows.shown h)
      (subst (λ (s : Held). Runs net instances now effects s left_then) (sym (stored_as inverse on variable h)) (others after)));
}

pub trigger_does : (net : Network) (output written memory kept : ℕ) (falling : Bool) (left : Links) (list next n : StatementList) (e : Expression) (p : Memory)
    → list ≡ Trigger' written kept e p n → written ≡ output → kept ≡ memory → Shows net left falling e → next ≡ n
    → Does net (Trigger output memory falling left) list next
unfolding run
trigger_does net output written memory kept falling left list next n e p at same same_memory shows is_n = record {
  follows = λ instances now effects more others h.
      let clock = value_in h e in
      let after = triggered output memory clock h in
      let ends : run instances now list h ≡ run instances now next after =
      ap (λ x. run instances now x h) at ∙ ap (λ x. run instances now x (triggered written kept clock h)) (sym is_n)
      ∙ ap₂ (λ v m. run instances now next (triggered v m clock h)) same same_memory in
      let left_then = and_then more (run instances now next after) in
      subst (λ (r : Ran). Runs net instances now (Trigger output memory falling left ∷ effects) h (and_then more r)) (sym ends)
      (trigger output memory falling left effects h (inverse_if falling clock) left_then (shows.shown h)
      (subst (λ (b : Bool). Runs net instances now effects (triggered output memory b h) left_then) (sym (twice falling clock)) (others after)));
}

pub call_does : (net : Network) (instance named : ℕ) (first second : Links) (list next n : StatementList) (x y : Expression) (p : Memory)
    → list ≡ Call' named x y p n → named ≡ instance → Shows net first false x → Shows net second false y → next ≡ n
    → Does net (Call instance first second) list next
unfolding run
call_does net instance named first second list next n x y p at same one two is_n = record {
  follows = λ instances now effects more others h.
      let after = called instances now instance (value_in h x) (value_in h y) h in
      let ends : run instances now list h ≡ run instances now next after =
      ap (λ l. run instances now l h) at
      ∙ ap₂ (λ l i. run instances now l (called instances now i (value_in h x) (value_in h y) h)) (sym is_n) same in
      subst (λ (r : Ran). Runs net instances now (Call instance first second ∷ effects) h (and_then more r)) (sym ends)
      (call instance first second effects h (value_in h x) (value_in h y) (and_then more (run instances now next after)) (one.shown h) (two.shown h) (others after));
}

module _ (net : Network) (left : Links) (list accepted next : StatementList) (e : Expression) (chooses : IsSelection e accepted next list) (shows : Shows net left false e) where
  after_latch : (variable : ℕ) (on : Bool) → Latches variable on accepted → (instances : List Instance) (now : ℕ) (h : Held) (b : Bool)
      → and_then (run instances now next) (if b then run instances now accepted h else ran false h) ≡ run instances now next (stored (latching on) variable b h)
  after_latch variable true latches instances now h true = ap (and_then (run instances now next)) (latches.latched instances now h)
  after_latch variable false latches instances now h true = ap (and_then (run instances now next)) (latches.latched instances now h)
  after_latch variable true latches instances now h false = refl
  after_latch variable false latches instances now h false = refl

  pub latch_does : (variable : ℕ) (on : Bool) → Latches variable on accepted → Does net (Coil variable (latching on) left) list next
  latch_does variable on latches = record {
    follows = λ instances now effects more others h.
        let after = stored (latching on) variable (value_in h e) h in
        let ends : run instances now list h ≡ run instances now next after =
        chooses.chosen instances now h ∙ after_latch variable on latches instances now h (value_in h e) in
        subst (λ (r : Ran). Runs net instances now (Coil variable (latching on) left ∷ effects) h (and_then more r)) (sym ends)
        (coil variable (latching on) left effects h (value_in h e) (and_then more (run instances now next after)) (shows.shown h) (others after));
  }

  after_return : IsReturn accepted → (instances : List Instance) (now : ℕ) (effects : List Effect) (more : Held → Ran) (h : Held) (b : Bool) → Has net h left b
      → Runs net instances now effects h (and_then more (run instances now next h))
      → Runs net instances now (Return left ∷ effects) h (and_then more (and_then (run instances now next) (if b then run instances now accepted h else ran false h)))
  after_return leaves instances now effects more h true has others =
      subst (λ (r : Ran). Runs net instances now (Return left ∷ effects) h (and_then more (and_then (run instances now next) r))) (sym (leaves.returned instances now h))
      (returned left effects h has)
  after_return leaves instances now effects more h false has others = passed left effects h (and_then more (run instances now next h)) has others

  pub return_does : IsReturn accepted → Does net (Return left) list next
  return_does leaves = record {
    follows = λ instances now effects more others h.
        subst (λ (r : Ran). Runs net instances now (Return left ∷ effects) h (and_then more r)) (sym (chooses.chosen instances now h))
        (after_return leaves instances now effects more h (value_in h e) (shows.shown h) (others h));
  }

-- ---- all elements

pub none_do : (net : Network) (effects : List Effect) (list : StatementList) → length effects < 1 → list ≡ End → DoAll net effects list
unfolding run
none_do net [] list none is = record {
  follow = λ instances now others more does h.
      subst (λ (l : StatementList). Runs net instances now others h (and_then more (run instances now l h))) (sym is) (does h);
}
none_do net (effect ∷ effects) list none is = absurd (omega (arith, none))

rest_is : (effect : Effect) (effects : List Effect) → take (length (effect ∷ effects) - 1) effects ≡ effects
rest_is effect effects =
    let all : length (effect ∷ effects) - 1 ≡ length effects = omega arith in
    ap (λ n. take n effects) all ∙ take-length effects

more_follow : (net : Network) (effect : Effect) (effects : List Effect) (list next : StatementList) → Does net effect list next → DoAll net effects next
    → DoAll net (effect ∷ effects) list
more_follow net effect effects list next does others = record {
  follow = λ instances now behind more runs h.
      does.follows instances now (effects ++ behind) more (others.follow instances now behind more runs) h;
}

pub more_do : (net : Network) (effects : List Effect) (none : Effect) (list next : StatementList) → 1 ≤ length effects → Does net (get_or effects 0 none) list next
    → DoAll net (take (length effects - 1) (drop 1 effects)) next → DoAll net effects list
more_do net [] none list next some does others = absurd (omega (arith, some))
more_do net (effect ∷ effects) none list next some does others =
    more_follow net effect effects list next does (subst (λ (xs : List Effect). DoAll net xs next) (rest_is effect effects) others)

label_follows : (net : Network) (effects : List Effect) (list : StatementList) → DoAll net effects list → DoAll net (Label ∷ effects) list
label_follows net effects list others = record {
  follow = λ instances now behind more runs h.
      label (effects ++ behind) h (and_then more (run instances now list h)) (others.follow instances now behind more runs h);
}

pub label_does : (net : Network) (effects : List Effect) (none : Effect) (list : StatementList) → 1 ≤ length effects → get_or effects 0 none ≡ Label
    → DoAll net (take (length effects - 1) (drop 1 effects)) list → DoAll net effects list
label_does net [] none list some is others = absurd (omega (arith, some))
label_does net (effect ∷ effects) none list some is others =
    subst (λ (x : Effect). DoAll net (x ∷ effects) list) (sym is)
    (label_follows net effects list (subst (λ (xs : List Effect). DoAll net xs list) (rest_is effect effects) others))

pub jump_does : (net : Network) (effects : List Effect) (none jump : Effect) (first second rest : List Effect) (accepted otherwise next list : StatementList)
    → 1 ≤ length effects → get_or effects 0 none ≡ jump
    → Chooses net jump (take (length effects - 1) (drop 1 effects)) first second rest accepted otherwise next list
    → DoAll net first accepted → DoAll net second otherwise → DoAll net rest next → DoAll net effects list
jump_does net [] none jump first second rest accepted otherwise next list some is chooses one two others = absurd (omega (arith, some))
jump_does net (effect ∷ effects) none jump first second rest accepted otherwise next list some is chooses one two others =
    subst (λ (x : Effect). DoAll net (x ∷ effects) list) (sym is)
    (subst (λ (xs : List Effect). DoAll net (jump ∷ xs) list) (rest_is effect effects) (chooses.chooses one two others))

pub append_nil : (xs : List Effect) → xs ++ [] ≡ xs
append_nil [] = refl
append_nil (x ∷ xs) = ap (λ t. x ∷ t) (append_nil xs)

pub if_true : {A : Type 0} (b : Bool) (x y : A) → b ≡ true → (if b then x else y) ≡ x
if_true true x y e = refl
if_true false x y e = cc

pub if_false : {A : Type 0} (b : Bool) (x y : A) → b ≡ false → (if b then x else y) ≡ y
if_false false x y e = refl
if_false true x y e = cc

then_end : (r : Ran) (b : Bool) → r.has_returned ≡ b → and_then (ran false) r ≡ r
then_end r true e = if_true r.has_returned r (ran false r.held) e
then_end r false e = if_false r.has_returned r (ran false r.held) e ∙ ap (λ x. ran x r.held) (sym e)

pub run_by : (net : Network) (effects : List Effect) (list : StatementList) → DoAll net effects list → (instances : List Instance) (now : ℕ) (h : Held)
    → Runs net instances now effects h (run instances now list h)
run_by net effects list does instances now h =
    let r = run instances now list h in
    subst (λ (s : Ran). Runs net instances now effects h s) (then_end r r.has_returned refl)
    (subst (λ (xs : List Effect). Runs net instances now xs h (and_then (ran false) r)) (append_nil effects)
    (does.follow instances now [] (ran false) (λ s. end s) h))

pub does_as : (net : Network) (first second : Effect) (list next : StatementList) → first ≡ second → Does net second list next → Does net first list next
does_as net first second list next e does = subst (λ (x : Effect). Does net x list next) (sym e) does
