-- One turn of the loops that make the gates, the actions and the steps of a program.
use Rattle.std.proofs.Common.{◌≡◌, ℕ, ◌+◌, ◌++◌, ◌||◌, Bool, true, false, List, [], ◌∷◌, Option, Some, None, if◌then◌else◌, map, filter_map, add-one, refl, ap, ap₂, ◌∙◌}
use Rattle.std.proofs.lemmas.List.{append_assoc}
use Rattle.diagram_program.specs.declared.gates.TheConstants.{OFF}
use Rattle.diagram_program.specs.declared.gates.Gate.{Gate}
use Rattle.diagram_program.specs.declared.gates.Action.{Action}
use Rattle.diagram_program.specs.declared.gates.Exit.{Exit}
use Rattle.diagram_program.specs.declared.steps.Step.{Step}
use Rattle.diagram_program.specs.Gates.{last_of, has_gate, gate_at, gates_before, gates_of, acts, action_at, actions_before, actions_of, exit_of}
use Rattle.diagram_program.specs.Program.{Drawing, cell_of, jump_of}
use Rattle.diagram_program.specs.Steps.{gate_step, action_step, turned_by, turns_before, turn_steps, exit_steps, rung_steps, steps_below}

-- ---- gates and actions

taken : {A : Type 0} (b : Bool) (x y : A) (xs : List A) → (if b then Some x else None) ≡ Some y → (if b then xs ++ x ∷ [] else xs) ≡ xs ++ y ∷ []
taken true x y xs h = cc
taken false x y xs h = cc

not_taken : {A : Type 0} (b : Bool) (x : A) (xs : List A) → (if b then Some x else None) ≡ None → (if b then xs ++ x ∷ [] else xs) ≡ xs
not_taken true x xs h = cc
not_taken false x xs h = refl

module _ (d : Drawing) (rung : ℕ) where
  pub gates_none : [] ≡ gates_before d rung 0
  unfolding gates_before
  gates_none = refl

  pub gates_more : (at : ℕ) (gate : Gate) → (if has_gate d rung at then Some (gate_at d rung at) else None) ≡ Some gate
      → gates_before d rung (at + 1) ≡ gates_before d rung at ++ gate ∷ []
  unfolding gates_before
  gates_more at gate h = rw (add-one) (taken (has_gate d rung at) _ _ _ h)

  pub gates_same : (at : ℕ) → (if has_gate d rung at then Some (gate_at d rung at) else None) ≡ None → gates_before d rung (at + 1) ≡ gates_before d rung at
  unfolding gates_before
  gates_same at h = rw (add-one) (not_taken (has_gate d rung at) _ _ h)

  pub actions_none : [] ≡ actions_before d rung 0
  unfolding actions_before
  actions_none = refl

  pub actions_more : (at : ℕ) (action : Action) → (if acts (cell_of d rung at) then Some (action_at d rung at) else None) ≡ Some action
      → actions_before d rung (at + 1) ≡ actions_before d rung at ++ action ∷ []
  unfolding actions_before
  actions_more at action h = rw (add-one) (taken (acts (cell_of d rung at)) _ _ _ h)

  pub actions_same : (at : ℕ) → (if acts (cell_of d rung at) then Some (action_at d rung at) else None) ≡ None → actions_before d rung (at + 1) ≡ actions_before d rung at
  unfolding actions_before
  actions_same at h = rw (add-one) (not_taken (acts (cell_of d rung at)) _ _ h)

pub last_none : (f : ℕ → Bool) (base : ℕ) → OFF ≡ last_of f base 0
unfolding last_of
last_none f base = refl

pub last_here : (f : ℕ → Bool) (base n : ℕ) → f n ≡ true → last_of f base (n + 1) ≡ base + n
unfolding last_of
last_here f base n h = rw (add-one, h) refl

pub last_before : (f : ℕ → Bool) (base n : ℕ) → f n ≡ false → last_of f base (n + 1) ≡ last_of f base n
unfolding last_of
last_before f base n h = rw (add-one, h) refl

pub ruleset last_step = (last_none, last_here, last_before)

pub ruleset rung_step = (gates_none, gates_more, gates_same, actions_none, actions_more, actions_same)

-- ---- steps

pub turns_none : (d : Drawing) (n : ℕ) → false ≡ turns_before d n 0
unfolding turns_before
turns_none d n = refl

pub turns_more : (d : Drawing) (n i : ℕ) → turns_before d n (i + 1) ≡ (turns_before d n i || turned_by n i (jump_of d i))
unfolding turns_before
turns_more d n i = rw (add-one) refl

pub steps_none : (d : Drawing) → [] ≡ steps_below d 0
unfolding steps_below
steps_none d = refl

pub steps_more : (d : Drawing) (n : ℕ) → steps_below d (n + 1) ≡ steps_below d n ++ rung_steps d n
unfolding steps_below
steps_more d n = rw (add-one) refl

pub ruleset steps_step = (turns_none, turns_more, steps_none, steps_more)

pub four_parts : {A : Type 0} (before one two three all a b c d : List A) → one ≡ before ++ a → two ≡ one ++ b → three ≡ two ++ c → all ≡ three ++ d
    → all ≡ before ++ (a ++ (b ++ (c ++ d)))
four_parts before one two three all a b c d h i j k =
    k
    ∙ ap (λ xs. xs ++ d) (j ∙ ap (λ xs. xs ++ c) (i ∙ ap (λ xs. xs ++ b) h))
    ∙ append_assoc ((before ++ a) ++ b) c d
    ∙ append_assoc (before ++ a) b (c ++ d)
    ∙ append_assoc before a (b ++ (c ++ d))

pub same_parts : (d : Drawing) (rung : ℕ) (before all : List Step) (turns : Bool) (gates actions : List Step) (exit : Option Exit)
    → turns ≡ turns_before d rung rung → gates ≡ map (gate_step d rung) (gates_of d rung) → exit ≡ exit_of d rung
    → actions ≡ filter_map (λ a. action_step rung a a.cell) (actions_of d rung)
    → all ≡ before ++ (turn_steps rung turns ++ (gates ++ (exit_steps rung exit ++ actions))) → all ≡ before ++ rung_steps d rung
same_parts d rung before all turns gates actions exit t g e a h =
    h
    ∙ ap (λ xs. before ++ xs)
    (ap₂ (λ x y. turn_steps rung x ++ y) t (ap₂ (λ x y. x ++ y) g (ap₂ (λ x y. exit_steps rung x ++ y) e a)))
