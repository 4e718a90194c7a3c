-- What single steps do, and that they look at what is there.
use Rattle.std.proofs.Common.{◌≡◌, ℕ, ◌+◌, ◌<◌, ◌≤◌, ◌*◌, ◌&&◌, Bool, true, false, cond, List, [], ◌∷◌, All, map, length, filter_map, set, zero, suc, nat_lt, refl, sym, ap, ◌∙◌, arith, Option, Some, None, inl, inr, subst}
use Rattle.std.specs.List.{cons_option}
use Rattle.std.proofs.lemmas.Bool.{cases_Bool, cond-true, cond-false}
use Rattle.std.proofs.lemmas.List.Elements.{All-append, All-nil, All-cons}
use Rattle.diagram_program.specs.declared.geometry.TheConstants.{ROWS, PLACES}
use Rattle.diagram_program.specs.declared.mode.Mode.{Mode}
use Rattle.diagram_program.specs.declared.mode.Mode.TheVariants as mode
use Rattle.diagram_program.specs.declared.mode.CoilMode.{CoilMode}
use Rattle.diagram_program.specs.declared.mode.CoilMode.TheVariants as coil
use Rattle.diagram_program.specs.declared.cell.Operand.{Operand}
use Rattle.diagram_program.specs.declared.cell.Operand.TheVariants as operand
use Rattle.diagram_program.specs.declared.cell.Cell.{Cell}
use Rattle.diagram_program.specs.declared.cell.Cell.TheVariants as cell
use Rattle.diagram_program.specs.declared.gates.TheConstants.{OWN}
use Rattle.diagram_program.specs.declared.gates.Gate.{Gate}
use Rattle.diagram_program.specs.declared.gates.Action.{Action}
use Rattle.diagram_program.specs.declared.gates.Literal.{Literal}
use Rattle.diagram_program.specs.declared.gates.Literal.TheVariants as literal
use Rattle.diagram_program.specs.declared.steps.Step.{Step}
use Rattle.diagram_program.specs.declared.steps.Step.TheVariants as step
use Rattle.diagram_program.specs.declared.steps.Rare.{Rare}
use Rattle.diagram_program.specs.declared.steps.Rare.TheVariants.{End, Leave, Turn}
use Rattle.diagram_program.specs.Program.{Drawing, cell_of, jump_of, Fits, OperandFits, IsWellFormed}
use Rattle.diagram_declarations.specs.Decls.{Declared}
use Rattle.diagram_program.specs.Gates.{literal_on, literal_of, has_gate, gate_at, gates_before, acts, action_at, actions_before, gates_of, actions_of, left_of, exit_by, exit_of}
use Rattle.diagram_program.specs.Steps.{spot_of, own_step, edge_step, contact_step, cell_step, literal_step, gate_step, coil_step, act_step, action_step, turns_before, turn_steps, exit_steps, rung_steps, steps_below}
use Rattle.scan_signals.specs.Algebra.{Algebra}
use Rattle.scan_cycle.specs.Cells.{Diagram, Frame, Kept}
use Rattle.scan_cycle.specs.Programs.{diagram_of, IsSound}
use Rattle.scan_cycle.specs.Gating.{among, own, through, kept_by, is_other, passed, ran, IsInside, IsPlaced}
use Rattle.scan_symbolic.specs.Gating.{acted, effects_of}
use Rattle.scan_symbolic.specs.Stepping.{Going, going, keeping, gone, all_gone, IsSpot, IsWithin}
use Rattle.scan_cycle.proofs.Feeders.{cell_is}
use Rattle.scan_cycle.proofs.GateLaws.{left_inside, gates_inside, all_one}
use Rattle.scan_cycle.proofs.Sound.{placed}
use Rattle.scan_symbolic.proofs.Acting.{HasCell}
use Rattle.scan_cycle.proofs.Acting.{places}

module _ {S : Type 0} (o : Algebra S) (p : Drawing) (k : Kept) (now n : ℕ) (f : Frame S) (taken : List S) (guard : S) where
  abbrev d_ : Diagram
  d_ = diagram_of p

  -- ---- gates
  abbrev after : List S → Going S
  after links = going f taken links guard

  module _ (links : List S) (g : Gate) where
    abbrev x : S
    x = among o links g.left

    abbrev y : S
    y = among o links g.below

    -- the step of a cell does what its gate does
    abbrev Does : Rare → Cell → Type 0
    Does s c = gone o p k now (step.Rare s) (after links) ≡ after (keeping o links (spot_of g) (own o d_ k now f c x y))

    by_cell : (c : Cell) → d_.cell n g.place ≡ c → Does (own_step n g) c
    by_cell c h = ap (λ (e : Cell). after (keeping o links (spot_of g) (own o d_ k now f e x y))) h

    either : (b : Bool) (s t : Rare) (c : Cell) → Does s c → Does t c → Does (cond b s t) c
    either true s t c h i = h
    either false s t c h i = i

    by_edge : (m : Mode) (var memory : ℕ) → d_.cell n g.place ≡ cell.Contact m (operand.Var var) (Some memory)
        → Does (edge_step n g m var memory) (cell.Contact m (operand.Var var) (Some memory))
    by_edge mode.Plain var memory h = by_cell _ h
    by_edge mode.Negated var memory h = by_cell _ h
    by_edge mode.Rising var memory h = refl
    by_edge mode.Falling var memory h = refl

    by_contact : (m : Mode) (z : Operand) (memory : Option ℕ) → d_.cell n g.place ≡ cell.Contact m z memory → Does (contact_step n g m z memory) (cell.Contact m z memory)
    by_contact m (operand.Var var) (Some memory) h = either (nat_lt var 65536 && nat_lt memory 65536) _ _ (cell.Contact m (operand.Var var) (Some memory)) (by_edge m var memory h) (by_cell _ h)
    by_contact m (operand.Var var) None h = by_cell _ h
    by_contact m (operand.Output inst) memory h = by_cell _ h

    by_step : (c : Cell) → d_.cell n g.place ≡ c → Does (cell_step n g c) c
    by_step cell.Wire h = refl
    by_step (cell.Contact m z memory) h = by_contact m z memory h
    by_step (cell.Block inst) h = either (nat_lt inst 65536) _ _ (cell.Block inst) refl (by_cell _ h)
    by_step _ h = by_cell _ h

    by_literal : (t : Literal) (c : Cell) → d_.cell n g.place ≡ c
        → gone o p k now (literal_step n g c t) (after links)
        ≡ after (set (cond (is_other t) (set links (OWN + g.place) (through o d_ k now f t c x y)) links) g.place (o.join (through o d_ k now f t c x y) (among o links g.other)))
    by_literal (literal.Is var) c h = refl
    by_literal (literal.Not var) c h = refl
    by_literal literal.Other c h = by_step c h

    one_gate : g.place < PLACES → gone o p k now (gate_step p n g) (after links) ≡ after (passed o d_ k now n f links g)
    one_gate h =
        let same = cell_is p n g.place h in
        by_literal g.literal (cell_of p n g.place) same
        ∙ ap (λ (c : Cell). after (kept_by o links g (through o d_ k now f g.literal c x y))) (sym same)

  rest : {A : Type 0} (P : A → Type 0) (a : A) (more : List A) → All P (a ∷ more) → All P more
  rest P a more h = λ i b lt. h (suc i) b (omega (arith, lt))

  pub gates_gone : (gs : List Gate) (links : List S) → All IsInside gs → all_gone o p k now (map (gate_step p n) gs) (after links) ≡ after (ran o d_ k now n f gs links)
  unfolding all_gone ran
  gates_gone [] links h = refl
  gates_gone (g ∷ gs) links h =
      ap (all_gone o p k now (map (gate_step p n) gs)) (one_gate links g (h 0 g (omega arith)).0) ∙ gates_gone gs _ (rest IsInside g gs h)

module _ {S : Type 0} (o : Algebra S) (p : Drawing) (k : Kept) (now n : ℕ) (taken links : List S) (guard : S) where
  -- ---- actions
  abbrev left_by : Frame S → Going S
  left_by f = going f taken links guard

  by_act : (a : Action) (c : Cell) (f : Frame S) → (diagram_of p).cell n a.place ≡ c → gone o p k now (step.Rare (act_step n a)) (left_by f) ≡ left_by (acted o k guard links (record a { cell = c }) f)
  by_act a c f h = ap (λ (e : Cell). left_by (acted o k guard links (record a { cell = e }) f)) h

  by_coil : (a : Action) (m : CoilMode) (var : ℕ) (memory : Option ℕ) (f : Frame S) → (diagram_of p).cell n a.place ≡ cell.Coil m var memory
      → gone o p k now (step.Rare (coil_step n a m var)) (left_by f) ≡ left_by (acted o k guard links (record a { cell = cell.Coil m var memory }) f)
  by_coil a coil.Inverse var memory f h = by_act a _ f h
  by_coil a coil.Rising var memory f h = by_act a _ f h
  by_coil a coil.Falling var memory f h = by_act a _ f h
  by_coil a _ var memory f h = refl

  chosen : (b : Bool) (s t : Rare) (g h : Going S) → gone o p k now (step.Rare s) g ≡ h → gone o p k now (step.Rare t) g ≡ h → gone o p k now (step.Rare (cond b s t)) g ≡ h
  chosen true s t g h i j = i
  chosen false s t g h i j = j

  one_action : (a : Action) (c : Cell) (f : Frame S) (ss : List Step) → (diagram_of p).cell n a.place ≡ c
      → all_gone o p k now (cons_option (action_step n a c) ss) (left_by f) ≡ all_gone o p k now ss (left_by (acted o k guard links (record a { cell = c }) f))
  unfolding all_gone
  one_action a (cell.Coil m var memory) f ss h =
      ap (all_gone o p k now ss) (chosen (nat_lt var 65536) (coil_step n a m var) (act_step n a) (left_by f) _ (by_coil a m var memory f h) (by_act a _ f h))
  one_action a (cell.Block inst) f ss h = ap (all_gone o p k now ss) (chosen (nat_lt inst 65536) _ (act_step n a) (left_by f) _ refl (by_act a _ f h))
  one_action a _ f ss h = refl

  pub actions_gone : (more : List Action) (f : Frame S) → All (HasCell p n) more
      → all_gone o p k now (filter_map (λ a. action_step n a a.cell) more) (left_by f) ≡ left_by (effects_of o k guard links more f)
  unfolding all_gone effects_of
  actions_gone [] f h = refl
  actions_gone (a ∷ more) f h =
      one_action a a.cell f (filter_map (λ a. action_step n a a.cell) more) (h 0 a (omega arith))
      ∙ actions_gone more _ (λ i b lt. h (suc i) b (omega (arith, lt)))

-- ---- what steps look at
jump_is : (p : Drawing) (n : ℕ) → placed (jump_of p n) ≡ (diagram_of p).jump n
unfolding diagram_of
jump_is p n = refl

-- ---- variables of contacts
abbrev HasVar : ℕ → Literal → Type 0
HasVar vars (literal.Is var) = var < vars
HasVar vars (literal.Not var) = var < vars
HasVar vars literal.Other = Unit {0}

chosen_var : (vars var : ℕ) (b : Bool) → var < vars → HasVar vars (cond b (literal.Is var) literal.Other) × HasVar vars (cond b (literal.Not var) literal.Other)
chosen_var vars var true h = (h, h)
chosen_var vars var false h = (tt, tt)

contact_var : (decls : Declared) (m : Mode) (z : Operand) → OperandFits decls z → HasVar (length decls.vars) (literal_on m z)
contact_var decls mode.Plain (operand.Var var) h = (chosen_var (length decls.vars) var (nat_lt var 65536) h).0
contact_var decls mode.Negated (operand.Var var) h = (chosen_var (length decls.vars) var (nat_lt var 65536) h).1
contact_var decls _ _ h = tt

literal_var : (decls : Declared) (c : Cell) → Fits decls c → HasVar (length decls.vars) (literal_of c)
literal_var decls (cell.Contact m z memory) h = contact_var decls m z h
literal_var decls _ h = tt

abbrev HasCoil : ℕ → Cell → Type 0
HasCoil vars (cell.Coil m var memory) = var < vars
HasCoil vars other = Unit {0}

coil_var : (decls : Declared) (c : Cell) → Fits decls c → HasCoil (length decls.vars) c
coil_var decls (cell.Coil m var memory) h = h.0
coil_var decls _ h = tt

module _ (p : Drawing) (formed : IsWellFormed p) (rung : ℕ) where
  abbrev Knows : Gate → Type 0
  Knows g = HasVar (length p.decls.vars) g.literal

  known_before : (n : ℕ) → All Knows (gates_before p rung n)
  unfolding gates_before
  known_before zero = All-nil _
  known_before (suc n) = elim (cases_Bool (has_gate p rung n)) [
    | inl t ↦ subst (λ (xs : List Gate). All Knows xs) (sym (cond-true (has_gate p rung n) _ _ t))
        (All-append Knows (gates_before p rung n) _ (known_before n) (all_one Knows (gate_at p rung n) (literal_var p.decls (cell_of p rung n) (formed.fits (PLACES * rung + n)))))
    | inr t ↦ subst (λ (xs : List Gate). All Knows xs) (sym (cond-false (has_gate p rung n) _ _ t)) (known_before n)
  ]

  abbrev Writes : Action → Type 0
  Writes a = HasCoil (length p.decls.vars) a.cell

  there_before : (n : ℕ) → All Writes (actions_before p rung n)
  unfolding actions_before
  there_before zero = All-nil _
  there_before (suc n) = elim (cases_Bool (acts (cell_of p rung n))) [
    | inl t ↦ subst (λ (xs : List Action). All Writes xs) (sym (cond-true (acts (cell_of p rung n)) _ _ t))
        (All-append Writes (actions_before p rung n) _ (there_before n) (all_one Writes (action_at p rung n) (coil_var p.decls (cell_of p rung n) (formed.fits (PLACES * rung + n)))))
    | inr t ↦ subst (λ (xs : List Action). All Writes xs) (sym (cond-false (acts (cell_of p rung n)) _ _ t)) (there_before n)
  ]

  pub all_there : All Writes (actions_of p rung)
  unfolding actions_of
  all_there = there_before PLACES

  pub all_known : All Knows (gates_of p rung)
  unfolding gates_of
  all_known = known_before PLACES

module _ (rungs vars n : ℕ) (lt : n < rungs) where
  one_of : (b : Bool) (s t : Rare) → IsWithin rungs vars (step.Rare s) → IsWithin rungs vars (step.Rare t) → IsWithin rungs vars (step.Rare (cond b s t))
  one_of true s t h i = h
  one_of false s t h i = i

  module _ (g : Gate) (inside : IsInside g) where
    at_three : IsSpot (spot_of g)
    at_three = (inside.0, inside.1, inside.3)

    at_cell : IsWithin rungs vars (step.Rare (own_step n g))
    at_cell = (at_three, inside.2, lt)

    edge_within : (m : Mode) (var memory : ℕ) → IsWithin rungs vars (step.Rare (edge_step n g m var memory))
    edge_within mode.Plain var memory = at_cell
    edge_within mode.Negated var memory = at_cell
    edge_within mode.Rising var memory = at_three
    edge_within mode.Falling var memory = at_three

    contact_within : (m : Mode) (z : Operand) (memory : Option ℕ) → IsWithin rungs vars (step.Rare (contact_step n g m z memory))
    contact_within m (operand.Var var) (Some memory) = one_of (nat_lt var 65536 && nat_lt memory 65536) _ _ (edge_within m var memory) at_cell
    contact_within m (operand.Var var) None = at_cell
    contact_within m (operand.Output inst) memory = at_cell

    cell_within : (c : Cell) → IsWithin rungs vars (step.Rare (cell_step n g c))
    cell_within cell.Wire = at_three
    cell_within (cell.Contact m z memory) = contact_within m z memory
    cell_within (cell.Block inst) = one_of (nat_lt inst 65536) _ (own_step n g) (at_three, inside.2) at_cell
    cell_within _ = at_cell

    literal_within : (t : Literal) (c : Cell) → HasVar vars t → IsWithin rungs vars (literal_step n g c t)
    literal_within (literal.Is var) c h = (at_three, h)
    literal_within (literal.Not var) c h = (at_three, h)
    literal_within literal.Other c h = cell_within c

  gates_within : (p : Drawing) (gs : List Gate) → All IsInside gs → All (λ g. HasVar vars g.literal) gs → All (IsWithin rungs vars) (map (gate_step p n) gs)
  gates_within p [] h known = All-nil _
  gates_within p (g ∷ gs) h known =
      All-cons (IsWithin rungs vars) (gate_step p n g) (map (gate_step p n) gs) (literal_within g (h 0 g (omega arith)) g.literal (cell_of p n g.place) (known 0 g (omega arith)))
      (gates_within p gs (λ i b less. h (suc i) b (omega (arith, less))) (λ i b less. known (suc i) b (omega (arith, less))))

  coil_within : (a : Action) → IsPlaced a → (m : CoilMode) (var : ℕ) → var < vars → IsWithin rungs vars (step.Rare (coil_step n a m var))
  coil_within a h coil.Inverse var there = (lt, h.0, h.1)
  coil_within a h coil.Rising var there = (lt, h.0, h.1)
  coil_within a h coil.Falling var there = (lt, h.0, h.1)
  coil_within a h _ var there = (h.1, there)

  action_within : (a : Action) → IsPlaced a → (c : Cell) → HasCoil vars c → (ss : List Step) → All (IsWithin rungs vars) ss → All (IsWithin rungs vars) (cons_option (action_step n a c) ss)
  action_within a h (cell.Coil m var memory) there ss hs =
      All-cons (IsWithin rungs vars) _ ss (one_of (nat_lt var 65536) (coil_step n a m var) (act_step n a) (coil_within a h m var there) (lt, h.0, h.1)) hs
  action_within a h (cell.Block inst) there ss hs =
      All-cons (IsWithin rungs vars) _ ss (one_of (nat_lt inst 65536) (End a.place inst) (act_step n a) h.0 (lt, h.0, h.1)) hs
  action_within a h _ there ss hs = hs

  actions_within : (more : List Action) → All IsPlaced more → All (λ a. HasCoil vars a.cell) more → All (IsWithin rungs vars) (filter_map (λ a. action_step n a a.cell) more)
  actions_within [] h there = All-nil _
  actions_within (a ∷ more) h there =
      action_within a (h 0 a (omega arith)) a.cell (there 0 a (omega arith)) (filter_map (λ a. action_step n a a.cell) more)
      (actions_within more (λ i b less. h (suc i) b (omega (arith, less))) (λ i b less. there (suc i) b (omega (arith, less))))

  turn_within : (b : Bool) → All (IsWithin rungs vars) (turn_steps n b)
  turn_within true = all_one (IsWithin rungs vars) (step.Rare (Turn n)) tt
  turn_within false = All-nil _

  by_jump : (p : Drawing) (jump : Option (ℕ × ℕ × ℕ)) → ((place target : ℕ) → placed jump ≡ Some (place, target) → place < PLACES)
      → All (IsWithin rungs vars) (exit_steps n (exit_by p n jump))
  by_jump p None h = All-nil _
  by_jump p (Some (row, column, target)) h =
      all_one (IsWithin rungs vars) (step.Rare (Leave n (left_of p n (ROWS * column + row)))) (lt, left_inside p n (ROWS * column + row) (h (ROWS * column + row) target refl))

  exit_within : (p : Drawing) → IsSound (diagram_of p) → All (IsWithin rungs vars) (exit_steps n (exit_of p n))
  exit_within p sound = by_jump p (jump_of p n) (λ place target h. (sound.jumps n place target (sym (jump_is p n) ∙ h)).0)

  pub rung_within : (p : Drawing) → IsSound (diagram_of p) → All (λ g. HasVar vars g.literal) (gates_of p n) → All (λ a. HasCoil vars a.cell) (actions_of p n)
      → All (IsWithin rungs vars) (rung_steps p n)
  rung_within p sound known there =
      All-append (IsWithin rungs vars) _ _ (turn_within (turns_before p n n))
      (All-append (IsWithin rungs vars) _ _ (gates_within p (gates_of p n) (gates_inside p n) known)
      (All-append (IsWithin rungs vars) _ _ (exit_within p sound) (actions_within (actions_of p n) (places p n) there)))

within_below : (p : Drawing) → IsSound (diagram_of p) → IsWellFormed p → (n : ℕ) → n ≤ p.rungs → All (IsWithin p.rungs (length p.decls.vars)) (steps_below p n)
unfolding steps_below
within_below p sound formed zero h = All-nil _
within_below p sound formed (suc n) h =
    All-append (IsWithin p.rungs (length p.decls.vars)) (steps_below p n) _ (within_below p sound formed n (omega (arith, h)))
    (rung_within p.rungs (length p.decls.vars) n (omega (arith, h)) p sound (all_known p formed n) (all_there p formed n))

pub all_within : (p : Drawing) → IsSound (diagram_of p) → IsWellFormed p → All (IsWithin p.rungs (length p.decls.vars)) (steps_below p p.rungs)
all_within p sound formed = within_below p sound formed p.rungs (omega arith)
