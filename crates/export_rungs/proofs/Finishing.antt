-- The end of a rung.
use Rattle.std.proofs.Common.{◌≡◌, ℕ, ◌+◌, ◌<◌, ◌==◌, Bool, true, false, if◌then◌else◌, List, length, set, Option, Some, None, refl, sym, ap, subst, ◌∙◌, arith}
use Rattle.diagram_program.specs.declared.gates.Action.{Action}
use Rattle.diagram_program.specs.Gates.{actions_of}
use Rattle.diagram_program.specs.Program.{Drawing, jump_of, memories_of}
use Rattle.scan_cycle.specs.Cells.{place_at}
use Rattle.scan_cycle.specs.Rung.{Held, evaluated, frame_of}
use Rattle.scan_cycle.specs.Programs.{diagram_of}
use Rattle.st_expression.specs.declared.expression.Expression.{Expression}
use Rattle.st_statements.specs.declared.statement.StatementList.{StatementList}
use Rattle.st_statements.specs.declared.statement.StatementList.TheVariants.{Assign', End, Return', Select'}
use Rattle.st_statements.specs.Run.{assigned, ran, run, value_in}
use Rattle.draw_check.proofs.Acted.{evaluated_is}
use Rattle.export_power.specs.declared.known.Known.{Known}
use Rattle.export_rungs.specs.Rungs.{AreAt, Does, Leaves, is_taken}
use Rattle.export_rungs.specs.Forms.{IsAssignment, IsLeave, Memory}
use Rattle.export_rungs.specs.Steps.{Comes, Go, IsBetween, Shows}
use Rattle.export_rungs.proofs.Matched.{at_flag}

abbrev Chosen : (A B : Type 0) → Bool → Type 0
Chosen A B b = elim b [ true ↦ A | false ↦ B ]

chosen_off : (A B : Type 0) (b : Bool) → b ≡ false → B → Chosen A B b
chosen_off A B false t x = x
chosen_off A B true t x = absurd (never t)
  where
    never : true ≡ false → ⊥
    never s = cc

chosen_on : (A B : Type 0) (b : Bool) → b ≡ true → A → Chosen A B b
chosen_on A B true t x = x
chosen_on A B false t x = absurd (never t)
  where
    never : false ≡ true → ⊥
    never s = cc

module _ (d : Drawing) (variables count rung : ℕ) (known : List Known) where
  pub comes_on : (done next : List Action) (first list rest : StatementList) → Comes d variables count rung known done first list
      → Go d variables count rung known done next list rest → Comes d variables count rung known next first rest
  comes_on done next first list rest comes go = λ now g h flags size at.
      let one = comes now g h flags size at in
      let two = go now g one.0 flags size one.1 in
      (two.0, two.1, one.2 ∙ two.2)

  all_done : (now : ℕ) (g h : Held) (flags : List Bool) → IsBetween d variables flags now rung known (actions_of d rung) g h → AreAt d variables flags (evaluated (diagram_of d) now rung g) h
  all_done now g h flags between = subst (λ (s : Held). AreAt d variables flags s h) (sym (evaluated_is d now rung g)) between.at

  pub no_jump : (number : ℕ) (list rest : StatementList) → jump_of d rung ≡ None → Comes d variables count rung known (actions_of d rung) list rest → Does d variables count rung number list rest
  no_jump number list rest none ready = λ now g h flags size at.
      let end = ready now g h flags size at in
      (end.0, subst (λ (o : Option (ℕ × ℕ × ℕ)). Leaves d variables now rung number flags list rest g h end.0 o) (sym none) (all_done now g end.0 flags end.1, end.2))

  module _ (jump : ℕ × ℕ × ℕ) (number : ℕ) (list rest : StatementList) (is : jump_of d rung ≡ Some jump) (e : Expression)
      (shows : Shows d rung (actions_of d rung) known (place_at jump.0 jump.1) e) where
    taken_is : (now : ℕ) (g h : Held) (flags : List Bool) → IsBetween d variables flags now rung known (actions_of d rung) g h → is_taken d now rung g jump ≡ value_in h e
    taken_is now g h flags between = shows g.kept now (frame_of g) (frame_of h) between.sees

    pub jumps : (q : Memory) → (jump.2 == d.rungs) ≡ false → number < count
        → Comes d variables count rung known (actions_of d rung) list (Assign' (length d.decls.vars + memories_of d + number) e q rest) → Does d variables count rung number list rest
    unfolding run
    jumps q down few ready = λ now g h flags size at.
        let end = ready now g h flags size at in
        let h1 = end.0 in
        let v = length d.decls.vars + memories_of d + number in
        let after = assigned v (value_in h1 e) h1 in
        let set_there = at_flag d variables flags number (value_in h1 e) _ h1 (omega (arith, few, size)) (all_done now g h1 flags end.1) in
        let own = subst (λ (b : Bool). AreAt d variables (set flags number b) (evaluated (diagram_of d) now rung g) after) (sym (taken_is now g h1 flags end.1)) set_there in (
          after,
          subst (λ (o : Option (ℕ × ℕ × ℕ)). Leaves d variables now rung number flags list rest g h after o) (sym is)
              (chosen_off _ _ (jump.2 == d.rungs) down (own, end.2)),
        )

    leave_by : (b : Bool) (now : ℕ) (h : Held) (p : Memory) (more : StatementList) →
        (let arm = if b then run d.decls.instances now (Return' p more) h else ran false h in if arm.has_returned then arm else run d.decls.instances now rest arm.held)
        ≡ (if b then ran true h else run d.decls.instances now rest h)
    unfolding run
    leave_by true now h p more = refl
    leave_by false now h p more = refl

    pub returns : (p q r s : Memory) (more : StatementList) → (jump.2 == d.rungs) ≡ true
        → Comes d variables count rung known (actions_of d rung) list (Select' e p (Return' s more) q End r rest) → Does d variables count rung number list rest
    unfolding run
    returns p q r s more down ready = λ now g h flags size at.
        let end = ready now g h flags size at in
        let h1 = end.0 in (
          h1,
          subst (λ (o : Option (ℕ × ℕ × ℕ)). Leaves d variables now rung number flags list rest g h h1 o) (sym is)
              (chosen_on _ _ (jump.2 == d.rungs) down (
                all_done now g h1 flags end.1,
                end.2 ∙ leave_by (value_in h1 e) now h1 s more ∙ ap (λ (b : Bool). if b then ran true h1 else run d.decls.instances now rest h1) (sym (taken_is now g h1 flags end.1)),
              )),
        )

  pub returns_by : (jump : ℕ × ℕ × ℕ) (number : ℕ) (first list rest : StatementList) (e : Expression) → jump_of d rung ≡ Some jump → (jump.2 == d.rungs) ≡ true
      → IsLeave e rest list → Shows d rung (actions_of d rung) known (place_at jump.0 jump.1) e → Comes d variables count rung known (actions_of d rung) first list
      → Does d variables count rung number first rest
  returns_by jump number first list rest e is down leave shows ready =
      let sel = leave.2 in
      let back = leave.1 in
      returns jump number first rest is e shows sel.0 sel.1 sel.2 back.0 back.1 down
      (subst (λ (l : StatementList). Comes d variables count rung known (actions_of d rung) first l) (sel.3 ∙ ap (λ (a : StatementList). Select' e sel.0 a sel.1 End sel.2 rest) back.2) ready)

  pub jumps_by : (jump : ℕ × ℕ × ℕ) (number : ℕ) (first list rest : StatementList) (e : Expression) → jump_of d rung ≡ Some jump → (jump.2 == d.rungs) ≡ false
      → number < count → IsAssignment (length d.decls.vars + memories_of d + number) e rest list → Shows d rung (actions_of d rung) known (place_at jump.0 jump.1) e
      → Comes d variables count rung known (actions_of d rung) first list → Does d variables count rung number first rest
  jumps_by jump number first list rest e is down few begins shows ready =
      jumps jump number first rest is e shows begins.0 down few
      (subst (λ (l : StatementList). Comes d variables count rung known (actions_of d rung) first l) begins.1 ready)
