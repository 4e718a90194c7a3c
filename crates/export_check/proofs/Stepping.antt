-- One rung.
use Rattle.std.proofs.Common.{◌≡◌, ℕ, ◌+◌, ◌<◌, ◌≤◌, ◌==◌, Bool, true, false, ◌&&◌, ◌||◌, if◌then◌else◌, nat_lt, List, length, set, refl, sym, ap, subst, ◌∙◌, arith, inl, inr, Option, Some, None, get_or-set_other, length-set}
use Rattle.std.proofs.lemmas.Bool.{lt-ltb, le-ltb}
use Rattle.std.proofs.lemmas.Bool.Decides.{nat_tests}
use Rattle.diagram_program.specs.Program.{Drawing, jump_of}
use Rattle.scan_cycle.specs.Cells.{place_at}
use Rattle.scan_cycle.specs.Rung.{Held, evaluated, link_at}
use Rattle.scan_cycle.specs.Scan.{next_rung}
use Rattle.scan_cycle.specs.Programs.{diagram_of}
use Rattle.st_statements.specs.declared.statement.StatementList.{StatementList}
use Rattle.st_statements.specs.Run.{ran, run}
use Rattle.draw_check.specs.Steps.{Reaches}
use Rattle.draw_check.proofs.Acted.{next_below, next_there}
use Rattle.draw_check.proofs.Arriving.{one_rung}
use Rattle.draw_check.proofs.Taking.{is_rung}
use Rattle.export_rungs.specs.Rungs.{AreAt, Does, Leaves}
use Rattle.export_check.specs.declared.jumps.Jump.{Jump}
use Rattle.export_check.specs.Course.{AreBefore, AreDue, IsStep, Onward, goes, returns}
use Rattle.export_check.specs.Jumps.{Counts, IsNumbered, is_over, passes}
use Rattle.export_check.proofs.Over.{set_over}

abbrev either_of : Bool → Type 0 → Type 0 → Type 0
either_of b A B = elim b [ true ↦ A | false ↦ B ]

if_true : (b : Bool) (A B : Type 0) → either_of b A B → b ≡ true → A
if_true true A B x t = x
if_true false A B x t = cc

if_false : (b : Bool) (A B : Type 0) → either_of b A B → b ≡ false → B
if_false true A B x t = cc
if_false false A B x t = x

module _ (jumps : List Jump) (flags : List Bool) (rung number : ℕ) (due : AreDue jumps flags rung number rung) where
  pub aside : (i : ℕ) → rung ≤ i → is_over jumps flags i ≡ false
  aside i le = sym (due.over i le) ∙ le-ltb i rung le

  pub due_below : AreDue jumps flags (rung + 1) number (rung + 1)
  due_below = record {
    many = due.many;
    down = omega arith;
    later = due.later;
    over = λ i le. le-ltb i (rung + 1) le ∙ sym (aside i (omega (arith, le)));
  }

  module _ (target : ℕ) (numbered : IsNumbered jumps rung number target) (on : Bool) where
    set_aside : (i : ℕ) → rung ≤ i → is_over jumps (set flags number on) i ≡ (on && passes i numbered.jump)
    set_aside i le =
        set_over jumps flags i number numbered.jump on due.many numbered.is (due.later number (omega arith))
        ∙ ap (λ b. (on && passes i numbered.jump) || b) (aside i le)
        ∙ or_false (on && passes i numbered.jump)
      where
        or_false : (b : Bool) → (b || false) ≡ b
        or_false true = refl
        or_false false = refl

    passed : (i : ℕ) (b : Bool) → rung + 1 ≤ i → nat_lt i (if b then target else rung + 1) ≡ (b && passes i numbered.jump)
    passed i true le =
        ap (λ t. nat_lt i t) (sym numbered.to)
        ∙ sym (ap (λ b. b && nat_lt i numbered.jump.target) (lt-ltb numbered.jump.rung i (omega (arith, le, numbered.from))))
    passed i false le = le-ltb i (rung + 1) le

    pub due_there : AreDue jumps (set flags number on) (rung + 1) (number + 1) (if on then target else rung + 1)
    due_there = record {
      many = length-set flags number on ∙ due.many;
      down = down on;
      later = λ i le. get_or-set_other flags number i on false (omega (arith, le)) ∙ due.later i (omega (arith, le));
      over = λ i le. passed i on le ∙ sym (set_aside i (omega (arith, le)));
    }
      where
        down : (b : Bool) → rung + 1 ≤ (if b then target else rung + 1)
        down true = omega (arith, numbered.down)
        down false = omega arith

    pub still_aside : is_over jumps (set flags number on) rung ≡ false
    still_aside =
        set_aside rung (omega arith)
        ∙ ap (λ b. on && (b && nat_lt rung numbered.jump.target)) (le-ltb numbered.jump.rung rung (omega (arith, numbered.from)))
        ∙ and_false on
      where
        and_false : (b : Bool) → (b && false) ≡ false
        and_false true = refl
        and_false false = refl

module _ (d : Drawing) (variables : ℕ) (jumps : List Jump) (rung number : ℕ) (list rest : StatementList) (lt : rung < d.rungs)
    (does : Does d variables (length jumps) rung number list rest) where
  goes_below : (now : ℕ) (g : Held) (k : ℕ) → next_rung (diagram_of d) now rung g ≡ k → Reaches (diagram_of d) now rung g k (evaluated (diagram_of d) now rung g)
  goes_below now g k next = one_rung (diagram_of d) now rung k g (evaluated (diagram_of d) now rung g) (is_rung d rung lt) next refl

  step_none : jump_of d rung ≡ None → IsStep d variables jumps rung number list (rung + 1) number rest
  step_none none = record {
    moves = λ now flags g h before.
        let done = does now g h flags before.due.many before.at in
        let left = subst (Leaves d variables now rung number flags list rest g h done.0) none done.1 in
        goes flags (rung + 1) (evaluated (diagram_of d) now rung g) done.0 (record { due = due_below jumps flags rung number before.due; at = left.0 })
        (aside jumps flags rung number before.due rung (omega arith)) (goes_below now g (rung + 1) (next_below d now rung g none)) left.1;
    next = refl;
    more = omega arith;
  }

  module _ (row column target : ℕ) (jump : jump_of d rung ≡ Some (row, column, target)) where
    return_by : (now : ℕ) (flags : List Bool) (g h after : Held) (taken : Bool) → target ≡ d.rungs → AreBefore d variables jumps flags rung number rung g h
        → link_at (diagram_of d) now rung g (place_at row column) ≡ taken → AreAt d variables flags (evaluated (diagram_of d) now rung g) after
        → run d.decls.instances now list h ≡ (if taken then ran true after else run d.decls.instances now rest after)
        → Onward d variables jumps now list rest rung (rung + 1) number g h
    return_by now flags g h after true last before link at is =
        returns after is
        (record {
          rung = target;
          last = evaluated (diagram_of d) now rung g;
          behind = omega (arith, last);
          reaches = goes_below now g target (next_there d now rung row column target g jump ∙ ap (λ (b : Bool). if b then target else rung + 1) link);
          matched = at.matched;
        })
    return_by now flags g h after false last before link at is =
        goes flags (rung + 1) (evaluated (diagram_of d) now rung g) after (record { due = due_below jumps flags rung number before.due; at = at })
        (aside jumps flags rung number before.due rung (omega arith))
        (goes_below now g (rung + 1) (next_there d now rung row column target g jump ∙ ap (λ (b : Bool). if b then target else rung + 1) link)) is

    step_return : target ≡ d.rungs → IsStep d variables jumps rung number list (rung + 1) number rest
    step_return last = record {
      moves = λ now flags g h before.
          let done = does now g h flags before.due.many before.at in
          let taken = link_at (diagram_of d) now rung g (place_at row column) in
          let there = subst (Leaves d variables now rung number flags list rest g h done.0) jump done.1 in
          let left = if_true (target == d.rungs) _ _ there (same target last) in
          return_by now flags g h done.0 taken last before refl left.0 left.1;
      next = refl;
      more = omega arith;
    }
      where
        same : (target : ℕ) → target ≡ d.rungs → (target == d.rungs) ≡ true
        same target e = grind (arith, nat_tests)

    step_jump : (target ≡ d.rungs → ⊥) → IsNumbered jumps rung number target → IsStep d variables jumps rung number list (rung + 1) (number + 1) rest
    step_jump other numbered = record {
      moves = λ now flags g h before.
          let done = does now g h flags before.due.many before.at in
          let taken = link_at (diagram_of d) now rung g (place_at row column) in
          let there = subst (Leaves d variables now rung number flags list rest g h done.0) jump done.1 in
          let left = if_false (target == d.rungs) _ _ there (differs target other) in
          goes (set flags number taken) (if taken then target else rung + 1) (evaluated (diagram_of d) now rung g) done.0
          (record { due = due_there jumps flags rung number before.due target numbered taken; at = left.0 })
          (still_aside jumps flags rung number before.due target numbered taken)
          (goes_below now g (if taken then target else rung + 1) (next_there d now rung row column target g jump)) left.1;
      next = refl;
      more = omega arith;
    }
      where
        differs : (target : ℕ) → (target ≡ d.rungs → ⊥) → (target == d.rungs) ≡ false
        differs target e = grind (arith, nat_tests)

  step_of : (next : ℕ) (jump : Option (ℕ × ℕ × ℕ)) → jump_of d rung ≡ jump → Counts jumps d.rungs rung number next jump → IsStep d variables jumps rung number list (rung + 1) next rest
  unfolding Counts
  step_of next None is counts = subst (λ (n : ℕ). IsStep d variables jumps rung number list (rung + 1) n rest) (sym counts) (step_none is)
  step_of next (Some (row, column, target)) is (inl c) = subst (λ (n : ℕ). IsStep d variables jumps rung number list (rung + 1) n rest) (sym c.1) (step_return row column target is c.0)
  step_of next (Some (row, column, target)) is (inr c) = subst (λ (n : ℕ). IsStep d variables jumps rung number list (rung + 1) n rest) (sym c.1) (step_jump row column target is c.0 c.2)

  pub step_by : (next : ℕ) → Counts jumps d.rungs rung number next (jump_of d rung) → IsStep d variables jumps rung number list (rung + 1) next rest
  step_by next counts = step_of next (jump_of d rung) refl counts
