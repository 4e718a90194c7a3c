-- From rung to rung, and along the rungs of an IF.
use Rattle.std.proofs.Common.{◌≡◌, ℕ, ◌+◌, ◌<◌, ◌≤◌, Bool, true, false, not, if◌then◌else◌, nat_lt, All, List, length, refl, sym, subst, ◌∙◌, arith}
use Rattle.std.proofs.lemmas.Bool.{ltb-true}
use Rattle.std.proofs.lemmas.Bool.Decides.{nat_tests}
use Rattle.diagram_program.specs.Program.{Drawing, memories_of}
use Rattle.scan_cycle.specs.Rung.{Held}
use Rattle.scan_cycle.specs.Programs.{diagram_of}
use Rattle.st_expression.specs.declared.expression.Expression.{Expression}
use Rattle.st_statements.specs.declared.statement.StatementList.{StatementList}
use Rattle.st_statements.specs.declared.statement.StatementList.TheVariants.{End, Select'}
use Rattle.st_statements.specs.Run.{Ran, run}
use Rattle.draw_check.specs.Groups.{IsSelection}
use Rattle.draw_check.specs.Steps.{Reaches, here}
use Rattle.draw_check.proofs.Arriving.{reaches_on}
use Rattle.export_rungs.specs.Rungs.{AreAt}
use Rattle.export_check.specs.declared.jumps.Jump.{Jump}
use Rattle.export_check.specs.Course.{AreBefore, AreDue, Ends, Exports, IsBody, IsStep, Leads, Moves, Onward, goes, returns}
use Rattle.export_check.specs.Flags.{AreShown, IsGuard}
use Rattle.export_check.specs.Jumps.{IsAlike, IsAside, is_over}
use Rattle.export_check.proofs.Over.{alike_over, none_over}

-- no rung is passed over where no jump passes over it
due_now : (jumps : List Jump) (flags : List Bool) (rung number next : ℕ) → AreDue jumps flags rung number next → is_over jumps flags rung ≡ false → next ≡ rung
due_now jumps flags rung number next due none = by (due.over rung (omega arith) ∙ none) due.down
  where
    by : nat_lt rung next ≡ false → rung ≤ next → next ≡ rung
    by t le = grind (arith, nat_tests)

module _ (d : Drawing) (variables : ℕ) (jumps : List Jump) where
  -- ---- to the end
  ends_on : (now from next : ℕ) (g last : Held) (r : Ran) → Reaches (diagram_of d) now from g next last → Ends d variables now next last r → Ends d variables now from g r
  ends_on now from next g last r first ends = record {
    rung = ends.rung;
    last = ends.last;
    behind = ends.behind;
    reaches = reaches_on (diagram_of d) now from next ends.rung g last ends.last first ends.reaches;
    matched = ends.matched;
  }

  onward_ends : (now : ℕ) (list rest : StatementList) (from rung number : ℕ) (g h : Held) → Onward d variables jumps now list rest from rung number g h
      → Exports d variables jumps rung number rest → Ends d variables now from g (run d.decls.instances now list h)
  onward_ends now list rest from rung number g h (returns after is ends) exports = subst (Ends d variables now from g) (sym is) ends
  onward_ends now list rest from rung number g h (goes flags next last after before still reaches is) exports =
      subst (Ends d variables now from g) (sym is) (ends_on now from next g last _ reaches (exports now flags next last after before))

  pub end_by : (rung number : ℕ) (list : StatementList) → d.rungs ≤ rung → list ≡ End → Exports d variables jumps rung number list
  unfolding run
  end_by rung number list behind empty = λ now flags next g h before.
      subst (λ (l : StatementList). Ends d variables now next g (run d.decls.instances now l h)) (sym empty)
      (record { rung = next; last = g; behind = omega (arith, behind, before.due.down); reaches = here next g; matched = before.at.matched })

  -- ---- a rung that no jump passes over
  pub lead_step : (rung number below next : ℕ) (list rest : StatementList) → All (IsAside rung) jumps → IsStep d variables jumps rung number list below next rest
      → Leads d variables jumps rung number list below next rest
  lead_step rung number below next list rest none step = λ exports now flags resume g h before.
      let same = due_now jumps flags rung number resume before.due (none_over jumps flags rung none) in
      let here = subst (λ (k : ℕ). AreBefore d variables jumps flags rung number k g h) same before in
      subst (λ (k : ℕ). Ends d variables now k g (run d.decls.instances now list h)) (sym same)
      (onward_ends now list rest rung below next g h (step.moves now flags g h here) exports)

  -- ---- the rungs of a body
  pub body_one : (rung number below next : ℕ) (list rest : StatementList) → IsStep d variables jumps rung number list below next rest → rest ≡ End
      → IsBody d variables jumps rung number list below next
  body_one rung number below next list rest step empty = record {
    moves = subst (λ (l : StatementList). Moves d variables jumps rung number list below next l) empty step.moves;
    more = step.more;
    last = rung;
    ends = step.next;
    down = omega arith;
    alike = λ flags. refl;
  }

  onward_on : (now : ℕ) (list rest : StatementList) (rung below next end above : ℕ) (g h : Held) → All (IsAlike rung below) jumps
      → Onward d variables jumps now list rest rung below next g h → Moves d variables jumps below next rest end above End
      → Onward d variables jumps now list End rung end above g h
  onward_on now list rest rung below next end above g h alike (returns after is ends) moves = returns after is ends
  onward_on now list rest rung below next end above g h alike (goes flags resume last after before still reaches is) moves =
      let same = due_now jumps flags below next resume before.due (sym (alike_over jumps flags rung below alike) ∙ still) in
      on (moves now flags last after (subst (λ (k : ℕ). AreBefore d variables jumps flags below next k last after) same before))
      (subst (λ (k : ℕ). Reaches (diagram_of d) now rung g k last) same reaches)
    where
      on : Onward d variables jumps now rest End below end above last after → Reaches (diagram_of d) now rung g below last
          → Onward d variables jumps now list End rung end above g h
      on (returns final returned ends) reached = returns final (is ∙ returned) (ends_on now rung below g last _ reached ends)
      on (goes others further final left next_before later more ended) reached =
          goes others further final left next_before (alike_over jumps others rung below alike ∙ later)
          (reaches_on (diagram_of d) now rung below further g last final reached more) (is ∙ ended)

  pub body_more : (rung number below next end above : ℕ) (list rest : StatementList) → IsStep d variables jumps rung number list below next rest
      → All (IsAlike rung below) jumps → IsBody d variables jumps below next rest end above → IsBody d variables jumps rung number list end above
  body_more rung number below next end above list rest step alike body = record {
    moves = λ now flags g h before. onward_on now list rest rung below next end above g h alike (step.moves now flags g h before) body.moves;
    more = omega (arith, step.more, body.more);
    last = body.last;
    ends = body.ends;
    down = omega (arith, body.down, step.next);
    alike = λ flags. body.alike flags ∙ sym (alike_over jumps flags rung below alike);
  }

  -- ---- an IF
  shown : (flags : List Bool) (g h : Held) → length flags ≡ length jumps → AreAt d variables flags g h → AreShown (length d.decls.vars + memories_of d) jumps flags h.values
  shown flags g h many at = record { many = many; each = at.flagged.each }

  -- the rungs of the body are passed over
  due_behind : (flags : List Bool) (rung number next end above : ℕ) (body : StatementList) → AreDue jumps flags rung number next
      → IsBody d variables jumps rung number body end above → is_over jumps flags rung ≡ true → AreDue jumps flags end above next
  due_behind flags rung number next end above body due is over = record {
    many = due.many;
    down = down (ltb-true is.last next (due.over is.last is.down ∙ is.alike flags ∙ over));
    later = λ i le. due.later i (omega (arith, le, is.more));
    over = λ i le. due.over i (omega (arith, le, is.down, is.ends));
  }
    where
      down : is.last < next → end ≤ next
      down lt = omega (arith, lt, is.ends)

  arm_ends : (now : ℕ) (body next : StatementList) (from rung number : ℕ) (g h : Held) → Onward d variables jumps now body End from rung number g h
      → Exports d variables jumps rung number next
      → Ends d variables now from g (let arm = run d.decls.instances now body h in if arm.has_returned then arm else run d.decls.instances now next arm.held)
  unfolding run
  arm_ends now body next from rung number g h (returns after is ends) exports =
      subst (λ (arm : Ran). Ends d variables now from g (if arm.has_returned then arm else run d.decls.instances now next arm.held)) (sym is) ends
  arm_ends now body next from rung number g h (goes flags resume last after before still reaches is) exports =
      subst (λ (arm : Ran). Ends d variables now from g (if arm.has_returned then arm else run d.decls.instances now next arm.held)) (sym is)
      (ends_on now from resume g last _ reaches (exports now flags resume last after before))

  module _ (rung number end above : ℕ) (guard : Expression) (body next : StatementList)
      (guards : IsGuard (length d.decls.vars + memories_of d) jumps rung guard) (is : IsBody d variables jumps rung number body end above)
      (exports : Exports d variables jumps end above next) where
    select_at : (now : ℕ) (flags : List Bool) (resume : ℕ) (g h : Held) (over : Bool) → AreBefore d variables jumps flags rung number resume g h
        → is_over jumps flags rung ≡ over
        → Ends d variables now resume g
        (let arm = if not over then run d.decls.instances now body h else run d.decls.instances now End h in
        if arm.has_returned then arm else run d.decls.instances now next arm.held)
    unfolding run
    select_at now flags resume g h true before over =
        exports now flags resume g h (record { due = due_behind flags rung number resume end above body before.due is over; at = before.at })
    select_at now flags resume g h false before over =
        let same = due_now jumps flags rung number resume before.due over in
        let here = subst (λ (k : ℕ). AreBefore d variables jumps flags rung number k g h) same before in
        subst (λ (k : ℕ). Ends d variables now k g (let arm = run d.decls.instances now body h in if arm.has_returned then arm else run d.decls.instances now next arm.held)) (sym same)
        (arm_ends now body next rung end above g h (is.moves now flags g h here) exports)

    select_ends : (p q r : _) → Exports d variables jumps rung number (Select' guard p body q End r next)
    unfolding run
    select_ends p q r = λ now flags resume g h before.
        subst
        (λ (b : Bool). Ends d variables now resume g
        (let arm = if b then run d.decls.instances now body h else run d.decls.instances now End h in
        if arm.has_returned then arm else run d.decls.instances now next arm.held))
        (sym (guards h flags (shown flags g h before.due.many before.at))) (select_at now flags resume g h (is_over jumps flags rung) before refl)

  pub lead_select : (rung number end above first : ℕ) (guard : Expression) (body next list : StatementList) → first ≡ length d.decls.vars + memories_of d
      → IsSelection guard body End next list → IsGuard first jumps rung guard → IsBody d variables jumps rung number body end above
      → Leads d variables jumps rung number list end above next
  lead_select rung number end above first guard body next list begins selection guards is = λ exports.
      subst (λ (l : StatementList). Exports d variables jumps rung number l) (sym selection.3)
      (select_ends rung number end above guard body next (subst (λ (n : ℕ). IsGuard n jumps rung guard) begins guards) is exports selection.0 selection.1 selection.2)

  pub body_below : (from number end above : ℕ) (list : StatementList) → IsBody d variables jumps from number list end above → from < end
  body_below from number end above list is = omega (arith, is.ends, is.down)
