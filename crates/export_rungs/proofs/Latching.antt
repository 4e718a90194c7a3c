-- Set and reset coils as the assignments of one IF.
use Rattle.std.proofs.Common.{◌≡◌, ℕ, ◌<◌, Bool, true, false, if◌then◌else◌, List, [], ◌∷◌, ◌++◌, length, get_or, None, refl, sym, ap, subst, ◌∙◌, arith}
use Rattle.std.proofs.lemmas.Bool.{eq-eqb}
use Rattle.diagram_program.specs.declared.cell.Cell.TheVariants.{Coil}
use Rattle.diagram_program.specs.declared.gates.Action.{Action}
use Rattle.diagram_program.specs.Program.{Drawing, is_coil_of}
use Rattle.scan_signals.specs.Truth.{plain}
use Rattle.scan_cycle.specs.Cells.{stored_by}
use Rattle.scan_cycle.specs.Rung.{Held, frame_of, link_at}
use Rattle.scan_cycle.specs.Programs.{diagram_of}
use Rattle.st_expression.specs.declared.expression.Expression.{Expression}
use Rattle.st_expression.specs.declared.expression.Operand.{Operand}
use Rattle.st_expression.specs.Value.{value}
use Rattle.st_statements.specs.declared.statement.StatementList.{StatementList}
use Rattle.st_statements.specs.declared.statement.StatementList.TheVariants.{Assign', End, Select'}
use Rattle.st_statements.specs.Run.{Ran, assigned, ran, run, value_in}
use Rattle.draw_check.specs.Acted.{acted_from}
use Rattle.draw_check.specs.Groups.{latch_for}
use Rattle.export_power.specs.declared.known.Known.{Known}
use Rattle.export_power.specs.Sight.{is_block_of}
use Rattle.export_rungs.specs.Rungs.{AreAt}
use Rattle.export_rungs.specs.Forms.{Memory}
use Rattle.export_rungs.specs.Steps.{Go, IsBetween, Latches, Shows, base_of}
use Rattle.export_rungs.proofs.Going.{one_more}
use Rattle.export_rungs.proofs.Entries.{any_one_more, or_first}
use Rattle.export_rungs.proofs.Matched.{at_own, at_value}
use Rattle.export_rungs.proofs.Sight.{others, sees_coil, sees_kept}

latched : (c x m old : Bool) → stored_by plain (latch_for c) x m old ≡ (if x then c else old)
latched true x m old = refl
latched false x m old = refl

module _ (d : Drawing) (variables count rung : ℕ) (known : List Known) (from : List Action) (condition : Expression) where
  pub latch_none : (done : List Action) → Latches d variables count rung known from done done condition End
  unfolding run
  latch_none done = record {
    stays = λ now h. refl;
    goes = λ now g first h flags size begun between. either (value_in first condition) now g h flags done between;
  }
    where
      either : (b : Bool) (now : ℕ) (g h : Held) (flags : List Bool) (done : List Action) → IsBetween d variables flags now rung known done g h
          → IsBetween d variables flags now rung known done g (if b then h else h)
      either true now g h flags done between = between
      either false now g h flags done between = between

  -- one coil, where its link is this
  module _ (done : List Action) (a : Action) (c : Bool) (v : ℕ) (cell : a.cell ≡ Coil (latch_for c) v None) (lt : v < length d.decls.vars) where
    one_latch : (b : Bool) (now : ℕ) (g h : Held) (flags : List Bool) → link_at (diagram_of d) now rung g a.place ≡ b
        → IsBetween d variables flags now rung known done g h → IsBetween d variables flags now rung known (done ++ a ∷ []) g (if b then assigned v c h else h)
    one_latch true now g h flags is between =
        let g1 = acted_from d now rung g done g in
        let same : acted_from d now rung g (done ++ a ∷ []) g ≡ assigned v c g1 =
        one_more d now rung g done a (Coil (latch_for c) v None) cell
        ∙ ap (λ (x : Bool). assigned v x g1) (latched c _ false (get_or g1.values v false) ∙ ap (λ (x : Bool). if x then c else get_or g1.values v false) is) in
        record {
          at = subst (λ (s : Held). AreAt d variables flags s (assigned v c h)) (sym same) (at_value d variables flags v c g1 h lt between.at);
          sees = sees_coil d rung known g.kept now (frame_of g) done a v c h (ap (is_coil_of v) cell ∙ eq-eqb v v refl) (λ i. ap (is_block_of i) cell)
              (others (base_of d (length flags)) v known (omega (arith, lt)) between.high) between.sees;
          rests = λ i t. between.rests i (or_first _ _ (sym (any_one_more (λ (x : Action). is_block_of i x.cell) done a) ∙ t));
          high = between.high;
        }
    one_latch false now g h flags is between =
        let g1 = acted_from d now rung g done g in
        let same : acted_from d now rung g (done ++ a ∷ []) g ≡ assigned v (get_or g1.values v false) g1 =
        one_more d now rung g done a (Coil (latch_for c) v None) cell
        ∙ ap (λ (x : Bool). assigned v x g1) (latched c _ false (get_or g1.values v false) ∙ ap (λ (x : Bool). if x then c else get_or g1.values v false) is) in
        record {
          at = subst (λ (s : Held). AreAt d variables flags s h) (sym same) (at_own d variables flags v g1 h lt between.at);
          sees = sees_kept d rung known g.kept now (frame_of g) done a h (λ i. ap (is_block_of i) cell) between.sees;
          rests = λ i t. between.rests i (or_first _ _ (sym (any_one_more (λ (x : Action). is_block_of i x.cell) done a) ∙ t));
          high = between.high;
        }

    then_on : (b : Bool) (e : Expression) (q : Memory) (more : StatementList) (now : ℕ) (h : Held) → ((env : Operand → Bool) → value env e ≡ c)
        → (if b then (run d.decls.instances now more (if b then assigned v c h else h)).held else (if b then assigned v c h else h))
        ≡ (if b then (run d.decls.instances now (Assign' v e q more) h).held else h)
    unfolding run
    then_on true e q more now h is = ap (λ (x : Bool). (run d.decls.instances now more (assigned v x h)).held) (sym (is _))
    then_on false e q more now h is = refl

    pub latch_more : (next : List Action) (e : Expression) (q : Memory) (more : StatementList) → ((env : Operand → Bool) → value env e ≡ c)
        → Shows d rung from known a.place condition → Latches d variables count rung known from (done ++ a ∷ []) next condition more
        → Latches d variables count rung known from done next condition (Assign' v e q more)
    unfolding run
    latch_more next e q more is shows others = record {
      stays = λ now h. others.stays now (assigned v (value_in h e) h);
      goes = λ now g first h flags size begun between.
          let b = value_in first condition in
          let middle = if b then assigned v c h else h in
          let one = one_latch b now g h flags (shows g.kept now (frame_of g) (frame_of first) begun.sees) between in
          subst (λ (s : Held). IsBetween d variables flags now rung known next g s) (then_on b e q more now h is) (others.goes now g first middle flags size begun one);
    }

module _ (d : Drawing) (variables count rung : ℕ) (known : List Known) where
  on_latch : (b : Bool) (arm : Ran) (now : ℕ) (next : StatementList) (h : Held) → arm.has_returned ≡ false →
      (let r = if b then arm else ran false h in if r.has_returned then r else run d.decls.instances now next r.held) ≡ run d.decls.instances now next (if b then arm.held else h)
  on_latch true arm now next h stays = ap (λ b. if b then arm else run d.decls.instances now next arm.held) stays
  on_latch false arm now next h stays = refl

  pub go_latch : (done next : List Action) (condition : Expression) (accepted rest : StatementList) (p q r : Memory)
      → Latches d variables count rung known done done next condition accepted
      → Go d variables count rung known done next (Select' condition p accepted q End r rest) rest
  unfolding run
  go_latch done next condition accepted rest p q r latches = λ now g h flags size between.
      (_, latches.goes now g h h flags size between between, on_latch (value_in h condition) (run d.decls.instances now accepted h) now rest h (latches.stays now h))
