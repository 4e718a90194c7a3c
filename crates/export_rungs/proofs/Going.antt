-- What the statements of one cell do.
use Rattle.std.proofs.Common.{◌≡◌, ℕ, ◌+◌, ◌/◌, ◌%◌, ◌<◌, Bool, false, not, ◌&&◌, List, [], ◌∷◌, ◌++◌, length, get_or, set, Some, None, refl, sym, ap, ap₂, subst, ◌∙◌, arith, get_or-set_other}
use Rattle.std.proofs.lemmas.Bool.{eq-eqb, eqb-false}
use Rattle.diagram_declarations.specs.declared.kind.BlockKind.TheVariants.{Ton}
use Rattle.diagram_program.specs.declared.geometry.TheConstants.{ROWS}
use Rattle.diagram_program.specs.declared.cell.Cell.{Cell}
use Rattle.diagram_program.specs.declared.cell.Cell.TheVariants.{Contact, Coil, Block}
use Rattle.diagram_program.specs.declared.cell.Operand as diagram
use Rattle.diagram_program.specs.declared.gates.Action.{Action}
use Rattle.diagram_program.specs.declared.mode.Mode.{Mode}
use Rattle.diagram_program.specs.declared.mode.CoilMode.{CoilMode}
use Rattle.diagram_program.specs.declared.mode.CoilMode.TheVariants as coil
use Rattle.diagram_program.specs.Program.{Drawing, block_in, is_coil_of, memories_of}
use Rattle.scan_signals.specs.Blocks.{new_block, q_of, step}
use Rattle.scan_signals.specs.declared.block.Stored.{Stored}
use Rattle.scan_signals.specs.Truth.{plain}
use Rattle.scan_cycle.specs.Cells.{Frame, Kept, operand_value, stored_by}
use Rattle.scan_cycle.specs.Rung.{Held, changed, frame_of, held, link_at, second}
use Rattle.scan_cycle.specs.Programs.{IsSound, diagram_of}
use Rattle.st_expression.specs.declared.expression.Expression.{Expression}
use Rattle.st_expression.specs.declared.expression.Expression.TheVariants as tree
use Rattle.st_expression.specs.declared.expression.Operand.TheVariants.{Variable}
use Rattle.st_expression.specs.Value.{value}
use Rattle.st_statements.specs.declared.statement.StatementList.{StatementList}
use Rattle.st_statements.specs.declared.statement.StatementList.TheVariants.{Assign', Call'}
use Rattle.st_statements.specs.Run.{assigned, called, kind_in, preset_in, run, seen, value_in}
use Rattle.draw_power.specs.Power.{right}
use Rattle.draw_check.specs.Acted.{acted, acted_from}
use Rattle.export_power.specs.declared.known.Known.{Known}
use Rattle.export_power.specs.Sight.{Sees, is_block_of, is_called}
use Rattle.export_rungs.specs.Rungs.{AreAt}
use Rattle.export_rungs.specs.Forms.{Memory}
use Rattle.export_rungs.specs.Steps.{Go, IsBetween, Shows, ShowsSecond, base_of}
use Rattle.export_rungs.proofs.Blocks.{block_right}
use Rattle.export_rungs.proofs.Entries.{any_one_more, or_first, or_second}
use Rattle.export_rungs.proofs.Matched.{at_call, at_memory, at_value}
use Rattle.export_rungs.proofs.Sight.{others, sees_call, sees_coil, sees_high, sees_kept}

-- ---- one cell more

acted_more : (p : Drawing) (now j : ℕ) (start : Frame Bool) (links : ℕ → Bool) (xs : List Action) (a : Action) (h : Held)
    → acted p now j start links (xs ++ a ∷ []) h ≡ changed (diagram_of p) now start a.cell (links a.place) (second plain (diagram_of p) j links a.place) (acted p now j start links xs h)
unfolding acted
acted_more p now j start links [] a h = refl
acted_more p now j start links (x ∷ xs) a h = acted_more p now j start links xs a _

pub one_more : (p : Drawing) (now j : ℕ) (g : Held) (xs : List Action) (a : Action) (c : Cell) → a.cell ≡ c
    → acted_from p now j g (xs ++ a ∷ []) g ≡ changed (diagram_of p) now (frame_of g) c (link_at (diagram_of p) now j g a.place) (second plain (diagram_of p) j (link_at (diagram_of p) now j g) a.place) (acted_from p now j g xs g)
one_more p now j g xs a c is =
    acted_more p now j (frame_of g) (link_at (diagram_of p) now j g) xs a g
    ∙ ap (λ (x : Cell). changed (diagram_of p) now (frame_of g) x (link_at (diagram_of p) now j g a.place) (second plain (diagram_of p) j (link_at (diagram_of p) now j g) a.place) (acted_from p now j g xs g)) is

module _ (d : Drawing) (variables count rung : ℕ) (known : List Known) where
  pub go_none : (done : List Action) (list : StatementList) → Go d variables count rung known done done list list
  go_none done list = λ now g h flags size between. (h, between, refl)

  pub go_on : (done middle next : List Action) (list between rest : StatementList) → Go d variables count rung known done middle list between
      → Go d variables count rung known middle next between rest → Go d variables count rung known done next list rest
  go_on done middle next list between rest first last = λ now g h flags size at.
      let one = first now g h flags size at in
      let two = last now g one.0 flags size one.1 in
      (two.0, two.1, one.2 ∙ two.2)

  pub go_as : (done next : List Action) (list other rest : StatementList) → list ≡ other → Go d variables count rung known done next other rest
      → Go d variables count rung known done next list rest
  go_as done next list other rest is go = subst (λ (l : StatementList). Go d variables count rung known done next l rest) (sym is) go

  module _ (done : List Action) (a : Action) (next : StatementList) where
    -- an edge contact remembers its operand
    pub go_edge : (mode : Mode) (operand : diagram.Operand) (n : ℕ) (e : Expression) (q : Memory) → a.cell ≡ Contact mode operand (Some n) → n < memories_of d
        → ((k : Kept) (now : ℕ) (f s : Frame Bool) → Sees d rung done known k now f s → value (seen s) e ≡ operand_value plain f operand)
        → Go d variables count rung known done (done ++ a ∷ []) (Assign' (length d.decls.vars + n) e q next) next
    unfolding run
    go_edge mode operand n e q cell lt shows = λ now g h flags size between.
        let y = value_in h e in
        let v = length d.decls.vars + n in
        let g1 = acted_from d now rung g done g in
        let is : acted_from d now rung g (done ++ a ∷ []) g ≡ held g1.values (set g1.kept.memories n y) g1.kept.blocks =
        one_more d now rung g done a (Contact mode operand (Some n)) cell
        ∙ ap (λ (b : Bool). held g1.values (set g1.kept.memories n b) g1.kept.blocks) (sym (shows g.kept now (frame_of g) (frame_of h) between.sees)) in
        let apart = others (base_of d (length flags)) v known (omega (arith, lt)) between.high in (
          assigned v y h,
          record {
            at = subst (λ (s : Held). AreAt d variables flags s (assigned v y h)) (sym is) (at_memory d variables flags n y g1 h lt between.at);
            sees = sees_kept d rung known g.kept now (frame_of g) done a (assigned v y h) (λ i. ap (is_block_of i) cell)
                (sees_high d rung known g.kept now (frame_of g) done v y h (omega (arith)) apart between.sees);
            rests = λ i t. between.rests i (or_first _ _ (sym (any_one_more (λ (x : Action). is_block_of i x.cell) done a) ∙ t));
            high = between.high;
          },
          refl,
        )

    -- a coil without a memory writes a value
    module _ (mode : CoilMode) (v : ℕ) (cell : a.cell ≡ Coil mode v None) (lt : v < length d.decls.vars) where
      between_coil : (now : ℕ) (g h : Held) (flags : List Bool) (y : Bool) → IsBetween d variables flags now rung known done g h
          → ((old : Bool) → stored_by plain mode (link_at (diagram_of d) now rung g a.place) false old ≡ y)
          → IsBetween d variables flags now rung known (done ++ a ∷ []) g (assigned v y h)
      between_coil now g h flags y between writes =
          let g1 = acted_from d now rung g done g in
          let is : acted_from d now rung g (done ++ a ∷ []) g ≡ assigned v y g1 =
          one_more d now rung g done a (Coil mode v None) cell ∙ ap (λ (b : Bool). assigned v b g1) (writes (get_or g1.values v false)) in
          record {
            at = subst (λ (s : Held). AreAt d variables flags s (assigned v y h)) (sym is) (at_value d variables flags v y g1 h lt between.at);
            sees = sees_coil d rung known g.kept now (frame_of g) done a v y h (ap (is_coil_of v) cell ∙ eq-eqb v v refl) (λ i. ap (is_block_of i) cell)
                (others (base_of d (length flags)) v known (omega (arith, lt)) between.high) between.sees;
            rests = λ i t. between.rests i (or_first _ _ (sym (any_one_more (λ (x : Action). is_block_of i x.cell) done a) ∙ t));
            high = between.high;
          }

    pub go_store : (v : ℕ) (e : Expression) (q : Memory) → a.cell ≡ Coil coil.Store v None → v < length d.decls.vars → Shows d rung done known a.place e
        → Go d variables count rung known done (done ++ a ∷ []) (Assign' v e q next) next
    unfolding run
    go_store v e q cell lt shows = λ now g h flags size between.
        (assigned v (value_in h e) h, between_coil coil.Store v cell lt now g h flags (value_in h e) between (λ old. shows g.kept now (frame_of g) (frame_of h) between.sees), refl)

    pub go_inverse : (v : ℕ) (e : Expression) (p q : Memory) → a.cell ≡ Coil coil.Inverse v None → v < length d.decls.vars → Shows d rung done known a.place e
        → Go d variables count rung known done (done ++ a ∷ []) (Assign' v (tree.Not' p e) q next) next
    unfolding run value
    go_inverse v e p q cell lt shows = λ now g h flags size between. (
      assigned v (not (value_in h e)) h,
      between_coil coil.Inverse v cell lt now g h flags (not (value_in h e)) between (λ old. ap not (shows g.kept now (frame_of g) (frame_of h) between.sees)),
      refl,
    )

    -- an edge coil writes its variable, and then remembers its link
    module _ (mode : CoilMode) (v n : ℕ) (cell : a.cell ≡ Coil mode v (Some n)) (lt : v < length d.decls.vars) (few : n < memories_of d) where
      edge_coil : (now : ℕ) (g h : Held) (flags : List Bool) (y : Bool) (e : Expression) → IsBetween d variables flags now rung known done g h
          → ((old : Bool) → stored_by plain mode (link_at (diagram_of d) now rung g a.place) (get_or h.values (length d.decls.vars + n) false) old ≡ y)
          → Shows d rung (done ++ a ∷ []) known a.place e
          → IsBetween d variables flags now rung known (done ++ a ∷ []) g (assigned (length d.decls.vars + n) (value_in (assigned v y h) e) (assigned v y h))
      edge_coil now g h flags y e between writes shows =
          let g1 = acted_from d now rung g done g in
          let h1 = assigned v y h in
          let w = length d.decls.vars + n in
          let x = link_at (diagram_of d) now rung g a.place in
          let z = value_in h1 e in
          let apart = others (base_of d (length flags)) v known (omega (arith, lt)) between.high in
          let sees : Sees d rung (done ++ a ∷ []) known g.kept now (frame_of g) (frame_of h1) =
          sees_coil d rung known g.kept now (frame_of g) done a v y h (ap (is_coil_of v) cell ∙ eq-eqb v v refl) (λ i. ap (is_block_of i) cell) apart between.sees in
          let memory : get_or g1.kept.memories n false ≡ get_or h.values w false = sym (between.at.matched.memories n few) in
          let written : stored_by plain mode x (get_or g1.kept.memories n false) (get_or g1.values v false) ≡ y =
          ap (λ (m : Bool). stored_by plain mode x m (get_or g1.values v false)) memory ∙ writes (get_or g1.values v false) in
          let g2 = assigned v y g1 in
          let is : acted_from d now rung g (done ++ a ∷ []) g ≡ held g2.values (set g2.kept.memories n z) g2.kept.blocks =
          one_more d now rung g done a (Coil mode v (Some n)) cell
          ∙ ap₂ (λ (b m : Bool). held (set g1.values v b) (set g1.kept.memories n m) g1.kept.blocks) written (shows g.kept now (frame_of g) (frame_of h1) sees) in
          record {
            at = subst (λ (s : Held). AreAt d variables flags s (assigned w z h1)) (sym is)
                (at_memory d variables flags n z g2 h1 few (at_value d variables flags v y g1 h lt between.at));
            sees = sees_high d rung known g.kept now (frame_of g) (done ++ a ∷ []) w z h1 (omega (arith)) (others (base_of d (length flags)) w known (omega (arith, few)) between.high) sees;
            rests = λ i t. between.rests i (or_first _ _ (sym (any_one_more (λ (x : Action). is_block_of i x.cell) done a) ∙ t));
            high = between.high;
          }

    pub go_rising : (v n : ℕ) (e other : Expression) (p q r s t : Memory) → a.cell ≡ Coil coil.Rising v (Some n) → v < length d.decls.vars → n < memories_of d
        → Shows d rung done known a.place e → Shows d rung (done ++ a ∷ []) known a.place other
        → Go d variables count rung known done (done ++ a ∷ [])
        (Assign' v (tree.And' p e q (tree.Not' r (tree.Operand (Variable (length d.decls.vars + n))))) s (Assign' (length d.decls.vars + n) other t next)) next
    unfolding run value
    go_rising v n e other p q r s t cell lt few shows later = λ now g h flags size between.
        let y = value_in h e && not (get_or h.values (length d.decls.vars + n) false) in (
          _,
          edge_coil coil.Rising v n cell lt few now g h flags y other between
              (λ old. ap (λ (b : Bool). b && not (get_or h.values (length d.decls.vars + n) false)) (shows g.kept now (frame_of g) (frame_of h) between.sees)) later,
          refl,
        )

    pub go_falling : (v n : ℕ) (e other : Expression) (p q r s t : Memory) → a.cell ≡ Coil coil.Falling v (Some n) → v < length d.decls.vars → n < memories_of d
        → Shows d rung done known a.place e → Shows d rung (done ++ a ∷ []) known a.place other
        → Go d variables count rung known done (done ++ a ∷ [])
        (Assign' v (tree.And' p (tree.Not' q e) r (tree.Operand (Variable (length d.decls.vars + n)))) s (Assign' (length d.decls.vars + n) other t next)) next
    unfolding run value
    go_falling v n e other p q r s t cell lt few shows later = λ now g h flags size between.
        let y = not (value_in h e) && get_or h.values (length d.decls.vars + n) false in (
          _,
          edge_coil coil.Falling v n cell lt few now g h flags y other between
              (λ old. ap (λ (b : Bool). not b && get_or h.values (length d.decls.vars + n) false) (shows g.kept now (frame_of g) (frame_of h) between.sees)) later,
          refl,
        )

    -- a block makes its step
    pub go_call : IsSound (diagram_of d) → (i : ℕ) (one other : Expression) (q : Memory) → a.cell ≡ Block i → (diagram_of d).cell rung a.place ≡ Block i
        → i < length d.decls.instances → is_called i done ≡ false
        → Shows d rung done known a.place one → ShowsSecond d rung done known a.place other
        → Go d variables count rung known done (done ++ a ∷ []) (Call' i one other q next) next
    unfolding run diagram_of
    go_call sound i one other q cell there small new shows lower = λ now g h flags size between.
        let x = value_in h one in
        let y = value_in h other in
        let g1 = acted_from d now rung g done g in
        let is : acted_from d now rung g (done ++ a ∷ []) g ≡ called d.decls.instances now i x y g1 =
        one_more d now rung g done a (Block i) cell
        ∙ ap₂ (λ (b c : Bool). called d.decls.instances now i b c g1) (shows g.kept now (frame_of g) (frame_of h) between.sees) (lower g.kept now (frame_of g) (frame_of h) between.sees) in
        let inside : i < length h.kept.blocks = omega (arith, small, between.at.matched.instances, ap length between.at.matched.blocks) in
        let kind = kind_in d.decls.instances i in
        let preset = preset_in d.decls.instances i in
        let stored = step kind preset (get_or h.kept.blocks i (new_block Ton)) x y now in
        let shown : (place : ℕ) → (diagram_of d).cell rung place ≡ Block i → q_of stored ≡ right d rung g.kept now (frame_of g) (place / ROWS) (place % ROWS) =
        λ place is.
        let e : place ≡ a.place = (sound.once.block i rung place rung a.place (ap block_in is) (ap block_in there)).1 in
        ap (λ (b : Stored). q_of (step kind preset b x y now)) (between.rests i new)
        ∙ ap₂ (λ (u v : Bool). q_of (step kind preset (get_or g.kept.blocks i (new_block Ton)) u v now))
        (sym (shows g.kept now (frame_of g) (frame_of h) between.sees)) (sym (lower g.kept now (frame_of g) (frame_of h) between.sees))
        ∙ sym (block_right d rung g.kept now (frame_of g) sound a.place i there)
        ∙ ap (λ n. right d rung g.kept now (frame_of g) (n / ROWS) (n % ROWS)) (sym e) in (
          called d.decls.instances now i x y h,
          record {
            at = subst (λ (s : Held). AreAt d variables flags s (called d.decls.instances now i x y h)) (sym is) (at_call d variables flags d.decls.instances now i x y g1 h between.at);
            sees = sees_call d rung known g.kept now (frame_of g) done a i x y h cell inside shown between.sees;
            rests = λ j t.
                let both = sym (any_one_more (λ (x : Action). is_block_of j x.cell) done a) ∙ t in
                get_or-set_other h.kept.blocks i j stored (new_block Ton) (λ e. eqb-false i j (sym (ap (is_block_of j) cell) ∙ or_second _ _ both) (sym e))
                ∙ between.rests j (or_first _ _ both);
            high = between.high;
          },
          refl,
        )
