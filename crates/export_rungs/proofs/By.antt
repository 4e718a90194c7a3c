-- What the statements of one cell do, by the forms in which they were found.
use Rattle.std.proofs.Common.{◌≡◌, ℕ, ◌+◌, ◌<◌, Bool, false, List, [], ◌∷◌, ◌++◌, length, Some, None, sym, ap, subst, ◌∙◌}
use Rattle.diagram_program.specs.declared.cell.Cell.TheVariants.{Contact, Coil, Block}
use Rattle.diagram_program.specs.declared.cell.Operand as diagram
use Rattle.diagram_program.specs.declared.gates.Action.{Action}
use Rattle.diagram_program.specs.declared.mode.Mode.{Mode}
use Rattle.diagram_program.specs.declared.mode.CoilMode.TheVariants as coil
use Rattle.diagram_program.specs.Program.{Drawing}
use Rattle.scan_cycle.specs.Programs.{IsSound, diagram_of}
use Rattle.st_expression.specs.declared.expression.Expression.{Expression}
use Rattle.st_expression.specs.declared.expression.Expression.TheVariants as tree
use Rattle.st_expression.specs.declared.expression.Operand.{Operand}
use Rattle.st_expression.specs.declared.expression.Operand.TheVariants.{Variable}
use Rattle.st_expression.specs.Value.{value}
use Rattle.st_statements.specs.declared.statement.StatementList.{StatementList}
use Rattle.st_statements.specs.declared.statement.StatementList.TheVariants.{Assign', Call', End, Select'}
use Rattle.draw_check.specs.Groups.{latch_for}
use Rattle.export_power.specs.declared.known.Known.{Known}
use Rattle.export_power.specs.Sight.{is_called}
use Rattle.export_rungs.specs.Forms.{IsAssignment, IsBoth, IsCalled, IsInverse, IsSelection}
use Rattle.export_rungs.specs.Steps.{Begins, Go, IsMemory, Latches, Shows, ShowsSecond}
use Rattle.export_rungs.proofs.Going.{go_as, go_call, go_edge, go_falling, go_inverse, go_rising, go_store}
use Rattle.export_rungs.proofs.Latching.{go_latch, latch_more}

module _ (d : Drawing) (variables count rung : ℕ) (known : List Known) (done : List Action) (a : Action) where
  abbrev Goes : (list rest : StatementList) → Type 0
  Goes list rest = Go d variables count rung known done (done ++ a ∷ []) list rest

  pub edge_by : (mode : Mode) (operand : diagram.Operand) (n v : ℕ) (e : Expression) (next list : StatementList) → a.cell ≡ Contact mode operand (Some n)
      → IsMemory d n v → IsAssignment v e next list → Begins d rung done known operand e → Goes list next
  edge_by mode operand n v e next list cell memory begins shows =
      go_as d variables count rung known done (done ++ a ∷ []) list (Assign' (length d.decls.vars + n) e begins.0 next) next
      (begins.1 ∙ ap (λ w. Assign' w e begins.0 next) memory.is)
      (go_edge d variables count rung known done a next mode operand n e begins.0 cell memory.few shows)

  pub store_by : (v : ℕ) (e : Expression) (next list : StatementList) → a.cell ≡ Coil coil.Store v None → v < length d.decls.vars
      → IsAssignment v e next list → Shows d rung done known a.place e → Goes list next
  store_by v e next list cell lt begins shows =
      go_as d variables count rung known done (done ++ a ∷ []) list (Assign' v e begins.0 next) next begins.1
      (go_store d variables count rung known done a next v e begins.0 cell lt shows)

  pub inverse_by : (v : ℕ) (e b : Expression) (next list : StatementList) → a.cell ≡ Coil coil.Inverse v None → v < length d.decls.vars
      → IsAssignment v e next list → IsInverse b e → Shows d rung done known a.place b → Goes list next
  inverse_by v e b next list cell lt begins inverse shows =
      go_as d variables count rung known done (done ++ a ∷ []) list (Assign' v (tree.Not' inverse.0 b) begins.0 next) next
      (begins.1 ∙ ap (λ (x : Expression). Assign' v x begins.0 next) inverse.1)
      (go_inverse d variables count rung known done a next v b inverse.0 begins.0 cell lt shows)

  pub rising_by : (v n w : ℕ) (e b c i other : Expression) (next more list : StatementList) → a.cell ≡ Coil coil.Rising v (Some n) → v < length d.decls.vars
      → IsMemory d n w → IsAssignment v e more list → IsBoth b c e → IsInverse i c → i ≡ tree.Operand (Variable w) → IsAssignment w other next more
      → Shows d rung done known a.place b → Shows d rung (done ++ a ∷ []) known a.place other → Goes list next
  rising_by v n w e b c i other next more list cell lt memory begins both inverse is then shows later =
      let m = length d.decls.vars + n in
      go_as d variables count rung known done (done ++ a ∷ []) list
      (Assign' v (tree.And' both.0 b both.1 (tree.Not' inverse.0 (tree.Operand (Variable m)))) begins.0 (Assign' m other then.0 next)) next
      (begins.1
      ∙ ap (λ (x : Expression). Assign' v x begins.0 more) (both.2 ∙ ap (λ (x : Expression). tree.And' both.0 b both.1 x) (inverse.1 ∙ ap (λ (x : Expression). tree.Not' inverse.0 x) (is ∙ ap (λ j. tree.Operand (Variable j)) memory.is)))
      ∙ ap (λ (l : StatementList). Assign' v (tree.And' both.0 b both.1 (tree.Not' inverse.0 (tree.Operand (Variable m)))) begins.0 l) (then.1 ∙ ap (λ j. Assign' j other then.0 next) memory.is))
      (go_rising d variables count rung known done a next v n b other both.0 both.1 inverse.0 begins.0 then.0 cell lt memory.few shows later)

  pub falling_by : (v n w : ℕ) (e b c i other : Expression) (next more list : StatementList) → a.cell ≡ Coil coil.Falling v (Some n) → v < length d.decls.vars
      → IsMemory d n w → IsAssignment v e more list → IsBoth i c e → IsInverse b i → c ≡ tree.Operand (Variable w) → IsAssignment w other next more
      → Shows d rung done known a.place b → Shows d rung (done ++ a ∷ []) known a.place other → Goes list next
  falling_by v n w e b c i other next more list cell lt memory begins both inverse is then shows later =
      let m = length d.decls.vars + n in
      go_as d variables count rung known done (done ++ a ∷ []) list
      (Assign' v (tree.And' both.0 (tree.Not' inverse.0 b) both.1 (tree.Operand (Variable m))) begins.0 (Assign' m other then.0 next)) next
      (begins.1
      ∙ ap (λ (x : Expression). Assign' v x begins.0 more)
      (both.2 ∙ ap (λ (x : Expression). tree.And' both.0 x both.1 c) inverse.1 ∙ ap (λ (x : Expression). tree.And' both.0 (tree.Not' inverse.0 b) both.1 x) (is ∙ ap (λ j. tree.Operand (Variable j)) memory.is))
      ∙ ap (λ (l : StatementList). Assign' v (tree.And' both.0 (tree.Not' inverse.0 b) both.1 (tree.Operand (Variable m))) begins.0 l) (then.1 ∙ ap (λ j. Assign' j other then.0 next) memory.is))
      (go_falling d variables count rung known done a next v n b other both.0 inverse.0 both.1 begins.0 then.0 cell lt memory.few shows later)

  pub call_by : IsSound (diagram_of d) → (i : ℕ) (first second : Expression) (next list : StatementList) → a.cell ≡ Block i → (diagram_of d).cell rung a.place ≡ Block i
      → i < length d.decls.instances → is_called i done ≡ false → IsCalled i first second next list
      → Shows d rung done known a.place first → ShowsSecond d rung done known a.place second → Goes list next
  call_by sound i first second next list cell there small new begins shows lower =
      go_as d variables count rung known done (done ++ a ∷ []) list (Call' i first second begins.0 next) next begins.1
      (go_call d variables count rung known done a next sound i first second begins.0 cell there small new shows lower)

module _ (d : Drawing) (variables count rung : ℕ) (known : List Known) where
  pub latch_by : (done next : List Action) (condition : Expression) (accepted rest list : StatementList) → IsSelection condition accepted rest list
      → Latches d variables count rung known done done next condition accepted → Go d variables count rung known done next list rest
  latch_by done next condition accepted rest list begins latches =
      go_as d variables count rung known done next list (Select' condition begins.0 accepted begins.1 End begins.2 rest) rest begins.3
      (go_latch d variables count rung known done next condition accepted rest begins.0 begins.1 begins.2 latches)

  pub latched_by : (from done next : List Action) (a : Action) (condition e : Expression) (c : Bool) (v : ℕ) (more accepted : StatementList)
      → a.cell ≡ Coil (latch_for c) v None → v < length d.decls.vars → IsAssignment v e more accepted → ((env : Operand → Bool) → value env e ≡ c)
      → Shows d rung from known a.place condition → Latches d variables count rung known from (done ++ a ∷ []) next condition more
      → Latches d variables count rung known from done next condition accepted
  latched_by from done next a condition e c v more accepted cell lt begins is shows others =
      subst (λ (l : StatementList). Latches d variables count rung known from done next condition l) (sym begins.1)
      (latch_more d variables count rung known from condition done a c v cell lt next e begins.0 more is shows others)
