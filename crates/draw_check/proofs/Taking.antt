-- Assignments that share a rung, one after the other.
use Rattle.std.proofs.Common.{◌≡◌, ℕ, ◌+◌, ◌<◌, Bool, true, false, not, List, [], ◌∷◌, length, zero, suc, refl, sym, ap, subst, ◌∙◌, None, if◌then◌else◌}
use Rattle.std.proofs.lemmas.Bool.{and_parts}
use Rattle.diagram_program.specs.declared.gates.Action.{Action}
use Rattle.diagram_program.specs.declared.cell.Cell.{Cell}
use Rattle.diagram_program.specs.declared.cell.Cell.TheVariants.{Coil}
use Rattle.diagram_program.specs.Program.{Drawing, jump_of}
use Rattle.diagram_program.specs.Gates.{actions_of}
use Rattle.scan_signals.specs.Truth.{plain}
use Rattle.scan_cycle.specs.Cells.{Frame, Kept, stored_by}
use Rattle.scan_cycle.specs.Rung.{Held, changed, frame_of, link, second, evaluated}
use Rattle.scan_cycle.specs.Programs.{diagram_of}
use Rattle.st_expression.specs.declared.expression.Expression.{Expression}
use Rattle.st_expression.specs.Value.{value}
use Rattle.st_statements.specs.declared.statement.StatementList.{StatementList}
use Rattle.st_statements.specs.declared.statement.StatementList.TheVariants.{End, Assign', Trigger', Call', Select', Return'}
use Rattle.st_statements.specs.Operands.{are_within}
use Rattle.st_statements.specs.Run.{Ran, assigned, run, seen, value_in}
use Rattle.draw_power.specs.declared.helpers.Helper.{Helper}
use Rattle.draw_power.specs.Helpers.{AreHelpers, value_as}
use Rattle.draw_check.specs.Acted.{acted}
use Rattle.draw_check.specs.Groups.{AreAlike, Do, IsCoil, Take, are_reading, coil_for}
use Rattle.draw_check.specs.Meaning.{AreSame}
use Rattle.draw_check.specs.Steps.{Arrives, Draws, Prepares}
use Rattle.draw_check.proofs.Acted.{evaluated_is, next_below}
use Rattle.draw_check.proofs.Alike.{or_first, or_second, value_same, value_unread}
use Rattle.draw_check.proofs.Arriving.{one_rung, reaches_on}
use Rattle.draw_check.proofs.Same.{assigned_same}

pub alike_first : (d : Drawing) (n : ℕ) (g h : Held) → AreSame d n g h → (m : ℕ) (list : StatementList) → are_within n list ≡ true → AreAlike (frame_of g) h m list
unfolding AreAlike are_within
alike_first d n g h same zero list t = tt
alike_first d n g h same (suc m) (Assign' v e p next) t =
    let others = (and_parts _ _ t).1 in
    (value_same d n g h same e (and_parts _ _ others).0, alike_first d n g h same m next (and_parts _ _ others).1)
alike_first d n g h same (suc m) End t = tt
alike_first d n g h same (suc m) (Trigger' output memory e p next) t = tt
alike_first d n g h same (suc m) (Call' i x y p next) t = tt
alike_first d n g h same (suc m) (Select' e p accepted q otherwise r next) t = tt
alike_first d n g h same (suc m) (Return' p next) t = tt

alike_on : (f : Frame Bool) (v : ℕ) (x : Bool) (h : Held) (m : ℕ) (list : StatementList) → are_reading v m list ≡ false → AreAlike f h m list → AreAlike f (assigned v x h) m list
unfolding AreAlike are_reading
alike_on f v x h zero list t a = tt
alike_on f v x h (suc m) (Assign' w e p next) t a =
    (a.0 ∙ sym (value_unread v x h e (or_first _ _ t)), alike_on f v x h m next (or_second _ _ t) a.1)
alike_on f v x h (suc m) End t a = tt
alike_on f v x h (suc m) (Trigger' output memory e p next) t a = tt
alike_on f v x h (suc m) (Call' i y z p next) t a = tt
alike_on f v x h (suc m) (Select' e p accepted q otherwise r next) t a = tt
alike_on f v x h (suc m) (Return' p next) t a = tt

not_not : (b : Bool) → not (not b) ≡ b
not_not true = refl
not_not false = refl

-- what a coil for an expression writes
pub written : (on : Bool) (env : _) (e : Expression) (x m old : Bool) → x ≡ value_as on env e → stored_by plain (coil_for on) x m old ≡ value env e
written true env e x m old is = is
written false env e x m old is = ap not is ∙ not_not (value env e)

module _ (p : Drawing) (n rung : ℕ) (helpers : List Helper) where
  pub take_none : (list : StatementList) → Take p n rung helpers [] list list
  unfolding acted
  take_none list = λ now k f are g h same alike. (h, same, refl)

  pub take_more : (a : Action) (more : List Action) (on : Bool) (v : ℕ) (e : Expression) (q : _) (next rest : StatementList) →
      ((k : Kept) (now : ℕ) (f : Frame Bool) → AreHelpers helpers f → link plain (diagram_of p) k now rung f a.place ≡ value_as on (seen f) e) →
      a.cell ≡ Coil (coil_for on) v None → v < n → are_reading v (length more) next ≡ false → Take p n rung helpers more next rest →
      Take p n rung helpers (a ∷ more) (Assign' v e q next) rest
  unfolding acted AreAlike run
  take_more a more on v e q next rest drawn cell lt unread others = λ now k f are g h same alike.
      let x = value_in h e in
      let links = link plain (diagram_of p) k now rung f in
      let is : changed (diagram_of p) now f a.cell (links a.place) (second plain (diagram_of p) rung links a.place) g ≡ assigned v x g =
      ap (λ (c : Cell). changed (diagram_of p) now f c (links a.place) (second plain (diagram_of p) rung links a.place) g) cell
      ∙ ap (λ (b : Bool). assigned v b g) (written on (seen f) e (links a.place) false _ (drawn k now f are) ∙ alike.0) in
      let left = others now k f are (assigned v x g) (assigned v x h) (assigned_same p n v x g h lt same) (alike_on f v x h (length more) next unread alike.1) in
      (left.0, subst (λ (s : Held). AreSame p n (acted p now rung f links more s) left.0) (sym is) left.1, left.2)

  pub take_by : (a : Action) (more : List Action) (list next rest : StatementList) → IsCoil p n rung helpers a (length more) list next → Take p n rung helpers more next rest →
      Take p n rung helpers (a ∷ more) list rest
  take_by a more list next rest coil others =
      subst (λ (l : StatementList). Take p n rung helpers (a ∷ more) l rest) (sym coil.begins.1)
      (take_more a more coil.on coil.variable coil.expression coil.begins.0 next rest coil.link coil.cell coil.small coil.unread others)

pub is_rung : (p : Drawing) (rung : ℕ) → rung < p.rungs → rung < (diagram_of p).rungs
unfolding diagram_of
is_rung p rung lt = lt

-- the rung of assignments
pub do_take : (p : Drawing) (n rung : ℕ) (helpers : List Helper) (list rest : StatementList) → rung < p.rungs → jump_of p rung ≡ None → are_within n list ≡ true →
    Take p n rung helpers (actions_of p rung) list rest → Do p n helpers list rest rung (rung + 1)
do_take p n rung helpers list rest lt none within take = λ now g h same are.
    let left = take now g.kept (frame_of g) are g h same (alike_first p n g h same _ list within) in
    let last = evaluated (diagram_of p) now rung g in (
      last,
      left.0,
      one_rung (diagram_of p) now rung (rung + 1) g last (is_rung p rung lt) (next_below p now rung g none) refl,
      subst (λ (s : Held). AreSame p n s left.0) (sym (evaluated_is p now rung g)) left.1,
      left.2,
    )

-- helpers, left what they are for, left the rest
pub draws_by : (p : Drawing) (n : ℕ) (helpers : List Helper) (list rest : StatementList) (j m l k : ℕ) → Prepares p n helpers j m → Do p n helpers list rest m l →
    Draws p n rest l k → Draws p n list j k
draws_by p n helpers list rest j m l k prepares does draws = λ now g h same.
    let first = prepares now g h same in
    let second = does now first.0 h first.2 first.3 in
    let third = draws now second.0 second.1 second.3 in
    let back : (r : Ran) → r ≡ run p.decls.instances now rest second.1 → Arrives p n now j g (if r.has_returned then p.rungs else k) r.held =
    λ r is. subst (λ (r : Ran). Arrives p n now j g (if r.has_returned then p.rungs else k) r.held) (sym is)
    (third.0, reaches_on (diagram_of p) now j m _ g first.0 third.0 first.1 (reaches_on (diagram_of p) now m l _ first.0 second.0 third.0 second.2 third.1), third.2) in
    back _ second.4
