-- The rungs that write helpers.
use Rattle.std.proofs.Common.{◌≡◌, ℕ, ◌+◌, ◌<◌, ◌≤◌, Bool, true, false, List, [], ◌∷◌, ◌++◌, length, get_or, set, refl, sym, ap, ◌∙◌, arith, All, None, get_or-set_other, get_or-set_same}
use Rattle.std.proofs.lemmas.List.Elements.{All-append, All-nil, All-cons, All-head, All-tail}
use Rattle.std.proofs.lemmas.Bool.{ltb-true}
use Rattle.diagram_program.specs.declared.gates.Action.{Action}
use Rattle.diagram_program.specs.declared.cell.Cell.{Cell}
use Rattle.diagram_program.specs.declared.cell.Cell.TheVariants.{Coil}
use Rattle.diagram_program.specs.Program.{Drawing, jump_of}
use Rattle.diagram_program.specs.Gates.{actions_of}
use Rattle.scan_signals.specs.Truth.{plain}
use Rattle.scan_cycle.specs.Rung.{Held, changed, evaluated, frame_of, link_at, second}
use Rattle.scan_cycle.specs.Programs.{diagram_of}
use Rattle.st_expression.specs.declared.expression.Operand.{Operand}
use Rattle.st_expression.specs.declared.expression.Operand.TheVariants.{Variable, Output}
use Rattle.st_expression.specs.Value.{value}
use Rattle.st_statements.specs.Operands.{is_below, is_within}
use Rattle.st_statements.specs.Run.{assigned, seen, value_in}
use Rattle.draw_power.specs.declared.helpers.Helper.{Helper}
use Rattle.draw_power.specs.Helpers.{AreHelpers, IsHelper}
use Rattle.draw_check.specs.Groups.{IsLink, IsWritten, coil_for}
use Rattle.draw_check.specs.Steps.{ArePrepared, HasPart, IsOther, Prepares, here}
use Rattle.draw_check.proofs.Acted.{next_below}
use Rattle.draw_check.proofs.Alike.{within_alike}
use Rattle.draw_check.proofs.Arriving.{one_rung, reaches_on}
use Rattle.draw_check.proofs.Same.{helper_same}
use Rattle.draw_check.proofs.Rungs.{one_acted}
use Rattle.draw_check.proofs.Taking.{is_rung, written}

pub prepared_none : (p : Drawing) (n j : ℕ) → Prepares p n [] j j
prepared_none p n j = λ now g h same. (g, here j g, same, All-nil _)

unread : (n v : ℕ) (x : Bool) (g : Held) → n ≤ v → (o : Operand) → is_below n o ≡ true → seen (frame_of (assigned v x g)) o ≡ seen (frame_of g) o
unread n v x g le (Variable i) t = get_or-set_other g.values v i x false (omega (arith, le, ltb-true _ _ t))
unread n v x g le (Output i) t = refl

keep : (n v : ℕ) (x : Bool) (g : Held) (helpers : List Helper) → n ≤ v → All (IsOther v) helpers → All (HasPart n) helpers →
    AreHelpers helpers (frame_of g) → AreHelpers helpers (frame_of (assigned v x g))
keep n v x g [] le others within are = All-nil _
keep n v x g (y ∷ ys) le others within are =
    let one : IsHelper (frame_of (assigned v x g)) y =
    get_or-set_other g.values v y.variable x false (All-head (IsOther v) y ys others)
    ∙ All-head (IsHelper (frame_of g)) y ys are
    ∙ sym (within_alike n (seen (frame_of (assigned v x g))) (seen (frame_of g)) (unread n v x g le) y.part.now (All-head (HasPart n) y ys within)) in
    All-cons (IsHelper (frame_of (assigned v x g))) y ys one (keep n v x g ys le (All-tail (IsOther v) y ys others) (All-tail (HasPart n) y ys within) (All-tail (IsHelper (frame_of g)) y ys are))

pub prepared_more : (p : Drawing) (n j m : ℕ) (helpers : List Helper) (new : Helper) (a : Action) (on : Bool) → m < p.rungs → jump_of p m ≡ None → actions_of p m ≡ a ∷ [] →
    a.cell ≡ Coil (coil_for on) new.variable None → n ≤ new.variable → new.variable < length p.decls.vars → All (IsOther new.variable) helpers →
    is_within n new.part.now ≡ true → IsLink p helpers m a.place on new.part.now → ArePrepared p n helpers j m → ArePrepared p n (helpers ++ new ∷ []) j (m + 1)
prepared_more p n j m helpers new a on lt none one cell le small others within drawn prepared = (
  λ now g h same.
      let before = prepared.0 now g h same in
      let f : Held = before.0 in
      let x : Bool = value_in f new.part.now in
      let v = new.variable in
      let is : evaluated (diagram_of p) now m f ≡ assigned v x f =
      one_acted p now m f a one
      ∙ ap (λ (c : Cell). changed (diagram_of p) now (frame_of f) c (link_at (diagram_of p) now m f a.place) (second plain (diagram_of p) m (link_at (diagram_of p) now m f) a.place) f) cell
      ∙ ap (λ (b : Bool). assigned v b f) (written on (seen (frame_of f)) new.part.now (link_at (diagram_of p) now m f a.place) false _ (drawn f.kept now (frame_of f) before.3)) in
      let held : get_or (set f.values v x) v false ≡ value (seen (frame_of (assigned v x f))) new.part.now =
      get_or-set_same f.values v x false (omega (arith, small, before.2.fits))
      ∙ sym (within_alike n (seen (frame_of (assigned v x f))) (seen (frame_of f)) (unread n v x f le) new.part.now within) in (
        assigned v x f,
        reaches_on (diagram_of p) now j m (m + 1) g f (assigned v x f) before.1 (one_rung (diagram_of p) now m (m + 1) f (assigned v x f) (is_rung p m lt) (next_below p now m f none) is),
        helper_same p n v x f h le before.2,
        All-append (IsHelper (frame_of (assigned v x f))) helpers (new ∷ []) (keep n v x f helpers le others prepared.1 before.3) (All-cons (IsHelper (frame_of (assigned v x f))) new [] held (All-nil _)),
      ),
  All-append (HasPart n) helpers (new ∷ []) prepared.1 (All-cons (HasPart n) new [] within (All-nil _)),
)

pub prepared_by : (p : Drawing) (n j m : ℕ) (helpers : List Helper) (new : Helper) → m < p.rungs → IsWritten p n m helpers new → ArePrepared p n helpers j m → ArePrepared p n (helpers ++ new ∷ []) j (m + 1)
prepared_by p n j m helpers new lt w prepared =
    prepared_more p n j m helpers new w.action w.on lt w.jump w.one w.cell w.large w.declared w.others w.part w.link prepared
