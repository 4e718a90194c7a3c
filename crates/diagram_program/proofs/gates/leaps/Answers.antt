use Rattle.std.proofs.Common.{◌≡◌, ℕ, ◌+◌, ◌++◌, [], ◌∷◌, List, Option, Some, None, slice_index_or, arith, add-one, refl, ◌∙◌, ap, sym}
use Rattle.diagram_program.specs.declared.gates.Leap.{Leap}
use Rattle.diagram_program.specs.Program.{Drawing, jump_of}
use Rattle.diagram_program.specs.Gates.{leap_by, leaps_below}
use Rattle.diagram_program.specs.Sheet.{drawing_of}
use Rattle.diagram_program.proofs.gates.leaps.Goals as goal
use Rattle.diagram_program.proofs.gates.leaps.Goals.{in-Some+in_ok-push, in_default}

none_yet : (d : Drawing) → [] ≡ leaps_below d 0
unfolding leaps_below
none_yet d = refl

no_end : (xs : List Leap) → xs ≡ xs ++ []
no_end [] = refl
no_end (x ∷ xs) = ap (λ ys. x ∷ ys) (no_end xs)

one_more : (d : Drawing) (n : ℕ) (xs : List Leap) (jump : Option (ℕ × ℕ × ℕ)) → xs ≡ leaps_below d n → jump ≡ jump_of d n
    → xs ++ leap_by n jump ≡ leaps_below d (n + 1)
unfolding leaps_below
one_more d n xs jump h is = rw (add-one, h, is) refl

pub loop-rung-init : goal.loop-rung-init
loop-rung-init c = rw c.new-leaps.ensures.items (none_yet _)

pub loop-rung-preserved : goal.loop-rung-preserved
loop-rung-preserved c =
    let d = drawing_of c.args.sheet in
    let n = c.loop-rung.rung in
    let here : slice_index_or c.args.jumps.now n None ≡ jump_of d n = c.requires.jumps.1 n (omega arith) in
    elim c.match-jumps-rung.branch [
      | in-Some+in_ok-push w ↦
          ap (λ v. v.items) w.leaps-is ∙ w.in_ok-push.ensures.items
          ∙ one_more d n _ (Some (w.in-Some.field-0-0, w.in-Some.field-0-1, w.in-Some.target)) c.loop-rung.invariant (sym w.in-Some.is ∙ here)
      | in_default w ↦
          ap (λ v. v.items) w.leaps-is ∙ no_end _ ∙ one_more d n _ None c.loop-rung.invariant (sym w.in_default.is ∙ here)
    ]
