-- From all rungs to the scan.
use Rattle.std.proofs.Common.{◌≡◌, ℕ, ◌<◌, ◌≤◌, Bool, true, false, List, [], ◌∷◌, length, get_or, zero, suc, refl, ap, subst, ◌∙◌, arith, if◌then◌else◌}
use Rattle.diagram_program.specs.Program.{Drawing}
use Rattle.scan_cycle.specs.Rung.{Held}
use Rattle.scan_cycle.specs.Scan.{given}
use Rattle.scan_cycle.specs.Laws.{FollowsJumps}
use Rattle.scan_cycle.specs.Programs.{diagram_of}
use Rattle.st_statements.specs.declared.statement.StatementList.{StatementList}
use Rattle.st_statements.specs.Run.{run}
use Rattle.draw_check.specs.Meaning.{AreSame, IsDrawingOf, with_inputs}
use Rattle.draw_check.specs.Steps.{Draws}
use Rattle.draw_check.proofs.Arriving.{evaluates}

pub given_length : (fs xs vs : List Bool) → length (given fs xs vs) ≡ length vs
given_length [] xs vs = refl
given_length (true ∷ fs) [] [] = refl
given_length (true ∷ fs) (x ∷ xs) [] = refl
given_length (false ∷ fs) [] [] = refl
given_length (false ∷ fs) (x ∷ xs) [] = refl
given_length (true ∷ fs) [] (v ∷ vs) = ap suc (given_length fs [] vs)
given_length (true ∷ fs) (x ∷ xs) (v ∷ vs) = ap suc (given_length fs xs vs)
given_length (false ∷ fs) [] (v ∷ vs) = ap suc (given_length fs [] vs)
given_length (false ∷ fs) (x ∷ xs) (v ∷ vs) = ap suc (given_length fs (x ∷ xs) vs)

-- what they leave at a number rests on what was there
pub given_at : (fs xs vs ws : List Bool) (n : ℕ) → n ≤ length vs → n ≤ length ws → ((i : ℕ) → i < n → get_or vs i false ≡ get_or ws i false)
    → (i : ℕ) → i < n → get_or (given fs xs vs) i false ≡ get_or (given fs xs ws) i false
given_at [] xs vs ws n a b same i lt = same i lt
given_at (f ∷ fs) xs [] ws n a b same i lt = absurd (omega (arith, a, lt))
given_at (f ∷ fs) xs (v ∷ vs) [] n a b same i lt = absurd (omega (arith, b, lt))
given_at (true ∷ fs) [] (v ∷ vs) (w ∷ ws) n a b same zero lt = same 0 lt
given_at (true ∷ fs) (x ∷ xs) (v ∷ vs) (w ∷ ws) n a b same zero lt = refl
given_at (false ∷ fs) [] (v ∷ vs) (w ∷ ws) n a b same zero lt = same 0 lt
given_at (false ∷ fs) (x ∷ xs) (v ∷ vs) (w ∷ ws) n a b same zero lt = same 0 lt
given_at (true ∷ fs) [] (v ∷ vs) (w ∷ ws) (suc n) a b same (suc i) lt = given_at fs [] vs ws n (omega (arith, a)) (omega (arith, b)) (λ j k. same (suc j) (omega (arith, k))) i (omega (arith, lt))
given_at (true ∷ fs) (x ∷ xs) (v ∷ vs) (w ∷ ws) (suc n) a b same (suc i) lt = given_at fs xs vs ws n (omega (arith, a)) (omega (arith, b)) (λ j k. same (suc j) (omega (arith, k))) i (omega (arith, lt))
given_at (false ∷ fs) [] (v ∷ vs) (w ∷ ws) (suc n) a b same (suc i) lt = given_at fs [] vs ws n (omega (arith, a)) (omega (arith, b)) (λ j k. same (suc j) (omega (arith, k))) i (omega (arith, lt))
given_at (false ∷ fs) (x ∷ xs) (v ∷ vs) (w ∷ ws) (suc n) a b same (suc i) lt = given_at fs (x ∷ xs) vs ws n (omega (arith, a)) (omega (arith, b)) (λ j k. same (suc j) (omega (arith, k))) i (omega (arith, lt))
given_at fs xs vs ws zero a b same (suc i) lt = absurd (omega (arith, lt))

inputs_same : (d : Drawing) (n : ℕ) (inputs : List Bool) (g h : Held) → AreSame d n g h → AreSame d n (with_inputs d inputs g) (with_inputs d inputs h)
inputs_same d n inputs g h same = record {
  fits = given_length (diagram_of d).inputs inputs g.values ∙ same.fits;
  long = given_length (diagram_of d).inputs inputs h.values ∙ same.long;
  enough = same.enough;
  values = given_at (diagram_of d).inputs inputs g.values h.values n (omega (arith, same.enough, same.fits)) (omega (arith, same.long)) same.values;
  kept = same.kept;
}

either_end : (b : Bool) (m : ℕ) → (if b then m else m) ≡ m
either_end true m = refl
either_end false m = refl

rungs_of : (d : Drawing) → (diagram_of d).rungs ≡ d.rungs
unfolding diagram_of
rungs_of d = refl

pub whole : (d : Drawing) (n : ℕ) (list : StatementList) → FollowsJumps (diagram_of d) → Draws d n list 0 d.rungs → IsDrawingOf n list d
whole d n list follows draws = λ now inputs g h same.
    let begun = inputs_same d n inputs g h same in
    let run_of = run d.decls.instances now list (with_inputs d inputs h) in
    let arrived = draws now (with_inputs d inputs g) (with_inputs d inputs h) begun in
    let listed = evaluates (diagram_of d) now 0 _ (with_inputs d inputs g) arrived.0 (omega (arith, either_end run_of.has_returned d.rungs, rungs_of d)) arrived.1 in
    subst (λ (s : Held). AreSame d n s run_of.held) (follows.alone g now inputs listed.0 arrived.0 listed.1) arrived.2
