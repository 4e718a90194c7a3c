-- What the rungs of a look begin with are values of the signal.
use Rattle.std.proofs.Common.{◌≡◌, ℕ, Bool, true, false, List, [], ◌∷◌, map, get_or, zero, suc, arith, sym, ap, ◌∙◌, All, subst}
use Rattle.diagram_declarations.specs.Decls.{is_input}
use Rattle.diagram_program.specs.Program.{Drawing}
use Rattle.scan_signals.specs.Algebra.{Algebra, LatticeLaws}
use Rattle.scan_signals.specs.Blocks.{q_of}
use Rattle.scan_cycle.specs.Cells.{Diagram, Frame, frame}
use Rattle.scan_cycle.specs.Scan.{given}
use Rattle.scan_symbolic.specs.ByFrames.{looked, look_frame}
use Rattle.scan_symbolic.specs.Look.{after_look}
use Rattle.scan_cycle.specs.Programs.{diagram_of}
use Rattle.scan_cycle.specs.Rung.{Held}
use Rattle.scan_cycle.specs.Gating.{AreValues}
use Rattle.scan_cycle.specs.Laws.{Once}
use Rattle.scan_cycle.proofs.Scanned.{rungs_back, inputs_back}
use Rattle.scan_symbolic.proofs.LookLaws.{framed_is_look}

module _ {S : Type 0} (o : Algebra S) (V : S → Type 0) (l : LatticeLaws S V o) where
  all_values : (xs : List S) → All V xs → (i : ℕ) → V (get_or xs i (o.known false))
  all_values [] h i = l.known_value false
  all_values (x ∷ xs) h zero = h 0 x (omega arith)
  all_values (x ∷ xs) h (suc i) = all_values xs (λ k d lt. h (suc k) d (omega (arith, lt))) i

  known_values : {A : Type 0} (f : A → Bool) (xs : List A) (i : ℕ) → V (get_or (map (λ x. o.known (f x)) xs) i (o.known false))
  known_values f [] i = l.known_value false
  known_values f (x ∷ xs) zero = l.known_value (f x)
  known_values f (x ∷ xs) (suc i) = known_values f xs i

  given_values : (flags : List Bool) (xs values : List S) → ((i : ℕ) → V (get_or xs i (o.known false))) → ((i : ℕ) → V (get_or values i (o.known false)))
      → (i : ℕ) → V (get_or (given flags xs values) i (o.known false))
  given_values [] xs values hx hv i = hv i
  given_values (true ∷ flags) xs [] hx hv i = l.known_value false
  given_values (true ∷ flags) [] (v ∷ values) hx hv zero = hv 0
  given_values (true ∷ flags) [] (v ∷ values) hx hv (suc i) = given_values flags [] values hx (λ k. hv (suc k)) i
  given_values (true ∷ flags) (x ∷ xs) (v ∷ values) hx hv zero = hx 0
  given_values (true ∷ flags) (x ∷ xs) (v ∷ values) hx hv (suc i) = given_values flags xs values (λ k. hx (suc k)) (λ k. hv (suc k)) i
  given_values (false ∷ flags) xs [] hx hv i = l.known_value false
  given_values (false ∷ flags) xs (v ∷ values) hx hv zero = hv 0
  given_values (false ∷ flags) xs (v ∷ values) hx hv (suc i) = given_values flags xs values hx (λ k. hv (suc k)) i

  pub begin_values : (d : Diagram) (inputs : List S) → All V inputs → (h : Held) (f : Frame S) → f ≡ look_frame o d inputs h → AreValues o V f
  begin_values d inputs all h f e = subst (λ (g : Frame S). AreValues o V g) (sym e) (record {
    values = given_values d.inputs inputs (map o.known h.values) (all_values inputs all) (known_values (λ v. v) h.values);
    ends = known_values q_of h.kept.blocks;
  })

pub by_looks : {S : Type 0} (o : Algebra S) (p : Drawing) → Once (diagram_of p) → (now : ℕ) (inputs : List S) (h : Held) (f next : Frame S) → f ≡ look_frame o (diagram_of p) inputs h
    → next ≡ (looked o (diagram_of p) h.kept now f p.rungs).frame → next.values ≡ after_look o (diagram_of p) now inputs h
by_looks o p once now inputs h f next e n =
    ap (λ (x : Frame _). x.values) n
    ∙ ap (λ m. (looked o (diagram_of p) h.kept now f m).frame.values) (rungs_back p)
    ∙ ap (λ (x : Frame _). (looked o (diagram_of p) h.kept now x (diagram_of p).rungs).frame.values) e
    ∙ framed_is_look o (diagram_of p) once now inputs h

pub begins : {S : Type 0} (o : Algebra S) (p : Drawing) (inputs : List S) (h : Held) (known begun : Frame S)
    → known ≡ frame (map o.known h.values) (map (λ b. o.known (q_of b)) h.kept.blocks)
    → begun ≡ frame (given (map is_input p.decls.vars) inputs known.values) known.ends → begun ≡ look_frame o (diagram_of p) inputs h
begins o p inputs h known begun k e =
    e
    ∙ ap (λ (f : Frame _). frame (given (map is_input p.decls.vars) inputs f.values) f.ends) k
    ∙ ap (λ fs. frame (given fs inputs (map o.known h.values)) (map (λ b. o.known (q_of b)) h.kept.blocks)) (inputs_back p)
