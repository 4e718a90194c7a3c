-- The evaluation of a rung that isn't known to rest.
use Rattle.std.proofs.Common.{◌≡◌, ℕ, ◌<◌, Bool, List, Option, Some, sym, ap, ◌∙◌, subst, set, All}
use Rattle.diagram_program.specs.Program.{Drawing}
use Rattle.diagram_program.specs.Gates.{left_of, actions_of}
use Rattle.scan_signals.specs.Truth.{plain}
use Rattle.scan_cycle.specs.Cells.{Frame}
use Rattle.scan_cycle.specs.Rung.{Held, frame_of, link, link_at}
use Rattle.scan_cycle.specs.Scan.{next_rung}
use Rattle.scan_cycle.specs.RungByRung.{rung_after}
use Rattle.scan_cycle.specs.Programs.{diagram_of, IsSound}
use Rattle.scan_cycle.specs.Gating.{among, AreLinks}
use Rattle.scan_cycle.proofs.Exits.{after_same}
use Rattle.scan_cycle.proofs.Scanned.{rungs_back}
use Rattle.scan_incremental.specs.Resting.{AllRest, IsStill, Rests}
use Rattle.scan_incremental.proofs.Rung.{at_rest, put_to_rest}

module _ (p : Drawing) (sound : IsSound (diagram_of p)) (now j : ℕ) (h : Held) (start : Frame Bool) (links : List Bool) (s : start ≡ frame_of h)
    (are : AreLinks plain p h.kept now j start links) (after : ℕ) (a : after ≡ rung_after j ((diagram_of p).jump j) (λ place. among plain links (left_of p j place))) where
  pub after_is : after ≡ next_rung (diagram_of p) now j h
  after_is =
      a
      ∙ after_same j ((diagram_of p).jump j) (λ place. among plain links (left_of p j place)) (link_at (diagram_of p) now j h) (λ place target e.
      are.left place (sound.jumps j place target e).0 ∙ ap (λ (f : Frame Bool). link plain (diagram_of p) h.kept now j f place) s)

  pub rest_from : All (IsStill (diagram_of p) now start links h) (actions_of p j) → (next : List (Option ℕ)) → j < p.rungs → AllRest (diagram_of p) now h next
      → AllRest (diagram_of p) now h (set next j (Some after))
  rest_from all next lt r =
      put_to_rest (diagram_of p) now h j after next (subst (λ (n : ℕ). j < n) (rungs_back p) lt)
      (subst (λ (n : ℕ). Rests (diagram_of p) now h j n) (sym after_is) (at_rest p now j h start links s are all)) r
