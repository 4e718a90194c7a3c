-- Private: how far both programs are.
use Rattle.std.specs.Prelude.{◌≡◌, ◌⊎◌, ◌<◌, ◌≤◌, ℕ, Bool, true, max, List, Option, None, Some, slice_get}
use Rattle.diagram_program.specs.declared.gates.Exit.{Exit}
use Rattle.diagram_program.specs.Program.{Drawing}
use Rattle.scan_cycle.specs.Programs.{diagram_of}
use Rattle.scan_cycle.specs.Rung.{Held}
use Rattle.scan_cycle.specs.RungByRung.{scanned}
use Rattle.scan_cycle.specs.Standing.{Standing}
use Rattle.diff_matching.specs.Matching.{AreShared, Matching}
use Rattle.diff_rungs.specs.declared.marks.Marks.{Marks}
use Rattle.diff_rungs.specs.declared.marks.Side.{Side}
use Rattle.diff_rungs.specs.declared.marks.Side.TheVariants.{Old, New}
use Rattle.diff_rungs.specs.declared.reading.Rungs.{Rungs}
use Rattle.diff_rungs.specs.declared.walking.Place.{Place}
use Rattle.diff_rungs.specs.Same.{AreSame}

-- A pair of jumps leads to these rungs, one of each program.
abbrev pub IsLeap : List Rungs → ℕ → ℕ → Type 0
IsLeap leaps r s = (n : ℕ) × (slice_get leaps n ≡ Some (record { old = r; new = s }))

-- Both programs go on at the place, or both at the targets of a pair of jumps that were taken.
abbrev pub AreTogether : List Rungs → ℕ → ℕ → ℕ → ℕ → Type 0
AreTogether leaps i j r s = ((r ≤ i) × (s ≤ j)) ⊎ IsLeap leaps r s

-- A pair of targets lets the rung of one program at the place pass: the rung is before its target, or the other program is at its target or past it.
abbrev pub LetsOne : Side → Rungs → ℕ → ℕ → Type 0
LetsOne Old x i j = (i < x.old) ⊎ (x.new ≤ j)
LetsOne New x i j = (j < x.new) ⊎ (x.old ≤ i)

-- All of the list do.
abbrev pub LetsPass : Side → List Rungs → ℕ → ℕ → Type 0
LetsPass side leaps i j = (n : ℕ) (x : Rungs) → slice_get leaps n ≡ Some x → LetsOne side x i j

-- There is no jump, or a pair of jumps by the same left link, to targets that are in the list; `same` tells that the left links are the same.
abbrev pub LeapTogether : Bool → Option Exit → Option Exit → List Rungs → Type 0
LeapTogether same None None leaps = Unit {0}
LeapTogether same (Some a) (Some b) leaps = (same ≡ true) × (a.left ≡ b.left) × IsLeap leaps a.target b.target
LeapTogether same x y leaps = ⊥

-- After the rungs before the place all is the same that is marked. The next rung that is evaluated is at the place, or a jump may lead to it.
pub record IsReached (m : Matching) (p q : Drawing) (w : Place) (leaps : List Rungs) (c : Marks) (moment : ℕ) (h g : Held) : Type 0 where
  pub same : AreSame m c (scanned (diagram_of p) moment h w.old_rung).held (scanned (diagram_of q) moment g w.new_rung).held
  pub old : (scanned (diagram_of p) moment h w.old_rung).resume ≤ max w.old_rung w.old_reach
  pub new : (scanned (diagram_of q) moment g w.new_rung).resume ≤ max w.new_rung w.new_reach
  pub together : w.together ≡ true
      → AreTogether leaps w.old_rung w.new_rung (scanned (diagram_of p) moment h w.old_rung).resume (scanned (diagram_of q) moment g w.new_rung).resume

-- From any states that agree.
abbrev pub Reached : Matching → Drawing → Drawing → Place → List Rungs → Marks → Type 0
Reached m p q w leaps c = (moment : ℕ) (s t : Standing) → AreShared m p q moment s t → IsReached m p q w leaps c moment s.held t.held

-- The place is not past the last rungs.
pub record IsWithin (p q : Drawing) (w : Place) : Type 0 where
  pub old : w.old_rung ≤ p.rungs
  pub new : w.new_rung ≤ q.rungs
