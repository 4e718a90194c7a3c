-- All that a rung uses is marked once each of its cells was.
use Rattle.std.proofs.Common.{◌≡◌, ℕ, ◌<◌, Bool, true, false, cond, refl, subst, nat_lt}
use Rattle.std.proofs.lemmas.Bool.{ltb-true}
use Rattle.diagram_program.specs.declared.geometry.TheConstants.{PLACES}
use Rattle.diagram_program.specs.declared.cell.Cell.{Cell}
use Rattle.diagram_program.specs.declared.cell.Cell.TheVariants.{Empty}
use Rattle.diagram_program.specs.Program.{Drawing, cell_of}
use Rattle.scan_cycle.specs.Programs.{diagram_of}
use Rattle.scan_incremental.specs.Resting.{UsedBy, AreUsers, HasCell}

has_either : (u : UsedBy) (j e n : ℕ) (c : Cell) (b : Bool) → nat_lt e n ≡ b → ((e < n) → HasCell u j (cond b c Empty)) → HasCell u j (cond b c Empty)
has_either u j e n c true t h = h (ltb-true e n t)
has_either u j e n c false t h = record { variables = λ v k. absurd cc; outputs = λ i k. absurd cc }

has_each : (p : Drawing) (u : UsedBy) (j e : ℕ) → ((e < PLACES) → HasCell u j ((diagram_of p).cell j e)) → HasCell u j ((diagram_of p).cell j e)
unfolding diagram_of
has_each p u j e h = has_either u j e PLACES (cell_of p j e) (nat_lt e PLACES) refl h

rungs_are : (p : Drawing) → (diagram_of p).rungs ≡ p.rungs
unfolding diagram_of
rungs_are p = refl

pub all_marked : (p : Drawing) (u : UsedBy) (n : ℕ) → p.rungs ≡ n → ((j e : ℕ) → j < n → e < PLACES → HasCell u j ((diagram_of p).cell j e)) → AreUsers (diagram_of p) u
all_marked p u n is h =
    let within : (j : ℕ) → j < (diagram_of p).rungs → j < n =
    λ j lt. subst (λ (m : ℕ). j < m) is (subst (λ (m : ℕ). j < m) (rungs_are p) lt) in
    record {
      variables = λ v j e lt k. (has_each p u j e (h j e (within j lt))).variables v k;
      outputs = λ i j e lt k. (has_each p u j e (h j e (within j lt))).outputs i k;
    }
