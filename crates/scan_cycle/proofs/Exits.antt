-- Jumps by the links of gates.
use Rattle.std.proofs.Common.{◌≡◌, ℕ, ◌+◌, Bool, cond, refl, sym, ap, Option, Some, None}
use Rattle.std.proofs.lemmas.Option.{same_Some}
use Rattle.diagram_program.specs.declared.gates.Exit.{Exit}
use Rattle.diagram_program.specs.Program.{Drawing, jump_of}
use Rattle.diagram_program.specs.Gates.{left_of, exit_by, exit_of}
use Rattle.scan_cycle.specs.RungByRung.{rung_after}
use Rattle.scan_cycle.specs.Programs.{diagram_of}
use Rattle.scan_cycle.proofs.Sound.{placed}

after_by_exit : (p : Drawing) (j : ℕ) (links : ℕ → Bool) (jump : Option (ℕ × ℕ × ℕ)) (exit : Exit) → exit_by p j jump ≡ Some exit
    → cond (links exit.left) exit.target (j + 1) ≡ rung_after j (placed jump) (λ place. links (left_of p j place))
after_by_exit p j links None exit h = cc
after_by_exit p j links (Some (row, column, target)) exit h = ap (λ (e : Exit). cond (links e.left) e.target (j + 1)) (sym (same_Some _ exit h))

after_by_none : (p : Drawing) (j : ℕ) (links : ℕ → Bool) (jump : Option (ℕ × ℕ × ℕ)) → exit_by p j jump ≡ None
    → j + 1 ≡ rung_after j (placed jump) (λ place. links (left_of p j place))
after_by_none p j links None h = refl
after_by_none p j links (Some (row, column, target)) h = cc

module _ (p : Drawing) (j : ℕ) where
  pub after_exit : (links : ℕ → Bool) (exit : Exit) → exit_of p j ≡ Some exit
      → cond (links exit.left) exit.target (j + 1) ≡ rung_after j ((diagram_of p).jump j) (λ place. links (left_of p j place))
  unfolding diagram_of
  after_exit links exit h = after_by_exit p j links (jump_of p j) exit h

  pub after_none : (links : ℕ → Bool) → exit_of p j ≡ None → j + 1 ≡ rung_after j ((diagram_of p).jump j) (λ place. links (left_of p j place))
  unfolding diagram_of
  after_none links h = after_by_none p j links (jump_of p j) h

-- of the left links only that of the jump's place is read
pub after_same : (j : ℕ) (leap : Option (ℕ × ℕ)) (l u : ℕ → Bool) → ((place target : ℕ) → leap ≡ Some (place, target) → l place ≡ u place)
    → rung_after j leap l ≡ rung_after j leap u
after_same j None l u h = refl
after_same j (Some (place, target)) l u h = ap (λ b. cond b target (j + 1)) (h place target refl)
