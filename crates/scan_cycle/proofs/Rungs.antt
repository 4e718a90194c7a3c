-- One rung more of a scan.
use Rattle.std.proofs.Common.{◌≡◌, ℕ, ◌+◌, ◌<◌, ◌≤◌, cond, add-one, refl, ap, ◌∙◌}
use Rattle.std.proofs.lemmas.Bool.{lt-ltb, le-ltb}
use Rattle.scan_cycle.specs.Cells.{Diagram}
use Rattle.scan_cycle.specs.Rung.{Held, evaluated}
use Rattle.scan_cycle.specs.Scan.{next_rung}
use Rattle.scan_cycle.specs.RungByRung.{scanned}

pub passed_over : (d : Diagram) (now : ℕ) (h : Held) (j : ℕ) → j < (scanned d now h j).resume → scanned d now h (j + 1) ≡ scanned d now h j
unfolding scanned
passed_over d now h j lt =
    ap (scanned d now h) (add-one j)
    ∙ ap (λ b. cond b (scanned d now h j) (record { held = evaluated d now j (scanned d now h j).held; resume = next_rung d now j (scanned d now h j).held })) (lt-ltb j _ lt)

pub gone_through : (d : Diagram) (now : ℕ) (h : Held) (j : ℕ) → (scanned d now h j).resume ≤ j → scanned d now h (j + 1) ≡ record { held = evaluated d now j (scanned d now h j).held; resume = next_rung d now j (scanned d now h j).held }
unfolding scanned
gone_through d now h j le =
    ap (scanned d now h) (add-one j)
    ∙ ap (λ b. cond b (scanned d now h j) (record { held = evaluated d now j (scanned d now h j).held; resume = next_rung d now j (scanned d now h j).held })) (le-ltb j _ le)

pub at_first : (d : Diagram) (now : ℕ) (h : Held) → (scanned d now h 0).held ≡ h
unfolding scanned
at_first d now h = refl

pub resume_first : (d : Diagram) (now : ℕ) (h : Held) → (scanned d now h 0).resume ≡ 0
unfolding scanned
resume_first d now h = refl
