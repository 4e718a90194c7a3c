-- Scans keep the number of variables.
use Rattle.std.proofs.Common.{◌≡◌, ◌∙◌, ◌∷◌, [], ℕ, suc, zero, Bool, true, false, List, cond, length, nat_lt, refl, sym}
use Rattle.scan_cycle.specs.Cells.{Diagram}
use Rattle.scan_cycle.specs.Rung.{Held, evaluated, frame_of}
use Rattle.scan_cycle.specs.Runs.{OneScan, after_each}
use Rattle.scan_cycle.specs.Scan.{after_scan, evaluated_from, given, next_rung}
use Rattle.scan_cycle.proofs.Sizes.{rung_sizes, size-given}

one_of_both : (b : Bool) (g h : Held) → length g.values ≡ length h.values → length (cond b g h).values ≡ length h.values
one_of_both true g h e = e
one_of_both false g h e = refl

rungs_keep : (d : Diagram) (now most j : ℕ) (h : Held) → length (evaluated_from d now most j h).values ≡ length h.values
unfolding evaluated_from
rungs_keep d now zero j h = refl
rungs_keep d now (suc most) j h =
    let next = evaluated d now j h in
    let sizes = rung_sizes d now j h next (frame_of h) refl refl in
    one_of_both (nat_lt j d.rungs) (evaluated_from d now most (next_rung d now j h) next) h (rungs_keep d now most (next_rung d now j h) next ∙ sym sizes.values)

scan_keeps : (d : Diagram) (now : ℕ) (inputs : List Bool) (h : Held) → length (after_scan d now inputs h).values ≡ length h.values
scan_keeps d now inputs h =
    rungs_keep d now d.rungs 0 (record { values = given d.inputs inputs h.values; kept = h.kept }) ∙ size-given d.inputs inputs h.values

pub scans_keep : (d : Diagram) (scans : List OneScan) (h : Held) → length (after_each d scans h).values ≡ length h.values
unfolding after_each
scans_keep d [] h = refl
scans_keep d (scan ∷ scans) h =
    scans_keep d scans (after_scan d scan.moment scan.inputs h) ∙ scan_keeps d scan.moment scan.inputs h
