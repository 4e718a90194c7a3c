-- A state that comes again goes on alike.
use Rattle.std.proofs.Common.{◌≡◌, ◌∙◌, ℕ, ◌+◌, ◌-◌, Bool, List, sym, ap, subst, arith}
use Rattle.scan_signals.specs.declared.block.Stored.{Stored}
use Rattle.scan_signals.specs.Relations.{Both}
use Rattle.scan_signals.specs.Truth.{plain}
use Rattle.scan_cycle.specs.Cells.{Diagram}
use Rattle.scan_cycle.specs.Rung.{Held}
use Rattle.scan_cycle.specs.Scan.{after_scan}
use Rattle.scan_symbolic.specs.KnownScan.{Known, after_known, plainly}
use Rattle.scan_symbolic.specs.KnownLaws.{BothKnown, KnownIsScan, ScanKeeps}
use Rattle.scan_held.specs.Later.{GoesOnAlike}
use Rattle.scan_held.specs.Shifting.{IsLater}
use Rattle.scan_symbolic.proofs.Lists.{both_same, same_both}
use Rattle.scan_symbolic.proofs.KnownPlain.{known_of, known_same}

-- two scans, the second later by the shift
abbrev pub AlikeAt : Diagram → ℕ → ℕ → ℕ → ℕ → Type 0
AlikeAt d moment shift now then = ScanKeeps d plain plain plainly plainly (λ x y. x ≡ y) (λ inst. IsLater (d.preset inst) moment shift) now then

pub goes_on_alike : (d : Diagram) → KnownIsScan d
    → ((moment wait shift : ℕ) → AlikeAt d moment shift (moment + wait) (moment + wait + shift)) → GoesOnAlike d
goes_on_alike d known keeps moment shift now le inputs h g later =
    let Q = λ (inst : ℕ). IsLater (d.preset inst) moment shift in
    let is : (at : ℕ) (x : Held) → after_known plain plainly d at inputs (known_of x) ≡ known_of (after_scan d at inputs x) = λ at x.
    ap (after_known plain plainly d at inputs) (sym (known_same x)) ∙ known x at inputs ∙ known_same (after_scan d at inputs x) in
    let start : BothKnown (λ x y. x ≡ y) Q (known_of h) (known_of g) = record {
      values = subst (λ (ys : List Bool). Both (λ x y. x ≡ y) h.values ys) later.values (same_both h.values);
      memories = subst (λ (ys : List Bool). Both (λ x y. x ≡ y) h.kept.memories ys) later.memories (same_both h.kept.memories);
      blocks = later.blocks;
    } in
    let begins : moment + (now - moment) ≡ now = omega (arith, le) in
    let keep : AlikeAt d moment shift now (now + shift) = subst (λ (n : ℕ). AlikeAt d moment shift n (n + shift)) begins (keeps moment (now - moment) shift) in
    let both = keep inputs inputs (same_both inputs) (known_of h) (known_of g) start in
    let end : BothKnown (λ x y. x ≡ y) Q (known_of (after_scan d now inputs h)) (known_of (after_scan d (now + shift) inputs g)) =
    subst (λ (l : Known Bool Stored). BothKnown (λ x y. x ≡ y) Q (known_of (after_scan d now inputs h)) l) (is (now + shift) g)
    (subst (λ (k : Known Bool Stored). BothKnown (λ x y. x ≡ y) Q k (after_known plain plainly d (now + shift) inputs (known_of g))) (is now h) both) in
    record { values = both_same _ _ end.values; memories = both_same _ _ end.memories; blocks = end.blocks }
