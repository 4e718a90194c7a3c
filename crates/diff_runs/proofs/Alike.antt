-- What is alike in two programs after the last of some scans.
use Rattle.std.proofs.Common.{◌≡◌, ap, arith, length, map, ◌<◌, List, [], ◌∷◌}
use Rattle.diagram_declarations.specs.declared.decls.Symbol.{Symbol}
use Rattle.diagram_declarations.specs.declared.decls.Symbol.TheVariants as symbol
use Rattle.diagram_program.specs.Program.{Drawing}
use Rattle.scan_signals.specs.Blocks.{q_of}
use Rattle.scan_cycle.specs.Programs.{diagram_of}
use Rattle.scan_cycle.specs.Rung.{Held}
use Rattle.scan_cycle.specs.Runs.{after_each}
use Rattle.scan_cycle.specs.Standing.{Standing, fresh}
use Rattle.diff_matching.specs.Matching.{Agree, Matching}
use Rattle.diff_matching.specs.Runs.{AgreeAfterEach, AreRuns, TwoScans, new_scan, next, old_scan}
use Rattle.diff_runs.specs.Beside.{AgreeFromFresh}
use Rattle.diff_runs.specs.Showing.{BelongTogether, is_on, left_by}
use Rattle.diff_runs.proofs.Pairs.{found_at}

-- What agrees after each scan does so after the last one.
module _ {A : Type 0} (m : Matching) (p b : Drawing) (two : A → TwoScans) where
  last_agree : (xs : List A) (s t : Standing) → AgreeAfterEach m p b (map two xs) s t → 0 < length xs
      → Agree m (after_each (diagram_of p) (map (λ x. old_scan (two x)) xs) s.held) (after_each (diagram_of b) (map (λ x. new_scan (two x)) xs) t.held)
  unfolding AgreeAfterEach after_each
  last_agree [] s t agree some = absurd (omega (arith, some))
  last_agree (x ∷ []) s t agree some = agree.0
  last_agree (x ∷ y ∷ more) s t agree some =
      last_agree (y ∷ more) (next p (two x).moment (two x).old s) (next b (two x).moment (two x).new t) agree.1 (omega arith)

-- Symbols that belong together are alike where states agree.
symbols_agree : (m : Matching) (a i : Symbol) → BelongTogether m a i → (h g : Held) → Agree m h g → is_on a h ≡ is_on i g
symbols_agree m (symbol.Var a) (symbol.Var i) pair h g agree = agree.variables pair.0 (record { old = a; new = i }) (found_at m.variables (record { old = a; new = i }) pair)
symbols_agree m (symbol.Instance a) (symbol.Instance i) pair h g agree =
    ap q_of (agree.instances pair.0 (record { old = a; new = i }) (found_at m.instances (record { old = a; new = i }) pair))
symbols_agree m (symbol.Var a) (symbol.Instance i) pair h g agree = absurd pair
symbols_agree m (symbol.Instance a) (symbol.Var i) pair h g agree = absurd pair

-- So they are after the last scan of runs from the fresh states on.
pub alike_after : {A : Type 0} (m : Matching) (p b : Drawing) → AgreeFromFresh m p b → (two : A → TwoScans) (xs : List A) → 0 < length xs
    → AreRuns m p b (map two xs) (fresh p) (fresh b) → (a i : Symbol) → BelongTogether m a i
    → is_on a (left_by p (map (λ x. old_scan (two x)) xs)) ≡ is_on i (left_by b (map (λ x. new_scan (two x)) xs))
alike_after m p b agree two xs some runs a i pair =
    symbols_agree m a i pair (left_by p (map (λ x. old_scan (two x)) xs)) (left_by b (map (λ x. new_scan (two x)) xs))
    (last_agree m p b two xs (fresh p) (fresh b) (agree (map two xs) runs) some)
