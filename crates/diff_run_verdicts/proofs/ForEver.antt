-- What stays alike for ever is never shown to differ.
use Rattle.std.proofs.Common.{◌≡◌, ◌∙◌, ◌<◌, ◌∷◌, Contains, List, [], Some, ap, arith, length, map, slice_get, ℕ}
use Rattle.std.specs.List.{All}
use Rattle.std.proofs.lemmas.List.Elements.{All-contains}
use Rattle.std.proofs.lemmas.Option.{get_or_from_slice_get, slice_get-get_or, slice_get_within}
use Rattle.diagram_declarations.specs.declared.decls.Symbol.{Symbol}
use Rattle.diagram_declarations.specs.declared.decls.Symbol.TheVariants as symbol
use Rattle.diagram_program.specs.Program.{Drawing}
use Rattle.scan_signals.specs.Blocks.{q_of}
use Rattle.scan_cycle.specs.Programs.{diagram_of}
use Rattle.scan_cycle.specs.Rung.{Held}
use Rattle.scan_cycle.specs.Runs.{after_each}
use Rattle.scan_cycle.specs.Standing.{Standing, fresh}
use Rattle.diff_matching.specs.declared.matching.Pair.{Pair}
use Rattle.diff_matching.specs.Matching.{Agree, AgreeOnInputs, Matching}
use Rattle.diff_matching.specs.Runs.{AgreeAfterEach, AreRuns, TwoScans, new_scan, next, old_scan, with_inputs}
use Rattle.diff_runs.specs.Showing.{AreAlikeAfter, BelongTogether, is_on, left_by}
use Rattle.diff_runs.specs.declared.symbols.TwoSymbols.{TwoSymbols}
use Rattle.diff_run_verdicts.specs.Lasting.{IsOneOf, StayAlike}

-- what a list contains is at a place of it
found_at : (xs : List Pair) (x : Pair) (h : Contains xs x) → slice_get xs h.0 ≡ Some x
found_at xs x h = slice_get-get_or xs h.0 x h.1 ∙ ap (λ (y : Pair). Some y) h.2

contained : (xs : List Pair) (k : ℕ) (x : Pair) → slice_get xs k ≡ Some x → Contains xs x
contained xs k x is = (k, slice_get_within xs k x is, get_or_from_slice_get xs k x x is)

-- Runs by a matching are runs by one of which each pair of inputs is one of it.
module _ (a m : Matching) (p q : Drawing) (within : All (IsOneOf m.inputs) a.inputs) where
  fewer_inputs : (s t : Held) → AgreeOnInputs m s t → AgreeOnInputs a s t
  fewer_inputs s t agree = λ n x at.
      let there : Contains m.inputs x = (All-contains (IsOneOf m.inputs) a.inputs x within (contained a.inputs n x at)).among in
      agree there.0 x (found_at m.inputs x there)

  same_runs : (scans : List TwoScans) (s t : Standing) → AreRuns m p q scans s t → AreRuns a p q scans s t
  unfolding AreRuns
  same_runs [] s t runs = tt
  same_runs (scan ∷ more) s t runs = (
    runs.0,
    runs.1,
    runs.2,
    fewer_inputs (with_inputs p scan.old s).held (with_inputs q scan.new t).held runs.3,
    same_runs more (next p scan.moment scan.old s) (next q scan.moment scan.new t) runs.4,
  )

-- What agrees after each scan does so after the last one.
last_agree : (a : Matching) (p q : Drawing) (scans : List TwoScans) (s t : Standing) → AgreeAfterEach a p q scans s t → 0 < length scans
    → Agree a (after_each (diagram_of p) (map old_scan scans) s.held) (after_each (diagram_of q) (map new_scan scans) t.held)
unfolding AgreeAfterEach after_each
last_agree a p q [] s t agree some = absurd (omega (arith, some))
last_agree a p q (x ∷ []) s t agree some = agree.0
last_agree a p q (x ∷ y ∷ more) s t agree some =
    last_agree a p q (y ∷ more) (next p x.moment x.old s) (next q x.moment x.new t) agree.1 (omega arith)

-- Symbols that belong together are alike where states agree.
symbols_agree : (a : Matching) (i j : Symbol) → BelongTogether a i j → (h g : Held) → Agree a h g → is_on i h ≡ is_on j g
symbols_agree a (symbol.Var i) (symbol.Var j) pair h g agree =
    agree.variables pair.0 (record { old = i; new = j }) (found_at a.variables (record { old = i; new = j }) pair)
symbols_agree a (symbol.Instance i) (symbol.Instance j) pair h g agree =
    ap q_of (agree.instances pair.0 (record { old = i; new = j }) (found_at a.instances (record { old = i; new = j }) pair))
symbols_agree a (symbol.Var i) (symbol.Instance j) pair h g agree = absurd pair
symbols_agree a (symbol.Instance i) (symbol.Var j) pair h g agree = absurd pair

pub never_shown : (a m : Matching) (p q : Drawing) → StayAlike a m p q → (x : TwoSymbols) → BelongTogether a x.old x.new
    → (scans : List TwoScans) → 0 < length scans → AreRuns m p q scans (fresh p) (fresh q) → AreAlikeAfter p q x scans
never_shown a m p q alike x pair scans some runs =
    symbols_agree a x.old x.new pair (left_by p (map old_scan scans)) (left_by q (map new_scan scans))
    (last_agree a p q scans (fresh p) (fresh q) (alike.agree scans (same_runs a m p q alike.inputs scans (fresh p) (fresh q) runs)) some)
