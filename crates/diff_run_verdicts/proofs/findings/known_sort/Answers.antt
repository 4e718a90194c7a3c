use Rattle.std.proofs.Common.{◌≡◌, ◌∙◌, ◌+◌, List, refl, slice_get, subst, sym}
use Rattle.std.proofs.lemmas.Option.{slice_get-get_or}
use Rattle.diff_matching.specs.declared.matching.Pair.{Pair}
use Rattle.diff_runs.specs.Assuming.{assumptions}
use Rattle.diff_runs.specs.declared.symbols.TwoSymbols.{TwoSymbols}
use Rattle.diff_search.specs.Differences.{IsTrueInRunsAssuming}
use Rattle.diff_search.specs.declared.difference.RunDifference.{RunDifference}
use Rattle.diff_run_verdicts.proofs.Listing.{AreSoBelow, so_more}
use Rattle.diff_run_verdicts.proofs.findings.known_sort.Goals as goal

pub loop-number-preserved : goal.loop-number-preserved
loop-number-preserved c =
    let k = c.args.known in
    let Is = IsTrueInRunsAssuming (assumptions k.assumed) k.matching.now k.old.now k.new.now in
    let n = c.loop-number.number in
    subst (λ (xs : List RunDifference). AreSoBelow Is k.matching.now c.args.sort (n + 1) xs) (sym {A = List RunDifference} c.in_ok-push.ensures.items)
    (so_more Is k.matching.now c.args.sort n _ c.known_of.result c.loop-number.list.items
    (subst (λ (xs : List Pair). slice_get xs n ≡ slice_get c.pairs_of-pairs.result.now n) c.pairs_of-pairs.ensures refl ∙ slice_get-get_or c.pairs_of-pairs.result.now n (record { old = 0; new = 0 }) c.loop-number-test.true)
    c.loop-number.invariant (subst (λ (x : TwoSymbols). Is x c.known_of.result) c.symbols_of.ensures c.known_of.ensures))
