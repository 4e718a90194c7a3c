use Rattle.std.specs.Prelude.{◌≡◌, ◌++◌}
use Rattle.std.specs.List.{flat_map, range_with_len}
use Rattle.diff_findings.specs.Findings.{findings_on}
use Rattle.diff_findings.proofs.listing.add_sort.Given as goal

abbrev pub invariant-loop-number : goal.invariant-loop-number
invariant-loop-number l = l.list.items ≡ l.fn.list.items ++ flat_map (λ n. findings_on l.compared.old.now l.compared.new.now l.compared.matching.now l.compared.verdicts.now (record { sort = l.sort; number = n })) (range_with_len 0 l.number)
