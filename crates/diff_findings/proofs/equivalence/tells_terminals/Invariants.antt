use Rattle.std.specs.Prelude.{◌≡◌, false, take}
use Rattle.std.specs.List.{list_any}
use Rattle.diff_findings.specs.Equivalence.{is_about_terminals}
use Rattle.diff_findings.proofs.equivalence.tells_terminals.Given as goal

abbrev pub invariant-loop-finding : goal.invariant-loop-finding
invariant-loop-finding l = list_any (is_about_terminals l.compared.old.now l.compared.new.now) (take l.finding-index l.list) ≡ false
