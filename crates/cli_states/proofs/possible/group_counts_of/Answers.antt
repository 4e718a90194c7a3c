use Rattle.std.proofs.Common.{◌∙◌, ap, ap₂, arith, length, sym}
use Rattle.search_groups.specs.Classes.{numbers_in}
use Rattle.cli_questions.specs.declared.counting.ListCounts.TheVariants as counts
use Rattle.cli_states.proofs.PossibleEnds.{group_counts_some}
use Rattle.cli_states.proofs.possible.group_counts_of.Goals as goal

pub returns-in_default : goal.returns-in_default
returns-in_default c = λ k groups count.
    ap₂ (λ m n. counts.AssumedPossibleGroups m n c.args.summary.unsettled c.args.expressions) count.0 count.1
    ∙ ap (λ n. counts.AssumedPossibleGroups (length groups) (numbers_in k groups) n c.args.expressions) count.2
    ∙ sym (group_counts_some c.args.expressions k groups (omega arith))
