use Rattle.std.proofs.Common.{List, subst}
use Rattle.std.specs.List.{All}
use Rattle.diff_matching.specs.declared.matching.Pair.{Pair}
use Rattle.diff_run_verdicts.specs.Lasting.{IsOneOf}
use Rattle.diff_run_verdicts.proofs.lasting.have_its_inputs.Goals as goal

pub returns : goal.returns
returns c = λ yes.
    subst (λ (xs : List Pair). All (IsOneOf xs) c.args.alike.now.inputs) c.inputs-2.ensures
    (subst (λ (ys : List Pair). All (IsOneOf c.inputs-2.result.now) ys) c.inputs.ensures (c.are_among.ensures yes))
