use Rattle.std.proofs.Common.{◌≡◌, ℕ, List, ◌++◌, Bor}
use Rattle.std.proofs.lemmas.Bool.Decides.{Decides-eqb}
use Rattle.std.proofs.lemmas.Slice.Eq.{strip_prefix_is}
use Rattle.export_program.proofs.Prefixes.{of_value}
use Rattle.export_program.proofs.naming.behind.Goals as goal

pub returns : goal.returns
returns c =
    of_value c.strip_prefix.result _ (λ (rest : Bor (List ℕ)). c.args.word.now ≡ c.args.name.now ++ rest.now)
    (strip_prefix_is Decides-eqb c.args.word.now c.args.name.now c.strip_prefix.result c.strip_prefix.ensures.cases)
