use Rattle.std.proofs.Common.{◌∙◌, [], ◌∷◌, ap, refl, sym}
use Rattle.std.proofs.lemmas.Result.{IfOk-weaker}
use Rattle.cli_reach.specs.Naming.{symbol_of}
use Rattle.cli_reach.proofs.naming.target_of.Goals as goal

pub returns-clause-target : goal.returns-clause-target
returns-clause-target c =
    let named = symbol_of c.args.decls.now in
    IfOk-weaker c.all_on-2.result _ _ (λ v are. record {
      first = c.in-Some.first;
      others = c.in-Some-symbol_of.second ∷ [];
      named = ap named (sym c.as_str.ensures.value) ∙ sym c.in-Some.ensures;
      both = rw c.in-Some-both.is (c.in-Some-symbol_of.second, ap named (sym c.as_str-2.ensures.value) ∙ sym c.in-Some-symbol_of.ensures, refl);
      are = are;
    }) c.all_on-2.ensures.on
