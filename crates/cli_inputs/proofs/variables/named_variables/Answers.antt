use Rattle.std.proofs.Common.{◌≡◌, ◌∙◌, ap, string_bytes, None, ◌+◌, length, map, subst, sym, ℕ, ◌++◌}
use Rattle.cli_inputs.specs.Variables.{IsUnknownWord, variable_of}
use Rattle.cli_inputs.proofs.UnknownWords.{unknown_item}
use Rattle.cli_inputs.proofs.variables.named_variables.Goals as goal

pub returns-in_default-clause-fault : goal.returns-in_default-clause-fault
returns-in_default-clause-fault c = λ before named are first.
    let unknown : variable_of c.args.decls.now (string_bytes c.word-item.result) ≡ None = cc in
    let number : length c.loop-word.variables.items + (length before + 1) ≡ c.len.result + c.args.first =
    ap (λ n. n + (length before + 1)) (sym (c.len.ensures ∙ c.loop-word.variables.ok.0)) ∙ ap (λ n. c.len.result + n) first in
    subst (λ (n : ℕ). IsUnknownWord c.args.decls.now (before ++ map string_bytes c.args.words.now) n) number
    (unknown_item c.args.decls.now before named string_bytes c.args.words.now c.loop-word.word-index c.word-item.result _
    are c.loop-word-test.true c.word-item.is unknown c.loop-word.invariant)
