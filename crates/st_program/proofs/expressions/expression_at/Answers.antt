use Rattle.std.proofs.Common.{◌≡◌, ◌-◌, length, drop, ap, ◌∙◌, subst, arith}
use Rattle.std.proofs.lemmas.List.{length-drop}
use Rattle.st_expression.specs.Grammar.{IsExpression}
use Rattle.st_program.proofs.Expressing.{expressed}
use Rattle.st_program.proofs.expressions.expression_at.Goals as goal

pub returns-in-Ok-clause-expressed : goal.returns-in-Ok-clause-expressed
returns-in-Ok-clause-expressed c =
    let count : c.saturating_sub-taken.result ≡ length c.in_ok-tokens.tokens.items - length c.in-Ok.behind.now =
    omega (arith, c.saturating_sub-taken.ensures, c.len.ensures, c.in_ok-tokens.tokens.ok.0) in
    let rest : c.skip.result.now ≡ drop (length c.in_ok-tokens.tokens.items - length c.in-Ok.behind.now) c.args.items.now =
    c.skip.ensures ∙ ap (λ n. drop n c.args.items.now) count in
    rw rest (expressed _ _ _ _ _ c.tokens.ensures c.in_ok-tokens.ensures.1
    (subst (λ ts. IsExpression ts c.in-Ok.behind.now c.in-Ok.expression) c.deref.ensures.value c.in-Ok.ensures.read))

pub returns-in-Ok-clause-shorter : goal.returns-in-Ok-clause-shorter
returns-in-Ok-clause-shorter c = rw c.skip.ensures (omega (arith, length-drop c.saturating_sub-taken.result c.args.items.now))
