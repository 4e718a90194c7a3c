use Rattle.std.proofs.Common.{◌∙◌, ap, arith, sym}
use Rattle.std.specs.Prelude.{◌≡◌, Some, slice_get, true}
use Rattle.std.proofs.lemmas.Option.{get_or_from_slice_get, slice_get_within}
use borrow.Author.Count.{below_more}
use Rattle.diagram_declarations.specs.declared.decls.Var.{Var}
use Rattle.diagram_declarations.specs.Name.{is_name}
use Rattle.text_runs.proofs.laws.named.Goals as goal

pub loop-number-init : goal.loop-number-init
loop-number-init c = λ number h. absurd (omega (arith, h))

pub loop-number-preserved : goal.loop-number-preserved
loop-number-preserved c =
    let vars = c.args.vars.now in
    let n = c.loop-number.number in
    below_more (λ k. (v : Var) → slice_get vars k ≡ Some v → is_name v.name ≡ true) n c.loop-number.invariant
    (λ v there. ap (λ (w : Var). is_name w.name) (sym (get_or_from_slice_get vars n v c.index-vars-number.result there)) ∙ c.bytes-name.ensures.named)

pub returns : goal.returns
returns c = λ number v there. c.loop-number.invariant number (omega (arith, slice_get_within c.args.vars.now number v there)) v there
