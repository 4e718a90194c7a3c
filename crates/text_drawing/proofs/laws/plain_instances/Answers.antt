use Rattle.std.proofs.Common.{◌≡◌, ◌∙◌, ap, arith, get_or, length, sym, take}
use Rattle.std.proofs.Math.Seq.{take-length}
use Rattle.std.proofs.lemmas.List.Elements.{All-more, All-nil, All-same}
use Rattle.diagram_declarations.specs.declared.decls.Instance.{Instance}
use Rattle.text_drawing.specs.Browser.{IsPlain}
use Rattle.text_drawing.proofs.PlainTitles.{plain_title}
use Rattle.text_drawing.proofs.laws.plain_instances.Goals as goal

pub loop-number-init : goal.loop-number-init
loop-number-init c = All-nil (λ (x : Instance). IsPlain x.title)

pub loop-number-preserved : goal.loop-number-preserved
loop-number-preserved c =
    let item = get_or c.args.instances.now c.loop-number.number c.index-instances-number.result in
    All-more (λ (x : Instance). IsPlain x.title) c.args.instances.now c.loop-number.number c.index-instances-number.result c.loop-number-test.true
    c.loop-number.invariant (plain_title item.title c.bytes-title.ensures.formed)

pub returns : goal.returns
returns c =
    let whole : c.loop-number.number ≡ length c.args.instances.now = omega arith in
    All-same (λ (x : Instance). IsPlain x.title) c.args.instances.now (take c.loop-number.number c.args.instances.now)
    (sym (ap (λ n. take n c.args.instances.now) whole ∙ take-length c.args.instances.now)) c.loop-number.invariant
