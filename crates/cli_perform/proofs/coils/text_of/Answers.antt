use Rattle.std.proofs.Common.{◌∙◌}
use Rattle.std.specs.Str.{IsUtf8}
use Rattle.std.proofs.lemmas.Result.{IfOk-weaker}
use Rattle.cli_perform.proofs.Names.{name_utf8}
use Rattle.cli_perform.proofs.coils.text_of.Goals as goal

pub returns : goal.returns
returns c =
    let utf8 : IsUtf8 c.bytes.result.now = rw c.bytes.ensures.spelling (name_utf8 c.args.name.now c.bytes.ensures.named) in
    IfOk-weaker c.from_utf8_lossy.result _ _ (λ text same. same utf8 ∙ c.bytes.ensures.spelling) c.from_utf8_lossy.ensures.ok
