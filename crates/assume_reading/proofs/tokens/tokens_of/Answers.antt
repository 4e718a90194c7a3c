use Rattle.std.proofs.Common.{◌∙◌, sym}
use Rattle.assume_reading.proofs.Reading.{begin_more, token_is}
use Rattle.assume_reading.proofs.tokens.tokens_of.Goals as goal

pub loop-word-preserved : goal.loop-word-preserved
loop-word-preserved c =
    begin_more _ _ _ _ _ _ _ _ _ c.loop-word.invariant c.in-Some.ensures.first
    (token_is _ _ _ _ _ _ _ c.token_among-token.ensures c.deref.ensures.value c.in_ok-inputs.ensures c.vars.ensures.value c.bytes_of.ensures)
    (sym c.is_other.ensures ∙ c.if-is_other.false) c.in_ok-push.ensures.items
