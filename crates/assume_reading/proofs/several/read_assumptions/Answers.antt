use Rattle.std.proofs.Common.{string_bytes, arith, Global}
use Rattle.std.proofs.lemmas.List.{length-map}
use Rattle.assume_reading.proofs.Joining.{one_more, one_refused}
use Rattle.assume_reading.proofs.several.read_assumptions.Goals as goal

pub loop-text-preserved : goal.loop-text-preserved
loop-text-preserved c =
    let next = c.in-Ok.ensures.with in
    one_more _ _ _ _ _ _ _ _ c.loop-text.invariant c.in-Some.ensures.first next.1 next.2

pub returns-in-Err-clause-refused : goal.returns-in-Err-clause-refused
returns-in-Err-clause-refused c =
    one_refused _ _ _ _ _ _ _ _ c.loop-text.invariant c.in-Some.ensures.first
    (omega (arith, length-map c.args.texts.now (string_bytes {Z = Global}), length-map c.in-Some.behind.now (string_bytes {Z = Global})))
    c.in-Err.ensures.refused
