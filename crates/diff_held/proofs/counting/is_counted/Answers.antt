use Rattle.std.proofs.Common.{◌∙◌, ap, List}
use Rattle.st_expression.specs.Value.{held}
use Rattle.scan_signals.specs.Truth.{plain}
use Rattle.causes_query.specs.Sources.{image_of}
use Rattle.causes_query.specs.declared.source.InputSource.{InputSource}
use Rattle.assume_truth.specs.Truth.{assumed_truth}
use Rattle.assume_truth.proofs.Kept.{allowed_is}
use Rattle.diff_held.specs.Counting.{assumption}
use Rattle.diff_held.proofs.counting.is_counted.Goals as goal

pub returns : goal.returns
returns c =
    let a = c.args.counting.now in
    c.assumed_truth.ensures
    ∙ ap (λ (xs : List InputSource). assumed_truth plain (held (image_of c.args.number xs)) (assumption a)) c.deref.ensures.value
    ∙ allowed_is (image_of c.args.number a.sources.items) (assumption a)
