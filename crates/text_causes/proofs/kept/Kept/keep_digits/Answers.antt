use Rattle.std.proofs.Common.{◌+◌, ◌*◌, ◌∙◌, ap, rules, take}
use Rattle.std.proofs.lemmas.Fmt.{length-decimal-le}
use Rattle.text_causes.proofs.NearLaws.{digits_kept}
use Rattle.text_causes.proofs.kept.Kept.keep_digits.Goals as goal

pub write_digits-self-requires : goal.write_digits-self-requires
write_digits-self-requires c = (search (rules, length-decimal-le 20), search rules)

pub returns-then-self-hundreds-clause-kept : goal.returns-then-self-hundreds-clause-kept
returns-then-self-hundreds-clause-kept c = λ k few is.
    let written = c.write_digits-self.ensures in
    let kept = digits_kept c.args.self.now.text c.write_digits-self.new.buf c.write_digits-self.result c.args.hundreds written.start written.written in
    record {
      tails = is.tails;
      pairs = is.pairs;
      whole = c.requires.whole;
      even = is.even;
      begins = written.start;
      digits = kept.0;
      ends = ap (take (2 * k + 1)) kept.1 ∙ is.ends;
    }
