use Rattle.std.proofs.Common.{◌≡◌, length, arith, rules}
use Rattle.text_causes.proofs.NearLaws.{bits_kept}
use Rattle.text_causes.proofs.kept.Kept.keep_bits.Goals as goal

pub returns-then-self-sixties-clause-kept : goal.returns-then-self-sixties-clause-kept
returns-then-self-sixties-clause-kept c =
    let is = c.requires.kept in
    let text = c.args.self.now.text in
    let long : length text ≡ 149 = search rules in
    let part_long : length c.fill_end.new.text ≡ 129 = search rules in
    let kept = bits_kept text c.fill_end.new.text 129 c.args.listed c.args.sixties c.args.self.now.start c.args.self.now.hundreds
    (omega (arith, long)) (omega (arith, part_long, c.requires.few)) is.begins is.digits c.fill_end.ensures in
    record {
      tails = is.tails;
      pairs = is.pairs;
      whole = is.whole;
      even = c.requires.whole;
      begins = is.begins;
      digits = kept.0;
      ends = kept.1;
    }
