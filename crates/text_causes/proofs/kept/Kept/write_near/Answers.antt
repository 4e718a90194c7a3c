use Rattle.std.proofs.Common.{◌≡◌, ◌∙◌, ◌-◌, ◌+◌, ◌*◌, ◌<◌, ◌^◌, ap, arith, length, rules, take}
use lib.Lanes.{put_chunk}
use Rattle.text_causes.proofs.NearLaws.{low_bits, low_digits, near_written, two_digits}
use Rattle.text_causes.proofs.kept.Kept.write_near.Goals as goal

pub overflow_sub-self : goal.overflow_sub-self
overflow_sub-self c =
    let kept = c.args.self.now in
    let fits : kept.hundreds < 2 ^ 64 = search rules in
    omega (arith, c.requires.kept.begins, two_digits kept.hundreds c.requires.serves.large fits)

pub returns : goal.returns
returns c =
    let kept = c.args.self.now in
    let k = c.args.listed in
    let fits : kept.hundreds < 2 ^ 64 = search rules in
    let begin = two_digits kept.hundreds c.requires.serves.large fits in
    let begins = c.requires.kept.begins in
    let text_long : length kept.text ≡ 149 = search rules in
    let pairs_long : length kept.pairs ≡ 200 = search rules in
    let tails_long : length kept.tails ≡ 1024 = search rules in
    let n = c.args.first + c.args.place in
    let low = low_digits c.args.first kept.hundreds c.requires.kept.whole c.requires.first.hundreds in
    let bits = low_bits c.args.first kept.sixties c.requires.kept.even c.requires.first.sixties in
    let two = 2 * (c.args.first - kept.hundreds + c.args.place) in
    let ten = 16 * (c.args.first - kept.sixties + c.args.place) in
    let n_fits : n < 2 ^ 64 = omega (arith, c.requires.place, c.requires.range) in
    let digits = 18 - kept.start in
    let long = 20 + 2 * k + 1 - kept.start in
    let d_is : digits + kept.start ≡ 18 = omega (arith, begins, begin) in
    let long_is : long + kept.start ≡ 21 + 2 * k = omega (arith, begins, begin) in
    let tail_is : long - 13 + 13 ≡ long = omega (arith, begins, begin, c.requires.serves.wide) in
    ap (take long) (c.store-3.ensures ∙ ap (λ t. put_chunk (long - 13) t c.load-2.result) (c.store-2.ensures ∙ ap (λ t. put_chunk digits t c.load.result) c.store.ensures))
    ∙ near_written kept c.args.text.now c.args.front c.load.result c.load-2.result k n digits (long - 13) long two ten
    c.requires.kept c.requires.serves c.requires.near fits n_fits c.requires.few
    c.requires.room text_long pairs_long tails_long c.requires.front c.load.ensures (omega (arith, low.0)) c.load-2.ensures (omega (arith, bits.0)) d_is long_is tail_is
