use Rattle.std.proofs.Common.{◌≡◌, ◌∙◌, inl, inr, ◌+◌, ◌/◌, ◌<◌, ◌^◌, ◌++◌, ap, arith, rules, sym}
use Rattle.std.proofs.lemmas.Bool.{cases_lt}
use Rattle.std.proofs.lemmas.Nat.{shr-shr}
use Rattle.search_tree.proofs.Marks.{none_marked}
use Rattle.search_tree.specs.Marked.{marked}
use Rattle.io_text.proofs.Sending.{sends_err}
use Rattle.text_causes.specs.Rows.{rows}
use Rattle.text_causes.proofs.RunLaws.{later_smaller, place_small, rows_parts, sent_all, sent_more, sent_prefix}
use Rattle.text_causes.proofs.runs.add_marked.Goals as goal

pub add_run-requires-clause-hundreds : goal.add_run-requires-clause-hundreds
add_run-requires-clause-hundreds g c = λ j one. elim (cases_lt j c.run_length-count.result) [
  | inl less ↦ c.run_length-count.ensures.hundreds j less
  | inr more ↦ absurd (let none = c.first_bits.ensures.others j more in omega (arith, one, none))
]

pub add_run-requires-clause-sixties : goal.add_run-requires-clause-sixties
add_run-requires-clause-sixties g c = λ j one. elim (cases_lt j c.run_length-count.result) [
  | inl less ↦ c.run_length-count.ensures.sixties j less
  | inr more ↦ absurd (let none = c.first_bits.ensures.others j more in omega (arith, one, none))
]

pub returns-in_err-add_run-clause-sends : goal.returns-in_err-add_run-clause-sends
returns-in_err-add_run-clause-sends g c =
    let k = c.args.listed in
    let mask = c.loop-mask.mask in
    let place = c.loop-mask.place in
    let count = c.run_length-count.result in
    let number = c.args.numbers.number in
    let fits : mask < 2 ^ 64 = search rules in
    let low = c.first_bits.ensures in
    let parts = rows_parts k number mask c.first_bits.result place count c.run_length-count.ensures.few fits low.first low.others in
    let here : c.from.result ≡ place = c.from.ensures in
    sends_err _ _ _ _ _ _ c.from_residual.ensures.0
    (sent_prefix _ _ _ _ _ _ (rows k (marked (number + place) mask)) (rows k (marked (number + place) c.first_bits.result)) _ c.loop-mask.invariant.sent parts
    (rw here at c.in_err-add_run.ensures.sends))

pub loop-mask-smaller : goal.loop-mask-smaller
loop-mask-smaller g c =
    let less = later_smaller c.loop-mask.mask c.run_length-count.result (omega (arith, c.loop-mask-test.true)) c.run_length-count.ensures.some in
    omega (arith, less, c.later_bits-mask.ensures)

pub loop-mask-preserved : goal.loop-mask-preserved
loop-mask-preserved g c =
    let k = c.args.listed in
    let mask = c.loop-mask.mask in
    let place = c.loop-mask.place in
    let count = c.run_length-count.result in
    let number = c.args.numbers.number in
    let fits : mask < 2 ^ 64 = search rules in
    let all : c.args.numbers.mask < 2 ^ 64 = search rules in
    let low = c.first_bits.ensures in
    let parts = rows_parts k number mask c.first_bits.result place count c.run_length-count.ensures.few fits low.first low.others in
    let here : c.from.result ≡ place = c.from.ensures in
    let left : mask / 2 ^ count ≡ c.later_bits-mask.result = sym c.later_bits-mask.ensures in
    let small = place_small c.args.numbers.mask mask place all c.loop-mask.invariant.shifted (omega (arith, c.loop-mask-test.true)) in
    record {
      sent = sent_more _ _ _ _ _ _ _ (rows k (marked (number + place) mask)) (rows k (marked (number + place) c.first_bits.result)) (rows k (marked (number + (place + count)) c.later_bits-mask.result))
          c.loop-mask.invariant.sent
          (parts ∙ ap (λ m. rows k (marked (number + place) c.first_bits.result) ++ rows k (marked (number + (place + count)) m)) left)
          (rw here at c.in_ok-add_run.ensures.sends);
      kept = c.in_ok-add_run.ensures.kept;
      shifted = c.later_bits-mask.ensures ∙ ap (λ m. m / 2 ^ count) c.loop-mask.invariant.shifted ∙ shr-shr c.args.numbers.mask place count;
      few = omega (arith, small, c.run_length-count.ensures.few);
    }

pub returns-clause-sends : goal.returns-clause-sends
returns-clause-sends g c =
    let none : c.loop-mask.mask ≡ 0 = omega (arith, c.loop-mask-test.false) in
    let number = c.args.numbers.number + c.loop-mask.place in
    sent_all _ _ _ _ _ (rows c.args.listed (marked number c.loop-mask.mask)) c.loop-mask.invariant.sent
    (ap (λ m. rows c.args.listed (marked number m)) none ∙ ap (rows c.args.listed) (none_marked number))
