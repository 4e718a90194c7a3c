use Rattle.std.proofs.Common.{◌≡◌, ◌∙◌, ◌+◌, ◌<◌, ◌^◌, ◌++◌, ap, append-nil, arith, length, length-append, refl, rules, sym}
use Rattle.search_tree.proofs.Marks.{marked_ones}
use Rattle.search_tree.specs.Marked.{marked}
use Rattle.text_causes.specs.CauseText.{cause_record, limited}
use Rattle.text_causes.specs.Parts.{part}
use Rattle.text_causes.specs.Rows.{rows}
use Rattle.text_causes.proofs.PartLaws.{drop_taken, limited_none, looks_at_end, looks_at_limit, part_many, part_none, part_short, takes_on}
use Rattle.text_causes.proofs.Limits.{added_many, added_none, fits_left, limited_short, lines, lines_many, many_prefix, many_within, some_left}
use Rattle.text_causes.proofs.RunLaws.{some_marked}
use Rattle.text_causes.proofs.Taking.{going_many, going_none, taken_many, takes_err}
use Rattle.io_text.proofs.Sending.{sends_err, sends_same}
use Rattle.text_causes.proofs.adding.buffer_rows.Goals as goal

pub loop-extent-init : goal.loop-extent-init
loop-extent-init g c = record {
  added = added_none _ (c.args.buffer.now ++ c.args.row_buffer.now) (lines (cause_record c.args.listed)) c.args.extent.limit (part c.args.extent.last c.args.causes.now.rest);
  going = going_none c.args.causes.now;
  part = part_none c.args.extent.last c.args.causes.now.rest;
  kept = c.requires.kept;
}

pub next_numbers-requires : goal.next_numbers-requires
next_numbers-requires g c = record {
  most = some_left c.args.extent.limit c.loop-extent.count c.rows_left.result (c.if-is_reached.ensures.no refl) c.loop-extent.invariant.added.within c.rows_left.ensures.limited c.rows_left.ensures.whole;
}

pub overflow_add-count : goal.overflow_add-count
overflow_add-count g c =
    let numbers = c.in-Some.numbers in
    let ns = marked numbers.number numbers.mask in
    let count = c.loop-extent.count in
    let fits : numbers.mask < 2 ^ 64 = search rules in
    let long : length ns ≡ c.from-count.result = marked_ones numbers.number numbers.mask fits ∙ sym c.from-count.ensures in
    let within = fits_left c.args.extent.limit count (length ns) c.rows_left.result c.loop-extent.invariant.added.within c.rows_left.ensures.limited c.in-Some.ensures.few in
    let given = many_within _ _ _ _ _ _ _ _ (part c.args.extent.last c.loop-extent.causes.rest) ns _ c.loop-extent.invariant.added c.in-Some.ensures.part within in
    let short = limited_short c.args.extent.limit (part c.args.extent.last c.args.causes.now.rest) in
    let fewer = part_short c.args.extent.last c.args.causes.now.rest in
    record { fits = omega (arith, long, given, short, fewer, c.requires.finite) }

pub loop-extent-smaller : goal.loop-extent-smaller
loop-extent-smaller g c =
    let numbers = c.in-Some.numbers in
    let ns = marked numbers.number numbers.mask in
    let fits : numbers.mask < 2 ^ 64 = search rules in
    let some = some_marked numbers.number numbers.mask c.in-Some.ensures.some fits in
    let left = c.next_numbers.new.causes.rest in
    let cut : length c.loop-extent.causes.rest ≡ length (ns ++ left) = ap length c.in-Some.ensures.gives in
    omega (arith, some, cut, length-append ns left)

pub loop-extent-preserved : goal.loop-extent-preserved
loop-extent-preserved g c =
    let numbers = c.in-Some.numbers in
    let ns = marked numbers.number numbers.mask in
    let count = c.loop-extent.count in
    let fits : numbers.mask < 2 ^ 64 = search rules in
    let long : length ns ≡ c.from-count.result = marked_ones numbers.number numbers.mask fits ∙ sym c.from-count.ensures in
    let gives = c.in-Some.ensures.gives in
    let within = fits_left c.args.extent.limit count (length ns) c.rows_left.result c.loop-extent.invariant.added.within c.rows_left.ensures.limited c.in-Some.ensures.few in
    let added = added_many _ _ _ _ _ _ (lines (cause_record c.args.listed)) count c.args.extent.limit _ (part c.args.extent.last c.loop-extent.causes.rest) ns _ (rows c.args.listed ns) (lines_many (cause_record c.args.listed) count ns)
    c.loop-extent.invariant.added c.in-Some.ensures.part within c.in_ok-add_marked.ensures.sends in
    let going = going_many c.args.causes.now c.loop-extent.causes _ count ns c.loop-extent.invariant.going gives c.in-Some.ensures.question
    (some_marked numbers.number numbers.mask c.in-Some.ensures.some fits) c.in-Some.ensures.looks in
    let left = drop_taken c.args.causes.now c.loop-extent.causes count c.loop-extent.invariant.going in
    let parted = part_many c.args.extent.last c.args.causes.now.rest c.loop-extent.causes.rest c.next_numbers.new.causes.rest count ns c.loop-extent.invariant.part c.in-Some.ensures.part
    (taken_many c.args.causes.now.rest ns c.next_numbers.new.causes.rest count c.loop-extent.invariant.going.within (left ∙ gives)) in
    record {
      added = rw long at added;
      going = rw long at going;
      part = rw long at parted;
      kept = c.in_ok-add_marked.ensures.kept;
    }

pub returns-in_err-add_marked-clause-sends : goal.returns-in_err-add_marked-clause-sends
returns-in_err-add_marked-clause-sends g c =
    let numbers = c.in-Some.numbers in
    let ns = marked numbers.number numbers.mask in
    let count = c.loop-extent.count in
    let within = fits_left c.args.extent.limit count (length ns) c.rows_left.result c.loop-extent.invariant.added.within c.rows_left.ensures.limited c.in-Some.ensures.few in
    sends_err _ _ _ _ _ _ c.from_residual.ensures.0
    (many_prefix _ _ _ _ _ (lines (cause_record c.args.listed)) count c.args.extent.limit _ (part c.args.extent.last c.loop-extent.causes.rest) ns _ (rows c.args.listed ns) (lines_many (cause_record c.args.listed) count ns)
    c.loop-extent.invariant.added c.in-Some.ensures.part within c.in_err-add_marked.ensures.sends)

pub returns-in_err-add_marked-clause-taken : goal.returns-in_err-add_marked-clause-taken
returns-in_err-add_marked-clause-taken g c =
    let numbers = c.in-Some.numbers in
    let ns = marked numbers.number numbers.mask in
    let count = c.loop-extent.count in
    let fits : numbers.mask < 2 ^ 64 = search rules in
    let within = fits_left c.args.extent.limit count (length ns) c.rows_left.result c.loop-extent.invariant.added.within c.rows_left.ensures.limited c.in-Some.ensures.few in
    takes_err _ _ _ (count + length ns) _ c.from_residual.ensures.0
    (many_within _ _ _ _ _ _ _ _ (part c.args.extent.last c.loop-extent.causes.rest) ns _ c.loop-extent.invariant.added c.in-Some.ensures.part within)
    (going_many c.args.causes.now c.loop-extent.causes _ count ns c.loop-extent.invariant.going c.in-Some.ensures.gives c.in-Some.ensures.question
    (some_marked numbers.number numbers.mask c.in-Some.ensures.some fits) c.in-Some.ensures.looks).takes

-- the limit is reached
pub returns-then-is_reached-clause-looks : goal.returns-then-is_reached-clause-looks
returns-then-is_reached-clause-looks g c =
    looks_at_limit c.args.extent.last c.args.extent.limit c.args.causes.now c.loop-extent.causes c.loop-extent.count c.loop-extent.invariant.going c.loop-extent.invariant.part (c.if-is_reached.ensures.yes refl)

-- none is left
pub returns-in_default-clause-sends : goal.returns-in_default-clause-sends
returns-in_default-clause-sends g c =
    let added = c.loop-extent.invariant.added in
    let none = limited_none c.args.extent.limit c.loop-extent.count (part c.args.extent.last c.loop-extent.causes.rest) c.in_default.ensures.part in
    sends_same _ _ _ _ added.done (rows c.args.listed (limited c.args.extent.limit (part c.args.extent.last c.args.causes.now.rest)))
    (sym (added.split ∙ ap (λ ns. added.done ++ lines (cause_record c.args.listed) c.loop-extent.count ns) none ∙ append-nil added.done)) added.sent

pub returns-in_default-clause-count : goal.returns-in_default-clause-count
returns-in_default-clause-count g c =
    let none = ap length (limited_none c.args.extent.limit c.loop-extent.count (part c.args.extent.last c.loop-extent.causes.rest) c.in_default.ensures.part) in
    omega (arith, none, c.loop-extent.invariant.added.counted)

pub returns-in_default-clause-taken : goal.returns-in_default-clause-taken
returns-in_default-clause-taken g c =
    takes_on c.args.causes.now c.loop-extent.causes c.next_numbers.new.causes c.loop-extent.count c.loop-extent.invariant.going.takes c.in_default.ensures.question (c.in_default.ensures.stays refl)

pub returns-in_default-clause-looks : goal.returns-in_default-clause-looks
returns-in_default-clause-looks g c =
    looks_at_end c.args.extent.last c.args.extent.limit c.args.causes.now c.loop-extent.causes c.next_numbers.new.causes c.loop-extent.count c.loop-extent.invariant.going c.loop-extent.invariant.part
    c.in_default.ensures.part (c.if-is_reached.ensures.no refl) c.loop-extent.invariant.added.within c.in_default.ensures.looks
