use Rattle.std.proofs.Common.{◌≡◌, ◌∙◌, ◌+◌, ◌-◌, ◌*◌, ◌<◌, ◌≤◌, ◌^◌, ◌++◌, append-nil, ap, arith, bit_and, length, refl, rules, sym, take}
use Rattle.std.specs.Int.{trailing_zeros, w64}
use Rattle.search_tree.proofs.Marks.{none_marked}
use Rattle.search_tree.specs.Marked.{marked}
use Rattle.text_causes.specs.Rows.{row, rows}
use Rattle.text_causes.proofs.RunLaws.{left_above, lowest_of, rows_lowest, run_more}
use Rattle.text_causes.proofs.kept.Kept.write_run.Goals as goal

pub write_near-requires-clause-near : goal.write_near-requires-clause-near
write_near-requires-clause-near c =
    let left = c.loop-left.left in
    let fits : left < 2 ^ 64 = search rules in
    let t = trailing_zeros w64 left in
    let l = lowest_of c.args.run.number left t (omega (arith, c.loop-left-test.true)) fits refl in
    c.requires.near t (c.loop-left.invariant.within t l.one)

pub loop-left-preserved : goal.loop-left-preserved
loop-left-preserved c =
    let left = c.loop-left.left in
    let used = c.loop-left.used in
    let k = c.args.listed in
    let number = c.args.run.number in
    let t = trailing_zeros w64 left in
    let long = 20 + 2 * k + 1 - c.args.self.now.start in
    let fits : left < 2 ^ 64 = search rules in
    let l = lowest_of number left t (omega (arith, c.loop-left-test.true)) fits refl in
    let so_far = c.loop-left.invariant in
    let here = so_far.low t l.one in
    let short : long ≤ 77 = omega (arith, c.requires.serves.short, c.requires.kept.begins) in
    let part_long : length c.write_near.new.text ≡ 80 = search rules in
    record {
      room = search rules;
      rows = run_more c.loop-left.text c.write_near.new.text (row k (number + t)) (rows k (marked number (bit_and left (left - 1)))) (rows k (marked number c.args.run.mask))
          used long (used + 80 - used) (omega (arith, so_far.short, so_far.room)) (omega (arith, short, part_long)) c.write_near.ensures
          (so_far.rows ∙ ap (λ ys. take used c.loop-left.text ++ ys) (rows_lowest k number left t l));
      within = λ j one. so_far.within j (left_above number left t l j one).1;
      low = λ j one. let above = (left_above number left t l j one).0 in omega (arith, above, here, short);
      short = omega (arith, here, short, l.small);
    }

pub returns-clause-rows : goal.returns-clause-rows
returns-clause-rows c =
    let none : c.loop-left.left ≡ 0 = omega (arith, c.loop-left-test.false) in
    sym (c.loop-left.invariant.rows ∙ ap (λ m. take c.loop-left.used c.loop-left.text ++ rows c.args.listed (marked c.args.run.number m)) none
    ∙ ap (λ ns. take c.loop-left.used c.loop-left.text ++ rows c.args.listed ns) (none_marked c.args.run.number)
    ∙ append-nil (take c.loop-left.used c.loop-left.text))
