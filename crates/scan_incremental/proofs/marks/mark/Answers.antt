use Rattle.std.proofs.Common.{◌∙◌, Bool, List, ap, sym, map, set, get_or, true, []}
use Rattle.std.specs.Vec.{with_items}
use Rattle.std.proofs.lemmas.List.{map-set, get_or-map, with_items_is}
use Rattle.scan_incremental.proofs.marks.mark.Goals as goal

pub returns-then-number-rows : goal.returns-then-number-rows
returns-then-number-rows c =
    let row = get_or c.args.rows.now c.args.number c.index-rows-number.result in
    map-set (λ v. v.items) c.args.rows.now c.args.number (with_items row c.mark_one.new.marks)
    ∙ ap (λ (xs : List Bool). set (map (λ v. v.items) c.args.rows.now) c.args.number xs)
    (with_items_is row c.mark_one.new.marks (c.mark_one.auto.marks ∙ c.deref_mut.ensures.len)
    ∙ c.mark_one.ensures
    ∙ ap (λ (xs : List Bool). set xs c.args.rung true)
    (c.deref_mut.ensures.value ∙ sym (get_or-map (λ v. v.items) c.args.rows.now c.args.number c.index-rows-number.result [] c.if-number-rows.true)))
