use Rattle.std.proofs.Common.{◌∙◌, ap, false, slice_index_or}
use Rattle.std.proofs.lemmas.List.{get_or-set_same}
use Rattle.scan_symbolic.specs.Look.{after_look}
use Rattle.scan_cycle.proofs.Kept.{get_kept}
use Rattle.scan_symbolic.proofs.lane.look_in_lane.Goals as goal

pub returns-clause-value : goal.returns-clause-value
returns-clause-value g c = λ d h now xs ys both wide_is.
    let a = g.L.Left.Operations.algebra in
    let b = g.L.Right.Operations.algebra in
    let R = g.L.Relation.related c.args.lane in
    let kept = g.met.L.Relation.kept c.args.lane in
    let there = get_kept a b R kept (after_look a d now xs h) (after_look b d now ys h) (c.related.ensures c.args.lane d h now xs ys both)
    (a.known false) (b.known false) (kept.known false) c.args.var in
    let value = slice_index_or (after_look b d now ys h) c.args.var (b.known false) in
    ap (λ w. slice_index_or w.values c.args.var (b.known false)) c.take.ensures
    ∙ get_or-set_same c.args.work.now.values c.args.var c.read-value.result (b.known false) c.requires.variable
    ∙ c.read-value.ensures value (rw wide_is there)
