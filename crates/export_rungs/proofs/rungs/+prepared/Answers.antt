use Rattle.std.proofs.Common.{◌≡◌, List, ◌++◌, ap, refl, subst, sym, ◌∙◌}
use Rattle.std.specs.List.{All}
use Rattle.export_power.specs.declared.known.Known.{Known}
use Rattle.export_rungs.specs.Standing.{IsApart, IsMeaning}
use Rattle.export_rungs.specs.Steps.{Comes}
use Rattle.export_rungs.proofs.Onward.{onward_ok}
use Rattle.export_rungs.proofs.Preparing.{prepared_by}
use Rattle.export_rungs.proofs.rungs.+prepared.Goals as goal

pub returns : goal.returns
returns t c =
    let joined : c.extend_from_slice.new.self.items ≡ c.args.known.now.items ++ c.in_ok-meanings.meanings.items =
    c.in_ok-extend_from_slice.ensures.items ∙ ap (λ (xs : List Known). c.args.known.now.items ++ xs) c.deref-3.ensures.value in
    onward_ok c.prepared.result _ _ c.prepared.ensures
    (λ rest last first before. last first
    (subst (λ (xs : List Known). Comes c.args.scan.program.now c.args.scan.variables c.args.scan.jumps c.args.rung xs c.args.done.now first c.in-Some.next.now) (sym joined)
    (prepared_by c.args.scan.program.now c.args.scan.variables c.args.scan.jumps c.args.rung c.args.known.now.items c.args.done.now
    c.in-Some.variable c.in_ok-meanings.meanings.items c.in-Some.value.now first c.args.list.now c.in-Some.next.now
    (c.if-not-is_free.ensures.low refl) (c.if-not-is_free.ensures.small refl)
    (subst (λ (xs : List Known). All (IsApart c.in-Some.variable) xs) c.deref.ensures.value (c.if-not-is_free.ensures.apart refl))
    (subst (λ (ks : List Known). All (IsMeaning c.args.scan.program.now c.args.scan.variables c.args.scan.jumps c.args.rung ks c.args.done.now c.in-Some.variable c.in-Some.value.now) c.in_ok-meanings.meanings.items) c.deref-2.ensures.value
    c.in_ok-meanings.ensures)
    c.in-Some.ensures before)))
