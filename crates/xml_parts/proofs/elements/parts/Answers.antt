use Rattle.std.proofs.Common.{rules, refl, inl, inr}
use Rattle.xml_document.specs.declared.document.Event.TheVariants as event
use Rattle.xml_parts.proofs.Places.{finds_all, finds_behind, finds_on, finds_one, finds_within, next_at}
use Rattle.xml_parts.proofs.elements.parts.Goals.{in-Open, then-depth-eq0+in_ok-push-in-Open, else-depth-eq0, in-Close-2, in-Attribute}
use Rattle.xml_parts.proofs.elements.parts.Goals as goal

pub returns-in-Close : goal.returns-in-Close
returns-in-Close c =
    finds_all c.args.document.now _ c.loop-next.parts.items c.loop-next.depth c.loop-next.next
    (next_at c.args.document.now c.loop-next.next _ event.Close (search rules) c.index.ensures c.in-Close.is) c.if-depth-eq0-2.true c.loop-next.invariant.1

pub loop-next-preserved : goal.loop-next-preserved
loop-next-preserved c =
    let d = c.args.document.now in
    let n = c.loop-next.next in
    elim c.match-index.branch [
      | in-Open w ↦ elim w.if-depth-eq0.branch [
        | then-depth-eq0+in_ok-push-in-Open x ↦ (
          search rules,
          rw (w.depth-is, w.parts-is, x.parts-is, x.in_ok-push-in-Open.ensures.items)
              (finds_one d _ c.loop-next.parts.items c.loop-next.depth n w.in-Open.name (next_at d n _ (event.Open w.in-Open.name) (search rules) c.index.ensures w.in-Open.is)
              x.if-depth-eq0.true c.loop-next.invariant.1),
        )
        | else-depth-eq0 x ↦ (
          search rules,
          rw (w.depth-is, w.parts-is, x.parts-is)
              (finds_within d _ c.loop-next.parts.items c.loop-next.depth n w.in-Open.name (next_at d n _ (event.Open w.in-Open.name) (search rules) c.index.ensures w.in-Open.is)
              x.if-depth-eq0.false c.loop-next.invariant.1),
        )
      ]
      | in-Close-2 w ↦ (
        search rules,
        rw (w.depth-is, w.parts-is)
            (finds_behind d _ c.loop-next.parts.items c.loop-next.depth n (next_at d n _ event.Close (search rules) c.index.ensures w.in-Close.is)
            w.if-depth-eq0-2.false c.loop-next.invariant.1),
      )
      | in-Attribute w ↦ (
        search rules,
        rw (w.depth-is, w.parts-is)
            (elim w.in-Attribute.is [
              | inl x ↦ finds_on d _ c.loop-next.parts.items c.loop-next.depth n _ (next_at d n _ (event.Attribute x.0 x.1) (search rules) c.index.ensures x.2) refl c.loop-next.invariant.1
              | inr x ↦ finds_on d _ c.loop-next.parts.items c.loop-next.depth n _ (next_at d n _ (event.Characters x.0) (search rules) c.index.ensures x.1) refl c.loop-next.invariant.1
            ]),
      )
    ]
