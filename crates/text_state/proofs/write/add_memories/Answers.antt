use Rattle.std.proofs.Common.{◌≡◌, ◌∙◌, ◌∷◌, [], arith, ap, length, length-append, slice_get, subst, sym}
use Rattle.io_text.specs.Text.{lines_text}
use Rattle.io_text.proofs.Lines.{line_prefix, line_more}
use Rattle.text_state.specs.StateText.{memory_record}
use Rattle.text_state.specs.Parts.{each, memory_places_before, memory_records}
use Rattle.io_text.specs.Buffer.{SendsAll}
use Rattle.io_text.proofs.Sending.{sends_none, sends_err}
use Rattle.text_state.proofs.Places.{one_not, one_there, place_cut, place_number, places_none}
use Rattle.text_state.proofs.Written.{each_apart}
use Rattle.text_state.proofs.write.add_memories.Goals as goal

pub loop-place-init : goal.loop-place-init
loop-place-init g c = (
  ap length (sym (places_none c.args.program.now)),
  omega arith,
  subst (λ l. SendsAll (g.W.Sink.log c.args.writer.now) (g.W.Sink.log c.args.writer.now) c.args.buffer.now c.args.buffer.now (lines_text (each memory_records l c.args.state.now.held.kept.memories)))
      (places_none c.args.program.now) (sends_none (g.W.Sink.log c.args.writer.now) c.args.buffer.now),
)

pub loop-place-preserved-then-not-is_memory_place : goal.loop-place-preserved-then-not-is_memory_place
loop-place-preserved-then-not-is_memory_place g c =
    let inv = c.loop-place.invariant in
    let same = one_not c.args.program.now c.loop-place.place (sym c.is_memory_place.ensures ∙ c.if-not-is_memory_place.true) in (
      ap length same ∙ inv.0,
      omega (arith, inv.1),
      subst (λ l. SendsAll (g.W.Sink.log c.args.writer.now) (g.W.Sink.log c.loop-place.writer) c.args.buffer.now c.loop-place.buffer (lines_text (each memory_records l c.args.state.now.held.kept.memories)))
          (sym same) inv.2,
    )

pub memory-requires : goal.memory-requires
memory-requires g c =
    let inv = c.loop-place.invariant in
    let below = place_number c.args.program.now c.loop-place.place (sym c.is_memory_place.ensures ∙ c.if-not-is_memory_place.false)
    (omega (arith, c.loop-place-test.true, c.rungs-place-end.ensures.value, c.rungs-place-end.ensures.whole.size)) in
    omega (arith, inv.0, below, c.requires)

pub returns-in_err-add_memory : goal.returns-in_err-add_memory
returns-in_err-add_memory g c = sends_err _ _ _ _ _ _ c.from_residual.ensures.0
    (let inv = c.loop-place.invariant in
    let p = c.args.program.now in
    let place = c.loop-place.place in
    let memories = c.args.state.now.held.kept.memories in
    let cut = place_cut p place (sym c.is_memory_place.ensures ∙ c.if-not-is_memory_place.false)
    (omega (arith, c.loop-place-test.true, c.rungs-place-end.ensures.value, c.rungs-place-end.ensures.whole.size)) in
    line_prefix _ _ _ _ _ _ _ _ _
    (ap (λ l. each memory_records l memories) cut.1
    ∙ each_apart memory_record (memory_places_before p place) cut.0 memories place c.memory.result (ap (slice_get memories) inv.0 ∙ c.memory.ensures))
    inv.2 c.in_err-add_memory.ensures)

pub loop-place-preserved : goal.loop-place-preserved
loop-place-preserved g c =
    let inv = c.loop-place.invariant in
    let p = c.args.program.now in
    let place = c.loop-place.place in
    let memories = c.args.state.now.held.kept.memories in
    let there = one_there p place (sym c.is_memory_place.ensures ∙ c.if-not-is_memory_place.false) in (
      omega (arith, ap length there, length-append (memory_places_before p place) (place ∷ []), inv.0),
      omega (arith, inv.1),
      line_more _ _ _ _ _ _ _ _ _
          (ap (λ l. each memory_records l memories) there
          ∙ each_apart memory_record (memory_places_before p place) [] memories place c.memory.result (ap (slice_get memories) inv.0 ∙ c.memory.ensures))
          inv.2 c.in_ok-add_memory.ensures,
    )

pub returns : goal.returns
returns g c =
    let same : c.loop-place.place ≡ length c.args.program.now.sites = omega (arith, c.rungs-place-end.ensures.value, c.rungs-place-end.ensures.whole.size) in
    subst (λ n. SendsAll (g.W.Sink.log c.args.writer.now) (g.W.Sink.log c.loop-place.writer) c.args.buffer.now c.loop-place.buffer
    (lines_text (each memory_records (memory_places_before c.args.program.now n) c.args.state.now.held.kept.memories)))
    same c.loop-place.invariant.2
