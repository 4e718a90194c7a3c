use Rattle.std.proofs.Common.{arith, refl, [], ◌∷◌, length, length-append, length-set, ap, sym, subst, ◌∙◌, ◌≡◌}
use Rattle.std.specs.Prelude.{⊤}
use Rattle.text_state.specs.Parts.{IsRead, memory_places_before, memory_records}
use Rattle.text_state.specs.StateText.{memory_places, memory_record}
use Rattle.text_state.proofs.ItemByItem.{other_memories, read_none, read_push, read_stuck_at}
use Rattle.text_state.proofs.Places.{one_not, one_there, place_cut, place_number, places_none}
use Rattle.text_state.proofs.parts.read_memories.Goals as goal

pub loop-place-init : goal.loop-place-init
loop-place-init c = (
  c.requires.plain,
  c.requires.memories,
  refl,
  ap length (sym (places_none c.args.program.now)),
  omega arith,
  λ rows left.
      subst (λ l. IsRead memory_records l c.args.state.now.held.kept.memories rows c.args.records.now) (places_none c.args.program.now)
      (read_none memory_records [] c.args.state.now.held.kept.memories rows c.args.records.now left),
)

pub loop-place-preserved-then-not-is_memory_place : goal.loop-place-preserved-then-not-is_memory_place
loop-place-preserved-then-not-is_memory_place c =
    let inv = c.loop-place.invariant in
    let same = one_not c.args.program.now c.loop-place.place (sym c.is_memory_place.ensures ∙ c.if-not-is_memory_place.true) in (
      inv.0,
      inv.1,
      inv.2,
      ap length same ∙ inv.3,
      omega (arith, inv.4),
      λ rows left.
          subst (λ l. IsRead memory_records l c.loop-place.state.held.kept.memories rows c.loop-place.records) (sym same) (inv.5 rows left),
    )

pub returns-in_default-value-clause-part : goal.returns-in_default-value-clause-part
returns-in_default-value-clause-part c = λ rows left.
    let inv = c.loop-place.invariant in
    let p = c.args.program.now in
    let place = c.loop-place.place in
    let here = sym c.is_memory_place.ensures ∙ c.if-not-is_memory_place.false in
    let cut = place_cut p place here (omega (arith, c.loop-place-test.true, c.rungs-place-end.ensures.value, c.requires.whole.size)) in
    let below = place_number p place here (omega (arith, c.loop-place-test.true, c.rungs-place-end.ensures.value, c.requires.whole.size)) in
    let h = inv.5 rows left in
    read_stuck_at memory_record (λ _ _. ⊤) (memory_places p) (memory_places_before p place) cut.0 c.loop-place.state.held.kept.memories c.loop-place.number c.args.before _ place c.in-Ok.value rows _ c.next_memory.new.records
    cut.1 inv.3 (omega (arith, inv.1, inv.3, below)) h c.in_default-value.is (c.in-Ok.ensures.takes h.rest h.left) refl

pub set_memory-requires : goal.set_memory-requires
set_memory-requires c =
    let inv = c.loop-place.invariant in
    let below = place_number c.args.program.now c.loop-place.place (sym c.is_memory_place.ensures ∙ c.if-not-is_memory_place.false) (omega (arith, c.loop-place-test.true, c.rungs-place-end.ensures.value, c.requires.whole.size)) in
    omega (arith, inv.1, inv.3, below)

pub loop-place-preserved : goal.loop-place-preserved
loop-place-preserved c =
    let inv = c.loop-place.invariant in
    let p = c.args.program.now in
    let place = c.loop-place.place in
    let here = sym c.is_memory_place.ensures ∙ c.if-not-is_memory_place.false in
    let below = place_number p place here (omega (arith, c.loop-place-test.true, c.rungs-place-end.ensures.value, c.requires.whole.size)) in
    let there = one_there p place here in
    let set_memories = ap (λ s. s.held.kept.memories) c.set_memory.ensures in
    let same = length-set c.loop-place.state.held.kept.memories c.loop-place.number c.in-Some.value in (
      c.in-Ok.ensures.plain,
      ap length set_memories ∙ same ∙ inv.1,
      other_memories c.args.state.now c.loop-place.state _ _ inv.2 c.set_memory.ensures,
      omega (arith, ap length there, length-append (memory_places_before p place) (place ∷ []), inv.3),
      omega (arith, inv.4),
      λ rows left.
          let h = inv.5 rows left in
          subst (λ l. IsRead memory_records l c.set_memory.new.self.held.kept.memories rows c.next_memory.new.records) (sym there)
          (read_push memory_record (λ _. ⊤) (memory_places_before p place) c.loop-place.state.held.kept.memories _ c.loop-place.number place c.in-Some.value c.in-Ok.value rows _ c.next_memory.new.records
          inv.3 (omega (arith, inv.1, inv.3, below)) h c.in-Some.is (c.in-Ok.ensures.takes h.rest h.left) set_memories),
    )

pub returns-clause-part : goal.returns-clause-part
returns-clause-part c = λ rows left.
    let same : c.loop-place.place ≡ length c.args.program.now.sites = omega (arith, c.rungs-place-end.ensures.value, c.requires.whole.size) in
    subst (λ n. IsRead memory_records (memory_places_before c.args.program.now n) c.loop-place.state.held.kept.memories rows c.loop-place.records) same (c.loop-place.invariant.5 rows left)
