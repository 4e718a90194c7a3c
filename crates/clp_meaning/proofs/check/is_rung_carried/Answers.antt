use Rattle.std.proofs.Common.{◌+◌, ◌*◌, arith, below_more, rules}
use Rattle.std.proofs.lemmas.Nat.{div-mul-add, mod-mul-add}
use Rattle.diagram_program.specs.declared.geometry.TheConstants.{COLUMNS}
use Rattle.clp_meaning.proofs.check.is_rung_carried.Goals as goal

pub loop-place-preserved : goal.loop-place-preserved
loop-place-preserved c = below_more _ _ c.loop-place.invariant (c.is_place_carried.ensures.0 c.if-not-is_place_carried.false)

pub returns : goal.returns
returns c = (
  λ same row column in_rows in_columns.
      let place = row * COLUMNS + column in
      let carried = c.loop-place.invariant place (omega (arith, in_rows, in_columns, c.loop-place-test.false)) in
      rw (div-mul-add row COLUMNS column in_columns, mod-mul-add row COLUMNS column in_columns) at carried,
  λ carried. search rules,
)
