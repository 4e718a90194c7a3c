-- A row lies within the items.
use Rattle.std.proofs.Common.{arith, ◌≡◌, ◌<◌, length, List, ℕ, ◌+◌, ◌-◌, ◌*◌, ◌≤◌, ap, sym}
use Rattle.reach_search.specs.Tables.{rows_of}
use Rattle.reach_search.proofs.RowLaws.{length-rows_of, row_ends, rows_of-at}
use Rattle.reach_search.proofs.rows.Rows.row.Goals as goal

-- a row of so many ends within the items
ends_within : {A : Type 0} (width count number rows : ℕ) (items : List A) → rows ≡ length (rows_of width count items) → length items ≡ count * width → number < rows
    → number * width + width ≤ length items
ends_within width count number rows items e long lt =
    let n = length-rows_of width count items in
    let end = row_ends width count number (omega arith) in
    omega arith

pub overflow_mul-first : goal.overflow_mul-first
overflow_mul-first g c =
    let rows = sym (ap (λ t. length t.rows) c.self.view_is) in
    let ends = ends_within c.self.inside.width c.self.inside.count c.args.number _ c.self.inside.items.items rows c.self.invariant c.requires in
    let items : length c.deref-items.result.now ≡ length c.self.inside.items.items = ap length c.deref-items.ensures.value in
    omega (arith, c.deref-items.type_inv)

pub overflow_add-end : goal.overflow_add-end
overflow_add-end g c =
    let rows = sym (ap (λ t. length t.rows) c.self.view_is) in
    let ends = ends_within c.self.inside.width c.self.inside.count c.args.number _ c.self.inside.items.items rows c.self.invariant c.requires in
    let items : length c.deref-items.result.now ≡ length c.self.inside.items.items = ap length c.deref-items.ensures.value in
    omega (arith, c.deref-items.type_inv)

pub offset_bounds-items-first : goal.offset_bounds-items-first
offset_bounds-items-first g c =
    let rows = sym (ap (λ t. length t.rows) c.self.view_is) in
    let ends = ends_within c.self.inside.width c.self.inside.count c.args.number _ c.self.inside.items.items rows c.self.invariant c.requires in
    let items : length c.deref-items.result.now ≡ length c.self.inside.items.items = ap length c.deref-items.ensures.value in
    omega arith

pub slice_bounds-result-end : goal.slice_bounds-result-end
slice_bounds-result-end g c =
    let rows = sym (ap (λ t. length t.rows) c.self.view_is) in
    let ends = ends_within c.self.inside.width c.self.inside.count c.args.number _ c.self.inside.items.items rows c.self.invariant c.requires in
    let items : length c.deref-items.result.now ≡ length c.self.inside.items.items = ap length c.deref-items.ensures.value in
    omega arith

pub returns-clause-is : goal.returns-clause-is
returns-clause-is g c =
    let rows = ap (λ t. length t.rows) c.self.view_is in
    let count = length-rows_of c.self.inside.width c.self.inside.count c.self.inside.items.items in
    let at = rows_of-at c.self.inside.width c.self.inside.count c.self.inside.items.items c.args.number (omega arith) in
    let wide : c.args.number * c.self.inside.width + c.self.inside.width - c.args.number * c.self.inside.width ≡ c.self.inside.width = omega arith in
    rw (wide, c.deref-items.ensures.value, ← c.self.view_is) (sym at)
