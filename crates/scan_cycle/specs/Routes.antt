-- Power flow through one rung (IEC 61131-3): power flows from the left rail to the right, along routes. Rows and columns count from 0.
use Rattle.std.specs.Prelude.{ℕ, ◌+◌, Bool, true, false, List, [], ◌∷◌, map, filter, flat_map, if◌then◌else◌, ◌==◌, zero, suc}
use Rattle.std.specs.List.{range_with_len}
use Rattle.diagram_program.specs.declared.geometry.TheConstants.{ROWS}
use Rattle.scan_signals.specs.Algebra.{Algebra}

-- A route: it starts at the left rail, or at the right end of the block at a row and column, and goes on through one cell a column.
pub data Route : Type 0 where
  rail : Route
  block_end : ℕ → ℕ → Route
  through : Route → ℕ → ℕ → Route

-- What a rung is to the power. `feeds row column from`: the right link of the cell at (from, column - 1) enters the group of the joint
-- on the left of the cell at (row, column). `is_block row column`: whether a block is there. `closed row column`: how far that cell lets
-- power through. `q row column left lower`: the Q of the block there, from its left link and that of the cell below it.
pub record Circuit (S : Type 0) : Type 0 where
  pub feeds : ℕ → ℕ → ℕ → Bool
  pub is_block : ℕ → ℕ → Bool
  pub closed : ℕ → ℕ → S
  pub q : ℕ → ℕ → S → S → S

-- All routes to the left link of the cell at a row and column: the rail in the first column, and otherwise those up to each right link
-- of the column before that feeds it. Up to the right link of a cell there is the right end of the block, where one is there, and otherwise
-- each route to its left link with the cell added.
unfoldable pub routes : (ℕ → ℕ → ℕ → Bool) → (ℕ → ℕ → Bool) → ℕ → ℕ → List Route
routes feeds is_block row zero = rail ∷ []
routes feeds is_block row (suc column) =
    let onto = λ (from : ℕ). if is_block from column then block_end from column ∷ [] else map (λ r. through r from column) (routes feeds is_block from column) in
    flat_map onto (filter (feeds row (suc column)) (range_with_len 0 ROWS))

-- The OR of a list.
unfoldable pub join_all : {S : Type 0} → Algebra S → List S → S
join_all o [] = o.known false
join_all o (x ∷ xs) = o.join x (join_all o xs)

-- What a route carries: the AND of its start and its cells. `ends row column` is the Q of the block there.
unfoldable pub route_value : {S : Type 0} → Algebra S → Circuit S → (ℕ → ℕ → S) → Route → S
route_value o g ends rail = o.known true
route_value o g ends (block_end row column) = ends row column
route_value o g ends (through r row column) = o.meet (route_value o g ends r) (g.closed row column)

-- The left link of a cell is the OR, over all routes to it, of what they carry.
abbrev pub link_with : {S : Type 0} → Algebra S → Circuit S → (ℕ → ℕ → S) → ℕ → ℕ → S
link_with o g ends row column = join_all o (map (route_value o g ends) (routes g.feeds g.is_block row column))

-- The Qs of the blocks in the columns below n: each by its own two left links, and these by blocks of earlier columns.
unfoldable pub ends_below : {S : Type 0} → Algebra S → Circuit S → ℕ → ℕ → ℕ → S
ends_below o g zero row column = o.known false
ends_below o g (suc n) row column =
    if column == n
    then g.q row column (link_with o g (ends_below o g n) row n) (link_with o g (ends_below o g n) (row + 1) n)
    else ends_below o g n row column

abbrev pub left_link : {S : Type 0} → Algebra S → Circuit S → ℕ → ℕ → S
left_link o g row column = link_with o g (ends_below o g column) row column
