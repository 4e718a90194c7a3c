-- Places in the order of reading.
use Rattle.std.proofs.Common.{◌≡◌, ℕ, ◌+◌, ◌*◌, ◌/◌, ◌%◌, ◌<◌, ◌⊎◌, inl, inr, arith}
use Rattle.std.proofs.lemmas.Bool.{cases_lt}
use Rattle.diagram_program.specs.declared.geometry.TheConstants.{ROWS, COLUMNS, PLACES}
use Rattle.diagram_program.specs.AllPlaces.{reading_place}

pub rung_of_place : (k r c : ℕ) → r < ROWS → c < COLUMNS → reading_place k r c / PLACES ≡ k
rung_of_place k r c rows columns = omega arith

pub row_of_place : (k r c : ℕ) → r < ROWS → c < COLUMNS → reading_place k r c % PLACES / COLUMNS ≡ r
row_of_place k r c rows columns = omega arith

pub column_of_place : (k r c : ℕ) → r < ROWS → c < COLUMNS → reading_place k r c % PLACES % COLUMNS ≡ c
column_of_place k r c rows columns = omega arith

pub at_row : (P : ℕ → ℕ → Type 0) (r c : ℕ) → c < COLUMNS → P r c → P ((COLUMNS * r + c) / COLUMNS) ((COLUMNS * r + c) % COLUMNS)
at_row P r c columns h =
    let row : (COLUMNS * r + c) / COLUMNS ≡ r = omega arith in
    let column : (COLUMNS * r + c) % COLUMNS ≡ c = omega arith in
    rw (row, column) h

-- One place comes before another, by rung, row and column, exactly where its number is less.
pub earlier : (j q d k r c : ℕ) → d < COLUMNS → c < COLUMNS → q < ROWS → r < ROWS → reading_place j q d < reading_place k r c
    → (j < k) ⊎ ((j ≡ k) × ((q < r) ⊎ ((q ≡ r) × (d < c))))
earlier j q d k r c d_low c_low q_low r_low less = elim (cases_lt j k) [
  | inl before ↦ inl before
  | inr from ↦
      let rung : j ≡ k = omega (arith, from, less, d_low, c_low, q_low, r_low) in
      inr (
        rung,
        elim (cases_lt q r) [
          | inl above ↦ inl above
          | inr below ↦
              let row : q ≡ r = omega (arith, below, rung, less, d_low, c_low) in
              let column : d < c = omega (arith, row, rung, less) in
              inr (row, column)
        ],
      )
]

pub less_place : (j q d k r c : ℕ) → d < COLUMNS → q < ROWS → (j < k) ⊎ ((j ≡ k) × ((q < r) ⊎ ((q ≡ r) × (d < c)))) → reading_place j q d < reading_place k r c
less_place j q d k r c d_low q_low (inl before) = omega (arith, before, d_low, q_low)
less_place j q d k r c d_low q_low (inr (rung, inl above)) = omega (arith, rung, above, d_low)
less_place j q d k r c d_low q_low (inr (rung, inr (row, before))) = omega (arith, rung, row, before)
