-- Right links, and which cells they feed on a page (IEC 61131-3, power flow; the joints are the profile's).
use Rattle.std.specs.Prelude.{◌≡◌, ℕ, ◌+◌, ◌-◌, ◌*◌, ◌<◌, ◌≤◌, ◌⊎◌, Bool, true, false, not, ◌&&◌, ◌||◌, ◌==◌, Option, Some}
use Rattle.diagram_program.specs.declared.geometry.TheConstants.{ROWS, CELL, PITCH}
use Rattle.diagram_program.specs.Bytes.{space, dash, plus}
use Rattle.diagram_page.specs.declared.form.Form.{Form}
use Rattle.diagram_page.specs.declared.form.Form.TheVariants.{Lower}
use Rattle.diagram_page.specs.Form.{leaps}
use Rattle.diagram_page.specs.Picture.{char_at, joint, SameGroup}
use Rattle.diagram_page.specs.Page.{Page, rung_at, form_at}

-- Jumps, returns and lower cells have no right link.
abbrev pub passes_on : Option Form → Bool
passes_on (Some (Lower pin linked)) = false
passes_on form = not (leaps form)

-- A cell has a right link where its last character is no space and it is none of these.
abbrev pub right_link : Page → ℕ → ℕ → ℕ → Bool
right_link page k r c = passes_on (form_at page k r c) && not (char_at (rung_at page k) (2 * r + 1) (PITCH * c + CELL) == space)

-- The right link of the cell before meets the joint on the left of the column.
abbrev pub enters : Page → ℕ → ℕ → ℕ → Bool
enters page k r c = right_link page k r (c - 1) && (joint (rung_at page k) r c == dash || joint (rung_at page k) r c == plus)

-- A right link enters the group of the joint.
abbrev pub IsFed : Page → ℕ → ℕ → ℕ → Type 0
IsFed page k r c = (q : ℕ) × (q < ROWS) × SameGroup (rung_at page k) c r q × (enters page k q c ≡ true)

-- A cell past the first column begins with a dash, and on its left is no joint, or a `+` whose group no right link enters.
abbrev pub IsUnfed : Page → ℕ → ℕ → ℕ → Type 0
IsUnfed page k r c =
    (1 ≤ c) × (char_at (rung_at page k) (2 * r + 1) (PITCH * c + 1) ≡ dash)
    × ((joint (rung_at page k) r c ≡ space) ⊎ ((joint (rung_at page k) r c ≡ plus) × ¬ (IsFed page k r c)))
