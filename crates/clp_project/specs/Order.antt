-- The order in which the rungs are scanned: section by section, and in each from its first rung by the next ones to its last.
use Rattle.std.specs.Prelude.{◌≡◌, ◌==◌, ◌&&◌, ◌++◌, ◌∷◌, [], ℕ, zero, suc, Bool, true, false, List, length, find, Option, Some, None, option_map, is_none, Result, Ok, Err, if◌then◌else◌}
use Rattle.clp_project.specs.declared.rung.ClpRung.{ClpRung}
use Rattle.clp_project.specs.declared.order.Placed.{Placed}
use Rattle.clp_project.specs.declared.table.Section.{Section}
use Rattle.clp_project.specs.declared.reading.ReadingOptions.{ReadingOptions}
use Rattle.clp_project.specs.declared.fault.ClpFault.{ClpFault}
use Rattle.clp_project.specs.declared.fault.ClpFault.TheVariants.{Memory, NotLadder, BrokenWay}

abbrev pub placed_in : ℕ → ClpRung → Placed
placed_in section rung = record { rung = rung; section = section }

-- The rung at a step of the way: the last one ends it, any other is followed by its next one.
abbrev pub step_on : ℕ → Bool → Option ClpRung → (ℕ → Option (List Placed)) → Option (List Placed)
step_on section ends None onward = None
step_on section true (Some rung) onward = Some (placed_in section rung ∷ [])
step_on section false (Some rung) onward = elim rung.next [ Some next ↦ option_map (λ rungs. placed_in section rung ∷ rungs) (onward next) | None ↦ None ]

-- The rungs of a section from this number on, at most so many; there is none where they don't lead to the last one.
abbrev pub way : ℕ → ℕ → List ClpRung → ℕ → ℕ → Option (List Placed)
way section last rungs zero number = None
way section last rungs (suc most) number =
    step_on section (number == last) (find (λ r. r.number == number) rungs) (λ next. way section last rungs most next)

-- more rungs before others, or what is wrong with these
abbrev pub behind_rungs : List Placed → Result (List Placed) ClpFault → Result (List Placed) ClpFault
behind_rungs front (Ok placed) = Ok (front ++ placed)
behind_rungs front (Err fault) = Err fault

-- A section that is called by its number isn't scanned by itself. A sequential chart (language 1) writes numbers and its own steps
-- alone. Where these are opened it is left out.
abbrev pub with_section : ReadingOptions → List ClpRung → Section → Result (List Placed) ClpFault → Result (List Placed) ClpFault
with_section reading rungs s others =
    if s.language == 0 then (if is_none s.subroutine
    then elim (way s.number s.last rungs (length rungs) s.first) [ Some placed ↦ behind_rungs placed others | None ↦ Err (BrokenWay s.number) ]
    else others)
    else (if reading.opened && s.language == 1 then others else Err (NotLadder s.number))

-- the rungs in the order of the scan, or the first fault of a section
abbrev pub arranged : ReadingOptions → List ClpRung → List Section → Result (List Placed) ClpFault
arranged reading rungs [] = Ok []
arranged reading rungs (s ∷ ss) = with_section reading rungs s (arranged reading rungs ss)

-- Out of memory, or the first fault of a section.
abbrev pub IsOrderFault : Result (List Placed) ClpFault → ClpFault → Type 0
IsOrderFault order Memory = Unit {0}
IsOrderFault order (NotLadder section) = order ≡ Err (NotLadder section)
IsOrderFault order (BrokenWay section) = order ≡ Err (BrokenWay section)
IsOrderFault order other = ⊥

-- Private: what adding a way to others leaves.
abbrev pub arranged_so : List Placed → Option (List Placed) → Bool → List Placed → Type 0
arranged_so old way true new = (mine : List Placed) × (way ≡ Some mine) × (new ≡ old ++ mine)
arranged_so old way false new = way ≡ None
