-- Private: the lists of a drawing while they are made.
use Rattle.std.specs.Prelude.{◌≡◌, ℕ, ◌<◌, false, List, [], None, length, map, slice_index_or}
use Rattle.diagram_program.specs.declared.site.Site.{Site}
use Rattle.diagram_program.specs.declared.cell.Cell.TheVariants as cell
use Rattle.diagram_program.specs.declared.cell.Joint.TheVariants as joint
use Rattle.diagram_program.specs.declared.sheet.Sheet.{Sheet}
use Rattle.diagram_program.specs.declared.steps.Lists.{Lists}
use Rattle.diagram_program.specs.Program.{Drawing, drawing, jump_of}
use Rattle.diagram_program.specs.Gates.{gates_of, actions_of, exit_of}

-- where nothing is
abbrev pub blank_site : Site
blank_site = record { cell = cell.Empty; right_link = false; joint = joint.Blank; vertical = false }

abbrev pub drawing_of : Sheet → Drawing
drawing_of s = drawing s.decls.now s.rungs s.sites.now

-- an entry for each rung below n: what f gives of it
abbrev pub IsOfEach : {A : Type 0} → ℕ → A → (ℕ → A) → List A → Type 0
IsOfEach n none f xs = (length xs ≡ n) × ((k : ℕ) → k < n → slice_index_or xs k none ≡ f k)

-- the lists that steps are made from
pub record AreLists (s : Sheet) (l : Lists) : Type 0 where
  pub gates : IsOfEach s.rungs [] (gates_of (drawing_of s)) (map (λ x. x.items) l.gates.now)
  pub actions : IsOfEach s.rungs [] (actions_of (drawing_of s)) (map (λ x. x.items) l.actions.now)
  pub jumps : IsOfEach s.rungs None (jump_of (drawing_of s)) l.jumps.now
  pub exits : IsOfEach s.rungs None (exit_of (drawing_of s)) l.exits.now
