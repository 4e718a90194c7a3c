use Rattle.std.proofs.Common.{◌≡◌, ℕ, List, length, map}
use Rattle.std.specs.List.{find}
use Rattle.std.specs.Str.{bytes_eq}
use Rattle.diagram_page.specs.declared.form.Form.{Form}
use Rattle.diagram_page.proofs.form.lookup.Given as goal

abbrev pub invariant-loop-table : goal.invariant-loop-table
invariant-loop-table l =
    find (λ (e : List ℕ × Form). bytes_eq e.0 l.chars) (map (λ e. (e.0.now, e.1)) l.table)
    ≡ find (λ (e : List ℕ × Form). bytes_eq e.0 l.chars) (map (λ e. (e.0.now, e.1)) l.initial.table)

abbrev pub decreases-loop-table : goal.decreases-loop-table
decreases-loop-table l = length l.table
