use Rattle.std.specs.Prelude.{◌≡◌, ◌∷◌, ◌-◌, ◌<◌, ◌≤◌, All, codes, count_by, drop, take}
use Rattle.csv.specs.Records.{fields_of}
use Rattle.diagram_declarations.specs.Decls.{is_input}
use Rattle.text_trace.proofs.HeaderWords.{AreColumns}
use Rattle.text_trace.proofs.header.columns.Given as goal

abbrev pub invariant-loop-number : goal.invariant-loop-number
invariant-loop-number l =
    (1 ≤ l.number)
    × (fields_of l.row ≡ codes "moment" ∷ drop 1 (fields_of l.row))
    × AreColumns l.decls (take (l.number - 1) (drop 1 (fields_of l.row))) l.columns.items
    × All (λ c. c < count_by is_input l.decls.vars) l.columns.items
