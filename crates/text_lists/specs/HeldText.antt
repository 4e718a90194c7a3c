-- The text of causes over several scans: a record with the names of the listed inputs, and one for each row.
use Rattle.std.specs.Prelude.{ℕ, List, ◌∷◌, length, map, codes, decimal}
use Rattle.std.specs.List.{range_with_len}
use Rattle.io_text.specs.Left.{Fields}
use Rattle.io_text.specs.Text.{bit_text, lines_text}
use Rattle.diagram_program.specs.Program.{Drawing}
use Rattle.causes_query.specs.Assignment.{bit_of}
use Rattle.scan_held.specs.declared.scans.HeldCause.{HeldCause}
use Rattle.text_causes.specs.CauseText.{name_of}

abbrev pub held_header : Drawing → List ℕ → Fields
held_header p listed = codes "number" ∷ codes "scan" ∷ map (name_of p) listed

-- a number in decimal, the first scan after which the coil is ON, and the number's bits as the k listed inputs have them
abbrev pub held_record : ℕ → HeldCause → Fields
held_record k c = decimal c.number ∷ decimal c.scan ∷ map (λ place. bit_text (bit_of k place c.number)) (range_with_len 0 k)

abbrev pub held_text : Drawing → List ℕ → List HeldCause → List ℕ
held_text p listed causes = lines_text (held_header p listed ∷ map (held_record (length listed)) causes)
