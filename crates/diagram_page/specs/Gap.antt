-- Gap lines, with their comments taken as spaces, and labels (the profile). A gap is the lines before a rung, or after the last.
use Rattle.std.specs.Prelude.{◌≡◌, ℕ, zero, suc, ◌+◌, Bool, true, false, ◌&&◌, ◌||◌, ◌==◌, List, [], ◌∷◌, ◌++◌, drop, take, Option, Some, None, if◌then◌else◌}
use Rattle.std.specs.List.{list_all, prefix_len}
use Rattle.std.specs.Option.{option_or}
use Rattle.diagram_declarations.specs.Name.{is_name_byte, same_letters}
use Rattle.diagram_program.specs.Bytes.{space}
use Rattle.diagram_page.specs.Form.{is_label_name}
use Rattle.diagram_page.specs.Picture.{Lines, line_at}

-- a space or a tab (9)
abbrev pub is_gap_blank : ℕ → Bool
is_gap_blank b = b == space || b == 9

-- what follows the blanks at the start
abbrev pub after_blanks : List ℕ → List ℕ
after_blanks text = drop (prefix_len is_gap_blank text) text

-- The label that a line is: behind blanks a name of at most eight characters, and behind it and blanks a colon (58), with blanks alone after it.
unfoldable pub label_in : List ℕ → Option (List ℕ)
label_in text =
    let start = after_blanks text in let len = prefix_len is_name_byte start in
    elim (after_blanks (drop len start)) [
      | b ∷ end ↦ if b == 58 && (list_all is_gap_blank end && is_label_name (take len start)) then Some (take len start) else None
      | [] ↦ None
    ]

-- Blanks, a name of at most eight characters, blanks, a colon (58) and blanks. The label of a line is the one above.
pub record IsLabelIn (text label : List ℕ) : Type 0 where
  pub before : List ℕ
  pub middle : List ℕ
  pub after : List ℕ
  pub spelled : text ≡ before ++ (label ++ (middle ++ (58 ∷ after)))
  pub blank_before : list_all is_gap_blank before ≡ true
  pub blank_middle : list_all is_gap_blank middle ≡ true
  pub blank_after : list_all is_gap_blank after ≡ true
  pub named : is_label_name label ≡ true

-- The first label among the n lines from `from` on.
unfoldable pub label_before : Lines → ℕ → ℕ → Option (List ℕ)
label_before lines from zero = None
label_before lines from (suc n) = option_or (label_before lines from n) (label_in (line_at lines (from + n)))

-- The labels of rungs, in order.
abbrev pub Labels : Type 0
Labels = List (Option (List ℕ))

abbrev pub is_named : List ℕ → Option (List ℕ) → Bool
is_named word label = elim label [ Some name ↦ same_letters word name | None ↦ false ]
