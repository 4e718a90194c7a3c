-- Private to the writer of rows: the texts of four cells.
use Rattle.std.specs.Prelude.{◌≡◌, ◌*◌, ◌/◌, ◌%◌, ◌<◌, ℕ, List, drop, map, take}
use Rattle.io_text.specs.Text.{after_commas}
use Rattle.search_groups.specs.Groups.{cells, group}
use Rattle.text_causes.specs.GroupText.{cell_text}

-- four cells whose bits are the last four of a number, and their dashes those before them
abbrev pub four_text : ℕ → List ℕ
four_text i = after_commas (map cell_text (cells 4 (group (i % 16) (i / 16))))

-- the first so many texts, one in 8 bytes
abbrev pub AreFours : List ℕ → ℕ → Type 0
AreFours texts count = (i : ℕ) → i < count → take 8 (drop (8 * i) texts) ≡ four_text i
