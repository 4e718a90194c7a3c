-- A HAL file: which signals it connects with pins of ClassicLadder.
use Rattle.std.specs.Prelude.{ℕ, ◌==◌, ◌&&◌, ◌||◌, ◌++◌, nat_eq, Bool, List, [], ◌∷◌, length, drop, codes, Option, Some, None, option_map, if◌then◌else◌}
use Rattle.std.specs.Cmp.Lexicographic.{pointwise}
use Rattle.std.specs.List.{slice_split, starts_with}
use Rattle.clp_project.specs.Format.{before, number_in}
use Rattle.clp_project.specs.declared.links.Link.{Link}
use Rattle.clp_project.specs.declared.pin.ClpPin.{ClpPin}
use Rattle.clp_project.specs.declared.pin.ClpPin.TheVariants as pin

-- ---- lines and words

-- A text whose lines are joined: a backslash (92) before a line feed (10) makes a blank (32) of it. `goes_on`: whether one stands before
-- this text.
abbrev pub joined : Bool → List ℕ → List ℕ
joined goes_on [] = []
joined goes_on (b ∷ bs) = (if goes_on && b == 10 then 32 else b) ∷ joined (b == 92) bs

-- a space (32), a tab (9), the return before a line feed (13), or the backslash of a line that goes on
abbrev pub is_blank : ℕ → Bool
is_blank b = b == 32 || (b == 9 || (b == 13 || b == 92))

abbrev pub parts_of : List ℕ → List (List ℕ)
parts_of line = slice_split is_blank line

-- those that aren't empty
abbrev pub some_words : List (List ℕ) → List (List ℕ)
some_words [] = []
some_words ([] ∷ ws) = some_words ws
some_words ((b ∷ bs) ∷ ws) = (b ∷ bs) ∷ some_words ws

-- The words of a line stand between blanks, before a remark, which begins at the first # (35).
unfoldable pub words_of : List ℕ → List (List ℕ)
words_of line = some_words (parts_of (before 35 line))

-- ---- pins and signals

-- the number behind the first part of a word
abbrev pub number_behind : List ℕ → List ℕ → Option ℕ
number_behind part word = if starts_with nat_eq word part then number_in (drop (length part) word) else None

-- A pin is `classicladder.0.in-` or `classicladder.0.out-` and the number of its variable.
unfoldable pub pin_of : List ℕ → Option ClpPin
pin_of word =
    elim (number_behind (codes "classicladder.0.in-") word) [
      | Some n ↦ Some (pin.Input n)
      | None ↦ option_map (λ n. pin.Output n) (number_behind (codes "classicladder.0.out-") word)
    ]

-- a pin, and the name of the signal that it is connected with
pub record LinkRead : Type 0 where
  pub pin : ClpPin
  pub signal : List ℕ

abbrev pub link_of : Link → LinkRead
link_of l = record { pin = l.pin; signal = l.signal.now }

abbrev pub with_pin : Option ClpPin → List ℕ → List LinkRead → List LinkRead
with_pin (Some p) signal links = record { pin = p; signal = signal } ∷ links
with_pin None signal links = links

-- the pins among the words, each connected with the signal
abbrev pub links_to : List ℕ → List (List ℕ) → List LinkRead
links_to signal [] = []
links_to signal (w ∷ ws) = with_pin (pin_of w) signal (links_to signal ws)

-- A line `net SIGNAL PIN PIN ..` connects its pins with its signal; arrows among them, and other lines, connect none.
unfoldable pub links_of_words : List (List ℕ) → List LinkRead
links_of_words (w ∷ signal ∷ ws) = if pointwise nat_eq w (codes "net") then links_to signal ws else []
links_of_words other = []

abbrev pub links_in : List (List ℕ) → List LinkRead
links_in [] = []
links_in (l ∷ ls) = links_of_words (words_of l) ++ links_in ls
