-- Private: what begins a text, as the reader finds it.
use Rattle.std.specs.Prelude.{◌≡◌, ℕ, ◌+◌, ◌-◌, ◌<◌, ◌&&◌, ◌==◌, Option, Some, None, List, [], ◌∷◌, length, take, drop, if◌then◌else◌}
use Rattle.std.specs.List.{prefix_len}
use Rattle.diagram_declarations.specs.Text.{begins_with, is_blank, token_len}
use Rattle.assume_comments.specs.declared.front.Front.{Front}
use Rattle.assume_comments.specs.declared.front.Front.TheVariants as read
use Rattle.assume_comments.specs.Comments.{is_end, is_in_line}

-- END_VAR, a comment `(* .. *)` and what is behind it, or something else and what is behind that
pub data Start : Type 0 where
  Ended : Start
  Commented : (inside rest : List ℕ) → Start
  Passed : (rest : List ℕ) → Start

-- what is behind the first `*)`
abbrev pub behind_close : List ℕ → Option (List ℕ)
behind_close [] = None
behind_close (b ∷ bs) = if b == 42 && begins_with 41 bs then Some (drop 1 bs) else behind_close bs

abbrev pub comment_start : List ℕ → Option (List ℕ) → Option Start
comment_start text (Some rest) = Some (Commented (take (length text - (length rest + 2)) text) rest)
comment_start text None = None

-- a token of this length, or none
abbrev pub token_start : ℕ → List ℕ → Option Start
token_start n text = if n == 0 then None else (if is_end (take n text) then Some Ended else Some (Passed (drop n text)))

unfoldable pub start_of : List ℕ → Option Start
start_of [] = None
start_of (b ∷ bs) =
    if is_blank b bs then Some (Passed bs)
    else (if b == 40 && begins_with 42 bs then comment_start (drop 1 bs) (behind_close (drop 1 bs))
    else (if b == 47 && begins_with 47 bs then Some (Passed (drop (prefix_len is_in_line (drop 1 bs)) (drop 1 bs)))
    else token_start (token_len (b ∷ bs)) (b ∷ bs)))

abbrev pub start_read : Front → Start
start_read read.End = Ended
start_read (read.Comment inside rest) = Commented inside.now rest.now
start_read (read.Other rest) = Passed rest.now

-- What is left behind it is shorter than this.
abbrev pub IsWithin : ℕ → Front → Type 0
IsWithin n read.End = Unit {0}
IsWithin n (read.Comment inside rest) = length rest.now < n
IsWithin n (read.Other rest) = length rest.now < n

-- What a function returned is this.
abbrev pub Gives : {X Y : Type 0} → (X → Y) → Option X → Option Y → Type 0
Gives view (Some x) found = found ≡ Some (view x)
Gives view None found = found ≡ None
