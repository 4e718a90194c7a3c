-- Private: what begins a text, as the reader finds it.
use Rattle.std.specs.Prelude.{◌≡◌, ℕ, Bool, true, false, ◌&&◌, ◌==◌, List, [], ◌∷◌, drop, Option, Some, None, if◌then◌else◌}
use Rattle.std.specs.List.{prefix_len}
use Rattle.st_words.specs.Words.{is_blank, is_word_byte, is_symbol, is_pair, is_in_line, begins}

-- whether it is a word, and what is behind it
pub record Front : Type 0 where
  pub is_word : Bool
  pub rest : List ℕ

abbrev pub front : Bool → List ℕ → Option Front
front is_word rest = Some (record { is_word = is_word; rest = rest })

-- what is behind the first `*)`
abbrev pub behind_close : List ℕ → Option (List ℕ)
behind_close [] = None
behind_close (b ∷ bs) = if b == 42 && begins (λ c. c == 41) bs then Some (drop 1 bs) else behind_close bs

abbrev pub commented : Option (List ℕ) → Option Front
commented (Some rest) = front false rest
commented None = None

-- what begins behind a byte that is no blank and of no run
abbrev pub symbol_front : ℕ → List ℕ → Option Front
symbol_front a bs =
    if a == 40 && begins (λ b. b == 42) bs then commented (behind_close (drop 1 bs))
    else (if a == 47 && begins (λ b. b == 47) bs then front false (drop (prefix_len is_in_line (drop 1 bs)) (drop 1 bs))
    else (if begins (is_pair a) bs then front true (drop 1 bs)
    else (if is_symbol a then front true bs else None)))

unfoldable pub front_of : List ℕ → Option Front
front_of [] = None
front_of (b ∷ bs) =
    if is_blank b then front false bs
    else (if is_word_byte b then front true (drop (prefix_len is_word_byte bs) bs) else symbol_front b bs)

-- What a function returned is this.
abbrev pub Gives : {X Y : Type 0} → (X → Y) → Option X → Option Y → Type 0
Gives view (Some x) found = found ≡ Some (view x)
Gives view None found = found ≡ None
