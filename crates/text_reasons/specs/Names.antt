-- V3: the word that is no name, and the alias by which it could be kept.
use Rattle.std.specs.Prelude.{◌++◌, ◌==◌, ◌||◌, ℕ, Bool, false, nat_lt, List, [], ◌∷◌, codes, decimal, if◌then◌else◌, length, take, drop}
use Rattle.std.specs.List.{after_first, list_any, prefix_len}
use Rattle.diagram_declarations.specs.declared.limits.TheConstants.{LONGEST_BISTABLE, LONGEST_INSTANCE, LONGEST_NAME}
use Rattle.diagram_declarations.specs.declared.title.TheConstants.{LONGEST_TITLE}
use Rattle.diagram_declarations.specs.Name.{has_name_form, is_name, same_letters}
use Rattle.diagram_declarations.specs.Text.{is_word_byte}
use Rattle.diagram_program.specs.Bytes.{space}

-- without the spaces and tabs (9) at its start
abbrev pub is_blank : ℕ → Bool
is_blank b = b == space || b == 9

abbrev pub after_blanks : List ℕ → List ℕ
after_blanks text = drop (prefix_len is_blank text) text

-- the word at the start
abbrev pub word_at : List ℕ → List ℕ
word_at text = take (prefix_len is_word_byte text) text

abbrev pub timers : List (List ℕ)
timers = codes "TON" ∷ codes "TOF" ∷ codes "TP" ∷ codes "CTU" ∷ codes "CTD" ∷ []

abbrev pub bistables : List (List ℕ)
bistables = codes "SR" ∷ codes "RS" ∷ []

-- How many characters a name has at most that is declared with this type.
unfoldable pub longest_of : List ℕ → ℕ
longest_of type =
    if list_any (same_letters type) timers then LONGEST_INSTANCE
    else (if list_any (same_letters type) bistables then LONGEST_BISTABLE
    else LONGEST_NAME)

-- the type, where the limit is one of its own
abbrev pub own_type : List ℕ → ℕ → List ℕ
own_type type longest = if longest == LONGEST_NAME then [] else type

abbrev pub whose : ℕ → List ℕ
whose longest = if longest == LONGEST_NAME then codes " characters; a name" else codes " characters; a name of type "

-- the start of the word as its name, and the word as its alias, where it isn't too long for one too
abbrev pub alias_text : List ℕ → ℕ → List ℕ
alias_text word longest =
    if nat_lt LONGEST_TITLE (length word) then []
    else codes "use an alias: " ++ (take longest word ++ (codes " (* " ++ (word ++ codes " *)\n")))

abbrev pub length_text : List ℕ → List ℕ → List ℕ → ℕ → List ℕ
length_text word kept_by type longest =
    word ++ (codes " has " ++ (decimal (length word) ++ (kept_by ++ (type ++ (codes " has at most " ++ (decimal longest ++ codes "\n"))))))

abbrev pub long_text : List ℕ → List ℕ → ℕ → List ℕ
long_text word type longest = length_text word (whose longest) (own_type type longest) longest ++ alias_text word longest

unfoldable pub may_be_name : List ℕ → Bool
may_be_name word = is_name word

abbrev pub keyword_text : List ℕ → List ℕ
keyword_text word = if may_be_name word then [] else word ++ codes " is a keyword, and no name\n"

abbrev pub formed_text : List ℕ → List ℕ → ℕ → List ℕ
formed_text word type longest = if nat_lt longest (length word) then long_text word type longest else keyword_text word

-- The word has a name's form, and is none of the keywords with which a line of a good block can begin.
abbrev pub openings : List (List ℕ)
openings = codes "VAR" ∷ codes "AT" ∷ codes "BOOL" ∷ codes "TRUE" ∷ codes "FALSE" ∷ []

unfoldable pub is_formed : List ℕ → Bool
is_formed word = if list_any (same_letters word) openings then false else has_name_form word

-- Nothing is said of any other word.
abbrev pub word_text : List ℕ → List ℕ → List ℕ
word_text word type = if is_formed word then formed_text word type (longest_of type) else []

-- the first word of a line, and the word behind its first colon (58), the type with which that is declared
unfoldable pub first_word : List ℕ → List ℕ
first_word line = word_at (after_blanks line)

unfoldable pub type_word : List ℕ → List ℕ
type_word line = word_at (after_blanks (after_first (λ b. b == 58) line))

unfoldable pub name_text : List ℕ → List ℕ
name_text line = word_text (first_word line) (type_word line)
