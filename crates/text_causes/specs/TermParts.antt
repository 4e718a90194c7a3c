-- A term as far as it is written.
use Rattle.std.specs.Prelude.{◌++◌, ℕ, Bool, true, false, List, [], ◌∷◌, codes}
use Rattle.text_causes.specs.declared.term_text.Brackets.{Brackets}
use Rattle.text_causes.specs.declared.term_text.Brackets.TheVariants.{Round, Without}

abbrev pub negation : Bool → List ℕ
negation true = []
negation false = codes "NOT "

abbrev pub opening : Brackets → List ℕ
opening Round = codes "("
opening Without = []

abbrev pub closing : Brackets → List ℕ
closing Round = codes ")"
closing Without = []

-- what stands before a literal
abbrev pub before : Brackets → Bool → List ℕ
before b true = codes " AND "
before b false = opening b

-- what stands after the last one, where there is one
abbrev pub after : Brackets → Bool → List ℕ
after b true = closing b
after b false = codes "TRUE"

-- what is left of a term, where its first literals are written or none is
unfoldable pub term_left : Brackets → Bool → List (List ℕ) → List ℕ
term_left b begun [] = after b begun
term_left b begun (l ∷ ls) = (before b begun ++ l) ++ term_left b true ls
