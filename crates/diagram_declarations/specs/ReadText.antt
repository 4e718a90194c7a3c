-- TitledDeclaration tokens from left to right, with the first fault that is met.
use Rattle.std.specs.Prelude.{◌≡◌, ℕ, ◌&&◌, ◌==◌, nat_le, List, [], ◌∷◌, length, take, drop, if◌then◌else◌, Result, Ok, Err}
use Rattle.diagram_declarations.specs.declared.fault.Fault.{Fault}
use Rattle.diagram_declarations.specs.declared.fault.VarRule.TheVariants as rule
use Rattle.diagram_declarations.specs.declared.text.Within.{Within}
use Rattle.diagram_declarations.specs.declared.text.Within.TheVariants as within
use Rattle.diagram_declarations.specs.Text.{begins_with, is_blank, token_len}

infixl 10 ◌>>=◌
abbrev pub ◌>>=◌ : {A B : Type 0} → Result A Fault → (A → Result B Fault) → Result B Fault
(Ok x) >>= f = f x
(Err e) >>= f = Err e

-- what a function returned, seen by view, is what reading gives
abbrev pub Gives : {X Y : Type 0} → (X → Y) → Result X Fault → Result Y Fault → Type 0
Gives view (Ok x) read = read ≡ Ok (view x)
Gives view (Err e) read = read ≡ Err e

abbrev pub unfinished : Fault
unfinished = record { rule = rule.Unfinished; left = 0 }

-- the text after the blanks and comments at its start
abbrev pub skip_from : Within → List ℕ → Result (List ℕ) Fault
skip_from within.Blanks [] = Ok []
skip_from within.LineComment [] = Ok []
skip_from within.Opening [] = Err unfinished
skip_from within.Comment [] = Err unfinished
skip_from within.Closing [] = Err unfinished
skip_from within.Blanks (b ∷ bs) =
    if is_blank b bs then skip_from within.Blanks bs
    else (if b == 40 && begins_with 42 bs then skip_from within.Opening bs
    else (if b == 47 && begins_with 47 bs then skip_from within.LineComment bs
    else Ok (b ∷ bs)))
skip_from within.LineComment (b ∷ bs) = if b == 10 then skip_from within.Blanks bs else skip_from within.LineComment bs
skip_from within.Opening (b ∷ bs) = skip_from within.Comment bs
skip_from within.Comment (b ∷ bs) = if b == 42 && begins_with 41 bs then skip_from within.Closing bs else skip_from within.Comment bs
skip_from within.Closing (b ∷ bs) = skip_from within.Blanks bs

-- where no token is
abbrev pub no_token : List ℕ → Fault
no_token [] = unfinished
no_token (b ∷ bs) = record { rule = (if nat_le 33 b && nat_le b 126 then rule.BadToken else rule.BadByte); left = length (b ∷ bs) }

-- a token and what follows it
unfoldable pub token_at : List ℕ → Result (List ℕ × List ℕ) Fault
token_at text = do
  rest ← skip_from within.Blanks text
  if token_len rest == 0 then Err (no_token rest) else Ok (take (token_len rest) rest, drop (token_len rest) rest)
