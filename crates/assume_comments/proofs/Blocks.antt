-- The comments of declarations.
use Rattle.std.proofs.Common.{◌≡◌, ◌⊎◌, inl, inr, ℕ, ◌<◌, true, false, List, [], ◌∷◌, ◌++◌, length, refl, sym, ap, subst, ◌∙◌}
use Rattle.diagram_declarations.specs.Text.{begins, begins_with, token_len, Gap, Nothing, Blank, Comment, LineComment, AreTokens}
use Rattle.assume_comments.specs.Comments.{Comments, ended, token, blank, comment, line_comment, IsToken, is_end, is_in_line, HaveComments}

-- the text has such a list
abbrev Some : List ℕ → Type 0
Some text = (comments : List (List ℕ)) × Comments text comments

line_stops : (after : List ℕ) → (after ≡ []) ⊎ (begins_with 10 after ≡ true) → begins is_in_line after ≡ false
line_stops [] end = refl
line_stops (b ∷ bs) (inl empty) = absurd cc
line_stops (b ∷ bs) (inr line) = rw line refl

before_gap : {text rest : List ℕ} → Gap text rest → Some rest → Some text
before_gap Nothing some = some
before_gap (Blank {b} {after} h gap) some = let more = before_gap gap some in (more.0, blank b after more.0 h more.1)
before_gap (Comment inside {after} h gap) some = let more = before_gap gap some in (inside ∷ more.0, comment inside after more.0 h more.1)
before_gap (LineComment inside {after} all end gap) some =
    let more = before_gap gap some in (more.0, line_comment inside after more.0 all (line_stops after end) more.1)

is_token : (start word after : List ℕ) → start ≡ word ++ after → 0 < length word → token_len start ≡ length word → IsToken word after
is_token start word after whole some len = record { some = some; longest = ap token_len (sym whole) ∙ len }

before_end : (start word after : List ℕ) → start ≡ word ++ after → IsToken word after → is_end word ≡ true → Some start
before_end start word after whole is end = subst Some (sym whole) ([], ended word after is end)

before_token : (start word after : List ℕ) → start ≡ word ++ after → IsToken word after → is_end word ≡ false → Some after → Some start
before_token start word after whole is other some = subst Some (sym whole) (some.0, token word after some.0 is other some.1)

before_any : (start word after : List ℕ) → start ≡ word ++ after → IsToken word after → Some after → Some start
before_any start word after whole is some =
    elim (is_end word) as (λ b. is_end word ≡ b → Some start) [
      | true ↦ λ end. before_end start word after whole is end
      | false ↦ λ other. before_token start word after whole is other some
    ] refl

tokens_have : (words : List (List ℕ)) (closing text rest : List ℕ) → AreTokens (words ++ closing ∷ []) text rest → is_end closing ≡ true → Some text
tokens_have [] closing text rest h end = before_gap h.2 (before_end h.0 closing h.1 h.3 (is_token h.0 closing h.1 h.3 h.4 h.5) end)
tokens_have (word ∷ words) closing text rest h end =
    before_gap h.2 (before_any h.0 word h.1 h.3 (is_token h.0 word h.1 h.3 h.4 h.5) (tokens_have words closing h.1 rest h.6 end))

pub have_comments : HaveComments
have_comments text rest declared h =
    let block = h.3 in tokens_have block.0 block.1 text rest (subst (λ ts. AreTokens ts text rest) block.2 h.2) block.4
