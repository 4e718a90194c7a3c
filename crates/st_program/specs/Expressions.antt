-- Private: tokens that the reader of expressions takes.
use Rattle.std.specs.Prelude.{◌≡◌, List, ◌++◌, map}
use Rattle.st_expression.specs.declared.token.Token.{Token}
use Rattle.st_program.specs.declared.item.Item.{Item}

-- The items before the rest have these tokens.
pub record BeginsAs (items rest : List Item) (tokens : List Token) : Type 0 where
  pub front : List Item
  pub whole : items ≡ front ++ rest
  pub are : tokens ≡ map (λ i. i.token) front
