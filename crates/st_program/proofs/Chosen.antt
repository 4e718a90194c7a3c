-- The numbers of a CASE, put together from what was read.
use Rattle.std.proofs.Common.{◌≡◌, ℕ, List, ◌∷◌, Option, subst}
use Rattle.st_expression.specs.declared.expression.Expression.{Expression}
use Rattle.st_integers.specs.declared.value.IntegerValue.{IntegerValue}
use Rattle.st_program.specs.declared.item.Item.{Item}
use Rattle.st_program.specs.declared.item.Literal.TheVariants as literal
use Rattle.st_program.specs.declared.mark.Mark.TheVariants as mark
use Rattle.st_program.specs.Statements.{Has, IsEither, Numbers, number, number_then, equals}

pub number_last : (values : List (Option IntegerValue)) (integer n : ℕ) (items behind rest : List Item) (item : Item) (e : Expression)
    → items ≡ item ∷ behind → item.literal ≡ literal.Count n → Has mark.Colon behind rest → e ≡ equals values integer n
    → Numbers values integer items rest e
number_last values integer n items behind rest item e first is colon has =
    rw (first, has) (number item behind rest n is colon)

pub number_more : (values : List (Option IntegerValue)) (integer n : ℕ) (items behind after rest : List Item) (item : Item) (one others whole : Expression)
    → items ≡ item ∷ behind → item.literal ≡ literal.Count n → Has mark.Comma behind after → Numbers values integer after rest others
    → one ≡ equals values integer n → IsEither one others whole → Numbers values integer items rest whole
number_more values integer n items behind after rest item one others whole first is comma are has either =
    rw first (number_then item behind after rest n others whole is comma are (subst (λ e. IsEither e others whole) has either))
