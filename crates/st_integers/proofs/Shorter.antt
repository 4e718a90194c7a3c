-- The statements behind a setting are fewer.
use Rattle.std.proofs.Common.{◌≡◌, ℕ, ◌+◌, ◌<◌, ◌≤◌, Bool, true, false, List, [], ◌∷◌, Option, None, get_or, zero, suc, ap, subst, sym, arith, true≢false}
use Rattle.st_statements.specs.declared.statement.StatementList.{StatementList}
use Rattle.st_statements.specs.declared.statement.StatementList.TheVariants.{End, Assign', Trigger', Call', Select', Return'}
use Rattle.st_integers.specs.declared.value.IntegerValue.{IntegerValue}
use Rattle.st_integers.specs.Values.{is_of_integer}
use Rattle.st_integers.specs.Settings.{IsSetting, Sets}
use Rattle.st_integers.proofs.Settings.{step}

-- how many statements a list has, those of its arms too
unfoldable pub count : StatementList → ℕ
count End = 0
count (Assign' variable e p next) = count next + 1
count (Trigger' output memory e p next) = count next + 1
count (Call' i x y p next) = count next + 1
count (Select' e p accepted q otherwise r next) = count accepted + count otherwise + count next + 1
count (Return' p next) = count next + 1

not_longer_on : (b : Bool) (vs : List (Option IntegerValue)) (integer chosen number : ℕ) (others whole : StatementList)
    → ((between : StatementList) → IsSetting vs integer chosen (number + 1) others between → count others ≤ count between)
    → step b vs integer chosen number others whole → count others ≤ count whole
unfolding count
not_longer_on true vs integer chosen number others whole more is = omega (arith, ap count is.2, more is.0 is.3)
not_longer_on false vs integer chosen number others whole more is = more whole is

not_longer : (vs : List (Option IntegerValue)) (integer chosen number : ℕ) (others whole : StatementList) → IsSetting vs integer chosen number others whole → count others ≤ count whole
not_longer [] integer chosen number others whole is = omega (arith, ap count is)
not_longer (v ∷ vs) integer chosen number others whole is =
    not_longer_on (is_of_integer integer v) vs integer chosen number others whole (λ between more. not_longer vs integer chosen (number + 1) others between more) is

shorter_here : (vs : List (Option IntegerValue)) (integer chosen number : ℕ) (others whole : StatementList) → step true vs integer chosen number others whole → count others < count whole
unfolding count
shorter_here vs integer chosen number others whole is =
    let rest = not_longer vs integer chosen (number + 1) others is.0 is.3 in
    omega (arith, ap count is.2, rest)

shorter_on : (b : Bool) (vs : List (Option IntegerValue)) (integer chosen number : ℕ) (others whole : StatementList)
    → ((between : StatementList) → IsSetting vs integer chosen (number + 1) others between → count others < count between)
    → step b vs integer chosen number others whole → count others < count whole
shorter_on true vs integer chosen number others whole more is = shorter_here vs integer chosen number others whole is
shorter_on false vs integer chosen number others whole more is = more whole is

shorter_from : (vs : List (Option IntegerValue)) (integer chosen number j : ℕ) (others whole : StatementList) → is_of_integer integer (get_or vs j None) ≡ true
    → IsSetting vs integer chosen number others whole → count others < count whole
shorter_from [] integer chosen number j others whole t is = absurd (true≢false (sym t))
shorter_from (v ∷ vs) integer chosen number zero others whole t is =
    shorter_here vs integer chosen number others whole (subst (λ b. step b vs integer chosen number others whole) t is)
shorter_from (v ∷ vs) integer chosen number (suc j) others whole t is =
    shorter_on (is_of_integer integer v) vs integer chosen number others whole (λ between more. shorter_from vs integer chosen (number + 1) j others between t more) is

pub shorter : (values : List (Option IntegerValue)) (integer : ℕ) (others whole : StatementList) → Sets values integer others whole → count others < count whole
shorter values integer others whole sets = shorter_from values integer sets.chosen 0 sets.chosen others whole sets.is_value sets.setting
