-- Whether some combination makes true what is assumed.
use Rattle.std.specs.Prelude.{◌≡◌, ◌<◌, ◌≤◌, ◌^◌, ◌&&◌, ℕ, true, false, List, Some}
use Rattle.st_expression.specs.declared.expression.Expression.{Expression}
use Rattle.causes_query.specs.Sources.{image_of}
use Rattle.causes_query.specs.declared.source.InputSource.{InputSource}
use Rattle.search_tree.specs.Looks.{Search}
use Rattle.assume_truth.specs.Truth.{is_allowed}
use Rattle.assume_possible.specs.declared.every.Every.{Every}

-- With the combination of one of the numbers of so many bits it is true.
abbrev pub IsPossible : Expression → List InputSource → ℕ → Type 0
IsPossible assumed sources bits = (n : ℕ) × (n < 2 ^ bits) × (is_allowed (Some assumed) (image_of n sources) ≡ true)

-- With none of them it is.
abbrev pub IsImpossible : Expression → List InputSource → ℕ → Type 0
IsImpossible assumed sources bits = (n : ℕ) → n < 2 ^ bits → is_allowed (Some assumed) (image_of n sources) ≡ false

-- With the combination of one of the numbers the old one is true over the inputs of the old program, and the new one over those of the new program.
abbrev pub IsPossibleInBoth : Expression → List InputSource → Expression → List InputSource → ℕ → Type 0
IsPossibleInBoth old old_sources new new_sources bits =
    (n : ℕ) × (n < 2 ^ bits) × (is_allowed (Some old) (image_of n old_sources) ≡ true) × (is_allowed (Some new) (image_of n new_sources) ≡ true)

-- With none of them both are.
abbrev pub IsImpossibleInBoth : Expression → List InputSource → Expression → List InputSource → ℕ → Type 0
IsImpossibleInBoth old old_sources new new_sources bits =
    (n : ℕ) → n < 2 ^ bits → (is_allowed (Some old) (image_of n old_sources) && is_allowed (Some new) (image_of n new_sources)) ≡ false

-- ---- the search: every number is chosen, and a look settles each prefix

abbrev pub every_search : Every → Search
every_search e = record { tail = e.tail; top = e.top; first = 0; decided = λ height base. true; chosen = λ n. true }

pub record IsEvery (e : Every) : Type 0 where
  pub narrow : e.tail ≤ 6
  pub counted : e.longest ≤ e.looks

pub record KeepsEvery (x y : Every) : Type 0 where
  pub tail : y.tail ≡ x.tail
  pub top : y.top ≡ x.top
