-- Which texts are XML.
use Rattle.std.specs.Prelude.{ℕ, Bool, ◌||◌, nat_eq, List, [], ◌∷◌, codes}
use Rattle.std.specs.List.{starts_with}

-- The text begins with `<` (60), behind a byte order mark or without one.
abbrev pub is_xml : List ℕ → Bool
is_xml text = starts_with nat_eq text (codes "<") || starts_with nat_eq text (0xEF ∷ 0xBB ∷ 0xBF ∷ 60 ∷ [])
