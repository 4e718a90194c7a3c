-- A whole list, or the part of it up to a number.
use Rattle.std.specs.Prelude.{ℕ, if◌then◌else◌, List, length, nat_lt, take, Option, Some, None}
use Rattle.search_tree.specs.Looks.{Search, looks_in_all, looks_upto}
use Rattle.causes_one_scan.specs.Cursor.{looks_through}
use Rattle.causes_one_scan.specs.Parts.{numbers_to}

abbrev pub part : Option ℕ → List ℕ → List ℕ
part None ns = ns
part (Some last) ns = numbers_to last ns

-- the looks once all of it is settled
abbrev pub settled : Option ℕ → Search → ℕ → ℕ
settled None s before = looks_in_all s
settled (Some last) s before = looks_upto s before last

-- the looks once its numbers were given, or the first of them where there is a limit
abbrev pub part_looks : Option ℕ → Search → ℕ → Option ℕ → List ℕ → ℕ
part_looks last s before None left = settled last s (looks_through s before left)
part_looks last s before (Some limit) left =
    if nat_lt (length left) limit then settled last s (looks_through s before left) else looks_through s before (take limit left)
