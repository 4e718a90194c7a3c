-- The parts of a list, each turned into something.
use Rattle.std.proofs.Common.{◌≡◌, ◌∙◌, ℕ, List, Some, map, option_map, slice_get, ap}
use Rattle.std.proofs.lemmas.Option.{slice_get-map}

pub part_got : {X Y : Type 0} (f : X → Y) (xs : List X) (n : ℕ) (x : X) → slice_get xs n ≡ Some x → slice_get (map f xs) n ≡ Some (f x)
part_got f xs n x is = slice_get-map f xs n ∙ ap (option_map f) is
