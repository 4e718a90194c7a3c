use Rattle.std.proofs.Common.{◌≤◌, ◌∷◌, [], List, All, arith, length}
use Rattle.std.proofs.lemmas.List.Elements.{All-head}
use Rattle.clp_import.specs.Refusals.{IsThere}
use Rattle.clp_import.proofs.importing.none_refused.Goals as goal

first_of : {A : Type 0} (P : A → Type 0) (xs : List A) → All P xs → 1 ≤ length xs → (x : A) × P x
first_of P [] all h = absurd (omega arith)
first_of P (x ∷ xs) all h = (x, All-head P x xs all)

pub returns-then-refused-ge1 : goal.returns-then-refused-ge1
returns-then-refused-ge1 c = first_of (IsThere c.args.reading c.args.project.now) c.args.refused.now c.requires c.if-refused-ge1.true
