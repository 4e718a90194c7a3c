use Rattle.std.proofs.Common.{◌≡◌, ◌∙◌, Option, None, Some, ap, is_some, option_map, refl}
use Rattle.clap.specs.Words.{found_of}
use Rattle.clap.proofs.WalkLemmas.{first_value-rows}
use Rattle.cli_usage.proofs.broken.has_some.Goals as goal

some_kept : {A B : Type 0} (f : A → B) (o : Option A) → is_some o ≡ is_some (option_map f o)
some_kept f None = refl
some_kept f (Some a) = refl

pub returns : goal.returns
returns c =
    c.is_some.ensures ∙ some_kept (λ s. s.now) c.get_str.result
    ∙ ap is_some (c.get_str.ensures ∙ first_value-rows (found_of c.args.found.now) c.args.id.now)
