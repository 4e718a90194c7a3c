-- Private to likenesses: the law of their choices.
use Rattle.std.specs.Prelude.{◌≡◌, Bool, true, refl}
use Rattle.scan_signals.specs.declared.likeness.Likeness.{Likeness}
use Rattle.scan_signals.specs.declared.likeness.Likeness.TheVariants.{Alike, Open}
use Rattle.scan_signals.specs.Likenesses.{AnyLikeness, like_choice, like_known}

pub like_choice_known : (c : Likeness) (b : Bool) → AnyLikeness c → like_choice c (like_known b) (like_known b) ≡ like_known b
like_choice_known Alike true v = refl
like_choice_known Open true v = refl
like_choice_known _ _ v = refl
