-- Private: what bytes side by side may be.
use Rattle.std.specs.Prelude.{ℕ, Bool, not, ◌==◌}
use Rattle.std.specs.Char.{is_ascii_digit}
use Rattle.xml_document.specs.declared.characters.Kind.{Kind}
use Rattle.xml_document.specs.declared.characters.Kind.TheVariants as kind
use Rattle.xml_document.specs.Characters.{is_blank, is_name_byte}

abbrev pub is_of : Kind → ℕ → Bool
is_of kind.Blank b = is_blank b
is_of kind.OfName b = is_name_byte b
is_of kind.Digit b = is_ascii_digit b
is_of (kind.Before quote) b = not (b == quote)
