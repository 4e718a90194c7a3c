-- Arguments, put together from what was read.
use Rattle.std.proofs.Common.{◌≡◌, false, List, ◌∷◌, subst, sym}
use Rattle.st_expression.specs.declared.expression.Expression.{Expression}
use Rattle.st_program.specs.declared.arguments.Argument.TheVariants as argument
use Rattle.st_program.specs.declared.arguments.Copied.{Copied}
use Rattle.st_program.specs.declared.formal.Callee.{Callee}
use Rattle.st_program.specs.declared.formal.Role.TheVariants as role
use Rattle.st_program.specs.declared.item.Item.{Item}
use Rattle.st_program.specs.declared.item.Literal.{Literal}
use Rattle.st_program.specs.declared.item.Named.TheVariants as named
use Rattle.st_program.specs.declared.mark.Mark.TheVariants as mark
use Rattle.st_program.specs.Formals.{role_of}
use Rattle.st_program.specs.Statements.{Has, Expressed, IsArgument, first, second, preset, output}

abbrev pub Input : (items rest : List Item) → Expression → Type 0
Input items rest e = (value : List Item) × Has mark.Becomes items value × Expressed value rest e

pub first_given : (c : Callee) (items behind rest : List Item) (item : Item) (e : Expression) → items ≡ item ∷ behind → role_of c item.formal ≡ role.First
    → Input behind rest e → IsArgument c items rest (argument.First e)
first_given c items behind rest item e whole is input = rw whole (first item behind input.0 rest e is input.1 input.2)

pub second_given : (c : Callee) (items behind rest : List Item) (item : Item) (e : Expression) → items ≡ item ∷ behind → role_of c item.formal ≡ role.Second
    → Input behind rest e → IsArgument c items rest (argument.Second e)
second_given c items behind rest item e whole is input = rw whole (second item behind input.0 rest e is input.1 input.2)

abbrev pub PresetGiven : (items rest : List Item) → Literal → Type 0
PresetGiven items rest l = (value : Item) × Has mark.Becomes items (value ∷ rest) × (l ≡ value.literal)

pub preset_given : (c : Callee) (items behind rest : List Item) (item : Item) (l : Literal) → items ≡ item ∷ behind → role_of c item.formal ≡ role.Preset
    → PresetGiven behind rest l → IsArgument c items rest (argument.Preset l)
preset_given c items behind rest item l whole is given =
    rw whole (subst (λ x. IsArgument c (item ∷ behind) rest (argument.Preset x)) (sym given.2) (preset item given.0 behind rest is given.1))

abbrev pub OutputGiven : (items rest : List Item) → Copied → Type 0
OutputGiven items rest o = (target : Item) × Has mark.Yields items (target ∷ rest) × (target.named ≡ named.Variable o.variable false) × (o.word ≡ target.word)

pub output_given : (c : Callee) (items behind rest : List Item) (item : Item) (o : Copied) → items ≡ item ∷ behind → role_of c item.formal ≡ role.Output
    → OutputGiven behind rest o → IsArgument c items rest (argument.Output o)
output_given c items behind rest item o whole is given =
    rw whole (subst (λ w. IsArgument c (item ∷ behind) rest (argument.Output (record { word = w; variable = o.variable }))) (sym given.3)
    (output item given.0 behind rest o.variable is given.1 given.2))
