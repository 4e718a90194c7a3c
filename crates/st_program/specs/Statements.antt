-- Statements (IEC 61131-3:2013, Structured Text), as far as a ladder diagram can have what they say.
use Rattle.std.specs.Prelude.{◌≡◌, ℕ, zero, suc, count_by, Bool, true, false, ◌==◌, List, ◌∷◌, ◌++◌, Option, Some, None, map, if◌then◌else◌}
use Rattle.diagram_declarations.specs.declared.kind.BlockKind.{BlockKind}
use Rattle.diagram_declarations.specs.declared.kind.Parameter.{Parameter}
use Rattle.diagram_declarations.specs.declared.kind.Parameter.TheVariants as parameter
use Rattle.diagram_declarations.specs.Kind.{traits_of}
use Rattle.st_expression.specs.declared.expression.Operand.{Operand}
use Rattle.st_expression.specs.declared.expression.Operand.TheVariants as operand
use Rattle.st_expression.specs.declared.expression.Expression.{Expression}
use Rattle.st_expression.specs.declared.expression.Expression.TheVariants as tree
use Rattle.st_expression.specs.Grammar.{Held, IsExpression, IsNot}
use Rattle.st_statements.specs.declared.statement.StatementList.{StatementList}
use Rattle.st_statements.specs.declared.statement.StatementList.TheVariants as list
use Rattle.st_integers.specs.declared.value.IntegerValue.{IntegerValue}
use Rattle.st_integers.specs.Settings.{IsSetting}
use Rattle.st_integers.specs.Values.{is_of_integer, variable_with}
use Rattle.st_program.specs.declared.arguments.Argument.{Argument}
use Rattle.st_program.specs.declared.arguments.Argument.TheVariants as argument
use Rattle.st_program.specs.declared.arguments.Copied.{Copied}
use Rattle.st_program.specs.declared.arguments.Given.{Given}
use Rattle.st_program.specs.declared.formal.Callee.{Callee}
use Rattle.st_program.specs.declared.formal.Callee.TheVariants as callee
use Rattle.st_program.specs.declared.formal.Role.TheVariants as role
use Rattle.st_program.specs.declared.item.Item.{Item}
use Rattle.st_program.specs.declared.item.Literal.{Literal}
use Rattle.st_program.specs.declared.item.Literal.TheVariants as literal
use Rattle.st_program.specs.declared.item.Named.TheVariants as named
use Rattle.st_program.specs.declared.mark.Mark.{Mark}
use Rattle.st_program.specs.declared.mark.Mark.TheVariants as mark
use Rattle.st_program.specs.declared.notes.Called.TheVariants as called
use Rattle.st_program.specs.declared.notes.Note.{Note}
use Rattle.st_program.specs.declared.simple.Simple.{Simple}
use Rattle.st_program.specs.declared.simple.Simple.TheVariants as simple
use Rattle.st_program.specs.Formals.{role_of}
use Rattle.st_program.specs.Notes.{Adds, noted, triggers, has_trigger, has_block}

-- The items begin with a keyword or a symbol, and the rest is behind it.
pub record Has (sign : Mark) (items rest : List Item) : Type 0 where
  pub item : Item
  pub whole : items ≡ item ∷ rest
  pub is : item.mark ≡ sign

-- The items begin with an expression, and the rest is behind it.
pub record Expressed (items rest : List Item) (e : Expression) : Type 0 where
  pub own : List Item
  pub whole : items ≡ own ++ rest
  pub is : IsExpression (map (λ i. i.token) items) (map (λ i. i.token) rest) e

-- ---- arguments of a call

pub data IsArgument (c : Callee) : (items rest : List Item) → Argument → Type 0 where
  first : (item : Item) (behind value rest : List Item) (e : Expression) → role_of c item.formal ≡ role.First → Has mark.Becomes behind value
      → Expressed value rest e → IsArgument c (item ∷ behind) rest (argument.First e)
  second : (item : Item) (behind value rest : List Item) (e : Expression) → role_of c item.formal ≡ role.Second → Has mark.Becomes behind value
      → Expressed value rest e → IsArgument c (item ∷ behind) rest (argument.Second e)
  preset : (item value : Item) (behind rest : List Item) → role_of c item.formal ≡ role.Preset → Has mark.Becomes behind (value ∷ rest)
      → IsArgument c (item ∷ behind) rest (argument.Preset value.literal)
  output : (item target : Item) (behind rest : List Item) (variable : ℕ) → role_of c item.formal ≡ role.Output → Has mark.Yields behind (target ∷ rest)
      → target.named ≡ named.Variable variable false → IsArgument c (item ∷ behind) rest (argument.Output (record { word = target.word; variable = variable }))

abbrev pub nothing_given : Given
nothing_given = record { first = None; second = None; preset = None; output = None }

-- the arguments with one more, which isn't given yet
abbrev pub with_argument : Argument → Given → Option Given
with_argument (argument.First e) g = elim g.first [ None ↦ Some (record g { first = Some e }) | Some other ↦ None ]
with_argument (argument.Second e) g = elim g.second [ None ↦ Some (record g { second = Some e }) | Some other ↦ None ]
with_argument (argument.Preset l) g = elim g.preset [ None ↦ Some (record g { preset = Some l }) | Some other ↦ None ]
with_argument (argument.Output o) g = elim g.output [ None ↦ Some (record g { output = Some o }) | Some other ↦ None ]

-- arguments with commas between them, up to a parenthesis
pub data Arguments (c : Callee) : (items rest : List Item) → Given → Type 0 where
  last : (items behind rest : List Item) (a : Argument) (g : Given) → IsArgument c items behind a → Has mark.Close behind rest
      → with_argument a nothing_given ≡ Some g → Arguments c items rest g
  more : (items behind after rest : List Item) (a : Argument) (g h : Given) → IsArgument c items behind a → Has mark.Comma behind after
      → Arguments c after rest g → with_argument a g ≡ Some h → Arguments c items rest h

-- arguments in parentheses, and a semicolon
pub record IsCall (c : Callee) (items rest : List Item) (g : Given) : Type 0 where
  pub inside : List Item
  pub end : List Item
  pub opens : Has mark.Open items inside
  pub arguments : Arguments c inside end g
  pub ends : Has mark.Semicolon end rest

-- ---- presets

abbrev pub value_as : Parameter → Literal → Option ℕ
value_as parameter.Time (literal.Time n) = Some n
value_as parameter.Count (literal.Count n) = Some n
value_as _ _ = None

-- Two presets are one where they are equal.
abbrev pub agreed : Option ℕ → ℕ → Option ℕ
agreed (Some m) n = if m == n then Some n else None
agreed None n = Some n

abbrev pub agreed_with : Option ℕ → Option ℕ → Option ℕ
agreed_with declared (Some n) = agreed declared n
agreed_with declared None = None

-- the preset of a timer or a counter, by its declaration or by its call; 0 of a bistable
abbrev pub settled_by : Option Parameter → (declared : Option ℕ) → (given : Option Literal) → Option ℕ
settled_by None declared None = Some 0
settled_by None declared (Some l) = None
settled_by (Some p) declared None = declared
settled_by (Some p) declared (Some l) = agreed_with declared (value_as p l)

abbrev pub settled : BlockKind → (declared : Option ℕ) → (given : Option Literal) → Option ℕ
settled k declared given = settled_by (traits_of k).parameter declared given

-- ---- statements but IF

-- the second input, FALSE where it isn't given
abbrev pub second_of : Option Expression → Expression
second_of (Some e) = e
second_of None = tree.Constant false

-- An R_TRIG looks at its clock, an F_TRIG at the inverse.
abbrev pub IsClock : (falling : Bool) → (given clock : Expression) → Type 0
IsClock false e clock = clock ≡ e
IsClock true e clock = IsNot e clock

abbrev pub nothing_called : Item → Note
nothing_called item = noted item.word called.Nothing

-- The output of what is called is copied to a variable, or isn't.
abbrev pub Copies : Option Copied → (before after : List Note) → Type 0
Copies None before after = after ≡ before
Copies (Some c) before after = Adds before (noted c.word called.Nothing) after

pub data IsSimple : (items rest : List Item) → (before after : List Note) → Simple → Option Copied → Type 0 where
  assign : (item : Item) (behind value end rest : List Item) (before after : List Note) (variable : ℕ) (e : Expression)
      → item.named ≡ named.Variable variable false → Has mark.Becomes behind value → Expressed value end e → Has mark.Semicolon end rest
      → Adds before (nothing_called item) after → IsSimple (item ∷ behind) rest before after (simple.Assign variable e) None
  leave : (item : Item) (behind rest : List Item) (before after : List Note) → item.mark ≡ mark.Return → Has mark.Semicolon behind rest
      → Adds before (nothing_called item) after → IsSimple (item ∷ behind) rest before after simple.Return None
  trigger : (item : Item) (behind rest : List Item) (before between after : List Note) (number : ℕ) (falling : Bool) (g : Given)
      (e clock : Expression) → item.named ≡ named.Trigger number falling → IsCall callee.Trigger behind rest g
      → g.first ≡ Some e → IsClock falling e clock → has_trigger number before ≡ false
      → Adds before (noted item.word (called.Trigger number)) between → Copies g.output between after
      → IsSimple (item ∷ behind) rest before after (simple.Trigger number (triggers before) clock) g.output
  call : (item : Item) (behind rest : List Item) (before between after : List Note) (number n : ℕ) (k : BlockKind)
      (declared : Option ℕ) (g : Given) (e : Expression) → item.named ≡ named.Block number k declared
      → IsCall (callee.Block k) behind rest g → g.first ≡ Some e → settled k declared g.preset ≡ Some n
      → has_block number before ≡ false → Adds before (noted item.word (called.Block number n)) between → Copies g.output between after
      → IsSimple (item ∷ behind) rest before after (simple.Call number e (second_of g.second)) g.output

-- ---- lists of statements

-- what a simple statement reads back, where its output is copied
abbrev pub source_of : Simple → Operand
source_of (simple.Call number e f) = operand.Output number
source_of (simple.Trigger number memory clock) = operand.Variable number
source_of (simple.Assign variable e) = operand.Variable variable
source_of simple.Return = operand.Variable 0

-- The list is the copy before the others, or the others.
abbrev pub WithCopy : Operand → Option Copied → (others whole : StatementList) → Type 0
WithCopy source None others whole = whole ≡ others
WithCopy source (Some c) others whole = (p : Held) × (whole ≡ list.Assign' c.variable (tree.Operand source) p others)

-- The list is the statement before the others.
abbrev pub WithSimple : Simple → (others whole : StatementList) → Type 0
WithSimple (simple.Assign variable e) others whole = (p : Held) × (whole ≡ list.Assign' variable e p others)
WithSimple (simple.Trigger number memory clock) others whole = (p : Held) × (whole ≡ list.Trigger' number memory clock p others)
WithSimple (simple.Call number e f) others whole = (p : Held) × (whole ≡ list.Call' number e f p others)
WithSimple simple.Return others whole = (p : Held) × (whole ≡ list.Return' p others)

abbrev pub IsSelect : Expression → (accepted otherwise others whole : StatementList) → Type 0
IsSelect e accepted otherwise others whole = (p q r : Held) × (whole ≡ list.Select' e p accepted q otherwise r others)

-- IF or ELSIF, a condition and THEN
pub record Condition (sign : Mark) (items rest : List Item) (before after : List Note) (e : Expression) : Type 0 where
  pub item : Item
  pub behind : List Item
  pub end : List Item
  pub whole : items ≡ item ∷ behind
  pub is : item.mark ≡ sign
  pub adds : Adds before (nothing_called item) after
  pub expressed : Expressed behind end e
  pub opens : Has mark.Then end rest

-- ---- INTs

abbrev pub AddsTimes : ℕ → Note → (before after : List Note) → Type 0
AddsTimes zero note before after = after ≡ before
AddsTimes (suc count) note before after = (between : List Note) × Adds before note between × AddsTimes count note between after

-- The INT is set to a number that is one of its values: each of its variables is assigned, and noted.
pub record IsSet (values : List (Option IntegerValue)) (items rest : List Item) (before after : List Note) (integer chosen : ℕ) : Type 0 where
  pub item : Item
  pub number : Item
  pub behind : List Item
  pub end : List Item
  pub n : ℕ
  pub whole : items ≡ item ∷ behind
  pub is_integer : item.named ≡ named.Integer integer
  pub becomes : Has mark.Becomes behind (number ∷ end)
  pub value : number.literal ≡ literal.Count n
  pub chooses : variable_with values integer n ≡ Some chosen
  pub ends : Has mark.Semicolon end rest
  pub adds : AddsTimes (count_by (is_of_integer integer) values) (nothing_called item) before after

-- CASE, an INT and OF
pub record Selector (items rest : List Item) (before after : List Note) (integer : ℕ) : Type 0 where
  pub item : Item
  pub name : Item
  pub end : List Item
  pub whole : items ≡ item ∷ name ∷ end
  pub is : item.mark ≡ mark.Case
  pub adds : Adds before (nothing_called item) after
  pub is_integer : name.named ≡ named.Integer integer
  pub ends : Has mark.Of end rest

-- The INT has the number: the variable of that value, or FALSE where it never has it.
abbrev pub equals : List (Option IntegerValue) → (integer n : ℕ) → Expression
equals values integer n = elim (variable_with values integer n) [ Some number ↦ tree.Operand (operand.Variable number) | None ↦ tree.Constant false ]

abbrev pub IsEither : (one other whole : Expression) → Type 0
IsEither one other whole = (p q : Held) × (whole ≡ tree.Or' p one q other)

-- numbers with commas between them and a colon behind: the INT has one of them
pub data Numbers (values : List (Option IntegerValue)) (integer : ℕ) : (items rest : List Item) → Expression → Type 0 where
  number : (item : Item) (behind rest : List Item) (n : ℕ) → item.literal ≡ literal.Count n → Has mark.Colon behind rest
      → Numbers values integer (item ∷ behind) rest (equals values integer n)
  number_then : (item : Item) (behind after rest : List Item) (n : ℕ) (others whole : Expression) → item.literal ≡ literal.Count n
      → Has mark.Comma behind after → Numbers values integer after rest others → IsEither (equals values integer n) others whole
      → Numbers values integer (item ∷ behind) rest whole

-- the numbers before statements of a CASE but the first ones, noted
pub record Labels (values : List (Option IntegerValue)) (integer : ℕ) (items rest : List Item) (before after : List Note) (e : Expression) : Type 0 where
  pub item : Item
  pub behind : List Item
  pub whole : items ≡ item ∷ behind
  pub adds : Adds before (nothing_called item) after
  pub numbers : Numbers values integer items rest e

-- a list of statements; what follows the statements behind THEN, up to END_IF; or what follows those behind the numbers of a CASE, up to END_CASE
pub data Part : Type 0 where
  Body : Part
  Otherwise : Part
  Choices : (integer : ℕ) → Part

pub data Reads (values : List (Option IntegerValue)) : Part → (items rest : List Item) → (before after : List Note) → StatementList → Type 0 where
  nothing : (items : List Item) (notes : List Note) → Reads values Body items items notes notes list.End
  empty : (items behind rest : List Item) (before after : List Note) (all : StatementList) → Has mark.Semicolon items behind
      → Reads values Body behind rest before after all → Reads values Body items rest before after all
  single : (items behind rest : List Item) (before between after : List Note) (s : Simple) (copy : Option Copied) (others copied all : StatementList)
      → IsSimple items behind before between s copy → Reads values Body behind rest between after others → WithCopy (source_of s) copy others copied
      → WithSimple s copied all → Reads values Body items rest before after all
  select : (items arm other end behind rest : List Item) (k l m n o : List Note) (e : Expression) (accepted otherwise others all : StatementList)
      → Condition mark.If items arm k l e → Reads values Body arm other l m accepted → Reads values Otherwise other end m n otherwise → Has mark.Semicolon end behind
      → Reads values Body behind rest n o others → IsSelect e accepted otherwise others all → Reads values Body items rest k o all
  ended : (items rest : List Item) (notes : List Note) → Has mark.EndIf items rest → Reads values Otherwise items rest notes notes list.End
  others : (items arm end rest : List Item) (before after : List Note) (all : StatementList) → Has mark.Else items arm → Reads values Body arm end before after all
      → Has mark.EndIf end rest → Reads values Otherwise items rest before after all
  another : (items arm other rest : List Item) (k l m n : List Note) (e : Expression) (accepted otherwise all : StatementList)
      → Condition mark.Elsif items arm k l e → Reads values Body arm other l m accepted → Reads values Otherwise other rest m n otherwise
      → IsSelect e accepted otherwise list.End all → Reads values Otherwise items rest k n all
  set : (items behind rest : List Item) (before between after : List Note) (integer chosen : ℕ) (others all : StatementList)
      → IsSet values items behind before between integer chosen → Reads values Body behind rest between after others
      → IsSetting values integer chosen 0 others all → Reads values Body items rest before after all
  choose : (items numbers arm other end behind rest : List Item) (k l m n o : List Note) (integer : ℕ) (e : Expression)
      (accepted otherwise others all : StatementList) → Selector items numbers k l integer → Numbers values integer numbers arm e
      → Reads values Body arm other l m accepted → Reads values (Choices integer) other end m n otherwise → Has mark.Semicolon end behind
      → Reads values Body behind rest n o others → IsSelect e accepted otherwise others all → Reads values Body items rest k o all
  chosen : (integer : ℕ) (items rest : List Item) (notes : List Note) → Has mark.EndCase items rest
      → Reads values (Choices integer) items rest notes notes list.End
  none_chosen : (integer : ℕ) (items arm end rest : List Item) (before after : List Note) (all : StatementList) → Has mark.Else items arm
      → Reads values Body arm end before after all → Has mark.EndCase end rest → Reads values (Choices integer) items rest before after all
  next_choice : (integer : ℕ) (items arm other rest : List Item) (k l m n : List Note) (e : Expression) (accepted otherwise all : StatementList)
      → Labels values integer items arm k l e → Reads values Body arm other l m accepted → Reads values (Choices integer) other rest m n otherwise
      → IsSelect e accepted otherwise list.End all → Reads values (Choices integer) items rest k n all
