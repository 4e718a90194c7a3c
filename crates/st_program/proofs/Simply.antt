-- Calls, put together from what was read.
use Rattle.std.proofs.Common.{◌≡◌, ℕ, Bool, false, List, ◌∷◌, Option, Some, subst, sym}
use Rattle.diagram_declarations.specs.declared.kind.BlockKind.{BlockKind}
use Rattle.st_expression.specs.declared.expression.Expression.{Expression}
use Rattle.st_program.specs.declared.arguments.Given.{Given}
use Rattle.st_program.specs.declared.formal.Callee.TheVariants as callee
use Rattle.st_program.specs.declared.item.Item.{Item}
use Rattle.st_program.specs.declared.item.Named.TheVariants as named
use Rattle.st_program.specs.declared.notes.Called.TheVariants as called
use Rattle.st_program.specs.declared.notes.Note.{Note}
use Rattle.st_program.specs.declared.simple.Simple.TheVariants as simple
use Rattle.st_program.specs.Notes.{Adds, noted, triggers, has_trigger, has_block}
use Rattle.st_program.specs.Statements.{Copies, IsCall, IsClock, IsSimple, settled, second_of, trigger, call}

pub trigger_called : (item : Item) (behind rest : List Item) (before between after : List Note) (number memory : ℕ) (falling : Bool) (g : Given)
    (e clock : Expression) → item.named ≡ named.Trigger number falling → IsCall callee.Trigger behind rest g → g.first ≡ Some e → IsClock falling e clock
    → has_trigger number before ≡ false → memory ≡ triggers before → Adds before (noted item.word (called.Trigger number)) between → Copies g.output between after
    → IsSimple (item ∷ behind) rest before after (simple.Trigger number memory clock) g.output
trigger_called item behind rest before between after number memory falling g e clock is calls first clocks fresh counts adds copies =
    subst (λ n. IsSimple (item ∷ behind) rest before after (simple.Trigger number n clock) g.output) (sym counts)
    (trigger item behind rest before between after number falling g e clock is calls first clocks fresh adds copies)

pub block_called : (item : Item) (behind rest : List Item) (before between after : List Note) (number n : ℕ) (k : BlockKind)
    (declared : Option ℕ) (g : Given) (e f : Expression) → item.named ≡ named.Block number k declared → IsCall (callee.Block k) behind rest g
    → g.first ≡ Some e → f ≡ second_of g.second → settled k declared g.preset ≡ Some n → has_block number before ≡ false
    → Adds before (noted item.word (called.Block number n)) between → Copies g.output between after
    → IsSimple (item ∷ behind) rest before after (simple.Call number e f) g.output
block_called item behind rest before between after number n k declared g e f is calls first second settles fresh adds copies =
    subst (λ x. IsSimple (item ∷ behind) rest before after (simple.Call number e x) g.output) (sym second)
    (call item behind rest before between after number n k declared g e is calls first settles fresh adds copies)
