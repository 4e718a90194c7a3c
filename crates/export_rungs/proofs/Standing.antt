-- What expressions stand for.
use Rattle.std.proofs.Common.{◌≡◌, ℕ, ◌+◌, ◌*◌, ◌/◌, ◌%◌, Bool, not, ◌&&◌, List, [], get_or, false, Some, sym, ap, ap₂, ◌∙◌, arith}
use Rattle.diagram_program.specs.declared.geometry.TheConstants.{ROWS, PLACES}
use Rattle.diagram_program.specs.declared.cell.Cell.{Cell}
use Rattle.diagram_program.specs.declared.cell.Cell.TheVariants.{Contact}
use Rattle.diagram_program.specs.declared.cell.Operand as diagram
use Rattle.diagram_program.specs.declared.mode.Mode.TheVariants.{Rising, Falling}
use Rattle.diagram_program.specs.declared.gates.Action.{Action}
use Rattle.diagram_program.specs.Program.{Drawing, cell_in, cell_of, site_at}
use Rattle.scan_signals.specs.Truth.{plain}
use Rattle.scan_cycle.specs.Cells.{closed, memory_of}
use Rattle.scan_cycle.specs.Rung.{frame_of}
use Rattle.st_expression.specs.declared.expression.Expression.{Expression}
use Rattle.st_expression.specs.declared.expression.Expression.TheVariants as tree
use Rattle.st_expression.specs.declared.expression.Operand.TheVariants.{Variable}
use Rattle.st_expression.specs.Value.{value}
use Rattle.st_statements.specs.Run.{value_in}
use Rattle.draw_check.specs.Acted.{acted}
use Rattle.export_power.specs.declared.known.Known.{Known}
use Rattle.export_power.specs.declared.known.Meaning.TheVariants as meaning
use Rattle.export_rungs.specs.Forms.{IsBoth, IsInverse, IsVariable}
use Rattle.export_rungs.specs.Standing.{IsEdgeOf, Means}
use Rattle.export_rungs.specs.Steps.{Begins, IsMemory}

pub at_place : (p : Drawing) (j place : ℕ) → (site_at p j (place % ROWS) (place / ROWS)).cell ≡ cell_of p j place
at_place p j place =
    let same : PLACES * j + (ROWS * (place / ROWS) + place % ROWS) ≡ PLACES * j + place = omega arith in
    ap (λ n. cell_in p n) same

module _ (d : Drawing) (variables count rung : ℕ) (known : List Known) where
  pub start_by : (done : List Action) (e : Expression) (operand : diagram.Operand) → Begins d rung done known operand e → Means d variables count rung known done e (meaning.Start operand)
  start_by done e operand begins = λ now g h flags size between. begins g.kept now (frame_of g) (frame_of h) between.sees

  pub closed_by : (e : Expression) (c : Cell) (place : ℕ) → c ≡ cell_of d rung place → IsEdgeOf d variables count rung known e c → Means d variables count rung known [] e (meaning.Closed place)
  closed_by e c place is edge = λ now g h flags size between.
      edge now g h flags size between ∙ ap (λ (x : Cell). closed plain (frame_of g) (memory_of g.kept x) x) is

  rising_is : (operand : diagram.Operand) (n w : ℕ) (a b : Expression) (p q r : _) → IsMemory d n w → Begins d rung [] known operand a
      → IsEdgeOf d variables count rung known (tree.And' p a q (tree.Not' r (tree.Operand (Variable w)))) (Contact Rising operand (Some n))
  unfolding value acted
  rising_is operand n w a b p q r memory begins = λ now g h flags size between.
      ap₂ (λ (x y : Bool). x && not y) (begins g.kept now (frame_of g) (frame_of h) between.sees)
      (ap (λ i. get_or h.values i false) memory.is ∙ between.at.matched.memories n memory.few)

  falling_is : (operand : diagram.Operand) (n w : ℕ) (a b : Expression) (p q r : _) → IsMemory d n w → Begins d rung [] known operand a
      → IsEdgeOf d variables count rung known (tree.And' p (tree.Not' r a) q (tree.Operand (Variable w))) (Contact Falling operand (Some n))
  unfolding value acted
  falling_is operand n w a b p q r memory begins = λ now g h flags size between.
      ap₂ (λ (x y : Bool). not x && y) (begins g.kept now (frame_of g) (frame_of h) between.sees)
      (ap (λ i. get_or h.values i false) memory.is ∙ between.at.matched.memories n memory.few)

  pub rising_by : (operand : diagram.Operand) (n w : ℕ) (e a b i : Expression) (c : Cell) → c ≡ Contact Rising operand (Some n) → IsMemory d n w
      → IsBoth a b e → IsInverse i b → IsVariable w i → Begins d rung [] known operand a → IsEdgeOf d variables count rung known e c
  rising_by operand n w e a b i c cell memory both inverse is begins = λ now g h flags size between.
      ap (value_in h) (both.2 ∙ ap (λ (x : Expression). tree.And' both.0 a both.1 x) (inverse.1 ∙ ap (λ (x : Expression). tree.Not' inverse.0 x) is))
      ∙ rising_is operand n w a b both.0 both.1 inverse.0 memory begins now g h flags size between
      ∙ sym (ap (λ (x : Cell). closed plain (frame_of g) (memory_of g.kept x) x) cell)

  pub falling_by : (operand : diagram.Operand) (n w : ℕ) (e a b i : Expression) (c : Cell) → c ≡ Contact Falling operand (Some n) → IsMemory d n w
      → IsBoth i b e → IsInverse a i → IsVariable w b → Begins d rung [] known operand a → IsEdgeOf d variables count rung known e c
  falling_by operand n w e a b i c cell memory both inverse is begins = λ now g h flags size between.
      ap (value_in h) (both.2 ∙ ap (λ (x : Expression). tree.And' both.0 x both.1 b) inverse.1 ∙ ap (λ (x : Expression). tree.And' both.0 (tree.Not' inverse.0 a) both.1 x) is)
      ∙ falling_is operand n w a b both.0 both.1 inverse.0 memory begins now g h flags size between
      ∙ sym (ap (λ (x : Cell). closed plain (frame_of g) (memory_of g.kept x) x) cell)
