-- Assignments before those of the cells: what variables stand for.
use Rattle.std.proofs.Common.{◌≡◌, ℕ, ◌<◌, ◌≤◌, All, Bool, true, false, List, [], ◌∷◌, ◌++◌, length, get_or, set, map, refl, ap, subst, ◌∙◌, arith, get_or-set_same}
use Rattle.std.proofs.lemmas.List.Elements.{All-append, All-nil, All-cons, All-head, All-tail}
use Rattle.diagram_program.specs.declared.gates.Action.{Action}
use Rattle.diagram_program.specs.Program.{Drawing}
use Rattle.diagram_declarations.specs.declared.kind.BlockKind.TheVariants.{Ton}
use Rattle.scan_signals.specs.Blocks.{new_block, q_of}
use Rattle.scan_cycle.specs.Rung.{Held, frame_of}
use Rattle.st_expression.specs.declared.expression.Expression.{Expression}
use Rattle.st_statements.specs.declared.statement.StatementList.{StatementList}
use Rattle.st_statements.specs.declared.statement.StatementList.TheVariants.{Assign'}
use Rattle.st_statements.specs.Run.{assigned, run, value_in}
use Rattle.draw_check.specs.Acted.{acted, acted_from}
use Rattle.export_power.specs.declared.known.Known.{Known}
use Rattle.export_power.specs.Sight.{meant}
use Rattle.export_rungs.specs.Forms.{IsAssignment, Memory}
use Rattle.export_rungs.specs.Steps.{Comes, IsBetween, base_of}
use Rattle.export_rungs.specs.Standing.{IsMeaning}
use Rattle.export_rungs.proofs.Matched.{at_high}
use Rattle.export_rungs.proofs.Sight.{IsOther, sees_high}

module _ (d : Drawing) (variables count rung : ℕ) where
  abbrev Stands : Held → ℕ → Held → Known → Type 0
  Stands g now h x = get_or h.values x.variable false ≡ meant d rung g.kept now (frame_of g) x.meaning

  abbrev High : ℕ → Known → Type 0
  High flags x = base_of d flags ≤ x.variable

  pub prepared_none : (list : StatementList) → Comes d variables count rung [] [] list list
  unfolding acted
  prepared_none list = λ now g h flags size at. (
    h,
    record {
      at = at;
      sees = record {
        values = λ v lt t. at.matched.values v lt;
        ends = λ i t. ap (λ (bs : _). get_or (map q_of bs) i false) at.matched.blocks;
        called = λ i place is t. absurd (never t);
        stands = All-nil _;
      };
      rests = λ i t. ap (λ (bs : _). get_or bs i (new_block Ton)) at.matched.blocks;
      high = All-nil _;
    },
    refl,
  )
    where
      never : false ≡ true → ⊥
      never t = cc

  -- all that the value of an expression is, in the variable that it is assigned to
  standing : (known : List Known) (done : List Action) (v : ℕ) (e : Expression) (xs : List Known) → v < variables
      → All (IsMeaning d variables count rung known done v e) xs → (now : ℕ) (g s : Held) (flags : List Bool) → length flags ≡ count
      → IsBetween d variables flags now rung known done g s → All (Stands g now (assigned v (value_in s e) s)) xs
  standing known done v e [] small are now g s flags size between = All-nil (Stands g now (assigned v (value_in s e) s))
  standing known done v e (x ∷ xs) small are now g s flags size between =
      let Is : Known → Type 0 = IsMeaning d variables count rung known done v e in
      let one : Is x = All-head Is x xs are in
      All-cons (Stands g now (assigned v (value_in s e) s)) x xs
      (ap (λ i. get_or (set s.values v (value_in s e)) i false) one.0
      ∙ get_or-set_same s.values v (value_in s e) false (omega (arith, small, between.at.matched.long))
      ∙ one.1 now g s flags size between)
      (standing known done v e xs small (All-tail Is x xs are) now g s flags size between)

  high_too : (known : List Known) (done : List Action) (v : ℕ) (e : Expression) (flags : ℕ) (xs : List Known) → base_of d flags ≤ v
      → All (IsMeaning d variables count rung known done v e) xs → All (High flags) xs
  high_too known done v e flags [] le are = All-nil (High flags)
  high_too known done v e flags (x ∷ xs) le are =
      let Is : Known → Type 0 = IsMeaning d variables count rung known done v e in
      let one : Is x = All-head Is x xs are in
      All-cons (High flags) x xs (omega (arith, le, one.0)) (high_too known done v e flags xs le (All-tail Is x xs are))

  pub prepared_more : (known : List Known) (done : List Action) (v : ℕ) (xs : List Known) (e : Expression) (q : Memory) (list next : StatementList)
      → base_of d count ≤ v → v < variables → All (IsOther v) known → All (IsMeaning d variables count rung known done v e) xs
      → Comes d variables count rung known done list (Assign' v e q next) → Comes d variables count rung (known ++ xs) done list next
  unfolding run
  prepared_more known done v xs e q list next low small others are before = λ now g h flags size at.
      let first = before now g h flags size at in
      let s = first.0 in
      let between = first.1 in
      let after = assigned v (value_in s e) s in
      let high : base_of d (length flags) ≤ v = omega (arith, low, size) in
      let sees = sees_high d rung known g.kept now (frame_of g) done v (value_in s e) s (omega (arith, high)) others between.sees in (
        after,
        record {
          at = at_high d variables flags v (value_in s e) (acted_from d now rung g done g) s high between.at;
          sees = record {
            values = sees.values;
            ends = sees.ends;
            called = sees.called;
            stands = All-append (Stands g now after) known xs sees.stands (standing known done v e xs small are now g s flags size between);
          };
          rests = between.rests;
          high = All-append (High (length flags)) known xs between.high (high_too known done v e (length flags) xs high are);
        },
        first.2,
      )

  pub prepared_by : (known : List Known) (done : List Action) (v : ℕ) (xs : List Known) (e : Expression) (first list next : StatementList) → base_of d count ≤ v → v < variables
      → All (IsOther v) known → All (IsMeaning d variables count rung known done v e) xs → IsAssignment v e next list
      → Comes d variables count rung known done first list → Comes d variables count rung (known ++ xs) done first next
  prepared_by known done v xs e first list next low small others are begins before =
      prepared_more known done v xs e begins.0 first next low small others are
      (subst (λ (l : StatementList). Comes d variables count rung known done first l) begins.1 before)
