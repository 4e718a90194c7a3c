-- A state that is carried over: what each step keeps, and all of them.
use Rattle.std.proofs.Common.{◌≡◌, ◌∙◌, ◌<◌, ℕ, Bool, List, Some, true, false, ap, arith, get_or, length, map, slice_get, slice_index_or, subst, sym}
use Rattle.std.specs.List.{All}
use Rattle.std.proofs.lemmas.List.{length-map}
use Rattle.std.proofs.lemmas.Option.{get_or_from_slice_get, slice_get-get_or, slice_get_within}
use Rattle.diagram_declarations.specs.declared.kind.BlockKind.{BlockKind}
use Rattle.diagram_declarations.specs.declared.kind.BlockKind.TheVariants.{Ton}
use Rattle.diagram_declarations.specs.declared.decls.Instance.{Instance}
use Rattle.diagram_declarations.specs.declared.decls.Var.{Var}
use Rattle.diagram_declarations.specs.Decls.{is_input}
use Rattle.diagram_program.specs.Program.{Drawing}
use Rattle.scan_signals.specs.declared.block.Stored.{Stored}
use Rattle.scan_signals.specs.Blocks.{new_block}
use Rattle.scan_cycle.specs.Standing.{CanStore, Fits, IsStanding, Standing, fresh, with_blocks, with_memories, with_moment, with_values}
use Rattle.diff_matching.specs.declared.matching.Pair.{Pair}
use Rattle.diff_matching.specs.Carried.{IsAlone, IsCarried}
use Rattle.diff_matching.specs.Matching.{Matching}
use Rattle.diff_matching.specs.Suited.{AreBoth, IsSuited}
use Rattle.diff_matching.specs.Writing.{AreInstances, IsWritten}

pub can_store : (s start to : Standing) (a b : ℕ) (v : Stored) → IsStanding s → a < length s.held.kept.blocks → slice_index_or s.kinds a Ton ≡ slice_index_or start.kinds b Ton
    → to ≡ with_blocks start to.held.kept.blocks → start.moment ≡ s.moment → v ≡ slice_index_or s.held.kept.blocks a (new_block Ton) → CanStore (slice_index_or to.kinds b Ton) to.moment v
can_store s start to a b v standing short kinds same moment is =
    let kind_at : slice_get s.kinds a ≡ Some (get_or s.kinds a Ton) = slice_get-get_or s.kinds a Ton (omega (arith, standing.sound.as_many)) in
    let block_at = slice_get-get_or s.held.kept.blocks a (new_block Ton) short in
    let can = standing.sound.each a (get_or s.kinds a Ton) (get_or s.held.kept.blocks a (new_block Ton)) kind_at block_at in
    let kind : get_or s.kinds a Ton ≡ get_or to.kinds b Ton = kinds ∙ ap (λ (t : Standing). get_or t.kinds b Ton) (sym same) in
    let now : s.moment ≡ to.moment = sym moment ∙ ap (λ (t : Standing). t.moment) (sym same) in
    subst (λ k. CanStore k to.moment v) kind (subst (λ n. CanStore (get_or s.kinds a Ton) n v) now (subst (CanStore (get_or s.kinds a Ton) s.moment) (sym is) can))

module _ (p q : Drawing) (m : Matching) (suited : IsSuited m p q) (s start filled : Standing) (begins : start ≡ with_moment (fresh q) s.moment) where
  -- before the other variables are written
  pub variables_there : IsWritten false m.inputs s.held.values start.held.values filled.held.values → All (λ x. x.new < length filled.held.values) m.variables
  variables_there h k d short =
      let within = slice_get_within (map is_input q.decls.vars) (get_or m.variables k d).new false (suited.variables k d short).1 in
      let size = length-map q.decls.vars is_input in
      let many = length-map q.decls.vars (λ (v : Var). v.initial) in
      let first : length start.held.values ≡ length (fresh q).held.values = ap (λ (t : Standing). length t.held.values) begins in
      omega (arith, h.as_many)

  -- before instances are written
  pub instances_there : Fits p s → IsStanding s → filled.held.kept.blocks ≡ start.held.kept.blocks → filled.kinds ≡ start.kinds → AreInstances m.instances s filled
  instances_there fits standing blocks kinds k d short =
      let x : Pair = get_or m.instances k d in
      let kind : Instance → BlockKind = λ i. i.kind in
      let here = suited.instances k d short in
      let old : slice_get s.kinds x.old ≡ Some here.0 = ap (λ ks. slice_get ks x.old) fits.kinds ∙ here.1.0 in
      let new : slice_get filled.kinds x.new ≡ Some here.0 = ap (λ ks. slice_get ks x.new) (kinds ∙ ap (λ (t : Standing). t.kinds) begins) ∙ here.1.1 in
      let within = slice_get_within s.kinds x.old here.0 old in
      let there = slice_get_within (map kind q.decls.instances) x.new here.0 here.1.1 in
      let size = length-map q.decls.instances kind in
      let many = length-map q.decls.instances (λ (i : Instance). new_block i.kind) in
      let first : length filled.held.kept.blocks ≡ length (fresh q).held.kept.blocks = ap length blocks ∙ ap (λ (t : Standing). length t.held.kept.blocks) begins in (
        omega (arith, standing.sound.as_many),
        omega arith,
        get_or_from_slice_get s.kinds x.old here.0 Ton old ∙ sym (get_or_from_slice_get filled.kinds x.new here.0 Ton new),
      )

-- an input is with no other variable
input_alone : (p q : Drawing) (m : Matching) → IsSuited m p q → (n : ℕ) (x : Pair) → slice_get m.inputs n ≡ Some x → IsAlone m.variables x.new
input_alone p q m suited n x is k y at same =
    let input : AreBoth true p q x = subst (AreBoth true p q) (get_or_from_slice_get m.inputs n x x is) (suited.inputs n x (slice_get_within m.inputs n x is)) in
    let other : AreBoth false p q y = subst (AreBoth false p q) (get_or_from_slice_get m.variables k y y at) (suited.variables k y (slice_get_within m.variables k y at)) in
    let both : Some true ≡ Some false = sym input.1 ∙ ap (slice_get (map is_input q.decls.vars)) (sym same) ∙ other.1 in
    cc

-- inputs, then other variables, instances and memories are written
pub carried : (p q : Drawing) (m : Matching) → IsSuited m p q → (s t1 t2 t3 t4 t5 : Standing) → t1 ≡ with_moment (fresh q) s.moment
    → IsWritten false m.inputs s.held.values t1.held.values t2.held.values → t2 ≡ with_values t1 t2.held.values
    → IsWritten false m.variables s.held.values t2.held.values t3.held.values → t3 ≡ with_values t2 t3.held.values
    → IsWritten (new_block Ton) m.instances s.held.kept.blocks t3.held.kept.blocks t4.held.kept.blocks → t4 ≡ with_blocks t3 t4.held.kept.blocks
    → IsWritten false m.memories s.held.kept.memories t4.held.kept.memories t5.held.kept.memories → t5 ≡ with_memories t4 t5.held.kept.memories → IsCarried m q s t5
carried p q m suited s t1 t2 t3 t4 t5 e1 w2 e2 w3 e3 w4 e4 w5 e5 =
    let values : Standing → List Bool = λ t. t.held.values in
    let blocks : Standing → List Stored = λ t. t.held.kept.blocks in
    let memories : Standing → List Bool = λ t. t.held.kept.memories in
    let moment : Standing → ℕ = λ t. t.moment in
    let last_values : values t5 ≡ values t3 = ap values e5 ∙ ap values e4 in
    let last_blocks : blocks t5 ≡ blocks t4 = ap blocks e5 in
    let first_blocks : blocks t3 ≡ blocks (fresh q) = ap blocks e3 ∙ ap blocks e2 ∙ ap blocks e1 in
    let first_memories : memories t4 ≡ memories (fresh q) = ap memories e4 ∙ ap memories e3 ∙ ap memories e2 ∙ ap memories e1 in
    record {
      agree = record {
        variables = λ n x is. w3.same n x is ∙ ap (λ vs. slice_index_or vs x.new false) (sym last_values);
        instances = λ n x is. w4.same n x is ∙ ap (λ bs. slice_index_or bs x.new (new_block Ton)) (sym last_blocks);
        memories = w5.same;
      };
      inputs = λ n x is. w2.same n x is ∙ sym (w3.rest x.new (input_alone p q m suited n x is)) ∙ ap (λ vs. slice_index_or vs x.new false) (sym last_values);
      values = λ n no_input no_variable.
          ap (λ vs. slice_index_or vs n false) last_values ∙ w3.rest n no_variable ∙ w2.rest n no_input ∙ ap (λ t. slice_index_or (values t) n false) e1;
      instances = λ n alone. ap (λ bs. slice_index_or bs n (new_block Ton)) last_blocks ∙ w4.rest n alone ∙ ap (λ bs. slice_index_or bs n (new_block Ton)) first_blocks;
      memories = λ n alone. w5.rest n alone ∙ ap (λ ms. slice_index_or ms n false) first_memories;
      moment = ap moment e5 ∙ ap moment e4 ∙ ap moment e3 ∙ ap moment e2 ∙ ap moment e1;
    }
