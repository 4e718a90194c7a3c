use Rattle.std.proofs.lemmas.List.Elements.{All-contains}
use Rattle.std.specs.Prelude.{Contains}
use Rattle.diagram_declarations.specs.declared.decls.Symbol.TheVariants as symbol
use Rattle.invariant_sets.specs.Pairs.{IsOutside}
use Rattle.invariant_sets.proofs.first_pairs.outside.Goals as goal

pub returns-clause-all : goal.returns-clause-all
returns-clause-all c = λ s h. elim s as (λ x. IsOutside c.args.program.now c.args.set.now x → Contains c.add_instances.new.symbols.items x) [
  | symbol.Var var ↦ λ k. All-contains (Contains c.add_instances.new.symbols.items) c.add_variables.new.symbols.items (symbol.Var var) c.in_ok-add_instances.ensures.kept
      (c.in_ok-add_variables.ensures.all var k)
  | symbol.Instance inst ↦ λ k. c.in_ok-add_instances.ensures.all inst k
] h
