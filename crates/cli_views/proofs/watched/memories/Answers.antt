use Rattle.std.proofs.Common.{◌≡◌, ◌∙◌, ◌≤◌, ap, arith, sym, ℕ, List, true, false, map, length}
use Rattle.std.specs.Prelude.{filter, slice_index_or}
use Rattle.std.specs.List.{range_with_len}
use Rattle.diagram_declarations.specs.declared.decls.Symbol.{Symbol}
use Rattle.diagram_declarations.specs.declared.decls.Symbol.TheVariants as symbol
use Rattle.diagram_declarations.specs.declared.decls.Var.{Var}
use Rattle.causes_query.proofs.SourceLaws.{passed_over, taken_up}
use Rattle.cli_views.specs.Watched.{is_memory, memories_of}
use Rattle.cli_views.proofs.watched.memories.Goals as goal

-- All variables were gone through.
all_taken : (vars : List Var) (n : ℕ) (xs : List Symbol) → length vars ≤ n → n ≤ length vars
    → xs ≡ map symbol.Var (filter (λ i. slice_index_or (map is_memory vars) i false) (range_with_len 0 n)) → xs ≡ memories_of vars
all_taken vars n xs past far taken =
    let all : n ≡ length vars = omega (arith, past, far) in
    taken ∙ ap (λ k. map symbol.Var (filter (λ i. slice_index_or (map is_memory vars) i false) (range_with_len 0 k))) all

pub loop-var-preserved-then-not-is_memory : goal.loop-var-preserved-then-not-is_memory
loop-var-preserved-then-not-is_memory c =
    let off : is_memory c.index-vars-var.result ≡ false = sym c.is_memory.ensures ∙ c.if-not-is_memory.true in
    passed_over is_memory symbol.Var c.args.vars.now c.loop-var.var c.index-vars-var.result _ c.loop-var-test.true c.index-vars-var.is off c.loop-var.invariant

pub loop-var-preserved : goal.loop-var-preserved
loop-var-preserved c =
    let on : is_memory c.index-vars-var.result ≡ true = sym c.is_memory.ensures ∙ c.if-not-is_memory.false in
    rw c.in-Ok.ensures.items (taken_up is_memory symbol.Var c.args.vars.now c.loop-var.var c.index-vars-var.result _ c.loop-var-test.true c.index-vars-var.is on c.loop-var.invariant)

pub returns-clause-ok : goal.returns-clause-ok
returns-clause-ok c = all_taken c.args.vars.now c.loop-var.var _ c.loop-var-test.false c.loop-var.auto.var-end c.loop-var.invariant
