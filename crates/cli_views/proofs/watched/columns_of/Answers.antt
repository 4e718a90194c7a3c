use Rattle.std.proofs.Common.{◌∙◌}
use Rattle.diagram_declarations.specs.declared.decls.Symbol.TheVariants as symbol
use Rattle.cli_views.proofs.Growing.{one_symbol}
use Rattle.cli_views.proofs.watched.columns_of.Goals as goal

pub loop-symbol-preserved : goal.loop-symbol-preserved
loop-symbol-preserved c =
    c.in_ok-add_columns.ensures.ok
    ∙ one_symbol c.args.decls.now c.args.watched.now c.loop-symbol.symbol-index (symbol.Var 0) c.loop-symbol.columns.items c.loop-symbol-test.true c.loop-symbol.invariant
