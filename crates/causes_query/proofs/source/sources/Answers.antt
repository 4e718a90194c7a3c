use Rattle.std.proofs.Common.{◌≡◌, ◌∙◌, sym, true, false, slice_index_or}
use Rattle.std.proofs.lemmas.List.Elements.{All-push}
use Rattle.diagram_declarations.specs.Decls.{is_input}
use Rattle.causes_query.specs.Sources.{IsShort, source_of}
use Rattle.causes_query.proofs.Asking.{value_at}
use Rattle.causes_query.proofs.SourceLaws.{passed_over, taken_up}
use Rattle.causes_query.proofs.source.sources.Goals as goal

pub loop-var-preserved-then-not-is_input : goal.loop-var-preserved-then-not-is_input
loop-var-preserved-then-not-is_input c =
    let inv = c.loop-var.invariant in
    let off : is_input c.index-vars-var.result ≡ false = sym c.is_input.ensures ∙ c.if-not-is_input.true in
    record {
      so_far = passed_over is_input (λ var. source_of c.args.listed.now var (slice_index_or c.args.state.now.held.values var false)) c.args.vars.now
          c.loop-var.var c.index-vars-var.result _ c.loop-var-test.true c.index-vars-var.is off inv.so_far;
      short = inv.short;
    }

pub loop-var-preserved : goal.loop-var-preserved
loop-var-preserved c =
    let inv = c.loop-var.invariant in
    let stored : c.value.result ≡ slice_index_or c.args.state.now.held.values c.loop-var.var false = sym (value_at c.args.state.now.held.values c.loop-var.var c.value.result c.value.ensures) in
    let on : is_input c.index-vars-var.result ≡ true = sym c.is_input.ensures ∙ c.if-not-is_input.false in
    record {
      so_far = rw (c.in_ok-push.ensures.items, c.source_of.ensures.source, stored)
          (taken_up is_input (λ var. source_of c.args.listed.now var (slice_index_or c.args.state.now.held.values var false)) c.args.vars.now
          c.loop-var.var c.index-vars-var.result _ c.loop-var-test.true c.index-vars-var.is on inv.so_far);
      short = rw c.in_ok-push.ensures.items (All-push IsShort _ _ inv.short c.source_of.ensures.short);
    }
