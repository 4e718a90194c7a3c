use Rattle.std.proofs.Common.{◌≡◌, ℕ, ◌+◌, ◌-◌, cond, ◌==◌, List, ◌++◌, None, Some, length, get_or, take, drop, sym, ap, ◌∙◌, arith, rules}
use Rattle.std.proofs.lemmas.Grind.{common_steps}
use Rattle.diagram_program.specs.Bytes.{line_feed}
use Rattle.diagram_page.specs.ReadLines.{blanked_from, unclosed_from, is_opening, is_closing}
use Rattle.diagram_page.proofs.RunLaws.{first_one, step_seen, step_unclosed}
use Rattle.diagram_page.proofs.lines.shown_text.Goals as goal

pub loop-text-preserved : goal.loop-text-preserved
loop-text-preserved c =
    let text : List ℕ = c.loop-text.text.now in
    let b : ℕ = get_or text 0 0 in
    let rest : List ℕ = take (length text - 1) (drop 1 text) in
    let next = c.next_inside-next.result in
    let first = first_one text (omega arith) in
    let line_is : c.if-b-eq10.line ≡ cond (b == line_feed) (c.loop-text.line + 1) c.loop-text.line = first_of (search rules, grind (arith, common_steps)) in
    let since_is : c.match-next.unclosed ≡ cond (is_opening next) (Some c.loop-text.line) (cond (is_closing next) None c.loop-text.unclosed) = first_of (search rules, grind (arith, common_steps)) in
    record {
      seen = step_seen c.loop-text.inside next b rest c.loop-text.seen.items c.push.new.self.items c.show_run.new.seen.items c.split_at.result.0.now c.split_at.result.1.now (search rules) (search rules) (search rules) (search rules) (search rules) ∙ ap (λ z. c.loop-text.seen.items ++ blanked_from c.loop-text.inside z) (sym first) ∙ c.loop-text.invariant.seen;
      unclosed = step_unclosed c.loop-text.inside next b rest c.loop-text.line c.if-b-eq10.line c.loop-text.unclosed c.match-next.unclosed c.split_at.result.1.now (search rules) line_is since_is (search rules) ∙ ap (unclosed_from c.loop-text.inside c.loop-text.line c.loop-text.unclosed) (sym first) ∙ c.loop-text.invariant.unclosed;
      within = grind (arith, common_steps);
    }
