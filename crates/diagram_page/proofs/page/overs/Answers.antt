use Rattle.std.proofs.Common.{◌/◌, ◌%◌, List, map, ◌∙◌, rules}
use Rattle.diagram_program.specs.declared.geometry.TheConstants.{ROWS, PLACES}
use Rattle.diagram_page.specs.declared.operand.NameOver.{NameOver}
use Rattle.diagram_page.specs.Picture.{text_at}
use Rattle.diagram_program.specs.Geometry.{at_place}
use Rattle.diagram_page.specs.Tables.{over_read}
use Rattle.diagram_page.proofs.OverLaws.{read_over}
use Rattle.diagram_program.proofs.PlaceLaws.{no_place_yet, one_place_more}
use Rattle.diagram_page.proofs.page.overs.Goals as goal

pub loop-n-init : goal.loop-n-init
loop-n-init c = rw c.new-overs.ensures.items (no_place_yet _)

pub loop-n-preserved : goal.loop-n-preserved
unfolding text_at
loop-n-preserved c =
    let lines = map (λ x. x.now) c.args.lines.now in
    let n = c.loop-n.n in
    let told = read_over c.args.decls.now lines c.args.parts.now (n / PLACES) (n % PLACES % ROWS) (n % PLACES / ROWS) (map (λ x. x.now) c.rung_in-rung.result.now) c.text_at-chars.result c.word_in.result.now _ (search rules) (search rules) c.word_in.ensures (search rules) in
    ◌∙◌ {A = List NameOver} c.in_ok-push.ensures.items (one_place_more _ (at_place (over_read c.args.decls.now lines c.args.parts.now)) n _ c.loop-n.invariant told)
