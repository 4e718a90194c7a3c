use Rattle.std.proofs.Common.{◌/◌, ◌%◌, List, Option, map, ◌∙◌, rules}
use Rattle.diagram_program.specs.declared.geometry.TheConstants.{ROWS, PLACES}
use Rattle.diagram_page.specs.declared.form.Form.{Form}
use Rattle.diagram_page.specs.Picture.{text_at}
use Rattle.diagram_program.specs.Geometry.{at_place}
use Rattle.diagram_page.specs.ReadLines.{form_read}
use Rattle.diagram_program.proofs.PlaceLaws.{no_place_yet, one_place_more}
use Rattle.diagram_page.proofs.FormLaws.{read_told}
use Rattle.diagram_page.proofs.page.forms.Goals as goal

pub loop-n-init : goal.loop-n-init
loop-n-init c = rw c.new-forms.ensures.items (no_place_yet _)

pub loop-n-preserved : goal.loop-n-preserved
unfolding text_at
loop-n-preserved c =
    let lines = map (λ x. x.now) c.args.lines.now in
    let n = c.loop-n.n in
    let told = read_told lines c.args.parts.now (n / PLACES) (n % PLACES % ROWS) (n % PLACES / ROWS) (map (λ x. x.now) c.rung_in-rung.result.now) c.text_at-chars.result c.form_at.result (search rules) (search rules) c.form_at.ensures in
    ◌∙◌ {A = List (Option Form)} c.in_ok-push.ensures.items (one_place_more _ (at_place (form_read lines c.args.parts.now)) n _ c.loop-n.invariant told)
