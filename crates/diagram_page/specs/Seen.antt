-- Private: the page that the code holds while it reads it.
use Rattle.std.specs.Prelude.{map}
use Rattle.diagram_page.specs.declared.view.PageView.{PageView}
use Rattle.diagram_page.specs.Page.{Page}
use Rattle.diagram_page.specs.ReadLines.{page}

abbrev pub seen : PageView → Page
seen v = page v.decls.now (map (λ l. l.now) v.lines.now) v.unclosed v.parts.now v.forms.now
