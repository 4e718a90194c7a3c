use Rattle.std.proofs.Common.{◌≡◌, ◌∙◌, Some, ap, inl, sym}
use Rattle.text_names.specs.Nearest.{nearest, told_name}
use Rattle.text_names.proofs.unknown.write_unknown.Goals as goal

pub returns-in-Ok-Some : goal.returns-in-Ok-Some
returns-in-Ok-Some g c =
    let decls = c.args.decls.now in
    let same : told_name decls (nearest decls c.args.wanted c.args.word.now) ≡ Some c.name_at.result.now =
    ap (told_name decls) (sym c.in-Ok-Some.ensures ∙ c.in-Ok-Some.field-0-is) ∙ ap Some (sym c.name_at.ensures) in
    inl (rw same c.write_with.ensures)
