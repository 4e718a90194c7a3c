use Rattle.std.proofs.Common.{◌≡◌, ◌∙◌, ap}
use Rattle.causes_query.proofs.Imaging.{written_whole}
use Rattle.causes_query.specs.Sources.{image_of}
use Rattle.diff_causes.proofs.RowLaws.{is_left}
use Rattle.diff_causes.proofs.number_scan.is_on.Goals as goal

pub returns-clause-on : goal.returns-clause-on
returns-clause-on c =
    let a = c.args.query in
    let single = c.args.made.now in
    let image = single.image in
    let same : c.deref-2.result.now ≡ image_of c.args.number single.sources.items =
    c.deref-2.ensures.value ∙ written_whole c.fill.new.image image.items image.len (c.fill.auto.image ∙ c.deref_mut.ensures.len) image.ok.0
    ∙ c.fill.ensures ∙ ap (image_of c.args.number) c.deref.ensures.value in
    c.value_or_off.ensures
    ∙ is_left a.program.now a.state.now a.now a.coil c.args.number a.listed.now single.sources.items c.deref-2.result.now c.copy_from.new.self c.scan.new.state
    c.requires.made.sources_are same c.copy_from.ensures c.in-Ok.ensures.done
