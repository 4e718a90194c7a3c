use Rattle.std.proofs.Common.{◌≡◌, ◌∙◌, ◌+◌, ◌++◌, List, ap, ap₂, map}
use Rattle.diagram_program.specs.declared.site.Site.{Site}
use Rattle.diff_beside.specs.Moving.{Shift, moved_site, shift_of}
use Rattle.diff_beside.proofs.WellFormed.{joined_well_formed}
use Rattle.diff_beside.proofs.beside.joined.Goals as goal

pub new-requires-clause-well_formed : goal.new-requires-clause-well_formed
new-requires-clause-well_formed c =
    let a : Shift = shift_of c.args.of_old in
    let b : Shift = shift_of c.args.of_new in
    let first : c.add_sites.new.sites.items ≡ map (moved_site a) c.args.old.now.sites
    = c.in_ok-add_sites.ensures ∙ ap (λ (x : List Site). x ++ map (moved_site a) c.args.old.now.sites) c.new-sites.ensures.items in
    let sites : c.add_sites-2.new.sites.items ≡ map (moved_site a) c.args.old.now.sites ++ map (moved_site b) c.args.new.now.sites
    = c.in_ok-add_sites-2.ensures ∙ ap (λ (x : List Site). x ++ map (moved_site b) c.args.new.now.sites) first in
    joined_well_formed c.args.old.now c.args.new.now c.args.decls a b c.args.of_old.vars.now c.args.of_new.vars.now (c.rungs.result + c.rungs-2.result)
    c.add_sites-2.new.sites.items c.checked.ensures.whole c.checked-2.ensures.whole c.checked.ensures.well_formed c.checked-2.ensures.well_formed
    c.requires.before c.requires.after c.requires.old c.requires.new (ap₂ (λ m n. m + n) c.rungs.ensures.value c.rungs-2.ensures.value) sites
