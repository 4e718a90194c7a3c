use Rattle.st_program.specs.Declarations.{last_section}
use Rattle.st_program.proofs.Declared.{section_next}
use Rattle.st_program.proofs.declarations.read_sections.Goals as goal

pub loop-section-preserved : goal.loop-section-preserved
loop-section-preserved c =
    section_next _ _ _ _ _ _ _ _ _ _ c.loop-section.invariant c.in-Some.ensures.opened c.in_ok-after.ensures.declarations c.after_semicolon-rest.ensures.semicolon

pub returns : goal.returns
returns c = record { sections = c.loop-section.invariant _ _ (last_section _ _) }
