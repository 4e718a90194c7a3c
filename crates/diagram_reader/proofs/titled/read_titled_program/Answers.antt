use Rattle.std.proofs.Common.{List, ℕ, drop}
use Rattle.diagram_program.specs.Program.{drawing}
use Rattle.diagram_reader.proofs.FaultLaws.{declared_right, right, no_program}
use Rattle.diagram_reader.proofs.OneProgram.{makes_program}
use Rattle.diagram_reader.proofs.ReadingLaws.{read_whole}
use Rattle.diagram_reader.proofs.TitleLaws.{titled_program, whole_too, well_formed_too}
use Rattle.diagram_reader.proofs.WellFormed.{read_well_formed}
use Rattle.diagram_reader.proofs.titled.read_titled_program.Goals as goal

pub take_aliases-requires : goal.take_aliases-requires
take_aliases-requires c = (drop c.in-Ok.read.1 c.args.text.now, c.in-Ok.ensures.found.1)

pub new-requires-clause-whole : goal.new-requires-clause-whole
new-requires-clause-whole c = whole_too c.in-Ok.read.0 c.take_aliases.new.decls _ _ (read_whole _ _ c.in-Ok-read_sites.ensures.found)

pub new-requires-clause-well_formed : goal.new-requires-clause-well_formed
new-requires-clause-well_formed c =
    well_formed_too c.in-Ok.read.0 c.take_aliases.new.decls _ _ c.take_aliases.ensures.same (read_well_formed _ _ c.in-Ok-read_sites.ensures.found)

pub returns-in-Err-clause-refused : goal.returns-in-Err-clause-refused
returns-in-Err-clause-refused c = (
  λ other p program. c.in-Err.ensures.none other program.page.decls program.rest program.read,
  declared_right c.args.text.now _ _ c.in-Err.ensures.none c.in-Err.ensures.broken,
)

pub returns-in-Err-read_sites-clause-refused : goal.returns-in-Err-read_sites-clause-refused
returns-in-Err-read_sites-clause-refused c =
    let text : List ℕ = c.args.text.now in
    let broken = rw c.behind.ensures at c.in-Err-read_sites.ensures.broken in (
      no_program text c.in-Ok.read.0 c.in-Ok.read.1 c.in-Ok.ensures.found.0 c.in-Ok.ensures.found.1 c.in-Ok.ensures.only _ _ broken (c.fault_of.ensures.memory, c.fault_of.ensures.broken),
      right text c.in-Ok.read.0 c.in-Ok.read.1 c.in-Ok.ensures.found.0 c.in-Ok.ensures.found.1 _ _ broken (c.fault_of.ensures.memory, c.fault_of.ensures.broken),
    )

pub returns-in-Err-take_aliases-clause-refused : goal.returns-in-Err-take_aliases-clause-refused
returns-in-Err-take_aliases-clause-refused c =
    let read = rw c.behind.ensures at c.in-Ok-read_sites.ensures.found in
    (drawing c.in-Ok.read.0 _ _, makes_program c.args.text.now c.in-Ok.read.0 _ c.in-Ok.ensures.found.1 _ read, c.in-Err-take_aliases.ensures.taken)

pub returns-in-Ok-new-clause-found : goal.returns-in-Ok-new-clause-found
returns-in-Ok-new-clause-found c =
    let read = rw c.behind.ensures at c.in-Ok-read_sites.ensures.found in
    let program = makes_program c.args.text.now c.in-Ok.read.0 _ c.in-Ok.ensures.found.1 _ read in
    rw c.in-Ok-new.ensures (titled_program c.args.text.now c.in-Ok.read.0 c.take_aliases.new.decls _ _ c.take_aliases.ensures.same program, c.in_default.ensures.titled)
