use Rattle.std.proofs.Common.{◌≡◌, ℕ, List, map, Some, Ok, Err, IfErr, Result}
use Rattle.clp_project.specs.declared.fault.ClpFault.{ClpFault}
use Rattle.clp_project.specs.declared.fault.ClpFault.TheVariants.{Memory, NotLadder, BrokenWay}
use Rattle.clp_project.specs.declared.reading.ReadingOptions.{ReadingOptions}
use Rattle.clp_project.specs.declared.rung.ClpRung.{ClpRung}
use Rattle.clp_project.specs.declared.table.Section.{Section}
use Rattle.clp_project.specs.Format.{part_of}
use Rattle.clp_project.specs.Order.{IsOrderFault, arranged}
use Rattle.clp_project.specs.Project.{IsFaultOf, sections_head}
use Rattle.clp_project.specs.Rungs.{read_of, rungs_in}
use Rattle.clp_project.specs.Tables.{sections_in}
use Rattle.clp_project.proofs.project.rungs_of.Goals as goal

order_fault : (reading : ReadingOptions) (lines : List (List ℕ)) (rungs : List ClpRung) (sections : List Section) → rungs_in lines ≡ Ok (map read_of rungs)
    → sections_in (part_of sections_head lines) ≡ Some sections → (fault : ClpFault) → IsOrderFault (arranged reading rungs sections) fault → IsFaultOf reading lines fault
order_fault reading lines rungs sections read listed Memory is = tt
order_fault reading lines rungs sections read listed (NotLadder section) is = (rungs, sections, read, listed, is)
order_fault reading lines rungs sections read listed (BrokenWay section) is = (rungs, sections, read, listed, is)
order_fault reading lines rungs sections read listed _ is = absurd is

any_fault : {T : Type 0} (reading : ReadingOptions) (lines : List (List ℕ)) (rungs : List ClpRung) (sections : List Section) → rungs_in lines ≡ Ok (map read_of rungs)
    → sections_in (part_of sections_head lines) ≡ Some sections → (r : Result T ClpFault) → IfErr r (λ e. IsOrderFault (arranged reading rungs sections) e)
    → IfErr r (λ e. IsFaultOf reading lines e)
any_fault reading lines rungs sections read listed (Ok x) is = tt
any_fault reading lines rungs sections read listed (Err fault) is = order_fault reading lines rungs sections read listed fault is

pub returns-clause-none : goal.returns-clause-none
returns-clause-none c =
    any_fault c.args.reading (map (λ l. l.now) c.args.lines.now) c.in_ok-rungs.rungs.items c.in_ok-sections.sections.items c.in_ok-rungs.ensures.found c.in_ok-sections.ensures.found
    c.arranged.result (rw (c.deref.ensures.value, c.deref-2.ensures.value) at c.arranged.ensures.none)
