use Rattle.std.proofs.Common.{◌↔◌, All, length}
use Rattle.clp_import.specs.Refusals.{IsRefusedKind}
use Rattle.clp_import.proofs.holding.has_no_refused_kind.Given as goal

abbrev pub invariant-loop-elements : goal.invariant-loop-elements
invariant-loop-elements l =
    All (λ e. ¬ (IsRefusedKind l.reading l.project e)) l.elements ↔ All (λ e. ¬ (IsRefusedKind l.reading l.project e)) l.initial.elements

abbrev pub decreases-loop-elements : goal.decreases-loop-elements
decreases-loop-elements l = length l.elements
