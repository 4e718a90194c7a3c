-- One turn of each loop.
use Rattle.std.proofs.Common.{◌≡◌, ℕ, ◌+◌, ◌<◌, ◌≤◌, Bool, List, drop, length, get_or, sym, ap, ◌∙◌}
use Rattle.std.proofs.lemmas.List.{drop_more, drop_all}
use Rattle.diagram_program.specs.declared.gates.Action.{Action}
use Rattle.scan_signals.specs.Truth.{plain}
use Rattle.scan_cycle.specs.Cells.{Diagram, Frame}
use Rattle.scan_cycle.specs.Rung.{Held, changed}
use Rattle.scan_cycle.specs.Gating.{among, changes_of}

pub changes_more : (d : Diagram) (now : ℕ) (start : Frame Bool) (links : List Bool) (h next : Held) (more : List Action) (i : ℕ) (a : Action)
    → i < length more
    → next ≡ changed d now start (get_or more i a).cell (among plain links (get_or more i a).left) (among plain links (get_or more i a).below) h
    → changes_of d now start links (drop (i + 1) more) next ≡ changes_of d now start links (drop i more) h
unfolding changes_of
changes_more d now start links h next more i a lt e =
    ap (changes_of d now start links (drop (i + 1) more)) e ∙ sym (ap (λ xs. changes_of d now start links xs h) (drop_more more i a lt))

pub changes_end : (d : Diagram) (now : ℕ) (start : Frame Bool) (links : List Bool) (h : Held) (more : List Action) (i : ℕ)
    → length more ≤ i → changes_of d now start links (drop i more) h ≡ h
unfolding changes_of
changes_end d now start links h more i le = ap (λ xs. changes_of d now start links xs h) (drop_all i more le)

pub ruleset changes_step = (changes_more, changes_end)
