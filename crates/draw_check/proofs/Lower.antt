-- The lower cell of a block.
use Rattle.std.proofs.Common.{◌≡◌, ℕ, ◌+◌, ◌*◌, ◌/◌, ◌%◌, ◌<◌, ◌≤◌, ◌&&◌, false, sym, ap, ◌∙◌, arith}
use Rattle.std.proofs.lemmas.Bool.{lt-ltb, le-ltb}
use Rattle.diagram_program.specs.declared.geometry.TheConstants.{ROWS, PLACES}
use Rattle.diagram_program.specs.Program.{Drawing, cell_in, cell_of, is_linked, site_at}
use Rattle.scan_cycle.specs.Programs.{diagram_of}
use Rattle.scan_cycle.proofs.Feeders.{linked_is}

pub linked_below : (p : Drawing) (j e : ℕ) → e < PLACES → e % ROWS + 1 < ROWS → is_linked (site_at p j (e % ROWS + 1) (e / ROWS)).cell ≡ (diagram_of p).linked j e
linked_below p j e lt row =
    let place : PLACES * j + (ROWS * (e / ROWS) + (e % ROWS + 1)) ≡ PLACES * j + (e + 1) = omega arith in
    ap (λ n. is_linked (cell_in p n)) place
    ∙ sym (ap (λ b. b && is_linked (cell_of p j (e + 1))) (lt-ltb (e % ROWS + 1) ROWS row))
    ∙ sym (linked_is p j e lt)

pub none_below : (p : Drawing) (j e : ℕ) → e < PLACES → ROWS ≤ e % ROWS + 1 → false ≡ (diagram_of p).linked j e
none_below p j e lt row = sym (linked_is p j e lt ∙ ap (λ b. b && is_linked (cell_of p j (e + 1))) (le-ltb (e % ROWS + 1) ROWS row))
