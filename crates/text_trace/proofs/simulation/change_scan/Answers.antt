use Rattle.std.proofs.Common.{[], arith, refl, rules, subst, sym}
use Rattle.io_text.proofs.Puts.{puts_none}
use Rattle.text_trace.specs.Trace.{AreAlike, TellsChange, watched_row}
use Rattle.text_trace.proofs.SameAt.{first_row, left_out, other_row}
use Rattle.text_trace.proofs.simulation.change_scan.Goals as goal
use Rattle.text_trace.proofs.simulation.change_scan.Goals.{else-run-gt0-via-else-run-gt0, else-run-gt0-via-then-run-gt0+else-are_alike}

pub returns-then-are_alike-clause-scans : goal.returns-then-are_alike-clause-scans
returns-then-are_alike-clause-scans g c =
    let p = c.args.run.program.now in
    let columns = c.args.watched.now in
    let done = c.args.run.done in
    let s = c.args.state.now in
    let after = rw c.deref.ensures.value at c.in-Ok.ensures.done in
    let alike = subst (λ b. AreAlike p columns b c.scan.new.state) c.keep.ensures (c.if-are_alike.ensures.same refl) in (
      [],
      record {
        later = search rules;
        after = after;
        told = subst (λ t. TellsChange p columns done s t []) after (left_out p columns done s c.scan.new.state c.if-run-gt0.true alike);
      },
      puts_none _,
    )

pub returns-in_default-write_watched_row-clause-scans : goal.returns-in_default-write_watched_row-clause-scans
returns-in_default-write_watched_row-clause-scans g c =
    let p = c.args.run.program.now in
    let columns = c.args.watched.now in
    let done = c.args.run.done in
    let s = c.args.state.now in
    let t = c.scan.new.state in
    let after = rw c.deref.ensures.value at c.in-Ok.ensures.done in
    let told : TellsChange p columns done s t (watched_row p columns t) = elim c.else-run-gt0.branch [
      | else-run-gt0-via-then-run-gt0+else-are_alike w ↦
          other_row p columns done s t (λ alike. w.if-are_alike.ensures.other refl (subst (λ b. AreAlike p columns b t) (sym c.keep.ensures) alike))
      | else-run-gt0-via-else-run-gt0 w ↦ first_row p columns done s t (omega (arith, w.if-run-gt0.false))
    ] in (
      watched_row p columns t,
      record { later = search rules; after = after; told = subst (λ u. TellsChange p columns done s u (watched_row p columns t)) after told },
      c.in_default-write_watched_row.ensures.wrote,
    )

pub returns-clause-scans : goal.returns-clause-scans
returns-clause-scans g c =
    let p = c.args.run.program.now in
    let columns = c.args.watched.now in
    let done = c.args.run.done in
    let s = c.args.state.now in
    let t = c.scan.new.state in
    let after = rw c.deref.ensures.value at c.in-Ok.ensures.done in
    let told : TellsChange p columns done s t (watched_row p columns t) = elim c.else-run-gt0.branch [
      | else-run-gt0-via-then-run-gt0+else-are_alike w ↦
          other_row p columns done s t (λ alike. w.if-are_alike.ensures.other refl (subst (λ b. AreAlike p columns b t) (sym c.keep.ensures) alike))
      | else-run-gt0-via-else-run-gt0 w ↦ first_row p columns done s t (omega (arith, w.if-run-gt0.false))
    ] in (
      watched_row p columns t,
      record { later = search rules; after = after; told = subst (λ u. TellsChange p columns done s u (watched_row p columns t)) after told },
      c.in-Ok-write_watched_row.ensures.wrote,
    )
