use Rattle.std.proofs.Common.{◌∙◌, ℕ, List, ap, arith, map, refl}
use Rattle.std.specs.Borrow.{Bor}
use Rattle.text_drawing.specs.Showing.{scan_of, whole_of}
use Rattle.text_drawing.proofs.Showings.{is_drawn, rungs_of}
use Rattle.text_drawing.proofs.showing.write_seen.Goals as goal

abbrev now : Bor (List ℕ) → List ℕ
now f = f.now

pub write_noted-requires : goal.write_noted-requires
write_noted-requires g c =
    let rungs = rungs_of c.args.scan.text.now c.args.scan.program.now c.in-Ok.outline.place c.in-Ok.outline.parts.items _
    c.requires c.in-Ok.ensures.only c.deref.ensures.value in
    record {
      same = rungs;
      few = omega (arith, c.rungs-rungs.ensures.few, c.rungs-rungs.ensures.value, rungs);
      small = omega (arith, c.deref-2.type_inv.1);
    }

pub returns-in-Ok-write_noted-clause-wrote : goal.returns-in-Ok-write_noted-clause-wrote
returns-in-Ok-write_noted-clause-wrote g c = λ state seen. record {
  text = whole_of c.args.style c.args.scan.coil c.args.scan.program.now c.args.after.now c.deref.result.now c.args.marks.now (map now c.deref-2.result.now);
  is = is_drawn c.args.style (scan_of c.args.scan state) c.in-Ok.outline.place c.in-Ok.outline.parts.items _ c.args.marks.now _ _ _ c.behind.result.now
      c.in-Ok.ensures.found seen.left c.deref.ensures.value refl seen.seen (ap (map now) c.deref-2.ensures.value ∙ c.in-Ok-lines.ensures) c.behind.ensures;
  wrote = c.in-Ok-write_noted.ensures;
}

pub returns-clause-fails : goal.returns-clause-fails
returns-clause-fails g c = λ state seen. record {
  text = whole_of c.args.style c.args.scan.coil c.args.scan.program.now c.args.after.now c.deref.result.now c.args.marks.now (map now c.deref-2.result.now);
  is = is_drawn c.args.style (scan_of c.args.scan state) c.in-Ok.outline.place c.in-Ok.outline.parts.items _ c.args.marks.now _ _ _ c.behind.result.now
      c.in-Ok.ensures.found seen.left c.deref.ensures.value refl seen.seen (ap (map now) c.deref-2.ensures.value ∙ c.in-Ok-lines.ensures) c.behind.ensures;
  wrote = c.in-Err.ensures;
}
