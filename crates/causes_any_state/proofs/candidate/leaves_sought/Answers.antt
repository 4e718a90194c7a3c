use Rattle.std.proofs.Common.{◌≡◌, ◌∙◌, Bool, ap, arith, false, refl, slice_index_or, sym, true, []}
use Rattle.std.specs.Bool.{beq}
use Rattle.std.specs.Prelude.{option_map}
use Rattle.scan_cycle.specs.Programs.{diagram_of}
use Rattle.scan_cycle.specs.Rung.{Held}
use Rattle.scan_cycle.specs.Scan.{after_scan}
use Rattle.scan_cycle.specs.Standing.{Standing}
use Rattle.causes_query.proofs.Asking.{value_at}
use Rattle.causes_any_state.specs.declared.content.TheConstants.{MOMENT}
use Rattle.causes_any_state.specs.Possible.{SomeLeaves}
use Rattle.causes_any_state.proofs.Asking.{cause_is}
use Rattle.causes_any_state.proofs.Assuming.{counted_stored}
use Rattle.causes_any_state.proofs.Claims.{leaves_by}
use Rattle.causes_any_state.proofs.candidate.leaves_sought.Goals as goal

same_value : (a b : Bool) → beq a b ≡ true → a ≡ b
same_value true true h = refl
same_value true false h = cc
same_value false true h = cc
same_value false false h = refl

pub returns-in-Ok-clause-found : goal.returns-in-Ok-clause-found
returns-in-Ok-clause-found c = λ yes.
    let p = c.args.asked.program.now in
    let s = c.args.state.now in
    let held : c.scan.new.state.held ≡ after_scan (diagram_of p) MOMENT [] s.held =
    ap (λ (t : Standing). t.held) c.in-Ok.ensures.done ∙ ap (λ (t : Standing). after_scan (diagram_of p) MOMENT [] t.held) c.copy_from.ensures in
    let coil = c.args.asked.coil in
    let listed = c.args.asked.listed.now in
    let n = c.args.asked.number in
    let assumed = option_map (λ e. e.now) c.args.assumed in
    let found : SomeLeaves p coil listed c.args.asked.states.now c.args.asked.sought n =
    record {
      state = s;
      moment = MOMENT;
      fits = c.requires.fits;
      standing = c.checked.ensures;
      counts = c.counts.ensures c.if-not-counts.false;
      later = omega (arith, c.requires.moment);
      small = omega arith;
      leaves = cause_is p s MOMENT c.args.asked.coil c.args.asked.listed.now c.args.asked.number c.requires.bits
          ∙ ap (λ (h : Held). slice_index_or h.values c.args.asked.coil false) (sym held)
          ∙ value_at c.scan.new.state.held.values c.args.asked.coil c.value.result c.value.ensures ∙ same_value c.value.result c.args.asked.sought yes;
    } in
    leaves_by p coil listed c.args.asked.states.now assumed c.args.asked.sought n found
    (counted_stored assumed p s MOMENT coil listed n c.args.inputs.now c.requires.inputs c.requires.fits c.requires.bits
    ∙ sym c.is_true.ensures ∙ c.if-not-is_true.false)
