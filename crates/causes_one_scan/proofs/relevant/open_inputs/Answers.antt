use Rattle.std.proofs.Common.{◌≡◌, ◌∙◌, [], false, sym}
use Rattle.std.specs.Prelude.{option_map}
use Rattle.std.proofs.lemmas.List.{length-set}
use Rattle.std.proofs.lemmas.Bool.{both_ways}
use Rattle.scan_signals.specs.declared.likeness.Likeness.TheVariants.{Alike, Off, Open}
use Rattle.causes_query.specs.Causes.{question}
use Rattle.assume_truth.specs.Operands.{is_named}
use Rattle.causes_one_scan.proofs.Deciding.{left_alike, left_open, named_stay, value_at}
use Rattle.causes_one_scan.proofs.relevant.open_inputs.Goals as goal
use Rattle.causes_one_scan.proofs.relevant.open_inputs.Goals.{then-is_open, else-is_open}

pub loop-input-preserved : goal.loop-input-preserved
loop-input-preserved c =
    let p = c.args.scan.program.now in
    let s = c.args.scan.state.now in
    let now = c.args.scan.now in
    let coil = c.args.scan.coil in
    let image = c.loop-input.image in
    let i = c.loop-input.input in
    let h = c.loop-input.invariant in
    let assumed = option_map (λ e. e.now) c.args.assumed in
    let unnamed : is_named assumed i ≡ false = sym c.is_named.ensures ∙ c.if-is_named.false in
    elim c.if-is_open.branch [
      | then-is_open w ↦ record {
        image = rw w.image-is (left_alike (question p s now coil []) image i h.image);
        named = rw w.image-is (named_stay assumed _ i Alike unnamed (named_stay assumed image i Open unnamed h.named));
        length = rw w.image-is (length-set _ _ _ ∙ length-set _ _ _ ∙ h.length);
        room = c.liken.ensures.fits;
      }
      | else-is_open w ↦ record {
        image = rw w.image-is (left_open p s now coil image c.liken.new.work.values c.value.result i c.look_is_scan.ensures h.image c.liken.ensures.values
            (value_at c.liken.new.work.values coil c.value.result Off c.value.ensures) (λ is. both_ways _ w.if-is_open.false (c.is_open.ensures.1 is)));
        named = rw w.image-is (named_stay assumed image i Open unnamed h.named);
        length = rw w.image-is (length-set _ _ _ ∙ h.length);
        room = c.liken.ensures.fits;
      }
    ]
