use Rattle.std.proofs.Common.{◌≡◌, ◌∙◌, ap, arith, false, map, subst, sym, ℕ}
use Rattle.std.specs.Int.{bit_at}
use Rattle.std.specs.Prelude.{◌+◌, option_map}
use Rattle.causes_query.specs.Patterns.{word_opened}
use Rattle.causes_query.specs.Prefixes.{signal_of}
use Rattle.causes_query.proofs.Imaging.{all_in, index_at, written_whole}
use Rattle.causes_query.specs.Assignment.{input_variables}
use Rattle.causes_query.proofs.Asking.{inputs_of}
use Rattle.scan_cycle.specs.Programs.{diagram_of}
use Rattle.scan_symbolic.specs.Look.{after_look}
use Rattle.scan_signals.specs.Words.{IsWord, words}
use Rattle.causes_any_state.specs.Numbers.{block_bits}
use Rattle.causes_any_state.specs.Possible.{SomeLeaves}
use Rattle.causes_any_state.specs.declared.content.TheConstants.{MOMENT}
use Rattle.causes_any_state.proofs.Claims.{leaves_by}
use Rattle.causes_any_state.proofs.Words.{block_counted, both_one, is_word, place_tells}
use Rattle.causes_any_state.proofs.batch_look.look_at_block.Goals as goal

pub look-requires-clause-inputs : goal.look-requires-clause-inputs
look-requires-clause-inputs c =
    let image = c.args.sight.now.image in
    let listed = c.args.asked.listed.now in
    let values = c.args.tried.now.state.held.values in
    let same = c.deref-2.ensures.value ∙ written_whole c.fill.new.image image.items image.len (c.fill.auto.image ∙ c.deref_mut.ensures.len) image.ok.0 ∙ c.fill.ensures in
    all_in IsWord (signal_of words word_opened listed (block_bits listed) c.args.asked.number values)
    (is_word listed (block_bits listed) c.args.asked.number values) c.deref.result.now c.deref-2.result.now same

pub returns-clause-found : goal.returns-clause-found
returns-clause-found c = λ i less on.
    let p = c.args.asked.program.now in
    let s = c.args.tried.now.state in
    let image = c.args.sight.now.image in
    let listed = c.args.asked.listed.now in
    let coil = c.args.asked.coil in
    let signals = signal_of words word_opened listed (block_bits listed) c.args.asked.number s.held.values in
    let same = c.deref-2.ensures.value ∙ written_whole c.fill.new.image image.items image.len (c.fill.auto.image ∙ c.deref_mut.ensures.len) image.ok.0 ∙ c.fill.ensures in
    let looked : c.look.new.work.values ≡ after_look words (diagram_of p) MOMENT (map signals c.deref.result.now) s.held =
    c.look.ensures.values ∙ ap (λ xs. after_look words (diagram_of p) MOMENT xs s.held) same in
    let assumed = option_map (λ e. e.now) c.args.assumed in
    let states = c.args.asked.states.now in
    let n = c.args.asked.number + i in
    let inputs_are = c.deref.ensures.value ∙ c.requires.sight.inputs ∙ sym (ap input_variables (inputs_of p)) in
    let ones = both_one c.places.result c.true_places.result i on in
    let found : SomeLeaves p coil listed states c.args.asked.sought n =
    record {
      state = s;
      moment = MOMENT;
      fits = c.requires.tried.state;
      standing = c.checked.ensures;
      counts = c.counts.ensures c.if-not-counts.false;
      later = omega (arith, c.requires.tried.moment);
      small = omega arith;
      leaves = place_tells p s MOMENT coil listed c.args.asked.number i c.deref.result.now c.look.new.work.values c.value.result c.args.asked.sought c.sound.ensures
          c.requires.aligned less inputs_are looked
          (index_at c.look.new.work.values coil c.value.result (words.known false) c.value.ensures)
          (subst (λ (w : ℕ). bit_at w i ≡ 1) c.places.ensures ones.0);
    } in
    leaves_by p coil listed states assumed c.args.asked.sought n found
    (block_counted assumed p s MOMENT coil listed c.args.asked.number i c.deref.result.now c.deref-3.result.now c.requires.aligned less inputs_are
    (c.deref-3.ensures.value ∙ sym c.deref-2.ensures.value ∙ same) (subst (λ (w : ℕ). bit_at w i ≡ 1) c.true_places.ensures ones.1))
