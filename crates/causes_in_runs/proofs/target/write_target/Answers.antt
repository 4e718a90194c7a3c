use Rattle.std.proofs.Common.{◌≡◌, ◌∙◌, ◌+◌, ◌∷◌, ◌++◌, [], List, ap, arith, length, sym, true, ℕ, get_or}
use Rattle.std.proofs.lemmas.List.{length-set, take_all, take_more_set}
use Rattle.std.proofs.lemmas.List.FromFn.{map-range_with_len_more}
use Rattle.causes_query.specs.Assignment.{bit_of}
use Rattle.reach_runs.specs.declared.target.Literal.{Literal}
use Rattle.causes_in_runs.specs.Rows.{bits_below, value_of}
use Rattle.causes_in_runs.proofs.target.write_target.Goals as goal

pub loop-place-init : goal.loop-place-init
loop-place-init c =
    take_more_set c.args.target.now 0 c.value_of.result (omega (arith, c.requires.room))
    ∙ ap (λ (l : Literal). l ∷ []) c.value_of.ensures

pub loop-place-preserved : goal.loop-place-preserved
loop-place-preserved c =
    let listed = c.args.listed.now in
    let n = c.args.number in
    let place = c.loop-place.place in
    let bit = λ (k : ℕ). value_of (get_or listed k 0) (bit_of (length listed) k n) in
    let long : length c.loop-place.target ≡ length listed + 1 =
    c.loop-place.auto.target ∙ length-set c.args.target.now 0 c.value_of.result ∙ c.requires.room in
    let here : c.value_of-in-loop-place.result ≡ bit place = c.value_of-in-loop-place.ensures ∙ ap (value_of (get_or listed place 0)) c.bit_at.ensures in
    take_more_set c.loop-place.target (place + 1) c.value_of-in-loop-place.result (omega (arith, long, c.loop-place-test.true))
    ∙ ap (λ (ls : List Literal). ls ++ c.value_of-in-loop-place.result ∷ []) c.loop-place.invariant
    ∙ ap (λ (l : Literal). value_of c.args.coil true ∷ (bits_below listed n place ++ l ∷ [])) here
    ∙ ap (λ (ls : List Literal). value_of c.args.coil true ∷ ls) (sym (map-range_with_len_more bit 0 place place (omega arith)))

pub returns : goal.returns
returns c =
    let listed = c.args.listed.now in
    let place = c.loop-place.place in
    let long : length c.loop-place.target ≡ length listed + 1 =
    c.loop-place.auto.target ∙ length-set c.args.target.now 0 c.value_of.result ∙ c.requires.room in
    let all : place ≡ length listed = omega (arith, c.loop-place-test.false, c.loop-place.auto.place-end) in
    sym (take_all (place + 1) c.loop-place.target (omega (arith, long, all)))
    ∙ c.loop-place.invariant
    ∙ ap (λ (k : ℕ). value_of c.args.coil true ∷ bits_below listed c.args.number k) all
