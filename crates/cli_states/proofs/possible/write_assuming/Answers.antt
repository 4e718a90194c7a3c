use Rattle.std.proofs.Common.{◌⊎◌, List, Option, inl, inr, length, refl, subst, sym, ℕ}
use Rattle.std.specs.Prelude.{map, option_map, string_bytes}
use Rattle.assume_reading.specs.Several.{AreAssumptions}
use Rattle.cli_inputs.specs.Reports.{HasCauseFault}
use Rattle.cli_inputs.specs.declared.fault.ToolFault.{ToolFault}
use Rattle.cli_assumed.specs.Assumed.{HasTruthFault, MayBeTrue}
use Rattle.cli_questions.specs.declared.counting.ListCounts.{ListCounts}
use Rattle.cli_questions.specs.Query.{question_of}
use Rattle.cli_states.specs.AnyState.{AssumedPossibleBy, AssumedPossibleRefusal, PossibleRowsBy, possible_refusal_by}
use Rattle.cli_states.specs.Query.{at_stored}
use Rattle.cli_states.proofs.PossibleEnds.{writes_as}
use Rattle.cli_states.proofs.possible.write_assuming.Goals as goal

pub returns-in-Err : goal.returns-in-Err
returns-in-Err g c = inl (inl (rw c.as_slice-texts.ensures.value at c.in-Err.ensures.fault), refl)

pub returns : goal.returns
returns g c =
    let r = c.args.request.now in
    let q = at_stored (question_of c.args.asked.now) in
    let o = g.O.Sink.log c.args.out.now in
    let w = c.write_possible-written in
    let assumed = option_map (λ e. e.now) c.as_ref.result in
    let read = subst (λ a. AreAssumptions q.program.decls (map string_bytes r.assumed.items) a) (sym c.as_ref.ensures.value) (rw c.as_slice-texts.ensures.value at c.in-Ok.ensures.read) in
    let is : (text : List ℕ) (n : Option ListCounts) → MayBeTrue assumed × PossibleRowsBy r.runs r.grouped assumed (length r.assumed.items) r q text n → AssumedPossibleBy r q text n =
    λ text n h. (assumed, read, h.0, h.1) in
    let refuses : (f : ToolFault) → HasTruthFault assumed f ⊎ HasCauseFault (possible_refusal_by r.runs r.grouped q) f → AssumedPossibleRefusal r q f =
    λ f h. inr (assumed, read, h) in
    writes_as _ (AssumedPossibleBy r q) _ (AssumedPossibleRefusal r q) o (g.O.Sink.log w.new.out) w.result is refuses w.ensures
