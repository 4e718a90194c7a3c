use Rattle.std.proofs.Common.{◌≡◌, ◌∷◌, [], inr, refl, string_bytes}
use Rattle.std.specs.Prelude.{None}
use Rattle.causes_query.specs.Causes.{Question, question}
use Rattle.causes_query.specs.Refusal.{refusal}
use Rattle.cli_inputs.proofs.Ends.{cause_fault}
use Rattle.cli_inputs.specs.Reports.{HasCauseFault}
use Rattle.cli_inputs.specs.Setting.{given_by}
use Rattle.cli_questions.specs.Ending.{IsOnCoil}
use Rattle.cli_questions.proofs.Endings.{before_asking}
use Rattle.cli_lists.proofs.relevant.read_decided.Goals as goal

pub returns-in-Ok-inputs-clause-decided : goal.returns-in-Ok-inputs-clause-decided
returns-in-Ok-inputs-clause-decided c =
    let on = c.in-Ok.ensures.asked.0 in
    record {
      coil = record { set = on.set; at = on.at; on = rw c.as_str-coil.ensures.value at on.on };
      inputs = c.in-Ok-inputs.ensures.inputs;
      decide = c.in-Ok-inputs.ensures.decide;
    }

pub returns-in-Err-clause-fault : goal.returns-in-Err-clause-fault
returns-in-Err-clause-fault c =
    let r = c.args.request.now in
    let given = given_by c.args.texts.now in
    before_asking given (string_bytes r.coil ∷ []) (λ (q : Question). IsOnCoil given (string_bytes r.coil) r.moment q × (q.listed ≡ [])) (λ (q : Question). HasCauseFault (refusal q None))
    c.in-Err.fault (rw c.as_str-coil.ensures.value at c.in-Err.ensures.fault)

pub returns-in-Err-inputs-clause-fault : goal.returns-in-Err-inputs-clause-fault
returns-in-Err-inputs-clause-fault c =
    let a = c.in-Ok.asked in
    let on = c.in-Ok.ensures.asked.0 in
    let q = question a.program a.state a.moment a.coil [] in
    inr (inr (
      q,
      (record { set = on.set; at = on.at; on = rw c.as_str-coil.ensures.value at on.on }, refl),
      cause_fault (refusal q None) c.in-Err-inputs.fault c.in-Err-inputs.ensures.refused,
    ))
