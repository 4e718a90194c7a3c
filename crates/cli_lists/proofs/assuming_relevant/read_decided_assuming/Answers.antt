use Rattle.std.proofs.Common.{[], inr, refl, subst, map}
use Rattle.std.specs.Prelude.{None, string_bytes}
use Rattle.causes_query.specs.Causes.{question}
use Rattle.causes_query.specs.Refusal.{refusal}
use Rattle.cli_inputs.specs.Reports.{HasCauseFault}
use Rattle.cli_assumed.specs.Assumed.{AfterReading}
use Rattle.cli_lists.proofs.assuming_relevant.read_decided_assuming.Goals as goal

pub returns-in-Err-found-clause-fault : goal.returns-in-Err-found-clause-fault
returns-in-Err-found-clause-fault c =
    let a = c.in-Ok.asked in
    let on = c.in-Ok.ensures.asked.0 in
    let q = question a.program a.state a.moment a.coil [] in
    inr (inr (
      q,
      (record { set = on.set; at = on.at; on = rw c.as_str-coil.ensures.value at on.on }, refl),
      subst (λ ts. AfterReading (map string_bytes ts) (λ assumed q. HasCauseFault (refusal q None)) q c.in-Err-found.fault) c.as_slice.ensures.value c.in-Err-found.ensures.fault,
    ))
