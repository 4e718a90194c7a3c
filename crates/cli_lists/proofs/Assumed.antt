-- Lists of the combinations with which what is assumed is true.
use Rattle.std.proofs.Common.{◌≡◌, sym, refl, subst, ℕ, ◌≤◌, List, length, ◌⊎◌, inl, inr, Option, Some, None, Result, Ok, Err}
use Rattle.std.specs.Option.{option_or}
use Rattle.io_text.specs.Log.{WriteLog}
use Rattle.causes_query.specs.Causes.{Question}
use Rattle.causes_query.specs.Refusal.{refusal}
use Rattle.causes_query.specs.declared.fault.CauseFault.{CauseFault}
use Rattle.causes_query.specs.declared.fault.CauseFault.TheVariants as cause
use Rattle.causes_query.specs.declared.limit.TheConstants.{LISTED_LIMIT}
use Rattle.causes_query.proofs.Refusals.{accepted}
use Rattle.cli_inputs.specs.declared.fault.ToolFault.{ToolFault}
use Rattle.cli_inputs.specs.declared.fault.ToolFault.TheVariants as fault
use Rattle.cli_inputs.specs.Reports.{HasCauseFault}
use Rattle.cli_lists.specs.Lists.{list_refusal}
use Rattle.cli_lists.specs.Writing.{WritesSummed}

-- ---- questions that aren't refused

second_none : {A : Type 0} (x y : Option A) → option_or x y ≡ None → y ≡ None
second_none (Some x) y h = cc
second_none None y h = h

pub few_listed : (after upto : Option ℕ) (q : Question) → list_refusal after upto q ≡ None → length q.listed ≤ LISTED_LIMIT
few_listed after upto q h = (accepted q after (second_none _ (refusal q after) h)).listable.few

pub few_grouped : (q : Question) → refusal q None ≡ None → length q.listed ≤ LISTED_LIMIT
few_grouped q h = (accepted q None h).listable.few

-- ---- what is written

pub counted_written : {S : Type 0} (Refused : ToolFault → Type 0) (May Ever Never : Type 0) (text : List ℕ) (s : S) (out out' : WriteLog) (r : Result S ToolFault)
    → (May → Ever) → WritesSummed Refused May text s out out' r
    → WritesSummed (λ f. Refused f ⊎ ((f ≡ fault.NeverTrue) × Never)) (Ever × May) text s out out' r
counted_written Refused May Ever Never text s out out' (Ok x) ever h = ((ever h.0, h.0), h.1, h.2)
counted_written Refused May Ever Never text s out out' (Err f) ever (inl h) = inl (inl h.0, h.1)
counted_written Refused May Ever Never text s out out' (Err f) ever (inr h) = inr (h.0, (ever h.1, h.1), h.2)

pub not_counted : (first : Option CauseFault) (Never : Type 0) (f : ToolFault) → (f ≡ fault.Cause cause.Memory) ⊎ ((f ≡ fault.NeverTrue) × Never)
    → HasCauseFault first f ⊎ ((f ≡ fault.NeverTrue) × Never)
not_counted first Never f (inl h) = inl (subst (λ x. HasCauseFault first x) (sym h) (inl refl))
not_counted first Never f (inr h) = inr h
