-- From what is asked to how the request ends that asks it.
use Rattle.std.proofs.Common.{◌⊎◌, ℕ, Option, false, inl, inr}
use Rattle.causes_query.specs.Causes.{Question}
use Rattle.causes_query.specs.Refusal.{refusal}
use Rattle.cli_inputs.specs.Reports.{HasCauseFault, Logs, Refuses}
use Rattle.cli_inputs.specs.Setting.{Given}
use Rattle.cli_arguments.specs.declared.request.Grouping.{Grouping}
use Rattle.cli_arguments.specs.declared.request.ListRequest.{ListRequest}
use Rattle.cli_questions.specs.Ending.{BreaksOff}
use Rattle.cli_assumed.specs.Assumed.{AssumingFault}
use Rattle.cli_lists.specs.Assumed.{texts_of}
use Rattle.cli_lists.specs.AssumedRelevant.{AssumedGroupedBy, IsDecidedAssuming, RelevantBy, RelevantRefusal}
use Rattle.cli_lists.specs.Lists.{BreaksRelevant, GroupedBy, HasRelevantFault, IsDecided, after_for}
use Rattle.cli_questions.proofs.Endings.{breaks_asked, refuses_as}

pub relevant_failed : (g : Given) (r : ListRequest) (after : Option ℕ) (grouping : Option Grouping) (q : Question) (old new : Logs) → IsDecided g r q
    → Refuses g (HasCauseFault (refusal q (after_for after grouping))) old new ⊎ BreaksOff g (GroupedBy grouping r.limit after q) r.quiet old new
    → Refuses g (HasRelevantFault g r (after_for after grouping)) old new ⊎ BreaksRelevant g r after grouping old new
relevant_failed g r after grouping q old new decided (inl h) = inl (refuses_as g _ _ old new (λ f has. inr (q, decided, has)) h)
relevant_failed g r after grouping q old new decided (inr h) = inr (breaks_asked (IsDecided g r) (GroupedBy grouping r.limit after) q decided r.quiet g old new h)

pub assumed_relevant_failed : (g : Given) (r : ListRequest) (after : Option ℕ) (grouping : Option Grouping) (q : Question) (old new : Logs) → IsDecidedAssuming g r q
    → Refuses g (AssumingFault (texts_of r) (λ q. HasCauseFault (refusal q (after_for after grouping))) q) old new ⊎ BreaksOff g (AssumedGroupedBy grouping r after q) r.quiet old new
    → Refuses g (RelevantRefusal false g r (after_for after grouping)) old new ⊎ BreaksOff g (RelevantBy false g r after grouping) r.quiet old new
assumed_relevant_failed g r after grouping q old new decided (inl h) = inl (refuses_as g _ _ old new (λ f has. inr (q, decided, has)) h)
assumed_relevant_failed g r after grouping q old new decided (inr h) = inr (breaks_asked (IsDecidedAssuming g r) (AssumedGroupedBy grouping r after) q decided r.quiet g old new h)
