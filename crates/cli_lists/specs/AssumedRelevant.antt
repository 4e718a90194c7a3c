-- How a request for a list over the inputs that matter ends where something is assumed of the inputs: the list is that of the combinations with
-- which it is true, and its inputs decide that too.
use Rattle.std.specs.Prelude.{◌≡◌, ◌⊎◌, ◌∷◌, ℕ, Bool, true, false, List, [], Option, None, Some, string_bytes}
use Rattle.st_expression.specs.declared.expression.Expression.{Expression}
use Rattle.causes_query.specs.Causes.{Question}
use Rattle.causes_query.specs.Refusal.{refusal}
use Rattle.causes_one_scan.specs.Relevant.{DecideTruth}
use Rattle.assume_reading.specs.Several.{AreAssumptions}
use Rattle.io_text.specs.Log.{WriteLog}
use Rattle.cli_arguments.specs.declared.request.Grouping.{Grouping}
use Rattle.cli_arguments.specs.declared.request.ListRequest.{ListRequest}
use Rattle.cli_inputs.specs.declared.fault.ToolFault.{ToolFault}
use Rattle.cli_inputs.specs.Setting.{Given}
use Rattle.cli_inputs.specs.Reports.{HasCauseFault, Logs}
use Rattle.cli_questions.specs.Ending.{BreaksOff, Ends, Form, HasAskedFault, IsOnCoil, Listing, ListsAsked}
use Rattle.cli_assumed.specs.Assumed.{AfterReading, AssumingFault}
use Rattle.cli_lists.specs.Assumed.{AssumedGroupList, AssumedList, assumes_nothing, texts_of}
use Rattle.cli_lists.specs.Lists.{GroupedBy, HasRelevantFault, IsDecided}

-- The listed inputs decide what the scan leaves of the coil, and whether what is assumed is true.
pub record IsDecidedAssuming (g : Given) (r : ListRequest) (q : Question) : Type 0 where
  pub decided : IsDecided g r q
  pub assumed : Option Expression
  pub read : AreAssumptions q.program.decls (texts_of r) assumed
  pub truth : DecideTruth assumed q

-- in groups where these are asked for
abbrev pub AssumedGroupedBy : Option Grouping → ListRequest → Option ℕ → Form
AssumedGroupedBy None r after = AssumedList (texts_of r) r.limit after None
AssumedGroupedBy (Some how) r after = AssumedGroupList (texts_of r) r.limit how

abbrev pub RelevantBy : (nothing : Bool) → Given → ListRequest → Option ℕ → Option Grouping → Listing
RelevantBy true g r after grouping = ListsAsked (IsDecided g r) (GroupedBy grouping r.limit after)
RelevantBy false g r after grouping = ListsAsked (IsDecidedAssuming g r) (AssumedGroupedBy grouping r after)

abbrev pub CountsAllRelevant : Given → ListRequest → Option ℕ → Option Grouping → WriteLog → WriteLog → (List ℕ → Type 0) → Type 0
CountsAllRelevant g r after grouping = Ends (RelevantBy (assumes_nothing r) g r after grouping) r.quiet

abbrev pub BreaksAllRelevant : Given → ListRequest → Option ℕ → Option Grouping → Logs → Logs → Type 0
BreaksAllRelevant g r after grouping = BreaksOff g (RelevantBy (assumes_nothing r) g r after grouping) r.quiet

-- Faults are looked for in this order: in the program text, in the state text, in the name, in the expressions, in what is asked of the coil, in
-- the list.
abbrev pub HasAssumedCoilFault : Given → ListRequest → ToolFault → Type 0
HasAssumedCoilFault g r = HasAskedFault g (string_bytes r.coil ∷ []) (λ q. IsOnCoil g (string_bytes r.coil) r.moment q × (q.listed ≡ []))
    (AfterReading (texts_of r) (λ assumed q. HasCauseFault (refusal q None)))

abbrev pub RelevantRefusal : (nothing : Bool) → Given → ListRequest → Option ℕ → ToolFault → Type 0
RelevantRefusal true g r after f = HasRelevantFault g r after f
RelevantRefusal false g r after f = HasAssumedCoilFault g r f
    ⊎ ((q : Question) × IsDecidedAssuming g r q × AssumingFault (texts_of r) (λ q. HasCauseFault (refusal q after)) q f)

abbrev pub HasAllRelevantFault : Given → ListRequest → Option ℕ → ToolFault → Type 0
HasAllRelevantFault g r = RelevantRefusal (assumes_nothing r) g r
