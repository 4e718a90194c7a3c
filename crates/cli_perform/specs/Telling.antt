-- A plain list or a trace that tells how far it is; every other request stays as it is.
use Rattle.std.specs.Prelude.{◌≡◌, [], false, true}
use Rattle.cli_arguments.specs.declared.request.DiffForm.{DiffForm}
use Rattle.cli_arguments.specs.declared.request.DiffForm.TheVariants as diff
use Rattle.cli_arguments.specs.declared.request.Request.{Request}
use Rattle.cli_arguments.specs.declared.request.Request.TheVariants.{Causes, Progress, Sim, Watch}
use Rattle.cli_arguments.specs.declared.request.WatchRequest.{WatchRequest}

abbrev pub telling_trace : WatchRequest → WatchRequest
telling_trace r = record r { progress = true }

-- The second request is the first one with lines that tell how far it is. A plain trace is one beside which nothing is watched.
abbrev pub IsTelling : Request → Request → Type 0
IsTelling (Causes list after upto) other = other ≡ Progress list after upto
IsTelling (Sim r) other =
    (w : WatchRequest) × (other ≡ Watch w) × (w.sim ≡ r) × (w.all ≡ false) × (w.names.items ≡ []) × (w.changes ≡ false) × (w.progress ≡ true)
IsTelling (Watch r) other = other ≡ Watch (telling_trace r)
IsTelling request other = other ≡ request

-- the same of the plain rows of a comparison
abbrev pub telling_form : DiffForm → DiffForm
telling_form (diff.Rows after upto) = diff.Progress after upto
telling_form other = other
