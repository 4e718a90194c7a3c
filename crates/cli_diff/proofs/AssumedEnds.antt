-- How a comparison ends that may assume something of the inputs, from what each step of it ensures.
use Rattle.std.proofs.Common.{◌≡◌, ◌≤◌, ap, inl, inr, refl, subst, sym, ℕ, Bool, true, false, List, Option, None, Some, length}
use Rattle.std.specs.Prelude.{option_map}
use Rattle.std.specs.Option.{option_or}
use Rattle.causes_query.specs.Causes.{Question}
use Rattle.causes_query.specs.Refusal.{refusal}
use Rattle.causes_query.specs.declared.fault.CauseFault.{CauseFault}
use Rattle.causes_query.specs.declared.limit.TheConstants.{LISTED_LIMIT}
use Rattle.causes_query.proofs.Refusals.{accepted}
use Rattle.scan_held.specs.HeldRefusal.{held_refusal}
use Rattle.scan_held.specs.declared.fault.HeldFault.{HeldFault}
use Rattle.scan_held.specs.declared.fault.HeldFault.TheVariants as held
use Rattle.io_text.specs.Log.{WriteLog}
use Rattle.search_differences.specs.declared.side.Side.{Side}
use Rattle.cli_arguments.specs.declared.request.DiffForm.{DiffForm}
use Rattle.cli_arguments.specs.declared.request.DiffForm.TheVariants as form
use Rattle.cli_arguments.specs.declared.request.DiffRequest.{DiffRequest}
use Rattle.cli_inputs.specs.Reports.{Logs}
use Rattle.cli_inputs.specs.Setting.{Given}
use Rattle.cli_inputs.specs.declared.fault.ToolFault.{ToolFault}
use Rattle.cli_questions.specs.Ending.{BreaksOff, Ends}
use Rattle.cli_questions.specs.declared.counting.ListCounts.{ListCounts}
use Rattle.cli_diff.specs.Asking.{AreAsked}
use Rattle.cli_diff.specs.Assumed.{AssumedList, Assumption, IsImpossibleBy, IsNeverTrueInBoth, nothing}
use Rattle.cli_diff.specs.AssumedEnding.{BreaksOffAssumed, CountsAssumed, DiffFaultBy, IsRefusedAssuming}
use Rattle.cli_diff.specs.Ending.{BreaksBy, Compares, CountsBy}
use Rattle.cli_diff.specs.Faults.{HasOwnFaultOf, cause_fault, held_fault, old_refusal, rows_refusal, scans_of, words_of}
use Rattle.cli_diff.specs.Listing.{DiffList}
use Rattle.cli_diff.specs.declared.sided.SidedFault.{SidedFault}

-- ---- nothing is assumed

-- The list is the one without what is assumed.
list_is : (f : DiffForm) (limit : Option ℕ) (old new : Question) (text : List ℕ) (c : Option ListCounts)
    → AssumedList nothing f limit old new text c → DiffList f limit old new text c
list_is (form.Rows after upto) limit old new text c h = h
list_is (form.Progress after upto) limit old new text c h = h
list_is (form.Held count every) limit old new text c h = h
list_is (form.Groups g) limit old new text c h = h

module _ (g h : Given) (r : DiffRequest) (old new : Question) (asked : AreAsked g h r old new) (s t : Logs) where
  compares : (f : DiffForm) → r.form ≡ f → (text : List ℕ) (c : Option ListCounts) → AssumedList nothing f r.limit old new text c → Compares g h r text c
  compares f is text c listed = (old, new, asked, subst (λ (x : DiffForm). DiffList x r.limit old new text c) (sym is) (list_is f r.limit old new text c listed))

  ends : (f : DiffForm) → r.form ≡ f → (o o' : WriteLog) (Written : List ℕ → Type 0) → Ends (AssumedList nothing f r.limit old new) r.quiet o o' Written → Ends (Compares g h r) r.quiet o o' Written
  ends f is o o' Written e = record { text = e.text; counts = e.counts; is = compares f is e.text (Some e.counts) e.is; put = e.put; counted = e.counted }

  breaks : (f : DiffForm) → r.form ≡ f → BreaksOff g (AssumedList nothing f r.limit old new) r.quiet s t → BreaksOff g (Compares g h r) r.quiet s t
  breaks f is (inl b) = inl (b.0, compares f is b.0 None b.1, b.2, b.3)
  breaks f is (inr e) = inr (ends f is _ _ _ e)

  pub plain_counts : (f : DiffForm) → r.form ≡ f → CountsAssumed f nothing r old new s t → CountsBy f g h r s t
  plain_counts (form.Rows after upto) is e = ends (form.Rows after upto) is _ _ _ e
  plain_counts (form.Progress after upto) is e = record { old = old; new = new; asked = asked; old_accepted = rw is e.0; new_accepted = rw is e.1; written = e.2 }
  plain_counts (form.Held count every) is e = ends (form.Held count every) is _ _ _ e
  plain_counts (form.Groups grouping) is e = ends (form.Groups grouping) is _ _ _ e

  pub plain_breaks : (f : DiffForm) → r.form ≡ f → BreaksOffAssumed f g nothing r old new s t → BreaksBy f g h r s t
  plain_breaks (form.Rows after upto) is b = breaks (form.Rows after upto) is b
  plain_breaks (form.Progress after upto) is b = record { old = old; new = new; asked = asked; old_accepted = rw is b.0; new_accepted = rw is b.1; written = b.2 }
  plain_breaks (form.Held count every) is b = breaks (form.Held count every) is b
  plain_breaks (form.Groups grouping) is b = breaks (form.Groups grouping) is b

-- ---- a question that isn't refused lists few inputs

second_none : {A : Type 0} (x y : Option A) → option_or x y ≡ None → y ≡ None
second_none (Some x) y h = cc
second_none None y h = h

no_cause : (x : Option CauseFault) → option_map cause_fault x ≡ None → x ≡ None
no_cause (Some f) h = cc
no_cause None h = refl

no_held : (x : Option HeldFault) → option_map held_fault x ≡ None → x ≡ None
no_held (Some f) h = cc
no_held None h = refl

no_question : (x : Option CauseFault) (y : Option HeldFault) → option_or (option_map (λ f. held.Question f) x) y ≡ None → x ≡ None
no_question (Some f) y h = cc
no_question None y h = refl

few : (q : Question) (after : Option ℕ) → refusal q after ≡ None → length q.listed ≤ LISTED_LIMIT
few q after h = (accepted q after h).listable.few

pub few_listed : (f : DiffForm) (q : Question) → old_refusal f q ≡ None → length q.listed ≤ LISTED_LIMIT
few_listed (form.Rows after upto) q h = few q after (second_none _ (refusal q after) (no_cause (rows_refusal after upto q) h))
few_listed (form.Progress after upto) q h = few q after (second_none _ (refusal q after) (no_cause (rows_refusal after upto q) h))
few_listed (form.Held count every) q h = few q None (no_question (refusal q None) _ (no_held (held_refusal q (scans_of count every)) h))
few_listed (form.Groups g) q h = few q None (no_cause (refusal q None) h)

module _ (a : Assumption) (r : DiffRequest) (old new : Question) (s t : Logs) where
  pub counts_few : (f : DiffForm) → CountsAssumed f a r old new s t → length old.listed ≤ LISTED_LIMIT
  counts_few (form.Rows after upto) e = few_listed (form.Rows after upto) old e.is.0
  counts_few (form.Progress after upto) e = few_listed (form.Progress after upto) old e.0
  counts_few (form.Held count every) e = few_listed (form.Held count every) old e.is.0
  counts_few (form.Groups g) e = few_listed (form.Groups g) old e.is.0

  off_few : (f : DiffForm) (g : Given) → BreaksOff g (AssumedList a f r.limit old new) r.quiet s t → length old.listed ≤ LISTED_LIMIT
  off_few f g (inl b) = few_listed f old b.1.0
  off_few f g (inr e) = few_listed f old e.is.0

  pub breaks_few : (f : DiffForm) (g : Given) → BreaksOffAssumed f g a r old new s t → length old.listed ≤ LISTED_LIMIT
  breaks_few (form.Rows after upto) g b = off_few (form.Rows after upto) g b
  breaks_few (form.Progress after upto) g b = few_listed (form.Progress after upto) old b.0
  breaks_few (form.Held count every) g b = off_few (form.Held count every) g b
  breaks_few (form.Groups grouping) g b = off_few (form.Groups grouping) g b

-- What nothing makes true is refused.
pub impossible : (f : DiffForm) (a : Assumption) (old new : Question) (e : SidedFault) → IsImpossibleBy (IsNeverTrueInBoth a.old a.new old new) e
    → IsRefusedAssuming f a old new e.side e.fault
impossible f a old new e (inl is) = subst (λ (x : SidedFault). IsRefusedAssuming f a old new x.side x.fault) (sym is) (inl (inl refl))
impossible f a old new e (inr h) = inr (ap (λ (x : SidedFault). x.side) h.0, ap (λ (x : SidedFault). x.fault) h.0, h.1)

-- A fault of the texts or of the words comes first, whatever is assumed.
pub own_fault_first : (none : Bool) (g h : Given) (r : DiffRequest) (side : Option Side) (f : ToolFault) → HasOwnFaultOf side g h (words_of r) f → DiffFaultBy none g h r side f
own_fault_first true g h r side f own = inl own
own_fault_first false g h r side f own = inl own
