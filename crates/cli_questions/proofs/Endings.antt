-- How a request for a list ends, from what each step of it ensures.
use Rattle.std.proofs.Common.{◌≡◌, ◌⊎◌, refl, subst, ℕ, Bool, List, Err, inl, inr}
use Rattle.causes_query.specs.Causes.{Question, question}
use Rattle.io_text.specs.Log.{WriteLog}
use Rattle.cli_inputs.specs.declared.fault.ToolFault.{ToolFault}
use Rattle.cli_inputs.specs.Reports.{IsReported, Logs, Refuses, logs}
use Rattle.cli_inputs.specs.Setting.{Given, HasSettingFault}
use Rattle.cli_questions.specs.Query.{Writes, question_of}
use Rattle.cli_questions.specs.declared.asking.ListQuery.{ListQuery}
use Rattle.cli_questions.specs.Ending.{BreaksOff, Ends, Form, HasAskedFault, HasNameFault, Listing, ListsAsked}

-- A list that was refused, or that broke off.
pub broken : (g : Given) (Is : Listing) (Refused : ToolFault → Type 0) (quiet : Bool) (f : ToolFault) (save o o' e e' : WriteLog) → Writes Is Refused o o' (Err f)
    → IsReported g e e' f → Refuses g Refused (logs o save e) (logs o' save e') ⊎ BreaksOff g Is quiet (logs o save e) (logs o' save e')
broken g Is Refused quiet f save o o' e e' (inl h) said = inl (record { reason = f; has = h.0; unwritten = h.1; unsaved = refl {a = save}; reported = said })
broken g Is Refused quiet f save o o' e e' (inr h) said = inr (inl (h.1.0, h.1.1, h.1.2, subst (IsReported g e e') h.0 said))

-- a refusal for another way to say the same
pub refuses_as : (g : Given) (P Q : ToolFault → Type 0) (old new : Logs) → ((f : ToolFault) → P f → Q f) → Refuses g P old new → Refuses g Q old new
refuses_as g P Q old new f h =
    record { reason = h.reason; has = f h.reason h.has; unwritten = h.unwritten; unsaved = h.unsaved; reported = h.reported }

-- ---- a list of what is asked

pub before_asking : (g : Given) (names : List (List ℕ)) (Asked : Question → Type 0) (Refused : Question → ToolFault → Type 0) (f : ToolFault)
    → HasSettingFault g f ⊎ HasNameFault g names f → HasAskedFault g names Asked Refused f
before_asking g names Asked Refused f (inl setting) = inl setting
before_asking g names Asked Refused f (inr name) = inr (inl name)

module _ (Asked : Question → Type 0) (Is : Form) (q : Question) (asked : Asked q) (quiet : Bool) where
  pub ends_asked : (out out' : WriteLog) (Written : List ℕ → Type 0) → Ends (Is q) quiet out out' Written → Ends (ListsAsked Asked Is) quiet out out' Written
  ends_asked out out' Written e = record { text = e.text; counts = e.counts; is = (q, asked, e.is); put = e.put; counted = e.counted }

  pub breaks_asked : (g : Given) (old new : Logs) → BreaksOff g (Is q) quiet old new → BreaksOff g (ListsAsked Asked Is) quiet old new
  breaks_asked g old new (inl h) = inl (h.0, (q, asked, h.1), h.2, h.3)
  breaks_asked g old new (inr e) = inr (ends_asked _ _ _ e)

  pub failed_asked : (g : Given) (names : List (List ℕ)) (Refused : Question → ToolFault → Type 0) (old new : Logs)
      → Refuses g (Refused q) old new ⊎ BreaksOff g (Is q) quiet old new
      → Refuses g (HasAskedFault g names Asked Refused) old new ⊎ BreaksOff g (ListsAsked Asked Is) quiet old new
  failed_asked g names Refused old new (inl h) = inl (refuses_as g (Refused q) _ old new (λ f has. inr (inr (q, asked, has))) h)
  failed_asked g names Refused old new (inr h) = inr (breaks_asked g old new h)

-- What holds of a question holds with the listed inputs by another name.
pub of_listed : (P : Question → Type 0) (a : ListQuery) (listed : List ℕ) → listed ≡ a.inputs.items → P (question a.program a.state a.moment a.coil listed) → P (question_of a)
of_listed P a listed same h = subst (λ (xs : List ℕ). P (question a.program a.state a.moment a.coil xs)) same h
