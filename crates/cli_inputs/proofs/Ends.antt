-- How what is written ends, from what each step of it ensures; and the fault of what is asked.
use Rattle.std.proofs.Common.{◌≡◌, ◌∙◌, ◌++◌, [], Result, Ok, Err, append-nil, append_assoc, ap, refl, sym, ℕ, List, Option, inl, inr}
use Rattle.causes_query.specs.declared.fault.CauseFault.{CauseFault}
use Rattle.causes_query.specs.declared.fault.CauseFault.TheVariants as cause
use Rattle.causes_query.specs.Refusal.{reason}
use Rattle.io_text.specs.Log.{Puts, PutsAll, PutsPrefix, WriteLog}
use Rattle.io_text.proofs.Puts.{prefix_after, puts_more}
use Rattle.cli_inputs.specs.declared.fault.ToolFault.TheVariants as fault
use Rattle.cli_inputs.specs.Reports.{HasCauseFault}

pub cause_fault : (first : Option CauseFault) (f : CauseFault) → first ≡ reason f → HasCauseFault first (fault.Cause f)
cause_fault first cause.Memory h = inl refl
cause_fault first _ h = inr h

-- A text that is written after another one.
pub puts_next : {T E : Type 0} (a b c : WriteLog) (xs ys : List ℕ) (r : Result T E) → PutsAll a b xs → Puts b c r ys → Puts a c r (xs ++ ys)
puts_next a b c xs ys (Ok x) p q = puts_more a b c xs ys p q
puts_next a b c xs ys (Err x) p q = prefix_after a b c (xs ++ ys) xs ys [] (sym (append-nil (xs ++ ys))) p q

-- A text that is cut off after another one.
pub prefix_next : (a b c : WriteLog) (xs ys : List ℕ) → PutsAll a b xs → PutsPrefix b c ys → PutsPrefix a c (xs ++ ys)
prefix_next a b c xs ys p q = prefix_after a b c (xs ++ ys) xs ys [] (sym (append-nil (xs ++ ys))) p q

-- A text that is cut off before another one.
pub puts_cut : (a b : WriteLog) (xs ys : List ℕ) → PutsPrefix a b xs → PutsPrefix a b (xs ++ ys)
puts_cut a b xs ys p = record {
  bytes = (p.bytes.0, p.bytes.1 ++ ys, ap (λ t. t ++ ys) p.bytes.2 ∙ append_assoc p.bytes.0 p.bytes.1 ys, p.bytes.3);
  calls = p.calls;
}

pub all_same : (a b : WriteLog) (xs ys : List ℕ) → xs ≡ ys → PutsAll a b xs → PutsAll a b ys
all_same a b xs ys e h = rw e at h

pub prefix_same : (a b : WriteLog) (xs ys : List ℕ) → xs ≡ ys → PutsPrefix a b xs → PutsPrefix a b ys
prefix_same a b xs ys e h = rw e at h
