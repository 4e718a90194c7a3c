-- What ends before the records after the header.
use Rattle.std.proofs.Common.{◌≡◌, ◌-◌, ◌≤◌, ◌∷◌, [], ℕ, List, Some, Err, refl, sym, subst, arith, length, slice_get, inl, inr}
use Rattle.std.proofs.lemmas.Option.{same_Some, slice_get_within}
use Rattle.diagram_program.specs.Program.{Drawing}
use Rattle.io_text.specs.Left.{Fields}
use Rattle.scan_cycle.specs.Standing.{Standing}
use Rattle.io_text.specs.Log.{PutsPrefix, WriteLog}
use Rattle.text_trace.specs.declared.fault.SimFault.{SimFault}
use Rattle.text_trace.specs.declared.fault.SimFault.TheVariants as fault
use Rattle.text_trace.specs.Filled.{Numbered, all_fields, filled, filled_after, numbered, told_of}
use Rattle.text_trace.specs.Simulation.{Follows, Runs}
use Rattle.text_trace.specs.Steps.{Ends, NoColumns}
use Rattle.text_trace.specs.Stimulus.{IsHeader}
use Rattle.text_trace.specs.Trace.{Recorded}

no_header_of : (recorded : Recorded) (p : Drawing) (s : Standing) (rows : List Fields) (a : WriteLog) → length rows ≤ 0 → Follows recorded p s rows s a a (Err (fault.BadRow 1))
no_header_of recorded p s rows a none = inr (refl, inl (λ (r, here, word). let some = slice_get_within rows 0 r here in absurd (omega (arith, none, some))), (refl, refl))

bad_header_of : (recorded : Recorded) (p : Drawing) (s : Standing) (rows : List Fields) (fields : Fields) (a : WriteLog) (f : SimFault) → slice_get rows 0 ≡ Some fields
    → ((behind : List Fields) → NoColumns p.decls fields behind f) → Follows recorded p s rows s a a (Err f)
bad_header_of recorded p s [] fields a f e h = cc
bad_header_of recorded p s (r ∷ rows) fields a fault.Memory e h = inr (refl, refl)
bad_header_of recorded p s (r ∷ rows) fields a fault.Write e h = absurd (h rows)
bad_header_of recorded p s (r ∷ rows) fields a (fault.BadRow n) e h =
    let bad = subst (λ x. NoColumns p.decls x rows (fault.BadRow n)) (sym (same_Some _ _ e)) (h rows) in inr (bad.0, bad.1, (refl, refl))
bad_header_of recorded p s (r ∷ rows) fields a (fault.UnknownName n) e h = let bad = h rows in (bad.0, (fields, e, bad.1), (refl, refl))
bad_header_of recorded p s (r ∷ rows) fields a (fault.MomentBack n) e h = absurd (h rows)
bad_header_of recorded p s (r ∷ rows) fields a (fault.TooLong n) e h = absurd (h rows)

cut_header_of : (recorded : Recorded) (p : Drawing) (s : Standing) (rows : List Fields) (fields : Fields) (columns : List ℕ) (a b : WriteLog) → slice_get rows 0 ≡ Some fields → IsHeader p.decls fields columns
    → PutsPrefix a b (recorded.head p s) → Follows recorded p s rows s a b (Err fault.Write)
unfolding Runs
cut_header_of recorded p s rows fields columns a b e h cut =
    (0, record { columns = columns; text = []; piece = recorded.head p s; runs = ((fields, e, h), refl, refl, refl); few = omega arith }, cut, omega arith)

-- ---- with records in between

pub no_header : (recorded : Recorded) (p : Drawing) (s : Standing) (every : ℕ) (rows : List Fields) (a : WriteLog) → length rows ≤ 0
    → Ends recorded p s (filled every rows) s a a (Err (fault.BadRow 1))
no_header recorded p s every [] a none = (Err (fault.BadRow 1), no_header_of recorded p s [] a none, refl)
no_header recorded p s every (r ∷ rows) a none = absurd (omega (arith, none))

-- The header is the first record of the file.
first_told : (p : Drawing) (all : List Numbered) (header : Fields) (behind : List Fields) (f : SimFault) → NoColumns p.decls header behind f
    → Err f ≡ told_of (numbered 1 header ∷ all) (Err f)
first_told p all header behind fault.Memory h = refl
first_told p all header behind (fault.BadRow n) h = rw h.0 refl
first_told p all header behind (fault.UnknownName n) h = rw h.0 refl
first_told p all header behind _ h = absurd h

pub bad_header : (recorded : Recorded) (p : Drawing) (s : Standing) (every : ℕ) (rows : List Fields) (fields : Fields) (a : WriteLog) (f : SimFault) → slice_get rows 0 ≡ Some fields
    → ((behind : List Fields) → NoColumns p.decls fields behind f) → Ends recorded p s (filled every rows) s a a (Err f)
bad_header recorded p s every [] fields a f e h = cc
bad_header recorded p s every (r ∷ rows) fields a f e h =
    let all = filled_after every (length r - 1) 2 r rows in
    (Err f, bad_header_of recorded p s (r ∷ all_fields all) fields a f e h, first_told p all r [] f (subst (λ x. NoColumns p.decls x [] f) (sym (same_Some _ _ e)) (h [])))

pub cut_header : (recorded : Recorded) (p : Drawing) (s : Standing) (every : ℕ) (rows : List Fields) (fields : Fields) (columns : List ℕ) (a b : WriteLog) → slice_get rows 0 ≡ Some fields
    → IsHeader p.decls fields columns → PutsPrefix a b (recorded.head p s) → Ends recorded p s (filled every rows) s a b (Err fault.Write)
cut_header recorded p s every [] fields columns a b e h cut = cc
cut_header recorded p s every (r ∷ rows) fields columns a b e h cut =
    (Err fault.Write, cut_header_of recorded p s (r ∷ all_fields (filled_after every (length r - 1) 2 r rows)) fields columns a b e h cut, refl)
