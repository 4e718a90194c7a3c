-- A simulation of the records of a run makes its scans.
use Rattle.std.proofs.Common.{◌≡◌, ◌∙◌, ◌+◌, ◌<◌, ◌≤◌, ◌++◌, ◌∷◌, [], ℕ, suc, zero, Bool, List, Some, None, Ok, Err, append-nil, append_assoc, ap, ap₂, arith, codes, inl, inr, length, map, refl, slice_get, subst, sym, take, take_all}
use Rattle.std.specs.Prelude.{Result, option_map}
use Rattle.std.specs.List.{Contains, range_with_len}
use Rattle.std.proofs.lemmas.List.{get_or-take, length-map, length-take-le}
use Rattle.std.proofs.lemmas.List.FromFn.{get_or-range_with_len, length-range_with_len}
use Rattle.std.proofs.lemmas.Option.{get_or_from_slice_get, same_Some, slice_get-map, slice_get_within}
use Rattle.diagram_declarations.specs.Decls.{is_input}
use Rattle.diagram_program.specs.Program.{Drawing}
use Rattle.io_text.specs.Left.{Fields}
use Rattle.io_text.specs.Log.{PutsAll, WriteLog}
use Rattle.scan_cycle.specs.Runs.{IsRun, OneScan, after_each}
use Rattle.scan_cycle.specs.Standing.{Standing}
use Rattle.text_runs.specs.Laws.{TellsScan, all_inputs, input_count}
use Rattle.text_runs.specs.Making.{EndsWell, left_by, trace_rows}
use Rattle.text_runs.specs.RunText.{run_header, scan_row}
use Rattle.text_trace.specs.declared.fault.SimFault.{SimFault}
use Rattle.text_trace.specs.declared.fault.SimFault.TheVariants as fault
use Rattle.text_trace.specs.Simulation.{Follows, GoesBack, HasAt, HasUnknownName, HasWord, IsBadHeader, IsNoRow, Runs, with_scans}
use Rattle.text_trace.specs.Stimulus.{IsHeader, IsRow}
use Rattle.text_trace.specs.Trace.{IsStep, Recorded, as_trace, inputs_given, scanned, trace_header, trace_row, values_of}
use Rattle.text_runs.proofs.Leaving.{none_leave, not_before, one_more, take_next, values_count}
use Rattle.text_runs.proofs.Unique.{next_word, one_header, one_moment, same_bits}

-- What is known of a state, and of scans that are simulated from it.
pub record IsGiven (p : Drawing) (s : Standing) (scans : List OneScan) : Type 0 where
  pub header : IsHeader p.decls (run_header p) (all_inputs p)
  pub rows : (n : ℕ) (x : OneScan) → slice_get scans n ≡ Some x → TellsScan p x
  pub run : IsRun s.moment scans
  pub wide : (n : ℕ) → length (left_by p (take n scans) s).held.values ≡ length p.decls.vars

abbrev pub rows_of : Drawing → List OneScan → List Fields
rows_of p scans = run_header p ∷ map scan_row scans

-- the scan of a row
scan_of : (scans : List OneScan) (n : ℕ) (r : Fields) → slice_get (map scan_row scans) n ≡ Some r
    → (x : OneScan) × (slice_get scans n ≡ Some x) × (r ≡ scan_row x)
scan_of [] n r e = cc
scan_of (x ∷ scans) zero r e = (x, refl, sym (same_Some _ _ e))
scan_of (x ∷ scans) (suc n) r e = scan_of scans n r e

-- no place comes twice
none_again : (count m c : ℕ) → slice_get (range_with_len 0 count) m ≡ Some c → Contains (take m (range_with_len 0 count)) c → ⊥
none_again count m c there (k, within, is) =
    let all = range_with_len 0 count in
    let size = length-range_with_len 0 count in
    let place = slice_get_within all m c there in
    let before = length-take-le m all (omega (arith, place)) in
    let value : c ≡ 0 + m = sym (get_or_from_slice_get all m c c there) ∙ get_or-range_with_len 0 count m c (omega (arith, place, size)) in
    let other : c ≡ 0 + k =
    sym is ∙ get_or-take m all k c (omega (arith, within, before)) ∙ get_or-range_with_len 0 count k c (omega (arith, within, before, size)) in
    absurd (omega (arith, value, other, within, before))

some_there : (scans : List OneScan) (n : ℕ) → n < length scans → (x : OneScan) × (slice_get scans n ≡ Some x)
some_there [] n h = absurd (omega (arith, h))
some_there (x ∷ scans) zero h = (x, refl)
some_there (x ∷ scans) (suc n) h = some_there scans n (omega (arith, h))

module _ (recorded : Recorded) (p : Drawing) (s : Standing) (scans : List OneScan) (g : IsGiven p s scans) where
  -- ---- what the first records lead to

  header_of : (columns : List ℕ) (n : ℕ) (text piece : List ℕ) (t : Standing) → Runs recorded p columns s (rows_of p scans) n text piece t → columns ≡ all_inputs p
  unfolding Runs
  header_of columns zero text piece t h =
      one_header p.decls (run_header p) columns (all_inputs p) (subst (λ (r : Fields). IsHeader p.decls r columns) (sym (same_Some _ _ h.0.1)) h.0.2) g.header
  header_of columns (suc k) text piece t h = header_of columns k h.0 h.1 h.2 h.3

  inputs_are : (n : ℕ) (x : OneScan) → slice_get scans n ≡ Some x → inputs_given p (all_inputs p) x.inputs (left_by p (take n scans) s) ≡ x.inputs
  inputs_are n x e =
      let image = values_of is_input p.decls.vars (left_by p (take n scans) s).held.values in
      (g.rows n x e).given image (values_count is_input p.decls.vars (left_by p (take n scans) s).held.values (g.wide n))

  -- one record more
  step_to : (columns : List ℕ) (n : ℕ) (r : Fields) (piece : List ℕ) (u t : Standing) → columns ≡ all_inputs p → u ≡ left_by p (take n scans) s
      → slice_get (map scan_row scans) n ≡ Some r → IsStep recorded p columns n u r t piece → (suc n ≤ length scans) × (t ≡ left_by p (take (suc n) scans) s)
  step_to columns n r piece u t same at there step =
      let found = scan_of scans n r there in
      let x = found.0 in
      let row = subst (λ (f : Fields). IsRow columns f step.moment step.bits) found.2 step.row in
      let tells = (g.rows n x found.1).row in
      let moment : step.moment ≡ x.moment = one_moment columns (all_inputs p) (scan_row x) step.moment x.moment step.bits x.inputs row tells in
      let bits : step.bits ≡ x.inputs = same_bits columns (all_inputs p) (scan_row x) step.moment x.moment step.bits x.inputs row tells in
      let inputs : inputs_given p columns step.bits u ≡ x.inputs =
      ap (λ (c : List ℕ). inputs_given p c step.bits u) same
      ∙ ap (λ (b : List Bool). inputs_given p (all_inputs p) b u) bits
      ∙ ap (λ (v : Standing). inputs_given p (all_inputs p) x.inputs v) at
      ∙ inputs_are n x found.1 in (
        slice_get_within scans n x found.1,
        step.after
            ∙ ap (λ (v : Standing). scanned p v step.moment (inputs_given p columns step.bits u)) at
            ∙ ap (λ (m : ℕ). scanned p (left_by p (take n scans) s) m (inputs_given p columns step.bits u)) moment
            ∙ ap (λ (i : List Bool). scanned p (left_by p (take n scans) s) x.moment i) inputs
            ∙ sym (one_more p scans s n x found.1),
      )

  pub leads : (columns : List ℕ) (n : ℕ) (text piece : List ℕ) (t : Standing) → Runs recorded p columns s (rows_of p scans) n text piece t
      → (n ≤ length scans) × (t ≡ left_by p (take n scans) s)
  unfolding Runs
  leads columns zero text piece t h = (omega arith, h.3 ∙ sym (none_leave p scans s))
  leads columns (suc k) text piece t h =
      step_to columns k h.5.0 piece h.2 t (header_of columns k h.0 h.1 h.2 h.3) (leads columns k h.0 h.1 h.2 h.3).1 h.5.1 h.5.2

  -- ---- none of them is a fault

  at_place : (columns : List ℕ) (n : ℕ) (text piece : List ℕ) (t : Standing) (P : List ℕ → Fields → Type 0) → Runs recorded p columns s (rows_of p scans) n text piece t
      → HasAt (rows_of p scans) (n + 1) (P columns) → (x : OneScan) × (slice_get scans n ≡ Some x) × P (all_inputs p) (scan_row x)
  at_place columns n text piece t P h has =
      let place : slice_get (rows_of p scans) (suc n) ≡ Some has.0 = let same : suc n ≡ n + 1 = omega arith in ap (slice_get (rows_of p scans)) same ∙ has.1 in
      let found = scan_of scans n has.0 place in
      (found.0, found.1, subst (λ (c : List ℕ). P c (scan_row found.0)) (header_of columns n text piece t h) (subst (P columns) found.2 has.2))

  row_good : (n : ℕ) (x : OneScan) → slice_get scans n ≡ Some x → IsNoRow (all_inputs p) (scan_row x) → ⊥
  row_good n x e bad = bad x.moment x.inputs (g.rows n x e).row

  row_later : (n : ℕ) (x : OneScan) (t : Standing) → slice_get scans n ≡ Some x → t ≡ left_by p (take n scans) s → GoesBack t (all_inputs p) (scan_row x) → ⊥
  row_later n x t e at back =
      let same = one_moment (all_inputs p) (all_inputs p) (scan_row x) back.0 x.moment back.1 x.inputs back.2 (g.rows n x e).row in
      let here = ap (λ (u : Standing). u.moment) at in
      let first : s.moment ≤ s.moment = omega arith in
      let before = not_before s.moment s.moment scans n x first g.run e in
      let less = back.3 in
      absurd (omega (arith, same, here, before, less))

  word_good : HasWord (λ columns place. place ≡ None) p.decls (run_header p) → ⊥
  word_good (n, columns, header, (word, at, none)) =
      let found = next_word p.decls (run_header p) word (all_inputs p) columns n g.header header at in
      let bad : Some found.1 ≡ None = sym found.4 ∙ none in
      cc

  word_new : HasWord (λ columns place. (c : ℕ) × (place ≡ Some c) × Contains columns c) p.decls (run_header p) → ⊥
  word_new (n, columns, header, (word, at, (c, named, again))) =
      let found = next_word p.decls (run_header p) word (all_inputs p) columns n g.header header at in
      let same : found.1 ≡ c = same_Some _ _ (sym found.4 ∙ named) in
      let before = subst (λ (l : List ℕ). Contains l c) found.2 again in
      none_again (input_count p) found.0 found.1 found.3 (subst (Contains (take found.0 (all_inputs p))) (sym same) before)

  header_good : IsBadHeader p.decls (rows_of p scans) → ⊥
  header_good (inl f) = f (run_header p, refl, (codes "moment", refl, refl))
  header_good (inr (r, at, has)) =
      word_new (subst (HasWord (λ columns place. (c : ℕ) × (place ≡ Some c) × Contains columns c) p.decls) (sym (same_Some _ _ at)) has)

  pub ends : (t : Standing) (old new : WriteLog) (end : Result ℕ SimFault) → Follows recorded p s (rows_of p scans) t old new end → EndsWell recorded.most p s scans t end
  ends t old new (Ok n) h =
      let c = h.0.course in
      let size = h.1 in
      let all : take n scans ≡ scans = take_all n scans (omega (arith, size, length-map scans scan_row)) in (
        omega (arith, size, length-map scans scan_row),
        (leads c.columns n c.text c.piece t c.runs).1 ∙ ap (λ (l : List OneScan). left_by p l s) all,
      )
  ends t old new (Err (fault.BadRow n)) (inl (k, taken, has, less, at)) =
      let c = taken.course in
      let found = at_place c.columns k c.text c.piece t IsNoRow c.runs has in
      row_good k found.0 found.1 found.2
  ends t old new (Err (fault.BadRow n)) (inr (at, bad, same)) = header_good bad
  ends t old new (Err (fault.UnknownName n)) (at, (r, here, has), same) =
      word_good (subst (HasUnknownName p.decls) (sym (same_Some _ _ here)) has)
  ends t old new (Err (fault.MomentBack n)) (k, taken, has, less, at) =
      let c = taken.course in
      let found = at_place c.columns k c.text c.piece t (GoesBack t) c.runs has in
      row_later k found.0 t found.1 (leads c.columns k c.text c.piece t c.runs).1 found.2
  ends t old new (Err (fault.TooLong n)) h = let size = h.1 in omega (arith, size, length-map scans scan_row)
  ends t old new (Err fault.Write) h = tt
  ends t old new (Err fault.Memory) h = tt

-- ---- a trace

rows_after : (p : Drawing) (s : Standing) (scans : List OneScan) (x : OneScan)
    → trace_rows p s (scans ++ x ∷ []) ≡ trace_rows p s scans ++ trace_row p (scanned p (left_by p scans s) x.moment x.inputs)
unfolding after_each
rows_after p s [] x = append-nil (trace_row p (scanned p s x.moment x.inputs))
rows_after p s (scan ∷ scans) x =
    let t = scanned p s scan.moment scan.inputs in
    ap (λ text. trace_row p t ++ text) (rows_after p t scans x)
    ∙ sym (append_assoc (trace_row p t) (trace_rows p t scans) (trace_row p (scanned p (left_by p scans t) x.moment x.inputs)))

next_rows : (p : Drawing) (s : Standing) (scans : List OneScan) (n : ℕ) (x : OneScan) → slice_get scans n ≡ Some x
    → trace_rows p s (take (suc n) scans) ≡ trace_rows p s (take n scans) ++ trace_row p (left_by p (take (suc n) scans) s)
next_rows p s scans n x e =
    ap (trace_rows p s) (take_next scans n x e)
    ∙ rows_after p s (take n scans) x
    ∙ ap (λ (t : Standing). trace_rows p s (take n scans) ++ trace_row p t) (sym (one_more p scans s n x e))

module _ (every : ℕ) (p : Drawing) (s : Standing) (scans : List OneScan) (g : IsGiven p s scans) where
  pub trace_is : (columns : List ℕ) (n : ℕ) (text piece : List ℕ) (t : Standing) → Runs (with_scans every as_trace) p columns s (rows_of p scans) n text piece t
      → text ++ piece ≡ trace_header p ++ trace_rows p s (take n scans)
  unfolding Runs
  trace_is columns zero text piece t h = ap₂ (λ (a b : List ℕ). a ++ b) h.1 h.2 ∙ sym (append-nil (trace_header p))
  trace_is columns (suc k) text piece t h =
      let found = scan_of scans k h.5.0 h.5.1 in
      let all : Runs (with_scans every as_trace) p columns s (rows_of p scans) (suc k) text piece t = h in
      let there = (leads (with_scans every as_trace) p s scans g columns (suc k) text piece t all).1 in
      let row : piece ≡ trace_row p (left_by p (take (suc k) scans) s) = h.5.2.told ∙ ap (trace_row p) (sym h.5.2.after ∙ there) in
      ap₂ (λ (a b : List ℕ). a ++ b) (h.4 ∙ trace_is columns k h.0 h.1 h.2 h.3) row
      ∙ append_assoc (trace_header p) (trace_rows p s (take k scans)) (trace_row p (left_by p (take (suc k) scans) s))
      ∙ ap (λ (l : List ℕ). trace_header p ++ l) (sym (next_rows p s scans k found.0 found.1))

  pub written : (t : Standing) (old new : WriteLog) (n : ℕ) → Follows (with_scans every as_trace) p s (rows_of p scans) t old new (Ok n)
      → PutsAll old new (trace_header p ++ trace_rows p s scans)
  written t old new n h =
      let c = h.0.course in
      let size = h.1 in
      let all : take n scans ≡ scans = take_all n scans (omega (arith, size, length-map scans scan_row)) in
      subst (PutsAll old new) (trace_is c.columns n c.text c.piece t c.runs ∙ ap (λ (l : List OneScan). trace_header p ++ trace_rows p s l) all) h.0.wrote

  pub runs : (n : ℕ) → n ≤ length scans
      → (text : List ℕ) × (piece : List ℕ) × Runs (with_scans every as_trace) p (all_inputs p) s (rows_of p scans) n text piece (left_by p (take n scans) s)
  unfolding Runs
  runs zero h = ([], trace_header p, ((run_header p, refl, g.header), refl, refl, none_leave p scans s))
  runs (suc k) h =
      let before = runs k (omega (arith, h)) in
      let u = left_by p (take k scans) s in
      let t = left_by p (take (suc k) scans) s in
      let found = some_there scans k h in
      let x = found.0 in
      let next = one_more p scans s k x found.1 in
      let inputs = inputs_are (with_scans every as_trace) p s scans g k x found.1 in
      let first : s.moment ≤ s.moment = omega arith in
      let step : IsStep (with_scans every as_trace) p (all_inputs p) k u (scan_row x) t (trace_row p t) = record {
        moment = x.moment;
        bits = x.inputs;
        row = (g.rows k x found.1).row;
        later = not_before s.moment s.moment scans k x first g.run found.1;
        after = next ∙ ap (λ (i : List Bool). scanned p u x.moment i) (sym inputs);
        told = ap (trace_row p) (next ∙ ap (λ (i : List Bool). scanned p u x.moment i) (sym inputs));
      } in
      let there : slice_get (map scan_row scans) k ≡ Some (scan_row x) = slice_get-map scan_row scans k ∙ ap (option_map scan_row) found.1 in
      (before.0 ++ before.1, trace_row p t, (before.0, before.1, u, before.2, refl, (scan_row x, there, step)))
