-- One row more of causes in runs.
use Rattle.std.proofs.Common.{◌≡◌, ◌∙◌, ◌+◌, ◌≤◌, ◌^◌, ℕ, List, [], ◌∷◌, ◌++◌, append-nil, ap, arith, cond, inl, inr, length, map, refl, subst, sym, None, Option, Some, Ok}
use Rattle.std.specs.Prelude.{IfSome, IsErr, Result, count_by}
use Rattle.std.proofs.lemmas.List.{length-append, map-append}
use Rattle.std.proofs.lemmas.List.Sums.{sum_by-append}
use Rattle.std.proofs.lemmas.Result.{IfOk-from_err}
use Rattle.std.proofs.Math.Nat.{eq-or-lt_of_le}
use Rattle.causes_in_runs.specs.Rows.{AreUnreached, AreRunRows, GivesRun, RowSays, RunCursor}
use Rattle.causes_in_runs.specs.declared.row.RunCause.{RunCause}
use Rattle.causes_in_runs.proofs.RunRows.{run_rows_end, run_rows_more}
use Rattle.io_text.specs.Text.{line_text, lines_text}
use Rattle.io_text.proofs.Commas.{lines_text-append}
use Rattle.io_text.specs.Buffer.{SendsAll}
use Rattle.io_text.specs.Log.{PutsPrefix, WriteLog}
use Rattle.io_text.specs.declared.fault.WriteFault.{WriteFault}
use Rattle.io_text.proofs.Sending.{sends_err, sends_more, sends_prefix, sends_same}
use Rattle.text_runs.specs.AddedRows.{AddedRows, AddsRows, row_lines}
use Rattle.text_runs.specs.CauseText.{AreFew, Gave, IsCount, is_open, run_record}
use Rattle.text_runs.specs.declared.cause_rows.RunSummary.{RunSummary}

one_line : (c : RunCursor) (rows : List RunCause) (row : RunCause)
    → row_lines c (rows ++ row ∷ []) ≡ row_lines c rows ++ line_text (run_record (length c.listed) row)
one_line c rows row =
    let f = run_record (length c.listed) in
    ap lines_text (map-append f rows (row ∷ [])) ∙ lines_text-append (map f rows) (f row ∷ [])
    ∙ ap (λ t. row_lines c rows ++ t) (append-nil (line_text (f row)))

-- The cursor gave one row more.
one_given : (c d e : RunCursor) (rows : List RunCause) (row : RunCause) → Gave c rows d → GivesRun d row e → Gave c (rows ++ row ∷ []) e
one_given c d e rows row gave gives =
    let here : (P : RunCursor → Type 0) → P d → P (record c { from = d.from }) = λ P p. subst P gave.same p in
    let from : e.from ≡ row.number + 1 = ap (λ (x : RunCursor). x.from) gives.then in
    record {
      later = omega (arith, gave.later, gives.from, from);
      rows_are = subst (λ (n : ℕ). AreRunRows c.assumed c.program c.state c.coil c.listed c.states c.from n (rows ++ row ∷ [])) (sym from)
          (run_rows_more c.assumed c.program c.state c.coil c.listed c.states rows c.from d.from gave.rows_are gave.later row gives.from
          (here (λ x. AreUnreached x.assumed x.program x.state x.coil x.listed d.from row.number) gives.unreached_before)
          (here (λ x. RowSays x.assumed row.reached x.program x.state x.coil x.listed x.states row.number) gives.said));
      same = gives.then ∙ ap (λ (x : RunCursor). record x { from = row.number + 1 }) gave.same
          ∙ ap (λ n. record c { from = n }) (sym from);
    }

counted_more : (rows : List RunCause) (row : RunCause) (s : RunSummary) (n : ℕ) → IsCount s rows
    → n ≡ count_by (λ (r : RunCause). is_open r.reached) (row ∷ []) → IsCount (record { rows = s.rows + 1; unsettled = s.unsettled + n }) (rows ++ row ∷ [])
counted_more rows row s n counts e = (
  ap (λ k. k + 1) counts.0 ∙ sym (length-append rows (row ∷ [])),
  ap (λ k. k + n) counts.1 ∙ ap (λ k. count_by (λ (r : RunCause). is_open r.reached) rows + k) e
      ∙ sym (sum_by-append (λ (r : RunCause). cond (is_open r.reached) 1 0) rows (row ∷ [])),
)

pub more_added : (a b z : WriteLog) (w0 w1 w2 : List ℕ) (c d e : RunCursor) (s : RunSummary) (row : RunCause) (n : ℕ) → AddedRows a b w0 w1 c d s
    → GivesRun d row e → SendsAll b z w1 w2 (line_text (run_record (length c.listed) row))
    → n ≡ count_by (λ (r : RunCause). is_open r.reached) (row ∷ [])
    → AddedRows a z w0 w2 c e (record { rows = s.rows + 1; unsettled = s.unsettled + n })
more_added a b z w0 w1 w2 c d e s row n added gives sent one = record {
  rows = added.rows ++ row ∷ [];
  gave = one_given c d e added.rows row added.gave gives;
  sends = sends_same a z w0 w2 (row_lines c added.rows ++ line_text (run_record (length c.listed) row)) (row_lines c (added.rows ++ row ∷ []))
      (sym (one_line c added.rows row)) (sends_more a b z w0 w1 w2 (row_lines c added.rows) _ added.sends sent);
  counts = counted_more added.rows row s n added.counts one;
}

-- ---- how many there are

few_rows : (limit : Option ℕ) (rows : List RunCause) (s : RunSummary) → IsCount s rows → IfSome limit (λ n. s.rows ≤ n) → AreFew limit rows
few_rows None rows s counts h = tt
few_rows (Some n) rows s counts h = omega (arith, counts.0, h)

pub none_few : (limit : Option ℕ) → AreFew limit []
none_few None = tt
none_few (Some n) = omega arith

pub none_within : (limit : Option ℕ) → IfSome limit (λ n. 0 ≤ n)
none_within None = tt
none_within (Some n) = omega arith

-- One row more keeps within a limit that isn't reached.
pub one_more_within : (limit : Option ℕ) (n : ℕ) → IfSome limit (λ most. n ≤ most) → (limit ≡ Some n → ⊥) → IfSome limit (λ most. n + 1 ≤ most)
one_more_within None n h below = tt
one_more_within (Some most) n h below = elim (eq-or-lt_of_le h) as (λ _. n + 1 ≤ most) [
  | inl e ↦ absurd (below (ap Some (sym e)))
  | inr l ↦ omega (arith, l)
]

-- ---- how the list ends

-- The limit is reached.
pub ends_there : (a b : WriteLog) (w0 w1 : List ℕ) (c d : RunCursor) (s : RunSummary) (limit : Option ℕ) → AddedRows a b w0 w1 c d s
    → IfSome limit (λ n. s.rows ≤ n) → limit ≡ Some s.rows → AddsRows a b w0 w1 c d limit (Ok s)
ends_there a b w0 w1 c d s limit added within reached = record {
  rows = added.rows;
  gave = added.gave;
  few = few_rows limit added.rows s added.counts within;
  sends = added.sends;
  counts = added.counts;
  all = inr (reached ∙ ap Some added.counts.0);
}

-- No run comes to a further number.
pub ends : (a b : WriteLog) (w0 w1 : List ℕ) (c d e : RunCursor) (s : RunSummary) (limit : Option ℕ) → AddedRows a b w0 w1 c d s
    → IfSome limit (λ n. s.rows ≤ n) → d.from ≤ 2 ^ length d.listed
    → AreUnreached d.assumed d.program d.state d.coil d.listed d.from (2 ^ length d.listed) → e ≡ record d { from = 2 ^ length d.listed }
    → AddsRows a b w0 w1 c e limit (Ok s)
ends a b w0 w1 c d e s limit added few within none same =
    let gave = added.gave in
    let listed : d.listed ≡ c.listed = ap (λ (x : RunCursor). x.listed) gave.same in
    let from : e.from ≡ 2 ^ length d.listed = ap (λ (x : RunCursor). x.from) same in
    record {
      rows = added.rows;
      gave = record {
        later = omega (arith, gave.later, within, from);
        rows_are = run_rows_end c.assumed c.program c.state c.coil c.listed c.states added.rows c.from d.from e.from gave.rows_are (omega (arith, within, from))
            (subst (λ (n : ℕ). AreUnreached c.assumed c.program c.state c.coil c.listed d.from n) (sym from)
            (subst (λ (x : RunCursor). AreUnreached x.assumed x.program x.state x.coil x.listed d.from (2 ^ length d.listed)) gave.same none));
        same = same ∙ ap (λ (x : RunCursor). record x { from = 2 ^ length d.listed }) gave.same ∙ ap (λ n. record c { from = n }) (sym from);
      };
      few = few_rows limit added.rows s added.counts few;
      sends = added.sends;
      counts = added.counts;
      all = inl (from ∙ ap (λ (xs : List ℕ). 2 ^ length xs) (sym (ap (λ (x : RunCursor). x.listed) same)));
    }

-- A row is cut off.
pub ends_cut : (a b z : WriteLog) (w0 w1 w2 : List ℕ) (c d e : RunCursor) (s : RunSummary) (row : RunCause) (limit : Option ℕ)
    (r : Result RunSummary WriteFault) → IsErr r → AddedRows a b w0 w1 c d s → IfSome limit (λ n. s.rows + 1 ≤ n)
    → GivesRun d row e → PutsPrefix b z (w1 ++ line_text (run_record (length c.listed) row)) → AddsRows a z w0 w2 c e limit r
ends_cut a b z w0 w1 w2 c d e s row limit r failed added few gives cut =
    let line = line_text (run_record (length c.listed) row) in
    record {
      rows = added.rows ++ row ∷ [];
      gave = one_given c d e added.rows row added.gave gives;
      few = few_rows limit (added.rows ++ row ∷ []) (record { rows = s.rows + 1; unsettled = s.unsettled + _ })
          (counted_more added.rows row s _ added.counts refl) few;
      sends = sends_err a z w0 w2 r (row_lines c (added.rows ++ row ∷ [])) failed
          (sends_prefix a b z w0 w1 (row_lines c (added.rows ++ row ∷ [])) (row_lines c added.rows) line []
          (one_line c added.rows row ∙ ap (λ t. row_lines c added.rows ++ t) (sym (append-nil line))) added.sends cut);
      counts = IfOk-from_err r _ failed;
      all = IfOk-from_err r _ failed;
    }
