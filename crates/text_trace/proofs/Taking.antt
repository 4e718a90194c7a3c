-- The steps of the loop over the records.
use Rattle.std.proofs.Common.{◌≡◌, ◌+◌, ◌-◌, ◌<◌, ◌≤◌, ◌∙◌, ◌++◌, ◌∷◌, [], ℕ, suc, zero, List, Some, None, Ok, Err, refl, sym, ap, subst, arith, add-one, append_assoc, get_or, inl, drop, length, length-append, map, slice_get}
use Rattle.std.specs.Prelude.{⊤, Bool, true, false}
use Rattle.std.specs.Borrow.{Bor}
use Rattle.std.proofs.lemmas.List.{length-map}
use Rattle.std.proofs.lemmas.Option.{same_Some, slice_get_within}
use Rattle.csv.specs.Records.{fields_of}
use Rattle.csv.specs.declared.reader.Reader.{Reader}
use Rattle.diagram_program.specs.Program.{Drawing}
use Rattle.io_text.specs.Left.{Fields, Left, TakesFirst}
use Rattle.scan_cycle.specs.Standing.{Standing}
use Rattle.io_text.specs.Log.{PutsAll, WriteLog}
use Rattle.io_text.proofs.Bytes.{appends_more}
use Rattle.io_text.proofs.Puts.{fails_after, puts_more}
use Rattle.text_trace.specs.declared.fault.SimFault.{SimFault}
use Rattle.text_trace.specs.declared.fault.SimFault.TheVariants as fault
use Rattle.text_trace.specs.declared.filling.Filling.{Filling}
use Rattle.text_trace.specs.declared.filling.Taken.{Taken}
use Rattle.text_trace.specs.Coming.{Comes, Gives, Takes}
use Rattle.text_trace.specs.Filled.{Numbered, all_fields, in_file}
use Rattle.text_trace.specs.Simulation.{IsTaken, Runs}
use Rattle.text_trace.specs.Steps.{Ends, IsGoing, StepsTo}
use Rattle.text_trace.specs.Stimulus.{IsHeader}
use Rattle.text_trace.specs.Trace.{IsStep, Recorded}

-- ---- the records that a reader has left

pub none_left : (rows : List Fields) (k : ℕ) (found : Bool) (fields : Fields) (new : Reader (Bor (List ℕ))) → found ≡ false → TakesFirst (drop k rows) found fields new → length rows ≤ k
none_left [] k found fields new e h = omega arith
none_left (r ∷ rows) zero found fields new e h = let bad : true ≡ false = sym h.0 ∙ e in cc
none_left (r ∷ rows) (suc k) found fields new e h = let rest = none_left rows k found fields new e h in omega (arith, rest)

first_left : (rows : List Fields) (k : ℕ) (found : Bool) (fields : Fields) (new : Reader (Bor (List ℕ))) → found ≡ true → TakesFirst (drop k rows) found fields new
    → (slice_get rows k ≡ Some fields) × Left new (drop (suc k) rows)
first_left [] zero found fields new e h = let bad : true ≡ false = sym e ∙ h in cc
first_left [] (suc k) found fields new e h = let bad : true ≡ false = sym e ∙ h in cc
first_left (r ∷ rows) zero found fields new e h = (ap (λ x. Some x) (sym h.1), h.2)
first_left (r ∷ rows) (suc k) found fields new e h = first_left rows k found fields new e h

pub one_left : (rows : List Fields) (k : ℕ) (found : Bool) (fields : Fields) (new : Reader (Bor (List ℕ))) → found ≡ true → TakesFirst (drop k rows) found fields new
    → (slice_get rows k ≡ Some fields) × Left new (drop (k + 1) rows)
one_left rows k found fields new e h =
    let first = first_left rows k found fields new e h in
    (first.0, subst (λ n. Left new (drop n rows)) (sym (add-one k)) first.1)

-- ---- the records that come

none_taken : (columns : List ℕ) (all : List Numbered) (k : ℕ) (f : Filling) → Takes columns (drop k all) None f → length all ≤ k
none_taken columns [] k f h = omega arith
none_taken columns (r ∷ all) zero f h = absurd h
none_taken columns (r ∷ all) (suc k) f h = let rest = none_taken columns all k f h in omega (arith, rest)

first_taken : (columns : List ℕ) (all : List Numbered) (k : ℕ) (taken : Taken) (f : Filling) → Takes columns (drop k all) (Some taken) f
    → (r : Numbered) × (slice_get all k ≡ Some r) × (taken.number ≡ r.number) × Gives columns taken.moment (fields_of f.last) r.fields × Comes columns f (drop (suc k) all)
first_taken columns [] zero taken f h = cc
first_taken columns [] (suc k) taken f h = cc
first_taken columns (r ∷ all) zero taken f h = (r, refl, h.0, h.1, h.2)
first_taken columns (r ∷ all) (suc k) taken f h = first_taken columns all k taken f h

pub one_taken : (columns : List ℕ) (all : List Numbered) (k : ℕ) (taken : Taken) (f : Filling) → Takes columns (drop k all) (Some taken) f
    → (r : Numbered) × (slice_get all k ≡ Some r) × (taken.number ≡ r.number) × Gives columns taken.moment (fields_of f.last) r.fields × Comes columns f (drop (k + 1) all)
one_taken columns all k taken f h =
    let first = first_taken columns all k taken f h in
    (first.0, first.1, first.2, first.3, subst (λ n. Comes columns f (drop n all)) (sym (add-one k)) first.4)

-- ---- its fields, and its number in the file

pub fields_at : (all : List Numbered) (i : ℕ) (r : Numbered) → slice_get all i ≡ Some r → slice_get (all_fields all) i ≡ Some r.fields
fields_at [] i r e = cc
fields_at (a ∷ all) zero r e = ap (λ (x : Numbered). Some x.fields) (same_Some _ _ e)
fields_at (a ∷ all) (suc i) r e = fields_at all i r e

number_at : (all : List Numbered) (i : ℕ) (r : Numbered) → slice_get all i ≡ Some r → get_or (map (λ (r : Numbered). r.number) all) i 1 ≡ r.number
number_at [] i r e = cc
number_at (a ∷ all) zero r e = ap (λ (x : Numbered). x.number) (same_Some _ _ e)
number_at (a ∷ all) (suc i) r e = number_at all i r e

in_file_at : (all : List Numbered) (k : ℕ) (r : Numbered) → slice_get all (k + 1) ≡ Some r → in_file all (k + 2) ≡ r.number
in_file_at all k r e =
    let place : k + 2 - 1 ≡ k + 1 = omega arith in
    ap (λ i. get_or (map (λ (r : Numbered). r.number) all) i 1) place ∙ number_at all (k + 1) r e

-- ---- the records that are taken

runs_within : (recorded : Recorded) (p : Drawing) (columns : List ℕ) (s : Standing) (rows : List Fields) (k : ℕ) (text piece : List ℕ) (t : Standing)
    → Runs recorded p columns s rows k text piece t → k < length rows
unfolding Runs
runs_within recorded p columns s rows zero text piece t ((r, here, good), none, same, start) = slice_get_within rows 0 r here
runs_within recorded p columns s rows (suc k) text piece t (before, last, u, runs, cut, (r, here, step)) = slice_get_within rows (suc k) r here

pub runs_more : (recorded : Recorded) (p : Drawing) (columns : List ℕ) (s : Standing) (rows : List Fields) (k : ℕ) (text piece more : List ℕ) (t u : Standing) (r : Fields)
    → Runs recorded p columns s rows k text piece t → slice_get rows (k + 1) ≡ Some r → IsStep recorded p columns k t r u more
    → Runs recorded p columns s rows (k + 1) (text ++ piece) more u
unfolding Runs
runs_more recorded p columns s rows k text piece more t u r h here step = rw add-one (text, piece, t, h, refl, (r, rw (← add-one) here, step))

pub going_none : (recorded : Recorded) (p : Drawing) (columns : List ℕ) (s : Standing) (all : List Numbered) (r : Numbered) (a b : WriteLog) (f : Filling)
    → slice_get all 0 ≡ Some r → IsHeader p.decls r.fields columns → PutsAll a b (recorded.head p s) → Comes columns f (drop 1 all)
    → IsGoing recorded p columns s all 0 s a b f
unfolding Runs
going_none recorded p columns s all r a b f here header wrote left =
    record { text = []; piece = recorded.head p s; runs = ((r.fields, fields_at all 0 r here, header), refl, refl, refl); wrote = wrote; left = left }

pub going_more : (recorded : Recorded) (p : Drawing) (columns : List ℕ) (s t u : Standing) (all : List Numbered) (taken : Taken) (a b c : WriteLog) (number : ℕ) (f g : Filling)
    → IsGoing recorded p columns s all number t a b f → Takes columns (drop (number + 1) all) (Some taken) g
    → ((fields : Fields) → Gives columns taken.moment (fields_of g.last) fields → (piece : List ℕ) × IsStep recorded p columns number t fields u piece × PutsAll b c piece)
    → IsGoing recorded p columns s all (number + 1) u a c g
going_more recorded p columns s t u all taken a b c number f g h takes steps =
    let (r, at, same, gives, comes) = one_taken columns all (number + 1) taken g takes in
    let (piece, step, wrote) = steps r.fields gives in
    record {
      text = h.text ++ h.piece;
      piece = piece;
      runs = runs_more recorded p columns s (all_fields all) number h.text h.piece piece t u r.fields h.runs (fields_at all (number + 1) r at) step;
      wrote = puts_more a b c (h.text ++ h.piece) piece h.wrote wrote;
      left = comes;
    }

-- ---- how it ends

pub was_taken : (recorded : Recorded) (p : Drawing) (columns : List ℕ) (s t u : Standing) (all : List Numbered) (a b c : WriteLog) (number : ℕ) (f : Filling)
    → IsGoing recorded p columns s all number t a b f → number ≤ recorded.most → u ≡ t → c ≡ b → IsTaken recorded p s (all_fields all) number u a c
was_taken recorded p columns s t u all a b c number f h few e g = record {
  course = record { columns = columns; text = h.text; piece = h.piece; runs = subst (Runs recorded p columns s (all_fields all) number h.text h.piece) (sym e) h.runs; few = few };
  wrote = subst (λ x. PutsAll a x (h.text ++ h.piece)) (sym g) h.wrote;
}

pub going_done : (recorded : Recorded) (p : Drawing) (columns : List ℕ) (s t : Standing) (all : List Numbered) (a b : WriteLog) (number : ℕ) (f g : Filling)
    → IsGoing recorded p columns s all number t a b f → Takes columns (drop (number + 1) all) None g → number ≤ recorded.most
    → Ends recorded p s all t a b (Ok number)
going_done recorded p columns s t all a b number f g h takes few =
    let none = none_taken columns all (number + 1) g takes in
    let some = runs_within recorded p columns s (all_fields all) number h.text h.piece t h.runs in
    let size : length (all_fields all) ≡ length all = length-map all (λ (r : Numbered). r.fields) in
    (Ok number, (was_taken recorded p columns s t t all a b b number f h few refl refl, omega (arith, none, some, size)), refl)

pub going_stops : (recorded : Recorded) (p : Drawing) (columns : List ℕ) (s t u : Standing) (all : List Numbered) (taken : Taken) (stop : SimFault) (a b c : WriteLog) (number : ℕ) (f g : Filling)
    → IsGoing recorded p columns s all number t a b f → number < recorded.most → Takes columns (drop (number + 1) all) (Some taken) g
    → ((fields : Fields) → Gives columns taken.moment (fields_of g.last) fields → StepsTo {T = ⊤} recorded p columns number taken.number t fields u b c (Err stop))
    → Ends recorded p s all u a c (Err stop)
unfolding was_taken
going_stops recorded p columns s t u all taken (fault.BadRow n) a b c number f g h few takes steps =
    let (r, at, told, gives, comes) = one_taken columns all (number + 1) taken g takes in
    let (same, bad, (ks, kl)) = steps r.fields gives in (
      Err (fault.BadRow (number + 2)),
      inl (number, was_taken recorded p columns s t u all a b c number f h (omega (arith, few)) ks kl, (r.fields, fields_at all (number + 1) r at, bad), few, refl),
      ap (λ x. Err (fault.BadRow x)) (same ∙ told ∙ sym (in_file_at all number r at)),
    )
going_stops recorded p columns s t u all taken (fault.UnknownName n) a b c number f g h few takes steps =
    let (r, at, told, gives, comes) = one_taken columns all (number + 1) taken g takes in absurd (steps r.fields gives)
going_stops recorded p columns s t u all taken (fault.MomentBack n) a b c number f g h few takes steps =
    let (r, at, told, gives, comes) = one_taken columns all (number + 1) taken g takes in
    let (same, (m, bits, row, less), (ks, kl)) = steps r.fields gives in (
      Err (fault.MomentBack (number + 2)),
      (
        number,
        was_taken recorded p columns s t u all a b c number f h (omega (arith, few)) ks kl,
        (r.fields, fields_at all (number + 1) r at, (m, bits, row, subst (λ (x : Standing). m < x.moment) (sym ks) less)),
        few,
        refl,
      ),
      ap (λ x. Err (fault.MomentBack x)) (same ∙ told ∙ sym (in_file_at all number r at)),
    )
going_stops recorded p columns s t u all taken (fault.TooLong n) a b c number f g h few takes steps =
    let (r, at, told, gives, comes) = one_taken columns all (number + 1) taken g takes in absurd (steps r.fields gives)
going_stops recorded p columns s t u all taken fault.Write a b c number f g h few takes steps =
    let (r, at, told, gives, comes) = one_taken columns all (number + 1) taken g takes in
    let (piece, step, cut) = steps r.fields gives in
    let front = cut.bytes.0 in
    let back = cut.bytes.1 in
    let text = h.text ++ h.piece in
    let same : text ++ piece ≡ (text ++ front) ++ back = ap (λ x. text ++ x) cut.bytes.2 ∙ sym (append_assoc text front back) in (
      Err fault.Write,
      (
        number + 1,
        record {
          columns = columns;
          text = text;
          piece = piece;
          runs = runs_more recorded p columns s (all_fields all) number h.text h.piece piece t u r.fields h.runs (fields_at all (number + 1) r at) step;
          few = omega (arith, few);
        },
        record {
          bytes = (text ++ front, back, same, appends_more a.contents b.contents c.contents text front h.wrote.bytes cut.bytes.3);
          calls = fails_after a.tally b.tally c.tally h.wrote.calls cut.calls;
        },
        omega (arith, length-append text front),
      ),
      refl,
    )
going_stops recorded p columns s t u all taken fault.Memory a b c number f g h few takes steps =
    let (r, at, told, gives, comes) = one_taken columns all (number + 1) taken g takes in
    let (ks, kl) = steps r.fields gives in
    (Err fault.Memory, inl (number, was_taken recorded p columns s t u all a b c number f h (omega (arith, few)) ks kl), refl)

pub going_many : (recorded : Recorded) (p : Drawing) (columns : List ℕ) (s t : Standing) (all : List Numbered) (taken : Taken) (a b : WriteLog) (number row : ℕ) (f g : Filling)
    → IsGoing recorded p columns s all number t a b f → Takes columns (drop (number + 1) all) (Some taken) g → number ≡ recorded.most
    → row ≡ taken.number → Ends recorded p s all t a b (Err (fault.TooLong row))
going_many recorded p columns s t all taken a b number row f g h takes count same =
    let (r, at, told, gives, comes) = one_taken columns all (number + 1) taken g takes in
    let more = slice_get_within (all_fields all) (number + 1) r.fields (fields_at all (number + 1) r at) in
    let place : in_file all (recorded.most + 2) ≡ r.number = subst (λ k. in_file all (k + 2) ≡ r.number) count (in_file_at all number r at) in (
      Err (fault.TooLong (recorded.most + 2)),
      (
        subst (λ k. IsTaken recorded p s (all_fields all) k t a b) count (was_taken recorded p columns s t t all a b b number f h (omega (arith, count)) refl refl),
        omega (arith, more, count),
        refl,
      ),
      ap (λ x. Err (fault.TooLong x)) (same ∙ told ∙ sym place),
    )

pub going_starved : (recorded : Recorded) (p : Drawing) (columns : List ℕ) (s t : Standing) (all : List Numbered) (a b : WriteLog) (number : ℕ) (f : Filling)
    → IsGoing recorded p columns s all number t a b f → number ≤ recorded.most → Ends recorded p s all t a b (Err fault.Memory)
going_starved recorded p columns s t all a b number f h few =
    (Err fault.Memory, inl (number, was_taken recorded p columns s t t all a b b number f h few refl refl), refl)
