-- Without a time between two scans there are no records in between.
use Rattle.std.proofs.Common.{◌≡◌, ◌∙◌, ◌+◌, ◌-◌, ◌<◌, ◌++◌, ◌∷◌, [], ℕ, suc, zero, List, Option, Some, None, Result, Ok, Err, refl, sym, ap, subst, arith, codes, drop, get_or, inl, inr, length, map, slice_get, ◌^◌, bytes_eq, decimal}
use Rattle.std.specs.Prelude.{if◌then◌else◌, false, true, Bool, ◌&&◌, ◌==◌, nat_lt}
use Rattle.std.proofs.lemmas.List.{length-map}
use Rattle.std.specs.Cmp.Lexicographic.{same_text}
use Rattle.std.specs.Str.Parse.{AllDigits, digits_value}
use Rattle.std.proofs.lemmas.Fmt.{decimal_is_IsNumeral}
use Rattle.std.proofs.lemmas.Bool.{ltb-true, and_parts}
use Rattle.std.proofs.lemmas.Option.{same_Some, slice_get_within}
use Rattle.diagram_declarations.specs.Decls.{Declared}
use Rattle.diagram_program.specs.Program.{Drawing}
use Rattle.csv.specs.Records.{fields_of}
use Rattle.io_text.specs.Left.{Fields, IsPlain, Left}
use Rattle.scan_cycle.specs.Standing.{Standing}
use Rattle.io_text.specs.Log.{WriteLog}
use Rattle.text_trace.specs.declared.fault.SimFault.{SimFault}
use Rattle.text_trace.specs.declared.fault.SimFault.TheVariants as fault
use Rattle.text_trace.specs.declared.filling.Filling.{Filling}
use Rattle.text_trace.specs.Coming.{Comes, IsSound, coming}
use Rattle.text_trace.specs.Filled.{Numbered, all_fields, filled, filled_after, held_between, in_file, is_number, moment_in, numbered, told_of}
use Rattle.text_trace.specs.Simulation.{Follows, FollowsEvery, with_scans}
use Rattle.text_trace.specs.Steps.{Ends}
use Rattle.text_trace.specs.Stimulus.{IsHeader, are_bits, input_named}
use Rattle.text_trace.specs.Trace.{Recorded}

held_none : (bits : List (List ℕ)) (from to : Option ℕ) → held_between 0 bits from to ≡ []
held_none bits None to = refl
held_none bits (Some m) None = refl
held_none bits (Some m) (Some n) = refl

after_none : (width number : ℕ) (last next : Fields) (rows : List Fields)
    → filled_after 0 width number last (next ∷ rows) ≡ numbered number next ∷ filled_after 0 width (number + 1) next rows
after_none width number last next rows =
    ap (λ l. map (numbered number) l ++ (numbered number next ∷ filled_after 0 width (number + 1) next rows)) (held_none (drop 1 last) (moment_in width last) (moment_in width next))

after_fields : (width number : ℕ) (last : Fields) (rows : List Fields) → all_fields (filled_after 0 width number last rows) ≡ rows
after_fields width number last [] = refl
after_fields width number last (r ∷ rows) = ap all_fields (after_none width number last r rows) ∙ ap (λ l. r ∷ l) (after_fields width (number + 1) r rows)

plain_fields : (rows : List Fields) → all_fields (filled 0 rows) ≡ rows
plain_fields [] = refl
plain_fields (header ∷ rows) = ap (λ l. header ∷ l) (after_fields (length header - 1) 2 header rows)

after_numbers : (width number : ℕ) (last : Fields) (rows : List Fields) (i : ℕ) → i < length rows
    → get_or (map (λ (r : Numbered). r.number) (filled_after 0 width number last rows)) i 1 ≡ number + i
after_numbers width number last [] i h = absurd (omega (arith, h))
after_numbers width number last (r ∷ rows) zero h =
    ap (λ l. get_or (map (λ (r : Numbered). r.number) l) 0 1) (after_none width number last r rows) ∙ (let same : number ≡ number + 0 = omega arith in same)
after_numbers width number last (r ∷ rows) (suc i) h =
    ap (λ l. get_or (map (λ (r : Numbered). r.number) l) (suc i) 1) (after_none width number last r rows)
    ∙ after_numbers width (number + 1) r rows i (omega (arith, h)) ∙ (let same : number + 1 + i ≡ number + suc i = omega arith in same)

plain_number : (rows : List Fields) (k : ℕ) → k + 1 < length rows → in_file (filled 0 rows) (k + 2) ≡ k + 2
plain_number [] k h = absurd (omega (arith, h))
plain_number (header ∷ rows) k h =
    let place : k + 2 - 1 ≡ suc k = omega arith in
    ap (λ i. get_or (map (λ (r : Numbered). r.number) (filled 0 (header ∷ rows))) i 1) place
    ∙ after_numbers (length header - 1) 2 header rows k (omega (arith, h)) ∙ (let same : 2 + k ≡ k + 2 = omega arith in same)

plain_first : (rows : List Fields) → in_file (filled 0 rows) 1 ≡ 1
plain_first [] = refl
plain_first (header ∷ rows) = refl

told_plain : (recorded : Recorded) (p : Drawing) (s : Standing) (rows : List Fields) (t : Standing) (old new : WriteLog) (r : Result ℕ SimFault)
    → Follows recorded p s rows t old new r → told_of (filled 0 rows) r ≡ r
told_plain recorded p s rows t old new (Ok n) h = refl
told_plain recorded p s rows t old new (Err (fault.BadRow n)) (inl (k, taken, (fields, at, bad), few, same)) =
    ap (λ x. Err (fault.BadRow x)) (ap (in_file (filled 0 rows)) same ∙ plain_number rows k (slice_get_within rows (k + 1) fields at) ∙ sym same)
told_plain recorded p s rows t old new (Err (fault.BadRow n)) (inr (same, bad, kept)) =
    ap (λ x. Err (fault.BadRow x)) (ap (in_file (filled 0 rows)) same ∙ plain_first rows ∙ sym same)
told_plain recorded p s rows t old new (Err (fault.UnknownName n)) (same, bad, kept) =
    ap (λ x. Err (fault.UnknownName x)) (ap (in_file (filled 0 rows)) same ∙ plain_first rows ∙ sym same)
told_plain recorded p s rows t old new (Err (fault.MomentBack n)) (k, taken, (fields, at, bad), few, same) =
    ap (λ x. Err (fault.MomentBack x)) (ap (in_file (filled 0 rows)) same ∙ plain_number rows k (slice_get_within rows (k + 1) fields at) ∙ sym same)
told_plain recorded p s rows t old new (Err (fault.TooLong n)) (taken, more, same) =
    ap (λ x. Err (fault.TooLong x)) (ap (in_file (filled 0 rows)) same ∙ plain_number rows recorded.most more ∙ sym same)
told_plain recorded p s rows t old new (Err fault.Write) h = refl
told_plain recorded p s rows t old new (Err fault.Memory) h = refl

ends_every : (recorded : Recorded) (every : ℕ) (p : Drawing) (s : Standing) (rows : List Fields) (t : Standing) (old new : WriteLog) (end : Result ℕ SimFault)
    → Ends (with_scans every recorded) p s (filled every rows) t old new end → FollowsEvery recorded every p s rows t old new end
ends_every recorded (suc n) p s rows t old new end h = h
ends_every recorded zero p s rows t old new end (r, follows, same) =
    let plain : Follows recorded p s rows t old new r = subst (λ l. Follows recorded p s l t old new r) (plain_fields rows) follows in
    subst (Follows recorded p s rows t old new) (sym (same ∙ told_plain recorded p s rows t old new r plain)) plain

pub ends_by : (recorded : Recorded) (every held : ℕ) (p : Drawing) (s : Standing) (rows : List Fields) (t : Standing) (old new : WriteLog) (end : Result ℕ SimFault) → held ≡ every
    → Ends (with_scans every recorded) p s (filled held rows) t old new end → FollowsEvery recorded every p s rows t old new end
ends_by recorded every held p s rows t old new end e h = ends_every recorded every p s rows t old new end (subst (λ x. Ends (with_scans every recorded) p s (filled x rows) t old new end) e h)

pub every_starved : (recorded : Recorded) (every : ℕ) (p : Drawing) (s : Standing) (rows : List Fields) (old : WriteLog) → FollowsEvery recorded every p s rows s old old (Err fault.Memory)
every_starved recorded every p s rows old = ends_every recorded every p s rows s old old (Err fault.Memory) (Err fault.Memory, inr (refl, refl), refl)

-- ---- the header

no_number_if : (b : Bool) → is_number (codes "moment") ≡ b → b ≡ false
no_number_if false e = refl
no_number_if true e =
    let n = digits_value 10 (codes "moment") in
    let parts = and_parts (bytes_eq (codes "moment") (decimal n)) (nat_lt n (2 ^ 64)) e in
    let text : codes "moment" ≡ decimal n = same_text (codes "moment") (decimal n) (sym parts.0) in
    let digits : AllDigits 10 (codes "moment") = subst (AllDigits 10) (sym text) (decimal_is_IsNumeral n (ltb-true n (2 ^ 64) parts.1)).0.1 in
    absurd (omega (arith, digits.0))

no_number : is_number (codes "moment") ≡ false
no_number = no_number_if (is_number (codes "moment")) refl

last_false : (a b c : Bool) (n : ℕ) → c ≡ false → (if a && b && c then Some n else None) ≡ None
last_false true true c n e = rw e refl
last_false true false c n e = refl
last_false false b c n e = refl

pub header_moment : (d : Declared) (fields : Fields) (columns : List ℕ) (width : ℕ) → IsHeader d fields columns → moment_in width fields ≡ None
header_moment d fields columns width h =
    ap (moment_in width) h.same
    ∙ last_false (length h.words == width) (are_bits h.words) (is_number (codes "moment")) (digits_value 10 (codes "moment")) no_number

pub header_width : (d : Declared) (fields : Fields) (columns : List ℕ) → IsHeader d fields columns → length fields - 1 ≡ length columns
header_width d fields columns h =
    let size = ap length h.same in
    let named = ap length h.named in
    omega (arith, size, named, length-map h.words (input_named d), length-map columns (λ c. Some c))

-- It is the first record, and what comes after it is what the source gives.
pub header_at : (every : ℕ) (rows : List Fields) (fields : Fields) → slice_get rows 0 ≡ Some fields → slice_get (filled every rows) 0 ≡ Some (numbered 1 fields)
header_at every [] fields e = cc
header_at every (r ∷ rows) fields e = ap (λ x. Some (numbered 1 x)) (same_Some _ _ e)

pub header_comes : (d : Declared) (columns : List ℕ) (f : Filling) (every : ℕ) (rows : List Fields) (fields : Fields) → slice_get rows 0 ≡ Some fields → IsHeader d fields columns
    → Left f.records (drop 1 rows) → f.is_ahead ≡ false → f.number ≡ 2 → f.every ≡ every → fields_of f.last ≡ fields → Comes columns f (drop 1 (filled every rows))
header_comes d columns f every [] fields e header left unread number time last = cc
header_comes d columns f every (r ∷ rows) fields e header left unread number time last =
    let same = same_Some _ _ e in
    let width = header_width d r columns (subst (λ x. IsHeader d x columns) (sym same) header) in (
      rows,
      left,
      ap (λ w. filled_after every w 2 r rows) width ∙ ap (λ n. filled_after every (length columns) n r rows) (sym number)
          ∙ ap (λ x. filled_after x (length columns) f.number r rows) (sym time) ∙ ap (λ x. filled_after f.every (length columns) f.number x rows) (same ∙ sym last)
          ∙ ap (λ b. coming b columns f rows) (sym unread),
    )

-- Only the header was read.
pub fresh_sound : (d : Declared) (columns : List ℕ) (f : Filling) → IsPlain f.records → f.from ≡ None → f.is_ahead ≡ false → IsHeader d (fields_of f.last) columns → IsSound columns f
fresh_sound d columns f plain none unread header = record {
  plain = plain;
  last = none ∙ sym (header_moment d (fields_of f.last) columns (length columns) header);
  next = λ read. let bad : false ≡ true = sym unread ∙ read in cc;
  small = λ read. let bad : false ≡ true = sym unread ∙ read in cc;
  good = λ read some. let bad : false ≡ true = sym unread ∙ read in cc;
}
