-- The records of a text are one list: the relation of `csv` and its function agree.
use Rattle.std.proofs.Common.{◌≡◌, ◌<◌, ◌+◌, ◌∙◌, ◌⊎◌, inl, inr, sym, refl, ap, ap₂, subst, arith, ℕ, zero, suc, List, [], ◌∷◌, ◌++◌, Bool, true, false, cond, Option, Some, None, length}
use Rattle.std.proofs.lemmas.Bool.{cases_Bool}
use Rattle.csv.specs.Machine.{Read, ends_at_end, field_after, fields_after, is_end, next_record, step}
use Rattle.csv.specs.Reading.{AreRecords, Reached, default_config, records_from, records_next, strip_bom}
use Rattle.csv.specs.declared.parser.Config.{Config}
use Rattle.csv.specs.declared.parser.State.{State}
use Rattle.csv.specs.declared.parser.State.TheVariants as st
use Rattle.io_text.specs.Left.{AreRecordsOf, Fields}
use Rattle.io_text.specs.Text.{records_of}

some_same : {A : Type 0} {x y : A} → Some x ≡ Some y → x ≡ y
some_same e = cc

none_some : {A : Type 0} (o : Option A) (x : A) (G : Type 0) → o ≡ None → o ≡ Some x → G
none_some o x G e f = let bad : None ≡ Some x = sym e ∙ f in cc

-- a record takes a byte, or the text has ended
abbrev Takes : List ℕ → State → List ℕ → Type 0
Takes xs s ys = (length ys < length xs) ⊎ ((s ≡ st.StartRecord) × (ys ≡ []))

at_end : (b : Bool) (fs : Fields) (f : List ℕ) (p : Read) → ◌≡◌ {A = Option Read} (cond b (Some (fs ++ (f ∷ []), st.StartRecord, [])) None) (Some p)
    → (p.1 ≡ st.StartRecord) × (p.2 ≡ [])
at_end true fs f p e = let q = some_same e in (sym (ap (λ (r : Read). r.1) q), sym (ap (λ (r : Read). r.2) q))
at_end false fs f p e = cc e

takes_more : (c : ℕ) (rest : List ℕ) (s : State) (ys : List ℕ) → Takes rest s ys → Takes (c ∷ rest) s ys
takes_more c rest s ys (inl h) = inl (omega arith)
takes_more c rest s ys (inr h) = inr h

pub takes : (cfg : Config) (s : State) (fs : Fields) (f xs : List ℕ) (p : Read) → next_record cfg s fs f xs ≡ Some p → Takes xs p.1 p.2
unfolding next_record
takes cfg s fs f [] p e = inr (at_end (ends_at_end s) fs f p e)
takes cfg s fs f (c ∷ rest) p e = elim (cases_Bool (is_end (step cfg s c).1)) [
  | inl end ↦
      let q = some_same (rw end at e) in
      let bytes : rest ≡ p.2 = ap (λ (r : Read). r.2) q in
      inl (omega (arith, ap length bytes))
  | inr go ↦
      takes_more c rest p.1 p.2 (takes cfg (step cfg s c).0 (fields_after (step cfg s c).1 fs f) (field_after (step cfg s c).1 c f) rest p (rw go at e))
]

-- nothing is left of an ended text
pub none_left : (cfg : Config) (n : ℕ) → records_from cfg n st.StartRecord [] ≡ []
unfolding records_from next_record
none_left cfg zero = refl
none_left cfg (suc n) = refl

ended : (cfg : Config) (n : ℕ) (s : State) (ys : List ℕ) → s ≡ st.StartRecord → ys ≡ [] → AreRecords cfg s ys (records_from cfg n s ys)
unfolding Reached next_record
ended cfg n s ys e f = rw (e, f, none_left cfg n) (st.StartRecord, [], (refl, refl), refl)

-- what one turn of the function gives, if the turns after it give all records
abbrev Holds : Config → ℕ → Type 0
Holds cfg n = (s : State) (xs : List ℕ) → length xs < n → AreRecords cfg s xs (records_from cfg n s xs)

rest_records : (cfg : Config) (n : ℕ) (s : State) (xs ys : List ℕ) → Holds cfg n → Takes xs s ys → length xs < suc n → AreRecords cfg s ys (records_from cfg n s ys)
rest_records cfg n s xs ys more (inl t) h = more s ys (omega arith)
rest_records cfg n s xs ys more (inr t) h = ended cfg n s ys t.0 t.1

next_records : (cfg : Config) (n : ℕ) (s : State) (xs : List ℕ) (o : Option Read) → Holds cfg n → next_record cfg s [] [] xs ≡ o → length xs < suc n
    → AreRecords cfg s xs (records_next (records_from cfg n) o)
unfolding Reached
next_records cfg n s xs None more e h = (s, xs, (refl, refl), e)
next_records cfg n s xs (Some p) more e h =
    let r = rest_records cfg n p.1 xs p.2 more (takes cfg s [] [] xs p e) h in
    (r.0, r.1, (p, e, refl, r.2), r.3)

-- with a turn for each byte and one more, all records
pub all_records : (cfg : Config) (n : ℕ) → Holds cfg n
unfolding records_from
all_records cfg zero = λ s xs h. absurd (omega (arith, h))
all_records cfg (suc n) = λ s xs h. next_records cfg n s xs (next_record cfg s [] [] xs) (all_records cfg n) refl h

-- the function of `csv` gives the records of a text
pub are_records_of : (text : List ℕ) → AreRecordsOf text (records_of text)
are_records_of text = all_records default_config (length (strip_bom text) + 1) st.StartRecord (strip_bom text) (omega arith)

-- and there is no other list of them
pub same_records : (cfg : Config) (s : State) (xs : List ℕ) (ps bs : List Fields) → AreRecords cfg s xs ps → AreRecords cfg s xs bs → ps ≡ bs
unfolding Reached
same_records cfg s xs [] [] a b = refl
same_records cfg s xs [] (r ∷ bs) (s2, ys, reached, ends) (s3, zs, there, end) = none_some _ there.0 _ (rw (reached.0, reached.1) ends) there.1
same_records cfg s xs (r ∷ ps) [] (s3, zs, there, end) (s2, ys, reached, ends) = none_some _ there.0 _ (rw (reached.0, reached.1) ends) there.1
same_records cfg s xs (q ∷ ps) (r ∷ bs) (s2, ys, a, a_end) (s3, zs, b, b_end) =
    let same : a.0 ≡ b.0 = some_same (sym a.1 ∙ b.1) in
    let rest : AreRecords cfg a.0.1 a.0.2 bs = subst (λ (p : Read). AreRecords cfg p.1 p.2 bs) (sym same) (s3, zs, b.3, b_end) in
    ap₂ (λ (f : List (List ℕ)) (fs : List Fields). f ∷ fs) (a.2 ∙ ap (λ (p : Read). p.0) same ∙ sym b.2)
    (same_records cfg a.0.1 a.0.2 ps bs (s2, ys, a.3, a_end) rest)

pub is_records_of : (text : List ℕ) (rows : List Fields) → AreRecordsOf text rows → records_of text ≡ rows
is_records_of text rows h = same_records default_config st.StartRecord (strip_bom text) (records_of text) rows (are_records_of text) h
