-- What a read takes of the records that are left.
use Rattle.std.proofs.Common.{◌≡◌, ◌∙◌, sym, refl, ap, ℕ, List, [], ◌∷◌, Bool, true, false, Option, Some, None}
use Rattle.std.specs.Borrow.{Bor}
use Rattle.csv.specs.Machine.{Read, next_record}
use Rattle.csv.specs.Reading.{ReadRecord, Reached, default_config, reader_state}
use Rattle.csv.specs.declared.reader.Reader.{Reader}
use Rattle.csv.specs.declared.parser.State.{State}
use Rattle.csv.proofs.ReadFacts.{rows-end, rows-more}
use Rattle.io_text.specs.Left.{Fields, IsPlain, Left, TakesFirst}

abbrev known : Bor (List ℕ) → Option (List ℕ)
known s = Some s.now

some_same : {A : Type 0} {x y : A} → Some x ≡ Some y → x ≡ y
some_same e = cc

none_some : {A : Type 0} (o : Option A) (x : A) (G : Type 0) → o ≡ None → o ≡ Some x → G
none_some o x G e f = let bad : None ≡ Some x = sym e ∙ f in cc

moved : (s s2 : State) (y y2 : List ℕ) (rows : List Fields) (t : State) (z : List ℕ) → s ≡ s2 → y ≡ y2
    → Reached default_config s y rows t z → Reached default_config s2 y2 rows t z
moved s s2 y y2 rows t z e f h = rw (← e, ← f) h

pub takes_first : (old new : Reader (Bor (List ℕ))) (found : Bool) (fields : Fields) (rows : List Fields) → IsPlain old
    → ReadRecord known old new found fields → Left old rows → TakesFirst rows found fields new
unfolding Reached
takes_first old new false fields [] plain r left = refl
takes_first old new true fields [] plain r (y, src, (s2, ys, reached, ended)) =
    let more = rows-more known old new fields default_config (reader_state old) y y [] plain.2 src (refl, refl) r in
    let here : next_record default_config (reader_state old) [] [] y ≡ None = rw (reached.0, reached.1) ended in
    none_some _ more.2.0 _ here more.2.1
takes_first old new false fields (row ∷ rows) plain r (y, src, (s2, ys, reached, ended)) =
    none_some _ reached.0 _ (rows-end known old new fields default_config y plain.2 src r) reached.1
takes_first old new true fields (row ∷ rows) plain r (y, src, (s2, ys, reached, ended)) =
    let more = rows-more known old new fields default_config (reader_state old) y y [] plain.2 src (refl, refl) r in
    let same : more.2.0 ≡ reached.0 = some_same (sym more.2.1 ∙ reached.1) in
    let state : reached.0.1 ≡ reader_state new = ap (λ (p : Read). p.1) (sym same) ∙ more.2.3.0 in
    let bytes : reached.0.2 ≡ more.0 = ap (λ (p : Read). p.2) (sym same) ∙ more.2.3.1 in
    (refl, more.2.2 ∙ ap (λ (p : Read). p.0) same ∙ sym reached.2, (more.0, more.1, (s2, ys, moved _ _ _ _ rows s2 ys state bytes reached.3, ended)))
