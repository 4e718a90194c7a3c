-- What is read of a list.
use Rattle.std.proofs.Common.{◌≡◌, ◌<◌, ℕ, true, false, ap, List, [], Option, Some, None, length, map, get_or, slice_get, refl, sym, subst, nat_lt, is_some, option_map}
use Rattle.std.specs.Borrow.{Bor}
use Rattle.std.specs.Option.{IfSome}
use Rattle.std.proofs.lemmas.Bool.{ltb-true, ltb-false}
use Rattle.std.proofs.lemmas.List.{get_or-map, get_or_default}
use Rattle.std.proofs.lemmas.Option.{slice_get_read, slice_get_past}
use Rattle.diagram_page.specs.Lines.{part_in}
use Rattle.diagram_page.specs.Picture.{line_at}
use Rattle.diagram_page.specs.declared.lines.Part.{Part}

pub found : {A : Type 0} (xs ys : List A) (i : ℕ) (x : A) → ys ≡ xs → true ≡ nat_lt i (length ys) → x ≡ get_or ys i x → slice_get xs i ≡ Some x
found {A} xs ys i x e within is =
    subst (λ (l : List A). slice_get l i ≡ Some x) e (slice_get_read ys (length ys) i x refl (ltb-true i (length ys) (sym within)) is)

pub missed : {A : Type 0} (xs ys : List A) (i : ℕ) → ys ≡ xs → false ≡ nat_lt i (length ys) → slice_get xs i ≡ None
missed {A} xs ys i e past = subst (λ (l : List A). slice_get l i ≡ None) e (slice_get_past ys i (ltb-false i (length ys) (sym past)))

pub got : {A : Type 0} (xs ys : List A) (i : ℕ) (r : Option (Bor A)) → ys ≡ xs → is_some r ≡ nat_lt i (length ys)
    → IfSome r (λ x. x.now ≡ get_or ys i x.now) → option_map (λ x. x.now) r ≡ slice_get xs i
got xs ys i (Some x) e within is = sym (found xs ys i x.now e within is)
got xs ys i None e past is = sym (missed xs ys i e past)

-- What is read at a place within a list.

pub line_read : (lines : List (Bor (List ℕ))) (n : ℕ) (d : Bor (List ℕ)) → n < length lines → (get_or lines n d).now ≡ line_at (map (λ l. l.now) lines) n
line_read lines n d within = sym (get_or-map (λ (l : Bor (List ℕ)). l.now) lines n d [] within)

pub start_read : (parts : List Part) (k : ℕ) (d : Part) → k < length parts → (get_or parts k d).start ≡ (part_in parts k).start
start_read parts k d within = ap (λ (p : Part). p.start) (get_or_default parts k d _ within)
