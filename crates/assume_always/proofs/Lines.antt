-- Lines that are written one after the other, and numbers that are told.
use Rattle.std.proofs.Common.{◌≡◌, ◌∙◌, ap, refl, subst, sym, ℕ, ◌+◌, Bool, true, false, List, [], ◌∷◌, ◌++◌, append-nil, append_assoc, Result, Ok, Err}
use Rattle.std.specs.Prelude.{IsFalse, IsTrue, flat_map}
use Rattle.io_text.specs.Log.{Puts, PutsAll, PutsPrefix, WriteLog}
use Rattle.io_text.proofs.Puts.{prefix_after, puts_more, puts_none}
use Rattle.diagram_declarations.specs.Decls.{Declared}
use Rattle.assume_always.specs.Always.{AreAlwaysTrue, IsTold, always_line}

-- a line that is cut off before others
pub line_cut : (a b : WriteLog) (numbers behind : List ℕ) (number : ℕ) → numbers ≡ number ∷ behind → PutsPrefix a b (always_line number)
    → PutsPrefix a b (flat_map always_line numbers)
line_cut a b numbers behind number is p =
    subst (λ (ns : List ℕ). PutsPrefix a b (flat_map always_line ns)) (sym is)
    (prefix_after a a b (always_line number ++ flat_map always_line behind) [] (always_line number) (flat_map always_line behind) refl (puts_none a) p)

-- lines after another one
pub lines_next : {T E : Type 0} (a b c : WriteLog) (numbers behind : List ℕ) (number : ℕ) (r : Result T E) → numbers ≡ number ∷ behind
    → PutsAll a b (always_line number) → Puts b c r (flat_map always_line behind) → Puts a c r (flat_map always_line numbers)
lines_next a b c numbers behind number (Ok x) is p q =
    subst (λ (ns : List ℕ). PutsAll a c (flat_map always_line ns)) (sym is) (puts_more a b c (always_line number) (flat_map always_line behind) p q)
lines_next a b c numbers behind number (Err x) is p q =
    let xs = always_line number in
    let ys = flat_map always_line behind in
    subst (λ (ns : List ℕ). PutsPrefix a c (flat_map always_line ns)) (sym is) (prefix_after a b c (xs ++ ys) xs ys [] (sym (append-nil (xs ++ ys))) p q)

-- The numbers of further texts, behind that of one that is told, or isn't.
pub told_next : (decls : Declared) (number : ℕ) (text : List ℕ) (texts behind : List (List ℕ)) (old between new : List ℕ) (is_told : Bool) → texts ≡ text ∷ behind
    → (IsTrue is_told → (n : ℕ) (more : List ℕ) → IsTold decls n text more (n ∷ more)) → (IsFalse is_told → (n : ℕ) (more : List ℕ) → IsTold decls n text more more)
    → (IsTrue is_told → between ≡ old ++ number ∷ []) → (IsFalse is_told → between ≡ old)
    → (more : List ℕ) × AreAlwaysTrue decls (number + 1) behind more × (new ≡ between ++ more)
    → (more : List ℕ) × AreAlwaysTrue decls number texts more × (new ≡ old ++ more)
told_next decls number text texts behind old between new true is always other told same (more, are, news) = (
  number ∷ more,
  subst (λ (ts : List (List ℕ)). AreAlwaysTrue decls number ts (number ∷ more)) (sym is) (more, are, always refl number more),
  news ∙ ap (λ xs. xs ++ more) (told refl) ∙ append_assoc old (number ∷ []) more,
)
told_next decls number text texts behind old between new false is always other told same (more, are, news) =
    (more, subst (λ (ts : List (List ℕ)). AreAlwaysTrue decls number ts more) (sym is) (more, are, other refl number more), news ∙ ap (λ xs. xs ++ more) (same refl))
