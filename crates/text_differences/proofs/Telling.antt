-- What was written of a list that tells how far it is, as more of its text is written or waits.
use Rattle.std.proofs.Common.{◌≡◌, ◌∙◌, ℕ, List, [], ◌∷◌, ◌++◌, append_assoc, append-nil, sym, refl, ap, subst}
use Rattle.io_text.specs.Buffer.{SendsAll}
use Rattle.io_text.specs.Log.{PutsAll, PutsPrefix, WriteLog}
use Rattle.io_text.proofs.Puts.{puts_more}
use Rattle.io_text.proofs.Sending.{flush_all, sends_more, sends_none, sends_prefix}
use Rattle.text_causes.specs.Progress.{BreaksAfter}
use Rattle.text_causes.specs.Telling.{IsBase, Telling}

-- what was sent since the last line, or from the start
since_broken : (text_to : ℕ → List ℕ) (told : List ℕ) (old base b : WriteLog) (before left whole : List ℕ) → IsBase text_to told old base before → whole ≡ before ++ left
    → PutsPrefix base b left → BreaksAfter told text_to whole old b
since_broken text_to [] old base b before left whole first is p =
    let same : left ≡ whole = sym (is ∙ ap (λ xs. xs ++ left) first.1) in
    subst (λ xs. PutsPrefix old b xs) same (subst (λ (a : WriteLog). PutsPrefix a b left) first.0 p)
since_broken text_to (n ∷ told) old base b before left whole first is p = (base, left, is ∙ ap (λ xs. xs ++ left) first.1, first.0, p)

since_all : (text_to : ℕ → List ℕ) (told : List ℕ) (old base b : WriteLog) (before since : List ℕ) → IsBase text_to told old base before → PutsAll base b since
    → PutsAll old b (before ++ since)
since_all text_to [] old base b before since first p =
    let same : since ≡ before ++ since = sym (ap (λ xs. xs ++ since) first.1) in
    subst (λ xs. PutsAll old b xs) same (subst (λ (a : WriteLog). PutsAll a b since) first.0 p)
since_all text_to (n ∷ told) old base b before since first p =
    subst (λ xs. PutsAll old b (xs ++ since)) (sym first.1) (puts_more old base b (text_to n) since first.0 p)

-- the first text, before any line
pub told_none : (text_to : ℕ → List ℕ) (old new : WriteLog) (waits text : List ℕ) → SendsAll old new [] waits text → Telling text_to [] old new waits text
told_none text_to old new waits text sent = record { base = old; before = []; since = text; first = (refl, refl); sent = sent; all = refl }

module _ (text_to : ℕ → List ℕ) (told : List ℕ) (old a b : WriteLog) (waits written : List ℕ) (t : Telling text_to told old a waits written) where
  pub told_more : (w1 more : List ℕ) → SendsAll a b waits w1 more → Telling text_to told old b w1 (written ++ more)
  told_more w1 more s = record {
    base = t.base;
    before = t.before;
    since = t.since ++ more;
    first = t.first;
    sent = sends_more t.base a b [] waits w1 t.since more t.sent s;
    all = ap (λ xs. xs ++ more) t.all ∙ append_assoc t.before t.since more;
  }

  -- what comes next could not be written
  pub told_breaks : (next after whole : List ℕ) → whole ≡ written ++ (next ++ after) → PutsPrefix a b (waits ++ next) → BreaksAfter told text_to whole old b
  told_breaks next after whole is p =
      since_broken text_to told old t.base b t.before (t.since ++ (next ++ after)) whole t.first
      (is ∙ ap (λ xs. xs ++ (next ++ after)) t.all ∙ append_assoc t.before t.since (next ++ after))
      (sends_prefix t.base a b [] waits (t.since ++ (next ++ after)) t.since next after refl t.sent p)

  -- what waits could not be written
  pub told_stops : (after whole : List ℕ) → whole ≡ written ++ after → PutsPrefix a b waits → BreaksAfter told text_to whole old b
  told_stops after whole is p = told_breaks [] after whole is (subst (λ xs. PutsPrefix a b xs) (sym (append-nil waits)) p)

  -- what waited is written
  pub told_flushed : PutsAll a b waits → PutsAll old b written
  told_flushed p = subst (λ xs. PutsAll old b xs) (sym t.all) (since_all text_to told old t.base b t.before t.since t.first (flush_all t.base a b waits t.since t.sent p))

-- a line more
pub told_anew : (text_to : ℕ → List ℕ) (told : List ℕ) (n : ℕ) (old b : WriteLog) (written : List ℕ) → PutsAll old b written → written ≡ text_to n
    → Telling text_to (n ∷ told) old b [] written
told_anew text_to told n old b written p is = record {
  base = b;
  before = text_to n;
  since = [];
  first = (subst (λ xs. PutsAll old b xs) is p, refl);
  sent = sends_none b [];
  all = is ∙ sym (append-nil (text_to n));
}
