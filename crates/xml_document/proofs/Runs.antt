-- Bytes side by side.
use Rattle.std.proofs.Common.{◌≡◌, ℕ, ◌-◌, ◌≤◌, Bool, true, false, nat_eq, List, [], ◌∷◌, ◌++◌, length, take, drop, refl, sym, ap, ◌∙◌, subst, arith, append_assoc, length-append}
use Rattle.std.specs.List.{list_all, starts_with}
use Rattle.std.proofs.lemmas.List.{take-append-drop, take_all, length-drop}
use Rattle.std.proofs.lemmas.Bool.{and_parts}
use Rattle.std.proofs.lemmas.Slice.Eq.{bytes_eq-Decides}
use Rattle.xml_document.specs.Characters.{Run, Passes, nothing, one_more, UpTo}

-- what is before the rest of a text
pub front : (text run rest : List ℕ) → text ≡ run ++ rest → take (length text - length rest) text ≡ run
front text run rest e =
    let n : length text - length rest ≡ length run = omega (arith, ap length e, length-append run rest) in
    rw n (ap (take (length run)) e ∙ taken run rest)
  where
    taken : (run rest : List ℕ) → take (length run) (run ++ rest) ≡ run
    taken [] rest = refl
    taken (b ∷ bs) rest = ap (λ xs. b ∷ xs) (taken bs rest)

pub record SomeRun (test : ℕ → Bool) (text rest : List ℕ) : Type 0 where
  pub run : List ℕ
  pub is : Run test text rest run

pub no_run : (test : ℕ → Bool) (text : List ℕ) → SomeRun test text text
no_run test text = record { run = []; is = record { whole = refl; passes = refl } }

all-append : (test : ℕ → Bool) (xs : List ℕ) (b : ℕ) → list_all test xs ≡ true → test b ≡ true → list_all test (xs ++ b ∷ []) ≡ true
all-append test [] b all h = rw h refl
all-append test (x ∷ xs) b all h =
    let both = and_parts (test x) (list_all test xs) all in
    rw both.0 (all-append test xs b both.1 h)

pub longer_run : (test : ℕ → Bool) (text rest after : List ℕ) (b : ℕ) → SomeRun test text rest → rest ≡ b ∷ after → test b ≡ true → SomeRun test text after
longer_run test text rest after b r e h = record {
  run = r.run ++ b ∷ [];
  is = record {
    whole = r.is.whole ∙ ap (λ t. r.run ++ t) e ∙ sym (append_assoc r.run (b ∷ []) after);
    passes = all-append test r.run b r.is.passes h;
  };
}

pub run_front : (test : ℕ → Bool) (text rest : List ℕ) → SomeRun test text rest → Run test text rest (take (length text - length rest) text)
run_front test text rest r = rw (front text r.run rest r.is.whole) r.is

-- the same of bytes at which no mark begins
pub record SomePasses (mark text rest : List ℕ) : Type 0 where
  pub inside : List ℕ
  pub are : Passes mark text rest inside

pub passes_whole : (mark text rest inside : List ℕ) → Passes mark text rest inside → text ≡ inside ++ rest
passes_whole mark _ _ _ (nothing text) = refl
passes_whole mark _ _ _ (one_more text rest inside b p h) = passes_whole mark text (b ∷ rest) inside p ∙ sym (append_assoc inside (b ∷ []) rest)

pub nothing_passes : (mark text : List ℕ) → SomePasses mark text text
nothing_passes mark text = record { inside = []; are = nothing text }

pub one_passes : (mark text rest after : List ℕ) (b : ℕ) → SomePasses mark text rest → rest ≡ b ∷ after → starts_with nat_eq rest mark ≡ false
    → SomePasses mark text after
one_passes mark text rest after b p e h = record {
  inside = p.inside ++ b ∷ [];
  are = one_more text after p.inside b (subst (λ t. Passes mark text t p.inside) e p.are) (subst (λ t. starts_with nat_eq t mark ≡ false) e h);
}

pub up_to : (mark text rest after : List ℕ) → SomePasses mark text rest → rest ≡ mark ++ after → UpTo mark text after (take (length text - length rest) text)
up_to mark text rest after p e =
    rw (front text p.inside rest (passes_whole mark text rest p.inside p.are)) (subst (λ t. Passes mark text t p.inside) e p.are)

-- what is behind a mark that a text begins with
pub marked : (text mark : List ℕ) → starts_with nat_eq text mark ≡ true → text ≡ mark ++ take (length text - length mark) (drop (length mark) text)
marked text mark h =
    let same : mark ≡ take (length mark) text = (bytes_eq-Decides mark (take (length mark) text)).0 h in
    let rest : take (length text - length mark) (drop (length mark) text) ≡ drop (length mark) text =
    take_all _ (drop (length mark) text) (omega (arith, length-drop (length mark) text)) in
    rw rest (sym (take-append-drop (length mark) text) ∙ ap (λ t. t ++ drop (length mark) text) (sym same))

-- the bytes behind a part of a text that is left
pub within : (text front rest : List ℕ) → text ≡ front ++ rest → length rest ≤ length text
within text front rest e = omega (arith, ap length e, length-append front rest)

pub passes_within : (mark text rest : List ℕ) → SomePasses mark text rest → length rest ≤ length text
passes_within mark text rest p = within text p.inside rest (passes_whole mark text rest p.inside p.are)
