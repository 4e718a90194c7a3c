-- Memories that belong together are found by the owner and the rank.
use Rattle.std.proofs.Common.{◌≡◌, ◌∙◌, ◌↔◌, ◌<◌, ℕ, List, Option, None, Some, ap, get_or, length, refl, slice_get, subst, sym}
use Rattle.std.proofs.lemmas.Option.{slice_get-get_or}
use Rattle.diagram_declarations.specs.Decls.{Declared}
use Rattle.diagram_program.specs.Program.{Drawing}
use Rattle.diff_matching.specs.declared.owner.Owner.{Owner}
use Rattle.diff_matching.specs.Names.{AreOneMemory, AreOneOwner, IsRanked, owners_of, rank}

pub memory_found : (p q : Drawing) (number : ℕ) (o r : Owner) (found : Option ℕ) → slice_get (owners_of p) number ≡ Some (Some o)
    → ((other : Owner) → ((◌≡◌ {A = Option Owner} (Some r) (Some other)) ↔ AreOneOwner p.decls q.decls o other))
    → ((n : ℕ) → ((found ≡ Some n) ↔ IsRanked (owners_of q) r (rank (owners_of p) o number) n))
    → (n : ℕ) → ((found ≡ Some n) ↔ AreOneMemory p q (record { old = number; new = n }))
memory_found p q number o r found is one ranked n = (
  λ e. record {
    of_old = o;
    of_new = r;
    before = rank (owners_of p) o number;
    owners = (one r).0 refl;
    old = (is, refl);
    new = (ranked n).0 e;
  },
  λ h.
      let same : h.of_old ≡ o = let both = sym h.old.0 ∙ is in cc in
      let there = (one h.of_new).1 (subst (λ x. AreOneOwner p.decls q.decls x h.of_new) same h.owners) in
      let other : h.of_new ≡ r = cc in
      let before : h.before ≡ rank (owners_of p) o number = sym h.old.1 ∙ ap (λ x. rank (owners_of p) x number) same in
      (ranked n).1 (subst (λ x. IsRanked (owners_of q) r x n) before (subst (λ x. IsRanked (owners_of q) x h.before n) other h.new)),
)

abbrev FindsOwner : Declared → Declared → Owner → Owner → Type 0
FindsOwner d e o r = (other : Owner) → ((◌≡◌ {A = Option Owner} (Some r) (Some other)) ↔ AreOneOwner d e o other)

abbrev FindsRanked : Option ℕ → List (Option Owner) → Owner → ℕ → Type 0
FindsRanked found news r before = (n : ℕ) → ((found ≡ Some n) ↔ IsRanked news r before n)

-- the same, as the code has it
pub memory_in : (p q : Drawing) (d e : Declared) (olds news : List (Option Owner)) (number before : ℕ) (o r : Owner) (found : Option ℕ) → olds ≡ owners_of p → news ≡ owners_of q
    → d ≡ p.decls → e ≡ q.decls → before ≡ rank olds o number → number < length olds → get_or olds number None ≡ Some o → FindsOwner d e o r → FindsRanked found news r before
    → (n : ℕ) → ((found ≡ Some n) ↔ AreOneMemory p q (record { old = number; new = n }))
memory_in p q d e olds news number before o r found olds_are news_are old_decls new_decls ranks short is one ranked =
    let at : slice_get (owners_of p) number ≡ Some (Some o) = subst (λ xs. slice_get xs number ≡ Some (Some o)) olds_are (slice_get-get_or olds number None short ∙ ap (λ x. Some x) is) in
    let count : before ≡ rank (owners_of p) o number = ranks ∙ ap (λ xs. rank xs o number) olds_are in
    memory_found p q number o r found at (subst (λ x. FindsOwner x q.decls o r) old_decls (subst (λ x. FindsOwner d x o r) new_decls one))
    (subst (λ x. FindsRanked found (owners_of q) r x) count (subst (λ xs. FindsRanked found xs r before) news_are ranked))
