-- Words: a keyword, a number, an address or a preset is read exactly where the word is one.
use Rattle.std.proofs.Common.{◌≡◌, ℕ, ◌+◌, ◌-◌, ◌*◌, ◌≤◌, suc, true, List, [], ◌∷◌, length, replicate, arith, Bool, false, codes, Some, refl, ◌∙◌, find, ◌⊎◌, inl, inr, ◌==◌, ◌++◌, take, drop, Option, None, ap}
use Rattle.std.proofs.lemmas.Bool.Decides.{nat_tests}
use Rattle.std.specs.List.{list_all, prefix_len}
use Rattle.std.specs.Char.{is_ascii_digit, to_ascii_uppercase}
use Rattle.std.specs.Str.{str_to_ascii_lowercase}
use Rattle.std.proofs.lemmas.Cmp.{nat_list_eq_equiv}
use Rattle.std.proofs.lemmas.List.{take-append-drop}
use Rattle.std.proofs.Math.Seq.{take-append_seam, drop-append_seam}
use Rattle.diagram_declarations.specs.declared.kind.BlockKind.{BlockKind}
use Rattle.diagram_declarations.specs.declared.kind.BlockKind.TheVariants as block_kind
use Rattle.diagram_declarations.specs.declared.decls.VarKind.{VarKind}
use Rattle.diagram_declarations.specs.declared.kind.Parameter.{Parameter}
use Rattle.diagram_declarations.specs.declared.kind.Parameter.TheVariants as parameter
use Rattle.diagram_declarations.specs.declared.decls.Address.{Address}
use Rattle.diagram_declarations.specs.Duration.{number_of}
use Rattle.diagram_declarations.specs.ReadTimes.{value_from}
use Rattle.diagram_declarations.specs.Name.{same_letters}
use Rattle.diagram_declarations.specs.Kind.{traits_of}
use Rattle.diagram_declarations.specs.Grammar.{Is, IsNumber, IsSecond, IsAddress}
use Rattle.diagram_declarations.specs.ReadWords.{all_kinds, block_of, kind_of, IsValue, short_number, after_size, second_of, numbers_of, address_of, value_of}
use Rattle.diagram_declarations.specs.Text.{begins}
use Rattle.diagram_declarations.proofs.PartLaws.{same_bytes}
use Rattle.diagram_declarations.proofs.Runs.{prefix_len-run}
use Rattle.diagram_declarations.proofs.TimeLaws.{time_reads, time_takes}

value_from-le : (n m : ℕ) (bs : List ℕ) → list_all is_ascii_digit bs ≡ true → n ≤ m → value_from n bs ≤ value_from m (replicate (length bs) 57)
value_from-le n m [] h le = le
value_from-le n m (b ∷ bs) h le = grind (arith, nat_tests, value_from-le (n * 10 + (b - 48)) (m * 10 + 9) bs)

nines-le : (k : ℕ) → k ≤ 5 → value_from 0 (replicate k 57) ≤ 99999
nines-le (suc (suc (suc (suc (suc (suc k)))))) h = absurd (omega arith)
nines-le k h = omega arith

-- five digits spell at most 99999
pub number_of_short : (word : List ℕ) → length word ≤ 5 → list_all is_ascii_digit word ≡ true → number_of word ≤ 99999
number_of_short word few h = omega (arith, value_from-le 0 0 word h (omega arith), nines-le (length word) few)

-- a token that is one word is another where the words are
pub alike : (word other token : List ℕ) → Is word token → same_letters token other ≡ same_letters word other
alike word other token h =
    nat_list_eq_equiv.congr (str_to_ascii_lowercase token) (str_to_ascii_lowercase word) (str_to_ascii_lowercase other) h

block_lower : (w : List ℕ) (kind : BlockKind) → str_to_ascii_lowercase w ≡ str_to_ascii_lowercase (traits_of kind).word → block_of w ≡ Some kind
block_lower w block_kind.Ton e = rw e refl
block_lower w other e = rw e refl

pub block_reads : (w : List ℕ) (kind : BlockKind) → Is (traits_of kind).word w → block_of w ≡ Some kind
block_reads w kind h = block_lower w kind (same_bytes (str_to_ascii_lowercase w) (str_to_ascii_lowercase (traits_of kind).word) h)

find_passes : {X : Type 0} (p : X → Bool) (xs : List X) (x : X) → find p xs ≡ Some x → p x ≡ true
find_passes p [] x h = absurd cc
find_passes p (y ∷ ys) x h = grind (arith, find_passes p ys)

pub block_takes : (w : List ℕ) (kind : BlockKind) → block_of w ≡ Some kind → Is (traits_of kind).word w
block_takes w kind h = find_passes (λ k. same_letters w (traits_of k).word) all_kinds kind h

-- a block's name isn't BOOL
no_bool : (kind : BlockKind) → same_letters (traits_of kind).word (codes "BOOL") ≡ false
no_bool block_kind.Ton = refl
no_bool other = refl

pub block_of-other : (word : List ℕ) (kind : BlockKind) → block_of word ≡ Some kind → same_letters word (codes "BOOL") ≡ false
block_of-other word kind h = alike (traits_of kind).word (codes "BOOL") word (block_takes word kind h) ∙ no_bool kind

-- ---- numbers

number_reads : (word : List ℕ) (n : ℕ) → IsNumber word n → short_number word ≡ Some n
number_reads word n h = grind (arith, nat_tests)

number_takes : (word : List ℕ) (n : ℕ) → short_number word ≡ Some n → IsNumber word n
number_takes word n h = grind (arith, nat_tests)

-- ---- addresses

x_alone : (size : List ℕ) → Is (codes "X") size → (x : ℕ) × (size ≡ x ∷ []) × (to_ascii_uppercase x ≡ 88)
x_alone (x ∷ []) h = (x, refl, grind (arith, nat_tests))
x_alone other h = grind arith

after_size-size : (size first second : List ℕ) → (size ≡ []) ⊎ Is (codes "X") size → 1 ≤ length first → list_all is_ascii_digit first ≡ true
    → after_size (size ++ (first ++ second)) ≡ first ++ second
after_size-size size [] second is_size some digits = absurd (omega arith)
after_size-size size (d ∷ ds) second (inl none) some digits = rw none (grind (arith, nat_tests))
after_size-size size (d ∷ ds) second (inr x) some digits = let one = x_alone size x in rw one.1 (grind arith)

after_size_is : (text : List ℕ) → (size : List ℕ) × (text ≡ size ++ after_size text) × ((size ≡ []) ⊎ Is (codes "X") size)
after_size_is [] = ([], refl, inl refl)
after_size_is (b ∷ bs) =
    elim (to_ascii_uppercase b == 88) as (λ t. (to_ascii_uppercase b == 88) ≡ t → (size : List ℕ) × (b ∷ bs ≡ size ++ after_size (b ∷ bs)) × ((size ≡ []) ⊎ Is (codes "X") size)) [
      | true ↦ λ e. (b ∷ [], grind arith, inr (grind (arith, nat_tests)))
      | false ↦ λ e. ([], grind arith, inl refl)
    ] refl

second_reads : (text : List ℕ) (o : Option ℕ) → IsSecond text o → second_of text ≡ Some o
second_reads text None h = rw h refl
second_reads text (Some n) h = grind (arith, nat_tests, number_reads)

second_takes : (text : List ℕ) (o : Option ℕ) → second_of text ≡ Some o → IsSecond text o
second_takes [] o h = grind (arith, nat_tests)
second_takes (b ∷ bs) o h = grind (arith, nat_tests, number_takes)

no_digit : (second : List ℕ) (o : Option ℕ) → IsSecond second o → begins is_ascii_digit second ≡ false
no_digit second None h = rw h refl
no_digit second (Some n) h = grind arith

numbers_read : (first second : List ℕ) (n : ℕ) (o : Option ℕ) → IsNumber first n → IsSecond second o → numbers_of (first ++ second) ≡ Some (n, o)
unfolding numbers_of
numbers_read first second n o h s = grind (arith, prefix_len-run, no_digit, take-append_seam, drop-append_seam, number_reads, second_reads)

pub address_reads : (word : List ℕ) (kind : VarKind) (a : Address) → IsAddress word kind a → address_of word ≡ Some (kind, a)
address_reads word kind a (letter, size, first, second, spelled, capital, kind_of_letter, is_size, is_first, is_second) =
    let rest : after_size (size ++ (first ++ second)) ≡ first ++ second = after_size-size size first second is_size is_first.0 is_first.2 in
    let numbers : numbers_of (after_size (size ++ (first ++ second))) ≡ Some (a.first, a.second)
    = ap numbers_of rest ∙ numbers_read first second a.first a.second is_first is_second in
    grind arith

pub address_takes : (word : List ℕ) (kind : VarKind) (a : Address) → address_of word ≡ Some (kind, a) → IsAddress word kind a
unfolding numbers_of
address_takes [] kind a h = absurd cc
address_takes (b ∷ []) kind a h = absurd cc
address_takes (percent ∷ letter ∷ text) kind a h =
    let size = after_size_is text in
    let rest : List ℕ = after_size text in
    let k : ℕ = prefix_len is_ascii_digit rest in
    let spelled : percent ∷ letter ∷ text ≡ 37 ∷ letter ∷ (size.0 ++ (take k rest ++ drop k rest))
    = rw (take-append-drop k rest) (let same = size.1 in grind (arith, nat_tests)) in
    let capital : a.letter ≡ to_ascii_uppercase letter = grind arith in
    let place : kind_of (to_ascii_uppercase letter) ≡ Some kind = grind arith in
    let first : short_number (take k rest) ≡ Some a.first = grind arith in
    let second : second_of (drop k rest) ≡ Some a.second = grind arith in
    (letter, size.0, take k rest, drop k rest, spelled, capital, rw capital place, size.2, number_takes _ _ first, second_takes _ _ second)

-- ---- presets

pub value_reads : (form : Parameter) (word : List ℕ) (n : ℕ) → IsValue form word n → value_of form word ≡ Some n
value_reads parameter.Time word n h = time_reads word n h
value_reads parameter.Count word n h = grind (arith, nat_tests, number_reads)

pub value_takes : (form : Parameter) (word : List ℕ) (n : ℕ) → value_of form word ≡ Some n → IsValue form word n
value_takes parameter.Time word n h = time_takes word n h
value_takes parameter.Count word n h = grind (arith, nat_tests, number_takes)
