-- The name of a witness that is one of the list.
use Rattle.std.proofs.Common.{◌≡◌, ◌∙◌, ◌++◌, ◌<◌, ◌≤◌, ℕ, List, Some, ap, arith, length, length-take, slice_get, sym, take}
use Rattle.std.proofs.lemmas.List.Sums.{count_by-le-length}
use Rattle.diff_meaning.specs.declared.witness.Witness.{Witness}
use Rattle.cli_witnesses.specs.Naming.{again, earlier, file_name, have_one_name, name_at, row_mark, row_name}
use Rattle.cli_witnesses.specs.Witnessed.{Witnessed}

pub named : (j : Witnessed) (number : ℕ) (w : Witness) (before : ℕ) (name : List ℕ) → slice_get j.witnesses number ≡ Some w → before ≡ earlier j w number
    → name ≡ row_name j.old j.new w ++ (row_mark w ++ again before) → name ≡ file_name j number
named j number w before name at count is =
    is ∙ ap (λ k. row_name j.old j.new w ++ (row_mark w ++ again k)) count ∙ sym (ap (name_at j number) at)

pub few_before : (j : Witnessed) (w : Witness) (number : ℕ) → number < length j.witnesses → earlier j w number ≤ number
few_before j w number within =
    let few = count_by-le-length (have_one_name j.old j.new w) (take number j.witnesses) in
    let long = length-take number j.witnesses in
    omega (arith, few, long, within)
