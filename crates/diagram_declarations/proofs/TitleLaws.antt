-- Each name is a title.
use Rattle.std.proofs.Common.{◌≡◌, ℕ, ◌≤◌, true, List, [], ◌∷◌, length, refl, arith}
use Rattle.std.specs.List.{list_all}
use Rattle.std.proofs.lemmas.Bool.Decides.{nat_tests}
use Rattle.std.proofs.lemmas.Bool.{le-leb}
use Rattle.diagram_declarations.specs.Name.{is_name_byte, is_name}
use Rattle.diagram_declarations.specs.Title.{is_title_byte, is_title}

byte_is : (b : ℕ) → is_name_byte b ≡ true → is_title_byte b ≡ true
byte_is b h = grind (arith, nat_tests)

bytes_are : (bs : List ℕ) → list_all is_name_byte bs ≡ true → list_all is_title_byte bs ≡ true
bytes_are [] h = refl
bytes_are (b ∷ bs) h = grind (arith, byte_is, bytes_are bs)

pub name_is_title : (word : List ℕ) → is_name word ≡ true → is_title word ≡ true
name_is_title [] h = absurd cc
name_is_title (b ∷ bs) h =
    let short : length (b ∷ bs) ≤ 11 = grind (arith, nat_tests) in
    let first : is_title_byte b ≡ true = grind (arith, nat_tests) in
    let others : list_all is_title_byte bs ≡ true = grind (arith, bytes_are) in
    rw (first, others, le-leb (length (b ∷ bs)) 32 (omega arith), le-leb 1 (length (b ∷ bs)) (omega arith)) refl
