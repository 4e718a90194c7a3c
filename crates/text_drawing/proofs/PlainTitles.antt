-- Titles have no character that HTML escapes.
use Rattle.std.proofs.Common.{◌≡◌, ◌∙◌, ◌==◌, nat_le, ◌++◌, ◌∷◌, ◌≤◌, ◌<◌, [], ℕ, Bool, true, false, List, zero, suc, refl, sym, ap, arith, length, take, get_or}
use Rattle.std.specs.Prelude.{slice_index_or}
use Rattle.std.specs.List.{list_all}
use Rattle.std.proofs.Math.Seq.{take-length, take-suc}
use Rattle.std.proofs.lemmas.Bool.{and_parts, ne_eqb}
use Rattle.std.proofs.lemmas.List.Folds.{list_all_at}
use Rattle.diagram_declarations.specs.Title.{is_title, is_title_byte}
use Rattle.text_drawing.specs.Page.{escaped, escaped_line}
use Rattle.text_power.specs.Show.{each}

plain_byte : (b : ℕ) → is_title_byte b ≡ true → escaped b ≡ b ∷ []
plain_byte b h =
    let other : (k : ℕ) → is_title_byte k ≡ false → (b == k) ≡ false = λ k no. ne_eqb b k (λ e. let bad : true ≡ false = sym h ∙ ap is_title_byte e ∙ no in cc) in
    rw (other 38 refl, other 60 refl, other 62 refl, other 34 refl) refl

true_by : (t : Bool) (text : List ℕ) (n : ℕ) → n < length text → list_all is_title_byte text ≡ true → is_title_byte (get_or text n 32) ≡ t → t ≡ true
true_by true text n within h e = refl
true_by false text n within h e = sym (list_all_at is_title_byte text n 32 within e) ∙ h

plain_front : (text : List ℕ) → list_all is_title_byte text ≡ true → (n : ℕ) → n ≤ length text → each (λ at. escaped (slice_index_or text at 32)) n ≡ take n text
unfolding each
plain_front text h zero within = refl
plain_front text h (suc n) within =
    let inside : n < length text = omega arith in
    let byte = plain_byte (get_or text n 32) (true_by (is_title_byte (get_or text n 32)) text n inside h refl) in
    ap (λ t. t ++ escaped (get_or text n 32)) (plain_front text h n (omega arith)) ∙ ap (λ t. take n text ++ t) byte ∙ sym (take-suc text n 32 inside)

pub plain_title : (title : List ℕ) → is_title title ≡ true → escaped_line title ≡ title
plain_title title h =
    let parts = and_parts (nat_le 1 (length title)) _ h in
    let bytes = and_parts (nat_le (length title) 32) (list_all is_title_byte title) parts.1 in
    plain_front title bytes.1 (length title) (omega arith) ∙ take-length title
