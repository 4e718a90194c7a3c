-- A term, literal by literal.
use Rattle.std.proofs.Common.{◌≡◌, ◌∙◌, ℕ, suc, ◌+◌, ◌-◌, ◌<◌, ◌≤◌, ◌==◌, Bool, true, false, List, [], ◌∷◌, ◌++◌, None, Some, sym, refl, ap, append_assoc, append-nil, codes, cond, drop, flat_map, get_or, length, map, arith}
use Rattle.std.specs.Int.{bit_at}
use Rattle.std.proofs.lemmas.List.{at_drop_all, at_drop_more}
use Rattle.search_groups.specs.Groups.{cell, cells}
use Rattle.search_groups.specs.declared.walk.Group.{Group}
use Rattle.text_causes.specs.TermText.{bracketed, literal, literals, term}
use Rattle.text_causes.specs.TermParts.{after, before, negation, term_left}
use Rattle.text_causes.specs.declared.term_text.Brackets.{Brackets}
use Rattle.text_causes.specs.declared.term_text.Brackets.TheVariants.{Round, Without}
use Rattle.io_text.specs.Buffer.{SendsAll}
use Rattle.io_text.specs.Log.{PutsPrefix, WriteLog}
use Rattle.io_text.proofs.Sending.{sends_more, sends_none, sends_prefix}

-- ---- what the definition says of a term

joined : (b : Brackets) (ls : List (List ℕ)) → term_left b true ls ≡ flat_map (λ m. codes " AND " ++ m) ls ++ after b true
unfolding term_left
joined b [] = refl
joined b (l ∷ ls) =
    ap (λ t. (codes " AND " ++ l) ++ t) (joined b ls)
    ∙ sym (append_assoc (codes " AND " ++ l) (flat_map (λ m. codes " AND " ++ m) ls) (after b true))

pub term_is : (ls : List (List ℕ)) → term_left Without false ls ≡ term ls
unfolding term_left
term_is [] = refl
term_is (l ∷ ls) = ap (λ t. l ++ t) (joined Without ls ∙ append-nil (flat_map (λ m. codes " AND " ++ m) ls))

pub bracketed_is : (ls : List (List ℕ)) → term_left Round false ls ≡ bracketed ls
unfolding term_left
bracketed_is [] = refl
bracketed_is (l ∷ ls) =
    ap (λ t. (codes "(" ++ l) ++ t) (joined Round ls)
    ∙ ap (λ t. codes "(" ++ t) (sym (append_assoc l (flat_map (λ m. codes " AND " ++ m) ls) (codes ")")))

-- ---- one input more

-- what is left to say from the i-th input on
abbrev pub said : {A : Type 0} → (A → List ℕ) → List A → Group → ℕ → List (List ℕ)
said f listed g i = literals (map f (drop i listed)) (cells (length listed - i) g)

said_next : {A : Type 0} (f : A → List ℕ) (listed : List A) (g : Group) (i m : ℕ) (d : A) → i < length listed → m ≡ length listed - (i + 1)
    → said f listed g i ≡ literal (f (get_or listed i d)) (cell (bit_at g.dashes m) (bit_at g.value m)) ++ said f listed g (i + 1)
unfolding literals cells
said_next f listed g i m d h e =
    let places : length listed - i ≡ suc m = omega (arith, e, h) in
    at_drop_more (λ xs. literals (map f xs) (cells (length listed - i) g)) listed i d h
    ∙ ap (λ n. literals (map f (get_or listed i d ∷ drop (i + 1) listed)) (cells n g)) places
    ∙ ap (λ n. literal (f (get_or listed i d)) (cell (bit_at g.dashes m) (bit_at g.value m)) ++ literals (map f (drop (i + 1) listed)) (cells n g)) e

pub said_dash : {A : Type 0} (f : A → List ℕ) (listed : List A) (g : Group) (i m : ℕ) (d : A) → i < length listed → m ≡ length listed - (i + 1)
    → (bit_at g.dashes m == 1) ≡ true → said f listed g i ≡ said f listed g (i + 1)
said_dash f listed g i m d h e dash =
    said_next f listed g i m d h e
    ∙ ap (λ b. literal (f (get_or listed i d)) (cond b None (Some (bit_at g.value m == 1))) ++ said f listed g (i + 1)) dash

literal_is : (name : List ℕ) (on : Bool) → literal name (Some on) ≡ (negation on ++ name) ∷ []
literal_is name true = refl
literal_is name false = refl

pub said_bit : {A : Type 0} (f : A → List ℕ) (listed : List A) (g : Group) (i m : ℕ) (d : A) → i < length listed → m ≡ length listed - (i + 1)
    → (bit_at g.dashes m == 1) ≡ false
    → said f listed g i ≡ (negation (bit_at g.value m == 1) ++ f (get_or listed i d)) ∷ said f listed g (i + 1)
said_bit f listed g i m d h e dash =
    said_next f listed g i m d h e
    ∙ ap (λ b. literal (f (get_or listed i d)) (cond b None (Some (bit_at g.value m == 1))) ++ said f listed g (i + 1)) dash
    ∙ ap (λ ls. ls ++ said f listed g (i + 1)) (literal_is (f (get_or listed i d)) (bit_at g.value m == 1))

pub said_none : {A : Type 0} (f : A → List ℕ) (listed : List A) (g : Group) (i : ℕ) → length listed ≤ i → said f listed g i ≡ []
unfolding literals cells
said_none f listed g i h = at_drop_all (λ xs. literals (map f xs) (cells (length listed - i) g)) listed i h

pub said_all : {A : Type 0} (f : A → List ℕ) (listed : List A) (g : Group) → said f listed g 0 ≡ literals (map f listed) (cells (length listed) g)
said_all f listed g = let z : length listed - 0 ≡ length listed = omega arith in ap (λ n. literals (map f listed) (cells n g)) z

-- ---- a term as far as it is written

pub record Term (a b : WriteLog) (waited waits : List ℕ) (br : Brackets) (begun : Bool) (whole left : List (List ℕ)) : Type 0 where
  pub done : List ℕ
  pub split : term_left br false whole ≡ done ++ term_left br begun left
  pub sent : SendsAll a b waited waits done

pub term_none : (a : WriteLog) (w : List ℕ) (br : Brackets) (whole left : List (List ℕ)) → left ≡ whole → Term a a w w br false whole left
term_none a w br whole left e = record { done = []; split = ap (term_left br false) (sym e); sent = sends_none a w }

pub term_same : (a b : WriteLog) (w0 w1 : List ℕ) (br : Brackets) (begun : Bool) (whole left other : List (List ℕ)) → left ≡ other
    → Term a b w0 w1 br begun whole left → Term a b w0 w1 br begun whole other
term_same a b w0 w1 br begun whole left other e t =
    record { done = t.done; split = t.split ∙ ap (λ ls. t.done ++ term_left br begun ls) e; sent = t.sent }

term_next : (br : Brackets) (begun : Bool) (l : List ℕ) (ls : List (List ℕ)) → term_left br begun (l ∷ ls) ≡ (before br begun ++ l) ++ term_left br true ls
unfolding term_left
term_next br begun l ls = refl

pub term_more : (a b c : WriteLog) (w0 w1 w2 : List ℕ) (br : Brackets) (begun : Bool) (whole left : List (List ℕ)) (l : List ℕ) (rest : List (List ℕ))
    → left ≡ l ∷ rest → Term a b w0 w1 br begun whole left → SendsAll b c w1 w2 (before br begun ++ l) → Term a c w0 w2 br true whole rest
term_more a b c w0 w1 w2 br begun whole left l rest e t sent =
    let one = before br begun ++ l in
    record {
      done = t.done ++ one;
      split = t.split ∙ ap (λ ls. t.done ++ term_left br begun ls) e ∙ ap (λ x. t.done ++ x) (term_next br begun l rest)
          ∙ sym (append_assoc t.done one (term_left br true rest));
      sent = sends_more a b c w0 w1 w2 t.done one t.sent sent;
    }

pub term_cut : (a b c : WriteLog) (w0 w1 : List ℕ) (br : Brackets) (begun : Bool) (whole left : List (List ℕ)) (l : List ℕ) (rest : List (List ℕ))
    → left ≡ l ∷ rest → Term a b w0 w1 br begun whole left → PutsPrefix b c (w1 ++ (before br begun ++ l)) → PutsPrefix a c (w0 ++ term_left br false whole)
term_cut a b c w0 w1 br begun whole left l rest e t failed =
    sends_prefix a b c w0 w1 (term_left br false whole) t.done (before br begun ++ l) (term_left br true rest)
    (t.split ∙ ap (λ ls. t.done ++ term_left br begun ls) e ∙ ap (λ x. t.done ++ x) (term_next br begun l rest)) t.sent failed

term_end : (br : Brackets) (begun : Bool) → term_left br begun [] ≡ after br begun
unfolding term_left
term_end br begun = refl

pub term_all : (a b : WriteLog) (w0 w1 : List ℕ) (br : Brackets) (begun : Bool) (whole left : List (List ℕ)) → left ≡ []
    → (t : Term a b w0 w1 br begun whole left) → term_left br false whole ≡ t.done ++ after br begun
term_all a b w0 w1 br begun whole left e t = t.split ∙ ap (λ ls. t.done ++ term_left br begun ls) e ∙ ap (λ x. t.done ++ x) (term_end br begun)
