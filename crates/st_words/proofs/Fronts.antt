-- What the reader finds at the start of a text is what begins it, and nothing else begins it.
use Rattle.std.proofs.Common.{◌≡◌, ◌⊎◌, inl, inr, ℕ, Bool, true, false, ◌&&◌, ◌||◌, ◌==◌, cond, List, [], ◌∷◌, ◌++◌, take, drop, Option, Some, None, IfSome, refl, sym, ap, ◌∙◌, subst}
use Rattle.std.specs.List.{list_all, prefix_len}
use Rattle.std.proofs.lemmas.Bool.{and_parts, eqb-true, both_ways, and_right, cond_both}
use Rattle.std.proofs.lemmas.Option.{same_Some, none-some}
use Rattle.std.proofs.lemmas.List.{take-append-drop}
use Rattle.st_words.specs.Words.{is_blank, is_word_byte, is_symbol, is_pair, is_opening, is_in_line, begins, closes, Gap, blank, comment, line_comment, IsWord, run, pair, single, BeginsNone}
use Rattle.st_words.specs.Front.{Front, front, behind_close, commented, symbol_front, front_of}
use Rattle.st_words.proofs.Bytes.{letter_no_blank, IsBare, symbol_bare, pair_begins}
use Rattle.st_words.proofs.Lists.{run_passes, run_stops, run_before}

-- ---- what is there is found

neither : (x y : Bool) → (x || y) ≡ false → (x ≡ false) × (y ≡ false)
neither true y h = absurd cc
neither false y h = (refl, h)

begins_before : (p : ℕ → Bool) (b : ℕ) (xs ys : List ℕ) → p b ≡ false → begins p (xs ++ (b ∷ ys)) ≡ begins p xs
begins_before p b [] ys h = h
begins_before p b (x ∷ xs) ys h = refl

closed : (inside rest : List ℕ) → closes inside ≡ false → behind_close (inside ++ (42 ∷ 41 ∷ rest)) ≡ Some rest
closed [] rest h = refl
closed (b ∷ bs) rest h =
    let both = neither (b == 42 && begins (λ c. c == 41) bs) (closes bs) h in
    rw (begins_before (λ c. c == 41) 42 bs (41 ∷ rest) refl, both.0) (closed bs rest both.1)

pub gap_found : (text rest : List ℕ) → Gap text rest → front_of text ≡ front false rest
unfolding front_of
gap_found _ _ (blank b rest h) = rw h refl
gap_found _ _ (comment inside rest h) = ap commented (closed inside rest h)
gap_found _ _ (line_comment inside rest all stop) = ap (front false) (run_before is_in_line inside rest all stop)

bare_front : (b : ℕ) (bs : List ℕ) → IsBare b → front_of (b ∷ bs) ≡ symbol_front b bs
unfolding front_of
bare_front b bs h = rw (h.no_blank, h.no_letter) refl

pair_front : (a b : ℕ) (rest : List ℕ) → is_pair a b ≡ true → symbol_front a (b ∷ rest) ≡ front true rest
pair_front a b rest h =
    let parts = pair_begins a b h in
    rw (and_right (a == 40) (b == 42) parts.no_block, and_right (a == 47) (b == 47) parts.no_line, h) refl

single_front : (a : ℕ) (rest : List ℕ) → is_symbol a ≡ true → begins (λ b. is_pair a b || is_opening a b) rest ≡ false → symbol_front a rest ≡ front true rest
single_front a [] h stop = rw (and_right (a == 40) false refl, and_right (a == 47) false refl, h) refl
single_front a (b ∷ bs) h stop =
    let one = neither (is_pair a b) (is_opening a b) stop in
    let two = neither (a == 40 && b == 42) _ one.1 in
    let three = neither (a == 47 && b == 47) false two.1 in
    rw (two.0, three.0, one.0, h) refl

pub word_found : (word rest : List ℕ) → IsWord word rest → front_of (word ++ rest) ≡ front true rest
unfolding front_of
word_found _ _ (run b bs rest all stop) =
    let both = and_parts (is_word_byte b) (list_all is_word_byte bs) all in
    rw (letter_no_blank b both.0, both.0, run_before is_word_byte bs rest both.1 stop) refl
word_found _ _ (pair a b rest h) = bare_front a (b ∷ rest) (symbol_bare a (pair_begins a b h).symbol) ∙ pair_front a b rest h
word_found _ _ (single a rest h stop) = bare_front a rest (symbol_bare a h) ∙ single_front a rest h stop

-- ---- what is found is there

-- the word that the reader found
pub record FrontWord (text rest : List ℕ) : Type 0 where
  pub word : List ℕ
  pub whole : text ≡ word ++ rest
  pub is_word : IsWord word rest

abbrev pub IsFront : List ℕ → Bool → List ℕ → Type 0
IsFront text true rest = FrontWord text rest
IsFront text false rest = Gap text rest

abbrev pub Finds : List ℕ → Option Front → Type 0
Finds text found = IfSome found (λ f. IsFront text f.is_word f.rest)

chosen : {A : Type 0} (b : Bool) (x y z : A) → cond b x y ≡ z → ((b ≡ true) × (x ≡ z)) ⊎ ((b ≡ false) × (y ≡ z))
chosen true x y z e = inl (refl, e)
chosen false x y z e = inr (refl, e)

-- a comment up to its end
record Closed (text rest : List ℕ) : Type 0 where
  inside : List ℕ
  whole : text ≡ inside ++ (42 ∷ 41 ∷ rest)
  first : closes inside ≡ false

closed_here : (b : ℕ) (bs rest : List ℕ) → (b == 42 && begins (λ c. c == 41) bs) ≡ true → Some (drop 1 bs) ≡ Some rest → Closed (b ∷ bs) rest
closed_here b [] rest h e = absurd (both_ways false refl (and_parts (b == 42) false h).1)
closed_here b (c ∷ cs) rest h e =
    let both = and_parts (b == 42) (c == 41) h in
    let one = eqb-true b 42 both.0 in
    let two = eqb-true c 41 both.1 in
    let after : cs ≡ rest = same_Some cs rest e in
    record { inside = []; whole = cc; first = refl }

closed_later : (b : ℕ) (bs rest : List ℕ) → (b == 42 && begins (λ c. c == 41) bs) ≡ false → Closed bs rest → Closed (b ∷ bs) rest
closed_later b bs rest h later =
    let same : begins (λ c. c == 41) later.inside ≡ begins (λ c. c == 41) bs =
    sym (begins_before (λ c. c == 41) 42 later.inside (41 ∷ rest) refl) ∙ ap (begins (λ c. c == 41)) (sym later.whole) in
    record { inside = b ∷ later.inside; whole = ap (λ xs. b ∷ xs) later.whole; first = rw (same, h) later.first }

close_found : (text rest : List ℕ) → behind_close text ≡ Some rest → Closed text rest
close_found [] rest e = absurd (none-some rest e)
close_found (b ∷ bs) rest e =
    elim (chosen (b == 42 && begins (λ c. c == 41) bs) (Some (drop 1 bs)) (behind_close bs) (Some rest) e) [
      | inl here ↦ closed_here b bs rest here.0 here.1
      | inr later ↦ closed_later b bs rest later.0 (close_found bs rest later.1)
    ]

opened_at : (text : List ℕ) (found : Option (List ℕ)) → behind_close text ≡ found → Finds (40 ∷ 42 ∷ text) (commented found)
opened_at text None e = tt
opened_at text (Some rest) e =
    let is = close_found text rest e in
    subst (λ t. Gap (40 ∷ 42 ∷ t) rest) (sym is.whole) (comment is.inside rest is.first)

block_finds : (a : ℕ) (bs : List ℕ) → (a == 40 && begins (λ b. b == 42) bs) ≡ true → Finds (a ∷ bs) (commented (behind_close (drop 1 bs)))
block_finds a [] h = absurd (both_ways false refl (and_parts (a == 40) false h).1)
block_finds a (b ∷ bs) h =
    let both = and_parts (a == 40) (b == 42) h in
    let one = eqb-true a 40 both.0 in
    let two = eqb-true b 42 both.1 in
    rw (one, two) (opened_at bs (behind_close bs) refl)

line_finds : (a : ℕ) (bs : List ℕ) → (a == 47 && begins (λ b. b == 47) bs) ≡ true → Gap (a ∷ bs) (drop (prefix_len is_in_line (drop 1 bs)) (drop 1 bs))
line_finds a [] h = absurd (both_ways false refl (and_parts (a == 47) false h).1)
line_finds a (b ∷ bs) h =
    let both = and_parts (a == 47) (b == 47) h in
    let n = prefix_len is_in_line bs in
    let comment_is = line_comment (take n bs) (drop n bs) (run_passes is_in_line bs) (run_stops is_in_line bs) in
    rw (eqb-true a 47 both.0, eqb-true b 47 both.1) (subst (λ t. Gap (47 ∷ 47 ∷ t) (drop n bs)) (take-append-drop n bs) comment_is)

pair_finds : (a : ℕ) (bs : List ℕ) → begins (is_pair a) bs ≡ true → FrontWord (a ∷ bs) (drop 1 bs)
pair_finds a [] h = absurd cc
pair_finds a (b ∷ bs) h = record { word = a ∷ b ∷ []; whole = refl; is_word = pair a b bs h }

single_stops : (a : ℕ) (bs : List ℕ) → (a == 40 && begins (λ b. b == 42) bs) ≡ false → (a == 47 && begins (λ b. b == 47) bs) ≡ false → begins (is_pair a) bs ≡ false
    → begins (λ b. is_pair a b || is_opening a b) bs ≡ false
single_stops a [] no_block no_line no_pair = refl
single_stops a (b ∷ bs) no_block no_line no_pair = rw (no_pair, no_block, no_line) refl

finds_symbol : (a : ℕ) (bs : List ℕ) → Finds (a ∷ bs) (symbol_front a bs)
finds_symbol a bs =
    cond_both (a == 40 && begins (λ b. b == 42) bs) _ _ (Finds (a ∷ bs)) (block_finds a bs) (λ block.
    cond_both (a == 47 && begins (λ b. b == 47) bs) _ _ (Finds (a ∷ bs)) (line_finds a bs) (λ line.
    cond_both (begins (is_pair a) bs) _ _ (Finds (a ∷ bs)) (pair_finds a bs) (λ no_pair.
    cond_both (is_symbol a) _ _ (Finds (a ∷ bs)) (λ symbol. record { word = a ∷ []; whole = refl; is_word = single a bs symbol (single_stops a bs block line no_pair) })
    (λ other. tt))))

run_finds : (b : ℕ) (bs : List ℕ) → is_word_byte b ≡ true → FrontWord (b ∷ bs) (drop (prefix_len is_word_byte bs) bs)
run_finds b bs h =
    let n = prefix_len is_word_byte bs in
    record {
      word = b ∷ take n bs;
      whole = ap (λ xs. b ∷ xs) (sym (take-append-drop n bs));
      is_word = run b (take n bs) (drop n bs) (rw h (run_passes is_word_byte bs)) (run_stops is_word_byte bs);
    }

pub finds : (text : List ℕ) → Finds text (front_of text)
unfolding front_of
finds [] = tt
finds (b ∷ bs) =
    cond_both (is_blank b) _ _ (Finds (b ∷ bs)) (λ h. blank b bs h) (λ no_blank.
    cond_both (is_word_byte b) _ _ (Finds (b ∷ bs)) (run_finds b bs) (λ no_letter. finds_symbol b bs))

-- where nothing is found nothing begins
pub begins_none : (b : ℕ) (bs : List ℕ) → front_of (b ∷ bs) ≡ None → BeginsNone (b ∷ bs)
begins_none b bs e = (
  λ empty. absurd cc,
  λ rest gap. none-some _ (sym e ∙ gap_found (b ∷ bs) rest gap),
  λ word rest whole is. none-some _ (sym e ∙ ap front_of whole ∙ word_found word rest is),
)
