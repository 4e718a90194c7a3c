-- What `form_at` finds is the form of the characters, and each form is found.
use Rattle.std.proofs.Common.{◌≡◌, ◌↔◌, ℕ, zero, suc, ◌+◌, ◌≤◌, ◌⊎◌, inl, inr, Bool, true, false, cond, ◌==◌, ◌||◌, ◌&&◌, nat_le, codes, take, drop, List, [], ◌∷◌, ◌++◌, length, replicate, Option, Some, None, option_map, subst, refl, sym, ap, ◌∙◌, arith}
use Rattle.std.specs.List.{find, list_all, prefix_len, AllByRecursion, Contains}
use Rattle.std.specs.Str.{bytes_eq}
use Rattle.std.specs.Char.{is_ascii_alphabetic}
use Rattle.std.specs.Int.{is_in_range}
use Rattle.std.proofs.lemmas.Bool.{eq-eqb, ne_eqb, eqb-true, eqb-false, and_parts, or_cases, true≢false}
use Rattle.std.proofs.lemmas.List.{length-replicate, take-append-drop}
use Rattle.std.proofs.Math.Seq.{take-append_seam, drop-append_seam}
use Rattle.std.proofs.lemmas.Slice.Eq.{bytes_eq-Decides}
use Rattle.std.specs.Option.{option_or}
use Rattle.diagram_declarations.specs.Name.{is_name, is_name_byte, has_name_form}
use Rattle.diagram_declarations.specs.Text.{begins_with}
use Rattle.diagram_page.specs.declared.form.Form.{Form}
use Rattle.diagram_page.specs.declared.form.Form.TheVariants.{Jump, Return}
use Rattle.diagram_page.specs.Form.{whole_cells, symbols, is_label_name, HasMark, HasForm, IsFormOf}
use Rattle.diagram_page.specs.Picture.{Lines}
use Rattle.diagram_page.specs.Texts.{cell_text}
use Rattle.diagram_page.specs.Lines.{part_in, rung_of}
use Rattle.diagram_page.specs.ReadLines.{form_read}
use Rattle.diagram_page.specs.declared.lines.Part.{Part}
use Rattle.diagram_page.specs.ReadForm.{Table, Lists, lookup, dashes, is_filler, symbol_at, label_at, behind_label, label_named, jump_with, jump_to, jump_at, return_at, mark_at, marked_at, form_at}

-- ---- what a table has

pub lists_of : (t : Table) (chars : List ℕ) (form : Form) → Contains t (chars, form) → Lists t chars form
lists_of [] chars form (k, below, is) = absurd (omega (arith, below))
lists_of (e ∷ es) chars form (zero, below, is) = inl (ap (λ (x : List ℕ × Form). x.0) (sym is), ap (λ (x : List ℕ × Form). x.1) (sym is))
lists_of (e ∷ es) chars form (suc k, below, is) = inr (lists_of es chars form (k, omega (arith, below), is))

contains_of : (t : Table) (chars : List ℕ) (form : Form) → Lists t chars form → Contains t (chars, form)
contains_of [] chars form h = absurd h
contains_of (e ∷ es) chars form (inl (c, f)) = (0, omega arith, rw (c, f) refl)
contains_of (e ∷ es) chars form (inr h) = let r = contains_of es chars form h in (suc r.0, omega (arith, r.1), r.2)

-- ---- marks

-- what leaves the rung: `<RETURN>`, or `>>` and a label
abbrev IsLeap : List ℕ → Form → Type 0
IsLeap mark form =
    ((mark ≡ codes "<RETURN>") × (form ≡ Return))
    ⊎ ((label : List ℕ) × (mark ≡ codes ">>" ++ label) × (is_label_name label ≡ true) × (form ≡ Jump label))

-- what holds of each entry holds of what the table has
of_each : (P : List ℕ → Form → Type 0) (t : Table) (text : List ℕ) (s : Form) → AllByRecursion (λ e. P e.0 e.1) t → Lists t text s → P text s
of_each P [] text s all h = absurd h
of_each P (e ∷ es) text s all (inl (same_text, same_shape)) = rw (same_text, same_shape) all.0
of_each P (e ∷ es) text s all (inr h) = of_each P es text s all.1 h

lookup_lists : (t : Table) (text : List ℕ) (s : Form) → lookup t text ≡ Some s → Lists t text s
lookup_lists [] text s h = cc
lookup_lists (e ∷ es) text s h =
    elim (bytes_eq e.0 text) as (λ b. bytes_eq e.0 text ≡ b → option_map (λ x. x.1) (cond b (Some e) (find (λ x. bytes_eq x.0 text) es)) ≡ Some s → Lists (e ∷ es) text s) [
      | true ↦ λ same given. inl (sym ((bytes_eq-Decides e.0 text).0 same), cc)
      | false ↦ λ _ given. inr (lookup_lists es text s given)
    ] refl h

pub prefix_stops : (p : ℕ → Bool) (xs ys : List ℕ) → list_all p xs ≡ true → prefix_len p ys ≡ 0 → prefix_len p (xs ++ ys) ≡ length xs
prefix_stops p [] ys all none = none
prefix_stops p (x ∷ xs) ys all none =
    let both = and_parts (p x) (list_all p xs) all in
    rw both.0 (omega (arith, prefix_stops p xs ys both.1 none))

pub list_all-replicate : (n b : ℕ) → list_all (λ x. x == b) (replicate n b) ≡ true
list_all-replicate zero b = refl
list_all-replicate (suc n) b = let same : (b == b) ≡ true = eq-eqb b b refl in rw same (list_all-replicate n b)

dashes_before : (n b : ℕ) (bs : List ℕ) → (b == 45) ≡ false → dashes (replicate n 45 ++ (b ∷ bs)) ≡ n
dashes_before n b bs h = prefix_stops (λ x. x == 45) (replicate n 45) (b ∷ bs) (list_all-replicate n 45) (rw h refl) ∙ length-replicate n 45

behind_them : (text rest : List ℕ) (before b : ℕ) (bs : List ℕ) → rest ≡ b ∷ bs → (b == 45) ≡ false → 1 ≤ before → text ≡ replicate before 45 ++ rest
    → marked_at text ≡ mark_at rest
unfolding marked_at
behind_them text rest before b bs front apart some spelled =
    let count : dashes text ≡ before = rw (spelled, front) (dashes_before before b bs apart) in
    let none : (before == 0) ≡ false = ne_eqb _ _ (λ e. omega (arith, e)) in
    let taken : drop before text ≡ rest = rw spelled (subst (λ n. drop n (replicate before 45 ++ rest) ≡ rest) (length-replicate before 45) (drop-append_seam (replicate before 45) rest)) in
    rw (count, none, taken) refl

or_true : (b : Bool) → (b || true) ≡ true
or_true true = refl
or_true false = refl

-- dashes alone, or spaces alone
is_filler-replicate : (n b : ℕ) → (b ≡ 45) ⊎ (b ≡ 32) → is_filler (replicate n b) ≡ true
is_filler-replicate n b (inl h) = rw (h, list_all-replicate n 45) refl
is_filler-replicate n b (inr h) = rw (h, list_all-replicate n 32) (or_true (list_all (λ x. x == 45) (replicate n 32)))

-- dashes before a symbol are taken off
pub marked_symbol : (a b c : ℕ) (s : Form) → (a == 45) ≡ false → (a == 62) ≡ false → (a == 60) ≡ false → lookup symbols (a ∷ b ∷ c ∷ []) ≡ Some s
    → (before after filler : ℕ) → 1 ≤ before → (filler ≡ 45) ⊎ (filler ≡ 32)
    → marked_at (replicate before 45 ++ ((a ∷ b ∷ c ∷ []) ++ replicate after filler)) ≡ Some s
marked_symbol a b c s apart no_jump no_return known before after filler some kind =
    behind_them _ _ before a (b ∷ c ∷ replicate after filler) refl apart some refl
    ∙ rw (no_jump, no_return, is_filler-replicate after filler kind, known) refl

-- a cell with a symbol is none of those that are spelled in one way
unmarked : AllByRecursion (λ e. marked_at e.0 ≡ None) whole_cells
unfolding marked_at
unmarked = (refl, (refl, (refl, (refl, (refl, (refl, (refl, (refl, (refl, (refl, (refl, (refl, (refl, (refl, (refl, tt)))))))))))))))

pub whole_found : (text : List ℕ) (s : Form) → Lists whole_cells text s → form_at text ≡ Some s
unfolding form_at
whole_found text s h = of_each (λ t x. form_at t ≡ Some x) whole_cells text s
    (refl, (refl, (refl, (refl, (refl, (refl, (refl, (refl, (refl, (refl, (refl, (refl, (refl, (refl, (refl, tt))))))))))))))) h

marked_found : (text : List ℕ) (s : Form) → marked_at text ≡ Some s → form_at text ≡ Some s
unfolding form_at
marked_found text s h =
    elim (lookup whole_cells text) as (λ o. lookup whole_cells text ≡ o → option_or o (marked_at text) ≡ Some s) [
      | None ↦ λ _. h
      | Some t ↦ λ known.
          let none : marked_at text ≡ None = of_each (λ w _. marked_at w ≡ None) whole_cells text t unmarked (lookup_lists whole_cells text t known) in
          cc
    ] refl

Marks : List ℕ → Form → Type 0
Marks symbol s = (before after filler : ℕ) → 1 ≤ before → (filler ≡ 45) ⊎ (filler ≡ 32) → marked_at (replicate before 45 ++ (symbol ++ replicate after filler)) ≡ Some s

each_symbol_marks : AllByRecursion (λ e. Marks e.0 e.1) symbols
unfolding Marks
each_symbol_marks = (
  marked_symbol 124 32 124 _ refl refl refl refl,
  (
    marked_symbol 124 47 124 _ refl refl refl refl,
    (
      marked_symbol 124 80 124 _ refl refl refl refl,
      (
        marked_symbol 124 78 124 _ refl refl refl refl,
        (marked_symbol 40 32 41 _ refl refl refl refl, (marked_symbol 40 47 41 _ refl refl refl refl, (marked_symbol 40 83 41 _ refl refl refl refl, (marked_symbol 40 82 41 _ refl refl refl refl, (marked_symbol 40 80 41 _ refl refl refl refl, (marked_symbol 40 78 41 _ refl refl refl refl, tt)))))),
      ),
    ),
  ),
)

-- ---- jumps and returns
no_name_space : (n : ℕ) → prefix_len is_name_byte (replicate n 32) ≡ 0
no_name_space zero = refl
no_name_space (suc n) = refl

start_byte : (d u l o : Bool) → ((u || l) || o) ≡ true → (((d || u) || l) || o) ≡ true
start_byte true u l o h = refl
start_byte false u l o h = h

pub form_bytes : (word : List ℕ) → has_name_form word ≡ true → list_all is_name_byte word ≡ true
form_bytes [] h = absurd (true≢false (sym h))
form_bytes (b ∷ bs) h =
    let both = and_parts (is_ascii_alphabetic b || b == 95) (list_all is_name_byte bs) h in
    let start : is_name_byte b ≡ true = start_byte (is_in_range 48 57 b) (is_in_range 65 90 b) (is_in_range 97 122 b) (b == 95) both.0 in
    rw (start, both.1) refl

pub label_bytes : (word : List ℕ) → is_label_name word ≡ true → list_all is_name_byte word ≡ true
label_bytes word h =
    let named = and_parts (nat_le (length word) 8) (is_name word) h in
    form_bytes word (and_parts (has_name_form word) _ named.1).0

jump_found : (label : List ℕ) (after : ℕ) → is_label_name label ≡ true → jump_to (label ++ replicate after 32) ≡ Some (Jump label)
unfolding label_at behind_label
jump_found label after named =
    let stop : prefix_len is_name_byte (label ++ replicate after 32) ≡ length label
    = prefix_stops is_name_byte label (replicate after 32) (label_bytes label named) (no_name_space after) in
    rw (stop, take-append_seam label (replicate after 32), drop-append_seam label (replicate after 32), list_all-replicate after 32, named) refl

return_found : (after : ℕ) → mark_at (codes "<RETURN>" ++ replicate after 32) ≡ Some Return
return_found after = rw (list_all-replicate after 32) refl

leap_found : (text : List ℕ) (s : Form) (before after : ℕ) (mark : List ℕ) → 1 ≤ before → text ≡ replicate before 45 ++ (mark ++ replicate after 32) → IsLeap mark s
    → marked_at text ≡ Some s
leap_found text s before after mark some spelled (inl ret) =
    behind_them text (codes "<RETURN>" ++ replicate after 32) before 60 _ refl refl some (rw ret.0 at spelled) ∙ return_found after ∙ ap (λ x. Some x) (sym ret.1)
leap_found text s before after mark some spelled (inr to) =
    behind_them text (62 ∷ 62 ∷ (to.0 ++ replicate after 32)) before 62 _ refl refl some (rw to.1 at spelled) ∙ jump_found to.0 after to.2 ∙ ap (λ x. Some x) (sym to.3)

replicate_from_all : (b : ℕ) (xs : List ℕ) → list_all (λ x. x == b) xs ≡ true → xs ≡ replicate (length xs) b
replicate_from_all b [] h = refl
replicate_from_all b (x ∷ xs) h =
    let both = and_parts (x == b) (list_all (λ y. y == b) xs) h in
    let same : x ≡ b = eqb-true x b both.0 in
    rw same (ap (λ z. b ∷ z) (replicate_from_all b xs both.1))

tail_filler : (tail : List ℕ) → is_filler tail ≡ true → (filler : ℕ) × ((filler ≡ 45) ⊎ (filler ≡ 32)) × (tail ≡ replicate (length tail) filler)
tail_filler tail h =
    elim (or_cases (list_all (λ b. b == 45) tail) (list_all (λ b. b == 32) tail) h) [
      | inl dashes ↦ (45, inl refl, replicate_from_all 45 tail dashes)
      | inr spaces ↦ (32, inr refl, replicate_from_all 32 tail spaces)
    ]

symbol_parts : (rest : List ℕ) (s : Form) → symbol_at rest ≡ Some s
    → (symbol tail : List ℕ) × (rest ≡ symbol ++ tail) × (is_filler tail ≡ true) × (lookup symbols symbol ≡ Some s)
symbol_parts [] s h = cc
symbol_parts (a ∷ []) s h = cc
symbol_parts (a ∷ b ∷ []) s h = cc
symbol_parts (a ∷ b ∷ c ∷ tail) s h =
    elim (is_filler tail) as (λ t. is_filler tail ≡ t → cond t (lookup symbols (a ∷ b ∷ c ∷ [])) None ≡ Some s
    → (symbol end : List ℕ) × (a ∷ b ∷ c ∷ tail ≡ symbol ++ end) × (is_filler end ≡ true) × (lookup symbols symbol ≡ Some s)) [
      | true ↦ λ uniform known. (a ∷ b ∷ c ∷ [], tail, refl, uniform, known)
      | false ↦ λ _ known. cc
    ] refl h

-- what the dashes leave is a symbol with its filler
has_symbol : (text rest : List ℕ) (s : Form) (before : ℕ) → 1 ≤ before → text ≡ replicate before 45 ++ rest → symbol_at rest ≡ Some s → HasMark text s
has_symbol text rest s before some taken known =
    let parts = symbol_parts rest s known in
    let end = tail_filler parts.1 parts.3 in
    let spelled = taken ∙ ap (λ z. replicate before 45 ++ z) (parts.2 ∙ ap (λ z. parts.0 ++ z) end.2) in
    (before, length parts.1, end.0, parts.0, some, spelled, inl (contains_of symbols parts.0 s (lookup_lists symbols parts.0 s parts.4), end.1))

Leap : List ℕ → Form → Type 0
Leap rest s = (mark : List ℕ) × (after : ℕ) × (rest ≡ mark ++ replicate after 32) × IsLeap mark s

has_leap : (text rest : List ℕ) (s : Form) (before : ℕ) → 1 ≤ before → text ≡ replicate before 45 ++ rest → Leap rest s → HasMark text s
unfolding Leap
has_leap text rest s before some taken l = (before, l.1, 32, l.0, some, taken ∙ ap (λ z. replicate before 45 ++ z) l.2, inr (refl, l.3))

jump_known : (text : List ℕ) (s : Form) → jump_to text ≡ Some s → Leap (62 ∷ 62 ∷ text) s
unfolding Leap label_at behind_label
jump_known text s h =
    elim (list_all (λ b. b == 32) (behind_label text)) as (λ t. list_all (λ b. b == 32) (behind_label text) ≡ t
    → cond t (jump_with (label_named (label_at text))) None ≡ Some s → Leap (62 ∷ 62 ∷ text) s) [
      | false ↦ λ _ known. cc
      | true ↦ λ spaces known.
          elim (is_label_name (label_at text)) as (λ t. is_label_name (label_at text) ≡ t → jump_with (cond t (Some (label_at text)) None) ≡ Some s → Leap (62 ∷ 62 ∷ text) s) [
            | false ↦ λ _ none. cc
            | true ↦ λ named same.
                let parts : text ≡ label_at text ++ behind_label text = sym (take-append-drop (prefix_len is_name_byte text) text) in
                let blank : behind_label text ≡ replicate (length (behind_label text)) 32 = replicate_from_all 32 (behind_label text) spaces in
                let whole : 62 ∷ 62 ∷ text ≡ (62 ∷ 62 ∷ label_at text) ++ replicate (length (behind_label text)) 32
                = ap (λ z. 62 ∷ 62 ∷ z) (parts ∙ ap (λ z. label_at text ++ z) blank) in
                (62 ∷ 62 ∷ label_at text, length (behind_label text), whole, inr (label_at text, refl, named, cc))
          ] refl known
    ] refl h

jump_at_known : (text : List ℕ) (s : Form) → begins_with 62 text ≡ true → jump_at text ≡ Some s → Leap text s
jump_at_known [] s front h = cc
jump_at_known (a ∷ []) s front h = cc
jump_at_known (a ∷ b ∷ text) s front h =
    elim (b == 62) as (λ t. (b == 62) ≡ t → cond t (jump_to text) None ≡ Some s → Leap (a ∷ b ∷ text) s) [
      | false ↦ λ _ known. cc
      | true ↦ λ second known.
          let first_is : a ≡ 62 = eqb-true a 62 front in
          let second_is : b ≡ 62 = eqb-true b 62 second in
          rw (first_is, second_is) (jump_known text s known)
    ] refl h

return_known : (text : List ℕ) (s : Form) → return_at text ≡ Some s → Leap text s
unfolding Leap
return_known text s h =
    elim (bytes_eq (codes "<RETURN>") (take 8 text) && list_all (λ b. b == 32) (drop 8 text)) as
    (λ t. (bytes_eq (codes "<RETURN>") (take 8 text) && list_all (λ b. b == 32) (drop 8 text)) ≡ t → cond t (Some Return) None ≡ Some s → Leap text s) [
      | false ↦ λ _ known. cc
      | true ↦ λ both known.
          let parts = and_parts (bytes_eq (codes "<RETURN>") (take 8 text)) (list_all (λ b. b == 32) (drop 8 text)) both in
          let word : codes "<RETURN>" ≡ take 8 text = (bytes_eq-Decides (codes "<RETURN>") (take 8 text)).0 parts.0 in
          let blank : drop 8 text ≡ replicate (length (drop 8 text)) 32 = replicate_from_all 32 (drop 8 text) parts.1 in
          let whole : text ≡ codes "<RETURN>" ++ replicate (length (drop 8 text)) 32
          = sym (take-append-drop 8 text) ∙ ap (λ z. z ++ drop 8 text) (sym word) ∙ ap (λ z. codes "<RETURN>" ++ z) blank in
          (codes "<RETURN>", length (drop 8 text), whole, inl (refl, cc))
    ] refl h

mark_known : (text rest : List ℕ) (s : Form) (before : ℕ) → 1 ≤ before → text ≡ replicate before 45 ++ rest → mark_at rest ≡ Some s → HasMark text s
mark_known text rest s before some taken h =
    elim (begins_with 62 rest) as (λ t. begins_with 62 rest ≡ t → cond t (jump_at rest) (cond (begins_with 60 rest) (return_at rest) (symbol_at rest)) ≡ Some s
    → HasMark text s) [
      | true ↦ λ front known. has_leap text rest s before some taken (jump_at_known rest s front known)
      | false ↦ λ _ other.
          elim (begins_with 60 rest) as (λ t. cond t (return_at rest) (symbol_at rest) ≡ Some s → HasMark text s) [
            | true ↦ λ known. has_leap text rest s before some taken (return_known rest s known)
            | false ↦ λ known. has_symbol text rest s before some taken known
          ] other
    ] refl h

dashes_front : (b : ℕ) (xs : List ℕ) → take (prefix_len (λ x. x == b) xs) xs ≡ replicate (prefix_len (λ x. x == b) xs) b
dashes_front b [] = refl
dashes_front b (x ∷ xs) =
    let n : ℕ = prefix_len (λ y. y == b) xs in
    let more : 1 + n ≡ suc n = omega arith in
    elim (x == b) as (λ t. (x == b) ≡ t → take (cond t (1 + n) 0) (x ∷ xs) ≡ replicate (cond t (1 + n) 0) b) [
      | true ↦ λ is. let same : x ≡ b = eqb-true x b is in rw (more, same) (ap (λ z. b ∷ z) (dashes_front b xs))
      | false ↦ λ _. refl
    ] refl

marked_known : (text : List ℕ) (s : Form) → marked_at text ≡ Some s → HasMark text s
unfolding marked_at
marked_known text s h =
    elim (dashes text == 0) as (λ t. (dashes text == 0) ≡ t → cond t None (mark_at (drop (dashes text) text)) ≡ Some s → HasMark text s) [
      | true ↦ λ _ known. cc
      | false ↦ λ some known.
          let taken : text ≡ replicate (dashes text) 45 ++ drop (dashes text) text
          = sym (take-append-drop (dashes text) text) ∙ ap (λ z. z ++ drop (dashes text) text) (dashes_front 45 text) in
          let one : 1 ≤ dashes text = omega (arith, eqb-false _ _ some) in
          mark_known text (drop (dashes text) text) s (dashes text) one taken known
    ] refl h

mark_found : (text : List ℕ) (s : Form) → HasMark text s → marked_at text ≡ Some s
unfolding Marks
mark_found text s (before, after, filler, mark, some, spelled, inl (listed, fills)) =
    rw spelled (of_each Marks symbols mark s each_symbol_marks (lists_of symbols mark s listed) before after filler some fills)
mark_found text s (before, after, filler, mark, some, spelled, inr (fills, leaps)) = leap_found text s before after mark some (rw fills at spelled) leaps

pub form_found : (text : List ℕ) (s : Form) → HasForm text s → form_at text ≡ Some s
form_found text s (inl h) = whole_found text s (lists_of whole_cells text s h)
form_found text s (inr h) = marked_found text s (mark_found text s h)

pub form_known : (text : List ℕ) (s : Form) → form_at text ≡ Some s → HasForm text s
unfolding form_at
form_known text s h =
    elim (lookup whole_cells text) as (λ o. lookup whole_cells text ≡ o → option_or o (marked_at text) ≡ Some s → HasForm text s) [
      | None ↦ λ _ known. inr (marked_known text s known)
      | Some t ↦ λ known same. inl (contains_of whole_cells text s (lookup_lists whole_cells text s (known ∙ same)))
    ] refl h

-- The forms exclude one another.
pub form_one : (chars : List ℕ) (a b : Form) → HasForm chars a → HasForm chars b → a ≡ b
form_one chars a b is_a is_b =
    let first : form_at chars ≡ Some a = form_found chars a is_a in
    let second : form_at chars ≡ Some b = form_found chars b is_b in
    cc

pub forms_told : (chars : List ℕ) → IsFormOf chars (form_at chars)
forms_told chars = λ form. (form_known chars form, form_found chars form)

-- What the same is told of is one.
pub told_one : {A : Type 0} (P : A → Type 0) (a b : Option A) → ((x : A) → (a ≡ Some x) ↔ P x) → ((x : A) → (b ≡ Some x) ↔ P x) → a ≡ b
told_one P None None f g = refl
told_one P (Some x) b f g = sym ((g x).1 ((f x).0 refl))
told_one P None (Some y) f g = (f y).1 ((g y).0 refl)

-- Characters are one form, or none.
pub form_of_one : (chars : List ℕ) (a b : Option Form) → IsFormOf chars a → IsFormOf chars b → a ≡ b
form_of_one chars = told_one (HasForm chars)

-- The form is that of the whole cell, where the characters are one, and otherwise that of the mark behind the dashes.
told_by : (chars : List ℕ) (o : Option Form) → form_at chars ≡ o → IsFormOf chars o
told_by chars o is form = (λ e. form_known chars form (is ∙ e), λ h. sym is ∙ form_found chars form h)

pub whole_told : (chars : List ℕ) (whole : Option Form) (s : Form) → whole ≡ lookup whole_cells chars → whole ≡ Some s → IsFormOf chars (Some s)
unfolding form_at
whole_told chars whole s is known = told_by chars (Some s) (rw (sym is, known) refl)

pub plain_told : (chars : List ℕ) (whole : Option Form) → whole ≡ lookup whole_cells chars → whole ≡ None → dashes chars ≡ 0 → IsFormOf chars None
unfolding form_at marked_at
plain_told chars whole is none no_dash = told_by chars None (rw (sym is, none, no_dash) refl)

pub marked_told : (chars : List ℕ) (n : ℕ) (whole o : Option Form) → n ≡ dashes chars → whole ≡ lookup whole_cells chars → whole ≡ None → (n == 0) ≡ false
    → o ≡ mark_at (drop n chars) → IsFormOf chars o
unfolding form_at marked_at
marked_told chars n whole o count is none some mark = told_by chars o (rw (sym is, none, sym count, some) (sym mark))

-- what is told of the characters of a cell is told of the cell
pub read_told : (lines : Lines) (parts : List Part) (k r c : ℕ) (rung : Lines) (chars : List ℕ) (o : Option Form) → rung ≡ rung_of lines (part_in parts k)
    → chars ≡ cell_text rung r c → IsFormOf chars o → o ≡ form_read lines parts k r c
unfolding form_read
read_told lines parts k r c rung chars o at is told = form_of_one chars o (form_at chars) told (forms_told chars) ∙ rw (is, at) refl
