-- The word between the spaces at both ends of some characters.
use Rattle.std.proofs.Common.{◌≡◌, ℕ, suc, ◌+◌, ◌-◌, ◌⊎◌, inl, inr, Bool, true, false, ◌==◌, List, [], ◌∷◌, ◌++◌, length, reverse, take, drop, replicate, refl, sym, ap, subst, ◌∙◌, arith, append_assoc, length-append}
use Rattle.std.proofs.lemmas.Bool.{eqb-true, and_parts, true≢false}
use Rattle.std.specs.List.{list_all, prefix_len, suffix_len}
use Rattle.std.proofs.lemmas.List.{reverse-append, length-reverse, drop_all}
use Rattle.std.proofs.Math.Seq.{take-append_seam, drop-append_seam}
use Rattle.diagram_declarations.specs.Text.{begins_with}
use Rattle.diagram_program.specs.Bytes.{space}
use Rattle.diagram_page.specs.Operand.{word_in, IsWordIn}
use Rattle.diagram_page.proofs.FormLaws.{prefix_stops, list_all-replicate}

-- the last element
last_of : List ℕ → ℕ
last_of [] = 0
last_of (x ∷ []) = x
last_of (x ∷ y ∷ ys) = last_of (y ∷ ys)

last_of-push : (front : List ℕ) (x : ℕ) → last_of (front ++ x ∷ []) ≡ x
unfolding last_of
last_of-push [] x = refl
last_of-push (a ∷ []) x = refl
last_of-push (a ∷ b ∷ bs) x = last_of-push (b ∷ bs) x

-- a list that does not end with a space: empty, or with another last element
abbrev Trimmed : List ℕ → Type 0
Trimmed word = (word ≡ []) ⊎ ((front : List ℕ) × (x : ℕ) × (word ≡ front ++ x ∷ []) × ((x == space) ≡ false))

trimmed : (word : List ℕ) → ((front : List ℕ) → word ≡ front ++ space ∷ [] → ⊥) → Trimmed word
trimmed [] h = inl refl
trimmed (x ∷ []) h =
    elim (x == space) as (λ t. (x == space) ≡ t → Trimmed (x ∷ [])) [
      | true ↦ λ e. absurd (h [] (ap (λ z. z ∷ []) (eqb-true x space e)))
      | false ↦ λ e. inr ([], x, refl, e)
    ] refl
trimmed (x ∷ y ∷ ys) h =
    elim (trimmed (y ∷ ys) (λ front e. h (x ∷ front) (ap (λ z. x ∷ z) e))) [
      | inl none ↦ absurd cc
      | inr (front, z, e, other) ↦ inr (x ∷ front, z, ap (λ w. x ∷ w) e, other)
    ]

never_last : (word : List ℕ) → Trimmed word → (front : List ℕ) → word ≡ front ++ space ∷ [] → ⊥
never_last word (inl none) front e = let n : 0 ≡ length front + 1 = ap length (sym none ∙ e) ∙ length-append front (space ∷ []) in absurd (omega (arith, n))
never_last word (inr (other, x, is, no_space)) front e =
    let same : x ≡ space = sym (last_of-push other x) ∙ ap last_of (sym is ∙ e) ∙ last_of-push front space in
    true≢false (ap (λ z. z == space) (sym same) ∙ no_space)

-- every list ends with so many spaces
trailing : (xs : List ℕ) → (front : List ℕ) × (m : ℕ) × (xs ≡ front ++ replicate m space) × Trimmed front
trailing [] = ([], 0, refl, inl refl)
trailing (b ∷ bs) =
    let t = trailing bs in
    elim t.3 [
      | inl none ↦ elim (b == space) as (λ s. (b == space) ≡ s → (front : List ℕ) × (m : ℕ) × (b ∷ bs ≡ front ++ replicate m space) × Trimmed front) [
        | true ↦ λ e. ([], suc t.1, rw (eqb-true b space e) (ap (λ z. space ∷ z) (t.2 ∙ ap (λ f. f ++ replicate t.1 space) none)), inl refl)
        | false ↦ λ e. (b ∷ [], t.1, ap (λ z. b ∷ z) (t.2 ∙ ap (λ f. f ++ replicate t.1 space) none), inr ([], b, refl, e))
      ] refl
      | inr (front, x, is, other) ↦ (b ∷ t.0, t.1, ap (λ z. b ∷ z) t.2, inr (b ∷ front, x, ap (λ z. b ∷ z) is, other))
    ]

-- every list begins with so many spaces
leading : (xs : List ℕ) → (n : ℕ) × (rest : List ℕ) × (xs ≡ replicate n space ++ rest) × (begins_with space rest ≡ false)
leading [] = (0, [], refl, refl)
leading (b ∷ bs) =
    elim (b == space) as (λ s. (b == space) ≡ s → (n : ℕ) × (rest : List ℕ) × (b ∷ bs ≡ replicate n space ++ rest) × (begins_with space rest ≡ false)) [
      | true ↦ λ e. let t = leading bs in (suc t.0, t.1, rw (eqb-true b space e) (ap (λ z. space ∷ z) t.2), t.3)
      | false ↦ λ e. (0, b ∷ bs, refl, e)
    ] refl

first_off : (front tail xs : List ℕ) → xs ≡ front ++ tail → begins_with space xs ≡ false → begins_with space front ≡ false
first_off [] tail xs e h = refl
first_off (b ∷ bs) tail xs e h = ap (begins_with space) (sym e) ∙ h

-- ---- what stands between the spaces at both ends

is_space : ℕ → Bool
is_space b = b == space

all_push : (xs : List ℕ) (x : ℕ) → list_all is_space xs ≡ true → is_space x ≡ true → list_all is_space (xs ++ x ∷ []) ≡ true
all_push [] x h e = rw e refl
all_push (y ∷ ys) x h e = let parts = and_parts (is_space y) (list_all is_space ys) h in rw (parts.0, all_push ys x parts.1 e) refl

all_reverse : (xs : List ℕ) → list_all is_space xs ≡ true → list_all is_space (reverse xs) ≡ true
all_reverse [] h = refl
all_reverse (x ∷ xs) h =
    let parts = and_parts (is_space x) (list_all is_space xs) h in
    ap (list_all is_space) (reverse-append (x ∷ []) xs) ∙ all_push (reverse xs) x (all_reverse xs parts.1) parts.0

suffix_stops : (xs ys : List ℕ) → list_all is_space ys ≡ true → prefix_len is_space (reverse xs) ≡ 0 → suffix_len is_space (xs ++ ys) ≡ length ys
suffix_stops xs ys all none =
    ap (prefix_len is_space) (reverse-append xs ys) ∙ prefix_stops is_space (reverse ys) (reverse xs) (all_reverse ys all) none ∙ length-reverse ys

ends : (front : List ℕ) (x : ℕ) → is_space x ≡ false → prefix_len is_space (reverse (front ++ x ∷ [])) ≡ 0
ends front x other = ap (prefix_len is_space) (reverse-append front (x ∷ [])) ∙ rw other refl

starts : (xs : List ℕ) → begins_with space xs ≡ false → prefix_len is_space xs ≡ 0
unfolding is_space
starts [] h = refl
starts (b ∷ bs) h = rw h refl

spaces : (n : ℕ) → list_all is_space (replicate n space) ≡ true
unfolding is_space
spaces n = list_all-replicate n space

all_both : (xs ys : List ℕ) → list_all is_space xs ≡ true → list_all is_space ys ≡ true → list_all is_space (xs ++ ys) ≡ true
all_both [] ys h k = k
all_both (x ∷ xs) ys h k = let parts = and_parts (is_space x) (list_all is_space xs) h in rw (parts.0, all_both xs ys parts.1 k) refl

cut : ℕ → ℕ → List ℕ → List ℕ
cut first last xs = drop first (take (length xs - last) xs)

nothing : (n : ℕ) (xs : List ℕ) → cut n (length xs) xs ≡ []
unfolding cut
nothing n xs = let none : length xs - length xs ≡ 0 = omega arith in rw none (drop_all n [] (omega arith))

middle : (a w b : List ℕ) → cut (length a) (length b) (a ++ (w ++ b)) ≡ w
unfolding cut
middle a w b =
    let size : length ((a ++ w) ++ b) - length b ≡ length (a ++ w) = omega (arith, length-append (a ++ w) b) in
    rw (sym (append_assoc a w b)) (rw (size, take-append_seam (a ++ w) b) (drop-append_seam a w))

word_is : (chars word : List ℕ) → IsWordIn chars word → word_in chars ≡ word
unfolding word_in is_space cut
word_is chars word h =
    let a : List ℕ = replicate h.before space in
    let b : List ℕ = replicate h.after space in
    elim (trimmed word h.last) [
      | inl none ↦
          let bare : chars ≡ a ++ b = h.spelled ∙ ap (λ w. a ++ (w ++ b)) none in
          let all : list_all is_space chars ≡ true = ap (list_all is_space) bare ∙ all_both a b (spaces h.before) (spaces h.after) in
          let last : suffix_len is_space chars ≡ length chars = suffix_stops [] chars all refl in
          ap (λ n. cut (prefix_len is_space chars) n chars) last ∙ nothing (prefix_len is_space chars) chars ∙ sym none
      | inr (front, x, is, other) ↦
          let first : prefix_len is_space (a ++ (word ++ b)) ≡ length a
          = prefix_stops is_space a (word ++ b) (spaces h.before) (starts (word ++ b) (kept word b front x is h.first)) in
          let whole : a ++ word ≡ (a ++ front) ++ x ∷ [] = ap (λ w. a ++ w) is ∙ sym (append_assoc a front (x ∷ [])) in
          let last : suffix_len is_space ((a ++ word) ++ b) ≡ length b
          = suffix_stops (a ++ word) b (spaces h.after) (ap (λ w. prefix_len is_space (reverse w)) whole ∙ ends (a ++ front) x other) in
          let end : suffix_len is_space (a ++ (word ++ b)) ≡ length b = ap (suffix_len is_space) (sym (append_assoc a word b)) ∙ last in
          ap (λ cs. cut (prefix_len is_space cs) (suffix_len is_space cs) cs) h.spelled
          ∙ ap (λ n. cut n (suffix_len is_space (a ++ (word ++ b))) (a ++ (word ++ b))) first
          ∙ ap (λ n. cut (length a) n (a ++ (word ++ b))) end ∙ middle a word b
    ] where
      kept : (word tail front : List ℕ) (x : ℕ) → word ≡ front ++ x ∷ [] → begins_with space word ≡ false → begins_with space (word ++ tail) ≡ false
      kept [] tail front x is h = let n : 0 ≡ length front + 1 = ap length is ∙ length-append front (x ∷ []) in absurd (omega (arith, n))
      kept (b ∷ bs) tail front x is h = h

pub word_found : (chars : List ℕ) → IsWordIn chars (word_in chars)
word_found chars =
    let s = leading chars in
    let t = trailing s.1 in
    let is : IsWordIn chars t.0 = record {
      before = s.0;
      after = t.1;
      spelled = s.2 ∙ ap (λ z. replicate s.0 space ++ z) t.2;
      first = first_off t.0 (replicate t.1 space) s.1 t.2 s.3;
      last = never_last t.0 t.3;
    } in
    subst (IsWordIn chars) (sym (word_is chars t.0 is)) is

pub word_one : (chars a b : List ℕ) → IsWordIn chars a → IsWordIn chars b → a ≡ b
word_one chars a b is_a is_b = sym (word_is chars a is_a) ∙ word_is chars b is_b
