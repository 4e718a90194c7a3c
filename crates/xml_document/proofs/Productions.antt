-- Productions, where the parts of a text are known by equations.
use Rattle.std.proofs.Common.{◌≡◌, arith, length, not, ◌==◌, ℕ, suc, ◌+◌, ◌*◌, ◌<◌, ◌↔◌, IsTrue, Bool, true, false, List, [], ◌∷◌, ◌++◌, codes, map, refl, sym, ap, ◌∙◌, subst}
use Rattle.std.specs.List.{list_all}
use Rattle.std.specs.Char.{is_ascii_digit, digit_value, to_ascii_lowercase}
use Rattle.std.proofs.lemmas.Bool.{both_ways, eqb-true}
use Rattle.std.proofs.lemmas.List.{append-nil}
use Rattle.xml_document.specs.Characters.{Blanks, Space, is_blank, is_char, is_name_start, is_name_byte, Run, Name, UpTo}
use Rattle.xml_document.specs.Elements.{is_quote, Equals, equals, EndTag, tag}
use Rattle.xml_document.specs.Documents.{Declared, declared, IsVersion, IsUtf8Name, IsYesOrNo, Maybe, Declaration, there, One, blank, OrderMark, there as mark_there}
use Rattle.xml_document.specs.Markup.{Comment, comment, Instruction, instruction, is_apart, Digits, digit, Reference, less, greater, ampersand, apostrophe, quotation, decimal, hexadecimal, Section, section}

pub all_map : (test : ℕ → Bool) (cs : List ℕ) → list_all test cs ≡ true → list_all test (map (λ c. c) cs) ≡ true
all_map test cs h = subst (λ xs. list_all test xs ≡ true) (same cs) h
  where
    same : (cs : List ℕ) → cs ≡ map (λ c. c) cs
    same [] = refl
    same (c ∷ cs) = ap (λ xs. c ∷ xs) (same cs)

pub false_no : {b : Bool} {P : Type 0} → (IsTrue b ↔ P) → b ≡ false → P → ⊥
false_no h e p = both_ways _ e (h.1 p)

pub name_at : (text name rest others : List ℕ) (b : ℕ) → Run is_name_byte text rest name → name ≡ b ∷ others → is_name_start b ≡ true → Name text rest name
name_at text name rest others b r e h = record { whole = r.whole; is_name = rw e (rw h (subst (λ t. list_all is_name_byte t ≡ true) e r.passes)) }

pub comment_at : (text start end rest inside : List ℕ) → text ≡ codes "<!--" ++ start → UpTo (codes "--") start end inside → end ≡ codes ">" ++ rest
    → Comment text rest
comment_at text start end rest inside e up f =
    subst (λ t. Comment t rest) (sym e) (comment start inside rest (subst (λ t. UpTo (codes "--") start t inside) f up))

pub section_at : (text start rest inside : List ℕ) → text ≡ codes "<![CDATA[" ++ start → UpTo (codes "]]>") start rest inside → Section text rest inside
section_at text start rest inside e up = subst (λ t. Section t rest inside) (sym e) (section start rest inside up)

pub instruction_at : (text start target after inside rest : List ℕ) → text ≡ codes "<?" ++ start → Name start after target
    → (map to_ascii_lowercase target ≡ codes "xml" → ⊥) → UpTo (codes "?>") after rest inside → is_apart inside ≡ true → Instruction text rest
instruction_at text start target after inside rest e n x up apart =
    subst (λ t. Instruction t rest) (sym e) (instruction start target after inside rest n x up apart)

pub one_digit : (base : ℕ) (text rest after : List ℕ) (b d n : ℕ) → Digits base text rest n → rest ≡ b ∷ after → digit_value b < base → d ≡ digit_value b
    → Digits base text after (n * base + d)
one_digit base text rest after b d n ds e h same =
    subst (λ v. Digits base text after (n * base + v)) (sym same) (digit text after b n (subst (λ t. Digits base text t n) e ds) h)

pub decimal_at : (text start rest : List ℕ) (c : ℕ) → text ≡ codes "&#" ++ start → Digits 10 start (codes ";" ++ rest) c → is_char c ≡ true
    → Reference text rest c
decimal_at text start rest c e ds h = subst (λ t. Reference t rest c) (sym e) (decimal start rest c ds h)

pub hexadecimal_at : (text start rest : List ℕ) (c : ℕ) → text ≡ codes "&#x" ++ start → Digits 16 start (codes ";" ++ rest) c → is_char c ≡ true
    → Reference text rest c
hexadecimal_at text start rest c e ds h = subst (λ t. Reference t rest c) (sym e) (hexadecimal start rest c ds h)

pub less_at : (text rest : List ℕ) → text ≡ codes "&lt;" ++ rest → Reference text rest 60
less_at text rest e = subst (λ t. Reference t rest 60) (sym e) (less rest)

pub greater_at : (text rest : List ℕ) → text ≡ codes "&gt;" ++ rest → Reference text rest 62
greater_at text rest e = subst (λ t. Reference t rest 62) (sym e) (greater rest)

pub ampersand_at : (text rest : List ℕ) → text ≡ codes "&amp;" ++ rest → Reference text rest 38
ampersand_at text rest e = subst (λ t. Reference t rest 38) (sym e) (ampersand rest)

pub apostrophe_at : (text rest : List ℕ) → text ≡ codes "&apos;" ++ rest → Reference text rest 39
apostrophe_at text rest e = subst (λ t. Reference t rest 39) (sym e) (apostrophe rest)

pub quotation_at : (text rest : List ℕ) → text ≡ codes "&quot;" ++ rest → Reference text rest 34
quotation_at text rest e = subst (λ t. Reference t rest 34) (sym e) (quotation rest)

pub ended_by : (base : ℕ) (text end rest : List ℕ) (n c : ℕ) → Digits base text end n → end ≡ codes ";" ++ rest → c ≡ n → Digits base text (codes ";" ++ rest) c
ended_by base text end rest n c ds e same = rw same (subst (λ t. Digits base text t n) e ds)

pub equals_at : (text middle after rest : List ℕ) → Blanks text middle → middle ≡ codes "=" ++ after → Blanks after rest → Equals text rest
equals_at text middle after rest b e c = equals text after rest (subst (Blanks text) e b) c

pub end_tag_at : (text start after end rest found name : List ℕ) → text ≡ codes "</" ++ start → Name start after found → found ≡ name → Blanks after end
    → end ≡ codes ">" ++ rest → EndTag text rest name
end_tag_at text start after end rest found name e n same b f =
    subst (λ t. EndTag t rest name) (sym e) (tag start name after rest (subst (Name start after) same n) (subst (Blanks after) f b))

pub blank_at : (text rest : List ℕ) (b : ℕ) → text ≡ b ∷ rest → is_blank b ≡ true → One text rest
blank_at text rest b e h = subst (λ t. One t rest) (sym e) (blank rest b h)

pub order_mark_at : (text rest : List ℕ) → text ≡ 0xEF ∷ 0xBB ∷ 0xBF ∷ rest → OrderMark text rest
order_mark_at text rest e = subst (λ t. OrderMark t rest) (sym e) (mark_there rest)

pub version_at : (value digits rest run : List ℕ) → value ≡ codes "1." ++ digits → Run is_ascii_digit digits rest run → (length run == 0) ≡ false
    → (length rest == 0) ≡ true → IsVersion value
version_at value digits [] [] e r some none = absurd cc
version_at value digits [] (d ∷ ds) e r some none = (d, ds, e ∙ ap (λ t. codes "1." ++ t) (r.whole ∙ append-nil (d ∷ ds)), r.passes)
version_at value digits (b ∷ bs) run e r some none = absurd (zero_no (length bs) (eqb-true _ _ none))
  where
    zero_no : (n : ℕ) → suc n ≡ 0 → ⊥
    zero_no n h = omega arith

-- blanks, where fewer bytes are left
pub apart : (text rest : List ℕ) → Blanks text rest → (length rest ≡ length text → ⊥) → Space text rest
apart text rest b other = record { blanks = b; some = λ e. other (ap length (sym e)) }

pub declared_at : (word text start after value_start value_text end rest value : List ℕ) (quote closing : ℕ) → Space text start → start ≡ word ++ after
    → Equals after value_start → value_start ≡ quote ∷ value_text → is_quote quote ≡ true → Run (λ b. not (b == quote)) value_text end value
    → end ≡ closing ∷ rest → closing ≡ quote → Declared word text rest value
declared_at word text start after value_start value_text end rest value quote closing s e q f h r g same =
    declared text after value_text rest value quote (subst (Space text) e s) (subst (Equals after) f q) h
    (subst (λ t. Run (λ b. not (b == quote)) value_text t value) (g ∙ ap (λ b. b ∷ rest) same) r)

pub declaration_at : (text start version behind_version behind_encoding behind_standalone end rest : List ℕ) → text ≡ codes "<?xml" ++ start
    → Declared (codes "version") start behind_version version → IsVersion version → Maybe (codes "encoding") IsUtf8Name behind_version behind_encoding
    → Maybe (codes "standalone") IsYesOrNo behind_encoding behind_standalone → Blanks behind_standalone end → end ≡ codes "?>" ++ rest
    → Declaration text rest
declaration_at text start version behind_version behind_encoding behind_standalone end rest e d v m n b f =
    subst (λ t. Declaration t rest) (sym e)
    (there start behind_version behind_encoding behind_standalone rest version d v m n (subst (Blanks behind_standalone) f b))
