-- A run of bytes that stand in the same and are shown in one way is passed over at once.
use Rattle.std.proofs.Common.{◌≡◌, ℕ, ◌+◌, ◌-◌, ◌≤◌, ◌⊎◌, inl, inr, Bool, true, false, cond, ◌||◌, ◌==◌, one-add, List, [], ◌∷◌, ◌++◌, length, replicate, take, drop, get_or, Option, Some, None, refl, sym, ap, ◌∙◌, append_assoc, take_all, arith}
use Rattle.std.specs.List.{prefix_len}
use Rattle.std.proofs.lemmas.Bool.{not-true, false≢true, or_parts}
use Rattle.diagram_program.specs.Bytes.{space, line_feed}
use Rattle.diagram_page.specs.ReadLines.{is_shown, is_settled, shown_run, blanked_from, unclosed_from, next_inside, shown_byte, is_opening, is_closing}
use Rattle.diagram_page.specs.declared.lines.Inside.{Inside}
use Rattle.diagram_page.specs.declared.lines.Inside.TheVariants as inside

-- what such a byte does
record Settled (i : Inside) (b : ℕ) (bs : List ℕ) : Type 0 where
  pub blanked : blanked_from i (b ∷ bs) ≡ cond (is_shown i) b space ∷ blanked_from i bs
  pub unclosed : (line : ℕ) (since : Option ℕ) → unclosed_from i line since (b ∷ bs) ≡ unclosed_from i line since bs

either : (b : Bool) (x : ℕ) → cond b x x ≡ x
either true x = refl
either false x = refl

settled : (i : Inside) (b : ℕ) (bs : List ℕ) → is_settled i b ≡ true → Settled i b bs
settled inside.Plain b bs h =
    let all = or_parts (b == line_feed) (b == 13 || (b == 40 || b == 47)) (not-true _ h) in
    let more = or_parts (b == 13) (b == 40 || b == 47) all.1 in
    let last = or_parts (b == 40) (b == 47) more.1 in
    record { blanked = rw (all.0, more.0, last.0, last.1) refl; unclosed = λ line since. rw (all.0, last.0, last.1) refl }
settled inside.RungLine b bs h =
    let all = or_parts (b == line_feed) (b == 13) (not-true _ h) in
    record { blanked = rw (all.0, all.1) refl; unclosed = λ line since. rw all.0 refl }
settled inside.Block b bs h =
    let all = or_parts (b == line_feed) (b == 42) (not-true _ h) in
    record { blanked = rw (all.0, all.1) (ap (λ z. z ∷ blanked_from inside.Block bs) (either _ space)); unclosed = λ line since. rw (all.0, all.1) refl }
settled inside.LineComment b bs h =
    let other : (b == line_feed) ≡ false = not-true _ h in
    record { blanked = rw other (ap (λ z. z ∷ blanked_from inside.LineComment bs) (either _ space)); unclosed = λ line since. rw other refl }
settled _ b bs h = absurd (false≢true h)

abbrev pub run : Inside → List ℕ → ℕ
run i text = prefix_len (is_settled i) text

run_more : (i : Inside) (b : ℕ) (bs : List ℕ) → shown_run i (b ∷ bs) ≡ cond (is_shown i) b space ∷ shown_run i bs
run_more i b bs = elim (is_shown i) as (λ t. cond t (b ∷ bs) (replicate (length (b ∷ bs)) space) ≡ cond t b space ∷ cond t bs (replicate (length bs) space)) [ true ↦ refl | false ↦ refl ]

run_none : (i : Inside) → shown_run i [] ≡ []
run_none i = elim (is_shown i) as (λ t. cond t [] (replicate 0 space) ≡ []) [ true ↦ refl | false ↦ refl ]

pub run_blanked : (i : Inside) (text : List ℕ) → shown_run i (take (run i text) text) ++ blanked_from i (drop (run i text) text) ≡ blanked_from i text
run_blanked i [] = ap (λ z. z ++ []) (run_none i)
run_blanked i (b ∷ bs) =
    elim (is_settled i b) as (λ t. is_settled i b ≡ t → shown_run i (take (cond t (1 + run i bs) 0) (b ∷ bs)) ++ blanked_from i (drop (cond t (1 + run i bs) 0) (b ∷ bs)) ≡ blanked_from i (b ∷ bs)) [
      | true ↦ λ h. let s = settled i b bs h in rw (one-add, run_more, s.blanked) (ap (λ z. cond (is_shown i) b space ∷ z) (run_blanked i bs))
      | false ↦ λ _. rw run_none refl
    ] refl

pub run_unclosed : (i : Inside) (line : ℕ) (since : Option ℕ) (text : List ℕ) → unclosed_from i line since (drop (run i text) text) ≡ unclosed_from i line since text
run_unclosed i line since [] = refl
run_unclosed i line since (b ∷ bs) =
    elim (is_settled i b) as (λ t. is_settled i b ≡ t → unclosed_from i line since (drop (cond t (1 + run i bs) 0) (b ∷ bs)) ≡ unclosed_from i line since (b ∷ bs)) [
      | true ↦ λ h. let s = settled i b bs h in rw one-add (run_unclosed i line since bs ∙ sym (s.unclosed line since))
      | false ↦ λ _. refl
    ] refl

pub first_one : (text : List ℕ) → 1 ≤ length text → text ≡ get_or text 0 0 ∷ take (length text - 1) (drop 1 text)
first_one [] some = absurd (omega arith)
first_one (b ∷ bs) some = ap (λ z. b ∷ z) (sym (take_all (length (b ∷ bs) - 1) bs (omega arith)))

joined : (seen run more : List ℕ) (byte : ℕ) → ((seen ++ byte ∷ []) ++ run) ++ more ≡ seen ++ byte ∷ (run ++ more)
joined seen run more byte = append_assoc (seen ++ byte ∷ []) run more ∙ append_assoc seen (byte ∷ []) (run ++ more)

-- one byte, and the run behind it
module _ (i next : Inside) (b : ℕ) (rest : List ℕ) where
  pub step_seen : (seen pushed shown bytes behind : List ℕ) → next ≡ next_inside i b rest
      → pushed ≡ seen ++ shown_byte i b rest ∷ []
      → shown ≡ pushed ++ shown_run next bytes
      → bytes ≡ take (run next rest) rest
      → behind ≡ drop (run next rest) rest
      → shown ++ blanked_from next behind ≡ seen ++ blanked_from i (b ∷ rest)
  step_seen seen pushed shown bytes behind is_next is_pushed is_shown is_bytes is_behind =
      rw (is_shown, is_pushed, is_bytes, is_behind, joined, run_blanked) (ap (λ n. seen ++ shown_byte i b rest ∷ blanked_from n rest) is_next)

  pub step_unclosed : (line after : ℕ) (since found : Option ℕ) (behind : List ℕ) → next ≡ next_inside i b rest
      → after ≡ cond (b == line_feed) (line + 1) line
      → found ≡ cond (is_opening next) (Some line) (cond (is_closing next) None since)
      → behind ≡ drop (run next rest) rest
      → unclosed_from next after found behind ≡ unclosed_from i line since (b ∷ rest)
  step_unclosed line after since found behind is_next is_after is_found is_behind =
      rw is_behind (run_unclosed next after found rest ∙ rw (is_found, is_after, is_next) refl)

-- where nothing is settled there is no run
abbrev NeverSettled : Inside → Type 0
NeverSettled i = (i ≡ inside.LineStart) ⊎ ((i ≡ inside.Opening) ⊎ (i ≡ inside.Closing))

nothing : (text : List ℕ) → 0 ≡ prefix_len (λ b. false) text
nothing [] = refl
nothing (b ∷ bs) = refl

pub no_run : (i : Inside) (text : List ℕ) → NeverSettled i → 0 ≡ run i text
no_run i text (inl is) = rw is (nothing text)
no_run i text (inr (inl is)) = rw is (nothing text)
no_run i text (inr (inr is)) = rw is (nothing text)
