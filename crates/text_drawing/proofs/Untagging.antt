-- The elements of a line change none of its characters.
use Rattle.std.proofs.Common.{◌≡◌, ◌∙◌, ◌==◌, ◌++◌, ◌∷◌, [], ℕ, Bool, true, false, cond, List, zero, suc, refl, sym, ap, append_assoc, append-nil, length, codes}
use Rattle.std.specs.Prelude.{bytes_eq, slice_index_or}
use Rattle.scan_cycle.specs.declared.seen.Mark.{Mark}
use Rattle.text_drawing.specs.declared.look.Look.{Look}
use Rattle.text_drawing.specs.declared.look.Look.TheVariants.{Wire, Link, Joint}
use Rattle.text_drawing.specs.Browser.{KeepsCharacters, untagged}
use Rattle.text_drawing.specs.Page.{before, closing, drawn_place, escaped, look_at, opening, turn}
use Rattle.text_power.specs.Show.{each}

opened : (look : Look) (rest : List ℕ) → untagged false (opening look ++ rest) ≡ untagged false rest
unfolding untagged
opened (Wire true) rest = refl
opened (Link true) rest = refl
opened (Joint true) rest = refl
opened _ rest = refl

closed : (look : Look) (rest : List ℕ) → untagged false (closing look ++ rest) ≡ untagged false rest
unfolding untagged
closed (Wire true) rest = refl
closed (Link true) rest = refl
closed (Joint true) rest = refl
closed _ rest = refl

turned_by : (same : Bool) (from to : Look) (rest : List ℕ) → untagged false (cond same [] (closing from ++ opening to) ++ rest) ≡ untagged false rest
turned_by true from to rest = refl
turned_by false from to rest =
    ap (untagged false) (append_assoc (closing from) (opening to) rest) ∙ closed from (opening to ++ rest) ∙ opened to rest

turned : (from to : Look) (rest : List ℕ) → untagged false (turn from to ++ rest) ≡ untagged false rest
turned from to rest = turned_by (bytes_eq (opening from) (opening to)) from to rest

escaped_by : (amp lt gt quote : Bool) (b : ℕ) (rest : List ℕ) → (b == 60) ≡ lt
    → let c = cond amp (codes "&amp;") (cond lt (codes "&lt;") (cond gt (codes "&gt;") (cond quote (codes "&quot;") (b ∷ [])))) in
    untagged false (c ++ rest) ≡ c ++ untagged false rest
unfolding untagged
escaped_by false false false false b rest e = rw e refl
escaped_by _ _ _ _ b rest e = refl

kept : (b : ℕ) (rest : List ℕ) → untagged false (escaped b ++ rest) ≡ escaped b ++ untagged false rest
kept b rest = escaped_by (b == 38) (b == 60) (b == 62) (b == 34) b rest refl

places : (looks : ℕ → Look) (text : List ℕ) (n : ℕ) (rest : List ℕ)
    → untagged false (each (drawn_place looks text) n ++ rest) ≡ each (λ at. escaped (slice_index_or text at 32)) n ++ untagged false rest
unfolding each
places looks text zero rest = refl
places looks text (suc n) rest =
    let tags = turn (before looks n) (looks n) in
    let char = escaped (slice_index_or text n 32) in
    let front = each (drawn_place looks text) n in
    let plain = each (λ at. escaped (slice_index_or text at 32)) n in
    ap (untagged false) (append_assoc front (tags ++ char) rest ∙ ap (λ t. front ++ t) (append_assoc tags char rest))
    ∙ places looks text n (tags ++ (char ++ rest))
    ∙ ap (λ t. plain ++ t) (turned (before looks n) (looks n) (char ++ rest) ∙ kept (slice_index_or text n 32) rest)
    ∙ sym (append_assoc plain char (untagged false rest))

ended : (look : Look) → untagged false (closing look) ≡ []
unfolding untagged
ended look = ap (untagged false) (sym (append-nil (closing look))) ∙ closed look []

pub characters_kept : (marks : List Mark) (rung line : ℕ) (text : List ℕ) → KeepsCharacters marks rung line text
characters_kept marks rung line text =
    let looks = look_at marks rung line text in
    let plain = each (λ at. escaped (slice_index_or text at 32)) (length text) in
    places looks text (length text) (closing (before looks (length text))) ∙ ap (λ t. plain ++ t) (ended (before looks (length text))) ∙ append-nil plain
