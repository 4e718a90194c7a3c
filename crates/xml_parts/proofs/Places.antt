-- The items from a place on, one by one.
use Rattle.std.proofs.Common.{◌≡◌, ℕ, zero, suc, ◌+◌, ◌-◌, ◌<◌, min, List, [], ◌∷◌, ◌++◌, length, take, drop, map, get_or, refl, sym, ap, ◌∙◌, arith}
use Rattle.std.proofs.lemmas.List.{append-nil, append_assoc, drop-map, drop_min, drop_more, map_push, take_rest}
use Rattle.xml_document.specs.declared.document.Document.{Document}
use Rattle.xml_document.specs.declared.document.Span.{Span}
use Rattle.xml_document.specs.declared.document.Event.{Event}
use Rattle.xml_document.specs.declared.document.Event.TheVariants as event
use Rattle.xml_document.specs.Items.{Item, opens, closes, bytes_at, item_of}
use Rattle.xml_parts.specs.declared.elements.Part.{Part}
use Rattle.xml_parts.specs.Parts.{items_from, part_of, parts_within}

pub from_place : {X Y : Type 0} (f : X → Y) (xs : List X) (n : ℕ)
    → map f (take (length xs - min n (length xs)) (drop (min n (length xs)) xs)) ≡ drop n (map f xs)
from_place f xs n = ap (map f) (take_rest xs (min n (length xs)) ∙ drop_min n xs) ∙ sym (drop-map f n xs)

pub at_place : {X Y : Type 0} (f : X → Y) (xs : List X) (n : ℕ) (x : X) → n < length xs → x ≡ get_or xs n x
    → drop n (map f xs) ≡ f x ∷ drop (n + 1) (map f xs)
at_place f xs n x within is =
    drop-map f n xs ∙ ap (map f) (drop_more xs n x within) ∙ ap (λ y. f y ∷ map f (drop (n + 1) xs)) (sym is)
    ∙ ap (λ ys. f x ∷ ys) (sym (drop-map f (n + 1) xs))

-- ---- elements within one another

opened_within : (depth : ℕ) (name : List ℕ) (items : List Item) → (depth ≡ 0 → ⊥) → parts_within depth (opens name ∷ items) ≡ parts_within (depth + 1) items
opened_within zero name items some = absurd (some refl)
opened_within (suc n) name items some = let e : suc (suc n) ≡ suc n + 1 = omega arith in ap (λ k. parts_within k items) e

closed_within : (depth : ℕ) (items : List Item) → (depth ≡ 0 → ⊥) → parts_within depth (closes ∷ items) ≡ parts_within (depth - 1) items
closed_within zero items some = absurd (some refl)
closed_within (suc n) items some = let e : n ≡ suc n - 1 = omega arith in ap (λ k. parts_within k items) e

-- what is found so far, and what is still to be found
abbrev Finds : Document → List (List ℕ × List Item) → List Part → (depth next : ℕ) → Type 0
Finds d all parts depth next = all ≡ map (part_of d) parts ++ parts_within depth (items_from d next)

abbrev IsNext : Document → ℕ → Event → Type 0
IsNext d n e = items_from d n ≡ item_of d.bytes.items e ∷ items_from d (n + 1)

pub next_at : (d : Document) (n : ℕ) (x e : Event) → n < length d.events.items → x ≡ get_or d.events.items n x → x ≡ e → IsNext d n e
next_at d n x e within is same = at_place (item_of d.bytes.items) d.events.items n x within is ∙ ap (λ y. item_of d.bytes.items y ∷ items_from d (n + 1)) same

pub finds_one : (d : Document) (all : List (List ℕ × List Item)) (parts : List Part) (depth n : ℕ) (name : Span) → IsNext d n (event.Open name)
    → depth ≡ 0 → Finds d all parts depth n
    → Finds d all (parts ++ record { name = name; inside = n + 1 } ∷ []) (depth + 1) (n + 1)
finds_one d all parts depth n name is none finds =
    let step : parts_within depth (items_from d n) ≡ part_of d (record { name = name; inside = n + 1 }) ∷ parts_within (depth + 1) (items_from d (n + 1)) =
    rw (none, is) refl in
    let rest = parts_within (depth + 1) (items_from d (n + 1)) in
    finds ∙ ap (λ xs. map (part_of d) parts ++ xs) step
    ∙ sym (append_assoc (map (part_of d) parts) (part_of d (record { name = name; inside = n + 1 }) ∷ []) rest)
    ∙ sym (ap (λ xs. xs ++ rest) (map_push (part_of d) parts (record { name = name; inside = n + 1 })))

pub finds_within : (d : Document) (all : List (List ℕ × List Item)) (parts : List Part) (depth n : ℕ) (name : Span) → IsNext d n (event.Open name)
    → (depth ≡ 0 → ⊥) → Finds d all parts depth n → Finds d all parts (depth + 1) (n + 1)
finds_within d all parts depth n name is some finds =
    finds ∙ ap (λ xs. map (part_of d) parts ++ parts_within depth xs) is
    ∙ ap (λ xs. map (part_of d) parts ++ xs) (opened_within depth (bytes_at d.bytes.items name) (items_from d (n + 1)) some)

pub finds_behind : (d : Document) (all : List (List ℕ × List Item)) (parts : List Part) (depth n : ℕ) → IsNext d n event.Close
    → (depth ≡ 0 → ⊥) → Finds d all parts depth n → Finds d all parts (depth - 1) (n + 1)
finds_behind d all parts depth n is some finds =
    finds ∙ ap (λ xs. map (part_of d) parts ++ parts_within depth xs) is
    ∙ ap (λ xs. map (part_of d) parts ++ xs) (closed_within depth (items_from d (n + 1)) some)

pub finds_on : (d : Document) (all : List (List ℕ × List Item)) (parts : List Part) (depth n : ℕ) (x : Item) → items_from d n ≡ x ∷ items_from d (n + 1)
    → parts_within depth (x ∷ items_from d (n + 1)) ≡ parts_within depth (items_from d (n + 1)) → Finds d all parts depth n → Finds d all parts depth (n + 1)
finds_on d all parts depth n x is passes finds =
    finds ∙ ap (λ xs. map (part_of d) parts ++ parts_within depth xs) is ∙ ap (λ xs. map (part_of d) parts ++ xs) passes

pub finds_all : (d : Document) (all : List (List ℕ × List Item)) (parts : List Part) (depth n : ℕ) → IsNext d n event.Close → depth ≡ 0
    → Finds d all parts depth n → map (part_of d) parts ≡ all
finds_all d all parts depth n is none finds =
    let step : parts_within depth (items_from d n) ≡ [] = rw (none, is) refl in
    sym (finds ∙ ap (λ xs. map (part_of d) parts ++ xs) step ∙ append-nil (map (part_of d) parts))
