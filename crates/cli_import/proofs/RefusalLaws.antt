-- What is said of some refusals, up to a place and after it.
use Rattle.std.proofs.Common.{◌≡◌, ◌∙◌, ap, sym, refl, ℕ, Bool, ◌+◌, ◌<◌, List, [], ◌∷◌, ◌++◌, length, take, drop, get_or, append_assoc, append-nil, add-one, take-suc, take-append-drop}
use Rattle.clp_import.specs.declared.refusal.Refusal.{Refusal}
use Rattle.cli_import.specs.Lines.{refusal_text, refusals_text}

pub refusals-append : (why : Bool) (rs qs : List Refusal) → refusals_text why (rs ++ qs) ≡ refusals_text why rs ++ refusals_text why qs
refusals-append why [] qs = refl
refusals-append why (r ∷ rs) qs =
    ap (λ x. refusal_text why r ++ x) (refusals-append why rs qs) ∙ sym (append_assoc (refusal_text why r) (refusals_text why rs) (refusals_text why qs))

-- one refusal more
pub refusals-take : (why : Bool) (rs : List Refusal) (i : ℕ) (d : Refusal) → i < length rs
    → refusals_text why (take (i + 1) rs) ≡ refusals_text why (take i rs) ++ refusal_text why (get_or rs i d)
refusals-take why rs i d h =
    let t : take (i + 1) rs ≡ take i rs ++ (get_or rs i d ∷ []) = rw (add-one i) (take-suc rs i d h) in
    ap (refusals_text why) t
    ∙ refusals-append why (take i rs) (get_or rs i d ∷ [])
    ∙ ap (λ x. refusals_text why (take i rs) ++ x) (append-nil (refusal_text why (get_or rs i d)))

-- the whole text, cut after a refusal
pub refusals-cut : (why : Bool) (rs : List Refusal) (i : ℕ) (d : Refusal) → i < length rs
    → refusals_text why rs ≡ (refusals_text why (take i rs) ++ refusal_text why (get_or rs i d)) ++ refusals_text why (drop (i + 1) rs)
refusals-cut why rs i d h =
    ap (refusals_text why) (sym (take-append-drop (i + 1) rs))
    ∙ refusals-append why (take (i + 1) rs) (drop (i + 1) rs)
    ∙ ap (λ x. x ++ refusals_text why (drop (i + 1) rs)) (refusals-take why rs i d h)
