use Rattle.std.proofs.Common.{◌≡◌, ◌++◌, ◌-◌, ◌≤◌, ◌∷◌, [], ℕ, List, ap, arith, drop, get_or, length, sym, take, take_all}
use Rattle.std.specs.List.{flat_map}
use Rattle.io_text.proofs.Sending.{sends_last}
use Rattle.cli_usage.specs.declared.rule.Term.{Term}
use Rattle.cli_usage.specs.Rules.{joined, term_text}
use Rattle.cli_usage.proofs.telling.add_joined.Goals as goal

joined_cut : (word : List ℕ) (terms : List Term) (d : Term) → 1 ≤ length terms
    → joined word terms ≡ term_text (get_or terms 0 d) ++ flat_map (λ t. word ++ term_text t) (take (length terms - 1) (drop 1 terms))
joined_cut word [] d some = absurd (omega (arith, some))
joined_cut word (term ∷ terms) d some =
    ap (λ ts. term_text term ++ flat_map (λ t. word ++ term_text t) ts) (sym (take_all (length (term ∷ terms) - 1) terms (omega arith)))

pub returns-in_ok-add_term-in-len1-up : goal.returns-in_ok-add_term-in-len1-up
returns-in_ok-add_term-in-len1-up g c =
    sends_last _ _ _ _ _ _ (joined c.args.word.now c.args.terms.now) _ _ _ (joined_cut c.args.word.now c.args.terms.now _ c.in-len1-up.len_at_least)
    c.in_ok-add_term-in-len1-up.ensures c.add_others.ensures
