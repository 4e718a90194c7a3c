use Rattle.std.proofs.Common.{◌≡◌, ◌∙◌, ap, string_bytes, None, ◌+◌, length, map, subst, sym, ℕ}
use Rattle.cli_views.specs.Watched.{IsUnknownName, symbol_of}
use Rattle.cli_views.proofs.Names.{unknown_name}
use Rattle.cli_views.proofs.watched.named.Goals as goal

pub returns-in_default-clause-fault : goal.returns-in_default-clause-fault
returns-in_default-clause-fault c =
    let unknown : symbol_of c.args.decls.now (string_bytes c.word-item.result) ≡ None = cc in
    let number : length c.loop-word.watched.items + 1 ≡ c.len.result + 1 = ap (λ n. n + 1) (sym (c.len.ensures ∙ c.loop-word.watched.ok.0)) in
    subst (λ (n : ℕ). IsUnknownName c.args.decls.now (map string_bytes c.args.words.now) n) number
    (unknown_name c.args.decls.now string_bytes c.args.words.now c.loop-word.word-index c.word-item.result _ c.loop-word-test.true c.word-item.is unknown c.loop-word.invariant)
