use Rattle.std.proofs.Common.{◌∙◌, Some, String, ap, option_map, string_bytes, sym}
use Rattle.std.specs.Global.{Global}
use Rattle.cli_names.specs.Words.{Word, is_unknown, word}
use Rattle.cli_names.proofs.Finding.{find-map}
use Rattle.cli_names.proofs.words.first_in.Goals as goal

pub returns-in-Some : goal.returns-in-Some
returns-in-Some c =
    let made : String Global → Word = λ n. word c.args.wanted (string_bytes n) in
    ap Some (c.word_for.ensures ∙ ap (word c.args.wanted) c.as_str.ensures.value) ∙ ap (option_map made) c.in-Some.ensures
    ∙ sym (find-map (is_unknown c.args.decls.now) made c.args.names.now)

pub returns-in-None : goal.returns-in-None
returns-in-None c =
    let made : String Global → Word = λ n. word c.args.wanted (string_bytes n) in
    ap (option_map made) c.in-None.ensures ∙ sym (find-map (is_unknown c.args.decls.now) made c.args.names.now)
