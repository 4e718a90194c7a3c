use Rattle.std.proofs.Common.{◌≡◌, ◌∙◌, List, ℕ, None, Some, Bool, false, bytes_eq, refl, sym}
use Rattle.clap.specs.Words.{Row, Text, first_of, found_of, rows_of}
use Rattle.clap.proofs.WalkLemmas.{first_value-rows}
use Rattle.cli_usage.specs.Rules.{is_text}
use Rattle.cli_usage.proofs.broken.has_text.Goals as goal

text_there : (rows : List Row) (id : Text) (text found : List ℕ) → first_of id rows ≡ Some found → bytes_eq found text ≡ is_text rows id text
text_there rows id text found is = rw (is, is_text) refl

no_text : (rows : List Row) (id : Text) (text : List ℕ) → first_of id rows ≡ None → false ≡ is_text rows id text
no_text rows id text none = rw (none, is_text) refl

pub returns-in-Some : goal.returns-in-Some
returns-in-Some c =
    c.eq.ensures ∙ text_there (rows_of (found_of c.args.found.now)) c.args.id.now c.args.text.now c.in-Some.value.now
    (sym (first_value-rows (found_of c.args.found.now) c.args.id.now) ∙ sym c.in-Some.ensures)

pub returns-in-None : goal.returns-in-None
returns-in-None c =
    no_text (rows_of (found_of c.args.found.now)) c.args.id.now c.args.text.now
    (sym (first_value-rows (found_of c.args.found.now) c.args.id.now) ∙ sym c.in-None.ensures)
