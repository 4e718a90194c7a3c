use Rattle.std.proofs.Common.{◌≡◌, ◌∙◌, ◌+◌, ◌++◌, ◌∷◌, ap, drop, length, map, refl, subst, sym}
use Rattle.csv.specs.Records.{fields_of}
use Rattle.text_trace.specs.Coming.{Gives, coming}
use Rattle.text_trace.specs.Filled.{filled_after, numbered, repeated}
use Rattle.text_trace.proofs.Coming.{gives_own, takes_some}
use Rattle.text_trace.proofs.filling.take_ahead.Goals as goal

pub returns-clause-takes : goal.returns-clause-takes
returns-clause-takes c = λ all comes.
    let f = c.args.filling.now in
    let columns = c.args.columns.now in
    let rows = comes.0 in
    let ahead = fields_of f.ahead in
    let behind = filled_after f.every (length columns) (f.number + 1) ahead rows in
    let same : all ≡ numbered f.number ahead ∷ behind =
    comes.2 ∙ ap (λ b. coming b columns f rows) c.requires.read
    ∙ ap (λ n. map (numbered f.number) (repeated f.every (drop 1 (fields_of f.last)) f.moment n) ++ (numbered f.number ahead ∷ behind)) c.requires.last in
    takes_some columns _ _ all (numbered f.number ahead) behind same (
      refl,
      subst (λ row. Gives columns f.to (fields_of row) ahead) (sym c.swap.ensures.x_after) (gives_own f.to columns ahead (c.requires.sound.next c.requires.read)),
      (rows, comes.1, ap (λ row. filled_after f.every (length columns) (f.number + 1) (fields_of row) rows) (sym c.swap.ensures.x_after)),
    )
