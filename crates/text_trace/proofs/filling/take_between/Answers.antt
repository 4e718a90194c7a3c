use Rattle.std.proofs.Common.{◌≡◌, ◌∙◌, ◌+◌, ◌-◌, ◌++◌, ◌∷◌, ap, arith, decimal, drop, length, map, refl, sym}
use Rattle.csv.specs.Records.{fields_of}
use Rattle.text_trace.specs.Coming.{coming}
use Rattle.text_trace.specs.Filled.{filled_after, numbered, repeated}
use Rattle.text_trace.proofs.Coming.{gives_held, next_held, one_step, takes_some}
use Rattle.text_trace.proofs.filling.take_between.Goals as goal

pub returns-clause-takes : goal.returns-clause-takes
returns-clause-takes c = λ all comes.
    let f = c.args.filling.now in
    let columns = c.args.columns.now in
    let rows = comes.0 in
    let bits = drop 1 (fields_of f.last) in
    let later = f.moment + f.every in
    let behind = numbered f.number (fields_of f.ahead) ∷ filled_after f.every (length columns) (f.number + 1) (fields_of f.ahead) rows in
    let rest = map (numbered f.number) (repeated f.every bits later (f.left - 1)) ++ behind in
    let same : all ≡ numbered f.number (decimal later ∷ bits) ∷ rest =
    comes.2 ∙ ap (λ b. coming b columns f rows) c.requires.read ∙ next_held f.every f.number f.moment f.left bits behind c.requires.some in
    takes_some columns _ _ all (numbered f.number (decimal later ∷ bits)) rest same (
      refl,
      gives_held f.from columns (fields_of f.last) later (c.requires.sound.good c.requires.read c.requires.some) c.requires.sound.last
          (omega (arith, c.requires.sound.small c.requires.read, one_step f.every f.left c.requires.some)),
      (rows, comes.1, ap (λ b. coming b columns (record f { moment = later; left = f.left - 1 }) rows) (sym c.requires.read)),
    )
