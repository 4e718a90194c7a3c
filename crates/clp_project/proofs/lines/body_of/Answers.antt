use Rattle.std.proofs.Common.{◌∙◌, ap, map, not, sym, take}
use Rattle.std.proofs.lemmas.List.{take-map}
use Rattle.clp_project.specs.Format.{ends_part}
use Rattle.clp_project.proofs.Joining.{told_len}
use Rattle.clp_project.proofs.lines.body_of.Goals as goal

pub returns : goal.returns
returns c =
    let lines = c.args.lines.now in
    sym (take-map _ c.body_len.result lines) ∙ ap (λ n. take n (map (λ l. l.now) lines)) (c.body_len.ensures.value ∙ told_len (λ l. not (ends_part l)) lines)
