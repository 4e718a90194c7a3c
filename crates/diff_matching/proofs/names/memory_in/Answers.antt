use Rattle.diff_matching.proofs.Edges.{memory_in}
use Rattle.diff_matching.proofs.names.memory_in.Goals as goal

pub returns : goal.returns
returns c =
    memory_in c.args.old.now c.args.new.now c.decls.result.now c.decls-2.result.now c.args.olds.now c.args.news.now c.args.number c.rank.result c.in_ok-owner.owner
    c.in_ok-belonging.belonging c.edge_at.result c.requires.olds c.requires.news c.decls.ensures c.decls-2.ensures c.rank.ensures c.requires.number c.in_ok-owner.was
    c.in_ok-belonging.ensures c.edge_at.ensures
