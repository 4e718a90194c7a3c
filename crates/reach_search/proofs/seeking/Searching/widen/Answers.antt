use Rattle.std.proofs.Common.{refl, subst, sym}
use Rattle.reach_runs.specs.Asking.{question_of}
use Rattle.reach_search.specs.Searches.{AreAsked, IsSearchOf}
use Rattle.reach_search.specs.declared.search.Search.{Search}
use Rattle.reach_search.proofs.LevelLaws.{level_first}
use Rattle.reach_search.proofs.seeking.Searching.widen.Goals as goal

pub returns-clause-round : goal.returns-clause-round
returns-clause-round c = λ _.
    let q = question_of c.args.query in
    let is = sym c.replace.ensures.after in
    record {
      search = subst (λ (s : Search). IsSearchOf q.program s) is c.in_ok-fresh.ensures.search;
      inputs = subst (λ (s : Search). AreAsked q s.inputs.items) is c.in_ok-fresh.ensures.inputs;
      level = level_first q c.replace.new.dest.set _ refl refl refl;
    }
