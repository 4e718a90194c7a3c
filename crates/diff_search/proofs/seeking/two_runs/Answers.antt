use Rattle.std.proofs.Common.{◌∙◌, ap, map, sym}
use Rattle.std.proofs.lemmas.Simd.{map-map}
use Rattle.diff_runs.specs.Assuming.{assumptions}
use Rattle.diff_runs.specs.Pulling.{pulled, pulled_scan}
use Rattle.diff_matching.specs.Runs.{new_scan, old_scan}
use Rattle.diff_search.proofs.seeking.two_runs.Goals as goal

pub returns : goal.returns
returns c =
    let s = c.args.sides in
    let olds = c.args.prepared.now.old_places.items in
    let news = c.args.prepared.now.new_places.items in
    let run = c.args.run.now in
    λ x there are_in switched.
    let are = c.shown.ensures s.matching.now s.of_old.now s.of_new.now c.requires.beside x there are_in (assumptions s.assumed)
    olds news c.args.prepared.now.joint c.requires.prepared.joined c.args.value run switched in
    record {
      showing = record {
        scans = map (pulled olds news) run;
        shows = are.shows;
        of_old = c.in_ok-pulled.ensures ∙ ap (λ places. map (pulled_scan places) run) c.deref.ensures.value ∙ sym (map-map old_scan (pulled olds news) run);
        of_new = c.in_ok-pulled-2.ensures ∙ ap (λ places. map (pulled_scan places) run) c.deref-2.ensures.value ∙ sym (map-map new_scan (pulled olds news) run);
      };
      assumed = are.assumed;
    }
