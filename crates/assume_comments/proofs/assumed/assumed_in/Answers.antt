use Rattle.std.proofs.Common.{Some, ap, ◌∙◌, map, string_bytes}
use Rattle.assume_comments.specs.Front.{start_read}
use Rattle.assume_comments.proofs.Walks.{breaks, commented, ends, passed}
use Rattle.assume_comments.proofs.assumed.assumed_in.Goals as goal

pub returns-in-End : goal.returns-in-End
returns-in-End c = ends _ _ _ c.loop-front.invariant (c.in-Some.ensures.value ∙ ap (λ f. Some (start_read f)) c.in-End.is)

pub loop-front-preserved-in-Comment : goal.loop-front-preserved-in-Comment
loop-front-preserved-in-Comment c =
    commented _ _ _ _ _ _ c.loop-front.invariant (c.in-Some.ensures.value ∙ ap (λ f. Some (start_read f)) c.in-Comment.is)
    c.in_ok-add_assumed-in-Comment.ensures

pub loop-front-preserved : goal.loop-front-preserved
loop-front-preserved c = passed _ _ _ _ c.loop-front.invariant (c.in-Some.ensures.value ∙ ap (λ f. Some (start_read f)) c.in-Other.is)

pub returns : goal.returns
returns c = breaks _ _ _ _ c.loop-front.invariant c.in_default.ensures.value (ap (map string_bytes) c.new.ensures.items)
