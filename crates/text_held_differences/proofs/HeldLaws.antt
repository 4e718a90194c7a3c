-- The rows of differences over several scans as far as they are written.
use Rattle.std.proofs.Common.{◌≡◌, ◌≢◌, ◌∙◌, ℕ, ◌+◌, ◌≤◌, List, [], ◌∷◌, ◌++◌, Option, Some, Result, Ok, Err, sym, refl, ap, add-one, append_assoc, append-nil, codes, drop}
use Rattle.std.specs.Prelude.{IsErr, MatchResult}
use Rattle.io_text.specs.Buffer.{SendsAll}
use Rattle.io_text.specs.Log.{WriteLog}
use Rattle.io_text.specs.Text.{after_commas, line_text}
use Rattle.diff_held.specs.Cursor.{HeldDifferenceCursor, KeepsQuestions}
use Rattle.diff_held.specs.declared.row.HeldDifference.{HeldDifference}
use Rattle.text_causes.specs.CauseText.{limited}
use Rattle.text_causes.specs.Limit.{limit_left}
use Rattle.text_causes.proofs.Limits.{Added, added_more, added_none, lines}
use Rattle.text_causes.proofs.Taking.{dropped_one}
use Rattle.text_held_differences.specs.HeldText.{TakesHeld, TakesHeldAtMost, held_difference_record}

-- the pieces that a record is written in
pub in_pieces : (first second third : List ℕ) (rest : List (List ℕ))
    → line_text (first ∷ second ∷ third ∷ rest)
    ≡ first ++ (codes "," ++ (second ++ (codes "," ++ (third ++ ((after_commas rest ++ codes "\n") ++ [])))))
in_pieces first second third rest =
    let ends = after_commas rest in
    ap (λ t. first ++ (codes "," ++ t)) (append_assoc second (codes "," ++ (third ++ ends)) (codes "\n"))
    ∙ ap (λ t. first ++ (codes "," ++ (second ++ (codes "," ++ t)))) (append_assoc third ends (codes "\n"))
    ∙ ap (λ t. first ++ (codes "," ++ (second ++ (codes "," ++ (third ++ t))))) (sym (append-nil (ends ++ codes "\n")))

-- So many rows were written, and the cursor has given them.
pub record WrittenHeld (a b : WriteLog) (waited waits : List ℕ) (k : ℕ) (limit : Option ℕ) (old new : HeldDifferenceCursor) (count : ℕ) : Type 0 where
  pub added : Added a b waited waits (lines (held_difference_record k)) count limit (limited limit old.rest) (limited (limit_left limit count) new.rest)
  pub takes : TakesHeld old new count

pub written_none : (a : WriteLog) (w : List ℕ) (k : ℕ) (limit : Option ℕ) (c : HeldDifferenceCursor) → WrittenHeld a a w w k limit c c 0
written_none a w k limit c = record {
  added = added_none a w (lines (held_difference_record k)) limit c.rest;
  takes = record { questions = (refl, refl); rest = refl };
}

-- one difference more that was given
pub taken_more : (old mid new : HeldDifferenceCursor) (count : ℕ) (d : HeldDifference) → TakesHeld old mid count → mid.rest ≡ d ∷ new.rest
    → KeepsQuestions mid new → TakesHeld old new (count + 1)
taken_more old mid new count d so_far first same = record {
  questions = (same.0 ∙ so_far.questions.0, same.1 ∙ so_far.questions.1);
  rest = dropped_one old.rest new.rest d count (sym so_far.rest ∙ first) ∙ ap (λ m. drop m old.rest) (sym (add-one count));
}

pub written_more : (a b c : WriteLog) (w0 w1 w2 : List ℕ) (k : ℕ) (limit : Option ℕ) (old mid new : HeldDifferenceCursor) (count : ℕ) (d : HeldDifference)
    → WrittenHeld a b w0 w1 k limit old mid count → mid.rest ≡ d ∷ new.rest → KeepsQuestions mid new → limit ≢ Some count
    → SendsAll b c w1 w2 (line_text (held_difference_record k d)) → WrittenHeld a c w0 w2 k limit old new (count + 1)
written_more a b c w0 w1 w2 k limit old mid new count d so_far first same short sent = record {
  added = added_more a b c w0 w1 w2 (lines (held_difference_record k)) count limit (limited limit old.rest) mid.rest d new.rest
      (line_text (held_difference_record k d)) (λ left. refl) so_far.added first short sent;
  takes = taken_more old mid new count d so_far.takes first same;
}

-- what was taken before a fault
pub taken_err : {E : Type 0} (old new : HeldDifferenceCursor) (r : Result ℕ E) (count most : ℕ) → IsErr r → count ≤ most → TakesHeld old new count
    → MatchResult r (λ n. TakesHeld old new n) (λ fault. TakesHeldAtMost old new most)
taken_err old new (Ok n) count most e few h = cc
taken_err old new (Err fault) count most e few h = (count, few, h)
