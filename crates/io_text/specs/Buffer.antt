-- What a call does that writes through a block of bytes that wait.
use Rattle.std.specs.Prelude.{◌≡◌, ◌++◌, ℕ, List, Result, MatchResult}
use Rattle.io_text.specs.Log.{PutsAll, PutsPrefix, WriteLog}

-- Of what waited and the text, a part was written, and the rest waits.
pub record SendsAll (old new : WriteLog) (waited waits text : List ℕ) : Type 0 where
  pub sent : List ℕ
  pub cut : waited ++ text ≡ sent ++ waits
  pub wrote : PutsAll old new sent

-- So it was, or a prefix of both was written before a call failed.
abbrev pub Sends : {T : Type 0} {E : Type 0} → WriteLog → WriteLog → List ℕ → List ℕ → Result T E → List ℕ → Type 0
Sends old new waited waits r text = MatchResult r (λ _. SendsAll old new waited waits text) (λ _. PutsPrefix old new (waited ++ text))
