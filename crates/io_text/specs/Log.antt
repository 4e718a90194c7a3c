-- What a reader has left and a writer has taken, with the count of their calls.
use Rattle.std.specs.Prelude.{◌≡◌, ◌++◌, ℕ, List, Option, Result, MatchResult}
use Rattle.std.specs.Io.KnownBytes.{Appends}
use Rattle.io_text.specs.declared.tally.Tally.{Tally}
use Rattle.io_text.specs.Calls.{AllPass, LastFails}

-- a reader: the bytes that its calls give from here on, where it tells them
pub record ReadLog : Type 0 where
  pub remaining : Option (List ℕ)
  pub tally : Tally

-- a writer: the bytes that it took, where it tells them
pub record WriteLog : Type 0 where
  pub contents : Option (List ℕ)
  pub tally : Tally

-- known bytes grew by a prefix of the text
abbrev pub AppendsPrefix : Option (List ℕ) → Option (List ℕ) → List ℕ → Type 0
AppendsPrefix old new text = (front : List ℕ) × (back : List ℕ) × (text ≡ front ++ back) × Appends old new front

-- the whole text was written, and no call failed
pub record PutsAll (old new : WriteLog) (text : List ℕ) : Type 0 where
  pub bytes : Appends old.contents new.contents text
  pub calls : AllPass old.tally new.tally

-- a prefix of the text was written, and then a call failed, the last one
pub record PutsPrefix (old new : WriteLog) (text : List ℕ) : Type 0 where
  pub bytes : AppendsPrefix old.contents new.contents text
  pub calls : LastFails old.tally new.tally

-- what a function that writes a text did
abbrev pub Puts : {T : Type 0} {E : Type 0} → WriteLog → WriteLog → Result T E → List ℕ → Type 0
Puts old new r text = MatchResult r (λ _. PutsAll old new text) (λ _. PutsPrefix old new text)
