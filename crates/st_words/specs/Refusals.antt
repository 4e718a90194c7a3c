-- Why a text is refused.
use Rattle.std.specs.Prelude.{ℕ, List, drop}
use Rattle.st_words.specs.declared.fault.WordFault.{WordFault}
use Rattle.st_words.specs.declared.fault.WordFault.TheVariants as fault
use Rattle.st_words.specs.Words.{AreWords, BeginsNone, Words}

-- What is before the place is words, what is from it on begins with none, and so the text is no list of words.
pub record RefusedAt (text : List ℕ) (at : ℕ) : Type 0 where
  pub before : List (List ℕ)
  pub words : Words text before (drop at text)
  pub none : BeginsNone (drop at text)
  pub no_words : (words : List (List ℕ)) → AreWords text words → ⊥

abbrev pub Refuses : List ℕ → WordFault → Type 0
Refuses text fault.Memory = Unit {0}
Refuses text (fault.Character at) = RefusedAt text at
