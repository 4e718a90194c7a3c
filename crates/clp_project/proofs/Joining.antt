-- What was read, and what is still to be read after it.
use Rattle.std.proofs.Common.{◌≡◌, ◌+◌, ◌++◌, ◌∷◌, [], ℕ, Bool, cond, List, map, Option, Some, None, Result, Ok, Err, ap, sym, refl, append_assoc, append-nil}
use Rattle.std.specs.Borrow.{Bor}
use Rattle.std.specs.List.{prefix_len}
use Rattle.clp_project.specs.Rungs.{RungRead, joined, with_first, with_rung}

-- the rungs before others, or what is wrong with these
abbrev pub before_rungs : List RungRead → Result (List RungRead) ℕ → Result (List RungRead) ℕ
before_rungs before (Ok rungs) = Ok (before ++ rungs)
before_rungs before (Err number) = Err number

-- how many lines come before the first that passes no test
pub told_len : (test : List ℕ → Bool) (lines : List (Bor (List ℕ))) → prefix_len (λ l. test l.now) lines ≡ prefix_len test (map (λ l. l.now) lines)
told_len test [] = refl
told_len test (l ∷ ls) = ap (λ n. cond (test l.now) (1 + n) 0) (told_len test ls)
