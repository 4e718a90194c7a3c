-- What one call of a reader or a writer, or a run of several, does to the count of its calls.
use Rattle.std.specs.Prelude.{◌≡◌, ◌⊎◌, ◌+◌, ◌^◌, true, false}
use Rattle.io_text.specs.declared.tally.Tally.{Tally}

-- a call that did its work
abbrev pub Passes : Tally → Tally → Type 0
Passes old new = (new.calls ≡ old.calls + 1) × (new.failures ≡ old.failures) × (new.failed ≡ false)

-- a call that failed: it is counted, or the count of calls has no next value
abbrev pub Fails : Tally → Tally → Type 0
Fails old new =
    (((new.calls ≡ old.calls + 1) × (new.failures ≡ old.failures + 1))
    ⊎ ((old.calls + 1 ≡ 2 ^ 64) × (new.calls ≡ old.calls) × (new.failures ≡ old.failures)))
    × (new.failed ≡ true)

-- no call, or calls of which none failed
abbrev pub AllPass : Tally → Tally → Type 0
AllPass old new = (new.failures ≡ old.failures) × ((new ≡ old) ⊎ (new.failed ≡ false))

-- calls of which the last one failed, and no other: so none came after the failure
abbrev pub LastFails : Tally → Tally → Type 0
LastFails old new =
    ((new.failures ≡ old.failures + 1) ⊎ ((new.calls + 1 ≡ 2 ^ 64) × (new.failures ≡ old.failures)))
    × (new.failed ≡ true)
