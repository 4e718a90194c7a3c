-- The keeping of instances over 64 places: what each of them stores by itself.
use Rattle.std.specs.Prelude.{ℕ, ◌-◌, ◌^◌, ◌==◌, Bool, true, false, if◌then◌else◌, not, ◌&&◌, ◌||◌, List, map, slice_index_or}
use Rattle.std.specs.Int.{bit_at}
use Rattle.std.specs.List.{range_with_len}
use Rattle.std.specs.Simd.Lanes.{mask_l}
use Rattle.diagram_declarations.specs.declared.kind.BlockKind.{BlockKind}
use Rattle.diagram_declarations.specs.declared.kind.BlockKind.TheVariants.{Ton}
use Rattle.scan_signals.specs.declared.block.Stored.{Stored}
use Rattle.scan_signals.specs.Blocks.{step, q_of, new_block}
use Rattle.scan_symbolic.specs.KnownScan.{Keeping}
use Rattle.scan_signals.specs.Words.{word, words}
use Rattle.scan_signals.specs.declared.word.Word64.{Word64}
use Rattle.scan_held.specs.declared.lanes.TheConstants.{LANES}
use Rattle.scan_held.specs.declared.lanes.Lanes.{Lanes}
use Rattle.scan_held.specs.declared.lanes.Lanes.TheVariants.{Alike, Two, Apart}

-- Lane i of a word.
abbrev pub bit : Word64 → ℕ → Bool
bit x i = bit_at x.0 i == 1

-- All lanes are the same.
abbrev pub is_whole : Word64 → Bool
is_whole x = x.0 == 0 || x.0 == 2 ^ 64 - 1

-- What lane i stores.
abbrev pub stored_in : Lanes → ℕ → Stored
stored_in (Alike s) i = s
stored_in (Two q m s t) i = if bit m i then s else t
stored_in (Apart q ss) i = slice_index_or ss i (new_block Ton)

-- The Qs of the lanes.
abbrev pub q_lanes : Lanes → Word64
q_lanes (Alike s) = words.known (q_of s)
q_lanes (Two q m s t) = q
q_lanes (Apart q ss) = q

-- the word of the Qs of these
abbrev pub q_word : List Stored → Word64
q_word ss = word (mask_l (map q_of ss))

-- The lanes that are ON in a word store the one, the others the other, with the word of the Qs.
abbrev pub two : Word64 → Stored → Stored → Lanes
two m s t = Two (words.choice m (words.known (q_of s)) (words.known (q_of t))) m s t

-- Each lane stores its own, with the word of the Qs.
unfoldable pub apart : (ℕ → Stored) → Lanes
apart f = let ss = map f (range_with_len 0 LANES) in Apart (q_word ss) ss

-- What lane i stores after a step: it steps by itself, with its own inputs.
abbrev pub stepped : BlockKind → ℕ → Lanes → Word64 → Word64 → ℕ → ℕ → Stored
stepped kind preset b x y now i = step kind preset (stored_in b i) (bit x i) (bit y i) now

abbrev pub are_alike : Lanes → Bool
are_alike (Alike s) = true
are_alike b = false

-- A word is the same in all lanes that are ON in another one, and in all that are OFF in it.
abbrev pub follows : Word64 → Word64 → Bool
follows x m = is_whole x || x.0 == m.0

-- what it is there: ON where some lane is, and where all are
abbrev pub any_on : Word64 → Bool
any_on x = not (x.0 == 0)

abbrev pub all_on : Word64 → Bool
all_on x = x.0 == 2 ^ 64 - 1

-- The lanes store one of two at most, by the word that tells which; where they are alike, it is an input that isn't the same in all of them.
abbrev pub are_two : Lanes → Bool
are_two (Apart q ss) = false
are_two b = true

abbrev pub parting : Word64 → Word64 → Word64
parting x y = if is_whole x then y else x

abbrev pub word_of : Lanes → Word64 → Word64 → Word64
word_of (Two q m s t) x y = m
word_of b x y = parting x y

abbrev pub on_of : Lanes → Stored
on_of (Two q m s t) = s
on_of b = stored_in b 0

abbrev pub off_of : Lanes → Stored
off_of (Two q m s t) = t
off_of b = stored_in b 0

-- After a step the lanes are alike where they were so, and each input is the same in all of them; and they store one of two where they did
-- so, and the inputs follow the word that tells which.
abbrev pub step_lanes : BlockKind → ℕ → Lanes → Word64 → Word64 → ℕ → Lanes
step_lanes kind preset b x y now =
    if are_alike b && (is_whole x && is_whole y) then Alike (stepped kind preset b x y now 0)
    else (let m = word_of b x y in
    if are_two b && (follows x m && follows y m)
    then two m (step kind preset (on_of b) (any_on x) (any_on y) now) (step kind preset (off_of b) (all_on x) (all_on y) now)
    else apart (stepped kind preset b x y now))

-- What lane i stores after a choice: it chooses by itself.
abbrev pub chosen : Word64 → Lanes → Lanes → ℕ → Stored
chosen g b c i = if bit g i then stored_in b i else stored_in c i

-- Where the condition is the same in all lanes, the choice is one of the two.
abbrev pub choice_lanes : Word64 → Lanes → Lanes → Lanes
choice_lanes g b c = if g.0 == 2 ^ 64 - 1 then b else (if g.0 == 0 then c else apart (chosen g b c))

abbrev pub lanes : Keeping Word64 Lanes
lanes = record { stored = λ s. Alike s; q = q_lanes; step = step_lanes; choice = choice_lanes }
