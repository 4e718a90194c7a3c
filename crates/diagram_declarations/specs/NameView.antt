-- How a name lies in memory: its bytes, with zeros after them. Callers see the spelling alone.
use Rattle.std.specs.Prelude.{◌≡◌, ℕ, ◌-◌, ◌≤◌, List, ◌++◌, length, take, drop, replicate, true}
use Rattle.std.proofs.Common.{sym, ap}
use Rattle.std.proofs.Math.Seq.{take-append_seam}
use Rattle.std.proofs.lemmas.List.{drop-replicate}
use Rattle.diagram_declarations.specs.declared.name.Name.TheInside.{Inside}
use Rattle.diagram_declarations.specs.Name.{is_name}

abbrev pub spelling : Inside → List ℕ
spelling n = take n.len n.bytes

abbrev pub stored : List ℕ → Inside
stored word = record { bytes = word ++ replicate (11 - length word) 0; len = length word }

pub record IsStored (n : Inside) : Type 0 where
  pub whole : length (take n.len n.bytes) ≡ n.len
  pub short : n.len ≤ 11
  pub padded : n.bytes ≡ take n.len n.bytes ++ replicate (11 - n.len) 0
  pub named : is_name (take n.len n.bytes) ≡ true

pub stored-spelling : (n : Inside) → IsStored n → stored (spelling n) ≡ n
stored-spelling n h =
    let swapped : (spelling n ++ replicate (11 - length (spelling n)) 0, length (spelling n)) ≡ (n.bytes, n.len)
    = rw h.whole (ap (λ bs. (bs, n.len)) (sym h.padded)) in
    let make : (List ℕ × ℕ) → Inside = λ p. record { bytes = p.0; len = p.1 } in
    ap make swapped

-- a word written over the first of eleven zeros
pub IsStored-written : (word : List ℕ) → length word ≤ 11 → is_name word ≡ true
    → IsStored (record { bytes = word ++ drop (length word) (replicate 11 0); len = length word })
IsStored-written word short named =
    let front : take (length word) (word ++ drop (length word) (replicate 11 0)) ≡ word = take-append_seam word _ in
    record {
      whole = ap length front;
      short = short;
      padded = rw front (ap (λ z. word ++ z) (drop-replicate (length word) 11 0));
      named = rw front named;
    }
