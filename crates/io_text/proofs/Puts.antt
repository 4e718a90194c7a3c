-- Laws of texts that are written one after the other.
use Rattle.std.proofs.Common.{◌≡◌, ◌∙◌, ap, sym, refl, ℕ, List, [], ◌++◌, append_assoc, inl, inr, arith}
use Rattle.std.specs.Io.KnownBytes.{Appends}
use Rattle.io_text.specs.declared.tally.Tally.{Tally}
use Rattle.io_text.specs.Calls.{AllPass, LastFails, Passes}
use Rattle.io_text.specs.Log.{PutsAll, PutsPrefix, WriteLog}
use Rattle.io_text.proofs.Bytes.{appends_more, appends_none}

-- calls that passed, after calls that did
pub passes_more : (a b c : Tally) → AllPass a b → AllPass b c → AllPass a c
passes_more a b c p (same, inl q) = (same ∙ p.0, rw q p.1)
passes_more a b c p (same, inr q) = (same ∙ p.0, inr q)

-- before the first call nothing is written
pub puts_none : (a : WriteLog) → PutsAll a a []
puts_none a = record { bytes = appends_none a.contents; calls = (refl, inl refl) }

-- two texts that were written make one
pub puts_more : (a b c : WriteLog) (xs ys : List ℕ) → PutsAll a b xs → PutsAll b c ys → PutsAll a c (xs ++ ys)
puts_more a b c xs ys p q = record {
  bytes = appends_more a.contents b.contents c.contents xs ys p.bytes q.bytes;
  calls = passes_more a.tally b.tally c.tally p.calls q.calls;
}

-- a call that failed after calls that did not
pub fails_after : (a b c : Tally) → AllPass a b → LastFails b c → LastFails a c
fails_after a b c (same, p) (inl q, last) = (inl (omega (arith, same, q)), last)
fails_after a b c (same, p) (inr q, last) = (inr (q.0, q.1 ∙ same), last)

-- a prefix of the next part is a prefix of the whole
pub prefix_after : (a b c : WriteLog) (text before next rest : List ℕ) → text ≡ (before ++ next) ++ rest
    → PutsAll a b before → PutsPrefix b c next → PutsPrefix a c text
prefix_after a b c text before next rest e p q =
    let f = q.bytes.0 in
    let r = q.bytes.1 in
    let cut : text ≡ (before ++ f) ++ (r ++ rest) =
    e ∙ ap (λ x. (before ++ x) ++ rest) q.bytes.2 ∙ ap (λ x. x ++ rest) (sym (append_assoc before f r)) ∙ append_assoc (before ++ f) r rest in
    record {
      bytes = (before ++ f, r ++ rest, cut, appends_more a.contents b.contents c.contents before f p.bytes q.bytes.3);
      calls = fails_after a.tally b.tally c.tally p.calls q.calls;
    }

-- a call that took the front of a piece wrote that front
pub call_puts : (a b : WriteLog) (xs : List ℕ) → Appends a.contents b.contents xs → Passes a.tally b.tally → PutsAll a b xs
call_puts a b xs bytes passes = record { bytes = bytes; calls = (passes.1, inr passes.2) }
