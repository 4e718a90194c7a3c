-- Texts that are written through a buffer, one after the other.
use Rattle.std.proofs.Common.{◌≡◌, ◌∙◌, ℕ, List, [], ◌++◌, sym, subst, ap, append_assoc, append-nil, Result, Ok, Err}
use Rattle.std.specs.Result.{IsErr}
use Rattle.io_text.specs.Buffer.{Sends, SendsAll}
use Rattle.io_text.specs.Log.{Puts, PutsAll, PutsPrefix, WriteLog}
use Rattle.io_text.proofs.Puts.{prefix_after, puts_more, puts_none}

pub sends_none : (a : WriteLog) (waited : List ℕ) → SendsAll a a waited waited []
sends_none a waited = record { sent = []; cut = append-nil waited; wrote = puts_none a }

pub sends_more : (a b c : WriteLog) (w0 w1 w2 text more : List ℕ) → SendsAll a b w0 w1 text → SendsAll b c w1 w2 more → SendsAll a c w0 w2 (text ++ more)
sends_more a b c w0 w1 w2 text more p q = record {
  sent = p.sent ++ q.sent;
  cut =
      sym (append_assoc w0 text more)
      ∙ ap (λ x. x ++ more) p.cut
      ∙ append_assoc p.sent w1 more
      ∙ ap (λ x. p.sent ++ x) q.cut
      ∙ sym (append_assoc p.sent q.sent w2);
  wrote = puts_more a b c p.sent q.sent p.wrote q.wrote;
}

pub sends_same : (a b : WriteLog) (w0 w1 text other : List ℕ) → text ≡ other → SendsAll a b w0 w1 text → SendsAll a b w0 w1 other
sends_same a b w0 w1 text other e p = record { sent = p.sent; cut = rw (← e) p.cut; wrote = p.wrote }

-- what a part left that failed, handed on with its fault
pub sends_err : {T E : Type 0} (a b : WriteLog) (w0 w1 : List ℕ) (r : Result T E) (text : List ℕ) → IsErr r → PutsPrefix a b (w0 ++ text) → Sends a b w0 w1 r text
sends_err a b w0 w1 (Ok x) text e p = cc
sends_err a b w0 w1 (Err x) text e p = p

pub puts_err : {T E : Type 0} (a b : WriteLog) (r : Result T E) (text : List ℕ) → IsErr r → PutsPrefix a b text → Puts a b r text
puts_err a b (Ok x) text e p = cc
puts_err a b (Err x) text e p = p

-- a write that fails in the next part leaves a prefix of the whole
pub sends_prefix : (a b c : WriteLog) (w0 w1 whole text more after : List ℕ) → whole ≡ text ++ (more ++ after) → SendsAll a b w0 w1 text → PutsPrefix b c (w1 ++ more)
    → PutsPrefix a c (w0 ++ whole)
sends_prefix a b c w0 w1 whole text more after e p q =
    let cut : w0 ++ whole ≡ (p.sent ++ (w1 ++ more)) ++ after =
    ap (λ x. w0 ++ x) e
    ∙ sym (append_assoc w0 text (more ++ after))
    ∙ ap (λ x. x ++ (more ++ after)) p.cut
    ∙ append_assoc p.sent w1 (more ++ after)
    ∙ ap (λ x. p.sent ++ x) (sym (append_assoc w1 more after))
    ∙ sym (append_assoc p.sent (w1 ++ more) after) in
    prefix_after a b c (w0 ++ whole) p.sent (w1 ++ more) after cut p.wrote q

-- the last part of a text
pub sends_last : {T E : Type 0} (a b c : WriteLog) (w0 w1 w2 whole text more : List ℕ) (r : Result T E) → whole ≡ text ++ more → SendsAll a b w0 w1 text
    → Sends b c w1 w2 r more → Sends a c w0 w2 r whole
sends_last a b c w0 w1 w2 whole text more (Ok x) e p q = sends_same a c w0 w2 (text ++ more) whole (sym e) (sends_more a b c w0 w1 w2 text more p q)
sends_last a b c w0 w1 w2 whole text more (Err x) e p q =
    sends_prefix a b c w0 w1 whole text more [] (e ∙ ap (λ t. text ++ t) (sym (append-nil more))) p q

-- what waits is not written to its end
pub flush_prefix : (a b c : WriteLog) (w1 whole : List ℕ) → SendsAll a b [] w1 whole → PutsPrefix b c w1 → PutsPrefix a c whole
flush_prefix a b c w1 whole p q =
    prefix_after a b c whole p.sent w1 [] (p.cut ∙ sym (append-nil (p.sent ++ w1))) p.wrote q

-- a text that is written behind all that waited
pub sends_through : {T E : Type 0} (a b c : WriteLog) (w0 text : List ℕ) (r : Result T E) → PutsAll a b w0 → Puts b c r text → Sends a c w0 [] r text
sends_through a b c w0 text (Ok x) p q = record { sent = w0 ++ text; cut = sym (append-nil (w0 ++ text)); wrote = puts_more a b c w0 text p q }
sends_through a b c w0 text (Err x) p q = prefix_after a b c (w0 ++ text) w0 text [] (sym (append-nil (w0 ++ text))) p q

-- what waits is written to its end
pub flush_all : (a b c : WriteLog) (w1 whole : List ℕ) → SendsAll a b [] w1 whole → PutsAll b c w1 → PutsAll a c whole
flush_all a b c w1 whole p q = subst (λ text. PutsAll a c text) (sym p.cut) (puts_more a b c p.sent w1 p.wrote q)

-- the end of a text that went through a block
pub flush_last : {T E : Type 0} (a b c : WriteLog) (w1 whole : List ℕ) (r : Result T E) → SendsAll a b [] w1 whole → Puts b c r w1 → Puts a c r whole
flush_last a b c w1 whole (Ok x) p q = flush_all a b c w1 whole p q
flush_last a b c w1 whole (Err x) p q = flush_prefix a b c w1 whole p q
