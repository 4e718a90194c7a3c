-- Texts of numbers, one after the other, that go through a block.
use Rattle.std.proofs.Common.{◌≡◌, ◌∙◌, ℕ, ◌+◌, ◌-◌, ◌<◌, List, [], ◌++◌, append_assoc, append-nil, zero, suc, add-one, sym, ap, arith}
use Rattle.io_text.specs.Buffer.{SendsAll}
use Rattle.io_text.specs.Log.{PutsPrefix, WriteLog}
use Rattle.io_text.proofs.Sending.{sends_prefix, sends_more, sends_same, sends_none}
use Rattle.text_power.specs.Show.{each}

-- none yet
pub none_yet : (f : ℕ → List ℕ) (a : WriteLog) (w : List ℕ) → SendsAll a a w w (each f 0)
unfolding each
none_yet f a w = sends_none a w

-- one more
each_more : (f : ℕ → List ℕ) (n : ℕ) → each f (n + 1) ≡ each f n ++ f n
unfolding each
each_more f n = ap (each f) (add-one n)

pub more : (f : ℕ → List ℕ) (n : ℕ) (a b c : WriteLog) (w0 w1 w2 text : List ℕ) → text ≡ f n → SendsAll a b w0 w1 (each f n) → SendsAll b c w1 w2 text
    → SendsAll a c w0 w2 (each f (n + 1))
more f n a b c w0 w1 w2 text e p q =
    sends_same a c w0 w2 (each f n ++ text) (each f (n + 1)) (ap (λ t. each f n ++ t) e ∙ sym (each_more f n)) (sends_more a b c w0 w1 w2 (each f n) text p q)

-- the rest behind one of them
cut : (f : ℕ → List ℕ) (i k n : ℕ) → n ≡ suc (i + k) → (rest : List ℕ) × (each f n ≡ each f i ++ (f i ++ rest))
unfolding each
cut f i k zero e = absurd (omega arith)
cut f i zero (suc n) e =
    let same : n ≡ i = omega arith in ([], ap (λ m. each f m ++ f m) same ∙ ap (λ t. each f i ++ t) (sym (append-nil (f i))))
cut f i (suc k) (suc n) e =
    let before = cut f i k n (omega arith) in (
      before.0 ++ f n,
      ap (λ t. t ++ f n) before.1 ∙ append_assoc (each f i) (f i ++ before.0) (f n) ∙ ap (λ t. each f i ++ t) (append_assoc (f i) before.0 (f n)),
    )

-- where the next one is not written to its end
pub cut_off : (f : ℕ → List ℕ) (n i : ℕ) (a b c : WriteLog) (w0 w1 text : List ℕ) → i < n → text ≡ f i → SendsAll a b w0 w1 (each f i) → PutsPrefix b c (w1 ++ text)
    → PutsPrefix a c (w0 ++ each f n)
cut_off f n i a b c w0 w1 text h e p q =
    let back = cut f i (n - i - 1) n (omega (arith, h)) in
    sends_prefix a b c w0 w1 (each f n) (each f i) text back.0 (back.1 ∙ ap (λ t. each f i ++ (t ++ back.0)) (sym e)) p q
