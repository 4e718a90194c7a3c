-- No two identifier codes are the same.
use Rattle.std.proofs.Common.{◌≡◌, ◌∷◌, ℕ, List, ap, arith, decimal}
use Rattle.std.proofs.lemmas.Fmt.{decimal_injective}
use Rattle.diagram_declarations.specs.declared.decls.Symbol.TheVariants as symbol
use Rattle.text_vcd.specs.Laws.{DistinctCodes}

behind : (a b : ℕ) (x y : List ℕ) → a ∷ x ≡ b ∷ y → x ≡ y
behind a b x y e = cc

before : (a b : ℕ) (x y : List ℕ) → a ∷ x ≡ b ∷ y → a ≡ b
before a b x y e = cc

pub codes_apart : DistinctCodes
codes_apart (symbol.Var m) (symbol.Var n) l k e = ap symbol.Var (decimal_injective m n l k (behind 118 118 (decimal m) (decimal n) e))
codes_apart (symbol.Var m) (symbol.Instance n) l k e = let bad : 118 ≡ 105 = before 118 105 (decimal m) (decimal n) e in absurd (omega (arith, bad))
codes_apart (symbol.Instance m) (symbol.Var n) l k e = let bad : 105 ≡ 118 = before 105 118 (decimal m) (decimal n) e in absurd (omega (arith, bad))
codes_apart (symbol.Instance m) (symbol.Instance n) l k e = ap symbol.Instance (decimal_injective m n l k (behind 105 105 (decimal m) (decimal n) e))
