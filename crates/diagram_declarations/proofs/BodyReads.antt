-- What follows a name is read where the grammar has it, and only there.
use Rattle.std.proofs.Common.{◌≡◌, ℕ, zero, suc, ◌<◌, ◌≤◌, List, length, None, Some, Ok, Err, sym, ◌∙◌, refl, ap, arith, [], ◌∷◌, ◌++◌, Result, subst}
use Rattle.diagram_declarations.specs.declared.fault.Fault.{Fault}
use Rattle.diagram_declarations.specs.declared.decls.Body.{Body}
use Rattle.diagram_declarations.specs.declared.declaration.Due.{Due}
use Rattle.diagram_declarations.specs.declared.declaration.Due.TheVariants as due
use Rattle.diagram_declarations.specs.declared.declaration.Next.TheVariants as then
use Rattle.diagram_declarations.specs.ReadText.{token_at}
use Rattle.diagram_declarations.specs.ReadSteps.{step, misfit}
use Rattle.diagram_declarations.specs.ReadDecls.{at, turn, body_from, body_at, expect, PresetFits}
use Rattle.diagram_declarations.specs.Text.{AreTokens}
use Rattle.diagram_declarations.specs.Grammar.{Is, IsBody}
use Rattle.diagram_declarations.proofs.Tokens.{bind_ok, first_token, token_takes, AreTokens-append}
use Rattle.diagram_declarations.proofs.Walks.{Walks, GoesOn, takes, walks, body_of, body_fits}

-- before this text this is due, and one more turn gives what the whole gives
pub record Stands (d : Due) (here text : List ℕ) : Type 0 where
  pub turns : ℕ
  pub enough : length here ≤ turns
  pub within : length here ≤ length text
  pub same : body_from (suc turns) d here ≡ body_at text

pub no_word : (d : Due) (here text : List ℕ) (f : Fault) → Stands d here text → token_at here ≡ Err f → body_at text ≡ Err f
unfolding body_from
no_word d here text f s word = sym s.same ∙ grind arith

pub refuses : (d : Due) (here text w a : List ℕ) → Stands d here text → token_at here ≡ Ok (w, a) → step d w ≡ None → body_at text ≡ Err (at (misfit d w) a)
unfolding body_from
refuses d here text w a s word none = sym s.same ∙ grind arith

pub ends : (d : Due) (here text w a : List ℕ) (b : Body) → Stands d here text → token_at here ≡ Ok (w, a) → step d w ≡ Some (then.Ends b)
    → body_at text ≡ Ok (b, a)
unfolding body_from
ends d here text w a b s word end = sym s.same ∙ grind arith

pub goes : (d next : Due) (here text w a : List ℕ) → Stands d here text → token_at here ≡ Ok (w, a) → length a < length here
    → step d w ≡ Some (then.Goes next) → Stands next a text
unfolding body_from
goes d next here text w a s word shorter more =
    let one : body_from (suc s.turns) d here ≡ body_from s.turns next a = rw word (ap (turn (λ n. body_from s.turns n a) (at (misfit d w) a) a) more) in
    elim s.turns as (λ n. length here ≤ n → body_from n next a ≡ body_at text → Stands next a text) [
      | zero ↦ λ enough same. absurd (omega (arith, shorter))
      | suc n ↦ λ enough same. record { turns = n; enough = omega (arith, shorter); within = omega (arith, shorter, s.within); same = same }
    ] s.enough (sym one ∙ s.same)

pub ok_same : {A : Type 0} (x y : A) → ◌≡◌ {A = Result A Fault} (Ok x) (Ok y) → x ≡ y
ok_same x y e = cc

-- the value of a step, and what is left
pub halves : {A B : Type 0} (a x : A) (b y : B) → ◌≡◌ {A = Result (A × B) Fault} (Ok (a, b)) (Ok (x, y)) → (a ≡ x) × (b ≡ y)
halves a x b y e = grind arith

-- ---- one word

pub expect_reads : (word w : List ℕ) (ts : List (List ℕ)) (text rest : List ℕ) → Is word w → AreTokens (w ∷ ts) text rest
    → (after : List ℕ) × (expect word text ≡ Ok after) × AreTokens ts after rest × (length after < length text)
unfolding expect
expect_reads word w ts text rest same h = let first = first_token w ts text rest h in (first.0, grind arith, first.2, first.3)

pub expect_takes : (word text rest : List ℕ) → expect word text ≡ Ok rest → (w : List ℕ) × Is word w × AreTokens (w ∷ []) text rest
unfolding expect
expect_takes word text rest h =
    let found = bind_ok (token_at text) _ rest h in
    let after : found.0.1 ≡ rest = grind arith in
    (found.0.0, grind arith, subst (λ r. AreTokens (found.0.0 ∷ []) text r) after (token_takes text found.0.0 found.0.1 found.1))

-- ---- a body

pub record TakesBody (b : Body) (text rest : List ℕ) : Type 0 where
  pub behind : List (List ℕ)
  pub is_body : IsBody behind b
  pub tokens : AreTokens behind text rest

from_takes : (n : ℕ) (d : Due) (b : Body) (text rest : List ℕ) → body_from n d text ≡ Ok (b, rest) → (ts : List (List ℕ)) × Walks d ts b × AreTokens ts text rest
unfolding body_from
from_takes zero d b text rest h = absurd cc
from_takes (suc n) d b text rest h =
    let word = bind_ok (token_at text) _ (b, rest) h in
    let w : List ℕ = word.0.0 in
    let a : List ℕ = word.0.1 in
    let first : AreTokens (w ∷ []) text a = token_takes text w a word.1 in
    elim (step d w) as (λ o. step d w ≡ o → turn (λ next. body_from n next a) (at (misfit d w) a) a o ≡ Ok (b, rest)
    → (ts : List (List ℕ)) × Walks d ts b × AreTokens ts text rest) [
      | None ↦ λ is more. absurd cc
      | Some (then.Ends c) ↦ λ is more.
          let parts = halves c b a rest more in
          (w ∷ [], takes d w (w ∷ []) [] b (Some (then.Ends c)) refl is (refl, sym parts.0), subst (λ r. AreTokens (w ∷ []) text r) parts.1 first)
      | Some (then.Goes next) ↦ λ is more.
          let x = from_takes n next b a rest more in
          (w ∷ x.0, takes d w (w ∷ x.0) x.0 b (Some (then.Goes next)) refl is x.1, AreTokens-append (w ∷ []) x.0 text a rest first x.2)
    ] refl word.2

pub body_takes : (b : Body) (text rest : List ℕ) → body_at text ≡ Ok (b, rest) → TakesBody b text rest
unfolding body_at
body_takes b text rest h =
    let x = from_takes _ due.Place b text rest h in
    record { behind = x.0; is_body = body_of x.0 b x.1; tokens = x.2 }

pub fits : (text : List ℕ) (b : Body) (rest : List ℕ) → body_at text ≡ Ok (b, rest) → PresetFits b
fits text b rest h = let x = body_takes b text rest h in body_fits x.behind b x.is_body

from_reads : (ts us : List (List ℕ)) (n : ℕ) (d : Due) (b : Body) (text rest : List ℕ) → length text < n → Walks d ts b → AreTokens (ts ++ us) text rest
    → (after : List ℕ) × (body_from n d text ≡ Ok (b, after)) × AreTokens us after rest
unfolding body_from
from_reads [] us n d b text rest enough w h = absurd w
from_reads (t ∷ ts) us zero d b text rest enough w h = absurd (omega (arith, enough))
from_reads (t ∷ ts) us (suc n) d b text rest enough w h =
    let first = first_token t (ts ++ us) text rest h in
    let a : List ℕ = first.0 in
    let one : body_from (suc n) d text ≡ turn (λ next. body_from n next a) (at (misfit d t) a) a (step d t) = rw first.1 refl in
    elim (step d t) as (λ o. body_from (suc n) d text ≡ turn (λ next. body_from n next a) (at (misfit d t) a) a o
    → GoesOn (λ next. Walks next ts b) ts b o → (after : List ℕ) × (body_from (suc n) d text ≡ Ok (b, after)) × AreTokens us after rest) [
      | None ↦ λ one w. absurd w
      | Some (then.Ends c) ↦ λ one w. (a, one ∙ ap (λ z. Ok (z, a)) (sym w.1), subst (λ z. AreTokens (z ++ us) a rest) w.0 first.2)
      | Some (then.Goes next) ↦ λ one w.
          let x = from_reads ts us n next b a rest (omega (arith, enough, first.3)) w first.2 in
          (x.0, one ∙ x.1, x.2)
    ] one w

pub body_reads : (ts us : List (List ℕ)) (b : Body) (text rest : List ℕ) → IsBody ts b → AreTokens (ts ++ us) text rest
    → (after : List ℕ) × (body_at text ≡ Ok (b, after)) × AreTokens us after rest
unfolding body_at
body_reads ts us b text rest h tokens = from_reads ts us (suc (length text)) due.Place b text rest (omega arith) (walks ts b h) tokens
