-- The left links of a column by those of the column before: the OR over routes, one column at a time.
use Rattle.std.proofs.Common.{◌≡◌, ℕ, ◌+◌, ◌<◌, Bool, true, false, cond, List, [], ◌∷◌, ◌++◌, map, zero, suc, nat_eq, refl, sym, ap, ◌∙◌, arith}
use Rattle.std.specs.Prelude.{filter, flat_map}
use Rattle.std.specs.List.{range_with_len}
use Rattle.std.proofs.lemmas.List.{map-append, append-nil}
use Rattle.std.proofs.lemmas.List.Elements.{filter-append}
use Rattle.std.proofs.lemmas.Grind.{flat_map-append}
use Rattle.std.proofs.lemmas.Bool.Decides.{nat_tests}
use Rattle.diagram_program.specs.declared.geometry.TheConstants.{ROWS}
use Rattle.scan_signals.specs.Algebra.{Algebra, LatticeLaws}
use Rattle.scan_cycle.specs.Gating.{join_where}
use Rattle.scan_cycle.specs.Routes.{join_all, Route, rail, block_end, through, Circuit, routes, route_value, link_with, ends_below, left_link}
use Rattle.scan_cycle.proofs.Joins.{join_all-value, join_all-append, join_all-meet}
use Rattle.diagram_program.proofs.Ranges.{range_more}

-- the lists f 0, f 1, .. and f (n - 1), joined end to end
pub gather : {A : Type 0} → (ℕ → List A) → ℕ → List A
gather f zero = []
gather f (suc n) = gather f n ++ f n

single : {A : Type 0} (f : ℕ → List A) (b : Bool) (n : ℕ) → flat_map f (cond b (n ∷ []) []) ≡ cond b (f n) []
single f true n = append-nil (f n)
single f false n = refl

-- the lists of the numbers below n that pass a test
gather_is : {A : Type 0} (p : ℕ → Bool) (f : ℕ → List A) (n : ℕ) → flat_map f (filter p (range_with_len 0 n)) ≡ gather (λ q. cond (p q) (f q) []) n
unfolding gather
gather_is p f zero = refl
gather_is p f (suc n) =
    let last : 0 + n ≡ n = omega arith in
    ap (λ xs. flat_map f (filter p xs)) (range_more 0 n ∙ ap (λ m. range_with_len 0 n ++ m ∷ []) last)
    ∙ ap (flat_map f) (filter-append p (range_with_len 0 n) (n ∷ []))
    ∙ flat_map-append f (filter p (range_with_len 0 n)) (filter p (n ∷ []))
    ∙ ap (λ xs. flat_map f (filter p (range_with_len 0 n)) ++ xs) (single f (p n) n)
    ∙ ap (λ xs. xs ++ cond (p n) (f n) []) (gather_is p f n)

module _ {S : Type 0} (o : Algebra S) (V : S → Type 0) (l : LatticeLaws S V o) where
  off_right : (x : S) → V x → o.join x (o.known false) ≡ x
  off_right x vx = l.join_comm x (o.known false) vx (l.known_value false) ∙ l.join_off x vx

  one_more : {A : Type 0} (v : A → S) (b : Bool) (sum : S) → V sum → (ps : List A) (y : S) → join_all o (map v ps) ≡ y → o.join sum (join_all o (map v (cond b ps []))) ≡ cond b (o.join sum y) sum
  unfolding join_all
  one_more v true sum vs ps y h = ap (o.join sum) h
  one_more v false sum vs ps y h = off_right sum vs

  -- the or over what the rows give is the or, row by row
  pub gathered : {A : Type 0} (v : A → S) → ((a : A) → V (v a)) → (p : ℕ → Bool) (f : ℕ → List A) (y : ℕ → S) → ((q : ℕ) → join_all o (map v (f q)) ≡ y q) → (n : ℕ) →
      join_all o (map v (gather (λ q. cond (p q) (f q) []) n)) ≡ join_where o p y n
  unfolding join_all gather join_where
  gathered v all p f y h zero = refl
  gathered v all p f y h (suc n) =
      join_all-append o V l v all (gather (λ q. cond (p q) (f q) []) n) (cond (p n) (f n) [])
      ∙ one_more v (p n) (join_all o (map v (gather (λ q. cond (p q) (f q) []) n))) (join_all-value o V l v all (gather (λ q. cond (p q) (f q) []) n)) (f n) (y n) (h n)
      ∙ ap (λ s. cond (p n) (o.join s (y n)) s) (gathered v all p f y h n)

  -- ---- routes into a column read blocks of earlier columns alone
  module _ (g : Circuit S) (closed_value : (row column : ℕ) → V (g.closed row column)) (q_value : (row column : ℕ) (x y : S) → V x → V y → V (g.q row column x y)) where
    -- the routes up to the right link of a cell
    abbrev onto : ℕ → ℕ → List Route
    onto n q = cond (g.is_block q n) (block_end q n ∷ []) (map (λ w. through w q n) (routes g.feeds g.is_block q n))

    route-value : (e : ℕ → ℕ → S) → ((row column : ℕ) → V (e row column)) → (w : Route) → V (route_value o g e w)
    unfolding route_value
    route-value e ve rail = l.known_value true
    route-value e ve (block_end row column) = ve row column
    route-value e ve (through w row column) = l.meet_value _ _ (route-value e ve w) (closed_value row column)

    either : (b : Bool) (x y : S) → V x → V y → V (cond b x y)
    either true x y vx vy = vx
    either false x y vx vy = vy

    ends-value : (n row column : ℕ) → V (ends_below o g n row column)
    unfolding ends_below
    ends-value zero row column = l.known_value false
    ends-value (suc n) row column = either (nat_eq column n) _ _ (q_value row column _ _ (join_all-value o V l _ (route-value _ (ends-value n)) (routes g.feeds g.is_block row n)) (join_all-value o V l _ (route-value _ (ends-value n)) (routes g.feeds g.is_block (row + 1) n))) (ends-value n row column)

    map_gather : (v : Route → S) (f : ℕ → List Route) (n : ℕ) → map v (gather f n) ≡ gather (λ q. map v (f q)) n
    unfolding gather
    map_gather v f zero = refl
    map_gather v f (suc n) = map-append v (gather f n) (f n) ∙ ap (λ x. x ++ map v (f n)) (map_gather v f n)

    gather_same : (f h : ℕ → List S) → ((q : ℕ) → f q ≡ h q) → (n : ℕ) → gather f n ≡ gather h n
    unfolding gather
    gather_same f h e zero = refl
    gather_same f h e (suc n) = ap (λ x. x ++ f n) (gather_same f h e n) ∙ ap (λ x. gather h n ++ x) (e n)

    map_through : (e : ℕ → ℕ → S) (row column : ℕ) (ws : List Route) → map (route_value o g e) (map (λ w. through w row column) ws) ≡ map (λ x. o.meet x (g.closed row column)) (map (route_value o g e) ws)
    unfolding route_value
    map_through e row column [] = refl
    map_through e row column (w ∷ ws) = ap (λ x. o.meet (route_value o g e w) (g.closed row column) ∷ x) (map_through e row column ws)

    onto_same : (b c : Bool) (e d : ℕ → ℕ → S) (row column : ℕ) (ws : List Route) → e row column ≡ d row column → map (route_value o g e) ws ≡ map (route_value o g d) ws →
        map (route_value o g e) (cond b (cond c (block_end row column ∷ []) (map (λ w. through w row column) ws)) []) ≡ map (route_value o g d) (cond b (cond c (block_end row column ∷ []) (map (λ w. through w row column) ws)) [])
    unfolding route_value
    onto_same true true e d row column ws h k = ap (λ x. x ∷ []) h
    onto_same true false e d row column ws h k = map_through e row column ws ∙ ap (map (λ x. o.meet x (g.closed row column))) k ∙ sym (map_through d row column ws)
    onto_same false c e d row column ws h k = refl

    routes_same : (e d : ℕ → ℕ → S) (n : ℕ) → ((row column : ℕ) → column < n → e row column ≡ d row column) → (row : ℕ) → map (route_value o g e) (routes g.feeds g.is_block row n) ≡ map (route_value o g d) (routes g.feeds g.is_block row n)
    unfolding routes route_value
    routes_same e d zero h row = refl
    routes_same e d (suc n) h row =
        ap (map (route_value o g e)) (gather_is (g.feeds row (suc n)) (onto n) ROWS)
        ∙ map_gather (route_value o g e) _ ROWS
        ∙ gather_same _ _ (λ q. onto_same (g.feeds row (suc n) q) (g.is_block q n) e d q n (routes g.feeds g.is_block q n) (h q n (omega arith)) (routes_same e d n (λ r c k. h r c (omega arith)) q)) ROWS
        ∙ sym (map_gather (route_value o g d) _ ROWS)
        ∙ sym (ap (map (route_value o g d)) (gather_is (g.feeds row (suc n)) (onto n) ROWS))

    ends_kept : (n row column : ℕ) → column < n → ends_below o g (suc n) row column ≡ ends_below o g n row column
    unfolding ends_below
    ends_kept n row column h =
        let apart : nat_eq column n ≡ false = grind (arith, nat_tests) in
        ap (λ b. cond b (g.q row column (link_with o g (ends_below o g n) row n) (link_with o g (ends_below o g n) (row + 1) n)) (ends_below o g n row column)) apart

    ends_here : (n row : ℕ) → ends_below o g (suc n) row n ≡ g.q row n (left_link o g row n) (left_link o g (row + 1) n)
    unfolding ends_below
    ends_here n row =
        let same : nat_eq n n ≡ true = grind (arith, nat_tests) in
        ap (λ b. cond b (g.q row n (link_with o g (ends_below o g n) row n) (link_with o g (ends_below o g n) (row + 1) n)) (ends_below o g n row n)) same

    given : (b : Bool) (n row : ℕ) → join_all o (map (route_value o g (ends_below o g (suc n))) (cond b (block_end row n ∷ []) (map (λ w. through w row n) (routes g.feeds g.is_block row n)))) ≡
        cond b (g.q row n (left_link o g row n) (left_link o g (row + 1) n)) (o.meet (left_link o g row n) (g.closed row n))
    unfolding join_all route_value
    given true n row = off_right _ (ends-value (suc n) row n) ∙ ends_here n row
    given false n row =
        join_all-meet o V l (route_value o g (ends_below o g (suc n))) (route-value _ (ends-value (suc n))) (λ w. through w row n) (g.closed row n) (closed_value row n) (λ w. refl) (routes g.feeds g.is_block row n)
        ∙ ap (λ xs. o.meet (join_all o xs) (g.closed row n)) (routes_same (ends_below o g (suc n)) (ends_below o g n) n (λ r c h. ends_kept n r c h) row)

    -- what the code computes, one column after the other
    pub left_link-next : (row n : ℕ) → left_link o g row (suc n) ≡ join_where o (g.feeds row (suc n)) (λ q. cond (g.is_block q n) (g.q q n (left_link o g q n) (left_link o g (q + 1) n)) (o.meet (left_link o g q n) (g.closed q n))) ROWS
    unfolding routes
    left_link-next row n =
        ap (λ rs. join_all o (map (route_value o g (ends_below o g (suc n))) rs)) (gather_is (g.feeds row (suc n)) (onto n) ROWS)
        ∙ gathered (route_value o g (ends_below o g (suc n))) (route-value _ (ends-value (suc n))) (g.feeds row (suc n)) (onto n) _ (λ q. given (g.is_block q n) n q) ROWS
