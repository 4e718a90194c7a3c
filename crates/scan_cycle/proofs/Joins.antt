-- The OR of a list: of a list in two parts, and of routes with one cell more.
use Rattle.std.proofs.Common.{◌≡◌, false, List, [], ◌∷◌, ◌++◌, map, sym, ap, ◌∙◌}
use Rattle.scan_signals.specs.Algebra.{Algebra, LatticeLaws}
use Rattle.scan_cycle.specs.Routes.{join_all}

module _ {S : Type 0} (o : Algebra S) (V : S → Type 0) (l : LatticeLaws S V o) where
  pub join_all-value : {A : Type 0} (v : A → S) → ((a : A) → V (v a)) → (xs : List A) → V (join_all o (map v xs))
  unfolding join_all
  join_all-value v all [] = l.known_value false
  join_all-value v all (x ∷ xs) = l.join_value (v x) (join_all o (map v xs)) (all x) (join_all-value v all xs)

  pub join_all-append : {A : Type 0} (v : A → S) → ((a : A) → V (v a)) → (xs ys : List A) → join_all o (map v (xs ++ ys)) ≡ o.join (join_all o (map v xs)) (join_all o (map v ys))
  unfolding join_all
  join_all-append v all [] ys = sym (l.join_off _ (join_all-value v all ys))
  join_all-append v all (x ∷ xs) ys =
      ap (o.join (v x)) (join_all-append v all xs ys)
      ∙ sym (l.join_assoc (v x) (join_all o (map v xs)) (join_all o (map v ys)) (all x) (join_all-value v all xs) (join_all-value v all ys))

  off_meet : (x : S) → V x → o.meet (o.known false) x ≡ o.known false
  off_meet x vx = ap (o.meet (o.known false)) (sym (l.join_off x vx)) ∙ l.meet_absorbs (o.known false) x (l.known_value false) vx

  meet_right : (x y z : S) → V x → V y → V z → o.meet (o.join x y) z ≡ o.join (o.meet x z) (o.meet y z)
  meet_right x y z vx vy vz =
      l.meet_comm (o.join x y) z (l.join_value x y vx vy) vz
      ∙ l.meet_over_join z x y vz vx vy
      ∙ ap (λ a. o.join a (o.meet z y)) (l.meet_comm z x vz vx)
      ∙ ap (λ a. o.join (o.meet x z) a) (l.meet_comm z y vz vy)

  -- the or over lengthened routes is the or over the routes, and the new cell
  pub join_all-meet : {A : Type 0} (v : A → S) → ((a : A) → V (v a)) → (f : A → A) (x : S) → V x → ((a : A) → v (f a) ≡ o.meet (v a) x) → (ps : List A) → join_all o (map v (map f ps)) ≡ o.meet (join_all o (map v ps)) x
  unfolding join_all
  join_all-meet v all f x vx h [] = sym (off_meet x vx)
  join_all-meet v all f x vx h (a ∷ rest) =
      ap (λ b. o.join b (join_all o (map v (map f rest)))) (h a)
      ∙ ap (o.join (o.meet (v a) x)) (join_all-meet v all f x vx h rest)
      ∙ sym (meet_right (v a) (join_all o (map v rest)) x (all a) (join_all-value v all rest) vx)
