-- Private to the signal of truth values: its laws.
use Rattle.std.specs.Prelude.{◌≡◌, Bool}
use Rattle.std.proofs.Common.{arith, refl, sym}
use Rattle.scan_signals.specs.Algebra.{LatticeLaws, AllowsLaws}
use Rattle.scan_signals.specs.Truth.{plain, AnyBool, OnePlace, plain_allows}

pub plain_lattice : LatticeLaws Bool AnyBool plain
plain_lattice = record {
  known_value = λ b. tt;
  join_value = λ x y vx vy. tt;
  meet_value = λ x y vx vy. tt;
  inverse_value = λ x vx. tt;
  choice_value = λ c x y vc vx vy. tt;
  join_assoc = λ x y z vx vy vz. grind arith;
  meet_assoc = λ x y z vx vy vz. grind arith;
  join_comm = λ x y vx vy. grind arith;
  meet_comm = λ x y vx vy. grind arith;
  join_idem = λ x vx. grind arith;
  meet_idem = λ x vx. grind arith;
  join_absorbs = λ x y vx vy. grind arith;
  meet_absorbs = λ x y vx vy. grind arith;
  meet_over_join = λ x y z vx vy vz. grind arith;
  join_over_meet = λ x y z vx vy vz. grind arith;
  inverse_twice = λ x vx. grind arith;
  inverse_join = λ x y vx vy. grind arith;
  inverse_meet = λ x y vx vy. grind arith;
  join_off = λ x vx. refl;
  meet_on = λ x vx. refl;
  choice_on = λ x y vx vy. refl;
  choice_off = λ x y vx vy. refl;
  choice_equal = λ c x vc vx. grind arith;
}

pub plain_allowed : AllowsLaws Bool AnyBool plain OnePlace plain_allows
plain_allowed = record {
  some_place = (0, refl);
  some_allowed = λ x p v h. (x, refl);
  known_allows = λ b p h. refl;
  known_only = λ b c p h a. sym a;
  join_allows = λ x y p a b vx vy h ax ay. cc;
  meet_allows = λ x y p a b vx vy h ax ay. cc;
  inverse_allows = λ x p a vx h ax. cc;
  choice_allows = λ c x y p d a b vc vx vy h ac ax ay. cc;
}

pub plain_choice_known : (c b : Bool) → AnyBool c → plain.choice c b b ≡ b
plain_choice_known c b v = plain_lattice.choice_equal c b tt tt
