-- Routes of power, one element at a time.
use Rattle.std.proofs.Common.{◌≡◌, ◌∙◌, ℕ, ◌-◌, ◌<◌, ◌≤◌, ◌⊎◌, Bool, true, false, ◌&&◌, ◌||◌, List, [], ◌∷◌, length, take, drop, get_or, Option, Some, None, IfSome, ap, arith, inl, inr, refl, subst, sym}
use Rattle.std.proofs.Math.Seq.{take-length}
use Rattle.std.specs.Bool.{beq}
use Rattle.st_expression.specs.declared.expression.Operand.{Operand}
use Rattle.network_power.specs.declared.leads.Left.{Left}
use Rattle.network_power.specs.declared.leads.Left.TheVariants as source
use Rattle.network_power.specs.declared.network.Element.{Element}
use Rattle.network_power.specs.declared.network.Element.TheVariants.{Rail, Contact, Coil, Output}
use Rattle.network_power.specs.declared.network.Links.{Links}
use Rattle.network_power.specs.declared.network.Network.{Network}
use Rattle.network_power.specs.Network.{here, further, HasPower, rail, output, contact, coil, IsAt, IsFedBy, is_closed, left_of}
use Rattle.network_power.specs.Leading.{Env, IsEnd, IsFed, IsOneLeft, IsSame, Leads, LeadsTo}

-- ---- options and lists

pub onward : {X : Type 0} (o : Option X) (P Q : X → Type 0) → ((x : X) → P x → Q x) → IfSome o P → IfSome o Q
onward (Some x) P Q step h = step x h
onward None P Q step h = h

single_is : (ids : List ℕ) → 1 ≤ length ids → length ids < 2 → ids ≡ get_or ids 0 0 ∷ []
single_is [] some one = absurd (omega (arith, some))
single_is (id ∷ []) some one = refl
single_is (id ∷ next ∷ rest) some one = absurd (omega (arith, one))

first_is : (ids : List ℕ) → 1 ≤ length ids → ids ≡ get_or ids 0 0 ∷ drop 1 ids
first_is [] some = absurd (omega (arith, some))
first_is (id ∷ rest) some = refl

behind_is : (id : ℕ) (ids : List ℕ) → take (length (id ∷ ids) - 1) ids ≡ ids
behind_is id ids = let all : length (id ∷ ids) - 1 ≡ length ids = omega arith in ap (λ n. take n ids) all ∙ take-length ids

pub none_is : (ids : List ℕ) → length ids < 1 → ids ≡ []
none_is [] none = refl
none_is (id ∷ rest) none = absurd (omega (arith, none))

pub flag_is : (a b : Bool) → beq a b ≡ true → a ≡ b
flag_is true true e = refl
flag_is true false e = cc
flag_is false true e = cc
flag_is false false e = refl

-- ---- sets of elements

module _ (net : Network) (env : Env) where
  pub parted : (id : ℕ) (rest : List ℕ) → IsFedBy net env (id ∷ rest) → HasPower net env id ⊎ IsFedBy net env rest
  parted id rest (_, here _, power) = inl power
  parted id rest (before, further _ _ among, power) = inr (before, among, power)

  pub first_fed : (id : ℕ) (rest : List ℕ) → HasPower net env id → IsFedBy net env (id ∷ rest)
  first_fed id rest power = (id, here rest, power)

  pub rest_fed : (id : ℕ) (rest : List ℕ) → IsFedBy net env rest → IsFedBy net env (id ∷ rest)
  rest_fed id rest (before, among, power) = (before, further id rest among, power)

  pub none_fed : IsFedBy net env [] → ⊥
  none_fed (before, among, power) = elim among [ ]

  pub only_fed : (id : ℕ) → IsFedBy net env (id ∷ []) → HasPower net env id
  only_fed id fed = elim (parted id [] fed) [ inl power ↦ power | inr none ↦ absurd (none_fed none) ]

  -- ---- one element

  coil_needs : (id : ℕ) (left : Links) → IsAt net id (Coil left) → HasPower net env id → IsFedBy net env (left_of net left)
  coil_needs id left at (rail _ e) = cc
  coil_needs id left at (output _ operand e on) = cc
  coil_needs id left at (contact _ before negated operand other e closed among power) = cc
  coil_needs id left at (coil _ before other e among power) =
      let P : Links → Type 0 = λ x. IsFedBy net env (left_of net x) in
      let same : other ≡ left = cc in
      subst P same (before, among, power)

  contact_needs : (id : ℕ) (negated : Bool) (operand : Operand) (left : Links) → IsAt net id (Contact negated operand left) → HasPower net env id
      → IsFedBy net env (left_of net left) × (is_closed negated (env operand) ≡ true)
  contact_needs id negated operand left at (rail _ e) = cc
  contact_needs id negated operand left at (output _ read e on) = cc
  contact_needs id negated operand left at (coil _ before other e among power) = cc
  contact_needs id negated operand left at (contact _ before opens read other e closed among power) =
      let P : Links → Type 0 = λ x. IsFedBy net env (left_of net x) in
      let same : other ≡ left = cc in
      let mode : opens ≡ negated = cc in
      let reads : read ≡ operand = cc in
      (subst P same (before, among, power), cc)

  output_needs : (id : ℕ) (operand : Operand) → IsAt net id (Output operand) → HasPower net env id → env operand ≡ true
  output_needs id operand at (rail _ e) = cc
  output_needs id operand at (coil _ before other e among power) = cc
  output_needs id operand at (contact _ before opens read other e closed among power) = cc
  output_needs id operand at (output _ read e on) = let same : read ≡ operand = cc in cc

-- ---- what is connected

pub same_as : (net : Network) (first second third : List ℕ) → IsSame net first second → IsSame net second third → IsSame net first third
same_as net first second third one two = record {
  forth = λ env fed. two.forth env (one.forth env fed);
  back = λ env fed. one.back env (two.back env fed);
}

pub coil_same : (net : Network) (ids next : List ℕ) (e : Element) (left : Links) → 1 ≤ length ids → length ids < 2
    → IsAt net (get_or ids 0 0) e → e ≡ Coil left → next ≡ left_of net left → IsSame net ids next
coil_same net ids next e left some one at is follows =
    let id = get_or ids 0 0 in
    let here_is : IsAt net id (Coil left) = subst (λ (x : Element). IsAt net id x) is at in
    let whole = single_is ids some one in
    record {
      forth = λ env fed.
          subst (λ (x : List ℕ). IsFedBy net env x) (sym follows)
          (coil_needs net env id left here_is (only_fed net env id (subst (λ (x : List ℕ). IsFedBy net env x) whole fed)));
      back = λ env fed.
          let (before, among, power) = subst (λ (x : List ℕ). IsFedBy net env x) follows fed in
          subst (λ (x : List ℕ). IsFedBy net env x) (sym whole) (first_fed net env id [] (coil id before left here_is among power));
    }

-- ---- one element, and those behind it

pub contact_leads : (net : Network) (id : ℕ) (e : Element) (negated opens : Bool) (operand read : Operand) (left : Links) (next near : List ℕ) (place : Left)
    → IsAt net id e → e ≡ Contact opens read left → opens ≡ negated → read ≡ operand → next ≡ left_of net left → IsSame net next near
    → ((env : Env) → IsFed net env place → IsFedBy net env near) → ((env : Env) → IsFedBy net env near → IsFed net env place)
    → LeadsTo net id place (λ env. is_closed negated (env operand))
contact_leads net id e negated opens operand read left next near place at is mode reads follows same out in_it =
    let it : e ≡ Contact negated operand left = cc in
    let here_is : IsAt net id (Contact negated operand left) = subst (λ (x : Element). IsAt net id x) it at in
    record {
      needs = λ env power.
          let (fed, closed) = contact_needs net env id negated operand left here_is power in
          (in_it env (same.forth env (subst (λ (x : List ℕ). IsFedBy net env x) (sym follows) fed)), closed);
      suffices = λ env fed closed.
          let (before, among, power) = subst (λ (x : List ℕ). IsFedBy net env x) follows (same.back env (out env fed)) in
          contact id before negated operand left here_is closed among power;
    }

pub output_leads : (net : Network) (id : ℕ) (e : Element) (negated : Bool) (operand read : Operand) → IsAt net id e → e ≡ Output read → negated ≡ false
    → read ≡ operand → LeadsTo net id source.Rail (λ env. is_closed negated (env operand))
output_leads net id e true operand read at is plain reads = cc
output_leads net id e false operand read at is plain reads =
    let it : e ≡ Output operand = cc in
    let here_is : IsAt net id (Output operand) = subst (λ (x : Element). IsAt net id x) it at in
    record {
      needs = λ env power. (tt, output_needs net env id operand here_is power);
      suffices = λ env fed on. output id operand here_is on;
    }

pub rail_feeds : (net : Network) (ids : List ℕ) (env : Env) → 1 ≤ length ids → IsAt net (get_or ids 0 0) Rail → IsFedBy net env ids
rail_feeds net [] env some at = absurd (omega (arith, some))
rail_feeds net (id ∷ ids) env some at = first_fed net env id ids (rail id at)

pub others_feed : (net : Network) (ids : List ℕ) (env : Env) → 1 ≤ length ids → IsFedBy net env (take (length ids - 1) (drop 1 ids)) → IsFedBy net env ids
others_feed net [] env some fed = absurd (omega (arith, some))
others_feed net (id ∷ ids) env some fed = rest_fed net env id ids (subst (λ (x : List ℕ). IsFedBy net env x) (behind_is id ids) fed)

pub rail_leads : (net : Network) (ids rest : List ℕ) → 1 ≤ length ids → IsAt net (get_or ids 0 0) Rail → Leads net ids source.Rail rest (λ env. true)
rail_leads net ids rest some at = record {
  needs = λ env fed. inl (tt, refl);
  suffices = λ env fed on. rail_feeds net ids env some at;
  beside = λ env fed. rail_feeds net ids env some at;
}

pub ends_same : (net : Network) (first second : Left) → IsEnd net first → IsEnd net second → IsOneLeft net first second
ends_same net first second one two = record { forth = λ env fed. two.fed env; back = λ env fed. one.fed env }

pub first_leads : (net : Network) (ids near : List ℕ) (left : Left) (through : Env → Bool) → 1 ≤ length ids
    → IsSame net (take 1 ids) near → 1 ≤ length near → length near < 2 → LeadsTo net (get_or near 0 0) left through
    → Leads net ids left (take (length ids - 1) (drop 1 ids)) through
first_leads net [] near left through some same near_some near_one leads = absurd (omega (arith, some))
first_leads net (id ∷ ids) near left through some same near_some near_one leads =
    let to = get_or near 0 0 in
    let alone = single_is near near_some near_one in
    let forth : (env : Env) → HasPower net env id → HasPower net env to =
    λ env power. only_fed net env to (subst (λ (x : List ℕ). IsFedBy net env x) alone
    (same.forth env (first_fed net env id (take 0 ids) power))) in
    let back : (env : Env) → HasPower net env to → HasPower net env id =
    λ env power. only_fed net env id
    (same.back env (subst (λ (x : List ℕ). IsFedBy net env x) (sym alone) (first_fed net env to [] power))) in
    record {
      needs = λ env fed. elim (parted net env id ids fed) [
        | inl power ↦ inl (leads.needs env (forth env power))
        | inr others ↦ inr (subst (λ (x : List ℕ). IsFedBy net env x) (sym (behind_is id ids)) others)
      ];
      suffices = λ env fed on. first_fed net env id ids (back env (leads.suffices env fed on));
      beside = λ env fed. rest_fed net env id ids (subst (λ (x : List ℕ). IsFedBy net env x) (behind_is id ids) fed);
    }

-- ---- ways behind and beside each other

and_both : (a b : Bool) → a ≡ true → b ≡ true → (a && b) ≡ true
and_both true b x y = y
and_both false b x y = cc

and_first : (a b : Bool) → (a && b) ≡ true → (a ≡ true) × (b ≡ true)
and_first true b e = (refl, e)
and_first false b e = cc

or_first : (a b : Bool) → a ≡ true → (a || b) ≡ true
or_first true b x = refl
or_first false b x = cc

or_second : (a b : Bool) → b ≡ true → (a || b) ≡ true
or_second true b x = refl
or_second false b x = x

or_either : (a b : Bool) → (a || b) ≡ true → (a ≡ true) ⊎ (b ≡ true)
or_either true b x = inl refl
or_either false b x = inr x

pub in_series : (net : Network) (ids middle rest none : List ℕ) (left : Left) (first second : Env → Bool) → Leads net middle left none first → length none < 1
    → (behind : Left) → ((env : Env) → IsFed net env behind → IsFedBy net env middle) → ((env : Env) → IsFedBy net env middle → IsFed net env behind)
    → Leads net ids behind rest second → Leads net ids left rest (λ env. first env && second env)
in_series net ids middle rest none left first second one empty behind forth back two = record {
  needs = λ env fed. elim (two.needs env fed) [
    | inl (at, on) ↦ elim (one.needs env (forth env at)) [
      | inl (from, also) ↦ inl (from, and_both (first env) (second env) also on)
      | inr others ↦ absurd (none_fed net env (subst (λ (x : List ℕ). IsFedBy net env x) (none_is none empty) others))
    ]
    | inr others ↦ inr others
  ];
  suffices = λ env from on.
      let (one_on, two_on) = and_first (first env) (second env) on in
      two.suffices env (back env (one.suffices env from one_on)) two_on;
  beside = λ env fed. two.beside env fed;
}

pub in_parallel : (net : Network) (ids middle rest : List ℕ) (left other : Left) (first second : Env → Bool) → Leads net ids left middle first
    → Leads net middle other rest second → IsOneLeft net left other → Leads net ids left rest (λ env. first env || second env)
in_parallel net ids middle rest left other first second one two same = record {
  needs = λ env fed. elim (one.needs env fed) [
    | inl (from, on) ↦ inl (from, or_first (first env) (second env) on)
    | inr others ↦ elim (two.needs env others) [
      | inl (from, on) ↦ inl (same.back env from, or_second (first env) (second env) on)
      | inr more ↦ inr more
    ]
  ];
  suffices = λ env from on. elim (or_either (first env) (second env) on) [
    | inl on_one ↦ one.suffices env from on_one
    | inr on_two ↦ one.beside env (two.suffices env (same.forth env from) on_two)
  ];
  beside = λ env fed. one.beside env (two.beside env fed);
}

pub leads_as : (net : Network) (ids rest : List ℕ) (left : Left) (first second : Env → Bool) → ((env : Env) → first env ≡ second env)
    → Leads net ids left rest first → Leads net ids left rest second
leads_as net ids rest left first second same one = record {
  needs = λ env fed. elim (one.needs env fed) [
    | inl (from, on) ↦ inl (from, sym (same env) ∙ on)
    | inr others ↦ inr others
  ];
  suffices = λ env from on. one.suffices env from (same env ∙ on);
  beside = λ env fed. one.beside env fed;
}

pub fed_from_end : (net : Network) (ids rest : List ℕ) (left : Left) (through : Env → Bool) → Leads net ids left rest through → length rest < 1 → IsEnd net left
    → (env : Env) → (through env ≡ true → IsFedBy net env ids) × (IsFedBy net env ids → through env ≡ true)
fed_from_end net ids rest left through leads empty end env = (
  λ on. leads.suffices env (end.fed env) on,
  λ fed. elim (leads.needs env fed) [
    | inl (from, on) ↦ on
    | inr others ↦ absurd (none_fed net env (subst (λ (x : List ℕ). IsFedBy net env x) (none_is rest empty) others))
  ],
)

pub fed_as : (net : Network) (ids near to : List ℕ) (on : Env → Bool) → ids ≡ to → IsSame net ids near → (env : Env)
    → (on env ≡ true → IsFedBy net env near) × (IsFedBy net env near → on env ≡ true)
    → (on env ≡ true → IsFedBy net env to) × (IsFedBy net env to → on env ≡ true)
fed_as net ids near to on is same env (forth, back) = (
  λ yes. subst (λ (x : List ℕ). IsFedBy net env x) is (same.back env (forth yes)),
  λ fed. back (same.forth env (subst (λ (x : List ℕ). IsFedBy net env x) (sym is) fed)),
)
