-- A jump beside an IF.
use Rattle.std.proofs.Common.{◌≡◌, ◌∙◌, ℕ, zero, suc, ◌+◌, ◌-◌, ◌≤◌, Bool, true, false, not, if◌then◌else◌, List, [], ◌∷◌, ◌++◌, length, drop, take, get_or, ap, arith, refl, subst, sym}
use Rattle.std.proofs.lemmas.List.{length-append}
use Rattle.diagram_declarations.specs.declared.decls.Instance.{Instance}
use Rattle.scan_cycle.specs.Rung.{Held}
use Rattle.st_expression.specs.declared.expression.Expression.{Expression}
use Rattle.st_statements.specs.declared.statement.StatementList.{StatementList}
use Rattle.st_statements.specs.Run.{Ran, run, value_in}
use Rattle.network_power.specs.declared.network.Links.{Links}
use Rattle.network_power.specs.declared.network.Network.{Network}
use Rattle.network_check.specs.declared.effect.Effect.{Effect}
use Rattle.network_check.specs.declared.effect.Effect.TheVariants.{Jump}
use Rattle.network_check.specs.Runs.{Has, Runs, jumped, not_jumped}
use Rattle.network_check.specs.Doing.{AreArms, AreShorter, AreWithin, Chooses, DoAll, IsAlways, IsChoice, LeadsPast, Shows, and_then, ran_by}
use Rattle.network_check.proofs.Statements.{append_nil, if_false, if_true}

-- ---- lists

together : (xs ys zs : List Effect) → (xs ++ ys) ++ zs ≡ xs ++ (ys ++ zs)
together [] ys zs = refl
together (x ∷ xs) ys zs = ap (λ t. x ∷ t) (together xs ys zs)

drop_length : (xs ys : List Effect) → drop (length xs) (xs ++ ys) ≡ ys
drop_length [] ys = refl
drop_length (x ∷ xs) ys = drop_length xs ys

behind_all : (xs ys zs all : List Effect) (n : ℕ) → all ≡ xs ++ ys → length xs ≡ n → drop n (all ++ zs) ≡ ys ++ zs
behind_all xs ys zs all n is count =
    ap (λ t. drop n (t ++ zs)) is ∙ ap (drop n) (together xs ys zs) ∙ ap (λ k. drop k (xs ++ (ys ++ zs))) (sym count) ∙ drop_length xs (ys ++ zs)

-- ---- arms

pub one_arm : (net : Network) (passed behind first second rest : List Effect) → first ≡ passed → second ≡ [] → rest ≡ behind
    → AreArms net passed behind first second rest
one_arm net passed behind first second rest is_first none is_rest = record {
  end = [];
  parted = sym (append_nil passed) ∙ ap (λ t. t ++ []) (sym is_first);
  goes_on = sym is_rest ∙ ap (λ t. t ++ rest) (sym none);
  past = record {
    leads = λ instances now others more runs h.
        subst (λ (xs : List Effect). Runs net instances now (xs ++ others) h (more h)) is_rest (runs h);
  };
}

leads_past : (net : Network) (left : Links) (further : ℕ) (behind second rest : List Effect) → IsAlways net left → behind ≡ second ++ rest → length second ≡ further
    → LeadsPast net (Jump further left ∷ []) behind rest
leads_past net left further behind second rest always is count = record {
  leads = λ instances now others more runs h.
      jumped further left (behind ++ others) h (more h) (always.always h)
      (subst (λ (xs : List Effect). Runs net instances now xs h (more h)) (sym (behind_all second rest others behind further is count)) (runs h));
}

pub two_arms : (net : Network) (left : Links) (further : ℕ) (passed behind first second rest : List Effect) → passed ≡ first ++ (Jump further left ∷ [])
    → IsAlways net left → behind ≡ second ++ rest → length second ≡ further → AreArms net passed behind first second rest
two_arms net left further passed behind first second rest is always goes count = record {
  end = Jump further left ∷ [];
  parted = is;
  goes_on = goes;
  past = leads_past net left further behind second rest always goes count;
}

-- the element at a place that is the last, and those before it
parted_at : (xs : List Effect) (none : Effect) (n : ℕ) → length xs ≡ suc n → xs ≡ take n xs ++ (get_or xs n none ∷ [])
parted_at [] none n count = absurd (omega (arith, count))
parted_at (x ∷ []) none zero count = refl
parted_at (x ∷ (y ∷ ys)) none zero count = absurd (omega (arith, count))
parted_at (x ∷ xs) none (suc n) count = ap (λ t. x ∷ t) (parted_at xs none n (omega (arith, count)))

parted_last : (xs : List Effect) (none : Effect) → 1 ≤ length xs → xs ≡ take (length xs - 1) xs ++ (get_or xs (length xs - 1) none ∷ [])
parted_last xs none some = parted_at xs none (length xs - 1) (omega (arith, some))

pub two_arms_at : (net : Network) (left : Links) (further : ℕ) (none : Effect) (passed behind second rest : List Effect) → 1 ≤ length passed
    → get_or passed (length passed - 1) none ≡ Jump further left → IsAlways net left → behind ≡ second ++ rest → length second ≡ further
    → AreArms net passed behind (take (length passed - 1) passed) second rest
two_arms_at net left further none passed behind second rest some is always goes count =
    two_arms net left further passed behind (take (length passed - 1) passed) second rest
    (parted_last passed none some ∙ ap (λ x. take (length passed - 1) passed ++ (x ∷ [])) is) always goes count

-- ---- lengths

both_shorter : (all xs ys : List Effect) → all ≡ xs ++ ys → (length xs ≤ length all) × (length ys ≤ length all)
both_shorter all xs ys is =
    let count : length all ≡ length xs + length ys = ap length is ∙ length-append xs ys in
    (omega (arith, count), omega (arith, count))

pub shorter_arms : (net : Network) (passed behind first second rest : List Effect) → AreArms net passed behind first second rest
    → AreShorter passed behind first second rest
shorter_arms net passed behind first second rest arms =
    let one = both_shorter passed first arms.end arms.parted in
    let two = both_shorter behind second rest arms.goes_on in
    record { first_is = one.0; second_is = two.0; rest_is = two.1 }

pub within : (all passed behind first second rest : List Effect) → all ≡ passed ++ behind → AreShorter passed behind first second rest
    → AreWithin all first second rest
within all passed behind first second rest is shorter =
    let both = both_shorter all passed behind is in
    let one : length passed ≤ length all = both.0 in
    let two : length behind ≤ length all = both.1 in
    let a : length first ≤ length passed = shorter.first_is in
    let b : length second ≤ length behind = shorter.second_is in
    let c : length rest ≤ length behind = shorter.rest_is in
    record { first_is = omega (arith, one, a); second_is = omega (arith, two, b); rest_is = omega (arith, two, c) }

-- ---- the choice

then_both : (more next : Held → Ran) (r : Ran) (b : Bool) → r.has_returned ≡ b → and_then more (and_then next r) ≡ and_then (λ h. and_then more (next h)) r
then_both more next r true e =
    ap (and_then more) (if_true r.has_returned r (next r.held) e) ∙ if_true r.has_returned r (more r.held) e
    ∙ sym (if_true r.has_returned r (and_then more (next r.held)) e)
then_both more next r false e =
    ap (and_then more) (if_false r.has_returned r (next r.held) e) ∙ sym (if_false r.has_returned r (and_then more (next r.held)) e)

module _ (net : Network) (over : ℕ) (left : Links) (effects passed behind first second rest : List Effect) (e : Expression) (accepted otherwise next list : StatementList)
    (chooses : IsChoice e accepted otherwise next list) (shows : Shows net left true e) (all : effects ≡ passed ++ behind) (count : length passed ≡ over)
    (arms : AreArms net passed behind first second rest) where
  first_all : (others : List Effect) → effects ++ others ≡ first ++ (arms.end ++ (behind ++ others))
  first_all others =
      ap (λ t. t ++ others) all ∙ together passed behind others ∙ ap (λ t. t ++ (behind ++ others)) arms.parted ∙ together first arms.end (behind ++ others)

  second_all : (others : List Effect) → drop over (effects ++ others) ≡ second ++ (rest ++ others)
  second_all others =
      behind_all passed behind others effects over all count ∙ ap (λ t. t ++ others) arms.goes_on ∙ together second rest others

  by_power : DoAll net first accepted → DoAll net second otherwise → DoAll net rest next → (instances : List Instance) (now : ℕ) (others : List Effect) (more : Held → Ran)
      → ((h : Held) → Runs net instances now others h (more h)) → (h : Held) (b : Bool) → Has net h left (not b)
      → Runs net instances now (Jump over left ∷ (effects ++ others)) h (and_then (λ s. and_then more (run instances now next s)) (ran_by instances now accepted otherwise h b))
  by_power one two behind_both instances now others more runs h true has =
      let on = λ (s : Held). and_then more (run instances now next s) in
      let after = and_then on (run instances now accepted h) in
      not_jumped over left (effects ++ others) h after has
      (subst (λ (xs : List Effect). Runs net instances now xs h after) (sym (first_all others))
      (one.follow instances now (arms.end ++ (behind ++ others)) on (arms.past.leads instances now others on (behind_both.follow instances now others more runs)) h))
  by_power one two behind_both instances now others more runs h false has =
      let on = λ (s : Held). and_then more (run instances now next s) in
      let after = and_then on (run instances now otherwise h) in
      jumped over left (effects ++ others) h after has
      (subst (λ (xs : List Effect). Runs net instances now xs h after) (sym (second_all others))
      (two.follow instances now (rest ++ others) on (behind_both.follow instances now others more runs) h))

  pub choose : Chooses net (Jump over left) effects first second rest accepted otherwise next list
  choose = record {
    chooses = λ one two behind_both. record {
      follow = λ instances now others more runs h.
          let arm = ran_by instances now accepted otherwise h (value_in h e) in
          let same : and_then more (run instances now list h) ≡ and_then (λ s. and_then more (run instances now next s)) arm =
          ap (and_then more) (chooses.chosen instances now h) ∙ then_both more (run instances now next) arm arm.has_returned refl in
          subst (λ (r : Ran). Runs net instances now (Jump over left ∷ (effects ++ others)) h r) (sym same)
          (by_power one two behind_both instances now others more runs h (value_in h e) (shows.shown h));
    };
  }
