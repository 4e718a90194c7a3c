-- Private: what leads to some elements.
use Rattle.std.specs.Prelude.{◌≡◌, ℕ, Bool, true, List, ◌⊎◌}
use Rattle.st_expression.specs.declared.expression.Operand.{Operand}
use Rattle.network_power.specs.declared.leads.Left.{Left}
use Rattle.network_power.specs.declared.leads.Left.TheVariants.{Rail, Elements}
use Rattle.network_power.specs.declared.network.Network.{Network}
use Rattle.network_power.specs.Network.{HasPower, IsFedBy}

-- what each operand has
abbrev pub Env : Type 0
Env = Operand → Bool

-- There is power on the left.
abbrev pub IsFed : Network → Env → Left → Type 0
IsFed net env Rail = Unit {0}
IsFed net env (Elements ids) = IsFedBy net env ids.now

-- One of the first has power where one of the second has.
pub record IsSame (net : Network) (first second : List ℕ) : Type 0 where
  pub forth : (env : Env) → IsFedBy net env first → IsFedBy net env second
  pub back : (env : Env) → IsFedBy net env second → IsFedBy net env first

-- An element has power where there is power on the left and a condition holds.
pub record LeadsTo (net : Network) (id : ℕ) (left : Left) (through : Env → Bool) : Type 0 where
  pub needs : (env : Env) → HasPower net env id → IsFed net env left × (through env ≡ true)
  pub suffices : (env : Env) → IsFed net env left → through env ≡ true → HasPower net env id

-- One of these has power where there is power on the left and a condition holds, or where one of the rest has power.
pub record Leads (net : Network) (ids : List ℕ) (left : Left) (rest : List ℕ) (through : Env → Bool) : Type 0 where
  pub needs : (env : Env) → IsFedBy net env ids → (IsFed net env left × (through env ≡ true)) ⊎ IsFedBy net env rest
  pub suffices : (env : Env) → IsFed net env left → through env ≡ true → IsFedBy net env ids
  pub beside : (env : Env) → IsFedBy net env rest → IsFedBy net env ids

-- There is power on both or on neither.
pub record IsOneLeft (net : Network) (first second : Left) : Type 0 where
  pub forth : (env : Env) → IsFed net env first → IsFed net env second
  pub back : (env : Env) → IsFed net env second → IsFed net env first

-- There is power always.
pub record IsEnd (net : Network) (left : Left) : Type 0 where
  pub fed : (env : Env) → IsFed net env left
