-- How a request ends, from how each kind of request does.
use Rattle.std.proofs.Common.{◌≡◌, ◌⊎◌, inl, inr, subst}

-- What holds in each case holds beside the second one.
pub with_second : {A B C D : Type 0} → D → A ⊎ (B × C) → A ⊎ (B × D × C)
with_second d (inl a) = inl a
with_second d (inr b) = inr (b.0, d, b.1)

pub with_third : {A B D : Type 0} → D → A ⊎ B → A ⊎ (B × D)
with_third d (inl a) = inl a
with_third d (inr b) = inr (b, d)

-- What the second case says of a name it says of the same name.
pub with_same : {A X : Type 0} (P : X → Type 0) {x y : X} → x ≡ y → A ⊎ P x → A ⊎ P y
with_same P e (inl a) = inl a
with_same P e (inr b) = inr (subst P e b)
