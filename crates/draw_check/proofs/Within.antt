-- What statements within so many variables have.
use Rattle.std.proofs.Common.{◌≡◌, ℕ, ◌<◌, true, sym, ap, ◌∙◌}
use Rattle.std.proofs.lemmas.Bool.{and_parts, ltb-true}
use Rattle.st_expression.specs.declared.expression.Expression.{Expression}
use Rattle.st_statements.specs.declared.statement.StatementList.{StatementList}
use Rattle.st_statements.specs.declared.statement.StatementList.TheVariants.{Assign', Trigger', Call', Select', Return'}
use Rattle.st_statements.specs.Operands.{are_within, is_within}
use Rattle.draw_check.specs.Groups.{IsAssignment, IsReturn, IsSelection}

pub assign_within : (n v : ℕ) (e : Expression) (p : _) (next : StatementList) → are_within n (Assign' v e p next) ≡ true → (v < n) × (is_within n e ≡ true) × (are_within n next ≡ true)
unfolding are_within
assign_within n v e p next t =
    let a = and_parts _ _ t in
    let b = and_parts _ _ a.1 in
    (ltb-true _ _ a.0, b.0, b.1)

pub assigns_within : (n v : ℕ) (e : Expression) (next list : StatementList) → IsAssignment v e next list → are_within n list ≡ true → (v < n) × (is_within n e ≡ true) × (are_within n next ≡ true)
assigns_within n v e next list begins t = assign_within n v e begins.0 next (ap (are_within n) (sym begins.1) ∙ t)

pub trigger_within : (n v m : ℕ) (e : Expression) (p : _) (next : StatementList) → are_within n (Trigger' v m e p next) ≡ true → (v < n) × (is_within n e ≡ true) × (are_within n next ≡ true)
unfolding are_within
trigger_within n v m e p next t =
    let a = and_parts _ _ t in
    let b = and_parts _ _ a.1 in
    (ltb-true _ _ a.0, b.0, b.1)

pub call_within : (n i : ℕ) (x y : Expression) (p : _) (next : StatementList) → are_within n (Call' i x y p next) ≡ true → (is_within n x ≡ true) × (is_within n y ≡ true) × (are_within n next ≡ true)
unfolding are_within
call_within n i x y p next t =
    let a = and_parts _ _ t in
    let b = and_parts _ _ a.1 in
    (a.0, b.0, b.1)

pub select_within : (n : ℕ) (e : Expression) (p q r : _) (accepted otherwise next : StatementList) → are_within n (Select' e p accepted q otherwise r next) ≡ true →
    (is_within n e ≡ true) × (are_within n accepted ≡ true) × (are_within n otherwise ≡ true) × (are_within n next ≡ true)
unfolding are_within
select_within n e p q r accepted otherwise next t =
    let a = and_parts _ _ t in
    let b = and_parts _ _ a.1 in
    let c = and_parts _ _ b.1 in
    (a.0, b.0, c.0, c.1)

pub return_within : (n : ℕ) (p : _) (next : StatementList) → are_within n (Return' p next) ≡ true → are_within n next ≡ true
unfolding are_within
return_within n p next t = t

pub selection_within : (n : ℕ) (e : Expression) (accepted otherwise next list : StatementList) → IsSelection e accepted otherwise next list → are_within n list ≡ true →
    (is_within n e ≡ true) × (are_within n accepted ≡ true) × (are_within n otherwise ≡ true) × (are_within n next ≡ true)
selection_within n e accepted otherwise next list is t = select_within n e is.0 is.1 is.2 accepted otherwise next (ap (are_within n) (sym is.3) ∙ t)

pub returns_within : (n : ℕ) (next list : StatementList) → IsReturn next list → are_within n list ≡ true → are_within n next ≡ true
returns_within n next list is t = return_within n is.0 next (ap (are_within n) (sym is.1) ∙ t)
