-- The rungs of the other statements.
use Rattle.std.proofs.Common.{◌≡◌, ℕ, ◌+◌, ◌<◌, Bool, true, false, not, List, [], ◌∷◌, get_or, refl, sym, ap, ap₂, subst, ◌∙◌, Some, None, if◌then◌else◌}
use Rattle.std.proofs.lemmas.List.Elements.{All-nil}
use Rattle.diagram_program.specs.declared.gates.Action.{Action}
use Rattle.diagram_program.specs.declared.mode.CoilMode.TheVariants.{Rising}
use Rattle.diagram_program.specs.declared.cell.Cell.{Cell}
use Rattle.diagram_program.specs.declared.cell.Cell.TheVariants.{Coil, Block}
use Rattle.diagram_program.specs.Program.{Drawing, jump_of}
use Rattle.diagram_program.specs.Gates.{actions_of}
use Rattle.scan_signals.specs.Truth.{plain}
use Rattle.scan_cycle.specs.Cells.{Frame, place_at, stored_by}
use Rattle.scan_cycle.specs.Rung.{Held, changed, frame_of, link, link_at, second, evaluated}
use Rattle.scan_cycle.specs.Programs.{diagram_of}
use Rattle.st_expression.specs.declared.expression.Operand.{Operand}
use Rattle.st_expression.specs.declared.expression.Expression.{Expression}
use Rattle.st_expression.specs.declared.expression.Expression.TheVariants.{Constant}
use Rattle.st_expression.specs.Value.{value}
use Rattle.st_statements.specs.declared.statement.StatementList.{StatementList}
use Rattle.st_statements.specs.declared.statement.StatementList.TheVariants.{End, Assign', Trigger', Call', Select', Return'}
use Rattle.st_statements.specs.Operands.{are_within, is_within}
use Rattle.st_statements.specs.Run.{Ran, assigned, called, ran, run, seen, triggered, value_in}
use Rattle.draw_power.specs.declared.helpers.Helper.{Helper}
use Rattle.draw_check.specs.Acted.{acted, acted_from}
use Rattle.draw_check.specs.Groups.{AreArms, Branches, Do, IsCallRung, IsLatch, IsLeave, IsReturn, IsSelection, IsLink, IsSecond, IsTriggerRung, Latch, Leaves, latch_for}
use Rattle.draw_check.specs.Meaning.{AreSame}
use Rattle.draw_check.specs.Steps.{Arrives, Draws, Prepares, Reaches, here}
use Rattle.draw_check.proofs.Acted.{evaluated_is, next_below, next_there}
use Rattle.draw_check.proofs.Alike.{value_same}
use Rattle.draw_check.proofs.Arriving.{arrives_on, one_rung, reaches_on}
use Rattle.draw_check.proofs.Same.{assigned_same, called_same, kept_same, triggered_same}
use Rattle.draw_check.proofs.Taking.{is_rung}
use Rattle.draw_check.proofs.Within.{call_within, select_within, trigger_within}

pub one_acted : (p : Drawing) (now rung : ℕ) (g : Held) (a : Action) → actions_of p rung ≡ a ∷ [] →
    evaluated (diagram_of p) now rung g ≡ changed (diagram_of p) now (frame_of g) a.cell (link_at (diagram_of p) now rung g a.place) (second plain (diagram_of p) rung (link_at (diagram_of p) now rung g) a.place) g
unfolding acted
one_acted p now rung g a is = evaluated_is p now rung g ∙ ap (λ xs. acted_from p now rung g xs g) is

none_acted : (p : Drawing) (now rung : ℕ) (g : Held) → actions_of p rung ≡ [] → evaluated (diagram_of p) now rung g ≡ g
unfolding acted
none_acted p now rung g is = evaluated_is p now rung g ∙ ap (λ xs. acted_from p now rung g xs g) is

module _ (p : Drawing) (n rung : ℕ) (helpers : List Helper) (lt : rung < p.rungs) where
  -- ---- a rung without a jump
  module _ (none : jump_of p rung ≡ None) where
    goes : (now : ℕ) (g last : Held) → evaluated (diagram_of p) now rung g ≡ last → Reaches (diagram_of p) now rung g (rung + 1) last
    goes now g last is = one_rung (diagram_of p) now rung (rung + 1) g last (is_rung p rung lt) (next_below p now rung g none) is

    pub do_trigger : (a : Action) (v memory : ℕ) (e : Expression) (q : _) (next : StatementList) → actions_of p rung ≡ a ∷ [] → a.cell ≡ Coil Rising v (Some memory) →
        IsLink p helpers rung a.place true e → v < n → is_within n e ≡ true → Do p n helpers (Trigger' v memory e q next) next rung (rung + 1)
    unfolding run
    do_trigger a v memory e q next one cell drawn small within = λ now g h same are.
        let x = value_in h e in
        let is : evaluated (diagram_of p) now rung g ≡ triggered v memory x g =
        one_acted p now rung g a one
        ∙ ap (λ (c : Cell). changed (diagram_of p) now (frame_of g) c (link_at (diagram_of p) now rung g a.place) (second plain (diagram_of p) rung (link_at (diagram_of p) now rung g) a.place) g) cell
        ∙ ap (λ (b : Bool). triggered v memory b g) (drawn g.kept now (frame_of g) are ∙ value_same p n g h same e within) in
        (triggered v memory x g, triggered v memory x h, goes now g _ is, triggered_same p n v memory x g h small same, refl)

    pub do_call : (a : Action) (i : ℕ) (x y : Expression) (q : _) (next : StatementList) → actions_of p rung ≡ a ∷ [] → a.cell ≡ Block i → IsLink p helpers rung a.place true x →
        IsSecond p helpers rung a.place y →
        is_within n x ≡ true → is_within n y ≡ true → Do p n helpers (Call' i x y q next) next rung (rung + 1)
    unfolding run diagram_of
    do_call a i x y q next one cell drawn lower within below = λ now g h same are.
        let b = value_in h x in
        let c = value_in h y in
        let is : evaluated (diagram_of p) now rung g ≡ called p.decls.instances now i b c g =
        one_acted p now rung g a one
        ∙ ap (λ (k : Cell). changed (diagram_of p) now (frame_of g) k (link_at (diagram_of p) now rung g a.place) (second plain (diagram_of p) rung (link_at (diagram_of p) now rung g) a.place) g) cell
        ∙ ap₂ (λ (s t : Bool). called p.decls.instances now i s t g) (drawn g.kept now (frame_of g) are ∙ value_same p n g h same x within)
        (lower g.kept now (frame_of g) are ∙ value_same p n g h same y below) in
        (called p.decls.instances now i b c g, called p.decls.instances now i b c h, goes now g _ is, called_same p n p.decls.instances now i b c g h same, refl)

    -- ---- set and reset coils
    on_latch : (q : Bool) (arm : Ran) (d : _) (now : ℕ) (next : StatementList) (h : Held) → arm.has_returned ≡ false →
        (let r = if q then arm else ran false h in if r.has_returned then r else run d now next r.held) ≡ run d now next (if q then arm.held else h)
    on_latch true arm d now next h stays = ap (λ b. if b then arm else run d now next arm.held) stays
    on_latch false arm d now next h stays = refl

    pub do_latch : (e : Expression) (q r s : _) (accepted next : StatementList) → is_within n e ≡ true → Latch p n rung helpers e (actions_of p rung) accepted →
        Do p n helpers (Select' e q accepted r End s next) next rung (rung + 1)
    unfolding run
    do_latch e q r s accepted next within latch = λ now g h same are.
        let last = evaluated (diagram_of p) now rung g in
        let x = value_same p n g h same e within in (
          last,
          if value_in h e then (run p.decls.instances now accepted h).held else h,
          goes now g last refl,
          subst (λ (f : Held). AreSame p n f (if value_in h e then (run p.decls.instances now accepted h).held else h)) (sym (evaluated_is p now rung g))
              (subst (λ (b : Bool). AreSame p n (acted_from p now rung g (actions_of p rung) g) (if b then (run p.decls.instances now accepted h).held else h)) x (latch.does now g.kept (frame_of g) are g h same)),
          on_latch (value_in h e) (run p.decls.instances now accepted h) p.decls.instances now next h (latch.stays now h),
        )

  -- ---- a rung with a jump and nothing else
  module _ (row column target : ℕ) (jump : jump_of p rung ≡ Some (row, column, target)) (none : actions_of p rung ≡ []) where
    jumps : (now : ℕ) (g : Held) (b : Bool) → link_at (diagram_of p) now rung g (place_at row column) ≡ b → Reaches (diagram_of p) now rung g (if b then target else rung + 1) g
    jumps now g b is =
        one_rung (diagram_of p) now rung _ g g (is_rung p rung lt) (next_there p now rung row column target g jump ∙ ap (λ (c : Bool). if c then target else rung + 1) is) (none_acted p now rung g none)

    pub branches : (on : Bool) (e : Expression) → IsLink p helpers rung (place_at row column) on e → Branches p helpers rung target on e
    branches on e drawn = λ now g are b is. jumps now g b (drawn g.kept now (frame_of g) are ∙ is)

-- the first of the coils, and the others
module _ (p : Drawing) (n rung : ℕ) (helpers : List Helper) (e : Expression) where
  pub latch_none : Latch p n rung helpers e [] End
  unfolding run acted
  latch_none = record { stays = λ now h. refl; does = λ now k f are g h same. subst (AreSame p n g) (sym (either (value (seen f) e) h)) same }
    where
      either : (b : Bool) (h : Held) → (if b then h else h) ≡ h
      either true h = refl
      either false h = refl

  latched : (c x m old : Bool) → stored_by plain (latch_for c) x m old ≡ (if x then c else old)
  latched true x m old = refl
  latched false x m old = refl

  latch_step : (x : Bool) (v : ℕ) (w : Expression) (q : _) (more : List Action) (next : StatementList) (now : ℕ) (f : Frame Bool) (links : ℕ → Bool) (c : Bool) (g h : Held) →
      v < n → value_in h w ≡ c → AreSame p n g h →
      ((g h : Held) → AreSame p n g h → AreSame p n (acted p now rung f links more g) (if x then (run p.decls.instances now next h).held else h)) →
      AreSame p n (acted p now rung f links more (assigned v (if x then c else get_or g.values v false) g)) (if x then (run p.decls.instances now (Assign' v w q next) h).held else h)
  unfolding run
  latch_step true v w q more next now f links c g h lt is same others =
      subst (λ (b : Bool). AreSame p n (acted p now rung f links more (assigned v c g)) (run p.decls.instances now next (assigned v b h)).held) (sym is)
      (others (assigned v c g) (assigned v c h) (assigned_same p n v c g h lt same))
  latch_step false v w q more next now f links c g h lt is same others = others (assigned v (get_or g.values v false) g) h (kept_same p n v g h lt same)

  pub latch_more : (a : Action) (more : List Action) (c : Bool) (v : ℕ) (w : Expression) (q : _) (next : StatementList) →
      IsLink p helpers rung a.place true e → a.cell ≡ Coil (latch_for c) v None → v < n → ((env : Operand → Bool) → value env w ≡ c) →
      Latch p n rung helpers e more next → Latch p n rung helpers e (a ∷ more) (Assign' v w q next)
  unfolding run acted
  latch_more a more c v w q next drawn cell lt is others = record {
    stays = λ now h. others.stays now (assigned v (value_in h w) h);
    does = λ now k f are g h same.
        let links = link plain (diagram_of p) k now rung f in
        let x = value (seen f) e in
        let changes : changed (diagram_of p) now f a.cell (links a.place) (second plain (diagram_of p) rung links a.place) g ≡ assigned v (if x then c else get_or g.values v false) g =
        ap (λ (b : Cell). changed (diagram_of p) now f b (links a.place) (second plain (diagram_of p) rung links a.place) g) cell
        ∙ ap (λ (b : Bool). assigned v b g) (latched c (links a.place) false (get_or g.values v false))
        ∙ ap (λ (b : Bool). assigned v (if b then c else get_or g.values v false) g) (drawn k now f are) in
        subst (λ (s : Held). AreSame p n (acted p now rung f links more s) (if x then (run p.decls.instances now (Assign' v w q next) h).held else h)) (sym changes)
        (latch_step x v w q more next now f links c g h lt (is (seen (frame_of h))) same (others.does now k f are));
  }

  pub latch_by : (a : Action) (more : List Action) (list next : StatementList) → IsLatch p n rung helpers e a list next → Latch p n rung helpers e more next → Latch p n rung helpers e (a ∷ more) list
  latch_by a more list next latch others =
      subst (λ (l : StatementList). Latch p n rung helpers e (a ∷ more) l) (sym latch.begins.1)
      (latch_more a more latch.on latch.variable latch.expression latch.begins.0 next latch.link latch.cell latch.small latch.constant others)

-- ---- RETURN and IF

pub leaves : (p : Drawing) (rung target : ℕ) → Branches p [] rung target true (Constant true) → Leaves p rung target
unfolding value
leaves p rung target branches = λ now g. branches now g (All-nil _) true refl

module _ (p : Drawing) (n : ℕ) where
  pub draws_end : (j : ℕ) → Draws p n End j j
  unfolding run
  draws_end j = λ now g h same. (g, here j g, same)

  -- A rung that is left for the end of the program, whatever stands below.
  pub draws_return : (j k : ℕ) (q : _) (next : StatementList) → Leaves p j p.rungs → Draws p n (Return' q next) j k
  unfolding run
  draws_return j k q next leaves = λ now g h same. (g, leaves now g, same)

  -- an arm of an IF, and then what follows it
  select_on : (now j l k : ℕ) (g : Held) (next : StatementList) (b : Bool) (s : Held) → Arrives p n now j g (if b then p.rungs else l) s → Draws p n next l k →
      (let r = if b then ran b s else run p.decls.instances now next s in Arrives p n now j g (if r.has_returned then p.rungs else k) r.held)
  select_on now j l k g next true s first draws = first
  select_on now j l k g next false s first draws = arrives_on p n now j l _ g s _ first (λ f same. draws now f s same)

  leave_on : (now j a l : ℕ) (g : Held) (b : Bool) (s : Held) → Arrives p n now j g (if b then p.rungs else a) s → ((f : Held) → Reaches (diagram_of p) now a f l f) →
      Arrives p n now j g (if b then p.rungs else l) s
  leave_on now j a l g true s first leaves = first
  leave_on now j a l g false s first leaves = (first.0, reaches_on (diagram_of p) now j a l g first.0 first.0 first.1 (leaves first.0), first.2)

  before : (now j m k : ℕ) (g f : Held) (s : Held) → Reaches (diagram_of p) now j g m f → Arrives p n now m f k s → Arrives p n now j g k s
  before now j m k g f s first rest = (rest.0, reaches_on (diagram_of p) now j m k g f rest.0 first rest.1, rest.2)

  -- the arm that is taken
  arm_on : (now m t l a : ℕ) (f h : Held) (accepted otherwise : StatementList) (x : Bool) → AreSame p n f h →
      ((b : Bool) → not x ≡ b → Reaches (diagram_of p) now m f (if b then t else m + 1) f) → Draws p n accepted (m + 1) a → ((g : Held) → Reaches (diagram_of p) now a g l g) →
      Draws p n otherwise t l → (let arm = if x then run p.decls.instances now accepted h else run p.decls.instances now otherwise h in Arrives p n now m f (if arm.has_returned then p.rungs else l) arm.held)
  arm_on now m t l a f h accepted otherwise true same leaps yes_drawn leaves no_drawn =
      before now m (m + 1) _ f f _ (leaps false refl) (leave_on now (m + 1) a l f _ _ (yes_drawn now f h same) leaves)
  arm_on now m t l a f h accepted otherwise false same leaps yes_drawn leaves no_drawn = before now m t _ f f _ (leaps true refl) (no_drawn now f h same)

  pub draws_select : (helpers : List Helper) (e : Expression) (q r s : _) (accepted otherwise next : StatementList) (j m t a l k : ℕ) → is_within n e ≡ true → Prepares p n helpers j m →
      Branches p helpers m t false e →
      Draws p n accepted (m + 1) a → Leaves p a l → Draws p n otherwise t l → Draws p n next l k →
      Draws p n (Select' e q accepted r otherwise s next) j k
  unfolding run
  draws_select helpers e q r s accepted otherwise next j m t a l k within prepares leaps first leaves second draws = λ now g h same.
      let prepared = prepares now g h same in
      let x = value_same p n prepared.0 h prepared.2 e within in
      let arm = if value_in h e then run p.decls.instances now accepted h else run p.decls.instances now otherwise h in
      let taken = arm_on now m t l a prepared.0 h accepted otherwise (value_in h e) prepared.2 (λ b is. leaps now prepared.0 prepared.3 b (ap not x ∙ is)) first (leaves now) second in
      before now j m _ g prepared.0 _ prepared.1 (select_on now m l k prepared.0 next arm.has_returned arm.held taken draws)

  -- IF with RETURN alone
  return_on : (now m k : ℕ) (f h : Held) (q : _) (u next : StatementList) (x : Bool) → AreSame p n f h → ((b : Bool) → x ≡ b → Reaches (diagram_of p) now m f (if b then p.rungs else m + 1) f) → Draws p n next (m + 1) k →
      (let arm = if x then run p.decls.instances now (Return' q u) h else run p.decls.instances now End h in
      let r = if arm.has_returned then arm else run p.decls.instances now next arm.held in Arrives p n now m f (if r.has_returned then p.rungs else k) r.held)
  unfolding run
  return_on now m k f h q u next true same leaps draws = (f, leaps true refl, same)
  return_on now m k f h q u next false same leaps draws = before now m (m + 1) _ f f _ (leaps false refl) (draws now f h same)

  pub draws_leave : (helpers : List Helper) (e : Expression) (q r s v : _) (u next : StatementList) (j m k : ℕ) → is_within n e ≡ true → Prepares p n helpers j m →
      Branches p helpers m p.rungs true e →
      Draws p n next (m + 1) k → Draws p n (Select' e q (Return' v u) r End s next) j k
  unfolding run
  draws_leave helpers e q r s v u next j m k within prepares leaps draws = λ now g h same.
      let prepared = prepares now g h same in
      let x = value_same p n prepared.0 h prepared.2 e within in
      before now j m _ g prepared.0 _ prepared.1 (return_on now m k prepared.0 h v u next (value_in h e) prepared.2 (λ b is. leaps now prepared.0 prepared.3 b (x ∙ is)) draws)

-- ---- by what the check has found
pub trigger_by : (p : Drawing) (n rung : ℕ) (helpers : List Helper) (v memory : ℕ) (e : Expression) (q : _) (next list : StatementList) → rung < p.rungs → list ≡ Trigger' v memory e q next →
    are_within n list ≡ true → IsTriggerRung p rung helpers v memory e → Do p n helpers list next rung (rung + 1)
trigger_by p n rung helpers v memory e q next list lt is within found =
    let parts = trigger_within n v memory e q next (ap (are_within n) (sym is) ∙ within) in
    subst (λ (l : StatementList). Do p n helpers l next rung (rung + 1)) (sym is)
    (do_trigger p n rung helpers lt found.jump found.action v memory e q next found.one found.cell found.link parts.0 parts.1)

pub call_by : (p : Drawing) (n rung : ℕ) (helpers : List Helper) (i : ℕ) (x y : Expression) (q : _) (next list : StatementList) → rung < p.rungs → list ≡ Call' i x y q next →
    are_within n list ≡ true → IsCallRung p rung helpers i x y → Do p n helpers list next rung (rung + 1)
call_by p n rung helpers i x y q next list lt is within found =
    let parts = call_within n i x y q next (ap (are_within n) (sym is) ∙ within) in
    subst (λ (l : StatementList). Do p n helpers l next rung (rung + 1)) (sym is)
    (do_call p n rung helpers lt found.jump found.action i x y q next found.one found.cell found.link found.lower parts.0 parts.1)

pub latch_list : (p : Drawing) (n rung : ℕ) (helpers : List Helper) (e : Expression) (q r s : _) (accepted otherwise next list : StatementList) → rung < p.rungs → jump_of p rung ≡ None →
    list ≡ Select' e q accepted r otherwise s next → otherwise ≡ End → are_within n list ≡ true → Latch p n rung helpers e (actions_of p rung) accepted → Do p n helpers list next rung (rung + 1)
latch_list p n rung helpers e q r s accepted otherwise next list lt none is empty within latch =
    let parts = select_within n e q r s accepted otherwise next (ap (are_within n) (sym is) ∙ within) in
    subst (λ (l : StatementList). Do p n helpers l next rung (rung + 1)) (sym is)
    (subst (λ (o : StatementList). Do p n helpers (Select' e q accepted r o s next) next rung (rung + 1)) (sym empty)
    (do_latch p n rung helpers lt none e q r s accepted next parts.0 latch))

pub end_by : (p : Drawing) (n j : ℕ) (list : StatementList) → list ≡ End → Draws p n list j j
end_by p n j list is = subst (λ (l : StatementList). Draws p n l j j) (sym is) (draws_end p n j)

pub return_by : (p : Drawing) (n j k : ℕ) (next list : StatementList) → IsReturn next list → Leaves p j p.rungs → Draws p n list j k
return_by p n j k next list is leaves = subst (λ (l : StatementList). Draws p n l j k) (sym is.1) (draws_return p n j k is.0 next leaves)

pub select_by : (p : Drawing) (n : ℕ) (helpers : List Helper) (e : Expression) (accepted otherwise next list : StatementList) (j m t l k : ℕ) →
    IsSelection e accepted otherwise next list → are_within n list ≡ true → Prepares p n helpers j m → Branches p helpers m t false e → AreArms p n accepted otherwise (m + 1) t l →
    Draws p n next l k → Draws p n list j k
select_by p n helpers e accepted otherwise next list j m t l k is within prepares branches arms draws =
    let parts = select_within n e is.0 is.1 is.2 accepted otherwise next (ap (are_within n) (sym is.3) ∙ within) in
    subst (λ (x : StatementList). Draws p n x j k) (sym is.3)
    (draws_select p n helpers e is.0 is.1 is.2 accepted otherwise next j m t arms.0 l k parts.0 prepares branches arms.1 arms.2 arms.3 draws)

pub leave_by : (p : Drawing) (n : ℕ) (helpers : List Helper) (e : Expression) (accepted otherwise next list : StatementList) (j m k : ℕ) →
    IsSelection e accepted otherwise next list → are_within n list ≡ true → IsLeave p m helpers e accepted otherwise → Prepares p n helpers j m → Draws p n next (m + 1) k → Draws p n list j k
leave_by p n helpers e accepted otherwise next list j m k is within leave prepares draws =
    let parts = select_within n e is.0 is.1 is.2 accepted otherwise next (ap (are_within n) (sym is.3) ∙ within) in
    subst (λ (x : StatementList). Draws p n x j k) (sym is.3)
    (subst (λ (x : StatementList). Draws p n (Select' e is.0 x is.1 otherwise is.2 next) j k) (sym leave.returns.1)
    (subst (λ (x : StatementList). Draws p n (Select' e is.0 (Return' leave.returns.0 leave.behind) is.1 x is.2 next) j k) (sym leave.empty)
    (draws_leave p n helpers e is.0 is.1 is.2 leave.returns.0 leave.behind next j m k parts.0 prepares leave.branches draws)))

pub arms_by : (p : Drawing) (n : ℕ) (accepted otherwise : StatementList) (first target end : ℕ) → Draws p n accepted first end → Draws p n otherwise target end → AreArms p n accepted otherwise first target end
arms_by p n accepted otherwise first target end one other = (end, one, λ now g. here end g, other)
