-- Each variable that a body reaches is found, where its scope says, and each closure is made of what it captures.
use Rattle.std.proofs.Common.{◌≡◌, ℕ, zero, suc, List, [], ◌∷◌, ◌++◌, length, Option, Some, None, Bool, true, false, ◌||◌, if◌then◌else◌, nat_eq, refl, sym, ap, subst, ◌∙◌, arith}
use Rattle.std.specs.Prelude.{⊤}
use Rattle.mlc_runs.specs.Run.{World, Answer, gives, then_do, or_fail}
use Rattle.mlc_runs.specs.Refinement.{Refines}
use Rattle.ir_values.specs.Values.{closure, bind}
use Rattle.ir_plain.specs.Tree.{Fun, Funs, no_funs, fun}
use Rattle.ir_plain.specs.Meaning as src
use Rattle.ir_plain.specs.Meaning.{one_of, look_up}
use Rattle.ir_explicit.specs.of_ir_mono.Mono.{mono}
use Rattle.first_values.specs.Values as cells
use Rattle.first_values.specs.Operations as op
use Rattle.first_values.specs.Operations.{Tables}
use Rattle.ir_first.specs.Tree as out
use Rattle.ir_first.specs.Meaning.{Calls}
use Rattle.ir_first.specs.Continued as tgt
use Rattle.closure_convert.specs.of_flow_sets.Member.{is_in}
use Rattle.closure_convert.specs.of_flow_sets.Flow.{variable, at, number_of}
use Rattle.closure_convert.proofs.of_flow_sets.Member.{nat_eq-to, nat_eq-same, decide, or_left}
use Rattle.closure_convert.specs.Scope.{names, Scope, add, add_all, Way, no_way, leads, follows, way_in, way, is_way, reaches, index_of, Piece, alone, those, IsOuter, InRow, Makes, makes_none, makes_one, makes_run}
use Rattle.closure_convert.specs.Closed.{IsLocal, scope_of, members, IsMade}
use Rattle.closure_meaning.specs.Convert.{Numbering, holder, var, outer, access, piece_list, ready, making, following}
use Rattle.closure_meaning.specs.Fits.{Setting, IsValue}
use Rattle.closure_meaning.proofs.Related.{Val, IsOneOf, held, Good, AllGood, Same, same_closure, Stands, is_value, SameCaptured, no_captured, captured, R}

-- Numbers

pub different : (x y : ℕ) → (x ≡ y → ⊥) → nat_eq x y ≡ false
different x y h = go (nat_eq x y) refl
  where
    go : (b : Bool) → nat_eq x y ≡ b → b ≡ false
    go true e = absurd (h (nat_eq-to x y e))
    go false e = refl

pub var-one : (x y : ℕ) → nat_eq (var x) (var y) ≡ nat_eq x y
var-one x y = go (nat_eq x y) refl
  where
    go : (b : Bool) → nat_eq x y ≡ b → nat_eq (var x) (var y) ≡ b
    go true e = subst (λ z. nat_eq (var x) (var z) ≡ true) (nat_eq-to x y e) (nat_eq-same (var x))
    go false e = different (var x) (var y) (λ h. absurd (let d : x ≡ y = omega (arith, h) in let k : nat_eq x y ≡ true = subst (λ z. nat_eq x z ≡ true) d (nat_eq-same x) in cc))

-- Environments of the conversion

pub here : (k : ℕ) (v : cells.Value) (env : cells.Env) → cells.look_up k (cells.bind k v env) ≡ Some v
here k v env = ap (λ b. if b then Some v else cells.look_up k env) (nat_eq-same k)

pub past : (k l : ℕ) (v : cells.Value) (env : cells.Env) → nat_eq k l ≡ false → cells.look_up k (cells.bind l v env) ≡ cells.look_up k env
past k l v env e = ap (λ b. if b then Some v else cells.look_up k env) e

pub past-var : (y x : ℕ) (v : cells.Value) (env : cells.Env) → nat_eq y x ≡ false → cells.look_up (var y) (cells.bind (var x) v env) ≡ cells.look_up (var y) env
past-var y x v env e = past (var y) (var x) v env (var-one y x ∙ e)

pub past-holder : (x : ℕ) (v : cells.Value) (env : cells.Env) → cells.look_up holder (cells.bind (var x) v env) ≡ cells.look_up holder env
past-holder x v env = past holder (var x) v env (different holder (var x) (λ h. omega (arith, h)))

-- What an access gives

abbrev pub part_at : ℕ → Option cells.Value → Option cells.Value
part_at i (Some (cells.cell tag vs)) = cells.at i vs
part_at i _ = None

abbrev pub follower_of : ℕ → Option cells.Value → Option cells.Value
follower_of tag None = None
follower_of tag (Some v) = Some (cells.cell tag (cells.value v cells.no_values))

module _ (n : Numbering) where
  abbrev pub outer_value : List ℕ → ℕ → Way → Option cells.Value → Option cells.Value
  outer_value cs x no_way h = part_at (index_of x cs) h
  outer_value cs x leads h = h
  outer_value cs x (follows k) h = follower_of (n.tag k) h

  abbrev pub accessed : Scope → ℕ → cells.Env → Option cells.Value
  accessed s x env = if is_in x s.locals then cells.look_up (var x) env else outer_value s.captured x (way x s.group) (cells.look_up holder env)

module _ (n : Numbering) (T : Tables) (calls : Calls) where
  one-same : (o : Option cells.Value) (u : World cells.Value) → or_fail (cells.first_some o (Some [])) u (λ vs. op.perform T op.same vs u) ≡ or_fail o u (λ v. gives v u)
  one-same None u = refl
  one-same (Some v) u = refl

  field-is : (i : ℕ) (o : Option cells.Value) (u : World cells.Value) → or_fail (cells.first_some o (Some [])) u (λ vs. op.perform T (op.field i) vs u) ≡ or_fail (part_at i o) u (λ v. gives v u)
  field-is i None u = refl
  field-is i (Some (cells.cell tag vs)) u = refl
  field-is i (Some (cells.literal l)) u = refl
  field-is i (Some (cells.reference a)) u = refl
  field-is i (Some (cells.name n)) u = refl
  field-is i (Some (cells.packet n v)) u = refl

  made-is : (k : ℕ) (o : Option cells.Value) (u : World cells.Value) → or_fail (cells.first_some o (Some [])) u (λ vs. gives (cells.cell k (cells.values_of vs)) u) ≡ or_fail (follower_of k o) u (λ v. gives v u)
  made-is k None u = refl
  made-is k (Some v) u = refl

  outer-is : (cs : List ℕ) (x : ℕ) (q : Way) (env : cells.Env) (u : World cells.Value) → tgt.eval_op T calls (outer n cs x q) env u ≡ or_fail (outer_value n cs x q (cells.look_up holder env)) u (λ v. gives v u)
  outer-is cs x no_way env u = field-is (index_of x cs) (cells.look_up holder env) u
  outer-is cs x leads env u = one-same (cells.look_up holder env) u
  outer-is cs x (follows k) env u = made-is (n.tag k) (cells.look_up holder env) u

  pub access-is : (s : Scope) (x : ℕ) (env : cells.Env) (u : World cells.Value) → tgt.eval_op T calls (access n s x) env u ≡ or_fail (accessed n s x env) u (λ v. gives v u)
  access-is s x env u = go (is_in x s.locals)
    where
      go : (b : Bool) → tgt.eval_op T calls (if b then out.plain op.same (var x ∷ []) else outer n s.captured x (way x s.group)) env u ≡ or_fail (if b then cells.look_up (var x) env else outer_value n s.captured x (way x s.group) (cells.look_up holder env)) u (λ v. gives v u)
      go true = one-same (cells.look_up (var x) env) u
      go false = outer-is s.captured x (way x s.group) env u

-- what is bound further does not matter, where it isn't the variable
pub accessed-past : (n : Numbering) (s : Scope) (z y : ℕ) (v : cells.Value) (env : cells.Env) → (is_in z s.locals ≡ true → nat_eq z y ≡ false) → accessed n s z (cells.bind (var y) v env) ≡ accessed n s z env
accessed-past n s z y v env h = go (is_in z s.locals) h
  where
    go : (b : Bool) → (b ≡ true → nat_eq z y ≡ false) → (if b then cells.look_up (var z) (cells.bind (var y) v env) else outer_value n s.captured z (way z s.group) (cells.look_up holder (cells.bind (var y) v env))) ≡ (if b then cells.look_up (var z) env else outer_value n s.captured z (way z s.group) (cells.look_up holder env))
    go true h = past-var z y v env (h refl)
    go false h = ap (outer_value n s.captured z (way z s.group)) (past-holder y v env)

local-is : (n : Numbering) (s : Scope) (x : ℕ) (env : cells.Env) → is_in x s.locals ≡ true → accessed n s x env ≡ cells.look_up (var x) env
local-is n s x env e = ap (λ b. if b then cells.look_up (var x) env else outer_value n s.captured x (way x s.group) (cells.look_up holder env)) e

not_local-is : (n : Numbering) (s : Scope) (x : ℕ) (env : cells.Env) → is_in x s.locals ≡ false → accessed n s x env ≡ outer_value n s.captured x (way x s.group) (cells.look_up holder env)
not_local-is n s x env e = ap (λ b. if b then cells.look_up (var x) env else outer_value n s.captured x (way x s.group) (cells.look_up holder env)) e

module _ (C : Setting) (all : List out.Fun) where
  abbrev Env : Type 0
  Env = src.Scope (mono C.types)

  -- what a variable is, and what its conversion is
  pub data Found (x : ℕ) : Option (Val C.types) → Option cells.Value → Type 0 where
    found : {o : Option (Val C.types)} {o' : Option cells.Value} (v : Val C.types) (u : cells.Value) → o ≡ Some v → o' ≡ Some u → Stands C all (C.numbering.is_name x) v u → IsOneOf C.types v (at C.flow (variable x)) → Found x o o'

  pub found-by : {x : ℕ} {o q : Option (Val C.types)} {o' q' : Option cells.Value} → q ≡ o → q' ≡ o' → Found x o o' → Found x q q'
  found-by e e' (found v v' is is' same isin) = found v v' (e ∙ is) (e' ∙ is') same isin

  -- of an equal variable
  found-at : {o : Option (Val C.types)} {o' : Option cells.Value} (x y : ℕ) → x ≡ y → Found y o o' → Found x o o'
  found-at {o} {o'} x y e h = subst (λ z. Found z o o') (sym e) h

  abbrev pub Known : Scope → Env → cells.Env → Type 0
  Known s env ρ = (x : ℕ) → reaches s x ≡ true → Found x (look_up x env) (accessed C.numbering s x ρ)

  -- but for one variable
  abbrev pub KnownBut : ℕ → Scope → Env → cells.Env → Type 0
  KnownBut h s env ρ = (x : ℕ) → nat_eq x h ≡ false → reaches s x ≡ true → Found x (look_up x env) (accessed C.numbering s x ρ)

  pub local-known : (s : Scope) (env : Env) (ρ : cells.Env) (x : ℕ) → Known s env ρ → IsLocal s x → Found x (look_up x env) (cells.look_up (var x) ρ)
  local-known s env ρ x known e = found-by refl (sym (local-is C.numbering s x ρ e)) (known x (or_left (is_in x s.locals) _ e))

  -- with a variable more
  found-bind : (s : Scope) (env : Env) (ρ : cells.Env) (x : ℕ) (v : Val C.types) (u : cells.Value) → Stands C all (C.numbering.is_name x) v u → IsOneOf C.types v (at C.flow (variable x)) → (y : ℕ) → (nat_eq y x ≡ false → reaches s y ≡ true → Found y (look_up y env) (accessed C.numbering s y ρ)) → reaches (add x s) y ≡ true → Found y (look_up y (bind x v env)) (accessed C.numbering (add x s) y (cells.bind (var x) u ρ))
  found-bind s env ρ x v u same isin y known h = go (nat_eq y x) refl h
    where
      go : (b : Bool) → nat_eq y x ≡ b → ((b || is_in y s.locals) || (is_way (way y s.group) || is_in y s.captured)) ≡ true → Found y (if b then Some v else look_up y env) (if b || is_in y s.locals then cells.look_up (var y) (cells.bind (var x) u ρ) else outer_value C.numbering s.captured y (way y s.group) (cells.look_up holder (cells.bind (var x) u ρ)))
      go true e h = found-at y x (nat_eq-to y x e) (found v u refl (ap (λ b. if b then Some u else cells.look_up (var y) ρ) (var-one y x ∙ e)) same isin)
      go false e h = found-by refl (accessed-past C.numbering s y x u ρ (λ k. e)) (known e h)

  pub known-bind : (s : Scope) (env : Env) (ρ : cells.Env) (x : ℕ) (v : Val C.types) (u : cells.Value) → Known s env ρ → Stands C all (C.numbering.is_name x) v u → IsOneOf C.types v (at C.flow (variable x)) → Known (add x s) (bind x v env) (cells.bind (var x) u ρ)
  known-bind s env ρ x v u known same isin y h = found-bind s env ρ x v u same isin y (λ e k. known y k) h

  known-but-bind : (h : ℕ) (s : Scope) (env : Env) (ρ : cells.Env) (x : ℕ) (v : Val C.types) (u : cells.Value) → KnownBut h s env ρ → Stands C all (C.numbering.is_name x) v u → IsOneOf C.types v (at C.flow (variable x)) → KnownBut h (add x s) (bind x v env) (cells.bind (var x) u ρ)
  known-but-bind h s env ρ x v u known same isin y n k = found-bind s env ρ x v u same isin y (λ e i. known y n i) k

  -- a variable that is bound in the conversion already
  known-there : (s : Scope) (env : Env) (ρ : cells.Env) (x : ℕ) (v : Val C.types) (u : cells.Value) → KnownBut x s env ρ → cells.look_up (var x) ρ ≡ Some u → Stands C all (C.numbering.is_name x) v u → IsOneOf C.types v (at C.flow (variable x)) → Known (add x s) (bind x v env) ρ
  known-there s env ρ x v u known is same isin y h = go (nat_eq y x) refl h
    where
      go : (b : Bool) → nat_eq y x ≡ b → ((b || is_in y s.locals) || (is_way (way y s.group) || is_in y s.captured)) ≡ true → Found y (if b then Some v else look_up y env) (if b || is_in y s.locals then cells.look_up (var y) ρ else outer_value C.numbering s.captured y (way y s.group) (cells.look_up holder ρ))
      go true e h = let q : y ≡ x = nat_eq-to y x e in found-at y x q (found v u refl (ap (λ z. cells.look_up (var z) ρ) q ∙ is) same isin)
      go false e h = known y e h

  -- with a binding that the scope doesn't have
  pub known-past : (s : Scope) (env : Env) (ρ : cells.Env) (y : ℕ) (u : cells.Value) → Known s env ρ → is_in y s.locals ≡ false → Known s env (cells.bind (var y) u ρ)
  known-past s env ρ y u known e z h = found-by refl (accessed-past C.numbering s z y u ρ (λ k. other k (nat_eq z y) refl)) (known z h)
    where
      other : is_in z s.locals ≡ true → (b : Bool) → nat_eq z y ≡ b → b ≡ false
      other k true q = absurd (let l : is_in y s.locals ≡ true = subst (λ x. is_in x s.locals ≡ true) (nat_eq-to z y q) k in cc)
      other k false q = refl

  known-but-past : (s : Scope) (env : Env) (ρ : cells.Env) (y : ℕ) (u : cells.Value) → Known s env ρ → KnownBut y s env (cells.bind (var y) u ρ)
  known-but-past s env ρ y u known z n h = found-by refl (accessed-past C.numbering s z y u ρ (λ k. n)) (known z h)

  -- a name between doesn't matter
  pub known-between : (s : Scope) (env : Env) (ρ : cells.Env) (k : ℕ) (u : cells.Value) → nat_eq holder k ≡ false → ((z : ℕ) → nat_eq (var z) k ≡ false) → Known s env ρ → Known s env (cells.bind k u ρ)
  known-between s env ρ k u n m known z h = found-by refl (go (is_in z s.locals)) (known z h)
    where
      go : (b : Bool) → (if b then cells.look_up (var z) (cells.bind k u ρ) else outer_value C.numbering s.captured z (way z s.group) (cells.look_up holder (cells.bind k u ρ))) ≡ (if b then cells.look_up (var z) ρ else outer_value C.numbering s.captured z (way z s.group) (cells.look_up holder ρ))
      go true = past (var z) k u ρ (m z)
      go false = ap (outer_value C.numbering s.captured z (way z s.group)) (past holder k u ρ n)

  -- Captured values

  captured-known : (x : ℕ) {xs : List ℕ} {env : Env} {r : cells.Values} → SameCaptured C all xs env r → is_in x xs ≡ true → Found x (look_up x env) (cells.at (index_of x xs) r)
  captured-known x (no_captured env) h = absurd (cc)
  captured-known x (captured y {ys = ys} {env = env} {v = v} {u = u} {us = us} is same isin rest) h = pick (nat_eq x y) (nat_eq-to x y) h (captured-known x rest)
    where
      pick : (b : Bool) → (b ≡ true → x ≡ y) → (b || is_in x ys) ≡ true → (is_in x ys ≡ true → Found x (look_up x env) (cells.at (index_of x ys) us)) → Found x (look_up x env) (cells.at (if b then zero else suc (index_of x ys)) (cells.value u us))
      pick true e k more = found-at x y (e refl) (found v u (ap (λ z. look_up z env) (e refl) ∙ is) refl same isin)
      pick false e k more = more k

  -- the others of a group, in its body
  rest-known : (g : ℕ) (fs rest : Funs (mono C.types)) (env : Env) (r : cells.Values) (x : ℕ) → AllGood C all true g fs fs → AllGood C all false g fs rest → SameCaptured C all (C.captures.captured g) env r → (is_way (way_in x (members C.types rest)) || is_in x (C.captures.captured g)) ≡ true → Found x (look_up x (src.members_from rest fs env)) (outer_value C.numbering (C.captures.captured g) x (way_in x (members C.types rest)) (Some (cells.cell (C.numbering.tag g) r)))
  rest-known g fs no_funs env r x good rest_good same h = captured-known x same h
  rest-known g fs (fun y t f rest) env r x good rest_good same h = pick (nat_eq x y) (nat_eq-to x y) h (rest-known g fs rest env r x good rest_good.1.1 same)
    where
      pick : (b : Bool) → (b ≡ true → x ≡ y) → (is_way (if b then follows (number_of C.types f) else way_in x (members C.types rest)) || is_in x (C.captures.captured g)) ≡ true → ((is_way (way_in x (members C.types rest)) || is_in x (C.captures.captured g)) ≡ true → Found x (look_up x (src.members_from rest fs env)) (outer_value C.numbering (C.captures.captured g) x (way_in x (members C.types rest)) (Some (cells.cell (C.numbering.tag g) r)))) → Found x (if b then Some (closure (one_of f fs) env) else look_up x (src.members_from rest fs env)) (outer_value C.numbering (C.captures.captured g) x (if b then follows (number_of C.types f) else way_in x (members C.types rest)) (Some (cells.cell (C.numbering.tag g) r)))
      pick true e k more = found-at x y (e refl) (found (closure (one_of f fs) env) (cells.cell (C.numbering.tag (number_of C.types f)) (held false (C.numbering.tag g) r)) refl refl (value-stands y rest_good.0.1 (same_closure false (one_of f fs) g rest_good.1.0 good same)) rest_good.0.0)
        where
          value-stands : (z : ℕ) {v : Val C.types} {u : cells.Value} → IsValue C z → Same C all v u → Stands C all (C.numbering.is_name z) v u
          value-stands z {v} {u} e k = subst (λ b. Stands C all b v u) (sym e) (is_value k)
      pick false e k more = more k

  pub stands : (z : ℕ) {v : Val C.types} {u : cells.Value} → IsValue C z → Same C all v u → Stands C all (C.numbering.is_name z) v u
  stands z {v} {u} e k = subst (λ b. Stands C all b v u) (sym e) (is_value k)

  -- the closure of the first of a group
  pub first-same : (f : Fun (mono C.types)) (g : ℕ) (fs : Funs (mono C.types)) {env : Env} {r : cells.Values} → Good C all true g fs f → AllGood C all true g fs fs → SameCaptured C all (C.captures.captured g) env r → Same C all (closure (one_of f fs) env) (cells.cell (C.numbering.tag g) r)
  first-same f g fs {env} {r} good all_good same = subst (λ k. Same C all (closure (one_of f fs) env) (cells.cell (C.numbering.tag k) r)) (good.leads refl) (same_closure true (one_of f fs) g good all_good same)

  group-known : (g : ℕ) (fs : Funs (mono C.types)) (env : Env) (r : cells.Values) (x : ℕ) → AllGood C all true g fs fs → SameCaptured C all (C.captures.captured g) env r → (is_way (way x (members C.types fs)) || is_in x (C.captures.captured g)) ≡ true → Found x (look_up x (src.members fs env)) (outer_value C.numbering (C.captures.captured g) x (way x (members C.types fs)) (Some (cells.cell (C.numbering.tag g) r)))
  group-known g no_funs env r x good same h = captured-known x same h
  group-known g (fun y t f rest) env r x good same h = pick (nat_eq x y) (nat_eq-to x y) h (rest-known g (fun y t f rest) rest env r x good good.1.1 same)
    where
      pick : (b : Bool) → (b ≡ true → x ≡ y) → (is_way (if b then leads else way_in x (members C.types rest)) || is_in x (C.captures.captured g)) ≡ true → ((is_way (way_in x (members C.types rest)) || is_in x (C.captures.captured g)) ≡ true → Found x (look_up x (src.members_from rest (fun y t f rest) env)) (outer_value C.numbering (C.captures.captured g) x (way_in x (members C.types rest)) (Some (cells.cell (C.numbering.tag g) r)))) → Found x (if b then Some (closure (one_of f (fun y t f rest)) env) else look_up x (src.members_from rest (fun y t f rest) env)) (outer_value C.numbering (C.captures.captured g) x (if b then leads else way_in x (members C.types rest)) (Some (cells.cell (C.numbering.tag g) r)))
      pick true e k more = found-at x y (e refl) (found (closure (one_of f (fun y t f rest)) env) (cells.cell (C.numbering.tag g) r) refl refl (stands y good.0.1 (first-same f g (fun y t f rest) good.1.0 good same)) good.0.0)
      pick false e k more = more k

  -- in a body that begins: the holder and the parameter x are there
  pub known-body : (g : ℕ) (fs : Funs (mono C.types)) (env : Env) (r : cells.Values) (x : ℕ) (a : Val C.types) (u : cells.Value) (ρ : cells.Env) → AllGood C all true g fs fs → SameCaptured C all (C.captures.captured g) env r → cells.look_up holder ρ ≡ Some (cells.cell (C.numbering.tag g) r) → cells.look_up (var x) ρ ≡ Some u → Stands C all (C.numbering.is_name x) a u → IsOneOf C.types a (at C.flow (variable x)) → Known (scope_of (C.captures.captured g) (members C.types fs) x) (bind x a (src.members fs env)) ρ
  known-body g fs env r x a u ρ good same_c holds bound same isin y h = pick (nat_eq y x) (nat_eq-to y x) h
    where
      pick : (b : Bool) → (b ≡ true → y ≡ x) → ((b || false) || (is_way (way y (members C.types fs)) || is_in y (C.captures.captured g))) ≡ true → Found y (if b then Some a else look_up y (src.members fs env)) (if b || false then cells.look_up (var y) ρ else outer_value C.numbering (C.captures.captured g) y (way y (members C.types fs)) (cells.look_up holder ρ))
      pick true e k = found-at y x (e refl) (found a u refl (ap (λ z. cells.look_up (var z) ρ) (e refl) ∙ bound) same isin)
      pick false e k = found-by refl (ap (outer_value C.numbering (C.captures.captured g) y (way y (members C.types fs))) holds) (group-known g fs env r y good same_c k)

  -- Making closures

  abbrev Has : Env → cells.Env → ℕ → Type 0
  Has env ρ y = Found y (look_up y env) (cells.look_up (var y) ρ)

  abbrev HasAll : Env → cells.Env → List Piece → Type 0
  HasAll env ρ [] = ⊤
  HasAll env ρ (alone y ∷ ps) = Has env ρ y × HasAll env ρ ps
  HasAll env ρ (those from count ∷ ps) = HasAll env ρ ps

  -- the values of these variables
  pub data Gathered (xs : List ℕ) (env : Env) : Option (List cells.Value) → Type 0 where
    gathered : {o : Option (List cells.Value)} (us : List cells.Value) → o ≡ Some us → SameCaptured C all xs env (cells.values_of us) → Gathered xs env o

  put : {y : ℕ} {xs : List ℕ} {env : Env} {o : Option cells.Value} {rest : Option (List cells.Value)} → Found y (look_up y env) o → Gathered xs env rest → Gathered (y ∷ xs) env (cells.first_some o rest)
  put {rest = rest} (found v u is is' same isin) (gathered us e same_c) = gathered (u ∷ us) (ap (λ o. cells.first_some o rest) is' ∙ ap (cells.first_some (Some u)) e) (captured _ is same isin same_c)

  -- these are parts of the holder from a place on
  abbrev Row : Env → Option cells.Value → (i : ℕ) → List ℕ → Type 0
  Row env o i [] = ⊤
  Row env o i (y ∷ ys) = Found y (look_up y env) (part_at i o) × Row env o (suc i) ys

  parts-row : (env : Env) (tag : ℕ) (vs : cells.Values) (i : ℕ) (ys : List ℕ) {xs : List ℕ} {rest : Option (List cells.Value)} → Row env (Some (cells.cell tag vs)) i ys → Gathered xs env rest → Gathered (ys ++ xs) env (cells.parts_from i (length ys) vs rest)
  parts-row env tag vs i [] row g = g
  parts-row env tag vs i (y ∷ ys) row g = put row.0 (parts-row env tag vs (suc i) ys row.1 g)

  not_there : {P : Type 0} {y : ℕ} {q : Option (Val C.types)} → Found y q None → P
  not_there (found v u is is' same isin) = absurd (cc)

  run-row : (env : Env) (o : Option cells.Value) (i y : ℕ) (ys : List ℕ) {xs : List ℕ} {rest : Option (List cells.Value)} → Row env o i (y ∷ ys) → Gathered xs env rest → Gathered (y ∷ (ys ++ xs)) env (cells.parts_of i (suc (length ys)) o rest)
  run-row env (Some (cells.cell tag vs)) i y ys row g = parts-row env tag vs i (y ∷ ys) row g
  run-row env (Some (cells.literal l)) i y ys row g = not_there row.0
  run-row env (Some (cells.reference a)) i y ys row g = not_there row.0
  run-row env (Some (cells.name n)) i y ys row g = not_there row.0
  run-row env (Some (cells.packet n v)) i y ys row g = not_there row.0
  run-row env None i y ys row g = not_there row.0

  outer-found : (s : Scope) (env : Env) (ρ : cells.Env) (y i : ℕ) → Known s env ρ → IsOuter s y → index_of y s.captured ≡ i → Found y (look_up y env) (part_at i (cells.look_up holder ρ))
  outer-found s env ρ y i known is e = found-by refl (sym (not_local-is C.numbering s y ρ is.not_local ∙ (ap (λ q. outer_value C.numbering s.captured y q (cells.look_up holder ρ)) is.not_group ∙ ap (λ j. part_at j (cells.look_up holder ρ)) e)))
      (known y (ap (λ b. b || (is_way (way y s.group) || is_in y s.captured)) is.not_local ∙ (ap (λ q. is_way q || is_in y s.captured) is.not_group ∙ is.captured)))

  row-known : (s : Scope) (env : Env) (ρ : cells.Env) (i : ℕ) (ys : List ℕ) → Known s env ρ → InRow s i ys → Row env (cells.look_up holder ρ) i ys
  row-known s env ρ i [] known row = tt
  row-known s env ρ i (y ∷ ys) known row = (outer-found s env ρ y i known row.0 row.1.0, row-known s env ρ (suc i) ys known row.1.1)

  gather-known : (s : Scope) (env : Env) (ρ : cells.Env) {ps : List Piece} {xs : List ℕ} → Makes s ps xs → Known s env ρ → HasAll env ρ ps → Gathered xs env (cells.gather (piece_list ps) ρ)
  gather-known s env ρ makes_none known has = gathered [] refl (no_captured env)
  gather-known s env ρ (makes_one y reach rest) known has = put has.0 (gather-known s env ρ rest known has.1)
  gather-known s env ρ (makes_run from y ys row rest) known has = run-row env (cells.look_up holder ρ) from y ys (row-known s env ρ from (y ∷ ys) known row) (gather-known s env ρ rest known has)

  has-past : (env : Env) (ρ : cells.Env) (y : ℕ) (v : Val C.types) (u : cells.Value) → look_up y env ≡ Some v → Stands C all (C.numbering.is_name y) v u → IsOneOf C.types v (at C.flow (variable y)) → (z : ℕ) → Has env ρ z → Has env (cells.bind (var y) u ρ) z
  has-past env ρ y v u is same isin z h = decide (nat_eq z y)
      (λ e. found-at z y (nat_eq-to z y e) (found v u (ap (λ x. look_up x env) (nat_eq-to z y e) ∙ is) (ap (λ b. if b then Some u else cells.look_up (var z) ρ) (var-one z y ∙ e)) same isin))
      (λ e. found-by refl (past-var z y u ρ e) h)

  module _ (T : Tables) (call : Calls) {A : Type 0} (S : A → cells.Value → Type 0) (go : Answer (Val C.types) A) (u : World cells.Value) (other : World cells.Value → cells.Run cells.Value) where
    abbrev ev : out.Exp → cells.Env → cells.Run cells.Value
    ev e ρ = tgt.eval T call e ρ u other

    abbrev Re : cells.Run cells.Value → Type 0
    Re r = Refines (R C all) S go r

    bring : (s : Scope) (env : Env) (ρ : cells.Env) (e : out.Exp) (y : ℕ) → Found y (look_up y env) (accessed C.numbering s y ρ) → ((v : Val C.types) (v' : cells.Value) → look_up y env ≡ Some v → Stands C all (C.numbering.is_name y) v v' → IsOneOf C.types v (at C.flow (variable y)) → Re (ev e (cells.bind (var y) v' ρ))) → Re (ev (out.let_in (var y) (access C.numbering s y) e) ρ)
    bring s env ρ e y (found v v' is is' same isin) h =
        subst (λ a. Re (then_do a (λ x z. tgt.eval T call e (cells.bind (var y) x ρ) z other))) (sym (access-is C.numbering T call s y ρ u ∙ ap (λ o. or_fail o u (λ x. gives x u)) is')) (h v v' is same isin)

    if-local : (b : Bool) (e d : out.Exp) (ρ : cells.Env) → (b ≡ true → Re (ev e ρ)) → (b ≡ false → Re (ev d ρ)) → Re (ev (if b then e else d) ρ)
    if-local true e d ρ h k = h refl
    if-local false e d ρ h k = k refl

    -- what is not in the body yet is brought there
    ready-by : (s : Scope) (env : Env) (ρ : cells.Env) (e : out.Exp) {ps : List Piece} {xs : List ℕ} → Makes s ps xs → Known s env ρ → ((ρ' : cells.Env) → Known s env ρ' → ((y : ℕ) → Has env ρ y → Has env ρ' y) → HasAll env ρ' ps → Re (ev e ρ')) → Re (ev (ready C.numbering s ps e) ρ)
    ready-by s env ρ e makes_none known h = h ρ known (λ y k. k) tt
    ready-by s env ρ e (makes_one y {ps = ps} reach rest) known h = if-local (is_in y s.locals) (ready C.numbering s ps e) (out.let_in (var y) (access C.numbering s y) (ready C.numbering s ps e)) ρ
        (λ is_local. ready-by s env ρ e rest known (λ ρ' known' keep has. h ρ' known' keep (keep y (local-known s env ρ y known is_local), has)))
        (λ not_local. bring s env ρ (ready C.numbering s ps e) y (known y reach) (λ v v' is same isin.
        ready-by s env (cells.bind (var y) v' ρ) e rest (known-past s env ρ y v' known not_local) (λ ρ' known' keep has. h ρ' known' (λ z k. keep z (has-past env ρ y v v' is same isin z k)) (keep y (found v v' is (here (var y) v' ρ) same isin), has))))
    ready-by s env ρ e (makes_run from y ys row rest) known h = ready-by s env ρ e rest known h

    -- and the closure is made
    pub making-by : (s : Scope) (env : Env) (ρ : cells.Env) (x k : ℕ) (e : out.Exp) → IsMade C.captures s k → Known s env ρ → ((ρ' : cells.Env) (r : cells.Values) → Known s env ρ' → SameCaptured C all (C.captures.captured k) env r → Re (ev e (cells.bind x (cells.cell (C.numbering.tag k) r) ρ'))) → Re (ev (making C.numbering C.types C.flow C.captures s x k e) ρ)
    making-by s env ρ x k e made known h = ready-by s env ρ (out.let_in x (out.make (C.numbering.tag k) (piece_list (C.captures.pieces k))) e) made known (λ ρ' known' keep has. make ρ' known' (gather-known s env ρ' made known' has))
      where
        make : (ρ' : cells.Env) → Known s env ρ' → Gathered (C.captures.captured k) env (cells.gather (piece_list (C.captures.pieces k)) ρ') → Re (ev (out.let_in x (out.make (C.numbering.tag k) (piece_list (C.captures.pieces k))) e) ρ')
        make ρ' known' (gathered r is same) = subst (λ o. Re (then_do (or_fail o u (λ vs. gives (cells.cell (C.numbering.tag k) (cells.values_of vs)) u)) (λ v z. tgt.eval T call e (cells.bind x v ρ') z other))) (sym is) (h ρ' (cells.values_of r) known' same)

    -- the others of a group are made after the first, which is at h
    following-by : (g h : ℕ) (fs rest : Funs (mono C.types)) (s : Scope) (env : Env) (ρ : cells.Env) (r : cells.Values) (e : out.Exp) → AllGood C all true g fs fs → AllGood C all false g fs rest → SameCaptured C all (C.captures.captured g) env r → is_in h (names (members C.types rest)) ≡ false → KnownBut h s env ρ → cells.look_up (var h) ρ ≡ Some (cells.cell (C.numbering.tag g) r) → ((ρ' : cells.Env) → KnownBut h (add_all (names (members C.types rest)) s) (src.members_from rest fs env) ρ' → cells.look_up (var h) ρ' ≡ Some (cells.cell (C.numbering.tag g) r) → Re (ev e ρ')) → Re (ev (following C.numbering C.types C.flow C.captures h (members C.types rest) e) ρ)
    following-by g h fs no_funs s env ρ r e good rest_good same_c apart known is k = k ρ known is
    following-by g h fs (fun x t f rest) s env ρ r e good rest_good same_c apart known is k =
        following-by g h fs rest s env ρ r (out.let_in (var x) (out.make (C.numbering.tag (number_of C.types f)) (cells.one (var h) ∷ [])) e) good rest_good.1.1 same_c (not_right (nat_eq h x) apart) known is (λ ρ' known' is'.
        subst (λ o. Re (then_do (or_fail (cells.first_some o (Some [])) u (λ vs. gives (cells.cell (C.numbering.tag (number_of C.types f)) (cells.values_of vs)) u)) (λ v z. tgt.eval T call e (cells.bind (var x) v ρ') z other))) (sym is')
        (k (cells.bind (var x) (cells.cell (C.numbering.tag (number_of C.types f)) (held false (C.numbering.tag g) r)) ρ')
        (known-but-bind h (add_all (names (members C.types rest)) s) (src.members_from rest fs env) ρ' x (closure (one_of f fs) env) (cells.cell (C.numbering.tag (number_of C.types f)) (held false (C.numbering.tag g) r)) known' (stands x rest_good.0.1 (same_closure false (one_of f fs) g rest_good.1.0 good same_c)) rest_good.0.0)
        (past-var h x (cells.cell (C.numbering.tag (number_of C.types f)) (held false (C.numbering.tag g) r)) ρ' (not_left (nat_eq h x) apart) ∙ is')))
      where
        not_left : (b : Bool) → (b || is_in h (names (members C.types rest))) ≡ false → b ≡ false
        not_left true q = absurd (cc)
        not_left false q = refl

        not_right : (b : Bool) → (b || is_in h (names (members C.types rest))) ≡ false → is_in h (names (members C.types rest)) ≡ false
        not_right true q = absurd (cc)
        not_right false q = q

    -- the first of a group, and then the others
    pub group-by : (x t : ℕ) (f : Fun (mono C.types)) (rest : Funs (mono C.types)) (s : Scope) (env : Env) (ρ : cells.Env) (e : out.Exp) → AllGood C all true (number_of C.types f) (fun x t f rest) (fun x t f rest) → IsMade C.captures s (number_of C.types f) → is_in x (names (members C.types rest)) ≡ false → Known s env ρ → ((ρ' : cells.Env) → Known (add_all (names (members C.types (fun x t f rest))) s) (src.members (fun x t f rest) env) ρ' → Re (ev e ρ')) → Re (ev (making C.numbering C.types C.flow C.captures s (var x) (number_of C.types f) (following C.numbering C.types C.flow C.captures x (members C.types rest) e)) ρ)
    group-by x t f rest s env ρ e good made apart known k =
        making-by s env ρ (var x) (number_of C.types f) (following C.numbering C.types C.flow C.captures x (members C.types rest) e) made known (λ ρ' r known' same_c.
        following-by (number_of C.types f) x (fun x t f rest) rest s env (cells.bind (var x) (cells.cell (C.numbering.tag (number_of C.types f)) r) ρ') r e good good.1.1 same_c apart (known-but-past s env ρ' x (cells.cell (C.numbering.tag (number_of C.types f)) r) known') (here (var x) (cells.cell (C.numbering.tag (number_of C.types f)) r) ρ') (λ ρ2 known2 is2.
        k ρ2 (known-there (add_all (names (members C.types rest)) s) (src.members_from rest (fun x t f rest) env) ρ2 x (closure (one_of f (fun x t f rest)) env) (cells.cell (C.numbering.tag (number_of C.types f)) r) known2 is2 (stands x good.0.1 (first-same f (number_of C.types f) (fun x t f rest) good.1.0 good same_c)) good.0.0)))
