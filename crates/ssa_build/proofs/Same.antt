-- A program and its SSA form have one outcome at any number of turns.
use Rattle.std.proofs.Common.{◌≡◌, ℕ, zero, suc, List, [], ◌∷◌, map, Option, Some, None, Bool, true, false, if◌then◌else◌, nat_eq, slice_get, refl, sym, ap, ◌∙◌}
use Rattle.std.proofs.lemmas.Bool.{eq-eqb}
use Rattle.std.proofs.lemmas.Option.{slice_get-map}
use Rattle.std.specs.Prelude.{option_map}
use Rattle.mlc_runs.specs.Run.{World, gives, raises, stops, then_do, or_handle, or_fail, take_turn, turn_from, outcome_of}
use Rattle.mlc_base.specs.declared.place.Place.{Place}
use Rattle.mlc_prims.specs.PrimOf.{Gives, made, raised}
use Rattle.ir_values.specs.Primitives.{raised_name}
use Rattle.first_values.specs.Values.{Value, literal, cell, reference, name, packet, values_of, Env, Run, unit, bind, look_up, look_all, bind_all, gather, identifier_of, tag_of, first_some}
use Rattle.first_values.specs.Operations.{Tables, Callee, perform, attempted, either_way, decide, called, raised_from}
use Rattle.ir_first.specs.Tree as f
use Rattle.ir_first.specs.Tree.{Exp, Op, Arms, let_in, first, miss, block, handle, no_arms}
use Rattle.ir_first.specs.Meaning as src
use Rattle.ir_first.specs.Meaning.{Result, it, missed, then_value, or_next, whole, as_result, begin}
use Rattle.ir_ssa.specs.Tree as s
use Rattle.ir_ssa.specs.Tree.{label, guard}
use Rattle.ir_ssa.specs.Meaning as tgt
use Rattle.ir_ssa.specs.Meaning.{Onward, Handler, throw, then_go, at_top, go_to, may_turn}
use Rattle.ssa_build.specs.Build.{Exit, returns, joins, under, leave, is_last, call_or_tail, build, build_op, build_arms, build_fun, ssa}
use Rattle.ssa_build.specs.Laws.{SameMeaning}

-- where a value goes
abbrev exit : Exit → List Onward → List Handler → Handler
exit returns ks hs v w = at_top hs w (gives v w)
exit (joins l) ks hs v w = go_to ks l None (v ∷ []) w

-- where the result of an expression goes
abbrev finish : Exit → ℕ → List Onward → List Handler → Run Result → Run Value
finish t m ks hs (gives (it v) w) = exit t ks hs v w
finish t m ks hs (gives missed w) = go_to ks m None [] w
finish t m ks hs (raises p w) = throw hs p w
finish t m ks hs (stops cut w) = stops cut w

-- a function returns outside its handlers
data Fits : Exit → List Handler → Type 0 where
  top : Fits returns []
  inner : (l : ℕ) (hs : List Handler) → Fits (joins l) hs

fits-under : {t : Exit} {hs : List Handler} → Fits t hs → Fits (under t) hs
fits-under top = top
fits-under (inner l hs) = inner (suc l) hs

nat_eq-self : (x : ℕ) → nat_eq x x ≡ true
nat_eq-self x = eq-eqb x x refl

module _ (t : Exit) (m : ℕ) (ks : List Onward) (hs : List Handler) where
  abbrev F : Run Result → Run Value
  F = finish t m ks hs

  fail_by : {A : Type 0} (o : Option A) (w : World Value) (go : A → Run Value) (go' : A → Run Result) → ((a : A) → go a ≡ F (go' a)) → or_fail o w go ≡ F (or_fail o w go')
  fail_by None w go go' h = refl
  fail_by (Some a) w go go' h = h a

  go_by : (r : Run Value) (go : Value → World Value → Run Value) (go' : Value → World Value → Run Result) → ((v : Value) (u : World Value) → go v u ≡ F (go' v u)) → then_go hs r go ≡ F (then_do r go')
  go_by (gives v w) go go' h = h v w
  go_by (raises p w) go go' h = refl
  go_by (stops cut w) go go' h = refl

  raised_by : (p : Value) (w : World Value) → raised_from p w (throw hs p w) ≡ F (raised_from p w (raises p w))
  raised_by (literal l) w = refl
  raised_by (cell tag vs) w = refl
  raised_by (reference a) w = refl
  raised_by (name n) w = refl
  raised_by (packet n v) w = refl

  if_by : (c : Bool) (a b : Run Value) (a' b' : Run Result) → a ≡ F a' → b ≡ F b' → if c then a else b ≡ F (if c then a' else b')
  if_by true a b a' b' h k = h
  if_by false a b a' b' h k = k

  turn_by : (n : ℕ) (p : Place) (w : World Value) (go : World Value → Run Value) (go' : World Value → Run Result) → ((u : World Value) → go u ≡ F (go' u)) → turn_from n p w go ≡ F (turn_from n p w go')
  turn_by zero p w go go' h = refl
  turn_by (suc n) p w go go' h = h _

  -- a primitive that may raise: the packet is bound, and raised
  way_by : (g : Gives) (x : ℕ) (env : Env) (w : World Value) (go : Value → Run Value) (go' : Value → Run Result) → ((v : Value) → go v ≡ F (go' v))
      → either_way g go (λ q. or_fail (look_up x (bind x q env)) w (λ p. raised_from p w (throw hs p w))) ≡ F (either_way g go' (λ q. raises q w))
  way_by (made l) x env w go go' h = h _
  way_by (raised e) x env w go go' h = ap (λ b. or_fail (if b then Some (packet (raised_name e) unit) else look_up x env) w (λ p. raised_from p w (throw hs p w))) (nat_eq-self x)

  -- a block that goes on by the next label
  block_by : (k : Onward) (r : Run Result) (go : Value → World Value → Run Result) → ((v : Value) (u : World Value) → k None (v ∷ []) u ≡ F (go v u)) → finish (joins 0) (suc m) (k ∷ ks) hs r ≡ F (then_value r go)
  block_by k (gives (it v) w) go h = h v w
  block_by k (gives missed w) go h = refl
  block_by k (raises p w) go h = refl
  block_by k (stops cut w) go h = refl

  handle_by : (k : Onward) (h : Handler) (r : Run Result) (handler : Value → World Value → Run Result) (go : Value → World Value → Run Result) → ((v : Value) (u : World Value) → k None (v ∷ []) u ≡ F (go v u)) → ((p : Value) (u : World Value) → h p u ≡ F (then_value (handler p u) go)) →
      finish (joins 0) 1 (go_to (k ∷ ks) 0 ∷ []) (h ∷ hs) r ≡ F (then_value (or_handle (then_do (whole r) as_result) handler) go)
  handle_by k h (gives (it v) w) handler go q c = q v w
  handle_by k h (gives missed w) handler go q c = refl
  handle_by k h (raises p w) handler go q c = c p w
  handle_by k h (stops cut w) handler go q c = refl

exit-under : (t : Exit) (k : Onward) (ks : List Onward) (hs : List Handler) (v : Value) (w : World Value) → exit (under t) (k ∷ ks) hs v w ≡ exit t ks hs v w
exit-under returns k ks hs v w = refl
exit-under (joins l) k ks hs v w = refl

next_by : (t : Exit) (m : ℕ) (ks : List Onward) (hs : List Handler) (k : Onward) (r : Run Result) (go : World Value → Run Result) → ((u : World Value) → k None [] u ≡ finish t m ks hs (go u)) → finish (under t) 0 (k ∷ ks) hs r ≡ finish t m ks hs (or_next r go)
next_by t m ks hs k (gives (it v) w) go h = exit-under t k ks hs v w
next_by t m ks hs k (gives missed w) go h = h w
next_by t m ks hs k (raises p w) go h = refl
next_by t m ks hs k (stops cut w) go h = refl

module _ (T : Tables) (calls' calls : src.Calls) (fuel : ℕ) (same : (p : Place) (g : ℕ) (vs : List Value) (w : World Value) → calls' p g vs w ≡ calls p g vs w) where
  abbrev ev : s.Body → Env → List Onward → List Handler → World Value → Run Value
  ev = tgt.eval T calls' fuel

  abbrev ev1 : Exp → Env → World Value → Run Result
  ev1 = src.eval T calls

  leave-same : (t : Exit) (m x : ℕ) (ks : List Onward) (hs : List Handler) (env : Env) (w : World Value) → Fits t hs → ev (leave t x) env ks hs w ≡ finish t m ks hs (or_fail (look_up x env) w (λ v. gives (it v) w))
  leave-same returns m x ks hs env w top = fail_by returns m ks [] (look_up x env) w (λ v. gives v w) (λ v. gives (it v) w) (λ v. refl)
  leave-same (joins l) m x ks hs env w (inner _ _) = one_by (look_up x env)
    where
      one_by : (o : Option Value) → or_fail (first_some o (Some [])) w (λ vs. go_to ks l None vs w) ≡ finish (joins l) m ks hs (or_fail o w (λ v. gives (it v) w))
      one_by None = refl
      one_by (Some v) = refl

  -- an expression that gives a value does no more
  last-is : (x : ℕ) (v : Value) (e : Exp) (env : Env) (w : World Value) → is_last x e ≡ true → ev1 e (bind x v env) w ≡ gives (it v) w
  last-is x v (f.ret y) env w h = found (nat_eq y x) h
    where
      found : (b : Bool) → b ≡ true → or_fail (if b then Some v else look_up y env) w (λ a. gives (it a) w) ≡ gives (it v) w
      found true e = refl
      found false e = absurd (cc)
  last-is x v (let_in y op e) env w h = absurd (cc)
  last-is x v (f.turn p e) env w h = absurd (cc)
  last-is x v (f.switch y arms) env w h = absurd (cc)
  last-is x v (f.branch q xs a b) env w h = absurd (cc)
  last-is x v (first e d) env w h = absurd (cc)
  last-is x v miss env w h = absurd (cc)

  last_by : (t : Exit) (m x : ℕ) (e : Exp) (ks : List Onward) (hs : List Handler) (env : Env) (r : Run Result) → is_last x e ≡ true → finish t m ks hs r ≡ finish t m ks hs (then_value r (λ v u. ev1 e (bind x v env) u))
  last_by t m x e ks hs env (gives (it v) w) h = ap (finish t m ks hs) (sym (last-is x v e env w h))
  last_by t m x e ks hs env (gives missed w) h = refl
  last_by t m x e ks hs env (raises p w) h = refl
  last_by t m x e ks hs env (stops cut w) h = refl

  under_by : (t : Exit) (m : ℕ) (k : Onward) (ks : List Onward) (hs : List Handler) (r : Run Result) → finish (under t) (suc m) (k ∷ ks) hs r ≡ finish t m ks hs r
  under_by t m k ks hs (gives (it v) w) = exit-under t k ks hs v w
  under_by t m k ks hs (gives missed w) = refl
  under_by t m k ks hs (raises p w) = refl
  under_by t m k ks hs (stops cut w) = refl

  -- a call whose value is the function's
  tail_by : (m x : ℕ) (e : Exp) (ks : List Onward) (env : Env) (r : Run Value) → is_last x e ≡ true → r ≡ finish returns m ks [] (then_do r (λ v u. ev1 e (bind x v env) u))
  tail_by m x e ks env (gives v w) h = ap (finish returns m ks []) (sym (last-is x v e env w h))
  tail_by m x e ks env (raises p w) h = refl
  tail_by m x e ks env (stops cut w) h = refl

  plain-call : (t : Exit) (m x : ℕ) (p : Place) (c : Callee) (xs : List ℕ) (e : Exp) (rest : s.Body) (env : Env) (ks : List Onward) (hs : List Handler) (w : World Value) →
      ((v : Value) (u : World Value) → ev rest (bind x v env) ks hs u ≡ finish t m ks hs (ev1 e (bind x v env) u)) →
      ev (s.call p c xs x rest) env ks hs w ≡ finish t m ks hs (src.eval_op T calls (f.call p c xs) env w (λ v u. ev1 e (bind x v env) u))
  plain-call t m x p c xs e rest env ks hs w k =
      fail_by t m ks hs (look_all xs env) w _ _ (λ vs. fail_by t m ks hs (called T c env vs) w _ _ (λ g.
      ap (λ r. then_go hs r (λ v u. ev rest (bind x v env) ks hs u)) (same p g.function g.arguments w) ∙ go_by t m ks hs (calls p g.function g.arguments w) (λ v u. ev rest (bind x v env) ks hs u) (λ v u. ev1 e (bind x v env) u) k))

  call-same : (t : Exit) (m x : ℕ) (p : Place) (c : Callee) (xs : List ℕ) (e : Exp) (q : Bool) (rest : s.Body) (env : Env) (ks : List Onward) (hs : List Handler) (w : World Value) → Fits t hs → is_last x e ≡ q →
      ((v : Value) (u : World Value) → ev rest (bind x v env) ks hs u ≡ finish t m ks hs (ev1 e (bind x v env) u)) →
      ev (call_or_tail t q p c xs x rest) env ks hs w ≡ finish t m ks hs (src.eval_op T calls (f.call p c xs) env w (λ v u. ev1 e (bind x v env) u))
  call-same returns m x p c xs e true rest env ks hs w top h k =
      fail_by returns m ks [] (look_all xs env) w _ _ (λ vs. fail_by returns m ks [] (called T c env vs) w _ _ (λ g. same p g.function g.arguments w ∙ tail_by m x e ks env (calls p g.function g.arguments w) h))
  call-same returns m x p c xs e false rest env ks hs w fits h k = plain-call returns m x p c xs e rest env ks hs w k
  call-same (joins l) m x p c xs e q rest env ks hs w fits h k = plain-call (joins l) m x p c xs e rest env ks hs w k

  -- what the label of a block does
  abbrev after : s.Body → ℕ → Env → List Onward → List Handler → Onward
  after rest x env ks hs place vs u = or_fail (bind_all (x ∷ []) vs env) u (λ inner_. may_turn place u (ev rest inner_ ks hs))

  abbrev next : s.Body → Env → List Onward → List Handler → Onward
  next rest env ks hs place vs u = or_fail (bind_all [] vs env) u (λ inner_. may_turn place u (ev rest inner_ ks hs))

  handle-same : (b : Exp) (y : ℕ) (h : Exp) (x : ℕ) (e : Exp) (t' t : Exit) (m : ℕ) (rest : s.Body) (env : Env) (ks : List Onward) (hs : List Handler) (w : World Value) → ((ks' : List Onward) (hs' : List Handler) → ev (build (joins 0) 1 b) env ks' hs' w ≡ finish (joins 0) 1 ks' hs' (ev1 b env w)) →
      ((v : Value) (u : World Value) → ev rest (bind x v env) ks hs u ≡ finish t m ks hs (ev1 e (bind x v env) u)) →
      ((p : Value) (u : World Value) → ev (build t' (suc m) h) (bind y p env) (after rest x env ks hs ∷ ks) hs u ≡ finish t m ks hs (then_value (ev1 h (bind y p env) u) (λ v z. ev1 e (bind x v env) z))) →
      ev (label (x ∷ []) rest (guard 0 (build (joins 0) 1 b) y (build t' (suc m) h))) env ks hs w ≡ finish t m ks hs (src.eval_op T calls (handle b y h) env w (λ v u. ev1 e (bind x v env) u))
  handle-same b y h x e t' t m rest env ks hs w body k c =
      body (go_to (after rest x env ks hs ∷ ks) 0 ∷ []) ((λ p u. ev (build t' (suc m) h) (bind y p env) (after rest x env ks hs ∷ ks) hs u) ∷ hs)
      ∙ handle_by t m ks hs (after rest x env ks hs) (λ p u. ev (build t' (suc m) h) (bind y p env) (after rest x env ks hs ∷ ks) hs u) (ev1 b env w) (λ p u. ev1 h (bind y p env) u) (λ v u. ev1 e (bind x v env) u) k c

  mutual
    exp-same : (e : Exp) (t : Exit) (m : ℕ) (env : Env) (ks : List Onward) (hs : List Handler) (w : World Value) → Fits t hs → ev (build t m e) env ks hs w ≡ finish t m ks hs (ev1 e env w)
    exp-same (f.ret x) t m env ks hs w fits = leave-same t m x ks hs env w fits
    exp-same (let_in x op e) t m env ks hs w fits = op-same op x e (is_last x e) t m (build t m e) env ks hs w fits refl (λ v u. exp-same e t m (bind x v env) ks hs u fits)
    exp-same (f.switch x arms) t m env ks hs w fits = fail_by t m ks hs (tag_of (look_up x env)) w _ _ (λ i. arms-same i arms t m env ks hs w fits)
    exp-same (f.turn p e) t m env ks hs w fits = turn_by t m ks hs w.left p w _ _ (λ u. exp-same e t m env ks hs u fits)
    exp-same (f.branch q xs a b) t m env ks hs w fits =
        fail_by t m ks hs (look_all xs env) w _ _ (λ vs. fail_by t m ks hs (decide T q vs) w _ _ (λ c. if_by t m ks hs c _ _ _ _ (exp-same a t m env ks hs w fits) (exp-same b t m env ks hs w fits)))
    exp-same (first e d) t m env ks hs w fits =
        exp-same e (under t) 0 env (next (build t m d) env ks hs ∷ ks) hs w (fits-under fits)
        ∙ next_by t m ks hs (next (build t m d) env ks hs) (ev1 e env w) (λ u. ev1 d env u) (λ u. exp-same d t m env ks hs u fits)
    exp-same miss t m env ks hs w fits = refl

    op-same : (op : Op) (x : ℕ) (e : Exp) (q : Bool) (t : Exit) (m : ℕ) (rest : s.Body) (env : Env) (ks : List Onward) (hs : List Handler) (w : World Value) → Fits t hs → is_last x e ≡ q →
        ((v : Value) (u : World Value) → ev rest (bind x v env) ks hs u ≡ finish t m ks hs (ev1 e (bind x v env) u)) →
        ev (build_op t m x op q rest) env ks hs w ≡ finish t m ks hs (src.eval_op T calls op env w (λ v u. ev1 e (bind x v env) u))
    op-same (f.plain p xs) x e q t m rest env ks hs w fits last k =
        fail_by t m ks hs (look_all xs env) w _ _ (λ vs. go_by t m ks hs (perform T p vs w) (λ v u. ev rest (bind x v env) ks hs u) (λ v u. ev1 e (bind x v env) u) k)
    op-same (f.make i ps) x e q t m rest env ks hs w fits last k = fail_by t m ks hs (gather ps env) w _ _ (λ vs. k (cell i (values_of vs)) w)
    op-same (f.attempt i p xs) x e q t m rest env ks hs w fits last k =
        fail_by t m ks hs (look_all xs env) w _ _ (λ vs. fail_by t m ks hs (attempted i p vs) w _ _ (λ g. way_by t m ks hs g x env w (λ v. ev rest (bind x v env) ks hs w) (λ v. ev1 e (bind x v env) w) (λ v. k v w)))
    op-same (f.call p c xs) x e q t m rest env ks hs w fits last k = call-same t m x p c xs e q rest env ks hs w fits last k
    op-same (block b) x e true t m rest env ks hs w fits last k = exp-same b t m env ks hs w fits ∙ last_by t m x e ks hs env (ev1 b env w) last
    op-same (block b) x e false t m rest env ks hs w fits last k =
        exp-same b (joins 0) (suc m) env (after rest x env ks hs ∷ ks) hs w (inner 0 hs) ∙ block_by t m ks hs (after rest x env ks hs) (ev1 b env w) (λ v u. ev1 e (bind x v env) u) k
    op-same (handle b y h) x e true t m rest env ks hs w fits last k =
        handle-same b y h x e (under t) t m rest env ks hs w (λ ks' hs'. exp-same b (joins 0) 1 env ks' hs' w (inner 0 hs')) k (λ p u. exp-same h (under t) (suc m) (bind y p env) (after rest x env ks hs ∷ ks) hs u (fits-under fits) ∙ under_by t m (after rest x env ks hs) ks hs (ev1 h (bind y p env) u) ∙ last_by t m x e ks hs env (ev1 h (bind y p env) u) last)
    op-same (handle b y h) x e false t m rest env ks hs w fits last k =
        handle-same b y h x e (joins 0) t m rest env ks hs w (λ ks' hs'. exp-same b (joins 0) 1 env ks' hs' w (inner 0 hs')) k (λ p u. exp-same h (joins 0) (suc m) (bind y p env) (after rest x env ks hs ∷ ks) hs u (inner 0 hs) ∙ block_by t m ks hs (after rest x env ks hs) (ev1 h (bind y p env) u) (λ v z. ev1 e (bind x v env) z) k)
    op-same (f.raise y) x e q t m rest env ks hs w fits last k = fail_by t m ks hs (look_up y env) w _ _ (λ p. raised_by t m ks hs p w)

    arms-same : (i : ℕ) (arms : Arms) (t : Exit) (m : ℕ) (env : Env) (ks : List Onward) (hs : List Handler) (w : World Value) → Fits t hs → tgt.eval_arm T calls' fuel i (build_arms t m arms) env ks hs w ≡ finish t m ks hs (src.eval_arm T calls i arms env w)
    arms-same i no_arms t m env ks hs w fits = refl
    arms-same i (f.arm j e arms) t m env ks hs w fits = if_by t m ks hs (nat_eq i j) _ _ _ _ (exp-same e t m env ks hs w fits) (arms-same i arms t m env ks hs w fits)

-- a function's body
whole-is : (r : Run Result) → finish returns 0 [] [] r ≡ whole r
whole-is (gives (it v) w) = refl
whole-is (gives missed w) = refl
whole-is (raises p w) = refl
whole-is (stops cut w) = refl

take_turn-by : (p : Place) (w : World Value) (go go' : World Value → Run Value) → ((u : World Value) → go u ≡ go' u) → take_turn p w go ≡ take_turn p w go'
take_turn-by p w go go' h = turn_by w.left
  where
    turn_by : (n : ℕ) → turn_from n p w go ≡ turn_from n p w go'
    turn_by zero = refl
    turn_by (suc n) = h _

enter-same : (ev' : tgt.Evaluator) (ev : src.Evaluator) → ((e : Exp) (env : Env) (w : World Value) → ev' (build returns 0 e) env [] [] w ≡ whole (ev e env w)) → (funs : List f.Fun) (p : Place) (i : ℕ) (vs : List Value) (w : World Value) →
    tgt.enter (map build_fun funs) ev' p i vs w ≡ src.enter funs ev p i vs w
enter-same ev' ev h funs p i vs w = ap (λ o. or_fail o w (λ g. or_fail (bind_all g.params vs []) w (λ env. take_turn p w (λ u. ev' g.body env [] [] u)))) (slice_get-map build_fun funs i) ∙ at_fun (slice_get funs i)
  where
    bound : (g : f.Fun) (o : Option Env) → or_fail o w (λ env. take_turn p w (λ u. ev' (build returns 0 g.body) env [] [] u)) ≡ or_fail o w (λ env. take_turn p w (λ u. whole (ev g.body env u)))
    bound g None = refl
    bound g (Some env) = take_turn-by p w _ _ (λ u. h g.body env u)

    at_fun : (o : Option f.Fun) → or_fail (option_map build_fun o) w (λ g. or_fail (bind_all g.params vs []) w (λ env. take_turn p w (λ u. ev' g.body env [] [] u))) ≡ or_fail o w (λ g. or_fail (bind_all g.params vs []) w (λ env. take_turn p w (λ u. whole (ev g.body env u))))
    at_fun None = refl
    at_fun (Some g) = bound g (bind_all g.params vs [])

module _ (q : f.Program) where
  apply-same : (k : ℕ) (p : Place) (i : ℕ) (vs : List Value) (w : World Value) → tgt.apply (ssa q) k p i vs w ≡ src.apply q k p i vs w
  apply-same zero p i vs w = enter-same tgt.idle src.idle (λ e env u. refl) q.funs p i vs w
  apply-same (suc k) p i vs w =
      enter-same (tgt.eval q.tables (tgt.apply (ssa q) k) k) (src.eval q.tables (src.apply q k))
      (λ e env u. exp-same q.tables (tgt.apply (ssa q) k) (src.apply q k) k (apply-same k) e returns 0 env [] [] u top ∙ whole-is _) q.funs p i vs w

  one-program : (turns : ℕ) → tgt.meaning (ssa q) turns ≡ src.meaning q turns
  one-program turns = ap (outcome_of identifier_of) (body_same q.funs)
    where
      body_same : (funs : List f.Fun) → or_fail (tgt.body_of (map build_fun funs)) (begin q.tables turns) (λ b. tgt.eval q.tables (tgt.apply (ssa q) turns) turns b [] [] [] (begin q.tables turns)) ≡ or_fail (src.body_of funs) (begin q.tables turns) (λ e. whole (src.eval q.tables (src.apply q turns) e [] (begin q.tables turns)))
      body_same [] = refl
      body_same (g ∷ funs) = exp-same q.tables (tgt.apply (ssa q) turns) (src.apply q turns) turns (apply-same turns) g.body returns 0 [] [] [] (begin q.tables turns) top ∙ whole-is _

pub program-same : SameMeaning
program-same p m = one-program p m
