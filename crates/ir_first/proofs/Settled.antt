-- The two meanings, in one simulation: equal where nothing misses that is not to (s), else unless the continued one is wrong.
use Rattle.std.proofs.Common.{◌≡◌, ℕ, zero, suc, ◌||◌, List, [], ◌∷◌, Option, Some, None, Bool, true, false, if◌then◌else◌, nat_eq, slice_get, refl, ap, subst}
use Rattle.std.specs.Prelude.{⊤}
use Rattle.std.specs.List.{AllByRecursion}
use Rattle.mlc_runs.specs.Outcome.{wrong}
use Rattle.mlc_runs.specs.Run.{World, gives, raises, stops, went_wrong, then_do, or_handle, fail, or_fail, turn_from, outcome_of}
use Rattle.mlc_base.specs.declared.place.Place.{Place}
use Rattle.mlc_prims.specs.PrimOf.{Gives, made, raised}
use Rattle.first_values.specs.Values.{Value, literal, cell, reference, name, packet, values_of, Env, Run, bind, look_up, look_all, bind_all, gather, identifier_of, tag_of}
use Rattle.first_values.specs.Operations.{Tables, perform, attempted, either_way, decide, called, raised_from}
use Rattle.ir_first.specs.Tree.{Exp, Op, Arms, Fun, Program, ret, let_in, turn, switch, branch, first, miss, plain, make, attempt, call, block, handle, raise, no_arms, arm}
use Rattle.ir_first.specs.Meaning as r
use Rattle.ir_first.specs.Meaning.{Result, it, missed, then_value, or_next, whole, as_result, Calls, body_of, begin}
use Rattle.ir_first.specs.Continued as m
use Rattle.ir_first.specs.Whole.{may_miss, IsWhole, HasWhole, OpHasWhole, ArmsHaveWhole, FunIsWhole, AreWhole}
use Rattle.ir_first.specs.Laws.{MeaningsAreOne, MeaningsAreOneUnlessWrong}

abbrev When : Bool → Type 0 → Type 0
When true P = P
When false P = ⊤

when-left : (A B : Type 0) (s : Bool) → When s (A × B) → When s A
when-left A B true h = h.0
when-left A B false h = tt

when-right : (A B : Type 0) (s : Bool) → When s (A × B) → When s B
when-right A B true h = h.1
when-right A B false h = tt

-- What gives a value doesn't miss.

abbrev Full : Run Result → Type 0
Full (gives (it v) w) = ⊤
Full (gives missed w) = ⊥
Full (raises p w) = ⊤
Full (stops cut w) = ⊤

found-full : {A : Type 0} (o : Option A) (w : World Value) (go : A → Run Result) → ((a : A) → Full (go a)) → Full (or_fail o w go)
found-full None w go h = tt
found-full (Some a) w go h = h a

then-full : (x : Run Value) (go : Value → World Value → Run Result) → ((v : Value) (u : World Value) → Full (go v u)) → Full (then_do x go)
then-full (gives v w) go h = h v w
then-full (raises p w) go h = tt
then-full (stops cut w) go h = tt

value-full : (x : Run Result) (go : Value → World Value → Run Result) → Full x → ((v : Value) (u : World Value) → Full (go v u)) → Full (then_value x go)
value-full (gives (it v) w) go f h = h v w
value-full (gives missed w) go f h = f
value-full (raises p w) go f h = tt
value-full (stops cut w) go f h = tt

next-full : (x : Run Result) (go : World Value → Run Result) → ((u : World Value) → Full (go u)) → Full (or_next x go)
next-full (gives (it v) w) go h = tt
next-full (gives missed w) go h = h w
next-full (raises p w) go h = tt
next-full (stops cut w) go h = tt

if-full : (b : Bool) (x y : Run Result) → Full x → Full y → Full (if b then x else y)
if-full true x y h k = h
if-full false x y h k = k

turn-full : (n : ℕ) (p : Place) (w : World Value) (go : World Value → Run Result) → ((u : World Value) → Full (go u)) → Full (turn_from n p w go)
turn-full zero p w go h = tt
turn-full (suc n) p w go h = h _

way-full : (g : Gives) (w : World Value) (go : Value → Run Result) → ((v : Value) → Full (go v)) → Full (either_way g go (λ q. raises q w))
way-full (made l) w go h = h _
way-full (raised e) w go h = tt

handled-full : (x : Run Value) (h : Value → World Value → Run Result) → ((p : Value) (u : World Value) → Full (h p u)) → Full (or_handle (then_do x as_result) h)
handled-full (gives v w) h k = tt
handled-full (raises p w) h k = k p w
handled-full (stops cut w) h k = tt

raised-full : (p : Value) (w : World Value) → Full (raised_from p w (raises p w))
raised-full (literal l) w = tt
raised-full (cell t vs) w = tt
raised-full (reference a) w = tt
raised-full (name n) w = tt
raised-full (packet n v) w = tt

or-left : (a b : Bool) → (a || b) ≡ false → a ≡ false
or-left true b h = absurd (cc)
or-left false b h = refl

or-right : (a b : Bool) → (a || b) ≡ false → b ≡ false
or-right true b h = absurd (cc)
or-right false b h = h

module _ (T : Tables) (calls : Calls) where
  mutual
    exp-full : (e : Exp) (env : Env) (w : World Value) → IsWhole e → HasWhole e → Full (r.eval T calls e env w)
    exp-full (ret x) env w h k = found-full (look_up x env) w _ (λ v. tt)
    exp-full (let_in x op e) env w h k = op-full op env w _ k.0 (λ v u. exp-full e (bind x v env) u h k.1)
    exp-full (turn p e) env w h k = turn-full w.left p w _ (λ u. exp-full e env u h k)
    exp-full (switch x arms) env w h k = absurd (cc)
    exp-full (branch q xs a b) env w h k = found-full (look_all xs env) w _ (λ vs. found-full (decide T q vs) w _ (λ c. if-full c _ _ (exp-full a env w (or-left (may_miss a) (may_miss b) h) k.0) (exp-full b env w (or-right (may_miss a) (may_miss b) h) k.1)))
    exp-full (first e d) env w h k = next-full (r.eval T calls e env w) _ (λ u. exp-full d env u h k.1)
    exp-full miss env w h k = absurd (cc)

    op-full : (op : Op) (env : Env) (w : World Value) (go : Value → World Value → Run Result) → OpHasWhole op → ((v : Value) (u : World Value) → Full (go v u)) → Full (r.eval_op T calls op env w go)
    op-full (plain p xs) env w go k h = found-full (look_all xs env) w _ (λ vs. then-full (perform T p vs w) go h)
    op-full (make t ps) env w go k h = found-full (gather ps env) w _ (λ vs. h _ w)
    op-full (attempt i p xs) env w go k h = found-full (look_all xs env) w _ (λ vs. found-full (attempted i p vs) w _ (λ g. way-full g w (λ v. go v w) (λ v. h v w)))
    op-full (call p c xs) env w go k h = found-full (look_all xs env) w _ (λ vs. found-full (called T c env vs) w _ (λ f. then-full (calls p f.function f.arguments w) go h))
    op-full (block e) env w go k h = value-full (r.eval T calls e env w) go (exp-full e env w k.0 k.1) h
    op-full (handle e y d) env w go k h = value-full (or_handle (then_do (whole (r.eval T calls e env w)) as_result) (λ p u. r.eval T calls d (bind y p env) u)) go (handled-full (whole (r.eval T calls e env w)) _ (λ p u. exp-full d (bind y p env) u k.1.0 k.1.1)) h
    op-full (raise x) env w go k h = found-full (look_up x env) w _ (λ p. raised-full p w)

-- The simulation: the continued one first.

data Ends (s : Bool) {A : Type 0} : Run A → Run A → Type 0 where
  alike : (a : Run A) → Ends s a a
  wrong_first : s ≡ false → (w : World Value) (a : Run A) → Ends s (stops went_wrong w) a

abbrev finish : (World Value → Run Value) → Result → World Value → Run Value
finish other (it v) w = gives v w
finish other missed w = other w

-- what is whole
whole-is : (x : Run Result) → then_do x (finish fail) ≡ whole x
whole-is (gives (it v) w) = refl
whole-is (gives missed w) = refl
whole-is (raises p w) = refl
whole-is (stops cut w) = refl

module _ (s : Bool) where
  and-so : {A : Type 0} {a b c : Run A} → Ends s a b → Ends s b c → Ends s a c
  and-so (alike a) h = h
  and-so (wrong_first q w b) h = wrong_first q w _

  then-ends : {A B : Type 0} {a b : Run A} (go : A → World Value → Run B) → Ends s a b → Ends s (then_do a go) (then_do b go)
  then-ends go (alike a) = alike _
  then-ends go (wrong_first q w b) = wrong_first q w _

  handle-ends : {a b : Run Value} (go : Value → World Value → Run Value) → Ends s a b → Ends s (or_handle a go) (or_handle b go)
  handle-ends go (alike a) = alike _
  handle-ends go (wrong_first q w b) = wrong_first q w _

  missed-ends : {A : Type 0} (w : World Value) (b : Run A) → When s ⊥ → Ends s (stops went_wrong w) b
  missed-ends w b h = by s refl h
    where
      by : (q : Bool) → s ≡ q → When q ⊥ → Ends s (stops went_wrong w) b
      by true e k = absurd k
      by false e k = wrong_first e w b

  module _ (other : World Value → Run Value) where
    abbrev Meets : Run Value → Run Result → Type 0
    Meets a b = Ends s a (then_do b (finish other))

    found-meets : {A : Type 0} (o : Option A) (w : World Value) (go : A → Run Value) (go' : A → Run Result) → ((x : A) → Meets (go x) (go' x)) → Meets (or_fail o w go) (or_fail o w go')
    found-meets None w go go' h = alike _
    found-meets (Some x) w go go' h = h x

    if-meets : (b : Bool) (a d : Run Value) (a' d' : Run Result) → Meets a a' → Meets d d' → Meets (if b then a else d) (if b then a' else d')
    if-meets true a d a' d' h k = h
    if-meets false a d a' d' h k = k

    turn-meets : (n : ℕ) (p : Place) (w : World Value) (go : World Value → Run Value) (go' : World Value → Run Result) → ((u : World Value) → Meets (go u) (go' u)) → Meets (turn_from n p w go) (turn_from n p w go')
    turn-meets zero p w go go' h = alike _
    turn-meets (suc n) p w go go' h = h _

    -- what follows an operation
    module _ (go : Value → World Value → Run Value) (go' : Value → World Value → Run Result) (h : (v : Value) (u : World Value) → Meets (go v u) (go' v u)) where
      found-then : {A : Type 0} (o : Option A) (w : World Value) (f : A → Run Value) (f' : A → Run Result) → ((x : A) → Meets (then_do (f x) go) (f' x)) → Meets (then_do (or_fail o w f) go) (or_fail o w f')
      found-then None w f f' k = alike _
      found-then (Some x) w f f' k = k x

      then-meets : (x : Run Value) → Meets (then_do x go) (then_do x go')
      then-meets (gives v w) = h v w
      then-meets (raises p w) = alike _
      then-meets (stops cut w) = alike _

      call-meets : {x y : Run Value} → Ends s x y → Meets (then_do x go) (then_do y go')
      call-meets (alike a) = then-meets a
      call-meets (wrong_first q w b) = wrong_first q w _

      way-meets : (g : Gives) (w : World Value) → Meets (then_do (either_way g (λ v. gives v w) (λ q. raises q w)) go) (either_way g (λ v. go' v w) (λ q. raises q w))
      way-meets (made l) w = h _ w
      way-meets (raised e) w = alike _

      raised-meets : (p : Value) (w : World Value) → Meets (then_do (raised_from p w (raises p w)) go) (raised_from p w (raises p w))
      raised-meets (literal l) w = alike _
      raised-meets (cell t vs) w = alike _
      raised-meets (reference a) w = alike _
      raised-meets (name n) w = alike _
      raised-meets (packet n v) w = alike _

      block-meets : (x : Run Result) → When s (Full x) → Meets (then_do (then_do x (finish fail)) go) (then_value x go')
      block-meets (gives (it v) w) f = h v w
      block-meets (gives missed w) f = missed-ends w _ f
      block-meets (raises p w) f = alike _
      block-meets (stops cut w) f = alike _

      handle-meets : (x : Run Result) (d : Value → World Value → Run Value) (d' : Value → World Value → Run Result) → ((p : Value) (u : World Value) → Ends s (d p u) (then_do (d' p u) (finish fail))) → ((p : Value) (u : World Value) → When s (Full (d' p u)))
          → Meets (then_do (or_handle (then_do x (finish fail)) d) go) (then_value (or_handle (then_do (whole x) as_result) d') go')
      handle-meets (gives (it v) w) d d' k f = h v w
      handle-meets (gives missed w) d d' k f = alike _
      handle-meets (raises p w) d d' k f = and-so (then-ends go (k p w)) (block-meets (d' p w) (f p w))
      handle-meets (stops cut w) d d' k f = alike _

  next-is : (other : World Value → Run Value) (x : Run Result) (go : World Value → Run Result) → then_do x (finish (λ u. then_do (go u) (finish other))) ≡ then_do (or_next x go) (finish other)
  next-is other (gives (it v) w) go = refl
  next-is other (gives missed w) go = refl
  next-is other (raises p w) go = refl
  next-is other (stops cut w) go = refl

  module _ (T : Tables) (calls calls' : Calls) (same : (p : Place) (f : ℕ) (vs : List Value) (w : World Value) → Ends s (calls p f vs w) (calls' p f vs w)) where
    full-when : (e : Exp) (env : Env) (w : World Value) → When s (IsWhole e × HasWhole e) → When s (Full (r.eval T calls' e env w))
    full-when e env w h = by s h
      where
        by : (q : Bool) → When q (IsWhole e × HasWhole e) → When q (Full (r.eval T calls' e env w))
        by true k = exp-full T calls' e env w k.0 k.1
        by false k = tt

    mutual
      exp-meets : (e : Exp) (env : Env) (w : World Value) (other other' : World Value → Run Value) → When s (HasWhole e) → ((u : World Value) → Ends s (other u) (other' u)) → Ends s (m.eval T calls e env w other) (then_do (r.eval T calls' e env w) (finish other'))
      exp-meets (ret x) env w other other' k o = found-meets other' (look_up x env) w _ _ (λ v. alike _)
      exp-meets (let_in x op e) env w other other' k o = op-meets op env w other' _ _ (when-left (OpHasWhole op) (HasWhole e) s k) (λ v u. exp-meets e (bind x v env) u other other' (when-right (OpHasWhole op) (HasWhole e) s k) o)
      exp-meets (turn p e) env w other other' k o = turn-meets other' w.left p w _ _ (λ u. exp-meets e env u other other' k o)
      exp-meets (switch x arms) env w other other' k o = found-meets other' (tag_of (look_up x env)) w _ _ (λ t. arms-meet t arms env w other other' k o)
      exp-meets (branch q xs a b) env w other other' k o = found-meets other' (look_all xs env) w _ _ (λ vs. found-meets other' (decide T q vs) w _ _ (λ c. if-meets other' c _ _ _ _ (exp-meets a env w other other' (when-left (HasWhole a) (HasWhole b) s k) o) (exp-meets b env w other other' (when-right (HasWhole a) (HasWhole b) s k) o)))
      exp-meets (first e d) env w other other' k o = subst (λ x. Ends s (m.eval T calls e env w (λ u. m.eval T calls d env u other)) x) (next-is other' (r.eval T calls' e env w) (λ u. r.eval T calls' d env u))
          (exp-meets e env w (λ u. m.eval T calls d env u other) (λ u. then_do (r.eval T calls' d env u) (finish other')) (when-left (HasWhole e) (HasWhole d) s k) (λ u. exp-meets d env u other other' (when-right (HasWhole e) (HasWhole d) s k) o))
      exp-meets miss env w other other' k o = o w

      op-meets : (op : Op) (env : Env) (w : World Value) (other : World Value → Run Value) (go : Value → World Value → Run Value) (go' : Value → World Value → Run Result) → When s (OpHasWhole op) → ((v : Value) (u : World Value) → Ends s (go v u) (then_do (go' v u) (finish other)))
          → Ends s (then_do (m.eval_op T calls op env w) go) (then_do (r.eval_op T calls' op env w go') (finish other))
      op-meets (plain p xs) env w other go go' k h = found-then other go go' h (look_all xs env) w _ _ (λ vs. then-meets other go go' h (perform T p vs w))
      op-meets (make t ps) env w other go go' k h = found-then other go go' h (gather ps env) w _ _ (λ vs. h (cell t (values_of vs)) w)
      op-meets (attempt i p xs) env w other go go' k h = found-then other go go' h (look_all xs env) w _ _ (λ vs. found-then other go go' h (attempted i p vs) w _ _ (λ g. way-meets other go go' h g w))
      op-meets (call p c xs) env w other go go' k h = found-then other go go' h (look_all xs env) w _ _ (λ vs. found-then other go go' h (called T c env vs) w _ _ (λ f. call-meets other go go' h (same p f.function f.arguments w)))
      op-meets (block e) env w other go go' k h = and-so (then-ends go (exp-meets e env w fail fail (when-right (IsWhole e) (HasWhole e) s k) (λ u. alike _))) (block-meets other go go' h (r.eval T calls' e env w) (full-when e env w k))
      op-meets (handle e y d) env w other go go' k h =
          and-so (then-ends go (handle-ends (λ p u. m.eval T calls d (bind y p env) u fail) (exp-meets e env w fail fail (when-right (IsWhole e) (HasWhole e) s (when-left (IsWhole e × HasWhole e) (IsWhole d × HasWhole d) s k)) (λ u. alike _))))
          (handle-meets other go go' h (r.eval T calls' e env w) (λ p u. m.eval T calls d (bind y p env) u fail) (λ p u. r.eval T calls' d (bind y p env) u) (λ p u. exp-meets d (bind y p env) u fail fail (when-right (IsWhole d) (HasWhole d) s (when-right (IsWhole e × HasWhole e) (IsWhole d × HasWhole d) s k)) (λ z. alike _)) (λ p u. full-when d (bind y p env) u (when-right (IsWhole e × HasWhole e) (IsWhole d × HasWhole d) s k)))
      op-meets (raise x) env w other go go' k h = found-then other go go' h (look_up x env) w _ _ (λ p. raised-meets other go go' h p w)

      arms-meet : (t : ℕ) (arms : Arms) (env : Env) (w : World Value) (other other' : World Value → Run Value) → When s (ArmsHaveWhole arms) → ((u : World Value) → Ends s (other u) (other' u)) → Ends s (m.eval_arm T calls t arms env w other) (then_do (r.eval_arm T calls' t arms env w) (finish other'))
      arms-meet t no_arms env w other other' k o = o w
      arms-meet t (arm i e arms) env w other other' k o = if-meets other' (nat_eq t i) _ _ _ _ (exp-meets e env w other other' (when-left (HasWhole e) (ArmsHaveWhole arms) s k) o) (arms-meet t arms env w other other' (when-right (HasWhole e) (ArmsHaveWhole arms) s k) o)

    body-meets : (e : Exp) (env : Env) (w : World Value) → When s (HasWhole e) → Ends s (m.eval T calls e env w fail) (whole (r.eval T calls' e env w))
    body-meets e env w k = subst (λ x. Ends s (m.eval T calls e env w fail) x) (whole-is (r.eval T calls' e env w)) (exp-meets e env w fail fail k (λ u. alike _))

  take-ends : {A : Type 0} (n : ℕ) (p : Place) (w : World Value) (go go' : World Value → Run A) → ((u : World Value) → Ends s (go u) (go' u)) → Ends s (turn_from n p w go) (turn_from n p w go')
  take-ends zero p w go go' h = alike _
  take-ends (suc n) p w go go' h = h _

  found-ends : {A B : Type 0} (o : Option A) (w : World Value) (go go' : A → Run B) → ((x : A) → o ≡ Some x → Ends s (go x) (go' x)) → Ends s (or_fail o w go) (or_fail o w go')
  found-ends None w go go' h = alike _
  found-ends (Some x) w go go' h = h x refl

  same-some : (d g : Fun) → Some d ≡ Some g → d ≡ g
  same-some d g q = cc

  fun-whole : (funs : List Fun) (f : ℕ) (g : Fun) → When s (AllByRecursion FunIsWhole funs) → slice_get funs f ≡ Some g → When s (FunIsWhole g)
  fun-whole funs f g h e = by s h
    where
      at : (gs : List Fun) (i : ℕ) → AllByRecursion FunIsWhole gs → slice_get gs i ≡ Some g → FunIsWhole g
      at [] i k q = absurd (cc)
      at (d ∷ gs) zero k q = subst FunIsWhole (same-some d g q) k.0
      at (d ∷ gs) (suc i) k q = at gs i k.1 q

      by : (q : Bool) → When q (AllByRecursion FunIsWhole funs) → When q (FunIsWhole g)
      by true k = at funs f k e
      by false k = tt

  enter-ends : (funs : List Fun) (ev : m.Evaluator) (ev' : r.Evaluator) → When s (AllByRecursion FunIsWhole funs) → ((e : Exp) (env : Env) (w : World Value) → When s (HasWhole e) → Ends s (ev e env w fail) (whole (ev' e env w)))
      → (p : Place) (f : ℕ) (vs : List Value) (w : World Value) → Ends s (m.enter funs ev p f vs w) (r.enter funs ev' p f vs w)
  enter-ends funs ev ev' k h p f vs w =
      found-ends (slice_get funs f) w _ _ (λ g e. found-ends (bind_all g.params vs []) w _ _ (λ env q. take-ends w.left p w _ _ (λ u. h g.body env u (when-right (IsWhole g.body) (HasWhole g.body) s (fun-whole funs f g k e)))))

  apply-ends : (q : Program) → When s (AreWhole q) → (n : ℕ) (p : Place) (f : ℕ) (vs : List Value) (w : World Value) → Ends s (m.apply q n p f vs w) (r.apply q n p f vs w)
  apply-ends q k zero p f vs w = enter-ends q.funs m.idle r.idle k (λ e env u h. alike _) p f vs w
  apply-ends q k (suc n) p f vs w = enter-ends q.funs (m.eval q.tables (m.apply q n)) (r.eval q.tables (r.apply q n)) k (λ e env u h. body-meets q.tables (m.apply q n) (r.apply q n) (apply-ends q k n) e env u h) p f vs w

  program-ends : (q : Program) → When s (AreWhole q) → (n : ℕ) → Ends s (or_fail (body_of q.funs) (begin q.tables n) (λ e. m.eval q.tables (m.apply q n) e [] (begin q.tables n) fail)) (or_fail (body_of q.funs) (begin q.tables n) (λ e. whole (r.eval q.tables (r.apply q n) e [] (begin q.tables n))))
  program-ends q k n = at_body q.funs k
    where
      at_body : (funs : List Fun) → When s (AllByRecursion FunIsWhole funs) → Ends s (or_fail (body_of funs) (begin q.tables n) (λ e. m.eval q.tables (m.apply q n) e [] (begin q.tables n) fail)) (or_fail (body_of funs) (begin q.tables n) (λ e. whole (r.eval q.tables (r.apply q n) e [] (begin q.tables n))))
      at_body [] h = alike _
      at_body (g ∷ funs) h = body-meets q.tables (m.apply q n) (r.apply q n) (apply-ends q k n) g.body [] (begin q.tables n) (when-right (IsWhole g.body) (HasWhole g.body) s (when-left (FunIsWhole g) (AllByRecursion FunIsWhole funs) s h))

one-end : {a b : Run Value} → Ends true a b → b ≡ a
one-end (alike a) = refl
one-end (wrong_first q w b) = absurd (cc)

one-outcome : {a b : Run Value} → Ends false a b → ((outcome_of identifier_of a).end ≡ wrong → ⊥) → outcome_of identifier_of b ≡ outcome_of identifier_of a
one-outcome (alike a) h = refl
one-outcome (wrong_first q w b) h = absurd (h refl)

pub meanings-are-one : MeaningsAreOne
meanings-are-one p k n = ap (outcome_of identifier_of) (one-end (program-ends true p k n))

pub meanings-are-one-unless-wrong : MeaningsAreOneUnlessWrong
meanings-are-one-unless-wrong p n h = one-outcome (program-ends false p tt n) h
