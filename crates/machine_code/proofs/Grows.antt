-- What is written stays.
use Rattle.std.proofs.Common.{◌≡◌, ℕ, zero, suc, List, [], ◌∷◌, ◌++◌, length, Option, Some, None, Bool, true, false, refl}
use Rattle.std.specs.Prelude.{slice_get, slice_set, nat_lt, nat_eq, if◌then◌else◌, get_or}
use Rattle.mlc_runs.specs.Run.{World, gives, raises, stops, out_of_turns, fail, or_fail, turn_from}
use Rattle.mlc_base.specs.declared.place.Place.{Place}
use Rattle.mlc_runs.proofs.MoreTurnsLaws.{prefix-refl as prefix_refl, prefix-trans as prefix_trans}
use Rattle.mlc_prims.specs.LitOf.{string}
use Rattle.mlc_prims.specs.PrimOf.{Gives, made, raised}
use Rattle.ir_ssa.specs.of_ir_values.Primitives.{raised_name}
use Rattle.ir_ssa.specs.of_first_values.Values.{Value, literal, cell, reference, name, packet, values_of, value_of, at, Run, Env, unit, bind, look_up, look_all, bind_all, gather, tag_of}
use Rattle.ir_ssa.specs.of_first_values.Equality.{opaque, equal_at}
use Rattle.ir_ssa.specs.of_first_values.Operations.{Tables, Plain, same, constant, field, refer, content, assign, exception, initial, pack, argument, compute, equal, print, literal_at, attempted, either_way, perform, decide, called, raised_from, none, one, two, field_from, read, write, print_value, packet_of, argument_of, made_in}
use Rattle.ir_ssa.specs.Tree.{Body, Bodies, Fun, Program, plain, make, attempt, turn, call, label, again, guard, goto, jump, branch, switch, tail, ret, raise, last, arm}
use Rattle.ir_ssa.specs.Meaning.{Onward, Handler, Calls, throw, then_go, at_top, go_to, may_turn, must_turn, spin, eval, eval_arm, Evaluator, enter, idle, apply}
use Rattle.same_runs.specs.SameRuns.{IsPrefix}

abbrev pub out_of : Run Value → List ℕ
out_of (gives v w) = w.output
out_of (raises p w) = w.output
out_of (stops c w) = w.output

abbrev pub Grows : World Value → Run Value → Type 0
Grows w r = IsPrefix w.output (out_of r)

abbrev pub KeepsOn : Onward → Type 0
KeepsOn k = (by_turn : Option Place) (vs : List Value) (w : World Value) → Grows w (k by_turn vs w)

abbrev pub AllGrow : List Onward → Type 0
AllGrow [] = Unit {0}
AllGrow (k ∷ ks) = KeepsOn k × AllGrow ks

abbrev pub HandlersGrow : List Handler → Type 0
HandlersGrow [] = Unit {0}
HandlersGrow (h ∷ hs) = ((p : Value) (w : World Value) → Grows w (h p w)) × HandlersGrow hs

abbrev pub CallsGrow : Calls → Type 0
CallsGrow calls = (p : Place) (f : ℕ) (vs : List Value) (w : World Value) → Grows w (calls p f vs w)

same_out : (w : World Value) → IsPrefix w.output w.output
same_out w = prefix_refl w.output

pub fail_grows : {A : Type 0} (o : Option A) (w : World Value) (go : A → Run Value) → ((a : A) → Grows w (go a)) → Grows w (or_fail o w go)
fail_grows None w go h = same_out w
fail_grows (Some a) w go h = h a

pub throw_grows : (hs : List Handler) (p : Value) (w : World Value) → HandlersGrow hs → Grows w (throw hs p w)
throw_grows [] p w h = same_out w
throw_grows (k ∷ hs) p w h = h.0 p w

pub then_grows : (hs : List Handler) (r : Run Value) (w : World Value) (go : Value → World Value → Run Value) → HandlersGrow hs → Grows w r → ((v : Value) (u : World Value) → Grows u (go v u)) → Grows w (then_go hs r go)
then_grows hs (gives v u) w go g h k = prefix_trans _ _ _ h (k v u)
then_grows hs (raises p u) w go g h k = prefix_trans _ _ _ h (throw_grows hs p u g)
then_grows hs (stops c u) w go g h k = h

pub top_grows : (hs : List Handler) (w : World Value) (r : Run Value) → Grows w r → Grows w (at_top hs w r)
top_grows [] w r h = h
top_grows (k ∷ hs) w r h = same_out w

pub turn_grows : (n : ℕ) (p : Place) (w : World Value) (go : World Value → Run Value) → ((u : World Value) → u.output ≡ w.output → Grows u (go u)) → Grows w (turn_from n p w go)
turn_grows zero p w go h = same_out w
turn_grows (suc n) p w go h = h (record w { left = n; taken = w.taken ++ p ∷ [] }) refl

may_grows : (by_turn : Option Place) (w : World Value) (go : World Value → Run Value) → ((u : World Value) → Grows u (go u)) → Grows w (may_turn by_turn w go)
may_grows None w go h = h w
may_grows (Some p) w go h = turn_grows w.left p w go (λ u e. h u)

must_grows : (by_turn : Option Place) (w : World Value) (go : World Value → Run Value) → ((u : World Value) → Grows u (go u)) → Grows w (must_turn by_turn w go)
must_grows None w go h = same_out w
must_grows (Some p) w go h = turn_grows w.left p w go (λ u e. h u)

pub to_grows : (ks : List Onward) (l : ℕ) → AllGrow ks → KeepsOn (go_to ks l)
to_grows [] l h by_turn vs w = same_out w
to_grows (k ∷ ks) zero h by_turn vs w = h.0 by_turn vs w
to_grows (k ∷ ks) (suc l) h by_turn vs w = to_grows ks l h.1 by_turn vs w

pub choose_grows : (b : Bool) (w : World Value) (x y : Run Value) → Grows w x → Grows w y → Grows w (if b then x else y)
choose_grows true w x y h k = h
choose_grows false w x y h k = k

pub way_grows : (g : Gives) (w : World Value) (go other : Value → Run Value) → ((v : Value) → Grows w (go v)) → ((v : Value) → Grows w (other v))
    → Grows w (either_way g go other)
way_grows (made l) w go other h k = h (value_of l)
way_grows (raised e) w go other h k = k (packet (raised_name e) unit)

pub spin_grows : (params : List ℕ) (env : Env) (go : Onward → Env → World Value → Run Value) → ((k : Onward) (inner : Env) (u : World Value) → KeepsOn k → Grows u (go k inner u)) → (j : ℕ) → KeepsOn (spin params env go j)
spin_grows params env go h zero by_turn vs w = fail_grows (bind_all params vs env) w _ (λ inner. must_grows by_turn w (λ u. stops out_of_turns u) (λ u. same_out u))
spin_grows params env go h (suc j) by_turn vs w = fail_grows (bind_all params vs env) w _ (λ inner. must_grows by_turn w (go (spin params env go j) inner) (λ u. h (spin params env go j) inner u (spin_grows params env go h j)))

-- Operations.

none_grows : (vs : List Value) (w : World Value) (r : Run Value) → Grows w r → Grows w (none vs w r)
none_grows [] w r h = h
none_grows (v ∷ vs) w r h = same_out w

one_grows : (vs : List Value) (w : World Value) (go : Value → Run Value) → ((v : Value) → Grows w (go v)) → Grows w (one vs w go)
one_grows [] w go h = same_out w
one_grows (v ∷ []) w go h = h v
one_grows (v ∷ u ∷ vs) w go h = same_out w

two_grows : (vs : List Value) (w : World Value) (go : Value → Value → Run Value) → ((v u : Value) → Grows w (go v u)) → Grows w (two vs w go)
two_grows [] w go h = same_out w
two_grows (v ∷ []) w go h = same_out w
two_grows (v ∷ u ∷ []) w go h = h v u
two_grows (v ∷ u ∷ x ∷ vs) w go h = same_out w

field_grows : (i : ℕ) (v : Value) (w : World Value) → Grows w (field_from i v w)
field_grows i (cell t vs) w = fail_grows (at i vs) w _ (λ v. same_out w)
field_grows i v w = same_out w

read_grows : (v : Value) (w : World Value) → Grows w (read v w)
read_grows (reference a) w = fail_grows (slice_get w.store a) w _ (λ v. same_out w)
read_grows v w = same_out w

write_grows : (r v : Value) (w : World Value) → Grows w (write r v w)
write_grows (reference a) v w = by (nat_lt a (length w.store))
  where
    by : (b : Bool) → IsPrefix w.output (out_of (if b then gives unit (record w { store = slice_set w.store a v }) else fail w))
    by true = prefix_refl w.output
    by false = prefix_refl w.output
write_grows r v w = same_out w

packet_grows : (n v : Value) (w : World Value) → Grows w (packet_of n v w)
packet_grows (name n) v w = same_out w
packet_grows n v w = same_out w

argument_grows : (p : Value) (w : World Value) → Grows w (argument_of p w)
argument_grows (packet n v) w = same_out w
argument_grows p w = same_out w

print_grows : (v : Value) (w : World Value) → Grows w (print_value v w)
print_grows (literal (string bytes)) w = (bytes, refl)
print_grows v w = same_out w

made_grows : (g : Gives) (w : World Value) → Grows w (made_in g w)
made_grows (made l) w = same_out w
made_grows (raised e) w = same_out w

pub perform_grows : (T : Tables) (p : Plain) (vs : List Value) (w : World Value) → Grows w (perform T p vs w)
perform_grows T same vs w = one_grows vs w _ (λ v. same_out w)
perform_grows T (constant c) vs w = none_grows vs w _ (fail_grows (literal_at T c) w _ (λ l. same_out w))
perform_grows T (field i) vs w = one_grows vs w _ (λ v. field_grows i v w)
perform_grows T refer vs w = one_grows vs w _ (λ v. same_out w)
perform_grows T content vs w = one_grows vs w _ (λ v. read_grows v w)
perform_grows T assign vs w = two_grows vs w _ (λ r v. write_grows r v w)
perform_grows T (exception i) vs w = none_grows vs w _ (same_out w)
perform_grows T (initial n) vs w = none_grows vs w _ (fail_grows (slice_get T.initial n) w _ (λ i. same_out w))
perform_grows T pack vs w = two_grows vs w _ (λ n v. packet_grows n v w)
perform_grows T argument vs w = one_grows vs w _ (λ p. argument_grows p w)
perform_grows T (compute k p) vs w = fail_grows (attempted k p vs) w _ (λ g. made_grows g w)
perform_grows T (equal t) vs w = two_grows vs w _ (λ a b. fail_grows (equal_at T.types (get_or T.types t opaque) a b) w _ (λ q. same_out w))
perform_grows T print vs w = one_grows vs w _ (λ v. print_grows v w)

raised_grows : (p : Value) (w : World Value) (r : Run Value) → Grows w r → Grows w (raised_from p w r)
raised_grows (packet n v) w r h = h
raised_grows p w r h = same_out w

module _ (T : Tables) (calls : Calls) (fuel : ℕ) (grow : CallsGrow calls) where
  mutual
    pub eval_grows : (b : Body) (env : Env) (ks : List Onward) (hs : List Handler) (w : World Value) → AllGrow ks → HandlersGrow hs → Grows w (eval T calls fuel b env ks hs w)
    eval_grows (plain p xs x b) env ks hs w h g = fail_grows (look_all xs env) w _ (λ vs. then_grows hs (perform T p vs w) w (λ v u. eval T calls fuel b (bind x v env) ks hs u) g (perform_grows T p vs w) (λ v u. eval_grows b (bind x v env) ks hs u h g))
    eval_grows (make t qs x b) env ks hs w h g = fail_grows (gather qs env) w _ (λ vs. eval_grows b (bind x (cell t (values_of vs)) env) ks hs w h g)
    eval_grows (attempt k p xs x a b) env ks hs w h g = fail_grows (look_all xs env) w _ (λ vs. fail_grows (attempted k p vs) w _ (λ o. way_grows o w (λ v. eval T calls fuel a (bind x v env) ks hs w) (λ q. eval T calls fuel b (bind x q env) ks hs w) (λ v. eval_grows a (bind x v env) ks hs w h g) (λ q. eval_grows b (bind x q env) ks hs w h g)))
    eval_grows (turn p b) env ks hs w h g = turn_grows w.left p w (λ u. eval T calls fuel b env ks hs u) (λ u e. eval_grows b env ks hs u h g)
    eval_grows (call p c xs x b) env ks hs w h g = fail_grows (look_all xs env) w _ (λ vs. fail_grows (called T c env vs) w _ (λ f. then_grows hs (calls p f.function f.arguments w) w (λ v u. eval T calls fuel b (bind x v env) ks hs u) g (grow p f.function f.arguments w) (λ v u. eval_grows b (bind x v env) ks hs u h g)))
    eval_grows (label params a b) env ks hs w h g =
        eval_grows b env _ hs w ((λ by_turn vs u. fail_grows (bind_all params vs env) u _ (λ inner. may_grows by_turn u (eval T calls fuel a inner ks hs) (λ u. eval_grows a inner ks hs u h g))), h) g
    eval_grows (again params a b) env ks hs w h g =
        eval_grows b env _ hs w ((λ by_turn vs u. spin_grows params env (λ k inner u. eval T calls fuel a inner (k ∷ ks) hs u) (λ k inner u kg. eval_grows a inner (k ∷ ks) hs u (kg, h) g) fuel by_turn vs u), h) g
    eval_grows (guard l a y c) env ks hs w h g =
        eval_grows a env (go_to ks l ∷ []) ((λ p u. eval T calls fuel c (bind y p env) ks hs u) ∷ hs) w (to_grows ks l h, tt) ((λ p u. eval_grows c (bind y p env) ks hs u h g), g)
    eval_grows (goto l xs) env ks hs w h g = fail_grows (look_all xs env) w _ (λ vs. to_grows ks l h None vs w)
    eval_grows (jump p l xs) env ks hs w h g = fail_grows (look_all xs env) w _ (λ vs. to_grows ks l h (Some p) vs w)
    eval_grows (branch q xs a b) env ks hs w h g = fail_grows (look_all xs env) w _ (λ vs. fail_grows (decide T q vs) w _ (λ c. choose_grows c w (eval T calls fuel a env ks hs w) (eval T calls fuel b env ks hs w) (eval_grows a env ks hs w h g) (eval_grows b env ks hs w h g)))
    eval_grows (switch x bs) env ks hs w h g = fail_grows (tag_of (look_up x env)) w _ (λ t. arm_grows t bs env ks hs w h g)
    eval_grows (tail p c xs) env ks hs w h g = top_grows hs w _ (fail_grows (look_all xs env) w _ (λ vs. fail_grows (called T c env vs) w _ (λ f. grow p f.function f.arguments w)))
    eval_grows (ret x) env ks hs w h g = top_grows hs w _ (fail_grows (look_up x env) w _ (λ v. same_out w))
    eval_grows (raise x) env ks hs w h g = fail_grows (look_up x env) w _ (λ p. raised_grows p w (throw hs p w) (throw_grows hs p w g))

    pub arm_grows : (t : ℕ) (bs : Bodies) (env : Env) (ks : List Onward) (hs : List Handler) (w : World Value) → AllGrow ks → HandlersGrow hs → Grows w (eval_arm T calls fuel t bs env ks hs w)
    arm_grows t (last b) env ks hs w h g = eval_grows b env ks hs w h g
    arm_grows t (arm i b bs) env ks hs w h g = choose_grows (nat_eq t i) w (eval T calls fuel b env ks hs w) (eval_arm T calls fuel t bs env ks hs w) (eval_grows b env ks hs w h g) (arm_grows t bs env ks hs w h g)

enter_grows : (funs : List Fun) (ev : Evaluator) → ((b : Body) (env : Env) (w : World Value) → Grows w (ev b env [] [] w)) → CallsGrow (enter funs ev)
enter_grows funs ev h p f vs w =
    fail_grows (slice_get funs f) w _ (λ g. fail_grows (bind_all g.params vs []) w _ (λ env. turn_grows w.left p w (λ u. ev g.body env [] [] u) (λ u e. h g.body env u)))

pub apply_grows : (p : Program) (k : ℕ) → CallsGrow (apply p k)
apply_grows p zero = enter_grows p.funs idle (λ b env w. same_out w)
apply_grows p (suc k) = enter_grows p.funs (eval p.tables (apply p k) k) (λ b env w. eval_grows p.tables (apply p k) k (apply_grows p k) b env [] [] w tt tt)
