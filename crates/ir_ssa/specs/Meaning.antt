-- What a program does.
use Rattle.std.specs.Prelude.{ℕ, zero, suc, List, [], ◌∷◌, Option, Some, None, nat_eq, if◌then◌else◌, slice_get}
use Rattle.first_values.specs.of_mlc_runs.Outcome.{Outcome}
use Rattle.first_values.specs.of_mlc_runs.Run.{World, gives, raises, stops, out_of_turns, start, fail, or_fail, take_turn, outcome_of}
use Rattle.mlc_base.specs.declared.place.Place.{Place}
use Rattle.first_values.specs.Values.{Value, cell, values_of, Env, Run, bind, look_up, look_all, bind_all, gather, identifier_of, tag_of}
use Rattle.first_values.specs.Operations.{Tables, perform, attempted, either_way, decide, called, raised_from}
use Rattle.ir_ssa.specs.Tree.{Body, Bodies, Fun, Program, plain, make, attempt, turn, call, label, again, guard, goto, jump, branch, switch, tail, ret, raise, last, arm}

-- what follows, from the place of the turn that is taken, if any, and the values that it is given
abbrev pub Onward : Type 0
Onward = Option Place → List Value → World Value → Run Value

-- what is done with a packet
abbrev pub Handler : Type 0
Handler = Value → World Value → Run Value

abbrev pub Calls : Type 0
Calls = Place → ℕ → List Value → World Value → Run Value

-- a packet goes to the innermost handler of the function, or to the caller
abbrev pub throw : List Handler → Handler
throw [] p w = raises p w
throw (h ∷ hs) p w = h p w

abbrev pub then_go : List Handler → Run Value → (Value → World Value → Run Value) → Run Value
then_go hs (gives v w) go = go v w
then_go hs (raises p w) go = throw hs p w
then_go hs (stops cut w) go = stops cut w

-- only where the function has no handler
abbrev pub at_top : List Handler → World Value → Run Value → Run Value
at_top [] w r = r
at_top (h ∷ hs) w r = fail w

abbrev pub go_to : List Onward → ℕ → Onward
go_to ks l place vs w = or_fail (slice_get ks l) w (λ k. k place vs w)

abbrev pub may_turn : Option Place → World Value → (World Value → Run Value) → Run Value
may_turn None w go = go w
may_turn (Some p) w go = take_turn p w go

abbrev pub must_turn : Option Place → World Value → (World Value → Run Value) → Run Value
must_turn None w go = fail w
must_turn (Some p) w go = take_turn p w go

-- a block that may go to itself: each time takes a turn, and at most so many are made
abbrev pub spin : List ℕ → Env → (Onward → Env → World Value → Run Value) → ℕ → Onward
spin params env go zero place vs w = or_fail (bind_all params vs env) w (λ inner. must_turn place w (λ u. stops out_of_turns u))
spin params env go (suc j) place vs w = or_fail (bind_all params vs env) w (λ inner. must_turn place w (go (spin params env go j) inner))

module _ (T : Tables) (calls : Calls) (fuel : ℕ) where
  abbrev mutual
    pub eval : Body → Env → List Onward → List Handler → World Value → Run Value
    eval (plain p xs x b) env ks hs w = or_fail (look_all xs env) w (λ vs. then_go hs (perform T p vs w) (λ v u. eval b (bind x v env) ks hs u))
    eval (make t ps x b) env ks hs w = or_fail (gather ps env) w (λ vs. eval b (bind x (cell t (values_of vs)) env) ks hs w)
    eval (attempt k p xs x a b) env ks hs w =
        or_fail (look_all xs env) w
        (λ vs. or_fail (attempted k p vs) w (λ g. either_way g (λ v. eval a (bind x v env) ks hs w) (λ q. eval b (bind x q env) ks hs w)))
    eval (turn p b) env ks hs w = take_turn p w (λ u. eval b env ks hs u)
    eval (call p c xs x b) env ks hs w =
        or_fail (look_all xs env) w
        (λ vs. or_fail (called T c env vs) w (λ f. then_go hs (calls p f.function f.arguments w) (λ v u. eval b (bind x v env) ks hs u)))
    eval (label params a b) env ks hs w = eval b env
        ((λ place vs u. or_fail (bind_all params vs env) u (λ inner. may_turn place u (eval a inner ks hs))) ∷ ks) hs w
    eval (again params a b) env ks hs w = eval b env (spin params env (λ k inner u. eval a inner (k ∷ ks) hs u) fuel ∷ ks) hs w
    eval (guard l a y h) env ks hs w = eval a env (go_to ks l ∷ []) ((λ p u. eval h (bind y p env) ks hs u) ∷ hs) w
    eval (goto l xs) env ks hs w = or_fail (look_all xs env) w (λ vs. go_to ks l None vs w)
    eval (jump p l xs) env ks hs w = or_fail (look_all xs env) w (λ vs. go_to ks l (Some p) vs w)
    eval (branch q xs a b) env ks hs w =
        or_fail (look_all xs env) w (λ vs. or_fail (decide T q vs) w (λ c. if c then eval a env ks hs w else eval b env ks hs w))
    eval (switch x bs) env ks hs w = or_fail (tag_of (look_up x env)) w (λ t. eval_arm t bs env ks hs w)
    eval (tail p c xs) env ks hs w = at_top hs w (or_fail (look_all xs env) w (λ vs. or_fail (called T c env vs) w (λ f. calls p f.function f.arguments w)))
    eval (ret x) env ks hs w = at_top hs w (or_fail (look_up x env) w (λ v. gives v w))
    eval (raise x) env ks hs w = or_fail (look_up x env) w (λ p. raised_from p w (throw hs p w))

    pub eval_arm : ℕ → Bodies → Env → List Onward → List Handler → World Value → Run Value
    eval_arm t (last b) env ks hs w = eval b env ks hs w
    eval_arm t (arm i b bs) env ks hs w = if nat_eq t i then eval b env ks hs w else eval_arm t bs env ks hs w

abbrev pub Evaluator : Type 0
Evaluator = Body → Env → List Onward → List Handler → World Value → Run Value

-- a call takes a turn
abbrev pub enter : List Fun → Evaluator → Calls
enter funs ev p f vs w = or_fail (slice_get funs f) w (λ g. or_fail (bind_all g.params vs []) w (λ env. take_turn p w (λ u. ev g.body env [] [] u)))

abbrev pub idle : Evaluator
idle b env ks hs w = stops out_of_turns w

-- calls nested at most k deep, which is no limit where k is at least the turns
abbrev pub apply : Program → ℕ → Calls
apply p zero = enter p.funs idle
apply p (suc k) = enter p.funs (eval p.tables (apply p k) k)

abbrev pub body_of : List Fun → Option Body
body_of [] = None
body_of (g ∷ funs) = Some g.body

-- the exceptions of the initial basis are there from the first turn on, with their identifiers
abbrev pub begin : Tables → ℕ → World Value
begin T turns = record (start turns) { exceptions = T.initial }

-- where calls nest at most k deep, and loops go round at most k times
abbrev pub run_at : ℕ → Program → ℕ → Outcome
run_at k p turns =
    outcome_of identifier_of (or_fail (body_of p.funs) (begin p.tables turns) (λ b. eval p.tables (apply p k) k b [] [] [] (begin p.tables turns)))

abbrev pub meaning : Program → ℕ → Outcome
meaning p turns = run_at turns p turns
