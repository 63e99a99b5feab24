-- What a program does, with results: an expression gives a value or misses.
use Rattle.std.specs.Prelude.{ℕ, zero, suc, List, [], ◌∷◌, Option, Some, None, nat_eq, if◌then◌else◌, slice_get}
use Rattle.mlc_runs.specs.Outcome.{Outcome}
use Rattle.mlc_runs.specs.Run.{World, gives, raises, stops, out_of_turns, start, then_do, or_handle, fail, or_fail, take_turn, outcome_of}
use Rattle.mlc_base.specs.declared.place.Place.{Place}
use Rattle.first_values.specs.Values.{Value, cell, values_of, Env, Run, bind, look_up, look_all, bind_all, gather, identifier_of, tag_of}
use Rattle.first_values.specs.Operations.{Tables, perform, attempted, either_way, decide, called, raised_from}
use Rattle.ir_first.specs.Tree.{Exp, Op, Arms, Fun, Program, ret, let_in, turn, switch, branch, first, miss, plain, make, attempt, call, block, handle, raise, no_arms, arm}

-- what an expression gives
pub data Result : Type 0 where
  it : Value → Result
  missed : Result

-- goes on with the value; a miss is one of the whole
abbrev pub with_value : (Value → World Value → Run Result) → Result → World Value → Run Result
with_value go (it v) w = go v w
with_value go missed w = gives missed w

abbrev pub then_value : Run Result → (Value → World Value → Run Result) → Run Result
then_value r go = then_do r (with_value go)

-- what else is done after a miss
abbrev pub after_miss : (World Value → Run Result) → Result → World Value → Run Result
after_miss go (it v) w = gives (it v) w
after_miss go missed w = go w

abbrev pub or_next : Run Result → (World Value → Run Result) → Run Result
or_next r go = then_do r (after_miss go)

-- the value of what is not to miss
abbrev pub value_in : Result → World Value → Run Value
value_in (it v) w = gives v w
value_in missed w = fail w

abbrev pub whole : Run Result → Run Value
whole r = then_do r value_in

abbrev pub as_result : Value → World Value → Run Result
as_result v w = gives (it v) w

abbrev pub Calls : Type 0
Calls = Place → ℕ → List Value → World Value → Run Value

module _ (T : Tables) (calls : Calls) where
  abbrev mutual
    pub eval : Exp → Env → World Value → Run Result
    eval (ret x) env w = or_fail (look_up x env) w (λ v. gives (it v) w)
    eval (let_in x op e) env w = eval_op op env w (λ v u. eval e (bind x v env) u)
    eval (turn p e) env w = take_turn p w (λ u. eval e env u)
    eval (switch x arms) env w = or_fail (tag_of (look_up x env)) w (λ t. eval_arm t arms env w)
    eval (branch q xs a b) env w = or_fail (look_all xs env) w (λ vs. or_fail (decide T q vs) w (λ c. if c then eval a env w else eval b env w))
    eval (first e d) env w = or_next (eval e env w) (λ u. eval d env u)
    eval miss env w = gives missed w

    -- and what follows, with the value
    pub eval_op : Op → Env → World Value → (Value → World Value → Run Result) → Run Result
    eval_op (plain p xs) env w go = or_fail (look_all xs env) w (λ vs. then_do (perform T p vs w) go)
    eval_op (make t ps) env w go = or_fail (gather ps env) w (λ vs. go (cell t (values_of vs)) w)
    eval_op (attempt k p xs) env w go = or_fail (look_all xs env) w (λ vs. or_fail (attempted k p vs) w (λ g. either_way g (λ v. go v w) (λ q. raises q w)))
    eval_op (call p c xs) env w go = or_fail (look_all xs env) w (λ vs. or_fail (called T c env vs) w (λ f. then_do (calls p f.function f.arguments w) go))
    eval_op (block e) env w go = then_value (eval e env w) go
    eval_op (handle e y h) env w go = then_value (or_handle (then_do (whole (eval e env w)) as_result) (λ p u. eval h (bind y p env) u)) go
    eval_op (raise x) env w go = or_fail (look_up x env) w (λ p. raised_from p w (raises p w))

    pub eval_arm : ℕ → Arms → Env → World Value → Run Result
    eval_arm t no_arms env w = gives missed w
    eval_arm t (arm i e arms) env w = if nat_eq t i then eval e env w else eval_arm t arms env w

abbrev pub Evaluator : Type 0
Evaluator = Exp → Env → World Value → Run Result

-- a call takes a turn
abbrev pub enter : List Fun → Evaluator → Calls
enter funs ev p f vs w = or_fail (slice_get funs f) w (λ g. or_fail (bind_all g.params vs []) w (λ env. take_turn p w (λ u. whole (ev g.body env u))))

abbrev pub idle : Evaluator
idle e env w = stops out_of_turns w

-- calls nested at most k deep, which is no limit where k is at least the turns
abbrev pub apply : Program → ℕ → Calls
apply p zero = enter p.funs idle
apply p (suc k) = enter p.funs (eval p.tables (apply p k))

abbrev pub body_of : List Fun → Option Exp
body_of [] = None
body_of (g ∷ funs) = Some g.body

-- the exceptions of the initial basis are there from the first turn on, with their identifiers
abbrev pub begin : Tables → ℕ → World Value
begin T turns = record (start turns) { exceptions = T.initial }

abbrev pub meaning : Program → ℕ → Outcome
meaning p turns =
    outcome_of identifier_of (or_fail (body_of p.funs) (begin p.tables turns) (λ e. whole (eval p.tables (apply p turns) e [] (begin p.tables turns))))
