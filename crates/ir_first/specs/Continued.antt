-- The same, with what is done where an expression misses: `other`. Here a block that misses is wrong.
use Rattle.std.specs.Prelude.{ℕ, zero, suc, List, [], nat_eq, if◌then◌else◌, slice_get}
use Rattle.mlc_runs.specs.Outcome.{Outcome}
use Rattle.mlc_runs.specs.Run.{World, gives, raises, stops, out_of_turns, then_do, or_handle, fail, or_fail, take_turn, outcome_of}
use Rattle.first_values.specs.Values.{Value, cell, values_of, Env, Run, bind, look_up, look_all, bind_all, gather, identifier_of, tag_of}
use Rattle.first_values.specs.Operations.{Tables, perform, attempted, either_way, decide, called, raised_from}
use Rattle.ir_first.specs.Tree.{Exp, Op, Arms, Fun, Program, ret, let_in, turn, switch, branch, first, miss, plain, make, attempt, call, block, handle, raise, no_arms, arm}
use Rattle.ir_first.specs.Meaning.{Calls, body_of, begin}

abbrev pub Go : Type 0
Go = World Value → Run Value

module _ (T : Tables) (calls : Calls) where
  abbrev mutual
    pub eval : Exp → Env → World Value → Go → Run Value
    eval (ret x) env w other = or_fail (look_up x env) w (λ v. gives v w)
    eval (let_in x op e) env w other = then_do (eval_op op env w) (λ v u. eval e (bind x v env) u other)
    eval (turn p e) env w other = take_turn p w (λ u. eval e env u other)
    eval (switch x arms) env w other = or_fail (tag_of (look_up x env)) w (λ t. eval_arm t arms env w other)
    eval (branch q xs a b) env w other = or_fail (look_all xs env) w
        (λ vs. or_fail (decide T q vs) w (λ c. if c then eval a env w other else eval b env w other))
    eval (first e d) env w other = eval e env w (λ u. eval d env u other)
    eval miss env w other = other w

    -- no operation misses
    pub eval_op : Op → Env → World Value → Run Value
    eval_op (plain p xs) env w = or_fail (look_all xs env) w (λ vs. perform T p vs w)
    eval_op (make t ps) env w = or_fail (gather ps env) w (λ vs. gives (cell t (values_of vs)) w)
    eval_op (attempt k p xs) env w = or_fail (look_all xs env) w (λ vs. or_fail (attempted k p vs) w (λ g. either_way g (λ v. gives v w) (λ q. raises q w)))
    eval_op (call p c xs) env w = or_fail (look_all xs env) w (λ vs. or_fail (called T c env vs) w (λ f. calls p f.function f.arguments w))
    eval_op (block e) env w = eval e env w fail
    eval_op (handle e y h) env w = or_handle (eval e env w fail) (λ p u. eval h (bind y p env) u fail)
    eval_op (raise x) env w = or_fail (look_up x env) w (λ p. raised_from p w (raises p w))

    pub eval_arm : ℕ → Arms → Env → World Value → Go → Run Value
    eval_arm t no_arms env w other = other w
    eval_arm t (arm i e arms) env w other = if nat_eq t i then eval e env w other else eval_arm t arms env w other

abbrev pub Evaluator : Type 0
Evaluator = Exp → Env → World Value → Go → Run Value

-- a call takes a turn
abbrev pub enter : List Fun → Evaluator → Calls
enter funs ev p f vs w = or_fail (slice_get funs f) w (λ g. or_fail (bind_all g.params vs []) w (λ env. take_turn p w (λ u. ev g.body env u fail)))

abbrev pub idle : Evaluator
idle e env w other = stops out_of_turns w

abbrev pub apply : Program → ℕ → Calls
apply p zero = enter p.funs idle
apply p (suc k) = enter p.funs (eval p.tables (apply p k))

abbrev pub meaning : Program → ℕ → Outcome
meaning p turns =
    outcome_of identifier_of (or_fail (body_of p.funs) (begin p.tables turns) (λ e. eval p.tables (apply p turns) e [] (begin p.tables turns) fail))
