-- What a program with source matches does. [Definition 6.7] Types and weights are ignored. A phrase is evaluated left to right in an environment; calls go
-- through `apply`, which takes the turns. Where no case applies the run goes wrong.
use Rattle.std.specs.Prelude.{ℕ, zero, suc, Bool, true, false, not, List, [], ◌∷◌, Option, Some, None, nat_eq, if◌then◌else◌, option_and_then, slice_get, ⊤}
use Rattle.ir_plain.specs.of_mlc_runs.Outcome.{Outcome}
use Rattle.ir_plain.specs.of_mlc_runs.Run.{World, Answer, gives, raises, stops, out_of_turns, start, then_do, or_handle, or_fail, new_exception, outcome_of}
use Rattle.ir_plain.specs.of_mlc_names.declared.label.Label.{Label}
use Rattle.mlc_base.specs.declared.place.Place.{Place}
use Rattle.label_rows.specs.Order.{label_before}
use Rattle.ir_plain.specs.of_ir_values.Tags.{untagged}
use Rattle.ir_plain.specs.of_ir_values.Values.{Value, record_of, con, exn, ref, primitive, closure, no_fields, field, Env, empty, bind, look_by, field_in, packet_name, value_of, truth_number}
use Rattle.ir_plain.specs.of_ir_values.Values as values
use Rattle.ir_plain.specs.of_ir_values.Match.{Matched, matches, then_match, after_match, on_found, against_literal, against_con, under_con, against_exn, under_exn, under_record, under_ref}
use Rattle.ir_plain.specs.of_ir_values.Primitives.{packet, match_name, bind_name, raise_value}
use Rattle.ir_plain.specs.of_ir_values.Primitives as call
use Rattle.ir_poly.specs.Prog.{Exc, fixed, held, Pat, any_pat, variable_pat, constant_pat, con_pat, con_of_pat, ref_of_pat, exn_pat, exn_of_pat, fields_pat, as_pat, PatFields, no_pats, a_pat, Exp, constant_exp, variable_exp, own_exp, con_exp, ref_exp, exn_exp, prim_exp, fields_exp, let_exp, app_exp, case_exp, chain_exp, handle_exp, raise_exp, fn_exp, counted_exp, Fields, a_field, Chain, only, link, Rules, no_rules, a_rule, Fun, last, by_rules, more, Decs, no_decs, val_dec, exception_dec, counted_dec, Binds, no_binds, a_bind, Funs, no_funs, a_fun, pat_count}
use Rattle.ir_poly.specs.Prog as tree

-- a function alone, or one of a group
pub data Code : Type 0 where
  alone : Fun → Code
  one_of : Fun → Funs → Code

abbrev pub V : Type 0
V = Value ℕ Code ⊤

abbrev pub Scope : Type 0
Scope = Env ℕ Code ⊤

abbrev pub Fits : Type 0
Fits = Matched ℕ Code ⊤

abbrev pub Parts : Type 0
Parts = values.Fields ℕ Code ⊤

abbrev pub look_up : ℕ → Scope → Option V
look_up x env = look_by nat_eq x env

-- an exception's name
abbrev pub only_name : V → Option V
only_name (exn g n) = Some (exn g n)
only_name v = None

abbrev pub exception_in : Exc → Scope → Option V
exception_in (fixed n) env = Some (packet untagged n)
exception_in (held x) env = option_and_then only_name (look_up x env)

abbrev pub size_of : Bool → PatFields → Option ℕ
size_of true ps = None
size_of false ps = Some (pat_count ps)

-- the environment with the bindings of a match in front; exceptions and references are those that are there before the match
abbrev mutual
  pub match_pat : List V → Scope → Pat → V → Scope → Fits
  match_pat store at any_pat v env = matches env
  match_pat store at (variable_pat x) v env = matches (bind x v env)
  match_pat store at (constant_pat l) v env = against_literal l v (matches env)
  match_pat store at (con_pat c) v env = against_con untagged tt c v (matches env)
  match_pat store at (con_of_pat c t p) v env = under_con untagged tt c v (λ u. match_pat store at p u env)
  match_pat store at (ref_of_pat t p) v env = under_ref untagged tt store v (λ u. match_pat store at p u env)
  match_pat store at (exn_pat x) v env = against_exn (exception_in x at) v (matches env)
  match_pat store at (exn_of_pat x t p) v env = under_exn untagged tt (exception_in x at) v (λ u. match_pat store at p u env)
  match_pat store at (fields_pat further ps) v env = under_record untagged tt (size_of further ps) v (λ fs. match_fields store at ps fs env)
  match_pat store at (as_pat x p) v env = match_pat store at p v (bind x v env)

  pub match_fields : List V → Scope → PatFields → Parts → Scope → Fits
  match_fields store at no_pats fs env = matches env
  match_fields store at (a_pat l t p ps) fs env = then_match (on_found (field_in l fs) (λ v. match_pat store at p v env)) (match_fields store at ps fs)

abbrev pub Apply : Type 0
Apply = Place → V → V → World V → Answer V V

abbrev pub bind_all : List ℕ → V → Scope → Scope
bind_all [] v env = env
bind_all (x ∷ xs) v env = bind x v (bind_all xs v env)

-- each function of the group all, as a closure that has them all
abbrev pub members_from : Funs → Funs → Scope → Scope
members_from no_funs all env = env
members_from (a_fun xs t f fs) all env = bind_all xs (closure (one_of f all) env) (members_from fs all env)

abbrev pub members : Funs → Scope → Scope
members fs env = members_from fs fs env

-- An operand is matched as `if` does: with the truth value b, then with the other one, which stops. None of the two raises Match.
abbrev pub on_operand : Bool → V → World V → Answer V V → Answer V V
on_operand b v w go =
    after_match (against_con untagged tt (truth_number b) v (matches empty)) w (λ e w. go)
    (λ w. after_match (against_con untagged tt (truth_number (not b)) v (matches empty)) w (λ e w. gives v w) (λ w. raises (packet untagged match_name) w))

-- A record has its fields in the order of their labels, however they are written; of two with the same label the one that is written first stays first.
module _ {B C T : Type 0} where
  abbrev pub put_part : Label → Value B C T → values.Fields B C T → values.Fields B C T
  put_part l v no_fields = field l v no_fields
  put_part l v (field k z fs) = if label_before k l then field k z (put_part l v fs) else field l v (field k z fs)

  abbrev pub sorted_parts : values.Fields B C T → values.Fields B C T
  sorted_parts no_fields = no_fields
  sorted_parts (field l v fs) = put_part l v (sorted_parts fs)

abbrev mutual
  pub eval : Apply → Exp → Scope → World V → Answer V V
  eval call (constant_exp l t) env w = gives (value_of untagged l) w
  eval call (variable_exp x ts t) env w = or_fail (look_up x env) w (λ v. gives v w)
  eval call (own_exp x t) env w = or_fail (look_up x env) w (λ v. gives v w)
  eval call (con_exp c y ts t) env w = gives (con tt c) w
  eval call (ref_exp a t) env w = gives (ref tt) w
  eval call (exn_exp x t) env w = or_fail (exception_in x env) w (λ v. gives v w)
  eval call (prim_exp p ts t) env w = gives (primitive tt p) w
  eval call (fields_exp t fs) env w = then_do (eval_fields call fs env w) (λ vs w. gives (record_of tt (sorted_parts vs)) w)
  eval call (let_exp t ds e) env w = then_do (eval_decs call ds env w) (λ env' w. eval call e env' w)
  eval call (app_exp place t f a) env w = then_do (eval call f env w) (λ g w. then_do (eval call a env w) (λ v w. call place g v w))
  eval call (case_exp place t e rs) env w = then_do (eval call e env w) (λ v w. eval_rules call rs v env w (packet untagged match_name))
  eval call (chain_exp b t c) env w = eval_chain call b c env w
  eval call (handle_exp t e rs) env w = or_handle (eval call e env w) (λ k w. eval_rules call rs k env w k)
  eval call (raise_exp t e) env w = then_do (eval call e env w) raise_value
  eval call (fn_exp t f) env w = gives (closure (alone f) env) w
  eval call (counted_exp n t e) env w = eval call e env w

  -- one after the other, as they are written
  pub eval_fields : Apply → Fields → Scope → World V → Answer V Parts
  eval_fields call tree.no_fields env w = gives no_fields w
  eval_fields call (a_field l e fs) env w = then_do (eval call e env w) (λ v w. then_do (eval_fields call fs env w) (λ vs w. gives (field l v vs) w))

  -- operands one after the other as long as they are b
  pub eval_chain : Apply → Bool → Chain → Scope → World V → Answer V V
  eval_chain call b (only e) env w = eval call e env w
  eval_chain call b (link e c) env w =
      then_do (eval call e env w) (λ v w. on_operand b v w (eval_chain call b c env w))

  -- the first rule that matches v; where none does, k is raised
  pub eval_rules : Apply → Rules → V → Scope → World V → V → Answer V V
  eval_rules call no_rules v env w k = raises k w
  eval_rules call (a_rule p e rs) v env w k = after_match (match_pat w.store env p v env) w (λ env' w. eval call e env' w) (λ w. eval_rules call rs v env w k)

  pub eval_decs : Apply → Decs → Scope → World V → Answer V Scope
  eval_decs call no_decs env w = gives env w
  eval_decs call (val_dec qs bs fs ds) env w = then_do (eval_binds call bs env (members fs env) w) (λ env' w. eval_decs call ds env' w)
  eval_decs call (exception_dec x identifier t ds) env w = new_exception identifier w (λ n w. eval_decs call ds (bind x (exn tt n) env) w)
  eval_decs call (counted_dec n ds) env w = eval_decs call ds env w

  -- each in env; what they bind goes in front of the second environment
  pub eval_binds : Apply → Binds → Scope → Scope → World V → Answer V Scope
  eval_binds call no_binds env bound w = gives bound w
  eval_binds call (a_bind place b p t e bs) env bound w =
      then_do (eval call e env w)
      (λ v w. after_match (match_pat w.store env p v bound) w (λ bound' w. eval_binds call bs env bound' w) (λ w. raises (packet untagged bind_name) w))

-- a function is given one argument
abbrev pub run_fun : Apply → Fun → Scope → V → World V → Answer V V
run_fun call (last x t e) env v w = eval call e (bind x v env) w
run_fun call (by_rules place t u rs) env v w = eval_rules call rs v env w (packet untagged match_name)
run_fun call (more x t f) env v w = gives (closure (alone f) (bind x v env)) w

abbrev pub body : (Fun → Scope → V → World V → Answer V V) → Code → Scope → V → World V → Answer V V
body go (alone f) env v w = go f env v w
body go (one_of f fs) env v w = go f (members fs env) v w

-- calls nested at most k deep, which is no limit where k is at least the turns
abbrev pub apply : ℕ → Apply
apply zero = call.enter untagged (body (λ f env v w. stops out_of_turns w))
apply (suc k) = call.enter untagged (body (run_fun (apply k)))

abbrev pub identifier_of : V → World V → Option ℕ
identifier_of v w = option_and_then (slice_get w.exceptions) (packet_name v)

-- the exceptions of the initial basis are there, with their identifiers
abbrev pub run : List ℕ → Decs → ℕ → Outcome
run initial ds m = outcome_of identifier_of (eval_decs (apply m) ds empty (record (start m) { exceptions = initial }))
