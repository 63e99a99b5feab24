-- What a program does where only `fn` and groups are functions: to call a constructor, `ref`, a primitive or an exception's name goes wrong.
use Rattle.std.specs.Prelude.{ℕ, zero, suc, List}
use Rattle.mlc_runs.specs.Outcome.{Outcome}
use Rattle.mlc_runs.specs.Run.{World, Answer, stops, out_of_turns, start, take_turn, fail, outcome_of}
use Rattle.ir_values.specs.Values.{closure, empty}
use Rattle.ir_plain.specs.Kind.{Kind}
use Rattle.ir_plain.specs.Tree.{Exp, Fun}
use Rattle.ir_plain.specs.Meaning.{V, Scope, Apply, eval, run_fun, body, identifier_of}
use Rattle.ir_mono.specs.Mono.{Program}

module _ {F : Kind} where
  abbrev pub enter_closure : (Fun F → Scope F → V F → World (V F) → Answer (V F) (V F)) → Apply F
  enter_closure go place (closure c env) v w = take_turn place w (body go c env v)
  enter_closure go place f v w = fail w

  -- calls nested at most k deep, which is no limit where k is at least the turns
  abbrev pub apply_closures : ℕ → Apply F
  apply_closures zero = enter_closure (λ f env v w. stops out_of_turns w)
  apply_closures (suc k) = enter_closure (run_fun (apply_closures k))

  abbrev pub run_closures : List ℕ → Exp F → ℕ → Outcome
  run_closures initial e m = outcome_of identifier_of (eval (apply_closures m) e empty (record (start m) { exceptions = initial }) fail)

abbrev pub meaning : Program → ℕ → Outcome
meaning p m = run_closures p.initial p.body m
