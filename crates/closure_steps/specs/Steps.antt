-- The conversion along the code's steps: what each puts before what comes of the rest, and the scope behind it.
use Rattle.std.specs.Prelude.{ℕ, List, [], ◌∷◌}
use Rattle.ir_plain.specs.Tree as m
use Rattle.ir_plain.specs.Tree.{is_literal, is_con, is_con_of, is_exn, is_exn_of, is_record}
use Rattle.ir_mono.specs.Types as table
use Rattle.ir_mono.specs.Mono.{mono}
use Rattle.first_values.specs.Operations as op
use Rattle.ir_first.specs.Tree as out
use Rattle.flow_sets.specs.Flow.{Flow}
use Rattle.plain_tree.specs.TreeOf.{StepTree, let_step, exception_step, name_step, rec_step, test_step, counted_step}
use Rattle.closure_convert.specs.Scope.{names, Scope, add, add_all, Table}
use Rattle.closure_convert.specs.Closed.{members, case_scope}
use Rattle.closure_meaning.specs.Convert.{Numbering, var, constant, con_tag, name_of, group_in, cases, con_arms, convert_op}

module _ (types : List table.Row) where
  abbrev pub S : Type 0
  S = StepTree (mono types)

  -- the scope behind a step, and behind steps in a row
  abbrev pub behind : S → Scope → Scope
  behind (let_step x ps t o) s = add x s
  behind (exception_step x i t) s = add x s
  behind (name_step x y) s = add x s
  behind (rec_step ps fs) s = add_all (names (members types fs)) s
  behind (test_step a u c others) s = case_scope types c s
  behind (counted_step k) s = s

  abbrev pub all_behind : List S → Scope → Scope
  all_behind [] s = s
  all_behind (t ∷ ts) s = all_behind ts (behind t s)

module _ (n : Numbering) (types : List table.Row) (F : Flow) (T : Table) where
  -- a switch whose first arm has this case, and becomes e
  abbrev pub switched : Scope → (a t : ℕ) → m.Case (mono types) → m.Arms (mono types) → out.Exp → out.Exp
  switched s a t (is_literal l) others e = out.branch (op.is (constant n l)) (var a ∷ []) e (cases n types F T s a t others)
  switched s a t (is_con c) others e = out.switch (var a) (out.arm (con_tag types t c) e (con_arms n types F T s a t others))
  switched s a t (is_con_of c x u) others e =
      out.switch (var a) (out.arm (con_tag types t c) (out.let_in (var x) (out.plain (op.field 0) (var a ∷ [])) e) (con_arms n types F T s a t others))
  switched s a t (is_exn y) others e = out.branch op.is_of (var a ∷ var y ∷ []) e (cases n types F T s a t others)
  switched s a t (is_exn_of y x u) others e =
      out.branch op.is_of (var a ∷ var y ∷ []) (out.let_in (var x) (out.plain op.argument (var a ∷ [])) e) (cases n types F T s a t others)
  switched s a t (is_record size) others e = e

  -- what a step puts before what comes of the rest
  abbrev pub stepped : Scope → S types → out.Exp → out.Exp
  stepped s (let_step x ps t o) e = convert_op n types F T s x o e
  stepped s (exception_step x i t) e = out.let_in (var x) (out.plain (op.exception i) []) e
  stepped s (name_step x y) e = out.let_in (var x) (name_of n types F T s y) e
  stepped s (rec_step ps fs) e = group_in n types F T s (members types fs) e
  stepped s (test_step a u c others) e = switched s a u c others e
  stepped s (counted_step k) e = e

  abbrev pub all_stepped : Scope → List (S types) → out.Exp → out.Exp
  all_stepped s [] e = e
  all_stepped s (t ∷ ts) e = stepped s t (all_stepped (behind types t s) ts e)
