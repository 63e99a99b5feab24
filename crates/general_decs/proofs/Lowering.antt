-- Steps at the end of a declaration, before it is closed.
use Rattle.std.proofs.Common.{◌≡◌, ◌⊎◌, inl, inr, ◌<◌, ◌≤◌, ℕ, true, Bool, List, Vec, Global, get_or, length, slice_get, Some, sym, ap, subst, arith}
use Rattle.std.proofs.lemmas.Bool.{eqb-true, lt-ltb}
use Rattle.std.proofs.lemmas.Option.{slice_get_within, get_or_from_slice_get}
use Rattle.ty_core.specs.Types.{var}
use Rattle.ty_table.specs.TypeAt.{type_at}
use Rattle.ty_solve.specs.Limits.{limit_at}
use Rattle.ty_solve.specs.declared.limit.Limit.{Limit}
use Rattle.general_vals.proofs.Closing.{limit-get}
use Rattle.ty_solve.specs.Substitution.{is_below, is_in}
use Rattle.sml_tree.specs.TreeOf.{RuleOf}
use Rattle.prog_tree.specs.declared.tree.Binding.{Binding}
use Rattle.prog_tree.specs.declared.tree.Function.{Function}
use Rattle.prog_tree.specs.declared.tree.Rule.{Rule}
use Rattle.elab_types.specs.declared.scope.TypeScope.{TypeScope}
use Rattle.elab_state.specs.States.{dead_level, limit_in, made, types_in}
use Rattle.elab_state.specs.declared.state.State.{State}
use Rattle.elab_steps.specs.Growing.{Grows, HasType}
use Rattle.elab_steps.proofs.Changing.{Tabled}
use Rattle.elab_steps.proofs.Growing.{grows_on, comes_before}
use Rattle.elab_context.specs.declared.context.Context.{Context}
use Rattle.rec_groups.specs.of_pat_elab.declared.bound.BoundVariable.{BoundVariable}
use Rattle.rec_groups.proofs.of_pat_elab.Forms.{all-later}
use Rattle.rec_groups.specs.Heads.{with_own}
use Rattle.rec_groups.proofs.Adding.{functions_later}
use Rattle.general_vals.specs.of_general_worlds.Inner.{deeper}
use Rattle.general_vals.specs.of_general_worlds.Tidy.{AreOuter}
use Rattle.general_decs.specs.Whole.{IsDeclared}
use Rattle.general_decs.specs.Inside.{AreInside}

-- the type that is a variable
pub variable-is : (S T : State) (r v : ℕ) → Tabled S T → slice_get (types_in T) r ≡ Some (var v) → v < made S → (limit_in S v).level < dead_level → HasType T r
variable-is S T r v a is lt live =
    let at : type_at (types_in T) r ≡ var v = get_or_from_slice_get (types_in T) r (var v) (var 0) is in
    let same : made T ≡ made S = ap length a.slots in
    record {
      held = slice_get_within (types_in T) r (var v) is;
      below = subst (λ t. is_below (made T) t ≡ true) (sym at) (lt-ltb v (made T) (omega (arith, same, lt)));
      live = λ x i.
          let e : v ≡ x = eqb-true v x (subst (λ t. is_in x t ≡ true) at i) in
          subst (λ n. (limit_at T.solver.limits.items n).level < dead_level) e (subst (λ ls. (limit_at ls v).level < dead_level) (sym a.limits) live);
    }

-- what was said of bindings inside stays
pub inside-later : (S N T : State) (C : Context) (s : TypeScope) (rs : List RuleOf) (bs : List BoundVariable) (fs : List Bool) (binds : List (Binding × Rule)) → AreInside S C s rs N bs fs binds
    → Grows N T → AreInside S C s rs T bs fs binds
inside-later S N T C s rs bs fs binds h g = record {
  grows = grows_on S N T h.grows g;
  have = all-later N T g bs h.have;
  count = h.count;
  gives = λ W c A t m qs k u.
      let e = h.gives W (comes_before N T W g c) A t m qs k u in
      record {
        groups = e.groups;
        choices = e.choices;
        elab = λ y i l le. let f = e.elab y i l le in record { next = f.next; most = let a = f.most in let b = g.next in omega (arith, a, b); elab = f.elab };
        bound = e.bound;
        flags = e.flags;
        used = e.used;
      };
}

-- so does what was said of the whole declaration
pub declared-later : (M N T : State) (C : Context) (s : TypeScope) (rs gs : List RuleOf) (bs : List BoundVariable) (fs : List Bool) (binds : List (Binding × Rule))
    (funs : List (Vec ℕ Global × ℕ × Function)) → IsDeclared M C s rs gs N bs fs binds funs → Grows N T → IsDeclared M C s rs gs T bs fs binds funs
declared-later M N T C s rs gs bs fs binds funs h g = record {
  heads = h.heads;
  variables = h.variables;
  marks = h.marks;
  behind = h.behind;
  between = h.between;
  reserved = h.reserved;
  inside = h.inside;
  functions = functions_later h.between N T (with_own (deeper C s) h.heads) gs funs h.heads h.functions g;
  together = h.together;
  flagged = h.flagged;
}

pub outer-later : (N T : State) (l first : ℕ) → Grows N T → first ≤ made N → AreOuter N l first → AreOuter T l first
outer-later N T l first g le o v lt = by (o v lt)
  where
    by : ((limit_in N v).level ≤ l) ⊎ ((limit_in N v).level ≡ dead_level) → ((limit_in T v).level ≤ l) ⊎ ((limit_in T v).level ≡ dead_level)
    by (inl a) = inl (let b = (g.limits v (omega (arith, lt, le))).1 in omega (arith, a, b))
    by (inr a) = inr (g.done v (omega (arith, lt, le)) a).level

-- the limit of a variable

pub wide-at : (S : State) (v : ℕ) (k : Limit) → v < made S → k ≡ get_or S.solver.limits.items v k → 4 ≤ k.names
wide-at S v k lt e =
    let n = S.solver.each_has_one in subst (λ (b : Limit). 4 ≤ b.names) (limit-get S.solver.limits.items v k (omega (arith, n, lt)) e) (S.solver.wide v)

pub live-at : (S : State) (v : ℕ) (k : Limit) → v < made S → k ≡ get_or S.solver.limits.items v k → k.level < dead_level → (limit_in S v).level < dead_level
live-at S v k lt e l =
    let n = S.solver.each_has_one in subst (λ (b : Limit). b.level < dead_level) (sym (limit-get S.solver.limits.items v k (omega (arith, n, lt)) e)) l
