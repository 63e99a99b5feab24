-- States that grow from one another, and steps one after the other.
use Rattle.std.proofs.Common.{◌≡◌, ◌<◌, ◌≤◌, ℕ, refl, sym, ap, subst, ◌∙◌, arith}
use Rattle.ty_instance.specs.of_ty_solve.Limits.{NoFurther}
use Rattle.ty_instance.specs.of_ty_solve.declared.limit.Limit.{Limit}
use Rattle.ty_instance.proofs.Going.{stays-on, whole}
use Rattle.elab_state.specs.States.{types_in, made, limit_in}
use Rattle.prog_tree.specs.of_ir_tables.Tables.{initial_of, parameters_of, strings_of}
use Rattle.elab_state.specs.Steps.{Begins, Grows, Narrows, Extends}
use Rattle.elab_state.specs.declared.state.State.{State}

pub grows-itself : (S : State) → Grows S S
grows-itself S = record {
  types = whole _;
  written = whole _;
  namings = whole _;
  table_types = whole _;
  constructors = whole _;
  parameters = whole _;
  strings = whole _;
  exceptions = refl;
}

pub grows-on : (S T U : State) → Grows S T → Grows T U → Grows S U
grows-on S T U h k = record {
  types = stays-on _ _ _ h.types k.types;
  written = stays-on _ _ _ h.written k.written;
  namings = stays-on _ _ _ h.namings k.namings;
  table_types = stays-on _ _ _ h.table_types k.table_types;
  constructors = stays-on _ _ _ h.constructors k.constructors;
  parameters = stays-on _ _ _ h.parameters k.parameters;
  strings = stays-on _ _ _ h.strings k.strings;
  exceptions = k.exceptions ∙ h.exceptions;
}

further : (a b c : Limit) → NoFurther a b → NoFurther b c → NoFurther a c
further a b c h k = (let x = h.0 in let y = k.0 in omega arith, let x = h.1 in let y = k.1 in omega arith)

within : (a b : Limit) (l : ℕ) → NoFurther a b → b.level ≤ l → a.level ≤ l
within a b l h k = let x = h.1 in omega arith

pub extends-itself : (l : ℕ) (S : State) → Extends l S S
extends-itself l S = record {
  grows = grows-itself S;
  narrows = λ D g h. h;
  variables = omega arith;
  limits = λ v h k. (omega arith, omega arith);
  next = omega arith;
}

pub extends-on : (l : ℕ) (S T U : State) → Extends l S T → Extends l T U → Extends l S U
extends-on l S T U h k = record {
  grows = grows-on S T U h.grows k.grows;
  narrows = λ D g c. h.narrows D g (k.narrows D g c);
  variables = let a = h.variables in let b = k.variables in omega arith;
  limits = λ v i j. further _ _ _ (k.limits v (let a = h.variables in omega arith) (within _ _ l (h.limits v i j) j)) (h.limits v i j);
  next = let a = h.next in let b = k.next in omega arith;
}

-- inside more declarations less may change
pub extends-outside : (l m : ℕ) (S T : State) → l ≤ m → Extends m S T → Extends l S T
extends-outside l m S T le h = record {
  grows = h.grows;
  narrows = h.narrows;
  variables = h.variables;
  limits = λ v i j. h.limits v i (omega arith);
  next = h.next;
}

-- a step that changes the solver alone
pub extends-by : (l : ℕ) (S T : State) → T.written ≡ S.written → T.namings ≡ S.namings → T.tables ≡ S.tables → T.next ≡ S.next → Begins (types_in S) (types_in T) → Narrows S T
    → made S ≤ made T → ((v : ℕ) → v < made S → NoFurther (limit_in T v) (limit_in S v)) → Extends l S T
extends-by l S T w n t x types narrows variables limits = record {
  grows = record {
    types = types;
    written = subst (λ u. Begins S.written.items u.items) (sym w) (whole _);
    namings = subst (λ u. Begins S.namings.items u.items) (sym n) (whole _);
    table_types = subst (λ u. Begins S.tables.types u.types) (sym t) (whole _);
    constructors = subst (λ u. Begins S.tables.constructors u.constructors) (sym t) (whole _);
    parameters = subst (λ u. Begins (parameters_of S.tables) (parameters_of u)) (sym t) (whole _);
    strings = subst (λ u. Begins (strings_of S.tables) (strings_of u)) (sym t) (whole _);
    exceptions = ap initial_of t;
  };
  narrows = narrows;
  variables = variables;
  limits = λ v h k. limits v h;
  next = omega arith;
}
