-- Steps of a state that add namings, or types and constructors of the program.
use Rattle.std.proofs.Common.{◌≡◌, ◌≤◌, ◌+◌, ◌&&◌, ℕ, Bool, true, false, cond, List, [], ◌∷◌, ◌++◌, length, take, Option, Some, None, Result, Ok, Err, OnOk, OnErr, nat_eq, nat_lt, slice_get, unwrap_or, refl, sym, ap, ap₂, subst, ◌∙◌, arith}
use Rattle.std.specs.Prelude.{is_some, option_map, if◌then◌else◌}
use Rattle.std.specs.Map.{lookup}
use Rattle.std.proofs.lemmas.Bool.{eq-eqb, eqb-true, lt-ltb, ltb-true}
use Rattle.std.proofs.lemmas.List.{append_assoc}
use Rattle.std.proofs.lemmas.Option.{get_or_from_slice_get, slice_get_within}
use Rattle.ty_core.specs.Types.{Typ, var}
use Rattle.ty_core.specs.declared.name.TyName.{TyName}
use Rattle.ty_table.specs.TypeAt.{type_at}
use Rattle.ty_solve.specs.Substitution.{Solves}
use Rattle.ty_solve.specs.Said.{said}
use Rattle.ty_solve.specs.Limits.{limit_at}
use Rattle.ir_poly.specs.Types.{constructor_of, find, in_scope}
use Rattle.ir_tables.specs.Rows.{constructor_at, constructors_at}
use Rattle.ir_tables.specs.Tables.{parameters_of, strings_of}
use Rattle.ir_tables.specs.declared.constructors.Constructor as code
use Rattle.elab_typed.specs.Numbers.{type_as}
use Rattle.elab_state.specs.Namings.{IsAmong}
use Rattle.elab_state.specs.Readings.{AreHeldRows, IsHeldArgument}
use Rattle.elab_state.specs.States.{all_parameters, limit_in, made, types_in}
use Rattle.elab_state.specs.declared.naming.Naming.{Naming}
use Rattle.elab_state.specs.declared.state.State.{State}
use Rattle.elab_state.proofs.Reading.{table-finds}
use Rattle.elab_steps.specs.Growing.{Begins}
use Rattle.elab_steps.specs.Tidy.{AreConstructors}
use Rattle.elab_steps.proofs.Changing.{begins-same, same-limit, solver-makes}
use Rattle.elab_steps.proofs.Growing.{comes_before, grows_on, grows_same}
use Rattle.elab_steps.proofs.Keeping.{Makes, makes-done, makes-tidy}
use Rattle.elab_context.specs.declared.context.Context.{Context}
use Rattle.datatype_forms.specs.Arguments.{OverIf}
use Rattle.datatype_forms.specs.ProgramTypes.{number_by}
use Rattle.datatype_forms.specs.Steps.{AreNamed, IsArgument, IsNaming, IsProgramRow, IsRow, IsStep, KnowsTypes, renamed}
use Rattle.datatype_forms.specs.declared.program_types.Names.{Names}

pub step_on : (S T U : State) → IsStep S T → IsStep T U → IsStep S U
step_on S T U h g = record { grows = grows_on S T U h.grows g.grows; next = g.next ∙ h.next }

pub step_same : (S : State) → IsStep S S
step_same S = record { grows = grows_same S; next = refl }

-- what the solver and the tree have stays, and the program has more
pub record Rowed (S T : State) : Type 0 where
  pub solver : T.solver ≡ S.solver
  pub written : T.written.items ≡ S.written.items
  pub namings : Begins S.namings.items T.namings.items
  pub types : Begins S.tables.types T.tables.types
  pub constructors : Begins S.tables.constructors T.tables.constructors
  pub parameters : parameters_of T.tables ≡ parameters_of S.tables
  pub strings : strings_of T.tables ≡ strings_of S.tables
  pub next : T.next ≡ S.next
  pub level : T.level ≡ S.level
  pub declared : AreConstructors S → AreConstructors T

rowed-makes : (S T : State) → Rowed S T → Makes S T
rowed-makes S T h = solver-makes S T h.solver (λ x. ap (λ ps. in_scope (all_parameters ps) x) h.parameters) h.level

pub rowed_step : (S T : State) → Rowed S T → IsStep S T
rowed_step S T h = record {
  grows = record {
    types = begins-same _ _ (ap (λ s. s.subst.types) h.solver);
    written = begins-same _ _ h.written;
    namings = h.namings;
    lists = begins-same _ _ h.parameters;
    strings = begins-same _ _ h.strings;
    rows = λ y c row e. table-finds S.tables.types T.tables.types S.tables.constructors T.tables.constructors y c row h.types h.constructors S.rows e;
    variables = let e : made T ≡ made S = ap (λ s. length s.subst.slots.items) h.solver in omega (arith, e);
    solves = λ m f s. subst (λ x. Solves m f (said x.subst)) h.solver s;
    limits = λ v lt. same-limit (limit_in T v) (limit_in S v) (ap (λ s. limit_at s.limits.items v) h.solver);
    next = let e = h.next in omega (arith, e);
    level = h.level;
    done = makes-done S T (rowed-makes S T h);
    tidy = makes-tidy S T (rowed-makes S T h);
    constructors = h.declared;
  };
  next = h.next;
}

-- a naming

last-found : {A : Type 0} (xs : List A) (a : A) → slice_get (xs ++ a ∷ []) (length xs) ≡ Some a
last-found [] a = refl
last-found (x ∷ xs) a = last-found xs a

pub naming_pushed : (S T : State) (r : Naming) (k : ℕ) → Rowed S T → T.namings.items ≡ S.namings.items ++ r ∷ [] → k ≡ length S.namings.items → IsNaming S r T k
naming_pushed S T r k h e l =
    let at : slice_get T.namings.items k ≡ Some r = ap₂ slice_get e l ∙ last-found S.namings.items r in
    record { step = rowed_step S T h; among = slice_get_within T.namings.items k r at; is = λ W c. c.namings k r at }

-- one more type name

among-later : (m n : ℕ) (o : Option ℕ) → m ≤ n → IsAmong m o → IsAmong n o
among-later m n None le h = tt
among-later m n (Some k) le h = omega (arith, le, h)

pub longer-than : {A : Type 0} (xs ys : List A) → Begins xs ys → length xs ≤ length ys
longer-than [] ys e = omega arith
longer-than (x ∷ xs) [] e = cc
longer-than (x ∷ xs) (y ∷ ys) e = let h : take (length xs) ys ≡ xs = cc in let k = longer-than xs ys h in omega (arith, k)

eq-sym : (x y : ℕ) → nat_eq x y ≡ nat_eq y x
eq-sym x y = by (nat_eq x y) (nat_eq y x) refl refl
  where
    by : (b c : Bool) → nat_eq x y ≡ b → nat_eq y x ≡ c → nat_eq x y ≡ nat_eq y x
    by true c e f = e ∙ sym (eq-eqb y x (sym (eqb-true x y e)))
    by false true e f = eq-eqb x y (sym (eqb-true y x f)) ∙ sym f
    by false false e f = e ∙ sym f

differs : (k n : ℕ) → nat_lt k n ≡ true → nat_eq n k ≡ false
differs k n e = by (nat_eq n k) refl
  where
    by : (b : Bool) → nat_eq n k ≡ b → nat_eq n k ≡ false
    by true f = let lt = ltb-true k n e in let same = eqb-true n k f in absurd (omega (arith, lt, same))
    by false f = f

found-by : (b : Bool) (n x y z : ℕ) (o : Option ℕ) → y ≡ unwrap_or o x → (if b then n else y) ≡ unwrap_or (cond b (Some n) o) x
found-by true n x y z o e = refl
found-by false n x y z o e = e

pub one_named : (S T : State) (C D : Context) (r : Naming) (k : ℕ) → IsNaming S r T k → r.stamp ≡ C.names → r.before ≡ C.naming → D ≡ renamed C (C.names + 1) (Some k) ((C.names, r.number) ∷ C.numbers)
    → AreNamed S C 1 T D
one_named S T C D r k h st be q = subst (AreNamed S C 1 T) (sym q) (record {
  step = h.step;
  same = refl;
  among = h.among;
  front = record { own = (C.names, r.number) ∷ []; is = refl };
  numbers = λ W c n x.
      h.is W c x ∙ ap₂ (λ s b. if nat_eq s x then r.number else W.naming b x) st be ∙ ap (λ b. if b then r.number else W.naming C.naming x) (eq-sym C.names x)
      ∙ found-by (nat_eq x C.names) r.number x (W.naming C.naming x) 0 (lookup (nat_eq x) C.numbers) (n x);
  agree = λ W c x lt. h.is W c x ∙ ap₂ (λ s b. if nat_eq s x then r.number else W.naming b x) st be ∙ ap (λ b. if b then r.number else W.naming C.naming x) (differs x C.names lt);
})

pub none_named : (S : State) (C : Context) → IsAmong (length S.namings.items) C.naming → AreNamed S C 0 S C
none_named S C a = record {
  step = step_same S;
  same = ap (λ n. renamed C n C.naming C.numbers) (let e : C.names ≡ C.names + 0 = omega arith in e);
  among = a;
  front = record { own = []; is = refl };
  numbers = λ W c n x. n x;
  agree = λ W c x lt. refl;
}

pub more_named : (S T U : State) (C D E : Context) (m n : ℕ) → AreNamed S C m T D → AreNamed T D 1 U E → n ≡ m + 1 → AreNamed S C n U E
more_named S T U C D E m n h g q = record {
  step = step_on S T U h.step g.step;
  same =
      g.same ∙ ap (λ (z : Context). renamed z (z.names + 1) E.naming E.numbers) h.same
      ∙ ap (λ k. renamed C k E.naming E.numbers) (let e : (C.names + m) + 1 ≡ C.names + n = omega (arith, q) in e);
  among = g.among;
  front = record { own = g.front.own ++ h.front.own; is = g.front.is ∙ ap (λ l. g.front.own ++ l) h.front.is ∙ sym (append_assoc g.front.own h.front.own C.numbers) };
  numbers = λ W c k. g.numbers W c (h.numbers W (comes_before T U W g.step.grows c) k);
  agree = λ W c x lt.
      let a : D.names ≡ C.names + m = ap (λ (z : Context). z.names) h.same in
      let l = ltb-true x C.names lt in
      g.agree W c x (lt-ltb x D.names (omega (arith, a, l))) ∙ h.agree W (comes_before T U W g.step.grows c) x lt;
}

-- one more constructor

find-last : (ts : List Typ) (ks : List code.Constructor) (row : code.Constructor) → find (constructors_at ts ks) row.datatype row.number ≡ None
    → find (constructors_at ts (ks ++ row ∷ [])) row.datatype row.number ≡ Some (constructor_at ts row)
find-last ts [] row e =
    ap₂ (λ a b. if a && b then Some (constructor_at ts row) else None) (eq-eqb row.datatype.stamp row.datatype.stamp refl) (eq-eqb row.number row.number refl)
find-last ts (k ∷ ks) row e = by (nat_eq k.datatype.stamp row.datatype.stamp && nat_eq k.number row.number) e (find-last ts ks row)
  where
    by : (b : Bool) → (if b then Some (constructor_at ts k) else find (constructors_at ts ks) row.datatype row.number) ≡ None
        → (find (constructors_at ts ks) row.datatype row.number ≡ None → find (constructors_at ts (ks ++ row ∷ [])) row.datatype row.number ≡ Some (constructor_at ts row))
        → (if b then Some (constructor_at ts k) else find (constructors_at ts (ks ++ row ∷ [])) row.datatype row.number) ≡ Some (constructor_at ts row)
    by true e h = absurd (cc)
    by false e h = h e

pub row_pushed : (S T : State) (row : code.Constructor) → Rowed S T → T.tables.types ≡ S.tables.types → T.tables.constructors ≡ S.tables.constructors ++ row ∷ []
    → find (constructors_at S.tables.types S.tables.constructors) row.datatype row.number ≡ None → IsRow S row T
row_pushed S T row h t e n = record {
  step = rowed_step S T h;
  types = ap (λ s. s.subst.types) h.solver;
  table = t;
  is = λ W c. c.rows row.datatype row.number (constructor_at S.tables.types row)
      (ap₂ (λ ts ks. find (constructors_at ts ks) row.datatype row.number) t e ∙ find-last S.tables.types S.tables.constructors row n);
}

pub none_found : (ts : List Typ) (ks : List code.Constructor) (row : code.Constructor) (o : Option code.Constructor)
    → find (constructors_at ts ks) row.datatype row.number ≡ option_map (constructor_at ts) o → is_some o ≡ false → find (constructors_at ts ks) row.datatype row.number ≡ None
none_found ts ks row None e f = e
none_found ts ks row (Some k) e f = cc

pub rows_push : (b : Bool) (n : ℕ) (ks new : List code.Constructor) (row : code.Constructor) → new ≡ (if b then ks ++ row ∷ [] else ks) → AreHeldRows n ks → IsHeldArgument n row.argument → AreHeldRows n new
rows_push true n ks new row e h a = subst (AreHeldRows n) (sym e) (go ks h)
  where
    go : (ks : List code.Constructor) → AreHeldRows n ks → AreHeldRows n (ks ++ row ∷ [])
    go [] h = (a, tt)
    go (k ∷ ks) h = (h.0, go ks h.1)
rows_push false n ks new row e h a = subst (AreHeldRows n) (sym e) h

pub rows_kept : {A E : Type 0} (r : Result A E) (n : ℕ) (ks new : List code.Constructor) (row : code.Constructor) → OnOk r (new ≡ ks ++ row ∷ []) → OnErr r (new ≡ ks) → AreHeldRows n ks
    → IsHeldArgument n row.argument → AreHeldRows n new
rows_kept (Ok x) n ks new row e f h a = rows_push true n ks new row e h a
rows_kept (Err x) n ks new row e f h a = rows_push false n ks new row f h a

-- the type of its argument

pub argument_made : (S T : State) (ns : Names) (known : ℕ → Option ℕ) (o : Option ℕ) (k n : ℕ) → o ≡ Some k → Rowed S T → KnowsTypes T ns known → slice_get T.tables.types n ≡ Some (type_as (number_by ns.numbers.now) (type_at (types_in S) k))
    → OverIf ns.limit (Some (type_at (types_in S) k)) → IsArgument S ns o T known (Some n)
argument_made S T ns known p k n q h w e o = subst (λ z. IsArgument S ns z T known (Some n)) (sym q) (record {
  step = record { step = rowed_step S T h; types = ap (λ s. s.subst.types) h.solver; knows = w };
  held = slice_get_within T.tables.types n _ e;
  is = ap Some (get_or_from_slice_get T.tables.types n _ (var 0) e);
  over = o;
})

pub no_argument : (S : State) (ns : Names) (known : ℕ → Option ℕ) → KnowsTypes S ns known → IsArgument S ns None S known None
no_argument S ns known w = record {
  step = record { step = step_same S; types = refl; knows = w };
  held = tt;
  is = refl;
  over = tt;
}

pub program_row : (S T U : State) (ns : Names) (known : ℕ → Option ℕ) (y : TyName) (n : ℕ) (o r : Option ℕ) → IsArgument S ns o T known r → IsRow T (record { datatype = y; number = n; argument = r }) U
    → IsProgramRow S ns y n o U known
program_row S T U ns known y n o r a h = record {
  step = record {
    step = step_on S T U a.step.step h.step;
    types = h.types ∙ a.step.types;
    knows = λ k m e.
        let i = a.step.knows k m e in
        (ap (λ ts. slice_get ts m) h.table ∙ i.0 ∙ ap (λ ts. Some (type_as (number_by ns.numbers.now) (type_at ts k))) (sym h.types), subst (λ ts. Rattle.core_rules.specs.Objects.Over ns.limit (type_at ts k)) (sym h.types) i.1);
  };
  is = λ W c. h.is W c ∙ ap (λ q. Some (constructor_of y n q)) a.is;
  over = a.over;
}
