-- Variables at the end: there is just one solution, it keeps all limits, and what the state says comes true in its world.
use Rattle.std.proofs.Common.{◌≡◌, ◌<◌, ◌≤◌, ◌&&◌, ◌||◌, ℕ, zero, suc, Bool, true, false, nat_eq, nat_lt, if◌then◌else◌, List, [], ◌∷◌, ◌++◌, Some, None, refl, sym, ap, subst, ◌∙◌, arith}
use Rattle.std.specs.List.{AllByRecursion}
use Rattle.std.proofs.lemmas.Bool.{and_from, and_parts, eqb-true, lt-ltb, ltb-false}
use Rattle.std.proofs.lemmas.Option.{get_or_from_slice_get}
use Rattle.mlc_names.specs.declared.label.Label.{Label}
use Rattle.ty_core.specs.Types.{Typ, var, con, Typs, none, more, labels, admits}
use Rattle.ty_core.specs.Marks.{Allows, has, is_inhabited}
use Rattle.ty_core.specs.declared.mark.Class.{Class}
use Rattle.ty_core.specs.declared.mark.Mark.{Mark}
use Rattle.ty_core.specs.declared.name.TyName.{TyName}
use Rattle.ty_core.specs.declared.scheme.Quantified.{Quantified}
use Rattle.ty_solve.specs.Limits.{Over, AllOver, Limited, AllLimited, LimitedAt, AreLimited, AreWide}
use Rattle.ty_solve.specs.Rows.{Extends}
use Rattle.ty_solve.specs.Substitution.{Entry, free, bound, row, sub, subs, Meets, Solves, resolved}
use Rattle.ty_solve.specs.Weight.{weight, weights, WeighsAt, IsAcyclic, InhabitedAt, AreInhabited}
use Rattle.ty_solve.specs.SlotsOf.{seen}
use Rattle.ty_solve.specs.declared.limit.Limit.{Limit}
use Rattle.ty_solve.specs.declared.subst.Slot.{Slot}
use Rattle.ty_solve.specs.declared.subst.Slot.TheVariants.{Open, Partial, Full}
use Rattle.ty_table.specs.TypeAt.{type_at}
use Rattle.ty_solve.proofs.Labels.{proper-subs, at-among}
use Rattle.ty_solve.proofs.Lowered.{over-more}
use Rattle.ty_solve.proofs.Sigma.{sigma_of, sigma-resolves, sub-light, subs-light}
use Rattle.ty_solve.proofs.Subs.{sub-sub, subs-sub}
use Rattle.ir_values.specs.Values.{true_number, false_number, nil_number, cons_number}
use Rattle.ty_basis.specs.Types.{name_count, bool_name, list_name, pair_type, list_type}
use Rattle.ir_poly.specs.Types.{in_scope, over, all_over, is_declarable, find, Constructor, IsConstructor, constructor_of, initial_constructors}
use Rattle.ir_tables.specs.Tables.{parameters_of, strings_of}
use Rattle.elab_state.specs.Readings.{type_if}
use Rattle.elab_state.specs.States.{types_in, said_in, limit_in, general_in, table_in, dead_level}
use Rattle.elab_state.specs.declared.state.State.{State}
use Rattle.elab_steps.specs.Ordered.{begins_in_order, is_ordered, are_ordered}
use Rattle.elab_steps.specs.World.{Comes}
use Rattle.elab_worlds.specs.Final.{unit_type, default_of, open_at, final_at, is_parameter, AreConstructors, AreOrdered, IsFinal, IsLast, IsOrdered, is_row, final_world, HasEnd}
use Rattle.elab_worlds.proofs.Coming.{numbers-at}
use Rattle.elab_worlds.proofs.Names.{over-static}

-- the default is of its class
default-has : (c : Class) → is_inhabited (Mark.Class c) ≡ true → has c (default_of c) ≡ true
default-has c h = go c.int c.word c.char c.string refl refl refl refl h
  where
    go : (i w d s : Bool) → c.int ≡ i → c.word ≡ w → c.char ≡ d → c.string ≡ s → (i || (w || (d || s))) ≡ true → has c (if i then 0 else (if w then 1 else (if d then 2 else 3))) ≡ true
    go true w d s p q r u h = p
    go false true d s p q r u h = q
    go false false true s p q r u h = r
    go false false false true p q r u h = u
    go false false false false p q r u h = cc

default-low : (c : Class) → default_of c < 4
default-low c = go c.int c.word c.char
  where
    go : (i w d : Bool) → (if i then 0 else (if w then 1 else (if d then 2 else 3))) < 4
    go true w d = omega arith
    go false true d = omega arith
    go false false true = omega arith
    go false false false = omega arith

-- what is open allows its mark, and uses no other names than the overloaded ones

either-admits : (b : Bool) (v : ℕ) → admits (λ x. true) (if b then var v else unit_type) ≡ true
either-admits true v = refl
either-admits false v = refl

open-allows : (qs : List Quantified) (v : ℕ) (k : Mark) → is_inhabited k ≡ true → Allows k (λ x. true) (open_at qs v k)
open-allows qs v Mark.Any h = tt
open-allows qs v Mark.Equality h = either-admits (in_scope qs v) v
open-allows qs v (Mark.Class c) h = record { number = default_of c; is = refl; held = default-has c h }

either-over : (n : ℕ) (b : Bool) (v : ℕ) → Over n (if b then var v else unit_type)
either-over n true v = tt
either-over n false v = (tt, tt)

open-over : (qs : List Quantified) (n v : ℕ) (k : Mark) → 4 ≤ n → Over n (open_at qs v k)
open-over qs n v Mark.Any le = either-over n (in_scope qs v) v
open-over qs n v Mark.Equality le = either-over n (in_scope qs v) v
open-over qs n v (Mark.Class c) le = let l = default-low c in (lt-ltb (default_of c) n (omega (arith, l, le)), tt)

-- what wasn't generalised has no variable
open-closed : (qs : List Quantified) (v : ℕ) (k : Mark) → in_scope qs v ≡ false → over [] (open_at qs v k) ≡ true
open-closed qs v Mark.Any e = ap (λ b. over [] (if b then var v else unit_type)) e
open-closed qs v Mark.Equality e = ap (λ b. over [] (if b then var v else unit_type)) e
open-closed qs v (Mark.Class c) e = refl

open-itself : (qs : List Quantified) (v : ℕ) (k : Mark) → is_declarable k ≡ true → in_scope qs v ≡ true → open_at qs v k ≡ var v
open-itself qs v Mark.Any d i = ap (λ b. if b then var v else unit_type) i
open-itself qs v Mark.Equality d i = ap (λ b. if b then var v else unit_type) i
open-itself qs v (Mark.Class c) d i = cc

either-ordered : (b : Bool) (v : ℕ) → is_ordered (if b then var v else unit_type) ≡ true
either-ordered true v = refl
either-ordered false v = refl

open-ordered : (qs : List Quantified) (v : ℕ) (k : Mark) → is_ordered (open_at qs v k) ≡ true
open-ordered qs v Mark.Any = either-ordered (in_scope qs v) v
open-ordered qs v Mark.Equality = either-ordered (in_scope qs v) v
open-ordered qs v (Mark.Class c) = refl

-- what is said of a variable that is no row has its labels in order
abbrev is_in_order : Entry → Bool
is_in_order (free k) = true
is_in_order (bound t) = is_ordered t
is_in_order (row e ks us) = false

module _ (s : ℕ → Entry) (a : IsAcyclic s) (qs : List Quantified) where
  -- There is one

  abbrev leaf : ℕ → Entry → Typ
  leaf v (free k) = open_at qs v k
  leaf v (bound t) = unit_type
  leaf v (row e ks us) = unit_type

  abbrev choice : ℕ → Typ
  choice v = leaf v (s v)

  abbrev pub ending : ℕ → Typ
  ending v = sub choice (sigma_of s a v)

  pub ending-is : (v : ℕ) → ending v ≡ final_at qs ending v (s v)
  ending-is v = ap (sub choice) (sigma-resolves s a v) ∙ by (s v) refl
    where
      by : (e : Entry) → s v ≡ e → sub choice (resolved (sigma_of s a) v e) ≡ final_at qs ending v e
      by (free k) is = ap (leaf v) is
      by (bound t) is = sub-sub choice (sigma_of s a) t
      by (row d ks us) is = ap (con (labels ks)) (subs-sub choice (sigma_of s a) us)

  -- And no other

  module _ (f g : ℕ → Typ) (hf : (v : ℕ) → f v ≡ final_at qs f v (s v)) (hg : (v : ℕ) → g v ≡ final_at qs g v (s v)) where
    same-at : (k v : ℕ) (e : Entry) → WeighsAt a.0 (a.0 v) e → a.0 v ≤ k → ((x : ℕ) → a.0 x < k → f x ≡ g x) → final_at qs f v e ≡ final_at qs g v e
    same-at k v (free j) w le again = refl
    same-at k v (bound t) w le again = sub-light a.0 f g (weight a.0 t) (λ x l. again x (omega (arith, l, w, le))) t (omega arith)
    same-at k v (row d ks us) w le again = ap (con (labels ks)) (subs-light a.0 f g (weights a.0 us) (λ x l. again x (omega (arith, l, w, le))) us (omega arith))

    same-by : (k v : ℕ) → a.0 v < k → f v ≡ g v
    same-by zero v lt = absurd (omega (arith, lt))
    same-by (suc k) v lt = hf v ∙ same-at k v (s v) (a.1 v) (omega (arith, lt)) (λ x. same-by k x) ∙ sym (hg v)

    pub endings-same : (v : ℕ) → f v ≡ g v
    endings-same v = same-by (suc (a.0 v)) v (omega arith)

  -- What it solves and keeps

  module _ (g : ℕ → Typ) (h : (v : ℕ) → g v ≡ final_at qs g v (s v)) (inhabited : AreInhabited s) where
    closes : (v : ℕ) (d : Bool) (ks : List Label) (us : Typs) → s v ≡ row d ks us → g v ≡ con (labels ks) (subs g us) → Extends (λ x. true) d ks (subs g us) (g v)
    closes v d ks us e is = record {
      names = ks;
      types = subs g us;
      is = is;
      proper = proper-subs g ks us (subst InhabitedAt e (inhabited v));
      fields = λ l u p. p;
      further = λ i l u p n. absurd (n (at-among l u ks (subs g us) p));
    }

    ending-meets : (v : ℕ) (e : Entry) → s v ≡ e → g v ≡ final_at qs g v e → Meets (λ x. true) g (g v) e
    ending-meets v (free k) e is = subst (Allows k (λ x. true)) (sym is) (open-allows qs v k (subst InhabitedAt e (inhabited v)))
    ending-meets v (bound t) e is = is
    ending-meets v (row d ks us) e is = closes v d ks us e is

    pub ending-solves : Solves (λ x. true) g s
    ending-solves v = ending-meets v (s v) refl (h v)

    module _ (b : ℕ → Limit) (limited : AreLimited b s) where
      -- the names that it uses
      module _ (wide : AreWide b) where
        mutual
          over-type : (k : ℕ) → ((x : ℕ) → a.0 x < k → Over (b x).names (g x)) → (l : Limit) (t : Typ) → weight a.0 t ≤ k → Limited b l t → Over l.names (sub g t)
          over-type k again l (var x) le i = over-more (b x).names l.names i.0 (g x) (again x (omega (arith, le)))
          over-type k again l (con c ts) le i = (i.0, all-over-type k again l ts (omega (arith, le)) i.1)

          all-over-type : (k : ℕ) → ((x : ℕ) → a.0 x < k → Over (b x).names (g x)) → (l : Limit) (ts : Typs) → weights a.0 ts ≤ k → AllLimited b l ts → AllOver l.names (subs g ts)
          all-over-type k again l none le i = tt
          all-over-type k again l (more t ts) le i = (over-type k again l t (omega (arith, le)) i.0, all-over-type k again l ts (omega (arith, le)) i.1)

        over-entry : (k v : ℕ) (e : Entry) → WeighsAt a.0 (a.0 v) e → LimitedAt b (b v) e → a.0 v ≤ k → ((x : ℕ) → a.0 x < k → Over (b x).names (g x)) → Over (b v).names (final_at qs g v e)
        over-entry k v (free j) w i le again = open-over qs (b v).names v j (wide v)
        over-entry k v (bound t) w i le again = over-type k again (b v) t (omega (arith, w, le)) i
        over-entry k v (row d ks us) w i le again = (tt, all-over-type k again (b v) us (omega (arith, w, le)) i)

        over-by : (k v : ℕ) → a.0 v < k → Over (b v).names (g v)
        over-by zero v lt = absurd (omega (arith, lt))
        over-by (suc k) v lt = subst (Over (b v).names) (sym (h v)) (over-entry k v (s v) (a.1 v) (limited v) (omega (arith, lt)) (λ x. over-by k x))

        pub ending-over : (v : ℕ) → Over (b v).names (g v)
        ending-over v = over-by (suc (a.0 v)) v (omega arith)

      -- variables that are in use have no parameter in them, where those that were generalised are done with
      module _ (done : (v : ℕ) → in_scope qs v ≡ true → (b v).level ≡ dead_level) where
        alive-new : (v : ℕ) → (b v).level < dead_level → in_scope qs v ≡ false
        alive-new v lt = by (in_scope qs v) refl
          where
            by : (c : Bool) → in_scope qs v ≡ c → c ≡ false
            by true i = absurd (let d = done v i in omega (arith, d, lt))
            by false i = refl

        mutual
          closed-type : (k : ℕ) → ((x : ℕ) → a.0 x < k → (b x).level < dead_level → over [] (g x) ≡ true) → (l : Limit) (t : Typ) → l.level < dead_level → weight a.0 t ≤ k
              → Limited b l t → over [] (sub g t) ≡ true
          closed-type k again l (var x) lt le i = again x (omega (arith, le)) (let f = i.1 in omega (arith, f, lt))
          closed-type k again l (con c ts) lt le i = all-closed-type k again l ts lt (omega (arith, le)) i.1

          all-closed-type : (k : ℕ) → ((x : ℕ) → a.0 x < k → (b x).level < dead_level → over [] (g x) ≡ true) → (l : Limit) (ts : Typs) → l.level < dead_level → weights a.0 ts ≤ k
              → AllLimited b l ts → all_over [] (subs g ts) ≡ true
          all-closed-type k again l none lt le i = refl
          all-closed-type k again l (more t ts) lt le i =
              and_from (over [] (sub g t)) (all_over [] (subs g ts)) (closed-type k again l t lt (omega (arith, le)) i.0) (all-closed-type k again l ts lt (omega (arith, le)) i.1)

        closed-entry : (k v : ℕ) (e : Entry) → WeighsAt a.0 (a.0 v) e → LimitedAt b (b v) e → (b v).level < dead_level → a.0 v ≤ k
            → ((x : ℕ) → a.0 x < k → (b x).level < dead_level → over [] (g x) ≡ true) → over [] (final_at qs g v e) ≡ true
        closed-entry k v (free j) w i lt le again = open-closed qs v j (alive-new v lt)
        closed-entry k v (bound t) w i lt le again = closed-type k again (b v) t lt (omega (arith, w, le)) i
        closed-entry k v (row d ks us) w i lt le again = all-closed-type k again (b v) us lt (omega (arith, w, le)) i

        closed-by : (k v : ℕ) → a.0 v < k → (b v).level < dead_level → over [] (g v) ≡ true
        closed-by zero v w lt = absurd (omega (arith, w))
        closed-by (suc k) v w lt = ap (over []) (h v) ∙ closed-entry k v (s v) (a.1 v) (limited v) lt (omega (arith, w)) (λ x. closed-by k x)

        pub ending-closed : (v : ℕ) → (b v).level < dead_level → over [] (g v) ≡ true
        ending-closed v lt = closed-by (suc (a.0 v)) v (omega arith) lt

  -- where no variable is a row, and what is said of them is in order, so is it

  module _ (g : ℕ → Typ) (h : (v : ℕ) → g v ≡ final_at qs g v (s v)) (o : (v : ℕ) → is_in_order (s v) ≡ true) where
    mutual
      ordered-type : (k : ℕ) → ((x : ℕ) → a.0 x < k → is_ordered (g x) ≡ true) → (t : Typ) → weight a.0 t ≤ k → is_ordered t ≡ true → is_ordered (sub g t) ≡ true
      ordered-type k again (var x) le i = again x (omega (arith, le))
      ordered-type k again (con c ts) le i =
          let p = and_parts (begins_in_order c) (are_ordered ts) i in
          and_from (begins_in_order c) (are_ordered (subs g ts)) p.0 (all-ordered-type k again ts (omega (arith, le)) p.1)

      all-ordered-type : (k : ℕ) → ((x : ℕ) → a.0 x < k → is_ordered (g x) ≡ true) → (ts : Typs) → weights a.0 ts ≤ k → are_ordered ts ≡ true → are_ordered (subs g ts) ≡ true
      all-ordered-type k again none le i = refl
      all-ordered-type k again (more t ts) le i =
          let p = and_parts (is_ordered t) (are_ordered ts) i in
          and_from (is_ordered (sub g t)) (are_ordered (subs g ts)) (ordered-type k again t (omega (arith, le)) p.0) (all-ordered-type k again ts (omega (arith, le)) p.1)

    ordered-entry : (k v : ℕ) (e : Entry) → WeighsAt a.0 (a.0 v) e → is_in_order e ≡ true → a.0 v ≤ k → ((x : ℕ) → a.0 x < k → is_ordered (g x) ≡ true) → is_ordered (final_at qs g v e) ≡ true
    ordered-entry k v (free j) w i le again = open-ordered qs v j
    ordered-entry k v (bound t) w i le again = ordered-type k again t (omega (arith, w, le)) i
    ordered-entry k v (row d ks us) w i le again = cc

    ordered-by : (k v : ℕ) → a.0 v < k → is_ordered (g v) ≡ true
    ordered-by zero v lt = absurd (omega (arith, lt))
    ordered-by (suc k) v lt = ap is_ordered (h v) ∙ ordered-entry k v (s v) (a.1 v) (o v) (omega (arith, lt)) (λ x. ordered-by k x)

    pub ending-ordered : (v : ℕ) → is_ordered (g v) ≡ true
    ending-ordered v = ordered-by (suc (a.0 v)) v (omega arith)

  -- what was generalised is itself
  pub ending-itself : (g : ℕ → Typ) → ((v : ℕ) → g v ≡ final_at qs g v (s v)) → (v : ℕ) → is_parameter (s v) ≡ true → in_scope qs v ≡ true → g v ≡ var v
  ending-itself g h v p i = h v ∙ by (s v) p
    where
      by : (e : Entry) → is_parameter e ≡ true → final_at qs g v e ≡ var v
      by (free k) d = open-itself qs v k d i
      by (bound t) d = cc
      by (row d ks us) d' = cc

-- a constructor that is declared isn't hidden by those of the basis
behind-initial : (ks : List Constructor) (y : TyName) (c : ℕ) (found : Constructor) → AllByRecursion IsConstructor ks → find ks y c ≡ Some found
    → find (initial_constructors ++ ks) y c ≡ find ks y c
behind-initial ks y c found h e = past (stamp-is ks h e)
  where
    late : (n : ℕ) → nat_lt n name_count ≡ false → name_count ≤ n
    late n q = let a = ltb-false n name_count q in a

    stamp-is : (ks : List Constructor) → AllByRecursion IsConstructor ks → find ks y c ≡ Some found → name_count ≤ y.stamp
    stamp-is [] h e = cc
    stamp-is (k ∷ ks) h e = by (nat_eq k.datatype.stamp y.stamp) (nat_eq k.number c) refl e (stamp-is ks h.1)
      where
        by : (p q : Bool) → nat_eq k.datatype.stamp y.stamp ≡ p → (if p && q then Some k else find ks y c) ≡ Some found → (find ks y c ≡ Some found → name_count ≤ y.stamp) → name_count ≤ y.stamp
        by true true i f again = let a = eqb-true k.datatype.stamp y.stamp i in let b = late k.datatype.stamp h.0.declared in omega (arith, a, b)
        by true false i f again = again f
        by false q i f again = again f

    other : (n : ℕ) → n < name_count → name_count ≤ y.stamp → nat_eq n y.stamp ≡ false
    other n l m = by (nat_eq n y.stamp) refl
      where
        by : (b : Bool) → nat_eq n y.stamp ≡ b → b ≡ false
        by true i = absurd (let a = eqb-true n y.stamp i in omega (arith, a, l, m))
        by false i = refl

    past : name_count ≤ y.stamp → find (initial_constructors ++ ks) y c ≡ find ks y c
    past m =
        let a : Constructor = constructor_of bool_name false_number None in
        let b : Constructor = constructor_of bool_name true_number None in
        let d : Constructor = constructor_of list_name nil_number None in
        let e : Constructor = constructor_of list_name cons_number (Some (pair_type (var 0) (list_type (var 0)))) in
        skip (b ∷ d ∷ e ∷ ks) a (other bool_name.stamp (omega arith) m) ∙ skip (d ∷ e ∷ ks) b (other bool_name.stamp (omega arith) m)
        ∙ skip (e ∷ ks) d (other list_name.stamp (omega arith) m) ∙ skip ks e (other list_name.stamp (omega arith) m)
      where
        skip : (rest : List Constructor) (k : Constructor) → nat_eq k.datatype.stamp y.stamp ≡ false → find (k ∷ rest) y c ≡ find rest y c
        skip rest k i = ap (λ b. if b && nat_eq k.number c then Some k else find rest y c) i

-- of a state

pub final-comes : (S : State) (l : ℕ) → IsLast S l → AreConstructors S → (g : ℕ → Typ) → IsFinal S g → (o : AreOrdered g) → Comes S (final_world S g o)
final-comes S l t k g h o = record {
  solves = ending-solves (said_in S) acyclic (general_in S) g h S.solver.subst.inhabited;
  names = λ v lt. over-static (limit_in S v).names (g v)
      (ending-over (said_in S) acyclic (general_in S) g h S.solver.subst.inhabited (limit_in S) S.solver.limited S.solver.wide v);
  within = λ v lt alive. ending-closed (said_in S) acyclic (general_in S) g h S.solver.subst.inhabited (limit_in S) S.solver.limited t.tidy.done v alive;
  itself = λ v i. ending-itself (said_in S) acyclic (general_in S) g h v (t.parameters v i) i;
  apart = λ j v i. cc;
  types = λ j lt. refl;
  written = λ j w e. ap (type_if (types_in S) g S.namings.items) e;
  namings = λ j r e x. numbers-at S.namings.items j r x S.ordered e;
  lists = λ j qs e. get_or_from_slice_get (parameters_of S.tables) j qs [] e;
  strings = λ j s e. get_or_from_slice_get (strings_of S.tables) j s [] e;
  rows = λ y c found e. behind-initial (table_in S) y c found k e ∙ e;
}
  where
    acyclic : IsAcyclic (said_in S)
    acyclic = S.solver.subst.acyclic

-- what the slots say
said-in-order : (ts : List Typ) → ((k : ℕ) → is_ordered (type_at ts k) ≡ true) → (os : List Slot) → ((v : ℕ) → is_row (seen ts os v) ≡ false) → (v : ℕ) → is_in_order (seen ts os v) ≡ true
said-in-order ts h [] n v = refl
said-in-order ts h (Open k ∷ os) n zero = refl
said-in-order ts h (Full k ∷ os) n zero = h k
said-in-order ts h (Partial r ∷ os) n zero = let e = n 0 in cc
said-in-order ts h (o ∷ os) n (suc v) = said-in-order ts h os (λ x. n (suc x)) v

pub finals-ordered : (S : State) → IsOrdered S → (g : ℕ → Typ) → IsFinal S g → AreOrdered g
finals-ordered S o g h =
    ending-ordered (said_in S) S.solver.subst.acyclic (general_in S) g h (said-in-order (types_in S) o.types S.solver.subst.slots.items o.settled)

pub state-ends : (S : State) (l : ℕ) → IsLast S l → AreConstructors S → IsOrdered S → HasEnd S
state-ends S l t k o =
    let g = ending (said_in S) S.solver.subst.acyclic (general_in S) in
    let h = ending-is (said_in S) S.solver.subst.acyclic (general_in S) in
    let up = finals-ordered S o g h in
    record {
      values = g;
      final = h;
      only = λ f i. endings-same (said_in S) S.solver.subst.acyclic (general_in S) f g i h;
      ordered = up;
      comes = final-comes S l t k g h up;
    }
