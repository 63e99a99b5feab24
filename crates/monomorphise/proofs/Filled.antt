-- The table of copies is one of the program, and has what they want.
use Rattle.std.proofs.Common.{◌≡◌, ℕ, zero, suc, Bool, true, false, ◌&&◌, ◌⊎◌, inl, inr, List, [], ◌∷◌, ◌++◌, Option, Some, None, nat_eq, nat_lt, slice_get, if◌then◌else◌, refl, sym, ap, subst, ◌∙◌, arith}
use Rattle.std.proofs.lemmas.Bool.{lt-ltb, ltb-false, eqb-true}
use Rattle.std.specs.List.{AllByRecursion}
use Rattle.std.specs.Prelude.{⊤}
use Rattle.ty_core.specs.Types as typ
use Rattle.ty_core.specs.Types.{Symbol, arrow, labels, name, Typ, var, con, Typs, typs_of, allowed, attribute}
use Rattle.ty_core.specs.declared.name.TyName.{TyName}
use Rattle.ty_core.specs.declared.name.Equality.{Equality}
use Rattle.ty_core.specs.declared.name.Equality.TheVariants.{Always, ByArguments}
use Rattle.ir_mono.specs.of_ir_plain.Tree.{Case, is_literal, is_con, is_con_of, is_exn, is_exn_of, is_record, Exp, ret, let_in, exception_in, name_in, rec_in, switch, first, miss, counted, Arms, no_arms, arm, Op, use_of, const, con_alone, construct, ref_alone, refer, content, pack, make_record, select, prim_alone, prim, app, fn, block, handle, raise, raise_initial, Fun, last, more as more_of, Funs, no_funs, fun}
use Rattle.ir_mono.specs.of_ir_values.Values.{false_number, true_number, nil_number, cons_number, truth_number}
use Rattle.ir_mono.specs.of_ir_poly.Types.{Constructor, constructor_of, find, list_name, pair_type, list_type, bool_name, exn_name, initial_constructors, IsConstructor}
use Rattle.ir_mono.specs.of_ir_poly.TestsChecked.{HasConstructor}
use Rattle.ir_mono.specs.Types.{Row, Node, node, node_at, constructor_at, admits, unit_number, Is, IsComparable, records_are, named_are, admit_none, Stands, stands_con, IsTable}
use Rattle.monomorphise.specs.Monomorphise.{Named}
use Rattle.monomorphise.specs.Number.{Known, Lists, CaseKnown, AllKnown, ArmsKnown, OpKnown, FunKnown, FunsKnown, ArgumentKnown}
use Rattle.monomorphise.specs.Simple.{IsType, all_flagged, AllThere, none_there, ArgumentIs, argument_is_none, IsTableOf}
use Rattle.monomorphise.specs.Table.{Wanted, a_type, a_constructor, wanted_if, case_wanted, wanted, arms_wanted, op_wanted, fun_wanted, funs_wanted, number_in, place_type, enter_at, enter, enter_all, first_types, types_for}
use Rattle.monomorphise.proofs.Tables.{stands-moved}
use Rattle.monomorphise.proofs.Placed.{There, IsExact, TypePlaced, type-placed, number-found}
use Rattle.monomorphise.proofs.Entered.{Keeps, keeps-itself, keeps-then, longer-keeps, IsListable, AreListable, Tried, entered-tried, entered-listed}

pub all-front : {A : Type 0} (P : A → Type 0) (xs ys : List A) → AllByRecursion P (xs ++ ys) → AllByRecursion P xs
all-front P [] ys h = tt
all-front P (x ∷ xs) ys h = (h.0, all-front P xs ys h.1)

pub all-back : {A : Type 0} (P : A → Type 0) (xs ys : List A) → AllByRecursion P (xs ++ ys) → AllByRecursion P ys
all-back P [] ys h = h
all-back P (x ∷ xs) ys h = all-back P xs ys h.1

pub all-join : {A : Type 0} (P : A → Type 0) (xs ys : List A) → AllByRecursion P xs → AllByRecursion P ys → AllByRecursion P (xs ++ ys)
all-join P [] ys h k = k
all-join P (x ∷ xs) ys h k = (h.0, all-join P xs ys h.1 k)

-- a constructor is one of the program
abbrev pub Has : List Constructor → Wanted → Type 0
Has constructors (a_type t) = ⊤
Has constructors (a_constructor t c) = (a : Option Typ) × HasConstructor constructors c t a

-- what is wanted is there
abbrev pub Got : List Row → Wanted → Type 0
Got types (a_type t) = (n : ℕ) × IsType types n t
Got types (a_constructor t c) = (n : ℕ) × IsType types n t × ((a : Option ℕ) × (constructor_at types n c ≡ Some a))

got-kept : {a b : List Row} → Keeps a b → (w : Wanted) → Got a w → Got b w
got-kept {a} {b} h (a_type t) g = (g.0, stands-moved a b h.nodes g.1)
got-kept {a} {b} h (a_constructor t c) g = (g.0, stands-moved a b h.nodes g.1, (g.2.0, h.lists g.0 c g.2.0 g.2.1))

-- what a type that is no variable begins with
node-of : {types : List Row} {s : ℕ → ℕ} {n : ℕ} {h : Symbol} {ts : Typs} → Stands types s n (con h ts) → (ps : List ℕ) × Is types n h ps
node-of (stands_con {ns = ps} i is) = (ps, i)

module _ (constructors : List Constructor) (listable : AreListable constructors) where
  record One (types types' : List Row) (w : Wanted) : Type 0 where
    exact : IsExact constructors types'
    keeps : Keeps types types'
    got : Got types' w

  unit-there : (types : List Row) → IsExact constructors types → (v : ℕ) → There types unit_number
  unit-there types x v = (node (labels []) [], x.of.sound.unit)

  one-entered : (types : List Row) → IsExact constructors types → (w : Wanted) → Has constructors w → One types (enter constructors types w) w
  one-entered types x (a_type t) h =
      let p = type-placed constructors (λ v. unit_number) types x (unit-there types x) t in
      record { exact = p.exact; keeps = longer-keeps p.longer; got = ((place_type (λ v. unit_number) types t).1, p.stands) }
  one-entered types x (a_constructor t c) h =
      let q = place_type (λ v. unit_number) types t in
      let p = type-placed constructors (λ v. unit_number) types x (unit-there types x) t in
      let tried = entered-tried constructors listable q.0 q.1 c p.exact (slice_get q.0 q.1) refl in
      let k = node-of (subst (Stands q.0 (λ v. unit_number) q.1) h.1.type p.stands) in
      record {
        exact = tried.exact;
        keeps = keeps-then (longer-keeps p.longer) tried.keeps;
        got = (q.1, stands-moved _ _ tried.keeps.nodes p.stands, entered-listed constructors listable q.0 q.1 c h.1.datatype k.0 h.1.row p.exact h.1.found h.1.same k.1 (slice_get q.0 q.1) refl);
      }

  pub record Every (types types' : List Row) (ws : List Wanted) : Type 0 where
    pub exact : IsExact constructors types'
    pub keeps : Keeps types types'
    pub got : AllByRecursion (Got types') ws

  pub all-entered : (types : List Row) → IsExact constructors types → (ws : List Wanted) → AllByRecursion (Has constructors) ws → Every types (enter_all constructors types ws) ws
  all-entered types x [] h = record { exact = x; keeps = keeps-itself types; got = tt }
  all-entered types x (w ∷ ws) h =
      let o = one-entered types x w h.0 in
      let e = all-entered (enter constructors types w) o.exact ws h.1 in
      record { exact = e.exact; keeps = keeps-then o.keeps e.keeps; got = (got-kept e.keeps w o.got, e.got) }

-- The constructors of a program, and of the basis, may be listed.

program-listable : (k : Constructor) → IsConstructor k → IsListable k
program-listable k h = record {
  declared = lt-ltb 5 k.datatype.stamp (let past = ltb-false k.datatype.stamp 8 h.declared in omega (arith, past));
  equality = h.equality;
  admits = h.admits;
}

some-is : {A : Type 0} {a b : A} → Some a ≡ Some b → a ≡ b
some-is e = cc

found-listable : (ks : List Constructor) → AllByRecursion IsListable ks → (y : TyName) (c : ℕ) (k : Constructor) → find ks y c ≡ Some k → IsListable k
found-listable [] h y c k e = absurd (cc)
found-listable (j ∷ ks) h y c k e = go (nat_eq j.datatype.stamp y.stamp && nat_eq j.number c) e (found-listable ks h.1 y c k)
  where
    go : (b : Bool) → (if b then Some j else find ks y c) ≡ Some k → (find ks y c ≡ Some k → IsListable k) → IsListable k
    go true d rest = subst IsListable (some-is d) h.0
    go false d rest = rest d

all-listable : (ks : List Constructor) → AllByRecursion IsConstructor ks → AllByRecursion IsListable ks
all-listable [] h = tt
all-listable (k ∷ ks) h = (program-listable k h.0, all-listable ks h.1)

no-attribute : ByArguments ≡ Always → ⊥
no-attribute e = cc

alone-listable : (y : TyName) (c : ℕ) → nat_lt 5 y.stamp ≡ true → (y.equality ≡ Always → ⊥) → IsListable (constructor_of y c None)
alone-listable y c d e = record { declared = d; equality = e; admits = λ a n q. absurd (cc) }

cell-listable : IsListable (constructor_of list_name cons_number (Some (pair_type (var 0) (list_type (var 0)))))
cell-listable = record { declared = refl; equality = no-attribute; admits = λ a e q. subst (λ z. typ.admits (λ i. true) z ≡ true) (some-is e) refl }

pub table-listable : (ks : List Constructor) → AllByRecursion IsConstructor ks → AreListable (initial_constructors ++ ks)
table-listable ks h =
    found-listable (initial_constructors ++ ks)
    (alone-listable bool_name false_number refl no-attribute, (alone-listable bool_name true_number refl no-attribute, (alone-listable list_name nil_number refl no-attribute, (cell-listable, all-listable ks h))))

-- What comes first is a table of the program.

module _ (ks : List Constructor) where
  abbrev constructors : List Constructor
  constructors = initial_constructors ++ ks

  first-once : (n m : ℕ) (k : Node) → node_at first_types n ≡ Some k → node_at first_types m ≡ Some k → n ≡ m
  first-once zero zero k e d = refl
  first-once zero (suc zero) k e d = absurd (let same : labels [] ≡ name bool_name = cc in cc)
  first-once zero (suc (suc zero)) k e d = absurd (let same : labels [] ≡ name exn_name = cc in cc)
  first-once zero (suc (suc (suc m))) k e d = absurd (cc)
  first-once (suc zero) zero k e d = absurd (let same : labels [] ≡ name bool_name = cc in cc)
  first-once (suc zero) (suc zero) k e d = refl
  first-once (suc zero) (suc (suc zero)) k e d = absurd (other-names (let same : bool_name ≡ exn_name = cc in same))
    where
      other-names : bool_name ≡ exn_name → ⊥
      other-names e = let stamps : 6 ≡ 5 = ap (λ z. z.stamp) e in omega (arith, stamps)
  first-once (suc zero) (suc (suc (suc m))) k e d = absurd (cc)
  first-once (suc (suc zero)) zero k e d = absurd (let same : labels [] ≡ name exn_name = cc in cc)
  first-once (suc (suc zero)) (suc zero) k e d = absurd (other-names (let same : bool_name ≡ exn_name = cc in same))
    where
      other-names : bool_name ≡ exn_name → ⊥
      other-names e = let stamps : 6 ≡ 5 = ap (λ z. z.stamp) e in omega (arith, stamps)
  first-once (suc (suc zero)) (suc (suc zero)) k e d = refl
  first-once (suc (suc zero)) (suc (suc (suc m))) k e d = absurd (cc)
  first-once (suc (suc (suc n))) m k e d = absurd (cc)

  first-datatypes : (n c : ℕ) (a : Option ℕ) → constructor_at first_types n c ≡ Some a → (y : TyName) × (ps : List ℕ) × Is first_types n (name y) ps × (nat_lt 5 y.stamp ≡ true)
  first-datatypes zero c a e = absurd (cc)
  first-datatypes (suc zero) c a e = (bool_name, [], refl, refl)
  first-datatypes (suc (suc zero)) c a e = absurd (cc)
  first-datatypes (suc (suc (suc n))) c a e = absurd (cc)

  -- truth values have no arguments
  listed-truth : (c : ℕ) (a : Option ℕ) → constructor_at first_types 1 c ≡ Some a → (a ≡ None) × ((c ≡ false_number) ⊎ (c ≡ true_number))
  listed-truth c a e = go (nat_eq c false_number) (nat_eq c true_number) refl refl e
    where
      go : (t u : Bool) → nat_eq c false_number ≡ t → nat_eq c true_number ≡ u → (if t then Some None else (if u then Some None else None)) ≡ Some a → (a ≡ None) × ((c ≡ false_number) ⊎ (c ≡ true_number))
      go true u d f e = (sym (some-is e), inl (eqb-true c false_number d))
      go false true d f e = (sym (some-is e), inr (eqb-true c true_number f))
      go false false d f e = absurd (cc)

  first-truths : (b : Bool) → constructor_at first_types 1 (truth_number b) ≡ Some None
  first-truths true = refl
  first-truths false = refl

  first-comparable : (n : ℕ) → admits first_types n ≡ true → IsComparable first_types n
  first-comparable zero e = records_are {ls = []} {ps = []} refl admit_none
  first-comparable (suc zero) e = named_are {y = bool_name} {ps = []} refl (λ d. let stamps : 6 ≡ 5 = ap (λ z. z.stamp) d in omega (arith, stamps))
      (λ c a h. let none = (listed-truth c (Some a) h).0 in absurd (cc))
  first-comparable (suc (suc zero)) e = absurd (cc)
  first-comparable (suc (suc (suc n))) e = absurd (cc)

  first-sound : IsTable first_types
  first-sound = record { once = first-once; unit = refl; bool = refl; truths = first-truths; datatypes = first-datatypes; comparable = first-comparable }

  first-closed : (n : ℕ) (h : Symbol) (ps : List ℕ) → Is first_types n h ps → AllThere first_types ps
  first-closed zero h ps e = subst (AllThere first_types) (let same : [] ≡ ps = cc in same) none_there
  first-closed (suc zero) h ps e = subst (AllThere first_types) (let same : [] ≡ ps = cc in same) none_there
  first-closed (suc (suc zero)) h ps e = subst (AllThere first_types) (let same : [] ≡ ps = cc in same) none_there
  first-closed (suc (suc (suc n))) h ps e = absurd (cc)

  no-packets : (h : Symbol) (b : Bool) → name exn_name ≡ h → allowed (attribute h) b ≡ true → ⊥
  no-packets h b e f = let none : allowed (attribute (name exn_name)) b ≡ true = subst (λ z. allowed (attribute z) b ≡ true) (sym e) f in cc

  first-equality : (n : ℕ) (h : Symbol) (ps : List ℕ) → Is first_types n h ps → allowed (attribute h) (all_flagged first_types ps) ≡ true → admits first_types n ≡ true
  first-equality zero h ps e f = refl
  first-equality (suc zero) h ps e f = refl
  first-equality (suc (suc zero)) h ps e f = absurd (no-packets h _ (let same : name exn_name ≡ h = cc in same) f)
  first-equality (suc (suc (suc n))) h ps e f = absurd (cc)

  first-flags : (n : ℕ) (h : Symbol) (ps : List ℕ) → Is first_types n h ps → admits first_types n ≡ true → allowed (attribute h) (all_flagged first_types ps) ≡ true
  first-flags zero h ps e f = flag (labels []) h ps (let same : labels [] ≡ h = cc in same) (let same : [] ≡ ps = cc in same) refl
    where
      flag : (g h : Symbol) (ps : List ℕ) → g ≡ h → [] ≡ ps → allowed (attribute g) true ≡ true → allowed (attribute h) (all_flagged first_types ps) ≡ true
      flag g h ps e d f = subst (λ z. allowed (attribute z) (all_flagged first_types ps) ≡ true) e (subst (λ z. allowed (attribute g) (all_flagged first_types z) ≡ true) d f)
  first-flags (suc zero) h ps e f = flag (name bool_name) h ps (let same : name bool_name ≡ h = cc in same) (let same : [] ≡ ps = cc in same) refl
    where
      flag : (g h : Symbol) (ps : List ℕ) → g ≡ h → [] ≡ ps → allowed (attribute g) true ≡ true → allowed (attribute h) (all_flagged first_types ps) ≡ true
      flag g h ps e d f = subst (λ z. allowed (attribute z) (all_flagged first_types ps) ≡ true) e (subst (λ z. allowed (attribute g) (all_flagged first_types z) ≡ true) d f)
  first-flags (suc (suc zero)) h ps e f = absurd (cc)
  first-flags (suc (suc (suc n))) h ps e f = absurd (cc)

  false-found : find constructors bool_name false_number ≡ Some (constructor_of bool_name false_number None)
  false-found = refl

  true-found : find constructors bool_name true_number ≡ Some (constructor_of bool_name true_number None)
  true-found = refl

  truth-found : (c : ℕ) (k : Constructor) → (c ≡ false_number) ⊎ (c ≡ true_number) → find constructors bool_name c ≡ Some k → k.argument ≡ None
  truth-found c k (inl d) e = sym (ap (λ z. z.argument) (some-is (sym false-found ∙ ap (find constructors bool_name) (sym d) ∙ e)))
  truth-found c k (inr d) e = sym (ap (λ z. z.argument) (some-is (sym true-found ∙ ap (find constructors bool_name) (sym d) ∙ e)))

  first-arguments : (n c : ℕ) (y : TyName) (ps : List ℕ) (k : Constructor) (a : Option ℕ) → Is first_types n (name y) ps → find constructors y c ≡ Some k → k.datatype ≡ y → constructor_at first_types n c ≡ Some a → ArgumentIs first_types ps k.argument a
  first-arguments zero c y ps k a e f d h = absurd (cc)
  first-arguments (suc zero) c y ps k a e f d h =
      let t = listed-truth c a h in let names : y ≡ bool_name = cc in
      subst (ArgumentIs first_types ps k.argument) (sym t.0) (subst (λ z. ArgumentIs first_types ps z None) (sym (truth-found c k t.1 (subst (λ z. find constructors z c ≡ Some k) names f))) argument_is_none)
  first-arguments (suc (suc zero)) c y ps k a e f d h = absurd (cc)
  first-arguments (suc (suc (suc n))) c y ps k a e f d h = absurd (cc)

  pub first-exact : IsExact constructors first_types
  first-exact = record {
    of = record { sound = first-sound; exceptions = (2, refl); closed = first-closed; equality = first-equality; arguments = first-arguments };
    flags = first-flags;
  }

-- A table that has what copies want knows their types.

module _ (types : List Row) (table : IsTable types) where
  abbrev index : Typ → ℕ
  index = number_in types

  known : (t : Typ) → Got types (a_type t) → Known types index t
  known t g = subst (λ n. IsType types n t) (sym (number-found types table t g.1)) g.1

  lists : (t : Typ) (c : ℕ) → Got types (a_constructor t c) → Lists types index t c
  lists t c g = (g.2.0, subst (λ n. constructor_at types n c ≡ Some g.2.0) (sym (number-found types table t g.1)) g.2.1)

  argument-known : (t : Option Typ) (ws : List Wanted) → AllByRecursion (Got types) (wanted_if t ws) → ArgumentKnown types index t × AllByRecursion (Got types) ws
  argument-known None ws h = (tt, h)
  argument-known (Some t) ws h = (known t h.0, h.1)

  case-known : (u : Typ) (c : Case Named) → AllByRecursion (Got types) (case_wanted u c) → CaseKnown types index u c
  case-known u (is_literal l) h = tt
  case-known u (is_con c) h = lists u c h.0
  case-known u (is_con_of c k t) h = (lists u c h.0, known t h.1.0)
  case-known u (is_exn j) h = tt
  case-known u (is_exn_of j k t) h = known t h.0
  case-known u (is_record size) h = tt

  mutual
    pub all-known : (e : Exp Named) → AllByRecursion (Got types) (wanted e) → AllKnown types index e
    all-known (ret k) h = tt
    all-known (let_in k u t o e) h = (known t h.0, op-known o (all-front (Got types) (op_wanted o) (wanted e) h.1), all-known e (all-back (Got types) (op_wanted o) (wanted e) h.1))
    all-known (exception_in k i t e) h = let a = argument-known t (wanted e) h in (a.0, all-known e a.1)
    all-known (name_in k j e) h = all-known e h
    all-known (rec_in u fs e) h = (funs-known fs (all-front (Got types) (funs_wanted fs) (wanted e) h), all-known e (all-back (Got types) (funs_wanted fs) (wanted e) h))
    all-known (switch k t arms) h = (known t h.0, arms-known t arms h.1)
    all-known (first e d) h = (all-known e (all-front (Got types) (wanted e) (wanted d) h), all-known d (all-back (Got types) (wanted e) (wanted d) h))
    all-known miss h = tt
    all-known (counted n e) h = all-known e h

    arms-known : (u : Typ) (arms : Arms Named) → AllByRecursion (Got types) (arms_wanted u arms) → ArmsKnown types index u arms
    arms-known u no_arms h = tt
    arms-known u (arm c e arms) h =
        let k = all-back (Got types) (case_wanted u c) (wanted e ++ arms_wanted u arms) h in
        (case-known u c (all-front (Got types) (case_wanted u c) (wanted e ++ arms_wanted u arms) h), all-known e (all-front (Got types) (wanted e) (arms_wanted u arms) k), arms-known u arms (all-back (Got types) (wanted e) (arms_wanted u arms) k))

    op-known : (o : Op Named) → AllByRecursion (Got types) (op_wanted o) → OpKnown types index o
    op-known (use_of k) h = tt
    op-known (const l) h = tt
    op-known (con_alone c t) h = (known t h.0, lists t c h.1.0)
    op-known (construct m c t k) h = (known t h.0, lists t c h.1.0)
    op-known (ref_alone t) h = known t h.0
    op-known (refer m t k) h = known t h.0
    op-known (content t k) h = known t h.0
    op-known (pack m t j k) h = known t h.0
    op-known (make_record t row) h = known t h.0
    op-known (select t l k) h = known t h.0
    op-known (prim_alone p t) h = known t h.0
    op-known (prim m p t as_) h = known t h.0
    op-known (app place j k) h = tt
    op-known (fn f) h = fun-known f h
    op-known (block e) h = all-known e h
    op-known (handle e k d) h = (all-known e (all-front (Got types) (wanted e) (wanted d) h), all-known d (all-back (Got types) (wanted e) (wanted d) h))
    op-known (raise k) h = tt
    op-known (raise_initial i) h = tt

    fun-known : (f : Fun Named) → AllByRecursion (Got types) (fun_wanted f) → FunKnown types index f
    fun-known (last k t e) h = (known t h.0, all-known e h.1)
    fun-known (more_of k t f) h = (known t h.0, fun-known f h.1)

    funs-known : (fs : Funs Named) → AllByRecursion (Got types) (funs_wanted fs) → FunsKnown types index fs
    funs-known no_funs h = tt
    funs-known (fun k t f fs) h = (known t h.0, fun-known f (all-front (Got types) (fun_wanted f) (funs_wanted fs) h.1), funs-known fs (all-back (Got types) (fun_wanted f) (funs_wanted fs) h.1))
