-- In a well typed program all functions of each type are a solution: one case a construct.
use Rattle.std.proofs.Common.{◌≡◌, ℕ, Bool, true, false, List, [], ◌∷◌, ◌++◌, length, Option, Some, nat_eq, if◌then◌else◌, refl, sym, ap, subst, ◌∙◌}
use Rattle.std.specs.Prelude.{option_and_then}
use Rattle.mlc_names.specs.declared.label.Label.{Label}
use Rattle.mlc_names.specs.declared.label.Label.TheVariants.{Number, Word}
use Rattle.mlc_prims.specs.declared.basis.BasisPrimitive.{BasisPrimitive}
use Rattle.mlc_prims.specs.declared.basis.BasisPrimitive.TheVariants.{Assign}
use Rattle.ty_core.specs.Types.{labels, typs_of}
use Rattle.ir_mono.specs.of_ir_values.Primitives as prims
use Rattle.ir_mono.specs.of_ir_values.Primitives.{compares, assigns, prints, computes}
use Rattle.ir_mono.specs.of_ir_values.Values.{same_label}
use Rattle.ir_mono.specs.of_ir_plain.Tree.{Case, Atoms, Row, Exp, Arms, Op, Fun, last, more, Funs, no_funs, fun}
use Rattle.ir_mono.specs.of_ir_poly.Types.{prim_type}
use Rattle.ir_mono.specs.Types as table
use Rattle.ir_mono.specs.Types.{Node, node, node_at, Is, IsFunction, part, part_of, AreDistinct, distinct_none, distinct_more, IsOther, other_none, other_more, AllStand, stand_none, stand_more, stands_var}
use Rattle.ir_mono.specs.Mono.{mono}
use Rattle.ir_mono.specs.Typing as tt
use Rattle.ir_mono.specs.Typing.{Sort, of_type, exception, Sorts, sort_of, group_sorts, PrimAt, AtomsTyped, an_atom_typed, no_atoms_typed, RowTyped, no_row_typed, a_row_typed, CaseTyped, literal_typed, con_typed, con_of_typed, exn_typed, exn_of_typed, record_typed, FunTyped, t_last, t_more, FunsTyped, t_no_funs, t_fun}
use Rattle.flow_sets.specs.Member.{is_in, Within}
use Rattle.flow_sets.specs.Flow.{Flow, number_of, Connects, SolvesRow, SolvesPrim, SolvesCase, Solves, SolvesArms, SolvesOp, SolvesFun, SolvesFuns}
use Rattle.flow_sets.specs.ByType.{What, value, name, parameter, Bound, bound_in, nothing, or_nothing, takes, gives, type_of, result_of, type_at, bound_case, bound, bound_arms, bound_op, bound_fun, bound_funs}
use Rattle.flow_sets.proofs.Member.{nat_eq-to, nat_eq-same, within-same, within-further, in-none}
use Rattle.flow_sets.proofs.Sets.{AllKnown, known-left, known-right, sets, of, same-type, of-nothing, in-set, of-set}

module _ (types : List table.Row) (all : List Bound) (known : AllKnown all all) where
  abbrev pub F : Flow
  F = record { sets = sets types all; number = type_at types all }

  abbrev pub S : ℕ → List ℕ
  S = of types all

  abbrev pub V : ℕ → ℕ
  V x = type_of types (bound_in x all)

  -- what comes to a variable is within what its type has
  abbrev pub Fits : Sort → ℕ → Type 0
  Fits (of_type t) x = Within (S (V x)) (S t)
  Fits (exception a) x = Within (S (V x)) []

  pub record Agrees (G : Sorts) : Type 0 where
    pub fits : (x : ℕ) (s : Sort) → sort_of G x ≡ Some s → Fits s x

  agrees-at : (G : Sorts) (x : ℕ) (s : Sort) → Fits s x → Agrees G → (y : ℕ) (r : Sort) (b : Bool) → nat_eq y x ≡ b → (if b then Some s else sort_of G y) ≡ Some r → Fits r y
  agrees-at G x s h g y r true q e = subst (λ z. Fits r z) (sym (nat_eq-to y x q)) (subst (λ z. Fits z x) (cc) h)
  agrees-at G x s h g y r false q e = g.fits y r e

  agrees-more : {G : Sorts} (x : ℕ) (s : Sort) → Fits s x → Agrees G → Agrees ((x, s) ∷ G)
  agrees-more {G} x s h g = record { fits = λ y r e. agrees-at G x s h g y r (nat_eq y x) refl e }

  -- what is bound as
  has-type : (x : ℕ) {b : Bound} (w : What) {t : ℕ} → bound_in x all ≡ Some b → b.what ≡ w → type_of types (Some (record { variable = x; what = w })) ≡ t → V x ≡ t
  has-type x {b} w {t} e q h = ap (type_of types) e ∙ (ap (λ z. type_of types (Some (record { variable = x; what = z }))) q ∙ h)

  has-result : (x : ℕ) {b : Bound} (w : What) {t : ℕ} → bound_in x all ≡ Some b → b.what ≡ w → result_of types (Some (record { variable = x; what = w })) ≡ t → result_of types (bound_in x all) ≡ t
  has-result x {b} w {t} e q h = ap (result_of types) e ∙ (ap (λ z. result_of types (Some (record { variable = x; what = z }))) q ∙ h)

  of-name : (x : ℕ) → V x ≡ length types → Within (S (V x)) []
  of-name x e = within-same (ap S e ∙ of-nothing types all)

  nothing-in : (x t : ℕ) → V x ≡ length types → Within (S (V x)) (S t)
  nothing-in x t e = within-further (of-name x e) in-none

  takes-is : (t : ℕ) {a b : ℕ} → IsFunction types t a b → takes types (node_at types t) ≡ a
  takes-is t e = ap (takes types) e

  gives-is : (t : ℕ) {a b : ℕ} → IsFunction types t a b → gives types (node_at types t) ≡ b
  gives-is t e = ap (gives types) e

  part-is : (u t : ℕ) (l : Label) {ls : List Label} {ts : List ℕ} → Is types u (labels ls) ts → part l ls ts ≡ Some t → or_nothing types (option_and_then (part_of l) (node_at types u)) ≡ t
  part-is u t l e h = ap (λ o. or_nothing types (option_and_then (part_of l) o)) e ∙ ap (or_nothing types) h

  argument-is : (t c a : ℕ) → table.constructor_at types t c ≡ Some (Some a) → or_nothing types (option_and_then (λ o. o) (table.constructor_at types t c)) ≡ a
  argument-is t c a e = ap (λ o. or_nothing types (option_and_then (λ o. o) o)) e

  connects : (u a t : ℕ) (fs as_ : List ℕ) → IsFunction types u a t → Within fs (S u) → Within as_ (S a) → Connects types F fs as_ (S t)
  connects u a t fs as_ e f g k i =
      let p = of-set types all u k known e (f.all k i) in (
        within-further g (same-type types all (sym (has-type k (parameter u) p.found p.is (takes-is u e)))),
        same-type types all (has-result k (parameter u) p.found p.is (gives-is u e)),
      )

  function-there : (t : ℕ) {a b : ℕ} (f : Fun (mono types)) → IsFunction types t a b → AllKnown all (bound_fun types t f) → is_in (number_of types f) (S t) ≡ true
  function-there t (last x u e) i k = in-set types all t x _ i k.0 refl
  function-there t (more x u f) i k = in-set types all t x _ i k.0 refl

  function-of : {G : Sorts} {f : Fun (mono types)} {t : ℕ} → FunTyped types G f t → (a : ℕ) × (b : ℕ) × IsFunction types t a b
  function-of (t_last {a = a} {b = b} e h) = (a, b, e)
  function-of (t_more {a = a} {b = b} e h) = (a, b, e)

  -- fields of a record, where labels are distinct
  skip : (l k : Label) (ls : List Label) (t : ℕ) (ts : List ℕ) {u : ℕ} → same_label l k ≡ false → part l ls ts ≡ Some u → part l (k ∷ ls) (t ∷ ts) ≡ Some u
  skip l k ls t ts e h = ap (λ b. if b then Some t else part l ls ts) e ∙ h

  label-same : (l : Label) → same_label l l ≡ true
  label-same (Number n) = nat_eq-same n
  label-same (Word n) = nat_eq-same n

  labels-one : (k m : Label) → same_label k m ≡ true → k ≡ m
  labels-one (Number a) (Number b) e = ap Number (nat_eq-to a b e)
  labels-one (Number a) (Word b) e = absurd (cc)
  labels-one (Word a) (Number b) e = absurd (cc)
  labels-one (Word a) (Word b) e = ap Word (nat_eq-to a b e)

  -- a label among these isn't the first
  apart-here : (k l m : Label) (t v : ℕ) (o : Option ℕ) → same_label m l ≡ false → (o ≡ Some v → same_label k l ≡ false) → (b : Bool) → same_label k m ≡ b → (if b then Some t else o) ≡ Some v → same_label k l ≡ false
  apart-here k l m t v o e h true s q = subst (λ z. same_label z l ≡ false) (sym (labels-one k m s)) e
  apart-here k l m t v o e h false s q = h q

  apart : (k l : Label) {ls : List Label} → IsOther l ls → (ts : List ℕ) (v : ℕ) → part k ls ts ≡ Some v → same_label k l ≡ false
  apart k l other_none ts v q = absurd (cc)
  apart k l (other_more e o) [] v q = absurd (cc)
  apart k l (other_more {k = m} {ls = ls} e o) (t ∷ ts) v q = apart-here k l m t v (part k ls ts) e (apart k l o ts v) (same_label k m) refl q

  row-solved : {G : Sorts} {row : Row (mono types)} {ls : List Label} {ts : List ℕ} (u : ℕ) → Agrees G → RowTyped types G row ls ts → ((l : Label) (t : ℕ) → part l ls ts ≡ Some t → or_nothing types (option_and_then (part_of l) (node_at types u)) ≡ t) → AreDistinct ls → SolvesRow types F u row
  row-solved u g no_row_typed h d = tt
  row-solved u g (a_row_typed {l = l} {x = x} {t = t} {ls = ls} {ts = ts} e r) h (distinct_more o d) =
      (within-further (g.fits x (of_type t) e) (same-type types all (sym (h l t (ap (λ b. if b then Some t else part l ls ts) (label-same l))))), row-solved u g r (λ k v q. h k v (skip k l ls t ts (apart k l o ts v q) q)) d)

  -- the second argument of an assignment
  prim-solved : (p : BasisPrimitive) (s : prims.Sort) → prims.sort_of p ≡ s → {G : Sorts} {u r : ℕ} {as_ : Atoms (mono types)} {ns : List ℕ} → Agrees G → PrimAt types p u ns r → AtomsTyped types G as_ ns → SolvesPrim types F s u as_
  prim-solved p compares q g a h = tt
  prim-solved p prints q g a h = tt
  prim-solved p computes q g a h = tt
  prim-solved Assign assigns q g a h = assign g a.arguments h
    where
      assign : {G : Sorts} {u : ℕ} {as_ : Atoms (mono types)} {ns : List ℕ} → Agrees G → AllStand types (λ v. u) ns (typs_of (prim_type Assign).arguments) → AtomsTyped types G as_ ns → SolvesPrim types F assigns u as_
      assign {u = u} g (stand_more i (stand_more stands_var stand_none)) (an_atom_typed e (an_atom_typed {x = x} d no_atoms_typed)) = g.fits x (of_type u) d
  prim-solved _ assigns q g a h = absurd (cc)

  case-solved : {G G' : Sorts} {c : Case (mono types)} {u : ℕ} → Agrees G → AllKnown all (bound_case types c) → CaseTyped types G c u G' → SolvesCase types F u c × Agrees G'
  case-solved g k (literal_typed h) = (tt, g)
  case-solved g k (con_typed e) = (tt, g)
  case-solved {u = u} g k (con_of_typed {c = c} {x = x} {a = a} e) =
      let v = has-type x (value a) k.0 refl refl in
      (same-type types all (argument-is u c a e ∙ sym v), agrees-more x (of_type a) (same-type types all v) g)
  case-solved g k (exn_typed e i) = (tt, g)
  case-solved g k (exn_of_typed {x = x} {a = a} e i) =
      let v = has-type x (value a) k.0 refl refl in
      (same-type types all (sym v), agrees-more x (of_type a) (same-type types all v) g)
  case-solved g k (record_typed e i) = (tt, g)

  group-agrees : (fs : Funs (mono types)) {G : Sorts} → AllKnown all (bound_funs types fs) → Agrees G → Agrees (group_sorts types fs G)
  group-agrees no_funs k g = g
  group-agrees (fun x t f fs) k g = agrees-more x (of_type t) (same-type types all (has-type x (value t) k.0 refl refl)) (group-agrees fs (known-right all (bound_fun types t f) (bound_funs types fs) k.1) g)

  -- what an expression gives goes to a set that has all functions of its type
  mutual
    pub solves : {m : Bool} {G : Sorts} {e : Exp (mono types)} {t : ℕ} → Agrees G → AllKnown all (bound types e) → (to : List ℕ) → Within (S t) to → tt.Typed types m G e t → Solves types F to e
    solves g k to w (tt.t_ret {x = x} {t = t} h) = within-further (g.fits x (of_type t) h) w
    solves g k to w (tt.t_let {x = x} {a = a} {o = o} {e = e} h l) =
        let v = has-type x (value a) k.0 refl refl in
        (op-solves g (known-left all (bound_op types a o) (bound types e) k.1) (S (V x)) (same-type types all (sym v)) h, solves (agrees-more x (of_type a) (same-type types all v) g) (known-right all (bound_op types a o) (bound types e) k.1) to w l)
    solves g k to w (tt.t_exception {x = x} {a = a} l) = solves (agrees-more x (exception a) (of-name x (has-type x name k.0 refl refl)) g) k.1 to w l
    solves g k to w (tt.t_name {x = x} {a = a} n l) = solves (agrees-more x (exception a) (of-name x (has-type x name k.0 refl refl)) g) k.1 to w l
    solves g k to w (tt.t_rec {fs = fs} {e = e} h l) =
        let kf = known-left all (bound_funs types fs) (bound types e) k in
        let g' = group-agrees fs kf g in
        (funs-solve g' kf h, solves g' (known-right all (bound_funs types fs) (bound types e) k) to w l)
    solves g k to w (tt.t_switch h arms) = arms-solve g k to w arms
    solves g k to w (tt.t_first {e = e} {d = d} h l) = (solves g (known-left all (bound types e) (bound types d) k) to w h, solves g (known-right all (bound types e) (bound types d) k) to w l)
    solves g k to w tt.t_miss = tt
    solves g k to w (tt.t_counted h) = solves g k to w h

    arms-solve : {G : Sorts} {arms : Arms (mono types)} {u t : ℕ} → Agrees G → AllKnown all (bound_arms types arms) → (to : List ℕ) → Within (S t) to → tt.ArmsTyped types G arms u t → SolvesArms types F to u arms
    arms-solve g k to w tt.t_no_arms = tt
    arms-solve g k to w (tt.t_arm {c = c} {e = e} {arms = arms} h l r) =
        let kc = known-left all (bound_case types c) (bound types e ++ bound_arms types arms) k in
        let kr = known-right all (bound_case types c) (bound types e ++ bound_arms types arms) k in
        let both = case-solved g kc h in
        (both.0, (solves both.1 (known-left all (bound types e) (bound_arms types arms) kr) to w l, arms-solve g (known-right all (bound types e) (bound_arms types arms) kr) to w r))

    op-solves : {G : Sorts} {o : Op (mono types)} {t : ℕ} → Agrees G → AllKnown all (bound_op types t o) → (to : List ℕ) → Within (S t) to → tt.OpTyped types G o t → SolvesOp types F to o
    op-solves g k to w (tt.t_use {x = x} {t = t} e) = within-further (g.fits x (of_type t) e) w
    op-solves g k to w (tt.t_use_exception {x = x} {a = a} e i) = within-further (g.fits x (exception a) e) in-none
    op-solves g k to w (tt.t_const h) = tt
    op-solves g k to w (tt.t_con_alone e i) = tt
    op-solves g k to w (tt.t_construct {c = c} {x = x} {t = t} {a = a} e d) = within-further (g.fits x (of_type a) d) (same-type types all (sym (argument-is t c a e)))
    op-solves g k to w (tt.t_ref_alone e i) = tt
    op-solves g k to w (tt.t_refer {a = a} {x = x} e i) = g.fits x (of_type a) e
    op-solves g k to w (tt.t_content e i) = w
    op-solves g k to w (tt.t_pack {x = x} {a = a} e d i) = g.fits x (of_type a) d
    op-solves g k to w (tt.t_make_record {t = t} r i d) = row-solved t g r (λ l v q. part-is t v l i q) d
    op-solves g k to w (tt.t_select {u = u} {t = t} {l = l} e i d) = within-further (same-type types all (part-is u t l i d)) w
    op-solves g k to w (tt.t_prim_alone p s i) = tt
    op-solves g k to w (tt.t_prim {p = p} a h) = prim-solved p (prims.sort_of p) refl g a h
    op-solves g k to w (tt.t_app {f = f} {x = x} {u = u} {a = a} {t = t} e i d) =
        let c = connects u a t (S (V f)) (S (V x)) i (g.fits f (of_type u) e) (g.fits x (of_type a) d) in
        λ n j. let both = c n j in (both.0, within-further both.1 w)
    op-solves g k to w (tt.t_fn {f = f} h) = let i = function-of h in (w.all (number_of types f) (function-there _ f i.2 k), fun-solves g k h)
    op-solves g k to w (tt.t_block l) = solves g k to w l
    op-solves g k to w (tt.t_handle {e = e} {d = d} {x = x} {n = n} l i r) =
        (solves g (known-left all (bound types e) (bound types d) k.1) to w l, solves (agrees-more x (of_type n) (nothing-in x n (has-type x (value (nothing types)) k.0 refl refl)) g) (known-right all (bound types e) (bound types d) k.1) to w r)
    op-solves g k to w (tt.t_raise e i) = tt
    op-solves g k to w (tt.t_raise_initial e) = tt

    fun-solves : {G : Sorts} {f : Fun (mono types)} {t : ℕ} → Agrees G → AllKnown all (bound_fun types t f) → FunTyped types G f t → SolvesFun types F f
    fun-solves g k (t_last {x = x} {a = a} {b = b} {t = t} i h) =
        solves (agrees-more x (of_type a) (same-type types all (has-type x (parameter t) k.0 refl (takes-is t i))) g) k.1 (S (result_of types (bound_in x all))) (same-type types all (sym (has-result x (parameter t) k.0 refl (gives-is t i)))) h
    fun-solves g k (t_more {x = x} {a = a} {b = b} {t = t} {f = f} i h) =
        let kf = subst (λ u. AllKnown all (bound_fun types u f)) (gives-is t i) k.1 in
        let j = function-of h in
        ((same-type types all (sym (has-result x (parameter t) k.0 refl (gives-is t i)))).all (number_of types f) (function-there _ f j.2 kf), fun-solves (agrees-more x (of_type a) (same-type types all (has-type x (parameter t) k.0 refl (takes-is t i))) g) kf h)

    funs-solve : {G : Sorts} {fs : Funs (mono types)} → Agrees G → AllKnown all (bound_funs types fs) → FunsTyped types G fs → SolvesFuns types F fs
    funs-solve g k t_no_funs = tt
    funs-solve g k (t_fun {x = x} {t = t} {f = f} {fs = fs} h r) =
        let kf = known-left all (bound_fun types t f) (bound_funs types fs) k.1 in
        let i = function-of h in
        ((same-type types all (sym (has-type x (value t) k.0 refl refl))).all (number_of types f) (function-there _ f i.2 kf), (fun-solves g kf h, funs-solve g (known-right all (bound_fun types t f) (bound_funs types fs) k.1) r))
