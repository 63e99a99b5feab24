-- All that a conversion names is there: one case a construct.
use Rattle.std.proofs.Common.{◌≡◌, ℕ, suc, Bool, true, false, ◌||◌, List, [], ◌∷◌, ◌++◌, length, Option, Some, None, nat_eq, nat_lt, if◌then◌else◌, refl, sym, ap, subst, ◌∙◌}
use Rattle.std.specs.Prelude.{⊤}
use Rattle.std.specs.List.{AllByRecursion}
use Rattle.mlc_base.specs.declared.place.Place.{Place}
use Rattle.mlc_prims.specs.LitOf.{Literal}
use Rattle.mlc_prims.specs.declared.basis.BasisPrimitive.{BasisPrimitive}
use Rattle.mlc_prims.specs.declared.basis.BasisPrimitive.TheVariants.{Equals, Assign, Print}
use Rattle.ty_core.specs.Types.{Typ, typs_of}
use Rattle.ir_values.specs.Primitives as prims
use Rattle.ir_values.specs.Primitives.{compares, assigns, prints, computes}
use Rattle.ir_plain.specs.Tree as m
use Rattle.ir_plain.specs.Tree.{Case, is_literal, is_con, is_con_of, is_exn, is_exn_of, is_record, Exception, fixed, held, Atoms, no_atoms, an_atom, Row, no_row, a_row, Fun, last, more, Funs, no_funs, fun}
use Rattle.ir_poly.specs.Types.{prim_type}
use Rattle.ir_mono.specs.Types as table
use Rattle.ir_mono.specs.Types.{Node, node_at, constructor_at, admits, IsFunction, IsExn, AllStand, stand_none, stand_more}
use Rattle.ir_mono.specs.Mono.{mono, Mono}
use Rattle.ir_mono.specs.Typing as tt
use Rattle.ir_mono.specs.Typing.{Sort, of_type, exception, Sorts, sort_of, group_sorts, PrimAt, AtomsTyped, no_atoms_typed, an_atom_typed, RowTyped, NameTyped, fixed_typed, held_typed, CaseTyped, literal_typed, con_typed, con_of_typed, exn_typed, exn_of_typed, record_typed, FunTyped, t_last, t_more, FunsTyped, t_no_funs, t_fun}
use Rattle.first_values.specs.Values.{one}
use Rattle.first_values.specs.Operations as op
use Rattle.first_values.specs.Operations.{Tables, Member, Operands}
use Rattle.first_values.specs.Raising.{may_raise}
use Rattle.first_values.specs.WellFormed.{is_among, IsIn, AreIn, PiecesIn, IsRow, IsConstant}
use Rattle.ir_first.specs.Tree as out
use Rattle.ir_first.specs.WellFormed.{IsScoped, OpScoped, ArmsScoped}
use Rattle.flow_sets.specs.Member.{is_in}
use Rattle.flow_sets.specs.Flow.{Flow, variable, at, number_of}
use Rattle.flow_sets.specs.ByType.{What, value, parameter, Bound, bound_in, takes, gives, type_of, bound_case, bound, bound_arms, bound_op, bound_fun, bound_funs}
use Rattle.flow_sets.proofs.Member.{nat_eq-to, nat_eq-same, or_left}
use Rattle.flow_sets.proofs.Sets.{AllKnown, known-left, known-right}
use Rattle.closure_convert.specs.Scope.{Member as Of, names, Scope, add, add_all, Way, no_way, leads, follows, way, is_way, reaches, Piece, Makes, makes_none, makes_one, makes_run, Table}
use Rattle.closure_convert.specs.Closed.{scope_of, members, leader, IsMade, GroupMade, case_scope, AtomsClosed, RowClosed, NameClosed, IsClosed, ArmsClosed, OpClosed, FunClosed, FunsClosed}
use Rattle.closure_meaning.specs.Convert.{holder, follower, given, spare, var, Numbering, performed, operands, computed, piece_list, outer, access, ready, packed, marked, constant, call_set, used, atom_list, row_pieces, making, following, group_in, name_of, convert, cases, con_arms, convert_op, self_name, opening, codes, codes_arms, codes_op, codes_fun, codes_funs}
use Rattle.closure_whole.specs.Constants.{IsHeld, AreHeld, ArmsHeld, OpHeld, FunHeld, FunsHeld}

or-right : (a : Bool) {d : Bool} → d ≡ true → (a || d) ≡ true
or-right true h = refl
or-right false h = h

pub here : (x : ℕ) (xs : List ℕ) → IsIn (x ∷ xs) x
here x xs = or_left (nat_eq x x) (is_among x xs) (nat_eq-same x)

there : (y x : ℕ) (xs : List ℕ) → IsIn xs y → IsIn (x ∷ xs) y
there y x xs h = or-right (nat_eq y x) h

-- more variables
record More (xs ys : List ℕ) : Type 0 where
  are : (z : ℕ) → IsIn xs z → IsIn ys z

same : (xs : List ℕ) → More xs xs
same xs = record { are = λ z h. h }

one-more : {xs ys : List ℕ} (x : ℕ) → More xs ys → More xs (x ∷ ys)
one-more {ys = ys} x h = record { are = λ z i. there z x ys (h.are z i) }

after : {xs ys : List ℕ} (x : ℕ) → More (x ∷ xs) ys → More xs ys
after {xs} x h = record { are = λ z i. h.are z (there z x xs i) }

-- what a body finds is bound
pub record Holds (s : Scope) (xs : List ℕ) : Type 0 where
  pub locals : (x : ℕ) → is_in x s.locals ≡ true → IsIn xs (var x)
  pub outside : (y : ℕ) → (is_way (way y s.group) || is_in y s.captured) ≡ true → IsIn xs holder

more-holds : {s : Scope} {xs ys : List ℕ} → More xs ys → Holds s xs → Holds s ys
more-holds h k = record { locals = λ x i. h.are (var x) (k.locals x i); outside = λ y i. h.are holder (k.outside y i) }

add-holds : {s : Scope} {xs : List ℕ} (x : ℕ) → IsIn xs (var x) → Holds s xs → Holds (add x s) xs
add-holds {s} {xs} x i k = record { locals = λ y j. by y (nat_eq y x) refl j; outside = k.outside }
  where
    by : (y : ℕ) (b : Bool) → nat_eq y x ≡ b → (b || is_in y s.locals) ≡ true → IsIn xs (var y)
    by y true q j = subst (λ z. IsIn xs (var z)) (sym (nat_eq-to y x q)) i
    by y false q j = k.locals y j

bind-holds : {s : Scope} {xs ys : List ℕ} (x : ℕ) → More xs ys → Holds s xs → Holds (add x s) (var x ∷ ys)
bind-holds {ys = ys} x h k = add-holds x (here (var x) ys) (more-holds (one-more (var x) h) k)

group-holds : {s : Scope} {xs : List ℕ} (ns : List ℕ) → ((x : ℕ) → is_in x ns ≡ true → IsIn xs (var x)) → Holds s xs → Holds (add_all ns s) xs
group-holds [] i k = k
group-holds (n ∷ ns) i k = add-holds n (i n (or_left (nat_eq n n) (is_in n ns) (nat_eq-same n))) (group-holds ns (λ x j. i x (or-right (nat_eq x n) j)) k)

body-holds : (cs : List ℕ) (ms : List Of) (x : ℕ) {xs : List ℕ} → IsIn xs (var x) → IsIn xs holder → Holds (scope_of cs ms x) xs
body-holds cs ms x {xs} i h = record { locals = λ y j. by y (nat_eq y x) refl j; outside = λ y j. h }
  where
    by : (y : ℕ) (b : Bool) → nat_eq y x ≡ b → (b || false) ≡ true → IsIn xs (var y)
    by y true q j = subst (λ z. IsIn xs (var z)) (sym (nat_eq-to y x q)) i
    by y false q j = absurd (cc)

module _ (types : List table.Row) (n : Numbering) (flow : Flow) (captures : Table) (T : Tables) (ar : List ℕ) (all : List Bound) (strings : List (List ℕ)) where
  pub record Scoped (xs : List ℕ) (e : out.Exp) : Type 0 where
    pub is : IsScoped T ar xs e

  pub record OpFine (xs : List ℕ) (o : out.Op) : Type 0 where
    pub is : OpScoped T ar xs o

  pub record ArmsFine (xs : List ℕ) (arms : out.Arms) : Type 0 where
    pub is : ArmsScoped T ar xs arms

  fine : {xs : List ℕ} {o : out.Op} → OpScoped T ar xs o → OpFine xs o
  fine h = record { is = h }

  exp : {xs : List ℕ} {e : out.Exp} → IsScoped T ar xs e → Scoped xs e
  exp h = record { is = h }

  bind : {xs : List ℕ} {x : ℕ} {o : out.Op} {e : out.Exp} → OpFine xs o → Scoped (x ∷ xs) e → Scoped xs (out.let_in x o e)
  bind h g = record { is = (h.is, g.is) }

  arm : {xs : List ℕ} {i : ℕ} {e : out.Exp} {arms : out.Arms} → Scoped xs e → ArmsFine xs arms → ArmsFine xs (out.arm i e arms)
  arm h g = record { is = (h.is, g.is) }

  no-arms : {xs : List ℕ} → ArmsFine xs out.no_arms
  no-arms = record { is = tt }

  -- what the tables have
  pub record Has : Type 0 where
    pub constants : (l : Literal) → IsHeld strings l → IsConstant T (constant n l)
    pub initial : (i : ℕ) → nat_lt i 7 ≡ true → IsRow T.initial i
    pub equality : (t : ℕ) → admits types t ≡ true → IsRow T.types t
    pub callee : (place : Place) (f a u b c : ℕ) (xs : List ℕ) → type_of types (bound_in f all) ≡ u → IsFunction types u b c → IsIn xs (var f) → IsIn xs (var a)
        → OpFine xs (call_set n place (flow.number (variable f)) (at flow (variable f)) (var f) (var a))

  -- a function is bound at its type
  pub record Known (G : Sorts) : Type 0 where
    pub is : (f u a b : ℕ) → sort_of G f ≡ Some (of_type u) → IsFunction types u a b → type_of types (bound_in f all) ≡ u

  abbrev At : ℕ → Sort → Type 0
  At x (of_type t) = (a b : ℕ) → IsFunction types t a b → type_of types (bound_in x all) ≡ t
  At x (exception a) = ⊤

  known-at : {G : Sorts} (x : ℕ) (s : Sort) → At x s → Known G → (f u a b : ℕ) (c : Bool) → nat_eq f x ≡ c → (if c then Some s else sort_of G f) ≡ Some (of_type u) → IsFunction types u a b → type_of types (bound_in f all) ≡ u
  known-at x s h k f u a b true q e i = let one : s ≡ of_type u = cc in subst (λ z. type_of types (bound_in z all) ≡ u) (sym (nat_eq-to f x q)) ((subst (At x) one h) a b i)
  known-at x s h k f u a b false q e i = k.is f u a b e i

  known-more : {G : Sorts} (x : ℕ) (s : Sort) → At x s → Known G → Known ((x, s) ∷ G)
  known-more x s h k = record { is = λ f u a b e i. known-at x s h k f u a b (nat_eq f x) refl e i }

  has-type : (x : ℕ) {b : Bound} (w : What) {t : ℕ} → bound_in x all ≡ Some b → b.what ≡ w → type_of types (Some (record { variable = x; what = w })) ≡ t → type_of types (bound_in x all) ≡ t
  has-type x {b} w {t} e q h = ap (type_of types) e ∙ (ap (λ z. type_of types (Some (record { variable = x; what = z }))) q ∙ h)

  case-known : {G H : Sorts} {c : Case (mono types)} {u : ℕ} → Known G → AllKnown all (bound_case types c) → CaseTyped types G c u H → Known H
  case-known g k (literal_typed h) = g
  case-known g k (con_typed e) = g
  case-known g k (con_of_typed {x = x} {a = a} e) = known-more x (of_type a) (λ b c i. has-type x (value a) k.0 refl refl) g
  case-known g k (exn_typed e i) = g
  case-known g k (exn_of_typed {x = x} {a = a} e i) = known-more x (of_type a) (λ b c i. has-type x (value a) k.0 refl refl) g
  case-known g k (record_typed e i) = g

  group-known : (fs : Funs (mono types)) {G : Sorts} → AllKnown all (bound_funs types fs) → Known G → Known (group_sorts types fs G)
  group-known no_funs k g = g
  group-known (fun x t f fs) k g = known-more x (of_type t) (λ b c i. has-type x (value t) k.0 refl refl) (group-known fs (known-right all (bound_fun types t f) (bound_funs types fs) k.1) g)

  -- Accesses and closures

  outer-scoped : {xs : List ℕ} (cs : List ℕ) (y : ℕ) (w : Way) → IsIn xs holder → OpFine xs (outer n cs y w)
  outer-scoped cs y no_way h = fine (refl, (h, tt))
  outer-scoped cs y leads h = fine (refl, (h, tt))
  outer-scoped cs y (follows k) h = fine (h, tt)

  access-scoped : {xs : List ℕ} (s : Scope) (y : ℕ) → Holds s xs → reaches s y ≡ true → OpFine xs (access n s y)
  access-scoped {xs} s y h r = by (is_in y s.locals) refl r
    where
      by : (b : Bool) → is_in y s.locals ≡ b → (b || (is_way (way y s.group) || is_in y s.captured)) ≡ true → OpFine xs (if b then out.plain op.same (var y ∷ []) else outer n s.captured y (way y s.group))
      by true e r = fine (refl, (h.locals y e, tt))
      by false e r = outer-scoped s.captured y (way y s.group) (h.outside y r)

  ready-scoped : (s : Scope) {xs : List ℕ} {ps : List Piece} {zs : List ℕ} {e : out.Exp} → Makes s ps zs → Holds s xs → ((ys : List ℕ) → More xs ys → PiecesIn ys (piece_list ps) → Scoped ys e) → Scoped xs (ready n s ps e)
  ready-scoped s {xs = xs} makes_none h rest = rest xs (same xs) tt
  ready-scoped s {xs = xs} {e = e} (makes_one y {ps = ps} r p) h rest = by (is_in y s.locals) refl
      (λ i. ready-scoped s p h (λ ys k q. rest ys k (k.are (var y) i, q)))
      (ready-scoped s p (more-holds (one-more (var y) (same xs)) h) (λ ys k q. rest ys (after (var y) k) (k.are (var y) (here (var y) xs), q)))
    where
      by : (b : Bool) → is_in y s.locals ≡ b → (IsIn xs (var y) → Scoped xs (ready n s ps e)) → Scoped (var y ∷ xs) (ready n s ps e) → Scoped xs (if b then ready n s ps e else out.let_in (var y) (access n s y) (ready n s ps e))
      by true q g k = g (h.locals y q)
      by false q g k = bind (access-scoped s y h r) k
  ready-scoped s {xs = xs} (makes_run from y us row p) h rest =
      let i : IsIn xs holder = h.outside y (or-right (is_way (way y s.group)) row.0.captured) in
      ready-scoped s p h (λ ys k q. rest ys k (k.are holder i, q))

  making-scoped : {xs : List ℕ} {e : out.Exp} (s : Scope) (x k : ℕ) → IsMade captures s k → Holds s xs → ((ys : List ℕ) → More xs ys → Scoped (x ∷ ys) e) → Scoped xs (making n types flow captures s x k e)
  making-scoped s x k m h rest = ready-scoped s m h (λ ys g q. bind (fine q) (rest ys g))

  following-scoped : {xs : List ℕ} {e : out.Exp} (h : ℕ) (gs : List Of) → IsIn xs (var h) → ((ys : List ℕ) → More xs ys → ((x : ℕ) → is_in x (names gs) ≡ true → IsIn ys (var x)) → Scoped ys e) → Scoped xs (following n types flow captures h gs e)
  following-scoped {xs} h [] i rest = rest xs (same xs) (λ x j. absurd (cc))
  following-scoped {xs = xs} {e = e} h (g ∷ gs) i rest =
      following-scoped {e = out.let_in (var g.name) (out.make (n.tag g.number) (one (var h) ∷ [])) e} h gs i (λ ys k ns. bind (fine (k.are (var h) i, tt)) (rest (var g.name ∷ ys) (one-more (var g.name) k) (λ x j. by ys ns x (nat_eq x g.name) refl j)))
    where
      by : (ys : List ℕ) → ((x : ℕ) → is_in x (names gs) ≡ true → IsIn ys (var x)) → (x : ℕ) (b : Bool) → nat_eq x g.name ≡ b → (b || is_in x (names gs)) ≡ true → IsIn (var g.name ∷ ys) (var x)
      by ys ns x true q j = subst (λ z. IsIn (var g.name ∷ ys) (var z)) (sym (nat_eq-to x g.name q)) (here (var g.name) ys)
      by ys ns x false q j = there (var x) (var g.name) ys (ns x j)

  group-scoped : {xs : List ℕ} {e : out.Exp} (s : Scope) (ms : List Of) → GroupMade captures s ms → Holds s xs → ((ys : List ℕ) → More xs ys → ((x : ℕ) → is_in x (names ms) ≡ true → IsIn ys (var x)) → Scoped ys e) → Scoped xs (group_in n types flow captures s ms e)
  group-scoped {xs} s [] m h rest = rest xs (same xs) (λ x j. absurd (cc))
  group-scoped {xs} s (g ∷ gs) m h rest =
      making-scoped s (var g.name) g.number m.0 h (λ ys k. following-scoped g.name gs (here (var g.name) ys) (λ zs l ns. rest zs (record { are = λ z i. l.are z (there z (var g.name) ys (k.are z i)) })
      (λ x j. by ys zs l ns x (nat_eq x g.name) refl j)))
    where
      by : (ys zs : List ℕ) → More (var g.name ∷ ys) zs → ((x : ℕ) → is_in x (names gs) ≡ true → IsIn zs (var x)) → (x : ℕ) (b : Bool) → nat_eq x g.name ≡ b → (b || is_in x (names gs)) ≡ true → IsIn zs (var x)
      by ys zs l ns x true q j = subst (λ z. IsIn zs (var z)) (sym (nat_eq-to x g.name q)) (l.are (var g.name) (here (var g.name) ys))
      by ys zs l ns x false q j = ns x j

  -- Operations

  marked-scoped : {xs : List ℕ} {e : out.Exp} (k : Option Place) → Scoped xs e → Scoped xs (marked k e)
  marked-scoped None h = h
  marked-scoped (Some place) h = exp h.is

  packed-scoped : {xs : List ℕ} {e : out.Exp} (x : ℕ) → IsIn xs given → ((ys : List ℕ) → More xs ys → Scoped (x ∷ ys) e) → Scoped xs (packed x e)
  packed-scoped {xs} x i rest = bind (fine tt) (bind (fine (refl, (there given spare xs i, (here spare xs, tt)))) (rest (spare ∷ xs) (one-more spare (same xs))))

  used-scoped : {xs : List ℕ} {e : out.Exp} (b : Bool) (s : Scope) (x y : ℕ) → Holds s xs → reaches s y ≡ true → ((ys : List ℕ) → More xs ys → Scoped (x ∷ ys) e) → Scoped xs (used n b s x y e)
  used-scoped {xs} true s x y h r rest = bind (access-scoped s y h r) (packed-scoped x (here given xs) (λ ys k. rest ys (after given k)))
  used-scoped {xs} false s x y h r rest = bind (access-scoped s y h r) (rest xs (same xs))

  atoms-scoped : {xs : List ℕ} (s : Scope) (as_ : Atoms (mono types)) → Holds s xs → AtomsClosed types s as_ → AreIn xs (atom_list n types flow captures as_)
  atoms-scoped s no_atoms h k = tt
  atoms-scoped s (an_atom a as_) h k = (h.locals a k.0, atoms-scoped s as_ h k.1)

  row-scoped : {xs : List ℕ} (s : Scope) (row : Row (mono types)) → Holds s xs → RowClosed types s row → PiecesIn xs (row_pieces n types flow captures row)
  row-scoped s no_row h k = tt
  row-scoped s (a_row l a row) h k = (h.locals a k.0, row-scoped s row h k.1)

  name-scoped : {xs : List ℕ} {G : Sorts} {y : Exception (mono types)} {a : Option ℕ} (s : Scope) → Has → Holds s xs → NameClosed types s y → NameTyped types G y a → OpFine xs (name_of n types flow captures s y)
  name-scoped s t h k (fixed_typed {n = i} e) = fine ((t.initial i e, refl), tt)
  name-scoped s t h k (held_typed {x = y} e) = access-scoped s y h k

  -- as many atoms as a primitive takes arguments
  atoms-length : {G : Sorts} {as_ : Atoms (mono types)} {ns : List ℕ} → AtomsTyped types G as_ ns → length (atom_list n types flow captures as_) ≡ length ns
  atoms-length no_atoms_typed = refl
  atoms-length (an_atom_typed e h) = ap suc (atoms-length h)

  stand-length : {ns : List ℕ} {f : ℕ → ℕ} (ts : List Typ) → AllStand types f ns (typs_of ts) → length ns ≡ length ts
  stand-length [] stand_none = refl
  stand-length (t ∷ ts) (stand_more i h) = ap suc (stand-length ts h)

  computed-scoped : {xs : List ℕ} (ys : List ℕ) (k : Operands) (p : BasisPrimitive) → AreIn xs ys → OpFine xs (computed k p ys)
  computed-scoped {xs} ys k p i = by (may_raise k p) refl
    where
      by : (b : Bool) → may_raise k p ≡ b → OpFine xs (if b then out.attempt k p ys else out.plain (op.compute k p) ys)
      by true e = fine i
      by false e = fine (e, i)

  performed-scoped : {xs : List ℕ} (ys : List ℕ) {u r : ℕ} {ns : List ℕ} (p : BasisPrimitive) (o : prims.Sort) → prims.sort_of p ≡ o → Has → PrimAt types p u ns r → length ys ≡ length ns → AreIn xs ys → OpFine xs (performed types o p u ys)
  performed-scoped ys {u = u} p computes e t q l i = computed-scoped ys (operands types p u) p i
  performed-scoped ys {u = u} Equals compares e t q l i = fine ((t.equality u q.mark, l ∙ stand-length (prim_type Equals).arguments q.arguments), i)
  performed-scoped ys _ compares e t q l i = absurd (cc)
  performed-scoped ys Assign assigns e t q l i = fine (l ∙ stand-length (prim_type Assign).arguments q.arguments, i)
  performed-scoped ys _ assigns e t q l i = absurd (cc)
  performed-scoped ys Print prints e t q l i = fine (l ∙ stand-length (prim_type Print).arguments q.arguments, i)
  performed-scoped ys _ prints e t q l i = absurd (cc)

  module _ (t : Has) where
    mutual
      pub scoped : {b : Bool} {G : Sorts} {e : Mono types} {u : ℕ} {xs : List ℕ} (s : Scope) → Known G → AllKnown all (bound types e) → Holds s xs → IsClosed types captures s e → AreHeld strings e → tt.Typed types b G e u → Scoped xs (convert n types flow captures s e)
      scoped s g k h c d (tt.t_ret {x = x} e) = exp (h.locals x c)
      scoped s g k h c d (tt.t_let {x = x} {a = a} {o = o} {e = e} i l) =
          op-scoped s x a g (known-left all (bound_op types a o) (bound types e) k.1) h c.0 d.0 i
          (λ ys q. scoped (add x s) (known-more x (of_type a) (λ b c j. has-type x (value a) k.0 refl refl) g) (known-right all (bound_op types a o) (bound types e) k.1) (bind-holds x q h) c.1 d.1 l)
      scoped {xs = xs} s g k h c d (tt.t_exception {x = x} {a = a} l) = bind (fine (refl, tt)) (scoped (add x s) (known-more x (exception a) tt g) k.1 (bind-holds x (same xs) h) c d l)
      scoped {xs = xs} s g k h c d (tt.t_name {x = x} {a = a} e l) = bind (name-scoped s t h c.0 e) (scoped (add x s) (known-more x (exception a) tt g) k.1 (bind-holds x (same xs) h) c.1 d l)
      scoped s g k h c d (tt.t_rec {fs = fs} {e = e} i l) =
          group-scoped s (members types fs) c.0 h (λ ys q ns. scoped (add_all (names (members types fs)) s) (group-known fs (known-left all (bound_funs types fs) (bound types e) k) g) (known-right all (bound_funs types fs) (bound types e) k)
          (group-holds (names (members types fs)) ns (more-holds q h)) c.1.1 d.1 l)
      scoped s g k h c d (tt.t_switch {x = x} {u = u} e arms) = cases-scoped s x u g k h c.0 c.1 d arms
      scoped s g k h c d (tt.t_first {e = e} {d = f} l r) = exp ((scoped s g (known-left all (bound types e) (bound types f) k) h c.0 d.0 l).is, (scoped s g (known-right all (bound types e) (bound types f) k) h c.1 d.1 r).is)
      scoped s g k h c d tt.t_miss = exp tt
      scoped s g k h c d (tt.t_counted l) = scoped s g k h c d l

      cases-scoped : {G : Sorts} {arms : m.Arms (mono types)} {u r : ℕ} {xs : List ℕ} (s : Scope) (a i : ℕ) → Known G → AllKnown all (bound_arms types arms) → Holds s xs → is_in a s.locals ≡ true → ArmsClosed types captures s arms → ArmsHeld strings arms → tt.ArmsTyped types G arms u r
          → Scoped xs (cases n types flow captures s a i arms)
      cases-scoped s a i g k h l c d tt.t_no_arms = exp tt
      cases-scoped s a i g k h l c d (tt.t_arm {c = is_literal w} {e = e} {arms = arms} q f r) =
          exp (((t.constants w d.0, refl), (h.locals a l, tt)), ((scoped s (case-known g tt q) (known-left all (bound types e) (bound_arms types arms) k) h c.1.0 d.1.0 f).is, (cases-scoped s a i g (known-right all (bound types e) (bound_arms types arms) k) h l c.1.1 d.1.1 r).is))
      cases-scoped s a i g k h l c d (tt.t_arm {c = is_con w} {e = e} {arms = arms} q f r) =
          exp (h.locals a l, ((scoped s (case-known g tt q) (known-left all (bound types e) (bound_arms types arms) k) h c.1.0 d.1.0 f).is, (con-arms-scoped s a i g (known-right all (bound types e) (bound_arms types arms) k) h l c.1.1 d.1.1 r).is))
      cases-scoped {xs = xs} s a i g k h l c d (tt.t_arm {c = is_con_of w x z} {e = e} {arms = arms} q f r) =
          exp (h.locals a l, (((refl, (h.locals a l, tt)), (scoped (add x s) (case-known g (k.0, tt) q) (known-left all (bound types e) (bound_arms types arms) k.1) (bind-holds x (same xs) h) c.1.0 d.1.0 f).is), (con-arms-scoped s a i g (known-right all (bound types e) (bound_arms types arms) k.1) h l c.1.1 d.1.1 r).is))
      cases-scoped s a i g k h l c d (tt.t_arm {c = is_exn y} {e = e} {arms = arms} q f r) =
          exp ((refl, (h.locals a l, (h.locals y c.0, tt))), ((scoped s (case-known g tt q) (known-left all (bound types e) (bound_arms types arms) k) h c.1.0 d.1.0 f).is, (cases-scoped s a i g (known-right all (bound types e) (bound_arms types arms) k) h l c.1.1 d.1.1 r).is))
      cases-scoped {xs = xs} s a i g k h l c d (tt.t_arm {c = is_exn_of y x z} {e = e} {arms = arms} q f r) =
          exp ((refl, (h.locals a l, (h.locals y c.0, tt))), (((refl, (h.locals a l, tt)), (scoped (add x s) (case-known g (k.0, tt) q) (known-left all (bound types e) (bound_arms types arms) k.1) (bind-holds x (same xs) h) c.1.0 d.1.0 f).is), (cases-scoped s a i g (known-right all (bound types e) (bound_arms types arms) k.1) h l c.1.1 d.1.1 r).is))
      cases-scoped s a i g k h l c d (tt.t_arm {c = is_record z} {e = e} {arms = arms} q f r) = scoped s (case-known g tt q) (known-left all (bound types e) (bound_arms types arms) k) h c.1.0 d.1.0 f

      con-arms-scoped : {G : Sorts} {arms : m.Arms (mono types)} {u r : ℕ} {xs : List ℕ} (s : Scope) (a i : ℕ) → Known G → AllKnown all (bound_arms types arms) → Holds s xs → is_in a s.locals ≡ true → ArmsClosed types captures s arms → ArmsHeld strings arms → tt.ArmsTyped types G arms u r
          → ArmsFine xs (con_arms n types flow captures s a i arms)
      con-arms-scoped s a i g k h l c d tt.t_no_arms = no-arms
      con-arms-scoped s a i g k h l c d (tt.t_arm {c = is_con w} {e = e} {arms = arms} q f r) =
          arm (scoped s (case-known g tt q) (known-left all (bound types e) (bound_arms types arms) k) h c.1.0 d.1.0 f) (con-arms-scoped s a i g (known-right all (bound types e) (bound_arms types arms) k) h l c.1.1 d.1.1 r)
      con-arms-scoped {xs = xs} s a i g k h l c d (tt.t_arm {c = is_con_of w x z} {e = e} {arms = arms} q f r) =
          arm (bind (fine (refl, (h.locals a l, tt))) (scoped (add x s) (case-known g (k.0, tt) q) (known-left all (bound types e) (bound_arms types arms) k.1) (bind-holds x (same xs) h) c.1.0 d.1.0 f)) (con-arms-scoped s a i g (known-right all (bound types e) (bound_arms types arms) k.1) h l c.1.1 d.1.1 r)
      con-arms-scoped s a i g k h l c d (tt.t_arm {c = is_literal w} q f r) = no-arms
      con-arms-scoped s a i g k h l c d (tt.t_arm {c = is_exn y} q f r) = no-arms
      con-arms-scoped s a i g k h l c d (tt.t_arm {c = is_exn_of y x z} q f r) = no-arms
      con-arms-scoped s a i g k h l c d (tt.t_arm {c = is_record z} q f r) = no-arms

      op-scoped : {G : Sorts} {o : m.Op (mono types)} {u : ℕ} {xs : List ℕ} {e : out.Exp} (s : Scope) (x w : ℕ) → Known G → AllKnown all (bound_op types w o) → Holds s xs → OpClosed types captures s o → OpHeld strings o → tt.OpTyped types G o u
          → ((ys : List ℕ) → More xs ys → Scoped (var x ∷ ys) e) → Scoped xs (convert_op n types flow captures s x o e)
      op-scoped s x w g k h c d (tt.t_use {x = y} i) rest = used-scoped (n.is_name y) s (var x) y h c rest
      op-scoped s x w g k h c d (tt.t_use_exception {x = y} i j) rest = used-scoped (n.is_name y) s (var x) y h c rest
      op-scoped {xs = xs} s x w g k h c d (tt.t_const {l = l} i) rest = bind (fine ((t.constants l d, refl), tt)) (rest xs (same xs))
      op-scoped {xs = xs} s x w g k h c d (tt.t_con_alone i j) rest = bind (fine tt) (rest xs (same xs))
      op-scoped {xs = xs} s x w g k h c d (tt.t_construct {m = m} {x = y} i j) rest = marked-scoped m (bind (fine (h.locals y c, tt)) (rest xs (same xs)))
      op-scoped {xs = xs} s x w g k h c d (tt.t_ref_alone i j) rest = bind (fine tt) (rest xs (same xs))
      op-scoped {xs = xs} s x w g k h c d (tt.t_refer {m = m} {x = y} i j) rest = marked-scoped m (bind (fine (refl, (h.locals y c, tt))) (rest xs (same xs)))
      op-scoped {xs = xs} s x w g k h c d (tt.t_content {x = y} i j) rest = bind (fine (refl, (h.locals y c, tt))) (rest xs (same xs))
      op-scoped {xs = xs} s x w g k h c d (tt.t_pack {m = m} {y = z} {x = y} i j l) rest = marked-scoped m (bind (fine (refl, (h.locals z c.0, (h.locals y c.1, tt)))) (rest xs (same xs)))
      op-scoped {xs = xs} s x w g k h c d (tt.t_make_record {row = row} i j l) rest = bind (fine (row-scoped s row h c)) (rest xs (same xs))
      op-scoped {xs = xs} s x w g k h c d (tt.t_select {x = y} i j l) rest = bind (fine (refl, (h.locals y c, tt))) (rest xs (same xs))
      op-scoped {xs = xs} s x w g k h c d (tt.t_prim_alone i j l) rest = bind (fine tt) (rest xs (same xs))
      op-scoped {xs = xs} s x w g k h c d (tt.t_prim {m = m} {p = p} {as_ = as_} i j) rest = marked-scoped m (bind (performed-scoped (atom_list n types flow captures as_) p (prims.sort_of p) refl t i (atoms-length j) (atoms-scoped s as_ h c)) (rest xs (same xs)))
      op-scoped {xs = xs} s x w g k h c d (tt.t_app {place = place} {f = f} {x = y} {u = u} {a = a} {t = b} i j l) rest = bind (t.callee place f y u a b xs (g.is f u a b i j) j (h.locals f c.0) (h.locals y c.1)) (rest xs (same xs))
      op-scoped s x w g k h c d (tt.t_fn {f = f} i) rest = making-scoped s (var x) (number_of types f) c.0 h rest
      op-scoped {xs = xs} s x w g k h c d (tt.t_block l) rest = bind (fine (scoped s g k h c d l).is) (rest xs (same xs))
      op-scoped {xs = xs} s x w g k h c d (tt.t_handle {e = e} {d = f} {x = y} {n = v} l i r) rest =
          bind (fine ((scoped s g (known-left all (bound types e) (bound types f) k.1) h c.0 d.0 l).is, (scoped (add y s) (known-more y (of_type v) (λ a b j. absurd (cc)) g) (known-right all (bound types e) (bound types f) k.1) (bind-holds y (same xs) h) c.1 d.1 r).is)) (rest xs (same xs))
      op-scoped {xs = xs} s x w g k h c d (tt.t_raise {x = y} i j) rest = bind (fine (h.locals y c)) (rest xs (same xs))
      op-scoped {xs = xs} s x w g k h c d (tt.t_raise_initial {n = i} j) rest =
          bind (fine ((t.initial i j, refl), tt)) (packed-scoped given (here given xs) (λ ys q. bind (fine (here given ys)) (rest (given ∷ ys) (record { are = λ z i. there z given ys ((after given q).are z i) }))))

    -- The codes of functions

    pub record CodesFine (cs : List out.Fun) : Type 0 where
      pub are : AllByRecursion (λ c. IsScoped T ar c.params c.body) cs

    code-more : {c : out.Fun} {cs : List out.Fun} → Scoped c.params c.body → CodesFine cs → CodesFine (c ∷ cs)
    code-more h g = record { are = (h.is, g.are) }

    opening-scoped : {e : out.Exp} (q : Bool) (x : ℕ) → ((ys : List ℕ) → IsIn ys holder → IsIn ys x → Scoped ys e) → Scoped (self_name n types flow captures q ∷ x ∷ []) (opening n types flow captures q e)
    opening-scoped true x rest = rest (holder ∷ x ∷ []) (here holder (x ∷ [])) (there x holder (x ∷ []) (here x []))
    opening-scoped false x rest = bind (fine (refl, (here follower (x ∷ []), tt))) (rest (holder ∷ follower ∷ x ∷ []) (here holder (follower ∷ x ∷ [])) (there x holder (follower ∷ x ∷ []) (there x follower (x ∷ []) (here x []))))

    parameter-at : (x : ℕ) (w a b : ℕ) {c : Bound} → bound_in x all ≡ Some c → c.what ≡ parameter w → IsFunction types w a b → type_of types (bound_in x all) ≡ a
    parameter-at x w a b e q i = has-type x (parameter w) e q (ap (takes types) i)

    gives-is : (w : ℕ) {a b : ℕ} → IsFunction types w a b → gives types (node_at types w) ≡ b
    gives-is w i = ap (gives types) i

    mutual
      pub codes-scoped : {b : Bool} {G : Sorts} {e : Mono types} {u : ℕ} {cs : List out.Fun} (s : Scope) → Known G → AllKnown all (bound types e) → IsClosed types captures s e → AreHeld strings e → tt.Typed types b G e u → CodesFine cs
          → CodesFine (codes n types flow captures e cs)
      codes-scoped s g k c d (tt.t_ret e) r = r
      codes-scoped s g k c d (tt.t_let {x = x} {a = a} {o = o} {e = e} i l) r =
          op-codes s g (known-left all (bound_op types a o) (bound types e) k.1) c.0 d.0 i
          (codes-scoped (add x s) (known-more x (of_type a) (λ b c j. has-type x (value a) k.0 refl refl) g) (known-right all (bound_op types a o) (bound types e) k.1) c.1 d.1 l r)
      codes-scoped s g k c d (tt.t_exception {x = x} {a = a} l) r = codes-scoped (add x s) (known-more x (exception a) tt g) k.1 c d l r
      codes-scoped s g k c d (tt.t_name {x = x} {a = a} e l) r = codes-scoped (add x s) (known-more x (exception a) tt g) k.1 c.1 d l r
      codes-scoped s g k c d (tt.t_rec {fs = fs} {e = e} i l) r =
          let g' = group-known fs (known-left all (bound_funs types fs) (bound types e) k) g in
          funs-codes true (leader types fs) (members types fs) g' (known-left all (bound_funs types fs) (bound types e) k) c.1.0 d.0 i (codes-scoped (add_all (names (members types fs)) s) g' (known-right all (bound_funs types fs) (bound types e) k) c.1.1 d.1 l r)
      codes-scoped s g k c d (tt.t_switch e arms) r = arms-codes s g k c.1 d arms r
      codes-scoped s g k c d (tt.t_first {e = e} {d = f} l i) r = codes-scoped s g (known-left all (bound types e) (bound types f) k) c.0 d.0 l (codes-scoped s g (known-right all (bound types e) (bound types f) k) c.1 d.1 i r)
      codes-scoped s g k c d tt.t_miss r = r
      codes-scoped s g k c d (tt.t_counted l) r = codes-scoped s g k c d l r

      arms-codes : {G : Sorts} {arms : m.Arms (mono types)} {u w : ℕ} {cs : List out.Fun} (s : Scope) → Known G → AllKnown all (bound_arms types arms) → ArmsClosed types captures s arms → ArmsHeld strings arms → tt.ArmsTyped types G arms u w → CodesFine cs
          → CodesFine (codes_arms n types flow captures arms cs)
      arms-codes s g k c d tt.t_no_arms r = r
      arms-codes s g k c d (tt.t_arm {c = v} {e = e} {arms = arms} q f i) r =
          let kc = known-left all (bound_case types v) (bound types e ++ bound_arms types arms) k in
          let kr = known-right all (bound_case types v) (bound types e ++ bound_arms types arms) k in
          codes-scoped (case_scope types v s) (case-known g kc q) (known-left all (bound types e) (bound_arms types arms) kr) c.1.0 d.1.0 f (arms-codes s g (known-right all (bound types e) (bound_arms types arms) kr) c.1.1 d.1.1 i r)

      op-codes : {G : Sorts} {o : m.Op (mono types)} {u : ℕ} {cs : List out.Fun} (s : Scope) → Known G → AllKnown all (bound_op types u o) → OpClosed types captures s o → OpHeld strings o → tt.OpTyped types G o u → CodesFine cs
          → CodesFine (codes_op n types flow captures o cs)
      op-codes s g k c d (tt.t_fn {f = f} i) r = fun-codes true (number_of types f) [] g k c.1 d i r
      op-codes s g k c d (tt.t_block l) r = codes-scoped s g k c d l r
      op-codes s g k c d (tt.t_handle {e = e} {d = f} {x = y} {n = v} l i j) r =
          codes-scoped s g (known-left all (bound types e) (bound types f) k.1) c.0 d.0 l (codes-scoped (add y s) (known-more y (of_type v) (λ a b j. absurd (cc)) g) (known-right all (bound types e) (bound types f) k.1) c.1 d.1 j r)
      op-codes s g k c d (tt.t_use i) r = r
      op-codes s g k c d (tt.t_use_exception i j) r = r
      op-codes s g k c d (tt.t_const i) r = r
      op-codes s g k c d (tt.t_con_alone i j) r = r
      op-codes s g k c d (tt.t_construct i j) r = r
      op-codes s g k c d (tt.t_ref_alone i j) r = r
      op-codes s g k c d (tt.t_refer i j) r = r
      op-codes s g k c d (tt.t_content i j) r = r
      op-codes s g k c d (tt.t_pack i j l) r = r
      op-codes s g k c d (tt.t_make_record i j l) r = r
      op-codes s g k c d (tt.t_select i j l) r = r
      op-codes s g k c d (tt.t_prim_alone i j l) r = r
      op-codes s g k c d (tt.t_prim i j) r = r
      op-codes s g k c d (tt.t_app i j l) r = r
      op-codes s g k c d (tt.t_raise i j) r = r
      op-codes s g k c d (tt.t_raise_initial j) r = r

      fun-codes : {G : Sorts} {f : Fun (mono types)} {u : ℕ} {cs : List out.Fun} (q : Bool) (v : ℕ) (ms : List Of) → Known G → AllKnown all (bound_fun types u f) → FunClosed types captures v ms f → FunHeld strings f → FunTyped types G f u → CodesFine cs
          → CodesFine (codes_fun n types flow captures q v ms f cs)
      fun-codes q v ms g k c d (t_last {x = x} {a = a} {b = b} {t = w} i l) r =
          let g' = known-more x (of_type a) (λ e f j. parameter-at x w a b k.0 refl i) g in
          code-more (opening-scoped q (var x) (λ ys h p. scoped (scope_of (captures.captured v) ms x) g' k.1 (body-holds (captures.captured v) ms x p h) c d l)) (codes-scoped (scope_of (captures.captured v) ms x) g' k.1 c d l r)
      fun-codes q v ms g k c d (t_more {x = x} {a = a} {b = b} {t = w} {f = f} i l) r =
          let g' = known-more x (of_type a) (λ e f j. parameter-at x w a b k.0 refl i) g in
          code-more (opening-scoped q (var x) (λ ys h p. making-scoped (scope_of (captures.captured v) ms x) given (number_of types f) c.0 (body-holds (captures.captured v) ms x p h) (λ zs m. exp (here given zs))))
          (fun-codes true (number_of types f) [] g' (subst (λ z. AllKnown all (bound_fun types z f)) (gives-is w i) k.1) c.1 d l r)

      funs-codes : {G : Sorts} {fs : Funs (mono types)} {cs : List out.Fun} (q : Bool) (v : ℕ) (ms : List Of) → Known G → AllKnown all (bound_funs types fs) → FunsClosed types captures v ms fs → FunsHeld strings fs → FunsTyped types G fs → CodesFine cs
          → CodesFine (codes_funs n types flow captures q v ms fs cs)
      funs-codes q v ms g k c d t_no_funs r = r
      funs-codes q v ms g k c d (t_fun {t = w} {f = f} {fs = fs} l i) r =
          fun-codes q v ms g (known-left all (bound_fun types w f) (bound_funs types fs) k.1) c.0 d.0 l (funs-codes false v ms g (known-right all (bound_fun types w f) (bound_funs types fs) k.1) c.1 d.1 i r)
