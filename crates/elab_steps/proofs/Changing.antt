-- The changes of single steps.
use Rattle.std.proofs.Common.{◌≡◌, ◌<◌, ◌≤◌, ◌+◌, inl, inr, ℕ, zero, suc, Bool, true, false, if◌then◌else◌, ◌&&◌, ap₂, List, [], ◌∷◌, ◌++◌, length, take, map, Result, Ok, Err, IfOk, Some, slice_get, nat_lt, refl, sym, ap, subst, ◌∙◌, arith}
use Rattle.std.proofs.lemmas.Option.{slice_get_within, get_or_from_slice_get}
use Rattle.std.specs.List.{AllByRecursion}
use Rattle.std.proofs.lemmas.List.{length-append, length-map}
use Rattle.std.proofs.lemmas.Bool.{eqb-true, lt-ltb, ltb-true}
use Rattle.std.specs.Prelude.{Vec}
use Rattle.std.specs.Global.{Global}
use Rattle.ty_core.specs.Types.{Typ, var, con, more, Symbol}
use Rattle.ty_table.specs.TypeAt.{type_at, types_at, AllBelow}
use Rattle.elab_types.specs.of_ty_solve.Substitution.{Entry, sub, subs, Solves, is_below, are_below, is_in, are_in, Meets}
use Rattle.elab_types.specs.of_ty_solve.SlotsOf.{look, entries, entry_of, seen}
use Rattle.elab_types.specs.of_ty_solve.Said.{said}
use Rattle.elab_types.specs.of_ty_solve.Solve.{IsMostGeneral, LeavesRest}
use Rattle.elab_types.specs.of_ty_solve.Limits.{limit_at, Fall, LeavesLimits, Limited, NoFurther}
use Rattle.elab_types.specs.of_ty_solve.declared.limit.Limit.{Limit}
use Rattle.elab_types.specs.of_ty_solve.declared.subst.Slot.{Slot}
use Rattle.elab_types.specs.of_ty_solve.declared.subst.Slot.TheVariants.{Partial}
use Rattle.elab_types.specs.of_ty_solve.declared.row.Row.{Row}
use Rattle.elab_types.specs.of_ty_solve.Rows.{Extends}
use Rattle.elab_types.specs.of_ty_solve.declared.subst.Subst.{Subst}
use Rattle.elab_state.proofs.of_ty_instance.Going.{whole}
use Rattle.elab_state.specs.of_ir_tables.declared.tables.Tables.{Tables}
use Rattle.elab_state.specs.of_ir_tables.Tables.{constructors_of, parameters_of, strings_of, string_at}
use Rattle.elab_state.specs.of_ir_tables.Rows.{constructors_at}
use Rattle.elab_state.specs.of_elab_typed.Numbers.{type_as}
use Rattle.sml_tree.specs.BareTree.{Ty}
use Rattle.elab_types.specs.Reading.{AreKnown}
use Rattle.elab_types.specs.Annotations.{IsTypeOf}
use Rattle.elab_types.specs.declared.scope.TypeScope.{TypeScope}
use Rattle.elab_types.proofs.Knowing.{known_where}
use Rattle.elab_state.specs.Readings.{AreWritten}
use Rattle.elab_state.specs.Namings.{IsAmong}
use Rattle.elab_state.specs.of_ir_poly.Types.{in_scope, IsConstructor}
use Rattle.elab_state.specs.States.{types_in, made, said_in, limit_in, general_in, all_parameters, dead_level}
use Rattle.elab_state.proofs.Typed.{either}
use Rattle.elab_steps.specs.Tidy.{AreConstructors, IsLive, IsTidy}
use Rattle.elab_steps.specs.Growing.{HasType, AreLive, Begins, Grows, Always, IsWithin, AreTypes, types_of}
use Rattle.elab_state.specs.declared.naming.Written.{Written}
use Rattle.elab_state.specs.declared.state.State.{State}
use Rattle.elab_steps.specs.Ordered.{is_ordered}
use Rattle.elab_steps.specs.World.{World, type_of, Comes}
use Rattle.elab_steps.proofs.Growing.{comes_before}
use Rattle.elab_steps.proofs.Keeping.{Makes, makes-done, makes-tidy, unified-done, unified-tidy}
use Rattle.elab_steps.proofs.Annotating.{annotation-in}

-- what follows of an Ok
pub if-ok : {A E : Type 0} {P Q : A → Type 0} (r : Result A E) → ((x : A) → P x → Q x) → IfOk r P → IfOk r Q
if-ok (Ok x) f h = f x h
if-ok (Err e) f h = h

pub begins-more : {A : Type 0} (xs ys zs : List A) → zs ≡ xs ++ ys → Begins xs zs
begins-more xs ys zs e = ap (take (length xs)) e ∙ go xs ys
  where
    go : {A : Type 0} (xs ys : List A) → take (length xs) (xs ++ ys) ≡ xs
    go [] ys = refl
    go (x ∷ xs) ys = ap (λ l. x ∷ l) (go xs ys)

pub begins-same : {A : Type 0} (xs ys : List A) → ys ≡ xs → Begins xs ys
begins-same xs ys e = ap (take (length xs)) e ∙ whole xs

-- one variable more

look-snoc : (es : List Entry) (o : Entry) (m : ℕ → Bool) (f : ℕ → Typ) (v : ℕ) → Meets m f (f v) (look (es ++ o ∷ []) v) → Meets m f (f v) (look es v)
look-snoc [] o m f v h = tt
look-snoc (e ∷ es) o m f zero h = h
look-snoc (e ∷ es) o m f (suc v) h = go es v h
  where
    go : (es : List Entry) (x : ℕ) → Meets m f (f (suc v)) (look (es ++ o ∷ []) x) → Meets m f (f (suc v)) (look es x)
    go [] x h = tt
    go (e ∷ es) zero h = h
    go (e ∷ es) (suc x) h = go es x h

entries-snoc : (ts : List Typ) (os : List Slot) (o : Slot) → entries ts (os ++ o ∷ []) ≡ entries ts os ++ entry_of ts o ∷ []
entries-snoc ts [] o = refl
entries-snoc ts (p ∷ os) o = ap (λ l. entry_of ts p ∷ l) (entries-snoc ts os o)

solves-fresh : (ts : List Typ) (os : List Slot) (o : Slot) (m : ℕ → Bool) (f : ℕ → Typ) → Solves m f (seen ts (os ++ o ∷ [])) → Solves m f (seen ts os)
solves-fresh ts os o m f s v = look-snoc (entries ts os) (entry_of ts o) m f v (subst (λ es. Meets m f (f v) (look es v)) (entries-snoc ts os o) (s v))

limit-front : (ls : List Limit) (l : Limit) (v : ℕ) → v < length ls → limit_at (ls ++ l ∷ []) v ≡ limit_at ls v
limit-front [] l v lt = absurd (omega arith)
limit-front (k ∷ ls) l zero lt = refl
limit-front (k ∷ ls) l (suc v) lt = limit-front ls l v (omega arith)

limit-last : (ls : List Limit) (l : Limit) → limit_at (ls ++ l ∷ []) (length ls) ≡ l
limit-last [] l = refl
limit-last (k ∷ ls) l = limit-last ls l

pub same-limit : (a b : Limit) → a ≡ b → NoFurther a b
same-limit a b e = subst (λ x. NoFurther x b) (sym e) (omega arith, omega arith)

-- what is not of the solver stays
pub record Stays (S T : State) : Type 0 where
  pub written : T.written.items ≡ S.written.items
  pub namings : T.namings.items ≡ S.namings.items
  pub tables : T.tables ≡ S.tables
  pub next : T.next ≡ S.next
  pub level : T.level ≡ S.level

-- where nothing is said of a variable that wasn't said before
same-general : (S T : State) → T.tables ≡ S.tables → (x : ℕ) → in_scope (general_in T) x ≡ in_scope (general_in S) x
same-general S T e x = ap (λ t. in_scope (all_parameters (parameters_of t)) x) e

pub solver-makes : (S T : State) → T.solver ≡ S.solver → ((x : ℕ) → in_scope (general_in T) x ≡ in_scope (general_in S) x) → T.level ≡ S.level → Makes S T
solver-makes S T e general level = record {
  said = λ x lt. ap (λ s. said s.subst x) e;
  limits = λ x lt. ap (λ s. limit_at s.limits.items x) e;
  new = λ x le lt. absurd (let same : made T ≡ made S = ap (λ s. length s.subst.slots.items) e in omega (arith, same, le, lt));
  general = general;
  level = level;
}

tables-makes : (S T : State) → Stays S T → T.solver.subst.slots.items ≡ S.solver.subst.slots.items → T.solver.limits.items ≡ S.solver.limits.items
    → said T.solver.subst ≡ said S.solver.subst → Makes S T
tables-makes S T h slots limits says = record {
  said = λ x lt. ap (λ f. f x) says;
  limits = λ x lt. ap (λ ls. limit_at ls x) limits;
  new = λ x le lt. absurd (let same : made T ≡ made S = ap length slots in omega (arith, same, le, lt));
  general = same-general S T h.tables;
  level = h.level;
}

pub rows-same : (a b : Tables) → b ≡ a → (y : _) (c : ℕ) (row : Rattle.elab_state.specs.of_ir_poly.Types.Constructor)
    → Rattle.elab_state.specs.of_ir_poly.Types.find (Rattle.elab_state.specs.of_ir_tables.Tables.constructors_of a) y c ≡ Some row → Rattle.elab_state.specs.of_ir_poly.Types.find (Rattle.elab_state.specs.of_ir_tables.Tables.constructors_of b) y c ≡ Some row
rows-same a b e y c row h = ap (λ t. Rattle.elab_state.specs.of_ir_poly.Types.find (Rattle.elab_state.specs.of_ir_tables.Tables.constructors_of t) y c) e ∙ h

-- constructors that stay may stand in a program's table still
pub constructors-same : (S T : State) → T.tables ≡ S.tables → AreConstructors S → AreConstructors T
constructors-same S T e = subst (λ t. AllByRecursion IsConstructor (constructors_of t)) (sym e)

pub constructors-stay : (S T : State) → T.tables.types ≡ S.tables.types → T.tables.constructors ≡ S.tables.constructors → AreConstructors S → AreConstructors T
constructors-stay S T e f = subst (AllByRecursion IsConstructor) (sym (ap₂ constructors_at e f))

numbers-come : (S : State) (W : World) (ks : List ℕ) → Comes S W → AllBelow (length (types_in S)) ks → subs W.value (types_at (types_in S) ks) ≡ types_of W ks
numbers-come S W [] c h = refl
numbers-come S W (k ∷ ks) c h = ap₂ more (ap (sub W.value) (sym (c.types k h.0))) (numbers-come S W ks c h.1)

-- a new variable, and its type
pub record Freshened (S T : State) (mid : Subst) (slot : Slot) (limit : Limit) (v r : ℕ) : Type 0 where
  pub stays : Stays S T
  pub mid_types : mid.types ≡ types_in S
  pub mid_slots : mid.slots.items ≡ S.solver.subst.slots.items ++ slot ∷ []
  pub limits : T.solver.limits.items ≡ S.solver.limits.items ++ limit ∷ []
  pub types : Begins mid.types (types_in T)
  pub slots : T.solver.subst.slots.items ≡ mid.slots.items
  pub says : said T.solver.subst ≡ said mid
  pub number : v ≡ made S
  pub is : slice_get (types_in T) r ≡ Some (var v)
  -- it belongs to one of the declarations around
  pub deep : limit.level < dead_level
  pub inside : limit.level ≤ S.level

pub made-fresh : (S T : State) (mid : Subst) (slot : Slot) (limit : Limit) (v r : ℕ) → Freshened S T mid slot limit v r → made T ≡ made S + 1
made-fresh S T mid slot limit v r h = ap length (h.slots ∙ h.mid_slots) ∙ length-append S.solver.subst.slots.items (slot ∷ [])

freshened-limit : (S T : State) (mid : Subst) (slot : Slot) (limit : Limit) (v r : ℕ) → Freshened S T mid slot limit v r → limit_in T v ≡ limit
freshened-limit S T mid slot limit v r h =
    ap (limit_at T.solver.limits.items) (h.number ∙ sym S.solver.each_has_one) ∙ ap (λ ls. limit_at ls (length S.solver.limits.items)) h.limits
    ∙ limit-last S.solver.limits.items limit

look-first : (es : List Entry) (o : Entry) (v : ℕ) → v < length es → look (es ++ o ∷ []) v ≡ look es v
look-first [] o v lt = absurd (omega (arith, lt))
look-first (e ∷ es) o zero lt = refl
look-first (e ∷ es) o (suc v) lt = look-first es o v (omega (arith, lt))

look-last : (es : List Entry) (o : Entry) → look (es ++ o ∷ []) (length es) ≡ o
look-last [] o = refl
look-last (e ∷ es) o = look-last es o

freshened-makes : (S T : State) (mid : Subst) (slot : Slot) (limit : Limit) (v r : ℕ) → Freshened S T mid slot limit v r → Makes S T
freshened-makes S T mid slot limit v r h = record {
  said = λ x lt.
      let ts = types_in S in let os = S.solver.subst.slots.items in
      ap (λ f. f x) h.says ∙ ap (λ l. seen l mid.slots.items x) h.mid_types ∙ ap (λ l. seen ts l x) h.mid_slots ∙ ap (λ l. look l x) (entries-snoc ts os slot)
      ∙ look-first (entries ts os) (entry_of ts slot) x (let n = length-map os (entry_of ts) in omega (arith, lt, n));
  limits = λ x lt. ap (λ ls. limit_at ls x) h.limits ∙ limit-front S.solver.limits.items limit x (let e = S.solver.each_has_one in omega (arith, e, lt));
  new = λ x le lt.
      let n = made-fresh S T mid slot limit v r h in let k = h.number in let s : v ≡ x = omega (arith, n, k, le, lt) in let i = h.inside in
      subst (λ y. (limit_in T y).level ≤ S.level) s (subst (λ (l : Limit). l.level ≤ S.level) (sym (freshened-limit S T mid slot limit v r h)) i);
  general = same-general S T h.stays.tables;
  level = h.stays.level;
}

pub freshened_grows : (S T : State) (mid : Subst) (slot : Slot) (limit : Limit) (v r : ℕ) → Freshened S T mid slot limit v r → Grows S T
freshened_grows S T mid slot limit v r h = record {
  types = subst (λ l. Begins l (types_in T)) h.mid_types h.types;
  written = begins-same _ _ h.stays.written;
  namings = begins-same _ _ h.stays.namings;
  lists = begins-same _ _ (ap parameters_of h.stays.tables);
  strings = begins-same _ _ (ap strings_of h.stays.tables);
  rows = rows-same S.tables T.tables h.stays.tables;
  variables = let e = made-fresh S T mid slot limit v r h in omega (arith, e);
  solves = λ m f s. solves-fresh (types_in S) S.solver.subst.slots.items slot m f
      (subst (λ os. Solves m f (seen (types_in S) os)) h.mid_slots (subst (λ ts. Solves m f (seen ts mid.slots.items)) h.mid_types (subst (Solves m f) h.says s)));
  limits = λ x lt. same-limit (limit_in T x) (limit_in S x)
      (ap (λ ls. limit_at ls x) h.limits ∙ limit-front S.solver.limits.items limit x (let e = S.solver.each_has_one in omega (arith, e, lt)));
  next = let e = h.stays.next in omega (arith, e);
  level = h.stays.level;
  done = makes-done S T (freshened-makes S T mid slot limit v r h);
  tidy = makes-tidy S T (freshened-makes S T mid slot limit v r h);
  constructors = constructors-same S T h.stays.tables;
}

pub freshened_is : (S T : State) (mid : Subst) (slot : Slot) (limit : Limit) (v r : ℕ) → Freshened S T mid slot limit v r → HasType T r
freshened_is S T mid slot limit v r h = record {
  held = slice_get_within (types_in T) r (var v) h.is;
  below =
      let e = made-fresh S T mid slot limit v r h in let n = h.number in let lt : v < made T = omega (arith, e, n) in
      subst (λ t. is_below (made T) t ≡ true) (sym (get_or_from_slice_get (types_in T) r (var v) (var 0) h.is)) (lt-ltb v (made T) lt);
  live = λ x i.
      let same : v ≡ x = eqb-true v x (subst (λ t. is_in x t ≡ true) (get_or_from_slice_get (types_in T) r (var v) (var 0) h.is) i) in
      subst (λ y. (limit_in T y).level < dead_level) same (subst (λ (l : Limit). l.level < dead_level) (sym (freshened-limit S T mid slot limit v r h)) h.deep);
}

pub freshened_within : (S T : State) (mid : Subst) (slot : Slot) (limit : Limit) (v r : ℕ) → Freshened S T mid slot limit v r → Always T (λ W. IsWithin W limit r)
freshened_within S T mid slot limit v r h W c =
    let e = made-fresh S T mid slot limit v r h in
    let n = h.number in
    let lt : v < made T = omega (arith, e, n) in
    let same = freshened-limit S T mid slot limit v r h in
    let is : type_of W r ≡ W.value v = ap (sub W.value) (c.types r (slice_get_within (types_in T) r (var v) h.is) ∙ get_or_from_slice_get (types_in T) r (var v) (var 0) h.is) in
    record {
      names = subst (Rattle.elab_types.specs.of_core_rules.Objects.Over limit.names) (sym is) (subst (λ l. Rattle.elab_types.specs.of_core_rules.Objects.Over l.names (W.value v)) same (c.names v lt));
      parameters = λ deep. subst (λ t. Rattle.elab_state.specs.of_ir_poly.Types.over (W.parameters limit.level) t ≡ true) (sym is)
          (subst (λ l. l.level < dead_level → Rattle.elab_state.specs.of_ir_poly.Types.over (W.parameters l.level) (W.value v) ≡ true) same (c.within v lt) deep);
    }

-- of it is said what was put into its slot
freshened-said : (S T : State) (mid : Subst) (slot : Slot) (limit : Limit) (v r : ℕ) → Freshened S T mid slot limit v r → said_in T v ≡ entry_of (types_in S) slot
freshened-said S T mid slot limit v r h =
    let ts = types_in S in let os = S.solver.subst.slots.items in
    ap (λ f. f v) h.says ∙ ap (λ l. seen l mid.slots.items v) h.mid_types ∙ ap (λ l. seen ts l v) h.mid_slots ∙ ap (λ l. look l v) (entries-snoc ts os slot)
    ∙ ap (look (entries ts os ++ entry_of ts slot ∷ [])) (h.number ∙ sym (length-map os (entry_of ts))) ∙ look-last (entries ts os) (entry_of ts slot)

freshened-var : (S T : State) (mid : Subst) (slot : Slot) (limit : Limit) (v r : ℕ) → Freshened S T mid slot limit v r → type_at (types_in T) r ≡ var v
freshened-var S T mid slot limit v r h = get_or_from_slice_get (types_in T) r (var v) (var 0) h.is

-- and it reaches as far as its limit
pub new-limited : (ls new : List Limit) (ts : List Typ) (limit : Limit) (n v r : ℕ) → new ≡ ls ++ limit ∷ [] → length ls ≡ n → v ≡ n → slice_get ts r ≡ Some (var v)
    → Limited (limit_at new) limit (type_at ts r)
new-limited ls new ts limit n v r e m w is =
    let same : limit_at new v ≡ limit = ap (limit_at new) (w ∙ sym m) ∙ ap (λ l. limit_at l (length ls)) e ∙ limit-last ls limit in
    subst (Limited (limit_at new) limit) (sym (get_or_from_slice_get ts r (var v) (var 0) is)) (same-limit (limit_at new v) limit same)

pub freshened_ordered : (S T : State) (mid : Subst) (slot : Slot) (limit : Limit) (v r : ℕ) → Freshened S T mid slot limit v r → Always T (λ W. is_ordered (type_of W r) ≡ true)
freshened_ordered S T mid slot limit v r h W c =
    ap (λ t. is_ordered (sub W.value t)) (c.types r (slice_get_within (types_in T) r (var v) h.is) ∙ freshened-var S T mid slot limit v r h) ∙ W.ordered v

-- it stands for a record that has the fields of its row
pub freshened_extends : (S T : State) (mid : Subst) (row : Row) (limit : Limit) (v r : ℕ) → Freshened S T mid (Partial row) limit v r → AllBelow (length (types_in S)) row.types.items
    → Always T (λ W. Extends W.admits row.equality row.labels.items (types_of W row.types.items) (type_of W r))
freshened_extends S T mid row limit v r h held W c =
    let is : type_of W r ≡ W.value v = ap (sub W.value) (c.types r (slice_get_within (types_in T) r (var v) h.is) ∙ freshened-var S T mid (Partial row) limit v r h) in
    subst (Extends W.admits row.equality row.labels.items (types_of W row.types.items)) (sym is)
    (subst (λ us. Extends W.admits row.equality row.labels.items us (W.value v)) (numbers-come S W row.types.items (comes_before S T W (freshened_grows S T mid (Partial row) limit v r h) c) held)
    (subst (Meets W.admits W.value (W.value v)) (freshened-said S T mid (Partial row) limit v r h) (c.solves v)))

-- two types made equal
pub record Unified (S T : State) (a b : ℕ) : Type 0 where
  pub stays : Stays S T
  pub types : types_in T ≡ types_in S
  pub count : made T ≡ made S
  pub general : IsMostGeneral (said_in S) (said_in T) (type_at (types_in S) a) (type_at (types_in S) b)
  pub fall : Fall (limit_in S) (limit_in T)
  pub rest : LeavesRest (said_in S) (said_in T) (type_at (types_in S) a) (type_at (types_in S) b)
  pub rest_limits : LeavesLimits (said_in S) (limit_in S) (limit_in T) (type_at (types_in S) a) (type_at (types_in S) b)
  pub first : HasType S a
  pub second : HasType S b

pub unified_grows : (S T : State) (a b : ℕ) → Unified S T a b → Grows S T
unified_grows S T a b h = record {
  types = begins-same _ _ h.types;
  written = begins-same _ _ h.stays.written;
  namings = begins-same _ _ h.stays.namings;
  lists = begins-same _ _ (ap parameters_of h.stays.tables);
  strings = begins-same _ _ (ap strings_of h.stays.tables);
  rows = rows-same S.tables T.tables h.stays.tables;
  variables = let e = h.count in omega (arith, e);
  solves = λ m f s. ((h.general m f).0 s).0;
  limits = λ v lt. h.fall v;
  next = let e = h.stays.next in omega (arith, e);
  level = h.stays.level;
  done = λ v lt. unified-done S T a b h.first h.second h.rest h.rest_limits v;
  tidy = λ t. unified-tidy S T a b h.first h.second h.rest h.rest_limits T.level h.count (ap (λ t. all_parameters (parameters_of t)) h.stays.tables) h.fall
      (subst (IsTidy S) (sym h.stays.level) t);
  constructors = constructors-same S T h.stays.tables;
}

pub unified_equal : (S T : State) (a b : ℕ) → Unified S T a b → HasType S a → HasType S b → Always T (λ W. type_of W a ≡ type_of W b)
unified_equal S T a b h i j W c =
    let at : (k : ℕ) → k < length (types_in S) → type_of W k ≡ sub W.value (type_at (types_in S) k)
    = λ k lt. ap (sub W.value) (c.types k (subst (λ l. k < length l) (sym h.types) lt) ∙ ap (λ l. type_at l k) h.types) in
    at a i.held ∙ ((h.general W.admits W.value).0 c.solves).1 ∙ sym (at b j.held)

-- a type written
pub record Wrote (S T : State) (w : Written) : Type 0 where
  pub solver : T.solver ≡ S.solver
  pub written : T.written.items ≡ S.written.items ++ w ∷ []
  pub namings : T.namings.items ≡ S.namings.items
  pub tables : T.tables ≡ S.tables
  pub next : T.next ≡ S.next
  pub level : T.level ≡ S.level

found-last : {A : Type 0} (xs : List A) (a : A) → slice_get (xs ++ a ∷ []) (length xs) ≡ Some a
found-last [] a = refl
found-last (x ∷ xs) a = found-last xs a

pub wrote_grows : (S T : State) (w : Written) → Wrote S T w → Grows S T
wrote_grows S T w h = record {
  types = begins-same _ _ (ap (λ s. s.subst.types) h.solver);
  written = begins-more _ (w ∷ []) _ h.written;
  namings = begins-same _ _ h.namings;
  lists = begins-same _ _ (ap parameters_of h.tables);
  strings = begins-same _ _ (ap strings_of h.tables);
  rows = rows-same S.tables T.tables h.tables;
  variables = let e : made T ≡ made S = ap (λ s. length s.subst.slots.items) h.solver in omega (arith, e);
  solves = λ m f s. subst (λ x. Solves m f (said x.subst)) h.solver s;
  limits = λ v lt. same-limit (limit_in T v) (limit_in S v) (ap (λ s. limit_at s.limits.items v) h.solver);
  next = let e = h.next in omega (arith, e);
  level = h.level;
  done = makes-done S T (solver-makes S T h.solver (same-general S T h.tables) h.level);
  tidy = makes-tidy S T (solver-makes S T h.solver (same-general S T h.tables) h.level);
  constructors = constructors-same S T h.tables;
}

pub wrote_is : (S T : State) (w : Written) (k : ℕ) → Wrote S T w → k ≡ length S.written.items → Always T (λ W. W.reading.type k ≡ type_as (W.naming w.naming) (type_of W w.ty))
wrote_is S T w k h e W c = c.written k w (ap (slice_get T.written.items) e ∙ ap (λ l. slice_get l (length S.written.items)) h.written ∙ found-last S.written.items w)

-- the invariants of a state
pub written_later : (m n count : ℕ) (ws : List Written) → m ≤ n → AreWritten m count ws → AreWritten n count ws
written_later m n count [] le h = tt
written_later m n count (w ∷ ws) le h = ((omega (arith, h.0.0, le), h.0.1), written_later m n count ws le h.1)

pub written_more : (n count : ℕ) (ws : List Written) (w : Written) → AreWritten n count ws → w.ty < n → IsAmong count w.naming → AreWritten n count (ws ++ w ∷ [])
written_more n count [] w h lt i = ((lt, i), tt)
written_more n count (x ∷ ws) w h lt i = (h.0, written_more n count ws w h.1 lt i)

pub written_pushed : (n count : ℕ) (b : Bool) (ws new : List Written) (w : Written) → new ≡ (if b then ws ++ w ∷ [] else ws) → AreWritten n count ws → w.ty < n
    → IsAmong count w.naming → AreWritten n count new
written_pushed n count true ws new w e h lt i = subst (AreWritten n count) (sym e) (written_more n count ws w h lt i)
written_pushed n count false ws new w e h lt i = subst (AreWritten n count) (sym e) h

pub begins-of : (ts us vs : List Typ) → us ≡ ts → take (length us) vs ≡ us → take (length ts) vs ≡ ts
begins-of ts us vs e h = subst (λ (l : List Typ). take (length l) vs ≡ l) e h

pub next_grows : (S T : State) → T.solver ≡ S.solver → T.written.items ≡ S.written.items → T.namings.items ≡ S.namings.items → T.tables ≡ S.tables → T.next ≡ S.next + 1 → T.level ≡ S.level → Grows S T
next_grows S T a b c d e l = record {
  types = begins-same _ _ (ap (λ s. s.subst.types) a);
  written = begins-same _ _ b;
  namings = begins-same _ _ c;
  lists = begins-same _ _ (ap parameters_of d);
  strings = begins-same _ _ (ap strings_of d);
  rows = rows-same S.tables T.tables d;
  variables = let e : made T ≡ made S = ap (λ s. length s.subst.slots.items) a in omega (arith, e);
  solves = λ m f s. subst (λ x. Solves m f (said x.subst)) a s;
  limits = λ v lt. same-limit (limit_in T v) (limit_in S v) (ap (λ s. limit_at s.limits.items v) a);
  next = omega (arith, e);
  level = l;
  done = makes-done S T (solver-makes S T a (same-general S T d) l);
  tidy = makes-tidy S T (solver-makes S T a (same-general S T d) l);
  constructors = constructors-same S T d;
}

-- a type made of parts
pub record Applied (S T : State) (h : Symbol) (ks : List ℕ) (r : ℕ) : Type 0 where
  pub stays : Stays S T
  pub types : Begins (types_in S) (types_in T)
  pub slots : T.solver.subst.slots.items ≡ S.solver.subst.slots.items
  pub limits : T.solver.limits.items ≡ S.solver.limits.items
  pub says : said T.solver.subst ≡ said S.solver.subst
  pub is : slice_get (types_in T) r ≡ Some (con h (types_at (types_in S) ks))

pub applied_grows : (S T : State) (h : Symbol) (ks : List ℕ) (r : ℕ) → Applied S T h ks r → Grows S T
applied_grows S T h ks r a = record {
  types = a.types;
  written = begins-same _ _ a.stays.written;
  namings = begins-same _ _ a.stays.namings;
  lists = begins-same _ _ (ap parameters_of a.stays.tables);
  strings = begins-same _ _ (ap strings_of a.stays.tables);
  rows = rows-same S.tables T.tables a.stays.tables;
  variables = let e : made T ≡ made S = ap length a.slots in omega (arith, e);
  solves = λ m f s. subst (Solves m f) a.says s;
  limits = λ v lt. same-limit (limit_in T v) (limit_in S v) (ap (λ ls. limit_at ls v) a.limits);
  next = let e = a.stays.next in omega (arith, e);
  level = a.stays.level;
  done = makes-done S T (tables-makes S T a.stays a.slots a.limits a.says);
  tidy = makes-tidy S T (tables-makes S T a.stays a.slots a.limits a.says);
  constructors = constructors-same S T a.stays.tables;
}

both : (a b : Bool) → a ≡ true → b ≡ true → (a && b) ≡ true
both a b e q = ap₂ (λ a b. a && b) e q

pub parts-below : (S : State) (ks : List ℕ) → AreTypes S ks → are_below (made S) (types_at (types_in S) ks) ≡ true
parts-below S [] h = refl
parts-below S (k ∷ ks) h = both (is_below (made S) (type_at (types_in S) k)) (are_below (made S) (types_at (types_in S) ks)) h.0.below (parts-below S ks h.1)

parts-live : (S : State) (ks : List ℕ) → AreTypes S ks → (v : ℕ) → are_in v (types_at (types_in S) ks) ≡ true → (limit_in S v).level < dead_level
parts-live S [] h v i = cc
parts-live S (k ∷ ks) h v i =
    elim (either (is_in v (type_at (types_in S) k)) (are_in v (types_at (types_in S) ks)) i) [ inl j ↦ h.0.live v j | inr j ↦ parts-live S ks h.1 v j ]

pub parts_held : (S : State) (ks : List ℕ) → AreTypes S ks → AllBelow (length (types_in S)) ks
parts_held S [] h = tt
parts_held S (k ∷ ks) h = (h.0.held, parts_held S ks h.1)

pub applied_is : (S T : State) (h : Symbol) (ks : List ℕ) (r : ℕ) → Applied S T h ks r → AreTypes S ks → HasType T r
applied_is S T h ks r a ts = record {
  held = slice_get_within (types_in T) r (con h (types_at (types_in S) ks)) a.is;
  below =
      let e : made T ≡ made S = ap length a.slots in
      subst (λ t. is_below (made T) t ≡ true) (sym (get_or_from_slice_get (types_in T) r (con h (types_at (types_in S) ks)) (var 0) a.is))
      (ap (λ n. are_below n (types_at (types_in S) ks)) e ∙ parts-below S ks ts);
  live = λ v i.
      subst (λ (l : Limit). l.level < dead_level) (ap (λ ls. limit_at ls v) (sym a.limits))
      (parts-live S ks ts v (subst (λ t. is_in v t ≡ true) (get_or_from_slice_get (types_in T) r (con h (types_at (types_in S) ks)) (var 0) a.is) i));
}

pub applied_made : (S T : State) (h : Symbol) (ks : List ℕ) (r : ℕ) → Applied S T h ks r → AreTypes S ks → Always T (λ W. type_of W r ≡ con h (types_of W ks))
applied_made S T h ks r a ts W c =
    ap (sub W.value) (c.types r (slice_get_within (types_in T) r (con h (types_at (types_in S) ks)) a.is) ∙ get_or_from_slice_get (types_in T) r (con h (types_at (types_in S) ks)) (var 0) a.is)
    ∙ ap (con h) (numbers-come S W ks (comes_before S T W (applied_grows S T h ks r a) c) (parts_held S ks ts))

-- a string more
pub record Texted (S T : State) (s : Vec ℕ Global) : Type 0 where
  pub solver : T.solver ≡ S.solver
  pub written : T.written.items ≡ S.written.items
  pub namings : T.namings.items ≡ S.namings.items
  pub types : T.tables.types ≡ S.tables.types
  pub constructors : T.tables.constructors ≡ S.tables.constructors
  pub lists : T.tables.parameters ≡ S.tables.parameters
  pub strings : T.tables.strings.items ≡ S.tables.strings.items ++ s ∷ []
  pub next : T.next ≡ S.next
  pub level : T.level ≡ S.level

begins-map : {A B : Type 0} (f : A → B) (xs ys : List A) → Begins xs ys → Begins (map f xs) (map f ys)
begins-map f [] ys e = refl
begins-map f (x ∷ xs) [] e = cc
begins-map f (x ∷ xs) (y ∷ ys) e = let p : y ≡ x = cc in let q : take (length xs) ys ≡ xs = cc in ap₂ (λ a l. a ∷ l) (ap f p) (begins-map f xs ys q)

pub texted_grows : (S T : State) (s : Vec ℕ Global) → Texted S T s → Grows S T
texted_grows S T s h = record {
  types = begins-same _ _ (ap (λ s. s.subst.types) h.solver);
  written = begins-same _ _ h.written;
  namings = begins-same _ _ h.namings;
  lists = begins-same _ _ (ap (λ v. map (λ p. p.items) v.items) h.lists);
  strings = begins-map (λ s. s.items) S.tables.strings.items T.tables.strings.items (begins-more _ (s ∷ []) _ h.strings);
  rows = λ y c row e. ap₂ (λ ts ks. Rattle.elab_state.specs.of_ir_poly.Types.find (constructors_at ts ks) y c) h.types h.constructors ∙ e;
  variables = let e : made T ≡ made S = ap (λ s. length s.subst.slots.items) h.solver in omega (arith, e);
  solves = λ m f s. subst (λ x. Solves m f (said x.subst)) h.solver s;
  limits = λ v lt. same-limit (limit_in T v) (limit_in S v) (ap (λ s. limit_at s.limits.items v) h.solver);
  next = let e = h.next in omega (arith, e);
  level = h.level;
  done = makes-done S T (solver-makes S T h.solver general h.level);
  tidy = makes-tidy S T (solver-makes S T h.solver general h.level);
  constructors = constructors-stay S T h.types h.constructors;
}
  where
    general : (x : ℕ) → in_scope (general_in T) x ≡ in_scope (general_in S) x
    general x = ap (λ v. in_scope (all_parameters (map (λ p. p.items) v.items)) x) h.lists

pub texted_is : (S T : State) (s : Vec ℕ Global) (k : ℕ) (bytes : List ℕ) → Texted S T s → k ≡ length S.tables.strings.items → s.items ≡ bytes → Always T (λ W. string_at W.reading.strings k ≡ bytes)
texted_is S T s k bytes h e q W c =
    c.strings k bytes (ap (slice_get (strings_of T.tables)) e ∙ at (length S.tables.strings.items) ∙ ap Some q)
  where
    mapped : (xs : List (Vec ℕ Global)) (k : ℕ) (v : Vec ℕ Global) → slice_get xs k ≡ Some v → slice_get (map (λ s. s.items) xs) k ≡ Some v.items
    mapped [] k v e = cc
    mapped (x ∷ xs) zero v e = let p : x ≡ v = cc in ap (λ x. Some x.items) p
    mapped (x ∷ xs) (suc k) v e = mapped xs k v e

    at : (n : ℕ) → slice_get (strings_of T.tables) (length S.tables.strings.items) ≡ Some s.items
    at n = mapped T.tables.strings.items (length S.tables.strings.items) s (ap (λ l. slice_get l (length S.tables.strings.items)) h.strings ∙ found-last S.tables.strings.items s)

-- more types in the table
pub record Tabled (S T : State) : Type 0 where
  pub stays : Stays S T
  pub types : Begins (types_in S) (types_in T)
  pub slots : T.solver.subst.slots.items ≡ S.solver.subst.slots.items
  pub limits : T.solver.limits.items ≡ S.solver.limits.items
  pub says : said T.solver.subst ≡ said S.solver.subst

pub tabled_grows : (S T : State) → Tabled S T → Grows S T
tabled_grows S T a = record {
  types = a.types;
  written = begins-same _ _ a.stays.written;
  namings = begins-same _ _ a.stays.namings;
  lists = begins-same _ _ (ap parameters_of a.stays.tables);
  strings = begins-same _ _ (ap strings_of a.stays.tables);
  rows = rows-same S.tables T.tables a.stays.tables;
  variables = let e : made T ≡ made S = ap length a.slots in omega (arith, e);
  solves = λ m f s. subst (Solves m f) a.says s;
  limits = λ v lt. same-limit (limit_in T v) (limit_in S v) (ap (λ ls. limit_at ls v) a.limits);
  next = let e = a.stays.next in omega (arith, e);
  level = a.stays.level;
  done = makes-done S T (tables-makes S T a.stays a.slots a.limits a.says);
  tidy = makes-tidy S T (tables-makes S T a.stays a.slots a.limits a.says);
  constructors = constructors-same S T a.stays.tables;
}

scope-live : (S : State) (xs : List (ℕ × ℕ)) → AllByRecursion (λ b. IsLive S b.1) xs
    → AllByRecursion (λ b. (v : ℕ) → is_in v (type_at (types_in S) b.1) ≡ true → nat_lt (limit_in S v).level dead_level ≡ true) xs
scope-live S [] h = tt
scope-live S (x ∷ xs) h = ((λ v i. lt-ltb (limit_in S v).level dead_level (h.0 v i)), scope-live S xs h.1)

pub annotated_is : (S T : State) (s : TypeScope) (ty : Ty) (r : ℕ) → Tabled S T → AreKnown (made S) (types_in S) s → AreLive S s → IsTypeOf (types_in S) (types_in T) s ty r
    → HasType T r
annotated_is S T s ty r a k l is = record {
  held = is.held;
  below = let e : made T ≡ made S = ap length a.slots in subst (λ n. is_below n (type_at (types_in T) r) ≡ true) (sym e) (known_where (types_in S) (types_in T) s ty r is (made S) k);
  live = λ v i.
      subst (λ (l : Limit). l.level < dead_level) (ap (λ ls. limit_at ls v) (sym a.limits))
      (ltb-true (limit_in S v).level dead_level
      (annotation-in (λ x. nat_lt (limit_in S x).level dead_level) (types_in S) (types_in T) s ty r is (scope-live S s.tyvars l) v i));
}
