-- What a later state says tells what an earlier one said.
use Rattle.std.proofs.Common.{◌≡◌, ◌<◌, ◌≤◌, ◌+◌, ◌-◌, ℕ, zero, suc, Bool, true, false, ◌&&◌, ◌||◌, List, [], ◌∷◌, ◌++◌, length, take, get_or, Option, Some, slice_get, nat_lt, refl, sym, ap, ap₂, subst, ◌∙◌, arith}
use Rattle.std.proofs.lemmas.Bool.{ltb-true, lt-ltb}
use Rattle.ty_core.specs.Types.{Typ, var, con, Typs, none, more}
use Rattle.ty_core.specs.declared.scheme.Quantified.{Quantified}
use Rattle.ty_table.specs.TypeAt.{type_at}
use Rattle.elab_types.specs.of_ty_solve.Substitution.{is_below, are_below, is_in}
use Rattle.elab_types.proofs.of_ty_solve.Holding.{type-stays}
use Rattle.elab_state.proofs.of_ty_instance.Going.{stays-on, longer, whole}
use Rattle.elab_types.specs.of_core_rules.Objects.{Over}
use Rattle.elab_state.specs.of_ir_poly.Types.{in_scope, over, all_over}
use Rattle.elab_state.specs.of_ir_tables.Tables.{parameters_of, strings_of}
use Rattle.elab_state.proofs.of_elab_typed.Under.{over-more}
use Rattle.elab_state.specs.States.{types_in, made, limit_in, general_in, all_parameters, dead_level}
use Rattle.elab_state.proofs.Typed.{in-below}
use Rattle.elab_steps.specs.Growing.{HasType, HasGeneral, Begins, Grows, Always}
use Rattle.elab_state.specs.declared.state.State.{State}
use Rattle.elab_steps.specs.World.{World, Comes}

within : (a b c : ℕ) → a < b → b ≤ c → a < c
within a b c p q = omega arith

at-most : (a b c : ℕ) → a ≤ b → b ≤ c → a ≤ c
at-most a b c p q = omega arith

under : (a b c : ℕ) → a ≤ b → b < c → a < c
under a b c p q = omega arith

-- lists with more behind them

longer-than : {A : Type 0} (xs ys : List A) → Begins xs ys → length xs ≤ length ys
longer-than [] ys e = omega arith
longer-than (x ∷ xs) [] e = cc
longer-than (x ∷ xs) (y ∷ ys) e = let h : take (length xs) ys ≡ xs = cc in let k = longer-than xs ys h in omega (arith, k)

pub found-later : {A : Type 0} (xs ys : List A) (k : ℕ) (a : A) → Begins xs ys → slice_get xs k ≡ Some a → slice_get ys k ≡ Some a
found-later [] ys k a e q = cc
found-later (x ∷ xs) [] k a e q = cc
found-later (x ∷ xs) (y ∷ ys) zero a e q = let h : y ≡ x = cc in ap Some h ∙ q
found-later (x ∷ xs) (y ∷ ys) (suc k) a e q = let h : take (length xs) ys ≡ xs = cc in found-later xs ys k a h q

-- the variables that were generalised

in-front : (qs rs : List Quantified) (v : ℕ) → in_scope qs v ≡ true → in_scope (qs ++ rs) v ≡ true
in-front [] rs v e = cc
in-front (q ∷ qs) rs v e = by (Rattle.std.proofs.Common.nat_eq q.variable v) (in_scope qs v) e (in-front qs rs v)
  where
    by : (b c : Bool) → (b || c) ≡ true → (c ≡ true → in_scope (qs ++ rs) v ≡ true) → (b || in_scope (qs ++ rs) v) ≡ true
    by true c e h = refl
    by false c e h = h e

behind : (qs rs : List Quantified) (v : ℕ) → in_scope rs v ≡ true → in_scope (qs ++ rs) v ≡ true
behind [] rs v e = e
behind (q ∷ qs) rs v e = by (Rattle.std.proofs.Common.nat_eq q.variable v) (behind qs rs v e)
  where
    by : (b : Bool) → in_scope (qs ++ rs) v ≡ true → (b || in_scope (qs ++ rs) v) ≡ true
    by true h = refl
    by false h = h

apart : (qs rs : List Quantified) (v : ℕ) (P : Type 0) → (in_scope qs v ≡ true → P) → (in_scope rs v ≡ true → P) → in_scope (qs ++ rs) v ≡ true → P
apart [] rs v P f g e = g e
apart (q ∷ qs) rs v P f g e = by (Rattle.std.proofs.Common.nat_eq q.variable v) refl e (λ f. apart qs rs v P f g)
  where
    by : (b : Bool) → Rattle.std.proofs.Common.nat_eq q.variable v ≡ b → (b || in_scope (qs ++ rs) v) ≡ true
        → ((in_scope qs v ≡ true → P) → in_scope (qs ++ rs) v ≡ true → P) → P
    by true s h k = f (ap (λ b. b || in_scope qs v) s)
    by false s h k = k (λ i. f (ap (λ b. b || in_scope qs v) s ∙ i)) h

pub general-later : (xs ys : List (List Quantified)) (v : ℕ) → Begins xs ys → in_scope (all_parameters xs) v ≡ true → in_scope (all_parameters ys) v ≡ true
general-later [] ys v e h = cc
general-later (x ∷ xs) [] v e h = cc
general-later (x ∷ xs) (y ∷ ys) v e h =
    let s : y ≡ x = cc in
    let t : take (length xs) ys ≡ xs = cc in
    apart x (all_parameters xs) v (in_scope (y ++ all_parameters ys) v ≡ true)
    (λ i. in-front y (all_parameters ys) v (ap (λ q. in_scope q v) s ∙ i))
    (λ i. behind y (all_parameters ys) v (general-later xs ys v t i)) h

-- types over parameters and names

mutual
  pub over-wider : (qs rs : List Quantified) → ((v : ℕ) → in_scope qs v ≡ true → in_scope rs v ≡ true) → (t : Typ) → over qs t ≡ true → over rs t ≡ true
  over-wider qs rs h (var v) e = h v e
  over-wider qs rs h (con y ts) e = all-over-wider qs rs h ts e

  all-over-wider : (qs rs : List Quantified) → ((v : ℕ) → in_scope qs v ≡ true → in_scope rs v ≡ true) → (ts : Typs) → all_over qs ts ≡ true → all_over rs ts ≡ true
  all-over-wider qs rs h none e = refl
  all-over-wider qs rs h (more t ts) e =
      both (over rs t) (all_over rs ts) (over-wider qs rs h t (left (over qs t) (all_over qs ts) e)) (all-over-wider qs rs h ts (right (over qs t) (all_over qs ts) e))
    where
      left : (a b : Bool) → (a && b) ≡ true → a ≡ true
      left true b e = refl
      left false b e = e

      right : (a b : Bool) → (a && b) ≡ true → b ≡ true
      right true b e = e
      right false b e = cc

      both : (a b : Bool) → a ≡ true → b ≡ true → (a && b) ≡ true
      both a b e q = ap₂ (λ a b. a && b) e q

pub nested-more : (W : World) (l k v : ℕ) → in_scope (W.parameters l) v ≡ true → in_scope (W.parameters (k + l)) v ≡ true
nested-more W l zero v e = let s : l ≡ 0 + l = omega arith in subst (λ n. in_scope (W.parameters n) v ≡ true) s e
nested-more W l (suc k) v e = let s : suc (k + l) ≡ suc k + l = omega arith in subst (λ n. in_scope (W.parameters n) v ≡ true) s (W.nested (k + l) v (nested-more W l k v e))

pub nested-up : (W : World) (l m : ℕ) → l ≤ m → (v : ℕ) → in_scope (W.parameters l) v ≡ true → in_scope (W.parameters m) v ≡ true
nested-up W l m le v e = let s : (m - l) + l ≡ m = omega arith in subst (λ n. in_scope (W.parameters n) v ≡ true) s (nested-more W l (m - l) v e)

pub over-up : (m n : ℕ) (t : Typ) → m ≤ n → Over m t → Over n t
over-up m n t le o = let s : m + (n - m) ≡ n = omega arith in subst (λ n. Over n t) s (over-more m (n - m) t o)

mutual
  pub below-up : (m n : ℕ) → m ≤ n → (t : Typ) → is_below m t ≡ true → is_below n t ≡ true
  below-up m n le (var v) e = lt-ltb v n (within v m n (ltb-true v m e) le)
  below-up m n le (con y ts) e = belows-up m n le ts e

  belows-up : (m n : ℕ) → m ≤ n → (ts : Typs) → are_below m ts ≡ true → are_below n ts ≡ true
  belows-up m n le none e = refl
  belows-up m n le (more t ts) e =
      both (is_below n t) (are_below n ts) (below-up m n le t (left (is_below m t) (are_below m ts) e)) (belows-up m n le ts (right (is_below m t) (are_below m ts) e))
    where
      left : (a b : Bool) → (a && b) ≡ true → a ≡ true
      left true b e = refl
      left false b e = e

      right : (a b : Bool) → (a && b) ≡ true → b ≡ true
      right true b e = e
      right false b e = cc

      both : (a b : Bool) → a ≡ true → b ≡ true → (a && b) ≡ true
      both a b e q = ap₂ (λ a b. a && b) e q

-- states

pub grows_same : (S : State) → Grows S S
grows_same S = record {
  types = whole (types_in S);
  written = whole S.written.items;
  namings = whole S.namings.items;
  lists = whole (parameters_of S.tables);
  strings = whole (strings_of S.tables);
  rows = λ y c row e. e;
  variables = omega arith;
  solves = λ m f s. s;
  limits = λ v lt. (omega arith, omega arith);
  next = omega arith;
  level = refl;
  done = λ v lt e. record { said = refl; level = e };
  tidy = λ t. t;
  constructors = λ k. k;
}

pub grows_on : (S T U : State) → Grows S T → Grows T U → Grows S U
grows_on S T U g h = record {
  types = stays-on _ _ _ g.types h.types;
  written = stays-on _ _ _ g.written h.written;
  namings = stays-on _ _ _ g.namings h.namings;
  lists = stays-on _ _ _ g.lists h.lists;
  strings = stays-on _ _ _ g.strings h.strings;
  rows = λ y c row e. h.rows y c row (g.rows y c row e);
  variables = at-most (made S) (made T) (made U) g.variables h.variables;
  solves = λ m f s. g.solves m f (h.solves m f s);
  limits = λ v lt.
      let a = g.limits v lt in let b = h.limits v (within v (made S) (made T) lt g.variables) in
      (at-most (limit_in U v).names (limit_in T v).names (limit_in S v).names b.0 a.0, at-most (limit_in U v).level (limit_in T v).level (limit_in S v).level b.1 a.1);
  next = at-most S.next T.next U.next g.next h.next;
  level = h.level ∙ g.level;
  done = λ v lt e.
      let a = g.done v lt e in let b = h.done v (within v (made S) (made T) lt g.variables) a.level in record { said = b.said ∙ a.said; level = b.level };
  tidy = λ t. h.tidy (g.tidy t);
  constructors = λ k. h.constructors (g.constructors k);
}

pub type_later : (S T : State) (k : ℕ) → Grows S T → HasType S k → HasType T k
type_later S T k g i = record {
  held = within k (length (types_in S)) (length (types_in T)) i.held (longer (types_in S) (types_in T) g.types);
  below =
      subst (λ t. is_below (made T) t ≡ true) (sym (type-stays (types_in S) (types_in T) k g.types i.held)) (below-up (made S) (made T) g.variables (type_at (types_in S) k) i.below);
  live = λ v j.
      let here : is_in v (type_at (types_in S) k) ≡ true = subst (λ t. is_in v t ≡ true) (type-stays (types_in S) (types_in T) k g.types i.held) j in
      under (limit_in T v).level (limit_in S v).level dead_level (g.limits v (in-below (made S) v (type_at (types_in S) k) here i.below)).1 (i.live v here);
}

pub general_later : (S T : State) (qs : List Quantified) (k : ℕ) → Grows S T → HasGeneral S qs k → HasGeneral T qs k
general_later S T qs k g i = record {
  held = within k (length (types_in S)) (length (types_in T)) i.held (longer (types_in S) (types_in T) g.types);
  below =
      subst (λ t. is_below (made T) t ≡ true) (sym (type-stays (types_in S) (types_in T) k g.types i.held)) (below-up (made S) (made T) g.variables (type_at (types_in S) k) i.below);
  live = λ v j out.
      let here : is_in v (type_at (types_in S) k) ≡ true = subst (λ t. is_in v t ≡ true) (type-stays (types_in S) (types_in T) k g.types i.held) j in
      under (limit_in T v).level (limit_in S v).level dead_level (g.limits v (in-below (made S) v (type_at (types_in S) k) here i.below)).1 (i.live v here out);
}

-- a type is one that was generalised, with no parameters or any
pub general-type : (S : State) (qs : List Quantified) (k : ℕ) → HasType S k → HasGeneral S qs k
general-type S qs k i = record { held = i.held; below = i.below; live = λ v j out. i.live v j }

apart-before : (b c : Bool) → c ≡ false → (b ≡ true → c ≡ true) → b ≡ false
apart-before true c e h = let q = h refl in cc
apart-before false c e h = refl

pub comes_before : (S T : State) (W : World) → Grows S T → Comes T W → Comes S W
comes_before S T W g c = record {
  solves = g.solves W.admits W.value c.solves;
  names = λ v lt. over-up (limit_in T v).names (limit_in S v).names (W.value v) (g.limits v lt).0 (c.names v (within v (made S) (made T) lt g.variables));
  within = λ v lt deep.
      let le = (g.limits v lt).1 in
      over-wider (W.parameters (limit_in T v).level) (W.parameters (limit_in S v).level) (nested-up W (limit_in T v).level (limit_in S v).level le) (W.value v)
      (c.within v (within v (made S) (made T) lt g.variables) (under (limit_in T v).level (limit_in S v).level dead_level le deep));
  itself = λ v e. c.itself v (general-later (parameters_of S.tables) (parameters_of T.tables) v g.lists e);
  apart = λ l v i. apart-before (in_scope (general_in S) v) (in_scope (general_in T) v) (c.apart l v i) (general-later (parameters_of S.tables) (parameters_of T.tables) v g.lists);
  types = λ k lt. c.types k (within k (length (types_in S)) (length (types_in T)) lt (longer (types_in S) (types_in T) g.types)) ∙ type-stays (types_in S) (types_in T) k g.types lt;
  written = λ k w e. c.written k w (found-later S.written.items T.written.items k w g.written e);
  namings = λ k r e. c.namings k r (found-later S.namings.items T.namings.items k r g.namings e);
  lists = λ k qs e. c.lists k qs (found-later (parameters_of S.tables) (parameters_of T.tables) k qs g.lists e);
  strings = λ k s e. c.strings k s (found-later (strings_of S.tables) (strings_of T.tables) k s g.strings e);
  rows = λ y k row e. c.rows y k row (g.rows y k row e);
}

-- what always holds of an earlier state holds of a later one
pub always_later : (S T : State) (P : World → Type 0) → Grows S T → Always S P → Always T P
always_later S T P g a W c = a W (comes_before S T W g c)
