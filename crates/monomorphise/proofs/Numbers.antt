-- Numbers of types.
use Rattle.std.proofs.Common.{◌≡◌, ℕ, suc, List, [], ◌∷◌, map, length, Bool, true, false, Option, Some, if◌then◌else◌, refl, sym, ap, subst, zero, ◌&&◌}
use Rattle.std.specs.Map.{lookup}
use Rattle.mlc_names.specs.declared.label.Label.{Label}
use Rattle.mlc_names.specs.declared.label.Label.TheVariants.{Number}
use Rattle.mlc_prims.specs.LitOf.{Literal}
use Rattle.mlc_prims.specs.declared.basis.BasisPrimitive.{BasisPrimitive}
use Rattle.ty_core.specs.Types.{labels, name, Typ, var, con, Typs, none, more, typs_of, no_variable}
use Rattle.ty_core.specs.Statics.{replace, replace_all}
use Rattle.ty_core.specs.Types as typ
use Rattle.ty_core.specs.Types.{allowed}
use Rattle.ty_core.specs.declared.name.Equality as Eq
use Rattle.ty_core.specs.declared.name.Equality.TheVariants.{Always, ByArguments, Never}
use Rattle.ty_core.specs.Marks as marks
use Rattle.ty_core.specs.declared.mark.Mark.{Mark}
use Rattle.ty_core.specs.declared.mark.Mark.TheVariants.{Any, Equality, Class}
use Rattle.ir_mono.specs.of_ir_values.Values.{same_label}
use Rattle.ir_mono.specs.of_ir_poly.Types as poly
use Rattle.ir_mono.specs.of_ir_poly.Types.{Constructor, of_name, function_type, ref_type, row_type, tuple_type, put, prim_type, arguments_at, result_at, nth_type, argument_at}
use Rattle.ir_mono.specs.of_ir_poly.TestsChecked as checked
use Rattle.ir_mono.specs.Types.{constructor_at, admits, Row, Node, node, node_at, part, unit_number, Is, IsFunction, IsRef, IsExn, HasLiteral, has_int, has_word, has_char, has_string, Stands, stands_var, stands_con, AllStand, stand_none, stand_more, numbered, IsTuple, nothing, alone, together}
use Rattle.ir_mono.specs.Typing as mt
use Rattle.ir_mono.specs.Typing.{PrimAt}
use Rattle.monomorphise.specs.Simple.{IsType, SameArgument, no_argument, an_argument, all_flagged, nth_part, ArgumentIs, argument_is_none, argument_is, IsTableOf}

module _ (types : List Row) (once : (n m : ℕ) (k : Node) → node_at types n ≡ Some k → node_at types m ≡ Some k → n ≡ m) where
  abbrev pub AllTypes : List ℕ → Typs → Type 0
  AllTypes = AllStand types (λ v. unit_number)

  mutual
    -- a type has one number
    pub unique : {n m : ℕ} {t : Typ} → IsType types n t → IsType types m t → n ≡ m
    unique stands_var stands_var = refl
    unique {n} {m} (stands_con {h = h} {ns = ns} i is) (stands_con {ns = ms} j js) = once n m (node h ns) i (subst (λ z. node_at types m ≡ Some (node h z)) (sym (all-unique is js)) j)

    all-unique : {ns ms : List ℕ} {ts : Typs} → AllTypes ns ts → AllTypes ms ts → ns ≡ ms
    all-unique stand_none stand_none = refl
    all-unique (stand_more i is) (stand_more j js) = rw (unique i j, all-unique is js) refl

  mutual
    -- at a type that the parameter stands for
    pub at-parameter : {m : ℕ} {b : Typ} (t : Typ) {n : ℕ} → IsType types m b → IsType types n (put b t) → Stands types (λ v. m) n t
    at-parameter {m = m} (var v) {n} p i = subst (λ z. Stands types (λ v. m) z (var v)) (unique p i) stands_var
    at-parameter (con h ts) p (stands_con i is) = stands_con i (all-at-parameter ts p is)

    all-at-parameter : {m : ℕ} {b : Typ} (ts : Typs) {ns : List ℕ} → IsType types m b → AllTypes ns (replace_all (λ v. b) ts) → AllStand types (λ v. m) ns ts
    all-at-parameter none p stand_none = stand_none
    all-at-parameter (more t ts) p (stand_more i is) = stand_more (at-parameter t p i) (all-at-parameter ts p is)

  typs-put : (b : Typ) (ts : List Typ) → typs_of (map (put b) ts) ≡ replace_all (λ v. b) (typs_of ts)
  typs-put b [] = refl
  typs-put b (t ∷ ts) = ap (more (put b t)) (typs-put b ts)

  pub arguments-at-parameter : {m : ℕ} {b : Typ} (ts : List Typ) {ns : List ℕ} → IsType types m b → AllTypes ns (typs_of (map (put b) ts)) → AllStand types (λ v. m) ns (typs_of ts)
  arguments-at-parameter {b = b} ts {ns} p is = all-at-parameter (typs_of ts) p (subst (AllTypes ns) (typs-put b ts) is)

  -- what a type is made of
  pub record FunctionOf (n : ℕ) (t u : Typ) : Type 0 where
    pub argument : ℕ
    pub result : ℕ
    pub is : IsFunction types n argument result
    pub argument_is : IsType types argument t
    pub result_is : IsType types result u

  pub function-of : {n : ℕ} {t u : Typ} → IsType types n (function_type t u) → FunctionOf n t u
  function-of (stands_con i (stand_more a (stand_more r stand_none))) = record { argument = _; result = _; is = i; argument_is = a; result_is = r }

  pub ref-of : {n a : ℕ} {t : Typ} → IsType types n (ref_type t) → IsType types a t → IsRef types n a
  ref-of {n} (stands_con i (stand_more b stand_none)) a = subst (λ z. IsRef types n z) (unique b a) i

  pub exn-of : {n : ℕ} → IsType types n checked.exn_type → IsExn types n
  exn-of (stands_con i stand_none) = i

  pub literal-of : {l : Literal} {t : Typ} {n : ℕ} → checked.HasLiteral l t → IsType types n t → HasLiteral types l n
  literal-of (checked.has_int z) (stands_con i stand_none) = has_int z i
  literal-of (checked.has_word k) (stands_con i stand_none) = has_word k i
  literal-of (checked.has_char k) (stands_con i stand_none) = has_char k i
  literal-of (checked.has_string s) (stands_con i stand_none) = has_string s i

  abbrev pub labels_of : List (Label × Typ) → List Label
  labels_of r = map (λ f. f.0) r

  abbrev pub types_of : List (Label × Typ) → Typs
  types_of r = typs_of (map (λ f. f.1) r)

  pub record RecordOf (n : ℕ) (r : List (Label × Typ)) : Type 0 where
    pub parts : List ℕ
    pub is : Is types n (labels (labels_of r)) parts
    pub parts_are : AllTypes parts (types_of r)

  pub record-of : {n : ℕ} {r : List (Label × Typ)} → IsType types n (row_type r) → RecordOf n r
  record-of (stands_con i is) = record { parts = _; is = i; parts_are = is }

  pub length-labels : (r : List (Label × Typ)) → length (labels_of r) ≡ length r
  length-labels [] = refl
  length-labels (f ∷ r) = ap suc (length-labels r)

  pub part-of : (l : Label) (r : List (Label × Typ)) {ns : List ℕ} {t : Typ} {n : ℕ} → AllTypes ns (types_of r) → lookup (same_label l) r ≡ Some t → IsType types n t → part l (labels_of r) ns ≡ Some n
  part-of l [] is e i = absurd (cc)
  part-of l (f ∷ r) {t = t} {n = n} (stand_more {n = m} {ns = ns} j js) e i = go (same_label l f.0) (λ q. part-of l r js q i) e
    where
      go : (b : Bool) → (lookup (same_label l) r ≡ Some t → part l (labels_of r) ns ≡ Some n) → (if b then Some f.1 else lookup (same_label l) r) ≡ Some t → (if b then Some m else part l (labels_of r) ns) ≡ Some n
      go true h q = let same : f.1 ≡ t = cc in ap Some (unique (subst (λ z. IsType types m z) same j) i)
      go false h q = h q

  -- tuples
  numbered-labels : (k : ℕ) (ts : List Typ) {ns : List ℕ} → AllTypes ns (typs_of ts) → labels_of (poly.numbered k ts) ≡ numbered k ns
  numbered-labels k [] stand_none = refl
  numbered-labels k (t ∷ ts) (stand_more i is) = ap (λ l. Number k ∷ l) (numbered-labels (suc k) ts is)

  numbered-types : (k : ℕ) (ts : List Typ) → map (λ (f : Label × Typ). f.1) (poly.numbered k ts) ≡ ts
  numbered-types k [] = refl
  numbered-types k (t ∷ ts) = ap (λ l. t ∷ l) (numbered-types (suc k) ts)

  pub record TupleOf (n : ℕ) (ts : List Typ) : Type 0 where
    pub parts : List ℕ
    pub is : IsTuple types parts n
    pub parts_are : AllTypes parts (typs_of ts)

  pub tuple-of : {n : ℕ} (ts : List Typ) → IsType types n (tuple_type ts) → TupleOf n ts
  tuple-of {n} (t ∷ []) i = record { parts = n ∷ []; is = alone; parts_are = stand_more i stand_none }
  tuple-of [] (stands_con i stand_none) = record { parts = []; is = nothing i; parts_are = stand_none }
  tuple-of {n} (t ∷ u ∷ ts) i = go (record-of {r = poly.numbered 1 (t ∷ u ∷ ts)} i)
    where
      go : RecordOf n (poly.numbered 1 (t ∷ u ∷ ts)) → TupleOf n (t ∷ u ∷ ts)
      go q = from q.is (subst (λ z. AllTypes q.parts (typs_of z)) (numbered-types 1 (t ∷ u ∷ ts)) q.parts_are)
        where
          from : {ns : List ℕ} → Is types n (labels (labels_of (poly.numbered 1 (t ∷ u ∷ ts)))) ns → AllTypes ns (typs_of (t ∷ u ∷ ts)) → TupleOf n (t ∷ u ∷ ts)
          from i (stand_more {n = a} j (stand_more {n = b} {ns = ns} k js)) =
              record { parts = a ∷ b ∷ ns; is = together (subst (λ z. Is types n (labels z) (a ∷ b ∷ ns)) (numbered-labels 1 (t ∷ u ∷ ts) (stand_more j (stand_more k js))) i); parts_are = stand_more j (stand_more k js) }

pub allowed-still : (e : Eq.Equality) (b d : Bool) → (b ≡ true → d ≡ true) → allowed e b ≡ true → allowed e d ≡ true
allowed-still Always b d f h = refl
allowed-still ByArguments b d f h = f h
allowed-still Never b d f h = absurd (cc)

both-true : {a b : Bool} → a ≡ true → b ≡ true → (a && b) ≡ true
both-true e h = rw (e, h) refl

left-true : (a b : Bool) → (a && b) ≡ true → a ≡ true
left-true true b e = refl
left-true false b e = absurd (cc)

right-true : (a b : Bool) → (a && b) ≡ true → b ≡ true
right-true true b e = e
right-true false b e = absurd (cc)

module _ (constructors : List Constructor) (types : List Row) (tab : IsTableOf constructors types) where
  mutual
    -- what admits equality is said to
    pub equality-at : (t : Typ) {n : ℕ} → IsType types n t → typ.admits no_variable t ≡ true → admits types n ≡ true
    equality-at (var v) i h = absurd (cc)
    equality-at (con h ts) {n} (stands_con {ns = ns} i is) e =
        tab.equality n h ns i (allowed-still (typ.attribute h) (typ.all_admit no_variable ts) (all_flagged types ns) (all-equality ts is) e)

    all-equality : (ts : Typs) {ns : List ℕ} → AllStand types (λ v. unit_number) ns ts → typ.all_admit no_variable ts ≡ true → all_flagged types ns ≡ true
    all-equality none stand_none e = refl
    all-equality (more t ts) (stand_more {n = n} {ns = ns} i is) e =
        both-true (equality-at t i (left-true (typ.admits no_variable t) (typ.all_admit no_variable ts) e)) (all-equality ts is (right-true (typ.admits no_variable t) (typ.all_admit no_variable ts) e))

  nth-type : (ts : List Typ) {ps : List ℕ} (v : ℕ) → AllStand types (λ v. unit_number) ps (typs_of ts) → IsType types (nth_part ps v) (nth_type ts v)
  nth-type [] v stand_none = stands_con tab.sound.unit stand_none
  nth-type (t ∷ ts) zero (stand_more i is) = i
  nth-type (t ∷ ts) (suc v) (stand_more i is) = nth-type ts v is

  mutual
    put-parts : (ts : List Typ) {ps : List ℕ} (t : Typ) {n : ℕ} → AllStand types (λ v. unit_number) ps (typs_of ts) → Stands types (nth_part ps) n t → IsType types n (replace (nth_type ts) t)
    put-parts ts (var v) h stands_var = nth-type ts v h
    put-parts ts (con k us) h (stands_con i is) = stands_con i (put-all-parts ts us h is)

    put-all-parts : (ts : List Typ) {ps : List ℕ} (us : Typs) {ns : List ℕ} → AllStand types (λ v. unit_number) ps (typs_of ts) → AllStand types (nth_part ps) ns us → AllStand types (λ v. unit_number) ns (replace_all (nth_type ts) us)
    put-all-parts ts none h stand_none = stand_none
    put-all-parts ts (more u us) h (stand_more i is) = stand_more (put-parts ts u h i) (put-all-parts ts us h is)

  argument-of : (ts : List Typ) {ps : List ℕ} {o : Option Typ} {a : Option ℕ} → AllStand types (λ v. unit_number) ps (typs_of ts) → ArgumentIs types ps o a → SameArgument types (argument_at ts o) a
  argument-of ts h argument_is_none = no_argument
  argument-of ts h (argument_is {t = t} i) = an_argument (put-parts ts t h i)

  -- constructors have the arguments that they have in the program
  pub arguments-at : (n c : ℕ) (t : Typ) (o : Option Typ) (a : Option ℕ) → IsType types n t → checked.HasConstructor constructors c t o → constructor_at types n c ≡ Some a → SameArgument types o a
  arguments-at n c t o a i h e = go e (subst (IsType types n) h.type i)
    where
      go : {m : ℕ} → constructor_at types m c ≡ Some a → IsType types m (con (name h.datatype) (typs_of h.arguments)) → SameArgument types o a
      go {m} e (stands_con {ns = ps} j js) = subst (λ z. SameArgument types z a) h.argument (argument-of h.arguments js (tab.arguments m c h.datatype ps h.row a j h.found h.same e))

  -- what a primitive's mark allows
  pub mark-at : (a : Mark) {b : Typ} {u : ℕ} → IsType types u b → marks.Allows a no_variable b → mt.Allows types a u
  mark-at Any i h = tt
  mark-at Equality {b} {u} i h = equality-at b i h
  mark-at (Class c) {b} {u} i h = record { number = h.number; is = class-node (subst (IsType types u) h.is i); held = h.held }
    where
      class-node : {k v : ℕ} → IsType types v (con (name (marks.overloaded k)) none) → Is types v (name (marks.overloaded k)) []
      class-node (stands_con i stand_none) = i

  pub prim-at : (p : BasisPrimitive) {b : Typ} {u n : ℕ} {ns : List ℕ} → IsType types u b → marks.Allows (prim_type p).mark no_variable b → AllTypes types tab.sound.once ns (typs_of (arguments_at p b)) → IsType types n (result_at p b) → PrimAt types p u ns n
  prim-at p i h is j = record { mark = mark-at (prim_type p).mark i h; arguments = arguments-at-parameter types tab.sound.once (prim_type p).arguments i is; result = at-parameter types tab.sound.once (prim_type p).result i j }
