-- Lists of one to three, and the types of primitives.
use Rattle.std.proofs.Common.{◌≡◌, ◌≢◌, ◌↔◌, ℕ, suc, Bool, true, false, ◌&&◌, List, [], ◌∷◌, length, drop, map, slice_index_or, IsTrue, refl, sym, ap, ◌∙◌, arith}
use Rattle.std.proofs.lemmas.Bool.{and_parts, and_from}
use Rattle.mlc_names.specs.declared.label.Label.{Label}
use Rattle.mlc_names.specs.declared.label.Label.TheVariants.{Number}
use Rattle.mlc_prims.specs.declared.basis.BasisPrimitive.{BasisPrimitive}
use Rattle.ty_core.specs.Types.{Symbol, labels, Typ, con, Typs, typs_of}
use Rattle.ty_core.specs.Marks.{Allows}
use Rattle.ty_core.specs.declared.scheme.Quantified.{Quantified}
use Rattle.ty_table.specs.TypeAt.{type_at, types_at}
use Rattle.ir_known.specs.of_ir_poly.Types.{over, admits_in, row_type, numbered, prim_type, put, function_type, tuple_type, arguments_at, result_at}
use Rattle.prog_check.specs.Same.{same_type}
use Rattle.prog_check.specs.Deciding.{allows, is_prim}
use Rattle.prog_check.proofs.SameLemmas.{type-same, same-since}
use Rattle.prog_check.proofs.DecidingLemmas.{allows-sound, allows-complete}
use Rattle.ir_uses.specs.Uses.{value_at}
use Rattle.ir_uses.specs.declared.shape.Signature.{Signature}
use Rattle.ir_uses.specs.Shapes.{shape_type, shapes_of, prim_type_of}
use Rattle.ir_uses.proofs.Deciding.{as-decided}
use Rattle.ir_uses.proofs.Constructing.{typs-same}

module _ {A B : Type 0} (f : A → B) where
  head-is : {x y : B} {xs ys : List B} → x ∷ xs ≡ y ∷ ys → x ≡ y
  head-is e = cc

  tail-is : {x y : B} {xs ys : List B} → x ∷ xs ≡ y ∷ ys → xs ≡ ys
  tail-is e = cc

  pub length-differs : (xs : List A) (ys : List B) → length xs ≢ length ys → IsTrue false ↔ (map f xs ≡ ys)
  length-differs xs ys n = ((λ y. absurd (cc)), (λ e. absurd (n (long xs ys e))))
    where
      long : (xs : List A) (ys : List B) → map f xs ≡ ys → length xs ≡ length ys
      long [] [] e = refl
      long [] (y ∷ ys) e = absurd (cc)
      long (x ∷ xs) [] e = absurd (cc)
      long (x ∷ xs) (y ∷ ys) e = ap (λ n. suc n) (long xs ys (tail-is e))

  pub only-one : (xs : List A) (d : A) (y : B) (b : Bool) → length xs ≡ 1 → IsTrue b ↔ (f (slice_index_or xs 0 d) ≡ y) → IsTrue b ↔ (map f xs ≡ y ∷ [])
  only-one [] d y b l w = absurd (omega arith)
  only-one (x ∷ z ∷ xs) d y b l w = absurd (omega arith)
  only-one (x ∷ []) d y b l w = ((λ p. ap (λ v. v ∷ []) (w.0 p)), (λ e. w.1 (head-is e)))

  pub first-differs : (xs : List A) (d : A) (y : B) (ys : List B) → length xs ≢ 0 → (f (slice_index_or xs 0 d) ≡ y → ⊥) → IsTrue false ↔ (map f xs ≡ y ∷ ys)
  first-differs [] d y ys l n = absurd (l refl)
  first-differs (x ∷ xs) d y ys l n = ((λ p. absurd (cc)), (λ e. absurd (n (head-is e))))

  pub second : (xs : List A) (d c : A) (y z : B) (b : Bool) → length xs ≡ 2 → f (slice_index_or xs 0 d) ≡ y → IsTrue b ↔ (f (slice_index_or xs 1 c) ≡ z) → IsTrue b ↔ (map f xs ≡ y ∷ z ∷ [])
  second [] d c y z b l e w = absurd (omega arith)
  second (x ∷ []) d c y z b l e w = absurd (omega arith)
  second (x ∷ v ∷ u ∷ xs) d c y z b l e w = absurd (omega arith)
  second (x ∷ v ∷ []) d c y z b l e w = ((λ p. ap (λ k. k ∷ f v ∷ []) e ∙ ap (λ k. y ∷ k ∷ []) (w.0 p)), (λ q. w.1 (head-is (tail-is q))))

  -- the first, and the rest
  pub rest-of : (xs : List A) (d : A) (y : B) (ys : List B) (b : Bool) → length xs ≢ 0 → f (slice_index_or xs 0 d) ≡ y → IsTrue b ↔ (map f (drop 1 xs) ≡ ys) → IsTrue b ↔ (map f xs ≡ y ∷ ys)
  rest-of [] d y ys b l e w = absurd (l refl)
  rest-of (x ∷ xs) d y ys b l e w = ((λ p. ap (λ v. v ∷ map f xs) e ∙ ap (λ vs. y ∷ vs) (w.0 p)), (λ q. w.1 (tail-is q)))

-- Tuples

parts-are : {h k : Symbol} {ts us : Typs} → con h ts ≡ con k us → ts ≡ us
parts-are e = cc

labels-are : {ls ks : List Label} {ts us : Typs} → con (labels ls) ts ≡ con (labels ks) us → ls ≡ ks
labels-are e = cc

numbered-labels : (k : ℕ) (ts us : List Typ) → length ts ≡ length us → map (λ f. f.0) (numbered k ts) ≡ map (λ f. f.0) (numbered k us)
numbered-labels k [] [] e = refl
numbered-labels k [] (u ∷ us) e = absurd (omega arith)
numbered-labels k (t ∷ ts) [] e = absurd (omega arith)
numbered-labels k (t ∷ ts) (u ∷ us) e = ap (λ ls. Number k ∷ ls) (numbered-labels (suc k) ts us (omega arith))

numbered-types : (k : ℕ) (ts : List Typ) → map (λ f. f.1) (numbered k ts) ≡ ts
numbered-types k [] = refl
numbered-types k (t ∷ ts) = ap (λ us. t ∷ us) (numbered-types (suc k) ts)

map-long : {A B : Type 0} (f : A → B) (xs : List A) → length (map f xs) ≡ length xs
map-long f [] = refl
map-long f (x ∷ xs) = ap (λ n. suc n) (map-long f xs)

module _ (ts : List Typ) (t u : Typ) (ss : List Typ) where
  row-is : row_type (numbered 1 (map (put u) ss)) ≡ con (labels (map (λ f. f.0) (numbered 1 ss))) (typs_of (map (put u) ss))
  row-is =
      ap (λ ls. con (labels ls) (typs_of (map (λ f. f.1) (numbered 1 (map (put u) ss))))) (numbered-labels 1 (map (put u) ss) ss (map-long (put u) ss))
      ∙ ap (λ us. con (labels (map (λ f. f.0) (numbered 1 ss))) (typs_of us)) (numbered-types 1 (map (put u) ss))

  pub tuple-is : (ls : List Label) (ks : List ℕ) (answer : Bool) → t ≡ con (labels ls) (types_at ts ks) → ls ≡ map (λ f. f.0) (numbered 1 ss) → IsTrue answer ↔ (map (type_at ts) ks ≡ map (put u) ss)
      → IsTrue answer ↔ (t ≡ row_type (numbered 1 (map (put u) ss)))
  tuple-is ls ks answer e i w = (
    (λ p. e ∙ ap (λ z. con (labels z) (types_at ts ks)) i ∙ ap (λ us. con (labels (map (λ f. f.0) (numbered 1 ss))) (typs_of us)) (w.0 p) ∙ sym row-is),
    (λ p. w.1 (typs-same _ _ (parts-are (sym e ∙ p ∙ row-is)))),
  )

  pub tuple-differs : (ls : List Label) (us : Typs) → t ≡ con (labels ls) us → (ls ≡ map (λ f. f.0) (numbered 1 ss) → ⊥) → IsTrue false ↔ (t ≡ row_type (numbered 1 (map (put u) ss)))
  tuple-differs ls us e n = ((λ f. absurd (cc)), (λ p. absurd (n (labels-are (sym e ∙ p ∙ row-is)))))

  pub tuple-not : ((ls : List Label) (us : Typs) → t ≡ con (labels ls) us → ⊥) → IsTrue false ↔ (t ≡ row_type (numbered 1 (map (put u) ss)))
  tuple-not n = ((λ f. absurd (cc)), (λ p. absurd (n (map (λ f. f.0) (numbered 1 ss)) (typs_of (map (put u) ss)) (p ∙ row-is))))

-- Primitives

module _ (s : Signature) (p : BasisPrimitive) (is : prim_type_of s ≡ prim_type p) (u : Typ) where
  pub takes-these : map (put u) (map shape_type (shapes_of s.arguments)) ≡ arguments_at p u
  takes-these = ap (λ q. map (put u) q.arguments) is

  pub gives-this : put u (shape_type s.result) ≡ result_at p u
  gives-this = ap (λ q. put u q.result) is

  pub marked-so : s.mark ≡ (prim_type p).mark
  marked-so = ap (λ q. q.mark) is

  from-is : {a b c d : Typ} → function_type a b ≡ function_type c d → a ≡ c
  from-is e = cc

  to-is : {a b c d : Typ} → function_type a b ≡ function_type c d → b ≡ d
  to-is e = cc

  pub value-is : (t a r : Typ) (answer : Bool) → t ≡ function_type a r → r ≡ result_at p u → IsTrue answer ↔ (a ≡ tuple_type (map (put u) (map shape_type (shapes_of s.arguments)))) → IsTrue answer ↔ (t ≡ value_at p u)
  value-is t a r answer e i w = (
    (λ y. e ∙ ap (function_type a) i ∙ ap (λ x. function_type x (result_at p u)) (w.0 y ∙ ap tuple_type takes-these)),
    (λ q. w.1 (from-is (sym e ∙ q) ∙ sym (ap tuple_type takes-these))),
  )

function-to : {a b c d : Typ} → function_type a b ≡ function_type c d → b ≡ d
function-to e = cc

pub value-differs : (p : BasisPrimitive) (u t a r : Typ) → t ≡ function_type a r → (r ≡ result_at p u → ⊥) → IsTrue false ↔ (t ≡ value_at p u)
value-differs p u t a r e n = ((λ f. absurd (cc)), (λ q. absurd (n (function-to (sym e ∙ q)))))

module _ (D : List Quantified) (p : BasisPrimitive) (t : Typ) where
  pub prim-long : (ts : List Typ) → length ts ≢ 1 → false ≡ is_prim D p ts t
  prim-long [] n = refl
  prim-long (u ∷ []) n = absurd (n refl)
  prim-long (u ∷ v ∷ ts) n = refl

  pub prim-not-over : (ts : List Typ) (u : Typ) (o : Bool) → ts ≡ u ∷ [] → IsTrue o ↔ (over D u ≡ true) → o ≡ false → false ≡ is_prim D p ts t
  prim-not-over ts u o e w f = go (over D u) refl ∙ sym (ap (λ us. is_prim D p us t) e)
    where
      go : (b : Bool) → over D u ≡ b → false ≡ is_prim D p (u ∷ []) t
      go true h = absurd (let q : o ≡ true = w.1 h in cc)
      go false h = sym (ap (λ b. b && (allows (prim_type p).mark (admits_in D) u && same_type t (value_at p u))) h)

  pub prim-over : (ts : List Typ) (u : Typ) (o answer : Bool) → ts ≡ u ∷ [] → IsTrue o ↔ (over D u ≡ true) → o ≡ true
      → IsTrue answer ↔ (Allows (prim_type p).mark (admits_in D) u × (t ≡ value_at p u)) → answer ≡ is_prim D p ts t
  prim-over ts u o answer e w h v =
      as-decided answer (allows (prim_type p).mark (admits_in D) u && same_type t (value_at p u)) v
      (λ y. let a = and_parts (allows (prim_type p).mark (admits_in D) u) _ y in (allows-sound (prim_type p).mark (admits_in D) u a.0, type-same t (value_at p u) a.1))
      (λ q. and_from _ _ (allows-complete (prim_type p).mark (admits_in D) u q.0) (same-since q.1))
      ∙ sym (ap (λ b. b && (allows (prim_type p).mark (admits_in D) u && same_type t (value_at p u))) (w.0 h))
      ∙ sym (ap (λ us. is_prim D p us t) e)

pub single : (ts : List Typ) (ks : List ℕ) (d : ℕ) → length ks ≡ 1 → map (type_at ts) ks ≡ type_at ts (slice_index_or ks 0 d) ∷ []
single ts [] d e = absurd (omega arith)
single ts (k ∷ []) d e = refl
single ts (k ∷ j ∷ ks) d e = absurd (omega arith)

pub mapped-long : {A B : Type 0} (f : A → B) (xs : List A) (n : ℕ) → length xs ≢ n → length (map f xs) ≢ n
mapped-long f xs n h e = h (sym (map-long f xs) ∙ e)
