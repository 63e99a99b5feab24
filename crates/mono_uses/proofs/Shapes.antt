-- Shapes, and the types that they stand for.
use Rattle.std.proofs.Common.{◌≡◌, ℕ, zero, suc, Bool, true, false, ◌&&◌, List, [], ◌∷◌, length, map, Option, Some, None, option_and_then, nat_eq, refl, sym, ap, ap₂, ◌∙◌, subst}
use Rattle.std.proofs.lemmas.Bool.{eqb-true, and_parts, and_from}
use Rattle.mlc_names.specs.declared.label.Label.{Label}
use Rattle.mlc_names.specs.declared.label.Label.TheVariants.{Number}
use Rattle.mlc_prims.specs.declared.basis.BasisPrimitive.{BasisPrimitive}
use Rattle.ty_core.specs.Types.{arrow, labels, name, Typ, var, con, none, more, typs_of}
use Rattle.ty_core.specs.declared.name.TyName.{TyName}
use Rattle.ir_values.specs.Values.{same_label}
use Rattle.ir_poly.specs.Types.{ref_type, ref_name, unit_type, of_name, prim_type, PrimType}
use Rattle.ir_uses.specs.declared.shape.Shape.{Shape}
use Rattle.ir_uses.specs.declared.shape.Arguments.{Arguments}
use Rattle.ir_uses.specs.declared.shape.Arguments.TheVariants as arguments
use Rattle.ir_uses.specs.declared.shape.Signature.{Signature}
use Rattle.ir_uses.specs.Shapes.{shape_type, shapes_of, prim_type_of}
use Rattle.ir_mono.specs.Types.{Row, Node, node, node_at, numbered, Is, IsRef, Stands, stands_con, stands_var, stand_none, stand_more}
use Rattle.mono_fits.specs.of_prog_check.Same.{same_labels}
use Rattle.mono_fits.specs.Asked.{given, headed, is_record_node, allows, is_named, is_reference, stands, all_stand, tuple_stands, function_stands, is_primitive, performs}
use Rattle.mono_fits.proofs.Deciding.{named-sound, named-since, reference-sound, reference-since, record-sound, record-since}
use Rattle.mono_fits.proofs.Primitives.{stands-sound, stands-since}
use Rattle.mono_uses.specs.Nodes.{function_in, two_in, one_of, two_of, three_of}
use Rattle.mono_uses.specs.Shaped.{are_numbers, is_unit, is_one, are_two, are_three, is_labelled, is_value}

-- two answers that come of each other are one
same-answer : (a b : Bool) → (a ≡ true → b ≡ true) → (b ≡ true → a ≡ true) → a ≡ b
same-answer true true f g = refl
same-answer false false f g = refl
same-answer true false f g = absurd (let e : false ≡ true = f refl in cc)
same-answer false true f g = absurd (let e : false ≡ true = g refl in cc)

and-true : (a : Bool) → (a && true) ≡ a
and-true true = refl
and-true false = refl

and-false : (a : Bool) → (a && false) ≡ false
and-false true = refl
and-false false = refl

module _ (types : List Row) (u : ℕ) where
  held-is : (n : ℕ) → Stands types (λ v. u) n (ref_type (var 0)) → IsRef types n u
  held-is n (stands_con i (stand_more stands_var stand_none)) = i

  pub reference-stands : (n : ℕ) → is_reference types n u ≡ stands types u n (ref_type (var 0))
  reference-stands n = same-answer (is_reference types n u) (stands types u n (ref_type (var 0)))
      (λ e. stands-since types u n (ref_type (var 0)) (stands_con (reference-sound types n u e) (stand_more (stands_var {v = 0}) stand_none)))
      (λ e. reference-since types n u (held-is n (stands-sound types u n (ref_type (var 0)) e)))

  name-is : (n : ℕ) (y : TyName) → Stands types (λ v. u) n (of_name y) → Is types n (name y) []
  name-is n y (stands_con i stand_none) = i

  pub named-stands : (n : ℕ) (y : TyName) → is_named types n y ≡ stands types u n (of_name y)
  named-stands n y = same-answer (is_named types n y) (stands types u n (of_name y))
      (λ e. stands-since types u n (of_name y) (stands_con (named-sound types n y e) stand_none))
      (λ e. named-since types n y (name-is n y (stands-sound types u n (of_name y) e)))

  unit-is : (n : ℕ) → Stands types (λ v. u) n unit_type → Is types n (labels []) []
  unit-is n (stands_con i stand_none) = i

  no-length : {A : Type 0} (xs : List A) → nat_eq (length xs) 0 ≡ true → xs ≡ []
  no-length [] e = refl
  no-length (x ∷ xs) e = absurd (let p : suc (length xs) ≡ 0 = eqb-true (suc (length xs)) 0 e in cc)

  pub unit-stands : (n : ℕ) → is_unit types n ≡ stands types u n unit_type
  unit-stands n = same-answer (is_unit types n) (stands types u n unit_type)
      (λ e.
      let r = record-sound types n (λ ls ps. nat_eq (length ls) 0 && nat_eq (length ps) 0) e in
      let b = and_parts (nat_eq (length r.names) 0) _ r.so in
      stands-since types u n unit_type (stands_con (r.is ∙ ap₂ (λ ls ps. Some (node (labels ls) ps)) (no-length r.names b.0) (no-length r.parts b.1)) stand_none))
      (λ e. record-since types n (λ ls ps. nat_eq (length ls) 0 && nat_eq (length ps) 0) [] [] (unit-is n (stands-sound types u n unit_type e)) refl)

  -- lists of shapes

  pub one-stands : (ns : List ℕ) (a : Shape) → is_one types u ns a ≡ all_stand types u ns (more (shape_type a) none)
  one-stands [] a = refl
  one-stands (n ∷ []) a = sym (and-true (stands types u n (shape_type a)))
  one-stands (n ∷ m ∷ ns) a = sym (and-false (stands types u n (shape_type a)))

  pub two-stand : (ns : List ℕ) (a b : Shape) → are_two types u ns a b ≡ all_stand types u ns (more (shape_type a) (more (shape_type b) none))
  two-stand [] a b = refl
  two-stand (n ∷ []) a b = sym (and-false (stands types u n (shape_type a)))
  two-stand (n ∷ m ∷ []) a b = ap (λ q. stands types u n (shape_type a) && q) (sym (and-true (stands types u m (shape_type b))))
  two-stand (n ∷ m ∷ k ∷ ns) a b = sym (ap (λ q. stands types u n (shape_type a) && q) (and-false (stands types u m (shape_type b))) ∙ and-false (stands types u n (shape_type a)))

  pub three-stand : (ns : List ℕ) (a b d : Shape) → are_three types u ns a b d ≡ all_stand types u ns (more (shape_type a) (more (shape_type b) (more (shape_type d) none)))
  three-stand [] a b d = refl
  three-stand (n ∷ []) a b d = sym (and-false (stands types u n (shape_type a)))
  three-stand (n ∷ m ∷ []) a b d = sym (ap (λ q. stands types u n (shape_type a) && q) (and-false (stands types u m (shape_type b))) ∙ and-false (stands types u n (shape_type a)))
  three-stand (n ∷ m ∷ k ∷ []) a b d =
      ap (λ q. stands types u n (shape_type a) && (stands types u m (shape_type b) && q)) (sym (and-true (stands types u k (shape_type d))))
  three-stand (n ∷ m ∷ k ∷ j ∷ ns) a b d =
      sym (ap (λ q. stands types u n (shape_type a) && (stands types u m (shape_type b) && q)) (and-false (stands types u k (shape_type d)))
      ∙ ap (λ q. stands types u n (shape_type a) && q) (and-false (stands types u m (shape_type b))) ∙ and-false (stands types u n (shape_type a)))

  -- tuples

  pair-labels : (ls : List Label) (a b : Shape) → are_numbers (arguments.Two a b) ls ≡ same_labels ls (Number 1 ∷ Number 2 ∷ [])
  pair-labels [] a b = refl
  pair-labels (l ∷ []) a b = sym (and-false (same_label l (Number 1)))
  pair-labels (l ∷ k ∷ []) a b = ap (λ q. same_label l (Number 1) && q) (sym (and-true (same_label k (Number 2))))
  pair-labels (l ∷ k ∷ j ∷ ls) a b = sym (ap (λ q. same_label l (Number 1) && q) (and-false (same_label k (Number 2))) ∙ and-false (same_label l (Number 1)))

  triple-labels : (ls : List Label) (a b d : Shape) → are_numbers (arguments.Three a b d) ls ≡ same_labels ls (Number 1 ∷ Number 2 ∷ Number 3 ∷ [])
  triple-labels [] a b d = refl
  triple-labels (l ∷ []) a b d = sym (and-false (same_label l (Number 1)))
  triple-labels (l ∷ k ∷ []) a b d = sym (ap (λ q. same_label l (Number 1) && q) (and-false (same_label k (Number 2))) ∙ and-false (same_label l (Number 1)))
  triple-labels (l ∷ k ∷ j ∷ []) a b d = ap (λ q. same_label l (Number 1) && (same_label k (Number 2) && q)) (sym (and-true (same_label j (Number 3))))
  triple-labels (l ∷ k ∷ j ∷ i ∷ ls) a b d =
      sym (ap (λ q. same_label l (Number 1) && (same_label k (Number 2) && q)) (and-false (same_label j (Number 3)))
      ∙ ap (λ q. same_label l (Number 1) && q) (and-false (same_label k (Number 2))) ∙ and-false (same_label l (Number 1)))

  pair-numbers : (ls : List Label) (ns : List ℕ) (a b : Shape) → (are_numbers (arguments.Two a b) ls && all_stand types u ns (more (shape_type a) (more (shape_type b) none)))
      ≡ (same_labels ls (numbered 1 ns) && all_stand types u ns (more (shape_type a) (more (shape_type b) none)))
  pair-numbers ls [] a b = and-false (are_numbers (arguments.Two a b) ls) ∙ sym (and-false (same_labels ls []))
  pair-numbers ls (n ∷ []) a b =
      ap (λ q. are_numbers (arguments.Two a b) ls && q) (and-false (stands types u n (shape_type a))) ∙ and-false (are_numbers (arguments.Two a b) ls)
      ∙ sym (ap (λ q. same_labels ls (Number 1 ∷ []) && q) (and-false (stands types u n (shape_type a))) ∙ and-false (same_labels ls (Number 1 ∷ [])))
  pair-numbers ls (n ∷ m ∷ []) a b = ap (λ q. q && all_stand types u (n ∷ m ∷ []) (more (shape_type a) (more (shape_type b) none))) (pair-labels ls a b)
  pair-numbers ls (n ∷ m ∷ k ∷ ns) a b =
      ap (λ q. are_numbers (arguments.Two a b) ls && q) (sym (two-stand (n ∷ m ∷ k ∷ ns) a b)) ∙ and-false (are_numbers (arguments.Two a b) ls)
      ∙ sym (ap (λ q. same_labels ls (numbered 1 (n ∷ m ∷ k ∷ ns)) && q) (sym (two-stand (n ∷ m ∷ k ∷ ns) a b)) ∙ and-false (same_labels ls (numbered 1 (n ∷ m ∷ k ∷ ns))))

  triple-numbers : (ls : List Label) (ns : List ℕ) (a b d : Shape) → (are_numbers (arguments.Three a b d) ls && all_stand types u ns (more (shape_type a) (more (shape_type b) (more (shape_type d) none))))
      ≡ (same_labels ls (numbered 1 ns) && all_stand types u ns (more (shape_type a) (more (shape_type b) (more (shape_type d) none))))
  triple-numbers ls [] a b d = and-false (are_numbers (arguments.Three a b d) ls) ∙ sym (and-false (same_labels ls []))
  triple-numbers ls (n ∷ []) a b d =
      ap (λ q. are_numbers (arguments.Three a b d) ls && q) (sym (three-stand (n ∷ []) a b d)) ∙ and-false (are_numbers (arguments.Three a b d) ls)
      ∙ sym (ap (λ q. same_labels ls (numbered 1 (n ∷ [])) && q) (sym (three-stand (n ∷ []) a b d)) ∙ and-false (same_labels ls (numbered 1 (n ∷ []))))
  triple-numbers ls (n ∷ m ∷ []) a b d =
      ap (λ q. are_numbers (arguments.Three a b d) ls && q) (sym (three-stand (n ∷ m ∷ []) a b d)) ∙ and-false (are_numbers (arguments.Three a b d) ls)
      ∙ sym (ap (λ q. same_labels ls (numbered 1 (n ∷ m ∷ [])) && q) (sym (three-stand (n ∷ m ∷ []) a b d)) ∙ and-false (same_labels ls (numbered 1 (n ∷ m ∷ []))))
  triple-numbers ls (n ∷ m ∷ k ∷ []) a b d = ap (λ q. q && all_stand types u (n ∷ m ∷ k ∷ []) (more (shape_type a) (more (shape_type b) (more (shape_type d) none)))) (triple-labels ls a b d)
  triple-numbers ls (n ∷ m ∷ k ∷ j ∷ ns) a b d =
      ap (λ q. are_numbers (arguments.Three a b d) ls && q) (sym (three-stand (n ∷ m ∷ k ∷ j ∷ ns) a b d)) ∙ and-false (are_numbers (arguments.Three a b d) ls)
      ∙ sym (ap (λ q. same_labels ls (numbered 1 (n ∷ m ∷ k ∷ j ∷ ns)) && q) (sym (three-stand (n ∷ m ∷ k ∷ j ∷ ns) a b d)) ∙ and-false (same_labels ls (numbered 1 (n ∷ m ∷ k ∷ j ∷ ns))))

  record-by : (f g : List Label → List ℕ → Bool) → ((ls : List Label) (ns : List ℕ) → f ls ns ≡ g ls ns) → (o : Option Node) → given o (is_record_node f) ≡ given o (is_record_node g)
  record-by f g e None = refl
  record-by f g e (Some (node (labels ls) ns)) = e ls ns
  record-by f g e (Some (node arrow ns)) = refl
  record-by f g e (Some (node (name y) ns)) = refl

  pub pair-stands : (n : ℕ) (a b : Shape) → is_labelled types u n (arguments.Two a b) ≡ tuple_stands types u n (map shape_type (shapes_of (arguments.Two a b)))
  pair-stands n a b = record-by (λ ls ns. are_numbers (arguments.Two a b) ls && all_stand types u ns (more (shape_type a) (more (shape_type b) none)))
      (λ ls ns. same_labels ls (numbered 1 ns) && all_stand types u ns (more (shape_type a) (more (shape_type b) none))) (λ ls ns. pair-numbers ls ns a b) (node_at types n)

  pub triple-stands : (n : ℕ) (a b d : Shape) → is_labelled types u n (arguments.Three a b d) ≡ tuple_stands types u n (map shape_type (shapes_of (arguments.Three a b d)))
  triple-stands n a b d = record-by (λ ls ns. are_numbers (arguments.Three a b d) ls && all_stand types u ns (more (shape_type a) (more (shape_type b) (more (shape_type d) none))))
      (λ ls ns. same_labels ls (numbered 1 ns) && all_stand types u ns (more (shape_type a) (more (shape_type b) (more (shape_type d) none)))) (λ ls ns. triple-numbers ls ns a b d) (node_at types n)

module _ (types : List Row) (p : BasisPrimitive) (u : ℕ) (s : Signature) (is : prim_type_of s ≡ prim_type p) where
  parts-by : (ps : List ℕ) → given (two_in ps) (λ q. tuple_stands types u q.0 (prim_type p).arguments && stands types u q.1 (prim_type p).result) ≡ function_stands types p u ps
  parts-by [] = refl
  parts-by (a ∷ []) = refl
  parts-by (a ∷ r ∷ []) = refl
  parts-by (a ∷ r ∷ q ∷ ps) = refl

  value-by : (o : Option Node) → given (option_and_then function_in o) (λ q. tuple_stands types u q.0 (prim_type p).arguments && stands types u q.1 (prim_type p).result) ≡ given o (headed arrow (function_stands types p u))
  value-by None = refl
  value-by (Some (node arrow ps)) = parts-by ps
  value-by (Some (node (labels ls) ps)) = refl
  value-by (Some (node (name y) ps)) = refl

  marked : (a : Bool) → a ≡ allows types s.mark u → a ≡ allows types (prim_type p).mark u
  marked a e = e ∙ ap (λ (t : PrimType). allows types t.mark u) is

  pub refused-value : (n : ℕ) (a : Bool) → a ≡ allows types s.mark u → a ≡ false → false ≡ is_primitive types p u n
  refused-value n a e f = ap (λ q. q && given (node_at types n) (headed arrow (function_stands types p u))) (sym f ∙ marked a e)

  pub allowed-value : (n : ℕ) (a b : Bool) → a ≡ allows types s.mark u → a ≡ true → b ≡ is_value types u n s → b ≡ is_primitive types p u n
  allowed-value n a b e f g =
      g ∙ ap (λ (t : PrimType). given (option_and_then function_in (node_at types n)) (λ q. tuple_stands types u q.0 t.arguments && stands types u q.1 t.result)) is ∙ value-by (node_at types n)
      ∙ ap (λ q. q && given (node_at types n) (headed arrow (function_stands types p u))) (sym f ∙ marked a e)

  pub refused-performance : (ns : List ℕ) (r : ℕ) (a : Bool) → a ≡ allows types s.mark u → a ≡ false → false ≡ performs types p u ns r
  refused-performance ns r a e f = ap (λ q. q && (all_stand types u ns (typs_of (prim_type p).arguments) && stands types u r (prim_type p).result)) (sym f ∙ marked a e)

  pub allowed-performance : (ns : List ℕ) (r : ℕ) (a b : Bool) → a ≡ allows types s.mark u → a ≡ true
      → b ≡ (all_stand types u ns (typs_of (map shape_type (shapes_of s.arguments))) && stands types u r (shape_type s.result)) → b ≡ performs types p u ns r
  allowed-performance ns r a b e f g =
      g ∙ ap (λ (t : PrimType). all_stand types u ns (typs_of t.arguments) && stands types u r t.result) is
      ∙ ap (λ q. q && (all_stand types u ns (typs_of (prim_type p).arguments) && stands types u r (prim_type p).result)) (sym f ∙ marked a e)
