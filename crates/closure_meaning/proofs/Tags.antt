-- Constructors differ by their tags, and each type has the shape by which its values are compared.
use Rattle.std.proofs.Common.{◌≡◌, ℕ, zero, suc, ◌+◌, ◌<◌, List, [], ◌∷◌, Option, Some, None, Bool, true, false, if◌then◌else◌, nat_eq, get_or, slice_get, refl, sym, ap, subst, ◌∙◌, arith}
use Rattle.std.specs.Prelude.{option_map, option_and_then}
use Rattle.std.specs.Map.{lookup}
use Rattle.std.proofs.lemmas.Bool.{ltb-true}
use Rattle.mlc_prims.specs.LitOf.{Literal, int, word, char, string, truth}
use Rattle.ty_core.specs.Types.{arrow, labels, name}
use Rattle.ir_values.specs.Values.{false_number, true_number}
use Rattle.ir_explicit.specs.of_ir_mono.Types as table
use Rattle.ir_explicit.specs.of_ir_mono.Types.{Node, node, node_at, constructor_at, bool_number, Is, IsTable, is_named, holds}
use Rattle.ir_explicit.specs.of_ir_poly.Types.{int_name}
use Rattle.first_values.specs.Equality.{Shape, numbers, texts, references, opaque, is_text}
use Rattle.first_values.specs.Equality as equality
use Rattle.first_values.specs.Operations as op
use Rattle.closure_convert.proofs.of_flow_sets.Member.{nat_eq-to, nat_eq-same, decide}
use Rattle.closure_meaning.specs.Convert.{constructor_index, constructors_in, tag_among, con_tag, argument_types, part_types, parts_among, shape_of, shapes_from, shapes, operands_at}
use Rattle.closure_meaning.proofs.Known.{different}

-- Tags

index-apart : (c d : ℕ) (ks : List (ℕ × Option ℕ)) {a : Option ℕ} → lookup (nat_eq d) ks ≡ Some a → constructor_index c ks ≡ constructor_index d ks → c ≡ d
index-apart c d [] h e = absurd (cc)
index-apart c d (k ∷ ks) {a} h e = go (nat_eq c k.0) (nat_eq d k.0) (nat_eq-to c k.0) (nat_eq-to d k.0) (λ f. index-apart c d ks f) h e
  where
    go : (x y : Bool) → (x ≡ true → c ≡ k.0) → (y ≡ true → d ≡ k.0) → (lookup (nat_eq d) ks ≡ Some a → constructor_index c ks ≡ constructor_index d ks → c ≡ d) → (if y then Some k.1 else lookup (nat_eq d) ks) ≡ Some a → (if x then zero else suc (constructor_index c ks)) ≡ (if y then zero else suc (constructor_index d ks)) → c ≡ d
    go true true p q f h e = p refl ∙ sym (q refl)
    go true false p q f h e = absurd (omega (arith, e))
    go false true p q f h e = absurd (omega (arith, e))
    go false false p q f h e = f h (omega (arith, e))

truth-apart : (c d : ℕ) (ks : List (ℕ × Option ℕ)) {a : Option ℕ} → lookup (nat_eq d) ks ≡ Some a → tag_among true c ks ≡ tag_among true d ks → c ≡ d
truth-apart c d ks h e = go (nat_eq c false_number) (nat_eq c true_number) (nat_eq d false_number) (nat_eq d true_number) (nat_eq-to c false_number) (nat_eq-to c true_number) (nat_eq-to d false_number) (nat_eq-to d true_number) e
  where
    go : (x x' y y' : Bool) → (x ≡ true → c ≡ false_number) → (x' ≡ true → c ≡ true_number) → (y ≡ true → d ≡ false_number) → (y' ≡ true → d ≡ true_number) → (if x then 0 else (if x' then 1 else suc (suc (constructor_index c ks)))) ≡ (if y then 0 else (if y' then 1 else suc (suc (constructor_index d ks)))) → c ≡ d
    go true x' true y' p p' q q' e = p refl ∙ sym (q refl)
    go true x' false true p p' q q' e = absurd (omega (arith, e))
    go true x' false false p p' q q' e = absurd (omega (arith, e))
    go false true true y' p p' q q' e = absurd (omega (arith, e))
    go false true false true p p' q q' e = p' refl ∙ sym (q' refl)
    go false true false false p p' q q' e = absurd (omega (arith, e))
    go false false true y' p p' q q' e = absurd (omega (arith, e))
    go false false false true p p' q q' e = absurd (omega (arith, e))
    go false false false false p p' q q' e = index-apart c d ks h (omega (arith, e))

tags-apart : (b : Bool) (c d : ℕ) (ks : List (ℕ × Option ℕ)) {a : Option ℕ} → lookup (nat_eq d) ks ≡ Some a → tag_among b c ks ≡ tag_among b d ks → c ≡ d
tags-apart false c d ks h e = index-apart c d ks h e
tags-apart true c d ks h e = truth-apart c d ks h e

pub nat_eq-swap : (x y : ℕ) → nat_eq x y ≡ nat_eq y x
nat_eq-swap x y = go (nat_eq x y) refl
  where
    go : (b : Bool) → nat_eq x y ≡ b → b ≡ nat_eq y x
    go true e = let q : x ≡ y = nat_eq-to x y e in sym (subst (λ z. nat_eq z x ≡ true) q (nat_eq-same x))
    go false e = sym (different y x (λ q. absurd (let k : nat_eq x y ≡ true = subst (λ z. nat_eq x z ≡ true) (sym q) (nat_eq-same x) in cc)))

module _ (types : List table.Row) where
  -- of a type that is in the table
  pub record HasRow (g c : ℕ) (a : Option ℕ) : Type 0 where
    pub row : table.Row
    pub is : slice_get types g ≡ Some row
    pub there : lookup (nat_eq c) row.constructors ≡ Some a

  pub has-row : (g c : ℕ) {a : Option ℕ} → constructor_at types g c ≡ Some a → HasRow g c a
  has-row g c {a} e = go (slice_get types g) refl e
    where
      go : (o : Option table.Row) → slice_get types g ≡ o → option_and_then (λ r. lookup (nat_eq c) r.constructors) o ≡ Some a → HasRow g c a
      go None q e = absurd (cc)
      go (Some r) q e = record { row = r; is = q; there = e }

  -- tags are equal where constructors are; one of them is in the table
  pub tag-test : (g c d : ℕ) {a : Option ℕ} → constructor_at types g d ≡ Some a → nat_eq (con_tag types g c) (con_tag types g d) ≡ nat_eq c d
  tag-test g c d {a} e = decide (nat_eq c d)
      (λ q. subst (λ z. nat_eq (con_tag types g c) (con_tag types g z) ≡ nat_eq c z) (nat_eq-to c d q) (nat_eq-same (con_tag types g c) ∙ sym (nat_eq-same c)))
      (λ q. different (con_tag types g c) (con_tag types g d) (λ h. let r = has-row g d e in
      let same : c ≡ d = tags-apart (nat_eq g bool_number) c d r.row.constructors r.there (subst (λ o. tag_among (nat_eq g bool_number) c (constructors_in o) ≡ tag_among (nat_eq g bool_number) d (constructors_in o)) r.is h) in
      absurd (let k : nat_eq c d ≡ true = subst (λ z. nat_eq c z ≡ true) same (nat_eq-same c) in cc)) ∙ sym q)

  pub tag-test-first : (g c d : ℕ) {a : Option ℕ} → constructor_at types g c ≡ Some a → nat_eq (con_tag types g c) (con_tag types g d) ≡ nat_eq c d
  tag-test-first g c d e = nat_eq-swap (con_tag types g c) (con_tag types g d) ∙ (tag-test g d c e ∙ nat_eq-swap d c)

  -- Shapes

  abbrev pub shape_at : ℕ → Shape
  shape_at g = get_or (shapes types) g opaque

  shapes-at : (rs : List table.Row) (i g : ℕ) {r : table.Row} → slice_get rs g ≡ Some r → get_or (shapes_from i rs) g opaque ≡ shape_of (nat_eq (i + g) bool_number) r r.type
  shapes-at [] i g e = absurd (cc)
  shapes-at (s ∷ rs) i zero {r} e = let q : s ≡ r = cc in let n : i ≡ i + 0 = omega arith in subst (λ z. shape_of (nat_eq i bool_number) s s.type ≡ shape_of (nat_eq z bool_number) s s.type) n refl ∙ ap (λ z. shape_of (nat_eq (i + 0) bool_number) z z.type) q
  shapes-at (s ∷ rs) i (suc g) {r} e = let n : suc i + g ≡ i + suc g = omega arith in shapes-at rs (suc i) g e ∙ ap (λ z. shape_of (nat_eq z bool_number) r r.type) n

  shape-is : (g : ℕ) {r : table.Row} → slice_get types g ≡ Some r → shape_at g ≡ shape_of (nat_eq g bool_number) r r.type
  shape-is g {r} e = let n : 0 + g ≡ g = omega arith in shapes-at types 0 g e ∙ ap (λ z. shape_of (nat_eq z bool_number) r r.type) n

  record NodeRow (g : ℕ) (k : Node) : Type 0 where
    row : table.Row
    is : slice_get types g ≡ Some row
    type : row.type ≡ k

  node-row : (g : ℕ) {k : Node} → node_at types g ≡ Some k → NodeRow g k
  node-row g {k} e = go (slice_get types g) refl e
    where
      go : (o : Option table.Row) → slice_get types g ≡ o → option_map (λ r. r.type) o ≡ Some k → NodeRow g k
      go None q e = absurd (cc)
      go (Some r) q e = record { row = r; is = q; type = cc }

  -- the shape of a type whose node doesn't have constructors
  shape-node : (g : ℕ) {k : Node} → node_at types g ≡ Some k → (r : table.Row) × (shape_at g ≡ shape_of (nat_eq g bool_number) r k)
  shape-node g e = let n = node-row g e in (n.row, shape-is g n.is ∙ ap (λ z. shape_of (nat_eq g bool_number) n.row z) n.type)

  pub shape-record : (g : ℕ) {ls : List _} {ts : List ℕ} → Is types g (labels ls) ts → shape_at g ≡ equality.cells (ts ∷ [])
  shape-record g e = (shape-node g e).1

  abbrev stamp_shape : Bool → List (ℕ × Option ℕ) → ℕ → Shape
  stamp_shape b ks s =
      if nat_eq s 3 then texts
      else (if nat_eq s 4 then references
      else (if nat_eq s 0 then numbers
      else (if nat_eq s 1 then numbers
      else (if nat_eq s 2 then numbers else equality.cells (parts_among b ks)))))

  pub shape-named : (g s : ℕ) → holds (is_named (record { stamp = s; arity = 0; equality = int_name.equality })) (node_at types g) ≡ true → (b : Bool) × (ks : List (ℕ × Option ℕ)) × (shape_at g ≡ stamp_shape b ks s)
  shape-named g s h = go (node_at types g) refl h
    where
      go : (o : Option Node) → node_at types g ≡ o → holds (is_named (record { stamp = s; arity = 0; equality = int_name.equality })) o ≡ true → (b : Bool) × (ks : List (ℕ × Option ℕ)) × (shape_at g ≡ stamp_shape b ks s)
      go None q h = absurd (cc)
      go (Some (node arrow ps)) q h = absurd (cc)
      go (Some (node (labels ls) ps)) q h = absurd (cc)
      go (Some (node (name y) ps)) q h = let n = shape-node g q in (nat_eq g bool_number, n.0.constructors, n.1 ∙ ap (stamp_shape (nat_eq g bool_number) n.0.constructors) (nat_eq-to y.stamp s h))

  parts-plain : (c : ℕ) (ks : List (ℕ × Option ℕ)) {a : Option ℕ} → lookup (nat_eq c) ks ≡ Some a → get_or (part_types ks) (constructor_index c ks) [] ≡ argument_types a
  parts-plain c [] h = absurd (cc)
  parts-plain c (k ∷ ks) {a} h = go (nat_eq c k.0) (λ f. parts-plain c ks f) h
    where
      go : (x : Bool) → (lookup (nat_eq c) ks ≡ Some a → get_or (part_types ks) (constructor_index c ks) [] ≡ argument_types a) → (if x then Some k.1 else lookup (nat_eq c) ks) ≡ Some a → get_or (argument_types k.1 ∷ part_types ks) (if x then zero else suc (constructor_index c ks)) [] ≡ argument_types a
      go true f h = let e : k.1 ≡ a = cc in ap argument_types e
      go false f h = f h

  parts-truth : (c : ℕ) (ks : List (ℕ × Option ℕ)) {a : Option ℕ} → lookup (nat_eq c) ks ≡ Some a → (c ≡ false_number → a ≡ None) → (c ≡ true_number → a ≡ None) → get_or (parts_among true ks) (tag_among true c ks) [] ≡ argument_types a
  parts-truth c ks {a} h n m = go (nat_eq c false_number) (nat_eq c true_number) (nat_eq-to c false_number) (nat_eq-to c true_number)
    where
      go : (x y : Bool) → (x ≡ true → c ≡ false_number) → (y ≡ true → c ≡ true_number) → get_or ([] ∷ [] ∷ part_types ks) (if x then 0 else (if y then 1 else suc (suc (constructor_index c ks)))) [] ≡ argument_types a
      go true y p q = sym (ap argument_types (n (p refl)))
      go false true p q = sym (ap argument_types (m (q refl)))
      go false false p q = parts-plain c ks h

  -- the shape of a datatype has the types of a constructor's parts at its tag
  pub record ConShape (g c : ℕ) (a : Option ℕ) : Type 0 where
    pub parts : List (List ℕ)
    pub is : shape_at g ≡ equality.cells parts
    pub at_tag : get_or parts (con_tag types g c) [] ≡ argument_types a

  pub con-shape : IsTable types → (g c : ℕ) {a : Option ℕ} → constructor_at types g c ≡ Some a → ConShape g c a
  con-shape sound g c {a} e =
      let r = has-row g c e in
      let d = sound.datatypes g c a e in
      let n = node-row g d.2 in
      let low : 5 < d.0.stamp = ltb-true 5 d.0.stamp d.3 in
      let one_row : n.row ≡ r.row = let p = n.is in let q = r.is in cc in
      let shaped : shape_at g ≡ shape_of (nat_eq g bool_number) n.row (node (name d.0) d.1) = shape-is g n.is ∙ ap (λ z. shape_of (nat_eq g bool_number) n.row z) n.type in
      record {
        parts = parts_among (nat_eq g bool_number) r.row.constructors;
        is = shaped ∙ (high (nat_eq g bool_number) n.row.constructors d.0.stamp low ∙ ap (λ z. equality.cells (parts_among (nat_eq g bool_number) z.constructors)) one_row);
        at_tag = subst (λ o. get_or (parts_among (nat_eq g bool_number) r.row.constructors) (tag_among (nat_eq g bool_number) c (constructors_in o)) [] ≡ argument_types a) (sym r.is) (at-tag (nat_eq g bool_number) refl r.row.constructors r.there);
      }
    where
      high : (b : Bool) (ks : List (ℕ × Option ℕ)) (s : ℕ) → 5 < s → stamp_shape b ks s ≡ equality.cells (parts_among b ks)
      high b ks s l = go (nat_eq s 3) (nat_eq s 4) (nat_eq s 0) (nat_eq s 1) (nat_eq s 2) (nat_eq-to s 3) (nat_eq-to s 4) (nat_eq-to s 0) (nat_eq-to s 1) (nat_eq-to s 2)
        where
          go : (x3 x4 x0 x1 x2 : Bool) → (x3 ≡ true → s ≡ 3) → (x4 ≡ true → s ≡ 4) → (x0 ≡ true → s ≡ 0) → (x1 ≡ true → s ≡ 1) → (x2 ≡ true → s ≡ 2)
              → (if x3 then texts else (if x4 then references else (if x0 then numbers else (if x1 then numbers else (if x2 then numbers else equality.cells (parts_among b ks)))))) ≡ equality.cells (parts_among b ks)
          go true x4 x0 x1 x2 p3 p4 p0 p1 p2 = let q = p3 refl in absurd (omega (arith, q, l))
          go false true x0 x1 x2 p3 p4 p0 p1 p2 = let q = p4 refl in absurd (omega (arith, q, l))
          go false false true x1 x2 p3 p4 p0 p1 p2 = let q = p0 refl in absurd (omega (arith, q, l))
          go false false false true x2 p3 p4 p0 p1 p2 = let q = p1 refl in absurd (omega (arith, q, l))
          go false false false false true p3 p4 p0 p1 p2 = let q = p2 refl in absurd (omega (arith, q, l))
          go false false false false false p3 p4 p0 p1 p2 = refl

      at-tag : (b : Bool) → nat_eq g bool_number ≡ b → (ks : List (ℕ × Option ℕ)) → lookup (nat_eq c) ks ≡ Some a → get_or (parts_among b ks) (tag_among b c ks) [] ≡ argument_types a
      at-tag false q ks h = parts-plain c ks h
      at-tag true q ks h =
          let t : g ≡ bool_number = nat_eq-to g bool_number q in
          parts-truth c ks h
          (λ k. let z : constructor_at types bool_number false_number ≡ Some a = subst (λ x. constructor_at types bool_number x ≡ Some a) k (subst (λ x. constructor_at types x c ≡ Some a) t e) in let y : constructor_at types bool_number false_number ≡ Some None = sound.truths false in cc)
          (λ k. let z : constructor_at types bool_number true_number ≡ Some a = subst (λ x. constructor_at types bool_number x ≡ Some a) k (subst (λ x. constructor_at types x c ≡ Some a) t e) in let y : constructor_at types bool_number true_number ≡ Some None = sound.truths true in cc)

-- the operands of an overloaded primitive are of the kind that its type has
pub kind-operands : (o : Option Node) (l : Literal) → holds (λ k. table.has_literal k l) o ≡ true → op.is_at (operands_at o) l ≡ true
kind-operands None l h = absurd (cc)
kind-operands (Some (node arrow ps)) (int z) h = absurd (cc)
kind-operands (Some (node arrow ps)) (word z) h = absurd (cc)
kind-operands (Some (node arrow ps)) (char z) h = absurd (cc)
kind-operands (Some (node arrow ps)) (string z) h = absurd (cc)
kind-operands (Some (node arrow ps)) (truth b) h = absurd (cc)
kind-operands (Some (node (labels ls) ps)) (int z) h = absurd (cc)
kind-operands (Some (node (labels ls) ps)) (word z) h = absurd (cc)
kind-operands (Some (node (labels ls) ps)) (char z) h = absurd (cc)
kind-operands (Some (node (labels ls) ps)) (string z) h = absurd (cc)
kind-operands (Some (node (labels ls) ps)) (truth b) h = absurd (cc)
kind-operands (Some (node (name y) ps)) (int z) h = subst (λ s. op.is_at (if nat_eq s 0 then op.ints else (if nat_eq s 1 then op.words else (if nat_eq s 2 then op.chars else op.texts))) (int z) ≡ true) (sym (nat_eq-to y.stamp 0 h)) refl
kind-operands (Some (node (name y) ps)) (word z) h = subst (λ s. op.is_at (if nat_eq s 0 then op.ints else (if nat_eq s 1 then op.words else (if nat_eq s 2 then op.chars else op.texts))) (word z) ≡ true) (sym (nat_eq-to y.stamp 1 h)) refl
kind-operands (Some (node (name y) ps)) (char z) h = subst (λ s. op.is_at (if nat_eq s 0 then op.ints else (if nat_eq s 1 then op.words else (if nat_eq s 2 then op.chars else op.texts))) (char z) ≡ true) (sym (nat_eq-to y.stamp 2 h)) refl
kind-operands (Some (node (name y) ps)) (string z) h = subst (λ s. op.is_at (if nat_eq s 0 then op.ints else (if nat_eq s 1 then op.words else (if nat_eq s 2 then op.chars else op.texts))) (string z) ≡ true) (sym (nat_eq-to y.stamp 3 h)) refl
kind-operands (Some (node (name y) ps)) (truth b) h = absurd (cc)
