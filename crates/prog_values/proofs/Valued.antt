-- Which clean trees of nodes with lists are values.
use Rattle.std.proofs.Common.{◌≡◌, ℕ, zero, suc, ◌+◌, ◌<◌, ◌≤◌, Bool, true, false, ◌&&◌, List, [], ◌∷◌, map, length, nat_eq, drop, get_or, Vec, Box, Global, refl, sym, ap, ◌∙◌, subst, arith}
use Rattle.std.proofs.lemmas.Bool.{eqb-true}
use Rattle.mlc_names.specs.declared.label.Label.{Label}
use Rattle.mlc_base.specs.declared.place.Place.{Place}
use Rattle.ir_poly.specs.Prog as t
use Rattle.ir_poly.specs.Prog.{type_of, is_value, are_values, is_construction}
use Rattle.prog_known.specs.Lists.{all_hold}
use Rattle.prog_tree.specs.TreeOf.{Reading, DecTree, RuleTree, tree_of, node_dec, node_exp, node_function, node_rule, record_of, apply_by, join, left_joins, right_joins, sequence_of, field_of, argument_of, join_of}
use Rattle.prog_tree.specs.declared.tree.Exp.{Exp, Exp-F, fold-roll-Exp}
use Rattle.prog_tree.specs.declared.tree.Exp.TheVariants as exps
use Rattle.prog_tree.specs.declared.tree.Join.{Join}
use Rattle.prog_tree.specs.declared.tree.Side.{Side}
use Rattle.prog_tree.specs.declared.tree.Side.TheVariants as side
use Rattle.prog_tree.proofs.ExpOf.{tree_of-Record, tree_of-Apply, tree_of-Infix, tree_of-Sequence}
use Rattle.prog_values.specs.Parts.{field_is_value, join_is_value, are_values as are_applied, is_nil}

and-true : (a : Bool) → (a && true) ≡ a
and-true true = refl
and-true false = refl

joined : (a b c d : Bool) → ((b && (a && (c && true))) && d) ≡ (a && ((b && c) && d))
joined true true true d = refl
joined true true false d = refl
joined true false c d = refl
joined false true c d = refl
joined false false c d = refl

joined-right : (a b c d : Bool) → (b && (a && ((c && d) && true))) ≡ (a && ((b && c) && d))
joined-right true true true true = refl
joined-right true true true false = refl
joined-right true true false d = refl
joined-right true false c d = refl
joined-right false true c d = refl
joined-right false false c d = refl

pub nil-none : {A : Type 0} (xs : List A) (b : Bool) → b ≡ nat_eq (length xs) 0 → b ≡ is_nil xs
nil-none [] b e = e
nil-none (x ∷ xs) true e = absurd (let k : suc (length xs) ≡ 0 = eqb-true (suc (length xs)) 0 (sym e) in omega (arith, k))
nil-none (x ∷ xs) false e = refl

module _ (R : Reading) where
  pub counted-tree : (n a : ℕ) (e : Box Exp Global) → tree_of R (exps.Counted n a e) ≡ t.counted_exp n (R.type a) (tree_of R e.value)
  counted-tree n a e = ap (tree_of R) (sym (exps.rolls-Counted n a e)) ∙ fold-roll-Exp DecTree t.Exp t.Fun RuleTree (node_dec R) (node_exp R) (node_function R) (node_rule R) (Exp-F.Counted n a e)

  never-made : (p : Place) (f : t.Exp) (as_ : List (ℕ × Exp)) → is_construction f ≡ false → is_construction (apply_by R.type p f (map (argument_of R) as_)) ≡ false
  never-made p f [] e = e
  never-made p f (a ∷ as_) e = never-made p (t.app_exp p (R.type a.0) f (tree_of R a.1)) as_ refl

  never-value : (p : Place) (f : t.Exp) (as_ : List (ℕ × Exp)) → is_construction f ≡ false → is_value f ≡ false → is_value (apply_by R.type p f (map (argument_of R) as_)) ≡ false
  never-value p f [] e k = k
  never-value p f (a ∷ as_) e k = never-value p (t.app_exp p (R.type a.0) f (tree_of R a.1)) as_ refl (ap (λ b. b && is_value (tree_of R a.1)) e)

  apply-made : (p : Place) (f : Exp) (as_ : List (ℕ × Exp)) → (is_nil as_ && is_construction (tree_of R f)) ≡ is_construction (apply_by R.type p (tree_of R f) (map (argument_of R) as_))
  apply-made p f [] = refl
  apply-made p f (a ∷ as_) = sym (never-made p (t.app_exp p (R.type a.0) (tree_of R f) (tree_of R a.1)) as_ refl)

  pub made-apply : (p : Place) (f : Box Exp Global) (as_ : Vec (ℕ × Exp) Global) → (is_nil as_.items && is_construction (tree_of R f.value)) ≡ is_construction (tree_of R (exps.Apply p f as_))
  made-apply p f as_ = apply-made p f.value as_.items ∙ ap is_construction (sym (tree_of-Apply R p f as_))

  left-made : (e : t.Exp) (js : List (Join × Exp × Exp)) → is_construction e ≡ false → is_construction (left_joins R.type e (map (join_of R) js)) ≡ false
  left-made e [] k = k
  left-made e (j ∷ js) k = left-made (join R.type j.0 (tree_of R j.1) e (tree_of R j.2)) js refl

  left-nil : (e : Exp) (js : List (Join × Exp × Exp)) → (is_nil js && is_construction (tree_of R e)) ≡ is_construction (left_joins R.type (tree_of R e) (map (join_of R) js))
  left-nil e [] = refl
  left-nil e (j ∷ js) = sym (left-made (join R.type j.0 (tree_of R j.1) (tree_of R e) (tree_of R j.2)) js refl)

  right-nil : (e : Exp) (js : List (Join × Exp × Exp)) → (is_nil js && is_construction (tree_of R e)) ≡ is_construction (right_joins R.type (tree_of R e) (map (join_of R) js))
  right-nil e [] = refl
  right-nil e (j ∷ js) = refl

  pub made-infix : (s : Side) (e : Box Exp Global) (js : Vec (Join × Exp × Exp) Global) → (is_nil js.items && is_construction (tree_of R e.value)) ≡ is_construction (tree_of R (exps.Infix s e js))
  made-infix side.Left e js = left-nil e.value js.items ∙ ap is_construction (sym (tree_of-Infix R side.Left e js))
  made-infix side.Right e js = right-nil e.value js.items ∙ ap is_construction (sym (tree_of-Infix R side.Right e js))

  sequence-nil : (p : Place) (a : ℕ) (es : List Exp) (e : Exp) → (is_nil es && is_construction (tree_of R e)) ≡ is_construction (sequence_of p (R.type a) (map (tree_of R) es) (tree_of R e))
  sequence-nil p a [] e = refl
  sequence-nil p a (d ∷ es) e = refl

  sequence-value : (p : Place) (a : ℕ) (es : List Exp) (e : Exp) → (is_nil es && is_value (tree_of R e)) ≡ is_value (sequence_of p (R.type a) (map (tree_of R) es) (tree_of R e))
  sequence-value p a [] e = refl
  sequence-value p a (d ∷ es) e = refl

  pub made-sequence : (p : Place) (a : ℕ) (es : Vec Exp Global) (e : Box Exp Global) → (is_nil es.items && is_construction (tree_of R e.value)) ≡ is_construction (tree_of R (exps.Sequence p a es e))
  made-sequence p a es e = sequence-nil p a es.items e.value ∙ ap is_construction (sym (tree_of-Sequence R p a es e))

  pub value-sequence : (p : Place) (a : ℕ) (es : Vec Exp Global) (e : Box Exp Global) → (is_nil es.items && is_value (tree_of R e.value)) ≡ is_value (tree_of R (exps.Sequence p a es e))
  value-sequence p a es e = sequence-value p a es.items e.value ∙ ap is_value (sym (tree_of-Sequence R p a es e))

  fields-values : (fs : List (Label × Exp)) → all_hold (field_is_value R) fs ≡ are_values (record_of (map (field_of R) fs))
  fields-values [] = refl
  fields-values (f ∷ fs) = ap (λ b. field_is_value R f && b) (fields-values fs)

  pub record-values : (a : ℕ) (fs : Vec (Label × Exp) Global) → all_hold (field_is_value R) fs.items ≡ is_value (tree_of R (exps.Record a fs))
  record-values a fs = fields-values fs.items ∙ ap is_value (sym (tree_of-Record R a fs))

  applied-values : (p : Place) (f : Exp) (as_ : List (ℕ × Exp)) → are_applied R (is_value (tree_of R f)) (is_construction (tree_of R f)) as_ ≡ is_value (apply_by R.type p (tree_of R f) (map (argument_of R) as_))
  applied-values p f [] = refl
  applied-values p f (a ∷ []) = refl
  applied-values p f (a ∷ b ∷ as_) = sym (never-value p (t.app_exp p (R.type b.0) (t.app_exp p (R.type a.0) (tree_of R f) (tree_of R a.1)) (tree_of R b.1)) as_ refl refl)

  pub apply-values : (p : Place) (f : Box Exp Global) (as_ : Vec (ℕ × Exp) Global)
      → are_applied R (is_value (tree_of R f.value)) (is_construction (tree_of R f.value)) as_.items ≡ is_value (tree_of R (exps.Apply p f as_))
  apply-values p f as_ = applied-values p f.value as_.items ∙ ap is_value (sym (tree_of-Apply R p f as_))

  left-values : (e : t.Exp) (js : List (Join × Exp × Exp)) → is_value (left_joins R.type e (map (join_of R) js)) ≡ (is_value e && all_hold (join_is_value R) js)
  left-values e [] = sym (and-true (is_value e))
  left-values e (j ∷ js) =
      left-values (join R.type j.0 (tree_of R j.1) e (tree_of R j.2)) js ∙ joined (is_value e) (is_construction (tree_of R j.1)) (is_value (tree_of R j.2)) (all_hold (join_is_value R) js)

  right-values : (e : t.Exp) (js : List (Join × Exp × Exp)) → is_value (right_joins R.type e (map (join_of R) js)) ≡ (is_value e && all_hold (join_is_value R) js)
  right-values e [] = sym (and-true (is_value e))
  right-values e (j ∷ js) =
      ap (λ b. is_construction (tree_of R j.1) && (is_value e && (b && true))) (right-values (tree_of R j.2) js)
      ∙ joined-right (is_value e) (is_construction (tree_of R j.1)) (is_value (tree_of R j.2)) (all_hold (join_is_value R) js)

  pub infix-values : (s : Side) (e : Box Exp Global) (js : Vec (Join × Exp × Exp) Global) → (is_value (tree_of R e.value) && all_hold (join_is_value R) js.items) ≡ is_value (tree_of R (exps.Infix s e js))
  infix-values side.Left e js = sym (left-values (tree_of R e.value) js.items) ∙ ap is_value (sym (tree_of-Infix R side.Left e js))
  infix-values side.Right e js = sym (right-values (tree_of R e.value) js.items) ∙ ap is_value (sym (tree_of-Infix R side.Right e js))

  pub counted-value : (n a : ℕ) (e : Box Exp Global) → is_value (tree_of R e.value) ≡ is_value (tree_of R (exps.Counted n a e))
  counted-value n a e = ap is_value (sym (counted-tree n a e))

  pub counted-made : (n a : ℕ) (e : Box Exp Global) → is_construction (tree_of R e.value) ≡ is_construction (tree_of R (exps.Counted n a e))
  counted-made n a e = ap is_construction (sym (counted-tree n a e))

  pub one-applied : (alone makes : Bool) (as_ : List (ℕ × Exp)) (d : ℕ × Exp) → length as_ ≤ 1 → false ≡ nat_eq (length as_) 0 → (makes && is_value (tree_of R (get_or as_ 0 d).1)) ≡ are_applied R alone makes as_
  one-applied alone makes [] d le e = absurd (let f : false ≡ true = e in cc)
  one-applied alone makes (x ∷ []) d le e = refl
  one-applied alone makes (x ∷ y ∷ as_) d le e = absurd (omega (arith, le))

pub two : {r a b x y : Bool} → r ≡ (a && b) → a ≡ x → b ≡ y → r ≡ (x && y)
two {b = b} {x = x} e f g = e ∙ ap (λ c. c && b) f ∙ ap (λ c. x && c) g
