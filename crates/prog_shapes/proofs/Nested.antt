-- The types of the clean trees of nodes with lists.
use Rattle.std.proofs.Common.{◌≡◌, ℕ, zero, suc, ◌-◌, Bool, false, List, [], ◌∷◌, map, length, nat_eq, get_or, Vec, Box, Global, refl, sym, ap, ◌∙◌, arith}
use Rattle.std.proofs.lemmas.Bool.{false≢true}
use Rattle.mlc_base.specs.declared.place.Place.{Place}
use Rattle.ir_poly.specs.Prog as t
use Rattle.ir_poly.specs.Prog.{type_of}
use Rattle.prog_tree.specs.TreeOf.{Reading, tree_of, apply_by, join, left_joins, right_joins, sequence_of, argument_of, join_of}
use Rattle.prog_tree.specs.declared.tree.Exp.{Exp}
use Rattle.prog_tree.specs.declared.tree.Exp.TheVariants as exps
use Rattle.prog_tree.specs.declared.tree.Join.{Join}
use Rattle.prog_tree.specs.declared.tree.Side.{Side}
use Rattle.prog_tree.specs.declared.tree.Side.TheVariants as side
use Rattle.prog_tree.proofs.ExpOf.{tree_of-Apply, tree_of-Infix, tree_of-Sequence}
use Rattle.prog_shapes.specs.Shapes.{last_type, last_join, first_join, joined_type, given_type}

pub nonempty : (n : ℕ) → false ≡ nat_eq n 0 → n ≡ suc (n - 1)
nonempty zero e = absurd (false≢true e)
nonempty (suc n) e = omega arith

pub given : (es : List Exp) (u a : ℕ) → false ≡ nat_eq (length es) 0 → a ≡ given_type es u a
given [] u a e = absurd (false≢true e)
given (d ∷ es) u a e = refl

pub last-read : (u : ℕ) (as_ : List (ℕ × Exp)) (d : ℕ × Exp) (n : ℕ) → length as_ ≡ suc n → (get_or as_ n d).0 ≡ last_type u as_
last-read u [] d n e = absurd (omega (arith, e))
last-read u (a ∷ []) d zero e = refl
last-read u (a ∷ []) d (suc n) e = absurd (omega (arith, e))
last-read u (a ∷ b ∷ as_) d zero e = absurd (omega (arith, e))
last-read u (a ∷ b ∷ as_) d (suc n) e = last-read a.0 (b ∷ as_) d n (omega (arith, e))

pub last-joined : (u : ℕ) (js : List (Join × Exp × Exp)) (d : Join × Exp × Exp) (n : ℕ) → length js ≡ suc n → (get_or js n d).0.ty ≡ last_join u js
last-joined u [] d n e = absurd (omega (arith, e))
last-joined u (a ∷ []) d zero e = refl
last-joined u (a ∷ []) d (suc n) e = absurd (omega (arith, e))
last-joined u (a ∷ b ∷ js) d zero e = absurd (omega (arith, e))
last-joined u (a ∷ b ∷ js) d (suc n) e = last-joined a.0.ty (b ∷ js) d n (omega (arith, e))

module _ (R : Reading) where
  -- Types

  applied : (p : Place) (f : t.Exp) (u : ℕ) (as_ : List (ℕ × Exp)) → R.type u ≡ type_of f → R.type (last_type u as_) ≡ type_of (apply_by R.type p f (map (argument_of R) as_))
  applied p f u [] e = e
  applied p f u (a ∷ as_) e = applied p (t.app_exp p (R.type a.0) f (tree_of R a.1)) a.0 as_ refl

  left-type : (f : t.Exp) (u : ℕ) (js : List (Join × Exp × Exp)) → R.type u ≡ type_of f → R.type (last_join u js) ≡ type_of (left_joins R.type f (map (join_of R) js))
  left-type f u [] e = e
  left-type f u (j ∷ js) e = left-type (join R.type j.0 (tree_of R j.1) f (tree_of R j.2)) j.0.ty js refl

  right-type : (f : t.Exp) (u : ℕ) (js : List (Join × Exp × Exp)) → R.type u ≡ type_of f → R.type (first_join u js) ≡ type_of (right_joins R.type f (map (join_of R) js))
  right-type f u [] e = e
  right-type f u (j ∷ js) e = refl

  pub apply-type : (p : Place) (f : Box Exp Global) (as_ : Vec (ℕ × Exp) Global) (u : ℕ) → R.type u ≡ type_of (tree_of R f.value) → R.type (last_type u as_.items) ≡ type_of (tree_of R (exps.Apply p f as_))
  apply-type p f as_ u e = applied p (tree_of R f.value) u as_.items e ∙ ap type_of (sym (tree_of-Apply R p f as_))

  pub infix-type : (s : Side) (e : Box Exp Global) (js : Vec (Join × Exp × Exp) Global) (u : ℕ) → R.type u ≡ type_of (tree_of R e.value) → R.type (joined_type s u js.items) ≡ type_of (tree_of R (exps.Infix s e js))
  infix-type side.Left e js u k = left-type (tree_of R e.value) u js.items k ∙ ap type_of (sym (tree_of-Infix R side.Left e js))
  infix-type side.Right e js u k = right-type (tree_of R e.value) u js.items k ∙ ap type_of (sym (tree_of-Infix R side.Right e js))

  sequenced : (p : Place) (a : ℕ) (es : List Exp) (e : t.Exp) (u : ℕ) → R.type u ≡ type_of e → R.type (given_type es u a) ≡ type_of (sequence_of p (R.type a) (map (tree_of R) es) e)
  sequenced p a [] e u k = k
  sequenced p a (d ∷ es) e u k = refl

  pub sequence-type : (p : Place) (a : ℕ) (es : Vec Exp Global) (e : Box Exp Global) (u : ℕ) → R.type u ≡ type_of (tree_of R e.value) → R.type (given_type es.items u a) ≡ type_of (tree_of R (exps.Sequence p a es e))
  sequence-type p a es e u k = sequenced p a es.items (tree_of R e.value) u k ∙ ap type_of (sym (tree_of-Sequence R p a es e))
