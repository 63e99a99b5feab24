-- Lists of fields, arguments and operators, with one element more.
use Rattle.std.proofs.Common.{◌≡◌, ◌<◌, ◌≤◌, ◌+◌, ℕ, zero, suc, List, [], ◌∷◌, ◌++◌, map, length, take, drop, slice_index_or, refl, sym, ap, ◌∙◌, arith}
use Rattle.mlc_names.specs.declared.label.Label.{Label}
use Rattle.mlc_base.specs.declared.place.Place.{Place}
use Rattle.ty_core.specs.Types.{Typ}
use Rattle.ir_poly.specs.Prog as t
use Rattle.match_compile.specs.Compile.{way, by_call}
use Rattle.prog_tree.specs.TreeOf.{Reading, tree_of, field_of, argument_of, join_of, record_of, apply_by, left_joins, join}
use Rattle.prog_tree.specs.declared.tree.Exp.{Exp}
use Rattle.prog_tree.specs.declared.tree.Join.{Join}
use Rattle.general_bindings.proofs.of_pattern_tests.Chains.{next-take}
use Rattle.general_bindings.specs.of_exp_steps.Made.{with_field, one_more, applied}
use Rattle.general_bindings.specs.of_exp_steps.Joining.{joined}
use Rattle.match_pass.specs.Reading.{expression, fields_read, applied_to, left_chain}

field-behind : (R : Reading) (fs : List (Label × Exp)) (f : Label × Exp) → record_of (map (field_of R) (fs ++ f ∷ [])) ≡ with_field (record_of (map (field_of R) fs)) f.0 (tree_of R f.1)
field-behind R [] f = refl
field-behind R (g ∷ fs) f = ap (t.a_field g.0 (tree_of R g.1)) (field-behind R fs f)

pub fields-taken : (fs : List (Label × Exp)) (i : ℕ) (f : Label × Exp) → i < length fs → f ≡ slice_index_or fs i f → (R : Reading) → one_more (fields_read (take i fs)) f.0 (expression f.1) R ≡ fields_read (take (i + 1) fs) R
fields-taken fs i f lt is R = sym (ap (λ l. record_of (map (field_of R) l)) (next-take fs i f lt is) ∙ field-behind R (take i fs) f)

argument-behind : (R : Reading) (place : Place) (f : t.Exp) (as_ : List (ℕ × Exp)) (a : ℕ × Exp)
    → apply_by R.type place f (map (argument_of R) (as_ ++ a ∷ [])) ≡ t.app_exp place (R.type a.0) (apply_by R.type place f (map (argument_of R) as_)) (tree_of R a.1)
argument-behind R place f [] a = refl
argument-behind R place f (b ∷ as_) a = argument-behind R place (t.app_exp place (R.type b.0) f (tree_of R b.1)) as_ a

pub arguments-taken : (place : Place) (f : Reading → t.Exp) (as_ : List (ℕ × Exp)) (i : ℕ) (a : ℕ × Exp) → i < length as_ → a ≡ slice_index_or as_ i a → (R : Reading)
    → applied_to place f (take (i + 1) as_) R ≡ applied place a.0 (applied_to place f (take i as_)) (expression a.1) R
arguments-taken place f as_ i a lt is R = ap (λ l. apply_by R.type place (f R) (map (argument_of R) l)) (next-take as_ i a lt is) ∙ argument-behind R place (f R) (take i as_) a

called : (g : ℕ → Typ) (place : Place) (f : t.Exp) (as_ : List (ℕ × t.Exp)) (d : t.Exp) → ((a : t.Exp) → way f a ≡ by_call) → way (apply_by g place f as_) d ≡ by_call
called g place f [] d h = h d
called g place f (a ∷ as_) d h = called g place (t.app_exp place (g a.0) f a.1) as_ d (λ b. refl)

-- what was applied already is called
pub some-called : (place : Place) (f : Reading → t.Exp) (as_ : List (ℕ × Exp)) (i : ℕ) (d : t.Exp) → 0 < i → i ≤ length as_ → (R : Reading) → way (applied_to place f (take i as_) R) d ≡ by_call
some-called place f as_ zero d lt le R = absurd (omega arith)
some-called place f [] (suc i) d lt le R = absurd (omega arith)
some-called place f (a ∷ as_) (suc i) d lt le R = called R.type place (t.app_exp place (R.type a.0) (f R) (tree_of R a.1)) (map (argument_of R) (take i as_)) d (λ b. refl)

join-behind : (R : Reading) (e : t.Exp) (js : List (Join × Exp × Exp)) (j : Join × Exp × Exp) → left_joins R.type e (map (join_of R) (js ++ j ∷ [])) ≡ join R.type j.0 (tree_of R j.1) (left_joins R.type e (map (join_of R) js)) (tree_of R j.2)
join-behind R e [] j = refl
join-behind R e (k ∷ js) j = join-behind R (join R.type k.0 (tree_of R k.1) e (tree_of R k.2)) js j

pub joins-taken : (e : Reading → t.Exp) (js : List (Join × Exp × Exp)) (i : ℕ) (j : Join × Exp × Exp) → i < length js → j ≡ slice_index_or js i j → (R : Reading)
    → left_chain e (take (i + 1) js) R ≡ joined j.0 (expression j.1) (left_chain e (take i js)) (expression j.2) R
joins-taken e js i j lt is R = ap (λ l. left_joins R.type (e R) (map (join_of R) l)) (next-take js i j lt is) ∙ join-behind R (e R) (take i js) j

module _ {A : Type 0} where
  pub drop-past : (xs : List A) (i : ℕ) → length xs ≤ i → drop i xs ≡ []
  drop-past [] zero le = refl
  drop-past [] (suc i) le = refl
  drop-past (x ∷ xs) zero le = absurd (omega arith)
  drop-past (x ∷ xs) (suc i) le = drop-past xs i (omega arith)

  pub take-past : (xs : List A) (i : ℕ) → length xs ≤ i → take i xs ≡ xs
  take-past [] zero le = refl
  take-past [] (suc i) le = refl
  take-past (x ∷ xs) zero le = absurd (omega arith)
  take-past (x ∷ xs) (suc i) le = ap (λ l. x ∷ l) (take-past xs i (omega arith))
