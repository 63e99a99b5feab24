-- Types of records and of functions, part by part.
use Rattle.std.proofs.Common.{◌≡◌, ℕ, suc, ◌+◌, ◌<◌, ◌≤◌, Bool, true, false, nat_eq, List, [], ◌∷◌, ◌++◌, map, length, drop, get_or, Vec, Box, Global, IsTrue, ◌↔◌, refl, sym, ap, ◌∙◌, append_assoc, append-nil, arith}
use Rattle.std.proofs.lemmas.Bool.{eqb-true}
use Rattle.mlc_names.specs.declared.label.Label.{Label}
use Rattle.mlc_base.specs.declared.place.Place.{Place}
use Rattle.label_rows.specs.Order.{sorted_by}
use Rattle.label_rows.specs.Sorting.{sorted as fields_sorted}
use Rattle.label_rows.specs.declared.sort.Field.{Field}
use Rattle.label_rows.proofs.Mapped.{sorted-map}
use Rattle.ty_core.specs.Types.{Typ, var, con, Typs, none, more}
use Rattle.ty_table.specs.TypeAt.{type_at}
use Rattle.ir_poly.specs.Prog as tree
use Rattle.ir_poly.specs.Types.{function_type, sorted}
use Rattle.ir_tables.specs.declared.tables.Tables.{Tables}
use Rattle.prog_pats.specs.of_ir_uses.Fields.{field_types}
use Rattle.prog_check.specs.Same.{same_type}
use Rattle.prog_check.specs.Checking.{fun_type}
use Rattle.prog_known.proofs.ListLemmas.{drop-next, drop-all}
use Rattle.prog_tree.specs.Readings.{reading}
use Rattle.prog_tree.specs.TreeOf.{function_of, tree_of, rule_of, rules_of, after_parameters}
use Rattle.prog_tree.specs.declared.tree.Exp.{Exp}
use Rattle.prog_tree.specs.declared.tree.Function.{Function}
use Rattle.prog_tree.specs.declared.tree.Function.TheVariants as functions
use Rattle.prog_tree.specs.declared.tree.Join.{Join}
use Rattle.prog_tree.specs.declared.tree.Parameter.{Parameter}
use Rattle.prog_tree.specs.declared.tree.Rule.{Rule}
use Rattle.prog_tree.specs.declared.tree.Side.TheVariants as side
use Rattle.prog_tree.proofs.ExpOf.{function_of-Named, function_of-ByRules}
use Rattle.prog_pats.specs.of_prog_parts.Expressions.{type_in, right_type}
use Rattle.prog_pats.proofs.of_prog_parts.Truths.{as-same, not-same}
use Rattle.prog_leaves.specs.Right.{is_function_type, is_last, has_type}
use Rattle.prog_leaves.specs.Rows.{field_of, pair_of}
use Rattle.prog_leaves.specs.Functions as curried
use Rattle.prog_leaves.specs.Functions.{curried_is}

-- Pairs that are sorted as fields

back : (row : List (Label × ℕ)) → map pair_of (map field_of row) ≡ row
back [] = refl
back (p ∷ row) = ap (λ l. p ∷ l) (back row)

pub pairs-in-order : (row : List (Label × ℕ)) (fields ordered : List Field) (made : List (Label × ℕ)) → made ≡ map pair_of ordered → ordered ≡ fields_sorted fields
    → fields ≡ map field_of row → made ≡ sorted_by (λ f. f.0) row
pairs-in-order row fields ordered made e h k =
    e ∙ ap (map pair_of) (h ∙ ap fields_sorted k) ∙ sorted-map (λ d. d.label) (λ f. f.0) pair_of (λ d. refl) (map field_of row) ∙ ap (sorted_by (λ f. f.0)) (back row)

-- Functions

given : Typ → Typ
given (var v) = var v
given (con h none) = con h none
given (con h (more a none)) = a
given (con h (more a (more b ts))) = b

given-back : (a b c : Typ) → function_type a b ≡ function_type a c → b ≡ c
unfolding given
given-back a b c e = ap given e

-- a function's type, by what it gives
pub made-some : (t a m r : Typ) (b : Bool) → t ≡ function_type a m → IsTrue b ↔ (m ≡ r) → b ≡ same_type t (function_type a r)
made-some t a m r b e w = as-same b t (function_type a r) ((λ y. e ∙ ap (function_type a) (w.0 y)), (λ k. w.1 (given-back a m r (sym e ∙ k))))

module _ (ts : List Typ) where
  functions-back : (xs : List Parameter) (u w : Typ) → curried.functions ts xs u ≡ curried.functions ts xs w → u ≡ w
  functions-back [] u w e = e
  functions-back (x ∷ xs) u w e = functions-back xs u w (given-back (type_at ts x.ty) (curried.functions ts xs u) (curried.functions ts xs w) e)

  -- the type of this number is that of what is left after i parameters
  pub record Taking (xs : List Parameter) (ty now i : ℕ) : Type 0 where
    pub on : (u : Typ) → type_at ts ty ≡ curried.functions ts xs u → type_at ts now ≡ curried.functions ts (drop i xs) u
    pub back : (u : Typ) → type_at ts now ≡ curried.functions ts (drop i xs) u → type_at ts ty ≡ curried.functions ts xs u

  pub taking-starts : (xs : List Parameter) (ty : ℕ) → Taking xs ty ty 0
  taking-starts xs ty = record { on = λ u e. e; back = λ u e. e }

  next-is : (xs : List Parameter) (i : ℕ) (d : Parameter) (u : Typ) → i < length xs → curried.functions ts (drop i xs) u ≡ function_type (type_at ts (get_or xs i d).ty) (curried.functions ts (drop (i + 1) xs) u)
  next-is xs i d u lt = ap (λ l. curried.functions ts l u) (drop-next xs i d lt)

  pub taking-more : (xs : List Parameter) (ty now next i : ℕ) (d : Parameter) → i < length xs → type_at ts now ≡ function_type (type_at ts (get_or xs i d).ty) (type_at ts next) → Taking xs ty now i → Taking xs ty next (i + 1)
  taking-more xs ty now next i d lt k g = record {
    on = λ u a. given-back (type_at ts (get_or xs i d).ty) (type_at ts next) (curried.functions ts (drop (i + 1) xs) u) (sym k ∙ g.on u a ∙ next-is xs i d u lt);
    back = λ u a. g.back u (k ∙ ap (function_type (type_at ts (get_or xs i d).ty)) a ∙ sym (next-is xs i d u lt));
  }

  pub taking-stops : (xs : List Parameter) (ty now i : ℕ) (d : Parameter) → i < length xs → ((u : Typ) → type_at ts now ≡ function_type (type_at ts (get_or xs i d).ty) u → ⊥) → Taking xs ty now i
      → (u : Typ) → type_at ts ty ≡ curried.functions ts xs u → ⊥
  taking-stops xs ty now i d lt n g u a = n (curried.functions ts (drop (i + 1) xs) u) (g.on u a ∙ next-is xs i d u lt)

  pub taking-ends : (xs : List Parameter) (ty now i : ℕ) → length xs ≤ i → Taking xs ty now i → type_at ts ty ≡ curried.functions ts xs (type_at ts now)
  taking-ends xs ty now i le g = g.back (type_at ts now) (ap (λ l. curried.functions ts l (type_at ts now)) (sym (drop-all xs i le)))

  pub curried-some : (xs : List Parameter) (a u ty rest : ℕ) (b : Bool) → type_at ts ty ≡ curried.functions ts xs (type_at ts rest) → IsTrue b ↔ (type_at ts rest ≡ function_type (type_at ts a) (type_at ts u)) → b ≡ curried_is ts xs a u ty
  curried-some xs a u ty rest b e w = as-same b (type_at ts ty) (curried.functions ts xs (function_type (type_at ts a) (type_at ts u)))
      ((λ y. e ∙ ap (curried.functions ts xs) (w.0 y)), (λ k. w.1 (functions-back xs (type_at ts rest) (function_type (type_at ts a) (type_at ts u)) (sym e ∙ k))))

  pub curried-none : (xs : List Parameter) (a u ty : ℕ) → ((w : Typ) → type_at ts ty ≡ curried.functions ts xs w → ⊥) → false ≡ curried_is ts xs a u ty
  curried-none xs a u ty n = not-same (type_at ts ty) (curried.functions ts xs (function_type (type_at ts a) (type_at ts u))) (n (function_type (type_at ts a) (type_at ts u)))

module _ (t : Tables) where
  typed-after : (xs : List Parameter) (f : tree.Fun) → curried.functions t.types xs (fun_type f) ≡ fun_type (after_parameters (reading t) xs f)
  typed-after [] f = refl
  typed-after (x ∷ xs) f = ap (function_type (type_at t.types x.ty)) (typed-after xs f)

  pub named-type : (xs : Vec Parameter Global) (x : Parameter) (b : Box Exp Global) (ty : ℕ)
      → same_type (type_at t.types ty) (curried.functions t.types xs.items (function_type (type_at t.types x.ty) (type_in t b.value))) ≡ is_function_type t (functions.Named xs x b) ty
  unfolding is_function_type
  named-type xs x b ty = ap (same_type (type_at t.types ty))
      (typed-after xs.items (tree.last x.variable (type_at t.types x.ty) (tree_of (reading t) b.value)) ∙ ap fun_type (sym (function_of-Named (reading t) xs x b)))

  pub by-rules-type : (xs : Vec Parameter Global) (p : Place) (a u : ℕ) (rs : Vec Rule Global) (ty : ℕ) → curried_is t.types xs.items a u ty ≡ is_function_type t (functions.ByRules xs p a u rs) ty
  unfolding is_function_type
  by-rules-type xs p a u rs ty = ap (same_type (type_at t.types ty))
      (typed-after xs.items (tree.by_rules p (type_at t.types a) (type_at t.types u) (rules_of (map (rule_of (reading t)) rs.items))) ∙ ap fun_type (sym (function_of-ByRules (reading t) xs p a u rs)))

  -- Records

  abbrev part : Label × Exp → Label × Typ
  part f = (f.0, type_in t f.1)

  -- the types of the first i fields are there
  pub record Gathering (fs : List (Label × Exp)) (row : List (Label × ℕ)) (i : ℕ) : Type 0 where
    pub is : field_types t.types row ++ map part (drop i fs) ≡ map part fs

  pub gathering-starts : (fs : List (Label × Exp)) (row : List (Label × ℕ)) → row ≡ [] → Gathering fs row 0
  gathering-starts fs row e = record { is = ap (λ r. field_types t.types r ++ map part fs) e }

  one-more : (row : List (Label × ℕ)) (x : Label × ℕ) → field_types t.types (row ++ x ∷ []) ≡ field_types t.types row ++ (x.0, type_at t.types x.1) ∷ []
  one-more [] x = refl
  one-more (y ∷ row) x = ap (λ l. (y.0, type_at t.types y.1) ∷ l) (one-more row x)

  pub gathering-more : (fs : List (Label × Exp)) (row after : List (Label × ℕ)) (i ty : ℕ) (x : Label × Exp) → i < length fs → x ≡ get_or fs i x → after ≡ row ++ (x.0, ty) ∷ [] → type_at t.types ty ≡ type_in t x.1
      → Gathering fs row i → Gathering fs after (i + 1)
  gathering-more fs row after i ty x lt e k y g = record {
    is = ap (λ r. field_types t.types r ++ map part (drop (i + 1) fs)) k
        ∙ ap (λ r. r ++ map part (drop (i + 1) fs)) (one-more row (x.0, ty) ∙ ap (λ (u : Typ). field_types t.types row ++ (x.0, u) ∷ []) y)
        ∙ append_assoc (field_types t.types row) ((x.0, type_in t x.1) ∷ []) (map part (drop (i + 1) fs))
        ∙ ap (λ l. field_types t.types row ++ l) (sym (ap (map part) (drop-next fs i x lt ∙ ap (λ y. y ∷ drop (i + 1) fs) (sym e))))
        ∙ g.is;
  }

  pub gathering-ends : (fs : List (Label × Exp)) (row : List (Label × ℕ)) (i : ℕ) → length fs ≤ i → Gathering fs row i → field_types t.types row ≡ map part fs
  gathering-ends fs row i le g = sym (append-nil (field_types t.types row)) ∙ ap (λ l. field_types t.types row ++ map part l) (sym (drop-all fs i le)) ∙ g.is

  -- in the order of labels
  pub row-in-order : (fs : List (Label × Exp)) (written row : List (Label × ℕ)) → row ≡ sorted_by (λ f. f.0) written → field_types t.types written ≡ map part fs
      → field_types t.types row ≡ sorted (map part fs)
  row-in-order fs written row e h =
      ap (field_types t.types) e ∙ sorted-map (λ f. f.0) (λ f. f.0) (λ f. (f.0, type_at t.types f.1)) (λ f. refl) written ∙ ap sorted h

  -- Operators

  pub right-next : (j : Join × Exp × Exp) (js : List (Join × Exp × Exp)) (i : ℕ) (k : Join × Exp × Exp) → i < length js → k ≡ get_or js i k → type_at t.types k.0.ty ≡ right_type t side.Right j (drop i js)
  right-next j js i k lt e = ap (right_type t side.Right j) (sym (drop-next js i k lt ∙ ap (λ y. y ∷ drop (i + 1) js) (sym e)))

  pub right-last : (j : Join × Exp × Exp) (js : List (Join × Exp × Exp)) (i : ℕ) → length js ≤ i → type_in t j.2 ≡ right_type t side.Right j (drop i js)
  right-last j js i le = ap (right_type t side.Right j) (sym (drop-all js i le))

  -- The last expression of a sequence

  pub last-none : (es : List Exp) (x : Exp) (a : ℕ) (b : Bool) → b ≡ nat_eq (length es) 0 → b ≡ true → true ≡ is_last t es x a
  unfolding is_last
  last-none [] x a b e f = refl
  last-none (d ∷ es) x a b e f = absurd (let k : suc (length es) ≡ 0 = eqb-true (suc (length es)) 0 (sym e ∙ f) in omega (arith, k))

  pub last-some : (es : List Exp) (x : Exp) (a : ℕ) (b : Bool) → b ≡ nat_eq (length es) 0 → b ≡ false → has_type t x a ≡ is_last t es x a
  unfolding is_last has_type
  last-some [] x a b e f = absurd (let k : true ≡ false = sym e ∙ f in cc)
  last-some (d ∷ es) x a b e f = refl
