-- A table's rows, one by one.
use Rattle.std.proofs.Common.{◌≡◌, ◌↔◌, ℕ, zero, suc, ◌+◌, ◌<◌, ◌≤◌, Bool, true, false, ◌&&◌, List, [], ◌∷◌, length, take, slice_index_or, Option, Some, IsTrue, refl, sym, ap, ◌∙◌, subst, arith}
use Rattle.std.proofs.lemmas.Bool.{and_parts, and_from}
use Rattle.std.proofs.Math.Seq.{take-length}
use Rattle.std.specs.List.{AllByRecursion}
use Rattle.std.specs.Option.{option_map}
use Rattle.ty_core.specs.Types.{Typ, var, con, Typs, none, more}
use Rattle.ty_core.specs.declared.name.Equality.{Equality}
use Rattle.ty_table.specs.TypeAt.{type_at, top, tops}
use Rattle.ir_known.specs.of_ir_poly.Types.{IsConstructor}
use Rattle.ir_known.specs.of_ir_poly.Types as clean
use Rattle.ir_known.specs.of_ir_tables.declared.constructors.Constructor.{Constructor}
use Rattle.ir_known.specs.of_ir_tables.Rows.{constructor_at, constructors_at}
use Rattle.prog_check.specs.Program.{below, all_below, check_argument, check_constructor, check_table, respects}
use Rattle.prog_check.proofs.ProgramLemmas.{table-sound, table-complete}
use Rattle.ir_uses.proofs.Deciding.{from-decided}

mutual
  pub below-top : (n : ℕ) (t : Typ) → top t ≤ n → below n t ≡ true
  below-top n (var v) l = grind arith
  below-top n (con h ts) l = all-below-top n ts l

  all-below-top : (n : ℕ) (ts : Typs) → tops ts ≤ n → all_below n ts ≡ true
  all-below-top n none l = refl
  all-below-top n (more t ts) l = and_from _ _ (below-top n t (omega arith)) (all-below-top n ts (omega arith))

mutual
  pub top-below : (n : ℕ) (t : Typ) → below n t ≡ true → top t ≤ n
  top-below n (var v) e = grind arith
  top-below n (con h ts) e = tops-below n ts e

  tops-below : (n : ℕ) (ts : Typs) → all_below n ts ≡ true → tops ts ≤ n
  tops-below n none e = omega arith
  tops-below n (more t ts) e = let a = and_parts (below n t) _ e in let p = top-below n t a.0 in let q = tops-below n ts a.1 in omega arith

-- the argument of a constructor
module _ (ts : List Typ) (n : ℕ) (q : Equality) (o : Option ℕ) (k : ℕ) (e : o ≡ Some k) where
  pub argument-above : (top (type_at ts k) ≤ n → ⊥) → false ≡ check_argument n q (option_map (type_at ts) o)
  argument-above h = go (below n (type_at ts k)) refl ∙ sym (ap (λ z. check_argument n q (option_map (type_at ts) z)) e)
    where
      go : (b : Bool) → below n (type_at ts k) ≡ b → false ≡ (below n (type_at ts k) && respects q (type_at ts k))
      go true i = absurd (h (top-below n (type_at ts k) i))
      go false i = sym (ap (λ b. b && respects q (type_at ts k)) i)

  pub argument-below : (answer : Bool) → top (type_at ts k) ≤ n → answer ≡ respects q (type_at ts k) → answer ≡ check_argument n q (option_map (type_at ts) o)
  argument-below answer h i = i ∙ sym (ap (λ b. b && respects q (type_at ts k)) (below-top n (type_at ts k) h)) ∙ sym (ap (λ z. check_argument n q (option_map (type_at ts) z)) e)

module _ (types : List Typ) where
  pub table-more : (ks : List Constructor) (i : ℕ) (d : Constructor) → i < length ks → check_table (constructors_at types (take i ks)) ≡ true → check_constructor (constructor_at types (slice_index_or ks i d)) ≡ true
      → check_table (constructors_at types (take (i + 1) ks)) ≡ true
  table-more ks i d lt e o = subst (λ n. check_table (constructors_at types (take n ks)) ≡ true) one (go ks i lt e o)
    where
      one : suc i ≡ i + 1
      one = omega arith

      go : (ks : List Constructor) (i : ℕ) → i < length ks → check_table (constructors_at types (take i ks)) ≡ true → check_constructor (constructor_at types (slice_index_or ks i d)) ≡ true
          → check_table (constructors_at types (take (suc i) ks)) ≡ true
      go [] i lt e o = absurd (omega arith)
      go (k ∷ ks) zero lt e o = and_from _ _ o refl
      go (k ∷ ks) (suc i) lt e o = let a = and_parts (check_constructor (constructor_at types k)) _ e in and_from _ _ a.0 (go ks i (omega arith) a.1 o)

  pub table-not : (ks : List Constructor) (i : ℕ) (d : Constructor) → i < length ks → check_constructor (constructor_at types (slice_index_or ks i d)) ≡ false → false ≡ check_table (constructors_at types ks)
  table-not [] i d lt o = absurd (omega arith)
  table-not (k ∷ ks) zero d lt o = sym (ap (λ b. b && check_table (constructors_at types ks)) o)
  table-not (k ∷ ks) (suc i) d lt o = go (check_constructor (constructor_at types k)) (table-not ks i d (omega arith) o)
    where
      go : (b : Bool) → false ≡ check_table (constructors_at types ks) → false ≡ (b && check_table (constructors_at types ks))
      go true e = e
      go false e = refl

  pub table-all : (ks : List Constructor) → check_table (constructors_at types (take (length ks) ks)) ≡ true → true ≡ check_table (constructors_at types ks)
  table-all ks e = sym e ∙ ap (λ l. check_table (constructors_at types l)) (take-length ks)

pub table-fits : (ks : List clean.Constructor) (answer : Bool) → answer ≡ check_table ks → IsTrue answer ↔ AllByRecursion IsConstructor ks
table-fits ks answer e = from-decided answer (check_table ks) e (table-sound ks) (table-complete ks)
