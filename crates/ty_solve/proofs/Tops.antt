-- A type's highest variable.
use Rattle.std.proofs.Common.{◌≡◌, ◌≤◌, ℕ, true, refl, arith}
use Rattle.std.proofs.lemmas.Bool.{lt-ltb, ltb-true, and_parts, and_from}
use Rattle.ty_table.specs.of_ty_core.Types.{Typ, var, con, Typs, none, more}
use Rattle.ty_table.specs.TypeAt.{top, tops}
use Rattle.ty_solve.specs.Substitution.{is_below, are_below}

mutual
  pub top-below : (n : ℕ) (t : Typ) → top t ≤ n → is_below n t ≡ true
  top-below n (var v) h = lt-ltb v n (omega arith)
  top-below n (con g ts) h = tops-below n ts h

  tops-below : (n : ℕ) (ts : Typs) → tops ts ≤ n → are_below n ts ≡ true
  tops-below n none h = refl
  tops-below n (more t ts) h = and_from _ _ (top-below n t (omega arith)) (tops-below n ts (omega arith))

mutual
  pub below-top : (n : ℕ) (t : Typ) → is_below n t ≡ true → top t ≤ n
  below-top n (var v) h = let lt = ltb-true v n h in omega arith
  below-top n (con g ts) h = below-tops n ts h

  below-tops : (n : ℕ) (ts : Typs) → are_below n ts ≡ true → tops ts ≤ n
  below-tops n none h = omega arith
  below-tops n (more t ts) h = let p = and_parts (is_below n t) (are_below n ts) h in let a = below-top n t p.0 in let b = below-tops n ts p.1 in omega arith
