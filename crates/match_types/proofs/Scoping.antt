-- Types with types put for their variables.
use Rattle.std.proofs.Common.{◌≡◌, ◌<◌, ◌≤◌, ℕ, Bool, true, false, cond, ◌||◌, List, [], ◌∷◌, Some, is_some, nat_eq, if◌then◌else◌, refl, ap, ap₂, ◌∙◌, arith}
use Rattle.std.specs.Map.{lookup}
use Rattle.ty_core.specs.Types.{Typ, var, con, Typs, none, more}
use Rattle.ty_core.specs.Statics.{replace, replace_all}
use Rattle.ty_core.specs.declared.mark.Mark.{Mark}
use Rattle.ty_core.specs.declared.scheme.Quantified.{Quantified}
use Rattle.ty_table.specs.TypeAt.{top, tops}
use Rattle.ir_poly.specs.Types.{in_scope, over, unit_type}
use Rattle.ir_poly.proofs.ReplaceLemmas.{replace-agree}
use Rattle.ir_known.specs.Knows.{marks_of}
use Rattle.match_names.specs.of_match_compile.Compile.{standing, scoped}
use Rattle.match_names.proofs.Naming.{same-either-way}

mutual
  replace-var : (t : Typ) → replace var t ≡ t
  replace-var (var v) = refl
  replace-var (con a ts) = ap (con a) (replace_all-var ts)

  replace_all-var : (ts : Typs) → replace_all var ts ≡ ts
  replace_all-var none = refl
  replace_all-var (more t ts) = rw (replace-var t, replace_all-var ts) refl

-- a type whose variables are in scope stands for itself
pub scoped-over : (D : List Quantified) (t : Typ) → over D t ≡ true → scoped D t ≡ t
scoped-over D t h = replace-agree D t h (standing D) var (λ v e. ap (λ b. if b then var v else unit_type) e) ∙ replace-var t

mutual
  replace-ext : (f g : ℕ → Typ) → ((v : ℕ) → f v ≡ g v) → (t : Typ) → replace f t ≡ replace g t
  replace-ext f g h (var v) = h v
  replace-ext f g h (con a ts) = ap (con a) (replace_all-ext f g h ts)

  replace_all-ext : (f g : ℕ → Typ) → ((v : ℕ) → f v ≡ g v) → (ts : Typs) → replace_all f ts ≡ replace_all g ts
  replace_all-ext f g h none = refl
  replace_all-ext f g h (more t ts) = rw (replace-ext f g h t, replace_all-ext f g h ts) refl

-- which variables are in scope is all that counts
pub scoped-same : (D S : List Quantified) → ((v : ℕ) → in_scope D v ≡ in_scope S v) → (t : Typ) → scoped D t ≡ scoped S t
scoped-same D S h t = replace-ext (standing D) (standing S) (λ v. ap (λ b. if b then var v else unit_type) (h v)) t

mutual
  pub replace-below : (n : ℕ) (f g : ℕ → Typ) → ((v : ℕ) → v < n → f v ≡ g v) → (t : Typ) → top t ≤ n → replace f t ≡ replace g t
  replace-below n f g h (var v) le = h v (omega arith)
  replace-below n f g h (con a ts) le = ap (con a) (replace_all-below n f g h ts le)

  replace_all-below : (n : ℕ) (f g : ℕ → Typ) → ((v : ℕ) → v < n → f v ≡ g v) → (ts : Typs) → tops ts ≤ n → replace_all f ts ≡ replace_all g ts
  replace_all-below n f g h none le = refl
  replace_all-below n f g h (more t ts) le = ap₂ more (replace-below n f g h t (omega arith)) (replace_all-below n f g h ts (omega arith))

-- a variable is in scope where its mark is found
pub found-in_scope : (v : ℕ) (scope : List (ℕ × Mark)) → is_some (lookup (nat_eq v) scope) ≡ in_scope (marks_of scope) v
found-in_scope v [] = refl
found-in_scope v (e ∷ es) = go (nat_eq v e.0) (nat_eq e.0 v) (same-either-way v e.0) (found-in_scope v es)
  where
    go : (a b : Bool) → a ≡ b → is_some (lookup (nat_eq v) es) ≡ in_scope (marks_of es) v
        → is_some (cond a (Some e.1) (lookup (nat_eq v) es)) ≡ (b || in_scope (marks_of es) v)
    go true true h r = refl
    go false false h r = r
    go true false h r = absurd (cc)
    go false true h r = absurd (cc)
