-- Rows are found as constructors are, also after one more.
use Rattle.std.proofs.Common.{◌≡◌, ℕ, Bool, true, false, ◌&&◌, List, [], ◌∷◌, ◌++◌, Option, Some, None, is_some, nat_eq, if◌then◌else◌, refl, sym, ap, ◌∙◌, subst}
use Rattle.std.proofs.lemmas.Bool.{eqb-true}
use Rattle.std.specs.Option.{option_map, option_or}
use Rattle.std.specs.Map.{lookup}
use Rattle.ir_poly.specs.of_ty_core.Types.{Typ}
use Rattle.ir_poly.specs.of_ty_core.declared.name.TyName.{TyName}
use Rattle.ir_poly.specs.Types.{find}
use Rattle.ir_tables.specs.Rows.{constructor_at, constructors_at, find_row, same_key, IsIndex}
use Rattle.ir_tables.specs.declared.constructors.Constructor.{Constructor}

-- a constructor is found where its row is
pub find-rows : (ts : List Typ) (ks : List Constructor) (y : TyName) (n : ℕ) → find (constructors_at ts ks) y n ≡ option_map (constructor_at ts) (find_row ks y.stamp n)
find-rows ts [] y n = refl
find-rows ts (k ∷ ks) y n = by (nat_eq k.datatype.stamp y.stamp && nat_eq k.number n) (find-rows ts ks y n)
  where
    by : (b : Bool) → find (constructors_at ts ks) y n ≡ option_map (constructor_at ts) (find_row ks y.stamp n)
        → (if b then Some (constructor_at ts k) else find (constructors_at ts ks) y n) ≡ option_map (constructor_at ts) (if b then Some k else find_row ks y.stamp n)
    by true rest = refl
    by false rest = rest

-- one more is found where none was before
find_row-more : (ks : List Constructor) (k : Constructor) (s n : ℕ) → find_row (ks ++ k ∷ []) s n ≡ option_or (find_row ks s n) (if nat_eq k.datatype.stamp s && nat_eq k.number n then Some k else None)
find_row-more [] k s n = refl
find_row-more (j ∷ ks) k s n = by (nat_eq j.datatype.stamp s && nat_eq j.number n) (find_row-more ks k s n)
  where
    by : (b : Bool) → find_row (ks ++ k ∷ []) s n ≡ option_or (find_row ks s n) (if nat_eq k.datatype.stamp s && nat_eq k.number n then Some k else None)
        → (if b then Some j else find_row (ks ++ k ∷ []) s n) ≡ option_or (if b then Some j else find_row ks s n) (if nat_eq k.datatype.stamp s && nat_eq k.number n then Some k else None)
    by true rest = refl
    by false rest = rest

both-first : (a b : Bool) → (a && b) ≡ true → a ≡ true
both-first true b e = refl
both-first false b e = absurd (cc)

both-second : (a b : Bool) → (a && b) ≡ true → b ≡ true
both-second true b e = e
both-second false b e = absurd (cc)

-- the numbers are those of the row
at-its-own : (P : ℕ → ℕ → Type 0) (k : Constructor) (s n : ℕ) → (nat_eq k.datatype.stamp s && nat_eq k.number n) ≡ true → P k.datatype.stamp k.number → P s n
at-its-own P k s n e p =
    subst (λ i. P s i) (eqb-true k.number n (both-second (nat_eq k.datatype.stamp s) (nat_eq k.number n) e))
    (subst (λ i. P i k.number) (eqb-true k.datatype.stamp s (both-first (nat_eq k.datatype.stamp s) (nat_eq k.number n) e)) p)

there-stays : (r : Option Constructor) (o : Option Constructor) → is_some r ≡ true → option_or r o ≡ r
there-stays (Some r) o e = refl
there-stays None o e = absurd (cc)

none-left : (r : Option Constructor) (o : Option Constructor) → is_some r ≡ false → option_or r o ≡ o
none-left None o e = refl
none-left (Some r) o e = absurd (cc)

no-more : (r : Option Constructor) → option_or r None ≡ r
no-more None = refl
no-more (Some r) = refl

-- a row whose numbers are there already leaves the index as it is
pub index-kept : (ks : List Constructor) (k : Constructor) (index : List ((ℕ × ℕ) × Constructor)) → IsIndex ks index
    → is_some (lookup (same_key (k.datatype.stamp, k.number)) index) ≡ true → IsIndex (ks ++ k ∷ []) index
index-kept ks k index is there s n = is s n ∙ sym (find_row-more ks k s n ∙ by (nat_eq k.datatype.stamp s && nat_eq k.number n) refl)
  where
    by : (b : Bool) → (nat_eq k.datatype.stamp s && nat_eq k.number n) ≡ b → option_or (find_row ks s n) (if b then Some k else None) ≡ find_row ks s n
    by true e = there-stays (find_row ks s n) (Some k) (at-its-own (λ i j. is_some (find_row ks i j) ≡ true) k s n e (ap is_some (sym (is k.datatype.stamp k.number)) ∙ there))
    by false e = no-more (find_row ks s n)

-- a row with new numbers is put into the index
pub index-more : (ks : List Constructor) (k : Constructor) (index new : List ((ℕ × ℕ) × Constructor)) → IsIndex ks index
    → is_some (lookup (same_key (k.datatype.stamp, k.number)) index) ≡ false
    → ((q : ℕ × ℕ) → lookup (same_key q) new ≡ (if same_key (k.datatype.stamp, k.number) q then Some k else lookup (same_key q) index))
    → IsIndex (ks ++ k ∷ []) new
index-more ks k index new is absent put s n = put (s, n) ∙ by (nat_eq k.datatype.stamp s && nat_eq k.number n) refl ∙ sym (find_row-more ks k s n)
  where
    by : (b : Bool) → (nat_eq k.datatype.stamp s && nat_eq k.number n) ≡ b
        → (if b then Some k else lookup (same_key (s, n)) index) ≡ option_or (find_row ks s n) (if b then Some k else None)
    by true e = sym (none-left (find_row ks s n) (Some k) (at-its-own (λ i j. is_some (find_row ks i j) ≡ false) k s n e (ap is_some (sym (is k.datatype.stamp k.number)) ∙ absent)))
    by false e = is s n ∙ sym (no-more (find_row ks s n))
