-- Copies of one name are one.
use Rattle.std.proofs.Common.{◌≡◌, ◌≢◌, AllPairs, ◌<◌, ℕ, zero, suc, Bool, true, false, List, [], ◌∷◌, length, Some, get_or, slice_get, nat_eq, if◌then◌else◌, refl, sym, ap, ap₂, ◌∙◌, arith}
use Rattle.std.proofs.lemmas.Bool.{eqb-true}
use Rattle.ty_core.specs.Types.{Typ, var}
use Rattle.ty_table.specs.TypeAt.{type_at, AllBelow}
use Rattle.ty_table.proofs.Keeping.{one-place}
use Rattle.monomorphise.specs.Monomorphise.{same_types}
use Rattle.monomorphise.proofs.Names.{types-is}
use Rattle.mono_names.specs.Named.{types_named, NamesAreOnce}

-- types have one list
one-list : (ts : List Typ) (l m : List ℕ) → AllPairs (λ t u. t ≢ u) ts → AllBelow (length ts) l → AllBelow (length ts) m → types_named ts l ≡ types_named ts m → l ≡ m
one-list ts [] [] h a b e = refl
one-list ts [] (j ∷ m) h a b e = cc
one-list ts (i ∷ l) [] h a b e = cc
one-list ts (i ∷ l) (j ∷ m) h a b e =
    let p : type_at ts i ≡ type_at ts j = cc in
    let q : types_named ts l ≡ types_named ts m = cc in
    ap₂ (λ k n. k ∷ n) (one-place (var 0) ts i j h a.0 b.0 p) (one-list ts l m h a.1 b.1 q)

list-there : (lists : List (List ℕ)) (n : ℕ) → n < length lists → slice_get lists n ≡ Some (get_or lists n [])
list-there [] n lt = absurd (omega arith)
list-there (l ∷ lists) zero lt = refl
list-there (l ∷ lists) (suc n) lt = list-there lists n (omega arith)

both-same : (x y : ℕ) (us vs : List Typ) → (if nat_eq x y then same_types us vs else false) ≡ true → (x ≡ y) × (us ≡ vs)
both-same x y us vs e = by (nat_eq x y) refl e
  where
    by : (b : Bool) → nat_eq x y ≡ b → (if b then same_types us vs else false) ≡ true → (x ≡ y) × (us ≡ vs)
    by true i e = (eqb-true x y i, types-is us vs e)
    by false i e = absurd (cc)

pub names-once : NamesAreOnce
names-once ts lists c d once single within lc ld e =
    let b = both-same c.0 d.0 (types_named ts (get_or lists c.1 [])) (types_named ts (get_or lists d.1 [])) e in
    let hc = list-there lists c.1 lc in
    let hd = list-there lists d.1 ld in
    let l : get_or lists c.1 [] ≡ get_or lists d.1 [] = one-list ts (get_or lists c.1 []) (get_or lists d.1 []) once (within c.1 (get_or lists c.1 []) hc) (within d.1 (get_or lists d.1 []) hd) b.1 in
    ap₂ (λ x n. (x, n)) b.0 (single c.1 d.1 (get_or lists c.1 []) hc (hd ∙ ap Some (sym l)))
