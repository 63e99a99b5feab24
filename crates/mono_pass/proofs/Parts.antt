-- The table of copies has the parts of its types, and what their constructors take.
use Rattle.std.proofs.Common.{◌≡◌, ◌<◌, ◌≤◌, ℕ, zero, suc, Bool, true, false, List, [], ◌∷◌, ◌++◌, length, Option, Some, None, slice_get, nat_eq, if◌then◌else◌, refl, sym, ap, subst, arith}
use Rattle.std.specs.Prelude.{slice_set}
use Rattle.std.specs.Map.{lookup}
use Rattle.std.specs.List.{AllByRecursion}
use Rattle.ty_core.specs.Types.{Symbol, arrow, labels, name, Typ, var, con, Typs, none, more}
use Rattle.ty_core.specs.declared.name.TyName.{TyName}
use Rattle.ir_plain.specs.Tree.{Exp}
use Rattle.ir_poly.specs.Types.{Constructor, find}
use Rattle.ir_mono.specs.Types.{Row, Node, node, node_at, unit_number}
use Rattle.ir_mono.specs.Growing.{with_constructor}
use Rattle.monomorphise.specs.Monomorphise.{Named, same_name}
use Rattle.monomorphise.specs.Simple.{nth_part}
use Rattle.monomorphise.specs.Table.{Wanted, a_type, a_constructor, wanted, row_of, placed, place, place_type, place_all, with_argument, with_found, with_new, unless_listed, enter_at, enter, enter_all, first_types, types_for}
use Rattle.monomorphise.proofs.Placed.{Position, nowhere_yet, there_at, position-right}
use Rattle.mono_form.specs.Parts.{parts_of, TakesBelow, RowBelow, HasParts}

abbrev Below : ℕ → List ℕ → Type 0
Below n = AllByRecursion (λ p. p < n)

numbers-up : (n m : ℕ) → n ≤ m → (ps : List ℕ) → Below n ps → Below m ps
numbers-up n m le [] h = tt
numbers-up n m le (p ∷ ps) h = (let lt = h.0 in omega (arith, le, lt), numbers-up n m le ps h.1)

takes-up : (n m : ℕ) → n ≤ m → (a : Option ℕ) → TakesBelow n a → TakesBelow m a
takes-up n m le None h = tt
takes-up n m le (Some a) h = omega (arith, le, h)

taken-up : (n m : ℕ) → n ≤ m → (cs : List (ℕ × Option ℕ)) → AllByRecursion (λ c. TakesBelow n c.1) cs → AllByRecursion (λ c. TakesBelow m c.1) cs
taken-up n m le [] h = tt
taken-up n m le (c ∷ cs) h = (takes-up n m le c.1 h.0, taken-up n m le cs h.1)

row-up : (n m : ℕ) → n ≤ m → (r : Row) → RowBelow n r → RowBelow m r
row-up n m le r h = record { parts = numbers-up n m le (parts_of r.type) h.parts; taken = taken-up n m le r.constructors h.taken }

rows-up : (n m : ℕ) → n ≤ m → (rs : List Row) → AllByRecursion (RowBelow n) rs → AllByRecursion (RowBelow m) rs
rows-up n m le [] h = tt
rows-up n m le (r ∷ rs) h = (row-up n m le r h.0, rows-up n m le rs h.1)

module _ {A : Type 0} (P : A → Type 0) where
  all-end : (xs : List A) (x : A) → AllByRecursion P xs → P x → AllByRecursion P (xs ++ x ∷ [])
  all-end [] x h p = (p, tt)
  all-end (y ∷ xs) x h p = (h.0, all-end xs x h.1 p)

  all-set : (xs : List A) (n : ℕ) (x : A) → AllByRecursion P xs → P x → AllByRecursion P (slice_set xs n x)
  all-set [] n x h p = tt
  all-set (y ∷ xs) zero x h p = (p, h.1)
  all-set (y ∷ xs) (suc n) x h p = (h.0, all-set xs n x h.1 p)

  all-get : (xs : List A) (n : ℕ) (x : A) → slice_get xs n ≡ Some x → AllByRecursion P xs → P x
  all-get [] n x e h = absurd (cc)
  all-get (y ∷ xs) zero x e h = let same : y ≡ x = cc in subst P same h.0
  all-get (y ∷ xs) (suc n) x e h = all-get xs n x e h.1

length-end : {A : Type 0} (xs : List A) (x : A) → length (xs ++ x ∷ []) ≡ suc (length xs)
length-end [] x = refl
length-end (y ∷ xs) x = ap suc (length-end xs x)

length-set : {A : Type 0} (xs : List A) (n : ℕ) (x : A) → length (slice_set xs n x) ≡ length xs
length-set [] n x = refl
length-set (y ∷ xs) zero x = refl
length-set (y ∷ xs) (suc n) x = ap suc (length-set xs n x)

node-within : (types : List Row) (n : ℕ) (k : Node) → node_at types n ≡ Some k → n < length types
node-within [] n k e = absurd (cc)
node-within (r ∷ types) zero k e = omega arith
node-within (r ∷ types) (suc n) k e = let lt = node-within types n k e in omega (arith, lt)

set-parts : (types : List Row) (n : ℕ) (r : Row) → HasParts types → RowBelow (length types) r → HasParts (slice_set types n r)
set-parts types n r h p = subst (λ l. AllByRecursion (RowBelow l) (slice_set types n r)) (sym (length-set types n r)) (all-set (RowBelow (length types)) types n r h p)

-- a table that has grown, with a number in it
record Grown (old new : List Row) (n : ℕ) : Type 0 where
  parts : HasParts new
  longer : length old ≤ length new
  below : n < length new

record AllGrown (old new : List Row) (ns : List ℕ) : Type 0 where
  parts : HasParts new
  longer : length old ≤ length new
  below : Below (length new) ns

place-grown : (types : List Row) (h : Symbol) (ps : List ℕ) → HasParts types → Below (length types) ps → Grown types (place types (node h ps)).0 (place types (node h ps)).1
place-grown types h ps w b = go (position-right (node h ps) types)
  where
    more : length (types ++ row_of types (node h ps) ∷ []) ≡ suc (length types)
    more = length-end types (row_of types (node h ps))

    up : length types ≤ length (types ++ row_of types (node h ps) ∷ [])
    up = let m = more in omega (arith, m)

    go : {o : Option ℕ} → Position (node h ps) types o → Grown types (placed types (node h ps) o).0 (placed types (node h ps) o).1
    go (nowhere_yet new) = record {
      parts = rows-up (length types) (length (types ++ row_of types (node h ps) ∷ [])) up (types ++ row_of types (node h ps) ∷ []) (all-end (RowBelow (length types)) types (row_of types (node h ps)) w (record { parts = b; taken = tt }));
      longer = up;
      below = let m = more in omega (arith, m);
    }
    go (there_at {n = n} e) = record { parts = w; longer = omega arith; below = node-within types n (node h ps) e }

mutual
  type-grown : (s : ℕ → ℕ) (types : List Row) → HasParts types → ((v : ℕ) → s v < length types) → (t : Typ) → Grown types (place_type s types t).0 (place_type s types t).1
  type-grown s types w vs (var v) = record { parts = w; longer = omega arith; below = vs v }
  type-grown s types w vs (con h ts) =
      let r = place_all s types ts in
      let a = all-grown s types w vs ts in
      let p = place-grown r.0 h r.1 a.parts a.below in
      let la = a.longer in let lp = p.longer in
      record { parts = p.parts; longer = omega (arith, la, lp); below = p.below }

  all-grown : (s : ℕ → ℕ) (types : List Row) → HasParts types → ((v : ℕ) → s v < length types) → (ts : Typs) → AllGrown types (place_all s types ts).0 (place_all s types ts).1
  all-grown s types w vs none = record { parts = w; longer = omega arith; below = tt }
  all-grown s types w vs (more t ts) =
      let r = place_type s types t in
      let p = type-grown s types w vs t in
      let lp = p.longer in
      let a = all-grown s r.0 p.parts (λ v. let lt = vs v in omega (arith, lp, lt)) ts in
      let la = a.longer in let lt = p.below in
      record { parts = a.parts; longer = omega (arith, lp, la); below = (omega (arith, la, lt), a.below) }

-- a table that stays one
record Good (old new : List Row) : Type 0 where
  parts : HasParts new
  longer : length old ≤ length new

part-below : (n : ℕ) → 0 < n → (ps : List ℕ) → Below n ps → (v : ℕ) → nth_part ps v < n
part-below n lt [] b v = lt
part-below n lt (p ∷ ps) b zero = b.0
part-below n lt (p ∷ ps) b (suc v) = part-below n lt ps b.1 v

module _ (constructors : List Constructor) where
  module _ (types : List Row) (n : ℕ) (r : Row) (c : ℕ) (w : HasParts types) (some : 0 < length types) (row : RowBelow (length types) r) where
    argument-good : (ps : List ℕ) → Below (length types) ps → (a : Option Typ) → Good types (with_argument types n r c ps a)
    argument-good ps b None =
        let l = length-set types n (with_constructor r c None) in
        record { parts = set-parts types n (with_constructor r c None) w (record { parts = row.parts; taken = (tt, row.taken) }); longer = omega (arith, l) }
    argument-good ps b (Some t) =
        let q = place_type (nth_part ps) types t in
        let g = type-grown (nth_part ps) types w (part-below (length types) some ps b) t in
        let u = row-up (length types) (length q.0) g.longer r row in
        let l = length-set q.0 n (with_constructor r c (Some q.1)) in
        let up = g.longer in
        record { parts = set-parts q.0 n (with_constructor r c (Some q.1)) g.parts (record { parts = u.parts; taken = (g.below, u.taken) }); longer = omega (arith, l, up) }

    same-good : Good types types
    same-good = record { parts = w; longer = omega arith }

    found-good : (y : TyName) (ps : List ℕ) → Below (length types) ps → (k : Option Constructor) → Good types (with_found types n r c y ps k)
    found-good y ps b None = same-good
    found-good y ps b (Some k) = go (same_name k.datatype y)
      where
        go : (t : Bool) → Good types (if t then with_argument types n r c ps k.argument else types)
        go true = argument-good ps b k.argument
        go false = same-good

    new-good : (k : Node) → Below (length types) (parts_of k) → Good types (with_new constructors types n r c k)
    new-good (node arrow ps) b = same-good
    new-good (node (labels ls) ps) b = same-good
    new-good (node (name y) ps) b = found-good y ps b (find constructors y c)

    listed-good : (o : Option (Option ℕ)) → Good types (unless_listed constructors types n r c o)
    listed-good None = new-good r.type row.parts
    listed-good (Some a) = same-good

  at-good : (types : List Row) (n c : ℕ) → HasParts types → 0 < length types → (o : Option Row) → slice_get types n ≡ o → Good types (enter_at constructors types n c o)
  at-good types n c w some None e = record { parts = w; longer = omega arith }
  at-good types n c w some (Some r) e = listed-good types n r c w some (all-get (RowBelow (length types)) types n r e w) (lookup (nat_eq c) r.constructors)

  enter-good : (types : List Row) → HasParts types → 0 < length types → (x : Wanted) → Good types (enter constructors types x)
  enter-good types w some (a_type t) = let g = type-grown (λ v. unit_number) types w (λ v. some) t in record { parts = g.parts; longer = g.longer }
  enter-good types w some (a_constructor t c) =
      let q = place_type (λ v. unit_number) types t in
      let g = type-grown (λ v. unit_number) types w (λ v. some) t in
      let lg = g.longer in
      let k = at-good q.0 q.1 c g.parts (omega (arith, lg, some)) (slice_get q.0 q.1) refl in
      let lk = k.longer in
      record { parts = k.parts; longer = omega (arith, lg, lk) }

  all-good : (types : List Row) → HasParts types → 0 < length types → (ws : List Wanted) → HasParts (enter_all constructors types ws)
  all-good types w some [] = w
  all-good types w some (x ∷ ws) =
      let g = enter-good types w some x in
      let lg = g.longer in
      all-good (enter constructors types x) g.parts (omega (arith, lg, some)) ws

  pub types-have-parts : (e : Exp Named) → HasParts (types_for constructors e)
  types-have-parts e = all-good first_types (record { parts = tt; taken = tt }, (record { parts = tt; taken = (tt, (tt, tt)) }, (record { parts = tt; taken = tt }, tt))) (omega arith) (wanted e)
