-- A type that is placed has its number, and the table stays one of the program, which has exact flags.
use Rattle.std.proofs.Common.{◌≡◌, ℕ, zero, suc, Bool, true, false, ◌&&◌, List, [], ◌∷◌, ◌++◌, length, Option, Some, None, option_map, nat_eq, slice_get, if◌then◌else◌, refl, sym, ap, subst, ◌∙◌, arith}
use Rattle.std.proofs.lemmas.List.{append_assoc}
use Rattle.std.proofs.lemmas.Bool.{and_parts, and_from, eq-eqb, eqb-true}
use Rattle.ty_core.specs.Types.{Symbol, arrow, labels, name, Typ, var, con, Typs, none, more, attribute, allowed}
use Rattle.ty_core.specs.declared.name.TyName.{TyName}
use Rattle.ty_core.specs.declared.name.Equality.{Equality}
use Rattle.ty_core.specs.declared.name.Equality.TheVariants.{Never}
use Rattle.ir_mono.specs.of_ir_poly.Types.{Constructor, exn_name}
use Rattle.ir_mono.specs.Types.{Row, Node, node, node_at, constructor_at, admits, unit_number, Is, AllAdmit, admit_none, admit_more, Stands, stands_var, stands_con, AllStand, stand_none, stand_more, IsTable}
use Rattle.ir_mono.specs.Growing.{MayCompare, records_may, names_may, IsNewRow}
use Rattle.ir_mono.proofs.Growing.{OldOrNew, is_old, is_new, node-where, node-still, Admitted, admitted_old, admitted_new, admits-where, stands-still}
use Rattle.monomorphise.specs.Monomorphise.{same_symbol}
use Rattle.monomorphise.specs.Simple.{IsType, all_flagged, AllThere, none_there, one_there, IsTableOf, IsNewTypeOf}
use Rattle.monomorphise.specs.Table.{same_numbers, same_node, position, or_unit, number_in, numbers_in, row_of, placed, place, place_type, place_all}
use Rattle.monomorphise.proofs.Names.{symbol-same, symbol-is}
use Rattle.monomorphise.proofs.Tables.{all-there-still, stands-moved, within, flag-back, flags-back, pushed-of}

numbers-same : (ns : List ℕ) → same_numbers ns ns ≡ true
numbers-same [] = refl
numbers-same (n ∷ ns) = and_from _ _ (eq-eqb n n refl) (numbers-same ns)

numbers-is : (ms ns : List ℕ) → same_numbers ms ns ≡ true → ms ≡ ns
numbers-is [] [] e = refl
numbers-is [] (n ∷ ns) e = absurd (cc)
numbers-is (m ∷ ms) [] e = absurd (cc)
numbers-is (m ∷ ms) (n ∷ ns) e = let a = and_parts (nat_eq m n) _ e in rw (eqb-true m n a.0, numbers-is ms ns a.1) refl

node-same : (k : Node) → same_node k k ≡ true
node-same (node h ps) = and_from _ _ (symbol-same h) (numbers-same ps)

node-is : (k j : Node) → same_node k j ≡ true → k ≡ j
node-is (node h ps) (node g qs) e = let a = and_parts (same_symbol h g) _ e in rw (symbol-is h g a.0, numbers-is ps qs a.1) refl

-- Where a node stands.

pub data Position (k : Node) (types : List Row) : Option ℕ → Type 0 where
  nowhere_yet : ((n : ℕ) → node_at types n ≡ Some k → ⊥) → Position k types None
  there_at : {n : ℕ} → node_at types n ≡ Some k → Position k types (Some n)

pub position-right : (k : Node) (types : List Row) → Position k types (position k types)
position-right k [] = nowhere_yet (λ n e. cc)
position-right k (r ∷ types) = go (same_node r.type k) refl (position-right k types)
  where
    later : {o : Option ℕ} → same_node r.type k ≡ false → Position k types o → Position k (r ∷ types) (option_map suc o)
    later d (nowhere_yet h) = nowhere_yet (λ n e. at n e)
      where
        at : (n : ℕ) → node_at (r ∷ types) n ≡ Some k → ⊥
        at zero e = let same : r.type ≡ k = cc in let one : same_node r.type k ≡ true = subst (λ z. same_node r.type z ≡ true) same (node-same r.type) in cc
        at (suc n) e = h n e
    later d (there_at e) = there_at e

    go : (b : Bool) → same_node r.type k ≡ b → Position k types (position k types) → Position k (r ∷ types) (if b then Some 0 else option_map suc (position k types))
    go true e h = there_at (ap Some (node-is r.type k e))
    go false e h = later e h

pub record Longer (types types' : List Row) : Type 0 where
  pub rest : List Row
  pub is : types' ≡ types ++ rest

pub longer-itself : (types : List Row) → Longer types types
longer-itself types = record { rest = []; is = sym (append-none types) }
  where
    append-none : (ts : List Row) → ts ++ [] ≡ ts
    append-none [] = refl
    append-none (t ∷ ts) = ap (λ z. t ∷ z) (append-none ts)

pub longer-then : {a b c : List Row} → Longer a b → Longer b c → Longer a c
longer-then {a} h k = record { rest = h.rest ++ k.rest; is = k.is ∙ ap (λ z. z ++ k.rest) h.is ∙ append_assoc a h.rest k.rest }

abbrev pub There : List Row → ℕ → Type 0
There types n = (k : Node) × (node_at types n ≡ Some k)

pub node-longer : {a b : List Row} → Longer a b → (n : ℕ) (k : Node) → node_at a n ≡ Some k → node_at b n ≡ Some k
node-longer {a} h n k e = subst (λ z. node_at z n ≡ Some k) (sym h.is) (node-still a h.rest n e)

pub there-longer : {a b : List Row} → Longer a b → (n : ℕ) → There a n → There b n
there-longer h n t = (t.0, node-longer h n t.0 t.1)

-- a table of the program whose flags are exact: a type is said to admit equality only if it does
pub record IsExact (constructors : List Constructor) (types : List Row) : Type 0 where
  pub of : IsTableOf constructors types
  pub flags : (n : ℕ) (h : Symbol) (ps : List ℕ) → Is types n h ps → admits types n ≡ true → allowed (attribute h) (all_flagged types ps) ≡ true

all-flags : (types : List Row) (ps : List ℕ) → all_flagged types ps ≡ true → AllAdmit types ps
all-flags types [] e = admit_none
all-flags types (p ∷ ps) e = let a = and_parts (admits types p) _ e in admit_more a.0 (all-flags types ps a.1)

no-flag : (q : Equality) (b : Bool) → q ≡ Never → allowed q b ≡ true → ⊥
no-flag q b e h = let none : allowed Never b ≡ true = subst (λ z. allowed z b ≡ true) e h in cc

may : (types : List Row) (h : Symbol) (ps : List ℕ) → allowed (attribute h) (all_flagged types ps) ≡ true → MayCompare types (node h ps)
may types arrow ps e = absurd (cc)
may types (labels ls) ps e = records_may (all-flags types ps e)
may types (name y) ps e = names_may (λ d. no-flag y.equality (all_flagged types ps) (ap (λ z. z.equality) d) e)

past-flag : (types : List Row) (n : ℕ) → admits types n ≡ true → n ≡ length types → ⊥
past-flag [] n e q = cc
past-flag (p ∷ types) zero e q = absurd (omega (arith, q))
past-flag (p ∷ types) (suc n) e q = past-flag types n e (let same : n ≡ length types = cc in same)

at-end : (types : List Row) (r : Row) → node_at (types ++ r ∷ []) (length types) ≡ Some r.type
at-end [] r = refl
at-end (p ∷ types) r = at-end types r

module _ (constructors : List Constructor) where
  module _ (types : List Row) (h : Symbol) (ps : List ℕ) (x : IsExact constructors types) (parts : AllThere types ps) (new : (n : ℕ) → node_at types n ≡ Some (node h ps) → ⊥) where
    abbrev r : Row
    r = row_of types (node h ps)

    new-type : IsNewTypeOf types r
    new-type = record {
      row = record { new = new; none = refl; comparable = λ e. may types h ps e };
      parts = λ g qs e. let same : ps ≡ qs = cc in subst (AllThere types) same parts;
      equality = λ g qs e f. let one : h ≡ g = cc in let same : ps ≡ qs = cc in subst (λ z. allowed (attribute z) (all_flagged types ps) ≡ true) (sym one) (subst (λ z. allowed (attribute g) (all_flagged types z) ≡ true) (sym same) f);
    }

    grown-of : IsTableOf constructors (types ++ r ∷ [])
    grown-of = pushed-of constructors types r x.of new-type

    flags-grown : (n : ℕ) (g : Symbol) (qs : List ℕ) → Is (types ++ r ∷ []) n g qs → admits (types ++ r ∷ []) n ≡ true → allowed (attribute g) (all_flagged (types ++ r ∷ []) qs) ≡ true
    flags-grown n g qs e f = go (node-where types r n e) (admits-where types r n f)
      where
        back : AllThere types qs → allowed (attribute g) (all_flagged types qs) ≡ true → allowed (attribute g) (all_flagged (types ++ r ∷ []) qs) ≡ true
        back there d = subst (λ b. allowed (attribute g) b ≡ true) (sym (flags-back types r there)) d

        go : OldOrNew types r n (node g qs) → Admitted types r n → allowed (attribute g) (all_flagged (types ++ r ∷ []) qs) ≡ true
        go (is_old d) (admitted_old a) = back (x.of.closed n g qs d) (x.flags n g qs d a)
        go (is_old d) (admitted_new p a) = absurd (within types n d p)
        go (is_new p q) (admitted_old a) = absurd (past-flag types n a p)
        go (is_new p q) (admitted_new i a) =
            let one : h ≡ g = cc in let same : ps ≡ qs = cc in
            back (subst (AllThere types) same parts) (subst (λ z. allowed (attribute z) (all_flagged types qs) ≡ true) one (subst (λ z. allowed (attribute h) (all_flagged types z) ≡ true) same a))

    grown : IsExact constructors (types ++ r ∷ [])
    grown = record { of = grown-of; flags = flags-grown }

  pub record Placed (types types' : List Row) (n : ℕ) (k : Node) : Type 0 where
    pub exact : IsExact constructors types'
    pub longer : Longer types types'
    pub at : node_at types' n ≡ Some k

  pub place-right : (types : List Row) (h : Symbol) (ps : List ℕ) → IsExact constructors types → AllThere types ps → Placed types (place types (node h ps)).0 (place types (node h ps)).1 (node h ps)
  place-right types h ps x parts = go (position-right (node h ps) types)
    where
      go : {o : Option ℕ} → Position (node h ps) types o → Placed types (placed types (node h ps) o).0 (placed types (node h ps) o).1 (node h ps)
      go (nowhere_yet new) = record { exact = grown types h ps x parts new; longer = record { rest = row_of types (node h ps) ∷ []; is = refl }; at = at-end types (row_of types (node h ps)) }
      go (there_at e) = record { exact = x; longer = longer-itself types; at = e }

  pub record TypePlaced (s : ℕ → ℕ) (types types' : List Row) (n : ℕ) (t : Typ) : Type 0 where
    pub exact : IsExact constructors types'
    pub longer : Longer types types'
    pub stands : Stands types' s n t
    pub there : There types' n

  pub record AllPlaced (s : ℕ → ℕ) (types types' : List Row) (ns : List ℕ) (ts : Typs) : Type 0 where
    pub exact : IsExact constructors types'
    pub longer : Longer types types'
    pub stand : AllStand types' s ns ts
    pub there : AllThere types' ns

  all-moved : {a b : List Row} → Longer a b → {s : ℕ → ℕ} {ns : List ℕ} {ts : Typs} → AllStand a s ns ts → AllStand b s ns ts
  all-moved h stand_none = stand_none
  all-moved {a} {b} h (stand_more i is) = stand_more (stands-moved a b (node-longer h) i) (all-moved h is)

  mutual
    pub type-placed : (s : ℕ → ℕ) (types : List Row) → IsExact constructors types → ((v : ℕ) → There types (s v)) → (t : Typ) → TypePlaced s types (place_type s types t).0 (place_type s types t).1 t
    type-placed s types x vs (var v) = record { exact = x; longer = longer-itself types; stands = stands_var; there = vs v }
    type-placed s types x vs (con h ts) =
        let r = place_all s types ts in
        let a = all-placed s types x vs ts in
        let p = place-right r.0 h r.1 a.exact a.there in
        record {
          exact = p.exact;
          longer = longer-then a.longer p.longer;
          stands = stands_con p.at (all-moved p.longer a.stand);
          there = (node h r.1, p.at);
        }

    all-placed : (s : ℕ → ℕ) (types : List Row) → IsExact constructors types → ((v : ℕ) → There types (s v)) → (ts : Typs) → AllPlaced s types (place_all s types ts).0 (place_all s types ts).1 ts
    all-placed s types x vs none = record { exact = x; longer = longer-itself types; stand = stand_none; there = none_there }
    all-placed s types x vs (more t ts) =
        let r = place_type s types t in
        let p = type-placed s types x vs t in
        let a = all-placed s r.0 p.exact (λ v. there-longer p.longer (s v) (vs v)) ts in
        let k = there-longer a.longer r.1 p.there in
        record {
          exact = a.exact;
          longer = longer-then p.longer a.longer;
          stand = stand_more (stands-moved _ _ (node-longer a.longer) p.stands) a.stand;
          there = one_there k.0 k.1 a.there;
        }

-- a type that is there has the number that is looked up
module _ (types : List Row) (table : IsTable types) where
  found-number : (n : ℕ) (k : Node) → node_at types n ≡ Some k → or_unit (position k types) ≡ n
  found-number n k e = go (position-right k types)
    where
      go : {o : Option ℕ} → Position k types o → or_unit o ≡ n
      go (nowhere_yet h) = absurd (h n e)
      go (there_at {n = m} d) = table.once m n k d e

  mutual
    pub number-found : (t : Typ) {n : ℕ} → IsType types n t → number_in types t ≡ n
    number-found (var v) stands_var = refl
    number-found (con h ts) {n} (stands_con {ns = ns} i is) = ap (λ z. or_unit (position (node h z) types)) (numbers-found ts is) ∙ found-number n (node h ns) i

    numbers-found : (ts : Typs) {ns : List ℕ} → AllStand types (λ v. unit_number) ns ts → numbers_in types ts ≡ ns
    numbers-found none stand_none = refl
    numbers-found (more t ts) (stand_more i is) = rw (number-found t i, numbers-found ts is) refl
