-- A table stays one, where it is given a new type, or a datatype in it a new constructor.
use Rattle.std.proofs.Common.{◌≡◌, ℕ, zero, suc, List, [], ◌∷◌, ◌++◌, length, Bool, true, false, Option, Some, None, slice_get, if◌then◌else◌, nat_eq, nat_lt, option_map, option_and_then, subst, sym, refl, ap, ◌∙◌}
use Rattle.std.specs.Prelude.{slice_set}
use Rattle.std.proofs.lemmas.Bool.{eqb-true, eq-eqb}
use Rattle.std.specs.Map.{lookup}
use Rattle.ir_poly.specs.of_mlc_names.declared.label.Label.{Label}
use Rattle.ir_poly.specs.of_mlc_prims.LitOf.{Literal}
use Rattle.ir_poly.specs.of_ty_core.Types.{labels, name, Typ, Typs}
use Rattle.ir_poly.specs.of_ty_core.declared.name.TyName.{TyName}
use Rattle.ir_poly.specs.of_ir_values.Values.{truth_number}
use Rattle.ir_mono.specs.Types.{Row, Node, node, node_at, constructor_at, admits, unit_number, bool_number, HasLiteral, has_int, has_word, has_char, has_string, AllAdmit, admit_none, admit_more, Stands, stands_var, stands_con, AllStand, stand_none, stand_more, IsComparable, records_are, named_are, IsTable}
use Rattle.ir_mono.specs.Growing.{MayCompare, records_may, names_may, IsNewRow, IsNewConstructor, with_constructor}

-- What is there stays.

pub node-still : (types more : List Row) (n : ℕ) {k : Node} → node_at types n ≡ Some k → node_at (types ++ more) n ≡ Some k
node-still [] more n e = absurd (cc)
node-still (r ∷ types) more zero e = e
node-still (r ∷ types) more (suc n) e = node-still types more n e

pub constructor-still : (types more : List Row) (n c : ℕ) {a : Option ℕ} → constructor_at types n c ≡ Some a → constructor_at (types ++ more) n c ≡ Some a
constructor-still [] more n c e = absurd (cc)
constructor-still (r ∷ types) more zero c e = e
constructor-still (r ∷ types) more (suc n) c e = constructor-still types more n c e

pub admits-still : (types more : List Row) (n : ℕ) → admits types n ≡ true → admits (types ++ more) n ≡ true
admits-still [] more n e = absurd (cc)
admits-still (r ∷ types) more zero e = e
admits-still (r ∷ types) more (suc n) e = admits-still types more n e

mutual
  pub stands-still : (types more : List Row) (s : ℕ → ℕ) {n : ℕ} {t : Typ} → Stands types s n t → Stands (types ++ more) s n t
  stands-still types more s stands_var = stands_var
  stands-still types more s {n} (stands_con i is) = stands_con (node-still types more n i) (all-still types more s is)

  all-still : (types more : List Row) (s : ℕ → ℕ) {ns : List ℕ} {ts : Typs} → AllStand types s ns ts → AllStand (types ++ more) s ns ts
  all-still types more s stand_none = stand_none
  all-still types more s (stand_more i is) = stand_more (stands-still types more s i) (all-still types more s is)

all-admit-still : (types types' : List Row) → ((n : ℕ) → admits types n ≡ true → admits types' n ≡ true) → {ns : List ℕ} → AllAdmit types ns → AllAdmit types' ns
all-admit-still types types' h admit_none = admit_none
all-admit-still types types' h (admit_more {n = n} a as_) = admit_more (h n a) (all-admit-still types types' h as_)

-- a new type

pub data OldOrNew (types : List Row) (r : Row) (n : ℕ) (k : Node) : Type 0 where
  is_old : node_at types n ≡ Some k → OldOrNew types r n k
  is_new : n ≡ length types → r.type ≡ k → OldOrNew types r n k

pub node-where : (types : List Row) (r : Row) (n : ℕ) {k : Node} → node_at (types ++ r ∷ []) n ≡ Some k → OldOrNew types r n k
node-where [] r zero e = is_new refl (let same : r.type ≡ _ = cc in same)
node-where [] r (suc n) e = absurd (cc)
node-where (p ∷ types) r zero e = is_old e
node-where (p ∷ types) r (suc n) {k} e = step (node-where types r n e)
  where
    step : OldOrNew types r n k → OldOrNew (p ∷ types) r (suc n) k
    step (is_old d) = is_old d
    step (is_new d q) = is_new (ap suc d) q

no-entry : (cs : List (ℕ × Option ℕ)) (c : ℕ) {a : Option ℕ} → cs ≡ [] → lookup (nat_eq c) cs ≡ Some a → ⊥
no-entry [] c e d = cc
no-entry (x ∷ cs) c e d = cc

pub constructor-where : (types : List Row) (r : Row) (n c : ℕ) {a : Option ℕ} → r.constructors ≡ [] → constructor_at (types ++ r ∷ []) n c ≡ Some a → constructor_at types n c ≡ Some a
constructor-where [] r zero c q e = absurd (no-entry r.constructors c q e)
constructor-where [] r (suc n) c q e = absurd (cc)
constructor-where (p ∷ types) r zero c q e = e
constructor-where (p ∷ types) r (suc n) c q e = constructor-where types r n c q e

pub data Admitted (types : List Row) (r : Row) (n : ℕ) : Type 0 where
  admitted_old : admits types n ≡ true → Admitted types r n
  admitted_new : n ≡ length types → r.equality ≡ true → Admitted types r n

pub admits-where : (types : List Row) (r : Row) (n : ℕ) → admits (types ++ r ∷ []) n ≡ true → Admitted types r n
admits-where [] r zero e = admitted_new refl e
admits-where [] r (suc n) e = absurd (cc)
admits-where (p ∷ types) r zero e = admitted_old e
admits-where (p ∷ types) r (suc n) e = step (admits-where types r n e)
  where
    step : Admitted types r n → Admitted (p ∷ types) r (suc n)
    step (admitted_old d) = admitted_old d
    step (admitted_new d q) = admitted_new (ap suc d) q

at-end : (types : List Row) (r : Row) → node_at (types ++ r ∷ []) (length types) ≡ Some r.type
at-end [] r = refl
at-end (p ∷ types) r = at-end types r

module _ (types : List Row) (r : Row) (table : IsTable types) (row : IsNewRow types r) where
  abbrev grown : List Row
  grown = types ++ r ∷ []

  node-grown : (n : ℕ) (k : Node) → node_at types n ≡ Some k → node_at grown n ≡ Some k
  node-grown n k e = node-still types (r ∷ []) n e

  once-grown : (n m : ℕ) (k : Node) → node_at grown n ≡ Some k → node_at grown m ≡ Some k → n ≡ m
  once-grown n m k e d = go (node-where types r n e) (node-where types r m d)
    where
      go : OldOrNew types r n k → OldOrNew types r m k → n ≡ m
      go (is_old a) (is_old b) = table.once n m k a b
      go (is_old a) (is_new p q) = absurd (row.new n (a ∙ ap Some (sym q)))
      go (is_new p q) (is_old b) = absurd (row.new m (b ∙ ap Some (sym q)))
      go (is_new p q) (is_new i j) = p ∙ sym i

  old-comparable : (n : ℕ) → IsComparable types n → IsComparable grown n
  old-comparable n (records_are h as_) = records_are (node-grown n _ h) (all-admit-still types grown (admits-still types (r ∷ [])) as_)
  old-comparable n (named_are h m f) = named_are (node-grown n _ h) m (λ c a e. admits-still types (r ∷ []) a (f c a (constructor-where types r n c row.none e)))

  pub past-end : (ts : List Row) (c : ℕ) {a : Option ℕ} → constructor_at ts (length ts) c ≡ Some a → ⊥
  past-end [] c e = cc
  past-end (p ∷ ts) c e = past-end ts c e

  new-comparable : (k : Node) → node_at grown (length types) ≡ Some k → MayCompare types k → IsComparable grown (length types)
  new-comparable k e (records_may as_) = records_are e (all-admit-still types grown (admits-still types (r ∷ [])) as_)
  new-comparable k e (names_may m) = named_are e m (λ c a d. absurd (past-end types c (constructor-where types r (length types) c row.none d)))

  comparable-grown : (n : ℕ) → admits grown n ≡ true → IsComparable grown n
  comparable-grown n e = go (admits-where types r n e)
    where
      go : Admitted types r n → IsComparable grown n
      go (admitted_old d) = old-comparable n (table.comparable n d)
      go (admitted_new d q) = subst (IsComparable grown) (sym d) (new-comparable r.type (at-end types r) (row.comparable q))

  datatypes-grown : (n c : ℕ) (a : Option ℕ) → constructor_at grown n c ≡ Some a → (y : TyName) × (ps : List ℕ) × (node_at grown n ≡ Some (node (name y) ps)) × (nat_lt 5 y.stamp ≡ true)
  datatypes-grown n c a e = let d = table.datatypes n c a (constructor-where types r n c row.none e) in (d.0, d.1, node-grown n _ d.2, d.3)

  pub pushed : IsTable grown
  pushed = record {
    once = once-grown;
    unit = node-grown unit_number _ table.unit;
    bool = node-grown bool_number _ table.bool;
    truths = λ b. constructor-still types (r ∷ []) bool_number (truth_number b) (table.truths b);
    datatypes = datatypes-grown;
    comparable = comparable-grown;
  }

  pub pushed-at : node_at grown (length types) ≡ Some r.type
  pushed-at = at-end types r

-- a new constructor

node-set : (types : List Row) (n : ℕ) (r : Row) (c : ℕ) (a : Option ℕ) → slice_get types n ≡ Some r → (i : ℕ) → node_at (slice_set types n (with_constructor r c a)) i ≡ node_at types i
node-set [] n r c a e i = refl
node-set (p ∷ types) zero r c a e zero = let same : r ≡ p = cc in ap (λ z. Some z.type) same
node-set (p ∷ types) zero r c a e (suc i) = refl
node-set (p ∷ types) (suc n) r c a e zero = refl
node-set (p ∷ types) (suc n) r c a e (suc i) = node-set types n r c a e i

pub admits-set : (types : List Row) (n : ℕ) (r : Row) (c : ℕ) (a : Option ℕ) → slice_get types n ≡ Some r → (i : ℕ) → admits (slice_set types n (with_constructor r c a)) i ≡ admits types i
admits-set [] n r c a e i = refl
admits-set (p ∷ types) zero r c a e zero = let same : r ≡ p = cc in ap (λ z. z.equality) same
admits-set (p ∷ types) zero r c a e (suc i) = refl
admits-set (p ∷ types) (suc n) r c a e zero = refl
admits-set (p ∷ types) (suc n) r c a e (suc i) = admits-set types n r c a e i

pub data Entered (types : List Row) (n c : ℕ) (a : Option ℕ) (i d : ℕ) (b : Option ℕ) : Type 0 where
  entered_old : constructor_at types i d ≡ Some b → Entered types n c a i d b
  entered_new : i ≡ n → d ≡ c → a ≡ b → Entered types n c a i d b

pub constructor-set : (types : List Row) (n : ℕ) (r : Row) (c : ℕ) (a : Option ℕ) → slice_get types n ≡ Some r → (i d : ℕ) {b : Option ℕ} → constructor_at (slice_set types n (with_constructor r c a)) i d ≡ Some b → Entered types n c a i d b
constructor-set [] n r c a e i d q = absurd (cc)
constructor-set (p ∷ types) zero r c a e zero d {b} q = go (nat_eq d c) refl q
  where
    same : r ≡ p
    same = cc

    go : (t : Bool) → nat_eq d c ≡ t → (if t then Some a else lookup (nat_eq d) r.constructors) ≡ Some b → Entered (p ∷ types) zero c a zero d b
    go true k q = entered_new refl (eqb-true d c k) (let one : a ≡ b = cc in one)
    go false k q = entered_old (subst (λ z. lookup (nat_eq d) z.constructors ≡ Some b) same q)
constructor-set (p ∷ types) zero r c a e (suc i) d q = entered_old q
constructor-set (p ∷ types) (suc n) r c a e zero d q = entered_old q
constructor-set (p ∷ types) (suc n) r c a e (suc i) d {b} q = step (constructor-set types n r c a e i d q)
  where
    step : Entered types n c a i d b → Entered (p ∷ types) (suc n) c a (suc i) d b
    step (entered_old h) = entered_old h
    step (entered_new h j k) = entered_new (ap suc h) j k

pub constructor-kept : (types : List Row) (n : ℕ) (r : Row) (c : ℕ) (a : Option ℕ) → slice_get types n ≡ Some r → lookup (nat_eq c) r.constructors ≡ None → (i d : ℕ) {b : Option ℕ} → constructor_at types i d ≡ Some b → constructor_at (slice_set types n (with_constructor r c a)) i d ≡ Some b
constructor-kept [] n r c a e new i d q = q
constructor-kept (p ∷ types) zero r c a e new zero d {b} q = go (nat_eq d c) refl
  where
    here : lookup (nat_eq d) r.constructors ≡ Some b
    here = let same : p ≡ r = cc in subst (λ z. lookup (nat_eq d) z.constructors ≡ Some b) same q

    go : (t : Bool) → nat_eq d c ≡ t → (if t then Some a else lookup (nat_eq d) r.constructors) ≡ Some b
    go true k = let same : d ≡ c = eqb-true d c k in let none : lookup (nat_eq d) r.constructors ≡ None = subst (λ z. lookup (nat_eq z) r.constructors ≡ None) (sym same) new in absurd (cc)
    go false k = here
constructor-kept (p ∷ types) zero r c a e new (suc i) d q = q
constructor-kept (p ∷ types) (suc n) r c a e new zero d q = q
constructor-kept (p ∷ types) (suc n) r c a e new (suc i) d q = constructor-kept types n r c a e new i d q

pub entered-there : (types : List Row) (n : ℕ) (r : Row) (c : ℕ) (a : Option ℕ) → slice_get types n ≡ Some r → constructor_at (slice_set types n (with_constructor r c a)) n c ≡ Some a
entered-there [] n r c a e = absurd (cc)
entered-there (p ∷ types) zero r c a e = first (nat_eq c c) (eq-eqb c c refl)
  where
    first : (t : Bool) → t ≡ true → (if t then Some a else lookup (nat_eq c) r.constructors) ≡ Some a
    first true k = refl
    first false k = absurd (cc)
entered-there (p ∷ types) (suc n) r c a e = entered-there types n r c a e

pub type-there : (types : List Row) (n : ℕ) {r : Row} → slice_get types n ≡ Some r → node_at types n ≡ Some r.type
type-there types n e = ap (option_map (λ r. r.type)) e

module _ (types : List Row) (n : ℕ) (r : Row) (c : ℕ) (a : Option ℕ) (table : IsTable types) (entry : IsNewConstructor types n r c a) where
  abbrev added : List Row
  added = slice_set types n (with_constructor r c a)

  pub nodes-added : (i : ℕ) → node_at added i ≡ node_at types i
  nodes-added = node-set types n r c a entry.there

  node-added : (i : ℕ) (k : Node) → node_at types i ≡ Some k → node_at added i ≡ Some k
  node-added i k e = nodes-added i ∙ e

  node-before : (i : ℕ) (k : Node) → node_at added i ≡ Some k → node_at types i ≡ Some k
  node-before i k e = sym (nodes-added i) ∙ e

  admits-added : (i : ℕ) → admits types i ≡ true → admits added i ≡ true
  admits-added i e = admits-set types n r c a entry.there i ∙ e

  argument-admits : (i d b : ℕ) → admits types i ≡ true → ((d b : ℕ) → constructor_at types i d ≡ Some (Some b) → admits types b ≡ true) → constructor_at added i d ≡ Some (Some b) → admits types b ≡ true
  argument-admits i d b f h e = go (constructor-set types n r c a entry.there i d e)
    where
      go : Entered types n c a i d (Some b) → admits types b ≡ true
      go (entered_old k) = h d b k
      go (entered_new k j q) = entry.argument b q (subst (λ z. admits types z ≡ true) k f)

  still-comparable : (i : ℕ) → admits types i ≡ true → IsComparable types i → IsComparable added i
  still-comparable i f (records_are h as_) = records_are (node-added i _ h) (all-admit-still types added admits-added as_)
  still-comparable i f (named_are h m k) = named_are (node-added i _ h) m (λ d b e. admits-added b (argument-admits i d b f k e))

  datatypes-added : (i d : ℕ) (b : Option ℕ) → constructor_at added i d ≡ Some b → (y : TyName) × (ps : List ℕ) × (node_at added i ≡ Some (node (name y) ps)) × (nat_lt 5 y.stamp ≡ true)
  datatypes-added i d b e = go (constructor-set types n r c a entry.there i d e)
    where
      go : Entered types n c a i d b → (y : TyName) × (ps : List ℕ) × (node_at added i ≡ Some (node (name y) ps)) × (nat_lt 5 y.stamp ≡ true)
      go (entered_old k) = let t = table.datatypes i d b k in (t.0, t.1, node-added i _ t.2, t.3)
      go (entered_new k j q) = let t = entry.datatype in (t.0, t.1, node-added i _ (subst (λ z. node_at types z ≡ Some (node (name t.0) t.1)) (sym k) (type-there types n entry.there ∙ ap Some t.2)), t.3)

  pub added-table : IsTable added
  added-table = record {
    once = λ i j k e d. table.once i j k (node-before i k e) (node-before j k d);
    unit = node-added unit_number _ table.unit;
    bool = node-added bool_number _ table.bool;
    truths = λ b. constructor-kept types n r c a entry.there entry.new bool_number (truth_number b) (table.truths b);
    datatypes = datatypes-added;
    comparable = λ i e. let f = sym (admits-set types n r c a entry.there i) ∙ e in still-comparable i f (table.comparable i f);
  }

  pub added-there : constructor_at added n c ≡ Some a
  added-there = entered-there types n r c a entry.there
