-- A constructor that is entered is listed, and the table stays one of the program, with exact flags.
use Rattle.std.proofs.Common.{◌≡◌, ℕ, zero, suc, Bool, true, false, ◌&&◌, List, [], ◌∷◌, ◌++◌, length, Option, Some, None, option_map, option_and_then, nat_eq, nat_lt, slice_get, if◌then◌else◌, refl, sym, ap, subst, ◌∙◌}
use Rattle.std.specs.Prelude.{slice_set}
use Rattle.std.specs.Map.{lookup}
use Rattle.std.proofs.lemmas.Bool.{and_parts, and_from}
use Rattle.ty_core.specs.Types as typ
use Rattle.ty_core.specs.Types.{Symbol, arrow, labels, name, Typ, var, con, Typs, none, more, attribute, allowed}
use Rattle.ty_core.specs.declared.name.TyName.{TyName}
use Rattle.ty_core.specs.declared.name.Equality.{Equality}
use Rattle.ty_core.specs.declared.name.Equality.TheVariants.{Always, ByArguments, Never}
use Rattle.ir_mono.specs.of_ir_poly.Types.{Constructor, find}
use Rattle.ir_mono.specs.Types.{Row, Node, node, node_at, constructor_at, admits, unit_number, Is, Stands, stands_var, stands_con, AllStand, stand_none, stand_more}
use Rattle.ir_mono.specs.Growing.{IsNewConstructor, with_constructor}
use Rattle.ir_mono.proofs.Growing.{admits-set, nodes-added, constructor-still, constructor-kept, entered-there}
use Rattle.monomorphise.specs.Monomorphise.{same_name}
use Rattle.monomorphise.specs.Simple.{all_flagged, AllThere, none_there, one_there, nth_part, ArgumentIs, argument_is_none, argument_is, IsTableOf, IsNewConstructorOf}
use Rattle.monomorphise.specs.Table.{place_type, with_argument, with_found, with_new, unless_listed, enter_at}
use Rattle.monomorphise.proofs.Names.{name-is, symbol-same}
use Rattle.monomorphise.proofs.Numbers.{allowed-still}
use Rattle.monomorphise.proofs.Tables.{flags-set, added-of}
use Rattle.monomorphise.proofs.Placed.{Longer, There, node-longer, there-longer, IsExact, TypePlaced, type-placed}

-- what is there stays, with what it lists
pub record Keeps (types types' : List Row) : Type 0 where
  pub nodes : (n : ℕ) (k : Node) → node_at types n ≡ Some k → node_at types' n ≡ Some k
  pub lists : (n c : ℕ) (a : Option ℕ) → constructor_at types n c ≡ Some a → constructor_at types' n c ≡ Some a

pub keeps-itself : (types : List Row) → Keeps types types
keeps-itself types = record { nodes = λ n k e. e; lists = λ n c a e. e }

pub keeps-then : {a b c : List Row} → Keeps a b → Keeps b c → Keeps a c
keeps-then h k = record { nodes = λ n j e. k.nodes n j (h.nodes n j e); lists = λ n c a e. k.lists n c a (h.lists n c a e) }

pub longer-keeps : {a b : List Row} → Longer a b → Keeps a b
longer-keeps {a} h = record { nodes = node-longer h; lists = λ n c o e. subst (λ z. constructor_at z n c ≡ Some o) (sym h.is) (constructor-still a h.rest n c e) }

get-still : (types further : List Row) (n : ℕ) {r : Row} → slice_get types n ≡ Some r → slice_get (types ++ further) n ≡ Some r
get-still [] further n e = absurd (cc)
get-still (p ∷ types) further zero e = e
get-still (p ∷ types) further (suc n) e = get-still types further n e

get-longer : {a b : List Row} → Longer a b → (n : ℕ) {r : Row} → slice_get a n ≡ Some r → slice_get b n ≡ Some r
get-longer {a} h n {r} e = subst (λ z. slice_get z n ≡ Some r) (sym h.is) (get-still a h.rest n e)

-- what a constructor of the program is, also of the basis: of a datatype, and its argument admits equality where the datatype does
pub record IsListable (k : Constructor) : Type 0 where
  pub declared : nat_lt 5 k.datatype.stamp ≡ true
  pub equality : k.datatype.equality ≡ Always → ⊥
  pub admits : (a : Typ) → k.argument ≡ Some a → k.datatype.equality ≡ ByArguments → typ.admits (λ i. true) a ≡ true

abbrev pub AreListable : List Constructor → Type 0
AreListable constructors = (y : TyName) (c : ℕ) (k : Constructor) → find constructors y c ≡ Some k → IsListable k

module _ (constructors : List Constructor) (listable : AreListable constructors) where
  -- parts that admit equality, and what stands over them
  module _ (types : List Row) (x : IsExact constructors types) where
    unit-there : There types unit_number
    unit-there = (node (labels []) [], x.of.sound.unit)

    unit-flag : admits types unit_number ≡ true
    unit-flag = x.of.equality unit_number (labels []) [] x.of.sound.unit refl

    pub part-there : {ps : List ℕ} → AllThere types ps → (v : ℕ) → There types (nth_part ps v)
    part-there none_there v = unit-there
    part-there (one_there k e h) zero = (k, e)
    part-there (one_there k e h) (suc v) = part-there h v

    part-flag : (ps : List ℕ) → all_flagged types ps ≡ true → (v : ℕ) → admits types (nth_part ps v) ≡ true
    part-flag [] e v = unit-flag
    part-flag (p ∷ ps) e zero = (and_parts (admits types p) _ e).0
    part-flag (p ∷ ps) e (suc v) = part-flag ps (and_parts (admits types p) _ e).1 v

    mutual
      flag-over : (s : ℕ → ℕ) → ((v : ℕ) → admits types (s v) ≡ true) → (t : Typ) {n : ℕ} → Stands types s n t → typ.admits (λ i. true) t ≡ true → admits types n ≡ true
      flag-over s f (var v) stands_var e = f v
      flag-over s f (con h ts) {n} (stands_con {ns = ns} i is) e =
          x.of.equality n h ns i (allowed-still (attribute h) (typ.all_admit (λ i. true) ts) (all_flagged types ns) (flags-over s f ts is) e)

      flags-over : (s : ℕ → ℕ) → ((v : ℕ) → admits types (s v) ≡ true) → (ts : Typs) {ns : List ℕ} → AllStand types s ns ts → typ.all_admit (λ i. true) ts ≡ true → all_flagged types ns ≡ true
      flags-over s f none stand_none e = refl
      flags-over s f (more t ts) (stand_more i is) e =
          let a = and_parts (typ.admits (λ i. true) t) _ e in and_from _ _ (flag-over s f t i a.0) (flags-over s f ts is a.1)

    argument-flag : (k : Constructor) (y : TyName) (ps : List ℕ) (n : ℕ) → IsListable k → k.datatype ≡ y → Is types n (name y) ps → (t : Typ) → k.argument ≡ Some t → (b : ℕ) → Stands types (nth_part ps) b t → admits types n ≡ true → admits types b ≡ true
    argument-flag k y ps n l d i t e b st f = go k.datatype.equality refl (subst (λ z. allowed z.equality (all_flagged types ps) ≡ true) (sym d) (x.flags n (name y) ps i f))
      where
        go : (q : Equality) → k.datatype.equality ≡ q → allowed k.datatype.equality (all_flagged types ps) ≡ true → admits types b ≡ true
        go Always q h = absurd (l.equality q)
        go ByArguments q h = flag-over (nth_part ps) (part-flag ps (subst (λ z. allowed z (all_flagged types ps) ≡ true) q h)) t st (l.admits t e q)
        go Never q h = let none : allowed Never (all_flagged types ps) ≡ true = subst (λ z. allowed z (all_flagged types ps) ≡ true) q h in absurd (cc)

  pub record Entered (types types' : List Row) (n c : ℕ) : Type 0 where
    pub exact : IsExact constructors types'
    pub keeps : Keeps types types'

  -- a constructor of the row, where its argument's type is there
  module _ (types : List Row) (n : ℕ) (r : Row) (c : ℕ) (a : Option ℕ) (y : TyName) (ps : List ℕ) (k : Constructor) (x : IsExact constructors types)
      (at : slice_get types n ≡ Some r) (is : r.type ≡ node (name y) ps) (found : find constructors y c ≡ Some k) (same : k.datatype ≡ y) (new : lookup (nat_eq c) r.constructors ≡ None)
      (argument : ArgumentIs types ps k.argument a) where
    abbrev added : List Row
    added = slice_set types n (with_constructor r c a)

    node-here : Is types n (name y) ps
    node-here = ap (option_map (λ z. z.type)) at ∙ ap Some is

    admitted : (b : ℕ) → a ≡ Some b → admits types n ≡ true → admits types b ≡ true
    admitted b e f = go argument refl e
      where
        go : {o : Option Typ} {z : Option ℕ} → ArgumentIs types ps o z → o ≡ k.argument → z ≡ Some b → admits types b ≡ true
        go argument_is_none d q = absurd (cc)
        go (argument_is {t = t} {n = m} st) d q =
            let one : m ≡ b = cc in argument-flag types x k y ps n (listable y c k found) same node-here t (sym d) b (subst (λ z. Stands types (nth_part ps) z t) one st) f

    entry : IsNewConstructorOf constructors types n r c a
    entry = record {
      row = record { there = at; datatype = (y, ps, is, subst (λ z. nat_lt 5 z.stamp ≡ true) same (listable y c k found).declared); new = new; argument = admitted };
      argument = λ z qs j e f d. let names : y ≡ z = cc in let parts : ps ≡ qs = cc in let one : k ≡ j = some-is (sym found ∙ subst (λ w. find constructors w c ≡ Some j) (sym names) f) in
          subst (λ w. ArgumentIs types w j.argument a) parts (subst (λ w. ArgumentIs types ps w.argument a) one argument);
    }
      where
        some-is : {A : Type 0} {a b : A} → Some a ≡ Some b → a ≡ b
        some-is e = cc

    flags : (i : ℕ) → admits added i ≡ admits types i
    flags = admits-set types n r c a at

    nodes : (i : ℕ) → node_at added i ≡ node_at types i
    nodes = nodes-added types n r c a x.of.sound entry.row

    exact-added : IsExact constructors added
    exact-added = record {
      of = added-of constructors types n r c a x.of entry;
      flags = λ i h qs e f. subst (λ b. allowed (attribute h) b ≡ true) (sym (flags-set types added flags qs)) (x.flags i h qs (sym (nodes i) ∙ e) (sym (flags i) ∙ f));
    }

    pub keeps-added : Keeps types added
    keeps-added = record { nodes = λ i j e. nodes i ∙ e; lists = λ i d b e. constructor-kept types n r c a at new i d e }

    pub listed-added : constructor_at added n c ≡ Some a
    listed-added = entered-there types n r c a at

  abbrev pub Listed : List Row → ℕ → ℕ → Type 0
  Listed types n c = (a : Option ℕ) × (constructor_at types n c ≡ Some a)

  pub record Made (types types' : List Row) (n c : ℕ) : Type 0 where
    pub exact : IsExact constructors types'
    pub keeps : Keeps types types'
    pub listed : Listed types' n c

  argument-made : (types : List Row) (n : ℕ) (r : Row) (c : ℕ) (y : TyName) (ps : List ℕ) (k : Constructor) → IsExact constructors types → slice_get types n ≡ Some r → r.type ≡ node (name y) ps → find constructors y c ≡ Some k → k.datatype ≡ y
      → lookup (nat_eq c) r.constructors ≡ None → (o : Option Typ) → o ≡ k.argument → Made types (with_argument types n r c ps o) n c
  argument-made types n r c y ps k x at is found same new None e =
      let i : ArgumentIs types ps k.argument None = subst (λ z. ArgumentIs types ps z None) e argument_is_none in
      record { exact = exact-added types n r c None y ps k x at is found same new i; keeps = keeps-added types n r c None y ps k x at is found same new i; listed = (None, listed-added types n r c None y ps k x at is found same new i) }
  argument-made types n r c y ps k x at is found same new (Some t) e =
      let here : Is types n (name y) ps = ap (option_map (λ z. z.type)) at ∙ ap Some is in
      let q = place_type (nth_part ps) types t in
      let p = type-placed constructors (nth_part ps) types x (part-there types x (x.of.closed n (name y) ps here)) t in
      let i : ArgumentIs q.0 ps k.argument (Some q.1) = subst (λ z. ArgumentIs q.0 ps z (Some q.1)) e (argument_is p.stands) in
      let at' = get-longer p.longer n at in
      record {
        exact = exact-added q.0 n r c (Some q.1) y ps k p.exact at' is found same new i;
        keeps = keeps-then (longer-keeps p.longer) (keeps-added q.0 n r c (Some q.1) y ps k p.exact at' is found same new i);
        listed = (Some q.1, listed-added q.0 n r c (Some q.1) y ps k p.exact at' is found same new i);
      }

  -- what is entered at a number that is there
  pub record Tried (types types' : List Row) : Type 0 where
    pub exact : IsExact constructors types'
    pub keeps : Keeps types types'

  untouched : (types : List Row) → IsExact constructors types → Tried types types
  untouched types x = record { exact = x; keeps = keeps-itself types }

  found-tried : (types : List Row) (n : ℕ) (r : Row) (c : ℕ) (y : TyName) (ps : List ℕ) → IsExact constructors types → slice_get types n ≡ Some r → r.type ≡ node (name y) ps → lookup (nat_eq c) r.constructors ≡ None
      → (o : Option Constructor) → find constructors y c ≡ o → Tried types (with_found types n r c y ps o)
  found-tried types n r c y ps x at is new None e = untouched types x
  found-tried types n r c y ps x at is new (Some k) e = go (same_name k.datatype y) refl
    where
      go : (b : Bool) → same_name k.datatype y ≡ b → Tried types (if b then with_argument types n r c ps k.argument else types)
      go true d = let m = argument-made types n r c y ps k x at is e (name-is k.datatype y d) new k.argument refl in record { exact = m.exact; keeps = m.keeps }
      go false d = untouched types x

  new-tried : (types : List Row) (n : ℕ) (r : Row) (c : ℕ) → IsExact constructors types → slice_get types n ≡ Some r → lookup (nat_eq c) r.constructors ≡ None → (k : Node) → r.type ≡ k → Tried types (with_new constructors types n r c k)
  new-tried types n r c x at new (node arrow ps) e = untouched types x
  new-tried types n r c x at new (node (labels ls) ps) e = untouched types x
  new-tried types n r c x at new (node (name y) ps) e = found-tried types n r c y ps x at e new (find constructors y c) refl

  listed-tried : (types : List Row) (n : ℕ) (r : Row) (c : ℕ) → IsExact constructors types → slice_get types n ≡ Some r → (o : Option (Option ℕ)) → lookup (nat_eq c) r.constructors ≡ o → Tried types (unless_listed constructors types n r c o)
  listed-tried types n r c x at None e = new-tried types n r c x at e r.type refl
  listed-tried types n r c x at (Some a) e = untouched types x

  pub entered-tried : (types : List Row) (n c : ℕ) → IsExact constructors types → (o : Option Row) → slice_get types n ≡ o → Tried types (enter_at constructors types n c o)
  entered-tried types n c x None e = untouched types x
  entered-tried types n c x (Some r) e = listed-tried types n r c x e (lookup (nat_eq c) r.constructors) refl

  -- a constructor of the program at an instance of its datatype is listed then
  module _ (types : List Row) (n c : ℕ) (y : TyName) (ps : List ℕ) (k : Constructor) (x : IsExact constructors types) (found : find constructors y c ≡ Some k) (same : k.datatype ≡ y) where
    found-listed : (r : Row) → slice_get types n ≡ Some r → r.type ≡ node (name y) ps → lookup (nat_eq c) r.constructors ≡ None → (o : Option Constructor) → o ≡ Some k → Listed (with_found types n r c y ps o) n c
    found-listed r at is new None e = absurd (cc)
    found-listed r at is new (Some j) e = go (same_name j.datatype y) (names j.datatype (ap (λ z. z.datatype) (some-is e) ∙ same))
      where
        some-is : {A : Type 0} {a b : A} → Some a ≡ Some b → a ≡ b
        some-is e = cc

        names : (z : TyName) → z ≡ y → same_name z y ≡ true
        names z d = subst (λ w. same_name w y ≡ true) (sym d) (symbol-same (name y))

        go : (b : Bool) → b ≡ true → Listed (if b then with_argument types n r c ps j.argument else types) n c
        go true d = (argument-made types n r c y ps j x at is (found ∙ sym e) (ap (λ z. z.datatype) (some-is e) ∙ same) new j.argument refl).listed
        go false d = absurd (cc)

    new-listed : (r : Row) → slice_get types n ≡ Some r → lookup (nat_eq c) r.constructors ≡ None → (j : Node) → r.type ≡ j → j ≡ node (name y) ps → Listed (with_new constructors types n r c j) n c
    new-listed r at new (node arrow qs) e d = absurd (cc)
    new-listed r at new (node (labels ls) qs) e d = absurd (cc)
    new-listed r at new (node (name z) qs) e d =
        let names : z ≡ y = cc in let parts : qs ≡ ps = cc in
        subst (λ w. Listed (with_found types n r c w qs (find constructors w c)) n c) (sym names) (subst (λ w. Listed (with_found types n r c y w (find constructors y c)) n c) (sym parts) (found-listed r at (e ∙ d) new (find constructors y c) found))

    row-listed : (r : Row) → slice_get types n ≡ Some r → r.type ≡ node (name y) ps → (o : Option (Option ℕ)) → lookup (nat_eq c) r.constructors ≡ o → Listed (unless_listed constructors types n r c o) n c
    row-listed r at is None e = new-listed r at e r.type refl is
    row-listed r at is (Some a) e = (a, ap (option_and_then (λ z. lookup (nat_eq c) z.constructors)) at ∙ e)

    pub entered-listed : Is types n (name y) ps → (o : Option Row) → slice_get types n ≡ o → Listed (enter_at constructors types n c o) n c
    entered-listed i None e = let none : node_at types n ≡ None = ap (option_map (λ z. z.type)) e in absurd (cc)
    entered-listed i (Some r) e = row-listed r e (let here : node_at types n ≡ Some r.type = ap (option_map (λ z. z.type)) e in let one : r.type ≡ node (name y) ps = cc in one) (lookup (nat_eq c) r.constructors) refl
