-- A table's nodes as they are kept.
use Rattle.std.proofs.Common.{◌≡◌, ◌≢◌, ℕ, zero, suc, ◌+◌, ◌<◌, ◌≤◌, List, [], ◌∷◌, ◌++◌, map, length, get_or, take, refl, sym, ap, ap₂, subst, ◌∙◌, arith, inl, inr, Some, slice_get, position, false, if◌then◌else◌, AllPairs, Contains}
use Rattle.std.specs.List.{list_any, IsDistinct}
use Rattle.std.proofs.lemmas.Bool.{cases_order}
use Rattle.std.proofs.lemmas.Option.{slice_get_within, slice_get-get_or, get_or_from_slice_get}
use Rattle.std.proofs.lemmas.List.Quantifiers.{all_pairs_push}
use Rattle.indexmap.specs.IndexSet.{insert_key}
use Rattle.ty_core.proofs.of_mlc_names.NamesLemmas.{Kept, is_text, same_text, held_found, one_to_one}
use Rattle.ty_core.specs.Types.{Symbol, arrow, Typ, var}
use Rattle.ty_core.specs.TypesOf.{head_of}
use Rattle.ty_core.specs.declared.ty.Head.{Head}
use Rattle.ty_table.specs.declared.facts.Facts.{Facts}
use Rattle.ty_table.specs.TypeAt.{type_at, types_at, AllBelow, IsWith}
use Rattle.ty_table.specs.Codes.{code_of, symbol_in, symbol_in-code}
use Rattle.ty_table.specs.Nodes.{Table, symbol_at, types_of, type_in, facts_of, IsNode, IsTable}
use Rattle.ty_table.proofs.Building.{first_of_two, between, take_front, length-snoc, built-snoc, built-length, built-at, built-symbols, in_order-at, in_order-snoc, in_order-more, node-more}

pub length-map : {A B : Type 0} (f : A → B) (l : List A) → length (map f l) ≡ length l
length-map f [] = refl
length-map f (x ∷ l) = ap suc (length-map f l)

pub map-snoc : {A B : Type 0} (f : A → B) (l : List A) (x : A) → map f (l ++ x ∷ []) ≡ map f l ++ f x ∷ []
map-snoc f [] x = refl
map-snoc f (y ∷ l) x = ap (λ m. f y ∷ m) (map-snoc f l x)

pub any-default : {A : Type 0} (a b : A) (l : List A) (k : ℕ) → k < length l → get_or l k a ≡ get_or l k b
any-default a b [] k h = absurd (omega arith)
any-default a b (x ∷ l) zero h = refl
any-default a b (x ∷ l) (suc k) h = any-default a b l k (omega arith)

get_or-map : {A B : Type 0} (f : A → B) (d : A) (l : List A) (k : ℕ) → get_or (map f l) k (f d) ≡ f (get_or l k d)
get_or-map f d [] k = refl
get_or-map f d (x ∷ l) zero = refl
get_or-map f d (x ∷ l) (suc k) = get_or-map f d l k

pub once-unmapped : {A B : Type 0} (f : A → B) (l : List A) → AllPairs (λ x y. x ≢ y) (map f l) → AllPairs (λ x y. x ≢ y) l
once-unmapped f l h i j d lt within e =
    let w = length-map f l in h i j (f d) lt (omega arith) (get_or-map f d l i ∙ ap f e ∙ sym (get_or-map f d l j))

pub one-place : {A : Type 0} (d : A) (l : List A) (i j : ℕ) → AllPairs (λ x y. x ≢ y) l → i < length l → j < length l → get_or l i d ≡ get_or l j d → i ≡ j
one-place d l i j h p q e = elim (cases_order i j) as (λ _. i ≡ j) [
  | inl same ↦ same
  | inr apart ↦ elim apart as (λ _. i ≡ j) [ inl lt ↦ absurd (h i j d lt q e) | inr lt ↦ absurd (h j i d lt p (sym e)) ]
]

pub types-length : (t : Table) → length (types_of t) ≡ length t.1
types-length t = let e = built-length t.0 [] t.1 in omega arith

-- nodes of one type are the same

some-parts : (ts : List Typ) (l m : List ℕ) → AllPairs (λ t u. t ≢ u) ts → AllBelow (length ts) l → AllBelow (length ts) m → types_at ts l ≡ types_at ts m → l ≡ m
some-parts ts [] [] h a b e = refl
some-parts ts [] (j ∷ m) h a b e = cc
some-parts ts (i ∷ l) [] h a b e = cc
some-parts ts (i ∷ l) (j ∷ m) h a b e =
    let p : type_at ts i ≡ type_at ts j = cc in
    let q : types_at ts l ≡ types_at ts m = cc in
    ap₂ (λ k n. k ∷ n) (one-place (var 0) ts i j h a.0 b.0 p) (some-parts ts l m h a.1 b.1 q)

pub one-node : (ss : List Symbol) (ts : List Typ) (x y : List ℕ) → AllPairs (λ s u. s ≢ u) ss → AllPairs (λ t u. t ≢ u) ts → IsNode (length ss) (length ts) x → IsNode (length ss) (length ts) y → type_in ss ts x ≡ type_in ss ts y → x ≡ y
one-node ss ts [] y g h a b e = absurd a
one-node ss ts (zero ∷ l) [] g h a b e = absurd b
one-node ss ts (suc s ∷ l) [] g h a b e = absurd b
one-node ss ts (zero ∷ []) (zero ∷ m) g h a b e = absurd (omega (arith, a))
one-node ss ts (zero ∷ v ∷ []) (zero ∷ []) g h a b e = absurd (omega (arith, b))
one-node ss ts (zero ∷ v ∷ []) (zero ∷ w ∷ []) g h a b e = let p : v ≡ w = cc in ap (λ k. 0 ∷ k ∷ []) p
one-node ss ts (zero ∷ v ∷ []) (zero ∷ w ∷ k ∷ m) g h a b e = absurd (omega (arith, b))
one-node ss ts (zero ∷ v ∷ k ∷ l) (zero ∷ m) g h a b e = absurd (omega (arith, a))
one-node ss ts (zero ∷ []) (suc r ∷ m) g h a b e = absurd (omega (arith, a))
one-node ss ts (zero ∷ v ∷ l) (suc r ∷ m) g h a b e = cc
one-node ss ts (suc s ∷ l) (zero ∷ []) g h a b e = absurd (omega (arith, b))
one-node ss ts (suc s ∷ l) (zero ∷ w ∷ m) g h a b e = cc
one-node ss ts (suc s ∷ l) (suc r ∷ m) g h a b e =
    let p : symbol_at ss s ≡ symbol_at ss r = cc in
    let q : types_at ts l ≡ types_at ts m = cc in
    ap₂ (λ k n. suc k ∷ n) (one-place arrow ss s r g a.0 b.0 p) (some-parts ts l m h a.1 b.1 q)

-- with one more symbol

pub more-types : (t : Table) (cs : List (List ℕ)) (fs : List Facts) (s : Symbol) → IsTable t cs fs → types_of (t.0 ++ s ∷ [], t.1) ≡ types_of t
more-types t cs fs s i = built-symbols t.0 (s ∷ []) 0 [] t.1 i.in_order

more-table : (t : Table) (cs ds : List (List ℕ)) (fs : List Facts) (s : Symbol) → IsTable t cs fs → ds ≡ cs ++ code_of s ∷ [] → AllPairs (λ c d. c ≢ d) ds → IsTable (t.0 ++ s ∷ [], t.1) ds fs
more-table t cs ds fs s i e once =
    let same = more-types t cs fs s i in
    let coded : ds ≡ map code_of (t.0 ++ s ∷ []) = e ∙ ap (λ l. l ++ code_of s ∷ []) i.coded ∙ sym (map-snoc code_of t.0 s) in
    record {
      in_order = let n = length-snoc t.0 s in in_order-more (length t.0) (length (t.0 ++ s ∷ [])) 0 t.1 (omega arith) i.in_order;
      known = i.known ∙ ap (map facts_of) (sym same);
      coded = coded;
      symbols_once = once-unmapped code_of (t.0 ++ s ∷ []) (subst (AllPairs (λ c d. c ≢ d)) coded once);
      types_once = subst (AllPairs (λ u v. u ≢ v)) (sym same) i.types_once;
    }

-- the number of a symbol
pub record IsSymbol (ss : List Symbol) (k : ℕ) (s : Symbol) : Type 0 where
  pub within : k < length ss
  pub is : symbol_at ss k ≡ s

-- what is kept in a set
abbrev pub nodes_in : List Kept → List (List ℕ)
nodes_in = map (λ k. k.items)

pub symbol-found : (ss : List Symbol) (keys : List Kept) (k : ℕ) (s : Symbol) (r : List ℕ) → nodes_in keys ≡ map code_of ss → r ≡ code_of s → Some k ≡ position (is_text r) keys → IsSymbol ss k s
symbol-found ss keys k s r coded e found =
    let f = held_found r keys k found in
    let lt = slice_get_within (nodes_in keys) k r f in
    let n : length (nodes_in keys) ≡ length ss = ap length coded ∙ length-map code_of ss in
    let c : get_or (nodes_in keys) k (code_of arrow) ≡ r = get_or_from_slice_get (nodes_in keys) k r (code_of arrow) f in
    let d : code_of (symbol_at ss k) ≡ code_of s = sym (get_or-map code_of arrow ss k) ∙ ap (λ l. get_or l k (code_of arrow)) (sym coded) ∙ c ∙ e in
    record { within = omega arith; is = sym (symbol_in-code (symbol_at ss k)) ∙ ap symbol_in d ∙ symbol_in-code s }

pub new-keys : (ks ks' : List Kept) (x : Kept) (r : List ℕ) → r ≡ x.items → list_any (is_text r) ks ≡ false → ks' ≡ insert_key same_text ks x → nodes_in ks' ≡ nodes_in ks ++ x.items ∷ []
new-keys ks ks' x r q h e =
    let g : list_any (same_text x) ks ≡ false = subst (λ t. list_any (is_text t) ks ≡ false) q h in
    ap nodes_in (e ∙ ap (λ b. if b then ks else ks ++ x ∷ []) g) ∙ map-snoc (λ (k : Kept). k.items) ks x

-- a new symbol that is kept
pub record IsSymbolKept (hs : List Head) (ns : List (List ℕ)) (cs : List (List ℕ)) (fs : List Facts) (k : ℕ) (s : Symbol) (old : List Typ) : Type 0 where
  pub table : IsTable (map head_of hs, ns) cs fs
  pub number : IsSymbol (map head_of hs) k s
  pub types : types_of (map head_of hs, ns) ≡ old

pub symbol-kept : (hs gs : List Head) (ns : List (List ℕ)) (fs : List Facts) (keys keys' : List Kept) (x : Kept) (k : ℕ) (h : Head) → IsTable (map head_of hs, ns) (nodes_in keys) fs → gs ≡ hs ++ h ∷ [] → x.items ≡ code_of (head_of h) → nodes_in keys' ≡ nodes_in keys ++ x.items ∷ [] → IsDistinct same_text keys' → k ≡ length keys → IsSymbolKept gs ns (nodes_in keys') fs k (head_of h) (types_of (map head_of hs, ns))
symbol-kept hs gs ns fs keys keys' x k h i e c p once n =
    let t : Table = (map head_of hs, ns) in
    let s : map head_of gs ≡ t.0 ++ head_of h ∷ [] = ap (map head_of) e ∙ map-snoc head_of hs h in
    let q : nodes_in keys' ≡ nodes_in keys ++ code_of (head_of h) ∷ [] = p ∙ ap (λ y. nodes_in keys ++ y ∷ []) c in
    let m : k ≡ length t.0 = n ∙ sym (length-map (λ (y : Kept). y.items) keys) ∙ ap length i.coded ∙ length-map code_of t.0 in
    record {
      table = subst (λ ss. IsTable (ss, ns) (nodes_in keys') fs) (sym s) (more-table t (nodes_in keys) (nodes_in keys') fs (head_of h) i q (one_to_one keys' once));
      number = record {
        within = let l : length (map head_of gs) ≡ suc (length t.0) = ap length s ∙ length-snoc t.0 (head_of h) in omega arith;
        is = ap₂ symbol_at s m ∙ between arrow (head_of h) t.0 [];
      };
      types = ap (λ ss. types_of (ss, ns)) s ∙ more-types t (nodes_in keys) fs (head_of h) i;
    }

-- a number's node
node-at : (t : Table) (cs : List (List ℕ)) (fs : List Facts) (k : ℕ) → IsTable t cs fs → k < length t.1 → IsNode (length t.0) k (get_or t.1 k [])
node-at t cs fs k i lt = subst (λ n. IsNode (length t.0) n (get_or t.1 k [])) (let e : 0 + k ≡ k = omega arith in e) (in_order-at (length t.0) 0 t.1 k i.in_order lt)

type-at : (t : Table) (cs : List (List ℕ)) (fs : List Facts) (k : ℕ) → IsTable t cs fs → k < length t.1 → type_at (types_of t) k ≡ type_in t.0 (types_of t) (get_or t.1 k [])
type-at t cs fs k i lt = subst (λ n. type_at (types_of t) n ≡ type_in t.0 (types_of t) (get_or t.1 k [])) (let e : 0 + k ≡ k = omega arith in e) (built-at (length t.0) t.0 [] t.1 k i.in_order lt)

pub record IsRead (t : Table) (k : ℕ) (r : List ℕ) : Type 0 where
  pub is_node : IsNode (length t.0) (length (types_of t)) r
  pub is : type_at (types_of t) k ≡ type_in t.0 (types_of t) r

reads : (t : Table) (cs : List (List ℕ)) (fs : List Facts) (k : ℕ) → IsTable t cs fs → k < length t.1 → IsRead t k (get_or t.1 k [])
reads t cs fs k i lt = record {
  is_node = let b = types-length t in node-more (length t.0) (length t.0) k (length (types_of t)) (get_or t.1 k []) (omega arith) (omega arith) (node-at t cs fs k i lt);
  is = type-at t cs fs k i lt;
}

kept-at : (ks : List Kept) (k : ℕ) (x : Kept) → k < length ks → x ≡ get_or ks k x → get_or (nodes_in ks) k [] ≡ x.items
kept-at [] k x lt e = absurd (omega arith)
kept-at (y ∷ ks) zero x lt e = ap (λ z. z.items) (sym e)
kept-at (y ∷ ks) (suc k) x lt e = kept-at ks k x (omega arith) e

pub in-keys : (ss : List Symbol) (keys slice : List Kept) (k : ℕ) → slice ≡ keys → k < length (types_of (ss, nodes_in keys)) → k < length slice
in-keys ss keys slice k e lt =
    let a = types-length (ss, nodes_in keys) in
    let b = length-map (λ (x : Kept). x.items) keys in
    let d : length slice ≡ length keys = ap length e in
    omega arith

pub key-reads : (ss : List Symbol) (cs : List (List ℕ)) (fs : List Facts) (keys slice : List Kept) (k : ℕ) (x : Kept) (r : List ℕ) → IsTable (ss, nodes_in keys) cs fs → slice ≡ keys → k < length slice → x ≡ get_or slice k x → r ≡ x.items → IsRead (ss, nodes_in keys) k r
key-reads ss cs fs keys slice k x r i e lt is q =
    let d : length slice ≡ length keys = ap length e in
    let lt' : k < length keys = omega arith in
    let is' : x ≡ get_or keys k x = is ∙ ap (λ l. get_or l k x) e in
    let b = length-map (λ (x : Kept). x.items) keys in
    subst (IsRead (ss, nodes_in keys) k) (kept-at keys k x lt' is' ∙ sym q) (reads (ss, nodes_in keys) cs fs k i (omega arith))

-- the number of a type that is there
pub record IsFound (t : Table) (k : ℕ) (u : Typ) : Type 0 where
  pub held : slice_get (types_of t) k ≡ Some u
  pub kept : IsWith (types_of t) u (types_of t)

contained : (ts : List Typ) (k : ℕ) (u : Typ) → slice_get ts k ≡ Some u → Contains ts u
contained ts k u e = (k, slice_get_within ts k u e, get_or_from_slice_get ts k u u e)

found : (t : Table) (cs : List (List ℕ)) (fs : List Facts) (k : ℕ) (r : List ℕ) → IsTable t cs fs → slice_get t.1 k ≡ Some r → IsFound t k (type_in t.0 (types_of t) r)
found t cs fs k r i e =
    let b = types-length t in
    let lt = slice_get_within t.1 k r e in
    let is : get_or (types_of t) k (var 0) ≡ type_in t.0 (types_of t) r = type-at t cs fs k i lt ∙ ap (type_in t.0 (types_of t)) (get_or_from_slice_get t.1 k r [] e) in
    let h : slice_get (types_of t) k ≡ Some (type_in t.0 (types_of t) r) = slice_get-get_or (types_of t) k (var 0) (omega arith) ∙ ap Some is in
    record { held = h; kept = record { known = λ _. refl; added = λ f. absurd (f (contained (types_of t) k (type_in t.0 (types_of t) r) h)) } }

pub key-found : (ss : List Symbol) (cs : List (List ℕ)) (fs : List Facts) (keys : List Kept) (k : ℕ) (r : List ℕ) → IsTable (ss, nodes_in keys) cs fs → Some k ≡ position (is_text r) keys → IsFound (ss, nodes_in keys) k (type_in ss (types_of (ss, nodes_in keys)) r)
key-found ss cs fs keys k r i e = found (ss, nodes_in keys) cs fs k r i (held_found r keys k e)

-- with one more node
abbrev with_node : Table → List ℕ → Table
with_node t x = (t.0, t.1 ++ x ∷ [])

with-types : (t : Table) (x : List ℕ) → types_of (with_node t x) ≡ types_of t ++ type_in t.0 (types_of t) x ∷ []
with-types t x = built-snoc t.0 [] t.1 x

not-there : (t : Table) (cs : List (List ℕ)) (fs : List Facts) (x : List ℕ) → IsTable t cs fs → IsNode (length t.0) (length (types_of t)) x → AllPairs (λ y z. y ≢ z) (t.1 ++ x ∷ []) → (k : ℕ) → k < length (types_of t) → type_at (types_of t) k ≢ type_in t.0 (types_of t) x
not-there t cs fs x i a once k lt e =
    let b = types-length t in
    let n = length-snoc t.1 x in
    let r = reads t cs fs k i (omega arith) in
    let same : get_or t.1 k [] ≡ x = one-node t.0 (types_of t) (get_or t.1 k []) x i.symbols_once i.types_once r.is_node a (sym r.is ∙ e) in
    once k (length t.1) [] (omega arith) (omega arith) (first_of_two [] t.1 (x ∷ []) k (omega arith) ∙ same ∙ sym (between [] x t.1 []))

-- a new node that is kept under the number k
pub record IsKept (t u : Table) (x : List ℕ) (k : ℕ) (cs : List (List ℕ)) (gs : List Facts) : Type 0 where
  pub table : IsTable u cs gs
  pub held : slice_get (types_of u) k ≡ Some (type_in t.0 (types_of t) x)
  pub kept : IsWith (types_of t) (type_in t.0 (types_of t) x) (types_of u)
  pub earlier : take (length (types_of t)) (types_of u) ≡ types_of t

node-kept : (t : Table) (cs : List (List ℕ)) (fs gs : List Facts) (f : Facts) (x : List ℕ) → IsTable t cs fs → IsNode (length t.0) (length (types_of t)) x → f ≡ facts_of (type_in t.0 (types_of t) x) → gs ≡ fs ++ f ∷ [] → AllPairs (λ y z. y ≢ z) (t.1 ++ x ∷ []) → IsKept t (with_node t x) x (length t.1) cs gs
node-kept t cs fs gs f x i a e p once =
    let u : Typ = type_in t.0 (types_of t) x in
    let ts : List Typ = types_of t in
    let w = with-types t x in
    let b = types-length t in
    let n = length-snoc ts u in
    let m : length t.1 < length (ts ++ u ∷ []) = omega arith in
    let new = not-there t cs fs x i a once in
    record {
      table = record {
        in_order = in_order-snoc (length t.0) 0 t.1 x i.in_order (node-more (length t.0) (length t.0) (length (types_of t)) (0 + length t.1) x (omega arith) (omega arith) a);
        known = p ∙ ap₂ (λ l g. l ++ g ∷ []) i.known e ∙ sym (map-snoc facts_of ts u) ∙ ap (map facts_of) (sym w);
        coded = i.coded;
        symbols_once = i.symbols_once;
        types_once = subst (AllPairs (λ y z. y ≢ z)) (sym w) (all_pairs_push (λ y z. y ≢ z) ts u i.types_once (λ k d lt q. new k lt (any-default (var 0) d ts k lt ∙ q)));
      };
      held = ap (λ l. slice_get l (length t.1)) w ∙ slice_get-get_or (ts ++ u ∷ []) (length t.1) (var 0) m ∙ ap (λ k. Some (get_or (ts ++ u ∷ []) k (var 0))) (sym b) ∙ ap Some (between (var 0) u ts []);
      kept = record {
        known = λ c. absurd (new c.0 c.1 (any-default (var 0) u ts c.0 c.1 ∙ c.2));
        added = λ _. w;
      };
      earlier = ap (take (length ts)) w ∙ take_front ts (u ∷ []);
    }

pub kept-new : (ss : List Symbol) (keys keys' : List Kept) (old : Table) (cs : List (List ℕ)) (fs gs : List Facts) (f : Facts) (x : List ℕ) (k : ℕ) → (ss, nodes_in keys) ≡ old → IsTable (ss, nodes_in keys) cs fs → IsNode (length old.0) (length (types_of old)) x → f ≡ facts_of (type_in old.0 (types_of old) x) → gs ≡ fs ++ f ∷ [] → nodes_in keys' ≡ nodes_in keys ++ x ∷ [] → IsDistinct same_text keys' → k ≡ length keys → IsKept old (ss, nodes_in keys') x k cs gs
kept-new ss keys keys' old cs fs gs f x k v i a e p q once n =
    let t : Table = (ss, nodes_in keys) in
    let here = node-kept t cs fs gs f x i (subst (λ (u : Table). IsNode (length u.0) (length (types_of u)) x) (sym v) a) (e ∙ ap (λ (u : Table). facts_of (type_in u.0 (types_of u) x)) (sym v)) p (subst (AllPairs (λ y z. y ≢ z)) q (one_to_one keys' once)) in
    let b = length-map (λ (y : Kept). y.items) keys in
    let m : length (nodes_in keys) ≡ k = omega arith in
    let one = subst (λ j. IsKept t (with_node t x) x j cs gs) m here in
    let two = subst (λ l. IsKept t (ss, l) x k cs gs) (sym q) one in
    subst (λ (u : Table). IsKept u (ss, nodes_in keys') x k cs gs) v two

pub past : (ts : List Typ) (k : ℕ) → length ts ≤ k → type_at ts k ≡ var 0
past [] k h = refl
past (t ∷ ts) zero h = absurd (omega arith)
past (t ∷ ts) (suc k) h = past ts k (omega arith)

pub types-known : (t : Table) (cs : List (List ℕ)) (fs : List Facts) (n : ℕ) → IsTable t cs fs → n ≡ length fs → n ≡ length (types_of t)
types-known t cs fs n i e = let a = ap length i.known in let b = length-map facts_of (types_of t) in omega arith
