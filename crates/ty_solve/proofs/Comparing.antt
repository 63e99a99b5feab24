-- Types that were compared are equal, where all that waits is equal.
use Rattle.std.proofs.Common.{◌≡◌, ◌<◌, ℕ, zero, suc, List, [], ◌∷◌, ◌++◌, length, Bool, true, false, ◌&&◌, ◌||◌, nat_eq, if◌then◌else◌, Option, Some, None, inl, inr, refl, sym, ap, ap₂, subst, ◌∙◌, arith}
use Rattle.std.proofs.Common.{not}
use mathlib.Core.Logic.{◌⊎◌}
use Rattle.std.specs.List.{list_any}
use Rattle.std.proofs.lemmas.Bool.{eqb-true}
use Rattle.std.proofs.lemmas.Bool.{false≢true}
use Rattle.indexmap.specs.IndexSet.{insert_key}
use Rattle.ty_table.specs.of_ty_core.Types.{Typ, con, Typs, none, more, Symbol, nodes, all_nodes}
use Rattle.ty_table.specs.of_ty_core.declared.mark.Mark.{Mark}
use Rattle.ty_table.specs.TypeAt.{type_at}
use Rattle.ty_solve.specs.Substitution.{Entry, sub, subs, Fits}
use Rattle.ty_solve.specs.Task.{Task, Equal, Admit, Write}
use Rattle.ty_solve.specs.Tasks.{AllHold}
use Rattle.ty_solve.specs.SlotsOf.{look}
use Rattle.ty_solve.specs.Finding.{Reads}
use Rattle.ty_solve.specs.Changes.{Changes}
use Rattle.ty_solve.specs.Compared.{Was, WasThere, Waits, Alike, Settled, Opens, Stands, Remembers}

-- what waits holds where all tasks hold
pub waits-hold : (m : ℕ → Bool) (f : ℕ → Typ) (l : List Task) (a b : Typ) → AllHold m f l → Waits l a b → sub f a ≡ sub f b
waits-hold m f [] a b h w = absurd w
waits-hold m f (Equal t u ∷ l) a b h (inl e) = ap (sub f) (sym e.0) ∙ h.0 ∙ ap (sub f) e.1
waits-hold m f (Equal t u ∷ l) a b h (inr w) = waits-hold m f l a b h.1 w
waits-hold m f (Admit k t ∷ l) a b h w = waits-hold m f l a b h.1 w

pub waits-front : (l r : List Task) (a b : Typ) → Waits l a b → Waits (l ++ r) a b
waits-front [] r a b w = absurd w
waits-front (Equal t u ∷ l) r a b (inl e) = inl e
waits-front (Equal t u ∷ l) r a b (inr w) = inr (waits-front l r a b w)
waits-front (Admit k t ∷ l) r a b w = waits-front l r a b w

pub waits-last : (l : List Task) (t u : Typ) → Waits (l ++ Equal t u ∷ []) t u
waits-last [] t u = inl (refl, refl)
waits-last (Equal a b ∷ l) t u = inr (waits-last l t u)
waits-last (Admit k a ∷ l) t u = waits-last l t u

waits-either : (l : List Task) (t u a b : Typ) → Waits (l ++ Equal t u ∷ []) a b → Waits l a b ⊎ ((t ≡ a) × (u ≡ b))
waits-either [] t u a b (inl e) = inr e
waits-either [] t u a b (inr w) = absurd w
waits-either (Equal c d ∷ l) t u a b (inl e) = inl (inl e)
waits-either (Equal c d ∷ l) t u a b (inr w) = go (waits-either l t u a b w)
  where
    go : Waits l a b ⊎ ((t ≡ a) × (u ≡ b)) → Waits (Equal c d ∷ l) a b ⊎ ((t ≡ a) × (u ≡ b))
    go (inl x) = inl (inr x)
    go (inr e) = inr e
waits-either (Admit k c ∷ l) t u a b w = waits-either l t u a b w

waits-no_mark : (l : List Task) (k : Mark) (t a b : Typ) → Waits (l ++ Admit k t ∷ []) a b → Waits l a b
waits-no_mark [] k t a b w = absurd w
waits-no_mark (Equal c d ∷ l) k t a b (inl e) = inl e
waits-no_mark (Equal c d ∷ l) k t a b (inr w) = inr (waits-no_mark l k t a b w)
waits-no_mark (Admit j c ∷ l) k t a b w = waits-no_mark l k t a b w

pub alike-map : (P Q : Typ → Typ → Type 0) → ((t u : Typ) → P t u → Q t u) → (ts us : Typs) → Alike P ts us → Alike Q ts us
alike-map P Q g none none h = Alike.nothing
alike-map P Q g none (more u us) h = elim h [ ]
alike-map P Q g (more t ts) none h = elim h [ ]
alike-map P Q g (more t ts) (more u us) (Alike.part _ _ _ _ p h) = Alike.part t u ts us (g t u p) (alike-map P Q g ts us h)

-- compared types are equal, by the number of their nodes
module _ (ts : List Typ) (f : ℕ → Typ) (pairs : List (ℕ × ℕ)) (tasks : List Task) (opens : (x y : ℕ) → Was pairs x y → Opens ts f pairs tasks x y) (hold : (a b : Typ) → Waits tasks a b → sub f a ≡ sub f b) where
  settled : (n : ℕ) → ((x y : ℕ) → nodes (sub f (type_at ts x)) < n → Was pairs x y → sub f (type_at ts x) ≡ sub f (type_at ts y)) → (t u : Typ) → nodes t < n → Settled ts f pairs tasks t u → t ≡ u
  settled n h t u lt (Settled.equal e) = e
  settled n h t u lt (Settled.compared x y w p q) = let d = ap nodes p in p ∙ h x y (omega arith) w ∙ sym q
  settled n h t u lt (Settled.waiting a b w p q) = p ∙ hold a b w ∙ sym q

  each : (n : ℕ) → ((x y : ℕ) → nodes (sub f (type_at ts x)) < n → Was pairs x y → sub f (type_at ts x) ≡ sub f (type_at ts y)) → (ls rs : Typs) → all_nodes ls < n → Alike (Settled ts f pairs tasks) ls rs → ls ≡ rs
  each n h none none lt a = refl
  each n h none (more u us) lt a = elim a [ ]
  each n h (more t ls) none lt a = elim a [ ]
  each n h (more t ls) (more u rs) lt (Alike.part _ _ _ _ p a) = ap₂ more (settled n h t u (omega arith) p) (each n h ls rs (omega arith) a)

  by_nodes : (n x y : ℕ) → nodes (sub f (type_at ts x)) < n → Was pairs x y → sub f (type_at ts x) ≡ sub f (type_at ts y)
  by_nodes zero x y lt w = absurd (omega arith)
  by_nodes (suc n) x y lt w =
      let o = opens x y w in
      let d = ap nodes o.left in
      o.left ∙ ap (con o.symbol) (each n (by_nodes n) o.lefts o.rights (omega arith) o.parts) ∙ sym o.right

  pub compared-equal : (x y : ℕ) → Was pairs x y → sub f (type_at ts x) ≡ sub f (type_at ts y)
  compared-equal x y w = by_nodes (suc (nodes (sub f (type_at ts x)))) x y (omega arith) w

-- other pairs and tasks

settled-moves : (ts : List Typ) (f : ℕ → Typ) (pairs all : List (ℕ × ℕ)) (old new : List Task) → ((x y : ℕ) → Was pairs x y → Was all x y) → ((a b : Typ) → Waits old a b → Settled ts f all new (sub f a) (sub f b)) → (t u : Typ) → Settled ts f pairs old t u → Settled ts f all new t u
settled-moves ts f pairs all old new g h t u (Settled.equal e) = Settled.equal e
settled-moves ts f pairs all old new g h t u (Settled.compared x y w p q) = Settled.compared x y (g x y w) p q
settled-moves ts f pairs all old new g h t u (Settled.waiting a b w p q) = subst (λ z. Settled ts f all new z u) (sym p) (subst (Settled ts f all new (sub f a)) (sym q) (h a b w))

opens-moves : (ts : List Typ) (f : ℕ → Typ) (pairs all : List (ℕ × ℕ)) (old new : List Task) → ((x y : ℕ) → Was pairs x y → Was all x y) → ((a b : Typ) → Waits old a b → Settled ts f all new (sub f a) (sub f b)) → (x y : ℕ) → Opens ts f pairs old x y → Opens ts f all new x y
opens-moves ts f pairs all old new g h x y o = record {
  symbol = o.symbol;
  lefts = o.lefts;
  rights = o.rights;
  left = o.left;
  right = o.right;
  parts = alike-map (Settled ts f pairs old) (Settled ts f all new) (settled-moves ts f pairs all old new g h) o.lefts o.rights o.parts;
}

-- nothing compared
pub remembers-none : (ts : List Typ) (s : ℕ → Entry) (pairs : List (ℕ × ℕ)) (tasks : List Task) → pairs ≡ [] → Remembers ts s None pairs tasks
remembers-none ts s pairs tasks e f h g x y w = absurd (subst (λ l. Was l x y) e w)

-- an equation that is settled is dropped
pub remembers-dropped : (ts : List Typ) (s : ℕ → Entry) (w : Option Write) (pairs : List (ℕ × ℕ)) (old : List Task) (a b : Typ) → ((f : ℕ → Typ) → Fits f s → Stands f w → Settled ts f pairs old (sub f a) (sub f b)) → Remembers ts s None pairs (old ++ Equal a b ∷ []) → Remembers ts s w pairs old
remembers-dropped ts s w pairs old a b d h f i j x y k = opens-moves ts f pairs pairs (old ++ Equal a b ∷ []) old (λ x y z. z) go x y (h f i tt x y k)
  where
    go : (c e : Typ) → Waits (old ++ Equal a b ∷ []) c e → Settled ts f pairs old (sub f c) (sub f e)
    go c e z = elim (waits-either old a b c e z) as (λ _. Settled ts f pairs old (sub f c) (sub f e)) [
      | inl v ↦ Settled.waiting c e v refl refl
      | inr v ↦ subst (λ t. Settled ts f pairs old t (sub f e)) (ap (sub f) v.0) (subst (Settled ts f pairs old (sub f a)) (ap (sub f) v.1) (d f i j))
    ]

-- a mark is dropped, and others come
pub remembers-marks : (ts : List Typ) (s : ℕ → Entry) (w : Option Write) (pairs : List (ℕ × ℕ)) (old new : List Task) (k : Mark) (t : Typ) → ((a b : Typ) → Waits old a b → Waits new a b) → Remembers ts s None pairs (old ++ Admit k t ∷ []) → Remembers ts s w pairs new
remembers-marks ts s w pairs old new k t g h f i j x y z = opens-moves ts f pairs pairs (old ++ Admit k t ∷ []) new (λ x y v. v) (λ a b v. Settled.waiting a b (g a b (waits-no_mark old k t a b v)) refl refl) x y (h f i tt x y z)

-- the same of types that read as these
pub remembers-along : (ts : List Typ) (n : ℕ) (s : ℕ → Entry) (w : ℕ → ℕ) (pairs : List (ℕ × ℕ)) (old : List Task) (a b c d : Typ) → Reads n s w a c → Reads n s w b d → Remembers ts s None pairs (old ++ Equal a b ∷ []) → Remembers ts s None pairs (old ++ Equal c d ∷ [])
remembers-along ts n s w pairs old a b c d p q h f i j x y k = opens-moves ts f pairs pairs (old ++ Equal a b ∷ []) (old ++ Equal c d ∷ []) (λ x y z. z) go x y (h f i tt x y k)
  where
    go : (t u : Typ) → Waits (old ++ Equal a b ∷ []) t u → Settled ts f pairs (old ++ Equal c d ∷ []) (sub f t) (sub f u)
    go t u z = elim (waits-either old a b t u z) as (λ _. Settled ts f pairs (old ++ Equal c d ∷ []) (sub f t) (sub f u)) [
      | inl v ↦ Settled.waiting t u (waits-front old (Equal c d ∷ []) t u v) refl refl
      | inr v ↦ Settled.waiting c d (waits-last old c d) (ap (sub f) (sym v.0) ∙ p.same f i) (ap (sub f) (sym v.1) ∙ q.same f i)
    ]

was-front : (l : List (ℕ × ℕ)) (p : ℕ × ℕ) (x y : ℕ) → Was l x y → Was (l ++ p ∷ []) x y
was-front [] p x y w = absurd w
was-front (q ∷ l) p x y (inl e) = inl e
was-front (q ∷ l) p x y (inr w) = inr (was-front l p x y w)

was-last : (l : List (ℕ × ℕ)) (x y : ℕ) → Was (l ++ (x, y) ∷ []) x y
was-last [] x y = inl (refl, refl)
was-last (q ∷ l) x y = inr (was-last l x y)

was-either : (l : List (ℕ × ℕ)) (a b x y : ℕ) → Was (l ++ (a, b) ∷ []) x y → Was l x y ⊎ ((a ≡ x) × (b ≡ y))
was-either [] a b x y (inl e) = inr e
was-either [] a b x y (inr w) = absurd w
was-either (q ∷ l) a b x y (inl e) = inl (inl e)
was-either (q ∷ l) a b x y (inr w) = go (was-either l a b x y w)
  where
    go : Was l x y ⊎ ((a ≡ x) × (b ≡ y)) → Was (q ∷ l) x y ⊎ ((a ≡ x) × (b ≡ y))
    go (inl z) = inl (inr z)
    go (inr e) = inr e

alike-subs : (ts : List Typ) (f : ℕ → Typ) (pairs : List (ℕ × ℕ)) (tasks : List Task) (ls rs : Typs) → Alike (Waits tasks) ls rs → Alike (Settled ts f pairs tasks) (subs f ls) (subs f rs)
alike-subs ts f pairs tasks none none h = Alike.nothing
alike-subs ts f pairs tasks none (more u rs) h = elim h [ ]
alike-subs ts f pairs tasks (more t ls) none h = elim h [ ]
alike-subs ts f pairs tasks (more t ls) (more u rs) (Alike.part _ _ _ _ w h) = Alike.part (sub f t) (sub f u) (subs f ls) (subs f rs) (Settled.waiting t u w refl refl) (alike-subs ts f pairs tasks ls rs h)

-- a pair comes to those that were compared, and its parts wait
pub remembers-opened : (ts : List Typ) (s : ℕ → Entry) (pairs all : List (ℕ × ℕ)) (old new : List Task) (a b : ℕ) (h g : Symbol) (ls rs : Typs) → all ≡ pairs ++ (a, b) ∷ [] → type_at ts a ≡ con h ls → type_at ts b ≡ con g rs → h ≡ g → ((c d : Typ) → Waits old c d → Waits new c d) → Alike (Waits new) ls rs → Remembers ts s None pairs (old ++ Equal (type_at ts a) (type_at ts b) ∷ []) → Remembers ts s None all new
remembers-opened ts s pairs all old new a b h g ls rs e p q same stay wait r = subst (λ l. Remembers ts s None l new) (sym e) here
  where
    now : List (ℕ × ℕ)
    now = pairs ++ (a, b) ∷ []

    go : (f : ℕ → Typ) (c d : Typ) → Waits (old ++ Equal (type_at ts a) (type_at ts b) ∷ []) c d → Settled ts f (pairs ++ (a, b) ∷ []) new (sub f c) (sub f d)
    go f c d z = elim (waits-either old (type_at ts a) (type_at ts b) c d z) as (λ _. Settled ts f (pairs ++ (a, b) ∷ []) new (sub f c) (sub f d)) [
      | inl v ↦ Settled.waiting c d (stay c d v) refl refl
      | inr v ↦ Settled.compared a b (was-last pairs a b) (ap (sub f) (sym v.0)) (ap (sub f) (sym v.1))
    ]

    this : (f : ℕ → Typ) → Opens ts f (pairs ++ (a, b) ∷ []) new a b
    this f = record {
      symbol = g;
      lefts = subs f ls;
      rights = subs f rs;
      left = ap (sub f) p ∙ ap (λ k. con k (subs f ls)) same;
      right = ap (sub f) q;
      parts = alike-subs ts f (pairs ++ (a, b) ∷ []) new ls rs wait;
    }

    here : Remembers ts s None (pairs ++ (a, b) ∷ []) new
    here f i j x y k = elim (was-either pairs a b x y k) as (λ _. Opens ts f (pairs ++ (a, b) ∷ []) new x y) [
      | inl v ↦ opens-moves ts f pairs (pairs ++ (a, b) ∷ []) (old ++ Equal (type_at ts a) (type_at ts b) ∷ []) new (was-front pairs (a, b)) (go f) x y (r f i tt x y v)
      | inr v ↦ subst (λ z. Opens ts f (pairs ++ (a, b) ∷ []) new z y) v.0 (subst (Opens ts f (pairs ++ (a, b) ∷ []) new a) v.1 (this f))
    ]

-- nothing waits any more
pub remembers-ended : (ts : List Typ) (s : ℕ → Entry) (pairs : List (ℕ × ℕ)) (old new : List Task) → length old ≡ 0 → Remembers ts s None pairs old → Remembers ts s None pairs new
remembers-ended ts s pairs [] new e h f i j x y k = opens-moves ts f pairs pairs [] new (λ x y z. z) (λ a b w. absurd w) x y (h f i tt x y k)
remembers-ended ts s pairs (t ∷ old) new e h f i j x y k = absurd (omega (arith, e))

-- a pair that was compared is equal where the other tasks hold
pub compared-holds : (ts : List Typ) (s : ℕ → Entry) (pairs : List (ℕ × ℕ)) (old : List Task) (a b : ℕ) → Was pairs a b → Remembers ts s None pairs (old ++ Equal (type_at ts a) (type_at ts b) ∷ []) → (m : ℕ → Bool) (f : ℕ → Typ) → Fits f s → AllHold m f old → sub f (type_at ts a) ≡ sub f (type_at ts b)
compared-holds ts s pairs old a b w r m f i h =
    let d = remembers-dropped ts s None pairs old (type_at ts a) (type_at ts b) (λ g k j. Settled.compared a b w refl refl) r in
    compared-equal ts f pairs old (d f i tt) (λ c e z. waits-hold m f old c e h z) a b w

-- after a change
pub remembers-changed : (ts : List Typ) (old new : List Entry) (pairs : List (ℕ × ℕ)) (tasks now : List Task) (x : Write) → Changes old new tasks now x → Remembers ts (look old) (Some x) pairs tasks → Remembers ts (look new) None pairs now
remembers-changed ts old new pairs tasks now x c r f i j a b k =
    let p = c.fits f i in
    opens-moves ts f pairs pairs tasks now (λ x y z. z) (λ t u w. Settled.waiting t u (c.stay t u w) refl refl) a b (r f p.0 p.1 a b k)

-- a pair that is put into the set

abbrev pub same_pair : ℕ × ℕ → ℕ × ℕ → Bool
same_pair x y = nat_eq x.0 y.0 && nat_eq x.1 y.1

both : (a b : Bool) → (a && b) ≡ true → (a ≡ true) × (b ≡ true)
both true b h = (refl, h)
both false b h = cc

was-any : (l : List (ℕ × ℕ)) (a b : ℕ) → list_any (same_pair (a, b)) l ≡ true → Was l a b
was-any [] a b h = absurd (false≢true h)
was-any (p ∷ l) a b h = go (same_pair (a, b) p) refl (was-any l a b)
  where
    go : (c : Bool) → same_pair (a, b) p ≡ c → (list_any (same_pair (a, b)) l ≡ true → Was l a b) → Was (p ∷ l) a b
    go true i r = let e = both (nat_eq a p.0) (nat_eq b p.1) i in inl (sym (eqb-true a p.0 e.0), sym (eqb-true b p.1 e.1))
    go false i r = inr (r (sym (ap (λ c. c || list_any (same_pair (a, b)) l) i) ∙ h))

pub pair-new : (l l' : List (ℕ × ℕ)) (a b : ℕ) (new : Bool) → new ≡ not (list_any (same_pair (a, b)) l) → l' ≡ insert_key same_pair l (a, b) → new ≡ true → l' ≡ l ++ (a, b) ∷ []
pair-new l l' a b new p q e = go (list_any (same_pair (a, b)) l) refl
  where
    go : (c : Bool) → list_any (same_pair (a, b)) l ≡ c → l' ≡ l ++ (a, b) ∷ []
    go true i = absurd (false≢true (sym (p ∙ ap not i) ∙ e))
    go false i = q ∙ ap (λ c. if c then l else l ++ (a, b) ∷ []) i

pub pair-old : (l l' : List (ℕ × ℕ)) (a b : ℕ) (new : Bool) → new ≡ not (list_any (same_pair (a, b)) l) → l' ≡ insert_key same_pair l (a, b) → new ≡ false → WasThere l l' a b
pair-old l l' a b new p q e = go (list_any (same_pair (a, b)) l) refl
  where
    go : (c : Bool) → list_any (same_pair (a, b)) l ≡ c → WasThere l l' a b
    go true i = record { same = q ∙ ap (λ c. if c then l else l ++ (a, b) ∷ []) i; was = was-any l a b i }
    go false i = absurd (false≢true (sym e ∙ p ∙ ap not i))
