-- New variables for the parameters of a scheme.
use Rattle.std.proofs.Common.{◌≡◌, ◌<◌, ◌+◌, ◌-◌, ℕ, zero, suc, List, [], ◌∷◌, ◌++◌, Bool, true, false, ◌&&◌, nat_lt, if◌then◌else◌, length, map, take, get_or, Some, slice_get, refl, sym, ap, ap₂, subst, ◌∙◌, arith}
use Rattle.std.proofs.lemmas.Bool.{ltb-true, lt-ltb, and_parts}
use Rattle.std.proofs.lemmas.List.{append_assoc, map-append, length-map, length-append}
use Rattle.std.proofs.lemmas.Option.{slice_get_within, get_or_from_slice_get}
use Rattle.std.proofs.Math.Seq.{take-suc}
use Rattle.ty_solve.specs.of_ty_core.Types.{Typ, var, con, Typs, none, more}
use Rattle.ty_solve.specs.of_ty_core.Statics.{replace, replace_all}
use Rattle.ty_solve.specs.of_ty_core.declared.mark.Mark.{Mark}
use Rattle.ty_solve.specs.of_ty_table.TypeAt.{type_at, AllBelow}
use Rattle.ty_solve.specs.Substitution.{Entry, is_below, are_below}
use Rattle.ty_solve.specs.SlotsOf.{look, entries, entry_of, seen}
use Rattle.ty_solve.specs.declared.limit.Limit.{Limit}
use Rattle.ty_solve.specs.declared.subst.Slot.{Slot}
use Rattle.ty_solve.specs.declared.subst.Slot.TheVariants.{Open}
use Rattle.ty_solve.proofs.Holding.{type-stays, below-append, map-snoc, IsWhole}
use Rattle.ty_instance.specs.Images.{image_at}
use Rattle.ty_instance.specs.Renamed.{renamed, variables_from}
use Rattle.ty_instance.proofs.Going.{below-grown, stays-on, whole}

-- lists that have grown

grown-more : {A : Type 0} (old mid new rest : List A) (x : A) → mid ≡ old ++ rest → new ≡ mid ++ x ∷ [] → new ≡ old ++ (rest ++ x ∷ [])
grown-more old mid new rest x e h = h ∙ ap (λ l. l ++ x ∷ []) e ∙ append_assoc old rest (x ∷ [])

-- the variables that are new

variables-snoc : (n k : ℕ) → variables_from n (suc k) ≡ variables_from n k ++ var (n + k) ∷ []
variables-snoc n zero = let e : n ≡ n + 0 = omega arith in ap (λ i. var i ∷ []) e
variables-snoc n (suc k) =
    let e : suc n + k ≡ n + suc k = omega arith in
    ap (λ l. var n ∷ l) (variables-snoc (suc n) k ∙ ap (λ i. variables_from (suc n) k ++ var i ∷ []) e)

maps-stay : (ts us : List Typ) (ks : List ℕ) → take (length ts) us ≡ ts → AllBelow (length ts) ks → map (type_at us) ks ≡ map (type_at ts) ks
maps-stay ts us [] e h = refl
maps-stay ts us (k ∷ ks) e h = ap₂ (λ t l. t ∷ l) (type-stays ts us k e h.0) (maps-stay ts us ks e h.1)

-- ks are new variables with these marks and the limit, and nothing else has changed
pub record Made (ts us : List Typ) (os ps : List Slot) (ls ms : List Limit) (limit : Limit) (marks : List Mark) (ks : List ℕ) : Type 0 where
  pub types : map (type_at us) ks ≡ variables_from (length os) (length marks)
  pub below : AllBelow (length us) ks
  pub marked : ps ≡ os ++ map Open marks
  pub limited : ms ≡ ls ++ map (λ _. limit) marks
  pub stay : take (length ts) us ≡ ts

append-nothing : {A : Type 0} (l : List A) → l ≡ l ++ []
append-nothing [] = refl
append-nothing (x ∷ l) = ap (λ m. x ∷ m) (append-nothing l)

pub made-none : (ts : List Typ) (os : List Slot) (ls : List Limit) (limit : Limit) (ks : List ℕ) → ks ≡ [] → Made ts ts os os ls ls limit [] ks
made-none ts os ls limit ks e = subst (Made ts ts os os ls ls limit []) (sym e) (record {
  types = refl;
  below = tt;
  marked = append-nothing os;
  limited = append-nothing ls;
  stay = whole ts;
})

pub grown-length : (os ps : List Slot) (marks : List Mark) → ps ≡ os ++ map Open marks → length ps ≡ length os + length marks
grown-length os ps marks e = ap length e ∙ length-append os (map Open marks) ∙ ap (λ i. length os + i) (length-map marks Open)

pub made-more : (ts us vs : List Typ) (os ps qs : List Slot) (ls ms ns : List Limit) (limit : Limit) (marks : List Mark) (ks js : List ℕ) (mark : Mark) (k : ℕ) → Made ts us os ps ls ms limit marks ks → qs ≡ ps ++ Open mark ∷ [] → ns ≡ ms ++ limit ∷ [] → take (length us) vs ≡ us → slice_get vs k ≡ Some (var (length ps)) → js ≡ ks ++ k ∷ [] → Made ts vs os qs ls ns limit (marks ++ mark ∷ []) js
made-more ts us vs os ps qs ls ms ns limit marks ks js mark k g p q grown h e =
    let n : length ps ≡ length os + length marks = grown-length os ps marks g.marked in
    let m : length (marks ++ mark ∷ []) ≡ suc (length marks) = omega (arith, length-append marks (mark ∷ [])) in
    record {
      types =
          map-snoc vs ks js k e
          ∙ ap₂ (λ l t. l ++ t ∷ []) (maps-stay us vs ks grown g.below ∙ g.types) (get_or_from_slice_get vs k (var (length ps)) (var 0) h ∙ ap var n)
          ∙ sym (variables-snoc (length os) (length marks))
          ∙ ap (variables_from (length os)) (sym m);
      below = subst (AllBelow (length vs)) (sym e) (below-append (length vs) ks (k ∷ []) (below-grown us vs ks grown g.below) (slice_get_within vs k (var (length ps)) h, tt));
      marked = grown-more os ps qs (map Open marks) (Open mark) g.marked p ∙ ap (λ l. os ++ l) (sym (map-append Open marks (mark ∷ [])));
      limited = grown-more ls ms ns (map (λ _. limit) marks) limit g.limited q ∙ ap (λ l. ls ++ l) (sym (map-append (λ _. limit) marks (mark ∷ [])));
      stay = stays-on ts us vs g.stay grown;
    }

pub made-next : (ts us vs : List Typ) (os ps qs : List Slot) (ls ms ns : List Limit) (limit : Limit) (marks : List Mark) (i : ℕ) (d : Mark) (ks js : List ℕ) (k : ℕ) → i < length marks → Made ts us os ps ls ms limit (take i marks) ks → qs ≡ ps ++ Open (get_or marks i d) ∷ [] → ns ≡ ms ++ limit ∷ [] → take (length us) vs ≡ us → slice_get vs k ≡ Some (var (length ps)) → js ≡ ks ++ k ∷ [] → Made ts vs os qs ls ns limit (take (i + 1) marks) js
made-next ts us vs os ps qs ls ms ns limit marks i d ks js k lt g p q grown h e =
    let n : suc i ≡ i + 1 = omega arith in
    subst (λ l. Made ts vs os qs ls ns limit l js) (sym (take-suc marks i d lt) ∙ ap (λ j. take j marks) n) (made-more ts us vs os ps qs ls ms ns limit (take i marks) ks js (get_or marks i d) k g p q grown h e)

-- the body at new variables

variable-at : (us : List Typ) (n k : ℕ) (ks : List ℕ) (v : ℕ) → map (type_at us) ks ≡ variables_from n k → v < k → type_at us (get_or ks v 0) ≡ var (n + v)
variable-at us n zero ks v e lt = absurd (omega arith)
variable-at us n (suc k) [] v e lt = cc
variable-at us n (suc k) (x ∷ ks) zero e lt =
    let p : type_at us x ≡ var n = cc in
    let q : n ≡ n + 0 = omega arith in
    p ∙ ap var q
variable-at us n (suc k) (x ∷ ks) (suc v) e lt =
    let p : map (type_at us) ks ≡ variables_from (suc n) k = cc in
    let q : suc n + v ≡ n + suc v = omega arith in
    variable-at us (suc n) k ks v p (omega arith) ∙ ap var q

variables-length : (n k : ℕ) → length (variables_from n k) ≡ k
variables-length n zero = refl
variables-length n (suc k) = ap suc (variables-length (suc n) k)

pub images-length : (us : List Typ) (n k : ℕ) (ks : List ℕ) → map (type_at us) ks ≡ variables_from n k → length ks ≡ k
images-length us n k ks e = sym (length-map ks (type_at us)) ∙ ap length e ∙ variables-length n k

pub image-renamed : (us : List Typ) (n k : ℕ) (ks : List ℕ) (v : ℕ) → map (type_at us) ks ≡ variables_from n k → image_at us ks v ≡ renamed n k v
image-renamed us n k ks v e = go (nat_lt v k) refl
  where
    size : length ks ≡ k
    size = images-length us n k ks e

    go : (b : Bool) → nat_lt v k ≡ b → image_at us ks v ≡ renamed n k v
    go b c = ap (λ m. if nat_lt v m then type_at us (get_or ks v 0) else var (v - m)) size ∙ ap (λ x. if x then type_at us (get_or ks v 0) else var (v - k)) c ∙ last b c ∙ ap (λ x. if x then var (n + v) else var (v - k)) (sym c)
      where
        last : (b : Bool) → nat_lt v k ≡ b → (if b then type_at us (get_or ks v 0) else var (v - k)) ≡ (if b then var (n + v) else var (v - k))
        last true c = variable-at us n k ks v e (ltb-true v k c)
        last false c = refl

mutual
  pub replace-alike : (f g : ℕ → Typ) → ((v : ℕ) → f v ≡ g v) → (t : Typ) → replace f t ≡ replace g t
  replace-alike f g h (var v) = h v
  replace-alike f g h (con c ts) = ap (con c) (replaces-alike f g h ts)

  replaces-alike : (f g : ℕ → Typ) → ((v : ℕ) → f v ≡ g v) → (ts : Typs) → replace_all f ts ≡ replace_all g ts
  replaces-alike f g h none = refl
  replaces-alike f g h (more t ts) = ap₂ more (replace-alike f g h t) (replaces-alike f g h ts)

-- its variables are known

renamed-known : (n k v : ℕ) → nat_lt v (k + n) ≡ true → is_below (n + k) (renamed n k v) ≡ true
renamed-known n k v h = go (nat_lt v k) refl
  where
    lt : v < k + n
    lt = ltb-true v (k + n) h

    go : (b : Bool) → nat_lt v k ≡ b → is_below (n + k) (renamed n k v) ≡ true
    go true c = let less = ltb-true v k c in let below : v < k + n = lt in ap (λ b. is_below (n + k) (if b then var (n + v) else var (v - k))) c ∙ lt-ltb (n + v) (n + k) (omega arith)
    go false c = let below : v < k + n = lt in ap (λ b. is_below (n + k) (if b then var (n + v) else var (v - k))) c ∙ lt-ltb (v - k) (n + k) (omega arith)

mutual
  pub replace-known : (n k : ℕ) (t : Typ) → is_below (k + n) t ≡ true → is_below (n + k) (replace (renamed n k) t) ≡ true
  replace-known n k (var v) h = renamed-known n k v h
  replace-known n k (con c ts) h = replaces-known n k ts h

  replaces-known : (n k : ℕ) (ts : Typs) → are_below (k + n) ts ≡ true → are_below (n + k) (replace_all (renamed n k) ts) ≡ true
  replaces-known n k none h = refl
  replaces-known n k (more t ts) h =
      let p = and_parts (is_below (k + n) t) (are_below (k + n) ts) h in
      ap₂ (λ a b. a && b) (replace-known n k t p.0) (replaces-known n k ts p.1)

pub found-known : (us : List Typ) (r n k m : ℕ) (b : Typ) → slice_get us r ≡ Some (replace (renamed n k) b) → m ≡ n + k → is_below (k + n) b ≡ true → is_below m (type_at us r) ≡ true
found-known us r n k m b e l h = ap₂ is_below l (get_or_from_slice_get us r (replace (renamed n k) b) (var 0) e) ∙ replace-known n k b h

-- what is said of the variables that were there

look-front : (es rest : List Entry) (v : ℕ) → v < length es → look (es ++ rest) v ≡ look es v
look-front [] rest v lt = absurd (omega arith)
look-front (e ∷ es) rest zero lt = refl
look-front (e ∷ es) rest (suc v) lt = look-front es rest v (omega arith)

pub seen-front : (ts us : List Typ) (os ps : List Slot) (rest : List Slot) (v : ℕ) → IsWhole ts us os → ps ≡ os ++ rest → v < length os → seen us ps v ≡ seen ts os v
seen-front ts us os ps rest v w e lt =
    ap (λ l. look (entries us l) v) e
    ∙ ap (λ l. look l v) (map-append (entry_of us) os rest)
    ∙ look-front (entries us os) (entries us rest) v (omega (arith, length-map os (entry_of us)))
    ∙ ap (λ f. f v) w.says
