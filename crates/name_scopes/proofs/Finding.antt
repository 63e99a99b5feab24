-- What a scope finds under its numbers, and what is left of it.
use Rattle.std.proofs.Common.{◌≡◌, ℕ, zero, suc, ◌+◌, ◌*◌, ◌-◌, ◌<◌, ◌≤◌, Bool, true, false, cond, List, [], ◌∷◌, ◌++◌, length, reverse, take, drop, min, nat_eq, Option, Some, None, is_some, ◌⊎◌, inl, inr, refl, sym, ap, ap₂, subst, ◌∙◌, arith}
use Rattle.std.specs.Map.{lookup}
use Rattle.std.proofs.Math.Seq.{take-append_seam, drop-append_seam}
use Rattle.std.proofs.lemmas.Bool.{eqb-true, cases_lt}
use Rattle.std.proofs.lemmas.List.{reverse-append, reverse-reverse, length-reverse, length-append, length-drop, drop-append-le, take-append-drop, take_all}
use Rattle.sml_tree.specs.declared.ident.Vid.{Vid}
use Rattle.sml_tree.specs.declared.ident.Vid.TheVariants.{Named, Equals, Fresh}
use Rattle.core_rules.specs.Words.{same_vid}
use Rattle.name_scopes.specs.Held.{structure_held, tycon_held, value_held}
use Rattle.name_scopes.specs.Scopes.{keyed, structure_found, structure_key, tycon_found, tycon_key, value_found, vid_key}
use Rattle.name_scopes.specs.declared.bound.Bound.{Bound}
use Rattle.name_scopes.specs.declared.bound.Bound.TheVariants.{Value, Tycon, Structure}
use Rattle.name_scopes.specs.declared.bound.Members.{Members}
use Rattle.name_scopes.specs.declared.held.Held.{Held}

-- each number is that of one identifier

apart : (m n : ℕ) → (m ≡ n → ⊥) → nat_eq m n ≡ false
apart m n h = by (nat_eq m n) refl
  where
    by : (b : Bool) → nat_eq m n ≡ b → b ≡ false
    by true p = absurd (h (eqb-true m n p))
    by false p = refl

alike : (m n k j : ℕ) → (m ≡ n → k ≡ j) → (k ≡ j → m ≡ n) → nat_eq m n ≡ nat_eq k j
alike m n k j f g = by (nat_eq m n) refl (nat_eq k j) refl
  where
    by : (a : Bool) → nat_eq m n ≡ a → (b : Bool) → nat_eq k j ≡ b → a ≡ b
    by true p true q = refl
    by true p false q = let e = f (eqb-true m n p) in grind (arith, e)
    by false p true q = let e = g (eqb-true k j q) in grind (arith, e)
    by false p false q = refl

vid-keys : (x y : Vid) → nat_eq (vid_key x) (vid_key y) ≡ same_vid x y
vid-keys (Named x) (Named y) = alike (4 * x) (4 * y) x y (λ e. omega arith) (λ e. omega arith)
vid-keys (Named x) (Fresh k) = apart (4 * x) (4 * k + 1) (λ e. omega arith)
vid-keys (Named x) Equals = apart (4 * x) 2 (λ e. omega arith)
vid-keys (Fresh k) (Named y) = apart (4 * k + 1) (4 * y) (λ e. omega arith)
vid-keys (Fresh k) (Fresh j) = alike (4 * k + 1) (4 * j + 1) k j (λ e. omega arith) (λ e. omega arith)
vid-keys (Fresh k) Equals = apart (4 * k + 1) 2 (λ e. omega arith)
vid-keys Equals (Named y) = apart 2 (4 * y) (λ e. omega arith)
vid-keys Equals (Fresh j) = apart 2 (4 * j + 1) (λ e. omega arith)
vid-keys Equals Equals = refl

vid-tycon : (x : Vid) (y : ℕ) → nat_eq (vid_key x) (tycon_key y) ≡ false
vid-tycon (Named x) y = apart (4 * x) (4 * y + 3) (λ e. omega arith)
vid-tycon (Fresh k) y = apart (4 * k + 1) (4 * y + 3) (λ e. omega arith)
vid-tycon Equals y = apart 2 (4 * y + 3) (λ e. omega arith)

vid-structure : (x : Vid) (y : ℕ) → nat_eq (vid_key x) (structure_key y) ≡ false
vid-structure (Named x) y = apart (4 * x) (4 * y + 6) (λ e. omega arith)
vid-structure (Fresh k) y = apart (4 * k + 1) (4 * y + 6) (λ e. omega arith)
vid-structure Equals y = apart 2 (4 * y + 6) (λ e. omega arith)

tycon-vid : (x : ℕ) (y : Vid) → nat_eq (tycon_key x) (vid_key y) ≡ false
tycon-vid x (Named y) = apart (4 * x + 3) (4 * y) (λ e. omega arith)
tycon-vid x (Fresh k) = apart (4 * x + 3) (4 * k + 1) (λ e. omega arith)
tycon-vid x Equals = apart (4 * x + 3) 2 (λ e. omega arith)

tycon-keys : (x y : ℕ) → nat_eq (tycon_key x) (tycon_key y) ≡ nat_eq x y
tycon-keys x y = alike (4 * x + 3) (4 * y + 3) x y (λ e. omega arith) (λ e. omega arith)

tycon-structure : (x y : ℕ) → nat_eq (tycon_key x) (structure_key y) ≡ false
tycon-structure x y = apart (4 * x + 3) (4 * y + 6) (λ e. omega arith)

structure-vid : (x : ℕ) (y : Vid) → nat_eq (structure_key x) (vid_key y) ≡ false
structure-vid x (Named y) = apart (4 * x + 6) (4 * y) (λ e. omega arith)
structure-vid x (Fresh k) = apart (4 * x + 6) (4 * k + 1) (λ e. omega arith)
structure-vid x Equals = apart (4 * x + 6) 2 (λ e. omega arith)

structure-tycon : (x y : ℕ) → nat_eq (structure_key x) (tycon_key y) ≡ false
structure-tycon x y = apart (4 * x + 6) (4 * y + 3) (λ e. omega arith)

structure-keys : (x y : ℕ) → nat_eq (structure_key x) (structure_key y) ≡ nat_eq x y
structure-keys x y = alike (4 * x + 6) (4 * y + 6) x y (λ e. omega arith) (λ e. omega arith)

pub holds-value : (bs : List Bound) (x : Vid) → value_held (lookup (nat_eq (vid_key x)) (keyed bs)) ≡ value_found bs x
holds-value [] x = refl
holds-value (Value y v ∷ bs) x =
    ap (λ b. value_held (cond b (Some (record { bound = Value y v; before = length bs })) (lookup (nat_eq (vid_key x)) (keyed bs)))) (vid-keys x y) ∙ by (same_vid x y) (holds-value bs x)
  where
    by : (b : Bool) → value_held (lookup (nat_eq (vid_key x)) (keyed bs)) ≡ value_found bs x
        → value_held (cond b (Some (record { bound = Value y v; before = length bs })) (lookup (nat_eq (vid_key x)) (keyed bs))) ≡ cond b (Some v) (value_found bs x)
    by true h = refl
    by false h = h
holds-value (Tycon y n ∷ bs) x =
    ap (λ b. value_held (cond b (Some (record { bound = Tycon y n; before = length bs })) (lookup (nat_eq (vid_key x)) (keyed bs)))) (vid-tycon x y) ∙ holds-value bs x
holds-value (Structure y s ∷ bs) x =
    ap (λ b. value_held (cond b (Some (record { bound = Structure y s; before = length bs })) (lookup (nat_eq (vid_key x)) (keyed bs)))) (vid-structure x y) ∙ holds-value bs x

pub holds-structure : (bs : List Bound) (x : ℕ) → structure_held (lookup (nat_eq (structure_key x)) (keyed bs)) ≡ structure_found bs x
holds-structure [] x = refl
holds-structure (Value y v ∷ bs) x =
    ap (λ b. structure_held (cond b (Some (record { bound = Value y v; before = length bs })) (lookup (nat_eq (structure_key x)) (keyed bs)))) (structure-vid x y) ∙ holds-structure bs x
holds-structure (Tycon y n ∷ bs) x =
    ap (λ b. structure_held (cond b (Some (record { bound = Tycon y n; before = length bs })) (lookup (nat_eq (structure_key x)) (keyed bs)))) (structure-tycon x y) ∙ holds-structure bs x
holds-structure (Structure y s ∷ bs) x =
    ap (λ b. structure_held (cond b (Some (record { bound = Structure y s; before = length bs })) (lookup (nat_eq (structure_key x)) (keyed bs)))) (structure-keys x y) ∙ by (nat_eq x y) (holds-structure bs x)
  where
    by : (b : Bool) → structure_held (lookup (nat_eq (structure_key x)) (keyed bs)) ≡ structure_found bs x
        → structure_held (cond b (Some (record { bound = Structure y s; before = length bs })) (lookup (nat_eq (structure_key x)) (keyed bs))) ≡ cond b (Some s) (structure_found bs x)
    by true h = refl
    by false h = h

-- a type constructor with what was bound before it
pub record HoldsTycon (bs : List Bound) (x : ℕ) (h : Held) : Type 0 where
  pub tycon : ℕ
  pub count : ℕ
  pub later : List Bound
  pub earlier : List Bound
  pub bound : h.bound ≡ Tycon tycon count
  pub before : h.before ≡ length earlier
  pub is : bs ≡ later ++ earlier
  pub found : tycon_found bs x ≡ Some (take count earlier)

abbrev pub TyconHeld : List Bound → ℕ → Option Held → Type 0
TyconHeld bs x None = tycon_found bs x ≡ None
TyconHeld bs x (Some h) = HoldsTycon bs x h

held-behind : (b : Bound) (bs : List Bound) (x : ℕ) (o : Option Held) → tycon_found (b ∷ bs) x ≡ tycon_found bs x → TyconHeld bs x o → TyconHeld (b ∷ bs) x o
held-behind b bs x None e h = e ∙ h
held-behind b bs x (Some k) e h =
    record { tycon = h.tycon; count = h.count; later = b ∷ h.later; earlier = h.earlier; bound = h.bound; before = h.before; is = ap (λ l. b ∷ l) h.is; found = e ∙ h.found }

pub holds-tycon : (bs : List Bound) (x : ℕ) → TyconHeld bs x (lookup (nat_eq (tycon_key x)) (keyed bs))
holds-tycon [] x = refl
holds-tycon (Value y v ∷ bs) x =
    subst (λ b. TyconHeld (Value y v ∷ bs) x (cond b (Some (record { bound = Value y v; before = length bs })) (lookup (nat_eq (tycon_key x)) (keyed bs)))) (sym (tycon-vid x y))
    (held-behind (Value y v) bs x _ refl (holds-tycon bs x))
holds-tycon (Tycon y n ∷ bs) x =
    subst (λ b. TyconHeld (Tycon y n ∷ bs) x (cond b (Some (record { bound = Tycon y n; before = length bs })) (lookup (nat_eq (tycon_key x)) (keyed bs)))) (sym (tycon-keys x y))
    (by (nat_eq x y) refl (holds-tycon bs x))
  where
    by : (b : Bool) → nat_eq x y ≡ b → TyconHeld bs x (lookup (nat_eq (tycon_key x)) (keyed bs))
        → TyconHeld (Tycon y n ∷ bs) x (cond b (Some (record { bound = Tycon y n; before = length bs })) (lookup (nat_eq (tycon_key x)) (keyed bs)))
    by true p h =
        record { tycon = y; count = n; later = Tycon y n ∷ []; earlier = bs; bound = refl; before = refl; is = refl; found = ap (λ b. cond b (Some (take n bs)) (tycon_found bs x)) p }
    by false p h = held-behind (Tycon y n) bs x _ (ap (λ b. cond b (Some (take n bs)) (tycon_found bs x)) p) h
holds-tycon (Structure y s ∷ bs) x =
    subst (λ b. TyconHeld (Structure y s ∷ bs) x (cond b (Some (record { bound = Structure y s; before = length bs })) (lookup (nat_eq (tycon_key x)) (keyed bs)))) (sym (tycon-structure x y))
    (held-behind (Structure y s) bs x _ refl (holds-tycon bs x))

-- so many constructors, among what was bound before
pub record HasConstructors (bs : List Bound) (x : ℕ) (p : ℕ × ℕ) : Type 0 where
  pub later : List Bound
  pub earlier : List Bound
  pub before : p.1 ≡ length earlier
  pub is : bs ≡ later ++ earlier
  pub found : tycon_found bs x ≡ Some (take p.0 earlier)

abbrev pub CountHeld : List Bound → ℕ → Option (ℕ × ℕ) → Type 0
CountHeld bs x None = tycon_found bs x ≡ None
CountHeld bs x (Some p) = HasConstructors bs x p

pub holds-count : (bs : List Bound) (x : ℕ) → CountHeld bs x (tycon_held (lookup (nat_eq (tycon_key x)) (keyed bs)))
holds-count bs x = by (lookup (nat_eq (tycon_key x)) (keyed bs)) (holds-tycon bs x)
  where
    by : (o : Option Held) → TyconHeld bs x o → CountHeld bs x (tycon_held o)
    by None h = h
    by (Some k) h =
        subst (λ b. CountHeld bs x (elim b [ Value y v ↦ None | Tycon y n ↦ Some (n, k.before) | Structure y s ↦ None ])) (sym h.bound)
        (record { later = h.later; earlier = h.earlier; before = h.before; is = h.is; found = h.found })

-- The same of what the fields of a scope hold.
module _ (items : List Bound) (latest : List (ℕ × Held)) (is : latest ≡ keyed (reverse items)) where
  pub found-value : (x : Vid) (key : ℕ) (o : Option Held) (r : Option Bool) → key ≡ vid_key x → o ≡ lookup (nat_eq key) latest → r ≡ value_held o → r ≡ value_found (reverse items) x
  found-value x key o r k f e = e ∙ ap value_held (f ∙ ap₂ (λ n l. lookup (nat_eq n) l) k is) ∙ holds-value (reverse items) x

  pub found-structure : (x key : ℕ) (o : Option Held) (r : Option Members) → key ≡ structure_key x → o ≡ lookup (nat_eq key) latest → r ≡ structure_held o → r ≡ structure_found (reverse items) x
  found-structure x key o r k f e = e ∙ ap structure_held (f ∙ ap₂ (λ n l. lookup (nat_eq n) l) k is) ∙ holds-structure (reverse items) x

  pub found-count : (x key : ℕ) (o : Option Held) (r : Option (ℕ × ℕ)) → key ≡ tycon_key x → o ≡ lookup (nat_eq key) latest → r ≡ tycon_held o → CountHeld (reverse items) x r
  found-count x key o r k f e =
      subst (CountHeld (reverse items) x) (sym (e ∙ ap tycon_held (f ∙ ap₂ (λ n l. lookup (nat_eq n) l) k is))) (holds-count (reverse items) x)

pub count-is-found : (bs : List Bound) (x : ℕ) (r : Option (ℕ × ℕ)) → CountHeld bs x r → is_some r ≡ is_some (tycon_found bs x)
count-is-found bs x None h = ap is_some (sym h)
count-is-found bs x (Some p) h = ap is_some (sym h.found)

-- what is left

pub length-keyed : (bs : List Bound) → length (keyed bs) ≡ length bs
length-keyed [] = refl
length-keyed (b ∷ bs) = ap suc (length-keyed bs)

pub drop-keyed : (n : ℕ) (bs : List Bound) → drop n (keyed bs) ≡ keyed (drop n bs)
drop-keyed zero bs = refl
drop-keyed (suc n) [] = refl
drop-keyed (suc n) (b ∷ bs) = drop-keyed n bs

module _ {A : Type 0} where
  parted : (k : ℕ) (xs : List A) → reverse xs ≡ reverse (drop k xs) ++ reverse (take k xs)
  parted k xs = ap reverse (sym (take-append-drop k xs)) ∙ reverse-append (take k xs) (drop k xs)

  length-parted : (k : ℕ) (xs : List A) → length (reverse (drop k xs)) ≡ length xs - k
  length-parted k xs = length-reverse (drop k xs) ∙ length-drop k xs

  pub reverse-take : (k : ℕ) (xs : List A) → reverse (take k xs) ≡ drop (length xs - k) (reverse xs)
  reverse-take k xs =
      sym (drop-append_seam (reverse (drop k xs)) (reverse (take k xs))) ∙ ap₂ (λ n l. drop n l) (length-parted k xs) (sym (parted k xs))

  pub reverse-drop : (k : ℕ) (xs : List A) → reverse (drop k xs) ≡ take (length xs - k) (reverse xs)
  reverse-drop k xs =
      sym (take-append_seam (reverse (drop k xs)) (reverse (take k xs))) ∙ ap₂ (λ n l. take n l) (length-parted k xs) (sym (parted k xs))

  taken-at-most : (n : ℕ) (xs : List A) → take (length xs - (length xs - n)) xs ≡ take n xs
  taken-at-most n xs = by (cases_lt (length xs) n)
    where
      by : (length xs < n) ⊎ (n ≤ length xs) → take (length xs - (length xs - n)) xs ≡ take n xs
      by (inl h) =
          let e : length xs - (length xs - n) ≡ length xs = omega arith in
          ap (λ k. take k xs) e ∙ take_all (length xs) xs (omega arith) ∙ sym (take_all n xs (omega arith))
      by (inr h) = let e : length xs - (length xs - n) ≡ n = omega arith in ap (λ k. take k xs) e

  -- the last so many of the first so many
  pub last-of-first : (n : ℕ) (xs ys : List A) → reverse (take (length xs - (length xs - n)) (drop (length xs - n) (reverse xs ++ ys))) ≡ take n xs
  last-of-first n xs ys =
      let r = length-reverse xs in
      let p : drop (length xs - n) (reverse xs ++ ys) ≡ drop (length xs - n) (reverse xs) ++ ys = drop-append-le (length xs - n) (reverse xs) ys (omega (arith, r)) in
      let q : length (drop (length xs - n) (reverse xs)) ≡ length xs - (length xs - n) = length-drop (length xs - n) (reverse xs) ∙ ap (λ m. m - (length xs - n)) r in
      let s : take (length xs - (length xs - n)) (drop (length xs - n) (reverse xs) ++ ys) ≡ drop (length xs - n) (reverse xs) =
      ap (λ m. take m (drop (length xs - n) (reverse xs) ++ ys)) (sym q) ∙ take-append_seam (drop (length xs - n) (reverse xs)) ys in
      ap (λ l. reverse (take (length xs - (length xs - n)) l)) p ∙ ap reverse s ∙ reverse-drop (length xs - n) (reverse xs)
      ∙ ap₂ (λ m l. take (m - (length xs - n)) l) r (reverse-reverse xs) ∙ taken-at-most n xs

-- what `leave`, `since` and `constructors` give

pub left-keyed : (items items' : List Bound) (latest latest' : List (ℕ × Held)) (n : ℕ) → latest ≡ keyed (reverse items) → items' ≡ take n items
    → latest' ≡ drop (length latest - n) latest → latest' ≡ keyed (reverse items')
left-keyed items items' latest latest' n is p q =
    q ∙ ap (λ l. drop (length l - n) l) is ∙ ap (λ k. drop (k - n) (keyed (reverse items))) (length-keyed (reverse items) ∙ length-reverse items)
    ∙ drop-keyed (length items - n) (reverse items) ∙ ap keyed (sym (ap reverse p ∙ reverse-take n items))

pub left-view : (items items' old : List Bound) (n : ℕ) → reverse items ≡ old → items' ≡ take n items → reverse items' ≡ drop (length old - n) old
left-view items items' old n v p =
    ap reverse p ∙ reverse-take n items ∙ ap (λ k. drop (k - n) (reverse items)) (sym (length-reverse items)) ∙ ap (λ l. drop (length l - n) l) v

pub since-view : (items now since old : List Bound) (n m len : ℕ) → reverse items ≡ old → now ≡ items → len ≡ length items → m ≡ min len n → since ≡ take (length now - m) (drop m now)
    → reverse since ≡ take (length old - n) old
since-view items now since old n m len v w k e p =
    let a : since ≡ drop m items =
    p ∙ ap (λ l. take (length l - m) (drop m l)) w ∙ ap (λ j. take j (drop m items)) (sym (length-drop m items)) ∙ take_all (length (drop m items)) (drop m items) (omega arith) in
    let b : length items - m ≡ length items - n = omega (arith, k, e) in
    ap reverse a ∙ reverse-drop m items ∙ ap (λ j. take j (reverse items)) (b ∙ ap (λ j. j - n) (sym (length-reverse items))) ∙ ap (λ l. take (length l - n) l) v

before-within : (items : List Bound) (x : ℕ) (p : ℕ × ℕ) → HasConstructors (reverse items) x p → p.1 ≤ length items
before-within items x p h =
    let l = sym (length-reverse items) ∙ ap length h.is ∙ length-append h.later h.earlier in
    let e = h.before in omega (arith, l, e)

pub constructors-found : (items now cs old : List Bound) (x n b first last len : ℕ) (r : Option (ℕ × ℕ)) → CountHeld (reverse items) x r → r ≡ Some (n, b) → reverse items ≡ old → now ≡ items
    → len ≡ length items → last ≡ min len b → first ≡ last - n → cs ≡ take (last - first) (drop first now) → Some (reverse cs) ≡ tycon_found old x
constructors-found items now cs old x n b first last len r hr q v w k l f p =
    let h : HasConstructors (reverse items) x (n, b) = subst (CountHeld (reverse items) x) q hr in
    let t = before-within items x (n, b) h in
    let s : now ≡ reverse h.earlier ++ reverse h.later = w ∙ sym (reverse-reverse items) ∙ ap reverse h.is ∙ reverse-append h.later h.earlier in
    let m : last ≡ length h.earlier = (let e = h.before in omega (arith, k, l, e, t)) in
    let g : first ≡ length h.earlier - n = f ∙ ap (λ z. z - n) m in
    let e : cs ≡ take (length h.earlier - (length h.earlier - n)) (drop (length h.earlier - n) (reverse h.earlier ++ reverse h.later)) =
    p ∙ ap₂ (λ j i. take (j - i) (drop i now)) m g ∙ ap (λ z. take (length h.earlier - (length h.earlier - n)) (drop (length h.earlier - n) z)) s in
    ap Some (ap reverse e ∙ last-of-first n h.earlier (reverse h.later)) ∙ sym h.found ∙ ap (λ bs. tycon_found bs x) v

pub none-found : (bs old : List Bound) (x : ℕ) (r : Option (ℕ × ℕ)) → CountHeld bs x r → r ≡ None → bs ≡ old → None ≡ tycon_found old x
none-found bs old x r h q v = sym (subst (CountHeld bs x) q h) ∙ ap (λ bs. tycon_found bs x) v
