-- Scopes and what is held of them stay in step.
use Rattle.std.proofs.Common.{◌≡◌, ◌<◌, ◌-◌, ℕ, zero, suc, Bool, true, false, ◌||◌, List, [], ◌∷◌, ◌++◌, map, length, reverse, take, drop, slice_get, slice_set, get_or, Option, Some, None, Result, Ok, Err, nat_eq, if◌then◌else◌, refl, sym, ap, ap₂, subst, ◌∙◌, arith}
use Rattle.std.specs.Prelude.{OnOk, slice_index_or}
use Rattle.std.specs.List.{list_any}
use Rattle.std.specs.Map.{lookup}
use Rattle.std.proofs.lemmas.Bool.{eq-eqb, eqb-true}
use Rattle.std.proofs.lemmas.List.{reverse-append, length-append, set-append_left}
use Rattle.std.proofs.Math.Seq.{take-append_seam, drop-append_seam, set-append_seam}
use Rattle.mono_sets.specs.Kept.{with_number}
use Rattle.needed_scopes.specs.Scopes.{OpenScope, of_variable, of_binding, with_other, noted_at, with_variable, IsBinding, needed_first}
use Rattle.needed_scopes.specs.Reads.{scope_of, read, entries, Holds, holds_none, holds_variable, holds_binding}
use Rattle.needed_scopes.specs.declared.scopes.Scope.{Scope}

-- lists

turned : {A : Type 0} (xs : List A) (x : A) → reverse (xs ++ x ∷ []) ≡ x ∷ reverse xs
turned xs x = reverse-append xs (x ∷ [])

length-end : {A : Type 0} (l : List A) (x : A) → length (l ++ x ∷ []) ≡ suc (length l)
length-end [] x = refl
length-end (y ∷ l) x = ap suc (length-end l x)

-- the last one of a list, and those before it
ends : {A : Type 0} (xs ys : List A) (x y : A) → xs ++ x ∷ [] ≡ ys ++ y ∷ [] → (xs ≡ ys) × (x ≡ y)
ends [] [] x y e = (refl, cc)
ends [] (b ∷ ys) x y e = absurd (let h : suc 0 ≡ suc (length (ys ++ y ∷ [])) = ap length e in let k = length-end ys y in omega (arith, h, k))
ends (a ∷ xs) [] x y e = absurd (let h : suc (length (xs ++ x ∷ [])) ≡ suc 0 = ap length e in let k = length-end xs x in omega (arith, h, k))
ends (a ∷ xs) (b ∷ ys) x y e =
    let p : a ≡ b = cc in
    let q : xs ++ x ∷ [] ≡ ys ++ y ∷ [] = cc in
    let r = ends xs ys x y q in
    (ap₂ (λ z zs. z ∷ zs) p r.0, r.1)

got-front : {A : Type 0} (l : List A) (x : A) (i : ℕ) → i < length l → slice_get (l ++ x ∷ []) i ≡ slice_get l i
got-front [] x i lt = absurd (omega arith)
got-front (y ∷ l) x zero lt = refl
got-front (y ∷ l) x (suc i) lt = got-front l x i (omega arith)

got-last : {A : Type 0} (l : List A) (x y : A) → slice_get (l ++ x ∷ []) (length l) ≡ Some y → x ≡ y
got-last [] x y e = cc
got-last (z ∷ l) x y e = got-last l x y e

at-front : (ls : List (List ℕ)) (x : List ℕ) (i : ℕ) → i < length ls → get_or (ls ++ x ∷ []) i [] ≡ get_or ls i []
at-front [] x i lt = absurd (omega arith)
at-front (l ∷ ls) x zero lt = refl
at-front (l ∷ ls) x (suc i) lt = at-front ls x i (omega arith)

at-last : (ls : List (List ℕ)) (x : List ℕ) → get_or (ls ++ x ∷ []) (length ls) [] ≡ x
at-last [] x = refl
at-last (l ∷ ls) x = at-last ls x

-- what stands in front of a list
dropped : {A : Type 0} (front l : List A) → drop (length (front ++ l) - length l) (front ++ l) ≡ l
dropped front l = ap (λ n. drop n (front ++ l)) (let k = length-append front l in let h : length (front ++ l) - length l ≡ length front = omega (arith, k) in h) ∙ drop-append_seam front l

taken : {A : Type 0} (front l : List A) → take (length (front ++ l) - length l) (front ++ l) ≡ front
taken front l = ap (λ n. take n (front ++ l)) (let k = length-append front l in let h : length (front ++ l) - length l ≡ length front = omega (arith, k) in h) ∙ take-append_seam front l

keys-of : (n : ℕ) (vs : List ℕ) → map (λ e. e.0) (entries n vs) ≡ vs
keys-of n [] = refl
keys-of n (x ∷ vs) = ap (λ l. x ∷ l) (keys-of n vs)

found-among : (n x : ℕ) (vs : List ℕ) (vars : List (ℕ × ℕ)) → lookup (nat_eq x) (entries n vs ++ vars) ≡ (if list_any (nat_eq x) vs then Some n else lookup (nat_eq x) vars)
found-among n x [] vars = refl
found-among n x (y ∷ vs) vars = go (nat_eq x y) (found-among n x vs vars)
  where
    go : (b : Bool) → lookup (nat_eq x) (entries n vs ++ vars) ≡ (if list_any (nat_eq x) vs then Some n else lookup (nat_eq x) vars)
        → (if b then Some n else lookup (nat_eq x) (entries n vs ++ vars)) ≡ (if b || list_any (nat_eq x) vs then Some n else lookup (nat_eq x) vars)
    go true h = refl
    go false h = h

-- what is held is what is read

pub read-is : {vars : List (ℕ × ℕ)} {ss : List Scope} {ls : List (List ℕ)} {l : List OpenScope} → Holds vars ss ls l → read vars (reverse ss) (reverse ls) ≡ l
read-is holds_none = refl
read-is (holds_variable {x = x} {vars = vars} {now = now} {ss = ss} {more = more} {ls = ls} {lists = lists} {l = l} h e f g) =
    ap₂ (λ s k. read now s k) (ap reverse f ∙ turned ss (record { bound = length vars; unit = None })) (ap reverse g ∙ turned ls [])
    ∙ ap (λ n. read n (record { bound = length vars; unit = None } ∷ reverse ss) ([] ∷ reverse ls)) e
    ∙ ap₂ (λ a r. scope_of None (map (λ e. e.0) a) [] ∷ r)
    (taken ((x, length ss) ∷ []) vars)
    (ap (λ v. read v (reverse ss) (reverse ls)) (dropped ((x, length ss) ∷ []) vars) ∙ read-is h)
read-is (holds_binding {vs = vs} {u = u} {ks = ks} {vars = vars} {now = now} {ss = ss} {more = more} {ls = ls} {lists = lists} {l = l} h e f g) =
    ap₂ (λ s k. read now s k) (ap reverse f ∙ turned ss (record { bound = length vars; unit = Some u })) (ap reverse g ∙ turned ls ks)
    ∙ ap (λ n. read n (record { bound = length vars; unit = Some u } ∷ reverse ss) (ks ∷ reverse ls)) e
    ∙ ap₂ (λ a r. of_binding a u ks ∷ r)
    (ap (map (λ e. e.0)) (taken (entries (length ss) vs) vars) ∙ keys-of (length ss) vs)
    (ap (λ v. read v (reverse ss) (reverse ls)) (dropped (entries (length ss) vs) vars) ∙ read-is h)

-- what is read and what is held of it
pub record Now (vars : List (ℕ × ℕ)) (ss : List Scope) (ls : List (List ℕ)) (l : List OpenScope) : Type 0 where
  pub is : read vars (reverse ss) (reverse ls) ≡ l
  pub holds : Holds vars ss ls (read vars (reverse ss) (reverse ls))

pub now : {vars : List (ℕ × ℕ)} {ss : List Scope} {ls : List (List ℕ)} {l : List OpenScope} → Holds vars ss ls l → Now vars ss ls l
now {vars = vars} {ss = ss} {ls = ls} h = record { is = read-is h; holds = subst (Holds vars ss ls) (sym (read-is h)) h }

pub none-holds : (vars : List (ℕ × ℕ)) (ss : List Scope) (ls : List (List ℕ)) → vars ≡ [] → ss ≡ [] → ls ≡ [] → Holds vars ss ls (read vars (reverse ss) (reverse ls))
none-holds vars ss ls p q r = (now (subst (λ v. Holds v ss ls []) (sym p) (subst (λ s. Holds [] s ls []) (sym q) (subst (λ l. Holds [] [] l []) (sym r) holds_none)))).holds

-- scopes are opened

pub opens-variable : (x n b : ℕ) (vars new : List (ℕ × ℕ)) (ss more : List Scope) (s : Scope) (ls lists : List (List ℕ)) (l : List OpenScope) → Holds vars ss ls l
    → n ≡ length ss → b ≡ length vars → new ≡ (x, n) ∷ vars → more ≡ ss ++ s ∷ [] → s ≡ record { bound = b; unit = None } → lists ≡ ls ++ [] ∷ []
    → Now new more lists (of_variable x ∷ l)
opens-variable x n b vars new ss more s ls lists l h p q e f t g =
    now (holds_variable h (e ∙ ap (λ m. (x, m) ∷ vars) p) (f ∙ ap (λ r. ss ++ r ∷ []) (t ∙ ap (λ m. record { bound = m; unit = None }) q)) g)

pub opens-binding : (u b : ℕ) (vars : List (ℕ × ℕ)) (ss more : List Scope) (s : Scope) (ls lists : List (List ℕ)) (l : List OpenScope) → Holds vars ss ls l
    → b ≡ length vars → more ≡ ss ++ s ∷ [] → s ≡ record { bound = b; unit = Some u } → lists ≡ ls ++ [] ∷ []
    → Now vars more lists (of_binding [] u [] ∷ l)
opens-binding u b vars ss more s ls lists l h q f t g =
    now (holds_binding {vs = []} h refl (f ∙ ap (λ r. ss ++ r ∷ []) (t ∙ ap (λ m. record { bound = m; unit = Some u }) q)) g)

pub has-scope : {vars : List (ℕ × ℕ)} {ss : List Scope} {ls : List (List ℕ)} {l : List OpenScope} → Holds vars ss ls l → IsBinding l → 0 < length ss
has-scope holds_none b = absurd b
has-scope (holds_variable h e f g) b = absurd b
has-scope (holds_binding {u = u} {vars = vars} {ss = ss} h e f g) b = let k = ap length f ∙ length-end ss (record { bound = length vars; unit = Some u }) in omega (arith, k)

pub adds : (x n : ℕ) (new : List (ℕ × ℕ)) {vars : List (ℕ × ℕ)} {ss : List Scope} {ls : List (List ℕ)} {l : List OpenScope} → Holds vars ss ls l → IsBinding l
    → n ≡ length ss - 1 → new ≡ (x, n) ∷ vars → Now new ss ls (with_variable x l)
adds x n new holds_none b p e = absurd b
adds x n new (holds_variable h e f g) b p q = absurd b
adds x n new (holds_binding {vs = vs} {u = u} {vars = vars} {ss = ss} h e f g) b p q =
    let k = ap length f ∙ length-end ss (record { bound = length vars; unit = Some u }) in
    let m : n ≡ length ss = omega (arith, k, p) in
    now (holds_binding {vs = x ∷ vs} h (q ∙ ap₂ (λ i r. (x, i) ∷ r) m e) f g)

-- a variable's scope

same-long : {vars : List (ℕ × ℕ)} {ss : List Scope} {ls : List (List ℕ)} {l : List OpenScope} → Holds vars ss ls l → length ls ≡ length ss
same-long holds_none = refl
same-long (holds_variable {vars = vars} {ss = ss} {ls = ls} h e f g) =
    ap length g ∙ length-end ls [] ∙ ap suc (same-long h) ∙ sym (ap length f ∙ length-end ss (record { bound = length vars; unit = None }))
same-long (holds_binding {u = u} {ks = ks} {vars = vars} {ss = ss} {ls = ls} h e f g) =
    ap length g ∙ length-end ls ks ∙ ap suc (same-long h) ∙ sym (ap length f ∙ length-end ss (record { bound = length vars; unit = Some u }))

pub scope-within : {vars : List (ℕ × ℕ)} {ss : List Scope} {ls : List (List ℕ)} {l : List OpenScope} → Holds vars ss ls l
    → (x at : ℕ) → lookup (nat_eq x) vars ≡ Some at → at < length ss
scope-within holds_none x at e = absurd (cc)
scope-within (holds_variable {x = y} {vars = vars} {ss = ss} {more = more} h p f g) x at e =
    go (nat_eq x y) (scope-within h x at) (sym (ap (lookup (nat_eq x)) p) ∙ e)
  where
    k : length more ≡ suc (length ss)
    k = ap length f ∙ length-end ss (record { bound = length vars; unit = None })

    go : (b : Bool) → (lookup (nat_eq x) vars ≡ Some at → at < length ss) → (if b then Some (length ss) else lookup (nat_eq x) vars) ≡ Some at → at < length more
    go true below q = let r : length ss ≡ at = cc in omega (arith, k, r)
    go false below q = let r = below q in omega (arith, k, r)
scope-within (holds_binding {vs = vs} {u = u} {vars = vars} {ss = ss} {more = more} h p f g) x at e =
    go (list_any (nat_eq x) vs) (scope-within h x at) (sym (ap (lookup (nat_eq x)) p ∙ found-among (length ss) x vs vars) ∙ e)
  where
    k : length more ≡ suc (length ss)
    k = ap length f ∙ length-end ss (record { bound = length vars; unit = Some u })

    go : (b : Bool) → (lookup (nat_eq x) vars ≡ Some at → at < length ss) → (if b then Some (length ss) else lookup (nat_eq x) vars) ≡ Some at → at < length more
    go true below q = let r : length ss ≡ at = cc in omega (arith, k, r)
    go false below q = let r = below q in omega (arith, k, r)

pub lists-within : {vars : List (ℕ × ℕ)} {ss : List Scope} {ls : List (List ℕ)} {l : List OpenScope} → Holds vars ss ls l
    → (x at : ℕ) → lookup (nat_eq x) vars ≡ Some at → at < length ls
lists-within h x at e = let k = same-long h in let r = scope-within h x at e in omega (arith, k, r)

-- the lists of the scope at this place, which has a first copy, with one more
abbrev pub told : List (List ℕ) → ℕ → ℕ → Option ℕ → List (List ℕ)
told ls at k None = ls
told ls at k (Some u) = if nat_eq u k then ls else slice_set ls at (with_number k (get_or ls at []))

told-front : (ls : List (List ℕ)) (x : List ℕ) (at k : ℕ) (o : Option ℕ) → at < length ls → told (ls ++ x ∷ []) at k o ≡ told ls at k o ++ x ∷ []
told-front ls x at k None lt = refl
told-front ls x at k (Some u) lt = go (nat_eq u k)
  where
    go : (b : Bool) → (if b then ls ++ x ∷ [] else slice_set (ls ++ x ∷ []) at (with_number k (get_or (ls ++ x ∷ []) at [])))
        ≡ (if b then ls else slice_set ls at (with_number k (get_or ls at []))) ++ x ∷ []
    go true = refl
    go false = ap (λ v. slice_set (ls ++ x ∷ []) at (with_number k v)) (at-front ls x at lt) ∙ set-append_left ls (x ∷ []) at (with_number k (get_or ls at [])) lt

told-last : (ls : List (List ℕ)) (ks : List ℕ) (k u : ℕ) → told (ls ++ ks ∷ []) (length ls) k (Some u) ≡ ls ++ with_other u k ks ∷ []
told-last ls ks k u = go (nat_eq u k)
  where
    go : (b : Bool) → (if b then ls ++ ks ∷ [] else slice_set (ls ++ ks ∷ []) (length ls) (with_number k (get_or (ls ++ ks ∷ []) (length ls) [])))
        ≡ ls ++ (if b then ks else with_number k ks) ∷ []
    go true = refl
    go false = ap (λ v. slice_set (ls ++ ks ∷ []) (length ls) (with_number k v)) (at-last ls ks) ∙ set-append_seam ls ks [] (with_number k ks)

tells : {vars : List (ℕ × ℕ)} {ss : List Scope} {ls : List (List ℕ)} {l : List OpenScope} → Holds vars ss ls l
    → (x k at : ℕ) (s : Scope) → lookup (nat_eq x) vars ≡ Some at → slice_get ss at ≡ Some s → Holds vars ss (told ls at k s.unit) (noted_at x k l)
tells holds_none x k at s e q = absurd (cc)
tells (holds_variable {x = y} {vars = vars} {now = new} {ss = ss} {more = more} {ls = ls} {lists = lists} {l = l} h p f g) x k at s e q =
    go (nat_eq x y) (tells h x k at s) (sym (ap (lookup (nat_eq x)) p) ∙ e)
  where
    got : slice_get (ss ++ record { bound = length vars; unit = None } ∷ []) at ≡ Some s
    got = sym (ap (λ v. slice_get v at) f) ∙ q

    go : (b : Bool) → (lookup (nat_eq x) vars ≡ Some at → slice_get ss at ≡ Some s → Holds vars ss (told ls at k s.unit) (noted_at x k l))
        → (if b then Some (length ss) else lookup (nat_eq x) vars) ≡ Some at
        → Holds new more (told lists at k s.unit) (if b then of_variable y ∷ l else of_variable y ∷ noted_at x k l)
    go true further r =
        let at-is : length ss ≡ at = cc in
        let s-is = got-last ss (record { bound = length vars; unit = None }) s (subst (λ i. slice_get (ss ++ record { bound = length vars; unit = None } ∷ []) i ≡ Some s) (sym at-is) got) in
        holds_variable h p f (ap (told lists at k) (sym (ap (λ z. z.unit) s-is)) ∙ g)
    go false further r =
        let lt = scope-within h x at r in
        let m = same-long h in
        let below : at < length ls = omega (arith, lt, m) in
        holds_variable (further r (sym (got-front ss (record { bound = length vars; unit = None }) at lt) ∙ got)) p f
        (ap (λ v. told v at k s.unit) g ∙ told-front ls [] at k s.unit below)
tells (holds_binding {vs = vs} {u = u} {ks = ks} {vars = vars} {now = new} {ss = ss} {more = more} {ls = ls} {lists = lists} {l = l} h p f g) x k at s e q =
    go (list_any (nat_eq x) vs) (tells h x k at s) (sym (ap (lookup (nat_eq x)) p ∙ found-among (length ss) x vs vars) ∙ e)
  where
    got : slice_get (ss ++ record { bound = length vars; unit = Some u } ∷ []) at ≡ Some s
    got = sym (ap (λ v. slice_get v at) f) ∙ q

    go : (b : Bool) → (lookup (nat_eq x) vars ≡ Some at → slice_get ss at ≡ Some s → Holds vars ss (told ls at k s.unit) (noted_at x k l))
        → (if b then Some (length ss) else lookup (nat_eq x) vars) ≡ Some at
        → Holds new more (told lists at k s.unit) (if b then of_binding vs u (with_other u k ks) ∷ l else of_binding vs u ks ∷ noted_at x k l)
    go true further r =
        let at-is : length ss ≡ at = cc in
        let s-is = got-last ss (record { bound = length vars; unit = Some u }) s (subst (λ i. slice_get (ss ++ record { bound = length vars; unit = Some u } ∷ []) i ≡ Some s) (sym at-is) got) in
        let m = same-long h in
        let place : at ≡ length ls = omega (arith, at-is, m) in
        holds_binding h p f (ap₂ (λ v i. told v i k s.unit) g place ∙ ap (told (ls ++ ks ∷ []) (length ls) k) (sym (ap (λ z. z.unit) s-is)) ∙ told-last ls ks k u)
    go false further r =
        let lt = scope-within h x at r in
        let m = same-long h in
        let below : at < length ls = omega (arith, lt, m) in
        holds_binding (further r (sym (got-front ss (record { bound = length vars; unit = Some u }) at lt) ∙ got)) p f
        (ap (λ v. told v at k s.unit) g ∙ told-front ls ks at k s.unit below)

none-noted : {vars : List (ℕ × ℕ)} {ss : List Scope} {ls : List (List ℕ)} {l : List OpenScope} → Holds vars ss ls l → (x k : ℕ) → lookup (nat_eq x) vars ≡ None → noted_at x k l ≡ l
none-noted holds_none x k e = refl
none-noted (holds_variable {x = y} {vars = vars} {ss = ss} {l = l} h p f g) x k e = go (nat_eq x y) (none-noted h x k) (sym (ap (lookup (nat_eq x)) p) ∙ e)
  where
    go : (b : Bool) → (lookup (nat_eq x) vars ≡ None → noted_at x k l ≡ l) → (if b then Some (length ss) else lookup (nat_eq x) vars) ≡ None → (if b then of_variable y ∷ l else of_variable y ∷ noted_at x k l) ≡ of_variable y ∷ l
    go true further r = absurd (cc)
    go false further r = ap (λ m. of_variable y ∷ m) (further r)
none-noted (holds_binding {vs = vs} {u = u} {ks = ks} {vars = vars} {ss = ss} {l = l} h p f g) x k e =
    go (list_any (nat_eq x) vs) (none-noted h x k) (sym (ap (lookup (nat_eq x)) p ∙ found-among (length ss) x vs vars) ∙ e)
  where
    go : (b : Bool) → (lookup (nat_eq x) vars ≡ None → noted_at x k l ≡ l) → (if b then Some (length ss) else lookup (nat_eq x) vars) ≡ None
        → (if b then of_binding vs u (with_other u k ks) ∷ l else of_binding vs u ks ∷ noted_at x k l) ≡ of_binding vs u ks ∷ l
    go true further r = absurd (cc)
    go false further r = ap (λ m. of_binding vs u ks ∷ m) (further r)

pub notes-none : {vars : List (ℕ × ℕ)} {ss : List Scope} {ls : List (List ℕ)} {l : List OpenScope} → Holds vars ss ls l → (x k : ℕ) (o : Option ℕ)
    → o ≡ lookup (nat_eq x) vars → o ≡ None → Now vars ss ls (noted_at x k l)
notes-none {vars = vars} {ss = ss} {ls = ls} h x k o e n = now (subst (Holds vars ss ls) (sym (none-noted h x k (sym e ∙ n))) h)

-- the scope is told, if it has a first copy, at another list
pub notes : {vars : List (ℕ × ℕ)} {ss : List Scope} {ls : List (List ℕ)} {l : List OpenScope} → Holds vars ss ls l → (x k at : ℕ) (s : Scope) (o : Option ℕ) (lists : List (List ℕ))
    → o ≡ lookup (nat_eq x) vars → o ≡ Some at → slice_get ss at ≡ Some s → lists ≡ told ls at k s.unit → Now vars ss lists (noted_at x k l)
notes {vars = vars} {ss = ss} {ls = ls} {l = l} h x k at s o lists e n q t = now (subst (λ z. Holds vars ss z (noted_at x k l)) (sym t) (tells h x k at s (sym e ∙ n) q))

-- the innermost scope is left

pub record Left (vars : List (ℕ × ℕ)) (ss : List Scope) (ls : List (List ℕ)) (ks : List ℕ) (l : List OpenScope) : Type 0 where
  pub now : Now vars ss ls (drop 1 l)
  pub lists : ks ≡ needed_first l

pub leaves : {vars : List (ℕ × ℕ)} {more : List Scope} {lists : List (List ℕ)} {l : List OpenScope} → Holds vars more lists l
    → (ss : List Scope) (s : Scope) (ls : List (List ℕ)) (ks : List ℕ) (new : List (ℕ × ℕ)) → more ≡ ss ++ s ∷ [] → lists ≡ ls ++ ks ∷ []
    → new ≡ drop (length vars - s.bound) vars → Left new ss ls ks l
leaves holds_none ss s ls ks new a b c = absurd (let k : 0 ≡ length (ss ++ s ∷ []) = ap length a in let m = length-end ss s in omega (arith, k, m))
leaves (holds_variable {x = x} {vars = vars} {now = old} {ss = ts} {ls = ms} {l = l} h e f g) ss s ls ks new a b c =
    let p = ends ss ts s (record { bound = length vars; unit = None }) (sym a ∙ f) in
    let q = ends ls ms ks [] (sym b ∙ g) in
    let v : new ≡ vars = c ∙ ap₂ (λ o z. drop (length o - z.bound) o) e p.1 ∙ dropped ((x, length ts) ∷ []) vars in
    record { now = now (subst (λ z. Holds z ss ls l) (sym v) (subst (λ z. Holds vars z ls l) (sym p.0) (subst (λ z. Holds vars ts z l) (sym q.0) h))); lists = q.1 }
leaves (holds_binding {vs = vs} {u = u} {ks = js} {vars = vars} {now = old} {ss = ts} {ls = ms} {l = l} h e f g) ss s ls ks new a b c =
    let p = ends ss ts s (record { bound = length vars; unit = Some u }) (sym a ∙ f) in
    let q = ends ls ms ks js (sym b ∙ g) in
    let v : new ≡ vars = c ∙ ap₂ (λ o z. drop (length o - z.bound) o) e p.1 ∙ dropped (entries (length ts) vs) vars in
    record { now = now (subst (λ z. Holds z ss ls l) (sym v) (subst (λ z. Holds vars z ls l) (sym p.0) (subst (λ z. Holds vars ts z l) (sym q.0) h))); lists = q.1 }

pub lists-there : {vars : List (ℕ × ℕ)} {more : List Scope} {ls : List (List ℕ)} {l : List OpenScope} → Holds vars more ls l → (ss : List Scope) (s : Scope) → more ≡ ss ++ s ∷ [] → 0 < length ls
lists-there h ss s e = let k = ap length e ∙ length-end ss s in let m = same-long h in omega (arith, k, m)

-- as the code has them

pub on-both : {T E P Q R : Type 0} (r : Result T E) → (P → Q → R) → OnOk r P → OnOk r Q → OnOk r R
on-both (Ok x) f p q = f p q
on-both (Err y) f p q = tt

pub got-index : {A : Type 0} (l : List A) (i : ℕ) (s : A) → s ≡ slice_index_or l i s → i < length l → slice_get l i ≡ Some s
got-index [] i s e lt = absurd (omega arith)
got-index (y ∷ l) zero s e lt = ap Some (sym e)
got-index (y ∷ l) (suc i) s e lt = got-index l i s e (omega arith)

pub told-none : (ls : List (List ℕ)) (at k : ℕ) (o : Option ℕ) → o ≡ None → ls ≡ told ls at k o
told-none ls at k o e = ap (told ls at k) (sym e)

pub told-same : (ls : List (List ℕ)) (at k u : ℕ) (o : Option ℕ) → o ≡ Some u → u ≡ k → ls ≡ told ls at k o
told-same ls at k u o e p = sym (ap (λ b. if b then ls else slice_set ls at (with_number k (get_or ls at []))) (eq-eqb u k p)) ∙ ap (told ls at k) (sym e)

pub told-other : (ls : List (List ℕ)) (at k u : ℕ) (o : Option ℕ) → o ≡ Some u → (u ≡ k → ⊥) → slice_set ls at (with_number k (get_or ls at [])) ≡ told ls at k o
told-other ls at k u o e n = go (nat_eq u k) refl ∙ ap (told ls at k) (sym e)
  where
    go : (b : Bool) → nat_eq u k ≡ b → slice_set ls at (with_number k (get_or ls at [])) ≡ (if b then ls else slice_set ls at (with_number k (get_or ls at [])))
    go true p = absurd (n (eqb-true u k p))
    go false p = refl
