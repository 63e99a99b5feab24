-- Types over the parameters in scope.
use Rattle.std.proofs.Common.{◌≡◌, ℕ, Bool, true, false, not, ◌||◌, List, [], ◌∷◌, ◌++◌, map, length, Option, Some, None, nat_eq, nat_lt, if◌then◌else◌, refl, sym, ap, subst, ◌∙◌}
use Rattle.std.specs.Prelude.{⊤}
use Rattle.std.proofs.lemmas.Bool.{eqb-true, eq-eqb}
use Rattle.mlc_prims.specs.LitOf.{Literal}
use Rattle.ty_core.specs.Types.{Typ, name, var, con, Typs, none, more, typs_of, admits, all_admit, attribute, allowed}
use Rattle.ty_core.specs.Marks.{Allows}
use Rattle.ty_core.specs.Statics.{replace, replace_all}
use Rattle.ty_core.specs.declared.mark.Mark.{Mark}
use Rattle.ty_core.specs.declared.mark.Mark.TheVariants.{Any, Equality, Class}
use Rattle.ty_core.specs.declared.name.Equality as Eq
use Rattle.ty_core.specs.declared.name.Equality.TheVariants.{Always, ByArguments, Never}
use Rattle.ty_core.specs.declared.scheme.Quantified.{Quantified}
use Rattle.ir_poly.specs.Types.{row_type, unit_type, in_scope, is_equality, is_declarable, admits_in, over, all_over, are_new, changed, AreAllowed, Constructor, numbered, tuple_type}
use Rattle.ir_poly.specs.TestsChecked.{HasLiteral, has_int, has_word, has_char, has_string, value_type, alone_type, HasConstructor}
use Rattle.ir_poly.proofs.ReplaceLemmas.{left-true, right-true, both-true, replace-agree, replace-replace, typs_of-read, argument-read, more-scope}
use Rattle.match_compile.specs.Compile.{standing, scoped, all_scoped, option_scoped, opened, unclassed, own_types}
use Rattle.match_compile.proofs.Numbers.{different}

mutual
  replace-ext : (f g : ℕ → Typ) → ((v : ℕ) → f v ≡ g v) → (t : Typ) → replace f t ≡ replace g t
  replace-ext f g h (var v) = h v
  replace-ext f g h (con a ts) = ap (con a) (replace_all-ext f g h ts)

  replace_all-ext : (f g : ℕ → Typ) → ((v : ℕ) → f v ≡ g v) → (ts : Typs) → replace_all f ts ≡ replace_all g ts
  replace_all-ext f g h none = refl
  replace_all-ext f g h (more t ts) = rw (replace-ext f g h t, replace_all-ext f g h ts) refl

-- what is written is over the parameters in scope

standing-over : (D : List Quantified) (v : ℕ) → over D (standing D v) ≡ true
standing-over D v = go (in_scope D v) refl
  where
    go : (b : Bool) → in_scope D v ≡ b → over D (if b then var v else unit_type) ≡ true
    go true e = e
    go false e = refl

mutual
  pub scoped-over : (D : List Quantified) (t : Typ) → over D (scoped D t) ≡ true
  scoped-over D (var v) = standing-over D v
  scoped-over D (con a ts) = all-scoped-over D ts

  all-scoped-over : (D : List Quantified) (ts : Typs) → all_over D (replace_all (standing D) ts) ≡ true
  all-scoped-over D none = refl
  all-scoped-over D (more t ts) = both-true (scoped-over D t) (all-scoped-over D ts)

pub scoped-all-over : (D : List Quantified) (ts : List Typ) → all_over D (typs_of (all_scoped D ts)) ≡ true
scoped-all-over D [] = refl
scoped-all-over D (t ∷ ts) = both-true (scoped-over D t) (scoped-all-over D ts)

-- The parameters in scope of the tests are some of those of the source; where those of the source admit equality, so do they.
pub record Within (D S : List Quantified) : Type 0 where
  pub inside : (v : ℕ) → in_scope D v ≡ true → in_scope S v ≡ true
  pub fits : (v : ℕ) → in_scope D v ≡ true → admits_in S v ≡ true → admits_in D v ≡ true

pub within-none : Within [] []
within-none = record { inside = λ v e. e; fits = λ v e h. h }

or-mono : (b : Bool) {c d : Bool} → (c ≡ true → d ≡ true) → (b || c) ≡ true → (b || d) ≡ true
or-mono true h e = refl
or-mono false h e = h e

inside-more : (qs D S : List Quantified) → ((v : ℕ) → in_scope D v ≡ true → in_scope S v ≡ true) → (v : ℕ) → in_scope (unclassed qs ++ D) v ≡ true → in_scope (qs ++ S) v ≡ true
inside-more [] D S h v e = h v e
inside-more (q ∷ qs) D S h v e = or-mono (nat_eq q.variable v) (inside-more qs D S h v) e

opened-equality : (a : Mark) → is_equality a ≡ true → is_equality (opened a) ≡ true
opened-equality Any e = e
opened-equality Equality e = e
opened-equality (Class c) e = e

fits-more : (qs D S : List Quantified) → ((v : ℕ) → in_scope D v ≡ true → admits_in S v ≡ true → admits_in D v ≡ true) → (v : ℕ) → in_scope (unclassed qs ++ D) v ≡ true → admits_in (qs ++ S) v ≡ true → admits_in (unclassed qs ++ D) v ≡ true
fits-more [] D S h v e k = h v e k
fits-more (q ∷ qs) D S h v e k = go (nat_eq q.variable v) (fits-more qs D S h v) e k
  where
    go : (b : Bool) → (in_scope (unclassed qs ++ D) v ≡ true → admits_in (qs ++ S) v ≡ true → admits_in (unclassed qs ++ D) v ≡ true) → (b || in_scope (unclassed qs ++ D) v) ≡ true → (if b then is_equality q.mark else admits_in (qs ++ S) v) ≡ true
        → (if b then is_equality (opened q.mark) else admits_in (unclassed qs ++ D) v) ≡ true
    go true f e k = opened-equality q.mark k
    go false f e k = f e k

-- under parameters
pub within-more : (qs D S : List Quantified) → Within D S → Within (unclassed qs ++ D) (qs ++ S)
within-more qs D S w = record { inside = inside-more qs D S w.inside; fits = fits-more qs D S w.fits }

no-truth : (b : Bool) → not b ≡ true → b ≡ true → ⊥
no-truth true h e = cc
no-truth false h e = cc

-- a parameter in scope is none of new ones
not-new : (q : Quantified) (S : List Quantified) → not (in_scope S q.variable) ≡ true → (v : ℕ) → in_scope S v ≡ true → nat_eq q.variable v ≡ false
not-new q S n v h = go (nat_eq q.variable v) refl
  where
    go : (b : Bool) → nat_eq q.variable v ≡ b → b ≡ false
    go true e = absurd (no-truth (in_scope S q.variable) n (subst (λ x. in_scope S x ≡ true) (sym (eqb-true q.variable v e)) h))
    go false e = refl

rest-new : (q : Quantified) (qs S : List Quantified) → are_new (q ∷ qs) S ≡ true → are_new qs S ≡ true
rest-new q qs S n = right-true (not (in_scope qs q.variable)) _ (right-true (not (in_scope S q.variable)) _ (right-true (is_declarable q.mark) _ n))

first-new : (q : Quantified) (qs S : List Quantified) → are_new (q ∷ qs) S ≡ true → not (in_scope S q.variable) ≡ true
first-new q qs S n = left-true (not (in_scope S q.variable)) _ (right-true (is_declarable q.mark) _ n)

new-in : (qs D S : List Quantified) → are_new qs S ≡ true → (v : ℕ) → in_scope S v ≡ true → in_scope (unclassed qs ++ D) v ≡ in_scope D v
new-in [] D S n v h = refl
new-in (q ∷ qs) D S n v h = rw (not-new q S (first-new q qs S n) v h) (new-in qs D S (rest-new q qs S n) v h)

new-admits : (qs D S : List Quantified) → are_new qs S ≡ true → (v : ℕ) → in_scope S v ≡ true → admits_in (qs ++ D) v ≡ admits_in D v
new-admits [] D S n v h = refl
new-admits (q ∷ qs) D S n v h = rw (not-new q S (first-new q qs S n) v h) (new-admits qs D S (rest-new q qs S n) v h)

unclassed-in : (qs : List Quantified) (v : ℕ) → in_scope (unclassed qs) v ≡ in_scope qs v
unclassed-in [] v = refl
unclassed-in (q ∷ qs) v = ap (λ b. nat_eq q.variable v || b) (unclassed-in qs v)

-- parameters that the tests leave out
pub within-less : (qs D S : List Quantified) → are_new qs S ≡ true → Within D S → Within D (qs ++ S)
within-less qs D S n w = record { inside = λ v e. more-scope qs S v (w.inside v e); fits = λ v e k. w.fits v e (sym (new-admits qs S S n v (w.inside v e)) ∙ k) }

not-inside : (a b : Bool) → (a ≡ true → b ≡ true) → not b ≡ true → not a ≡ true
not-inside true b h n = absurd (no-truth b n (h refl))
not-inside false b h n = refl

opened-declarable : (a : Mark) → is_declarable (opened a) ≡ true
opened-declarable Any = refl
opened-declarable Equality = refl
opened-declarable (Class c) = refl

pub new-within : (qs D S : List Quantified) → Within D S → are_new qs S ≡ true → are_new (unclassed qs) D ≡ true
new-within [] D S w n = refl
new-within (q ∷ qs) D S w n =
    both-true (opened-declarable q.mark) (both-true (not-inside (in_scope D q.variable) (in_scope S q.variable) (w.inside q.variable) (first-new q qs S n))
    (both-true (ap not (unclassed-in qs q.variable) ∙ left-true (not (in_scope qs q.variable)) _ (right-true (not (in_scope S q.variable)) _ (right-true (is_declarable q.mark) _ n))) (new-within qs D S w (rest-new q qs S n))))

-- Equality

allowed-put : (e : Eq.Equality) (b b' : Bool) → (b ≡ true → b' ≡ true) → allowed e b ≡ true → allowed e b' ≡ true
allowed-put Always b b' f h = refl
allowed-put ByArguments b b' f h = f h
allowed-put Never b b' f h = absurd (cc)

mutual
  admits-put : (m m' : ℕ → Bool) (s : ℕ → Typ) → ((v : ℕ) → m v ≡ true → admits m' (s v) ≡ true) → (t : Typ) → admits m t ≡ true → admits m' (replace s t) ≡ true
  admits-put m m' s k (var v) h = k v h
  admits-put m m' s k (con a ts) h = allowed-put (attribute a) (all_admit m ts) (all_admit m' (replace_all s ts)) (all-admit-put m m' s k ts) h

  all-admit-put : (m m' : ℕ → Bool) (s : ℕ → Typ) → ((v : ℕ) → m v ≡ true → admits m' (s v) ≡ true) → (ts : Typs) → all_admit m ts ≡ true → all_admit m' (replace_all s ts) ≡ true
  all-admit-put m m' s k none h = refl
  all-admit-put m m' s k (more t ts) h = both-true (admits-put m m' s k t (left-true (admits m t) (all_admit m ts) h)) (all-admit-put m m' s k ts (right-true (admits m t) (all_admit m ts) h))

standing-admits : (D S : List Quantified) → Within D S → (v : ℕ) → admits_in S v ≡ true → admits (admits_in D) (standing D v) ≡ true
standing-admits D S w v h = go (in_scope D v) refl
  where
    go : (b : Bool) → in_scope D v ≡ b → admits (admits_in D) (if b then var v else unit_type) ≡ true
    go true e = w.fits v e h
    go false e = refl

pub allows-scoped : (a : Mark) (D S : List Quantified) → Within D S → (t : Typ) → Allows a (admits_in S) t → Allows a (admits_in D) (scoped D t)
allows-scoped Any D S w t h = tt
allows-scoped Equality D S w t h = admits-put (admits_in S) (admits_in D) (standing D) (standing-admits D S w) t h
allows-scoped (Class c) D S w t h = record { number = h.number; is = ap (scoped D) h.is; held = h.held }

pub are-allowed-scoped : (D S : List Quantified) → Within D S → (qs : List Quantified) (ts : List Typ) → AreAllowed (admits_in S) qs ts → AreAllowed (admits_in D) qs (all_scoped D ts)
are-allowed-scoped D S w [] [] h = tt
are-allowed-scoped D S w [] (t ∷ ts) h = absurd h
are-allowed-scoped D S w (q ∷ qs) [] h = absurd h
are-allowed-scoped D S w (q ∷ qs) (t ∷ ts) h = (allows-scoped q.mark D S w t h.0, are-allowed-scoped D S w qs ts h.1)

-- Instances

put-standing : (f : ℕ → Typ) (b : Bool) (v : ℕ) → replace f (if b then var v else unit_type) ≡ (if b then f v else unit_type)
put-standing f true v = refl
put-standing f false v = refl

instance-at : (D qs : List Quantified) (ts : List Typ) (m : ℕ → Bool) → AreAllowed m qs ts → (v : ℕ) → scoped D (changed qs ts var v) ≡ (if in_scope (unclassed qs ++ D) v then changed (unclassed qs) (all_scoped D ts) var v else unit_type)
instance-at D [] [] m a v = refl
instance-at D [] (t ∷ ts) m a v = absurd a
instance-at D (q ∷ qs) [] m a v = absurd a
instance-at D (q ∷ qs) (t ∷ ts) m a v = go (nat_eq q.variable v) (instance-at D qs ts m a.1 v)
  where
    go : (b : Bool) → scoped D (changed qs ts var v) ≡ (if in_scope (unclassed qs ++ D) v then changed (unclassed qs) (all_scoped D ts) var v else unit_type)
        → scoped D (if b then t else changed qs ts var v) ≡ (if b || in_scope (unclassed qs ++ D) v then (if b then scoped D t else changed (unclassed qs) (all_scoped D ts) var v) else unit_type)
    go true h = refl
    go false h = h

pub instance-scoped : (D qs : List Quantified) (ts : List Typ) (m : ℕ → Bool) → AreAllowed m qs ts → (b : Typ) → scoped D (replace (changed qs ts var) b) ≡ replace (changed (unclassed qs) (all_scoped D ts) var) (scoped (unclassed qs ++ D) b)
instance-scoped D qs ts m a b =
    let rs = unclassed qs in let f = changed rs (all_scoped D ts) var in
    replace-replace (standing D) (changed qs ts var) b
    ∙ (replace-ext _ _ (λ v. instance-at D qs ts m a v ∙ sym (put-standing f (in_scope (rs ++ D) v) v)) b
    ∙ sym (replace-replace f (standing (rs ++ D)) b))

pub allowed-unclassed : (m : ℕ → Bool) (qs : List Quantified) (ts : List Typ) → AreAllowed m qs ts → AreAllowed m (unclassed qs) ts
allowed-unclassed m [] [] h = tt
allowed-unclassed m [] (t ∷ ts) h = absurd h
allowed-unclassed m (q ∷ qs) [] h = absurd h
allowed-unclassed m (q ∷ qs) (t ∷ ts) h = (one q.mark h.0, allowed-unclassed m qs ts h.1)
  where
    one : (a : Mark) → Allows a m t → Allows (opened a) m t
    one Any k = tt
    one Equality k = k
    one (Class c) k = tt

-- under new parameters what is over those in scope stays
agree-at : (qs rs D S : List Quantified) → are_new rs S ≡ true → (v : ℕ) → in_scope (qs ++ S) v ≡ true → in_scope (unclassed qs ++ (unclassed rs ++ D)) v ≡ in_scope (unclassed qs ++ D) v
agree-at [] rs D S n v h = new-in rs D S n v h
agree-at (q ∷ qs) rs D S n v h = go (nat_eq q.variable v) (agree-at qs rs D S n v) h
  where
    go : (b : Bool) → (in_scope (qs ++ S) v ≡ true → in_scope (unclassed qs ++ (unclassed rs ++ D)) v ≡ in_scope (unclassed qs ++ D) v) → (b || in_scope (qs ++ S) v) ≡ true
        → (b || in_scope (unclassed qs ++ (unclassed rs ++ D)) v) ≡ (b || in_scope (unclassed qs ++ D) v)
    go true f e = refl
    go false f e = f e

pub scoped-more : (qs rs D S : List Quantified) → are_new rs S ≡ true → (t : Typ) → over (qs ++ S) t ≡ true → scoped (unclassed qs ++ (unclassed rs ++ D)) t ≡ scoped (unclassed qs ++ D) t
scoped-more qs rs D S n t h = replace-agree (qs ++ S) t h (standing (unclassed qs ++ (unclassed rs ++ D))) (standing (unclassed qs ++ D)) (λ v e. ap (λ b. if b then var v else unit_type) (agree-at qs rs D S n v e))

-- the parameters at themselves
own-at : (rs : List Quantified) (v : ℕ) → changed rs (own_types rs) var v ≡ var v
own-at [] v = refl
own-at (q ∷ rs) v = go (nat_eq q.variable v) refl (own-at rs v)
  where
    go : (b : Bool) → nat_eq q.variable v ≡ b → changed rs (own_types rs) var v ≡ var v → (if b then var q.variable else changed rs (own_types rs) var v) ≡ var v
    go true e h = ap var (eqb-true q.variable v e)
    go false e h = h

mutual
  replace-var : (t : Typ) → replace var t ≡ t
  replace-var (var v) = refl
  replace-var (con a ts) = ap (con a) (replace_all-var ts)

  replace_all-var : (ts : Typs) → replace_all var ts ≡ ts
  replace_all-var none = refl
  replace_all-var (more t ts) = rw (replace-var t, replace_all-var ts) refl

pub own-instance : (rs : List Quantified) (b : Typ) → b ≡ replace (changed rs (own_types rs) var) b
own-instance rs b = sym (replace-ext _ _ (own-at rs) b ∙ replace-var b)

-- those that ask for equality admit it
abbrev AllFit : (ℕ → Bool) → List Quantified → Type 0
AllFit m [] = ⊤
AllFit m (q ∷ rs) = (is_equality q.mark ≡ true → m q.variable ≡ true) × AllFit m rs

or-left-false : (a b : Bool) → not (a || b) ≡ true → a ≡ false
or-left-false true b e = absurd (cc)
or-left-false false b e = refl

or-right-false : (a b : Bool) → not (a || b) ≡ true → not b ≡ true
or-right-false true b e = absurd (cc)
or-right-false false b e = e

no-eq : (x y : ℕ) → nat_eq x y ≡ false → nat_eq y x ≡ false
no-eq x y e = different y x (λ d. absurd (let one : nat_eq x y ≡ true = eq-eqb x y (sym d) in cc))

fit-more : (v : ℕ) (c : Bool) (m : ℕ → Bool) (rs : List Quantified) → not (in_scope rs v) ≡ true → AllFit m rs → AllFit (λ x. if nat_eq v x then c else m x) rs
fit-more v c m [] n h = tt
fit-more v c m (q ∷ rs) n h = (λ e. rw (no-eq q.variable v (or-left-false _ (in_scope rs v) n)) (h.0 e), fit-more v c m rs (or-right-false (nat_eq q.variable v) _ n) h.1)

all-fit : (rs D : List Quantified) → are_new rs D ≡ true → AllFit (admits_in (rs ++ D)) rs
all-fit [] D n = tt
all-fit (q ∷ rs) D n =
    (λ e. rw (eq-eqb q.variable q.variable refl) e, fit-more q.variable (is_equality q.mark) (admits_in (rs ++ D)) rs (left-true (not (in_scope rs q.variable)) _ (right-true (not (in_scope D q.variable)) _ (right-true (is_declarable q.mark) _ n))) (all-fit rs D (rest-new q rs D n)))

own-fit : (m : ℕ → Bool) (qs : List Quantified) → AllFit m (unclassed qs) → AreAllowed m (unclassed qs) (own_types (unclassed qs))
own-fit m [] h = tt
own-fit m (q ∷ qs) h = (one q.mark h.0, own-fit m qs h.1)
  where
    one : (a : Mark) → (is_equality (opened a) ≡ true → m q.variable ≡ true) → Allows (opened a) m (var q.variable)
    one Any k = tt
    one Equality k = k refl
    one (Class c) k = tt

pub own-allowed : (qs D : List Quantified) → are_new (unclassed qs) D ≡ true → AreAllowed (admits_in (unclassed qs ++ D)) (unclassed qs) (own_types (unclassed qs))
own-allowed qs D n = own-fit (admits_in (unclassed qs ++ D)) qs (all-fit (unclassed qs) D n)

-- and they are in scope
own-over-at : (rs E : List Quantified) → ((v : ℕ) → in_scope rs v ≡ true → in_scope E v ≡ true) → all_over E (typs_of (own_types rs)) ≡ true
own-over-at [] E h = refl
own-over-at (q ∷ rs) E h = both-true (h q.variable (ap (λ b. b || in_scope rs q.variable) (eq-eqb q.variable q.variable refl))) (own-over-at rs E (λ v e. h v (or-right (nat_eq q.variable v) e)))
  where
    or-right : (a : Bool) {b : Bool} → b ≡ true → (a || b) ≡ true
    or-right true e = refl
    or-right false e = e

front-in : (rs D : List Quantified) (v : ℕ) → in_scope rs v ≡ true → in_scope (rs ++ D) v ≡ true
front-in [] D v e = absurd (cc)
front-in (q ∷ rs) D v e = or-mono (nat_eq q.variable v) (front-in rs D v) e

pub own-over : (rs D : List Quantified) → all_over (rs ++ D) (typs_of (own_types rs)) ≡ true
own-over rs D = own-over-at rs (rs ++ D) (front-in rs D)

-- Parts of types

pub literal-scoped : (D : List Quantified) {l : Literal} {t : Typ} → HasLiteral l t → HasLiteral l (scoped D t)
literal-scoped D (has_int z) = has_int z
literal-scoped D (has_word n) = has_word n
literal-scoped D (has_char n) = has_char n
literal-scoped D (has_string t) = has_string t

pub value-scoped : (D : List Quantified) (a : Option Typ) → scoped D (value_type a) ≡ value_type (option_scoped D a)
value-scoped D None = refl
value-scoped D (Some a) = refl

pub alone-scoped : (D : List Quantified) (a : Option Typ) (t : Typ) → scoped D (alone_type a t) ≡ alone_type (option_scoped D a) (scoped D t)
alone-scoped D None t = refl
alone-scoped D (Some a) t = refl

pub constructor-scoped : (D : List Quantified) {table : List Constructor} {c : ℕ} {t : Typ} {a : Option Typ} → HasConstructor table c t a → HasConstructor table c (scoped D t) (option_scoped D a)
constructor-scoped D h = record {
  datatype = h.datatype;
  arguments = all_scoped D h.arguments;
  row = h.row;
  found = h.found;
  same = h.same;
  type = ap (scoped D) h.type ∙ ap (con (name h.datatype)) (typs_of-read (standing D) h.arguments);
  argument = argument-read (standing D) h.arguments h.row.argument ∙ ap (option_scoped D) h.argument;
}

pub tuple-many : (g : Typ → Typ) (ts : List Typ) → nat_lt 1 (length ts) ≡ true → tuple_type (map g ts) ≡ row_type (numbered 1 (map g ts))
tuple-many g [] e = absurd (cc)
tuple-many g (t ∷ []) e = absurd (cc)
tuple-many g (t ∷ u ∷ ts) e = refl
