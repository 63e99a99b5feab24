-- The variables that are collected.
use Rattle.std.proofs.Common.{◌≡◌, ◌<◌, ◌≤◌, ◌+◌, ◌-◌, ◌&&◌, ◌||◌, not, ℕ, zero, suc, Bool, true, false, nat_eq, nat_lt, if◌then◌else◌, List, [], ◌∷◌, ◌++◌, Option, Some, None, refl, sym, ap, subst, ◌∙◌, arith}
use Rattle.std.specs.Prelude.{option_and_then}
use Rattle.std.specs.List.{AllByRecursion}
use Rattle.std.proofs.lemmas.Bool.{ltb-true, ltb-false, lt-ltb, eqb-true, eq-eqb, and_parts, and_from}
use Rattle.ty_core.specs.Marks.{is_inhabited}
use Rattle.ty_core.specs.declared.mark.Mark.{Mark}
use Rattle.ty_core.specs.declared.scheme.Quantified.{Quantified}
use Rattle.ty_solve.specs.Substitution.{Entry, free, bound, row, is_open}
use Rattle.ty_solve.specs.declared.limit.Limit.{Limit}
use Rattle.ir_poly.specs.Types.{in_scope, is_declarable, are_new}
use Rattle.elab_state.proofs.Generalising.{scope-front, scope-behind}
use Rattle.general_worlds.specs.Tidy.{mark_in}
use Rattle.general_worlds.proofs.Scoping.{scope-either, not-in}
use Rattle.general_vals.specs.Closing.{is_inner, added, collected}

abbrev parameter : ℕ → Mark → Quantified
parameter v k = record { variable = v; mark = k }

-- step by step

module _ (s : ℕ → Entry) (b : ℕ → Limit) (l first : ℕ) where
  abbrev step : ℕ → List Quantified → Option (List Quantified)
  step v qs = if not (nat_lt v first) && is_inner l (b v) then added v (s v) qs else Some qs

  pub none-yet : (n : ℕ) → n ≤ first → collected s b l first n ≡ Some []
  none-yet zero le = refl
  none-yet (suc v) le =
      ap (option_and_then (step v)) (none-yet v (omega (arith, le)))
      ∙ ap (λ c. if not c && is_inner l (b v) then added v (s v) [] else Some []) (lt-ltb v first (omega (arith, le)))

  pub next-added : (v n : ℕ) (qs : List Quantified) → n ≡ suc v → first ≤ v → is_inner l (b v) ≡ true → collected s b l first v ≡ Some qs → collected s b l first n ≡ added v (s v) qs
  next-added v n qs e le i h =
      ap (collected s b l first) e ∙ ap (option_and_then (step v)) h ∙ ap (λ c. if c then added v (s v) qs else Some qs) (and_from (not (nat_lt v first)) (is_inner l (b v)) (not-before v le) i)
    where
      not-before : (v : ℕ) → first ≤ v → not (nat_lt v first) ≡ true
      not-before v le = by (nat_lt v first) refl
        where
          by : (c : Bool) → nat_lt v first ≡ c → not c ≡ true
          by true e = absurd (let a = ltb-true v first e in omega (arith, a, le))
          by false e = refl

  pub next-skipped : (v n : ℕ) (qs : List Quantified) → n ≡ suc v → is_inner l (b v) ≡ false → collected s b l first v ≡ Some qs → collected s b l first n ≡ Some qs
  next-skipped v n qs e i h = ap (collected s b l first) e ∙ ap (option_and_then (step v)) h ∙ by (not (nat_lt v first)) (is_inner l (b v)) i
    where
      by : (c d : Bool) → d ≡ false → (if c && d then added v (s v) qs else Some qs) ≡ Some qs
      by true d e = ap (λ d. if d then added v (s v) qs else Some qs) e
      by false d e = refl

  none-more : (k v m : ℕ) → k + v ≡ m → collected s b l first v ≡ None → collected s b l first m ≡ None
  none-more zero v m e h = let same : v ≡ m = omega (arith, e) in subst (λ n. collected s b l first n ≡ None) same h
  none-more (suc k) v m e h = none-more k (suc v) m (omega (arith, e)) (ap (option_and_then (step v)) h)

  pub none-later : (v n : ℕ) → v ≤ n → collected s b l first v ≡ None → collected s b l first n ≡ None
  none-later v n le h = none-more (n - v) v n (omega (arith, le)) h

  -- what the code finds of the next variable
  pub next-of : (v n : ℕ) (qs : List Quantified) → n ≡ suc v → first ≤ v → collected s b l first v ≡ Some qs
      → collected s b l first n ≡ (if is_inner l (b v) then added v (s v) qs else Some qs)
  next-of v n qs e le h = by (is_inner l (b v)) refl
    where
      by : (c : Bool) → is_inner l (b v) ≡ c → collected s b l first n ≡ (if c then added v (s v) qs else Some qs)
      by true i = next-added v n qs e le i h
      by false i = next-skipped v n qs e i h

  pub found-none : (v m : ℕ) (qs new : List Quantified) (may : Bool) → first ≤ v → v < m → collected s b l first v ≡ Some qs
      → (if is_inner l (b v) then added v (s v) qs else Some qs) ≡ (if may then Some new else None) → may ≡ false → None ≡ collected s b l first m
  found-none v m qs new may le lt h is f =
      sym (none-later (suc v) m (omega (arith, lt)) (next-of v (suc v) qs refl le h ∙ is ∙ ap (λ c. if c then Some new else None) f))

  pub found-more : (v n : ℕ) (qs new : List Quantified) (may : Bool) → n ≡ suc v → first ≤ v → collected s b l first v ≡ Some qs
      → (if is_inner l (b v) then added v (s v) qs else Some qs) ≡ (if may then Some new else None) → may ≡ true → collected s b l first n ≡ Some new
  found-more v n qs new may e le h is t = next-of v n qs e le h ∙ is ∙ ap (λ c. if c then Some new else None) t

-- one parameter more

scope-last : (ps : List Quantified) (q : Quantified) → in_scope (ps ++ q ∷ []) q.variable ≡ true
scope-last ps q = scope-behind ps (q ∷ []) q.variable (ap (λ c. c || false) (eq-eqb q.variable q.variable refl))

last-or : (ps : List Quantified) (q : Quantified) (v : ℕ) → in_scope (ps ++ q ∷ []) v ≡ true → in_scope ps v ≡ false → q.variable ≡ v
last-or ps q v i n = eqb-true q.variable v (by (nat_eq q.variable v) (scope-either ps (q ∷ []) v i n))
  where
    by : (c : Bool) → (c || false) ≡ true → c ≡ true
    by true e = refl
    by false e = e

mark-front : (ps : List Quantified) (q : Quantified) (v : ℕ) → in_scope ps v ≡ true → mark_in (ps ++ q ∷ []) v ≡ mark_in ps v
mark-front [] q v i = cc
mark-front (p ∷ ps) q v i = by (nat_eq p.variable v) i (mark-front ps q v)
  where
    by : (c : Bool) → (c || in_scope ps v) ≡ true → (in_scope ps v ≡ true → mark_in (ps ++ q ∷ []) v ≡ mark_in ps v)
        → (if c then p.mark else mark_in (ps ++ q ∷ []) v) ≡ (if c then p.mark else mark_in ps v)
    by true i f = refl
    by false i f = f i

mark-last : (ps : List Quantified) (q : Quantified) → in_scope ps q.variable ≡ false → mark_in (ps ++ q ∷ []) q.variable ≡ q.mark
mark-last [] q n = ap (λ c. if c then q.mark else Mark.Any) (eq-eqb q.variable q.variable refl)
mark-last (p ∷ ps) q n = by (nat_eq p.variable q.variable) n (mark-last ps q)
  where
    by : (c : Bool) → (c || in_scope ps q.variable) ≡ false → (in_scope ps q.variable ≡ false → mark_in (ps ++ q ∷ []) q.variable ≡ q.mark)
        → (if c then p.mark else mark_in (ps ++ q ∷ []) q.variable) ≡ q.mark
    by true n f = cc
    by false n f = f n

new-last : (ps : List Quantified) (q : Quantified) → are_new ps [] ≡ true → is_declarable q.mark ≡ true → in_scope ps q.variable ≡ false → are_new (ps ++ q ∷ []) [] ≡ true
new-last [] q h d n = and_from (is_declarable q.mark) true d refl
new-last (p ∷ ps) q h d n =
    let a = and_parts (is_declarable p.mark) (not (in_scope ps p.variable) && are_new ps []) h in
    let b = and_parts (not (in_scope ps p.variable)) (are_new ps []) a.1 in
    and_from (is_declarable p.mark) (not (in_scope (ps ++ q ∷ []) p.variable) && are_new (ps ++ q ∷ []) []) a.0
    (and_from (not (in_scope (ps ++ q ∷ []) p.variable)) (are_new (ps ++ q ∷ []) []) (apart b.0)
    (new-last ps q b.1 d (not-in (in_scope ps q.variable) (in_scope (p ∷ ps) q.variable) n (scope-behind (p ∷ []) ps q.variable))))
  where
    apart : not (in_scope ps p.variable) ≡ true → not (in_scope (ps ++ q ∷ []) p.variable) ≡ true
    apart e = by (in_scope (ps ++ q ∷ []) p.variable) refl
      where
        was-not : (c : Bool) → not c ≡ true → c ≡ false
        was-not true e = cc
        was-not false e = refl

        by : (c : Bool) → in_scope (ps ++ q ∷ []) p.variable ≡ c → not c ≡ true
        by false i = refl
        by true i =
            let same = last-or ps q p.variable i (was-not (in_scope ps p.variable) e) in
            let here : in_scope (p ∷ ps) q.variable ≡ true = ap (λ c. c || in_scope ps q.variable) (eq-eqb p.variable q.variable (sym same)) in
            let z = sym here ∙ n in cc

declared-inhabited : (k : Mark) → is_declarable k ≡ true → is_inhabited k ≡ true
declared-inhabited Mark.Any h = refl
declared-inhabited Mark.Equality h = refl
declared-inhabited (Mark.Class c) h = cc

all-inhabited : (ps : List Quantified) (q : Quantified) → AllByRecursion (λ (q : Quantified). is_inhabited q.mark ≡ true) ps → is_inhabited q.mark ≡ true
    → AllByRecursion (λ (q : Quantified). is_inhabited q.mark ≡ true) (ps ++ q ∷ [])
all-inhabited [] q h i = (i, tt)
all-inhabited (p ∷ ps) q h i = (h.0, all-inhabited ps q h.1 i)

-- what is collected

pub record Collected (s : ℕ → Entry) (b : ℕ → Limit) (l first n : ℕ) (qs : List Quantified) : Type 0 where
  pub all : (v : ℕ) → first ≤ v → v < n → is_open (s v) ≡ true → is_inner l (b v) ≡ true → in_scope qs v ≡ true
  pub after : (v : ℕ) → in_scope qs v ≡ true → first ≤ v
  pub before : (v : ℕ) → in_scope qs v ≡ true → v < n
  pub inner : (v : ℕ) → in_scope qs v ≡ true → is_inner l (b v) ≡ true
  pub marks : (v : ℕ) → in_scope qs v ≡ true → s v ≡ free (mark_in qs v)
  pub declarable : are_new qs [] ≡ true
  pub inhabited : AllByRecursion (λ (q : Quantified). is_inhabited q.mark ≡ true) qs

module _ (s : ℕ → Entry) (b : ℕ → Limit) (l first v : ℕ) (qs : List Quantified) (c : Collected s b l first v qs) where
  -- where nothing is added
  same : (is_open (s v) ≡ true → first ≤ v → is_inner l (b v) ≡ true → ⊥) → Collected s b l first (suc v) qs
  same none = record {
    all = λ x f lt o i. by x f lt o i (nat_lt x v) refl;
    after = c.after;
    before = λ x i. let h = c.before x i in omega (arith, h);
    inner = c.inner;
    marks = c.marks;
    declarable = c.declarable;
    inhabited = c.inhabited;
  }
    where
      by : (x : ℕ) → first ≤ x → x < suc v → is_open (s x) ≡ true → is_inner l (b x) ≡ true → (d : Bool) → nat_lt x v ≡ d → in_scope qs x ≡ true
      by x f lt o i true e = c.all x f (ltb-true x v e) o i
      by x f lt o i false e =
          let a = ltb-false x v e in
          let here : x ≡ v = omega (arith, a, lt) in
          absurd (none (subst (λ y. is_open (s y) ≡ true) here o) (subst (λ y. first ≤ y) here f) (subst (λ y. is_inner l (b y) ≡ true) here i))

  -- and where the variable is
  one-more : (k : Mark) → s v ≡ free k → is_declarable k ≡ true → first ≤ v → is_inner l (b v) ≡ true → Collected s b l first (suc v) (qs ++ parameter v k ∷ [])
  one-more k e d f i = record {
    all = λ x g lt o j. by x g lt o j (nat_lt x v) refl;
    after = λ x j. each (λ x. first ≤ x) x j (c.after x) f;
    before = λ x j. each (λ x. x < suc v) x j (λ m. let h = c.before x m in omega (arith, h)) (omega arith);
    inner = λ x j. each (λ x. is_inner l (b x) ≡ true) x j (c.inner x) i;
    marks = λ x j. marked x j (in_scope qs x) refl;
    declarable = new-last qs (parameter v k) c.declarable d fresh;
    inhabited = all-inhabited qs (parameter v k) c.inhabited (declared-inhabited k d);
  }
    where
      fresh : in_scope qs v ≡ false
      fresh = go (in_scope qs v) refl
        where
          go : (d : Bool) → in_scope qs v ≡ d → d ≡ false
          go true e = absurd (let h = c.before v e in omega (arith, h))
          go false e = refl

      by : (x : ℕ) → first ≤ x → x < suc v → is_open (s x) ≡ true → is_inner l (b x) ≡ true → (d : Bool) → nat_lt x v ≡ d → in_scope (qs ++ parameter v k ∷ []) x ≡ true
      by x g lt o j true q = scope-front qs (parameter v k ∷ []) x (c.all x g (ltb-true x v q) o j)
      by x g lt o j false q =
          let a = ltb-false x v q in
          let here : v ≡ x = omega (arith, a, lt) in
          subst (λ y. in_scope (qs ++ parameter v k ∷ []) y ≡ true) here (scope-last qs (parameter v k))

      each : (P : ℕ → Type 0) (x : ℕ) → in_scope (qs ++ parameter v k ∷ []) x ≡ true → (in_scope qs x ≡ true → P x) → P v → P x
      each P x j old new = go (in_scope qs x) refl
        where
          go : (d : Bool) → in_scope qs x ≡ d → P x
          go true e = old e
          go false e = subst P (last-or qs (parameter v k) x j e) new

      marked : (x : ℕ) → in_scope (qs ++ parameter v k ∷ []) x ≡ true → (d : Bool) → in_scope qs x ≡ d → s x ≡ free (mark_in (qs ++ parameter v k ∷ []) x)
      marked x j true m = c.marks x m ∙ ap free (sym (mark-front qs (parameter v k) x m))
      marked x j false m = subst (λ y. s y ≡ free (mark_in (qs ++ parameter v k ∷ []) y)) (last-or qs (parameter v k) x j m) (e ∙ ap free (sym (mark-last qs (parameter v k) fresh)))

  at-entry : (e : Entry) → s v ≡ e → (rs : List Quantified) → added v e qs ≡ Some rs → first ≤ v → is_inner l (b v) ≡ true → Collected s b l first (suc v) rs
  at-entry (bound t) is rs h f i =
      let e : qs ≡ rs = cc in
      subst (Collected s b l first (suc v)) e (same (λ o g j. let z = sym (ap is_open is) ∙ o in cc))
  at-entry (row d ks us) is rs h f i = cc
  at-entry (free k) is rs h f i = by (is_declarable k) refl h
    where
      by : (d : Bool) → is_declarable k ≡ d → (if d then Some (qs ++ parameter v k ∷ []) else None) ≡ Some rs → Collected s b l first (suc v) rs
      by true d h = let e : qs ++ parameter v k ∷ [] ≡ rs = cc in subst (Collected s b l first (suc v)) e (one-more k is d f i)
      by false d h = cc

  pub next-collected : (rs : List Quantified) → (if not (nat_lt v first) && is_inner l (b v) then added v (s v) qs else Some qs) ≡ Some rs → Collected s b l first (suc v) rs
  next-collected rs h = by (nat_lt v first) refl (is_inner l (b v)) refl h
    where
      by : (x : Bool) → nat_lt v first ≡ x → (y : Bool) → is_inner l (b v) ≡ y → (if not x && y then added v (s v) qs else Some qs) ≡ Some rs → Collected s b l first (suc v) rs
      by true p y q h =
          let e : qs ≡ rs = cc in
          let a = ltb-true v first p in
          subst (Collected s b l first (suc v)) e (same (λ o g j. omega (arith, a, g)))
      by false p true q h = at-entry (s v) refl rs h (let a = ltb-false v first p in omega (arith, a)) q
      by false p false q h = let e : qs ≡ rs = cc in subst (Collected s b l first (suc v)) e (same (λ o g j. let z = sym q ∙ j in cc))

pub are-collected : (s : ℕ → Entry) (b : ℕ → Limit) (l first n : ℕ) (qs : List Quantified) → collected s b l first n ≡ Some qs → Collected s b l first n qs
are-collected s b l first zero qs h =
    let e : [] ≡ qs = cc in
    subst (Collected s b l first zero) e
    (record {
      all = λ v f lt o i. absurd (omega (arith, lt));
      after = λ v i. cc;
      before = λ v i. cc;
      inner = λ v i. cc;
      marks = λ v i. cc;
      declarable = refl;
      inhabited = tt;
    })
are-collected s b l first (suc v) qs h = by (collected s b l first v) refl h (are-collected s b l first v)
  where
    by : (o : Option (List Quantified)) → collected s b l first v ≡ o
        → option_and_then (λ ps. if not (nat_lt v first) && is_inner l (b v) then added v (s v) ps else Some ps) o ≡ Some qs
        → ((ps : List Quantified) → collected s b l first v ≡ Some ps → Collected s b l first v ps) → Collected s b l first (suc v) qs
    by None e h f = cc
    by (Some ps) e h f = next-collected s b l first v ps (f ps e) qs h
