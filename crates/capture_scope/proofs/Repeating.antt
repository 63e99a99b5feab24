-- Variables that stand in a list more than once.
use Rattle.std.proofs.Common.{◌≡◌, ℕ, zero, suc, ◌+◌, ◌<◌, ◌≤◌, Bool, true, false, not, ◌||◌, List, [], ◌∷◌, ◌++◌, map, take, drop, length, nat_eq, if◌then◌else◌, get_or, Result, Ok, Err, IfErr, refl, sym, ap, subst, ◌∙◌, arith}
use Rattle.std.proofs.lemmas.Bool.{eq-eqb, false≢true}
use Rattle.std.proofs.lemmas.List.{take-append-drop, take_more}
use Rattle.std.specs.Result.{IsErrAnd}
use Rattle.std.specs.List.{list_any}
use Rattle.ir_plain.specs.Once.{hit}
use Rattle.closure_convert.specs.Scope.{Scope, Member, names}
use Rattle.closure_convert.specs.Capture.{onto, visible, kept}
use Rattle.capture_scope.specs.declared.scope.Member as code
use Rattle.capture_scope.specs.Seen.{members_of, scope_in, IsSeen}
use Rattle.capture_scope.specs.declared.scope.ScopeFault.{ScopeFault}
use Rattle.capture_scope.specs.declared.scope.ScopeFault.TheVariants.{Memory, BoundTwice}
use Rattle.capture_scope.specs.Repeats.{times_in, Repeats}
use Rattle.capture_scope.proofs.Seen.{visible-is}

pub times-append : (k : ℕ) (xs ys : List ℕ) → times_in k (xs ++ ys) ≡ times_in k xs + times_in k ys
times-append k [] ys = omega arith
times-append k (x ∷ xs) ys = let r = times-append k xs ys in omega (arith, r)

pub repeats-within : (xs ys : List ℕ) → ((k : ℕ) → times_in k xs ≤ times_in k ys) → Repeats xs → Repeats ys
repeats-within xs ys h r = (r.0, (let a = h r.0 in let b = r.1 in omega (arith, a, b)))

-- what is passed on of a fault

pub twice-kept : {T : Type 0} (r : Result T ScopeFault) (xs ys : List ℕ) → (Repeats xs → Repeats ys) → IfErr r (λ f. f ≡ BoundTwice → Repeats xs) → IfErr r (λ f. f ≡ BoundTwice → Repeats ys)
twice-kept (Ok x) xs ys m h = tt
twice-kept (Err e) xs ys m h = λ b. m (h b)

pub twice-passed : {T : Type 0} (r : Result T ScopeFault) (e : ScopeFault) → IsErrAnd r (λ x. x ≡ e) → (xs ys : List ℕ) → (Repeats xs → Repeats ys) → (e ≡ BoundTwice → Repeats xs) → IfErr r (λ f. f ≡ BoundTwice → Repeats ys)
twice-passed (Ok x) e g xs ys m h = absurd g
twice-passed (Err x) e g xs ys m h = λ b. m (h (sym g ∙ b))

pub fault-passed : {T : Type 0} (r : Result T ScopeFault) (e : ScopeFault) → IsErrAnd r (λ x. x ≡ e) → (P Q : Type 0) → (P → Q) → (e ≡ BoundTwice → P) → IfErr r (λ f. f ≡ BoundTwice → Q)
fault-passed (Ok x) e g P Q m h = absurd g
fault-passed (Err x) e g P Q m h = λ b. m (h (sym g ∙ b))

pub fault-kept : {T : Type 0} (r : Result T ScopeFault) (P Q : Type 0) → (P → Q) → IfErr r (λ f. f ≡ BoundTwice → P) → IfErr r (λ f. f ≡ BoundTwice → Q)
fault-kept (Ok x) P Q m h = tt
fault-kept (Err e) P Q m h = λ b. m (h b)

pub memory-kept : {T : Type 0} (r : Result T ScopeFault) (P : Type 0) → IfErr r (λ f. f ≡ Memory) → IfErr r (λ f. f ≡ BoundTwice → P)
memory-kept (Ok x) P h = tt
memory-kept (Err e) P h = λ b. absurd (apart (sym h ∙ b))
  where
    apart : Memory ≡ BoundTwice → ⊥
    apart e = cc

hit-self : (k : ℕ) → hit k k ≡ 1
hit-self k = ap (λ b. if b then 1 else 0) (eq-eqb k k refl)

there : (ks : List ℕ) (k : ℕ) → list_any (nat_eq k) ks ≡ true → 1 ≤ times_in k ks
there [] k h = absurd (false≢true h)
there (x ∷ ks) k h = by (nat_eq k x) h (there ks k)
  where
    by : (b : Bool) → (b || list_any (nat_eq k) ks) ≡ true → (list_any (nat_eq k) ks ≡ true → 1 ≤ times_in k ks) → 1 ≤ (if b then 1 else 0) + times_in k ks
    by true h rest = omega arith
    by false h rest = let r = rest h in omega (arith, r)

-- what is there already stands there twice with itself
pub seen-twice : (ks : List ℕ) (x : ℕ) (b : Bool) → b ≡ not (list_any (nat_eq x) ks) → b ≡ false → Repeats (ks ++ x ∷ [])
seen-twice ks x b p f = (x, go (list_any (nat_eq x) ks) refl)
  where
    go : (a : Bool) → list_any (nat_eq x) ks ≡ a → 2 ≤ times_in x (ks ++ x ∷ [])
    go false h = absurd (false≢true (sym f ∙ p ∙ ap not h))
    go true h = let t = there ks x h in let s = hit-self x in let r = times-append x ks (x ∷ []) in omega (arith, t, s, r)

times-part : (k : ℕ) (xs : List ℕ) (i x d : ℕ) → i < length xs → x ≡ get_or xs i d → times_in k (take i xs) + hit k x ≤ times_in k xs
times-part k xs i x d lt is =
    let a : times_in k xs ≡ times_in k (take (i + 1) xs ++ drop (i + 1) xs) = ap (times_in k) (sym (take-append-drop (i + 1) xs)) in
    let b = times-append k (take (i + 1) xs) (drop (i + 1) xs) in
    let c : times_in k (take (i + 1) xs) ≡ times_in k (take i xs ++ x ∷ []) = ap (times_in k) (take_more xs i d lt ∙ ap (λ y. take i xs ++ y ∷ []) (sym is)) in
    let e = times-append k (take i xs) (x ∷ []) in
    omega (arith, a, b, c, e)

pub all-twice : (old now xs : List ℕ) (i x d : ℕ) → i < length xs → x ≡ get_or xs i d → now ≡ old ++ take i xs → Repeats (now ++ x ∷ []) → Repeats (old ++ xs)
all-twice old now xs i x d lt is h = repeats-within (now ++ x ∷ []) (old ++ xs) (λ k.
    let a = times-append k now (x ∷ []) in
    let b : times_in k now ≡ times_in k (old ++ take i xs) = ap (times_in k) h in
    let c = times-append k old (take i xs) in
    let e = times-part k xs i x d lt is in
    let f = times-append k old xs in
    omega (arith, a, b, c, e, f))

names-map : (ms : List code.Member) → names (members_of ms) ≡ map (λ (m : code.Member). m.name) ms
names-map [] = refl
names-map (m ∷ ms) = ap (λ l. m.name ∷ l) (names-map ms)

map-take : (i : ℕ) (ms : List code.Member) → map (λ (m : code.Member). m.name) (take i ms) ≡ take i (map (λ (m : code.Member). m.name) ms)
map-take zero ms = refl
map-take (suc i) [] = refl
map-take (suc i) (m ∷ ms) = ap (λ l. m.name ∷ l) (map-take i ms)

map-long : (ms : List code.Member) → length (map (λ (m : code.Member). m.name) ms) ≡ length ms
map-long [] = refl
map-long (m ∷ ms) = ap suc (map-long ms)

map-at : (ms : List code.Member) (i : ℕ) (d : code.Member) → i < length ms → (get_or ms i d).name ≡ get_or (map (λ (m : code.Member). m.name) ms) i 0
map-at [] i d lt = absurd (omega (arith, lt))
map-at (m ∷ ms) zero d lt = refl
map-at (m ∷ ms) (suc i) d lt = map-at ms i d (omega (arith, lt))

pub names-twice : (old now : List ℕ) (ms : List code.Member) (i x : ℕ) (d : code.Member) → i < length ms → x ≡ (get_or ms i d).name → now ≡ old ++ map (λ (m : code.Member). m.name) (take i ms) → Repeats (now ++ x ∷ [])
    → Repeats (old ++ names (members_of ms))
names-twice old now ms i x d lt is h r =
    subst (λ l. Repeats (old ++ l)) (sym (names-map ms))
    (all-twice old now (map (λ (m : code.Member). m.name) ms) i x 0 (let n = map-long ms in omega (arith, n, lt)) (is ∙ map-at ms i d lt) (h ∙ ap (λ l. old ++ l) (map-take i ms)) r)

-- What is visible

times-onto : (k : ℕ) (xs ys : List ℕ) → times_in k (onto xs ys) ≡ times_in k xs + times_in k ys
times-onto k [] ys = omega arith
times-onto k (x ∷ xs) ys = let r = times-onto k xs (x ∷ ys) in omega (arith, r)

pub visible-times : (k : ℕ) (s : Scope) → times_in k (visible s) ≡ times_in k s.captured + (times_in k (names s.group) + times_in k s.locals)
visible-times k s =
    let a = times-append k s.captured (names s.group ++ onto s.locals []) in
    let b = times-append k (names s.group) (onto s.locals []) in
    let c = times-onto k s.locals [] in
    omega (arith, a, b, c)

pub times-kept : (k : ℕ) (p : ℕ → Bool) (xs : List ℕ) → times_in k (kept p xs) ≤ times_in k xs
times-kept k p [] = omega arith
times-kept k p (x ∷ xs) = by (p x) (times-kept k p xs)
  where
    by : (b : Bool) → times_in k (kept p xs) ≤ times_in k xs → times_in k (if b then x ∷ kept p xs else kept p xs) ≤ hit k x + times_in k xs
    by true h = omega (arith, h)
    by false h = omega (arith, h)

pub added-twice : (xs : List ℕ) (c x : ℕ) (ms : List Member) → IsSeen xs c ms → Repeats (xs ++ x ∷ []) → Repeats (visible (scope_in xs c ms) ++ x ∷ [])
added-twice xs c x ms s = subst (λ l. Repeats (l ++ x ∷ [])) (sym (visible-is xs c ms s))

-- of what was captured and the group, before anything is bound
module _ (cs : List ℕ) (ms : List Member) (none first : List ℕ) (z : none ≡ []) where
  pub captured-twice : Repeats (none ++ cs) → Repeats (cs ++ names ms)
  captured-twice r = repeats-within cs (cs ++ names ms) (λ k. let a = times-append k cs (names ms) in omega (arith, a)) (subst (λ l. Repeats (l ++ cs)) z r)

  pub group-twice : first ≡ none ++ cs → Repeats (first ++ names ms) → Repeats (cs ++ names ms)
  group-twice f = subst (λ l. Repeats (l ++ names ms)) (f ∙ ap (λ l. l ++ cs) z)

pub front-repeats : (xs ys : List ℕ) → Repeats xs → Repeats (xs ++ ys)
front-repeats xs ys = repeats-within xs (xs ++ ys) (λ k. let a = times-append k xs ys in omega (arith, a))

-- a parameter that is bound first
pub parameter-twice : (cs : List ℕ) (ms : List Member) (x : ℕ) (s : Scope) → s ≡ record { locals = []; group = ms; captured = cs } → Repeats (visible s ++ x ∷ []) → Repeats ((cs ++ names ms) ++ x ∷ [])
parameter-twice cs ms x s e r = repeats-within (visible s ++ x ∷ []) ((cs ++ names ms) ++ x ∷ []) (λ k.
    let a = times-append k (visible s) (x ∷ []) in
    let b : times_in k (visible s) ≡ times_in k (visible (record { locals = []; group = ms; captured = cs })) = ap (λ v. times_in k (visible v)) e in
    let c = visible-times k (record { locals = []; group = ms; captured = cs }) in
    let d = times-append k (cs ++ names ms) (x ∷ []) in
    let f = times-append k cs (names ms) in
    omega (arith, a, b, c, d, f)) r
