-- The walk, one part after the other.
use Rattle.std.proofs.Common.{◌≡◌, ℕ, zero, suc, ◌+◌, ◌-◌, ◌<◌, ◌≤◌, Result, Ok, Err, IfOk, List, [], ◌∷◌, ◌++◌, map, take, drop, length, get_or, refl, sym, ap, ap₂, ◌∙◌, arith}
use Rattle.std.proofs.lemmas.List.{length-append}
use Rattle.plain_tree.specs.declared.tree.Parameter.{Parameter}
use Rattle.closure_convert.specs.Scope.{Member, names, Scope, Piece}
use Rattle.closure_convert.specs.Capture.{onto, visible}
use Rattle.capture_scope.specs.Found.{left_to}
use Rattle.plain_tree.specs.declared.tree.Function.{Function, fold_out-Function}
use Rattle.capture_scope.specs.declared.scope.Member as code
use Rattle.capture_scope.specs.Seen.{member_of, members_of}
use Rattle.capture_table.specs.Told.{members_told, function_told, node_exp, node_step, node_arm, node_function, more, Entries, Told, StepTold, FunctionTold, all_tables, steps_table, after, backs, marks, functions_table, first_parameter, function_table, exp_told}
use Rattle.capture_table.proofs.Growing.{assoc, seen, ahead}

-- Leaving what was bound

onto-long : (xs ys : List ℕ) → length (onto xs ys) ≡ length xs + length ys
onto-long [] ys = omega arith
onto-long (x ∷ xs) ys = let r = onto-long xs (x ∷ ys) in omega (arith, r)

more-long : (xs : List ℕ) (s : Scope) → length (visible (more xs s)) ≡ length xs + length (visible s)
more-long xs s =
    let a = length-append s.captured (names s.group ++ onto (xs ++ s.locals) []) in
    let b = length-append (names s.group) (onto (xs ++ s.locals) []) in
    let c = onto-long (xs ++ s.locals) [] in
    let d = length-append xs s.locals in
    let e = length-append s.captured (names s.group ++ onto s.locals []) in
    let f = length-append (names s.group) (onto s.locals []) in
    let g = onto-long s.locals [] in
    omega (arith, a, b, c, d, e, f, g)

drop-front : (xs ys : List ℕ) → drop (length xs) (xs ++ ys) ≡ ys
drop-front [] ys = refl
drop-front (x ∷ xs) ys = drop-front xs ys

pub left-more : (xs : List ℕ) (s : Scope) → left_to (length (visible s)) (more xs s) ≡ s
left-more xs s =
    let m = more-long xs s in
    ap (λ l. record { locals = l; group = s.group; captured = s.captured })
    (ap (λ n. drop n (xs ++ s.locals)) (let e : length (visible (more xs s)) - length (visible s) ≡ length xs = omega (arith, m) in e) ∙ drop-front xs s.locals)

pub left-is : (xs : List ℕ) (s now new : Scope) (len : ℕ) → len ≡ length (visible s) → now ≡ more xs s → new ≡ left_to len now → new ≡ s
left-is xs s now new len l n e = e ∙ ap₂ (λ k z. left_to k z) l n ∙ left-more xs s

-- Parts in one scope

pub all-behind : {A : Type 0} (xs : List A) (i : ℕ) → length xs ≤ i → drop i xs ≡ []
all-behind [] zero h = refl
all-behind [] (suc i) h = refl
all-behind (x ∷ xs) zero h = absurd (omega (arith, h))
all-behind (x ∷ xs) (suc i) h = all-behind xs i (omega (arith, h))

all-before : {A : Type 0} (xs : List A) (i : ℕ) → length xs ≤ i → take i xs ≡ xs
all-before [] zero h = refl
all-before [] (suc i) h = refl
all-before (x ∷ xs) zero h = absurd (omega (arith, h))
all-before (x ∷ xs) (suc i) h = ap (λ l. x ∷ l) (all-before xs i (omega (arith, h)))

module _ {A : Type 0} (f : A → Told) (xs : List A) (i : ℕ) (s : Scope) (old now : Entries) where
  abbrev pub AllSoFar : Entries → (n : ℕ) → Type 0
  AllSoFar l n = (es : Entries) → old ++ all_tables (map f xs) s es ≡ l ++ all_tables (map f (drop n xs)) s es

  pub all-next : (x d : A) (z : Scope) (new : Entries) → i < length xs → x ≡ get_or xs i d → z ≡ s → ((es : Entries) → now ++ (f x).table z es ≡ new ++ es) → AllSoFar now i → AllSoFar new (i + 1)
  all-next x d z new lt is at h inv es =
      inv es ∙ ap (λ ts. now ++ all_tables ts s es) (ahead f xs i x d lt is) ∙ ap (λ v. now ++ (f x).table v (all_tables (map f (drop (i + 1) xs)) s es)) (sym at) ∙ h (all_tables (map f (drop (i + 1) xs)) s es)

  pub all-done : length xs ≤ i → AllSoFar now i → (es : Entries) → old ++ all_tables (map f xs) s es ≡ now ++ es
  all-done h inv es = inv es ∙ ap (λ l. now ++ all_tables (map f l) s es) (all-behind xs i h)

pub all-first : {A : Type 0} (f : A → Told) (xs : List A) (s : Scope) (old : Entries) → AllSoFar f xs 0 s old old old 0
all-first f xs s old es = refl

module _ {A : Type 0} (f : A → FunctionTold) (xs : List A) (i : ℕ) (ps : List Piece) (cs : List ℕ) (ms : List Member) (old now : Entries) where
  abbrev pub FunctionsSoFar : Entries → (n : ℕ) → Type 0
  FunctionsSoFar l n = (es : Entries) → old ++ functions_table (map f xs) ps cs ms es ≡ l ++ functions_table (map f (drop n xs)) ps cs ms es

  pub functions-next : (x d : A) (ks : List Member) (new : Entries) → i < length xs → x ≡ get_or xs i d → ks ≡ ms → ((es : Entries) → now ++ (f x).table ps cs ks es ≡ new ++ es) → FunctionsSoFar now i → FunctionsSoFar new (i + 1)
  functions-next x d ks new lt is k h inv es =
      inv es ∙ ap (λ ts. now ++ functions_table ts ps cs ms es) (ahead f xs i x d lt is) ∙ ap (λ m. now ++ (f x).table ps cs m (functions_table (map f (drop (i + 1) xs)) ps cs ms es)) (sym k)
      ∙ h (functions_table (map f (drop (i + 1) xs)) ps cs ms es)

  pub functions-done : length xs ≤ i → FunctionsSoFar now i → (es : Entries) → old ++ functions_table (map f xs) ps cs ms es ≡ now ++ es
  functions-done h inv es = inv es ∙ ap (λ l. now ++ functions_table (map f l) ps cs ms es) (all-behind xs i h)

-- Steps

pub backs-last : (ts : List StepTold) (t : StepTold) (s : Scope) (es : Entries) → backs (ts ++ t ∷ []) s es ≡ t.back (after ts s) (backs ts s es)
backs-last [] t s es = refl
backs-last (r ∷ ts) t s es = backs-last ts t (more r.binds s) (r.back s es)

pub after-last : (ts : List StepTold) (t : StepTold) (s : Scope) → after (ts ++ t ∷ []) s ≡ more t.binds (after ts s)
after-last [] t s = refl
after-last (r ∷ ts) t s = after-last ts t (more r.binds s)

pub marks-last : (ts : List StepTold) (t : StepTold) (s : Scope) → marks (ts ++ t ∷ []) s ≡ marks ts s ++ length (visible (after ts s)) ∷ []
marks-last [] t s = refl
marks-last (r ∷ ts) t s = ap (λ l. length (visible s) ∷ l) (marks-last ts t (more r.binds s))

pub marks-long : (ts : List StepTold) (s : Scope) → length (marks ts s) ≡ length ts
marks-long [] s = refl
marks-long (t ∷ ts) s = ap suc (marks-long ts (more t.binds s))

map-long : {A B : Type 0} (g : A → B) (xs : List A) → length (map g xs) ≡ length xs
map-long g [] = refl
map-long g (x ∷ xs) = ap suc (map-long g xs)

module _ {A : Type 0} (f : A → StepTold) (xs : List A) where
  pub marked-long : (s : Scope) (ks : List ℕ) → ks ≡ marks (map f xs) s → length ks ≡ length xs
  marked-long s ks e = ap length e ∙ marks-long (map f xs) s ∙ map-long f xs

  abbrev pub StepsSoFar : (s : Scope) (old : Entries) → (now : Entries) (scope : Scope) (n : ℕ) → Type 0
  StepsSoFar s old now scope n =
      (T : Scope → Entries → Entries) (es : Entries) → old ++ steps_table (map f xs) T s es ≡ now ++ steps_table (map f (drop n xs)) T scope (backs (map f (take n xs)) s es)

  module _ (i : ℕ) (x d : A) (s scope : Scope) (old now new : Entries) (lt : i < length xs) (is : x ≡ get_or xs i d) (at : scope ≡ after (map f (take i xs)) s) where
    grown : map f (take (i + 1) xs) ≡ map f (take i xs) ++ f x ∷ []
    grown = seen f xs i x d lt is

    pub steps-next : (scope' : Scope) → scope' ≡ more (f x).binds scope → ((es : Entries) → now ++ (f x).front scope es ≡ new ++ es) → StepsSoFar s old now scope i → StepsSoFar s old new scope' (i + 1)
    steps-next scope' b h inv T es =
        inv T es ∙ ap (λ ts. now ++ steps_table ts T scope (backs (map f (take i xs)) s es)) (ahead f xs i x d lt is)
        ∙ h (steps_table (map f (drop (i + 1) xs)) T (more (f x).binds scope) ((f x).back scope (backs (map f (take i xs)) s es)))
        ∙ ap₂ (λ z l. new ++ steps_table (map f (drop (i + 1) xs)) T z l) (sym b)
        (ap (λ z. (f x).back z (backs (map f (take i xs)) s es)) at ∙ sym (backs-last (map f (take i xs)) (f x) s es) ∙ ap (λ ts. backs ts s es) (sym grown))

    pub after-next : (scope' : Scope) → scope' ≡ more (f x).binds scope → scope' ≡ after (map f (take (i + 1) xs)) s
    after-next scope' b = b ∙ ap (more (f x).binds) at ∙ sym (after-last (map f (take i xs)) (f x) s) ∙ ap (λ ts. after ts s) (sym grown)

    pub marks-next : (ks ks' ks₀ : List ℕ) → ks ≡ ks₀ ++ marks (map f (take i xs)) s → ks' ≡ ks ++ length (visible scope) ∷ [] → ks' ≡ ks₀ ++ marks (map f (take (i + 1) xs)) s
    marks-next ks ks' ks₀ k e =
        e ∙ ap₂ (λ l z. l ++ length (visible z) ∷ []) k at ∙ assoc ks₀ (marks (map f (take i xs)) s) (length (visible (after (map f (take i xs)) s)) ∷ [])
        ∙ ap (λ l. ks₀ ++ l) (sym (marks-last (map f (take i xs)) (f x) s) ∙ ap (λ ts. marks ts s) (sym grown))

  pub steps-done : (i : ℕ) (s scope : Scope) (old now : Entries) → length xs ≤ i → StepsSoFar s old now scope i
      → (T : Scope → Entries → Entries) (es : Entries) → old ++ steps_table (map f xs) T s es ≡ now ++ T scope (backs (map f xs) s es)
  steps-done i s scope old now h inv T es =
      inv T es ∙ ap₂ (λ l k. now ++ steps_table (map f l) T scope (backs (map f k) s es)) (all-behind xs i h) (all-before xs i h)

  pub after-done : (i : ℕ) (s scope : Scope) → length xs ≤ i → scope ≡ after (map f (take i xs)) s → scope ≡ after (map f xs) s
  after-done i s scope h e = e ∙ ap (λ l. after (map f l) s) (all-before xs i h)

  pub marks-done : (i : ℕ) (s : Scope) (ks ks₀ : List ℕ) → length xs ≤ i → ks ≡ ks₀ ++ marks (map f (take i xs)) s → ks ≡ ks₀ ++ marks (map f xs) s
  marks-done i s ks ks₀ h e = e ∙ ap (λ l. ks₀ ++ marks (map f l) s) (all-before xs i h)

  -- back again

  pub mark-at : (i d : ℕ) (s : Scope) → i < length xs → get_or (marks (map f xs) s) i d ≡ length (visible (after (map f (take i xs)) s))
  mark-at i d s h = go xs i s h
    where
      go : (ys : List A) (i : ℕ) (s : Scope) → i < length ys → get_or (marks (map f ys) s) i d ≡ length (visible (after (map f (take i ys)) s))
      go [] i s h = absurd (omega (arith, h))
      go (y ∷ ys) zero s h = refl
      go (y ∷ ys) (suc i) s h = go ys i (more (f y).binds s) (omega (arith, h))

  pub back-scope : (n i mark d : ℕ) (x e : A) (s scope scope' : Scope) (ks : List ℕ) → n ≡ i + 1 → i < length xs → x ≡ get_or xs i e → mark ≡ get_or ks i d → ks ≡ marks (map f xs) s → scope ≡ after (map f (take n xs)) s → scope' ≡ left_to mark scope
      → scope' ≡ after (map f (take i xs)) s
  back-scope n i mark d x e s scope scope' ks m lt is k q at b =
      left-is (f x).binds (after (map f (take i xs)) s) scope scope' mark (k ∙ ap (λ l. get_or l i d) q ∙ mark-at i d s lt)
      (at ∙ ap (λ v. after (map f (take v xs)) s) m ∙ ap (λ ts. after ts s) (seen f xs i x e lt is) ∙ after-last (map f (take i xs)) (f x) s) b

  pub back-next : (n i : ℕ) (x e : A) (s scope' : Scope) (old now new : Entries) → n ≡ i + 1 → i < length xs → x ≡ get_or xs i e → scope' ≡ after (map f (take i xs)) s → ((es : Entries) → now ++ (f x).back scope' es ≡ new ++ es)
      → ((es : Entries) → old ++ backs (map f xs) s es ≡ now ++ backs (map f (take n xs)) s es) → (es : Entries) → old ++ backs (map f xs) s es ≡ new ++ backs (map f (take i xs)) s es
  back-next n i x e s scope' old now new m lt is at h inv es =
      inv es ∙ ap (λ v. now ++ backs (map f (take v xs)) s es) m ∙ ap (λ ts. now ++ backs ts s es) (seen f xs i x e lt is) ∙ ap (λ l. now ++ l) (backs-last (map f (take i xs)) (f x) s es ∙ ap (λ z. (f x).back z (backs (map f (take i xs)) s es)) (sym at))
      ∙ h (backs (map f (take i xs)) s es)

-- A group's functions

pub member-told : (f : Function) → (function_told f).member ≡ record { name = f.variable; number = first_parameter f.parameters.items f.last }
member-told f = ap (λ (r : FunctionTold). r.member) (fold_out-Function Told StepTold Told FunctionTold node_exp node_step node_arm node_function f)

pub table-told : (f : Function) (ps : List Piece) (cs : List ℕ) (ms : List Member) (es : Entries)
    → (function_told f).table ps cs ms es ≡ function_table (exp_told f.body).uses f.parameters.items f.last (exp_told f.body).table ps cs ms es
table-told f ps cs ms es = ap (λ (r : FunctionTold). r.table ps cs ms es) (fold_out-Function Told StepTold Told FunctionTold node_exp node_step node_arm node_function f)

-- one of one parameter gives no function
pub no-uses : (us vs : List ℕ) (xs : List Parameter) (x : Parameter) (T : Scope → Entries → Entries) (ps : List Piece) (cs : List ℕ) (ms : List Member) (es : Entries) → length xs ≡ 0
    → function_table us xs x T ps cs ms es ≡ function_table vs xs x T ps cs ms es
no-uses us vs [] x T ps cs ms es z = refl
no-uses us vs (y ∷ xs) x T ps cs ms es z = absurd (omega (arith, z))

-- what is told of a table in other words
pub told-kept : {V E : Type 0} (r : Result V E) (old new : Entries) (A B : Entries → Entries) → ((es : Entries) → A es ≡ B es) → IfOk r (λ _. (es : Entries) → old ++ B es ≡ new ++ es) → IfOk r (λ _. (es : Entries) → old ++ A es ≡ new ++ es)
told-kept (Ok v) old new A B h k = λ es. ap (λ l. old ++ l) (h es) ∙ k es
told-kept (Err e) old new A B h k = k

pub members-next : (fs : List Function) (i : ℕ) (f d : Function) (ps : List Parameter) (k : ℕ) (now new : List code.Member) → i < length fs → f ≡ get_or fs i d → ps ≡ f.parameters.items → k ≡ first_parameter ps f.last
    → new ≡ now ++ record { name = f.variable; number = k } ∷ [] → members_of now ≡ members_told (map function_told (take i fs)) → members_of new ≡ members_told (map function_told (take (i + 1) fs))
members-next fs i f d ps k now new lt is p n e h =
    ap members_of e ∙ more-members now (record { name = f.variable; number = k }) ∙ ap₂ (λ l m. l ++ m ∷ []) h (ap (λ v. record { name = f.variable; number = v }) (n ∙ ap (λ l. first_parameter l f.last) p) ∙ sym (member-told f))
    ∙ sym (ap members_told (seen function_told fs i f d lt is) ∙ more-told (map function_told (take i fs)) (function_told f))
  where
    more-members : (ms : List code.Member) (m : code.Member) → members_of (ms ++ m ∷ []) ≡ members_of ms ++ member_of m ∷ []
    more-members [] m = refl
    more-members (x ∷ ms) m = ap (λ l. member_of x ∷ l) (more-members ms m)

    more-told : (ts : List FunctionTold) (t : FunctionTold) → members_told (ts ++ t ∷ []) ≡ members_told ts ++ t.member ∷ []
    more-told [] t = refl
    more-told (x ∷ ts) t = ap (λ l. x.member ∷ l) (more-told ts t)

-- What is left of a curried function

pub first-at : (ys : List Parameter) (i : ℕ) (last d : Parameter) → i < length ys → (get_or ys i d).variable ≡ first_parameter (drop i ys) last
first-at [] i last d h = absurd (omega (arith, h))
first-at (y ∷ ys) zero last d h = refl
first-at (y ∷ ys) (suc i) last d h = first-at ys i last d (omega (arith, h))

pub first-past : (ys : List Parameter) (i : ℕ) (last : Parameter) → length ys ≤ i → last.variable ≡ first_parameter (drop i ys) last
first-past ys i last h = ap (λ l. first_parameter l last) (sym (all-behind ys i h))
