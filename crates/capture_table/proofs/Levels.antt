-- The functions that a curried one gives are those of the table.
use Rattle.std.proofs.Common.{◌≡◌, ℕ, zero, suc, ◌+◌, ◌<◌, ◌≤◌, Bool, true, false, ◌||◌, List, [], ◌∷◌, ◌++◌, map, take, drop, length, get_or, nat_eq, ◌==◌, if◌then◌else◌, refl, sym, ap, ap₂, subst, ◌∙◌, arith}
use Rattle.std.proofs.lemmas.Bool.{eqb-true}
use Rattle.std.proofs.lemmas.List.{append-nil, drop_more, length-take-le, length-append}
use Rattle.flow_sets.specs.Member.{is_in}
use Rattle.flow_sets.proofs.Member.{nat_eq-to, nat_eq-same, or_left}
use Rattle.plain_tree.specs.declared.tree.Parameter.{Parameter}
use Rattle.plain_tree.specs.Sums.{variables_of}
use Rattle.closure_convert.specs.Scope.{Scope, names, add, index_of, Piece, alone, those}
use Rattle.closure_convert.specs.Closed.{scope_of}
use Rattle.closure_convert.specs.Capture.{onto, visible, kept, is_outer, add_run, cut}
use Rattle.closure_convert.specs.Counts.{AreDistinct}
use Rattle.closure_convert.proofs.Cut.{in-joined}
use Rattle.closure_convert.proofs.Curried.{apart-from, outer-in, not_left, not-both, kept-holds}
use Rattle.capture_scope.specs.declared.piece.Piece as code_piece
use Rattle.capture_scope.specs.declared.piece.Piece.TheVariants as piece
use Rattle.capture_scope.specs.Found.{piece_of, pieces_of}
use Rattle.capture_scope.specs.Repeats.{times_in}
use Rattle.capture_scope.proofs.Lists.{apart, index-back}
use Rattle.capture_scope.proofs.Repeating.{times-append, times-kept}
use Rattle.capture_table.specs.Told.{Entries, used_in, first_parameter, entry, function_table}
use Rattle.capture_table.specs.Levels.{whole, made_of, used, levels}
use Rattle.capture_table.proofs.Growing.{assoc}
use Rattle.capture_table.proofs.Parts.{at-end}

kept-append : (p : ℕ → Bool) (xs ys : List ℕ) → kept p (xs ++ ys) ≡ kept p xs ++ kept p ys
kept-append p [] ys = refl
kept-append p (x ∷ xs) ys = pick (p x) (kept-append p xs ys)
  where
    pick : (b : Bool) → kept p (xs ++ ys) ≡ kept p xs ++ kept p ys → (if b then x ∷ kept p (xs ++ ys) else kept p (xs ++ ys)) ≡ (if b then x ∷ kept p xs else kept p xs) ++ kept p ys
    pick true e = ap (λ l. x ∷ l) e
    pick false e = e

kept-again : (p : ℕ → Bool) (xs : List ℕ) → kept p (kept p xs) ≡ kept p xs
kept-again p [] = refl
kept-again p (x ∷ xs) = pick (p x) refl (kept-again p xs)
  where
    pick : (b : Bool) → p x ≡ b → kept p (kept p xs) ≡ kept p xs → kept p (if b then x ∷ kept p xs else kept p xs) ≡ (if b then x ∷ kept p xs else kept p xs)
    pick true q e = ap (λ (c : Bool). if c then x ∷ kept p (kept p xs) else kept p (kept p xs)) q ∙ ap (λ l. x ∷ l) e
    pick false q e = e

-- what is captured is used
pub captured-used : (s : Scope) (uses cs : List ℕ) → cs ≡ used_in s uses → cs ≡ used uses cs
captured-used s uses cs e = e ∙ sym (kept-again (λ y. is_in y uses) (visible s)) ∙ ap (used uses) (sym e)

kept-one : (p : ℕ → Bool) (y : ℕ) (ys : List ℕ) → kept p (y ∷ ys) ≡ kept p (y ∷ []) ++ kept p ys
kept-one p y ys = pick (p y)
  where
    pick : (b : Bool) → (if b then y ∷ kept p ys else kept p ys) ≡ (if b then y ∷ [] else []) ++ kept p ys
    pick true = refl
    pick false = refl

-- A run

abbrev run : (i n : ℕ) → List Piece
run i zero = []
run i (suc n) = those i (suc n) ∷ []

-- it isn't joined with what is alone
data Alone : List Piece → Type 0 where
  none : Alone []
  some : (y : ℕ) (ps : List Piece) → Alone (alone y ∷ ps)

longer-run : (i n : ℕ) (ps : List Piece) → Alone ps → add_run i (run (suc i) n ++ ps) ≡ run i (suc n) ++ ps
longer-run i zero ps none = refl
longer-run i zero ps (some y qs) = refl
longer-run i (suc n) ps a = ap (λ b. if b then those i (suc (suc n)) ∷ ps else those i (suc zero) ∷ those (suc i) (suc n) ∷ ps) (nat_eq-same (suc i))

at-front : (front ys : List ℕ) (y : ℕ) → is_in y front ≡ false → index_of y (front ++ y ∷ ys) ≡ length front
at-front front ys y n = index-back y front (y ∷ ys) n ∙ (let e : index_of y (y ∷ ys) ≡ zero = ap (λ b. if b then zero else suc (index_of y ys)) (nat_eq-same y) in let q : length front + index_of y (y ∷ ys) ≡ length front = omega (arith, e) in q)

module _ (x : ℕ) (zs : List ℕ) where
  -- all that was captured from a place on, and what is alone
  rest-cut : (front ys cs : List ℕ) → cs ≡ front ++ ys → AreDistinct cs → is_in x cs ≡ false → Alone (cut (scope_of cs [] x) zs) → cut (scope_of cs [] x) (ys ++ zs) ≡ run (length front) (length ys) ++ cut (scope_of cs [] x) zs
  rest-cut front [] cs e d n a = refl
  rest-cut front (y ∷ ys) cs e d n a =
      let s = scope_of cs [] x in
      let here : is_in y cs ≡ true = ap (is_in y) e ∙ in-joined y front (y ∷ ys) ∙ ap (λ b. is_in y front || (b || is_in y ys)) (nat_eq-same y) ∙ right (is_in y front) in
      let outer : is_outer s y ≡ true = outer-in cs [] x y (apart-from x y cs n here) refl here in
      let before : is_in y front ≡ false = out y front (subst AreDistinct e d) in
      let place : index_of y cs ≡ length front = ap (index_of y) e ∙ at-front front ys y before in
      let more : cut s (ys ++ zs) ≡ run (suc (length front)) (length ys) ++ cut s zs =
      rest-cut (front ++ y ∷ []) ys cs (e ∙ sym (assoc front (y ∷ []) ys)) d n a ∙ ap (λ k. run k (length ys) ++ cut s zs) (let l = length-append front (y ∷ []) in let q : length (front ++ y ∷ []) ≡ suc (length front) = omega (arith, l) in q) in
      ap (λ b. if b then add_run (index_of y cs) (cut s (ys ++ zs)) else alone y ∷ cut s (ys ++ zs)) outer ∙ ap₂ add_run place more ∙ longer-run (length front) (length ys) (cut s zs) a
    where
      right : (b : Bool) → (b || (true || is_in y ys)) ≡ true
      right true = refl
      right false = refl

      out : (y : ℕ) (front : List ℕ) → AreDistinct (front ++ y ∷ ys) → is_in y front ≡ false
      out y front d = go (is_in y front) refl
        where
          go : (b : Bool) → is_in y front ≡ b → b ≡ false
          go true q = not-both (is_in y (y ∷ ys)) (or_left (nat_eq y y) (is_in y ys) (nat_eq-same y)) (apart y front (y ∷ ys) d q)
          go false q = refl

whole-run : (n : ℕ) → pieces_of (whole n) ≡ run zero n
whole-run zero = refl
whole-run (suc n) = refl

pieces-append : (ps qs : List code_piece.Piece) → pieces_of (ps ++ qs) ≡ pieces_of ps ++ pieces_of qs
pieces-append [] qs = refl
pieces-append (p ∷ ps) qs = ap (λ l. piece_of p ∷ l) (pieces-append ps qs)

made-is : (n : ℕ) (ys : List ℕ) → pieces_of (made_of n ys) ≡ run zero n ++ pieces_of (map piece.Alone ys)
made-is n ys = pieces-append (whole n) (map piece.Alone ys) ∙ ap (λ l. l ++ pieces_of (map piece.Alone ys)) (whole-run n)

-- one level

abbrev own : (uses : List ℕ) → ℕ → List ℕ
own uses x = used uses (x ∷ [])

local-cut : (cs : List ℕ) (x : ℕ) → cut (scope_of cs [] x) (x ∷ []) ≡ alone x ∷ []
local-cut cs x = ap (λ b. if (if b || false then false else is_in x cs) then add_run (index_of x cs) [] else alone x ∷ []) (nat_eq-same x)

module _ (uses cs : List ℕ) (x : ℕ) (c : cs ≡ used uses cs) where
  level-used : used_in (scope_of cs [] x) uses ≡ cs ++ own uses x
  level-used = kept-append (λ y. is_in y uses) cs (x ∷ []) ∙ ap (λ l. l ++ own uses x) (sym c)

  level-again : cs ++ own uses x ≡ used uses (cs ++ own uses x)
  level-again = sym (kept-append (λ y. is_in y uses) cs (own uses x) ∙ ap₂ (λ a b. a ++ b) (sym c) (kept-again (λ y. is_in y uses) (x ∷ [])))

  level-cut : AreDistinct (cs ++ own uses x) → cut (scope_of cs [] x) (cs ++ own uses x) ≡ pieces_of (made_of (length cs) (own uses x))
  level-cut d = pick (is_in x uses) refl d ∙ sym (made-is (length cs) (own uses x))
    where
      front : (ys zs : List ℕ) → AreDistinct (ys ++ zs) → AreDistinct ys
      front [] zs d = tt
      front (y ∷ ys) zs d = (not_left (is_in y ys) (is_in y zs) (sym (in-joined y ys zs) ∙ d.0), front ys zs d.1)

      unused : is_in x uses ≡ false → (b : Bool) → is_in x cs ≡ b → b ≡ false
      unused q true e = not-both (is_in x uses) (kept-holds (λ y. is_in y uses) x cs (ap (is_in x) (sym c) ∙ e)) q
      unused q false e = refl

      after : AreDistinct (cs ++ x ∷ []) → (b : Bool) → is_in x cs ≡ b → b ≡ false
      after d true e = not-both (is_in x (x ∷ [])) (or_left (nat_eq x x) false (nat_eq-same x)) (apart x cs (x ∷ []) d e)
      after d false e = refl

      pick : (b : Bool) → is_in x uses ≡ b → AreDistinct (cs ++ (if b then x ∷ [] else [])) → cut (scope_of cs [] x) (cs ++ (if b then x ∷ [] else [])) ≡ run zero (length cs) ++ pieces_of (map piece.Alone (if b then x ∷ [] else []))
      pick true q d =
          rest-cut x (x ∷ []) [] cs cs refl (front cs (x ∷ []) d) (after d (is_in x cs) refl) (subst Alone (sym (local-cut cs x)) (some x [])) ∙ ap (λ l. run zero (length cs) ++ l) (local-cut cs x)
      pick false q d = rest-cut x [] [] cs cs refl (front cs [] d) (unused q (is_in x cs) refl) none

-- all of them, and the body of the last
module _ (uses : List ℕ) (last : Parameter) (T : Scope → Entries → Entries) where
  pub levels-told : (ys : List Parameter) (ps : List Piece) (cs : List ℕ) (es : Entries) → cs ≡ used uses cs → AreDistinct (cs ++ used uses (variables_of ys))
      → function_table uses ys last T ps cs [] es ≡ entry (first_parameter ys last) ps cs ∷ (levels uses ys last cs ++ T (scope_of (cs ++ used uses (variables_of ys)) [] last.variable) es)
  levels-told [] ps cs es c d = ap (λ l. entry last.variable ps cs ∷ T (scope_of l [] last.variable) es) (sym (append-nil cs))
  levels-told (y ∷ ys) ps cs es c d =
      let x = y.variable in
      let all : cs ++ used uses (x ∷ variables_of ys) ≡ (cs ++ own uses x) ++ used uses (variables_of ys) =
      ap (λ l. cs ++ l) (kept-one (λ z. is_in z uses) x (variables_of ys)) ∙ sym (assoc cs (own uses x) (used uses (variables_of ys))) in
      let d' : AreDistinct ((cs ++ own uses x) ++ used uses (variables_of ys)) = subst AreDistinct all d in
      let u = level-used uses cs x c in
      ap (λ l. entry x ps cs ∷ l)
      (ap (λ w. function_table uses ys last T (cut (scope_of cs [] x) w) w [] es) u
      ∙ levels-told ys (cut (scope_of cs [] x) (cs ++ own uses x)) (cs ++ own uses x) es (level-again uses cs x c) d'
      ∙ ap₂ (λ p l. entry (first_parameter ys last) p (cs ++ own uses x) ∷ (levels uses ys last (cs ++ own uses x) ++ T (scope_of l [] last.variable) es)) (level-cut uses cs x c (front (cs ++ own uses x) (used uses (variables_of ys)) d')) (sym all))
    where
      front : (ys zs : List ℕ) → AreDistinct (ys ++ zs) → AreDistinct ys
      front [] zs d = tt
      front (y ∷ ys) zs d = (not_left (is_in y ys) (is_in y zs) (sym (in-joined y ys zs) ∙ d.0), front ys zs d.1)

-- what the innermost captures
pub innermost-is : (uses cs xs all : List ℕ) → cs ≡ used uses cs → all ≡ used uses (cs ++ xs) → all ≡ cs ++ used uses xs
innermost-is uses cs xs all c a = a ∙ kept-append (λ y. is_in y uses) cs xs ∙ ap (λ l. l ++ used uses xs) (sym c)

pub innermost-within : (uses cs all : List ℕ) (ys : List Parameter) → all ≡ used uses (cs ++ variables_of ys) → (k : ℕ) → times_in k all ≤ times_in k cs + times_in k (variables_of ys)
innermost-within uses cs all ys a k =
    let e : times_in k all ≡ times_in k (used uses (cs ++ variables_of ys)) = ap (times_in k) a in
    let b = times-kept k (λ y. is_in y uses) (cs ++ variables_of ys) in
    let c = times-append k cs (variables_of ys) in
    omega (arith, e, b, c)

-- it begins with what the first captures
pub front-of : (cs xs all : List ℕ) (n : ℕ) → all ≡ cs ++ xs → n ≡ length cs → (take n all ≡ cs) × ((drop n all ≡ xs) × (n ≤ length all))
front-of cs xs all n a e =
    let l = length-append cs xs in
    let u : length all ≡ length (cs ++ xs) = ap length a in
    (ap₂ take e a ∙ taken cs, (ap₂ drop e a ∙ at-end cs xs, omega (arith, e, l, u)))
  where
    taken : (ys : List ℕ) → take (length ys) (ys ++ xs) ≡ ys
    taken [] = refl
    taken (y ∷ ys) = ap (λ l. y ∷ l) (taken ys)

-- what the last captures, with all parameters bound before it
visible-add : (x : ℕ) (s : Scope) → visible (add x s) ≡ visible s ++ x ∷ []
visible-add x s =
    ap (λ l. s.captured ++ (names s.group ++ l)) (onto-last s.locals [] (x ∷ [])) ∙ ap (λ l. s.captured ++ l) (sym (assoc (names s.group) (onto s.locals []) (x ∷ []))) ∙ sym (assoc s.captured (names s.group ++ onto s.locals []) (x ∷ []))
  where
    onto-last : (ls ys zs : List ℕ) → onto ls (ys ++ zs) ≡ onto ls ys ++ zs
    onto-last [] ys zs = refl
    onto-last (l ∷ ls) ys zs = onto-last ls (l ∷ ys) zs

variables-more : (ys : List Parameter) (i : ℕ) (d : Parameter) → i < length ys → variables_of (take (suc i) ys) ≡ variables_of (take i ys) ++ (get_or ys i d).variable ∷ []
variables-more [] i d lt = absurd (omega (arith, lt))
variables-more (y ∷ ys) zero d lt = refl
variables-more (y ∷ ys) (suc i) d lt = ap (λ l. y.variable ∷ l) (variables-more ys i d (omega (arith, lt)))

pub bound-next : (cs : List ℕ) (ys : List Parameter) (i x : ℕ) (d : Parameter) (s s' : Scope) → i < length ys → x ≡ (get_or ys i d).variable → s' ≡ add x s → visible s ≡ cs ++ variables_of (take i ys) → visible s' ≡ cs ++ variables_of (take (i + 1) ys)
bound-next cs ys i x d s s' lt is e h =
    let m : i + 1 ≡ suc i = omega arith in
    ap visible e ∙ visible-add x s ∙ ap₂ (λ l z. l ++ z ∷ []) h is ∙ assoc cs (variables_of (take i ys)) ((get_or ys i d).variable ∷ []) ∙ ap (λ l. cs ++ l) (sym (ap (λ j. variables_of (take j ys)) m ∙ variables-more ys i d lt))

pub bound-all : (cs : List ℕ) (ys : List Parameter) (i : ℕ) (s : Scope) → length ys ≤ i → visible s ≡ cs ++ variables_of (take i ys) → visible s ≡ cs ++ variables_of ys
bound-all cs ys i s le h = h ∙ ap (λ l. cs ++ variables_of l) (taken ys i le)
  where
    taken : (ys : List Parameter) (i : ℕ) → length ys ≤ i → take i ys ≡ ys
    taken [] zero h = refl
    taken [] (suc i) h = refl
    taken (y ∷ ys) zero h = absurd (omega (arith, h))
    taken (y ∷ ys) (suc i) h = ap (λ l. y ∷ l) (taken ys i (omega (arith, h)))

-- One level after the other

next-used : (c : ℕ) (xs : List ℕ) (y : ℕ) (ys : List ℕ) → drop c xs ≡ y ∷ ys → (drop (suc c) xs ≡ ys) × (take (suc c) xs ≡ take c xs ++ y ∷ [])
next-used zero [] y ys h = absurd (cc)
next-used zero (x ∷ xs) y ys h = let e : x ≡ y = (cc) in let q : xs ≡ ys = (cc) in (q, ap (λ z. z ∷ []) e)
next-used (suc c) [] y ys h = absurd (cc)
next-used (suc c) (x ∷ xs) y ys h = let r = next-used c xs y ys h in (r.0, ap (λ l. x ∷ l) r.1)

-- where the next stands
pub next-is : (innermost : List ℕ) (count v : ℕ) (uses ys : List ℕ) → count < length innermost → drop count innermost ≡ used uses (v ∷ ys) → nat_eq (get_or innermost count 0) v ≡ is_in v uses
next-is innermost count v uses ys lt h = pick (is_in v uses) refl
  where
    stands : drop count innermost ≡ get_or innermost count 0 ∷ drop (count + 1) innermost
    stands = drop_more innermost count 0 lt

    apart-by : (b : Bool) → nat_eq (get_or innermost count 0) v ≡ b → is_in v uses ≡ false → is_in (get_or innermost count 0) uses ≡ true → b ≡ false
    apart-by true e n k = not-both (is_in v uses) (ap (λ z. is_in z uses) (sym (nat_eq-to (get_or innermost count 0) v e)) ∙ k) n
    apart-by false e n k = refl

    pick : (b : Bool) → is_in v uses ≡ b → nat_eq (get_or innermost count 0) v ≡ b
    pick true e =
        let z : get_or innermost count 0 ∷ drop (count + 1) innermost ≡ v ∷ used uses ys = sym stands ∙ h ∙ ap (λ b. if b then v ∷ used uses ys else used uses ys) e in
        let q : get_or innermost count 0 ≡ v = (cc) in
        ap (λ w. nat_eq w v) q ∙ nat_eq-same v
    pick false e =
        let z : get_or innermost count 0 ∷ drop (count + 1) innermost ≡ used uses ys = sym stands ∙ h ∙ ap (λ b. if b then v ∷ used uses ys else used uses ys) e in
        let first : is_in (get_or innermost count 0) (used uses ys) ≡ true = ap (is_in (get_or innermost count 0)) (sym z) ∙ or_left (nat_eq (get_or innermost count 0) (get_or innermost count 0)) _ (nat_eq-same (get_or innermost count 0)) in
        apart-by (nat_eq (get_or innermost count 0) v) refl e (kept-holds (λ y. is_in y uses) (get_or innermost count 0) ys first)

-- the next is used, or not
pub is-next : (innermost : List ℕ) (count : ℕ) (y : ℕ) (uses ys : List ℕ) → drop count innermost ≡ used uses (y ∷ ys) → (b : Bool) → b ≡ is_in y uses
    → (drop (if b then count + 1 else count) innermost ≡ used uses ys) × (take (if b then count + 1 else count) innermost ≡ take count innermost ++ (if b then y ∷ [] else []))
is-next innermost count y uses ys h true e =
    let m : count + 1 ≡ suc count = omega arith in
    let r = next-used count innermost y (used uses ys) (h ∙ ap (λ b. if b then y ∷ used uses ys else used uses ys) (sym e)) in
    (ap (λ n. drop n innermost) m ∙ r.0, ap (λ n. take n innermost) m ∙ r.1)
is-next innermost count y uses ys h false e = (h ∙ ap (λ b. if b then y ∷ used uses ys else used uses ys) (sym e), sym (append-nil (take count innermost)))

-- those that are left at a level
abbrev pub LevelsSoFar : (innermost uses : List ℕ) (parameters : List Parameter) (last : Parameter) (first : ℕ) (old : Entries) → (i count : ℕ) (now : Entries) → Type 0
LevelsSoFar innermost uses parameters last first old i count now =
    (drop count innermost ≡ used uses (variables_of (drop i parameters))) × (old ++ levels uses parameters last (take first innermost) ≡ now ++ levels uses (drop i parameters) last (take count innermost))

module _ (innermost uses : List ℕ) (parameters : List Parameter) (last : Parameter) (first : ℕ) (old : Entries) (i count : ℕ) (now : Entries) where
  pub level-next : (y d : Parameter) (b : Bool) (n count' : ℕ) (new : Entries) → i < length parameters → y ≡ get_or parameters i d → count ≤ length innermost → n ≡ first_parameter (drop (i + 1) parameters) last
      → ((ys : List ℕ) → drop count innermost ≡ used uses (y.variable ∷ ys) → b ≡ is_in y.variable uses) → count' ≡ (if b then count + 1 else count)
      → new ≡ now ++ entry n (pieces_of (made_of count (if b then y.variable ∷ [] else []))) (take count' innermost) ∷ []
      → LevelsSoFar innermost uses parameters last first old i count now → LevelsSoFar innermost uses parameters last first old (i + 1) count' new
  level-next y d b n count' new lt is le m t k e inv =
      let rest = drop (i + 1) parameters in
      let parts : drop i parameters ≡ y ∷ rest = drop_more parameters i d lt ∙ ap (λ z. z ∷ rest) (sym is) in
      let h : drop count innermost ≡ used uses (y.variable ∷ variables_of rest) = inv.0 ∙ ap (λ l. used uses (variables_of l)) parts in
      let q : b ≡ is_in y.variable uses = t (variables_of rest) h in
      let r = is-next innermost count y.variable uses (variables_of rest) h b q in
      let o : (if b then y.variable ∷ [] else []) ≡ own uses y.variable = ap (λ (c : Bool). if c then y.variable ∷ [] else []) q in
      let f : take count' innermost ≡ take count innermost ++ own uses y.variable = ap (λ j. take j innermost) k ∙ r.1 ∙ ap (λ l. take count innermost ++ l) o in
      let l : count ≡ length (take count innermost) = sym (length-take-le count innermost le) in (
        ap (λ j. drop j innermost) k ∙ r.0,
        inv.1 ∙ ap (λ z. now ++ levels uses z last (take count innermost)) parts
            ∙ ap₂ (λ j z. now ++ (entry (first_parameter rest last) (pieces_of (made_of j (own uses y.variable))) z ∷ levels uses rest last z)) (sym l) (sym f)
            ∙ ap₂ (λ j z. now ++ (entry j (pieces_of (made_of count z)) (take count' innermost) ∷ levels uses rest last (take count' innermost))) (sym m) (sym o)
            ∙ sym (assoc now (entry n (pieces_of (made_of count (if b then y.variable ∷ [] else []))) (take count' innermost) ∷ []) (levels uses rest last (take count' innermost)))
            ∙ ap (λ z. z ++ levels uses rest last (take count' innermost)) (sym e),
      )

pub no-levels : (uses : List ℕ) (ys : List Parameter) (last : Parameter) (cs : List ℕ) (old : Entries) (b : Bool) → b ≡ (length ys == 0) → b ≡ true → old ≡ old ++ levels uses ys last cs
no-levels uses [] last cs old b e t = sym (append-nil old)
no-levels uses (y ∷ ys) last cs old b e t = let z : length (y ∷ ys) ≡ 0 = eqb-true (length (y ∷ ys)) 0 (sym e ∙ t) in absurd (omega (arith, z))
