-- Steps that are made one after the other, and then the other arms of their tests from the last to the first.
use Rattle.std.proofs.Common.{◌≡◌, ℕ, zero, suc, ◌+◌, ◌-◌, ◌<◌, ◌≤◌, List, [], ◌∷◌, ◌++◌, map, take, drop, length, get_or, set, false, Option, Some, None, refl, sym, ap, ap₂, subst, ◌∙◌, arith}
use Rattle.std.proofs.lemmas.List.{append-nil, length-append}
use Rattle.ir_plain.specs.Tree as t
use Rattle.ir_mono.specs.Types as table
use Rattle.ir_mono.specs.Mono.{mono, Mono}
use Rattle.plain_tree.specs.declared.tree.Parameter.{Parameter}
use Rattle.plain_tree.specs.declared.tree.Case.{Case}
use Rattle.plain_tree.specs.declared.tree.Case.TheVariants as case
use Rattle.plain_tree.specs.declared.tree.Function.{Function}
use Rattle.plain_tree.specs.declared.tree.Step.{Step}
use Rattle.plain_tree.specs.TreeOf.{StepTree, let_step, exception_step, name_step, rec_step, test_step, counted_step, onto}
use Rattle.eta_expand.specs.Expand.{Names, is_given, name_takes, case_names, group_names, news, expand}
use Rattle.eta_parts.specs.Reads.{mono_step}
use Rattle.eta_code.specs.Scopes.{with_case, with_parameters, with_functions}
use Rattle.eta_code.specs.Steps.{binds, front, front_news, filled, back_news, afters, marks, fronts, fronts_news, backs_news, wholes, IsFronted, found_or, with_found}
use Rattle.eta_code.proofs.Building.{map-last, seen, ahead, all-behind, all-before}
use Rattle.eta_code.proofs.Wholes.{afters-last, marks-last, news-last, fronts-last, fronts-long, news-onto, expand-onto}

append-assoc : {A : Type 0} (a b c : List A) → (a ++ b) ++ c ≡ a ++ (b ++ c)
append-assoc [] b c = refl
append-assoc (n ∷ a) b c = ap (λ l. n ∷ l) (append-assoc a b c)

-- what a step binds comes in front

group-front : (types : List table.Row) (fs : t.Funs (mono types)) (N : Names) → (ks : Names) × (group_names types fs N ≡ ks ++ N)
group-front types t.no_funs N = ([], refl)
group-front types (t.fun x u g fs) N = let r = group-front types fs N in ((x, false) ∷ r.0, ap (λ l. (x, false) ∷ l) r.1)

case-front : (types : List table.Row) (c : t.Case (mono types)) (N : Names) → (ks : Names) × (case_names types c N ≡ ks ++ N)
case-front types (t.is_literal l) N = ([], refl)
case-front types (t.is_con c) N = ([], refl)
case-front types (t.is_con_of c x u) N = ((x, false) ∷ [], refl)
case-front types (t.is_exn y) N = ([], refl)
case-front types (t.is_exn_of y x u) N = ((x, false) ∷ [], refl)
case-front types (t.is_record size) N = ([], refl)

binds-front : (types : List table.Row) (s : StepTree (mono types)) (N : Names) → (ks : Names) × (binds types s N ≡ ks ++ N)
binds-front types (let_step x ps u o) N = ((x, false) ∷ [], refl)
binds-front types (exception_step x i u) N = ((x, is_given u) ∷ [], refl)
binds-front types (name_step x y) N = ((x, name_takes types N y) ∷ [], refl)
binds-front types (rec_step ps fs) N = group-front types fs N
binds-front types (test_step a u c others) N = case-front types c N
binds-front types (counted_step k) N = ([], refl)

drop-front : (ks N : Names) → drop (length ks) (ks ++ N) ≡ N
drop-front [] N = refl
drop-front (k ∷ ks) N = drop-front ks N

-- and is left again
pub left-in-front : (ks N M : Names) → M ≡ ks ++ N → drop (length M - length N) M ≡ N
left-in-front ks N M e =
    ap (λ l. drop (length l - length N) l) e
    ∙ ap (λ j. drop j (ks ++ N)) (let a = length-append ks N in let b : length (ks ++ N) - length N ≡ length ks = omega (arith, a) in b) ∙ drop-front ks N

left-one : (types : List table.Row) (s : StepTree (mono types)) (N : Names) → drop (length (binds types s N) - length N) (binds types s N) ≡ N
left-one types s N = let r = binds-front types s N in left-in-front r.0 N (binds types s N) r.1

pub left-case : (types : List table.Row) (c : t.Case (mono types)) (N : Names) → drop (length (case_names types c N) - length N) (case_names types c N) ≡ N
left-case types c N = let r = case-front types c N in left-in-front r.0 N (case_names types c N) r.1

pub left-group : (types : List table.Row) (fs : t.Funs (mono types)) (N : Names) → drop (length (group_names types fs N) - length N) (group_names types fs N) ≡ N
left-group types fs N = let r = group-front types fs N in left-in-front r.0 N (group_names types fs N) r.1

pub left-scope : (ks N M now new : Names) (len : ℕ) → M ≡ ks ++ N → now ≡ M → len ≡ length N → new ≡ drop (length now - len) now → new ≡ N
left-scope ks N M now new len e m l h = h ∙ ap₂ (λ v k. drop (length v - k) v) (m ∙ e) l ∙ left-in-front ks N (ks ++ N) refl

pub case-names-front : (c : Case) (N : Names) → (ks : Names) × (with_case c N ≡ ks ++ N)
case-names-front (case.Constant c) N = ([], refl)
case-names-front (case.Constructor c) N = ([], refl)
case-names-front (case.ConstructorOf c x) N = ((x.variable, false) ∷ [], refl)
case-names-front (case.Exception a) N = ([], refl)
case-names-front (case.ExceptionOf a x) N = ((x.variable, false) ∷ [], refl)
case-names-front (case.Record size) N = ([], refl)

pub parameters-front : (ys : List Parameter) (x : Parameter) (N : Names) → (ks : Names) × (with_parameters ys x N ≡ ks ++ N)
parameters-front [] x N = ((x.variable, false) ∷ [], refl)
parameters-front (y ∷ ys) x N = let r = parameters-front ys x ((y.variable, false) ∷ N) in (r.0 ++ (y.variable, false) ∷ [], r.1 ∙ sym (append-assoc r.0 ((y.variable, false) ∷ []) N))

pub functions-front : (fs : List Function) (N : Names) → (ks : Names) × (with_functions fs N ≡ ks ++ N)
functions-front [] N = ([], refl)
functions-front (f ∷ fs) N = let r = functions-front fs N in ((f.variable, false) ∷ r.0, ap (λ l. (f.variable, false) ∷ l) r.1)

module _ (types : List table.Row) (strings : List (List ℕ)) where
  abbrev S : Type 0
  S = StepTree (mono types)

  abbrev f : Step → S
  f = mono_step types strings

  pub record StepsSoFar (ss : List Step) (i : ℕ) (N names : Names) (n next : ℕ) (old made : List Step) (marked marks_now : List ℕ) : Type 0 where
    pub made_are : map f made ≡ map f old ++ fronts types N n (map f (take i ss))
    pub news_are : next ≡ n + fronts_news types N (map f (take i ss))
    pub names_are : names ≡ afters types N (map f (take i ss))
    pub seen_are : marks_now ≡ marked ++ marks types N (map f (take i ss))

  module _ (ss : List Step) (i : ℕ) (x d : Step) (N names : Names) (n now next : ℕ) (old made new : List Step) (g : Step) (marked seen_now seen_next : List ℕ) (lt : i < length ss) (is : x ≡ get_or ss i d)
      (h : StepsSoFar ss i N names n now old made marked seen_now) where
    grown : map f (take (i + 1) ss) ≡ map f (take i ss) ++ f x ∷ []
    grown = seen f ss i x d lt is

    pub step-next : (names' : Names) → new ≡ made ++ g ∷ [] → f g ≡ front types names now (f x) → next ≡ now + front_news types names (f x) → names' ≡ binds types (f x) names → seen_next ≡ seen_now ++ length names ∷ []
        → StepsSoFar ss (i + 1) N names' n next old new marked seen_next
    step-next names' e m k b s =
        let ts = map f (take i ss) in
        record {
          made_are =
              ap (map f) e ∙ map-last f made g ∙ ap₂ (λ l r. l ++ r ∷ []) h.made_are (m ∙ ap₂ (λ v j. front types v j (f x)) h.names_are h.news_are)
              ∙ append-assoc (map f old) (fronts types N n ts) (front types (afters types N ts) (n + fronts_news types N ts) (f x) ∷ [])
              ∙ ap (λ l. map f old ++ l) (sym (ap (fronts types N n) grown ∙ fronts-last types N n ts (f x)));
          news_are =
              let a : fronts_news types N (map f (take (i + 1) ss)) ≡ fronts_news types N (ts ++ f x ∷ []) = ap (fronts_news types N) grown in
              let l = news-last types N ts (f x) in
              let v : front_news types names (f x) ≡ front_news types (afters types N ts) (f x) = ap (λ v. front_news types v (f x)) h.names_are in
              let q = h.news_are in
              omega (arith, a, l, v, q, k);
          names_are = b ∙ ap (binds types (f x)) h.names_are ∙ sym (ap (afters types N) grown ∙ afters-last types N ts (f x));
          seen_are =
              s ∙ ap₂ (λ l v. l ++ length v ∷ []) h.seen_are h.names_are ∙ append-assoc marked (marks types N ts) (length (afters types N ts) ∷ [])
              ∙ ap (λ l. marked ++ l) (sym (ap (marks types N) grown ∙ marks-last types N ts (f x)));
        }

  pub none-stepped : (ss : List Step) (N : Names) (n : ℕ) (old : List Step) (marked : List ℕ) → StepsSoFar ss 0 N N n n old old marked marked
  none-stepped ss N n old marked = record { made_are = sym (append-nil (map f old)); news_are = omega arith; names_are = refl; seen_are = sym (append-nil marked) }

  pub all-stepped : (ss : List Step) (i : ℕ) (N names : Names) (n next : ℕ) (old made : List Step) (marked seen_now : List ℕ) → length ss ≤ i → StepsSoFar ss i N names n next old made marked seen_now
      → StepsSoFar ss (length ss) N names n next old made marked seen_now
  all-stepped ss i N names n next old made marked seen_now le h =
      let e : take i ss ≡ take (length ss) ss = all-before ss i le ∙ sym (all-before ss (length ss) (omega arith)) in
      record {
        made_are = h.made_are ∙ ap (λ l. map f old ++ fronts types N n (map f l)) e;
        news_are = h.news_are ∙ ap (λ l. n + fronts_news types N (map f l)) e;
        names_are = h.names_are ∙ ap (λ l. afters types N (map f l)) e;
        seen_are = h.seen_are ∙ ap (λ l. marked ++ marks types N (map f l)) e;
      }

  module _ (ss : List Step) (i : ℕ) (N names : Names) (n next : ℕ) (old made : List Step) (marked seen_now : List ℕ) (le : length ss ≤ i) (h : StepsSoFar ss i N names n next old made marked seen_now) where
    pub stepped-made : map f made ≡ map f old ++ fronts types N n (map f ss)
    stepped-made = h.made_are ∙ ap (λ l. map f old ++ fronts types N n (map f l)) (all-before ss i le)

    pub stepped-news : next ≡ n + fronts_news types N (map f ss)
    stepped-news = h.news_are ∙ ap (λ l. n + fronts_news types N (map f l)) (all-before ss i le)

    pub stepped-names : names ≡ afters types N (map f ss)
    stepped-names = h.names_are ∙ ap (λ l. afters types N (map f l)) (all-before ss i le)

    pub stepped-seen : seen_now ≡ marked ++ marks types N (map f ss)
    stepped-seen = h.seen_are ∙ ap (λ l. marked ++ marks types N (map f l)) (all-before ss i le)

  -- back again

  pub record OthersSoFar (ss : List Step) (left : ℕ) (N names : Names) (n m next : ℕ) (made : List Step) : Type 0 where
    pub made_are : map f made ≡ fronts types N n (map f (take left ss)) ++ wholes types (afters types N (map f (take left ss))) (n + fronts_news types N (map f (take left ss))) m (map f (drop left ss))
    pub news_are : next ≡ m + backs_news types (afters types N (map f (take left ss))) (map f (drop left ss))
    pub names_are : names ≡ afters types N (map f (take left ss))

  pub none-back : (ss : List Step) (left : ℕ) (N names : Names) (n m : ℕ) (seen_now : List ℕ) (made : List Step) → length ss ≤ left → IsFronted types N n names seen_now (map f made) (map f ss) → OthersSoFar ss left N names n m m made
  none-back ss left N names n m seen_now made le h =
      let a = all-before ss left le in
      let b = all-behind ss left le in
      record {
        made_are =
            h.made_are ∙ ap (λ l. fronts types N n (map f l)) (sym a) ∙ sym (append-nil (fronts types N n (map f (take left ss))))
            ∙ ap (λ l. fronts types N n (map f (take left ss)) ++ wholes types (afters types N (map f (take left ss))) (n + fronts_news types N (map f (take left ss))) m (map f l)) (sym b);
        news_are = let e : backs_news types (afters types N (map f (take left ss))) (map f (drop left ss)) ≡ 0 = ap (λ l. backs_news types (afters types N (map f (take left ss))) (map f l)) b in omega (arith, e);
        names_are = h.names_are ∙ ap (λ l. afters types N (map f l)) (sym a);
      }

  mark-at : (ss : List Step) (i d : ℕ) (N : Names) → i < length ss → get_or (marks types N (map f ss)) i d ≡ length (afters types N (map f (take i ss)))
  mark-at [] i d N h = absurd (omega (arith, h))
  mark-at (s ∷ ss) zero d N h = refl
  mark-at (s ∷ ss) (suc i) d N h = mark-at ss i d (binds types (f s) N) (omega (arith, h))

  set-here : {A : Type 0} (xs ys : List A) (x y : A) (i : ℕ) → i ≡ length xs → set (xs ++ x ∷ ys) i y ≡ xs ++ y ∷ ys
  set-here [] ys x y zero e = refl
  set-here [] ys x y (suc i) e = absurd (omega (arith, e))
  set-here (z ∷ xs) ys x y zero e = absurd (omega (arith, e))
  set-here (z ∷ xs) ys x y (suc i) e = ap (λ l. z ∷ l) (set-here xs ys x y i (omega (arith, e)))

  map-set : (xs : List Step) (i : ℕ) (x : Step) → map f (set xs i x) ≡ set (map f xs) i (f x)
  map-set [] i x = refl
  map-set (y ∷ xs) zero x = refl
  map-set (y ∷ xs) (suc i) x = ap (λ l. f y ∷ l) (map-set xs i x)

  -- what is found comes to its place
  found-here : (xs : List Step) (found : Option Step) (as_ bs : List S) (g : S) (i : ℕ) → map f xs ≡ as_ ++ g ∷ bs → i ≡ length as_ → map f (with_found xs i found) ≡ as_ ++ found_or types strings found g ∷ bs
  found-here xs None as_ bs g i e k = e
  found-here xs (Some s) as_ bs g i e k = map-set xs i s ∙ ap (λ l. set l i (f s)) e ∙ set-here as_ bs g (f s) i k

  length-take : {A : Type 0} (xs : List A) (i : ℕ) → i ≤ length xs → length (take i xs) ≡ i
  length-take xs zero h = refl
  length-take [] (suc i) h = absurd (omega (arith, h))
  length-take (x ∷ xs) (suc i) h = ap suc (length-take xs i (omega (arith, h)))

  length-map : (xs : List Step) → length (map f xs) ≡ length xs
  length-map [] = refl
  length-map (x ∷ xs) = ap suc (length-map xs)

  module _ (ss : List Step) (left i : ℕ) (x d : Step) (N names : Names) (n m now : ℕ) (made : List Step) (e : left ≡ i + 1) (lt : i < length ss) (is : x ≡ get_or ss i d) (h : OthersSoFar ss left N names n m now made) where
    abbrev pub ts : List S
    ts = map f (take i ss)

    abbrev pub N' : Names
    N' = afters types N ts

    abbrev pub rest : List S
    rest = map f (drop (i + 1) ss)

    taken : map f (take left ss) ≡ ts ++ f x ∷ []
    taken = ap (λ j. map f (take j ss)) e ∙ seen f ss i x d lt is

    left-over : map f (drop left ss) ≡ rest
    left-over = ap (λ j. map f (drop j ss)) e

    after-is : afters types N (map f (take left ss)) ≡ binds types (f x) N'
    after-is = ap (afters types N) taken ∙ afters-last types N ts (f x)

    news-is : n + fronts_news types N (map f (take left ss)) ≡ (n + fronts_news types N ts) + front_news types N' (f x)
    news-is = let a : fronts_news types N (map f (take left ss)) ≡ fronts_news types N (ts ++ f x ∷ []) = ap (fronts_news types N) taken in let b = news-last types N ts (f x) in omega (arith, a, b)

    pub names-back : (mark k : ℕ) (names' : Names) (seen_now : List ℕ) → mark ≡ get_or seen_now i k → seen_now ≡ marks types N (map f ss) → names' ≡ drop (length names - mark) names → names' ≡ N'
    names-back mark k names' seen_now q s b =
        let a : mark ≡ length N' = q ∙ ap (λ l. get_or l i k) s ∙ mark-at ss i k N lt in
        b ∙ ap₂ (λ v j. drop (length v - j) v) (h.names_are ∙ after-is) a ∙ left-one types (f x) N'

    pub step-back : (next : ℕ) (names' names'' : Names) (found : Option Step) (new : List Step) → names' ≡ N' → names'' ≡ names' → ((g : S) → found_or types strings found g ≡ filled types names' now (f x) g) → next ≡ now + back_news types names' (f x)
        → new ≡ with_found made i found → OthersSoFar ss i N names'' n m next new
    step-back next names' names'' found new v w p k q =
        let j = n + fronts_news types N ts in
        let b = backs_news types (binds types (f x) N') rest in
        let here : map f (drop i ss) ≡ f x ∷ rest = ahead f ss i x d lt is in
        let w' = wholes types (binds types (f x) N') (j + front_news types N' (f x)) m rest in
        let now-is : now ≡ m + b =
        h.news_are ∙ ap (λ l. m + backs_news types (afters types N (map f (take left ss))) l) left-over ∙ ap (λ u. m + backs_news types u rest) after-is in
        let before : map f made ≡ fronts types N n ts ++ front types N' j (f x) ∷ w' =
        h.made_are
        ∙ ap₂ (λ l u. l ++ wholes types u (n + fronts_news types N (map f (take left ss))) m (map f (drop left ss))) (ap (fronts types N n) taken ∙ fronts-last types N n ts (f x)) after-is
        ∙ ap₂ (λ u l. (fronts types N n ts ++ front types N' j (f x) ∷ []) ++ wholes types (binds types (f x) N') u m l) news-is left-over
        ∙ append-assoc (fronts types N n ts) (front types N' j (f x) ∷ []) w' in
        let place : i ≡ length (fronts types N n ts) =
        sym (fronts-long types N n ts ∙ length-map (take i ss) ∙ length-take ss i (omega (arith, lt))) in
        record {
          made_are =
              ap (map f) q ∙ found-here made found (fronts types N n ts) w' (front types N' j (f x)) i before place
              ∙ ap (λ g. fronts types N n ts ++ g ∷ w') (p (front types N' j (f x)) ∙ ap₂ (λ u c. filled types u c (f x) (front types N' j (f x))) v now-is)
              ∙ ap (λ l. fronts types N n ts ++ wholes types N' j m l) (sym here);
          news_are =
              let a : back_news types names' (f x) ≡ back_news types N' (f x) = ap (λ u. back_news types u (f x)) v in
              let c : backs_news types N' (map f (drop i ss)) ≡ backs_news types N' (f x ∷ rest) = ap (backs_news types N') here in
              omega (arith, a, c, k, now-is);
          names_are = w ∙ v;
        }

  pub back-done : (ss : List Step) (left : ℕ) (N names : Names) (n m next : ℕ) (made : List Step) → left ≡ 0 → OthersSoFar ss left N names n m next made → OthersSoFar ss 0 N names n m next made
  back-done ss left N names n m next made e h = subst (λ j. OthersSoFar ss j N names n m next made) e h

  pub whole-made : (ss : List Step) (N names : Names) (n m next : ℕ) (made : List Step) → OthersSoFar ss 0 N names n m next made → map f made ≡ wholes types N n m (map f ss)
  whole-made ss N names n m next made h = h.made_are ∙ ap (λ j. wholes types N j m (map f ss)) (let e : n + 0 ≡ n = omega arith in e)

  -- steps, and what comes of them

  module _ (N names₁ names₂ : Names) (n n₁ n₂ : ℕ) (ss made₀ made₁ : List S) (seen_now : List ℕ) (r end : Mono types) (h₀ : made₀ ≡ fronts types N n ss) (h₁ : n₁ ≡ n + fronts_news types N ss) (h₂ : names₁ ≡ afters types N ss)
      (h₃ : seen_now ≡ marks types N ss) (h₄ : end ≡ expand types names₁ n₁ r) (h₅ : n₂ ≡ n₁ + news types names₁ r) (h₆ : names₂ ≡ names₁) where
    pub fronted : IsFronted types N n names₂ seen_now made₀ ss
    fronted = record { names_are = h₆ ∙ h₂; seen_are = h₃; made_are = h₀ }

    counted : n₂ ≡ n + (fronts_news types N ss + news types (afters types N ss) r)
    counted = let a : news types names₁ r ≡ news types (afters types N ss) r = ap (λ M. news types M r) h₂ in omega (arith, a, h₁, h₅)

    pub steps-made : made₁ ≡ wholes types N n n₂ ss → onto made₁ end ≡ expand types N n (onto ss r)
    steps-made w = ap₂ onto w (h₄ ∙ ap₂ (λ M k. expand types M k r) h₂ h₁) ∙ expand-onto types N n n₂ ss r counted

    pub steps-counted : (n₃ : ℕ) → n₃ ≡ n₂ + backs_news types N ss → n₃ ≡ n + news types N (onto ss r)
    steps-counted n₃ k = let a = news-onto types N ss r in let b = counted in omega (arith, a, b, k)
