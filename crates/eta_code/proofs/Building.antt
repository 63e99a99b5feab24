-- Parts that are made one after the other: what is made, before what is left to make, is always the whole.
use Rattle.std.proofs.Common.{◌≡◌, ℕ, zero, suc, ◌+◌, ◌<◌, ◌≤◌, List, [], ◌∷◌, ◌++◌, map, take, drop, length, get_or, refl, sym, ap, ap₂, ◌∙◌, arith}
use Rattle.std.proofs.lemmas.List.{take_more, drop_more}
use Rattle.ir_plain.specs.Tree as t
use Rattle.ir_mono.specs.Types as table
use Rattle.ir_mono.specs.Mono.{mono, Mono}
use Rattle.plain_tree.specs.TreeOf.{ArmTree, FunctionTree, firsts, arms_of, funs_of}
use Rattle.eta_expand.specs.Expand.{Names, news, arms_news, fun_news, funs_news, expand, expand_arms, expand_funs}
use Rattle.plain_tree.specs.declared.tree.Exp.{Exp}
use Rattle.plain_tree.specs.declared.tree.Arm.{Arm}
use Rattle.plain_tree.specs.declared.tree.Function.{Function}
use Rattle.mono_bound.specs.Reads.{mono_of}
use Rattle.eta_code.specs.Steps.{expand_arm, arm_news, expand_member, mono_arm, mono_function, arms_in, functions_in}

pub map-last : {A B : Type 0} (g : A → B) (xs : List A) (x : A) → map g (xs ++ x ∷ []) ≡ map g xs ++ g x ∷ []
map-last g [] x = refl
map-last g (y ∷ ys) x = ap (λ l. g y ∷ l) (map-last g ys x)

pub seen : {A B : Type 0} (g : A → B) (xs : List A) (i : ℕ) (x d : A) → i < length xs → x ≡ get_or xs i d → map g (take (i + 1) xs) ≡ map g (take i xs) ++ g x ∷ []
seen g xs i x d lt is = ap (map g) (take_more xs i d lt ∙ ap (λ y. take i xs ++ y ∷ []) (sym is)) ∙ map-last g (take i xs) x

pub ahead : {A B : Type 0} (g : A → B) (xs : List A) (i : ℕ) (x d : A) → i < length xs → x ≡ get_or xs i d → map g (drop i xs) ≡ g x ∷ map g (drop (i + 1) xs)
ahead g xs i x d lt is = ap (map g) (drop_more xs i d lt ∙ ap (λ y. y ∷ drop (i + 1) xs) (sym is))

pub all-behind : {A : Type 0} (xs : List A) (i : ℕ) → length xs ≤ i → drop i xs ≡ []
all-behind [] zero h = refl
all-behind [] (suc i) h = refl
all-behind (x ∷ xs) zero h = absurd (omega (arith, h))
all-behind (x ∷ xs) (suc i) h = all-behind xs i (omega (arith, h))

pub all-before : {A : Type 0} (xs : List A) (i : ℕ) → length xs ≤ i → take i xs ≡ xs
all-before [] zero h = refl
all-before [] (suc i) h = refl
all-before (x ∷ xs) zero h = absurd (omega (arith, h))
all-before (x ∷ xs) (suc i) h = ap (λ l. x ∷ l) (all-before xs i (omega (arith, h)))

abbrev pub build : {B C : Type 0} (cons : B → C → C) → List B → C → C
build cons [] c = c
build cons (b ∷ bs) c = cons b (build cons bs c)

build-last : {B C : Type 0} (cons : B → C → C) (bs : List B) (b : B) (c : C) → build cons (bs ++ b ∷ []) c ≡ build cons bs (cons b c)
build-last cons [] b c = refl
build-last cons (x ∷ bs) b c = ap (cons x) (build-last cons bs b c)

-- parts are made by one of them, with new numbers, and lists of them by the other
module _ {A B C : Type 0} (f : A → B) (cons : B → C → C) (whole : ℕ → C → C) (part : ℕ → B → B) (count : C → ℕ) (own : B → ℕ) where
  pub record SoFar (xs : List A) (i : ℕ) (made : List A) (first next : ℕ) (c : C) : Type 0 where
    pub made_is : build cons (map f made) (whole next (build cons (map f (drop i xs)) c)) ≡ whole first (build cons (map f xs) c)
    pub news_are : next + count (build cons (map f (drop i xs)) c) ≡ first + count (build cons (map f xs) c)

  pub none-made : (xs made : List A) (first : ℕ) (c : C) → made ≡ [] → SoFar xs 0 made first first c
  none-made xs made first c e = record { made_is = ap (λ l. build cons (map f l) (whole first (build cons (map f xs) c))) e; news_are = refl }

  module _ (law : (n : ℕ) (b : B) (c : C) → whole n (cons b c) ≡ cons (part n b) (whole (n + own b) c)) (counts : (b : B) (c : C) → count (cons b c) ≡ own b + count c) where
    pub one-made : (xs : List A) (i : ℕ) (x d : A) (made new : List A) (g : A) (first now next : ℕ) (c : C) → i < length xs → x ≡ get_or xs i d → new ≡ made ++ g ∷ [] → f g ≡ part now (f x) → next ≡ now + own (f x)
        → SoFar xs i made first now c → SoFar xs (i + 1) new first next c
    one-made xs i x d made new g first now next c lt is n m k h =
        let rest = build cons (map f (drop (i + 1) xs)) c in
        let left : build cons (map f (drop i xs)) c ≡ cons (f x) rest = ap (λ l. build cons l c) (ahead f xs i x d lt is) in
        record {
          made_is =
              ap (λ l. build cons (map f l) (whole next rest)) n ∙ ap (λ l. build cons l (whole next rest)) (map-last f made g) ∙ build-last cons (map f made) (f g) (whole next rest)
              ∙ ap (build cons (map f made)) (ap₂ (λ b j. cons b (whole j rest)) m k ∙ sym (law now (f x) rest) ∙ ap (whole now) (sym left)) ∙ h.made_is;
          news_are = let a = h.news_are in let b : count (build cons (map f (drop i xs)) c) ≡ count (cons (f x) rest) = ap count left in let e = counts (f x) rest in omega (arith, a, b, e, k);
        }

    pub all-made : (xs : List A) (i : ℕ) (made : List A) (first next : ℕ) (c : C) → length xs ≤ i → SoFar xs i made first next c → build cons (map f made) (whole next c) ≡ whole first (build cons (map f xs) c)
    all-made xs i made first next c le h = ap (λ l. build cons (map f made) (whole next (build cons (map f l) c))) (sym (all-behind xs i le)) ∙ h.made_is

    pub all-counted : (xs : List A) (i : ℕ) (made : List A) (first next : ℕ) (c : C) → length xs ≤ i → SoFar xs i made first next c → next + count c ≡ first + count (build cons (map f xs) c)
    all-counted xs i made first next c le h = ap (λ l. next + count (build cons (map f l) c)) (sym (all-behind xs i le)) ∙ h.news_are

-- attempts, arms and functions

module _ (types : List table.Row) where
  abbrev pub E : Type 0
  E = Mono types

  abbrev pub arm_before : ArmTree (mono types) → t.Arms (mono types) → t.Arms (mono types)
  arm_before a arms = t.arm a.case a.body arms

  abbrev pub fun_before : FunctionTree (mono types) → t.Funs (mono types) → t.Funs (mono types)
  fun_before f fs = t.fun f.variable f.type f.function fs

  abbrev pub member_news : Names → FunctionTree (mono types) → ℕ
  member_news N f = fun_news types N f.function

  pub firsts-built : (es : List E) (d : E) → firsts es d ≡ build t.first es d
  firsts-built [] d = refl
  firsts-built (e ∷ es) d = ap (t.first e) (firsts-built es d)

  pub arms-built : (as_ : List (ArmTree (mono types))) → arms_of as_ ≡ build arm_before as_ t.no_arms
  arms-built [] = refl
  arms-built (a ∷ as_) = ap (t.arm a.case a.body) (arms-built as_)

  pub funs-built : (fs : List (FunctionTree (mono types))) → funs_of fs ≡ build fun_before fs t.no_funs
  funs-built [] = refl
  funs-built (f ∷ fs) = ap (t.fun f.variable f.type f.function) (funs-built fs)

  module _ (strings : List (List ℕ)) (N : Names) where
    abbrev pub AttemptsSoFar : List Exp → ℕ → List Exp → ℕ → ℕ → E → Type 0
    AttemptsSoFar = SoFar (mono_of types strings) t.first (expand types N) (expand types N) (news types N) (news types N)

    abbrev pub ArmsSoFar : List Arm → ℕ → List Arm → ℕ → ℕ → t.Arms (mono types) → Type 0
    ArmsSoFar = SoFar (mono_arm types strings) arm_before (expand_arms types N) (expand_arm types N) (arms_news types N) (arm_news types N)

    abbrev pub FunctionsSoFar : List Function → ℕ → List Function → ℕ → ℕ → t.Funs (mono types) → Type 0
    FunctionsSoFar = SoFar (mono_function types strings) fun_before (expand_funs types N) (expand_member types N) (funs_news types N) (member_news N)

    pub attempts-none : (xs made : List Exp) (first : ℕ) (d : E) → made ≡ [] → AttemptsSoFar xs 0 made first first d
    attempts-none xs made first d e = none-made (mono_of types strings) t.first (expand types N) (expand types N) (news types N) (news types N) xs made first d e

    pub arms-none : (xs made : List Arm) (first : ℕ) → made ≡ [] → ArmsSoFar xs 0 made first first t.no_arms
    arms-none xs made first e = none-made (mono_arm types strings) arm_before (expand_arms types N) (expand_arm types N) (arms_news types N) (arm_news types N) xs made first t.no_arms e

    pub functions-none : (xs made : List Function) (first : ℕ) → made ≡ [] → FunctionsSoFar xs 0 made first first t.no_funs
    functions-none xs made first e = none-made (mono_function types strings) fun_before (expand_funs types N) (expand_member types N) (funs_news types N) (member_news N) xs made first t.no_funs e

    pub attempts-next : (xs : List Exp) (i : ℕ) (x d : Exp) (made new : List Exp) (g : Exp) (first now next : ℕ) (names : Names) (c : E) → i < length xs → x ≡ get_or xs i d → new ≡ made ++ g ∷ [] → names ≡ N
        → mono_of types strings g ≡ expand types names now (mono_of types strings x) → next ≡ now + news types names (mono_of types strings x) → AttemptsSoFar xs i made first now c → AttemptsSoFar xs (i + 1) new first next c
    attempts-next xs i x d made new g first now next names c lt is n e m k =
        one-made (mono_of types strings) t.first (expand types N) (expand types N) (news types N) (news types N) (λ n b c. refl) (λ b c. refl) xs i x d made new g first now next c lt is n
        (m ∙ ap (λ M. expand types M now (mono_of types strings x)) e) (k ∙ ap (λ M. now + news types M (mono_of types strings x)) e)

    pub arms-next : (xs : List Arm) (i : ℕ) (x d : Arm) (made new : List Arm) (g : Arm) (first now next : ℕ) (names : Names) (c : t.Arms (mono types)) → i < length xs → x ≡ get_or xs i d → new ≡ made ++ g ∷ [] → names ≡ N
        → mono_arm types strings g ≡ expand_arm types names now (mono_arm types strings x) → next ≡ now + arm_news types names (mono_arm types strings x) → ArmsSoFar xs i made first now c → ArmsSoFar xs (i + 1) new first next c
    arms-next xs i x d made new g first now next names c lt is n e m k =
        one-made (mono_arm types strings) arm_before (expand_arms types N) (expand_arm types N) (arms_news types N) (arm_news types N) (λ n b c. refl) (λ b c. refl) xs i x d made new g first now next c lt is n
        (m ∙ ap (λ M. expand_arm types M now (mono_arm types strings x)) e) (k ∙ ap (λ M. now + arm_news types M (mono_arm types strings x)) e)

    pub functions-next : (xs : List Function) (i : ℕ) (x d : Function) (made new : List Function) (g : Function) (first now next : ℕ) (names : Names) (c : t.Funs (mono types)) → i < length xs → x ≡ get_or xs i d → new ≡ made ++ g ∷ []
        → names ≡ N → mono_function types strings g ≡ expand_member types names now (mono_function types strings x) → next ≡ now + fun_news types names (mono_function types strings x).function → FunctionsSoFar xs i made first now c
        → FunctionsSoFar xs (i + 1) new first next c
    functions-next xs i x d made new g first now next names c lt is n e m k =
        one-made (mono_function types strings) fun_before (expand_funs types N) (expand_member types N) (funs_news types N) (member_news N) (λ n b c. refl) (λ b c. refl) xs i x d made new g first now next c lt is n
        (m ∙ ap (λ M. expand_member types M now (mono_function types strings x)) e) (k ∙ ap (λ M. now + fun_news types M (mono_function types strings x).function) e)

    pub attempts-made : (xs : List Exp) (i : ℕ) (made : List Exp) (first next : ℕ) (d : E) → length xs ≤ i → AttemptsSoFar xs i made first next d
        → firsts (map (mono_of types strings) made) (expand types N next d) ≡ expand types N first (firsts (map (mono_of types strings) xs) d)
    attempts-made xs i made first next d le h =
        firsts-built (map (mono_of types strings) made) (expand types N next d)
        ∙ all-made (mono_of types strings) t.first (expand types N) (expand types N) (news types N) (news types N) (λ n b c. refl) (λ b c. refl) xs i made first next d le h
        ∙ ap (expand types N first) (sym (firsts-built (map (mono_of types strings) xs) d))

    pub attempts-counted : (xs : List Exp) (i : ℕ) (made : List Exp) (first next : ℕ) (d : E) → length xs ≤ i → AttemptsSoFar xs i made first next d
        → next + news types N d ≡ first + news types N (firsts (map (mono_of types strings) xs) d)
    attempts-counted xs i made first next d le h =
        all-counted (mono_of types strings) t.first (expand types N) (expand types N) (news types N) (news types N) (λ n b c. refl) (λ b c. refl) xs i made first next d le h
        ∙ ap (λ e. first + news types N e) (sym (firsts-built (map (mono_of types strings) xs) d))

    pub arms-made : (xs : List Arm) (i : ℕ) (made : List Arm) (first next : ℕ) → length xs ≤ i → ArmsSoFar xs i made first next t.no_arms → arms_in types strings made ≡ expand_arms types N first (arms_in types strings xs)
    arms-made xs i made first next le h =
        arms-built (map (mono_arm types strings) made)
        ∙ all-made (mono_arm types strings) arm_before (expand_arms types N) (expand_arm types N) (arms_news types N) (arm_news types N) (λ n b c. refl) (λ b c. refl) xs i made first next t.no_arms le h
        ∙ ap (expand_arms types N first) (sym (arms-built (map (mono_arm types strings) xs)))

    pub arms-counted : (xs : List Arm) (i : ℕ) (made : List Arm) (first next : ℕ) → length xs ≤ i → ArmsSoFar xs i made first next t.no_arms → next ≡ first + arms_news types N (arms_in types strings xs)
    arms-counted xs i made first next le h =
        let a = all-counted (mono_arm types strings) arm_before (expand_arms types N) (expand_arm types N) (arms_news types N) (arm_news types N) (λ n b c. refl) (λ b c. refl) xs i made first next t.no_arms le h in
        let b : arms_news types N (arms_in types strings xs) ≡ arms_news types N (build arm_before (map (mono_arm types strings) xs) t.no_arms) = ap (arms_news types N) (arms-built (map (mono_arm types strings) xs)) in
        omega (arith, a, b)

    pub functions-made : (xs : List Function) (i : ℕ) (made : List Function) (first next : ℕ) → length xs ≤ i → FunctionsSoFar xs i made first next t.no_funs → functions_in types strings made ≡ expand_funs types N first (functions_in types strings xs)
    functions-made xs i made first next le h =
        funs-built (map (mono_function types strings) made)
        ∙ all-made (mono_function types strings) fun_before (expand_funs types N) (expand_member types N) (funs_news types N) (member_news N) (λ n b c. refl) (λ b c. refl) xs i made first next t.no_funs le h
        ∙ ap (expand_funs types N first) (sym (funs-built (map (mono_function types strings) xs)))

    pub functions-counted : (xs : List Function) (i : ℕ) (made : List Function) (first next : ℕ) → length xs ≤ i → FunctionsSoFar xs i made first next t.no_funs → next ≡ first + funs_news types N (functions_in types strings xs)
    functions-counted xs i made first next le h =
        let a = all-counted (mono_function types strings) fun_before (expand_funs types N) (expand_member types N) (funs_news types N) (member_news N) (λ n b c. refl) (λ b c. refl) xs i made first next t.no_funs le h in
        let b : funs_news types N (functions_in types strings xs) ≡ funs_news types N (build fun_before (map (mono_function types strings) xs) t.no_funs) = ap (funs_news types N) (funs-built (map (mono_function types strings) xs)) in
        omega (arith, a, b)
