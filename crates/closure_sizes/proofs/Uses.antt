-- Variables that are captured are used.
use Rattle.std.proofs.Common.{◌≡◌, ◌≤◌, ℕ, ◌+◌, List, [], ◌∷◌, length, Bool, true, false, ◌||◌, if◌then◌else◌, nat_eq, refl, sym, subst, arith}
use Rattle.ir_plain.specs.Tree.{Exception, fixed, held, ret, let_in, exception_in, name_in, rec_in, switch, first, miss, counted, Arms, no_arms, arm, Op, use_of, const, con_alone, construct, ref_alone, refer, content, pack, make_record, select, prim_alone, prim, app, fn, block, handle, raise, raise_initial, Fun, last, more, Funs, no_funs, fun}
use Rattle.ir_mono.specs.Types as table
use Rattle.ir_mono.specs.Mono.{mono, Mono}
use Rattle.flow_sets.specs.Member.{is_in}
use Rattle.flow_sets.proofs.Member.{nat_eq-to, nat_eq-same}
use Rattle.closure_convert.specs.Capture.{kept, occurs_name, occurs, occurs_arms, occurs_op, occurs_fun, occurs_funs, visible}
use Rattle.closure_convert.specs.Counts.{AreDistinct}
use Rattle.closure_sizes.specs.Counts.{name_uses, uses, arms_uses, op_uses, fun_uses, funs_uses}
use Rattle.closure_sizes.specs.Laws.{CapturesAreUses}

kept-or : (p q : ℕ → Bool) (xs : List ℕ) → length (kept (λ y. p y || q y) xs) ≤ length (kept p xs) + length (kept q xs)
kept-or p q [] = omega arith
kept-or p q (x ∷ xs) = pick (p x) (q x) (kept-or p q xs)
  where
    pick : (b c : Bool) → length (kept (λ y. p y || q y) xs) ≤ length (kept p xs) + length (kept q xs) → length (if b || c then x ∷ kept (λ y. p y || q y) xs else kept (λ y. p y || q y) xs) ≤ length (if b then x ∷ kept p xs else kept p xs) + length (if c then x ∷ kept q xs else kept q xs)
    pick true true h = omega (arith, h)
    pick true false h = omega (arith, h)
    pick false true h = omega (arith, h)
    pick false false h = omega (arith, h)

kept-none : (xs : List ℕ) → length (kept (λ y. false) xs) ≤ 0
kept-none [] = omega arith
kept-none (x ∷ xs) = kept-none xs

swapped : (x z : ℕ) → nat_eq z x ≡ true → nat_eq x z ≡ true
swapped x z e = subst (λ w. nat_eq x w ≡ true) (sym (nat_eq-to z x e)) (nat_eq-same x)

not-there : (x : ℕ) (xs : List ℕ) → is_in x xs ≡ false → length (kept (λ y. nat_eq y x) xs) ≤ 0
not-there x [] h = omega arith
not-there x (z ∷ xs) h = pick (nat_eq x z) (nat_eq z x) (swapped x z) h (not-there x xs)
  where
    pick : (b c : Bool) → (c ≡ true → b ≡ true) → (b || is_in x xs) ≡ false → (is_in x xs ≡ false → length (kept (λ y. nat_eq y x) xs) ≤ 0) → length (if c then z ∷ kept (λ y. nat_eq y x) xs else kept (λ y. nat_eq y x) xs) ≤ 0
    pick true c e h f = absurd (cc)
    pick false true e h f = absurd (let k = e refl in cc)
    pick false false e h f = f h

at-most-one : (x : ℕ) (xs : List ℕ) → AreDistinct xs → length (kept (λ y. nat_eq y x) xs) ≤ 1
at-most-one x [] d = omega arith
at-most-one x (z ∷ xs) d = pick (nat_eq z x) (nat_eq-to z x) (at-most-one x xs d.1)
  where
    pick : (c : Bool) → (c ≡ true → z ≡ x) → length (kept (λ y. nat_eq y x) xs) ≤ 1 → length (if c then z ∷ kept (λ y. nat_eq y x) xs else kept (λ y. nat_eq y x) xs) ≤ 1
    pick true e h = let k = not-there x xs (subst (λ w. is_in w xs ≡ false) (e refl) d.0) in omega (arith, k)
    pick false e h = h

module _ (types : List table.Row) (vs : List ℕ) (d : AreDistinct vs) where
  abbrev Few : (ℕ → Bool) → ℕ → Type 0
  Few p n = length (kept p vs) ≤ n

  both : (p q : ℕ → Bool) (n m : ℕ) → Few p n → Few q m → Few (λ y. p y || q y) (n + m)
  both p q n m h k = let o = kept-or p q vs in omega (arith, h, k, o)

  name-few : (y : Exception (mono types)) → Few (λ z. occurs_name types z y) (name_uses types y)
  name-few (fixed n) = kept-none vs
  name-few (held x) = at-most-one x vs d

  mutual
    few : (e : Mono types) → Few (λ y. occurs types y e) (uses types e)
    few (ret a) = kept-none vs
    few (let_in x ps t o e) = both (λ y. occurs_op types y o) (λ y. occurs types y e) (op_uses types o) (uses types e) (op-few o) (few e)
    few (exception_in x i t e) = few e
    few (name_in x n e) = both (λ y. occurs_name types y n) (λ y. occurs types y e) (name_uses types n) (uses types e) (name-few n) (few e)
    few (rec_in ps fs e) = both (λ y. occurs_funs types y fs) (λ y. occurs types y e) (funs_uses types fs) (uses types e) (funs-few fs) (few e)
    few (switch a t arms) = arms-few arms
    few (first e f) = both (λ y. occurs types y e) (λ y. occurs types y f) (uses types e) (uses types f) (few e) (few f)
    few miss = kept-none vs
    few (counted k e) = few e

    arms-few : (arms : Arms (mono types)) → Few (λ y. occurs_arms types y arms) (arms_uses types arms)
    arms-few no_arms = kept-none vs
    arms-few (arm c e arms) = both (λ y. occurs types y e) (λ y. occurs_arms types y arms) (uses types e) (arms_uses types arms) (few e) (arms-few arms)

    op-few : (o : Op (mono types)) → Few (λ y. occurs_op types y o) (op_uses types o)
    op-few (use_of x) = at-most-one x vs d
    op-few (const l) = kept-none vs
    op-few (con_alone c t) = kept-none vs
    op-few (construct m c t a) = kept-none vs
    op-few (ref_alone t) = kept-none vs
    op-few (refer m t a) = kept-none vs
    op-few (content t a) = kept-none vs
    op-few (pack m t y a) = kept-none vs
    op-few (make_record t row) = kept-none vs
    op-few (select t l a) = kept-none vs
    op-few (prim_alone p t) = kept-none vs
    op-few (prim m p t as_) = kept-none vs
    op-few (app place f a) = kept-none vs
    op-few (fn f) = fun-few f
    op-few (block e) = few e
    op-few (handle e x h) = both (λ y. occurs types y e) (λ y. occurs types y h) (uses types e) (uses types h) (few e) (few h)
    op-few (raise a) = kept-none vs
    op-few (raise_initial i) = kept-none vs

    fun-few : (f : Fun (mono types)) → Few (λ y. occurs_fun types y f) (fun_uses types f)
    fun-few (last x t e) = few e
    fun-few (more x t f) = fun-few f

    funs-few : (fs : Funs (mono types)) → Few (λ y. occurs_funs types y fs) (funs_uses types fs)
    funs-few no_funs = kept-none vs
    funs-few (fun x t f fs) = both (λ y. occurs_fun types y f) (λ y. occurs_funs types y fs) (fun_uses types f) (funs_uses types fs) (fun-few f) (funs-few fs)

  pub alone-few : (f : Fun (mono types)) → Few (λ y. occurs_fun types y f) (fun_uses types f)
  alone-few f = fun-few f

  pub group-few : (fs : Funs (mono types)) → Few (λ y. occurs_funs types y fs) (funs_uses types fs)
  group-few fs = funs-few fs

pub captures-are-uses : CapturesAreUses
captures-are-uses types s d = (alone-few types (visible s) d, group-few types (visible s) d)
