-- Numbers from b on: each is bound once, and the others are not. They rise along scopes.
use Rattle.std.proofs.Common.{◌≡◌, ℕ, zero, suc, ◌+◌, ◌≤◌, ◌<◌, List, Bool, true, false, nat_eq, if◌then◌else◌, refl, ap, arith}
use Rattle.std.proofs.lemmas.Bool.{eqb-true}
use Rattle.ty_core.specs.Types.{Typ}
use Rattle.ir_mono.specs.of_ir_plain.Once.{hit, case_times, times, arms_times, op_times, fun_times, funs_times, IsOnce}
use Rattle.ir_mono.specs.of_ir_plain.Tree.{Case, is_literal, is_con, is_con_of, is_exn, is_exn_of, is_record, Exp, ret, let_in, exception_in, name_in, rec_in, switch, first, miss, counted, Arms, no_arms, arm, Op, use_of, const, con_alone, construct, ref_alone, refer, content, pack, make_record, select, prim_alone, prim, app, fn, block, handle, raise, raise_initial, Fun, last, more, Funs, no_funs, fun}
use Rattle.ir_mono.specs.Types as table
use Rattle.monomorphise.specs.Monomorphise.{Named}
use Rattle.monomorphise.specs.Number.{Given, none_given, given, each_one, binders, op_binders, fun_binders, heads, bodies, group_given, case_given, case_next, number_case, number, number_arms, number_op, number_fun, number_funs, top, NamesRise, case_top, CaseRises, Rises, ArmsRise, OpRises, FunRises, FunsRise}

-- 1 below b
abbrev pub below : (b k : ℕ) → ℕ
below zero k = 0
below (suc b) k = hit k b + below b k

hit-none : (k n : ℕ) → n < k → hit k n ≡ 0
hit-none k n l = go (nat_eq k n) refl
  where
    go : (c : Bool) → nat_eq k n ≡ c → ◌≡◌ {A = ℕ} (if c then 1 else 0) 0
    go true e = let same = eqb-true k n e in absurd (omega (arith, same))
    go false e = refl

below-none : (n k : ℕ) → n ≤ k → below n k ≡ 0
below-none zero k l = refl
below-none (suc n) k l = let h = hit-none k n (omega arith) in let t = below-none n k (omega arith) in omega (arith, h, t)

pub below-one : (n k : ℕ) → below n k ≤ 1
below-one zero k = omega arith
below-one (suc n) k = go (nat_eq k n) refl (below-one n k)
  where
    go : (c : Bool) → nat_eq k n ≡ c → below n k ≤ 1 → (if c then 1 else 0) + below n k ≤ 1
    go true e h = let same = eqb-true k n e in let z = below-none n k (omega (arith, same)) in omega (arith, z)
    go false e h = omega (arith, h)

at : {m n : ℕ} (k : ℕ) → m ≡ n → below m k ≡ below n k
at k q = ap (λ z. below z k) q

none-bound : (b n k : ℕ) → n ≡ b + 0 → 0 + below b k ≡ below n k
none-bound b n k q = let same : b ≡ n = omega (arith, q) in let h = at k same in omega (arith, h)

heads-bodies : (fs : Funs Named) → funs_times each_one fs ≡ heads fs + bodies fs
heads-bodies no_funs = refl
heads-bodies (fun x t f fs) = let h = heads-bodies fs in omega (arith, h)

case-next : (c : Case Named) (b : ℕ) → case_next b c ≡ b + case_times each_one c
case-next (is_literal l) b = omega arith
case-next (is_con c) b = omega arith
case-next (is_con_of c x t) b = omega arith
case-next (is_exn y) b = omega arith
case-next (is_exn_of y x t) b = omega arith
case-next (is_record size) b = omega arith

case-up : (c : Case Named) (b : ℕ) → b ≤ case_next b c
case-up (is_literal l) b = omega arith
case-up (is_con c) b = omega arith
case-up (is_con_of c x t) b = omega arith
case-up (is_exn y) b = omega arith
case-up (is_exn_of y x t) b = omega arith
case-up (is_record size) b = omega arith

same-suc : (n : ℕ) → suc n ≤ suc n
same-suc n = omega arith

module _ (types : List table.Row) (index : Typ → ℕ) where
  case-once : (c : Case Named) (g : Given) (b k : ℕ) → case_times (hit k) (number_case types index g b c) + below b k ≡ below (case_next b c) k
  case-once (is_literal l) g b k = omega arith
  case-once (is_con c) g b k = omega arith
  case-once (is_con_of c x t) g b k = omega arith
  case-once (is_exn y) g b k = omega arith
  case-once (is_exn_of y x t) g b k = omega arith
  case-once (is_record size) g b k = omega arith

  mutual
    once : (e : Exp Named) (g : Given) (b n k : ℕ) → n ≡ b + binders e → times (hit k) (number types index g b e) + below b k ≡ below n k
    once (ret a) g b n k q = none-bound b n k q
    once (let_in x u t o e) g b n k q =
        let c = b + op_binders o in
        let h = once-op o g b c k refl in
        let l = once e (given x c g) (suc c) n k (omega (arith, q)) in
        omega (arith, h, l)
    once (exception_in x i t e) g b n k q = let l = once e (given x b g) (suc b) n k (omega (arith, q)) in omega (arith, l)
    once (name_in x y e) g b n k q = let l = once e (given x b g) (suc b) n k (omega (arith, q)) in omega (arith, l)
    once (rec_in u fs e) g b n k q =
        let z = heads-bodies fs in
        let g' = group_given b fs g in
        let c = b + heads fs in
        let h = once-funs fs g' b c c k refl in
        let l = once e g' (c + bodies fs) n k (omega (arith, q, z)) in
        omega (arith, h, l)
    once (switch a t arms) g b n k q = once-arms arms g b n k q
    once (first e d) g b n k q =
        let c = b + binders e in
        let h = once e g b c k refl in
        let l = once d g c n k (omega (arith, q)) in
        omega (arith, h, l)
    once miss g b n k q = none-bound b n k q
    once (counted m e) g b n k q = once e g b n k q

    once-arms : (arms : Arms Named) (g : Given) (b n k : ℕ) → n ≡ b + arms_times each_one arms → arms_times (hit k) (number_arms types index g b arms) + below b k ≡ below n k
    once-arms no_arms g b n k q = none-bound b n k q
    once-arms (arm c e arms) g b n k q =
        let z = case-next c b in
        let y = case-once c g b k in
        let d = case_next b c in
        let h = once e (case_given g b c) d (d + binders e) k refl in
        let l = once-arms arms g (d + binders e) n k (omega (arith, q, z)) in
        omega (arith, y, h, l)

    once-op : (o : Op Named) (g : Given) (b n k : ℕ) → n ≡ b + op_binders o → op_times (hit k) (number_op types index g b o) + below b k ≡ below n k
    once-op (use_of x) g b n k q = none-bound b n k q
    once-op (const c) g b n k q = none-bound b n k q
    once-op (con_alone c t) g b n k q = none-bound b n k q
    once-op (construct m c t a) g b n k q = none-bound b n k q
    once-op (ref_alone t) g b n k q = none-bound b n k q
    once-op (refer m t a) g b n k q = none-bound b n k q
    once-op (content t a) g b n k q = none-bound b n k q
    once-op (pack m t x a) g b n k q = none-bound b n k q
    once-op (make_record t row) g b n k q = none-bound b n k q
    once-op (select t l a) g b n k q = none-bound b n k q
    once-op (prim_alone p t) g b n k q = none-bound b n k q
    once-op (prim m p t as_) g b n k q = none-bound b n k q
    once-op (app place f a) g b n k q = none-bound b n k q
    once-op (fn f) g b n k q = once-fun f g b n k q
    once-op (block e) g b n k q = once e g b n k q
    once-op (handle e x d) g b n k q =
        let c = b + binders e in
        let h = once e g b c k refl in
        let l = once d (given x c g) (suc c) n k (omega (arith, q)) in
        omega (arith, h, l)
    once-op (raise a) g b n k q = none-bound b n k q
    once-op (raise_initial i) g b n k q = none-bound b n k q

    once-fun : (f : Fun Named) (g : Given) (b n k : ℕ) → n ≡ b + fun_binders f → fun_times (hit k) (number_fun types index g b f) + below b k ≡ below n k
    once-fun (last x t e) g b n k q = let l = once e (given x b g) (suc b) n k (omega (arith, q)) in omega (arith, l)
    once-fun (more x t f) g b n k q = let l = once-fun f (given x b g) (suc b) n k (omega (arith, q)) in omega (arith, l)

    -- their own numbers from i up to j, what they bind from b on
    once-funs : (fs : Funs Named) (g : Given) (i b j k : ℕ) → j ≡ i + heads fs → funs_times (hit k) (number_funs types index g i b fs) + (below i k + below b k) ≡ below j k + below (b + bodies fs) k
    once-funs no_funs g i b j k q = let same-j : j ≡ i = omega (arith, q) in let y = at k same-j in let same-b : b + 0 ≡ b = omega arith in let w = at k same-b in omega (arith, y, w)
    once-funs (fun x t f fs) g i b j k q =
        let c = b + fun_binders f in
        let h = once-fun f g b c k refl in
        let j' = i + heads fs in
        let l = once-funs fs g i c j' k refl in
        let same-j : j ≡ suc j' = omega (arith, q) in
        let y = at k same-j in
        let same-b : c + bodies fs ≡ b + (fun_binders f + bodies fs) = omega arith in
        let w = at k same-b in
        omega (arith, h, l, w, y)

  -- a program's variables
  pub numbered-once : (e : Exp Named) → IsOnce (λ x. x) (number types index none_given 0 e)
  numbered-once e k = let h = once e none_given 0 (binders e) k (omega arith) in let l = below-one (binders e) k in omega (arith, h, l)

  names-rise : (fs : Funs Named) (g : Given) (c n b : ℕ) → c ≤ n → NamesRise types index c (number_funs types index g n b fs)
  names-rise no_funs g c n b le = tt
  names-rise (fun x t f fs) g c n b le = (above fs, names-rise fs g c n (b + fun_binders f) le)
    where
      above : (fs : Funs Named) → top types index c (number_funs types index g n (b + fun_binders f) fs) ≤ n + heads fs
      above no_funs = omega arith
      above (fun y u h hs) = omega arith

  case-rises : (c : Case Named) (g : Given) (b d : ℕ) → d ≤ b → CaseRises types index d (number_case types index g b c)
  case-rises (is_literal l) g b d le = tt
  case-rises (is_con c) g b d le = tt
  case-rises (is_con_of c x t) g b d le = le
  case-rises (is_exn y) g b d le = tt
  case-rises (is_exn_of y x t) g b d le = le
  case-rises (is_record size) g b d le = tt

  case-above : (c : Case Named) (g : Given) (b d : ℕ) → d ≤ b → case_top types index d (number_case types index g b c) ≤ case_next b c
  case-above (is_literal l) g b d le = le
  case-above (is_con c) g b d le = le
  case-above (is_con_of c x t) g b d le = omega arith
  case-above (is_exn y) g b d le = le
  case-above (is_exn_of y x t) g b d le = omega arith
  case-above (is_record size) g b d le = le

  mutual
    rises : (e : Exp Named) (g : Given) (d b : ℕ) → d ≤ b → Rises types index d (number types index g b e)
    rises (ret a) g d b le = tt
    rises (let_in x u t o e) g d b le = let c = b + op_binders o in (op-rises o g d b le, omega (arith, le), rises e (given x c g) (suc c) (suc c) (same-suc c))
    rises (exception_in x i t e) g d b le = (le, rises e (given x b g) (suc b) (suc b) (same-suc b))
    rises (name_in x y e) g d b le = (le, rises e (given x b g) (suc b) (suc b) (same-suc b))
    rises (rec_in u fs e) g d b le =
        let g' = group_given b fs g in
        let c = b + heads fs in
        let above = group-top fs g' d b c le in
        (names-rise fs g' d b c le, funs-rise fs g' (top types index d (number_funs types index g' b c fs)) b c above, rises e g' (top types index d (number_funs types index g' b c fs)) (c + bodies fs) (omega (arith, above)))
    rises (switch a t arms) g d b le = arms-rise arms g d b le
    rises (first e f) g d b le = (rises e g d b le, rises f g d (b + binders e) (omega (arith, le)))
    rises miss g d b le = tt
    rises (counted n e) g d b le = rises e g d b le

    group-top : (fs : Funs Named) (g : Given) (d n b : ℕ) → d ≤ n → top types index d (number_funs types index g n b fs) ≤ n + heads fs
    group-top no_funs g d n b le = omega (arith, le)
    group-top (fun x t f fs) g d n b le = omega arith

    arms-rise : (arms : Arms Named) (g : Given) (d b : ℕ) → d ≤ b → ArmsRise types index d (number_arms types index g b arms)
    arms-rise no_arms g d b le = tt
    arms-rise (arm c e arms) g d b le =
        let up = case-up c b in
        (case-rises c g b d le, rises e (case_given g b c) (case_top types index d (number_case types index g b c)) (case_next b c) (case-above c g b d le), arms-rise arms g d (case_next b c + binders e) (omega (arith, le, up)))

    op-rises : (o : Op Named) (g : Given) (d b : ℕ) → d ≤ b → OpRises types index d (number_op types index g b o)
    op-rises (fn f) g d b le = fun-rises f g d b le
    op-rises (block e) g d b le = rises e g d b le
    op-rises (handle e x h) g d b le = let c = b + binders e in (rises e g d b le, omega (arith, le), rises h (given x c g) (suc c) (suc c) (same-suc c))
    op-rises (use_of x) g d b le = tt
    op-rises (const c) g d b le = tt
    op-rises (con_alone c t) g d b le = tt
    op-rises (construct m c t a) g d b le = tt
    op-rises (ref_alone t) g d b le = tt
    op-rises (refer m t a) g d b le = tt
    op-rises (content t a) g d b le = tt
    op-rises (pack m t x a) g d b le = tt
    op-rises (make_record t row) g d b le = tt
    op-rises (select t l a) g d b le = tt
    op-rises (prim_alone p t) g d b le = tt
    op-rises (prim m p t as_) g d b le = tt
    op-rises (app place f a) g d b le = tt
    op-rises (raise a) g d b le = tt
    op-rises (raise_initial i) g d b le = tt

    fun-rises : (f : Fun Named) (g : Given) (d b : ℕ) → d ≤ b → FunRises types index d (number_fun types index g b f)
    fun-rises (last x t e) g d b le = (le, rises e (given x b g) (suc b) (suc b) (same-suc b))
    fun-rises (more x t f) g d b le = (le, fun-rises f (given x b g) (suc b) (suc b) (same-suc b))

    funs-rise : (fs : Funs Named) (g : Given) (d n b : ℕ) → d ≤ b → FunsRise types index d (number_funs types index g n b fs)
    funs-rise no_funs g d n b le = tt
    funs-rise (fun x t f fs) g d n b le = (fun-rises f g d b le, funs-rise fs g d n (b + fun_binders f) (omega (arith, le)))

  pub numbers-rise : (e : Exp Named) → Rises types index 0 (number types index none_given 0 e)
  numbers-rise e = rises e none_given 0 0 (omega arith)
