-- Where each variable is bound once, none is bound where it is bound already.
use Rattle.std.proofs.Common.{◌≡◌, ℕ, ◌+◌, ◌≤◌, Bool, true, false, List, [], ◌∷◌, if◌then◌else◌, nat_eq, refl, sym, ap, subst, arith}
use Rattle.std.proofs.lemmas.Bool.{eq-eqb, eqb-true}
use Rattle.ir_plain.specs.Kind.{Kind}
use Rattle.ir_plain.specs.Tree.{Case, is_literal, is_con, is_con_of, is_exn, is_exn_of, is_record, Exp, ret, let_in, exception_in, name_in, rec_in, switch, first, miss, counted, Arms, no_arms, arm, Op, use_of, const, con_alone, construct, ref_alone, refer, content, pack, make_record, select, prim_alone, prim, app, fn, block, handle, raise, raise_initial, Fun, last, more, Funs, no_funs, fun}
use Rattle.ir_plain.specs.Once.{hit, case_times, times, arms_times, op_times, fun_times, funs_times, IsOnce}
use Rattle.ir_plain.specs.Unique.{IsOutside, outside_none, outside_more, funs_onto, AreNew, none_new, one_new, CaseUnique, literal_unique, con_unique, con_of_unique, exn_unique, exn_of_unique, record_unique, IsUnique, ret_unique, let_unique, exception_unique, name_unique, rec_unique, switch_unique, first_unique, miss_unique, counted_unique, ArmsUnique, no_arms_unique, arm_unique, OpUnique, use_unique, const_unique, con_alone_unique, construct_unique, ref_alone_unique, refer_unique, content_unique, pack_unique, make_record_unique, select_unique, prim_alone_unique, prim_unique, app_unique, fn_unique, block_unique, handle_unique, raise_unique, raise_initial_unique, FunUnique, last_unique, more_unique, FunsUnique, no_funs_unique, fun_unique}

nat_eq-to : (x y : ℕ) → nat_eq x y ≡ true → x ≡ y
nat_eq-to x y e = eqb-true x y e

nat_eq-same : (x : ℕ) → nat_eq x x ≡ true
nat_eq-same x = eq-eqb x x refl

-- how often it is bound already
abbrev inside : ℕ → List ℕ → ℕ
inside k [] = 0
inside k (y ∷ bs) = hit k y + inside k bs

abbrev number : Bool → ℕ
number c = if c then 1 else 0

abbrev Fits : List ℕ → (ℕ → ℕ) → Type 0
Fits bs f = (k : ℕ) → inside k bs + f k ≤ 1

outside-one : (b : Bool) (x y : ℕ) → nat_eq y x ≡ b → hit x y ≡ 0 → b ≡ false
outside-one true x y e h = absurd (let same : y ≡ x = nat_eq-to y x e in let one : hit x y ≡ 1 = ap number (subst (λ z. nat_eq x z ≡ true) (sym same) (nat_eq-same x)) in omega (arith, h, one))
outside-one false x y e h = refl

outside : (x : ℕ) (bs : List ℕ) → inside x bs ≡ 0 → IsOutside x bs
outside x [] h = outside_none
outside x (y ∷ bs) h = outside_more (outside-one (nat_eq y x) x y refl (omega (arith, h))) (outside x bs (omega (arith, h)))

self : (x : ℕ) → hit x x ≡ 1
self x = ap number (nat_eq-same x)

-- x is bound, beside others
new : (x : ℕ) (bs : List ℕ) (f : ℕ → ℕ) → Fits bs (λ k. hit k x + f k) → IsOutside x bs
new x bs f h = let one = h x in let s = self x in outside x bs (omega (arith, one, s))

module _ {F : Kind} (number : F.Binder → ℕ) where
  -- a group's own variables, and those in its bodies
  abbrev heads : ℕ → Funs F → ℕ
  heads k no_funs = 0
  heads k (fun x t f fs) = hit k (number x) + heads k fs

  abbrev bodies : ℕ → Funs F → ℕ
  bodies k no_funs = 0
  bodies k (fun x t f fs) = fun_times (λ b. hit k (number b)) f + bodies k fs

  heads-bodies : (k : ℕ) (fs : Funs F) → funs_times (λ b. hit k (number b)) fs ≡ heads k fs + bodies k fs
  heads-bodies k no_funs = omega arith
  heads-bodies k (fun x t f fs) = let h = heads-bodies k fs in omega (arith, h)

  inside-onto : (k : ℕ) (fs : Funs F) (bs : List ℕ) → inside k (funs_onto number fs bs) ≡ heads k fs + inside k bs
  inside-onto k no_funs bs = omega arith
  inside-onto k (fun x t f fs) bs = let h = inside-onto k fs bs in omega (arith, h)

  are-new : (fs : Funs F) (bs : List ℕ) → Fits bs (λ k. heads k fs) → AreNew number bs fs
  are-new no_funs bs h = none_new
  are-new (fun x t f fs) bs h =
      one_new (let one = h (number x) in let s = self (number x) in let d = inside-onto (number x) fs bs in outside (number x) (funs_onto number fs bs) (omega (arith, one, s, d))) (are-new fs bs (λ k. let one = h k in omega (arith, one)))

  case-unique : (c : Case F) (bs : List ℕ) (f : ℕ → ℕ) → Fits bs (λ k. case_times (λ b. hit k (number b)) c + f k) → (goal : Type 0) → ((bs' : List ℕ) → CaseUnique number bs c bs' → Fits bs' f → goal) → goal
  case-unique (is_literal l) bs f h goal go = go bs literal_unique (λ k. let one = h k in omega (arith, one))
  case-unique (is_con c) bs f h goal go = go bs con_unique (λ k. let one = h k in omega (arith, one))
  case-unique (is_con_of c x t) bs f h goal go = go (number x ∷ bs) (con_of_unique (new (number x) bs f h)) (λ k. let one = h k in omega (arith, one))
  case-unique (is_exn a) bs f h goal go = go bs exn_unique (λ k. let one = h k in omega (arith, one))
  case-unique (is_exn_of a x t) bs f h goal go = go (number x ∷ bs) (exn_of_unique (new (number x) bs f h)) (λ k. let one = h k in omega (arith, one))
  case-unique (is_record size) bs f h goal go = go bs record_unique (λ k. let one = h k in omega (arith, one))

  mutual
    unique : (e : Exp F) (bs : List ℕ) → Fits bs (λ k. times (λ b. hit k (number b)) e) → IsUnique number bs e
    unique (ret a) bs h = ret_unique
    unique (let_in x ps t o e) bs h = let_unique (new (number x) bs (λ k. op_times (λ b. hit k (number b)) o + times (λ b. hit k (number b)) e) h) (unique-op o bs (λ k. let one = h k in omega (arith, one))) (unique e (number x ∷ bs) (λ k. let one = h k in omega (arith, one)))
    unique (exception_in x i t e) bs h = exception_unique (new (number x) bs (λ k. times (λ b. hit k (number b)) e) h) (unique e (number x ∷ bs) (λ k. let one = h k in omega (arith, one)))
    unique (name_in x y e) bs h = name_unique (new (number x) bs (λ k. times (λ b. hit k (number b)) e) h) (unique e (number x ∷ bs) (λ k. let one = h k in omega (arith, one)))
    unique (rec_in ps fs e) bs h =
        rec_unique (are-new fs bs (λ k. let one = h k in let d = heads-bodies k fs in omega (arith, one, d)))
        (unique-funs fs (funs_onto number fs bs) (λ k. let one = h k in let d = heads-bodies k fs in let g = inside-onto k fs bs in omega (arith, one, d, g)))
        (unique e (funs_onto number fs bs) (λ k. let one = h k in let d = heads-bodies k fs in let g = inside-onto k fs bs in omega (arith, one, d, g)))
    unique (switch a t arms) bs h = switch_unique (unique-arms arms bs h)
    unique (first e d) bs h = first_unique (unique e bs (λ k. let one = h k in omega (arith, one))) (unique d bs (λ k. let one = h k in omega (arith, one)))
    unique miss bs h = miss_unique
    unique (counted n e) bs h = counted_unique (unique e bs h)

    unique-arms : (arms : Arms F) (bs : List ℕ) → Fits bs (λ k. arms_times (λ b. hit k (number b)) arms) → ArmsUnique number bs arms
    unique-arms no_arms bs h = no_arms_unique
    unique-arms (arm c e arms) bs h = case-unique c bs (λ k. times (λ b. hit k (number b)) e) (λ k. let one = h k in omega (arith, one)) (ArmsUnique number bs (arm c e arms)) (λ bs' u g. arm_unique u (unique e bs' g) (unique-arms arms bs (λ k. let one = h k in omega (arith, one))))

    unique-op : (o : Op F) (bs : List ℕ) → Fits bs (λ k. op_times (λ b. hit k (number b)) o) → OpUnique number bs o
    unique-op (use_of x) bs h = use_unique
    unique-op (const l) bs h = const_unique
    unique-op (con_alone c t) bs h = con_alone_unique
    unique-op (ref_alone t) bs h = ref_alone_unique
    unique-op (refer m t a) bs h = refer_unique
    unique-op (content t a) bs h = content_unique
    unique-op (prim_alone p t) bs h = prim_alone_unique
    unique-op (construct m c t a) bs h = construct_unique
    unique-op (pack m t x a) bs h = pack_unique
    unique-op (make_record t row) bs h = make_record_unique
    unique-op (select t l a) bs h = select_unique
    unique-op (prim m p t as_) bs h = prim_unique
    unique-op (app place f a) bs h = app_unique
    unique-op (fn f) bs h = fn_unique (unique-fun f bs h)
    unique-op (block e) bs h = block_unique (unique e bs h)
    unique-op (handle e x d) bs h = handle_unique (unique e bs (λ k. let one = h k in omega (arith, one))) (new (number x) bs (λ k. times (λ b. hit k (number b)) e + times (λ b. hit k (number b)) d) h) (unique d (number x ∷ bs) (λ k. let one = h k in omega (arith, one)))
    unique-op (raise a) bs h = raise_unique
    unique-op (raise_initial i) bs h = raise_initial_unique

    unique-fun : (f : Fun F) (bs : List ℕ) → Fits bs (λ k. fun_times (λ b. hit k (number b)) f) → FunUnique number bs f
    unique-fun (last x t e) bs h = last_unique (new (number x) bs (λ k. times (λ b. hit k (number b)) e) h) (unique e (number x ∷ bs) (λ k. let one = h k in omega (arith, one)))
    unique-fun (more x t f) bs h = more_unique (new (number x) bs (λ k. fun_times (λ b. hit k (number b)) f) h) (unique-fun f (number x ∷ bs) (λ k. let one = h k in omega (arith, one)))

    unique-funs : (fs : Funs F) (bs : List ℕ) → Fits bs (λ k. bodies k fs) → FunsUnique number bs fs
    unique-funs no_funs bs h = no_funs_unique
    unique-funs (fun x t f fs) bs h = fun_unique (unique-fun f bs (λ k. let one = h k in omega (arith, one))) (unique-funs fs bs (λ k. let one = h k in omega (arith, one)))

  -- where each variable is bound once, none is bound where it is bound already
  pub once-unique : (e : Exp F) → IsOnce number e → IsUnique number [] e
  once-unique e once = unique e [] (λ k. let one = once k in omega (arith, one))
