-- Where functions are numbered in the order of their codes, each has its code at its number.
use Rattle.std.proofs.Common.{◌≡◌, ℕ, zero, suc, List, [], ◌∷◌, map, Some, Bool, true, false, slice_get, refl, ap, subst, ◌∙◌}
use Rattle.std.specs.Prelude.{⊤}
use Rattle.ir_plain.specs.Tree as m
use Rattle.ir_plain.specs.Tree.{Fun, last, more, Funs, no_funs, fun}
use Rattle.ir_explicit.specs.of_ir_mono.Mono.{mono, Mono}
use Rattle.ir_first.specs.Tree as out
use Rattle.closure_convert.specs.of_flow_sets.Flow.{number_of}
use Rattle.closure_convert.specs.Scope.{Member}
use Rattle.closure_convert.specs.Closed.{members, leader}
use Rattle.closure_meaning.specs.Convert.{codes, codes_arms, codes_op, codes_fun, codes_funs, numbers_in, numbers_arms, numbers_op, numbers_fun, numbers_funs}
use Rattle.closure_meaning.specs.Fits.{Setting}
use Rattle.closure_meaning.proofs.Related.{Coded, CodedArms, CodedOp, CodedFun, CodedFuns}

-- the number that a code's second parameter stands for
abbrev less_four : ℕ → ℕ
less_four (suc (suc (suc (suc x)))) = x
less_four _ = zero

abbrev second : List ℕ → ℕ
second [] = zero
second (x ∷ []) = zero
second (x ∷ y ∷ ys) = less_four y

abbrev number_at : out.Fun → ℕ
number_at g = second g.params

slice_get-map : {A B : Type 0} (f : A → B) (xs : List A) (i : ℕ) {x : A} → slice_get xs i ≡ Some x → slice_get (map f xs) i ≡ Some (f x)
slice_get-map f [] i e = absurd (cc)
slice_get-map f (y ∷ xs) zero {x} e = let q : y ≡ x = cc in ap (λ z. Some (f z)) q
slice_get-map f (y ∷ xs) (suc i) e = slice_get-map f xs i e

module _ (C : Setting) where
  abbrev cs_of : Mono C.types → List out.Fun → List out.Fun
  cs_of e cs = codes C.numbering C.types C.flow C.captures e cs

  abbrev op_codes : m.Op (mono C.types) → List out.Fun → List out.Fun
  op_codes o cs = codes_op C.numbering C.types C.flow C.captures o cs

  abbrev arms_codes : m.Arms (mono C.types) → List out.Fun → List out.Fun
  arms_codes as_ cs = codes_arms C.numbering C.types C.flow C.captures as_ cs

  abbrev fun_codes : Bool → ℕ → List Member → Fun (mono C.types) → List out.Fun → List out.Fun
  fun_codes q g ms f cs = codes_fun C.numbering C.types C.flow C.captures q g ms f cs

  abbrev funs_codes : Bool → ℕ → List Member → Funs (mono C.types) → List out.Fun → List out.Fun
  funs_codes q g ms fs cs = codes_funs C.numbering C.types C.flow C.captures q g ms fs cs

  mutual
    numbers-are : (e : Mono C.types) (cs : List out.Fun) → map number_at (cs_of e cs) ≡ numbers_in C.types e (map number_at cs)
    numbers-are (m.ret a) cs = refl
    numbers-are (m.let_in x ps t o e) cs = numbers-op o (cs_of e cs) ∙ ap (numbers_op C.types o) (numbers-are e cs)
    numbers-are (m.exception_in x i t e) cs = numbers-are e cs
    numbers-are (m.name_in x y e) cs = numbers-are e cs
    numbers-are (m.rec_in ps fs e) cs = numbers-funs true (leader C.types fs) (members C.types fs) fs (cs_of e cs) ∙ ap (numbers_funs C.types fs) (numbers-are e cs)
    numbers-are (m.switch a t as_) cs = numbers-arms as_ cs
    numbers-are (m.first e d) cs = numbers-are e (cs_of d cs) ∙ ap (numbers_in C.types e) (numbers-are d cs)
    numbers-are m.miss cs = refl
    numbers-are (m.counted k e) cs = numbers-are e cs

    numbers-arms : (as_ : m.Arms (mono C.types)) (cs : List out.Fun) → map number_at (arms_codes as_ cs) ≡ numbers_arms C.types as_ (map number_at cs)
    numbers-arms m.no_arms cs = refl
    numbers-arms (m.arm c e as_) cs = numbers-are e (arms_codes as_ cs) ∙ ap (numbers_in C.types e) (numbers-arms as_ cs)

    numbers-op : (o : m.Op (mono C.types)) (cs : List out.Fun) → map number_at (op_codes o cs) ≡ numbers_op C.types o (map number_at cs)
    numbers-op (m.fn f) cs = numbers-fun true (number_of C.types f) [] f cs
    numbers-op (m.block b) cs = numbers-are b cs
    numbers-op (m.handle b x d) cs = numbers-are b (cs_of d cs) ∙ ap (numbers_in C.types b) (numbers-are d cs)
    numbers-op (m.use_of x) cs = refl
    numbers-op (m.const l) cs = refl
    numbers-op (m.con_alone c t) cs = refl
    numbers-op (m.construct k c t a) cs = refl
    numbers-op (m.ref_alone t) cs = refl
    numbers-op (m.refer k t a) cs = refl
    numbers-op (m.content t a) cs = refl
    numbers-op (m.pack k t y a) cs = refl
    numbers-op (m.make_record t row) cs = refl
    numbers-op (m.select t l a) cs = refl
    numbers-op (m.prim_alone p t) cs = refl
    numbers-op (m.prim k p t as_) cs = refl
    numbers-op (m.app place f a) cs = refl
    numbers-op (m.raise a) cs = refl
    numbers-op (m.raise_initial i) cs = refl

    numbers-fun : (q : Bool) (g : ℕ) (ms : List Member) (f : Fun (mono C.types)) (cs : List out.Fun) → map number_at (fun_codes q g ms f cs) ≡ numbers_fun C.types f (map number_at cs)
    numbers-fun q g ms (last x t e) cs = ap (λ l. x ∷ l) (numbers-are e cs)
    numbers-fun q g ms (more x t f) cs = ap (λ l. x ∷ l) (numbers-fun true (number_of C.types f) [] f cs)

    numbers-funs : (q : Bool) (g : ℕ) (ms : List Member) (fs : Funs (mono C.types)) (cs : List out.Fun) → map number_at (funs_codes q g ms fs cs) ≡ numbers_funs C.types fs (map number_at cs)
    numbers-funs q g ms no_funs cs = refl
    numbers-funs q g ms (fun x t f fs) cs = numbers-fun q g ms f (funs_codes false g ms fs cs) ∙ ap (numbers_fun C.types f) (numbers-funs false g ms fs cs)

  module _ (all : List out.Fun) where
    -- each of these is among the functions at its number
    abbrev AllHave : List out.Fun → Type 0
    AllHave [] = ⊤
    AllHave (g ∷ gs) = (slice_get all (C.numbering.function (number_at g)) ≡ Some g) × AllHave gs

    all-have : (cs : List out.Fun) → ((j : ℕ) (g : out.Fun) → slice_get cs j ≡ Some g → slice_get all (C.numbering.function (number_at g)) ≡ Some g) → AllHave cs
    all-have [] h = tt
    all-have (g ∷ gs) h = (h 0 g refl, all-have gs (λ j k e. h (suc j) k e))

    mutual
      coded : (e : Mono C.types) (cs : List out.Fun) → AllHave (cs_of e cs) → AllHave cs × Coded C all e
      coded (m.ret a) cs h = (h, tt)
      coded (m.let_in x ps t o e) cs h = let a = coded-op o (cs_of e cs) h in let c = coded e cs a.0 in (c.0, (a.1, c.1))
      coded (m.exception_in x i t e) cs h = coded e cs h
      coded (m.name_in x y e) cs h = coded e cs h
      coded (m.rec_in ps fs e) cs h = let a = coded-funs true (leader C.types fs) fs fs (cs_of e cs) h in let c = coded e cs a.0 in (c.0, (a.1, c.1))
      coded (m.switch a t as_) cs h = coded-arms as_ cs h
      coded (m.first e d) cs h = let a = coded e (cs_of d cs) h in let c = coded d cs a.0 in (c.0, (a.1, c.1))
      coded m.miss cs h = (h, tt)
      coded (m.counted k e) cs h = coded e cs h

      coded-arms : (as_ : m.Arms (mono C.types)) (cs : List out.Fun) → AllHave (arms_codes as_ cs) → AllHave cs × CodedArms C all as_
      coded-arms m.no_arms cs h = (h, tt)
      coded-arms (m.arm c e as_) cs h = let a = coded e (arms_codes as_ cs) h in let b = coded-arms as_ cs a.0 in (b.0, (a.1, b.1))

      coded-op : (o : m.Op (mono C.types)) (cs : List out.Fun) → AllHave (op_codes o cs) → AllHave cs × CodedOp C all o
      coded-op (m.fn f) cs h = coded-fun true (number_of C.types f) no_funs f cs h
      coded-op (m.block b) cs h = coded b cs h
      coded-op (m.handle b x d) cs h = let a = coded b (cs_of d cs) h in let c = coded d cs a.0 in (c.0, (a.1, c.1))
      coded-op (m.use_of x) cs h = (h, tt)
      coded-op (m.const l) cs h = (h, tt)
      coded-op (m.con_alone c t) cs h = (h, tt)
      coded-op (m.construct k c t a) cs h = (h, tt)
      coded-op (m.ref_alone t) cs h = (h, tt)
      coded-op (m.refer k t a) cs h = (h, tt)
      coded-op (m.content t a) cs h = (h, tt)
      coded-op (m.pack k t y a) cs h = (h, tt)
      coded-op (m.make_record t row) cs h = (h, tt)
      coded-op (m.select t l a) cs h = (h, tt)
      coded-op (m.prim_alone p t) cs h = (h, tt)
      coded-op (m.prim k p t as_) cs h = (h, tt)
      coded-op (m.app place f a) cs h = (h, tt)
      coded-op (m.raise a) cs h = (h, tt)
      coded-op (m.raise_initial i) cs h = (h, tt)

      coded-fun : (q : Bool) (g : ℕ) (fs : Funs (mono C.types)) (f : Fun (mono C.types)) (cs : List out.Fun) → AllHave (fun_codes q g (members C.types fs) f cs) → AllHave cs × CodedFun C all q g fs f
      coded-fun q g fs (last x t e) cs h = let c = coded e cs h.1 in (c.0, (h.0, c.1))
      coded-fun q g fs (more x t f) cs h = let c = coded-fun true (number_of C.types f) no_funs f cs h.1 in (c.0, (h.0, c.1))

      coded-funs : (q : Bool) (g : ℕ) (group fs : Funs (mono C.types)) (cs : List out.Fun) → AllHave (funs_codes q g (members C.types group) fs cs) → AllHave cs × CodedFuns C all q g group fs
      coded-funs q g group no_funs cs h = (h, tt)
      coded-funs q g group (fun x t f fs) cs h = let a = coded-fun q g group f (funs_codes false g (members C.types group) fs cs) h in let c = coded-funs false g group fs cs a.0 in (c.0, (a.1, c.1))

  pub coded-program : (main : out.Fun) (e : Mono C.types) → ((i k : ℕ) → slice_get (numbers_in C.types e []) i ≡ Some k → C.numbering.function k ≡ suc i) → Coded C (main ∷ cs_of e []) e
  coded-program main e numbered =
      (coded (main ∷ cs_of e []) e [] (all-have (main ∷ cs_of e []) (cs_of e []) (λ j g q.
      let n : slice_get (numbers_in C.types e []) j ≡ Some (number_at g) = subst (λ l. slice_get l j ≡ Some (number_at g)) (numbers-are e []) (slice_get-map number_at (cs_of e []) j q) in
      ap (slice_get (main ∷ cs_of e [])) (numbered j (number_at g) n) ∙ q))).1
