-- Each function of a set has its code at its number, which takes two arguments.
use Rattle.std.proofs.Common.{◌≡◌, ℕ, zero, suc, Bool, true, false, ◌||◌, List, [], ◌∷◌, ◌++◌, map, Some, nat_eq, if◌then◌else◌, slice_get, refl, sym, ap, subst, ◌∙◌}
use Rattle.std.specs.Prelude.{⊤}
use Rattle.ir_plain.specs.Tree as m
use Rattle.ir_plain.specs.Tree.{Case, is_literal, is_con, is_con_of, is_exn, is_exn_of, is_record, Fun, last, more, Funs, no_funs, fun}
use Rattle.ir_mono.specs.Types as table
use Rattle.ir_mono.specs.Types.{node_at}
use Rattle.ir_mono.specs.Mono.{mono, Mono}
use Rattle.ir_first.specs.Tree as out
use Rattle.ir_first.specs.WellFormed.{arity}
use Rattle.flow_sets.specs.Member.{is_in, Within}
use Rattle.flow_sets.specs.Flow.{Flow, number_of}
use Rattle.flow_sets.specs.ByType.{What, value, name, parameter, Bound, bound_in, gives, bound_case, bound, bound_arms, bound_op, bound_fun, bound_funs}
use Rattle.flow_sets.proofs.Member.{nat_eq-to, nat_eq-same, or_left, within-same, within-further}
use Rattle.closure_convert.specs.Scope.{Member, index_of, Table}
use Rattle.closure_convert.specs.Closed.{members, leader}
use Rattle.closure_meaning.specs.Convert.{Numbering, codes, codes_arms, codes_op, codes_fun, codes_funs, numbers_in, numbers_arms, numbers_op, numbers_fun, numbers_funs}

abbrev pub two : ℕ → ℕ
two k = 2

module _ (n : Numbering) (types : List table.Row) (flow : Flow) (captures : Table) where
  pub record Twos (cs : List out.Fun) (ks : List ℕ) : Type 0 where
    pub same : map arity cs ≡ map two ks

  mutual
    pub codes-two : (e : Mono types) {cs : List out.Fun} {ks : List ℕ} → Twos cs ks → Twos (codes n types flow captures e cs) (numbers_in types e ks)
    codes-two (m.ret a) h = h
    codes-two (m.let_in x ps t o e) h = op-two o (codes-two e h)
    codes-two (m.exception_in x i t e) h = codes-two e h
    codes-two (m.name_in x y e) h = codes-two e h
    codes-two (m.rec_in ps fs e) h = funs-two fs true (leader types fs) (members types fs) (codes-two e h)
    codes-two (m.switch a t arms) h = arms-two arms h
    codes-two (m.first e d) h = codes-two e (codes-two d h)
    codes-two m.miss h = h
    codes-two (m.counted k e) h = codes-two e h

    arms-two : (arms : m.Arms (mono types)) {cs : List out.Fun} {ks : List ℕ} → Twos cs ks → Twos (codes_arms n types flow captures arms cs) (numbers_arms types arms ks)
    arms-two m.no_arms h = h
    arms-two (m.arm c e arms) h = codes-two e (arms-two arms h)

    op-two : (o : m.Op (mono types)) {cs : List out.Fun} {ks : List ℕ} → Twos cs ks → Twos (codes_op n types flow captures o cs) (numbers_op types o ks)
    op-two (m.fn f) h = fun-two f true (number_of types f) [] h
    op-two (m.block b) h = codes-two b h
    op-two (m.handle b x d) h = codes-two b (codes-two d h)
    op-two (m.use_of x) h = h
    op-two (m.const l) h = h
    op-two (m.con_alone c t) h = h
    op-two (m.construct k c t a) h = h
    op-two (m.ref_alone t) h = h
    op-two (m.refer k t a) h = h
    op-two (m.content t a) h = h
    op-two (m.pack k t y a) h = h
    op-two (m.make_record t row) h = h
    op-two (m.select t l a) h = h
    op-two (m.prim_alone p t) h = h
    op-two (m.prim k p t as_) h = h
    op-two (m.app place f a) h = h
    op-two (m.raise a) h = h
    op-two (m.raise_initial i) h = h

    fun-two : (f : Fun (mono types)) (q : Bool) (g : ℕ) (ms : List Member) {cs : List out.Fun} {ks : List ℕ} → Twos cs ks → Twos (codes_fun n types flow captures q g ms f cs) (numbers_fun types f ks)
    fun-two (last x t e) q g ms h = record { same = ap (λ z. 2 ∷ z) (codes-two e h).same }
    fun-two (more x t f) q g ms h = record { same = ap (λ z. 2 ∷ z) (fun-two f true (number_of types f) [] h).same }

    funs-two : (fs : Funs (mono types)) (q : Bool) (g : ℕ) (ms : List Member) {cs : List out.Fun} {ks : List ℕ} → Twos cs ks → Twos (codes_funs n types flow captures q g ms fs cs) (numbers_funs types fs ks)
    funs-two no_funs q g ms h = h
    funs-two (fun x t f fs) q g ms h = fun-two f q g ms (funs-two fs false g ms h)

two-at : (k x : ℕ) (xs : List ℕ) (b : Bool) → nat_eq k x ≡ b → (is_in k xs ≡ true → slice_get (map two xs) (index_of k xs) ≡ Some 2) → (b || is_in k xs) ≡ true → slice_get (map two (x ∷ xs)) (if b then zero else suc (index_of k xs)) ≡ Some 2
two-at k x xs true e rest i = refl
two-at k x xs false e rest i = rest i

pub takes-two : (k : ℕ) (xs : List ℕ) → is_in k xs ≡ true → slice_get (map two xs) (index_of k xs) ≡ Some 2
takes-two k [] i = absurd (cc)
takes-two k (x ∷ xs) i = two-at k x xs (nat_eq k x) refl (takes-two k xs) i

-- Functions that are bound have numbers

abbrev IsNumbered : List ℕ → Bound → What → Type 0
IsNumbered ks b (value t) = ⊤
IsNumbered ks b name = ⊤
IsNumbered ks b (parameter t) = is_in b.variable ks ≡ true

abbrev AllNumbered : List ℕ → List Bound → Type 0
AllNumbered ks [] = ⊤
AllNumbered ks (b ∷ bs) = IsNumbered ks b b.what × AllNumbered ks bs

numbered-both : (ks : List ℕ) (xs ys : List Bound) → AllNumbered ks xs → AllNumbered ks ys → AllNumbered ks (xs ++ ys)
numbered-both ks [] ys h g = g
numbered-both ks (x ∷ xs) ys h g = (h.0, numbered-both ks xs ys h.1 g)

or-right : (a : Bool) {d : Bool} → d ≡ true → (a || d) ≡ true
or-right true h = refl
or-right false h = h

module _ (types : List table.Row) where
  in-case : (ks : List ℕ) (c : Case (mono types)) → AllNumbered ks (bound_case types c)
  in-case ks (is_literal l) = tt
  in-case ks (is_con c) = tt
  in-case ks (is_con_of c x t) = (tt, tt)
  in-case ks (is_exn y) = tt
  in-case ks (is_exn_of y x t) = (tt, tt)
  in-case ks (is_record size) = tt

  under : {ks js : List ℕ} (x : ℕ) → Within ks js → Within ks (x ∷ js)
  under x h = record { all = λ k i. or-right (nat_eq k x) (h.all k i) }

  -- what is in the numbers that are there is in those of more
  mutual
    kept : (e : Mono types) {ks : List ℕ} → Within ks (numbers_in types e ks)
    kept (m.ret a) = within-same refl
    kept (m.let_in x ps t o e) = within-further (kept e) (op-kept o)
    kept (m.exception_in x j t e) = kept e
    kept (m.name_in x y e) = kept e
    kept (m.rec_in ps fs e) = within-further (kept e) (funs-kept fs)
    kept (m.switch a t arms) = arms-kept arms
    kept (m.first e d) = within-further (kept d) (kept e)
    kept m.miss = within-same refl
    kept (m.counted j e) = kept e

    arms-kept : (arms : m.Arms (mono types)) {ks : List ℕ} → Within ks (numbers_arms types arms ks)
    arms-kept m.no_arms = within-same refl
    arms-kept (m.arm c e arms) = within-further (arms-kept arms) (kept e)

    op-kept : (o : m.Op (mono types)) {ks : List ℕ} → Within ks (numbers_op types o ks)
    op-kept (m.fn f) = fun-kept f
    op-kept (m.block b) = kept b
    op-kept (m.handle b x d) = within-further (kept d) (kept b)
    op-kept (m.use_of x) = within-same refl
    op-kept (m.const l) = within-same refl
    op-kept (m.con_alone c t) = within-same refl
    op-kept (m.construct j c t a) = within-same refl
    op-kept (m.ref_alone t) = within-same refl
    op-kept (m.refer j t a) = within-same refl
    op-kept (m.content t a) = within-same refl
    op-kept (m.pack j t y a) = within-same refl
    op-kept (m.make_record t row) = within-same refl
    op-kept (m.select t l a) = within-same refl
    op-kept (m.prim_alone p t) = within-same refl
    op-kept (m.prim j p t as_) = within-same refl
    op-kept (m.app place f a) = within-same refl
    op-kept (m.raise a) = within-same refl
    op-kept (m.raise_initial j) = within-same refl

    fun-kept : (f : Fun (mono types)) {ks : List ℕ} → Within ks (numbers_fun types f ks)
    fun-kept (last x t e) = under x (kept e)
    fun-kept (more x t f) = under x (fun-kept f)

    funs-kept : (fs : Funs (mono types)) {ks : List ℕ} → Within ks (numbers_funs types fs ks)
    funs-kept no_funs = within-same refl
    funs-kept (fun x t f fs) = within-further (funs-kept fs) (fun-kept f)

  here : (x : ℕ) (js all : List ℕ) → Within (x ∷ js) all → is_in x all ≡ true
  here x js all s = s.all x (or_left (nat_eq x x) (is_in x js) (nat_eq-same x))

  beyond : (x : ℕ) (js all : List ℕ) → Within (x ∷ js) all → Within js all
  beyond x js all s = record { all = λ k i. s.all k (or-right (nat_eq k x) i) }

  mutual
    pub numbered : (e : Mono types) (ks all : List ℕ) → Within (numbers_in types e ks) all → AllNumbered all (bound types e)
    numbered (m.ret a) ks all s = tt
    numbered (m.let_in x ps t o e) ks all s = (tt, numbered-both all (bound_op types t o) (bound types e) (op-numbered t o (numbers_in types e ks) all s) (numbered e ks all (within-further (op-kept o) s)))
    numbered (m.exception_in x i t e) ks all s = (tt, numbered e ks all s)
    numbered (m.name_in x y e) ks all s = (tt, numbered e ks all s)
    numbered (m.rec_in ps fs e) ks all s = numbered-both all (bound_funs types fs) (bound types e) (funs-numbered fs (numbers_in types e ks) all s) (numbered e ks all (within-further (funs-kept fs) s))
    numbered (m.switch a t arms) ks all s = arms-numbered arms ks all s
    numbered (m.first e d) ks all s = numbered-both all (bound types e) (bound types d) (numbered e (numbers_in types d ks) all s) (numbered d ks all (within-further (kept e) s))
    numbered m.miss ks all s = tt
    numbered (m.counted j e) ks all s = numbered e ks all s

    arms-numbered : (arms : m.Arms (mono types)) (ks all : List ℕ) → Within (numbers_arms types arms ks) all → AllNumbered all (bound_arms types arms)
    arms-numbered m.no_arms ks all s = tt
    arms-numbered (m.arm c e arms) ks all s =
        numbered-both all (bound_case types c) (bound types e ++ bound_arms types arms) (in-case all c) (numbered-both all (bound types e) (bound_arms types arms) (numbered e (numbers_arms types arms ks) all s) (arms-numbered arms ks all (within-further (kept e) s)))

    op-numbered : (t : ℕ) (o : m.Op (mono types)) (ks all : List ℕ) → Within (numbers_op types o ks) all → AllNumbered all (bound_op types t o)
    op-numbered t (m.fn f) ks all s = fun-numbered t f ks all s
    op-numbered t (m.block b) ks all s = numbered b ks all s
    op-numbered t (m.handle b x d) ks all s = (tt, numbered-both all (bound types b) (bound types d) (numbered b (numbers_in types d ks) all s) (numbered d ks all (within-further (kept b) s)))
    op-numbered t (m.use_of x) ks all s = tt
    op-numbered t (m.const l) ks all s = tt
    op-numbered t (m.con_alone c u) ks all s = tt
    op-numbered t (m.construct j c u a) ks all s = tt
    op-numbered t (m.ref_alone u) ks all s = tt
    op-numbered t (m.refer j u a) ks all s = tt
    op-numbered t (m.content u a) ks all s = tt
    op-numbered t (m.pack j u y a) ks all s = tt
    op-numbered t (m.make_record u row) ks all s = tt
    op-numbered t (m.select u l a) ks all s = tt
    op-numbered t (m.prim_alone p u) ks all s = tt
    op-numbered t (m.prim j p u as_) ks all s = tt
    op-numbered t (m.app place f a) ks all s = tt
    op-numbered t (m.raise a) ks all s = tt
    op-numbered t (m.raise_initial j) ks all s = tt

    fun-numbered : (t : ℕ) (f : Fun (mono types)) (ks all : List ℕ) → Within (numbers_fun types f ks) all → AllNumbered all (bound_fun types t f)
    fun-numbered t (last x u e) ks all s = (here x (numbers_in types e ks) all s, numbered e ks all (beyond x (numbers_in types e ks) all s))
    fun-numbered t (more x u f) ks all s = (here x (numbers_fun types f ks) all s, fun-numbered (gives types (node_at types t)) f ks all (beyond x (numbers_fun types f ks) all s))

    funs-numbered : (fs : Funs (mono types)) (ks all : List ℕ) → Within (numbers_funs types fs ks) all → AllNumbered all (bound_funs types fs)
    funs-numbered no_funs ks all s = tt
    funs-numbered (fun x t f fs) ks all s = (tt, numbered-both all (bound_fun types t f) (bound_funs types fs) (fun-numbered t f (numbers_funs types fs ks) all s) (funs-numbered fs ks all (within-further (fun-kept f) s)))

found-at : (k : ℕ) (b c : Bound) (bs : List Bound) (ks : List ℕ) (t : ℕ) → b.what ≡ parameter t → IsNumbered ks c c.what → (bound_in k bs ≡ Some b → is_in k ks ≡ true) → (x : Bool) → nat_eq k c.variable ≡ x → (if x then Some c else bound_in k bs) ≡ Some b → is_in k ks ≡ true
found-at k b c bs ks t w h rest true q e =
    let same : c ≡ b = cc in
    let is : c.what ≡ parameter t = ap (λ z. z.what) same ∙ w in
    let i : is_in c.variable ks ≡ true = subst (λ z. IsNumbered ks c z) is h in subst (λ z. is_in z ks ≡ true) (sym (nat_eq-to k c.variable q)) i
found-at k b c bs ks t w h rest false q e = rest e

pub has-number : (k : ℕ) (b : Bound) (bs : List Bound) (ks : List ℕ) (t : ℕ) → b.what ≡ parameter t → AllNumbered ks bs → bound_in k bs ≡ Some b → is_in k ks ≡ true
has-number k b [] ks t w h e = absurd (cc)
has-number k b (c ∷ bs) ks t w h e = found-at k b c bs ks t w h.0 (has-number k b bs ks t w h.1) (nat_eq k c.variable) refl e
