-- A program of copies with numbers for names and for types is one of the same program.
use Rattle.std.proofs.Common.{◌≡◌, ℕ, suc, ◌+◌, ◌<◌, ◌≤◌, List, [], Bool, true, false, Option, if◌then◌else◌, nat_eq, refl, sym, subst, ◌∙◌, arith}
use Rattle.std.proofs.lemmas.Bool.{eqb-true}
use Rattle.ty_core.specs.Types.{Typ}
use Rattle.ty_core.specs.declared.scheme.Quantified.{Quantified}
use Rattle.ir_mono.specs.of_ir_plain.Tree.{Case, Exception, Atoms, Row, Exp, Arms, Op, Fun, Funs, no_funs, fun}
use Rattle.ir_mono.specs.of_ir_poly.Tests.{poly}
use Rattle.ir_mono.specs.of_ir_poly.Types.{Constructor}
use Rattle.ir_mono.specs.Types as table
use Rattle.monomorphise.specs.Copies.{Pairs, no_pairs, pair, Copied, no_copies, entry, entries, Has, at_head, deeper, IsNewName, new_name, newer_name, IsNewCopy, new_copy, newer_copy, IsNotAmong, among_none, not_this, AreNewNames, no_names, a_new_name, AreNewCopies, none_copied, a_new_copy, CopyAtoms, copy_no_atoms, copy_an_atom, CopyRow, copy_no_row, copy_a_row, CopyName, copy_fixed, copy_held, CopyArgument, copy_no_argument, copy_argument, CopyCase, copy_is_literal, copy_is_con, copy_is_con_of, copy_is_exn, copy_is_exn_of, copy_is_record, Copy, copy_ret, copy_let, copy_exception, copy_name, copy_rec, copy_switch, copy_first, copy_miss, copy_counted, CopyArms, copy_no_arms, copy_arm, CopyOp, copy_use, copy_own, copy_const, copy_con_alone, copy_construct, copy_ref_alone, copy_refer, copy_content, copy_pack, copy_make_record, copy_select, copy_prim_alone, copy_prim, copy_app, copy_fn, copy_block, copy_handle, copy_raise, copy_raise_initial, CopyFun, copy_last, copy_more, CopyFuns, copy_no_funs, copy_fun, Rest, no_more_copies, one_more_copy, RestGroups, no_more_groups, one_more_group}
use Rattle.monomorphise.specs.Monomorphise.{Name, is_same, named, Named}
use Rattle.monomorphise.specs.Number.{Given, none_given, given, number_of, binders, op_binders, fun_binders, heads, bodies, group_given, case_given, case_next, number_atoms, number_row, number_name, number_argument, number_case, number, number_arms, number_op, number_fun, number_funs, Known, ArgumentKnown, CaseKnown, AllKnown, ArmsKnown, OpKnown, FunKnown, FunsKnown}
use Rattle.monomorphise.specs.Simple.{IsType, simple}
use Rattle.monomorphise.proofs.Names.{name-same}
use Rattle.monomorphise.proofs.Related.{new-copy-base, copies-reclosed}

pick : (b : Bool) (m n : ℕ) → b ≡ true → (if b then m else n) ≡ m
pick true m n e = refl
pick false m n e = absurd (cc)

pass : (b : Bool) (m n : ℕ) → b ≡ false → (if b then m else n) ≡ n
pass true m n e = absurd (cc)
pass false m n e = refl

unlike : (m n : ℕ) → m < n → nat_eq m n ≡ false
unlike m n l = go (nat_eq m n) refl
  where
    go : (b : Bool) → nat_eq m n ≡ b → b ≡ false
    go true e = let same = eqb-true m n e in absurd (omega (arith, same))
    go false e = refl

module _ (constructors : List Constructor) (types : List table.Row) (index : Typ → ℕ) where
  -- the same copies with the numbers that are given, all below b
  data Numbered (g : Given) (b : ℕ) : Copied Name → Copied ℕ → Type 0 where
    numbered_none : Numbered g b no_copies no_copies
    numbered_one : {x n : ℕ} {a : List Typ} {k : Name} {r : Copied Name} {q : Copied ℕ} → number_of k g ≡ n → n < b → Numbered g b r q → Numbered g b (entry x a k r) (entry x a n q)

  wider : {g : Given} {b c : ℕ} {r : Copied Name} {q : Copied ℕ} → b ≤ c → Numbered g b r q → Numbered g c r q
  wider le numbered_none = numbered_none
  wider le (numbered_one e l h) = numbered_one e (omega arith) (wider le h)

  push : {g : Given} {b n : ℕ} {k : Name} {r : Copied Name} {q : Copied ℕ} → IsNewCopy (named constructors) k r → Numbered g b r q → Numbered (given k n g) b r q
  push new numbered_none = numbered_none
  push {k = k} (newer_copy e new) (numbered_one {k = j} d l h) = numbered_one (pass (is_same j k) _ _ e ∙ d) l (push new h)

  has-number : {x : ℕ} {a : List Typ} {k : Name} {g : Given} {b : ℕ} {r : Copied Name} {q : Copied ℕ} → Has x a k r → Numbered g b r q → Has x a (number_of k g) q
  has-number {x} {a} at_head (numbered_one {n = n} {q = q} e l h) = subst (λ z. Has x a z (entry x a n q)) (sym e) at_head
  has-number (deeper y) (numbered_one e l h) = deeper (has-number y h)

  name-number : {x b : ℕ} {g : Given} {r : Copied Name} {q : Copied ℕ} → IsNewName x r → Numbered g b r q → IsNewName x q
  name-number new_name numbered_none = new_name
  name-number (newer_name e h) (numbered_one d l k) = newer_name e (name-number h k)

  copy-number : {b n : ℕ} {g : Given} {r : Copied Name} {q : Copied ℕ} → b ≤ n → Numbered g b r q → IsNewCopy (simple types) n q
  copy-number le numbered_none = new_copy
  copy-number {n = n} le (numbered_one {n = m} d l h) = newer_copy (unlike m n (omega arith)) (copy-number le h)

  -- a copy gets the next number
  one : {x b c : ℕ} {a : List Typ} {k : Name} {g : Given} {r : Copied Name} {q : Copied ℕ} → b ≤ c → IsNewCopy (named constructors) k r → Numbered g b r q → Numbered (given k c g) (suc c) (entry x a k r) (entry x a c q)
  one {k = k} le new h = numbered_one (pick (is_same k k) _ _ (name-same k)) (omega arith) (wider (omega arith) (push new h))

  -- a group gets the next numbers
  abbrev number_pairs : ℕ → Funs Named → Pairs Name → Pairs ℕ
  number_pairs b no_funs qs = no_pairs
  number_pairs b (fun k t f fs) no_pairs = no_pairs
  number_pairs b (fun k t f fs) (pair x j qs) = pair x (b + heads fs) (number_pairs b fs qs)

  group-number : {b : ℕ} (c : ℕ) {g : Given} {r z : Copied Name} {q : Copied ℕ} {s : ℕ → Typ} {fs : Funs poly} {fs' : Funs Named} {qs : Pairs Name} (a : List Typ) → b ≤ c → CopyFuns (named constructors) z s fs fs' qs → AreNewCopies (named constructors) r a qs → Numbered g b r q → Numbered (group_given c fs' g) (c + heads fs') (entries a qs r) (entries a (number_pairs c fs' qs) q)
  group-number c a le copy_no_funs none_copied h = wider (omega arith) h
  group-number c a le (copy_fun x t k n i f fs) (a_new_copy u m) h = numbered_one (pick (is_same k k) _ _ (name-same k)) (omega arith) (wider (omega arith) (push u (group-number c a le fs m h)))

  -- what is in scope beside the group's copies keeps its numbers
  group-push : {b : ℕ} (c : ℕ) {g : Given} {r z : Copied Name} {q : Copied ℕ} {s : ℕ → Typ} {fs : Funs poly} {fs' : Funs Named} {qs : Pairs Name} (a : List Typ) → CopyFuns (named constructors) z s fs fs' qs → AreNewCopies (named constructors) r a qs → Numbered g b r q → Numbered (group_given c fs' g) b r q
  group-push c a copy_no_funs none_copied h = h
  group-push c a (copy_fun x t k n i f fs) (a_new_copy {qs = qs} u m) h = push (new-copy-base (named constructors) a qs u) (group-push c a fs m h)

  among-number : {x : ℕ} (c : ℕ) {z : Copied Name} {s : ℕ → Typ} {fs : Funs poly} {fs' : Funs Named} {qs : Pairs Name} → CopyFuns (named constructors) z s fs fs' qs → IsNotAmong x qs → IsNotAmong x (number_pairs c fs' qs)
  among-number c copy_no_funs among_none = among_none
  among-number c (copy_fun x t k n i f fs) (not_this e h) = not_this e (among-number c fs h)

  names-number : {b : ℕ} (c : ℕ) {g : Given} {r z : Copied Name} {q : Copied ℕ} {s : ℕ → Typ} {fs : Funs poly} {fs' : Funs Named} {qs : Pairs Name} → CopyFuns (named constructors) z s fs fs' qs → AreNewNames r qs → Numbered g b r q → AreNewNames q (number_pairs c fs' qs)
  names-number c copy_no_funs no_names h = no_names
  names-number c (copy_fun x t k n i f fs) (a_new_name e u m) h = a_new_name (among-number c fs e) (name-number u h) (names-number c fs m h)

  copies-number : {b : ℕ} (c : ℕ) {g : Given} {r z : Copied Name} {q : Copied ℕ} {s : ℕ → Typ} {fs : Funs poly} {fs' : Funs Named} {qs : Pairs Name} (a : List Typ) → b ≤ c → CopyFuns (named constructors) z s fs fs' qs → AreNewCopies (named constructors) r a qs → Numbered g b r q → AreNewCopies (simple types) q a (number_pairs c fs' qs)
  copies-number c a le copy_no_funs none_copied h = none_copied
  copies-number c a le (copy_fun x t k n i f fs) (a_new_copy u m) h = a_new_copy (copy-number (omega arith) (group-number c a le fs m h)) (copies-number c a le fs m h)

  atoms-number : {b : ℕ} {g : Given} {r : Copied Name} {q : Copied ℕ} {as_ : Atoms poly} {as' : Atoms Named} → CopyAtoms (named constructors) r as_ as' → Numbered g b r q → CopyAtoms (simple types) q as_ (number_atoms types index g as')
  atoms-number copy_no_atoms h = copy_no_atoms
  atoms-number (copy_an_atom y as_) h = copy_an_atom (has-number y h) (atoms-number as_ h)

  row-number : {b : ℕ} {g : Given} {r : Copied Name} {q : Copied ℕ} {row : Row poly} {row' : Row Named} → CopyRow (named constructors) r row row' → Numbered g b r q → CopyRow (simple types) q row (number_row types index g row')
  row-number copy_no_row h = copy_no_row
  row-number (copy_a_row l y row) h = copy_a_row l (has-number y h) (row-number row h)

  exception-number : {b : ℕ} {g : Given} {r : Copied Name} {q : Copied ℕ} {y : Exception poly} {j : Exception Named} → CopyName (named constructors) r y j → Numbered g b r q → CopyName (simple types) q y (number_name types index g j)
  exception-number (copy_fixed n) h = copy_fixed n
  exception-number (copy_held y) h = copy_held (has-number y h)

  -- a type's number
  type-number : {n t : Typ} → n ≡ t → Known types index n → IsType types (index n) t
  type-number {n} e i = subst (IsType types (index n)) e i

  argument-number : {s : ℕ → Typ} {t : Option Typ} {n : Option Typ} → CopyArgument (named constructors) s t n → ArgumentKnown types index n → CopyArgument (simple types) s t (number_argument types index n)
  argument-number copy_no_argument i = copy_no_argument
  argument-number (copy_argument t n e) i = copy_argument t (index n) (type-number e i)

  newer-base : {x : ℕ} {a : List Typ} {j k : Name} {r : Copied Name} → IsNewCopy (named constructors) k (entry x a j r) → IsNewCopy (named constructors) k r
  newer-base (newer_copy e h) = h

  case-number : {b : ℕ} {g : Given} {r r' : Copied Name} {q : Copied ℕ} {s : ℕ → Typ} {u : Typ} {c : Case poly} {c' : Case Named} → CopyCase (named constructors) r s u c c' r' → CaseKnown types index u c' → Numbered g b r q → (goal : Type 0)
      → ((q' : Copied ℕ) → CopyCase (simple types) q s (index u) c (number_case types index g b c') q' → Numbered (case_given g b c') (case_next b c') r' q' → b ≤ case_next b c' → goal) → goal
  case-number {q = q} (copy_is_literal l) i h goal go = go q (copy_is_literal l) h (omega arith)
  case-number {q = q} (copy_is_con c p) i h goal go = go q (copy_is_con c i) h (omega arith)
  case-number {b = b} {q = q} (copy_is_con_of c x t k n p e u m) i h goal go = go (entry x [] b q) (copy_is_con_of c x t b (index n) i.0 (type-number e i.1) (name-number u h) (copy-number (omega arith) h)) (one (omega arith) m h) (omega arith)
  case-number {q = q} (copy_is_exn y) i h goal go = go q (copy_is_exn (has-number y h)) h (omega arith)
  case-number {b = b} {q = q} (copy_is_exn_of x t k n y e u m) i h goal go = go (entry x [] b q) (copy_is_exn_of x t b (index n) (has-number y h) (type-number e i) (name-number u h) (copy-number (omega arith) h)) (one (omega arith) m h) (omega arith)
  case-number {q = q} (copy_is_record size) i h goal go = go q (copy_is_record size) h (omega arith)

  mutual
    exp-number : {g : Given} (b : ℕ) {r : Copied Name} {q : Copied ℕ} {s : ℕ → Typ} {e : Exp poly} {e' : Exp Named} → Copy (named constructors) r s e e' → AllKnown types index e' → Numbered g b r q → Copy (simple types) q s e (number types index g b e')
    exp-number b (copy_ret y) i h = copy_ret (has-number y h)
    exp-number b (copy_let {o' = o'} a f t o n m rest) i h =
        let c = b + op_binders o' in
        copy_let a f (type-number t i.0) (op-number b o i.1 h) (name-number n h) (copy-number {n = c} (omega arith) h) (rest-number (suc c) rest i.2 (λ j y. newer-base y) (wider (omega arith) (push m h)) (one (omega arith) m h))
    exp-number b (copy_exception x z k t n m e) i h = copy_exception x z b (argument-number t i.0) (name-number n h) (copy-number (omega arith) h) (exp-number (suc b) e i.1 (one (omega arith) m h))
    exp-number b (copy_name x k y n m e) i h = copy_name x b (exception-number y h) (name-number n h) (copy-number (omega arith) h) (exp-number (suc b) e i (one (omega arith) m h))
    exp-number {g = g} b (copy_rec {fs' = fs'} {qs = qs} a f c n m rest) i h =
        let inner = group-number b a (omega arith) c m h in
        copy_rec a f (funs-number b (b + heads fs') c i.0 inner) (names-number b c n h) (copies-number b a (omega arith) c m h)
        (groups-number (b + heads fs' + bodies fs') rest i.1 (λ j y. new-copy-base (named constructors) a qs y) (wider (omega arith) (group-push b a c m h)) (wider (omega arith) inner))
    exp-number b (copy_switch t n y e arms) i h = copy_switch t (index n) (has-number y h) (type-number e i.0) (arms-number b arms i.1 h)
    exp-number b (copy_first {e' = e'} x y) i h = copy_first (exp-number b x i.0 h) (exp-number (b + binders e') y i.1 (wider (omega arith) h))
    exp-number b copy_miss i h = copy_miss
    exp-number b (copy_counted n x) i h = copy_counted n (exp-number b x i h)

    rest-number : {g : Given} (b : ℕ) {r r' : Copied Name} {q q' : Copied ℕ} {s : ℕ → Typ} {x : ℕ} {ps : List Quantified} {t : Typ} {o : Op poly} {e : Exp poly} {e' : Exp Named} → Rest (named constructors) r s x ps t o e r' e' → AllKnown types index e' → ((k : Name) → IsNewCopy (named constructors) k r' → IsNewCopy (named constructors) k r)
        → Numbered g b r q → Numbered g b r' q' → Rest (simple types) q s x ps t o e q' (number types index g b e')
    rest-number b (no_more_copies e) i base h h' = no_more_copies (exp-number b e i h')
    rest-number b (one_more_copy {k = k} {o' = o'} a f v t o m rest) i base h h' =
        let c = b + op_binders o' in
        one_more_copy a f v (type-number t i.0) (op-number b o i.1 h) (copy-number {n = c} (omega arith) h') (rest-number (suc c) rest i.2 (λ j y. base j (newer-base y)) (wider (omega arith) (push (base k m) h)) (one (omega arith) m h'))

    groups-number : {g : Given} (b : ℕ) {r r' : Copied Name} {q q' : Copied ℕ} {s : ℕ → Typ} {ps : List Quantified} {fs : Funs poly} {e : Exp poly} {e' : Exp Named} → RestGroups (named constructors) r s ps fs e r' e' → AllKnown types index e' → ((k : Name) → IsNewCopy (named constructors) k r' → IsNewCopy (named constructors) k r)
        → Numbered g b r q → Numbered g b r' q' → RestGroups (simple types) q s ps fs e q' (number types index g b e')
    groups-number b (no_more_groups e) i base h h' = no_more_groups (exp-number b e i h')
    groups-number b (one_more_group {fs' = fs'} {qs = qs} a f c n m rest) i base h h' =
        let fewer = copies-reclosed (named constructors) a a base m in
        one_more_group a f (funs-number b (b + heads fs') c i.0 (group-number b a (omega arith) c fewer h)) (names-number b c n h) (copies-number b a (omega arith) c m h')
        (groups-number (b + heads fs' + bodies fs') rest i.1 (λ j y. base j (new-copy-base (named constructors) a qs y)) (wider (omega arith) (group-push b a c fewer h)) (wider (omega arith) (group-number b a (omega arith) c m h')))

    arms-number : {g : Given} (b : ℕ) {r : Copied Name} {q : Copied ℕ} {s : ℕ → Typ} {u : Typ} {arms : Arms poly} {arms' : Arms Named} → CopyArms (named constructors) r s u arms arms' → ArmsKnown types index u arms' → Numbered g b r q → CopyArms (simple types) q s (index u) arms (number_arms types index g b arms')
    arms-number b copy_no_arms i h = copy_no_arms
    arms-number b (copy_arm {c' = c'} {e' = e'} c x arms) i h = case-number c i.0 h _ (λ q' k h' le. copy_arm k (exp-number (case_next b c') x i.1 h') (arms-number (case_next b c' + binders e') arms i.2 (wider (omega arith) h)))

    op-number : {g : Given} (b : ℕ) {r : Copied Name} {q : Copied ℕ} {s : ℕ → Typ} {o : Op poly} {o' : Op Named} → CopyOp (named constructors) r s o o' → OpKnown types index o' → Numbered g b r q → CopyOp (simple types) q s o (number_op types index g b o')
    op-number b (copy_use e y) i h = copy_use e (has-number y h)
    op-number b (copy_own a y) i h = copy_own a (has-number y h)
    op-number b (copy_const l) i h = copy_const l
    op-number b (copy_con_alone c t n e p) i h = copy_con_alone c t (index n) (type-number e i.0) i.1
    op-number b (copy_construct m c t n e p y) i h = copy_construct m c t (index n) (type-number e i.0) i.1 (has-number y h)
    op-number b (copy_ref_alone t n e) i h = copy_ref_alone t (index n) (type-number e i)
    op-number b (copy_refer m t n e y) i h = copy_refer m t (index n) (type-number e i) (has-number y h)
    op-number b (copy_content t n e y) i h = copy_content t (index n) (type-number e i) (has-number y h)
    op-number b (copy_pack m t n e y x) i h = copy_pack m t (index n) (type-number e i) (has-number y h) (has-number x h)
    op-number b (copy_make_record t n e row) i h = copy_make_record t (index n) (type-number e i) (row-number row h)
    op-number b (copy_select t n l e y) i h = copy_select t (index n) l (type-number e i) (has-number y h)
    op-number b (copy_prim_alone p t n e) i h = copy_prim_alone p t (index n) (type-number e i)
    op-number b (copy_prim m p t n e as_) i h = copy_prim m p t (index n) (type-number e i) (atoms-number as_ h)
    op-number b (copy_app place f x) i h = copy_app place (has-number f h) (has-number x h)
    op-number b (copy_fn f) i h = copy_fn (fun-number b f i h)
    op-number b (copy_block x) i h = copy_block (exp-number b x i h)
    op-number b (copy_handle x k {e' = e'} y n m d) i h =
        let c = b + binders e' in
        copy_handle x c (exp-number b y i.0 h) (name-number n h) (copy-number {n = c} (omega arith) h) (exp-number (suc c) d i.1 (one (omega arith) m h))
    op-number b (copy_raise y) i h = copy_raise (has-number y h)
    op-number b (copy_raise_initial n) i h = copy_raise_initial n

    fun-number : {g : Given} (b : ℕ) {r : Copied Name} {q : Copied ℕ} {s : ℕ → Typ} {f : Fun poly} {f' : Fun Named} → CopyFun (named constructors) r s f f' → FunKnown types index f' → Numbered g b r q → CopyFun (simple types) q s f (number_fun types index g b f')
    fun-number b (copy_last x t k n e u m y) i h = copy_last x t b (index n) (type-number e i.0) (name-number u h) (copy-number (omega arith) h) (exp-number (suc b) y i.1 (one (omega arith) m h))
    fun-number b (copy_more x t k n e u m f) i h = copy_more x t b (index n) (type-number e i.0) (name-number u h) (copy-number (omega arith) h) (fun-number (suc b) f i.1 (one (omega arith) m h))

    funs-number : {g : Given} (lo b : ℕ) {r : Copied Name} {q : Copied ℕ} {s : ℕ → Typ} {fs : Funs poly} {fs' : Funs Named} {qs : Pairs Name} → CopyFuns (named constructors) r s fs fs' qs → FunsKnown types index fs' → Numbered g b r q
        → CopyFuns (simple types) q s fs (number_funs types index g lo b fs') (number_pairs lo fs' qs)
    funs-number lo b copy_no_funs i h = copy_no_funs
    funs-number lo b (copy_fun x t k n {f' = f'} {fs' = fs'} e f fs) i h = copy_fun x t (lo + heads fs') (index n) (type-number e i.0) (fun-number b f i.1 h) (funs-number lo (b + fun_binders f') fs i.2 (wider (omega arith) h))

  pub numbered-copies : {s : ℕ → Typ} {e : Exp poly} {e' : Exp Named} → Copy (named constructors) no_copies s e e' → AllKnown types index e' → Copy (simple types) no_copies s e (number types index none_given 0 e')
  numbered-copies c i = exp-number 0 c i numbered_none
