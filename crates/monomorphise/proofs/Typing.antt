-- The program of copies is well typed where the program is.
use Rattle.std.proofs.Common.{◌≡◌, ℕ, Bool, false, List, [], ◌∷◌, Option, Some, None, nat_eq, refl, sym, ap, subst, ◌∙◌}
use Rattle.std.proofs.lemmas.Bool.{eq-eqb}
use Rattle.mlc_names.specs.declared.label.Label.{Label}
use Rattle.ty_core.specs.Types.{Typ, typs_of, no_variable}
use Rattle.ty_core.specs.Statics.{replace}
use Rattle.ty_core.specs.declared.scheme.Quantified.{Quantified}
use Rattle.ir_mono.specs.of_ir_plain.Tree.{Case, Exception, Atoms, Row, Exp, Arms, Op, Fun, Funs, no_funs, fun, is_value_op}
use Rattle.ir_mono.specs.of_ir_poly.Tests.{inst, poly}
use Rattle.ir_mono.specs.of_ir_poly.Types.{Constructor, changed, AreAllowed}
use Rattle.ir_mono.specs.of_ir_poly.TestsChecked.{Known, general, own, Knowns, at, exn_type, value_type, alone_type, group_knowns, bound, AtomChecked, atom_checked, AtomsChecked, no_atoms_checked, an_atom_checked, RowChecked, no_row_checked, a_row_checked, NameChecked, fixed_checked, held_checked, is_size, HasConstructor}
use Rattle.ir_mono.specs.of_ir_poly.TestsChecked as checked
use Rattle.ir_mono.specs.of_ir_poly.TestsTyped as tt
use Rattle.ir_mono.specs.of_ir_poly.TestsTyped.{option_read, own_at}
use Rattle.ir_mono.specs.Types as table
use Rattle.ir_mono.specs.Types.{constructor_at, Is, IsExn, AllStand, stand_none, stand_more}
use Rattle.ir_mono.specs.Mono.{mono}
use Rattle.ir_mono.specs.Typing as mt
use Rattle.ir_mono.specs.Typing.{Sort, of_type, exception, Sorts, sort_of, group_sorts}
use Rattle.monomorphise.specs.Copies.{Pairs, Copied, no_copies, entry, entries, Has, at_head, deeper, IsNewName, newer_name, IsNewCopy, newer_copy, IsNotAmong, not_this, AreNewNames, no_names, a_new_name, AreNewCopies, none_copied, a_new_copy, CopyAtoms, copy_no_atoms, copy_an_atom, CopyRow, copy_no_row, copy_a_row, CopyName, copy_fixed, copy_held, CopyArgument, copy_no_argument, copy_argument, CopyCase, copy_is_literal, copy_is_con, copy_is_con_of, copy_is_exn, copy_is_exn_of, copy_is_record, Copy, copy_ret, copy_let, copy_exception, copy_name, copy_rec, copy_switch, copy_first, copy_miss, copy_counted, CopyArms, copy_no_arms, copy_arm, CopyOp, copy_use, copy_own, copy_const, copy_con_alone, copy_construct, copy_ref_alone, copy_refer, copy_content, copy_pack, copy_make_record, copy_select, copy_prim_alone, copy_prim, copy_app, copy_fn, copy_block, copy_handle, copy_raise, copy_raise_initial, CopyFun, copy_last, copy_more, CopyFuns, copy_no_funs, copy_fun, Rest, no_more_copies, one_more_copy, RestGroups, no_more_groups, one_more_group}
use Rattle.monomorphise.specs.Simple.{IsType, simple, SameArgument, no_argument, an_argument, IsTableOf}
use Rattle.monomorphise.proofs.Labels.{ascend-distinct}
use Rattle.monomorphise.proofs.Numbers.{arguments-at, unique, function-of, ref-of, exn-of, literal-of, labels_of, types_of, record-of, length-labels, part-of, tuple-of, prim-at}
use Rattle.monomorphise.proofs.Related.{skip, hit, new-copy-base, copies-reclosed}
use Rattle.monomorphise.proofs.Stripped.{strip-op-typed}

module _ (constructors : List Constructor) (types : List table.Row) (tab : IsTableOf constructors types) where
  abbrev Nat : Type 0
  Nat = ℕ

  -- what a copy at these types is
  data Instance : Known → List Typ → Sort → Type 0 where
    one_is : {t : Typ} {a : List Typ} {n : ℕ} → IsType types n t → Instance (checked.of_type t) a (of_type n)
    general_is : {qs : List Quantified} {s : ℕ → Typ} {b : Typ} {a : List Typ} {n : ℕ} → IsType types n (replace (changed qs a s) b) → Instance (general qs s b) a (of_type n)
    own_is : {t : Typ} {a : List Typ} {n : ℕ} → IsType types n t → Instance (own t) a (of_type n)
    exception_is : {o : Option Typ} {p : Option ℕ} {a : List Typ} → SameArgument types o p → Instance (checked.exception o) a (exception p)

  data Ties : Copied ℕ → Knowns → Sorts → Type 0 where
    ties_none : {G : Knowns} {H : Sorts} → Ties no_copies G H
    ties_one : {x : ℕ} {a : List Typ} {k : ℕ} {r : Copied ℕ} {σ : Known} {o : Sort} {G : Knowns} {H : Sorts} → at G x ≡ Some σ → sort_of H k ≡ Some o → Instance σ a o → Ties r G H → Ties (entry x a k r) G H

  record Tied (σ : Known) (a : List Typ) (k : ℕ) (H : Sorts) : Type 0 where
    pub sort : Sort
    pub there : sort_of H k ≡ Some sort
    pub instance : Instance σ a sort

  tied : {x : ℕ} {a : List Typ} {k : ℕ} {r : Copied ℕ} {σ : Known} {G : Knowns} {H : Sorts} → Has x a k r → Ties r G H → at G x ≡ Some σ → Tied σ a k H
  tied {a = a} {k = k} {H = H} at_head (ties_one {σ = τ} e f i h) d = let same : τ ≡ _ = cc in subst (λ z. Tied z a k H) same (record { sort = _; there = f; instance = i })
  tied (deeper y) (ties_one e f i h) d = tied y h d

  push-known : {x : ℕ} {σ : Known} {r : Copied ℕ} {G : Knowns} {H : Sorts} → IsNewName x r → Ties r G H → Ties r ((x, σ) ∷ G) H
  push-known h ties_none = ties_none
  push-known {x} (newer_name n h) (ties_one {x = y} e f i t) = ties_one (skip (nat_eq y x) _ _ n ∙ e) f i (push-known h t)

  push-sort : {k : ℕ} {o : Sort} {r : Copied ℕ} {G : Knowns} {H : Sorts} → IsNewCopy (simple types) k r → Ties r G H → Ties r G ((k, o) ∷ H)
  push-sort h ties_none = ties_none
  push-sort {k} (newer_copy n h) (ties_one {k = j} e f i t) = ties_one e (skip (nat_eq j k) _ _ n ∙ f) i (push-sort h t)

  first-known : (x : ℕ) (σ : Known) (G : Knowns) → at ((x, σ) ∷ G) x ≡ Some σ
  first-known x σ G = hit (nat_eq x x) _ _ (eq-eqb x x refl)

  first-sort : (k : ℕ) (o : Sort) (H : Sorts) → sort_of ((k, o) ∷ H) k ≡ Some o
  first-sort k o H = hit (nat_eq k k) _ _ (eq-eqb k k refl)

  -- a variable and its copy at these types
  joined : (x : ℕ) {σ : Known} {a : List Typ} {k : ℕ} {o : Sort} {r : Copied ℕ} {G : Knowns} {H : Sorts} → Instance σ a o → IsNewName x r → IsNewCopy (simple types) k r → Ties r G H → Ties (entry x a k r) ((x, σ) ∷ G) ((k, o) ∷ H)
  joined x {σ = σ} {k = k} {o = o} {G = G} {H = H} i n m h = ties_one (first-known x σ G) (first-sort k o H) i (push-known n (push-sort m h))

  -- one more copy of a variable that is there
  again : (x : ℕ) {σ : Known} {a : List Typ} {k : ℕ} {o : Sort} {r : Copied ℕ} {G : Knowns} {H : Sorts} → at G x ≡ Some σ → Instance σ a o → IsNewCopy (simple types) k r → Ties r G H → Ties (entry x a k r) G ((k, o) ∷ H)
  again x {k = k} {o = o} {H = H} e i m h = ties_one e (first-sort k o H) i (push-sort m h)

  new-base : {x : ℕ} {b : List Typ} {j k : ℕ} {r : Copied ℕ} → IsNewCopy (simple types) k (entry x b j r) → IsNewCopy (simple types) k r
  new-base (newer_copy n h) = h

  -- the functions of a group
  onto-knowns : {z : Copied ℕ} {s : ℕ → Typ} {fs : Funs poly} {fs' : Funs (mono types)} {qs : Pairs ℕ} {r : Copied ℕ} {G : Knowns} {H : Sorts} (f : Typ → Known) → CopyFuns (simple types) z s fs fs' qs → AreNewNames r qs → Ties r G H → Ties r (group_knowns f fs G) H
  onto-knowns f copy_no_funs no_names h = h
  onto-knowns f (copy_fun x t k m i g gs) (a_new_name e n l) h = push-known n (onto-knowns f gs l h)

  onto-sorts : {z : Copied ℕ} {s : ℕ → Typ} {fs : Funs poly} {fs' : Funs (mono types)} {qs : Pairs ℕ} {r r' : Copied ℕ} {G : Knowns} {H : Sorts} (a : List Typ) → ((k : ℕ) → IsNewCopy (simple types) k r' → IsNewCopy (simple types) k r) → CopyFuns (simple types) z s fs fs' qs → AreNewCopies (simple types) r' a qs → Ties r G H
      → Ties r G (group_sorts types fs' H)
  onto-sorts a base copy_no_funs none_copied h = h
  onto-sorts a base (copy_fun x t k m i g gs) (a_new_copy {qs = qs} n l) h = push-sort (base k (new-copy-base (simple types) a qs n)) (onto-sorts a base gs l h)

  data Said (f : Typ → Known) (G : Knowns) : Funs poly → Type 0 where
    said_none : Said f G no_funs
    said_one : {x : ℕ} {t : Typ} {g : Fun poly} {fs : Funs poly} → at G x ≡ Some (f t) → Said f G fs → Said f G (fun x t g fs)

  said-push : {z : Copied ℕ} {s : ℕ → Typ} {fs : Funs poly} {fs' : Funs (mono types)} {qs : Pairs ℕ} {x : ℕ} {σ : Known} {f : Typ → Known} {G : Knowns} → IsNotAmong x qs → CopyFuns (simple types) z s fs fs' qs → Said f G fs → Said f ((x, σ) ∷ G) fs
  said-push h copy_no_funs said_none = said_none
  said-push {x = x} (not_this n h) (copy_fun y t k m i g gs) (said_one e l) = said_one (skip (nat_eq y x) _ _ n ∙ e) (said-push h gs l)

  said-onto : {z : Copied ℕ} {s : ℕ → Typ} {fs : Funs poly} {fs' : Funs (mono types)} {qs : Pairs ℕ} {r : Copied ℕ} (f : Typ → Known) (G : Knowns) → CopyFuns (simple types) z s fs fs' qs → AreNewNames r qs → Said f (group_knowns f fs G) fs
  said-onto f G copy_no_funs no_names = said_none
  said-onto f G (copy_fun x t k m {fs = fs} i g gs) (a_new_name e n l) = said_one (first-known x (f t) (group_knowns f fs G)) (said-push e gs (said-onto f G gs l))

  new-sorts : {z : Copied ℕ} {s : ℕ → Typ} {fs : Funs poly} {fs' : Funs (mono types)} {qs : Pairs ℕ} {f : Typ → Known} {r : Copied ℕ} {G : Knowns} {H : Sorts} (a : List Typ) → ((b : Typ) (n : ℕ) → IsType types n (replace s b) → Instance (f b) a (of_type n)) → CopyFuns (simple types) z s fs fs' qs → Said f G fs
      → AreNewCopies (simple types) r a qs → Ties r G H → Ties (entries a qs r) G (group_sorts types fs' H)
  new-sorts a i copy_no_funs said_none none_copied h = h
  new-sorts {H = H} a i (copy_fun x t k m {fs' = fs'} j g gs) (said_one e l) (a_new_copy n c) h = ties_one e (first-sort k (of_type m) (group_sorts types fs' H)) (i t m j) (push-sort n (new-sorts a i gs l c h))

  binds-tie : {z : Copied ℕ} {s : ℕ → Typ} {fs : Funs poly} {fs' : Funs (mono types)} {qs : Pairs ℕ} {r : Copied ℕ} {G : Knowns} {H : Sorts} (f : Typ → Known) (a : List Typ) → ((b : Typ) (n : ℕ) → IsType types n (replace s b) → Instance (f b) a (of_type n)) → CopyFuns (simple types) z s fs fs' qs → AreNewNames r qs
      → AreNewCopies (simple types) r a qs → Ties r G H → Ties (entries a qs r) (group_knowns f fs G) (group_sorts types fs' H)
  binds-tie {G = G} f a i c n m h = new-sorts a i c (said-onto f G c n) m (onto-knowns f c n h)

  -- at its own parameters' types
  bound-is : (qs : List Quantified) (s : ℕ → Typ) (a : List Typ) (b : Typ) (n : ℕ) → AreAllowed no_variable qs a → IsType types n (replace (changed qs a s) b) → Instance (bound qs s b) a (of_type n)
  bound-is [] s a b n f i = one_is i
  bound-is (q ∷ qs) s a b n f i = general_is i

  the : {n m : ℕ} {t : Typ} → IsType types n t → IsType types m t → n ≡ m
  the i j = unique types tab.sound.once i j

  -- variables
  sort-one : {t : Typ} {a : List Typ} {o : Sort} {n : ℕ} → Instance (checked.of_type t) a o → IsType types n t → o ≡ of_type n
  sort-one (one_is i) j = ap of_type (the i j)

  sort-own : {t : Typ} {a : List Typ} {o : Sort} {n : ℕ} → Instance (own t) a o → IsType types n t → o ≡ of_type n
  sort-own (own_is i) j = ap of_type (the i j)

  sort-general : {qs : List Quantified} {s : ℕ → Typ} {b : Typ} {a : List Typ} {o : Sort} {n : ℕ} → Instance (general qs s b) a o → IsType types n (replace (changed qs a s) b) → o ≡ of_type n
  sort-general (general_is i) j = ap of_type (the i j)

  no-types : (qs : List Quantified) (a : List Typ) (s : ℕ → Typ) (b : Typ) → AreAllowed no_variable qs [] → replace (changed qs [] s) b ≡ replace (changed qs a s) b
  no-types [] a s b f = refl
  no-types (q ∷ qs) a s b f = absurd f

  one-at : {x n : ℕ} {a : List Typ} {k : ℕ} {r : Copied ℕ} {G : Knowns} {H : Sorts} {t : Typ} → Has x a k r → Ties r G H → at G x ≡ Some (checked.of_type t) → IsType types n t → sort_of H k ≡ Some (of_type n)
  one-at y h e i = let z = tied y h e in z.there ∙ ap Some (sort-one z.instance i)

  atom-at : {x n : ℕ} {k : ℕ} {r : Copied ℕ} {G : Knowns} {H : Sorts} {t : Typ} → Has x [] k r → Ties r G H → AtomChecked G (inst x []) t → IsType types n t → sort_of H k ≡ Some (of_type n)
  atom-at y h (atom_checked e) i = one-at y h e i

  record Atom (k : ℕ) (H : Sorts) (t : Typ) : Type 0 where
    pub number : ℕ
    pub is : IsType types number t
    pub there : sort_of H k ≡ Some (of_type number)

  atom-of : {x : ℕ} {k : ℕ} {r : Copied ℕ} {G : Knowns} {H : Sorts} {t : Typ} → Has x [] k r → Ties r G H → AtomChecked G (inst x []) t → Atom k H t
  atom-of {k = k} {H = H} {t = t} y h (atom_checked e) = go (tied y h e)
    where
      from : {o : Sort} → sort_of H k ≡ Some o → Instance (checked.of_type t) [] o → Atom k H t
      from e (one_is i) = record { number = _; is = i; there = e }

      go : Tied (checked.of_type t) [] k H → Atom k H t
      go z = from z.there z.instance

  record ExceptionAt (k : ℕ) (H : Sorts) (o : Option Typ) : Type 0 where
    pub argument : Option ℕ
    pub same : SameArgument types o argument
    pub there : sort_of H k ≡ Some (exception argument)

  exception-of : {x : ℕ} {a : List Typ} {k : ℕ} {r : Copied ℕ} {G : Knowns} {H : Sorts} {o : Option Typ} → Has x a k r → Ties r G H → at G x ≡ Some (checked.exception o) → ExceptionAt k H o
  exception-of {a = a} {k = k} {H = H} {o = o} y h e = go (tied y h e)
    where
      from : {z : Sort} → sort_of H k ≡ Some z → Instance (checked.exception o) a z → ExceptionAt k H o
      from e (exception_is s) = record { argument = _; same = s; there = e }

      go : Tied (checked.exception o) a k H → ExceptionAt k H o
      go z = from z.there z.instance

  with-argument : {k n : ℕ} {H : Sorts} {t : Typ} → ExceptionAt k H (Some t) → IsType types n t → sort_of H k ≡ Some (exception (Some n))
  with-argument {k} {n} {H} {t} z i = go z.same z.there
    where
      go : {p : Option ℕ} → SameArgument types (Some t) p → sort_of H k ≡ Some (exception p) → sort_of H k ≡ Some (exception (Some n))
      go (an_argument j) e = e ∙ ap (λ m. Some (exception (Some m))) (the j i)

  without-argument : {k : ℕ} {H : Sorts} → ExceptionAt k H None → sort_of H k ≡ Some (exception None)
  without-argument {k} {H} z = go z.same z.there
    where
      go : {p : Option ℕ} → SameArgument types None p → sort_of H k ≡ Some (exception p) → sort_of H k ≡ Some (exception None)
      go no_argument e = e

  -- an exception as a value
  value-at : {n : ℕ} (o : Option Typ) {p : Option ℕ} → SameArgument types o p → IsType types n (value_type o) → mt.ExceptionAt types p n
  value-at None no_argument i = mt.packet_at (exn-of types tab.sound.once i)
  value-at {n} (Some t) (an_argument j) i = let f = function-of types tab.sound.once i in mt.to_packets_at (subst (λ z. table.IsFunction types n z f.result) (the f.argument_is j) f.is) (exn-of types tab.sound.once f.result_is)

  -- a constructor alone
  alone-at : {n u : ℕ} (o : Option Typ) {p : Option ℕ} {d : Typ} → SameArgument types o p → IsType types u d → IsType types n (alone_type o d) → mt.AloneAt types p u n
  alone-at {n} {u} None no_argument i j = subst (λ z. mt.AloneAt types None u z) (the i j) mt.value_at
  alone-at {n} {u} (Some t) (an_argument {n = m} k) i j =
      let f = function-of types tab.sound.once j in
      mt.function_at (subst (λ z. table.IsFunction types n z u) (the f.argument_is k) (subst (λ z. table.IsFunction types n f.argument z) (the f.result_is i) f.is))

  argument-is : (u c : ℕ) {n : ℕ} {p : Option ℕ} {t : Typ} → constructor_at types u c ≡ Some p → SameArgument types (Some t) p → IsType types n t → constructor_at types u c ≡ Some (Some n)
  argument-is u c e (an_argument j) i = e ∙ ap (λ m. Some (Some m)) (the j i)

  none-is : (u c : ℕ) {p : Option ℕ} → constructor_at types u c ≡ Some p → SameArgument types None p → constructor_at types u c ≡ Some None
  none-is u c e no_argument = e

  module _ where
    atoms-at : {r : Copied ℕ} {G : Knowns} {H : Sorts} {as_ : Atoms poly} {as' : Atoms (mono types)} {ts : List Typ} → CopyAtoms (simple types) r as_ as' → AtomsChecked G as_ ts → Ties r G H → (ns : List ℕ) × mt.AtomsTyped types H as' ns × AllStand types (λ v. table.unit_number) ns (typs_of ts)
    atoms-at copy_no_atoms no_atoms_checked h = ([], mt.no_atoms_typed, stand_none)
    atoms-at (copy_an_atom y ys) (an_atom_checked a as_) h = let z = atom-of y h a in let zs = atoms-at ys as_ h in (z.number ∷ zs.0, mt.an_atom_typed z.there zs.1, stand_more z.is zs.2)

    row-at : {r : Copied ℕ} {G : Knowns} {H : Sorts} {row : Row poly} {row' : Row (mono types)} {q : List (Label × Typ)} {ns : List ℕ} → CopyRow (simple types) r row row' → RowChecked G row q → Ties r G H → AllStand types (λ v. table.unit_number) ns (types_of types tab.sound.once q)
        → mt.RowTyped types H row' (labels_of types tab.sound.once q) ns
    row-at copy_no_row no_row_checked h stand_none = mt.no_row_typed
    row-at (copy_a_row l y row) (a_row_checked a w) h (stand_more i is) = mt.a_row_typed (atom-at y h a i) (row-at row w h is)

  name-at : {r : Copied ℕ} {G : Knowns} {H : Sorts} {y : Exception poly} {j : Exception (mono types)} {o : Option Typ} → CopyName (simple types) r y j → NameChecked G y o → Ties r G H → (p : Option ℕ) × mt.NameTyped types H j p × SameArgument types o p
  name-at (copy_fixed n) (fixed_checked e) h = (None, mt.fixed_typed e, no_argument)
  name-at (copy_held y) (held_checked e) h = let z = exception-of y h e in (z.argument, mt.held_typed z.there, z.same)

  argument-at : {s : ℕ → Typ} {t : Option Typ} {n : Option ℕ} → CopyArgument (simple types) s t n → SameArgument types (option_read s t) n
  argument-at copy_no_argument = no_argument
  argument-at (copy_argument t n i) = an_argument i

  case-copied : {r r' : Copied ℕ} {s : ℕ → Typ} {u : ℕ} {c : Case poly} {c' : Case (mono types)} {b : Typ} {G G' : Knowns} {H : Sorts} → CopyCase (simple types) r s u c c' r' → tt.CaseTyped constructors s G c b G' → IsType types u b → Ties r G H → (goal : Type 0)
      → ((H' : Sorts) → mt.CaseTyped types H c' u H' → Ties r' G' H' → goal) → goal
  case-copied {H = H} (copy_is_literal l) (tt.literal_typed h) i t goal go = go H (mt.literal_typed (literal-of types tab.sound.once h i)) t
  case-copied {u = u} {b = b} {H = H} (copy_is_con c k) (tt.con_typed h) i t goal go = go H (mt.con_typed (none-is u c k.1 (arguments-at constructors types tab u c b None k.0 i h k.1))) t
  case-copied {s = s} {u = u} {b = b} {H = H} (copy_is_con_of c x a k n p j m o) (tt.con_of_typed h) i t goal go =
      go ((k, of_type n) ∷ H) (mt.con_of_typed (argument-is u c p.1 (arguments-at constructors types tab u c b (Some (replace s a)) p.0 i h p.1) j)) (joined x (one_is j) m o t)
  case-copied {H = H} (copy_is_exn y) (tt.exn_typed e) i t goal go = go H (mt.exn_typed (without-argument (exception-of y t e)) (exn-of types tab.sound.once i)) t
  case-copied {H = H} (copy_is_exn_of x a k n y j m o) (tt.exn_of_typed e) i t goal go =
      go ((k, of_type n) ∷ H) (mt.exn_of_typed (with-argument (exception-of y t e) j) (exn-of types tab.sound.once i)) (joined x (one_is j) m o t)
  case-copied {u = u} {H = H} (copy_is_record size) (tt.record_typed r e n) i t goal go =
      let q = record-of types tab.sound.once {r = r} (subst (IsType types u) e i) in
      go H (mt.record_typed q.is (ap (is_size size) (length-labels types tab.sound.once r) ∙ n)) t

  mutual
    exp-copied : {r : Copied ℕ} {s : ℕ → Typ} {e : Exp poly} {e' : Exp (mono types)} {m : Bool} {t : Typ} {n : ℕ} {G : Knowns} {H : Sorts} → Copy (simple types) r s e e' → tt.Typed constructors m s G e t → Ties r G H → IsType types n t → mt.Typed types m H e' n
    exp-copied (copy_ret y) (tt.t_ret w) h i = mt.t_ret (atom-at y h w i)
    exp-copied {s = s} (copy_let {x = x} {ps = ps} {t = b} {n = k} a f j o n m rest) (tt.t_let v c l) h i =
        mt.t_let (op-copied o (c a f) h j) (rest-copied rest c l (λ z q. new-base q) (push-sort m h) (first-known x _ _) (joined x (bound-is ps s a b k f j) n m h) i)
    exp-copied (copy_exception x id k a n m l) (tt.t_exception w) h i = mt.t_exception (exp-copied l w (joined x (exception_is (argument-at a)) n m h) i)
    exp-copied (copy_name x k y n m l) (tt.t_name e w) h i = let z = name-at y e h in mt.t_name z.1 (exp-copied l w (joined x (exception_is z.2) n m h) i)
    exp-copied {s = s} (copy_rec {ps = ps} {qs = qs} a f c n m rest) (tt.t_rec k l) h i =
        mt.t_rec (funs-copied c (k a f) (binds-tie (own_at (changed ps a s)) a (λ b p j. own_is j) c n m h))
        (groups-copied rest k l (λ z q. new-copy-base (simple types) a qs q) (onto-sorts a (λ z q. q) c m h) (said-onto (bound ps s) _ c n) (binds-tie (bound ps s) a (λ b p j. bound-is ps s a b p f j) c n m h) i)
    exp-copied (copy_switch t k y j arms) (tt.t_switch w e ws) h i = let p = subst (IsType types k) e j in mt.t_switch (atom-at y h w p) (arms-copied arms ws p h i)
    exp-copied (copy_first x y) (tt.t_first w z) h i = mt.t_first (exp-copied x w h i) (exp-copied y z h i)
    exp-copied copy_miss tt.t_miss h i = mt.t_miss
    exp-copied (copy_counted n x) (tt.t_counted w) h i = mt.t_counted (exp-copied x w h i)

    rest-copied : {r r' : Copied ℕ} {s : ℕ → Typ} {x : ℕ} {ps : List Quantified} {b : Typ} {o : Op poly} {e : Exp poly} {e' : Exp (mono types)} {m : Bool} {t : Typ} {n : ℕ} {G : Knowns} {H : Sorts} → Rest (simple types) r s x ps b o e r' e'
        → ((ts : List Typ) → AreAllowed no_variable ps ts → tt.OpTyped constructors (changed ps ts s) G o (replace (changed ps ts s) b)) → tt.Typed constructors m s ((x, bound ps s b) ∷ G) e t
        → ((k : ℕ) → IsNewCopy (simple types) k r' → IsNewCopy (simple types) k r) → Ties r G H → at ((x, bound ps s b) ∷ G) x ≡ Some (bound ps s b) → Ties r' ((x, bound ps s b) ∷ G) H → IsType types n t → mt.Typed types m H e' n
    rest-copied (no_more_copies l) c w base h d z i = exp-copied l w z i
    rest-copied {s = s} {x = x} {ps = ps} {b = b} (one_more_copy {n = k} a f v j o m rest) c w base h d z i =
        mt.t_let (op-copied o (strip-op-typed constructors (c a f)) h j) (rest-copied rest c w (λ y q. base y (new-base q)) (push-sort (base _ m) h) d (again x d (bound-is ps s a b k f j) m z) i)

    groups-copied : {r r' : Copied ℕ} {s : ℕ → Typ} {ps : List Quantified} {fs : Funs poly} {e : Exp poly} {e' : Exp (mono types)} {m : Bool} {t : Typ} {n : ℕ} {G : Knowns} {H : Sorts} → RestGroups (simple types) r s ps fs e r' e'
        → ((ts : List Typ) → AreAllowed no_variable ps ts → tt.FunsTyped constructors (changed ps ts s) (group_knowns (own_at (changed ps ts s)) fs G) fs) → tt.Typed constructors m s (group_knowns (bound ps s) fs G) e t
        → ((k : ℕ) → IsNewCopy (simple types) k r' → IsNewCopy (simple types) k r) → Ties r G H → Said (bound ps s) (group_knowns (bound ps s) fs G) fs → Ties r' (group_knowns (bound ps s) fs G) H → IsType types n t → mt.Typed types m H e' n
    groups-copied (no_more_groups l) c w base h d z i = exp-copied l w z i
    groups-copied {s = s} {ps = ps} (one_more_group {qs = qs} a f g n m rest) c w base h d z i =
        mt.t_rec (funs-copied g (c a f) (binds-tie (own_at (changed ps a s)) a (λ b p j. own_is j) g n (copies-reclosed (simple types) a a base m) h))
        (groups-copied rest c w (λ y q. base y (new-copy-base (simple types) a qs q)) (onto-sorts a base g m h) d (new-sorts a (λ b p j. bound-is ps s a b p f j) g d m z) i)

    funs-copied : {r : Copied ℕ} {s : ℕ → Typ} {fs : Funs poly} {fs' : Funs (mono types)} {qs : Pairs ℕ} {G : Knowns} {H : Sorts} → CopyFuns (simple types) r s fs fs' qs → tt.FunsTyped constructors s G fs → Ties r G H → mt.FunsTyped types H fs'
    funs-copied copy_no_funs tt.t_no_funs h = mt.t_no_funs
    funs-copied (copy_fun x t k n i f fs) (tt.t_fun w ws) h = mt.t_fun (fun-copied f w h i) (funs-copied fs ws h)

    arms-copied : {r : Copied ℕ} {s : ℕ → Typ} {u : ℕ} {arms : Arms poly} {arms' : Arms (mono types)} {b t : Typ} {n : ℕ} {G : Knowns} {H : Sorts} → CopyArms (simple types) r s u arms arms' → tt.ArmsTyped constructors s G arms b t → IsType types u b → Ties r G H → IsType types n t → mt.ArmsTyped types H arms' u n
    arms-copied copy_no_arms tt.t_no_arms p h i = mt.t_no_arms
    arms-copied (copy_arm c l arms) (tt.t_arm k w ws) p h i = case-copied c k p h _ (λ H' z h'. mt.t_arm z (exp-copied l w h' i) (arms-copied arms ws p h i))

    op-copied : {r : Copied ℕ} {s : ℕ → Typ} {o : Op poly} {o' : Op (mono types)} {t : Typ} {n : ℕ} {G : Knowns} {H : Sorts} → CopyOp (simple types) r s o o' → tt.OpTyped constructors s G o t → Ties r G H → IsType types n t → mt.OpTyped types H o' n
    op-copied {n = n} (copy_use e y) (tt.t_use {s' = s'} {qs = qs} {b = b} d f q) h i =
        let z = tied y h d in mt.t_use (z.there ∙ ap Some (sort-general z.instance (subst (λ a. IsType types n (replace (changed qs a s') b)) (sym e) (subst (IsType types n) q i))))
    op-copied (copy_use e y) (tt.t_use_one d) h i = mt.t_use (one-at y h d i)
    op-copied (copy_use e y) (tt.t_use_own d) h i = let z = tied y h d in mt.t_use (z.there ∙ ap Some (sort-own z.instance i))
    op-copied {n = n} (copy_use e y) (tt.t_use_exception {a = o} d q) h i = let z = exception-of y h d in mt.t_use_exception z.there (value-at o z.same (subst (IsType types n) q i))
    op-copied {n = n} (copy_own a y) (tt.t_use {s' = s'} {qs = qs} {b = b} d f q) h i =
        let z = tied y h d in mt.t_use (z.there ∙ ap Some (sort-general z.instance (subst (IsType types n) (q ∙ no-types qs a s' b f) i)))
    op-copied (copy_own a y) (tt.t_use_one d) h i = mt.t_use (one-at y h d i)
    op-copied (copy_own a y) (tt.t_use_own d) h i = let z = tied y h d in mt.t_use (z.there ∙ ap Some (sort-own z.instance i))
    op-copied {n = n} (copy_own a y) (tt.t_use_exception {a = o} d q) h i = let z = exception-of y h d in mt.t_use_exception z.there (value-at o z.same (subst (IsType types n) q i))
    op-copied (copy_const l) (tt.t_const k) h i = mt.t_const (literal-of types tab.sound.once k i)
    op-copied {s = s} {n = n} (copy_con_alone c b k j p) (tt.t_con_alone {a = o} g q) h i = mt.t_con_alone p.1 (alone-at o (arguments-at constructors types tab k c (replace s b) o p.0 j g p.1) j (subst (IsType types n) q i))
    op-copied {H = H} (copy_construct m c b k {k = y'} j p y) (tt.t_construct {t = t} {a = a} g w q) h i =
        let same = the (subst (IsType types k) q j) i in
        let z = atom-of y h w in
        subst (λ v. mt.OpTyped types H (Rattle.ir_mono.specs.of_ir_plain.Tree.construct m c k y') v) same (mt.t_construct (argument-is k c p.1 (arguments-at constructors types tab k c t (Some a) p.0 (subst (IsType types k) q j) g p.1) z.is) z.there)
    op-copied {n = n} (copy_ref_alone b k j) (tt.t_ref_alone q) h i =
        let f = function-of types tab.sound.once (subst (IsType types n) q i) in
        mt.t_ref_alone (subst (λ z. table.IsFunction types n z f.result) (the f.argument_is j) f.is) (ref-of types tab.sound.once f.result_is j)
    op-copied {n = n} (copy_refer m b k j y) (tt.t_refer w q) h i = mt.t_refer (atom-at y h w j) (ref-of types tab.sound.once (subst (IsType types n) q i) j)
    op-copied {H = H} (copy_content b k {k = y'} j y) (tt.t_content w q e) h i =
        let z = atom-of y h w in
        let same = the (subst (IsType types k) e j) i in
        subst (λ v. mt.OpTyped types H (Rattle.ir_mono.specs.of_ir_plain.Tree.content k y') v) same (mt.t_content z.there (ref-of types tab.sound.once (subst (IsType types z.number) q z.is) (subst (IsType types k) e j)))
    op-copied {n = n} (copy_pack m b k j y x) (tt.t_pack e w q) h i = mt.t_pack (with-argument (exception-of y h e) j) (atom-at x h w j) (exn-of types tab.sound.once (subst (IsType types n) q i))
    op-copied {H = H} (copy_make_record b k {row' = row'} j row) (tt.t_make_record {r = q} ws e o d) h i =
        let z = record-of types tab.sound.once {r = q} (subst (IsType types k) (d ∙ e) j) in
        let same = the (subst (IsType types k) d j) i in
        subst (λ v. mt.OpTyped types H (Rattle.ir_mono.specs.of_ir_plain.Tree.make_record k row') v) same (mt.t_make_record (row-at row ws h z.parts_are) z.is (ascend-distinct o))
    op-copied (copy_select b k l j y) (tt.t_select q w e d c) h i =
        let p = subst (IsType types k) c j in
        let z = record-of types tab.sound.once {r = q} (subst (IsType types k) e p) in
        mt.t_select (atom-at y h w p) z.is (part-of types tab.sound.once l q z.parts_are d i)
    op-copied {s = s} {n = n} (copy_prim_alone p b k j) (tt.t_prim_alone f q) h i =
        let z = function-of types tab.sound.once (subst (IsType types n) q i) in
        let t = tuple-of types tab.sound.once (Rattle.ir_mono.specs.of_ir_poly.Types.arguments_at p (replace s b)) z.argument_is in
        mt.t_prim_alone (prim-at constructors types tab p j f t.parts_are z.result_is) t.is z.is
    op-copied {n = n} (copy_prim m p b k j as_) (tt.t_prim f ws e q) h i =
        let z = atoms-at as_ ws h in
        mt.t_prim (prim-at constructors types tab p j f (subst (λ ts. AllStand types (λ v. table.unit_number) z.0 (typs_of ts)) e z.2) (subst (IsType types n) q i)) z.1
    op-copied (copy_app place f y) (tt.t_app w z e) h i =
        let g = atom-of f h w in
        let q = function-of types tab.sound.once (subst (IsType types g.number) e g.is) in
        mt.t_app g.there (subst (λ v. table.IsFunction types g.number q.argument v) (the q.result_is i) q.is) (atom-at y h z q.argument_is)
    op-copied (copy_fn f) (tt.t_fn k) h i = mt.t_fn (fun-copied f k h i)
    op-copied (copy_block l) (tt.t_block w) h i = mt.t_block (exp-copied l w h i)
    op-copied {n = n} (copy_handle x k l o m d) (tt.t_handle w z) h i =
        let e = tab.exceptions in
        mt.t_handle (exp-copied l w h i) e.1 (exp-copied d z (joined x (one_is (table.stands_con e.1 stand_none)) o m h) i)
    op-copied (copy_raise y) (tt.t_raise w e) h i = let z = atom-of y h w in mt.t_raise z.there (exn-of types tab.sound.once (subst (IsType types z.number) e z.is))
    op-copied (copy_raise_initial k) (tt.t_raise_initial e) h i = mt.t_raise_initial e

    fun-copied : {r : Copied ℕ} {s : ℕ → Typ} {f : Fun poly} {f' : Fun (mono types)} {t : Typ} {n : ℕ} {G : Knowns} {H : Sorts} → CopyFun (simple types) r s f f' → tt.FunTyped constructors s G f t → Ties r G H → IsType types n t → mt.FunTyped types H f' n
    fun-copied {n = n} (copy_last x a k p j o m l) (tt.t_last w e) h i =
        let q = function-of types tab.sound.once (subst (IsType types n) e i) in
        mt.t_last (subst (λ z. table.IsFunction types n z q.result) (the q.argument_is j) q.is) (exp-copied l w (joined x (one_is j) o m h) q.result_is)
    fun-copied {n = n} (copy_more x a k p j o m f) (tt.t_more w e) h i =
        let q = function-of types tab.sound.once (subst (IsType types n) e i) in
        mt.t_more (subst (λ z. table.IsFunction types n z q.result) (the q.argument_is j) q.is) (fun-copied f w (joined x (one_is j) o m h) q.result_is)

  mutual
    -- a program that doesn't miss ends in a variable, whose type has a number
    exp-number : {r : Copied ℕ} {s : ℕ → Typ} {e : Exp poly} {e' : Exp (mono types)} {t : Typ} {G : Knowns} {H : Sorts} → Copy (simple types) r s e e' → tt.Typed constructors false s G e t → Ties r G H → (n : ℕ) × IsType types n t
    exp-number (copy_ret y) (tt.t_ret w) h = let z = atom-of y h w in (z.number, z.is)
    exp-number {s = s} (copy_let {x = x} {ps = ps} {t = b} {n = k} a f j o n m rest) (tt.t_let v c l) h = rest-number rest l (first-known x _ _) (joined x (bound-is ps s a b k f j) n m h)
    exp-number (copy_exception x id k a n m l) (tt.t_exception w) h = exp-number l w (joined x (exception_is (argument-at a)) n m h)
    exp-number (copy_name x k y n m l) (tt.t_name e w) h = let z = name-at y e h in exp-number l w (joined x (exception_is z.2) n m h)
    exp-number {s = s} (copy_rec {ps = ps} {qs = qs} a f c n m rest) (tt.t_rec {G = G} k l) h = groups-number G rest l (said-onto (bound ps s) _ c n) (binds-tie (bound ps s) a (λ b p j. bound-is ps s a b p f j) c n m h)
    exp-number (copy_first x y) (tt.t_first w z) h = exp-number y z h
    exp-number (copy_counted n x) (tt.t_counted w) h = exp-number x w h
    exp-number (copy_switch t n y i arms) w h = elim w [ ]
    exp-number copy_miss w h = elim w [ ]

    rest-number : {r r' : Copied ℕ} {s : ℕ → Typ} {x : ℕ} {ps : List Quantified} {b : Typ} {o : Op poly} {e : Exp poly} {e' : Exp (mono types)} {t : Typ} {G : Knowns} {H : Sorts} → Rest (simple types) r s x ps b o e r' e' → tt.Typed constructors false s ((x, bound ps s b) ∷ G) e t
        → at ((x, bound ps s b) ∷ G) x ≡ Some (bound ps s b) → Ties r' ((x, bound ps s b) ∷ G) H → (n : ℕ) × IsType types n t
    rest-number (no_more_copies l) w d z = exp-number l w z
    rest-number {s = s} {x = x} {ps = ps} {b = b} (one_more_copy {n = k} a f v j o m rest) w d z = rest-number rest w d (again x d (bound-is ps s a b k f j) m z)

    groups-number : {r r' : Copied ℕ} {s : ℕ → Typ} {ps : List Quantified} {fs : Funs poly} {e : Exp poly} {e' : Exp (mono types)} {t : Typ} (G : Knowns) {H : Sorts} → RestGroups (simple types) r s ps fs e r' e' → tt.Typed constructors false s (group_knowns (bound ps s) fs G) e t
        → Said (bound ps s) (group_knowns (bound ps s) fs G) fs → Ties r' (group_knowns (bound ps s) fs G) H → (n : ℕ) × IsType types n t
    groups-number G (no_more_groups l) w d z = exp-number l w z
    groups-number {s = s} {ps = ps} G (one_more_group {qs = qs} a f g n m rest) w d z = groups-number G rest w d (new-sorts a (λ b p j. bound-is ps s a b p f j) g d m z)

  -- a program
  pub run-copied : {s : ℕ → Typ} {e : Exp poly} {e' : Exp (mono types)} {t : Typ} → Copy (simple types) no_copies s e e' → tt.Typed constructors false s [] e t → (n : ℕ) × mt.Typed types false [] e' n
  run-copied c w = let z = exp-number {H = []} c w ties_none in (z.0, exp-copied c w ties_none z.1)
