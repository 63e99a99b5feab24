-- Copies of a program whose atoms are local have local atoms.
use Rattle.std.proofs.Common.{◌≡◌, ℕ, List, [], ◌∷◌, true, false, nat_eq}
use Rattle.ty_core.specs.Types.{Typ}
use Rattle.ty_core.specs.declared.scheme.Quantified.{Quantified}
use Rattle.ir_mono.specs.of_ir_plain.Tree.{Case, Exception, Atoms, Row, Exp, Arms, Op, Fun, Funs}
use Rattle.ir_mono.specs.of_ir_plain.Scoped.{IsAmong, among_here, among_there, group_onto, AtomsScoped, no_atoms_scoped, an_atom_scoped, RowScoped, no_row_scoped, a_row_scoped, CaseScoped, literal_scoped, con_scoped, con_of_scoped, exn_scoped, exn_of_scoped, record_scoped, ReachesName, IsLocal, ret_scoped, let_scoped, exception_scoped, name_scoped, rec_scoped, switch_scoped, first_scoped, miss_scoped, counted_scoped, ArmsScoped, no_arms_scoped, arm_scoped, OpScoped, use_scoped, const_scoped, con_alone_scoped, construct_scoped, ref_alone_scoped, refer_scoped, content_scoped, pack_scoped, make_record_scoped, select_scoped, prim_alone_scoped, prim_scoped, app_scoped, fn_scoped, block_scoped, handle_scoped, raise_scoped, raise_initial_scoped, FunScoped, last_scoped, more_scoped, FunsScoped, no_funs_scoped, fun_scoped}
use Rattle.ir_mono.specs.of_ir_poly.Tests.{inst, poly}
use Rattle.monomorphise.specs.Copies.{Target, kind_of, Pairs, no_pairs, Copied, no_copies, entry, entries, Has, at_head, deeper, IsNewName, new_name, newer_name, IsNotAmong, not_this, AreNewNames, no_names, a_new_name, CopyAtoms, copy_no_atoms, copy_an_atom, CopyRow, copy_no_row, copy_a_row, CopyName, copy_fixed, copy_held, CopyCase, copy_is_literal, copy_is_con, copy_is_con_of, copy_is_exn, copy_is_exn_of, copy_is_record, Copy, copy_ret, copy_let, copy_exception, copy_name, copy_rec, copy_switch, copy_first, copy_miss, copy_counted, CopyArms, copy_no_arms, copy_arm, CopyOp, copy_use, copy_own, copy_const, copy_con_alone, copy_construct, copy_ref_alone, copy_refer, copy_content, copy_pack, copy_make_record, copy_select, copy_prim_alone, copy_prim, copy_app, copy_fn, copy_block, copy_handle, copy_raise, copy_raise_initial, CopyFun, copy_last, copy_more, CopyFuns, copy_no_funs, copy_fun, Rest, no_more_copies, one_more_copy, RestGroups, no_more_groups, one_more_group}
use Rattle.monomorphise.proofs.Stripped.{strip-op-local}

module _ (T : Target) (reflexive : (k : T.Name) → T.same k k ≡ true) where
  -- the copy of a local variable is local
  abbrev Kept : Copied T.Name → List ℕ → List T.Name → Type 0
  Kept r xs ys = (x : ℕ) (k : T.Name) → Has x [] k r → IsAmong poly (inst x []) xs → IsAmong (kind_of T) k ys

  not-new : {x y : ℕ} {a : List Typ} {k : T.Name} {r : Copied T.Name} → IsNewName x r → Has y a k r → nat_eq y x ≡ true → ⊥
  not-new new_name z q = elim z [ ]
  not-new (newer_name e h) at_head q = absurd (cc)
  not-new (newer_name e h) (deeper y) q = not-new h y q

  -- a variable in front
  bound : {x : ℕ} {a : List Typ} {k : T.Name} {r : Copied T.Name} {xs : List ℕ} {ys : List T.Name} → IsNewName x r → Kept r xs ys → Kept (entry x a k r) (x ∷ xs) (k ∷ ys)
  bound {k = k} new h y j at_head l = among_here (reflexive k)
  bound new h y j (deeper z) (among_here e) = absurd (not-new new z e)
  bound new h y j (deeper z) (among_there l) = among_there (h y j z l)

  -- one more copy
  again : {x : ℕ} {a : List Typ} {k : T.Name} {r : Copied T.Name} {xs : List ℕ} {ys : List T.Name} → Kept r xs ys → Kept (entry x a k r) xs (k ∷ ys)
  again {k = k} h y j at_head l = among_here (reflexive k)
  again h y j (deeper z) l = among_there (h y j z l)

  -- and the copies around, in a bigger function
  wider : {k : T.Name} {r : Copied T.Name} {xs : List ℕ} {ys : List T.Name} → Kept r xs ys → Kept r xs (k ∷ ys)
  wider h y j z l = among_there (h y j z l)

  -- a new function
  outside : {r : Copied T.Name} → Kept r [] []
  outside y j z l = elim l [ ]

  not-among : {x y : ℕ} (a : List Typ) {b : List Typ} {k : T.Name} {qs : Pairs T.Name} {r : Copied T.Name} → IsNotAmong x qs → IsNewName x r → Has y b k (entries a qs r) → nat_eq y x ≡ true → ⊥
  not-among a {qs = no_pairs} h new z q = not-new new z q
  not-among a (not_this e h) new at_head q = absurd (cc)
  not-among a (not_this e h) new (deeper z) q = not-among a h new z q

  group-bound : {r z : Copied T.Name} {s : ℕ → Typ} {fs : Funs poly} {fs' : Funs (kind_of T)} {qs : Pairs T.Name} {xs : List ℕ} {ys : List T.Name} (a : List Typ) → CopyFuns T z s fs fs' qs → AreNewNames r qs → Kept r xs ys → Kept (entries a qs r) (group_onto poly fs xs) (group_onto (kind_of T) fs' ys)
  group-bound a copy_no_funs no_names h y j z l = h y j z l
  group-bound a (copy_fun x t k n i f fs) (a_new_name e u m) h y j at_head l = among_here (reflexive k)
  group-bound a (copy_fun x t k n i f fs) (a_new_name e u m) h y j (deeper z) (among_here q) = absurd (not-among a e u z q)
  group-bound a (copy_fun x t k n i f fs) (a_new_name e u m) h y j (deeper z) (among_there l) = among_there (group-bound a fs m h y j z l)

  group-again : {r z : Copied T.Name} {s : ℕ → Typ} {fs : Funs poly} {fs' : Funs (kind_of T)} {qs : Pairs T.Name} {xs : List ℕ} {ys : List T.Name} (a : List Typ) → CopyFuns T z s fs fs' qs → Kept r xs ys → Kept (entries a qs r) xs (group_onto (kind_of T) fs' ys)
  group-again a copy_no_funs h y j z l = h y j z l
  group-again a (copy_fun x t k n i f fs) h y j at_head l = among_here (reflexive k)
  group-again a (copy_fun x t k n i f fs) h y j (deeper z) l = among_there (group-again a fs h y j z l)

  atoms-local : {r : Copied T.Name} {as_ : Atoms poly} {as' : Atoms (kind_of T)} {xs : List ℕ} {ys : List T.Name} → CopyAtoms T r as_ as' → AtomsScoped poly xs as_ → Kept r xs ys → AtomsScoped (kind_of T) ys as'
  atoms-local copy_no_atoms no_atoms_scoped h = no_atoms_scoped
  atoms-local (copy_an_atom y as_) (an_atom_scoped a r) h = an_atom_scoped (h _ _ y a) (atoms-local as_ r h)

  row-local : {r : Copied T.Name} {row : Row poly} {row' : Row (kind_of T)} {xs : List ℕ} {ys : List T.Name} → CopyRow T r row row' → RowScoped poly xs row → Kept r xs ys → RowScoped (kind_of T) ys row'
  row-local copy_no_row no_row_scoped h = no_row_scoped
  row-local (copy_a_row l y row) (a_row_scoped a r) h = a_row_scoped (h _ _ y a) (row-local row r h)

  name-local : {r : Copied T.Name} {y : Exception poly} {j : Exception (kind_of T)} (ys : List T.Name) → CopyName T r y j → ReachesName (kind_of T) false j ys
  name-local ys (copy_fixed n) = tt
  name-local ys (copy_held y) = tt

  case-local : {r r' : Copied T.Name} {s : ℕ → Typ} {u : T.Type_of} {c : Case poly} {c' : Case (kind_of T)} {xs zs : List ℕ} {ys : List T.Name} → CopyCase T r s u c c' r' → CaseScoped poly xs c zs → Kept r xs ys → (goal : Type 0)
      → ((ys' : List T.Name) → CaseScoped (kind_of T) ys c' ys' → Kept r' zs ys' → goal) → goal
  case-local {ys = ys} (copy_is_literal l) literal_scoped h goal go = go ys literal_scoped h
  case-local {ys = ys} (copy_is_con c i) con_scoped h goal go = go ys con_scoped h
  case-local {ys = ys} (copy_is_con_of c x t k n i j m o) con_of_scoped h goal go = go (k ∷ ys) con_of_scoped (bound m h)
  case-local {ys = ys} (copy_is_exn y) (exn_scoped a) h goal go = go ys (exn_scoped (h _ _ y a)) h
  case-local {ys = ys} (copy_is_exn_of x t k n y i m o) (exn_of_scoped a) h goal go = go (k ∷ ys) (exn_of_scoped (h _ _ y a)) (bound m h)
  case-local {ys = ys} (copy_is_record size) record_scoped h goal go = go ys record_scoped h

  mutual
    exp-local : {r : Copied T.Name} {s : ℕ → Typ} {e : Exp poly} {e' : Exp (kind_of T)} {xs : List ℕ} {ys : List T.Name} → Copy T r s e e' → IsLocal poly xs e → Kept r xs ys → IsLocal (kind_of T) ys e'
    exp-local (copy_ret y) (ret_scoped a) h = ret_scoped (h _ _ y a)
    exp-local (copy_let a f i o n m rest) (let_scoped lo le) h = let_scoped (op-local o lo h) (rest-local rest lo le (wider h) (bound n h))
    exp-local (copy_exception x i k t n m e) (exception_scoped l) h = exception_scoped (exp-local e l (bound n h))
    exp-local {ys = ys} (copy_name x k y n m e) (name_scoped q l) h = name_scoped (name-local ys y) (exp-local e l (bound n h))
    exp-local {xs = xs} (copy_rec a f c n m rest) (rec_scoped fs l) h = rec_scoped (funs-local c fs) (groups-local xs rest fs l (group-bound a c n h))
    exp-local (copy_switch t n y i arms) (switch_scoped a ls) h = switch_scoped (h _ _ y a) (arms-local arms ls h)
    exp-local (copy_first x y) (first_scoped l d) h = first_scoped (exp-local x l h) (exp-local y d h)
    exp-local copy_miss miss_scoped h = miss_scoped
    exp-local (copy_counted n x) (counted_scoped l) h = counted_scoped (exp-local x l h)

    rest-local : {r r' : Copied T.Name} {s : ℕ → Typ} {x : ℕ} {ps : List Quantified} {t : Typ} {o : Op poly} {e : Exp poly} {e' : Exp (kind_of T)} {xs : List ℕ} {ys : List T.Name} → Rest T r s x ps t o e r' e' → OpScoped poly false xs o → IsLocal poly (x ∷ xs) e → Kept r xs ys → Kept r' (x ∷ xs) ys → IsLocal (kind_of T) ys e'
    rest-local (no_more_copies e) lo le h h' = exp-local e le h'
    rest-local (one_more_copy a f i ty o m rest) lo le h h' = let_scoped (op-local o (strip-op-local lo) h) (rest-local rest lo le (wider h) (again h'))

    groups-local : {r r' : Copied T.Name} {s : ℕ → Typ} {ps : List Quantified} {fs : Funs poly} {e : Exp poly} {e' : Exp (kind_of T)} (xs : List ℕ) {ys : List T.Name} → RestGroups T r s ps fs e r' e' → FunsScoped poly false [] fs → IsLocal poly (group_onto poly fs xs) e → Kept r' (group_onto poly fs xs) ys
        → IsLocal (kind_of T) ys e'
    groups-local xs (no_more_groups e) fs l h = exp-local e l h
    groups-local xs (one_more_group a f c n m rest) fs l h = rec_scoped (funs-local c fs) (groups-local xs rest fs l (group-again a c h))

    arms-local : {r : Copied T.Name} {s : ℕ → Typ} {u : T.Type_of} {arms : Arms poly} {arms' : Arms (kind_of T)} {xs : List ℕ} {ys : List T.Name} → CopyArms T r s u arms arms' → ArmsScoped poly false xs arms → Kept r xs ys → ArmsScoped (kind_of T) false ys arms'
    arms-local copy_no_arms no_arms_scoped h = no_arms_scoped
    arms-local (copy_arm c x arms) (arm_scoped k l ls) h = case-local c k h _ (λ ys' k' h'. arm_scoped k' (exp-local x l h') (arms-local arms ls h))

    op-local : {r : Copied T.Name} {s : ℕ → Typ} {o : Op poly} {o' : Op (kind_of T)} {xs : List ℕ} {ys : List T.Name} → CopyOp T r s o o' → OpScoped poly false xs o → Kept r xs ys → OpScoped (kind_of T) false ys o'
    op-local (copy_use e y) (use_scoped a) h = use_scoped tt
    op-local (copy_own b y) (use_scoped a) h = use_scoped tt
    op-local (copy_const c) const_scoped h = const_scoped
    op-local (copy_con_alone c t n i p) con_alone_scoped h = con_alone_scoped
    op-local (copy_construct m c t n i p y) (construct_scoped a) h = construct_scoped (h _ _ y a)
    op-local (copy_ref_alone t n i) ref_alone_scoped h = ref_alone_scoped
    op-local (copy_refer m t n i y) (refer_scoped a) h = refer_scoped (h _ _ y a)
    op-local (copy_content t n i y) (content_scoped a) h = content_scoped (h _ _ y a)
    op-local (copy_pack m t n i y x) (pack_scoped b a) h = pack_scoped (h _ _ y b) (h _ _ x a)
    op-local (copy_make_record t n i row) (make_record_scoped r) h = make_record_scoped (row-local row r h)
    op-local (copy_select t n l i y) (select_scoped a) h = select_scoped (h _ _ y a)
    op-local (copy_prim_alone p t n i) prim_alone_scoped h = prim_alone_scoped
    op-local (copy_prim m p t n i as_) (prim_scoped r) h = prim_scoped (atoms-local as_ r h)
    op-local (copy_app place f x) (app_scoped b a) h = app_scoped (h _ _ f b) (h _ _ x a)
    op-local (copy_fn f) (fn_scoped l) h = fn_scoped (fun-local f l)
    op-local (copy_block e) (block_scoped l) h = block_scoped (exp-local e l h)
    op-local (copy_handle x k y n m d) (handle_scoped l g) h = handle_scoped (exp-local y l h) (exp-local d g (bound n h))
    op-local (copy_raise y) (raise_scoped a) h = raise_scoped (h _ _ y a)
    op-local (copy_raise_initial i) raise_initial_scoped h = raise_initial_scoped

    fun-local : {r : Copied T.Name} {s : ℕ → Typ} {f : Fun poly} {f' : Fun (kind_of T)} → CopyFun T r s f f' → FunScoped poly false [] f → FunScoped (kind_of T) false [] f'
    fun-local (copy_last x t k n i u m e) (last_scoped l) = last_scoped (exp-local e l (bound u outside))
    fun-local (copy_more x t k n i u m f) (more_scoped l) = more_scoped (fun-local f l)

    funs-local : {r : Copied T.Name} {s : ℕ → Typ} {fs : Funs poly} {fs' : Funs (kind_of T)} {qs : Pairs T.Name} → CopyFuns T r s fs fs' qs → FunsScoped poly false [] fs → FunsScoped (kind_of T) false [] fs'
    funs-local copy_no_funs no_funs_scoped = no_funs_scoped
    funs-local (copy_fun x t k n i f fs) (fun_scoped l ls) = fun_scoped (fun-local f l) (funs-local fs ls)

  pub copies-local : {s : ℕ → Typ} {e : Exp poly} {e' : Exp (kind_of T)} → Copy T no_copies s e e' → IsLocal poly [] e → IsLocal (kind_of T) [] e'
  copies-local c l = exp-local c l (λ x k z h. elim z [ ])
