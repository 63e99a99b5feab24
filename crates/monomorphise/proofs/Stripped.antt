-- Marks don't matter to types, nor to whether atoms are local, nor to whether copies are copies.
use Rattle.std.proofs.Common.{◌≡◌, ℕ, Bool, true, false, ◌&&◌, List, [], ◌∷◌, refl, ◌∙◌}
use Rattle.ty_core.specs.Types.{Typ}
use Rattle.ty_core.specs.declared.scheme.Quantified.{Quantified}
use Rattle.ir_mono.specs.of_ir_plain.Tree.{Exp, ret, let_in, exception_in, name_in, rec_in, switch, first, miss, counted, Arms, no_arms, arm, Op, use_of, const, con_alone, construct, ref_alone, refer, content, pack, make_record, select, prim_alone, prim, app, fn, block, handle, raise, raise_initial, is_value, are_values, is_value_op}
use Rattle.ir_mono.specs.of_ir_plain.Copies.{strip, strip_arms, strip_op}
use Rattle.ir_mono.specs.of_ir_plain.Scoped.{IsLocal, ArmsScoped, OpScoped, ret_scoped, let_scoped, exception_scoped, name_scoped, rec_scoped, switch_scoped, first_scoped, miss_scoped, counted_scoped, no_arms_scoped, arm_scoped, use_scoped, const_scoped, con_alone_scoped, construct_scoped, ref_alone_scoped, refer_scoped, content_scoped, pack_scoped, make_record_scoped, select_scoped, prim_alone_scoped, prim_scoped, app_scoped, fn_scoped, block_scoped, handle_scoped, raise_scoped, raise_initial_scoped}
use Rattle.ir_mono.specs.of_ir_poly.Tests.{poly}
use Rattle.ir_mono.specs.of_ir_poly.Types.{Constructor}
use Rattle.ir_mono.specs.of_ir_poly.TestsChecked.{Knowns, may_generalise}
use Rattle.ir_mono.specs.of_ir_poly.TestsTyped as tt
use Rattle.monomorphise.specs.Copies.{Target, Copied, kind_of, Copy, copy_ret, copy_let, copy_exception, copy_name, copy_rec, copy_switch, copy_first, copy_miss, copy_counted, CopyArms, copy_no_arms, copy_arm, CopyOp, copy_use, copy_own, copy_const, copy_con_alone, copy_construct, copy_ref_alone, copy_refer, copy_content, copy_pack, copy_make_record, copy_select, copy_prim_alone, copy_prim, copy_app, copy_fn, copy_block, copy_handle, copy_raise, copy_raise_initial, Rest, no_more_copies, one_more_copy}

both-same : {a b c d : Bool} → a ≡ c → b ≡ d → (a && b) ≡ (c && d)
both-same e f = rw (e, f) refl

-- a stripped value is one
mutual
  strip-value : (e : Exp poly) → is_value (strip e) ≡ is_value e
  strip-value (ret a) = refl
  strip-value (let_in x ps t o e) = both-same (strip-op-value o) (strip-value e)
  strip-value (exception_in x i t e) = refl
  strip-value (name_in x y e) = strip-value e
  strip-value (rec_in ps fs e) = refl
  strip-value (switch a t arms) = strip-arms-value arms
  strip-value (first e d) = both-same (strip-value e) (strip-value d)
  strip-value miss = refl
  strip-value (counted n e) = strip-value e

  strip-arms-value : (arms : Arms poly) → are_values (strip_arms arms) ≡ are_values arms
  strip-arms-value no_arms = refl
  strip-arms-value (arm c e arms) = both-same (strip-value e) (strip-arms-value arms)

  pub strip-op-value : (o : Op poly) → is_value_op (strip_op o) ≡ is_value_op o
  strip-op-value (block e) = strip-value e
  strip-op-value (use_of x) = refl
  strip-op-value (const l) = refl
  strip-op-value (con_alone c t) = refl
  strip-op-value (construct m c t a) = refl
  strip-op-value (ref_alone t) = refl
  strip-op-value (refer m t a) = refl
  strip-op-value (content t a) = refl
  strip-op-value (pack m t x a) = refl
  strip-op-value (make_record t row) = refl
  strip-op-value (select t l a) = refl
  strip-op-value (prim_alone p t) = refl
  strip-op-value (prim m p t as_) = refl
  strip-op-value (app place f a) = refl
  strip-op-value (fn f) = refl
  strip-op-value (handle e x h) = refl
  strip-op-value (raise a) = refl
  strip-op-value (raise_initial i) = refl

strip-general : (qs : List Quantified) (o : Op poly) → may_generalise qs o ≡ true → may_generalise qs (strip_op o) ≡ true
strip-general [] o e = refl
strip-general (q ∷ qs) o e = strip-op-value o ∙ e

module _ (constructors : List Constructor) where
  mutual
    strip-typed : {m : Bool} {s : ℕ → Typ} {G : Knowns} {e : Exp poly} {t : Typ} → tt.Typed constructors m s G e t → tt.Typed constructors m s G (strip e) t
    strip-typed (tt.t_ret a) = tt.t_ret a
    strip-typed (tt.t_let {qs = qs} {o = o} v k l) = tt.t_let (strip-general qs o v) (λ ts f. strip-op-typed (k ts f)) (strip-typed l)
    strip-typed (tt.t_exception l) = tt.t_exception l
    strip-typed (tt.t_name e l) = tt.t_name e (strip-typed l)
    strip-typed (tt.t_rec k l) = tt.t_rec k l
    strip-typed (tt.t_switch a e arms) = tt.t_switch a e (strip-arms-typed arms)
    strip-typed (tt.t_first l d) = tt.t_first (strip-typed l) (strip-typed d)
    strip-typed tt.t_miss = tt.t_miss
    strip-typed (tt.t_counted l) = tt.t_counted (strip-typed l)

    strip-arms-typed : {s : ℕ → Typ} {G : Knowns} {arms : Arms poly} {u t : Typ} → tt.ArmsTyped constructors s G arms u t → tt.ArmsTyped constructors s G (strip_arms arms) u t
    strip-arms-typed tt.t_no_arms = tt.t_no_arms
    strip-arms-typed (tt.t_arm c l arms) = tt.t_arm c (strip-typed l) (strip-arms-typed arms)

    pub strip-op-typed : {s : ℕ → Typ} {G : Knowns} {o : Op poly} {t : Typ} → tt.OpTyped constructors s G o t → tt.OpTyped constructors s G (strip_op o) t
    strip-op-typed (tt.t_use e f q) = tt.t_use e f q
    strip-op-typed (tt.t_use_one e) = tt.t_use_one e
    strip-op-typed (tt.t_use_own e) = tt.t_use_own e
    strip-op-typed (tt.t_use_exception e q) = tt.t_use_exception e q
    strip-op-typed (tt.t_const c) = tt.t_const c
    strip-op-typed (tt.t_con_alone e q) = tt.t_con_alone e q
    strip-op-typed (tt.t_construct e a q) = tt.t_construct e a q
    strip-op-typed (tt.t_ref_alone q) = tt.t_ref_alone q
    strip-op-typed (tt.t_refer a q) = tt.t_refer a q
    strip-op-typed (tt.t_content a q e) = tt.t_content a q e
    strip-op-typed (tt.t_pack e a q) = tt.t_pack e a q
    strip-op-typed (tt.t_make_record r e o q) = tt.t_make_record r e o q
    strip-op-typed (tt.t_select r a e f q) = tt.t_select r a e f q
    strip-op-typed (tt.t_prim_alone a q) = tt.t_prim_alone a q
    strip-op-typed (tt.t_prim a r e q) = tt.t_prim a r e q
    strip-op-typed (tt.t_app f a q) = tt.t_app f a q
    strip-op-typed (tt.t_fn f) = tt.t_fn f
    strip-op-typed (tt.t_block l) = tt.t_block (strip-typed l)
    strip-op-typed (tt.t_handle l d) = tt.t_handle l d
    strip-op-typed (tt.t_raise a q) = tt.t_raise a q
    strip-op-typed (tt.t_raise_initial e) = tt.t_raise_initial e

mutual
  strip-local : {xs : List ℕ} {e : Exp poly} → IsLocal poly xs e → IsLocal poly xs (strip e)
  strip-local (ret_scoped a) = ret_scoped a
  strip-local (let_scoped o l) = let_scoped (strip-op-local o) (strip-local l)
  strip-local (exception_scoped l) = exception_scoped l
  strip-local (name_scoped e l) = name_scoped e (strip-local l)
  strip-local (rec_scoped fs l) = rec_scoped fs l
  strip-local (switch_scoped a arms) = switch_scoped a (strip-arms-local arms)
  strip-local (first_scoped l d) = first_scoped (strip-local l) (strip-local d)
  strip-local miss_scoped = miss_scoped
  strip-local (counted_scoped l) = counted_scoped (strip-local l)

  strip-arms-local : {xs : List ℕ} {arms : Arms poly} → ArmsScoped poly false xs arms → ArmsScoped poly false xs (strip_arms arms)
  strip-arms-local no_arms_scoped = no_arms_scoped
  strip-arms-local (arm_scoped c l arms) = arm_scoped c (strip-local l) (strip-arms-local arms)

  pub strip-op-local : {xs : List ℕ} {o : Op poly} → OpScoped poly false xs o → OpScoped poly false xs (strip_op o)
  strip-op-local (use_scoped a) = use_scoped a
  strip-op-local const_scoped = const_scoped
  strip-op-local con_alone_scoped = con_alone_scoped
  strip-op-local (construct_scoped a) = construct_scoped a
  strip-op-local ref_alone_scoped = ref_alone_scoped
  strip-op-local (refer_scoped a) = refer_scoped a
  strip-op-local (content_scoped a) = content_scoped a
  strip-op-local (pack_scoped y a) = pack_scoped y a
  strip-op-local (make_record_scoped r) = make_record_scoped r
  strip-op-local (select_scoped a) = select_scoped a
  strip-op-local prim_alone_scoped = prim_alone_scoped
  strip-op-local (prim_scoped r) = prim_scoped r
  strip-op-local (app_scoped f a) = app_scoped f a
  strip-op-local (fn_scoped f) = fn_scoped f
  strip-op-local (block_scoped l) = block_scoped (strip-local l)
  strip-op-local (handle_scoped l d) = handle_scoped l d
  strip-op-local (raise_scoped a) = raise_scoped a
  strip-op-local raise_initial_scoped = raise_initial_scoped

-- the copies of a program without marks are those without marks
module _ (T : Target) where
  mutual
    strip-copy : {r : Copied T.Name} {s : ℕ → Typ} {e : Exp poly} {e' : Exp (kind_of T)} → Copy T r s e e' → Copy T r s (strip e) (strip e')
    strip-copy (copy_ret x) = copy_ret x
    strip-copy (copy_let a f i o n m rest) = copy_let a f i (strip-copy-op o) n m (strip-rest rest)
    strip-copy (copy_exception x i k t n m e) = copy_exception x i k t n m e
    strip-copy (copy_name x k y n m e) = copy_name x k y n m (strip-copy e)
    strip-copy (copy_rec a f c n m rest) = copy_rec a f c n m rest
    strip-copy (copy_switch t n x i arms) = copy_switch t n x i (strip-copy-arms arms)
    strip-copy (copy_first x y) = copy_first (strip-copy x) (strip-copy y)
    strip-copy copy_miss = copy_miss
    strip-copy (copy_counted n x) = copy_counted n (strip-copy x)

    strip-rest : {r r' : Copied T.Name} {s : ℕ → Typ} {x : ℕ} {ps : List Quantified} {t : Typ} {o : Op poly} {e : Exp poly} {e' : Exp (kind_of T)} → Rest T r s x ps t o e r' e' → Rest T r s x ps t (strip_op o) (strip e) r' (strip e')
    strip-rest (no_more_copies e) = no_more_copies (strip-copy e)
    strip-rest (one_more_copy {o = o} a f i ty x n rest) = one_more_copy a f (strip-op-value o ∙ i) ty (strip-copy-op x) n (strip-rest rest)

    strip-copy-arms : {r : Copied T.Name} {s : ℕ → Typ} {u : T.Type_of} {arms : Arms poly} {arms' : Arms (kind_of T)} → CopyArms T r s u arms arms' → CopyArms T r s u (strip_arms arms) (strip_arms arms')
    strip-copy-arms copy_no_arms = copy_no_arms
    strip-copy-arms (copy_arm c x arms) = copy_arm c (strip-copy x) (strip-copy-arms arms)

    pub strip-copy-op : {r : Copied T.Name} {s : ℕ → Typ} {o : Op poly} {o' : Op (kind_of T)} → CopyOp T r s o o' → CopyOp T r s (strip_op o) (strip_op o')
    strip-copy-op (copy_use e x) = copy_use e x
    strip-copy-op (copy_own a x) = copy_own a x
    strip-copy-op (copy_const c) = copy_const c
    strip-copy-op (copy_con_alone c t n i h) = copy_con_alone c t n i h
    strip-copy-op (copy_construct m c t n i h x) = copy_construct _ c t n i h x
    strip-copy-op (copy_ref_alone t n i) = copy_ref_alone t n i
    strip-copy-op (copy_refer m t n i x) = copy_refer m t n i x
    strip-copy-op (copy_content t n i x) = copy_content t n i x
    strip-copy-op (copy_pack m t n i y x) = copy_pack _ t n i y x
    strip-copy-op (copy_make_record t n i row) = copy_make_record t n i row
    strip-copy-op (copy_select t n l i x) = copy_select t n l i x
    strip-copy-op (copy_prim_alone p t n i) = copy_prim_alone p t n i
    strip-copy-op (copy_prim m p t n i as_) = copy_prim m p t n i as_
    strip-copy-op (copy_app place f x) = copy_app place f x
    strip-copy-op (copy_fn f) = copy_fn f
    strip-copy-op (copy_block x) = copy_block (strip-copy x)
    strip-copy-op (copy_handle x k y n m d) = copy_handle x k y n m d
    strip-copy-op (copy_raise x) = copy_raise x
    strip-copy-op (copy_raise_initial i) = copy_raise_initial i
