-- In the expansion every atom is bound in its own function.
use Rattle.std.proofs.Common.{◌≡◌, ℕ, suc, ◌+◌, Bool, true, false, List, [], ◌∷◌, Option, Some, None, refl, sym, ap, subst}
use Rattle.mlc_prims.specs.declared.basis.BasisPrimitive.{BasisPrimitive}
use Rattle.ir_plain.specs.Tree.{Arms, Op, Fun, Funs, no_funs, fun}
use Rattle.ir_plain.specs.Scoped.{IsAmong, among_here, among_there, group_onto, AtomsScoped, no_atoms_scoped, an_atom_scoped, IsScoped, ret_scoped, let_scoped, exception_scoped, name_scoped, rec_scoped, switch_scoped, first_scoped, miss_scoped, counted_scoped, ArmsScoped, no_arms_scoped, arm_scoped, OpScoped, use_scoped, const_scoped, con_alone_scoped, construct_scoped, ref_alone_scoped, refer_scoped, content_scoped, pack_scoped, make_record_scoped, select_scoped, prim_alone_scoped, prim_scoped, app_scoped, fn_scoped, block_scoped, handle_scoped, raise_scoped, raise_initial_scoped, FunScoped, last_scoped, more_scoped, FunsScoped, no_funs_scoped, fun_scoped}
use Rattle.ir_poly.specs.Types.{prim_type}
use Rattle.ir_mono.specs.Types as table
use Rattle.ir_mono.specs.Types.{node_at, constructor_at}
use Rattle.ir_mono.specs.Mono.{mono}
use Rattle.eta_expand.specs.Expand.{Names, takes_argument, takes_at, gives_at, parts_at, is_single, E, gives_it, packing, selecting, atoms_from, performing, used_as, alone_as, case_names, group_names, news, op_news, fun_news, funs_news, expand, expand_arms, expand_op, expand_fun, expand_funs}
use Rattle.eta_expand.proofs.Known.{number-same}

module _ (types : List table.Row) where
  abbrev In : ℕ → List ℕ → Type 0
  In x xs = IsAmong (mono types) x xs

  abbrev Local : List ℕ → E types → Type 0
  Local xs e = IsScoped (mono types) false xs e

  here : (x : ℕ) (xs : List ℕ) → In x (x ∷ xs)
  here x xs = among_here (number-same x)

  it-local : {xs : List ℕ} {x t : ℕ} {o : Op (mono types)} → OpScoped (mono types) false xs o → Local xs (gives_it types x t o)
  it-local {xs = xs} {x = x} h = let_scoped h (ret_scoped (here x xs))

  packing-local : (n a e z : ℕ) → FunScoped (mono types) false [] (packing types n a e z)
  packing-local n a e z = last_scoped (name_scoped tt (it-local (pack_scoped (here (suc n) (n ∷ [])) (among_there (here n [])))))

  used-local : (xs : List ℕ) (n t x : ℕ) (b : Bool) → OpScoped (mono types) false xs (used_as types b n t x)
  used-local xs n t x true = block_scoped (name_scoped tt (it-local (fn_scoped (packing-local (suc (suc n)) (takes_at (node_at types t)) (gives_at (node_at types t)) n))))
  used-local xs n t x false = use_scoped tt

  alone-local : (xs : List ℕ) (n c u : ℕ) (o : Option (Option ℕ)) → OpScoped (mono types) false xs (alone_as types o n c u)
  alone-local xs n c u None = con_alone_scoped
  alone-local xs n c u (Some None) = con_alone_scoped
  alone-local xs n c u (Some (Some a)) = fn_scoped (last_scoped (it-local (construct_scoped (here n []))))

  -- the variables that the parts have, in front
  abbrev parts_onto : ℕ → List ℕ → List ℕ → List ℕ
  parts_onto m [] xs = xs
  parts_onto m (q ∷ qs) xs = parts_onto (suc m) qs (m ∷ xs)

  onto-in : (x m : ℕ) (qs xs : List ℕ) → In x xs → In x (parts_onto m qs xs)
  onto-in x m [] xs h = h
  onto-in x m (q ∷ qs) xs h = onto-in x (suc m) qs (m ∷ xs) (among_there h)

  atoms-in : (m : ℕ) (qs xs : List ℕ) → AtomsScoped (mono types) (parts_onto m qs xs) (atoms_from types m qs)
  atoms-in m [] xs = no_atoms_scoped
  atoms-in m (q ∷ qs) xs = an_atom_scoped (onto-in m (suc m) qs (m ∷ xs) (here m xs)) (atoms-in (suc m) qs (m ∷ xs))

  selecting-local : {e : E types} (a y k m : ℕ) (qs xs : List ℕ) → In y xs → Local (parts_onto m qs xs) e → Local xs (selecting types a y k m qs e)
  selecting-local a y k m [] xs h l = l
  selecting-local a y k m (q ∷ qs) xs h l = let_scoped (select_scoped h) (selecting-local a y (suc k) (suc m) qs (m ∷ xs) (among_there h) l)

  performing-local : (b : Bool) (n : ℕ) (p : BasisPrimitive) (u a r : ℕ) (qs : List ℕ) → FunScoped (mono types) false [] (performing types b n p u a r qs)
  performing-local true n p u a r qs = last_scoped (it-local (prim_scoped (an_atom_scoped (here n []) no_atoms_scoped)))
  performing-local false n p u a r qs = last_scoped (selecting-local a n 1 (suc n) qs (n ∷ []) (here n []) (it-local (prim_scoped (atoms-in (suc n) qs (n ∷ [])))))

  -- a group has the functions that it had
  onto-same : (fs : Funs (mono types)) (N : Names) (n : ℕ) (xs : List ℕ) → group_onto (mono types) (expand_funs types N n fs) xs ≡ group_onto (mono types) fs xs
  onto-same no_funs N n xs = refl
  onto-same (fun x t f fs) N n xs = ap (λ z. x ∷ z) (onto-same fs N (n + fun_news types N f) xs)

  mutual
    pub local : {xs : List ℕ} {e : E types} (N : Names) (n : ℕ) → Local xs e → Local xs (expand types N n e)
    local N n (ret_scoped h) = ret_scoped h
    local N n (let_scoped {x = x} {t = t} {o = o} h l) = let_scoped (op-local N n t h) (local ((x, false) ∷ N) (n + op_news types N t o) l)
    local N n (exception_scoped l) = exception_scoped (local _ n l)
    local N n (name_scoped h l) = name_scoped h (local _ n l)
    local N n (rec_scoped {xs = xs} {fs = fs} {e = e} h l) =
        let same : group_onto (mono types) (expand_funs types (group_names types fs N) n fs) xs ≡ group_onto (mono types) fs xs = onto-same fs (group_names types fs N) n xs in
        rec_scoped (funs-local (group_names types fs N) n h)
        (subst (λ ys. Local ys (expand types (group_names types fs N) (n + funs_news types (group_names types fs N) fs) e)) (sym same) (local (group_names types fs N) (n + funs_news types (group_names types fs N) fs) l))
    local N n (switch_scoped h r) = switch_scoped h (arms-local N n r)
    local N n (first_scoped {e = e} h l) = first_scoped (local N n h) (local N (n + news types N e) l)
    local N n miss_scoped = miss_scoped
    local N n (counted_scoped l) = counted_scoped (local N n l)

    arms-local : {xs : List ℕ} {arms : Arms (mono types)} (N : Names) (n : ℕ) → ArmsScoped (mono types) false xs arms → ArmsScoped (mono types) false xs (expand_arms types N n arms)
    arms-local N n no_arms_scoped = no_arms_scoped
    arms-local N n (arm_scoped {c = c} {e = e} h l r) = arm_scoped h (local (case_names types c N) n l) (arms-local N (n + news types (case_names types c N) e) r)

    op-local : {xs : List ℕ} {o : Op (mono types)} (N : Names) (n t : ℕ) → OpScoped (mono types) false xs o → OpScoped (mono types) false xs (expand_op types N n t o)
    op-local {xs} N n t (use_scoped {u = x} h) = used-local xs n t x (takes_argument N x)
    op-local N n t const_scoped = const_scoped
    op-local {xs} N n t (con_alone_scoped {c = c} {t = u}) = alone-local xs n c u (constructor_at types u c)
    op-local N n t (construct_scoped h) = construct_scoped h
    op-local N n t ref_alone_scoped = fn_scoped (last_scoped (it-local (refer_scoped (here n []))))
    op-local N n t (refer_scoped h) = refer_scoped h
    op-local N n t (content_scoped h) = content_scoped h
    op-local N n t (pack_scoped h l) = pack_scoped h l
    op-local N n t (make_record_scoped h) = make_record_scoped h
    op-local N n t (select_scoped h) = select_scoped h
    op-local N n t (prim_alone_scoped {p = p} {t = u}) =
        fn_scoped (performing-local (is_single (prim_type p).arguments) n p u (takes_at (node_at types t)) (gives_at (node_at types t)) (parts_at (node_at types (takes_at (node_at types t)))))
    op-local N n t (prim_scoped h) = prim_scoped h
    op-local N n t (app_scoped h l) = app_scoped h l
    op-local N n t (fn_scoped h) = fn_scoped (fun-local N n h)
    op-local N n t (block_scoped l) = block_scoped (local N n l)
    op-local N n t (handle_scoped {e = e} {x = x} l r) = handle_scoped (local N n l) (local ((x, false) ∷ N) (n + news types N e) r)
    op-local N n t (raise_scoped h) = raise_scoped h
    op-local N n t raise_initial_scoped = raise_initial_scoped

    fun-local : {xs : List ℕ} {f : Fun (mono types)} (N : Names) (n : ℕ) → FunScoped (mono types) false xs f → FunScoped (mono types) false xs (expand_fun types N n f)
    fun-local N n (last_scoped {x = x} l) = last_scoped (local ((x, false) ∷ N) n l)
    fun-local N n (more_scoped {x = x} l) = more_scoped (fun-local ((x, false) ∷ N) n l)

    funs-local : {xs : List ℕ} {fs : Funs (mono types)} (N : Names) (n : ℕ) → FunsScoped (mono types) false xs fs → FunsScoped (mono types) false xs (expand_funs types N n fs)
    funs-local N n no_funs_scoped = no_funs_scoped
    funs-local N n (fun_scoped {f = f} h l) = fun_scoped (fun-local N n h) (funs-local N (n + fun_news types N f) l)
