-- Which variables may be named where. Across functions: every variable that is named is bound around. Else: every atom is bound in its own function;
-- then only a use and an exception's name that is brought in may name a variable of a function around.
use Rattle.std.specs.Prelude.{◌≡◌, ℕ, Bool, true, false, Option, List, [], ◌∷◌, ⊤}
use Rattle.ir_values.specs.of_mlc_names.declared.label.Label.{Label}
use Rattle.mlc_base.specs.declared.place.Place.{Place}
use Rattle.ir_values.specs.of_mlc_prims.LitOf.{Literal}
use Rattle.ir_values.specs.of_mlc_prims.declared.basis.BasisPrimitive.{BasisPrimitive}
use Rattle.ir_plain.specs.Kind.{Kind}
use Rattle.ir_plain.specs.Tree.{Case, is_literal, is_con, is_con_of, is_exn, is_exn_of, is_record, Exception, fixed, held, Atoms, no_atoms, an_atom, Row, no_row, a_row, Exp, ret, let_in, exception_in, name_in, rec_in, switch, first, miss, counted, Arms, no_arms, arm, Op, use_of, const, con_alone, construct, ref_alone, refer, content, pack, make_record, select, prim_alone, prim, app, fn, block, handle, raise, raise_initial, Fun, last, more, Funs, no_funs, fun}

module _ (F : Kind) where
  pub data IsAmong (u : F.Use) : List F.Binder → Type 0 where
    among_here : {b : F.Binder} {xs : List F.Binder} → F.is_of u b ≡ true → IsAmong u (b ∷ xs)
    among_there : {b : F.Binder} {xs : List F.Binder} → IsAmong u xs → IsAmong u (b ∷ xs)

  -- the functions of a group in front
  abbrev pub group_onto : Funs F → List F.Binder → List F.Binder
  group_onto no_funs xs = xs
  group_onto (fun x t f fs) xs = x ∷ group_onto fs xs

  pub data AtomsScoped (xs : List F.Binder) : Atoms F → Type 0 where
    no_atoms_scoped : AtomsScoped xs no_atoms
    an_atom_scoped : {u : F.Use} {as_ : Atoms F} → IsAmong u xs → AtomsScoped xs as_ → AtomsScoped xs (an_atom u as_)

  pub data RowScoped (xs : List F.Binder) : Row F → Type 0 where
    no_row_scoped : RowScoped xs no_row
    a_row_scoped : {l : Label} {u : F.Use} {row : Row F} → IsAmong u xs → RowScoped xs row → RowScoped xs (a_row l u row)

  -- and what is in scope where the arm fits
  pub data CaseScoped (xs : List F.Binder) : Case F → List F.Binder → Type 0 where
    literal_scoped : {l : Literal} → CaseScoped xs (is_literal l) xs
    con_scoped : {c : ℕ} → CaseScoped xs (is_con c) xs
    con_of_scoped : {c : ℕ} {x : F.Binder} {t : F.Type_of} → CaseScoped xs (is_con_of c x t) (x ∷ xs)
    exn_scoped : {u : F.Use} → IsAmong u xs → CaseScoped xs (is_exn u) xs
    exn_of_scoped : {u : F.Use} {x : F.Binder} {t : F.Type_of} → IsAmong u xs → CaseScoped xs (is_exn_of u x t) (x ∷ xs)
    record_scoped : {size : Option ℕ} → CaseScoped xs (is_record size) xs

  -- what a function sees of what is in scope around it, and what a use asks for
  abbrev pub seen : Bool → List F.Binder → List F.Binder
  seen true xs = xs
  seen false xs = []

  abbrev pub Reaches : Bool → F.Use → List F.Binder → Type 0
  Reaches true u xs = IsAmong u xs
  Reaches false u xs = ⊤

  abbrev pub ReachesName : Bool → Exception F → List F.Binder → Type 0
  ReachesName across (fixed n) xs = ⊤
  ReachesName across (held u) xs = Reaches across u xs

  module _ (across : Bool) where
    mutual
      pub data IsScoped : List F.Binder → Exp F → Type 0 where
        ret_scoped : {xs : List F.Binder} {u : F.Use} → IsAmong u xs → IsScoped xs (ret u)
        let_scoped : {xs : List F.Binder} {x : F.Binder} {ps : F.Params_of} {t : F.Type_of} {o : Op F} {e : Exp F} → OpScoped xs o → IsScoped (x ∷ xs) e
            → IsScoped xs (let_in x ps t o e)
        exception_scoped : {xs : List F.Binder} {x : F.Binder} {i : ℕ} {t : Option F.Type_of} {e : Exp F} → IsScoped (x ∷ xs) e
            → IsScoped xs (exception_in x i t e)
        name_scoped : {xs : List F.Binder} {x : F.Binder} {y : Exception F} {e : Exp F} → ReachesName across y xs → IsScoped (x ∷ xs) e
            → IsScoped xs (name_in x y e)
        rec_scoped : {xs : List F.Binder} {ps : F.Params_of} {fs : Funs F} {e : Exp F} → FunsScoped (seen across (group_onto fs xs)) fs
            → IsScoped (group_onto fs xs) e → IsScoped xs (rec_in ps fs e)
        switch_scoped : {xs : List F.Binder} {u : F.Use} {t : F.Type_of} {arms : Arms F} → IsAmong u xs → ArmsScoped xs arms → IsScoped xs (switch u t arms)
        first_scoped : {xs : List F.Binder} {e d : Exp F} → IsScoped xs e → IsScoped xs d → IsScoped xs (first e d)
        miss_scoped : {xs : List F.Binder} → IsScoped xs miss
        counted_scoped : {xs : List F.Binder} {n : ℕ} {e : Exp F} → IsScoped xs e → IsScoped xs (counted n e)

      pub data ArmsScoped : List F.Binder → Arms F → Type 0 where
        no_arms_scoped : {xs : List F.Binder} → ArmsScoped xs no_arms
        arm_scoped : {xs xs' : List F.Binder} {c : Case F} {e : Exp F} {arms : Arms F} → CaseScoped xs c xs' → IsScoped xs' e → ArmsScoped xs arms
            → ArmsScoped xs (arm c e arms)

      pub data OpScoped : List F.Binder → Op F → Type 0 where
        use_scoped : {xs : List F.Binder} {u : F.Use} → Reaches across u xs → OpScoped xs (use_of u)
        const_scoped : {xs : List F.Binder} {l : Literal} → OpScoped xs (const l)
        con_alone_scoped : {xs : List F.Binder} {c : ℕ} {t : F.Type_of} → OpScoped xs (con_alone c t)
        construct_scoped : {xs : List F.Binder} {m : Option Place} {c : ℕ} {t : F.Type_of} {u : F.Use} → IsAmong u xs → OpScoped xs (construct m c t u)
        ref_alone_scoped : {xs : List F.Binder} {t : F.Type_of} → OpScoped xs (ref_alone t)
        refer_scoped : {xs : List F.Binder} {m : Option Place} {t : F.Type_of} {u : F.Use} → IsAmong u xs → OpScoped xs (refer m t u)
        content_scoped : {xs : List F.Binder} {t : F.Type_of} {u : F.Use} → IsAmong u xs → OpScoped xs (content t u)
        pack_scoped : {xs : List F.Binder} {m : Option Place} {t : F.Type_of} {y u : F.Use} → IsAmong y xs → IsAmong u xs → OpScoped xs (pack m t y u)
        make_record_scoped : {xs : List F.Binder} {t : F.Type_of} {row : Row F} → RowScoped xs row → OpScoped xs (make_record t row)
        select_scoped : {xs : List F.Binder} {t : F.Type_of} {l : Label} {u : F.Use} → IsAmong u xs → OpScoped xs (select t l u)
        prim_alone_scoped : {xs : List F.Binder} {p : BasisPrimitive} {t : F.Type_of} → OpScoped xs (prim_alone p t)
        prim_scoped : {xs : List F.Binder} {m : Option Place} {p : BasisPrimitive} {t : F.Type_of} {as_ : Atoms F} → AtomsScoped xs as_
            → OpScoped xs (prim m p t as_)
        app_scoped : {xs : List F.Binder} {place : Place} {f u : F.Use} → IsAmong f xs → IsAmong u xs → OpScoped xs (app place f u)
        fn_scoped : {xs : List F.Binder} {f : Fun F} → FunScoped (seen across xs) f → OpScoped xs (fn f)
        block_scoped : {xs : List F.Binder} {e : Exp F} → IsScoped xs e → OpScoped xs (block e)
        handle_scoped : {xs : List F.Binder} {e d : Exp F} {x : F.Binder} → IsScoped xs e → IsScoped (x ∷ xs) d → OpScoped xs (handle e x d)
        raise_scoped : {xs : List F.Binder} {u : F.Use} → IsAmong u xs → OpScoped xs (raise u)
        raise_initial_scoped : {xs : List F.Binder} {i : ℕ} → OpScoped xs (raise_initial i)

      -- each parameter belongs to a function of its own
      pub data FunScoped : List F.Binder → Fun F → Type 0 where
        last_scoped : {xs : List F.Binder} {x : F.Binder} {t : F.Type_of} {e : Exp F} → IsScoped (x ∷ xs) e → FunScoped xs (last x t e)
        more_scoped : {xs : List F.Binder} {x : F.Binder} {t : F.Type_of} {f : Fun F} → FunScoped (seen across (x ∷ xs)) f → FunScoped xs (more x t f)

      pub data FunsScoped : List F.Binder → Funs F → Type 0 where
        no_funs_scoped : {xs : List F.Binder} → FunsScoped xs no_funs
        fun_scoped : {xs : List F.Binder} {x : F.Binder} {t : F.Type_of} {f : Fun F} {fs : Funs F} → FunScoped xs f → FunsScoped xs fs
            → FunsScoped xs (fun x t f fs)

-- every variable that is named is bound around
abbrev pub IsBound : (F : Kind) → List F.Binder → Exp F → Type 0
IsBound F = IsScoped F true

-- every atom is bound in its own function
abbrev pub IsLocal : (F : Kind) → List F.Binder → Exp F → Type 0
IsLocal F = IsScoped F false
