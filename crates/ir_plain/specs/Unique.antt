-- No variable is bound where one of that number is bound already. This is what a pass uses; a pass that makes a program shows IsOnce, from which it follows.
use Rattle.std.specs.Prelude.{◌≡◌, ℕ, false, Option, List, [], ◌∷◌, nat_eq}
use Rattle.ir_values.specs.of_mlc_names.declared.label.Label.{Label}
use Rattle.mlc_base.specs.declared.place.Place.{Place}
use Rattle.ir_values.specs.of_mlc_prims.LitOf.{Literal}
use Rattle.ir_values.specs.of_mlc_prims.declared.basis.BasisPrimitive.{BasisPrimitive}
use Rattle.ir_plain.specs.Kind.{Kind}
use Rattle.ir_plain.specs.Tree.{Case, is_literal, is_con, is_con_of, is_exn, is_exn_of, is_record, Exception, Atoms, Row, Exp, ret, let_in, exception_in, name_in, rec_in, switch, first, miss, counted, Arms, no_arms, arm, Op, use_of, const, con_alone, construct, ref_alone, refer, content, pack, make_record, select, prim_alone, prim, app, fn, block, handle, raise, raise_initial, Fun, last, more, Funs, no_funs, fun}

pub data IsOutside (x : ℕ) : List ℕ → Type 0 where
  outside_none : IsOutside x []
  outside_more : {y : ℕ} {bs : List ℕ} → nat_eq y x ≡ false → IsOutside x bs → IsOutside x (y ∷ bs)

-- number is the number of a binder, bs are those that are bound already
module _ {F : Kind} (number : F.Binder → ℕ) where
  -- the functions of a group in front
  abbrev pub funs_onto : Funs F → List ℕ → List ℕ
  funs_onto no_funs bs = bs
  funs_onto (fun x t f fs) bs = number x ∷ funs_onto fs bs

  -- they are new, and each once
  pub data AreNew (bs : List ℕ) : Funs F → Type 0 where
    none_new : AreNew bs no_funs
    one_new : {x : F.Binder} {t : F.Type_of} {f : Fun F} {fs : Funs F} → IsOutside (number x) (funs_onto fs bs) → AreNew bs fs → AreNew bs (fun x t f fs)

  -- the variable of an arm, if it has one, is new; and what is bound where it fits
  pub data CaseUnique (bs : List ℕ) : Case F → List ℕ → Type 0 where
    literal_unique : {l : Literal} → CaseUnique bs (is_literal l) bs
    con_unique : {c : ℕ} → CaseUnique bs (is_con c) bs
    con_of_unique : {c : ℕ} {x : F.Binder} {t : F.Type_of} → IsOutside (number x) bs → CaseUnique bs (is_con_of c x t) (number x ∷ bs)
    exn_unique : {a : F.Use} → CaseUnique bs (is_exn a) bs
    exn_of_unique : {a : F.Use} {x : F.Binder} {t : F.Type_of} → IsOutside (number x) bs → CaseUnique bs (is_exn_of a x t) (number x ∷ bs)
    record_unique : {size : Option ℕ} → CaseUnique bs (is_record size) bs

  mutual
    pub data IsUnique : List ℕ → Exp F → Type 0 where
      ret_unique : {bs : List ℕ} {a : F.Use} → IsUnique bs (ret a)
      let_unique : {bs : List ℕ} {x : F.Binder} {ps : F.Params_of} {t : F.Type_of} {o : Op F} {e : Exp F} → IsOutside (number x) bs → OpUnique bs o
          → IsUnique (number x ∷ bs) e → IsUnique bs (let_in x ps t o e)
      exception_unique : {bs : List ℕ} {x : F.Binder} {i : ℕ} {t : Option F.Type_of} {e : Exp F} → IsOutside (number x) bs → IsUnique (number x ∷ bs) e
          → IsUnique bs (exception_in x i t e)
      name_unique : {bs : List ℕ} {x : F.Binder} {y : Exception F} {e : Exp F} → IsOutside (number x) bs → IsUnique (number x ∷ bs) e
          → IsUnique bs (name_in x y e)
      rec_unique : {bs : List ℕ} {ps : F.Params_of} {fs : Funs F} {e : Exp F} → AreNew bs fs → FunsUnique (funs_onto fs bs) fs → IsUnique (funs_onto fs bs) e
          → IsUnique bs (rec_in ps fs e)
      switch_unique : {bs : List ℕ} {a : F.Use} {t : F.Type_of} {arms : Arms F} → ArmsUnique bs arms → IsUnique bs (switch a t arms)
      first_unique : {bs : List ℕ} {e d : Exp F} → IsUnique bs e → IsUnique bs d → IsUnique bs (first e d)
      miss_unique : {bs : List ℕ} → IsUnique bs miss
      counted_unique : {bs : List ℕ} {n : ℕ} {e : Exp F} → IsUnique bs e → IsUnique bs (counted n e)

    pub data ArmsUnique : List ℕ → Arms F → Type 0 where
      no_arms_unique : {bs : List ℕ} → ArmsUnique bs no_arms
      arm_unique : {bs bs' : List ℕ} {c : Case F} {e : Exp F} {arms : Arms F} → CaseUnique bs c bs' → IsUnique bs' e → ArmsUnique bs arms
          → ArmsUnique bs (arm c e arms)

    pub data OpUnique : List ℕ → Op F → Type 0 where
      use_unique : {bs : List ℕ} {x : F.Use} → OpUnique bs (use_of x)
      const_unique : {bs : List ℕ} {l : Literal} → OpUnique bs (const l)
      con_alone_unique : {bs : List ℕ} {c : ℕ} {t : F.Type_of} → OpUnique bs (con_alone c t)
      construct_unique : {bs : List ℕ} {m : Option Place} {c : ℕ} {t : F.Type_of} {a : F.Use} → OpUnique bs (construct m c t a)
      ref_alone_unique : {bs : List ℕ} {t : F.Type_of} → OpUnique bs (ref_alone t)
      refer_unique : {bs : List ℕ} {m : Option Place} {t : F.Type_of} {a : F.Use} → OpUnique bs (refer m t a)
      content_unique : {bs : List ℕ} {t : F.Type_of} {a : F.Use} → OpUnique bs (content t a)
      pack_unique : {bs : List ℕ} {m : Option Place} {t : F.Type_of} {x a : F.Use} → OpUnique bs (pack m t x a)
      make_record_unique : {bs : List ℕ} {t : F.Type_of} {row : Row F} → OpUnique bs (make_record t row)
      select_unique : {bs : List ℕ} {t : F.Type_of} {l : Label} {a : F.Use} → OpUnique bs (select t l a)
      prim_alone_unique : {bs : List ℕ} {p : BasisPrimitive} {t : F.Type_of} → OpUnique bs (prim_alone p t)
      prim_unique : {bs : List ℕ} {m : Option Place} {p : BasisPrimitive} {t : F.Type_of} {as_ : Atoms F} → OpUnique bs (prim m p t as_)
      app_unique : {bs : List ℕ} {place : Place} {f a : F.Use} → OpUnique bs (app place f a)
      fn_unique : {bs : List ℕ} {f : Fun F} → FunUnique bs f → OpUnique bs (fn f)
      block_unique : {bs : List ℕ} {e : Exp F} → IsUnique bs e → OpUnique bs (block e)
      handle_unique : {bs : List ℕ} {e d : Exp F} {x : F.Binder} → IsUnique bs e → IsOutside (number x) bs → IsUnique (number x ∷ bs) d
          → OpUnique bs (handle e x d)
      raise_unique : {bs : List ℕ} {a : F.Use} → OpUnique bs (raise a)
      raise_initial_unique : {bs : List ℕ} {i : ℕ} → OpUnique bs (raise_initial i)

    pub data FunUnique : List ℕ → Fun F → Type 0 where
      last_unique : {bs : List ℕ} {x : F.Binder} {t : F.Type_of} {e : Exp F} → IsOutside (number x) bs → IsUnique (number x ∷ bs) e → FunUnique bs (last x t e)
      more_unique : {bs : List ℕ} {x : F.Binder} {t : F.Type_of} {f : Fun F} → IsOutside (number x) bs → FunUnique (number x ∷ bs) f → FunUnique bs (more x t f)

    pub data FunsUnique : List ℕ → Funs F → Type 0 where
      no_funs_unique : {bs : List ℕ} → FunsUnique bs no_funs
      fun_unique : {bs : List ℕ} {x : F.Binder} {t : F.Type_of} {f : Fun F} {fs : Funs F} → FunUnique bs f → FunsUnique bs fs → FunsUnique bs (fun x t f fs)
