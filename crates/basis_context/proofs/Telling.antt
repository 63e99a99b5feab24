-- The context of the initial basis tells of it.
use Rattle.std.proofs.Common.{◌≡◌, ◌⊎◌, inl, inr, ◌<◌, ◌≤◌, ℕ, zero, suc, true, List, [], ◌∷◌, ◌++◌, map, length, nat_lt, Option, Some, None, slice_get, refl, sym, ap, ap₂, subst, ◌∙◌, arith}
use Rattle.std.specs.Prelude.{option_map}
use Rattle.std.proofs.lemmas.Bool.{lt-ltb}
use Rattle.ty_core.specs.Types.{Typ, var, con, name, more, none}
use Rattle.ty_core.specs.Statics.{variables}
use Rattle.ty_core.specs.declared.mark.Mark.TheVariants.{Any}
use Rattle.ty_core.specs.declared.name.TyName.{TyName}
use Rattle.ty_core.specs.declared.env.Status.TheVariants as status
use Rattle.ty_basis.specs.Types.{bool_name, list_name, list_type, pair_type, exn_type}
use Rattle.ty_basis.specs.Primitives.{prim_type, primitive_type}
use Rattle.mlc_prims.specs.declared.basis.BasisPrimitive.{BasisPrimitive}
use Rattle.mlc_prims.specs.declared.basis.BasisPrimitive.TheVariants as prim
use Rattle.sml_tree.specs.declared.ident.BuiltIn.{BuiltIn}
use Rattle.sml_tree.specs.declared.ident.BuiltIn.TheVariants.{True, False, Nil, Cons}
use Rattle.sml_tree.specs.declared.ident.Vid.TheVariants.{Named}
use Rattle.core_rules.specs.Objects.{Scheme, Over, monomorphic}
use Rattle.core_rules.specs.Typing.{all_general}
use Rattle.core_rules.specs.Initial.{Entry as Row, entries, hidden, integers, ref_row}
use Rattle.ir_poly.specs.Types.{constructor_of, find, initial_constructors}
use Rattle.ir_poly.specs.TestsChecked.{alone_type}
use Rattle.initial_types.specs.Schemes.{schemes_in}
use Rattle.core_elab.specs.Scopes.{built_number, denotes_of as row_denotes}
use Rattle.elab_typed.specs.Contexts.{Around, given}
use Rattle.elab_typed.specs.Numbers.{name_as, type_as}
use Rattle.elab_steps.specs.World.{World}
use Rattle.elab_context.specs.Telling.{denotes_of, scheme_at, scheme_of}
use Rattle.elab_context.specs.declared.context.Context.{Context}
use Rattle.elab_context.specs.declared.entry.Scheme as code
use Rattle.basis_context.specs.Basis.{entry_at, row_list, integer_list, hidden_list, vid_at}
use Rattle.basis_context.specs.Telling.{HasInitial}
use Rattle.basis_context.specs.declared.rows.Kind.TheVariants.{Reference, Constructor, Exception, Primitive}
use Rattle.basis_context.proofs.Agreeing.{IsRow, AreRows}

-- names of the basis have their own numbers in every world
module _ (C : Context) (W : World) (names : C.names ≡ 8) (naming : C.naming ≡ None) where
  own-name : (y : TyName) → name_as (W.naming C.naming) y ≡ y
  own-name y = ap (λ k. record y { stamp = k }) (ap (λ (o : Option ℕ). W.naming o y.stamp) naming ∙ W.initial y.stamp)

  names-over : (n : ℕ) → n < 8 → nat_lt n C.names ≡ true
  names-over n lt = lt-ltb n C.names (omega (arith, lt, names))

  -- rows of each kind
  reference-row : (A : Around) (s : ℕ) → scheme_at C W s ≡ ref_row.scheme → IsRow C W A ref_row (Some 7) Reference s
  reference-row A s e = record {
    vid = refl;
    kept = ap (λ z. given (record { scheme = z; status = status.Constructor })) e;
    denotes = refl;
    fit = e;
    unknown = refl;
  }

  exception-row : (A : Around) (r : Row) (w n s : ℕ) → r.vid ≡ Named w → r.scheme ≡ monomorphic exn_type → r.status ≡ status.Exception → row_denotes r.value ≡ denotes_of (entry_at (Exception n) s)
      → nat_lt n 7 ≡ true → scheme_at C W s ≡ r.scheme → IsRow C W A r (Some w) (Exception n) s
  exception-row A r w n s v es et ed lt e = record {
    vid = v;
    kept = ap₂ (λ z t. given (record { scheme = z; status = t })) e (sym et);
    denotes = sym ed;
    fit = (e ∙ es, lt);
    unknown = refl;
  }

  primitive-row : (A : Around) (r : Row) (w : Option ℕ) (q : BasisPrimitive) (s : ℕ) → r.vid ≡ vid_at w → r.status ≡ status.Variable → row_denotes r.value ≡ denotes_of (entry_at (Primitive q) s)
      → r.scheme.body ≡ primitive_type q → (r.scheme.marks ≡ (prim_type q).mark ∷ []) ⊎ ((r.scheme.marks ≡ []) × ((prim_type q).mark ≡ Any)) → scheme_at C W s ≡ r.scheme
      → IsRow C W A r w (Primitive q) s
  primitive-row A r w q s v et ed eb em e = record {
    vid = v;
    kept = ap₂ (λ z t. given (record { scheme = z; status = t })) e (sym et);
    denotes = sym ed;
    fit = record {
      body = ap (λ (z : Scheme). z.body) e ∙ eb;
      marks = subst (λ (z : Scheme). (z.marks ≡ (prim_type q).mark ∷ []) ⊎ ((z.marks ≡ []) × ((prim_type q).mark ≡ Any))) (sym e) em;
    };
    unknown = refl;
  }

  constructor-row : (A : Around) (r : Row) (w : ℕ) (b : BuiltIn) (y : TyName) (s : ℕ) (o : Option Typ) → HasInitial W → r.vid ≡ Named w → r.status ≡ status.Constructor
      → row_denotes r.value ≡ denotes_of (entry_at (Constructor b y) s) → all_general r.scheme.marks ≡ true
      → r.scheme.body ≡ alone_type o (con (name y) (variables 0 (length r.scheme.marks))) → Over 8 r.scheme.body → find initial_constructors y (built_number b) ≡ Some (constructor_of y (built_number b) o)
      → option_map (type_as (W.naming C.naming)) o ≡ o → scheme_at C W s ≡ r.scheme → IsRow C W A r (Some w) (Constructor b y) s
  constructor-row A r w b y s o has v et ed g eb ov f eo e = record {
    vid = v;
    kept = ap₂ (λ z t. given (record { scheme = z; status = t })) e (sym et);
    denotes = sym ed;
    fit = record {
      argument = o;
      general = subst (λ (z : Scheme). all_general z.marks ≡ true) (sym e) g;
      body = subst (λ (z : Scheme). z.body ≡ alone_type o (con (name y) (variables 0 (length z.marks)))) (sym e) eb;
      names = subst (λ (z : Scheme). Over C.names z.body) (sym e) (subst (λ k. Over k r.scheme.body) (sym names) ov);
      row =
          subst (λ z. find W.table z (built_number b) ≡ Some (constructor_of z (built_number b) (option_map (type_as (W.naming C.naming)) o))) (sym (own-name y))
          (has y (built_number b) (constructor_of y (built_number b) o) f ∙ ap (λ z. Some (constructor_of y (built_number b) z)) (sym eo));
    };
    unknown = refl;
  }

-- schemes by number

nth-scheme : (W : World) (ks : List code.Scheme) (k : ℕ) (v : Scheme) → slice_get (map (λ s. scheme_of W (Some s)) ks) k ≡ Some v → scheme_of W (slice_get ks k) ≡ v
nth-scheme W [] k v e = cc
nth-scheme W (s ∷ ks) zero v e = cc
nth-scheme W (s ∷ ks) (suc k) v e = nth-scheme W ks k v e

-- all rows
module _ (C : Context) (W : World) (names : C.names ≡ 8) (naming : C.naming ≡ None) (has : HasInitial W) (are : map (λ s. scheme_of W (Some s)) C.schemes.items ≡ schemes_in entries ++ (schemes_in integers ++ schemes_in hidden)) where
  at-row : (k : ℕ) (v : Scheme) → slice_get (schemes_in entries ++ (schemes_in integers ++ schemes_in hidden)) k ≡ Some v → scheme_at C W k ≡ v
  at-row k v e = nth-scheme W C.schemes.items k v (ap (λ l. slice_get l k) are ∙ e)

  list-over : (n : ℕ) → 8 ≤ n → Over n (list_type (var 0))
  list-over n le = (lt-ltb 7 n (omega (arith, le)), (tt, tt))

  kept-cons : option_map (type_as (W.naming C.naming)) (Some (pair_type (var 0) (list_type (var 0)))) ≡ Some (pair_type (var 0) (list_type (var 0)))
  kept-cons = ap (λ y. Some (pair_type (var 0) (con (name y) (more (var 0) none)))) (own-name C W names naming list_name)

  module _ (A : Around) where
    pub value-rows : AreRows C W A entries row_list 0
    value-rows = (
      reference-row C W names naming A 0 (at-row 0 ref_row.scheme refl),
      (
        constructor-row C W names naming A _ 11 True bool_name 1 None has refl refl refl refl refl (refl, tt) refl refl (at-row 1 _ refl),
        (
          constructor-row C W names naming A _ 12 False bool_name 2 None has refl refl refl refl refl (refl, tt) refl refl (at-row 2 _ refl),
          (
            constructor-row C W names naming A _ 13 Nil list_name 3 None has refl refl refl refl refl (list-over 8 (omega arith)) refl refl (at-row 3 _ refl),
            (
              constructor-row C W names naming A _ 14 Cons list_name 4 (Some (pair_type (var 0) (list_type (var 0)))) has refl refl refl refl refl
                  (tt, ((tt, (tt, (list-over 8 (omega arith), tt))), (list-over 8 (omega arith), tt))) refl kept-cons (at-row 4 _ refl),
              (
                exception-row C W names naming A _ 20 0 5 refl refl refl refl refl (at-row 5 _ refl),
                (
                  exception-row C W names naming A _ 21 1 6 refl refl refl refl refl (at-row 6 _ refl),
                  (
                    exception-row C W names naming A _ 22 2 7 refl refl refl refl refl (at-row 7 _ refl),
                    (
                      exception-row C W names naming A _ 23 3 8 refl refl refl refl refl (at-row 8 _ refl),
                      (
                        exception-row C W names naming A _ 24 4 9 refl refl refl refl refl (at-row 9 _ refl),
                        (
                          exception-row C W names naming A _ 25 5 10 refl refl refl refl refl (at-row 10 _ refl),
                          (
                            exception-row C W names naming A _ 26 6 11 refl refl refl refl refl (at-row 11 _ refl),
                            (
                              primitive-row C W names naming A _ (Some 31) prim.Add 12 refl refl refl refl (inl refl) (at-row 12 _ refl),
                              (
                                primitive-row C W names naming A _ (Some 32) prim.Subtract 13 refl refl refl refl (inl refl) (at-row 13 _ refl),
                                (
                                  primitive-row C W names naming A _ (Some 33) prim.Multiply 14 refl refl refl refl (inl refl) (at-row 14 _ refl),
                                  (
                                    primitive-row C W names naming A _ (Some 34) prim.Divide 15 refl refl refl refl (inl refl) (at-row 15 _ refl),
                                    (
                                      primitive-row C W names naming A _ (Some 35) prim.Modulo 16 refl refl refl refl (inl refl) (at-row 16 _ refl),
                                      (
                                        primitive-row C W names naming A _ (Some 36) prim.Negate 17 refl refl refl refl (inl refl) (at-row 17 _ refl),
                                        (
                                          primitive-row C W names naming A _ (Some 37) prim.Absolute 18 refl refl refl refl (inr (refl, refl)) (at-row 18 _ refl),
                                          (
                                            primitive-row C W names naming A _ (Some 38) prim.Less 19 refl refl refl refl (inl refl) (at-row 19 _ refl),
                                            (
                                              primitive-row C W names naming A _ (Some 39) prim.LessEqual 20 refl refl refl refl (inl refl) (at-row 20 _ refl),
                                              (
                                                primitive-row C W names naming A _ (Some 40) prim.Greater 21 refl refl refl refl (inl refl) (at-row 21 _ refl),
                                                (
                                                  primitive-row C W names naming A _ (Some 41) prim.GreaterEqual 22 refl refl refl refl (inl refl) (at-row 22 _ refl),
                                                  (
                                                    primitive-row C W names naming A _ None prim.Equals 23 refl refl refl refl (inl refl) (at-row 23 _ refl),
                                                    (
                                                      primitive-row C W names naming A _ (Some 42) prim.Assign 24 refl refl refl refl (inl refl) (at-row 24 _ refl),
                                                      tt,
                                                    ),
                                                  ),
                                                ),
                                              ),
                                            ),
                                          ),
                                        ),
                                      ),
                                    ),
                                  ),
                                ),
                              ),
                            ),
                          ),
                        ),
                      ),
                    ),
                  ),
                ),
              ),
            ),
          ),
        ),
      ),
    )

    pub integer-rows : AreRows C W A integers integer_list 25
    integer-rows = (
      primitive-row C W names naming A _ (Some 96) prim.TextOf 25 refl refl refl refl (inr (refl, refl)) (at-row 25 _ refl),
      (
        primitive-row C W names naming A _ (Some 50) prim.Quotient 26 refl refl refl refl (inr (refl, refl)) (at-row 26 _ refl),
        (
          primitive-row C W names naming A _ (Some 51) prim.Remainder 27 refl refl refl refl (inr (refl, refl)) (at-row 27 _ refl),
          tt,
        ),
      ),
    )

    pub hidden-rows : AreRows C W A hidden hidden_list 28
    hidden-rows = (
      primitive-row C W names naming A _ (Some 50) prim.Quotient 28 refl refl refl refl (inr (refl, refl)) (at-row 28 _ refl),
      (
        primitive-row C W names naming A _ (Some 51) prim.Remainder 29 refl refl refl refl (inr (refl, refl)) (at-row 29 _ refl),
        (
          primitive-row C W names naming A _ (Some 52) prim.BitsAnd 30 refl refl refl refl (inr (refl, refl)) (at-row 30 _ refl),
          (
            primitive-row C W names naming A _ (Some 53) prim.BitsOr 31 refl refl refl refl (inr (refl, refl)) (at-row 31 _ refl),
            (
              primitive-row C W names naming A _ (Some 54) prim.BitsXor 32 refl refl refl refl (inr (refl, refl)) (at-row 32 _ refl),
              (
                primitive-row C W names naming A _ (Some 55) prim.BitsNot 33 refl refl refl refl (inr (refl, refl)) (at-row 33 _ refl),
                (
                  primitive-row C W names naming A _ (Some 56) prim.ShiftLeft 34 refl refl refl refl (inr (refl, refl)) (at-row 34 _ refl),
                  (
                    primitive-row C W names naming A _ (Some 57) prim.ShiftRight 35 refl refl refl refl (inr (refl, refl)) (at-row 35 _ refl),
                    (
                      primitive-row C W names naming A _ (Some 58) prim.ShiftSigned 36 refl refl refl refl (inr (refl, refl)) (at-row 36 _ refl),
                      (
                        primitive-row C W names naming A _ (Some 59) prim.ToInt 37 refl refl refl refl (inr (refl, refl)) (at-row 37 _ refl),
                        (
                          primitive-row C W names naming A _ (Some 60) prim.ToIntSigned 38 refl refl refl refl (inr (refl, refl)) (at-row 38 _ refl),
                          (
                            primitive-row C W names naming A _ (Some 61) prim.FromInt 39 refl refl refl refl (inr (refl, refl)) (at-row 39 _ refl),
                            (
                              primitive-row C W names naming A _ (Some 62) prim.CharCode 40 refl refl refl refl (inr (refl, refl)) (at-row 40 _ refl),
                              (
                                primitive-row C W names naming A _ (Some 63) prim.CharOf 41 refl refl refl refl (inr (refl, refl)) (at-row 41 _ refl),
                                (
                                  primitive-row C W names naming A _ (Some 64) prim.TextOf 42 refl refl refl refl (inr (refl, refl)) (at-row 42 _ refl),
                                  (
                                    primitive-row C W names naming A _ (Some 65) prim.SizeOf 43 refl refl refl refl (inr (refl, refl)) (at-row 43 _ refl),
                                    (
                                      primitive-row C W names naming A _ (Some 66) prim.CharAt 44 refl refl refl refl (inr (refl, refl)) (at-row 44 _ refl),
                                      (
                                        primitive-row C W names naming A _ (Some 67) prim.PartOf 45 refl refl refl refl (inr (refl, refl)) (at-row 45 _ refl),
                                        (
                                          primitive-row C W names naming A _ (Some 68) prim.Concat 46 refl refl refl refl (inr (refl, refl)) (at-row 46 _ refl),
                                          (
                                            primitive-row C W names naming A _ (Some 69) prim.StringOf 47 refl refl refl refl (inr (refl, refl)) (at-row 47 _ refl),
                                            (
                                              primitive-row C W names naming A _ (Some 70) prim.Print 48 refl refl refl refl (inr (refl, refl)) (at-row 48 _ refl),
                                              tt,
                                            ),
                                          ),
                                        ),
                                      ),
                                    ),
                                  ),
                                ),
                              ),
                            ),
                          ),
                        ),
                      ),
                    ),
                  ),
                ),
              ),
            ),
          ),
        ),
      ),
    )
