-- The type variables of phrases that elaborate.
use Rattle.std.proofs.Common.{◌≡◌, ℕ, Bool, true, cond, List, [], ◌∷◌, ◌++◌, map, Option, Some, None, nat_eq, refl, ap, subst, ◌∙◌}
use Rattle.std.specs.Prelude.{flat_map}
use Rattle.std.specs.List.{AllByRecursion}
use Rattle.sml_tree.specs.BareTree as bare
use Rattle.sml_tree.specs.Phrases.{Phrase, TyvarAt, bind_list, has_scope, in_dec, in_decs, in_exp, in_exp_fields, in_ex_bind, in_pat, in_pat_fields, in_rules, in_some, in_ty, in_type_bind, in_data_bind, phrases_until, tyvars_at}
use Rattle.ty_core.specs.Types.{Typ, var}
use Rattle.ty_core.specs.Statics.{replace}
use Rattle.ty_basis.specs.Types.{Row}
use Rattle.core_rules.specs.Choices.{Choices}
use Rattle.core_rules.specs.Objects.{Map}
use Rattle.core_rules.specs.Scoping.{new_vars, unguarded_in}
use Rattle.core_rules.specs.Typing.{Bound}
use Rattle.core_rules.specs.Words.{is_in}
use Rattle.ir_poly.specs.Prog as prog
use Rattle.ir_poly.specs.TestsChecked.{Knowns}
use Rattle.ir_poly.specs.Types.{Constructor}
use Rattle.core_elab.specs.Scopes.{Scope}
use Rattle.elab_typed.specs.Contexts.{Around, KeptEnv, KeptValues, context_under}
use Rattle.elab_typed.specs.Elaborates.{Stands, StandsIf}
use Rattle.elab_typed.specs.Elaborates as e
use Rattle.elab_scoped.specs.Laws.{NoneIsNew}
use Rattle.elab_scoped.proofs.Types.{AreKnown, known-both, names_in, some-known, ty-known}

-- what is around has the same names whatever parameters stand for
same-names : (s : ℕ → Typ) (m : Map ℕ Typ) → names_in (map (λ (a : ℕ × Typ). (a.0, replace s a.1)) m) ≡ names_in m
same-names s [] = refl
same-names s (a ∷ m) = ap (λ l. a.0 ∷ l) (same-names s m)

stands-known : (A : Around) (ty : bare.Ty) (t : Typ) → Stands A ty t → AreKnown (names_in A.tyvars) (in_ty has_scope ty)
stands-known A ty t h = subst (λ ns. AreKnown ns (in_ty has_scope ty)) (same-names var A.tyvars) (ty-known (context_under var A) ty (replace var t) (h var))

if-known : (A : Around) (o : Option bare.Ty) (t : Typ) → StandsIf A o t → AreKnown (names_in A.tyvars) (in_some has_scope o)
if-known A None t h = tt
if-known A (Some ty) t h = stands-known A ty t h

-- bindings of types scope all that occur in them
types-known : (ns : List ℕ) (bs : List bare.TypeBind) → AreKnown ns (flat_map (in_type_bind has_scope) bs)
types-known ns [] = tt
types-known ns (b ∷ bs) = (tt, types-known ns bs)

datas-known : (ns : List ℕ) (bs : List bare.DataBind) → AreKnown ns (flat_map (in_data_bind has_scope) bs)
datas-known ns [] = tt
datas-known ns (b ∷ bs) = (tt, datas-known ns bs)

exns-known : (A : Around) {G H : Knowns} {k j : ℕ} {bs : List bare.ExBind} {ds : prog.Decs} {vs : KeptValues} {r : Scope} → e.ExnsElab A G k bs ds vs r j H
    → AreKnown (names_in A.tyvars) (flat_map (in_ex_bind has_scope) bs)
exns-known A e.no_exns_elab = tt
exns-known A (e.new_exn_elab p x n a {t = t} {bs = bs} le b o h) = (
  tt,
  known-both (names_in A.tyvars) (in_some has_scope t) (flat_map (in_ex_bind has_scope) bs)
      (subst (λ ns. AreKnown ns (in_some has_scope t)) (same-names var A.tyvars) (some-known (context_under var A) t _ (b var))) (exns-known A h),
)
exns-known A (e.same_exn_elab p x q v s d h) = (tt, exns-known A h)

module _ (table : List Constructor) where
  mutual
    pat-known : (A : Around) {k j : ℕ} {a : bare.Pat} {p : prog.Pat} {t : Typ} {vs : Bound} {c : Choices} {r : Scope} → e.PatElab table A k a p t vs c r j
        → AreKnown (names_in A.tyvars) (in_pat has_scope a)
    pat-known A (e.wild_elab p o) = (tt, tt)
    pat-known A (e.constant_elab p c) = (tt, tt)
    pat-known A (e.variable_elab p x n le b) = (tt, tt)
    pat-known A (e.alone_elab p k d a) = (tt, tt)
    pat-known A (e.built_elab p b ts g o) = (tt, tt)
    pat-known A (e.fields_elab p fs n) = (tt, pats-known A fs)
    pat-known A (e.open_elab p others fs d o) = (tt, pats-known A fs)
    pat-known A (e.con_elab p q k d b a) = (tt, pat-known A a)
    pat-known A (e.built_con_elab p b ts g s o a) = (tt, pat-known A a)
    pat-known A (e.typed_elab p {a = a} {ty = ty} {t = t} h s) =
        (tt, known-both (names_in A.tyvars) (in_pat has_scope a) (in_ty has_scope ty) (pat-known A h) (stands-known A ty t s))
    pat-known A (e.as_elab p x n {ty = ty} {a = a} {t = t} le b s h) =
        (tt, known-both (names_in A.tyvars) (in_some has_scope ty) (in_pat has_scope a) (if-known A ty t s) (pat-known A h))

    pats-known : (A : Around) {whole : Row} {k j : ℕ} {fs : bare.PatFields} {gs : prog.PatFields} {w : Row} {vs : Bound} {c : Choices} {r : Scope}
        → e.PatsElab table A whole k fs gs w vs c r j → AreKnown (names_in A.tyvars) (in_pat_fields has_scope fs)
    pats-known A e.no_pats_elab = tt
    pats-known A (e.a_pat_elab l {a = a} {fs = fs} f o h k) =
        known-both (names_in A.tyvars) (in_pat has_scope a) (in_pat_fields has_scope fs) (pat-known A h) (pats-known A k)

  parameter-known : (A : Around) {n : ℕ} {a : bare.Pat} {t : Typ} {vs : Bound} {r : Scope} → e.ParameterElab A n a t vs r → AreKnown (names_in A.tyvars) (in_pat has_scope a)
  parameter-known A (e.any_elab p o) = (tt, tt)
  parameter-known A (e.named_elab p x b) = (tt, tt)
  parameter-known A (e.annotated_elab p {a = a} {ty = ty} {t = t} h s) =
      (tt, known-both (names_in A.tyvars) (in_pat has_scope a) (in_ty has_scope ty) (parameter-known A h) (stands-known A ty t s))

  mutual
    exp-known : {A : Around} {k : ℕ} {x : bare.Exp} {y : prog.Exp} {t : Typ} {c : Choices} → e.ExpElab table A k x y t c → AreKnown (names_in A.tyvars) (in_exp has_scope x)
    exp-known (e.constant_exp_elab p c) = (tt, tt)
    exp-known (e.vid_elab p k d u) = (tt, tt)
    exp-known (e.built_exp_elab p b ts y us g h) = (tt, tt)
    exp-known (e.record_elab p fs o) = (tt, fields-known fs)
    exp-known {A = A} (e.let_elab p {ds = ds} {e = x} h k o) =
        (tt, known-both (names_in A.tyvars) (in_decs has_scope ds) (in_exp has_scope x) (decs-known h) (exp-known k))
    exp-known {A = A} (e.case_elab p q place {rs = rs} {a = a} h k o) =
        (tt, known-both (names_in A.tyvars) (in_exp has_scope (bare.fn q rs)) (in_exp has_scope a) (tt, rules-known h) (exp-known k))
    exp-known {A = A} (e.app_elab p {f = f} {a = a} i h k) = (tt, known-both (names_in A.tyvars) (in_exp has_scope f) (in_exp has_scope a) (exp-known h) (exp-known k))
    exp-known (e.chain_elab b h) = chain-known h
    exp-known {A = A} (e.typed_exp_elab p {e = x} {ty = ty} {t = t} h s) =
        (tt, known-both (names_in A.tyvars) (in_exp has_scope x) (in_ty has_scope ty) (exp-known h) (stands-known A ty t s))
    exp-known {A = A} (e.handle_elab p {e = x} {rs = rs} h k) = (tt, known-both (names_in A.tyvars) (in_exp has_scope x) (in_rules has_scope rs) (exp-known h) (rules-known k))
    exp-known (e.raise_elab p h o) = (tt, exp-known h)
    exp-known (e.fn_elab p h) = (tt, fun-known h)
    exp-known (e.counted_elab n h) = exp-known h

    fields-known : {A : Around} {k : ℕ} {fs : bare.ExpFields} {gs : prog.Fields} {r : Row} {c : Choices} → e.FieldsElab table A k fs gs r c
        → AreKnown (names_in A.tyvars) (in_exp_fields has_scope fs)
    fields-known e.no_fields_elab = tt
    fields-known {A = A} (e.a_field_elab l {e = x} {fs = fs} h k) = known-both (names_in A.tyvars) (in_exp has_scope x) (in_exp_fields has_scope fs) (exp-known h) (fields-known k)

    chain-known : {A : Around} {k : ℕ} {b : Bool} {x : bare.Exp} {y : prog.Chain} {c : Choices} → e.ChainElab table A k b x y c → AreKnown (names_in A.tyvars) (in_exp has_scope x)
    chain-known (e.only_elab b h) = exp-known h
    chain-known {A = A} (e.and_elab p {a = a} {e = x} o h k) =
        let inside = known-both (names_in A.tyvars) (in_exp has_scope x) _ (chain-known k) (tt, (tt, (tt, tt))) in
        (tt, (tt, (tt, (tt, known-both (names_in A.tyvars) _ (in_exp has_scope a) inside (exp-known h)))))
    chain-known {A = A} (e.or_elab p {a = a} {e = x} o h k) =
        (tt, (tt, (tt, (tt, (tt, (tt, (tt, known-both (names_in A.tyvars) _ (in_exp has_scope a) (known-both (names_in A.tyvars) (in_exp has_scope x) [] (chain-known k) tt) (exp-known h))))))))

    rules-known : {A : Around} {k : ℕ} {rs : bare.Rules} {xs : prog.Rules} {t u : Typ} {c : Choices} → e.RulesElab table A k rs xs t u c → AreKnown (names_in A.tyvars) (in_rules has_scope rs)
    rules-known e.no_rules_elab = tt
    rules-known {A = A} (e.a_rule_elab p {a = a} {e = x} {rs = rs} f o h k) = (
      tt,
      known-both (names_in A.tyvars) (in_pat has_scope a ++ in_exp has_scope x) (in_rules has_scope rs)
          (known-both (names_in A.tyvars) (in_pat has_scope a) (in_exp has_scope x) (pat-known A f) (exp-known h)) (rules-known k),
    )

    fun-known : {A : Around} {k : ℕ} {rs : bare.Rules} {f : prog.Fun} {t u : Typ} {c : Choices} → e.FunElab table A k rs f t u c → AreKnown (names_in A.tyvars) (in_rules has_scope rs)
    fun-known (e.by_rules_elab place o h) = rules-known h
    fun-known {A = A} (e.last_elab p n {a = a} {e = x} le o f h) = (
      tt,
      known-both (names_in A.tyvars) (in_pat has_scope a ++ in_exp has_scope x) []
          (known-both (names_in A.tyvars) (in_pat has_scope a) (in_exp has_scope x) (parameter-known A f) (exp-known h)) tt,
    )
    fun-known {A = A} (e.more_elab p q n {a = a} {rs = rs} le o f h) = (
      tt,
      known-both (names_in A.tyvars) (in_pat has_scope a ++ in_exp has_scope (bare.fn q rs)) []
          (known-both (names_in A.tyvars) (in_pat has_scope a) (in_exp has_scope (bare.fn q rs)) (parameter-known A f) (tt, fun-known h)) tt,
    )

    decs-known : {A : Around} {k : ℕ} {ds : bare.Decs} {xs : prog.Decs} {n : ℕ} {number : ℕ → ℕ} {d : KeptEnv} {r : Scope} {G : Knowns} {c : Choices} {j : ℕ}
        → e.DecsElab table A k ds xs n number d r G c j → AreKnown (names_in A.tyvars) (in_decs has_scope ds)
    decs-known e.no_decs_elab = tt
    decs-known {A = A} (e.a_dec_elab {d = d} {ds = ds} h k) = known-both (names_in A.tyvars) (in_dec has_scope d) (in_decs has_scope ds) (dec-known h) (decs-known k)
    decs-known (e.counted_decs_elab m h) = decs-known h

    dec-known : {A : Around} {k : ℕ} {d : bare.Dec} {xs : prog.Decs} {n : ℕ} {number : ℕ → ℕ} {v : KeptEnv} {r : Scope} {G : Knowns} {c : Choices} {j : ℕ}
        → e.DecElab table A k d xs n number v r G c j → AreKnown (names_in A.tyvars) (in_dec has_scope d)
    dec-known (e.val_elab p q qs extra a b c d f h i j) = (tt, tt)
    dec-known {A = A} (e.type_elab p {bs = bs} h) = (tt, types-known (names_in A.tyvars) bs)
    dec-known {A = A} (e.datatype_elab p {bs = bs} qs number a b c d f g h) = (tt, datas-known (names_in A.tyvars) bs)
    dec-known (e.replicate_elab p x v d) = (tt, tt)
    dec-known {A = A} (e.exception_elab p h) = (tt, exns-known A h)
    dec-known {A = A} (e.local_elab p {ds = ds} {es = es} h k) = (tt, known-both (names_in A.tyvars) (in_decs has_scope ds) (in_decs has_scope es) (decs-known h) (decs-known k))
    dec-known (e.open_dec_elab p h k) = (tt, tt)
    dec-known (e.sequence_elab p h) = (tt, decs-known h)
    dec-known (e.counted_dec_elab m h) = dec-known h

  binds-known : (A : Around) {h k j : ℕ} {bs : bare.Binds} {xs : prog.Binds} {vs : List Bound} {c : Choices} {r : Scope} → e.BindsElab table A A h k bs xs vs c r j
      → AreKnown (names_in A.tyvars) (flat_map (phrases_until has_scope) (bind_list bs))
  binds-known A e.no_binds_elab = tt
  binds-known A (e.general_elab p place {a = a} {e = x} {bs = bs} f g n v o h) = (
    tt,
    known-both (names_in A.tyvars) (in_pat has_scope a ++ in_exp has_scope x) (flat_map (phrases_until has_scope) (bind_list bs))
        (known-both (names_in A.tyvars) (in_pat has_scope a) (in_exp has_scope x) (pat-known A f) (exp-known g)) (binds-known A h),
  )
  binds-known A (e.plain_elab p place {a = a} {e = x} {bs = bs} f g l o h) = (
    tt,
    known-both (names_in A.tyvars) (in_pat has_scope a ++ in_exp has_scope x) (flat_map (phrases_until has_scope) (bind_list bs))
        (known-both (names_in A.tyvars) (in_pat has_scope a) (in_exp has_scope x) (pat-known _ f) (exp-known g)) (binds-known A h),
  )

-- so none is new

all-both : (ns : List ℕ) (xs ys : List TyvarAt) → AllByRecursion (λ a. is_in nat_eq a.tyvar.name ns ≡ true) xs → AllByRecursion (λ a. is_in nat_eq a.tyvar.name ns ≡ true) ys
    → AllByRecursion (λ a. is_in nat_eq a.tyvar.name ns ≡ true) (xs ++ ys)
all-both ns [] ys h k = k
all-both ns (x ∷ xs) ys h k = (h.0, all-both ns xs ys h.1 k)

all-known : (ns : List ℕ) (xs : List Phrase) → AreKnown ns xs → AllByRecursion (λ a. is_in nat_eq a.tyvar.name ns ≡ true) (flat_map tyvars_at xs)
all-known ns [] h = tt
all-known ns (x ∷ xs) h = all-both ns (tyvars_at x) (flat_map tyvars_at xs) h.0 (all-known ns xs h.1)

none-new : (ns : List ℕ) (as_ : List TyvarAt) → AllByRecursion (λ a. is_in nat_eq a.tyvar.name ns ≡ true) as_ → new_vars ns (map (λ a. a.tyvar) as_) ≡ []
none-new ns [] h = refl
none-new ns (a ∷ as_) h = ap (λ b. cond b (new_vars ns (map (λ a. a.tyvar) as_)) (a.tyvar ∷ new_vars (a.tyvar.name ∷ ns) (map (λ a. a.tyvar) as_))) h.0 ∙ none-new ns as_ h.1

append-nil : {A : Type 0} (xs : List A) → xs ++ [] ≡ xs
append-nil [] = refl
append-nil (x ∷ xs) = ap (λ l. x ∷ l) (append-nil xs)

pub none_is_new : NoneIsNew
none_is_new table A h k j bs xs vs c r b =
    let ns = names_in A.tyvars in
    ap (λ (ms : List ℕ). new_vars (ms ++ []) (unguarded_in bs ++ [])) (same-names var A.tyvars)
    ∙ ap (λ (ms : List ℕ). new_vars ms (unguarded_in bs ++ [])) (append-nil ns) ∙ ap (new_vars ns) (append-nil (unguarded_in bs))
    ∙ none-new ns (flat_map tyvars_at (flat_map (phrases_until has_scope) (bind_list bs))) (all-known ns (flat_map (phrases_until has_scope) (bind_list bs)) (binds-known table A b))
