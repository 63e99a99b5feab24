-- Arguments of constructors, read one after the other while the table grows.
use Rattle.std.proofs.Common.{◌≡◌, ◌<◌, ◌+◌, ◌&&◌, ℕ, suc, true, List, [], ◌∷◌, ◌++◌, length, map, take, get_or, Option, Some, None, nat_eq, refl, sym, ap, ap₂, subst, ◌∙◌, arith}
use Rattle.std.specs.Prelude.{option_map}
use Rattle.std.specs.List.{list_all}
use Rattle.std.specs.Map.{lookup}
use Rattle.std.proofs.lemmas.Bool.{and_parts}
use Rattle.std.proofs.lemmas.List.{map-append}
use Rattle.std.proofs.Math.Seq.{take-suc}
use Rattle.ty_core.specs.Types.{Typ}
use Rattle.ty_table.specs.TypeAt.{type_at}
use Rattle.ty_solve.specs.Substitution.{is_below}
use Rattle.ty_solve.proofs.Holding.{type-stays}
use Rattle.ty_instance.proofs.Going.{longer, whole}
use Rattle.sml_tree.specs.declared.ident.Tyvar.{Tyvar}
use Rattle.sml_tree.specs.BareTree.{ConBind, DataBind, Ty}
use Rattle.core_rules.specs.Objects.{Context}
use Rattle.core_rules.specs.Restrictions.{no_repetition}
use Rattle.elab_types.specs.Reading.{Holds, function_in}
use Rattle.elab_types.specs.declared.scope.TypeEntry.{TypeEntry}
use Rattle.elab_types.specs.declared.scope.TypeScope.{TypeScope}
use Rattle.elab_types.proofs.Holding.{body-held}
use Rattle.elab_state.specs.States.{types_in}
use Rattle.elab_state.specs.declared.state.State.{State}
use Rattle.elab_steps.specs.Growing.{Begins}
use Rattle.closed_types.specs.Parameters.{IsClosedType, ReadsTypes}
use Rattle.elab_state.specs.Readings.{IsHeldArgument}
use Rattle.datatype_forms.specs.Arguments.{AreArguments, AreBehind, AreRowsOf, BelowIf, RowBelow, RowHeld, RowsBelow, row_at, rows_at}
use Rattle.datatype_forms.specs.Reading.{AreArgumentTypes, AreRead, AreRows, IsArgumentType}
use Rattle.datatype_forms.specs.Steps.{IsStep}
use Rattle.datatype_forms.proofs.Stepping.{step_on, step_same}

pub taken_next : {A B : Type 0} (f : A → B) (xs : List A) (i : ℕ) (x : A) → i < length xs → x ≡ get_or xs i x → map f (take i xs) ++ f x ∷ [] ≡ map f (take (i + 1) xs)
taken_next f xs i x lt e =
    let up : suc i ≡ i + 1 = omega arith in
    sym (map-append f (take i xs) (x ∷ [])) ∙ ap (map f) (ap (λ z. take i xs ++ z ∷ []) e ∙ sym (take-suc xs i x lt) ∙ ap (λ j. take j xs) up)

pub taken_at : {A B : Type 0} (f : A → B) (xs : List A) (i : ℕ) (d : A) → i < length xs → map f (take i xs) ++ f (get_or xs i d) ∷ [] ≡ map f (take (i + 1) xs)
taken_at f xs i d lt =
    let up : suc i ≡ i + 1 = omega arith in sym (map-append f (take i xs) (get_or xs i d ∷ [])) ∙ ap (map f) (sym (take-suc xs i d lt) ∙ ap (λ j. take j xs) up)

pub reads_later : (ts us : List Typ) (s : TypeScope) (c : Context) → Holds ts s → Begins ts us → ReadsTypes ts s c → ReadsTypes us s c
reads_later ts us s c h b r [] x = r [] x ∙ by (lookup (nat_eq x) s.types) refl
  where
    by : (o : Option TypeEntry) → lookup (nat_eq x) s.types ≡ o → option_map (function_in ts) o ≡ option_map (function_in us) o
    by None q = refl
    by (Some n) q = ap (λ (t : Typ). Some (record { arity = n.arity; body = t })) (sym (type-stays ts us n.body b (body-held ts s h x n q)))
reads_later ts us s c h b r (q ∷ qs) x = r (q ∷ qs) x

pub closed_moved : (old mid new late : List Typ) (s : TypeScope) (as_ : List Tyvar) (ty : Ty) (k : ℕ) → Holds old s → Begins old mid → Begins new late → IsClosedType mid new s as_ ty k
    → IsClosedType old late s as_ ty k
closed_moved old mid new late s as_ ty k h b e i =
    let same = type-stays new late k e i.held in
    record {
      held = let le = longer new late e in let lt = i.held in omega (arith, le, lt);
      below = subst (λ t. is_below (length as_) t ≡ true) (sym same) i.below;
      is = λ c r. i.is c (reads_later old mid s c h b r) ∙ ap Some (sym same);
    }

one-moved : (old mid new late : List Typ) (s : TypeScope) (as_ : List Tyvar) (o : Option Ty) (k : Option ℕ) → Holds old s → Begins old mid → Begins new late → IsArgumentType mid new s as_ o k
    → IsArgumentType old late s as_ o k
one-moved old mid new late s as_ None None h b e i = tt
one-moved old mid new late s as_ None (Some k) h b e i = i
one-moved old mid new late s as_ (Some ty) None h b e i = i
one-moved old mid new late s as_ (Some ty) (Some k) h b e i = closed_moved old mid new late s as_ ty k h b e i

row-moved : (old mid new late : List Typ) (s : TypeScope) (as_ : List Tyvar) (bs : List ConBind) (ks : List (Option ℕ)) → Holds old s → Begins old mid → Begins new late
    → AreArgumentTypes mid new s as_ bs ks → AreArgumentTypes old late s as_ bs ks
row-moved old mid new late s as_ [] [] h b e i = tt
row-moved old mid new late s as_ [] (k ∷ ks) h b e i = i
row-moved old mid new late s as_ (c ∷ bs) [] h b e i = i
row-moved old mid new late s as_ (c ∷ bs) (k ∷ ks) h b e i = (one-moved old mid new late s as_ c.of_ty k h b e i.0, row-moved old mid new late s as_ bs ks h b e i.1)

row-snoc : (old new : List Typ) (s : TypeScope) (as_ : List Tyvar) (bs : List ConBind) (ks : List (Option ℕ)) (b : ConBind) (k : Option ℕ) → AreArgumentTypes old new s as_ bs ks
    → IsArgumentType old new s as_ b.of_ty k → AreArgumentTypes old new s as_ (bs ++ b ∷ []) (ks ++ k ∷ [])
row-snoc old new s as_ [] [] b k h i = (i, tt)
row-snoc old new s as_ [] (j ∷ ks) b k h i = absurd h
row-snoc old new s as_ (c ∷ bs) [] b k h i = absurd h
row-snoc old new s as_ (c ∷ bs) (j ∷ ks) b k h i = (h.0, row-snoc old new s as_ bs ks b k h.1 i)

pub row_next : (old mid new : List Typ) (s : TypeScope) (as_ : List Tyvar) (bs cs : List ConBind) (ks js : List (Option ℕ)) (b : ConBind) (k : Option ℕ) → Holds old s → Begins old mid → Begins mid new
    → AreArgumentTypes old mid s as_ bs ks → IsArgumentType mid new s as_ b.of_ty k → bs ++ b ∷ [] ≡ cs → js ≡ ks ++ k ∷ [] → AreArgumentTypes old new s as_ cs js
row_next old mid new s as_ bs cs ks js b k h g e a i p q =
    subst (λ z. AreArgumentTypes old new s as_ z js) p (subst (AreArgumentTypes old new s as_ (bs ++ b ∷ [])) (sym q)
    (row-snoc old new s as_ bs ks b k (row-moved old old mid new s as_ bs ks h (whole old) e a) (one-moved old mid new new s as_ b.of_ty k h g (whole new) i)))

rows-moved : (old new late : List Typ) (s : TypeScope) (bs : List DataBind) (kss : List (List (Option ℕ))) → Holds old s → Begins new late → AreRows old new s bs kss → AreRows old late s bs kss
rows-moved old new late s [] [] h e i = tt
rows-moved old new late s [] (ks ∷ kss) h e i = i
rows-moved old new late s (b ∷ bs) [] h e i = i
rows-moved old new late s (b ∷ bs) (ks ∷ kss) h e i = (row-moved old old new late s b.tyvars b.cons ks h (whole old) e i.0, rows-moved old new late s bs kss h e i.1)

rows-snoc : (old new : List Typ) (s : TypeScope) (bs : List DataBind) (kss : List (List (Option ℕ))) (b : DataBind) (ks : List (Option ℕ)) → AreRows old new s bs kss
    → AreArgumentTypes old new s b.tyvars b.cons ks → AreRows old new s (bs ++ b ∷ []) (kss ++ ks ∷ [])
rows-snoc old new s [] [] b ks h i = (i, tt)
rows-snoc old new s [] (js ∷ kss) b ks h i = absurd h
rows-snoc old new s (c ∷ bs) [] b ks h i = absurd h
rows-snoc old new s (c ∷ bs) (js ∷ kss) b ks h i = (h.0, rows-snoc old new s bs kss b ks h.1 i)

pub none_read : (S : State) (s : TypeScope) (kss : List (List (Option ℕ))) → kss ≡ [] → AreRead S s [] S kss
none_read S s kss e = subst (AreRead S s [] S) (sym e) (record { step = step_same S; are = tt })

pub one_read : (S M T : State) (s : TypeScope) (bs cs : List DataBind) (kss jss : List (List (Option ℕ))) (b : DataBind) (ks : List (Option ℕ)) → Holds (types_in S) s → AreRead S s bs M kss → IsStep M T
    → AreArgumentTypes (types_in M) (types_in T) s b.tyvars b.cons ks → bs ++ b ∷ [] ≡ cs → jss ≡ kss ++ ks ∷ [] → AreRead S s cs T jss
one_read S M T s bs cs kss jss b ks h r st i p q =
    subst (λ z. AreRead S s z T jss) p (subst (AreRead S s (bs ++ b ∷ []) T) (sym q) (record {
      step = step_on S M T r.step st;
      are = rows-snoc (types_in S) (types_in T) s bs kss b ks (rows-moved (types_in S) (types_in M) (types_in T) s bs kss h st.grows.types r.are)
          (row-moved (types_in S) (types_in M) (types_in T) (types_in T) s b.tyvars b.cons ks h r.step.grows.types (whole (types_in T)) i);
    }))

pub once_next : (bs cs : List DataBind) (b : DataBind) → list_all (λ b. no_repetition b.tyvars) bs ≡ true → no_repetition b.tyvars ≡ true → bs ++ b ∷ [] ≡ cs
    → list_all (λ (b : DataBind). no_repetition b.tyvars) cs ≡ true
once_next bs cs b h m e = subst (λ (z : List DataBind). list_all (λ (b : DataBind). no_repetition b.tyvars) z ≡ true) e (go bs h)
  where
    go : (bs : List DataBind) → list_all (λ b. no_repetition b.tyvars) bs ≡ true → list_all (λ (b : DataBind). no_repetition b.tyvars) (bs ++ b ∷ []) ≡ true
    go [] h = ap (λ c. c && true) m
    go (d ∷ bs) h = let p = and_parts (no_repetition d.tyvars) (list_all (λ (b : DataBind). no_repetition b.tyvars) bs) h in ap₂ (λ a c. a && c) p.0 (go bs p.1)

-- what is read is what the rules make of it

one-behind : (old new : List Typ) (s : TypeScope) (as_ : List Tyvar) (c : Context) (o : Option Ty) (k : Option ℕ) → ReadsTypes old s c → IsArgumentType old new s as_ o k
    → Rattle.core_rules.specs.Elaborated.behind_of (Rattle.core_rules.specs.Elaborated.with_parameters c as_) o ≡ Some (option_map (type_at new) k)
one-behind old new s as_ c None None r i = refl
one-behind old new s as_ c None (Some k) r i = absurd i
one-behind old new s as_ c (Some ty) None r i = absurd i
one-behind old new s as_ c (Some ty) (Some k) r i = ap (option_map Some) (i.is c r)

row-behind : (old new : List Typ) (s : TypeScope) (as_ : List Tyvar) (c : Context) (bs : List ConBind) (ks : List (Option ℕ)) → ReadsTypes old s c → AreArgumentTypes old new s as_ bs ks
    → AreBehind c as_ bs (row_at new ks) × RowBelow (length as_) new ks
row-behind old new s as_ c [] [] r h = (tt, tt)
row-behind old new s as_ c [] (k ∷ ks) r h = absurd h
row-behind old new s as_ c (b ∷ bs) [] r h = absurd h
row-behind old new s as_ c (b ∷ bs) (k ∷ ks) r h =
    let g = row-behind old new s as_ c bs ks r h.1 in ((one-behind old new s as_ c b.of_ty k r h.0, g.0), (below b.of_ty k h.0, g.1))
  where
    below : (o : Option Ty) (k : Option ℕ) → IsArgumentType old new s as_ o k → Rattle.datatype_forms.specs.Arguments.BelowIf (length as_) new k
    below None None i = tt
    below None (Some k) i = absurd i
    below (Some ty) None i = absurd i
    below (Some ty) (Some k) i = i.below

pub rows_behind : (old new : List Typ) (s : TypeScope) (c : Context) (bs : List DataBind) (kss : List (List (Option ℕ))) → ReadsTypes old s c → AreRows old new s bs kss
    → AreArguments c bs (rows_at new kss) × RowsBelow new bs kss
rows_behind old new s c [] [] r h = (tt, tt)
rows_behind old new s c [] (ks ∷ kss) r h = absurd h
rows_behind old new s c (b ∷ bs) [] r h = absurd h
rows_behind old new s c (b ∷ bs) (ks ∷ kss) r h =
    let f = row-behind old new s b.tyvars c b.cons ks r h.0 in
    let g = rows_behind old new s c bs kss r h.1 in
    ((f.0, g.0), (f.1, g.1))

-- behind the parameters
pub row_entered : (old mid new : List Typ) (s : TypeScope) (as_ : List Tyvar) (bs cs : List ConBind) (ks : List (Option ℕ)) → Holds old s → Begins old mid → AreArgumentTypes mid new s as_ bs ks → bs ≡ cs
    → AreArgumentTypes old new s as_ cs ks
row_entered old mid new s as_ bs cs ks h b i e = subst (λ z. AreArgumentTypes old new s as_ z ks) e (row-moved old mid new new s as_ bs ks h b (whole new) i)

-- a type of the table for each constructor, over the parameters

one-held : (old new : List Typ) (s : TypeScope) (as_ : List Tyvar) (o : Option Ty) (k : Option ℕ) → IsArgumentType old new s as_ o k → IsHeldArgument (length new) k × BelowIf (length as_) new k
one-held old new s as_ None None i = (tt, tt)
one-held old new s as_ None (Some k) i = absurd i
one-held old new s as_ (Some ty) None i = absurd i
one-held old new s as_ (Some ty) (Some k) i = (i.held, i.below)

row-held : (old new : List Typ) (s : TypeScope) (as_ : List Tyvar) (bs : List ConBind) (ks : List (Option ℕ)) → AreArgumentTypes old new s as_ bs ks
    → (length ks ≡ length bs) × (RowHeld (length new) ks) × (RowBelow (length as_) new ks)
row-held old new s as_ [] [] h = (refl, tt, tt)
row-held old new s as_ [] (k ∷ ks) h = absurd h
row-held old new s as_ (b ∷ bs) [] h = absurd h
row-held old new s as_ (b ∷ bs) (k ∷ ks) h =
    let f = one-held old new s as_ b.of_ty k h.0 in
    let g = row-held old new s as_ bs ks h.1 in
    (ap suc g.0, (f.0, g.1), (f.1, g.2))

pub rows_of_binds : (old new : List Typ) (s : TypeScope) (bs : List DataBind) (kss : List (List (Option ℕ))) → AreRows old new s bs kss → AreRowsOf new bs kss
rows_of_binds old new s [] [] h = tt
rows_of_binds old new s [] (ks ∷ kss) h = absurd h
rows_of_binds old new s (b ∷ bs) [] h = absurd h
rows_of_binds old new s (b ∷ bs) (ks ∷ kss) h =
    let f = row-held old new s b.tyvars b.cons ks h.0 in (record { count = f.0; held = f.1; below = f.2 }, rows_of_binds old new s bs kss h.1)

pub rows_counted : (ts : List Typ) (bs : List DataBind) (kss : List (List (Option ℕ))) → AreRowsOf ts bs kss → length kss ≡ length bs
rows_counted ts [] [] h = refl
rows_counted ts [] (ks ∷ kss) h = absurd h
rows_counted ts (b ∷ bs) [] h = absurd h
rows_counted ts (b ∷ bs) (ks ∷ kss) h = ap suc (rows_counted ts bs kss h.1)

pub rows_below : (ts : List Typ) (bs : List DataBind) (kss : List (List (Option ℕ))) → AreRowsOf ts bs kss → RowsBelow ts bs kss
rows_below ts [] kss h = tt
rows_below ts (b ∷ bs) [] h = tt
rows_below ts (b ∷ bs) (ks ∷ kss) h = (h.0.below, rows_below ts bs kss h.1)
