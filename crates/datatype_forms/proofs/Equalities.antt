-- Which datatypes admit equality, as the rules say it and as it is computed.
use Rattle.std.proofs.Common.{◌≡◌, ◌⊎◌, inl, inr, ◌+◌, ◌&&◌, ◌||◌, ℕ, suc, Bool, true, false, not, List, [], ◌∷◌, ◌++◌, length, Option, Some, None, nat_lt, slice_get, Contains, refl, sym, ap, ap₂, subst, ◌∙◌, arith}
use Rattle.std.specs.Prelude.{option_map}
use Rattle.std.specs.Option.{option_zip}
use Rattle.std.proofs.lemmas.Bool.{and_parts}
use Rattle.std.proofs.lemmas.List.{length-map}
use Rattle.std.proofs.lemmas.List.Elements.{Contains-append_left, Contains-append_right, Contains-append_cases, Contains-push, Contains-push_cases}
use Rattle.ty_core.specs.Types.{Typ, Typs, var, con, none, more, admits, all_admit, allowed, attribute}
use Rattle.ty_core.specs.declared.name.TyName.{TyName}
use Rattle.ty_table.specs.TypeAt.{type_at}
use Rattle.ty_solve.specs.Substitution.{are_below, is_below}
use Rattle.sml_tree.specs.declared.ident.Tyvar.{Tyvar}
use Rattle.sml_tree.specs.BareTree.{ConBind, DataBind}
use Rattle.core_rules.specs.Objects.{Context, Map, TypeStructure}
use Rattle.core_rules.specs.Elaborated.{all_arguments_admit, any_marks, argument_admits, constructed, constructors_of, datatypes, names_of, respects_equality, structures_of}
use Rattle.core_rules.specs.Elaborated as rules
use Rattle.datatype_equality.specs.Respects.{every_parameter, type_with, types_with, symbol_with, Respects}
use Rattle.datatype_equality.specs.Respects as computed
use Rattle.datatype_equality.specs.declared.argument.Argument.{Argument}
use Rattle.datatype_forms.proofs.Marking.{append-one, arguments_marked, found-at, length-one, names_alike_behind}
use Rattle.datatype_forms.specs.Arguments.{AreArguments, AreBehind, AreStanding, BelowIf, RowBelow, RowsBelow, all_arguments, data_structures, data_values, RowsOver, in_names, row_arguments, row_at, row_with, rows_at, rows_with}

-- the type structures

constructors-are : (c : Context) (as_ : List Tyvar) (n : TyName) (bs : List ConBind) (os : List (Option Typ)) → AreBehind c as_ bs os → constructors_of c as_ n bs ≡ Some (data_values as_ n bs os)
constructors-are c as_ n [] [] h = refl
constructors-are c as_ n [] (o ∷ os) h = absurd h
constructors-are c as_ n (b ∷ bs) [] h = absurd h
constructors-are c as_ n (b ∷ bs) (o ∷ os) h =
    ap₂ (λ x y. option_map (λ r. (b.vid, record { scheme = record { marks = any_marks as_; body = constructed n r.0 }; status = Rattle.ty_core.specs.declared.env.Status.TheVariants.Constructor }) ∷ r.1) (option_zip x y)) h.0
    (constructors-are c as_ n bs os h.1)

structures-are : (c : Context) (ns : List TyName) (bs : List DataBind) (oss : List (List (Option Typ))) → length ns ≡ length bs → AreArguments c bs oss → structures_of c ns bs ≡ Some (data_structures ns bs oss)
structures-are c [] [] oss l h = refl
structures-are c [] (b ∷ bs) oss l h = absurd (omega (arith, l))
structures-are c (n ∷ ns) [] oss l h = absurd (omega (arith, l))
structures-are c (n ∷ ns) (b ∷ bs) [] l h = absurd h
structures-are c (n ∷ ns) (b ∷ bs) (os ∷ oss) l h =
    ap₂ (λ x y. option_map (λ r. (b.tycon, record { function = Rattle.ty_core.specs.Statics.named n; constructors = r.0 }) ∷ r.1) (option_zip x y)) (constructors-are c b.tyvars n b.cons os h.0)
    (structures-are c ns bs oss (omega (arith, l)) h.1)

pub names-length : (k : ℕ) (qs : List Bool) (bs : List DataBind) → length qs ≡ length bs → length (names_of k qs bs) ≡ length bs
names-length k [] [] e = refl
names-length k [] (b ∷ bs) e = absurd (omega (arith, e))
names-length k (q ∷ qs) [] e = absurd (omega (arith, e))
names-length k (q ∷ qs) (b ∷ bs) e = ap suc (names-length (suc k) qs bs (omega (arith, e)))

pub datatypes_are : (c : Context) (qs : List Bool) (bs : List DataBind) (oss : List (List (Option Typ))) → length qs ≡ length bs → AreArguments (in_names c (names_of c.names qs bs) bs) bs oss
    → datatypes c qs bs ≡ Some (data_structures (names_of c.names qs bs) bs oss)
datatypes_are c qs bs oss l h = structures-are (in_names c (names_of c.names qs bs) bs) (names_of c.names qs bs) bs oss (names-length c.names qs bs l) h

-- arguments whose variables are the parameters

mutual
  below-same : (n first : ℕ) (qs : List Bool) (t : Typ) → is_below n t ≡ true → admits (λ v. nat_lt v n) (type_with first qs t) ≡ admits every_parameter (type_with first qs t)
  below-same n first qs (var v) e = e
  below-same n first qs (con h ts) e = ap (allowed (attribute (symbol_with first qs h))) (all-same n first qs ts e)

  all-same : (n first : ℕ) (qs : List Bool) (ts : Typs) → are_below n ts ≡ true → all_admit (λ v. nat_lt v n) (types_with first qs ts) ≡ all_admit every_parameter (types_with first qs ts)
  all-same n first qs none e = refl
  all-same n first qs (more t ts) e =
      let p = and_parts (is_below n t) (are_below n ts) e in ap₂ (λ a b. a && b) (below-same n first qs t p.0) (all-same n first qs ts p.1)

-- an argument for each constructor
abbrev pub RowsFit : List DataBind → List (List (Option ℕ)) → Type 0
RowsFit [] kss = Unit {0}
RowsFit (b ∷ bs) [] = Unit {0}
RowsFit (b ∷ bs) (ks ∷ kss) = (length ks ≡ length b.cons) × RowsFit bs kss

row-fits : (c : Context) (ts : List Typ) (as_ : List Tyvar) (bs : List ConBind) (ks : List (Option ℕ)) → AreBehind c as_ bs (row_at ts ks) → length ks ≡ length bs
row-fits c ts as_ [] [] h = refl
row-fits c ts as_ [] (k ∷ ks) h = absurd h
row-fits c ts as_ (b ∷ bs) [] h = absurd h
row-fits c ts as_ (b ∷ bs) (k ∷ ks) h = ap suc (row-fits c ts as_ bs ks h.1)

rows-fit : (c : Context) (ts : List Typ) (bs : List DataBind) (kss : List (List (Option ℕ))) → AreArguments c bs (rows_at ts kss) → RowsFit bs kss
rows-fit c ts [] kss h = tt
rows-fit c ts (b ∷ bs) [] h = tt
rows-fit c ts (b ∷ bs) (ks ∷ kss) h = (row-fits c ts b.tyvars b.cons ks h.0, rows-fit c ts bs kss h.1)

pub rows-length : (c : Context) (ts : List Typ) (bs : List DataBind) (kss : List (List (Option ℕ))) → AreArguments c bs (rows_at ts kss) → length kss ≡ length bs
rows-length c ts [] [] h = refl
rows-length c ts [] (ks ∷ kss) h = absurd h
rows-length c ts (b ∷ bs) [] h = absurd h
rows-length c ts (b ∷ bs) (ks ∷ kss) h = ap suc (rows-length c ts bs kss h.1)

pub nothing : (a : Argument) → Contains [] a → ⊥
nothing a h = let lt = h.1 in omega (arith, lt)

pub row-place : (i : ℕ) (ks : List (Option ℕ)) (a : Argument) → Contains (row_arguments i ks) a → a.datatype ≡ i
row-place i [] a h = absurd (nothing a h)
row-place i (None ∷ ks) a h = row-place i ks a h
row-place i (Some k ∷ ks) a h = by (row-place i ks a) (Contains-append_cases (record { datatype = i; ty = k } ∷ []) (row_arguments i ks) a h)
  where
    by : (Contains (row_arguments i ks) a → a.datatype ≡ i) → Contains (record { datatype = i; ty = k } ∷ []) a ⊎ Contains (row_arguments i ks) a → a.datatype ≡ i
    by rest (inl c) = at (Contains-push_cases [] (record { datatype = i; ty = k }) a c)
      where
        at : Contains [] a ⊎ (record { datatype = i; ty = k } ≡ a) → a.datatype ≡ i
        at (inl c) = absurd (nothing a c)
        at (inr e) = sym (ap (λ (b : Argument). b.datatype) e)
    by rest (inr c) = rest c

module _ (first : ℕ) (ts : List Typ) (all : List Bool) where
  abbrev good : ℕ → Bool
  good k = admits every_parameter (type_with first all (type_at ts k))

  abbrev good-if : Option ℕ → Bool
  good-if None = true
  good-if (Some k) = good k

  one-admits : (as_ : List Tyvar) (n : TyName) (k : Option ℕ) → BelowIf (length as_) ts k
      → argument_admits (length (any_marks as_)) (constructed n (option_map (type_with first all) (option_map (type_at ts) k))) ≡ good-if k
  one-admits as_ n None h = refl
  one-admits as_ n (Some k) h =
      ap (λ m. admits (λ v. nat_lt v m) (type_with first all (type_at ts k))) (length-map as_ (λ a. Rattle.ty_core.specs.declared.mark.Mark.TheVariants.Any)) ∙ below-same (length as_) first all (type_at ts k) h

  row-forth : (i : ℕ) (as_ : List Tyvar) (n : TyName) (bs : List ConBind) (ks : List (Option ℕ)) → RowBelow (length as_) ts ks → ((a : Argument) → Contains (row_arguments i ks) a → good a.ty ≡ true)
      → all_arguments_admit (data_values as_ n bs (row_with first all (row_at ts ks))) ≡ true
  row-forth i as_ n [] ks h g = refl
  row-forth i as_ n (b ∷ bs) [] h g = refl
  row-forth i as_ n (b ∷ bs) (None ∷ ks) h g = ap₂ (λ x y. x && y) (one-admits as_ n None h.0) (row-forth i as_ n bs ks h.1 g)
  row-forth i as_ n (b ∷ bs) (Some k ∷ ks) h g =
      let a : Argument = record { datatype = i; ty = k } in
      ap₂ (λ x y. x && y) (one-admits as_ n (Some k) h.0 ∙ g a (Contains-append_left (a ∷ []) (row_arguments i ks) a (Contains-push [] a)))
      (row-forth i as_ n bs ks h.1 (λ z c. g z (Contains-append_right (a ∷ []) (row_arguments i ks) z c)))

  row-back : (i : ℕ) (as_ : List Tyvar) (n : TyName) (bs : List ConBind) (ks : List (Option ℕ)) → RowBelow (length as_) ts ks → length ks ≡ length bs
      → all_arguments_admit (data_values as_ n bs (row_with first all (row_at ts ks))) ≡ true → (a : Argument) → Contains (row_arguments i ks) a → good a.ty ≡ true
  row-back i as_ n bs [] h l e a c = absurd (nothing a c)
  row-back i as_ n [] (k ∷ ks) h l e a c = absurd (omega (arith, l))
  row-back i as_ n (b ∷ bs) (None ∷ ks) h l e a c =
      let p = and_parts (argument_admits (length (any_marks as_)) (constructed n None)) (all_arguments_admit (data_values as_ n bs (row_with first all (row_at ts ks)))) e in row-back i as_ n bs ks h.1 (omega (arith, l)) p.1 a c
  row-back i as_ n (b ∷ bs) (Some k ∷ ks) h l e a c = by (row-back i as_ n bs ks h.1 (omega (arith, l)) p.1 a) (Contains-append_cases (record { datatype = i; ty = k } ∷ []) (row_arguments i ks) a c)
    where
      p : (argument_admits (length (any_marks as_)) (constructed n (Some (type_with first all (type_at ts k)))) ≡ true)
          × (all_arguments_admit (data_values as_ n bs (row_with first all (row_at ts ks))) ≡ true)
      p = and_parts (argument_admits (length (any_marks as_)) (constructed n (Some (type_with first all (type_at ts k))))) (all_arguments_admit (data_values as_ n bs (row_with first all (row_at ts ks)))) e

      at : Contains [] a ⊎ (record { datatype = i; ty = k } ≡ a) → good a.ty ≡ true
      at (inl c) = absurd (nothing a c)
      at (inr q) = subst (λ (b : Argument). good b.ty ≡ true) q (sym (one-admits as_ n (Some k) h.0) ∙ p.0)

      by : (Contains (row_arguments i ks) a → good a.ty ≡ true) → Contains (record { datatype = i; ty = k } ∷ []) a ⊎ Contains (row_arguments i ks) a → good a.ty ≡ true
      by rest (inl c) = at (Contains-push_cases [] (record { datatype = i; ty = k }) a c)
      by rest (inr c) = rest c

  abbrev Fine : Argument → Type 0
  Fine a = slice_get all a.datatype ≡ Some true → good a.ty ≡ true

  abbrev structures : List TyName → List DataBind → List (List (Option ℕ)) → Map ℕ TypeStructure
  structures ns bs kss = data_structures ns bs (rows_with first all (rows_at ts kss))

  abbrev whole-row : DataBind → TyName → List (Option ℕ) → Bool
  whole-row b n ks = all_arguments_admit (data_values b.tyvars n b.cons (row_with first all (row_at ts ks)))

  said-here : (pre qs : List Bool) (q : Bool) (i : ℕ) → all ≡ pre ++ q ∷ qs → i ≡ length pre → slice_get all i ≡ Some q
  said-here pre qs q i e l = ap₂ slice_get e l ∙ found-at pre q qs

  all-forth : (pre qs : List Bool) (i : ℕ) (ns : List TyName) (bs : List DataBind) (kss : List (List (Option ℕ))) → all ≡ pre ++ qs → i ≡ length pre → RowsBelow ts bs kss
      → ((a : Argument) → Contains (all_arguments i kss) a → Fine a) → respects_equality qs (structures ns bs kss) ≡ true
  all-forth pre [] i ns bs kss e l h g = refl
  all-forth pre (q ∷ qs) i [] bs kss e l h g = refl
  all-forth pre (q ∷ qs) i (n ∷ ns) [] kss e l h g = refl
  all-forth pre (q ∷ qs) i (n ∷ ns) (b ∷ bs) [] e l h g = refl
  all-forth pre (q ∷ qs) i (n ∷ ns) (b ∷ bs) (ks ∷ kss) e l h g =
      by (all-forth (pre ++ q ∷ []) qs (suc i) ns bs kss (e ∙ sym (append-one pre q qs)) (let k = length-one pre q in omega (arith, k, l)) h.1
      (λ a c. g a (Contains-append_right (row_arguments i ks) (all_arguments (suc i) kss) a c))) q e
    where
      by : respects_equality qs (structures ns bs kss) ≡ true → (p : Bool) → all ≡ pre ++ p ∷ qs → ((not p || whole-row b n ks) && respects_equality qs (structures ns bs kss)) ≡ true
      by rest false f = rest
      by rest true f =
          ap₂ (λ x y. x && y) (row-forth i b.tyvars n b.cons ks h.0 (λ a c. g a (Contains-append_left (row_arguments i ks) (all_arguments (suc i) kss) a c)
          (ap (slice_get all) (row-place i ks a c) ∙ said-here pre qs true i f l))) rest

  all-back : (pre qs : List Bool) (i : ℕ) (ns : List TyName) (bs : List DataBind) (kss : List (List (Option ℕ))) → all ≡ pre ++ qs → i ≡ length pre → RowsBelow ts bs kss → RowsFit bs kss
      → length qs ≡ length bs → length ns ≡ length bs → length kss ≡ length bs → respects_equality qs (structures ns bs kss) ≡ true → (a : Argument) → Contains (all_arguments i kss) a → Fine a
  all-back pre qs i ns bs [] e l h f lq ln lk r a c = absurd (nothing a c)
  all-back pre qs i ns [] (ks ∷ kss) e l h f lq ln lk r a c = absurd (omega (arith, lk))
  all-back pre [] i ns (b ∷ bs) (ks ∷ kss) e l h f lq ln lk r a c = absurd (omega (arith, lq))
  all-back pre (q ∷ qs) i [] (b ∷ bs) (ks ∷ kss) e l h f lq ln lk r a c = absurd (omega (arith, ln))
  all-back pre (q ∷ qs) i (n ∷ ns) (b ∷ bs) (ks ∷ kss) e l h f lq ln lk r a c =
      by (all-back (pre ++ q ∷ []) qs (suc i) ns bs kss (e ∙ sym (append-one pre q qs)) (let k = length-one pre q in omega (arith, k, l)) h.1 f.1 (omega (arith, lq)) (omega (arith, ln))
      (omega (arith, lk)) p.1 a) (Contains-append_cases (row_arguments i ks) (all_arguments (suc i) kss) a c)
    where
      p : ((not q || whole-row b n ks) ≡ true) × (respects_equality qs (structures ns bs kss) ≡ true)
      p = and_parts (not q || whole-row b n ks) (respects_equality qs (structures ns bs kss)) r

      so : (z : Bool) → (not z || whole-row b n ks) ≡ true → Some z ≡ Some true → whole-row b n ks ≡ true
      so true e i = e
      so false e i = absurd (cc)

      by : (Contains (all_arguments (suc i) kss) a → Fine a) → Contains (row_arguments i ks) a ⊎ Contains (all_arguments (suc i) kss) a → Fine a
      by rest (inl d) s =
          row-back i b.tyvars n b.cons ks h.0 f.0 (so q p.0 (sym (said-here pre qs q i e l) ∙ ap (slice_get all) (sym (row-place i ks a d)) ∙ s)) a d
      by rest (inr d) s = rest d s

-- what is computed of the arguments is what the rules say
pub respects_there : (first : ℕ) (ts : List Typ) (qs : List Bool) (ns : List TyName) (bs : List DataBind) (kss : List (List (Option ℕ))) → RowsBelow ts bs kss → Respects first ts (all_arguments 0 kss) qs
    → respects_equality qs (data_structures ns bs (rows_with first qs (rows_at ts kss))) ≡ true
respects_there first ts qs ns bs kss h r = all-forth first ts qs [] qs 0 ns bs kss refl refl h r

pub respects_here : (first : ℕ) (ts : List Typ) (qs : List Bool) (ns : List TyName) (bs : List DataBind) (kss : List (List (Option ℕ))) → RowsBelow ts bs kss → RowsFit bs kss → length qs ≡ length bs
    → length ns ≡ length bs → length kss ≡ length bs → respects_equality qs (data_structures ns bs (rows_with first qs (rows_at ts kss))) ≡ true → Respects first ts (all_arguments 0 kss) qs
respects_here first ts qs ns bs kss h f lq ln lk e = all-back first ts qs [] qs 0 ns bs kss refl refl h f lq ln lk e

-- less at each place, as both say it
pub less_there : (ps qs : List Bool) → computed.AllBelow ps qs → rules.AllBelow ps qs
less_there [] qs h = tt
less_there (p ∷ ps) [] h = tt
less_there (p ∷ ps) (q ∷ qs) h = (h.0, less_there ps qs h.1)

-- What is read, with names in use for the new ones, and with the new ones marked in some way: and what comes of it, with the new ones marked in the best way.
pub record IsRead (c : Context) (bs : List DataBind) (ts us : List Typ) (jss kss : List (List (Option ℕ))) : Type 0 where
  pub standing : List TyName
  pub stand : AreStanding standing bs
  pub first : AreArguments (in_names c standing bs) bs (rows_at ts jss)
  pub over : RowsOver c.names (rows_at ts jss)
  pub marks : List Bool
  pub count : length marks ≡ length bs
  pub second : AreArguments (in_names c (names_of c.names marks bs) bs) bs (rows_at us kss)
  pub below : RowsBelow us bs kss

module _ (c : Context) (bs : List DataBind) (ts us : List Typ) (jss kss : List (List (Option ℕ))) (h : IsRead c bs ts us jss kss) where
  abbrev Best : List Bool → Type 0
  Best qs = (rs : List Bool) → length rs ≡ length bs → Respects c.names us (all_arguments 0 kss) rs → computed.AllBelow rs qs

  marked : (qs : List Bool) → length qs ≡ length bs
      → AreArguments (in_names c (names_of c.names qs bs) bs) bs (rows_with c.names qs (rows_at us kss)) × RowsOver (c.names + length bs) (rows_at us kss)
  marked qs l =
      arguments_marked c.names (c.names + length bs) qs (omega arith) c bs (rows_at ts jss) (rows_at us kss) (names_alike_behind c.names h.marks qs h.standing bs h.count l h.stand) h.first h.second h.over

  pub datatypes_read : (qs : List Bool) → length qs ≡ length bs → datatypes c qs bs ≡ Some (data_structures (names_of c.names qs bs) bs (rows_with c.names qs (rows_at us kss)))
  datatypes_read qs l = datatypes_are c qs bs (rows_with c.names qs (rows_at us kss)) l (marked qs l).0

  pub best_respects : (qs : List Bool) → Respects c.names us (all_arguments 0 kss) qs
      → respects_equality qs (data_structures (names_of c.names qs bs) bs (rows_with c.names qs (rows_at us kss))) ≡ true
  best_respects qs r = respects_there c.names us qs (names_of c.names qs bs) bs kss h.below r

  pub best_is_greatest : (qs : List Bool) → Best qs → (rs : List Bool) (ss : Map ℕ TypeStructure) → length rs ≡ length bs → datatypes c rs bs ≡ Some ss → respects_equality rs ss ≡ true
      → rules.AllBelow rs qs
  best_is_greatest qs b rs ss l d r =
      let e : data_structures (names_of c.names rs bs) bs (rows_with c.names rs (rows_at us kss)) ≡ ss = unwrap (sym (datatypes_read rs l) ∙ d) in
      less_there rs qs (b rs l (respects_here c.names us rs (names_of c.names rs bs) bs kss h.below (rows-fit (in_names c (names_of c.names h.marks bs) bs) us bs kss h.second) l (names-length c.names rs bs l)
      (rows-length (in_names c (names_of c.names h.marks bs) bs) us bs kss h.second) (subst (λ s. respects_equality rs s ≡ true) (sym e) r)))
    where
      unwrap : {x y : Map ℕ TypeStructure} → Some x ≡ Some y → x ≡ y
      unwrap e = cc
