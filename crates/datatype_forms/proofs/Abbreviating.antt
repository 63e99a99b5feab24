-- Arguments of constructors beside abbreviations: as they are with these written out.
use Rattle.std.proofs.Common.{◌≡◌, ◌<◌, ◌≤◌, ◌+◌, ℕ, suc, Bool, true, false, cond, List, [], ◌∷◌, ◌++◌, length, map, take, get_or, Option, Some, None, nat_eq, nat_lt, refl, sym, ap, ap₂, subst, ◌∙◌, arith}
use Rattle.std.specs.Prelude.{option_map, option_and_then, if◌then◌else◌}
use Rattle.std.specs.Option.{option_or}
use Rattle.std.specs.List.{AllByRecursion, list_all}
use Rattle.std.specs.Map.{lookup}
use Rattle.std.proofs.lemmas.Bool.{lt-ltb}
use Rattle.std.proofs.lemmas.List.{length-map}
use Rattle.ty_core.specs.Types.{Typ, Typs, var, con, none, more}
use Rattle.ty_core.specs.Statics.{replace, replace_all}
use Rattle.ty_core.specs.declared.name.TyName.{TyName}
use Rattle.ty_table.specs.TypeAt.{top, tops, type_at}
use Rattle.ty_instance.proofs.Going.{whole}
use Rattle.sml_tree.specs.declared.ident.Tyvar.{Tyvar}
use Rattle.sml_tree.specs.BareTree.{ConBind, DataBind, Ty, TypeBind}
use Rattle.sml_tree.specs.Derived.{binding_of, expand_con, expand_some, unqualified}
use Rattle.core_rules.specs.Elaborated.{behind_of, names_of, type_in, with_parameters}
use Rattle.core_rules.specs.Objects.{Context, Map, TypeStructure, at, types, types_env, with_env}
use Rattle.core_rules.specs.Objects as static
use Rattle.core_rules.specs.Restrictions.{distinct, no_repetition}
use Rattle.core_rules.proofs.LookUps.{at-joined, nat-tells}
use Rattle.elab_typed.specs.Laws.{IsClosed}
use Rattle.elab_types.specs.Reading.{Holds, entry_of, function_in}
use Rattle.elab_types.specs.declared.scope.TypeEntry.{TypeEntry}
use Rattle.elab_types.specs.declared.scope.TypeScope.{TypeScope}
use Rattle.elab_types.proofs.Holding.{body-closed}
use Rattle.elab_steps.specs.Growing.{Begins}
use Rattle.closed_types.specs.Parameters.{ReadsTypes}
use Rattle.closed_types.proofs.Entering.{top-below}
use Rattle.dec_forms.specs.Entries.{types_onto}
use Rattle.dec_forms.proofs.DeclaringTypes.{last-first}
use Rattle.datatype_forms.specs.Abbreviated.{AreFunctionEntries, IsFunctionEntry, written_binds}
use Rattle.datatype_forms.specs.Arguments.{AreArguments, AreBehind, AreRowsOf, AreStanding, row_at, rows_at}
use Rattle.datatype_forms.specs.Reading.{AreArgumentTypes, AreNameEntries, AreRows, IsArgumentType}
use Rattle.datatype_forms.proofs.Collecting.{closed_moved}
use Rattle.datatype_forms.proofs.InNames.{all-onto, onto-found, structures_stay}
use Rattle.datatype_forms.proofs.Writing.{AreClosed, follows, function_by, written}

-- abbreviations written out change neither names nor parameters

pub standing_written : (as_ : List TypeBind) (ns : List TyName) (bs : List DataBind) → AreStanding ns bs → AreStanding ns (written_binds as_ bs)
standing_written as_ [] [] h = tt
standing_written as_ [] (b ∷ bs) h = absurd h
standing_written as_ (n ∷ ns) [] h = absurd h
standing_written as_ (n ∷ ns) (b ∷ bs) h = (h.0, standing_written as_ ns bs h.1)

pub names_written : (as_ : List TypeBind) (k : ℕ) (qs : List Bool) (bs : List DataBind) → names_of k qs bs ≡ names_of k qs (written_binds as_ bs)
names_written as_ k [] [] = refl
names_written as_ k [] (b ∷ bs) = refl
names_written as_ k (q ∷ qs) [] = refl
names_written as_ k (q ∷ qs) (b ∷ bs) =
    ap (λ l. record { stamp = k; arity = length b.tyvars; equality = Rattle.datatype_forms.specs.Arguments.attribute_of q } ∷ l) (names_written as_ (suc k) qs bs)

pub entries_written : (ts : List Typ) (as_ : List TypeBind) (bs : List DataBind) (ns : List TyName) (es : List (ℕ × TypeEntry)) → AreNameEntries ts bs ns es → AreNameEntries ts (written_binds as_ bs) ns es
entries_written ts as_ [] [] [] h = tt
entries_written ts as_ [] [] (e ∷ es) h = absurd h
entries_written ts as_ [] (n ∷ ns) es h = absurd h
entries_written ts as_ (b ∷ bs) [] es h = absurd h
entries_written ts as_ (b ∷ bs) (n ∷ ns) [] h = absurd h
entries_written ts as_ (b ∷ bs) (n ∷ ns) (e ∷ es) h = (h.0, entries_written ts as_ bs ns es h.1)

pub rows_written : (ts : List Typ) (as_ : List TypeBind) (bs : List DataBind) (kss : List (List (Option ℕ))) → AreRowsOf ts bs kss → AreRowsOf ts (written_binds as_ bs) kss
rows_written ts as_ [] [] h = tt
rows_written ts as_ [] (ks ∷ kss) h = absurd h
rows_written ts as_ (b ∷ bs) [] h = absurd h
rows_written ts as_ (b ∷ bs) (ks ∷ kss) h =
    (record { count = h.0.count ∙ sym (length-map b.cons (expand_con as_)); held = h.0.held; below = h.0.below }, rows_written ts as_ bs kss h.1)

pub once_written : (as_ : List TypeBind) (bs : List DataBind) → list_all (λ b. no_repetition b.tyvars) bs ≡ list_all (λ (b : DataBind). no_repetition b.tyvars) (written_binds as_ bs)
once_written as_ [] = refl
once_written as_ (b ∷ bs) = ap (λ c. Rattle.std.proofs.Common.◌&&◌ (no_repetition b.tyvars) c) (once_written as_ bs)

pub tycons_written : (as_ : List TypeBind) (bs : List DataBind) → map (λ b. b.tycon) bs ≡ map (λ (b : DataBind). b.tycon) (written_binds as_ bs)
tycons_written as_ [] = refl
tycons_written as_ (b ∷ bs) = ap (λ l. b.tycon ∷ l) (tycons_written as_ bs)

-- type functions, one after the other

functions-snoc : (old new : List Typ) (s : TypeScope) (bs : List TypeBind) (es : List (ℕ × TypeEntry)) (b : TypeBind) (e : ℕ × TypeEntry) → AreFunctionEntries old new s bs es → e.0 ≡ b.tycon
    → IsFunctionEntry old new s b e.1 → AreFunctionEntries old new s (bs ++ b ∷ []) (es ++ e ∷ [])
functions-snoc old new s [] [] b e h q i = ((q, i), tt)
functions-snoc old new s [] (d ∷ es) b e h q i = absurd h
functions-snoc old new s (c ∷ bs) [] b e h q i = absurd h
functions-snoc old new s (c ∷ bs) (d ∷ es) b e h q i = (h.0, functions-snoc old new s bs es b e h.1 q i)

function-moved : (old mid new late : List Typ) (s : TypeScope) (b : TypeBind) (e : TypeEntry) → Holds old s → Begins old mid → Begins new late → IsFunctionEntry mid new s b e → IsFunctionEntry old late s b e
function-moved old mid new late s b e h g f i = record { arity = i.arity; body = closed_moved old mid new late s b.tyvars b.ty e.body h g f i.body }

functions-moved : (old new late : List Typ) (s : TypeScope) (bs : List TypeBind) (es : List (ℕ × TypeEntry)) → Holds old s → Begins new late → AreFunctionEntries old new s bs es
    → AreFunctionEntries old late s bs es
functions-moved old new late s [] [] h f i = tt
functions-moved old new late s [] (e ∷ es) h f i = absurd i
functions-moved old new late s (b ∷ bs) [] h f i = absurd i
functions-moved old new late s (b ∷ bs) (e ∷ es) h f i =
    ((i.0.0, function-moved old old new late s b e.1 h (whole old) f i.0.1), functions-moved old new late s bs es h f i.1)

pub no_functions : (ts : List Typ) (s : TypeScope) (es : List (ℕ × TypeEntry)) → es ≡ [] → AreFunctionEntries ts ts s [] es
no_functions ts s es e = subst (AreFunctionEntries ts ts s []) (sym e) tt

pub function_next : (old mid new : List Typ) (s : TypeScope) (bs cs : List TypeBind) (es ds : List (ℕ × TypeEntry)) (b : TypeBind) (e : ℕ × TypeEntry) → Holds old s → Begins old mid → Begins mid new
    → AreFunctionEntries old mid s bs es → e.0 ≡ b.tycon → IsFunctionEntry mid new s b e.1 → bs ++ b ∷ [] ≡ cs → ds ≡ es ++ e ∷ [] → AreFunctionEntries old new s cs ds
function_next old mid new s bs cs es ds b e h g f a q i p r =
    subst (λ z. AreFunctionEntries old new s z ds) p (subst (AreFunctionEntries old new s (bs ++ b ∷ [])) (sym r)
    (functions-snoc old new s bs es b e (functions-moved old mid new s bs es h f a) q (function-moved old mid new new s b e.1 h g (whole new) i)))

-- the table has what they speak of

functions-held : (old new : List Typ) (s : TypeScope) (bs : List TypeBind) (es : List (ℕ × TypeEntry)) → AreFunctionEntries old new s bs es → AllByRecursion (λ b. b.1.body < length new) es
functions-held old new s [] [] h = tt
functions-held old new s [] (e ∷ es) h = absurd h
functions-held old new s (b ∷ bs) [] h = absurd h
functions-held old new s (b ∷ bs) (e ∷ es) h = (h.0.1.body.held, functions-held old new s bs es h.1)

functions-closed : (old new : List Typ) (s : TypeScope) (bs : List TypeBind) (es : List (ℕ × TypeEntry)) → AreFunctionEntries old new s bs es
    → AllByRecursion (λ b. top (type_at new b.1.body) ≤ b.1.arity) es
functions-closed old new s [] [] h = tt
functions-closed old new s [] (e ∷ es) h = absurd h
functions-closed old new s (b ∷ bs) [] h = absurd h
functions-closed old new s (b ∷ bs) (e ∷ es) h =
    (subst (λ n. top (type_at new e.1.body) ≤ n) (sym h.0.1.arity) (top-below (length b.tyvars) (type_at new e.1.body) h.0.1.body.below), functions-closed old new s bs es h.1)

pub functions_hold : (old new : List Typ) (o s u : TypeScope) (bs : List TypeBind) (es : List (ℕ × TypeEntry)) → Holds new s → AreFunctionEntries old new o bs es → u.tyvars ≡ s.tyvars
    → u.types ≡ types_onto s.types es → Holds new u
functions_hold old new o s u bs es h a q e = record {
  tyvars = subst (AllByRecursion (λ b. b.1 < length new)) (sym q) h.tyvars;
  bodies = subst (AllByRecursion (λ b. b.1.body < length new)) (sym e) (all-onto (λ (b : ℕ × TypeEntry). b.1.body < length new) s.types es h.bodies (functions-held old new o bs es a));
  closed = subst (AllByRecursion (λ b. top (type_at new b.1.body) ≤ b.1.arity)) (sym e)
      (all-onto (λ (b : ℕ × TypeEntry). top (type_at new b.1.body) ≤ b.1.arity) s.types es h.closed (functions-closed old new o bs es a));
}

-- type functions in scope are closed

mutual
  replaced-below : (n : ℕ) (f g : ℕ → Typ) → ((v : ℕ) → nat_lt v n ≡ true → f v ≡ g v) → (t : Typ) → top t ≤ n → replace f t ≡ replace g t
  replaced-below n f g h (var v) le = h v (lt-ltb v n (omega (arith, le)))
  replaced-below n f g h (con a ts) le = ap (con a) (all-replaced n f g h ts le)

  all-replaced : (n : ℕ) (f g : ℕ → Typ) → ((v : ℕ) → nat_lt v n ≡ true → f v ≡ g v) → (ts : Typs) → tops ts ≤ n → replace_all f ts ≡ replace_all g ts
  all-replaced n f g h none le = refl
  all-replaced n f g h (more t ts) le = ap₂ more (replaced-below n f g h t (omega (arith, le))) (all-replaced n f g h ts (omega (arith, le)))

scope-closed : (ts : List Typ) (u : TypeScope) (c : Context) → Holds ts u → ReadsTypes ts u c → AreClosed c
scope-closed ts u c h r qs x f e = by qs (entry_of u qs x) refl (ap (option_map (λ (y : TypeStructure). y.function)) (sym e) ∙ r qs x)
  where
    some-same : {A : Type 0} {x y : A} → Some x ≡ Some y → x ≡ y
    some-same e = cc

    at-entry : (qs : List ℕ) (n : TypeEntry) → entry_of u qs x ≡ Some n → top (type_at ts n.body) ≤ n.arity
    at-entry [] n i = body-closed ts u h x n i
    at-entry (q ∷ qs) n i = absurd (cc)

    by : (qs : List ℕ) (o : Option TypeEntry) → entry_of u qs x ≡ o → Some f.function ≡ option_map (function_in ts) (entry_of u qs x) → IsClosed f.function
    by qs None i g = absurd (let z : Some f.function ≡ None = g ∙ ap (option_map (function_in ts)) i in cc)
    by qs (Some n) i g =
        let z : f.function ≡ function_in ts n = some-same (g ∙ ap (option_map (function_in ts)) i) in
        subst IsClosed (sym z) (λ a b k. replaced-below n.arity a b k (type_at ts n.body) (at-entry qs n i))

-- a context with abbreviations as type functions

abbrev function_structures : List Typ → List (ℕ × TypeEntry) → Map ℕ TypeStructure
function_structures ts [] = []
function_structures ts (e ∷ es) = (e.0, record { function = function_in ts e.1; constructors = [] }) ∷ function_structures ts es

abbrev with_functions : List Typ → Context → List (ℕ × TypeEntry) → Context
with_functions ts c es = with_env c 0 (types_env (function_structures ts es))

function-found : (ts : List Typ) (es : List (ℕ × TypeEntry)) (x : ℕ) (o : Option TypeStructure) (p : Option TypeEntry) → option_map (λ y. y.function) o ≡ option_map (function_in ts) p
    → option_map (λ y. y.function) (option_or (at nat_eq (function_structures ts es) x) o) ≡ option_map (function_in ts) (option_or (lookup (nat_eq x) es) p)
function-found ts [] x o p q = q
function-found ts (e ∷ es) x o p q = by (nat_eq x e.0) (function-found ts es x o p q)
  where
    by : (c : Bool) → option_map (λ y. y.function) (option_or (at nat_eq (function_structures ts es) x) o) ≡ option_map (function_in ts) (option_or (lookup (nat_eq x) es) p)
        → option_map (λ y. y.function) (option_or (cond c (Some (record { function = function_in ts e.1; constructors = [] })) (at nat_eq (function_structures ts es) x)) o)
        ≡ option_map (function_in ts) (option_or (cond c (Some e.1) (lookup (nat_eq x) es)) p)
    by true k = refl
    by false k = k

found-unqualified : (ts : List Typ) (u : TypeScope) (c : Context) (es : List (ℕ × TypeEntry)) (x : ℕ) → ReadsTypes ts u c
    → option_map (λ y. y.function) (type_in (with_functions ts c es).env [] x) ≡ option_map (function_in ts) (option_or (lookup (nat_eq x) es) (lookup (nat_eq x) u.types))
found-unqualified ts u c es x r =
    ap (option_map (λ (y : TypeStructure). y.function)) (at-joined nat_eq nat-tells (types c.env) (function_structures ts es) x)
    ∙ function-found ts es x (at nat_eq (types c.env) x) (lookup (nat_eq x) u.types) (r [] x)

found-qualified : (ts : List Typ) (c : Context) (es : List (ℕ × TypeEntry)) (q : ℕ) (qs : List ℕ) (x : ℕ)
    → option_map (λ y. y.function) (type_in (with_functions ts c es).env (q ∷ qs) x) ≡ option_map (λ y. y.function) (type_in c.env (q ∷ qs) x)
found-qualified ts c es q qs x =
    ap (λ m. option_map (λ (y : TypeStructure). y.function) (option_and_then (λ d. at nat_eq (types d) x) (option_and_then (λ d. static.along d qs) (at nat_eq m q)))) (structures_stay c.env (function_structures ts es))

reads-functions : (ts : List Typ) (u w : TypeScope) (c : Context) (es : List (ℕ × TypeEntry)) → ReadsTypes ts u c → distinct nat_eq (map (λ e. e.0) es) ≡ true → w.types ≡ types_onto u.types es
    → ReadsTypes ts w (with_functions ts c es)
reads-functions ts u w c es r d e [] x =
    found-unqualified ts u c es x r ∙ ap (λ o. option_map (function_in ts) (option_or o (lookup (nat_eq x) u.types))) (sym (last-first es x d))
    ∙ ap (option_map (function_in ts)) (sym (onto-found u.types es x) ∙ ap (lookup (nat_eq x)) (sym e))
reads-functions ts u w c es r d e (q ∷ qs) x = found-qualified ts c es q qs x ∙ r (q ∷ qs) x

-- which abbreviation a name has

by-abbreviation : (old ts : List Typ) (u : TypeScope) (c : Context) (bs : List TypeBind) (es : List (ℕ × TypeEntry)) (x : ℕ) → ReadsTypes old u c → ReadsTypes ts u c → AreFunctionEntries old ts u bs es
    → option_map (function_in ts) (option_or (lookup (nat_eq x) es) (lookup (nat_eq x) u.types)) ≡ function_by c [] x (binding_of x bs)
by-abbreviation old ts u c [] [] x r k h = sym (k [] x)
by-abbreviation old ts u c [] (e ∷ es) x r k h = absurd h
by-abbreviation old ts u c (b ∷ bs) [] x r k h = absurd h
by-abbreviation old ts u c (b ∷ bs) (e ∷ es) x r k h =
    by (nat_eq x e.0) (by-abbreviation old ts u c bs es x r k h.1) ∙ ap (λ y. function_by c [] x (if nat_eq x y then Some b else binding_of x bs)) h.0.0
  where
    by : (z : Bool) → option_map (function_in ts) (option_or (lookup (nat_eq x) es) (lookup (nat_eq x) u.types)) ≡ function_by c [] x (binding_of x bs)
        → option_map (function_in ts) (option_or (cond z (Some e.1) (lookup (nat_eq x) es)) (lookup (nat_eq x) u.types)) ≡ function_by c [] x (if z then Some b else binding_of x bs)
    by true q =
        ap (λ n. Some (record { arity = n; body = type_at ts e.1.body })) h.0.1.arity
        ∙ ap (option_map (λ t. record { arity = length b.tyvars; body = t })) (sym (h.0.1.body.is c r))
    by false q = q

functions-are : (old ts : List Typ) (u : TypeScope) (c : Context) (bs : List TypeBind) (es : List (ℕ × TypeEntry)) → ReadsTypes old u c → ReadsTypes ts u c → AreFunctionEntries old ts u bs es → (qs : List ℕ) (x : ℕ)
    → option_map (λ y. y.function) (type_in (with_functions ts c es).env qs x) ≡ function_by c qs x (unqualified bs qs x)
functions-are old ts u c bs es r k h [] x = found-unqualified ts u c es x k ∙ by-abbreviation old ts u c bs es x r k h
functions-are old ts u c bs es r k h (q ∷ qs) x = found-qualified ts c es q qs x

functions-tycons : (old new : List Typ) (s : TypeScope) (bs : List TypeBind) (es : List (ℕ × TypeEntry)) → AreFunctionEntries old new s bs es → map (λ b. b.tycon) bs ≡ map (λ e. e.0) es
functions-tycons old new s [] [] h = refl
functions-tycons old new s [] (e ∷ es) h = absurd h
functions-tycons old new s (b ∷ bs) [] h = absurd h
functions-tycons old new s (b ∷ bs) (e ∷ es) h = ap₂ (λ x xs. x ∷ xs) (sym h.0.0) (functions-tycons old new s bs es h.1)

-- what is read there is what is written out

module _ (old mid new : List Typ) (u w : TypeScope) (c : Context) (as_ : List TypeBind) (fs : List (ℕ × TypeEntry)) (hold : Holds mid u) (r : ReadsTypes old u c) (k : ReadsTypes mid u c)
    (f : AreFunctionEntries old mid u as_ fs) (once : distinct nat_eq (map (λ b. b.tycon) as_) ≡ true) (e : w.types ≡ types_onto u.types fs) where
  reads : ReadsTypes mid w (with_functions mid c fs)
  reads = reads-functions mid u w c fs k (ap (distinct nat_eq) (sym (functions-tycons old mid u as_ fs f)) ∙ once) e

  one-written : (ps : List Tyvar) (o : Option Ty) (i : Option ℕ) → IsArgumentType mid new w ps o i → behind_of (with_parameters c ps) (expand_some as_ o) ≡ Some (option_map (type_at new) i)
  one-written ps None None h = refl
  one-written ps None (Some i) h = absurd h
  one-written ps (Some ty) None h = absurd h
  one-written ps (Some ty) (Some i) h =
      ap (option_map Some) (follows (type_at new i) (written (with_parameters c ps) (with_parameters (with_functions mid c fs) ps) as_ (scope-closed mid u c hold k) (λ a. refl)
      (λ x. functions-are old mid u c as_ fs r k f x.qualifiers x.id) ty) (h.is (with_functions mid c fs) reads))

  row-written : (ps : List Tyvar) (bs : List ConBind) (is : List (Option ℕ)) → AreArgumentTypes mid new w ps bs is → AreBehind c ps (map (expand_con as_) bs) (row_at new is)
  row-written ps [] [] h = tt
  row-written ps [] (i ∷ is) h = absurd h
  row-written ps (b ∷ bs) [] h = absurd h
  row-written ps (b ∷ bs) (i ∷ is) h = (one-written ps b.of_ty i h.0, row-written ps bs is h.1)

  pub rows_behind_written : (bs : List DataBind) (kss : List (List (Option ℕ))) → AreRows mid new w bs kss → AreArguments c (written_binds as_ bs) (rows_at new kss)
  rows_behind_written [] [] h = tt
  rows_behind_written [] (ks ∷ kss) h = absurd h
  rows_behind_written (b ∷ bs) [] h = absurd h
  rows_behind_written (b ∷ bs) (ks ∷ kss) h = (row-written b.tyvars b.cons ks h.0, rows_behind_written bs kss h.1)
