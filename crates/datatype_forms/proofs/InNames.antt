-- A scope in which each datatype is the type name of its place.
use Rattle.std.proofs.Common.{◌≡◌, ◌<◌, ◌≤◌, ◌+◌, ℕ, suc, Bool, true, false, cond, List, [], ◌∷◌, ◌++◌, length, map, take, get_or, Option, Some, None, nat_eq, slice_get, refl, sym, ap, ap₂, subst, ◌∙◌, arith}
use Rattle.std.specs.Prelude.{option_map, option_and_then}
use Rattle.std.specs.Option.{option_or}
use Rattle.std.specs.List.{AllByRecursion}
use Rattle.std.specs.Map.{lookup}
use Rattle.std.proofs.lemmas.Option.{get_or_from_slice_get, slice_get_within}
use Rattle.std.proofs.lemmas.List.{append-nil}
use Rattle.std.proofs.Math.Seq.{take-suc}
use Rattle.ty_core.specs.Types.{Typ, con, name, var}
use Rattle.ty_core.specs.Statics.{named, variables}
use Rattle.ty_core.specs.declared.name.TyName.{TyName}
use Rattle.ty_table.specs.TypeAt.{top, tops, type_at}
use Rattle.sml_tree.specs.BareTree.{DataBind}
use Rattle.core_rules.specs.Objects.{Context, Env, Map, TypeStructure, at, along, joined, plus, structure_map, structures, structures_of, types, types_env}
use Rattle.core_rules.specs.Elaborated.{bare_structures}
use Rattle.core_rules.specs.Restrictions.{distinct}
use Rattle.core_rules.proofs.LookUps.{at-joined, nat-tells}
use Rattle.elab_types.specs.Reading.{Holds, function_in}
use Rattle.elab_types.specs.declared.scope.TypeEntry.{TypeEntry}
use Rattle.elab_types.specs.declared.scope.TypeScope.{TypeScope}
use Rattle.elab_steps.specs.Growing.{Begins}
use Rattle.elab_steps.proofs.Growing.{found-later}
use Rattle.closed_types.specs.Parameters.{ReadsTypes}
use Rattle.dec_forms.specs.Entries.{last_at, types_onto}
use Rattle.dec_forms.proofs.DeclaringTypes.{last-first}
use Rattle.datatype_forms.specs.Arguments.{in_names}
use Rattle.datatype_forms.specs.Reading.{AreNameEntries, IsNameEntry}

-- entries, one after the other

pub entries-later : (ts us : List Typ) (bs : List DataBind) (ns : List TyName) (es : List (ℕ × TypeEntry)) → Begins ts us → AreNameEntries ts bs ns es → AreNameEntries us bs ns es
entries-later ts us [] [] [] g h = tt
entries-later ts us [] [] (e ∷ es) g h = h
entries-later ts us [] (n ∷ ns) es g h = absurd h
entries-later ts us (b ∷ bs) [] es g h = absurd h
entries-later ts us (b ∷ bs) (n ∷ ns) [] g h = h
entries-later ts us (b ∷ bs) (n ∷ ns) (e ∷ es) g h =
    ((h.0.0, record { arity = h.0.1.arity; body = found-later ts us e.1.body (con (name n) (variables 0 n.arity)) g h.0.1.body }), entries-later ts us bs ns es g h.1)

entries-snoc : (ts : List Typ) (bs : List DataBind) (ns : List TyName) (es : List (ℕ × TypeEntry)) (b : DataBind) (n : TyName) (e : ℕ × TypeEntry) → AreNameEntries ts bs ns es → e.0 ≡ b.tycon
    → IsNameEntry ts n e.1 → AreNameEntries ts (bs ++ b ∷ []) (ns ++ n ∷ []) (es ++ e ∷ [])
entries-snoc ts [] [] [] b n e h q i = ((q, i), tt)
entries-snoc ts [] [] (d ∷ es) b n e h q i = absurd h
entries-snoc ts [] (m ∷ ns) es b n e h q i = absurd h
entries-snoc ts (c ∷ bs) [] es b n e h q i = absurd h
entries-snoc ts (c ∷ bs) (m ∷ ns) [] b n e h q i = absurd h
entries-snoc ts (c ∷ bs) (m ∷ ns) (d ∷ es) b n e h q i = (h.0, entries-snoc ts bs ns es b n e h.1 q i)

pub no_entries : (ts : List Typ) (es : List (ℕ × TypeEntry)) → es ≡ [] → AreNameEntries ts [] [] es
no_entries ts es e = subst (AreNameEntries ts [] []) (sym e) tt

pub take-at : {A : Type 0} (xs : List A) (i : ℕ) (d : A) → i < length xs → take i xs ++ get_or xs i d ∷ [] ≡ take (i + 1) xs
take-at xs i d lt = let up : suc i ≡ i + 1 = omega arith in sym (take-suc xs i d lt) ∙ ap (λ j. take j xs) up

pub take-next : {A : Type 0} (xs : List A) (i : ℕ) (x : A) → i < length xs → x ≡ get_or xs i x → take i xs ++ x ∷ [] ≡ take (i + 1) xs
take-next xs i x lt e = let up : suc i ≡ i + 1 = omega arith in ap (λ z. take i xs ++ z ∷ []) e ∙ sym (take-suc xs i x lt) ∙ ap (λ j. take j xs) up

pub entry_at : (ts us : List Typ) (bs cs : List DataBind) (all : List TyName) (i : ℕ) (d : TyName) (es ds : List (ℕ × TypeEntry)) (b : DataBind) (e : ℕ × TypeEntry) → Begins ts us
    → AreNameEntries ts bs (take i all) es → e.0 ≡ b.tycon → IsNameEntry us (get_or all i d) e.1 → bs ++ b ∷ [] ≡ cs → i < length all → ds ≡ es ++ e ∷ [] → AreNameEntries us cs (take (i + 1) all) ds
entry_at ts us bs cs all i d es ds b e g h q k p lt r =
    subst (λ z. AreNameEntries us z (take (i + 1) all) ds) p (subst (λ z. AreNameEntries us (bs ++ b ∷ []) z ds) (take-at all i d lt) (subst (AreNameEntries us (bs ++ b ∷ []) (take i all ++ get_or all i d ∷ [])) (sym r)
    (entries-snoc us bs (take i all) es b (get_or all i d) e (entries-later ts us bs (take i all) es g h) q k)))

pub onto_next : (s : List (ℕ × TypeEntry)) (es : List (ℕ × TypeEntry)) (i : ℕ) (e : ℕ × TypeEntry) → i < length es → e ≡ get_or es i e → e ∷ types_onto s (take i es) ≡ types_onto s (take (i + 1) es)
onto_next s es i e lt q = sym (snoc s (take i es)) ∙ ap (types_onto s) (take-next es i e lt q)
  where
    snoc : (s es : List (ℕ × TypeEntry)) → types_onto s (es ++ e ∷ []) ≡ e ∷ types_onto s es
    snoc s [] = refl
    snoc s (d ∷ es) = snoc (d ∷ s) es

-- what the scope tells

pub onto-found : (s es : List (ℕ × TypeEntry)) (x : ℕ) → lookup (nat_eq x) (types_onto s es) ≡ option_or (last_at es x) (lookup (nat_eq x) s)
onto-found s [] x = refl
onto-found s (e ∷ es) x = onto-found (e ∷ s) es x ∙ by (nat_eq x e.0) (last_at es x)
  where
    by : (b : Bool) (o : Option TypeEntry) → option_or o (cond b (Some e.1) (lookup (nat_eq x) s)) ≡ option_or (option_or o (cond b (Some e.1) None)) (lookup (nat_eq x) s)
    by true None = refl
    by true (Some d) = refl
    by false None = refl
    by false (Some d) = refl

pub tycons-same : (ts : List Typ) (bs : List DataBind) (ns : List TyName) (es : List (ℕ × TypeEntry)) → AreNameEntries ts bs ns es → map (λ e. e.0) es ≡ map (λ b. b.tycon) bs
tycons-same ts [] [] [] h = refl
tycons-same ts [] [] (e ∷ es) h = absurd h
tycons-same ts [] (n ∷ ns) es h = absurd h
tycons-same ts (b ∷ bs) [] es h = absurd h
tycons-same ts (b ∷ bs) (n ∷ ns) [] h = absurd h
tycons-same ts (b ∷ bs) (n ∷ ns) (e ∷ es) h = ap₂ (λ x xs. x ∷ xs) h.0.0 (tycons-same ts bs ns es h.1)

function-same : (ts : List Typ) (n : TyName) (e : TypeEntry) → IsNameEntry ts n e → named n ≡ function_in ts e
function-same ts n e h =
    λ i. record { arity = sym h.arity i; body = sym (get_or_from_slice_get ts e.body (con (name n) (variables 0 n.arity)) (var 0) h.body) i }

entry-found : (ts : List Typ) (bs : List DataBind) (ns : List TyName) (es : List (ℕ × TypeEntry)) (x : ℕ) (o : Option TypeStructure) (p : Option TypeEntry) → AreNameEntries ts bs ns es
    → option_map (λ y. y.function) o ≡ option_map (function_in ts) p
    → option_map (λ y. y.function) (option_or (at nat_eq (bare_structures ns bs) x) o) ≡ option_map (function_in ts) (option_or (lookup (nat_eq x) es) p)
entry-found ts [] [] [] x o p h q = q
entry-found ts [] [] (e ∷ es) x o p h q = absurd h
entry-found ts [] (n ∷ ns) es x o p h q = absurd h
entry-found ts (b ∷ bs) [] es x o p h q = absurd h
entry-found ts (b ∷ bs) (n ∷ ns) [] x o p h q = absurd h
entry-found ts (b ∷ bs) (n ∷ ns) (e ∷ es) x o p h q =
    ap (λ k. option_map (λ y. y.function) (option_or (cond (nat_eq x k) (Some (record { function = named n; constructors = [] })) (at nat_eq (bare_structures ns bs) x)) o)) (sym h.0.0)
    ∙ by (nat_eq x e.0) (entry-found ts bs ns es x o p h.1 q)
  where
    by : (c : Bool) → option_map (λ y. y.function) (option_or (at nat_eq (bare_structures ns bs) x) o) ≡ option_map (function_in ts) (option_or (lookup (nat_eq x) es) p)
        → option_map (λ y. y.function) (option_or (cond c (Some (record { function = named n; constructors = [] })) (at nat_eq (bare_structures ns bs) x)) o)
        ≡ option_map (function_in ts) (option_or (cond c (Some e.1) (lookup (nat_eq x) es)) p)
    by true k = ap Some (function-same ts n e.1 h.0.1)
    by false k = k

-- structures stay

joined-none : (f : Map ℕ Env) → joined nat_eq f [] ≡ f
joined-none f = append-nil (map (λ e. (e.0, e.1)) f) ∙ same f
  where
    same : (f : Map ℕ Env) → map (λ e. (e.0, e.1)) f ≡ f
    same [] = refl
    same (e ∷ f) = ap (λ l. e ∷ l) (same f)

map-same : (m : Map ℕ Env) → structure_map (structures_of m) ≡ m
map-same [] = refl
map-same (e ∷ m) = ap (λ l. e ∷ l) (map-same m)

pub structures_stay : (e : Env) (fs : Map ℕ TypeStructure) → structures (plus e (types_env fs)) ≡ structures e
structures_stay e fs = map-same (joined nat_eq (structures e) []) ∙ joined-none (structures e)

pub reads_names : (ts : List Typ) (s u : TypeScope) (c : Context) (bs : List DataBind) (ns : List TyName) (es : List (ℕ × TypeEntry)) → ReadsTypes ts s c → AreNameEntries ts bs ns es
    → distinct nat_eq (map (λ b. b.tycon) bs) ≡ true → u.types ≡ types_onto s.types es → ReadsTypes ts u (in_names c ns bs)
reads_names ts s u c bs ns es r h d e [] x =
    ap (option_map (λ y. y.function)) (at-joined nat_eq nat-tells (types c.env) (bare_structures ns bs) x)
    ∙ entry-found ts bs ns es x (at nat_eq (types c.env) x) (lookup (nat_eq x) s.types) h (r [] x)
    ∙ ap (λ o. option_map (function_in ts) (option_or o (lookup (nat_eq x) s.types))) (sym (last-first es x (ap (distinct nat_eq) (tycons-same ts bs ns es h) ∙ d)))
    ∙ ap (option_map (function_in ts)) (sym (onto-found s.types es x) ∙ ap (lookup (nat_eq x)) (sym e))
reads_names ts s u c bs ns es r h d e (q ∷ qs) x =
    ap (λ m. option_map (λ y. y.function) (option_and_then (λ d. at nat_eq (types d) x) (option_and_then (λ d. along d qs) (at nat_eq m q)))) (structures_stay c.env (bare_structures ns bs)) ∙ r (q ∷ qs) x

-- the table has what it speaks of

tops-variables : (v n : ℕ) → tops (variables v n) ≤ v + n
tops-variables v Rattle.std.proofs.Common.zero = omega arith
tops-variables v (suc n) = let h = tops-variables (suc v) n in omega (arith, h)

pub all-onto : (P : ℕ × TypeEntry → Type 0) (s es : List (ℕ × TypeEntry)) → AllByRecursion P s → AllByRecursion P es → AllByRecursion P (types_onto s es)
all-onto P s [] h k = h
all-onto P s (e ∷ es) h k = all-onto P (e ∷ s) es (k.0, h) k.1

entries-held : (ts : List Typ) (bs : List DataBind) (ns : List TyName) (es : List (ℕ × TypeEntry)) → AreNameEntries ts bs ns es → AllByRecursion (λ b. b.1.body < length ts) es
entries-held ts [] [] [] h = tt
entries-held ts [] [] (e ∷ es) h = absurd h
entries-held ts [] (n ∷ ns) es h = absurd h
entries-held ts (b ∷ bs) [] es h = absurd h
entries-held ts (b ∷ bs) (n ∷ ns) [] h = absurd h
entries-held ts (b ∷ bs) (n ∷ ns) (e ∷ es) h = (slice_get_within ts e.1.body (con (name n) (variables 0 n.arity)) h.0.1.body, entries-held ts bs ns es h.1)

entries-closed : (ts : List Typ) (bs : List DataBind) (ns : List TyName) (es : List (ℕ × TypeEntry)) → AreNameEntries ts bs ns es → AllByRecursion (λ b. top (type_at ts b.1.body) ≤ b.1.arity) es
entries-closed ts [] [] [] h = tt
entries-closed ts [] [] (e ∷ es) h = absurd h
entries-closed ts [] (n ∷ ns) es h = absurd h
entries-closed ts (b ∷ bs) [] es h = absurd h
entries-closed ts (b ∷ bs) (n ∷ ns) [] h = absurd h
entries-closed ts (b ∷ bs) (n ∷ ns) (e ∷ es) h = (
  subst (λ t. top t ≤ e.1.arity) (sym (get_or_from_slice_get ts e.1.body (con (name n) (variables 0 n.arity)) (var 0) h.0.1.body))
      (let a = tops-variables 0 n.arity in let q = h.0.1.arity in omega (arith, a, q)),
  entries-closed ts bs ns es h.1,
)

pub names_hold : (ts : List Typ) (s u : TypeScope) (bs : List DataBind) (ns : List TyName) (es : List (ℕ × TypeEntry)) → Holds ts s → AreNameEntries ts bs ns es → u.tyvars ≡ s.tyvars
    → u.types ≡ types_onto s.types es → Holds ts u
names_hold ts s u bs ns es h a q e = record {
  tyvars = subst (AllByRecursion (λ b. b.1 < length ts)) (sym q) h.tyvars;
  bodies = subst (AllByRecursion (λ b. b.1.body < length ts)) (sym e) (all-onto (λ (b : ℕ × TypeEntry). b.1.body < length ts) s.types es h.bodies (entries-held ts bs ns es a));
  closed = subst (AllByRecursion (λ b. top (type_at ts b.1.body) ≤ b.1.arity)) (sym e)
      (all-onto (λ (b : ℕ × TypeEntry). top (type_at ts b.1.body) ≤ b.1.arity) s.types es h.closed (entries-closed ts bs ns es a));
}
