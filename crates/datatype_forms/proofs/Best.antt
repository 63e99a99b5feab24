-- The names of datatypes, as many of which admit equality as can.
use Rattle.std.proofs.Common.{◌≡◌, ◌<◌, ◌≤◌, ◌+◌, ◌-◌, ℕ, zero, suc, Bool, true, ◌⊎◌, inl, inr, List, [], ◌∷◌, ◌++◌, length, map, drop, take, get_or, All, Contains, Option, Some, None, nat_eq, refl, sym, ap, ap₂, subst, ◌∙◌, arith}
use Rattle.std.specs.Prelude.{option_map}
use Rattle.std.proofs.lemmas.List.{append-nil, append_assoc, length-append, length-map}
use Rattle.std.proofs.lemmas.List.Elements.{All-contains_itself, Contains-append_cases}
use Rattle.ty_core.specs.Types.{Typ}
use Rattle.ty_core.specs.declared.name.TyName.{TyName}
use Rattle.sml_tree.specs.BareTree.{DataBind, TypeBind}
use Rattle.sml_tree.specs.Derived.{expand_bind}
use Rattle.core_rules.specs.Objects.{Context}
use Rattle.core_rules.specs.Elaborated.{names_of}
use Rattle.core_rules.specs.Restrictions.{distinct}
use Rattle.datatype_equality.specs.Respects.{AllBelow, Respects}
use Rattle.datatype_equality.specs.declared.argument.Argument.{Argument}
use Rattle.elab_types.specs.Reading.{Holds, left_at}
use Rattle.elab_types.proofs.Keeping.{holds_later}
use Rattle.elab_types.specs.declared.scope.TypeEntry.{TypeEntry}
use Rattle.elab_types.specs.declared.scope.TypeScope.{TypeScope}
use Rattle.elab_state.specs.States.{types_in}
use Rattle.elab_state.specs.declared.state.State.{State}
use Rattle.closed_types.specs.Parameters.{ReadsTypes}
use Rattle.dec_forms.specs.Entries.{type_scope, types_onto}
use Rattle.dec_forms.proofs.Bodies.{scope-same}
use Rattle.datatype_forms.specs.Arguments.{AreStanding, OverIf, RowOver, RowsOver, all_arguments, in_names, name_at, row_arguments, row_at, rows_at, rows_with}
use Rattle.datatype_forms.specs.Abbreviated.{AreFunctionEntries, written_binds}
use Rattle.datatype_forms.specs.Best.{AreArgumentsIn, AreBestMarks, AreBestNames, AreDataArguments, AreInUse, AreMarked, AreOnce, rows_of}
use Rattle.datatype_forms.specs.Reading.{AreNameEntries, AreRead}
use Rattle.datatype_forms.specs.Steps.{IsStep}
use Rattle.datatype_forms.specs.declared.attributes.Arguments.{Arguments}
use Rattle.datatype_forms.proofs.Abbreviating.{entries_written, names_written, rows_behind_written, rows_written}
use Rattle.datatype_forms.proofs.Equalities.{IsRead, names-length, nothing, row-place, best_is_greatest, best_respects, datatypes_are, datatypes_read}
use Rattle.datatype_forms.proofs.InNames.{entries-later, names_hold, reads_names}
use Rattle.datatype_forms.proofs.Collecting.{reads_later, rows_below, rows_counted, rows_of_binds}
use Rattle.datatype_forms.proofs.Stepping.{step_on}

pub names_entered : (S L : State) (s u : TypeScope) (bs : List DataBind) (ns : List TyName) (es : List (ℕ × TypeEntry)) → IsStep S L → Holds (types_in S) s → AreNameEntries (types_in L) bs ns es
    → u ≡ type_scope s.tyvars (types_onto s.types es) → Holds (types_in L) u
names_entered S L s u bs ns es st h en e =
    names_hold (types_in L) s u bs ns es (holds_later (types_in S) (types_in L) s st.grows.types h) en (ap (λ (z : TypeScope). z.tyvars) e) (ap (λ (z : TypeScope). z.types) e)

pub arguments_read : (S L M T : State) (s u w : TypeScope) (as_ : List TypeBind) (bs : List DataBind) (ns : List TyName) (fs : List (ℕ × TypeEntry)) (r : Arguments) → IsStep S L → IsStep L M
    → AreNameEntries (types_in L) bs ns r.entries.items → Holds (types_in S) s → u.tyvars ≡ s.tyvars → u.types ≡ types_onto s.types r.entries.items → AreFunctionEntries (types_in L) (types_in M) u as_ fs
    → distinct nat_eq (map (λ b. b.tycon) as_) ≡ true → w.types ≡ types_onto u.types fs → AreRead M w bs T (rows_of r) → AreArgumentsIn S s (written_binds as_ bs) ns T r
arguments_read S L M T s u w as_ bs ns fs r st next en h q e f once g rd = record {
  step = step_on S L T st (step_on L M T next rd.step);
  entries = entries_written (types_in T) as_ bs ns r.entries.items
      (entries-later (types_in L) (types_in T) bs ns r.entries.items (step_on L M T next rd.step).grows.types en);
  are = are;
  rows = rows_written (types_in T) as_ bs (rows_of r) (rows_of_binds (types_in M) (types_in T) w bs (rows_of r) rd.are);
}
  where
    are : (c : Context) → AreOnce (written_binds as_ bs) → ReadsTypes (types_in S) s c
        → Rattle.datatype_forms.specs.Arguments.AreArguments (in_names c ns (written_binds as_ bs)) (written_binds as_ bs) (rows_at (types_in T) (rows_of r))
    are c o rs =
        let hold : Holds (types_in L) u = names_hold (types_in L) s u bs ns r.entries.items (holds_later (types_in S) (types_in L) s st.grows.types h) en q e in
        let reads : ReadsTypes (types_in L) u (in_names c ns (written_binds as_ bs)) =
        reads_names (types_in L) s u c (written_binds as_ bs) ns r.entries.items (reads_later (types_in S) (types_in L) s c h st.grows.types rs)
        (entries_written (types_in L) as_ bs ns r.entries.items en) o e in
        rows_behind_written (types_in L) (types_in M) (types_in T) u w (in_names c ns (written_binds as_ bs)) as_ fs (holds_later (types_in L) (types_in M) u next.grows.types hold) reads
        (reads_later (types_in L) (types_in M) u (in_names c ns (written_binds as_ bs)) hold next.grows.types reads) f once g bs (rows_of r) rd.are

-- a scope that is left

drop-front : {A : Type 0} (xs ys : List A) → drop (length xs) (xs ++ ys) ≡ ys
drop-front [] ys = refl
drop-front (x ∷ xs) ys = drop-front xs ys

front-left : {A : Type 0} (xs ys : List A) → left_at (length ys) (xs ++ ys) ≡ ys
front-left xs ys =
    let e : length (xs ++ ys) - length ys ≡ length xs = (let l = length-append xs ys in omega (arith, l)) in ap (λ n. drop n (xs ++ ys)) e ∙ drop-front xs ys

record Front (s l : List (ℕ × TypeEntry)) : Type 0 where
  front : List (ℕ × TypeEntry)
  is : l ≡ front ++ s

onto-front : (s es : List (ℕ × TypeEntry)) → Front s (types_onto s es)
onto-front s [] = record { front = []; is = refl }
onto-front s (e ∷ es) = let f = onto-front (e ∷ s) es in record { front = f.front ++ e ∷ []; is = f.is ∙ sym (append_assoc f.front (e ∷ []) s) }

onto-append : (s es fs : List (ℕ × TypeEntry)) → types_onto (types_onto s es) fs ≡ types_onto s (es ++ fs)
onto-append s [] fs = refl
onto-append s (e ∷ es) fs = onto-append (e ∷ s) es fs

-- u is s with the type constructors es, and w is u with fs
pub scope_left : (s u v w x y : TypeScope) (es fs : List (ℕ × TypeEntry)) (m n : ℕ) → u ≡ type_scope s.tyvars (types_onto s.types es) → v ≡ u → w ≡ type_scope v.tyvars (types_onto v.types fs) → x ≡ w
    → m ≡ length s.tyvars → n ≡ length s.types → y.tyvars ≡ left_at m x.tyvars → y.types ≡ left_at n x.types → y ≡ s
scope_left s u v w x y es fs m n e f g h em en a b =
    let vu = f ∙ e in
    let xs : x ≡ type_scope s.tyvars (types_onto s.types (es ++ fs)) =
    h ∙ g ∙ ap (λ (z : TypeScope). type_scope z.tyvars (types_onto z.types fs)) vu ∙ ap (type_scope s.tyvars) (onto-append s.types es fs) in
    let fr = onto-front s.types (es ++ fs) in
    scope-same s y (a ∙ ap₂ left_at em (ap (λ (z : TypeScope). z.tyvars) xs) ∙ front-left [] s.tyvars)
    (b ∙ ap₂ left_at en (ap (λ (z : TypeScope). z.types) xs ∙ fr.is) ∙ front-left fr.front s.types)

-- names, one after the other

standing-snoc : (ns : List TyName) (bs : List DataBind) (n : TyName) (b : DataBind) → AreStanding ns bs → n.arity ≡ length b.tyvars → AreStanding (ns ++ n ∷ []) (bs ++ b ∷ [])
standing-snoc [] [] n b h e = (e, tt)
standing-snoc [] (c ∷ bs) n b h e = absurd h
standing-snoc (m ∷ ns) [] n b h e = absurd h
standing-snoc (m ∷ ns) (c ∷ bs) n b h e = (h.0, standing-snoc ns bs n b h.1 e)

pub standing_next : (ns ms : List TyName) (bs cs : List DataBind) (n : TyName) (b : DataBind) → AreStanding ns bs → n.arity ≡ length b.tyvars → bs ++ b ∷ [] ≡ cs → ms ≡ ns ++ n ∷ [] → AreStanding ms cs
standing_next ns ms bs cs n b h e p q = subst (AreStanding ms) p (subst (λ z. AreStanding z (bs ++ b ∷ [])) (sym q) (standing-snoc ns bs n b h e))

names-snoc : (k j : ℕ) (qs : List Bool) (bs : List DataBind) (q : Bool) (b : DataBind) → length qs ≡ length bs → j ≡ k + length qs
    → names_of k (qs ++ q ∷ []) (bs ++ b ∷ []) ≡ names_of k qs bs ++ name_at j q (length b.tyvars) ∷ []
names-snoc k j [] [] q b l e = ap (λ i. name_at i q (length b.tyvars) ∷ []) (let f : k ≡ j = omega (arith, e) in f)
names-snoc k j [] (c ∷ bs) q b l e = absurd (omega (arith, l))
names-snoc k j (p ∷ qs) [] q b l e = absurd (omega (arith, l))
names-snoc k j (p ∷ qs) (c ∷ bs) q b l e = ap (λ z. name_at k p (length c.tyvars) ∷ z) (names-snoc (suc k) j qs bs q b (omega (arith, l)) (omega (arith, e)))

pub names_next : (first j : ℕ) (qs ps : List Bool) (bs cs : List DataBind) (ns ms : List TyName) (q : Bool) (b : DataBind) (n : TyName) → length qs ≡ length bs → j ≡ first + length qs → ns ≡ names_of first qs bs
    → n ≡ name_at j q (length b.tyvars) → qs ++ q ∷ [] ≡ ps → bs ++ b ∷ [] ≡ cs → ms ≡ ns ++ n ∷ [] → ms ≡ names_of first ps cs
names_next first j qs ps bs cs ns ms q b n l e h i p r d =
    d ∙ ap₂ (λ x y. x ++ y ∷ []) h i ∙ sym (names-snoc first j qs bs q b l e) ∙ ap₂ (names_of first) p r

-- what is checked

pub over_next : (limit : ℕ) (os ps : List (Option Typ)) (o : Option Typ) → RowOver limit os → OverIf limit o → os ++ o ∷ [] ≡ ps → RowOver limit ps
over_next limit os ps o h i e = subst (RowOver limit) e (go os h)
  where
    go : (os : List (Option Typ)) → RowOver limit os → RowOver limit (os ++ o ∷ [])
    go [] h = (i, tt)
    go (x ∷ os) h = (h.0, go os h.1)

pub all_over_next : (limit : ℕ) (oss pss : List (List (Option Typ))) (os : List (Option Typ)) → RowsOver limit oss → RowOver limit os → oss ++ os ∷ [] ≡ pss → RowsOver limit pss
all_over_next limit oss pss os h i e = subst (RowsOver limit) e (go oss h)
  where
    go : (oss : List (List (Option Typ))) → RowsOver limit oss → RowsOver limit (oss ++ os ∷ [])
    go [] h = (i, tt)
    go (xs ∷ oss) h = (h.0, go oss h.1)

-- arguments, one after the other

row-snoc : (i : ℕ) (ks : List (Option ℕ)) (k : Option ℕ) → row_arguments i (ks ++ k ∷ []) ≡ row_arguments i ks ++ row_arguments i (k ∷ [])
row-snoc i [] k = refl
row-snoc i (None ∷ ks) k = row-snoc i ks k
row-snoc i (Some j ∷ ks) k = ap (λ l. record { datatype = i; ty = j } ∷ l) (row-snoc i ks k)

pub argument_next : (i : ℕ) (old mid new : List Argument) (ks js : List (Option ℕ)) (k : Option ℕ) → mid ≡ old ++ row_arguments i ks → new ≡ mid ++ row_arguments i (k ∷ []) → ks ++ k ∷ [] ≡ js
    → new ≡ old ++ row_arguments i js
argument_next i old mid new ks js k h e p =
    e ∙ ap (λ l. l ++ row_arguments i (k ∷ [])) h ∙ append_assoc old (row_arguments i ks) (row_arguments i (k ∷ []))
    ∙ ap (λ l. old ++ l) (sym (row-snoc i ks k) ∙ ap (row_arguments i) p)

all-snoc : (i j : ℕ) (kss : List (List (Option ℕ))) (ks : List (Option ℕ)) → j ≡ i + length kss → all_arguments i (kss ++ ks ∷ []) ≡ all_arguments i kss ++ row_arguments j ks
all-snoc i j [] ks e = append-nil (row_arguments i ks) ∙ ap (λ n. row_arguments n ks) (let f : i ≡ j = omega (arith, e) in f)
all-snoc i j (js ∷ kss) ks e =
    ap (λ l. row_arguments i js ++ l) (all-snoc (suc i) j kss ks (omega (arith, e))) ∙ sym (append_assoc (row_arguments i js) (all_arguments (suc i) kss) (row_arguments j ks))

pub arguments_next : (i : ℕ) (mid new : List Argument) (kss jss : List (List (Option ℕ))) (ks : List (Option ℕ)) → mid ≡ all_arguments 0 kss → new ≡ mid ++ row_arguments i ks → i ≡ length kss
    → kss ++ ks ∷ [] ≡ jss → new ≡ all_arguments 0 jss
arguments_next i mid new kss jss ks h e l p = e ∙ ap (λ z. z ++ row_arguments i ks) h ∙ sym (all-snoc 0 i kss ks (omega (arith, l))) ∙ ap (all_arguments 0) p

arguments-below : (i : ℕ) (kss : List (List (Option ℕ))) (a : Argument) → Contains (all_arguments i kss) a → a.datatype < i + length kss
arguments-below i [] a h = absurd (nothing a h)
arguments-below i (ks ∷ kss) a h = by (arguments-below (suc i) kss a) (Contains-append_cases (row_arguments i ks) (all_arguments (suc i) kss) a h)
  where
    by : (Contains (all_arguments (suc i) kss) a → a.datatype < suc i + length kss) → Contains (row_arguments i ks) a ⊎ Contains (all_arguments (suc i) kss) a → a.datatype < i + length (ks ∷ kss)
    by f (inl c) = let e = row-place i ks a c in omega (arith, e)
    by f (inr c) = let l = f c in omega (arith, l)

pub arguments_placed : (kss : List (List (Option ℕ))) (xs : List Argument) (n : ℕ) → xs ≡ all_arguments 0 kss → length kss ≡ n → All (λ a. a.datatype < n) xs
arguments_placed kss xs n e l k d lt =
    let b = arguments-below 0 kss (get_or xs k d) (subst (λ z. Contains z (get_or xs k d)) e (All-contains_itself xs k d lt)) in omega (arith, b, l)

pub take_length : {A : Type 0} (xs : List A) (i : ℕ) → i ≤ length xs → length (take i xs) ≡ i
take_length xs zero le = refl
take_length [] (suc i) le = absurd (omega arith)
take_length (x ∷ xs) (suc i) le = ap suc (take_length xs i (omega arith))

pub taken_length : {A B : Type 0} (f : A → B) (xs : List A) (i : ℕ) → i ≤ length xs → length (map f (take i xs)) ≡ i
taken_length f xs zero le = refl
taken_length f [] (suc i) le = absurd (omega arith)
taken_length f (x ∷ xs) (suc i) le = ap suc (taken_length f xs i (omega arith))

pub standing_length : (ns : List TyName) (bs : List DataBind) → AreStanding ns bs → length ns ≡ length bs
standing_length [] [] h = refl
standing_length [] (b ∷ bs) h = absurd h
standing_length (n ∷ ns) [] h = absurd h
standing_length (n ∷ ns) (b ∷ bs) h = ap suc (standing_length ns bs h.1)

-- the names that come of it

pub best_names_are : (S M N : State) (s : TypeScope) (first : ℕ) (bs : List DataBind) (ts us : List Bool) (ns ms ps : List TyName) (a b : Arguments) → Holds (types_in S) s → AreStanding ns bs
    → AreArgumentsIn S s bs ns M a → RowsOver first (rows_at (types_in M) (rows_of a)) → length ts ≡ length bs → ms ≡ names_of first ts bs → AreArgumentsIn M s bs ms N b → length us ≡ length bs
    → Respects first (types_in N) (all_arguments 0 (rows_of b)) us → ((rs : List Bool) → length rs ≡ length bs → Respects first (types_in N) (all_arguments 0 (rows_of b)) rs → AllBelow rs us)
    → ps ≡ names_of first us bs → AreBestNames S s first bs N ps
best_names_are S M N s first bs ts us ns ms ps a b h st fst ov lt em snd lu re gr ep = record {
  step = step_on S M N fst.step snd.step;
  marks = us;
  count = lu;
  names = ep;
  best = λ c e o r. at c e o r;
}
  where
    at : (c : Context) → c.names ≡ first → AreOnce bs → ReadsTypes (types_in S) s c → AreBestMarks c bs us
    at c e o r =
        let r' = reads_later (types_in S) (types_in M) s c h fst.step.grows.types r in
        let read : IsRead c bs (types_in M) (types_in N) (rows_of a) (rows_of b) = record {
          standing = ns;
          stand = st;
          first = fst.are c o r;
          over = subst (λ n. RowsOver n (rows_at (types_in M) (rows_of a))) (sym e) ov;
          marks = ts;
          count = lt;
          second = subst (λ z. Rattle.datatype_forms.specs.Arguments.AreArguments (in_names c z bs) bs (rows_at (types_in N) (rows_of b))) (em ∙ ap (λ n. names_of n ts bs) (sym e)) (snd.are c o r');
          below = rows_below (types_in N) bs (rows_of b) snd.rows;
        } in
        let best : (rs : List Bool) → length rs ≡ length bs → Respects c.names (types_in N) (all_arguments 0 (rows_of b)) rs → AllBelow rs us =
        λ rs l k. gr rs l (subst (λ n. Respects n (types_in N) (all_arguments 0 (rows_of b)) rs) e k) in
        record {
          structures = Rattle.datatype_forms.specs.Arguments.data_structures (names_of c.names us bs) bs (rows_with c.names us (rows_at (types_in N) (rows_of b)));
          are = datatypes_read c bs (types_in M) (types_in N) (rows_of a) (rows_of b) read us lu;
          respect = best_respects c bs (types_in M) (types_in N) (rows_of a) (rows_of b) read us (subst (λ n. Respects n (types_in N) (all_arguments 0 (rows_of b)) us) (sym e) re);
          greatest = best_is_greatest c bs (types_in M) (types_in N) (rows_of a) (rows_of b) read us best;
        }

reads-scope : (ts : List Typ) (s u : TypeScope) (c : Context) → u.types ≡ s.types → ReadsTypes ts s c → ReadsTypes ts u c
reads-scope ts s u c e r [] x = r [] x ∙ ap (λ l. option_map (Rattle.elab_types.specs.Reading.function_in ts) (Rattle.std.specs.Map.lookup (nat_eq x) l)) (sym e)
reads-scope ts s u c e r (q ∷ qs) x = r (q ∷ qs) x

pub data_arguments_are : (S M T : State) (s u : TypeScope) (first : ℕ) (bs : List DataBind) (ns : List TyName) (r : Arguments) → Holds (types_in S) u → u.types ≡ s.types → AreBestNames S u first bs M ns
    → AreArgumentsIn M u bs ns T r → AreDataArguments S s first bs T ns r
data_arguments_are S M T s u first bs ns r h e best a = record {
  step = step_on S M T best.step a.step;
  marks = best.marks;
  count = best.count;
  names = best.names;
  best = λ c n o rd. best.best c n o (reads-scope (types_in S) s u c e rd);
  are = λ c n o rd.
      let rd' = reads_later (types_in S) (types_in M) u c h best.step.grows.types (reads-scope (types_in S) s u c e rd) in
      let same : ns ≡ names_of c.names best.marks bs = best.names ∙ ap (λ k. names_of k best.marks bs) (sym n) in
      datatypes_are c best.marks bs (rows_at (types_in T) (rows_of r)) best.count
      (subst (λ z. Rattle.datatype_forms.specs.Arguments.AreArguments (in_names c z bs) bs (rows_at (types_in T) (rows_of r))) same (a.are c o rd'))
      ∙ ap (λ z. Some (Rattle.datatype_forms.specs.Arguments.data_structures z bs (rows_at (types_in T) (rows_of r)))) (sym same);
  entries = a.entries;
  rows = a.rows;
}

-- the names, where abbreviations stand beside the datatypes

pub marked_are : (S T : State) (s : TypeScope) (first : ℕ) (as_ : List TypeBind) (bs : List DataBind) (qs : List Bool) (ns : List TyName) (r : Arguments) → length qs ≡ length bs → ns ≡ names_of first qs bs
    → AreArgumentsIn S s (written_binds as_ bs) ns T r → AreMarked S s first (written_binds as_ bs) T r
marked_are S T s first as_ bs qs ns r l e a = record {
  marks = qs;
  count = l ∙ sym (length-map bs (expand_bind as_));
  read = subst (λ z. AreArgumentsIn S s (written_binds as_ bs) z T r) (e ∙ names_written as_ first qs bs) a;
}

pub marks_counted : (S T : State) (s : TypeScope) (first : ℕ) (as_ : List TypeBind) (bs : List DataBind) (r : Arguments) (n : ℕ) → AreMarked S s first (written_binds as_ bs) T r → n ≡ length r.rows.items → n ≡ length bs
marks_counted S T s first as_ bs r n m e =
    e ∙ sym (length-map r.rows.items (λ ks. ks.items)) ∙ rows_counted (types_in T) (written_binds as_ bs) (rows_of r) m.read.rows ∙ length-map bs (expand_bind as_)

pub best_are : (S M N : State) (s : TypeScope) (first : ℕ) (as_ : List TypeBind) (bs : List DataBind) (us : List Bool) (ps : List TyName) (r : Arguments) (n : ℕ) → Holds (types_in S) s
    → AreInUse S s first (written_binds as_ bs) M → AreMarked M s first (written_binds as_ bs) N r → n ≡ length r.rows.items → length us ≡ n
    → Respects first (types_in N) (all_arguments 0 (rows_of r)) us → ((rs : List Bool) → length rs ≡ n → Respects first (types_in N) (all_arguments 0 (rows_of r)) rs → AllBelow rs us)
    → ps ≡ names_of first us bs → AreBestNames S s first (written_binds as_ bs) N ps
best_are S M N s first as_ bs us ps r n h i m e l re gr q =
    let same : n ≡ length (written_binds as_ bs) = marks_counted M N s first as_ bs r n m e ∙ sym (length-map bs (expand_bind as_)) in
    best_names_are S M N s first (written_binds as_ bs) m.marks us i.names (names_of first m.marks (written_binds as_ bs)) ps i.arguments r h i.standing i.read i.over m.count refl m.read (l ∙ same) re
    (λ rs k. gr rs (k ∙ sym same)) (q ∙ names_written as_ first us bs)

pub best_counted : (S T : State) (s : TypeScope) (first : ℕ) (as_ : List TypeBind) (bs : List DataBind) (ns : List TyName) → AreBestNames S s first (written_binds as_ bs) T ns → length ns ≡ length bs
best_counted S T s first as_ bs ns b =
    ap length b.names ∙ names-length first b.marks (written_binds as_ bs) b.count ∙ length-map bs (expand_bind as_)
