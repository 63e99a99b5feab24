-- What a state has of the contexts of the initial basis and of the prelude.
use Rattle.std.proofs.Common.{◌≡◌, ◌<◌, ◌≤◌, ◌+◌, ℕ, zero, suc, Bool, true, false, cond, List, [], ◌∷◌, ◌++◌, map, length, nat_eq, Some, None, slice_get, refl, sym, ap, ap₂, subst, ◌∙◌, arith}
use Rattle.std.proofs.lemmas.List.{length-map}
use Rattle.std.specs.List.{AllByRecursion}
use Rattle.ty_core.specs.Types.{Typ}
use Rattle.ty_core.specs.Marks.{is_inhabited}
use Rattle.ty_table.specs.TypeAt.{type_at, top, AllBelow}
use Rattle.ty_solve.specs.Substitution.{is_below}
use Rattle.sml_tree.specs.declared.ident.Vid.{Vid}
use Rattle.sml_tree.specs.declared.ident.Vid.TheVariants.{Named, Equals, Fresh}
use Rattle.core_rules.specs.Objects.{Scheme}
use Rattle.core_rules.specs.Initial.{entries, hidden, integers}
use Rattle.initial_types.specs.Schemes.{scheme_of, schemes_in}
use Rattle.elab_state.specs.States.{types_in, made}
use Rattle.elab_state.specs.declared.state.State.{State}
use Rattle.elab_steps.specs.Tidy.{IsLive, IsTidy}
use Rattle.elab_context.specs.Entries.{entry_in}
use Rattle.elab_context.specs.Numbered.{IsBelowIf}
use Rattle.elab_context.specs.Telling.{IsContext, IsHeld}
use Rattle.elab_context.specs.declared.context.Context.{Context}
use Rattle.elab_context.specs.declared.entry.Entry.{Entry}
use Rattle.elab_context.specs.declared.entry.Scheme as code
use Rattle.basis_context.specs.Basis.{HasMembers, HasRows, Rows, NamedType, all_constructors, all_contents, all_marks, constructors_at, scheme_in, row_list, structure_list, type_list, type_entries, arity_of, body_of, entry_at, vid_at, without_prim}
use Rattle.basis_context.specs.declared.rows.Kind.{Kind}
use Rattle.basis_context.specs.declared.rows.Kind.TheVariants.{Reference, Constructor, Exception, Primitive}
use Rattle.core_rules.specs.Words.{same_vid}
use Rattle.elab_state.specs.Namings.{IsAmong}
use Rattle.basis_context.proofs.Agreeing.{Places, place_entry, row_entry, front}
use Rattle.elab_types.specs.Reading.{left_at}
use Rattle.basis_context.specs.Basis.{HasBasis, basis_marks, marks_at}
use Rattle.basis_context.specs.declared.tables.Basis.{Basis}
use Rattle.basis_context.proofs.Making.{schemes-from, schemes-append, schemes-below, marks-append, below-append}
use Rattle.basis_context.proofs.Whole.{IsBasis, initial_places, prelude_places, rows-found, one-placed, two-placed, one-listed, scheme-count, two-listed}

-- schemes are closed, and their marks inhabited
record IsClosed (s : Scheme) : Type 0 where
  below : is_below (length s.marks) s.body ≡ true
  marks : AllByRecursion (λ m. is_inhabited m ≡ true) s.marks

closed-all : AllByRecursion IsClosed (schemes_in entries ++ (schemes_in integers ++ schemes_in hidden))
closed-all = (record { below = refl; marks = (refl, tt) }, (record { below = refl; marks = tt }, (record { below = refl; marks = tt }, (record { below = refl; marks = (refl, tt) }, (record { below = refl; marks = (refl, tt) }, (record { below = refl; marks = tt }, (record { below = refl; marks = tt }, (record { below = refl; marks = tt }, (record { below = refl; marks = tt }, (record { below = refl; marks = tt }, (record { below = refl; marks = tt }, (record { below = refl; marks = tt }, (record { below = refl; marks = (refl, tt) }, (record { below = refl; marks = (refl, tt) }, (record { below = refl; marks = (refl, tt) }, (record { below = refl; marks = (refl, tt) }, (record { below = refl; marks = (refl, tt) }, (record { below = refl; marks = (refl, tt) }, (record { below = refl; marks = tt }, (record { below = refl; marks = (refl, tt) }, (record { below = refl; marks = (refl, tt) }, (record { below = refl; marks = (refl, tt) }, (record { below = refl; marks = (refl, tt) }, (record { below = refl; marks = (refl, tt) }, (record { below = refl; marks = (refl, tt) }, (record { below = refl; marks = tt }, (record { below = refl; marks = tt }, (record { below = refl; marks = tt }, (record { below = refl; marks = tt }, (record { below = refl; marks = tt }, (record { below = refl; marks = tt }, (record { below = refl; marks = tt }, (record { below = refl; marks = tt }, (record { below = refl; marks = tt }, (record { below = refl; marks = tt }, (record { below = refl; marks = tt }, (record { below = refl; marks = tt }, (record { below = refl; marks = tt }, (record { below = refl; marks = tt }, (record { below = refl; marks = tt }, (record { below = refl; marks = tt }, (record { below = refl; marks = tt }, (record { below = refl; marks = tt }, (record { below = refl; marks = tt }, (record { below = refl; marks = tt }, (record { below = refl; marks = tt }, (record { below = refl; marks = tt }, (record { below = refl; marks = tt }, (record { below = refl; marks = tt }, tt)))))))))))))))))))))))))))))))))))))))))))))))))

closed-at : (ts : List Typ) (ks : List code.Scheme) (vs : List Scheme) (k : ℕ) (s : code.Scheme) → map (scheme_in ts) ks ≡ vs → AllByRecursion IsClosed vs → slice_get ks k ≡ Some s → IsClosed (scheme_in ts s)
closed-at ts [] vs k s e h q = cc
closed-at ts (x ∷ ks) [] k s e h q = cc
closed-at ts (x ∷ ks) (v ∷ vs) zero s e h q = let same : x ≡ s = cc in let at : scheme_in ts x ≡ v = cc in subst IsClosed (sym at ∙ ap (scheme_in ts) same) h.0
closed-at ts (x ∷ ks) (v ∷ vs) (suc k) s e h q = closed-at ts ks vs k s (cc) h.1 q

held-at : (n : ℕ) (ks : List code.Scheme) (k : ℕ) (s : code.Scheme) → AllByRecursion (λ s. s.body < n) ks → slice_get ks k ≡ Some s → s.body < n
held-at n [] k s h q = cc
held-at n (x ∷ ks) zero s h q = let same : x ≡ s = cc in subst (λ (z : code.Scheme). z.body < n) same h.0
held-at n (x ∷ ks) (suc k) s h q = held-at n ks k s h.1 q

-- type constructors

types-held : (n : ℕ) (ts : List NamedType) (bs : List ℕ) → AllBelow n bs → AllByRecursion (λ b. b.1.body < n) (type_entries ts bs)
types-held n [] bs h = tt
types-held n (t ∷ ts) [] h = tt
types-held n (t ∷ ts) (b ∷ bs) h = (h.0, types-held n ts bs h.1)

few-variables : AllByRecursion (λ t. top (body_of t.1) ≤ arity_of t.1) type_list
few-variables = (omega arith, (omega arith, (omega arith, (omega arith, (omega arith, (omega arith, (omega arith, (omega arith, (omega arith, tt)))))))))

types-closed : (us : List Typ) (ts : List NamedType) (bs : List ℕ) → map (type_at us) bs ≡ map (λ t. body_of t.1) ts → AllByRecursion (λ t. top (body_of t.1) ≤ arity_of t.1) ts
    → AllByRecursion (λ b. top (type_at us b.1.body) ≤ b.1.arity) (type_entries ts bs)
types-closed us [] bs e h = tt
types-closed us (t ∷ ts) [] e h = tt
types-closed us (t ∷ ts) (b ∷ bs) e h =
    let body : type_at us b ≡ body_of t.1 = cc in
    (subst (λ z. top z ≤ arity_of t.1) (sym body) h.0, types-closed us ts bs (cc) h.1)

-- identifiers

row-held : (S : State) (C : Context) (a : Kind) (k : ℕ) → k < length C.schemes.items → IsHeld S C (entry_at a k)
row-held S C Reference k lt = lt
row-held S C (Constructor n y) k lt = lt
row-held S C (Exception n) k lt = lt
row-held S C (Primitive q) k lt = lt

rows-held : (S : State) (C : Context) (rs : Rows) (k : ℕ) (x : Vid) (e : Entry) → k + length rs ≤ length C.schemes.items → row_entry rs k x ≡ Some e → IsHeld S C e
rows-held S C [] k (Named x) e le q = cc
rows-held S C [] k (Fresh x) e le q = cc
rows-held S C [] k Equals e le q = cc
rows-held S C ((w, a) ∷ rs) k x e le q = by (same_vid x (vid_at w)) (λ s. rows-held S C rs (suc k) x e (omega (arith, le)) s) (sym (front rs k w a x) ∙ q)
  where
    by : (b : Bool) → (row_entry rs (suc k) x ≡ Some e → IsHeld S C e) → cond b (Some (entry_at a k)) (row_entry rs (suc k) x) ≡ Some e → IsHeld S C e
    by true f s = let same : entry_at a k ≡ e = cc in subst (IsHeld S C) same (row-held S C a k (omega (arith, le)))
    by false f s = f s

-- none has a variable of the program

row-free : (j : ℕ) (a : Kind) (k : ℕ) → IsBelowIf j (entry_at a k)
row-free j Reference k n q = cc
row-free j (Constructor m y) k n q = cc
row-free j (Exception m) k n q = cc
row-free j (Primitive p) k n q = cc

rows-free : (j : ℕ) (rs : Rows) (k : ℕ) (x : Vid) (e : Entry) → row_entry rs k x ≡ Some e → IsBelowIf j e
rows-free j [] k (Named x) e q = cc
rows-free j [] k (Fresh x) e q = cc
rows-free j [] k Equals e q = cc
rows-free j ((w, a) ∷ rs) k x e q = by (same_vid x (vid_at w)) (λ s. rows-free j rs (suc k) x e s) (sym (front rs k w a x) ∙ q)
  where
    by : (b : Bool) → (row_entry rs (suc k) x ≡ Some e → IsBelowIf j e) → cond b (Some (entry_at a k)) (row_entry rs (suc k) x) ≡ Some e → IsBelowIf j e
    by true f s = let same : entry_at a k ≡ e = cc in subst (IsBelowIf j) same (row-free j a k)
    by false f s = f s

-- what structures have

places-held : (S : State) (C : Context) (ps : Places) (q : ℕ) (x : Vid) (e : Entry) → AllByRecursion (λ p. p.1.1 + length p.1.0 ≤ length C.schemes.items) ps
    → place_entry ps q x ≡ Some e → IsHeld S C e
places-held S C [] q x e h f = cc
places-held S C (p ∷ ps) q x e h f = by (nat_eq q p.0) (λ s. places-held S C ps q x e h.1 s) f
  where
    by : (b : Bool) → (place_entry ps q x ≡ Some e → IsHeld S C e) → cond b (row_entry p.1.0 p.1.1 x) (place_entry ps q x) ≡ Some e → IsHeld S C e
    by true g s = rows-held S C p.1.0 p.1.1 x e h.0 s
    by false g s = g s

places-free : (j : ℕ) (ps : Places) (q : ℕ) (x : Vid) (e : Entry) → place_entry ps q x ≡ Some e → IsBelowIf j e
places-free j [] q x e f = cc
places-free j (p ∷ ps) q x e f = by (nat_eq q p.0) (λ s. places-free j ps q x e s) f
  where
    by : (b : Bool) → (place_entry ps q x ≡ Some e → IsBelowIf j e) → cond b (row_entry p.1.0 p.1.1 x) (place_entry ps q x) ≡ Some e → IsBelowIf j e
    by true g s = rows-free j p.1.0 p.1.1 x e s
    by false g s = g s

module _ (S : State) (C : Context) (ps : Places) (i : IsBasis (types_in S) C ps) (few : AllByRecursion (λ p. p.1.1 + length p.1.0 ≤ 49) ps) where
  entries-held : (qs : List ℕ) (x : Vid) (e : Entry) → entry_in C qs x ≡ Some e → IsHeld S C e
  entries-held [] x e q = let n = scheme-count (types_in S) C ps i in rows-held S C row_list 0 x e (omega (arith, n)) (sym (rows-found C.values row_list 0 x i.values) ∙ q)
  entries-held (n ∷ []) x e q = places-held S C ps n x e (subst (λ z. AllByRecursion (λ p. p.1.1 + length p.1.0 ≤ z) ps) (sym (scheme-count (types_in S) C ps i)) few) (sym (i.placed n x) ∙ q)
  entries-held (n ∷ m ∷ ns) x e q = cc

  entries-free : (j : ℕ) (qs : List ℕ) (x : Vid) (e : Entry) → entry_in C qs x ≡ Some e → IsBelowIf j e
  entries-free j [] x e q = rows-free j row_list 0 x e (sym (rows-found C.values row_list 0 x i.values) ∙ q)
  entries-free j (n ∷ []) x e q = places-free j ps n x e (sym (i.placed n x) ∙ q)
  entries-free j (n ∷ m ∷ ns) x e q = cc

  pub context_is : S.level ≡ 0 → IsTidy S 0 → IsContext S C
  context_is level tidy = record {
    wide = let n = i.names in omega (arith, n);
    deep = let l = i.level in omega (arith, l);
    naming = subst (IsAmong (length S.namings.items)) (sym i.naming) tt;
    holds = record {
      tyvars = subst (AllByRecursion (λ b. b.1 < length (types_in S))) (sym i.tyvars) tt;
      bodies = subst (AllByRecursion (λ b. b.1.body < length (types_in S))) (sym i.types) (types-held (length (types_in S)) type_list i.bodies i.bodies_held);
      closed = subst (AllByRecursion (λ b. top (type_at (types_in S) b.1.body) ≤ b.1.arity)) (sym i.types) (types-closed (types_in S) type_list i.bodies i.bodies_are few-variables);
    };
    known = subst (AllByRecursion (λ b. is_below (made S) (type_at (types_in S) b.1) ≡ true)) (sym i.tyvars) tt;
    schemes = λ k s e.
        let c = closed-at (types_in S) C.schemes.items (schemes_in entries ++ (schemes_in integers ++ schemes_in hidden)) k s i.schemes closed-all e in
        record { held = held-at (length (types_in S)) C.schemes.items k s i.schemes_held e; closed = c.below; inhabited = c.marks };
    entries = λ qs x e q. entries-held qs x e q;
    numbered = entries-free S.next;
    live = subst (AllByRecursion (λ b. IsLive S b.1)) (sym i.tyvars) tt;
    level = let a = level in let b = i.level in omega (arith, a, b);
    tidy = subst (IsTidy S) (sym level) tidy;
  }

-- what the code makes are the contexts of both bases
pub record AreBases (ts : List Typ) (C : Context) : Type 0 where
  pub prelude : IsBasis ts C prelude_places
  pub initial : IsBasis ts (without_prim C) initial_places

pub bases_are : (ts : List Typ) (C : Context) (b : Basis) → HasBasis ts b → HasRows C.values row_list 0 → C.structures ≡ structure_list → HasMembers C.members.items
    → map (λ es. es.items) C.contents.items ≡ all_contents → C.types.tyvars ≡ [] → C.types.types ≡ type_entries type_list b.bodies.items → marks_at C.schemes.items ≡ all_marks b → constructors_at C.schemes.items ≡ all_constructors → C.level ≡ 0 → C.names ≡ 8
    → C.naming ≡ None → C.numbers ≡ [] → AreBases ts C
bases_are ts C b h v s ms cs tv ty g bs l n o ns =
    let all = b.values.items ++ (b.integers.items ++ b.hidden.items) in
    let whole : marks_at C.schemes.items ≡ basis_marks all =
    g ∙ ap (λ z. basis_marks b.values.items ++ z) (sym (marks-append b.integers.items b.hidden.items)) ∙ sym (marks-append b.values.items (b.integers.items ++ b.hidden.items)) in
    let schemes : map (scheme_in ts) C.schemes.items ≡ schemes_in entries ++ (schemes_in integers ++ schemes_in hidden) =
    schemes-from ts C.schemes.items all whole ∙ schemes-append ts b.values.items (b.integers.items ++ b.hidden.items)
    ∙ ap₂ (λ x y. x ++ y) h.values (schemes-append ts b.integers.items b.hidden.items ∙ ap₂ (λ x y. x ++ y) h.integers h.hidden) in
    let held : AllByRecursion (λ s. s.body < length ts) C.schemes.items =
    schemes-below (length ts) C.schemes.items all whole
    (below-append (length ts) b.values.items (b.integers.items ++ b.hidden.items) h.values_held (below-append (length ts) b.integers.items b.hidden.items h.integers_held h.hidden_held)) in
    record {
      prelude = record {
        values = v;
        placed = two-placed C ms s;
        listed = two-listed C cs s;
        tyvars = tv;
        bodies = b.bodies.items;
        types = ty;
        bodies_held = h.bodies_held;
        bodies_are = h.bodies;
        schemes = schemes;
        schemes_held = held;
        constructors = bs;
        level = l;
        names = n;
        naming = o;
        numbers = ns;
      };
      initial = record {
        values = v;
        placed = one-placed (without_prim C) ms (ap (left_at 1) s);
        listed = one-listed (without_prim C) cs (ap (left_at 1) s);
        tyvars = tv;
        bodies = b.bodies.items;
        types = ty;
        bodies_held = h.bodies_held;
        bodies_are = h.bodies;
        schemes = schemes;
        schemes_held = held;
        constructors = bs;
        level = l;
        names = n;
        naming = o;
        numbers = ns;
      };
    }

-- and the state has what they ask
module _ (S : State) (C : Context) (a : AreBases (types_in S) C) (level : S.level ≡ 0) (tidy : IsTidy S 0) where
  pub prelude_is : IsContext S C
  prelude_is = context_is S C prelude_places a.prelude (omega arith, (omega arith, tt)) level tidy

  pub initial_is : IsContext S (without_prim C)
  initial_is = context_is S (without_prim C) initial_places a.initial (omega arith, tt) level tidy

pub bodies-count : (ts : List Typ) (b : Basis) (ks : List ℕ) → HasBasis ts b → ks ≡ b.bodies.items → length ks ≡ 9
bodies-count ts b ks h e = ap length e ∙ sym (length-map b.bodies.items (type_at ts)) ∙ ap length h.bodies

pub values-count : (ts : List Typ) (b : Basis) → HasBasis ts b → length b.values.items ≡ 25
values-count ts b h = sym (length-map b.values.items (scheme_of ts)) ∙ ap length h.values

pub integers-count : (ts : List Typ) (b : Basis) → HasBasis ts b → length b.integers.items ≡ 3
integers-count ts b h = sym (length-map b.integers.items (scheme_of ts)) ∙ ap length h.integers

pub hidden-count : (ts : List Typ) (b : Basis) → HasBasis ts b → length b.hidden.items ≡ 21
hidden-count ts b h = sym (length-map b.hidden.items (scheme_of ts)) ∙ ap length h.hidden
