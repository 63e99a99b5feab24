-- The contexts of the initial basis and of the prelude as the code makes them.
use Rattle.std.proofs.Common.{◌≡◌, ◌<◌, ℕ, zero, suc, Bool, true, false, cond, List, [], ◌∷◌, ◌++◌, map, length, nat_eq, Option, Some, None, Vec, Global, refl, sym, ap, ap₂, subst, ◌∙◌, arith}
use Rattle.std.specs.Prelude.{option_map, option_and_then, slice_get, unwrap_or}
use Rattle.std.specs.List.{AllByRecursion}
use Rattle.std.specs.Map.{lookup}
use Rattle.std.proofs.lemmas.List.{length-map}
use Rattle.ty_core.specs.Types.{Typ}
use Rattle.ty_core.specs.Statics.{TypeFunction}
use Rattle.ty_core.specs.declared.name.TyName.{TyName}
use Rattle.ty_basis.specs.Types.{bool_name, list_name}
use Rattle.ty_table.specs.TypeAt.{type_at, AllBelow}
use Rattle.sml_tree.specs.declared.ident.BuiltIn.TheVariants.{True, False, Nil, Cons}
use Rattle.sml_tree.specs.declared.ident.Vid.{Vid}
use Rattle.sml_tree.specs.declared.ident.Vid.TheVariants.{Named, Equals, Fresh}
use Rattle.core_rules.specs.Objects.{at, structure_map}
use Rattle.core_rules.specs.Elaborated.{type_in}
use Rattle.core_rules.specs.Initial.{TypeEntry as TypeRow, Members, entries, hidden, initial_members, integers, prelude_members, static_env, static_types, static_values, type_rows}
use Rattle.ir_poly.specs.TestsChecked.{Known}
use Rattle.ir_poly.specs.TestsChecked as checked
use Rattle.core_elab.specs.Scopes.{basis_scope, inside_in, long_denotes_in, members_scope, plus_scope, type_rows_scope, typed_in}
use Rattle.initial_types.specs.Schemes.{schemes_in}
use Rattle.elab_typed.specs.Contexts.{given, kept_env, kept_in, Around, generic}
use Rattle.elab_typed.proofs.Under.{kept-env-under}
use Rattle.elab_types.specs.declared.scope.TypeEntry.{TypeEntry}
use Rattle.elab_types.specs.Reading.{entry_of as type_entry_of}
use Rattle.elab_state.specs.States.{types_in}
use Rattle.elab_state.specs.declared.state.State.{State}
use Rattle.elab_steps.specs.World.{World, Comes, type_of}
use Rattle.elab_context.specs.Entries.{contents_at, entry_in, member_in}
use Rattle.elab_context.specs.Telling.{HasConstructors, HasContents, Tells, kept_of, denotes_of, known_of, function_of, scheme_of}
use Rattle.elab_context.specs.declared.context.Context.{Context}
use Rattle.elab_context.specs.declared.entry.Entry.{Entry}
use Rattle.elab_context.specs.declared.entry.Scheme as code
use Rattle.vid_scope.specs.Entries.{entry_of}
use Rattle.vid_scope.specs.declared.vids.VidScope.{VidScope}
use Rattle.basis_context.specs.Basis.{HasMembers, HasRows, Rows, NamedType, all_constructors, all_contents, constructors_at, listed_rows, scheme_in, row_list, integer_list, hidden_list, structure_list, type_list, type_entries, function_bodies, arity_of, body_of, range}
use Rattle.basis_context.specs.declared.rows.Kind.TheVariants.{Reference, Constructor}
use Rattle.basis_context.specs.Telling.{HasInitial, around_in, prelude_around_in}
use Rattle.basis_context.proofs.Agreeing.{AreRows, ArePlaces, IsFound, Places, row_entry, kept-rows, denoted-rows, found-rows, place_entry, kept-places, denoted-places, found-places, none-deeper, none-denoted, none-typed, no-members-denoted, rows-over, types-over}
use Rattle.basis_context.proofs.Listing.{AreTypeRows, IsOnce, IsTypeRow, built-range, has-constructors, has-contents, no-members-typed, place_contents, rows-typed, types-typed}
use Rattle.basis_context.proofs.Telling.{value-rows, integer-rows, hidden-rows}

-- identifiers as the code keeps them
pub rows-found : (s : VidScope Entry) (rs : Rows) (k : ℕ) (x : Vid) → HasRows s rs k → entry_of s x ≡ row_entry rs k x
rows-found s rs k (Named x) h = ap (lookup (nat_eq x)) h.named
rows-found s rs k (Fresh x) h = ap (lookup (nat_eq x)) h.fresh
rows-found s rs k Equals h = ap (lookup (nat_eq 0)) h.equals

-- where what each structure has stands, with and without `Prim`
abbrev pub initial_places : Places
initial_places = (72, (integer_list, 25)) ∷ []

abbrev pub prelude_places : Places
prelude_places = (49, (hidden_list, 28)) ∷ initial_places

-- a context that is that of the basis, with these structures
pub record IsBasis (ts : List Typ) (C : Context) (ps : Places) : Type 0 where
  pub values : HasRows C.values row_list 0
  pub placed : (q : ℕ) (x : Vid) → entry_in C (q ∷ []) x ≡ place_entry ps q x
  pub listed : (q k : ℕ) → lookup (nat_eq q) C.structures ≡ Some k → place_contents ps q ≡ Some (contents_at C k)
  pub tyvars : C.types.tyvars ≡ []
  pub bodies : List ℕ
  pub types : C.types.types ≡ type_entries type_list bodies
  pub bodies_held : AllBelow (length ts) bodies
  pub bodies_are : map (type_at ts) bodies ≡ function_bodies
  pub schemes : map (scheme_in ts) C.schemes.items ≡ schemes_in entries ++ (schemes_in integers ++ schemes_in hidden)
  pub schemes_held : AllByRecursion (λ s. s.body < length ts) C.schemes.items
  pub constructors : constructors_at C.schemes.items ≡ all_constructors
  pub level : C.level ≡ 0
  pub names : C.names ≡ 8
  pub naming : C.naming ≡ None
  pub numbers : C.numbers ≡ []

pub scheme-count : (ts : List Typ) (C : Context) (ps : Places) → IsBasis ts C ps → length C.schemes.items ≡ 49
scheme-count ts C ps i = sym (length-map C.schemes.items (scheme_in ts)) ∙ ap length i.schemes

-- what the structures have

pub two-placed : (C : Context) → HasMembers C.members.items → C.structures ≡ structure_list → (q : ℕ) (x : Vid) → entry_in C (q ∷ []) x ≡ place_entry prelude_places q x
two-placed C h s q x =
    ap (λ (l : List (ℕ × ℕ)). option_and_then (λ k. member_in C.members.items k x) (lookup (nat_eq q) l)) s
    ∙ ap (λ l. option_and_then (λ k. member_in l k x) (lookup (nat_eq q) structure_list)) h.all ∙ by (nat_eq q 49) (nat_eq q 72)
  where
    by : (b c : Bool) → option_and_then (λ k. member_in (h.of_integers ∷ h.of_hidden ∷ []) k x) (cond b (Some 1) (cond c (Some 0) None))
        ≡ cond b (row_entry hidden_list 28 x) (cond c (row_entry integer_list 25 x) None)
    by true c = rows-found h.of_hidden hidden_list 28 x h.hidden
    by false true = rows-found h.of_integers integer_list 25 x h.integers
    by false false = refl

pub one-placed : (C : Context) → HasMembers C.members.items → C.structures ≡ (72, 0) ∷ [] → (q : ℕ) (x : Vid) → entry_in C (q ∷ []) x ≡ place_entry initial_places q x
one-placed C h s q x =
    ap (λ (l : List (ℕ × ℕ)). option_and_then (λ k. member_in C.members.items k x) (lookup (nat_eq q) l)) s
    ∙ ap (λ l. option_and_then (λ k. member_in l k x) (lookup (nat_eq q) ((72, 0) ∷ []))) h.all ∙ by (nat_eq q 72)
  where
    by : (c : Bool) → option_and_then (λ k. member_in (h.of_integers ∷ h.of_hidden ∷ []) k x) (cond c (Some 0) None) ≡ cond c (row_entry integer_list 25 x) None
    by true = rows-found h.of_integers integer_list 25 x h.integers
    by false = refl

-- and what they have in order

listed-at : (C : Context) (k : ℕ) → map (λ es. es.items) C.contents.items ≡ all_contents → contents_at C k ≡ unwrap_or (slice_get all_contents k) []
listed-at C k e = by C.contents.items k ∙ ap (λ l. unwrap_or (slice_get l k) []) e
  where
    by : (cs : List (Vec (Vid × Entry) Global)) (k : ℕ) → (elim (slice_get cs k) [ None ↦ [] | Some es ↦ es.items ]) ≡ unwrap_or (slice_get (map (λ es. es.items) cs) k) []
    by [] k = refl
    by (c ∷ cs) zero = refl
    by (c ∷ cs) (suc k) = by cs k

pub two-listed : (C : Context) → map (λ es. es.items) C.contents.items ≡ all_contents → C.structures ≡ structure_list → (q k : ℕ) → lookup (nat_eq q) C.structures ≡ Some k
    → place_contents prelude_places q ≡ Some (contents_at C k)
two-listed C e s q k f = by (nat_eq q 49) (nat_eq q 72) (sym (ap (λ (l : List (ℕ × ℕ)). lookup (nat_eq q) l) s) ∙ f)
  where
    by : (b c : Bool) → cond b (Some 1) (cond c (Some 0) None) ≡ Some k
        → cond b (Some (listed_rows hidden_list 28)) (cond c (Some (listed_rows integer_list 25)) None) ≡ Some (contents_at C k)
    by true c g = let same : 1 ≡ k = cc in ap Some (sym (listed-at C 1 e)) ∙ ap (λ n. Some (contents_at C n)) same
    by false true g = let same : 0 ≡ k = cc in ap Some (sym (listed-at C 0 e)) ∙ ap (λ n. Some (contents_at C n)) same
    by false false g = cc

pub one-listed : (C : Context) → map (λ es. es.items) C.contents.items ≡ all_contents → C.structures ≡ (72, 0) ∷ [] → (q k : ℕ) → lookup (nat_eq q) C.structures ≡ Some k
    → place_contents initial_places q ≡ Some (contents_at C k)
one-listed C e s q k f = by (nat_eq q 72) (sym (ap (λ (l : List (ℕ × ℕ)). lookup (nat_eq q) l) s) ∙ f)
  where
    by : (c : Bool) → cond c (Some 0) None ≡ Some k → cond c (Some (listed_rows integer_list 25)) None ≡ Some (contents_at C k)
    by true g = let same : 0 ≡ k = cc in ap Some (sym (listed-at C 0 e)) ∙ ap (λ n. Some (contents_at C n)) same
    by false g = cc

-- schemes in a world

world-schemes : (S : State) (W : World) → Comes S W → (ks : List code.Scheme) → AllByRecursion (λ s. s.body < length (types_in S)) ks
    → map (λ s. scheme_of W (Some s)) ks ≡ map (scheme_in (types_in S)) ks
world-schemes S W c [] h = refl
world-schemes S W c (k ∷ ks) h = ap₂ (λ (t : Typ) l. record { marks = k.marks.items; body = t } ∷ l) (c.types k.body h.0) (world-schemes S W c ks h.1)

-- type constructors

abbrev function_at : ℕ → Typ → TypeFunction
function_at n t = record { arity = n; body = t }

types-found : (W : World) (rows : List TypeRow) (ts : List NamedType) (bs : List ℕ) (x : ℕ) → map (λ r. r.tycon) rows ≡ map (λ t. t.0) ts
    → map (λ r. r.function) rows ≡ map (λ t. function_at (arity_of t.1) (body_of t.1)) ts → map W.raw bs ≡ map (λ t. body_of t.1) ts
    → option_map (λ y. y.function) (at nat_eq (static_types rows) x) ≡ option_map (function_of W) (lookup (nat_eq x) (type_entries ts bs))
types-found W [] [] bs x d e f = refl
types-found W [] (t ∷ ts) bs x d e f = absurd (cc)
types-found W (r ∷ rows) [] bs x d e f = absurd (cc)
types-found W (r ∷ rows) (t ∷ ts) [] x d e f = absurd (cc)
types-found W (r ∷ rows) (t ∷ ts) (b ∷ bs) x d e f =
    let word : r.tycon ≡ t.0 = cc in
    let function : r.function ≡ function_at (arity_of t.1) (body_of t.1) = cc in
    let body : W.raw b ≡ body_of t.1 = cc in
    by (nat_eq x r.tycon) (nat_eq x t.0) (ap (nat_eq x) word) (function ∙ ap (function_at (arity_of t.1)) (sym body)) (types-found W rows ts bs x (cc) (cc) (cc))
  where
    by : (b1 b2 : Bool) → b1 ≡ b2 → r.function ≡ function_at (arity_of t.1) (W.raw b)
        → option_map (λ y. y.function) (at nat_eq (static_types rows) x) ≡ option_map (function_of W) (lookup (nat_eq x) (type_entries ts bs))
        → option_map (λ y. y.function) (cond b1 (Some (record { function = r.function; constructors = static_values r.constructors })) (at nat_eq (static_types rows) x))
        ≡ option_map (function_of W) (cond b2 (Some (record { arity = arity_of t.1; body = b; constructors = t.2 })) (lookup (nat_eq x) (type_entries ts bs)))
    by true true e f h = ap Some f
    by true false e f h = absurd (cc)
    by false true e f h = absurd (cc)
    by false false e f h = h

raw-bodies : (S : State) (W : World) → Comes S W → (bs : List ℕ) → AllBelow (length (types_in S)) bs → map W.raw bs ≡ map (type_at (types_in S)) bs
raw-bodies S W c [] h = refl
raw-bodies S W c (b ∷ bs) h = ap₂ (λ (t : Typ) l. t ∷ l) (c.types b h.0) (raw-bodies S W c bs h.1)

-- what is around a phrase in a basis with these structures
abbrev pub around_with : Members → World → Around
around_with ms W = record (around_in W) { env = kept_env (static_env ms); scope = basis_scope ms }

-- rows of the code in a world
module _ (S : State) (C : Context) (W : World) (c : Comes S W) (ps : Places) (i : IsBasis (types_in S) C ps) (has : HasInitial W) (A : Around) where
  are : map (λ s. scheme_of W (Some s)) C.schemes.items ≡ schemes_in entries ++ (schemes_in integers ++ schemes_in hidden)
  are = world-schemes S W c C.schemes.items i.schemes_held ∙ i.schemes

  of-values : AreRows C W A entries row_list 0
  of-values = value-rows C W i.names i.naming has are A

  -- type constructors: without constructors, and with those of some rows
  bare-row : (x : ℕ) (f : TypeFunction) (y : Option TyName) → IsTypeRow C W A (record { tycon = x; function = f; constructors = [] }) (x, y, range 0 0)
  bare-row x f y = record { word = refl; rows = []; are = tt; listed = refl; once = refl; within = omega arith }

  of-types : AreTypeRows C W A type_rows type_list
  of-types =
      let v = of-values in
      let n = scheme-count (types_in S) C ps i in (
        bare-row _ _ _,
        (
          bare-row _ _ _,
          (
            bare-row _ _ _,
            (
              bare-row _ _ _,
              (
                bare-row _ _ _,
                (
                  bare-row _ _ _,
                  (
                    record {
                      word = refl;
                      rows = (Some 7, Reference) ∷ [];
                      are = (v.0, tt);
                      listed = built-range C.schemes.items 0 1 i.constructors;
                      once = refl;
                      within = omega (arith, n);
                    },
                    (
                      record {
                        word = refl;
                        rows = (Some 11, Constructor True bool_name) ∷ (Some 12, Constructor False bool_name) ∷ [];
                        are = (v.1.0, (v.1.1.0, tt));
                        listed = built-range C.schemes.items 1 2 i.constructors;
                        once = refl;
                        within = omega (arith, n);
                      },
                      (
                        record {
                          word = refl;
                          rows = (Some 13, Constructor Nil list_name) ∷ (Some 14, Constructor Cons list_name) ∷ [];
                          are = (v.1.1.1.0, (v.1.1.1.1.0, tt));
                          listed = built-range C.schemes.items 3 2 i.constructors;
                          once = refl;
                          within = omega (arith, n);
                        },
                        tt,
                      ),
                    ),
                  ),
                ),
              ),
            ),
          ),
        ),
      )

  of-integers : AreRows C W A integers integer_list 25
  of-integers = integer-rows C W i.names i.naming has are A

  of-hidden : AreRows C W A hidden hidden_list 28
  of-hidden = hidden-rows C W i.names i.naming has are A

-- long identifiers
module _ (S : State) (C : Context) (W : World) (c : Comes S W) (ms : Members) (ps : Places) (i : IsBasis (types_in S) C ps) (has : HasInitial W)
    (h : ArePlaces C W (around_with ms W) ms ps) (once : AllByRecursion (λ p. IsOnce p.1.0 p.1.1) ps) where
  abbrev A : Around
  A = around_with ms W

  values-are : AreRows C W A entries row_list 0
  values-are = of-values S C W c ps i has A

  short-entry : (v : Vid) → row_entry row_list 0 v ≡ entry_in C [] v
  short-entry v = sym (rows-found C.values row_list 0 v i.values)

  kept-all : (qs : List ℕ) (v : Vid) → kept_in A.env (record { qualifiers = qs; vid = v }) ≡ option_map (kept_of C W) (entry_in C qs v)
  kept-all [] v = kept-rows C W A entries row_list 0 v values-are ∙ ap (option_map (kept_of C W)) (short-entry v)
  kept-all (q ∷ []) v = kept-places C W A ms ps q v h ∙ ap (option_map (kept_of C W)) (sym (i.placed q v))
  kept-all (q ∷ r ∷ qs) v = ap (option_map given) (none-deeper ms q r qs v)

  short-denoted : (v : Vid) → long_denotes_in A.scope (record { qualifiers = []; vid = v }) ≡ option_map denotes_of (row_entry row_list 0 v)
  short-denoted v =
      rows-over (plus_scope (members_scope ms) (type_rows_scope type_rows)) entries v (types-over (members_scope ms) type_rows v ∙ no-members-denoted ms v)
      ∙ denoted-rows C W A entries row_list 0 v values-are

  denoted-all : (qs : List ℕ) (v : Vid) → long_denotes_in A.scope (record { qualifiers = qs; vid = v }) ≡ option_map denotes_of (entry_in C qs v)
  denoted-all [] v = short-denoted v ∙ ap (option_map denotes_of) (short-entry v)
  denoted-all (q ∷ []) v = denoted-places C W A ms ps q v h ∙ ap (option_map denotes_of) (sym (i.placed q v))
  denoted-all (q ∷ r ∷ qs) v = none-denoted ms q r qs v

  found-all : (qs : List ℕ) (v : Vid) (e : Entry) → entry_in C qs v ≡ Some e → IsFound C W A e
  found-all [] v e q = found-rows C W A entries row_list 0 v e values-are (short-entry v ∙ q)
  found-all (n ∷ []) v e q = found-places C W A ms ps n v e h (sym (i.placed n v) ∙ q)
  found-all (n ∷ m ∷ ns) v e q = cc

  typed-all : (qs : List ℕ) (x : ℕ) → option_map (λ y. y.function) (type_in (generic A).env qs x) ≡ option_map (function_of W) (type_entry_of C.types qs x)
  typed-all [] x =
      types-found W type_rows type_list i.bodies x refl refl (raw-bodies S W c i.bodies i.bodies_held ∙ i.bodies_are) ∙ ap (λ l. option_map (function_of W) (lookup (nat_eq x) l)) (sym i.types)
  typed-all (q ∷ qs) x = ap (option_map (λ y. y.function)) (none-typed ms q qs x)

  unknown-all : (qs : List ℕ) (v : Vid) (e : Entry) (n : ℕ) (k : Known) → entry_in C qs v ≡ Some e → known_of W A e ≡ Some (n, k) → checked.at A.known n ≡ Some k
  unknown-all qs v e n k q s = let u = (found-all qs v e q).unknown in absurd (cc)

  -- what type constructors and structures have

  typed-basis : (x : ℕ) → typed_in A.scope x ≡ typed_in (type_rows_scope type_rows) x
  typed-basis x =
      rows-typed (plus_scope (members_scope ms) (type_rows_scope type_rows)) entries x ∙ types-typed (members_scope ms) type_rows x (no-members-typed ms x)

  constructors-all : (x : ℕ) (e : TypeEntry) → type_entry_of C.types [] x ≡ Some e → HasConstructors C W A e (at nat_eq A.env.types x) (typed_in A.scope x)
  constructors-all x e q =
      subst (HasConstructors C W A e (at nat_eq A.env.types x)) (sym (typed-basis x))
      (has-constructors C W A type_rows type_list i.bodies x e (of-types S C W c ps i has A) (sym (ap (λ l. lookup (nat_eq x) l) i.types) ∙ q))

  contents-all : (q k : ℕ) → lookup (nat_eq q) C.structures ≡ Some k → HasContents C q (contents_at C k) (at nat_eq (structure_map A.env.structures) q) (inside_in A.scope q)
  contents-all q k s = has-contents C W A ms ps q (contents_at C k) h once (i.listed q k s) (λ x. sym (i.placed q x))

  pub tells_all : W.parameters 0 ≡ [] → Tells C W A
  tells_all p = record {
    names = sym i.names;
    number = ap W.naming (sym i.naming);
    numbers = λ x. ap (λ (o : Option ℕ). W.naming o x) i.naming ∙ W.initial x ∙ sym (ap (λ (l : List (ℕ × ℕ)). unwrap_or (lookup (nat_eq x) l) x) i.numbers);
    initial = λ k lt. W.initial k;
    built = has;
    parameters = sym (ap W.parameters i.level ∙ p);
    values = λ x. kept-all x.qualifiers x.vid;
    denotes = λ x. denoted-all x.qualifiers x.vid;
    fit = λ x e q. (found-all x.qualifiers x.vid e q).fit;
    known = λ x e n k q s. unknown-all x.qualifiers x.vid e n k q s;
    tyvars = λ a. ap (λ l. option_map (type_of W) (lookup (nat_eq a) l)) (sym i.tyvars);
    types = λ qs x. typed-all qs x;
    constructors = constructors-all;
    structures = contents-all;
    over = λ s f a i. record { names = A.names; tyvars = []; env = (kept-env-under s (static_env ms) ∙ sym (kept-env-under f (static_env ms))) i };
  }

-- both bases
module _ (S : State) (C : Context) (W : World) (c : Comes S W) where
  pub tells_initial : IsBasis (types_in S) C initial_places → HasInitial W → W.parameters 0 ≡ [] → Tells C W (around_in W)
  tells_initial i has p = tells_all S C W c initial_members initial_places i has (refl, (of-integers S C W c initial_places i has (around_in W), tt)) (refl, tt) p

  pub tells_prelude : IsBasis (types_in S) C prelude_places → HasInitial W → W.parameters 0 ≡ [] → Tells C W (prelude_around_in W)
  tells_prelude i has p =
      let A = prelude_around_in W in
      tells_all S C W c prelude_members prelude_places i has
      (refl, (of-hidden S C W c prelude_places i has A, (refl, (of-integers S C W c prelude_places i has A, tt)))) (refl, (refl, tt)) p
