-- Rows of the initial basis in their order: the constructors of type constructors, and what structures have.
use Rattle.std.proofs.Common.{◌≡◌, ◌≤◌, ◌+◌, ℕ, suc, Bool, true, false, not, ◌||◌, cond, List, [], ◌∷◌, take, drop, length, nat_eq, Option, Some, None, ◌⊎◌, inl, inr, refl, sym, ap, ap₂, subst, ◌∙◌}
use Rattle.std.specs.Prelude.{⊤}
use Rattle.std.specs.List.{AllByRecursion}
use Rattle.std.specs.Map.{lookup}
use Rattle.std.specs.Option.{option_or}
use Rattle.std.proofs.lemmas.Bool.{and_parts}
use Rattle.std.proofs.lemmas.List.{drop-map, take-map}
use Rattle.sml_tree.specs.declared.ident.Vid.{Vid}
use Rattle.sml_tree.specs.declared.ident.Vid.TheVariants.{Named, Equals, Fresh}
use Rattle.core_rules.specs.Objects.{at, structure_map, values_env}
use Rattle.core_rules.specs.Restrictions.{distinct}
use Rattle.core_rules.specs.Words.{is_in, same_vid}
use Rattle.core_rules.specs.Initial.{Entry as Row, TypeEntry as TypeRow, Members, static_structures, static_types, static_values}
use Rattle.core_rules.proofs.LookUps.{vid-tells}
use Rattle.core_elab.specs.Scopes.{Denotes, Scope, inside_in, members_scope, plus_scope, rows_scope, scoped, type_rows_scope, typed_in}
use Rattle.elab_typed.specs.Contexts.{Around, Kept, given_values}
use Rattle.elab_types.specs.declared.scope.TypeEntry.{TypeEntry}
use Rattle.elab_steps.specs.World.{World}
use Rattle.elab_context.specs.Entries.{constructor_entry, constructors_in, entry_in, last_of}
use Rattle.elab_context.specs.Telling.{HasConstructors, HasContents, IsFit, denotes_of, kept_entries, scope_of_entries, vids_in}
use Rattle.elab_context.specs.declared.context.Context.{Context}
use Rattle.elab_context.specs.declared.entry.Built.{Built}
use Rattle.elab_context.specs.declared.entry.Entry.{Entry}
use Rattle.elab_context.specs.declared.entry.Scheme as code
use Rattle.basis_context.specs.Basis.{Rows, NamedType, all_constructors, arity_of, constructors_at, entry_at, listed_rows, type_entries, vid_at}
use Rattle.basis_context.proofs.Agreeing.{AreRows, ArePlaces, Places, front, place_entry, row_entry, rows-alone}

-- what is listed agrees with the rows of the table, one by one
module _ (C : Context) (W : World) (A : Around) where
  pub kept-listed : (rs : List Row) (cs : Rows) (k : ℕ) → AreRows C W A rs cs k → given_values (static_values rs) ≡ kept_entries C W (listed_rows cs k)
  kept-listed [] [] k h = refl
  kept-listed [] (c ∷ cs) k h = absurd h
  kept-listed (r ∷ rs) [] k h = absurd h
  kept-listed (r ∷ rs) (c ∷ cs) k h =
      ap₂ (λ (e : Vid × Kept) l. e ∷ l) (ap₂ (λ (v : Vid) (x : Kept). (v, x)) h.0.vid (sym h.0.kept)) (kept-listed rs cs (suc k) h.1)

  pub scope-listed : (rs : List Row) (cs : Rows) (k : ℕ) → AreRows C W A rs cs k → rows_scope rs ≡ scope_of_entries (listed_rows cs k)
  scope-listed [] [] k h = refl
  scope-listed [] (c ∷ cs) k h = absurd h
  scope-listed (r ∷ rs) [] k h = absurd h
  scope-listed (r ∷ rs) (c ∷ cs) k h =
      ap₂ (λ (v : Vid) (d : Denotes). scoped v d (rows_scope rs)) h.0.vid (sym h.0.denotes) ∙ ap (scoped (vid_at c.0) (denotes_of (entry_at c.1 k))) (scope-listed rs cs (suc k) h.1)

  pub fit-listed : (rs : List Row) (cs : Rows) (k : ℕ) → AreRows C W A rs cs k → AllByRecursion (λ c. IsFit C W A c.1) (listed_rows cs k)
  fit-listed [] [] k h = tt
  fit-listed [] (c ∷ cs) k h = absurd h
  fit-listed (r ∷ rs) [] k h = absurd h
  fit-listed (r ∷ rs) (c ∷ cs) k h = (h.0.fit, fit-listed rs cs (suc k) h.1)

-- where each identifier stands once, the last of it is the first

not-so : (b : Bool) → not b ≡ true → b ≡ false
not-so true h = cc
not-so false h = refl

absent : (es : List (Vid × Entry)) (x : Vid) → is_in same_vid x (vids_in es) ≡ false → last_of es x ≡ None
absent [] x h = refl
absent (e ∷ es) x h = by (same_vid x e.0) h (absent es x)
  where
    by : (c : Bool) → (c || is_in same_vid x (vids_in es)) ≡ false → (is_in same_vid x (vids_in es) ≡ false → last_of es x ≡ None)
        → option_or (last_of es x) (cond c (Some e.1) None) ≡ None
    by true h k = cc
    by false h k = ap (λ o. option_or o None) (k h)

or-none : {A : Type 0} (o : Option A) → option_or o None ≡ o
or-none None = refl
or-none (Some a) = refl

last-first : (es : List (Vid × Entry)) (x : Vid) → distinct same_vid (vids_in es) ≡ true → last_of es x ≡ lookup (same_vid x) es
last-first [] x d = refl
last-first (e ∷ es) x d =
    let p = and_parts (not (is_in same_vid e.0 (vids_in es))) (distinct same_vid (vids_in es)) d in
    by (vid-tells x e.0) (absent es e.0 (not-so (is_in same_vid e.0 (vids_in es)) p.0)) (last-first es x p.1)
  where
    by : ((same_vid x e.0 ≡ true) × (x ≡ e.0)) ⊎ (same_vid x e.0 ≡ false) → last_of es e.0 ≡ None → last_of es x ≡ lookup (same_vid x) es
        → option_or (last_of es x) (cond (same_vid x e.0) (Some e.1) None) ≡ cond (same_vid x e.0) (Some e.1) (lookup (same_vid x) es)
    by (inl q) n h =
        ap₂ (λ o c. option_or o (cond c (Some e.1) None)) (ap (last_of es) q.1 ∙ n) q.0 ∙ sym (ap (λ c. cond c (Some e.1) (lookup (same_vid x) es)) q.0)
    by (inr q) n h =
        ap₂ (λ o c. option_or o (cond c (Some e.1) None)) h q ∙ or-none (lookup (same_vid x) es) ∙ sym (ap (λ c. cond c (Some e.1) (lookup (same_vid x) es)) q)

lookup-listed : (rs : Rows) (k : ℕ) (x : Vid) → lookup (same_vid x) (listed_rows rs k) ≡ row_entry rs k x
lookup-listed [] k (Named x) = refl
lookup-listed [] k (Fresh x) = refl
lookup-listed [] k Equals = refl
lookup-listed ((w, a) ∷ rs) k x = ap (cond (same_vid x (vid_at w)) (Some (entry_at a k))) (lookup-listed rs (suc k) x) ∙ sym (front rs k w a x)

abbrev pub IsOnce : Rows → ℕ → Type 0
IsOnce rs k = distinct same_vid (vids_in (listed_rows rs k)) ≡ true

last-listed : (rs : Rows) (k : ℕ) (x : Vid) → IsOnce rs k → last_of (listed_rows rs k) x ≡ row_entry rs k x
last-listed rs k x h = last-first (listed_rows rs k) x h ∙ lookup-listed rs k x

-- what structures have

abbrev pub place_contents : Places → ℕ → Option (List (Vid × Entry))
place_contents [] q = None
place_contents (p ∷ ps) q = cond (nat_eq q p.0) (Some (listed_rows p.1.0 p.1.1)) (place_contents ps q)

rows-untyped : (rs : List Row) (x : ℕ) → typed_in (rows_scope rs) x ≡ None
rows-untyped [] x = refl
rows-untyped (r ∷ rs) x = rows-untyped rs x

module _ (C : Context) (W : World) (A : Around) where
  pub has-contents : (ms : Members) (ps : Places) (q : ℕ) (es : List (Vid × Entry)) → ArePlaces C W A ms ps → AllByRecursion (λ p. IsOnce p.1.0 p.1.1) ps → place_contents ps q ≡ Some es
      → ((x : Vid) → place_entry ps q x ≡ entry_in C (q ∷ []) x) → HasContents C q es (at nat_eq (structure_map (static_structures ms)) q) (inside_in (members_scope ms) q)
  has-contents [] [] q es h once e f = cc
  has-contents [] (p ∷ ps) q es h once e f = absurd h
  has-contents (m ∷ ms) [] q es h once e f = absurd h
  has-contents (m ∷ ms) (p ∷ ps) q es h once e f =
      by (nat_eq q m.0) (nat_eq q p.0) (ap (nat_eq q) h.0) e f (λ e f. has-contents ms ps q es h.1.1 once.1 e f)
    where
      by : (a b : Bool) → a ≡ b → cond b (Some (listed_rows p.1.0 p.1.1)) (place_contents ps q) ≡ Some es
          → ((x : Vid) → cond b (row_entry p.1.0 p.1.1 x) (place_entry ps q x) ≡ entry_in C (q ∷ []) x)
          → (place_contents ps q ≡ Some es → ((x : Vid) → place_entry ps q x ≡ entry_in C (q ∷ []) x)
          → HasContents C q es (at nat_eq (structure_map (static_structures ms)) q) (inside_in (members_scope ms) q))
          → HasContents C q es (cond a (Some (values_env (static_values m.1))) (at nat_eq (structure_map (static_structures ms)) q))
          (cond a (Some (rows_scope m.1)) (inside_in (members_scope ms) q))
      by true true s e f k =
          let same : listed_rows p.1.0 p.1.1 ≡ es = cc in
          record {
            values = static_values m.1;
            is = refl;
            inner = rows_scope m.1;
            scopes = refl;
            untyped = rows-untyped m.1;
            alone = rows-alone m.1;
            entries = λ x. ap (λ l. last_of l x) (sym same) ∙ last-listed p.1.0 p.1.1 x once.0 ∙ f x;
          }
      by true false s e f k = absurd (cc)
      by false true s e f k = absurd (cc)
      by false false s e f k = k e f

-- the constructors that schemes are of, where it is known which they are

abbrev built_in : ℕ → List (Option Built) → List (Vid × Entry)
built_in k [] = []
built_in k (None ∷ os) = built_in (suc k) os
built_in k (Some c ∷ os) = constructor_entry k c ∷ built_in (suc k) os

built-same : (k : ℕ) (ss : List code.Scheme) → constructors_in k ss ≡ built_in k (constructors_at ss)
built-same k [] = refl
built-same k (s ∷ ss) = by s.constructor (built-same (suc k) ss)
  where
    by : (o : Option Built) → constructors_in (suc k) ss ≡ built_in (suc k) (constructors_at ss)
        → (elim o [ None ↦ constructors_in (suc k) ss | Some c ↦ constructor_entry k c ∷ constructors_in (suc k) ss ]) ≡ built_in k (o ∷ constructors_at ss)
    by None h = h
    by (Some c) h = ap (λ l. constructor_entry k c ∷ l) h

pub built-range : (ss : List code.Scheme) (k n : ℕ) → constructors_at ss ≡ all_constructors → constructors_in k (take n (drop k ss)) ≡ built_in k (take n (drop k all_constructors))
built-range ss k n e =
    built-same k (take n (drop k ss))
    ∙ ap (built_in k)
    (sym (take-map (λ (s : code.Scheme). s.constructor) n (drop k ss)) ∙ ap (take n) (sym (drop-map (λ (s : code.Scheme). s.constructor) k ss)) ∙ ap (λ l. take n (drop k l)) e)

-- type constructors with their constructors
module _ (C : Context) (W : World) (A : Around) where
  -- a row of the table and one of the code say the same: the constructors are those of these rows
  pub record IsTypeRow (r : TypeRow) (t : NamedType) : Type 0 where
    pub word : r.tycon ≡ t.0
    pub rows : Rows
    pub are : AreRows C W A r.constructors rows t.2.first
    pub listed : constructors_in t.2.first (take t.2.count (drop t.2.first C.schemes.items)) ≡ listed_rows rows t.2.first
    pub once : IsOnce rows t.2.first
    pub within : t.2.first + t.2.count ≤ length C.schemes.items

  abbrev pub AreTypeRows : List TypeRow → List NamedType → Type 0
  AreTypeRows [] [] = ⊤
  AreTypeRows [] (t ∷ ts) = ⊥
  AreTypeRows (r ∷ rs) [] = ⊥
  AreTypeRows (r ∷ rs) (t ∷ ts) = IsTypeRow r t × AreTypeRows rs ts

  pub has-constructors : (rs : List TypeRow) (ts : List NamedType) (bs : List ℕ) (x : ℕ) (e : TypeEntry) → AreTypeRows rs ts → lookup (nat_eq x) (type_entries ts bs) ≡ Some e
      → HasConstructors C W A e (at nat_eq (static_types rs) x) (typed_in (type_rows_scope rs) x)
  has-constructors [] [] bs x e h q = cc
  has-constructors [] (t ∷ ts) bs x e h q = absurd h
  has-constructors (r ∷ rs) [] bs x e h q = absurd h
  has-constructors (r ∷ rs) (t ∷ ts) [] x e h q = cc
  has-constructors (r ∷ rs) (t ∷ ts) (b ∷ bs) x e h q =
      by (nat_eq x r.tycon) (nat_eq x t.0) (ap (nat_eq x) h.0.word) q (has-constructors rs ts bs x e h.1)
    where
      by : (c d : Bool) → c ≡ d → cond d (Some (record { arity = arity_of t.1; body = b; constructors = t.2 })) (lookup (nat_eq x) (type_entries ts bs)) ≡ Some e
          → (lookup (nat_eq x) (type_entries ts bs) ≡ Some e → HasConstructors C W A e (at nat_eq (static_types rs) x) (typed_in (type_rows_scope rs) x))
          → HasConstructors C W A e (cond c (Some (record { function = r.function; constructors = static_values r.constructors })) (at nat_eq (static_types rs) x))
          (cond c (Some (rows_scope r.constructors)) (typed_in (type_rows_scope rs) x))
      by true true s q k =
          let f = h.0 in
          let same : record { arity = arity_of t.1; body = b; constructors = t.2 } ≡ e = cc in
          subst (λ z. HasConstructors C W A z (Some (record { function = r.function; constructors = static_values r.constructors })) (Some (rows_scope r.constructors))) same
          (record {
            structure = record { function = r.function; constructors = static_values r.constructors };
            is = refl;
            values = kept-listed C W A r.constructors f.rows t.2.first f.are ∙ ap (kept_entries C W) (sym f.listed);
            scopes = ap Some (scope-listed C W A r.constructors f.rows t.2.first f.are ∙ ap scope_of_entries (sym f.listed));
            once = ap (λ l. distinct same_vid (vids_in l)) f.listed ∙ f.once;
            fit = subst (AllByRecursion (λ c. IsFit C W A c.1)) (sym f.listed) (fit-listed C W A r.constructors f.rows t.2.first f.are);
            within = f.within;
          })
      by true false s q k = absurd (cc)
      by false true s q k = absurd (cc)
      by false false s q k = k q

-- what stands in front of the types and behind them

pub no-members-typed : (ms : Members) (x : ℕ) → typed_in (members_scope ms) x ≡ None
no-members-typed [] x = refl
no-members-typed (m ∷ ms) x = no-members-typed ms x

pub types-typed : (s : Scope) (ts : List TypeRow) (x : ℕ) → typed_in s x ≡ None → typed_in (plus_scope s (type_rows_scope ts)) x ≡ typed_in (type_rows_scope ts) x
types-typed s [] x e = e
types-typed s (t ∷ ts) x e = ap (cond (nat_eq x t.tycon) (Some (rows_scope t.constructors))) (types-typed s ts x e)

pub rows-typed : (s : Scope) (rs : List Row) (x : ℕ) → typed_in (plus_scope s (rows_scope rs)) x ≡ typed_in s x
rows-typed s [] x = refl
rows-typed s (r ∷ rs) x = rows-typed s rs x
