-- Rows of the initial basis, in its table and in the code.
use Rattle.std.proofs.Common.{◌≡◌, ℕ, suc, Bool, true, false, cond, List, [], ◌∷◌, nat_eq, Option, Some, None, refl, sym, ap, subst, ◌∙◌}
use Rattle.std.specs.Prelude.{option_map, option_and_then, ⊤}
use Rattle.std.specs.Map.{lookup}
use Rattle.sml_tree.specs.declared.ident.Vid.{Vid}
use Rattle.sml_tree.specs.declared.ident.Vid.TheVariants.{Named, Equals, Fresh}
use Rattle.core_rules.specs.Words.{same_vid}
use Rattle.core_rules.specs.Objects.{along, at, structure_map, types, value_in, values_env, Values}
use Rattle.core_rules.specs.Initial.{Entry as Row, TypeEntry as TypeRow, Members, static_structures, static_values}
use Rattle.core_elab.specs.Scopes.{along_scope, denotes_in, inside_in, members_scope, plus_scope, rows_scope, type_rows_scope, Scope, denotes_of as row_denotes}
use Rattle.elab_typed.specs.Contexts.{Around, given, given_values}
use Rattle.elab_steps.specs.World.{World}
use Rattle.elab_context.specs.Telling.{IsFit, kept_of, denotes_of, known_of}
use Rattle.elab_context.specs.declared.context.Context.{Context}
use Rattle.elab_context.specs.declared.entry.Entry.{Entry}
use Rattle.basis_context.specs.Basis.{Rows, entry_at, named_rows, equal_rows, vid_at}
use Rattle.basis_context.specs.declared.rows.Kind.{Kind}

-- what the rows have, the first in front
abbrev pub row_entry : Rows → ℕ → Vid → Option Entry
row_entry rs k (Named x) = lookup (nat_eq x) (named_rows rs k)
row_entry rs k (Fresh x) = None
row_entry rs k Equals = lookup (nat_eq 0) (equal_rows rs k)

-- a row of the table and one of the code say the same
pub record IsRow (C : Context) (W : World) (A : Around) (r : Row) (w : Option ℕ) (a : Kind) (k : ℕ) : Type 0 where
  pub vid : r.vid ≡ vid_at w
  pub kept : kept_of C W (entry_at a k) ≡ given (record { scheme = r.scheme; status = r.status })
  pub denotes : denotes_of (entry_at a k) ≡ row_denotes r.value
  pub fit : IsFit C W A (entry_at a k)
  pub unknown : known_of W A (entry_at a k) ≡ None

-- one row more in front
pub front : (cs : Rows) (k : ℕ) (w : Option ℕ) (a : Kind) (x : Vid) → row_entry ((w, a) ∷ cs) k x ≡ cond (same_vid x (vid_at w)) (Some (entry_at a k)) (row_entry cs (suc k) x)
front cs k (Some w) a (Named x) = refl
front cs k (Some w) a (Fresh x) = refl
front cs k (Some w) a Equals = refl
front cs k None a (Named x) = refl
front cs k None a (Fresh x) = refl
front cs k None a Equals = refl

module _ (C : Context) (W : World) (A : Around) where
  abbrev pub AreRows : List Row → Rows → ℕ → Type 0
  AreRows [] [] k = ⊤
  AreRows [] (c ∷ cs) k = ⊥
  AreRows (r ∷ rs) [] k = ⊥
  AreRows (r ∷ rs) (c ∷ cs) k = IsRow C W A r c.0 c.1 k × AreRows rs cs (suc k)

  pub kept-rows : (rs : List Row) (cs : Rows) (k : ℕ) (x : Vid) → AreRows rs cs k → at same_vid (given_values (static_values rs)) x ≡ option_map (kept_of C W) (row_entry cs k x)
  kept-rows [] [] k (Named x) h = refl
  kept-rows [] [] k (Fresh x) h = refl
  kept-rows [] [] k Equals h = refl
  kept-rows [] (c ∷ cs) k x h = absurd h
  kept-rows (r ∷ rs) [] k x h = absurd h
  kept-rows (r ∷ rs) ((w, a) ∷ cs) k x h =
      by (same_vid x r.vid) (kept-rows rs cs (suc k) x h.1) ∙ sym (ap (option_map (kept_of C W)) (front cs k w a x ∙ ap (λ v. cond (same_vid x v) (Some (entry_at a k)) (row_entry cs (suc k) x)) (sym h.0.vid)))
    where
      by : (b : Bool) → at same_vid (given_values (static_values rs)) x ≡ option_map (kept_of C W) (row_entry cs (suc k) x)
          → cond b (Some (given (record { scheme = r.scheme; status = r.status }))) (at same_vid (given_values (static_values rs)) x)
          ≡ option_map (kept_of C W) (cond b (Some (entry_at a k)) (row_entry cs (suc k) x))
      by true e = ap Some (sym h.0.kept)
      by false e = e

  pub denoted-rows : (rs : List Row) (cs : Rows) (k : ℕ) (x : Vid) → AreRows rs cs k → denotes_in (rows_scope rs) x ≡ option_map denotes_of (row_entry cs k x)
  denoted-rows [] [] k (Named x) h = refl
  denoted-rows [] [] k (Fresh x) h = refl
  denoted-rows [] [] k Equals h = refl
  denoted-rows [] (c ∷ cs) k x h = absurd h
  denoted-rows (r ∷ rs) [] k x h = absurd h
  denoted-rows (r ∷ rs) ((w, a) ∷ cs) k x h =
      by (same_vid x r.vid) (denoted-rows rs cs (suc k) x h.1) ∙ sym (ap (option_map denotes_of) (front cs k w a x ∙ ap (λ v. cond (same_vid x v) (Some (entry_at a k)) (row_entry cs (suc k) x)) (sym h.0.vid)))
    where
      by : (b : Bool) → denotes_in (rows_scope rs) x ≡ option_map denotes_of (row_entry cs (suc k) x)
          → cond b (Some (row_denotes r.value)) (denotes_in (rows_scope rs) x) ≡ option_map denotes_of (cond b (Some (entry_at a k)) (row_entry cs (suc k) x))
      by true e = ap Some (sym h.0.denotes)
      by false e = e

  -- what is found is a row's
  pub record IsFound (e : Entry) : Type 0 where
    pub fit : IsFit C W A e
    pub unknown : known_of W A e ≡ None

  pub found-rows : (rs : List Row) (cs : Rows) (k : ℕ) (x : Vid) (e : Entry) → AreRows rs cs k → row_entry cs k x ≡ Some e → IsFound e
  found-rows [] [] k (Named x) e h q = cc
  found-rows [] [] k (Fresh x) e h q = cc
  found-rows [] [] k Equals e h q = cc
  found-rows [] (c ∷ cs) k x e h q = absurd h
  found-rows (r ∷ rs) [] k x e h q = absurd h
  found-rows (r ∷ rs) ((w, a) ∷ cs) k x e h q = by (same_vid x (vid_at w)) (λ s. found-rows rs cs (suc k) x e h.1 s) (sym (front cs k w a x) ∙ q)
    where
      by : (b : Bool) → (row_entry cs (suc k) x ≡ Some e → IsFound e) → cond b (Some (entry_at a k)) (row_entry cs (suc k) x) ≡ Some e → IsFound e
      by true f s = let same : entry_at a k ≡ e = cc in subst IsFound same (record { fit = h.0.fit; unknown = h.0.unknown })
      by false f s = f s

-- values of structures are given

given-at : (vs : Values) (x : Vid) → at same_vid (given_values vs) x ≡ option_map given (at same_vid vs x)
given-at [] x = refl
given-at (v ∷ vs) x = by (same_vid x v.0) (given-at vs x)
  where
    by : (b : Bool) → at same_vid (given_values vs) x ≡ option_map given (at same_vid vs x)
        → cond b (Some (given v.1)) (at same_vid (given_values vs) x) ≡ option_map given (cond b (Some v.1) (at same_vid vs x))
    by true e = refl
    by false e = e

-- structures of the code: what each has, with the number of its first scheme
abbrev pub Places : Type 0
Places = List (ℕ × (Rows × ℕ))

abbrev pub place_entry : Places → ℕ → Vid → Option Entry
place_entry [] q x = None
place_entry (p ∷ ps) q x = cond (nat_eq q p.0) (row_entry p.1.0 p.1.1 x) (place_entry ps q x)

module _ (C : Context) (W : World) (A : Around) where
  abbrev pub ArePlaces : Members → Places → Type 0
  ArePlaces [] [] = ⊤
  ArePlaces [] (p ∷ ps) = ⊥
  ArePlaces (m ∷ ms) [] = ⊥
  ArePlaces (m ∷ ms) (p ∷ ps) = (m.0 ≡ p.0) × (AreRows C W A m.1 p.1.0 p.1.1 × ArePlaces ms ps)

  pub kept-places : (ms : Members) (ps : Places) (q : ℕ) (x : Vid) → ArePlaces ms ps
      → option_map given (option_and_then (λ d. value_in d x) (option_and_then (λ d. along d []) (at nat_eq (structure_map (static_structures ms)) q)))
      ≡ option_map (kept_of C W) (place_entry ps q x)
  kept-places [] [] q x h = refl
  kept-places [] (p ∷ ps) q x h = absurd h
  kept-places (m ∷ ms) [] q x h = absurd h
  kept-places (m ∷ ms) (p ∷ ps) q x h =
      by (nat_eq q m.0) (kept-places ms ps q x h.1.1) ∙ ap (λ n. option_map (kept_of C W) (cond (nat_eq q n) (row_entry p.1.0 p.1.1 x) (place_entry ps q x))) h.0
    where
      by : (b : Bool)
          → option_map given (option_and_then (λ d. value_in d x) (option_and_then (λ d. along d []) (at nat_eq (structure_map (static_structures ms)) q)))
          ≡ option_map (kept_of C W) (place_entry ps q x)
          → option_map given (option_and_then (λ d. value_in d x)
          (option_and_then (λ d. along d []) (cond b (Some (values_env (static_values m.1))) (at nat_eq (structure_map (static_structures ms)) q))))
          ≡ option_map (kept_of C W) (cond b (row_entry p.1.0 p.1.1 x) (place_entry ps q x))
      by true e = sym (given-at (static_values m.1) x) ∙ kept-rows C W A m.1 p.1.0 p.1.1 x h.1.0
      by false e = e

  pub denoted-places : (ms : Members) (ps : Places) (q : ℕ) (x : Vid) → ArePlaces ms ps
      → option_and_then (λ d. denotes_in d x) (option_and_then (λ d. along_scope d []) (inside_in (members_scope ms) q)) ≡ option_map denotes_of (place_entry ps q x)
  denoted-places [] [] q x h = refl
  denoted-places [] (p ∷ ps) q x h = absurd h
  denoted-places (m ∷ ms) [] q x h = absurd h
  denoted-places (m ∷ ms) (p ∷ ps) q x h =
      by (nat_eq q m.0) (denoted-places ms ps q x h.1.1) ∙ ap (λ n. option_map denotes_of (cond (nat_eq q n) (row_entry p.1.0 p.1.1 x) (place_entry ps q x))) h.0
    where
      by : (b : Bool)
          → option_and_then (λ d. denotes_in d x) (option_and_then (λ d. along_scope d []) (inside_in (members_scope ms) q)) ≡ option_map denotes_of (place_entry ps q x)
          → option_and_then (λ d. denotes_in d x) (option_and_then (λ d. along_scope d []) (cond b (Some (rows_scope m.1)) (inside_in (members_scope ms) q)))
          ≡ option_map denotes_of (cond b (row_entry p.1.0 p.1.1 x) (place_entry ps q x))
      by true e = denoted-rows C W A m.1 p.1.0 p.1.1 x h.1.0
      by false e = e

  pub found-places : (ms : Members) (ps : Places) (q : ℕ) (x : Vid) (e : Entry) → ArePlaces ms ps → place_entry ps q x ≡ Some e → IsFound C W A e
  found-places [] [] q x e h f = cc
  found-places [] (p ∷ ps) q x e h f = absurd h
  found-places (m ∷ ms) [] q x e h f = absurd h
  found-places (m ∷ ms) (p ∷ ps) q x e h f = by (nat_eq q p.0) (λ s. found-places ms ps q x e h.1.1 s) f
    where
      by : (b : Bool) → (place_entry ps q x ≡ Some e → IsFound C W A e) → cond b (row_entry p.1.0 p.1.1 x) (place_entry ps q x) ≡ Some e → IsFound C W A e
      by true g s = found-rows C W A m.1 p.1.0 p.1.1 x e h.1.0 s
      by false g s = g s

-- structures have no structures and no types

pub none-deeper : (ms : Members) (q r : ℕ) (qs : List ℕ) (x : Vid)
    → option_and_then (λ d. value_in d x) (option_and_then (λ d. along d (r ∷ qs)) (at nat_eq (structure_map (static_structures ms)) q)) ≡ None
none-deeper [] q r qs x = refl
none-deeper (m ∷ ms) q r qs x = by (nat_eq q m.0) (none-deeper ms q r qs x)
  where
    by : (b : Bool)
        → option_and_then (λ d. value_in d x) (option_and_then (λ d. along d (r ∷ qs)) (at nat_eq (structure_map (static_structures ms)) q)) ≡ None
        → option_and_then (λ d. value_in d x)
        (option_and_then (λ d. along d (r ∷ qs)) (cond b (Some (values_env (static_values m.1))) (at nat_eq (structure_map (static_structures ms)) q))) ≡ None
    by true e = refl
    by false e = e

pub rows-alone : (rs : List Row) (r : ℕ) → inside_in (rows_scope rs) r ≡ None
rows-alone [] r = refl
rows-alone (x ∷ rs) r = rows-alone rs r

pub none-denoted : (ms : Members) (q r : ℕ) (qs : List ℕ) (x : Vid)
    → option_and_then (λ d. denotes_in d x) (option_and_then (λ d. along_scope d (r ∷ qs)) (inside_in (members_scope ms) q)) ≡ None
none-denoted [] q r qs x = refl
none-denoted (m ∷ ms) q r qs x = by (nat_eq q m.0) (none-denoted ms q r qs x)
  where
    by : (b : Bool)
        → option_and_then (λ d. denotes_in d x) (option_and_then (λ d. along_scope d (r ∷ qs)) (inside_in (members_scope ms) q)) ≡ None
        → option_and_then (λ d. denotes_in d x) (option_and_then (λ d. along_scope d (r ∷ qs)) (cond b (Some (rows_scope m.1)) (inside_in (members_scope ms) q))) ≡ None
    by true e = ap (λ o. option_and_then (λ d. denotes_in d x) (option_and_then (λ d. along_scope d qs) o)) (rows-alone m.1 r)
    by false e = e

pub none-typed : (ms : Members) (q : ℕ) (qs : List ℕ) (x : ℕ)
    → option_and_then (λ d. at nat_eq (types d) x) (option_and_then (λ d. along d qs) (at nat_eq (structure_map (static_structures ms)) q)) ≡ None
none-typed [] q qs x = refl
none-typed (m ∷ ms) q qs x = by (nat_eq q m.0) qs (none-typed ms q qs x)
  where
    by : (b : Bool) (qs : List ℕ)
        → option_and_then (λ d. at nat_eq (types d) x) (option_and_then (λ d. along d qs) (at nat_eq (structure_map (static_structures ms)) q)) ≡ None
        → option_and_then (λ d. at nat_eq (types d) x)
        (option_and_then (λ d. along d qs) (cond b (Some (values_env (static_values m.1))) (at nat_eq (structure_map (static_structures ms)) q))) ≡ None
    by true [] e = refl
    by true (r ∷ qs) e = refl
    by false qs e = e

-- what stands behind the structures

pub no-members-denoted : (ms : Members) (x : Vid) → denotes_in (members_scope ms) x ≡ None
no-members-denoted [] x = refl
no-members-denoted (m ∷ ms) x = no-members-denoted ms x

pub rows-over : (s : Scope) (rs : List Row) (x : Vid) → denotes_in s x ≡ None → denotes_in (plus_scope s (rows_scope rs)) x ≡ denotes_in (rows_scope rs) x
rows-over s [] x e = e
rows-over s (r ∷ rs) x e = ap (cond (same_vid x r.vid) (Some (row_denotes r.value))) (rows-over s rs x e)

pub types-over : (s : Scope) (ts : List TypeRow) (x : Vid) → denotes_in (plus_scope s (type_rows_scope ts)) x ≡ denotes_in s x
types-over s [] x = refl
types-over s (t ∷ ts) x = types-over s ts x
