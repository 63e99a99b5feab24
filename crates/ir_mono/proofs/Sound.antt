-- A well formed program goes wrong at no number of turns.
use Rattle.std.proofs.Common.{◌≡◌, ℕ, zero, suc, List, [], ◌∷◌, ◌++◌, length, Bool, true, false, Option, Some, None, slice_get, if◌then◌else◌, nat_eq, subst, refl, sym, ap, ◌∙◌, arith}
use Rattle.std.proofs.lemmas.Bool.{eq-eqb, ltb-true}
use Rattle.ir_poly.specs.of_mlc_runs.Outcome.{wrong}
use Rattle.ir_poly.specs.of_mlc_runs.Run.{World, Answer, gives, start, then_do, or_handle, or_fail, fail, turn_from, outcome_of}
use Rattle.ir_poly.specs.of_mlc_names.declared.label.Label.{Label}
use Rattle.mlc_base.specs.declared.place.Place.{Place}
use Rattle.ir_poly.specs.of_ir_values.Values.{Value, cell, exn, closure, empty, record_of, packet_name}
use Rattle.ir_poly.specs.of_ir_values.Match.{after_match}
use Rattle.ir_poly.specs.of_ir_values.Primitives.{marked, content_of, raise_value}
use Rattle.ir_poly.specs.of_ir_plain.Tree.{Exp, Arms, Op, Fun, Row, Atoms, Exception}
use Rattle.ir_poly.specs.of_ir_plain.Meaning.{alone, V, Scope, Fits, Parts, Apply, look_all, look_row, in_front, field_in_front, on_name, exception_of, pack_value, select_from, read_reference, eval, eval_arms, eval_op, run_fun, enter, apply, identifier_of, run}
use Rattle.ir_mono.specs.Types as table
use Rattle.ir_mono.specs.Types.{part, by_number, Is, IsFunction, IsRef, IsExn, IsTable}
use Rattle.ir_mono.specs.Mono.{mono, Program, meaning}
use Rattle.ir_mono.specs.Typing as tt
use Rattle.ir_mono.specs.Typing.{of_type, exception, Sorts, sort_of, group_sorts, AtomsTyped, no_atoms_typed, an_atom_typed, RowTyped, no_row_typed, a_row_typed, NameTyped, fixed_typed, held_typed, packet_at, to_packets_at, value_at, function_at, FunTyped, t_last, t_more}
use Rattle.ir_mono.specs.Explicit.{Unless, IsExplicit, ArmsExplicit, OpExplicit, FunExplicit, FunsExplicit}
use Rattle.ir_mono.specs.WellFormed.{IsWellFormed}
use Rattle.ir_mono.specs.Values.{Shape, ValueTyped, literal_is, record_is, con_is, con_function_is, con_of_is, exn_is, exn_function_is, exn_of_is, ref_is, address_is, primitive_is, closure_is, group_is, FieldsTyped, no_fields_are, a_field_is, SortTyped, value_is, name_is, EnvTyped, empty_is, bind_is}
use Rattle.ir_mono.proofs.Values.{asked-of, bare-holds, Grows, stays, further, SameLength, no_names, one_more, ValuesTyped, no_values_are, a_value_is, IsPacket, alone_is, with_argument_is, as-value, env-grows, Found, found, look_up-typed, members-typed, FieldFound, field_found, field-typed, MatchFine, matches_fine, no_match_fine, case-fine, packet-of, record-of, Recorded, recorded, literal-name, data-name, no_store, WorldTyped}
use Rattle.ir_mono.proofs.Comparing.{address-of, Addressed, addressed}
use Rattle.ir_mono.proofs.Performed.{OfType, Fine, fine_gives, fine_raises, fine_stops, widen, here, store-grows, CellFound, cell_found, get-stored, still, reference-fine, Begun, perform-fine, arguments-typed}

-- `bare` says whether what is a function by itself may be a value
module _ (types : List table.Row) (sound : IsTable types) (bare : Bool) where
  abbrev W : Type 0
  W = V (mono types)

  then-fine : {A B : Type 0} (Q : Shape → A → Type 0) {R : Shape → B → Type 0} {S : Shape} {r : Answer W A} (go : A → World W → Answer W B) → Fine types Q S r → ((S' : Shape) (a : A) (w : World W) → Grows S S' → WorldTyped types S' w → Q S' a → Fine types R S' (go a w)) → Fine types R S (then_do r go)
  then-fine Q go (fine_gives g w q) h = widen types g (h _ _ _ g w q)
  then-fine Q go (fine_raises g w q) h = fine_raises g w q
  then-fine Q go fine_stops h = fine_stops

  handle-fine : {A : Type 0} {Q : Shape → A → Type 0} {S : Shape} {r : Answer W A} (go : W → World W → Answer W A) → Fine types Q S r → ((S' : Shape) (p : W) (w : World W) → Grows S S' → WorldTyped types S' w → IsPacket types S' p → Fine types Q S' (go p w)) → Fine types Q S (or_handle r go)
  handle-fine go (fine_gives g w q) h = fine_gives g w q
  handle-fine go (fine_raises g w q) h = widen types g (h _ _ _ g w q)
  handle-fine go fine_stops h = fine_stops

  pub turn-fine : {A : Type 0} {Q : Shape → A → Type 0} {S : Shape} (n : ℕ) (place : Place) (w : World W) (go : World W → Answer W A) → WorldTyped types S w → ((w' : World W) → WorldTyped types S w' → Fine types Q S (go w')) → Fine types Q S (turn_from n place w go)
  turn-fine zero place w go k h = fine_stops
  turn-fine (suc n) place w go k h = h _ (record { store = k.store; exceptions = k.exceptions })

  marked-fine : {A : Type 0} {Q : Shape → A → Type 0} {S : Shape} (m : Option Place) (w : World W) (go : World W → Answer W A) → WorldTyped types S w → ((w' : World W) → WorldTyped types S w' → Fine types Q S (go w')) → Fine types Q S (marked m w go)
  marked-fine None w go k h = h w k
  marked-fine (Some place) w go k h = turn-fine w.left place w go k h

  after-match-fine : {A : Type 0} {Q : Shape → A → Type 0} {S : Shape} {G : Sorts} {r : Fits (mono types)} (w : World W) (go : Scope (mono types) → World W → Answer W A) (other : World W → Answer W A) → MatchFine types S G r → ((env : Scope (mono types)) → EnvTyped types S env G → Fine types Q S (go env w)) → Fine types Q S (other w)
      → Fine types Q S (after_match r w go other)
  after-match-fine w go other (matches_fine h) k l = k _ h
  after-match-fine w go other no_match_fine k l = l

  push-name : {is : List ℕ} {as_ : List (Option ℕ)} (i : ℕ) (a : Option ℕ) → SameLength is as_ → SameLength (is ++ i ∷ []) (as_ ++ a ∷ [])
  push-name i a no_names = one_more no_names
  push-name i a (one_more h) = one_more (push-name i a h)

  name-at-end : {is : List ℕ} {as_ : List (Option ℕ)} (a : Option ℕ) → SameLength is as_ → slice_get (as_ ++ a ∷ []) (length is) ≡ Some a
  name-at-end a no_names = refl
  name-at-end a (one_more h) = name-at-end a h

  more-exceptions : (S : Shape) (a : Option ℕ) → Grows S (record S { exceptions = S.exceptions ++ a ∷ [] })
  more-exceptions S a = record { store = λ i u e. e; exceptions = λ i u e. still types S.exceptions (a ∷ []) i e; bare = refl }

  field-fine : {S : Shape} {o : Option W} {t : ℕ} (w : World W) → FieldFound types S t o → WorldTyped types S w → Fine types (OfType types t) S (or_fail o w (λ v. gives v w))
  field-fine w (field_found h) k = here types k h

  -- taken apart at its own type
  if-same : {A : Type 0} {Q : Shape → A → Type 0} {S : Shape} (n : ℕ) (w : World W) {r : Answer W A} → Fine types Q S r → Fine types Q S (if nat_eq n n then r else fail w)
  if-same {Q = Q} {S = S} n w {r} h = subst (λ b. Fine types Q S (if b then r else fail w)) (sym (eq-eqb n n refl)) h

  cell-fine : {S : Shape} {o : Option W} {t : ℕ} (w : World W) → CellFound types S t o → WorldTyped types S w → Fine types (OfType types t) S (or_fail o w (content_of (by_number types) t w))
  cell-fine {t = t} w (cell_found h) k = if-same t w (here types k h)

  -- what is done with a variable's value
  atom-fine : {A : Type 0} {Q : Shape → A → Type 0} {S : Shape} {o : Option W} {t : ℕ} (w : World W) (go : W → Answer W A) → Found types S (of_type t) o → ((v : W) → ValueTyped types S v t → Fine types Q S (go v)) → Fine types Q S (or_fail o w go)
  atom-fine w go (found (value_is h)) k = k _ h

  named-fine : {Q : Shape → W → Type 0} {S : Shape} {o : Option W} {a : Option ℕ} (w : World W) (go : W → Answer W W) → Found types S (exception a) o → ((v : W) → SortTyped types S v (exception a) → Fine types Q S (go v)) → Fine types Q S (on_name o w go)
  named-fine w go (found (name_is e)) h = h _ (name_is e)

  -- the names of the initial basis are there
  pub record Ready (S : Shape) : Type 0 where
    pub begun : Begun types S
    pub is_bare : S.bare ≡ bare

  name-found : {S : Shape} {G : Sorts} {y : Exception (mono types)} {a : Option ℕ} {env : Scope (mono types)} → Ready S → NameTyped types G y a → EnvTyped types S env G → Found types S (exception a) (exception_of y env)
  name-found b (fixed_typed {n = n} e) h = found (name_is (b.begun n e))
  name-found {S} b (held_typed {x = x} e) h = look_up-typed types S x h e

  used-fine : {S : Shape} {o : Option W} {a : Option ℕ} {t : ℕ} (w : World W) → Found types S (exception a) o → tt.ExceptionAt types a t → S.bare ≡ bare → Unless bare ((k : ℕ) → a ≡ Some k → ⊥) → WorldTyped types S w → Fine types (OfType types t) S (or_fail o w (λ v. gives v w))
  used-fine w (found (name_is e)) (packet_at h) z y k = here types k (exn_is e h)
  used-fine w (found (name_is e)) (to_packets_at {a = a} h i) z y k = here types k (exn_function_is (z ∙ bare-holds bare y (λ f. f a refl)) e h i)

  packed-fine : {S : Shape} {o : Option W} {a n : ℕ} {v : W} (m : Option Place) (w : World W) → Found types S (exception (Some a)) o → ValueTyped types S v a → IsExn types n → WorldTyped types S w → Fine types (OfType types n) S (or_fail o w (pack_value m a v w))
  packed-fine m w (found (name_is e)) h i k = marked-fine m w _ k (λ w' l. here types l (exn_of_is e h i))

  alone-typed : {S : Shape} {c u t : ℕ} {a : Option ℕ} → table.constructor_at types u c ≡ Some a → tt.AloneAt types a u t → S.bare ≡ bare → Unless bare (table.constructor_at types u c ≡ Some None) → ValueTyped types S (Rattle.ir_poly.specs.of_ir_values.Values.con u c) t
  alone-typed e value_at z y = con_is e
  alone-typed {c = c} {u = u} e (function_at {a = a} h) z y = con_function_is (z ∙ bare-holds bare y (λ q. let p : table.constructor_at types u c ≡ Some (Some a) = e in cc)) e h

  select-fine : {S : Shape} (l : Label) {n t : ℕ} {ls : List Label} {ts : List ℕ} {v : W} (w : World W) → Recorded types S sound n ls ts v → part l ls ts ≡ Some t → WorldTyped types S w → Fine types (OfType types t) S (select_from n l v w)
  select-fine {S} l {n} w (recorded h) e k = if-same n w (field-fine w (field-typed types S l h e) k)

  read-fine : {S : Shape} {t : ℕ} {v : W} (w : World W) → Addressed types sound S t v → WorldTyped types S w → Fine types (OfType types t) S (read_reference t v w)
  read-fine w (addressed {i = i} e) k = cell-fine w (get-stored types i k.store e) k

  raise-fine : {Q : Shape → W → Type 0} {S : Shape} {v : W} (w : World W) → IsPacket types S v → WorldTyped types S w → Fine types Q S (raise_value v w)
  raise-fine {S = S} w (alone_is e) k = fine_raises (stays S) k (alone_is e)
  raise-fine {S = S} w (with_argument_is e h) k = fine_raises (stays S) k (with_argument_is e h)

  -- atoms, and a row of them
  data AllThere (S : Shape) (ts : List ℕ) : Option (List W) → Type 0 where
    all_there : {vs : List W} → ValuesTyped types S vs ts → AllThere S ts (Some vs)

  next-there : {S : Shape} {t : ℕ} {ts : List ℕ} {o : Option W} {r : Option (List W)} → Found types S (of_type t) o → AllThere S ts r → AllThere S (t ∷ ts) (in_front o r)
  next-there (found (value_is h)) (all_there hs) = all_there (a_value_is h hs)

  look-all : {S : Shape} {G : Sorts} {as_ : Atoms (mono types)} {ts : List ℕ} {env : Scope (mono types)} → AtomsTyped types G as_ ts → EnvTyped types S env G → AllThere S ts (look_all as_ env)
  look-all no_atoms_typed h = all_there no_values_are
  look-all {S} (an_atom_typed {x = x} e k) h = next-there (look_up-typed types S x h e) (look-all k h)

  all-fine : {A : Type 0} {Q : Shape → A → Type 0} {S : Shape} {ts : List ℕ} {o : Option (List W)} (w : World W) (go : List W → Answer W A) → AllThere S ts o → ((vs : List W) → ValuesTyped types S vs ts → Fine types Q S (go vs)) → Fine types Q S (or_fail o w go)
  all-fine w go (all_there h) k = k _ h

  data RowThere (S : Shape) (ls : List Label) (ts : List ℕ) : Option (Parts (mono types)) → Type 0 where
    row_there : {fs : Parts (mono types)} → FieldsTyped types S fs ls ts → RowThere S ls ts (Some fs)

  next-field : {S : Shape} {l : Label} {t : ℕ} {ls : List Label} {ts : List ℕ} {o : Option W} {r : Option (Parts (mono types))} → Found types S (of_type t) o → RowThere S ls ts r → RowThere S (l ∷ ls) (t ∷ ts) (field_in_front l o r)
  next-field (found (value_is h)) (row_there hs) = row_there (a_field_is h hs)

  look-row : {S : Shape} {G : Sorts} {row : Row (mono types)} {ls : List Label} {ts : List ℕ} {env : Scope (mono types)} → RowTyped types G row ls ts → EnvTyped types S env G → RowThere S ls ts (look_row row env)
  look-row no_row_typed h = row_there no_fields_are
  look-row {S} (a_row_typed {x = x} e k) h = next-field (look_up-typed types S x h e) (look-row k h)

  row-fine : {A : Type 0} {Q : Shape → A → Type 0} {S : Shape} {ls : List Label} {ts : List ℕ} {o : Option (Parts (mono types))} (w : World W) (go : Parts (mono types) → Answer W A) → RowThere S ls ts o → ((fs : Parts (mono types)) → FieldsTyped types S fs ls ts → Fine types Q S (go fs)) → Fine types Q S (or_fail o w go)
  row-fine w go (row_there h) k = k _ h

  begun-grows : {S S' : Shape} → Grows S S' → Ready S → Ready S'
  begun-grows g b = record { begun = λ i e. g.exceptions i None (b.begun i e); is_bare = g.bare ∙ b.is_bare }

  abbrev pub CallsFine : Apply (mono types) → Type 0
  CallsFine call = (S : Shape) (place : Place) (f v : W) (w : World W) (n a b : ℕ) → Ready S → IsFunction types n a b → ValueTyped types S f n → ValueTyped types S v a → WorldTyped types S w → Fine types (OfType types b) S (call place f v w)

  -- where a miss may go on, it does so well in every later world
  abbrev OtherFine : Bool → Shape → ℕ → (World W → Answer W W) → Type 0
  OtherFine m S t other = (S' : Shape) (w : World W) → m ≡ true → Grows S S' → WorldTyped types S' w → Fine types (OfType types t) S' (other w)

  later : {m : Bool} {S S' : Shape} {t : ℕ} {other : World W → Answer W W} → Grows S S' → OtherFine m S t other → OtherFine m S' t other
  later g o S'' w e g' k = o S'' w e (further g g') k

  no-other : (S : Shape) (t : ℕ) (other : World W → Answer W W) → OtherFine false S t other
  no-other S t other S' w e g k = absurd (cc)

  kept-fun : {S : Shape} {G : Sorts} {f : Fun (mono types)} {t : ℕ} {env : Scope (mono types)} → EnvTyped types S env G → FunTyped types G f t → Unless S.bare (FunExplicit types G f) → ValueTyped types S (closure (alone f) env) t
  kept-fun h (t_last e x) z = closure_is h e (t_last e x) z
  kept-fun h (t_more e x) z = closure_is h e (t_more e x) z

  -- what is asked, in a shape
  asked-in : (P : Type 0) {S : Shape} → Ready S → Unless bare P → Unless S.bare P
  asked-in P b x = subst (λ c. Unless c P) (sym b.is_bare) x

  pub asked-out : (P : Type 0) {S : Shape} → Ready S → Unless S.bare P → Unless bare P
  asked-out P b x = subst (λ c. Unless c P) b.is_bare x

  module _ (call : Apply (mono types)) (calls : CallsFine call) where
    mutual
      pub eval-fine : {m : Bool} {S : Shape} {G : Sorts} {e : Exp (mono types)} {t : ℕ} {env : Scope (mono types)} (w : World W) (other : World W → Answer W W) → Ready S → tt.Typed types m G e t → Unless bare (IsExplicit types G e) → EnvTyped types S env G → WorldTyped types S w → OtherFine m S t other → Fine types (OfType types t) S (eval call e env w other)
      eval-fine {S = S} w other b (tt.t_ret {x = x} e) z h k o = atom-fine w _ (look_up-typed types S x h e) (λ v q. here types k q)
      eval-fine w other b (tt.t_let {a = a} x l) z h k o = then-fine (OfType types a) _ (op-fine w b x (asked-of bare (λ y. y.0) z) h k) (λ S' v w' g k' q. eval-fine w' other (begun-grows g b) l (asked-of bare (λ y. y.1) z) (bind_is (value_is q) (env-grows types g h)) k' (later g o))
      eval-fine {S = S} w other b (tt.t_exception {identifier = i} {a = a} l) z h k o =
          let g = more-exceptions S a in
          widen types g (eval-fine _ other (begun-grows g b) l z (bind_is (name_is (name-at-end a k.exceptions)) (env-grows types g h)) (record { store = store-grows types g k.store; exceptions = push-name i a k.exceptions }) (later g o))
      eval-fine {S = S} w other b (tt.t_name {a = a} e l) z h k o = named-fine w _ (name-found b e h) (λ v q. eval-fine w other b l (asked-of bare (λ y. y a e) z) (bind_is q h) k o)
      eval-fine {S = S} {G = G} w other b (tt.t_rec {fs = gs} fs l) z h k o = eval-fine w other b l (asked-of bare (λ y. y.1) z) (members-typed types S h fs fs refl (asked-in (FunsExplicit types (group_sorts types gs G) gs) b (asked-of bare (λ y. y.0) z)) (asked-in (FunsExplicit types (group_sorts types gs G) gs) b (asked-of bare (λ y. y.0) z))) k o
      eval-fine {S = S} w other b (tt.t_switch {x = x} e arms) z h k o = atom-fine w _ (look_up-typed types S x h e) (λ v q. arms-fine w other b arms z q h k o)
      eval-fine w other b (tt.t_first l d) z h k o = eval-fine w _ b l (asked-of bare (λ y. y.0) z) h k (λ S' w' e g k'. eval-fine w' other (begun-grows g b) d (asked-of bare (λ y. y.1) z) (env-grows types g h) k' (later g o))
      eval-fine {S = S} w other b tt.t_miss z h k o = o S w refl (stays S) k
      eval-fine w other b (tt.t_counted l) z h k o = eval-fine w other b l z h k o

      arms-fine : {S : Shape} {G : Sorts} {arms : Arms (mono types)} {u t : ℕ} {v : W} {env : Scope (mono types)} (w : World W) (other : World W → Answer W W) → Ready S → tt.ArmsTyped types G arms u t → Unless bare (ArmsExplicit types G arms) → ValueTyped types S v u → EnvTyped types S env G → WorldTyped types S w → OtherFine true S t other
          → Fine types (OfType types t) S (eval_arms call u arms v env w other)
      arms-fine {S} w other b tt.t_no_arms z q h k o = o S w refl (stays S) k
      arms-fine {S} w other b (tt.t_arm {G' = H} {u = u} c l arms) z q h k o = after-match-fine w _ _ (case-fine types S sound c q h) (λ env' h'. eval-fine w other b l (asked-of bare (λ y. y.0 u H c) z) h' k o) (arms-fine w other b arms (asked-of bare (λ y. y.1) z) q h k o)

      op-fine : {S : Shape} {G : Sorts} {op : Op (mono types)} {t : ℕ} {env : Scope (mono types)} (w : World W) → Ready S → tt.OpTyped types G op t → Unless bare (OpExplicit types G op) → EnvTyped types S env G → WorldTyped types S w → Fine types (OfType types t) S (eval_op call op env w)
      op-fine {S} w b (tt.t_use {x = x} e) z h k = atom-fine w _ (look_up-typed types S x h e) (λ v q. here types k q)
      op-fine {S} w b (tt.t_use_exception {x = x} e i) z h k = used-fine w (look_up-typed types S x h e) i b.is_bare (asked-of bare (λ y n q. y n (e ∙ ap (λ u. Some (exception u)) q)) z) k
      op-fine w b (tt.t_const (table.has_int z e)) y h k = here types k (literal_is (table.has_int z e))
      op-fine w b (tt.t_const (table.has_word z e)) y h k = here types k (literal_is (table.has_word z e))
      op-fine w b (tt.t_const (table.has_char z e)) y h k = here types k (literal_is (table.has_char z e))
      op-fine w b (tt.t_const (table.has_string z e)) y h k = here types k (literal_is (table.has_string z e))
      op-fine w b (tt.t_con_alone e i) z h k = here types k (alone-typed e i b.is_bare z)
      op-fine {S} w b (tt.t_construct {m = m} {x = x} e d) z h k = atom-fine w _ (look_up-typed types S x h d) (λ v q. marked-fine m w _ k (λ w' l. here types l (con_of_is e q)))
      op-fine w b (tt.t_ref_alone e i) z h k = here types k (ref_is (b.is_bare ∙ bare-holds bare z (λ y. y)) e i)
      op-fine {S} w b (tt.t_refer {m = m} {x = x} e i) z h k = atom-fine w _ (look_up-typed types S x h e) (λ v q. marked-fine m w _ k (λ w' l. reference-fine types w' i q l))
      op-fine {S} w b (tt.t_content {x = x} e i) z h k = atom-fine w _ (look_up-typed types S x h e) (λ v q. read-fine w (address-of types sound S i q) k)
      op-fine {S} w b (tt.t_pack {m = m} {y = y} {x = x} e d i) z h k = atom-fine w _ (look_up-typed types S x h d) (λ v q. packed-fine m w (look_up-typed types S y h e) q i k)
      op-fine w b (tt.t_make_record r i d) z h k = row-fine w _ (look-row r h) (λ fs q. here types k (record_is i d q))
      op-fine {S} w b (tt.t_select {x = x} {l = l} e i d) z h k = atom-fine w _ (look_up-typed types S x h e) (λ v q. select-fine l w (record-of types S sound i q) d k)
      op-fine w b (tt.t_prim_alone p t i) z h k = here types k (primitive_is (b.is_bare ∙ bare-holds bare z (λ y. y)) p t i)
      op-fine w b (tt.t_prim {m = m} {p = p} a r) z h k = all-fine w _ (look-all r h) (λ vs q. marked-fine m w _ k (λ w' l. perform-fine types sound p w' b.begun a q l))
      op-fine {S} w b (tt.t_app {place = place} {f = f} {x = x} {u = u} {a = a} {t = t} e i d) z h k = atom-fine w _ (look_up-typed types S f h e) (λ g q. atom-fine w _ (look_up-typed types S x h d) (λ v q'. calls S place g v w u a t b i q q' k))
      op-fine {G = G} w b (tt.t_fn {f = g} f) z h k = here types k (kept-fun h f (asked-in (FunExplicit types G g) b z))
      op-fine w b (tt.t_block l) z h k = eval-fine w fail b l z h k (no-other _ _ fail)
      op-fine w b (tt.t_handle {n = n} l i d) z h k = handle-fine _ (eval-fine w fail b l (asked-of bare (λ y. y.0) z) h k (no-other _ _ fail)) (λ S' p w' g k' q. eval-fine w' fail (begun-grows g b) d (asked-of bare (λ y. y.1 n) z) (bind_is (value_is (as-value types S' q i)) (env-grows types g h)) k' (no-other _ _ fail))
      op-fine {S} w b (tt.t_raise {x = x} e i) z h k = atom-fine w _ (look_up-typed types S x h e) (λ v q. raise-fine w (packet-of types S sound i q) k)
      op-fine {S} w b (tt.t_raise_initial {n = n} e) z h k = fine_raises (stays S) k (alone_is (b.begun n e))

  abbrev pub Bodies : Type 0
  Bodies = Fun (mono types) → Scope (mono types) → W → World W → Answer W W

  abbrev pub BodiesFine : Bodies → Type 0
  BodiesFine go =
      (S : Shape) (G : Sorts) (f : Fun (mono types)) (v : W) (env : Scope (mono types)) (w : World W) (n a b : ℕ) → Ready S → IsFunction types n a b → FunTyped types G f n → Unless bare (FunExplicit types G f) → ValueTyped types S v a → EnvTyped types S env G → WorldTyped types S w → Fine types (OfType types b) S (go f env v w)

  moved : {S : Shape} {v : W} {a b : ℕ} → a ≡ b → ValueTyped types S v a → ValueTyped types S v b
  moved {S} {v} e h = subst (ValueTyped types S v) e h

  enter-fine : (go : Bodies) → BodiesFine go → CallsFine (enter go)
  enter-fine go h S place f v w n a b beg i (literal_is d) q k = let e = (literal-name types d).is in absurd (cc)
  enter-fine go h S place f v w n a b beg i (record_is d o z) q k = absurd (cc)
  enter-fine go h S place f v w n a b beg i (con_is {c = c} d) q k = let e = data-name types S sound n c d in let j = e.2 in absurd (cc)
  enter-fine go h S place f v w n a b beg i (con_of_is {c = c} d z) q k = let e = data-name types S sound n c d in let j = e.2 in absurd (cc)
  enter-fine go h S place f v w n a b beg i (exn_is d z) q k = absurd (cc)
  enter-fine go h S place f v w n a b beg i (exn_of_is d y z) q k = absurd (cc)
  enter-fine go h S place f v w n a b beg i (address_is d z) q k = absurd (cc)
  enter-fine go h S place f v w n a b beg i (con_function_is {c = c} {g = g} {a = a'} z_ d j) q k =
      let arg : a ≡ a' = cc in
      let res : g ≡ b = cc in
      subst (λ z. Fine types (OfType types z) S (enter go place (Rattle.ir_poly.specs.of_ir_values.Values.con g c) v w)) res (turn-fine w.left place w _ k (λ w' l. here types l (con_of_is d (moved arg q))))
  enter-fine go h S place f v w n a b beg i (exn_function_is {i = x} {a = a'} {e = e} z_ d j z) q k =
      let arg : a ≡ a' = cc in
      let res : e ≡ b = cc in
      subst (λ z. Fine types (OfType types z) S (enter go place (exn a' x) v w)) res (turn-fine w.left place w _ k (λ w' l. here types l (exn_of_is d (moved arg q) z)))
  enter-fine go h S place f v w n a b beg i (ref_is {a = a'} {r = r} z_ j z) q k =
      let arg : a ≡ a' = cc in
      let res : r ≡ b = cc in
      subst (λ z. Fine types (OfType types z) S (enter go place (Rattle.ir_poly.specs.of_ir_values.Values.ref a') v w)) res (turn-fine w.left place w _ k (λ w' l. reference-fine types w' z (moved arg q) l))
  enter-fine go h S place f v w n a b beg i (primitive_is {p = p} {u = u} {a = a'} {r = r} z_ d t j) q k =
      let arg : a ≡ a' = cc in
      let res : r ≡ b = cc in
      subst (λ z. Fine types (OfType types z) S (enter go place (Rattle.ir_poly.specs.of_ir_values.Values.primitive u p) v w)) res
      (turn-fine w.left place w _ k (λ w' l. perform-fine types sound p w' beg.begun d (arguments-typed types sound p d t (moved arg q)) l))
  enter-fine go h S place f v w n a b beg i (closure_is {f = g} {G = G} env d x z) q k = turn-fine w.left place w _ k (λ w' l. h S _ _ v _ w' n a b beg i x (asked-out (FunExplicit types G g) beg z) q env l)
  enter-fine go h S place f v w n a b beg i (group_is {f = g} {fs = gs} {G = G} env fs d x y z) q k = turn-fine w.left place w _ k (λ w' l. h S _ _ v _ w' n a b beg i x (asked-out (FunExplicit types (group_sorts types gs G) g) beg z) q (members-typed types S env fs fs refl y y) l)

  pub run_fun-fine : (call : Apply (mono types)) → CallsFine call → BodiesFine (run_fun call)
  run_fun-fine call h S G f v env w n a b beg i (t_last {x = y} {a = a'} {b = b'} {e = e} d x) z q g k =
      let arg : a ≡ a' = cc in
      let res : b' ≡ b = cc in
      eval-fine call h w fail beg (subst (λ z. tt.Typed types false ((y, of_type a') ∷ G) e z) res x) z (bind_is (value_is (moved arg q)) g) k (no-other _ _ fail)
  run_fun-fine call h S G f v env w n a b beg i (t_more {x = y} {a = a'} {b = b'} {f = f'} d x) z q g k =
      let arg : a ≡ a' = cc in
      let res : b' ≡ b = cc in
      here types k (kept-fun (bind_is (value_is (moved arg q)) g) (subst (λ z. FunTyped types ((y, of_type a') ∷ G) f' z) res x) (asked-in (FunExplicit types ((y, of_type a') ∷ G) f') beg z))

  apply-fine : (k : ℕ) → CallsFine (apply k)
  apply-fine zero = enter-fine _ (λ S G f v env w n a b beg i x z q g k. fine_stops)
  apply-fine (suc k) = enter-fine _ (run_fun-fine (apply k) (apply-fine k))

  identified : {is : List ℕ} {as_ : List (Option ℕ)} {a : Option ℕ} (i : ℕ) → SameLength is as_ → slice_get as_ i ≡ Some a → (id : ℕ) × (slice_get is i ≡ Some id)
  identified i no_names e = absurd (cc)
  identified zero (one_more h) e = (_, refl)
  identified (suc i) (one_more h) e = identified i h e

  pub never-wrong : {A : Type 0} {Q : Shape → A → Type 0} {S : Shape} {r : Answer W A} → Fine types Q S r → (outcome_of identifier_of r).end ≡ wrong → ⊥
  never-wrong (fine_gives g k q) e = cc
  never-wrong (fine_raises g k (alone_is {i = i} n)) e = let id = identified i k.exceptions n in let same = id.1 in cc
  never-wrong (fine_raises g k (with_argument_is {i = i} n q)) e = let id = identified i k.exceptions n in let same = id.1 in cc
  never-wrong fine_stops e = cc

  -- the shape before the program
  abbrev pub first_shape : Shape
  first_shape = record { store = []; exceptions = None ∷ None ∷ None ∷ None ∷ None ∷ None ∷ None ∷ []; bare = bare }

  seven : (is : List ℕ) → length is ≡ 7 → SameLength is first_shape.exceptions
  seven (a ∷ b ∷ c ∷ d ∷ e ∷ f ∷ g ∷ []) h = one_more (one_more (one_more (one_more (one_more (one_more (one_more no_names))))))
  seven _ h = absurd (omega (arith, h))

  begun : Begun types first_shape
  begun zero e = refl
  begun (suc zero) e = refl
  begun (suc (suc zero)) e = refl
  begun (suc (suc (suc zero))) e = refl
  begun (suc (suc (suc (suc zero)))) e = refl
  begun (suc (suc (suc (suc (suc zero))))) e = refl
  begun (suc (suc (suc (suc (suc (suc zero)))))) e = refl
  begun (suc (suc (suc (suc (suc (suc (suc i))))))) e = let l = ltb-true (suc (suc (suc (suc (suc (suc (suc i))))))) 7 e in absurd (omega (arith, l))

  -- with calls that are sound
  pub runs-never-wrong : (call : Apply (mono types)) → CallsFine call → (initial : List ℕ) {t : ℕ} (e : Exp (mono types)) (m : ℕ) → length initial ≡ 7 → tt.Typed types false [] e t → Unless bare (IsExplicit types [] e) → (outcome_of identifier_of (eval call e empty (record (start m) { exceptions = initial }) fail)).end ≡ wrong → ⊥
  runs-never-wrong call calls initial e m n h z =
      never-wrong (eval-fine call calls {S = first_shape} (record (start m) { exceptions = initial }) fail (record { begun = begun; is_bare = refl }) h z empty_is (record { store = no_store; exceptions = seven initial n }) (no-other _ _ fail))

pub well-formed-never-wrong : (p : Program) → IsWellFormed p → (m : ℕ) → (meaning p m).end ≡ wrong → ⊥
well-formed-never-wrong p h m = runs-never-wrong p.types h.table true (apply m) (apply-fine p.types h.table true m) p.initial p.body m h.initial h.typed tt

pub run-never-wrong : (types : List table.Row) (sound : IsTable types) (initial : List ℕ) {t : ℕ} (e : Exp (mono types)) (m : ℕ) → length initial ≡ 7 → tt.Typed types false [] e t → (run initial e m).end ≡ wrong → ⊥
run-never-wrong types sound initial e m n h = runs-never-wrong types sound true (apply m) (apply-fine types sound true m) initial e m n h tt
