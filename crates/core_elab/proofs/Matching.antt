-- Matching in the source and in the program.
use Rattle.std.proofs.Common.{◌≡◌, ℕ, suc, ◌≤◌, Bool, true, false, if◌then◌else◌, List, Option, Some, None, slice_get, refl, sym, ap, subst}
use Rattle.std.specs.Prelude.{option_and_then, nat_eq}
use Rattle.mlc_runs.specs.Agreement.{AllRelated, BothOrNeither, neither, both}
use Rattle.mlc_runs.proofs.RunLaws.{slice_get-same}
use Rattle.mlc_prims.specs.LitOf.{Literal}
use Rattle.mlc_prims.specs.Table.{literal_eq}
use Rattle.core_rules.specs.of_sml_tree.Terminal.{LongVid}
use Rattle.core_rules.specs.of_sml_tree.Derived.{short}
use Rattle.core_rules.specs.of_sml_tree.declared.ident.Vid.{Vid}
use Rattle.core_rules.specs.of_sml_tree.BareTree as bare
use Rattle.core_rules.specs.Values.{Con, built, Value, Fields, Env, nothing, plus, Found}
use Rattle.core_rules.specs.Match.{constant_of, literal_in, fields_in, con_in, exn_in, address_in, same_con, Matching, binds, fails, misfits, then_match, where_same, on_found, behind, tagged, match_vid, match_con, on_fields, pat_count, match, match_fields}
use Rattle.ir_poly.specs.of_ir_values.Tags.{untagged}
use Rattle.ir_poly.specs.of_ir_values.Values as made
use Rattle.ir_poly.specs.of_ir_values.Match.{matches, no_match, mismatch, against_literal, against_con, under_con, against_exn, under_exn, under_record, under_cell, under_ref, of_size}
use Rattle.ir_poly.specs.of_ir_values.Match as made_match
use Rattle.ir_poly.specs.Prog.{Exc, fixed, held}
use Rattle.ir_poly.specs.Prog as prog
use Rattle.ir_poly.specs.ProgMeaning.{V, Scope as Bound, Fits, Parts, only_name, exception_in, size_of, match_pat}
use Rattle.ir_poly.specs.ProgMeaning as run
use Rattle.core_elab.specs.Scopes.{Denotes, variable, Scope, empty, scoped, plus_scope, is_free_in, con_number}
use Rattle.core_elab.specs.Resolves.{AloneTo, alone_constructor, alone_exception, BeforeTo, before_constructor, before_reference, before_exception, PatTo, wild_to, constant_to, variable_to, alone_to, built_to, fields_to, con_to, built_con_to, typed_to, as_to, PatFieldsTo, no_pats_to, pat_field_to}
use Rattle.core_elab.proofs.Related.{Rel, rel_literal, rel_record, rel_con, rel_con_of, rel_ref, rel_address, rel_exn, rel_exn_of, rel_primitive, rel_alone, rel_one_of, RelFields, known_variable, known_constructor, known_reference, known_fixed, known_held, known_primitive, Covers, Stored, in_cell, Anew, anew-nothing, anew-then, anew-one}
use Rattle.core_elab.proofs.LookUps.{KnownAs, known_none, known_some, known-in, known-of}
use Rattle.core_elab.proofs.Same.{same-numbers, field-rel, count-rel, literal-rel}

-- answers of matching, where u is what was bound before
pub data Fitting (k j : ℕ) (r : Scope) (u : Bound) : Matching → Fits → Type 0 where
  both_bind : {d : Env} {u' : Bound} → Anew k j u r d u' → Fitting k j r u (binds d) (matches u')
  both_fail : Fitting k j r u fails no_match
  both_misfit : Fitting k j r u misfits mismatch

fitting-nothing : (k : ℕ) (u : Bound) → Fitting k k empty u (binds nothing) (matches u)
fitting-nothing k u = both_bind (anew-nothing k u)

fitting-literal : (k : ℕ) (u : Bound) (l : Literal) {v : Value} {z : V} → Rel v z
    → Fitting k k empty u (where_same (option_and_then (literal_eq l) (literal_in v)) (binds nothing)) (against_literal l z (matches u))
fitting-literal k u l {v} {z} r =
    subst (λ o. Fitting k k empty u (where_same (option_and_then (literal_eq l) (literal_in v)) (binds nothing))
    (made_match.where_same (option_and_then (literal_eq l) o) (matches u)))
    (sym (literal-rel r)) (go (option_and_then (literal_eq l) (literal_in v)))
  where
    go : (o : Option Bool) → Fitting k k empty u (where_same o (binds nothing)) (made_match.where_same o (matches u))
    go None = both_misfit
    go (Some true) = fitting-nothing k u
    go (Some false) = both_fail

module _ {k j : ℕ} {r : Scope} {u : Bound} where
  fitting-if : {b b' : Bool} {m : Matching} {m' : Fits} → b' ≡ b → Fitting k j r u m m' → Fitting k j r u (if b then m else fails) (if b' then m' else no_match)
  fitting-if {b} {b'} {m} {m'} e h = subst (λ c. Fitting k j r u (if b then m else fails) (if c then m' else no_match)) (sym e) (go b)
    where
      go : (c : Bool) → Fitting k j r u (if c then m else fails) (if c then m' else no_match)
      go true = h
      go false = both_fail

  fitting-else : {b b' : Bool} {m : Matching} {m' : Fits} → b' ≡ b → Fitting k j r u m m'
      → Fitting k j r u (if b then m else misfits) (if b' then m' else mismatch)
  fitting-else {b} {b'} {m} {m'} e h = subst (λ c. Fitting k j r u (if b then m else misfits) (if c then m' else mismatch)) (sym e) (go b)
    where
      go : (c : Bool) → Fitting k j r u (if c then m else misfits) (if c then m' else mismatch)
      go true = h
      go false = both_misfit

  -- a constructor, an exception and a reference with an argument

  under-con : (c : Con) {n : ℕ} {v : Value} {z : V} {go : Value → Matching} {go' : V → Fits} → con_number c ≡ Some n → Rel v z
      → ((x : Value) (y : V) → Rel x y → Fitting k j r u (go x) (go' y)) → Fitting k j r u (behind same_con c (con_in v) go) (under_con untagged tt n z go')
  under-con c e (rel_con d e') h = fitting-if (same-numbers c d e e') both_misfit
  under-con c e (rel_con_of d e' q) h = fitting-if (same-numbers c d e e') (h _ _ q)
  under-con c e (rel_literal l) h = both_misfit
  under-con c e (rel_record q) h = both_misfit
  under-con c e rel_ref h = both_misfit
  under-con c e (rel_address a) h = both_misfit
  under-con c e (rel_exn n) h = both_misfit
  under-con c e (rel_exn_of n q) h = both_misfit
  under-con c e (rel_primitive q) h = both_misfit
  under-con c e (rel_alone a f) h = both_misfit
  under-con c e (rel_one_of a b fs f) h = both_misfit

  under-exn : (n : ℕ) {v : Value} {z : V} {go : Value → Matching} {go' : V → Fits} → Rel v z
      → ((x : Value) (y : V) → Rel x y → Fitting k j r u (go x) (go' y))
      → Fitting k j r u (behind nat_eq n (exn_in v) go) (under_exn untagged tt (Some (made.exn tt n)) z go')
  under-exn n (rel_exn m) h = fitting-if refl both_misfit
  under-exn n (rel_exn_of m q) h = fitting-if refl (h _ _ q)
  under-exn n (rel_con d e) h = both_misfit
  under-exn n (rel_con_of d e q) h = both_misfit
  under-exn n (rel_literal l) h = both_misfit
  under-exn n (rel_record q) h = both_misfit
  under-exn n rel_ref h = both_misfit
  under-exn n (rel_address a) h = both_misfit
  under-exn n (rel_primitive q) h = both_misfit
  under-exn n (rel_alone a f) h = both_misfit
  under-exn n (rel_one_of a b fs f) h = both_misfit

  under-cell : {o : Option Value} {p : Option V} {go : Value → Matching} {go' : V → Fits} → BothOrNeither Stored o p
      → ((x : Value) (y : V) → Rel x y → Fitting k j r u (go x) (go' y)) → Fitting k j r u (on_found o go) (under_cell untagged tt p go')
  under-cell neither h = both_misfit
  under-cell (both (in_cell q)) h = h _ _ q

  under-ref : {store : List Value} {store' : List V} {v : Value} {z : V} {go : Value → Matching} {go' : V → Fits} → AllRelated Stored store store' → Rel v z
      → ((x : Value) (y : V) → Rel x y → Fitting k j r u (go x) (go' y))
      → Fitting k j r u (on_found (option_and_then (slice_get store) (address_in v)) go) (under_ref untagged tt store' z go')
  under-ref s (rel_address a) h = under-cell (slice_get-same Stored a s) h
  under-ref s (rel_literal l) h = both_misfit
  under-ref s (rel_record q) h = both_misfit
  under-ref s (rel_con c e) h = both_misfit
  under-ref s (rel_con_of c e q) h = both_misfit
  under-ref s rel_ref h = both_misfit
  under-ref s (rel_exn n) h = both_misfit
  under-ref s (rel_exn_of n q) h = both_misfit
  under-ref s (rel_primitive q) h = both_misfit
  under-ref s (rel_alone a f) h = both_misfit
  under-ref s (rel_one_of a b fs f) h = both_misfit

  -- a record, whose pattern has so many fields
  under-record : (further : Bool) (ps : prog.PatFields) {n : ℕ} {v : Value} {z : V} {go : Fields → Matching} {go' : Parts → Fits} → prog.pat_count ps ≡ n
      → Rel v z → ((fs : Fields) (gs : Parts) → RelFields fs gs → Fitting k j r u (go fs) (go' gs))
      → Fitting k j r u (on_fields n further (fields_in v) go) (under_record untagged tt (size_of further ps) z go')
  under-record true ps e (rel_record q) h = h _ _ q
  under-record false ps e (rel_record q) h = fitting-else (λ i. nat_eq (e i) (count-rel q i)) (h _ _ q)
  under-record further ps e (rel_literal l) h = both_misfit
  under-record further ps e (rel_con c d) h = both_misfit
  under-record further ps e (rel_con_of c d q) h = both_misfit
  under-record further ps e rel_ref h = both_misfit
  under-record further ps e (rel_address a) h = both_misfit
  under-record further ps e (rel_exn n) h = both_misfit
  under-record further ps e (rel_exn_of n q) h = both_misfit
  under-record further ps e (rel_primitive q) h = both_misfit
  under-record further ps e (rel_alone a f) h = both_misfit
  under-record further ps e (rel_one_of a b fs f) h = both_misfit

module _ {k : ℕ} {u : Bound} where
  -- alone
  pub against-con : (c : Con) {n : ℕ} {v : Value} {z : V} → con_number c ≡ Some n → Rel v z
      → Fitting k k empty u (tagged same_con c (con_in v)) (against_con untagged tt n z (matches u))
  against-con c e (rel_con d e') = fitting-if (same-numbers c d e e') (fitting-nothing k u)
  against-con c e (rel_con_of d e' q) = fitting-if (same-numbers c d e e') both_misfit
  against-con c e (rel_literal l) = both_misfit
  against-con c e (rel_record q) = both_misfit
  against-con c e rel_ref = both_misfit
  against-con c e (rel_address a) = both_misfit
  against-con c e (rel_exn n) = both_misfit
  against-con c e (rel_exn_of n q) = both_misfit
  against-con c e (rel_primitive q) = both_misfit
  against-con c e (rel_alone a f) = both_misfit
  against-con c e (rel_one_of a b fs f) = both_misfit

  against-exn : (n : ℕ) {v : Value} {z : V} → Rel v z
      → Fitting k k empty u (tagged nat_eq n (exn_in v)) (against_exn (Some (made.exn tt n)) z (matches u))
  against-exn n (rel_exn m) = fitting-if refl (fitting-nothing k u)
  against-exn n (rel_exn_of m q) = fitting-if refl both_misfit
  against-exn n (rel_con d e) = both_misfit
  against-exn n (rel_con_of d e q) = both_misfit
  against-exn n (rel_literal l) = both_misfit
  against-exn n (rel_record q) = both_misfit
  against-exn n rel_ref = both_misfit
  against-exn n (rel_address a) = both_misfit
  against-exn n (rel_primitive q) = both_misfit
  against-exn n (rel_alone a f) = both_misfit
  against-exn n (rel_one_of a b fs f) = both_misfit

-- the second part comes after the first
fitting-also : {k j i : ℕ} {r q : Scope} {u u' : Bound} {d : Env} {m : Matching} {m' : Fits} → Anew k j u r d u' → Fitting j i q u' m m'
    → Fitting k i (plus_scope r q) u (then_match m (λ d'. binds (plus d d'))) m'
fitting-also a (both_bind b) = both_bind (anew-then a b)
fitting-also a both_fail = both_fail
fitting-also a both_misfit = both_misfit

fitting-then : {k j i : ℕ} {r q : Scope} {u : Bound} {m n : Matching} {m' : Fits} {go : Bound → Fits} → Fitting k j r u m m'
    → ((d : Env) (u' : Bound) → Anew k j u r d u' → Fitting j i q u' n (go u'))
    → Fitting k i (plus_scope r q) u (then_match m (λ d. then_match n (λ d'. binds (plus d d')))) (made_match.then_match m' go)
fitting-then (both_bind a) h = fitting-also a (h _ _ a)
fitting-then both_fail h = both_fail
fitting-then both_misfit h = both_misfit

fitting-found : {k j : ℕ} {r : Scope} {u : Bound} {o : Option Value} {p : Option V} {go : Value → Matching} (first : V → Fits) (second : Bound → Fits)
    → BothOrNeither Rel o p → ((v : Value) (z : V) → Rel v z → Fitting k j r u (go v) (made_match.then_match (first z) second))
    → Fitting k j r u (on_found o go) (made_match.then_match (made_match.on_found p first) second)
fitting-found first second neither h = both_misfit
fitting-found first second (both q) h = h _ _ q

-- an identifier, with what it is known to be
module _ {h : ℕ} {t : Bound} where
  pub fitting-variable : {k : ℕ} {d : Option Denotes} {f : Option Found} (x : Vid) (n : ℕ) (u : Bound) {v : Value} {z : V} → k ≤ n → is_free_in d ≡ true
      → KnownAs h t d f → Rel v z → Fitting k (suc n) (scoped x (variable n) empty) u (match_vid f (short x) v) (matches (made.bind n z u))
  fitting-variable x n u le i known_none r = both_bind (anew-one x n u le r)
  fitting-variable x n u le i (known_some (known_variable m a b c)) r = both_bind (anew-one x n u le r)
  fitting-variable x n u le i (known_some (known_primitive q)) r = both_bind (anew-one x n u le r)
  fitting-variable x n u le i (known_some (known_constructor c e)) r = absurd (cc)
  fitting-variable x n u le i (known_some known_reference) r = absurd (cc)
  fitting-variable x n u le i (known_some (known_fixed m)) r = absurd (cc)
  fitting-variable x n u le i (known_some (known_held m a b)) r = absurd (cc)

  fitting-alone : {k : ℕ} {d : Denotes} {f : Option Found} (x : LongVid) {a : prog.Pat} {v : Value} {z : V} (store' : List V) (u : Bound) → AloneTo d a
      → KnownAs h t (Some d) f → Rel v z → Fitting k k empty u (match_vid f x v) (match_pat store' t a z u)
  fitting-alone x store' u (alone_constructor n) (known_some (known_constructor c e)) r = against-con c e r
  fitting-alone x store' u (alone_exception (fixed n)) (known_some (known_fixed _)) r = against-exn n r
  fitting-alone {k} x {v = v} {z = z} store' u (alone_exception (held n)) (known_some (known_held _ {i = i} a e)) r =
      subst (λ o. Fitting k k empty u (tagged nat_eq i (exn_in v)) (against_exn (option_and_then only_name o) z (matches u))) (sym e) (against-exn i r)

  fitting-before : {k j : ℕ} {q : Scope} {d : Denotes} {f : Option Found} {a b : prog.Pat} {v : Value} {z : V} {store : List Value} {store' : List V}
      (u : Bound) (go : Value → Matching) → BeforeTo d a b → KnownAs h t (Some d) f → AllRelated Stored store store' → Rel v z
      → ((x : Value) (y : V) → Rel x y → Fitting k j q u (go x) (match_pat store' t a y u))
      → Fitting k j q u (match_con f store v go) (match_pat store' t b z u)
  fitting-before u go (before_constructor n s a) (known_some (known_constructor c e)) stores r g = under-con c e r g
  fitting-before u go (before_reference s a) (known_some known_reference) stores r g = under-ref stores r g
  fitting-before u go (before_exception (fixed n) s a) (known_some (known_fixed _)) stores r g = under-exn n r g
  fitting-before {k} {j} {q} {a = a} {v = v} {z = z} {store' = store'} u go (before_exception (held n) s _) (known_some (known_held _ {i = i} l e)) stores r g =
      subst (λ o. Fitting k j q u (behind nat_eq i (exn_in v) go) (under_exn untagged tt (option_and_then only_name o) z (λ y. match_pat store' t a y u)))
      (sym e)
      (under-exn i r g)

pats-count : {s r : Scope} {k j : ℕ} {fs : bare.PatFields} {gs : prog.PatFields} → PatFieldsTo s k fs gs r j → prog.pat_count gs ≡ pat_count fs
pats-count no_pats_to = refl
pats-count (pat_field_to l t a fs) = ap suc (pats-count fs)

module _ {h : ℕ} {t : Bound} {s : Scope} {e : Env} (c : Covers h t s e) {store : List Value} {store' : List V} (stores : AllRelated Stored store store') where
  mutual
    pub match-rel : {k j : ℕ} {a : bare.Pat} {b : prog.Pat} {r : Scope} → PatTo s k a b r j → {v : Value} {z : V} → Rel v z → (u : Bound)
        → Fitting k j r u (match e store a v) (match_pat store' t b z u)
    match-rel (wild_to p {k = k}) r u = fitting-nothing k u
    match-rel (constant_to p l {k = k}) r u = fitting-literal k u (constant_of l) r
    match-rel (variable_to p x n le i) r u = fitting-variable x n u le i (known-in x c) r
    match-rel (alone_to p {x = x} i a) r u = fitting-alone x store' u a (known-of x i c) r
    match-rel (built_to p b) r u = against-con (built b) refl r
    match-rel (fields_to p further {gs = gs} ps) r u = under-record further gs (pats-count ps) r (λ vs zs q. match-fields-rel ps q u)
    match-rel (con_to p q {x = x} i a b) r u = fitting-before u _ a (known-of x i c) stores r (λ v z r. match-rel b r u)
    match-rel (built_con_to p b ty a) r u = under-con (built b) refl r (λ v z r. match-rel a r u)
    match-rel (typed_to p a) r u = match-rel a r u
    match-rel (as_to p x n le i a) {z = z} r u = fitting-also (anew-one x n u le r) (match-rel a r (made.bind n z u))

    match-fields-rel : {k j : ℕ} {fs : bare.PatFields} {gs : prog.PatFields} {r : Scope} → PatFieldsTo s k fs gs r j → {vs : Fields} {zs : Parts}
        → RelFields vs zs → (u : Bound) → Fitting k j r u (match_fields e store fs vs) (run.match_fields store' t gs zs u)
    match-fields-rel (no_pats_to {k = k}) r u = fitting-nothing k u
    match-fields-rel (pat_field_to l ty a fs) r u =
        fitting-found _ _ (field-rel l r) (λ v z q. fitting-then (match-rel a q u) (λ d u' f. match-fields-rel fs r u'))
