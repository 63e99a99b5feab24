-- The compiled program does what the program does.
use Rattle.std.proofs.Common.{◌≡◌, ℕ, zero, suc, ◌<◌, ◌≤◌, Bool, true, false, not, ◌&&◌, List, [], ◌∷◌, ◌++◌, Option, Some, None, slice_get, option_and_then, nat_lt, refl, sym, ap, ap₂, subst, ◌∙◌, arith, if◌then◌else◌}
use Rattle.std.specs.Prelude.{⊤}
use Rattle.std.proofs.lemmas.Bool.{eqb-true, eq-eqb}
use Rattle.mlc_names.specs.declared.label.Label.{Label}
use Rattle.mlc_names.specs.declared.label.Label.TheVariants.{Number, Word}
use Rattle.mlc_base.specs.declared.place.Place.{Place}
use Rattle.mlc_runs.specs.Run.{World, Answer, gives, raises, stops, then_do, or_handle, or_fail, fail, take_turn, outcome_of, start}
use Rattle.mlc_runs.specs.Agreement.{AllRelated, none, BothOrNeither, neither, both, SameWorlds, Agree, both_give, both_raise, both_stop}
use Rattle.mlc_runs.specs.Agreement as agreement
use Rattle.mlc_runs.proofs.RunLaws.{then_do-gives, then_do-then_do, then_do-agree, take_turn-agree, new_exception-agree, outcome_of-agree}
use Rattle.mlc_prims.specs.LitOf.{Literal, int, word, char, string, truth}
use Rattle.mlc_prims.specs.declared.basis.BasisPrimitive.{BasisPrimitive}
use Rattle.ty_core.specs.Types.{Typ}
use Rattle.ty_core.specs.declared.scheme.Quantified.{Quantified}
use Rattle.label_rows.specs.Order.{label_before}
use Rattle.ir_poly.specs.of_ir_values.Tags.{untagged}
use Rattle.ir_poly.specs.of_ir_values.Values.{record_of, con, con_of, exn, exn_of, ref, primitive, closure, no_fields, field, empty, bind, same_label, field_in, count, packet_name, value_of, truth_number}
use Rattle.ir_poly.specs.of_ir_values.Values as values
use Rattle.ir_poly.specs.of_ir_values.Match.{matches, no_match, mismatch, after_match, against_con}
use Rattle.ir_poly.specs.of_ir_values.Primitives.{packet, perform, make_reference, raise_value, marked, parts, arguments, match_name, bind_name}
use Rattle.ir_poly.proofs.of_ir_values.EqualityLemmas.{packet-alike}
use Rattle.ir_poly.proofs.of_ir_values.PrimitiveLemmas.{perform-same, reference-same, raise-same, enter-same}
use Rattle.ir_poly.specs.of_ir_plain.Tree as te
use Rattle.ir_poly.specs.of_ir_plain.Meaning as tgt
use Rattle.ir_poly.specs.Prog.{Exc, Pat, any_pat, variable_pat, constant_pat, con_pat, con_of_pat, ref_of_pat, exn_pat, exn_of_pat, fields_pat, as_pat, Exp, constant_exp, variable_exp, own_exp, con_exp, ref_exp, exn_exp, prim_exp, fields_exp, let_exp, app_exp, case_exp, chain_exp, handle_exp, raise_exp, fn_exp, counted_exp, Fields, a_field, Chain, only, link, Rules, no_rules, a_rule, Fun, last, by_rules, Decs, no_decs, val_dec, exception_dec, counted_dec, Binds, no_binds, a_bind, Funs, no_funs, a_fun, type_of}
use Rattle.ir_poly.specs.Prog as tree
use Rattle.ir_poly.specs.ProgMeaning as src
use Rattle.ir_poly.specs.ProgChecked.{parameters_if}
use Rattle.ir_poly.specs.Tests.{Use, inst, poly, Tests}
use Rattle.ir_poly.specs.Types.{unit_type}
use Rattle.match_compile.specs.Compile as pass
use Rattle.match_compile.specs.Compile.{Names, no_names, named, each_named, funs_named, past_group, scoped, all_scoped, bool_type, exception_type, atom, put, excepted, Otherwise, again, initial, otherwise, Spots, no_spots, spot, spots, spots_named, past_pat, tests, Shape, plain, alone, recorded, general_shape, shape_over, shape, record_type, together, split, past_shape, shape_spots, shaped, grouped, Built, a_con, a_ref, an_exn, Way, by_call, by_building, by_performing, used_at, are_numbered, is_tuple, arity, performed, way, weighed, past_built, beginning, building, along, fits_all, is_direct, value_at, value_of_rule, past_tuple, past_fields, past_chain, past_rules, past_fun, past_decs, past_binds, past_funs, unclassed, binds_spots, val_named, decs_named, field_row, sorted_row, field_atoms, tuple_atoms, making, making_rule, making_tuple, making_all, links, rules, function, bindings, decs, compile}
use Rattle.match_compile.proofs.Numbers.{le-trans, le-suc, le-refl, le-less, less-of, different, pat-up, group-up, shape-up, up, tuple-up, fields-up, rules-up, fun-up, binds-up, funs-up}
use Rattle.match_compile.proofs.Related.{same_alone, same_one_of, Same, same_literal, same_record, same_con, same_con_of, same_exn, same_exn_of, same_ref, same_primitive, same_closure, SameParts, no_same, a_same, SameEnv, same_empty, same_bind, kind-of, by-kind, look_up-same, here, Holds, holds-refl, holds-trans, holds-bind, same-up, Bound, bound_none, bound_one, bound-more, bound-onto, members-same, members-held, Worlds, Ends}
use Rattle.match_compile.proofs.Matched.{BothNames, both_named, not_named, exception-same, Recorded, recorded_as, found, con-tested, tests-same, split-same, together-same}
use Rattle.match_compile.proofs.Sorted.{sorted-same, sorted-found}
use Rattle.match_compile.proofs.Packets.{IsPacket, is_packet, Packs, CallPacks, eval-packs, apply-packs}

abbrev W : Type 0
W = tgt.V poly

-- What a phrase's run is followed to: a value, or the environment after a match, beside the record of the pattern's variables. (A block's lemmas must lie in
-- one universe, so they range over these and not over all types.)
pub data Kept : Type 0 where
  value : Kept
  environment : src.Scope → Spots → Kept

abbrev Result : Kept → Type 0
Result value = src.V
Result (environment base vs) = src.Scope

abbrev Rel : (K : Kept) → Result K → W → Type 0
Rel value = Same
Rel (environment base vs) = Recorded base vs

value-same : (l : Literal) → Same (value_of untagged l) (value_of untagged l)
value-same (int z) = same_literal (int z)
value-same (word n) = same_literal (word n)
value-same (char n) = same_literal (char n)
value-same (string t) = same_literal (string t)
value-same (truth b) = same_con tt (truth_number b)

-- the packet that is raised where no rule applies to v
abbrev packet_for : Otherwise → src.V → src.V
packet_for again v = v
packet_for (initial i) v = packet untagged i

-- what is matched again is a packet
abbrev Raised : Otherwise → src.V → Type 0
Raised again v = IsPacket v
Raised (initial i) v = ⊤

then-after-match : {A B : Type 0} (m : src.Fits) (w : World src.V) (go : src.Scope → World src.V → Answer src.V A) (other : World src.V → Answer src.V A) (more : A → World src.V → Answer src.V B)
    → then_do (after_match m w go other) more ≡ after_match m w (λ env w'. then_do (go env w') more) (λ w'. then_do (other w') more)
then-after-match (matches env) w go other more = refl
then-after-match no_match w go other more = refl
then-after-match mismatch w go other more = refl

-- a binding's match, with what follows at once or later
late-match : (m : src.Fits) (w : World src.V) (k : src.V) (g : src.Scope → World src.V → Answer src.V src.Scope) {B : Type 0} (go : src.Scope → World src.V → Answer src.V B)
    → then_do (after_match m w g (λ w'. raises k w')) go ≡ then_do (after_match m w gives (λ w'. raises k w')) (λ env w'. then_do (g env w') go)
late-match (matches env) w k g go = refl
late-match no_match w k g go = refl
late-match mismatch w k g go = refl

late : (r : Answer src.V src.V) (m : src.V → World src.V → src.Fits) (k : src.V) (g : src.Scope → World src.V → Answer src.V src.Scope) {B : Type 0} (go : src.Scope → World src.V → Answer src.V B)
    → then_do (then_do r (λ v w. after_match (m v w) w g (λ w'. raises k w'))) go ≡ then_do (then_do r (λ v w. after_match (m v w) w gives (λ w'. raises k w'))) (λ env w'. then_do (g env w') go)
late (gives v w) m k g go = late-match (m v w) w k g go
late (raises p w) m k g go = refl
late (stops cut w) m k g go = refl

handled : {r : Answer src.V src.V} {r' : Answer W W} (go : src.V → World src.V → Answer src.V src.V) (go' : W → World W → Answer W W) → Agree Same Same r r' → Packs r
    → ((p : src.V) (q : W) (w : World src.V) (u : World W) → IsPacket p → Same p q → Worlds w u → Agree Same Same (go p w) (go' q u)) → Agree Same Same (or_handle r go) (or_handle r' go')
handled go go' (both_give r s) k h = both_give r s
handled go go' (both_raise r s) k h = h _ _ _ _ k r s
handled go go' (both_stop cut s) k h = both_stop cut s

-- Applications

-- what a construction's operator gives
abbrev built_value : Built → src.Scope → World src.V → Answer src.V src.V
built_value (a_con c) env w = gives (con tt c) w
built_value (a_ref u) env w = gives (ref tt) w
built_value (an_exn x) env w = or_fail (src.exception_in x env) w (λ v. gives v w)

pub performed-not-built : (x : Bool) (p : BasisPrimitive) (u : Typ) (b : Built) → performed x p u ≡ by_building b → ⊥
performed-not-built true p u b e = cc
performed-not-built false p u b e = cc

performed-is : (x : Bool) (p q : BasisPrimitive) (u v : Typ) → performed x p u ≡ by_performing q v → (x ≡ true) × (p ≡ q)
performed-is true p q u v e = (refl, cc)
performed-is false p q u v e = absurd (cc)

pub right-true : (a b : Bool) → (a && b) ≡ true → b ≡ true
right-true true b e = e
right-true false b e = absurd (cc)

left-true : (a b : Bool) → (a && b) ≡ true → a ≡ true
left-true true b e = refl
left-true false b e = absurd (cc)

module _ (call : src.Apply) where
  built-eval : (f a : Exp) (b : Built) → way f a ≡ by_building b → (env : src.Scope) (w : World src.V) → src.eval call f env w ≡ built_value b env w
  built-eval (con_exp c y ts t) a b e env w = let same : a_con c ≡ b = cc in subst (λ x. gives (con tt c) w ≡ built_value x env w) same refl
  built-eval (ref_exp u t) a b e env w = let same : a_ref u ≡ b = cc in subst (λ x. gives (ref tt) w ≡ built_value x env w) same refl
  built-eval (exn_exp x t) a b e env w = let same : an_exn x ≡ b = cc in subst (λ y. or_fail (src.exception_in x env) w (λ v. gives v w) ≡ built_value y env w) same refl
  built-eval (prim_exp p ts t) a b e env w = absurd (performed-not-built _ p _ b e)
  built-eval (counted_exp n t f) a b e env w = built-eval f a b e env w
  built-eval (constant_exp l t) a b e env w = absurd (cc)
  built-eval (variable_exp x ts t) a b e env w = absurd (cc)
  built-eval (own_exp x t) a b e env w = absurd (cc)
  built-eval (fields_exp t fs) a b e env w = absurd (cc)
  built-eval (let_exp t ds f) a b e env w = absurd (cc)
  built-eval (app_exp place t f g) a b e env w = absurd (cc)
  built-eval (case_exp place t f rs) a b e env w = absurd (cc)
  built-eval (chain_exp x t c) a b e env w = absurd (cc)
  built-eval (handle_exp t f rs) a b e env w = absurd (cc)
  built-eval (raise_exp t f) a b e env w = absurd (cc)
  built-eval (fn_exp t f) a b e env w = absurd (cc)

  performed-eval : (f a : Exp) (p : BasisPrimitive) (u : Typ) → way f a ≡ by_performing p u → (env : src.Scope) (w : World src.V) → src.eval call f env w ≡ gives (primitive tt p) w
  performed-eval (prim_exp q ts t) a p u e env w = ap (λ x. gives (primitive tt x) w) (performed-is _ q p _ u e).1
  performed-eval (counted_exp n t f) a p u e env w = performed-eval f a p u e env w
  performed-eval (con_exp c y ts t) a p u e env w = absurd (cc)
  performed-eval (ref_exp v t) a p u e env w = absurd (cc)
  performed-eval (exn_exp x t) a p u e env w = absurd (cc)
  performed-eval (constant_exp l t) a p u e env w = absurd (cc)
  performed-eval (variable_exp x ts t) a p u e env w = absurd (cc)
  performed-eval (own_exp x t) a p u e env w = absurd (cc)
  performed-eval (fields_exp t fs) a p u e env w = absurd (cc)
  performed-eval (let_exp t ds f) a p u e env w = absurd (cc)
  performed-eval (app_exp place t f g) a p u e env w = absurd (cc)
  performed-eval (case_exp place t f rs) a p u e env w = absurd (cc)
  performed-eval (chain_exp x t c) a p u e env w = absurd (cc)
  performed-eval (handle_exp t f rs) a p u e env w = absurd (cc)
  performed-eval (raise_exp t f) a p u e env w = absurd (cc)
  performed-eval (fn_exp t f) a p u e env w = absurd (cc)

pub performed-tuple : (f a : Exp) (p : BasisPrimitive) (u : Typ) → way f a ≡ by_performing p u → is_tuple (arity p) a ≡ true
performed-tuple (prim_exp q ts t) a p u e = let k = performed-is _ q p _ u e in subst (λ x. is_tuple (arity x) a ≡ true) k.1 (right-true _ (is_tuple (arity q) a) k.0)
performed-tuple (counted_exp n t f) a p u e = performed-tuple f a p u e
performed-tuple (con_exp c y ts t) a p u e = absurd (cc)
performed-tuple (ref_exp v t) a p u e = absurd (cc)
performed-tuple (exn_exp x t) a p u e = absurd (cc)
performed-tuple (constant_exp l t) a p u e = absurd (cc)
performed-tuple (variable_exp x ts t) a p u e = absurd (cc)
performed-tuple (own_exp x t) a p u e = absurd (cc)
performed-tuple (fields_exp t fs) a p u e = absurd (cc)
performed-tuple (let_exp t ds f) a p u e = absurd (cc)
performed-tuple (app_exp place t f g) a p u e = absurd (cc)
performed-tuple (case_exp place t f rs) a p u e = absurd (cc)
performed-tuple (chain_exp x t c) a p u e = absurd (cc)
performed-tuple (handle_exp t f rs) a p u e = absurd (cc)
performed-tuple (raise_exp t f) a p u e = absurd (cc)
performed-tuple (fn_exp t f) a p u e = absurd (cc)

-- the parts of a tuple are a primitive's arguments

data Labelled : tree.Fields → src.Parts → Type 0 where
  none_labelled : Labelled tree.no_fields no_fields
  one_labelled : (l : Label) {e : Exp} {v : src.V} {fs : tree.Fields} {r : src.Parts} → Labelled fs r → Labelled (a_field l e fs) (field l v r)

abbrev values_in : {B C T : Type 0} → values.Fields B C T → List (values.Value B C T)
values_in no_fields = []
values_in (field l v r) = v ∷ values_in r

parts-deeper : (l n j : ℕ) (v : src.V) (r : src.Parts) → j < l → parts l n (field (Number j) v r) ≡ parts l n r
parts-deeper l zero j v r lt = refl
parts-deeper l (suc n) j v r lt = rw (different l j (λ e. omega (arith, e, lt)), parts-deeper (suc l) n j v r (omega (arith, lt))) refl

pub label-is : (l : ℕ) (m : Label) → same_label (Number l) m ≡ true → Number l ≡ m
label-is l (Number n) e = ap Number (eqb-true l n e)
label-is l (Word x) e = absurd (cc)

parts-found : (l k : ℕ) {fs : tree.Fields} {r : src.Parts} → Labelled fs r → are_numbered l k fs ≡ true → parts l k r ≡ Some (values_in r)
parts-found l zero none_labelled e = refl
parts-found l zero (one_labelled m h) e = absurd (cc)
parts-found l (suc k) none_labelled e = absurd (cc)
parts-found l (suc k) (one_labelled m {v = v} {fs = fs} {r = r} h) e =
    subst (λ x. parts l (suc k) (field x v r) ≡ Some (v ∷ values_in r)) (label-is l m (left-true _ (are_numbered (suc l) k fs) e))
    (rw (eq-eqb l l refl, parts-deeper (suc l) k l v r (omega arith), parts-found (suc l) k h (right-true (same_label (Number l) m) _ e)) refl)

count-numbered : (l k : ℕ) {fs : tree.Fields} {r : src.Parts} → Labelled fs r → are_numbered l k fs ≡ true → count r ≡ k
count-numbered l zero none_labelled e = refl
count-numbered l zero (one_labelled m h) e = absurd (cc)
count-numbered l (suc k) none_labelled e = absurd (cc)
count-numbered l (suc k) (one_labelled m h) e = ap suc (count-numbered (suc l) k h (right-true (same_label (Number l) m) _ e))

-- and they stand in their places

pub less-not : (l : ℕ) → nat_lt (suc l) l ≡ false
less-not l = grind (arith)

first-stays : (l k : ℕ) (m : Label) (v : src.V) {fs : tree.Fields} {r : src.Parts} → Labelled fs r → Number l ≡ m → are_numbered (suc l) k fs ≡ true → src.put_part m v r ≡ field m v r
first-stays l k m v none_labelled p e = refl
first-stays l zero m v (one_labelled j h) p e = absurd (cc)
first-stays l (suc k) m v (one_labelled j {v = z} {fs = fs} {r = r} h) p e =
    let q = label-is (suc l) j (left-true _ (are_numbered (suc (suc l)) k fs) e) in
    ap (λ b. if b then field j z (src.put_part m v r) else field m v (field j z r)) (ap₂ label_before (sym q) (sym p) ∙ less-not l)

numbered-sorted : (l k : ℕ) {fs : tree.Fields} {r : src.Parts} → Labelled fs r → are_numbered l k fs ≡ true → src.sorted_parts r ≡ r
numbered-sorted l zero none_labelled e = refl
numbered-sorted l zero (one_labelled m h) e = absurd (cc)
numbered-sorted l (suc k) none_labelled e = absurd (cc)
numbered-sorted l (suc k) (one_labelled m {v = v} {fs = fs} h) e =
    let d = right-true (same_label (Number l) m) _ e in
    ap (src.put_part m v) (numbered-sorted (suc l) k h d) ∙ first-stays l k m v h (label-is l m (left-true _ (are_numbered (suc l) k fs) e)) d

arguments-are : (k : ℕ) {fs : tree.Fields} {r : src.Parts} → Labelled fs r → are_numbered 1 k fs ≡ true → arguments (record_of tt r) ≡ values_in r
arguments-are k {r = r} h e = ap (λ o. elim o [ None ↦ record_of tt r ∷ [] | Some vs ↦ vs ]) (ap (λ j. parts 1 j r) (count-numbered 1 k h e) ∙ parts-found 1 k h e)

values-same : {r : src.Parts} {r' : tgt.Parts poly} → SameParts r r' → AllRelated Same (values_in r) (values_in r')
values-same no_same = none
values-same (a_same l r rs) = agreement.more r (values-same rs)

-- where the fields are, the atoms are
front-all : (l : Label) (o : Option W) (os : Option (tgt.Parts poly)) (qs : Option (List W)) (r : tgt.Parts poly) → ((q : tgt.Parts poly) → os ≡ Some q → qs ≡ Some (values_in q)) → tgt.field_in_front l o os ≡ Some r → tgt.in_front {F = poly} o qs ≡ Some (values_in r)
front-all l (Some v) (Some q) qs r h e = rw (h q refl) (let same : field l v q ≡ r = cc in ap (λ x. Some (values_in x)) same)
front-all l (Some v) None qs r h e = absurd (cc)
front-all l None os qs r h e = absurd (cc)

atoms-found : (fs : tree.Fields) (n : ℕ) (ρ : tgt.Scope poly) (r : tgt.Parts poly) → tgt.look_row (field_row fs n) ρ ≡ Some r → tgt.look_all (field_atoms fs n) ρ ≡ Some (values_in r)
atoms-found tree.no_fields n ρ r e = let same : no_fields ≡ r = cc in ap (λ x. Some (values_in x)) same
atoms-found (a_field l x fs) n ρ r e =
    front-all l (tgt.look_up (atom (value_at x n)) ρ) (tgt.look_row (field_row fs (suc (value_at x n))) ρ) (tgt.look_all (field_atoms fs (suc (value_at x n))) ρ) r (λ q d. atoms-found fs (suc (value_at x n)) ρ q d) e

-- what calls of values that aren't functions do
pub record Direct (call : src.Apply) : Type 0 where
  pub con : (place : Place) (c : ℕ) (v : src.V) (w : World src.V) → call place (con tt c) v w ≡ take_turn place w (gives (con_of tt c v))
  pub exn : (place : Place) (i : ℕ) (v : src.V) (w : World src.V) → call place (exn tt i) v w ≡ take_turn place w (gives (exn_of tt i v))
  pub ref : (place : Place) (v : src.V) (w : World src.V) → call place (ref tt) v w ≡ take_turn place w (make_reference untagged tt v)
  pub primitive : (place : Place) (p : BasisPrimitive) (v : src.V) (w : World src.V) → call place (primitive tt p) v w ≡ take_turn place w (perform untagged tt p (arguments v))

shape-alone : (q : Quantified) (p : Pat) (x : ℕ) → general_shape p ≡ alone x → p ≡ variable_pat x
shape-alone q (variable_pat y) x e = cc
shape-alone q any_pat x e = absurd (cc)
shape-alone q (constant_pat l) x e = absurd (cc)
shape-alone q (con_pat c) x e = absurd (cc)
shape-alone q (con_of_pat c t p) x e = absurd (cc)
shape-alone q (ref_of_pat t p) x e = absurd (cc)
shape-alone q (exn_pat y) x e = absurd (cc)
shape-alone q (exn_of_pat y t p) x e = absurd (cc)
shape-alone q (fields_pat further ps) x e = absurd (cc)
shape-alone q (as_pat y p) x e = absurd (cc)

pub sole : (qs : List Quantified) (p : Pat) (x : ℕ) → shape_over qs p ≡ alone x → p ≡ variable_pat x
sole [] p x e = absurd (cc)
sole (q ∷ qs) p x e = shape-alone q p x e

module _ (call : src.Apply) (call' : tgt.Apply poly) (calls : (place : Place) (g a : src.V) (g' a' : W) (w : World src.V) (u : World W) → Same g g' → Same a a' → Worlds w u → Agree Same Same (call place g a w) (call' place g' a' u)) (direct : Direct call) (packs : CallPacks call) where
  abbrev ev : Tests → tgt.Scope poly → World W → (World W → Answer W W) → Answer W W
  ev = tgt.eval call'

  module _ {A : Type 0} (S : A → W → Type 0) where
    abbrev Agrees : Answer src.V A → Answer W W → Type 0
    Agrees = Agree Same S

    -- a value in the variable k, and the rest
    abbrev Follows : (src.V → World src.V → Answer src.V A) → Tests → (n k : ℕ) → tgt.Scope poly → (World W → Answer W W) → Type 0
    Follows go rest n k ρ other = (v : src.V) (v' : W) (w : World src.V) (u : World W) (ρ' : tgt.Scope poly) → Same v v' → Worlds w u → Holds n ρ ρ' → tgt.look_up (atom k) ρ' ≡ Some v' → Agrees (go v w) (ev rest ρ' u other)

    -- what is done with the parts of a record
    abbrev FollowsAll : (src.Parts → World src.V → Answer src.V A) → tree.Fields → Tests → (n : ℕ) → tgt.Scope poly → (World W → Answer W W) → Type 0
    FollowsAll go fs rest n ρ other = (r : src.Parts) (r' : tgt.Parts poly) (w : World src.V) (u : World W) (ρ' : tgt.Scope poly) → Labelled fs r → SameParts r r' → Worlds w u → Holds n ρ ρ' → tgt.look_row (field_row fs n) ρ' ≡ Some r' → Agrees (go r w) (ev rest ρ' u other)

    -- what is done with a tuple whose parts are atoms
    abbrev FollowsTuple : (src.V → World src.V → Answer src.V A) → Exp → Tests → (n : ℕ) → tgt.Scope poly → (World W → Answer W W) → Type 0
    FollowsTuple go a rest n ρ other = (v : src.V) (vs : List W) (w : World src.V) (u : World W) (ρ' : tgt.Scope poly) → AllRelated Same (arguments v) vs → Worlds w u → Holds n ρ ρ' → tgt.look_all (tuple_atoms a n) ρ' ≡ Some vs → Agrees (go v w) (ev rest ρ' u other)

    stands : (n k : ℕ) (ρ : tgt.Scope poly) {r : Answer src.V src.V} {r' : Answer W W} (go : src.V → World src.V → Answer src.V A) (rest : Tests) (other : World W → Answer W W) → n ≤ k → Agree Same Same r r' → Follows go rest n k ρ other → Agrees (then_do r go) (then_do r' (λ v w. ev rest (bind k v ρ) w other))
    stands n k ρ go rest other le h f = then_do-agree Same S Same go _ h (λ v v' w u r s. f v v' w u _ r s (holds-bind n k v' ρ le) (here k v' ρ))

    -- a part of an expression and the rest
    more : (n k : ℕ) (ρ : tgt.Scope poly) (go : src.V → World src.V → Answer src.V A) (rest : Tests) (other : World W → Answer W W) → n ≤ k → (ρ1 : tgt.Scope poly) → Holds n ρ ρ1 → (j : ℕ) → Follows go rest n j ρ other → Follows go rest k j ρ1 other
    more n k ρ go rest other le ρ1 h j f v v' w u ρ2 r s h2 found2 = f v v' w u ρ2 r s (holds-trans n k ρ ρ1 ρ2 le h h2) found2

    -- an operation that does what the source does
    does : (D : List Quantified) (n k : ℕ) (t : Typ) (o : te.Op poly) (ρ : tgt.Scope poly) (u : World W) (r : Answer src.V src.V) (r' : Answer W W) (go : src.V → World src.V → Answer src.V A) (rest : Tests) (other : World W → Answer W W) → n ≤ k → tgt.eval_op call' o ρ u ≡ r' → Agree Same Same r r' → Follows go rest n k ρ other
        → Agrees (then_do r go) (ev (put D k t o rest) ρ u other)
    does D n k t o ρ u r r' go rest other le e h g = subst (λ y. Agrees (then_do r go) (then_do y (λ v z. ev rest (bind k v ρ) z other))) (sym e) (stands n k ρ go rest other le h g)

  -- a pattern that any value fits
  all-fit : {A B : Type 0} (S : A → W → Type 0) (p : Pat) → fits_all p ≡ true → (n a : ℕ) (t : Typ) (store : List src.V) (at env base : src.Scope) (vs : Spots) (ρ : tgt.Scope poly) (w : World src.V) (v : src.V) (v' : W) (f : src.Scope → World src.V → Answer src.V B) (other : World src.V → Answer src.V B) (go : B → World src.V → Answer src.V A) (y : Answer W W)
      → Same v v' → tgt.look_up (atom a) ρ ≡ Some v' → a < n → Bound n ρ base vs env → ((env' : src.Scope) → Bound n ρ base (spots p t n a vs) env' → Agree Same S (then_do (f env' w) go) y) → Agree Same S (then_do (after_match (src.match_pat store at p v env) w f other) go) y
  all-fit S any_pat d n a t store at env base vs ρ w v v' f other go y r e lt b k = k env b
  all-fit S (variable_pat x) d n a t store at env base vs ρ w v v' f other go y r e lt b k = k (bind x v env) (bound_one x a lt e r b)
  all-fit S (as_pat x p) d n a t store at env base vs ρ w v v' f other go y r e lt b k = all-fit S p d n a t store at (bind x v env) base (spot x a t vs) ρ w v v' f other go y r e lt (bound_one x a lt e r b) k
  all-fit S (constant_pat l) d n a t store at env base vs ρ w v v' f other go y r e lt b k = absurd (cc)
  all-fit S (con_pat c) d n a t store at env base vs ρ w v v' f other go y r e lt b k = absurd (cc)
  all-fit S (con_of_pat c q p) d n a t store at env base vs ρ w v v' f other go y r e lt b k = absurd (cc)
  all-fit S (ref_of_pat q p) d n a t store at env base vs ρ w v v' f other go y r e lt b k = absurd (cc)
  all-fit S (exn_pat x) d n a t store at env base vs ρ w v v' f other go y r e lt b k = absurd (cc)
  all-fit S (exn_of_pat x q p) d n a t store at env base vs ρ w v v' f other go y r e lt b k = absurd (cc)
  all-fit S (fields_pat further ps) d n a t store at env base vs ρ w v v' f other go y r e lt b k = absurd (cc)

  direct-or : {A : Type 0} (S : A → W → Type 0) (b : Bool) (n j k : ℕ) (ρ : tgt.Scope poly) (u : World W) (y : Answer src.V A) (go : src.V → World src.V → Answer src.V A) (rest x z : Tests) (other : World W → Answer W W) → (b ≡ true → Follows S go rest n j ρ other → Agree Same S y (ev x ρ u other)) → (Follows S go rest n k ρ other → Agree Same S y (ev z ρ u other))
      → Follows S go rest n (if b then j else k) ρ other → Agree Same S y (ev (if b then x else z) ρ u other)
  direct-or S true n j k ρ u y go rest x z other h l f = h refl f
  direct-or S false n j k ρ u y go rest x z other h l f = l f

  var-same : {o : Option src.V} {o' : Option W} (w : World src.V) (u : World W) → BothOrNeither Same o o' → Worlds w u → Ends (or_fail o w (λ v. gives v w)) (or_fail o' u (λ v. gives v u))
  var-same w u neither s = both_stop _ s
  var-same w u (both v) s = both_give v s

  row-found : (l : Label) (a : Use) (es : te.Row poly) (ρ : tgt.Scope poly) (v' : W) (r' : tgt.Parts poly) → tgt.look_up a ρ ≡ Some v' → tgt.look_row es ρ ≡ Some r' → tgt.look_row (te.a_row l a es) ρ ≡ Some (field l v' r')
  row-found l a es ρ v' r' e h = ap (λ o. tgt.field_in_front l o (tgt.look_row es ρ)) e ∙ ap (tgt.field_in_front l (Some v')) h

  -- operations on atoms that are there

  op-app : (place : Place) (i j : ℕ) (ρ : tgt.Scope poly) (u : World W) (g v : W) → tgt.look_up (atom i) ρ ≡ Some g → tgt.look_up (atom j) ρ ≡ Some v → tgt.eval_op call' (te.app place (atom i) (atom j)) ρ u ≡ call' place g v u
  op-app place i j ρ u g v e h = ap (λ o. or_fail o u (λ g. or_fail (tgt.look_up (atom j) ρ) u (λ v. call' place g v u))) e ∙ ap (λ o. or_fail o u (λ v. call' place g v u)) h

  op-record : (t : Typ) (es : te.Row poly) (ρ : tgt.Scope poly) (u : World W) (r : tgt.Parts poly) → tgt.look_row es ρ ≡ Some r → tgt.eval_op call' (te.make_record t es) ρ u ≡ gives (record_of tt r) u
  op-record t es ρ u r e = ap (λ o. or_fail o u (λ r. gives (record_of tt r) u)) e

  op-prim : (m : Option Place) (p : BasisPrimitive) (t : Typ) (as_ : te.Atoms poly) (ρ : tgt.Scope poly) (u : World W) (vs : List W) → tgt.look_all as_ ρ ≡ Some vs → tgt.eval_op call' (te.prim m p t as_) ρ u ≡ marked m u (perform untagged tt p vs)
  op-prim m p t as_ ρ u vs e = ap (λ o. or_fail o u (λ vs. marked m u (perform untagged tt p vs))) e

  op-construct : (m : Option Place) (c : ℕ) (t : Typ) (i : ℕ) (ρ : tgt.Scope poly) (u : World W) (v : W) → tgt.look_up (atom i) ρ ≡ Some v → tgt.eval_op call' (te.construct m c t (atom i)) ρ u ≡ marked m u (gives (con_of tt c v))
  op-construct m c t i ρ u v e = ap (λ o. or_fail o u (λ v. marked m u (gives (con_of tt c v)))) e

  op-refer : (m : Option Place) (t : Typ) (i : ℕ) (ρ : tgt.Scope poly) (u : World W) (v : W) → tgt.look_up (atom i) ρ ≡ Some v → tgt.eval_op call' (te.refer m t (atom i)) ρ u ≡ marked m u (make_reference untagged tt v)
  op-refer m t i ρ u v e = ap (λ o. or_fail o u (λ v. marked m u (make_reference untagged tt v))) e

  op-pack : (m : Option Place) (t : Typ) (x i j : ℕ) (ρ : tgt.Scope poly) (u : World W) (v : W) → tgt.look_up (atom x) ρ ≡ Some (exn tt j) → tgt.look_up (atom i) ρ ≡ Some v → tgt.eval_op call' (te.pack m t (atom x) (atom i)) ρ u ≡ marked m u (gives (exn_of tt j v))
  op-pack m t x i j ρ u v d e = ap (λ o. or_fail o u (λ v. or_fail (tgt.look_up (atom x) ρ) u (tgt.pack_value m tt v u))) e ∙ ap (λ o. or_fail o u (tgt.pack_value m tt v u)) d

  op-raise : (i : ℕ) (ρ : tgt.Scope poly) (u : World W) (v : W) → tgt.look_up (atom i) ρ ≡ Some v → tgt.eval_op call' (te.raise (atom i)) ρ u ≡ raise_value v u
  op-raise i ρ u v e = ap (λ o. or_fail o u (λ v. raise_value v u)) e

  -- the nodes that are counted do nothing
  weighed-ev : (f : Exp) (rest : Tests) (ρ : tgt.Scope poly) (u : World W) (other : World W → Answer W W) → ev (weighed f rest) ρ u other ≡ ev rest ρ u other
  weighed-ev (constant_exp l t) rest ρ u other = refl
  weighed-ev (variable_exp x ts t) rest ρ u other = refl
  weighed-ev (own_exp x t) rest ρ u other = refl
  weighed-ev (con_exp c y ts t) rest ρ u other = refl
  weighed-ev (ref_exp v t) rest ρ u other = refl
  weighed-ev (exn_exp x t) rest ρ u other = refl
  weighed-ev (prim_exp p ts t) rest ρ u other = refl
  weighed-ev (fields_exp t fs) rest ρ u other = refl
  weighed-ev (let_exp t ds e) rest ρ u other = refl
  weighed-ev (app_exp place t f a) rest ρ u other = refl
  weighed-ev (case_exp place t e rs) rest ρ u other = refl
  weighed-ev (chain_exp b t c) rest ρ u other = refl
  weighed-ev (handle_exp t e rs) rest ρ u other = refl
  weighed-ev (raise_exp t e) rest ρ u other = refl
  weighed-ev (fn_exp t f) rest ρ u other = refl
  weighed-ev (counted_exp n t f) rest ρ u other = weighed-ev f rest ρ u other

  -- an exception's name as a value
  exn-made : {A : Type 0} (S : A → W → Type 0) (D : List Quantified) (n : ℕ) (t : Typ) (ρ : tgt.Scope poly) (w : World src.V) (u : World W) (go : src.V → World src.V → Answer src.V A) (rest : Tests) (other : World W → Answer W W) → Worlds w u → Follows S go rest n (suc n) ρ other
      → {o : Option src.V} {o' : Option W} → BothNames o o' → Agree Same S (then_do (or_fail o w (λ v. gives v w)) go) (tgt.on_name o' u (λ z. ev (put D (suc n) t (te.use_of (atom n)) rest) (bind n z ρ) u other))
  exn-made S D n t ρ w u go rest other s f (both_named {v = y} {v' = y'} i d d') =
      let ρ1 = bind n (exn tt i) ρ in
      rw (d, d') (does S D (suc n) (suc n) t (te.use_of (atom n)) ρ1 u (gives (exn tt i) w) (gives (exn tt i) u) go rest other (le-refl _) (ap (λ o. or_fail o u (λ v. gives v u)) (here n (exn tt i) ρ)) (both_give (same_exn tt i) s)
      (more S n (suc n) ρ go rest other (le-suc n n (le-refl n)) ρ1 (holds-bind n n (exn tt i) ρ (le-refl n)) (suc n) f))
  exn-made S D n t ρ w u go rest other s f (not_named k) = rw (k u (λ z. ev (put D (suc n) t (te.use_of (atom n)) rest) (bind n z ρ) u other)) (both_stop _ s)

  raises-same : (o : Otherwise) (D : List Quantified) (n a : ℕ) (t : Typ) (ρ : tgt.Scope poly) (w : World src.V) (u : World W) (v : src.V) (v' : W) (other : World W → Answer W W) → Raised o v → Worlds w u → Same v v' → tgt.look_up (atom a) ρ ≡ Some v' → Agree Same Same (raises (packet_for o v) w) (ev (otherwise D n t a o) ρ u other)
  raises-same again D n a t ρ w u v v' other (is_packet i k) s r e =
      subst (λ y. Agree Same Same (raises v w) (then_do y (λ x z. ev (te.ret (atom n)) (bind n x ρ) z other))) (sym (op-raise a ρ u v' e ∙ ap (λ o. or_fail o u (λ n. raises v' u)) (packet-alike Same (kind-of _ _ r) ∙ k))) (both_raise r s)
  raises-same (initial i) D n a t ρ w u v v' other k s r e = both_raise (same_exn tt i) s

  after-env : (m : src.Fits) (w : World src.V) (g : src.Scope → World src.V → Answer src.V src.Scope) (other : World src.V → Answer src.V src.Scope) (go : src.Scope → World src.V → Answer src.V src.V) (x : Answer W W) → Agree Same Same (after_match m w (λ env w'. then_do (g env w') go) (λ w'. then_do (other w') go)) x → Agree Same Same (then_do (after_match m w g other) go) x
  after-env m w g other go x h = subst (λ y. Agree Same Same y x) (sym (then-after-match m w g other go)) h

  grouped-ev : (qs : List Quantified) (fs : te.Funs poly) (rest : Tests) (ρ : tgt.Scope poly) (u : World W) (other : World W → Answer W W) → ev (grouped qs fs rest) ρ u other ≡ ev rest (tgt.members fs ρ) u other
  grouped-ev qs te.no_funs rest ρ u other = refl
  grouped-ev qs (te.fun x t f fs) rest ρ u other = refl

  abbrev MakingSame : Exp → Type 0
  MakingSame e = (K : Kept) (D : List Quantified) (N : Names) (n : ℕ) (env : src.Scope) (ρ : tgt.Scope poly) (w : World src.V) (u : World W) (go : src.V → World src.V → Answer src.V (Result K)) (rest : Tests) (other : World W → Answer W W) → SameEnv n N env ρ → Worlds w u → Follows (Rel K) go rest n (value_at e n) ρ other
      → Agree Same (Rel K) (then_do (src.eval call e env w) go) (ev (making D N e n rest) ρ u other)

  abbrev AllSame : tree.Fields → Type 0
  AllSame fs = (K : Kept) (D : List Quantified) (N : Names) (n : ℕ) (env : src.Scope) (ρ : tgt.Scope poly) (w : World src.V) (u : World W) (go : src.Parts → World src.V → Answer src.V (Result K)) (rest : Tests) (other : World W → Answer W W) → SameEnv n N env ρ → Worlds w u → FollowsAll (Rel K) go fs rest n ρ other
      → Agree Same (Rel K) (then_do (src.eval_fields call fs env w) go) (ev (making_all D N fs n rest) ρ u other)

  abbrev TupleSame : Exp → Type 0
  TupleSame a = (k : ℕ) → is_tuple k a ≡ true → (K : Kept) (D : List Quantified) (N : Names) (n : ℕ) (env : src.Scope) (ρ : tgt.Scope poly) (w : World src.V) (u : World W) (go : src.V → World src.V → Answer src.V (Result K)) (rest : Tests) (other : World W → Answer W W) → SameEnv n N env ρ → Worlds w u → FollowsTuple (Rel K) go a rest n ρ other
      → Agree Same (Rel K) (then_do (src.eval call a env w) go) (ev (making_tuple D N a n rest) ρ u other)

  -- e, what the phrase does with its value, and what follows the phrase
  part : (e : Exp) → MakingSame e → (K : Kept) (D : List Quantified) (N : Names) (n : ℕ) (env : src.Scope) (ρ : tgt.Scope poly) (w : World src.V) (u : World W) {C : Type 0} (f : src.V → World src.V → Answer src.V C) (go : C → World src.V → Answer src.V (Result K)) (rest : Tests) (other : World W → Answer W W) → SameEnv n N env ρ → Worlds w u
      → Follows (Rel K) (λ v w'. then_do (f v w') go) rest n (value_at e n) ρ other → Agree Same (Rel K) (then_do (then_do (src.eval call e env w) f) go) (ev (making D N e n rest) ρ u other)
  part e same K D N n env ρ w u f go rest other h s k = subst (λ y. Agree Same (Rel K) y (ev (making D N e n rest) ρ u other)) (sym (then_do-then_do (src.eval call e env w) f go)) (same K D N n env ρ w u (λ v w'. then_do (f v w') go) rest other h s k)

  part-row : (fs : tree.Fields) → AllSame fs → (K : Kept) (D : List Quantified) (N : Names) (n : ℕ) (env : src.Scope) (ρ : tgt.Scope poly) (w : World src.V) (u : World W) {C : Type 0} (f : src.Parts → World src.V → Answer src.V C) (go : C → World src.V → Answer src.V (Result K)) (rest : Tests) (other : World W → Answer W W) → SameEnv n N env ρ → Worlds w u
      → FollowsAll (Rel K) (λ v w'. then_do (f v w') go) fs rest n ρ other → Agree Same (Rel K) (then_do (then_do (src.eval_fields call fs env w) f) go) (ev (making_all D N fs n rest) ρ u other)
  part-row fs same K D N n env ρ w u f go rest other h s k = subst (λ y. Agree Same (Rel K) y (ev (making_all D N fs n rest) ρ u other)) (sym (then_do-then_do (src.eval_fields call fs env w) f go)) (same K D N n env ρ w u (λ v w'. then_do (f v w') go) rest other h s k)

  -- a value alone
  value-alone : (e : Exp) → MakingSame e → (D : List Quantified) (N : Names) (n : ℕ) (env : src.Scope) (ρ : tgt.Scope poly) (w : World src.V) (u : World W) (other : World W → Answer W W) → SameEnv n N env ρ → Worlds w u → Agree Same Same (src.eval call e env w) (ev (making D N e n (te.ret (atom (value_at e n)))) ρ u other)
  value-alone e same D N n env ρ w u other h s =
      subst (λ y. Agree Same Same y (ev (making D N e n (te.ret (atom (value_at e n)))) ρ u other)) (then_do-gives (src.eval call e env w))
      (same value D N n env ρ w u gives (te.ret (atom (value_at e n))) other h s (λ v v' w1 u1 ρ1 r s1 k1 e1. found call' Same (value_at e n) ρ1 v' u1 (gives v w1) (λ v. gives v u1) e1 (both_give r s1)))

  -- Applications

  -- what the source does
  abbrev applied : Exp → Exp → Place → src.Scope → World src.V → Answer src.V src.V
  applied f a place env w = then_do (src.eval call f env w) (λ g w'. then_do (src.eval call a env w') (λ v w''. call place g v w''))

  called-same : (f a : Exp) → MakingSame f → MakingSame a → (place : Place) (K : Kept) (D : List Quantified) (N : Names) (t : Typ) (n : ℕ) (env : src.Scope) (ρ : tgt.Scope poly) (w : World src.V) (u : World W) (go : src.V → World src.V → Answer src.V (Result K)) (rest : Tests) (other : World W → Answer W W) → SameEnv n N env ρ → Worlds w u
      → Follows (Rel K) go rest n (suc (value_at a (suc (value_at f n)))) ρ other
      → Agree Same (Rel K) (then_do (applied f a place env w) go) (ev (making D N f n (making D N a (suc (value_at f n)) (put D (suc (value_at a (suc (value_at f n)))) t (te.app place (atom (value_at f n)) (atom (value_at a (suc (value_at f n))))) rest))) ρ u other)
  called-same f a mf ma place K D N t n env ρ w u go rest other h s k =
      let i = value_at f n in let j = value_at a (suc i) in let o = te.app place (atom i) (atom j) in let end = put D (suc j) t o rest in let le = le-suc _ _ (up f n) in
      part f mf K D N n env ρ w u (λ y w'. then_do (src.eval call a env w') (λ x w''. call place y x w'')) go (making D N a (suc i) end) other h s (λ v v' w1 u1 ρ1 r s1 k1 e1.
      part a ma K D N (suc i) env ρ1 w1 u1 (λ x w''. call place v x w'') go end other (same-up n (suc i) le k1 h) s1 (λ x x' w2 u2 ρ2 q s2 k2 e2.
      does (Rel K) D (suc j) (suc j) t o ρ2 u2 (call place v x w2) (call' place v' x' u2) go rest other (le-refl (suc j)) (op-app place i j ρ2 u2 v' x' (k2 i (omega arith) ∙ e1) e2) (calls place v x v' x' w2 u2 r q s2)
      (more (Rel K) n (suc j) ρ go rest other (le-suc _ _ (le-trans _ _ _ le (up a (suc i)))) ρ2 (holds-trans n (suc i) ρ ρ1 ρ2 le k1 k2) (suc j) k)))

  -- a value of a constructor or of `ref`, from the value of a
  made-same : (a : Exp) → MakingSame a → (place : Place) (K : Kept) (D : List Quantified) (N : Names) (t : Typ) (o : te.Op poly) (g : src.V) (f : src.V → World src.V → Answer src.V src.V) (f' : W → World W → Answer W W) (n : ℕ) (env : src.Scope) (ρ : tgt.Scope poly) (w : World src.V) (u : World W) (go : src.V → World src.V → Answer src.V (Result K)) (rest : Tests) (other : World W → Answer W W) → SameEnv n N env ρ → Worlds w u
      → ((v : src.V) (w' : World src.V) → call place g v w' ≡ take_turn place w' (f v)) → ((v' : W) (ρ' : tgt.Scope poly) (u' : World W) → Holds n ρ ρ' → tgt.look_up (atom (value_at a n)) ρ' ≡ Some v' → tgt.eval_op call' o ρ' u' ≡ take_turn place u' (f' v'))
      → ((v : src.V) (v' : W) (w' : World src.V) (u' : World W) → Same v v' → Worlds w' u' → Ends (f v w') (f' v' u'))
      → Follows (Rel K) go rest n (suc (value_at a n)) ρ other
      → Agree Same (Rel K) (then_do (then_do (src.eval call a env w) (λ v w'. call place g v w')) go) (ev (making D N a n (put D (suc (value_at a n)) t o rest)) ρ u other)
  made-same a ma place K D N t o g f f' n env ρ w u go rest other h s d d' m k =
      let i = value_at a n in
      part a ma K D N n env ρ w u (λ v w'. call place g v w') go (put D (suc i) t o rest) other h s (λ v v' w1 u1 ρ1 r s1 k1 e1.
      does (Rel K) D (suc i) (suc i) t o ρ1 u1 (call place g v w1) (take_turn place u1 (f' v')) go rest other (le-refl (suc i)) (d' v' ρ1 u1 k1 e1)
      (subst (λ y. Ends y (take_turn place u1 (f' v'))) (sym (d v w1)) (take_turn-agree Same Same place w1 u1 (f v) (f' v') s1 (λ w2 u2 s2. m v v' w2 u2 r s2)))
      (more (Rel K) n (suc i) ρ go rest other (le-suc _ _ (up a n)) ρ1 k1 (suc i) k))

  pack-made : (a : Exp) → MakingSame a → (place : Place) (K : Kept) (D : List Quantified) (N : Names) (t u0 : Typ) (f0 : Exp) (n : ℕ) (env : src.Scope) (ρ : tgt.Scope poly) (w : World src.V) (u : World W) (go : src.V → World src.V → Answer src.V (Result K)) (rest : Tests) (other : World W → Answer W W) → SameEnv n N env ρ → Worlds w u
      → Follows (Rel K) go rest n (suc (value_at a (suc n))) ρ other → {o : Option src.V} {o' : Option W} → BothNames o o'
      → Agree Same (Rel K) (then_do (then_do (or_fail o w (λ v. gives v w)) (λ g w'. then_do (src.eval call a env w') (λ v w''. call place g v w''))) go)
      (tgt.on_name o' u (λ z. ev (weighed f0 (making D N a (suc n) (put D (suc (value_at a (suc n))) t (te.pack (Some place) u0 (atom n) (atom (value_at a (suc n)))) rest))) (bind n z ρ) u other))
  pack-made a ma place K D N t u0 f0 n env ρ w u go rest other h s k (both_named {v = y} {v' = y'} j d d') =
      let i = value_at a (suc n) in let ρ1 = bind n (exn tt j) ρ in let holds = holds-bind n n (exn tt j) ρ (le-refl n) in let le = le-suc n n (le-refl n) in
      let end = making D N a (suc n) (put D (suc i) t (te.pack (Some place) u0 (atom n) (atom i)) rest) in
      rw (d, d', weighed-ev f0 end ρ1 u other)
      (made-same a ma place K D N t (te.pack (Some place) u0 (atom n) (atom i)) (exn tt j) (λ v w'. gives (exn_of tt j v) w') (λ v u'. gives (exn_of tt j v) u') (suc n) env ρ1 w u go rest other (same-up n (suc n) le holds h) s
      (λ v w'. direct.exn place j v w') (λ v' ρ' u' z e. op-pack (Some place) u0 n i j ρ' u' v' (z n (omega arith) ∙ here n (exn tt j) ρ) e) (λ v v' w' u' r s'. both_give (same_exn_of tt j r) s')
      (more (Rel K) n (suc n) ρ go rest other le ρ1 holds (suc i) k))
  pack-made a ma place K D N t u0 f0 n env ρ w u go rest other h s k (not_named z) =
      rw (z u (λ y. ev (weighed f0 (making D N a (suc n) (put D (suc (value_at a (suc n))) t (te.pack (Some place) u0 (atom n) (atom (value_at a (suc n)))) rest))) (bind n y ρ) u other)) (both_stop _ s)

  built-same : (b : Built) (f a : Exp) → way f a ≡ by_building b → MakingSame a → (place : Place) (K : Kept) (D : List Quantified) (N : Names) (t : Typ) (n : ℕ) (env : src.Scope) (ρ : tgt.Scope poly) (w : World src.V) (u : World W) (go : src.V → World src.V → Answer src.V (Result K)) (rest : Tests) (other : World W → Answer W W) → SameEnv n N env ρ → Worlds w u
      → Follows (Rel K) go rest n (suc (value_at a (past_built b n))) ρ other
      → Agree Same (Rel K) (then_do (applied f a place env w) go) (ev (beginning N b n (weighed f (making D N a (past_built b n) (put D (suc (value_at a (past_built b n))) t (building D b place t (type_of a) n (value_at a (past_built b n))) rest)))) ρ u other)
  built-same (a_con c) f a e ma place K D N t n env ρ w u go rest other h s k =
      let i = value_at a n in let o = building D (a_con c) place t (type_of a) n i in let end = making D N a n (put D (suc i) t o rest) in
      rw (built-eval call f a (a_con c) e env w, weighed-ev f end ρ u other)
      (made-same a ma place K D N t o (con tt c) (λ v w'. gives (con_of tt c v) w') (λ v u'. gives (con_of tt c v) u') n env ρ w u go rest other h s (λ v w'. direct.con place c v w') (λ v' ρ' u' z d. op-construct (Some place) c (scoped D t) i ρ' u' v' d) (λ v v' w' u' r s'. both_give (same_con_of tt c r) s') k)
  built-same (a_ref v) f a e ma place K D N t n env ρ w u go rest other h s k =
      let i = value_at a n in let o = building D (a_ref v) place t (type_of a) n i in let end = making D N a n (put D (suc i) t o rest) in
      rw (built-eval call f a (a_ref v) e env w, weighed-ev f end ρ u other)
      (made-same a ma place K D N t o (ref tt) (make_reference untagged tt) (make_reference untagged tt) n env ρ w u go rest other h s (λ v w'. direct.ref place v w') (λ v' ρ' u' z d. op-refer (Some place) (scoped D v) i ρ' u' v' d) (λ v v' w' u' r s'. reference-same untagged Same by-kind tt w' u' r s') k)
  built-same (an_exn x) f a e ma place K D N t n env ρ w u go rest other h s k =
      rw (built-eval call f a (an_exn x) e env w) (pack-made a ma place K D N t (scoped D (type_of a)) f n env ρ w u go rest other h s k (exception-same x h))

  performed-same : (p : BasisPrimitive) (v : Typ) (f a : Exp) → way f a ≡ by_performing p v → TupleSame a → (place : Place) (K : Kept) (D : List Quantified) (N : Names) (t : Typ) (n : ℕ) (env : src.Scope) (ρ : tgt.Scope poly) (w : World src.V) (u : World W) (go : src.V → World src.V → Answer src.V (Result K)) (rest : Tests) (other : World W → Answer W W) → SameEnv n N env ρ → Worlds w u
      → Follows (Rel K) go rest n (past_tuple a n) ρ other
      → Agree Same (Rel K) (then_do (applied f a place env w) go) (ev (weighed f (making_tuple D N a n (put D (past_tuple a n) t (te.prim (Some place) p (scoped D v) (tuple_atoms a n)) rest))) ρ u other)
  performed-same p v f a e mt place K D N t n env ρ w u go rest other h s k =
      let j = past_tuple a n in let o = te.prim (Some place) p (scoped D v) (tuple_atoms a n) in let end = put D j t o rest in
      rw (performed-eval call f a p v e env w, weighed-ev f (making_tuple D N a n end) ρ u other)
      (subst (λ y. Agree Same (Rel K) y (ev (making_tuple D N a n end) ρ u other)) (sym (then_do-then_do (src.eval call a env w) (λ x w'. call place (primitive tt p) x w') go))
      (mt (arity p) (performed-tuple f a p v e) K D N n env ρ w u (λ x w'. then_do (call place (primitive tt p) x w') go) end other h s (λ x vs w1 u1 ρ1 rs s1 k1 e1.
      does (Rel K) D j j t o ρ1 u1 (call place (primitive tt p) x w1) (take_turn place u1 (perform untagged tt p vs)) go rest other (le-refl j) (op-prim (Some place) p (scoped D v) (tuple_atoms a n) ρ1 u1 vs e1)
      (subst (λ y. Ends y (take_turn place u1 (perform untagged tt p vs))) (sym (direct.primitive place p x w1)) (take_turn-agree Same Same place w1 u1 (perform untagged tt p (arguments x)) (perform untagged tt p vs) s1 (λ w2 u2 s2. perform-same untagged Same by-kind tt p w2 u2 rs s2)))
      (more (Rel K) n j ρ go rest other (tuple-up a n) ρ1 k1 j k))))

  ways-same : (y : Way) (f a : Exp) → way f a ≡ y → MakingSame f → MakingSame a → TupleSame a → (place : Place) (K : Kept) (D : List Quantified) (N : Names) (t : Typ) (n : ℕ) (env : src.Scope) (ρ : tgt.Scope poly) (w : World src.V) (u : World W) (go : src.V → World src.V → Answer src.V (Result K)) (rest : Tests) (other : World W → Answer W W) → SameEnv n N env ρ → Worlds w u
      → Follows (Rel K) go rest n (along y (suc (value_at a (suc (value_at f n)))) (λ b. suc (value_at a (past_built b n))) (λ p v. past_tuple a n)) ρ other
      → Agree Same (Rel K) (then_do (applied f a place env w) go)
      (ev (along y (making D N f n (making D N a (suc (value_at f n)) (put D (suc (value_at a (suc (value_at f n)))) t (te.app place (atom (value_at f n)) (atom (value_at a (suc (value_at f n))))) rest)))
      (λ b. beginning N b n (weighed f (making D N a (past_built b n) (put D (suc (value_at a (past_built b n))) t (building D b place t (type_of a) n (value_at a (past_built b n))) rest))))
      (λ p v. weighed f (making_tuple D N a n (put D (past_tuple a n) t (te.prim (Some place) p (scoped D v) (tuple_atoms a n)) rest)))) ρ u other)
  ways-same by_call f a e mf ma mt place K D N t n env ρ w u go rest other h s k = called-same f a mf ma place K D N t n env ρ w u go rest other h s k
  ways-same (by_building b) f a e mf ma mt place K D N t n env ρ w u go rest other h s k = built-same b f a e ma place K D N t n env ρ w u go rest other h s k
  ways-same (by_performing p v) f a e mf ma mt place K D N t n env ρ w u go rest other h s k = performed-same p v f a e mt place K D N t n env ρ w u go rest other h s k

  tuple-of : (fs : tree.Fields) → AllSame fs → (t : Typ) → TupleSame (fields_exp t fs)
  tuple-of fs all t k e K D N n env ρ w u go rest other h s f =
      part-row fs all K D N n env ρ w u (λ r w'. gives (record_of tt (src.sorted_parts r)) w') go rest other h s (λ r r' w1 u1 ρ1 l q s1 k1 e1.
      f (record_of tt (src.sorted_parts r)) (values_in r') w1 u1 ρ1
      (subst (λ vs. AllRelated Same vs (values_in r')) (sym (ap (λ x. arguments (record_of tt x)) (numbered-sorted 1 k l e) ∙ arguments-are k l e)) (values-same q)) s1 k1 (atoms-found fs n ρ1 r' e1))

  -- an operand of a chain in the variable i
  abbrev operand_arms : Bool → ℕ → Tests → te.Arms poly
  operand_arms b i rest = te.arm (te.is_con (truth_number b)) rest (te.arm (te.is_con (truth_number (not b))) (te.ret (atom i)) te.no_arms)

  operand-same : (b : Bool) (i : ℕ) (ρ : tgt.Scope poly) (w : World src.V) (u : World W) (v : src.V) (v' : W) (go : Answer src.V src.V) (rest : Tests) (other : World W → Answer W W) → Worlds w u → Same v v' → tgt.look_up (atom i) ρ ≡ Some v' → Ends go (ev rest ρ u other) → Ends (raises (packet untagged match_name) w) (other u)
      → Ends (src.on_operand b v w go) (ev (te.switch (atom i) bool_type (operand_arms b i rest)) ρ u other)
  operand-same b i ρ w u v v' go rest other s r e k l =
      let failed = λ (w' : World src.V). raises (packet untagged match_name) w' in
      let stop = λ (w' : World src.V). after_match (against_con untagged tt (truth_number (not b)) v (matches empty)) w' (λ x w''. gives v w'') failed in
      let stop' = λ (u' : World W). after_match (against_con untagged tt (truth_number (not b)) v' (matches ρ)) u' (λ ρ' u''. ev (te.ret (atom i)) ρ' u'' other) other in
      let last : Ends (stop w) (stop' u) = con-tested call' Same w u s (λ x w''. gives v w'') (λ ρ' u''. ev (te.ret (atom i)) ρ' u'' other) failed other l (truth_number (not b)) (matches empty) (matches ρ) r (found call' Same i ρ v' u (gives v w) (λ x. gives x u) e (both_give r s)) in
      found call' Same i ρ v' u (src.on_operand b v w go) (λ x. tgt.eval_arms call' tt (operand_arms b i rest) x ρ u other) e
      (con-tested call' Same w u s (λ x w'. go) (λ ρ' u'. ev rest ρ' u' other) stop stop' last (truth_number b) (matches empty) (matches ρ) r k)

  -- Bindings

  abbrev RaisesBind : (World W → Answer W W) → Type 0
  RaisesBind other = (w : World src.V) (u : World W) → Worlds w u → Ends (raises (packet untagged bind_name) w) (other u)

  abbrev bind_match : Pat → src.Scope → src.Scope → (src.Scope → World src.V → Answer src.V src.Scope) → src.V → World src.V → Answer src.V src.Scope
  bind_match p env bound g v w = after_match (src.match_pat w.store env p v bound) w g (λ w'. raises (packet untagged bind_name) w')

  binding-same : (e : Exp) → MakingSame e → (y : Shape) (qs : List Quantified) (p : Pat) → ((x : ℕ) → y ≡ alone x → p ≡ variable_pat x) → (D : List Quantified) (N : Names) (t : Typ) (n : ℕ) (env bound base : src.Scope) (us : Spots) (ρ : tgt.Scope poly) (w : World src.V) (u : World W)
      (g : src.Scope → World src.V → Answer src.V src.Scope) (go : src.Scope → World src.V → Answer src.V src.V) (next : Tests) (other : World W → Answer W W) → SameEnv n N env ρ → Worlds w u → Bound n ρ base us bound → RaisesBind other
      → ((env' : src.Scope) (ρ' : tgt.Scope poly) (w' : World src.V) (u' : World W) → Holds n ρ ρ' → Bound (past_shape y p t (value_at e n)) ρ' base (shape_spots y p t (value_at e n) us) env' → Worlds w' u' → Ends (then_do (g env' w') go) (ev next ρ' u' other))
      → Ends (then_do (then_do (src.eval call e env w) (bind_match p env bound g)) go)
      (ev (shaped y D qs p t (value_at e n) (making D N e n (tests D N p t (suc (value_at e n)) (value_at e n) next)) (making (qs ++ D) N e n (te.ret (atom (value_at e n))))
      (making (qs ++ D) N e n (tests (qs ++ D) N p t (suc (value_at e n)) (value_at e n) (together (qs ++ D) (spots p t (suc (value_at e n)) (value_at e n) no_spots) (past_pat p (suc (value_at e n)))))) next) ρ u other)
  binding-same e me plain qs p d D N t n env bound base us ρ w u g go next other h s b l k =
      let i = value_at e n in let le = le-suc _ _ (up e n) in
      part e me value D N n env ρ w u (bind_match p env bound g) go (tests D N p t (suc i) i next) other h s (λ v v' w1 u1 ρ1 r s1 k1 e1.
      after-env (src.match_pat w1.store env p v bound) w1 g (λ w'. raises (packet untagged bind_name) w') go (ev (tests D N p t (suc i) i next) ρ1 u1 other)
      (tests-same call' Same D N env base p (suc i) i t bound us ρ1 w1 u1 v v' (λ env' w'. then_do (g env' w') go) next (λ w'. raises (packet untagged bind_name) w') other (same-up n (suc i) le k1 h) s1 r e1 (omega arith) (bound-more n (suc i) le k1 b)
      (λ env2 ρ2 k2 b2. k env2 ρ2 w1 u1 (holds-trans n (suc i) ρ ρ1 ρ2 le k1 k2) b2 s1) (l w1 u1 s1)))
  binding-same e me (alone x) qs p d D N t n env bound base us ρ w u g go next other h s b l k =
      let i = value_at e n in let le : n ≤ suc i = le-suc _ _ (up e n) in
      subst (λ y. Ends y (then_do (ev (making (qs ++ D) N e n (te.ret (atom i))) ρ u fail) (λ v z. ev next (bind (suc i) v ρ) z other))) (sym (then_do-then_do (src.eval call e env w) (bind_match p env bound g) go))
      (then_do-agree Same Same Same (λ v w'. then_do (bind_match p env bound g v w') go) (λ v z. ev next (bind (suc i) v ρ) z other) (value-alone e me (qs ++ D) N n env ρ w u fail h s)
      (λ v v' w1 u1 r s1. subst (λ q. Ends (then_do (bind_match q env bound g v w1) go) (ev next (bind (suc i) v' ρ) u1 other)) (sym (d x refl))
      (k (bind x v bound) (bind (suc i) v' ρ) w1 u1 (holds-bind n (suc i) v' ρ le) (bound_one x (suc i) (omega arith) (here (suc i) v' ρ) r (bound-more n (suc (suc i)) (le-suc _ _ le) (holds-bind n (suc i) v' ρ le) b)) s1)))
  binding-same e me recorded qs p d D N t n env bound base us ρ w u g go next other h s b l k =
      let E = qs ++ D in let i = value_at e n in let vs = spots p t (suc i) i no_spots in let j = past_pat p (suc i) in let v0 = record_type vs in let r0 = suc (suc j) in let le : n ≤ suc i = le-suc _ _ (up e n) in let le0 : n ≤ r0 = le-suc _ _ (le-suc _ _ (le-trans _ _ _ le (pat-up p (suc i)))) in
      let all = making E N e n (tests E N p t (suc i) i (together E vs j)) in
      let failed = λ (z : World W). ev (otherwise E (suc j) v0 i (initial bind_name)) ρ z fail in
      let made : Agree Same (Recorded bound vs) (then_do (src.eval call e env w) (bind_match p env bound gives)) (ev all ρ u failed) =
      me (environment bound vs) E N n env ρ w u (bind_match p env bound gives) (tests E N p t (suc i) i (together E vs j)) failed h s (λ v v' w1 u1 ρ1 q s1 k1 e1.
      tests-same call' (Recorded bound vs) E N env bound p (suc i) i t bound no_spots ρ1 w1 u1 v v' gives (together E vs j) (λ w''. raises (packet untagged bind_name) w'') failed (same-up n (suc i) le k1 h) s1 q e1 (omega arith) bound_none
      (λ env2 ρ2 k2 b2. together-same call' E j w1 u1 failed s1 b2) (both_raise (same_exn tt bind_name) s1)) in
      subst (λ y. Ends y (then_do (ev all ρ u failed) (λ v z. ev (split D qs v0 r0 vs 1 (suc r0) next) (bind r0 v ρ) z other))) (sym (late (src.eval call e env w) (λ v w'. src.match_pat w'.store env p v bound) (packet untagged bind_name) g go))
      (then_do-agree Same Same (Recorded bound vs) (λ env' w'. then_do (g env' w') go) (λ v z. ev (split D qs v0 r0 vs 1 (suc r0) next) (bind r0 v ρ) z other) made
      (λ env' v' w1 u1 q s1. split-recorded r0 vs v0 env' v' w1 u1 le0 q s1 (λ ρ2 k2 b2. k env' ρ2 w1 u1 k2 b2 s1)))
    where
      split-recorded : (r0 : ℕ) (vs : Spots) (v0 : Typ) (env' : src.Scope) (v' : W) (w1 : World src.V) (u1 : World W) → n ≤ r0 → Recorded bound vs env' v' → Worlds w1 u1 → ((ρ2 : tgt.Scope poly) → Holds n ρ ρ2 → Bound (pass.past_split vs (suc r0)) ρ2 base (pass.split_spots vs (suc r0) us) env' → Ends (then_do (g env' w1) go) (ev next ρ2 u1 other))
          → Ends (then_do (g env' w1) go) (ev (split D qs v0 r0 vs 1 (suc r0) next) (bind r0 v' ρ) u1 other)
      split-recorded r0 vs v0 env' _ w1 u1 le0 (recorded_as {q = q} f) s1 z =
          let ρ1 = bind r0 (record_of tt q) ρ in let holds = holds-bind n r0 (record_of tt q) ρ le0 in
          split-same call' Same D qs v0 r0 f (suc r0) ρ1 u1 (then_do (g env' w1) go) next other (here r0 (record_of tt q) ρ) (omega arith) (bound-more n (suc r0) (le-suc _ _ le0) holds b) (λ ρ2 k2 b2. z ρ2 (holds-trans n (suc r0) ρ ρ1 ρ2 (le-suc _ _ le0) holds k2) b2)

  mutual
    pub making-same : (e : Exp) → MakingSame e
    making-same (constant_exp l t) K D N n env ρ w u go rest other h s f = stands (Rel K) n n ρ go rest other (le-refl n) (both_give (value-same l) s) f
    making-same (variable_exp x ts t) K D N n env ρ w u go rest other h s f = stands (Rel K) n n ρ go rest other (le-refl n) (var-same w u (look_up-same x (all_scoped D ts) h) s) f
    making-same (own_exp x t) K D N n env ρ w u go rest other h s f = stands (Rel K) n n ρ go rest other (le-refl n) (var-same w u (look_up-same x [] h) s) f
    making-same (con_exp c y ts t) K D N n env ρ w u go rest other h s f = stands (Rel K) n n ρ go rest other (le-refl n) (both_give (same_con tt c) s) f
    making-same (ref_exp v t) K D N n env ρ w u go rest other h s f = stands (Rel K) n n ρ go rest other (le-refl n) (both_give (same_ref tt) s) f
    making-same (exn_exp x t) K D N n env ρ w u go rest other h s f = exn-made (Rel K) D n t ρ w u go rest other s f (exception-same x h)
    making-same (prim_exp p ts t) K D N n env ρ w u go rest other h s f = stands (Rel K) n n ρ go rest other (le-refl n) (both_give (same_primitive tt p) s) f
    making-same (fields_exp t fs) K D N n env ρ w u go rest other h s f =
        let i = past_fields fs n in let o = te.make_record (scoped D t) (sorted_row (field_row fs n)) in
        part-row fs (all-same fs) K D N n env ρ w u (λ r w'. gives (record_of tt (src.sorted_parts r)) w') go (put D i t o rest) other h s (λ r r' w1 u1 ρ1 l q s1 k1 e1.
        does (Rel K) D i i t o ρ1 u1 (gives (record_of tt (src.sorted_parts r)) w1) (gives (record_of tt (src.sorted_parts r')) u1) go rest other (le-refl i)
        (op-record (scoped D t) (sorted_row (field_row fs n)) ρ1 u1 (src.sorted_parts r') (sorted-found (field_row fs n) ρ1 r' e1)) (both_give (same_record tt (sorted-same q)) s1) (more (Rel K) n i ρ go rest other (fields-up fs n) ρ1 k1 i f))
    making-same (let_exp t ds e) K D N n env ρ w u go rest other h s f =
        let i = past_decs ds n in let j = value_at e i in
        stands (Rel K) n (suc (suc j)) ρ go rest other (up (let_exp t ds e) n)
        (decs-same ds D N n env ρ w u (λ env' w'. src.eval call e env' w') (making D (decs_named ds n N) e i (te.ret (atom j))) (λ u'. ev (otherwise D (suc j) t n (initial bind_name)) ρ u' fail) h s (λ w1 u1 s1. both_raise (same_exn tt bind_name) s1)
        (λ env1 ρ1 w1 u1 h1 s1. value-alone e (making-same e) D (decs_named ds n N) i env1 ρ1 w1 u1 _ h1 s1)) f
    making-same (app_exp place t f a) K D N n env ρ w u go rest other h s k = ways-same (way f a) f a refl (making-same f) (making-same a) (tuple-same a) place K D N t n env ρ w u go rest other h s k
    making-same (case_exp place t e rs) K D N n env ρ w u go rest other h s f =
        let i = value_at e n in let k = past_rules rs (suc i) in let o = te.block (rules D N rs (type_of e) t (suc i) i (initial match_name)) in let le = le-suc _ _ (up e n) in
        part e (making-same e) K D N n env ρ w u (λ v w'. src.eval_rules call rs v env w' (packet untagged match_name)) go (if is_direct rs then making_rule D N rs (type_of e) (suc i) i rest else put D k t o rest) other h s (λ v v' w1 u1 ρ1 r s1 k1 e1.
        direct-or (Rel K) (is_direct rs) (suc i) (value_of_rule rs (suc i)) k ρ1 u1 (then_do (src.eval_rules call rs v env w1 (packet untagged match_name)) go) go rest (making_rule D N rs (type_of e) (suc i) i rest) (put D k t o rest) other
        (λ d f1. rule-same rs d K D N (type_of e) (suc i) i env ρ1 w1 u1 v v' go rest other (same-up n (suc i) le k1 h) s1 r e1 (omega arith) f1)
        (λ f1. does (Rel K) D (suc i) k t o ρ1 u1 (src.eval_rules call rs v env w1 (packet untagged match_name)) (ev (rules D N rs (type_of e) t (suc i) i (initial match_name)) ρ1 u1 fail) go rest other (rules-up rs (suc i)) refl
        (rules-same rs D N (type_of e) t (suc i) i (initial match_name) env ρ1 w1 u1 v v' fail tt (same-up n (suc i) le k1 h) s1 r e1 (omega arith)) f1)
        (more (Rel K) n (suc i) ρ go rest other le ρ1 k1 (if is_direct rs then value_of_rule rs (suc i) else k) f))
    making-same (chain_exp b t c) K D N n env ρ w u go rest other h s f =
        let k = past_chain c n in
        stands (Rel K) n (suc k) ρ go rest other (up (chain_exp b t c) n) (chain-same c b D N n env ρ w u (λ u'. ev (otherwise D k bool_type n (initial match_name)) ρ u' fail) h s (λ w1 u1 s1. both_raise (same_exn tt match_name) s1)) f
    making-same (handle_exp t e rs) K D N n env ρ w u go rest other h s f =
        let i = value_at e n in let le : n ≤ suc i = le-suc _ _ (up e n) in
        stands (Rel K) n (past_rules rs (suc (suc i))) ρ go rest other (up (handle_exp t e rs) n)
        (handled (λ p w'. src.eval_rules call rs p env w' p) (λ q u'. ev (rules D N rs exception_type t (suc (suc i)) (suc i) again) (bind (suc i) q ρ) u' fail) (value-alone e (making-same e) D N n env ρ w u fail h s) (eval-packs call packs e env w)
        (λ p q w1 u1 k r s1. rules-same rs D N exception_type t (suc (suc i)) (suc i) again env (bind (suc i) q ρ) w1 u1 p q fail k (same-up n (suc (suc i)) (le-suc _ _ le) (holds-bind n (suc i) q ρ le) h) s1 r (here (suc i) q ρ) (omega arith))) f
    making-same (raise_exp t e) K D N n env ρ w u go rest other h s f =
        let i = value_at e n in let o = te.raise (atom i) in
        part e (making-same e) K D N n env ρ w u raise_value go (put D (suc i) t o rest) other h s (λ v v' w1 u1 ρ1 r s1 k1 e1.
        does (Rel K) D (suc i) (suc i) t o ρ1 u1 (raise_value v w1) (raise_value v' u1) go rest other (le-refl _) (op-raise i ρ1 u1 v' e1) (raise-same untagged Same by-kind w1 u1 r s1) (more (Rel K) n (suc i) ρ go rest other (le-suc _ _ (up e n)) ρ1 k1 (suc i) f))
    making-same (fn_exp t g) K D N n env ρ w u go rest other h s f = stands (Rel K) n (past_fun g n) ρ go rest other (le-less _ _ (fun-up g n)) (both_give (same_closure n N (same_alone D g n (le-refl n) refl) h) s) f
    making-same (counted_exp k t e) K D N n env ρ w u go rest other h s f = making-same e K D N n env ρ w u go rest other h s f

    -- a rule that any value fits
    rule-same : (rs : Rules) → is_direct rs ≡ true → (K : Kept) (D : List Quantified) (N : Names) (u0 : Typ) (n a : ℕ) (env : src.Scope) (ρ : tgt.Scope poly) (w : World src.V) (u : World W) (v : src.V) (v' : W) (go : src.V → World src.V → Answer src.V (Result K)) (rest : Tests) (other : World W → Answer W W) → SameEnv n N env ρ → Worlds w u → Same v v' → tgt.look_up (atom a) ρ ≡ Some v' → a < n
        → Follows (Rel K) go rest n (value_of_rule rs n) ρ other → Agree Same (Rel K) (then_do (src.eval_rules call rs v env w (packet untagged match_name)) go) (ev (making_rule D N rs u0 n a rest) ρ u other)
    rule-same no_rules d K D N u0 n a env ρ w u v v' go rest other h s r e lt f = absurd (cc)
    rule-same (a_rule p x no_rules) d K D N u0 n a env ρ w u v v' go rest other h s r e lt f =
        let M = spots_named (spots p u0 n a no_spots) N in
        all-fit (Rel K) p d n a u0 w.store env env env no_spots ρ w v v' (λ env' w'. src.eval call x env' w') (λ w'. raises (packet untagged match_name) w') go (ev (making D M x n rest) ρ u other) r e lt bound_none
        (λ env1 b1. making-same x K D M n env1 ρ w u go rest other (bound-onto h b1) s f)
    rule-same (a_rule p x (a_rule q y rs)) d K D N u0 n a env ρ w u v v' go rest other h s r e lt f = absurd (cc)

    tuple-same : (a : Exp) → TupleSame a
    tuple-same (fields_exp t fs) k e = tuple-of fs (all-same fs) t k e
    tuple-same (counted_exp j t a) k e = tuple-same a k e
    tuple-same (constant_exp l t) k e = absurd (cc)
    tuple-same (variable_exp x ts t) k e = absurd (cc)
    tuple-same (own_exp x t) k e = absurd (cc)
    tuple-same (con_exp c y ts t) k e = absurd (cc)
    tuple-same (ref_exp v t) k e = absurd (cc)
    tuple-same (exn_exp x t) k e = absurd (cc)
    tuple-same (prim_exp p ts t) k e = absurd (cc)
    tuple-same (let_exp t ds a) k e = absurd (cc)
    tuple-same (app_exp place t f a) k e = absurd (cc)
    tuple-same (case_exp place t a rs) k e = absurd (cc)
    tuple-same (chain_exp b t c) k e = absurd (cc)
    tuple-same (handle_exp t a rs) k e = absurd (cc)
    tuple-same (raise_exp t a) k e = absurd (cc)
    tuple-same (fn_exp t f) k e = absurd (cc)

    all-same : (fs : tree.Fields) → AllSame fs
    all-same tree.no_fields K D N n env ρ w u go rest other h s f = f no_fields no_fields w u ρ none_labelled no_same s (holds-refl n ρ) refl
    all-same (a_field l e fs) K D N n env ρ w u go rest other h s f =
        let i = value_at e n in let le = le-suc _ _ (up e n) in
        part e (making-same e) K D N n env ρ w u (λ v w'. then_do (src.eval_fields call fs env w') (λ r w''. gives (field l v r) w'')) go (making_all D N fs (suc i) rest) other h s (λ v v' w1 u1 ρ1 r s1 k1 e1.
        part-row fs (all-same fs) K D N (suc i) env ρ1 w1 u1 (λ r w''. gives (field l v r) w'') go rest other (same-up n (suc i) le k1 h) s1 (λ q q' w2 u2 ρ2 ls qs s2 k2 e2.
        f (field l v q) (field l v' q') w2 u2 ρ2 (one_labelled l ls) (a_same l r qs) s2 (holds-trans n (suc i) ρ ρ1 ρ2 le k1 k2) (row-found l (atom i) (field_row fs (suc i)) ρ2 v' q' (k2 i (omega arith) ∙ e1) e2)))

    chain-same : (c : Chain) (b : Bool) (D : List Quantified) (N : Names) (n : ℕ) (env : src.Scope) (ρ : tgt.Scope poly) (w : World src.V) (u : World W) (other : World W → Answer W W) → SameEnv n N env ρ → Worlds w u → ((w' : World src.V) (u' : World W) → Worlds w' u' → Ends (raises (packet untagged match_name) w') (other u')) → Ends (src.eval_chain call b c env w) (ev (links D N c b n) ρ u other)
    chain-same (only e) b D N n env ρ w u other h s l = value-alone e (making-same e) D N n env ρ w u other h s
    chain-same (link e c) b D N n env ρ w u other h s l =
        let i = value_at e n in let le = le-suc _ _ (up e n) in
        making-same e value D N n env ρ w u (λ v w'. src.on_operand b v w' (src.eval_chain call b c env w')) (te.switch (atom i) bool_type (operand_arms b i (links D N c b (suc i)))) other h s
        (λ v v' w1 u1 ρ1 r s1 k1 e1. operand-same b i ρ1 w1 u1 v v' (src.eval_chain call b c env w1) (links D N c b (suc i)) other s1 r e1 (chain-same c b D N (suc i) env ρ1 w1 u1 other (same-up n (suc i) le k1 h) s1 l) (l w1 u1 s1))

    rules-same : (rs : Rules) (D : List Quantified) (N : Names) (a t : Typ) (n k : ℕ) (o : Otherwise) (env : src.Scope) (ρ : tgt.Scope poly) (w : World src.V) (u : World W) (v : src.V) (v' : W) (other : World W → Answer W W) → Raised o v → SameEnv n N env ρ → Worlds w u → Same v v' → tgt.look_up (atom k) ρ ≡ Some v' → k < n
        → Ends (src.eval_rules call rs v env w (packet_for o v)) (ev (rules D N rs a t n k o) ρ u other)
    rules-same no_rules D N a t n k o env ρ w u v v' other m h s r e lt = raises-same o D n k t ρ w u v v' other m s r e
    rules-same (a_rule p e rs) D N a t n k o env ρ w u v v' other m h s r z lt =
        let i = past_pat p n in let j = value_at e i in let others : World W → Answer W W = λ u'. ev (rules D N rs a t (suc j) k o) ρ u' other in let le : n ≤ suc j = le-suc _ _ (le-trans _ _ _ (pat-up p n) (up e i)) in
        let M = spots_named (spots p a n k no_spots) N in
        tests-same call' Same D N env env p n k a env no_spots ρ w u v v' (λ env' w'. src.eval call e env' w') (making D M e i (te.ret (atom j))) (λ w'. src.eval_rules call rs v env w' (packet_for o v)) others h s r z lt bound_none
        (λ env1 ρ1 k1 b1. value-alone e (making-same e) D M i env1 ρ1 w u others (bound-onto (same-up n i (pat-up p n) k1 h) b1) s)
        (rules-same rs D N a t (suc j) k o env ρ w u v v' other m (same-up n (suc j) le (holds-refl n ρ) h) s r z (less-of k n (suc j) lt le))

    binds-same : (qs : List Quantified) (bs : Binds) (D : List Quantified) (N : Names) (n : ℕ) (env bound base : src.Scope) (us : Spots) (ρ : tgt.Scope poly) (w : World src.V) (u : World W) (go : src.Scope → World src.V → Answer src.V src.V) (rest : Tests) (other : World W → Answer W W) → SameEnv n N env ρ → Worlds w u → Bound n ρ base us bound → RaisesBind other
        → ((env' : src.Scope) (ρ' : tgt.Scope poly) (w' : World src.V) (u' : World W) → Holds n ρ ρ' → Bound (past_binds qs bs n) ρ' base (binds_spots qs bs n us) env' → Worlds w' u' → Ends (go env' w') (ev rest ρ' u' other))
        → Ends (then_do (src.eval_binds call bs env bound w) go) (ev (bindings D N qs bs n rest) ρ u other)
    binds-same qs no_binds D N n env bound base us ρ w u go rest other h s b l k = k bound ρ w u (holds-refl n ρ) b s
    binds-same qs (a_bind place x p t e bs) D N n env bound base us ρ w u go rest other h s b l k =
        let y = shape qs x p in let i = value_at e n in let m = past_shape y p t i in let le : n ≤ m = le-trans _ _ _ (le-suc _ _ (up e n)) (shape-up y p t i) in
        binding-same e (making-same e) y qs p (λ z d. sole (parameters_if x qs) p z d) D N t n env bound base us ρ w u (λ bound' w'. src.eval_binds call bs env bound' w') go (bindings D N qs bs m rest) other h s b l
        (λ env1 ρ1 w1 u1 k1 b1 s1. binds-same qs bs D N m env env1 base (shape_spots y p t i us) ρ1 w1 u1 go rest other (same-up n m le k1 h) s1 b1 l (λ env2 ρ2 w2 u2 k2 b2 s2. k env2 ρ2 w2 u2 (holds-trans n m ρ ρ1 ρ2 le k1 k2) b2 s2))

    decs-same : (ds : Decs) (D : List Quantified) (N : Names) (n : ℕ) (env : src.Scope) (ρ : tgt.Scope poly) (w : World src.V) (u : World W) (go : src.Scope → World src.V → Answer src.V src.V) (rest : Tests) (other : World W → Answer W W) → SameEnv n N env ρ → Worlds w u → RaisesBind other
        → ((env' : src.Scope) (ρ' : tgt.Scope poly) (w' : World src.V) (u' : World W) → SameEnv (past_decs ds n) (decs_named ds n N) env' ρ' → Worlds w' u' → Ends (go env' w') (ev rest ρ' u' other)) → Ends (then_do (src.eval_decs call ds env w) go) (ev (decs D N ds n rest) ρ u other)
    decs-same no_decs D N n env ρ w u go rest other h s l f = f env ρ w u h s
    decs-same (val_dec qs bs fs ds) D N n env ρ w u go rest other h s l f =
        let rs = unclassed qs in
        let b = past_binds rs bs n in let m = past_group fs b in let j = past_funs fs m in let E = rs ++ D in let N1 = funs_named fs b N in let vs = binds_spots rs bs n no_spots in
        let group = pass.functions E N1 fs b m in let later = decs D (val_named rs bs fs n N) ds j rest in
        subst (λ y. Ends y (ev (bindings D N rs bs n (grouped rs group later)) ρ u other)) (sym (then_do-then_do (src.eval_binds call bs env (src.members fs env) w) (λ env' w'. src.eval_decs call ds env' w') go))
        (binds-same rs bs D N n env (src.members fs env) (src.members fs env) no_spots ρ w u (λ env' w'. then_do (src.eval_decs call ds env' w') go) (grouped rs group later) other h s bound_none l (λ env1 ρ1 w1 u1 k1 b1 s1.
        subst (λ y. Ends (then_do (src.eval_decs call ds env1 w1) go) y) (sym (grouped-ev rs group later ρ1 u1 other))
        (decs-same ds D (val_named rs bs fs n N) j env1 (tgt.members group ρ1) w1 u1 go rest other
        (same-up m j (funs-up fs m) (holds-refl m _) (bound-onto (members-same E fs b b m (le-refl b) (le-refl m) (same-up n b (binds-up rs bs n) k1 h)) (bound-more b m (group-up fs b) (members-held E fs b b m N1 ρ1 (le-refl b)) b1)))
        s1 l f)))
    decs-same (exception_dec x identifier t ds) D N n env ρ w u go rest other h s l f =
        new_exception-agree Same Same identifier w u (λ i w'. then_do (src.eval_decs call ds (bind x (exn tt i) env) w') go) (λ i u'. ev (decs D (named x n N) ds (suc n) rest) (bind n (exn tt i) ρ) u' other) s
        (λ i w1 u1 s1. decs-same ds D (named x n N) (suc n) (bind x (exn tt i) env) (bind n (exn tt i) ρ) w1 u1 go rest other (same_bind (suc n) x n (omega arith) (here n (exn tt i) ρ) (same_exn tt i) (same-up n (suc n) (le-suc n n (le-refl n)) (holds-bind n n (exn tt i) ρ (le-refl n)) h)) s1 l f)
    decs-same (counted_dec k ds) D N n env ρ w u go rest other h s l f = decs-same ds D N n env ρ w u go rest other h s l f

  -- a function is given its argument
  run_fun-same : (f : Fun) (D : List Quantified) (N : Names) (n : ℕ) (env : src.Scope) (ρ : tgt.Scope poly) (a : src.V) (a' : W) (w : World src.V) (u : World W) → SameEnv n N env ρ → Same a a' → Worlds w u → Ends (src.run_fun call f env a w) (tgt.run_fun call' (function D N f n) ρ a' u)
  run_fun-same (last x t e) D N n env ρ a a' w u h r s =
      let le = le-suc n n (le-refl n) in let holds = holds-bind n n a' ρ (le-refl n) in
      value-alone e (making-same e) D (named x n N) (suc n) (bind x a env) (bind n a' ρ) w u fail (same_bind (suc n) x n (omega arith) (here n a' ρ) r (same-up n (suc n) le holds h)) s
  run_fun-same (by_rules place t b rs) D N n env ρ a a' w u h r s =
      rules-same rs D N t b (suc n) n (initial match_name) env (bind n a' ρ) w u a a' fail tt (same-up n (suc n) (le-suc n n (le-refl n)) (holds-bind n n a' ρ (le-refl n)) h) s r (here n a' ρ) (omega arith)
  run_fun-same (tree.more x t f) D N n env ρ a a' w u h r s =
      let le = le-suc n n (le-refl n) in let holds = holds-bind n n a' ρ (le-refl n) in
      both_give (same_closure (suc n) (named x n N) (same_alone D f (suc n) (le-refl (suc n)) refl) (same_bind (suc n) x n (omega arith) (here n a' ρ) r (same-up n (suc n) le holds h))) s

-- calls

body-same : (go : Fun → src.Scope → src.V → World src.V → Answer src.V src.V) (go' : te.Fun poly → tgt.Scope poly → W → World W → Answer W W)
    → ((f : Fun) (D : List Quantified) (N : Names) (n : ℕ) (env : src.Scope) (ρ : tgt.Scope poly) (a : src.V) (a' : W) (w : World src.V) (u : World W) → SameEnv n N env ρ → Same a a' → Worlds w u → Ends (go f env a w) (go' (function D N f n) ρ a' u))
    → (c : src.Code) (c' : tgt.Code poly) (env : src.Scope) (ρ : tgt.Scope poly) → Same (closure c env) (closure c' ρ) → (a : src.V) (a' : W) (w : World src.V) (u : World W) → Same a a' → Worlds w u → Ends (src.body go c env a w) (tgt.body go' c' ρ a' u)
body-same go go' k _ _ env ρ (same_closure n N (same_alone D f m {f' = f'} le e) h) a a' w u r s = subst (λ x. Ends (go f env a w) (go' x ρ a' u)) (sym e) (k f D N m env ρ a a' w u (same-up n m le (holds-refl n ρ) h) r s)
body-same go go' k _ _ env ρ (same_closure n N (same_one_of D E f m {f' = f'} fs b j {fs' = fs'} le lj lm e d) h) a a' w u r s =
    let p = past_group fs b in
    subst (λ x. Ends (go f (src.members fs env) a w) (go' x (tgt.members fs' ρ) a' u)) (sym e)
    (subst (λ y. Ends (go f (src.members fs env) a w) (go' (function D (funs_named fs b N) f m) (tgt.members y ρ) a' u)) (sym d)
    (k f D (funs_named fs b N) m (src.members fs env) (tgt.members (pass.functions E (funs_named fs b N) fs b j) ρ) a a' w u (same-up p m lm (holds-refl p _) (members-same E fs n b j le lj h)) r s))

apply-direct : (k : ℕ) → Direct (src.apply k)
apply-direct zero = record { con = λ place c v w. refl; exn = λ place i v w. refl; ref = λ place v w. refl; primitive = λ place p v w. refl }
apply-direct (suc k) = record { con = λ place c v w. refl; exn = λ place i v w. refl; ref = λ place v w. refl; primitive = λ place p v w. refl }

apply-same : (k : ℕ) (place : Place) (g a : src.V) (g' a' : W) (w : World src.V) (u : World W) → Same g g' → Same a a' → Worlds w u → Ends (src.apply k place g a w) (tgt.apply k place g' a' u)
apply-same zero place g a g' a' w u h r s = enter-same untagged Same by-kind _ _ place w u h r s (λ c c' env ρ z w1 u1 s1. body-same _ _ (λ f D N n env ρ a a' w u h r s. both_stop _ s) c c' env ρ z a a' w1 u1 r s1)
apply-same (suc k) place g a g' a' w u h r s =
    enter-same untagged Same by-kind _ _ place w u h r s (λ c c' env ρ z w1 u1 s1. body-same _ _ (run_fun-same (src.apply k) (tgt.apply k) (apply-same k) (apply-direct k) (apply-packs k)) c c' env ρ z a a' w1 u1 r s1)

-- programs

abbrev unit_done : src.Scope → World src.V → Answer src.V src.V
unit_done env w = gives (record_of tt no_fields) w

forgets : (r : Answer src.V src.Scope) → outcome_of src.identifier_of (then_do r unit_done) ≡ outcome_of src.identifier_of r
forgets (gives a w) = refl
forgets (raises p w) = refl
forgets (stops cut w) = refl

identified : (p : src.V) (q : W) (w : World src.V) (u : World W) → Same p q → Worlds w u → tgt.identifier_of {F = poly} q u ≡ src.identifier_of p w
identified p q w u r s = ap (λ names. option_and_then (slice_get names) (packet_name q)) s.exceptions ∙ ap (option_and_then (slice_get w.exceptions)) (packet-alike Same (kind-of _ _ r))

first-worlds : (names : List ℕ) (m : ℕ) → Worlds (record (start m) { exceptions = names }) (record (start m) { exceptions = names })
first-worlds names m = record { output = refl; left = refl; taken = refl; store = none; exceptions = refl }

-- equal output, end and places of turns, whatever the turns
pub run-same : (names : List ℕ) (ds : Decs) (m : ℕ) → Rattle.ir_poly.specs.Tests.run names (compile ds) m ≡ src.run names ds m
run-same names ds m =
    let k = past_decs ds 1 in
    let done : Tests = put [] k unit_type (te.make_record unit_type te.no_row) (te.ret (atom k)) in
    outcome_of-agree Same Same src.identifier_of (tgt.identifier_of {F = poly}) identified
    (decs-same (src.apply m) (tgt.apply m) (apply-same m) (apply-direct m) (apply-packs m) ds [] no_names 1 empty empty (record (start m) { exceptions = names }) (record (start m) { exceptions = names }) unit_done done (λ u'. tgt.eval (tgt.apply m) (otherwise [] (suc k) unit_type 0 (initial bind_name)) empty u' fail) (same_empty 1 (omega arith) refl) (first-worlds names m)
    (λ w u1 s. both_raise (same_exn tt bind_name) s)
    (λ env ρ w u1 h s. found (tgt.apply m) Same k (bind k (record_of tt no_fields) ρ) (record_of tt no_fields) u1 (gives (record_of tt no_fields) w) (λ v. gives v u1) (here k (record_of tt no_fields) ρ) (both_give (same_record tt no_same) s)))
    ∙ forgets (src.eval_decs (src.apply m) ds empty (record (start m) { exceptions = names }))
