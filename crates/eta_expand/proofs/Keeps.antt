-- The program does what its expansion does, unless that goes wrong.
use Rattle.std.proofs.Common.{◌≡◌, ℕ, zero, suc, ◌+◌, ◌<◌, List, [], ◌∷◌, length, Bool, true, false, if◌then◌else◌, Option, Some, None, nat_eq, nat_lt, slice_get, option_map, option_and_then, refl, sym, ap, subst, ◌∙◌, arith}
use Rattle.std.proofs.lemmas.Bool.{eqb-true}
use Rattle.mlc_names.specs.declared.label.Label.{Label}
use Rattle.mlc_names.specs.declared.label.Label.TheVariants.{Number}
use Rattle.mlc_base.specs.declared.place.Place.{Place}
use Rattle.mlc_runs.specs.Outcome.{wrong}
use Rattle.mlc_runs.specs.Run.{World, Answer, gives, out_of_turns, then_do, or_fail, fail}
use Rattle.mlc_runs.specs.Agreement.{AllRelated, none, more as one_more, BothOrNeither, neither, both, SameWorlds}
use Rattle.mlc_runs.specs.Refinement.{Refines, both_give, both_raise, both_stop, first_wrong}
use Rattle.mlc_runs.proofs.RefineLaws.{then_do-refines, or_handle-refines, take_turn-refines, dereference-refines, new_exception-refines, outcome_of-refines}
use Rattle.mlc_prims.specs.LitOf.{Literal, int, word, char, string, truth}
use Rattle.mlc_prims.specs.declared.basis.BasisPrimitive.{BasisPrimitive}
use Rattle.mlc_prims.specs.declared.basis.BasisPrimitive.TheVariants.{Add}
use Rattle.ty_core.specs.Types.{labels, Typ, typs_of}
use Rattle.ir_values.specs.Values.{record_of, con, con_of, exn, exn_of, primitive, value_of, field_in, count, bind, closure}
use Rattle.ir_values.specs.Match.{after_match}
use Rattle.ir_values.specs.Primitives.{Sort, compares, assigns, prints, computes, sort_of, marked, arguments, parts, perform, perform_as, make_reference, content_of, raise_value}
use Rattle.ir_plain.specs.Tree.{Arms, Op, Atoms, an_atom, no_atoms, prim, fn, pack, Fun}
use Rattle.ir_plain.specs.Meaning.{V, Scope, Fits, Parts, Apply, Code, alone, in_front, argument_tag, look_up, look_all, on_name, pack_value, select_from, read_reference, eval, eval_arms, eval_op, run_fun, enter, identifier_of, run}
use Rattle.ir_poly.specs.Types.{prim_type}
use Rattle.ir_mono.specs.Types as table
use Rattle.ir_mono.specs.Types.{node_at, Is, IsFunction, IsTable, AllStand, numbered, IsTuple, nothing, alone as single, together}
use Rattle.ir_mono.specs.Mono.{mono}
use Rattle.ir_mono.specs.Typing as tt
use Rattle.ir_mono.specs.Typing.{of_type, exception, Sorts, PrimAt, packet_at, to_packets_at, value_at, function_at, FunTyped, t_last, t_more}
use Rattle.ir_mono.proofs.Sound.{well-formed-never-wrong}
use Rattle.eta_expand.specs.Expand.{Names, takes_at, gives_at, parts_at, is_single, past, E, gives_it, packing, selecting, atoms_from, performing, used_as, alone_as, case_names, group_names, news, op_news, funs_news, expand, expand_arms, expand_op, expand_fun, expanded}
use Rattle.eta_expand.specs.Laws.{ExpandedSame}
use Rattle.eta_expand.proofs.Known.{number-same, apart, takes_sort, Knows, knows-none, knows-more, knows-value, knows-name, knows-case, knows-group}
use Rattle.eta_expand.proofs.Typed.{single-of-one, single-of-more}
use Rattle.eta_expand.proofs.Formed.{expanded-well-formed}
use Rattle.eta_expand.proofs.Fuel.{still, calls_to, run_to, run-same}
use Rattle.eta_expand.proofs.Related.{K, TT, HasLabels, Rel, rel_literal, rel_record, rel_con, rel_con_of, rel_exn, rel_exn_of, rel_address, rel_cell, rel_closure, rel_group, rel_constructor, rel_reference, rel_packets, rel_primitive, RelFields, Covers, covers_none, covers_value, covers_name, Found, found_value, found_name, found, members-cover, field-same, count-labels, SameMatched, both_match, both_fail, no_fit, case-same, atoms-same, SameRow, same_row, row-same, name-same}
use Rattle.eta_expand.proofs.Refined.{perform-refines, reference-refines, parts-related}

-- each primitive takes an argument
some-arguments : (p : BasisPrimitive) → nat_lt 0 (length (prim_type p).arguments) ≡ true
some-arguments Add = refl
some-arguments _ = refl

length-numbered : (k : ℕ) (ns : List ℕ) → length (numbered k ns) ≡ length ns
length-numbered k [] = refl
length-numbered k (n ∷ ns) = ap suc (length-numbered (suc k) ns)

module _ (types : List table.Row) (sound : IsTable types) where
  abbrev W : Type 0
  W = V (K types)

  abbrev R : W → W → Type 0
  R = Rel types

  abbrev Ends : Answer W W → Answer W W → Type 0
  Ends = Refines R R

  abbrev Worlds : World W → World W → Type 0
  Worlds = SameWorlds R

  abbrev Env : Type 0
  Env = Scope (K types)

  abbrev Co : Sorts → Env → Env → Type 0
  Co = Covers types

  look-here : (x : ℕ) (v : W) (env : Env) → look_up {F = K types} x (bind x v env) ≡ Some v
  look-here x v env = ap (λ b. if b then Some v else look_up {F = K types} x env) (number-same x)

  look-under : (x y : ℕ) (v : W) (env : Env) → (y ≡ x → ⊥) → look_up {F = K types} y (bind x v env) ≡ look_up {F = K types} y env
  look-under x y v env h = ap (λ b. if b then Some v else look_up {F = K types} y env) (apart y x h)

  if-both : (b : Bool) (u w : World W) {r' r : Answer W W} → Worlds u w → Ends r' r → Ends (if b then r' else fail u) (if b then r else fail w)
  if-both true u w s h = h
  if-both false u w s h = both_stop _ s

  marked-refines : (m : Option Place) (u w : World W) (go' go : World W → Answer W W) → Worlds u w → ((u' w' : World W) → Worlds u' w' → Ends (go' u') (go w')) → Ends (marked m u go') (marked m w go)
  marked-refines None u w go' go s h = h u w s
  marked-refines (Some place) u w go' go s h = take_turn-refines R R place u w go' go s h

  value-refines : {t : ℕ} {o' o : Option W} (u w : World W) (go' go : W → Answer W W) → Found types (of_type t) o' o → ((v' v : W) → R v' v → Ends (go' v') (go v)) → Ends (or_fail o' u go') (or_fail o w go)
  value-refines u w go' go (found_value r) h = h _ _ r

  list-refines : {C : Type 0} (U : C → C → Type 0) {o' o : Option C} (u w : World W) (go' go : C → Answer W W) → BothOrNeither U o' o → Worlds u w → ((v' v : C) → U v' v → Ends (go' v') (go v)) → Ends (or_fail o' u go') (or_fail o w go)
  list-refines U u w go' go neither s h = both_stop _ s
  list-refines U u w go' go (both r) s h = h _ _ r

  row-refines : {ls : List Label} {o' o : Option (Parts (K types))} (u w : World W) (go' go : Parts (K types) → Answer W W) → SameRow types ls o' o → ((fs' fs : Parts (K types)) → HasLabels types fs ls → RelFields types fs' fs → Ends (go' fs') (go fs)) → Ends (or_fail o' u go') (or_fail o w go)
  row-refines u w go' go (same_row i r) h = h _ _ i r

  named-refines : {a : Option ℕ} {o' o : Option W} (u w : World W) (go' go : W → Answer W W) → Found types (exception a) o' o → ((i : ℕ) → Ends (go' (exn (argument_tag (K types) a) i)) (go (exn (argument_tag (K types) a) i))) → Ends (on_name o' u go') (on_name o w go)
  named-refines u w go' go (found_name i) h = h i

  give-refines : {t : ℕ} {o' o : Option W} (u w : World W) → Found types (of_type t) o' o → Worlds u w → Ends (or_fail o' u (λ v. gives v u)) (or_fail o w (λ v. gives v w))
  give-refines u w (found_value r) s = both_give r s

  name-gives : {a : Option ℕ} {o' o : Option W} (u w : World W) → Found types (exception a) o' o → Worlds u w → Ends (or_fail o' u (λ v. gives v u)) (or_fail o w (λ v. gives v w))
  name-gives u w (found_name i) q = both_give (rel_exn _ i) q

  constant-refines : (l : Literal) (u w : World W) → Worlds u w → Ends (gives (value_of (TT types) l) u) (gives (value_of (TT types) l) w)
  constant-refines (int z) u w s = both_give (rel_literal (int z)) s
  constant-refines (word z) u w s = both_give (rel_literal (word z)) s
  constant-refines (char z) u w s = both_give (rel_literal (char z)) s
  constant-refines (string z) u w s = both_give (rel_literal (string z)) s
  constant-refines (truth b) u w s = both_give (rel_con _ _) s

  pack-refines : {a : ℕ} {o' o : Option W} {v' v : W} (m : Option Place) (u w : World W) → Found types (exception (Some a)) o' o → R v' v → Worlds u w → Ends (or_fail o' u (pack_value m a v' u)) (or_fail o w (pack_value m a v w))
  pack-refines m u w (found_name i) h s = marked-refines m u w _ _ s (λ u' w' q. both_give (rel_exn_of _ i h) q)

  field-refines : {o' o : Option W} (u w : World W) → BothOrNeither R o' o → Worlds u w → Ends (or_fail o' u (λ v. gives v u)) (or_fail o w (λ v. gives v w))
  field-refines u w neither s = both_stop _ s
  field-refines u w (both r) s = both_give r s

  select-refines : (g : ℕ) (l : Label) {v' v : W} (u w : World W) → R v' v → Worlds u w → Ends (select_from g l v' u) (select_from g l v w)
  select-refines g l u w (rel_record h i j q) s = if-both (nat_eq g h) u w s (field-refines u w (field-same types l q) s)
  select-refines g l u w _ s = first_wrong _

  content-refines : (g : ℕ) {v' v : W} (u w : World W) → R v' v → Worlds u w → Ends (content_of (TT types) g u v') (content_of (TT types) g w v)
  content-refines g u w (rel_cell z h) s = if-both (nat_eq g z) u w s (both_give h s)
  content-refines g u w _ s = first_wrong _

  read-refines : (g : ℕ) {v' v : W} (u w : World W) → R v' v → Worlds u w → Ends (read_reference g v' u) (read_reference g v w)
  read-refines g u w (rel_address i) s = dereference-refines R R i u w _ _ s (λ v' v h. content-refines g u w h s)
  read-refines g u w _ s = first_wrong _

  raise-refines : {v' v : W} (u w : World W) → R v' v → Worlds u w → Ends (raise_value v' u) (raise_value v w)
  raise-refines u w (rel_exn g i) s = both_raise (rel_exn g i) s
  raise-refines u w (rel_exn_of g i h) s = both_raise (rel_exn_of g i h) s
  raise-refines u w _ s = first_wrong _

  match-refines : {G : Sorts} {m' m : Fits (K types)} (u w : World W) (go' go : Env → World W → Answer W W) (other' other : World W → Answer W W) → SameMatched types G m' m → ((env' env : Env) → Co G env' env → Ends (go' env' u) (go env w)) → Ends (other' u) (other w)
      → Ends (after_match m' u go' other') (after_match m w go other)
  match-refines u w go' go other' other (both_match c) k l = k _ _ c
  match-refines u w go' go other' other both_fail k l = l
  match-refines u w go' go other' other (no_fit m) k l = first_wrong _

  -- the result of an operation
  then-it : {r' r : Answer W W} (x : ℕ) (env : Env) → Ends r' r → Ends (then_do r' (λ v u. or_fail (look_up {F = K types} x (bind x v env)) u (λ v. gives v u))) r
  then-it x env (both_give {a = a} {b = b} {w = w} {u = u} t s) = subst (λ o. Ends (or_fail o w (λ v. gives v w)) (gives b u)) (sym (look-here x a env)) (both_give t s)
  then-it x env (both_raise r s) = both_raise r s
  then-it x env (both_stop cut s) = both_stop cut s
  then-it x env (first_wrong r) = first_wrong _

  -- an exception that takes an argument is brought in, and its packets are made by a function
  used-refines : {a : ℕ} {o' o : Option W} (call' : Apply (K types)) (n e t : ℕ) (env' : Env) (u w : World W) → Found types (exception (Some a)) o' o → Worlds u w
      → Ends (on_name o' u (λ v. eval call' (gives_it types (suc n) t (fn (packing types (suc (suc n)) a e n))) (bind n v env') u fail)) (or_fail o w (λ v. gives v w))
  used-refines {a} call' n e t env' u w (found_name i) s =
      then-it (suc n) (bind n (exn a i) env') (both_give (rel_packets (suc (suc n)) a e n a i (look-here n (exn a i) env') (apart n (suc (suc n)) (λ z. omega (arith, z)))) s)

  -- a primitive that is given one argument: where that is a record, it is no primitive of one
  wrong-of-record : (g h : ℕ) (fs : Parts (K types)) (o : Sort) (p : BasisPrimitive) (u : World W) (r : Answer W W) → Ends (perform_as (TT types) o g p (record_of h fs ∷ []) u) r
  wrong-of-record g h fs compares p u r = first_wrong r
  wrong-of-record g h fs assigns p u r = first_wrong r
  wrong-of-record g h fs prints p u r = first_wrong r
  wrong-of-record g h fs computes p u r = first_wrong r

  alone-performed : (g : ℕ) (p : BasisPrimitive) {v' v : W} (u w : World W) → R v' v → Worlds u w → Ends (perform (TT types) g p (v' ∷ []) u) (perform (TT types) g p (arguments v) w)
  alone-performed g p u w (rel_record h {fs' = fs'} i j q) s = wrong-of-record g h fs' (sort_of p) p u _
  alone-performed g p u w (rel_literal l) s = perform-refines types sound g p u w (one_more (rel_literal l) none) s
  alone-performed g p u w (rel_con h c) s = perform-refines types sound g p u w (one_more (rel_con h c) none) s
  alone-performed g p u w (rel_con_of h c q) s = perform-refines types sound g p u w (one_more (rel_con_of h c q) none) s
  alone-performed g p u w (rel_exn h i) s = perform-refines types sound g p u w (one_more (rel_exn h i) none) s
  alone-performed g p u w (rel_exn_of h i q) s = perform-refines types sound g p u w (one_more (rel_exn_of h i q) none) s
  alone-performed g p u w (rel_address i) s = perform-refines types sound g p u w (one_more (rel_address i) none) s
  alone-performed g p u w (rel_cell h q) s = perform-refines types sound g p u w (one_more (rel_cell h q) none) s
  alone-performed g p u w (rel_closure n k f c) s = perform-refines types sound g p u w (one_more (rel_closure n k f c) none) s
  alone-performed g p u w (rel_group n i k h f c) s = perform-refines types sound g p u w (one_more (rel_group n i k h f c) none) s
  alone-performed g p u w (rel_constructor n c z a) s = perform-refines types sound g p u w (one_more (rel_constructor n c z a) none) s
  alone-performed g p u w (rel_reference n a r) s = perform-refines types sound g p u w (one_more (rel_reference n a r) none) s
  alone-performed g p u w (rel_packets n a e z h i l d) s = perform-refines types sound g p u w (one_more (rel_packets n a e z h i l d) none) s
  alone-performed g p u w (rel_primitive n q t) s = perform-refines types sound g p u w (one_more (rel_primitive n q t) none) s

  -- with these in variables from m on
  abbrev pushed : ℕ → List W → Env → Env
  pushed m [] env = env
  pushed m (v ∷ vs) env = pushed (suc m) vs (bind m v env)

  before-pushed : (y m : ℕ) (vs : List W) (env : Env) → y < m → look_up {F = K types} y (pushed m vs env) ≡ look_up {F = K types} y env
  before-pushed y m [] env h = refl
  before-pushed y m (v ∷ vs) env h = before-pushed y (suc m) vs (bind m v env) (omega (arith, h)) ∙ look-under m y v env (λ z. omega (arith, z, h))

  -- what is selected
  selected-at : (Q : Answer W W → Type 0) (u : World W) (go : W → World W → Answer W W) (o : Option W) → Q (fail u) → ((v : W) → o ≡ Some v → Q (go v u)) → Q (then_do (or_fail o u (λ v. gives v u)) go)
  selected-at Q u go None f h = f
  selected-at Q u go (Some v) f h = h v refl

  selected : (call : Apply (K types)) (Q : Answer W W → Type 0) (a y k m : ℕ) (ps : List ℕ) (e : E types) (fs : Parts (K types)) (env : Env) (u : World W) (other : World W → Answer W W) → y < m → look_up {F = K types} y env ≡ Some (record_of a fs) → Q (fail u)
      → ((vs : List W) → parts k (length ps) fs ≡ Some vs → Q (eval call e (pushed m vs env) u other)) → Q (eval call (selecting types a y k m ps e) env u other)
  selected call Q a y k m [] e fs env u other h l f g = g [] refl
  selected call Q a y k m (q ∷ ps) e fs env u other h l f g =
      subst (λ o. Q (then_do (or_fail o u (λ v. select_from {F = K types} a (Number k) v u)) (λ v w. eval call (selecting types a y (suc k) (suc m) ps e) (bind m v env) w other))) (sym l)
      (subst (λ b. Q (then_do (if b then or_fail (field_in (Number k) fs) u (λ v. gives v u) else fail u) (λ v w. eval call (selecting types a y (suc k) (suc m) ps e) (bind m v env) w other))) (sym (number-same a))
      (selected-at Q u (λ v w. eval call (selecting types a y (suc k) (suc m) ps e) (bind m v env) w other) (field_in (Number k) fs) f
      (λ v i. selected call Q a y (suc k) (suc m) ps e fs (bind m v env) u other (omega (arith, h)) (look-under m y v env (λ z. omega (arith, z, h)) ∙ l) f
      (λ vs j. g (v ∷ vs) (ap (λ o. option_and_then (λ x. option_map (λ xs. x ∷ xs) (parts (suc k) (length ps) fs)) o) i ∙ ap (λ o. option_map (λ xs. v ∷ xs) o) j)))))

  -- and is found again
  atoms-found : (m k : ℕ) (ps : List ℕ) (vs : List W) (fs : Parts (K types)) (env : Env) → parts k (length ps) fs ≡ Some vs → look_all {F = K types} (atoms_from types m ps) (pushed m vs env) ≡ Some vs
  atoms-found m k [] [] fs env e = refl
  atoms-found m k [] (v ∷ vs) fs env e = absurd (cc)
  atoms-found m k (p ∷ ps) vs fs env e = by (field_in (Number k) fs) (parts (suc k) (length ps) fs) refl vs e (λ vs env e. atoms-found (suc m) (suc k) ps vs fs env e)
    where
      by : (o : Option W) (q : Option (List W)) → parts (suc k) (length ps) fs ≡ q → (vs : List W) → option_and_then (λ x. option_map (λ xs. x ∷ xs) q) o ≡ Some vs
          → ((vs : List W) (env : Env) → parts (suc k) (length ps) fs ≡ Some vs → look_all {F = K types} (atoms_from types (suc m) ps) (pushed (suc m) vs env) ≡ Some vs)
          → look_all {F = K types} (atoms_from types m (p ∷ ps)) (pushed m vs env) ≡ Some vs
      by None q i vs e rest = absurd (cc)
      by (Some x) None i vs e rest = absurd (cc)
      by (Some x) (Some xs) i [] e rest = absurd (cc)
      by (Some x) (Some xs) i (v ∷ vs) e rest =
          let one : xs ≡ vs = cc in
          let there : parts (suc k) (length ps) fs ≡ Some vs = i ∙ ap Some one in
          subst (λ o. in_front {F = K types} o (look_all {F = K types} (atoms_from types (suc m) ps) (pushed (suc m) vs (bind m v env))) ≡ Some (v ∷ vs))
          (sym (before-pushed m (suc m) vs (bind m v env) (omega arith) ∙ look-here m v env))
          (subst (λ o. in_front {F = K types} (Some v) o ≡ Some (v ∷ vs)) (sym (rest vs (bind m v env) there)) refl)

  -- a primitive's result
  performed : (call : Apply (K types)) (p : BasisPrimitive) (g x r : ℕ) (as_ : Atoms (K types)) (vs : List W) (env : Env) (u : World W) {s : Answer W W} → look_all {F = K types} as_ env ≡ Some vs → Ends (perform (TT types) g p vs u) s
      → Ends (eval call (gives_it types x r (prim None p g as_)) env u fail) s
  performed call p g x r as_ vs env u {s} e h = then-it x env (subst (λ o. Ends (or_fail o u (λ vs. marked None u (perform (TT types) g p vs))) s) (sym e) h)

  arguments-are : (vs : List W) (g : ℕ) {n : ℕ} (fs : Parts (K types)) → count fs ≡ n → parts 1 n fs ≡ Some vs → arguments {B = ℕ} {C = Code (K types)} {T = ℕ} (record_of g fs) ≡ vs
  arguments-are vs g fs c e = ap (λ o. elim o [ None ↦ record_of g fs ∷ [] | Some us ↦ us ]) (ap (λ k. parts 1 k fs) c ∙ e)

  some-related : {vs' : List W} {o' o : Option (List W)} → BothOrNeither (AllRelated R) o' o → o' ≡ Some vs' → (vs : List W) × (o ≡ Some vs) × AllRelated R vs' vs
  some-related neither e = absurd (cc)
  some-related {vs'} (both {v = us'} {w = us} r) e = (us, refl, subst (λ z. AllRelated R z us) (cc) r)

  -- of a tuple
  record-performed : (call : Apply (K types)) (p : BasisPrimitive) (n g a r : ℕ) (b : ℕ) (bs : List ℕ) {ls : List Label} {ts : List ℕ} {fs' fs : Parts (K types)} (h : ℕ) (env : Env) (u w : World W) → Is types a (labels (numbered 1 (b ∷ bs))) (b ∷ bs)
      → Is types h (labels ls) ts → HasLabels types fs ls → RelFields types fs' fs → Worlds u w → (c : Bool) → nat_eq a h ≡ c
      → Ends (eval call (selecting types a n 1 (suc n) (b ∷ bs) (gives_it types (past (suc n) (b ∷ bs)) r (prim None p g (atoms_from types (suc n) (b ∷ bs))))) (bind n (record_of h fs') env) u fail) (perform (TT types) g p (arguments (record_of h fs)) w)
  record-performed call p n g a r b bs {fs' = fs'} {fs = fs} h env u w i j l q s false e =
      subst (λ o. Ends (then_do (or_fail o u (λ v. select_from {F = K types} a (Number 1) v u)) (λ v w. eval call (selecting types a n 2 (suc (suc n)) bs (gives_it types (past (suc n) (b ∷ bs)) r (prim None p g (atoms_from types (suc n) (b ∷ bs))))) (bind (suc n) v (bind n (record_of h fs') env)) w fail)) (perform (TT types) g p (arguments (record_of h fs)) w))
      (sym (look-here n (record_of h fs') env))
      (subst (λ z. Ends (then_do (if z then or_fail (field_in (Number 1) fs') u (λ v. gives v u) else fail u) (λ v w. eval call (selecting types a n 2 (suc (suc n)) bs (gives_it types (past (suc n) (b ∷ bs)) r (prim None p g (atoms_from types (suc n) (b ∷ bs))))) (bind (suc n) v (bind n (record_of h fs') env)) w fail)) (perform (TT types) g p (arguments (record_of h fs)) w))
      (sym e) (first_wrong _))
  record-performed call p n g a r b bs {ls = ls} {fs' = fs'} {fs = fs} h env u w i j l q s true e =
      let same : a ≡ h = eqb-true a h e in
      let here : Is types h (labels (numbered 1 (b ∷ bs))) (b ∷ bs) = subst (λ z. Is types z (labels (numbered 1 (b ∷ bs))) (b ∷ bs)) same i in
      let one : ls ≡ numbered 1 (b ∷ bs) = cc in
      let many : count fs ≡ length (b ∷ bs) = count-labels types l ∙ (ap length one ∙ length-numbered 1 (b ∷ bs)) in
      selected call (λ z. Ends z (perform (TT types) g p (arguments (record_of h fs)) w)) a n 1 (suc n) (b ∷ bs) (gives_it types (past (suc n) (b ∷ bs)) r (prim None p g (atoms_from types (suc n) (b ∷ bs)))) fs' (bind n (record_of h fs') env) u fail (omega arith)
      (look-here n (record_of h fs') env ∙ ap (λ z. Some (record_of z fs')) (sym same)) (first_wrong _)
      (λ vs' d. let k = some-related (parts-related types sound 1 (length (b ∷ bs)) q) d in
      subst (λ us. Ends (eval call (gives_it types (past (suc n) (b ∷ bs)) r (prim None p g (atoms_from types (suc n) (b ∷ bs)))) (pushed (suc n) vs' (bind n (record_of h fs') env)) u fail) (perform (TT types) g p us w)) (sym (arguments-are k.0 h fs many k.1))
      (performed call p g (past (suc n) (b ∷ bs)) r (atoms_from types (suc n) (b ∷ bs)) vs' (pushed (suc n) vs' (bind n (record_of h fs') env)) u (atoms-found (suc n) 1 (b ∷ bs) vs' fs' (bind n (record_of h fs') env) d) (perform-refines types sound g p u w k.2 s)))

  -- the first selection goes wrong
  not-selected : (call : Apply (K types)) (a n b : ℕ) (bs : List ℕ) (e : E types) (v : W) (env : Env) (u : World W) {r : Answer W W} → select_from {F = K types} a (Number 1) v u ≡ fail u → Ends (eval call (selecting types a n 1 (suc n) (b ∷ bs) e) (bind n v env) u fail) r
  not-selected call a n b bs e v env u {r} h =
      let gone : or_fail (look_up {F = K types} n (bind n v env)) u (λ v. select_from {F = K types} a (Number 1) v u) ≡ fail u = ap (λ o. or_fail o u (λ v. select_from {F = K types} a (Number 1) v u)) (look-here n v env) ∙ h in
      subst (λ z. Ends (then_do z (λ x w. eval call (selecting types a n 2 (suc (suc n)) bs e) (bind (suc n) x (bind n v env)) w fail)) r) (sym gone) (first_wrong _)

  tuple-performed : (call : Apply (K types)) (p : BasisPrimitive) (n g a r b : ℕ) (bs : List ℕ) {v' v : W} (env : Env) (u w : World W) → Is types a (labels (numbered 1 (b ∷ bs))) (b ∷ bs) → R v' v → Worlds u w
      → Ends (run_fun call (performing types false n p g a r (b ∷ bs)) env v' u) (perform (TT types) g p (arguments v) w)
  tuple-performed call p n g a r b bs env u w i (rel_record h j l q) s = record-performed call p n g a r b bs h env u w i j l q s (nat_eq a h) refl
  tuple-performed call p n g a r b bs {v' = v'} env u w i (rel_literal l) s = not-selected call a n b bs _ v' env u refl
  tuple-performed call p n g a r b bs {v' = v'} env u w i (rel_con h c) s = not-selected call a n b bs _ v' env u refl
  tuple-performed call p n g a r b bs {v' = v'} env u w i (rel_con_of h c q) s = not-selected call a n b bs _ v' env u refl
  tuple-performed call p n g a r b bs {v' = v'} env u w i (rel_exn h j) s = not-selected call a n b bs _ v' env u refl
  tuple-performed call p n g a r b bs {v' = v'} env u w i (rel_exn_of h j q) s = not-selected call a n b bs _ v' env u refl
  tuple-performed call p n g a r b bs {v' = v'} env u w i (rel_address j) s = not-selected call a n b bs _ v' env u refl
  tuple-performed call p n g a r b bs {v' = v'} env u w i (rel_cell h q) s = not-selected call a n b bs _ v' env u refl
  tuple-performed call p n g a r b bs {v' = v'} env u w i (rel_closure m k f c) s = not-selected call a n b bs _ v' env u refl
  tuple-performed call p n g a r b bs {v' = v'} env u w i (rel_group m j k h f c) s = not-selected call a n b bs _ v' env u refl
  tuple-performed call p n g a r b bs {v' = v'} env u w i (rel_constructor m c z d) s = not-selected call a n b bs _ v' env u refl
  tuple-performed call p n g a r b bs {v' = v'} env u w i (rel_reference m d e) s = not-selected call a n b bs _ v' env u refl
  tuple-performed call p n g a r b bs {v' = v'} env u w i (rel_packets m d e z h j l f) s = not-selected call a n b bs _ v' env u refl
  tuple-performed call p n g a r b bs {v' = v'} env u w i (rel_primitive m q t) s = not-selected call a n b bs _ v' env u refl

  no-arguments : (ts : List Typ) {f : ℕ → ℕ} → AllStand types f [] (typs_of ts) → nat_lt 0 (length ts) ≡ false
  no-arguments [] h = refl
  no-arguments (t ∷ ts) h = elim h [ ]

  primitive-performed : (call : Apply (K types)) (p : BasisPrimitive) (n g a r : ℕ) {ns : List ℕ} {v' v : W} (env : Env) (u w : World W) → PrimAt types p g ns r → IsTuple types ns a → R v' v → Worlds u w
      → Ends (run_fun call (performing types (is_single (prim_type p).arguments) n p g a r (parts_at (node_at types a))) env v' u) (perform (TT types) g p (arguments v) w)
  primitive-performed call p n g a r env u w q (nothing i) h s = let z = no-arguments (prim_type p).arguments q.arguments in let y = some-arguments p in absurd (cc)
  primitive-performed call p n g a r {v' = v'} {v = v} env u w q single h s =
      subst (λ b. Ends (run_fun call (performing types b n p g a r (parts_at (node_at types a))) env v' u) (perform (TT types) g p (arguments v) w)) (sym (single-of-one types (prim_type p).arguments q.arguments))
      (performed call p g (suc n) r (an_atom n no_atoms) (v' ∷ []) (bind n v' env) u (ap (λ o. in_front {F = K types} o (Some [])) (look-here n v' env)) (alone-performed g p u w h s))
  primitive-performed call p n g a r {v' = v'} {v = v} env u w q (together {a = b} {b = c} {ps = ps} i) h s =
      subst (λ o. Ends (run_fun call (performing types (is_single (prim_type p).arguments) n p g a r (parts_at o)) env v' u) (perform (TT types) g p (arguments v) w)) (sym i)
      (subst (λ z. Ends (run_fun call (performing types z n p g a r (b ∷ c ∷ ps)) env v' u) (perform (TT types) g p (arguments v) w)) (sym (single-of-more types (prim_type p).arguments q.arguments)) (tuple-performed call p n g a r b (c ∷ ps) env u w i h s))

  abbrev CallsRefine : Apply (K types) → Apply (K types) → Type 0
  CallsRefine call' call = (place : Place) (f' a' f a : W) (u w : World W) → R f' f → R a' a → Worlds u w → Ends (call' place f' a' u) (call place f a w)

  -- what is done where both miss
  abbrev OtherRefines : (World W → Answer W W) → (World W → Answer W W) → Type 0
  OtherRefines other' other = (u w : World W) → Worlds u w → Ends (other' u) (other w)

  fails : OtherRefines fail fail
  fails u w s = both_stop _ s

  module _ (call' call : Apply (K types)) (calls : CallsRefine call' call) where
    mutual
      eval-refines : {m : Bool} {N : Names} {G : Sorts} {e : E types} {t : ℕ} {env' env : Env} (n : ℕ) (u w : World W) (other' other : World W → Answer W W) → Knows N G → tt.Typed types m G e t → Co G env' env → Worlds u w → OtherRefines other' other
          → Ends (eval call' (expand types N n e) env' u other') (eval call e env w other)
      eval-refines n u w other' other k (tt.t_ret {x = x} e) c q z = give-refines u w (found types x e c) q
      eval-refines {N = N} n u w other' other k (tt.t_let {x = x} {a = a} {o = o} h l) c q z =
          then_do-refines R R R _ _ (op-refines n u w k h c q) (λ v' v u' w' r q'. eval-refines (n + op_news types N a o) u' w' other' other (knows-value x a k) l (covers_value r c) q' z)
      eval-refines n u w other' other k (tt.t_exception {x = x} {identifier = i} {a = a} l) c q z =
          new_exception-refines R R i u w _ _ q (λ j u' w' q'. eval-refines n u' w' other' other (knows-more x _ (exception a) refl k) l (covers_name j c) q' z)
      eval-refines n u w other' other k (tt.t_name {x = x} y l) c q z = named-refines u w _ _ (name-same types y c) (λ i. eval-refines n u w other' other (knows-name types x k y) l (covers_name i c) q z)
      eval-refines {N = N} n u w other' other k (tt.t_rec {fs = fs} h l) c q z =
          eval-refines (n + funs_news types (group_names types fs N) fs) u w other' other (knows-group types fs k) l (members-cover types n k h c fs n h) q z
      eval-refines n u w other' other k (tt.t_switch {x = x} {u = t} e arms) c q z = value-refines u w _ _ (found types x e c) (λ v' v r. arms-refines n t u w other' other k arms r c q z)
      eval-refines {N = N} n u w other' other k (tt.t_first {e = e} h l) c q z = eval-refines n u w _ _ k h c q (λ u' w' q'. eval-refines (n + news types N e) u' w' other' other k l c q' z)
      eval-refines n u w other' other k tt.t_miss c q z = z u w q
      eval-refines n u w other' other k (tt.t_counted l) c q z = eval-refines n u w other' other k l c q z

      arms-refines : {N : Names} {G : Sorts} {arms : Arms (mono types)} {i t : ℕ} {v' v : W} {env' env : Env} (n g : ℕ) (u w : World W) (other' other : World W → Answer W W) → Knows N G → tt.ArmsTyped types G arms i t → R v' v → Co G env' env → Worlds u w → OtherRefines other' other
          → Ends (eval_arms call' g (expand_arms types N n arms) v' env' u other') (eval_arms call g arms v env w other)
      arms-refines n g u w other' other k tt.t_no_arms r c q z = z u w q
      arms-refines {N = N} n g u w other' other k (tt.t_arm {c = d} {e = e} h l a) r c q z =
          match-refines u w _ _ _ _ (case-same types g h r c) (λ env' env c'. eval-refines n u w other' other (knows-case types k h) l c' q z) (arms-refines (n + news types (case_names types d N) e) g u w other' other k a r c q z)

      op-refines : {N : Names} {G : Sorts} {o : Op (mono types)} {t : ℕ} {env' env : Env} (n : ℕ) (u w : World W) → Knows N G → tt.OpTyped types G o t → Co G env' env → Worlds u w → Ends (eval_op call' (expand_op types N n t o) env' u) (eval_op call o env w)
      op-refines {env' = env'} {env = env} n u w k (tt.t_use {x = x} {t = t} e) c q =
          subst (λ b. Ends (eval_op call' (used_as types b n t x) env' u) (or_fail (look_up {F = K types} x env) w (λ v. gives v w))) (sym (k.are x ∙ ap takes_sort e)) (give-refines u w (found types x e c) q)
      op-refines {env' = env'} {env = env} n u w k (tt.t_use_exception {x = x} {t = t} e (packet_at h)) c q =
          subst (λ b. Ends (eval_op call' (used_as types b n t x) env' u) (or_fail (look_up {F = K types} x env) w (λ v. gives v w))) (sym (k.are x ∙ ap takes_sort e)) (name-gives u w (found types x e c) q)
      op-refines {env' = env'} {env = env} n u w k (tt.t_use_exception {x = x} {t = t} e (to_packets_at {a = a} {e = b} f i)) c q =
          subst (λ b. Ends (eval_op call' (used_as types b n t x) env' u) (or_fail (look_up {F = K types} x env) w (λ v. gives v w))) (sym (k.are x ∙ ap takes_sort e))
          (subst (λ o. Ends (on_name (look_up {F = K types} x env') u (λ v. eval call' (gives_it types (suc n) t (fn (packing types (suc (suc n)) (takes_at o) (gives_at o) n))) (bind n v env') u fail)) (or_fail (look_up {F = K types} x env) w (λ v. gives v w))) (sym f)
          (used-refines call' n b t env' u w (found types x e c) q))
      op-refines n u w k (tt.t_const {l = l} h) c q = constant-refines l u w q
      op-refines {env' = env'} n u w k (tt.t_con_alone {c = d} {u = i} e value_at) c q = subst (λ o. Ends (eval_op call' (alone_as types o n d i) env' u) (gives (con i d) w)) (sym e) (both_give (rel_con i d) q)
      op-refines {env' = env'} n u w k (tt.t_con_alone {c = d} {u = i} e (function_at {a = a} f)) c q = subst (λ o. Ends (eval_op call' (alone_as types o n d i) env' u) (gives (con i d) w)) (sym e) (both_give (rel_constructor n d i a) q)
      op-refines n u w k (tt.t_construct {m = m} {c = d} {x = x} {t = t} e h) c q = value-refines u w _ _ (found types x h c) (λ v' v r. marked-refines m u w _ _ q (λ u' w' q'. both_give (rel_con_of t d r) q'))
      op-refines n u w k (tt.t_ref_alone {a = a} f i) c q = both_give (rel_reference n a _) q
      op-refines n u w k (tt.t_refer {m = m} {a = a} {x = x} e i) c q = value-refines u w _ _ (found types x e c) (λ v' v r. marked-refines m u w _ _ q (λ u' w' q'. reference-refines types sound a u' w' r q'))
      op-refines n u w k (tt.t_content {t = t} {x = x} e i) c q = value-refines u w _ _ (found types x e c) (λ v' v r. read-refines t u w r q)
      op-refines n u w k (tt.t_pack {m = m} {y = y} {x = x} e h i) c q = value-refines u w _ _ (found types x h c) (λ v' v r. pack-refines m u w (found types y e c) r q)
      op-refines n u w k (tt.t_make_record {t = t} r i d) c q = row-refines u w _ _ (row-same types r c) (λ fs' fs l h. both_give (rel_record t i l h) q)
      op-refines n u w k (tt.t_select {u = t} {x = x} {l = l} e i d) c q = value-refines u w _ _ (found types x e c) (λ v' v r. select-refines t l u w r q)
      op-refines {env' = env'} n u w k (tt.t_prim_alone {p = p} {u = g} {t = t} h s f) c q =
          subst (λ o. Ends (gives (closure (alone (performing types (is_single (prim_type p).arguments) n p g (takes_at o) (gives_at o) (parts_at (node_at types (takes_at o))))) env') u) (gives (primitive g p) w)) (sym f)
          (both_give (rel_primitive n h s) q)
      op-refines n u w k (tt.t_prim {m = m} {p = p} {u = g} h a) c q = list-refines (AllRelated R) u w _ _ (atoms-same types a c) q (λ vs' vs r. marked-refines m u w _ _ q (λ u' w' q'. perform-refines types sound g p u' w' r q'))
      op-refines n u w k (tt.t_app {place = place} {f = f} {x = x} e i d) c q = value-refines u w _ _ (found types f e c) (λ f' f r. value-refines u w _ _ (found types x d c) (λ v' v s. calls place f' v' f v u w r s q))
      op-refines n u w k (tt.t_fn h) c q = both_give (rel_closure n k h c) q
      op-refines n u w k (tt.t_block l) c q = eval-refines n u w fail fail k l c q fails
      op-refines {N = N} n u w k (tt.t_handle {e = e} {x = x} {n = t} l i r) c q =
          or_handle-refines R R _ _ (eval-refines n u w fail fail k l c q fails) (λ p' p u' w' h q'. eval-refines (n + news types N e) u' w' fail fail (knows-value x t k) r (covers_value h c) q' fails)
      op-refines n u w k (tt.t_raise {x = x} e i) c q = value-refines u w _ _ (found types x e c) (λ v' v r. raise-refines u w r q)
      op-refines n u w k (tt.t_raise_initial {n = i} e) c q = both_raise (rel_exn _ i) q

    fun-refines : {N : Names} {G : Sorts} {f : Fun (mono types)} {t : ℕ} {a' a : W} {env' env : Env} (n : ℕ) (u w : World W) → Knows N G → FunTyped types G f t → R a' a → Co G env' env → Worlds u w → Ends (run_fun call' (expand_fun types N n f) env' a' u) (run_fun call f env a w)
    fun-refines n u w k (t_last {x = x} {a = a} i h) r c q = eval-refines n u w fail fail (knows-value x a k) h (covers_value r c) q fails
    fun-refines n u w k (t_more {x = x} {a = a} i h) r c q = both_give (rel_closure n (knows-value x a k) h (covers_value r c)) q

    enter-refines : CallsRefine (enter (run_fun call')) (enter (run_fun call))
    enter-refines place f' a' f a u w (rel_con g c) r q = take_turn-refines R R place u w _ _ q (λ u w q. both_give (rel_con_of g c r) q)
    enter-refines place f' a' f a u w (rel_exn g i) r q = take_turn-refines R R place u w _ _ q (λ u w q. both_give (rel_exn_of g i r) q)
    enter-refines place f' a' f a u w (rel_closure n k h c) r q = take_turn-refines R R place u w _ _ q (λ u w q. fun-refines n u w k h r c q)
    enter-refines place f' a' f a u w (rel_group {fs = fs} n i k hs h c) r q = take_turn-refines R R place u w _ _ q (λ u w q. fun-refines i u w (knows-group types fs k) h r (members-cover types n k hs c fs n hs) q)
    enter-refines place f' a' f a u w (rel_constructor n c g t {env' = env'}) r q =
        take_turn-refines R R place u w _ _ q (λ u w q. then-it (suc n) (bind n a' env') (subst (λ o. Ends (or_fail o u (λ v. gives (con_of g c v) u)) (gives (con_of g c a) w)) (sym (look-here n a' env')) (both_give (rel_con_of g c r) q)))
    enter-refines place f' a' f a u w (rel_reference n t e {env' = env'}) r q =
        take_turn-refines R R place u w _ _ q (λ u w q. then-it (suc n) (bind n a' env') (subst (λ o. Ends (or_fail o u (λ v. make_reference (TT types) t v u)) (make_reference (TT types) t a w)) (sym (look-here n a' env')) (reference-refines types sound t u w r q)))
    enter-refines place f' a' f a u w (rel_packets n t e z g i {env' = env'} l d) r q =
        take_turn-refines R R place u w _ _ q (λ u w q. subst (λ o. Ends (on_name o u (λ x. eval call' (gives_it types (suc (suc n)) e (pack None t (suc n) n)) (bind (suc n) x (bind n a' env')) u fail)) (gives (exn_of t i a) w))
        (sym (ap (λ b. if b then Some a' else look_up {F = K types} z env') d ∙ l))
        (then-it (suc (suc n)) (bind (suc n) (exn g i) (bind n a' env')) (subst (λ o. Ends (or_fail o u (λ v. or_fail (look_up {F = K types} (suc n) (bind (suc n) (exn g i) (bind n a' env'))) u (pack_value None t v u))) (gives (exn_of t i a) w))
        (sym (look-under (suc n) n (exn g i) (bind n a' env') (λ y. omega (arith, y)) ∙ look-here n a' env'))
        (subst (λ o. Ends (or_fail o u (pack_value None t a' u)) (gives (exn_of t i a) w)) (sym (look-here (suc n) (exn g i) (bind n a' env'))) (both_give (rel_exn_of t i r) q)))))
    enter-refines place f' a' f a u w (rel_primitive n {p = p} {u = g} {a = t} {r = e} {env' = env'} h s) r q = take_turn-refines R R place u w _ _ q (λ u w q. primitive-performed call' p n g t e env' u w h s r q)
    enter-refines place f' a' f a u w (rel_literal l) r q = both_stop _ q
    enter-refines place f' a' f a u w (rel_record g i j h) r q = both_stop _ q
    enter-refines place f' a' f a u w (rel_con_of g c h) r q = both_stop _ q
    enter-refines place f' a' f a u w (rel_exn_of g i h) r q = both_stop _ q
    enter-refines place f' a' f a u w (rel_address i) r q = both_stop _ q
    enter-refines place f' a' f a u w (rel_cell g h) r q = both_stop _ q

  still-refines : CallsRefine still still
  still-refines place f' a' f a u w (rel_literal l) r q = both_stop _ q
  still-refines place f' a' f a u w (rel_record g i j h) r q = both_stop _ q
  still-refines place f' a' f a u w (rel_con_of g c h) r q = both_stop _ q
  still-refines place f' a' f a u w (rel_exn_of g i h) r q = both_stop _ q
  still-refines place f' a' f a u w (rel_address i) r q = both_stop _ q
  still-refines place f' a' f a u w (rel_cell g h) r q = both_stop _ q
  still-refines place f' a' f a u w _ r q = take_turn-refines R R place u w _ _ q (λ u w q. both_stop out_of_turns q)

  calls-refine : (k : ℕ) → CallsRefine (calls_to k) (calls_to k)
  calls-refine zero = still-refines
  calls-refine (suc k) = enter-refines (calls_to k) (calls_to k) (calls-refine k)

  identifier-same : (p o : W) (u w : World W) (i : ℕ) → R p o → Worlds u w → identifier_of {F = K types} p u ≡ Some i → identifier_of {F = K types} o w ≡ Some i
  identifier-same p o u w i (rel_exn g j) s e = ap (λ l. slice_get l j) s.exceptions ∙ e
  identifier-same p o u w i (rel_exn_of g j h) s e = ap (λ l. slice_get l j) s.exceptions ∙ e
  identifier-same p o u w i _ s e = absurd (cc)

  pub run-refines : {e : E types} {t : ℕ} (n : ℕ) (initial : List ℕ) (m : ℕ) → tt.Typed types false [] e t → ((run {F = K types} initial (expand types [] n e) m).end ≡ wrong → ⊥) → run {F = K types} initial e m ≡ run {F = K types} initial (expand types [] n e) m
  run-refines {e} n initial m h never =
      let x : run_to {F = K types} initial (expand types [] n e) m ≡ run {F = K types} initial (expand types [] n e) m = run-same m initial (expand types [] n e) in
      let y : run_to {F = K types} initial e m ≡ run {F = K types} initial e m = run-same m initial e in
      sym y ∙ outcome_of-refines R R _ _ identifier-same (eval-refines (calls_to m) (calls_to m) (calls-refine m) n _ _ fail fail knows-none h covers_none (record { output = refl; left = refl; taken = refl; store = none; exceptions = refl }) fails) (λ z. never (sym (ap (λ o. o.end) x) ∙ z)) ∙ x

pub expanded-same : ExpandedSame
expanded-same n p w fresh m = sym (run-refines p.types w.table n p.initial m w.typed (well-formed-never-wrong (expanded n p) (expanded-well-formed n p w fresh) m))
