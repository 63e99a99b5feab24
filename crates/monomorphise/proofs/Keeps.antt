-- The program does what its copies do, unless they go wrong.
use Rattle.std.proofs.Common.{◌≡◌, ℕ, zero, suc, List, [], Bool, true, false, if◌then◌else◌, Option, Some, None, slice_get, option_and_then, refl, sym, ap, subst, ◌∙◌}
use Rattle.mlc_names.specs.declared.label.Label.{Label}
use Rattle.mlc_base.specs.declared.place.Place.{Place}
use Rattle.mlc_runs.specs.Outcome.{wrong}
use Rattle.mlc_runs.specs.Run.{World, Answer, gives, out_of_turns, start, then_do, or_fail, fail}
use Rattle.mlc_runs.specs.Agreement.{AllRelated, none, BothOrNeither, neither, both, SameWorlds}
use Rattle.mlc_runs.specs.Refinement.{Refines, both_give, both_raise, both_stop, first_wrong}
use Rattle.mlc_runs.proofs.RefineLaws.{or_handle-refines, take_turn-refines, dereference-refines, new_exception-refines, outcome_of-refines}
use Rattle.ty_core.specs.Types.{Typ}
use Rattle.ty_core.specs.declared.scheme.Quantified.{Quantified}
use Rattle.ir_mono.specs.of_ir_values.Tags.{untagged}
use Rattle.ir_mono.specs.of_ir_values.Values.{exn, packet_name, value_of}
use Rattle.ir_mono.specs.of_ir_values.Match.{after_match}
use Rattle.ir_mono.specs.of_ir_values.Primitives.{marked, content_of, raise_value}
use Rattle.mlc_prims.specs.LitOf.{Literal, int, word, char, string, truth}
use Rattle.ir_mono.specs.of_ir_plain.Tree.{Exp, Arms, Op, Fun, Funs, Exception}
use Rattle.ir_mono.specs.of_ir_plain.Meaning.{V, Scope, Fits, Apply, argument_tag, look_up, on_name, exception_of, pack_value, select_from, read_reference, members, eval, eval_arms, eval_op, run_fun, enter, apply, identifier_of, run}
use Rattle.ir_mono.proofs.of_ir_plain.CopiesLemmas.{operations-again}
use Rattle.ir_mono.specs.of_ir_poly.Tests.{inst, poly}
use Rattle.monomorphise.specs.Copies.{Target, Copied, no_copies, entry, entries, IsNewCopy, newer_copy, CopyName, copy_fixed, copy_held, CopyArgument, copy_no_argument, copy_argument, CopyFun, copy_last, copy_more, Copy, copy_ret, copy_let, copy_exception, copy_name, copy_rec, copy_switch, copy_first, copy_miss, copy_counted, CopyArms, copy_no_arms, copy_arm, CopyOp, copy_use, copy_own, copy_const, copy_con_alone, copy_construct, copy_ref_alone, copy_refer, copy_content, copy_pack, copy_make_record, copy_select, copy_prim_alone, copy_prim, copy_app, copy_fn, copy_block, copy_handle, copy_raise, copy_raise_initial, Rest, no_more_copies, one_more_copy, RestGroups, no_more_groups, one_more_group}
use Rattle.monomorphise.proofs.Related.{K, G, onto, binds_of, members-onto, Rel, rel_literal, rel_record, rel_con, rel_con_of, rel_exn, rel_exn_of, rel_ref, rel_address, rel_cell, rel_primitive, rel_closure, rel_group, RelFields, Covers, covers_none, covered, push-copy, found-first, Holds, holds-onto, new-copies, binds-cover, copy-cover, bind-cover, onto-copies, new-copy-base, member-binds, copies-reclosed, packet-name-same, field-same, SameMatched, both_match, both_fail, no_fit, atoms-same, row-same, case-same}
use Rattle.monomorphise.proofs.Refined.{perform-refines, reference-refines, arguments-related}

module _ (T : Target) (reflexive : (k : T.Name) → T.same k k ≡ true) where
  abbrev V' : Type 0
  V' = V (K T)

  abbrev R : V' → V poly → Type 0
  R = Rel T

  abbrev Ends : Answer V' V' → Answer (V poly) (V poly) → Type 0
  Ends = Refines R R

  abbrev Worlds : World V' → World (V poly) → Type 0
  Worlds = SameWorlds R

  abbrev Co : Copied T.Name → Scope (K T) → Scope poly → Type 0
  Co = Covers T

  then-known : {A B C D : Type 0} (S : A → B → Type 0) (U : C → D → Type 0) {r' : Answer V' C} {r : Answer (V poly) D} (go' : C → World V' → Answer V' A) (go : D → World (V poly) → Answer (V poly) B) → Refines R U r' r
      → ((c : C) (d : D) (u : World V') (w : World (V poly)) → r ≡ gives d w → U c d → Worlds u w → Refines R S (go' c u) (go d w)) → Refines R S (then_do r' go') (then_do r go)
  then-known S U go' go (both_give t s) h = h _ _ _ _ refl t s
  then-known S U go' go (both_raise r s) h = both_raise r s
  then-known S U go' go (both_stop cut s) h = both_stop cut s
  then-known S U go' go (first_wrong r) h = first_wrong _

  -- where what is copied gives a value, the copy gives one that is related
  given-then : {A B C D : Type 0} (S : A → B → Type 0) (U : C → D → Type 0) {r' : Answer V' C} {r : Answer (V poly) D} {d : D} {w : World (V poly)} {src : Answer (V poly) B} (go' : C → World V' → Answer V' A) → Refines R U r' r → r ≡ gives d w
      → ((c : C) (u : World V') → U c d → Worlds u w → Refines R S (go' c u) src) → Refines R S (then_do r' go') src
  given-then S U {d = d} {w = w} go' (both_give {a = c} {b = d'} {w = u} {u = w'} t s) e h = h c u (let one : d' ≡ d = cc in subst (U c) one t) (let two : w' ≡ w = cc in subst (Worlds u) two s)
  given-then S U go' (both_raise r s) e h = absurd (cc)
  given-then S U go' (both_stop cut s) e h = absurd (cc)
  given-then S U go' (first_wrong r) e h = first_wrong _

  if-refines : (b : Bool) (u : World V') {r' : Answer V' V'} {r : Answer (V poly) (V poly)} → Ends r' r → Ends (if b then r' else fail u) r
  if-refines true u h = h
  if-refines false u h = first_wrong _

  marked-refines : (m : Option Place) (u : World V') (w : World (V poly)) (go' : World V' → Answer V' V') (go : World (V poly) → Answer (V poly) (V poly)) → Worlds u w → ((u' : World V') (w' : World (V poly)) → Worlds u' w' → Ends (go' u') (go w')) → Ends (marked m u go') (marked m w go)
  marked-refines None u w go' go s h = h u w s
  marked-refines (Some place) u w go' go s h = take_turn-refines R R place u w go' go s h

  atom-refines : {C D : Type 0} (U : C → D → Type 0) {o' : Option C} {o : Option D} (u : World V') (w : World (V poly)) (go' : C → Answer V' V') (go : D → Answer (V poly) (V poly)) → BothOrNeither U o' o → Worlds u w → ((v' : C) (v : D) → U v' v → Ends (go' v') (go v))
      → Ends (or_fail o' u go') (or_fail o w go)
  atom-refines U u w go' go neither s h = both_stop _ s
  atom-refines U u w go' go (both r) s h = h _ _ r

  named-refines : {o' : Option V'} {o : Option (V poly)} (u : World V') (w : World (V poly)) (go' : V' → Answer V' V') (go : V poly → Answer (V poly) (V poly)) → BothOrNeither R o' o → Worlds u w → ((v' : V') (v : V poly) → R v' v → Ends (go' v') (go v)) → Ends (on_name o' u go') (on_name o w go)
  named-refines u w go' go (both (rel_exn z i)) s h = h _ _ (rel_exn z i)
  named-refines u w go' go _ s h = both_stop _ s

  name-same : {r : Copied T.Name} {y : Exception poly} {j : Exception (K T)} {env' : Scope (K T)} {env : Scope poly} → CopyName T r y j → Co r env' env → BothOrNeither R (exception_of j env') (exception_of y env)
  name-same (copy_fixed n) c = both (rel_exn T.tags.of_unit n)
  name-same (copy_held h) c = covered T [] h c

  give-refines : {o' : Option V'} {o : Option (V poly)} (u : World V') (w : World (V poly)) → BothOrNeither R o' o → Worlds u w → Ends (or_fail o' u (λ v. gives v u)) (or_fail o w (λ v. gives v w))
  give-refines u w b s = atom-refines R u w _ _ b s (λ v' v h. both_give h s)

  constant-refines : (l : Literal) (u : World V') (w : World (V poly)) → Worlds u w → Ends (gives (value_of T.tags l) u) (gives (value_of untagged l) w)
  constant-refines (int z) u w s = both_give (rel_literal (int z)) s
  constant-refines (word z) u w s = both_give (rel_literal (word z)) s
  constant-refines (char z) u w s = both_give (rel_literal (char z)) s
  constant-refines (string z) u w s = both_give (rel_literal (string z)) s
  constant-refines (truth b) u w s = both_give (rel_con T.tags.of_bool _) s

  pack-refines : (m : Option Place) (g : G T) {v' : V'} {v : V poly} {x' : V'} {x : V poly} (u : World V') (w : World (V poly)) → R v' v → R x' x → Worlds u w → Ends (pack_value m g v' u x') (pack_value m tt v w x)
  pack-refines m g u w h (rel_exn z i) s = marked-refines m u w _ _ s (λ u' w' s'. both_give (rel_exn_of g i h) s')
  pack-refines m g u w h _ s = both_stop _ s

  select-refines : (g : G T) (l : Label) {v' : V'} {v : V poly} (u : World V') (w : World (V poly)) → R v' v → Worlds u w → Ends (select_from g l v' u) (select_from tt l v w)
  select-refines g l u w (rel_record z q) s = if-refines (T.tags.same g z) u (give-refines u w (field-same T l q) s)
  select-refines g l u w _ s = both_stop _ s

  content-refines : (g : G T) {v' : V'} {v : V poly} (u : World V') (w : World (V poly)) → R v' v → Worlds u w → Ends (content_of T.tags g u v') (content_of untagged tt w v)
  content-refines g u w (rel_cell z h) s = if-refines (T.tags.same g z) u (both_give h s)
  content-refines g u w _ s = both_stop _ s

  read-refines : (g : G T) {v' : V'} {v : V poly} (u : World V') (w : World (V poly)) → R v' v → Worlds u w → Ends (read_reference g v' u) (read_reference tt v w)
  read-refines g u w (rel_address i) s = dereference-refines R R i u w _ _ s (λ v' v h. content-refines g u w h s)
  read-refines g u w _ s = both_stop _ s

  raise-refines : {v' : V'} {v : V poly} (u : World V') (w : World (V poly)) → R v' v → Worlds u w → Ends (raise_value v' u) (raise_value v w)
  raise-refines u w (rel_exn g i) s = both_raise (rel_exn g i) s
  raise-refines u w (rel_exn_of g i h) s = both_raise (rel_exn_of g i h) s
  raise-refines u w _ s = both_stop _ s

  match-refines : {r : Copied T.Name} {m' : Fits (K T)} {m : Fits poly} (u : World V') (w : World (V poly)) (go' : Scope (K T) → World V' → Answer V' V') (go : Scope poly → World (V poly) → Answer (V poly) (V poly)) (other' : World V' → Answer V' V') (other : World (V poly) → Answer (V poly) (V poly))
      → SameMatched T r m' m → ((env' : Scope (K T)) (env : Scope poly) → Co r env' env → Ends (go' env' u) (go env w)) → Ends (other' u) (other w) → Ends (after_match m' u go' other') (after_match m w go other)
  match-refines u w go' go other' other (both_match c) k l = k _ _ c
  match-refines u w go' go other' other both_fail k l = l
  match-refines u w go' go other' other (no_fit m) k l = first_wrong _

  newer-base : {x : ℕ} {b : List Typ} {j k : T.Name} {r : Copied T.Name} → IsNewCopy T k (entry x b j r) → IsNewCopy T k r
  newer-base (newer_copy n h) = h

  argument-related : (i : ℕ) {s : ℕ → Typ} {t : Option Typ} {n : Option T.Type_of} → CopyArgument T s t n → R (exn (argument_tag (K T) n) i) (exn (argument_tag poly t) i)
  argument-related i copy_no_argument = rel_exn _ i
  argument-related i (copy_argument t n h) = rel_exn _ i

  abbrev CallsRefine : Apply (K T) → Apply poly → Type 0
  CallsRefine call' call = (place : Place) (f' a' : V') (f a : V poly) (u : World V') (w : World (V poly)) → R f' f → R a' a → Worlds u w → Ends (call' place f' a' u) (call place f a w)

  -- what is done where both miss
  abbrev OtherRefines : (World V' → Answer V' V') → (World (V poly) → Answer (V poly) (V poly)) → Type 0
  OtherRefines other' other = (u : World V') (w : World (V poly)) → Worlds u w → Ends (other' u) (other w)

  fails : OtherRefines fail fail
  fails u w s = both_stop _ s

  module _ (call' : Apply (K T)) (call : Apply poly) (calls : CallsRefine call' call) where
    mutual
      pub eval-refines : {r : Copied T.Name} {s : ℕ → Typ} {e : Exp poly} {e' : Exp (K T)} {env' : Scope (K T)} {env : Scope poly} (u : World V') (w : World (V poly)) (other' : World V' → Answer V' V') (other : World (V poly) → Answer (V poly) (V poly)) → Copy T r s e e' → Co r env' env → Worlds u w
          → OtherRefines other' other → Ends (eval call' e' env' u other') (eval call e env w other)
      eval-refines u w other' other (copy_ret x) c q z = give-refines u w (covered T [] x c) q
      eval-refines {env' = env'} {env = env} u w other' other (copy_let {x = x} {o = o} a f i k n m rest) c q z =
          then-known R R _ _ (op-refines u w k c q) (λ v' v u' w' e h q'.
          rest-refines w w' u' other' other rest e (λ j l. newer-base l) (push-copy T m c) (found-first T x v env) (bind-cover T reflexive a n m h c) q' z)
      eval-refines u w other' other (copy_exception x i k t n m rest) c q z =
          new_exception-refines R R i u w _ _ q (λ j u' w' q'. eval-refines u' w' other' other rest (bind-cover T reflexive [] n m (argument-related j t) c) q' z)
      eval-refines u w other' other (copy_name x k y n m rest) c q z =
          named-refines u w _ _ (name-same y c) q (λ v' v h. eval-refines u w other' other rest (bind-cover T reflexive [] n m h c) q z)
      eval-refines u w other' other (copy_switch t n x i arms) c q z = atom-refines R u w _ _ (covered T [] x c) q (λ v' v h. arms-refines _ u w other' other arms h c q z)
      eval-refines u w other' other (copy_first x y) c q z = eval-refines u w _ _ x c q (λ u' w' q'. eval-refines u' w' other' other y c q' z)
      eval-refines u w other' other copy_miss c q z = z u w q
      eval-refines u w other' other (copy_counted n x) c q z = eval-refines u w other' other x c q z
      eval-refines {env' = env'} {env = env} u w other' other (copy_rec {fs = fs} {e = e} {fs' = fs'} {e' = e'} {qs = qs} a f k n m rest) c q z =
          let b = member-binds T k n m c refl k in
          subst (λ y. Ends (eval call' e' (members fs' env') u other') (eval call e y w other)) (sym (members-onto fs fs env))
          (subst (λ y. Ends (eval call' e' y u other') (eval call e (onto (binds_of fs fs env) env) w other)) (sym (members-onto fs' fs' env'))
          (groups-refine u w other' other rest (λ j l. new-copy-base T a qs l) (onto-copies T a (λ j l. l) b m c) (holds-onto T env b n) (binds-cover T reflexive a b n m c) q z))

      arms-refines : {r : Copied T.Name} {s : ℕ → Typ} {ty : T.Type_of} {arms : Arms poly} {arms' : Arms (K T)} {v' : V'} {v : V poly} {env' : Scope (K T)} {env : Scope poly} (g : G T) (u : World V') (w : World (V poly)) (other' : World V' → Answer V' V') (other : World (V poly) → Answer (V poly) (V poly))
          → CopyArms T r s ty arms arms' → R v' v → Co r env' env → Worlds u w → OtherRefines other' other → Ends (eval_arms call' g arms' v' env' u other') (eval_arms call tt arms v env w other)
      arms-refines g u w other' other copy_no_arms h c q z = z u w q
      arms-refines g u w other' other (copy_arm k x rest) h c q z = match-refines u w _ _ _ _ (case-same T reflexive g k h c) (λ env' env c'. eval-refines u w other' other x c' q z) (arms-refines g u w other' other rest h c q z)

      op-refines : {r : Copied T.Name} {s : ℕ → Typ} {o : Op poly} {o' : Op (K T)} {env' : Scope (K T)} {env : Scope poly} (u : World V') (w : World (V poly)) → CopyOp T r s o o' → Co r env' env → Worlds u w → Ends (eval_op call' o' env' u) (eval_op call o env w)
      op-refines u w (copy_use {ts = ts} e x) c q = give-refines u w (covered T ts x c) q
      op-refines u w (copy_own a x) c q = give-refines u w (covered T [] x c) q
      op-refines u w (copy_const d) c q = constant-refines d u w q
      op-refines u w (copy_con_alone d t n i h) c q = both_give (rel_con _ d) q
      op-refines u w (copy_construct m d t n i p x) c q = atom-refines R u w _ _ (covered T [] x c) q (λ v' v h. marked-refines m u w _ _ q (λ u' w' q'. both_give (rel_con_of _ d h) q'))
      op-refines u w (copy_ref_alone t n i) c q = both_give (rel_ref _) q
      op-refines u w (copy_refer m t n i x) c q = atom-refines R u w _ _ (covered T [] x c) q (λ v' v h. marked-refines m u w _ _ q (λ u' w' q'. reference-refines T _ u' w' h q'))
      op-refines u w (copy_content t n i x) c q = atom-refines R u w _ _ (covered T [] x c) q (λ v' v h. read-refines _ u w h q)
      op-refines u w (copy_pack m t n i y x) c q = atom-refines R u w _ _ (covered T [] x c) q (λ v' v h. atom-refines R u w _ _ (covered T [] y c) q (λ x' x k. pack-refines m _ u w h k q))
      op-refines u w (copy_make_record t n i row) c q = atom-refines (RelFields T) u w _ _ (row-same T row c) q (λ v' v h. both_give (rel_record _ h) q)
      op-refines u w (copy_select t n l i x) c q = atom-refines R u w _ _ (covered T [] x c) q (λ v' v h. select-refines _ l u w h q)
      op-refines u w (copy_prim_alone p t n i) c q = both_give (rel_primitive _ p) q
      op-refines u w (copy_prim m p t n i as_) c q = atom-refines (AllRelated R) u w _ _ (atoms-same T as_ c) q (λ v' v h. marked-refines m u w _ _ q (λ u' w' q'. perform-refines T _ p u' w' h q'))
      op-refines u w (copy_app place f x) c q = atom-refines R u w _ _ (covered T [] f c) q (λ g' g k. atom-refines R u w _ _ (covered T [] x c) q (λ v' v h. calls place g' v' g v u w k h q))
      op-refines u w (copy_fn f) c q = both_give (rel_closure f c) q
      op-refines u w (copy_block x) c q = eval-refines u w fail fail x c q fails
      op-refines u w (copy_handle x k y n m d) c q = or_handle-refines R R _ _ (eval-refines u w fail fail y c q fails) (λ p' p u' w' h q'. eval-refines u' w' fail fail d (bind-cover T reflexive [] n m h c) q' fails)
      op-refines u w (copy_raise x) c q = atom-refines R u w _ _ (covered T [] x c) q (λ v' v h. raise-refines u w h q)
      op-refines u w (copy_raise_initial i) c q = both_raise (rel_exn _ i) q

      -- the further copies of a value's binding, and what follows
      rest-refines : {r r' : Copied T.Name} {s : ℕ → Typ} {x : ℕ} {ps : List Quantified} {t : Typ} {o : Op poly} {e : Exp poly} {e' : Exp (K T)} {v : V poly} {env outer : Scope poly} {env' : Scope (K T)} (w w' : World (V poly)) (u : World V') (other' : World V' → Answer V' V')
          (other : World (V poly) → Answer (V poly) (V poly)) → Rest T r s x ps t o e r' e' → eval_op call o env w ≡ gives v w' → ((k : T.Name) → IsNewCopy T k r' → IsNewCopy T k r) → Co r env' env → ((ts : List Typ) → look_up (inst x ts) outer ≡ Some v) → Co r' env' outer → Worlds u w' → OtherRefines other' other
          → Ends (eval call' e' env' u other') (eval call e outer w' other)
      rest-refines w w' u other' other (no_more_copies rest) d base c l c' q z = eval-refines u w' other' other rest c' q z
      rest-refines {env = env} w w' u other' other (one_more_copy {o = o} {k = k} a f i ty x n rest) d base c l c' q z =
          given-then R R _ (op-refines u w' x c q) (operations-again call o i env w w' _ d) (λ v' u' h q'.
          rest-refines w w' u' other' other rest d (λ j y. base j (newer-base y)) (push-copy T (base k n) c) l (copy-cover T reflexive a l n h c') q' z)

      -- the further copies of a group, and what follows
      groups-refine : {r r' : Copied T.Name} {s : ℕ → Typ} {ps : List Quantified} {fs : Funs poly} {e : Exp poly} {e' : Exp (K T)} {env outer : Scope poly} {env' : Scope (K T)} (u : World V') (w : World (V poly)) (other' : World V' → Answer V' V') (other : World (V poly) → Answer (V poly) (V poly))
          → RestGroups T r s ps fs e r' e' → ((k : T.Name) → IsNewCopy T k r' → IsNewCopy T k r) → Co r env' env → Holds T outer (binds_of fs fs env) → Co r' env' outer → Worlds u w → OtherRefines other' other → Ends (eval call' e' env' u other') (eval call e outer w other)
      groups-refine u w other' other (no_more_groups rest) base c l c' q z = eval-refines u w other' other rest c' q z
      groups-refine {outer = outer} {env' = env'} u w other' other (one_more_group {e = e} {fs' = fs'} {e' = e'} {qs = qs} a f x n m rest) base c l c' q z =
          let b = member-binds T x n (copies-reclosed T a a base m) c refl x in
          subst (λ y. Ends (eval call' e' y u other') (eval call e outer w other)) (sym (members-onto fs' fs' env'))
          (groups-refine u w other' other rest (λ j y. base j (new-copy-base T a qs y)) (onto-copies T a base b m c) l (new-copies T reflexive a b l m c') q z)

  abbrev Bodies' : Type 0
  Bodies' = Fun (K T) → Scope (K T) → V' → World V' → Answer V' V'

  abbrev Bodies : Type 0
  Bodies = Fun poly → Scope poly → V poly → World (V poly) → Answer (V poly) (V poly)

  abbrev BodiesRefine : Bodies' → Bodies → Type 0
  BodiesRefine go' go = (r : Copied T.Name) (s : ℕ → Typ) (f : Fun poly) (f' : Fun (K T)) (a' : V') (a : V poly) (env' : Scope (K T)) (env : Scope poly) (u : World V') (w : World (V poly)) → CopyFun T r s f f' → R a' a → Co r env' env → Worlds u w → Ends (go' f' env' a' u) (go f env a w)

  enter-refines : (go' : Bodies') (go : Bodies) → BodiesRefine go' go → CallsRefine (enter go') (enter go)
  enter-refines go' go h place f' a' f a u w (rel_con g c) ra q = take_turn-refines R R place u w _ _ q (λ u w q. both_give (rel_con_of g c ra) q)
  enter-refines go' go h place f' a' f a u w (rel_exn g i) ra q = take_turn-refines R R place u w _ _ q (λ u w q. both_give (rel_exn_of g i ra) q)
  enter-refines go' go h place f' a' f a u w (rel_ref g) ra q = take_turn-refines R R place u w _ _ q (λ u w q. reference-refines T g u w ra q)
  enter-refines go' go h place f' a' f a u w (rel_primitive g p) ra q = take_turn-refines R R place u w _ _ q (λ u w q. perform-refines T g p u w (arguments-related T ra) q)
  enter-refines go' go h place f' a' f a u w (rel_closure k c) ra q = take_turn-refines R R place u w _ _ q (λ u w q. h _ _ _ _ a' a _ _ u w k ra c q)
  enter-refines go' go h place f' a' f a u w (rel_group {r = r} {a = b} {f = g} {f' = g'} {fs = fs} {fs' = fs'} {qs = qs} {env' = env'} {env = env} x n m k c) ra q =
      take_turn-refines R R place u w _ _ q (λ u w q. h _ _ g g' a' a (members fs' env') (members fs env) u w k ra
      (subst (λ z. Co (entries b qs r) (members fs' env') z) (sym (members-onto fs fs env)) (subst (λ z. Co (entries b qs r) z (onto (binds_of fs fs env) env)) (sym (members-onto fs' fs' env')) (binds-cover T reflexive b (member-binds T x n m c refl x) n m c))) q)
  enter-refines go' go h place f' a' f a u w _ ra q = both_stop _ q

  run_fun-refines : (call' : Apply (K T)) (call : Apply poly) → CallsRefine call' call → BodiesRefine (run_fun call') (run_fun call)
  run_fun-refines call' call calls r s f f' a' a env' env u w (copy_last x t k i y n m e) ra c q = eval-refines call' call calls u w fail fail e (bind-cover T reflexive [] n m ra c) q fails
  run_fun-refines call' call calls r s f f' a' a env' env u w (copy_more x t k i y n m g) ra c q = both_give (rel_closure g (bind-cover T reflexive [] n m ra c)) q

  apply-refines : (k : ℕ) → CallsRefine (apply k) (apply k)
  apply-refines zero = enter-refines _ _ (λ r s f f' a' a env' env u w k ra c q. both_stop out_of_turns q)
  apply-refines (suc k) = enter-refines _ _ (run_fun-refines (apply k) (apply k) (apply-refines k))

  identifier-same : (p : V') (o : V poly) (u : World V') (w : World (V poly)) (i : ℕ) → R p o → Worlds u w → identifier_of p u ≡ Some i → identifier_of o w ≡ Some i
  identifier-same p o u w i h s e = ap (λ n. option_and_then (slice_get w.exceptions) n) (sym (packet-name-same T h)) ∙ ap (λ l. option_and_then (slice_get l) (packet_name p)) s.exceptions ∙ e

  first-same : (m : ℕ) (initial : List ℕ) → Worlds (record (start m) { exceptions = initial }) (record (start m) { exceptions = initial })
  first-same m initial = record { output = refl; left = refl; taken = refl; store = none; exceptions = refl }

  pub run-refines : {e : Exp poly} {e' : Exp (K T)} {s : ℕ → Typ} (initial : List ℕ) (m : ℕ) → Copy T no_copies s e e' → ((run initial e' m).end ≡ wrong → ⊥) → run initial e m ≡ run initial e' m
  run-refines initial m c never = outcome_of-refines R R _ _ identifier-same (eval-refines (apply m) (apply m) (apply-refines m) _ _ fail fail c covers_none (first-same m initial) fails) never
