-- A value and its stripped copy come to the same; the copy takes no turns, and changes nothing.
use Rattle.std.proofs.Common.{◌≡◌, ℕ, zero, suc, Bool, true, false, ◌&&◌, [], ◌∷◌, ◌++◌, Option, Some, None, slice_get, if◌then◌else◌, refl, sym, ap, subst, ◌∙◌}
use Rattle.ir_values.specs.of_mlc_names.declared.label.Label.{Label}
use Rattle.mlc_base.specs.declared.place.Place.{Place}
use Rattle.ir_values.specs.of_mlc_runs.Run.{World, out_of_turns, went_wrong, Answer, gives, raises, stops, then_do, or_fail, fail, turn_from}
use Rattle.ir_values.specs.Values.{record_of, exn, exn_of, cell, bind, field_in, address_in}
use Rattle.ir_values.specs.Match.{matches, no_match, mismatch, after_match}
use Rattle.ir_values.specs.Primitives.{marked, content_of}
use Rattle.ir_plain.specs.Kind.{Kind}
use Rattle.ir_plain.specs.Tree.{Exp, ret, let_in, exception_in, name_in, rec_in, switch, first, miss, counted, Arms, no_arms, arm, Op, use_of, const, con_alone, construct, ref_alone, refer, content, pack, make_record, select, prim_alone, prim, app, fn, block, handle, raise, raise_initial, is_value, are_values, is_value_op}
use Rattle.ir_plain.specs.Meaning.{V, Scope, Fits, Apply, Go, look_up, look_row, check, on_name, exception_of, pack_value, select_from, read_reference, eval, eval_arms, eval_op}
use Rattle.ir_plain.specs.Copies.{strip, strip_arms, strip_op}

left-true : (a b : Bool) → (a && b) ≡ true → a ≡ true
left-true true b e = refl
left-true false b e = absurd (cc)

right-true : (a b : Bool) → (a && b) ≡ true → b ≡ true
right-true true b e = e
right-true false b e = absurd (cc)

module _ {F : Kind} where
  -- what a run has come to, and what its copy in the world u has: the same, with u's store; or the run is out of turns
  pub data Copied (u : World (V F)) : Answer (V F) (V F) → Answer (V F) (V F) → Type 0 where
    both_gave : (v : V F) (w : World (V F)) → w.store ≡ u.store → Copied u (gives v w) (gives v u)
    both_raised : (p : V F) (w : World (V F)) → Copied u (raises p w) (raises p u)
    both_wrong : (w : World (V F)) → Copied u (stops went_wrong w) (stops went_wrong u)
    cut_off : (w : World (V F)) (r : Answer (V F) (V F)) → Copied u (stops out_of_turns w) r

  then-copied : (u : World (V F)) {r r' : Answer (V F) (V F)} (go go' : V F → World (V F) → Answer (V F) (V F)) → Copied u r r' → ((v : V F) (w : World (V F)) → w.store ≡ u.store → Copied u (go v w) (go' v u)) → Copied u (then_do r go) (then_do r' go')
  then-copied u go go' (both_gave v w s) h = h v w s
  then-copied u go go' (both_raised p w) h = both_raised p w
  then-copied u go go' (both_wrong w) h = both_wrong w
  then-copied u go go' (cut_off w r) h = cut_off w _

  found-copied : {X : Type 0} (o : Option X) (w u : World (V F)) (go go' : X → Answer (V F) (V F)) → ((x : X) → Copied u (go x) (go' x)) → Copied u (or_fail o w go) (or_fail o u go')
  found-copied None w u go go' h = both_wrong w
  found-copied (Some x) w u go go' h = h x

  fits-copied : (m : Fits F) (w u : World (V F)) (go go' : Scope F → World (V F) → Answer (V F) (V F)) (other other' : World (V F) → Answer (V F) (V F)) → ((env : Scope F) → Copied u (go env w) (go' env u)) → Copied u (other w) (other' u) → Copied u (after_match m w go other) (after_match m u go' other')
  fits-copied (matches env) w u go go' other other' h k = h env
  fits-copied no_match w u go go' other other' h k = k
  fits-copied mismatch w u go go' other other' h k = both_wrong w

  turn-copied : (n : ℕ) (place : Place) (v : V F) (w u : World (V F)) → w.store ≡ u.store → Copied u (turn_from n place w (gives v)) (gives v u)
  turn-copied zero place v w u s = cut_off w _
  turn-copied (suc n) place v w u s = both_gave v (record w { left = n; taken = w.taken ++ place ∷ [] }) s

  marked-copied : (m : Option Place) (v : V F) (w u : World (V F)) → w.store ≡ u.store → Copied u (marked m w (gives v)) (gives v u)
  marked-copied None v w u s = both_gave v w s
  marked-copied (Some place) v w u s = turn-copied w.left place v w u s

  if-copied : (b : Bool) (w u : World (V F)) {r r' : Answer (V F) (V F)} → Copied u r r' → Copied u (if b then r else fail w) (if b then r' else fail u)
  if-copied true w u h = h
  if-copied false w u h = both_wrong w

  given-copied : (o : Option (V F)) (w u : World (V F)) → w.store ≡ u.store → Copied u (or_fail o w (λ v. gives v w)) (or_fail o u (λ v. gives v u))
  given-copied o w u s = found-copied o w u _ _ (λ v. both_gave v w s)

  name-copied : (o : Option (V F)) (w u : World (V F)) (go go' : V F → Answer (V F) (V F)) → ((v : V F) → Copied u (go v) (go' v)) → Copied u (on_name o w go) (on_name o u go')
  name-copied (Some (exn g n)) w u go go' h = h (exn g n)
  name-copied _ w u go go' h = both_wrong w

  pack-copied : (m : Option Place) (g : F.tags.Tag) (v n : V F) (w u : World (V F)) → w.store ≡ u.store → Copied u (pack_value m g v w n) (pack_value None g v u n)
  pack-copied m g v (exn h n) w u s = marked-copied m (exn_of g n v) w u s
  pack-copied m g v _ w u s = both_wrong w

  select-copied : (g : F.tags.Tag) (l : Label) (v : V F) (w u : World (V F)) → w.store ≡ u.store → Copied u (select_from g l v w) (select_from g l v u)
  select-copied g l (record_of h fs) w u s = if-copied (F.tags.same g h) w u (given-copied (field_in l fs) w u s)
  select-copied g l _ w u s = both_wrong w

  content-copied : (g : F.tags.Tag) (v : V F) (w u : World (V F)) → w.store ≡ u.store → Copied u (content_of F.tags g w v) (content_of F.tags g u v)
  content-copied g (cell h v) w u s = if-copied (F.tags.same g h) w u (both_gave v w s)
  content-copied g _ w u s = both_wrong w

  read-copied : (g : F.tags.Tag) (v : V F) (w u : World (V F)) → w.store ≡ u.store → Copied u (read_reference g v w) (read_reference g v u)
  read-copied g v w u s = found-copied (address_in v) w u _ _ (λ a. subst (λ st. Copied u (or_fail (slice_get w.store a) w (content_of F.tags g w)) (or_fail (slice_get st a) u (content_of F.tags g u))) s
      (found-copied (slice_get w.store a) w u (content_of F.tags g w) (content_of F.tags g u) (λ c. content-copied g c w u s)))

  module _ (call : Apply F) where
    mutual
      pub value-copied : (e : Exp F) → is_value e ≡ true → (env : Scope F) (w u : World (V F)) → w.store ≡ u.store → (other other' : Go F) → ((w' : World (V F)) → w'.store ≡ u.store → Copied u (other w') (other' u)) → Copied u (eval call e env w other) (eval call (strip e) env u other')
      value-copied (ret a) h env w u s other other' k = given-copied (look_up a env) w u s
      value-copied (let_in x ps t o e) h env w u s other other' k =
          then-copied u _ _ (op-copied o (left-true (is_value_op o) (is_value e) h) env w u s) (λ v w' s'. value-copied e (right-true (is_value_op o) (is_value e) h) (bind x v env) w' u s' other other' k)
      value-copied (exception_in x i t e) h env w u s other other' k = absurd (cc)
      value-copied (name_in x y e) h env w u s other other' k = name-copied (exception_of y env) w u _ _ (λ v. value-copied e h (bind x v env) w u s other other' k)
      value-copied (rec_in ps fs e) h env w u s other other' k = absurd (cc)
      value-copied (switch a t arms) h env w u s other other' k = found-copied (look_up a env) w u _ _ (λ v. arms-copied (F.tag_of t) arms h v env w u s other other' k)
      value-copied (first e d) h env w u s other other' k =
          value-copied e (left-true (is_value e) (is_value d) h) env w u s _ _ (λ w' s'. value-copied d (right-true (is_value e) (is_value d) h) env w' u s' other other' k)
      value-copied miss h env w u s other other' k = k w s
      value-copied (counted n e) h env w u s other other' k = value-copied e h env w u s other other' k

      arms-copied : (g : F.tags.Tag) (arms : Arms F) → are_values arms ≡ true → (v : V F) (env : Scope F) (w u : World (V F)) → w.store ≡ u.store → (other other' : Go F) → ((w' : World (V F)) → w'.store ≡ u.store → Copied u (other w') (other' u))
          → Copied u (eval_arms call g arms v env w other) (eval_arms call g (strip_arms arms) v env u other')
      arms-copied g no_arms h v env w u s other other' k = k w s
      arms-copied g (arm c e arms) h v env w u s other other' k =
          fits-copied (check g c v env) w u _ _ _ _ (λ env'. value-copied e (left-true (is_value e) (are_values arms) h) env' w u s other other' k) (arms-copied g arms (right-true (is_value e) (are_values arms) h) v env w u s other other' k)

      pub op-copied : (o : Op F) → is_value_op o ≡ true → (env : Scope F) (w u : World (V F)) → w.store ≡ u.store → Copied u (eval_op call o env w) (eval_op call (strip_op o) env u)
      op-copied (use_of x) h env w u s = given-copied (look_up x env) w u s
      op-copied (const l) h env w u s = both_gave _ w s
      op-copied (con_alone c t) h env w u s = both_gave _ w s
      op-copied (construct m c t a) h env w u s = found-copied (look_up a env) w u _ _ (λ v. marked-copied m _ w u s)
      op-copied (ref_alone t) h env w u s = both_gave _ w s
      op-copied (refer m t a) h env w u s = absurd (cc)
      op-copied (content t a) h env w u s = found-copied (look_up a env) w u _ _ (λ v. read-copied (F.tag_of t) v w u s)
      op-copied (pack m t x a) h env w u s = found-copied (look_up a env) w u _ _ (λ v. found-copied (look_up x env) w u _ _ (λ n. pack-copied m (F.tag_of t) v n w u s))
      op-copied (make_record t row) h env w u s = found-copied (look_row row env) w u _ _ (λ fs. both_gave _ w s)
      op-copied (select t l a) h env w u s = found-copied (look_up a env) w u _ _ (λ v. select-copied (F.tag_of t) l v w u s)
      op-copied (prim_alone p t) h env w u s = both_gave _ w s
      op-copied (prim m p t as_) h env w u s = absurd (cc)
      op-copied (app place f a) h env w u s = absurd (cc)
      op-copied (fn f) h env w u s = both_gave _ w s
      op-copied (block e) h env w u s = value-copied e h env w u s fail fail (λ w' s'. both_wrong w')
      op-copied (handle e x d) h env w u s = absurd (cc)
      op-copied (raise a) h env w u s = absurd (cc)
      op-copied (raise_initial i) h env w u s = both_raised _ w

  gave-copied : (u : World (V F)) {r r' : Answer (V F) (V F)} (v : V F) (w : World (V F)) → Copied u r r' → r ≡ gives v w → (r' ≡ gives v u) × (w.store ≡ u.store)
  gave-copied u v w (both_gave x z s) e = let same : x ≡ v = cc in let world : z ≡ w = cc in (ap (λ y. gives y u) same, ap (λ y. y.store) (sym world) ∙ s)
  gave-copied u v w (both_raised p z) e = absurd (cc)
  gave-copied u v w (both_wrong z) e = absurd (cc)
  gave-copied u v w (cut_off z r) e = absurd (cc)

  -- where a value gives v, its stripped copy gives v in every world with the same store
  pub copies-give : (call : Apply F) (e : Exp F) → is_value e ≡ true → (env : Scope F) (w w' u : World (V F)) (v : V F) → w.store ≡ u.store → eval call e env w fail ≡ gives v w' → eval call (strip e) env u fail ≡ gives v u
  copies-give call e h env w w' u v s g = (gave-copied u v w' (value-copied call e h env w u s fail fail (λ z q. both_wrong z)) g).0

  -- an operation again, in the world in which it ended
  pub operations-again : (call : Apply F) (o : Op F) → is_value_op o ≡ true → (env : Scope F) (w w' : World (V F)) (v : V F) → eval_op call o env w ≡ gives v w' → eval_op call (strip_op o) env w' ≡ gives v w'
  operations-again call o h env w w' v g =
      (gave-copied w' v w' (op-copied call o h env w w' (sym (gave-copied w v w' (op-copied call o h env w w refl) g).1)) g).0
