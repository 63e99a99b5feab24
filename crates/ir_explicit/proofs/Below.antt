-- What is done with calls of closures alone is done with all calls, unless it goes wrong.
use Rattle.std.proofs.Common.{◌≡◌, ℕ, zero, suc, List, Option, Some, None, refl}
use Rattle.mlc_runs.specs.Outcome.{wrong}
use Rattle.mlc_runs.specs.Run.{World, Answer, gives, raises, stops, went_wrong, then_do, or_handle, or_fail, fail, turn_from, start, outcome_of}
use Rattle.mlc_base.specs.declared.place.Place.{Place}
use Rattle.ir_values.specs.Values.{literal, record_of, con, con_of, exn, exn_of, ref, address, cell, primitive, closure, bind, empty}
use Rattle.ir_values.specs.Match.{Matched, matches, no_match, mismatch, after_match}
use Rattle.ir_plain.specs.Kind.{Kind}
use Rattle.ir_plain.specs.Tree.{Exp, ret, let_in, exception_in, name_in, rec_in, switch, first, miss, counted, Arms, no_arms, arm, Op, use_of, const, con_alone, construct, ref_alone, refer, content, pack, make_record, select, prim_alone, prim, app, fn, block, handle, raise, raise_initial, Fun, last, more}
use Rattle.ir_plain.specs.Meaning.{V, Scope, Apply, Code, alone, one_of, look_up, exception_of, members, on_name, check, eval, eval_arms, eval_op, run_fun, body, enter, apply, identifier_of}
use Rattle.ir_explicit.specs.Explicit.{enter_closure, apply_closures}

-- equal, unless the first went wrong
data Below {W A : Type 0} : Answer W A → Answer W A → Type 0 where
  same : (r : Answer W A) → Below r r
  first_wrong : {w : World W} (r : Answer W A) → Below (stops went_wrong w) r

then-below : {W A B : Type 0} {r r' : Answer W A} {k k' : A → World W → Answer W B} → Below r r' → ((a : A) (w : World W) → Below (k a w) (k' a w)) → Below (then_do r k) (then_do r' k')
then-below (same (gives a w)) h = h a w
then-below (same (raises p w)) h = same _
then-below (same (stops c w)) h = same _
then-below (first_wrong r) h = first_wrong _

handle-below : {W A : Type 0} {r r' : Answer W A} {k k' : W → World W → Answer W A} → Below r r' → ((a : W) (w : World W) → Below (k a w) (k' a w)) → Below (or_handle r k) (or_handle r' k')
handle-below (same (gives a w)) h = same _
handle-below (same (raises p w)) h = h p w
handle-below (same (stops c w)) h = same _
handle-below (first_wrong r) h = first_wrong _

found-below : {W A B : Type 0} (o : Option B) (w : World W) {k k' : B → Answer W A} → ((b : B) → Below (k b) (k' b)) → Below (or_fail o w k) (or_fail o w k')
found-below None w h = same _
found-below (Some b) w h = h b

turn-below : {W A : Type 0} (n : ℕ) (place : Place) (w : World W) {k k' : World W → Answer W A} → ((w : World W) → Below (k w) (k' w)) → Below (turn_from n place w k) (turn_from n place w k')
turn-below zero place w h = same _
turn-below (suc n) place w h = h _

abbrev Go : Kind → Type 0
Go F = Fun F → Scope F → V F → World (V F) → Answer (V F) (V F)

module _ {F : Kind} where
  name-below : (o : Option (V F)) (w : World (V F)) {k k' : V F → Answer (V F) (V F)} → ((v : V F) → Below (k v) (k' v)) → Below (on_name o w k) (on_name o w k')
  name-below None w h = same _
  name-below (Some (exn g n)) w h = h _
  name-below (Some (literal l)) w h = same _
  name-below (Some (record_of g fs)) w h = same _
  name-below (Some (con g c)) w h = same _
  name-below (Some (con_of g c v)) w h = same _
  name-below (Some (exn_of g n v)) w h = same _
  name-below (Some (ref g)) w h = same _
  name-below (Some (address a)) w h = same _
  name-below (Some (cell g v)) w h = same _
  name-below (Some (primitive g p)) w h = same _
  name-below (Some (closure c env)) w h = same _

  match-below : (m : Matched F.Binder (Code F) F.tags.Tag) (w : World (V F)) {k k' : Scope F → World (V F) → Answer (V F) (V F)} {o o' : World (V F) → Answer (V F) (V F)} → ((env : Scope F) (w : World (V F)) → Below (k env w) (k' env w)) → ((w : World (V F)) → Below (o w) (o' w)) → Below (after_match m w k o) (after_match m w k' o')
  match-below (matches env) w h i = h env w
  match-below no_match w h i = i w
  match-below mismatch w h i = same _

  abbrev CallsBelow : Apply F → Apply F → Type 0
  CallsBelow call call' = (place : Place) (f v : V F) (w : World (V F)) → Below (call place f v w) (call' place f v w)

  module _ (call call' : Apply F) (calls : CallsBelow call call') where
    mutual
      eval-below : (e : Exp F) (env : Scope F) (w : World (V F)) (other other' : World (V F) → Answer (V F) (V F)) → ((w : World (V F)) → Below (other w) (other' w)) → Below (eval call e env w other) (eval call' e env w other')
      eval-below (ret a) env w other other' h = same _
      eval-below (let_in x ps t o e) env w other other' h = then-below (op-below o env w) (λ v w. eval-below e (bind x v env) w other other' h)
      eval-below (exception_in x i t e) env w other other' h = eval-below e _ _ other other' h
      eval-below (name_in x y e) env w other other' h = name-below (exception_of y env) w (λ v. eval-below e (bind x v env) w other other' h)
      eval-below (rec_in ps fs e) env w other other' h = eval-below e (members fs env) w other other' h
      eval-below (switch a t arms) env w other other' h = found-below (look_up a env) w (λ v. arms-below arms (F.tag_of t) v env w other other' h)
      eval-below (first e d) env w other other' h = eval-below e env w _ _ (λ w. eval-below d env w other other' h)
      eval-below miss env w other other' h = h w
      eval-below (counted n e) env w other other' h = eval-below e env w other other' h

      arms-below : (arms : Arms F) (g : F.tags.Tag) (v : V F) (env : Scope F) (w : World (V F)) (other other' : World (V F) → Answer (V F) (V F)) → ((w : World (V F)) → Below (other w) (other' w)) → Below (eval_arms call g arms v env w other) (eval_arms call' g arms v env w other')
      arms-below no_arms g v env w other other' h = h w
      arms-below (arm c e arms) g v env w other other' h = match-below (check g c v env) w (λ env' w. eval-below e env' w other other' h) (λ w. arms-below arms g v env w other other' h)

      op-below : (o : Op F) (env : Scope F) (w : World (V F)) → Below (eval_op call o env w) (eval_op call' o env w)
      op-below (app place f a) env w = found-below (look_up f env) w (λ g. found-below (look_up a env) w (λ v. calls place g v w))
      op-below (block e) env w = eval-below e env w fail fail (λ w. same _)
      op-below (handle e x d) env w = handle-below (eval-below e env w fail fail (λ w. same _)) (λ p w. eval-below d (bind x p env) w fail fail (λ w. same _))
      op-below (use_of x) env w = same _
      op-below (const l) env w = same _
      op-below (con_alone c t) env w = same _
      op-below (construct m c t a) env w = same _
      op-below (ref_alone t) env w = same _
      op-below (refer m t a) env w = same _
      op-below (content t a) env w = same _
      op-below (pack m t x a) env w = same _
      op-below (make_record t row) env w = same _
      op-below (select t l a) env w = same _
      op-below (prim_alone p t) env w = same _
      op-below (prim m p t as_) env w = same _
      op-below (fn f) env w = same _
      op-below (raise a) env w = same _
      op-below (raise_initial i) env w = same _

    run-below : (f : Fun F) (env : Scope F) (v : V F) (w : World (V F)) → Below (run_fun call f env v w) (run_fun call' f env v w)
    run-below (last x t e) env v w = eval-below e (bind x v env) w fail fail (λ w. same _)
    run-below (more x t f) env v w = same _

  body-below : (go go' : Go F) → ((f : Fun F) (env : Scope F) (v : V F) (w : World (V F)) → Below (go f env v w) (go' f env v w)) → (c : Code F) (env : Scope F) (v : V F) (w : World (V F)) → Below (body go c env v w) (body go' c env v w)
  body-below go go' h (alone f) env v w = h f env v w
  body-below go go' h (one_of f fs) env v w = h f (members fs env) v w

  enter-below : (go go' : Go F) → ((f : Fun F) (env : Scope F) (v : V F) (w : World (V F)) → Below (go f env v w) (go' f env v w)) → CallsBelow (enter_closure go) (enter go')
  enter-below go go' h place (closure c env) v w = turn-below w.left place w (λ w. body-below go go' h c env v w)
  enter-below go go' h place (literal l) v w = first_wrong _
  enter-below go go' h place (record_of g fs) v w = first_wrong _
  enter-below go go' h place (con g c) v w = first_wrong _
  enter-below go go' h place (con_of g c u) v w = first_wrong _
  enter-below go go' h place (exn g n) v w = first_wrong _
  enter-below go go' h place (exn_of g n u) v w = first_wrong _
  enter-below go go' h place (ref g) v w = first_wrong _
  enter-below go go' h place (address a) v w = first_wrong _
  enter-below go go' h place (cell g u) v w = first_wrong _
  enter-below go go' h place (primitive g p) v w = first_wrong _

  apply-below : (k : ℕ) → CallsBelow (apply_closures k) (apply k)
  apply-below zero = enter-below _ _ (λ f env v w. same _)
  apply-below (suc k) = enter-below _ _ (run-below (apply_closures k) (apply k) (apply-below k))

  one-end : (r r' : Answer (V F) (V F)) → Below r r' → ((outcome_of identifier_of r).end ≡ wrong → ⊥) → outcome_of identifier_of r' ≡ outcome_of identifier_of r
  one-end _ _ (same r) never = refl
  one-end _ _ (first_wrong r) never = absurd (never refl)

  pub meanings-same : (initial : List ℕ) (e : Exp F) (m : ℕ) → ((outcome_of identifier_of (eval (apply_closures m) e empty (record (start m) { exceptions = initial }) fail)).end ≡ wrong → ⊥) → outcome_of identifier_of (eval (apply m) e empty (record (start m) { exceptions = initial }) fail) ≡ outcome_of identifier_of (eval (apply_closures m) e empty (record (start m) { exceptions = initial }) fail)
  meanings-same initial e m never = one-end _ _ (eval-below (apply_closures m) (apply m) (apply-below m) e empty (record (start m) { exceptions = initial }) fail fail (λ w. same _)) never
