-- As much fuel as turns is enough: calls that may nest deeper change nothing.
use Rattle.std.proofs.Common.{◌≡◌, ℕ, zero, suc, ◌≤◌, Bool, true, false, List, [], ◌∷◌, ◌++◌, length, Option, Some, None, slice_get, nat_lt, if◌then◌else◌, refl, ap, arith}
use Rattle.std.specs.Prelude.{slice_set}
use Rattle.ir_values.specs.of_mlc_names.declared.label.Label.{Label}
use Rattle.mlc_base.specs.declared.place.Place.{Place}
use Rattle.ir_values.specs.of_mlc_runs.Run.{World, Cut, out_of_turns, went_wrong, Answer, gives, raises, stops, start, then_do, or_handle, or_fail, fail, turn_from, writes, outcome_of}
use Rattle.ir_values.specs.of_mlc_prims.LitOf.{Literal, string}
use Rattle.ir_values.specs.of_mlc_prims.PrimOf.{Gives, made, raised}
use Rattle.ir_values.specs.of_mlc_prims.declared.basis.BasisPrimitive.{BasisPrimitive}
use Rattle.ir_values.specs.Tags.{Tagging}
use Rattle.ir_values.specs.Values.{Value, record_of, con, exn, ref, cell, primitive, closure, empty, bind, field_in, address_in, packet_name}
use Rattle.ir_values.specs.Equality.{same_at}
use Rattle.ir_values.specs.Match.{matches, no_match, mismatch, after_match}
use Rattle.ir_values.specs.Primitives.{Sort, compares, assigns, prints, computes, sort_of, row_at, literals, arguments, marked, giving, compare_values, assign_value, print_literals, perform_as, perform, make_reference, content_of}
use Rattle.ir_plain.specs.Kind.{Kind}
use Rattle.ir_plain.specs.Tree.{Exp, ret, let_in, exception_in, name_in, rec_in, switch, first, miss, counted, Arms, no_arms, arm, Op, use_of, const, con_alone, construct, ref_alone, refer, content, pack, make_record, select, prim_alone, prim, app, fn, block, handle, raise, raise_initial, Fun, last, more}
use Rattle.ir_plain.specs.Meaning.{Code, alone, one_of, V, Scope, Fits, Apply, Go, look_up, look_all, look_row, check, members, on_name, exception_of, pack_value, select_from, eval, eval_arms, eval_op, run_fun, body, enter, apply, identifier_of, run_at, run}

-- one answer, with at most j turns left
pub data Within {V A : Type 0} (j : ℕ) : Answer V A → Answer V A → Type 0 where
  both_give : (a : A) (w : World V) → w.left ≤ j → Within j (gives a w) (gives a w)
  both_raise : (p : V) (w : World V) → w.left ≤ j → Within j (raises p w) (raises p w)
  both_stop : (cut : Cut) (w : World V) → Within j (stops cut w) (stops cut w)

one-answer : {V A : Type 0} {j : ℕ} {r r' : Answer V A} → Within j r r' → r' ≡ r
one-answer (both_give a w h) = refl
one-answer (both_raise p w h) = refl
one-answer (both_stop cut w) = refl

wider : {V A : Type 0} {r r' : Answer V A} (i j : ℕ) → i ≤ j → Within i r r' → Within j r r'
wider i j h (both_give a w k) = both_give a w (omega (arith, h, k))
wider i j h (both_raise p w k) = both_raise p w (omega (arith, h, k))
wider i j h (both_stop cut w) = both_stop cut w

module _ {V : Type 0} {j : ℕ} where
  then-within : {A B : Type 0} {r r' : Answer V A} (go go' : A → World V → Answer V B) → Within j r r' → ((a : A) (w : World V) → w.left ≤ j → Within j (go a w) (go' a w)) → Within j (then_do r go) (then_do r' go')
  then-within go go' (both_give a w h) k = k a w h
  then-within go go' (both_raise p w h) k = both_raise p w h
  then-within go go' (both_stop cut w) k = both_stop cut w

  handle-within : {A : Type 0} {r r' : Answer V A} (go go' : V → World V → Answer V A) → Within j r r' → ((p : V) (w : World V) → w.left ≤ j → Within j (go p w) (go' p w)) → Within j (or_handle r go) (or_handle r' go')
  handle-within go go' (both_give a w h) k = both_give a w h
  handle-within go go' (both_raise p w h) k = k p w h
  handle-within go go' (both_stop cut w) k = both_stop cut w

  found-within : {A X : Type 0} (o : Option X) (w : World V) (go go' : X → Answer V A) → ((x : X) → Within j (go x) (go' x)) → Within j (or_fail o w go) (or_fail o w go')
  found-within None w go go' h = both_stop went_wrong w
  found-within (Some x) w go go' h = h x

  turn-within : {A : Type 0} (n : ℕ) (place : Place) (w : World V) (go go' : World V → Answer V A) → n ≤ j → ((w : World V) → w.left ≤ j → Within j (go w) (go' w)) → Within j (turn_from n place w go) (turn_from n place w go')
  turn-within zero place w go go' h k = both_stop out_of_turns w
  turn-within (suc n) place w go go' h k = k (record w { left = n; taken = w.taken ++ place ∷ [] }) (omega (arith, h))

  if-within : {A : Type 0} (b : Bool) {r r' q q' : Answer V A} → Within j r r' → Within j q q' → Within j (if b then r else q) (if b then r' else q')
  if-within true h k = h
  if-within false h k = k

marked-within : {B C T A : Type 0} {j : ℕ} (m : Option Place) (w : World (Value B C T)) (go : World (Value B C T) → Answer (Value B C T) A) → w.left ≤ j → ((w : World (Value B C T)) → w.left ≤ j → Within j (go w) (go w)) → Within j (marked m w go) (marked m w go)
marked-within None w go h k = k w h
marked-within (Some place) w go h k = turn-within w.left place w go go h k

-- what is done with values takes no turn
module _ (K : Tagging) {B C : Type 0} (j : ℕ) where
  giving-within : (r : Gives) (w : World (Value B C K.Tag)) → w.left ≤ j → Within j (giving K r w) (giving K r w)
  giving-within (made l) w h = both_give _ w h
  giving-within (raised e) w h = both_raise _ w h

  compare-within : (g : K.Tag) (vs : List (Value B C K.Tag)) (w : World (Value B C K.Tag)) → w.left ≤ j → Within j (compare_values K g vs w) (compare_values K g vs w)
  compare-within g (v ∷ u ∷ []) w h = found-within (same_at K g v u) w _ _ (λ b. both_give _ w h)
  compare-within g _ w h = both_stop _ w

  assign-within : (g : K.Tag) (vs : List (Value B C K.Tag)) (w : World (Value B C K.Tag)) → w.left ≤ j → Within j (assign_value K g vs w) (assign_value K g vs w)
  assign-within g (r ∷ v ∷ []) w h = found-within (address_in r) w _ _ (λ a. if-within (nat_lt a (length w.store)) (both_give _ (record w { store = slice_set w.store a (cell g v) }) h) (both_stop _ w))
  assign-within g _ w h = both_stop _ w

  print-within : (ls : List Literal) (w : World (Value B C K.Tag)) → w.left ≤ j → Within j (print_literals K ls w) (print_literals K ls w)
  print-within (string s ∷ []) w h = both_give _ (writes s w) h
  print-within _ w h = both_stop _ w

  perform-as-within : (o : Sort) (g : K.Tag) (p : BasisPrimitive) (vs : List (Value B C K.Tag)) (w : World (Value B C K.Tag)) → w.left ≤ j → Within j (perform_as K o g p vs w) (perform_as K o g p vs w)
  perform-as-within compares g p vs w h = compare-within g vs w h
  perform-as-within assigns g p vs w h = assign-within g vs w h
  perform-as-within prints g p vs w h = found-within (literals vs) w _ _ (λ ls. print-within ls w h)
  perform-as-within computes g p vs w h = found-within (literals vs) w _ _ (λ ls. found-within (row_at K g p ls) w _ _ (λ r. giving-within r w h))

  perform-within : (g : K.Tag) (p : BasisPrimitive) (vs : List (Value B C K.Tag)) (w : World (Value B C K.Tag)) → w.left ≤ j → Within j (perform K g p vs w) (perform K g p vs w)
  perform-within g p vs w h = perform-as-within (sort_of p) g p vs w h

  reference-within : (g : K.Tag) (v : Value B C K.Tag) (w : World (Value B C K.Tag)) → w.left ≤ j → Within j (make_reference K g v w) (make_reference K g v w)
  reference-within g v w h = both_give _ (record w { store = w.store ++ cell g v ∷ [] }) h

  content-within : (g : K.Tag) (v : Value B C K.Tag) (w : World (Value B C K.Tag)) → w.left ≤ j → Within j (content_of K g w v) (content_of K g w v)
  content-within g (cell h v) w k = if-within (K.same g h) (both_give _ w k) (both_stop _ w)
  content-within g _ w k = both_stop _ w

-- calls that give one answer, where at most j turns are left
abbrev pub SameCalls : {F : Kind} → ℕ → Apply F → Apply F → Type 0
SameCalls {F} j call call' = (place : Place) (f v : V F) (w : World (V F)) → w.left ≤ j → Within j (call place f v w) (call' place f v w)

module _ {F : Kind} (j : ℕ) (c c' : Apply F) (calls : SameCalls j c c') where
  name-within : (o : Option (V F)) (w : World (V F)) (go go' : V F → Answer (V F) (V F)) → ((v : V F) → Within j (go v) (go' v)) → Within j (on_name o w go) (on_name o w go')
  name-within (Some (exn g n)) w go go' h = h (exn g n)
  name-within _ w go go' h = both_stop _ w

  pack-within : (m : Option Place) (g : F.tags.Tag) (v n : V F) (w : World (V F)) → w.left ≤ j → Within j (pack_value m g v w n) (pack_value m g v w n)
  pack-within m g v (exn h n) w k = marked-within m w _ k (λ w l. both_give _ w l)
  pack-within m g v _ w k = both_stop _ w

  select-within : (g : F.tags.Tag) (l : Label) (v : V F) (w : World (V F)) → w.left ≤ j → Within j (select_from g l v w) (select_from g l v w)
  select-within g l (record_of h fs) w k = if-within (F.tags.same g h) (found-within (field_in l fs) w _ _ (λ v. both_give v w k)) (both_stop _ w)
  select-within g l _ w k = both_stop _ w

  fits-within : (m : Fits F) (w : World (V F)) (go go' : Scope F → Go F) (other other' : Go F) → ((env : Scope F) → Within j (go env w) (go' env w)) → Within j (other w) (other' w) → Within j (after_match m w go other) (after_match m w go' other')
  fits-within (matches env) w go go' other other' h k = h env
  fits-within no_match w go go' other other' h k = k
  fits-within mismatch w go go' other other' h k = both_stop _ w

  abbrev SameGo : Go F → Go F → Type 0
  SameGo other other' = (w : World (V F)) → w.left ≤ j → Within j (other w) (other' w)

  fails : SameGo fail fail
  fails w h = both_stop _ w

  mutual
    pub eval-within : (e : Exp F) (env : Scope F) (w : World (V F)) → w.left ≤ j → (other other' : Go F) → SameGo other other' → Within j (eval c e env w other) (eval c' e env w other')
    eval-within (ret a) env w h other other' k = found-within (look_up a env) w _ _ (λ v. both_give v w h)
    eval-within (let_in x ps t o e) env w h other other' k = then-within _ _ (op-within o env w h) (λ v w l. eval-within e (bind x v env) w l other other' k)
    eval-within (exception_in x i t e) env w h other other' k = eval-within e _ (record w { exceptions = w.exceptions ++ i ∷ [] }) h other other' k
    eval-within (name_in x y e) env w h other other' k = name-within (exception_of y env) w _ _ (λ v. eval-within e (bind x v env) w h other other' k)
    eval-within (rec_in ps fs e) env w h other other' k = eval-within e (members fs env) w h other other' k
    eval-within (switch a t arms) env w h other other' k = found-within (look_up a env) w _ _ (λ v. arms-within (F.tag_of t) arms v env w h other other' k)
    eval-within (first e d) env w h other other' k = eval-within e env w h _ _ (λ w l. eval-within d env w l other other' k)
    eval-within miss env w h other other' k = k w h
    eval-within (counted n e) env w h other other' k = eval-within e env w h other other' k

    arms-within : (g : F.tags.Tag) (arms : Arms F) (v : V F) (env : Scope F) (w : World (V F)) → w.left ≤ j → (other other' : Go F) → SameGo other other' → Within j (eval_arms c g arms v env w other) (eval_arms c' g arms v env w other')
    arms-within g no_arms v env w h other other' k = k w h
    arms-within g (arm a e arms) v env w h other other' k = fits-within (check g a v env) w _ _ _ _ (λ env'. eval-within e env' w h other other' k) (arms-within g arms v env w h other other' k)

    op-within : (o : Op F) (env : Scope F) (w : World (V F)) → w.left ≤ j → Within j (eval_op c o env w) (eval_op c' o env w)
    op-within (use_of x) env w h = found-within (look_up x env) w _ _ (λ v. both_give v w h)
    op-within (const l) env w h = both_give _ w h
    op-within (con_alone n t) env w h = both_give _ w h
    op-within (construct m n t a) env w h = found-within (look_up a env) w _ _ (λ v. marked-within m w _ h (λ w l. both_give _ w l))
    op-within (ref_alone t) env w h = both_give _ w h
    op-within (refer m t a) env w h = found-within (look_up a env) w _ _ (λ v. marked-within m w _ h (λ w l. reference-within F.tags j (F.tag_of t) v w l))
    op-within (content t a) env w h = found-within (look_up a env) w _ _ (λ v. found-within (address_in v) w _ _ (λ a. found-within (slice_get w.store a) w _ _ (λ u. content-within F.tags j (F.tag_of t) u w h)))
    op-within (pack m t x a) env w h = found-within (look_up a env) w _ _ (λ v. found-within (look_up x env) w _ _ (λ n. pack-within m (F.tag_of t) v n w h))
    op-within (make_record t row) env w h = found-within (look_row row env) w _ _ (λ fs. both_give _ w h)
    op-within (select t l a) env w h = found-within (look_up a env) w _ _ (λ v. select-within (F.tag_of t) l v w h)
    op-within (prim_alone p t) env w h = both_give _ w h
    op-within (prim m p t as_) env w h = found-within (look_all as_ env) w _ _ (λ vs. marked-within m w _ h (λ w l. perform-within F.tags j (F.tag_of t) p vs w l))
    op-within (app place f a) env w h = found-within (look_up f env) w _ _ (λ g. found-within (look_up a env) w _ _ (λ v. calls place g v w h))
    op-within (fn f) env w h = both_give _ w h
    op-within (block e) env w h = eval-within e env w h fail fail fails
    op-within (handle e x d) env w h = handle-within _ _ (eval-within e env w h fail fail fails) (λ p w l. eval-within d (bind x p env) w l fail fail fails)
    op-within (raise a) env w h = found-within (look_up a env) w _ _ (λ v. found-within (packet_name v) w _ _ (λ n. both_raise v w h))
    op-within (raise_initial i) env w h = both_raise _ w h

  fun-within : (f : Fun F) (env : Scope F) (v : V F) (w : World (V F)) → w.left ≤ j → Within j (run_fun c f env v w) (run_fun c' f env v w)
  fun-within (last x t e) env v w h = eval-within e (bind x v env) w h fail fail fails
  fun-within (more x t f) env v w h = both_give _ w h

abbrev Bodies : Kind → Type 0
Bodies F = Fun F → Scope F → V F → World (V F) → Answer (V F) (V F)

body-within : {F : Kind} (j : ℕ) (go go' : Bodies F) → ((f : Fun F) (env : Scope F) (v : V F) (w : World (V F)) → w.left ≤ j → Within j (go f env v w) (go' f env v w))
    → (k : Code F) (env : Scope F) (v : V F) (w : World (V F)) → w.left ≤ j → Within j (body go k env v w) (body go' k env v w)
body-within j go go' h (alone f) env v w l = h f env v w l
body-within j go go' h (one_of f fs) env v w l = h f (members fs env) v w l

-- a turn is taken, and one fewer is left
after-turn : {V : Type 0} (n j : ℕ) (place : Place) (w : World V) (go go' : World V → Answer V V) → n ≤ suc j → ((w : World V) → w.left ≤ j → Within j (go w) (go' w)) → Within (suc j) (turn_from n place w go) (turn_from n place w go')
after-turn zero j place w go go' h k = both_stop _ w
after-turn (suc n) j place w go go' h k = wider j (suc j) (omega arith) (k (record w { left = n; taken = w.taken ++ place ∷ [] }) (omega (arith, h)))

pub enter-within : {F : Kind} (j : ℕ) (go go' : Bodies F) → ((f : Fun F) (env : Scope F) (v : V F) (w : World (V F)) → w.left ≤ j → Within j (go f env v w) (go' f env v w)) → SameCalls (suc j) (enter go) (enter go')
enter-within {F} j go go' h place (con g c) v w l = after-turn w.left j place w _ _ l (λ w k. both_give _ w k)
enter-within {F} j go go' h place (exn g c) v w l = after-turn w.left j place w _ _ l (λ w k. both_give _ w k)
enter-within {F} j go go' h place (ref g) v w l = after-turn w.left j place w _ _ l (λ w k. reference-within F.tags j g v w k)
enter-within {F} j go go' h place (primitive g p) v w l = after-turn w.left j place w _ _ l (λ w k. perform-within F.tags j g p (arguments v) w k)
enter-within {F} j go go' h place (closure c env) v w l = after-turn w.left j place w _ _ l (λ w k. body-within j go go' h c env v w k)
enter-within {F} j go go' h place _ v w l = both_stop _ w

no-turn : {V : Type 0} (n : ℕ) (place : Place) (w : World V) (go go' : World V → Answer V V) → n ≤ 0 → Within 0 (turn_from n place w go) (turn_from n place w go')
no-turn zero place w go go' h = both_stop _ w
no-turn (suc n) place w go go' h = absurd (omega (arith, h))

enter-none : {F : Kind} (go go' : Bodies F) → SameCalls 0 (enter go) (enter go')
enter-none go go' place (con g c) v w l = no-turn w.left place w _ _ l
enter-none go go' place (exn g c) v w l = no-turn w.left place w _ _ l
enter-none go go' place (ref g) v w l = no-turn w.left place w _ _ l
enter-none go go' place (primitive g p) v w l = no-turn w.left place w _ _ l
enter-none go go' place (closure c env) v w l = no-turn w.left place w _ _ l
enter-none go go' place _ v w l = both_stop _ w

pub same-calls : {F : Kind} (j k : ℕ) → j ≤ k → SameCalls {F = F} j (apply j) (apply k)
same-calls zero zero h = enter-none _ _
same-calls zero (suc k) h = enter-none _ _
same-calls (suc j) zero h = absurd (omega (arith, h))
same-calls (suc j) (suc k) h = enter-within j _ _ (fun-within j (apply j) (apply k) (same-calls j k (omega (arith, h))))

pub fuel-is-enough : {F : Kind} (k m : ℕ) → m ≤ k → (initial : List ℕ) (e : Exp F) → run_at k initial e m ≡ run initial e m
fuel-is-enough k m h initial e = ap (outcome_of identifier_of) (one-answer (eval-within m (apply m) (apply k) (same-calls m k h) e empty (record (start m) { exceptions = initial }) (omega arith) fail fail (λ w l. both_stop _ w)))
