-- As much fuel as turns is enough: each call, and each time that a loop goes round, takes a turn.
use Rattle.std.proofs.Common.{◌≡◌, ℕ, zero, suc, ◌≤◌, Bool, true, false, if◌then◌else◌, List, [], ◌∷◌, ◌++◌, length, Option, Some, None, nat_eq, nat_lt, slice_get, refl, ap, arith}
use Rattle.std.specs.Prelude.{get_or, slice_set}
use Rattle.mlc_base.specs.declared.place.Place.{Place}
use Rattle.first_values.specs.of_mlc_runs.Run.{World, Cut, out_of_turns, went_wrong, gives, raises, stops, or_fail, turn_from, writes, outcome_of}
use Rattle.mlc_prims.specs.LitOf.{int, word, char, string, truth}
use Rattle.mlc_prims.specs.PrimOf.{Gives, made, raised}
use Rattle.first_values.specs.Values.{Value, literal, cell, reference, name, packet, values_of, Env, Run, bind, look_up, look_all, bind_all, gather, identifier_of, tag_of, at}
use Rattle.first_values.specs.Equality.{opaque, equal_at}
use Rattle.first_values.specs.Operations.{Plain, same, constant, field, refer, content, assign, exception, initial, pack, argument, compute, equal, print, Tables, literal_at, attempted, either_way, decide, called, raised_from, none, one, two, field_from, read, write, print_value, packet_of, argument_of, made_in, perform}
use Rattle.ir_ssa.specs.Tree.{Body, Bodies, Fun, Program, plain, make, attempt, turn, call, label, again, guard, goto, jump, branch, switch, tail, ret, raise, last, arm}
use Rattle.ir_ssa.specs.Meaning.{Onward, Handler, Calls, throw, then_go, at_top, go_to, may_turn, must_turn, spin, eval, eval_arm, Evaluator, enter, idle, apply, body_of, begin}
use Rattle.ir_ssa.specs.Laws.{FuelIsEnough}

-- one answer, with at most j turns left
data Within (j : ℕ) : Run Value → Run Value → Type 0 where
  both_give : (a : Value) (w : World Value) → w.left ≤ j → Within j (gives a w) (gives a w)
  both_raise : (p : Value) (w : World Value) → w.left ≤ j → Within j (raises p w) (raises p w)
  both_stop : (cut : Cut) (w : World Value) → Within j (stops cut w) (stops cut w)

one-answer : {j : ℕ} {r r' : Run Value} → Within j r r' → r' ≡ r
one-answer (both_give a w h) = refl
one-answer (both_raise p w h) = refl
one-answer (both_stop cut w) = refl

wider : {r r' : Run Value} (i j : ℕ) → i ≤ j → Within i r r' → Within j r r'
wider i j h (both_give a w k) = both_give a w (omega (arith, h, k))
wider i j h (both_raise p w k) = both_raise p w (omega (arith, h, k))
wider i j h (both_stop cut w) = both_stop cut w

-- what goes on alike with at most j turns, or fewer
abbrev OnAlike : ℕ → Onward → Onward → Type 0
OnAlike j k k' = (i : ℕ) → i ≤ j → (t : Option Place) (vs : List Value) (w : World Value) → w.left ≤ i → Within i (k t vs w) (k' t vs w)

abbrev HandleAlike : ℕ → Handler → Handler → Type 0
HandleAlike j h h' = (i : ℕ) → i ≤ j → (p : Value) (w : World Value) → w.left ≤ i → Within i (h p w) (h' p w)

data AllOn (j : ℕ) : List Onward → List Onward → Type 0 where
  no_on : AllOn j [] []
  on : {k k' : Onward} {ks ks' : List Onward} → OnAlike j k k' → AllOn j ks ks' → AllOn j (k ∷ ks) (k' ∷ ks')

data AllHandle (j : ℕ) : List Handler → List Handler → Type 0 where
  no_handle : AllHandle j [] []
  handles : {h h' : Handler} {hs hs' : List Handler} → HandleAlike j h h' → AllHandle j hs hs' → AllHandle j (h ∷ hs) (h' ∷ hs')

lower-on : (i j : ℕ) {ks ks' : List Onward} → i ≤ j → AllOn j ks ks' → AllOn i ks ks'
lower-on i j e no_on = no_on
lower-on i j e (on h hs) = on (λ n m. h n (omega (arith, e, m))) (lower-on i j e hs)

lower-handle : (i j : ℕ) {hs hs' : List Handler} → i ≤ j → AllHandle j hs hs' → AllHandle i hs hs'
lower-handle i j e no_handle = no_handle
lower-handle i j e (handles h hs) = handles (λ n m. h n (omega (arith, e, m))) (lower-handle i j e hs)

module _ (j : ℕ) where
  found-within : {X : Type 0} (o : Option X) (w : World Value) (go go' : X → Run Value) → ((x : X) → Within j (go x) (go' x)) → Within j (or_fail o w go) (or_fail o w go')
  found-within None w go go' h = both_stop went_wrong w
  found-within (Some x) w go go' h = h x

  if-within : (b : Bool) {r r' q q' : Run Value} → Within j r r' → Within j q q' → Within j (if b then r else q) (if b then r' else q')
  if-within true h k = h
  if-within false h k = k

  -- with one turn less
  turn-within : (n : ℕ) (place : Place) (w : World Value) (go go' : World Value → Run Value) → n ≤ j → ((i : ℕ) → suc i ≤ j → (u : World Value) → u.left ≤ i → Within i (go u) (go' u)) → Within j (turn_from n place w go) (turn_from n place w go')
  turn-within zero place w go go' h k = both_stop out_of_turns w
  turn-within (suc n) place w go go' h k = wider n j (omega (arith, h)) (k n h (record w { left = n; taken = w.taken ++ place ∷ [] }) (omega arith))

  may-within : (t : Option Place) (w : World Value) (go go' : World Value → Run Value) → w.left ≤ j → ((i : ℕ) → i ≤ j → (u : World Value) → u.left ≤ i → Within i (go u) (go' u)) → Within j (may_turn t w go) (may_turn t w go')
  may-within None w go go' h k = k j (omega arith) w h
  may-within (Some p) w go go' h k = turn-within w.left p w go go' h (λ i e. k i (omega (arith, e)))

  must-within : (t : Option Place) (w : World Value) (go go' : World Value → Run Value) → w.left ≤ j → ((i : ℕ) → suc i ≤ j → (u : World Value) → u.left ≤ i → Within i (go u) (go' u)) → Within j (must_turn t w go) (must_turn t w go')
  must-within None w go go' h k = both_stop went_wrong w
  must-within (Some p) w go go' h k = turn-within w.left p w go go' h k

  throw-within : {hs hs' : List Handler} (p : Value) (w : World Value) → w.left ≤ j → AllHandle j hs hs' → Within j (throw hs p w) (throw hs' p w)
  throw-within p w e no_handle = both_raise p w e
  throw-within p w e (handles h hs) = h j (omega arith) p w e

  then-within : {hs hs' : List Handler} {r r' : Run Value} (go go' : Value → World Value → Run Value) → AllHandle j hs hs' → Within j r r' → ((v : Value) (u : World Value) → u.left ≤ j → Within j (go v u) (go' v u)) → Within j (then_go hs r go) (then_go hs' r' go')
  then-within go go' hs (both_give a w e) k = k a w e
  then-within go go' hs (both_raise p w e) k = throw-within p w e hs
  then-within go go' hs (both_stop cut w) k = both_stop cut w

  top-within : {hs hs' : List Handler} (w : World Value) {r r' : Run Value} → AllHandle j hs hs' → Within j r r' → Within j (at_top hs w r) (at_top hs' w r')
  top-within w no_handle h = h
  top-within w (handles k ks) h = both_stop went_wrong w

  goto-within : {ks ks' : List Onward} (l : ℕ) (t : Option Place) (vs : List Value) (w : World Value) → w.left ≤ j → AllOn j ks ks' → Within j (go_to ks l t vs w) (go_to ks' l t vs w)
  goto-within l t vs w e no_on = both_stop went_wrong w
  goto-within zero t vs w e (on k ks) = k j (omega arith) t vs w e
  goto-within (suc l) t vs w e (on k ks) = goto-within l t vs w e ks

  raised-within : {hs hs' : List Handler} (p : Value) (w : World Value) → w.left ≤ j → AllHandle j hs hs' → Within j (raised_from p w (throw hs p w)) (raised_from p w (throw hs' p w))
  raised-within (packet n v) w e hs = throw-within (packet n v) w e hs
  raised-within (literal l) w e hs = both_stop went_wrong w
  raised-within (cell t vs) w e hs = both_stop went_wrong w
  raised-within (reference a) w e hs = both_stop went_wrong w
  raised-within (name n) w e hs = both_stop went_wrong w

  way-within : (g : Gives) (go go' other other' : Value → Run Value) → ((v : Value) → Within j (go v) (go' v)) → ((v : Value) → Within j (other v) (other' v)) → Within j (either_way g go other) (either_way g go' other')
  way-within (made l) go go' other other' h k = h _
  way-within (raised e) go go' other other' h k = k _

-- what is done with values takes no turn
module _ (j : ℕ) where
  none-within : (vs : List Value) (w : World Value) (r : Run Value) → Within j r r → Within j (none vs w r) (none vs w r)
  none-within [] w r h = h
  none-within (v ∷ vs) w r h = both_stop went_wrong w

  one-within : (vs : List Value) (w : World Value) (go : Value → Run Value) → ((v : Value) → Within j (go v) (go v)) → Within j (one vs w go) (one vs w go)
  one-within [] w go h = both_stop went_wrong w
  one-within (a ∷ []) w go h = h a
  one-within (a ∷ b ∷ vs) w go h = both_stop went_wrong w

  two-within : (vs : List Value) (w : World Value) (go : Value → Value → Run Value) → ((v u : Value) → Within j (go v u) (go v u)) → Within j (two vs w go) (two vs w go)
  two-within [] w go h = both_stop went_wrong w
  two-within (a ∷ []) w go h = both_stop went_wrong w
  two-within (a ∷ b ∷ []) w go h = h a b
  two-within (a ∷ b ∷ c ∷ vs) w go h = both_stop went_wrong w

  field-within : (i : ℕ) (v : Value) (w : World Value) → w.left ≤ j → Within j (field_from i v w) (field_from i v w)
  field-within i (cell t vs) w e = found-within j (at i vs) w _ _ (λ v. both_give v w e)
  field-within i (literal l) w e = both_stop went_wrong w
  field-within i (reference a) w e = both_stop went_wrong w
  field-within i (name n) w e = both_stop went_wrong w
  field-within i (packet n v) w e = both_stop went_wrong w

  read-within : (v : Value) (w : World Value) → w.left ≤ j → Within j (read v w) (read v w)
  read-within (reference a) w e = found-within j (slice_get w.store a) w _ _ (λ v. both_give v w e)
  read-within (literal l) w e = both_stop went_wrong w
  read-within (cell t vs) w e = both_stop went_wrong w
  read-within (name n) w e = both_stop went_wrong w
  read-within (packet n v) w e = both_stop went_wrong w

  write-within : (r v : Value) (w : World Value) → w.left ≤ j → Within j (write r v w) (write r v w)
  write-within (reference a) v w e = if-within j (nat_lt a (length w.store)) (both_give _ (record w { store = slice_set w.store a v }) e) (both_stop went_wrong w)
  write-within (literal l) v w e = both_stop went_wrong w
  write-within (cell t vs) v w e = both_stop went_wrong w
  write-within (name n) v w e = both_stop went_wrong w
  write-within (packet n u) v w e = both_stop went_wrong w

  print-within : (v : Value) (w : World Value) → w.left ≤ j → Within j (print_value v w) (print_value v w)
  print-within (literal (string s)) w e = both_give _ (writes s w) e
  print-within (literal (int z)) w e = both_stop went_wrong w
  print-within (literal (word n)) w e = both_stop went_wrong w
  print-within (literal (char n)) w e = both_stop went_wrong w
  print-within (literal (truth b)) w e = both_stop went_wrong w
  print-within (reference a) w e = both_stop went_wrong w
  print-within (cell t vs) w e = both_stop went_wrong w
  print-within (name n) w e = both_stop went_wrong w
  print-within (packet n u) w e = both_stop went_wrong w

  pack-within : (n v : Value) (w : World Value) → w.left ≤ j → Within j (packet_of n v w) (packet_of n v w)
  pack-within (name n) v w e = both_give _ w e
  pack-within (literal l) v w e = both_stop went_wrong w
  pack-within (reference a) v w e = both_stop went_wrong w
  pack-within (cell t vs) v w e = both_stop went_wrong w
  pack-within (packet n u) v w e = both_stop went_wrong w

  argument-within : (v : Value) (w : World Value) → w.left ≤ j → Within j (argument_of v w) (argument_of v w)
  argument-within (packet n v) w e = both_give _ w e
  argument-within (name n) w e = both_stop went_wrong w
  argument-within (literal l) w e = both_stop went_wrong w
  argument-within (reference a) w e = both_stop went_wrong w
  argument-within (cell t vs) w e = both_stop went_wrong w

  made-within : (g : Gives) (w : World Value) → w.left ≤ j → Within j (made_in g w) (made_in g w)
  made-within (made l) w e = both_give _ w e
  made-within (raised x) w e = both_stop went_wrong w

  perform-within : (T : Tables) (p : Plain) (vs : List Value) (w : World Value) → w.left ≤ j → Within j (perform T p vs w) (perform T p vs w)
  perform-within T same vs w e = one-within vs w _ (λ v. both_give v w e)
  perform-within T (constant c) vs w e = none-within vs w _ (found-within j (literal_at T c) w _ _ (λ l. both_give _ w e))
  perform-within T (field i) vs w e = one-within vs w _ (λ v. field-within i v w e)
  perform-within T refer vs w e = one-within vs w _ (λ v. both_give _ (record w { store = w.store ++ v ∷ [] }) e)
  perform-within T content vs w e = one-within vs w _ (λ v. read-within v w e)
  perform-within T assign vs w e = two-within vs w _ (λ r v. write-within r v w e)
  perform-within T (exception identifier) vs w e = none-within vs w _ (both_give _ (record w { exceptions = w.exceptions ++ identifier ∷ [] }) e)
  perform-within T (initial n) vs w e = none-within vs w _ (found-within j (slice_get T.initial n) w _ _ (λ i. both_give _ w e))
  perform-within T pack vs w e = two-within vs w _ (λ n v. pack-within n v w e)
  perform-within T argument vs w e = one-within vs w _ (λ p. argument-within p w e)
  perform-within T (compute k p) vs w e = found-within j (attempted k p vs) w _ _ (λ g. made-within g w e)
  perform-within T (equal t) vs w e = two-within vs w _ (λ a b. found-within j (equal_at T.types (get_or T.types t opaque) a b) w _ _ (λ q. both_give _ w e))
  perform-within T print vs w e = one-within vs w _ (λ v. print-within v w e)

-- a loop: each time round takes a turn
spin-within : (params : List ℕ) (env : Env) (go go' : Onward → Env → World Value → Run Value) (f f' j : ℕ) → j ≤ f → j ≤ f'
    → ((i : ℕ) → i ≤ j → (k k' : Onward) → OnAlike i k k' → (inner : Env) (w : World Value) → w.left ≤ i → Within i (go k inner w) (go' k' inner w))
    → OnAlike j (spin params env go f) (spin params env go' f')
spin-within params env go go' zero zero j e e' h i m t vs w l = found-within i (bind_all params vs env) w _ _ (λ inner. must-within i t w _ _ l (λ n q u k. both_stop out_of_turns u))
spin-within params env go go' zero (suc f') j e e' h i m t vs w l = found-within i (bind_all params vs env) w _ _ (λ inner. must-within i t w _ _ l (λ n q u k. absurd (omega (arith, e, m, q))))
spin-within params env go go' (suc f) zero j e e' h i m t vs w l = found-within i (bind_all params vs env) w _ _ (λ inner. must-within i t w _ _ l (λ n q u k. absurd (omega (arith, e', m, q))))
spin-within params env go go' (suc f) (suc f') j e e' h i m t vs w l =
    found-within i (bind_all params vs env) w _ _ (λ inner. must-within i t w _ _ l (λ n q u k.
    h n (omega (arith, m, q)) (spin params env go f) (spin params env go' f') (spin-within params env go go' f f' n (omega (arith, e, m, q)) (omega (arith, e', m, q)) (λ a b. h a (omega (arith, m, q, b)))) inner u k))

module _ (T : Tables) (calls calls' : Calls) (f f' j : ℕ) (e : j ≤ f) (e' : j ≤ f') (alike : (i : ℕ) → i ≤ j → (p : Place) (g : ℕ) (vs : List Value) (w : World Value) → w.left ≤ i → Within i (calls p g vs w) (calls' p g vs w)) where
  mutual
    within : (b : Body) (i : ℕ) → i ≤ j → (env : Env) (ks ks' : List Onward) (hs hs' : List Handler) (w : World Value) → AllOn i ks ks' → AllHandle i hs hs' → w.left ≤ i → Within i (eval T calls f b env ks hs w) (eval T calls' f' b env ks' hs' w)
    within (plain p xs x b) i m env ks ks' hs hs' w K H l = found-within i (look_all xs env) w _ _ (λ vs. then-within i _ _ H (perform-within i T p vs w l) (λ v u q. within b i m (bind x v env) ks ks' hs hs' u K H q))
    within (make t ps x b) i m env ks ks' hs hs' w K H l = found-within i (gather ps env) w _ _ (λ vs. within b i m (bind x (cell t (values_of vs)) env) ks ks' hs hs' w K H l)
    within (attempt o p xs x a b) i m env ks ks' hs hs' w K H l = found-within i (look_all xs env) w _ _ (λ vs. found-within i (attempted o p vs) w _ _ (λ g. way-within i g _ _ _ _ (λ v. within a i m (bind x v env) ks ks' hs hs' w K H l) (λ q. within b i m (bind x q env) ks ks' hs hs' w K H l)))
    within (turn p b) i m env ks ks' hs hs' w K H l = turn-within i w.left p w _ _ l (λ n q u k. within b n (omega (arith, m, q)) env ks ks' hs hs' u (lower-on n i (omega (arith, q)) K) (lower-handle n i (omega (arith, q)) H) k)
    within (call p c xs x b) i m env ks ks' hs hs' w K H l = found-within i (look_all xs env) w _ _ (λ vs. found-within i (called T c env vs) w _ _ (λ g. then-within i _ _ H (alike i m p g.function g.arguments w l) (λ v u q. within b i m (bind x v env) ks ks' hs hs' u K H q)))
    within (label params a b) i m env ks ks' hs hs' w K H l = within b i m env _ _ hs hs' w (on (λ n q t vs u k. found-within n (bind_all params vs env) u _ _ (λ inner. may-within n t u _ _ k (λ o s z r. within a o (omega (arith, m, q, s)) inner ks ks' hs hs' z (lower-on o i (omega (arith, q, s)) K) (lower-handle o i (omega (arith, q, s)) H) r))) K) H l
    within (again params a b) i m env ks ks' hs hs' w K H l = within b i m env _ _ hs hs' w (on (spin-within params env _ _ f f' i (omega (arith, m, e)) (omega (arith, m, e')) (λ n q k k' A inner u r. within a n (omega (arith, m, q)) inner (k ∷ ks) (k' ∷ ks') hs hs' u (on A (lower-on n i q K)) (lower-handle n i q H) r)) K) H l
    within (guard n a y h) i m env ks ks' hs hs' w K H l = within a i m env _ _ _ _ w (on (λ o q t vs u k. goto-within o n t vs u k (lower-on o i q K)) no_on) (handles (λ o q p u k. within h o (omega (arith, m, q)) (bind y p env) ks ks' hs hs' u (lower-on o i q K) (lower-handle o i q H) k) H) l
    within (goto n xs) i m env ks ks' hs hs' w K H l = found-within i (look_all xs env) w _ _ (λ vs. goto-within i n None vs w l K)
    within (jump p n xs) i m env ks ks' hs hs' w K H l = found-within i (look_all xs env) w _ _ (λ vs. goto-within i n (Some p) vs w l K)
    within (branch q xs a b) i m env ks ks' hs hs' w K H l = found-within i (look_all xs env) w _ _ (λ vs. found-within i (decide T q vs) w _ _ (λ c. if-within i c (within a i m env ks ks' hs hs' w K H l) (within b i m env ks ks' hs hs' w K H l)))
    within (switch x bs) i m env ks ks' hs hs' w K H l = found-within i (tag_of (look_up x env)) w _ _ (λ t. within-arm t bs i m env ks ks' hs hs' w K H l)
    within (tail p c xs) i m env ks ks' hs hs' w K H l = top-within i w H (found-within i (look_all xs env) w _ _ (λ vs. found-within i (called T c env vs) w _ _ (λ g. alike i m p g.function g.arguments w l)))
    within (ret x) i m env ks ks' hs hs' w K H l = top-within i w H (found-within i (look_up x env) w _ _ (λ v. both_give v w l))
    within (raise x) i m env ks ks' hs hs' w K H l = found-within i (look_up x env) w _ _ (λ p. raised-within i p w l H)

    within-arm : (t : ℕ) (bs : Bodies) (i : ℕ) → i ≤ j → (env : Env) (ks ks' : List Onward) (hs hs' : List Handler) (w : World Value) → AllOn i ks ks' → AllHandle i hs hs' → w.left ≤ i → Within i (eval_arm T calls f t bs env ks hs w) (eval_arm T calls' f' t bs env ks' hs' w)
    within-arm t (last b) i m env ks ks' hs hs' w K H l = within b i m env ks ks' hs hs' w K H l
    within-arm t (arm o b bs) i m env ks ks' hs hs' w K H l = if-within i (nat_eq t o) (within b i m env ks ks' hs hs' w K H l) (within-arm t bs i m env ks ks' hs hs' w K H l)

enter-within : (funs : List Fun) (ev ev' : Evaluator) (j : ℕ) → ((i : ℕ) → suc i ≤ j → (b : Body) (env : Env) (u : World Value) → u.left ≤ i → Within i (ev b env [] [] u) (ev' b env [] [] u))
    → (p : Place) (g : ℕ) (vs : List Value) (w : World Value) → w.left ≤ j → Within j (enter funs ev p g vs w) (enter funs ev' p g vs w)
enter-within funs ev ev' j h p g vs w l = found-within j (slice_get funs g) w _ _ (λ c. found-within j (bind_all c.params vs []) w _ _ (λ env. turn-within j w.left p w _ _ l (λ i q u k. h i q c.body env u k)))

apply-within : (P : Program) (k k' j : ℕ) → j ≤ k → j ≤ k' → (p : Place) (g : ℕ) (vs : List Value) (w : World Value) → w.left ≤ j → Within j (apply P k p g vs w) (apply P k' p g vs w)
apply-within P zero zero j e e' p g vs w l = enter-within P.funs idle idle j (λ i q b env u k. both_stop out_of_turns u) p g vs w l
apply-within P zero (suc k') j e e' p g vs w l = enter-within P.funs idle (eval P.tables (apply P k') k') j (λ i q b env u k. absurd (omega (arith, e, q))) p g vs w l
apply-within P (suc k) zero j e e' p g vs w l = enter-within P.funs (eval P.tables (apply P k) k) idle j (λ i q b env u k. absurd (omega (arith, e', q))) p g vs w l
apply-within P (suc k) (suc k') j e e' p g vs w l =
    enter-within P.funs (eval P.tables (apply P k) k) (eval P.tables (apply P k') k') j
    (λ i q b env u r. within P.tables (apply P k) (apply P k') k k' i (omega (arith, e, q)) (omega (arith, e', q)) (λ n s. apply-within P k k' n (omega (arith, e, q, s)) (omega (arith, e', q, s))) b i (omega arith) env [] [] [] [] u no_on no_handle r) p g vs w l

pub fuel-is-enough : FuelIsEnough
fuel-is-enough k m h P = ap (outcome_of identifier_of) (at_body P.funs)
  where
    at_body : (funs : List Fun) → or_fail (body_of funs) (begin P.tables m) (λ b. eval P.tables (apply P k) k b [] [] [] (begin P.tables m)) ≡ or_fail (body_of funs) (begin P.tables m) (λ b. eval P.tables (apply P m) m b [] [] [] (begin P.tables m))
    at_body [] = refl
    at_body (g ∷ funs) = one-answer (within P.tables (apply P m) (apply P k) m k m (omega arith) h (λ n s. apply-within P m k n s (omega (arith, h, s))) g.body m (omega arith) [] [] [] [] [] (begin P.tables m) no_on no_handle (omega arith))
