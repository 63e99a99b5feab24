-- The identifiers of the exceptions of a world are those that the program makes.
use Rattle.std.proofs.Common.{◌≡◌, refl, ℕ, zero, suc, Bool, true, false, if◌then◌else◌, List, [], ◌∷◌, ◌++◌, length, Option, Some, None, nat_eq, nat_lt, slice_get, subst, arith, length-append, append_assoc, get_or}
use Rattle.std.specs.Prelude.{slice_set, Contains}
use Rattle.std.specs.List.{AllByRecursion}
use Rattle.std.proofs.lemmas.List.{get_or_at}
use Rattle.mlc_base.specs.declared.place.Place.{Place}
use Rattle.mlc_runs.specs.Outcome.{uncaught}
use Rattle.mlc_runs.specs.Run.{World, Cut, out_of_turns, went_wrong, gives, raises, stops, or_fail, turn_from, writes, uncaught_end, outcome_of}
use Rattle.mlc_prims.specs.LitOf.{int, word, char, string, truth}
use Rattle.mlc_prims.specs.PrimOf.{Gives, made, raised}
use Rattle.first_values.specs.Values.{Value, literal, cell, reference, name, packet, values_of, Env, Run, bind, look_up, look_all, bind_all, gather, identifier_of, tag_of, at}
use Rattle.first_values.specs.Equality.{opaque, equal_at}
use Rattle.first_values.specs.Operations.{Plain, same, constant, field, refer, content, assign, exception, initial, pack, argument, compute, equal, print, Tables, literal_at, attempted, either_way, decide, called, raised_from, none, one, two, field_from, read, write, print_value, packet_of, argument_of, made_in, perform}
use Rattle.first_tables.specs.Exceptions.{made_by}
use Rattle.ir_ssa.specs.Tree.{Body, Bodies, Fun, Program, plain, make, attempt, turn, call, label, again, guard, goto, jump, branch, switch, tail, ret, raise, last, arm}
use Rattle.ir_ssa.specs.Meaning.{Onward, Handler, Calls, throw, then_go, at_top, go_to, may_turn, must_turn, spin, eval, eval_arm, Evaluator, enter, idle, apply, body_of, begin}
use Rattle.ssa_tree.specs.Exceptions.{makes, bodies_make, funs_make, exceptions}
use Rattle.ssa_exceptions.specs.Uncaught.{UncaughtIsMade}

module _ (P : ℕ → Type 0) where
  all-left : (xs ys : List ℕ) → AllByRecursion P (xs ++ ys) → AllByRecursion P xs
  all-left [] ys h = tt
  all-left (x ∷ xs) ys h = (h.0, all-left xs ys h.1)

  all-right : (xs ys : List ℕ) → AllByRecursion P (xs ++ ys) → AllByRecursion P ys
  all-right [] ys h = h
  all-right (x ∷ xs) ys h = all-right xs ys h.1

  all-both : (xs ys : List ℕ) → AllByRecursion P xs → AllByRecursion P ys → AllByRecursion P (xs ++ ys)
  all-both [] ys h k = k
  all-both (x ∷ xs) ys h k = (h.0, all-both xs ys h.1 k)

  all-at : (xs : List ℕ) (n i : ℕ) → AllByRecursion P xs → slice_get xs n ≡ Some i → P i
  all-at [] n i h e = absurd (cc)
  all-at (x ∷ xs) zero i h e = let same : x ≡ i = cc in subst P same h.0
  all-at (x ∷ xs) (suc n) i h e = all-at xs n i h.1 e

  -- the identifiers in a world are such
  abbrev Known : World Value → Type 0
  Known w = AllByRecursion P w.exceptions

  -- .. and in that of an answer
  data Fine : Run Value → Type 0 where
    fine_gives : (a : Value) (w : World Value) → Known w → Fine (gives a w)
    fine_raises : (p : Value) (w : World Value) → Known w → Fine (raises p w)
    fine_stops : (cut : Cut) (w : World Value) → Fine (stops cut w)

  abbrev FineOn : Onward → Type 0
  FineOn k = (t : Option Place) (vs : List Value) (w : World Value) → Known w → Fine (k t vs w)

  abbrev FineHandler : Handler → Type 0
  FineHandler h = (p : Value) (w : World Value) → Known w → Fine (h p w)

  data AllOn : List Onward → Type 0 where
    no_on : AllOn []
    on : {k : Onward} {ks : List Onward} → FineOn k → AllOn ks → AllOn (k ∷ ks)

  data AllHandle : List Handler → Type 0 where
    no_handle : AllHandle []
    handles : {h : Handler} {hs : List Handler} → FineHandler h → AllHandle hs → AllHandle (h ∷ hs)

  found-fine : {X : Type 0} (o : Option X) (w : World Value) (go : X → Run Value) → ((x : X) → Fine (go x)) → Fine (or_fail o w go)
  found-fine None w go h = fine_stops went_wrong w
  found-fine (Some x) w go h = h x

  if-fine : (b : Bool) {r q : Run Value} → Fine r → Fine q → Fine (if b then r else q)
  if-fine true h k = h
  if-fine false h k = k

  turn-fine : (n : ℕ) (place : Place) (w : World Value) (go : World Value → Run Value) → Known w → ((u : World Value) → Known u → Fine (go u)) → Fine (turn_from n place w go)
  turn-fine zero place w go h k = fine_stops out_of_turns w
  turn-fine (suc n) place w go h k = k (record w { left = n; taken = w.taken ++ place ∷ [] }) h

  may-fine : (t : Option Place) (w : World Value) (go : World Value → Run Value) → Known w → ((u : World Value) → Known u → Fine (go u)) → Fine (may_turn t w go)
  may-fine None w go h k = k w h
  may-fine (Some p) w go h k = turn-fine w.left p w go h k

  must-fine : (t : Option Place) (w : World Value) (go : World Value → Run Value) → Known w → ((u : World Value) → Known u → Fine (go u)) → Fine (must_turn t w go)
  must-fine None w go h k = fine_stops went_wrong w
  must-fine (Some p) w go h k = turn-fine w.left p w go h k

  throw-fine : {hs : List Handler} (p : Value) (w : World Value) → Known w → AllHandle hs → Fine (throw hs p w)
  throw-fine p w e no_handle = fine_raises p w e
  throw-fine p w e (handles h hs) = h p w e

  then-fine : {hs : List Handler} {r : Run Value} (go : Value → World Value → Run Value) → AllHandle hs → Fine r → ((v : Value) (u : World Value) → Known u → Fine (go v u)) → Fine (then_go hs r go)
  then-fine go hs (fine_gives a w e) k = k a w e
  then-fine go hs (fine_raises p w e) k = throw-fine p w e hs
  then-fine go hs (fine_stops cut w) k = fine_stops cut w

  top-fine : {hs : List Handler} (w : World Value) {r : Run Value} → AllHandle hs → Fine r → Fine (at_top hs w r)
  top-fine w no_handle h = h
  top-fine w (handles k ks) h = fine_stops went_wrong w

  goto-fine : {ks : List Onward} (l : ℕ) (t : Option Place) (vs : List Value) (w : World Value) → Known w → AllOn ks → Fine (go_to ks l t vs w)
  goto-fine l t vs w e no_on = fine_stops went_wrong w
  goto-fine zero t vs w e (on k ks) = k t vs w e
  goto-fine (suc l) t vs w e (on k ks) = goto-fine l t vs w e ks

  raised-fine : {hs : List Handler} (p : Value) (w : World Value) → Known w → AllHandle hs → Fine (raised_from p w (throw hs p w))
  raised-fine (packet n v) w e hs = throw-fine (packet n v) w e hs
  raised-fine (literal l) w e hs = fine_stops went_wrong w
  raised-fine (cell t vs) w e hs = fine_stops went_wrong w
  raised-fine (reference a) w e hs = fine_stops went_wrong w
  raised-fine (name n) w e hs = fine_stops went_wrong w

  way-fine : (g : Gives) (go other : Value → Run Value) → ((v : Value) → Fine (go v)) → ((v : Value) → Fine (other v)) → Fine (either_way g go other)
  way-fine (made l) go other h k = h _
  way-fine (raised e) go other h k = k _

  none-fine : (vs : List Value) (w : World Value) (r : Run Value) → Fine r → Fine (none vs w r)
  none-fine [] w r h = h
  none-fine (v ∷ vs) w r h = fine_stops went_wrong w

  one-fine : (vs : List Value) (w : World Value) (go : Value → Run Value) → ((v : Value) → Fine (go v)) → Fine (one vs w go)
  one-fine [] w go h = fine_stops went_wrong w
  one-fine (a ∷ []) w go h = h a
  one-fine (a ∷ b ∷ vs) w go h = fine_stops went_wrong w

  two-fine : (vs : List Value) (w : World Value) (go : Value → Value → Run Value) → ((v u : Value) → Fine (go v u)) → Fine (two vs w go)
  two-fine [] w go h = fine_stops went_wrong w
  two-fine (a ∷ []) w go h = fine_stops went_wrong w
  two-fine (a ∷ b ∷ []) w go h = h a b
  two-fine (a ∷ b ∷ c ∷ vs) w go h = fine_stops went_wrong w

  field-fine : (i : ℕ) (v : Value) (w : World Value) → Known w → Fine (field_from i v w)
  field-fine i (cell t vs) w e = found-fine (at i vs) w _ (λ v. fine_gives v w e)
  field-fine i (literal l) w e = fine_stops went_wrong w
  field-fine i (reference a) w e = fine_stops went_wrong w
  field-fine i (name n) w e = fine_stops went_wrong w
  field-fine i (packet n v) w e = fine_stops went_wrong w

  read-fine : (v : Value) (w : World Value) → Known w → Fine (read v w)
  read-fine (reference a) w e = found-fine (slice_get w.store a) w _ (λ v. fine_gives v w e)
  read-fine (literal l) w e = fine_stops went_wrong w
  read-fine (cell t vs) w e = fine_stops went_wrong w
  read-fine (name n) w e = fine_stops went_wrong w
  read-fine (packet n v) w e = fine_stops went_wrong w

  write-fine : (r v : Value) (w : World Value) → Known w → Fine (write r v w)
  write-fine (reference a) v w e = if-fine (nat_lt a (length w.store)) (fine_gives _ (record w { store = slice_set w.store a v }) e) (fine_stops went_wrong w)
  write-fine (literal l) v w e = fine_stops went_wrong w
  write-fine (cell t vs) v w e = fine_stops went_wrong w
  write-fine (name n) v w e = fine_stops went_wrong w
  write-fine (packet n u) v w e = fine_stops went_wrong w

  print-fine : (v : Value) (w : World Value) → Known w → Fine (print_value v w)
  print-fine (literal (string s)) w e = fine_gives _ (writes s w) e
  print-fine (literal (int z)) w e = fine_stops went_wrong w
  print-fine (literal (word n)) w e = fine_stops went_wrong w
  print-fine (literal (char n)) w e = fine_stops went_wrong w
  print-fine (literal (truth b)) w e = fine_stops went_wrong w
  print-fine (reference a) w e = fine_stops went_wrong w
  print-fine (cell t vs) w e = fine_stops went_wrong w
  print-fine (name n) w e = fine_stops went_wrong w
  print-fine (packet n u) w e = fine_stops went_wrong w

  pack-fine : (n v : Value) (w : World Value) → Known w → Fine (packet_of n v w)
  pack-fine (name n) v w e = fine_gives _ w e
  pack-fine (literal l) v w e = fine_stops went_wrong w
  pack-fine (reference a) v w e = fine_stops went_wrong w
  pack-fine (cell t vs) v w e = fine_stops went_wrong w
  pack-fine (packet n u) v w e = fine_stops went_wrong w

  argument-fine : (v : Value) (w : World Value) → Known w → Fine (argument_of v w)
  argument-fine (packet n v) w e = fine_gives _ w e
  argument-fine (name n) w e = fine_stops went_wrong w
  argument-fine (literal l) w e = fine_stops went_wrong w
  argument-fine (reference a) w e = fine_stops went_wrong w
  argument-fine (cell t vs) w e = fine_stops went_wrong w

  made-fine : (g : Gives) (w : World Value) → Known w → Fine (made_in g w)
  made-fine (made l) w e = fine_gives _ w e
  made-fine (raised x) w e = fine_stops went_wrong w

  -- an operation makes the exception that it is said to make
  perform-fine : (T : Tables) (p : Plain) → AllByRecursion P (made_by p) → (vs : List Value) (w : World Value) → Known w → Fine (perform T p vs w)
  perform-fine T same m vs w e = one-fine vs w _ (λ v. fine_gives v w e)
  perform-fine T (constant c) m vs w e = none-fine vs w _ (found-fine (literal_at T c) w _ (λ l. fine_gives _ w e))
  perform-fine T (field i) m vs w e = one-fine vs w _ (λ v. field-fine i v w e)
  perform-fine T refer m vs w e = one-fine vs w _ (λ v. fine_gives _ (record w { store = w.store ++ v ∷ [] }) e)
  perform-fine T content m vs w e = one-fine vs w _ (λ v. read-fine v w e)
  perform-fine T assign m vs w e = two-fine vs w _ (λ r v. write-fine r v w e)
  perform-fine T (exception identifier) m vs w e =
      none-fine vs w _ (fine_gives _ (record w { exceptions = w.exceptions ++ identifier ∷ [] }) (all-both w.exceptions (identifier ∷ []) e m))
  perform-fine T (initial n) m vs w e = none-fine vs w _ (found-fine (slice_get T.initial n) w _ (λ i. fine_gives _ w e))
  perform-fine T pack m vs w e = two-fine vs w _ (λ n v. pack-fine n v w e)
  perform-fine T argument m vs w e = one-fine vs w _ (λ p. argument-fine p w e)
  perform-fine T (compute k p) m vs w e = found-fine (attempted k p vs) w _ (λ g. made-fine g w e)
  perform-fine T (equal t) m vs w e = two-fine vs w _ (λ a b. found-fine (equal_at T.types (get_or T.types t opaque) a b) w _ (λ q. fine_gives _ w e))
  perform-fine T print m vs w e = one-fine vs w _ (λ v. print-fine v w e)

  spin-fine : (params : List ℕ) (env : Env) (go : Onward → Env → World Value → Run Value) (f : ℕ)
      → ((k : Onward) → FineOn k → (inner : Env) (w : World Value) → Known w → Fine (go k inner w)) → FineOn (spin params env go f)
  spin-fine params env go zero h t vs w e = found-fine (bind_all params vs env) w _ (λ inner. must-fine t w _ e (λ u k. fine_stops out_of_turns u))
  spin-fine params env go (suc f) h t vs w e =
      found-fine (bind_all params vs env) w _ (λ inner. must-fine t w _ e (λ u k. h (spin params env go f) (spin-fine params env go f h) inner u k))

  module _ (T : Tables) (calls : Calls) (f : ℕ) (called-fine : (p : Place) (g : ℕ) (vs : List Value) (w : World Value) → Known w → Fine (calls p g vs w)) where
    mutual
      fine : (b : Body) → AllByRecursion P (makes b) → (env : Env) (ks : List Onward) (hs : List Handler) (w : World Value) → AllOn ks → AllHandle hs → Known w
          → Fine (eval T calls f b env ks hs w)
      fine (plain p xs x b) m env ks hs w K H e =
          found-fine (look_all xs env) w _ (λ vs. then-fine _ H (perform-fine T p (all-left (made_by p) (makes b) m) vs w e)
          (λ v u q. fine b (all-right (made_by p) (makes b) m) (bind x v env) ks hs u K H q))
      fine (make t ps x b) m env ks hs w K H e = found-fine (gather ps env) w _ (λ vs. fine b m (bind x (cell t (values_of vs)) env) ks hs w K H e)
      fine (attempt o p xs x a b) m env ks hs w K H e =
          found-fine (look_all xs env) w _ (λ vs. found-fine (attempted o p vs) w _
          (λ g. way-fine g _ _ (λ v. fine a (all-right (makes b) (makes a) m) (bind x v env) ks hs w K H e) (λ q. fine b (all-left (makes b) (makes a) m) (bind x q env) ks hs w K H e)))
      fine (turn p b) m env ks hs w K H e = turn-fine w.left p w _ e (λ u k. fine b m env ks hs u K H k)
      fine (call p c xs x b) m env ks hs w K H e =
          found-fine (look_all xs env) w _ (λ vs. found-fine (called T c env vs) w _
          (λ g. then-fine _ H (called-fine p g.function g.arguments w e) (λ v u q. fine b m (bind x v env) ks hs u K H q)))
      fine (label params a b) m env ks hs w K H e =
          fine b (all-left (makes b) (makes a) m) env _ hs w
          (on (λ t vs u k. found-fine (bind_all params vs env) u _ (λ inner. may-fine t u _ k (λ z r. fine a (all-right (makes b) (makes a) m) inner ks hs z K H r))) K) H e
      fine (again params a b) m env ks hs w K H e =
          fine b (all-left (makes b) (makes a) m) env _ hs w
          (on (spin-fine params env _ f (λ k A inner u r. fine a (all-right (makes b) (makes a) m) inner (k ∷ ks) hs u (on A K) H r)) K) H e
      fine (guard n a y h) m env ks hs w K H e =
          fine a (all-left (makes a) (makes h) m) env _ _ w (on (λ t vs u k. goto-fine n t vs u k K) no_on)
          (handles (λ p u k. fine h (all-right (makes a) (makes h) m) (bind y p env) ks hs u K H k) H) e
      fine (goto n xs) m env ks hs w K H e = found-fine (look_all xs env) w _ (λ vs. goto-fine n None vs w e K)
      fine (jump p n xs) m env ks hs w K H e = found-fine (look_all xs env) w _ (λ vs. goto-fine n (Some p) vs w e K)
      fine (branch q xs a b) m env ks hs w K H e =
          found-fine (look_all xs env) w _ (λ vs. found-fine (decide T q vs) w _
          (λ c. if-fine c (fine a (all-left (makes a) (makes b) m) env ks hs w K H e) (fine b (all-right (makes a) (makes b) m) env ks hs w K H e)))
      fine (switch x bs) m env ks hs w K H e = found-fine (tag_of (look_up x env)) w _ (λ t. fine-arm t bs m env ks hs w K H e)
      fine (tail p c xs) m env ks hs w K H e =
          top-fine w H (found-fine (look_all xs env) w _ (λ vs. found-fine (called T c env vs) w _ (λ g. called-fine p g.function g.arguments w e)))
      fine (ret x) m env ks hs w K H e = top-fine w H (found-fine (look_up x env) w _ (λ v. fine_gives v w e))
      fine (raise x) m env ks hs w K H e = found-fine (look_up x env) w _ (λ p. raised-fine p w e H)

      fine-arm : (t : ℕ) (bs : Bodies) → AllByRecursion P (bodies_make bs) → (env : Env) (ks : List Onward) (hs : List Handler) (w : World Value) → AllOn ks → AllHandle hs
          → Known w → Fine (eval_arm T calls f t bs env ks hs w)
      fine-arm t (last b) m env ks hs w K H e = fine b m env ks hs w K H e
      fine-arm t (arm o b bs) m env ks hs w K H e =
          if-fine (nat_eq t o) (fine b (all-left (makes b) (bodies_make bs) m) env ks hs w K H e) (fine-arm t bs (all-right (makes b) (bodies_make bs) m) env ks hs w K H e)

  -- a function's body makes some of what all make
  fun-made : (funs : List Fun) (n : ℕ) (g : Fun) → AllByRecursion P (funs_make funs) → slice_get funs n ≡ Some g → AllByRecursion P (makes g.body)
  fun-made [] n g m e = absurd (cc)
  fun-made (f ∷ funs) zero g m e =
      let same : f ≡ g = cc in subst (λ z. AllByRecursion P (makes z.body)) same (all-left (makes f.body) (funs_make funs) m)
  fun-made (f ∷ funs) (suc n) g m e = fun-made funs n g (all-right (makes f.body) (funs_make funs) m) e

  found-as : {X : Type 0} (o : Option X) (w : World Value) (go : X → Run Value) → ((x : X) → o ≡ Some x → Fine (go x)) → Fine (or_fail o w go)
  found-as None w go h = fine_stops went_wrong w
  found-as (Some x) w go h = h x refl

  enter-fine : (funs : List Fun) (ev : Evaluator) → AllByRecursion P (funs_make funs)
      → ((b : Body) → AllByRecursion P (makes b) → (env : Env) (u : World Value) → Known u → Fine (ev b env [] [] u))
      → (p : Place) (g : ℕ) (vs : List Value) (w : World Value) → Known w → Fine (enter funs ev p g vs w)
  enter-fine funs ev m h p g vs w e =
      found-as (slice_get funs g) w _ (λ c is. found-fine (bind_all c.params vs []) w _ (λ env. turn-fine w.left p w _ e (λ u k. h c.body (fun-made funs g c m is) env u k)))

  apply-fine : (p : Program) (k : ℕ) → AllByRecursion P (funs_make p.funs) → (place : Place) (g : ℕ) (vs : List Value) (w : World Value) → Known w → Fine (apply p k place g vs w)
  apply-fine p zero m place g vs w e = enter-fine p.funs idle m (λ b r env u k. fine_stops out_of_turns u) place g vs w e
  apply-fine p (suc k) m place g vs w e =
      enter-fine p.funs (eval p.tables (apply p k) k) m
      (λ b r env u q. fine p.tables (apply p k) k (apply-fine p k m) b r env [] [] u no_on no_handle q) place g vs w e

  -- what ends it is known
  end-known : (r : Run Value) (i : ℕ) → Fine r → (outcome_of identifier_of r).end ≡ uncaught i → P i
  end-known _ i (fine_gives a w k) e = absurd (cc)
  end-known _ i (fine_stops out_of_turns w) e = absurd (cc)
  end-known _ i (fine_stops went_wrong w) e = absurd (cc)
  end-known _ i (fine_raises (packet n v) w k) e = by (slice_get w.exceptions n) refl e
    where
      by : (o : Option ℕ) → slice_get w.exceptions n ≡ o → uncaught_end o ≡ uncaught i → P i
      by None h g = absurd (cc)
      by (Some j) h g = let same : j ≡ i = cc in subst P same (all-at w.exceptions n j k h)
  end-known _ i (fine_raises (literal l) w k) e = absurd (cc)
  end-known _ i (fine_raises (cell t vs) w k) e = absurd (cc)
  end-known _ i (fine_raises (reference a) w k) e = absurd (cc)
  end-known _ i (fine_raises (name n) w k) e = absurd (cc)

-- each element is one
elements : (front xs : List ℕ) → AllByRecursion (Contains (front ++ xs)) xs
elements front [] = tt
elements front (x ∷ xs) = (
  (length front, omega (arith, length-append front (x ∷ xs)), get_or_at front x xs x (length front) refl),
  subst (λ l. AllByRecursion (Contains l) xs) (append_assoc front (x ∷ []) xs) (elements (front ++ x ∷ []) xs),
)

pub uncaught-is-made : UncaughtIsMade
uncaught-is-made p turns i e =
    let made = elements [] (exceptions p) in
    let at-first = all-left (Contains (exceptions p)) p.tables.initial (funs_make p.funs) made in
    let later = all-right (Contains (exceptions p)) p.tables.initial (funs_make p.funs) made in
    let one-of = Contains (exceptions p) in
    end-known one-of _ i
    (found-as one-of (body_of p.funs) (begin p.tables turns) _
    (λ b is. fine one-of p.tables (apply p turns) turns (apply-fine one-of p turns later) b (main-made p.funs b later is) [] [] [] (begin p.tables turns) no_on no_handle at-first))
    e
  where
    main-made : (funs : List Fun) (b : Body) → AllByRecursion (Contains (exceptions p)) (funs_make funs) → body_of funs ≡ Some b → AllByRecursion (Contains (exceptions p)) (makes b)
    main-made [] b m h = absurd (cc)
    main-made (g ∷ funs) b m h =
        let same : g.body ≡ b = cc in subst (λ z. AllByRecursion (Contains (exceptions p)) (makes z)) same (all-left (Contains (exceptions p)) (makes g.body) (funs_make funs) m)
