-- What is found in a body, and the arms of a switch: the simulation without recursion.
use Rattle.std.proofs.Common.{◌≡◌, ℕ, List, [], ◌∷◌, Option, Some, None, Bool, true, false, if◌then◌else◌, nat_eq, refl, sym, ap, subst, ◌∙◌}
use Rattle.std.specs.Prelude.{option_and_then}
use Rattle.mlc_runs.specs.Run.{World, Answer, stops, went_wrong, or_fail}
use Rattle.mlc_runs.specs.Refinement.{Refines, first_wrong}
use Rattle.mlc_base.specs.declared.place.Place.{Place}
use Rattle.mlc_prims.specs.LitOf.{Literal}
use Rattle.mlc_prims.specs.Table.{literal_eq}
use Rattle.ir_values.specs.Values.{exn, exn_of, con, con_of, closure, bind, cell, value_of}
use Rattle.ir_values.specs.Match.{matches, no_match, mismatch, Matched, after_match, where_same, against_literal, against_exn, under_exn, match_at, against_con, under_con, of_size, under_record}
use Rattle.ir_plain.specs.Tree.{Fun, last, more, Funs, no_funs, fun}
use Rattle.ir_plain.specs.Meaning as src
use Rattle.ir_plain.specs.Meaning.{Code, alone, one_of, look_up, Apply, Parts}
use Rattle.ir_explicit.specs.of_ir_mono.Types.{by_number, constructor_at, IsTable}
use Rattle.ir_explicit.specs.of_ir_mono.Mono.{mono, Mono}
use Rattle.first_values.specs.Values as cells
use Rattle.first_values.specs.Operations as op
use Rattle.ir_first.specs.Tree as out
use Rattle.ir_first.specs.Meaning.{Calls}
use Rattle.closure_convert.specs.of_flow_sets.Flow as spots
use Rattle.closure_convert.specs.of_flow_sets.Flow.{variable, result, at, number_of, Connects, SolvesRow, SolvesPrim, SolvesCase, Solves, SolvesArms, SolvesOp, SolvesFun, SolvesFuns}
use Rattle.closure_convert.proofs.of_flow_sets.Member.{nat_eq-to}
use Rattle.closure_convert.specs.Scope.{Scope}
use Rattle.closure_convert.specs.Closed.{IsLocal, members, leader, FunClosed, FunsClosed}
use Rattle.closure_meaning.specs.Convert as conv
use Rattle.closure_meaning.specs.Convert.{holder, follower, given, spare, var, access, con_tag}
use Rattle.closure_meaning.specs.Fits.{Setting, IsValue, IsName, IsConstant, FunFits, FunsFit}
use Rattle.closure_meaning.proofs.Related.{Val, IsOneOf, widen, of-none, fun_of, group_of, code_number, Coded, CodedArms, CodedOp, CodedFun, CodedFuns, CodedIn, Good, AllGood, Same, same_literal, same_record, same_con, same_con_of, same_exn, same_exn_of, same_ref, same_primitive, same_address, same_cell, same_closure, SameFields, no_fields_same, a_field_same, Stands, is_name, is_value, SameCaptured, Given, R}
use Rattle.closure_meaning.proofs.Related as rel
use Rattle.closure_meaning.proofs.Known.{Found, found, Known, local-known}
use Rattle.closure_meaning.proofs.Tags.{nat_eq-swap, tag-test-first}
use Rattle.closure_meaning.proofs.Performed.{T, Worlds, Re}

module _ (C : Setting) (all : List out.Fun) (sound : IsTable C.types) where
  abbrev pub V : Type 0
  V = Val C.types

  abbrev pub Env : Type 0
  Env = src.Scope (mono C.types)

  abbrev pub S : V → cells.Value → Type 0
  S = Same C all

  abbrev pub W : World V → World cells.Value → Type 0
  W = Worlds C all sound

  abbrev pub Q : List ℕ → Answer V V → cells.Run cells.Value → Type 0
  Q = Re C all sound

  abbrev pub K : Scope → Env → cells.Env → Type 0
  K = Known C all

  abbrev pub TT : op.Tables
  TT = T C all sound

  abbrev pub One : V → ℕ → Type 0
  One v x = IsOneOf C.types v (at C.flow (variable x))

  abbrev pub cv : Scope → Mono C.types → out.Exp
  cv s e = conv.convert C.numbering C.types C.flow C.captures s e

  abbrev pub is_closure : V → Bool
  is_closure (closure c env) = true
  is_closure _ = false

  -- calls that do the same
  pub record CallsSame (ap1 : Apply (mono C.types)) (ap2 : Calls) : Type 0 where
    pub others : (p : Place) (v a : V) (w : World V) → is_closure v ≡ false → ap1 p v a w ≡ stops went_wrong w
    pub functions : (p : Place) (q : Bool) (c : Code (mono C.types)) (g : ℕ) (env : Env) (r : cells.Values) (a : V) (a' : cells.Value) (w : World V) (u : World cells.Value) → Good C all q g (group_of C.types c) (fun_of C.types c) → AllGood C all true g (group_of C.types c) (group_of C.types c) → SameCaptured C all (C.captures.captured g) env r → S a a' → One a (code_number C.types c) → W w u →
        Q (at C.flow (result (code_number C.types c))) (ap1 p (closure c env) a w) (ap2 p (C.numbering.function (code_number C.types c)) (cells.cell (C.numbering.tag (code_number C.types c)) (rel.held q (C.numbering.tag g) r) ∷ a' ∷ []) u)

  pub good-of : (q : Bool) (g : ℕ) (fs : Funs (mono C.types)) (f : Fun (mono C.types)) → SolvesFun C.types C.flow f → CodedFun C all q g fs f → FunClosed C.types C.captures g (members C.types fs) f → FunFits C f → (q ≡ true → number_of C.types f ≡ g) → Good C all q g fs f
  good-of q g fs (last x t e) v c l i leads = record { coded = c.0; solves = v; inner = c.1; closed = l; fits = i; leads = leads }
  good-of q g fs (more x t f) v c l i leads = record { coded = c.0; solves = v; inner = c.1; closed = l; fits = i; leads = leads }

  pub all-good : (q : Bool) (g : ℕ) (fs rest : Funs (mono C.types)) → SolvesFuns C.types C.flow rest → CodedFuns C all q g fs rest → FunsClosed C.types C.captures g (members C.types fs) rest → FunsFit C rest → (q ≡ true → leader C.types rest ≡ g) → AllGood C all q g fs rest
  all-good q g fs no_funs v c l i leads = tt
  all-good q g fs (fun x t f rest) v c l i leads = ((v.0, i.0), (good-of q g fs f v.1.0 c.0 l.0 i.1.0 leads, all-good false g fs rest v.1.1 c.1 l.1 i.1.1 (λ e. absurd (cc))))

  -- what a variable is, by its sort
  pub as-value : {b : Bool} {v : V} {u : cells.Value} → b ≡ false → Stands C all b v u → S v u
  as-value e (is_value x) = x
  as-value e (is_name g i) = absurd (cc)

  pub data Named : V → cells.Value → Type 0 where
    named : (g i : ℕ) → Named (exn g i) (cells.name i)

  pub as-name : {b : Bool} {v : V} {u : cells.Value} → b ≡ true → Stands C all b v u → Named v u
  as-name e (is_name g i) = named g i
  as-name e (is_value x) = absurd (cc)

  pub name-stands : (x g i : ℕ) → IsName C x → Stands C all (C.numbering.is_name x) (exn g i) (cells.name i)
  name-stands x g i e = subst (λ b. Stands C all b (exn g i) (cells.name i)) (sym e) (is_name g i)

  -- what goes on with an atom
  pub with-value : {A B : Type 0} {G : A → B → Type 0} (s : Scope) (env : Env) (ρ : cells.Env) (x : ℕ) (w : World V) (go : V → Answer V A) {r' : Answer cells.Value B} → K s env ρ → IsLocal s x → IsValue C x → ((v : V) (v' : cells.Value) → cells.look_up (var x) ρ ≡ Some v' → S v v' → One v x → Refines (R C all) G (go v) r') → Refines (R C all) G (or_fail (look_up x env) w go) r'
  with-value {A} {B} {G} s env ρ x w go {r'} known l i h = pick (local-known C all s env ρ x known l)
    where
      pick : {o : Option V} → Found C all x o (cells.look_up (var x) ρ) → Refines (R C all) G (or_fail o w go) r'
      pick (found v v' is is' st isin) = subst (λ z. Refines (R C all) G (or_fail z w go) r') (sym is) (h v v' is' (as-value i st) isin)

  -- the same, where the source's look-up stands
  pub value-in : {A B : Type 0} {G : A → B → Type 0} (s : Scope) (env : Env) (ρ : cells.Env) (x : ℕ) (go : Option V → Answer V A) {r' : Answer cells.Value B} → K s env ρ → IsLocal s x → IsValue C x → ((v : V) (v' : cells.Value) → cells.look_up (var x) ρ ≡ Some v' → S v v' → One v x → Refines (R C all) G (go (Some v)) r') → Refines (R C all) G (go (look_up x env)) r'
  value-in {A} {B} {G} s env ρ x go {r'} known l i h = pick (local-known C all s env ρ x known l)
    where
      pick : {o : Option V} → Found C all x o (cells.look_up (var x) ρ) → Refines (R C all) G (go o) r'
      pick (found v v' is is' st isin) = subst (λ z. Refines (R C all) G (go z) r') (sym is) (h v v' is' (as-value i st) isin)

  -- and with a name, where the source's look-up stands
  pub with-name : {A B : Type 0} {G : A → B → Type 0} (s : Scope) (env : Env) (ρ : cells.Env) (x : ℕ) (go : Option V → Answer V A) {r' : Answer cells.Value B} → K s env ρ → IsLocal s x → IsName C x → ((g i : ℕ) → cells.look_up (var x) ρ ≡ Some (cells.name i) → Refines (R C all) G (go (Some (exn g i))) r') → Refines (R C all) G (go (look_up x env)) r'
  with-name {A} {B} {G} s env ρ x go {r'} known l i h = pick (local-known C all s env ρ x known l)
    where
      end : {v : V} {v' : cells.Value} → Named v v' → cells.look_up (var x) ρ ≡ Some v' → Refines (R C all) G (go (Some v)) r'
      end (named g i) is' = h g i is'

      pick : {o : Option V} → Found C all x o (cells.look_up (var x) ρ) → Refines (R C all) G (go o) r'
      pick (found v v' is is' st isin) = subst (λ z. Refines (R C all) G (go z) r') (sym is) (end (as-name i st) is')

  -- operands of the conversion
  pub one-there : (a : ℕ) (ρ : cells.Env) {v : cells.Value} → cells.look_up (var a) ρ ≡ Some v → cells.look_all (var a ∷ []) ρ ≡ Some (v ∷ [])
  one-there a ρ e = ap (λ o. cells.first_some o (Some [])) e

  pub two-there : (a b : ℕ) (ρ : cells.Env) {v z : cells.Value} → cells.look_up (var a) ρ ≡ Some v → cells.look_up (var b) ρ ≡ Some z → cells.look_all (var a ∷ var b ∷ []) ρ ≡ Some (v ∷ z ∷ [])
  two-there a b ρ {v} e f = ap (λ o. cells.first_some o (cells.first_some (cells.look_up (var b) ρ) (Some []))) e ∙ ap (λ o. cells.first_some (Some v) (cells.first_some o (Some []))) f

  -- An arm with a constructor

  pub data IsCon : (h d : ℕ) → V → cells.Values → Type 0 where
    alone_is : (h d : ℕ) → constructor_at C.types h d ≡ Some None → IsCon h d (con h d) cells.no_values
    with_is : (h d : ℕ) {a : ℕ} {v : V} {u : cells.Value} → constructor_at C.types h d ≡ Some (Some a) → S v u → IsOneOf C.types v (at C.flow (spots.argument h d)) → IsCon h d (con_of h d v) (cells.value u cells.no_values)

  pub record NotCon (v : V) : Type 0 where
    pub against : (t c : ℕ) (x : Matched ℕ (Code (mono C.types)) ℕ) → against_con (by_number C.types) t c v x ≡ mismatch
    pub under : (t c : ℕ) (go : V → Matched ℕ (Code (mono C.types)) ℕ) → under_con (by_number C.types) t c v go ≡ mismatch

  pub data View : V → cells.Value → Type 0 where
    view_con : {h d : ℕ} {v : V} {us : cells.Values} → IsCon h d v us → View v (cells.cell (con_tag C.types h d) us)
    view_other : {v : V} (u : cells.Value) → NotCon v → View v u

  pub view : {v : V} {u : cells.Value} → S v u → View v u
  view (same_con h d e) = view_con (alone_is h d e)
  view (same_con_of h d e x i) = view_con (with_is h d e x i)
  view _ = view_other _ (record { against = λ t c x. refl; under = λ t c go. refl })

  -- which of two ways, by the constructors
  pub con-test : {ks : List ℕ} (t h c d : ℕ) {o : Option ℕ} (w : World V) (mt : Matched ℕ (Code (mono C.types)) ℕ) (go : Env → World V → Answer V V) (other : World V → Answer V V) {A B : cells.Run cells.Value} → constructor_at C.types h d ≡ Some o → (t ≡ h → c ≡ d → Q ks (after_match mt w go other) A) → Q ks (other w) B →
      Q ks (after_match (match_at (by_number C.types) t h (if nat_eq c d then mt else no_match)) w go other) (if nat_eq (con_tag C.types h d) (con_tag C.types t c) then A else B)
  con-test {ks = ks} t h c d w mt go other {A} {B} e x y = go1 (nat_eq t h) (nat_eq-to t h)
    where
      go2 : (b : Bool) → (b ≡ true → c ≡ d) → t ≡ h → Q ks (after_match (if b then mt else no_match) w go other) (if b then A else B)
      go2 true f k = x k (f refl)
      go2 false f k = y

      go1 : (b : Bool) → (b ≡ true → t ≡ h) → Q ks (after_match (if b then (if nat_eq c d then mt else no_match) else mismatch) w go other) (if nat_eq (con_tag C.types h d) (con_tag C.types t c) then A else B)
      go1 false f = first_wrong _
      go1 true f = subst (λ b. Q ks (after_match (if nat_eq c d then mt else no_match) w go other) (if b then A else B)) (sym (ap (λ z. nat_eq (con_tag C.types h d) (con_tag C.types z c)) (f refl) ∙ (tag-test-first C.types h d c e ∙ nat_eq-swap d c))) (go2 (nat_eq c d) (nat_eq-to c d) (f refl))

  pub alone-arm : {ks : List ℕ} {h d : ℕ} {v : V} {us : cells.Values} (t c : ℕ) (env : Env) (w : World V) (go : Env → World V → Answer V V) (other : World V → Answer V V) {A B : cells.Run cells.Value} → IsCon h d v us → Q ks (go env w) A → Q ks (other w) B → Q ks (after_match (against_con (by_number C.types) t c v (matches env)) w go other) (if nat_eq (con_tag C.types h d) (con_tag C.types t c) then A else B)
  alone-arm t c env w go other (alone_is h d e) x y = con-test t h c d w (matches env) go other e (λ p q. x) y
  alone-arm t c env w go other (with_is h d e s i) x y = con-test t h c d w mismatch go other e (λ p q. first_wrong _) y

  pub with-arm : {ks : List ℕ} {h d : ℕ} {v : V} {us : cells.Values} (t c x : ℕ) (env : Env) (w : World V) (go : Env → World V → Answer V V) (other : World V → Answer V V) {A B : cells.Run cells.Value} → IsCon h d v us → ((a : V) (a' : cells.Value) → us ≡ cells.value a' cells.no_values → S a a' → IsOneOf C.types a (at C.flow (spots.argument t c)) → Q ks (go (bind x a env) w) A) → Q ks (other w) B → Q ks (after_match (under_con (by_number C.types) t c v (λ a. matches (bind x a env))) w go other) (if nat_eq (con_tag C.types h d) (con_tag C.types t c) then A else B)
  with-arm t c x env w go other (alone_is h d e) k y = con-test t h c d w mismatch go other e (λ p q. first_wrong _) y
  with-arm t c x env w go other (with_is h d {v = a} {u = a'} e s i) k y = con-test t h c d w (matches (bind x a env)) go other e (λ p q. k a a' refl s (subst (λ z. IsOneOf C.types a (at C.flow (spots.argument z c))) (sym p) (subst (λ z. IsOneOf C.types a (at C.flow (spots.argument h z))) (sym q) i))) y

  -- Tests of literals, packets and records

  pub literal-arm : {ks : List ℕ} (l : Literal) {v : V} {v' : cells.Value} (env : Env) (w : World V) (u : World cells.Value) (go : Env → World V → Answer V V) (other : World V → Answer V V) {A B : cells.Run cells.Value} → IsConstant C l → S v v' → Q ks (go env w) A → Q ks (other w) B → Q ks (after_match (against_literal l v (matches env)) w go other) (or_fail (op.decide TT (op.is (conv.constant C.numbering l)) (v' ∷ [])) u (λ b. if b then A else B))
  literal-arm {ks} l env w u go other {A} {B} fits (same_literal k) x y = subst (λ o. Q ks (after_match (where_same (literal_eq l k) (matches env)) w go other) (or_fail (option_and_then (λ z. literal_eq z k) o) u (λ b. if b then A else B))) (sym fits) (pick (literal_eq l k))
    where
      pick : (o : Option Bool) → Q ks (after_match (where_same o (matches env)) w go other) (or_fail o u (λ b. if b then A else B))
      pick None = first_wrong _
      pick (Some true) = x
      pick (Some false) = y
  literal-arm l env w u go other fits _ x y = first_wrong _

  pub exn-arm : {ks : List ℕ} (g i : ℕ) {v : V} {v' : cells.Value} (env : Env) (w : World V) (u : World cells.Value) (go : Env → World V → Answer V V) (other : World V → Answer V V) {A B : cells.Run cells.Value} → S v v' → Q ks (go env w) A → Q ks (other w) B → Q ks (after_match (against_exn (Some (exn g i)) v (matches env)) w go other) (or_fail (op.decide TT op.is_of (v' ∷ cells.name i ∷ [])) u (λ b. if b then A else B))
  exn-arm {ks} g i env w u go other {A} {B} (same_exn h j) x y = subst (λ b. Q ks (after_match (if nat_eq i j then matches env else no_match) w go other) (if b then A else B)) (nat_eq-swap i j) (pick (nat_eq i j))
    where
      pick : (b : Bool) → Q ks (after_match (if b then matches env else no_match) w go other) (if b then A else B)
      pick true = x
      pick false = y
  exn-arm {ks} g i env w u go other {A} {B} (same_exn_of h j s is) x y = subst (λ b. Q ks (after_match (if nat_eq i j then mismatch else no_match) w go other) (if b then A else B)) (nat_eq-swap i j) (pick (nat_eq i j))
    where
      pick : (b : Bool) → Q ks (after_match (if b then mismatch else no_match) w go other) (if b then A else B)
      pick true = first_wrong _
      pick false = y
  exn-arm g i env w u go other _ x y = first_wrong _

  pub packet-arm : {ks : List ℕ} (t z i x : ℕ) {v : V} {v' : cells.Value} (env : Env) (w : World V) (u : World cells.Value) (go : Env → World V → Answer V V) (other : World V → Answer V V) {A B : cells.Run cells.Value} → S v v' → ((a : V) (a' : cells.Value) (j : ℕ) → v' ≡ cells.packet j a' → S a a' → IsOneOf C.types a (at C.flow (spots.carried t)) → Q ks (go (bind x a env) w) A) → Q ks (other w) B → Q ks (after_match (under_exn (by_number C.types) t (Some (exn z i)) v (λ a. matches (bind x a env))) w go other) (or_fail (op.decide TT op.is_of (v' ∷ cells.name i ∷ [])) u (λ b. if b then A else B))
  packet-arm {ks} t z i x env w u go other {A} {B} (same_exn h j) k y = subst (λ b. Q ks (after_match (if nat_eq i j then mismatch else no_match) w go other) (if b then A else B)) (nat_eq-swap i j) (pick (nat_eq i j))
    where
      pick : (b : Bool) → Q ks (after_match (if b then mismatch else no_match) w go other) (if b then A else B)
      pick true = first_wrong _
      pick false = y
  packet-arm {ks} t z i x env w u go other {A} {B} (same_exn_of h j {v = a} {u = a'} s is) k y = subst (λ b. Q ks (after_match (if nat_eq i j then match_at (by_number C.types) t h (matches (bind x a env)) else no_match) w go other) (if b then A else B)) (nat_eq-swap i j) (pick (nat_eq i j))
    where
      at-type : (b : Bool) → (b ≡ true → t ≡ h) → Q ks (after_match (if b then matches (bind x a env) else mismatch) w go other) A
      at-type true e = k a a' j refl s (subst (λ q. IsOneOf C.types a (at C.flow (spots.carried q))) (sym (e refl)) is)
      at-type false e = first_wrong _

      pick : (b : Bool) → Q ks (after_match (if b then match_at (by_number C.types) t h (matches (bind x a env)) else no_match) w go other) (if b then A else B)
      pick true = at-type (nat_eq t h) (nat_eq-to t h)
      pick false = y
  packet-arm t z i x env w u go other _ k y = first_wrong _

  pub record-arm : {ks : List ℕ} (t : ℕ) (size : Option ℕ) {v : V} {v' : cells.Value} (env : Env) (w : World V) (go : Env → World V → Answer V V) (other : World V → Answer V V) {A : cells.Run cells.Value} → S v v' → Q ks (go env w) A → Q ks (after_match (under_record (by_number C.types) t size v (λ fs. matches env)) w go other) A
  record-arm {ks} t size env w go other {A} (same_record h {fs = fs} is d sf) x = at-type (nat_eq t h)
    where
      sized : (b : Bool) → Q ks (after_match (if b then matches env else mismatch) w go other) A
      sized true = x
      sized false = first_wrong _

      of-size : (o : Option ℕ) → Q ks (after_match (of_size (by_number C.types) o (Rattle.ir_values.specs.Values.count fs) (matches env)) w go other) A
      of-size None = x
      of-size (Some k) = sized (nat_eq k (Rattle.ir_values.specs.Values.count fs))

      at-type : (b : Bool) → Q ks (after_match (if b then of_size (by_number C.types) size (Rattle.ir_values.specs.Values.count fs) (matches env) else mismatch) w go other) A
      at-type true = of-size size
      at-type false = first_wrong _
  record-arm t size env w go other _ x = first_wrong _
