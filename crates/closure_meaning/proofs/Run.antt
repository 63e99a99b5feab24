-- Calls do the same, and so does the whole program.
use Rattle.std.proofs.Common.{◌≡◌, ℕ, zero, suc, List, [], ◌∷◌, Some, Bool, true, false, slice_get, refl, sym, ap, subst, ◌∙◌, arith}
use Rattle.mlc_runs.specs.Outcome.{wrong}
use Rattle.mlc_runs.specs.Run.{World, Answer, stops, went_wrong, out_of_turns, then_do, fail, or_fail, take_turn, start}
use Rattle.mlc_runs.specs.Agreement.{none}
use Rattle.mlc_runs.specs.Refinement.{both_stop, first_wrong}
use Rattle.mlc_base.specs.declared.place.Place.{Place}
use Rattle.mlc_runs.proofs.RefineLaws.{take_turn-refines, outcome_of-refines}
use Rattle.ir_values.specs.Values.{literal, record_of, con, con_of, exn, exn_of, ref, address, cell, primitive, closure, empty}
use Rattle.ir_plain.specs.Tree.{Fun, last, more}
use Rattle.ir_plain.specs.Meaning as src
use Rattle.ir_plain.specs.Meaning.{Code, alone, one_of, Apply}
use Rattle.ir_explicit.specs.of_ir_mono.Types.{IsTable}
use Rattle.ir_explicit.specs.of_ir_mono.Mono.{mono, Program}
use Rattle.ir_explicit.specs.Explicit.{enter_closure, apply_closures}
use Rattle.ir_explicit.specs.Explicit as explicit
use Rattle.ir_explicit.proofs.Never.{explicit-never-wrong, explicit-same}
use Rattle.first_values.specs.Values as cells
use Rattle.first_values.specs.Operations as op
use Rattle.ir_first.specs.Tree as out
use Rattle.ir_first.specs.Continued as tgt
use Rattle.ir_first.proofs.Settled.{meanings-are-one-unless-wrong}
use Rattle.closure_convert.specs.of_flow_sets.ByType.{by_type}
use Rattle.closure_convert.proofs.of_flow_sets.Known.{by-type-solves}
use Rattle.closure_convert.specs.of_flow_sets.Flow.{Flow, variable, result, at, number_of}
use Rattle.closure_convert.proofs.Numbered.{captures-are-right}
use Rattle.closure_convert.specs.Capture.{table_of}
use Rattle.closure_convert.specs.Scope.{Table, top}
use Rattle.closure_convert.specs.Closed.{scope_of, members}
use Rattle.closure_meaning.specs.Convert as conv
use Rattle.closure_meaning.specs.Convert.{Numbering, holder, follower, var}
use Rattle.closure_meaning.specs.Fits.{Setting, IsValue, FunFits}
use Rattle.closure_meaning.specs.Laws.{TagsApart, setting, MayConvert, ConversionKeeps, ConversionSame, ConversionByType}
use Rattle.closure_meaning.proofs.Related.{Val, IsOneOf, fun_of, group_of, code_number, Good, AllGood, Same, same_exn, same_exn_of, SameCaptured, Given, R, held}
use Rattle.closure_meaning.proofs.Known.{different, here, past, past-holder, known-body, stands}
use Rattle.closure_meaning.proofs.Performed.{T, Worlds, Re}
use Rattle.closure_meaning.proofs.Arms.{CallsSame}
use Rattle.closure_meaning.proofs.Keeps.{eval-same, body-same}
use Rattle.closure_meaning.proofs.Coded.{coded-program}

module _ (C : Setting) (all : List out.Fun) (sound : IsTable C.types) where
  abbrev V : Type 0
  V = Val C.types

  abbrev Env : Type 0
  Env = src.Scope (mono C.types)

  abbrev W : World V → World cells.Value → Type 0
  W = Worlds C all sound

  abbrev Q : List ℕ → Answer V V → cells.Run cells.Value → Type 0
  Q = Re C all sound

  abbrev Enter : Type 0
  Enter = Fun (mono C.types) → Env → V → World V → Answer V V

  -- what is bound when a body is entered
  abbrev entered : Bool → (g k : ℕ) → cells.Values → cells.Value → cells.Env
  entered q g k r a = cells.bind (var k) a (cells.bind (conv.self_name C.numbering C.types C.flow C.captures q) (cells.cell (C.numbering.tag k) (held q (C.numbering.tag g) r)) [])

  -- a function's body and its code
  abbrev Bodies : Enter → tgt.Evaluator → Type 0
  Bodies go ev = (q : Bool) (c : Code (mono C.types)) (g : ℕ) (env : Env) (r : cells.Values) (a : V) (a' : cells.Value) (w : World V) (u : World cells.Value) → Good C all q g (group_of C.types c) (fun_of C.types c) → AllGood C all true g (group_of C.types c) (group_of C.types c) → SameCaptured C all (C.captures.captured g) env r → Same C all a a' → IsOneOf C.types a (at C.flow (variable (code_number C.types c))) → W w u →
      Q (at C.flow (result (code_number C.types c))) (src.body go c env a w) (ev (conv.opening C.numbering C.types C.flow C.captures q (conv.body C.numbering C.types C.flow C.captures (scope_of (C.captures.captured g) (members C.types (group_of C.types c)) (code_number C.types c)) (fun_of C.types c))) (entered q g (code_number C.types c) r a') u fail)

  enter-same : (go : Enter) (ev : tgt.Evaluator) → Bodies go ev → CallsSame C all sound (enter_closure go) (tgt.enter all ev)
  enter-same go ev bodies = record { others = wrong_; functions = enters }
    where
      wrong_ : (p : Place) (v a : V) (w : World V) → Rattle.closure_meaning.proofs.Arms.is_closure C all sound v ≡ false → enter_closure go p v a w ≡ stops went_wrong w
      wrong_ p (closure c env) a w e = absurd (cc)
      wrong_ p (literal l) a w e = refl
      wrong_ p (record_of g fs) a w e = refl
      wrong_ p (con g c) a w e = refl
      wrong_ p (con_of g c v) a w e = refl
      wrong_ p (exn g i) a w e = refl
      wrong_ p (exn_of g i v) a w e = refl
      wrong_ p (ref g) a w e = refl
      wrong_ p (address n) a w e = refl
      wrong_ p (cell g v) a w e = refl
      wrong_ p (primitive g b) a w e = refl

      enters : (p : Place) (q : Bool) (c : Code (mono C.types)) (g : ℕ) (env : Env) (r : cells.Values) (a : V) (a' : cells.Value) (w : World V) (u : World cells.Value) → Good C all q g (group_of C.types c) (fun_of C.types c) → AllGood C all true g (group_of C.types c) (group_of C.types c) → SameCaptured C all (C.captures.captured g) env r → Same C all a a' → IsOneOf C.types a (at C.flow (variable (code_number C.types c))) → W w u →
          Q (at C.flow (result (code_number C.types c))) (enter_closure go p (closure c env) a w) (tgt.enter all ev p (C.numbering.function (code_number C.types c)) (cells.cell (C.numbering.tag (code_number C.types c)) (held q (C.numbering.tag g) r) ∷ a' ∷ []) u)
      enters p q c g env r a a' w u good all_good same_c same isin s =
          subst (λ o. Q (at C.flow (result (code_number C.types c))) (enter_closure go p (closure c env) a w) (or_fail o u (λ h. or_fail (cells.bind_all h.params (cells.cell (C.numbering.tag (code_number C.types c)) (held q (C.numbering.tag g) r) ∷ a' ∷ []) []) u (λ ρ. take_turn p u (λ z. ev h.body ρ z fail))))) (sym good.coded)
          (take_turn-refines (R C all) _ p w u (src.body go c env a) _ s (λ w' u' s'. bodies q c g env r a a' w' u' good all_good same_c same isin s'))

  -- a body runs in the environment of its group
  in-group : (go : Enter) (c : Code (mono C.types)) (env : Env) (a : V) (w : World V) → go (fun_of C.types c) (src.members (group_of C.types c) env) a w ≡ src.body go c env a w
  in-group go (alone f) env a w = refl
  in-group go (one_of f fs) env a w = refl

  value-parameter : (f : Fun (mono C.types)) → FunFits C f → IsValue C (number_of C.types f)
  value-parameter (last x t e) h = h.0
  value-parameter (more x t f) h = h.0

  abbrev B : Code (mono C.types) → ℕ → out.Exp
  B c g = conv.body C.numbering C.types C.flow C.captures (scope_of (C.captures.captured g) (members C.types (group_of C.types c)) (code_number C.types c)) (fun_of C.types c)

  -- the holder is there when the body begins
  bodies-same : (apart : TagsApart C.numbering C.flow) (ap1 : Apply (mono C.types)) (ap2 : Rattle.ir_first.specs.Meaning.Calls) → CallsSame C all sound ap1 ap2 → Bodies (src.run_fun ap1) (tgt.eval (T C all sound) ap2)
  bodies-same apart ap1 ap2 calls true c g env r a a' w u good all_good same_c same isin s =
      subst (λ x. Q (at C.flow (result (code_number C.types c))) x (tgt.eval (T C all sound) ap2 (conv.body C.numbering C.types C.flow C.captures (scope_of (C.captures.captured g) (members C.types (group_of C.types c)) (code_number C.types c)) (fun_of C.types c)) (entered true g (code_number C.types c) r a') u fail)) (in-group (src.run_fun ap1) c env a w)
      (body-same C all sound apart ap1 ap2 calls (fun_of C.types c) (src.members (group_of C.types c) env) a (entered true g (code_number C.types c) r a') w u good.solves good.inner good.fits g (group_of C.types c) good.closed
      (known-body C all g (group_of C.types c) env r (code_number C.types c) a a' (entered true g (code_number C.types c) r a') all_good same_c
      (past-holder (code_number C.types c) a' (cells.bind holder (cells.cell (C.numbering.tag (code_number C.types c)) r) []) ∙ (here holder (cells.cell (C.numbering.tag (code_number C.types c)) r) [] ∙ ap (λ k. Some (cells.cell (C.numbering.tag k) r)) (good.leads refl)))
      (here (var (code_number C.types c)) a' (cells.bind holder (cells.cell (C.numbering.tag (code_number C.types c)) r) [])) (stands C all (code_number C.types c) (value-parameter (fun_of C.types c) good.fits) same) isin) s)
  bodies-same apart ap1 ap2 calls false c g env r a a' w u good all_good same_c same isin s =
      subst (λ x. Q (at C.flow (result (code_number C.types c))) x (tgt.eval (T C all sound) ap2 (conv.opening C.numbering C.types C.flow C.captures false (B c g)) (entered false g (code_number C.types c) r a') u fail)) (in-group (src.run_fun ap1) c env a w)
      (subst (λ o. Q (at C.flow (result (code_number C.types c))) (src.run_fun ap1 (fun_of C.types c) (src.members (group_of C.types c) env) a w) (then_do (or_fail (cells.first_some o (Some [])) u (λ vs. op.perform (T C all sound) (op.field 0) vs u)) (λ v z. tgt.eval (T C all sound) ap2 (B c g) (cells.bind holder v (entered false g (code_number C.types c) r a')) z fail))) (sym follows_is)
      (body-same C all sound apart ap1 ap2 calls (fun_of C.types c) (src.members (group_of C.types c) env) a (cells.bind holder (cells.cell (C.numbering.tag g) r) (entered false g (code_number C.types c) r a')) w u good.solves good.inner good.fits g (group_of C.types c) good.closed
      (known-body C all g (group_of C.types c) env r (code_number C.types c) a a' (cells.bind holder (cells.cell (C.numbering.tag g) r) (entered false g (code_number C.types c) r a')) all_good same_c
      (here holder (cells.cell (C.numbering.tag g) r) (entered false g (code_number C.types c) r a'))
      (past (var (code_number C.types c)) holder (cells.cell (C.numbering.tag g) r) (entered false g (code_number C.types c) r a') (different (var (code_number C.types c)) holder (λ e. omega (arith, e))) ∙ here (var (code_number C.types c)) a' (cells.bind follower (cells.cell (C.numbering.tag (code_number C.types c)) (held false (C.numbering.tag g) r)) []))
      (stands C all (code_number C.types c) (value-parameter (fun_of C.types c) good.fits) same) isin) s))
    where
      follows_is : cells.look_up follower (entered false g (code_number C.types c) r a') ≡ Some (cells.cell (C.numbering.tag (code_number C.types c)) (cells.value (cells.cell (C.numbering.tag g) r) cells.no_values))
      follows_is = past follower (var (code_number C.types c)) a' (cells.bind follower (cells.cell (C.numbering.tag (code_number C.types c)) (cells.value (cells.cell (C.numbering.tag g) r) cells.no_values)) []) (different follower (var (code_number C.types c)) (λ e. omega (arith, e))) ∙ here follower (cells.cell (C.numbering.tag (code_number C.types c)) (cells.value (cells.cell (C.numbering.tag g) r) cells.no_values)) []

  identifier-same : (p : V) (q : cells.Value) (w : World V) (u : World cells.Value) (i : ℕ) → Same C all p q → W w u → src.identifier_of p w ≡ Some i → cells.identifier_of q u ≡ Some i
  identifier-same p q w u i (same_exn g n) s e = ap (λ l. slice_get l n) s.exceptions ∙ e
  identifier-same p q w u i (same_exn_of g n x j) s e = ap (λ l. slice_get l n) s.exceptions ∙ e
  identifier-same p q w u i _ s e = absurd (cc)

module _ (n : Numbering) (strings : List (List ℕ)) (flow : Flow) (captures : Table) (p : Program) (may : MayConvert n strings flow captures p) where
  abbrev C : Setting
  C = setting n strings flow captures p

  abbrev P : out.Program
  P = conv.program n strings flow captures p

  apply-same : (k : ℕ) → CallsSame C P.funs may.table (apply_closures k) (tgt.apply P k)
  apply-same zero = enter-same C P.funs may.table (λ f env v w. stops out_of_turns w) tgt.idle (λ q c g env r a a' w u good all_good same_c same isin s. stopped c env a w u s)
    where
      stopped : (c : Code (mono p.types)) (env : src.Scope (mono p.types)) (a : Val p.types) (w : World (Val p.types)) (u : World cells.Value) → Worlds C P.funs may.table w u → Re C P.funs may.table (at flow (result (code_number p.types c))) (src.body (λ f env v w. stops out_of_turns w) c env a w) (stops out_of_turns u)
      stopped (alone f) env a w u s = both_stop out_of_turns s
      stopped (one_of f fs) env a w u s = both_stop out_of_turns s
  apply-same (suc k) = enter-same C P.funs may.table (src.run_fun (apply_closures k)) (tgt.eval P.tables (tgt.apply P k)) (bodies-same C P.funs may.table may.apart (apply_closures k) (tgt.apply P k) (apply-same k))

  continued-same : (m : ℕ) → ((explicit.meaning p m).end ≡ wrong → ⊥) → tgt.meaning P m ≡ explicit.meaning p m
  continued-same m never = outcome_of-refines (R C P.funs) (Given C P.funs may.solves.0) src.identifier_of cells.identifier_of (λ a b w u i r s e. identifier-same C P.funs may.table a b w u i r.same s e)
      (eval-same C P.funs may.table may.apart (apply_closures m) (tgt.apply P m) (apply-same m) p.body may.solves.0 top empty [] (record (start m) { exceptions = p.initial }) (record (start m) { exceptions = p.initial }) fail fail
      may.solves.1 (coded-program C (record { params = []; body = conv.convert n p.types flow captures top p.body }) p.body may.numbered) may.closed may.fits (λ x h. absurd (cc)) (record { output = refl; left = refl; taken = refl; store = none; exceptions = refl }) (λ w' u' s'. first_wrong _)) never

pub conversion-keeps : ConversionKeeps
conversion-keeps n strings flow captures p may m never =
    let c : tgt.meaning (conv.program n strings flow captures p) m ≡ explicit.meaning p m = continued-same n strings flow captures p may m never in
    meanings-are-one-unless-wrong (conv.program n strings flow captures p) m (λ e. never (sym (ap (λ o. o.end) c) ∙ e)) ∙ c

pub conversion-same : ConversionSame
conversion-same n strings flow captures p h x may m = conversion-keeps n strings flow captures p may m (explicit-never-wrong p h x m) ∙ sym (explicit-same p h x m)

pub conversion-by-type : ConversionByType
conversion-by-type n strings p h x fits numbered apart m =
    conversion-same n strings (by_type p) (table_of p.types p.body) p h x (record { table = h.table; fits = fits; solves = by-type-solves p h; closed = captures-are-right p h; numbered = numbered; apart = apart }) m
