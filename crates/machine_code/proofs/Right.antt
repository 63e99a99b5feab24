-- The code of a program does what the program does.
use Rattle.std.proofs.Common.{◌≡◌, ℕ, zero, suc, ◌+◌, ◌<◌, ◌≤◌, ◌^◌, List, [], ◌∷◌, ◌++◌, length, map, Option, Some, None, Bool, true, false, ◌&&◌, refl, sym, ap, ◌∙◌, subst, ⊎_elim, arith, length-append, replicate, get_or}
use Rattle.std.specs.Prelude.{slice_get, slice_index, nat_eq, nat_lt, if◌then◌else◌}
use Rattle.std.proofs.lemmas.Bool.{lt-ltb}
use Rattle.std.proofs.lemmas.List.{length-replicate}
use Rattle.ir_code.specs.declared.instr.Instr.{Instr}
use Rattle.ir_code.specs.declared.instr.Instr.TheVariants.{Call as CallRow, End, Raise, Jmp}
use Rattle.ir_code.specs.declared.halt.Halt.{Halt}
use Rattle.ir_code.specs.declared.halt.Halt.TheVariants.{Uncaught, NoStack}
use Rattle.ir_code.specs.Machine.{State, Goes, Halts, act, step, then_on, check, start, run, no_handler, string_at, name_at, has_bytes, has_string, all_bytes}
use Rattle.ir_code.specs.Laws.{ControlLaws, MemoryLaws, ArithmeticLaws, KeepLaws, IsSound}
use Rattle.ir_code.specs.Run.{RunResult, end_of, result_of, run_of}
use Rattle.mlc_runs.specs.Run.{World, gives, raises, stops, out_of_turns, went_wrong, fail, or_fail, take_turn, outcome_of, uncaught_end}
use Rattle.mlc_runs.specs.Run as world
use Rattle.mlc_base.specs.declared.place.Place.{Place}
use Rattle.ir_ssa.specs.of_first_values.Values.{Value, literal, cell, reference, name, packet, Run, Env, bind_all, identifier_of}
use Rattle.ir_ssa.specs.of_first_values.Equality.{Shape}
use Rattle.ir_ssa.specs.of_first_values.Operations.{Member, Tables, member_at}
use Rattle.ir_ssa.specs.Tree.{Fun, Program}
use Rattle.ir_ssa.specs.Meaning.{Evaluator, enter, idle, eval, apply, body_of, begin, meaning}
use Rattle.ir_ssa.specs.WellFormed.{IsWellFormed, arity}
use Rattle.machine_routines.specs.Layout.{Word, TextAt, Shows}
use Rattle.machine_routines.specs.Runs.{HasAt, Leads}
use Rattle.machine_routines.specs.EqualCode.{shape_size, shape_code, shapes_code, equal_code}
use Rattle.machine_routines.specs.FindCode.{Target, Way, by_table, by_search, Search, only, exactly, node, search_size, search_code, jumps, way_size, way_code}
use Rattle.machine_routines.proofs.Seams.{has_front, has_back, has_all, get_left, get_within, index_of}
use Rattle.machine_routines.proofs.LayoutLemmas.{text_string}
use Rattle.machine_routines.proofs.Stands.{shape_length}
use Rattle.machine_routines.proofs.Leads.{trans}
use Rattle.same_runs.specs.SameRuns.{both_ended, both_uncaught, SameResult, of_heap, of_stack}
use Rattle.same_runs.specs.SameRuns as same
use Rattle.same_runs.specs.Follows.{Follows, has_ended, is_going}
use Rattle.same_runs.specs.Follows as follows
use Rattle.machine_code.specs.Agrees.{AreAll, more}
use Rattle.machine_code.specs.Rows.{Rows, AreRight}
use Rattle.machine_code.specs.Code.{Places, with_params, code_at}
use Rattle.machine_code.specs.Image.{text_of, fun_size, funs_size, fun_place, funs_code, params_of, widest, placed, set_way, set_code, set_size, sets_code, set_place, shapes_size, funs_at, sets_at, fun_at, most_code, constants_of, places_of, code_of, image_of}
use Rattle.machine_code.specs.Law.{IsFit}
use Rattle.machine_code.proofs.RoutineLaws.{RoutineLaws}
use Rattle.machine_code.proofs.Grows.{out_of, apply_grows}
use Rattle.machine_code.proofs.Kept.{begins_refl, all_length, agrees_length, shown, name_word}
use Rattle.machine_code.proofs.Sim.{IsExhausted, no_heap, no_stack, Call, state_at, Sim, returns, raises_it, goes_on, is_cut, is_wrong, is_huge, before, one, some as some_steps, cut_by}
use Rattle.machine_code.proofs.Vars.{Scoped, no_vars, Bound, unbound, all_bound, bind_params}
use Rattle.machine_code.proofs.Primitives.{Stands}
use Rattle.machine_code.proofs.Sizes.{code_length}
use Rattle.machine_code.proofs.Here.{no_labels, turn_sim}
use Rattle.machine_code.proofs.Bodies.{FunsFollow, SetsFollow, body_follows}
use Rattle.machine_code.proofs.Sets.{Enters, enters, no_stack_for, set_enters, member_placed, placed_rises, rise_at}
use Rattle.machine_code.proofs.Constants.{AreBytes, all_bytes_of, first_lay, texts_stand, names_stand, first_names_stand, packets_stand, no_references_stand, constants_agree}

-- Functions and sets stand at their places.

funs_length : (at : Places) (right : AreRight at.rows) (pc : ℕ) (funs : List Fun) → length (funs_code at pc funs) ≡ funs_size at.rows at.types funs
funs_length at right pc [] = refl
funs_length at right pc (g ∷ funs) =
    let c = code_at at pc (length g.params) (with_params g.params 0 []) [] g.body in
    omega (arith, length-append c (funs_code at (pc + fun_size at.rows at.types g) funs), code_length at right g.body pc (length g.params) (with_params g.params 0 []) [], funs_length at right (pc + fun_size at.rows at.types g) funs)

funs_stand : (code : List Instr) (at : Places) (right : AreRight at.rows) (pc : ℕ) (funs : List Fun) (i : ℕ) (g : Fun) → HasAt code pc (funs_code at pc funs) → slice_get funs i ≡ Some g → HasAt code (fun_place at.rows at.types pc funs i) (code_at at (fun_place at.rows at.types pc funs i) (length g.params) (with_params g.params 0 []) [] g.body)
funs_stand code at right pc [] i g has e = absurd (cc)
funs_stand code at right pc (f ∷ funs) zero g has e =
    let same : f ≡ g = cc in
    subst (λ h. HasAt code pc (code_at at pc (length h.params) (with_params h.params 0 []) [] h.body)) same (has_front code pc (code_at at pc (length f.params) (with_params f.params 0 []) [] f.body) _ has)
funs_stand code at right pc (f ∷ funs) (suc i) g has e =
    funs_stand code at right (pc + fun_size at.rows at.types f) funs i g (has_back code pc (pc + fun_size at.rows at.types f) (code_at at pc (length f.params) (with_params f.params 0 []) [] f.body) _ (omega (arith, code_length at right f.body pc (length f.params) (with_params f.params 0 []) [])) has) e

jumps_length : (set : List Target) (p i n : ℕ) → length (jumps set p i n) ≡ n
jumps_length set p i zero = refl
jumps_length set p i (suc n) = ap suc (jumps_length set p (suc i) n)

search_length : (pc k e p : ℕ) (s : Search) → length (search_code pc k e p s) ≡ search_size s
search_length pc k e p (only q) = refl
search_length pc k e p (exactly u q) = refl
search_length pc k e p (node c a b) =
    let l = search_code (pc + 3) k e p a in let r = search_code (pc + 3 + search_size a) k e p b in
    omega (arith, length-append l r, search_length (pc + 3) k e p a, search_length (pc + 3 + search_size a) k e p b)

way_length : (set : List Target) (pc k e p : ℕ) (w : Way) → length (way_code set pc k e p w) ≡ way_size w
way_length set pc k e p (by_table n) = omega (arith, length-append (jumps set p 0 n) (Jmp p ∷ []), jumps_length set p 0 n)
way_length set pc k e p (by_search s) = search_length pc k e p s

set_length : (pc k : ℕ) (set : List Target) → length (set_code pc k set) ≡ set_size set
set_length pc k set = omega (arith, way_length set (pc + 2) (k + 2) (k + 3) 0 (set_way set))

sets_stand : (code : List Instr) (funs : List Fun) (fun_at : ℕ → ℕ) (pc : ℕ) (sets : List (List Member)) (i t q : ℕ) → HasAt code pc (sets_code funs fun_at pc sets) → member_at t (get_or sets i []) ≡ Some q → HasAt code (set_place funs fun_at pc sets i) (set_code (set_place funs fun_at pc sets i) (widest funs (get_or sets i [])) (placed fun_at (get_or sets i [])))
sets_stand code funs fun_at pc [] i t q has e = absurd (cc)
sets_stand code funs fun_at pc (s ∷ sets) zero t q has e = has_front code pc (set_code pc (widest funs s) (placed fun_at s)) _ has
sets_stand code funs fun_at pc (s ∷ sets) (suc i) t q has e =
    sets_stand code funs fun_at (pc + set_size (placed fun_at s)) sets i t q (has_back code pc (pc + set_size (placed fun_at s)) (set_code pc (widest funs s) (placed fun_at s)) _ (omega (arith, set_length pc (widest funs s) (placed fun_at s))) has) e

params_are : (funs : List Fun) (i : ℕ) (g : Fun) → slice_get funs i ≡ Some g → params_of funs i ≡ length g.params
params_are [] i g e = absurd (cc)
params_are (f ∷ funs) zero g e = let same : f ≡ g = cc in ap (λ h. length h.params) same
params_are (f ∷ funs) (suc i) g e = params_are funs i g e

-- no member has more parameters
widest_of : (funs : List Fun) (t q : ℕ) (set : List Member) → member_at t set ≡ Some q → params_of funs q ≤ widest funs set
widest_of funs t q [] e = absurd (cc)
widest_of funs t q (m ∷ ms) e = by (nat_eq t m.tag) e (λ g. widest_of funs t q ms g)
  where
    by : (b : Bool) → (if b then Some m.function else member_at t ms) ≡ Some q → (member_at t ms ≡ Some q → params_of funs q ≤ widest funs ms) → params_of funs q ≤ widest funs (m ∷ ms)
    by true e later = let same : m.function ≡ q = cc in let n = ap (λ z. params_of funs z) same in omega (arith, n)
    by false e later = let h = later e in omega (arith, h)

bind_length : (params : List ℕ) (vs : List Value) (env env' : Env) → bind_all params vs env ≡ Some env' → length vs ≡ length params
bind_length [] [] env env' e = refl
bind_length [] (v ∷ vs) env env' e = absurd (cc)
bind_length (x ∷ params) [] env env' e = absurd (cc)
bind_length (x ∷ params) (v ∷ vs) env env' e = ap suc (bind_length params vs _ env' e)

shapes_length : (shapes ss : List Shape) (o : ℕ) → length (shapes_code shapes 2 most_code o ss) ≡ shapes_size shapes ss
shapes_length shapes [] o = refl
shapes_length shapes (s ∷ ss) o = omega (arith, length-append (shape_code shapes 2 most_code o s) (shapes_code shapes 2 most_code (o + shape_size shapes s) ss), shape_length shapes 2 most_code o s, shapes_length shapes ss (o + shape_size shapes s))

-- A program's code.

-- the ends of a machine that is exhausted
exhausted_end : (o : Option Halt) (s : State) → IsExhausted o → same.IsExhausted (end_of o s)
exhausted_end o s no_heap = of_heap
exhausted_end o s no_stack = of_stack

no_params : (funs : List Fun) (g : Fun) → slice_get (map arity funs) 0 ≡ Some 0 → slice_get funs 0 ≡ Some g → g.params ≡ []
no_params [] g e h = absurd (cc)
no_params (f ∷ funs) g e h = let same : f ≡ g = cc in subst (λ z. z.params ≡ []) same (empty f.params (let n : length f.params ≡ 0 = cc in n))
  where
    empty : (xs : List ℕ) → length xs ≡ 0 → xs ≡ []
    empty [] e = refl
    empty (x ∷ xs) e = absurd (omega arith)

module _ (C : ControlLaws) (M : MemoryLaws) (A : ArithmeticLaws) (N : RoutineLaws) (K : KeepLaws) (rows : Rows) (right : AreRight rows) (texts : List (List ℕ)) (p : Program) (well : IsWellFormed p) (fit : IsFit rows texts p) where
  abbrev code : List Instr
  code = code_of rows texts p

  abbrev constants : List ℕ
  constants = constants_of rows texts p

  abbrev strings_are : AreBytes p.tables.strings
  strings_are = all_bytes_of p.tables.strings well.tables.strings

  abbrev lay0 : List Word
  lay0 = first_lay rows texts p strings_are fit.bytes well.tables.initial

  abbrev text : ℕ → List ℕ
  text = text_of texts

  abbrev T : Tables
  T = p.tables

  abbrev places : Places
  places = places_of rows texts p

  abbrev fun_places : ℕ → ℕ
  fun_places = fun_at rows texts p

  equal_length : length (equal_code T.types 2 most_code) ≡ 8 + shapes_size T.types T.types
  equal_length = omega (arith, shapes_length T.types T.types 2)

  code_there : HasAt code 2 (equal_code T.types 2 most_code ++ (funs_code places (funs_at rows texts p) p.funs ++ sets_code p.funs fun_places (sets_at rows texts p) T.sets))
  code_there = has_back code 0 2 (CallRow (fun_places 0) 0 ∷ End ∷ []) (equal_code T.types 2 most_code ++ (funs_code places (funs_at rows texts p) p.funs ++ sets_code p.funs fun_places (sets_at rows texts p) T.sets)) refl (has_all code [])

  stands : Stands code lay0 text T places
  stands = record {
    no_references = no_references_stand rows texts p strings_are fit.bytes well.tables.initial;
    zero_there = refl;
    one_there = refl;
    texts = texts_stand rows texts p strings_are fit.bytes well.tables.initial;
    texts_of = names_stand rows texts p strings_are fit.bytes well.tables.initial;
    first_names = first_names_stand rows texts p strings_are fit.bytes well.tables.initial;
    packets = packets_stand rows texts p strings_are fit.bytes well.tables.initial;
    right = right;
    start = 2;
    most = most_code;
    few = fit.fits;
    compares = has_front code 2 (equal_code T.types 2 most_code) _ code_there;
    same_types = refl;
    types = λ t. refl;
  }

  after_equal : HasAt code (funs_at rows texts p) (funs_code places (funs_at rows texts p) p.funs ++ sets_code p.funs fun_places (sets_at rows texts p) T.sets)
  after_equal = has_back code 2 (funs_at rows texts p) (equal_code T.types 2 most_code) _ (omega (arith, equal_length)) code_there

  funs_there : HasAt code (funs_at rows texts p) (funs_code places (funs_at rows texts p) p.funs)
  funs_there = has_front code (funs_at rows texts p) (funs_code places (funs_at rows texts p) p.funs) _ after_equal

  sets_there : HasAt code (sets_at rows texts p) (sets_code p.funs fun_places (sets_at rows texts p) T.sets)
  sets_there = has_back code (funs_at rows texts p) (sets_at rows texts p) (funs_code places (funs_at rows texts p) p.funs) _ (omega (arith, funs_length places right (funs_at rows texts p) p.funs)) after_equal

  abbrev base : ℕ
  base = length lay0

  abbrev S : State → World Value → Call → List Word → Run Value → Type 0
  S s w f lay r = Sim text code base s w f lay r

  enter_sim : (ev : Evaluator) (place : Place) (fn : ℕ) (vs : List Value) (words : List ℕ) (w : World Value) (s t : State) (f : Call) (lay : List Word) → AreAll lay vs words → (a : Leads code s t) → 0 < a.steps
      → ((g : Fun) (env : Env) (j : ℕ) → slice_get p.funs fn ≡ Some g → length words ≡ length g.params → Scoped lay words (with_params g.params 0 []) env → suc j ≡ w.left → S t (record w { left = j; taken = w.taken ++ place ∷ [] }) f lay (ev g.body env [] [] (record w { left = j; taken = w.taken ++ place ∷ [] })))
      → S s w f lay (enter p.funs ev place fn vs w)
  enter_sim ev place fn vs words w s t f lay all a pos h = by_fun (slice_get p.funs fn) refl
    where
      by_env : (g : Fun) (o : Option Env) → slice_get p.funs fn ≡ Some g → Bound lay words (with_params g.params 0 []) (0 + length g.params) o → S s w f lay (or_fail o w (λ env. take_turn place w (λ u. ev g.body env [] [] u)))
      by_env g o e (unbound n) = is_wrong w
      by_env g o e (all_bound n env len vars) = turn_sim C M A N text code lay0 w.left place w s t f lay (λ u. ev g.body env [] [] u) refl a pos (λ j k. h g env j e (omega arith) vars k)

      by_fun : (o : Option Fun) → slice_get p.funs fn ≡ o → S s w f lay (or_fail o w (λ g. or_fail (bind_all g.params vs []) w (λ env. take_turn place w (λ u. ev g.body env [] [] u))))
      by_fun None e = is_wrong w
      by_fun (Some g) e = by_env g (bind_all g.params vs []) e (bind_params lay [] 0 g.params [] [] refl all no_vars)

  abbrev FunsAt : ℕ → Type 0
  FunsAt k = FunsFollow C M A N text code lay0 T places stands k (apply p k) (apply_grows p k)

  abbrev SetsAt : ℕ → Type 0
  SetsAt k = SetsFollow C M A N text code lay0 T places stands k (apply p k) (apply_grows p k)

  -- a call of one of a set, by what calls of functions do
  set_follows : (k : ℕ) (ev : Evaluator) → ((place : Place) (fn : ℕ) (vs : List Value) (w : World Value) → apply p k place fn vs w ≡ enter p.funs ev place fn vs w) → FunsAt k → SetsAt k
  set_follows k ev is_enter follow place set fn t parts vs cw words w f acc above mem free lay s kept e is all fits few a pos = by_fun (slice_get p.funs fn) refl
    where
      members : List Member
      members = get_or T.sets set []

      closure : Value
      closure = cell t parts

      wrongly : enter p.funs ev place fn (cell t parts ∷ vs) w ≡ fail w → S s w f lay (apply p k place fn (cell t parts ∷ vs) w)
      wrongly g = subst (λ z. S s w f lay z) (sym (is_enter place fn (cell t parts ∷ vs) w ∙ g)) (is_wrong w)

      goes : (g : Fun) → slice_get p.funs fn ≡ Some g → length (cell t parts ∷ vs) ≡ length g.params → S s w f lay (apply p k place fn (cell t parts ∷ vs) w)
      goes g fun_is len =
          let wide = widest_of p.funs t fn members e in
          let n = params_are p.funs fn g fun_is in
          let m = all_length all in
          entered (set_enters C M A N code base f f.hand acc (places.set_at set) (widest p.funs members) t (fun_places fn) cw mem free (placed fun_places members) (member_placed fun_places t fn members e)
          (placed_rises fun_places members (rise_at T.sets set well.tables.sets)) (shown text fits cw t is.0) (sets_stand code p.funs fun_places (sets_at rows texts p) T.sets set t fn sets_there e) words above (omega arith))
        where
          entered : Enters C M A N code base (state_at base f f.hand (places.set_at set) acc (cw ∷ (words ++ above)) mem free) f f.hand acc (cw ∷ words) mem free (fun_places fn) → S s w f lay (apply p k place fn (cell t parts ∷ vs) w)
          entered (no_stack_for c) = before text code base (some_steps text code base w a) (cut_by text code base NoStack (apply p k place fn (cell t parts ∷ vs) w) no_stack c (apply_grows p k place fn (cell t parts ∷ vs) w))
          entered (enters above' b pos') = follow place fn (cell t parts ∷ vs) (cw ∷ words) w f acc above' mem free lay s kept (more (cell t parts) cw is all) fits few (trans code a b) (omega arith)

      by_env : (g : Fun) → slice_get p.funs fn ≡ Some g → (o : Option Env) → bind_all g.params (cell t parts ∷ vs) [] ≡ o → S s w f lay (apply p k place fn (cell t parts ∷ vs) w)
      by_env g fun_is None h = wrongly (
          ap (λ o. or_fail o w (λ g. or_fail (bind_all g.params (cell t parts ∷ vs) []) w (λ env. take_turn place w (λ u. ev g.body env [] [] u)))) fun_is
          ∙ ap (λ o. or_fail o w (λ env. take_turn place w (λ u. ev g.body env [] [] u))) h
          )
      by_env g fun_is (Some env) h = goes g fun_is (bind_length g.params (cell t parts ∷ vs) [] env h)

      by_fun : (o : Option Fun) → slice_get p.funs fn ≡ o → S s w f lay (apply p k place fn (cell t parts ∷ vs) w)
      by_fun None h = wrongly (ap (λ o. or_fail o w (λ g. or_fail (bind_all g.params (cell t parts ∷ vs) []) w (λ env. take_turn place w (λ u. ev g.body env [] [] u)))) h)
      by_fun (Some g) e = by_env g e (bind_all g.params (cell t parts ∷ vs) []) refl

  no_calls : FunsAt zero
  no_calls place fn vs words w f acc above mem free lay s kept all fits few a pos =
      enter_sim idle place fn vs words w s _ f lay all a pos (λ g env j e len vars n. absurd (omega arith))

  calls_deeper : (k : ℕ) → FunsAt k → SetsAt k → FunsAt (suc k)
  calls_deeper k funs sets place fn vs words w f acc above mem free lay s kept all fits few a pos =
      enter_sim (eval T (apply p k) k) place fn vs words w s _ f lay all a pos
      (λ g env j e len vars n.
      body_follows C M A N text code lay0 T places stands k (apply p k) (apply_grows p k) funs sets
      g.body k env (with_params g.params 0 []) words [] [] [] (fun_places fn) acc (length g.params) above mem free lay f f.hand (record w { left = j; taken = w.taken ++ place ∷ [] })
      (record { bounded = omega arith; few = omega arith; kept = kept; vars = vars; deep = len; labels = no_labels; grow = tt; handlers = tt; hand_ok = refl; fits = fits })
      (funs_stand code places right (funs_at rows texts p) p.funs fn g funs_there e))

  both_follow : (k : ℕ) → FunsAt k × SetsAt k
  both_follow zero = (no_calls, set_follows zero idle (λ place fn vs w. refl) no_calls)
  both_follow (suc k) =
      let below = both_follow k in
      let funs : FunsAt (suc k) = calls_deeper k below.0 below.1 in
      (funs, set_follows (suc k) (eval T (apply p k) k) (λ place fn vs w. refl) funs)

  abbrev first_frame : Call
  first_frame = record { lower = []; back = 1; frame = 0; hand = no_handler }

  fits_first : length constants ≡ length lay0
  fits_first = agrees_length text (constants_agree rows texts p strings_are fit.bytes well.tables.initial)

  -- the first call, where the stack has two words
  boots : (heap n q : ℕ) → act (start constants heap (suc (suc n))) (CallRow q 0) ≡ Goes (state_at base first_frame no_handler q 0 (replicate n 0) constants (replicate heap 0))
  boots heap n q =
      let s = start constants heap (suc (suc n)) in
      let t = state_at (length constants) first_frame no_handler q 0 (replicate n 0) constants (replicate heap 0) in
      let a : nat_lt 0 (suc (suc (length {A = ℕ} (replicate n 0)))) ≡ true = lt-ltb _ _ (omega arith) in
      let b : nat_lt 1 (suc (suc (length {A = ℕ} (replicate n 0)))) ≡ true = lt-ltb _ _ (omega arith) in
      ap (λ x. check x NoStack s (check (nat_lt 1 (suc (suc (length {A = ℕ} (replicate n 0))))) NoStack s (Goes t))) a
      ∙ ap (λ x. check x NoStack s (Goes t)) b
      ∙ ap (λ z. Goes (state_at z first_frame no_handler q 0 (replicate n 0) constants (replicate heap 0))) fits_first

  -- a packet that meets no handler
  does_uncaught : (s : State) (x v n a : ℕ) (lay : List Word) (mem free t : List ℕ) → slice_get s.stack (s.fp + x) ≡ Some v → s.handler ≡ no_handler → s.limit ≡ length mem → s.memory ≡ mem ++ free → slice_get mem v ≡ Some n → slice_get mem n ≡ Some a → Shows lay mem → TextAt lay t a → (act s (Raise x) ≡ Halts Uncaught (record s { acc = v })) × (string_at s.memory (name_at s.memory v) ≡ t)
  does_uncaught s x v n a lay mem free t e h l m gn ga show i =
      let r = text_string lay mem free t a show i in
      let at_n : slice_index s.memory v ≡ n = ap (λ z. slice_index z v) m ∙ index_of (mem ++ free) v n (get_left mem free v n gn) in
      let at_a : name_at s.memory v ≡ a = ap (λ z. slice_index s.memory z) at_n ∙ ap (λ z. slice_index z n) m ∙ index_of (mem ++ free) n a (get_left mem free n a ga) in
      let string : string_at s.memory (name_at s.memory v) ≡ t = ap (λ z. string_at s.memory z) at_a ∙ ap (λ z. string_at z a) m ∙ r.0 in
      let is_string : has_string s.memory s.limit (name_at s.memory v) ≡ true = ap (λ z. has_string s.memory s.limit z) at_a ∙ ap (λ z. has_string z s.limit a) m ∙ ap (λ z. has_string (mem ++ free) z a) l ∙ r.1 in
      let has : has_bytes s.memory s.limit (name_at s.memory v) ≡ true = ap (λ z. z && all_bytes (string_at s.memory (name_at s.memory v))) is_string ∙ ap all_bytes string ∙ i.2 in
      (C.raise_uncaught s x v e h (let g = get_within mem v n gn in omega arith) (let g = get_within mem n a ga in omega (arith, at_n)) has, string)

  abbrev runs : State → ℕ → RunResult
  runs s n = result_of (run code n s [])

  outcome_follows : (s : State) (m : ℕ) (w : World Value) (lay : List Word) (r : Run Value) → w.output ≡ [] → w.left ≡ m → IsSound s → length s.stack < 2 ^ 32 → length s.memory < 2 ^ 31
      → S s w first_frame lay r → Follows text (runs s) m (outcome_of identifier_of r)
  unfolding run
  outcome_follows s m w lay r out turns sound lt few (returns v u word rest mem free lay' k i g a) =
      let j = a.by 1 in
      has_ended j.0 (subst (λ o. SameResult text (outcome_of identifier_of r) (result_of (run code j.0 s o))) out
      (subst (λ z. SameResult text (outcome_of identifier_of r) (result_of z)) (sym j.2) (record { output = refl; end = both_ended })))
  outcome_follows s m w lay r out turns sound lt few (raises_it (packet n v) u word x mem lay' k i g c a) = by_name (slice_get u.exceptions n) refl
    where
      by_name : (o : Option ℕ) → slice_get u.exceptions n ≡ o → Follows text (runs s) m (world.ends u (uncaught_end o))
      by_name None e = follows.is_wrong refl
      by_name (Some id) e =
          let j = a.by 1 in
          let b = name_word text g n i.0 id i.3 e in
          let show : Shows lay' mem = λ y z q. shown text g y z q in
          let d = does_uncaught x c.slot word i.0 b.0 lay' mem c.free (text id) c.packet c.hand c.limit c.memory (show word i.0 i.2) b.1 show b.2 in
          let q : step code x ≡ Halts Uncaught (record x { acc = word }) = rw c.instruction d.0 in
          let z : run code j.0 s w.output ≡ record { state = record x { acc = word }; out = u.output; halt = Some Uncaught } = j.2 ∙ ap (λ led. then_on led (run code 0) u.output) q in
          has_ended j.0 (subst (λ o. SameResult text (world.ends u (uncaught_end (Some id))) (result_of (run code j.0 s o))) out
          (subst (λ z. SameResult text (world.ends u (uncaught_end (Some id))) (result_of z)) (sym z) (record { output = refl; end = both_uncaught id (sym d.1) })))
  outcome_follows s m w lay r out turns sound lt few (raises_it (literal n) u word x mem lay' k i g c a) = follows.is_wrong refl
  outcome_follows s m w lay r out turns sound lt few (raises_it (cell n vs) u word x mem lay' k i g c a) = follows.is_wrong refl
  outcome_follows s m w lay r out turns sound lt few (raises_it (reference n) u word x mem lay' k i g c a) = follows.is_wrong refl
  outcome_follows s m w lay r out turns sound lt few (raises_it (name n) u word x mem lay' k i g c a) = follows.is_wrong refl
  outcome_follows s m w lay r out turns sound lt few (goes_on n u le h e) =
      let z : run code n s w.output ≡ run code n s [] = ap (run code n s) out in
      is_going n (omega arith) refl
      (ap (λ o. end_of o (run code n s []).state) (sym (ap (λ q. q.halt) z) ∙ h))
      (sym (ap (λ q. q.out) z) ∙ e)
  outcome_follows s m w lay r out turns sound lt few (is_cut n q h k) = cut_short q (subst (λ o. IsExhausted (run code n s o).halt) out h) (subst (λ o. same.IsPrefix (run code n s o).out (out_of q)) out k)
    where
      cut_short : (q : Run Value) → IsExhausted (run code n s []).halt → same.IsPrefix (run code n s []).out (out_of q) → Follows text (runs s) m (outcome_of identifier_of q)
      cut_short (gives v u) h k = follows.is_cut n (exhausted_end (run code n s []).halt (run code n s []).state h) k
      cut_short (raises v u) h k = follows.is_cut n (exhausted_end (run code n s []).halt (run code n s []).state h) k
      cut_short (stops c u) h k = follows.is_cut n (exhausted_end (run code n s []).halt (run code n s []).state h) k
  outcome_follows s m w lay r out turns sound lt few (is_wrong u) = follows.is_wrong refl
  outcome_follows s m w lay r out turns sound lt few (is_huge n q h) =
      let k = K.run code n s w.output sound in
      absurd (⊎_elim (λ le. let e = k.stack in omega arith) (λ le. let e = k.memory in omega arith) h)

  abbrev first_world : ℕ → World Value
  first_world m = begin T m

  program_follows : (heap stack m : ℕ) → stack < 2 ^ 32 → length constants + heap < 2 ^ 31 → Follows text (run_of (image_of rows texts p) heap stack) m (meaning p m)
  unfolding run
  program_follows heap zero m lt few = follows.is_cut 1 of_stack (_, refl)
  program_follows heap (suc zero) m lt few = follows.is_cut 1 of_stack (_, refl)
  program_follows heap (suc (suc n)) m lt few = by_main p.funs refl
    where
      s : State
      s = start constants heap (suc (suc n))

      by_main : (fs : List Fun) → p.funs ≡ fs → Follows text (runs (start constants heap (suc (suc n)))) m (outcome_of identifier_of (or_fail (body_of p.funs) (begin T m) (λ b. eval T (apply p m) m b [] [] [] (begin T m))))
      by_main [] e = subst (λ z. Follows text (runs (start constants heap (suc (suc n)))) m (outcome_of identifier_of (or_fail (body_of z) (begin T m) (λ b. eval T (apply p m) m b [] [] [] (begin T m))))) (sym e) (follows.is_wrong refl)
      by_main (g ∷ fs) e =
          let first : slice_get p.funs 0 ≡ Some g = ap (λ z. slice_get z 0) e in
          let none = no_params p.funs g well.main first in
          let has = funs_stand code places right (funs_at rows texts p) p.funs 0 g funs_there first in
          let has' : HasAt code (fun_places 0) (code_at places (fun_places 0) 0 [] [] g.body) = subst (λ z. HasAt code (fun_places 0) (code_at places (fun_places 0) (length z) (with_params z 0 []) [] g.body)) none has in
          let long : length {A = ℕ} (replicate n 0) ≡ n = length-replicate n 0 in
          let whole : length (constants ++ replicate heap 0) ≡ length constants + heap = length-append constants (replicate heap 0) ∙ ap (λ z. length constants + z) (length-replicate heap 0) in
          let w : World Value = begin T m in
          let r = eval T (apply p m) m g.body [] [] [] w in
          subst (λ z. Follows text (runs (start constants heap (suc (suc n)))) m (outcome_of identifier_of (or_fail (body_of z) (begin T m) (λ b. eval T (apply p m) m b [] [] [] (begin T m))))) (sym e)
          (outcome_follows s m w lay0 r refl refl (record { behind = omega arith; inside = omega (arith, whole) }) (omega (arith, long)) (omega (arith, whole))
          (before text code base (one text code base w w (CallRow (fun_places 0) 0) refl (boots heap n (fun_places 0)) refl refl)
          (body_follows C M A N text code lay0 T places stands m (apply p m) (apply_grows p m) (both_follow m).0 (both_follow m).1
          g.body m [] [] [] [] [] [] (fun_places 0) 0 0 (replicate n 0) constants (replicate heap 0) lay0 first_frame no_handler w
          (record { bounded = omega arith; few = omega arith; kept = begins_refl lay0; vars = no_vars; deep = refl; labels = no_labels; grow = tt; handlers = tt; hand_ok = refl; fits = constants_agree rows texts p strings_are fit.bytes well.tables.initial })
          has')))

  pub code_follows : (heap stack m : ℕ) → stack < 2 ^ 32 → length constants + heap < 2 ^ 31 → Follows text (run_of (image_of rows texts p) heap stack) m (meaning p m)
  code_follows heap stack m lt few = program_follows heap stack m lt few
