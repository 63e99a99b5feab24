-- The code of a body does what the body does.
use Rattle.std.proofs.Common.{◌≡◌, ℕ, zero, suc, ◌+◌, ◌<◌, ◌≤◌, ◌^◌, List, [], ◌∷◌, ◌++◌, length, map, Option, Some, None, Bool, true, false, inl, refl, sym, ap, ◌∙◌, subst, ⊎_elim, arith, append_assoc, append-nil, length-append, get_or}
use Rattle.std.specs.Prelude.{slice_get, nat_eq, option_map, option_and_then, if◌then◌else◌}
use Rattle.std.proofs.lemmas.Bool.{cases_lt, ltb-true}
use Rattle.ir_code.specs.declared.instr.Instr.{Instr}
use Rattle.ir_code.specs.declared.instr.Instr.TheVariants.{Li, Mov, Jmp, Brz, Call as CallRow, Ret, Acc, PushHandler, Eq, Alloc, St}
use Rattle.ir_code.specs.declared.halt.Halt.TheVariants.{NoStack}
use Rattle.ir_code.specs.Words.{one_if, same_word}
use Rattle.ir_code.specs.Machine.{State, Goes, act}
use Rattle.ir_code.specs.Laws.{ControlLaws, MemoryLaws, ArithmeticLaws}
use Rattle.ir_ssa.specs.of_ir_values.Primitives.{raised_name}
use Rattle.mlc_runs.specs.Run.{World, gives, stops, out_of_turns, or_fail, turn_from}
use Rattle.mlc_base.specs.declared.place.Place.{Place}
use Rattle.mlc_runs.proofs.MoreTurnsLaws.{prefix-refl as prefix_refl, prefix-trans as prefix_trans}
use Rattle.mlc_prims.specs.LitOf.{Literal}
use Rattle.mlc_prims.specs.PrimOf.{Gives, made, raised}
use Rattle.mlc_prims.specs.declared.basis.BasisPrimitive.{BasisPrimitive}
use Rattle.ir_ssa.specs.of_first_values.Values.{Value, literal, cell, reference, name, packet, Values, no_values, Run, Env, unit, bind, look_up, look_all, bind_all, values_of, value_of, tag_of, gather, Piece}
use Rattle.ir_ssa.specs.of_first_values.Operations.{Tables, Operands, Plain, Test, Callee, known, one_of, Called, literals, row_at, attempted, either_way, perform, decide, called, of_closure, member_at, raised_from}
use Rattle.ir_ssa.specs.Tree.{Body, Bodies, plain, make, attempt, turn, call, label, again, guard, goto, jump, branch, switch, tail, ret, raise, last, arm}
use Rattle.ir_ssa.specs.Meaning.{Onward, Handler, Calls, throw, then_go, go_to, may_turn, must_turn, spin, eval, eval_arm}
use Rattle.machine_routines.specs.Layout.{Word, stays, Is}
use Rattle.machine_routines.specs.FindCode.{or_place, member_at as target_at}
use Rattle.machine_routines.specs.Runs.{HasAt, Leads}
use Rattle.machine_routines.proofs.Seams.{has_front, has_back, get_left, get_here, get_right}
use Rattle.machine_routines.proofs.Leads.{step_to}
use Rattle.machine_code.specs.Agrees.{AreAll, Begins}
use Rattle.machine_code.specs.Rows.{HoldAll, given, way_on, late_code, later}
use Rattle.machine_code.specs.Code.{slot, Scope, depth_in, depths_in, with_params, Spot, no_spot, block_at, or_this, left_by, args_of, plain_size, test_size, callee_count, count, arms_end, rise, Choice, by_table, by_search, by_tests, choice_of, choice_size, test_arm_size, move_size, pieces_size, pieces_count, pieces_code, is_shared, make_size, make_code, size, push_code, move_code, leave_code, goto_code, choice_code, test_arm_code, test_code, Places, callee_at, plain_code, body_size, block_place, guard_size, targets, last_at, code_at, arms_at}
use Rattle.machine_code.proofs.RoutineLaws.{RoutineLaws}
use Rattle.machine_code.proofs.Grows.{Grows, AllGrow, HandlersGrow, CallsGrow, KeepsOn, fail_grows, then_grows, to_grows, choose_grows, way_grows, spin_grows, eval_grows, arm_grows}
use Rattle.machine_code.proofs.Kept.{begins_refl, begins_trans, begins_more, shown, agrees_length, grown_by, are_at_end}
use Rattle.machine_code.proofs.Sim.{no_stack, Call, state_at, back_to, Fits, Sim, Raises, returns, is_wrong, huge_here, before, wider, then_sim, one, some, cut}
use Rattle.machine_code.proofs.Slots.{Pushes, push_li, push_ld, push_acc, short, does_eq_here, does_call, short_call, called as frame_of_call, does_push_handler, short_handler, does_jmp, does_brz, does_brz_zero, does_ret}
use Rattle.machine_code.proofs.Vars.{Scoped, scoped_kept, bound, Found, lost, found, look, Args, args_are, args_read, Reads, reads_more, FoundAll, all_lost, all_found, look_every, Bound, unbound, all_bound, bind_params}
use Rattle.machine_code.proofs.Pieces.{push_sim, copy_sim, move_sim, tagged_sim, push_length, move_length}
use Rattle.machine_code.proofs.Primitives.{Stands, FoundOperands, no_literals, are_literals, operands, low_of, zero_is, one_is, primitive_sim, when_raised}
use Rattle.machine_code.proofs.Runs.{FoundPieces, pieces_lost, pieces_found, look_pieces, pieces_sim}
use Rattle.machine_code.proofs.Ops.{op_does}
use Rattle.machine_code.proofs.Tests.{test_follows}
use Rattle.machine_code.proofs.Sizes.{late_place, make_length, Chosen, chosen, choice_length, targets_length, test_arm_length, test_length, left_exits, plain_length, args_count, code_length}
use Rattle.machine_code.proofs.Switches.{targets_below, targets_rise, table_there, search_there}
use Rattle.machine_code.proofs.Here.{Leaves, IsLabel, no_labels, a_label, label_kept, labels_kept, LabelIn, has_label, lacks_label, label_in, hand_kept, throw_sim, Here, moved, top_sim, turn_sim, leave_sim}

module _ (C : ControlLaws) (M : MemoryLaws) (A : ArithmeticLaws) (N : RoutineLaws) (text_of : ℕ → List ℕ) (code : List Instr) (first_lay : List Word) (T : Tables) (places : Places) (stands : Stands code first_lay text_of T places) (fuel : ℕ) (calls : Calls) (calls_grow : CallsGrow calls) where
  abbrev base : ℕ
  base = length first_lay

  abbrev S : State → World Value → Call → List Word → Run Value → Type 0
  S s w f lay r = Sim text_of code base s w f lay r

  abbrev HereAt : ℕ → Call → ℕ → Env → Scope → List ℕ → List Spot → List Onward → List Handler → ℕ → List Word → List ℕ → World Value → Type 0
  HereAt most f hand env scope ws ls ks hs d lay mem w = Here C M A N text_of code first_lay fuel most f hand env scope ws ls ks hs d lay mem w

  abbrev choose : {X : Type 0} → Bool → X → X → X
  choose c x y = if c then x else y

  abbrev means : Body → Env → List Onward → List Handler → World Value → Run Value
  means b env ks hs w = eval T calls fuel b env ks hs w

  -- what calls do, from a state that leads to the function's code, or to that of a set
  abbrev pub FunsFollow : Type 0
  FunsFollow = (p : Place) (fn : ℕ) (vs : List Value) (words : List ℕ) (w : World Value) (f : Call) (acc : ℕ) (above mem free : List ℕ) (lay : List Word) (s : State) → Begins first_lay lay → AreAll lay vs words → Fits text_of lay mem w → w.left ≤ fuel → (a : Leads code s (state_at base f f.hand (places.fun_at fn) acc (words ++ above) mem free)) → 0 < a.steps → S s w f lay (calls p fn vs w)

  abbrev pub SetsFollow : Type 0
  SetsFollow = (p : Place) (set fn t : ℕ) (parts : Values) (vs : List Value) (cw : ℕ) (words : List ℕ) (w : World Value) (f : Call) (acc : ℕ) (above mem free : List ℕ) (lay : List Word) (s : State) → Begins first_lay lay → member_at t (get_or T.sets set []) ≡ Some fn → Is lay (cell t parts) cw → AreAll lay vs words → Fits text_of lay mem w → w.left ≤ fuel → (a : Leads code s (state_at base f f.hand (places.set_at set) acc (cw ∷ (words ++ above)) mem free)) → 0 < a.steps → S s w f lay (calls p fn (cell t parts ∷ vs) w)

  module _ (funs_follow : FunsFollow) (sets_follow : SetsFollow) where
    grows : (b : Body) (env : Env) (ks : List Onward) (hs : List Handler) (w : World Value) → AllGrow ks → HandlersGrow hs → Grows w (means b env ks hs w)
    grows b env ks hs w h g = eval_grows T calls fuel calls_grow b env ks hs w h g

    abbrev pub Follow : Body → Type 0
    Follow b = (most : ℕ) (env : Env) (scope : Scope) (ws : List ℕ) (ls : List Spot) (ks : List Onward) (hs : List Handler) (pc acc d : ℕ) (above mem free : List ℕ) (lay : List Word) (f : Call) (hand : ℕ) (w : World Value) → HereAt most f hand env scope ws ls ks hs d lay mem w → HasAt code pc (code_at places pc d scope ls b) → S (state_at base f hand pc acc (ws ++ above) mem free) w f lay (means b env ks hs w)

    -- one more variable, and what comes after it
    bind_on : (b : Body) → Follow b → {most : ℕ} {f : Call} {hand : ℕ} {env : Env} {scope : Scope} {ws : List ℕ} {ls : List Spot} {ks : List Onward} {hs : List Handler} {d : ℕ} {lay : List Word} {mem : List ℕ} {w : World Value} (x q : ℕ) → HereAt most f hand env scope ws ls ks hs d lay mem w → HasAt code q (code_at places q (suc d) ((x, d) ∷ scope) ls b)
        → (v : Value) (u : World Value) (y acc : ℕ) (above mem' free : List ℕ) (lay' : List Word) → Begins lay lay' → Is lay' v y → Fits text_of lay' mem' u → u.left ≤ most → S (state_at base f hand q acc ((ws ++ y ∷ []) ++ above) mem' free) u f lay' (means b (bind x v env) ks hs u)
    bind_on b go {most} {f} {hand} {env} {scope} {ws} {ls} {ks} {hs} {d} {lay} {mem} {w} x q here has v u y acc above mem' free lay' p is fits few =
        go most (bind x v env) ((x, d) ∷ scope) (ws ++ y ∷ []) ls ks hs q acc (suc d) above mem' free lay' f hand u
        (moved C M A N text_of code first_lay u lay' mem' (y ∷ []) (bind x v env) ((x, d) ∷ scope) (suc d) here p
        (bound lay' ws d x y v here.deep is (subst (λ z. Scoped lay' z scope env) (append-nil ws) (scoped_kept lay lay' ws [] p here.vars))) fits few (let n = here.deep in omega (arith, length-append ws (y ∷ []))))
        has

    follow_plain : (p : Plain) (xs : List ℕ) (x : ℕ) (b : Body) → Follow b → Follow (plain p xs x b)
    follow_plain p xs x b go most env scope ws ls ks hs pc acc d above mem free lay f hand w here has = by (look_all xs env) (look_every lay ws xs here.vars)
      where
        ds : List ℕ
        ds = depths_in xs scope

        q : ℕ
        q = pc + plain_size places.rows places.types p

        has_b : HasAt code q (code_at places q (suc d) ((x, d) ∷ scope) ls b)
        has_b = has_back code pc q (plain_code places pc d p ds) _ (omega (arith, plain_length places stands.right pc d p ds)) has

        by : (o : Option (List Value)) → FoundAll lay ws (depths_in xs scope) o → S (state_at base f hand pc acc (ws ++ above) mem free) w f lay (or_fail o w (λ vs. then_go hs (perform T p vs w) (λ v u. means b (bind x v env) ks hs u)))
        by o all_lost = is_wrong w
        by o (all_found vs ys args) =
            op_does C M A N text_of code first_lay T places stands f hand w lay mem ws d here.kept here.fits here.deep hs here.handlers (λ v u. means b (bind x v env) ks hs u) (λ v u. grows b (bind x v env) ks hs u here.grow here.handlers) p ds vs ys args pc acc above free (has_front code pc (plain_code places pc d p ds) _ has)
            (λ v u y acc' above' mem' free' lay' k is fits e. bind_on b go x q here has_b v u y acc' above' mem' free' lay' k is fits (let n = here.few in omega arith))

    -- A cell of pieces.

    -- .. in the heap
    make_new : (t : ℕ) (qs : List Piece) (x : ℕ) (b : Body) → Follow b → (most : ℕ) (env : Env) (scope : Scope) (ws : List ℕ) (ls : List Spot) (ks : List Onward) (hs : List Handler) (pc acc d : ℕ) (above mem free : List ℕ) (lay : List Word) (f : Call) (hand : ℕ) (w : World Value) → HereAt most f hand env scope ws ls ks hs d lay mem w
        → HasAt code pc (Alloc (slot d) (suc (pieces_count qs)) ∷ Li (slot (suc d)) t ∷ St (slot d) 0 (slot (suc d)) ∷ pieces_code d 1 scope qs) → HasAt code (pc + 3 + pieces_size qs) (code_at places (pc + 3 + pieces_size qs) (suc d) ((x, d) ∷ scope) ls b)
        → S (state_at base f hand pc acc (ws ++ above) mem free) w f lay (means (make t qs x b) env ks hs w)
    make_new t qs x b go most env scope ws ls ks hs pc acc d above mem free lay f hand w here has has_b = by (gather qs env) (look_pieces lay ws qs here.vars)
      where
        low : base ≤ length mem
        low = low_of text_of code first_lay T places stands lay mem w here.kept here.fits

        deep : length ws ≡ d
        deep = here.deep

        by : (o : Option (List Value)) → FoundPieces lay ws scope qs o → S (state_at base f hand pc acc (ws ++ above) mem free) w f lay (or_fail o w (λ vs. means b (bind x (cell t (values_of vs)) env) ks hs w))
        by o pieces_lost = is_wrong w
        by o (pieces_found vs words all pieces) =
            let r = means b (bind x (cell t (values_of vs)) env) ks hs w in
            let grow = grows b (bind x (cell t (values_of vs)) env) ks hs w here.grow here.handlers in
            tagged_sim C M A text_of code base f hand ws above mem free d (pieces_count qs) t pc acc (has.0, (has.1.0, (has.1.1.0, tt))) low deep grow
            (λ junk rest free' l.
            let n3 : pc + 1 + 1 + 1 ≡ pc + 3 = omega arith in
            let q = pc + 3 + pieces_size qs in
            let filled = subst (λ z. HasAt code z (pieces_code d 1 scope qs)) n3 has.1.1.1 in
            let lay' = lay ++ map stays (t ∷ words) in
            let same : length mem ≡ length lay = agrees_length text_of here.fits in
            let first : slice_get lay' (length mem) ≡ Some (stays t) = subst (λ z. slice_get lay' z ≡ Some (stays t)) (sym same) (get_here lay (map stays words) (stays t)) in
            let is : Is lay' (cell t (values_of vs)) (length mem) = (first, are_at_end lay (lay ++ stays t ∷ []) lay' (length mem + 1) all (sym (append_assoc lay (stays t ∷ []) (map stays words))) (begins_more lay (map stays (t ∷ words))) (omega (arith, same, length-append lay (stays t ∷ [])))) in
            pieces_sim C M A text_of code base f hand lay ws mem scope (λ y z e. shown text_of here.fits y z e) low (omega (arith, same)) d deep qs words (t ∷ rest) (t ∷ []) junk 1 (pc + 3) q acc free' filled refl l pieces refl grow
            (λ above'.
            wider text_of code base lay lay' (begins_more lay (map stays (t ∷ words)))
            (bind_on b go x q here has_b (cell t (values_of vs)) w (length mem) acc above' (mem ++ t ∷ words) free' lay' (begins_more lay (map stays (t ∷ words))) is (grown_by text_of lay mem (t ∷ words) w.store w.exceptions here.fits) here.few)))

    shared_is : (t : ℕ) (qs : List Piece) → is_shared t qs ≡ true → (qs ≡ []) × (t < 2)
    shared_is t [] e = (refl, ltb-true t 2 e)
    shared_is t (q ∷ qs) e = absurd (cc)

    -- the words 0 and 1
    is_there : (t : ℕ) (lay : List Word) → t < 2 → Begins first_lay lay → slice_get lay t ≡ Some (stays t)
    is_there zero lay lt k = zero_is text_of code first_lay T places stands lay k
    is_there (suc zero) lay lt k = one_is text_of code first_lay T places stands lay k
    is_there (suc (suc t)) lay lt k = absurd (omega arith)

    follow_make : (t : ℕ) (qs : List Piece) (x : ℕ) (b : Body) → Follow b → Follow (make t qs x b)
    follow_make t qs x b go most env scope ws ls ks hs pc acc d above mem free lay f hand w here has =
        by (is_shared t qs) refl (has_front code pc (make_code d t scope qs) _ has) (has_back code pc (pc + make_size t qs) (make_code d t scope qs) _ (omega (arith, make_length d t scope qs)) has)
      where
        by : (c : Bool) → is_shared t qs ≡ c
            → HasAt code pc (if c then Li (slot d) t ∷ [] else (Alloc (slot d) (suc (pieces_count qs)) ∷ Li (slot (suc d)) t ∷ St (slot d) 0 (slot (suc d)) ∷ pieces_code d 1 scope qs))
            → HasAt code (pc + (if c then 1 else 3 + pieces_size qs)) (code_at places (pc + (if c then 1 else 3 + pieces_size qs)) (suc d) ((x, d) ∷ scope) ls b)
            → S (state_at base f hand pc acc (ws ++ above) mem free) w f lay (or_fail (gather qs env) w (λ vs. means b (bind x (cell t (values_of vs)) env) ks hs w))
        by true e has has_b =
            let both = shared_is t qs e in
            let v = cell t no_values in
            subst (λ z. S (state_at base f hand pc acc (ws ++ above) mem free) w f lay (or_fail (gather z env) w (λ vs. means b (bind x (cell t (values_of vs)) env) ks hs w))) (sym both.0)
            (push_sim C M A text_of code base f hand ws above d t pc acc mem free (push_li C M A base f hand pc acc mem free ws d here.deep t) has.0 here.deep (grows b (bind x v env) ks hs w here.grow here.handlers)
            (λ rest. bind_on b go x (pc + 1) here has_b v w t acc rest mem free lay (begins_refl lay) (is_there t lay both.1 here.kept, tt) here.fits here.few))
        by false e has has_b =
            let n : pc + (3 + pieces_size qs) ≡ pc + 3 + pieces_size qs = omega arith in
            make_new t qs x b go most env scope ws ls ks hs pc acc d above mem free lay f hand w here has (subst (λ z. HasAt code z (code_at places z (suc d) ((x, d) ∷ scope) ls b)) n has_b)

    -- Attempts.

    follow_attempt : (k : Operands) (p : BasisPrimitive) (xs : List ℕ) (x : ℕ) (a b : Body) → Follow a → Follow b → Follow (attempt k p xs x a b)
    follow_attempt k p xs x a b go_a go_b most env scope ws ls ks hs pc acc d above mem free lay f hand w here has = by (look_all xs env) (look_every lay ws xs here.vars)
      where
        ds : List ℕ
        ds = depths_in xs scope

        t : ℕ
        t = pc + places.rows.size k p

        q : ℕ
        q = pc + places.rows.size k p + body_size places (suc d) ((x, d) ∷ scope) ls a

        row : List Instr
        row = places.rows.code k p places.packet_at pc (slot d) (pc + places.rows.size k p + body_size places (suc d) ((x, d) ∷ scope) ls a) (map slot (depths_in xs scope))

        code_a : List Instr
        code_a = code_at places (pc + places.rows.size k p) (suc d) ((x, d) ∷ scope) ls a

        late : List Instr
        late = late_code (places.rows.late k p) places.packet_at (slot d)

        has_both : HasAt code t (code_a ++ (late_code (places.rows.late k p) places.packet_at (slot d) ++ code_at places (later (places.rows.late k p) (pc + places.rows.size k p + body_size places (suc d) ((x, d) ∷ scope) ls a)) (suc d) ((x, d) ∷ scope) ls b))
        has_both = has_back code pc t row _ (omega (arith, stands.right.long k p places.packet_at pc (slot d) (pc + places.rows.size k p + body_size places (suc d) ((x, d) ∷ scope) ls a) (map slot (depths_in xs scope)))) has

        has_late : HasAt code q (late_code (places.rows.late k p) places.packet_at (slot d) ++ code_at places (later (places.rows.late k p) (pc + places.rows.size k p + body_size places (suc d) ((x, d) ∷ scope) ls a)) (suc d) ((x, d) ∷ scope) ls b)
        has_late = has_back code t q code_a _ (omega (arith, code_length places stands.right a t (suc d) ((x, d) ∷ scope) ls)) has_both

        end_grows : (g : Gives) → Grows w (either_way g (λ v. means a (bind x v env) ks hs w) (λ v. means b (bind x v env) ks hs w))
        end_grows g = way_grows g w (λ v. means a (bind x v env) ks hs w) (λ v. means b (bind x v env) ks hs w) (λ v. grows a (bind x v env) ks hs w here.grow here.handlers) (λ v. grows b (bind x v env) ks hs w here.grow here.handlers)

        on : (g : Gives) (y acc' : ℕ) (above' mem' free' : List ℕ) (lay' : List Word) → Begins lay lay' → Is lay' (given g) y → Fits text_of lay' mem' w
            → S (state_at base f hand (way_on g (pc + places.rows.size k p) (later (places.rows.late k p) (pc + places.rows.size k p + body_size places (suc d) ((x, d) ∷ scope) ls a))) acc' ((ws ++ y ∷ []) ++ above') mem' free') w f lay' (either_way g (λ v. means a (bind x v env) ks hs w) (λ v. means b (bind x v env) ks hs w))
        on (made l) y acc' above' mem' free' lay' k is fits =
            bind_on a go_a x t here (has_front code t code_a _ has_both) (value_of l) w y acc' above' mem' free' lay' k is fits here.few
        on (raised e) y acc' above' mem' free' lay' begins is fits =
            bind_on b go_b x (later (places.rows.late k p) q) here (has_back code q (later (places.rows.late k p) q) late _ (late_place (places.rows.late k p) places.packet_at (slot d) q) has_late) (packet (raised_name e) unit) w y acc' above' mem' free' lay' begins is fits here.few

        by_row : (os : List Literal) (o : Option Gives) → HoldAll lay (f.back ∷ f.frame ∷ ws) (map slot (depths_in xs scope)) os → row_at k p os ≡ o
            → S (state_at base f hand pc acc (ws ++ above) mem free) w f lay (or_fail o w (λ g. either_way g (λ v. means a (bind x v env) ks hs w) (λ v. means b (bind x v env) ks hs w)))
        by_row os None hold e = is_wrong w
        by_row os (Some g) hold e =
            primitive_sim text_of code first_lay T places stands f hand w lay mem ws d here.kept here.fits here.deep k p ds os g hold e pc q acc above free
            (either_way g (λ v. means a (bind x v env) ks hs w) (λ v. means b (bind x v env) ks hs w)) (has_front code pc row _ has) (when_raised g (has_front code q late _ has_late)) (end_grows g) (on g)

        by_literals : (o : Option (List Literal)) → FoundOperands lay (f.back ∷ f.frame ∷ ws) (map slot (depths_in xs scope)) o
            → S (state_at base f hand pc acc (ws ++ above) mem free) w f lay (or_fail (option_and_then (row_at k p) o) w (λ g. either_way g (λ v. means a (bind x v env) ks hs w) (λ v. means b (bind x v env) ks hs w)))
        by_literals o no_literals = is_wrong w
        by_literals o (are_literals os hold) = by_row os (row_at k p os) hold refl

        by : (o : Option (List Value)) → FoundAll lay ws (depths_in xs scope) o → S (state_at base f hand pc acc (ws ++ above) mem free) w f lay (or_fail o w (λ vs. or_fail (attempted k p vs) w (λ g. either_way g (λ v. means a (bind x v env) ks hs w) (λ v. means b (bind x v env) ks hs w))))
        by o all_lost = is_wrong w
        by o (all_found vs ys args) = by_literals (literals vs) (operands lay f.back f.frame ws args)

    -- A turn, which one instruction pays for.

    follow_turn : (p : Place) (b : Body) → Follow b → Follow (turn p b)
    follow_turn p b go most env scope ws ls ks hs pc acc d above mem free lay f hand w here has =
        turn_sim C M A N text_of code first_lay w.left p w (state_at base f hand pc acc (ws ++ above) mem free) (state_at base f hand (pc + 1) acc (ws ++ above) mem free) f lay (λ u. means b env ks hs u) refl
        (step_to code N.next (Jmp (pc + 1)) has.0 (does_jmp C M A base f hand pc acc mem free (ws ++ above) (pc + 1))) (omega arith)
        (λ j e. go most env scope ws ls ks hs (pc + 1) acc d above mem free lay f hand (record w { left = j; taken = w.taken ++ p ∷ [] }) (spent j e) has.1)
      where
        spent : (j : ℕ) → suc j ≡ w.left → HereAt most f hand env scope ws ls ks hs d lay mem (record w { left = j; taken = w.taken ++ p ∷ [] })
        spent j e = record {
          bounded = here.bounded;
          few = let n = here.few in omega arith;
          kept = here.kept;
          vars = here.vars;
          deep = here.deep;
          labels = here.labels;
          grow = here.grow;
          handlers = here.handlers;
          hand_ok = here.hand_ok;
          fits = here.fits;
        }

    -- Tests.

    -- two instructions: a word, and a comparison with it
    two_steps : {w : World Value} {g : Call} {lay : List Word} {r : Run Value} (f : Call) (hand pc acc d : ℕ) (ws above mem free : List ℕ) (i i' : Instr) (v v' : ℕ) → length ws ≡ d → Pushes C M A base f hand pc acc mem free ws d i v → ((rest : List ℕ) → act (state_at base f hand (pc + 1) acc (ws ++ v ∷ rest) mem free) i' ≡ Goes (state_at base f hand (pc + 1 + 1) acc ((ws ++ v' ∷ []) ++ rest) mem free)) → slice_get code pc ≡ Some i → slice_get code (pc + 1) ≡ Some i' → Grows w r → ((rest : List ℕ) → S (state_at base f hand (pc + 2) acc ((ws ++ v' ∷ []) ++ rest) mem free) w g lay r) → S (state_at base f hand pc acc (ws ++ above) mem free) w g lay r
    two_steps {w} {g} {lay} {r} f hand pc acc d ws above mem free i i' v v' deep p a has has' grow go =
        let n : pc + 1 + 1 ≡ pc + 2 = omega arith in
        push_sim C M A text_of code base f hand ws above d v pc acc mem free p has deep grow
        (λ rest. subst (λ z. S (state_at base f hand (pc + 1) acc z mem free) w g lay r) (sym (append_assoc ws (v ∷ []) rest))
        (before text_of code base (one text_of code base w w i' has' (a rest) refl refl)
        (subst (λ z. S (state_at base f hand z acc ((ws ++ v' ∷ []) ++ rest) mem free) w g lay r) (sym n) (go rest))))

    follow_branch : (q : Test) (xs : List ℕ) (a b : Body) → Follow a → Follow b → Follow (branch q xs a b)
    follow_branch q xs a b go_a go_b most env scope ws ls ks hs pc acc d above mem free lay f hand w here has = by (look_all xs env) (look_every lay ws xs here.vars)
      where
        ds : List ℕ
        ds = depths_in xs scope

        at_a : ℕ
        at_a = pc + test_size places.rows places.types q

        at_b : ℕ
        at_b = pc + test_size places.rows places.types q + body_size places d scope ls a

        code_a : List Instr
        code_a = code_at places (pc + test_size places.rows places.types q) d scope ls a

        test : List Instr
        test = test_code places pc d q (depths_in xs scope) (pc + test_size places.rows places.types q + body_size places d scope ls a)

        has_both : HasAt code at_a (code_a ++ code_at places (pc + test_size places.rows places.types q + body_size places d scope ls a) d scope ls b)
        has_both = has_back code pc at_a test _ (omega (arith, test_length places stands.right pc d q (depths_in xs scope) (pc + test_size places.rows places.types q + body_size places d scope ls a))) has

        chosen : (c : Bool) (acc' : ℕ) (above' : List ℕ)
            → S (state_at base f hand (if c then pc + test_size places.rows places.types q else pc + test_size places.rows places.types q + body_size places d scope ls a) acc' (ws ++ above') mem free) w f lay (choose c (means a env ks hs w) (means b env ks hs w))
        chosen true acc' above' = go_a most env scope ws ls ks hs at_a acc' d above' mem free lay f hand w here (has_front code at_a code_a _ has_both)
        chosen false acc' above' =
            go_b most env scope ws ls ks hs at_b acc' d above' mem free lay f hand w here (has_back code at_a at_b code_a _ (omega (arith, code_length places stands.right a (pc + test_size places.rows places.types q) d scope ls)) has_both)

        by : (o : Option (List Value)) → FoundAll lay ws (depths_in xs scope) o → S (state_at base f hand pc acc (ws ++ above) mem free) w f lay (or_fail o w (λ vs. or_fail (decide T q vs) w (λ c. choose c (means a env ks hs w) (means b env ks hs w))))
        by o all_lost = is_wrong w
        by o (all_found vs ys args) =
            test_follows C M A text_of code first_lay T places stands f hand w lay mem ws d here.kept here.fits here.deep (λ c. choose c (means a env ks hs w) (means b env ks hs w))
            (λ c. choose_grows c w (means a env ks hs w) (means b env ks hs w) (grows a env ks hs w here.grow here.handlers) (grows b env ks hs w here.grow here.handlers))
            q ds vs ys args pc at_b acc above free (has_front code pc test _ has) chosen

    -- Switches.

    -- from the arms on, with the tag behind the words of the frame
    abbrev pub FollowTests : Bodies → Type 0
    FollowTests bs = (t most : ℕ) (env : Env) (scope : Scope) (ws : List ℕ) (ls : List Spot) (ks : List Onward) (hs : List Handler) (pc acc d : ℕ) (above mem free : List ℕ) (lay : List Word) (f : Call) (hand : ℕ) (w : World Value) → HereAt most f hand env scope ws ls ks hs d lay mem w → HasAt code pc (arms_at places pc d scope ls by_tests bs) → S (state_at base f hand pc acc ((ws ++ t ∷ []) ++ above) mem free) w f lay (eval_arm T calls fuel t bs env ks hs w)

    -- from the place of the tag's arm on, where nothing stands between the arms
    abbrev pub FollowPlaces : Bodies → Type 0
    FollowPlaces bs = (how : Choice) (t q most : ℕ) (env : Env) (scope : Scope) (ws : List ℕ) (ls : List Spot) (ks : List Onward) (hs : List Handler) (acc d : ℕ) (above mem free : List ℕ) (lay : List Word) (f : Call) (hand : ℕ) (w : World Value) → test_arm_size how ≡ 0 → HereAt most f hand env scope ws ls ks hs d lay mem w → HasAt code q (arms_at places q d scope ls how bs) → S (state_at base f hand (or_place (target_at t (targets places q d scope ls bs)) (last_at places q d scope ls bs)) acc (ws ++ above) mem free) w f lay (eval_arm T calls fuel t bs env ks hs w)

    arm_meaning_grows : (t : ℕ) (bs : Bodies) (env : Env) (ks : List Onward) (hs : List Handler) (w : World Value) → AllGrow ks → HandlersGrow hs → Grows w (eval_arm T calls fuel t bs env ks hs w)
    arm_meaning_grows t bs env ks hs w h g = arm_grows T calls fuel calls_grow t bs env ks hs w h g

    tests_last : (b : Body) → Follow b → FollowTests (last b)
    tests_last b go t most env scope ws ls ks hs pc acc d above mem free lay f hand w here has =
        subst (λ z. S (state_at base f hand pc acc z mem free) w f lay (means b env ks hs w)) (sym (append_assoc ws (t ∷ []) above)) (go most env scope ws ls ks hs pc acc d (t ∷ above) mem free lay f hand w here has)

    tests_arm : (i : ℕ) (b : Body) (bs : Bodies) → Follow b → FollowTests bs → FollowTests (arm i b bs)
    tests_arm i b bs go goes t most env scope ws ls ks hs pc acc d above mem free lay f hand w here has =
        two_steps f hand pc acc (suc d) (ws ++ t ∷ []) above mem free (Li (slot (suc d)) i) (Eq (slot (suc d)) (slot d) (slot (suc d))) i (same_word t i) deep'
        (push_li C M A base f hand pc acc mem free (ws ++ t ∷ []) (suc d) deep' i)
        (λ rest. does_eq_here C M A base f hand (pc + 1) acc mem free (ws ++ t ∷ []) (suc d) deep' d t i rest at_d) has.0 has.1.0
        (arm_meaning_grows t (arm i b bs) env ks hs w here.grow here.handlers)
        (λ rest. tested (nat_eq t i) refl rest)
      where
        deep' : length (ws ++ t ∷ []) ≡ suc d
        deep' = let n = here.deep in omega (arith, length-append ws (t ∷ []))

        at_d : slice_get (ws ++ t ∷ []) d ≡ Some t
        at_d = subst (λ n. slice_get (ws ++ t ∷ []) n ≡ Some t) here.deep (get_here ws [] t)

        next : ℕ
        next = pc + 3 + body_size places d scope ls b

        code_b : List Instr
        code_b = code_at places (pc + 3) d scope ls b

        n2 : pc + 1 + 1 ≡ pc + 2
        n2 = omega arith

        has_test : slice_get code (pc + 2) ≡ Some (Brz (slot (suc d)) next)
        has_test = subst (λ n. slice_get code n ≡ Some (Brz (slot (suc d)) (pc + 3 + body_size places d scope ls b))) n2 has.1.1.0

        n3 : pc + 1 + 1 + 1 ≡ pc + 3
        n3 = omega arith

        has_rest : HasAt code (pc + 3) (code_b ++ arms_at places next d scope ls by_tests bs)
        has_rest = subst (λ n. HasAt code n (code_at places (pc + 3) d scope ls b ++ arms_at places (pc + 3 + body_size places d scope ls b) d scope ls by_tests bs)) n3 has.1.1.1

        there : (rest : List ℕ) (x : ℕ) → slice_get (((ws ++ t ∷ []) ++ x ∷ []) ++ rest) (suc d) ≡ Some x
        there rest x = get_left ((ws ++ t ∷ []) ++ x ∷ []) rest (suc d) x (subst (λ n. slice_get ((ws ++ t ∷ []) ++ x ∷ []) n ≡ Some x) deep' (get_here (ws ++ t ∷ []) [] x))

        back : (rest : List ℕ) (x : ℕ) → ((ws ++ t ∷ []) ++ x ∷ []) ++ rest ≡ (ws ++ t ∷ []) ++ (x ∷ rest)
        back rest x = append_assoc (ws ++ t ∷ []) (x ∷ []) rest

        tested : (c : Bool) → nat_eq t i ≡ c → (rest : List ℕ) → S (state_at base f hand (pc + 2) acc (((ws ++ t ∷ []) ++ same_word t i ∷ []) ++ rest) mem free) w f lay (choose (nat_eq t i) (means b env ks hs w) (eval_arm T calls fuel t bs env ks hs w))
        tested true e rest =
            let one_more : pc + 2 + 1 ≡ pc + 3 = omega arith in
            let x = same_word t i in
            before text_of code base (one text_of code base w w (Brz (slot (suc d)) next) has_test (does_brz C M A base f hand (pc + 2) acc mem free (((ws ++ t ∷ []) ++ x ∷ []) ++ rest) (suc d) next x (there rest x) (let g : x ≡ 1 = ap one_if e in omega arith)) refl refl)
            (subst (λ z. S (state_at base f hand z acc (((ws ++ t ∷ []) ++ x ∷ []) ++ rest) mem free) w f lay (choose (nat_eq t i) (means b env ks hs w) (eval_arm T calls fuel t bs env ks hs w))) (sym one_more)
            (subst (λ z. S (state_at base f hand (pc + 3) acc z mem free) w f lay (choose (nat_eq t i) (means b env ks hs w) (eval_arm T calls fuel t bs env ks hs w))) (sym (back rest x ∙ append_assoc ws (t ∷ []) (x ∷ rest)))
            (subst (λ z. S (state_at base f hand (pc + 3) acc (ws ++ t ∷ x ∷ rest) mem free) w f lay (choose z (means b env ks hs w) (eval_arm T calls fuel t bs env ks hs w))) (sym e)
            (go most env scope ws ls ks hs (pc + 3) acc d (t ∷ x ∷ rest) mem free lay f hand w here (has_front code (pc + 3) code_b _ has_rest)))))
        tested false e rest =
            let x = same_word t i in
            before text_of code base (one text_of code base w w (Brz (slot (suc d)) next) has_test (does_brz_zero C M A base f hand (pc + 2) acc mem free (((ws ++ t ∷ []) ++ x ∷ []) ++ rest) (suc d) next (there rest x ∙ ap (λ z. Some (one_if z)) e)) refl refl)
            (subst (λ z. S (state_at base f hand next acc z mem free) w f lay (choose (nat_eq t i) (means b env ks hs w) (eval_arm T calls fuel t bs env ks hs w))) (sym (back rest x))
            (subst (λ z. S (state_at base f hand next acc ((ws ++ t ∷ []) ++ x ∷ rest) mem free) w f lay (choose z (means b env ks hs w) (eval_arm T calls fuel t bs env ks hs w))) (sym e)
            (goes t most env scope ws ls ks hs next acc d (x ∷ rest) mem free lay f hand w here (has_back code (pc + 3) next code_b _ (omega (arith, code_length places stands.right b (pc + 3) d scope ls)) has_rest))))

    places_last : (b : Body) → Follow b → FollowPlaces (last b)
    places_last b go how t q most env scope ws ls ks hs acc d above mem free lay f hand w none here has = go most env scope ws ls ks hs q acc d above mem free lay f hand w here has

    places_arm : (i : ℕ) (b : Body) (bs : Bodies) → Follow b → FollowPlaces bs → FollowPlaces (arm i b bs)
    places_arm i b bs go goes how t q most env scope ws ls ks hs acc d above mem free lay f hand w none here has = by (nat_eq t i)
      where
        next : ℕ
        next = q + body_size places d scope ls b

        code_b : List Instr
        code_b = code_at places (q + test_arm_size how) d scope ls b

        has_arm : HasAt code (q + test_arm_size how) (code_b ++ arms_at places (q + test_arm_size how + body_size places d scope ls b) d scope ls how bs)
        has_arm = has_back code q (q + test_arm_size how) (test_arm_code how d i (q + test_arm_size how + body_size places d scope ls b)) _ (omega (arith, test_arm_length how d i (q + test_arm_size how + body_size places d scope ls b))) has

        here_is : q + test_arm_size how ≡ q
        here_is = omega arith

        next_is : q + test_arm_size how + body_size places d scope ls b ≡ q + body_size places d scope ls b
        next_is = omega arith

        has_b : HasAt code q (code_at places q d scope ls b)
        has_b = subst (λ z. HasAt code z (code_at places z d scope ls b)) here_is (has_front code (q + test_arm_size how) code_b _ has_arm)

        has_rest : HasAt code (q + body_size places d scope ls b) (arms_at places (q + body_size places d scope ls b) d scope ls how bs)
        has_rest = subst (λ z. HasAt code z (arms_at places z d scope ls how bs)) next_is
            (has_back code (q + test_arm_size how) (q + test_arm_size how + body_size places d scope ls b) code_b _ (omega (arith, code_length places stands.right b (q + test_arm_size how) d scope ls)) has_arm)

        by : (c : Bool) → S (state_at base f hand (or_place (if c then Some q else target_at t (targets places (q + body_size places d scope ls b) d scope ls bs)) (last_at places (q + body_size places d scope ls b) d scope ls bs)) acc (ws ++ above) mem free) w f lay (choose c (means b env ks hs w) (eval_arm T calls fuel t bs env ks hs w))
        by true = go most env scope ws ls ks hs q acc d above mem free lay f hand w here has_b
        by false = goes how t next most env scope ws ls ks hs acc d above mem free lay f hand w none here has_rest

    follow_switch : (x : ℕ) (bs : Bodies) → FollowTests bs → FollowPlaces bs → Follow (switch x bs)
    follow_switch x bs chain arms most env scope ws ls ks hs pc acc d above mem free lay f hand w here has = by (look_up x env) (look lay ws x here.vars)
      where
        r_grows : (t : ℕ) → Grows w (eval_arm T calls fuel t bs env ks hs w)
        r_grows t = arm_meaning_grows t bs env ks hs w here.grow here.handlers

        tagged : (t p q : ℕ) (how : Choice) → choice_of bs ≡ how → pc + choice_size how bs ≡ q → slice_get ws (depth_in x scope) ≡ Some p → slice_get lay p ≡ Some (stays t)
            → HasAt code pc (choice_code pc d (depth_in x scope) how (arms_end bs) (targets places q d scope ls bs) (last_at places q d scope ls bs)) → HasAt code q (arms_at places q d scope ls how bs)
            → S (state_at base f hand pc acc (ws ++ above) mem free) w f lay (eval_arm T calls fuel t bs env ks hs w)
        tagged t p q how is end e tag first rest =
            goes how is end first rest
          where
            loaded : slice_get mem (p + 0) ≡ Some t
            loaded = let zero_more : p ≡ p + 0 = omega arith in subst (λ z. slice_get mem z ≡ Some t) zero_more (shown text_of here.fits p t tag)

            in_arm : (how : Choice) → test_arm_size how ≡ 0 → HasAt code q (arms_at places q d scope ls how bs) → (z acc' : ℕ) (above' : List ℕ) → z ≡ or_place (target_at t (targets places q d scope ls bs)) (last_at places q d scope ls bs)
                → S (state_at base f hand z acc' (ws ++ above') mem free) w f lay (eval_arm T calls fuel t bs env ks hs w)
            in_arm how none rest z acc' above' at_z =
                subst (λ n. S (state_at base f hand n acc' (ws ++ above') mem free) w f lay (eval_arm T calls fuel t bs env ks hs w)) (sym at_z)
                (arms how t q most env scope ws ls ks hs acc' d above' mem free lay f hand w none here rest)

            goes : (how : Choice) → choice_of bs ≡ how → pc + choice_size how bs ≡ q
                → HasAt code pc (choice_code pc d (depth_in x scope) how (arms_end bs) (targets places q d scope ls bs) (last_at places q d scope ls bs)) → HasAt code q (arms_at places q d scope ls how bs)
                → S (state_at base f hand pc acc (ws ++ above) mem free) w f lay (eval_arm T calls fuel t bs env ks hs w)
            goes by_tests is end first rest =
                push_sim C M A text_of code base f hand ws above d t pc acc mem free (push_ld C M A base f hand pc acc mem free ws d here.deep (depth_in x scope) 0 p t e loaded) first.0 here.deep (r_grows t)
                (λ above'. subst (λ z. S (state_at base f hand z acc ((ws ++ t ∷ []) ++ above') mem free) w f lay (eval_arm T calls fuel t bs env ks hs w)) (sym end)
                (chain t most env scope ws ls ks hs q acc d above' mem free lay f hand w here rest))
            goes by_table is end first rest =
                push_sim C M A text_of code base f hand ws above d t pc acc mem free (push_ld C M A base f hand pc acc mem free ws d here.deep (depth_in x scope) 0 p t e loaded) first.0 here.deep (r_grows t)
                (λ above'.
                let c = table_there C M A N base code f hand ws above' mem free d t here.deep (last_at places q d scope ls bs) (targets places q d scope ls bs) (arms_end bs) (pc + 1) acc (targets_below places q d scope ls bs) first.1 in
                before text_of code base (some text_of code base w c)
                (subst (λ l. S (state_at base f hand (or_place (target_at t (targets places q d scope ls bs)) (last_at places q d scope ls bs)) acc l mem free) w f lay (eval_arm T calls fuel t bs env ks hs w)) (sym (append_assoc ws (t ∷ []) above'))
                (in_arm by_table refl rest (or_place (target_at t (targets places q d scope ls bs)) (last_at places q d scope ls bs)) acc (t ∷ above') refl)))
            goes by_search is end first rest = searched above
              where
                known : (4 < count bs) × (rise 0 bs ≡ true)
                known = subst (λ z. Chosen z bs) is (chosen bs)

                no_room : (rest : List ℕ) → length rest ≤ suc d → S (state_at base f hand pc acc rest mem free) w f lay (eval_arm T calls fuel t bs env ks hs w)
                no_room rest le = cut text_of code base (Li (slot (suc d)) 0) NoStack (eval_arm T calls fuel t bs env ks hs w) no_stack first.0 (short C M A base f hand pc acc mem free rest (suc d) _ le) (r_grows t)

                searched : (above : List ℕ) → S (state_at base f hand pc acc (ws ++ above) mem free) w f lay (eval_arm T calls fuel t bs env ks hs w)
                searched [] = no_room (ws ++ []) (let n = here.deep in omega (arith, length-append ws []))
                searched (a ∷ []) = no_room (ws ++ a ∷ []) (let n = here.deep in omega (arith, length-append ws (a ∷ [])))
                searched (a ∷ b ∷ above') =
                    let c = search_there C M A N base code f hand ws above' mem free d t here.deep (last_at places q d scope ls bs) (targets places q d scope ls bs) pc acc a b (depth_in x scope) p e loaded (targets_rise places 0 q d scope ls bs known.1) first in
                    before text_of code base (some text_of code base w c.1)
                    (in_arm by_search refl rest (or_place (target_at t (targets places q d scope ls bs)) (last_at places q d scope ls bs)) acc (t ∷ c.0 ∷ above') refl)

        by : (o : Option Value) → Found lay ws (depth_in x scope) o → S (state_at base f hand pc acc (ws ++ above) mem free) w f lay (or_fail (tag_of o) w (λ t. eval_arm T calls fuel t bs env ks hs w))
        by o lost = is_wrong w
        by o (found (literal l) p e is) = is_wrong w
        by o (found (reference j) p e is) = is_wrong w
        by o (found (name j) p e is) = is_wrong w
        by o (found (packet j v) p e is) = is_wrong w
        by o (found (cell t vs) p e is) =
            let q = pc + choice_size (choice_of bs) bs in
            let set = targets places q d scope ls bs in
            let z = last_at places q d scope ls bs in
            let head = choice_code pc d (depth_in x scope) (choice_of bs) (arms_end bs) set z in
            tagged t p q (choice_of bs) refl refl e is.0 (has_front code pc head _ has)
            (has_back code pc q head _ (omega (arith, choice_length pc d (depth_in x scope) (choice_of bs) bs set z (chosen bs) (targets_length places stands.right q d scope ls bs))) has)

    -- Calls.

    -- what is called, and its arguments' words
    data CalleeIn (c : Callee) (lay : List Word) (ws ds : List ℕ) (mem : List ℕ) (w : World Value) : Option Called → Type 0 where
      no_callee : CalleeIn c lay ws ds mem w None
      a_callee : (g : Called) (words : List ℕ) → Reads ws ds words
          → ((p : Place) (f : Call) (acc : ℕ) (above free : List ℕ) (s : State) → (a : Leads code s (state_at base f f.hand (callee_at places c) acc (words ++ above) mem free)) → 0 < a.steps → S s w f lay (calls p g.function g.arguments w)) → CalleeIn c lay ws ds mem w (Some g)

    callee_in : (c : Callee) (lay : List Word) (ws xs mem : List ℕ) (w : World Value) {scope : Scope} {env : Env} {vs : List Value} {ys : List ℕ} → Begins first_lay lay → Fits text_of lay mem w → w.left ≤ fuel → Scoped lay ws scope env → Args lay ws (depths_in xs scope) vs ys → CalleeIn c lay ws (args_of c scope xs) mem w (called T c env vs)
    callee_in (known fn) lay ws xs mem w {vs = vs} {ys = ys} kept fits few vars args =
        a_callee (record { function = fn; arguments = vs }) ys (args_read args) (λ p f acc above free s a pos. funs_follow p fn vs ys w f acc above mem free lay s kept (args_are args) fits few a pos)
    callee_in (one_of set x) lay ws xs mem w {scope} {env} {vs} {ys} kept fits few vars args = by (look_up x env) (look lay ws x vars)
      where
        one_member : (t cw : ℕ) (parts : Values) (o : Option ℕ) → member_at t (get_or T.sets set []) ≡ o → slice_get ws (depth_in x scope) ≡ Some cw → Is lay (cell t parts) cw
            → CalleeIn (one_of set x) lay ws (depth_in x scope ∷ depths_in xs scope) mem w (option_map (λ fn. record { function = fn; arguments = cell t parts ∷ vs }) o)
        one_member t cw parts None e g is = no_callee
        one_member t cw parts (Some fn) e g is =
            a_callee (record { function = fn; arguments = cell t parts ∷ vs }) (cw ∷ ys) (g, args_read args) (λ p f acc above free s a pos. sets_follow p set fn t parts vs cw ys w f acc above mem free lay s kept e is (args_are args) fits few a pos)

        by : (o : Option Value) → Found lay ws (depth_in x scope) o → CalleeIn (one_of set x) lay ws (depth_in x scope ∷ depths_in xs scope) mem w (of_closure (get_or T.sets set []) o vs)
        by o lost = no_callee
        by o (found (cell t parts) p e is) = one_member t p parts (member_at t (get_or T.sets set [])) refl e is
        by o (found v p e is) = no_callee

    follow_tail : (p : Place) (c : Callee) (xs : List ℕ) → Follow (tail p c xs)
    follow_tail p c xs most env scope ws ls ks hs pc acc d above mem free lay f hand w here has =
        top_sim C M A N text_of code first_lay {hand = hand} most ws hs (or_fail (look_all xs env) w (λ vs. or_fail (called T c env vs) w (λ g. calls p g.function g.arguments w))) here.hand_ok (λ same. by same (look_all xs env) (look_every lay ws xs here.vars))
      where
        ds : List ℕ
        ds = args_of c scope xs

        q : ℕ
        q = pc + move_size 0 (args_of c scope xs)

        has_jump : slice_get code (pc + move_size 0 (args_of c scope xs)) ≡ Some (Jmp (callee_at places c))
        has_jump = (has_back code pc q (move_code d 0 ds) _ (omega (arith, move_length d 0 ds)) has).0

        on : hand ≡ f.hand → (o : Option Called) → CalleeIn c lay ws (args_of c scope xs) mem w o → S (state_at base f hand pc acc (ws ++ above) mem free) w f lay (or_fail o w (λ g. calls p g.function g.arguments w))
        on same o no_callee = is_wrong w
        on same o (a_callee g words reads goes) =
            move_sim C M A text_of code base f hand ds words [] ws above d 0 pc q acc mem free (has_front code pc (move_code d 0 ds) _ has) refl (let e = here.deep in omega arith) reads refl (calls_grow p g.function g.arguments w)
            (λ rest.
            goes p f acc rest free (state_at base f hand q acc (words ++ rest) mem free)
            (step_to code N.next (Jmp (callee_at places c)) has_jump (does_jmp C M A base f hand q acc mem free (words ++ rest) (callee_at places c) ∙ ap (λ z. Goes (state_at base f z (callee_at places c) acc (words ++ rest) mem free)) same)) (omega arith))

        by : hand ≡ f.hand → (o : Option (List Value)) → FoundAll lay ws (depths_in xs scope) o → S (state_at base f hand pc acc (ws ++ above) mem free) w f lay (or_fail o w (λ vs. or_fail (called T c env vs) w (λ g. calls p g.function g.arguments w)))
        by same o all_lost = is_wrong w
        by same o (all_found vs ys args) = on same (called T c env vs) (callee_in c lay ws xs mem w here.kept here.fits (let a = here.few in let b = here.bounded in omega arith) here.vars args)

    follow_call : (p : Place) (c : Callee) (xs : List ℕ) (x : ℕ) (b : Body) → Follow b → Follow (call p c xs x b)
    follow_call p c xs x b go_b most env scope ws ls ks hs pc acc d above mem free lay f hand w here has = by (look_all xs env) (look_every lay ws xs here.vars)
      where
        ds : List ℕ
        ds = args_of c scope xs

        q : ℕ
        q = pc + callee_count c (length xs)

        count_is : length (args_of c scope xs) ≡ callee_count c (length xs)
        count_is = args_count places stands.right c scope xs

        onward : Value → World Value → Run Value
        onward v u = means b (bind x v env) ks hs u

        onward_grows : (v : Value) (u : World Value) → Grows u (means b (bind x v env) ks hs u)
        onward_grows v u = grows b (bind x v env) ks hs u here.grow here.handlers

        tail_code : List Instr
        tail_code = code_at places (pc + callee_count c (length xs) + 2) (suc d) ((x, d) ∷ scope) ls b

        has_call : HasAt code q (CallRow (callee_at places c) (slot d) ∷ Acc (slot d) ∷ tail_code)
        has_call = has_back code pc q (push_code (suc (suc d)) ds) _ (omega (arith, push_length (suc (suc d)) ds, count_is)) has

        callee : Call
        callee = frame_of_call C M A base f hand q acc mem free ws d here.deep

        r_grows : (g : Called) → Grows w (then_go hs (calls p g.function g.arguments w) (λ v u. means b (bind x v env) ks hs u))
        r_grows g = then_grows hs (calls p g.function g.arguments w) w (λ v u. means b (bind x v env) ks hs u) here.handlers (calls_grow p g.function g.arguments w) onward_grows

        no_frame : (zs rest : List ℕ) (extra : List Instr) (r : Run Value) → length rest ≤ suc d → HasAt code pc (push_code (suc (suc d)) zs ++ (CallRow (callee_at places c) (slot d) ∷ extra)) → Grows w r → S (state_at base f hand pc acc rest mem free) w f lay r
        no_frame [] rest extra r le h grow = cut text_of code base (CallRow (callee_at places c) (slot d)) NoStack r no_stack h.0 (short_call C M A base f hand pc acc mem free rest d (callee_at places c) le) grow
        no_frame (z ∷ zs) rest extra r le h grow = cut text_of code base (Mov (slot (suc (suc d))) (slot z)) NoStack r no_stack h.0 (short C M A base f hand pc acc mem free rest (suc (suc d)) _ (omega arith)) grow

        come_back : (v : Value) (u : World Value) (word : ℕ) (rest mem' free' : List ℕ) (lay' : List Word) → Begins lay lay' → Is lay' v word → Fits text_of lay' mem' u → u.left ≤ w.left → S (back_to base callee word rest mem' free') u f lay' (means b (bind x v env) ks hs u)
        come_back v u word rest mem' free' lay' k is fits fewer =
            let fp = length f.lower in
            let s = state_at base f hand (q + 1) word (ws ++ (q + 1) ∷ fp ∷ rest) mem' free' in
            let e : back_to base callee word rest mem' free' ≡ s = ap (λ z. record s { stack = z }) (append_assoc f.lower (f.back ∷ f.frame ∷ ws) ((q + 1) ∷ fp ∷ rest)) in
            let n : q + 1 + 1 ≡ q + 2 = omega arith in
            let few : u.left ≤ most = let h = here.few in omega arith in
            subst (λ z. S z u f lay' (means b (bind x v env) ks hs u)) (sym e)
            (push_sim C M A text_of code base f hand ws ((q + 1) ∷ fp ∷ rest) d word (q + 1) word mem' free' (push_acc C M A base f hand (q + 1) word mem' free' ws d here.deep) has_call.1.0 here.deep (onward_grows v u)
            (λ above'. subst (λ z. S (state_at base f hand z word ((ws ++ word ∷ []) ++ above') mem' free') u f lay' (means b (bind x v env) ks hs u)) (sym n)
            (bind_on b go_b x (q + 2) here (subst (λ z. HasAt code z tail_code) n has_call.1.1) v u word word above' mem' free' lay' k is fits few)))

        thrown : (v : Value) (u : World Value) (word : ℕ) (s : State) (mem' : List ℕ) (lay' : List Word) → Begins lay lay' → Is lay' v word → Fits text_of lay' mem' u → Raises text_of code base callee s word mem' → u.left ≤ w.left → S s u f lay' (throw hs v u)
        thrown v u word s mem' lay' k is fits r fewer =
            throw_sim C M A N text_of code first_lay most f hand lay' ws hs v u word r.slot s r.above mem' r.free (hand_kept C M A N text_of code first_lay most most f hand lay lay' ws ws hs (omega arith) k (prefix_refl ws) here.hand_ok) is fits (let h = here.few in omega arith)
            r.instruction r.packet r.hand r.base_is r.limit r.memory (r.stack ∙ append_assoc f.lower (f.back ∷ f.frame ∷ ws) r.above)

        on : (above : List ℕ) (o : Option Called) → CalleeIn c lay ws (args_of c scope xs) mem w o → S (state_at base f hand pc acc (ws ++ above) mem free) w f lay (or_fail o w (λ g. then_go hs (calls p g.function g.arguments w) (λ v u. means b (bind x v env) ks hs u)))
        on above o no_callee = is_wrong w
        on [] o (a_callee g words reads goes) = no_frame ds (ws ++ []) (Acc (slot d) ∷ tail_code) _ (let e = here.deep in omega (arith, length-append ws [])) has (r_grows g)
        on (a ∷ []) o (a_callee g words reads goes) = no_frame ds (ws ++ a ∷ []) (Acc (slot d) ∷ tail_code) _ (let e = here.deep in omega (arith, length-append ws (a ∷ []))) has (r_grows g)
        on (a ∷ a' ∷ above) o (a_callee g words reads goes) =
            let r = then_go hs (calls p g.function g.arguments w) (λ v u. means b (bind x v env) ks hs u) in
            subst (λ z. S (state_at base f hand pc acc z mem free) w f lay r) (append_assoc ws (a ∷ a' ∷ []) above)
            (copy_sim C M A text_of code base f hand ds words (ws ++ a ∷ a' ∷ []) above (suc (suc d)) pc q acc mem free (has_front code pc (push_code (suc (suc d)) ds) _ has) (let e = here.deep in omega (arith, length-append ws (a ∷ a' ∷ []))) (reads_more ws (a ∷ a' ∷ []) ds words reads) (omega (arith, count_is)) (r_grows g)
            (λ rest.
            let e : ((ws ++ a ∷ a' ∷ []) ++ words) ++ rest ≡ ws ++ a ∷ a' ∷ (words ++ rest) = append_assoc (ws ++ a ∷ a' ∷ []) words rest ∙ append_assoc ws (a ∷ a' ∷ []) (words ++ rest) in
            let s = state_at base f hand q acc (ws ++ a ∷ a' ∷ (words ++ rest)) mem free in
            subst (λ z. S (state_at base f hand q acc z mem free) w f lay r) (sym e)
            (then_sim text_of code base hs (λ v u. means b (bind x v env) ks hs u)
            (goes p callee acc rest free s (step_to code N.next (CallRow (callee_at places c) (slot d)) has_call.0 (does_call C M A base f hand q acc mem free ws d here.deep a a' (callee_at places c) (words ++ rest))) (omega arith))
            here.handlers onward_grows come_back thrown)))

        by : (o : Option (List Value)) → FoundAll lay ws (depths_in xs scope) o → S (state_at base f hand pc acc (ws ++ above) mem free) w f lay (or_fail o w (λ vs. or_fail (called T c env vs) w (λ g. then_go hs (calls p g.function g.arguments w) (λ v u. means b (bind x v env) ks hs u))))
        by o all_lost = is_wrong w
        by o (all_found vs ys args) = on above (called T c env vs) (callee_in c lay ws xs mem w here.kept here.fits (let a = here.few in let b = here.bounded in omega arith) here.vars args)

    follow_ret : (x : ℕ) → Follow (ret x)
    follow_ret x most env scope ws ls ks hs pc acc d above mem free lay f hand w here has =
        top_sim C M A N text_of code first_lay {hand = hand} most ws hs (or_fail (look_up x env) w (λ v. gives v w)) here.hand_ok (λ same. by same (look_up x env) (look lay ws x here.vars))
      where
        by : hand ≡ f.hand → (o : Option Value) → Found lay ws (depth_in x scope) o → S (state_at base f hand pc acc (ws ++ above) mem free) w f lay (or_fail o w (λ v. gives v w))
        by same o lost = is_wrong w
        by same o (found v y e i) = returns v w y (ws ++ above) mem free lay (begins_refl lay) i here.fits (one text_of code base w w (Ret (slot (depth_in x scope))) has.0 (does_ret C M A base f hand pc acc mem free (ws ++ above) (depth_in x scope) y same (get_left ws above (depth_in x scope) y e)) refl refl)

    follow_raise : (x : ℕ) → Follow (raise x)
    follow_raise x most env scope ws ls ks hs pc acc d above mem free lay f hand w here has = by (look_up x env) (look lay ws x here.vars)
      where
        throws : (v : Value) (y : ℕ) → slice_get ws (depth_in x scope) ≡ Some y → Is lay v y → S (state_at base f hand pc acc (ws ++ above) mem free) w f lay (throw hs v w)
        throws v y e is =
            throw_sim C M A N text_of code first_lay most f hand lay ws hs v w y (slot (depth_in x scope)) (state_at base f hand pc acc (ws ++ above) mem free) above mem free here.hand_ok is here.fits here.few has.0
            (get_right f.lower (f.back ∷ f.frame ∷ (ws ++ above)) (slot (depth_in x scope)) ∙ get_left ws above (depth_in x scope) y e) refl refl refl refl refl

        by : (o : Option Value) → Found lay ws (depth_in x scope) o → S (state_at base f hand pc acc (ws ++ above) mem free) w f lay (or_fail o w (λ p. raised_from p w (throw hs p w)))
        by o lost = is_wrong w
        by o (found (packet n v) y e is) = throws (packet n v) y e is
        by o (found v y e is) = is_wrong w

    -- Labels.

    -- to a label, perhaps with a turn
    goes_to : (by_turn : Option Place) (l : ℕ) (xs : List ℕ) (most : ℕ) (env : Env) (scope : Scope) (ws : List ℕ) (ls : List Spot) (ks : List Onward) (hs : List Handler) (pc acc d : ℕ) (above mem free : List ℕ) (lay : List Word) (f : Call) (hand : ℕ) (w : World Value) → HereAt most f hand env scope ws ls ks hs d lay mem w → HasAt code pc (goto_code d (get_or ls l no_spot) (depths_in xs scope)) → S (state_at base f hand pc acc (ws ++ above) mem free) w f lay (or_fail (look_all xs env) w (λ vs. go_to ks l by_turn vs w))
    goes_to by_turn l xs most env scope ws ls ks hs pc acc d above mem free lay f hand w here has = by (look_all xs env) (look_every lay ws xs here.vars)
      where
        ds : List ℕ
        ds = depths_in xs scope

        to : ℕ
        to = (get_or ls l no_spot).place

        leave : List Instr
        leave = leave_code (get_or ls l no_spot).leaves

        moves : List Instr
        moves = move_code d (get_or ls l no_spot).depth (depths_in xs scope)

        q : ℕ
        q = pc + length leave

        q' : ℕ
        q' = q + move_size (get_or ls l no_spot).depth ds

        has_moves : HasAt code q (moves ++ (Jmp to ∷ []))
        has_moves = has_back code pc q leave _ refl has

        has_jump : slice_get code q' ≡ Some (Jmp to)
        has_jump = (has_back code q q' moves _ (omega (arith, move_length d (get_or ls l no_spot).depth (depths_in xs scope))) has_moves).0

        at_label : (vs : List Value) (words : List ℕ) → Args lay ws (depths_in xs scope) vs words → LabelIn C M A N text_of code first_lay most f hand lay ws (get_or ls l no_spot) (go_to ks l) → S (state_at base f hand pc acc (ws ++ above) mem free) w f lay (go_to ks l by_turn vs w)
        at_label vs words args (lacks_label e h) = subst (λ z. S (state_at base f hand pc acc (ws ++ above) mem free) w f lay z) (sym (h by_turn vs w)) (is_wrong w)
        at_label vs words args (has_label h) =
            let r = go_to ks l by_turn vs w in
            let spot = get_or ls l no_spot in
            let mid = h.here.0 in
            let whole : ws ≡ h.pre ++ mid = h.here.1 in
            leave_sim C M A N text_of code first_lay f hand h.old ws above mem free spot.leaves pc q acc h.leaves (has_front code pc leave _ has) refl
            (subst (λ z. S (state_at base f h.old q acc (z ++ above) mem free) w f lay r) (sym whole)
            (move_sim C M A text_of code base f h.old ds words h.pre mid above d spot.depth q q' acc mem free (has_front code q moves _ has_moves) h.deep
            (let e = here.deep in let e' = h.deep in omega (arith, ap length whole, length-append h.pre mid)) (subst (λ z. Reads z ds words) whole (args_read args)) refl (to_grows ks l here.grow by_turn vs w)
            (λ rest'.
            h.goes by_turn vs words w acc rest' mem free lay (state_at base f h.old q' acc ((h.pre ++ words) ++ rest') mem free) (begins_refl lay) (args_are args) here.fits here.few
            (step_to code N.next (Jmp to) has_jump (does_jmp C M A base f h.old q' acc mem free ((h.pre ++ words) ++ rest') to)) (omega arith))))

        by : (o : Option (List Value)) → FoundAll lay ws (depths_in xs scope) o → S (state_at base f hand pc acc (ws ++ above) mem free) w f lay (or_fail o w (λ vs. go_to ks l by_turn vs w))
        by o all_lost = is_wrong w
        by o (all_found vs ys args) = at_label vs ys args (label_in C M A N text_of code first_lay most f hand lay ws l here.labels)

    follow_goto : (l : ℕ) (xs : List ℕ) → Follow (goto l xs)
    follow_goto l xs most env scope ws ls ks hs pc acc d above mem free lay f hand w here has = goes_to None l xs most env scope ws ls ks hs pc acc d above mem free lay f hand w here has

    follow_jump : (p : Place) (l : ℕ) (xs : List ℕ) → Follow (jump p l xs)
    follow_jump p l xs most env scope ws ls ks hs pc acc d above mem free lay f hand w here has = goes_to (Some p) l xs most env scope ws ls ks hs pc acc d above mem free lay f hand w here has

    -- one more label
    with_label : {most : ℕ} {f : Call} {hand : ℕ} {env : Env} {scope : Scope} {ws : List ℕ} {ls : List Spot} {ks : List Onward} {hs : List Handler} {d : ℕ} {lay : List Word} {mem : List ℕ} {w : World Value} (s : Spot) (k : Onward) → HereAt most f hand env scope ws ls ks hs d lay mem w → IsLabel C M A N text_of code first_lay most f hand lay ws s k → KeepsOn k → HereAt most f hand env scope ws (s ∷ ls) (k ∷ ks) hs d lay mem w
    with_label s k here h g = record {
      bounded = here.bounded;
      few = here.few;
      kept = here.kept;
      vars = here.vars;
      deep = here.deep;
      labels = a_label s k h here.labels;
      grow = (g, here.grow);
      handlers = here.handlers;
      hand_ok = here.hand_ok;
      fits = here.fits;
    }

    follow_label : (params : List ℕ) (a b : Body) → Follow a → Follow b → Follow (label params a b)
    follow_label params a b go_a go_b most env scope ws ls ks hs pc acc d above mem free lay f hand w here has =
        go_b most env scope ws (spot ∷ ls) (k ∷ ks) hs pc acc d above mem free lay f hand w (with_label spot k here (record { pre = ws; old = hand; deep = here.deep; here = prefix_refl ws; leaves = refl; goes = goes }) keeps)
        (has_front code pc (code_at places pc d scope (spot ∷ ls) b) _ has)
      where
        place : ℕ
        place = block_place places pc d scope ls b

        spot : Spot
        spot = block_at place d

        k : Onward
        k by_turn vs u = or_fail (bind_all params vs env) u (λ inner. may_turn by_turn u (eval T calls fuel a inner ks hs))

        keeps : KeepsOn k
        keeps by_turn vs u = fail_grows (bind_all params vs env) u _ (λ inner. may_grows by_turn u inner)
          where
            may_grows : (by_turn : Option Place) (u : World Value) (inner : Env) → Grows u (may_turn by_turn u (eval T calls fuel a inner ks hs))
            may_grows None u inner = grows a inner ks hs u here.grow here.handlers
            may_grows (Some p) u inner = by u.left
              where
                by : (n : ℕ) → Grows u (turn_from n p u (eval T calls fuel a inner ks hs))
                by zero = prefix_refl u.output
                by (suc n) = grows a inner ks hs (record u { left = n; taken = u.taken ++ p ∷ [] }) here.grow here.handlers

        code_b : List Instr
        code_b = code_at places pc d scope (spot ∷ ls) b

        has_a : HasAt code place (code_at places place (d + length params) (with_params params d scope) ls a)
        has_a = has_back code pc place code_b _ (omega (arith, code_length places stands.right b pc d scope (spot ∷ ls))) has

        goes : (by_turn : Option Place) (vs : List Value) (words : List ℕ) (u : World Value) (acc' : ℕ) (above' mem' free' : List ℕ) (lay' : List Word) (s : State) → Begins lay lay' → AreAll lay' vs words → Fits text_of lay' mem' u → u.left ≤ most → (m : Leads code s (state_at base f hand place acc' ((ws ++ words) ++ above') mem' free')) → 0 < m.steps → S s u f lay' (k by_turn vs u)
        goes by_turn vs words u acc' above' mem' free' lay' s p all fits few m pos = by by_turn (bind_all params vs env) (bind_params lay' ws d params scope env here.deep all (subst (λ z. Scoped lay' z scope env) (append-nil ws) (scoped_kept lay lay' ws [] p here.vars)))
          where
            enters : (inner : Env) (x : World Value) → length (ws ++ words) ≡ d + length params → Scoped lay' (ws ++ words) (with_params params d scope) inner → Fits text_of lay' mem' x → x.left ≤ most → S (state_at base f hand place acc' ((ws ++ words) ++ above') mem' free') x f lay' (means a inner ks hs x)
            enters inner x len vars fits few = go_a most inner (with_params params d scope) (ws ++ words) ls ks hs place acc' (d + length params) above' mem' free' lay' f hand x (moved C M A N text_of code first_lay x lay' mem' words inner (with_params params d scope) (d + length params) here p vars fits few len) has_a

            by : (by_turn : Option Place) (o : Option Env) → Bound lay' (ws ++ words) (with_params params d scope) (d + length params) o → S s u f lay' (or_fail o u (λ inner. may_turn by_turn u (eval T calls fuel a inner ks hs)))
            by by_turn o (unbound n) = is_wrong u
            by None o (all_bound n inner len vars) = before text_of code base (some text_of code base u m) (enters inner u len vars fits few)
            by (Some q) o (all_bound n inner len vars) =
                turn_sim C M A N text_of code first_lay u.left q u s (state_at base f hand place acc' ((ws ++ words) ++ above') mem' free') f lay' (eval T calls fuel a inner ks hs) refl m pos
                (λ j e. enters inner (record u { left = j; taken = u.taken ++ q ∷ [] }) len vars fits (omega arith))

    follow_again : (params : List ℕ) (a b : Body) → Follow a → Follow b → Follow (again params a b)
    follow_again params a b go_a go_b most env scope ws ls ks hs pc acc d above mem free lay f hand w here has =
        go_b most env scope ws (spot ∷ ls) (spin params env once fuel ∷ ks) hs pc acc d above mem free lay f hand w (with_label spot (spin params env once fuel) here (spun fuel most here.bounded (omega arith)) (spin_grows params env once once_grows fuel))
        (has_front code pc (code_at places pc d scope (spot ∷ ls) b) _ has)
      where
        place : ℕ
        place = block_place places pc d scope ls b

        spot : Spot
        spot = block_at place d

        once : Onward → Env → World Value → Run Value
        once k inner u = eval T calls fuel a inner (k ∷ ks) hs u

        once_grows : (k : Onward) (inner : Env) (u : World Value) → KeepsOn k → Grows u (once k inner u)
        once_grows k inner u g = grows a inner (k ∷ ks) hs u (g, here.grow) here.handlers

        code_b : List Instr
        code_b = code_at places pc d scope (spot ∷ ls) b

        has_a : HasAt code place (code_at places place (d + length params) (with_params params d scope) (spot ∷ ls) a)
        has_a = has_back code pc place code_b _ (omega (arith, code_length places stands.right b pc d scope (spot ∷ ls))) has

        -- one time, where the others are as they should be
        enters : (k : Onward) → KeepsOn k → (inner : Env) (words : List ℕ) (x : World Value) (acc' : ℕ) (above' mem' free' : List ℕ) (lay' : List Word) → Begins lay lay' → length (ws ++ words) ≡ d + length params → Scoped lay' (ws ++ words) (with_params params d scope) inner → Fits text_of lay' mem' x → x.left ≤ most → IsLabel C M A N text_of code first_lay x.left f hand lay ws spot k → S (state_at base f hand place acc' ((ws ++ words) ++ above') mem' free') x f lay' (once k inner x)
        enters k kg inner words x acc' above' mem' free' lay' p len vars fits le is =
            go_a x.left inner (with_params params d scope) (ws ++ words) (spot ∷ ls) (k ∷ ks) hs place acc' (d + length params) above' mem' free' lay' f hand x
            (record {
              bounded = let j = here.bounded in omega arith;
              few = omega arith;
              kept = begins_trans first_lay lay lay' here.kept p;
              vars = vars;
              deep = len;
              labels = a_label spot k (label_kept C M A N text_of code first_lay x.left x.left f hand lay lay' ws (ws ++ words) spot k (omega arith) p (words, refl) is) (labels_kept C M A N text_of code first_lay most x.left f hand lay lay' ws (ws ++ words) le p (words, refl) here.labels);
              grow = (kg, here.grow);
              handlers = here.handlers;
              hand_ok = hand_kept C M A N text_of code first_lay most x.left f hand lay lay' ws (ws ++ words) hs le p (words, refl) here.hand_ok;
              fits = fits;
            })
            has_a

        binds : (vs : List Value) (words : List ℕ) (lay' : List Word) → Begins lay lay' → AreAll lay' vs words → Bound lay' (ws ++ words) (with_params params d scope) (d + length params) (bind_all params vs env)
        binds vs words lay' p all = bind_params lay' ws d params scope env here.deep all (subst (λ z. Scoped lay' z scope env) (append-nil ws) (scoped_kept lay lay' ws [] p here.vars))

        spun : (j m : ℕ) → m ≤ j → m ≤ most → IsLabel C M A N text_of code first_lay m f hand lay ws spot (spin params env once j)
        spun zero m le low = record {
          pre = ws;
          old = hand;
          deep = here.deep;
          here = prefix_refl ws;
          leaves = refl;
          goes = λ by_turn vs words u acc' above' mem' free' lay' s p all fits few x pos. goes by_turn vs words u acc' above' mem' free' lay' s fits few x pos (bind_all params vs env) (binds vs words lay' p all);
        }
          where
            goes : (by_turn : Option Place) (vs : List Value) (words : List ℕ) (u : World Value) (acc' : ℕ) (above' mem' free' : List ℕ) (lay' : List Word) (s : State) → Fits text_of lay' mem' u → u.left ≤ m → (x : Leads code s (state_at base f hand place acc' ((ws ++ words) ++ above') mem' free')) → 0 < x.steps → (o : Option Env) → Bound lay' (ws ++ words) (with_params params d scope) (d + length params) o → S s u f lay' (or_fail o u (λ inner. must_turn by_turn u (λ u. stops out_of_turns u)))
            goes by_turn vs words u acc' above' mem' free' lay' s fits few x pos o (unbound n) = is_wrong u
            goes None vs words u acc' above' mem' free' lay' s fits few x pos o (all_bound n inner len vars) = is_wrong u
            goes (Some q) vs words u acc' above' mem' free' lay' s fits few x pos o (all_bound n inner len vars) =
                turn_sim C M A N text_of code first_lay u.left q u s (state_at base f hand place acc' ((ws ++ words) ++ above') mem' free') f lay' (λ u. stops out_of_turns u) refl x pos (λ j e. absurd (omega arith))
        spun (suc j) m le low = record {
          pre = ws;
          old = hand;
          deep = here.deep;
          here = prefix_refl ws;
          leaves = refl;
          goes = λ by_turn vs words u acc' above' mem' free' lay' s p all fits few x pos. goes (spin params env once j) (spin_grows params env once once_grows j) by_turn vs words u acc' above' mem' free' lay' s p fits few x pos (λ i e. spun j i (omega arith) (omega arith)) (bind_all params vs env) (binds vs words lay' p all);
        }
          where
            goes : (k : Onward) → KeepsOn k → (by_turn : Option Place) (vs : List Value) (words : List ℕ) (u : World Value) (acc' : ℕ) (above' mem' free' : List ℕ) (lay' : List Word) (s : State) → Begins lay lay' → Fits text_of lay' mem' u → u.left ≤ m → (x : Leads code s (state_at base f hand place acc' ((ws ++ words) ++ above') mem' free')) → 0 < x.steps → ((i : ℕ) → suc i ≡ u.left → IsLabel C M A N text_of code first_lay i f hand lay ws spot k) → (o : Option Env) → Bound lay' (ws ++ words) (with_params params d scope) (d + length params) o → S s u f lay' (or_fail o u (λ inner. must_turn by_turn u (once k inner)))
            goes k kg by_turn vs words u acc' above' mem' free' lay' s p fits few x pos is o (unbound n) = is_wrong u
            goes k kg None vs words u acc' above' mem' free' lay' s p fits few x pos is o (all_bound n inner len vars) = is_wrong u
            goes k kg (Some q) vs words u acc' above' mem' free' lay' s p fits few x pos is o (all_bound n inner len vars) =
                turn_sim C M A N text_of code first_lay u.left q u s (state_at base f hand place acc' ((ws ++ words) ++ above') mem' free') f lay' (once k inner) refl x pos
                (λ i e. enters k kg inner words (record u { left = i; taken = u.taken ++ q ∷ [] }) acc' above' mem' free' lay' p len vars fits (omega arith) (is i e))

    follow_guard : (l : ℕ) (a : Body) (y : ℕ) (h : Body) → Follow a → Follow h → Follow (guard l a y h)
    follow_guard l a y h go_a go_h most env scope ws ls ks hs pc acc d above mem free lay f hand w here has = begin above
      where
        fp : ℕ
        fp = length f.lower

        hand' : ℕ
        hand' = fp + slot d

        at_h : ℕ
        at_h = pc + 1 + guard_size places d scope ls l a

        spot : Spot
        spot = get_or ls l no_spot

        ws' : List ℕ
        ws' = ws ++ hand ∷ at_h ∷ fp ∷ []

        deep' : length ws' ≡ d + 3
        deep' = let e = here.deep in omega (arith, length-append ws (hand ∷ at_h ∷ fp ∷ []))

        catch : Handler
        catch p u = means h (bind y p env) ks hs u

        code_a : List Instr
        code_a = code_at places (pc + 1) (d + 3) scope (left_by d (get_or ls l no_spot) ∷ []) a

        code_h : List Instr
        code_h = code_at places (pc + 2 + guard_size places d scope ls l a) (suc d) ((y, d) ∷ scope) ls h

        a_length : length code_a ≡ guard_size places d scope ls l a
        a_length = code_length places stands.right a (pc + 1) (d + 3) scope (left_by d (get_or ls l no_spot) ∷ []) ∙ ap (λ z. size places.rows places.types (d + 3) scope z a) (left_exits d ls l)

        has_h : HasAt code at_h (Acc (slot d) ∷ code_h)
        has_h = has_back code (pc + 1) at_h code_a _ (omega (arith, a_length)) has.1

        saved : slice_get ws' d ≡ Some hand
        saved = subst (λ n. slice_get (ws ++ hand ∷ at_h ∷ fp ∷ []) n ≡ Some hand) here.deep (get_here ws (at_h ∷ fp ∷ []) hand)

        -- the label is that outside, once the record is left
        leaves' : (old : ℕ) (o : Option ℕ) → Leaves hand old ws o → Leaves hand' old ws' (or_this o d)
        leaves' old None e = saved ∙ ap Some (sym e)
        leaves' old (Some x) e = get_left ws (hand ∷ at_h ∷ fp ∷ []) x old e

        inner_label : LabelIn C M A N text_of code first_lay most f hand lay ws (get_or ls l no_spot) (go_to ks l) → IsLabel C M A N text_of code first_lay most f hand' lay ws' (left_by d (get_or ls l no_spot)) (go_to ks l)
        inner_label (has_label k) = record {
          pre = k.pre;
          old = k.old;
          deep = k.deep;
          here = prefix_trans k.pre ws (ws ++ hand ∷ at_h ∷ fp ∷ []) k.here (hand ∷ at_h ∷ fp ∷ [], refl);
          leaves = leaves' k.old (get_or ls l no_spot).leaves k.leaves;
          goes = k.goes;
        }
        inner_label (lacks_label e k) = subst (λ z. IsLabel C M A N text_of code first_lay most f (fp + slot d) lay (ws ++ hand ∷ at_h ∷ fp ∷ []) (left_by d z) (go_to ks l)) (sym e) (record {
          pre = [];
          old = hand;
          deep = refl;
          here = (ws ++ hand ∷ at_h ∷ fp ∷ [], refl);
          leaves = saved;
          goes = λ by_turn vs words u acc' above' mem' free' lay' s p all fits few x pos. subst (λ z. S s u f lay' z) (sym (k by_turn vs u)) (is_wrong u);
        })

        caught : (p : Value) (u : World Value) (word c : ℕ) (above' mem' free' : List ℕ) (lay' : List Word) → Begins lay lay' → Is lay' p word → Fits text_of lay' mem' u → u.left ≤ most → S (state_at base f hand at_h word (ws ++ c ∷ above') mem' free') u f lay' (catch p u)
        caught p u word c above' mem' free' lay' k is fits few =
            let q : at_h + 1 ≡ pc + 2 + guard_size places d scope ls l a = omega arith in
            push_sim C M A text_of code base f hand ws (c ∷ above') d word at_h word mem' free' (push_acc C M A base f hand at_h word mem' free' ws d here.deep) has_h.0 here.deep (grows h (bind y p env) ks hs u here.grow here.handlers)
            (λ rest. subst (λ z. S (state_at base f hand z word ((ws ++ word ∷ []) ++ rest) mem' free') u f lay' (catch p u)) (sym q)
            (bind_on h go_h y (pc + 2 + guard_size places d scope ls l a) here (subst (λ z. HasAt code z code_h) q has_h.1) p u word word rest mem' free' lay' k is fits few))

        here' : (fp + slot d + 1 < 2 ^ 32) → HereAt most f hand' env scope ws' (left_by d spot ∷ []) (go_to ks l ∷ []) (catch ∷ hs) (d + 3) lay mem w
        here' small = record {
          bounded = here.bounded;
          few = here.few;
          kept = here.kept;
          vars = scoped_kept lay lay ws (hand ∷ at_h ∷ fp ∷ []) (begins_refl lay) here.vars;
          deep = deep';
          labels = a_label (left_by d spot) (go_to ks l) (inner_label (label_in C M A N text_of code first_lay most f hand lay ws l here.labels)) no_labels;
          grow = (to_grows ks l here.grow, tt);
          handlers = ((λ p u. grows h (bind y p env) ks hs u here.grow here.handlers), here.handlers);
          hand_ok = record { pre = ws; old = hand; place = at_h; here = prefix_refl ws'; is = ap (λ z. fp + slot z) (sym here.deep); small = small; goes = caught };
          fits = here.fits;
        }

        r : Run Value
        r = means a env (go_to ks l ∷ []) (catch ∷ hs) w

        r_grows : Grows w (means a env (go_to ks l ∷ []) (catch ∷ hs) w)
        r_grows = grows a env (go_to ks l ∷ []) (catch ∷ hs) w (to_grows ks l here.grow, tt) ((λ p u. grows h (bind y p env) ks hs u here.grow here.handlers), here.handlers)

        no_room : (rest : List ℕ) → length rest ≤ d + 2 → S (state_at base f hand pc acc rest mem free) w f lay r
        no_room rest le = cut text_of code base (PushHandler (slot d) at_h) NoStack r no_stack has.0 (short_handler C M A base f hand pc acc mem free rest d at_h le) r_grows

        begin : (above : List ℕ) → S (state_at base f hand pc acc (ws ++ above) mem free) w f lay r
        begin [] = no_room (ws ++ []) (let e = here.deep in omega (arith, length-append ws []))
        begin (x ∷ []) = no_room (ws ++ x ∷ []) (let e = here.deep in omega (arith, length-append ws (x ∷ [])))
        begin (x ∷ x' ∷ []) = no_room (ws ++ x ∷ x' ∷ []) (let e = here.deep in omega (arith, length-append ws (x ∷ x' ∷ [])))
        begin (x ∷ x' ∷ x'' ∷ above) =
            ⊎_elim
            (λ lt. before text_of code base (one text_of code base w w (PushHandler (slot d) at_h) has.0 (does_push_handler C M A base f hand pc acc mem free ws d here.deep x x' x'' at_h above) refl refl)
            (go_a most env scope ws' (left_by d spot ∷ []) (go_to ks l ∷ []) (catch ∷ hs) (pc + 1) acc (d + 3) above mem free lay f hand' w (here' lt) (has_front code (pc + 1) code_a _ has.1)))
            (λ le. huge_here text_of code base r (inl (let e = here.deep in omega (arith, le, length-append f.lower (f.back ∷ f.frame ∷ (ws ++ x ∷ x' ∷ x'' ∷ above)), length-append ws (x ∷ x' ∷ x'' ∷ above)))))
            (cases_lt (fp + slot d + 1) (2 ^ 32))

    mutual
      pub body_follows : (b : Body) → Follow b
      body_follows (plain p xs x b) = follow_plain p xs x b (body_follows b)
      body_follows (make t qs x b) = follow_make t qs x b (body_follows b)
      body_follows (attempt k p xs x a b) = follow_attempt k p xs x a b (body_follows a) (body_follows b)
      body_follows (turn p b) = follow_turn p b (body_follows b)
      body_follows (call p c xs x b) = follow_call p c xs x b (body_follows b)
      body_follows (label params a b) = follow_label params a b (body_follows a) (body_follows b)
      body_follows (again params a b) = follow_again params a b (body_follows a) (body_follows b)
      body_follows (guard l a y h) = follow_guard l a y h (body_follows a) (body_follows h)
      body_follows (goto l xs) = follow_goto l xs
      body_follows (jump p l xs) = follow_jump p l xs
      body_follows (branch q xs a b) = follow_branch q xs a b (body_follows a) (body_follows b)
      body_follows (switch x bs) = follow_switch x bs (arms_follow bs).0 (arms_follow bs).1
      body_follows (tail p c xs) = follow_tail p c xs
      body_follows (ret x) = follow_ret x
      body_follows (raise x) = follow_raise x

      arms_follow : (bs : Bodies) → FollowTests bs × FollowPlaces bs
      arms_follow (last b) = (tests_last b (body_follows b), places_last b (body_follows b))
      arms_follow (arm i b bs) = (tests_arm i b bs (body_follows b) (arms_follow bs).0, places_arm i b bs (body_follows b) (arms_follow bs).1)
