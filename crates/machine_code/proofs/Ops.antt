-- The code of each operation does what the operation does, and then what comes after it.
use Rattle.std.proofs.Common.{◌≡◌, ℕ, suc, ◌+◌, ◌<◌, ◌≤◌, List, [], ◌∷◌, ◌++◌, length, map, Option, Some, None, Bool, true, false, refl, sym, ap, ◌∙◌, subst, arith, append_assoc, append-nil, length-append, get_or}
use Rattle.std.specs.Prelude.{slice_get, slice_set, nat_eq, nat_lt, option_and_then, if◌then◌else◌}
use Rattle.ir_code.specs.declared.instr.Instr.{Instr}
use Rattle.ir_code.specs.declared.instr.Instr.TheVariants.{Li, Ld, St, Eq, Call as CallRow, Acc, Print as PrintRow}
use Rattle.ir_code.specs.declared.halt.Halt.TheVariants.{NoHeap, NoStack}
use Rattle.ir_code.specs.Words.{one_if, same_word}
use Rattle.ir_code.specs.Machine.{State}
use Rattle.ir_code.specs.Laws.{ControlLaws, MemoryLaws, ArithmeticLaws}
use Rattle.mlc_runs.specs.Run.{World, gives, fail, or_fail, writes}
use Rattle.mlc_prims.specs.LitOf.{Literal, string}
use Rattle.mlc_prims.specs.PrimOf.{Gives, made, raised}
use Rattle.mlc_prims.specs.declared.basis.BasisPrimitive.{BasisPrimitive}
use Rattle.ir_ssa.specs.of_first_values.Values.{Value, literal, cell, reference, name, packet, value_of, at, Run, unit, truth_value}
use Rattle.ir_ssa.specs.of_first_values.Equality.{opaque, equal_at}
use Rattle.ir_ssa.specs.of_first_values.Operations.{Tables, Operands, Constant, Plain, same, constant, field, refer, content, assign, exception, initial, pack, argument, compute, equal, print, literal_at, literals, row_at, made_in, perform}
use Rattle.ir_ssa.specs.Meaning.{Handler, then_go}
use Rattle.machine_routines.specs.Layout.{Word, stays, changes, names, is_reference, is_name, nth_at, TextAt, Is, Shows}
use Rattle.machine_routines.specs.EqualCode.{is_word}
use Rattle.machine_routines.specs.Runs.{HasAt}
use Rattle.machine_routines.specs.EqualLaw.{Answers, returns, exhausts}
use Rattle.machine_routines.proofs.Compares.{word_equal}
use Rattle.machine_routines.proofs.Seams.{get_left, get_right, get_here, get_within}
use Rattle.machine_code.specs.Agrees.{Agrees, nothing, a_reference, a_name, Begins}
use Rattle.machine_code.specs.Rows.{HoldAll}
use Rattle.machine_code.specs.Code.{slot, equal_size, plain_size, Places, equal_call, plain_code, constant_word}
use Rattle.machine_code.proofs.RoutineLaws.{RoutineLaws}
use Rattle.machine_code.proofs.Kept.{begins_refl, begins_trans, begins_more, is_kept, text_kept, nth_kept, FoundAt, no_part, at_part, look_at, agrees_kept, agrees_append, agrees_length, grown_by, shown, reference_word, reference_set, reference_new, name_new, nth_within, reference_low}
use Rattle.machine_code.proofs.Grows.{Grows, HandlersGrow, perform_grows, then_grows}
use Rattle.machine_code.proofs.Sim.{no_heap, no_stack, Call, state_at, Fits, Sim, is_wrong, before, wider, one as one_step, one_print, some as some_steps, cut, cut_by}
use Rattle.machine_code.proofs.Slots.{push_li, push_eq, push_mov, push_ld, push_acc, short, does_call, does_print, does_set}
use Rattle.machine_code.proofs.Vars.{Args, no_args, an_arg}
use Rattle.machine_code.proofs.Pieces.{push_sim, fill_sim, alloc_sim, tagged_sim}
use Rattle.machine_code.proofs.Primitives.{Stands, FoundOperands, no_literals, are_literals, operands, low_of, zero_is, truth_is, constant_is, primitive_sim}

module _ (C : ControlLaws) (M : MemoryLaws) (A : ArithmeticLaws) (N : RoutineLaws) (text_of : ℕ → List ℕ) (code : List Instr) (first_lay : List Word) (T : Tables) (places : Places) (stands : Stands code first_lay text_of T places) where
  abbrev base : ℕ
  base = length first_lay

  module _ (f : Call) (hand : ℕ) (w : World Value) (lay : List Word) (mem ws : List ℕ) (d : ℕ) (kept : Begins first_lay lay) (fits : Fits text_of lay mem w) (deep : length ws ≡ d) (hs : List Handler) (hs_grow : HandlersGrow hs) (k : Value → World Value → Run Value) (k_grows : (v : Value) (u : World Value) → Grows u (k v u)) where
    abbrev at_state : ℕ → ℕ → List ℕ → List ℕ → List ℕ → State
    at_state pc acc rest m free = state_at base f hand pc acc rest m free

    abbrev S : State → World Value → List Word → Run Value → Type 0
    S s u l r = Sim text_of code base s u f l r

    -- what comes after it
    abbrev pub Onto : ℕ → Type 0
    Onto q = (v : Value) (u : World Value) (y acc : ℕ) (above m free : List ℕ) (lay' : List Word) → Begins lay lay' → Is lay' v y → Fits text_of lay' m u → u.left ≡ w.left → S (at_state q acc ((ws ++ y ∷ []) ++ above) m free) u lay' (k v u)

    abbrev pub Op : Plain → Type 0
    Op p = (xs : List ℕ) (vs : List Value) (ys : List ℕ) → Args lay ws xs vs ys → (pc acc : ℕ) (above free : List ℕ) → HasAt code pc (plain_code places pc d p xs) → Onto (pc + plain_size places.rows places.types p) → S (at_state pc acc (ws ++ above) mem free) w lay (then_go hs (perform T p vs w) k)

    low : base ≤ length mem
    low = low_of text_of code first_lay T places stands lay mem w kept fits

    same_length : length mem ≡ length lay
    same_length = agrees_length text_of fits

    shows : Shows lay mem
    shows = λ x y e. shown text_of fits x y e

    grows : (p : Plain) (vs : List Value) → Grows w (then_go hs (perform T p vs w) k)
    grows p vs = then_grows hs (perform T p vs w) w k hs_grow (perform_grows T p vs w) k_grows

    op_same : Op same
    op_same _ _ _ no_args pc acc above free has go = is_wrong w
    op_same _ _ _ (an_arg x v y e i no_args) pc acc above free has go =
        push_sim C M A text_of code base f hand ws above d y pc acc mem free (push_mov C M A base f hand pc acc mem free ws d deep x y e) has.0 deep (grows same (v ∷ []))
        (λ rest. go v w y acc rest mem free lay (begins_refl lay) i fits refl)
    op_same _ _ _ (an_arg x v y e i (an_arg x' v' y' e' i' args)) pc acc above free has go = is_wrong w

    op_constant : (c : Constant) → Op (constant c)
    op_constant c _ _ _ no_args pc acc above free has go = by (literal_at T c) refl
      where
        by : (o : Option Literal) → literal_at T c ≡ o → S (at_state pc acc (ws ++ above) mem free) w lay (then_go hs (or_fail o w (λ l. gives (value_of l) w)) k)
        by None e = is_wrong w
        by (Some l) e =
            let y = constant_word places c in
            push_sim C M A text_of code base f hand ws above d y pc acc mem free (push_li C M A base f hand pc acc mem free ws d deep y) has.0 deep (k_grows (value_of l) w)
            (λ rest. go (value_of l) w y acc rest mem free lay (begins_refl lay) (constant_is text_of code first_lay T places stands lay kept c l e) fits refl)
    op_constant c _ _ _ (an_arg x v y e i args) pc acc above free has go = is_wrong w

    op_initial : (n : ℕ) → Op (initial n)
    op_initial n _ _ _ no_args pc acc above free has go = by (slice_get T.initial n) refl
      where
        by : (o : Option ℕ) → slice_get T.initial n ≡ o → S (at_state pc acc (ws ++ above) mem free) w lay (then_go hs (or_fail o w (λ i. gives (name n) w)) k)
        by None e = is_wrong w
        by (Some i) e =
            let y = places.initial_at n in
            push_sim C M A text_of code base f hand ws above d y pc acc mem free (push_li C M A base f hand pc acc mem free ws d deep y) has.0 deep (k_grows (name n) w)
            (λ rest. go (name n) w y acc rest mem free lay (begins_refl lay) (nth_kept is_name first_lay lay n y kept (stands.first_names n i e)) fits refl)
    op_initial n _ _ _ (an_arg x v y e i args) pc acc above free has go = is_wrong w

    op_compute : (c : Operands) (p : BasisPrimitive) → Op (compute c p)
    op_compute c p xs vs ys args pc acc above free has go = by (literals vs) (operands lay f.back f.frame ws args)
      where
        by_row : (ls : List Literal) (o : Option Gives) → HoldAll lay (f.back ∷ f.frame ∷ ws) (map slot xs) ls → row_at c p ls ≡ o
            → S (at_state pc acc (ws ++ above) mem free) w lay (then_go hs (or_fail o w (λ g. made_in g w)) k)
        by_row ls None hold e = is_wrong w
        by_row ls (Some (raised x)) hold e = is_wrong w
        by_row ls (Some (made l)) hold e =
            primitive_sim text_of code first_lay T places stands f hand w lay mem ws d kept fits deep c p xs ls (made l) hold e pc (pc + places.rows.size c p) acc above free
            (k (value_of l) w) has tt (k_grows (value_of l) w)
            (λ y acc' above' mem' free' lay' b is fits'. go (value_of l) w y acc' above' mem' free' lay' b is fits' refl)

        by : (o : Option (List Literal)) → FoundOperands lay (f.back ∷ f.frame ∷ ws) (map slot xs) o
            → S (at_state pc acc (ws ++ above) mem free) w lay (then_go hs (or_fail (option_and_then (row_at c p) o) w (λ g. made_in g w)) k)
        by o no_literals = is_wrong w
        by o (are_literals ls hold) = by_row ls (row_at c p ls) hold refl

    -- more words, which stay
    new_cell : (v : Value) (words : List ℕ) → Is (lay ++ map stays words) v (length mem) → (q acc : ℕ) (above free : List ℕ) → Onto q → S (at_state q acc ((ws ++ length mem ∷ []) ++ above) (mem ++ words) free) w lay (k v w)
    new_cell v words is q acc above free go =
        let lay' = lay ++ map stays words in
        wider text_of code base lay lay' (begins_more lay (map stays words)) (go v w (length mem) acc above (mem ++ words) free lay' (begins_more lay (map stays words)) is (grown_by text_of lay mem words w.store w.exceptions fits) refl)

    -- a word of the memory as the result
    loads : (x c y word pc acc : ℕ) (above free : List ℕ) (v : Value) → slice_get code pc ≡ Some (Ld (slot d) (slot x) c) → slice_get ws x ≡ Some y → slice_get mem (y + c) ≡ Some word → Is lay v word → Onto (pc + 1) → S (at_state pc acc (ws ++ above) mem free) w lay (k v w)
    loads x c y word pc acc above free v has e g i go =
        push_sim C M A text_of code base f hand ws above d word pc acc mem free (push_ld C M A base f hand pc acc mem free ws d deep x c y word e g) has deep (k_grows v w)
        (λ rest. go v w word acc rest mem free lay (begins_refl lay) i fits refl)

    op_field : (n : ℕ) → Op (field n)
    op_field n _ _ _ no_args pc acc above free has go = is_wrong w
    op_field n _ _ _ (an_arg x (cell t vs) y e i no_args) pc acc above free has go = by (at n vs) (look_at lay vs (y + 1) n i.1)
      where
        by : (o : Option Value) → FoundAt lay (y + 1 + n) o → S (at_state pc acc (ws ++ above) mem free) w lay (then_go hs (or_fail o w (λ v. gives v w)) k)
        by o no_part = is_wrong w
        by o (at_part v word g iv) =
            let m : y + 1 + n ≡ y + suc n = omega arith in
            loads x (suc n) y word pc acc above free v has.0 e (subst (λ z. slice_get mem z ≡ Some word) m (shows (y + 1 + n) word g)) iv go
    op_field n _ _ _ (an_arg x v y e i no_args) pc acc above free has go = is_wrong w
    op_field n _ _ _ (an_arg x v y e i (an_arg x' v' y' e' i' args)) pc acc above free has go = is_wrong w

    op_content : Op content
    op_content _ _ _ no_args pc acc above free has go = is_wrong w
    op_content _ _ _ (an_arg x (reference a) y e i no_args) pc acc above free has go = by (slice_get w.store a) refl
      where
        by : (o : Option Value) → slice_get w.store a ≡ o → S (at_state pc acc (ws ++ above) mem free) w lay (then_go hs (or_fail o w (λ v. gives v w)) k)
        by None g = is_wrong w
        by (Some v) g =
            let r = reference_word text_of fits a y v i g in
            let n : y ≡ y + 0 = omega arith in
            loads x 0 y r.0 pc acc above free v has.0 e (subst (λ z. slice_get mem z ≡ Some r.0) n r.1) r.2 go
    op_content _ _ _ (an_arg x v y e i no_args) pc acc above free has go = is_wrong w
    op_content _ _ _ (an_arg x v y e i (an_arg x' v' y' e' i' args)) pc acc above free has go = is_wrong w

    op_argument : Op argument
    op_argument _ _ _ no_args pc acc above free has go = is_wrong w
    op_argument _ _ _ (an_arg x (packet n v) y e i no_args) pc acc above free has go = loads x 1 y i.1 pc acc above free v has.0 e (shows (y + 1) i.1 i.4) i.5 go
    op_argument _ _ _ (an_arg x v y e i no_args) pc acc above free has go = is_wrong w
    op_argument _ _ _ (an_arg x v y e i (an_arg x' v' y' e' i' args)) pc acc above free has go = is_wrong w

    op_print : Op print
    op_print _ _ _ no_args pc acc above free has go = is_wrong w
    op_print _ _ _ (an_arg x (literal (string t)) y e i no_args) pc acc above free has go =
        let n : pc + 1 + 1 ≡ pc + 2 = omega arith in
        before text_of code base (one_print text_of code base w (PrintRow (slot x)) t has.0 (does_print C M A base f hand pc acc mem free lay (ws ++ above) x y t (get_left ws above x y e) shows i))
        (push_sim C M A text_of code base f hand ws above d 0 (pc + 1) acc mem free (push_li C M A base f hand (pc + 1) acc mem free ws d deep 0) has.1.0 deep (k_grows unit (writes t w))
        (λ rest. subst (λ z. S (at_state z acc ((ws ++ 0 ∷ []) ++ rest) mem free) (writes t w) lay (k unit (writes t w))) (sym n)
        (go unit (writes t w) 0 acc rest mem free lay (begins_refl lay) (zero_is text_of code first_lay T places stands lay kept, tt) fits refl)))
    op_print _ _ _ (an_arg x v y e i no_args) pc acc above free has go = is_wrong w
    op_print _ _ _ (an_arg x v y e i (an_arg x' v' y' e' i' args)) pc acc above free has go = is_wrong w

    op_assign : Op assign
    op_assign _ _ _ no_args pc acc above free has go = is_wrong w
    op_assign _ _ _ (an_arg x v y e i no_args) pc acc above free has go = is_wrong w
    op_assign _ _ _ (an_arg x (reference a) y e i (an_arg x' v y' e' i' no_args)) pc acc above free has go = by (nat_lt a (length w.store))
      where
        u : World Value
        u = record w { store = slice_set w.store a v }

        low' : base ≤ y
        low' = reference_low first_lay kept.rest a y stands.no_references (subst (λ z. nth_at is_reference z a ≡ Some y) kept.is i)

        within : y < length mem
        within = let n = nth_within is_reference lay a y i in omega (arith, same_length)

        by : (b : Bool) → S (at_state pc acc (ws ++ above) mem free) w lay (then_go hs (if b then gives unit u else fail w) k)
        by false = is_wrong w
        by true =
            let m = slice_set mem y y' in
            let n : pc + 1 + 1 ≡ pc + 2 = omega arith in
            before text_of code base (one_step text_of code base w u (St (slot x) 0 (slot x')) has.0 (does_set C M A base f hand pc acc mem free (ws ++ above) x x' y y' (get_left ws above x y e) (get_left ws above x' y' e') low' within) refl refl)
            (push_sim C M A text_of code base f hand ws above d 0 (pc + 1) acc m free (push_li C M A base f hand (pc + 1) acc m free ws d deep 0) has.1.0 deep (k_grows unit u)
            (λ rest. subst (λ z. S (at_state z acc ((ws ++ 0 ∷ []) ++ rest) m free) u lay (k unit u)) (sym n)
            (go unit u 0 acc rest m free lay (begins_refl lay) (zero_is text_of code first_lay T places stands lay kept, tt) (reference_set text_of fits a y y' v i i') refl)))
    op_assign _ _ _ (an_arg x v y e i (an_arg x' v' y' e' i' no_args)) pc acc above free has go = is_wrong w
    op_assign _ _ _ (an_arg x v y e i (an_arg x' v' y' e' i' (an_arg x'' v'' y'' e'' i'' args))) pc acc above free has go = is_wrong w

    -- a new cell filled with two words or one
    op_refer : Op refer
    op_refer _ _ _ no_args pc acc above free has go = is_wrong w
    op_refer _ _ _ (an_arg x v y e i no_args) pc acc above free has go =
        alloc_sim C M A text_of code base f hand ws above mem free d 1 pc acc has.0 deep (grows refer (v ∷ []))
        (λ junk rest free' l.
        let words = (ws ++ length mem ∷ []) ++ rest in
        let at_d : slice_get words d ≡ Some (length mem) = get_left (ws ++ length mem ∷ []) rest d (length mem) (subst (λ n. slice_get (ws ++ length mem ∷ []) n ≡ Some (length mem)) deep (get_here ws [] (length mem))) in
        let at_x : slice_get words x ≡ Some y = get_left (ws ++ length mem ∷ []) rest x y (get_left ws (length mem ∷ []) x y e) in
        let lay' = lay ++ changes ∷ [] in
        let p = begins_more lay (changes ∷ []) in
        let u : World Value = record w { store = w.store ++ v ∷ [] } in
        let n : pc + 1 + 1 ≡ pc + 2 = omega arith in
        let fits' : Fits text_of lay' (mem ++ y ∷ []) u =
        subst (λ z. Agrees text_of lay' lay' (mem ++ y ∷ []) (w.store ++ v ∷ []) z) (append-nil w.exceptions) (agrees_append text_of lay' (agrees_kept text_of lay lay' p fits) (a_reference v y (is_kept lay lay' v y p i) nothing)) in
        fill_sim C M A text_of code base f hand {lay0 = lay} {xs = x ∷ []} words mem [] junk d 0 (pc + 1) (pc + 2) acc free' (has.1.0, tt) low refl at_d (an_arg x v y at_x i no_args) l (omega arith)
        (before text_of code base (record { by = λ j. (j, omega arith, refl); fewer = omega arith })
        (wider text_of code base lay lay' p (go (reference (length w.store)) u (length mem) acc rest (mem ++ y ∷ []) free' lay' p (reference_new text_of fits ∙ ap Some (sym same_length)) fits' refl))))
    op_refer _ _ _ (an_arg x v y e i (an_arg x' v' y' e' i' args)) pc acc above free has go = is_wrong w

    op_exception : (n : ℕ) → Op (exception n)
    op_exception n _ _ _ no_args pc acc above free has go =
        tagged_sim C M A text_of code base f hand ws above mem free d 0 (places.name_at n) pc acc has low deep (grows (exception n) [])
        (λ junk rest free' l. made junk rest free' l)
      where
        a : ℕ
        a = places.name_at n

        u : World Value
        u = record w { exceptions = w.exceptions ++ n ∷ [] }

        made : (junk rest free' : List ℕ) → length junk ≡ 0 → S (at_state (pc + 3) acc ((ws ++ length mem ∷ []) ++ (a ∷ rest)) (mem ++ a ∷ junk) free') w lay (k (name (length w.exceptions)) u)
        made (j ∷ junk) rest free' l = absurd (omega arith)
        made [] rest free' l =
            let lay' = lay ++ names a ∷ [] in
            let p = begins_more lay (names a ∷ []) in
            let t : TextAt lay' (text_of n) a = text_kept first_lay lay' (text_of n) a (begins_trans first_lay lay lay' kept p) (stands.texts_of n) in
            let fits' : Fits text_of lay' (mem ++ a ∷ []) u =
            subst (λ z. Agrees text_of lay' lay' (mem ++ a ∷ []) z (w.exceptions ++ n ∷ [])) (append-nil w.store) (agrees_append text_of lay' (agrees_kept text_of lay lay' p fits) (a_name n a t nothing)) in
            before text_of code base (record { by = λ j. (j, omega arith, refl); fewer = omega arith })
            (wider text_of code base lay lay' p (go (name (length w.exceptions)) u (length mem) acc (a ∷ rest) (mem ++ a ∷ []) free' lay' p (name_new text_of a fits ∙ ap Some (sym same_length)) fits' refl))
    op_exception n _ _ _ (an_arg x v y e i args) pc acc above free has go = is_wrong w

    op_pack : Op pack
    op_pack _ _ _ no_args pc acc above free has go = is_wrong w
    op_pack _ _ _ (an_arg x v y e i no_args) pc acc above free has go = is_wrong w
    op_pack _ _ _ (an_arg x (name n) y e i (an_arg x' v y' e' i' no_args)) pc acc above free has go =
        alloc_sim C M A text_of code base f hand ws above mem free d 2 pc acc has.0 deep (grows pack (name n ∷ v ∷ []))
        (λ junk rest free' l.
        let words = (ws ++ length mem ∷ []) ++ rest in
        let at_d : slice_get words d ≡ Some (length mem) = get_left (ws ++ length mem ∷ []) rest d (length mem) (subst (λ n. slice_get (ws ++ length mem ∷ []) n ≡ Some (length mem)) deep (get_here ws [] (length mem))) in
        let at_x : slice_get words x ≡ Some y = get_left (ws ++ length mem ∷ []) rest x y (get_left ws (length mem ∷ []) x y e) in
        let at_x' : slice_get words x' ≡ Some y' = get_left (ws ++ length mem ∷ []) rest x' y' (get_left ws (length mem ∷ []) x' y' e') in
        let lay' = lay ++ map stays (y ∷ y' ∷ []) in
        let p = begins_more lay (map stays (y ∷ y' ∷ [])) in
        let first : slice_get lay' (length mem) ≡ Some (stays y) = subst (λ z. slice_get lay' z ≡ Some (stays y)) (sym same_length) (get_here lay (stays y' ∷ []) (stays y)) in
        let second : slice_get lay' (length mem + 1) ≡ Some (stays y') = subst (λ z. slice_get lay' (z + 1) ≡ Some (stays y')) (sym same_length) (get_right lay (stays y ∷ stays y' ∷ []) 1) in
        fill_sim C M A text_of code base f hand {lay0 = lay} {xs = x ∷ x' ∷ []} words mem [] junk d 0 (pc + 1) (pc + 3) acc free' has.1 low refl at_d (an_arg x (name n) y at_x i (an_arg x' v y' at_x' i' no_args)) l (omega arith)
        (new_cell (packet n v) (y ∷ y' ∷ []) (y, y', first, nth_kept is_name lay lay' n y p i, second, is_kept lay lay' v y' p i') (pc + 3) acc rest free' go))
    op_pack _ _ _ (an_arg x v y e i (an_arg x' v' y' e' i' no_args)) pc acc above free has go = is_wrong w
    op_pack _ _ _ (an_arg x v y e i (an_arg x' v' y' e' i' (an_arg x'' v'' y'' e'' i'' args))) pc acc above free has go = is_wrong w

    -- back from the routine of comparisons, or not
    answered : (q : Bool) (pc acc p : ℕ) (rest free : List ℕ) → slice_get code (pc + 1) ≡ Some (Acc (slot d)) → Onto (pc + 1 + 1) → Answers code (record { lower = f.lower ++ (f.back ∷ f.frame ∷ ws); handler = hand; acc = acc; base = base }) (pc + 1) (length f.lower) (state_at base (record { lower = f.lower ++ (f.back ∷ f.frame ∷ ws); back = pc + 1; frame = length f.lower; hand = hand }) hand p acc rest mem free) mem q
        → S (state_at base (record { lower = f.lower ++ (f.back ∷ f.frame ∷ ws); back = pc + 1; frame = length f.lower; hand = hand }) hand p acc rest mem free) w lay (k (truth_value q) w)
    answered q pc acc p rest free has go (exhausts x) = cut_by text_of code base NoHeap (k (truth_value q) w) no_heap x (k_grows (truth_value q) w)
    answered q pc acc p rest free has go (returns rest' new free' x) =
        let fp = length f.lower in
        let mem' = mem ++ new in
        let lay' = lay ++ map stays new in
        let b = begins_more lay (map stays new) in
        let back : (f.lower ++ (f.back ∷ f.frame ∷ ws)) ++ ((pc + 1) ∷ fp ∷ rest') ≡ f.lower ++ (f.back ∷ f.frame ∷ (ws ++ (pc + 1) ∷ fp ∷ rest')) = append_assoc f.lower (f.back ∷ f.frame ∷ ws) ((pc + 1) ∷ fp ∷ rest') in
        before text_of code base (some_steps text_of code base w x)
        (subst (λ z. S (record (at_state (pc + 1) (one_if q) [] mem' free') { stack = z }) w lay (k (truth_value q) w)) (sym back)
        (push_sim C M A text_of code base f hand ws ((pc + 1) ∷ fp ∷ rest') d (one_if q) (pc + 1) (one_if q) mem' free' (push_acc C M A base f hand (pc + 1) (one_if q) mem' free' ws d deep) has deep (k_grows (truth_value q) w)
        (λ above'. wider text_of code base lay lay' b
        (go (truth_value q) w (one_if q) (one_if q) above' mem' free' lay' b (truth_is text_of code first_lay T places stands lay' q (begins_trans first_lay lay lay' kept b)) (grown_by text_of lay mem new w.store w.exceptions fits) refl))))

    abbrev answer : Option Bool → Run Value
    answer o = then_go hs (or_fail o w (λ q. gives (truth_value q) w)) k

    -- a comparison of two words
    by_words : (t x x' : ℕ) (v v' : Value) (y y' : ℕ) → is_word (get_or T.types t opaque) ≡ true → slice_get ws x ≡ Some y → Is lay v y → slice_get ws x' ≡ Some y' → Is lay v' y' → (pc acc : ℕ) (above free : List ℕ)
        → slice_get code pc ≡ Some (Eq (slot d) (slot x) (slot x')) → Onto (pc + 1) → S (at_state pc acc (ws ++ above) mem free) w lay (answer (equal_at T.types (get_or T.types t opaque) v v'))
    by_words t x x' v v' y y' words e i e' i' pc acc above free has go = by (equal_at T.types (get_or T.types t opaque) v v') refl
      where
        by : (o : Option Bool) → equal_at T.types (get_or T.types t opaque) v v' ≡ o → S (at_state pc acc (ws ++ above) mem free) w lay (then_go hs (or_fail o w (λ q. gives (truth_value q) w)) k)
        by None g = is_wrong w
        by (Some q) g =
            let same : nat_eq y y' ≡ q = word_equal T.types lay (get_or T.types t opaque) v v' y y' q words i i' g in
            push_sim C M A text_of code base f hand ws above d (same_word y y') pc acc mem free (push_eq C M A base f hand pc acc mem free ws d deep x x' y y' e e') has deep (k_grows (truth_value q) w)
            (λ rest. go (truth_value q) w (same_word y y') acc rest mem free lay (begins_refl lay)
            (subst (λ z. Is lay (truth_value q) (one_if z)) (sym same) (truth_is text_of code first_lay T places stands lay q kept)) fits refl)

    -- .. of other values: the routine is called
    by_routine : (t x x' : ℕ) (v v' : Value) (y y' : ℕ) → slice_get ws x ≡ Some y → Is lay v y → slice_get ws x' ≡ Some y' → Is lay v' y' → (pc acc : ℕ) (above free : List ℕ)
        → HasAt code pc (equal_call places false d t x x') → Onto (pc + 5) → S (at_state pc acc (ws ++ above) mem free) w lay (answer (equal_at T.types (get_or T.types t opaque) v v'))
    by_routine t x x' v v' y y' e i e' i' pc acc above free has go = by (equal_at T.types (get_or T.types t opaque) v v') refl
      where
        routine : ℕ
        routine = places.type_at t

        -- the call, with two words free before it and two for the routine
        with_frame : (q : Bool) → equal_at T.types (get_or T.types t opaque) v v' ≡ Some q → (a b c c' : ℕ) (rest : List ℕ) → S (at_state pc acc ((ws ++ a ∷ b ∷ c ∷ c' ∷ []) ++ rest) mem free) w lay (k (truth_value q) w)
        with_frame q g a b c c' rest =
            let ws4 = ws ++ a ∷ b ∷ c ∷ c' ∷ [] in
            let deep4 : length ws4 ≡ d + 4 = omega (arith, deep, length-append ws (a ∷ b ∷ c ∷ c' ∷ [])) in
            let ws5 = ws4 ++ 0 ∷ [] in
            let deep5 : length ws5 ≡ d + 5 = omega (arith, deep4, length-append ws4 (0 ∷ [])) in
            let ws6 = ws5 ++ y ∷ [] in
            let deep6 : length ws6 ≡ d + 6 = omega (arith, deep5, length-append ws5 (y ∷ [])) in
            let grow = k_grows (truth_value q) w in
            let x_there : slice_get ws5 x ≡ Some y = get_left ws4 (0 ∷ []) x y (get_left ws (a ∷ b ∷ c ∷ c' ∷ []) x y e) in
            let x'_there : slice_get ws6 x' ≡ Some y' = get_left ws5 (y ∷ []) x' y' (get_left ws4 (0 ∷ []) x' y' (get_left ws (a ∷ b ∷ c ∷ c' ∷ []) x' y' e')) in
            push_sim C M A text_of code base f hand ws4 rest (d + 4) 0 pc acc mem free (push_li C M A base f hand pc acc mem free ws4 (d + 4) deep4 0) has.0 deep4 grow
            (λ rest.
            push_sim C M A text_of code base f hand ws5 rest (d + 5) y (pc + 1) acc mem free (push_mov C M A base f hand (pc + 1) acc mem free ws5 (d + 5) deep5 x y x_there) has.1.0 deep5 grow
            (λ rest.
            push_sim C M A text_of code base f hand ws6 rest (d + 6) y' (pc + 1 + 1) acc mem free (push_mov C M A base f hand (pc + 1 + 1) acc mem free ws6 (d + 6) deep6 x' y' x'_there) has.1.1.0 deep6 grow
            (λ rest.
            let same : ((((ws ++ a ∷ b ∷ c ∷ c' ∷ []) ++ 0 ∷ []) ++ y ∷ []) ++ y' ∷ []) ++ rest ≡ ws ++ a ∷ b ∷ (c ∷ c' ∷ 0 ∷ y ∷ y' ∷ rest) =
            append_assoc ws6 (y' ∷ []) rest ∙ append_assoc ws5 (y ∷ []) (y' ∷ rest) ∙ append_assoc ws4 (0 ∷ []) (y ∷ y' ∷ rest) ∙ append_assoc ws (a ∷ b ∷ c ∷ c' ∷ []) (0 ∷ y ∷ y' ∷ rest) in
            let pc3 = pc + 1 + 1 + 1 in
            subst (λ z. S (at_state pc3 acc z mem free) w lay (k (truth_value q) w)) (sym same)
            (before text_of code base (one_step text_of code base w w (CallRow routine (slot d)) has.1.1.1.0 (does_call C M A base f hand pc3 acc mem free ws d deep a b routine (c ∷ c' ∷ 0 ∷ y ∷ y' ∷ rest)) refl refl)
            (answered q pc3 acc routine (c ∷ c' ∷ 0 ∷ y ∷ y' ∷ rest) free has.1.1.1.1.0 go'
            (subst (λ z. Answers code (record { lower = f.lower ++ (f.back ∷ f.frame ∷ ws); handler = hand; acc = acc; base = base }) (pc3 + 1) (length f.lower) (state_at base (record { lower = f.lower ++ (f.back ∷ f.frame ∷ ws); back = pc3 + 1; frame = length f.lower; hand = hand }) hand z acc (c ∷ c' ∷ 0 ∷ y ∷ y' ∷ rest) mem free) mem q) (sym (stands.types t))
            (N.equal T.types stands.start stands.most code stands.few stands.compares lay (record { lower = f.lower ++ (f.back ∷ f.frame ∷ ws); handler = hand; acc = acc; base = base }) behind (pc3 + 1) (length f.lower) rest v v' t q c c' y y' mem free shows low i i' g))))
            )))
          where
            go' : Onto (pc + 1 + 1 + 1 + 1 + 1)
            go' = let n : pc + 5 ≡ pc + 1 + 1 + 1 + 1 + 1 = omega arith in subst (λ z. Onto z) n go

            behind : 0 < base
            behind = let n = get_within first_lay 0 (stays 0) stands.zero_there in omega arith

        by : (o : Option Bool) → equal_at T.types (get_or T.types t opaque) v v' ≡ o → S (at_state pc acc (ws ++ above) mem free) w lay (then_go hs (or_fail o w (λ q. gives (truth_value q) w)) k)
        by None g = is_wrong w
        by (Some q) g = room above
          where
            no_room : (rest : List ℕ) → length rest ≤ d + 4 → S (at_state pc acc rest mem free) w lay (k (truth_value q) w)
            no_room rest le = cut text_of code base (Li (slot (d + 4)) 0) NoStack (k (truth_value q) w) no_stack has.0 (short C M A base f hand pc acc mem free rest (d + 4) _ le) (k_grows (truth_value q) w)

            room : (above : List ℕ) → S (at_state pc acc (ws ++ above) mem free) w lay (k (truth_value q) w)
            room [] = no_room (ws ++ []) (omega (arith, deep, length-append ws []))
            room (a ∷ []) = no_room (ws ++ a ∷ []) (omega (arith, deep, length-append ws (a ∷ [])))
            room (a ∷ b ∷ []) = no_room (ws ++ a ∷ b ∷ []) (omega (arith, deep, length-append ws (a ∷ b ∷ [])))
            room (a ∷ b ∷ c ∷ []) = no_room (ws ++ a ∷ b ∷ c ∷ []) (omega (arith, deep, length-append ws (a ∷ b ∷ c ∷ [])))
            room (a ∷ b ∷ c ∷ c' ∷ rest) = subst (λ z. S (at_state pc acc z mem free) w lay (k (truth_value q) w)) (append_assoc ws (a ∷ b ∷ c ∷ c' ∷ []) rest) (with_frame q g a b c c' rest)

    op_equal : (t : ℕ) → Op (equal t)
    op_equal t _ _ _ no_args pc acc above free has go = is_wrong w
    op_equal t _ _ _ (an_arg x v y e i no_args) pc acc above free has go = is_wrong w
    op_equal t _ _ _ (an_arg x v y e i (an_arg x' v' y' e' i' no_args)) pc acc above free has go = by (is_word (get_or places.types t opaque)) refl has go
      where
        by : (b : Bool) → is_word (get_or places.types t opaque) ≡ b → HasAt code pc (equal_call places b d t x x') → Onto (pc + equal_size b)
            → S (at_state pc acc (ws ++ above) mem free) w lay (then_go hs (or_fail (equal_at T.types (get_or T.types t opaque) v v') w (λ q. gives (truth_value q) w)) k)
        by true words has go =
            by_words t x x' v v' y y' (subst (λ z. is_word (get_or z t opaque) ≡ true) stands.same_types words) e i e' i' pc acc above free has.0 go
        by false words has go = by_routine t x x' v v' y y' e i e' i' pc acc above free has go
    op_equal t _ _ _ (an_arg x v y e i (an_arg x' v' y' e' i' (an_arg x'' v'' y'' e'' i'' args))) pc acc above free has go = is_wrong w

    pub op_does : (p : Plain) → Op p
    op_does same = op_same
    op_does (constant c) = op_constant c
    op_does (field n) = op_field n
    op_does refer = op_refer
    op_does content = op_content
    op_does assign = op_assign
    op_does (exception n) = op_exception n
    op_does (initial n) = op_initial n
    op_does pack = op_pack
    op_does argument = op_argument
    op_does (compute c p) = op_compute c p
    op_does (equal t) = op_equal t
    op_does print = op_print
