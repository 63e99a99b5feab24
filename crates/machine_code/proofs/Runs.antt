-- The pieces of a new cell: values, and runs of other cells' parts.
use Rattle.std.proofs.Common.{◌≡◌, ℕ, zero, suc, ◌+◌, ◌<◌, ◌≤◌, ◌^◌, List, [], ◌∷◌, ◌++◌, length, take, drop, Option, Some, None, true, ◌&&◌, inr, refl, sym, ap, ◌∙◌, subst, ⊎_elim, arith, append_assoc, length-append, mod-eq_of_lt}
use Rattle.std.specs.Prelude.{slice_get, slice_set, nat_le, ◌==◌}
use Rattle.std.proofs.lemmas.Bool.{cases_lt, le-leb, and_from, or_right}
use Rattle.std.proofs.lemmas.List.{take_at, drop_at}
use Rattle.ir_code.specs.declared.instr.Instr.{Instr}
use Rattle.ir_code.specs.declared.instr.Instr.TheVariants.{WAdd, Copy}
use Rattle.ir_code.specs.Words.{word_sum, write_at}
use Rattle.ir_code.specs.Machine.{State, Goes, may_copy, next}
use Rattle.ir_code.specs.Laws.{ControlLaws, MemoryLaws, ArithmeticLaws}
use Rattle.mlc_runs.specs.Run.{World}
use Rattle.ir_ssa.specs.of_first_values.Values.{Value, cell, Values, Run, Env, at, look_up, first_some, parts_from, parts_of, gather, Piece, one as a_value, run as a_run}
use Rattle.machine_routines.specs.Layout.{Word, AreAt, Shows}
use Rattle.machine_routines.specs.Runs.{HasAt, Frame}
use Rattle.machine_routines.proofs.Seams.{get_left, get_right, get_here, set_here, get_within, cut_at}
use Rattle.machine_routines.proofs.LayoutLemmas.{BytesIn, take_bytes, bytes_more, bytes_end}
use Rattle.machine_routines.proofs.Steps as steps
use Rattle.machine_code.specs.Agrees.{AreAll, none, more}
use Rattle.machine_code.specs.Code.{slot, Scope, depth_in, pieces_size, pieces_count, pieces_code}
use Rattle.machine_code.proofs.Kept.{FoundAt, no_part, at_part, look_at}
use Rattle.machine_code.proofs.Grows.{Grows}
use Rattle.machine_code.proofs.Sim.{Call, state_at, Sim, before, one, huge_here}
use Rattle.machine_code.proofs.Slots.{push_li, whole, whole_get, here_get}
use Rattle.machine_code.proofs.Vars.{Scoped, Found, lost, found, look}
use Rattle.machine_code.proofs.Pieces.{push_sim, store_sim}

-- the words of a run of parts, wherever the layout is shown, before those of what follows
pub data FoundRun (lay : List Word) (y n : ℕ) (rest : Option (List Value)) : Option (List Value) → Type 0 where
  run_lost : FoundRun lay y n rest None
  run_found : (vs us : List Value) (words : List ℕ) → rest ≡ Some us → AreAll lay vs words → length words ≡ n
      → ((m : List ℕ) → Shows lay m → BytesIn m words y) → FoundRun lay y n rest (Some (vs ++ us))

parts_there : (lay : List Word) (n i : ℕ) (vs : Values) (z : ℕ) (rest : Option (List Value)) → AreAt lay vs z → FoundRun lay (z + i) n rest (parts_from i n vs rest)
parts_there lay zero i vs z rest h = by rest refl
  where
    by : (o : Option (List Value)) → rest ≡ o → FoundRun lay (z + i) zero rest o
    by None e = run_lost
    by (Some us) e = run_found [] us [] e none refl (λ m s. tt)
parts_there lay (suc n) i vs z rest h = by (at i vs) (parts_from (suc i) n vs rest) (look_at lay vs z i h) (parts_there lay n (suc i) vs z rest h)
  where
    by : (o : Option Value) (p : Option (List Value)) → FoundAt lay (z + i) o → FoundRun lay (z + suc i) n rest p
        → FoundRun lay (z + i) (suc n) rest (first_some o p)
    by o p no_part q = run_lost
    by o p (at_part v word e is) run_lost = run_lost
    by o p (at_part v word e is) (run_found vs us words r all many there) =
        let k : z + suc i ≡ z + i + 1 = omega arith in
        run_found (v ∷ vs) us (word ∷ words) r (more v word is all) (ap suc many) (λ m s. (s (z + i) word e, subst (λ y. BytesIn m words y) k (there m s)))

-- the words of each piece
pub data Pieces (lay : List Word) (ws : List ℕ) (scope : Scope) : List Piece → List ℕ → Type 0 where
  no_pieces : Pieces lay ws scope [] []
  value_piece : (x y : ℕ) {ps : List Piece} {words : List ℕ} → slice_get ws (depth_in x scope) ≡ Some y → Pieces lay ws scope ps words
      → Pieces lay ws scope (a_value x ∷ ps) (y ∷ words)
  empty_piece : (x from : ℕ) {ps : List Piece} {words : List ℕ} → Pieces lay ws scope ps words → Pieces lay ws scope (a_run x from zero ∷ ps) words
  run_piece : (x from n cw y : ℕ) (part : List ℕ) {ps : List Piece} {words : List ℕ} → slice_get ws (depth_in x scope) ≡ Some cw → length part ≡ n
      → ((m : List ℕ) → Shows lay m → BytesIn m (y ∷ part) (cw + suc from)) → Pieces lay ws scope ps words
      → Pieces lay ws scope (a_run x from (suc n) ∷ ps) (y ∷ (part ++ words))

pub data FoundPieces (lay : List Word) (ws : List ℕ) (scope : Scope) (ps : List Piece) : Option (List Value) → Type 0 where
  pieces_lost : FoundPieces lay ws scope ps None
  pieces_found : (vs : List Value) (words : List ℕ) → AreAll lay vs words → Pieces lay ws scope ps words → FoundPieces lay ws scope ps (Some vs)

all_both : (lay : List Word) {us vs : List Value} {xs ys : List ℕ} → AreAll lay us xs → AreAll lay vs ys → AreAll lay (us ++ vs) (xs ++ ys)
all_both lay none k = k
all_both lay (more v x i h) k = more v x i (all_both lay h k)

pub look_pieces : (lay : List Word) (ws : List ℕ) {scope : Scope} {env : Env} (ps : List Piece) → Scoped lay ws scope env → FoundPieces lay ws scope ps (gather ps env)
look_pieces lay ws [] h = pieces_found [] [] none no_pieces
look_pieces lay ws {scope} {env} (a_value x ∷ ps) h = by (look_up x env) (gather ps env) (look lay ws x h) (look_pieces lay ws ps h)
  where
    by : (o : Option Value) (p : Option (List Value)) → Found lay ws (depth_in x scope) o → FoundPieces lay ws scope ps p → FoundPieces lay ws scope (a_value x ∷ ps) (first_some o p)
    by o p lost q = pieces_lost
    by o p (found v y e i) pieces_lost = pieces_lost
    by o p (found v y e i) (pieces_found vs words all later) = pieces_found (v ∷ vs) (y ∷ words) (more v y i all) (value_piece x y e later)
look_pieces lay ws {scope} {env} (a_run x from n ∷ ps) h = by (look_up x env) (gather ps env) (look lay ws x h) (look_pieces lay ws ps h)
  where
    -- the run's words before those of what follows
    joined : (k cw : ℕ) (vs us us' : List Value) (words words' : List ℕ) → us' ≡ us → AreAll lay vs words → length words ≡ k
        → ((m : List ℕ) → Shows lay m → BytesIn m words (cw + suc from)) → slice_get ws (depth_in x scope) ≡ Some cw → AreAll lay us' words' → Pieces lay ws scope ps words'
        → FoundPieces lay ws scope (a_run x from k ∷ ps) (Some (vs ++ us))
    joined zero cw vs us us' [] words' s all many there g all' later =
        pieces_found (vs ++ us) words' (all_both lay all (subst (λ z. AreAll lay z words') s all')) (empty_piece x from later)
    joined zero cw vs us us' (y ∷ words) words' s all many there g all' later = absurd (omega arith)
    joined (suc k) cw vs us us' [] words' s all many there g all' later = absurd (omega arith)
    joined (suc k) cw vs us us' (y ∷ words) words' s all many there g all' later =
        pieces_found (vs ++ us) (y ∷ (words ++ words')) (all_both lay all (subst (λ z. AreAll lay z words') s all')) (run_piece x from k cw y words g (omega arith) there later)

    both : (cw : ℕ) (p o : Option (List Value)) → FoundRun lay (cw + 1 + from) n p o → slice_get ws (depth_in x scope) ≡ Some cw → FoundPieces lay ws scope ps p
        → FoundPieces lay ws scope (a_run x from n ∷ ps) o
    both cw p o run_lost g q = pieces_lost
    both cw p o (run_found vs us words r all many there) g pieces_lost = absurd (cc)
    both cw p o (run_found vs us words r all many there) g (pieces_found us' words' all' later) =
        let s : us' ≡ us = cc in
        let k : cw + 1 + from ≡ cw + suc from = omega arith in
        joined n cw vs us us' words words' s all many (λ m z. subst (λ y. BytesIn m words y) k (there m z)) g all' later

    by : (o : Option Value) (p : Option (List Value)) → Found lay ws (depth_in x scope) o → FoundPieces lay ws scope ps p → FoundPieces lay ws scope (a_run x from n ∷ ps) (parts_of from n o p)
    by o p lost q = pieces_lost
    by o p (found (cell t vs') cw e i) q = both cw p (parts_from from n vs' p) (parts_there lay n from vs' (cw + 1) p i.1) e q
    by o p (found v y e i) q = pieces_lost

-- a copy into new words
copied : (mem don junk1 junk2 part free : List ℕ) (y : ℕ) → y ≡ length mem + length don → length junk1 ≡ length part → write_at ((mem ++ (don ++ (junk1 ++ junk2))) ++ free) y part ≡ (mem ++ ((don ++ part) ++ junk2)) ++ free
copied mem don junk1 junk2 part free y e l =
    let pre = mem ++ don in
    let n : length pre ≡ y = omega (arith, length-append mem don) in
    let whole : (mem ++ (don ++ (junk1 ++ junk2))) ++ free ≡ pre ++ (junk1 ++ (junk2 ++ free)) =
    ap (λ z. z ++ free) (sym (append_assoc mem don (junk1 ++ junk2))) ∙ append_assoc pre (junk1 ++ junk2) free ∙ ap (λ z. pre ++ z) (append_assoc junk1 junk2 free) in
    let front : take y (pre ++ (junk1 ++ (junk2 ++ free))) ≡ pre = take_at pre (junk1 ++ (junk2 ++ free)) y n in
    let pre1 = pre ++ junk1 in
    let n1 : length pre1 ≡ y + length part = omega (arith, n, length-append pre junk1) in
    let whole1 : pre ++ (junk1 ++ (junk2 ++ free)) ≡ pre1 ++ (junk2 ++ free) = sym (append_assoc pre junk1 (junk2 ++ free)) in
    let back : drop (y + length part) (pre1 ++ (junk2 ++ free)) ≡ junk2 ++ free = drop_at pre1 (junk2 ++ free) (y + length part) n1 in
    let end : (mem ++ ((don ++ part) ++ junk2)) ++ free ≡ pre ++ (part ++ (junk2 ++ free)) =
    ap (λ z. (mem ++ z) ++ free) (append_assoc don part junk2) ∙ ap (λ z. z ++ free) (sym (append_assoc mem don (part ++ junk2))) ∙ append_assoc pre (part ++ junk2) free ∙ ap (λ z. pre ++ z) (append_assoc part junk2 free) in
    ap (λ z. write_at z y part) whole
    ∙ ap (λ z. z ++ (part ++ drop (y + length part) (pre ++ (junk1 ++ (junk2 ++ free))))) front
    ∙ ap (λ z. pre ++ (part ++ drop (y + length part) z)) whole1
    ∙ ap (λ z. pre ++ (part ++ z)) back
    ∙ sym end

module _ (C : ControlLaws) (M : MemoryLaws) (A : ArithmeticLaws) (text_of : ℕ → List ℕ) (code : List Instr) (base : ℕ) (f : Call) (hand : ℕ) where
  abbrev at_place : ℕ → ℕ → List ℕ → List ℕ → List ℕ → State
  at_place pc acc rest mem free = state_at base f hand pc acc rest mem free

  -- a sum with the word in the slot behind those of the frame, where it is no more than a word
  adds : {w : World Value} {g : Call} {lay : List Word} {r : Run Value} (ws rest mem free : List ℕ) (d x v a pc acc : ℕ) → length ws ≡ d → slice_get ws x ≡ Some v → v + a < 2 ^ 32 → slice_get code pc ≡ Some (WAdd (slot d) (slot x) (slot d)) → Sim text_of code base (at_place (pc + 1) acc ((ws ++ (v + a) ∷ []) ++ rest) mem free) w g lay r → Sim text_of code base (at_place pc acc ((ws ++ a ∷ []) ++ rest) mem free) w g lay r
  adds {w} {g} {lay} {r} ws rest mem free d x v a pc acc deep e small has go =
      let zs = whole C M A base f hand pc acc mem free (ws ++ a ∷ rest) in
      let sum : word_sum v a ≡ v + a = mod-eq_of_lt small in
      let long : slot d < length zs = omega (arith, length-append ws (a ∷ rest)) in
      subst (λ z. Sim text_of code base (at_place pc acc z mem free) w g lay r) (sym (append_assoc ws (a ∷ []) rest))
      (before text_of code base (one text_of code base w w (WAdd (slot d) (slot x) (slot d)) has
      (steps.does_two C M A frame pc zs mem free WAdd word_sum A.wadd (slot d) (slot x) (slot d) v a long (whole_get C M A base f hand pc acc mem free ws (a ∷ rest) x v e) (here_get C M A base f hand pc acc mem free ws rest a d deep)
      ∙ ap (λ z. Goes (at_place (pc + 1) acc z mem free)) (set_at z_sum)
      ∙ ap (λ z. Goes (at_place (pc + 1) acc ((ws ++ z ∷ []) ++ rest) mem free)) sum) refl refl) go)
    where
      frame : Frame
      frame = record { lower = f.lower; handler = hand; acc = acc; base = base }

      z_sum : ℕ
      z_sum = word_sum v a

      set_at : (z : ℕ) → slice_set (ws ++ a ∷ rest) d z ≡ (ws ++ z ∷ []) ++ rest
      set_at z = subst (λ n. slice_set (ws ++ a ∷ rest) n z ≡ (ws ++ z ∷ []) ++ rest) deep (set_here ws rest a z ∙ sym (append_assoc ws (z ∷ []) rest))

  module _ (lay : List Word) (ws mem : List ℕ) (scope : Scope) (show : Shows lay mem) (low : base ≤ length mem) (inside_mem : length lay ≤ length mem) (d : ℕ) (deep : length ws ≡ d) where
    abbrev m : ℕ
    m = length mem

    abbrev ws1 : List ℕ
    ws1 = ws ++ length mem ∷ []

    -- so many words from one place of the memory to another
    copy_step : {w : World Value} {g : Call} {lay0 : List Word} {r : Run Value} (don junk1 junk2 part rest free : List ℕ) (i cw from pc acc : ℕ) → length don ≡ i → length junk1 ≡ length part → BytesIn mem part (cw + suc from) → cw + suc from ≤ length mem → slice_get code pc ≡ Some (Copy (slot (suc d)) (slot (d + 2)) (slot (d + 3)))
        → Sim text_of code base (at_place (pc + 1) acc ((ws ++ length mem ∷ []) ++ ((length mem + i) ∷ (cw + suc from) ∷ length part ∷ rest)) (mem ++ ((don ++ part) ++ junk2)) free) w g lay0 r
        → Sim text_of code base (at_place pc acc ((ws ++ length mem ∷ []) ++ ((length mem + i) ∷ (cw + suc from) ∷ length part ∷ rest)) (mem ++ (don ++ (junk1 ++ junk2))) free) w g lay0 r
    copy_step {w} {g} {lay0} {r} don junk1 junk2 part rest free i cw from pc acc l l1 bytes within has go =
        let y = length mem + i in
        let x = cw + suc from in
        let n = length part in
        let zs = ws1 ++ (y ∷ x ∷ n ∷ rest) in
        let big = mem ++ (don ++ (junk1 ++ junk2)) in
        let s = at_place pc acc zs big free in
        let deep1 : length ws1 ≡ suc d = omega (arith, deep, length-append ws (length mem ∷ [])) in
        let at_y : slice_get zs (suc d) ≡ Some y = subst (λ k. slice_get zs k ≡ Some y) (let e : length ws1 + 0 ≡ suc d = omega arith in e) (get_right ws1 (y ∷ x ∷ n ∷ rest) 0) in
        let at_x : slice_get zs (d + 2) ≡ Some x = subst (λ k. slice_get zs k ≡ Some x) (let e : length ws1 + 1 ≡ d + 2 = omega arith in e) (get_right ws1 (y ∷ x ∷ n ∷ rest) 1) in
        let at_n : slice_get zs (d + 3) ≡ Some n = subst (λ k. slice_get zs k ≡ Some n) (let e : length ws1 + 2 ≡ d + 3 = omega arith in e) (get_right ws1 (y ∷ x ∷ n ∷ rest) 2) in
        let vs = whole C M A base f hand pc acc big free zs in
        let size : length big ≡ length mem + (length don + (length junk1 + length junk2)) = omega (arith, length-append mem (don ++ (junk1 ++ junk2)), length-append don (junk1 ++ junk2), length-append junk1 junk2) in
        let end = bytes_end mem part x within bytes in
        let read : nat_le (x + n) (length big) ≡ true = le-leb _ _ (omega arith) in
        let from_base : nat_le base y ≡ true = le-leb _ _ (omega arith) in
        let write : nat_le (y + n) (length big) ≡ true = le-leb _ _ (omega arith) in
        let may : may_copy s x y n ≡ true = or_right (n == 0) (nat_le (x + n) (length big) && (nat_le base y && nat_le (y + n) (length big))) (and_from (nat_le (x + n) (length big)) (nat_le base y && nat_le (y + n) (length big)) read (and_from (nat_le base y) (nat_le (y + n) (length big)) from_base write)) in
        let taken : take n (drop x (big ++ free)) ≡ part = take_bytes (big ++ free) part x (bytes_more big free part x (bytes_more mem (don ++ (junk1 ++ junk2)) part x bytes)) in
        let new = mem ++ ((don ++ part) ++ junk2) in
        let same : length big ≡ length new = omega (arith, size, length-append mem ((don ++ part) ++ junk2), length-append (don ++ part) junk2, length-append don part) in
        let y_is : y ≡ length mem + length don = omega arith in
        before text_of code base (one text_of code base w w (Copy (slot (suc d)) (slot (d + 2)) (slot (d + 3))) has
        (M.copy s (slot (suc d)) (slot (d + 2)) (slot (d + 3)) y x n (steps.holds C M A (frame acc) pc vs big free (slot (suc d)) y at_y) (steps.holds C M A (frame acc) pc vs big free (slot (d + 2)) x at_x) (steps.holds C M A (frame acc) pc vs big free (slot (d + 3)) n at_n) may
        ∙ ap (λ z. Goes (next (record s { memory = write_at (big ++ free) y z }))) taken
        ∙ ap (λ z. Goes (next (record s { memory = z }))) (copied mem don junk1 junk2 part free y y_is l1)
        ∙ ap (λ z. Goes (record (at_place (pc + 1) acc zs big free) { memory = new ++ free; limit = z })) same) refl refl) go
      where
        frame : ℕ → Frame
        frame acc = record { lower = f.lower; handler = hand; acc = acc; base = base }

    pub pieces_sim : {w : World Value} {g : Call} {lay0 : List Word} {r : Run Value} (qs : List Piece) (words above don junk : List ℕ) (i pc q acc : ℕ) (free : List ℕ) → HasAt code pc (pieces_code d i scope qs) → length don ≡ i → length junk ≡ pieces_count qs → Pieces lay ws scope qs words → pc + pieces_size qs ≡ q → Grows w r
        → ((above' : List ℕ) → Sim text_of code base (at_place q acc ((ws ++ length mem ∷ []) ++ above') (mem ++ (don ++ words)) free) w g lay0 r) → Sim text_of code base (at_place pc acc ((ws ++ length mem ∷ []) ++ above) (mem ++ (don ++ junk)) free) w g lay0 r
    pieces_sim {w} {g} {lay0} {r} qs words above don [] i pc q acc free has l n no_pieces end grow go =
        let p : q ≡ pc = omega arith in subst (λ k. Sim text_of code base (at_place k acc ((ws ++ length mem ∷ []) ++ above) (mem ++ (don ++ [])) free) w g lay0 r) p (go above)
    pieces_sim qs words above don (j ∷ junk) i pc q acc free has l n no_pieces end grow go = absurd (omega arith)
    pieces_sim qs words above don [] i pc q acc free has l n (value_piece x y e later) end grow go = absurd (omega arith)
    pieces_sim {w} {g} {lay0} {r} qs words above don (j ∷ junk) i pc q acc free has l n (value_piece x y {ps = ps} {words = rest} e later) end grow go =
        let zs = (ws ++ length mem ∷ []) ++ above in
        let at_d : slice_get zs d ≡ Some (length mem) = get_left (ws ++ length mem ∷ []) above d (length mem) (subst (λ k. slice_get (ws ++ length mem ∷ []) k ≡ Some (length mem)) deep (get_here ws [] (length mem))) in
        let at_x : slice_get zs (depth_in x scope) ≡ Some y = get_left (ws ++ length mem ∷ []) above (depth_in x scope) y (get_left ws (length mem ∷ []) (depth_in x scope) y e) in
        store_sim C M A text_of code base f hand zs mem don junk free j d i (depth_in x scope) y pc acc has.0 low l at_d at_x
        (subst (λ z. Sim text_of code base (at_place (pc + 1) acc zs (mem ++ z) free) w g lay0 r) (append_assoc don (y ∷ []) junk)
        (pieces_sim ps rest above (don ++ y ∷ []) junk (suc i) (pc + 1) q acc free has.1 (omega (arith, length-append don (y ∷ []))) (omega arith) later (omega arith) grow
        (λ above'. subst (λ z. Sim text_of code base (at_place q acc ((ws ++ length mem ∷ []) ++ above') (mem ++ z) free) w g lay0 r) (sym (append_assoc don (y ∷ []) rest)) (go above'))))
    pieces_sim {w} {g} {lay0} {r} qs words above don junk i pc q acc free has l n (empty_piece x from {ps = ps} {words = rest} later) end grow go =
        pieces_sim ps rest above don junk i pc q acc free has l (omega (arith, n)) later end grow go
    pieces_sim {w} {g} {lay0} {r} qs words above don junk i pc q acc free has l n (run_piece x from k' cw y part' {ps = ps} {words = rest} e many' there later) end grow go =
        ⊎_elim
        (λ small.
        let c = cut_at k junk (omega arith) in
        let split = c.2 in
        push_sim C M A text_of code base f hand ws1 above (suc d) i pc acc big free (push_li C M A base f hand pc acc big free ws1 (suc d) deep1 i) has.0 deep1 grow
        (λ r1. adds ws1 r1 big free (suc d) d (length mem) i (pc + 1) acc deep1 at_d (omega (arith, size)) has.1.0
        (push_sim C M A text_of code base f hand ws2 r1 (d + 2) (suc from) (pc + 1 + 1) acc big free (push_li C M A base f hand (pc + 1 + 1) acc big free ws2 (d + 2) deep2 (suc from)) has.1.1.0 deep2 grow
        (λ r2. adds ws2 r2 big free (d + 2) (depth_in x scope) cw (suc from) (pc + 1 + 1 + 1) acc deep2 at_x (omega (arith, size, within)) has.1.1.1.0
        (push_sim C M A text_of code base f hand ws3 r2 (d + 3) k (pc + 1 + 1 + 1 + 1) acc big free (push_li C M A base f hand (pc + 1 + 1 + 1 + 1) acc big free ws3 (d + 3) deep3 k) has.1.1.1.1.0 deep3 grow
        (λ r3. after c.0 c.1 split (c.3 ∙ sym many) r3
        (λ above' junk2 h. pieces_sim ps rest above' (don ++ part) junk2 (i + k) (pc + 1 + 1 + 1 + 1 + 1 + 1) q acc free has.1.1.1.1.1.1 (omega (arith, many, length-append don part)) h later (omega arith) grow
        (λ above''. subst (λ z. Sim text_of code base (at_place q acc ((ws ++ length mem ∷ []) ++ above'') (mem ++ z) free) w g lay0 r) (sym (append_assoc don part rest)) (go above'')))))))))
        (λ le. huge_here text_of code base r (inr (omega (arith, le, length-append (mem ++ (don ++ junk)) free))))
        (cases_lt (length (mem ++ (don ++ junk))) (2 ^ 31))
      where
        part : List ℕ
        part = y ∷ part'

        k : ℕ
        k = suc k'

        many : suc (length part') ≡ suc k'
        many = ap suc many'

        within : cw + suc from ≤ length mem
        within = let b = there mem show in let lt = get_within mem (cw + suc from) y b.0 in omega arith

        big : List ℕ
        big = mem ++ (don ++ junk)

        size : length (mem ++ (don ++ junk)) ≡ length mem + (length don + length junk)
        size = omega (arith, length-append mem (don ++ junk), length-append don junk)

        ws2 : List ℕ
        ws2 = (ws ++ length mem ∷ []) ++ (length mem + i) ∷ []

        ws3 : List ℕ
        ws3 = ((ws ++ length mem ∷ []) ++ (length mem + i) ∷ []) ++ (cw + suc from) ∷ []

        deep1 : length (ws ++ length mem ∷ []) ≡ suc d
        deep1 = omega (arith, deep, length-append ws (length mem ∷ []))

        deep2 : length ((ws ++ length mem ∷ []) ++ (length mem + i) ∷ []) ≡ d + 2
        deep2 = omega (arith, deep1, length-append (ws ++ length mem ∷ []) ((length mem + i) ∷ []))

        deep3 : length (((ws ++ length mem ∷ []) ++ (length mem + i) ∷ []) ++ (cw + suc from) ∷ []) ≡ d + 3
        deep3 = omega (arith, deep2, length-append ((ws ++ length mem ∷ []) ++ (length mem + i) ∷ []) ((cw + suc from) ∷ []))

        at_d : slice_get (ws ++ length mem ∷ []) d ≡ Some (length mem)
        at_d = subst (λ k. slice_get (ws ++ length mem ∷ []) k ≡ Some (length mem)) deep (get_here ws [] (length mem))

        at_x : slice_get ((ws ++ length mem ∷ []) ++ (length mem + i) ∷ []) (depth_in x scope) ≡ Some cw
        at_x = get_left (ws ++ length mem ∷ []) ((length mem + i) ∷ []) (depth_in x scope) cw (get_left ws (length mem ∷ []) (depth_in x scope) cw e)

        after : (junk1 junk2 : List ℕ) → junk ≡ junk1 ++ junk2 → length junk1 ≡ length part → (r3 : List ℕ) → ((above' junk2 : List ℕ) → length junk2 ≡ pieces_count ps → Sim text_of code base (at_place (pc + 1 + 1 + 1 + 1 + 1 + 1) acc ((ws ++ length mem ∷ []) ++ above') (mem ++ ((don ++ part) ++ junk2)) free) w g lay0 r) → Sim text_of code base (at_place (pc + 1 + 1 + 1 + 1 + 1) acc (((((ws ++ length mem ∷ []) ++ (length mem + i) ∷ []) ++ (cw + suc from) ∷ []) ++ k ∷ []) ++ r3) (mem ++ (don ++ junk)) free) w g lay0 r
        after junk1 junk2 e l1 r3 onward =
            let y = length mem + i in
            let x' = cw + suc from in
            let stack : ((((ws ++ length mem ∷ []) ++ y ∷ []) ++ x' ∷ []) ++ k ∷ []) ++ r3 ≡ (ws ++ length mem ∷ []) ++ (y ∷ x' ∷ length part ∷ r3) =
            append_assoc ws3 (k ∷ []) r3 ∙ append_assoc ws2 (x' ∷ []) (k ∷ r3) ∙ append_assoc (ws ++ length mem ∷ []) (y ∷ []) (x' ∷ k ∷ r3) ∙ ap (λ z. (ws ++ length mem ∷ []) ++ (y ∷ x' ∷ z ∷ r3)) (sym many) in
            let pc5 = pc + 1 + 1 + 1 + 1 + 1 in
            subst (λ z. Sim text_of code base (at_place pc5 acc z (mem ++ (don ++ junk)) free) w g lay0 r) (sym stack)
            (subst (λ z. Sim text_of code base (at_place pc5 acc ((ws ++ length mem ∷ []) ++ (y ∷ x' ∷ length part ∷ r3)) (mem ++ (don ++ z)) free) w g lay0 r) (sym e)
            (copy_step don junk1 junk2 part r3 free i cw from pc5 acc l l1 (there mem show) within has.1.1.1.1.1.0
            (onward (y ∷ x' ∷ length part ∷ r3) junk2 (omega (arith, many, ap length e, length-append junk1 junk2)))))
