-- What the image has before a program runs; and primitives, by what their code does.
use Rattle.std.proofs.Common.{◌≡◌, ℕ, ◌+◌, ◌<◌, ◌≤◌, ◌^◌, List, [], ◌∷◌, ◌++◌, length, map, Option, Some, None, Bool, true, false, inr, refl, sym, ap, ◌∙◌, subst, ⊎_elim, arith, length-append}
use Rattle.std.specs.Prelude.{ℤ, pos as positive, negsuc, slice_get, nat_lt, option_map, if◌then◌else◌}
use Rattle.std.specs.Int.{cast_unsigned, w32}
use Rattle.std.proofs.lemmas.Bool.{cases_lt, ltb-true}
use Rattle.ir_code.specs.declared.instr.Instr.{Instr}
use Rattle.ir_code.specs.declared.halt.Halt.TheVariants.{NoHeap, NoStack}
use Rattle.ir_code.specs.Words.{fits_word, word_of, one_if}
use Rattle.ir_ssa.specs.of_ir_values.Primitives.{raised_name}
use Rattle.mlc_runs.specs.Run.{World}
use Rattle.mlc_prims.specs.LitOf.{Literal, int, word, char, string, truth}
use Rattle.mlc_prims.specs.PrimOf.{Gives, made, raised, fits_int}
use Rattle.mlc_prims.specs.declared.basis.BasisPrimitive.{BasisPrimitive}
use Rattle.mlc_prims.specs.declared.prim.PrimExn.{PrimExn}
use Rattle.ir_ssa.specs.of_first_values.Values.{Value, literal, packet, unit, truth_value, value_of, Run}
use Rattle.ir_ssa.specs.of_first_values.Operations.{Operands, Tables, Constant, an_int, a_word, a_char, a_text, a_truth, literal_at, literals, row_at}
use Rattle.machine_routines.specs.Layout.{Word, stays, is_name, nth_at, TextAt, Is}
use Rattle.machine_routines.specs.Runs.{HasAt, Frame}
use Rattle.machine_routines.specs.EqualCode.{offset_of, place, equal_code}
use Rattle.machine_routines.proofs.Seams.{get_left}
use Rattle.machine_code.specs.Agrees.{Begins}
use Rattle.machine_code.specs.Rows.{HoldAll, no_operand, an_operand, Ready, Comes, comes, lacks_heap, lacks_stack, Passes, passes, given, way_on, Packets, late_code, later, WhenRaised, WithLate, AreRight}
use Rattle.machine_code.specs.Rows as rows
use Rattle.machine_code.specs.Code.{slot, or_zero, Places, constant_word}
use Rattle.machine_code.proofs.Kept.{begins_more, is_kept, text_kept, NoReferences, agrees_length, grown_by, shown}
use Rattle.machine_code.proofs.Grows.{Grows}
use Rattle.machine_code.proofs.Sim.{no_heap, no_stack, Call, state_at, Fits, Sim, before, wider, huge_here, some as some_steps, cut_by}
use Rattle.machine_code.proofs.Vars.{Args, no_args, an_arg}

-- The words 0 and 1, texts, names, packets, and the routine of comparisons stand in the image; and the code of primitives is right.
pub record Stands (code : List Instr) (first_lay : List Word) (text_of : ℕ → List ℕ) (T : Tables) (at : Places) : Type 0 where
  pub no_references : NoReferences first_lay
  pub zero_there : slice_get first_lay 0 ≡ Some (stays 0)
  pub one_there : slice_get first_lay 1 ≡ Some (stays 1)
  pub texts : (i : ℕ) (t : List ℕ) → slice_get T.strings i ≡ Some t → TextAt first_lay t (at.text_at i)
  pub texts_of : (i : ℕ) → TextAt first_lay (text_of i) (at.name_at i)
  pub first_names : (n i : ℕ) → slice_get T.initial n ≡ Some i → nth_at is_name first_lay n ≡ Some (at.initial_at n)
  pub packets : (e : PrimExn) → Is first_lay (packet (raised_name e) unit) (at.packet_at e)
  pub right : AreRight at.rows
  pub start : ℕ
  pub most : ℕ
  pub few : length code ≤ most
  pub compares : HasAt code start (equal_code T.types start most)
  pub same_types : at.types ≡ T.types
  pub types : (t : ℕ) → at.type_at t ≡ place T.types start most (offset_of T.types t)

use_late : (o : Option PrimExn) (g : Gives) (code : List Instr) (other : ℕ) (packets : Packets) (d : ℕ) {X : Type 0} → WhenRaised g (HasAt code other (late_code o packets d))
    → WithLate o g code other packets d X → X
use_late None g code other packets d h x = x
use_late (Some e) g code other packets d h x = x h

pub when_raised : (g : Gives) {X : Type 0} → X → WhenRaised g X
when_raised (made l) x = tt
when_raised (raised e) x = x

-- operands, where all are constants
pub data FoundOperands (lay : List Word) (front xs : List ℕ) : Option (List Literal) → Type 0 where
  no_literals : FoundOperands lay front xs None
  are_literals : (ls : List Literal) → HoldAll lay front xs ls → FoundOperands lay front xs (Some ls)

pub operands : (lay : List Word) (back frame : ℕ) (ws : List ℕ) {xs : List ℕ} {vs : List Value} {ys : List ℕ} → Args lay ws xs vs ys
    → FoundOperands lay (back ∷ frame ∷ ws) (map slot xs) (literals vs)
operands lay back frame ws no_args = are_literals [] no_operand
operands lay back frame ws (an_arg x (literal l) y {ds = xs} {vs = vs} e i args) = by (literals vs) (operands lay back frame ws args)
  where
    by : (o : Option (List Literal)) → FoundOperands lay (back ∷ frame ∷ ws) (map slot xs) o
        → FoundOperands lay (back ∷ frame ∷ ws) (map slot (x ∷ xs)) (option_map (λ ls. l ∷ ls) o)
    by o no_literals = no_literals
    by o (are_literals ls h) = are_literals (l ∷ ls) (an_operand (slot x) l y e i h)
operands lay back frame ws (an_arg x v y e i args) = no_literals

fits_same : (z : ℤ) → fits_word z ≡ fits_int z
fits_same (positive n) = refl
fits_same (negsuc n) = refl

module _ (text_of : ℕ → List ℕ) (code : List Instr) (first_lay : List Word) (T : Tables) (places : Places) (stands : Stands code first_lay text_of T places) where
  abbrev base : ℕ
  base = length first_lay

  pub low_of : (lay : List Word) (mem : List ℕ) (w : World Value) → Begins first_lay lay → Fits text_of lay mem w → base ≤ length mem
  low_of lay mem w p g =
      let e = ap length p.is in let n = agrees_length text_of g in
      omega (arith, e, n, length-append first_lay p.rest)

  -- the words 0 and 1 are the truth values, and 0 is the unit
  pub zero_is : (l : List Word) → Begins first_lay l → slice_get l 0 ≡ Some (stays 0)
  zero_is l b = subst (λ z. slice_get z 0 ≡ Some (stays 0)) (sym b.is) (get_left first_lay b.rest 0 (stays 0) stands.zero_there)

  pub one_is : (l : List Word) → Begins first_lay l → slice_get l 1 ≡ Some (stays 1)
  one_is l b = subst (λ z. slice_get z 1 ≡ Some (stays 1)) (sym b.is) (get_left first_lay b.rest 1 (stays 1) stands.one_there)

  pub truth_is : (l : List Word) (q : Bool) → Begins first_lay l → Is l (truth_value q) (one_if q)
  truth_is l false b = (zero_is l b, tt)
  truth_is l true b = (one_is l b, tt)

  -- the word of a constant
  pub constant_is : (lay : List Word) → Begins first_lay lay → (c : Constant) (l : Literal) → literal_at T c ≡ Some l → Is lay (value_of l) (constant_word places c)
  constant_is lay kept (an_int z) l e = by (fits_int z) refl e
    where
      by : (b : Bool) → fits_int z ≡ b → option_map int (if b then Some z else None) ≡ Some l → Is lay (value_of l) (or_zero (word_of z))
      by true g h =
          let s : int z ≡ l = cc in
          let k : word_of z ≡ Some (cast_unsigned w32 z) = ap (λ b. if b then Some (cast_unsigned w32 z) else None) (fits_same z ∙ g) in
          subst (λ k. Is lay (value_of k) (or_zero (word_of z))) s (k ∙ ap Some (sym (ap or_zero k)))
      by false g h = absurd (cc)
  constant_is lay kept (a_word n) l e = by (nat_lt n (2 ^ 32)) refl e
    where
      by : (b : Bool) → nat_lt n (2 ^ 32) ≡ b → option_map word (if b then Some n else None) ≡ Some l → Is lay (value_of l) n
      by true g h = let s : word n ≡ l = cc in subst (λ k. Is lay (value_of k) n) s (refl, ltb-true n (2 ^ 32) g)
      by false g h = absurd (cc)
  constant_is lay kept (a_char n) l e = by (nat_lt n 256) refl e
    where
      by : (b : Bool) → nat_lt n 256 ≡ b → option_map char (if b then Some n else None) ≡ Some l → Is lay (value_of l) n
      by true g h = let s : char n ≡ l = cc in subst (λ k. Is lay (value_of k) n) s (refl, ltb-true n 256 g)
      by false g h = absurd (cc)
  constant_is lay kept (a_text i) l e = by (slice_get T.strings i) refl e
    where
      by : (o : Option (List ℕ)) → slice_get T.strings i ≡ o → option_map string o ≡ Some l → Is lay (value_of l) (places.text_at i)
      by None g h = absurd (cc)
      by (Some t) g h =
          let s : string t ≡ l = cc in
          subst (λ k. Is lay (value_of k) (places.text_at i)) s (text_kept first_lay lay t (places.text_at i) kept (stands.texts i t g))
  constant_is lay kept (a_truth b) l e = let s : truth b ≡ l = cc in subst (λ k. Is lay (value_of k) (one_if b)) s (truth_is lay b kept)

  module _ (f : Call) (hand : ℕ) (w : World Value) (lay : List Word) (mem ws : List ℕ) (d : ℕ) (kept : Begins first_lay lay) (fits : Fits text_of lay mem w) (deep : length ws ≡ d) where
    abbrev frame : ℕ → Frame
    frame acc = record { lower = f.lower; handler = hand; acc = acc; base = base }

    abbrev front : List ℕ
    front = f.back ∷ f.frame ∷ ws

    ready : (acc : ℕ) (free : List ℕ) → length (mem ++ free) < 2 ^ 31 → Ready (frame acc) lay mem free
    ready acc free lt = record {
      shows = λ x y e. shown text_of fits x y e;
      whole = sym (agrees_length text_of fits);
      truths = λ b. truth_is lay b kept;
      low = low_of lay mem w kept fits;
      small = lt;
    }

    -- a primitive, and what comes after it with its value or with its packet
    pub primitive_sim : (k : Operands) (p : BasisPrimitive) (xs : List ℕ) (ls : List Literal) (g : Gives) → HoldAll lay front (map slot xs) ls → row_at k p ls ≡ Some g
        → (pc other acc : ℕ) (above free : List ℕ) (r : Run Value) → HasAt code pc (places.rows.code k p places.packet_at pc (slot d) other (map slot xs))
        → WhenRaised g (HasAt code other (late_code (places.rows.late k p) places.packet_at (slot d))) → Grows w r
        → ((y acc' : ℕ) (above' mem' free' : List ℕ) (lay' : List Word) → Begins lay lay' → Is lay' (given g) y → Fits text_of lay' mem' w
        → Sim text_of code base (state_at base f hand (way_on g (pc + places.rows.size k p) (later (places.rows.late k p) other)) acc' ((ws ++ y ∷ []) ++ above') mem' free') w f lay' r)
        → Sim text_of code base (state_at base f hand pc acc (ws ++ above) mem free) w f lay r
    primitive_sim k p xs ls g hold row pc other acc above free r has late grow go =
        ⊎_elim
        (λ lt. on (use_late (places.rows.late k p) g code other places.packet_at (slot (length ws))
        (subst (λ n. WhenRaised g (HasAt code other (late_code (places.rows.late k p) places.packet_at (slot n)))) (sym deep) late)
        (stands.right.does code (frame acc) lay front above mem free (ready acc free lt) k p (map slot xs) ls g hold row places.packet_at
        (λ e. is_kept first_lay lay (packet (raised_name e) unit) (places.packet_at e) kept (stands.packets e)) pc other
        (subst (λ n. HasAt code pc (places.rows.code k p places.packet_at pc (slot n) other (map slot xs))) (sym deep) has))))
        (λ le. huge_here text_of code base r (inr le))
        (cases_lt (length (mem ++ free)) (2 ^ 31))
      where
        on : Comes code (frame acc) lay front mem (given g) (way_on g (pc + places.rows.size k p) (later (places.rows.late k p) other)) (state_at base f hand pc acc (ws ++ above) mem free)
            → Sim text_of code base (state_at base f hand pc acc (ws ++ above) mem free) w f lay r
        on (comes y acc' above' new free' is a pos) =
            let lay' = lay ++ map stays new in
            let b = begins_more lay (map stays new) in
            before text_of code base (some_steps text_of code base w a)
            (wider text_of code base lay lay' b (go y acc' above' (mem ++ new) free' lay' b is (grown_by text_of lay mem new w.store w.exceptions fits)))
        on (lacks_heap c) = cut_by text_of code base NoHeap r no_heap c grow
        on (lacks_stack c) = cut_by text_of code base NoStack r no_stack c grow

    -- a primitive as a test
    pub test_sim : (k : Operands) (p : BasisPrimitive) (xs : List ℕ) (ls : List Literal) (b : Bool) → HoldAll lay front (map slot xs) ls → row_at k p ls ≡ Some (made (truth b))
        → (pc other acc : ℕ) (above free : List ℕ) (r : Run Value) → HasAt code pc (places.rows.test_code k p pc (slot d) other (map slot xs)) → Grows w r
        → ((acc' : ℕ) (above' : List ℕ)
        → Sim text_of code base (state_at base f hand (if b then pc + places.rows.test_size k p else other) acc' (ws ++ above') mem free) w f lay r)
        → Sim text_of code base (state_at base f hand pc acc (ws ++ above) mem free) w f lay r
    test_sim k p xs ls b hold row pc other acc above free r has grow go =
        ⊎_elim
        (λ lt. on (stands.right.tests code (frame acc) lay front above mem free (ready acc free lt) k p (map slot xs) ls b hold row pc other
        (subst (λ n. HasAt code pc (places.rows.test_code k p pc (slot n) other (map slot xs))) (sym deep) has)))
        (λ le. huge_here text_of code base r (inr le))
        (cases_lt (length (mem ++ free)) (2 ^ 31))
      where
        on : Passes code (frame acc) front mem free (if b then pc + places.rows.test_size k p else other) (state_at base f hand pc acc (ws ++ above) mem free)
            → Sim text_of code base (state_at base f hand pc acc (ws ++ above) mem free) w f lay r
        on (passes acc' above' a pos) = before text_of code base (some_steps text_of code base w a) (go acc' above')
        on (rows.Passes.lacks_stack c) = cut_by text_of code base NoStack r no_stack c grow
