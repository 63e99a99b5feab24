-- The code of each test goes on behind itself where the test holds, and else at another place.
use Rattle.std.proofs.Common.{◌≡◌, ℕ, zero, suc, ◌+◌, ◌^◌, List, [], ◌∷◌, ◌++◌, length, map, Option, Some, None, Bool, true, false, ◌⊎◌, inl, inr, refl, sym, ap, ◌∙◌, subst, arith, append_assoc, length-append}
use Rattle.std.specs.Prelude.{slice_get, nat_eq, option_map, option_and_then, if◌then◌else◌}
use Rattle.std.specs.Str.{bytes_eq}
use Rattle.std.specs.Cmp.Lexicographic.{slice_cmp}
use Rattle.std.specs.Ordering.{nat_cmp}
use Rattle.std.proofs.lemmas.Bool.{cases_Bool, eqb-true, eq-eqb, ne_eqb}
use Rattle.ir_code.specs.declared.instr.Instr.{Instr}
use Rattle.ir_code.specs.declared.instr.Instr.TheVariants.{Li, Jmp, Brz, Ld, Eq, SCmp}
use Rattle.ir_code.specs.Words.{one_if, same_word, order_code}
use Rattle.ir_code.specs.Machine.{State, Goes, act}
use Rattle.ir_code.specs.Laws.{ControlLaws, MemoryLaws, ArithmeticLaws}
use Rattle.mlc_runs.specs.Run.{World, or_fail}
use Rattle.mlc_prims.specs.LitOf.{Literal, int, word, char, string, truth}
use Rattle.mlc_prims.specs.PrimOf.{Gives, made, fitting}
use Rattle.mlc_prims.specs.Table.{literal_eq}
use Rattle.mlc_prims.specs.declared.basis.BasisPrimitive.{BasisPrimitive}
use Rattle.ir_ssa.specs.of_first_values.Values.{Value, literal, name, packet, value_of, Run}
use Rattle.ir_ssa.specs.of_first_values.Equality.{is_text}
use Rattle.ir_ssa.specs.of_first_values.Operations.{Operands, Tables, Constant, an_int, a_word, a_char, a_text, a_truth, Test, is, is_of, holds, below, literal_at, literals, row_at, truth_in, decide}
use Rattle.machine_routines.specs.Layout.{Word, is_name, nth_at, IsLiteral, TextAt, Is}
use Rattle.machine_routines.specs.Runs.{HasAt}
use Rattle.machine_routines.proofs.LayoutLemmas.{nth_apart, texts_compare}
use Rattle.machine_routines.proofs.Seams.{get_left}
use Rattle.machine_routines.proofs.Compares.{numbers_equal}
use Rattle.machine_code.specs.Agrees.{Begins}
use Rattle.machine_code.specs.Rows.{HoldAll}
use Rattle.machine_code.specs.Code.{slot, word_test_size, test_size, Places, constant_word, word_test_code, test_code}
use Rattle.machine_code.proofs.Kept.{shown}
use Rattle.machine_code.proofs.Grows.{Grows}
use Rattle.machine_code.proofs.Sim.{Call, state_at, Fits, Sim, is_wrong, before, one as one_step}
use Rattle.machine_code.proofs.Slots.{Pushes, push_li, push_ld, does_eq_there, does_scmp_there, does_eq_next, does_jmp, does_brz, does_brz_zero, here_get}
use Rattle.machine_code.proofs.Vars.{Args, no_args, an_arg}
use Rattle.machine_code.proofs.Pieces.{push_sim}
use Rattle.machine_code.proofs.Primitives.{Stands, FoundOperands, no_literals, are_literals, operands, constant_is, test_sim}

apart_words : (i j x y : ℕ) → (i ≡ j → x ≡ y) → (x ≡ y → i ≡ j) → nat_eq x y ≡ nat_eq i j
apart_words i j x y to from = cases (cases_Bool (nat_eq x y)) (cases_Bool (nat_eq i j))
  where
    cases : (nat_eq x y ≡ true) ⊎ (nat_eq x y ≡ false) → (nat_eq i j ≡ true) ⊎ (nat_eq i j ≡ false) → nat_eq x y ≡ nat_eq i j
    cases (inl a) (inl b) = a ∙ sym b
    cases (inl a) (inr b) = let c : nat_eq i j ≡ true = eq-eqb i j (from (eqb-true x y a)) in a ∙ sym c
    cases (inr a) (inl b) = let c : nat_eq x y ≡ true = eq-eqb x y (to (eqb-true i j b)) in c ∙ sym b
    cases (inr a) (inr b) = a ∙ sym b

module _ (C : ControlLaws) (M : MemoryLaws) (A : ArithmeticLaws) (text_of : ℕ → List ℕ) (code : List Instr) (first_lay : List Word) (T : Tables) (places : Places) (stands : Stands code first_lay text_of T places) where
  abbrev base : ℕ
  base = length first_lay

  module _ (f : Call) (hand : ℕ) (w : World Value) (lay : List Word) (mem ws : List ℕ) (d : ℕ) (kept : Begins first_lay lay) (fits : Fits text_of lay mem w) (deep : length ws ≡ d) (r : Bool → Run Value) (r_grows : (c : Bool) → Grows w (r c)) where
    abbrev at_state : ℕ → ℕ → List ℕ → List ℕ → State
    at_state pc acc rest free = state_at base f hand pc acc rest mem free

    abbrev S : State → Run Value → Type 0
    S s q = Sim text_of code base s w f lay q

    -- what comes after it
    abbrev pub Onward : ℕ → ℕ → List ℕ → Type 0
    Onward behind other free = (c : Bool) (acc : ℕ) (above : List ℕ) → S (at_state (if c then behind else other) acc (ws ++ above) free) (r c)

    abbrev pub Follows : Test → Type 0
    Follows q = (xs : List ℕ) (vs : List Value) (ys : List ℕ) → Args lay ws xs vs ys → (pc other acc : ℕ) (above free : List ℕ) → HasAt code pc (test_code places pc d q xs other)
        → Onward (pc + test_size places.rows places.types q) other free → S (at_state pc acc (ws ++ above) free) (or_fail (decide T q vs) w r)

    -- by the word 1 or 0 behind the words of the frame
    by_word : (c : Bool) (y pc q other acc : ℕ) (rest free : List ℕ) → y ≡ one_if c → slice_get code pc ≡ Some (Brz (slot d) other) → pc + 1 ≡ q → Onward q other free
        → S (at_state pc acc ((ws ++ y ∷ []) ++ rest) free) (r c)
    by_word true y pc q other acc rest free e has n go =
        subst (λ z. S (at_state pc acc z free) (r true)) (sym (append_assoc ws (y ∷ []) rest))
        (before text_of code base (one_step text_of code base w w (Brz (slot d) other) has (does_brz C M A base f hand pc acc mem free (ws ++ y ∷ rest) d other y (here_get C M A base f hand pc acc mem free ws rest y d deep) (omega arith)) refl refl)
        (subst (λ z. S (at_state z acc (ws ++ y ∷ rest) free) (r true)) (sym n) (go true acc (y ∷ rest))))
    by_word false y pc q other acc rest free e has n go =
        subst (λ z. S (at_state pc acc z free) (r false)) (sym (append_assoc ws (y ∷ []) rest))
        (before text_of code base (one_step text_of code base w w (Brz (slot d) other) has (does_brz_zero C M A base f hand pc acc mem free (ws ++ y ∷ rest) d other (here_get C M A base f hand pc acc mem free ws rest y d deep ∙ ap Some e)) refl refl)
        (go false acc (y ∷ rest)))

    -- three instructions: a word, whether it is another, and a jump where it isn't
    compared : (i : Instr) (v x y : ℕ) (c : Bool) (pc q other acc : ℕ) (above free : List ℕ) → Pushes C M A base f hand pc acc mem free ws d i v → slice_get ws x ≡ Some y
        → nat_eq v y ≡ c → HasAt code pc (i ∷ Eq (slot d) (slot d) (slot x) ∷ Brz (slot d) other ∷ []) → pc + 3 ≡ q → Onward q other free
        → S (at_state pc acc (ws ++ above) free) (r c)
    compared i v x y c pc q other acc above free push e same has n go =
        push_sim C M A text_of code base f hand ws above d v pc acc mem free push has.0 deep (r_grows c)
        (λ rest. subst (λ z. S (at_state (pc + 1) acc z free) (r c)) (sym (append_assoc ws (v ∷ []) rest))
        (before text_of code base (one_step text_of code base w w (Eq (slot d) (slot d) (slot x)) has.1.0 (does_eq_there C M A base f hand (pc + 1) acc mem free ws d deep x y v rest e) refl refl)
        (by_word c (same_word v y) (pc + 1 + 1) q other acc rest free (ap one_if same) has.1.1.0 (omega arith) go)))

    follow_is_of : Follows is_of
    follow_is_of _ _ _ (an_arg x (packet l v) y e i (an_arg x' (name n) y' e' i' no_args)) pc other acc above free has go =
        let zero_more : y ≡ y + 0 = omega arith in
        let same : nat_eq i.0 y' ≡ nat_eq l n = apart_words l n i.0 y'
        (λ g. let h : Some i.0 ≡ Some y' = sym i.3 ∙ ap (λ z. nth_at is_name lay z) g ∙ i' in cc)
        (λ g. nth_apart is_name lay l n y' (i.3 ∙ ap Some g) i') in
        compared (Ld (slot d) (slot x) 0) i.0 x' y' (nat_eq l n) pc (pc + 3) other acc above free
        (push_ld C M A base f hand pc acc mem free ws d deep x 0 y i.0 e (subst (λ z. slice_get mem z ≡ Some i.0) zero_more (shown text_of fits y i.0 i.2)))
        e' same has refl go
    follow_is_of _ _ _ args pc other acc above free has go = is_wrong w

    -- whether a word is another; of 0 at once
    word_tested : (v x y : ℕ) (c : Bool) (pc q other acc : ℕ) (above free : List ℕ) → slice_get ws x ≡ Some y → nat_eq v y ≡ c
        → HasAt code pc (word_test_code places pc d v x other) → pc + word_test_size v ≡ q → Onward q other free → S (at_state pc acc (ws ++ above) free) (r c)
    word_tested zero x zero c pc q other acc above free e same has n go =
        let yes : true ≡ c = same in
        subst (λ z. S (at_state pc acc (ws ++ above) free) (r z)) yes
        (before text_of code base (one_step text_of code base w w (Brz (slot x) (pc + 2)) has.0 (does_brz_zero C M A base f hand pc acc mem free (ws ++ above) x (pc + 2) (get_left ws above x 0 e)) refl refl)
        (subst (λ z. S (at_state z acc (ws ++ above) free) (r true)) (sym n) (go true acc above)))
    word_tested zero x (suc y) c pc q other acc above free e same has n go =
        let no : false ≡ c = sym (ne_eqb 0 (suc y) (λ z. omega arith)) ∙ same in
        subst (λ z. S (at_state pc acc (ws ++ above) free) (r z)) no
        (before text_of code base (one_step text_of code base w w (Brz (slot x) (pc + 2)) has.0 (does_brz C M A base f hand pc acc mem free (ws ++ above) x (pc + 2) (suc y) (get_left ws above x (suc y) e) (omega arith)) refl refl)
        (before text_of code base (one_step text_of code base w w (Jmp other) has.1.0 (does_jmp C M A base f hand (pc + 1) acc mem free (ws ++ above) other) refl refl)
        (go false acc above)))
    word_tested (suc v) x y c pc q other acc above free e same has n go =
        compared (Li (slot d) (suc v)) (suc v) x y c pc q other acc above free (push_li C M A base f hand pc acc mem free ws d deep (suc v)) e same has n go

    -- a constant that is a word
    word_is : (k l : Literal) (v x y pc q other acc : ℕ) (above free : List ℕ) → is_text k ≡ false → Is lay (value_of k) v → IsLiteral lay l y → slice_get ws x ≡ Some y
        → HasAt code pc (word_test_code places pc d v x other) → pc + word_test_size v ≡ q → Onward q other free
        → (o : Option Bool) → literal_eq k l ≡ o → S (at_state pc acc (ws ++ above) free) (or_fail o w r)
    word_is k l v x y pc q other acc above free t i j e has n go None g = is_wrong w
    word_is (int z) l v x y pc q other acc above free t i j e has n go (Some c) g =
        word_tested v x y c pc q other acc above free e (numbers_equal lay (int z) l v y c i j g) has n go
    word_is (word m) l v x y pc q other acc above free t i j e has n go (Some c) g =
        word_tested v x y c pc q other acc above free e (numbers_equal lay (word m) l v y c i j g) has n go
    word_is (char m) l v x y pc q other acc above free t i j e has n go (Some c) g =
        word_tested v x y c pc q other acc above free e (numbers_equal lay (char m) l v y c i j g) has n go
    word_is (string s) l v x y pc q other acc above free t i j e has n go (Some c) g = absurd (cc)
    word_is (truth b) (truth b') v x y pc q other acc above free t i j e has n go (Some c) g = absurd j
    word_is (truth b) l v x y pc q other acc above free t i j e has n go (Some c) g = absurd (cc)

    -- .. and one that is a text
    text_is : (s : List ℕ) (l : Literal) (v x y pc q other acc : ℕ) (above free : List ℕ) → TextAt lay s v → IsLiteral lay l y → slice_get ws x ≡ Some y
        → HasAt code pc (Li (slot d) v ∷ SCmp (slot d) (slot d) (slot x) ∷ Li (slot (suc d)) 1 ∷ Eq (slot d) (slot d) (slot (suc d)) ∷ Brz (slot d) other ∷ []) → pc + 5 ≡ q → Onward q other free
        → (o : Option Bool) → literal_eq (string s) l ≡ o → S (at_state pc acc (ws ++ above) free) (or_fail o w r)
    text_is s l v x y pc q other acc above free i j e has n go None g = is_wrong w
    text_is s (string t) v x y pc q other acc above free i j e has n go (Some c) g =
        push_sim C M A text_of code base f hand ws above d v pc acc mem free (push_li C M A base f hand pc acc mem free ws d deep v) has.0 deep (r_grows c)
        (λ rest. subst (λ z. S (at_state (pc + 1) acc z free) (r c)) (sym (append_assoc ws (v ∷ []) rest))
        (before text_of code base (one_step text_of code base w w (SCmp (slot d) (slot d) (slot x)) has.1.0 (orders rest) refl refl)
        (push_sim C M A text_of code base f hand (ws ++ m ∷ []) rest (suc d) 1 (pc + 1 + 1) acc mem free (push_li C M A base f hand (pc + 1 + 1) acc mem free (ws ++ m ∷ []) (suc d) deep1 1) has.1.1.0 deep1 (r_grows c)
        (λ rest'. subst (λ z. S (at_state (pc + 1 + 1 + 1) acc z free) (r c)) (sym (append_assoc (ws ++ m ∷ []) (1 ∷ []) rest' ∙ append_assoc ws (m ∷ []) (1 ∷ rest')))
        (before text_of code base (one_step text_of code base w w (Eq (slot d) (slot d) (slot (suc d))) has.1.1.1.0 (equals rest') refl refl)
        (by_word c (same_word m 1) (pc + 1 + 1 + 1 + 1) q other acc (1 ∷ rest') free (ap one_if (texts_compare s t ∙ same)) has.1.1.1.1.0 (omega arith) go))))))
      where
        m : ℕ
        m = order_code (slice_cmp nat_cmp s t)

        same : bytes_eq s t ≡ c
        same = cc

        deep1 : length (ws ++ order_code (slice_cmp nat_cmp s t) ∷ []) ≡ suc d
        deep1 = omega (arith, deep, length-append ws (order_code (slice_cmp nat_cmp s t) ∷ []))

        orders : (rest : List ℕ) → act (at_state (pc + 1) acc (ws ++ v ∷ rest) free) (SCmp (slot d) (slot d) (slot x)) ≡ Goes (at_state (pc + 1 + 1) acc ((ws ++ order_code (slice_cmp nat_cmp s t) ∷ []) ++ rest) free)
        orders rest = does_scmp_there C M A base f hand (pc + 1) acc mem free ws d deep lay x y v s t rest e (λ a b c. shown text_of fits a b c) i j

        equals : (rest : List ℕ) → act (at_state (pc + 1 + 1 + 1) acc (ws ++ order_code (slice_cmp nat_cmp s t) ∷ 1 ∷ rest) free) (Eq (slot d) (slot d) (slot (suc d))) ≡ Goes (at_state (pc + 1 + 1 + 1 + 1) acc ((ws ++ same_word (order_code (slice_cmp nat_cmp s t)) 1 ∷ []) ++ (1 ∷ rest)) free)
        equals rest = does_eq_next C M A base f hand (pc + 1 + 1 + 1) acc mem free ws d deep (order_code (slice_cmp nat_cmp s t)) 1 rest
    text_is s l v x y pc q other acc above free i j e has n go (Some c) g = absurd (cc)

    follow_is : (c : Constant) → Follows (is c)
    follow_is c _ _ _ no_args pc other acc above free has go = is_wrong w
    follow_is c _ _ _ (an_arg x (literal l) y e i no_args) pc other acc above free has go = by c has go
      where
        -- where the constant is a word
        found : (c : Constant) (o : Option Literal) → literal_at T c ≡ o → ((k : Literal) → o ≡ Some k → is_text k ≡ false)
            → HasAt code pc (word_test_code places pc d (constant_word places c) x other) → Onward (pc + word_test_size (constant_word places c)) other free
            → S (at_state pc acc (ws ++ above) free) (or_fail (option_and_then (λ k. literal_eq k l) o) w r)
        found c None g t has go = is_wrong w
        found c (Some k) g t has go =
            word_is k l (constant_word places c) x y pc (pc + word_test_size (constant_word places c)) other acc above free (t k refl) (constant_is text_of code first_lay T places stands lay kept c k g) i e has refl go (literal_eq k l) refl

        found_text : (n : ℕ) (o : Option (List ℕ)) → slice_get T.strings n ≡ o → HasAt code pc (test_code places pc d (is (a_text n)) (x ∷ []) other) → Onward (pc + 5) other free
            → S (at_state pc acc (ws ++ above) free) (or_fail (option_and_then (λ k. literal_eq k l) (option_map string o)) w r)
        found_text n None g has go = is_wrong w
        found_text n (Some s) g has go =
            text_is s l (places.text_at n) x y pc (pc + 5) other acc above free (constant_is text_of code first_lay T places stands lay kept (a_text n) (string s) (ap (option_map string) g)) i e has refl go (literal_eq (string s) l) refl

        no_text : {A : Type 0} (make : A → Literal) → ((a : A) → is_text (make a) ≡ false) → (o : Option A) (k : Literal) → option_map make o ≡ Some k → is_text k ≡ false
        no_text make t None k h = absurd (cc)
        no_text make t (Some a) k h = let s : make a ≡ k = cc in subst (λ z. is_text z ≡ false) s (t a)

        by : (c : Constant) → HasAt code pc (test_code places pc d (is c) (x ∷ []) other) → Onward (pc + test_size places.rows places.types (is c)) other free
            → S (at_state pc acc (ws ++ above) free) (or_fail (decide T (is c) (literal l ∷ [])) w r)
        by (an_int z) has go = found (an_int z) (option_map int (fitting z)) refl (no_text int (λ a. refl) (fitting z)) has go
        by (a_word n) has go = found (a_word n) (literal_at T (a_word n)) refl (no_text word (λ a. refl) (below (2 ^ 32) n)) has go
        by (a_char n) has go = found (a_char n) (literal_at T (a_char n)) refl (no_text char (λ a. refl) (below 256 n)) has go
        by (a_text n) has go = found_text n (slice_get T.strings n) refl has go
        by (a_truth b) has go = found (a_truth b) (Some (truth b)) refl (λ k h. let s : truth b ≡ k = cc in subst (λ z. is_text z ≡ false) s refl) has go
    follow_is c _ _ _ (an_arg x v y e i no_args) pc other acc above free has go = is_wrong w
    follow_is c _ _ _ (an_arg x (literal l) y e i (an_arg x' v' y' e' i' args)) pc other acc above free has go = is_wrong w
    follow_is c _ _ _ (an_arg x v y e i (an_arg x' v' y' e' i' args)) pc other acc above free has go = is_wrong w

    follow_holds : (k : Operands) (p : BasisPrimitive) → Follows (holds k p)
    follow_holds k p xs vs ys args pc other acc above free has go = by (literals vs) (operands lay f.back f.frame ws args)
      where
        by_row : (ls : List Literal) (o : Option Gives) → HoldAll lay (f.back ∷ f.frame ∷ ws) (map slot xs) ls → row_at k p ls ≡ o
            → S (at_state pc acc (ws ++ above) free) (or_fail (option_and_then truth_in o) w r)
        by_row ls (Some (made (truth b))) hold e =
            test_sim text_of code first_lay T places stands f hand w lay mem ws d kept fits deep k p xs ls b hold e pc other acc above free (r b) has (r_grows b) (λ acc' above'. go b acc' above')
        by_row ls o hold e = is_wrong w

        by : (o : Option (List Literal)) → FoundOperands lay (f.back ∷ f.frame ∷ ws) (map slot xs) o
            → S (at_state pc acc (ws ++ above) free) (or_fail (option_and_then truth_in (option_and_then (row_at k p) o)) w r)
        by o no_literals = is_wrong w
        by o (are_literals ls hold) = by_row ls (row_at k p ls) hold refl

    pub test_follows : (q : Test) → Follows q
    test_follows (is c) = follow_is c
    test_follows is_of = follow_is_of
    test_follows (holds k p) = follow_holds k p
