-- What is done with values is done with their conversions: constants, primitives, references, packets.
use Rattle.std.proofs.Common.{◌≡◌, ℕ, zero, suc, List, [], ◌∷◌, Option, Some, None, Bool, true, false, not, ◌||◌, if◌then◌else◌, refl, sym, ap, subst, ◌∙◌}
use Rattle.std.specs.Prelude.{ℤ, option_map, option_and_then}
use Rattle.mlc_runs.specs.Run.{World, Answer, gives, raises, fail, or_fail, writes}
use Rattle.mlc_runs.specs.Run as run
use Rattle.mlc_runs.specs.Agreement.{SameWorlds}
use Rattle.mlc_runs.specs.Refinement.{Refines, both_give, both_raise, first_wrong}
use Rattle.mlc_runs.proofs.RefineLaws.{assign-refines}
use Rattle.mlc_prims.specs.LitOf.{Literal, int, word, char, string, truth, int_in, word_in, char_in, string_in, one_in, two_in}
use Rattle.mlc_prims.specs.PrimOf.{Gives, made, raised}
use Rattle.mlc_prims.specs.Table.{row_of}
use Rattle.mlc_prims.specs.declared.basis.BasisPrimitive.{BasisPrimitive}
use Rattle.mlc_prims.specs.declared.basis.BasisPrimitive.TheVariants.{Add, Subtract, Multiply, Divide, Modulo, Negate, Absolute, Less, LessEqual, Greater, GreaterEqual, Equals, Assign, Quotient, Remainder, BitsAnd, BitsOr, BitsXor, BitsNot, ShiftLeft, ShiftRight, ShiftSigned, ToInt, ToIntSigned, FromInt, CharCode, CharOf, TextOf, SizeOf, CharAt, PartOf, Concat, StringOf, Print}
use Rattle.ir_values.specs.Values.{truth_number, unit_value, truth_value, value_of, literal_in}
use Rattle.ir_values.specs.Primitives.{Sort, compares, assigns, prints, computes, sort_of, is_overloaded, begin_at, perform_as, print_literals, giving, content_of, packet, raise_value, raised_name}
use Rattle.ir_values.specs.Primitives as prims
use Rattle.ir_plain.specs.Tree.{Atoms, no_atoms, an_atom}
use Rattle.ir_explicit.specs.of_ir_mono.Types.{bool_number, unit_number, node_at, by_number, distinct_none, IsTable}
use Rattle.ir_explicit.specs.of_ir_mono.Mono.{mono}
use Rattle.first_values.specs.Values as cells
use Rattle.first_values.specs.Operations as op
use Rattle.first_values.specs.Operations.{Tables}
use Rattle.first_values.specs.Raising.{may_raise}
use Rattle.first_values.proofs.RaisingLemmas.{only-these-raise}
use Rattle.ir_first.specs.Tree as out
use Rattle.ir_first.specs.Meaning.{Calls}
use Rattle.ir_first.specs.Continued as tgt
use Rattle.closure_convert.specs.of_flow_sets.Flow as spots
use Rattle.closure_convert.specs.of_flow_sets.Flow.{variable, at, SolvesPrim}
use Rattle.closure_meaning.specs.Convert.{operands_at, operands_of, operands, computed, performed, tables}
use Rattle.closure_meaning.specs.Fits.{Setting}
use Rattle.closure_meaning.proofs.Related.{Val, IsOneOf, widen, Same, same_literal, same_record, same_con, same_exn, same_address, same_cell, no_fields_same, Given, R}
use Rattle.closure_meaning.proofs.Tags.{kind-operands}
use Rattle.closure_meaning.proofs.Equality.{Follows, follows_none, follows_some, equal-same}

-- The first operand of each primitive

row-none : (p : BasisPrimitive) → row_of p [] ≡ None
row-none Add = refl
row-none Subtract = refl
row-none Multiply = refl
row-none Divide = refl
row-none Modulo = refl
row-none Negate = refl
row-none Absolute = refl
row-none Less = refl
row-none LessEqual = refl
row-none Greater = refl
row-none GreaterEqual = refl
row-none Equals = refl
row-none Assign = refl
row-none Quotient = refl
row-none Remainder = refl
row-none BitsAnd = refl
row-none BitsOr = refl
row-none BitsXor = refl
row-none BitsNot = refl
row-none ShiftLeft = refl
row-none ShiftRight = refl
row-none ShiftSigned = refl
row-none ToInt = refl
row-none ToIntSigned = refl
row-none FromInt = refl
row-none CharCode = refl
row-none CharOf = refl
row-none TextOf = refl
row-none SizeOf = refl
row-none CharAt = refl
row-none PartOf = refl
row-none Concat = refl
row-none StringOf = refl
row-none Print = refl

-- no row for such a first operand
abbrev Starts : op.Operands → Literal → List Literal → Option Gives → Type 0
Starts k l ls o = (g : Gives) → o ≡ Some g → op.is_at k l ≡ true

nothing : (k : op.Operands) (l : Literal) (ls : List Literal) → Starts k l ls None
nothing k l ls g e = absurd (cc)

one-int : (f : ℤ → Gives) (l : Literal) (ls : List Literal) → Starts op.ints l ls (option_map f (one_in int_in (l ∷ ls)))
one-int f (int z) ls g e = refl
one-int f (word z) [] g e = absurd (cc)
one-int f (word z) (b ∷ ls) g e = absurd (cc)
one-int f (char z) [] g e = absurd (cc)
one-int f (char z) (b ∷ ls) g e = absurd (cc)
one-int f (string z) [] g e = absurd (cc)
one-int f (string z) (b ∷ ls) g e = absurd (cc)
one-int f (truth z) [] g e = absurd (cc)
one-int f (truth z) (b ∷ ls) g e = absurd (cc)

one-word : (f : ℕ → Gives) (l : Literal) (ls : List Literal) → Starts op.words l ls (option_map f (one_in word_in (l ∷ ls)))
one-word f (word z) ls g e = refl
one-word f (int z) [] g e = absurd (cc)
one-word f (int z) (b ∷ ls) g e = absurd (cc)
one-word f (char z) [] g e = absurd (cc)
one-word f (char z) (b ∷ ls) g e = absurd (cc)
one-word f (string z) [] g e = absurd (cc)
one-word f (string z) (b ∷ ls) g e = absurd (cc)
one-word f (truth z) [] g e = absurd (cc)
one-word f (truth z) (b ∷ ls) g e = absurd (cc)

one-char : (f : ℕ → Gives) (l : Literal) (ls : List Literal) → Starts op.chars l ls (option_map f (one_in char_in (l ∷ ls)))
one-char f (char z) ls g e = refl
one-char f (int z) [] g e = absurd (cc)
one-char f (int z) (b ∷ ls) g e = absurd (cc)
one-char f (word z) [] g e = absurd (cc)
one-char f (word z) (b ∷ ls) g e = absurd (cc)
one-char f (string z) [] g e = absurd (cc)
one-char f (string z) (b ∷ ls) g e = absurd (cc)
one-char f (truth z) [] g e = absurd (cc)
one-char f (truth z) (b ∷ ls) g e = absurd (cc)

one-text : (f : List ℕ → Gives) (l : Literal) (ls : List Literal) → Starts op.texts l ls (option_map f (one_in string_in (l ∷ ls)))
one-text f (string z) ls g e = refl
one-text f (int z) [] g e = absurd (cc)
one-text f (int z) (b ∷ ls) g e = absurd (cc)
one-text f (word z) [] g e = absurd (cc)
one-text f (word z) (b ∷ ls) g e = absurd (cc)
one-text f (char z) [] g e = absurd (cc)
one-text f (char z) (b ∷ ls) g e = absurd (cc)
one-text f (truth z) [] g e = absurd (cc)
one-text f (truth z) (b ∷ ls) g e = absurd (cc)

two-int : (f : ℤ × ℤ → Gives) (l : Literal) (ls : List Literal) → Starts op.ints l ls (option_map f (two_in int_in (l ∷ ls)))
two-int f (int z) ls g e = refl
two-int f l [] g e = absurd (cc)
two-int f l (b ∷ c ∷ ls) g e = absurd (cc)
two-int f (word z) (b ∷ []) g e = absurd (cc)
two-int f (char z) (b ∷ []) g e = absurd (cc)
two-int f (string z) (b ∷ []) g e = absurd (cc)
two-int f (truth z) (b ∷ []) g e = absurd (cc)

two-word : (f : ℕ × ℕ → Gives) (l : Literal) (ls : List Literal) → Starts op.words l ls (option_map f (two_in word_in (l ∷ ls)))
two-word f (word z) ls g e = refl
two-word f l [] g e = absurd (cc)
two-word f l (b ∷ c ∷ ls) g e = absurd (cc)
two-word f (int z) (b ∷ []) g e = absurd (cc)
two-word f (char z) (b ∷ []) g e = absurd (cc)
two-word f (string z) (b ∷ []) g e = absurd (cc)
two-word f (truth z) (b ∷ []) g e = absurd (cc)

two-text : (f : List ℕ × List ℕ → Gives) (l : Literal) (ls : List Literal) → Starts op.texts l ls (option_map f (two_in string_in (l ∷ ls)))
two-text f (string z) ls g e = refl
two-text f l [] g e = absurd (cc)
two-text f l (b ∷ c ∷ ls) g e = absurd (cc)
two-text f (int z) (b ∷ []) g e = absurd (cc)
two-text f (word z) (b ∷ []) g e = absurd (cc)
two-text f (char z) (b ∷ []) g e = absurd (cc)
two-text f (truth z) (b ∷ []) g e = absurd (cc)

text-first : (f : List ℕ → Option Gives) (l : Literal) (ls : List Literal) → Starts op.texts l ls (option_and_then f (string_in l))
text-first f (string z) ls g e = refl
text-first f (int z) ls g e = absurd (cc)
text-first f (word z) ls g e = absurd (cc)
text-first f (char z) ls g e = absurd (cc)
text-first f (truth z) ls g e = absurd (cc)

row-starts : (p : BasisPrimitive) → sort_of p ≡ computes → is_overloaded p ≡ false → (l : Literal) (ls : List Literal) → Starts (operands_of p) l ls (row_of p (l ∷ ls))
row-starts Add c n l ls = absurd (cc)
row-starts Subtract c n l ls = absurd (cc)
row-starts Multiply c n l ls = absurd (cc)
row-starts Divide c n l ls = absurd (cc)
row-starts Modulo c n l ls = absurd (cc)
row-starts Negate c n l ls = absurd (cc)
row-starts Absolute c n l ls = one-int _ l ls
row-starts Less c n l ls = absurd (cc)
row-starts LessEqual c n l ls = absurd (cc)
row-starts Greater c n l ls = absurd (cc)
row-starts GreaterEqual c n l ls = absurd (cc)
row-starts Equals c n l ls = absurd (cc)
row-starts Assign c n l ls = absurd (cc)
row-starts Quotient c n l ls = two-int _ l ls
row-starts Remainder c n l ls = two-int _ l ls
row-starts BitsAnd c n l ls = two-word _ l ls
row-starts BitsOr c n l ls = two-word _ l ls
row-starts BitsXor c n l ls = two-word _ l ls
row-starts BitsNot c n l ls = one-word _ l ls
row-starts ShiftLeft c n l ls = two-word _ l ls
row-starts ShiftRight c n l ls = two-word _ l ls
row-starts ShiftSigned c n l ls = two-word _ l ls
row-starts ToInt c n l ls = one-word _ l ls
row-starts ToIntSigned c n l ls = one-word _ l ls
row-starts FromInt c n l ls = one-int _ l ls
row-starts CharCode c n l ls = one-char _ l ls
row-starts CharOf c n l ls = one-int _ l ls
row-starts TextOf c n l ls = one-int _ l ls
row-starts SizeOf c n l ls = one-text _ l ls
row-starts CharAt c n l ls = text-first _ l ls
row-starts PartOf c n l ls = text-first _ l ls
row-starts Concat c n l ls = two-text _ l ls
row-starts StringOf c n l ls = one-char _ l ls
row-starts Print c n l ls = absurd (cc)

-- a turn is taken first
pub turn-then : {V A B : Type 0} (n : ℕ) (place : _) (w : World V) (f : World V → Answer V A) (go : A → World V → Answer V B) → run.then_do (run.turn_from n place w f) go ≡ run.turn_from n place w (λ z. run.then_do (f z) go)
turn-then zero place w f go = refl
turn-then (suc n) place w f go = refl

two-fail : {V : Type 0} (a b : Option Literal) (c : Option (List Literal)) (w : World V) (go : List Literal → World V → Answer V V) → ((l k : Literal) (ls : List Literal) → go (l ∷ k ∷ ls) w ≡ fail w) → or_fail (option_and_then (λ l. option_map (λ ls. l ∷ ls) (option_and_then (λ l. option_map (λ ls. l ∷ ls) c) b)) a) w (λ ls. go ls w) ≡ fail w
two-fail None b c w go h = refl
two-fail (Some l) None c w go h = refl
two-fail (Some l) (Some k) None w go h = refl
two-fail (Some l) (Some k) (Some ls) w go h = h l k ls

module _ (C : Setting) (all : List out.Fun) (sound : IsTable C.types) where
  abbrev S : Val C.types → cells.Value → Type 0
  S = Same C all

  abbrev pub T : Tables
  T = tables C.numbering C.strings C.initial C.types C.flow

  abbrev pub Worlds : World (Val C.types) → World cells.Value → Type 0
  Worlds = SameWorlds (R C all)

  abbrev pub Re : List ℕ → Answer (Val C.types) (Val C.types) → cells.Run cells.Value → Type 0
  Re ks = Refines (R C all) (Given C all ks)

  pub unit-same : S (unit_value (by_number C.types)) cells.unit
  unit-same = same_record 0 sound.unit distinct_none no_fields_same

  pub truth-same : (b : Bool) → S (truth_value (by_number C.types) b) (cells.truth_value b)
  truth-same true = same_con bool_number (truth_number true) (sound.truths true)
  truth-same false = same_con bool_number (truth_number false) (sound.truths false)

  pub literal-same : (l : Literal) → S (value_of (by_number C.types) l) (cells.value_of l)
  literal-same (int z) = same_literal (int z)
  literal-same (word z) = same_literal (word z)
  literal-same (char z) = same_literal (char z)
  literal-same (string z) = same_literal (string z)
  literal-same (truth b) = truth-same b

  pub literal-one : (l : Literal) (ks : List ℕ) → IsOneOf C.types (value_of (by_number C.types) l) ks
  literal-one (int z) ks = tt
  literal-one (word z) ks = tt
  literal-one (char z) ks = tt
  literal-one (string z) ks = tt
  literal-one (truth b) ks = tt

  -- operands
  pub data AtomsSame : Atoms (mono C.types) → List (Val C.types) → List cells.Value → Type 0 where
    no_same : AtomsSame no_atoms [] []
    more_same : (a : ℕ) {as_ : Atoms (mono C.types)} {v : Val C.types} {u : cells.Value} {vs : List (Val C.types)} {us : List cells.Value} → S v u → IsOneOf C.types v (at C.flow (variable a)) → AtomsSame as_ vs us → AtomsSame (an_atom a as_) (v ∷ vs) (u ∷ us)

  literals-same : {as_ : Atoms (mono C.types)} {vs : List (Val C.types)} {us : List cells.Value} (ls : List Literal) → AtomsSame as_ vs us → prims.literals vs ≡ Some ls → op.literals us ≡ Some ls
  literals-same ls no_same e = e
  literals-same ls (more_same a {vs = vs} {us = us} (same_literal l) isin rest) e = go (prims.literals vs) refl e (λ ks q. literals-same ks rest q)
    where
      go : (o : Option (List Literal)) → prims.literals vs ≡ o → option_map (λ ks. l ∷ ks) o ≡ Some ls → ((ks : List Literal) → prims.literals vs ≡ Some ks → op.literals us ≡ Some ks) → option_map (λ ks. l ∷ ks) (op.literals us) ≡ Some ls
      go None q e h = absurd (cc)
      go (Some ks) q e h = ap (option_map (λ ks. l ∷ ks)) (h ks q) ∙ e
  literals-same ls (more_same a _ isin rest) e = absurd (cc)

  compared-same : {o q : Option Bool} {ks : List ℕ} (w : World (Val C.types)) (u : World cells.Value) → Follows o q → Worlds w u → Re ks (or_fail o w (λ b. gives (truth_value (by_number C.types) b) w)) (or_fail q u (λ b. gives (cells.truth_value b) u))
  compared-same w u (follows_none q) s = first_wrong _
  compared-same w u (follows_some b) s = both_give (record { same = truth-same b; is = tt }) s

  compare-same : (g : ℕ) {as_ : Atoms (mono C.types)} {vs : List (Val C.types)} {us : List cells.Value} {ks : List ℕ} (w : World (Val C.types)) (u : World cells.Value) → AtomsSame as_ vs us → Worlds w u → Re ks (prims.compare_values (by_number C.types) g vs w) (op.perform T (op.equal g) us u)
  compare-same g w u no_same s = first_wrong _
  compare-same g w u (more_same a x i no_same) s = first_wrong _
  compare-same g w u (more_same a x i (more_same b y j no_same)) s = compared-same w u (equal-same C all sound g x y) s
  compare-same g w u (more_same a x i (more_same b y j (more_same c z k rest))) s = first_wrong _

  write-same : (g : ℕ) {r v : Val C.types} {r' v' : cells.Value} {ks : List ℕ} (w : World (Val C.types)) (u : World cells.Value) → S r r' → S v v' → IsOneOf C.types v (at C.flow (spots.content g)) → Worlds w u → Re ks (prims.assign_value (by_number C.types) g (r ∷ v ∷ []) w) (op.write r' v' u)
  write-same g w u (same_address a) x i s = assign-refines (R C all) _ a _ _ w u _ _ (record { same = same_cell g x i; is = tt }) s (λ w' u' s'. both_give (record { same = unit-same; is = tt }) s')
  write-same g w u _ x i s = first_wrong _

  assign-same : (g : ℕ) {as_ : Atoms (mono C.types)} {vs : List (Val C.types)} {us : List cells.Value} {ks : List ℕ} (w : World (Val C.types)) (u : World cells.Value) → AtomsSame as_ vs us → SolvesPrim C.types C.flow assigns g as_ → Worlds w u → Re ks (prims.assign_value (by_number C.types) g vs w) (op.perform T op.assign us u)
  assign-same g w u no_same v s = first_wrong _
  assign-same g w u (more_same a x i no_same) v s = first_wrong _
  assign-same g w u (more_same a x i (more_same b {v = d} y j no_same)) v s = write-same g w u x y (widen C.types d v j) s
  assign-same g w u (more_same a x i (more_same b y j (more_same c z k rest))) v s = first_wrong _

  print-same : {as_ : Atoms (mono C.types)} {vs : List (Val C.types)} {us : List cells.Value} {ks : List ℕ} (w : World (Val C.types)) (u : World cells.Value) → AtomsSame as_ vs us → Worlds w u → Re ks (or_fail (prims.literals vs) w (λ ls. print_literals (by_number C.types) ls w)) (op.perform T op.print us u)
  print-same w u no_same s = first_wrong _
  print-same w u (more_same a (same_literal (string t)) i no_same) s = both_give (record { same = unit-same; is = tt }) (Rattle.mlc_runs.proofs.RunLaws.writes-same (R C all) t w u s)
  print-same w u (more_same a (same_literal (int z)) i no_same) s = first_wrong _
  print-same w u (more_same a (same_literal (word z)) i no_same) s = first_wrong _
  print-same w u (more_same a (same_literal (char z)) i no_same) s = first_wrong _
  print-same w u (more_same a (same_literal (truth z)) i no_same) s = first_wrong _
  print-same w u (more_same a _ i no_same) s = first_wrong _
  print-same {ks = ks} w u (more_same a {v = v} {u = p} x i (more_same b {v = v'} {u = q} {vs = vs} {us = us} y j rest)) s =
      subst (λ r. Re ks r (op.perform T op.print (p ∷ q ∷ us) u)) (sym (two-fail (literal_in v) (literal_in v') (prims.literals vs) w (λ ls w. print_literals (by_number C.types) ls w) (λ l k ls. many l k ls w))) (first_wrong _)
    where
      many : (l k : Literal) (ls : List Literal) (w : World (Val C.types)) → print_literals (by_number C.types) (l ∷ k ∷ ls) w ≡ fail w
      many (int z) k ls w = refl
      many (word z) k ls w = refl
      many (char z) k ls w = refl
      many (string z) k ls w = refl
      many (truth z) k ls w = refl

  -- a row of the table
  row-found : (p : BasisPrimitive) (t : ℕ) (ls : List Literal) (g : Gives) → sort_of p ≡ computes → prims.row_at (by_number C.types) t p ls ≡ Some g → op.row_at (operands C.types p t) p ls ≡ Some g
  row-found p t [] g c e = absurd (go (not (is_overloaded p) || true) e)
    where
      go : (b : Bool) → (if b then row_of p [] else None) ≡ Some g → ⊥
      go true q = let n : row_of p [] ≡ None = row-none p in cc
      go false q = cc
  row-found p t (l ∷ ls) g c e = go (is_overloaded p) refl ((by_number C.types).has_literal t l) refl e
    where
      at-kind : (k : op.Operands) → op.is_at k l ≡ true → row_of p (l ∷ ls) ≡ Some g → op.row_at k p (l ∷ ls) ≡ Some g
      at-kind k i q = ap (λ b. if b then row_of p (l ∷ ls) else None) i ∙ q

      go : (o : Bool) → is_overloaded p ≡ o → (b : Bool) → (by_number C.types).has_literal t l ≡ b → (if not o || b then row_of p (l ∷ ls) else None) ≡ Some g → op.row_at (if o then operands_at (node_at C.types t) else operands_of p) p (l ∷ ls) ≡ Some g
      go true i true h q = at-kind (operands_at (node_at C.types t)) (kind-operands (node_at C.types t) l h) q
      go true i false h q = absurd (cc)
      go false i b h q = at-kind (operands_of p) (row-starts p c i l ls g q) q

  module _ (calls : Calls) where
    abbrev run_op : out.Op → cells.Env → World cells.Value → cells.Run cells.Value
    run_op = tgt.eval_op T calls

    -- with the operands' values
    pub plain-is : (P : op.Plain) (xs : List ℕ) (ρ : cells.Env) (u : World cells.Value) {us : List cells.Value} → cells.look_all xs ρ ≡ Some us → op.perform T P us u ≡ run_op (out.plain P xs) ρ u
    plain-is P xs ρ u e = sym (ap (λ o. or_fail o u (λ vs. op.perform T P vs u)) e)

    given-same : (r : Gives) (k : op.Operands) (p : BasisPrimitive) {ls : List Literal} {us : List cells.Value} {ks : List ℕ} (xs : List ℕ) (ρ : cells.Env) (w : World (Val C.types)) (u : World cells.Value) → cells.look_all xs ρ ≡ Some us → op.literals us ≡ Some ls → op.row_at k p ls ≡ Some r → Worlds w u → Re ks (giving (by_number C.types) r w) (run_op (computed k p xs) ρ u)
    given-same r k p {ls} {us} {ks} xs ρ w u is lits row s = go (may_raise k p) refl
      where
        attempt_is : op.attempted k p us ≡ Some r
        attempt_is = ap (option_and_then (op.row_at k p)) lits ∙ row

        tries : (r : Gives) → op.attempted k p us ≡ Some r → Re ks (giving (by_number C.types) r w) (run_op (out.attempt k p xs) ρ u)
        tries r e = subst (λ o. Re ks (giving (by_number C.types) r w) (or_fail o u (λ vs. or_fail (op.attempted k p vs) u (λ g. op.either_way g (λ v. gives v u) (λ q. raises q u))))) (sym is)
            (subst (λ o. Re ks (giving (by_number C.types) r w) (or_fail o u (λ g. op.either_way g (λ v. gives v u) (λ q. raises q u)))) (sym e) (end r))
          where
            end : (r : Gives) → Re ks (giving (by_number C.types) r w) (op.either_way r (λ v. gives v u) (λ q. raises q u))
            end (made l) = both_give (record { same = literal-same l; is = literal-one l ks }) s
            end (raised e) = both_raise (record { same = same_exn unit_number (raised_name e); is = tt }) s

        computes-it : (r : Gives) → op.attempted k p us ≡ Some r → op.row_at k p ls ≡ Some r → may_raise k p ≡ false → Re ks (giving (by_number C.types) r w) (run_op (out.plain (op.compute k p) xs) ρ u)
        computes-it (made l) e q n = subst (λ x. Re ks (giving (by_number C.types) (made l) w) x) (plain-is (op.compute k p) xs ρ u is)
            (subst (λ o. Re ks (giving (by_number C.types) (made l) w) (or_fail o u (λ g. op.made_in g u))) (sym e) (both_give (record { same = literal-same l; is = literal-one l ks }) s))
        computes-it (raised x) e q n = absurd (let h : may_raise k p ≡ true = only-these-raise k p ls x q in cc)

        go : (b : Bool) → may_raise k p ≡ b → Re ks (giving (by_number C.types) r w) (run_op (if b then out.attempt k p xs else out.plain (op.compute k p) xs) ρ u)
        go true n = tries r attempt_is
        go false n = computes-it r attempt_is row n

    computed-same : (p : BasisPrimitive) (t : ℕ) {as_ : Atoms (mono C.types)} {vs : List (Val C.types)} {us : List cells.Value} {ks : List ℕ} (xs : List ℕ) (ρ : cells.Env) (w : World (Val C.types)) (u : World cells.Value) → sort_of p ≡ computes → cells.look_all xs ρ ≡ Some us → AtomsSame as_ vs us → Worlds w u → Re ks (or_fail (prims.literals vs) w (λ ls. or_fail (prims.row_at (by_number C.types) t p ls) w (λ r. giving (by_number C.types) r w))) (run_op (computed (operands C.types p t) p xs) ρ u)
    computed-same p t {vs = vs} {us = us} {ks = ks} xs ρ w u c is atoms s = go (prims.literals vs) refl
      where
        row_same : (ls : List Literal) → op.literals us ≡ Some ls → (o : Option Gives) → prims.row_at (by_number C.types) t p ls ≡ o → Re ks (or_fail o w (λ r. giving (by_number C.types) r w)) (run_op (computed (operands C.types p t) p xs) ρ u)
        row_same ls lits None e = first_wrong _
        row_same ls lits (Some r) e = given-same r (operands C.types p t) p xs ρ w u is lits (row-found p t ls r c e) s

        go : (o : Option (List Literal)) → prims.literals vs ≡ o → Re ks (or_fail o w (λ ls. or_fail (prims.row_at (by_number C.types) t p ls) w (λ r. giving (by_number C.types) r w))) (run_op (computed (operands C.types p t) p xs) ρ u)
        go None e = first_wrong _
        go (Some ls) e = row_same ls (literals-same ls atoms e) (prims.row_at (by_number C.types) t p ls) refl

    pub perform-same : (p : BasisPrimitive) (t : ℕ) {as_ : Atoms (mono C.types)} {vs : List (Val C.types)} {us : List cells.Value} {ks : List ℕ} (xs : List ℕ) (ρ : cells.Env) (w : World (Val C.types)) (u : World cells.Value) → cells.look_all xs ρ ≡ Some us → AtomsSame as_ vs us → SolvesPrim C.types C.flow (sort_of p) t as_ → Worlds w u → Re ks (prims.perform (by_number C.types) t p vs w) (run_op (performed C.types (sort_of p) p t xs) ρ u)
    perform-same p t {as_ = as_} {vs = vs} {us = us} {ks = ks} xs ρ w u is atoms v s = go (sort_of p) refl v
      where
        go : (k : Sort) → sort_of p ≡ k → SolvesPrim C.types C.flow k t as_ → Re ks (perform_as (by_number C.types) k t p vs w) (run_op (performed C.types k p t xs) ρ u)
        go compares e v = subst (λ x. Re ks (prims.compare_values (by_number C.types) t vs w) x) (plain-is (op.equal t) xs ρ u is) (compare-same t w u atoms s)
        go assigns e v = subst (λ x. Re ks (prims.assign_value (by_number C.types) t vs w) x) (plain-is op.assign xs ρ u is) (assign-same t w u atoms v s)
        go prints e v = subst (λ x. Re ks (or_fail (prims.literals vs) w (λ ls. print_literals (by_number C.types) ls w)) x) (plain-is op.print xs ρ u is) (print-same w u atoms s)
        go computes e v = computed-same p t xs ρ w u e is atoms s
