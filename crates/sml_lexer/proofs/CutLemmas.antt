-- Texts that are cut off.
use Rattle.std.proofs.Common.{◌≡◌, ℕ, zero, suc, ◌+◌, ◌-◌, ◌<◌, ◌≤◌, inl, inr, min, Bool, true, false, ◌&&◌, ◌||◌, cond, List, [], ◌∷◌, length, take, drop, refl, arith, sym, ap, ◌∙◌, length-take}
use Rattle.std.specs.List.{prefix_len}
use Rattle.std.proofs.lemmas.Bool.{and_from, and_parts, cases_lt, or_cases, or_left, or_right, true≢false}
use Rattle.std.proofs.lemmas.List.{drop-take, get_or-take, get_or_past, take-take}
use Rattle.std.proofs.lemmas.List.Sums.{prefix_len-le-length}
use Rattle.sml_lexer.specs.declared.chars.Class.{Class}
use Rattle.sml_lexer.specs.Chars.{after_run, byte, is_in, run, run_len}

-- a byte before the cut
pub byte_cut : (text : List ℕ) (s i : ℕ) → i < s → byte (take s text) i ≡ byte text i
byte_cut text s i h = get_or-take s text i 0 h

-- a byte past the cut
pub byte_past : (text : List ℕ) (s i : ℕ) → s ≤ i → byte (take s text) i ≡ 0
byte_past text s i h = get_or_past (take s text) i 0 (omega (arith, length-take s text))

pub drop_cut : (text : List ℕ) (s n : ℕ) → n ≤ s → drop n (take s text) ≡ take (s - n) (drop n text)
drop_cut text s n h =
    let sum : n + (s - n) ≡ s = omega arith in
    ap (λ k. drop n (take k text)) (sym sum) ∙ drop-take n (s - n) text

-- a test that holds of the cut text holds of the text
abbrev pub Implies : Bool → Bool → Type 0
Implies x y = x ≡ true → y ≡ true

pub false_from : (x y : Bool) → Implies x y → y ≡ false → x ≡ false
false_from true y h e = absurd (true≢false (sym (h refl) ∙ e))
false_from false y h e = refl

pub implies_and : (x x' y y' : Bool) → Implies x x' → Implies y y' → Implies (x && y) (x' && y')
implies_and x x' y y' h k e = let parts = and_parts x y e in and_from x' y' (h parts.0) (k parts.1)

pub implies_or : (x x' y y' : Bool) → Implies x x' → Implies y y' → Implies (x || y) (x' || y')
implies_or x x' y y' h k e =
    elim (or_cases x y e) as (λ _. (x' || y') ≡ true) [ inl a ↦ or_left x' y' (h a) | inr b ↦ or_right x' y' (k b) ]

-- a test of a byte that fails at 0
pub implies_byte : (p : ℕ → Bool) (text : List ℕ) (s i : ℕ) → p 0 ≡ false → Implies (p (byte (take s text) i)) (p (byte text i))
implies_byte p text s i none e =
    elim (cases_lt i s) as (λ _. p (byte text i) ≡ true) [
      | inl h ↦ ap p (sym (byte_cut text s i h)) ∙ e
      | inr h ↦ absurd (true≢false (sym e ∙ ap p (byte_past text s i h) ∙ none))
    ]

-- a run of a cut text
prefix_cut : (p : ℕ → Bool) (text : List ℕ) (s : ℕ) → prefix_len p (take s text) ≡ min (prefix_len p text) s
prefix_cut p [] zero = refl
prefix_cut p [] (suc s) = omega arith
prefix_cut p (c ∷ text) zero = omega arith
prefix_cut p (c ∷ text) (suc s) =
    elim (p c) as (λ v. cond v (1 + prefix_len p (take s text)) 0 ≡ min (cond v (1 + prefix_len p text) 0) (suc s)) [
      | true ↦ omega (arith, prefix_cut p text s)
      | false ↦ omega arith
    ]

pub run_cut : (class : Class) (text : List ℕ) (s : ℕ) → run_len class (take s text) ≡ min (run_len class text) s
run_cut class text s = prefix_cut (is_in class) text s

pub run_len_same : (class : Class) (text : List ℕ) (s : ℕ) → run_len class text ≤ s → run_len class (take s text) ≡ run_len class text
run_len_same class text s h = omega (arith, run_cut class text s)

pub run_same : (class : Class) (text : List ℕ) (s : ℕ) → run_len class text ≤ s → run class (take s text) ≡ run class text
run_same class text s h = ap (λ n. take n (take s text)) (run_len_same class text s h) ∙ take-take (run_len class text) s text h

pub after_run_cut : (class : Class) (text : List ℕ) (s : ℕ) → run_len class text ≤ s → after_run class (take s text) ≡ drop (run_len class text) (take s text)
after_run_cut class text s h = ap (λ n. drop n (take s text)) (run_len_same class text s h)

-- a run has a byte where its first one is of the class
pub run_some : (class : Class) (text : List ℕ) → is_in class 0 ≡ false → is_in class (byte text 0) ≡ true → 0 < run_len class text
run_some class [] none e = absurd (true≢false (sym e ∙ none))
run_some class (c ∷ text) none e = rw e (omega arith)

pub run_within : (class : Class) (text : List ℕ) → run_len class text ≤ length text
run_within class text = prefix_len-le-length (is_in class) text
