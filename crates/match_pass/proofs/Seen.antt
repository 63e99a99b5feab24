-- Shapes of bindings, and the numbers of a group.
use Rattle.std.proofs.Common.{◌≡◌, ◌≤◌, ◌+◌, ℕ, suc, Bool, true, false, List, [], ◌∷◌, length, drop, slice_index_or, nat_eq, Vec, Global, refl, sym, ap, ap₂, ◌∙◌, arith}
use Rattle.std.proofs.lemmas.Bool.{false≢true, eqb-true}
use Rattle.ty_core.specs.declared.scheme.Quantified.{Quantified}
use Rattle.ir_poly.specs.Prog as t
use Rattle.match_compile.specs.Compile.{Names, shape, plain, general_shape, funs_named, each_named}
use Rattle.prog_tree.specs.TreeOf.{Reading}
use Rattle.prog_tree.specs.declared.tree.Function.{Function}
use Rattle.general_bindings.proofs.of_pattern_tests.Chains.{next-drop}
use Rattle.match_pass.specs.Declaring.{funs_read}
use Rattle.match_pass.proofs.Lists.{drop-past}

pub shape-none : (qs : List Quantified) (g : Bool) (p : t.Pat) → g ≡ false → shape qs g p ≡ plain
shape-none qs g p e = ap (λ b. shape qs b p) e

pub shape-empty : (qs : List Quantified) (g : Bool) (p : t.Pat) → nat_eq (length qs) 0 ≡ true → shape qs g p ≡ plain
shape-empty [] true p e = refl
shape-empty [] false p e = refl
shape-empty (q ∷ qs) g p e = absurd (omega (arith, eqb-true (length (q ∷ qs)) 0 e))

pub shape-some : (qs : List Quantified) (g : Bool) (p : t.Pat) → g ≡ true → nat_eq (length qs) 0 ≡ false → shape qs g p ≡ general_shape p
shape-some [] g p e some = absurd (false≢true (sym some))
shape-some (q ∷ qs) g p e some = ap (λ b. shape (q ∷ qs) b p) e

pub group-none : (R : Reading) (fs : List (Vec ℕ Global × ℕ × Function)) (n first : ℕ) (N : Names) → n ≡ length fs → N ≡ funs_named (funs_read (drop n fs) R) (first + n) N
group-none R fs n first N e = sym (ap (λ l. funs_named (funs_read l R) (first + n) N) (drop-past fs n (omega (arith, e))))

-- one function more has got its number
pub group-named : (R : Reading) (fs : List (Vec ℕ Global × ℕ × Function)) (n i : ℕ) (f : Vec ℕ Global × ℕ × Function) (first number : ℕ) (vs : List ℕ) (N M K : Names) → n ≡ i + 1 → n ≤ length fs → f ≡ slice_index_or fs i f → vs ≡ f.0.items
    → number ≡ first + i → M ≡ funs_named (funs_read (drop n fs) R) (first + n) N → K ≡ each_named vs number M → K ≡ funs_named (funs_read (drop i fs) R) (first + i) N
group-named R fs n i f first number vs N M K e le is variables at named more =
    more ∙ ap₂ (λ l k. each_named l k M) variables at ∙ ap (each_named f.0.items (first + i)) named
    ∙ ap₂ (λ k j. each_named f.0.items (first + i) (funs_named (funs_read (drop k fs) R) j N)) e (ap (λ k. first + k) e ∙ (let o : first + (i + 1) ≡ suc (first + i) = omega arith in o))
    ∙ sym (ap (λ l. funs_named (funs_read l R) (first + i) N) (next-drop fs i f (omega (arith, e, le)) is))

pub group-all : (R : Reading) (fs : List (Vec ℕ Global × ℕ × Function)) (n first : ℕ) (N M : Names) → n ≡ 0 → M ≡ funs_named (funs_read (drop n fs) R) (first + n) N → M ≡ funs_named (funs_read fs R) first N
group-all R fs n first N M e h =
    h ∙ ap (λ k. funs_named (funs_read (drop k fs) R) (first + k) N) e ∙ ap (λ k. funs_named (funs_read fs R) k N) (let o : first + 0 ≡ first = omega arith in o)
