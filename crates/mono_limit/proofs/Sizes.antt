-- Types each of which is once among others are not more than those.
use Rattle.std.proofs.Common.{◌≡◌, ℕ, suc, ◌+◌, ◌<◌, ◌≤◌, List, [], ◌∷◌, length, Option, Some, None, refl, sym, ap, ◌∙◌, subst, arith}
use Rattle.ty_core.specs.Types.{Typ}
use Rattle.ir_plain.specs.Tree.{Exp}
use Rattle.ir_plain.specs.Weight.{weight}
use Rattle.ir_poly.specs.Tests.{Tests}
use Rattle.ir_poly.specs.Types.{Constructor}
use Rattle.ir_poly.specs.WellFormed as tests
use Rattle.ir_poly.specs.WellFormed.{table_of}
use Rattle.ir_mono.specs.Mono.{Program}
use Rattle.monomorphise.specs.Monomorphise.{Named, copies}
use Rattle.monomorphise.specs.Expansion.{IsOneOf, this, further, AreDifferent, none_differ, one_differs, Expands}
use Rattle.monomorphise.specs.Counting.{greatest_expansion, Passes}
use Rattle.monomorphise.specs.Laws.{monomorphise}
use Rattle.monomorphise.proofs.Limited.{is-counted, is-refused}
use Rattle.mono_limit.specs.Laws.{OneSize, IsTooLarge, IsFound}

-- the others, where a type is taken away
record Without (t : Typ) (us : List Typ) : Type 0 where
  rest : List Typ
  longer : length us ≡ suc (length rest)
  kept : (s : Typ) → (s ≡ t → ⊥) → IsOneOf s us → IsOneOf s rest

kept-here : (t : Typ) (us : List Typ) (s : Typ) → (s ≡ t → ⊥) → IsOneOf s (t ∷ us) → IsOneOf s us
kept-here t us s ne this = absurd (ne refl)
kept-here t us s ne (further q) = q

kept-more : (t u : Typ) (us rest : List Typ) → ((s : Typ) → (s ≡ t → ⊥) → IsOneOf s us → IsOneOf s rest) → (s : Typ) → (s ≡ t → ⊥) → IsOneOf s (u ∷ us) → IsOneOf s (u ∷ rest)
kept-more t u us rest k s ne this = this
kept-more t u us rest k s ne (further q) = further (k s ne q)

without : (t : Typ) (us : List Typ) → IsOneOf t us → Without t us
without t [] p = elim p [ ]
without t (u ∷ us) this = record { rest = us; longer = refl; kept = kept-here t us }
without t (u ∷ us) (further p) = let w = without t us p in record { rest = u ∷ w.rest; longer = ap suc w.longer; kept = kept-more t u us w.rest w.kept }

not-more : (ts us : List Typ) → AreDifferent ts → ((t : Typ) → IsOneOf t ts → IsOneOf t us) → length ts ≤ length us
not-more [] us d f = omega arith
not-more (t ∷ ts) us (one_differs n d) f =
    let w = without t us (f t this) in
    let r = not-more ts w.rest d (λ s q. w.kept s (λ e. n (subst (λ s. IsOneOf s ts) e q)) (f s (further q))) in
    let l = w.longer in
    omega arith

pub one-size : OneSize
one-size constructors e m n x y =
    let a = not-more x.types y.types x.each_once (λ t q. y.all t (x.only t q)) in
    let b = not-more y.types x.types y.each_once (λ t q. x.all t (y.only t q)) in
    let c = x.count in
    let d = y.count in
    omega arith

past : (constructors : List Constructor) (e : Exp Named) (limit n : ℕ) → Passes limit constructors e → Expands constructors e n → limit < n
past constructors e limit n h x =
    let a = not-more h.types x.types h.each_once (λ t q. x.all t (h.only t q)) in
    let b = h.past in
    let c = x.count in
    omega arith

pub is-too-large : IsTooLarge
is-too-large p e n x = past (table_of p) (copies p.body) greatest_expansion n (is-refused p e) x

module _ (p : tests.Program Tests) (n : ℕ) (x : Expands (table_of p) (copies p.body) n) (le : n ≤ greatest_expansion) where
  found-of : (o : Option Program) → monomorphise p ≡ o → (q : Program) × (monomorphise p ≡ Some q) × (q.expansion ≡ n)
  found-of None e = absurd (let lt = is-too-large p e n x in omega arith)
  found-of (Some q) e = (q, e, one-size (table_of p) (copies p.body) q.expansion n (is-counted p q e).0 x)

pub is-found : IsFound
is-found p n x le = found-of p n x le (monomorphise p) refl
