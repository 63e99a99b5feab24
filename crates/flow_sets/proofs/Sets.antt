-- The set of a type has the functions of that type.
use Rattle.std.proofs.Common.{◌≡◌, ℕ, zero, suc, ◌+◌, ◌<◌, ◌≤◌, Bool, true, false, ◌||◌, List, [], ◌∷◌, ◌++◌, length, Option, Some, None, nat_eq, if◌then◌else◌, get_or, slice_get, refl, sym, ap, subst, ◌∙◌, arith}
use Rattle.std.specs.Prelude.{⊤, option_map}
use Rattle.ir_mono.specs.Types.{Node, node_at, Is}
use Rattle.ir_mono.specs.Types as table
use Rattle.ty_core.specs.Types.{Symbol}
use Rattle.flow_sets.specs.Member.{is_in, Within}
use Rattle.flow_sets.specs.ByType.{What, value, name, parameter, Bound, bound_in, is_of, members, sets_from}
use Rattle.flow_sets.proofs.Member.{nat_eq-to, nat_eq-same, within-same}

sets-at : (t n i : ℕ) (bs : List Bound) → i < n → get_or (sets_from t n bs) i [] ≡ members (t + i) bs
sets-at t zero i bs h = absurd (omega (arith, h))
sets-at t (suc n) zero bs h = let e : t ≡ t + zero = omega arith in ap (λ u. members u bs) e
sets-at t (suc n) (suc i) bs h = let e : suc t + i ≡ t + suc i = omega arith in sets-at (suc t) n i bs (omega (arith, h)) ∙ ap (λ u. members u bs) e

sets-past : (t n i : ℕ) (bs : List Bound) → n ≤ i → get_or (sets_from t n bs) i [] ≡ []
sets-past t zero i bs h = refl
sets-past t (suc n) zero bs h = absurd (omega (arith, h))
sets-past t (suc n) (suc i) bs h = sets-past (suc t) n i bs (omega (arith, h))

there : {A : Type 0} (xs : List A) (i : ℕ) {x : A} → slice_get xs i ≡ Some x → i < length xs
there [] i e = absurd (cc)
there (x ∷ xs) zero e = omega arith
there (x ∷ xs) (suc i) e = let l = there xs i e in omega (arith, l)

-- each of these is what the program has at its variable
abbrev pub AllKnown : List Bound → List Bound → Type 0
AllKnown all [] = ⊤
AllKnown all (b ∷ bs) = (bound_in b.variable all ≡ Some b) × AllKnown all bs

pub known-left : (all xs ys : List Bound) → AllKnown all (xs ++ ys) → AllKnown all xs
known-left all [] ys h = tt
known-left all (x ∷ xs) ys h = (h.0, known-left all xs ys h.1)

pub known-right : (all xs ys : List Bound) → AllKnown all (xs ++ ys) → AllKnown all ys
known-right all [] ys h = h
known-right all (x ∷ xs) ys h = known-right all xs ys h.1

-- the function of this number is of type t
pub record IsParameter (all : List Bound) (k t : ℕ) : Type 0 where
  pub entry : Bound
  pub found : bound_in k all ≡ Some entry
  pub is : entry.what ≡ parameter t

here : (all : List Bound) (t k : ℕ) (b : Bound) (u : ℕ) (ms : List ℕ) → bound_in b.variable all ≡ Some b → t ≡ u → b.what ≡ parameter u → (is_in k ms ≡ true → IsParameter all k t) → (c : Bool) → nat_eq k b.variable ≡ c → (c || is_in k ms) ≡ true → IsParameter all k t
here all t k b u ms h e w more true q j = record { entry = b; found = subst (λ z. bound_in z all ≡ Some b) (sym (nat_eq-to k b.variable q)) h; is = w ∙ ap parameter (sym e) }
here all t k b u ms h e w more false q j = more j

at-parameter : (all : List Bound) (t k : ℕ) (b : Bound) (u : ℕ) (ms : List ℕ) → bound_in b.variable all ≡ Some b → b.what ≡ parameter u → (is_in k ms ≡ true → IsParameter all k t) → (c : Bool) → nat_eq t u ≡ c → is_in k (if c then b.variable ∷ ms else ms) ≡ true → IsParameter all k t
at-parameter all t k b u ms h w more true q j = here all t k b u ms h (nat_eq-to t u q) w more (nat_eq k b.variable) refl j
at-parameter all t k b u ms h w more false q j = more j

at-entry : (all : List Bound) (t k : ℕ) (b : Bound) (ms : List ℕ) → bound_in b.variable all ≡ Some b → (is_in k ms ≡ true → IsParameter all k t) → (w : What) → b.what ≡ w → is_in k (if is_of t w then b.variable ∷ ms else ms) ≡ true → IsParameter all k t
at-entry all t k b ms h more (value u) w j = more j
at-entry all t k b ms h more name w j = more j
at-entry all t k b ms h more (parameter u) w j = at-parameter all t k b u ms h w more (nat_eq t u) refl j

member-known : (all : List Bound) (t k : ℕ) (bs : List Bound) → AllKnown all bs → is_in k (members t bs) ≡ true → IsParameter all k t
member-known all t k [] h i = absurd (cc)
member-known all t k (b ∷ bs) h i = at-entry all t k b (members t bs) h.0 (member-known all t k bs h.1) b.what refl i

or-right : (a : Bool) {d : Bool} → d ≡ true → (a || d) ≡ true
or-right true h = refl
or-right false h = h

under : (k x : ℕ) (ms : List ℕ) (b : Bool) → is_in k ms ≡ true → is_in k (if b then x ∷ ms else ms) ≡ true
under k x ms true h = or-right (nat_eq k x) h
under k x ms false h = h

at-first : (t k : ℕ) (b c : Bound) (ms : List ℕ) → b.what ≡ parameter t → c ≡ b → nat_eq k c.variable ≡ true → is_in k (if is_of t c.what then c.variable ∷ ms else ms) ≡ true
at-first t k b c ms w same q =
    let is : is_of t c.what ≡ true = ap (is_of t) (ap (λ z. z.what) same ∙ w) ∙ nat_eq-same t in
    ap (λ x. is_in k (if x then c.variable ∷ ms else ms)) is ∙ ap (λ x. x || is_in k ms) q

known-in : (t k : ℕ) (b c : Bound) (bs : List Bound) → b.what ≡ parameter t → (bound_in k bs ≡ Some b → is_in k (members t bs) ≡ true) → (x : Bool) → nat_eq k c.variable ≡ x → (if x then Some c else bound_in k bs) ≡ Some b → is_in k (if is_of t c.what then c.variable ∷ members t bs else members t bs) ≡ true
known-in t k b c bs w more true q e = at-first t k b c (members t bs) w (cc) q
known-in t k b c bs w more false q e = under k c.variable (members t bs) (is_of t c.what) (more e)

known-member : (t k : ℕ) (b : Bound) (bs : List Bound) → b.what ≡ parameter t → bound_in k bs ≡ Some b → is_in k (members t bs) ≡ true
known-member t k b [] w e = absurd (cc)
known-member t k b (c ∷ bs) w e = known-in t k b c bs w (known-member t k b bs w) (nat_eq k c.variable) refl e

row-at : (types : List table.Row) (t : ℕ) (n : Node) (o : Option table.Row) → slice_get types t ≡ o → option_map (λ r. r.type) o ≡ Some n → t < length types
row-at types t n None q e = absurd (cc)
row-at types t n (Some r) q e = there types t q

module _ (types : List table.Row) (all : List Bound) where
  abbrev pub sets : List (List ℕ)
  sets = sets_from 0 (length types) all

  abbrev pub of : ℕ → List ℕ
  of t = get_or sets t []

  pub same-type : {t u : ℕ} → t ≡ u → Within (of t) (of u)
  same-type {t} {u} e = within-same (ap of e)

  -- no function is in the set of no type
  pub of-nothing : of (length types) ≡ []
  of-nothing = sets-past 0 (length types) (length types) all (omega arith)

  of-row : (t : ℕ) {s : Symbol} {ps : List ℕ} → Is types t s ps → of t ≡ members t all
  of-row t e = let z : 0 + t ≡ t = omega arith in sets-at 0 (length types) t all (row-at types t _ (slice_get types t) refl e) ∙ ap (λ u. members u all) z

  pub in-set : (t k : ℕ) {s : Symbol} {ps : List ℕ} (b : Bound) → Is types t s ps → bound_in k all ≡ Some b → b.what ≡ parameter t → is_in k (of t) ≡ true
  in-set t k b e h w = ap (is_in k) (of-row t e) ∙ known-member t k b all w h

  pub of-set : (t k : ℕ) {s : Symbol} {ps : List ℕ} → AllKnown all all → Is types t s ps → is_in k (of t) ≡ true → IsParameter all k t
  of-set t k known e i = member-known all t k all known (sym (ap (is_in k) (of-row t e)) ∙ i)
