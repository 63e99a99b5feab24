-- What is in scope, and atoms one after the other.
use Rattle.std.proofs.Common.{◌≡◌, ◌≢◌, ℕ, zero, suc, ◌+◌, ◌<◌, ◌≤◌, Bool, true, false, ◌&&◌, List, [], ◌∷◌, ◌++◌, map, length, drop, slice_index_or, Option, Some, None, nat_eq, cond, option_map, option_and_then, refl, sym, ap, ap₂, ◌∙◌, subst, arith, append_assoc}
use Rattle.std.specs.Map.{lookup}
use Rattle.mlc_names.specs.declared.label.Label.{Label}
use Rattle.ir_values.specs.Values.{same_label}
use Rattle.ir_mono.specs.Typing.{Sort, Sorts, sort_of}
use Rattle.ir_known.specs.declared.known.Known.{Known}
use Rattle.plain_tree.specs.declared.tree.Field.{Field}
use Rattle.plain_tree.specs.TreeOf.{atoms_of, row_of}
use Rattle.mono_uses.specs.of_mono_fits.Asked.{given}
use Rattle.mono_uses.specs.of_mono_fits.Fits.{type_in, argument_in, type_of, argument_of, is_atom, types_of, row_fits}
use Rattle.mono_operations.specs.Reads.{reading, sort_in, sorts_of}
use Rattle.mono_operations.specs.declared.tables.Tables.{Tables}

found-sort : (ks : List (ℕ × Known)) (x : ℕ) → sort_of (sorts_of ks) x ≡ option_map sort_in (lookup (nat_eq x) ks)
found-sort [] x = refl
found-sort (k ∷ ks) x = by (nat_eq x k.0) (found-sort ks x)
  where
    by : (b : Bool) → sort_of (sorts_of ks) x ≡ option_map sort_in (lookup (nat_eq x) ks) → cond b (Some (sort_in k.1)) (sort_of (sorts_of ks) x) ≡ option_map sort_in (cond b (Some k.1) (lookup (nat_eq x) ks))
    by true e = refl
    by false e = e

module _ {A : Type 0} (f : Sort → Option A) where
  mapped : (o : Option Known) → option_and_then f (option_map sort_in o) ≡ option_and_then (λ k. f (sort_in k)) o
  mapped None = refl
  mapped (Some k) = refl

  pub found-then : (ks : List (ℕ × Known)) (x : ℕ) → option_and_then f (sort_of (sorts_of ks) x) ≡ option_and_then (λ k. f (sort_in k)) (lookup (nat_eq x) ks)
  found-then ks x = ap (option_and_then f) (found-sort ks x) ∙ mapped (lookup (nat_eq x) ks)

module _ (f : Sort → Bool) where
  given-mapped : (o : Option Known) → given (option_map sort_in o) f ≡ given o (λ k. f (sort_in k))
  given-mapped None = refl
  given-mapped (Some k) = refl

  pub found-given : (ks : List (ℕ × Known)) (x : ℕ) → given (sort_of (sorts_of ks) x) f ≡ given (lookup (nat_eq x) ks) (λ k. f (sort_in k))
  found-given ks x = ap (λ o. given o f) (found-sort ks x) ∙ given-mapped (lookup (nat_eq x) ks)

-- Lists that are gone along

pub there : {A : Type 0} (xs : List A) (n : ℕ) (x : A) → n < length xs → x ≡ slice_index_or xs n x → drop n xs ≡ x ∷ drop (suc n) xs
there [] n x lt e = absurd (omega arith)
there (y ∷ xs) zero x lt e = ap (λ y. y ∷ xs) (sym e)
there (y ∷ xs) (suc n) x lt e = there xs n x (omega arith) e

none-left : {A : Type 0} (xs : List A) (n : ℕ) → length xs ≤ n → drop n xs ≡ []
none-left [] zero e = refl
none-left [] (suc n) e = refl
none-left (x ∷ xs) zero e = absurd (omega arith)
none-left (x ∷ xs) (suc n) e = none-left xs n (omega arith)

-- Types of atoms

module _ (t : Tables) (L : Sorts) where
  -- those found, and those of the atoms from n on
  abbrev pub Behind : List ℕ → List ℕ → ℕ → Type 0
  Behind atoms found n =
      types_of t.types t.exn L (atoms_of (reading t) atoms) ≡ option_map (λ ts. found ++ ts) (types_of t.types t.exn L (atoms_of (reading t) (drop n atoms)))

  option-same : (o : Option (List ℕ)) → o ≡ option_map (λ ts. [] ++ ts) o
  option-same None = refl
  option-same (Some ts) = refl

  pub behind-first : (atoms : List ℕ) → Behind atoms [] 0
  behind-first atoms = option-same (types_of t.types t.exn L (atoms_of (reading t) atoms))

  onto : (found : List ℕ) (ty : ℕ) (o : Option (List ℕ)) → option_map (λ ts. found ++ ts) (option_map (λ ts. ty ∷ ts) o) ≡ option_map (λ ts. (found ++ ty ∷ []) ++ ts) o
  onto found ty None = refl
  onto found ty (Some ts) = ap Some (sym (append_assoc found (ty ∷ []) ts))

  pub behind-next : (atoms found new : List ℕ) (n x ty : ℕ) → n < length atoms → x ≡ slice_index_or atoms n x → Behind atoms found n → Some ty ≡ type_of L x → new ≡ found ++ ty ∷ [] → Behind atoms new (n + 1)
  behind-next atoms found new n x ty lt e b i m =
      b ∙ ap (λ as_. option_map (λ ts. found ++ ts) (types_of t.types t.exn L (atoms_of (reading t) as_))) (there atoms n x lt e)
      ∙ ap (λ o. option_map (λ ts. found ++ ts) (option_and_then (λ u. option_map (λ ts. u ∷ ts) (types_of t.types t.exn L (atoms_of (reading t) (drop (suc n) atoms)))) o)) (sym i)
      ∙ onto found ty (types_of t.types t.exn L (atoms_of (reading t) (drop (suc n) atoms)))
      ∙ ap₂ (λ new k. option_map (λ ts. new ++ ts) (types_of t.types t.exn L (atoms_of (reading t) (drop k atoms)))) (sym m) more
    where
      more : suc n ≡ n + 1
      more = omega arith

  pub behind-none : (atoms found : List ℕ) (n x : ℕ) → n < length atoms → x ≡ slice_index_or atoms n x → Behind atoms found n → None ≡ type_of L x → None ≡ types_of t.types t.exn L (atoms_of (reading t) atoms)
  behind-none atoms found n x lt e b i = sym (
      b ∙ ap (λ as_. option_map (λ ts. found ++ ts) (types_of t.types t.exn L (atoms_of (reading t) as_))) (there atoms n x lt e)
      ∙ ap (λ o. option_map (λ ts. found ++ ts) (option_and_then (λ u. option_map (λ ts. u ∷ ts) (types_of t.types t.exn L (atoms_of (reading t) (drop (suc n) atoms)))) o)) (sym i))

  append-nil : (l : List ℕ) → l ++ [] ≡ l
  append-nil [] = refl
  append-nil (k ∷ l) = ap (λ m. k ∷ m) (append-nil l)

  pub behind-all : (atoms found : List ℕ) (n : ℕ) → length atoms ≤ n → Behind atoms found n → Some found ≡ types_of t.types t.exn L (atoms_of (reading t) atoms)
  behind-all atoms found n le b =
      sym (b ∙ ap (λ as_. option_map (λ ts. found ++ ts) (types_of t.types t.exn L (atoms_of (reading t) as_))) (none-left atoms n le) ∙ ap Some (append-nil found))

  -- Fields

  abbrev pub Fit : List Field → List Label → List ℕ → Bool
  Fit fs ls ts = row_fits t.types t.exn L (row_of (reading t) fs) ls ts

  and-false : (a : Bool) → (a && false) ≡ false
  and-false true = refl
  and-false false = refl

  and-last : (a b d : Bool) → (a && (b && d)) ≡ true → d ≡ true
  and-last true true d e = e
  and-last true false d e = absurd (cc)
  and-last false b d e = absurd (cc)

  fewer : (fs : List Field) (ls : List Label) (ts : List ℕ) → Fit fs ls ts ≡ true → (length fs ≡ length ls) × (length fs ≡ length ts)
  fewer [] [] [] e = (refl, refl)
  fewer [] [] (t ∷ ts) e = absurd (cc)
  fewer [] (l ∷ ls) ts e = absurd (cc)
  fewer (f ∷ fs) [] ts e = absurd (cc)
  fewer (f ∷ fs) (l ∷ ls) [] e = absurd (cc)
  fewer (f ∷ fs) (l ∷ ls) (u ∷ ts) e =
      let p = fewer fs ls ts (and-last (same_label f.label l) (is_atom L f.atom u) (Fit fs ls ts) e) in
      (ap suc p.0, ap suc p.1)

  not-true : (b : Bool) → (b ≡ true → ⊥) → false ≡ b
  not-true true n = absurd (n refl)
  not-true false n = refl

  pub labels-differ : (fs : List Field) (ls : List Label) (ts : List ℕ) → length fs ≢ length ls → false ≡ Fit fs ls ts
  labels-differ fs ls ts n = not-true (Fit fs ls ts) (λ e. n (fewer fs ls ts e).0)

  pub parts-differ : (fs : List Field) (ls : List Label) (ts : List ℕ) → length fs ≢ length ts → false ≡ Fit fs ls ts
  parts-differ fs ls ts n = not-true (Fit fs ls ts) (λ e. n (fewer fs ls ts e).1)

  abbrev pub Along : List Field → List Label → List ℕ → ℕ → Type 0
  Along fs ls ts n = Fit fs ls ts ≡ Fit (drop n fs) (drop n ls) (drop n ts)

  at-field : (fs : List Field) (ls : List Label) (ts : List ℕ) (n : ℕ) (f : Field) (l : Label) (u : ℕ) → n < length fs → n < length ls → n < length ts → f ≡ slice_index_or fs n f → l ≡ slice_index_or ls n l → u ≡ slice_index_or ts n u
      → Fit (drop n fs) (drop n ls) (drop n ts) ≡ (same_label f.label l && (is_atom L f.atom u && Fit (drop (suc n) fs) (drop (suc n) ls) (drop (suc n) ts)))
  at-field fs ls ts n f l u a b d e g h = ap₂ (λ fs (p : List Label × List ℕ). Fit fs p.0 p.1) (there fs n f a e) (ap₂ (λ ls ts. (ls, ts)) (there ls n l b g) (there ts n u d h))

  and-and : (a b d : Bool) → (a && (b && d)) ≡ ((a && b) && d)
  and-and true b d = refl
  and-and false b d = refl

  pub along-next : (fs : List Field) (ls : List Label) (ts : List ℕ) (n : ℕ) (f : Field) (l : Label) (u : ℕ) (y : Bool) → n < length fs → n < length ls → n < length ts → f ≡ slice_index_or fs n f → l ≡ slice_index_or ls n l → u ≡ slice_index_or ts n u
      → y ≡ (same_label f.label l && is_atom L f.atom u) → y ≡ true → Along fs ls ts n → Along fs ls ts (n + 1)
  along-next fs ls ts n f l u y a b d e g h i s w =
      w ∙ at-field fs ls ts n f l u a b d e g h ∙ and-and (same_label f.label l) (is_atom L f.atom u) (Fit (drop (suc n) fs) (drop (suc n) ls) (drop (suc n) ts))
      ∙ ap (λ q. q && Fit (drop (suc n) fs) (drop (suc n) ls) (drop (suc n) ts)) (sym i ∙ s) ∙ ap (λ k. Fit (drop k fs) (drop k ls) (drop k ts)) more
    where
      more : suc n ≡ n + 1
      more = omega arith

  pub along-stops : (fs : List Field) (ls : List Label) (ts : List ℕ) (n : ℕ) (f : Field) (l : Label) (u : ℕ) (y : Bool) → n < length fs → n < length ls → n < length ts → f ≡ slice_index_or fs n f → l ≡ slice_index_or ls n l → u ≡ slice_index_or ts n u
      → y ≡ (same_label f.label l && is_atom L f.atom u) → y ≡ false → Along fs ls ts n → false ≡ Fit fs ls ts
  along-stops fs ls ts n f l u y a b d e g h i s w = sym (
      w ∙ at-field fs ls ts n f l u a b d e g h ∙ and-and (same_label f.label l) (is_atom L f.atom u) (Fit (drop (suc n) fs) (drop (suc n) ls) (drop (suc n) ts))
      ∙ ap (λ q. q && Fit (drop (suc n) fs) (drop (suc n) ls) (drop (suc n) ts)) (sym i ∙ s))

  pub along-all : (fs : List Field) (ls : List Label) (ts : List ℕ) (n : ℕ) → length fs ≡ length ls → length fs ≡ length ts → length fs ≤ n → Along fs ls ts n → true ≡ Fit fs ls ts
  along-all fs ls ts n p q le w = sym (w ∙ ap₂ (λ fs (p : List Label × List ℕ). Fit fs p.0 p.1) (none-left fs n le) (ap₂ (λ ls ts. (ls, ts)) (none-left ls n (omega arith)) (none-left ts n (omega arith))))
