-- The directives that are kept, before and after one more.
use Rattle.std.proofs.Common.{◌≡◌, ℕ, zero, suc, ◌+◌, ◌-◌, ◌≤◌, ◌<◌, List, [], ◌∷◌, ◌++◌, length, take, drop, map, inl, inr, Bool, true, false, Option, Some, None, nat_eq, if◌then◌else◌, refl, sym, ap, ◌∙◌, arith}
use Rattle.std.proofs.Math.Seq.{take-suc}
use Rattle.std.proofs.lemmas.List.{reverse-append, map-append, take_all}
use Rattle.std.proofs.lemmas.Bool.Decides.{eqb_tells, nat_tests}
use Rattle.std.specs.Prelude.{get_or}
use Rattle.sml_tree.specs.Fixity.{Fixity, fix_of, is_vid, directives_for}
use Rattle.sml_tree.specs.Trie.{Trie, kept, nothing}
use Rattle.sml_tree.specs.Kept.{newest_first, status_of, Agrees}
use Rattle.sml_tree.specs.VidNumber.{vid_number}
use Rattle.sml_tree.specs.declared.fixity.Directive.{Directive}
use Rattle.sml_tree.specs.declared.fixity.Infix.{Infix}
use Rattle.sml_tree.specs.declared.ident.Vid.{Vid}
use Rattle.sml_tree.specs.declared.ident.Vid.TheVariants.{Named, Equals, Fresh}

pub one_number : (v w : Vid) → nat_eq (vid_number v) (vid_number w) ≡ is_vid v w
one_number Equals Equals = refl
one_number Equals (Named y) = grind (arith, nat_tests)
one_number Equals (Fresh y) = grind (arith, nat_tests)
one_number (Named x) Equals = grind (arith, nat_tests)
one_number (Named x) (Named y) = grind (arith, nat_tests)
one_number (Named x) (Fresh y) = grind (arith, nat_tests)
one_number (Fresh x) Equals = grind (arith, nat_tests)
one_number (Fresh x) (Named y) = grind (arith, nat_tests)
one_number (Fresh x) (Fresh y) = grind (arith, nat_tests)

abbrev Aged : Trie → ℕ → Type 0
Aged t count = (n : ℕ) → 0 < n → n ≤ count → (d : Directive) × (kept t n ≡ Some d)

pub as_many : (t : Trie) (n count : ℕ) → n ≤ count → Aged t count → length (newest_first t n) ≡ n
as_many t zero count le h = refl
as_many t (suc n) count le h =
    let here = h (suc n) (omega arith) le in
    let e : kept t (suc n) ≡ Some here.0 = here.1 in
    rw e (ap suc (as_many t n count (omega arith) h))

-- the directives up to an age are those behind the newer ones
pub behind : (t : Trie) (n count : ℕ) → n ≤ count → Aged t count → drop (count - n) (newest_first t count) ≡ newest_first t n
behind t zero zero le h = refl
behind t (suc n) zero le h = absurd (omega arith)
behind t n (suc count) le h = elim (eqb_tells n (suc count)) [
  | inl p ↦ let e : suc count - n ≡ 0 = omega (arith, p.1) in rw (e, p.1) refl
  | inr p ↦
      let e : suc count - n ≡ suc (count - n) = omega (arith, p.1) in
      let here = h (suc count) (omega arith) (omega arith) in
      let d : kept t (suc count) ≡ Some here.0 = here.1 in
      rw (e, d) (behind t n count (omega (arith, p.1)) (λ m pos l. h m pos (omega arith)))
]

pub at_age : (t : Trie) (k count : ℕ) (d : Directive) → 0 < k → k ≤ count → Aged t count → kept t k ≡ Some d → drop (count - k) (newest_first t count) ≡ d ∷ drop (count - (k - 1)) (newest_first t count)
at_age t zero count d pos le h is = absurd (omega arith)
at_age t (suc k) count d pos le h is =
    let e : suc k - 1 ≡ k = omega arith in
    rw (e, behind t (suc k) count (omega arith) h, behind t k count (omega arith) h, is) refl

pub has_age : (t : Trie) (k count : ℕ) → 0 < k → k ≤ count → Aged t count → kept t k ≡ None → ⊥
has_age t k count pos le h none = let here = h k pos le in let e : kept t k ≡ Some here.0 = here.1 in let f : None ≡ Some here.0 = sym none ∙ e in cc

pub same_front : (t made : Trie) (n count : ℕ) → n ≤ count → ((m : ℕ) → 0 < m → m ≤ count → kept made m ≡ kept t m) → newest_first made n ≡ newest_first t n
same_front t made zero count le h = refl
same_front t made (suc n) count le h = rw (h (suc n) (omega arith) le, same_front t made n count (omega arith) h) refl

module _ (by_age by_vid more_age more_vid : Trie) (count number : ℕ) (d : Directive) (number_is : number ≡ vid_number d.vid)
    (age_is : (n : ℕ) → 0 < n → kept more_age n ≡ (if nat_eq n (count + 1) then Some d else kept by_age n))
    (vid_is : (n : ℕ) → 0 < n → kept more_vid n ≡ (if nat_eq n number then Some d else kept by_vid n))
    (held : Agrees by_age by_vid count) where
  earlier : (m : ℕ) → 0 < m → m ≤ count → kept more_age m ≡ kept by_age m
  earlier m pos le = let e = age_is m pos in grind (arith, nat_tests)

  last : kept more_age (suc count) ≡ Some d
  last = let e = age_is (suc count) (omega arith) in grind (arith, nat_tests)

  more_first : newest_first more_age (suc count) ≡ d ∷ newest_first by_age count
  more_first = rw (last, same_front by_age more_age count count (omega arith) earlier) refl

  aged : Aged more_age (suc count)
  aged n pos le = elim (eqb_tells n (suc count)) [
    | inl p ↦ (d, ap (kept more_age) p.1 ∙ last)
    | inr p ↦ let here = held.aged n pos (omega arith) in (here.0, earlier n pos (omega arith) ∙ here.1)
  ]

  positive : (v : Vid) → 0 < vid_number v
  positive Equals = omega arith
  positive (Named x) = omega arith
  positive (Fresh x) = omega arith

  chosen : (b : Bool) (found : Option Directive) (s : Option Infix) → status_of found ≡ s → status_of (if b then Some d else found) ≡ (if b then d.status else s)
  chosen true found s e = refl
  chosen false found s e = e

  newest : (v : Vid) → status_of (kept more_vid (vid_number v)) ≡ fix_of v (newest_first more_age (suc count))
  newest v = ap status_of (vid_is (vid_number v) (positive v)) ∙ chosen (nat_eq (vid_number v) number) (kept by_vid (vid_number v)) (fix_of v (newest_first by_age count)) (held.newest v)
      ∙ ap (λ b. if b then d.status else fix_of v (newest_first by_age count)) (ap (nat_eq (vid_number v)) number_is ∙ one_number v d.vid) ∙ sym (ap (fix_of v) more_first)

  pub one_more : Agrees more_age more_vid (count + 1)
  one_more = let e : count + 1 ≡ suc count = omega arith in let held_now : Agrees more_age more_vid (suc count) = record { aged = aged; newest = newest } in rw e held_now

  pub one_first : (self : Fixity) → newest_first by_age count ≡ self → newest_first more_age (count + 1) ≡ d ∷ self
  one_first self is = let e : count + 1 ≡ suc count = omega arith in rw e (more_first ∙ ap (λ ds. d ∷ ds) is)

-- the directives of a declaration, and the newest of a scope
