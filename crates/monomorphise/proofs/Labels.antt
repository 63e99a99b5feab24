-- Labels that ascend are distinct.
use Rattle.std.proofs.Common.{◌≡◌, ℕ, ◌<◌, Bool, true, false, ◌&&◌, List, [], ◌∷◌, nat_eq, nat_lt, refl, arith}
use Rattle.std.proofs.lemmas.Bool.{and_parts, eqb-true, ltb-true, lt-ltb}
use Rattle.mlc_names.specs.declared.label.Label.{Label}
use Rattle.mlc_names.specs.declared.label.Label.TheVariants.{Number, Word}
use Rattle.ir_mono.specs.of_ir_values.Values.{same_label}
use Rattle.ir_mono.specs.of_ir_poly.Types.{label_before, ascend}
use Rattle.ir_mono.specs.Types.{IsOther, other_none, other_more, AreDistinct, distinct_none, distinct_more}

later-number : (m n : ℕ) → nat_lt m n ≡ true → nat_eq n m ≡ false
later-number m n e = go (nat_eq n m) refl
  where
    go : (b : Bool) → nat_eq n m ≡ b → b ≡ false
    go true d = let same = eqb-true n m d in let less = ltb-true m n e in absurd (omega (arith, same, less))
    go false d = refl

-- none comes before itself
before-other : (l k : Label) → label_before l k ≡ true → same_label k l ≡ false
before-other (Number m) (Number n) e = later-number m n e
before-other (Number m) (Word x) e = refl
before-other (Word x) (Number n) e = absurd (cc)
before-other (Word x) (Word y) e = later-number x y e

before-all : (l k j : Label) → label_before l k ≡ true → label_before k j ≡ true → label_before l j ≡ true
before-all (Number m) (Number n) (Number i) e d = lt-ltb m i (let a = ltb-true m n e in let b = ltb-true n i d in omega (arith, a, b))
before-all (Number m) (Number n) (Word z) e d = refl
before-all (Number m) (Word y) (Number i) e d = absurd (cc)
before-all (Number m) (Word y) (Word z) e d = refl
before-all (Word x) (Number n) j e d = absurd (cc)
before-all (Word x) (Word y) (Number i) e d = absurd (cc)
before-all (Word x) (Word y) (Word z) e d = lt-ltb x z (let a = ltb-true x y e in let b = ltb-true y z d in omega (arith, a, b))

others-after : (l k : Label) (ls : List Label) → label_before l k ≡ true → ascend (k ∷ ls) ≡ true → IsOther l (k ∷ ls)
others-after l k [] e h = other_more (before-other l k e) other_none
others-after l k (j ∷ ls) e h =
    let a = and_parts (label_before k j) _ h in other_more (before-other l k e) (others-after l j ls (before-all l k j e a.0) a.1)

distinct-since : (ls : List Label) → ascend ls ≡ true → AreDistinct ls
distinct-since [] h = distinct_none
distinct-since (l ∷ []) h = distinct_more other_none distinct_none
distinct-since (l ∷ k ∷ ls) h = let a = and_parts (label_before l k) _ h in distinct_more (others-after l k ls a.0 a.1) (distinct-since (k ∷ ls) a.1)

pub ascend-distinct : {ls : List Label} → ascend ls ≡ true → AreDistinct ls
ascend-distinct {ls} h = distinct-since ls h
