-- What is taken from the head leaves fewer terminals.
use Rattle.std.proofs.Common.{◌≡◌, suc, ◌<◌, List, [], ◌∷◌, length, Some, None, Option, Bool, true, false, ap, arith, if◌then◌else◌}
use Rattle.mlc_names.specs.declared.token.Reserved.{Reserved}
use Rattle.sml_tree.specs.Terminal.{Terminal}
use Rattle.sml_tree.specs.ReadTree.{Placed}
use Rattle.sml_grammar.specs.Terminals.{place_of, first_as, placed_if, after_word, after_star, word_of, is_word, star_of, Taken, taken}

rest_of : {B : Type 0} → Option (Taken B) → List Terminal
rest_of (Some x) = x.rest
rest_of None = []

same-rest : {B : Type 0} {x y : B} {m o : List Terminal} → taken x m ≡ taken y o → m ≡ o
unfolding rest_of
same-rest h = ap rest_of h

pub first-shorter : {B : Type 0} (g : Terminal → Option B) (i : List Terminal) (x : Placed B) (o : List Terminal) → first_as g i ≡ taken x o → length o < length i
first-shorter g [] x o h = absurd (cc)
first-shorter {B} g (t ∷ m) x o h = go (g t) h
  where
    go : (v : Option B) → placed_if (place_of t) v m ≡ taken x o → length o < suc (length m)
    go (Some b) e = let q : m ≡ o = same-rest e in let r = ap length q in omega arith
    go None e = absurd (cc)

pub word-shorter : (w : Reserved) (i o : List Terminal) → after_word w i ≡ Some o → length o < length i
word-shorter w [] o h = absurd (cc)
word-shorter w (t ∷ m) o h = go (is_word w (word_of t)) h
  where
    go : (b : Bool) → (if b then Some m else None) ≡ Some o → length o < suc (length m)
    go true e = let q : m ≡ o = cc in let r = ap length q in omega arith
    go false e = absurd (cc)

pub star-shorter : (i o : List Terminal) → after_star i ≡ Some o → length o < length i
star-shorter [] o h = absurd (cc)
star-shorter (t ∷ m) o h = go (star_of t) h
  where
    go : (b : Bool) → (if b then Some m else None) ≡ Some o → length o < suc (length m)
    go true e = let q : m ≡ o = cc in let r = ap length q in omega arith
    go false e = absurd (cc)
