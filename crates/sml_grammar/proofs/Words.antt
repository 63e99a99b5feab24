-- Reserved words at the head of the terminals.
use Rattle.std.proofs.Common.{◌≡◌, ℕ, zero, suc, List, [], ◌∷◌, Option, Some, None, Bool, true, false, refl, sym, ap, ◌∙◌, subst, nat_eq, if◌then◌else◌}
use Rattle.std.proofs.lemmas.Bool.{eqb-true, eq-eqb}
use Rattle.mlc_names.specs.declared.token.Reserved.{Reserved}
use Rattle.mlc_names.specs.declared.token.Reserved.TheVariants as res
use Rattle.sml_tree.specs.Terminal.{Terminal, reserved, number, constant, alpha, symbol, star, long_alpha, long_symbol, long_star, type_var}
use Rattle.sml_grammar.specs.Terminals.{word_number, after_word, after_star}

-- words in the order of their numbers
abbrev words : List Reserved
words = res.Abstype ∷ res.And ∷ res.Andalso ∷ res.As ∷ res.Case ∷ res.Datatype ∷ res.Do ∷ res.Else ∷ res.End ∷ res.Eqtype ∷ res.Exception ∷ res.Fn ∷ res.Fun ∷ res.Functor ∷ res.Handle ∷ res.If ∷ res.In ∷ res.Include ∷ res.Infix ∷ res.Infixr ∷ res.Let ∷ res.Local ∷ res.Nonfix ∷ res.Of ∷ res.Op ∷ res.Open ∷ res.Orelse ∷ res.Raise ∷ res.Rec ∷ res.Sharing ∷ res.Sig ∷ res.Signature ∷ res.Struct ∷ res.Structure ∷ res.Then ∷ res.TypeWord ∷ res.Val ∷ res.Where ∷ res.While ∷ res.With ∷ res.Withtype ∷ res.LeftParen ∷ res.RightParen ∷ res.LeftBracket ∷ res.RightBracket ∷ res.LeftBrace ∷ res.RightBrace ∷ res.Comma ∷ res.Semicolon ∷ res.Dots ∷ res.Underscore ∷ res.Colon ∷ res.ColonGreater ∷ res.Bar ∷ res.Equals ∷ res.DoubleArrow ∷ res.Arrow ∷ res.Hash ∷ []

abbrev nth : List Reserved → ℕ → Reserved
nth [] n = res.Hash
nth (w ∷ ws) zero = w
nth (w ∷ ws) (suc n) = nth ws n

nth-number : (w : Reserved) → nth words (word_number w) ≡ w
nth-number res.Abstype = refl
nth-number res.And = refl
nth-number res.Andalso = refl
nth-number res.As = refl
nth-number res.Case = refl
nth-number res.Datatype = refl
nth-number res.Do = refl
nth-number res.Else = refl
nth-number res.End = refl
nth-number res.Eqtype = refl
nth-number res.Exception = refl
nth-number res.Fn = refl
nth-number res.Fun = refl
nth-number res.Functor = refl
nth-number res.Handle = refl
nth-number res.If = refl
nth-number res.In = refl
nth-number res.Include = refl
nth-number res.Infix = refl
nth-number res.Infixr = refl
nth-number res.Let = refl
nth-number res.Local = refl
nth-number res.Nonfix = refl
nth-number res.Of = refl
nth-number res.Op = refl
nth-number res.Open = refl
nth-number res.Orelse = refl
nth-number res.Raise = refl
nth-number res.Rec = refl
nth-number res.Sharing = refl
nth-number res.Sig = refl
nth-number res.Signature = refl
nth-number res.Struct = refl
nth-number res.Structure = refl
nth-number res.Then = refl
nth-number res.TypeWord = refl
nth-number res.Val = refl
nth-number res.Where = refl
nth-number res.While = refl
nth-number res.With = refl
nth-number res.Withtype = refl
nth-number res.LeftParen = refl
nth-number res.RightParen = refl
nth-number res.LeftBracket = refl
nth-number res.RightBracket = refl
nth-number res.LeftBrace = refl
nth-number res.RightBrace = refl
nth-number res.Comma = refl
nth-number res.Semicolon = refl
nth-number res.Dots = refl
nth-number res.Underscore = refl
nth-number res.Colon = refl
nth-number res.ColonGreater = refl
nth-number res.Bar = refl
nth-number res.Equals = refl
nth-number res.DoubleArrow = refl
nth-number res.Arrow = refl
nth-number res.Hash = refl

pub word_number-one : (v w : Reserved) → word_number v ≡ word_number w → v ≡ w
word_number-one v w e = sym (nth-number v) ∙ ap (nth words) e ∙ nth-number w

pub word-self : (w : Reserved) (p : ℕ) (o : List Terminal) → after_word w (reserved p w ∷ o) ≡ Some o
word-self w p o = let e : nat_eq (word_number w) (word_number w) ≡ true = eq-eqb (word_number w) (word_number w) refl in rw e refl

-- the terminals begin with this word, and these are after it
pub data WordAt (w : Reserved) : List Terminal → List Terminal → Type 0 where
  at_word : {o : List Terminal} (p : ℕ) → WordAt w (reserved p w ∷ o) o

-- `after_word w i` by what stands at the head
pub data AfterWord (w : Reserved) : List Terminal → Option (List Terminal) → Type 0 where
  found : {o : List Terminal} (p : ℕ) → AfterWord w (reserved p w ∷ o) (Some o)
  absent : {i : List Terminal} → after_word w i ≡ None → AfterWord w i None

pub after-is : (w : Reserved) (i : List Terminal) → AfterWord w i (after_word w i)
after-is w [] = absent refl
after-is w (reserved p v ∷ o) = go (nat_eq (word_number v) (word_number w)) refl
  where
    go : (b : Bool) → nat_eq (word_number v) (word_number w) ≡ b → AfterWord w (reserved p v ∷ o) (if b then Some o else None)
    go true e = let s : w ≡ v = sym (word_number-one v w (eqb-true (word_number v) (word_number w) e)) in subst (λ (z : Reserved). AfterWord w (reserved p z ∷ o) (Some o)) s (found p)
    go false e = absent (rw e refl)
after-is w (number p n b ∷ o) = absent refl
after-is w (constant p c ∷ o) = absent refl
after-is w (alpha p x ∷ o) = absent refl
after-is w (symbol p x ∷ o) = absent refl
after-is w (star p x ∷ o) = absent refl
after-is w (long_alpha p qs x ∷ o) = absent refl
after-is w (long_symbol p qs x ∷ o) = absent refl
after-is w (long_star p qs x ∷ o) = absent refl
after-is w (type_var p a ∷ o) = absent refl

pub word-at : (w : Reserved) (i o : List Terminal) → after_word w i ≡ Some o → WordAt w i o
word-at w i o h = go (after-is w i) h
  where
    go : {i : List Terminal} {v : Option (List Terminal)} → AfterWord w i v → v ≡ Some o → WordAt w i o
    go (found {o = m} p) e = let s : m ≡ o = cc in subst (λ (z : List Terminal). WordAt w (reserved p w ∷ m) z) s (at_word p)
    go (absent n) e = absurd (cc)

pub word-found : {w : Reserved} {i o : List Terminal} → WordAt w i o → after_word w i ≡ Some o
word-found {w} {o} (at_word p) = word-self w p o

-- the terminals begin with `*`
pub data StarAt : List Terminal → List Terminal → Type 0 where
  at_star : {o : List Terminal} (p x : ℕ) → StarAt (star p x ∷ o) o

pub data AfterStar : List Terminal → Option (List Terminal) → Type 0 where
  found_star : {o : List Terminal} (p x : ℕ) → AfterStar (star p x ∷ o) (Some o)
  no_star : {i : List Terminal} → after_star i ≡ None → AfterStar i None

pub star-is : (i : List Terminal) → AfterStar i (after_star i)
star-is (star p x ∷ o) = found_star p x
star-is _ = no_star refl

pub star-at : (i o : List Terminal) → after_star i ≡ Some o → StarAt i o
star-at i o h = go (star-is i) h
  where
    go : {i : List Terminal} {v : Option (List Terminal)} → AfterStar i v → v ≡ Some o → StarAt i o
    go (found_star {o = m} p x) e = let s : m ≡ o = cc in subst (λ (z : List Terminal). StarAt (star p x ∷ m) z) s (at_star p x)
    go (no_star n) e = absurd (cc)

pub star-found : {i o : List Terminal} → StarAt i o → after_star i ≡ Some o
star-found (at_star p x) = refl
