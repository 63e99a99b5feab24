-- Words are compared by their numbers.
use Rattle.std.proofs.Common.{◌≡◌, List, [], ◌∷◌, Some, None, true, false, refl, sym, ◌∙◌, nat_eq}
use Rattle.mlc_names.specs.declared.token.Reserved.{Reserved}
use Rattle.mlc_names.specs.declared.token.Reserved.TheVariants as res
use Rattle.mlc_names.specs.contracts.token.Reserved.{the_type}
use Rattle.sml_tree.specs.Terminal.{Terminal}
use Rattle.sml_grammar.specs.Terminals.{word_number, after_word, word_at, tail}
use denote.Enum.Bare.{sameb}
use denote.Enum.Declared.{tag_of}

tag-is : (w : Reserved) → tag_of the_type w ≡ word_number w
tag-is res.Abstype = refl
tag-is res.And = refl
tag-is res.Andalso = refl
tag-is res.As = refl
tag-is res.Case = refl
tag-is res.Datatype = refl
tag-is res.Do = refl
tag-is res.Else = refl
tag-is res.End = refl
tag-is res.Eqtype = refl
tag-is res.Exception = refl
tag-is res.Fn = refl
tag-is res.Fun = refl
tag-is res.Functor = refl
tag-is res.Handle = refl
tag-is res.If = refl
tag-is res.In = refl
tag-is res.Include = refl
tag-is res.Infix = refl
tag-is res.Infixr = refl
tag-is res.Let = refl
tag-is res.Local = refl
tag-is res.Nonfix = refl
tag-is res.Of = refl
tag-is res.Op = refl
tag-is res.Open = refl
tag-is res.Orelse = refl
tag-is res.Raise = refl
tag-is res.Rec = refl
tag-is res.Sharing = refl
tag-is res.Sig = refl
tag-is res.Signature = refl
tag-is res.Struct = refl
tag-is res.Structure = refl
tag-is res.Then = refl
tag-is res.TypeWord = refl
tag-is res.Val = refl
tag-is res.Where = refl
tag-is res.While = refl
tag-is res.With = refl
tag-is res.Withtype = refl
tag-is res.LeftParen = refl
tag-is res.RightParen = refl
tag-is res.LeftBracket = refl
tag-is res.RightBracket = refl
tag-is res.LeftBrace = refl
tag-is res.RightBrace = refl
tag-is res.Comma = refl
tag-is res.Semicolon = refl
tag-is res.Dots = refl
tag-is res.Underscore = refl
tag-is res.Colon = refl
tag-is res.ColonGreater = refl
tag-is res.Bar = refl
tag-is res.Equals = refl
tag-is res.DoubleArrow = refl
tag-is res.Arrow = refl
tag-is res.Hash = refl

pub same-is : (v w : Reserved) → sameb the_type v w ≡ nat_eq (word_number v) (word_number w)
same-is v w = rw (tag-is v, tag-is w) refl

pub after_here : (i : List Terminal) (v w : Reserved) → word_at i ≡ Some v → sameb the_type v w ≡ true → after_word w i ≡ Some (tail i)
after_here [] v w at h = absurd (cc)
after_here (t ∷ o) v w at h = let e = sym (same-is v w) ∙ h in rw (at, e) refl

pub after_elsewhere : (i : List Terminal) (v w : Reserved) → word_at i ≡ Some v → sameb the_type v w ≡ false → after_word w i ≡ None
after_elsewhere [] v w at h = refl
after_elsewhere (t ∷ o) v w at h = let e = sym (same-is v w) ∙ h in rw (at, e) refl
