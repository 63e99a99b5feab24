-- Declarations in which there are no expressions, and a `local`: what the parts' answers are for the whole.
use Rattle.std.proofs.Common.{◌≡◌, ℕ, suc, ◌<◌, ◌≤◌, ◌+◌, ◌-◌, Bool, true, false, List, [], ◌∷◌, ◌++◌, length, map, max, take, Option, Some, None, Result, Ok, Err, refl, sym, ap, ◌∙◌, subst, arith}
use Rattle.std.proofs.lemmas.List.{length-append}
use Rattle.std.proofs.Math.Seq.{take-append_seam}
use Rattle.mlc_names.specs.declared.token.Token.{Token}
use Rattle.mlc_names.specs.declared.token.Reserved.{Reserved}
use Rattle.mlc_names.specs.declared.token.Reserved.TheVariants as res
use Rattle.sml_tree.specs.Terminal.{Terminal, reserved, number, constant, alpha, symbol, star, long_alpha, long_symbol, long_star, type_var}
use Rattle.sml_tree.specs.BareTree as bare
use Rattle.sml_tree.specs.Bare.{at, bare_pat, bare_exp, bare_decs, functions, plain_binds, all_binds, recursive_binds}
use Rattle.sml_tree.specs.Depth.{depth_funs}
use Rattle.sml_tree.specs.Derived as derived
use Rattle.sml_tree.specs.Derived.{fun_dec_of}
use Rattle.sml_tree.specs.Fixity.{Fixity}
use Rattle.sml_tree.specs.Levels.{added}
use Rattle.sml_tree.specs.ReadTree as read_tree
use Rattle.sml_tree.specs.ReadTree.{pat_place, Binds, last_bind, bind, rec_binds, Decs, no_decs, dec, val_dec, fun_dec, Funs, local_dec}
use Rattle.sml_tree.specs.TreeOf.{dec_of, decs_of, bind_of, binds_of}
use Rattle.sml_tree.specs.declared.tree.Dec.{Dec}
use Rattle.sml_tree.specs.declared.tree.Bind.{Bind}
use Rattle.sml_tree.specs.declared.ident.Tyvar.{Tyvar}
use Rattle.sml_grammar.specs.Answer.{Read, Answer, ok, bad, deep, read, then_read}
use Rattle.sml_grammar.specs.Terminals.{Taken, after_word, first_as, on_taken, place_at, tail, word_at, word_then}
use Rattle.sml_grammar.specs.Bindings.{read_tyvars, tyvars_place, precedence_then, as_digit}
use Rattle.sml_grammar.specs.Expressions.{Reader, DecsReader, readers, read_binds, read_funs, DecStart, infix_start, infixr_start, dec_start, dec_by, directive, infix_directive, local_rest}
use Rattle.phrase_base.specs.declared.source.Source.{Source}
use Rattle.phrase_base.specs.declared.stop.Stop.{Stop}
use Rattle.phrase_base.specs.declared.got.Got.{Got}
use Rattle.phrase_base.specs.Gives.{Fails, Gave, Gives}
use Rattle.phrase_base.specs.Left.{left}
use Rattle.sml_phrases.specs.BindingsRead.{IsTyvars}
use Rattle.sml_phrases.specs.ExpressionsRead.{IsDecs, IsList}
use Rattle.sml_phrases.specs.DeclarationsRead.{IsDec, IsBinds, simple_by, word_start, inner_decs, local_by, plain_list, bind_list, recursive_list}
use Rattle.sml_phrases.proofs.ExpLemmas.{decs_all}
use Rattle.phrase_base.proofs.Loop.{fails-then}

word-start : (w : Reserved) (p : ℕ) (o : List Terminal) → dec_start (reserved p w ∷ o) ≡ word_start (Some w) p o
word-start res.Abstype p o = refl
word-start res.And p o = refl
word-start res.Andalso p o = refl
word-start res.As p o = refl
word-start res.Case p o = refl
word-start res.Datatype p o = refl
word-start res.Do p o = refl
word-start res.Else p o = refl
word-start res.End p o = refl
word-start res.Eqtype p o = refl
word-start res.Exception p o = refl
word-start res.Fn p o = refl
word-start res.Fun p o = refl
word-start res.Functor p o = refl
word-start res.Handle p o = refl
word-start res.If p o = refl
word-start res.In p o = refl
word-start res.Include p o = refl
word-start res.Infix p o = refl
word-start res.Infixr p o = refl
word-start res.Let p o = refl
word-start res.Local p o = refl
word-start res.Nonfix p o = refl
word-start res.Of p o = refl
word-start res.Op p o = refl
word-start res.Open p o = refl
word-start res.Orelse p o = refl
word-start res.Raise p o = refl
word-start res.Rec p o = refl
word-start res.Sharing p o = refl
word-start res.Sig p o = refl
word-start res.Signature p o = refl
word-start res.Struct p o = refl
word-start res.Structure p o = refl
word-start res.Then p o = refl
word-start res.TypeWord p o = refl
word-start res.Val p o = refl
word-start res.Where p o = refl
word-start res.While p o = refl
word-start res.With p o = refl
word-start res.Withtype p o = refl
word-start res.LeftParen p o = refl
word-start res.RightParen p o = refl
word-start res.LeftBracket p o = refl
word-start res.RightBracket p o = refl
word-start res.LeftBrace p o = refl
word-start res.RightBrace p o = refl
word-start res.Comma p o = refl
word-start res.Semicolon p o = refl
word-start res.Dots p o = refl
word-start res.Underscore p o = refl
word-start res.Colon p o = refl
word-start res.ColonGreater p o = refl
word-start res.Bar p o = refl
word-start res.Equals p o = refl
word-start res.DoubleArrow p o = refl
word-start res.Arrow p o = refl
word-start res.Hash p o = refl

pub start-at : (i : List Terminal) → dec_start i ≡ word_start (word_at i) (place_at i) (tail i)
start-at [] = refl
start-at (reserved p w ∷ o) = word-start w p o
start-at (number p n b ∷ o) = refl
start-at (constant p c ∷ o) = refl
start-at (alpha p x ∷ o) = refl
start-at (symbol p x ∷ o) = refl
start-at (star p x ∷ o) = refl
start-at (long_alpha p q x ∷ o) = refl
start-at (long_symbol p q x ∷ o) = refl
start-at (long_star p q x ∷ o) = refl
start-at (type_var p a ∷ o) = refl

pub starts-with : (i : List Terminal) (w : Option Reserved) → word_at i ≡ w → dec_start i ≡ word_start w (place_at i) (tail i)
starts-with i w h = start-at i ∙ ap (λ (z : Option Reserved). word_start z (place_at i) (tail i)) h

pub tail-shorter : (i : List Terminal) (w : Reserved) → word_at i ≡ Some w → length (tail i) < length i
tail-shorter [] w h = absurd (cc)
tail-shorter (t ∷ o) w h = omega arith

pub tail-less : (i : List Terminal) → length (tail i) ≤ length i
tail-less [] = omega arith
tail-less (t ∷ o) = omega arith

-- a digit, or none
pub precedence-is : {A : Type 0} (g : ℕ → List Terminal → Answer A) (i : List Terminal) (d : ℕ) (o : List Terminal) → precedence_then read i ≡ read d o → precedence_then g i ≡ g d o
precedence-is {A} g i d o h = go (first_as as_digit i) h
  where
    go : (x : Option (Taken (read_tree.Placed ℕ))) → on_taken x (λ e k. read e.it k) (read 0 i) ≡ read d o → on_taken x (λ e k. g e.it k) (g 0 i) ≡ g d o
    go (Some x) e = let e1 = ap got-tree e in let e2 = ap got-rest e in ap (λ (z : ℕ). g z x.rest) e1 ∙ ap (g d) e2
      where
        got-tree : Answer ℕ → ℕ
        got-tree (ok r) = r.tree
        got-tree bad = 0
        got-tree deep = 0

        got-rest : Answer ℕ → List Terminal
        got-rest (ok r) = r.rest
        got-rest bad = []
        got-rest deep = []
    go None e = let e1 = ap got-tree e in let e2 = ap got-rest e in ap (λ (z : ℕ). g z i) e1 ∙ ap (g d) e2
      where
        got-tree : Answer ℕ → ℕ
        got-tree (ok r) = r.tree
        got-tree bad = 0
        got-tree deep = 0

        got-rest : Answer ℕ → List Terminal
        got-rest (ok r) = r.rest
        got-rest bad = []
        got-rest deep = []

-- the same, after more terminals and with another name for the depth
pub dec-wider : (f f' : Fixity) (s : Source) (n m : ℕ) (i j : List Terminal) (result : Result (Got (Option Dec)) Stop) (a : Answer read_tree.Dec) → n ≡ m → length i ≤ length j →
    Gives (λ (x : Got (Option Dec)) r. IsDec f f' s n i x.it x.depth x.rest.now r) result a → Gives (λ (x : Got (Option Dec)) r. IsDec f f' s m j x.it x.depth x.rest.now r) result a
dec-wider f f' s n m i j (Err e) a q le h = h
dec-wider f f' s n m i j (Ok x) a q le h =
    let g = h.same in let fits = g.fits in let sh = g.shorter in
    record { got = h.got; is = h.is; same = record { rest = g.rest; same = g.same; deep = g.deep; fits = omega arith; shorter = omega arith; force = g.force } }

pub dec-by : (f f' : Fixity) (s : Source) (n : ℕ) (j : List Terminal) (result : Result (Got (Option Dec)) Stop) (a b : Answer read_tree.Dec) → a ≡ b →
    Gives (λ (x : Got (Option Dec)) r. IsDec f f' s n j x.it x.depth x.rest.now r) result b → Gives (λ (x : Got (Option Dec)) r. IsDec f f' s n j x.it x.depth x.rest.now r) result a
dec-by f f' s n j result a b q h = subst (λ (z : Answer read_tree.Dec). Gives (λ (x : Got (Option Dec)) r. IsDec f f' s n j x.it x.depth x.rest.now r) result z) (sym q) h

abbrev pub infix_word : Bool → ℕ → List Terminal → DecStart
infix_word false p o = infix_start p o
infix_word true p o = infixr_start p o

infix-simple : (n : ℕ) (f : Fixity) (i k : List Terminal) (w : Reserved) (right : Bool) → word_at i ≡ Some w → word_start (Some w) (place_at i) (tail i) ≡ infix_word right (place_at i) (tail i) → k ≡ tail i →
    simple_by n f (dec_start i) ≡ precedence_then (infix_directive (place_at i) right) k
infix-simple n f i k w right h start e = ap (simple_by n f) (starts-with i (Some w) h ∙ start) ∙ by right ∙ ap (precedence_then (infix_directive (place_at i) right)) (sym e)
  where
    by : (r : Bool) → simple_by n f (infix_word r (place_at i) (tail i)) ≡ precedence_then (infix_directive (place_at i) r) (tail i)
    by false = refl
    by true = refl

pub infix-at : (f f' : Fixity) (s : Source) (n : ℕ) (i k : List Terminal) (w : Reserved) (right : Bool) (result : Result (Got (Option Dec)) Stop) → word_at i ≡ Some w → word_start (Some w) (place_at i) (tail i) ≡ infix_word right (place_at i) (tail i) → k ≡ tail i →
    ((m p : ℕ) → Gives (λ (x : Got (Option Dec)) r. IsDec f f' s m k x.it x.depth x.rest.now r) result (precedence_then (infix_directive p right) k)) → Gives (λ (x : Got (Option Dec)) r. IsDec f f' s n i x.it x.depth x.rest.now r) result (simple_by n f (dec_start i))
infix-at f f' s n i k w right result h start e g =
    let lt = tail-shorter i w h in let le = ap (λ (z : List Terminal). length z) e in
    dec-by f f' s n i result (simple_by n f (dec_start i)) (precedence_then (infix_directive (place_at i) right) k) (infix-simple n f i k w right h start e) (dec-wider f f' s n n k i result (precedence_then (infix_directive (place_at i) right) k) refl (omega arith) (g n (place_at i)))

pub nonfix-at : (f f' : Fixity) (s : Source) (n : ℕ) (i k : List Terminal) (result : Result (Got (Option Dec)) Stop) → word_at i ≡ Some res.Nonfix → k ≡ tail i →
    ((m p : ℕ) → Gives (λ (x : Got (Option Dec)) r. IsDec f f' s m k x.it x.depth x.rest.now r) result (directive p None k)) → Gives (λ (x : Got (Option Dec)) r. IsDec f f' s n i x.it x.depth x.rest.now r) result (simple_by n f (dec_start i))
nonfix-at f f' s n i k result h e g =
    let lt = tail-shorter i res.Nonfix h in let le = ap (λ (z : List Terminal). length z) e in
    let start = starts-with i (Some res.Nonfix) h in
    let q : simple_by n f (dec_start i) ≡ directive (place_at i) None k = ap (simple_by n f) start ∙ ap (directive (place_at i) None) (sym e) in
    dec-by f f' s n i result (simple_by n f (dec_start i)) (directive (place_at i) None k) q (dec-wider f f' s n n k i result (directive (place_at i) None k) refl (omega arith) (g n (place_at i)))

-- the words that begin declarations with expressions
abbrev pub IsOther : Option Reserved → Type 0
IsOther (Some res.Val) = ⊥
IsOther (Some res.Fun) = ⊥
IsOther (Some res.Local) = ⊥
IsOther _ = Unit {0}

other-word : (n : ℕ) (self : Reader) (inner : DecsReader) (f : Fixity) (w : Reserved) (p : ℕ) (o : List Terminal) → IsOther (Some w) → dec_by n self inner f (word_start (Some w) p o) ≡ simple_by n f (word_start (Some w) p o)
other-word n self inner f res.Abstype p o h = refl
other-word n self inner f res.And p o h = refl
other-word n self inner f res.Andalso p o h = refl
other-word n self inner f res.As p o h = refl
other-word n self inner f res.Case p o h = refl
other-word n self inner f res.Datatype p o h = refl
other-word n self inner f res.Do p o h = refl
other-word n self inner f res.Else p o h = refl
other-word n self inner f res.End p o h = refl
other-word n self inner f res.Eqtype p o h = refl
other-word n self inner f res.Exception p o h = refl
other-word n self inner f res.Fn p o h = refl
other-word n self inner f res.Fun p o h = absurd h
other-word n self inner f res.Functor p o h = refl
other-word n self inner f res.Handle p o h = refl
other-word n self inner f res.If p o h = refl
other-word n self inner f res.In p o h = refl
other-word n self inner f res.Include p o h = refl
other-word n self inner f res.Infix p o h = refl
other-word n self inner f res.Infixr p o h = refl
other-word n self inner f res.Let p o h = refl
other-word n self inner f res.Local p o h = absurd h
other-word n self inner f res.Nonfix p o h = refl
other-word n self inner f res.Of p o h = refl
other-word n self inner f res.Op p o h = refl
other-word n self inner f res.Open p o h = refl
other-word n self inner f res.Orelse p o h = refl
other-word n self inner f res.Raise p o h = refl
other-word n self inner f res.Rec p o h = refl
other-word n self inner f res.Sharing p o h = refl
other-word n self inner f res.Sig p o h = refl
other-word n self inner f res.Signature p o h = refl
other-word n self inner f res.Struct p o h = refl
other-word n self inner f res.Structure p o h = refl
other-word n self inner f res.Then p o h = refl
other-word n self inner f res.TypeWord p o h = refl
other-word n self inner f res.Val p o h = absurd h
other-word n self inner f res.Where p o h = refl
other-word n self inner f res.While p o h = refl
other-word n self inner f res.With p o h = refl
other-word n self inner f res.Withtype p o h = refl
other-word n self inner f res.LeftParen p o h = refl
other-word n self inner f res.RightParen p o h = refl
other-word n self inner f res.LeftBracket p o h = refl
other-word n self inner f res.RightBracket p o h = refl
other-word n self inner f res.LeftBrace p o h = refl
other-word n self inner f res.RightBrace p o h = refl
other-word n self inner f res.Comma p o h = refl
other-word n self inner f res.Semicolon p o h = refl
other-word n self inner f res.Dots p o h = refl
other-word n self inner f res.Underscore p o h = refl
other-word n self inner f res.Colon p o h = refl
other-word n self inner f res.ColonGreater p o h = refl
other-word n self inner f res.Bar p o h = refl
other-word n self inner f res.Equals p o h = refl
other-word n self inner f res.DoubleArrow p o h = refl
other-word n self inner f res.Arrow p o h = refl
other-word n self inner f res.Hash p o h = refl

other-by : (n : ℕ) (self : Reader) (inner : DecsReader) (f : Fixity) (w : Option Reserved) (p : ℕ) (o : List Terminal) → IsOther w → dec_by n self inner f (word_start w p o) ≡ simple_by n f (word_start w p o)
other-by n self inner f None p o h = refl
other-by n self inner f (Some w) p o h = other-word n self inner f w p o h

pub simple-is : (n : ℕ) (self : Reader) (inner : DecsReader) (f : Fixity) (i : List Terminal) → IsOther (word_at i) → dec_by n self inner f (dec_start i) ≡ simple_by n f (dec_start i)
simple-is n self inner f i h = rw (start-at i) (other-by n self inner f (word_at i) (place_at i) (tail i) h)

pub local-at : (n m : ℕ) (self : Reader) (f : Fixity) (i : List Terminal) → n ≡ suc m → word_at i ≡ Some res.Local → dec_by n self (inner_decs n) f (dec_start i) ≡ local_by m f (place_at i) (tail i)
local-at n m self f i q w = let start = starts-with i (Some res.Local) w in rw (start, q) refl

binds-all : (file : ℕ) (b : Binds) → binds_of (bind_list file b) ≡ all_binds file b
binds-all file (last_bind a e) = refl
binds-all file (bind a e b) = ap (bare.bind (at file (pat_place a)) (bare_pat file a) (bare_exp file e)) (binds-all file b)
binds-all file (rec_binds b) = binds-all file b

binds-plain : (file : ℕ) (b : Binds) → binds_of (plain_list file b) ≡ plain_binds file b
binds-plain file (last_bind a e) = refl
binds-plain file (bind a e b) = ap (bare.bind (at file (pat_place a)) (bare_pat file a) (bare_exp file e)) (binds-plain file b)
binds-plain file (rec_binds b) = refl

binds-recursive : (file : ℕ) (b : Binds) → binds_of (recursive_list file b) ≡ recursive_binds file b
binds-recursive file (last_bind a e) = refl
binds-recursive file (bind a e b) = binds-recursive file b
binds-recursive file (rec_binds b) = binds-all file b

pub val-done : (s : Source) (n : ℕ) (self : Reader) (inner : DecsReader) (f : Fixity) (i : List Terminal) (as_ : List Tyvar) (d : ℕ) (o : List Token) (a : Read (List Tyvar)) (ps rs : List Bind) (e : ℕ) (o2 : List Token) (b : Read Binds) (t : Dec) →
    word_at i ≡ Some res.Val → read_tyvars (tail i) ≡ ok a → IsTyvars s (tail i) as_ d o a → read_binds n self f (left s o) ≡ ok b → IsBinds s n (left s o) ps rs e o2 b →
    dec_of t ≡ bare.val_dec (at s.file (place_at i)) (at s.file (tyvars_place (place_at i) (tail i) as_)) as_ (binds_of (map bind_of ps)) (binds_of (map bind_of rs)) → Gave (λ (_ : Unit {0}) r. IsDec f f s n i (Some t) e o2 r) tt (dec_by n self inner f (dec_start i))
val-done s n self inner f i as_ d o a ps rs e o2 b t w by1 is1 by2 is2 is_dec =
    let start = starts-with i (Some res.Val) w in
    let by3 : read_binds n self f a.rest ≡ ok b = subst (λ (z : List Terminal). read_binds n self f z ≡ ok b) is1.rest by2 in
    let p1 : binds_of (map bind_of ps) ≡ plain_binds s.file b.tree = ap binds_of is2.plain ∙ binds-plain s.file b.tree in
    let p2 : binds_of (map bind_of rs) ≡ recursive_binds s.file b.tree = ap binds_of is2.recursive ∙ binds-recursive s.file b.tree in
    let p3 = is1.same in
    let l1 = is1.shorter in let l2 = is2.shorter in let l3 = ap (λ (z : List Terminal). length z) is1.rest in let l4 = tail-shorter i res.Val w in
    record {
      got = record { tree = val_dec (place_at i) (tyvars_place (place_at i) (tail i) a.tree) a.tree b.tree; rest = b.rest };
      is = rw (start, by1, by3) refl;
      same = record { rest = is2.rest; same = ap (λ (z : bare.Dec). z ∷ []) (is_dec ∙ rw (p1, p2, p3) refl); deep = is2.deep; fits = is2.fits; shorter = omega arith; force = refl };
    }

pub fun-done : (s : Source) (n : ℕ) (self : Reader) (inner : DecsReader) (f : Fixity) (i : List Terminal) (as_ : List Tyvar) (d : ℕ) (o : List Token) (a : Read (List Tyvar)) (gs : List derived.Function) (e : ℕ) (o2 : List Token) (b : Read Funs) (t : Dec) →
    word_at i ≡ Some res.Fun → read_tyvars (tail i) ≡ ok a → IsTyvars s (tail i) as_ d o a → read_funs n self f (left s o) ≡ ok b → IsList (functions s.file) depth_funs s n (left s o) gs e o2 b →
    dec_of t ≡ fun_dec_of (at s.file (place_at i)) (at s.file (tyvars_place (place_at i) (tail i) as_)) as_ gs → Gave (λ (_ : Unit {0}) r. IsDec f f s n i (Some t) e o2 r) tt (dec_by n self inner f (dec_start i))
fun-done s n self inner f i as_ d o a gs e o2 b t w by1 is1 by2 is2 is_dec =
    let start = starts-with i (Some res.Fun) w in
    let by3 : read_funs n self f a.rest ≡ ok b = subst (λ (z : List Terminal). read_funs n self f z ≡ ok b) is1.rest by2 in
    let p3 = is1.same in let p4 = is2.same in
    let l1 = is1.shorter in let l2 = is2.shorter in let l3 = ap (λ (z : List Terminal). length z) is1.rest in let l4 = tail-shorter i res.Fun w in
    record {
      got = record { tree = fun_dec (place_at i) (tyvars_place (place_at i) (tail i) a.tree) a.tree b.tree; rest = b.rest };
      is = rw (start, by1, by3) refl;
      same = record { rest = is2.rest; same = ap (λ (z : bare.Dec). z ∷ []) (is_dec ∙ rw (p3, p4) refl); deep = is2.deep; fits = is2.fits; shorter = omega arith; force = refl };
    }

-- The parts of a `local`.

newest-are : (xs ys : Fixity) → take (length (xs ++ ys) - length ys) (xs ++ ys) ≡ xs
newest-are xs ys = ap (λ (k : ℕ). take k (xs ++ ys)) (fewer (length-append xs ys)) ∙ take-append_seam xs ys
  where
    fewer : length (xs ++ ys) ≡ length xs + length ys → length (xs ++ ys) - length ys ≡ length xs
    fewer e = omega arith

module _ (s : Source) (n : ℕ) (f f1 : Fixity) (p : ℕ) (i : List Terminal) (ds : List Dec) (d : ℕ) (o : List Token) (first : Read Decs) (by : (readers n).decs f i ≡ ok first) (is : IsDecs f f1 s n i ds d o first) where
  rest-is : local_by n f p i ≡ local_rest (readers n).decs f p first.tree (left s o)
  rest-is = (rw by refl) ∙ ap (local_rest (readers n).decs f p first.tree) (sym is.rest)

  module _ (k : List Terminal) (is_in : after_word res.In (left s o) ≡ Some k) where
    inside-is : local_by n f p i ≡ then_read ((readers n).decs f1 k) (λ es m. word_then res.End (λ q. read (local_dec p first.tree es) q) m)
    inside-is = rest-is ∙ (rw is_in refl) ∙ ap (λ (z : Fixity). then_read ((readers n).decs z k) (λ es m. word_then res.End (λ q. read (local_dec p first.tree es) q) m)) (sym is.force)

    pub local-second : (x : Stop) → Fails x ((readers n).decs f1 k) → Fails x (local_by n f p i)
    local-second x h = subst (λ (z : Answer read_tree.Dec). Fails x z) (sym inside-is) (fails-then x ((readers n).decs f1 k) (λ es m. word_then res.End (λ q. read (local_dec p first.tree es) q) m) h)

    module _ (f2 : Fixity) (es : List Dec) (e : ℕ) (o2 : List Token) (second : Read Decs) (by2 : (readers n).decs f1 k ≡ ok second) (is2 : IsDecs f1 f2 s n k es e o2 second) where
      end-is : local_by n f p i ≡ word_then res.End (λ q. read (local_dec p first.tree second.tree) q) (left s o2)
      end-is = inside-is ∙ (rw by2 refl) ∙ ap (word_then res.End (λ q. read (local_dec p first.tree second.tree) q)) (sym is2.rest)

      pub local-no_end : after_word res.End (left s o2) ≡ None → local_by n f p i ≡ bad
      local-no_end h = end-is ∙ rw h refl

      pub local-done : (o3 : List Token) (t : Dec) (d' : ℕ) (f' : Fixity) → after_word res.End (left s o2) ≡ Some (left s o3) → length (left s o3) < length i →
          dec_of t ≡ bare.local_dec (at s.file p) (decs_of (map dec_of ds)) (decs_of (map dec_of es)) → d' ≡ suc (max d e) → f' ≡ take (length f2 - length f1) f2 ++ f →
          Gave (λ (_ : Unit {0}) r. IsDec f f' s (suc n) i (Some t) d' o3 r) tt (local_by n f p i)
      local-done o3 t d' f' h lt is_dec deeper force =
          let b1 : decs_of (map dec_of ds) ≡ bare_decs s.file first.tree = ap decs_of is.same ∙ decs_all s.file first.tree in
          let b2 : decs_of (map dec_of es) ≡ bare_decs s.file second.tree = ap decs_of is2.same ∙ decs_all s.file second.tree in
          let e1 = is.deep in let e2 = is2.deep in let l1 = is.fits in let l2 = is2.fits in
          record {
            got = record { tree = local_dec p first.tree second.tree; rest = left s o3 };
            is = end-is ∙ rw h refl;
            same = record {
              rest = refl;
              same = ap (λ (z : bare.Dec). z ∷ []) (is_dec ∙ rw (b1, b2) refl);
              deep = omega (arith, deeper);
              fits = omega arith;
              shorter = lt;
              force = force ∙ ap (λ (z : Fixity). z ++ f) (ap (λ (z : Fixity). take (length z - length f1) z) is2.force ∙ newest-are (added second.tree) f1);
            };
          }
