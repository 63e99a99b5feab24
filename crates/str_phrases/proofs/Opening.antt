-- What structures begin with, and how deep they may be.
use Rattle.std.proofs.Common.{◌≡◌, ℕ, zero, suc, ◌<◌, ◌≤◌, ◌+◌, ◌-◌, List, [], ◌∷◌, length, Option, Some, None, Result, Ok, Err, refl, sym, ap, ◌∙◌, subst, arith}
use Rattle.mlc_base.specs.declared.place.Place.{Place}
use Rattle.mlc_names.specs.declared.token.Token.{Token}
use Rattle.mlc_names.specs.declared.token.Reserved.TheVariants as res
use Rattle.sml_tree.specs.Bare.{at}
use Rattle.sml_tree.specs.BareTree as core
use Rattle.sml_tree.specs.Fixity.{Fixity}
use Rattle.sml_tree.specs.ReadTree.{Placed}
use Rattle.sml_tree.specs.Terminal.{Terminal, LongId, reserved, number, constant, alpha, symbol, star, long_alpha, long_symbol, long_star, type_var}
use Rattle.sml_grammar.specs.Answer.{Read, Answer, ok, bad, deep, deep_if, read, then_read, whole}
use Rattle.sml_grammar.specs.Terminals.{Taken, taken, after_word, first_as, as_long_strid, on_some, place_at}
use Rattle.sml_grammar.proofs.Answers.{at-path, got_some}
use Rattle.sml_grammar.proofs.Words.{word-at}
use Rattle.module_tree.specs.BareModules as bare
use Rattle.module_tree.specs.ReadModules as tree
use Rattle.module_code.specs.TreeOf.{str_of}
use Rattle.module_code.specs.declared.structures.StrExp.{StrExp}
use Rattle.module_grammar.specs.Structures.{StrReaders, StrStart, struct_start, let_start, functor_start, str_id_start, no_str_start, str_id_if, str_start, begins_str, str_atom, seal_suffix, str_from, str_decs_from, str_readers}
use Rattle.phrase_base.specs.declared.source.Source.{Source}
use Rattle.phrase_base.specs.declared.stop.Stop.{Stop}
use Rattle.phrase_base.specs.declared.got.Got.{Got}
use Rattle.phrase_base.specs.Gives.{Fails, Gave, Gives}
use Rattle.module_grammar.specs.Sources.{inner_decs}
use Rattle.phrase_base.specs.Left.{left}
use Rattle.phrase_base.proofs.Loop.{fails-then, fails-by}
use Rattle.phrase_base.proofs.Shorter.{first-shorter}
use Rattle.spec_phrases.proofs.Form.{gives-by}
use Rattle.str_phrases.specs.StrsRead.{IsStr, functor_found}

pub struct-start : (i o : List Terminal) → after_word res.Struct i ≡ Some o → str_start i ≡ struct_start (place_at i) o
struct-start i o h = let q = at-path (word-at res.Struct i o h) in rw q.1 refl

pub let-start : (i o : List Terminal) → after_word res.Let i ≡ Some o → str_start i ≡ let_start (place_at i) o
let-start i o h = let q = at-path (word-at res.Let i o h) in rw q.1 refl

pub functor-start : (i : List Terminal) (x : Placed ℕ) (o : List Terminal) → functor_found i ≡ taken x o → str_start i ≡ functor_start x o
functor-start [] x o h = absurd (cc)
functor-start (alpha p y ∷ m) x o h = go (after_word res.LeftParen m) refl h
  where
    go : (v : Option (List Terminal)) → after_word res.LeftParen m ≡ v → on_some v (λ k. taken (record { place = p; it = y }) k) None ≡ taken x o → str_start (alpha p y ∷ m) ≡ functor_start x o
    go None e k = absurd (cc)
    go (Some z) e k = let q = at-path (word-at res.LeftParen m z e) in rw q.1 (ap (λ (t : Taken (Placed ℕ)). functor_start t.it t.rest) (got_some k))
functor-start (reserved p w ∷ m) x o h = absurd (cc)
functor-start (number p n b ∷ m) x o h = absurd (cc)
functor-start (constant p c ∷ m) x o h = absurd (cc)
functor-start (symbol p y ∷ m) x o h = absurd (cc)
functor-start (star p y ∷ m) x o h = absurd (cc)
functor-start (long_alpha p q y ∷ m) x o h = absurd (cc)
functor-start (long_symbol p q y ∷ m) x o h = absurd (cc)
functor-start (long_star p q y ∷ m) x o h = absurd (cc)
functor-start (type_var p a ∷ m) x o h = absurd (cc)

pub id-start : (i : List Terminal) → after_word res.Struct i ≡ None → after_word res.Let i ≡ None → functor_found i ≡ None → str_start i ≡ str_id_if (first_as as_long_strid i)
id-start [] a b c = refl
id-start (reserved p res.Struct ∷ m) a b c = absurd (cc)
id-start (reserved p res.Let ∷ m) a b c = absurd (cc)
id-start (reserved p _ ∷ m) a b c = refl
id-start (alpha p y ∷ []) a b c = refl
id-start (alpha p y ∷ reserved q res.LeftParen ∷ m) a b c = absurd (cc)
id-start (alpha p y ∷ reserved q _ ∷ m) a b c = refl
id-start (alpha p y ∷ number q n d ∷ m) a b c = refl
id-start (alpha p y ∷ constant q d ∷ m) a b c = refl
id-start (alpha p y ∷ alpha q z ∷ m) a b c = refl
id-start (alpha p y ∷ symbol q z ∷ m) a b c = refl
id-start (alpha p y ∷ star q z ∷ m) a b c = refl
id-start (alpha p y ∷ long_alpha q r z ∷ m) a b c = refl
id-start (alpha p y ∷ long_symbol q r z ∷ m) a b c = refl
id-start (alpha p y ∷ long_star q r z ∷ m) a b c = refl
id-start (alpha p y ∷ type_var q z ∷ m) a b c = refl
id-start (number p n d ∷ m) a b c = refl
id-start (constant p d ∷ m) a b c = refl
id-start (symbol p y ∷ m) a b c = refl
id-start (star p y ∷ m) a b c = refl
id-start (long_alpha p q y ∷ m) a b c = refl
id-start (long_symbol p q y ∷ m) a b c = refl
id-start (long_star p q y ∷ m) a b c = refl
id-start (type_var p y ∷ m) a b c = refl

-- an identifier is read under any fixities and by any readers
id-atom : (self self2 : StrReaders) (f f2 : Fixity) (v : Option (Taken (Placed LongId))) → str_atom self f (str_id_if v) ≡ str_atom self2 f2 (str_id_if v)
id-atom self self2 f f2 (Some x) = refl
id-atom self self2 f f2 None = refl

pub named-done : {D : Type 0} (of : D → core.Dec) (s : Source) (i : List Terminal) (self : StrReaders) (x : LongId) (place : Place) (t : StrExp D) (o : List Token) → first_as as_long_strid i ≡ taken (record { place = place_at i; it = x }) (left s o) → place ≡ at s.file (place_at i) →
    str_of of t ≡ bare.str_id (record { place = place; long = x }) → Gave (λ (y : StrExp D) r. IsStr of s 1 i y 1 o r) t (str_atom self [] (str_id_if (first_as as_long_strid i)))
named-done of s i self x place t o h at1 made =
    let l = first-shorter as_long_strid i (record { place = place_at i; it = x }) (left s o) h in
    record {
      got = record { tree = tree.str_id (record { place = place_at i; it = x }); rest = left s o };
      is = rw h refl;
      same = record { rest = refl; same = made ∙ rw at1 refl; depth = refl; place = refl; fits = omega arith; shorter = l };
    }

pub str-named : {D : Type 0} (of : D → core.Dec) (s : Source) (n : ℕ) (i : List Terminal) (r : Result (Got (StrExp D)) Stop) (self : StrReaders) (f : Fixity) →
    after_word res.Struct i ≡ None → after_word res.Let i ≡ None → functor_found i ≡ None →
    Gives (λ (x : Got (StrExp D)) g. IsStr of s 1 i x.it x.depth x.rest.now g) r (str_atom self [] (str_id_if (first_as as_long_strid i))) →
    Gives (λ (x : Got (StrExp D)) g. IsStr of s (n + 1) i x.it x.depth x.rest.now g) r (str_atom self f (str_start i))
str-named of s n i (Ok x) self f a b c g =
    let h = g.same in let k = h.fits in
    record {
      got = g.got;
      is = ap (str_atom self f) (id-start i a b c) ∙ id-atom self self f [] (first_as as_long_strid i) ∙ g.is;
      same = record { rest = h.rest; same = h.same; depth = h.depth; place = h.place; fits = omega arith; shorter = h.shorter };
    }
str-named of s n i (Err x) self f a b c g =
    fails-by x (str_atom self f (str_start i)) (str_atom self [] (str_id_if (first_as as_long_strid i))) (ap (str_atom self f) (id-start i a b c) ∙ id-atom self self f [] (first_as as_long_strid i)) g

pub str-none : (n : ℕ) (f : Fixity) (i : List Terminal) → n ≡ 0 → (str_readers n).str f i ≡ deep_if (begins_str (str_start i))
unfolding str_readers
str-none zero f i e = refl
str-none (suc n) f i e = absurd (omega arith)

pub str-one : (n : ℕ) (f : Fixity) (i : List Terminal) → 0 < n → (str_readers n).str f i ≡ str_from (str_readers (n - 1)) (n - 1) f i
unfolding str_readers
str-one zero f i h = absurd (omega arith)
str-one (suc n) f i h = let e : suc n - 1 ≡ n = omega arith in rw e refl

pub decs-are : (n : ℕ) (f : Fixity) (i : List Terminal) → (str_readers n).decs f i ≡ str_decs_from n (str_readers n).str (inner_decs n) f i
unfolding str_readers
decs-are zero f i = refl
decs-are (suc n) f i = refl

module _ {D : Type 0} (of : D → core.Dec) (s : Source) (n : ℕ) (f : Fixity) (i : List Terminal) (pos : 0 < n) where
  pub atom-fails : (e : Stop) → Fails e (str_atom (str_readers (n - 1)) f (str_start i)) → Fails e ((str_readers n).str f i)
  atom-fails e h = fails-by e ((str_readers n).str f i) _ (str-one n f i pos) (fails-then e (str_atom (str_readers (n - 1)) f (str_start i)) _ h)

  pub suffixed : (a : Read tree.StrExp) (r : Result (Got (StrExp D)) Stop) → str_atom (str_readers (n - 1)) f (str_start i) ≡ ok a →
      Gives (λ (x : Got (StrExp D)) g. IsStr of s (n - 1 + 1) i x.it x.depth x.rest.now g) r (whole (seal_suffix (n - 1)) a.tree a.rest) → Gives (λ (x : Got (StrExp D)) g. IsStr of s n i x.it x.depth x.rest.now g) r ((str_readers n).str f i)
  suffixed a r is h =
      let m : n - 1 + 1 ≡ n = omega arith in
      let q : (str_readers n).str f i ≡ whole (seal_suffix (n - 1)) a.tree a.rest = str-one n f i pos ∙ rw is refl in
      gives-by (λ (x : Got (StrExp D)) g. IsStr of s n i x.it x.depth x.rest.now g) r ((str_readers n).str f i) (whole (seal_suffix (n - 1)) a.tree a.rest) q
      (subst (λ (k : ℕ). Gives (λ (x : Got (StrExp D)) g. IsStr of s k i x.it x.depth x.rest.now g) r (whole (seal_suffix (n - 1)) a.tree a.rest)) m h)
