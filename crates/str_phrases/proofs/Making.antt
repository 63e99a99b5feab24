-- Structures and declarations, from what was read of their parts.
use Rattle.std.proofs.Common.{◌≡◌, ℕ, suc, ◌<◌, ◌≤◌, ◌+◌, Bool, true, false, List, [], ◌∷◌, length, map, max, Option, Some, None, Result, refl, sym, ap, ◌∙◌, subst, arith}
use Rattle.mlc_base.specs.declared.place.Place.{Place}
use Rattle.mlc_names.specs.declared.token.Token.{Token}
use Rattle.mlc_names.specs.declared.token.Reserved.{Reserved}
use Rattle.mlc_names.specs.declared.token.Reserved.TheVariants as res
use Rattle.sml_tree.specs.Bare.{at}
use Rattle.sml_tree.specs.BareTree as core
use Rattle.sml_tree.specs.Fixity.{Fixity}
use Rattle.sml_tree.specs.ReadTree.{Placed}
use Rattle.sml_tree.specs.Terminal.{Terminal}
use Rattle.sml_grammar.specs.Answer.{Read, ok, read}
use Rattle.sml_grammar.specs.Terminals.{Taken, taken, on_taken, on_some, first_as, after_word, place_at}
use Rattle.sml_grammar.proofs.Answers.{got_some}
use Rattle.module_tree.specs.BareModules as bare
use Rattle.module_tree.specs.ReadModules as tree
use Rattle.module_tree.specs.ReadModules.{StrDecs, StrBinds, structure_dec}
use Rattle.module_tree.specs.ModuleBare.{id_at, bare_str_decs, bare_str_binds}
use Rattle.module_tree.specs.Scope.{after_decs}
use Rattle.module_code.specs.TreeOf.{id_at_of, decs_of, binds_of, bind_of, str_of, str_dec_of}
use Rattle.module_code.specs.declared.signatures.IdAt.{IdAt}
use Rattle.module_code.specs.declared.structures.StrBind as code_bind
use Rattle.module_code.specs.declared.structures.StrDec as code_dec
use Rattle.module_code.specs.declared.structures.StrExp.{StrExp}
use Rattle.module_grammar.specs.Signatures.{as_module_id}
use Rattle.module_grammar.specs.Structures.{struct_start, let_start, str_start, begins_str, str_atom, argument, str_readers, str_dec_by, read_str_binds}
use Rattle.module_grammar.specs.Sources.{inner_decs}
use Rattle.phrase_base.specs.declared.got.Got.{Got}
use Rattle.phrase_base.specs.declared.source.Source.{Source}
use Rattle.phrase_base.specs.declared.stop.Stop.{Stop}
use Rattle.phrase_base.specs.Gives.{Gave, Gives}
use Rattle.phrase_base.specs.Left.{left}
use Rattle.phrase_base.proofs.Shorter.{first-shorter, word-shorter}
use Rattle.spec_phrases.proofs.Form.{gives-by}
use Rattle.str_phrases.specs.declared.decs.Decs.{Decs}
use Rattle.str_phrases.specs.declared.decs.Item.{Item}
use Rattle.str_phrases.specs.declared.decs.Item.TheVariants as item
use Rattle.str_phrases.specs.StrsRead.{decs_list, mixed_list, IsStr, IsStrDec, IsStrDecs, IsBinds, functor_found}
use Rattle.str_phrases.proofs.Binding.{binds_all}
use Rattle.str_phrases.proofs.Declaring.{decs_all}
use Rattle.str_phrases.proofs.Locals.{structure-at}
use Rattle.str_phrases.proofs.Opening.{functor-start}

-- a word that stands after what was read
module _ (w : Reserved) (s : Source) (i j : List Terminal) (o o2 : List Token) (same : left s o ≡ j) (h : after_word w (left s o) ≡ Some (left s o2)) where
  word-there : after_word w j ≡ Some (left s o2)
  word-there = subst (λ (z : List Terminal). after_word w z ≡ Some (left s o2)) same h

  word-less : length j ≤ length i → length (left s o2) < length i
  word-less le = let l = word-shorter w j (left s o2) word-there in omega arith

-- what the lists that were read stand for
list-is : {D : Type 0} (of : D → core.Dec) (s : Source) (n : ℕ) (f f1 : Fixity) (k : List Terminal) (x : Decs D) (d : ℕ) (o : List Token) (got : Read StrDecs) (xs : List (code_dec.StrDec D)) → IsStrDecs of f f1 s n k x d o got → map (str_dec_of of) xs ≡ decs_list of x →
    decs_of (map (str_dec_of of) xs) ≡ bare_str_decs s.file got.tree
list-is of s n f f1 k x d o got xs is list = ap decs_of (list ∙ is.same) ∙ decs_all s.file got.tree

module _ {D : Type 0} (of : D → core.Dec) (s : Source) (n : ℕ) (f f1 : Fixity) (i k : List Terminal) (lt : length k < length i) (x : Decs D) (d : ℕ) (o : List Token) (got : Read StrDecs) (by : (str_readers n).decs f k ≡ ok got) (is : IsStrDecs of f f1 s n k x d o got)
    (xs : List (code_dec.StrDec D)) (list : map (str_dec_of of) xs ≡ decs_list of x) where
  pub struct-done : (o2 : List Token) (p : Place) (t : StrExp D) (d2 : ℕ) → after_word res.End (left s o) ≡ Some (left s o2) → p ≡ at s.file (place_at i) → str_of of t ≡ bare.struct_end p (decs_of (map (str_dec_of of) xs)) → d2 ≡ d + 1 →
      Gave (λ (y : StrExp D) r. IsStr of s (n + 1) i y d2 o2 r) t (str_atom (str_readers n) f (struct_start (place_at i) k))
  struct-done o2 p t d2 h at1 made deeper =
      let q = word-there res.End s i got.rest o o2 is.rest h in let l1 = is.shorter in
      let l2 = word-less res.End s i got.rest o o2 is.rest h (omega arith) in
      let e1 = is.depth in let e2 = is.fits in
      let all = list-is of s n f f1 k x d o got xs is list in
      record {
        got = record { tree = tree.struct_end (place_at i) got.tree; rest = left s o2 };
        is = rw (by, q) refl;
        same = record { rest = refl; same = made ∙ rw (all, at1) refl; depth = omega arith; place = refl; fits = omega arith; shorter = l2 };
      }

  pub brackets-done : (o2 : List Token) (y : IdAt) (z : Placed ℕ) (t : StrExp D) (d2 : ℕ) → begins_str (str_start k) ≡ false → after_word res.RightParen (left s o) ≡ Some (left s o2) → id_at_of y ≡ id_at s.file z → z.place ≡ place_at i →
      str_of of t ≡ bare.applied (id_at_of y) (bare.struct_end y.place (decs_of (map (str_dec_of of) xs))) → d2 ≡ d + 1 → Gave (λ (v : StrExp D) r. IsStr of s (n + 1) i v d2 o2 r) t (argument (str_readers n) f z k)
  brackets-done o2 y z t d2 other h same at1 made deeper =
      let q = word-there res.RightParen s i got.rest o o2 is.rest h in let l1 = is.shorter in
      let l2 = word-less res.RightParen s i got.rest o o2 is.rest h (omega arith) in
      let e1 = is.depth in let e2 = is.fits in
      let all = list-is of s n f f1 k x d o got xs is list in
      let there : y.place ≡ at s.file z.place = ap (λ (v : bare.IdAt). v.place) same in
      record {
        got = record { tree = tree.applied_to_decs z got.tree; rest = left s o2 };
        is = rw (other, by, q) refl;
        same = record { rest = refl; same = made ∙ rw (all, same, there) refl; depth = omega arith; place = at1; fits = omega arith; shorter = l2 };
      }

  pub let-done : (m : List Terminal) (y : StrExp D) (e : ℕ) (o2 o3 : List Token) (body : Read tree.StrExp) (p : Place) (t : StrExp D) (d2 : ℕ) → after_word res.In (left s o) ≡ Some m → (str_readers n).str f1 m ≡ ok body → IsStr of s n m y e o2 body →
      after_word res.End (left s o2) ≡ Some (left s o3) → p ≡ at s.file (place_at i) → str_of of t ≡ bare.let_str p (decs_of (map (str_dec_of of) xs)) (str_of of y) → d2 ≡ max d e + 1 →
      Gave (λ (v : StrExp D) r. IsStr of s (n + 1) i v d2 o3 r) t (str_atom (str_readers n) f (let_start (place_at i) k))
  let-done m y e o2 o3 body p t d2 w1 by2 is2 w2 at1 made deeper =
      let q1 : after_word res.In got.rest ≡ Some m = subst (λ (z : List Terminal). after_word res.In z ≡ Some m) is.rest w1 in
      let l0 = word-shorter res.In got.rest m q1 in let l1 = is.shorter in let l2 = is2.shorter in
      let under : (str_readers n).str (after_decs f got.tree) m ≡ ok body = subst (λ (z : Fixity). (str_readers n).str z m ≡ ok body) is.force by2 in
      let q2 = word-there res.End s i body.rest o2 o3 is2.rest w2 in
      let l3 = word-less res.End s i body.rest o2 o3 is2.rest w2 (omega arith) in
      let e1 = is.depth in let e2 = is.fits in let e3 = is2.depth in let e4 = is2.fits in
      let all = list-is of s n f f1 k x d o got xs is list in let one = is2.same in
      record {
        got = record { tree = tree.let_str (place_at i) got.tree body.tree; rest = left s o3 };
        is = rw (by, q1, under, q2) refl;
        same = record { rest = refl; same = made ∙ rw (all, one, at1) refl; depth = omega arith; place = refl; fits = omega arith; shorter = l3 };
      }

pub applied-done : {D : Type 0} (of : D → core.Dec) (s : Source) (n : ℕ) (f : Fixity) (i k : List Terminal) → length k < length i → (x : StrExp D) (d : ℕ) (o o2 : List Token) (got : Read tree.StrExp) (y : IdAt) (z : Placed ℕ) (t : StrExp D) (d2 : ℕ) → begins_str (str_start k) ≡ true →
    (str_readers n).str f k ≡ ok got → IsStr of s n k x d o got → after_word res.RightParen (left s o) ≡ Some (left s o2) → id_at_of y ≡ id_at s.file z → z.place ≡ place_at i → str_of of t ≡ bare.applied (id_at_of y) (str_of of x) → d2 ≡ d + 1 →
    Gave (λ (v : StrExp D) r. IsStr of s (n + 1) i v d2 o2 r) t (argument (str_readers n) f z k)
applied-done of s n f i k lt x d o o2 got y z t d2 begins by is h same at1 made deeper =
    let l1 = is.shorter in
    let q = word-there res.RightParen s i got.rest o o2 is.rest h in
    let l2 = word-less res.RightParen s i got.rest o o2 is.rest h (omega arith) in
    let e1 = is.depth in let e2 = is.fits in let one = is.same in
    record {
      got = record { tree = tree.applied z got.tree; rest = left s o2 };
      is = rw (begins, by, q) refl;
      same = record { rest = refl; same = made ∙ rw (one, same) refl; depth = omega arith; place = at1; fits = omega arith; shorter = l2 };
    }

functor-shorter : (i : List Terminal) (x : Placed ℕ) (o : List Terminal) → functor_found i ≡ taken x o → length o < length i
functor-shorter i x o h = go (first_as as_module_id i) refl h
  where
    bracketed : (y : Placed ℕ) (m : List Terminal) (v : Option (List Terminal)) → length m < length i → after_word res.LeftParen m ≡ v → on_some v (λ k. taken y k) None ≡ taken x o → length o < length i
    bracketed y m (Some k) le e q =
        let l = word-shorter res.LeftParen m k e in
        let r : k ≡ o = ap (λ (t : Taken (Placed ℕ)). t.rest) (got_some q) in
        let same = ap (λ (z : List Terminal). length z) r in
        omega arith
    bracketed y m None le e q = absurd (cc)

    go : (v : Option (Taken (Placed ℕ))) → first_as as_module_id i ≡ v → on_taken v (λ y m. on_some (after_word res.LeftParen m) (λ k. taken y k) None) None ≡ taken x o → length o < length i
    go (Some t) e q = bracketed t.it t.rest (after_word res.LeftParen t.rest) (first-shorter as_module_id i t.it t.rest e) refl q
    go None e q = absurd (cc)

pub functor-atom : {D : Type 0} (of : D → core.Dec) (s : Source) (n : ℕ) (f : Fixity) (i o : List Terminal) (x : Placed ℕ) (r : Result (Got (StrExp D)) Stop) → functor_found i ≡ taken x o →
    (length o < length i → Gives (λ (v : Got (StrExp D)) g. IsStr of s (n + 1) i v.it v.depth v.rest.now g) r (argument (str_readers n) f x o)) → Gives (λ (v : Got (StrExp D)) g. IsStr of s (n + 1) i v.it v.depth v.rest.now g) r (str_atom (str_readers n) f (str_start i))
functor-atom of s n f i o x r h g =
    gives-by (λ (v : Got (StrExp _)) a. IsStr of s (n + 1) i v.it v.depth v.rest.now a) r (str_atom (str_readers n) f (str_start i)) (argument (str_readers n) f x o) (ap (str_atom (str_readers n) f) (functor-start i x o h)) (g (functor-shorter i x o h))

pub structures-done : {D : Type 0} (of : D → core.Dec) (s : Source) (n : ℕ) (f : Fixity) (i k : List Terminal) (xs : List (code_bind.StrBind D)) (d : ℕ) (o : List Token) (got : Read StrBinds) (p : Place) (t : code_dec.StrDec D) → after_word res.Structure i ≡ Some k →
    read_str_binds n (str_readers n).str f k ≡ ok got → IsBinds of s n k xs d o got → p ≡ at s.file (place_at i) → str_dec_of of t ≡ bare.structure_dec p (binds_of (map (bind_of of) xs)) →
    Gave (λ (y : Option (Item D)) r. IsStrDec of f f s n i y d o r) (Some (item.Other t)) (str_dec_by n (str_readers n).str (inner_decs n) f i)
structures-done of s n f i k xs d o got p t h by is at1 made =
    let l1 = word-shorter res.Structure i k h in let l2 = is.shorter in
    let all : binds_of (map (bind_of of) xs) ≡ bare_str_binds s.file got.tree = ap binds_of is.same ∙ binds_all s.file got.tree in
    record {
      got = record { tree = structure_dec (place_at i) got.tree; rest = got.rest };
      is = structure-at n (str_readers n).str (inner_decs n) f i k h ∙ rw by refl;
      same = record { rest = is.rest; same = ap (λ (z : bare.StrDec). z ∷ []) (made ∙ rw (all, at1) refl); core = refl; depth = is.depth; fits = is.fits; shorter = omega arith; force = refl };
    }

pub local-made : {D : Type 0} (of : D → core.Dec) (p : Place) (x y : Decs D) (xs ys : List (code_dec.StrDec D)) (t : code_dec.StrDec D) → map (str_dec_of of) xs ≡ decs_list of x → map (str_dec_of of) ys ≡ decs_list of y →
    str_dec_of of t ≡ bare.local_str p (decs_of (map (str_dec_of of) xs)) (decs_of (map (str_dec_of of) ys)) → str_dec_of of t ∷ [] ≡ mixed_list of p x y
local-made of p x y xs ys t a b made = ap (λ (z : bare.StrDec). z ∷ []) (made ∙ rw (a, b) refl)
