-- Bindings of structures, one after the other.
use Rattle.std.proofs.Common.{◌≡◌, ℕ, ◌<◌, ◌≤◌, List, length, max, Option, Some, None, refl, sym, ap, ◌∙◌, subst, arith}
use Rattle.mlc_base.specs.declared.place.Place.{Place}
use Rattle.mlc_names.specs.declared.token.Token.{Token}
use Rattle.mlc_names.specs.declared.token.Reserved.TheVariants as res
use Rattle.sml_tree.specs.Terminal.{Terminal}
use Rattle.sml_tree.specs.BareTree as core
use Rattle.sml_tree.specs.Bare.{at}
use Rattle.sml_tree.specs.Fixity.{Fixity}
use Rattle.sml_tree.specs.ReadTree.{Placed}
use Rattle.sml_grammar.specs.Answer.{Read, Answer, ok, bad, deep, read, then_read, Turn}
use Rattle.sml_grammar.specs.Terminals.{Taken, taken, first_as, after_word, on_some, then_taken, word_then, separated, NoState, no_state, place_at}
use Rattle.module_tree.specs.BareModules as bare
use Rattle.module_tree.specs.ReadModules.{MaybeSig, no_sig, sealed, StrExp, str_place, StrBinds, last_str, str_and, StrBind, str_bind}
use Rattle.module_tree.specs.ModuleBare.{id_at, constrained_if, bare_str, bare_str_binds}
use Rattle.module_tree.specs.ModuleDepth.{depth_str_bind, depth_str_binds}
use Rattle.module_code.specs.TreeOf.{BindOf, id_at_of, str_of, bind_of, binds_of}
use Rattle.module_code.specs.declared.structures.StrExp as code_str
use Rattle.module_code.specs.declared.structures.StrBind as code
use Rattle.module_grammar.specs.Signatures.{as_module_id}
use Rattle.module_grammar.specs.Structures.{maybe_sig, StrReader, str_bind_turn, str_readers}
use Rattle.phrase_base.specs.declared.source.Source.{Source}
use Rattle.phrase_base.specs.Gives.{Gave}
use Rattle.phrase_base.specs.Left.{left}
use Rattle.phrase_base.proofs.Lists.{then-then, word-less}
use Rattle.phrase_base.proofs.Shorter.{first-shorter, word-shorter}
use Rattle.sig_phrases.proofs.Separated.{Separated}
use Rattle.str_phrases.specs.declared.seals.Sign.{Sign}
use Rattle.str_phrases.specs.StrsRead.{IsStr, IsSign, sign_of, bare_sign, put_sign, read_str_bind, bare_bind, IsBind, binds_list}

abbrev put_bind : StrBind → List Terminal → Answer (Turn StrBinds NoState)
put_bind b o = separated (after_word res.And o) (str_and b) (last_str b) no_state o

pub bind-turns : (n : ℕ) (self : StrReader) (f : Fixity) (i : List Terminal) → str_bind_turn n self f no_state i ≡ then_read (read_str_bind n self f i) put_bind
bind-turns n self f i = go (first_as as_module_id i)
  where
    body : (x : Placed ℕ) (g : MaybeSig) (v : Option (List Terminal)) →
        on_some v (λ k. then_read (self f k) (λ e o. put_bind (str_bind x g e) o)) bad ≡ then_read (on_some v (λ k. then_read (self f k) (λ e o. read (str_bind x g e) o)) bad) put_bind
    body x g (Some k) = then-then (self f k) (str_bind x g) put_bind
    body x g None = refl

    sign : (x : Placed ℕ) (a : Answer MaybeSig) →
        then_read a (λ g m. word_then res.Equals (λ k. then_read (self f k) (λ e o. put_bind (str_bind x g e) o)) m) ≡
        then_read (then_read a (λ g m. word_then res.Equals (λ k. then_read (self f k) (λ e o. read (str_bind x g e) o)) m)) put_bind
    sign x (ok r) = body x r.tree (after_word res.Equals r.rest)
    sign x bad = refl
    sign x deep = refl

    go : (v : Option (Taken (Placed ℕ))) →
        then_taken v (λ x j. then_read (maybe_sig n j) (λ g m. word_then res.Equals (λ k. then_read (self f k) (λ e o. put_bind (str_bind x g e) o)) m)) ≡
        then_read (then_taken v (λ x j. then_read (maybe_sig n j) (λ g m. word_then res.Equals (λ k. then_read (self f k) (λ e o. read (str_bind x g e) o)) m))) put_bind
    go (Some t) = sign t.it (maybe_sig n t.rest)
    go None = refl

abbrev pub binds-form : {D : Type 0} → (D → core.Dec) → ℕ → ℕ → Fixity → Separated (code.StrBind D) StrBind StrBinds BindOf
binds-form of file n f = record {
  step = str_bind_turn n (str_readers n).str f;
  one = read_str_bind n (str_readers n).str f;
  sep = after_word res.And;
  put = str_and;
  end_ = last_str;
  of = bind_of of;
  view = bare_bind file;
  views = binds_list file;
  dep = depth_str_bind;
  deps = depth_str_binds;
  less = word-less res.And;
  turn = bind-turns n (str_readers n).str f;
  shows = λ a b. refl;
  shows_end = λ a. refl;
  deeper = λ a b. refl;
  deeper_end = λ a. refl;
}

pub binds_all : (f : ℕ) (bs : StrBinds) → binds_of (binds_list f bs) ≡ bare_str_binds f bs
binds_all f (last_str (str_bind x g s)) = refl
binds_all f (str_and (str_bind x g s) bs) = ap (bare.str_bind (id_at f x) (constrained_if f (str_place s) g (bare_str f s))) (binds_all f bs)

-- a signature that is put on a structure
pub put-is : (f p : ℕ) (g : MaybeSig) (s : bare.StrExp) → put_sign (at f p) (bare_sign f g) s ≡ constrained_if f p g s
put-is f p no_sig s = refl
put-is f p (sealed k g) s = refl

-- one binding, from its parts
module _ {D : Type 0} (of : D → core.Dec) (s : Source) (n : ℕ) (f : Fixity) (i m : List Terminal) (x : ℕ) (og oc os : List Token) (h : first_as as_module_id i ≡ taken (record { place = place_at i; it = x }) m)
    (sg : Option Sign) (dg : ℕ) (gg : Read MaybeSig) (hg : maybe_sig n m ≡ ok gg) (ig : IsSign s n m sg dg og gg) (w3 : after_word res.Equals (left s og) ≡ Some (left s oc))
    (st : code_str.StrExp D) (ds : ℕ) (gs : Read StrExp) (hs : (str_readers n).str f (left s oc) ≡ ok gs) (is : IsStr of s n (left s oc) st ds os gs) where
  pub bind-done : (q b : Place) (t : code.StrBind D) (d : ℕ) → q ≡ at s.file (place_at i) → b ≡ at s.file (place_at (left s oc)) →
      bind_of of t ≡ record { id = id_at_of (record { place = q; id = x }); body = put_sign b (sign_of sg) (str_of of st) } → d ≡ max dg ds → Gave (λ (y : code.StrBind D) r. IsBind of s n i y d os r) t (read_str_bind n (str_readers n).str f i)
  bind-done q b t d at1 at2 made deeper =
      let l0 = first-shorter as_module_id i (record { place = place_at i; it = x }) m h in let l3 = word-shorter res.Equals (left s og) (left s oc) w3 in let l5 = ig.shorter in let l6 = is.shorter in
      let r2 = ap (λ (z : List Terminal). length z) ig.rest in
      let v3 : after_word res.Equals gg.rest ≡ Some (left s oc) = subst (λ (z : List Terminal). after_word res.Equals z ≡ Some (left s oc)) ig.rest w3 in
      let p2 = ig.same in let p3 = is.same in let p4 = is.place in
      let body : put_sign b (sign_of sg) (str_of of st) ≡ constrained_if s.file (str_place gs.tree) gg.tree (bare_str s.file gs.tree) = rw (p2, p3, at2, sym p4) (put-is s.file (str_place gs.tree) gg.tree (bare_str s.file gs.tree)) in
      let d2 = ig.depth in let d3 = is.depth in let f2 = ig.fits in let f3 = is.fits in
      record {
        got = record { tree = str_bind (record { place = place_at i; it = x }) gg.tree gs.tree; rest = gs.rest };
        is = rw (h, hg, v3, hs) refl;
        same = record { rest = is.rest; same = made ∙ rw (body, at1) refl; depth = omega arith; fits = omega arith; shorter = omega arith };
      }
