-- Bindings of signatures and functors, one after the other.
use Rattle.std.proofs.Common.{◌≡◌, ℕ, ◌<◌, ◌≤◌, List, [], ◌∷◌, length, map, max, Option, Some, None, refl, sym, ap, ◌∙◌, subst, arith}
use Rattle.mlc_base.specs.declared.place.Place.{Place}
use Rattle.mlc_names.specs.declared.token.Token.{Token}
use Rattle.mlc_names.specs.declared.token.Reserved.TheVariants as res
use Rattle.sml_tree.specs.Terminal.{Terminal, reserved, number, constant, alpha, symbol, star, long_alpha, long_symbol, long_star, type_var}
use Rattle.sml_tree.specs.BareTree as core
use Rattle.sml_tree.specs.Bare.{at}
use Rattle.sml_tree.specs.Fixity.{Fixity}
use Rattle.sml_tree.specs.ReadTree.{Placed}
use Rattle.sml_grammar.specs.Answer.{Read, Answer, ok, bad, deep, read, then_read, Turn}
use Rattle.sml_grammar.specs.Terminals.{Taken, taken, first_as, after_word, on_some, then_taken, word_then, separated, NoState, no_state, place_at}
use Rattle.module_tree.specs.BareModules as bare
use Rattle.module_tree.specs.ReadModules.{SigExp, Specs, MaybeSig, StrExp, Parameter, spec_parameter, FunBind, SigBind, str_place}
use Rattle.module_tree.specs.ModuleBare.{constrained_if, bare_specs, bare_str, bare_fun_bind, bare_sig_bind}
use Rattle.module_tree.specs.ModuleDepth.{depth_sig_binds, depth_fun_binds}
use Rattle.module_code.specs.TreeOf.{id_at_of, sig_of, spec_of, specs_of, sig_bind_of, fun_bind_of, parameter_of, str_of}
use Rattle.module_code.specs.declared.signatures.IdAt.{IdAt}
use Rattle.module_code.specs.declared.signatures.SigExp as code_sig
use Rattle.module_code.specs.declared.signatures.Spec as code_spec
use Rattle.module_code.specs.declared.sources.SigBind as code_sig_bind
use Rattle.module_code.specs.declared.sources.FunBind as code_fun_bind
use Rattle.module_code.specs.declared.sources.Parameter as code_parameter
use Rattle.module_code.specs.declared.sources.Parameter.TheVariants as parameter
use Rattle.module_code.specs.declared.structures.StrExp as code_str
use Rattle.module_grammar.specs.Signatures.{as_module_id, read_sig, specs_from}
use Rattle.module_grammar.specs.Structures.{maybe_sig, str_readers}
use Rattle.module_grammar.specs.Sources.{sig_bind_turn, read_parameter, fun_bind_rest, one_fun_bind, fun_bind_turn}
use Rattle.phrase_base.specs.declared.source.Source.{Source}
use Rattle.phrase_base.specs.Gives.{Gave}
use Rattle.phrase_base.specs.Left.{left}
use Rattle.phrase_base.proofs.Lists.{then-then, word-less}
use Rattle.phrase_base.proofs.Shorter.{first-shorter, word-shorter}
use Rattle.sig_phrases.specs.SigsRead.{IsSpecs}
use Rattle.sig_phrases.proofs.Separated.{Separated}
use Rattle.sig_phrases.proofs.Specs.{specs_all}
use Rattle.str_phrases.specs.declared.seals.Sign.{Sign}
use Rattle.str_phrases.specs.StrsRead.{IsStr, IsSign, sign_of, put_sign}
use Rattle.str_phrases.proofs.Binding.{put-is}
use Rattle.top_phrases.specs.TopsRead.{read_sig_bind, depth_sig_bind, parameter_by, IsParameter, read_fun_bind, depth_fun_bind, IsFunBind}

abbrev put_after : {A : Type 0} → A → List Terminal → Answer (Turn (List A) NoState)
put_after b o = separated (after_word res.And o) (λ bs. b ∷ bs) (b ∷ []) no_state o

pub max-none : (n : ℕ) → max n 0 ≡ n
max-none n = omega arith

abbrev sig_bound : Placed ℕ → SigExp → SigBind
sig_bound x g = record { sigid = x; sigexp = g }

pub sig-turns : (n : ℕ) (i : List Terminal) → sig_bind_turn n no_state i ≡ then_read (read_sig_bind n i) put_after
sig-turns n i = go (first_as as_module_id i)
  where
    body : (x : Placed ℕ) (v : Option (List Terminal)) →
        on_some v (λ k. then_read (read_sig n k) (λ g o. put_after (sig_bound x g) o)) bad ≡ then_read (on_some v (λ k. then_read (read_sig n k) (λ g o. read (sig_bound x g) o)) bad) put_after
    body x (Some k) = then-then (read_sig n k) (sig_bound x) put_after
    body x None = refl

    go : (v : Option (Taken (Placed ℕ))) →
        then_taken v (λ x m. word_then res.Equals (λ k. then_read (read_sig n k) (λ g o. put_after (sig_bound x g) o)) m) ≡
        then_read (then_taken v (λ x m. word_then res.Equals (λ k. then_read (read_sig n k) (λ g o. read (sig_bound x g) o)) m)) put_after
    go (Some t) = body t.it (after_word res.Equals t.rest)
    go None = refl

abbrev pub sigs-form : ℕ → ℕ → Separated code_sig_bind.SigBind SigBind (List SigBind) bare.SigBind
sigs-form file n = record {
  step = sig_bind_turn n;
  one = read_sig_bind n;
  sep = after_word res.And;
  put = λ b bs. b ∷ bs;
  end_ = λ b. b ∷ [];
  of = sig_bind_of;
  view = bare_sig_bind file;
  views = map (bare_sig_bind file);
  dep = depth_sig_bind;
  deps = depth_sig_binds;
  less = word-less res.And;
  turn = sig-turns n;
  shows = λ a b. refl;
  shows_end = λ a. refl;
  deeper = λ a b. refl;
  deeper_end = λ a. max-none (depth_sig_bind a);
}

-- functors

parameter-is : (n p : ℕ) (i : List Terminal) → read_parameter n p i ≡ parameter_by n p i
parameter-is n p [] = refl
parameter-is n p (reserved q w ∷ i) = refl
parameter-is n p (number q m d ∷ i) = refl
parameter-is n p (constant q d ∷ i) = refl
parameter-is n p (alpha q x ∷ i) = refl
parameter-is n p (symbol q x ∷ i) = refl
parameter-is n p (star q x ∷ i) = refl
parameter-is n p (long_alpha q r x ∷ i) = refl
parameter-is n p (long_symbol q r x ∷ i) = refl
parameter-is n p (long_star q r x ∷ i) = refl
parameter-is n p (type_var q x ∷ i) = refl

abbrev bracketed : ℕ → Fixity → Placed ℕ → List Terminal → Answer FunBind
bracketed n f x m = word_then res.LeftParen (λ k. then_read (parameter_by n (place_at m) k) (λ a o. word_then res.RightParen (fun_bind_rest n f x a) o)) m

one-is : (n : ℕ) (f : Fixity) (x : Placed ℕ) (m : List Terminal) → one_fun_bind n f x m ≡ bracketed n f x m
one-is n f x [] = refl
one-is n f x (reserved q res.LeftParen ∷ i) = ap (λ (z : Answer Parameter). then_read z (λ a o. word_then res.RightParen (fun_bind_rest n f x a) o)) (parameter-is n q i)
one-is n f x (reserved q _ ∷ i) = refl
one-is n f x (number q m d ∷ i) = refl
one-is n f x (constant q d ∷ i) = refl
one-is n f x (alpha q y ∷ i) = refl
one-is n f x (symbol q y ∷ i) = refl
one-is n f x (star q y ∷ i) = refl
one-is n f x (long_alpha q r y ∷ i) = refl
one-is n f x (long_symbol q r y ∷ i) = refl
one-is n f x (long_star q r y ∷ i) = refl
one-is n f x (type_var q y ∷ i) = refl

pub fun-turns : (n : ℕ) (f : Fixity) (i : List Terminal) → fun_bind_turn n f no_state i ≡ then_read (read_fun_bind n f i) put_after
fun-turns n f i = go (first_as as_module_id i)
  where
    go : (v : Option (Taken (Placed ℕ))) → then_taken v (λ x m. then_read (one_fun_bind n f x m) put_after) ≡ then_read (then_taken v (λ x m. bracketed n f x m)) put_after
    go (Some t) = ap (λ (z : Answer FunBind). then_read z put_after) (one-is n f t.it t.rest)
    go None = refl

abbrev pub funs-form : {D : Type 0} → (D → core.Dec) → ℕ → ℕ → Fixity → Separated (code_fun_bind.FunBind D) FunBind (List FunBind) bare.FunBind
funs-form of file n f = record {
  step = fun_bind_turn n f;
  one = read_fun_bind n f;
  sep = after_word res.And;
  put = λ b bs. b ∷ bs;
  end_ = λ b. b ∷ [];
  of = fun_bind_of of;
  view = bare_fun_bind file;
  views = map (bare_fun_bind file);
  dep = depth_fun_bind;
  deps = depth_fun_binds;
  less = word-less res.And;
  turn = fun-turns n f;
  shows = λ a b. refl;
  shows_end = λ a. refl;
  deeper = λ a b. refl;
  deeper_end = λ a. max-none (depth_fun_bind a);
}

-- specifications as what a functor takes
pub specs-done : (s : Source) (n p : ℕ) (i : List Terminal) (xs : List code_spec.Spec) (d : ℕ) (o : List Token) (got : Read Specs) (q : Place) (g : code_sig.SigExp) → first_as as_module_id i ≡ None → specs_from n (read_sig n) i ≡ ok got → IsSpecs s n i xs d o got →
    q ≡ at s.file p → sig_of g ≡ bare.sig_end q (specs_of (map spec_of xs)) → Gave (λ (y : code_parameter.Parameter) r. IsParameter s n i y d o r) (parameter.Opened g) (parameter_by n p i)
specs-done s n p i xs d o got q g none by is at1 made =
    let all : specs_of (map spec_of xs) ≡ bare_specs s.file got.tree = ap specs_of is.same ∙ specs_all s.file got.tree in
    record {
      got = record { tree = spec_parameter p got.tree; rest = got.rest };
      is = rw (none, by) refl;
      same = record { rest = is.rest; same = ap bare.opened (made ∙ rw (all, at1) refl); depth = is.depth; fits = is.fits; shorter = is.shorter };
    }

-- a functor, from its parts
module _ {D : Type 0} (of : D → core.Dec) (s : Source) (n : ℕ) (f : Fixity) (i m k : List Terminal) (x : ℕ) (oa ob og oc os : List Token) (h : first_as as_module_id i ≡ taken (record { place = place_at i; it = x }) m) (w1 : after_word res.LeftParen m ≡ Some k)
    (a : code_parameter.Parameter) (da : ℕ) (ga : Read Parameter) (ha : parameter_by n (place_at m) k ≡ ok ga) (ia : IsParameter s n k a da oa ga) (w2 : after_word res.RightParen (left s oa) ≡ Some (left s ob))
    (sg : Option Sign) (dg : ℕ) (gg : Read MaybeSig) (hg : maybe_sig n (left s ob) ≡ ok gg) (ig : IsSign s n (left s ob) sg dg og gg) (w3 : after_word res.Equals (left s og) ≡ Some (left s oc))
    (st : code_str.StrExp D) (ds : ℕ) (gs : Read StrExp) (hs : (str_readers n).str f (left s oc) ≡ ok gs) (is : IsStr of s n (left s oc) st ds os gs) where
  pub fun-done : (q b : Place) (t : code_fun_bind.FunBind D) (d : ℕ) → q ≡ at s.file (place_at i) → b ≡ at s.file (place_at (left s oc)) →
      fun_bind_of of t ≡ record { funid = id_at_of (record { place = q; id = x }); parameter = parameter_of a; body = put_sign b (sign_of sg) (str_of of st) } → d ≡ max da (max dg ds) →
      Gave (λ (y : code_fun_bind.FunBind D) r. IsFunBind of s n i y d os r) t (read_fun_bind n f i)
  fun-done q b t d at1 at2 made deeper =
      let l0 = first-shorter as_module_id i (record { place = place_at i; it = x }) m h in let l1 = word-shorter res.LeftParen m k w1 in let l2 = word-shorter res.RightParen (left s oa) (left s ob) w2 in
      let l3 = word-shorter res.Equals (left s og) (left s oc) w3 in let l4 = ia.shorter in let l5 = ig.shorter in let l6 = is.shorter in
      let r1 = ap (λ (z : List Terminal). length z) ia.rest in let r2 = ap (λ (z : List Terminal). length z) ig.rest in
      let v2 : after_word res.RightParen ga.rest ≡ Some (left s ob) = subst (λ (z : List Terminal). after_word res.RightParen z ≡ Some (left s ob)) ia.rest w2 in
      let v3 : after_word res.Equals gg.rest ≡ Some (left s oc) = subst (λ (z : List Terminal). after_word res.Equals z ≡ Some (left s oc)) ig.rest w3 in
      let p1 = ia.same in let p2 = ig.same in let p3 = is.same in let p4 = is.place in
      let body : put_sign b (sign_of sg) (str_of of st) ≡ constrained_if s.file (str_place gs.tree) gg.tree (bare_str s.file gs.tree) = rw (p2, p3, at2, sym p4) (put-is s.file (str_place gs.tree) gg.tree (bare_str s.file gs.tree)) in
      let d1 = ia.depth in let d2 = ig.depth in let d3 = is.depth in let f1 = ia.fits in let f2 = ig.fits in let f3 = is.fits in
      record {
        got = record { tree = record { funid = record { place = place_at i; it = x }; parameter = ga.tree; result = gg.tree; body = gs.tree }; rest = gs.rest };
        is = rw (h, w1, ha, v2, hg, v3, hs) refl;
        same = record { rest = is.rest; same = made ∙ rw (body, p1, at1) refl; depth = omega arith; fits = omega arith; shorter = omega arith };
      }
