-- Lists of one phrase or more that `sep` parts, however the tree that is read has them.
use Rattle.std.proofs.Common.{◌≡◌, ℕ, ◌<◌, ◌≤◌, List, [], ◌∷◌, ◌++◌, length, map, max, Some, None, refl, ap, ◌∙◌, subst, arith}
use Rattle.std.proofs.lemmas.List.{map_push}
use Rattle.mlc_names.specs.declared.token.Token.{Token}
use Rattle.sml_tree.specs.Terminal.{Terminal}
use Rattle.sml_grammar.specs.Answer.{Read, Answer, ok, read, then_read, Turn, last, more, whole}
use Rattle.sml_grammar.specs.Terminals.{separated, NoState, no_state}
use Rattle.phrase_base.specs.declared.source.Source.{Source}
use Rattle.phrase_base.specs.declared.stop.Stop.{Stop}
use Rattle.phrase_base.specs.Gives.{Fails, Gave}
use Rattle.phrase_base.specs.Left.{left}
use Rattle.phrase_base.specs.TypesRead.{IsOne}
use Rattle.phrase_base.proofs.Loop.{fails-then, fails-by}
use Rattle.phrase_base.proofs.Lists.{Sep, SepLess}
use Rattle.sig_phrases.proofs.Running.{Running, run-start, run-more, run-last, run-fails}

-- how a list is read: a turn reads one phrase, and then looks for what parts them
pub record Separated (X A B V : Type 0) : Type 0 where
  pub step : NoState → List Terminal → Answer (Turn B NoState)
  pub one : List Terminal → Answer A
  pub sep : Sep
  pub put : A → B → B
  pub end_ : A → B
  pub of : X → V
  pub view : A → V
  pub views : B → List V
  pub dep : A → ℕ
  pub deps : B → ℕ
  pub less : SepLess sep
  pub turn : (i : List Terminal) → step no_state i ≡ then_read (one i) (λ a o. separated (sep o) (put a) (end_ a) no_state o)
  pub shows : (a : A) (b : B) → views (put a b) ≡ view a ∷ views b
  pub shows_end : (a : A) → views (end_ a) ≡ view a ∷ []
  pub deeper : (a : A) (b : B) → deps (put a b) ≡ max (dep a) (deps b)
  pub deeper_end : (a : A) → deps (end_ a) ≡ dep a

abbrev pub none : {B : Type 0} → NoState → B → NoState
none s b = no_state

abbrev pub Listing : {X A B V : Type 0} → Separated X A B V → ℕ → List Terminal → List X → ℕ → Answer B → Type 0
Listing f n i all d total = Running f.step none f.views f.deps n no_state no_state i (map f.of all) d total

-- what was read is one phrase longer, and less is left
pub record Further {X A B V : Type 0} (f : Separated X A B V) (n : ℕ) (i m : List Terminal) (all : List X) (d : ℕ) (total : Answer B) : Type 0 where
  pub going : Listing f n m all d total
  pub short : length m < length i

module _ {X A B V : Type 0} (f : Separated X A B V) (s : Source) (n : ℕ) where
  pub list-start : (i : List Terminal) (all : List X) → all ≡ [] → Listing f n i all 0 (whole f.step no_state i)
  list-start i all p = run-start f.step none f.views f.deps n no_state i (map f.of all) (ap (map f.of) p)

  module _ (i : List Terminal) (all : List X) (d : ℕ) (total : Answer B) where
    pub list-fail : (e : Stop) → Fails e (f.one i) → Listing f n i all d total → Fails e total
    list-fail e h g = run-fails f.step none f.views f.deps n no_state g e (fails-by e (f.step no_state i) _ (f.turn i) (fails-then e (f.one i) _ h))

    module _ (all2 : List X) (d2 : ℕ) (x : X) (e : ℕ) (o : List Token) (got : Read A) (h : f.one i ≡ ok got) (is : IsOne f.of f.view f.dep s n i x e o got) (p : all2 ≡ all ++ x ∷ []) (q : d2 ≡ max e d) (g : Listing f n i all d total) where
      longer : map f.of all2 ≡ map f.of all ++ f.view got.tree ∷ []
      longer = ap (map f.of) p ∙ map_push f.of all x ∙ ap (λ (z : V). map f.of all ++ z ∷ []) is.same

      pub list-more : (m : List Terminal) → f.sep (left s o) ≡ Some m → Further f n i m all2 d2 total
      list-more m c =
          let c2 : f.sep got.rest ≡ Some m = subst (λ (z : List Terminal). f.sep z ≡ Some m) is.rest c in
          let l = f.less got.rest m c2 in let k = is.shorter in
          let lt : length m < length i = omega arith in
          let t : f.step no_state i ≡ read (more (f.put got.tree) no_state) m = f.turn i ∙ rw (h, c2) refl in
          let deep = is.depth in
          record {
            going = run-more f.step none f.views f.deps n no_state g no_state m (f.put got.tree) (f.view got.tree ∷ []) (f.dep got.tree) (map f.of all2) d2 t lt (f.shows got.tree) (f.deeper got.tree) (λ b. refl) is.fits longer (omega arith);
            short = lt;
          }

      pub list-last : (j : List Terminal) → f.sep (left s o) ≡ None → length i ≤ length j → Gave (λ (xs : List X) r. IsOne (map f.of) f.views f.deps s n j xs d2 o r) all2 total
      list-last j c le =
          let c2 : f.sep got.rest ≡ None = subst (λ (z : List Terminal). f.sep z ≡ None) is.rest c in
          let t : f.step no_state i ≡ read (last (f.end_ got.tree)) got.rest = f.turn i ∙ rw (h, c2) refl in
          let deep = is.depth in let lt = is.shorter in
          let l = run-last f.step none f.views f.deps n no_state g got.rest (f.end_ got.tree) (f.view got.tree ∷ []) (f.dep got.tree) (map f.of all2) d2 t (f.shows_end got.tree) (f.deeper_end got.tree) is.fits longer (omega arith) in
          record { got = record { tree = l.tree; rest = got.rest }; is = l.is; same = record { rest = is.rest; same = l.shows; depth = l.deep; fits = l.fits; shorter = omega arith } }
