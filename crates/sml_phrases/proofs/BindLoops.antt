-- The loop that reads value bindings.
use Rattle.std.proofs.Common.{◌≡◌, ℕ, ◌<◌, ◌≤◌, Bool, true, false, if◌then◌else◌, List, [], ◌∷◌, ◌++◌, length, map, max, Option, Some, None, refl, sym, ap, ◌∙◌, subst, arith, append_assoc}
use Rattle.std.proofs.lemmas.List.{map_push}
use Rattle.mlc_names.specs.declared.token.Token.{Token}
use Rattle.mlc_names.specs.declared.token.Reserved.TheVariants as res
use Rattle.sml_tree.specs.Terminal.{Terminal}
use Rattle.sml_tree.specs.Bare.{at, bare_pat, bare_exp}
use Rattle.sml_tree.specs.Depth.{depth, depth_pat, depth_binds}
use Rattle.sml_tree.specs.Fixity.{Fixity}
use Rattle.sml_tree.specs.ReadTree as read_tree
use Rattle.sml_tree.specs.ReadTree.{Binds, last_bind, bind, rec_binds, pat_place}
use Rattle.sml_tree.specs.TreeOf.{RuleOf, bind_of, pat_of, exp_of}
use Rattle.sml_tree.specs.declared.tree.Bind.{Bind}
use Rattle.sml_tree.specs.declared.tree.Pat.{Pat}
use Rattle.sml_tree.specs.declared.tree.Exp.{Exp}
use Rattle.mlc_base.specs.declared.place.Place.{Place}
use Rattle.sml_grammar.specs.Answer.{Read, Answer, ok, bad, read, then_read, Turn, last, more}
use Rattle.sml_grammar.specs.Terminals.{NoState, no_state, after_word, separated, word_then, place_at, tail}
use Rattle.sml_grammar.specs.Patterns.{read_pat}
use Rattle.sml_grammar.specs.Expressions.{readers, bind_turn, read_binds}
use Rattle.phrase_base.specs.declared.source.Source.{Source}
use Rattle.phrase_base.specs.declared.stop.Stop.{Stop}
use Rattle.phrase_base.specs.Gives.{Fails, Gave}
use Rattle.phrase_base.specs.Left.{left}
use Rattle.sml_phrases.specs.PatternsRead.{IsPat}
use Rattle.sml_phrases.specs.ExpressionsRead.{IsExp}
use Rattle.sml_phrases.specs.DeclarationsRead.{IsBinds, plain_list, bind_list, recursive_list}
use Rattle.phrase_base.proofs.Loop.{fails-then, Going, going-start, going-more, going-last, going-fails}

-- what the bindings that are still read are, before `rec` and after it
abbrev pub plain_from : ℕ → Bool → Binds → List RuleOf
plain_from f true b = []
plain_from f false b = plain_list f b

abbrev pub recursive_from : ℕ → Bool → Binds → List RuleOf
recursive_from f true b = bind_list f b
recursive_from f false b = recursive_list f b

pub record BindsGoing (s : Source) (n : ℕ) (f : Fixity) (i : List Terminal) (ps rs : List Bind) (r : Bool) (d : ℕ) (total : Answer Binds) : Type 0 where
  pub put : Binds → Binds
  pub going : Going (bind_turn n (readers n).exp f) no_state i put total
  pub plain : (b : Binds) → plain_list s.file (put b) ≡ map bind_of ps ++ plain_from s.file r b
  pub recursive : (b : Binds) → recursive_list s.file (put b) ≡ map bind_of rs ++ recursive_from s.file r b
  pub deep : (b : Binds) → depth_binds (put b) ≡ max d (depth_binds b)
  pub fits : d ≤ n

rec-plain : (f : ℕ) (r : Bool) (b : Binds) → plain_from f r (rec_binds b) ≡ plain_from f true b
rec-plain f true b = refl
rec-plain f false b = refl

rec-recursive : (f : ℕ) (r : Bool) (b : Binds) → recursive_from f r (rec_binds b) ≡ recursive_from f true b
rec-recursive f true b = refl
rec-recursive f false b = refl

-- a binding, as the list that it is put in has it
pushed-before : (f : ℕ) (r : Bool) (xs xs' : List RuleOf) (x : RuleOf) (a : read_tree.Pat) (e : read_tree.Exp) (b : Binds) → x ≡ record { place = at f (pat_place a); pat = bare_pat f a; exp = bare_exp f e } →
    xs' ≡ (if r then xs else (xs ++ x ∷ [])) → xs ++ plain_from f r (bind a e b) ≡ xs' ++ plain_from f r b
pushed-before f true xs xs' x a e b p q = rw q refl
pushed-before f false xs xs' x a e b p q = rw (q, p) (sym (append_assoc xs (record { place = at f (pat_place a); pat = bare_pat f a; exp = bare_exp f e } ∷ []) (plain_list f b)))

pushed-after : (f : ℕ) (r : Bool) (xs xs' : List RuleOf) (x : RuleOf) (a : read_tree.Pat) (e : read_tree.Exp) (b : Binds) → x ≡ record { place = at f (pat_place a); pat = bare_pat f a; exp = bare_exp f e } →
    xs' ≡ (if r then (xs ++ x ∷ []) else xs) → xs ++ recursive_from f r (bind a e b) ≡ xs' ++ recursive_from f r b
pushed-after f false xs xs' x a e b p q = rw q refl
pushed-after f true xs xs' x a e b p q = rw (q, p) (sym (append_assoc xs (record { place = at f (pat_place a); pat = bare_pat f a; exp = bare_exp f e } ∷ []) (bind_list f b)))

last-before : (f : ℕ) (r : Bool) (xs xs' : List RuleOf) (x : RuleOf) (a : read_tree.Pat) (e : read_tree.Exp) → x ≡ record { place = at f (pat_place a); pat = bare_pat f a; exp = bare_exp f e } →
    xs' ≡ (if r then xs else (xs ++ x ∷ [])) → xs ++ plain_from f r (last_bind a e) ≡ xs'
last-before f true xs xs' x a e p q = append-none xs ∙ sym q
  where
    append-none : (ys : List RuleOf) → ys ++ [] ≡ ys
    append-none [] = refl
    append-none (y ∷ ys) = ap (λ (z : List RuleOf). y ∷ z) (append-none ys)
last-before f false xs xs' x a e p q = rw (q, p) refl

last-after : (f : ℕ) (r : Bool) (xs xs' : List RuleOf) (x : RuleOf) (a : read_tree.Pat) (e : read_tree.Exp) → x ≡ record { place = at f (pat_place a); pat = bare_pat f a; exp = bare_exp f e } →
    xs' ≡ (if r then (xs ++ x ∷ []) else xs) → xs ++ recursive_from f r (last_bind a e) ≡ xs'
last-after f false xs xs' x a e p q = append-none xs ∙ sym q
  where
    append-none : (ys : List RuleOf) → ys ++ [] ≡ ys
    append-none [] = refl
    append-none (y ∷ ys) = ap (λ (z : List RuleOf). y ∷ z) (append-none ys)
last-after f true xs xs' x a e p q = rw (q, p) refl

map-if : (r : Bool) (xs xs' : List Bind) (x : Bind) → xs' ≡ (if r then xs else (xs ++ x ∷ [])) → map bind_of xs' ≡ (if r then map bind_of xs else (map bind_of xs ++ bind_of x ∷ []))
map-if true xs xs' x q = ap (map bind_of) q
map-if false xs xs' x q = ap (map bind_of) q ∙ map_push bind_of xs x

map-if-not : (r : Bool) (xs xs' : List Bind) (x : Bind) → xs' ≡ (if r then (xs ++ x ∷ []) else xs) → map bind_of xs' ≡ (if r then (map bind_of xs ++ bind_of x ∷ []) else map bind_of xs)
map-if-not false xs xs' x q = ap (map bind_of) q
map-if-not true xs xs' x q = ap (map bind_of) q ∙ map_push bind_of xs x

module _ (s : Source) (n : ℕ) (f : Fixity) where
  pub binds-start : (i : List Terminal) (ps rs : List Bind) → ps ≡ [] → rs ≡ [] → BindsGoing s n f i ps rs false 0 (read_binds n (readers n).exp f i)
  binds-start i ps rs p q = record { put = λ b. b; going = going-start (bind_turn n (readers n).exp f) no_state i; plain = λ b. rw p refl; recursive = λ b. rw q refl; deep = λ b. omega arith; fits = omega arith }

  module _ {i : List Terminal} {ps rs : List Bind} {r : Bool} {d : ℕ} {total : Answer Binds} (g : BindsGoing s n f i ps rs r d total) where
    pub binds-rec : (m : List Terminal) → after_word res.Rec i ≡ Some m → length m < length i → BindsGoing s n f m ps rs true d total
    binds-rec m h lt =
        let one : bind_turn n (readers n).exp f no_state i ≡ read (more rec_binds no_state) m = rw h refl in
        record {
          put = λ b. g.put (rec_binds b);
          going = going-more (bind_turn n (readers n).exp f) one lt g.going;
          plain = λ b. g.plain (rec_binds b) ∙ ap (λ (z : List RuleOf). map bind_of ps ++ z) (rec-plain s.file r b);
          recursive = λ b. g.recursive (rec_binds b) ∙ ap (λ (z : List RuleOf). map bind_of rs ++ z) (rec-recursive s.file r b);
          deep = λ b. g.deep (rec_binds b);
          fits = g.fits;
        }

    pub binds-fails-pat : (e : Stop) → after_word res.Rec i ≡ None → Fails e (read_pat n f i) → Fails e total
    binds-fails-pat e h x =
        let one : bind_turn n (readers n).exp f no_state i ≡ then_read (read_pat n f i) (λ a m. word_then res.Equals (λ k. then_read ((readers n).exp f 0 k) (λ y o. separated (after_word res.And o) (bind a y) (last_bind a y) no_state o)) m) = rw h refl in
        going-fails (bind_turn n (readers n).exp f) e (subst (λ (z : Answer (Turn Binds NoState)). Fails e z) (sym one) (fails-then e (read_pat n f i) (λ a m. word_then res.Equals (λ k. then_read ((readers n).exp f 0 k) (λ y o. separated (after_word res.And o) (bind a y) (last_bind a y) no_state o)) m) x)) g.going

    module _ (a : Read read_tree.Pat) (no_rec : after_word res.Rec i ≡ None) (is_pat : read_pat n f i ≡ ok a) where
      rest-is : bind_turn n (readers n).exp f no_state i ≡ word_then res.Equals (λ k. then_read ((readers n).exp f 0 k) (λ y o. separated (after_word res.And o) (bind a.tree y) (last_bind a.tree y) no_state o)) a.rest
      rest-is = rw (no_rec, is_pat) refl

      word-split : {A B : Type 0} (w : Option (List Terminal)) (h : List Terminal → Answer A) (c : A → List Terminal → Answer B) →
          Rattle.sml_grammar.specs.Terminals.on_some w (λ k. then_read (h k) c) bad ≡ then_read (Rattle.sml_grammar.specs.Terminals.on_some w h bad) c
      word-split (Some m) h c = refl
      word-split None h c = refl

      split : bind_turn n (readers n).exp f no_state i ≡ then_read (word_then res.Equals ((readers n).exp f 0) a.rest) (λ y o. separated (after_word res.And o) (bind a.tree y) (last_bind a.tree y) no_state o)
      split = rest-is ∙ word-split (after_word res.Equals a.rest) ((readers n).exp f 0) (λ y o. separated (after_word res.And o) (bind a.tree y) (last_bind a.tree y) no_state o)

      pub binds-fails-exp : (e : Stop) → Fails e (word_then res.Equals ((readers n).exp f 0) a.rest) → Fails e total
      binds-fails-exp e x =
          going-fails (bind_turn n (readers n).exp f) e (subst (λ (z : Answer (Turn Binds NoState)). Fails e z) (sym split)
          (fails-then e (word_then res.Equals ((readers n).exp f 0) a.rest) (λ y o. separated (after_word res.And o) (bind a.tree y) (last_bind a.tree y) no_state o) x)) g.going

      module _ (x : Bind) (place : Place) (pat : Pat) (exp : Exp) (made : bind_of x ≡ record { place = place; pat = pat_of pat; exp = exp_of exp }) (begins : place ≡ at s.file (place_at i)) (pd d' : ℕ) (k : List Terminal) (po o : List Token) (same_pat : IsPat s n i pat pd po a)
          (y : Read read_tree.Exp) (yd : ℕ) (is_exp : word_then res.Equals ((readers n).exp f 0) a.rest ≡ ok y) (same_exp : IsExp s n k exp yd o y) (deeper : d' ≡ max (max pd yd) d)
          (ps' rs' : List Bind) (put_plain : ps' ≡ (if r then ps else (ps ++ x ∷ []))) (put_recursive : rs' ≡ (if r then (rs ++ x ∷ []) else rs)) where
        item : bind_of x ≡ record { place = at s.file (pat_place a.tree); pat = bare_pat s.file a.tree; exp = bare_exp s.file y.tree }
        item = made ∙ (let p1 = begins ∙ ap (at s.file) (sym same_pat.place) in let p2 = same_pat.bare in let p3 = same_exp.bare in rw (p1, p2, p3) refl)

        pub binds-more : (m : List Terminal) → after_word res.And (left s o) ≡ Some m → length m < length i → BindsGoing s n f m ps' rs' r d' total
        binds-more m sep lt =
            let sep' : after_word res.And y.rest ≡ Some m = subst (λ (z : List Terminal). after_word res.And z ≡ Some m) same_exp.rest sep in
            let one : bind_turn n (readers n).exp f no_state i ≡ read (more (bind a.tree y.tree) no_state) m = split ∙ rw (is_exp, sep') refl in
            let k1 = same_pat.fits in let k2 = same_exp.fits in let k3 = g.fits in let k4 = same_pat.depth in let k5 = same_exp.deep in
            record {
              put = λ b. g.put (bind a.tree y.tree b);
              going = going-more (bind_turn n (readers n).exp f) one lt g.going;
              plain = λ b. g.plain (bind a.tree y.tree b) ∙ pushed-before s.file r (map bind_of ps) (map bind_of ps') (bind_of x) a.tree y.tree b item (map-if r ps ps' x put_plain);
              recursive = λ b. g.recursive (bind a.tree y.tree b) ∙ pushed-after s.file r (map bind_of rs) (map bind_of rs') (bind_of x) a.tree y.tree b item (map-if-not r rs rs' x put_recursive);
              deep = λ b. deepest b (g.deep (bind a.tree y.tree b)) same_pat.depth same_exp.deep;
              fits = omega (arith, deeper);
            }
          where
            deepest : (b : Binds) → depth_binds (g.put (bind a.tree y.tree b)) ≡ max d (max (max (depth_pat a.tree) (depth y.tree)) (depth_binds b)) → pd ≡ depth_pat a.tree → yd ≡ depth y.tree → depth_binds (g.put (bind a.tree y.tree b)) ≡ max d' (depth_binds b)
            deepest b p q q2 = omega (arith, deeper)

        pub binds-last : (j : List Terminal) → after_word res.And (left s o) ≡ None → length i ≤ length j → length y.rest < length i →
            Gave (λ (_ : Unit {0}) z. IsBinds s n j ps' rs' d' o z) tt total
        binds-last j sep le lt =
            let sep' : after_word res.And y.rest ≡ None = subst (λ (z : List Terminal). after_word res.And z ≡ None) same_exp.rest sep in
            let one : bind_turn n (readers n).exp f no_state i ≡ read (last (last_bind a.tree y.tree)) y.rest = split ∙ rw (is_exp, sep') refl in
            let k1 = same_pat.fits in let k2 = same_exp.fits in let k3 = g.fits in let k4 = same_pat.depth in let k5 = same_exp.deep in
            let q = g.deep (last_bind a.tree y.tree) in
            record {
              got = record { tree = g.put (last_bind a.tree y.tree); rest = y.rest };
              is = going-last (bind_turn n (readers n).exp f) one g.going;
              same = record {
                rest = same_exp.rest;
                plain = sym (g.plain (last_bind a.tree y.tree) ∙ last-before s.file r (map bind_of ps) (map bind_of ps') (bind_of x) a.tree y.tree item (map-if r ps ps' x put_plain));
                recursive = sym (g.recursive (last_bind a.tree y.tree) ∙ last-after s.file r (map bind_of rs) (map bind_of rs') (bind_of x) a.tree y.tree item (map-if-not r rs rs' x put_recursive));
                deep = omega (arith, deeper);
                fits = omega (arith, deeper);
                shorter = omega arith;
              };
            }
