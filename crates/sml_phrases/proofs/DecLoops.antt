-- The loops that read declarations and the functions of `fun`.
use Rattle.std.proofs.Common.{◌≡◌, ℕ, zero, suc, ◌<◌, ◌≤◌, Bool, true, false, if◌then◌else◌, List, [], ◌∷◌, ◌++◌, length, map, max, Option, Some, None, refl, sym, ap, ◌∙◌, subst, arith, append_assoc}
use Rattle.std.proofs.lemmas.List.{map_push}
use Rattle.mlc_names.specs.declared.token.Token.{Token}
use Rattle.mlc_names.specs.declared.token.Reserved.TheVariants as res
use Rattle.sml_tree.specs.Terminal.{Terminal}
use Rattle.sml_tree.specs.BareTree as bare
use Rattle.sml_tree.specs.Bare.{bare_dec, is_directive, functions}
use Rattle.sml_tree.specs.Derived as derived
use Rattle.sml_tree.specs.Depth.{depth_dec, depth_decs, depth_funs, depth_clauses}
use Rattle.sml_tree.specs.Fixity.{Fixity}
use Rattle.sml_tree.specs.Levels.{added, added_by, after, after_dec}
use Rattle.sml_tree.specs.ReadTree as read_tree
use Rattle.sml_tree.specs.ReadTree.{Decs, no_decs, dec, Funs, last_fun, fun_and, Clauses}
use Rattle.sml_tree.specs.TreeOf.{dec_of, function_of}
use Rattle.sml_tree.specs.declared.tree.Dec.{Dec}
use Rattle.sml_tree.specs.declared.tree.Function.{Function}
use Rattle.sml_grammar.specs.Answer.{Read, Answer, ok, read, then_read, last, more}
use Rattle.sml_grammar.specs.Terminals.{no_state, after_word, separated}
use Rattle.sml_grammar.specs.Expressions.{readers, decs_from, dec_turn, dec_by, dec_start, is_dec_start, fun_turn, read_clauses, read_funs}
use Rattle.phrase_base.specs.declared.source.Source.{Source}
use Rattle.phrase_base.specs.declared.stop.Stop.{Stop}
use Rattle.phrase_base.specs.Gives.{Fails, Gave}
use Rattle.phrase_base.specs.Left.{left}
use Rattle.sml_phrases.specs.ExpressionsRead.{IsDecs, IsList, dec_list}
use Rattle.sml_phrases.specs.DeclarationsRead.{IsDec, IsFunction, inner_decs, item_of, bare_item, function_from}
use Rattle.phrase_base.proofs.Loop.{fails-then, Going, going-start, going-more, going-last, going-fails}
use Rattle.phrase_base.proofs.Listing.{Listing, listing-start, listing-more, listing-last, listing-fails, listing-at}

pub decs-are : (n : ℕ) (f : Fixity) (i : List Terminal) → (readers n).decs f i ≡ decs_from n (readers n).exp (inner_decs n) f i
unfolding readers
decs-are zero f i = refl
decs-are (suc n) f i = refl

item-is : (b : Bool) (x : bare.Dec) (xs : List bare.Dec) → (if b then xs else x ∷ xs) ≡ (if b then [] else x ∷ []) ++ xs
item-is true x xs = refl
item-is false x xs = refl

-- the declarations `all` were read, which left the fixities f
pub record DecsGoing (s : Source) (n : ℕ) (f0 f : Fixity) (i : List Terminal) (all : List Dec) (d : ℕ) (total : Answer Decs) : Type 0 where
  pub put : Decs → Decs
  pub going : Going (dec_turn n (readers n).exp (inner_decs n)) f i put total
  pub shows : (b : Decs) → dec_list s.file (put b) ≡ map dec_of all ++ dec_list s.file b
  pub deep : (b : Decs) → depth_decs (put b) ≡ max d (depth_decs b)
  pub force : (b : Decs) → after f0 (put b) ≡ after f b
  pub fits : d ≤ n

module _ (s : Source) (n : ℕ) (f0 : Fixity) where
  pub decs-start : (i : List Terminal) (all : List Dec) → all ≡ [] → DecsGoing s n f0 f0 i all 0 ((readers n).decs f0 i)
  decs-start i all e = record {
    put = λ b. b;
    going = subst (λ (z : Answer Decs). Going (dec_turn n (readers n).exp (inner_decs n)) f0 i (λ b. b) z) (sym (decs-are n f0 i)) (going-start (dec_turn n (readers n).exp (inner_decs n)) f0 i);
    shows = λ b. rw e refl;
    deep = λ b. omega arith;
    force = λ b. refl;
    fits = omega arith;
  }

  module _ {f : Fixity} {i : List Terminal} {all : List Dec} {d : ℕ} {total : Answer Decs} (g : DecsGoing s n f0 f i all d total) where
    pub decs-pass : (m : List Terminal) → after_word res.Semicolon i ≡ Some m → length m < length i → DecsGoing s n f0 f m all d total
    decs-pass m h lt =
        let one : dec_turn n (readers n).exp (inner_decs n) f i ≡ read (more (λ ds. ds) f) m = rw h refl in
        record { put = g.put; going = going-more (dec_turn n (readers n).exp (inner_decs n)) one lt g.going; shows = g.shows; deep = g.deep; force = g.force; fits = g.fits }

    turn-is : after_word res.Semicolon i ≡ None → is_dec_start (dec_start i) ≡ true →
        dec_turn n (readers n).exp (inner_decs n) f i ≡ then_read (dec_by n (readers n).exp (inner_decs n) f (dec_start i)) (λ t o. read (more (dec t) (after_dec f t)) o)
    turn-is h b = rw (h, b) refl

    pub decs-fails : (e : Stop) → after_word res.Semicolon i ≡ None → is_dec_start (dec_start i) ≡ true → Fails e (dec_by n (readers n).exp (inner_decs n) f (dec_start i)) → Fails e total
    decs-fails e h b x =
        going-fails (dec_turn n (readers n).exp (inner_decs n)) e
        (subst (λ (z : Answer _). Fails e z) (sym (turn-is h b)) (fails-then e (dec_by n (readers n).exp (inner_decs n) f (dec_start i)) (λ t o. read (more (dec t) (after_dec f t)) o) x)) g.going

    pub decs-more : (f' : Fixity) (all' : List Dec) (d' : ℕ) (it : Option Dec) (e : ℕ) (o : List Token) (got : Read read_tree.Dec) → after_word res.Semicolon i ≡ None → is_dec_start (dec_start i) ≡ true →
        dec_by n (readers n).exp (inner_decs n) f (dec_start i) ≡ ok got → IsDec f f' s n i it e o got → map dec_of all' ≡ map dec_of all ++ item_of it → d' ≡ max e d → DecsGoing s n f0 f' (left s o) all' d' total
    decs-more f' all' d' it e o got h b by is items deeper =
        let sem : dec_turn n (readers n).exp (inner_decs n) f i ≡ then_read (dec_by n (readers n).exp (inner_decs n) f (dec_start i)) (λ t m. read (more (dec t) (after_dec f t)) m) = turn-is h b in
        let one : dec_turn n (readers n).exp (inner_decs n) f i ≡ read (more (dec got.tree) (after_dec f got.tree)) got.rest = sem ∙ rw by refl in
        let lt : length got.rest < length i = is.shorter in
        let go : Going (dec_turn n (readers n).exp (inner_decs n)) (after_dec f got.tree) got.rest (λ b. g.put (dec got.tree b)) total = going-more (dec_turn n (readers n).exp (inner_decs n)) one lt g.going in
        let is_deep = is.deep in let is_fits = is.fits in let le = g.fits in
        record {
          put = λ b. g.put (dec got.tree b);
          going = subst (λ (z : Fixity). Going (dec_turn n (readers n).exp (inner_decs n)) z (left s o) (λ b. g.put (dec got.tree b)) total) (sym is.force)
              (subst (λ (z : List Terminal). Going (dec_turn n (readers n).exp (inner_decs n)) (after_dec f got.tree) z (λ b. g.put (dec got.tree b)) total) (sym is.rest) go);
          shows = λ b. g.shows (dec got.tree b) ∙ ap (λ (z : List bare.Dec). map dec_of all ++ z) (item-is (is_directive got.tree) (bare_dec s.file got.tree) (dec_list s.file b))
              ∙ sym (append_assoc (map dec_of all) (bare_item s.file got.tree) (dec_list s.file b)) ∙ ap (λ (z : List bare.Dec). (map dec_of all ++ z) ++ dec_list s.file b) (sym is.same) ∙ ap (λ (z : List bare.Dec). z ++ dec_list s.file b) (sym items);
          deep = λ b. deepest b (g.deep (dec got.tree b)) is.deep deeper;
          force = λ b. g.force (dec got.tree b) ∙ append_assoc (added b) (added_by got.tree) f ∙ ap (λ (z : Fixity). added b ++ z) (sym is.force);
          fits = omega arith;
        }
      where
        deepest : (b : Decs) → depth_decs (g.put (dec got.tree b)) ≡ max d (max (depth_dec got.tree) (depth_decs b)) → e ≡ depth_dec got.tree → d' ≡ max e d → depth_decs (g.put (dec got.tree b)) ≡ max d' (depth_decs b)
        deepest b p q r = omega arith

    pub decs-last : (j : List Terminal) (o : List Token) → i ≡ left s o → after_word res.Semicolon i ≡ None → is_dec_start (dec_start i) ≡ false → length i ≤ length j → Gave (λ (ds : List Dec) r. IsDecs f0 f s n j ds d o r) all total
    decs-last j o p h b le =
        let one : dec_turn n (readers n).exp (inner_decs n) f i ≡ read (last no_decs) i = rw (h, b) refl in
        let q = g.deep no_decs in let k = g.fits in
        record {
          got = record { tree = g.put no_decs; rest = i };
          is = going-last (dec_turn n (readers n).exp (inner_decs n)) one g.going;
          same = record {
            rest = sym p;
            same = sym (g.shows no_decs ∙ append-none (map dec_of all));
            deep = omega arith;
            fits = omega arith;
            short = le;
            force = sym (g.force no_decs);
          };
        }
      where
        append-none : (xs : List bare.Dec) → xs ++ [] ≡ xs
        append-none [] = refl
        append-none (x ∷ xs) = ap (λ (z : List bare.Dec). x ∷ z) (append-none xs)

-- Functions.

abbrev pub FunsGoing : Source → ℕ → Fixity → List Terminal → List Function → ℕ → Answer Funs → Type 0
FunsGoing s n f i all d total = Listing (fun_turn n (readers n).exp f) no_state i (functions s.file) depth_funs n [] 0 (map function_of all) d total

module _ (s : Source) (n : ℕ) (f : Fixity) where
  pub funs-start : (i : List Terminal) (all : List Function) → all ≡ [] → FunsGoing s n f i all 0 (read_funs n (readers n).exp f i)
  funs-start i all e = listing-at (fun_turn n (readers n).exp f) (functions s.file) depth_funs n [] 0 (ap (map function_of) e) refl (listing-start (fun_turn n (readers n).exp f) (functions s.file) depth_funs n [] 0 no_state i (omega arith))

  module _ (i : List Terminal) (all : List Function) (d : ℕ) (total : Answer Funs) (g : FunsGoing s n f i all d total) where
    pub funs-fails : (e : Stop) → Fails e (read_clauses n (readers n).exp f i) → Fails e total
    funs-fails e h =
        listing-fails (fun_turn n (readers n).exp f) (functions s.file) depth_funs n [] 0 e
        (fails-then e (read_clauses n (readers n).exp f i) (λ cs o. separated (after_word res.And o) (fun_and cs) (last_fun cs) no_state o) h) g

    module _ (x : Function) (e : ℕ) (o : List Token) (got : Read Clauses) (by : read_clauses n (readers n).exp f i ≡ ok got) (is : IsFunction s n i x e o got) (all' : List Function) (items : all' ≡ all ++ x ∷ []) (d' : ℕ) (deeper : d' ≡ max e d) where
      all-are : map function_of all' ≡ map function_of all ++ function_from s.file got.tree ∷ []
      all-are = ap (map function_of) items ∙ map_push function_of all x ∙ ap (λ (z : derived.Function). map function_of all ++ z ∷ []) is.same

      pub funs-more : (m : List Terminal) → after_word res.And (left s o) ≡ Some m → length m < length i → FunsGoing s n f m all' d' total
      funs-more m sep lt =
          let sep' : after_word res.And got.rest ≡ Some m = subst (λ (z : List Terminal). after_word res.And z ≡ Some m) is.rest sep in
          let one : fun_turn n (readers n).exp f no_state i ≡ read (more (fun_and got.tree) no_state) m = rw (by, sep') refl in
          listing-at (fun_turn n (readers n).exp f) (functions s.file) depth_funs n [] 0 all-are (deeper ∙ ap (λ (k : ℕ). max k d) is.deep)
          (listing-more (fun_turn n (readers n).exp f) (functions s.file) depth_funs n [] 0 (function_from s.file got.tree) (depth_clauses got.tree) one lt (λ b. refl) (λ b. refl) is.fits g)

      pub funs-last : (j : List Terminal) → after_word res.And (left s o) ≡ None → length i ≤ length j → Gave (λ (xs : List Function) r. IsList (functions s.file) depth_funs s n j (map function_of xs) d' o r) all' total
      funs-last j sep le =
          let sep' : after_word res.And got.rest ≡ None = subst (λ (z : List Terminal). after_word res.And z ≡ None) is.rest sep in
          let one : fun_turn n (readers n).exp f no_state i ≡ read (last (last_fun got.tree)) got.rest = rw (by, sep') refl in
          let h2 = listing-last (fun_turn n (readers n).exp f) (functions s.file) depth_funs n [] 0 (function_from s.file got.tree ∷ []) (depth_clauses got.tree) one refl refl is.fits g in
          let k = is.deep in let r = h2.deep in let fit = h2.fits in let sh = is.shorter in
          record {
            got = record { tree = h2.tree; rest = got.rest };
            is = h2.is;
            same = record {
              rest = is.rest;
              same = all-are ∙ sym h2.shows;
              deep = omega arith;
              fits = omega arith;
              some = subst (λ (z : List derived.Function). 0 < length z) (sym all-are) (some-pushed (map function_of all) (function_from s.file got.tree));
              shorter = omega arith;
            };
          }
        where
          some-pushed : (xs : List derived.Function) (y : derived.Function) → 0 < length (xs ++ y ∷ [])
          some-pushed [] y = omega arith
          some-pushed (z ∷ xs) y = omega arith
