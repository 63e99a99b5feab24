-- The loop over declarations of structures.
use Rattle.std.proofs.Common.{◌≡◌, ℕ, zero, suc, ◌<◌, ◌≤◌, Bool, true, false, ◌&&◌, if◌then◌else◌, List, [], ◌∷◌, ◌++◌, length, map, max, Option, Some, None, refl, sym, ap, ◌∙◌, subst, arith, append_assoc}
use Rattle.mlc_names.specs.declared.token.Token.{Token}
use Rattle.mlc_names.specs.declared.token.Reserved.TheVariants as res
use Rattle.sml_tree.specs.Terminal.{Terminal}
use Rattle.sml_tree.specs.BareTree as core
use Rattle.sml_tree.specs.Bare.{at, bare_dec, is_directive}
use Rattle.sml_tree.specs.ReadTree as core_read
use Rattle.sml_tree.specs.Fixity.{Fixity}
use Rattle.sml_grammar.specs.Answer.{Read, Answer, ok, bad, deep, read, then_read, last, more}
use Rattle.sml_grammar.specs.Terminals.{after_word}
use Rattle.module_tree.specs.BareModules as bare
use Rattle.module_tree.specs.ReadModules.{StrDecs, no_str_decs, str_dec, StrDec, core_dec, structure_dec, local_str}
use Rattle.module_tree.specs.ModuleBare.{bare_str_decs, bare_str_binds}
use Rattle.module_tree.specs.ModuleDepth.{depth_str_decs, depth_str_dec}
use Rattle.module_tree.specs.Scope.{is_core_dec, are_core_decs, added_decs, added_dec, after_decs, after_str_dec}
use Rattle.module_code.specs.TreeOf.{decs_of, str_dec_of}
use Rattle.module_grammar.specs.Structures.{str_readers, str_dec_by, begins_str_dec, str_dec_turn}
use Rattle.phrase_base.specs.declared.source.Source.{Source}
use Rattle.phrase_base.specs.declared.stop.Stop.{Stop}
use Rattle.phrase_base.specs.Gives.{Fails, Gave}
use Rattle.module_grammar.specs.Sources.{inner_decs}
use Rattle.phrase_base.specs.Left.{left}
use Rattle.phrase_base.proofs.Loop.{fails-then, fails-by}
use Rattle.phrase_base.proofs.Shorter.{word-shorter}
use Rattle.sig_phrases.proofs.Running.{Running, run-start, run-skip, run-more, run-last, run-fails}
use Rattle.str_phrases.specs.declared.decs.Decs.{Decs}
use Rattle.str_phrases.specs.declared.decs.Item.{Item}
use Rattle.str_phrases.specs.StrsRead.{items_of, decs_list, is_core_item, are_core, bare_one, bare_list, IsStrDec, IsStrDecs}
use Rattle.str_phrases.proofs.Opening.{decs-are}

-- what lists stand for

one-onto : (b : Bool) (x : bare.StrDec) (xs : List bare.StrDec) (ds : bare.StrDecs) → decs_of xs ≡ ds → decs_of ((if b then [] else x ∷ []) ++ xs) ≡ (if b then ds else bare.str_dec x ds)
one-onto true x xs ds e = e
one-onto false x xs ds e = ap (bare.str_dec x) e

pub decs_all : (f : ℕ) (ds : StrDecs) → decs_of (bare_list f ds) ≡ bare_str_decs f ds
decs_all f no_str_decs = refl
decs_all f (str_dec (core_dec d) ds) = one-onto (is_directive d) (bare.core_dec (bare_dec f d)) (bare_list f ds) (bare_str_decs f ds) (decs_all f ds)
decs_all f (str_dec (structure_dec p bs) ds) = ap (bare.str_dec (bare.structure_dec (at f p) (bare_str_binds f bs))) (decs_all f ds)
decs_all f (str_dec (local_str p ds es) ds') = ap (bare.str_dec (bare.local_str (at f p) (bare_str_decs f ds) (bare_str_decs f es))) (decs_all f ds')

-- which are of the core

abbrev pub core_one : bare.StrDec → Bool
core_one (bare.core_dec d) = true
core_one (bare.structure_dec p bs) = false
core_one (bare.local_str p ds es) = false

abbrev pub all_core : List bare.StrDec → Bool
all_core [] = true
all_core (d ∷ ds) = core_one d && all_core ds

and-assoc : (a b c : Bool) → (a && b) && c ≡ a && (b && c)
and-assoc true b c = refl
and-assoc false b c = refl

all-append : (xs ys : List bare.StrDec) → all_core (xs ++ ys) ≡ all_core xs && all_core ys
all-append [] ys = refl
all-append (x ∷ xs) ys = ap (λ (z : Bool). core_one x && z) (all-append xs ys) ∙ sym (and-assoc (core_one x) (all_core xs) (all_core ys))

directive-core : (b : Bool) (d : core.Dec) → all_core (if b then [] else bare.core_dec d ∷ []) ≡ true
directive-core true d = refl
directive-core false d = refl

one-core : (f : ℕ) (d : StrDec) → all_core (bare_one f d) ≡ is_core_dec d
one-core f (core_dec d) = directive-core (is_directive d) (bare_dec f d)
one-core f (structure_dec p bs) = refl
one-core f (local_str p ds es) = refl

pub list-core : (f : ℕ) (ds : StrDecs) → all_core (bare_list f ds) ≡ are_core_decs ds
list-core f no_str_decs = refl
list-core f (str_dec d ds) = let a = one-core f d in let b = list-core f ds in all-append (bare_one f d) (bare_list f ds) ∙ rw (a, b) refl

-- the declarations `all` were read, which left the fixities f
pub record DecsGoing {D : Type 0} (of : D → core.Dec) (s : Source) (n : ℕ) (f0 f : Fixity) (i : List Terminal) (all : Decs D) (d : ℕ) (total : Answer StrDecs) : Type 0 where
  pub going : Running (str_dec_turn n (str_readers n).str (inner_decs n)) after_decs (bare_list s.file) depth_str_decs n f0 f i (decs_list of all) d total
  pub core : are_core all ≡ all_core (decs_list of all)

module _ {D : Type 0} (of : D → core.Dec) (s : Source) (n : ℕ) (f0 : Fixity) where
  pub decs-start : (i : List Terminal) (all : Decs D) → decs_list of all ≡ [] → are_core all ≡ true → DecsGoing of s n f0 f0 i all 0 ((str_readers n).decs f0 i)
  decs-start i all e c = record {
    going = subst (λ (z : Answer StrDecs). Running (str_dec_turn n (str_readers n).str (inner_decs n)) after_decs (bare_list s.file) depth_str_decs n f0 f0 i (decs_list of all) 0 z) (sym (decs-are n f0 i))
        (run-start (str_dec_turn n (str_readers n).str (inner_decs n)) after_decs (bare_list s.file) depth_str_decs n f0 i (decs_list of all) e);
    core = c ∙ ap all_core (sym e);
  }

  module _ {f : Fixity} {i : List Terminal} {all : Decs D} {d : ℕ} {total : Answer StrDecs} (g : DecsGoing of s n f0 f i all d total) where
    pub decs-pass : (m : List Terminal) → after_word res.Semicolon i ≡ Some m → DecsGoing of s n f0 f m all d total
    decs-pass m h =
        let one : str_dec_turn n (str_readers n).str (inner_decs n) f i ≡ read (more (λ ds. ds) f) m = rw h refl in
        record { going = run-skip (str_dec_turn n (str_readers n).str (inner_decs n)) after_decs (bare_list s.file) depth_str_decs n f0 g.going f m one (word-shorter res.Semicolon i m h) (λ b. refl); core = g.core }

    turn-is : after_word res.Semicolon i ≡ None → begins_str_dec i ≡ true →
        str_dec_turn n (str_readers n).str (inner_decs n) f i ≡ then_read (str_dec_by n (str_readers n).str (inner_decs n) f i) (λ t o. read (more (str_dec t) (after_str_dec f t)) o)
    turn-is h b = rw (h, b) refl

    pub decs-fails : (e : Stop) → after_word res.Semicolon i ≡ None → begins_str_dec i ≡ true → Fails e (str_dec_by n (str_readers n).str (inner_decs n) f i) → Fails e total
    decs-fails e h b x =
        run-fails (str_dec_turn n (str_readers n).str (inner_decs n)) after_decs (bare_list s.file) depth_str_decs n f0 g.going e
        (fails-by e (str_dec_turn n (str_readers n).str (inner_decs n) f i) _ (turn-is h b) (fails-then e (str_dec_by n (str_readers n).str (inner_decs n) f i) _ x))

    pub decs-more : (f' : Fixity) (all' : Decs D) (d' : ℕ) (it : Option (Item D)) (e : ℕ) (o : List Token) (got : Read StrDec) → after_word res.Semicolon i ≡ None → begins_str_dec i ≡ true →
        str_dec_by n (str_readers n).str (inner_decs n) f i ≡ ok got → IsStrDec of f f' s n i it e o got → decs_list of all' ≡ decs_list of all ++ items_of of it → are_core all' ≡ (are_core all && is_core_item it) → d' ≡ max e d →
        DecsGoing of s n f0 f' (left s o) all' d' total
    decs-more f' all' d' it e o got h b by is items cores deeper =
        let one : str_dec_turn n (str_readers n).str (inner_decs n) f i ≡ read (more (str_dec got.tree) (after_str_dec f got.tree)) got.rest = turn-is h b ∙ rw by refl in
        let deep = is.depth in
        let go = run-more (str_dec_turn n (str_readers n).str (inner_decs n)) after_decs (bare_list s.file) depth_str_decs n f0 g.going (after_str_dec f got.tree) got.rest (str_dec got.tree) (bare_one s.file got.tree) (depth_str_dec got.tree)
        (decs_list of all') d' one is.shorter (λ x. refl) (λ x. refl) (λ x. append_assoc (added_decs x) (added_dec got.tree) f) is.fits (items ∙ ap (λ (z : List bare.StrDec). decs_list of all ++ z) is.same) (omega arith) in
        let kind : all_core (items_of of it) ≡ is_core_item it = ap all_core is.same ∙ one-core s.file got.tree ∙ sym is.core in
        let was = g.core in
        record {
          going = subst (λ (z : Fixity). Running (str_dec_turn n (str_readers n).str (inner_decs n)) after_decs (bare_list s.file) depth_str_decs n f0 z (left s o) (decs_list of all') d' total) (sym is.force)
              (subst (λ (z : List Terminal). Running (str_dec_turn n (str_readers n).str (inner_decs n)) after_decs (bare_list s.file) depth_str_decs n f0 (after_str_dec f got.tree) z (decs_list of all') d' total) (sym is.rest) go);
          core = cores ∙ rw (was, sym kind) (sym (all-append (decs_list of all) (items_of of it))) ∙ ap all_core (sym items);
        }

    pub decs-last : (j : List Terminal) (o : List Token) → i ≡ left s o → after_word res.Semicolon i ≡ None → begins_str_dec i ≡ false → length i ≤ length j → Gave (λ (x : Decs D) r. IsStrDecs of f0 f s n j x d o r) all total
    decs-last j o p h b le =
        let one : str_dec_turn n (str_readers n).str (inner_decs n) f i ≡ read (last no_str_decs) i = rw (h, b) refl in
        let l = run-last (str_dec_turn n (str_readers n).str (inner_decs n)) after_decs (bare_list s.file) depth_str_decs n f0 g.going i no_str_decs [] 0 (decs_list of all) d one refl refl (omega arith) (sym (append-none (decs_list of all))) (omega arith) in
        record {
          got = record { tree = l.tree; rest = i };
          is = l.is;
          same = record { rest = sym p; same = l.shows; core = g.core ∙ ap all_core l.shows ∙ list-core s.file l.tree; depth = l.deep; fits = l.fits; shorter = le; force = l.force };
        }
      where
        append-none : (xs : List bare.StrDec) → xs ++ [] ≡ xs
        append-none [] = refl
        append-none (x ∷ xs) = ap (λ (z : List bare.StrDec). x ∷ z) (append-none xs)
