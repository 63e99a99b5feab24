-- The loop over all that a source holds.
use Rattle.std.proofs.Common.{◌≡◌, ℕ, zero, suc, nat_eq, ◌<◌, ◌≤◌, Bool, true, false, if◌then◌else◌, List, [], ◌∷◌, ◌++◌, length, map, max, Option, Some, None, refl, sym, ap, ◌∙◌, subst, arith}
use Rattle.std.proofs.lemmas.Bool.{eqb-true}
use Rattle.mlc_base.specs.declared.place.Place.{Place}
use Rattle.mlc_names.specs.declared.token.Token.{Token}
use Rattle.mlc_names.specs.declared.token.Reserved.TheVariants as res
use Rattle.sml_tree.specs.Terminal.{Terminal}
use Rattle.sml_tree.specs.Terminal as tm
use Rattle.sml_tree.specs.BareTree as core
use Rattle.sml_tree.specs.Bare.{at, bare_dec, is_directive}
use Rattle.sml_tree.specs.ReadTree as core_read
use Rattle.sml_tree.specs.Fixity.{Fixity}
use Rattle.sml_grammar.specs.Answer.{Read, Answer, ok, bad, deep, read, then_read, last, more, whole}
use Rattle.sml_grammar.specs.Terminals.{after_word, on_some, place_at}
use Rattle.sml_grammar.specs.Expressions.{readers}
use Rattle.sml_grammar.proofs.Answers.{at-path}
use Rattle.sml_grammar.proofs.Words.{word-at}
use Rattle.module_tree.specs.BareModules as bare
use Rattle.module_tree.specs.ReadModules.{StrDec, core_dec, structure_dec, local_str, SigBind, FunBind, Top, str_top, signature_top, functor_top, exp_top}
use Rattle.module_tree.specs.ModuleBare.{bare_str_dec, tops_of, bare_top, bare_tops}
use Rattle.module_tree.specs.Scope.{after_top, after_tops}
use Rattle.module_tree.specs.ModuleGrammar.{ends_in_semicolon}
use Rattle.module_code.specs.TreeOf.{sig_bind_of, fun_bind_of, top_of}
use Rattle.module_code.specs.declared.sources.SigBind as code_sig_bind
use Rattle.module_code.specs.declared.sources.FunBind as code_fun_bind
use Rattle.module_code.specs.declared.sources.Top as code
use Rattle.module_grammar.specs.Structures.{str_readers, str_dec_by, begins_str_dec}
use Rattle.module_grammar.specs.Sources.{inner_decs, begins_top, top_by, exp_by, Standing, after_one, top_turn_by, top_turn, read_source}
use Rattle.phrase_base.specs.declared.source.Source.{Source}
use Rattle.phrase_base.specs.declared.stop.Stop.{Stop}
use Rattle.phrase_base.specs.declared.stop.Stop.TheVariants as st
use Rattle.phrase_base.specs.Gives.{Fails, Gave}
use Rattle.phrase_base.specs.Left.{left}
use Rattle.phrase_base.proofs.Loop.{fails-then, fails-by}
use Rattle.phrase_base.proofs.Shorter.{word-shorter}
use Rattle.sig_phrases.proofs.Running.{Running, run-start, run-skip, run-more, run-last, run-fails}
use Rattle.str_phrases.specs.declared.decs.Item.{Item}
use Rattle.str_phrases.specs.CoreRead.{IsIt}
use Rattle.str_phrases.specs.StrsRead.{items_of, bare_one, IsStrDec}
use Rattle.top_phrases.specs.TopsRead.{read_sig_binds, IsSigBinds, read_fun_binds, IsFunBinds, some_top_of, IsTop, IsTops, strs_of}

-- whether some tokens are left
pub none-left : (n : ℕ) → nat_eq n 0 ≡ true → n < 1
none-left n e = let q = eqb-true n 0 e in omega arith

pub some-left : (n : ℕ) → nat_eq n 0 ≡ false → 0 < n
some-left zero e = absurd (cc)
some-left (suc n) e = omega arith

-- which top stands here

pub signature-at : (n : ℕ) (f : Fixity) (i o : List Terminal) → after_word res.Signature i ≡ Some o → top_by n f i ≡ then_read (read_sig_binds n o) (λ bs q. read (signature_top (place_at i) bs) q)
signature-at n f i o h = let q = at-path (word-at res.Signature i o h) in rw q.1 refl

pub functor-at : (n : ℕ) (f : Fixity) (i o : List Terminal) → after_word res.Functor i ≡ Some o → top_by n f i ≡ then_read (read_fun_binds n f o) (λ bs q. read (functor_top (place_at i) bs) q)
functor-at n f i o h = let q = at-path (word-at res.Functor i o h) in rw q.1 refl

pub dec-at : (n : ℕ) (f : Fixity) (i : List Terminal) → after_word res.Signature i ≡ None → after_word res.Functor i ≡ None → top_by n f i ≡ then_read (str_dec_by n (str_readers n).str (inner_decs n) f i) (λ d o. read (str_top d) o)
dec-at n f [] a b = refl
dec-at n f (tm.reserved p res.Signature ∷ o) a b = absurd (cc)
dec-at n f (tm.reserved p res.Functor ∷ o) a b = absurd (cc)
dec-at n f (tm.reserved p _ ∷ o) a b = refl
dec-at n f (tm.number p q r ∷ o) a b = refl
dec-at n f (tm.constant p q ∷ o) a b = refl
dec-at n f (tm.alpha p q ∷ o) a b = refl
dec-at n f (tm.symbol p q ∷ o) a b = refl
dec-at n f (tm.star p q ∷ o) a b = refl
dec-at n f (tm.long_alpha p q r ∷ o) a b = refl
dec-at n f (tm.long_symbol p q r ∷ o) a b = refl
dec-at n f (tm.long_star p q r ∷ o) a b = refl
dec-at n f (tm.type_var p q ∷ o) a b = refl

-- what a declaration stands for at the top
one-top : (b : Bool) (x : bare.StrDec) → strs_of (if b then [] else x ∷ []) ≡ tops_of (if b then bare.no_str_decs else bare.str_dec x bare.no_str_decs) []
one-top true x = refl
one-top false x = refl

pub dec-top : (it f : ℕ) (d : StrDec) → strs_of (bare_one f d) ≡ bare_top it f (str_top d) []
dec-top it f (core_dec d) = one-top (is_directive d) (bare.core_dec (bare_dec f d))
dec-top it f (structure_dec p bs) = refl
dec-top it f (local_str p ds es) = refl

-- tops before others

tops-onto : (ds : bare.StrDecs) (ts : List bare.Top) → tops_of ds ts ≡ tops_of ds [] ++ ts
tops-onto bare.no_str_decs ts = refl
tops-onto (bare.str_dec d ds) ts = ap (λ (z : List bare.Top). bare.str_top d ∷ z) (tops-onto ds ts)

top-onto : (it f : ℕ) (t : Top) (ts : List bare.Top) → bare_top it f t ts ≡ bare_top it f t [] ++ ts
top-onto it f (str_top d) ts = tops-onto (bare_str_dec f d bare.no_str_decs) ts
top-onto it f (signature_top p bs) ts = refl
top-onto it f (functor_top p bs) ts = refl
top-onto it f (exp_top e) ts = refl

abbrev after_all : Standing → List Top → Fixity
after_all st ts = after_tops st.fix ts

abbrev no_depth : List Top → ℕ
no_depth ts = 0

-- the tops `all` were read, which left the fixities f; an expression may stand here where `fresh` says so
abbrev pub TopsGoing : {D : Type 0} → (D → core.Dec) → ℕ → Source → ℕ → Fixity → Fixity → Bool → List Terminal → List (code.Top D) → Answer (List Top) → Type 0
TopsGoing of it s n f0 f fresh i all total = Running (top_turn n) after_all (bare_tops it s.file) no_depth 0 (record { fix = f0; fresh = true }) (record { fix = f; fresh = fresh }) i (map (top_of of) all) 0 total

turn-at : (n : ℕ) (st : Standing) (s : Source) (o : List Token) → 0 < length o → top_turn n st (left s o) ≡
    on_some (after_word res.Semicolon (left s o)) (λ m. read (more (λ ts. ts) (record { fix = st.fix; fresh = true })) m) (top_turn_by n st (left s o))
turn-at n st s [] h = absurd (omega arith)
turn-at n st s (t ∷ o) h = refl

module _ {D : Type 0} (of : D → core.Dec) (it : ℕ) (s : Source) (n : ℕ) (f0 : Fixity) where
  pub tops-start : (i : List Terminal) (all : List (code.Top D)) → all ≡ [] → TopsGoing of it s n f0 f0 true i all (read_source n f0 i)
  tops-start i all e = run-start (top_turn n) after_all (bare_tops it s.file) no_depth 0 (record { fix = f0; fresh = true }) i (map (top_of of) all) (ap (map (top_of of)) e)

  module _ (f : Fixity) (fresh : Bool) (o : List Token) (all : List (code.Top D)) (total : Answer (List Top)) (g : TopsGoing of it s n f0 f fresh (left s o) all total) where
    pub tops-end : length o < 1 → Gave (λ (xs : List (code.Top D)) r. IsTops of it f0 f s xs r) all total
    tops-end le = go o le g
      where
        append-none : (xs : List bare.Top) → xs ++ [] ≡ xs
        append-none [] = refl
        append-none (x ∷ xs) = ap (λ (z : List bare.Top). x ∷ z) (append-none xs)

        go : (q : List Token) → length q < 1 → TopsGoing of it s n f0 f fresh (left s q) all total → Gave (λ (xs : List (code.Top D)) r. IsTops of it f0 f s xs r) all total
        go (t ∷ q) l r = absurd (omega arith)
        go [] l r =
            let h = run-last (top_turn n) after_all (bare_tops it s.file) no_depth 0 (record { fix = f0; fresh = true }) r [] [] [] 0 (map (top_of of) all) 0 refl refl refl (omega arith) (sym (append-none (map (top_of of) all))) refl in
            record { got = record { tree = h.tree; rest = [] }; is = h.is; same = record { rest = refl; same = h.shows; force = h.force } }

    pub tops-pass : 0 < length o → (m : List Terminal) → after_word res.Semicolon (left s o) ≡ Some m → TopsGoing of it s n f0 f true m all total
    tops-pass pos m h =
        let one : top_turn n (record { fix = f; fresh = fresh }) (left s o) ≡ read (more (λ ts. ts) (record { fix = f; fresh = true })) m = turn-at n (record { fix = f; fresh = fresh }) s o pos ∙ rw h refl in
        run-skip (top_turn n) after_all (bare_tops it s.file) no_depth 0 (record { fix = f0; fresh = true }) g (record { fix = f; fresh = true }) m one (word-shorter res.Semicolon (left s o) m h) (λ b. refl)

    module _ (pos : 0 < length o) (h : after_word res.Semicolon (left s o) ≡ None) where
      by-turn : top_turn n (record { fix = f; fresh = fresh }) (left s o) ≡ top_turn_by n (record { fix = f; fresh = fresh }) (left s o)
      by-turn = turn-at n (record { fix = f; fresh = fresh }) s o pos ∙ rw h refl

      one-more : (semi : Bool) (f' : Fixity) (a : Answer Top) (got : Read Top) (x : Option (code.Top D)) (o2 : List Token) (all2 : List (code.Top D)) → top_turn n (record { fix = f; fresh = fresh }) (left s o) ≡ then_read a (after_one (record { fix = f; fresh = fresh })) → a ≡ ok got →
          IsTop of it f f' s n semi (left s o) x o2 got → map (top_of of) all2 ≡ map (top_of of) all ++ some_top_of of x → TopsGoing of it s n f0 f' semi (left s o2) all2 total
      one-more semi f' a got x o2 all2 turn by is items =
          let one : top_turn n (record { fix = f; fresh = fresh }) (left s o) ≡ read (more (λ ts. got.tree ∷ ts) (record { fix = after_top f got.tree; fresh = ends_in_semicolon got.tree })) got.rest = turn ∙ rw by refl in
          let go = run-more (top_turn n) after_all (bare_tops it s.file) no_depth 0 (record { fix = f0; fresh = true }) g (record { fix = after_top f got.tree; fresh = ends_in_semicolon got.tree }) got.rest (λ ts. got.tree ∷ ts) (bare_top it s.file got.tree []) 0 (map (top_of of) all2) 0 one is.shorter
          (λ b. top-onto it s.file got.tree (bare_tops it s.file b)) (λ b. refl) (λ b. refl) (omega arith) (items ∙ ap (λ (z : List bare.Top). map (top_of of) all ++ z) is.same) refl in
          subst (λ (z : Bool). TopsGoing of it s n f0 f' z (left s o2) all2 total) is.ends
          (subst (λ (z : Fixity). TopsGoing of it s n f0 z (ends_in_semicolon got.tree) (left s o2) all2 total) (sym is.force)
          (subst (λ (z : List Terminal). TopsGoing of it s n f0 (after_top f got.tree) (ends_in_semicolon got.tree) z all2 total) (sym is.rest) go))

      dec-turn : begins_top (left s o) ≡ true → top_turn n (record { fix = f; fresh = fresh }) (left s o) ≡ then_read (top_by n f (left s o)) (after_one (record { fix = f; fresh = fresh }))
      dec-turn b = by-turn ∙ rw b refl

      pub tops-fail : (e : Stop) → begins_top (left s o) ≡ true → Fails e (top_by n f (left s o)) → Fails e total
      tops-fail e b x = run-fails (top_turn n) after_all (bare_tops it s.file) no_depth 0 (record { fix = f0; fresh = true }) g e (fails-by e (top_turn n (record { fix = f; fresh = fresh }) (left s o)) _ (dec-turn b) (fails-then e (top_by n f (left s o)) _ x))

      pub tops-more : (f' : Fixity) (got : Read Top) (x : Option (code.Top D)) (o2 : List Token) (all2 : List (code.Top D)) → begins_top (left s o) ≡ true → top_by n f (left s o) ≡ ok got → IsTop of it f f' s n false (left s o) x o2 got →
          map (top_of of) all2 ≡ map (top_of of) all ++ some_top_of of x → TopsGoing of it s n f0 f' false (left s o2) all2 total
      tops-more f' got x o2 all2 b by is items = one-more false f' (top_by n f (left s o)) got x o2 all2 (dec-turn b) by is items

      pub tops-stale : begins_top (left s o) ≡ false → fresh ≡ false → total ≡ bad
      tops-stale b e = run-fails (top_turn n) after_all (bare_tops it s.file) no_depth 0 (record { fix = f0; fresh = true }) g (st.Bad 0) (by-turn ∙ rw (b, e) refl)

      exp-turn : begins_top (left s o) ≡ false → fresh ≡ true → top_turn n (record { fix = f; fresh = fresh }) (left s o) ≡ then_read (exp_by n f (left s o)) (after_one (record { fix = f; fresh = fresh }))
      exp-turn b e = by-turn ∙ rw (b, e) refl

      pub exps-fail : (e : Stop) → begins_top (left s o) ≡ false → fresh ≡ true → Fails e (exp_by n f (left s o)) → Fails e total
      exps-fail e b k x = run-fails (top_turn n) after_all (bare_tops it s.file) no_depth 0 (record { fix = f0; fresh = true }) g e (fails-by e (top_turn n (record { fix = f; fresh = fresh }) (left s o)) _ (exp-turn b k) (fails-then e (exp_by n f (left s o)) _ x))

      pub exps-more : (f' : Fixity) (got : Read Top) (x : Option (code.Top D)) (o2 : List Token) (all2 : List (code.Top D)) → begins_top (left s o) ≡ false → fresh ≡ true → exp_by n f (left s o) ≡ ok got → IsTop of it f f' s n true (left s o) x o2 got →
          map (top_of of) all2 ≡ map (top_of of) all ++ some_top_of of x → TopsGoing of it s n f0 f' true (left s o2) all2 total
      exps-more f' got x o2 all2 b e by is items = one-more true f' (exp_by n f (left s o)) got x o2 all2 (exp-turn b e) by is items

-- each top, from what was read

module _ {D : Type 0} (of : D → core.Dec) (it : ℕ) (s : Source) (n : ℕ) (f : Fixity) (i : List Terminal) where
  pub signatures-fail : (e : Stop) (o : List Terminal) → after_word res.Signature i ≡ Some o → Fails e (read_sig_binds n o) → Fails e (top_by n f i)
  signatures-fail e o h x = fails-by e (top_by n f i) _ (signature-at n f i o h) (fails-then e (read_sig_binds n o) _ x)

  pub signatures-done : (o : List Terminal) (xs : List code_sig_bind.SigBind) (d : ℕ) (o2 : List Token) (got : Read (List SigBind)) (p : Place) (t : code.Top D) → after_word res.Signature i ≡ Some o → read_sig_binds n o ≡ ok got → IsSigBinds s n o xs d o2 got →
      p ≡ at s.file (place_at i) → top_of of t ≡ bare.signature_top p (map sig_bind_of xs) → Gave (λ (y : Option (code.Top D)) r. IsTop of it f f s n false i y o2 r) (Some t) (top_by n f i)
  signatures-done o xs d o2 got p t h by is at1 made =
      let l1 = word-shorter res.Signature i o h in let l2 = is.shorter in let e = is.same in
      record {
        got = record { tree = signature_top (place_at i) got.tree; rest = got.rest };
        is = signature-at n f i o h ∙ rw by refl;
        same = record { rest = is.rest; same = ap (λ (z : bare.Top). z ∷ []) (made ∙ rw (e, at1) refl); shorter = omega arith; force = refl; ends = refl };
      }

  pub functors-fail : (e : Stop) (o : List Terminal) → after_word res.Functor i ≡ Some o → Fails e (read_fun_binds n f o) → Fails e (top_by n f i)
  functors-fail e o h x = fails-by e (top_by n f i) _ (functor-at n f i o h) (fails-then e (read_fun_binds n f o) _ x)

  pub functors-done : (o : List Terminal) (xs : List (code_fun_bind.FunBind D)) (d : ℕ) (o2 : List Token) (got : Read (List FunBind)) (p : Place) (t : code.Top D) → after_word res.Functor i ≡ Some o → read_fun_binds n f o ≡ ok got → IsFunBinds of s n o xs d o2 got →
      p ≡ at s.file (place_at i) → top_of of t ≡ bare.functor_top p (map (fun_bind_of of) xs) → Gave (λ (y : Option (code.Top D)) r. IsTop of it f f s n false i y o2 r) (Some t) (top_by n f i)
  functors-done o xs d o2 got p t h by is at1 made =
      let l1 = word-shorter res.Functor i o h in let l2 = is.shorter in let e = is.same in
      record {
        got = record { tree = functor_top (place_at i) got.tree; rest = got.rest };
        is = functor-at n f i o h ∙ rw by refl;
        same = record { rest = is.rest; same = ap (λ (z : bare.Top). z ∷ []) (made ∙ rw (e, at1) refl); shorter = omega arith; force = refl; ends = refl };
      }

  module _ (no_sig : after_word res.Signature i ≡ None) (no_fun : after_word res.Functor i ≡ None) where
    pub dec-fail : (e : Stop) → Fails e (str_dec_by n (str_readers n).str (inner_decs n) f i) → Fails e (top_by n f i)
    dec-fail e x = fails-by e (top_by n f i) _ (dec-at n f i no_sig no_fun) (fails-then e (str_dec_by n (str_readers n).str (inner_decs n) f i) _ x)

    pub dec-done : (f' : Fixity) (x : Option (Item D)) (d : ℕ) (o : List Token) (got : Read StrDec) (y : Option (code.Top D)) → str_dec_by n (str_readers n).str (inner_decs n) f i ≡ ok got → IsStrDec of f f' s n i x d o got → some_top_of of y ≡ strs_of (items_of of x) →
        Gave (λ (z : Option (code.Top D)) r. IsTop of it f f' s n false i z o r) y (top_by n f i)
    dec-done f' x d o got y by is made =
        record {
          got = record { tree = str_top got.tree; rest = got.rest };
          is = dec-at n f i no_sig no_fun ∙ rw by refl;
          same = record { rest = is.rest; same = made ∙ ap strs_of is.same ∙ dec-top it s.file got.tree; shorter = is.shorter; force = is.force; ends = refl };
        }

  pub exp-done : (x : D) (e : ℕ) (o o2 : List Token) (got : Read core_read.Exp) (t : code.Top D) → (readers n).exp f 0 i ≡ ok got → IsIt of it s n i x e o got → after_word res.Semicolon (left s o) ≡ Some (left s o2) → top_of of t ≡ bare.str_top (bare.core_dec (of x)) →
      Gave (λ (y : Option (code.Top D)) r. IsTop of it f f s n true i y o2 r) (Some t) (exp_by n f i)
  exp-done x e o o2 got t by is h made =
      let q : after_word res.Semicolon got.rest ≡ Some (left s o2) = subst (λ (z : List Terminal). after_word res.Semicolon z ≡ Some (left s o2)) is.rest h in
      let l1 = word-shorter res.Semicolon got.rest (left s o2) q in let l2 = is.shorter in let b = is.same in
      record {
        got = record { tree = exp_top got.tree; rest = left s o2 };
        is = rw (by, q) refl;
        same = record { rest = refl; same = ap (λ (z : bare.Top). z ∷ []) (made ∙ rw b refl); shorter = omega arith; force = refl; ends = refl };
      }
