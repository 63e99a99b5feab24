-- The loop that reads the clauses of a function.
use Rattle.std.proofs.Common.{◌≡◌, ℕ, ◌<◌, ◌≤◌, Bool, true, false, ◌&&◌, nat_eq, if◌then◌else◌, List, [], ◌∷◌, ◌++◌, length, map, max, Option, Some, None, refl, sym, ap, ◌∙◌, subst, arith, append_assoc}
use Rattle.std.proofs.lemmas.Bool.{eqb-true}
use Rattle.std.proofs.lemmas.List.{map_push}
use Rattle.std.specs.Option.{unwrap_or}
use Rattle.mlc_base.specs.declared.place.Place.{Place}
use Rattle.mlc_names.specs.declared.token.Token.{Token}
use Rattle.mlc_names.specs.declared.token.Reserved.TheVariants as res
use Rattle.sml_tree.specs.Terminal.{Terminal}
use Rattle.sml_tree.specs.Bare.{at, bare_exp, bare_some, clause_list, clauses_place, clauses_vid, clauses_vid_place, head_pats}
use Rattle.sml_tree.specs.Derived as derived
use Rattle.sml_tree.specs.Derived.{with_result}
use Rattle.sml_tree.specs.Depth.{depth, depth_head, depth_some, depth_clauses}
use Rattle.sml_tree.specs.Fixity.{Fixity, is_vid}
use Rattle.sml_tree.specs.ReadTree as read_tree
use Rattle.sml_tree.specs.ReadTree.{Head, head_place, head_vid, head_vid_place, head_count, exp_place, Clauses, last_clause, clause}
use Rattle.sml_tree.specs.TreeOf.{exp_of, pat_of, clause_of, function_of, some_ty_of}
use Rattle.sml_tree.specs.declared.ident.Vid.{Vid}
use Rattle.sml_tree.specs.declared.ident.Vid.TheVariants.{Named, Fresh, Equals}
use Rattle.sml_tree.specs.declared.tree.Clause.{Clause}
use Rattle.sml_tree.specs.declared.tree.Function.{Function}
use Rattle.sml_tree.specs.declared.tree.Exp.{Exp}
use Rattle.sml_grammar.specs.Answer.{Read, Answer, ok, bad, deep, read, then_read, Turn, last, more}
use Rattle.sml_grammar.specs.Terminals.{after_word, on_some, separated, word_then, place_at}
use Rattle.sml_grammar.specs.Types.{maybe_ty}
use Rattle.sml_grammar.specs.Patterns.{read_head}
use Rattle.sml_grammar.specs.Expressions.{Shape, shape_of, agrees, readers, clause_turn, clause_rest, clause_body, read_clauses}
use Rattle.sml_phrases.specs.declared.headings.Shape as headings
use Rattle.sml_phrases.specs.declared.headings.Heading as code
use Rattle.phrase_base.specs.declared.source.Source.{Source}
use Rattle.phrase_base.specs.declared.stop.Stop.{Stop}
use Rattle.phrase_base.specs.Gives.{Fails, Gave}
use Rattle.phrase_base.specs.Left.{left}
use Rattle.sml_phrases.specs.ExpressionsRead.{IsExp}
use Rattle.sml_phrases.specs.DeclarationsRead.{HeadingRead, read_heading, shape_from, IsHeading, IsFunction}
use Rattle.phrase_base.proofs.Loop.{fails-then, Going, going-start, going-more, going-last, going-fails}

-- Shapes.

is_vid-one : (v w : Vid) → is_vid v w ≡ true → v ≡ w
is_vid-one (Named x) (Named y) e = ap Named (eqb-true x y e)
is_vid-one (Fresh x) (Fresh y) e = ap Fresh (eqb-true x y e)
is_vid-one Equals Equals e = refl
is_vid-one _ _ e = absurd (cc)

both : (a b : Bool) → (a && b) ≡ true → (a ≡ true) × (b ≡ true)
both true true e = (refl, refl)
both true false e = absurd (cc)
both false b e = absurd (cc)

-- the shape that stays: the first clause's
abbrev pub first_of : Option headings.Shape → headings.Shape → headings.Shape
first_of None x = x
first_of (Some y) x = y

pub first-is : (shape : Option headings.Shape) (x : headings.Shape) → unwrap_or shape x ≡ first_of shape x
first-is None x = refl
first-is (Some y) x = refl

abbrev pub VidIs : Option headings.Shape → (Clauses → Clauses) → Type 0
VidIs None put = (b : Clauses) → clauses_vid (put b) ≡ clauses_vid b
VidIs (Some x) put = (b : Clauses) → clauses_vid (put b) ≡ x.vid

abbrev pub PlaceIs : ℕ → Option headings.Shape → (Clauses → Clauses) → Type 0
PlaceIs f None put = (b : Clauses) → clauses_place (put b) ≡ clauses_place b
PlaceIs f (Some x) put = (b : Clauses) → at f (clauses_place (put b)) ≡ x.place

abbrev pub VidPlaceIs : ℕ → Option headings.Shape → (Clauses → Clauses) → Type 0
VidPlaceIs f None put = (b : Clauses) → clauses_vid_place (put b) ≡ clauses_vid_place b
VidPlaceIs f (Some x) put = (b : Clauses) → at f (clauses_vid_place (put b)) ≡ x.vid_place

vid-of : (shape : Option headings.Shape) (put : Clauses → Clauses) (b : Clauses) (h : Head) (x : headings.Shape) → clauses_vid b ≡ head_vid h → x.vid ≡ head_vid h → VidIs shape put → clauses_vid (put b) ≡ (first_of shape x).vid
vid-of None put b h x p q g = g b ∙ p ∙ sym q
vid-of (Some y) put b h x p q g = g b

place-of : (f : ℕ) (shape : Option headings.Shape) (put : Clauses → Clauses) (b : Clauses) (h : Head) (x : headings.Shape) → clauses_place b ≡ head_place h → x.place ≡ at f (head_place h) → PlaceIs f shape put → at f (clauses_place (put b)) ≡ (first_of shape x).place
place-of f None put b h x p q g = ap (at f) (g b ∙ p) ∙ sym q
place-of f (Some y) put b h x p q g = g b

vid_place-of : (f : ℕ) (shape : Option headings.Shape) (put : Clauses → Clauses) (b : Clauses) (h : Head) (x : headings.Shape) → clauses_vid_place b ≡ head_vid_place h → x.vid_place ≡ at f (head_vid_place h) → VidPlaceIs f shape put → at f (clauses_vid_place (put b)) ≡ (first_of shape x).vid_place
vid_place-of f None put b h x p q g = ap (at f) (g b ∙ p) ∙ sym q
vid_place-of f (Some y) put b h x p q g = g b

shape-kept : (shape : Option headings.Shape) (h : Head) (x : headings.Shape) → agrees (shape_from shape) h ≡ true → x.vid ≡ head_vid h → x.count ≡ head_count h → Some (shape_of h) ≡ shape_from (Some (first_of shape x))
shape-kept None h x a p q = rw (p, q) refl
shape-kept (Some y) h x a p q =
    let e = both (is_vid (head_vid h) y.vid) (nat_eq (head_count h) y.count) a in
    let e1 : head_vid h ≡ y.vid = is_vid-one (head_vid h) y.vid e.0 in
    let e2 : head_count h ≡ y.count = eqb-true (head_count h) y.count e.1 in
    rw (e1, e2) refl

-- A turn is a heading, and then an expression after a word.

abbrev pub goes_on : HeadingRead → read_tree.Exp → List Terminal → Answer (Turn Clauses (Option Shape))
goes_on x e o = separated (after_word res.Bar o) (clause x.head x.ty e) (last_clause x.head x.ty e) (Some (shape_of x.head)) o

module _ (n : ℕ) (f : Fixity) (s : Option Shape) where
  word-split : (w : Option (List Terminal)) (c : read_tree.Exp → List Terminal → Answer (Turn Clauses (Option Shape))) →
      on_some w (λ k. then_read ((readers n).exp f 0 k) c) bad ≡ then_read (on_some w ((readers n).exp f 0) bad) c
  word-split (Some m) c = refl
  word-split None c = refl

  type-split : (a : Answer (Option read_tree.Ty)) (h : Head) → then_read a (clause_body (readers n).exp f h) ≡
      then_read (then_read a (λ t o. read (record { head = h; ty = t }) o)) (λ x m. then_read (word_then res.Equals ((readers n).exp f 0) m) (goes_on x))
  type-split (ok r) h = word-split (after_word res.Equals r.rest) (goes_on (record { head = h; ty = r.tree }))
  type-split bad h = refl
  type-split deep h = refl

  agree-split : (b : Bool) (h : Head) (m : List Terminal) → (if b then then_read (maybe_ty n (after_word res.Colon m) m) (clause_body (readers n).exp f h) else bad) ≡
      then_read (if b then then_read (maybe_ty n (after_word res.Colon m) m) (λ t o. read (record { head = h; ty = t }) o) else bad) (λ x k. then_read (word_then res.Equals ((readers n).exp f 0) k) (goes_on x))
  agree-split true h m = type-split (maybe_ty n (after_word res.Colon m) m) h
  agree-split false h m = refl

  head-split : (a : Answer Head) → then_read a (clause_rest n (readers n).exp f s) ≡
      then_read (then_read a (λ h m. if agrees s h then then_read (maybe_ty n (after_word res.Colon m) m) (λ t o. read (record { head = h; ty = t }) o) else bad)) (λ x k. then_read (word_then res.Equals ((readers n).exp f 0) k) (goes_on x))
  head-split (ok r) = agree-split (agrees s r.tree) r.tree r.rest
  head-split bad = refl
  head-split deep = refl

  turn-split : (i : List Terminal) → clause_turn n (readers n).exp f s i ≡ then_read (read_heading n f s i) (λ x k. then_read (word_then res.Equals ((readers n).exp f 0) k) (goes_on x))
  turn-split i = head-split (read_head n f i)

-- The loop.

pub record ClausesGoing (s : Source) (n : ℕ) (f : Fixity) (shape : Option headings.Shape) (i : List Terminal) (all : List Clause) (d : ℕ) (total : Answer Clauses) : Type 0 where
  pub put : Clauses → Clauses
  pub going : Going (clause_turn n (readers n).exp f) (shape_from shape) i put total
  pub shows : (b : Clauses) → clause_list s.file (put b) ≡ map clause_of all ++ clause_list s.file b
  pub deep : (b : Clauses) → depth_clauses (put b) ≡ max d (depth_clauses b)
  pub vid : VidIs shape put
  pub place : PlaceIs s.file shape put
  pub vid_place : VidPlaceIs s.file shape put
  pub fits : d ≤ n

module _ (s : Source) (n : ℕ) (f : Fixity) where
  pub clauses-start : (i : List Terminal) (all : List Clause) → all ≡ [] → ClausesGoing s n f None i all 0 (read_clauses n (readers n).exp f i)
  clauses-start i all e = record { put = λ b. b; going = going-start (clause_turn n (readers n).exp f) None i; shows = λ b. rw e refl; deep = λ b. omega arith; vid = λ b. refl; place = λ b. refl; vid_place = λ b. refl; fits = omega arith }

  module _ {shape : Option headings.Shape} {i : List Terminal} {all : List Clause} {d : ℕ} {total : Answer Clauses} (g : ClausesGoing s n f shape i all d total) where
    pub clauses-fail-heading : (e : Stop) → Fails e (read_heading n f (shape_from shape) i) → Fails e total
    clauses-fail-heading e x =
        going-fails (clause_turn n (readers n).exp f) e
        (subst (λ (z : Answer (Turn Clauses (Option Shape))). Fails e z) (sym (turn-split n f (shape_from shape) i))
        (fails-then e (read_heading n f (shape_from shape) i) (λ y k. then_read (word_then res.Equals ((readers n).exp f 0) k) (goes_on y)) x)) g.going

    module _ (h : Read HeadingRead) (is_heading : read_heading n f (shape_from shape) i ≡ ok h) where
      turn-is : clause_turn n (readers n).exp f (shape_from shape) i ≡ then_read (word_then res.Equals ((readers n).exp f 0) h.rest) (goes_on h.tree)
      turn-is = turn-split n f (shape_from shape) i ∙ rw is_heading refl

      pub clauses-fail-exp : (e : Stop) → Fails e (word_then res.Equals ((readers n).exp f 0) h.rest) → Fails e total
      clauses-fail-exp e x =
          going-fails (clause_turn n (readers n).exp f) e
          (subst (λ (z : Answer (Turn Clauses (Option Shape))). Fails e z) (sym turn-is) (fails-then e (word_then res.Equals ((readers n).exp f 0) h.rest) (goes_on h.tree) x)) g.going

      module _ (x : code.Heading) (hd : ℕ) (ho : List Token) (same_heading : IsHeading shape s n i x hd ho h) (y : Read read_tree.Exp) (is_exp : word_then res.Equals ((readers n).exp f 0) h.rest ≡ ok y)
          (k : List Terminal) (exp : Exp) (yd : ℕ) (o : List Token) (same_exp : IsExp s n k exp yd o y) (place : Place) (begins : place ≡ at s.file (place_at k))
          (c : Clause) (made : clause_of c ≡ record { place = x.shape.place; pats = map pat_of x.pats.items; body = with_result place (exp_of exp) (some_ty_of x.ty) })
          (d' : ℕ) (deeper : d' ≡ max (max hd yd) d) (all' : List Clause) (pushed : all' ≡ all ++ c ∷ []) where
        abbrev read_clause : derived.Clause
        read_clause = record { place = at s.file (head_place h.tree.head); pats = head_pats s.file h.tree.head; body = with_result (at s.file (exp_place y.tree)) (bare_exp s.file y.tree) (bare_some s.file h.tree.ty) }

        item : clause_of c ≡ read_clause
        item = made ∙ (let p1 = same_heading.place in let p2 = same_heading.pats in let p3 = same_heading.ty in let p4 = begins ∙ ap (at s.file) (sym same_exp.place) in let p5 = same_exp.bare in rw (p1, p2, p3, p4, p5) refl)

        items : map clause_of all' ≡ map clause_of all ++ read_clause ∷ []
        items = ap (map clause_of) pushed ∙ map_push clause_of all c ∙ ap (λ (z : derived.Clause). map clause_of all ++ z ∷ []) item

        fit : d' ≤ n
        fit = let k1 = same_heading.fits in let k2 = same_exp.fits in let k3 = g.fits in let k4 = same_heading.deep in let k5 = same_exp.deep in omega (arith, deeper)

        pub clauses-more : (m : List Terminal) → after_word res.Bar (left s o) ≡ Some m → length m < length i → ClausesGoing s n f (Some (first_of shape x.shape)) m all' d' total
        clauses-more m sep lt =
            let sep' : after_word res.Bar y.rest ≡ Some m = subst (λ (z : List Terminal). after_word res.Bar z ≡ Some m) same_exp.rest sep in
            let one : clause_turn n (readers n).exp f (shape_from shape) i ≡ read (more (clause h.tree.head h.tree.ty y.tree) (Some (shape_of h.tree.head))) m = turn-is ∙ rw (is_exp, sep') refl in
            let kept = shape-kept shape h.tree.head x.shape same_heading.agrees same_heading.vid same_heading.count in
            let go : Going (clause_turn n (readers n).exp f) (Some (shape_of h.tree.head)) m (λ b. g.put (clause h.tree.head h.tree.ty y.tree b)) total = going-more (clause_turn n (readers n).exp f) one lt g.going in
            record {
              put = λ b. g.put (clause h.tree.head h.tree.ty y.tree b);
              going = subst (λ (z : Option Shape). Going (clause_turn n (readers n).exp f) z m (λ b. g.put (clause h.tree.head h.tree.ty y.tree b)) total) kept go;
              shows = λ b. g.shows (clause h.tree.head h.tree.ty y.tree b) ∙ sym (append_assoc (map clause_of all) (read_clause ∷ []) (clause_list s.file b)) ∙ ap (λ (z : List derived.Clause). z ++ clause_list s.file b) (sym items);
              deep = λ b. deepest b (g.deep (clause h.tree.head h.tree.ty y.tree b)) same_heading.deep same_exp.deep;
              vid = λ b. vid-of shape g.put (clause h.tree.head h.tree.ty y.tree b) h.tree.head x.shape refl same_heading.vid g.vid;
              place = λ b. place-of s.file shape g.put (clause h.tree.head h.tree.ty y.tree b) h.tree.head x.shape refl same_heading.place g.place;
              vid_place = λ b. vid_place-of s.file shape g.put (clause h.tree.head h.tree.ty y.tree b) h.tree.head x.shape refl same_heading.vid_place g.vid_place;
              fits = fit;
            }
          where
            deepest : (b : Clauses) → depth_clauses (g.put (clause h.tree.head h.tree.ty y.tree b)) ≡ max d (max (max (max (depth_head h.tree.head) (depth_some h.tree.ty)) (depth y.tree)) (depth_clauses b)) →
                hd ≡ max (depth_head h.tree.head) (depth_some h.tree.ty) → yd ≡ depth y.tree → depth_clauses (g.put (clause h.tree.head h.tree.ty y.tree b)) ≡ max d' (depth_clauses b)
            deepest b p q r = omega (arith, deeper)

        pub clauses-last : (j : List Terminal) (function : Function) → function_of function ≡ record { place = (first_of shape x.shape).place; vid_place = (first_of shape x.shape).vid_place; vid = (first_of shape x.shape).vid; clauses = map clause_of all' } →
            after_word res.Bar (left s o) ≡ None → length i ≤ length j → length y.rest < length i → Gave (λ (z : Function) r. IsFunction s n j z d' o r) function total
        clauses-last j function is sep le lt =
            let sep' : after_word res.Bar y.rest ≡ None = subst (λ (z : List Terminal). after_word res.Bar z ≡ None) same_exp.rest sep in
            let t = last_clause h.tree.head h.tree.ty y.tree in
            let one : clause_turn n (readers n).exp f (shape_from shape) i ≡ read (last (last_clause h.tree.head h.tree.ty y.tree)) y.rest = turn-is ∙ rw (is_exp, sep') refl in
            let k4 = same_heading.deep in let k5 = same_exp.deep in let q = g.deep (last_clause h.tree.head h.tree.ty y.tree) in let k6 = fit in
            let dd : d' ≡ depth_clauses (g.put (last_clause h.tree.head h.tree.ty y.tree)) = omega (arith, deeper) in
            let e1 = vid-of shape g.put (last_clause h.tree.head h.tree.ty y.tree) h.tree.head x.shape refl same_heading.vid g.vid in
            let e2 = place-of s.file shape g.put (last_clause h.tree.head h.tree.ty y.tree) h.tree.head x.shape refl same_heading.place g.place in
            let e4 = vid_place-of s.file shape g.put (last_clause h.tree.head h.tree.ty y.tree) h.tree.head x.shape refl same_heading.vid_place g.vid_place in
            let e3 : map clause_of all' ≡ clause_list s.file (g.put (last_clause h.tree.head h.tree.ty y.tree)) = items ∙ sym (g.shows (last_clause h.tree.head h.tree.ty y.tree)) in
            record {
              got = record { tree = g.put (last_clause h.tree.head h.tree.ty y.tree); rest = y.rest };
              is = going-last (clause_turn n (readers n).exp f) one g.going;
              same = record {
                rest = same_exp.rest;
                same = is ∙ rw (e1, e2, e3, e4) refl;
                deep = dd;
                fits = subst (λ (z : ℕ). z ≤ n) dd k6;
                shorter = omega arith;
              };
            }
