-- How patterns are read, form by form.
use Rattle.std.proofs.Common.{◌≡◌, ℕ, zero, suc, ◌<◌, ◌≤◌, ◌+◌, ◌-◌, List, [], ◌∷◌, length, max, Some, None, Bool, true, nat_le, refl, ap, ◌∙◌, subst, arith, Result, Ok, Err}
use Rattle.std.proofs.lemmas.Bool.{le-leb, lt-leb}
use Rattle.mlc_names.specs.declared.token.Token.{Token}
use Rattle.mlc_names.specs.declared.token.Reserved.TheVariants as res
use Rattle.sml_tree.specs.Terminal.{Terminal, LongVid, reserved, number, constant}
use Rattle.sml_tree.specs.ReadTree as read_tree
use Rattle.sml_tree.specs.ReadTree.{Placed}
use Rattle.sml_tree.specs.Fixity.{Fixity}
use Rattle.sml_tree.specs.Levels.{pat_level, vid_level, vid_right, infix_level}
use Rattle.sml_tree.specs.BareTree as tree
use Rattle.sml_tree.specs.Bare.{at}
use Rattle.sml_tree.specs.TreeOf.{pat_of, ty_of}
use Rattle.sml_tree.specs.declared.tree.Ty.{Ty}
use Rattle.sml_phrases.specs.TypesRead.{IsTy}
use Rattle.sml_tree.specs.Depth.{depth_pat}
use Rattle.sml_tree.specs.declared.ident.Vid.{Vid}
use Rattle.sml_tree.specs.declared.ident.Vid.TheVariants.{Named}
use Rattle.sml_tree.specs.declared.tree.Pat.{Pat}
use Rattle.sml_grammar.specs.Answer.{Read, Answer, ok, bad, deep, deep_if, read, then_read, last, more, whole}
use Rattle.sml_grammar.specs.Terminals.{no_state, short, word_then, place_at, first_as, as_constant, after_word, taken, names_vid, binds_vid, infix_vid}
use Rattle.sml_grammar.specs.Types.{read_ty}
use Rattle.sml_grammar.specs.Patterns.{pat_first, typed_form, paren_pat_in, pat_commas_turn, PatReader, PatReaders, read_pats, begins_pat, at_pat, pat_start, pat_form, plain_form, short_at, vid_form, vid_if, pat_suffix, pat_suffix_turn, whole_pat_parts}
use Rattle.phrase_base.specs.declared.got.Got.{Got}
use Rattle.phrase_base.specs.declared.source.Source.{Source}
use Rattle.phrase_base.specs.declared.stop.Stop.{Stop}
use Rattle.phrase_base.specs.declared.stop.Stop.TheVariants as stop
use Rattle.sml_phrases.specs.declared.patterns.Suffix.{Suffix}
use Rattle.sml_phrases.specs.declared.patterns.Suffix.TheVariants.{Colon, Joint}
use Rattle.phrase_base.specs.Gives.{Fails, Gives}
use Rattle.phrase_base.specs.Left.{left}
use Rattle.sml_phrases.specs.PatternsRead.{IsPat, IsPatAt, plain_pat_start, Suffixed, suffix_level, suffix_least, suffix_read}
use Rattle.phrase_base.proofs.Loop.{fails-then, fails-by, Going, going-start, going-more, going-last, going-fails}
use Rattle.sml_phrases.proofs.TypeForms.{Said, gives-by}
use Rattle.phrase_base.proofs.Shorter.{word-shorter}
use Rattle.sml_phrases.proofs.VidShorter.{names-shorter}

-- A pattern of depth 0, and of a greater one.

pub pat-zero : (n l : ℕ) (f : Fixity) (i : List Terminal) (b : Bool) → n ≡ 0 → begins_pat f i ≡ b → (read_pats n).pat f l i ≡ deep_if b
unfolding read_pats
pat-zero n l f i b e h = rw (e, h) refl

pub atpat-zero : (n : ℕ) (f : Fixity) (i : List Terminal) (b : Bool) → n ≡ 0 → begins_pat f i ≡ b → (read_pats n).atpat f i ≡ deep_if b
unfolding read_pats
atpat-zero n f i b e h = rw (e, h) refl

pub pat-one : (n l : ℕ) (f : Fixity) (i : List Terminal) → 0 < n → (read_pats n).pat f l i ≡ pat_form (read_pats (n - 1)) (n - 1) f l i
unfolding read_pats
pat-one zero l f i h = absurd (omega arith)
pat-one (suc n) l f i h = let e : suc n - 1 ≡ n = omega arith in rw e refl

pub atpat-one : (n : ℕ) (f : Fixity) (i : List Terminal) → 0 < n → (read_pats n).atpat f i ≡ at_pat (n - 1) (read_pats (n - 1)).pat f (pat_start f i)
unfolding read_pats
atpat-one zero f i h = absurd (omega arith)
atpat-one (suc n) f i h = let e : suc n - 1 ≡ n = omega arith in rw e refl

form-high : (self : PatReaders) (n : ℕ) (f : Fixity) (l : ℕ) (i : List Terminal) → 0 < l → pat_form self n f l i ≡ plain_form self n f l i
form-high self n f zero i h = absurd (omega arith)
form-high self n f (suc l) i h = refl

pub high-gives : (n l : ℕ) (f : Fixity) (i : List Terminal) → 0 < n → 0 < l → (read_pats n).pat f l i ≡ plain_form (read_pats (n - 1)) (n - 1) f l i
high-gives n l f i h k = pat-one n l f i h ∙ form-high (read_pats (n - 1)) (n - 1) f l i k

pub vid-gives : (n l : ℕ) (f : Fixity) (i : List Terminal) (v : Placed Vid) (m : List Terminal) → 0 < n → l ≤ 0 → binds_vid f i ≡ taken v m → (read_pats n).pat f l i ≡ vid_form (read_pats (n - 1)) (n - 1) f i v m
vid-gives n l f i v m h k b = let e : l ≡ 0 = omega arith in pat-one n l f i h ∙ rw (e, b) refl

pub none-gives : (n l : ℕ) (f : Fixity) (i : List Terminal) → 0 < n → l ≤ 0 → binds_vid f i ≡ None → (read_pats n).pat f l i ≡ plain_form (read_pats (n - 1)) (n - 1) f l i
none-gives n l f i h k b = let e : l ≡ 0 = omega arith in pat-one n l f i h ∙ rw (e, b) refl

-- a result at the depth of n, where one less and one more were spoken of
pub pat-gives : (s : Source) (n : ℕ) (i : List Terminal) (r : Result (Got Pat) Stop) (a b : Answer read_tree.Pat) → 0 < n → a ≡ b → Gives (λ (x : Got Pat) (y : Read read_tree.Pat). IsPat s (n - 1 + 1) i x.it x.depth x.rest.now y) r b → Gives (λ (x : Got Pat) (y : Read read_tree.Pat). IsPat s n i x.it x.depth x.rest.now y) r a
pat-gives s n i r a b pos e h =
    let q : n - 1 + 1 ≡ n = omega arith in
    gives-by (λ (x : Got Pat) (y : Read read_tree.Pat). IsPat s n i x.it x.depth x.rest.now y) r a b e
    (subst (λ (k : ℕ). Gives (λ (x : Got Pat) (y : Read read_tree.Pat). IsPat s k i x.it x.depth x.rest.now y) r b) q h)

pub atpat-gives : (s : Source) (f : Fixity) (n : ℕ) (i : List Terminal) (r : Result (Got Pat) Stop) (a b : Answer read_tree.Pat) → 0 < n → a ≡ b → Gives (λ (x : Got Pat) (y : Read read_tree.Pat). IsPatAt s f 1000 (n - 1 + 1) i x.it x.depth x.rest.now y) r b → Gives (λ (x : Got Pat) (y : Read read_tree.Pat). IsPatAt s f 1000 n i x.it x.depth x.rest.now y) r a
atpat-gives s f n i r a b pos e h =
    let q : n - 1 + 1 ≡ n = omega arith in
    gives-by (λ (x : Got Pat) (y : Read read_tree.Pat). IsPatAt s f 1000 n i x.it x.depth x.rest.now y) r a b e
    (subst (λ (k : ℕ). Gives (λ (x : Got Pat) (y : Read read_tree.Pat). IsPatAt s f 1000 k i x.it x.depth x.rest.now y) r b) q h)

-- What an atomic pattern begins with.

pub pat-plain-start : (f : Fixity) (i : List Terminal) → after_word res.LeftBrace i ≡ None → after_word res.LeftParen i ≡ None → after_word res.LeftBracket i ≡ None → pat_start f i ≡ plain_pat_start f i
pat-plain-start f (reserved p res.LeftBrace ∷ m) a b c = absurd (cc)
pat-plain-start f (reserved p res.LeftParen ∷ m) a b c = absurd (cc)
pat-plain-start f (reserved p res.LeftBracket ∷ m) a b c = absurd (cc)
pat-plain-start f _ a b c = refl

pub plain-vid-start : (f : Fixity) (i : List Terminal) → after_word res.Underscore i ≡ None → first_as as_constant i ≡ None → plain_pat_start f i ≡ vid_if (place_at i) (names_vid f i)
plain-vid-start f (reserved p res.Underscore ∷ m) a b = absurd (cc)
plain-vid-start f (number p n plain ∷ m) a b = absurd (cc)
plain-vid-start f (constant p k ∷ m) a b = absurd (cc)
plain-vid-start f _ a b = refl

pub wild-gives : (f : Fixity) (i o : List Terminal) (n : ℕ) (self : PatReader) → after_word res.Underscore i ≡ Some o → at_pat n self f (plain_pat_start f i) ≡ read (read_tree.wild_pat (place_at i)) o
wild-gives f [] o n self h = absurd (cc)
wild-gives f (reserved p res.Underscore ∷ m) o n self h = let q : m ≡ o = cc in ap (λ (z : List Terminal). read (read_tree.wild_pat p) z) q
wild-gives f (reserved p w ∷ m) o n self h = absurd (cc)
wild-gives f (t ∷ m) o n self h = absurd (cc)

pub plain-pat-gives : (s : Source) (n : ℕ) (f : Fixity) (i : List Terminal) (r : Result (Got Pat) Stop) (self : PatReader) → pat_start f i ≡ plain_pat_start f i → Gives (λ (x : Got Pat) (r : Read read_tree.Pat). IsPatAt s f 1000 1 i x.it x.depth x.rest.now r) r (at_pat n self f (plain_pat_start f i)) →
    Gives (λ (x : Got Pat) (r : Read read_tree.Pat). IsPatAt s f 1000 (n + 1) i x.it x.depth x.rest.now r) r (at_pat n self f (pat_start f i))
plain-pat-gives s n f i (Ok x) self e g =
    let h = g.same in let q = h.fits in
    record { got = g.got; is = ap (at_pat n self f) e ∙ g.is; same = record { rest = h.rest; bare = h.bare; depth = h.depth; place = h.place; fits = omega arith; shorter = h.shorter; level = h.level } }
plain-pat-gives s n f i (Err e) self p q = fails-by e (at_pat n self f (pat_start f i)) (at_pat n self f (plain_pat_start f i)) (ap (at_pat n self f) p) q

-- What goes on with a pattern.

pub record Seeking (s : Source) (f : Fixity) (self : PatReader) (n least : ℕ) (i : List Terminal) (p : Pat) (d high : ℕ) (o : List Token) (total : Answer read_tree.Pat) : Type 0 where
  pub it : Read read_tree.Pat
  pub is : IsPatAt s f high (n + 1) i p d o it
  pub going : Going (pat_suffix_turn self n f least) it.tree it.rest (λ b. b) total

module _ (s : Source) (f : Fixity) (self : PatReader) (n least : ℕ) (i : List Terminal) (p : Pat) (d high : ℕ) (o : List Token) where
  module _ (total : Answer read_tree.Pat) (g : Seeking s f self n least i p d high o total) where
    as-pat : IsPat s (n + 1) i p d o g.it
    as-pat = record { rest = g.is.rest; bare = g.is.bare; depth = g.is.depth; place = g.is.place; fits = g.is.fits; shorter = g.is.shorter }

    at-rest : {B : Type 0} (k : List Terminal → B) (b : B) → k (left s o) ≡ b → k g.it.rest ≡ b
    at-rest {B} k b h = subst (λ (z : List Terminal). k z ≡ b) g.is.rest h

    pub seeking-none : infix_vid f (left s o) ≡ None → after_word res.Colon (left s o) ≡ None → Said (IsPat s (n + 1) i p d o) total
    seeking-none h k =
        let h1 = at-rest (infix_vid f) None h in let k1 = at-rest (after_word res.Colon) None k in
        let one : pat_suffix_turn self n f least g.it.tree g.it.rest ≡ read (last g.it.tree) g.it.rest = rw (h1, k1) refl in
        record { got = g.it; is = going-last (pat_suffix_turn self n f least) one g.going; same = as-pat }

    turn-low : (x : Suffix) (m : List Terminal) → Suffixed f (left s o) x m → suffix_level x < least → pat_suffix_turn self n f least g.it.tree g.it.rest ≡ read (last g.it.tree) g.it.rest
    turn-low Colon m h lt = let h1 = at-rest (infix_vid f) None h.0 in let k1 = at-rest (after_word res.Colon) (Some m) h.1 in let w = lt-leb least 5 lt in rw (h1, k1, w) refl
    turn-low (Joint x how) m h lt =
        let h1 = at-rest (infix_vid f) (taken (record { place = place_at (left s o); it = x }) m) h.0 in
        let e : vid_level f (Named x) ≡ infix_level (Some how) = ap infix_level h.1 in
        let w = lt-leb least (infix_level (Some how)) lt in rw (h1, e, w) refl

    pub seeking-low : (x : Suffix) (m : List Terminal) → Suffixed f (left s o) x m → suffix_level x < least → Said (IsPat s (n + 1) i p d o) total
    seeking-low x m h lt = record { got = g.it; is = going-last (pat_suffix_turn self n f least) (turn-low x m h lt) g.going; same = as-pat }

    turn-bad : (x : Suffix) (m : List Terminal) → Suffixed f (left s o) x m → least ≤ suffix_level x → high < suffix_least x → pat_suffix_turn self n f least g.it.tree g.it.rest ≡ bad
    turn-bad Colon m h le lt =
        let h1 = at-rest (infix_vid f) None h.0 in let k1 = at-rest (after_word res.Colon) (Some m) h.1 in let q = g.is.level in
        let w = le-leb least 5 le in let v = lt-leb 5 (pat_level f g.it.tree) (omega arith) in rw (h1, k1, w, v) refl
    turn-bad (Joint x how) m h le lt =
        let h1 = at-rest (infix_vid f) (taken (record { place = place_at (left s o); it = x }) m) h.0 in
        let e : vid_level f (Named x) ≡ infix_level (Some how) = ap infix_level h.1 in let q = g.is.level in
        let w = le-leb least (infix_level (Some how)) le in let v = lt-leb (suc (infix_level (Some how))) (pat_level f g.it.tree) (omega arith) in rw (h1, e, w, v) refl

    pub seeking-bad : (x : Suffix) (m : List Terminal) → Suffixed f (left s o) x m → least ≤ suffix_level x → high < suffix_least x → total ≡ bad
    seeking-bad x m h le lt = going-fails (pat_suffix_turn self n f least) (stop.Bad 0) (turn-bad x m h le lt) g.going

    turn-deep : (x : Suffix) (m : List Terminal) → Suffixed f (left s o) x m → least ≤ suffix_level x → suffix_least x ≤ high → n < d → pat_suffix_turn self n f least g.it.tree g.it.rest ≡ deep
    turn-deep Colon m h le lt dd =
        let h1 = at-rest (infix_vid f) None h.0 in let k1 = at-rest (after_word res.Colon) (Some m) h.1 in let q = g.is.level in let r = g.is.depth in
        let w = le-leb least 5 le in let v = le-leb 5 (pat_level f g.it.tree) (omega arith) in let u = lt-leb (depth_pat g.it.tree) n (omega arith) in rw (h1, k1, w, v, u) refl
    turn-deep (Joint x how) m h le lt dd =
        let h1 = at-rest (infix_vid f) (taken (record { place = place_at (left s o); it = x }) m) h.0 in
        let e : vid_level f (Named x) ≡ infix_level (Some how) = ap infix_level h.1 in let q = g.is.level in let r = g.is.depth in
        let w = le-leb least (infix_level (Some how)) le in let v = le-leb (suc (infix_level (Some how))) (pat_level f g.it.tree) (omega arith) in let u = lt-leb (depth_pat g.it.tree) n (omega arith) in rw (h1, e, w, v, u) refl

    pub seeking-deep : (x : Suffix) (m : List Terminal) → Suffixed f (left s o) x m → least ≤ suffix_level x → suffix_least x ≤ high → n < d → total ≡ deep
    seeking-deep x m h le lt dd = going-fails (pat_suffix_turn self n f least) (stop.Deep 0) (turn-deep x m h le lt dd) g.going

    step-then : {A : Type 0} (a : Answer A) (c : A → read_tree.Pat) → then_read a (λ t k. read (more (λ (b : read_tree.Pat). b) (c t)) k) ≡ then_read (then_read a (λ t k. read (c t) k)) (λ b k. read (more (λ (b : read_tree.Pat). b) b) k)
    step-then (ok r) c = refl
    step-then bad c = refl
    step-then deep c = refl

    turn-goes : (x : Suffix) (m : List Terminal) → Suffixed f (left s o) x m → least ≤ suffix_level x → suffix_least x ≤ high → d ≤ n →
        pat_suffix_turn self n f least g.it.tree g.it.rest ≡ then_read (suffix_read self n f g.it.tree (place_at (left s o)) x m) (λ b k. read (more (λ (b : read_tree.Pat). b) b) k)
    turn-goes Colon m h le lt dd =
        let h1 = at-rest (infix_vid f) None h.0 in let k1 = at-rest (after_word res.Colon) (Some m) h.1 in let q = g.is.level in let r = g.is.depth in
        let w = le-leb least 5 le in let v = le-leb 5 (pat_level f g.it.tree) (omega arith) in let u = le-leb (depth_pat g.it.tree) n (omega arith) in
        rw (h1, k1, w, v, u) (step-then (read_ty n 0 m) (read_tree.typed_pat g.it.tree))
    turn-goes (Joint x how) m h le lt dd =
        let h1 = at-rest (infix_vid f) (taken (record { place = place_at (left s o); it = x }) m) h.0 in
        let e : vid_level f (Named x) ≡ infix_level (Some how) = ap infix_level h.1 in let q = g.is.level in let r = g.is.depth in
        let w : nat_le least (vid_level f (Named x)) ≡ true = le-leb least (vid_level f (Named x)) (omega arith) in let v : nat_le (suc (vid_level f (Named x))) (pat_level f g.it.tree) ≡ true = le-leb (suc (vid_level f (Named x))) (pat_level f g.it.tree) (omega arith) in let u = le-leb (depth_pat g.it.tree) n (omega arith) in
        rw (h1, w, v, u) (step-then (whole_pat_parts self f (record { place = place_at (left s o); it = x }) m) (read_tree.chain_pat (vid_right f (Named x)) g.it.tree))

    pub seeking-fails : (e : Stop) (x : Suffix) (m : List Terminal) → Suffixed f (left s o) x m → least ≤ suffix_level x → suffix_least x ≤ high → d ≤ n → Fails e (suffix_read self n f g.it.tree (place_at (left s o)) x m) → Fails e total
    seeking-fails e x m h le lt dd fs =
        going-fails (pat_suffix_turn self n f least) e (fails-by e (pat_suffix_turn self n f least g.it.tree g.it.rest) _ (turn-goes x m h le lt dd) (fails-then e (suffix_read self n f g.it.tree (place_at (left s o)) x m) _ fs)) g.going

    pub seeking-more : (x : Suffix) (m : List Terminal) (b : Read read_tree.Pat) (p2 : Pat) (d2 : ℕ) (o2 : List Token) → Suffixed f (left s o) x m → least ≤ suffix_level x → suffix_least x ≤ high → d ≤ n → suffix_read self n f g.it.tree (place_at (left s o)) x m ≡ ok b →
        IsPatAt s f (suffix_level x) (n + 1) i p2 d2 o2 b → length (left s o2) < length (left s o) → Seeking s f self n least i p2 d2 (suffix_level x) o2 total
    seeking-more x m b p2 d2 o2 h le lt dd w is sh =
        let one : pat_suffix_turn self n f least g.it.tree g.it.rest ≡ read (more (λ (b : read_tree.Pat). b) b.tree) b.rest = turn-goes x m h le lt dd ∙ ap (λ (z : Answer read_tree.Pat). then_read z (λ b k. read (more (λ (b : read_tree.Pat). b) b) k)) w in
        let e1 = ap (λ (z : List Terminal). length z) g.is.rest in let e2 = ap (λ (z : List Terminal). length z) is.rest in
        record { it = b; is = is; going = going-more (pat_suffix_turn self n f least) one (omega arith) g.going }

-- Atomic patterns of one terminal.

pub wild-said : (s : Source) (f : Fixity) (i : List Terminal) (o : List Token) (p : Pat) (n : ℕ) (self : PatReader) → after_word res.Underscore i ≡ Some (left s o) → pat_of p ≡ tree.wild_pat (at s.file (place_at i)) → Said (IsPatAt s f 1000 1 i p 1 o) (at_pat n self f (plain_pat_start f i))
wild-said s f i o p n self h b = record { got = record { tree = read_tree.wild_pat (place_at i); rest = left s o }; is = wild-gives f i (left s o) n self h; same = record { rest = refl; bare = b; depth = refl; place = refl; fits = omega arith; shorter = word-shorter res.Underscore i (left s o) h; level = refl } }

pub vid-said : (s : Source) (f : Fixity) (i : List Terminal) (o : List Token) (p : Pat) (x : Placed LongVid) (n : ℕ) (self : PatReader) → after_word res.Underscore i ≡ None → first_as as_constant i ≡ None → names_vid f i ≡ taken x (left s o) → pat_of p ≡ tree.vid_pat (at s.file x.place) x.it → Said (IsPatAt s f 1000 1 i p 1 o) (at_pat n self f (plain_pat_start f i))
vid-said s f i o p x n self u c h b =
    let one : at_pat n self f (plain_pat_start f i) ≡ read (read_tree.vid_pat (place_at i) x) (left s o) = ap (at_pat n self f) (plain-vid-start f i u c ∙ ap (vid_if (place_at i)) h) in
    record { got = record { tree = read_tree.vid_pat (place_at i) x; rest = left s o }; is = one; same = record { rest = refl; bare = b; depth = refl; place = refl; fits = omega arith; shorter = names-shorter f i x (left s o) h; level = refl } }

-- Forms that go on as another form.

pub pat-by : (s : Source) (n : ℕ) (i : List Terminal) (r : Result (Got Pat) Stop) (a b : Answer read_tree.Pat) → a ≡ b → Gives (λ (x : Got Pat) (y : Read read_tree.Pat). IsPat s n i x.it x.depth x.rest.now y) r b → Gives (λ (x : Got Pat) (y : Read read_tree.Pat). IsPat s n i x.it x.depth x.rest.now y) r a
pat-by s n i r a b e h = gives-by (λ (x : Got Pat) (y : Read read_tree.Pat). IsPat s n i x.it x.depth x.rest.now y) r a b e h

pub patat-by : (s : Source) (f : Fixity) (l n : ℕ) (i : List Terminal) (r : Result (Got Pat) Stop) (a b : Answer read_tree.Pat) → a ≡ b → Gives (λ (x : Got Pat) (y : Read read_tree.Pat). IsPatAt s f l n i x.it x.depth x.rest.now y) r b → Gives (λ (x : Got Pat) (y : Read read_tree.Pat). IsPatAt s f l n i x.it x.depth x.rest.now y) r a
patat-by s f l n i r a b e h = gives-by (λ (x : Got Pat) (y : Read read_tree.Pat). IsPatAt s f l n i x.it x.depth x.rest.now y) r a b e h

pub vid-as : (self : PatReaders) (n : ℕ) (f : Fixity) (i : List Terminal) (v : Placed Vid) (m k : List Terminal) → after_word res.As m ≡ Some k → vid_form self n f i v m ≡ then_read (self.pat f 0 k) (λ a o. read (read_tree.as_pat (place_at i) v None a) o)
vid-as self n f i v m k h = rw h refl

pub typed-as : (s : Source) (self : PatReaders) (n : ℕ) (f : Fixity) (p : ℕ) (v : Placed Vid) (m k : List Terminal) (o : List Token) (t : Read read_tree.Ty) → 1 ≤ n → read_ty n 0 m ≡ ok t → left s o ≡ t.rest → after_word res.As (left s o) ≡ Some k → typed_form self n f p v m ≡ then_read (self.pat f 0 k) (λ a o. read (read_tree.as_pat p v (Some t.tree) a) o)
typed-as s self n f p v m k o t le h r q =
    let w = le-leb 1 n le in let q' : after_word res.As t.rest ≡ Some k = subst (λ (z : List Terminal). after_word res.As z ≡ Some k) r q in rw (w, h, q') refl

pub typed-else : (s : Source) (self : PatReaders) (n : ℕ) (f : Fixity) (p : ℕ) (v : Placed Vid) (m : List Terminal) (o : List Token) (t : Read read_tree.Ty) → 1 ≤ n → read_ty n 0 m ≡ ok t → left s o ≡ t.rest → after_word res.As (left s o) ≡ None → typed_form self n f p v m ≡ pat_suffix self.pat n f 0 (read_tree.typed_pat (read_tree.vid_pat p (short_at v)) t.tree) t.rest
typed-else s self n f p v m o t le h r q =
    let w = le-leb 1 n le in let q' : after_word res.As t.rest ≡ None = subst (λ (z : List Terminal). after_word res.As z ≡ None) r q in rw (w, h, q') refl

pub plain-first : (self : PatReaders) (n : ℕ) (f : Fixity) (l : ℕ) (i : List Terminal) (a : Read read_tree.Pat) → pat_first self n f i ≡ ok a → plain_form self n f l i ≡ pat_suffix self.pat n f l a.tree a.rest
plain-first self n f l i a h = rw h refl

pub paren-comma-pat : (s : Source) (self : PatReader) (f : Fixity) (p : ℕ) (k m : List Terminal) (o : List Token) (a : Read read_tree.Pat) → after_word res.RightParen k ≡ None → self f 0 k ≡ ok a → left s o ≡ a.rest → after_word res.Comma (left s o) ≡ Some m →
    paren_pat_in self f p k ≡ then_read (whole (pat_commas_turn self f) no_state m) (λ as_ k. word_then res.RightParen (λ o. read (read_tree.tuple_pat p (read_tree.pat a.tree as_)) o) k)
paren-comma-pat s self f p k m o a u h r q = let q' : after_word res.Comma a.rest ≡ Some m = subst (λ (z : List Terminal). after_word res.Comma z ≡ Some m) r q in rw (u, h, q') refl

-- `v : t`, of level 5
pub typed-is : (s : Source) (f : Fixity) (n : ℕ) (i m : List Terminal) (p : Pat) (v : Placed Vid) (ty : Ty) (d : ℕ) (o : List Token) (t : Read read_tree.Ty) → 1 ≤ n → IsTy s n m ty d o t → length m < length i → pat_of p ≡ tree.typed_pat (at s.file (place_at i)) (tree.vid_pat (at s.file v.place) (short v.it)) (ty_of ty) →
    IsPatAt s f 5 (n + 1) i p (max d 1 + 1) o (record { tree = read_tree.typed_pat (read_tree.vid_pat (place_at i) (short_at v)) t.tree; rest = t.rest })
typed-is s f n i m p v ty d o t le is lt b =
    let e = is.depth in let ff = is.fits in let sh = is.shorter in
    record { rest = is.rest; bare = b ∙ ap (tree.typed_pat (at s.file (place_at i)) (tree.vid_pat (at s.file v.place) (short v.it))) is.bare; depth = omega arith; place = refl; fits = omega arith; shorter = omega arith; level = refl }

-- a constructor before its argument
pub con-said : (s : Source) (n : ℕ) (f : Fixity) (i : List Terminal) (p a : Pat) (x : Placed LongVid) (d : ℕ) (o o2 : List Token) (got : Read read_tree.Pat) → names_vid f i ≡ taken x (left s o) → begins_pat f (left s o) ≡ true → (read_pats n).atpat f (left s o) ≡ ok got → IsPatAt s f 1000 n (left s o) a d o2 got →
    pat_of p ≡ tree.con_pat (at s.file (place_at i)) (at s.file x.place) x.it (pat_of a) → Said (IsPatAt s f 1000 (n + 1) i p (d + 1) o2) (pat_first (read_pats n) n f i)
con-said s n f i p a x d o o2 got h b r is e =
    let one : pat_first (read_pats n) n f i ≡ read (read_tree.con_pat (place_at i) x got.tree) got.rest = rw (h, b, r) refl in
    let k = is.depth in let ff = is.fits in let sh = is.shorter in let sh2 = names-shorter f i x (left s o) h in
    record {
      got = record { tree = read_tree.con_pat (place_at i) x got.tree; rest = got.rest };
      is = one;
      same = record { rest = is.rest; bare = e ∙ ap (tree.con_pat (at s.file (place_at i)) (at s.file x.place) x.it) is.bare; depth = omega arith; place = refl; fits = omega arith; shorter = omega arith; level = refl };
    }
