-- What was read of heads of clauses.
use Rattle.std.proofs.Common.{◌≡◌, ℕ, suc, ◌<◌, ◌≤◌, Option, Result, List, [], ◌∷◌, length, map, max, Some, None, true, false, refl, sym, ap, ◌∙◌, subst, arith}
use Rattle.std.proofs.lemmas.List.{length-map}
use Rattle.std.proofs.lemmas.Bool.{le-leb, lt-leb}
use Rattle.std.specs.Prelude.{nat_le}
use Rattle.mlc_names.specs.declared.token.Token.{Token}
use Rattle.sml_tree.specs.Terminal.{Terminal}
use Rattle.sml_tree.specs.BareTree as tree
use Rattle.sml_tree.specs.ReadTree as read_tree
use Rattle.sml_tree.specs.ReadTree.{Placed, Pats, vid_pat, no_pats, pat, pat_place, head_count, count_pats, Head, prefix_head, infix_head, bracket_head}
use Rattle.sml_tree.specs.Fixity.{Fixity}
use Rattle.sml_tree.specs.Bare.{at, bare_pat, pat_list, head_pats}
use Rattle.sml_tree.specs.Derived.{tuple_pat}
use Rattle.sml_tree.specs.Depth.{depth_pat}
use Rattle.sml_tree.specs.TreeOf.{pat_of}
use Rattle.sml_tree.specs.declared.ident.Vid.{Vid}
use Rattle.sml_tree.specs.declared.ident.Vid.TheVariants.{Named}
use Rattle.sml_tree.specs.declared.tree.Pat.{Pat}
use Rattle.sml_grammar.specs.Answer.{Read, Answer, ok, deep, read, then_read}
use Rattle.sml_grammar.specs.Terminals.{place_at, taken, infix_vid, binds_vid}
use Rattle.sml_grammar.specs.Patterns.{read_atpat, read_atpats, short_at, infix_rest, prefix_rest, bracket_rest, Bracketed, bracketed, pat_head, vid_head, read_head}
use Rattle.phrase_base.specs.declared.source.Source.{Source}
use Rattle.phrase_base.specs.declared.stop.Stop.{Stop}
use Rattle.sml_phrases.specs.declared.heads.Pair.{Pair}
use Rattle.sml_phrases.specs.declared.heads.Head as code
use Rattle.phrase_base.specs.declared.got.Got.{Got}
use Rattle.phrase_base.specs.Gives.{Fails, Gives}
use Rattle.phrase_base.specs.Left.{left}
use Rattle.sml_phrases.specs.PatternsRead.{IsPatAt, IsPats}
use Rattle.sml_phrases.specs.HeadsRead.{IsHead, IsPair}
use Rattle.phrase_base.proofs.Loop.{fails-then, fails-by}
use Rattle.sml_phrases.proofs.TypeForms.{Said, gives-by}

pats-count : (f : ℕ) (as_ : Pats) → length (pat_list f as_) ≡ count_pats as_
pats-count f no_pats = refl
pats-count f (pat a as_) = ap suc (pats-count f as_)

head-count : (f : ℕ) (h : Head) → length (head_pats f h) ≡ head_count h
head-count f (prefix_head p v a as_) = ap suc (pats-count f as_)
head-count f (infix_head a x b) = refl
head-count f (bracket_head p a x b as_) = ap suc (pats-count f as_)

pub counts : (f : ℕ) (h : Head) (ps : List Pat) → map pat_of ps ≡ head_pats f h → length ps ≡ head_count h
counts f h ps e = sym (length-map ps pat_of) ∙ ap (λ (z : List tree.Pat). length z) e ∙ head-count f h

module _ (s : Source) (f : Fixity) (n : ℕ) (i : List Terminal) (m : List Terminal) (fewer : length m < length i) (h : code.Head) (placed : h.place ≡ at s.file (place_at i)) where
  pub infix-said : (a : read_tree.Pat) (x : Placed ℕ) (first second : Pat) (d d2 d3 : ℕ) (o : List Token) (gb : Read read_tree.Pat) → pat_of first ≡ bare_pat s.file a → d ≡ depth_pat a → pat_place a ≡ place_at i → d ≤ n → h.vid_place ≡ at s.file x.place → h.vid ≡ Named x.it →
      map pat_of h.pats.items ≡ tuple_pat h.place (pat_of first ∷ pat_of second ∷ []) ∷ [] → read_atpat n f m ≡ ok gb → IsPatAt s f 1000 n m second d2 o gb → d3 ≡ max d d2 → Said (IsHead s n i h d3 o) (infix_rest n f a x m)
  infix-said a x first second d d2 d3 o gb e k p le vp v ps r is deepest =
      let one : infix_rest n f a x m ≡ read (infix_head a x gb.tree) gb.rest = rw r refl in
      let b : map pat_of h.pats.items ≡ head_pats s.file (infix_head a x gb.tree) = ps ∙ rw (placed, e, is.bare, p) refl in
      let q = is.depth in let ff = is.fits in let sh = is.shorter in
      record {
        got = record { tree = infix_head a x gb.tree; rest = gb.rest };
        is = one;
        same = record { rest = is.rest; place = placed ∙ ap (at s.file) (sym p); vid_place = vp; vid = v; bare = b; count = counts s.file (infix_head a x gb.tree) h.pats.items b; depth = omega arith; begins = p; fits = omega arith; shorter = omega arith };
      }

  pub prefix-said : (vid : Placed Vid) (a : Pat) (front : List Pat) (d d2 : ℕ) (o o2 : List Token) (ga : Read read_tree.Pat) (gs : Read Pats) → h.vid_place ≡ at s.file vid.place → h.vid ≡ vid.it → front ≡ a ∷ [] → read_atpat n f m ≡ ok ga → IsPatAt s f 1000 n m a d o ga → read_atpats n f (left s o) ≡ ok gs → IsPats s n (left s o) front d h.pats.items d2 o2 gs →
      Said (IsHead s n i h d2 o2) (prefix_rest n f (place_at i) vid m)
  prefix-said vid a front d d2 o o2 ga gs vp v fr r is r2 more =
      let r3 : read_atpats n f ga.rest ≡ ok gs = subst (λ (z : List Terminal). read_atpats n f z ≡ ok gs) is.rest r2 in
      let one : prefix_rest n f (place_at i) vid m ≡ read (prefix_head (place_at i) vid ga.tree gs.tree) gs.rest = rw (r, r3) refl in
      let b : map pat_of h.pats.items ≡ head_pats s.file (prefix_head (place_at i) vid ga.tree gs.tree) = more.bare ∙ rw (fr, is.bare) refl in
      let q = is.depth in let ff = is.fits in let sh = is.shorter in
      let q2 = more.depth in let ff2 = more.fits in let sh2 = more.shorter in let same_rest = ap (λ (z : List Terminal). length z) is.rest in
      record {
        got = record { tree = prefix_head (place_at i) vid ga.tree gs.tree; rest = gs.rest };
        is = one;
        same = record { rest = more.rest; place = placed; vid_place = vp; vid = v; bare = b; count = counts s.file (prefix_head (place_at i) vid ga.tree gs.tree) h.pats.items b; depth = omega arith; begins = refl; fits = omega arith; shorter = omega arith };
      }

  pub bracket-said : (pair : Pair) (b : Bracketed) (front : List Pat) (d d2 : ℕ) (o2 : List Token) (gs : Read Pats) → IsPair s pair i d b → d ≤ n → h.vid_place ≡ pair.vid_place → h.vid ≡ Named pair.vid → map pat_of front ≡ tuple_pat h.place (pat_of pair.left ∷ pat_of pair.right ∷ []) ∷ [] → read_atpats n f m ≡ ok gs → IsPats s n m front d h.pats.items d2 o2 gs →
      Said (IsHead s n i h d2 o2) (bracket_rest n f m (Some b))
  bracket-said pair b front d d2 o2 gs is le vp v fr r more =
      let one : bracket_rest n f m (Some b) ≡ read (bracket_head b.place b.left b.vid b.right gs.tree) gs.rest = rw r refl in
      let w : map pat_of h.pats.items ≡ head_pats s.file (bracket_head b.place b.left b.vid b.right gs.tree) = more.bare ∙ rw (fr, placed, is.left_is, is.right_is, is.place) refl in
      let q = is.depth in let q2 = more.depth in let ff2 = more.fits in let sh2 = more.shorter in
      record {
        got = record { tree = bracket_head b.place b.left b.vid b.right gs.tree; rest = gs.rest };
        is = one;
        same = record { rest = more.rest; place = placed ∙ ap (at s.file) (sym is.place); vid_place = vp ∙ is.vid_place; vid = v ∙ ap Named is.vid; bare = w; count = counts s.file (bracket_head b.place b.left b.vid b.right gs.tree) h.pats.items w; depth = omega arith; begins = is.place; fits = omega arith; shorter = omega arith };
      }

pub prefix-fails : (s : Source) (f : Fixity) (n : ℕ) (m : List Terminal) (p : ℕ) (v : Placed Vid) (a : Pat) (d : ℕ) (o : List Token) (e : Stop) (ga : Read read_tree.Pat) → read_atpat n f m ≡ ok ga → IsPatAt s f 1000 n m a d o ga → Fails e (read_atpats n f (left s o)) → Fails e (prefix_rest n f p v m)
prefix-fails s f n m p v a d o e ga r is h =
    fails-by e (prefix_rest n f p v m) (then_read (read_atpats n f ga.rest) (λ as_ o. read (prefix_head p v ga.tree as_) o)) (rw r refl)
    (fails-then e (read_atpats n f ga.rest) _ (subst (λ (z : List Terminal). Fails e (read_atpats n f z)) is.rest h))

pub head-by : (s : Source) (n : ℕ) (i : List Terminal) (r : Result (Got code.Head) Stop) (a b : Answer Head) → a ≡ b → Gives (λ (x : Got code.Head) (y : Read Head). IsHead s n i x.it x.depth x.rest.now y) r b → Gives (λ (x : Got code.Head) (y : Read Head). IsHead s n i x.it x.depth x.rest.now y) r a
head-by s n i r a b e h = gives-by (λ (x : Got code.Head) (y : Read Head). IsHead s n i x.it x.depth x.rest.now y) r a b e h

-- how a head goes on

pub head-named : (n : ℕ) (f : Fixity) (i m : List Terminal) (v : Placed Vid) → binds_vid f i ≡ taken v m → read_head n f i ≡ vid_head n f (place_at i) v m
head-named n f i m v h = rw h refl

pub head-fails : (n : ℕ) (f : Fixity) (i : List Terminal) (e : Stop) → binds_vid f i ≡ None → Fails e (read_atpat n f i) → Fails e (read_head n f i)
head-fails n f i e b h = fails-by e (read_head n f i) (then_read (read_atpat n f i) (pat_head n f)) (rw b refl) (fails-then e (read_atpat n f i) (pat_head n f) h)

head-pat : (n : ℕ) (f : Fixity) (i : List Terminal) (ga : Read read_tree.Pat) → binds_vid f i ≡ None → read_atpat n f i ≡ ok ga → read_head n f i ≡ pat_head n f ga.tree ga.rest
head-pat n f i ga b r = rw (b, r) refl

pub head-infix : (n : ℕ) (f : Fixity) (i k m : List Terminal) (ga : Read read_tree.Pat) (x : Placed ℕ) → binds_vid f i ≡ None → read_atpat n f i ≡ ok ga → k ≡ ga.rest → infix_vid f k ≡ taken x m → read_head n f i ≡ infix_rest n f ga.tree x m
head-infix n f i k m ga x b r e j =
    let j2 : infix_vid f ga.rest ≡ taken x m = subst (λ (z : List Terminal). infix_vid f z ≡ taken x m) e j in
    head-pat n f i ga b r ∙ rw j2 refl

pub head-bracket : (n : ℕ) (f : Fixity) (i k : List Terminal) (ga : Read read_tree.Pat) (z : Option Bracketed) → binds_vid f i ≡ None → read_atpat n f i ≡ ok ga → k ≡ ga.rest → infix_vid f k ≡ None → bracketed ga.tree ≡ z → read_head n f i ≡ bracket_rest n f k z
head-bracket n f i k ga z b r e j w =
    let j2 : infix_vid f ga.rest ≡ None = subst (λ (z : List Terminal). infix_vid f z ≡ None) e j in
    head-pat n f i ga b r ∙ rw (j2, w, e) refl

pub vid-infix : (n : ℕ) (f : Fixity) (m k : List Terminal) (p : ℕ) (v : Placed Vid) (x : Placed ℕ) → infix_vid f m ≡ taken x k → 1 ≤ n → vid_head n f p v m ≡ infix_rest n f (vid_pat p (short_at v)) x k
vid-infix n f m k p v x j le = let w : nat_le 1 n ≡ true = le-leb 1 n le in rw (j, w) refl

pub vid-deep : (n : ℕ) (f : Fixity) (m k : List Terminal) (p : ℕ) (v : Placed Vid) (x : Placed ℕ) → infix_vid f m ≡ taken x k → n < 1 → vid_head n f p v m ≡ deep
vid-deep n f m k p v x j lt = let w : nat_le 1 n ≡ false = lt-leb 1 n lt in rw (j, w) refl

pub vid-prefix : (n : ℕ) (f : Fixity) (m : List Terminal) (p : ℕ) (v : Placed Vid) → infix_vid f m ≡ None → vid_head n f p v m ≡ prefix_rest n f p v m
vid-prefix n f m p v j = rw j refl
