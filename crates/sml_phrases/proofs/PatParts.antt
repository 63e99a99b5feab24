-- The operands of chains.
use Rattle.std.proofs.Common.{◌≡◌, ℕ, suc, ◌<◌, ◌≤◌, List, [], ◌∷◌, ◌++◌, length, map, max, Bool, true, false, nat_eq, Some, None, Option, refl, sym, ap, ◌∙◌, subst, arith, if◌then◌else◌}
use Rattle.std.proofs.lemmas.List.{map_push}
use Rattle.std.proofs.lemmas.Bool.{eq-eqb, ne_eqb}
use mathlib.Core.Bool.{not, beq}
use Rattle.mlc_base.specs.declared.place.Place.{Place}
use Rattle.mlc_names.specs.declared.token.Token.{Token}
use Rattle.sml_tree.specs.Terminal.{Terminal}
use Rattle.sml_tree.specs.BareTree as tree
use Rattle.sml_tree.specs.ReadTree as read_tree
use Rattle.sml_tree.specs.ReadTree.{PatParts, last_pat_part, pat_part, Placed, pat_place}
use Rattle.sml_tree.specs.Fixity.{Fixity, fix_of}
use Rattle.sml_tree.specs.Levels.{infix_level, infix_right, vid_level, vid_right, pat_parts_level}
use Rattle.sml_tree.specs.Bare.{bare_pat, pat_operands, at, vid_at}
use Rattle.sml_tree.specs.Depth.{depth_pat, depth_pat_parts}
use Rattle.sml_tree.specs.Derived.{Operand, VidAt}
use Rattle.sml_tree.specs.TreeOf.{pat_of, pat_part_of}
use Rattle.sml_tree.specs.declared.ident.Vid.TheVariants.{Named}
use Rattle.sml_tree.specs.declared.fixity.Infix.{Infix}
use Rattle.sml_tree.specs.declared.tree.Pat.{Pat}
use Rattle.sml_tree.specs.declared.tree.PatPart.{PatPart}
use Rattle.sml_grammar.specs.Answer.{Read, Answer, ok, bad, deep, read, then_read, Turn, last, more, many, after_turn}
use Rattle.sml_grammar.specs.Terminals.{place_at, Taken, taken, infix_vid}
use Rattle.sml_grammar.specs.Patterns.{PatReader, read_pats, pat_part_turn, pat_part_next, whole_pat_parts, same}
use Rattle.phrase_base.specs.declared.source.Source.{Source}
use Rattle.phrase_base.specs.declared.stop.Stop.{Stop}
use Rattle.phrase_base.specs.declared.stop.Stop.TheVariants as stop
use Rattle.phrase_base.specs.Gives.{Fails}
use Rattle.phrase_base.specs.Left.{left}
use Rattle.sml_phrases.specs.PatternsRead.{IsPat, IsPatParts}
use Rattle.phrase_base.proofs.Loop.{fails-then}
use Rattle.phrase_base.proofs.Listing.{Listing, listing-start, listing-more, listing-last, listing-fails, listing-at}
use Rattle.sml_phrases.proofs.Rolls.{pat_part-of}
use Rattle.sml_phrases.proofs.TypeForms.{Said}

same-true : (a b : Bool) → a ≡ b → same a b ≡ true
same-true true b e = sym e
same-true false true e = absurd (cc)
same-true false false e = refl

same-false : (a b : Bool) → (a ≡ b → ⊥) → same a b ≡ false
same-false true true h = absurd (h refl)
same-false true false h = refl
same-false false true h = refl
same-false false false h = absurd (h refl)

pub differ : (a b : Bool) → not (beq a b) ≡ true → a ≡ b → ⊥
differ true true h e = absurd (cc)
differ true false h e = absurd (cc)
differ false true h e = absurd (cc)
differ false false h e = absurd (cc)

pub agree : (a b : Bool) → not (beq a b) ≡ false → a ≡ b
agree true true h = refl
agree true false h = absurd (cc)
agree false true h = absurd (cc)
agree false false h = refl

-- the first joint gives the level of all
pub parts-level : (self : PatReader) (f : Fixity) (x : Placed ℕ) (m : List Terminal) (ps : Read PatParts) → whole_pat_parts self f x m ≡ ok ps → pat_parts_level f ps.tree ≡ vid_level f (Named x.it)
unfolding many
parts-level self f x m ps h = go (pat_part_turn self f (vid_level f (Named x.it)) (vid_right f (Named x.it)) x m) refl h
  where
    level_in : Answer PatParts → ℕ
    level_in (ok r) = pat_parts_level f r.tree
    level_in bad = vid_level f (Named x.it)
    level_in deep = vid_level f (Named x.it)

    put : (a : Answer PatParts) (b : read_tree.Pat) → level_in (then_read a (λ ps o. read (pat_part x b ps) o)) ≡ vid_level f (Named x.it)
    put (ok r) b = refl
    put bad b = refl
    put deep b = refl

    next : (g : Placed ℕ → List Terminal → Answer PatParts) (b : read_tree.Pat) (o : List Terminal) (y : Option (Taken (Placed ℕ))) → level_in (then_read (pat_part_next f (vid_level f (Named x.it)) (vid_right f (Named x.it)) x b o y) (after_turn g)) ≡ vid_level f (Named x.it)
    next g b o None = refl
    next g b o (Some y) = pick (nat_eq (vid_level f (Named y.it.it)) (vid_level f (Named x.it))) (same (vid_right f (Named y.it.it)) (vid_right f (Named x.it)))
      where
        pick : (p q : Bool) → level_in (then_read (if p then (if q then read (more (pat_part x b) y.it) y.rest else bad) else read (last (last_pat_part x b)) o) (after_turn g)) ≡ vid_level f (Named x.it)
        pick true true = put (g y.it y.rest) b
        pick true false = refl
        pick false q = refl

    whole-level : (a : Answer read_tree.Pat) (g : Placed ℕ → List Terminal → Answer PatParts) → level_in (then_read (then_read a (λ b o. pat_part_next f (vid_level f (Named x.it)) (vid_right f (Named x.it)) x b o (infix_vid f o))) (after_turn g)) ≡ vid_level f (Named x.it)
    whole-level (ok r) g = next g r.tree r.rest (infix_vid f r.rest)
    whole-level bad g = refl
    whole-level deep g = refl

    go : (a : Answer (Turn PatParts (Placed ℕ))) → pat_part_turn self f (vid_level f (Named x.it)) (vid_right f (Named x.it)) x m ≡ a → whole_pat_parts self f x m ≡ ok ps → pat_parts_level f ps.tree ≡ vid_level f (Named x.it)
    go a q e = sym (ap level_in e) ∙ whole-level (self f (suc (vid_level f (Named x.it))) m) (many (pat_part_turn self f (vid_level f (Named x.it)) (vid_right f (Named x.it))) (length m))

-- The loop.

pub record PatPartsGoing (s : Source) (f : Fixity) (n level : ℕ) (right : Bool) (vid_place : ℕ) (vid : ℕ) (i : List Terminal) (all : List PatPart) (d : ℕ) (total : Answer PatParts) : Type 0 where
  pub lists : Listing (pat_part_turn (read_pats n).pat f level right) (record { place = vid_place; it = vid }) i (pat_operands s.file) depth_pat_parts n [] 0 (map pat_part_of all) d total

module _ (s : Source) (f : Fixity) (n : ℕ) (how : Infix) where
  pub parts-start : (p v : ℕ) (i : List Terminal) (all : List PatPart) → fix_of (Named v) f ≡ Some how → all ≡ [] → PatPartsGoing s f n (infix_level (Some how)) how.right p v i all 0 (whole_pat_parts (read_pats n).pat f (record { place = p; it = v }) i)
  parts-start p v i all b e =
      let l : vid_level f (Named v) ≡ infix_level (Some how) = ap infix_level b in let r : vid_right f (Named v) ≡ how.right = ap infix_right b in
      let g0 = listing-start (pat_part_turn (read_pats n).pat f (vid_level f (Named v)) (vid_right f (Named v))) (pat_operands s.file) depth_pat_parts n [] 0 (record { place = p; it = v }) i (omega arith) in
      let T = whole_pat_parts (read_pats n).pat f (record { place = p; it = v }) i in
      let g1 = subst (λ (k : ℕ). Listing (pat_part_turn (read_pats n).pat f k (vid_right f (Named v))) (record { place = p; it = v }) i (pat_operands s.file) depth_pat_parts n [] 0 [] 0 T) l g0 in
      let g2 = subst (λ (q : Bool). Listing (pat_part_turn (read_pats n).pat f (infix_level (Some how)) q) (record { place = p; it = v }) i (pat_operands s.file) depth_pat_parts n [] 0 [] 0 T) r g1 in
      record { lists = listing-at (pat_part_turn (read_pats n).pat f (infix_level (Some how)) how.right) (pat_operands s.file) depth_pat_parts n [] 0 (ap (map pat_part_of) e) refl g2 }

  module _ (p v : ℕ) (i : List Terminal) (all : List PatPart) (d : ℕ) (total : Answer PatParts) (g : PatPartsGoing s f n (infix_level (Some how)) how.right p v i all d total) where
    pub parts-fail : (e : Stop) → Fails e ((read_pats n).pat f (suc (infix_level (Some how))) i) → Fails e total
    parts-fail e h = listing-fails (pat_part_turn (read_pats n).pat f (infix_level (Some how)) how.right) (pat_operands s.file) depth_pat_parts n [] 0 e (fails-then e ((read_pats n).pat f (suc (infix_level (Some how))) i) _ h) g.lists

    module _ (all2 : List PatPart) (d2 : ℕ) (t : PatPart) (a : Pat) (e : ℕ) (o : List Token) (got : Read read_tree.Pat) (pushed : all2 ≡ all ++ t ∷ []) (deepest : d2 ≡ max e d)
        (part : pat_part_of t ≡ record { joint = record { place = at s.file p; vid = Named v }; place = at s.file (place_at i); operand = pat_of a })
        (h : (read_pats n).pat f (suc (infix_level (Some how))) i ≡ ok got) (is : IsPat s n i a e o got) where
      abbrev operand : Operand VidAt tree.Pat
      operand = record { joint = vid_at s.file (record { place = p; it = v }); place = at s.file (pat_place got.tree); operand = bare_pat s.file got.tree }

      parts-list : map pat_part_of all2 ≡ map pat_part_of all ++ operand ∷ []
      parts-list = ap (map pat_part_of) pushed ∙ map_push pat_part_of all t ∙ ap (λ (z : Operand VidAt tree.Pat). map pat_part_of all ++ z ∷ []) (part ∙ (let x = is.place in let y = is.bare in rw (x, y) refl))

      turn-is : pat_part_turn (read_pats n).pat f (infix_level (Some how)) how.right (record { place = p; it = v }) i ≡ pat_part_next f (infix_level (Some how)) how.right (record { place = p; it = v }) got.tree got.rest (infix_vid f (left s o))
      turn-is = rw h (ap (pat_part_next f (infix_level (Some how)) how.right (record { place = p; it = v }) got.tree got.rest) (ap (infix_vid f) (sym is.rest)))

      parts-end : (j : List Terminal) → pat_part_turn (read_pats n).pat f (infix_level (Some how)) how.right (record { place = p; it = v }) i ≡ read (last (last_pat_part (record { place = p; it = v }) got.tree)) got.rest → length i ≤ length j →
          Said (λ r. (left s o ≡ r.rest) × (map pat_part_of all2 ≡ pat_operands s.file r.tree) × (d2 ≡ depth_pat_parts r.tree) × (depth_pat_parts r.tree ≤ n) × (length r.rest < length j)) total
      parts-end j one le =
          let h2 = listing-last (pat_part_turn (read_pats n).pat f (infix_level (Some how)) how.right) (pat_operands s.file) depth_pat_parts n [] 0 (operand ∷ []) (depth_pat got.tree) one refl refl is.fits g.lists in
          let q = is.depth in let r = h2.deep in let ff = h2.fits in let sh = is.shorter in
          record { got = record { tree = h2.tree; rest = got.rest }; is = h2.is; same = (is.rest, parts-list ∙ sym h2.shows, omega arith, omega arith, omega arith) }

      pub parts-none : (j : List Terminal) → infix_vid f (left s o) ≡ None → length i ≤ length j → Said (λ r. (left s o ≡ r.rest) × (map pat_part_of all2 ≡ pat_operands s.file r.tree) × (d2 ≡ depth_pat_parts r.tree) × (depth_pat_parts r.tree ≤ n) × (length r.rest < length j)) total
      parts-none j q le = parts-end j (turn-is ∙ rw q refl) le

      module _ (y : Placed ℕ) (m : List Terminal) (l2 : ℕ) (r2 : Bool) (q : infix_vid f (left s o) ≡ taken y m) (l : vid_level f (Named y.it) ≡ l2) (r : vid_right f (Named y.it) ≡ r2) where
        pub parts-other : (j : List Terminal) → (l2 ≡ infix_level (Some how) → ⊥) → length i ≤ length j → Said (λ r. (left s o ≡ r.rest) × (map pat_part_of all2 ≡ pat_operands s.file r.tree) × (d2 ≡ depth_pat_parts r.tree) × (depth_pat_parts r.tree ≤ n) × (length r.rest < length j)) total
        parts-other j ne le =
            let w : nat_eq (l2) (infix_level (Some how)) ≡ false = ne_eqb (l2) (infix_level (Some how)) ne in
            parts-end j (turn-is ∙ rw (q, l, w) refl) le

        pub parts-bad : l2 ≡ infix_level (Some how) → (r2 ≡ how.right → ⊥) → total ≡ bad
        parts-bad eq ne =
            let w : nat_eq (l2) (infix_level (Some how)) ≡ true = eq-eqb (l2) (infix_level (Some how)) eq in
            let u = same-false r2 how.right ne in
            listing-fails (pat_part_turn (read_pats n).pat f (infix_level (Some how)) how.right) (pat_operands s.file) depth_pat_parts n [] 0 (stop.Bad 0) (turn-is ∙ rw (q, l, w, r, u) refl) g.lists

        pub parts-more : l2 ≡ infix_level (Some how) → r2 ≡ how.right → length m < length i → PatPartsGoing s f n (infix_level (Some how)) how.right y.place y.it m all2 d2 total
        parts-more eq er lt =
            let w : nat_eq (l2) (infix_level (Some how)) ≡ true = eq-eqb (l2) (infix_level (Some how)) eq in
            let u = same-true r2 how.right er in
            let one : pat_part_turn (read_pats n).pat f (infix_level (Some how)) how.right (record { place = p; it = v }) i ≡ read (more (pat_part (record { place = p; it = v }) got.tree) y) m = turn-is ∙ rw (q, l, w, r, u) refl in
            record {
              lists = listing-at (pat_part_turn (read_pats n).pat f (infix_level (Some how)) how.right) (pat_operands s.file) depth_pat_parts n [] 0 parts-list (deepest ∙ ap (λ (k : ℕ). max k d) is.depth)
                  (listing-more (pat_part_turn (read_pats n).pat f (infix_level (Some how)) how.right) (pat_operands s.file) depth_pat_parts n [] 0 operand (depth_pat got.tree) one lt (λ b. refl) (λ b. refl) is.fits g.lists);
            }

pub parts-whole : (s : Source) (f : Fixity) (n : ℕ) (p v : ℕ) (j : List Terminal) (all : List PatPart) (d : ℕ) (o : List Token) →
    Said (λ r. (left s o ≡ r.rest) × (map pat_part_of all ≡ pat_operands s.file r.tree) × (d ≡ depth_pat_parts r.tree) × (depth_pat_parts r.tree ≤ n) × (length r.rest < length j)) (whole_pat_parts (read_pats n).pat f (record { place = p; it = v }) j) →
    Said (IsPatParts s f n j v all d o) (whole_pat_parts (read_pats n).pat f (record { place = p; it = v }) j)
parts-whole s f n p v j all d o g =
    record { got = g.got; is = g.is; same = record { rest = g.same.0; bare = g.same.1; depth = g.same.2; level = parts-level (read_pats n).pat f (record { place = p; it = v }) j g.got g.is; fits = g.same.3; shorter = g.same.4 } }

pub part-of : (p q : Place) (v : ℕ) (a : Pat) (x y : Place) → p ≡ x → q ≡ y → pat_part_of (record { vid_place = p; vid = Named v; place = q; pat = a }) ≡ record { joint = record { place = x; vid = Named v }; place = y; operand = pat_of a }
part-of p q v a x y e1 e2 = pat_part-of p (Named v) q a ∙ rw (e1, e2) refl
