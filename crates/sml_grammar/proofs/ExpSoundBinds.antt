-- Bindings of values and functions that are read are in the grammar.
use Rattle.std.proofs.Common.{◌≡◌, ℕ, suc, ◌≤◌, List, length, Option, Some, None, Bool, true, false, ◌&&◌, inl, inr, refl, ap, subst, arith, nat_eq}
use Rattle.std.proofs.lemmas.Bool.{eqb-true}
use Rattle.mlc_names.specs.declared.token.Reserved.TheVariants as res
use Rattle.sml_tree.specs.Terminal.{Terminal}
use Rattle.sml_tree.specs.declared.ident.Vid.{Vid}
use Rattle.sml_tree.specs.declared.ident.Vid.TheVariants.{Named, Equals, Fresh}
use Rattle.sml_tree.specs.Fixity.{Fixity, is_vid}
use Rattle.sml_tree.specs.ReadTree.{Ty, Head, head_vid, head_count, Binds, last_bind, bind, rec_binds, Funs, last_fun, fun_and, Clauses, last_clause, clause}
use Rattle.sml_tree.specs.Depth.{depth_some, depth_head, depth_binds, depth_funs, depth_clauses}
use Rattle.sml_tree.specs.Levels.{goes_on}
use Rattle.sml_tree.specs.Grammar.{MaybeTy, Pattern, ReadsHead, Reads, ReadsBinds, of_last_bind, of_bind, of_rec, ReadsFuns, of_last_fun, of_fun_and, ReadsClauses, of_last_clause, of_clause}
use Rattle.sml_grammar.specs.Answer.{Read, ok, Turn}
use Rattle.sml_grammar.specs.Terminals.{after_word, NoState, no_state}
use Rattle.sml_grammar.specs.Types.{maybe_ty}
use Rattle.sml_grammar.specs.Patterns.{read_pat, read_head}
use Rattle.sml_grammar.specs.Expressions.{Reader, bind_turn, read_binds, Shape, shape_of, agrees, clause_body, clause_rest, clause_turn, read_clauses, fun_turn, read_funs}
use Rattle.sml_grammar.proofs.Words.{word-at}
use Rattle.sml_grammar.proofs.Answers.{chosen, then_ok, word_then-ok, on_some-split, bad_ok, GoodTurn, many-ok}
use Rattle.sml_grammar.proofs.ExpBelow.{Within, Below}
use Rattle.sml_grammar.proofs.ExpTurns.{at-head, at-front, given, sep-good}
use Rattle.sml_grammar.proofs.ExpSoundAtoms.{Sounds}

pub and-split : (a b : Bool) → (a && b) ≡ true → (a ≡ true) × (b ≡ true)
and-split true b e = (refl, e)
and-split false b e = absurd (cc)

pub is_vid-one : (v w : Vid) → is_vid v w ≡ true → v ≡ w
is_vid-one (Named x) (Named y) e = ap Named (eqb-true x y e)
is_vid-one (Fresh x) (Fresh y) e = ap Fresh (eqb-true x y e)
is_vid-one Equals Equals e = refl
is_vid-one _ _ e = absurd (cc)

-- a name and a number of patterns that agree with those of the first clause, if there is one
abbrev pub Agreed : Option Shape → Vid → ℕ → Type 0
Agreed None v c = Unit
Agreed (Some s) v c = (v ≡ s.vid) × (c ≡ s.count)

pub agrees-is : (s : Option Shape) (h : Head) → agrees s h ≡ true → Agreed s (head_vid h) (head_count h)
agrees-is None h e = tt
agrees-is (Some s) h e =
    let b = and-split (is_vid (head_vid h) s.vid) (nat_eq (head_count h) s.count) e in
    (is_vid-one (head_vid h) s.vid b.0, eqb-true (head_count h) s.count b.1)

pub record GoodClauses (n : ℕ) (f : Fixity) (s : Option Shape) (i : List Terminal) (cs : Clauses) (o : List Terminal) : Type 0 where
  pub vid : Vid
  pub count : ℕ
  pub reads : ReadsClauses f vid count i cs o
  pub agreed : Agreed s vid count
  pub fits : depth_clauses cs ≤ n

module _ (n : ℕ) (below : Below n) (self : Reader) (sound : Sounds n self) (f : Fixity) where
  abbrev GoodBinds : NoState → List Terminal → Binds → List Terminal → Type 0
  GoodBinds s i bs o = Within (ReadsBinds f) depth_binds n i bs o

  bind-turn : (s : NoState) (i : List Terminal) (y : Read (Turn Binds NoState)) → bind_turn n self f s i ≡ ok y → GoodTurn GoodBinds s i y.tree y.rest
  bind-turn s i y h =
      elim (on_some-split (after_word res.Rec i) _ _ h) [
        | inl q ↦ given (GoodTurn GoodBinds s i) q.2
            (at-front (word-at res.Rec i q.0 q.1) (λ z. (bs : Binds) (o : List Terminal) → GoodBinds s q.0 bs o → GoodBinds s z (rec_binds bs) o)
            (λ p bs o k. record { reads = of_rec p k.reads; fits = k.fits }))
        | inr q ↦
            let t = then_ok (read_pat n f i) _ y q.1 in
            let p = below.pats f i t.0 t.1 in
            let w = word_then-ok res.Equals _ t.0.rest y t.2 in
            let a = at-head w.1 (λ z. Pattern f i t.0.tree z) p.reads in
            let u = then_ok (self f 0 w.0) _ y w.2 in
            let g = sound f 0 w.0 u.0 (omega arith) u.1 in
            sep-good GoodBinds s s i u.0.rest res.And (bind t.0.tree u.0.tree) (last_bind t.0.tree u.0.tree) y u.2
            (λ e. record { reads = of_last_bind a.0 a.1 g.reads; fits = omega (arith, p.fits, g.fits) })
            (λ m v b k r. let c = at-head v (λ z. Reads f w.0 u.0.tree z) g.reads in record { reads = of_bind a.0 c.0 a.1 c.1 r.reads; fits = omega (arith, p.fits, g.fits, r.fits) })
      ]

  pub binds-sound : (i : List Terminal) (y : Read Binds) → read_binds n self f i ≡ ok y → Within (ReadsBinds f) depth_binds n i y.tree y.rest
  binds-sound i y h = many-ok (bind_turn n self f) GoodBinds bind-turn (suc (length i)) no_state i y h

  body-sound : (s : Option Shape) (i : List Terminal) (h : Head) (m : List Terminal) (t : Option Ty) (k : List Terminal) (y : Read (Turn Clauses (Option Shape))) →
      Within (ReadsHead f) depth_head n i h m → agrees s h ≡ true → Within MaybeTy depth_some n m t k → clause_body self f h t k ≡ ok y → GoodTurn (GoodClauses n f) s i y.tree y.rest
  body-sound s i h m t k y d ag q e =
      let w = word_then-ok res.Equals _ k y e in
      let a = at-head w.1 (λ z. MaybeTy m t z) q.reads in
      let u = then_ok (self f 0 w.0) _ y w.2 in
      let g = sound f 0 w.0 u.0 (omega arith) u.1 in
      sep-good (GoodClauses n f) s (Some (shape_of h)) i u.0.rest res.Bar (clause h t u.0.tree) (last_clause h t u.0.tree) y u.2
      (λ none. record {
        vid = head_vid h;
        count = head_count h;
        reads = of_last_clause a.0 d.reads refl refl a.1 g.reads;
        agreed = agrees-is s h ag;
        fits = omega (arith, d.fits, q.fits, g.fits);
      })
      (λ x v b o r.
      let c = at-head v (λ z. Reads f w.0 u.0.tree z × (goes_on f u.0.tree z ≡ false)) (g.reads, g.ends) in
      let rest : ReadsClauses f (head_vid h) (head_count h) x b o =
      subst (λ (z : Vid). ReadsClauses f z (head_count h) x b o) r.agreed.0 (subst (λ (z : ℕ). ReadsClauses f r.vid z x b o) r.agreed.1 r.reads) in
      record {
        vid = head_vid h;
        count = head_count h;
        reads = of_clause a.0 c.0 d.reads refl refl a.1 c.1.1 c.1.0 rest;
        agreed = agrees-is s h ag;
        fits = omega (arith, d.fits, q.fits, g.fits, r.fits);
      })

  clause-turn : (s : Option Shape) (i : List Terminal) (y : Read (Turn Clauses (Option Shape))) → clause_turn n self f s i ≡ ok y → GoodTurn (GoodClauses n f) s i y.tree y.rest
  clause-turn s i y e =
      let t = then_ok (read_head n f i) (clause_rest n self f s) y e in
      let d = below.heads f i t.0 t.1 in
      elim (chosen (agrees s t.0.tree) _ _ t.2) [
        | inl p ↦
            let u = then_ok (maybe_ty n (after_word res.Colon t.0.rest) t.0.rest) (clause_body self f t.0.tree) y p.1 in
            body-sound s i t.0.tree t.0.rest u.0.tree u.0.rest y d p.0 (below.maybe_tys t.0.rest u.0 u.1) u.2
        | inr p ↦ bad_ok p.1
      ]

  pub clauses-sound : (i : List Terminal) (y : Read Clauses) → read_clauses n self f i ≡ ok y → GoodClauses n f None i y.tree y.rest
  clauses-sound i y h = many-ok (clause_turn n self f) (GoodClauses n f) clause-turn (suc (length i)) None i y h

  abbrev GoodFuns : NoState → List Terminal → Funs → List Terminal → Type 0
  GoodFuns s i fs o = Within (ReadsFuns f) depth_funs n i fs o

  fun-turn : (s : NoState) (i : List Terminal) (y : Read (Turn Funs NoState)) → fun_turn n self f s i ≡ ok y → GoodTurn GoodFuns s i y.tree y.rest
  fun-turn s i y h =
      let t = then_ok (read_clauses n self f i) _ y h in
      let c = clauses-sound i t.0 t.1 in
      sep-good GoodFuns s s i t.0.rest res.And (fun_and t.0.tree) (last_fun t.0.tree) y t.2
      (λ e. record { reads = of_last_fun c.vid c.count c.reads; fits = omega (arith, c.fits) })
      (λ m v b k r. let a = at-head v (λ z. ReadsClauses f c.vid c.count i t.0.tree z) c.reads in record { reads = of_fun_and c.vid c.count a.0 a.1 r.reads; fits = omega (arith, c.fits, r.fits) })

  pub funs-sound : (i : List Terminal) (y : Read Funs) → read_funs n self f i ≡ ok y → Within (ReadsFuns f) depth_funs n i y.tree y.rest
  funs-sound i y h = many-ok (fun_turn n self f) GoodFuns fun-turn (suc (length i)) no_state i y h
