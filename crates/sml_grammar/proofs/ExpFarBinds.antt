-- Where bindings of values or functions are too deep, a partial one is there.
use Rattle.std.proofs.Common.{◌≡◌, ℕ, suc, List, ◌∷◌, length, Option, Some, None, true, false, inl, inr, refl, sym, subst, arith}
use Rattle.mlc_names.specs.declared.token.Reserved.TheVariants as res
use Rattle.sml_tree.specs.Terminal.{Terminal, reserved}
use Rattle.sml_tree.specs.declared.ident.Vid.{Vid}
use Rattle.sml_tree.specs.declared.ident.Vid.TheVariants.{Equals}
use Rattle.sml_tree.specs.Fixity.{Fixity}
use Rattle.sml_tree.specs.ReadTree.{Ty, Head, head_vid, head_count, Binds, last_bind, bind, Funs, last_fun, fun_and, Clauses, last_clause, clause}
use Rattle.sml_tree.specs.Levels.{goes_on}
use Rattle.sml_tree.specs.Grammar.{MaybeTy, Pattern, ReadsHead, Reads, ReadsClauses}
use Rattle.sml_grammar.specs.Answer.{Read, deep, read, Turn, more}
use Rattle.sml_grammar.specs.Terminals.{after_word, NoState, no_state}
use Rattle.sml_grammar.specs.Types.{read_ty, maybe_ty}
use Rattle.sml_grammar.specs.Patterns.{read_pat, read_head}
use Rattle.sml_grammar.specs.Expressions.{Reader, bind_turn, read_binds, Shape, shape_of, agrees, clause_body, clause_rest, clause_turn, read_clauses, fun_turn, read_funs}
use Rattle.sml_grammar.specs.Partial.{OpensBinds, past_rec, in_bind_pat, in_bind, past_bind, OpensFuns, in_clauses, past_clauses, OpensClauses, in_head, in_result, in_clause, past_clause}
use Rattle.sml_grammar.specs.PartialTypes.{OpensTy}
use Rattle.sml_grammar.proofs.Words.{word-at, AfterWord, found, absent, after-is}
use Rattle.sml_grammar.proofs.Answers.{chosen, then_ok, then_deep, word_then-ok, word_then-deep, on_some-split, bad_ok, bad_deep, not_deep, separated-deep, many-far}
use Rattle.sml_grammar.proofs.ExpBelow.{Below, FarBelow}
use Rattle.sml_grammar.proofs.ExpTurns.{at-head, at-front, sep-more, went}
use Rattle.sml_grammar.proofs.ExpSoundAtoms.{Sounds}
use Rattle.sml_grammar.proofs.ExpSoundBinds.{clauses-sound, Agreed, agrees-is}
use Rattle.sml_grammar.proofs.ExpFarAtoms.{Fars}

-- a type after `:` that is too deep
data FarMaybe (n : ℕ) : List Terminal → Type 0 where
  far_maybe : {m : List Terminal} (p : ℕ) → OpensTy 0 m (suc n) → FarMaybe n (reserved p res.Colon ∷ m)

maybe-far : (n : ℕ) → FarBelow n → (i : List Terminal) → maybe_ty n (after_word res.Colon i) i ≡ deep → FarMaybe n i
maybe-far n far_below i h = go (after-is res.Colon i) i h
  where
    go : {i : List Terminal} {v : Option (List Terminal)} → AfterWord res.Colon i v → (z : List Terminal) → maybe_ty n v z ≡ deep → FarMaybe n i
    go (found {o} p) z h = elim (then_deep (read_ty n 0 o) _ h) [ inl x ↦ far_maybe p (far_below.tys o x) | inr t ↦ not_deep t.2 ]
    go (absent e) z h = not_deep h

-- partial clauses after some of this shape
pub record FarClauses (n : ℕ) (f : Fixity) (s : Option Shape) (i : List Terminal) : Type 0 where
  pub vid : Vid
  pub count : ℕ
  pub agreed : Agreed s vid count
  pub opens : OpensClauses f vid count i (suc n)

any-shape : (s : Option Shape) → (v : Vid) × (c : ℕ) × Agreed s v c
any-shape None = (Equals, 0, tt)
any-shape (Some s) = (s.vid, s.count, (refl, refl))

module _ (n : ℕ) (below : Below n) (far_below : FarBelow n) (self : Reader) (sound : Sounds n self) (far : Fars n self) (f : Fixity) where
  bind-ends : (s : NoState) (i : List Terminal) → bind_turn n self f s i ≡ deep → OpensBinds f i (suc n)
  bind-ends s i h =
      elim (on_some-split (after_word res.Rec i) _ _ h) [
        | inl q ↦ not_deep q.2
        | inr q ↦ elim (then_deep (read_pat n f i) _ q.1) [
          | inl x ↦ in_bind_pat (far_below.pats f i x)
          | inr t ↦
              let w = word_then-deep res.Equals _ t.0.rest t.2 in
              let a = at-head w.1 (λ z. Pattern f i t.0.tree z) (below.pats f i t.0 t.1).reads in
              elim (then_deep (self f 0 w.0) _ w.2) [
                | inl x ↦ in_bind a.0 a.1 (far f 0 w.0 (omega arith) x)
                | inr u ↦ separated-deep (after_word res.And u.0.rest) (bind t.0.tree u.0.tree) (last_bind t.0.tree u.0.tree) s u.0.rest u.2
              ]
        ]
      ]

  bind-goes : (s : NoState) (i : List Terminal) (put : Binds → Binds) (s' : NoState) (m : List Terminal) → bind_turn n self f s i ≡ read (more put s') m → OpensBinds f m (suc n) → OpensBinds f i (suc n)
  bind-goes s i put s' m h k =
      elim (on_some-split (after_word res.Rec i) _ _ h) [
        | inl q ↦
            let r = went (λ z o. OpensBinds f o (suc n)) q.2 k in
            at-front (word-at res.Rec i q.0 q.1) (λ z. OpensBinds f z (suc n)) (λ p. past_rec p r)
        | inr q ↦
            let y : Read (Turn Binds NoState) = record { tree = more put s'; rest = m } in
            let t = then_ok (read_pat n f i) _ y q.1 in
            let w = word_then-ok res.Equals _ t.0.rest y t.2 in
            let a = at-head w.1 (λ z. Pattern f i t.0.tree z) (below.pats f i t.0 t.1).reads in
            let u = then_ok (self f 0 w.0) _ y w.2 in
            let v = sep-more u.0.rest res.And (bind t.0.tree u.0.tree) (last_bind t.0.tree u.0.tree) s put s' m u.2 in
            let c = at-head v.0 (λ z. Reads f w.0 u.0.tree z) (sound f 0 w.0 u.0 (omega arith) u.1).reads in
            past_bind a.0 c.0 a.1 c.1 k
      ]

  pub binds-far : (i : List Terminal) → read_binds n self f i ≡ deep → OpensBinds f i (suc n)
  binds-far i h = many-far (bind_turn n self f) (λ s m. OpensBinds f m (suc n)) bind-ends bind-goes (suc (length i)) no_state i h

  result-far : (s : Option Shape) {i m : List Terminal} {h : Head} → ReadsHead f i h m → agrees s h ≡ true → FarMaybe n m → FarClauses n f s i
  result-far s {h} d ag (far_maybe p o) = record { vid = head_vid h; count = head_count h; agreed = agrees-is s h ag; opens = in_result p d refl refl o }

  body-ends : (s : Option Shape) (i : List Terminal) (h : Head) (m : List Terminal) (t : Option Ty) (k : List Terminal) → ReadsHead f i h m → agrees s h ≡ true → MaybeTy m t k →
      clause_body self f h t k ≡ deep → FarClauses n f s i
  body-ends s i h m t k d ag q e =
      let w = word_then-deep res.Equals _ k e in
      let a = at-head w.1 (λ z. MaybeTy m t z) q in
      elim (then_deep (self f 0 w.0) _ w.2) [
        | inl x ↦ record { vid = head_vid h; count = head_count h; agreed = agrees-is s h ag; opens = in_clause a.0 d refl refl a.1 (far f 0 w.0 (omega arith) x) }
        | inr u ↦ separated-deep (after_word res.Bar u.0.rest) (clause h t u.0.tree) (last_clause h t u.0.tree) (Some (shape_of h)) u.0.rest u.2
      ]

  clause-ends : (s : Option Shape) (i : List Terminal) → clause_turn n self f s i ≡ deep → FarClauses n f s i
  clause-ends s i e =
      elim (then_deep (read_head n f i) (clause_rest n self f s) e) [
        | inl x ↦ let v = any-shape s in record { vid = v.0; count = v.1; agreed = v.2; opens = in_head (far_below.heads f i x) }
        | inr t ↦
            let d = (below.heads f i t.0 t.1).reads in
            elim (chosen (agrees s t.0.tree) _ _ t.2) [
              | inl p ↦ elim (then_deep (maybe_ty n (after_word res.Colon t.0.rest) t.0.rest) (clause_body self f t.0.tree) p.1) [
                | inl x ↦ result-far s d p.0 (maybe-far n far_below t.0.rest x)
                | inr u ↦ body-ends s i t.0.tree t.0.rest u.0.tree u.0.rest d p.0 (below.maybe_tys t.0.rest u.0 u.1).reads u.2
              ]
              | inr p ↦ bad_deep {A = Turn Clauses (Option Shape)} p.1
            ]
      ]

  body-goes : (s : Option Shape) (i : List Terminal) (h : Head) (m : List Terminal) (t : Option Ty) (k : List Terminal) (put : Clauses → Clauses) (s' : Option Shape) (x : List Terminal) →
      ReadsHead f i h m → agrees s h ≡ true → MaybeTy m t k → clause_body self f h t k ≡ read (more put s') x → FarClauses n f s' x → FarClauses n f s i
  body-goes s i h m t k put s' x d ag q e r =
      let y : Read (Turn Clauses (Option Shape)) = record { tree = more put s'; rest = x } in
      let w = word_then-ok res.Equals _ k y e in
      let a = at-head w.1 (λ z. MaybeTy m t z) q in
      let u = then_ok (self f 0 w.0) _ y w.2 in
      let g = sound f 0 w.0 u.0 (omega arith) u.1 in
      let v = sep-more u.0.rest res.Bar (clause h t u.0.tree) (last_clause h t u.0.tree) (Some (shape_of h)) put s' x u.2 in
      let c = at-head v.0 (λ z. Reads f w.0 u.0.tree z × (goes_on f u.0.tree z ≡ false)) (g.reads, g.ends) in
      let k : FarClauses n f (Some (shape_of h)) x = subst (λ (z : Option Shape). FarClauses n f z x) (sym v.1) r in
      let o : OpensClauses f (head_vid h) (head_count h) x (suc n) =
      subst (λ (z : Vid). OpensClauses f z (head_count h) x (suc n)) k.agreed.0 (subst (λ (z : ℕ). OpensClauses f k.vid z x (suc n)) k.agreed.1 k.opens) in
      record { vid = head_vid h; count = head_count h; agreed = agrees-is s h ag; opens = past_clause a.0 c.0 d refl refl a.1 c.1.1 c.1.0 o }

  clause-goes : (s : Option Shape) (i : List Terminal) (put : Clauses → Clauses) (s' : Option Shape) (x : List Terminal) → clause_turn n self f s i ≡ read (more put s') x → FarClauses n f s' x → FarClauses n f s i
  clause-goes s i put s' x e r =
      let y : Read (Turn Clauses (Option Shape)) = record { tree = more put s'; rest = x } in
      let t = then_ok (read_head n f i) (clause_rest n self f s) y e in
      elim (chosen (agrees s t.0.tree) _ _ t.2) [
        | inl p ↦
            let u = then_ok (maybe_ty n (after_word res.Colon t.0.rest) t.0.rest) (clause_body self f t.0.tree) y p.1 in
            body-goes s i t.0.tree t.0.rest u.0.tree u.0.rest put s' x (below.heads f i t.0 t.1).reads p.0 (below.maybe_tys t.0.rest u.0 u.1).reads u.2 r
        | inr p ↦ bad_ok p.1
      ]

  clauses-far : (i : List Terminal) → read_clauses n self f i ≡ deep → FarClauses n f None i
  clauses-far i h = many-far (clause_turn n self f) (FarClauses n f) clause-ends clause-goes (suc (length i)) None i h

  fun-ends : (s : NoState) (i : List Terminal) → fun_turn n self f s i ≡ deep → OpensFuns f i (suc n)
  fun-ends s i h =
      elim (then_deep (read_clauses n self f i) _ h) [
        | inl x ↦ let c = clauses-far i x in in_clauses c.vid c.count c.opens
        | inr t ↦ separated-deep (after_word res.And t.0.rest) (fun_and t.0.tree) (last_fun t.0.tree) s t.0.rest t.2
      ]

  fun-goes : (s : NoState) (i : List Terminal) (put : Funs → Funs) (s' : NoState) (m : List Terminal) → fun_turn n self f s i ≡ read (more put s') m → OpensFuns f m (suc n) → OpensFuns f i (suc n)
  fun-goes s i put s' m h k =
      let t = then_ok (read_clauses n self f i) _ (record { tree = more put s'; rest = m }) h in
      let c = clauses-sound n below self sound f i t.0 t.1 in
      let v = sep-more t.0.rest res.And (fun_and t.0.tree) (last_fun t.0.tree) s put s' m t.2 in
      let a = at-head v.0 (λ z. ReadsClauses f c.vid c.count i t.0.tree z) c.reads in
      past_clauses c.vid c.count a.0 a.1 k

  pub funs-far : (i : List Terminal) → read_funs n self f i ≡ deep → OpensFuns f i (suc n)
  funs-far i h = many-far (fun_turn n self f) (λ s m. OpensFuns f m (suc n)) fun-ends fun-goes (suc (length i)) no_state i h
