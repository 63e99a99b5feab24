-- A datatype's constructors.
use Rattle.std.proofs.Common.{◌≡◌, ℕ, zero, suc, ◌≤◌, ◌<◌, List, [], ◌∷◌, length, Option, inl, inr, refl, ap, ◌∙◌, subst, arith}
use Rattle.mlc_names.specs.declared.token.Reserved.TheVariants as res
use Rattle.sml_tree.specs.Terminal.{Terminal, reserved}
use Rattle.sml_tree.specs.declared.ident.Vid.{Vid}
use Rattle.sml_tree.specs.Fixity.{Fixity}
use Rattle.sml_tree.specs.ReadTree.{Placed, Ty, ConBind}
use Rattle.sml_tree.specs.Depth.{depth_some, depth_cons}
use Rattle.sml_tree.specs.Grammar.{BindsVid, MaybeOf, ConBinds, last_con, more_cons}
use Rattle.sml_grammar.specs.Answer.{Read, Answer, ok, deep, read, then_read, Turn, last, more, many}
use Rattle.sml_grammar.specs.Terminals.{after_word, separated, NoState, no_state, binds_vid}
use Rattle.sml_grammar.specs.Bindings.{con_turn, read_cons}
use Rattle.sml_grammar.specs.PartialBindings.{OpensCons, in_con, past_con}
use Rattle.sml_grammar.proofs.Words.{WordAt, at_word, word-at}
use Rattle.sml_grammar.proofs.Answers.{le_or, then_ok, then_deep, then_taken-ok, then_taken-deep, then_taken-step, separated-ok, separated-more, separated-deep, GoodTurn, many-ok, many-far, many-last, many-more, many-deep, many-stop}
use Rattle.sml_grammar.proofs.Vids.{binds-is, binds-found, binds-shorter}
use Rattle.sml_grammar.proofs.BindStops.{ConsStop, cons-end}
use Rattle.sml_grammar.proofs.MaybeTypes.{of-sound, of-shorter}
use Rattle.sml_grammar.proofs.BindOf.{read_of, OpensOf, in_of, of-read, of-far, of-over, of-opens, of-too_deep}

abbrev con_of : Placed Vid → Option Ty → ConBind
con_of v t = record { place = v.place; vid = v.it; of_ty = t }

abbrev after_of : NoState → Placed Vid → Option Ty → List Terminal → Answer (Turn (List ConBind) NoState)
after_of s v t o = separated (after_word res.Bar o) (λ cs. con_of v t ∷ cs) (con_of v t ∷ []) s o

abbrev after_vid : ℕ → NoState → Placed Vid → List Terminal → Answer (Turn (List ConBind) NoState)
after_vid n s v m = then_read (read_of n m) (after_of s v)

pub cons-shorter : {f : Fixity} {i o : List Terminal} {cs : List ConBind} → ConBinds f i cs o → length o < length i
cons-shorter (last_con b d) = let s = binds-shorter b in let r = of-shorter d in omega arith
cons-shorter (more_cons q b d e) = let s = binds-shorter b in let r = of-shorter d in let u = cons-shorter e in omega arith

in-con : {f : Fixity} {i m : List Terminal} {p : ℕ} {v : Placed Vid} {d : ℕ} → BindsVid f i p v m → OpensOf m d → OpensCons f i d
in-con b (in_of q o) = in_con q b o

pub cons-opens : {f : Fixity} {i o : List Terminal} {cs : List ConBind} → ConBinds f i cs o → (d : ℕ) → 1 ≤ d → d ≤ depth_cons cs → OpensCons f i d
cons-opens (last_con b e) d low le = in-con b (of-opens e d low (omega arith))
cons-opens (more_cons {s = t} q b e r) d low le =
    elim (le_or d (depth_some t)) [ inl h ↦ in-con b (of-opens e d low h) | inr h ↦ past_con q b e (cons-opens r d low (omega arith)) ]

pub record GoodCons (n : ℕ) (f : Fixity) (i : List Terminal) (y : Read (List ConBind)) : Type 0 where
  pub reads : ConBinds f i y.tree y.rest
  pub fits : depth_cons y.tree ≤ n

module _ (n : ℕ) (f : Fixity) where
  abbrev Goes : NoState → List Terminal → List ConBind → List Terminal → Type 0
  Goes s i cs o = GoodCons n f i (record { tree = cs; rest = o })

  more-good : {i m k j : List Terminal} {p : ℕ} {v : Placed Vid} {t : Option Ty} → BindsVid f i p v m → MaybeOf m t k → depth_some t ≤ n → WordAt res.Bar k j → (cs : List ConBind) (o : List Terminal) →
      GoodCons n f j (record { tree = cs; rest = o }) → GoodCons n f i (record { tree = record { place = v.place; vid = v.it; of_ty = t } ∷ cs; rest = o })
  more-good b d le (at_word q) cs o g = let e = g.fits in record { reads = more_cons q b d g.reads; fits = omega arith }

  turn-ok : (s : NoState) (i : List Terminal) (y : Read (Turn (List ConBind) NoState)) → con_turn n f s i ≡ ok y → GoodTurn Goes s i y.tree y.rest
  turn-ok s i y h =
      let v = then_taken-ok (binds_vid f i) (after_vid n s) y h in
      let t = then_ok (read_of n v.1) (after_of s v.0) y v.3 in
      let b = binds-is f i v.0 v.1 v.2 in
      let g = of-sound n v.1 t.0 t.1 in
      let e = g.fits in
      elim (separated-ok (after_word res.Bar t.0.rest) (λ cs. con_of v.0 t.0.tree ∷ cs) (con_of v.0 t.0.tree ∷ []) s t.0.rest t.2) [
        | inl u ↦ subst (λ (z : Read (Turn (List ConBind) NoState)). GoodTurn Goes s i z.tree z.rest) u.1 (record { reads = last_con b g.reads; fits = omega arith })
        | inr u ↦ subst (λ (z : Read (Turn (List ConBind) NoState)). GoodTurn Goes s i z.tree z.rest) u.2 (more-good b g.reads e (word-at res.Bar t.0.rest u.0 u.1))
      ]

  pub cons-sound : (i : List Terminal) (y : Read (List ConBind)) → read_cons n f i ≡ ok y → GoodCons n f i y
  cons-sound i y h = many-ok (con_turn n f) Goes turn-ok (suc (length i)) no_state i y h

  -- one turn, before `|` and at the end

  turn-goes : (q : ℕ) {i m k : List Terminal} {p : ℕ} {v : Placed Vid} {t : Option Ty} → BindsVid f i p v m → MaybeOf m t (reserved q res.Bar ∷ k) → depth_some t ≤ n →
      con_turn n f no_state i ≡ read (more (λ cs. record { place = v.place; vid = v.it; of_ty = t } ∷ cs) no_state) k
  turn-goes q {p} {v} b d le = then_taken-step (after_vid n no_state) (binds-found b) (ap (λ z. then_read z (after_of no_state v)) (of-read n d le refl refl))

  turn-ends : {i m o : List Terminal} {p : ℕ} {v : Placed Vid} {t : Option Ty} → BindsVid f i p v m → MaybeOf m t o → depth_some t ≤ n → ConsStop o →
      con_turn n f no_state i ≡ read (last (record { place = v.place; vid = v.it; of_ty = t } ∷ [])) o
  turn-ends {o} {p} {v} {t} b d le stops =
      let e = cons-end o stops in
      then_taken-step (after_vid n no_state) (binds-found b)
      (ap (λ z. then_read z (after_of no_state v)) (of-read n d le e.of_ e.ty) ∙ ap (λ z. separated z (λ cs. con_of v t ∷ cs) (con_of v t ∷ []) no_state o) e.bar)

  turns-complete : {i o : List Terminal} {cs : List ConBind} → ConBinds f i cs o → depth_cons cs ≤ n → ConsStop o → (k : ℕ) → length i < k → many (con_turn n f) k no_state i ≡ read cs o
  turns-complete d le stops zero lt = absurd (omega arith)
  turns-complete (last_con b d) le stops (suc k) lt = many-last (con_turn n f) k (turn-ends b d (omega arith) stops)
  turns-complete (more_cons q b d e) le stops (suc k) lt =
      let s = binds-shorter b in let r = of-shorter d in
      many-more (con_turn n f) k (turn-goes q b d (omega arith)) (turns-complete e (omega arith) stops k (omega arith))

  pub cons-complete : {i o : List Terminal} {cs : List ConBind} → ConBinds f i cs o → depth_cons cs ≤ n → ConsStop o → read_cons n f i ≡ read cs o
  cons-complete {i} d le stops = turns-complete d le stops (suc (length i)) (omega arith)

  -- too deep

  turn-far : (s : NoState) (i : List Terminal) → con_turn n f s i ≡ deep → OpensCons f i (suc n)
  turn-far s i h =
      let v = then_taken-deep (binds_vid f i) (after_vid n s) h in
      elim (then_deep (read_of n v.1) (after_of s v.0) v.3) [
        | inl e ↦ in-con (binds-is f i v.0 v.1 v.2) (of-far n v.1 e)
        | inr t ↦ separated-deep (after_word res.Bar t.0.rest) (λ cs. con_of v.0 t.0.tree ∷ cs) (con_of v.0 t.0.tree ∷ []) s t.0.rest t.2
      ]

  turn-past : (s : NoState) (i : List Terminal) (put : List ConBind → List ConBind) (t : NoState) (m : List Terminal) → con_turn n f s i ≡ read (more put t) m → OpensCons f m (suc n) → OpensCons f i (suc n)
  turn-past s i put t m h o =
      let y : Read (Turn (List ConBind) NoState) = record { tree = more put t; rest = m } in
      let v = then_taken-ok (binds_vid f i) (after_vid n s) y h in
      let u = then_ok (read_of n v.1) (after_of s v.0) y v.3 in
      let g = of-sound n v.1 u.0 u.1 in
      let w = separated-more (after_word res.Bar u.0.rest) (λ cs. con_of v.0 u.0.tree ∷ cs) (con_of v.0 u.0.tree ∷ []) s u.0.rest put t m u.2 in
      go (binds-is f i v.0 v.1 v.2) g.reads (word-at res.Bar u.0.rest m w.0)
    where
      go : {j k : List Terminal} {p : ℕ} {v : Placed Vid} {t : Option Ty} → BindsVid f i p v j → MaybeOf j t k → WordAt res.Bar k m → OpensCons f i (suc n)
      go b d (at_word q) = past_con q b d o

  pub cons-far : (i : List Terminal) → read_cons n f i ≡ deep → OpensCons f i (suc n)
  cons-far i h = many-far (con_turn n f) (λ s m. OpensCons f m (suc n)) turn-far turn-past (suc (length i)) no_state i h

  con-over : {i m : List Terminal} {p : ℕ} {v : Placed Vid} → BindsVid f i p v m → read_of n m ≡ deep → con_turn n f no_state i ≡ deep
  con-over {p} {v} b e = then_taken-step (after_vid n no_state) (binds-found b) (ap (λ z. then_read z (after_of no_state v)) e)

  turns-over : {i : List Terminal} {d : ℕ} → OpensCons f i d → n < d → (k : ℕ) → length i < k → many (con_turn n f) k no_state i ≡ deep
  turns-over o lt zero le = absurd (omega arith)
  turns-over (in_con q b o) lt (suc k) le = many-stop (con_turn n f) k (con-over b (of-over n (in_of q o) lt))
  turns-over (past_con {s = t} q b d o) lt (suc k) le =
      let s = binds-shorter b in let r = of-shorter d in
      elim (le_or (depth_some t) n) [
        | inl e ↦ many-deep (con_turn n f) k (turn-goes q b d e) (turns-over o lt k (omega arith))
        | inr e ↦ many-stop (con_turn n f) k (con-over b (of-too_deep n d e))
      ]

  pub cons-over : {i : List Terminal} {d : ℕ} → OpensCons f i d → n < d → read_cons n f i ≡ deep
  cons-over {i} o lt = turns-over o lt (suc (length i)) (omega arith)
