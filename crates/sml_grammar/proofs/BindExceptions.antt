-- Bindings of exceptions.
use Rattle.std.proofs.Common.{◌≡◌, ℕ, zero, suc, ◌≤◌, ◌<◌, List, [], ◌∷◌, length, Option, None, max, inl, inr, refl, ap, ◌∙◌, subst, arith, false}
use Rattle.mlc_names.specs.declared.token.Reserved.TheVariants as res
use Rattle.sml_tree.specs.Terminal.{LongVid, Terminal, reserved}
use Rattle.sml_tree.specs.declared.ident.Vid.{Vid}
use Rattle.sml_tree.specs.Fixity.{Fixity}
use Rattle.sml_tree.specs.ReadTree.{Placed, Ty, ExBind, new_exn, same_exn}
use Rattle.sml_tree.specs.Depth.{depth_some, depth_ex_binds}
use Rattle.sml_tree.specs.Grammar.{BindsVid, NamesVid, MaybeOf, without_of, with_of, OneExBind, new_exception, same_exception, ExBinds, last_exn, more_exns}
use Rattle.sml_grammar.specs.Answer.{Read, Answer, ok, deep, read, then_read, Turn, last, more, many}
use Rattle.sml_grammar.specs.Terminals.{place_at, after_word, on_some, then_taken, separated, NoState, no_state, binds_vid, names_vid}
use Rattle.sml_grammar.specs.Types.{ty_could_go_on}
use Rattle.sml_grammar.specs.Bindings.{ex_bind_rest, ex_bind_turn, read_ex_binds}
use Rattle.sml_grammar.specs.PartialBindings.{OpensExBinds, in_exn, past_exn}
use Rattle.sml_grammar.proofs.Words.{WordAt, at_word, word-at}
use Rattle.sml_grammar.proofs.Answers.{le_or, got, then_ok, then_deep, not_deep, on_some-split, then_taken-ok, then_taken-deep, then_taken-step, separated-ok, separated-more, separated-deep, GoodTurn, many-ok, many-far, many-last, many-more, many-deep, many-stop}
use Rattle.sml_grammar.proofs.Vids.{binds-is, binds-found, binds-shorter, names-is, names-found, names-shorter}
use Rattle.sml_grammar.proofs.BindStops.{BindStops, binds-end, cons-end}
use Rattle.sml_grammar.proofs.MaybeTypes.{of-sound, of-shorter}
use Rattle.sml_grammar.proofs.BindOf.{read_of, OpensOf, in_of, of-read, of-far, of-over, of-opens}

abbrev depth_ex : ExBind → ℕ
depth_ex (new_exn p v t) = depth_some t
depth_ex (same_exn p v x) = 0

depth-ex : (b : ExBind) (bs : List ExBind) → depth_ex_binds (b ∷ bs) ≡ max (depth_ex b) (depth_ex_binds bs)
depth-ex (new_exn p v t) bs = refl
depth-ex (same_exn p v x) bs = omega arith

abbrev as_same : Placed Vid → Placed LongVid → List Terminal → Answer ExBind
as_same v x o = read (same_exn v.place v.it x) o

abbrev as_new : Placed Vid → Option Ty → List Terminal → Answer ExBind
as_new v t o = read (new_exn v.place v.it t) o

abbrev after_ex : NoState → ExBind → List Terminal → Answer (Turn (List ExBind) NoState)
after_ex s b o = separated (after_word res.And o) (λ bs. b ∷ bs) (b ∷ []) s o

abbrev after_vid : ℕ → Fixity → NoState → Placed Vid → List Terminal → Answer (Turn (List ExBind) NoState)
after_vid n f s v m = then_read (ex_bind_rest n f v m) (after_ex s)

one-shorter : {f : Fixity} {i o : List Terminal} {b : ExBind} → OneExBind f i b o → length o < length i
one-shorter (new_exception b d) = let s = binds-shorter b in let r = of-shorter d in omega arith
one-shorter (same_exception r b d) = let s = binds-shorter b in let t = names-shorter d in omega arith

pub ex_binds-shorter : {f : Fixity} {i o : List Terminal} {bs : List ExBind} → ExBinds f i bs o → length o < length i
ex_binds-shorter (last_exn d) = one-shorter d
ex_binds-shorter (more_exns p d e) = let s = one-shorter d in let r = ex_binds-shorter e in omega arith

in-exn : {f : Fixity} {i m : List Terminal} {p : ℕ} {v : Placed Vid} {d : ℕ} → BindsVid f i p v m → OpensOf m d → OpensExBinds f i d
in-exn b (in_of q o) = in_exn q b o

one-opens : {f : Fixity} {i o : List Terminal} {b : ExBind} → OneExBind f i b o → (d : ℕ) → 1 ≤ d → d ≤ depth_ex b → OpensExBinds f i d
one-opens (new_exception b e) d low le = in-exn b (of-opens e d low le)
one-opens (same_exception r b e) d low le = absurd (omega arith)

pub ex_binds-opens : {f : Fixity} {i o : List Terminal} {bs : List ExBind} → ExBinds f i bs o → (d : ℕ) → 1 ≤ d → d ≤ depth_ex_binds bs → OpensExBinds f i d
ex_binds-opens (last_exn {b} e) d low le = let h = depth-ex b [] in one-opens e d low (omega arith)
ex_binds-opens (more_exns {b} {bs} p e r) d low le =
    let w = depth-ex b bs in
    elim (le_or d (depth_ex b)) [ inl h ↦ one-opens e d low h | inr h ↦ past_exn p e (ex_binds-opens r d low (omega arith)) ]

pub record GoodExBinds (n : ℕ) (f : Fixity) (i : List Terminal) (y : Read (List ExBind)) : Type 0 where
  pub reads : ExBinds f i y.tree y.rest
  pub fits : depth_ex_binds y.tree ≤ n

-- after the exception's name
record GoodRest (n : ℕ) (f : Fixity) (i : List Terminal) (y : Read ExBind) : Type 0 where
  reads : OneExBind f i y.tree y.rest
  fits : depth_ex y.tree ≤ n

module _ (n : ℕ) (f : Fixity) where
  same-sound : {i m k : List Terminal} {p : ℕ} {v : Placed Vid} → BindsVid f i p v m → WordAt res.Equals m k → (y : Read ExBind) →
      then_taken (names_vid f k) (as_same v) ≡ ok y → GoodRest n f i y
  same-sound {i} {k} {p} {v} b (at_word r) y h =
      let x = then_taken-ok (names_vid f k) (as_same v) y h in
      subst (λ (z : Read ExBind). GoodRest n f i z) (got x.3) (record { reads = same_exception r b (names-is f k x.0 x.1 x.2); fits = omega arith })

  rest-sound : {i m : List Terminal} {v : Placed Vid} → BindsVid f i (place_at i) v m → (y : Read ExBind) → ex_bind_rest n f v m ≡ ok y → GoodRest n f i y
  rest-sound {i} {m} {v} b y h =
      elim (on_some-split (after_word res.Equals m) (λ k. then_taken (names_vid f k) (as_same v)) (then_read (read_of n m) (as_new v)) h) [
        | inl u ↦ same-sound b (word-at res.Equals m u.0 u.1) y u.2
        | inr u ↦
            let t = then_ok (read_of n m) (as_new v) y u.1 in
            let g = of-sound n m t.0 t.1 in
            subst (λ (z : Read ExBind). GoodRest n f i z) (got t.2) (record { reads = new_exception b g.reads; fits = g.fits })
      ]

  abbrev Goes : NoState → List Terminal → List ExBind → List Terminal → Type 0
  Goes s i bs o = GoodExBinds n f i (record { tree = bs; rest = o })

  last-good : {i o : List Terminal} {b : ExBind} → OneExBind f i b o → depth_ex b ≤ n → GoodExBinds n f i (record { tree = b ∷ []; rest = o })
  last-good {b} d le = let e = depth-ex b [] in record { reads = last_exn d; fits = omega arith }

  more-good : {i m k : List Terminal} {b : ExBind} → OneExBind f i b k → depth_ex b ≤ n → WordAt res.And k m → (bs : List ExBind) (o : List Terminal) →
      GoodExBinds n f m (record { tree = bs; rest = o }) → GoodExBinds n f i (record { tree = b ∷ bs; rest = o })
  more-good {b} d le (at_word p) bs o g = let h = g.fits in let e = depth-ex b bs in record { reads = more_exns p d g.reads; fits = omega arith }

  turn-ok : (s : NoState) (i : List Terminal) (y : Read (Turn (List ExBind) NoState)) → ex_bind_turn n f s i ≡ ok y → GoodTurn Goes s i y.tree y.rest
  turn-ok s i y h =
      let v = then_taken-ok (binds_vid f i) (after_vid n f s) y h in
      let t = then_ok (ex_bind_rest n f v.0 v.1) (after_ex s) y v.3 in
      let g = rest-sound {v = v.0} (binds-is f i v.0 v.1 v.2) t.0 t.1 in
      elim (separated-ok (after_word res.And t.0.rest) (λ bs. t.0.tree ∷ bs) (t.0.tree ∷ []) s t.0.rest t.2) [
        | inl u ↦ subst (λ (z : Read (Turn (List ExBind) NoState)). GoodTurn Goes s i z.tree z.rest) u.1 (last-good g.reads g.fits)
        | inr u ↦ subst (λ (z : Read (Turn (List ExBind) NoState)). GoodTurn Goes s i z.tree z.rest) u.2 (more-good g.reads g.fits (word-at res.And t.0.rest u.0 u.1))
      ]

  pub ex_binds-sound : (i : List Terminal) (y : Read (List ExBind)) → read_ex_binds n f i ≡ ok y → GoodExBinds n f i y
  ex_binds-sound i y h = many-ok (ex_bind_turn n f) Goes turn-ok (suc (length i)) no_state i y h

  -- one binding, where what follows doesn't go on with it

  of-no_equals : {m o : List Terminal} {t : Option Ty} → MaybeOf m t o → after_word res.Equals o ≡ None → after_word res.Equals m ≡ None
  of-no_equals without_of e = e
  of-no_equals (with_of p t) e = refl

  rest-new : (v : Placed Vid) {m o : List Terminal} {t : Option Ty} → MaybeOf m t o → depth_some t ≤ n → after_word res.Of o ≡ None → after_word res.Equals o ≡ None → ty_could_go_on 0 o ≡ false →
      ex_bind_rest n f v m ≡ read (new_exn v.place v.it t) o
  rest-new v {m} d le e q c =
      ap (λ z. on_some z (λ k. then_taken (names_vid f k) (as_same v)) (then_read (read_of n m) (as_new v))) (of-no_equals d q) ∙ ap (λ z. then_read z (as_new v)) (of-read n d le e c)

  rest-same : (v : Placed Vid) (r : ℕ) {m o : List Terminal} {q : ℕ} {x : Placed LongVid} → NamesVid f m q x o → ex_bind_rest n f v (reserved r res.Equals ∷ m) ≡ read (same_exn v.place v.it x) o
  rest-same v r d = then_taken-step (as_same v) (names-found d) refl

  -- the binding is read, and what comes of it
  one-complete : {i o : List Terminal} {b : ExBind} → OneExBind f i b o → depth_ex b ≤ n → after_word res.Of o ≡ None → after_word res.Equals o ≡ None → ty_could_go_on 0 o ≡ false →
      ex_bind_turn n f no_state i ≡ after_ex no_state b o
  one-complete (new_exception {m} {p} {v} b d) le e q c =
      then_taken-step (after_vid n f no_state) (binds-found b) (ap (λ z. then_read z (after_ex no_state)) (rest-new v d le e q c))
  one-complete (same_exception {m} {p} {v} r b d) le e q c =
      then_taken-step (after_vid n f no_state) (binds-found b) (ap (λ z. then_read z (after_ex no_state)) (rest-same v r d))

  turn-goes : (p : ℕ) {i m : List Terminal} {b : ExBind} → OneExBind f i b (reserved p res.And ∷ m) → depth_ex b ≤ n → ex_bind_turn n f no_state i ≡ read (more (λ bs. b ∷ bs) no_state) m
  turn-goes p d le = one-complete d le refl refl refl

  turn-ends : {i o : List Terminal} {b : ExBind} → OneExBind f i b o → depth_ex b ≤ n → BindStops o → ex_bind_turn n f no_state i ≡ read (last (b ∷ [])) o
  turn-ends {o} {b} d le stops =
      let e = binds-end o stops in
      let c = cons-end o e.cons in
      one-complete d le c.of_ e.equals c.ty ∙ ap (λ z. separated z (λ bs. b ∷ bs) (b ∷ []) no_state o) e.and_

  turns-complete : {i o : List Terminal} {bs : List ExBind} → ExBinds f i bs o → depth_ex_binds bs ≤ n → BindStops o → (k : ℕ) → length i < k → many (ex_bind_turn n f) k no_state i ≡ read bs o
  turns-complete d le stops zero lt = absurd (omega arith)
  turns-complete (last_exn {b} d) le stops (suc k) lt = let e = depth-ex b [] in many-last (ex_bind_turn n f) k (turn-ends d (omega arith) stops)
  turns-complete (more_exns {b} {bs} p d e) le stops (suc k) lt =
      let s = one-shorter d in let h = depth-ex b bs in
      many-more (ex_bind_turn n f) k (turn-goes p d (omega arith)) (turns-complete e (omega arith) stops k (omega arith))

  pub ex_binds-complete : {i o : List Terminal} {bs : List ExBind} → ExBinds f i bs o → depth_ex_binds bs ≤ n → BindStops o → read_ex_binds n f i ≡ read bs o
  ex_binds-complete {i} d le stops = turns-complete d le stops (suc (length i)) (omega arith)

  -- too deep

  rest-far : (v : Placed Vid) (m : List Terminal) → ex_bind_rest n f v m ≡ deep → OpensOf m (suc n)
  rest-far v m h =
      elim (on_some-split (after_word res.Equals m) (λ k. then_taken (names_vid f k) (as_same v)) (then_read (read_of n m) (as_new v)) h) [
        | inl u ↦ let x = then_taken-deep (names_vid f u.0) (as_same v) u.2 in not_deep x.3
        | inr u ↦ elim (then_deep (read_of n m) (as_new v) u.1) [ inl e ↦ of-far n m e | inr t ↦ not_deep t.2 ]
      ]

  turn-far : (s : NoState) (i : List Terminal) → ex_bind_turn n f s i ≡ deep → OpensExBinds f i (suc n)
  turn-far s i h =
      let v = then_taken-deep (binds_vid f i) (after_vid n f s) h in
      elim (then_deep (ex_bind_rest n f v.0 v.1) (after_ex s) v.3) [
        | inl e ↦ in-exn (binds-is f i v.0 v.1 v.2) (rest-far v.0 v.1 e)
        | inr t ↦ separated-deep (after_word res.And t.0.rest) (λ bs. t.0.tree ∷ bs) (t.0.tree ∷ []) s t.0.rest t.2
      ]

  turn-past : (s : NoState) (i : List Terminal) (put : List ExBind → List ExBind) (t : NoState) (m : List Terminal) → ex_bind_turn n f s i ≡ read (more put t) m → OpensExBinds f m (suc n) → OpensExBinds f i (suc n)
  turn-past s i put t m h o =
      let y : Read (Turn (List ExBind) NoState) = record { tree = more put t; rest = m } in
      let v = then_taken-ok (binds_vid f i) (after_vid n f s) y h in
      let u = then_ok (ex_bind_rest n f v.0 v.1) (after_ex s) y v.3 in
      let g = rest-sound {v = v.0} (binds-is f i v.0 v.1 v.2) u.0 u.1 in
      let w = separated-more (after_word res.And u.0.rest) (λ bs. u.0.tree ∷ bs) (u.0.tree ∷ []) s u.0.rest put t m u.2 in
      go g.reads (word-at res.And u.0.rest m w.0)
    where
      go : {k : List Terminal} {b : ExBind} → OneExBind f i b k → WordAt res.And k m → OpensExBinds f i (suc n)
      go d (at_word p) = past_exn p d o

  pub ex_binds-far : (i : List Terminal) → read_ex_binds n f i ≡ deep → OpensExBinds f i (suc n)
  ex_binds-far i h = many-far (ex_bind_turn n f) (λ s m. OpensExBinds f m (suc n)) turn-far turn-past (suc (length i)) no_state i h

  -- `of` is there, and no `=`
  rest-over : (v : Placed Vid) {m : List Terminal} {d : ℕ} → OpensOf m d → n < d → ex_bind_rest n f v m ≡ deep
  rest-over v (in_of q o) lt = ap (λ z. then_read z (as_new v)) (of-over n (in_of q o) lt)

  vid-over : {i m : List Terminal} {p : ℕ} {v : Placed Vid} {d : ℕ} → BindsVid f i p v m → OpensOf m d → n < d → ex_bind_turn n f no_state i ≡ deep
  vid-over {p} {v} b o lt = then_taken-step (after_vid n f no_state) (binds-found b) (ap (λ z. then_read z (after_ex no_state)) (rest-over v o lt))

  one-over : {i o : List Terminal} {b : ExBind} → OneExBind f i b o → n < depth_ex b → ex_bind_turn n f no_state i ≡ deep
  one-over (new_exception {s = t} b d) lt = vid-over b (of-opens d (depth_some t) (omega arith) (omega arith)) lt
  one-over (same_exception r b d) lt = absurd (omega arith)

  turns-over : {i : List Terminal} {d : ℕ} → OpensExBinds f i d → n < d → (k : ℕ) → length i < k → many (ex_bind_turn n f) k no_state i ≡ deep
  turns-over o lt zero le = absurd (omega arith)
  turns-over (in_exn q b o) lt (suc k) le = many-stop (ex_bind_turn n f) k (vid-over b (in_of q o) lt)
  turns-over (past_exn {b} p d o) lt (suc k) le =
      let s = one-shorter d in
      elim (le_or (depth_ex b) n) [
        | inl e ↦ many-deep (ex_bind_turn n f) k (turn-goes p d e) (turns-over o lt k (omega arith))
        | inr e ↦ many-stop (ex_bind_turn n f) k (one-over d e)
      ]

  pub ex_binds-over : {i : List Terminal} {d : ℕ} → OpensExBinds f i d → n < d → read_ex_binds n f i ≡ deep
  ex_binds-over {i} o lt = turns-over o lt (suc (length i)) (omega arith)
