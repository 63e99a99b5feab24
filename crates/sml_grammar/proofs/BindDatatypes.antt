-- Bindings of datatypes.
use Rattle.std.proofs.Common.{◌≡◌, ℕ, zero, suc, ◌≤◌, ◌<◌, List, [], ◌∷◌, length, inl, inr, refl, ap, ◌∙◌, subst, arith}
use Rattle.mlc_names.specs.declared.token.Reserved.TheVariants as res
use Rattle.sml_tree.specs.Terminal.{Terminal, reserved}
use Rattle.sml_tree.specs.declared.ident.Tyvar.{Tyvar}
use Rattle.sml_tree.specs.Fixity.{Fixity}
use Rattle.sml_tree.specs.ReadTree.{ConBind, DataBind}
use Rattle.sml_tree.specs.Depth.{depth_cons, depth_data_binds}
use Rattle.sml_tree.specs.Grammar.{ConBinds, OneDataBind, data_bind, DataBinds, last_data_bind, more_data_binds}
use Rattle.sml_grammar.specs.Answer.{Read, Answer, ok, deep, read, then_read, Turn, last, more, many}
use Rattle.sml_grammar.specs.Terminals.{place_at, after_word, separated, NoState, no_state}
use Rattle.sml_grammar.specs.Bindings.{read_cons, data_bind_turn, read_data_binds}
use Rattle.sml_grammar.specs.PartialBindings.{OpensCons, OpensDataBinds, in_data_bind, past_data_bind}
use Rattle.sml_grammar.proofs.Words.{WordAt, at_word, word-at}
use Rattle.sml_grammar.proofs.Answers.{le_or, then_ok, then_deep, separated-ok, separated-more, separated-deep, GoodTurn, many-ok, many-far, many-last, many-more, many-deep, many-stop}
use Rattle.sml_grammar.proofs.BindTyvars.{Bound, bound, bound-begins, bound-shorter, begins-place, bound-ok, bound-deep, bound-step}
use Rattle.sml_grammar.proofs.BindStops.{BindStops, binds-end, stops-cons}
use Rattle.sml_grammar.proofs.BindCons.{cons-sound, cons-complete, cons-far, cons-over, cons-opens, cons-shorter}

-- the binding that begins at i
abbrev bind_at : List Terminal → List Tyvar → ℕ → List ConBind → DataBind
bind_at i as_ x cs = record { place = place_at i; tyvars = as_; tycon = x; cons = cs }

abbrev after_cons : NoState → List Terminal → List Tyvar → ℕ → List ConBind → List Terminal → Answer (Turn (List DataBind) NoState)
after_cons s i as_ x cs o = separated (after_word res.And o) (λ bs. bind_at i as_ x cs ∷ bs) (bind_at i as_ x cs ∷ []) s o

abbrev after_equals : ℕ → Fixity → NoState → List Terminal → List Tyvar → ℕ → List Terminal → Answer (Turn (List DataBind) NoState)
after_equals n f s i as_ x m = then_read (read_cons n f m) (after_cons s i as_ x)

one-bind : {f : Fixity} {i m o : List Terminal} {as_ : List Tyvar} {x : ℕ} {cs : List ConBind} → Bound i as_ x m → ConBinds f m cs o → OneDataBind f i (bind_at i as_ x cs) o
one-bind (bound r d c) t = data_bind r (bound-begins (bound r d c)) d c t

-- a binding by its parts
data Parts (f : Fixity) : List Terminal → DataBind → List Terminal → Type 0 where
  parts_of : {i m o : List Terminal} {as_ : List Tyvar} {x : ℕ} {cs : List ConBind} → Bound i as_ x m → ConBinds f m cs o → Parts f i (bind_at i as_ x cs) o

parts : {f : Fixity} {i o : List Terminal} {b : DataBind} → OneDataBind f i b o → Parts f i b o
parts (data_bind {f} {i} {o} {as_} {x} {cs} r p d c t) =
    subst (λ (z : ℕ). Parts f i (record { place = z; tyvars = as_; tycon = x; cons = cs }) o) (begins-place p) (parts_of (bound r d c) t)

one-shorter : {f : Fixity} {i o : List Terminal} {b : DataBind} → OneDataBind f i b o → length o < length i
one-shorter {f} d = go (parts d)
  where
    go : {i o : List Terminal} {b : DataBind} → Parts f i b o → length o < length i
    go (parts_of c t) = let s = cons-shorter t in let r = bound-shorter c in omega arith

pub data_binds-shorter : {f : Fixity} {i o : List Terminal} {bs : List DataBind} → DataBinds f i bs o → length o < length i
data_binds-shorter (last_data_bind d) = one-shorter d
data_binds-shorter (more_data_binds p d e) = let s = one-shorter d in let r = data_binds-shorter e in omega arith

in-bind : {f : Fixity} {i m : List Terminal} {as_ : List Tyvar} {x d : ℕ} → Bound i as_ x m → OpensCons f m d → OpensDataBinds f i d
in-bind (bound r d c) o = in_data_bind r d c o

one-opens : {f : Fixity} {i o : List Terminal} {b : DataBind} → OneDataBind f i b o → (d : ℕ) → 1 ≤ d → d ≤ depth_cons b.cons → OpensDataBinds f i d
one-opens {f} e d low le = go (parts e) le
  where
    go : {i o : List Terminal} {b : DataBind} → Parts f i b o → d ≤ depth_cons b.cons → OpensDataBinds f i d
    go (parts_of c t) le = in-bind c (cons-opens t d low le)

pub data_binds-opens : {f : Fixity} {i o : List Terminal} {bs : List DataBind} → DataBinds f i bs o → (d : ℕ) → 1 ≤ d → d ≤ depth_data_binds bs → OpensDataBinds f i d
data_binds-opens (last_data_bind e) d low le = one-opens e d low (omega arith)
data_binds-opens (more_data_binds {b} p e r) d low le =
    elim (le_or d (depth_cons b.cons)) [ inl h ↦ one-opens e d low h | inr h ↦ past_data_bind p e (data_binds-opens r d low (omega arith)) ]

pub record GoodDataBinds (n : ℕ) (f : Fixity) (i : List Terminal) (y : Read (List DataBind)) : Type 0 where
  pub reads : DataBinds f i y.tree y.rest
  pub fits : depth_data_binds y.tree ≤ n

module _ (n : ℕ) (f : Fixity) where
  abbrev Goes : NoState → List Terminal → List DataBind → List Terminal → Type 0
  Goes s i bs o = GoodDataBinds n f i (record { tree = bs; rest = o })

  more-binds : {i m k : List Terminal} {b : DataBind} → OneDataBind f i b k → depth_cons b.cons ≤ n → WordAt res.And k m → (bs : List DataBind) (o : List Terminal) →
      GoodDataBinds n f m (record { tree = bs; rest = o }) → GoodDataBinds n f i (record { tree = b ∷ bs; rest = o })
  more-binds d le (at_word p) bs o g = let e = g.fits in record { reads = more_data_binds p d g.reads; fits = omega arith }

  turn-ok : (s : NoState) (i : List Terminal) (y : Read (Turn (List DataBind) NoState)) → data_bind_turn n f s i ≡ ok y → GoodTurn Goes s i y.tree y.rest
  turn-ok s i y h =
      let b = bound-ok (after_equals n f s i) i y h in
      let t = then_ok (read_cons n f b.2) (after_cons s i b.0 b.1) y b.4 in
      let g = cons-sound n f b.2 t.0 t.1 in
      let e = g.fits in
      let d = one-bind b.3 g.reads in
      elim (separated-ok (after_word res.And t.0.rest) (λ bs. bind_at i b.0 b.1 t.0.tree ∷ bs) (bind_at i b.0 b.1 t.0.tree ∷ []) s t.0.rest t.2) [
        | inl u ↦ subst (λ (z : Read (Turn (List DataBind) NoState)). GoodTurn Goes s i z.tree z.rest) u.1 (record { reads = last_data_bind d; fits = omega arith })
        | inr u ↦ subst (λ (z : Read (Turn (List DataBind) NoState)). GoodTurn Goes s i z.tree z.rest) u.2 (more-binds d e (word-at res.And t.0.rest u.0 u.1))
      ]

  pub data_binds-sound : (i : List Terminal) (y : Read (List DataBind)) → read_data_binds n f i ≡ ok y → GoodDataBinds n f i y
  data_binds-sound i y h = many-ok (data_bind_turn n f) Goes turn-ok (suc (length i)) no_state i y h

  -- one turn, before `and` and at the end

  turn-goes : (p : ℕ) {i m : List Terminal} {b : DataBind} → OneDataBind f i b (reserved p res.And ∷ m) → depth_cons b.cons ≤ n → data_bind_turn n f no_state i ≡ read (more (λ bs. b ∷ bs) no_state) m
  turn-goes p {m} d le = go (parts d) refl le
    where
      go : {i o : List Terminal} {b : DataBind} → Parts f i b o → o ≡ reserved p res.And ∷ m → depth_cons b.cons ≤ n → data_bind_turn n f no_state i ≡ read (more (λ bs. b ∷ bs) no_state) m
      go (parts_of {i} {m = k} {o} {as_} {x} {cs} c t) e le =
          bound-step (after_equals n f no_state i) c
          ∙ ap (λ z. then_read z (after_cons no_state i as_ x)) (cons-complete n f (subst (λ (z : List Terminal). ConBinds f k cs z) e t) le refl)

  turn-ends : {i o : List Terminal} {b : DataBind} → OneDataBind f i b o → depth_cons b.cons ≤ n → BindStops o → data_bind_turn n f no_state i ≡ read (last (b ∷ [])) o
  turn-ends d le stops = go (parts d) le stops
    where
      go : {i o : List Terminal} {b : DataBind} → Parts f i b o → depth_cons b.cons ≤ n → BindStops o → data_bind_turn n f no_state i ≡ read (last (b ∷ [])) o
      go (parts_of {i} {o} {as_} {x} {cs} c t) le stops =
          bound-step (after_equals n f no_state i) c
          ∙ ap (λ z. then_read z (after_cons no_state i as_ x)) (cons-complete n f t le (stops-cons o stops))
          ∙ ap (λ z. separated z (λ bs. bind_at i as_ x cs ∷ bs) (bind_at i as_ x cs ∷ []) no_state o) (binds-end o stops).and_

  turns-complete : {i o : List Terminal} {bs : List DataBind} → DataBinds f i bs o → depth_data_binds bs ≤ n → BindStops o → (k : ℕ) → length i < k → many (data_bind_turn n f) k no_state i ≡ read bs o
  turns-complete d le stops zero lt = absurd (omega arith)
  turns-complete (last_data_bind d) le stops (suc k) lt = many-last (data_bind_turn n f) k (turn-ends d (omega arith) stops)
  turns-complete (more_data_binds p d e) le stops (suc k) lt =
      let s = one-shorter d in
      many-more (data_bind_turn n f) k (turn-goes p d (omega arith)) (turns-complete e (omega arith) stops k (omega arith))

  pub data_binds-complete : {i o : List Terminal} {bs : List DataBind} → DataBinds f i bs o → depth_data_binds bs ≤ n → BindStops o → read_data_binds n f i ≡ read bs o
  data_binds-complete {i} d le stops = turns-complete d le stops (suc (length i)) (omega arith)

  -- too deep

  turn-far : (s : NoState) (i : List Terminal) → data_bind_turn n f s i ≡ deep → OpensDataBinds f i (suc n)
  turn-far s i h =
      let b = bound-deep (after_equals n f s i) i h in
      elim (then_deep (read_cons n f b.2) (after_cons s i b.0 b.1) b.4) [
        | inl e ↦ in-bind b.3 (cons-far n f b.2 e)
        | inr t ↦ separated-deep (after_word res.And t.0.rest) (λ bs. bind_at i b.0 b.1 t.0.tree ∷ bs) (bind_at i b.0 b.1 t.0.tree ∷ []) s t.0.rest t.2
      ]

  turn-past : (s : NoState) (i : List Terminal) (put : List DataBind → List DataBind) (t : NoState) (m : List Terminal) → data_bind_turn n f s i ≡ read (more put t) m → OpensDataBinds f m (suc n) → OpensDataBinds f i (suc n)
  turn-past s i put t m h o =
      let y : Read (Turn (List DataBind) NoState) = record { tree = more put t; rest = m } in
      let b = bound-ok (after_equals n f s i) i y h in
      let u = then_ok (read_cons n f b.2) (after_cons s i b.0 b.1) y b.4 in
      let g = cons-sound n f b.2 u.0 u.1 in
      let w = separated-more (after_word res.And u.0.rest) (λ bs. bind_at i b.0 b.1 u.0.tree ∷ bs) (bind_at i b.0 b.1 u.0.tree ∷ []) s u.0.rest put t m u.2 in
      go (one-bind b.3 g.reads) (word-at res.And u.0.rest m w.0)
    where
      go : {k : List Terminal} {b : DataBind} → OneDataBind f i b k → WordAt res.And k m → OpensDataBinds f i (suc n)
      go d (at_word p) = past_data_bind p d o

  pub data_binds-far : (i : List Terminal) → read_data_binds n f i ≡ deep → OpensDataBinds f i (suc n)
  data_binds-far i h = many-far (data_bind_turn n f) (λ s m. OpensDataBinds f m (suc n)) turn-far turn-past (suc (length i)) no_state i h

  bound-over : {i m : List Terminal} {as_ : List Tyvar} {x d : ℕ} → Bound i as_ x m → OpensCons f m d → n < d → data_bind_turn n f no_state i ≡ deep
  bound-over {i} {as_} {x} c o lt = bound-step (after_equals n f no_state i) c ∙ ap (λ z. then_read z (after_cons no_state i as_ x)) (cons-over n f o lt)

  one-over : {i o : List Terminal} {b : DataBind} → OneDataBind f i b o → n < depth_cons b.cons → data_bind_turn n f no_state i ≡ deep
  one-over d lt = go (parts d) lt
    where
      go : {i o : List Terminal} {b : DataBind} → Parts f i b o → n < depth_cons b.cons → data_bind_turn n f no_state i ≡ deep
      go (parts_of {cs} c t) lt = bound-over c (cons-opens t (depth_cons cs) (omega arith) (omega arith)) lt

  turns-over : {i : List Terminal} {d : ℕ} → OpensDataBinds f i d → n < d → (k : ℕ) → length i < k → many (data_bind_turn n f) k no_state i ≡ deep
  turns-over o lt zero le = absurd (omega arith)
  turns-over (in_data_bind r d c o) lt (suc k) le = many-stop (data_bind_turn n f) k (bound-over (bound r d c) o lt)
  turns-over (past_data_bind {b} p d o) lt (suc k) le =
      let s = one-shorter d in
      elim (le_or (depth_cons b.cons) n) [
        | inl e ↦ many-deep (data_bind_turn n f) k (turn-goes p d e) (turns-over o lt k (omega arith))
        | inr e ↦ many-stop (data_bind_turn n f) k (one-over d e)
      ]

  pub data_binds-over : {i : List Terminal} {d : ℕ} → OpensDataBinds f i d → n < d → read_data_binds n f i ≡ deep
  data_binds-over {i} o lt = turns-over o lt (suc (length i)) (omega arith)
