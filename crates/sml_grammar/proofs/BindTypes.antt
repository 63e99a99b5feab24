-- Bindings of types.
use Rattle.std.proofs.Common.{◌≡◌, ℕ, zero, suc, ◌≤◌, ◌<◌, List, [], ◌∷◌, length, inl, inr, refl, ap, ◌∙◌, subst, arith}
use Rattle.mlc_names.specs.declared.token.Reserved.TheVariants as res
use Rattle.sml_tree.specs.Terminal.{Terminal, reserved}
use Rattle.sml_tree.specs.declared.ident.Tyvar.{Tyvar}
use Rattle.sml_tree.specs.ReadTree.{Ty, TypeBind}
use Rattle.sml_tree.specs.Depth.{depth_ty, depth_type_binds}
use Rattle.sml_tree.specs.Grammar.{ReadsTy, OneTypeBind, type_bind, TypeBinds, last_type_bind, more_type_binds}
use Rattle.sml_grammar.specs.Answer.{Read, Answer, ok, deep, read, then_read, Turn, last, more, many}
use Rattle.sml_grammar.specs.Terminals.{place_at, after_word, separated, NoState, no_state}
use Rattle.sml_grammar.specs.Types.{read_ty}
use Rattle.sml_grammar.specs.Bindings.{type_bind_turn, read_type_binds}
use Rattle.sml_grammar.specs.PartialTypes.{OpensTy}
use Rattle.sml_grammar.specs.PartialBindings.{OpensTypeBinds, in_type_bind, past_type_bind}
use Rattle.sml_grammar.proofs.Words.{WordAt, at_word, word-at}
use Rattle.sml_grammar.proofs.Answers.{le_or, then_ok, then_deep, separated-ok, separated-more, separated-deep, GoodTurn, many-ok, many-far, many-last, many-more, many-deep, many-stop}
use Rattle.sml_grammar.proofs.BindTyvars.{Bound, bound, bound-begins, bound-shorter, begins-place, bound-ok, bound-deep, bound-step}
use Rattle.sml_grammar.proofs.BindStops.{BindStops, binds-end, stops-ty}
use Rattle.sml_grammar.proofs.TypeShapes.{ty-shorter}
use Rattle.sml_grammar.proofs.TypeSound.{ty-sound}
use Rattle.sml_grammar.proofs.TypeComplete.{ty-complete}
use Rattle.sml_grammar.proofs.TypePaths.{ty-opens}
use Rattle.sml_grammar.proofs.TypeOver.{ty-over}
use Rattle.sml_grammar.proofs.TypeFar.{ty-far}

-- the binding that begins at i
abbrev bind_at : List Terminal → List Tyvar → ℕ → Ty → TypeBind
bind_at i as_ x a = record { place = place_at i; tyvars = as_; tycon = x; ty = a }

abbrev after_ty : NoState → List Terminal → List Tyvar → ℕ → Ty → List Terminal → Answer (Turn (List TypeBind) NoState)
after_ty s i as_ x a o = separated (after_word res.And o) (λ bs. bind_at i as_ x a ∷ bs) (bind_at i as_ x a ∷ []) s o

abbrev after_equals : ℕ → NoState → List Terminal → List Tyvar → ℕ → List Terminal → Answer (Turn (List TypeBind) NoState)
after_equals n s i as_ x m = then_read (read_ty n 0 m) (after_ty s i as_ x)

one-bind : {i m o : List Terminal} {as_ : List Tyvar} {x : ℕ} {a : Ty} → Bound i as_ x m → ReadsTy m a o → OneTypeBind i (bind_at i as_ x a) o
one-bind (bound r d c) t = type_bind r (bound-begins (bound r d c)) d c t

-- a binding by its parts
data Parts : List Terminal → TypeBind → List Terminal → Type 0 where
  parts_of : {i m o : List Terminal} {as_ : List Tyvar} {x : ℕ} {a : Ty} → Bound i as_ x m → ReadsTy m a o → Parts i (bind_at i as_ x a) o

parts : {i o : List Terminal} {b : TypeBind} → OneTypeBind i b o → Parts i b o
parts (type_bind {i} {o} {as_} {x} {a} r p d c t) =
    subst (λ (z : ℕ). Parts i (record { place = z; tyvars = as_; tycon = x; ty = a }) o) (begins-place p) (parts_of (bound r d c) t)

one-shorter : {i o : List Terminal} {b : TypeBind} → OneTypeBind i b o → length o < length i
one-shorter d = go (parts d)
  where
    go : {i o : List Terminal} {b : TypeBind} → Parts i b o → length o < length i
    go (parts_of {m} {o} {a} c t) = let s = ty-shorter t in let r = bound-shorter c in omega arith

pub type_binds-shorter : {i o : List Terminal} {bs : List TypeBind} → TypeBinds i bs o → length o < length i
type_binds-shorter (last_type_bind d) = one-shorter d
type_binds-shorter (more_type_binds p d e) = let s = one-shorter d in let r = type_binds-shorter e in omega arith

in-bind : {i m : List Terminal} {as_ : List Tyvar} {x d : ℕ} → Bound i as_ x m → OpensTy 0 m d → OpensTypeBinds i d
in-bind (bound r d c) o = in_type_bind r d c o

one-opens : {i o : List Terminal} {b : TypeBind} → OneTypeBind i b o → (d : ℕ) → 1 ≤ d → d ≤ depth_ty b.ty → OpensTypeBinds i d
one-opens e d low le = go (parts e) le
  where
    go : {i o : List Terminal} {b : TypeBind} → Parts i b o → d ≤ depth_ty b.ty → OpensTypeBinds i d
    go (parts_of {m} {o} {a} c t) le = in-bind c (ty-opens t (omega arith) d low le)

pub type_binds-opens : {i o : List Terminal} {bs : List TypeBind} → TypeBinds i bs o → (d : ℕ) → 1 ≤ d → d ≤ depth_type_binds bs → OpensTypeBinds i d
type_binds-opens (last_type_bind e) d low le = one-opens e d low (omega arith)
type_binds-opens (more_type_binds {b} {bs} p e f) d low le =
    elim (le_or d (depth_ty b.ty)) [ inl h ↦ one-opens e d low h | inr h ↦ past_type_bind p e (type_binds-opens f d low (omega arith)) ]

pub record GoodTypeBinds (n : ℕ) (i : List Terminal) (y : Read (List TypeBind)) : Type 0 where
  pub reads : TypeBinds i y.tree y.rest
  pub fits : depth_type_binds y.tree ≤ n

module _ (n : ℕ) where
  abbrev Goes : NoState → List Terminal → List TypeBind → List Terminal → Type 0
  Goes s i bs o = GoodTypeBinds n i (record { tree = bs; rest = o })

  more-binds : {i m k : List Terminal} {b : TypeBind} → OneTypeBind i b k → depth_ty b.ty ≤ n → WordAt res.And k m → (bs : List TypeBind) (o : List Terminal) →
      GoodTypeBinds n m (record { tree = bs; rest = o }) → GoodTypeBinds n i (record { tree = b ∷ bs; rest = o })
  more-binds d le (at_word p) bs o g = let f = g.fits in record { reads = more_type_binds p d g.reads; fits = omega arith }

  turn-ok : (s : NoState) (i : List Terminal) (y : Read (Turn (List TypeBind) NoState)) → type_bind_turn n s i ≡ ok y → GoodTurn Goes s i y.tree y.rest
  turn-ok s i y h =
      let b = bound-ok (after_equals n s i) i y h in
      let t = then_ok (read_ty n 0 b.2) (after_ty s i b.0 b.1) y b.4 in
      let g = ty-sound n 0 b.2 t.0 (omega arith) t.1 in
      let f = g.fits in
      let d = one-bind b.3 g.reads in
      elim (separated-ok (after_word res.And t.0.rest) (λ bs. bind_at i b.0 b.1 t.0.tree ∷ bs) (bind_at i b.0 b.1 t.0.tree ∷ []) s t.0.rest t.2) [
        | inl u ↦ subst (λ (z : Read (Turn (List TypeBind) NoState)). GoodTurn Goes s i z.tree z.rest) u.1 (record { reads = last_type_bind d; fits = omega arith })
        | inr u ↦ subst (λ (z : Read (Turn (List TypeBind) NoState)). GoodTurn Goes s i z.tree z.rest) u.2 (more-binds d f (word-at res.And t.0.rest u.0 u.1))
      ]

  pub type_binds-sound : (i : List Terminal) (y : Read (List TypeBind)) → read_type_binds n i ≡ ok y → GoodTypeBinds n i y
  type_binds-sound i y h = many-ok (type_bind_turn n) Goes turn-ok (suc (length i)) no_state i y h

  -- one turn, before `and` and at the end

  turn-goes : (p : ℕ) {i m : List Terminal} {b : TypeBind} → OneTypeBind i b (reserved p res.And ∷ m) → depth_ty b.ty ≤ n → type_bind_turn n no_state i ≡ read (more (λ bs. b ∷ bs) no_state) m
  turn-goes p {m} d le = go (parts d) refl le
    where
      go : {i o : List Terminal} {b : TypeBind} → Parts i b o → o ≡ reserved p res.And ∷ m → depth_ty b.ty ≤ n → type_bind_turn n no_state i ≡ read (more (λ bs. b ∷ bs) no_state) m
      go (parts_of {i} {m = k} {o} {as_} {x} {a} c t) e le =
          bound-step (after_equals n no_state i) c
          ∙ ap (λ z. then_read z (after_ty no_state i as_ x)) (ty-complete n 0 (subst (λ (z : List Terminal). ReadsTy k a z) e t) le (omega arith) refl)

  turn-ends : {i o : List Terminal} {b : TypeBind} → OneTypeBind i b o → depth_ty b.ty ≤ n → BindStops o → type_bind_turn n no_state i ≡ read (last (b ∷ [])) o
  turn-ends d le stops = go (parts d) le stops
    where
      go : {i o : List Terminal} {b : TypeBind} → Parts i b o → depth_ty b.ty ≤ n → BindStops o → type_bind_turn n no_state i ≡ read (last (b ∷ [])) o
      go (parts_of {i} {m = k} {o} {as_} {x} {a} c t) le stops =
          bound-step (after_equals n no_state i) c
          ∙ ap (λ z. then_read z (after_ty no_state i as_ x)) (ty-complete n 0 t le (omega arith) (stops-ty o stops))
          ∙ ap (λ z. separated z (λ bs. bind_at i as_ x a ∷ bs) (bind_at i as_ x a ∷ []) no_state o) (binds-end o stops).and_

  turns-complete : {i o : List Terminal} {bs : List TypeBind} → TypeBinds i bs o → depth_type_binds bs ≤ n → BindStops o → (k : ℕ) → length i < k → many (type_bind_turn n) k no_state i ≡ read bs o
  turns-complete d le stops zero lt = absurd (omega arith)
  turns-complete (last_type_bind d) le stops (suc k) lt = many-last (type_bind_turn n) k (turn-ends d (omega arith) stops)
  turns-complete (more_type_binds p d e) le stops (suc k) lt =
      let s = one-shorter d in
      many-more (type_bind_turn n) k (turn-goes p d (omega arith)) (turns-complete e (omega arith) stops k (omega arith))

  pub type_binds-complete : {i o : List Terminal} {bs : List TypeBind} → TypeBinds i bs o → depth_type_binds bs ≤ n → BindStops o → read_type_binds n i ≡ read bs o
  type_binds-complete {i} d le stops = turns-complete d le stops (suc (length i)) (omega arith)

  -- too deep

  turn-far : (s : NoState) (i : List Terminal) → type_bind_turn n s i ≡ deep → OpensTypeBinds i (suc n)
  turn-far s i h =
      let b = bound-deep (after_equals n s i) i h in
      elim (then_deep (read_ty n 0 b.2) (after_ty s i b.0 b.1) b.4) [
        | inl e ↦ in-bind b.3 (ty-far n 0 b.2 (omega arith) e)
        | inr t ↦ separated-deep (after_word res.And t.0.rest) (λ bs. bind_at i b.0 b.1 t.0.tree ∷ bs) (bind_at i b.0 b.1 t.0.tree ∷ []) s t.0.rest t.2
      ]

  turn-past : (s : NoState) (i : List Terminal) (put : List TypeBind → List TypeBind) (t : NoState) (m : List Terminal) → type_bind_turn n s i ≡ read (more put t) m → OpensTypeBinds m (suc n) → OpensTypeBinds i (suc n)
  turn-past s i put t m h o =
      let b = bound-ok (after_equals n s i) i (record { tree = more put t; rest = m }) h in
      let u = then_ok (read_ty n 0 b.2) (after_ty s i b.0 b.1) (record { tree = more put t; rest = m }) b.4 in
      let g = ty-sound n 0 b.2 u.0 (omega arith) u.1 in
      let w = separated-more (after_word res.And u.0.rest) (λ bs. bind_at i b.0 b.1 u.0.tree ∷ bs) (bind_at i b.0 b.1 u.0.tree ∷ []) s u.0.rest put t m u.2 in
      go (one-bind b.3 g.reads) (word-at res.And u.0.rest m w.0)
    where
      go : {k : List Terminal} {b : TypeBind} → OneTypeBind i b k → WordAt res.And k m → OpensTypeBinds i (suc n)
      go d (at_word p) = past_type_bind p d o

  pub type_binds-far : (i : List Terminal) → read_type_binds n i ≡ deep → OpensTypeBinds i (suc n)
  type_binds-far i h = many-far (type_bind_turn n) (λ s m. OpensTypeBinds m (suc n)) turn-far turn-past (suc (length i)) no_state i h

  bound-over : {i m : List Terminal} {as_ : List Tyvar} {x d : ℕ} → Bound i as_ x m → OpensTy 0 m d → n < d → type_bind_turn n no_state i ≡ deep
  bound-over {i} {m} {as_} {x} {d} c o lt = bound-step (after_equals n no_state i) c ∙ ap (λ z. then_read z (after_ty no_state i as_ x)) (ty-over n 0 o lt)

  one-over : {i o : List Terminal} {b : TypeBind} → OneTypeBind i b o → n < depth_ty b.ty → type_bind_turn n no_state i ≡ deep
  one-over d lt = go (parts d) lt
    where
      go : {i o : List Terminal} {b : TypeBind} → Parts i b o → n < depth_ty b.ty → type_bind_turn n no_state i ≡ deep
      go (parts_of {m} {o} {a} c t) lt = bound-over c (ty-opens t (omega arith) (depth_ty a) (omega arith) (omega arith)) lt

  turns-over : {i : List Terminal} {d : ℕ} → OpensTypeBinds i d → n < d → (k : ℕ) → length i < k → many (type_bind_turn n) k no_state i ≡ deep
  turns-over o lt zero le = absurd (omega arith)
  turns-over (in_type_bind r d c o) lt (suc k) le = many-stop (type_bind_turn n) k (bound-over (bound r d c) o lt)
  turns-over (past_type_bind {b} p d o) lt (suc k) le =
      let s = one-shorter d in
      elim (le_or (depth_ty b.ty) n) [
        | inl e ↦ many-deep (type_bind_turn n) k (turn-goes p d e) (turns-over o lt k (omega arith))
        | inr e ↦ many-stop (type_bind_turn n) k (one-over d e)
      ]

  pub type_binds-over : {i : List Terminal} {d : ℕ} → OpensTypeBinds i d → n < d → read_type_binds n i ≡ deep
  type_binds-over {i} o lt = turns-over o lt (suc (length i)) (omega arith)
