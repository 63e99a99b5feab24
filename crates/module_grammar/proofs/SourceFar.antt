-- Where a source is too deep, a partial one is there.
use Rattle.std.proofs.Common.{◌≡◌, ℕ, zero, suc, List, [], ◌∷◌, length, Bool, true, inl, inr, refl, sym, subst, arith}
use Rattle.mlc_names.specs.declared.token.Reserved.TheVariants as res
use Rattle.sml_tree.specs.Terminal.{Terminal, reserved, alpha}
use Rattle.sml_tree.specs.Fixity.{Fixity}
use Rattle.sml_tree.specs.ReadTree.{Placed}
use Rattle.sml_grammar.specs.Answer.{Read, ok, deep, read, then_read, Turn, whole}
use Rattle.sml_grammar.specs.Terminals.{first_as, after_word, word_then, NoState, no_state}
use Rattle.sml_grammar.specs.Expressions.{readers}
use Rattle.sml_grammar.proofs.Words.{WordAt, at_word, word-at}
use Rattle.sml_grammar.proofs.Answers.{chosen, then_ok, then_deep, then_taken-ok, then_taken-deep, word_then-ok, word_then-deep, on_some-split, separated-deep, not_deep, bad_deep, bad_ok, FarTurn, many-reach}
use Rattle.sml_grammar.proofs.ExpGiven.{below, far_below}
use Rattle.sml_grammar.proofs.ExpFar.{readers-far}
use Rattle.sml_grammar.proofs.ExpTurns.{at-head, at-front, given}
use Rattle.module_tree.specs.ReadModules.{Seal, SigExp, MaybeSig, Parameter, structure_parameter, spec_parameter, FunBind, SigBind, Top, str_top, signature_top, functor_top}
use Rattle.module_tree.specs.Scope.{after_decs}
use Rattle.module_tree.specs.ModuleGrammar.{module_id, ReadsSig, ReadsMaybeSig, ReadsParameter, OneFunBind, ReadsTop}
use Rattle.module_grammar.specs.Laws as laws
use Rattle.module_grammar.specs.Signatures.{as_module_id, read_sig, specs_from}
use Rattle.module_grammar.specs.Structures.{maybe_sig, str_readers, str_dec_by}
use Rattle.module_grammar.specs.Sources.{sig_bind_turn, read_parameter, fun_bind_rest, one_fun_bind, fun_bind_turn, inner_decs, begins_top, top_by, Standing, exp_by, after_one, top_turn_by, top_turn}
use Rattle.module_grammar.specs.PartialSignatures.{OpensSig}
use Rattle.module_grammar.specs.PartialModules.{OpensStr, begun_local_str, in_local_str, in_local_str_body, OpensSigBinds, in_sig_bind, past_sig_bind, OpensParameter, in_structure_parameter, in_spec_parameter, OpensFunBinds, in_parameter, in_result, in_fun_body, past_fun_bind, OpensTop, in_declaration, in_signatures, in_functors, in_expression, OpensTops, past_no_top, in_top, past_top}
use Rattle.module_grammar.proofs.SpecSound.{IdAt, id_at, id-is}
use Rattle.module_grammar.proofs.SigSound.{sig-sound}
use Rattle.module_grammar.proofs.SpecFar.{sep-far}
use Rattle.module_grammar.proofs.SigFar.{specs-far, sig-far}
use Rattle.module_grammar.proofs.StrSound.{SealAt, at_seal, maybe-sig-sound, str-readers-sound}
use Rattle.module_grammar.proofs.StrFar.{maybe-sig-far, FarInner, str-dec-far, readers-far-str}
use Rattle.module_grammar.proofs.SourceSound.{parameter-sound, one-sound, inner-sound, top-sound, exp-top-sound}

in-sig-bind : {i m k : List Terminal} {x : Placed ℕ} {d : ℕ} → IdAt i x m → WordAt res.Equals m k → OpensSig k d → OpensSigBinds i d
in-sig-bind (id_at v) (at_word p) o = in_sig_bind p v o

past-sig-bind : {i m k n j : List Terminal} {x : Placed ℕ} {g : SigExp} {d : ℕ} → IdAt i x m → WordAt res.Equals m k → ReadsSig k g n → WordAt res.And n j
    → OpensSigBinds j d → OpensSigBinds i d
past-sig-bind (id_at v) (at_word p) g (at_word q) o = past_sig_bind p q v g o

past-fun-bind : {f : Fixity} {i n j : List Terminal} {b : FunBind} {d : ℕ} → OneFunBind f i b n → WordAt res.And n j → OpensFunBinds f j d → OpensFunBinds f i d
past-fun-bind b (at_word p) o = past_fun_bind p b o

module _ (n : ℕ) where
  abbrev Sigs : NoState → List Terminal → Type 0
  Sigs s i = OpensSigBinds i (suc n)

  sig-ends : (s : NoState) (i : List Terminal) → sig_bind_turn n s i ≡ deep → Sigs s i
  sig-ends s i h =
      let t = then_taken-deep (first_as as_module_id i) _ h in
      let w = word_then-deep res.Equals _ t.1 t.3 in
      elim (then_deep (read_sig n w.0) _ w.2) [
        | inl e ↦ in-sig-bind (id-is i t.0 t.1 t.2) w.1 (sig-far n w.0 e)
        | inr u ↦ separated-deep (after_word res.And u.0.rest) _ _ s u.0.rest u.2
      ]

  sig-goes : (s : NoState) (i : List Terminal) (y : Read (Turn (List SigBind) NoState)) → sig_bind_turn n s i ≡ ok y → FarTurn Sigs s i y.tree y.rest
  sig-goes s i y h =
      let t = then_taken-ok (first_as as_module_id i) _ y h in
      let w = word_then-ok res.Equals _ t.1 y t.3 in
      let u = then_ok (read_sig n w.0) _ y w.2 in
      let g = sig-sound n w.0 u.0 u.1 in
      sep-far Sigs s s i u.0.rest res.And (λ bs. record { sigid = t.0; sigexp = u.0.tree } ∷ bs) (record { sigid = t.0; sigexp = u.0.tree } ∷ []) y u.2
      (λ m a q. past-sig-bind (id-is i t.0 t.1 t.2) w.1 g.reads a q)

  -- functors

  specs-parameter-far : (i : List Terminal) (p : ℕ) → then_read (specs_from n (read_sig n) i) (λ ss o. read (spec_parameter p ss) o) ≡ deep → OpensParameter i (suc n)
  specs-parameter-far i p h =
      elim (then_deep (specs_from n (read_sig n) i) _ h) [ inl e ↦ in_spec_parameter (specs-far n (read_sig n) (sig-sound n) (sig-far n) i e) | inr u ↦ not_deep u.2 ]

  structure-parameter-far : (q x : ℕ) (i : List Terminal)
      → word_then res.Colon (λ k. then_read (read_sig n k) (λ g o. read (structure_parameter (record { place = q; it = x }) g) o)) i ≡ deep
      → OpensParameter (alpha q x ∷ i) (suc n)
  structure-parameter-far q x i h =
      let w = word_then-deep res.Colon _ i h in
      elim (then_deep (read_sig n w.0) _ w.2) [
        | inl e ↦ at-front w.1 (λ z. OpensParameter (alpha q x ∷ z) (suc n)) (λ p. in_structure_parameter p (module_id q x) (sig-far n w.0 e))
        | inr u ↦ not_deep u.2
      ]

  parameter-far : (p : ℕ) (i : List Terminal) → read_parameter n p i ≡ deep → OpensParameter i (suc n)
  parameter-far p (alpha q x ∷ i) h = structure-parameter-far q x i h
  parameter-far p i h = specs-parameter-far i p h

  module _ (f : Fixity) where
    in-result : {j i k l : List Terminal} {x : Placed ℕ} {a : Parameter} {s : Seal} {p : ℕ} (q : ℕ) → IdAt j x (reserved p res.LeftParen ∷ i)
        → ReadsParameter p i a (reserved q res.RightParen ∷ k) → SealAt k s l → OpensSig l (suc n) → OpensFunBinds f j (suc n)
    in-result {p} q (id_at v) a (at_seal u) o = in_result p q v a u o

    in-fun-body : {j i k l : List Terminal} {x : Placed ℕ} {a : Parameter} {g : MaybeSig} {p : ℕ} (q r : ℕ) → IdAt j x (reserved p res.LeftParen ∷ i)
        → ReadsParameter p i a (reserved q res.RightParen ∷ k) → ReadsMaybeSig k g (reserved r res.Equals ∷ l) → OpensStr f l (suc n) → OpensFunBinds f j (suc n)
    in-fun-body {p} q r (id_at v) a g o = in_fun_body p q r v a g o

    in-parameter : {j i : List Terminal} {x : Placed ℕ} {p : ℕ} → IdAt j x (reserved p res.LeftParen ∷ i) → OpensParameter i (suc n) → OpensFunBinds f j (suc n)
    in-parameter {p} (id_at v) o = in_parameter p v o

    rest-far : (p : ℕ) (x : Placed ℕ) (i : List Terminal) (a : Parameter) (q : ℕ) (k : List Terminal) {j : List Terminal} → IdAt j x (reserved p res.LeftParen ∷ i)
        → ReadsParameter p i a (reserved q res.RightParen ∷ k) → fun_bind_rest n f x a k ≡ deep → OpensFunBinds f j (suc n)
    rest-far p x i a q k v d h =
        elim (then_deep (maybe_sig n k) _ h) [
          | inl e ↦ let z = maybe-sig-far n k e in in-result q v d z.2 z.3
          | inr t ↦
              let g = maybe-sig-sound n k t.0 t.1 in
              let w = word_then-deep res.Equals _ t.0.rest t.2 in
              let c = at-head w.1 (λ z. ReadsMaybeSig k t.0.tree z) g.reads in
              elim (then_deep ((str_readers n).str f w.0) _ w.2) [
                | inl e ↦ in-fun-body q c.0 v d c.1 ((readers-far-str n).str f w.0 e)
                | inr u ↦ not_deep u.2
              ]
        ]

    bracket-far : (p : ℕ) (x : Placed ℕ) (i : List Terminal) {j : List Terminal} → IdAt j x (reserved p res.LeftParen ∷ i)
        → then_read (read_parameter n p i) (λ a m. word_then res.RightParen (fun_bind_rest n f x a) m) ≡ deep → OpensFunBinds f j (suc n)
    bracket-far p x i v h =
        elim (then_deep (read_parameter n p i) _ h) [
          | inl e ↦ in-parameter v (parameter-far p i e)
          | inr t ↦
              let d = parameter-sound n p i t.0 t.1 in
              let w = word_then-deep res.RightParen _ t.0.rest t.2 in
              let a = at-head w.1 (λ z. ReadsParameter p i t.0.tree z) d.reads in
              rest-far p x i t.0.tree a.0 w.0 v a.1 w.2
        ]

    one-far : (x : Placed ℕ) (i : List Terminal) {j : List Terminal} → IdAt j x i → one_fun_bind n f x i ≡ deep → OpensFunBinds f j (suc n)
    one-far x (reserved p res.LeftParen ∷ i) v h = bracket-far p x i v h
    one-far x i v h = bad_deep {A = FunBind} h

    abbrev Funs : NoState → List Terminal → Type 0
    Funs s i = OpensFunBinds f i (suc n)

    fun-ends : (s : NoState) (i : List Terminal) → fun_bind_turn n f s i ≡ deep → Funs s i
    fun-ends s i h =
        let t = then_taken-deep (first_as as_module_id i) _ h in
        elim (then_deep (one_fun_bind n f t.0 t.1) _ t.3) [
          | inl e ↦ one-far t.0 t.1 (id-is i t.0 t.1 t.2) e
          | inr u ↦ separated-deep (after_word res.And u.0.rest) _ _ s u.0.rest u.2
        ]

    fun-goes : (s : NoState) (i : List Terminal) (y : Read (Turn (List FunBind) NoState)) → fun_bind_turn n f s i ≡ ok y → FarTurn Funs s i y.tree y.rest
    fun-goes s i y h =
        let t = then_taken-ok (first_as as_module_id i) _ y h in
        let u = then_ok (one_fun_bind n f t.0 t.1) _ y t.3 in
        let g = one-sound n f t.0 t.1 (id-is i t.0 t.1 t.2) u.0 u.1 in
        sep-far Funs s s i u.0.rest res.And (λ bs. u.0.tree ∷ bs) (u.0.tree ∷ []) y u.2 (λ m a q. past-fun-bind g.reads a q)

    -- a source's top

    inner-far : (m : ℕ) → FarInner m (inner_decs m)
    inner-far zero = record { first = λ g p i e. begun_local_str p; second = λ g p q i ds k d e. begun_local_str p }
    inner-far (suc m) = record {
      first = λ g p i e. in_local_str p ((readers-far-str m).decs g i e);
      second = λ g p q i ds k d e. in_local_str_body p q d ((readers-far-str m).decs (after_decs g ds) k e);
    }

    signatures-far : (p : ℕ) (i : List Terminal) → then_read (whole (sig_bind_turn n) no_state i) (λ bs o. read (signature_top p bs) o) ≡ deep
        → (fresh : Bool) → OpensTop f fresh (reserved p res.Signature ∷ i) (suc n)
    signatures-far p i h fresh =
        elim (then_deep (whole (sig_bind_turn n) no_state i) _ h) [
          | inl e ↦ in_signatures p (many-reach (sig_bind_turn n) Sigs sig-ends sig-goes (suc (length i)) no_state i e)
          | inr u ↦ not_deep u.2
        ]

    functors-far : (p : ℕ) (i : List Terminal) → then_read (whole (fun_bind_turn n f) no_state i) (λ bs o. read (functor_top p bs) o) ≡ deep
        → (fresh : Bool) → OpensTop f fresh (reserved p res.Functor ∷ i) (suc n)
    functors-far p i h fresh =
        elim (then_deep (whole (fun_bind_turn n f) no_state i) _ h) [
          | inl e ↦ in_functors p (many-reach (fun_bind_turn n f) Funs fun-ends fun-goes (suc (length i)) no_state i e)
          | inr u ↦ not_deep u.2
        ]

    declaration-far : (i : List Terminal) → then_read (str_dec_by n (str_readers n).str (inner_decs n) f i) (λ d o. read (str_top d) o) ≡ deep
        → (fresh : Bool) → OpensTop f fresh i (suc n)
    declaration-far i h fresh =
        elim (then_deep (str_dec_by n (str_readers n).str (inner_decs n) f i) _ h) [
          | inl e ↦ in_declaration (str-dec-far n (str_readers n).str (str-readers-sound n).str (readers-far-str n).str (inner_decs n) (inner-sound n f n) (inner-far n) f i e)
          | inr u ↦ not_deep u.2
        ]

    top-far : (i : List Terminal) → top_by n f i ≡ deep → (fresh : Bool) → OpensTop f fresh i (suc n)
    top-far (reserved p res.Signature ∷ i) h fresh = signatures-far p i h fresh
    top-far (reserved p res.Functor ∷ i) h fresh = functors-far p i h fresh
    top-far i h fresh = declaration-far i h fresh

    exp-top-far : (i : List Terminal) → exp_by n f i ≡ deep → OpensTop f true i (suc n)
    exp-top-far i h =
        elim (then_deep ((readers n).exp f 0 i) _ h) [
          | inl e ↦ in_expression ((readers-far below far_below n).exp f 0 i (omega arith) e)
          | inr t ↦ let w = word_then-deep res.Semicolon _ t.0.rest t.2 in not_deep w.2
        ]

  abbrev Tops : Standing → List Terminal → Type 0
  Tops s i = OpensTops s.fix s.fresh i (suc n)

  turn-ends : (s : Standing) (i : List Terminal) → top_turn_by n s i ≡ deep → Tops s i
  turn-ends s i h =
      elim (chosen (begins_top i) _ _ h) [
        | inl p ↦ elim (then_deep (top_by n s.fix i) (after_one s) p.1) [ inl e ↦ in_top (top-far s.fix i e s.fresh) | inr u ↦ not_deep u.2 ]
        | inr p ↦ elim (chosen s.fresh _ _ p.1) [
          | inl q ↦ elim (then_deep (exp_by n s.fix i) (after_one s) q.1) [
            | inl e ↦ subst (λ (z : Bool). OpensTops s.fix z i (suc n)) (sym q.0) (in_top (exp-top-far s.fix i e))
            | inr u ↦ not_deep u.2
          ]
          | inr q ↦ bad_deep {A = Turn (List Top) Standing} q.1
        ]
      ]

  some-ends : (s : Standing) (t : Terminal) (i : List Terminal) → top_turn n s (t ∷ i) ≡ deep → Tops s (t ∷ i)
  some-ends s t i h =
      elim (on_some-split (after_word res.Semicolon (t ∷ i)) _ _ h) [ inl q ↦ not_deep q.2 | inr q ↦ turn-ends s (t ∷ i) q.1 ]

  tops-ends : (s : Standing) (i : List Terminal) → top_turn n s i ≡ deep → Tops s i
  tops-ends s [] h = not_deep h
  tops-ends s (t ∷ i) h = some-ends s t i h

  one-goes : (s : Standing) (b : Bool) → s.fresh ≡ b → (i : List Terminal) (t : Top) (o : List Terminal) (y : Read (Turn (List Top) Standing))
      → ReadsTop s.fix b i t o → after_one s t o ≡ ok y → FarTurn Tops s i y.tree y.rest
  one-goes s b e i t o y d h =
      let r : ReadsTop s.fix s.fresh i t o = subst (λ (z : Bool). ReadsTop s.fix z i t o) (sym e) d in
      given (FarTurn Tops s i) h (λ q. past_top r q)

  turn-goes : (s : Standing) (i : List Terminal) (y : Read (Turn (List Top) Standing)) → top_turn_by n s i ≡ ok y → FarTurn Tops s i y.tree y.rest
  turn-goes s i y h =
      elim (chosen (begins_top i) _ _ h) [
        | inl p ↦ let t = then_ok (top_by n s.fix i) (after_one s) y p.1 in
            one-goes s s.fresh refl i t.0.tree t.0.rest y (top-sound n s.fix i t.0 t.1 s.fresh).reads t.2
        | inr p ↦ elim (chosen s.fresh _ _ p.1) [
          | inl q ↦ let t = then_ok (exp_by n s.fix i) (after_one s) y q.1 in
              one-goes s true q.0 i t.0.tree t.0.rest y (exp-top-sound n s.fix i t.0 t.1).reads t.2
          | inr q ↦ bad_ok q.1
        ]
      ]

  some-goes : (s : Standing) (t : Terminal) (i : List Terminal) (y : Read (Turn (List Top) Standing)) → top_turn n s (t ∷ i) ≡ ok y
      → FarTurn Tops s (t ∷ i) y.tree y.rest
  some-goes s t i y h =
      elim (on_some-split (after_word res.Semicolon (t ∷ i)) _ _ h) [
        | inl q ↦ given (FarTurn Tops s (t ∷ i)) q.2
            (λ o. at-front (word-at res.Semicolon (t ∷ i) q.0 q.1) (λ z. OpensTops s.fix s.fresh z (suc n)) (λ p. past_no_top p o))
        | inr q ↦ turn-goes s (t ∷ i) y q.1
      ]

  tops-goes : (s : Standing) (i : List Terminal) (y : Read (Turn (List Top) Standing)) → top_turn n s i ≡ ok y → FarTurn Tops s i y.tree y.rest
  tops-goes s [] y h = given (FarTurn Tops s []) h tt
  tops-goes s (t ∷ i) y h = some-goes s t i y h

pub deep-sound : laws.DeepSound
deep-sound n f i h = many-reach (top_turn n) (Tops n) (tops-ends n) (tops-goes n) (suc (length i)) (record { fix = f; fresh = true }) i h
