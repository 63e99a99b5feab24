-- Sources that are read are in the grammar.
use Rattle.std.proofs.Common.{◌≡◌, ℕ, zero, suc, ◌≤◌, List, [], ◌∷◌, length, Bool, true, inl, inr, refl, sym, subst, arith}
use Rattle.mlc_names.specs.declared.token.Reserved.TheVariants as res
use Rattle.sml_tree.specs.Terminal.{Terminal, reserved, alpha}
use Rattle.sml_tree.specs.Fixity.{Fixity}
use Rattle.sml_tree.specs.ReadTree.{Placed}
use Rattle.sml_tree.specs.Grammar.{Reads}
use Rattle.sml_grammar.specs.Answer.{Read, ok, read, Turn, whole, then_read}
use Rattle.sml_grammar.specs.Terminals.{first_as, after_word, word_then, NoState, no_state}
use Rattle.sml_grammar.specs.Expressions.{readers}
use Rattle.sml_grammar.proofs.Words.{WordAt, at_word, word-at}
use Rattle.sml_grammar.proofs.Answers.{chosen, then_ok, then_taken-ok, word_then-ok, on_some-split, bad_ok, deep_ok, at-path, GoodTurn, many-ok}
use Rattle.sml_grammar.proofs.ExpBelow.{Within}
use Rattle.sml_grammar.proofs.ExpReaders.{exp-sound}
use Rattle.sml_grammar.proofs.ExpTurns.{at-head, at-front, given, sep-good}
use Rattle.module_tree.specs.ReadModules.{SigExp, MaybeSig, StrExp, StrDecs, Parameter, structure_parameter, spec_parameter, FunBind, SigBind, Top, str_top, signature_top, functor_top}
use Rattle.module_tree.specs.ModuleDepth.{depth_str_decs, depth_parameter, depth_fun_binds, depth_sig_binds, depth_top, depth_tops}
use Rattle.module_tree.specs.ModuleGrammar.{module_id, ReadsSig, ReadsMaybeSig, ReadsStr, ReadsStrDecs, SigBinds, last_sig_bind, more_sig_binds, ReadsParameter, of_structure_parameter, of_spec_parameter, OneFunBind, fun_bind, FunBinds, last_fun_bind, more_fun_binds, ReadsTop, of_str_top, of_signature, of_functor, of_exp_top, ReadsTops, no_more_tops, top_semicolon, of_top}
use Rattle.module_grammar.specs.Laws as laws
use Rattle.module_grammar.specs.Laws.{IsTree}
use Rattle.module_grammar.specs.Signatures.{as_module_id, read_sig, specs_from}
use Rattle.module_grammar.specs.Structures.{maybe_sig, str_readers, str_dec_by}
use Rattle.module_grammar.specs.Sources.{sig_bind_turn, read_parameter, fun_bind_rest, one_fun_bind, fun_bind_turn, inner_decs, begins_top, top_by, Standing, exp_by, after_one, top_turn_by, top_turn}
use Rattle.module_grammar.proofs.SpecSound.{IdAt, id_at, id-is}
use Rattle.module_grammar.proofs.SigSound.{specs-sound, sig-sound}
use Rattle.module_grammar.proofs.StrSound.{maybe-sig-sound, str-dec-sound, str-readers-sound}

-- signatures

bind-last : {i m k o : List Terminal} {x : Placed ℕ} {g : SigExp} → IdAt i x m → WordAt res.Equals m k → ReadsSig k g o
    → SigBinds i (record { sigid = x; sigexp = g } ∷ []) o
bind-last (id_at v) (at_word p) d = last_sig_bind p v d

bind-more : {i m k n j o : List Terminal} {x : Placed ℕ} {g : SigExp} {bs : List SigBind} → IdAt i x m → WordAt res.Equals m k → ReadsSig k g n
    → WordAt res.And n j → SigBinds j bs o → SigBinds i (record { sigid = x; sigexp = g } ∷ bs) o
bind-more (id_at v) (at_word p) d (at_word q) bs = more_sig_binds p q v d bs

module _ (n : ℕ) where
  abbrev GoodSigs : NoState → List Terminal → List SigBind → List Terminal → Type 0
  GoodSigs s i bs o = Within SigBinds depth_sig_binds n i bs o

  sig-turn : (s : NoState) (i : List Terminal) (y : Read (Turn (List SigBind) NoState)) → sig_bind_turn n s i ≡ ok y → GoodTurn GoodSigs s i y.tree y.rest
  sig-turn s i y h =
      let t = then_taken-ok (first_as as_module_id i) _ y h in
      let v = id-is i t.0 t.1 t.2 in
      let w = word_then-ok res.Equals _ t.1 y t.3 in
      let u = then_ok (read_sig n w.0) _ y w.2 in
      let g = sig-sound n w.0 u.0 u.1 in
      sep-good GoodSigs s s i u.0.rest res.And (λ bs. record { sigid = t.0; sigexp = u.0.tree } ∷ bs) (record { sigid = t.0; sigexp = u.0.tree } ∷ []) y u.2
      (λ e. record { reads = bind-last v w.1 g.reads; fits = omega (arith, g.fits) })
      (λ m a b k r. record { reads = bind-more v w.1 g.reads a r.reads; fits = omega (arith, g.fits, r.fits) })

  -- functors

  abbrev GoodParameter : ℕ → List Terminal → Parameter → List Terminal → Type 0
  GoodParameter p i a o = Within (ReadsParameter p) depth_parameter n i a o

  spec-sound : (p : ℕ) (i : List Terminal) (y : Read Parameter) → then_read (specs_from n (read_sig n) i) (λ ss o. read (spec_parameter p ss) o) ≡ ok y
      → GoodParameter p i y.tree y.rest
  spec-sound p i y h =
      let t = then_ok (specs_from n (read_sig n) i) _ y h in
      let g = specs-sound n (read_sig n) (sig-sound n) i t.0 t.1 in
      given (GoodParameter p i) t.2 (record { reads = of_spec_parameter g.reads; fits = g.fits })

  structure-sound : (p q x : ℕ) (i : List Terminal) (y : Read Parameter)
      → word_then res.Colon (λ k. then_read (read_sig n k) (λ g o. read (structure_parameter (record { place = q; it = x }) g) o)) i ≡ ok y
      → GoodParameter p (alpha q x ∷ i) y.tree y.rest
  structure-sound p q x i y h =
      let w = word_then-ok res.Colon _ i y h in
      let t = then_ok (read_sig n w.0) _ y w.2 in
      let g = sig-sound n w.0 t.0 t.1 in
      given (GoodParameter p (alpha q x ∷ i)) t.2
      (at-front w.1 (λ z. GoodParameter p (alpha q x ∷ z) (structure_parameter (record { place = q; it = x }) t.0.tree) t.0.rest)
      (λ r. record { reads = of_structure_parameter r (module_id q x) g.reads; fits = g.fits }))

  pub parameter-sound : (p : ℕ) (i : List Terminal) (y : Read Parameter) → read_parameter n p i ≡ ok y → GoodParameter p i y.tree y.rest
  parameter-sound p (alpha q x ∷ i) y h = structure-sound p q x i y h
  parameter-sound p i y h = spec-sound p i y h

  abbrev depth_fun : FunBind → ℕ
  depth_fun b = depth_fun_binds (b ∷ [])

  module _ (f : Fixity) where
    rest-sound : (p : ℕ) (x : Placed ℕ) (i : List Terminal) (a : Parameter) (m : List Terminal) {j : List Terminal} → IdAt j x (reserved p res.LeftParen ∷ i)
        → GoodParameter p i a m → (q : ℕ) (k : List Terminal) → m ≡ reserved q res.RightParen ∷ k → (y : Read FunBind) → fun_bind_rest n f x a k ≡ ok y
        → Within (OneFunBind f) depth_fun n j y.tree y.rest
    rest-sound p x i a m {j} v d q k e y h =
        let t = then_ok (maybe_sig n k) _ y h in
        let g = maybe-sig-sound n k t.0 t.1 in
        let w = word_then-ok res.Equals _ t.0.rest y t.2 in
        let c = at-head w.1 (λ z. ReadsMaybeSig k t.0.tree z) g.reads in
        let u = then_ok ((str_readers n).str f w.0) _ y w.2 in
        let s = (str-readers-sound n).str f w.0 u.0 u.1 in
        let r : ReadsParameter p i a (reserved q res.RightParen ∷ k) = subst (λ (z : List Terminal). ReadsParameter p i a z) e d.reads in
        given (Within (OneFunBind f) depth_fun n j) u.2 (record { reads = bound v r c.1 s.reads; fits = omega (arith, d.fits, g.fits, s.fits) })
      where
        bound : {j i k w o : List Terminal} {x : Placed ℕ} {a : Parameter} {g : MaybeSig} {s : StrExp} {p q r : ℕ} → IdAt j x (reserved p res.LeftParen ∷ i)
            → ReadsParameter p i a (reserved q res.RightParen ∷ k) → ReadsMaybeSig k g (reserved r res.Equals ∷ w) → ReadsStr f w s o
            → OneFunBind f j (record { funid = x; parameter = a; result = g; body = s }) o
        bound {p} {q} {r} (id_at v) d g s = fun_bind p q r v d g s

    bracket-sound : (p : ℕ) (x : Placed ℕ) (i : List Terminal) {j : List Terminal} → IdAt j x (reserved p res.LeftParen ∷ i) → (y : Read FunBind)
        → then_read (read_parameter n p i) (λ a m. word_then res.RightParen (fun_bind_rest n f x a) m) ≡ ok y → Within (OneFunBind f) depth_fun n j y.tree y.rest
    bracket-sound p x i v y h =
        let t = then_ok (read_parameter n p i) _ y h in
        let d = parameter-sound p i t.0 t.1 in
        let w = word_then-ok res.RightParen _ t.0.rest y t.2 in
        let a = at-path w.1 in
        rest-sound p x i t.0.tree t.0.rest v d a.0 w.0 a.1 y w.2

    pub one-sound : (x : Placed ℕ) (i : List Terminal) {j : List Terminal} → IdAt j x i → (y : Read FunBind) → one_fun_bind n f x i ≡ ok y
        → Within (OneFunBind f) depth_fun n j y.tree y.rest
    one-sound x (reserved p res.LeftParen ∷ i) v y h = bracket-sound p x i v y h
    one-sound x i v y h = bad_ok h

    abbrev GoodFuns : NoState → List Terminal → List FunBind → List Terminal → Type 0
    GoodFuns s i bs o = Within (FunBinds f) depth_fun_binds n i bs o

    fun-turn : (s : NoState) (i : List Terminal) (y : Read (Turn (List FunBind) NoState)) → fun_bind_turn n f s i ≡ ok y → GoodTurn GoodFuns s i y.tree y.rest
    fun-turn s i y h =
        let t = then_taken-ok (first_as as_module_id i) _ y h in
        let v = id-is i t.0 t.1 t.2 in
        let u = then_ok (one_fun_bind n f t.0 t.1) _ y t.3 in
        let g = one-sound t.0 t.1 v u.0 u.1 in
        sep-good GoodFuns s s i u.0.rest res.And (λ bs. u.0.tree ∷ bs) (u.0.tree ∷ []) y u.2
        (λ e. record { reads = last_fun_bind g.reads; fits = g.fits })
        (λ m a b k r. let c = at-head a (λ z. OneFunBind f i u.0.tree z) g.reads in
        record { reads = more_fun_binds c.0 c.1 r.reads; fits = omega (arith, g.fits, r.fits) })

    -- a source's top

    abbrev GoodTop : Bool → List Terminal → Top → List Terminal → Type 0
    GoodTop fresh i t o = Within (ReadsTop f fresh) depth_top n i t o

    signatures-sound : (p : ℕ) (i : List Terminal) (y : Read Top) → then_read (whole (sig_bind_turn n) no_state i) (λ bs o. read (signature_top p bs) o) ≡ ok y
        → (fresh : Bool) → GoodTop fresh (reserved p res.Signature ∷ i) y.tree y.rest
    signatures-sound p i y h fresh =
        let t = then_ok (whole (sig_bind_turn n) no_state i) _ y h in
        let g = many-ok (sig_bind_turn n) GoodSigs sig-turn (suc (length i)) no_state i t.0 t.1 in
        given (GoodTop fresh (reserved p res.Signature ∷ i)) t.2 (record { reads = of_signature p g.reads; fits = g.fits })

    functors-sound : (p : ℕ) (i : List Terminal) (y : Read Top) → then_read (whole (fun_bind_turn n f) no_state i) (λ bs o. read (functor_top p bs) o) ≡ ok y
        → (fresh : Bool) → GoodTop fresh (reserved p res.Functor ∷ i) y.tree y.rest
    functors-sound p i y h fresh =
        let t = then_ok (whole (fun_bind_turn n f) no_state i) _ y h in
        let g = many-ok (fun_bind_turn n f) GoodFuns fun-turn (suc (length i)) no_state i t.0 t.1 in
        given (GoodTop fresh (reserved p res.Functor ∷ i)) t.2 (record { reads = of_functor p g.reads; fits = g.fits })

    pub inner-sound : (m : ℕ) (g : Fixity) (i : List Terminal) (y : Read StrDecs) → inner_decs m g i ≡ ok y
        → Within (ReadsStrDecs g) (λ ds. suc (depth_str_decs ds)) m i y.tree y.rest
    inner-sound zero g i y h = deep_ok h
    inner-sound (suc m) g i y h = let d = (str-readers-sound m).decs g i y h in record { reads = d.reads; fits = omega (arith, d.fits) }

    declaration-sound : (i : List Terminal) (y : Read Top) → then_read (str_dec_by n (str_readers n).str (inner_decs n) f i) (λ d o. read (str_top d) o) ≡ ok y
        → (fresh : Bool) → GoodTop fresh i y.tree y.rest
    declaration-sound i y h fresh =
        let t = then_ok (str_dec_by n (str_readers n).str (inner_decs n) f i) _ y h in
        let g = str-dec-sound n (str_readers n).str (str-readers-sound n).str (inner_decs n) (inner-sound n) f i t.0 t.1 in
        given (GoodTop fresh i) t.2 (record { reads = of_str_top g.reads; fits = g.fits })

    pub top-sound : (i : List Terminal) (y : Read Top) → top_by n f i ≡ ok y → (fresh : Bool) → GoodTop fresh i y.tree y.rest
    top-sound (reserved p res.Signature ∷ i) y h fresh = signatures-sound p i y h fresh
    top-sound (reserved p res.Functor ∷ i) y h fresh = functors-sound p i y h fresh
    top-sound i y h fresh = declaration-sound i y h fresh

    pub exp-top-sound : (i : List Terminal) (y : Read Top) → exp_by n f i ≡ ok y → GoodTop true i y.tree y.rest
    exp-top-sound i y h =
        let t = then_ok ((readers n).exp f 0 i) _ y h in
        let g = exp-sound n f 0 i t.0 (omega arith) t.1 in
        let w = word_then-ok res.Semicolon _ t.0.rest y t.2 in
        let a = at-head w.1 (λ z. Reads f i t.0.tree z) g.reads in
        given (GoodTop true i) w.2 (record { reads = of_exp_top a.0 a.1; fits = g.fits })

  pub record GoodTops (s : Standing) (i : List Terminal) (ts : List Top) : Type 0 where
    pub reads : ReadsTops s.fix s.fresh i ts
    pub fits : depth_tops ts ≤ n

  abbrev Tops : Standing → List Terminal → List Top → List Terminal → Type 0
  Tops s i ts o = GoodTops s i ts

  one-top : (s : Standing) (b : Bool) → s.fresh ≡ b → (i : List Terminal) (t : Top) (o : List Terminal) (y : Read (Turn (List Top) Standing))
      → Within (ReadsTop s.fix b) depth_top n i t o → after_one s t o ≡ ok y → GoodTurn Tops s i y.tree y.rest
  one-top s b e i t o y d h =
      let r : ReadsTop s.fix s.fresh i t o = subst (λ (z : Bool). ReadsTop s.fix z i t o) (sym e) d.reads in
      given (GoodTurn Tops s i) h (λ ts k g. record { reads = of_top r g.reads; fits = omega (arith, d.fits, g.fits) })

  turn-by : (s : Standing) (i : List Terminal) (y : Read (Turn (List Top) Standing)) → top_turn_by n s i ≡ ok y → GoodTurn Tops s i y.tree y.rest
  turn-by s i y h =
      elim (chosen (begins_top i) _ _ h) [
        | inl p ↦ let t = then_ok (top_by n s.fix i) (after_one s) y p.1 in
            one-top s s.fresh refl i t.0.tree t.0.rest y (top-sound s.fix i t.0 t.1 s.fresh) t.2
        | inr p ↦ elim (chosen s.fresh _ _ p.1) [
          | inl q ↦ let t = then_ok (exp_by n s.fix i) (after_one s) y q.1 in one-top s true q.0 i t.0.tree t.0.rest y (exp-top-sound s.fix i t.0 t.1) t.2
          | inr q ↦ bad_ok q.1
        ]
      ]

  some-turn : (s : Standing) (t : Terminal) (i : List Terminal) (y : Read (Turn (List Top) Standing)) → top_turn n s (t ∷ i) ≡ ok y
      → GoodTurn Tops s (t ∷ i) y.tree y.rest
  some-turn s t i y h =
      elim (on_some-split (after_word res.Semicolon (t ∷ i)) _ _ h) [
        | inl q ↦ given (GoodTurn Tops s (t ∷ i)) q.2
            (at-front (word-at res.Semicolon (t ∷ i) q.0 q.1)
            (λ z. (ts : List Top) (o : List Terminal) → GoodTops (record { fix = s.fix; fresh = true }) q.0 ts → GoodTops s z ts)
            (λ p ts o k. record { reads = top_semicolon p k.reads; fits = k.fits }))
        | inr q ↦ turn-by s (t ∷ i) y q.1
      ]

  tops-turn : (s : Standing) (i : List Terminal) (y : Read (Turn (List Top) Standing)) → top_turn n s i ≡ ok y → GoodTurn Tops s i y.tree y.rest
  tops-turn s [] y h = given (GoodTurn Tops s []) h (record { reads = no_more_tops; fits = omega arith })
  tops-turn s (t ∷ i) y h = some-turn s t i y h

pub sound : laws.Sound
sound n f i ts o h =
    let g = many-ok (top_turn n) (Tops n) (tops-turn n) (suc (length i)) (record { fix = f; fresh = true }) i (record { tree = ts; rest = o }) h in
    (g.reads, g.fits)
