-- Structures and their declarations that are read are in the grammar.
use Rattle.std.proofs.Common.{◌≡◌, ℕ, zero, suc, ◌≤◌, List, ◌∷◌, ◌++◌, length, Some, Bool, true, false, ◌&&◌, inl, inr, refl, sym, ap, subst, arith, nat_le, max, if◌then◌else◌}
use Rattle.std.proofs.lemmas.Bool.{leb-true}
use Rattle.mlc_names.specs.declared.token.Reserved.TheVariants as res
use Rattle.sml_tree.specs.Terminal.{LongId, Terminal, reserved, alpha, long_alpha, IsLongStrid, short_strid, long_strid}
use Rattle.sml_tree.specs.Fixity.{Fixity}
use Rattle.sml_tree.specs.ReadTree.{Placed, local_dec}
use Rattle.sml_tree.specs.Depth.{depth_decs, depth_dec}
use Rattle.sml_tree.specs.Levels.{added, after}
use Rattle.sml_tree.specs.Grammar.{Declares, nothing_more, of_semicolon, of_dec, of_local}
use Rattle.sml_grammar.specs.Answer.{Read, ok, bad, deep, read, Turn, deep_if, then_read}
use Rattle.sml_grammar.specs.Terminals.{first_as, after_word, NoState, no_state}
use Rattle.sml_grammar.specs.Expressions.{readers, DecStart, dec_by}
use Rattle.sml_grammar.proofs.Words.{word-at}
use Rattle.sml_grammar.proofs.Answers.{chosen, got_some, not_some, not_true, then_ok, then_taken-ok, word_then-ok, on_some-split, bad_ok, deep_ok, deep_if-ok, at-path, GoodTurn, many-ok}
use Rattle.sml_grammar.proofs.Terminals.{Front, front}
use Rattle.sml_grammar.proofs.ExpBelow.{Within}
use Rattle.sml_grammar.proofs.ExpGiven.{below}
use Rattle.sml_grammar.proofs.ExpLevels.{DecStartIs, is_val, is_fun, is_type, is_datatype, is_exception, is_local, is_open, is_infix_dec, is_infixr_dec, is_nonfix_dec, is_no_dec, dec-start-is}
use Rattle.sml_grammar.proofs.ExpReaders.{exp-sound}
use Rattle.sml_grammar.proofs.ExpSoundBinds.{and-split}
use Rattle.sml_grammar.proofs.ExpSoundDecs.{dec-sound}
use Rattle.sml_grammar.proofs.ExpTurns.{at-head, at-front, given, sep-good}
use Rattle.module_tree.specs.ReadModules.{Seal, SigExp, MaybeSig, sealed, StrExp, str_id, constrained, StrDecs, no_str_decs, str_dec, StrDec, core_dec, structure_dec, local_str, StrBinds, last_str, str_and, str_bind}
use Rattle.module_tree.specs.Scope.{are_core_decs, added_decs, after_decs}
use Rattle.module_tree.specs.ModuleDepth.{depth_maybe_sig, depth_str, depth_str_decs, depth_str_dec, depth_str_binds}
use Rattle.module_tree.specs.ModuleGrammar.{module_id, ReadsSig, IsSeal, is_colon, is_opaque, ReadsMaybeSig, without_sig, with_sig, ReadsStr, of_struct, of_str_id, of_constrained, of_applied, of_applied_to_decs, of_let_str, ReadsStrDecs, no_more_decs, dec_semicolon, of_str_dec, ReadsStrDec, of_core_dec, of_structure, of_local_str, ReadsStrBinds, of_last_str, of_str_and, ReadsStrBind, of_str_bind}
use Rattle.module_grammar.specs.Signatures.{as_module_id, read_sig}
use Rattle.module_grammar.specs.Structures.{core_decs, Sealing, sealing, maybe_sig, StrReader, StrDecsReader, StrReaders, StrStart, struct_start, let_start, functor_start, str_id_start, no_str_start, str_start, begins_str, let_rest, argument, str_atom, seal_suffix, str_from, str_bind_turn, read_str_binds, local_rest, core_dec_by, str_dec_by, begins_str_dec, str_dec_turn, str_decs_from, str_readers}
use Rattle.module_grammar.proofs.SpecSound.{IdAt, id_at, id-is}
use Rattle.module_grammar.proofs.SigSound.{sig-sound}

-- Declarations of the core alone are declarations of the core.

pub core-declares : {f : Fixity} {i o : List Terminal} {ds : StrDecs} → ReadsStrDecs f i ds o → are_core_decs ds ≡ true → Declares f i (core_decs ds) o
core-declares no_more_decs e = nothing_more
core-declares (dec_semicolon p d) e = of_semicolon p (core-declares d e)
core-declares (of_str_dec (of_core_dec c) ds) e = of_dec c (core-declares ds e)
core-declares (of_str_dec (of_structure p bs) ds) e = not_true e
core-declares (of_str_dec (of_local_str p q r d g n) ds) e = not_true e

pub core-depth : (ds : StrDecs) → are_core_decs ds ≡ true → depth_decs (core_decs ds) ≡ depth_str_decs ds
core-depth no_str_decs e = refl
core-depth (str_dec (core_dec d) ds) e = ap (λ z. max (depth_dec d) z) (core-depth ds e)
core-depth (str_dec (structure_dec p bs) ds) e = not_true e
core-depth (str_dec (local_str p ds es) ds') e = not_true e

pub core-added : (ds : StrDecs) → are_core_decs ds ≡ true → added (core_decs ds) ≡ added_decs ds
core-added no_str_decs e = refl
core-added (str_dec (core_dec d) ds) e = let h = core-added ds e in rw h refl
core-added (str_dec (structure_dec p bs) ds) e = not_true e
core-added (str_dec (local_str p ds es) ds') e = not_true e

-- the sign before a signature

pub data SealAt : List Terminal → Seal → List Terminal → Type 0 where
  at_seal : {t : Terminal} {o : List Terminal} {k : Seal} → IsSeal t k → SealAt (t ∷ o) k o

pub sealing-is : (i : List Terminal) (k : Sealing) → sealing i ≡ Some k → SealAt i k.seal k.rest
sealing-is (reserved p res.Colon ∷ o) k h = subst (λ (z : Sealing). SealAt (reserved p res.Colon ∷ o) z.seal z.rest) (got_some h) (at_seal (is_colon p))
sealing-is (reserved p res.ColonGreater ∷ o) k h = subst (λ (z : Sealing). SealAt (reserved p res.ColonGreater ∷ o) z.seal z.rest) (got_some h) (at_seal (is_opaque p))
sealing-is _ k h = not_some h

sealed-sig : {i m o : List Terminal} {k : Seal} {g : SigExp} → SealAt i k m → ReadsSig m g o → ReadsMaybeSig i (sealed k g) o
sealed-sig (at_seal v) d = with_sig v d

pub constrain : {f : Fixity} {j m l o : List Terminal} {s : StrExp} {k : Seal} {g : SigExp} → ReadsStr f j s m → SealAt m k l → ReadsSig l g o
    → ReadsStr f j (constrained s k g) o
constrain d (at_seal v) g = of_constrained d v g

pub maybe-sig-sound : (n : ℕ) (i : List Terminal) (y : Read MaybeSig) → maybe_sig n i ≡ ok y → Within ReadsMaybeSig depth_maybe_sig n i y.tree y.rest
maybe-sig-sound n i y h =
    elim (on_some-split (sealing i) _ _ h) [
      | inl q ↦
          let t = then_ok (read_sig n q.0.rest) _ y q.2 in
          let g = sig-sound n q.0.rest t.0 t.1 in
          given (Within ReadsMaybeSig depth_maybe_sig n i) t.2 (record { reads = sealed-sig (sealing-is i q.0 q.1) g.reads; fits = g.fits })
      | inr q ↦ given (Within ReadsMaybeSig depth_maybe_sig n i) q.1 (record { reads = without_sig; fits = omega arith })
    ]

-- what a structure expression begins with

pub data StrStartIs : List Terminal → StrStart → Type 0 where
  is_struct : {o : List Terminal} (p : ℕ) → StrStartIs (reserved p res.Struct ∷ o) (struct_start p o)
  is_let : {o : List Terminal} (p : ℕ) → StrStartIs (reserved p res.Let ∷ o) (let_start p o)
  is_functor : {o : List Terminal} (p x q : ℕ) → StrStartIs (alpha p x ∷ reserved q res.LeftParen ∷ o) (functor_start (record { place = p; it = x }) o)
  is_str_id : {i o : List Terminal} {x : Placed LongId} → Front IsLongStrid i x o → StrStartIs i (str_id_start x o)
  is_no_str : {i : List Terminal} → StrStartIs i no_str_start

pub str-start-is : (i : List Terminal) → StrStartIs i (str_start i)
str-start-is (reserved p res.Struct ∷ o) = is_struct p
str-start-is (reserved p res.Let ∷ o) = is_let p
str-start-is (alpha p x ∷ reserved q res.LeftParen ∷ o) = is_functor p x q
str-start-is (alpha p x ∷ o) = is_str_id (front (short_strid p x))
str-start-is (long_alpha p qs x ∷ o) = is_str_id (front (long_strid p qs x))
str-start-is _ = is_no_str

str-id : {f : Fixity} {i o : List Terminal} {x : Placed LongId} → Front IsLongStrid i x o → ReadsStr f i (str_id x) o
str-id (front v) = of_str_id v

abbrev pub SoundsStr : ℕ → StrReader → Type 0
SoundsStr n str = (f : Fixity) (i : List Terminal) (y : Read StrExp) → str f i ≡ ok y → Within (ReadsStr f) depth_str n i y.tree y.rest

abbrev pub SoundsStrDecs : ℕ → StrDecsReader → Type 0
SoundsStrDecs n decs = (f : Fixity) (i : List Terminal) (y : Read StrDecs) → decs f i ≡ ok y → Within (ReadsStrDecs f) depth_str_decs n i y.tree y.rest

module _ (n : ℕ) (self : StrReaders) (sound : SoundsStr n self.str) (sound_decs : SoundsStrDecs n self.decs) (f : Fixity) where
  abbrev GoodStr : List Terminal → StrExp → List Terminal → Type 0
  GoodStr i s o = Within (ReadsStr f) depth_str (suc n) i s o

  argument-sound : (p x q : ℕ) (i : List Terminal) (y : Read StrExp) → argument self f (record { place = p; it = x }) i ≡ ok y
      → GoodStr (alpha p x ∷ reserved q res.LeftParen ∷ i) y.tree y.rest
  argument-sound p x q i y h =
      elim (chosen (begins_str (str_start i)) _ _ h) [
        | inl b ↦
            let t = then_ok (self.str f i) _ y b.1 in
            let g = sound f i t.0 t.1 in
            let w = word_then-ok res.RightParen _ t.0.rest y t.2 in
            let a = at-head w.1 (λ z. ReadsStr f i t.0.tree z) g.reads in
            given (GoodStr (alpha p x ∷ reserved q res.LeftParen ∷ i)) w.2 (record { reads = of_applied q a.0 (module_id p x) a.1; fits = omega (arith, g.fits) })
        | inr b ↦
            let t = then_ok (self.decs f i) _ y b.1 in
            let g = sound_decs f i t.0 t.1 in
            let w = word_then-ok res.RightParen _ t.0.rest y t.2 in
            let a = at-head w.1 (λ z. ReadsStrDecs f i t.0.tree z) g.reads in
            given (GoodStr (alpha p x ∷ reserved q res.LeftParen ∷ i)) w.2
            (record { reads = of_applied_to_decs q a.0 (module_id p x) a.1; fits = omega (arith, g.fits) })
      ]

  let-sound : (p : ℕ) (i : List Terminal) (ds : StrDecs) (m : List Terminal) (y : Read StrExp) → Within (ReadsStrDecs f) depth_str_decs n i ds m
      → (q : ℕ) (k : List Terminal) → m ≡ reserved q res.In ∷ k → let_rest self f p ds k ≡ ok y → GoodStr (reserved p res.Let ∷ i) y.tree y.rest
  let-sound p i ds m y d q k e h =
      let t = then_ok (self.str (after_decs f ds) k) _ y h in
      let g = sound (after_decs f ds) k t.0 t.1 in
      let w = word_then-ok res.End _ t.0.rest y t.2 in
      let a = at-head w.1 (λ z. ReadsStr (after_decs f ds) k t.0.tree z) g.reads in
      let r : ReadsStrDecs f i ds (reserved q res.In ∷ k) = subst (λ (z : List Terminal). ReadsStrDecs f i ds z) e d.reads in
      given (GoodStr (reserved p res.Let ∷ i)) w.2 (record { reads = of_let_str p q a.0 r a.1; fits = omega (arith, d.fits, g.fits) })

  pub atom-sound : {i : List Terminal} {s : StrStart} (y : Read StrExp) → StrStartIs i s → str_atom self f s ≡ ok y → GoodStr i y.tree y.rest
  atom-sound y (is_struct {o} p) h =
      let t = then_ok (self.decs f o) _ y h in
      let g = sound_decs f o t.0 t.1 in
      let w = word_then-ok res.End _ t.0.rest y t.2 in
      let a = at-head w.1 (λ z. ReadsStrDecs f o t.0.tree z) g.reads in
      given (GoodStr (reserved p res.Struct ∷ o)) w.2 (record { reads = of_struct p a.0 a.1; fits = omega (arith, g.fits) })
  atom-sound y (is_let {o} p) h =
      let t = then_ok (self.decs f o) _ y h in
      let g = sound_decs f o t.0 t.1 in
      let w = word_then-ok res.In _ t.0.rest y t.2 in
      let a = at-path w.1 in
      let-sound p o t.0.tree t.0.rest y g a.0 w.0 a.1 w.2
  atom-sound y (is_functor {o} p x q) h = argument-sound p x q o y h
  atom-sound {i} y (is_str_id v) h = given (GoodStr i) h (record { reads = str-id v; fits = omega arith })
  atom-sound y is_no_str h = bad_ok h

  -- a structure that is constrained
  abbrev Extends : StrExp → List Terminal → StrExp → List Terminal → Type 0
  Extends s m u o = (i : List Terminal) → GoodStr i s m → GoodStr i u o

  seal-suffix-sound : (s : StrExp) (i : List Terminal) (y : Read (Turn StrExp StrExp)) → seal_suffix n s i ≡ ok y → GoodTurn Extends s i y.tree y.rest
  seal-suffix-sound s i y h =
      elim (on_some-split (sealing i) _ _ h) [
        | inl q ↦ elim (chosen (nat_le (depth_str s) n) _ _ q.2) [
          | inl r ↦
              let t = then_ok (read_sig n q.0.rest) _ y r.1 in
              let g = sig-sound n q.0.rest t.0 t.1 in
              given (GoodTurn Extends s i) t.2 (λ b o k j e.
              k j (record { reads = constrain e.reads (sealing-is i q.0 q.1) g.reads; fits = omega (arith, g.fits, leb-true (depth_str s) n r.0) }))
          | inr r ↦ deep_ok r.1
        ]
        | inr q ↦ given (GoodTurn Extends s i) q.1 (λ j e. e)
      ]

  pub str-from-sound : (i : List Terminal) (y : Read StrExp) → str_from self n f i ≡ ok y → Within (ReadsStr f) depth_str (suc n) i y.tree y.rest
  str-from-sound i y h =
      let t = then_ok (str_atom self f (str_start i)) _ y h in
      let g = atom-sound t.0 (str-start-is i) t.1 in
      many-ok (seal_suffix n) Extends seal-suffix-sound (suc (length t.0.rest)) t.0.tree t.0.rest y t.2 i g

-- Declarations of structures.

pub bind-one : {f : Fixity} {i m k o : List Terminal} {x : Placed ℕ} {g : MaybeSig} {s : StrExp} (p : ℕ) → IdAt i x m → ReadsMaybeSig m g (reserved p res.Equals ∷ k)
    → ReadsStr f k s o → ReadsStrBind f i (str_bind x g s) o
bind-one p (id_at v) d s = of_str_bind p v d s

module _ (n : ℕ) (self : StrReader) (sound : SoundsStr n self) where
  module _ (f : Fixity) where
    abbrev GoodBinds : NoState → List Terminal → StrBinds → List Terminal → Type 0
    GoodBinds s i bs o = Within (ReadsStrBinds f) depth_str_binds n i bs o

    binds-turn : (s : NoState) (i : List Terminal) (y : Read (Turn StrBinds NoState)) → str_bind_turn n self f s i ≡ ok y → GoodTurn GoodBinds s i y.tree y.rest
    binds-turn s i y h =
        let t = then_taken-ok (first_as as_module_id i) _ y h in
        let v = id-is i t.0 t.1 t.2 in
        let m = then_ok (maybe_sig n t.1) _ y t.3 in
        let d = maybe-sig-sound n t.1 m.0 m.1 in
        let w = word_then-ok res.Equals _ m.0.rest y m.2 in
        let a = at-head w.1 (λ z. ReadsMaybeSig t.1 m.0.tree z) d.reads in
        let u = then_ok (self f w.0) _ y w.2 in
        let g = sound f w.0 u.0 u.1 in
        sep-good GoodBinds s s i u.0.rest res.And (str_and (str_bind t.0 m.0.tree u.0.tree)) (last_str (str_bind t.0 m.0.tree u.0.tree)) y u.2
        (λ e. record { reads = of_last_str (bind-one a.0 v a.1 g.reads); fits = omega (arith, d.fits, g.fits) })
        (λ k x b o r. let c = at-head x (λ z. ReadsStr f w.0 u.0.tree z) g.reads in
        record { reads = of_str_and c.0 (bind-one a.0 v a.1 c.1) r.reads; fits = omega (arith, d.fits, g.fits, r.fits) })

    binds-sound : (i : List Terminal) (y : Read StrBinds) → read_str_binds n self f i ≡ ok y → Within (ReadsStrBinds f) depth_str_binds n i y.tree y.rest
    binds-sound i y h = many-ok (str_bind_turn n self f) GoodBinds binds-turn (suc (length i)) no_state i y h

  module _ (inner : StrDecsReader)
      (sound_inner : (f : Fixity) (i : List Terminal) (y : Read StrDecs) → inner f i ≡ ok y → Within (ReadsStrDecs f) (λ ds. suc (depth_str_decs ds)) n i y.tree y.rest) where
    module _ (f : Fixity) where
      abbrev GoodDec : List Terminal → StrDec → List Terminal → Type 0
      GoodDec i d o = Within (ReadsStrDec f) depth_str_dec n i d o

      -- a `local` of either kind
      local-good : (p q r : ℕ) {i m o : List Terminal} {ds es : StrDecs} → ReadsStrDecs f i ds (reserved q res.In ∷ m)
          → ReadsStrDecs (after_decs f ds) m es (reserved r res.End ∷ o) → suc (depth_str_decs ds) ≤ n → suc (depth_str_decs es) ≤ n
          → (b : Bool) → (are_core_decs ds && are_core_decs es) ≡ b
          → GoodDec (reserved p res.Local ∷ i) (if b then core_dec (local_dec p (core_decs ds) (core_decs es)) else local_str p ds es) o
      local-good p q r {m} {o} {ds} {es} d g le lf true e =
          let s = and-split (are_core_decs ds) (are_core_decs es) e in
          let a : after_decs f ds ≡ after f (core_decs ds) = ap (λ z. z ++ f) (sym (core-added ds s.0)) in
          let c = subst (λ (z : Fixity). Declares z m (core_decs es) (reserved r res.End ∷ o)) a (core-declares g s.1) in
          record { reads = of_core_dec (of_local p q r (core-declares d s.0) c); fits = omega (arith, le, lf, core-depth ds s.0, core-depth es s.1) }
      local-good p q r d g le lf false e = record { reads = of_local_str p q r d g e; fits = omega (arith, le, lf) }

      local-sound : (p : ℕ) (i : List Terminal) (ds : StrDecs) (m : List Terminal) (y : Read StrDec)
          → Within (ReadsStrDecs f) (λ z. suc (depth_str_decs z)) n i ds m → local_rest inner f p ds m ≡ ok y → GoodDec (reserved p res.Local ∷ i) y.tree y.rest
      local-sound p i ds m y d h =
          let w = word_then-ok res.In _ m y h in
          let a = at-head w.1 (λ z. ReadsStrDecs f i ds z) d.reads in
          let u = then_ok (inner (after_decs f ds) w.0) _ y w.2 in
          let g = sound_inner (after_decs f ds) w.0 u.0 u.1 in
          let v = word_then-ok res.End _ u.0.rest y u.2 in
          let b = at-head v.1 (λ z. ReadsStrDecs (after_decs f ds) w.0 u.0.tree z) g.reads in
          given (GoodDec (reserved p res.Local ∷ i)) v.2
          (local-good p a.0 b.0 a.1 b.1 d.fits g.fits (are_core_decs ds && are_core_decs u.0.tree) refl)

      plain-sound : {i : List Terminal} {s : DecStart} (y : Read StrDec) → DecStartIs i s
          → then_read (dec_by n (readers n).exp (λ g m. bad) f s) (λ d o. read (core_dec d) o) ≡ ok y → GoodDec i y.tree y.rest
      plain-sound {i} {s} y is h =
          let t = then_ok (dec_by n (readers n).exp (λ g m. bad) f s) _ y h in
          let d = dec-sound n (below n) (readers n).exp (exp-sound n) (λ g m. bad) (λ g m x e. bad_ok e) f t.0 is t.1 in
          given (GoodDec i) t.2 (record { reads = of_core_dec d.reads; fits = d.fits })

      core-dec-sound : {i : List Terminal} {s : DecStart} (y : Read StrDec) → DecStartIs i s → core_dec_by n inner f s ≡ ok y → GoodDec i y.tree y.rest
      core-dec-sound y (is_val p) h = plain-sound y (is_val p) h
      core-dec-sound y (is_fun p) h = plain-sound y (is_fun p) h
      core-dec-sound y (is_type p) h = plain-sound y (is_type p) h
      core-dec-sound y (is_datatype p) h = plain-sound y (is_datatype p) h
      core-dec-sound y (is_exception p) h = plain-sound y (is_exception p) h
      core-dec-sound y (is_local {o} p) h =
          let t = then_ok (inner f o) (local_rest inner f p) y h in local-sound p o t.0.tree t.0.rest y (sound_inner f o t.0 t.1) t.2
      core-dec-sound y (is_open p) h = plain-sound y (is_open p) h
      core-dec-sound y (is_infix_dec p) h = plain-sound y (is_infix_dec p) h
      core-dec-sound y (is_infixr_dec p) h = plain-sound y (is_infixr_dec p) h
      core-dec-sound y (is_nonfix_dec p) h = plain-sound y (is_nonfix_dec p) h
      core-dec-sound {i} y is_no_dec h = plain-sound y (is_no_dec {i = i}) h

      structure-sound : (p : ℕ) (i : List Terminal) (y : Read StrDec) → then_read (read_str_binds n self f i) (λ bs o. read (structure_dec p bs) o) ≡ ok y
          → GoodDec (reserved p res.Structure ∷ i) y.tree y.rest
      structure-sound p i y h =
          let t = then_ok (read_str_binds n self f i) _ y h in
          let g = binds-sound f i t.0 t.1 in
          given (GoodDec (reserved p res.Structure ∷ i)) t.2 (record { reads = of_structure p g.reads; fits = g.fits })

      pub str-dec-sound : (i : List Terminal) (y : Read StrDec) → str_dec_by n self inner f i ≡ ok y → Within (ReadsStrDec f) depth_str_dec n i y.tree y.rest
      str-dec-sound (reserved p res.Structure ∷ i) y h = structure-sound p i y h
      str-dec-sound i y h = core-dec-sound y (dec-start-is i) h

    abbrev GoodDecs : Fixity → List Terminal → StrDecs → List Terminal → Type 0
    GoodDecs f i ds o = Within (ReadsStrDecs f) depth_str_decs n i ds o

    decs-turn : (f : Fixity) (i : List Terminal) (y : Read (Turn StrDecs Fixity)) → str_dec_turn n self inner f i ≡ ok y → GoodTurn GoodDecs f i y.tree y.rest
    decs-turn f i y h =
        elim (on_some-split (after_word res.Semicolon i) _ _ h) [
          | inl q ↦ given (GoodTurn GoodDecs f i) q.2
              (at-front (word-at res.Semicolon i q.0 q.1) (λ z. (ds : StrDecs) (o : List Terminal) → GoodDecs f q.0 ds o → GoodDecs f z ds o)
              (λ p ds o k. record { reads = dec_semicolon p k.reads; fits = k.fits }))
          | inr q ↦ elim (chosen (begins_str_dec i) _ _ q.1) [
            | inl p ↦
                let t = then_ok (str_dec_by n self inner f i) _ y p.1 in
                let d = str-dec-sound f i t.0 t.1 in
                given (GoodTurn GoodDecs f i) t.2 (λ ds o k. record { reads = of_str_dec d.reads k.reads; fits = omega (arith, d.fits, k.fits) })
            | inr p ↦ given (GoodTurn GoodDecs f i) p.1 (record { reads = no_more_decs; fits = omega arith })
          ]
        ]

    pub str-decs-sound : (f : Fixity) (i : List Terminal) (y : Read StrDecs) → str_decs_from n self inner f i ≡ ok y → Within (ReadsStrDecs f) depth_str_decs n i y.tree y.rest
    str-decs-sound f i y h = many-ok (str_dec_turn n self inner) GoodDecs decs-turn (suc (length i)) f i y h

pub record SoundStrReaders (n : ℕ) : Type 0 where
  pub str : SoundsStr n (str_readers n).str
  pub decs : SoundsStrDecs n (str_readers n).decs

pub str-readers-sound : (n : ℕ) → SoundStrReaders n
unfolding str_readers
str-readers-sound zero = record {
  str = λ f i y h. deep_if-ok (begins_str (str_start i)) y h;
  decs = λ f i y h. str-decs-sound 0 (λ g m. deep_if (begins_str (str_start m))) (λ g m x e. deep_if-ok (begins_str (str_start m)) x e) (λ g m. deep) (λ g m x e. deep_ok e) f i y h;
}
str-readers-sound (suc n) =
    let s = str-readers-sound n in
    record {
      str = λ f i y h. str-from-sound n (str_readers n) s.str s.decs f i y h;
      decs = λ f i y h. str-decs-sound (suc n) (λ g m. str_from (str_readers n) n g m) (λ g m x e. str-from-sound n (str_readers n) s.str s.decs g m x e)
          (str_readers n).decs (λ g m x e. let d = s.decs g m x e in record { reads = d.reads; fits = omega (arith, d.fits) }) f i y h;
    }
