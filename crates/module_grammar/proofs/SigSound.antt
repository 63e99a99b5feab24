-- Signatures and specifications that are read are in the grammar.
use Rattle.std.proofs.Common.{◌≡◌, ℕ, zero, suc, List, ◌∷◌, length, inl, inr, arith, nat_le}
use Rattle.std.proofs.lemmas.Bool.{leb-true}
use Rattle.mlc_names.specs.declared.token.Reserved.TheVariants as res
use Rattle.sml_tree.specs.Terminal.{LongId, Terminal, reserved, alpha, IsLongTycon}
use Rattle.sml_tree.specs.ReadTree.{Placed}
use Rattle.sml_grammar.specs.Answer.{Read, ok, Turn, whole}
use Rattle.sml_grammar.specs.Terminals.{first_as, as_long_tycon, after_word, NoState, no_state}
use Rattle.sml_grammar.specs.Bindings.{read_type_binds}
use Rattle.sml_grammar.specs.Expressions.{replicated}
use Rattle.sml_grammar.proofs.Words.{WordAt, at_word, word-at}
use Rattle.sml_grammar.proofs.Answers.{chosen, then_ok, then_taken-ok, word_then-ok, on_some-split, on_taken-split, bad_ok, deep_ok, deep_if-ok, GoodTurn, many-ok}
use Rattle.sml_grammar.proofs.Terminals.{Front, front, long_tycon-is}
use Rattle.sml_grammar.proofs.ExpBelow.{Within}
use Rattle.sml_grammar.proofs.ExpGiven.{below}
use Rattle.sml_grammar.proofs.ExpTurns.{at-head, at-front, given, sep-good}
use Rattle.sml_grammar.proofs.ExpSoundDecs.{Replicated, replicated_at, replicated-is}
use Rattle.module_tree.specs.ReadModules.{SigExp, sig_id, Specs, Spec, replication_spec, sharing_spec, StrDescs, last_desc, desc_and, include_ids}
use Rattle.module_tree.specs.ModuleDepth.{depth_sig, depth_specs, depth_spec, depth_str_descs}
use Rattle.module_tree.specs.ModuleGrammar.{module_id, SigIds, LongTycons, ReadsSig, of_sig, of_sig_id, of_where, ReadsSpecs, no_more_specs, spec_semicolon, of_spec, ReadsSpec, of_val_spec, of_type_spec, of_abbreviation_spec, of_eqtype_spec, of_datatype_spec, of_replication_spec, of_exception_spec, of_structure_spec, of_include, of_include_ids, of_sharing, ReadsStrDescs, of_last_desc, of_desc_and}
use Rattle.module_grammar.specs.Signatures.{as_module_id, val_desc_turn, type_desc_turn, read_con_descs, data_desc_turn, binds_type, type_form, datatype_form, tycon_turn, sharing_form, where_turn, SigReader, str_desc_turn, sig_id_turn, two_ids, include_form, SpecStart, val_start, type_start, eqtype_start, datatype_start, exception_start, structure_start, include_start, sharing_start, no_spec, spec_start, is_spec_start, spec_by, spec_turn, specs_from, SigStart, sig_start, sig_id_start, no_sig_start, sig_start_of, begins_sig, sig_atom, where_suffix, read_sig}
use Rattle.module_grammar.proofs.SpecSound.{IdAt, id_at, id-is, vals-sound, types-sound, exs-sound, data-sound, tycons-sound, wheres-sound, ids-sound}

-- what a specification begins with

pub data SpecStartIs : List Terminal → SpecStart → Type 0 where
  is_val : {o : List Terminal} (p : ℕ) → SpecStartIs (reserved p res.Val ∷ o) (val_start p o)
  is_type : {o : List Terminal} (p : ℕ) → SpecStartIs (reserved p res.TypeWord ∷ o) (type_start p o)
  is_eqtype : {o : List Terminal} (p : ℕ) → SpecStartIs (reserved p res.Eqtype ∷ o) (eqtype_start p o)
  is_datatype : {o : List Terminal} (p : ℕ) → SpecStartIs (reserved p res.Datatype ∷ o) (datatype_start p o)
  is_exception : {o : List Terminal} (p : ℕ) → SpecStartIs (reserved p res.Exception ∷ o) (exception_start p o)
  is_structure : {o : List Terminal} (p : ℕ) → SpecStartIs (reserved p res.Structure ∷ o) (structure_start p o)
  is_include : {o : List Terminal} (p : ℕ) → SpecStartIs (reserved p res.Include ∷ o) (include_start p o)
  is_sharing : {o : List Terminal} (p : ℕ) → SpecStartIs (reserved p res.Sharing ∷ o) (sharing_start p o)
  is_no_spec : {i : List Terminal} → SpecStartIs i no_spec

pub spec-start-is : (i : List Terminal) → SpecStartIs i (spec_start i)
spec-start-is (reserved p res.Val ∷ o) = is_val p
spec-start-is (reserved p res.TypeWord ∷ o) = is_type p
spec-start-is (reserved p res.Eqtype ∷ o) = is_eqtype p
spec-start-is (reserved p res.Datatype ∷ o) = is_datatype p
spec-start-is (reserved p res.Exception ∷ o) = is_exception p
spec-start-is (reserved p res.Structure ∷ o) = is_structure p
spec-start-is (reserved p res.Include ∷ o) = is_include p
spec-start-is (reserved p res.Sharing ∷ o) = is_sharing p
spec-start-is _ = is_no_spec

desc-last : {i m k o : List Terminal} {x : Placed ℕ} {g : SigExp} → IdAt i x m → WordAt res.Colon m k → ReadsSig k g o → ReadsStrDescs i (last_desc x g) o
desc-last (id_at v) (at_word p) d = of_last_desc p v d

desc-more : {i m k n j o : List Terminal} {x : Placed ℕ} {g : SigExp} {ds : StrDescs} → IdAt i x m → WordAt res.Colon m k → ReadsSig k g n → WordAt res.And n j
    → ReadsStrDescs j ds o → ReadsStrDescs i (desc_and x g ds) o
desc-more (id_at v) (at_word p) d (at_word q) ds = of_desc_and p q v d ds

replication : (p : ℕ) {i m : List Terminal} {x : Placed ℕ} {c : Placed LongId} {o : List Terminal} → Replicated i x m → Front IsLongTycon m c o
    → ReadsSpec (reserved p res.Datatype ∷ i) (replication_spec p x c) o
replication p (replicated_at q r v) (front w) = of_replication_spec p q r v w

sharing : (p : ℕ) {i m k j o : List Terminal} {c : Placed LongId} {cs : List (Placed LongId)} → WordAt res.TypeWord i m → Front IsLongTycon m c k
    → WordAt res.Equals k j → LongTycons j cs o → ReadsSpec (reserved p res.Sharing ∷ i) (sharing_spec p (c ∷ cs)) o
sharing p (at_word q) (front v) (at_word r) cs = of_sharing p q r v cs

module _ (n : ℕ) (self : SigReader) (sound : (i : List Terminal) (y : Read SigExp) → self i ≡ ok y → Within ReadsSig depth_sig n i y.tree y.rest) where
  abbrev GoodDescs : NoState → List Terminal → StrDescs → List Terminal → Type 0
  GoodDescs s i ds o = Within ReadsStrDescs depth_str_descs n i ds o

  desc-turn : (s : NoState) (i : List Terminal) (y : Read (Turn StrDescs NoState)) → str_desc_turn self s i ≡ ok y → GoodTurn GoodDescs s i y.tree y.rest
  desc-turn s i y h =
      let t = then_taken-ok (first_as as_module_id i) _ y h in
      let v = id-is i t.0 t.1 t.2 in
      let w = word_then-ok res.Colon _ t.1 y t.3 in
      let u = then_ok (self w.0) _ y w.2 in
      let g = sound w.0 u.0 u.1 in
      sep-good GoodDescs s s i u.0.rest res.And (desc_and t.0 u.0.tree) (last_desc t.0 u.0.tree) y u.2
      (λ e. record { reads = desc-last v w.1 g.reads; fits = omega (arith, g.fits) })
      (λ m a b k r. let c = at-head a (λ z. ReadsSig w.0 u.0.tree z) g.reads in
      record { reads = desc-more v w.1 g.reads a r.reads; fits = omega (arith, g.fits, r.fits) })

  abbrev GoodSpec : List Terminal → Spec → List Terminal → Type 0
  GoodSpec i s o = Within ReadsSpec depth_spec n i s o

  type-sound : (p : ℕ) (i : List Terminal) (y : Read Spec) → type_form n p i ≡ ok y → GoodSpec (reserved p res.TypeWord ∷ i) y.tree y.rest
  type-sound p i y h =
      let b = then_ok (binds_type i) _ y h in
      elim (chosen b.0.tree _ _ b.2) [
        | inl q ↦
            let t = then_ok (read_type_binds n i) _ y q.1 in
            let g = (below n).type_binds i t.0 t.1 in
            given (GoodSpec (reserved p res.TypeWord ∷ i)) t.2 (record { reads = of_abbreviation_spec p g.reads; fits = g.fits })
        | inr q ↦
            let t = then_ok (whole type_desc_turn no_state i) _ y q.1 in
            given (GoodSpec (reserved p res.TypeWord ∷ i)) t.2 (record { reads = of_type_spec p (types-sound (suc (length i)) i t.0 t.1); fits = omega arith })
      ]

  datatype-sound : (p : ℕ) (i : List Terminal) (y : Read Spec) → datatype_form n p i ≡ ok y → GoodSpec (reserved p res.Datatype ∷ i) y.tree y.rest
  datatype-sound p i y h =
      elim (on_taken-split (replicated i) _ _ h) [
        | inl q ↦ let u = then_taken-ok (first_as as_long_tycon q.1) _ y q.3 in
            given (GoodSpec (reserved p res.Datatype ∷ i)) u.3
            (record { reads = replication p (replicated-is i q.0 q.1 q.2) (long_tycon-is q.1 u.0 u.1 u.2); fits = omega arith })
        | inr q ↦
            let t = then_ok (whole (data_desc_turn n) no_state i) _ y q.1 in
            let g = data-sound n (suc (length i)) i t.0 t.1 in
            given (GoodSpec (reserved p res.Datatype ∷ i)) t.2 (record { reads = of_datatype_spec p g.reads; fits = g.fits })
      ]

  sharing-sound : (p : ℕ) (i : List Terminal) (y : Read Spec) → sharing_form p i ≡ ok y → GoodSpec (reserved p res.Sharing ∷ i) y.tree y.rest
  sharing-sound p i y h =
      let w = word_then-ok res.TypeWord _ i y h in
      let c = then_taken-ok (first_as as_long_tycon w.0) _ y w.2 in
      let x = word_then-ok res.Equals _ c.1 y c.3 in
      let t = then_ok (whole tycon_turn no_state x.0) _ y x.2 in
      given (GoodSpec (reserved p res.Sharing ∷ i)) t.2
      (record { reads = sharing p w.1 (long_tycon-is w.0 c.0 c.1 c.2) x.1 (tycons-sound (suc (length x.0)) x.0 t.0 t.1); fits = omega arith })

  included : (p : ℕ) {i m o : List Terminal} {x : Placed ℕ} {xs : List (Placed ℕ)} → IdAt i x m → SigIds m xs o
      → ReadsSpec (reserved p res.Include ∷ i) (include_ids p (x ∷ xs)) o
  included p (id_at v) xs = of_include_ids p v xs

  include-sound : (p : ℕ) (i : List Terminal) (y : Read Spec) → include_form n self p i ≡ ok y → GoodSpec (reserved p res.Include ∷ i) y.tree y.rest
  include-sound p i y h =
      elim (chosen (two_ids i) _ _ h) [
        | inl q ↦ elim (chosen (nat_le 1 n) _ _ q.1) [
          | inl r ↦
              let t = then_taken-ok (first_as as_module_id i) _ y r.1 in
              let u = then_ok (whole sig_id_turn no_state t.1) _ y t.3 in
              given (GoodSpec (reserved p res.Include ∷ i)) u.2
              (record { reads = included p (id-is i t.0 t.1 t.2) (ids-sound (suc (length t.1)) t.1 u.0 u.1); fits = leb-true 1 n r.0 })
          | inr r ↦ deep_ok r.1
        ]
        | inr q ↦
            let t = then_ok (self i) _ y q.1 in
            let g = sound i t.0 t.1 in
            given (GoodSpec (reserved p res.Include ∷ i)) t.2 (record { reads = of_include p g.reads; fits = g.fits })
      ]

  pub spec-sound : {i : List Terminal} {s : SpecStart} (y : Read Spec) → SpecStartIs i s → spec_by n self s ≡ ok y → GoodSpec i y.tree y.rest
  spec-sound y (is_val {o} p) h =
      let t = then_ok (whole (val_desc_turn n) no_state o) _ y h in
      let g = vals-sound n (suc (length o)) o t.0 t.1 in
      given (GoodSpec (reserved p res.Val ∷ o)) t.2 (record { reads = of_val_spec p g.reads; fits = g.fits })
  spec-sound y (is_type {o} p) h = type-sound p o y h
  spec-sound y (is_eqtype {o} p) h =
      let t = then_ok (whole type_desc_turn no_state o) _ y h in
      given (GoodSpec (reserved p res.Eqtype ∷ o)) t.2 (record { reads = of_eqtype_spec p (types-sound (suc (length o)) o t.0 t.1); fits = omega arith })
  spec-sound y (is_datatype {o} p) h = datatype-sound p o y h
  spec-sound y (is_exception {o} p) h =
      let t = then_ok (read_con_descs n res.And o) _ y h in
      let g = exs-sound n o t.0 t.1 in
      given (GoodSpec (reserved p res.Exception ∷ o)) t.2 (record { reads = of_exception_spec p g.reads; fits = g.fits })
  spec-sound y (is_structure {o} p) h =
      let t = then_ok (whole (str_desc_turn self) no_state o) _ y h in
      let g = many-ok (str_desc_turn self) GoodDescs desc-turn (suc (length o)) no_state o t.0 t.1 in
      given (GoodSpec (reserved p res.Structure ∷ o)) t.2 (record { reads = of_structure_spec p g.reads; fits = g.fits })
  spec-sound y (is_include {o} p) h = include-sound p o y h
  spec-sound y (is_sharing {o} p) h = sharing-sound p o y h
  spec-sound y is_no_spec h = bad_ok h

  abbrev GoodSpecs : NoState → List Terminal → Specs → List Terminal → Type 0
  GoodSpecs s i ss o = Within ReadsSpecs depth_specs n i ss o

  specs-turn : (s : NoState) (i : List Terminal) (y : Read (Turn Specs NoState)) → spec_turn n self s i ≡ ok y → GoodTurn GoodSpecs s i y.tree y.rest
  specs-turn s i y h =
      elim (on_some-split (after_word res.Semicolon i) _ _ h) [
        | inl q ↦ given (GoodTurn GoodSpecs s i) q.2
            (at-front (word-at res.Semicolon i q.0 q.1) (λ z. (ss : Specs) (o : List Terminal) → GoodSpecs s q.0 ss o → GoodSpecs s z ss o)
            (λ p ss o k. record { reads = spec_semicolon p k.reads; fits = k.fits }))
        | inr q ↦ elim (chosen (is_spec_start (spec_start i)) _ _ q.1) [
          | inl p ↦
              let t = then_ok (spec_by n self (spec_start i)) _ y p.1 in
              let d = spec-sound t.0 (spec-start-is i) t.1 in
              given (GoodTurn GoodSpecs s i) t.2 (λ ss o k. record { reads = of_spec d.reads k.reads; fits = omega (arith, d.fits, k.fits) })
          | inr p ↦ given (GoodTurn GoodSpecs s i) p.1 (record { reads = no_more_specs; fits = omega arith })
        ]
      ]

  pub specs-sound : (i : List Terminal) (y : Read Specs) → specs_from n self i ≡ ok y → Within ReadsSpecs depth_specs n i y.tree y.rest
  specs-sound i y h = many-ok (spec_turn n self) GoodSpecs specs-turn (suc (length i)) no_state i y h

-- what a signature begins with

pub data SigStartIs : List Terminal → SigStart → Type 0 where
  is_sig : {o : List Terminal} (p : ℕ) → SigStartIs (reserved p res.Sig ∷ o) (sig_start p o)
  is_sig_id : {i o : List Terminal} {x : Placed ℕ} → IdAt i x o → SigStartIs i (sig_id_start x o)
  is_no_sig : {i : List Terminal} → SigStartIs i no_sig_start

pub sig-start-is : (i : List Terminal) → SigStartIs i (sig_start_of i)
sig-start-is (reserved p res.Sig ∷ o) = is_sig p
sig-start-is (alpha p x ∷ o) = is_sig_id (id_at (module_id p x))
sig-start-is _ = is_no_sig

abbrev pub GoodSig : ℕ → List Terminal → SigExp → List Terminal → Type 0
GoodSig n i g o = Within ReadsSig depth_sig n i g o

sig-id : {i o : List Terminal} {x : Placed ℕ} → IdAt i x o → ReadsSig i (sig_id x.place x.it) o
sig-id (id_at v) = of_sig_id v

module _ (n : ℕ) where
  pub atom-sound : (self : SigReader) → ((i : List Terminal) (y : Read SigExp) → self i ≡ ok y → GoodSig n i y.tree y.rest) → {i : List Terminal} {s : SigStart}
      (y : Read SigExp) → SigStartIs i s → sig_atom n self s ≡ ok y → GoodSig (suc n) i y.tree y.rest
  atom-sound self sound y (is_sig {o} p) h =
      let t = then_ok (specs_from n self o) _ y h in
      let g = specs-sound n self sound o t.0 t.1 in
      let w = word_then-ok res.End _ t.0.rest y t.2 in
      let a = at-head w.1 (λ z. ReadsSpecs o t.0.tree z) g.reads in
      given (GoodSig (suc n) (reserved p res.Sig ∷ o)) w.2 (record { reads = of_sig p a.0 a.1; fits = omega (arith, g.fits) })
  atom-sound self sound {i} y (is_sig_id v) h = given (GoodSig (suc n) i) h (record { reads = sig-id v; fits = omega arith })
  atom-sound self sound y is_no_sig h = bad_ok h

  -- a signature that is extended
  abbrev Extends : SigExp → List Terminal → SigExp → List Terminal → Type 0
  Extends g m h o = (i : List Terminal) → GoodSig (suc n) i g m → GoodSig (suc n) i h o

  where-suffix : (g : SigExp) (i : List Terminal) (y : Read (Turn SigExp SigExp)) → where_suffix n g i ≡ ok y → GoodTurn Extends g i y.tree y.rest
  where-suffix g i y h =
      elim (on_some-split (after_word res.Where i) _ _ h) [
        | inl q ↦ elim (chosen (nat_le (depth_sig g) n) _ _ q.2) [
          | inl r ↦
              let t = then_ok (whole (where_turn n) no_state q.0) _ y r.1 in
              let d = wheres-sound n (suc (length q.0)) q.0 t.0 t.1 in
              given (GoodTurn Extends g i) t.2 (λ b o k j e.
              let a = at-head (word-at res.Where i q.0 q.1) (λ z. ReadsSig j g z) e.reads in
              k j (record { reads = of_where a.0 a.1 d.reads; fits = omega (arith, d.fits, leb-true (depth_sig g) n r.0) }))
          | inr r ↦ deep_ok r.1
        ]
        | inr q ↦ given (GoodTurn Extends g i) q.1 (λ j e. e)
      ]

pub sig-sound : (n : ℕ) (i : List Terminal) (y : Read SigExp) → read_sig n i ≡ ok y → Within ReadsSig depth_sig n i y.tree y.rest
unfolding read_sig
sig-sound zero i y h = deep_if-ok (begins_sig (sig_start_of i)) y h
sig-sound (suc n) i y h =
    let t = then_ok (sig_atom n (read_sig n) (sig_start_of i)) _ y h in
    let g = atom-sound n (read_sig n) (λ j x e. sig-sound n j x e) t.0 (sig-start-is i) t.1 in
    many-ok (where_suffix n) (Extends n) (where-suffix n) (suc (length t.0.rest)) t.0.tree t.0.rest y t.2 i g
