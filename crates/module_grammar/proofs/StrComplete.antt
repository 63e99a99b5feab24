-- Structures and their declarations that are in the grammar, and not too deep, are read.
use Rattle.std.proofs.Common.{◌≡◌, ℕ, zero, suc, ◌≤◌, ◌<◌, List, [], ◌∷◌, ◌++◌, length, Some, None, Bool, true, false, refl, sym, ap, ◌∙◌, arith, max}
use Rattle.std.proofs.lemmas.Bool.{le-leb}
use Rattle.mlc_names.specs.declared.token.Reserved.TheVariants as res
use Rattle.sml_tree.specs.Terminal.{LongId, Terminal, reserved, IsLongStrid, short_strid, long_strid}
use Rattle.sml_tree.specs.Fixity.{Fixity}
use Rattle.sml_tree.specs.ReadTree.{Decs, no_decs, dec, Dec}
use Rattle.sml_tree.specs.Depth.{depth_decs, depth_dec}
use Rattle.sml_tree.specs.Levels.{added, after, could_go_on, begins_bar}
use Rattle.sml_tree.specs.Grammar.{Declares, nothing_more, of_semicolon, of_dec, Declare, of_val, of_fun, of_type, of_datatype, of_withtype, of_replication, of_exception, of_local, of_open, of_infix, of_infixr, of_nonfix}
use Rattle.sml_grammar.specs.Answer.{deep, deep_if, read, many}
use Rattle.sml_grammar.specs.Terminals.{first_as, as_vid, as_long_strid, after_word, no_state}
use Rattle.sml_grammar.specs.Types.{ty_could_go_on}
use Rattle.sml_grammar.specs.Bindings.{read_tyvars, read_type_binds, read_data_binds, read_ex_binds, read_strids, read_vids}
use Rattle.sml_grammar.specs.Expressions.{readers, begins_atom, read_binds, read_funs, infix_directive}
use Rattle.sml_grammar.proofs.Answers.{not_true, not_some, many-last, many-more, many-pass}
use Rattle.sml_grammar.proofs.Terminals.{tycon-found, long_tycon-found}
use Rattle.sml_grammar.proofs.BindStops.{BindStops}
use Rattle.sml_grammar.proofs.BindTypes as type_binds
use Rattle.sml_grammar.proofs.BindDatatypes as data_binds
use Rattle.sml_grammar.proofs.BindExceptions as ex_binds
use Rattle.sml_grammar.proofs.CompFacts as facts
use Rattle.sml_grammar.proofs.CompQuiet.{Quiet}
use Rattle.sml_grammar.proofs.CompHeads.{binds-tyvars, funs-tyvars, data-not_replicated}
use Rattle.sml_grammar.proofs.CompDecs.{binds-complete, funs-complete}
use Rattle.sml_grammar.proofs.CompMain.{exp-complete}
use Rattle.module_tree.specs.ReadModules.{Seal, SigExp, MaybeSig, StrExp, struct_end, str_id, constrained, applied, applied_to_decs, let_str, StrDecs, no_str_decs, str_dec, StrDec, core_dec, StrBinds, str_and, str_bind}
use Rattle.module_tree.specs.Scope.{are_core_decs, added_decs, after_decs, after_str_dec}
use Rattle.module_tree.specs.ModuleDepth.{depth_maybe_sig, depth_str, depth_str_decs, depth_str_dec, depth_str_binds}
use Rattle.module_tree.specs.ModuleGrammar.{module_id, IsSeal, is_colon, is_opaque, ReadsMaybeSig, without_sig, with_sig, ReadsStr, of_struct, of_str_id, of_constrained, of_applied, of_applied_to_decs, of_let_str, ReadsStrDecs, no_more_decs, dec_semicolon, of_str_dec, ReadsStrDec, of_core_dec, of_structure, of_local_str, ReadsStrBinds, of_last_str, of_str_and, of_str_bind}
use Rattle.module_grammar.specs.Signatures.{and_type, read_sig}
use Rattle.module_grammar.specs.Structures.{core_decs, sealing, maybe_sig, StrReader, StrDecsReader, StrReaders, str_id_start, str_start, begins_str, seal_suffix, str_from, str_bind_turn, read_str_binds, str_dec_by, begins_str_dec, str_dec_turn, str_decs_from, str_readers}
use Rattle.module_grammar.proofs.Shorter.{sig-shorter, str-bind-shorter, str-dec-shorter}
use Rattle.module_grammar.proofs.SigComplete.{SigStops, sig-complete}

-- what a structure could go on with
pub record StrStops (o : List Terminal) : Type 0 where
  pub sig : SigStops o
  pub none : sealing o ≡ None
  pub bracket : after_word res.LeftParen o ≡ None

-- what declarations of structures begin with, or end before
abbrev pub calm : List Terminal → Bool
calm [] = true
calm (reserved p res.Semicolon ∷ r) = true
calm (reserved p res.In ∷ r) = true
calm (reserved p res.End ∷ r) = true
calm (reserved p res.RightParen ∷ r) = true
calm (reserved p res.Val ∷ r) = true
calm (reserved p res.Fun ∷ r) = true
calm (reserved p res.TypeWord ∷ r) = true
calm (reserved p res.Datatype ∷ r) = true
calm (reserved p res.Exception ∷ r) = true
calm (reserved p res.Local ∷ r) = true
calm (reserved p res.Open ∷ r) = true
calm (reserved p res.Infix ∷ r) = true
calm (reserved p res.Infixr ∷ r) = true
calm (reserved p res.Nonfix ∷ r) = true
calm (reserved p res.Structure ∷ r) = true
calm (reserved p res.Signature ∷ r) = true
calm (reserved p res.Functor ∷ r) = true
calm _ = false

-- what a declaration could go on with, and a structure at its end
pub record DecStops (f : Fixity) (o : List Terminal) : Type 0 where
  pub quiet : Quiet f o
  pub binds : BindStops o
  pub str : StrStops o

-- all of it, by computation
abbrev AllStop : Fixity → List Terminal → Type 0
AllStop f o = (could_go_on f 0 o ≡ false) × (begins_bar o ≡ false) × (begins_atom f o ≡ false) × (ty_could_go_on 0 o ≡ false) × (first_as as_long_strid o ≡ None)
    × (first_as as_vid o ≡ None) × (after_word res.And o ≡ None) × (after_word res.Withtype o ≡ None) × BindStops o
    × (after_word res.Where o ≡ None) × (sealing o ≡ None) × (after_word res.LeftParen o ≡ None)

stops-of : {f : Fixity} {o : List Terminal} → AllStop f o → DecStops f o
stops-of {o} (a, b, c, d, e, g, h, i, j, k, l, m) = record {
  quiet = record { plain = record { ties = a; bar = b; atom = c; ty = d }; strid = e; vid = g; and_ = h; withtype = i };
  binds = j;
  str = record { sig = record { wheres = record { ty = d; and_ = rw h refl }; none = k }; none = l; bracket = m };
}

pub calm-stops : (f : Fixity) (o : List Terminal) → calm o ≡ true → DecStops f o
calm-stops f [] h = stops-of (refl, refl, refl, refl, refl, refl, refl, refl, refl, refl, refl, refl)
calm-stops f (reserved p res.Semicolon ∷ r) h = stops-of (refl, refl, refl, refl, refl, refl, refl, refl, refl, refl, refl, refl)
calm-stops f (reserved p res.In ∷ r) h = stops-of (refl, refl, refl, refl, refl, refl, refl, refl, refl, refl, refl, refl)
calm-stops f (reserved p res.End ∷ r) h = stops-of (refl, refl, refl, refl, refl, refl, refl, refl, refl, refl, refl, refl)
calm-stops f (reserved p res.RightParen ∷ r) h = stops-of (refl, refl, refl, refl, refl, refl, refl, refl, refl, refl, refl, refl)
calm-stops f (reserved p res.Val ∷ r) h = stops-of (refl, refl, refl, refl, refl, refl, refl, refl, refl, refl, refl, refl)
calm-stops f (reserved p res.Fun ∷ r) h = stops-of (refl, refl, refl, refl, refl, refl, refl, refl, refl, refl, refl, refl)
calm-stops f (reserved p res.TypeWord ∷ r) h = stops-of (refl, refl, refl, refl, refl, refl, refl, refl, refl, refl, refl, refl)
calm-stops f (reserved p res.Datatype ∷ r) h = stops-of (refl, refl, refl, refl, refl, refl, refl, refl, refl, refl, refl, refl)
calm-stops f (reserved p res.Exception ∷ r) h = stops-of (refl, refl, refl, refl, refl, refl, refl, refl, refl, refl, refl, refl)
calm-stops f (reserved p res.Local ∷ r) h = stops-of (refl, refl, refl, refl, refl, refl, refl, refl, refl, refl, refl, refl)
calm-stops f (reserved p res.Open ∷ r) h = stops-of (refl, refl, refl, refl, refl, refl, refl, refl, refl, refl, refl, refl)
calm-stops f (reserved p res.Infix ∷ r) h = stops-of (refl, refl, refl, refl, refl, refl, refl, refl, refl, refl, refl, refl)
calm-stops f (reserved p res.Infixr ∷ r) h = stops-of (refl, refl, refl, refl, refl, refl, refl, refl, refl, refl, refl, refl)
calm-stops f (reserved p res.Nonfix ∷ r) h = stops-of (refl, refl, refl, refl, refl, refl, refl, refl, refl, refl, refl, refl)
calm-stops f (reserved p res.Structure ∷ r) h = stops-of (refl, refl, refl, refl, refl, refl, refl, refl, refl, refl, refl, refl)
calm-stops f (reserved p res.Signature ∷ r) h = stops-of (refl, refl, refl, refl, refl, refl, refl, refl, refl, refl, refl, refl)
calm-stops f (reserved p res.Functor ∷ r) h = stops-of (refl, refl, refl, refl, refl, refl, refl, refl, refl, refl, refl, refl)
calm-stops f _ h = not_true h

-- what a declaration begins with
pub record DecBegins (i : List Terminal) : Type 0 where
  pub calm : calm i ≡ true
  pub semicolon : after_word res.Semicolon i ≡ None
  pub dec : begins_str_dec i ≡ true
  pub str : begins_str (str_start i) ≡ false

core-begins : {f : Fixity} {i o : List Terminal} {d : Dec} → Declare f i d o → DecBegins i
core-begins (of_val p a s b) = record { calm = refl; semicolon = refl; dec = refl; str = refl }
core-begins (of_fun p a s b) = record { calm = refl; semicolon = refl; dec = refl; str = refl }
core-begins (of_type p b) = record { calm = refl; semicolon = refl; dec = refl; str = refl }
core-begins (of_datatype p b) = record { calm = refl; semicolon = refl; dec = refl; str = refl }
core-begins (of_withtype p q b c) = record { calm = refl; semicolon = refl; dec = refl; str = refl }
core-begins (of_replication p q r t c) = record { calm = refl; semicolon = refl; dec = refl; str = refl }
core-begins (of_exception p b) = record { calm = refl; semicolon = refl; dec = refl; str = refl }
core-begins (of_local p q r d e) = record { calm = refl; semicolon = refl; dec = refl; str = refl }
core-begins (of_open p d) = record { calm = refl; semicolon = refl; dec = refl; str = refl }
core-begins (of_infix p n d) = record { calm = refl; semicolon = refl; dec = refl; str = refl }
core-begins (of_infixr p n d) = record { calm = refl; semicolon = refl; dec = refl; str = refl }
core-begins (of_nonfix p d) = record { calm = refl; semicolon = refl; dec = refl; str = refl }

pub dec-begins : {f : Fixity} {i o : List Terminal} {d : StrDec} → ReadsStrDec f i d o → DecBegins i
dec-begins (of_core_dec d) = core-begins d
dec-begins (of_structure p b) = record { calm = refl; semicolon = refl; dec = refl; str = refl }
dec-begins (of_local_str p q r d e n) = record { calm = refl; semicolon = refl; dec = refl; str = refl }

-- declarations end here
pub record DecsEnd (o : List Terminal) : Type 0 where
  pub calm : calm o ≡ true
  pub none : begins_str_dec o ≡ false
  pub semicolon : after_word res.Semicolon o ≡ None

decs-calm : {f : Fixity} {i o : List Terminal} {ds : StrDecs} → ReadsStrDecs f i ds o → calm o ≡ true → calm i ≡ true
decs-calm no_more_decs h = h
decs-calm (dec_semicolon p d) h = refl
decs-calm (of_str_dec d ds) h = (dec-begins d).calm

-- declarations before a bracket are no structure
pub decs-no_str : {f : Fixity} {i o : List Terminal} {ds : StrDecs} (q : ℕ) → ReadsStrDecs f i ds (reserved q res.RightParen ∷ o) → begins_str (str_start i) ≡ false
decs-no_str q no_more_decs = refl
decs-no_str q (dec_semicolon p d) = refl
decs-no_str q (of_str_dec d ds) = (dec-begins d).str

pub id-begins : {t : Terminal} {p : ℕ} {c : LongId} (o : List Terminal) → IsLongStrid t p c → begins_str (str_start (t ∷ o)) ≡ true
id-begins [] (short_strid p x) = refl
id-begins (reserved q res.LeftParen ∷ o) (short_strid p x) = refl
id-begins _ (short_strid p x) = refl
id-begins o (long_strid p qs x) = refl

pub str-begins : {f : Fixity} {i o : List Terminal} {s : StrExp} → ReadsStr f i s o → begins_str (str_start i) ≡ true
str-begins (of_struct p q d) = refl
str-begins (of_str_id {o} v) = id-begins o v
str-begins (of_constrained d v g) = str-begins d
str-begins (of_applied p q (module_id r x) d) = refl
str-begins (of_applied_to_decs p q (module_id r x) d) = refl
str-begins (of_let_str p q r d s) = refl

id-start : {t : Terminal} {p : ℕ} {c : LongId} (o : List Terminal) → IsLongStrid t p c → after_word res.LeftParen o ≡ None
    → str_start (t ∷ o) ≡ str_id_start (record { place = p; it = c }) o
id-start [] (short_strid p x) e = refl
id-start (reserved q res.LeftParen ∷ o) (short_strid p x) e = not_some (sym e)
id-start _ (short_strid p x) e = refl
id-start o (long_strid p qs x) e = refl

-- Declarations of the core, as declarations of structures.

abbrev pub lift_decs : Decs → StrDecs
lift_decs no_decs = no_str_decs
lift_decs (dec d ds) = str_dec (core_dec d) (lift_decs ds)

pub lift-reads : {f : Fixity} {i o : List Terminal} {ds : Decs} → Declares f i ds o → ReadsStrDecs f i (lift_decs ds) o
lift-reads nothing_more = no_more_decs
lift-reads (of_semicolon p d) = dec_semicolon p (lift-reads d)
lift-reads (of_dec d ds) = of_str_dec (of_core_dec d) (lift-reads ds)

lift-core : (ds : Decs) → are_core_decs (lift_decs ds) ≡ true
lift-core no_decs = refl
lift-core (dec d ds) = lift-core ds

lift-back : (ds : Decs) → core_decs (lift_decs ds) ≡ ds
lift-back no_decs = refl
lift-back (dec d ds) = ap (dec d) (lift-back ds)

lift-depth : (ds : Decs) → depth_str_decs (lift_decs ds) ≡ depth_decs ds
lift-depth no_decs = refl
lift-depth (dec d ds) = ap (λ z. max (depth_dec d) z) (lift-depth ds)

pub lift-added : (ds : Decs) → added_decs (lift_decs ds) ≡ added ds
lift-added no_decs = refl
lift-added (dec d ds) = let h = lift-added ds in rw h refl

-- Signs and signatures.

pub seal-found : {t : Terminal} {k : Seal} → IsSeal t k → (o : List Terminal) → sealing (t ∷ o) ≡ Some (record { seal = k; rest = o })
seal-found (is_colon p) o = refl
seal-found (is_opaque p) o = refl

pub seal-stops : {t : Terminal} {k : Seal} → IsSeal t k → (o : List Terminal) → SigStops (t ∷ o)
seal-stops (is_colon p) o = record { wheres = record { ty = refl; and_ = refl }; none = refl }
seal-stops (is_opaque p) o = record { wheres = record { ty = refl; and_ = refl }; none = refl }

pub seal-bracket : {t : Terminal} {k : Seal} → IsSeal t k → (o : List Terminal) → after_word res.LeftParen (t ∷ o) ≡ None
seal-bracket (is_colon p) o = refl
seal-bracket (is_opaque p) o = refl

pub maybe-sig-complete : (n : ℕ) {i m : List Terminal} {g : MaybeSig} (p : ℕ) → ReadsMaybeSig i g (reserved p res.Equals ∷ m) → depth_maybe_sig g ≤ n
    → maybe_sig n i ≡ read g (reserved p res.Equals ∷ m)
maybe-sig-complete n p without_sig le = refl
maybe-sig-complete n {m} p (with_sig {i} {g} v d) le =
    let e = seal-found v i in
    let h : read_sig n i ≡ read g (reserved p res.Equals ∷ m) =
    sig-complete n i g (reserved p res.Equals ∷ m) d le (record { wheres = record { ty = refl; and_ = refl }; none = refl }) in
    rw (e, h) refl

-- what stands after `and` in a list of structures is an identifier
binds-and : {f : Fixity} {i o : List Terminal} {bs : StrBinds} → ReadsStrBinds f i bs o → and_type (Some i) ≡ None
binds-and (of_last_str (of_str_bind p (module_id q x) g s)) = refl
binds-and (of_str_and r (of_str_bind p (module_id q x) g s) bs) = refl

abbrev pub CompleteStr : ℕ → StrReader → Type 0
CompleteStr n self = (f : Fixity) (i : List Terminal) (s : StrExp) (o : List Terminal) → ReadsStr f i s o → depth_str s ≤ n → StrStops o → self f i ≡ read s o

abbrev pub CompleteStrDecs : ℕ → StrDecsReader → Type 0
CompleteStrDecs n decs =
    (f : Fixity) (i : List Terminal) (ds : StrDecs) (o : List Terminal) → ReadsStrDecs f i ds o → depth_str_decs ds ≤ n → DecsEnd o → decs f i ≡ read ds o

end-word : (p : ℕ) (o : List Terminal) → DecsEnd (reserved p res.End ∷ o)
end-word p o = record { calm = refl; none = refl; semicolon = refl }

pub in-word : (p : ℕ) (o : List Terminal) → DecsEnd (reserved p res.In ∷ o)
in-word p o = record { calm = refl; none = refl; semicolon = refl }

pub bracket-word : (p : ℕ) (o : List Terminal) → DecsEnd (reserved p res.RightParen ∷ o)
bracket-word p o = record { calm = refl; none = refl; semicolon = refl }

-- Structure expressions.
module _ (n : ℕ) (self : StrReaders) (complete : CompleteStr n self.str) (complete_decs : CompleteStrDecs n self.decs) where
  -- The loop over signatures comes to each structure that the terminals begin with.
  pub record Reached (f : Fixity) (i : List Terminal) (s : StrExp) (m : List Terminal) : Type 0 where
    pub k : ℕ
    pub left : length m < k
    pub is : str_from self n f i ≡ many (seal_suffix n) k s m

  seal-step : {f : Fixity} {i m o : List Terminal} {t : Terminal} {s : StrExp} {k : Seal} {g : SigExp} → IsSeal t k → Reached f i s (t ∷ m) → depth_str s ≤ n
      → read_sig n m ≡ read g o → length o < length m → Reached f i (constrained s k g) o
  seal-step {f} {i} {m} {o} {t} {s} {k} {g} v r le h l = go r.k r.left r.is
    where
      go : (j : ℕ) → length (t ∷ m) < j → str_from self n f i ≡ many (seal_suffix n) j s (t ∷ m) → Reached f i (constrained s k g) o
      go zero lt e = absurd (omega arith)
      go (suc j) lt e =
          let c = le-leb (depth_str s) n le in
          let b = seal-found v m in
          record { k = j; left = omega (arith, l); is = e ∙ many-pass (seal_suffix n) j (rw (b, c, h) refl) }

  pub reaches : {f : Fixity} {i m : List Terminal} {s : StrExp} → ReadsStr f i s m → depth_str s ≤ suc n → SigStops m → after_word res.LeftParen m ≡ None → Reached f i s m
  reaches {f} (of_struct {i} {o} {ds} p q d) le st b =
      let h : self.decs f i ≡ read ds (reserved q res.End ∷ o) = complete_decs f i ds (reserved q res.End ∷ o) d (omega arith) (end-word q o) in
      record { k = suc (length o); left = omega arith; is = rw h refl }
  reaches (of_str_id {o} v) le st b = let e = id-start o v b in record { k = suc (length o); left = omega arith; is = rw e refl }
  reaches {f} (of_constrained {t} {i} {m} {o} {s} {k} {g} d v gd) le st b =
      let h : read_sig n m ≡ read g o = sig-complete n m g o gd (omega arith) st in
      seal-step v (reaches d (omega arith) (seal-stops v m) (seal-bracket v m)) (omega arith) h (sig-shorter gd)
  reaches {f} (of_applied {i} {o} {s} p q (module_id r x) d) le st b =
      let e = str-begins d in
      let h : self.str f i ≡ read s (reserved q res.RightParen ∷ o) = complete f i s (reserved q res.RightParen ∷ o) d (omega arith)
      (record { sig = record { wheres = record { ty = refl; and_ = refl }; none = refl }; none = refl; bracket = refl }) in
      record { k = suc (length o); left = omega arith; is = rw (e, h) refl }
  reaches {f} (of_applied_to_decs {i} {o} {ds} p q (module_id r x) d) le st b =
      let e = decs-no_str q d in
      let h : self.decs f i ≡ read ds (reserved q res.RightParen ∷ o) = complete_decs f i ds (reserved q res.RightParen ∷ o) d (omega arith) (bracket-word q o) in
      record { k = suc (length o); left = omega arith; is = rw (e, h) refl }
  reaches {f} (of_let_str {i} {m} {o} {ds} {s} p q r d sd) le st b =
      let h : self.decs f i ≡ read ds (reserved q res.In ∷ m) = complete_decs f i ds (reserved q res.In ∷ m) d (omega arith) (in-word q m) in
      let g : self.str (after_decs f ds) m ≡ read s (reserved r res.End ∷ o) = complete (after_decs f ds) m s (reserved r res.End ∷ o) sd (omega arith)
      (record { sig = record { wheres = record { ty = refl; and_ = refl }; none = refl }; none = refl; bracket = refl }) in
      record { k = suc (length o); left = omega arith; is = rw (h, g) refl }

  pub str-from-complete : {f : Fixity} {i o : List Terminal} {s : StrExp} → ReadsStr f i s o → depth_str s ≤ suc n → StrStops o → str_from self n f i ≡ read s o
  str-from-complete {f} {i} {o} {s} d le st = let r = reaches d le st.sig st.bracket in go r.k r.left r.is
    where
      go : (k : ℕ) → length o < k → str_from self n f i ≡ many (seal_suffix n) k s o → str_from self n f i ≡ read s o
      go zero lt e = absurd (omega arith)
      go (suc k) lt e = let c = st.none in e ∙ many-last (seal_suffix n) k (rw c refl)

-- Declarations.
module _ (n : ℕ) (self : StrReader) (complete : CompleteStr n self) where
  binds-turns : {f : Fixity} {i o : List Terminal} {bs : StrBinds} → ReadsStrBinds f i bs o → depth_str_binds bs ≤ n → StrStops o → after_word res.And o ≡ None
      → (k : ℕ) → length i < k → many (str_bind_turn n self f) k no_state i ≡ read bs o
  binds-turns d le st c zero lt = absurd (omega arith)
  binds-turns {f} (of_last_str {o} (of_str_bind {i} {m} {x} {g} {s} p (module_id q y) gd sd)) le st c (suc k) lt =
      let u = maybe-sig-complete n p gd (omega arith) in
      let h : self f m ≡ read s o = complete f m s o sd (omega arith) st in
      many-last (str_bind_turn n self f) k (rw (u, h, c) refl)
  binds-turns {f} (of_str_and {m = j} {o} {bs} r (of_str_bind {i} {m} {x} {g} {s} p (module_id q y) gd sd) more) le st c (suc k) lt =
      let u = maybe-sig-complete n p gd (omega arith) in
      let e = binds-and more in
      let h : self f m ≡ read s (reserved r res.And ∷ j) = complete f m s (reserved r res.And ∷ j) sd (omega arith)
      (record { sig = record { wheres = record { ty = refl; and_ = e }; none = refl }; none = refl; bracket = refl }) in
      let l = str-bind-shorter (of_str_bind p (module_id q y) gd sd) in
      let z : many (str_bind_turn n self f) k no_state j ≡ read bs o = binds-turns more (omega arith) st c k (omega arith) in
      many-more (str_bind_turn n self f) k {put = str_and (str_bind (record { place = q; it = y }) g s)} (rw (u, h) refl) z

  module _ (inner : StrDecsReader)
      (complete_inner : (f : Fixity) (i : List Terminal) (ds : StrDecs) (o : List Terminal) → ReadsStrDecs f i ds o → depth_str_decs ds < n → DecsEnd o → inner f i ≡ read ds o) where
    core-complete : {f : Fixity} {i o : List Terminal} {d : Dec} → Declare f i d o → depth_dec d ≤ n → DecStops f o → str_dec_by n self inner f i ≡ read (core_dec d) o
    core-complete {f} (of_val {i} {m} {o} {as_} {bs} p da s d) le st =
        let g : read_tyvars i ≡ read as_ m = facts.tyvars-complete da (binds-tyvars d) in let at = facts.place-found s in
        let h : read_binds n (readers n).exp f m ≡ read bs o = binds-complete n (readers n).exp (exp-complete n) d le st.quiet.plain st.quiet.and_ (suc (length m)) (omega arith) in
        rw (g, at, h) refl
    core-complete {f} (of_fun {i} {m} {o} {as_} {fs} p da s d) le st =
        let g : read_tyvars i ≡ read as_ m = facts.tyvars-complete da (funs-tyvars d) in let at = facts.place-found s in
        let h : read_funs n (readers n).exp f m ≡ read fs o = funs-complete n (readers n).exp (exp-complete n) d le st.quiet.plain st.quiet.and_ (suc (length m)) (omega arith) in
        rw (g, at, h) refl
    core-complete (of_type {i} {o} {bs} p d) le st = let h : read_type_binds n i ≡ read bs o = type_binds.type_binds-complete n d le st.binds in rw h refl
    core-complete {f} (of_datatype {i} {o} {bs} p d) le st =
        let g = data-not_replicated d in
        let h : read_data_binds n f i ≡ read bs o = data_binds.data_binds-complete n f d le st.binds in
        let w = st.quiet.withtype in
        rw (g, h, w) refl
    core-complete {f} (of_withtype {i} {m} {o} {bs} {cs} p r d d2) le st =
        let g = data-not_replicated d in
        let h : read_data_binds n f i ≡ read bs (reserved r res.Withtype ∷ m) = data_binds.data_binds-complete n f d (omega arith) refl in
        let z : read_type_binds n m ≡ read cs o = type_binds.type_binds-complete n d2 (omega arith) st.binds in
        rw (g, h, z) refl
    core-complete (of_replication {t} {u} {o} p q r tc lc) le st =
        let g = tycon-found tc (reserved q res.Equals ∷ reserved r res.Datatype ∷ u ∷ o) in
        let h = long_tycon-found lc o in
        rw (g, h) refl
    core-complete {f} (of_exception {i} {o} {bs} p d) le st = let h : read_ex_binds n f i ≡ read bs o = ex_binds.ex_binds-complete n f d le st.binds in rw h refl
    core-complete {f} (of_local {i} {m} {o} {ds} {es} p q r d d2) le st =
        let a = lift-depth ds in let b = lift-depth es in
        let g : inner f i ≡ read (lift_decs ds) (reserved q res.In ∷ m) = complete_inner f i (lift_decs ds) (reserved q res.In ∷ m) (lift-reads d) (omega arith) (in-word q m) in
        let c : after_decs f (lift_decs ds) ≡ after f ds = ap (λ z. z ++ f) (lift-added ds) in
        let h : inner (after f ds) m ≡ read (lift_decs es) (reserved r res.End ∷ o) =
        complete_inner (after f ds) m (lift_decs es) (reserved r res.End ∷ o) (lift-reads d2) (omega arith) (end-word r o) in
        let u = lift-core ds in let v = lift-core es in let w = lift-back ds in let x = lift-back es in
        rw (g, c, h, u, v, w, x) refl
    core-complete {f} (of_open {i} {o} {xs} p d) le st = let h : read_strids i ≡ read xs o = facts.strids-complete d st.quiet.strid in rw h refl
    core-complete {f} (of_infix {i} {m} {o} {d = x} {xs} p dn d) le st =
        let h : read_vids m ≡ read xs o = facts.vids-complete d st.quiet.vid in
        let e = facts.precedence-complete (infix_directive p false) dn (facts.vids-no_digit d) in
        rw (e, h) refl
    core-complete {f} (of_infixr {i} {m} {o} {d = x} {xs} p dn d) le st =
        let h : read_vids m ≡ read xs o = facts.vids-complete d st.quiet.vid in
        let e = facts.precedence-complete (infix_directive p true) dn (facts.vids-no_digit d) in
        rw (e, h) refl
    core-complete {f} (of_nonfix {i} {o} {xs} p d) le st = let h : read_vids i ≡ read xs o = facts.vids-complete d st.quiet.vid in rw h refl

    pub str-dec-complete : {f : Fixity} {i o : List Terminal} {d : StrDec} → ReadsStrDec f i d o → depth_str_dec d ≤ n → DecStops f o → str_dec_by n self inner f i ≡ read d o
    str-dec-complete (of_core_dec d) le st = core-complete d le st
    str-dec-complete {f} (of_structure {i} {o} {bs} p d) le st =
        let h : read_str_binds n self f i ≡ read bs o = binds-turns d le st.str st.quiet.and_ (suc (length i)) (omega arith) in rw h refl
    str-dec-complete {f} (of_local_str {i} {m} {o} {ds} {es} p q r d d2 e) le st =
        let g : inner f i ≡ read ds (reserved q res.In ∷ m) = complete_inner f i ds (reserved q res.In ∷ m) d (omega arith) (in-word q m) in
        let h : inner (after_decs f ds) m ≡ read es (reserved r res.End ∷ o) = complete_inner (after_decs f ds) m es (reserved r res.End ∷ o) d2 (omega arith) (end-word r o) in
        rw (g, h, e) refl

    decs-turns : {f : Fixity} {i o : List Terminal} {ds : StrDecs} → ReadsStrDecs f i ds o → depth_str_decs ds ≤ n → DecsEnd o → (k : ℕ) → length i < k
        → many (str_dec_turn n self inner) k f i ≡ read ds o
    decs-turns d le en zero lt = absurd (omega arith)
    decs-turns (no_more_decs {o}) le en (suc k) lt = let a = en.semicolon in let b = en.none in many-last (str_dec_turn n self inner) k (rw (a, b) refl)
    decs-turns {f} (dec_semicolon {i} {o} {ds} p d) le en (suc k) lt =
        let z : many (str_dec_turn n self inner) k f i ≡ read ds o = decs-turns d le en k (omega arith) in
        many-more (str_dec_turn n self inner) k {put = λ xs. xs} refl z
    decs-turns {f} (of_str_dec {i} {m} {o} {d} {ds} dd more) le en (suc k) lt =
        let h : str_dec_by n self inner f i ≡ read d m = str-dec-complete dd (omega arith) (calm-stops f m (decs-calm more en.calm)) in
        let b = dec-begins dd in
        let b0 = b.semicolon in let b1 = b.dec in
        let r = str-dec-shorter dd in
        let z : many (str_dec_turn n self inner) k (after_str_dec f d) m ≡ read ds o = decs-turns more (omega arith) en k (omega arith) in
        many-more (str_dec_turn n self inner) k {put = str_dec d} (rw (b0, b1, h) refl) z

    pub str-decs-complete : CompleteStrDecs n (str_decs_from n self inner)
    str-decs-complete f i ds o d le en = decs-turns d le en (suc (length i)) (omega arith)

depth-pos : (s : StrExp) → 0 < depth_str s
depth-pos (struct_end p ds) = omega arith
depth-pos (str_id x) = omega arith
depth-pos (constrained s k g) = omega arith
depth-pos (applied x s) = omega arith
depth-pos (applied_to_decs x ds) = omega arith
depth-pos (let_str p ds s) = omega arith

pub record CompleteReaders (n : ℕ) : Type 0 where
  pub str : CompleteStr n (str_readers n).str
  pub decs : CompleteStrDecs n (str_readers n).decs

str-none : CompleteStr 0 (λ f i. deep_if (begins_str (str_start i)))
str-none f i s o d le st = let h = depth-pos s in absurd (omega arith)

readers-zero : CompleteReaders 0
unfolding str_readers
readers-zero = record {
  str = str-none;
  decs = str-decs-complete 0 (λ f i. deep_if (begins_str (str_start i))) str-none (λ f i. deep) (λ f i ds o d lt en. absurd (omega arith));
}

readers-suc : (n : ℕ) → CompleteReaders n → CompleteReaders (suc n)
unfolding str_readers
readers-suc n a =
    let e : CompleteStr (suc n) (str_readers (suc n)).str = λ f i s o d le st. str-from-complete n (str_readers n) a.str a.decs d le st in
    record {
      str = e;
      decs = str-decs-complete (suc n) (str_readers (suc n)).str e (str_readers n).decs (λ f i ds o d lt en. a.decs f i ds o d (omega arith) en);
    }

pub readers-complete : (n : ℕ) → CompleteReaders n
readers-complete zero = readers-zero
readers-complete (suc n) = readers-suc n (readers-complete n)
