-- A tree has a partial tree of each depth up to its own.
use Rattle.std.proofs.Common.{◌≡◌, ℕ, zero, suc, ◌≤◌, ◌<◌, List, Option, Bool, false, inl, inr, subst, arith, max}
use Rattle.sml_tree.specs.Terminal.{Terminal}
use Rattle.sml_tree.specs.declared.ident.Vid.{Vid}
use Rattle.sml_tree.specs.Fixity.{Fixity}
use Rattle.sml_tree.specs.ReadTree.{Ty, Head, head_vid, head_count, Exp, Exps, no_exps, exp, ExpFields, Parts, Rules, Decs, Dec, Binds, Funs, Clauses}
use Rattle.sml_tree.specs.Depth.{depth_ty, depth_some, depth_pat, depth_head, depth_type_binds, depth_data_binds, depth, depth_exps, depth_exp_fields, depth_parts, depth_rules, depth_decs, depth_dec, depth_binds, depth_funs, depth_clauses}
use Rattle.sml_tree.specs.Levels.{level, goes_on}
use Rattle.sml_tree.specs.Grammar.{MaybeTy, without_ty, with_ty, ReadsHead, Atom, of_constant, of_vid, of_equals, of_no_row, of_row, of_selector, of_unit, of_tuple, of_nil, of_list, of_sequence, of_paren, of_let, ExpRow, last_exp_row, more_exp_row, Commas, last_exp, more_exps, Semicolons, last_of_sequence, more_of_sequence, Atoms, no_atoms, more_atoms, Reads, of_atom, of_app, of_chain, of_typed, of_handle, of_raise, of_if, of_while, of_case, of_fn, Follows, of_last_part, of_part, Match, of_last_rule, of_rule, Declares, nothing_more, of_semicolon, of_dec, Declare, of_val, of_fun, of_type, of_datatype, of_withtype, of_replication, of_exception, of_local, of_open, of_infix, of_infixr, of_nonfix, ReadsBinds, of_last_bind, of_bind, of_rec, ReadsFuns, of_last_fun, of_fun_and, ReadsClauses, of_last_clause, of_clause}
use Rattle.sml_grammar.specs.Partial.{Opens, begun, in_atom, applied_to, in_argument, joined, in_chain, marked, in_typed, handled, in_handler, in_raise, in_condition, in_then, in_else, in_while, in_do, in_subject, in_case, in_fn, OpensAtom, begun_atom, in_row, in_paren, in_tuple, in_sequence, in_list, in_decs, in_body, OpensRow, in_field, past_field, OpensCommas, in_comma, past_comma, OpensSemicolons, in_semicolon, past_semicolon, OpensPart, in_part, past_part, OpensMatch, in_rule_pat, in_rule, past_rule, OpensDecs, past_empty, in_dec, past_dec, OpensDec, in_val, in_fun, in_type, in_datatype, in_withtype, in_exception, begun_local, in_local, in_local_body, OpensBinds, past_rec, in_bind_pat, in_bind, past_bind, OpensFuns, in_clauses, past_clauses, OpensClauses, in_head, in_result, in_clause, past_clause}
use Rattle.sml_grammar.proofs.Answers.{le_max}
use Rattle.sml_grammar.proofs.CompFacts as facts
use Rattle.sml_grammar.proofs.CompShapes.{chain-head}
use Rattle.sml_grammar.proofs.ExpLevels.{begins_atom-is, begins-is}
use Rattle.sml_grammar.proofs.CompQuiet.{atom-begins, reads-begins}
use Rattle.sml_grammar.proofs.CompHeads.{binds-tyvars, funs-tyvars}

-- arguments before the one that is cut off
pub record FarArgs (f : Fixity) (i : List Terminal) (k : ℕ) : Type 0 where
  pub args : Exps
  pub rest : List Terminal
  pub reads : Atoms f i args rest
  pub opens : OpensAtom f rest k

-- the type after a head
result-opens : {f : Fixity} {v : Vid} {c : ℕ} {i m o : List Terminal} {h : Head} {t : Option Ty} → ReadsHead f i h m → head_vid h ≡ v → head_count h ≡ c → MaybeTy m t o → (k : ℕ) → 0 < k → k ≤ depth_some t → OpensClauses f v c i k
result-opens dh a b without_ty k pos le = absurd (omega arith)
result-opens dh a b (with_ty p d) k pos le = in_result p dh a b (facts.ty-opens d k pos le)

mutual
  pub atom-opens : {f : Fixity} {i o : List Terminal} {e : Exp} → Atom f i e o → (k : ℕ) → 0 < k → k ≤ depth e → OpensAtom f i k
  atom-opens a zero pos le = absurd (omega arith)
  atom-opens a (suc zero) pos le = begun_atom (begins_atom-is (atom-begins a))
  atom-opens (of_constant c) (suc (suc k)) pos le = absurd (omega arith)
  atom-opens (of_vid v) (suc (suc k)) pos le = absurd (omega arith)
  atom-opens (of_equals p e) (suc (suc k)) pos le = absurd (omega arith)
  atom-opens (of_no_row p q) (suc (suc k)) pos le = absurd (omega arith)
  atom-opens (of_row p q d) (suc (suc k)) pos le = in_row p (row-opens d (suc k) (omega arith) (omega arith))
  atom-opens (of_selector p l) (suc (suc k)) pos le = absurd (omega arith)
  atom-opens (of_unit p q) (suc (suc k)) pos le = absurd (omega arith)
  atom-opens (of_tuple {e} {es} p q r d ds) (suc (suc k)) pos le =
      elim (le_max (suc k) (depth e) (depth_exps es) (omega arith)) [
        | inl h ↦ in_paren p (reads-opens 0 d (omega arith) (suc k) (omega arith) h)
        | inr h ↦ in_tuple p q d (commas-opens ds (suc k) (omega arith) h)
      ]
  atom-opens (of_nil p q) (suc (suc k)) pos le = absurd (omega arith)
  atom-opens (of_list p q ds) (suc (suc k)) pos le = in_list p (commas-opens ds (suc k) (omega arith) (omega arith))
  atom-opens (of_sequence {e} {es} p q r d ds) (suc (suc k)) pos le =
      elim (le_max (suc k) (depth e) (depth_exps es) (omega arith)) [
        | inl h ↦ in_paren p (reads-opens 0 d (omega arith) (suc k) (omega arith) h)
        | inr h ↦ in_sequence p q d (semicolons-opens ds (suc k) (omega arith) h)
      ]
  atom-opens (of_paren p q d) (suc (suc k)) pos le = in_paren p (reads-opens 0 d (omega arith) (suc k) (omega arith) (omega arith))
  atom-opens (of_let {ds} {es} p q r dd d) (suc (suc k)) pos le =
      elim (le_max (suc k) (depth_decs ds) (depth_exps es) (omega arith)) [
        | inl h ↦ in_decs p (decs-opens dd (suc k) (omega arith) h)
        | inr h ↦ in_body p q dd (semicolons-opens d (suc k) (omega arith) h)
      ]

  row-opens : {f : Fixity} {i o : List Terminal} {fs : ExpFields} → ExpRow f i fs o → (k : ℕ) → 0 < k → k ≤ depth_exp_fields fs → OpensRow f i k
  row-opens (last_exp_row p is d) k pos le = in_field p is (reads-opens 0 d (omega arith) k pos (omega arith))
  row-opens (more_exp_row {e} {fs} p q is d ds) k pos le =
      elim (le_max k (depth e) (depth_exp_fields fs) le) [
        | inl h ↦ in_field p is (reads-opens 0 d (omega arith) k pos h)
        | inr h ↦ past_field p q is d (row-opens ds k pos h)
      ]

  commas-opens : {f : Fixity} {i o : List Terminal} {es : Exps} → Commas f i es o → (k : ℕ) → 0 < k → k ≤ depth_exps es → OpensCommas f i k
  commas-opens (last_exp d) k pos le = in_comma (reads-opens 0 d (omega arith) k pos (omega arith))
  commas-opens (more_exps {e} {es} p d ds) k pos le =
      elim (le_max k (depth e) (depth_exps es) le) [
        | inl h ↦ in_comma (reads-opens 0 d (omega arith) k pos h)
        | inr h ↦ past_comma p d (commas-opens ds k pos h)
      ]

  semicolons-opens : {f : Fixity} {i o : List Terminal} {es : Exps} → Semicolons f i es o → (k : ℕ) → 0 < k → k ≤ depth_exps es → OpensSemicolons f i k
  semicolons-opens (last_of_sequence d) k pos le = in_semicolon (reads-opens 0 d (omega arith) k pos (omega arith))
  semicolons-opens (more_of_sequence {e} {es} p d ds) k pos le =
      elim (le_max k (depth e) (depth_exps es) le) [
        | inl h ↦ in_semicolon (reads-opens 0 d (omega arith) k pos h)
        | inr h ↦ past_semicolon p d (semicolons-opens ds k pos h)
      ]

  pub atoms-opens : {f : Fixity} {i o : List Terminal} {es : Exps} → Atoms f i es o → (k : ℕ) → 0 < k → k ≤ depth_exps es → FarArgs f i k
  atoms-opens no_atoms k pos le = absurd (omega arith)
  atoms-opens {i} (more_atoms {e} {es} a as_) k pos le =
      elim (le_max k (depth e) (depth_exps es) le) [
        | inl h ↦ record { args = no_exps; rest = i; reads = no_atoms; opens = atom-opens a k pos h }
        | inr h ↦ let r = atoms-opens as_ k pos h in record { args = exp e r.args; rest = r.rest; reads = more_atoms a r.reads; opens = r.opens }
      ]

  pub reads-opens : {f : Fixity} {i o : List Terminal} {t : Exp} (l : ℕ) → Reads f i t o → l ≤ level f t → (k : ℕ) → 0 < k → k ≤ depth t → Opens f l i k
  reads-opens l d high zero pos le = absurd (omega arith)
  reads-opens l d high (suc zero) pos le = begun (begins-is (reads-begins l d high))
  reads-opens l (of_atom d) high (suc (suc k)) pos le = in_atom (atom-opens d (suc (suc k)) pos le)
  reads-opens l (of_app {e} {a} {es} d da ds) high (suc (suc k)) pos le =
      elim (le_max (suc k) (depth e) (max (depth a) (depth_exps es)) (omega arith)) [
        | inl p ↦ applied_to d (begins_atom-is (atom-begins da)) p
        | inr p ↦ elim (le_max (suc k) (depth a) (depth_exps es) p) [
          | inl q ↦ in_argument d no_atoms (atom-opens da (suc k) (omega arith) q)
          | inr q ↦ let r = atoms-opens ds (suc k) (omega arith) q in in_argument d (more_atoms da r.reads) r.opens
        ]
      ]
  reads-opens {f} l (of_chain {a} {ps} l' r lt e d fs) high (suc (suc k)) pos le =
      let low : l ≤ l' = subst (λ (z : ℕ). l ≤ z) (chain-head fs).parts high in
      elim (le_max (suc k) (depth a) (depth_parts ps) (omega arith)) [
        | inl p ↦ joined-opens low lt e d fs p
        | inr p ↦ in_chain low lt e d (follows-opens fs (suc k) (omega arith) p)
      ]
  reads-opens l (of_typed {e} {s} p five en d ds) high (suc (suc k)) pos le =
      elim (le_max (suc k) (depth e) (depth_ty s) (omega arith)) [
        | inl h ↦ marked p high five en d h
        | inr h ↦ in_typed p high five en d (facts.ty-opens ds (suc k) (omega arith) h)
      ]
  reads-opens l (of_handle {e} {rs} p en d dm) high (suc (suc k)) pos le =
      elim (le_max (suc k) (depth e) (depth_rules rs) (omega arith)) [
        | inl h ↦ handled p high en d h
        | inr h ↦ in_handler p high en d (match-opens dm (suc k) (omega arith) h)
      ]
  reads-opens l (of_raise p d) high (suc (suc k)) pos le = in_raise p high (reads-opens 0 d (omega arith) (suc k) (omega arith) (omega arith))
  reads-opens l (of_if {a} {b} {c} p q r da db dc) high (suc (suc k)) pos le =
      elim (le_max (suc k) (depth a) (max (depth b) (depth c)) (omega arith)) [
        | inl h ↦ in_condition p high (reads-opens 0 da (omega arith) (suc k) (omega arith) h)
        | inr h ↦ elim (le_max (suc k) (depth b) (depth c) h) [
          | inl g ↦ in_then p q high da (reads-opens 0 db (omega arith) (suc k) (omega arith) g)
          | inr g ↦ in_else p q r high da db (reads-opens 0 dc (omega arith) (suc k) (omega arith) g)
        ]
      ]
  reads-opens l (of_while {a} {b} p q da db) high (suc (suc k)) pos le =
      elim (le_max (suc k) (depth a) (depth b) (omega arith)) [
        | inl h ↦ in_while p high (reads-opens 0 da (omega arith) (suc k) (omega arith) h)
        | inr h ↦ in_do p q high da (reads-opens 0 db (omega arith) (suc k) (omega arith) h)
      ]
  reads-opens l (of_case {e} {rs} p q d dm) high (suc (suc k)) pos le =
      elim (le_max (suc k) (depth e) (depth_rules rs) (omega arith)) [
        | inl h ↦ in_subject p high (reads-opens 0 d (omega arith) (suc k) (omega arith) h)
        | inr h ↦ in_case p q high d (match-opens dm (suc k) (omega arith) h)
      ]
  reads-opens l (of_fn p dm) high (suc (suc k)) pos le = in_fn p high (match-opens dm (suc k) (omega arith) (omega arith))

  joined-opens : {f : Fixity} {l l' : ℕ} {r : Bool} {i m o : List Terminal} {a : Exp} {ps : Parts} {k : ℕ} → l ≤ l' → l' < level f a → goes_on f a m ≡ false → Reads f i a m → Follows f l' r m ps o → k ≤ depth a → Opens f l i (suc k)
  joined-opens low lt e d (of_last_part fit h b) p = joined low lt e d fit p
  joined-opens low lt e d (of_part fit h en b fs) p = joined low lt e d fit p

  pub follows-opens : {f : Fixity} {l : ℕ} {r : Bool} {i o : List Terminal} {ps : Parts} → Follows f l r i ps o → (k : ℕ) → 0 < k → k ≤ depth_parts ps → OpensPart f l r i k
  follows-opens {l} (of_last_part fit h d) k pos le = in_part fit (reads-opens (suc l) d h k pos le)
  follows-opens {l} (of_part {b} {ps} fit h en d fs) k pos le =
      elim (le_max k (depth b) (depth_parts ps) le) [
        | inl p ↦ in_part fit (reads-opens (suc l) d h k pos p)
        | inr p ↦ past_part fit h en d (follows-opens fs k pos p)
      ]

  pub match-opens : {f : Fixity} {i o : List Terminal} {rs : Rules} → Match f i rs o → (k : ℕ) → 0 < k → k ≤ depth_rules rs → OpensMatch f i k
  match-opens (of_last_rule {a} {e} p da d) k pos le =
      elim (le_max k (depth_pat a) (depth e) le) [
        | inl h ↦ in_rule_pat (facts.pat-opens da k pos h)
        | inr h ↦ in_rule p da (reads-opens 0 d (omega arith) k pos h)
      ]
  match-opens (of_rule {a} {e} {rs} p q da en d dm) k pos le =
      elim (le_max k (max (depth_pat a) (depth e)) (depth_rules rs) le) [
        | inl h ↦ elim (le_max k (depth_pat a) (depth e) h) [
          | inl g ↦ in_rule_pat (facts.pat-opens da k pos g)
          | inr g ↦ in_rule p da (reads-opens 0 d (omega arith) k pos g)
        ]
        | inr h ↦ past_rule p q da en d (match-opens dm k pos h)
      ]

  pub decs-opens : {f : Fixity} {i o : List Terminal} {ds : Decs} → Declares f i ds o → (k : ℕ) → 0 < k → k ≤ depth_decs ds → OpensDecs f i k
  decs-opens nothing_more k pos le = absurd (omega arith)
  decs-opens (of_semicolon p d) k pos le = past_empty p (decs-opens d k pos le)
  decs-opens (of_dec {d} {ds} dd dds) k pos le =
      elim (le_max k (depth_dec d) (depth_decs ds) le) [
        | inl h ↦ in_dec (dec-opens dd k pos h)
        | inr h ↦ past_dec dd (decs-opens dds k pos h)
      ]

  pub dec-opens : {f : Fixity} {i o : List Terminal} {d : Dec} → Declare f i d o → (k : ℕ) → 0 < k → k ≤ depth_dec d → OpensDec f i k
  dec-opens (of_val p as_ s d) k pos le = in_val p (facts.tyvars-here (facts.tyvars-complete as_ (binds-tyvars d))) (binds-opens d k pos le)
  dec-opens (of_fun p as_ s d) k pos le = in_fun p (facts.tyvars-here (facts.tyvars-complete as_ (funs-tyvars d))) (funs-opens d k pos le)
  dec-opens (of_type p d) k pos le = in_type p (facts.type_binds-opens d k pos le)
  dec-opens (of_datatype p d) k pos le = in_datatype p (facts.data_binds-opens d k pos le)
  dec-opens (of_withtype {bs} {cs} p q d e) k pos le =
      elim (le_max k (depth_data_binds bs) (depth_type_binds cs) le) [
        | inl h ↦ in_datatype p (facts.data_binds-opens d k pos h)
        | inr h ↦ in_withtype p q d (facts.type_binds-opens e k pos h)
      ]
  dec-opens (of_replication p q r t c) k pos le = absurd (omega arith)
  dec-opens (of_exception p d) k pos le = in_exception p (facts.ex_binds-opens d k pos le)
  dec-opens (of_local p q r d e) zero pos le = absurd (omega arith)
  dec-opens (of_local p q r d e) (suc zero) pos le = begun_local p
  dec-opens (of_local {ds} {es} p q r d e) (suc (suc k)) pos le =
      elim (le_max (suc k) (depth_decs ds) (depth_decs es) (omega arith)) [
        | inl h ↦ in_local p (decs-opens d (suc k) (omega arith) h)
        | inr h ↦ in_local_body p q d (decs-opens e (suc k) (omega arith) h)
      ]
  dec-opens (of_open p d) k pos le = absurd (omega arith)
  dec-opens (of_infix p n d) k pos le = absurd (omega arith)
  dec-opens (of_infixr p n d) k pos le = absurd (omega arith)
  dec-opens (of_nonfix p d) k pos le = absurd (omega arith)

  binds-opens : {f : Fixity} {i o : List Terminal} {bs : Binds} → ReadsBinds f i bs o → (k : ℕ) → 0 < k → k ≤ depth_binds bs → OpensBinds f i k
  binds-opens (of_last_bind {a} {e} p da d) k pos le =
      elim (le_max k (depth_pat a) (depth e) le) [
        | inl h ↦ in_bind_pat (facts.pat-opens da k pos h)
        | inr h ↦ in_bind p da (reads-opens 0 d (omega arith) k pos h)
      ]
  binds-opens (of_bind {a} {e} {bs} p q da d db) k pos le =
      elim (le_max k (max (depth_pat a) (depth e)) (depth_binds bs) le) [
        | inl h ↦ elim (le_max k (depth_pat a) (depth e) h) [
          | inl g ↦ in_bind_pat (facts.pat-opens da k pos g)
          | inr g ↦ in_bind p da (reads-opens 0 d (omega arith) k pos g)
        ]
        | inr h ↦ past_bind p q da d (binds-opens db k pos h)
      ]
  binds-opens (of_rec p db) k pos le = past_rec p (binds-opens db k pos le)

  funs-opens : {f : Fixity} {i o : List Terminal} {fs : Funs} → ReadsFuns f i fs o → (k : ℕ) → 0 < k → k ≤ depth_funs fs → OpensFuns f i k
  funs-opens (of_last_fun v c d) k pos le = in_clauses v c (clauses-opens d k pos le)
  funs-opens (of_fun_and {cs} {fs} v c p d ds) k pos le =
      elim (le_max k (depth_clauses cs) (depth_funs fs) le) [
        | inl h ↦ in_clauses v c (clauses-opens d k pos h)
        | inr h ↦ past_clauses v c p d (funs-opens ds k pos h)
      ]

  pub clauses-opens : {f : Fixity} {v : Vid} {c : ℕ} {i o : List Terminal} {cs : Clauses} → ReadsClauses f v c i cs o → (k : ℕ) → 0 < k → k ≤ depth_clauses cs → OpensClauses f v c i k
  clauses-opens (of_last_clause {h} {s = t} {e} p dh a b dt d) k pos le =
      elim (le_max k (max (depth_head h) (depth_some t)) (depth e) le) [
        | inl x ↦ elim (le_max k (depth_head h) (depth_some t) x) [
          | inl y ↦ in_head (facts.head-opens dh k pos y)
          | inr y ↦ result-opens dh a b dt k pos y
        ]
        | inr x ↦ in_clause p dh a b dt (reads-opens 0 d (omega arith) k pos x)
      ]
  clauses-opens (of_clause {h} {s = t} {e} {cs} p q dh a b dt en d dc) k pos le =
      elim (le_max k (max (max (depth_head h) (depth_some t)) (depth e)) (depth_clauses cs) le) [
        | inl z ↦ elim (le_max k (max (depth_head h) (depth_some t)) (depth e) z) [
          | inl x ↦ elim (le_max k (depth_head h) (depth_some t) x) [
            | inl y ↦ in_head (facts.head-opens dh k pos y)
            | inr y ↦ result-opens dh a b dt k pos y
          ]
          | inr x ↦ in_clause p dh a b dt (reads-opens 0 d (omega arith) k pos x)
        ]
        | inr z ↦ past_clause p q dh a b dt en d (clauses-opens dc k pos z)
      ]
