-- Facts about readings of expressions and declarations alone.
use Rattle.std.proofs.Common.{◌≡◌, ℕ, suc, ◌≤◌, ◌<◌, List, ◌∷◌, length, Option, Some, None, Bool, false, refl, ap, ◌∙◌, arith}
use Rattle.std.proofs.lemmas.Bool.{lt-leb}
use Rattle.sml_tree.specs.Terminal.{Terminal}
use Rattle.sml_tree.specs.declared.ident.Vid.{Vid}
use Rattle.sml_tree.specs.declared.ident.Vid.TheVariants.{Named}
use Rattle.sml_tree.specs.declared.fixity.Infix.{Infix}
use Rattle.sml_tree.specs.Fixity.{Fixity, fix_of}
use Rattle.sml_tree.specs.ReadTree.{Joint, Exp, constant_exp, vid_exp, record_exp, selector, unit_exp, tuple_exp, list_exp, sequence, paren_exp, let_in, app, chain, typed, handle, raise, if_then, while, case, fn, Exps, ExpFields, Parts, last_part, part, Rules, last_rule, rule, Decs, Dec, Binds, Funs, Clauses}
use Rattle.sml_tree.specs.Depth.{depth}
use Rattle.sml_tree.specs.Levels.{infix_level, joint_level, joint_right, parts_level, level, tie, at_least, could_go_on, goes_on, parts_go_on, rules_go_on, begins_bar}
use Rattle.sml_tree.specs.Grammar.{IsJoint, is_andalso, is_orelse, is_infix, is_infix_equals, Atom, of_constant, of_vid, of_equals, of_no_row, of_row, of_selector, of_unit, of_tuple, of_nil, of_list, of_sequence, of_paren, of_let, ExpRow, last_exp_row, more_exp_row, Commas, last_exp, more_exps, Semicolons, last_of_sequence, more_of_sequence, Atoms, no_atoms, more_atoms, Reads, of_atom, of_app, of_chain, of_typed, of_handle, of_raise, of_if, of_while, of_case, of_fn, Follows, of_last_part, of_part, Match, of_last_rule, of_rule, Declares, nothing_more, of_semicolon, of_dec, Declare, of_val, of_fun, of_type, of_datatype, of_withtype, of_replication, of_exception, of_local, of_open, of_infix, of_infixr, of_nonfix, ReadsBinds, of_last_bind, of_bind, of_rec, ReadsFuns, of_last_fun, of_fun_and, ReadsClauses, of_last_clause, of_clause}
use Rattle.sml_grammar.specs.Terminals.{tail}
use Rattle.sml_grammar.specs.Types.{ty_could_go_on}
use Rattle.sml_grammar.specs.Expressions.{begins_atom, joint, next_of}
use Rattle.sml_grammar.proofs.Answers.{both_false}
use Rattle.sml_grammar.proofs.Vids.{names-shorter}
use Rattle.sml_grammar.proofs.ExpLevels.{joint-tie, joint-next, joint-no_atom, stops-more, level-gap, level-pos}
use Rattle.sml_grammar.proofs.CompFacts as facts

-- A phrase has terminals.
mutual
  pub atom-shorter : {f : Fixity} {i o : List Terminal} {e : Exp} → Atom f i e o → length o < length i
  atom-shorter (of_constant c) = omega arith
  atom-shorter (of_vid v) = names-shorter v
  atom-shorter (of_equals p e) = omega arith
  atom-shorter (of_no_row p q) = omega arith
  atom-shorter (of_row p q d) = let h = row-shorter d in omega arith
  atom-shorter (of_selector p l) = omega arith
  atom-shorter (of_unit p q) = omega arith
  atom-shorter (of_tuple p q r d ds) = let h = shorter d in let k = commas-shorter ds in omega arith
  atom-shorter (of_nil p q) = omega arith
  atom-shorter (of_list p q ds) = let k = commas-shorter ds in omega arith
  atom-shorter (of_sequence p q r d ds) = let h = shorter d in let k = semicolons-shorter ds in omega arith
  atom-shorter (of_paren p q d) = let h = shorter d in omega arith
  atom-shorter (of_let p q r dd ds) = let h = decs-shorter dd in let k = semicolons-shorter ds in omega arith

  pub row-shorter : {f : Fixity} {i o : List Terminal} {fs : ExpFields} → ExpRow f i fs o → length o < length i
  row-shorter (last_exp_row p l d) = let h = shorter d in omega arith
  row-shorter (more_exp_row p q l d ds) = let h = shorter d in let k = row-shorter ds in omega arith

  pub commas-shorter : {f : Fixity} {i o : List Terminal} {es : Exps} → Commas f i es o → length o < length i
  commas-shorter (last_exp d) = shorter d
  commas-shorter (more_exps p d ds) = let h = shorter d in let k = commas-shorter ds in omega arith

  pub semicolons-shorter : {f : Fixity} {i o : List Terminal} {es : Exps} → Semicolons f i es o → length o < length i
  semicolons-shorter (last_of_sequence d) = shorter d
  semicolons-shorter (more_of_sequence p d ds) = let h = shorter d in let k = semicolons-shorter ds in omega arith

  pub atoms-shorter : {f : Fixity} {i o : List Terminal} {es : Exps} → Atoms f i es o → length o ≤ length i
  atoms-shorter no_atoms = omega arith
  atoms-shorter (more_atoms a as_) = let h = atom-shorter a in let k = atoms-shorter as_ in omega arith

  pub shorter : {f : Fixity} {i o : List Terminal} {e : Exp} → Reads f i e o → length o < length i
  shorter (of_atom a) = atom-shorter a
  shorter (of_app a b as_) = let h = atom-shorter a in let k = atom-shorter b in let j = atoms-shorter as_ in omega arith
  shorter (of_chain l r lt e d fs) = let h = shorter d in let k = follows-shorter fs in omega arith
  shorter (of_typed p five e d t) = let h = shorter d in let k = facts.ty-shorter t in omega arith
  shorter (of_handle p e d m) = let h = shorter d in let k = match-shorter m in omega arith
  shorter (of_raise p d) = let h = shorter d in omega arith
  shorter (of_if p q r a b c) = let h = shorter a in let k = shorter b in let j = shorter c in omega arith
  shorter (of_while p q a b) = let h = shorter a in let k = shorter b in omega arith
  shorter (of_case p q d m) = let h = shorter d in let k = match-shorter m in omega arith
  shorter (of_fn p m) = let k = match-shorter m in omega arith

  pub follows-shorter : {f : Fixity} {l : ℕ} {r : Bool} {i o : List Terminal} {ps : Parts} → Follows f l r i ps o → length o < length i
  follows-shorter (of_last_part fit lt d) = let h = shorter d in omega arith
  follows-shorter (of_part fit lt e d fs) = let h = shorter d in let k = follows-shorter fs in omega arith

  pub match-shorter : {f : Fixity} {i o : List Terminal} {rs : Rules} → Match f i rs o → length o < length i
  match-shorter (of_last_rule p a d) = let g = facts.pat-shorter a in let h = shorter d in omega arith
  match-shorter (of_rule p q a e d m) = let g = facts.pat-shorter a in let h = shorter d in let k = match-shorter m in omega arith

  pub decs-shorter : {f : Fixity} {i o : List Terminal} {ds : Decs} → Declares f i ds o → length o ≤ length i
  decs-shorter nothing_more = omega arith
  decs-shorter (of_semicolon p d) = let h = decs-shorter d in omega arith
  decs-shorter (of_dec d ds) = let h = dec-shorter d in let k = decs-shorter ds in omega arith

  pub dec-shorter : {f : Fixity} {i o : List Terminal} {d : Dec} → Declare f i d o → length o < length i
  dec-shorter (of_val p as_ s d) = let g = facts.tyvars-shorter as_ in let h = binds-shorter d in omega arith
  dec-shorter (of_fun p as_ s d) = let g = facts.tyvars-shorter as_ in let h = funs-shorter d in omega arith
  dec-shorter (of_type p d) = let h = facts.type_binds-shorter d in omega arith
  dec-shorter (of_datatype p d) = let h = facts.data_binds-shorter d in omega arith
  dec-shorter (of_withtype p q d e) = let h = facts.data_binds-shorter d in let k = facts.type_binds-shorter e in omega arith
  dec-shorter (of_replication p q r t c) = omega arith
  dec-shorter (of_exception p d) = let h = facts.ex_binds-shorter d in omega arith
  dec-shorter (of_local p q r d e) = let h = decs-shorter d in let k = decs-shorter e in omega arith
  dec-shorter (of_open p d) = let h = facts.strids-shorter d in omega arith
  dec-shorter (of_infix p n d) = let g = facts.precedence-shorter n in let h = facts.vids-shorter d in omega arith
  dec-shorter (of_infixr p n d) = let g = facts.precedence-shorter n in let h = facts.vids-shorter d in omega arith
  dec-shorter (of_nonfix p d) = let h = facts.vids-shorter d in omega arith

  pub binds-shorter : {f : Fixity} {i o : List Terminal} {bs : Binds} → ReadsBinds f i bs o → length o < length i
  binds-shorter (of_last_bind p a d) = let g = facts.pat-shorter a in let h = shorter d in omega arith
  binds-shorter (of_bind p q a d b) = let g = facts.pat-shorter a in let h = shorter d in let k = binds-shorter b in omega arith
  binds-shorter (of_rec p b) = let k = binds-shorter b in omega arith

  pub funs-shorter : {f : Fixity} {i o : List Terminal} {fs : Funs} → ReadsFuns f i fs o → length o < length i
  funs-shorter (of_last_fun v n c) = clauses-shorter c
  funs-shorter (of_fun_and v n p c d) = let h = clauses-shorter c in let k = funs-shorter d in omega arith

  pub clauses-shorter : {f : Fixity} {v : Vid} {n : ℕ} {i o : List Terminal} {cs : Clauses} → ReadsClauses f v n i cs o → length o < length i
  clauses-shorter (of_last_clause p h a b t d) = let g = facts.head-shorter h in let k = facts.maybe-shorter t in let j = shorter d in omega arith
  clauses-shorter (of_clause p q h a b t e d c) = let g = facts.head-shorter h in let k = facts.maybe-shorter t in let j = shorter d in let l = clauses-shorter c in omega arith

pub depth-pos : (e : Exp) → 0 < depth e
depth-pos (constant_exp p c) = omega arith
depth-pos (vid_exp p x) = omega arith
depth-pos (record_exp p fs) = omega arith
depth-pos (selector p l) = omega arith
depth-pos (unit_exp p) = omega arith
depth-pos (tuple_exp p es) = omega arith
depth-pos (list_exp p es) = omega arith
depth-pos (sequence p es) = omega arith
depth-pos (paren_exp p e) = omega arith
depth-pos (let_in p ds es) = omega arith
depth-pos (app e a es) = omega arith
depth-pos (chain r e ps) = omega arith
depth-pos (typed e t) = omega arith
depth-pos (handle e rs) = omega arith
depth-pos (raise p e) = omega arith
depth-pos (if_then p a b c) = omega arith
depth-pos (while p a b) = omega arith
depth-pos (case p e rs) = omega arith
depth-pos (fn p rs) = omega arith

-- where neither an expression nor a match goes on, nothing does
mutual
  pub dead : (f : Fixity) (e : Exp) (i : List Terminal) → could_go_on f 0 i ≡ false → begins_bar i ≡ false → goes_on f e i ≡ false
  dead f (chain r a ps) i c d = dead-parts f ps i c d
  dead f (handle e rs) i c d = both_false (begins_bar i) (rules_go_on f rs i) d (dead-rules f rs i c d)
  dead f (raise p e) i c d = both_false (could_go_on f 0 i) (goes_on f e i) c (dead f e i c d)
  dead f (if_then p a b e) i c d = both_false (could_go_on f 0 i) (goes_on f e i) c (dead f e i c d)
  dead f (while p a e) i c d = both_false (could_go_on f 0 i) (goes_on f e i) c (dead f e i c d)
  dead f (case p e rs) i c d = both_false (begins_bar i) (rules_go_on f rs i) d (dead-rules f rs i c d)
  dead f (fn p rs) i c d = both_false (begins_bar i) (rules_go_on f rs i) d (dead-rules f rs i c d)
  dead f (constant_exp p x) i c d = refl
  dead f (vid_exp p x) i c d = refl
  dead f (record_exp p x) i c d = refl
  dead f (selector p x) i c d = refl
  dead f (unit_exp p) i c d = refl
  dead f (tuple_exp p x) i c d = refl
  dead f (list_exp p x) i c d = refl
  dead f (sequence p x) i c d = refl
  dead f (paren_exp p x) i c d = refl
  dead f (let_in p x y) i c d = refl
  dead f (app x y z) i c d = refl
  dead f (typed x y) i c d = refl

  pub dead-parts : (f : Fixity) (ps : Parts) (i : List Terminal) → could_go_on f 0 i ≡ false → begins_bar i ≡ false → parts_go_on f ps i ≡ false
  dead-parts f (last_part j e) i c d = both_false (could_go_on f (suc (joint_level f j)) i) (goes_on f e i) (stops-more f 0 (suc (joint_level f j)) i (omega arith) c) (dead f e i c d)
  dead-parts f (part j e ps) i c d = dead-parts f ps i c d

  pub dead-rules : (f : Fixity) (rs : Rules) (i : List Terminal) → could_go_on f 0 i ≡ false → begins_bar i ≡ false → rules_go_on f rs i ≡ false
  dead-rules f (last_rule p e) i c d = both_false (could_go_on f 0 i) (goes_on f e i) c (dead f e i c d)
  dead-rules f (rule p e rs) i c d = dead-rules f rs i c d

abbrev pub first_joint : Parts → Joint
first_joint (last_part j e) = j
first_joint (part j e ps) = j

-- what a chain's further operands begin with
pub record ChainHead (f : Fixity) (l : ℕ) (r : Bool) (i : List Terminal) (ps : Parts) : Type 0 where
  pub next : next_of f i ≡ joint (first_joint ps) (tail i)
  pub ties : tie f i ≡ Some l
  pub level : joint_level f (first_joint ps) ≡ l
  pub right : joint_right f (first_joint ps) ≡ r
  pub atom : begins_atom f i ≡ false
  pub parts : parts_level f ps ≡ l
  pub size : length i ≤ suc (length (tail i))

pub chain-head : {f : Fixity} {l : ℕ} {r : Bool} {i o : List Terminal} {ps : Parts} → Follows f l r i ps o → ChainHead f l r i ps
chain-head (of_last_part {m} fit lt d) = record { next = joint-next m fit.is; ties = joint-tie m fit.is ∙ ap Some fit.level; level = fit.level; right = fit.right; atom = joint-no_atom m fit.is; parts = fit.level; size = omega arith }
chain-head (of_part {m} fit lt e d fs) = record { next = joint-next m fit.is; ties = joint-tie m fit.is ∙ ap Some fit.level; level = fit.level; right = fit.right; atom = joint-no_atom m fit.is; parts = fit.level; size = omega arith }

-- Where a type is at the right edge of an operand, a joint after it isn't infix, so that the type does not go on.
pub joint-no_ty : {f : Fixity} {t : Terminal} {j : Joint} (m : List Terminal) → IsJoint f t j → joint_level f j ≤ 5 → ty_could_go_on 0 (t ∷ m) ≡ false
joint-no_ty m (is_andalso p) le = refl
joint-no_ty m (is_orelse p) le = refl
joint-no_ty {f} m (is_infix {x} v e) le = absurd (high (fix_of (Named x) f) le)
  where
    high : (d : Option Infix) → infix_level d ≤ 5 → ⊥
    high None h = omega arith
    high (Some d) h = omega arith
joint-no_ty m (is_infix_equals p e) le = refl

pub chain-no_ty : {f : Fixity} {l : ℕ} {r : Bool} {i o : List Terminal} {ps : Parts} → Follows f l r i ps o → l ≤ 5 → ty_could_go_on 0 i ≡ false
chain-no_ty (of_last_part {m} fit lt d) le = let lv = fit.level in joint-no_ty m fit.is (omega arith)
chain-no_ty (of_part {m} fit lt e d fs) le = let lv = fit.level in joint-no_ty m fit.is (omega arith)

-- a chain could go on at its own level
abbrev pub chain_goes_on : Fixity → Exp → List Terminal → Bool
chain_goes_on f (chain r a ps) i = could_go_on f (parts_level f ps) i
chain_goes_on f _ i = false

pub chain-stops : (f : Fixity) (t : Exp) (i : List Terminal) → could_go_on f (level f t) i ≡ false → chain_goes_on f t i ≡ false
chain-stops f (chain r a ps) i h = h
chain-stops f _ i h = refl

-- before `:` and `handle`
pub chain-mark : (f : Fixity) (t : Exp) (i : List Terminal) → 5 ≤ level f t → tie f i ≡ Some 5 → chain_goes_on f t i ≡ false
chain-mark f (chain r a (last_part j e)) i le h = let g = level-gap f j le in ap (at_least (joint_level f j)) h ∙ lt-leb (joint_level f j) 5 (omega arith)
chain-mark f (chain r a (part j e ps)) i le h = let g = level-gap f j le in ap (at_least (joint_level f j)) h ∙ lt-leb (joint_level f j) 5 (omega arith)
chain-mark f _ i le h = refl

pub chain-handler : (f : Fixity) (t : Exp) (i : List Terminal) → tie f i ≡ Some 0 → chain_goes_on f t i ≡ false
chain-handler f (chain r a (last_part j e)) i h = let g = level-pos f j in ap (at_least (joint_level f j)) h ∙ lt-leb (joint_level f j) 0 (omega arith)
chain-handler f (chain r a (part j e ps)) i h = let g = level-pos f j in ap (at_least (joint_level f j)) h ∙ lt-leb (joint_level f j) 0 (omega arith)
chain-handler f _ i h = refl

-- before a joint of a lower level
pub chain-joint : (f : Fixity) (t : Exp) (i : List Terminal) (l : ℕ) → l < level f t → tie f i ≡ Some l → chain_goes_on f t i ≡ false
chain-joint f t i l lt h = chain-stops f t i (ap (at_least (level f t)) h ∙ lt-leb (level f t) l lt)
