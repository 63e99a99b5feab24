-- What partial trees begin with.
use Rattle.std.proofs.Common.{◌≡◌, ℕ, List, ◌∷◌, None, true, ◌&&◌, refl, arith, nat_le}
use Rattle.std.proofs.lemmas.Bool.{le-leb}
use Rattle.mlc_names.specs.declared.token.Reserved.TheVariants as res
use Rattle.sml_tree.specs.declared.ident.Tyvar.{Tyvar}
use Rattle.sml_tree.specs.Terminal.{Terminal, reserved, IsTycon, alpha_tycon, symbol_tycon}
use Rattle.sml_tree.specs.Fixity.{Fixity}
use Rattle.sml_tree.specs.ReadTree.{Exps}
use Rattle.sml_tree.specs.Grammar.{Tyvars, no_tyvars, one_tyvar, tyvars_in_brackets, Atoms, no_atoms, more_atoms}
use Rattle.sml_grammar.specs.Terminals.{after_word}
use Rattle.sml_grammar.specs.PartialBindings.{OpensCons, in_con, past_con, OpensDataBinds, in_data_bind, past_data_bind}
use Rattle.sml_grammar.specs.Expressions.{begins_atom, begins, start_of, other_start, is_keyword, dec_start, is_dec_start, replicated}
use Rattle.sml_grammar.specs.Partial.{Opens, begun, in_atom, applied_to, in_argument, joined, in_chain, marked, in_typed, handled, in_handler, in_raise, in_condition, in_then, in_else, in_while, in_do, in_subject, in_case, in_fn, OpensAtom, begun_atom, in_row, in_paren, in_tuple, in_sequence, in_list, in_decs, in_body, OpensRow, in_field, past_field, OpensCommas, in_comma, past_comma, OpensDecs, past_empty, in_dec, past_dec, OpensDec, in_val, in_fun, in_type, in_datatype, in_withtype, in_exception, begun_local, in_local, in_local_body}
use Rattle.sml_grammar.proofs.Terminals.{not-word, label-word}
use Rattle.sml_grammar.proofs.CompFacts.{quiet}
use Rattle.sml_grammar.proofs.CompQuiet.{dec-quiet, begins_atom-found, begins-found, atom-begins, begins-start, true-or, reads-begins}
use Rattle.sml_grammar.proofs.CompHeads.{binds-no_datatype, bind-not_replicated}

pub opens_atom-begins : {f : Fixity} {i : List Terminal} {d : ℕ} → OpensAtom f i d → begins_atom f i ≡ true
opens_atom-begins (begun_atom b) = begins_atom-found b
opens_atom-begins (in_row p o) = refl
opens_atom-begins (in_paren p o) = refl
opens_atom-begins (in_tuple p q d o) = refl
opens_atom-begins (in_sequence p q d o) = refl
opens_atom-begins (in_list p o) = refl
opens_atom-begins (in_decs p o) = refl
opens_atom-begins (in_body p q d o) = refl

pub opens_atom-start : {f : Fixity} {i : List Terminal} {d : ℕ} → OpensAtom f i d → start_of i ≡ other_start
opens_atom-start {f} {i} o = begins-start f i (opens_atom-begins o)

pub opens-begins : {f : Fixity} {l : ℕ} {i : List Terminal} {d : ℕ} → Opens f l i d → begins f l i ≡ true
opens-begins (begun b) = begins-found b
opens-begins {f} {l} {i} (in_atom o) = true-or (begins_atom f i) (nat_le l 4 && is_keyword (start_of i)) (opens_atom-begins o)
opens-begins {f} {l} {i} (applied_to a b h) = true-or (begins_atom f i) (nat_le l 4 && is_keyword (start_of i)) (atom-begins a)
opens-begins {f} {l} {i} (in_argument a bs o) = true-or (begins_atom f i) (nat_le l 4 && is_keyword (start_of i)) (atom-begins a)
opens-begins {l} (joined low lt e d fit h) = reads-begins l d (omega arith)
opens-begins {l} (in_chain low lt e d o) = reads-begins l d (omega arith)
opens-begins {l} (marked p low five e d h) = reads-begins l d (omega arith)
opens-begins {l} (in_typed p low five e d o) = reads-begins l d (omega arith)
opens-begins {l} (handled p low e d h) = reads-begins l d (omega arith)
opens-begins {l} (in_handler p low e d o) = reads-begins l d (omega arith)
opens-begins {l} (in_raise p low o) = let c = le-leb l 4 low in rw c refl
opens-begins {l} (in_condition p low o) = let c = le-leb l 4 low in rw c refl
opens-begins {l} (in_then p q low d o) = let c = le-leb l 4 low in rw c refl
opens-begins {l} (in_else p q r low d d2 o) = let c = le-leb l 4 low in rw c refl
opens-begins {l} (in_while p low o) = let c = le-leb l 4 low in rw c refl
opens-begins {l} (in_do p q low d o) = let c = le-leb l 4 low in rw c refl
opens-begins {l} (in_subject p low o) = let c = le-leb l 4 low in rw c refl
opens-begins {l} (in_case p q low d o) = let c = le-leb l 4 low in rw c refl
opens-begins {l} (in_fn p low o) = let c = le-leb l 4 low in rw c refl

pub opens_commas-begins : {f : Fixity} {i : List Terminal} {d : ℕ} → OpensCommas f i d → begins f 0 i ≡ true
opens_commas-begins (in_comma o) = opens-begins o
opens_commas-begins (past_comma q d o) = reads-begins 0 d (omega arith)

pub opens_row-no_brace : {f : Fixity} {i : List Terminal} {d : ℕ} → OpensRow f i d → after_word res.RightBrace i ≡ None
opens_row-no_brace (in_field {t} {i} p l o) = not-word res.RightBrace t (reserved p res.Equals ∷ i) (label-word l)
opens_row-no_brace (past_field {t} {i} p q l d o) = not-word res.RightBrace t (reserved p res.Equals ∷ i) (label-word l)

pub as-begins : {f : Fixity} {i m : List Terminal} {es : Exps} {d : ℕ} → Atoms f i es m → OpensAtom f m d → begins_atom f i ≡ true
as-begins no_atoms o = opens_atom-begins o
as-begins (more_atoms a as_) o = atom-begins a

-- a declaration's first word
pub record DecWord (i : List Terminal) : Type 0 where
  pub quiet : quiet i ≡ true
  pub semicolon : after_word res.Semicolon i ≡ None
  pub starts : is_dec_start (dec_start i) ≡ true

pub opens_dec-word : {f : Fixity} {i : List Terminal} {d : ℕ} → OpensDec f i d → DecWord i
opens_dec-word (in_val p h o) = record { quiet = refl; semicolon = refl; starts = refl }
opens_dec-word (in_fun p h o) = record { quiet = refl; semicolon = refl; starts = refl }
opens_dec-word (in_type p o) = record { quiet = refl; semicolon = refl; starts = refl }
opens_dec-word (in_datatype p o) = record { quiet = refl; semicolon = refl; starts = refl }
opens_dec-word (in_withtype p q d o) = record { quiet = refl; semicolon = refl; starts = refl }
opens_dec-word (in_exception p o) = record { quiet = refl; semicolon = refl; starts = refl }
opens_dec-word (begun_local p) = record { quiet = refl; semicolon = refl; starts = refl }
opens_dec-word (in_local p o) = record { quiet = refl; semicolon = refl; starts = refl }
opens_dec-word (in_local_body p q d o) = record { quiet = refl; semicolon = refl; starts = refl }

pub opens_decs-quiet : {f : Fixity} {i : List Terminal} {d : ℕ} → OpensDecs f i d → quiet i ≡ true
opens_decs-quiet (past_empty p o) = refl
opens_decs-quiet (in_dec o) = (opens_dec-word o).quiet
opens_decs-quiet (past_dec d o) = dec-quiet d

cons-no_datatype : {f : Fixity} {i : List Terminal} {d : ℕ} → OpensCons f i d → after_word res.Datatype i ≡ None
cons-no_datatype (in_con q v o) = binds-no_datatype v
cons-no_datatype (past_con q v s o) = binds-no_datatype v

-- a datatype that is bound, at least up to its constructors, isn't replicated
pub opens_data-not_replicated : {f : Fixity} {i : List Terminal} {d : ℕ} → OpensDataBinds f i d → replicated i ≡ None
opens_data-not_replicated (in_data_bind {m} r as_ tycon cons) = go as_ tycon (cons-no_datatype cons)
  where
    go : {i : List Terminal} {t : Terminal} {ys : List Tyvar} {q x : ℕ} → Tyvars i ys (t ∷ reserved r res.Equals ∷ m) → IsTycon t q x → after_word res.Datatype m ≡ None → replicated i ≡ None
    go no_tyvars (alpha_tycon p x) h = rw h refl
    go no_tyvars (symbol_tycon p x) h = rw h refl
    go (one_tyvar p a) c h = refl
    go (tyvars_in_brackets p d) c h = refl
opens_data-not_replicated (past_data_bind p d o) = bind-not_replicated d
